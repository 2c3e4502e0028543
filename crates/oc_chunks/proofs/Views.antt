-- The list that pieces make.
use Rattle.std.proofs.Common.{◌≡◌, ◌∙◌, ap, sym, refl, subst, inl, inr, ℕ, zero, suc, max, List, [], ◌∷◌, ◌++◌, take, flat_map, arith, append-nil}
use Rattle.std.proofs.lemmas.List.Concat.{flat_map-append}
use Rattle.oc_model.specs.Lists.{IsOneOf}
use Rattle.oc_chunks.specs.declared.piece.Piece.{Piece}
use Rattle.oc_chunks.specs.Ascending.{Each}
use Rattle.oc_chunks.specs.Chunks.{Chunk, joined, some_of}
use Rattle.oc_chunks.specs.Pieces.{present, shown, chunk_now, chunks_now}
use Rattle.oc_chunks.proofs.Eaches.{each_append, each_front, each_rest, each_more}

-- each is one of themselves
pub each_member : {Y : Type 0} (xs : List Y) → Each (λ x. IsOneOf x xs) xs
each_member [] = tt
each_member (x ∷ xs) = (inl refl, each_more (λ y. IsOneOf y xs) (λ y. IsOneOf y (x ∷ xs)) xs (λ y m. inr m) (each_member xs))

pub member_front : {Y : Type 0} (y : Y) (xs ys : List Y) → IsOneOf y xs → IsOneOf y (xs ++ ys)
member_front y [] ys m = absurd m
member_front y (x ∷ xs) ys (inl e) = inl e
member_front y (x ∷ xs) ys (inr m) = inr (member_front y xs ys m)

pub member_rest : {Y : Type 0} (y : Y) (xs ys : List Y) → IsOneOf y ys → IsOneOf y (xs ++ ys)
member_rest y [] ys m = m
member_rest y (x ∷ xs) ys m = inr (member_rest y xs ys m)

module _ {X : Type 0} where
  -- the entries of pieces
  abbrev pub entries_of : List (Piece X) → List X
  entries_of = flat_map (λ p. present p.part)

  pub joined_some : (es : List X) (c : Chunk X) → c.entries ≡ es → joined (some_of es c) ≡ es
  joined_some [] c is = refl
  joined_some (e ∷ es) c is = append-nil c.entries ∙ is

  pub joined_one : (p : Piece X) → joined (chunks_now p) ≡ present p.part
  joined_one p = joined_some (present p.part) (chunk_now p.part) refl

  pub joined_now : (ps : List (Piece X)) → joined (flat_map chunks_now ps) ≡ entries_of ps
  joined_now [] = refl
  joined_now (p ∷ ps) = flat_map-append (λ c. c.entries) (chunks_now p) (flat_map chunks_now ps) ∙ ap (λ l. l ++ joined (flat_map chunks_now ps)) (joined_one p) ∙ ap (λ l. present p.part ++ l) (joined_now ps)

  -- what holds of all that is shown holds of all that is there
  pub each_present : (P : X → Type 0) (p : Piece X) → Each P (shown p) → Each P (present p.part)
  each_present P p a = of_len p.part.len refl
    where
      of_len : (n : ℕ) → p.part.len ≡ n → Each P (present p.part)
      of_len zero is = subst (λ k. Each P (take k p.part.items.items)) (sym is) tt
      of_len (suc n) is = subst (λ k. Each P (take k p.part.items.items)) {x = max p.part.len 1} (omega arith) a

  pub each_entry : (P : X → Type 0) (ps : List (Piece X)) → Each P (flat_map shown ps) → Each P (entries_of ps)
  each_entry P [] a = tt
  each_entry P (p ∷ ps) a = each_append P (present p.part) (entries_of ps) (each_present P p (each_front P (shown p) (flat_map shown ps) a)) (each_entry P ps (each_rest P (shown p) (flat_map shown ps) a))
