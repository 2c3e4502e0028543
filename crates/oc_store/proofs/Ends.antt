-- The last entry of a list in chunks, and what may stand behind it.
use Rattle.std.proofs.Common.{◌≡◌, ◌∙◌, ap, sym, refl, subst, ℕ, zero, suc, ◌-◌, ◌≤◌, List, [], ◌∷◌, ◌++◌, length, get_or, map, Option, Some, None, arith, append_assoc, append-nil}
use Rattle.std.specs.Prelude.{slice_get, flat_map, IfSome, IfNone}
use Rattle.std.specs.Cmp.{IsTotalOrder}
use Rattle.std.specs.Option.{option_copied}
use Rattle.std.specs.declared.cmp.Ordering.{Ordering}
use Rattle.std.specs.declared.cmp.Ordering.TheVariants.{Less}
use Rattle.std.proofs.lemmas.List.Concat.{flat_map-append}
use denote.Ref.{Bor}
use Rattle.oc_chunks.specs.declared.opening.Written.{Written}
use Rattle.oc_chunks.specs.Ascending.{Each, IsAscending}
use Rattle.oc_chunks.specs.Chunks.{Chunk, IsSizedChunk, joined}
use Rattle.oc_chunks.specs.Opening.{chunk_read, IsList}
use Rattle.oc_chunks.proofs.Eaches.{each_rest, pairs_across}
use Rattle.oc_chunks.proofs.Opened.{above_last, below_first, follow}

-- the last element and those before it
pub split_last : {X : Type 0} (xs : List X) (x : X) → Some x ≡ slice_get xs (length xs - 1) → (front : List X) × (xs ≡ front ++ x ∷ [])
split_last [] x e = cc
split_last (y ∷ []) x e = ([], cc)
split_last (y ∷ z ∷ xs) x e =
    let later : length (y ∷ z ∷ xs) - 1 ≡ suc (length (z ∷ xs) - 1) = omega arith in
    let r = split_last (z ∷ xs) x (e ∙ ap (slice_get (y ∷ z ∷ xs)) later) in
    (y ∷ r.0, ap (λ l. y ∷ l) r.1)

pub no_last : {X : Type 0} (xs : List X) → None ≡ slice_get xs (length xs - 1) → xs ≡ []
no_last [] e = refl
no_last (y ∷ []) e = cc
no_last (y ∷ z ∷ xs) e =
    let later : length (y ∷ z ∷ xs) - 1 ≡ suc (length (z ∷ xs) - 1) = omega arith in
    let r : z ∷ xs ≡ [] = no_last (z ∷ xs) (e ∙ ap (slice_get (y ∷ z ∷ xs)) later) in
    cc

module _ {X : Type 0} where
  pub mapped : (us : List (Written X)) (w : Written X) → map chunk_read (us ++ w ∷ []) ≡ map chunk_read us ++ chunk_read w ∷ []
  mapped [] w = refl
  mapped (u ∷ us) w = ap (λ l. chunk_read u ∷ l) (mapped us w)

  -- the entries of chunks with one more
  pub joined_more : (us : List (Written X)) (w : Written X) → joined (map chunk_read (us ++ w ∷ [])) ≡ joined (map chunk_read us) ++ w.entries.items
  joined_more us w =
      ap joined (mapped us w) ∙ flat_map-append (λ c. c.entries) (map chunk_read us) (chunk_read w ∷ []) ∙ ap (λ l. joined (map chunk_read us) ++ l) (append-nil w.entries.items)

  pub last_joined : (cs : List (Written X)) (w : Written X) (es : List X) (o : Option (Bor X)) → Some w ≡ slice_get cs (length cs - 1) → es ≡ w.entries.items → option_copied o ≡ slice_get es (length es - 1)
      → IfSome o (λ e. (front : List X) × (joined (map chunk_read cs) ≡ front ++ e.now ∷ []))
  last_joined cs w es None last is e = tt
  last_joined cs w es (Some b) last is e =
      let c = split_last cs w last in
      let f = split_last es b.now e in (
        joined (map chunk_read c.0) ++ f.0,
        ap (λ l. joined (map chunk_read l)) c.1 ∙ joined_more c.0 w ∙ ap (λ l. joined (map chunk_read c.0) ++ l) (sym is ∙ f.1) ∙ sym (append_assoc (joined (map chunk_read c.0)) f.0 (b.now ∷ [])),
      )

  pub none_joined : (cmp : X → X → Ordering) (cs : List (Written X)) (w : Written X) (es : List X) (o : Option (Bor X)) → IsList cmp (map chunk_read cs) → Some w ≡ slice_get cs (length cs - 1) → es ≡ w.entries.items → option_copied o ≡ slice_get es (length es - 1)
      → IfNone o (joined (map chunk_read cs) ≡ [])
  none_joined cmp cs w es (Some b) list last is e = tt
  none_joined cmp cs w es None list last is e =
      let c = split_last cs w last in
      let own : IsSizedChunk (chunk_read w) = (each_rest IsSizedChunk (map chunk_read c.0) (chunk_read w ∷ []) (subst (Each IsSizedChunk) (ap (map chunk_read) c.1 ∙ mapped c.0 w) list.sized)).0 in
      let empty : es ≡ [] = no_last es e in
      absurd (omega (arith, own.some, ap length is, ap length empty))

  module _ (cmp : X → X → Ordering) (o : IsTotalOrder cmp) (before front es : List X) (last first : X) (is : before ≡ front ++ last ∷ []) (some : 1 ≤ length es) (first_is : first ≡ get_or es 0 first) where
    pub stands_above : IsAscending cmp before → IsAscending cmp es → cmp last first ≡ Less → IsAscending cmp (before ++ es)
    stands_above a b below =
        follow cmp o before es first some first_is a b (subst (Each (λ e. cmp e first ≡ Less)) (sym is) (above_last cmp o front last first (subst (IsAscending cmp) is a) below))

    pub last_is_below : IsAscending cmp (before ++ es) → cmp last first ≡ Less
    last_is_below a =
        (each_rest (λ e. cmp e first ≡ Less) front (last ∷ []) (subst (Each (λ e. cmp e first ≡ Less)) is (below_first cmp before es first some first_is a))).0
