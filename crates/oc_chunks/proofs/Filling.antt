-- An entry put among others.
use Rattle.std.proofs.Common.{◌≡◌, ◌∙◌, ap, ap₂, sym, refl, subst, ℕ, suc, ◌≤◌, true, max, nat_le, nat_lt, ◌||◌, ◌&&◌, List, [], ◌∷◌, ◌++◌, length, take, drop, flat_map, sum_by, None, arith, length-append, take-append-drop}
use Rattle.std.specs.declared.cmp.Ordering.{Ordering}
use Rattle.std.proofs.lemmas.Bool.Decides.{nat_tests}
use Rattle.std.proofs.lemmas.List.{take_all}
use Rattle.std.proofs.lemmas.List.Sums.{sum_by-append}
use Rattle.oc_chunks.specs.declared.piece.Part.{Part}
use Rattle.oc_chunks.specs.declared.piece.Piece.{Piece}
use Rattle.oc_chunks.specs.declared.piece.Was.{Was}
use Rattle.oc_chunks.specs.declared.piece.Was.TheVariants.{Itself, Nothing, Other}
use Rattle.oc_chunks.specs.Ascending.{Each}
use Rattle.oc_chunks.specs.Chunks.{Chunk, numbers, some_of, is_within, IsCut}
use Rattle.oc_chunks.specs.Pieces.{present, shown, chunk_now, chunks_now, chunks_then, was_chunks, IsSized, IsSizedPart, IsSizedWas}
use Rattle.oc_chunks.specs.Cutting.{IsMade, items_of}
use Rattle.oc_chunks.specs.Editing.{put_in, stands_in, was_behind}
use Rattle.oc_chunks.proofs.Eaches.{each_append}
use Rattle.oc_chunks.proofs.Views.{entries_of}

module _ {X : Type 0} where
  pub length-put_in : (at : ℕ) (x : X) (es : List X) → length (put_in at x es) ≡ suc (length es)
  length-put_in at x es = omega (arith, length-append (take at es) (x ∷ drop at es), length-append (take at es) (drop at es), ap length (take-append-drop at es))

  pub sum_put_in : (bytes : X → ℕ) (at : ℕ) (x : X) (es : List X) → sum_by bytes (put_in at x es) ≡ sum_by bytes (x ∷ es)
  sum_put_in bytes at x es = omega (arith, sum_by-append bytes (take at es) (x ∷ drop at es), sum_by-append bytes (x ∷ []) (drop at es), sum_by-append bytes (x ∷ []) es, sum_by-append bytes (take at es) (drop at es), ap (sum_by bytes) (take-append-drop at es))

  pub within_put_in : (bytes : X → ℕ) (most at : ℕ) (x : X) (es : List X) → is_within bytes most (put_in at x es) ≡ is_within bytes most (x ∷ es)
  within_put_in bytes most at x es =
      ap (λ n. nat_le n 1 || (nat_le n most && nat_le (sum_by bytes (put_in at x es)) 4096)) (length-put_in at x es) ∙ ap (λ s. nat_le (suc (length es)) 1 || (nat_le (suc (length es)) most && nat_le s 4096)) (sum_put_in bytes at x es)

  -- at most so many entries are within the bound
  pub few_within : (bytes : X → ℕ) (most : ℕ) (es : List X) → most ≤ 512 → is_within bytes most es ≡ true → length es ≤ 512
  few_within bytes most es le is = grind (arith, nat_tests, is)

  -- all items of new pieces are there
  pub made_present : (bytes : X → ℕ) (most : ℕ) (p : Piece X) → IsMade bytes most p → present p.part ≡ p.part.items.items
  made_present bytes most p m = take_all p.part.len p.part.items.items (omega (arith, m.whole))

  pub made_shown : (bytes : X → ℕ) (most : ℕ) (p : Piece X) → IsMade bytes most p → shown p ≡ p.part.items.items
  made_shown bytes most p m = take_all (max p.part.len 1) p.part.items.items (omega (arith, m.whole))

  pub made_entries : (bytes : X → ℕ) (most : ℕ) (ps : List (Piece X)) → Each (IsMade bytes most) ps → entries_of ps ≡ items_of ps
  made_entries bytes most [] m = refl
  made_entries bytes most (p ∷ ps) m = ap₂ (λ k l. k ++ l) (made_present bytes most p m.0) (made_entries bytes most ps m.1)

  pub made_seen : (bytes : X → ℕ) (most : ℕ) (ps : List (Piece X)) → Each (IsMade bytes most) ps → flat_map shown ps ≡ items_of ps
  made_seen bytes most [] m = refl
  made_seen bytes most (p ∷ ps) m = ap₂ (λ k l. k ++ l) (made_shown bytes most p m.0) (made_seen bytes most ps m.1)

  pub made_then : (cmp : X → X → Ordering) (bytes : X → ℕ) (most : ℕ) (ps : List (Piece X)) → Each (IsMade bytes most) ps → flat_map (chunks_then cmp) ps ≡ []
  made_then cmp bytes most [] m = refl
  made_then cmp bytes most (p ∷ ps) m = ap (λ w. was_chunks cmp p.part w ++ flat_map (chunks_then cmp) ps) m.0.was ∙ made_then cmp bytes most ps m.1

  some_numbers : (es : List X) (c : Chunk X) (cs : List (Chunk X)) → c.number ≡ None → numbers cs ≡ [] → numbers (some_of es c ++ cs) ≡ []
  some_numbers [] c cs is rest = rest
  some_numbers (e ∷ es) c cs is rest = rw is rest

  pub made_numbers : (bytes : X → ℕ) (most : ℕ) (ps : List (Piece X)) → Each (IsMade bytes most) ps → numbers (flat_map chunks_now ps) ≡ []
  made_numbers bytes most [] m = refl
  made_numbers bytes most (p ∷ ps) m = some_numbers (present p.part) (chunk_now p.part) (flat_map chunks_now ps) m.0.number (made_numbers bytes most ps m.1)

  pub each_some : (P : Chunk X → Type 0) (es : List X) (c : Chunk X) → P c → Each P (some_of es c)
  each_some P [] c it = tt
  each_some P (e ∷ es) c it = (it, tt)

  pub cut_chunk : (bytes : X → ℕ) (most : ℕ) (p : Part X) → p.changed ≡ true → is_within bytes most (present p) ≡ true → IsCut bytes most (chunk_now p)
  cut_chunk bytes most p changed within = record { changed = ap (λ b. b || nat_lt p.len (length p.items.items)) changed; within = within }

  pub made_cut : (bytes : X → ℕ) (most : ℕ) (ps : List (Piece X)) → Each (IsMade bytes most) ps → Each (IsCut bytes most) (flat_map chunks_now ps)
  made_cut bytes most [] m = tt
  made_cut bytes most (p ∷ ps) m = each_append (IsCut bytes most) (chunks_now p) (flat_map chunks_now ps) (each_some (IsCut bytes most) (present p.part) (chunk_now p.part) (cut_chunk bytes most p.part m.0.changed (ap (is_within bytes most) (made_present bytes most p m.0) ∙ m.0.within))) (made_cut bytes most ps m.1)

  pub made_part_sized : (bytes : X → ℕ) (most : ℕ) → most ≤ 512 → (p : Piece X) → IsMade bytes most p → IsSizedPart p.part
  made_part_sized bytes most le p m = record { within = omega (arith, m.whole); few = omega (arith, m.whole, few_within bytes most p.part.items.items le m.within) }

  pub made_sized : (bytes : X → ℕ) (most : ℕ) → most ≤ 512 → (ps : List (Piece X)) → Each (IsMade bytes most) ps → Each IsSized ps
  made_sized bytes most le [] m = tt
  made_sized bytes most le (p ∷ ps) m = (record { part = made_part_sized bytes most le p m.0; was = subst (IsSizedWas p.part) (sym m.0.was) m.0.changed }, made_sized bytes most le ps m.1)

  -- ---- a part in place of a piece's

  pub stood_was : (p q : Part X) (w : Was X) → IsSizedWas p w → q.changed ≡ true → IsSizedWas q (was_behind p w)
  stood_was p q Itself was changed = (was, changed)
  stood_was p q Nothing was changed = changed
  stood_was p q (Other old) was changed = (was.0, changed)

  pub stood_then : (cmp : X → X → Ordering) (p q : Part X) (w : Was X) → was_chunks cmp q (was_behind p w) ≡ was_chunks cmp p w
  stood_then cmp p q Itself = refl
  stood_then cmp p q Nothing = refl
  stood_then cmp p q (Other old) = refl

  pub stood_sized : (bytes : X → ℕ) (most : ℕ) → most ≤ 512 → (p m : Piece X) → IsSized p → IsMade bytes most m → IsSized (stands_in p m.part)
  stood_sized bytes most le p m s made =
      let sized = made_part_sized bytes most le m made in
      record { part = record { within = sized.within; few = sized.few }; was = stood_was p.part (stands_in p m.part).part p.was s.was made.changed }
