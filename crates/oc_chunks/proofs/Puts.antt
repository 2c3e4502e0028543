-- Elements put into a list.
use Rattle.std.proofs.Common.{◌≡◌, ◌∙◌, ap, refl, ℕ, zero, suc, ◌+◌, ◌-◌, ◌<◌, ◌≤◌, List, [], ◌∷◌, ◌++◌, length, take, drop, get_or, arith, append_assoc, append-nil, length-append, length-drop}
use Rattle.std.specs.List.{insert}
use borrow.Rule.Slice.PartMut.{mid_of, put_mid}
use Rattle.std.proofs.lemmas.List.{take_rest, drop-append-le, take-append-le, drop_at, take_at, drop_all, take_more}
use Rattle.oc_chunks.specs.Editing.{put_in}

module _ {X : Type 0} where
  pub inserted : (xs : List X) (at len : ℕ) (x : X) → at ≤ len → len ≤ length xs → take (suc len) (insert xs at x) ≡ put_in at x (take len xs)
  inserted xs zero len x at_len len_all = refl
  inserted [] (suc at) len x at_len len_all = absurd (omega arith)
  inserted (y ∷ ys) (suc at) zero x at_len len_all = absurd (omega arith)
  inserted (y ∷ ys) (suc at) (suc len) x at_len len_all = ap (λ l. y ∷ l) (inserted ys at len x (omega arith) (omega arith))

  -- what stood at the end stands behind the place at
  pub turned_right : (ps ms zs ys : List X) (at : ℕ) (d : X) → at < length ps → zs ≡ ps ++ ms → ys ≡ drop (length (mid_of (at + 1) (length zs - (at + 1)) zs) - length ms) (mid_of (at + 1) (length zs - (at + 1)) zs) ++ take (length (mid_of (at + 1) (length zs - (at + 1)) zs) - length ms) (mid_of (at + 1) (length zs - (at + 1)) zs) → put_mid (at + 1) (length zs - (at + 1)) zs ys ≡ take at ps ++ get_or ps at d ∷ (ms ++ drop (at + 1) ps)
  turned_right ps ms zs ys at d lt is turned =
      let tail = drop (at + 1) ps in
      let whole : take (length zs - (at + 1)) (drop (at + 1) zs) ≡ tail ++ ms = take_rest zs (at + 1) ∙ ap (drop (at + 1)) is ∙ drop-append-le (at + 1) ps ms (omega arith) in
      let count : length (tail ++ ms) - length ms ≡ length tail = omega (arith, length-append tail ms) in
      let new : ys ≡ ms ++ tail =
      turned ∙ ap (λ m. drop (length m - length ms) m ++ take (length m - length ms) m) whole
      ∙ ap (λ k. drop k (tail ++ ms) ++ take k (tail ++ ms)) count
      ∙ ap (λ l. l ++ take (length tail) (tail ++ ms)) (drop_at tail ms (length tail) refl)
      ∙ ap (λ l. ms ++ l) (take_at tail ms (length tail) refl) in
      let none : drop (length zs - (at + 1)) (drop (at + 1) zs) ≡ [] = drop_all (length zs - (at + 1)) (drop (at + 1) zs) (omega (arith, length-drop (at + 1) zs)) in
      let front : take (at + 1) zs ≡ take at ps ++ get_or ps at d ∷ [] = ap (take (at + 1)) is ∙ take-append-le (at + 1) ps ms (omega arith) ∙ take_more ps at d lt in
      ap (λ l. take (at + 1) zs ++ (ys ++ l)) none
      ∙ ap (λ l. take (at + 1) zs ++ l) (append-nil ys ∙ new)
      ∙ ap (λ l. l ++ (ms ++ tail)) front
      ∙ append_assoc (take at ps) (get_or ps at d ∷ []) (ms ++ tail)
