-- A part of a list, turned by one.
use Rattle.std.proofs.Common.{◌≡◌, ◌∙◌, ap, sym, ℕ, ◌+◌, ◌-◌, ◌<◌, ◌≤◌, List, ◌++◌, length, take, drop, arith, append_assoc, length-append, length-drop}
use borrow.Rule.Slice.PartMut.{mid_of, put_mid}
use Rattle.std.proofs.lemmas.List.{drop-drop, drop-take, take-take, length-take-le}

module _ {X : Type 0} where
  turned_by_one : (xs : List X) (at k : ℕ) → 1 ≤ k → take at xs ++ ((drop 1 (take k (drop at xs)) ++ take 1 (take k (drop at xs))) ++ drop k (drop at xs)) ≡ take at xs ++ (drop (at + 1) (take (at + k) xs) ++ (take 1 (drop at xs) ++ drop (at + k) xs))
  turned_by_one xs at k le =
      let one : take 1 (take k (drop at xs)) ≡ take 1 (drop at xs) = take-take 1 k (drop at xs) le in
      let rest : drop k (drop at xs) ≡ drop (at + k) xs = drop-drop k at xs in
      let middle : drop 1 (take k (drop at xs)) ≡ drop (at + 1) (take (at + k) xs) = ap (drop 1) (sym (drop-take at k xs)) ∙ drop-drop 1 at (take (at + k) xs) in
      ap (λ l. take at xs ++ l) (append_assoc (drop 1 (take k (drop at xs))) (take 1 (take k (drop at xs))) (drop k (drop at xs)) ∙ ap (λ l. drop 1 (take k (drop at xs)) ++ (l ++ drop k (drop at xs))) one ∙ ap (λ l. drop 1 (take k (drop at xs)) ++ (take 1 (drop at xs) ++ l)) rest ∙ ap (λ l. l ++ (take 1 (drop at xs) ++ drop (at + k) xs)) middle)

  pub rotated : (xs zs ys : List X) (at len : ℕ) → zs ≡ xs → at < len → len ≤ length xs → ys ≡ drop 1 (mid_of at (len - at) zs) ++ take 1 (mid_of at (len - at) zs) → put_mid at (len - at) zs ys ≡ take at xs ++ (drop (at + 1) (take len xs) ++ (take 1 (drop at xs) ++ drop len xs))
  rotated xs zs ys at len same lt le turned =
      ap (λ l. take at zs ++ (l ++ drop (len - at) (drop at zs))) turned
      ∙ ap (λ l. take at l ++ ((drop 1 (take (len - at) (drop at l)) ++ take 1 (take (len - at) (drop at l))) ++ drop (len - at) (drop at l))) same
      ∙ turned_by_one xs at (len - at) (omega arith)
      ∙ ap (λ n. take at xs ++ (drop (at + 1) (take n xs) ++ (take 1 (drop at xs) ++ drop n xs))) {x = at + (len - at)} (omega arith)

  pub length_rotated : (xs zs ys : List X) (at len : ℕ) → zs ≡ xs → at < len → len ≤ length xs → length ys ≡ length (mid_of at (len - at) zs) → length (put_mid at (len - at) zs ys) ≡ length xs
  length_rotated xs zs ys at len same lt le long =
      let whole : length (take at xs ++ (take (len - at) (drop at xs) ++ drop (len - at) (drop at xs))) ≡ length xs = simp (length-append, length-drop) (omega (arith, length-take-le at xs (omega arith), length-take-le (len - at) (drop at xs) (omega (arith, length-drop at xs)))) in
      let same_length : length (put_mid at (len - at) zs ys) ≡ length (take at zs ++ (take (len - at) (drop at zs) ++ drop (len - at) (drop at zs))) = simp length-append (omega (arith, long)) in
      same_length ∙ ap (λ l. length (take at l ++ (take (len - at) (drop at l) ++ drop (len - at) (drop at l)))) same ∙ whole
