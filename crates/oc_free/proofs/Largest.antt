-- The largest part, and what all parts together have.
use Rattle.std.proofs.Common.{◌≡◌, ℕ, zero, suc, ◌+◌, ◌-◌, ◌<◌, ◌≤◌, List, length, take, sym, ap, subst, inl, inr, arith}
use Rattle.std.specs.List.{All, Any}
use Rattle.std.proofs.lemmas.Bool.{cases_lt}
use Rattle.std.proofs.lemmas.Bool.Decides.{nat_tests}
use Rattle.std.proofs.lemmas.List.{get_or_default}
use Rattle.std.proofs.lemmas.List.Sums.{sum_by_more}
use Rattle.oc_model.specs.Space.{Part}
use Rattle.oc_free.specs.FreeParts.{AreFree, all_blocks}
use Rattle.oc_free.specs.Orders.{no_part, part_at, is_part, AreOrdered}
use Rattle.oc_free.proofs.Edits.{found}
use Rattle.oc_free.proofs.Ordered.{is_same, in_sizes, in_addresses}

module _ (a s : List Part) (ordered : AreOrdered a s) where
  -- the last by size is the largest
  pub last_is_greatest : 0 < length s → All (λ p. p.blocks ≤ (part_at s (length s - 1)).blocks) a
  last_is_greatest some k d lt =
      let one = found (is_part (part_at a k)) s no_part (in_sizes a s ordered k lt) in
      let same = is_same (part_at a k) (part_at s one.0) one.2 in
      let blocks : (part_at a k).blocks ≤ (part_at s (length s - 1)).blocks = elim (cases_lt one.0 (length s - 1)) [
        | inl below ↦ grind (arith, nat_tests, same, ordered.ranked one.0 (length s - 1) no_part below (omega arith))
        | inr above ↦ let last : one.0 ≡ length s - 1 = omega (arith, one.1, above) in omega (arith, ap (λ (p : Part). p.blocks) same, ap (λ i. (part_at s i).blocks) last)
      ] in
      subst (λ p. p.blocks ≤ (part_at s (length s - 1)).blocks) (get_or_default a k no_part d lt) blocks

  pub last_is_one : 0 < length s → Any (λ p. p.blocks ≡ (part_at s (length s - 1)).blocks) a
  last_is_one some =
      let one = found (is_part (part_at s (length s - 1))) a no_part (in_addresses a s ordered (length s - 1) (omega (arith, some))) in
      let same = is_same (part_at s (length s - 1)) (part_at a one.0) one.2 in
      (one.0, part_at a one.0, one.1, sym (get_or_default a one.0 no_part (part_at a one.0) one.1), ap (λ (p : Part). p.blocks) same)

  -- no part by size, no part
  pub none_by_size : length s ≡ 0 → length a ≡ 0
  none_by_size none = elim (cases_lt 0 (length a)) [
    | inl some ↦ let one = found (is_part (part_at a 0)) s no_part (in_sizes a s ordered 0 some) in absurd (omega (arith, one.1, none))
    | inr empty ↦ omega (arith, empty)
  ]

  pub none_by_address : length a ≡ 0 → length s ≡ 0
  none_by_address none = elim (cases_lt 0 (length s)) [
    | inl some ↦ let one = found (is_part (part_at s 0)) a no_part (in_addresses a s ordered 0 some) in absurd (omega (arith, one.1, none))
    | inr empty ↦ omega (arith, empty)
  ]

-- the blocks of the parts before one fit before it
pub blocks_before : (xs : List Part) (i : ℕ) → AreFree xs → i < length xs → all_blocks (take i xs) ≤ (part_at xs i).address
blocks_before xs zero free lt = omega arith
blocks_before xs (suc i) free lt =
    let more = sum_by_more (λ (p : Part). p.blocks) xs i no_part (omega (arith, lt)) in
    let before = blocks_before xs i free (omega (arith, lt)) in
    let next : i + 1 ≡ suc i = omega arith in
    subst (λ n. all_blocks (take n xs) ≤ (part_at xs (suc i)).address) next (omega (arith, more, before, free.apart i (suc i) no_part (omega arith) lt))
