-- Where a search among ordered parts ends.
use Rattle.std.proofs.Common.{◌≡◌, ℕ, ◌≤◌, Bool, true, false, List, length, get_or, ltb, subst, inl, inr, arith}
use Rattle.std.specs.List.{AllPairs}
use Rattle.std.specs.List.Sorted.{IsPartitionedBy, IsPartitionPoint}
use Rattle.std.proofs.lemmas.Bool.{cases_lt}
use Rattle.std.proofs.lemmas.Bool.Decides.{nat_tests}
use Rattle.oc_model.specs.Space.{Part, is_better}
use Rattle.oc_free.specs.FreeParts.{LiesBefore}
use Rattle.oc_free.specs.Orders.{no_part, RanksBefore, IsPlaceOf, IsRankOf, IsFirstFit}

-- a test that an order carries to each earlier part parts the list
parted : (R : Part → Part → Type 0) (p : Part → Bool) (xs : List Part) → AllPairs R xs
    → ((x y : Part) → R x y → p y ≡ true → p x ≡ true) → IsPartitionedBy p xs
parted R p xs ordered carries i j d le in_range passes = elim (cases_lt i j) [
  | inl lt ↦ carries _ _ (ordered i j d lt in_range) passes
  | inr ge ↦ let same : j ≡ i = omega (arith, le, ge) in subst (λ k. p (get_or xs k d) ≡ true) same passes
]

pub place_found : (xs : List Part) (address place : ℕ) → AllPairs LiesBefore xs → place ≤ length xs
    → (IsPartitionedBy (λ q. ltb q.address address) xs → IsPartitionPoint (λ q. ltb q.address address ≡ true) (λ q. ltb q.address address ≡ false) xs place)
    → IsPlaceOf address xs place
place_found xs address place ordered within found =
    let point = found (parted LiesBefore (λ q. ltb q.address address) xs ordered (λ x y lies passes. grind (arith, nat_tests))) in
    record {
      within = within;
      before = λ k lt. grind (arith, nat_tests, point.0 k no_part (omega arith) lt);
      after = λ k le in_range. grind (arith, nat_tests, point.1 k no_part le in_range);
    }

pub rank_found : (xs : List Part) (p : Part) (place : ℕ) → AllPairs RanksBefore xs → place ≤ length xs
    → (IsPartitionedBy (λ q. is_better q p) xs → IsPartitionPoint (λ q. is_better q p ≡ true) (λ q. is_better q p ≡ false) xs place)
    → IsRankOf p xs place
rank_found xs p place ordered within found =
    let point = found (parted RanksBefore (λ q. is_better q p) xs ordered (λ x y ranks passes. grind (arith, nat_tests))) in
    record {
      within = within;
      before = λ k lt. point.0 k no_part (omega arith) lt;
      after = λ k le in_range. point.1 k no_part le in_range;
    }

pub fit_found : (xs : List Part) (need place : ℕ) → AllPairs RanksBefore xs → place ≤ length xs
    → (IsPartitionedBy (λ q. ltb q.blocks need) xs → IsPartitionPoint (λ q. ltb q.blocks need ≡ true) (λ q. ltb q.blocks need ≡ false) xs place)
    → IsFirstFit need xs place
fit_found xs need place ordered within found =
    let point = found (parted RanksBefore (λ q. ltb q.blocks need) xs ordered (λ x y ranks passes. grind (arith, nat_tests))) in
    record {
      within = within;
      before = λ k lt. grind (arith, nat_tests, point.0 k no_part (omega arith) lt);
      after = λ k le in_range. grind (arith, nat_tests, point.1 k no_part le in_range);
    }
