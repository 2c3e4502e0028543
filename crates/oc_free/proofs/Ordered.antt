-- Parts in both orders: where a part is, and what taking one out or putting one in leaves.
use Rattle.std.proofs.Common.{◌≡◌, ℕ, ◌+◌, ◌-◌, ◌<◌, ◌≤◌, true, cond, List, length, get_or, sym, ◌∙◌, ap₂, subst, inl, inr, arith}
use Rattle.std.specs.List.{AllPairs, insert, remove, count_by, sum_by}
use Rattle.std.proofs.lemmas.Bool.{cases_lt}
use Rattle.std.proofs.lemmas.Bool.Decides.{nat_tests}
use Rattle.std.proofs.lemmas.List.{get_or_default}
use Rattle.std.proofs.lemmas.List.Edits.{length-remove, get_or-remove_below, get_or-remove_above}
use Rattle.std.proofs.lemmas.List.Quantifiers.{all_pairs_remove}
use Rattle.oc_model.specs.Space.{Part, is_better}
use Rattle.oc_free.specs.FreeParts.{AreFree, IsInRange, LiesBefore, end_of, has_block, free_at}
use Rattle.oc_free.specs.Orders.{no_part, part_at, is_part, RanksBefore, AreOrdered, IsPlaceOf, IsRankOf, IsGapFor, IsApartBefore, IsApartAfter}
use Rattle.oc_free.proofs.Edits.{counted, found, all_pairs_insert, all_insert, all_remove, sum-insert, sum-remove}

-- parts with the same numbers are one
pub same_part : (p q : Part) → p.address ≡ q.address → p.blocks ≡ q.blocks → p ≡ q
same_part p q addresses blocks = ap₂ (λ a b. let made : Part = record { address = a; blocks = b } in made) addresses blocks

-- an element with the part's numbers is one
pub is_same : (p q : Part) → is_part p q ≡ true → q ≡ p
is_same p q same = same_part q p (grind (arith, nat_tests, same)) (grind (arith, nat_tests, same))

pub is_itself : (p : Part) → is_part p p ≡ true
is_itself p = grind (arith, nat_tests)

-- the part's place in the order of addresses
pub placed_at : (xs : List Part) (p : Part) (place : ℕ) → AllPairs LiesBefore xs → IsPlaceOf p.address xs place → 1 ≤ count_by (is_part p) xs
    → (place < length xs) × (part_at xs place ≡ p)
placed_at xs p place apart is_place some =
    let one = found (is_part p) xs no_part some in
    let same = is_same p (part_at xs one.0) one.2 in
    let at_least : place ≤ one.0 = elim (cases_lt one.0 place) [
      | inl below ↦ absurd (grind (arith, same, is_place.before one.0 below))
      | inr above ↦ above
    ] in
    elim (cases_lt place one.0) [
      | inl below ↦ absurd (grind (arith, same, apart place one.0 no_part below one.1, is_place.after place (omega arith) (omega (arith, below, one.1))))
      | inr above ↦ let here : one.0 ≡ place = omega (arith, at_least, above) in subst (λ k. (k < length xs) × (part_at xs k ≡ p)) here (one.1, same)
    ]

-- the part's place in the order of sizes
pub ranked_at : (xs : List Part) (p : Part) (rank : ℕ) → AllPairs RanksBefore xs → IsRankOf p xs rank → 1 ≤ count_by (is_part p) xs
    → (rank < length xs) × (part_at xs rank ≡ p)
ranked_at xs p rank ranks is_rank some =
    let one = found (is_part p) xs no_part some in
    let same = is_same p (part_at xs one.0) one.2 in
    let at_least : rank ≤ one.0 = elim (cases_lt one.0 rank) [
      | inl below ↦ absurd (grind (arith, nat_tests, same, is_rank.before one.0 below))
      | inr above ↦ above
    ] in
    elim (cases_lt rank one.0) [
      | inl below ↦ absurd (grind (arith, nat_tests, same, ranks rank one.0 no_part below one.1, is_rank.after rank (omega arith) (omega (arith, below, one.1))))
      | inr above ↦ let here : one.0 ≡ rank = omega (arith, at_least, above) in subst (λ k. (k < length xs) × (part_at xs k ≡ p)) here (one.1, same)
    ]

-- each part of one list is in the other
pub in_sizes : (a s : List Part) → AreOrdered a s → (k : ℕ) → k < length a → 1 ≤ count_by (is_part (part_at a k)) s
in_sizes a s ordered k lt = subst (λ n. 1 ≤ n) (sym (ordered.same (part_at a k))) (counted (is_part (part_at a k)) a k no_part lt (is_itself (part_at a k)))

pub in_addresses : (a s : List Part) → AreOrdered a s → (k : ℕ) → k < length s → 1 ≤ count_by (is_part (part_at s k)) a
in_addresses a s ordered k lt = subst (λ n. 1 ≤ n) (ordered.same (part_at s k)) (counted (is_part (part_at s k)) s k no_part lt (is_itself (part_at s k)))

-- a part is taken out of both lists
pub ordered_remove : (a s : List Part) (place rank : ℕ) → AreOrdered a s → place < length a → IsRankOf (part_at a place) s rank
    → AreOrdered (remove a place) (remove s rank)
ordered_remove a s place rank ordered within is_rank =
    let at = ranked_at s (part_at a place) rank ordered.ranked is_rank (in_sizes a s ordered place within) in
    record {
      free = record { in_range = all_remove IsInRange a place within ordered.free.in_range; apart = all_pairs_remove LiesBefore a place within ordered.free.apart };
      ranked = all_pairs_remove RanksBefore s rank at.0 ordered.ranked;
      same = λ p.
          let less_a = sum-remove (λ x. cond (is_part p x) 1 0) a place no_part within in
          let less_s = sum-remove (λ x. cond (is_part p x) 1 0) s rank no_part at.0 in
          let less_s' = subst (λ q. sum_by (λ x. cond (is_part p x) 1 0) (remove s rank) + cond (is_part p q) 1 0 ≡ sum_by (λ x. cond (is_part p x) 1 0) s) at.1 less_s in
          omega (arith, less_a, less_s', ordered.same p);
    }

-- a part that touches no other is put into both lists
pub ordered_insert : (a s : List Part) (p : Part) (place rank : ℕ) → AreOrdered a s → IsInRange p → IsGapFor p a place → IsApartBefore p a place → IsApartAfter p a place → IsRankOf p s rank
    → AreOrdered (insert a place p) (insert s rank p)
ordered_insert a s p place rank ordered in_range gap before after is_rank =
    record {
      free = record {
        in_range = all_insert IsInRange a place p gap.within ordered.free.in_range in_range;
        apart = all_pairs_insert LiesBefore a place p gap.within ordered.free.apart
            (λ k d lt. subst (λ q. end_of q < p.address) (get_or_default a k no_part d (omega (arith, lt, gap.within))) (before k lt))
            (λ k d le lt. subst (λ q. end_of p < q.address) (get_or_default a k no_part d lt) (after k le lt));
      };
      ranked = all_pairs_insert RanksBefore s rank p is_rank.within ordered.ranked
          (λ k d lt. subst (λ q. is_better q p ≡ true) (get_or_default s k no_part d (omega (arith, lt, is_rank.within))) (is_rank.before k lt))
          (λ k d le lt. subst (λ q. is_better p q ≡ true) (get_or_default s k no_part d lt) (behind k le lt));
      same = λ q.
          let more_a = sum-insert (λ x. cond (is_part q x) 1 0) a place p in
          let more_s = sum-insert (λ x. cond (is_part q x) 1 0) s rank p in
          omega (arith, more_a, more_s, ordered.same q);
    }
  where
    -- no part has its address
    other : (k : ℕ) → k < length s → (part_at s k).address ≡ p.address → ⊥
    other k lt same =
        let one = found (is_part (part_at s k)) a no_part (in_addresses a s ordered k lt) in
        let there = is_same (part_at s k) (part_at a one.0) one.2 in
        let size = ordered.free.in_range one.0 no_part one.1 in
        elim (cases_lt one.0 place) [
          | inl below ↦ grind (arith, before one.0 below, there, same)
          | inr above ↦ grind (arith, after one.0 above one.1, there, same)
        ]

    behind : (k : ℕ) → rank ≤ k → k < length s → is_better p (part_at s k) ≡ true
    behind k le lt = grind (arith, nat_tests, is_rank.after k le lt, other k lt)

-- what was read at a place is the part there
pub read_part : (a : List Part) (place : ℕ) (q : Part) → place < length a → q ≡ get_or a place q → q ≡ part_at a place
read_part a place q within read = read ∙ get_or_default a place q no_part within

-- the part that was read at its place, and its rank among the sizes that were searched
pub read_rank : (a s seen : List Part) (part : Part) (place rank : ℕ) → place < length a → part ≡ get_or a place part → seen ≡ s → IsRankOf part seen rank
    → IsRankOf (part_at a place) s rank
read_rank a s seen part place rank within read same is_rank =
    let here = read_part a place part within read in
    subst (λ q. IsRankOf q s rank) here (subst (λ l. IsRankOf part l rank) same is_rank)

-- a part between those at its place and those before it lies in a gap where a part was
pub gap_of_removed : (a : List Part) (place : ℕ) (p : Part) → AreFree a → place < length a → (part_at a place).address ≤ p.address → end_of p ≤ end_of (part_at a place)
    → record { gap : IsGapFor p (remove a place) place; before : IsApartBefore p (remove a place) place; after : IsApartAfter p (remove a place) place }
gap_of_removed a place p free within from to =
    let len = length-remove a place within in
    let before : IsApartBefore p (remove a place) place = λ k lt. subst (λ q. end_of q < p.address) (sym (get_or-remove_below a place no_part k lt within)) (omega (arith, free.apart k place no_part lt within, from)) in
    let after : IsApartAfter p (remove a place) place = λ k le lt. subst (λ q. end_of p < q.address) (sym (get_or-remove_above a place no_part k le within)) (omega (arith, free.apart place (k + 1) no_part (omega (arith, le)) (omega (arith, lt, len)), to)) in
    record {
      gap = record { within = omega (arith, len, within); before = λ k lt. omega (arith, before k lt); after = λ k le lt. omega (arith, after k le lt) };
      before = before;
      after = after;
    }

-- the part that ends where the blocks begin is taken out, and the blocks get its front
pub grown_before : (a : List Part) (place : ℕ) (p : Part) → AreFree a → 1 ≤ place → IsGapFor p a place → end_of (part_at a (place - 1)) ≡ p.address
    → let grown : Part = record { address = (part_at a (place - 1)).address; blocks = (part_at a (place - 1)).blocks + p.blocks } in
    record { gap : IsGapFor grown (remove a (place - 1)) (place - 1); before : IsApartBefore grown (remove a (place - 1)) (place - 1) }
grown_before a place p free some gap touches =
    let within : place - 1 < length a = omega (arith, some, gap.within) in
    let len = length-remove a (place - 1) within in
    let before = λ (k : ℕ) (lt : k < place - 1). subst (λ q. end_of q < (part_at a (place - 1)).address) (sym (get_or-remove_below a (place - 1) no_part k lt within)) (free.apart k (place - 1) no_part lt within) in
    record {
      gap = record {
        within = omega (arith, len, within);
        before = λ k lt. omega (arith, before k lt);
        after = λ k le lt. subst (λ q. (part_at a (place - 1)).address + ((part_at a (place - 1)).blocks + p.blocks) ≤ q.address) (sym (get_or-remove_above a (place - 1) no_part k le within)) (omega (arith, gap.after (k + 1) (omega (arith, le, some)) (omega (arith, lt, len)), touches));
      };
      before = before;
    }

-- the part that begins where the blocks end is taken out, and the blocks get its blocks
pub grown_after : (a : List Part) (place : ℕ) (p : Part) → AreFree a → place < length a → IsGapFor p a place → IsApartBefore p a place → (part_at a place).address ≡ end_of p
    → let grown : Part = record { address = p.address; blocks = p.blocks + (part_at a place).blocks } in
    record { gap : IsGapFor grown (remove a place) place; before : IsApartBefore grown (remove a place) place; after : IsApartAfter grown (remove a place) place }
grown_after a place p free within gap apart touches =
    let len = length-remove a place within in
    let before = λ (k : ℕ) (lt : k < place). subst (λ q. end_of q < p.address) (sym (get_or-remove_below a place no_part k lt within)) (apart k lt) in
    let after = λ (k : ℕ) (le : place ≤ k) (lt : k < length (remove a place)). subst (λ q. p.address + (p.blocks + (part_at a place).blocks) < q.address) (sym (get_or-remove_above a place no_part k le within)) (omega (arith, free.apart place (k + 1) no_part (omega (arith, le)) (omega (arith, lt, len)), touches)) in
    record {
      gap = record { within = omega (arith, len, within); before = λ k lt. omega (arith, before k lt); after = λ k le lt. omega (arith, after k le lt) };
      before = before;
      after = after;
    }

-- blocks that are all taken lie in the gap at their place
pub gap_of_taken : (a : List Part) (place address blocks : ℕ) → AreFree a → IsPlaceOf address a place → 1 ≤ blocks
    → ((k : ℕ) → address ≤ k → k < address + blocks → free_at a k ≡ 0)
    → let p : Part = record { address = address; blocks = blocks } in IsGapFor p a place
gap_of_taken a place address blocks free is_place some taken =
    record {
      within = is_place.within;
      before = λ k lt. elim (cases_lt address (end_of (part_at a k))) [
        | inl over ↦ absurd (omega (arith, taken address (omega arith) (omega (arith, some)), counted (has_block address) a k no_part (omega (arith, lt, is_place.within)) (grind (arith, nat_tests, is_place.before k lt, over))))
        | inr apart ↦ apart
      ];
      after = λ k le lt. elim (cases_lt (part_at a k).address (address + blocks)) [
        | inl over ↦ absurd (omega (arith, taken (part_at a k).address (is_place.after k le lt) over, counted (has_block (part_at a k).address) a k no_part lt (grind (arith, nat_tests, free.in_range k no_part lt))))
        | inr apart ↦ apart
      ];
    }

-- where the part at the place doesn't touch the blocks, none behind it does
pub strictly_behind : (a : List Part) (place : ℕ) (p : Part) → AreFree a → place < length a → IsGapFor p a place → ((part_at a place).address ≡ end_of p → ⊥)
    → IsApartAfter p a place
strictly_behind a place p free within gap apart k le lt = elim (cases_lt place k) [
  | inl behind ↦ omega (arith, gap.after place (omega arith) within, free.apart place k no_part behind lt, free.in_range place no_part within)
  | inr here ↦ let same : k ≡ place = omega (arith, le, here) in omega (arith, gap.after k le lt, subst (λ i. (part_at a i).address ≡ end_of p → ⊥) (sym same) apart)
]
