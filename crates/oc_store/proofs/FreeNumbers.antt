-- Free numbers, the least first.
use Rattle.std.proofs.Common.{◌≡◌, ◌⊎◌, inl, inr, sym, refl, subst, ℕ, zero, suc, ◌+◌, ◌<◌, ◌≤◌, List, [], ◌∷◌, ◌++◌, length, get_or, Result, Ok, Err, arith, nat_cmp, length-append}
use Rattle.std.specs.Prelude.{is_ok}
use Rattle.std.specs.Bool.{OnTrue, OnFalse}
use Rattle.std.specs.List.Sorted.{IsBinarySearchResult}
use Rattle.std.proofs.lemmas.Bool.{cases_lt}
use Rattle.std.proofs.lemmas.List.Sorted.{searched}
use Rattle.oc_model.specs.Lists.{IsOneOf}
use Rattle.oc_model.proofs.Elements.{in_left, in_right}
use Rattle.oc_chunks.specs.Ascending.{Each}
use Rattle.oc_chunks.proofs.Eaches.{each_append, each_at, each_more, pairs_append}
use Rattle.oc_lists.proofs.IndexedKinds.{one_at}
use Rattle.oc_store.specs.Numbering.{AreLeast, AreRising, IsSegmentNumber, SplitAt}

place_of : (xs : List ℕ) (n : ℕ) → IsOneOf n xs → (k : ℕ) × (k < length xs) × (get_or xs k 0 ≡ n)
place_of [] n one = absurd one
place_of (x ∷ xs) n (inl same) = (0, omega arith, sym same)
place_of (x ∷ xs) n (inr later) = let r = place_of xs n later in (suc r.0, omega (arith, r.1), r.2)

-- ---- a search

rises : (xs : List ℕ) → AreRising xs → (i j : ℕ) → i ≤ j → j < length xs → get_or xs i 0 ≤ get_or xs j 0
rises [] a i j le lt = absurd (omega arith)
rises (x ∷ xs) a zero zero le lt = omega arith
rises (x ∷ xs) a zero (suc j) le lt = let above = each_at (λ y. x < y) j 0 xs (omega arith) a.0 in omega (arith, above)
rises (x ∷ xs) a (suc i) zero le lt = absurd (omega arith)
rises (x ∷ xs) a (suc i) (suc j) le lt = rises xs a.1 i j (omega arith) (omega arith)

rises_above : (xs : List ℕ) → AreRising xs → (i j : ℕ) → i < j → j < length xs → get_or xs i 0 < get_or xs j 0
rises_above [] a i j below lt = absurd (omega arith)
rises_above (x ∷ xs) a zero zero below lt = absurd (omega arith)
rises_above (x ∷ xs) a zero (suc j) below lt = each_at (λ y. x < y) j 0 xs (omega arith) a.0
rises_above (x ∷ xs) a (suc i) zero below lt = absurd (omega arith)
rises_above (x ∷ xs) a (suc i) (suc j) below lt = rises_above xs a.1 i j (omega arith) (omega arith)

module _ (xs : List ℕ) (x : ℕ) (rising : AreRising xs) where
  pub found : (r : Result ℕ ℕ) → IsBinarySearchResult (λ y. nat_cmp y x) xs r → OnTrue (is_ok r) (IsOneOf x xs)
  found (Ok i) is = let p = searched xs x (Ok i) is (rises xs rising) in subst (λ n. IsOneOf n xs) p.1 (one_at xs i 0 p.0)
  found (Err i) is = tt

  pub not_found : (r : Result ℕ ℕ) → IsBinarySearchResult (λ y. nat_cmp y x) xs r → OnFalse (is_ok r) (IsOneOf x xs → ⊥)
  not_found (Ok i) is = tt
  not_found (Err i) is = λ one.
      let p = searched xs x (Err i) is (rises xs rising) in
      let k = place_of xs x one in
      elim (cases_lt k.0 i) [
        | inl lt ↦ (let low = p.1 k.0 lt in absurd (omega (arith, low, k.2)))
        | inr le ↦ (let high = p.2 k.0 le k.1 in absurd (omega (arith, high, k.2)))
      ]

  -- where a search ends
  pub place_found : (r : Result ℕ ℕ) → IsBinarySearchResult (λ y. nat_cmp y x) xs r → SplitAt xs x (elim r [ Ok i ↦ i | Err i ↦ i ])
  place_found (Ok i) is =
      let p = searched xs x (Ok i) is (rises xs rising) in
      record {
        below = λ k before lt. let above = rises_above xs rising k i before p.0 in omega (arith, above, p.1);
        from = λ k le lt. let up = rises xs rising i k le lt in omega (arith, up, p.1);
      }
  place_found (Err i) is =
      let p = searched xs x (Err i) is (rises xs rising) in
      record { below = λ k before lt. p.1 k before; from = λ k le lt. let high = p.2 k le lt in omega (arith, high) }

-- ---- the place of a number among those that are used

module _ (used : List ℕ) (rising : AreRising used) (number place : ℕ) (split : SplitAt used number place) where
  pub stands_at : place < length used → get_or used place 0 ≡ number → IsOneOf number used
  stands_at lt same = subst (λ n. IsOneOf n used) same (one_at used place 0 lt)

  pub behind : place < length used → get_or used place 0 ≡ number → SplitAt used (number + 1) (place + 1)
  behind within same = record {
    below = λ i before lt. let up = rises used rising i place (omega (arith, before)) within in omega (arith, up, same);
    from = λ i le lt. let above = rises_above used rising place i (omega (arith, le)) lt in omega (arith, above, same);
  }

  module _ (apart : place < length used → get_or used place 0 ≡ number → ⊥) where
    higher : (i : ℕ) → place ≤ i → i < length used → number < get_or used i 0
    higher i le lt =
        let within : place < length used = omega (arith, le, lt) in
        let up = rises used rising place i le lt in
        let low = split.from place (omega arith) within in
        elim (cases_lt number (get_or used place 0)) [
          | inl above ↦ omega (arith, above, up)
          | inr same ↦ absurd (apart within (omega (arith, same, low)))
        ]

    pub stands_nowhere : IsOneOf number used → ⊥
    stands_nowhere one =
        let k = place_of used number one in
        elim (cases_lt k.0 place) [
          | inl before ↦ (let low = split.below k.0 before k.1 in absurd (omega (arith, low, k.2)))
          | inr le ↦ (let high = higher k.0 le k.1 in absurd (omega (arith, high, k.2)))
        ]

    pub stays : SplitAt used (number + 1) place
    stays = record {
      below = λ i before lt. let low = split.below i before lt in omega (arith, low);
      from = λ i le lt. let high = higher i le lt in omega (arith, high);
    }

-- ---- the numbers so far

-- of the numbers below this one, those that are free
pub record AreFree (used : List ℕ) (count number : ℕ) (items : List ℕ) : Type 0 where
  pub rising : AreRising items
  pub range : Each IsSegmentNumber items
  pub below : Each (λ n. n < number) items
  pub unused : Each (λ n. IsOneOf n used → ⊥) items
  pub whole : (m : ℕ) → 2 ≤ m → m < number → IsOneOf m used ⊎ IsOneOf m items
  pub few : length items ≤ count

pub none_free : (used : List ℕ) (count : ℕ) → AreFree used count 2 []
none_free used count = record { rising = tt; range = tt; below = tt; unused = tt; whole = λ m le lt. absurd (omega arith); few = omega arith }

module _ (used : List ℕ) (count number : ℕ) (items : List ℕ) (f : AreFree used count number items) where
  further_below : Each (λ n. n < number + 1) items
  further_below = each_more (λ n. n < number) (λ n. n < number + 1) items (λ n lt. omega (arith, lt)) f.below

  up_to : (new : List ℕ) → ((m : ℕ) → IsOneOf m items → IsOneOf m new) → IsOneOf number used ⊎ IsOneOf number new → (m : ℕ) → 2 ≤ m → m < number + 1 → IsOneOf m used ⊎ IsOneOf m new
  up_to new more last m le lt =
      elim (cases_lt m number) [
        | inl below ↦ (elim (f.whole m le below) [ inl used_ ↦ inl used_ | inr one ↦ inr (more m one) ])
        | inr above ↦ subst (λ k. IsOneOf k used ⊎ IsOneOf k new) {x = number} {y = m} (omega (arith, above, lt)) last
      ]

  used_up : IsOneOf number used → AreFree used count (number + 1) items
  used_up one = record { rising = f.rising; range = f.range; below = further_below; unused = f.unused; whole = up_to items (λ m i. i) (inl one); few = f.few }

  one_more : 2 ≤ number → number ≤ 2147483646 → length items < count → (IsOneOf number used → ⊥) → AreFree used count (number + 1) (items ++ number ∷ [])
  one_more from to some free = record {
    rising = pairs_append (λ m n. m < n) items (number ∷ []) f.rising (tt, tt) (each_more (λ n. n < number) (λ n. Each (λ k. n < k) (number ∷ [])) items (λ n lt. (lt, tt)) f.below);
    range = each_append IsSegmentNumber items (number ∷ []) f.range ((from, to), tt);
    below = each_append (λ n. n < number + 1) items (number ∷ []) further_below (omega arith, tt);
    unused = each_append (λ n. IsOneOf n used → ⊥) items (number ∷ []) f.unused (free, tt);
    whole = up_to (items ++ number ∷ []) (λ m i. in_left m items (number ∷ []) i) (inr (in_right number items (number ∷ []) (inl refl)));
    few = omega (arith, some, length-append items (number ∷ []));
  }

  pub free_next : (new : List ℕ) → 2 ≤ number → number ≤ 2147483646 → length items < count
      → ((new ≡ items) × IsOneOf number used) ⊎ ((new ≡ items ++ number ∷ []) × (IsOneOf number used → ⊥)) → AreFree used count (number + 1) new
  free_next new from to some (inl r) = subst (AreFree used count (number + 1)) (sym r.0) (used_up r.1)
  free_next new from to some (inr r) = subst (AreFree used count (number + 1)) (sym r.0) (one_more from to some r.1)

  pub free_least : AreLeast used items
  free_least m n one from lt = let k = place_of items n one in let below = each_at (λ h. h < number) k.0 0 items k.1 f.below in f.whole m from (omega (arith, below, k.2, lt))
