-- Where the cells of numbers stand.
use Rattle.std.proofs.Common.{◌≡◌, inl, inr, ℕ, zero, suc, ◌+◌, ◌-◌, ◌*◌, ◌/◌, ◌%◌, ◌<◌, ◌≤◌, true, false, List, [], ◌∷◌, length, drop, map, get_or, refl, sym, ◌∙◌, ap, subst, arith, leb, length-drop, Option, Some, None}
use Rattle.std.specs.Prelude.{AllPairs, Contains, option_map}
use Rattle.std.specs.List.Sorted.{IsNonDecreasing, IsPermutation, IsPartitionedBy, IsPartitionPoint}
use Rattle.std.proofs.lemmas.Bool.{cases_lt}
use Rattle.std.proofs.lemmas.Bool.Decides.{nat_tests}
use Rattle.std.proofs.lemmas.List.{get_or-drop, get_or_default}
use Rattle.std.proofs.lemmas.List.Sorted.{IsPermutation-sym, Contains-permutation}
use Rattle.oc_pages.specs.declared.page.Page.{Page}
use Rattle.oc_pages.specs.Pages.{holds, slot_in, page_holding, IsOther}
use Rattle.oc_pages.specs.Places.{page_in, chained}
use Rattle.oc_pages.specs.Targets.{IsTargetIn, IsCellOf, IsCellAmong}
use Rattle.oc_pages.proofs.Chained.{same_pages}
use Rattle.oc_pages.proofs.Listings.{found_is}
use Rattle.oc_pages.proofs.Lookups.{holds_number, target_found}
use Rattle.oc_pages.proofs.Ranges.{within_is, is_within}

-- ---- one page

pub cell_is : (start target : ℕ) → 16 ≤ target - start → target - start < 1024 → (target - start) % 8 ≡ 0 → IsCellOf start target
cell_is start target low high even =
    record { slot = (target - start) / 8 - 2; below = omega (arith, low, high, even); here = omega (arith, low, high, even) }

pub cell_below : (start target : ℕ) → IsCellOf start target → target - start < 1024
cell_below start target is = omega (arith, is.here, is.below)

-- ---- pages in the order of their first bytes

-- what the search for the first that is near takes for granted
pub far_first : (starts : List ℕ) (target : ℕ) → IsNonDecreasing starts → IsPartitionedBy (λ s. leb 1024 (target - s)) starts
far_first starts target ordered i j d le lt passes =
    grind (arith, nat_tests, ordered i j d le lt, passes)

-- the pages from the first on that is near
module _ (starts near : List ℕ) (target first : ℕ) (ordered : IsNonDecreasing starts) (bound : first ≤ length starts) (near_is : near ≡ drop first starts)
    (point : IsPartitionPoint (λ s. leb 1024 (target - s) ≡ true) (λ s. leb 1024 (target - s) ≡ false) starts first) where
  far : (k : ℕ) → k < first → IsCellOf (get_or starts k 0) target → ⊥
  far k lt is =
      let away : 1024 ≤ target - get_or starts k 0 = grind (arith, nat_tests, point.0 k 0 (omega arith) lt) in
      omega (arith, away, cell_below (get_or starts k 0) target is)

  long : first + length near ≡ length starts
  long = omega (arith, ap length near_is, length-drop first starts, bound)

  value : (i : ℕ) → get_or near i 0 ≡ get_or starts (first + i) 0
  value i = ap (λ (l : List ℕ). get_or l i 0) near_is ∙ get_or-drop first starts i 0

  -- the first n of them don't have the cell, and the next begins behind it
  pub none_among : (n : ℕ) → ((i : ℕ) → i < n → IsCellOf (get_or near i 0) target → ⊥) → (n < length near → target < get_or near n 0) → IsCellAmong starts target → ⊥
  none_among n none behind is = at_place is.among.0 is.among.1 (get_or_default starts is.among.0 0 is.start is.among.1 ∙ is.among.2)
    where
      at_place : (k : ℕ) → k < length starts → get_or starts k 0 ≡ is.start → ⊥
      at_place k lt here =
          let cell = subst (λ (s : ℕ). IsCellOf s target) (sym here) is.cell in
          elim (cases_lt k first) [
            | inl early ↦ far k early cell
            | inr late ↦
                let there : first + (k - first) ≡ k = omega (arith, late) in
                elim (cases_lt (k - first) n) [
                  | inl seen ↦ none (k - first) seen (subst (λ (s : ℕ). IsCellOf s target) (sym (value (k - first) ∙ ap (λ (j : ℕ). get_or starts j 0) there)) cell)
                  | inr after ↦
                      let rises = ordered (first + n) k 0 (omega (arith, after, late)) lt in
                      omega (arith, behind (omega (arith, after, late, lt, long)), value n, rises, cell.here)
                ]
          ]

-- ---- the first bytes of pages

start_of : (unit : ℕ) (pages : List Page) (start : ℕ) → Contains (map (λ (p : Page). p.at * unit) pages) start → (k : ℕ) × (k < length pages) × ((page_in pages k).at * unit ≡ start)
start_of unit [] start is = absurd (omega (arith, is.1))
start_of unit (p ∷ ps) start (zero, lt, e) = (zero, omega arith, e)
start_of unit (p ∷ ps) start (suc k, lt, e) =
    let rest = start_of unit ps start (k, omega (arith, lt), e) in
    (suc rest.0, omega (arith, rest.1), rest.2)

start_among : (unit : ℕ) (pages : List Page) (p : Page) → Contains pages p → Contains (map (λ (q : Page). q.at * unit) pages) (p.at * unit)
start_among unit [] p is = absurd (omega (arith, is.1))
start_among unit (q ∷ qs) p (zero, lt, e) = (zero, omega arith, ap (λ (x : Page). x.at * unit) e)
start_among unit (q ∷ qs) p (suc k, lt, e) =
    let rest = start_among unit qs p (k, omega (arith, lt), e) in
    (suc rest.0, omega (arith, rest.1), rest.2)

-- ---- the cells of numbers

module _ (unit n : ℕ) (kept : List Page) (distinct : AllPairs IsOther kept) (starts : List ℕ) (same : IsPermutation (map (λ (p : Page). p.at * unit) kept) starts) where
  pub target_is : (target : ℕ) → IsCellAmong starts target → IsTargetIn unit (chained n kept) target
  target_is target is = at_page (start_of unit kept is.start (Contains-permutation starts (map (λ (p : Page). p.at * unit) kept) is.start (IsPermutation-sym (map (λ (p : Page). p.at * unit) kept) starts same) is.among))
    where
      at_page : (k : ℕ) × (k < length kept) × ((page_in kept k).at * unit ≡ is.start) → IsTargetIn unit (chained n kept) target
      at_page (k, lt, e) =
          let p = page_in kept k in
          let number = 126 * p.index + is.cell.slot + 1 in
          let has = is_within p.index number (record { above = omega arith; below = omega (arith, is.cell.below) }) in
          let here : holds p.space number p ≡ true = grind (arith, nat_tests, has) in
          let place : p.at * unit + 16 + 8 * slot_in p number ≡ target = omega (arith, e, is.cell.here) in
          (p.space, number, target_found n kept k p.space number distinct lt here unit ∙ ap Some place)

  pub target_among : (target : ℕ) → IsTargetIn unit (chained n kept) target → IsCellAmong starts target
  target_among target (space, number, e) = of_page (page_holding (chained n kept) space number) refl e
    where
      of_page : (o : Option Page) → page_holding (chained n kept) space number ≡ o → option_map (λ p. p.at * unit + 16 + 8 * slot_in p number) o ≡ Some target → IsCellAmong starts target
      of_page None found is = absurd (cc is)
      of_page (Some p) found is =
          let there = found_is (holds space number) (chained n kept) p found in
          let in_kept = Contains-permutation (chained n kept) kept p (IsPermutation-sym kept (chained n kept) (same_pages n kept)) there.0 in
          let w = within_is p.index number (holds_number space number p there.1) in
          let value : p.at * unit + 16 + 8 * slot_in p number ≡ target = cc is in
          record {
            start = p.at * unit;
            among = Contains-permutation (map (λ (q : Page). q.at * unit) kept) starts (p.at * unit) same (start_among unit kept p in_kept);
            cell = record { slot = slot_in p number; below = omega (arith, w.above, w.below); here = sym value };
          }
