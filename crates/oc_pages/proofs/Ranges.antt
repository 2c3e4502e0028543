-- The numbers of a page.
use Rattle.std.proofs.Common.{◌≡◌, ℕ, ◌+◌, ◌-◌, ◌*◌, ◌<◌, ◌≤◌, true, false, inl, inr, get_or, ◌∙◌, ap, arith}
use Rattle.std.proofs.lemmas.Bool.{cases_lt}
use Rattle.std.proofs.lemmas.Bool.Decides.{nat_tests}
use Rattle.oc_pages.specs.declared.page.Page.{Page}
use Rattle.oc_pages.specs.Pages.{no_cell, is_empty, has_number, slot_in, IsInRange}

-- what the test for a number says
pub record IsWithin (index number : ℕ) : Type 0 where
  pub above : 126 * index < number
  pub below : number ≤ 126 * index + 126

pub within_is : (index number : ℕ) → has_number index number ≡ true → IsWithin index number
within_is index number yes_ =
    let parts : (126 * index < number) × (number ≤ 126 * index + 126) = grind (arith, nat_tests, yes_) in
    record { above = parts.0; below = parts.1 }

pub is_within : (index number : ℕ) → IsWithin index number → has_number index number ≡ true
is_within index number is = grind (arith, nat_tests, is.above, is.below)

pub in_range_all : (p : Page) → p.at ≤ 2147483647 → ((j : ℕ) → j < 126 → 2147483646 < p.index * 126 + j + 1 → is_empty (get_or p.cells j no_cell) ≡ true) → IsInRange p
in_range_all p address each = record {
  address = address;
  numbers = λ number yes_ some. elim (cases_lt 2147483646 number) [
    | inr le ↦ le
    | inl over_ ↦
        let is = within_is p.index number yes_ in
        let j : number - 126 * p.index - 1 < 126 = omega (arith, is.above, is.below) in
        let high : 2147483646 < p.index * 126 + (number - 126 * p.index - 1) + 1 = omega (arith, is.above, over_) in
        let none = each (slot_in p number) j high in
        absurd (cc (none, some))
  ];
}

pub out_of_range : (p : Page) (k : ℕ) → k < 126 → 2147483646 < p.index * 126 + k + 1 → is_empty (get_or p.cells k no_cell) ≡ false → IsInRange p → ⊥
out_of_range p k lt high some is =
    let number = 126 * p.index + k + 1 in
    let has = is_within p.index number (record { above = omega arith; below = omega (arith, lt) }) in
    let slot : number - 126 * p.index - 1 ≡ k = omega arith in
    let le = is.numbers number has (ap (λ (j : ℕ). is_empty (get_or p.cells j no_cell)) slot ∙ some) in
    omega (arith, le, high)
