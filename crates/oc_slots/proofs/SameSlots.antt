-- Slots that are the same, and slots that differ.
use Rattle.std.proofs.Common.{◌≡◌, ◌∙◌, inl, inr, true, false, sym, subst, refl, arith}
use Rattle.std.proofs.lemmas.Bool.{cases_Bool}
use Rattle.std.proofs.lemmas.Bool.Decides.{nat_tests}
use Rattle.oc_layout.specs.declared.cells.Space.{Space}
use Rattle.oc_layout.specs.declared.cells.Space.TheVariants.{Objects, System}
use Rattle.oc_pages.specs.Pages.{space_number}
use Rattle.oc_slots.specs.declared.slot.SlotId.{SlotId}
use Rattle.oc_slots.specs.Maps.{is_same}

pub is_true : (a b : SlotId) → is_same a b ≡ true → (space_number a.space ≡ space_number b.space) × (a.number ≡ b.number)
is_true a b e = (grind (arith, nat_tests, e), grind (arith, nat_tests, e))

pub same_true : (a b : SlotId) → space_number a.space ≡ space_number b.space → a.number ≡ b.number → is_same a b ≡ true
same_true a b s n = grind (arith, nat_tests, s, n)

pub clash : false ≡ true → ⊥
clash e = cc

pub same_itself : (a : SlotId) → is_same a a ≡ true
same_itself a = same_true a a refl refl

pub spaces_same : (a b : Space) → space_number a ≡ space_number b → a ≡ b
spaces_same Objects Objects e = refl
spaces_same Objects System e = absurd (omega (arith, e))
spaces_same System Objects e = absurd (omega (arith, e))
spaces_same System System e = refl

pub same_slot : (a b : SlotId) → is_same a b ≡ true → a ≡ b
same_slot a b e =
    let both = is_true a b e in
    let space = spaces_same a.space b.space both.0 in
    λ i. record { space = space i; number = both.1 i }

pub flipped : (a b : SlotId) → is_same a b ≡ false → is_same b a ≡ false
flipped a b other = elim (cases_Bool (is_same b a)) [
  | inl yes_ ↦ let both = is_true b a yes_ in absurd (clash (sym other ∙ same_true a b (sym both.0) (sym both.1)))
  | inr no_ ↦ no_
]

-- what is the one isn't the other
pub differs : (a b id : SlotId) → is_same a b ≡ false → is_same a id ≡ true → is_same b id ≡ false
differs a b id other same = subst (λ x. is_same b x ≡ false) (same_slot a id same) (flipped a b other)
