-- A list in order with elements put at their places.
use Rattle.std.proofs.Common.{◌≡◌, ◌∙◌, ap, sym, refl, Bool, true, false, cond, List, [], ◌∷◌, filter, true≢false}
use Rattle.std.specs.Ordering.{is_lt, ordering_reverse}
use Rattle.std.specs.declared.cmp.Ordering.{Ordering}
use Rattle.std.specs.declared.cmp.Ordering.TheVariants.{Less, Equal, Greater}
use Rattle.std.specs.Cmp.{IsTotalOrder}
use Rattle.oc_model.specs.Lists.{placed, sorted}
use Rattle.oc_chunks.specs.Ascending.{Each}
use Rattle.oc_chunks.proofs.Opened.{less_is}

module _ {X : Type 0} (R : X → X → Ordering) where
  pub behind : (x y : X) (ys : List X) → is_lt (R y x) ≡ true → placed R x (y ∷ ys) ≡ y ∷ placed R x ys
  behind x y ys less = ap (λ b. cond b (y ∷ placed R x ys) (x ∷ y ∷ ys)) less

  pub in_front : (x y : X) (ys : List X) → is_lt (R y x) ≡ false → placed R x (y ∷ ys) ≡ x ∷ y ∷ ys
  in_front x y ys off = ap (λ b. cond b (y ∷ placed R x ys) (x ∷ y ∷ ys)) off

  pub each_placed : (P : X → Type 0) (x : X) (ys : List X) → P x → Each P ys → Each P (placed R x ys)
  each_placed P x [] it each = (it, tt)
  each_placed P x (y ∷ ys) it each = elim (is_lt (R y x)) as (λ b. Each P (cond b (y ∷ placed R x ys) (x ∷ y ∷ ys))) [
    | true ↦ (each.0, each_placed P x ys it each.1)
    | false ↦ (it, each)
  ]

  pub each_sorted : (P : X → Type 0) (xs : List X) → Each P xs → Each P (sorted R xs)
  each_sorted P [] each = tt
  each_sorted P (x ∷ xs) each = each_placed P x (sorted R xs) each.0 (each_sorted P xs each.1)

  -- an element that doesn't pass goes again
  pub filter_placed : (p : X → Bool) (x : X) (ys : List X) → p x ≡ false → filter p (placed R x ys) ≡ filter p ys
  filter_placed p x [] off = ap (λ b. cond b (x ∷ []) []) off
  filter_placed p x (y ∷ ys) off = elim (is_lt (R y x)) as (λ b. filter p (cond b (y ∷ placed R x ys) (x ∷ y ∷ ys)) ≡ filter p (y ∷ ys)) [
    | true ↦ ap (λ l. cond (p y) (y ∷ l) l) (filter_placed p x ys off)
    | false ↦ ap (λ b. cond b (x ∷ filter p (y ∷ ys)) (filter p (y ∷ ys))) off
  ]

module _ {X : Type 0} (R : X → X → Ordering) (o : IsTotalOrder R) where
  turned : (x y : X) → is_lt (R x y) ≡ true → is_lt (R y x) ≡ false
  turned x y less = ap is_lt (o.antisymm y x ∙ ap ordering_reverse (less_is (R x y) less))

  other : (x y : X) → ¬ (R x y ≡ Equal) → is_lt (R x y) ≡ false → is_lt (R y x) ≡ true
  other x y apart off =
      (elim (R x y) as (λ r. R x y ≡ r → is_lt r ≡ false → is_lt (R y x) ≡ true) [
        | Less ↦ λ e off. absurd (true≢false off)
        | Equal ↦ λ e off. absurd (apart e)
        | Greater ↦ λ e off. ap is_lt (o.antisymm y x ∙ ap ordering_reverse e)
      ]) refl off

  -- z is below y and not below x
  across : (x y z : X) → is_lt (R z y) ≡ true → is_lt (R z x) ≡ false → is_lt (R x y) ≡ true
  across x y z less off =
      (elim (R z x) as (λ r. R z x ≡ r → is_lt r ≡ false → is_lt (R x y) ≡ true) [
        | Less ↦ λ e off. absurd (true≢false off)
        | Equal ↦ λ e off. ap is_lt (sym (o.congr z x y e)) ∙ less
        | Greater ↦ λ e off. ap is_lt (o.trans x z y (o.antisymm x z ∙ ap ordering_reverse e) (less_is (R z y) less))
      ]) refl off

  -- z is below y only
  low : (x y z : X) (l : List X) → is_lt (R z y) ≡ true → is_lt (R z x) ≡ false → placed R x (placed R y (z ∷ l)) ≡ placed R y (placed R x (z ∷ l))
  low x y z l less off =
      ap (placed R x) (behind R y z l less)
      ∙ in_front R x z (placed R y l) off
      ∙ ap (λ l. x ∷ l) (sym (behind R y z l less))
      ∙ sym (behind R y x (z ∷ l) (across x y z less off))
      ∙ ap (placed R y) (sym (in_front R x z l off))

  -- z is below none of the two, and x is below y
  first : (x y z : X) (l : List X) → is_lt (R z y) ≡ false → is_lt (R z x) ≡ false → is_lt (R x y) ≡ true → placed R x (placed R y (z ∷ l)) ≡ placed R y (placed R x (z ∷ l))
  first x y z l above over less =
      ap (placed R x) (in_front R y z l above)
      ∙ in_front R x y (z ∷ l) (turned x y less)
      ∙ ap (λ l. x ∷ l) (sym (in_front R y z l above))
      ∙ sym (behind R y x (z ∷ l) less)
      ∙ ap (placed R y) (sym (in_front R x z l over))

  pair : (x y : X) → is_lt (R x y) ≡ true → placed R x (y ∷ []) ≡ placed R y (x ∷ [])
  pair x y less = in_front R x y [] (turned x y less) ∙ sym (behind R y x [] less)

  -- two elements may be put in either order
  pub placed_swap : (x y : X) (l : List X) → ¬ (R x y ≡ Equal) → placed R x (placed R y l) ≡ placed R y (placed R x l)
  placed_swap x y [] apart = of_test (is_lt (R x y)) refl
    where
      of_test : (b : Bool) → is_lt (R x y) ≡ b → placed R x (y ∷ []) ≡ placed R y (x ∷ [])
      of_test true less = pair x y less
      of_test false off = sym (pair y x (other x y apart off))
  placed_swap x y (z ∷ l) apart = of_tests (is_lt (R z y)) (is_lt (R z x)) (is_lt (R x y)) refl refl refl (placed_swap x y l apart)
    where
      of_tests : (a b c : Bool) → is_lt (R z y) ≡ a → is_lt (R z x) ≡ b → is_lt (R x y) ≡ c → placed R x (placed R y l) ≡ placed R y (placed R x l) → placed R x (placed R y (z ∷ l)) ≡ placed R y (placed R x (z ∷ l))
      of_tests true true c e f g rest =
          ap (placed R x) (behind R y z l e) ∙ behind R x z (placed R y l) f ∙ ap (λ l. z ∷ l) rest ∙ sym (behind R y z (placed R x l) e) ∙ ap (placed R y) (sym (behind R x z l f))
      of_tests true false c e f g rest = low x y z l e f
      of_tests false true c e f g rest = sym (low y x z l f e)
      of_tests false false true e f g rest = first x y z l e f g
      of_tests false false false e f g rest = sym (first y x z l f e (other x y apart g))
