-- The place of an entry parts the others.
use Rattle.std.proofs.Common.{◌≡◌, ◌⊎◌, ◌∙◌, ap, sym, inl, inr, refl}
use Rattle.std.specs.Cmp.{IsTotalOrder}
use Rattle.std.specs.Ordering.{ordering_reverse}
use Rattle.std.specs.declared.cmp.Ordering.{Ordering}
use Rattle.std.specs.declared.cmp.Ordering.TheVariants.{Less, Equal, Greater}

module _ {X : Type 0} (cmp : X → X → Ordering) (o : IsTotalOrder cmp) where
  -- what follows something that is not before s lies behind s
  behind : (s x y : X) → cmp x y ≡ Less → (r : Ordering) → cmp x s ≡ r → (r ≡ Less) ⊎ (cmp y s ≡ Greater)
  behind s x y below Less is = inl cc
  behind s x y below Equal is = inr (o.antisymm y s ∙ ap ordering_reverse (sym (o.congr x s y is) ∙ below))
  behind s x y below Greater is = inr (o.antisymm y s ∙ ap ordering_reverse (o.trans s x y (o.antisymm s x ∙ ap ordering_reverse is) below))

  pub at_parts : (s x y : X) → cmp x y ≡ Less → (cmp x s ≡ Less) ⊎ (cmp y s ≡ Greater)
  at_parts s x y below = behind s x y below (cmp x s) refl
