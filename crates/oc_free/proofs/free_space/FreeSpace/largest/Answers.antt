use Rattle.std.proofs.Common.{◌≡◌, ◌<◌, ◌∙◌, ◌-◌, ap, sym, length, arith}
use Rattle.oc_model.specs.Space.{Part}
use Rattle.oc_free.specs.FreeParts.{Free}
use Rattle.oc_free.specs.Orders.{no_part, part_at}
use Rattle.oc_free.proofs.Largest.{last_is_greatest, last_is_one, none_by_size, none_by_address}
use Rattle.oc_free.proofs.free_space.FreeSpace.largest.Goals as goal

module _ (c : goal.After-blocks-in-Some) where
  some : 0 < length c.self.inside.by_size.items
  some = rw (← c.deref.ensures.value) c.in-Some.ensures.item.3.0

  is_last : (part_at c.self.inside.by_size.items (length c.self.inside.by_size.items - 1)).blocks ≡ c.blocks-in-Some.result
  is_last = rw (c.blocks-in-Some.ensures, ← c.deref.ensures.value) (ap (λ (p : Part). p.blocks) (sym (c.in-Some.ensures.item.3.1 no_part)))

-- the last by size is the largest
pub returns-in-Some-clause-greatest : goal.returns-in-Some-clause-greatest
returns-in-Some-clause-greatest c = rw (← c.self.view_is, ← is_last c) (last_is_greatest _ _ c.self.invariant (some c))

pub returns-in-Some-clause-one : goal.returns-in-Some-clause-one
returns-in-Some-clause-one c any = rw (← c.self.view_is, ← is_last c) (last_is_one _ _ c.self.invariant (some c))

pub returns-in-Some-clause-none : goal.returns-in-Some-clause-none
returns-in-Some-clause-none c empty =
    let none = none_by_address _ _ c.self.invariant (ap length (ap (λ (v : Free). v.parts) c.self.view_is ∙ empty)) in
    absurd (omega (arith, none, some c))

-- there is no part by size, and so none
none : (c : goal.In-None) → length c.args.self.now.parts ≡ 0
none c =
    let listed = ap (λ (v : Free). length v.parts) c.self.view_is in
    let by_size : length c.self.inside.by_size.items ≡ 0 = rw (← c.deref.ensures.value) (omega (arith, c.in-None.ensures.item.3)) in
    let empty = none_by_size _ _ c.self.invariant by_size in
    sym listed ∙ empty

pub returns-in-None-clause-greatest : goal.returns-in-None-clause-greatest
returns-in-None-clause-greatest c k d lt = absurd (omega (arith, none c, lt))

pub returns-in-None-clause-one : goal.returns-in-None-clause-one
returns-in-None-clause-one c any = absurd (omega (arith, none c, any))
