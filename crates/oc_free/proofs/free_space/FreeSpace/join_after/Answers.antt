use Rattle.std.proofs.Common.{◌≡◌, refl, ◌<◌, ◌+◌, subst, ap, List, ℕ, length, arith}
use Rattle.std.proofs.lemmas.Bool.Decides.{nat_tests}
use Rattle.oc_model.specs.Space.{Part}
use Rattle.oc_free.specs.FreeParts.{AreFree, Free, end_of}
use Rattle.oc_free.specs.Orders.{part_at, IsGapFor, IsApartBefore, IsApartAfter}
use Rattle.oc_free.proofs.Ordered.{grown_after, read_part, strictly_behind}
use Rattle.oc_free.proofs.free_space.FreeSpace.join_after.Goals as goal
use Rattle.oc_free.proofs.free_space.FreeSpace.join_after.Goals.{then-place-len-via-then-place-len, then-place-len-via-else-place-len+then-address-end}

abbrev Grown : Part → List Part → ℕ → Type 0
Grown p parts place = record { gap : IsGapFor p parts place; before : IsApartBefore p parts place; after : IsApartAfter p parts place }

-- the part at the place begins where the blocks end, so they get its blocks
grown : (c : goal.After-new) → Grown c.new.result c.remove-after.new.self.parts c.args.place
grown c =
    let parts = c.args.self.now.parts in
    let listed : c.self.inside.by_address.items ≡ parts = ap (λ (v : Free). v.parts) c.self.view_is in
    let within : c.args.place < length parts = grind (arith, nat_tests, c.requires.gap.within, c.if-place-len.false, c.len.ensures, listed) in
    let seen : c.index.result.now ≡ part_at parts c.args.place = read_part parts c.args.place c.index.result.now within (rw (← listed) c.index.ensures) in
    let touches : (part_at parts c.args.place).address ≡ end_of c.args.part = grind (arith, nat_tests, ap (λ (q : Part). q.address) seen, c.end.ensures, c.address.ensures, c.if-address-end.false) in
    let made : c.new.result ≡ record { address = c.args.part.address; blocks = c.args.part.blocks + (part_at parts c.args.place).blocks } = rw (c.new.ensures, c.address-2.ensures, c.blocks-2.ensures, c.blocks-3.ensures, c.remove-after.ensures.part) refl in
    rw (made, c.remove-after.ensures.parts) (grown_after parts c.args.place c.args.part c.remove-after.ensures.free within c.requires.gap c.requires.before touches)

pub returns-clause-gap : goal.returns-clause-gap
returns-clause-gap c = (grown c).gap

pub returns-clause-before : goal.returns-clause-before
returns-clause-before c = (grown c).before

pub returns-clause-after : goal.returns-clause-after
returns-clause-after c = (grown c).after

-- no part begins where the blocks end
pub returns-then-place-len-clause-after : goal.returns-then-place-len-clause-after
returns-then-place-len-clause-after c k le lt =
    let parts = c.args.self.now.parts in
    let listed : c.self.inside.by_address.items ≡ parts = ap (λ (v : Free). v.parts) c.self.view_is in
    let within : c.args.place < length parts = omega (arith, le, lt) in
    elim c.then-place-len.branch [
      | then-place-len-via-then-place-len w ↦ absurd (grind (arith, nat_tests, w.if-place-len.true, c.len.ensures, ap length listed, within))
      | then-place-len-via-else-place-len+then-address-end w ↦
          let seen : w.index.result.now ≡ part_at parts c.args.place = read_part parts c.args.place w.index.result.now within (rw (← listed) w.index.ensures) in
          let apart : (part_at parts c.args.place).address ≡ end_of c.args.part → ⊥ = λ same. grind (arith, nat_tests, ap (λ (q : Part). q.address) seen, w.end.ensures, w.address.ensures, w.if-address-end.true, same) in
          let free = subst AreFree listed c.self.invariant.free in
          strictly_behind parts c.args.place c.args.part free within c.requires.gap apart k le lt
    ]
