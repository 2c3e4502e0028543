use Rattle.std.proofs.Common.{◌≡◌, refl, ◌<◌, ◌≤◌, ◌+◌, ◌-◌, ap, List, ℕ, length, arith}
use Rattle.std.proofs.lemmas.Bool.Decides.{nat_tests}
use Rattle.oc_model.specs.Space.{Part}
use Rattle.oc_free.specs.FreeParts.{Free, end_of}
use Rattle.oc_free.specs.Orders.{part_at, IsGapFor, IsApartBefore}
use Rattle.oc_free.proofs.Ordered.{grown_before, read_part}
use Rattle.oc_free.proofs.free_space.FreeSpace.join_before.Goals as goal

abbrev Grown : Part → List Part → ℕ → Type 0
Grown p parts place = record { gap : IsGapFor p parts place; before : IsApartBefore p parts place }

-- the part before the place ends where the blocks begin, so they get its front
grown : (c : goal.After-new) → Grown c.new.result c.remove-before.new.self.parts (c.args.place - 1)
grown c =
    let parts = c.args.self.now.parts in
    let some : 1 ≤ c.args.place = omega (arith, c.if-place-eq0.false) in
    let within : c.args.place - 1 < length parts = omega (arith, some, c.requires.gap.within) in
    let listed : c.self.inside.by_address.items ≡ parts = ap (λ (v : Free). v.parts) c.self.view_is in
    let seen : c.index.result.now ≡ part_at parts (c.args.place - 1) = read_part parts (c.args.place - 1) c.index.result.now within (rw (← listed) c.index.ensures) in
    let touches : end_of (part_at parts (c.args.place - 1)) ≡ c.args.part.address = grind (arith, nat_tests, ap end_of seen, c.end.ensures, c.address.ensures, c.if-end-address.false) in
    let made : c.new.result ≡ record { address = (part_at parts (c.args.place - 1)).address; blocks = (part_at parts (c.args.place - 1)).blocks + c.args.part.blocks } = rw (c.new.ensures, c.address-2.ensures, c.blocks-2.ensures, c.blocks-3.ensures, c.remove-before.ensures.part) refl in
    rw (made, c.remove-before.ensures.parts) (grown_before parts c.args.place c.args.part c.remove-before.ensures.free some c.requires.gap touches)

pub returns-clause-gap : goal.returns-clause-gap
returns-clause-gap c = (grown c).gap

pub returns-clause-before : goal.returns-clause-before
returns-clause-before c = (grown c).before
