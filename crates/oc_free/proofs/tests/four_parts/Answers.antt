use Rattle.std.proofs.Common.{◌≡◌, refl, arith}
use Rattle.std.proofs.lemmas.Bool.Decides.{nat_tests}
use Rattle.oc_free.specs.FreeParts.{free_at}
use Rattle.oc_free.proofs.tests.four_parts.Goals as goal

-- these are blocks of no earlier part
pub release-requires-2-clause-taken : goal.release-requires-2-clause-taken
release-requires-2-clause-taken c k from to =
    let none : free_at c.reserve.new.self.parts k ≡ 0 = rw (c.reserve.ensures.parts, c.new-free.ensures) refl in
    grind (arith, nat_tests, from, to, none, c.release.ensures.blocks k)

pub release-requires-3-clause-taken : goal.release-requires-3-clause-taken
release-requires-3-clause-taken c k from to =
    let none : free_at c.reserve.new.self.parts k ≡ 0 = rw (c.reserve.ensures.parts, c.new-free.ensures) refl in
    grind (arith, nat_tests, from, to, none, c.release.ensures.blocks k, c.release-2.ensures.blocks k)

pub release-requires-4-clause-taken : goal.release-requires-4-clause-taken
release-requires-4-clause-taken c k from to =
    let none : free_at c.reserve.new.self.parts k ≡ 0 = rw (c.reserve.ensures.parts, c.new-free.ensures) refl in
    grind (arith, nat_tests, from, to, none, c.release.ensures.blocks k, c.release-2.ensures.blocks k, c.release-3.ensures.blocks k)
