use Rattle.std.proofs.Common.{◌≡◌, refl, arith}
use Rattle.std.proofs.lemmas.Bool.Decides.{nat_tests}
use Rattle.oc_free.specs.FreeParts.{free_at}
use Rattle.oc_free.proofs.tests.blocks_join_the_parts_that_they_touch.Goals as goal

-- these are blocks of no earlier part
pub release-requires-2-clause-taken : goal.release-requires-2-clause-taken
release-requires-2-clause-taken g c k from to =
    let none : free_at c.reserve.new.self.parts k ≡ 0 = rw (c.reserve.ensures.parts, c.new-free.ensures) refl in
    grind (arith, nat_tests, from, to, none, c.release.ensures.blocks k)

pub release-requires-3-clause-taken : goal.release-requires-3-clause-taken
release-requires-3-clause-taken g c k from to =
    let none : free_at c.reserve.new.self.parts k ≡ 0 = rw (c.reserve.ensures.parts, c.new-free.ensures) refl in
    grind (arith, nat_tests, from, to, none, c.release.ensures.blocks k, c.release-2.ensures.blocks k)
