use Rattle.std.proofs.Common.{◌≡◌, refl, arith}
use Rattle.std.proofs.lemmas.Bool.Decides.{nat_tests}
use Rattle.oc_free.specs.FreeParts.{free_at}
use Rattle.oc_free.proofs.tests.parts_with_a_block_between_them_stay_apart.Goals as goal

-- these are blocks of no earlier part
pub release-requires-2-clause-taken : goal.release-requires-2-clause-taken
release-requires-2-clause-taken g c k from to =
    let none : free_at c.reserve.new.self.parts k ≡ 0 = rw (c.reserve.ensures.parts, c.new-free.ensures) refl in
    grind (arith, nat_tests, from, to, none, c.release.ensures.blocks k)
