use Rattle.std.proofs.Common.{sym, subst, arith}
use Rattle.oc_free.specs.FreeParts.{AreFree}
use Rattle.oc_free.specs.Orders.{no_part}
use Rattle.oc_free.proofs.Largest.{blocks_before}
use Rattle.oc_free.proofs.free_space.FreeSpace.total.Goals as goal

-- the blocks so far lie before the part
pub overflow_add-total : goal.overflow_add-total
overflow_add-total c =
    let free = subst AreFree (sym c.deref-part-items.ensures.value) c.self.invariant.free in
    let before = blocks_before _ c.loop-part.part-index free c.loop-part-test.true in
    let part = free.in_range c.loop-part.part-index no_part c.loop-part-test.true in
    omega (arith, c.loop-part.invariant, before, part, c.blocks-in-loop-part.type_inv)
