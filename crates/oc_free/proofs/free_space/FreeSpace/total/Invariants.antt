use Rattle.std.proofs.Common.{◌≡◌, take}
use Rattle.oc_free.specs.FreeParts.{all_blocks}
use Rattle.oc_free.proofs.free_space.FreeSpace.total.Given as goal

-- the blocks of the parts so far
abbrev pub invariant-loop-part : goal.invariant-loop-part
invariant-loop-part l = l.total ≡ all_blocks (take l.part-index l.part-items)
