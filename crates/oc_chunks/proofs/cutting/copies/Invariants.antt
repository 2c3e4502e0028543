use Rattle.std.proofs.Common.{◌≡◌, take}
use Rattle.oc_chunks.proofs.cutting.copies.Given as goal

-- the entries so far
abbrev pub invariant-loop-entry : goal.invariant-loop-entry
invariant-loop-entry g l = l.copies.items ≡ take l.entry-index l.entries
