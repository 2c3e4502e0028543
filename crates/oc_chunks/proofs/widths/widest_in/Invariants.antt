use Rattle.std.proofs.Common.{◌≤◌, take}
use Rattle.oc_chunks.specs.Cutting.{IsWide}
use Rattle.oc_chunks.proofs.widths.widest_in.Given as goal

-- none so far is wider
abbrev pub invariant-loop-entry : goal.invariant-loop-entry
invariant-loop-entry g l = record {
  wide : IsWide g.E.Entry.bytes l.widest (take l.entry-index l.entries);
  more : l.before ≤ l.widest;
}
