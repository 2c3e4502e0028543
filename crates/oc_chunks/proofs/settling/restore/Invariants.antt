use Rattle.std.proofs.Common.{◌≡◌, ◌-◌, ◌≤◌, length}
use Rattle.oc_chunks.specs.Pieces.{restored, present, gone}
use Rattle.oc_chunks.proofs.settling.restore.Given as goal

-- what comes of it stays
abbrev pub invariant-loop-part : goal.invariant-loop-part
invariant-loop-part g l = record {
  same : restored g.E.Entry.order (present l.part) (gone l.part) ≡ restored g.E.Entry.order (present l.initial.part) (gone l.initial.part);
  within : l.part.len ≤ length l.part.items.items;
  long : length l.part.items.items ≡ length l.initial.part.items.items;
  number : l.part.number ≡ l.initial.part.number;
  changed : l.part.changed ≡ l.initial.part.changed;
}

abbrev pub decreases-loop-part : goal.decreases-loop-part
decreases-loop-part g l = length l.part.items.items - l.part.len
