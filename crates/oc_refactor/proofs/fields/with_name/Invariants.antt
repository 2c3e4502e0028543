use Rattle.std.proofs.Common.{◌≡◌, ◌++◌, map, drop}
use Rattle.oc_refactor.specs.Fields.{named_at}
use Rattle.oc_refactor.proofs.fields.with_name.Given as goal

abbrev pub invariant-loop-field : goal.invariant-loop-field
invariant-loop-field l = l.copies ++ map (named_at l.id l.to) (drop l.field-index l.fields) ≡ map (named_at l.id l.to) l.fields
