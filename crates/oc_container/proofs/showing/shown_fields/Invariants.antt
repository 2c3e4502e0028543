use Rattle.std.proofs.Common.{◌≡◌, ◌++◌, drop, map}
use Rattle.oc_container.specs.Asked.{mark_in, shown_field}
use Rattle.oc_container.proofs.showing.shown_fields.Given as goal

abbrev pub invariant-loop-field : goal.invariant-loop-field
invariant-loop-field l = l.shown ++ map (shown_field (mark_in l.store) l.entries) (drop l.field-index l.fields) ≡ map (shown_field (mark_in l.store) l.entries) l.fields
