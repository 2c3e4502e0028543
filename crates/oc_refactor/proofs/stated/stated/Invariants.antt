use Rattle.std.proofs.Common.{◌≡◌, ◌+◌, ◌++◌, length, filter, drop}
use Rattle.oc_model.specs.SchemaSteps.{is_new, stated_fields}
use Rattle.oc_refactor.proofs.stated.stated.Given as goal

abbrev pub invariant-loop-field : goal.invariant-loop-field
invariant-loop-field l =
    let left = drop l.field-index l.declared in
    record {
      fields : l.fields.items ++ stated_fields l.own l.next left ≡ stated_fields l.own l.first l.declared;
      ids : l.next + length (filter (is_new l.own) left) ≡ l.first + length (filter (is_new l.own) l.declared);
    }
