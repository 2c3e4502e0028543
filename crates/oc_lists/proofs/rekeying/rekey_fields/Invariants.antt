use Rattle.std.proofs.Common.{◌≡◌, drop, map}
use Rattle.std.specs.List.{list_all}
use Rattle.oc_lists.specs.Moving.{AreMoved}
use Rattle.oc_lists.specs.Staying.{is_off, Stay}
use Rattle.oc_lists.proofs.Refiled.{Comes}
use Rattle.oc_lists.proofs.rekeying.rekey_fields.Given as goal

abbrev pub invariant-loop-field : goal.invariant-loop-field
invariant-loop-field l = record {
  moved : AreMoved l.fn.indexes l.indexes;
  extents : l.indexes.extents ≡ l.fn.indexes.extents;
  stays : Stay (λ id. list_all (is_off id l.old l.new) (map (λ f. f.now) l.fields)) l.fn.indexes l.indexes;
  entries : Comes l.number l.old l.new (map (λ f. f.now) (drop l.field-index l.fields)) (map (λ f. f.now) l.fields) l.fn.indexes l.indexes;
}
