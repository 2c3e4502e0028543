use Rattle.std.proofs.Common.{◌≡◌, ◌++◌, map, filter, drop}
use Rattle.oc_model.specs.Maps.{is_in}
use Rattle.oc_lists.proofs.indexing.started_of.Given as goal

abbrev pub invariant-loop-field : goal.invariant-loop-field
invariant-loop-field l =
    map (λ f. f.now) l.fields.items ++ filter (λ f. is_in (map (λ e. e.0) l.started) f.id) (map (λ f. f.now) (drop l.field-index l.field-items)) ≡ filter (λ f. is_in (map (λ e. e.0) l.started) f.id) (map (λ f. f.now) l.field-items)
