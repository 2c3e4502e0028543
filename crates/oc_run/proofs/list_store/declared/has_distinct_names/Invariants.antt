use Rattle.std.proofs.Common.{◌≡◌, drop, true, map}
use Rattle.std.specs.List.{list_any}
use Rattle.std.specs.HashSet.{contains_by}
use Rattle.oc_model.specs.Maps.{Text, same, are_distinct}
use Rattle.oc_run.proofs.list_store.declared.has_distinct_names.Given as goal

abbrev pub invariant-loop-place : goal.invariant-loop-place
invariant-loop-place l =
    record {
      distinct : are_distinct (map (λ d. d.name) (drop l.place l.decls)) ≡ true;
      seen : (q : Text) → contains_by (λ k. same q k.now) l.later ≡ list_any (same q) (map (λ d. d.name) (drop l.place l.decls));
    }
