use Rattle.std.proofs.Common.{◌≡◌, drop, true, nat_cmp}
use Rattle.std.specs.List.{list_any}
use Rattle.std.specs.BTreeSet.{contains_by}
use Rattle.std.specs.Cmp.Lexicographic.{slice_cmp}
use Rattle.oc_model.specs.Maps.{Text, same, are_distinct}
use Rattle.oc_model.specs.SchemaSteps.{names_of}
use Rattle.oc_refactor.proofs.names.are_distinct.Given as goal

abbrev pub invariant-loop-place : goal.invariant-loop-place
invariant-loop-place l =
    record {
      distinct : are_distinct (names_of (drop l.place l.declared)) ≡ true;
      seen : (q : Text) → contains_by (λ k. slice_cmp nat_cmp q k.now) l.later ≡ list_any (same q) (names_of (drop l.place l.declared));
    }
