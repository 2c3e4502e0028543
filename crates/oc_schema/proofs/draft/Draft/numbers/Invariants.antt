use Rattle.std.proofs.Common.{◌≡◌, ◌+◌, drop, true, map}
use Rattle.oc_model.specs.Maps.{Text, are_distinct}
use Rattle.oc_model.specs.Schemas.{number_from}
use Rattle.oc_shared.specs.Tables.{value_at}
use Rattle.oc_schema.proofs.draft.Draft.numbers.Given as goal

abbrev pub invariant-loop-place : goal.invariant-loop-place
invariant-loop-place l =
    record {
      distinct : are_distinct (map (λ c. c.name) (drop l.place l.self.classes)) ≡ true;
      table : (q : Text) → value_at l.numbers q ≡ number_from (l.place + 1) (drop l.place l.self.classes) q;
    }
