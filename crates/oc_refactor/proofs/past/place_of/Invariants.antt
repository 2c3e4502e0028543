use Rattle.std.proofs.Common.{◌≡◌, ◌+◌, drop}
use Rattle.oc_refactor.specs.ById.{place_in}
use Rattle.oc_refactor.proofs.past.place_of.Given as goal

abbrev pub invariant-loop-field : goal.invariant-loop-field
invariant-loop-field l =
    record {
      place : l.place + place_in l.id (drop l.field-index l.fields) ≡ place_in l.id l.fields;
      so_far : l.place ≡ l.field-index;
    }
