use Rattle.std.proofs.Common.{◌≡◌, ◌+◌, drop}
use Rattle.std.specs.List.{list_all, enumerate_from}
use Rattle.oc_schema.specs.ClassRules.{class_keeps}
use Rattle.oc_schema.proofs.class_rules.all_keep_rules.Given as goal

abbrev pub invariant-loop-class : goal.invariant-loop-class
invariant-loop-class l =
    record {
      number : l.number ≡ l.class-index + 1;
      rest : list_all (class_keeps l.next_field) (enumerate_from l.number (drop l.class-index l.classes)) ≡ list_all (class_keeps l.next_field) (enumerate_from 1 l.classes);
    }
