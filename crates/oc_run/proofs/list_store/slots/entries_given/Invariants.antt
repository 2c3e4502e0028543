use Rattle.std.proofs.Common.{◌≡◌, drop, length}
use Rattle.oc_run.specs.ListStore.{blank, with_all_given}
use Rattle.oc_run.proofs.list_store.slots.entries_given.Given as goal

abbrev pub invariant-loop-given : goal.invariant-loop-given
invariant-loop-given l =
    record {
      long : length l.slots ≡ length l.fields;
      rest : with_all_given l.fields l.slots (drop l.given-index l.givens) ≡ with_all_given l.fields (blank l.fields) l.givens;
    }
