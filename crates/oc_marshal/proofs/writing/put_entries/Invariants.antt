use Rattle.std.proofs.Common.{◌≡◌, ◌++◌, drop, IsTrue}
use Rattle.std.specs.Prelude.{flat_map}
use Rattle.std.specs.List.{list_all}
use Rattle.oc_model.specs.declared.value.Entry.{Entry}
use Rattle.oc_marshal.specs.Spelling.{entry_bytes, entry_fits, is_small}
use Rattle.oc_marshal.proofs.writing.put_entries.Given as goal

abbrev pub invariant-loop-entry : goal.invariant-loop-entry
invariant-loop-entry l = record {
  bytes : l.out.items ++ flat_map entry_bytes (drop l.entry-index l.entries) ≡ l.fn.out.items ++ flat_map entry_bytes l.entries;
  fits : IsTrue (list_all entry_fits (drop l.entry-index l.entries));
  small : IsTrue (list_all (λ (e : Entry). is_small e.value) (drop l.entry-index l.entries));
}
