use Rattle.std.proofs.Common.{◌≡◌, ◌+◌, ◌++◌, drop}
use Rattle.oc_run.specs.ListStore.{new_fields}
use Rattle.oc_run.proofs.list_store.declared.new_fields.Given as goal

abbrev pub invariant-loop-decl : goal.invariant-loop-decl
invariant-loop-decl l =
    record {
      id : l.id ≡ l.first + l.decl-index;
      so_far : l.fields ++ new_fields l.id (drop l.decl-index l.decls) ≡ new_fields l.first l.decls;
    }
