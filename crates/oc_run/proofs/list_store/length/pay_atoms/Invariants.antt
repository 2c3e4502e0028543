use Rattle.std.proofs.Common.{◌≡◌, ◌+◌, sum_by, drop}
use Rattle.oc_model.specs.Stores.{atom_len}
use Rattle.oc_run.proofs.list_store.length.pay_atoms.Given as goal

abbrev pub invariant-loop-atom : goal.invariant-loop-atom
invariant-loop-atom l = l.left + sum_by (atom_len l.base) l.atoms ≡ l.room + sum_by (atom_len l.base) (drop l.atom-index l.atoms)
