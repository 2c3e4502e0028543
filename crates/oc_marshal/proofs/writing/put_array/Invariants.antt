use Rattle.std.proofs.Common.{◌≡◌, ◌++◌, drop, IsTrue}
use Rattle.std.specs.Prelude.{flat_map}
use Rattle.std.specs.List.{list_all}
use Rattle.oc_marshal.specs.Values.{fits_base}
use Rattle.oc_marshal.specs.Spelling.{atom_bytes, is_small_atom}
use Rattle.oc_marshal.proofs.writing.put_array.Given as goal

abbrev pub invariant-loop-atom : goal.invariant-loop-atom
invariant-loop-atom l = record {
  bytes : l.out.items ++ flat_map (atom_bytes l.base) (drop l.atom-index l.atoms) ≡ l.initial.out.items ++ flat_map (atom_bytes l.base) l.atoms;
  fits : IsTrue (list_all (fits_base l.base) (drop l.atom-index l.atoms));
  small : IsTrue (list_all is_small_atom (drop l.atom-index l.atoms));
}
