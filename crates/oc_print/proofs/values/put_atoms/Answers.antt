use Rattle.std.proofs.Common.{codes}
use Rattle.oc_machine.specs.Printing.{atom_text}
use Rattle.oc_print.proofs.Joined.{first_and_others}
use Rattle.oc_print.proofs.values.put_atoms.Goals as goal

pub returns : goal.returns
returns c = first_and_others (codes ", ") atom_text _ _ _ _ _ _ c.in-Some.ensures.cases.0 c.in_ok-put_atom.ensures c.in_ok-put_other_atoms.ensures
