use Rattle.std.proofs.Common.{rules}
use Rattle.oc_marshal.specs.Places.{NothingAt, is_optional, optional_bytes}
use Rattle.oc_marshal.specs.Records.{is_string, string_bytes}
use Rattle.oc_marshal.proofs.Readings.{no_text}
use Rattle.oc_segments.proofs.atoms.atom_at.Goals as goal

pub returns-in_default-clause-none : goal.returns-in_default-clause-none
returns-in_default-clause-none c =
    let none : NothingAt (is_optional is_string) (optional_bytes string_bytes) c.args.bytes.now c.args.at = search rules in
    rw c.in-Text.is (no_text c.args.bytes.now c.args.at none)
