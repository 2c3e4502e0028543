use Rattle.std.proofs.Common.{rules}
use Rattle.std.specs.Int.{w32}
use Rattle.oc_marshal.specs.Spelling.{atom_bytes, counted}
use Rattle.oc_marshal.specs.Places.{NothingAt, StandsAt, is_optional, optional_bytes}
use Rattle.oc_marshal.specs.Records.{are_items, is_atom}
use Rattle.oc_marshal.proofs.Readings.{no_value, no_array, array_found}
use Rattle.oc_marshal.proofs.reading.value_at.Goals as goal

pub returns-in_default-clause-none : goal.returns-in_default-clause-none
returns-in_default-clause-none c =
    let base = c.in-One.base in
    let none : NothingAt (is_atom base) (atom_bytes base) c.args.bytes.now c.args.at = search rules in
    no_value c.args.kind base c.args.bytes.now c.args.at c.in-One.is none

pub returns-in_default-2-clause-none : goal.returns-in_default-2-clause-none
returns-in_default-2-clause-none c =
    let base = c.in-Many.base in
    let none : NothingAt (is_optional (are_items base)) (optional_bytes (counted w32 (atom_bytes base))) c.args.bytes.now c.args.at = search rules in
    no_array c.args.kind base c.args.bytes.now c.args.at c.in-Many.is none

pub returns-in-Some-2-clause-found : goal.returns-in-Some-2-clause-found
returns-in-Some-2-clause-found c =
    let base = c.in-Many.base in
    let found : StandsAt (is_optional (are_items base)) (optional_bytes (counted w32 (atom_bytes base))) c.args.bytes.now c.args.at c.in-Some-2.atoms c.in-Some-2.to = search rules in
    array_found c.args.kind base c.args.bytes.now c.args.at c.in-Some-2.to c.in-Some-2.atoms c.in-Many.is found
