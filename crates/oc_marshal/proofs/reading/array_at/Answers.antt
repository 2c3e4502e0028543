use Rattle.std.proofs.Common.{true, rules}
use Rattle.std.specs.Int.{w32}
use Rattle.oc_marshal.specs.Spelling.{atom_bytes, counted}
use Rattle.oc_marshal.specs.Places.{NothingAt, StandsAt, any, flag_bytes}
use Rattle.oc_marshal.specs.Records.{are_items}
use Rattle.oc_marshal.proofs.Parts.{no_flag, no_some}
use Rattle.oc_marshal.proofs.reading.array_at.Goals as goal

pub returns-in_default-clause-none : goal.returns-in_default-clause-none
returns-in_default-clause-none c = no_flag (are_items c.args.base) (counted w32 (atom_bytes c.args.base)) c.args.bytes.now c.args.at c.in_default.ensures.none

pub returns-in_default-2-clause-none : goal.returns-in_default-2-clause-none
returns-in_default-2-clause-none c =
    let base = c.args.base in
    let flag : StandsAt any flag_bytes c.args.bytes.now c.args.at true c.in-Some.from = search rules in
    let none : NothingAt (are_items base) (counted w32 (atom_bytes base)) c.args.bytes.now c.in-Some.from = search rules in
    no_some (are_items base) (counted w32 (atom_bytes base)) c.args.bytes.now c.args.at c.in-Some.from flag none
