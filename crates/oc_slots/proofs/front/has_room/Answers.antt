use Rattle.std.proofs.Common.{rules}
use Rattle.oc_room.proofs.Counting.{rounded_up}
use Rattle.oc_layout.specs.Layout.{unit_of}
use Rattle.oc_slots.proofs.Headers.{unit_some}
use Rattle.oc_slots.proofs.front.has_room.Goals as goal

pub returns-clause-no : goal.returns-clause-no
returns-clause-no c no_ le =
    let h = c.args.header.now in
    let whole = rounded_up (unit_of h) c.args.len (unit_some h c.requires) in
    search (rules, le, whole, no_)
