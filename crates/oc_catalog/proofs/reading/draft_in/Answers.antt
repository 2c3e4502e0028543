use Rattle.std.proofs.Common.{◌≤◌, length, rules}
use Rattle.std.specs.Int.{w16, w32}
use Rattle.oc_model.specs.Spelling.{class_bytes, counted}
use Rattle.oc_marshal.specs.Places.{NothingAt, StandsAt}
use Rattle.oc_catalog.specs.Drafts.{are_few, are_many, entry_bytes, is_class, is_entry}
use Rattle.oc_catalog.proofs.Drafts.{no_head, no_lists, none_behind, draft_found, draft_only}
use Rattle.oc_catalog.proofs.reading.draft_in.Goals as goal

pub returns-in_default-clause-none : goal.returns-in_default-clause-none
returns-in_default-clause-none c = no_head c.args.bytes.now c.in_default.ensures.none

pub returns-in_default-3-clause-none : goal.returns-in_default-3-clause-none
returns-in_default-3-clause-none c =
    let classes : StandsAt (are_few is_class) (counted w16 class_bytes) c.args.bytes.now c.in-Some.from c.in-Some-2.classes c.in-Some-2.mid = search rules in
    let none : NothingAt (are_many is_entry) (counted w32 entry_bytes) c.args.bytes.now c.in-Some-2.mid = search rules in
    no_lists c.args.bytes.now c.in-Some.from c.in-Some-2.mid (c.in-Some.next, c.in-Some.next_field) c.in-Some-2.classes c.in-Some.ensures.found classes none

pub returns-then-to-bytes-clause-none : goal.returns-then-to-bytes-clause-none
returns-then-to-bytes-clause-none c =
    let classes : StandsAt (are_few is_class) (counted w16 class_bytes) c.args.bytes.now c.in-Some.from c.in-Some-2.classes c.in-Some-2.mid = search rules in
    let lists : StandsAt (are_many is_entry) (counted w32 entry_bytes) c.args.bytes.now c.in-Some-2.mid c.in-Some-3.lists c.in-Some-3.to = search rules in
    none_behind c.args.bytes.now c.in-Some.from c.in-Some-2.mid c.in-Some-3.to (c.in-Some.next, c.in-Some.next_field) c.in-Some-2.classes c.in-Some-3.lists c.in-Some.ensures.found classes lists c.if-to-bytes.true

pub returns-clause-only : goal.returns-clause-only
returns-clause-only c other spells =
    let classes : StandsAt (are_few is_class) (counted w16 class_bytes) c.args.bytes.now c.in-Some.from c.in-Some-2.classes c.in-Some-2.mid = search rules in
    let lists : StandsAt (are_many is_entry) (counted w32 entry_bytes) c.args.bytes.now c.in-Some-2.mid c.in-Some-3.lists c.in-Some-3.to = search rules in
    let end : length c.args.bytes.now ≤ c.in-Some-3.to = search rules in
    draft_only c.args.bytes.now other _ spells
    (draft_found c.args.bytes.now c.in-Some.from c.in-Some-2.mid c.in-Some-3.to (c.in-Some.next, c.in-Some.next_field) c.in-Some-2.classes c.in-Some-3.lists c.in-Some.ensures.found classes lists end)
