use Rattle.std.proofs.Common.{◌≡◌, ◌∙◌, [], ◌∷◌, length, sym, ap, arith, length-append}
use Rattle.std.specs.Option.{option_flatten}
use Rattle.oc_room.specs.Rooms.{owners}
use Rattle.oc_slots.specs.Slots.{cell_list}
use Rattle.oc_slots.specs.Noting.{noted_cells}
use Rattle.oc_slots.proofs.Noted.{put_fresh, fresh_contained, owners_append, few_noted, noted_some, noted_within, noted_taken, noted_one}
use Rattle.oc_slots.proofs.noting.note.Goals as goal

pub overflow_add-fresh : goal.overflow_add-fresh
overflow_add-fresh c =
    let few = few_noted c.args.overlay.now c.args.room.now c.args.fresh.now (cell_list c.args.cell) c.requires.session in
    omega (arith, few, c.requires.session.count, c.requires.session.is_room.end, c.requires.session.is_room.limit, c.count_of.ensures)

pub overflow_sub-fresh : goal.overflow_sub-fresh
overflow_sub-fresh c =
    let same : cell_list c.flatten-before.result ≡ noted_cells c.args.overlay.now c.args.id = ap cell_list (c.flatten-before.ensures ∙ ap option_flatten c.put.ensures.was) in
    omega (arith, put_fresh length length-append c.args.overlay.now c.put.new.self c.args.id c.args.cell c.put.ensures.changes, ap length same, c.requires.session.count, c.count_of.ensures, c.count_of-2.ensures)

pub release-requires-clause-spare : goal.release-requires-clause-spare
release-requires-clause-spare c =
    let is = c.requires.session in
    omega (arith, is.spare, is.count, noted_one c.args.overlay.now c.args.room.now c.args.fresh.now (cell_list c.args.cell) is c.args.id c.in-Some.old (sym (c.flatten-before.ensures ∙ ap option_flatten c.put.ensures.was) ∙ c.in-Some.is))

pub release-requires-clause-some : goal.release-requires-clause-some
release-requires-clause-some c = noted_some c.args.overlay.now c.args.room.now c.args.fresh.now (cell_list c.args.cell) c.requires.session c.args.id c.in-Some.old (sym (c.flatten-before.ensures ∙ ap option_flatten c.put.ensures.was) ∙ c.in-Some.is)

pub release-requires-clause-within : goal.release-requires-clause-within
release-requires-clause-within c = noted_within c.args.overlay.now c.args.room.now c.args.fresh.now (cell_list c.args.cell) c.requires.session c.args.id c.in-Some.old (sym (c.flatten-before.ensures ∙ ap option_flatten c.put.ensures.was) ∙ c.in-Some.is)

pub release-requires-clause-taken : goal.release-requires-clause-taken
release-requires-clause-taken c = noted_taken c.args.overlay.now c.args.room.now c.args.fresh.now (cell_list c.args.cell) c.requires.session c.args.id c.in-Some.old (sym (c.flatten-before.ensures ∙ ap option_flatten c.put.ensures.was) ∙ c.in-Some.is)

pub returns-in-Some-clause-moved : goal.returns-in-Some-clause-moved
returns-in-Some-clause-moved c k =
    let u = c.args.room.now.unit in
    let same : noted_cells c.args.overlay.now c.args.id ≡ c.in-Some.old ∷ [] = ap cell_list (sym (c.flatten-before.ensures ∙ ap option_flatten c.put.ensures.was) ∙ c.in-Some.is) in
    omega (arith, put_fresh (λ xs. owners u xs k) (owners_append u k) c.args.overlay.now c.put.new.self c.args.id c.args.cell c.put.ensures.changes, ap (λ l. owners u l k) same, c.release.ensures.parts k)

pub returns-in-Some-clause-members : goal.returns-in-Some-clause-members
returns-in-Some-clause-members c x = fresh_contained c.args.overlay.now c.put.new.self c.args.id c.args.cell c.put.ensures.changes x

pub returns-in-Some-clause-count : goal.returns-in-Some-clause-count
returns-in-Some-clause-count c =
    let same : cell_list c.flatten-before.result ≡ noted_cells c.args.overlay.now c.args.id = ap cell_list (c.flatten-before.ensures ∙ ap option_flatten c.put.ensures.was) in
    omega (arith, put_fresh length length-append c.args.overlay.now c.put.new.self c.args.id c.args.cell c.put.ensures.changes, ap length same, c.requires.session.count, c.count_of.ensures, c.count_of-2.ensures)

pub returns-in-Some-clause-spare : goal.returns-in-Some-clause-spare
returns-in-Some-clause-spare c =
    let is = c.requires.session in
    let old : cell_list c.flatten-before.result ≡ c.in-Some.old ∷ [] = ap cell_list c.in-Some.is in
    let one = noted_one c.args.overlay.now c.args.room.now c.args.fresh.now (cell_list c.args.cell) is c.args.id c.in-Some.old (sym (c.flatten-before.ensures ∙ ap option_flatten c.put.ensures.was) ∙ c.in-Some.is) in
    omega (arith, ap length old, c.count_of.ensures, c.count_of-2.ensures, c.release.ensures.spare, is.count, one)

pub returns-in_default-clause-moved : goal.returns-in_default-clause-moved
returns-in_default-clause-moved c k =
    let u = c.args.room.now.unit in
    let same : noted_cells c.args.overlay.now c.args.id ≡ [] = ap cell_list (sym (c.flatten-before.ensures ∙ ap option_flatten c.put.ensures.was) ∙ c.in_default.is) in
    omega (arith, put_fresh (λ xs. owners u xs k) (owners_append u k) c.args.overlay.now c.put.new.self c.args.id c.args.cell c.put.ensures.changes, ap (λ l. owners u l k) same)

pub returns-in_default-clause-members : goal.returns-in_default-clause-members
returns-in_default-clause-members c x = fresh_contained c.args.overlay.now c.put.new.self c.args.id c.args.cell c.put.ensures.changes x

pub returns-in_default-clause-count : goal.returns-in_default-clause-count
returns-in_default-clause-count c =
    let same : cell_list c.flatten-before.result ≡ noted_cells c.args.overlay.now c.args.id = ap cell_list (c.flatten-before.ensures ∙ ap option_flatten c.put.ensures.was) in
    omega (arith, put_fresh length length-append c.args.overlay.now c.put.new.self c.args.id c.args.cell c.put.ensures.changes, ap length same, c.requires.session.count, c.count_of.ensures, c.count_of-2.ensures)
