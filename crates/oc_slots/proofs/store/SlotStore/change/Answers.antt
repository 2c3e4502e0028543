use Rattle.std.proofs.Common.{◌≡◌, ◌≢◌, ◌∙◌, inr, Result, Ok, Err, ◌+◌, ◌++◌, get_or, sym, ap, subst, refl}
use Rattle.std.specs.Prelude.{All, Contains, is_some}
use Rattle.std.specs.Map.{keys_of}
use Rattle.std.specs.Result.{OnErr}
use Rattle.oc_layout.specs.declared.cells.Space.TheVariants.{Objects, System}
use Rattle.oc_layout.specs.Layout.{unit_of}
use Rattle.oc_free.specs.FreeParts.{free_at}
use Rattle.oc_host.specs.Disk.{LeavesOnly}
use Rattle.oc_host.proofs.Moments.{said_stays}
use Rattle.oc_room.specs.Rooms.{owners}
use Rattle.oc_slots.specs.Maps.{Same, changed, has_after}
use Rattle.oc_slots.specs.Slots.{changes_of, cells_of, slots_of}
use Rattle.oc_slots.specs.Stores.{Slots, Agrees, ArePlaces, AreRead, IsPlace, IsUnchanged, changes_in, fresh_of, session, session_place, committed, kept, parts}
use Rattle.oc_slots.specs.Cached.{Cached, AreThose, without}
use Rattle.oc_slots.specs.Noting.{noted, left_by, IsSession}
use Rattle.oc_slots.specs.Pieces.{IsPlanned, as_pieces, over_all}
use Rattle.oc_slots.specs.Writing.{Before, Keeps}
use Rattle.oc_slots.proofs.Fetches.{agrees_bare, agrees_with}
use Rattle.oc_slots.proofs.KeptPlaces.{place_same}
use Rattle.oc_slots.proofs.KeptSteps.{places_after, those_after, reads_after}
use Rattle.oc_slots.proofs.SessionChange.{whole_same}
use Rattle.oc_slots.proofs.SessionSteps.{seen, few_fresh, IsPlaced, IsNoted, ready, whole_after, fits, frees, agrees_after, session_after, there_after, untouched_after}
use Rattle.oc_slots.proofs.store.SlotStore.change.Goals as goal

on_err : {T E P : Type 0} → (r : Result T E) → P → OnErr r P
on_err (Ok x) p = tt
on_err (Err e) p = p

pub place_changes-requires-clause-few : goal.place_changes-requires-clause-few
place_changes-requires-clause-few g_ c = few_fresh c.self.inside.header c.self.inside.pages c.self.inside.overlay c.self.inside.room c.self.inside.fresh c.self.inside.len c.self.invariant.0

pub invariant_of-self : goal.invariant_of-self
invariant_of-self g_ c =
    let s = c.self.inside in (
      whole_same s.header s.pages s.overlay c.place_changes.new.overlay s.room c.place_changes.new.room s.fresh s.len c.self.invariant.0 c.in_err-placed.ensures.fault c.in_err-placed.ensures.is_room c.in_err-placed.ensures.spare c.in_err-placed.ensures.same,
      λ k d lt. place_same s.header s.pages s.overlay c.place_changes.new.overlay s.room c.place_changes.new.room s.len s.len (get_or s.cache k d).0 c.in_err-placed.ensures.same (c.self.invariant.1 k d lt),
    )

pub returns-in_err-placed-clause-unchanged : goal.returns-in_err-placed-clause-unchanged
returns-in_err-placed-clause-unchanged g_ c =
    let s = c.self.inside in
    let er = c.in_err-placed.ensures in
    let new = parts s.header s.pages c.place_changes.new.overlay c.place_changes.new.room s.len s.cache in
    let same : IsUnchanged (parts s.header s.pages s.overlay s.room s.len s.cache) new =
    record { header = refl; pages = refl; objects = er.same Objects; system = er.same System; room = er.fault; len = refl; cached = refl } in
    on_err c.from_residual.result (inr (subst (λ v. IsUnchanged v new) c.self.view_is same, refl))

pub note_all-requires-clause-session : goal.note_all-requires-clause-session
note_all-requires-clause-session g_ c =
    let s = c.self.inside in
    let ps = c.in_ok-placed.field-0.placed.items in
    let planned = c.in_ok-placed.field-0.planned in
    let pl = c.in_ok-placed.ensures in
    let f : IsPlaced s.header s.pages s.overlay c.place_changes.new.overlay s.room c.place_changes.new.room s.fresh s.len c.args.changes.items ps planned = record {
      whole = c.self.invariant.0;
      is = c.requires.changes;
      are = pl.changes;
      sizes = pl.sizes;
      opened = pl.open;
      back = pl.back;
      plan = subst (λ u. IsPlanned u s.len (slots_of ps) planned) c.unit-unit.ensures pl.planned;
      spare = pl.room_spare;
      same = pl.same;
      unit = pl.unit;
      limit = pl.limit;
      is_room = pl.is_room;
    } in
    subst (λ l. IsSession c.place_changes.new.overlay c.place_changes.new.room s.fresh (cells_of l)) (sym c.deref-2.ensures.value) (ready s.header s.pages s.overlay c.place_changes.new.overlay s.room c.place_changes.new.room s.fresh s.len c.args.changes.items ps planned f)

pub write_runs-requires : goal.write_runs-requires
write_runs-requires g_ c told =
    let s = c.self.inside in
    let ps = c.in_ok-placed.field-0.placed.items in
    let planned = c.in_ok-placed.field-0.planned in
    let pl = c.in_ok-placed.ensures in
    let f : IsPlaced s.header s.pages s.overlay c.place_changes.new.overlay s.room c.place_changes.new.room s.fresh s.len c.args.changes.items ps planned = record {
      whole = c.self.invariant.0;
      is = c.requires.changes;
      are = pl.changes;
      sizes = pl.sizes;
      opened = pl.open;
      back = pl.back;
      plan = subst (λ u. IsPlanned u s.len (slots_of ps) planned) c.unit-unit.ensures pl.planned;
      spare = pl.room_spare;
      same = pl.same;
      unit = pl.unit;
      limit = pl.limit;
      is_room = pl.is_room;
    } in
    let old = g_.H.Host.disk c.args.host.now in
    let agreed : Agrees (parts s.header s.pages s.overlay s.room s.len s.cache) old = subst (λ v. Agrees v old) (sym c.self.view_is) (c.requires.agrees told) in
    let agrees : Agrees (seen s.header s.pages s.overlay s.room s.len) old = agrees_bare (parts s.header s.pages s.overlay s.room s.len s.cache) old agreed in
    subst (λ l. Rattle.oc_slots.specs.Pieces.Fit (as_pieces l) old.bytes) (sym c.deref-3.ensures.value) (fits s.header s.pages s.overlay c.place_changes.new.overlay s.room c.place_changes.new.room s.fresh s.len c.args.changes.items ps planned f old agrees)

pub invariant_of-self-in_err-write_runs : goal.invariant_of-self-in_err-write_runs
invariant_of-self-in_err-write_runs g_ c =
    let s = c.self.inside in
    let ps = c.in_ok-placed.field-0.placed.items in
    let planned = c.in_ok-placed.field-0.planned in
    let pl = c.in_ok-placed.ensures in
    let f : IsPlaced s.header s.pages s.overlay c.place_changes.new.overlay s.room c.place_changes.new.room s.fresh s.len c.args.changes.items ps planned = record {
      whole = c.self.invariant.0;
      is = c.requires.changes;
      are = pl.changes;
      sizes = pl.sizes;
      opened = pl.open;
      back = pl.back;
      plan = subst (λ u. IsPlanned u s.len (slots_of ps) planned) c.unit-unit.ensures pl.planned;
      spare = pl.room_spare;
      same = pl.same;
      unit = pl.unit;
      limit = pl.limit;
      is_room = pl.is_room;
    } in
    let no = c.note_all.ensures in
    let same_ps = c.deref-2.ensures.value in
    let g : IsNoted c.place_changes.new.overlay c.note_all.new.overlay c.place_changes.new.room c.note_all.new.room c.note_all.new.fresh ps = record {
      session = no.session;
      changes_are = λ space. no.changes space ∙ ap (λ l. noted l space (changes_of c.place_changes.new.overlay space)) same_ps;
      moved = λ k. no.moved k ∙ ap (λ l. free_at c.place_changes.new.room.parts k + owners c.place_changes.new.room.unit (fresh_of c.place_changes.new.overlay) k + owners c.place_changes.new.room.unit (cells_of l) k) same_ps;
      members = λ x there. subst (λ l. Contains (fresh_of c.place_changes.new.overlay ++ cells_of l) x) same_ps (no.members x there);
      unit = no.unit;
      end = no.end;
      limit = no.limit;
    } in (
      whole_after s.header s.pages s.overlay c.place_changes.new.overlay s.room c.place_changes.new.room s.fresh s.len c.args.changes.items ps planned f c.note_all.new.overlay c.note_all.new.room c.note_all.new.fresh g,
      subst (ArePlaces (seen s.header s.pages c.note_all.new.overlay c.note_all.new.room planned.end)) (sym (c.forget_changed.ensures ∙ ap (λ l. without (left_by c.place_changes.new.overlay l) s.cache) c.deref.ensures.value))
          (places_after s.header s.pages s.overlay c.place_changes.new.overlay s.room c.place_changes.new.room s.fresh s.len c.args.changes.items ps planned f s.cache c.self.invariant.1 c.note_all.new.overlay c.note_all.new.room c.note_all.new.fresh g),
    )

pub invariant_of-self-2 : goal.invariant_of-self-2
invariant_of-self-2 g_ c =
    let s = c.self.inside in
    let ps = c.in_ok-placed.field-0.placed.items in
    let planned = c.in_ok-placed.field-0.planned in
    let pl = c.in_ok-placed.ensures in
    let f : IsPlaced s.header s.pages s.overlay c.place_changes.new.overlay s.room c.place_changes.new.room s.fresh s.len c.args.changes.items ps planned = record {
      whole = c.self.invariant.0;
      is = c.requires.changes;
      are = pl.changes;
      sizes = pl.sizes;
      opened = pl.open;
      back = pl.back;
      plan = subst (λ u. IsPlanned u s.len (slots_of ps) planned) c.unit-unit.ensures pl.planned;
      spare = pl.room_spare;
      same = pl.same;
      unit = pl.unit;
      limit = pl.limit;
      is_room = pl.is_room;
    } in
    let no = c.note_all.ensures in
    let same_ps = c.deref-2.ensures.value in
    let g : IsNoted c.place_changes.new.overlay c.note_all.new.overlay c.place_changes.new.room c.note_all.new.room c.note_all.new.fresh ps = record {
      session = no.session;
      changes_are = λ space. no.changes space ∙ ap (λ l. noted l space (changes_of c.place_changes.new.overlay space)) same_ps;
      moved = λ k. no.moved k ∙ ap (λ l. free_at c.place_changes.new.room.parts k + owners c.place_changes.new.room.unit (fresh_of c.place_changes.new.overlay) k + owners c.place_changes.new.room.unit (cells_of l) k) same_ps;
      members = λ x there. subst (λ l. Contains (fresh_of c.place_changes.new.overlay ++ cells_of l) x) same_ps (no.members x there);
      unit = no.unit;
      end = no.end;
      limit = no.limit;
    } in (
      whole_after s.header s.pages s.overlay c.place_changes.new.overlay s.room c.place_changes.new.room s.fresh s.len c.args.changes.items ps planned f c.note_all.new.overlay c.note_all.new.room c.note_all.new.fresh g,
      subst (ArePlaces (seen s.header s.pages c.note_all.new.overlay c.note_all.new.room planned.end)) (sym (c.forget_changed.ensures ∙ ap (λ l. without (left_by c.place_changes.new.overlay l) s.cache) c.deref.ensures.value))
          (places_after s.header s.pages s.overlay c.place_changes.new.overlay s.room c.place_changes.new.room s.fresh s.len c.args.changes.items ps planned f s.cache c.self.invariant.1 c.note_all.new.overlay c.note_all.new.room c.note_all.new.fresh g),
    )

pub returns-in_err-write_runs-clause-any_moment : goal.returns-in_err-write_runs-clause-any_moment
returns-in_err-write_runs-clause-any_moment g_ c told =
    let s = c.self.inside in
    let ps = c.in_ok-placed.field-0.placed.items in
    let planned = c.in_ok-placed.field-0.planned in
    let pl = c.in_ok-placed.ensures in
    let f : IsPlaced s.header s.pages s.overlay c.place_changes.new.overlay s.room c.place_changes.new.room s.fresh s.len c.args.changes.items ps planned = record {
      whole = c.self.invariant.0;
      is = c.requires.changes;
      are = pl.changes;
      sizes = pl.sizes;
      opened = pl.open;
      back = pl.back;
      plan = subst (λ u. IsPlanned u s.len (slots_of ps) planned) c.unit-unit.ensures pl.planned;
      spare = pl.room_spare;
      same = pl.same;
      unit = pl.unit;
      limit = pl.limit;
      is_room = pl.is_room;
    } in
    let old = g_.H.Host.disk c.args.host.now in
    let agreed : Agrees (parts s.header s.pages s.overlay s.room s.len s.cache) old = subst (λ v. Agrees v old) (sym c.self.view_is) (c.requires.agrees told) in
    let agrees : Agrees (seen s.header s.pages s.overlay s.room s.len) old = agrees_bare (parts s.header s.pages s.overlay s.room s.len s.cache) old agreed in
    let new = g_.H.Host.disk c.write_runs.new.host in
    let runs = c.deref-3.ensures.value in
    subst (λ (v : Slots). LeavesOnly old new (Before v.header v.pages old)) c.self.view_is
    (c.write_runs.ensures.any_moment told s.header s.pages.pages (subst (λ l. Rattle.oc_slots.specs.Writing.AreFree s.header s.pages.pages (as_pieces l)) (sym runs) (frees s.header s.pages s.overlay c.place_changes.new.overlay s.room c.place_changes.new.room s.fresh s.len c.args.changes.items ps planned f old agrees)) agrees.holds)

pub returns-clause-any_moment : goal.returns-clause-any_moment
returns-clause-any_moment g_ c told =
    let s = c.self.inside in
    let ps = c.in_ok-placed.field-0.placed.items in
    let planned = c.in_ok-placed.field-0.planned in
    let pl = c.in_ok-placed.ensures in
    let f : IsPlaced s.header s.pages s.overlay c.place_changes.new.overlay s.room c.place_changes.new.room s.fresh s.len c.args.changes.items ps planned = record {
      whole = c.self.invariant.0;
      is = c.requires.changes;
      are = pl.changes;
      sizes = pl.sizes;
      opened = pl.open;
      back = pl.back;
      plan = subst (λ u. IsPlanned u s.len (slots_of ps) planned) c.unit-unit.ensures pl.planned;
      spare = pl.room_spare;
      same = pl.same;
      unit = pl.unit;
      limit = pl.limit;
      is_room = pl.is_room;
    } in
    let old = g_.H.Host.disk c.args.host.now in
    let agreed : Agrees (parts s.header s.pages s.overlay s.room s.len s.cache) old = subst (λ v. Agrees v old) (sym c.self.view_is) (c.requires.agrees told) in
    let agrees : Agrees (seen s.header s.pages s.overlay s.room s.len) old = agrees_bare (parts s.header s.pages s.overlay s.room s.len s.cache) old agreed in
    let new = g_.H.Host.disk c.write_runs.new.host in
    let runs = c.deref-3.ensures.value in
    subst (λ (v : Slots). LeavesOnly old new (Before v.header v.pages old)) c.self.view_is
    (c.write_runs.ensures.any_moment told s.header s.pages.pages (subst (λ l. Rattle.oc_slots.specs.Writing.AreFree s.header s.pages.pages (as_pieces l)) (sym runs) (frees s.header s.pages s.overlay c.place_changes.new.overlay s.room c.place_changes.new.room s.fresh s.len c.args.changes.items ps planned f old agrees)) agrees.holds)

pub returns-in_err-write_runs-clause-said : goal.returns-in_err-write_runs-clause-said
returns-in_err-write_runs-clause-said g_ c told =
    said_stays (g_.H.Host.disk c.args.host.now) (g_.H.Host.disk c.write_runs.new.host) _ (returns-in_err-write_runs-clause-any_moment g_ c told) (g_.met.H.Host.sound c.write_runs.new.host told) (λ image said b. b.0)

pub returns-clause-said : goal.returns-clause-said
returns-clause-said g_ c told =
    said_stays (g_.H.Host.disk c.args.host.now) (g_.H.Host.disk c.write_runs.new.host) _ (returns-clause-any_moment g_ c told) (g_.met.H.Host.sound c.write_runs.new.host told) (λ image said b. b.0)

pub returns-clause-agrees : goal.returns-clause-agrees
returns-clause-agrees g_ c told =
    let s = c.self.inside in
    let ps = c.in_ok-placed.field-0.placed.items in
    let planned = c.in_ok-placed.field-0.planned in
    let pl = c.in_ok-placed.ensures in
    let f : IsPlaced s.header s.pages s.overlay c.place_changes.new.overlay s.room c.place_changes.new.room s.fresh s.len c.args.changes.items ps planned = record {
      whole = c.self.invariant.0;
      is = c.requires.changes;
      are = pl.changes;
      sizes = pl.sizes;
      opened = pl.open;
      back = pl.back;
      plan = subst (λ u. IsPlanned u s.len (slots_of ps) planned) c.unit-unit.ensures pl.planned;
      spare = pl.room_spare;
      same = pl.same;
      unit = pl.unit;
      limit = pl.limit;
      is_room = pl.is_room;
    } in
    let no = c.note_all.ensures in
    let same_ps = c.deref-2.ensures.value in
    let g : IsNoted c.place_changes.new.overlay c.note_all.new.overlay c.place_changes.new.room c.note_all.new.room c.note_all.new.fresh ps = record {
      session = no.session;
      changes_are = λ space. no.changes space ∙ ap (λ l. noted l space (changes_of c.place_changes.new.overlay space)) same_ps;
      moved = λ k. no.moved k ∙ ap (λ l. free_at c.place_changes.new.room.parts k + owners c.place_changes.new.room.unit (fresh_of c.place_changes.new.overlay) k + owners c.place_changes.new.room.unit (cells_of l) k) same_ps;
      members = λ x there. subst (λ l. Contains (fresh_of c.place_changes.new.overlay ++ cells_of l) x) same_ps (no.members x there);
      unit = no.unit;
      end = no.end;
      limit = no.limit;
    } in
    let old = g_.H.Host.disk c.args.host.now in
    let agreed : Agrees (parts s.header s.pages s.overlay s.room s.len s.cache) old = subst (λ v. Agrees v old) (sym c.self.view_is) (c.requires.agrees told) in
    let agrees : Agrees (seen s.header s.pages s.overlay s.room s.len) old = agrees_bare (parts s.header s.pages s.overlay s.room s.len s.cache) old agreed in
    let new = g_.H.Host.disk c.write_runs.new.host in
    let runs = c.deref-3.ensures.value in
    let free = subst (λ l. Rattle.oc_slots.specs.Writing.AreFree s.header s.pages.pages (as_pieces l)) (sym runs) (frees s.header s.pages s.overlay c.place_changes.new.overlay s.room c.place_changes.new.room s.fresh s.len c.args.changes.items ps planned f old agrees) in
    let wrote = c.in_ok-write_runs.ensures.bytes told ∙ ap (λ l. over_all (as_pieces l) old.bytes) runs in
    let keeps = c.in_ok-write_runs.ensures.keeps told s.header s.pages.pages free in
    let gone = c.forget_changed.ensures ∙ ap (λ l. without (left_by c.place_changes.new.overlay l) s.cache) c.deref.ensures.value in
    agrees_with (seen s.header s.pages c.note_all.new.overlay c.note_all.new.room planned.end) new c.forget_changed.new.cache
    (agrees_after s.header s.pages s.overlay c.place_changes.new.overlay s.room c.place_changes.new.room s.fresh s.len c.args.changes.items ps planned f old agrees c.note_all.new.overlay c.note_all.new.room c.note_all.new.fresh g new wrote keeps)
    (subst (AreRead (unit_of s.header) new.bytes) (sym gone)
    (reads_after s.header s.pages s.overlay c.place_changes.new.overlay s.room c.place_changes.new.room s.fresh s.len c.args.changes.items ps planned f s.cache c.self.invariant.1 old agrees new wrote keeps (left_by c.place_changes.new.overlay ps) agreed.cached))

pub returns-clause-session : goal.returns-clause-session
returns-clause-session g_ c told =
    let s = c.self.inside in
    let ps = c.in_ok-placed.field-0.placed.items in
    let planned = c.in_ok-placed.field-0.planned in
    let pl = c.in_ok-placed.ensures in
    let f : IsPlaced s.header s.pages s.overlay c.place_changes.new.overlay s.room c.place_changes.new.room s.fresh s.len c.args.changes.items ps planned = record {
      whole = c.self.invariant.0;
      is = c.requires.changes;
      are = pl.changes;
      sizes = pl.sizes;
      opened = pl.open;
      back = pl.back;
      plan = subst (λ u. IsPlanned u s.len (slots_of ps) planned) c.unit-unit.ensures pl.planned;
      spare = pl.room_spare;
      same = pl.same;
      unit = pl.unit;
      limit = pl.limit;
      is_room = pl.is_room;
    } in
    let no = c.note_all.ensures in
    let same_ps = c.deref-2.ensures.value in
    let g : IsNoted c.place_changes.new.overlay c.note_all.new.overlay c.place_changes.new.room c.note_all.new.room c.note_all.new.fresh ps = record {
      session = no.session;
      changes_are = λ space. no.changes space ∙ ap (λ l. noted l space (changes_of c.place_changes.new.overlay space)) same_ps;
      moved = λ k. no.moved k ∙ ap (λ l. free_at c.place_changes.new.room.parts k + owners c.place_changes.new.room.unit (fresh_of c.place_changes.new.overlay) k + owners c.place_changes.new.room.unit (cells_of l) k) same_ps;
      members = λ x there. subst (λ l. Contains (fresh_of c.place_changes.new.overlay ++ cells_of l) x) same_ps (no.members x there);
      unit = no.unit;
      end = no.end;
      limit = no.limit;
    } in
    let old = g_.H.Host.disk c.args.host.now in
    let agreed : Agrees (parts s.header s.pages s.overlay s.room s.len s.cache) old = subst (λ v. Agrees v old) (sym c.self.view_is) (c.requires.agrees told) in
    let agrees : Agrees (seen s.header s.pages s.overlay s.room s.len) old = agrees_bare (parts s.header s.pages s.overlay s.room s.len s.cache) old agreed in
    let new = g_.H.Host.disk c.write_runs.new.host in
    let runs = c.deref-3.ensures.value in
    let free = subst (λ l. Rattle.oc_slots.specs.Writing.AreFree s.header s.pages.pages (as_pieces l)) (sym runs) (frees s.header s.pages s.overlay c.place_changes.new.overlay s.room c.place_changes.new.room s.fresh s.len c.args.changes.items ps planned f old agrees) in
    subst (λ (v : Slots). Same (session (seen s.header s.pages c.note_all.new.overlay c.note_all.new.room planned.end) new) (changed c.args.changes.items (session v old))) c.self.view_is
    (session_after s.header s.pages s.overlay c.place_changes.new.overlay s.room c.place_changes.new.room s.fresh s.len c.args.changes.items ps planned f old agrees c.note_all.new.overlay c.note_all.new.room c.note_all.new.fresh g new (c.in_ok-write_runs.ensures.bytes told ∙ ap (λ l. over_all (as_pieces l) old.bytes) runs) (c.in_ok-write_runs.ensures.keeps told s.header s.pages.pages free))

pub returns-clause-committed : goal.returns-clause-committed
returns-clause-committed g_ c told =
    let s = c.self.inside in
    let ps = c.in_ok-placed.field-0.placed.items in
    let planned = c.in_ok-placed.field-0.planned in
    let pl = c.in_ok-placed.ensures in
    let f : IsPlaced s.header s.pages s.overlay c.place_changes.new.overlay s.room c.place_changes.new.room s.fresh s.len c.args.changes.items ps planned = record {
      whole = c.self.invariant.0;
      is = c.requires.changes;
      are = pl.changes;
      sizes = pl.sizes;
      opened = pl.open;
      back = pl.back;
      plan = subst (λ u. IsPlanned u s.len (slots_of ps) planned) c.unit-unit.ensures pl.planned;
      spare = pl.room_spare;
      same = pl.same;
      unit = pl.unit;
      limit = pl.limit;
      is_room = pl.is_room;
    } in
    let old = g_.H.Host.disk c.args.host.now in
    let agreed : Agrees (parts s.header s.pages s.overlay s.room s.len s.cache) old = subst (λ v. Agrees v old) (sym c.self.view_is) (c.requires.agrees told) in
    let agrees : Agrees (seen s.header s.pages s.overlay s.room s.len) old = agrees_bare (parts s.header s.pages s.overlay s.room s.len s.cache) old agreed in
    let new = g_.H.Host.disk c.write_runs.new.host in
    let runs = c.deref-3.ensures.value in
    let free = subst (λ l. Rattle.oc_slots.specs.Writing.AreFree s.header s.pages.pages (as_pieces l)) (sym runs) (frees s.header s.pages s.overlay c.place_changes.new.overlay s.room c.place_changes.new.room s.fresh s.len c.args.changes.items ps planned f old agrees) in
    subst (λ (v : Slots). Same (committed (seen s.header s.pages c.note_all.new.overlay c.note_all.new.room planned.end) new) (committed v old)) c.self.view_is
    ((c.in_ok-write_runs.ensures.keeps told s.header s.pages.pages free).same agrees.holds)

pub returns-clause-there : goal.returns-clause-there
returns-clause-there g_ c id =
    let s = c.self.inside in
    let ps = c.in_ok-placed.field-0.placed.items in
    let planned = c.in_ok-placed.field-0.planned in
    let pl = c.in_ok-placed.ensures in
    let f : IsPlaced s.header s.pages s.overlay c.place_changes.new.overlay s.room c.place_changes.new.room s.fresh s.len c.args.changes.items ps planned = record {
      whole = c.self.invariant.0;
      is = c.requires.changes;
      are = pl.changes;
      sizes = pl.sizes;
      opened = pl.open;
      back = pl.back;
      plan = subst (λ u. IsPlanned u s.len (slots_of ps) planned) c.unit-unit.ensures pl.planned;
      spare = pl.room_spare;
      same = pl.same;
      unit = pl.unit;
      limit = pl.limit;
      is_room = pl.is_room;
    } in
    let no = c.note_all.ensures in
    let same_ps = c.deref-2.ensures.value in
    let g : IsNoted c.place_changes.new.overlay c.note_all.new.overlay c.place_changes.new.room c.note_all.new.room c.note_all.new.fresh ps = record {
      session = no.session;
      changes_are = λ space. no.changes space ∙ ap (λ l. noted l space (changes_of c.place_changes.new.overlay space)) same_ps;
      moved = λ k. no.moved k ∙ ap (λ l. free_at c.place_changes.new.room.parts k + owners c.place_changes.new.room.unit (fresh_of c.place_changes.new.overlay) k + owners c.place_changes.new.room.unit (cells_of l) k) same_ps;
      members = λ x there. subst (λ l. Contains (fresh_of c.place_changes.new.overlay ++ cells_of l) x) same_ps (no.members x there);
      unit = no.unit;
      end = no.end;
      limit = no.limit;
    } in
    subst (λ (v : Slots). is_some (session_place (seen s.header s.pages c.note_all.new.overlay c.note_all.new.room planned.end) id) ≡ has_after c.args.changes.items id (is_some (session_place v id))) c.self.view_is
    (there_after s.header s.pages s.overlay c.place_changes.new.overlay s.room c.place_changes.new.room s.fresh s.len c.args.changes.items ps planned f c.note_all.new.overlay c.note_all.new.room c.note_all.new.fresh g id)

pub returns-clause-untouched : goal.returns-clause-untouched
returns-clause-untouched g_ c space others =
    let s = c.self.inside in
    let pl = c.in_ok-placed.ensures in
    let q = c.note_all.new.overlay in
    let t = c.note_all.new.room in
    let end = c.in_ok-placed.field-0.planned.end in
    let es = c.forget_changed.new.cache in
    subst (λ (v : Slots). changes_in (parts s.header s.pages q t end es) space ≡ changes_in v space) c.self.view_is
    (untouched_after s.header s.pages s.overlay q s.room t s.len end s.cache es c.in_ok-placed.field-0.placed.items space
    (c.note_all.ensures.changes space ∙ (λ i. noted (c.deref-2.ensures.value i) space (pl.same space i)))
    (subst (λ cs. All (λ x. x.id.space ≢ space) cs) (sym pl.changes) others))

pub returns-clause-kept : goal.returns-clause-kept
returns-clause-kept g_ c =
    let s = c.self.inside in
    let ps = c.in_ok-placed.field-0.placed.items in
    let planned = c.in_ok-placed.field-0.planned in
    let pl = c.in_ok-placed.ensures in
    let f : IsPlaced s.header s.pages s.overlay c.place_changes.new.overlay s.room c.place_changes.new.room s.fresh s.len c.args.changes.items ps planned = record {
      whole = c.self.invariant.0;
      is = c.requires.changes;
      are = pl.changes;
      sizes = pl.sizes;
      opened = pl.open;
      back = pl.back;
      plan = subst (λ u. IsPlanned u s.len (slots_of ps) planned) c.unit-unit.ensures pl.planned;
      spare = pl.room_spare;
      same = pl.same;
      unit = pl.unit;
      limit = pl.limit;
      is_room = pl.is_room;
    } in
    let no = c.note_all.ensures in
    let same_ps = c.deref-2.ensures.value in
    let g : IsNoted c.place_changes.new.overlay c.note_all.new.overlay c.place_changes.new.room c.note_all.new.room c.note_all.new.fresh ps = record {
      session = no.session;
      changes_are = λ space. no.changes space ∙ ap (λ l. noted l space (changes_of c.place_changes.new.overlay space)) same_ps;
      moved = λ k. no.moved k ∙ ap (λ l. free_at c.place_changes.new.room.parts k + owners c.place_changes.new.room.unit (fresh_of c.place_changes.new.overlay) k + owners c.place_changes.new.room.unit (cells_of l) k) same_ps;
      members = λ x there. subst (λ l. Contains (fresh_of c.place_changes.new.overlay ++ cells_of l) x) same_ps (no.members x there);
      unit = no.unit;
      end = no.end;
      limit = no.limit;
    } in
    let q = c.note_all.new.overlay in
    let t = c.note_all.new.room in
    let gone : c.forget_changed.new.cache ≡ without (left_by c.place_changes.new.overlay ps) s.cache = c.forget_changed.ensures ∙ ap (λ l. without (left_by c.place_changes.new.overlay l) s.cache) c.deref.ensures.value in
    let those = those_after s.header s.pages s.overlay c.place_changes.new.overlay s.room c.place_changes.new.room s.fresh s.len c.args.changes.items ps planned f s.cache c.self.invariant.1 q t c.note_all.new.fresh g c.forget_changed.new.cache in
    subst (λ (v : Slots). AreThose (IsPlace (parts s.header s.pages q t planned.end c.forget_changed.new.cache)) (kept v) (keys_of c.forget_changed.new.cache)) c.self.view_is
    (subst (λ (es : Cached). AreThose (IsPlace (parts s.header s.pages q t planned.end c.forget_changed.new.cache)) (keys_of s.cache) (keys_of es)) (sym gone) those)
