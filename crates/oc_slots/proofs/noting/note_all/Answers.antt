use Rattle.std.proofs.Common.{◌≡◌, ◌∙◌, ℕ, ◌+◌, ◌≤◌, List, [], ◌++◌, length, drop, sym, ap, subst, refl, arith}
use Rattle.std.specs.Prelude.{Contains}
use Rattle.std.proofs.lemmas.List.{take_all, drop_all}
use Rattle.std.proofs.lemmas.List.Elements.{Contains-append_left}
use Rattle.oc_free.specs.FreeParts.{free_at}
use Rattle.oc_room.specs.Rooms.{owners}
use Rattle.oc_slots.specs.declared.placed.PlacedChange.{PlacedChange}
use Rattle.oc_slots.specs.Slots.{changes_of, put_change, cell_list, cells_of}
use Rattle.oc_slots.specs.Stores.{fresh_of}
use Rattle.oc_slots.specs.Noting.{place_of, noted, IsSession}
use Rattle.oc_slots.proofs.Noted.{owners_append}
use Rattle.oc_slots.proofs.Sessions.{session_front, session_on, contained, cells_left, noted_more}
use Rattle.oc_slots.proofs.noting.note_all.Goals as goal

pub loop-change-init : goal.loop-change-init
loop-change-init c = record { session = c.requires.session; space = omega (arith, c.requires.room); changes = λ space. refl; moved = λ k. refl; members = λ x there. there; unit = refl; end = refl; limit = refl }

-- the change of this turn is placed here, and these come behind it
pub note-requires-clause-session : goal.note-requires-clause-session
note-requires-clause-session c =
    let left = cells_left c.args.placed.now c.loop-change.change-index c.change-item.result c.loop-change-test.true c.change-item.is in
    subst (λ o. IsSession c.loop-change.overlay c.loop-change.room c.loop-change.fresh (cell_list o)) (sym c.place.ensures)
    (session_front c.loop-change.overlay c.loop-change.room c.loop-change.fresh (cell_list (place_of c.change-item.result)) (cells_of (drop (c.loop-change.change-index + 1) c.args.placed.now))
    (subst (IsSession c.loop-change.overlay c.loop-change.room c.loop-change.fresh) left c.loop-change.invariant.session))

pub note-requires-clause-room : goal.note-requires-clause-room
note-requires-clause-room c = omega (arith, c.loop-change.invariant.space, c.loop-change-test.true)

pub loop-change-preserved : goal.loop-change-preserved
loop-change-preserved c =
    let i = c.loop-change.change-index in
    let inv = c.loop-change.invariant in
    let here = cell_list c.place.result in
    let more = cells_of (drop (i + 1) c.args.placed.now) in
    let left : cells_of (drop i c.args.placed.now) ≡ here ++ more = cells_left c.args.placed.now i c.change-item.result c.loop-change-test.true c.change-item.is ∙ (λ j. cell_list (sym c.place.ensures j) ++ more) in
    let is = subst (IsSession c.loop-change.overlay c.loop-change.room c.loop-change.fresh) left inv.session in
    let u = c.args.room.now.unit in
    let moved : (k : ℕ) → free_at c.note.new.room.parts k + owners u (fresh_of c.note.new.overlay) k ≡ free_at c.loop-change.room.parts k + owners u (fresh_of c.loop-change.overlay) k + owners u here k =
    λ k. subst (λ v. free_at c.note.new.room.parts k + owners v (fresh_of c.note.new.overlay) k ≡ free_at c.loop-change.room.parts k + owners v (fresh_of c.loop-change.overlay) k + owners v here k) inv.unit (c.note.ensures.moved k) in
    record {
      session = session_on c.loop-change.overlay c.note.new.overlay c.loop-change.room c.note.new.room c.loop-change.fresh c.note.new.fresh here more is c.note.ensures.moved c.note.ensures.members c.note.ensures.count c.note.ensures.spare c.note.ensures.is_room c.note.ensures.unit c.note.ensures.end;
      space = omega (arith, inv.space, c.note.ensures.room);
      changes = λ space. c.note.ensures.changes space ∙ (λ j. put_change c.change-item.result.id (c.place.ensures j) space (inv.changes space j))
          ∙ sym (noted_more c.args.placed.now i c.change-item.result c.loop-change-test.true c.change-item.is space (changes_of c.args.overlay.now space));
      moved = λ k. omega (arith, inv.moved k, moved k, ap (λ l. owners u l k) left, owners_append u k here more);
      members = λ x there. inv.members x (subst (λ l. Contains (fresh_of c.loop-change.overlay ++ l) x) (sym left)
          (contained c.loop-change.overlay c.note.new.overlay c.loop-change.room c.note.new.room c.loop-change.fresh c.note.new.fresh here more is c.note.ensures.moved c.note.ensures.members c.note.ensures.count c.note.ensures.spare c.note.ensures.is_room c.note.ensures.unit c.note.ensures.end x there));
      unit = c.note.ensures.unit ∙ inv.unit;
      end = c.note.ensures.end ∙ inv.end;
      limit = c.note.ensures.limit ∙ inv.limit;
    }

none_left : (ps : List PlacedChange) (i : ℕ) → length ps ≤ i → cells_of (drop i ps) ≡ []
none_left ps i le = ap cells_of (drop_all i ps le)

pub returns-clause-session : goal.returns-clause-session
returns-clause-session c = subst (IsSession c.loop-change.overlay c.loop-change.room c.loop-change.fresh) (none_left c.args.placed.now c.loop-change.change-index c.loop-change-test.false) c.loop-change.invariant.session

pub returns-clause-changes : goal.returns-clause-changes
returns-clause-changes c space = c.loop-change.invariant.changes space ∙ ap (λ l. noted l space (changes_of c.args.overlay.now space)) (take_all c.loop-change.change-index c.args.placed.now c.loop-change-test.false)

pub returns-clause-moved : goal.returns-clause-moved
returns-clause-moved c k =
    let u = c.args.room.now.unit in
    omega (arith, c.loop-change.invariant.moved k, ap (λ l. owners u l k) (none_left c.args.placed.now c.loop-change.change-index c.loop-change-test.false))

pub returns-clause-members : goal.returns-clause-members
returns-clause-members c x there = c.loop-change.invariant.members x (Contains-append_left (fresh_of c.loop-change.overlay) (cells_of (drop c.loop-change.change-index c.args.placed.now)) x there)
