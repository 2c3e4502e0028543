use Rattle.std.proofs.Common.{◌≡◌, ◌∙◌, ℕ, ◌+◌, ◌≤◌, true, cond, List, [], ◌∷◌, ◌++◌, sym, ap, subst, arith, rules}
use Rattle.std.specs.Prelude.{All, IsErrOf}
use Rattle.std.proofs.lemmas.Bool.Decides.{nat_tests}
use Rattle.std.proofs.lemmas.List.Elements.{All-head}
use Rattle.oc_layout.specs.declared.cells.Cell.{Cell}
use Rattle.oc_layout.specs.Layout.{unit_of, blocks}
use Rattle.oc_free.specs.FreeParts.{free_at}
use Rattle.oc_room.specs.Rooms.{Space, Tiles, owns, owners}
use Rattle.oc_room.proofs.Placed.{all_behind}
use Rattle.oc_slots.specs.declared.attach_fault.AttachFault.TheVariants as attach_fault
use Rattle.oc_slots.specs.Forms.{LiesIn, header_cell, log_things}
use Rattle.oc_slots.proofs.Headers.{unit_some}
use Rattle.oc_slots.proofs.Grounds.{ok_map, ok_two, ends_within, tiled_once, one_moved, two_moved, tiled_front, log_taken, log_freed, no_log, a_log}
use Rattle.oc_slots.proofs.ground.room_beside.Goals as goal

once : (s : Space) (things : List Cell) → Tiles s things → (k : ℕ) → owners s.unit things k ≤ 1
once s things tiles k = omega (arith, tiled_once s things tiles k)

pub returns-then-is_empty-clause-apart : goal.returns-then-is_empty-clause-apart
returns-then-is_empty-clause-apart c =
    let h = c.args.header.now in
    let none : log_things h c.args.writes.now ≡ [] = no_log h c.args.writes.now (grind (arith, nat_tests, c.if-is_empty.ensures)) in
    ok_map c.room_around.result (λ room. Tiles room c.push.new.self.items × (room.unit ≡ unit_of h)) (λ room. (k : ℕ) → owners (unit_of h) (header_cell ∷ log_things h c.args.writes.now ++ c.args.things.items) k ≤ 1)
    (ok_two c.room_around.result (λ room. Tiles room c.push.new.self.items) (λ room. room.unit ≡ unit_of h) c.room_around.ensures.tiles c.room_around.ensures.unit)
    (λ room is k.
    let tiles = subst (Tiles room) c.in_ok-push.ensures.items is.0 in
    subst (λ l. owners (unit_of h) (header_cell ∷ l ++ c.args.things.items) k ≤ 1) (sym none)
    (subst (λ u. owners u (header_cell ∷ c.args.things.items) k ≤ 1) is.1 (omega (arith, once room (c.args.things.items ++ header_cell ∷ []) tiles k, one_moved room.unit k c.args.things.items))))

pub returns-then-is_empty-clause-tiles : goal.returns-then-is_empty-clause-tiles
returns-then-is_empty-clause-tiles c =
    ok_map c.room_around.result (λ room. Tiles room c.push.new.self.items) (λ room. Tiles room (header_cell ∷ c.args.things.items)) c.room_around.ensures.tiles
    (λ room is. tiled_front room c.args.things.items (subst (Tiles room) c.in_ok-push.ensures.items is))

pub returns-then-is_empty-clause-not_container : goal.returns-then-is_empty-clause-not_container
returns-then-is_empty-clause-not_container c is apart =
    let h = c.args.header.now in
    let none : log_things h c.args.writes.now ≡ [] = no_log h c.args.writes.now (grind (arith, nat_tests, c.if-is_empty.ensures)) in
    let whole : LiesIn (unit_of h) c.args.len header_cell = record { some = omega arith; inside = omega (arith, c.requires.long) } in
    let items = c.in_ok-push.ensures.items in
    c.room_around.ensures.not_container is (subst (All (LiesIn (unit_of h) c.args.len)) (sym items) (all_behind (LiesIn (unit_of h) c.args.len) c.args.things.items header_cell c.requires.lie whole))
    (λ k. subst (λ l. owners (unit_of h) l k ≤ 1) (sym items)
    (let one = subst (λ l. owners (unit_of h) (header_cell ∷ l ++ c.args.things.items) k ≤ 1) none (apart k) in omega (arith, one, one_moved (unit_of h) k c.args.things.items)))

pub room_around-requires-2-clause-some : goal.room_around-requires-2-clause-some
room_around-requires-2-clause-some c =
    let h = c.args.header.now in
    let some : All (λ (x : Cell). 1 ≤ x.len) c.args.things.items = λ k d lt. (c.requires.lie k d lt).some in
    let there : log_things h c.args.writes.now ≡ h.log ∷ [] = a_log h c.args.writes.now (grind (arith, nat_tests, c.if-is_empty.ensures)) in
    let log = All-head (LiesIn (unit_of h) c.args.len) h.log [] (subst (All (LiesIn (unit_of h) c.args.len)) there c.requires.log) in
    subst (All (λ (x : Cell). 1 ≤ x.len)) (sym (c.in_ok-push-2.ensures.items ∙ ap (λ l. l ++ h.log ∷ []) c.in_ok-push.ensures.items))
    (all_behind (λ (x : Cell). 1 ≤ x.len) (c.args.things.items ++ header_cell ∷ []) h.log (all_behind (λ (x : Cell). 1 ≤ x.len) c.args.things.items header_cell some (omega arith)) log.some)

pub returns-in_err-room-clause-not_container : goal.returns-in_err-room-clause-not_container
returns-in_err-room-clause-not_container c is apart =
    let h = c.args.header.now in
    let there : log_things h c.args.writes.now ≡ h.log ∷ [] = a_log h c.args.writes.now (grind (arith, nat_tests, c.if-is_empty.ensures)) in
    let log = All-head (LiesIn (unit_of h) c.args.len) h.log [] (subst (All (LiesIn (unit_of h) c.args.len)) there c.requires.log) in
    let whole : LiesIn (unit_of h) c.args.len header_cell = record { some = omega arith; inside = omega (arith, c.requires.long) } in
    let items : c.push-2.new.self.items ≡ (c.args.things.items ++ header_cell ∷ []) ++ h.log ∷ [] = c.in_ok-push-2.ensures.items ∙ ap (λ l. l ++ h.log ∷ []) c.in_ok-push.ensures.items in
    let err : IsErrOf c.room_around-2.result attach_fault.NotAContainer = search rules in
    c.room_around-2.ensures.not_container err
    (subst (All (LiesIn (unit_of h) c.args.len)) (sym items) (all_behind (LiesIn (unit_of h) c.args.len) (c.args.things.items ++ header_cell ∷ []) h.log (all_behind (LiesIn (unit_of h) c.args.len) c.args.things.items header_cell c.requires.lie whole) log))
    (λ k. subst (λ l. owners (unit_of h) l k ≤ 1) (sym items)
    (let one = subst (λ l. owners (unit_of h) (header_cell ∷ l ++ c.args.things.items) k ≤ 1) there (apart k) in omega (arith, one, two_moved (unit_of h) k h.log c.args.things.items)))

pub release-requires-clause-some : goal.release-requires-clause-some
release-requires-clause-some c =
    let h = c.args.header.now in
    let there : log_things h c.args.writes.now ≡ h.log ∷ [] = a_log h c.args.writes.now (grind (arith, nat_tests, c.if-is_empty.ensures)) in
    (All-head (LiesIn (unit_of h) c.args.len) h.log [] (subst (All (LiesIn (unit_of h) c.args.len)) there c.requires.log)).some

pub release-requires-clause-within : goal.release-requires-clause-within
release-requires-clause-within c =
    let h = c.args.header.now in
    let there : log_things h c.args.writes.now ≡ h.log ∷ [] = a_log h c.args.writes.now (grind (arith, nat_tests, c.if-is_empty.ensures)) in
    let log = All-head (LiesIn (unit_of h) c.args.len) h.log [] (subst (All (LiesIn (unit_of h) c.args.len)) there c.requires.log) in
    let same = c.reserve.ensures.same in
    let ends = ends_within (unit_of h) c.args.len h.log (unit_some h c.requires.in_range) log in
    subst (λ u. h.log.at + blocks u h.log.len ≤ c.reserve.new.self.end) (sym (same.unit ∙ c.in_ok-room.ensures.unit)) (omega (arith, ends, same.end, c.in_ok-room.ensures.end))

pub release-requires-clause-taken : goal.release-requires-clause-taken
release-requires-clause-taken c k own =
    let h = c.args.header.now in
    let items : c.push-2.new.self.items ≡ (c.args.things.items ++ header_cell ∷ []) ++ h.log ∷ [] = c.in_ok-push-2.ensures.items ∙ ap (λ l. l ++ h.log ∷ []) c.in_ok-push.ensures.items in
    let room = c.in_ok-room.room in
    let same = c.reserve.ensures.same in
    let taken = log_taken room h.log c.args.things.items (subst (Tiles room) items c.in_ok-room.ensures.tiles) k (subst (λ u. owns u k h.log ≡ true) same.unit own) in
    ap (λ parts. free_at parts k) same.parts ∙ taken

pub returns-clause-apart : goal.returns-clause-apart
returns-clause-apart c k =
    let h = c.args.header.now in
    let there : log_things h c.args.writes.now ≡ h.log ∷ [] = a_log h c.args.writes.now (grind (arith, nat_tests, c.if-is_empty.ensures)) in
    let items : c.push-2.new.self.items ≡ (c.args.things.items ++ header_cell ∷ []) ++ h.log ∷ [] = c.in_ok-push-2.ensures.items ∙ ap (λ l. l ++ h.log ∷ []) c.in_ok-push.ensures.items in
    let room = c.in_ok-room.room in
    let one = once room ((c.args.things.items ++ header_cell ∷ []) ++ h.log ∷ []) (subst (Tiles room) items c.in_ok-room.ensures.tiles) k in
    subst (λ l. owners (unit_of h) (header_cell ∷ l ++ c.args.things.items) k ≤ 1) (sym there)
    (subst (λ u. owners u (header_cell ∷ h.log ∷ c.args.things.items) k ≤ 1) c.in_ok-room.ensures.unit (omega (arith, one, two_moved room.unit k h.log c.args.things.items)))

pub returns-clause-tiles : goal.returns-clause-tiles
returns-clause-tiles c =
    let h = c.args.header.now in
    let items : c.push-2.new.self.items ≡ (c.args.things.items ++ header_cell ∷ []) ++ h.log ∷ [] = c.in_ok-push-2.ensures.items ∙ ap (λ l. l ++ h.log ∷ []) c.in_ok-push.ensures.items in
    let room = c.in_ok-room.room in
    let same = c.reserve.ensures.same in
    log_freed room h.log c.args.things.items (subst (Tiles room) items c.in_ok-room.ensures.tiles) c.release.new.self (c.release.ensures.unit ∙ same.unit) (c.release.ensures.end ∙ same.end)
    (λ k. c.release.ensures.parts k ∙ (λ i. free_at (same.parts i) k + cond (owns (same.unit i) k h.log) 1 0))
