use Rattle.std.proofs.Common.{max, ◌≡◌, ◌∙◌, ◌<◌, ◌≤◌, ◌+◌, ◌++◌, ◌∷◌, [], ℕ, true, false, is_ok, Some, length, get_or, cond, ap, ap₂, sym, subst, subst₂, refl, arith}
use Rattle.std.proofs.lemmas.List.{drop_all}
use Rattle.oc_layout.specs.Layout.{blocks}
use Rattle.oc_free.specs.FreeParts.{AreFree, free_at}
use Rattle.oc_room.specs.Rooms.{Space, Placed, owns, open_at, unplaced, place_next, finds_room, lacking, IsRoom, LiesApart, GoesBack}
use Rattle.oc_room.specs.declared.fault.RoomFault.TheVariants as RoomFault
use Rattle.oc_room.proofs.Counting.{some_blocks}
use Rattle.oc_room.proofs.Placed.{placed_more, lacking_more, lacking_here, lacking_end, full_parts, same_error, owners_behind, all_behind, lies_apart, lens_behind, goes_back, few_cells, order_behind}
use Rattle.oc_room.proofs.room.Room.place.Goals as goal

pub loop-len-init : goal.loop-len-init
loop-len-init c =
    let none : c.in_ok-cells.cells.items ≡ [] = c.in_ok-cells.ensures.items in
    let same = c.reserve.ensures.same in
    let room : IsRoom c.args.self.now = subst IsRoom c.self.view_is c.self.invariant in
    rw (none, same.parts, same.end) (record {
      placed = refl;
      rest = refl;
      opened = λ k. omega arith;
      unit = same.unit;
      limit = same.limit;
      end = omega arith;
      within = omega (arith, c.self.invariant.end, ap (λ (v : Space). v.end) c.self.view_is, ap (λ (v : Space). v.limit) c.self.view_is);
      behind = λ k le. subst (λ (v : Space). free_at v.parts k ≡ 0) c.self.view_is (c.self.invariant.within k (omega (arith, le, ap (λ (v : Space). v.end) c.self.view_is)));
      some = λ k d lt. absurd (omega (arith, lt));
      lens = refl;
      lies = λ k d lt. absurd (omega (arith, lt));
      order = refl;
      counted = refl;
      room = grind (arith, c.in_ok-reserve.ensures.room, c.min-most.ensures);
      is_room = record { free = room.free; within = room.within; unit = c.reserve.ensures.is_room.unit; end = omega (arith, room.end, same.limit); limit = c.reserve.ensures.is_room.limit };
      capacity = grind (arith, c.in_ok-cells.ensures.capacity);
    })

module _ (c : goal.After-deref) where
  free : AreFree c.args.self.now.parts
  free = subst (λ (v : Space). AreFree v.parts) c.self.view_is c.self.invariant.free

  within : (k : ℕ) → c.args.self.now.end ≤ k → free_at c.args.self.now.parts k ≡ 0
  within k le = subst (λ (v : Space). free_at v.parts k ≡ 0) c.self.view_is (c.self.invariant.within k (omega (arith, le, ap (λ (v : Space). v.end) c.self.view_is)))

  unit : 0 < c.args.self.now.unit
  unit = subst (λ (v : Space). 0 < v.unit) c.self.view_is c.self.invariant.unit

  end : c.self-2.inside.end ≡ c.args.self.now.end
  end = ap (λ (v : Space). v.end) c.self-2.view_is ∙ c.reserve.ensures.same.end

  few : length c.loop-len.cells.items ≤ c.loop-len.self.end
  few = few_cells c.args.self.now c.loop-len.self c.loop-len.cells.items c.loop-len.invariant.opened free within unit c.loop-len.invariant.some

pub take_back-requires : goal.take_back-requires
take_back-requires c =
    let cells = c.loop-len.cells.items in
    let spare : length cells ≤ c.loop-len.self.spare = grind (arith, few c, c.loop-len.invariant.room, c.loop-len.invariant.counted, c.loop-len.invariant.within, c.loop-len-test.true) in
    let back : GoesBack c.loop-len.self cells c.args.self.now.end = goes_back c.args.self.now c.loop-len.self cells c.loop-len.invariant.opened (free c) (within c) c.loop-len.invariant.end c.loop-len.invariant.unit c.loop-len.invariant.some c.loop-len.invariant.lies c.loop-len.invariant.behind spare in
    rw (c.in_default.ensures.same, c.deref.ensures.value, end c) back

-- what the loop has placed finds no more room
pub returns-in_default-clause-full : goal.returns-in_default-clause-full
returns-in_default-clause-full c need len limit is =
    let i = c.loop-len.len-index in
    let len_i = get_or c.args.lengths.now i 0 in
    let told = full_parts (blocks c.place_one.new.self.unit len_i) c.place_one.new.self.end c.place_one.new.self.limit need len limit (sym c.full-full.ensures ∙ same_error c.full-full.result (RoomFault.Full need len limit) is) in
    let found = subst₂ (λ u m. finds_room u m (record { cells = c.loop-len.cells.items; parts = c.loop-len.self.parts; end = c.loop-len.self.end }) len_i ≡ false) c.loop-len.invariant.unit c.loop-len.invariant.limit
    (c.in_default.ensures.room c.loop-len.cells.items) in
    let here = lacking_here c.args.self.now.unit c.args.self.now.limit (unplaced c.args.self.now) (record { cells = c.loop-len.cells.items; parts = c.loop-len.self.parts; end = c.loop-len.self.end }) c.args.lengths.now i c.loop-len-test.true c.loop-len.invariant.rest found in
    let same = c.in_default.ensures.same in
    let need_is : blocks c.args.self.now.unit len_i ≡ need = ap (λ u. blocks u len_i) (sym (ap (λ (v : Space). v.unit) same ∙ c.loop-len.invariant.unit)) ∙ told.0 in
    let len_is : c.loop-len.self.end ≡ len = sym (ap (λ (v : Space). v.end) same) ∙ told.1 in
    (sym told.2 ∙ ap (λ (v : Space). v.limit) same ∙ c.loop-len.invariant.limit, here ∙ ap₂ (λ a b. Some (record { need = a; length = b })) need_is len_is)

module _ (c : goal.After-drop-cells) where
  free_then : AreFree c.args.self.now.parts
  free_then = subst (λ (v : Space). AreFree v.parts) c.self.view_is c.self.invariant.free

  within_then : (k : ℕ) → c.args.self.now.end ≤ k → free_at c.args.self.now.parts k ≡ 0
  within_then k le = subst (λ (v : Space). free_at v.parts k ≡ 0) c.self.view_is (c.self.invariant.within k (omega (arith, le, ap (λ (v : Space). v.end) c.self.view_is)))

  unit_then : 0 < c.args.self.now.unit
  unit_then = subst (λ (v : Space). 0 < v.unit) c.self.view_is c.self.invariant.unit

pub returns-in_default-clause-fault : goal.returns-in_default-clause-fault
returns-in_default-clause-fault c =
    let same = c.in_default.ensures.same in
    c.take_back.ensures.same c.args.self.now (subst IsRoom c.self.view_is c.self.invariant)
    (sym (ap (λ (v : Space). v.unit) same ∙ c.loop-len.invariant.unit))
    (sym (ap (λ (v : Space). v.limit) same ∙ c.loop-len.invariant.limit))
    (sym (ap (λ (v : Space). v.end) c.self-2.view_is ∙ c.reserve.ensures.same.end))
    (λ k. rw (same, c.deref.ensures.value) (c.loop-len.invariant.opened k))

pub returns-in_default-clause-others : goal.returns-in_default-clause-others
returns-in_default-clause-others c =
    let count : length c.deref.result.now ≡ length c.loop-len.cells.items = ap length c.deref.ensures.value in
    let spare : c.loop-len.self.spare ≡ c.place_one.new.self.spare = sym (ap (λ (v : Space). v.spare) c.in_default.ensures.same) in
    let few = few_cells c.args.self.now c.loop-len.self c.loop-len.cells.items c.loop-len.invariant.opened (free_then c) (within_then c) (subst (λ (v : Space). 0 < v.unit) c.self.view_is c.self.invariant.unit) c.loop-len.invariant.some in
    grind (arith, count, spare, few, c.take_back.ensures.spare, c.loop-len.invariant.room, c.loop-len.invariant.counted, c.loop-len.invariant.within, c.loop-len-test.true)

pub loop-len-preserved : goal.loop-len-preserved
loop-len-preserved c =
    let s = c.args.self.now in
    let i = c.loop-len.len-index in
    let len_i = get_or c.args.lengths.now i 0 in
    let before : Placed = record { cells = c.loop-len.cells.items; parts = c.loop-len.self.parts; end = c.loop-len.self.end } in
    let stored : is_ok c.push-room.result ≡ true = c.push-room.ensures.succeeds (grind (arith, c.loop-len.invariant.capacity, c.loop-len.invariant.counted, c.loop-len-test.true)) in
    let pushed : c.push-room.new.self.items ≡ c.loop-len.cells.items ++ c.in-Some.cell ∷ [] =
    rw c.push-room.ensures.items (rw stored refl) in
    let next : place_next s.unit before len_i ≡ record { cells = c.loop-len.cells.items ++ c.in-Some.cell ∷ []; parts = c.place_one.new.self.parts; end = c.place_one.new.self.end } =
    subst (λ u. place_next u before len_i ≡ record { cells = c.loop-len.cells.items ++ c.in-Some.cell ∷ []; parts = c.place_one.new.self.parts; end = c.place_one.new.self.end }) c.loop-len.invariant.unit (c.in-Some.ensures.next c.loop-len.cells.items) in
    let found = subst₂ (λ u m. finds_room u m before len_i ≡ true) c.loop-len.invariant.unit c.loop-len.invariant.limit (c.in-Some.ensures.room c.loop-len.cells.items) in
    let some : 1 ≤ c.in-Some.cell.len = omega (arith, c.in-Some.ensures.len, c.requires.some i 0 c.loop-len-test.true) in
    let unit : 0 < s.unit = subst (λ (v : Space). 0 < v.unit) c.self.view_is c.self.invariant.unit in
    let lies : LiesApart s.unit s.end c.in-Some.cell = subst (λ u. LiesApart u s.end c.in-Some.cell) c.loop-len.invariant.unit
    (lies_apart c.loop-len.self s.end c.in-Some.cell (some_blocks c.loop-len.self.unit c.in-Some.cell.len (omega (arith, unit, c.loop-len.invariant.unit)) some) c.loop-len.invariant.end c.loop-len.invariant.behind c.in-Some.ensures.lies) in
    rw pushed (record {
      placed = placed_more s.unit s.limit (unplaced s) before c.args.lengths.now i c.loop-len-test.true _ c.loop-len.invariant.placed next;
      rest = lacking_more s.unit s.limit (unplaced s) before c.args.lengths.now i c.loop-len-test.true _ c.loop-len.invariant.rest found next;
      opened = λ k.
          let one : open_at c.loop-len.self k ≡ open_at c.place_one.new.self k + cond (owns s.unit k c.in-Some.cell) 1 0 =
          subst (λ u. open_at c.loop-len.self k ≡ open_at c.place_one.new.self k + cond (owns u k c.in-Some.cell) 1 0) c.loop-len.invariant.unit (c.in-Some.ensures.open k) in
          omega (arith, c.loop-len.invariant.opened k, one, owners_behind s.unit k c.loop-len.cells.items c.in-Some.cell);
      unit = c.place_one.ensures.unit ∙ c.loop-len.invariant.unit;
      limit = c.place_one.ensures.limit ∙ c.loop-len.invariant.limit;
      end = omega (arith, c.place_one.ensures.end, c.loop-len.invariant.end);
      within = omega (arith, c.in-Some.ensures.within, c.place_one.ensures.limit, c.loop-len.invariant.limit);
      behind = λ k le. omega (arith, c.place_one.ensures.fewer k, c.loop-len.invariant.behind k le);
      some = all_behind (λ c. 1 ≤ c.len) c.loop-len.cells.items c.in-Some.cell c.loop-len.invariant.some some;
      lens = lens_behind c.args.lengths.now i c.loop-len.cells.items c.in-Some.cell c.loop-len-test.true c.loop-len.invariant.lens c.in-Some.ensures.len;
      lies = all_behind (LiesApart s.unit s.end) c.loop-len.cells.items c.in-Some.cell c.loop-len.invariant.lies lies;
      order = order_behind s.unit s.end c.loop-len.self.end c.place_one.new.self.end c.loop-len.cells.items c.in-Some.cell c.loop-len.invariant.order c.in-Some.ensures.begins
          (subst (λ u. c.place_one.new.self.end ≡ max c.loop-len.self.end (c.in-Some.cell.at + blocks u c.in-Some.cell.len)) c.loop-len.invariant.unit c.in-Some.ensures.grows);
      counted = grind (arith, c.loop-len.invariant.counted);
      room = omega (arith, c.place_one.ensures.spare, c.loop-len.invariant.room);
      is_room = c.in-Some.ensures.is_room;
      capacity = grind (arith, c.push-room.ensures.capacity, c.loop-len.invariant.capacity);
    })

pub returns-clause-room : goal.returns-clause-room
returns-clause-room c = c.loop-len.invariant.rest ∙ ap (lacking c.args.self.now.unit c.args.self.now.limit (record { cells = c.loop-len.cells.items; parts = c.loop-len.self.parts; end = c.loop-len.self.end })) (drop_all c.loop-len.len-index c.args.lengths.now c.loop-len-test.false)
    ∙ lacking_end c.args.self.now.unit c.args.self.now.limit _

pub returns-clause-spare : goal.returns-clause-spare
returns-clause-spare c =
    let few = few_cells c.args.self.now c.loop-len.self c.loop-len.cells.items c.loop-len.invariant.opened (subst (λ (v : Space). AreFree v.parts) c.self.view_is c.self.invariant.free)
    (λ k le. subst (λ (v : Space). free_at v.parts k ≡ 0) c.self.view_is (c.self.invariant.within k (omega (arith, le, ap (λ (v : Space). v.end) c.self.view_is))))
    (subst (λ (v : Space). 0 < v.unit) c.self.view_is c.self.invariant.unit) c.loop-len.invariant.some in
    grind (arith, few, c.loop-len.invariant.room, c.loop-len.invariant.counted, c.loop-len.invariant.within, c.loop-len.auto.len-index-end)

pub returns-clause-back : goal.returns-clause-back
returns-clause-back c =
    let room : IsRoom c.args.self.now = subst IsRoom c.self.view_is c.self.invariant in
    goes_back c.args.self.now c.loop-len.self c.loop-len.cells.items c.loop-len.invariant.opened room.free room.within c.loop-len.invariant.end c.loop-len.invariant.unit c.loop-len.invariant.some c.loop-len.invariant.lies c.loop-len.invariant.behind
    (omega (arith, returns-clause-spare c))
