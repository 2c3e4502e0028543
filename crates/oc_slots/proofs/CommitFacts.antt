-- A plan that is carried out in memory can be written, and what the store is then.
use Rattle.std.proofs.Common.{nat_eq, ◌≡◌, ◌∙◌, inl, inr, ℕ, suc, ◌+◌, ◌*◌, ◌<◌, ◌≤◌, max, Bool, true, false, cond, List, [], ◌∷◌, ◌++◌, length, map, get_or, Option, Some, None, sym, ap, subst, subst₂, refl, arith}
use Rattle.std.specs.Prelude.{All, AllPairs, IsSome, ◌||◌, is_some, nat_le, nat_lt, sum_by}
use Rattle.std.specs.Map.{lookup}
use Rattle.std.specs.Option.{option_map_or}
use Rattle.std.proofs.lemmas.Bool.Decides.{nat_tests}
use Rattle.std.proofs.lemmas.List.{append_assoc, get_or-map, length-map, map-append}
use Rattle.std.proofs.lemmas.List.Elements.{All-append, All-cons}
use Rattle.std.proofs.lemmas.List.Sums.{sum_by-cons, sum_by-append}
use Rattle.oc_layout.specs.declared.cells.Cell.{Cell}
use Rattle.oc_layout.specs.declared.cells.CellWrite.{CellWrite}
use Rattle.oc_layout.specs.declared.cells.Header.{Header}
use Rattle.oc_layout.specs.declared.cells.Space as spaces
use Rattle.oc_layout.specs.declared.cells.Space.TheVariants.{Objects, System}
use Rattle.oc_layout.specs.Layout.{unit_of, room_of, is_wide, write_len, blocks, FitsCell}
use Rattle.oc_host.specs.Disk.{Disk}
use Rattle.oc_log.specs.Log.{with_log, log_at, put_cells}
use Rattle.oc_pages.specs.declared.page.Page.{Page}
use Rattle.oc_pages.specs.Chains.{AreApart, FitsPage, page_bytes}
use Rattle.oc_pages.specs.Pages.{Paged, page_of, pointer_of, things_of}
use Rattle.oc_room.specs.Rooms.{Space, AreInOrder, owns, owners}
use Rattle.oc_slots.specs.declared.commit_plan.CommitPlan.{CommitPlan}
use Rattle.oc_slots.specs.declared.new_pages.NewPage.{NewPage}
use Rattle.oc_slots.specs.declared.overlay.Overlay.{Overlay}
use Rattle.oc_slots.specs.declared.placed.Slot.{Slot}
use Rattle.oc_slots.specs.declared.slot.SlotChange.{SlotChange}
use Rattle.oc_slots.specs.declared.slot.SlotId.{SlotId}
use Rattle.oc_slots.specs.Attaching.{HasThings}
use Rattle.oc_slots.specs.Cached.{Cached}
use Rattle.oc_slots.specs.Commits.{IsCommit, BeforeOrAfter}
use Rattle.oc_slots.specs.Forms.{LiesIn, IsTarget, header_cell, log_things}
use Rattle.oc_slots.specs.Held.{Holds, map_of}
use Rattle.oc_slots.specs.Maps.{Same, bytes_at, content, changed, has_after}
use Rattle.oc_slots.specs.Slots.{changes_of, places_in, slots_of, cells_of}
use Rattle.oc_slots.specs.Stores.{IsWhole, IsSettled, Agrees, AreChanges, changes_in, fresh_of, session, committed, parts}
use Rattle.oc_slots.specs.Noting.{place_in, placed_place}
use Rattle.oc_slots.specs.Pieces.{Piece, AreJoined, Fit, over_all, pieces_of, end_of, end_after, last_after}
use Rattle.oc_slots.specs.Planning.{IsPlan, IsReady, IsWritable, AreFit, places, pages_after, end_over, slot_pieces, page_pieces, written, OldOrNew, moves}
use Rattle.oc_slots.specs.Turnovers.{places_of, page_slots, with_added, bytes_of}
use Rattle.oc_slots.specs.Writing.{IsFree, AreFree}
use Rattle.oc_slots.proofs.AddedPages.{StandsWhole, writes_len, things_new, targets_new, pointers_then}
use Rattle.oc_slots.proofs.Apart.{ends_before}
use Rattle.oc_slots.proofs.CommitMade.{commit_made, fits_writes}
use Rattle.oc_slots.proofs.MovedThings.{moved_all}
use Rattle.oc_slots.proofs.InstallParts as parts
use Rattle.oc_slots.proofs.FormParts.{suits, suits_within}
use Rattle.oc_slots.proofs.InOrder.{order_split, order_blocks, over_append, after_over}
use Rattle.oc_slots.proofs.JoinedMore.{joined_more, over_append as over_both, fit_split}
use Rattle.oc_slots.proofs.KeptPlaces.{session_is}
use Rattle.oc_slots.proofs.PlanMoves.{moved_is, one_moves, there_same}
use Rattle.oc_slots.proofs.Noted.{owners_append}
use Rattle.oc_slots.proofs.PagesThere.{pages_there, slots_are, places_are}
use Rattle.oc_slots.proofs.PieceBytes.{pieces_fit, pieces_length, end_grows}
use Rattle.oc_slots.proofs.HeldGives.{gives_same}
use Rattle.oc_slots.proofs.SessionMap.{changed_there}
use Rattle.oc_slots.proofs.SlotsApart.{pointer_kept}
use Rattle.oc_slots.proofs.SessionBytes as session_bytes
use Rattle.oc_slots.proofs.SessionChange.{some_placed, cells_some, ends_in}
use Rattle.oc_slots.proofs.SessionSteps.{seen}
use Rattle.oc_slots.proofs.PagesApart.{pages_apart}
use Rattle.oc_slots.proofs.Things.{tail_of, left_of, right_of}
use Rattle.oc_slots.proofs.Tilings.{each_once}

-- the thing has no byte or doesn't lie in a file of this length
abbrev is_out : ℕ → ℕ → Cell → Bool
is_out unit len c = nat_le c.len 0 || nat_lt len (c.at * unit + c.len)

in_is : (unit len : ℕ) (c : Cell) → LiesIn unit len c → is_out unit len c ≡ false
in_is unit len c lies =
    let some = lies.some in
    let inside = lies.inside in
    grind (arith, nat_tests, some, inside)

out_not : (unit len : ℕ) (c : Cell) → is_out unit len c ≡ false → LiesIn unit len c
out_not unit len c e = record { some = grind (arith, nat_tests, e); inside = grind (arith, nat_tests, e) }

split_free : (h : Header) (pages : List Page) (xs ys : List Piece) → AreFree h pages (xs ++ ys) → AreFree h pages xs × AreFree h pages ys
split_free h pages [] ys all = ((λ k d lt. absurd (omega (arith, lt))), all)
split_free h pages (x ∷ xs) ys all =
    let rest = split_free h pages xs ys (λ k d lt. all (suc k) d (omega (arith, lt))) in
    (All-cons (IsFree h pages) x xs (all 0 x (omega arith)) rest.0, rest.1)

module _ (h : Header) (pages : Paged) (o : Overlay) (room r : Space) (fresh len : ℕ) (last : List SlotChange) (plan : CommitPlan) (p : Paged)
    (whole : IsWhole h pages o room fresh len) (is : AreChanges last) (f : IsPlan h pages o room len last plan p r) (full : All (λ q. length q.cells ≡ 126) pages.pages) where
  abbrev u : ℕ
  u = unit_of h

  abbrev new : List Page
  new = pages_after plan pages.pages

  abbrev slots : List Slot
  slots = slots_of plan.placed.items

  -- the slots and the pages that are written
  abbrev ss : List Slot
  ss = slots_of plan.placed.items ++ page_slots (pages_after plan pages.pages) plan.added.items

  abbrev cells : List Cell
  cells = cells_of plan.placed.items ++ places_of plan.added.items

  abbrev base : List Cell
  base = (header_cell ∷ things_of pages.pages) ++ fresh_of o

  -- the new pages name a slot where it was placed, and else where the session had it
  named_then : (id : SlotId) → pointer_of (pages_after plan pages.pages) id.space id.number ≡ placed_place plan.placed.items id (place_in pages.pages o id)
  named_then id = pointers_then pages.pages plan.added.items plan.pointings.items f.missing f.held f.turnover.distinct full id ∙ f.turnover.places id

  unit : r.unit ≡ unit_of h
  unit = parts.unit h pages o room r fresh len last plan p whole is f full

  pos : 0 < unit_of h
  pos = subst (λ n. 0 < n) unit f.is_room.unit

  cells_are : map (λ (s : Slot). s.cell) (slots_of plan.placed.items ++ page_slots (pages_after plan pages.pages) plan.added.items) ≡ cells_of plan.placed.items ++ places_of plan.added.items
  cells_are = map-append (λ (s : Slot). s.cell) (slots_of plan.placed.items) (page_slots new plan.added.items) ∙ ap (λ l. cells_of plan.placed.items ++ l) (places_are new plan.added.items)

  sizes : All (λ s. s.cell.len ≡ length s.bytes) ss
  sizes = All-append (λ s. s.cell.len ≡ length s.bytes) slots (page_slots new plan.added.items) f.sizes (slots_are pages.pages plan.added.items plan.pointings.items full f.missing)

  page_some : (added : List NewPage) → All (λ s. 1 ≤ s.cell.len) (page_slots new added)
  page_some [] = λ k d lt. absurd (omega (arith, lt))
  page_some (a ∷ more) = All-cons (λ s. 1 ≤ s.cell.len) (record { cell = record { at = a.at; len = 1024 }; bytes = bytes_of new a }) (page_slots new more) (omega arith) (page_some more)

  slots_some : All (λ s. 1 ≤ s.cell.len) ss
  slots_some = All-append (λ s. 1 ≤ s.cell.len) slots (page_slots new plan.added.items) (some_placed last plan.placed.items f.are is.some f.sizes) (page_some plan.added.items)

  -- the places of all things, of what is placed, and of the log
  once_all : (k : ℕ) → owners (unit_of h) (base ++ places plan) k ≤ 1
  once_all k = subst (λ n. owners n (base ++ places plan) k ≤ 1) unit
      (omega (arith, each_once r f.is_room.unit (base ++ places plan) (parts.tiled_placed h pages o room r fresh len last plan p whole is f full) k))

  places_split : places plan ≡ cells ++ plan.place ∷ []
  places_split = refl

  once : (k : ℕ) → owners (unit_of h) (base ++ map (λ (s : Slot). s.cell) ss) k ≤ 1
  once k = subst (λ l. owners (unit_of h) (base ++ l) k ≤ 1) (sym cells_are)
      (omega (arith, once_all k, ap (λ l. owners (unit_of h) l k) places_split, owners_append (unit_of h) k base (places plan), owners_append (unit_of h) k base cells, owners_append (unit_of h) k cells (plan.place ∷ [])))

  within : All (λ c. c.at + blocks (unit_of h) c.len ≤ r.end) (places plan)
  within = subst (λ n. All (λ c. c.at + blocks n c.len ≤ r.end) (places plan)) unit
      (right_of (λ c. c.at + blocks r.unit c.len ≤ r.end) base (places plan) (parts.all_within h pages o room r fresh len last plan p whole is f full))

  in_room : r.end ≤ room_of h
  in_room = omega (arith, f.is_room.end, f.limit, whole.limit)

  -- each slot and page that is written ends within the blocks of the file
  ends : (i : ℕ) (d : Slot) → i < length ss → end_of (unit_of h) (get_or ss i d) ≤ r.end * unit_of h
  ends i d lt =
      let inside : All (λ c. c.at + blocks (unit_of h) c.len ≤ r.end) (map (λ (s : Slot). s.cell) ss) =
      subst (All (λ c. c.at + blocks (unit_of h) c.len ≤ r.end)) (sym cells_are) (left_of (λ c. c.at + blocks (unit_of h) c.len ≤ r.end) cells (plan.place ∷ []) (subst (All (λ c. c.at + blocks (unit_of h) c.len ≤ r.end)) places_split within)) in
      let one = subst (λ c. c.at + blocks (unit_of h) c.len ≤ r.end) (get_or-map (λ (s : Slot). s.cell) ss i d d.cell lt) (inside i d.cell (omega (arith, lt, length-map ss (λ (s : Slot). s.cell)))) in
      omega (arith, sizes i d lt, ends_before (unit_of h) (get_or ss i d).cell.at (get_or ss i d).cell.len r.end pos one)

  -- the pieces that are written
  abbrev runs : List Piece
  runs = slot_pieces plan ++ page_pieces (unit_of h) plan (pages_after plan pages.pages)

  joined : AreJoined (pieces_of (unit_of h) len None ss) runs
  joined = subst (λ l. AreJoined (pieces_of (unit_of h) len None ss) (slot_pieces plan ++ l)) same (joined_more (unit_of h) len slots (page_slots new plan.added.items) (slot_pieces plan) f.planned.runs)
    where
      same : pieces_of (unit_of h) (end_after (unit_of h) len slots) (last_after None slots) (page_slots new plan.added.items) ≡ page_pieces (unit_of h) plan new
      same i = pieces_of (unit_of h) (sym f.planned.end i) (sym f.planned.before i) (page_slots new plan.added.items)

  -- ---- the order in which they stand

  slots_order : (middle : ℕ) × AreInOrder room.unit room.end (cells_of plan.placed.items) middle × AreInOrder room.unit middle (places_of plan.added.items ++ plan.place ∷ []) r.end
  slots_order = order_split room.unit room.end r.end (cells_of plan.placed.items) (places_of plan.added.items ++ plan.place ∷ [])
      (subst (λ l. AreInOrder room.unit room.end l r.end) (append_assoc (cells_of plan.placed.items) (places_of plan.added.items) (plan.place ∷ [])) f.order)

  room_pos : 0 < room.unit
  room_pos = whole.is_room.unit

  end_blocks : room.end ≡ blocks room.unit len
  end_blocks = whole.end ∙ (λ i. blocks (sym whole.unit i) len)

  planned_end : plan.planned.end ≡ end_over (unit_of h) len (cells_of plan.placed.items)
  planned_end = f.planned.end ∙ after_over (unit_of h) len slots f.sizes

  middle_is : slots_order.0 ≡ blocks (unit_of h) plan.planned.end
  middle_is =
      order_blocks room.unit len slots_order.0 (cells_of plan.placed.items) room_pos (subst (λ n. AreInOrder room.unit n (cells_of plan.placed.items) slots_order.0) end_blocks slots_order.1)
      ∙ (λ i. blocks (whole.unit i) (end_over (whole.unit i) len (cells_of plan.placed.items))) ∙ ap (blocks (unit_of h)) (sym planned_end)

  pages_order : (last_end : ℕ) × AreInOrder (unit_of h) (blocks (unit_of h) plan.planned.end) (places_of plan.added.items) last_end
  pages_order =
      let parts = order_split room.unit slots_order.0 r.end (places_of plan.added.items) (plan.place ∷ []) slots_order.2 in
      (parts.0, subst₂ (λ n m. AreInOrder n m (places_of plan.added.items) parts.0) whole.unit middle_is parts.1)

  -- the log begins no later than the block behind what is written before it
  log_begins : plan.place.at ≤ blocks (unit_of h) (end_after (unit_of h) len ss)
  log_begins =
      let split = order_split room.unit room.end r.end cells (plan.place ∷ []) (subst (λ l. AreInOrder room.unit room.end l r.end) places_split f.order) in
      let middle : split.0 ≡ blocks (unit_of h) (end_over (unit_of h) len cells) =
      order_blocks room.unit len split.0 cells room_pos (subst (λ n. AreInOrder room.unit n cells split.0) end_blocks split.1) ∙ (λ i. blocks (whole.unit i) (end_over (whole.unit i) len cells)) in
      omega (arith, split.2.0, middle, ap (blocks (unit_of h)) (after_over (unit_of h) len ss sizes ∙ ap (end_over (unit_of h) len) cells_are))

  -- ---- it suits the header

  log_len : plan.place.len ≡ 4 + write_len (is_wide h) * length plan.draft.writes
  log_len = f.log ∙ ap (λ n. 4 + write_len (is_wide h) * n) (sym (ap length f.writes ∙ writes_len h plan.added.items plan.pointings.items))

  pub ready : IsReady h (pages_after plan pages.pages) plan
  ready = record {
    in_range = whole.in_range;
    wide = f.wide;
    unit = f.unit;
    log = log_len;
    there = pages_there pages.pages plan.added.items plan.pointings.items f.missing;
    order = pages_order;
    header = f.header;
  }

  once_old : (k : ℕ) → owners (unit_of h) (plan.place ∷ header_cell ∷ things_of pages.pages) k ≤ 1
  once_old k =
      let own : Cell → ℕ = λ c. cond (owns (unit_of h) k c) 1 0 in
      omega (
        arith,
        once_all k,
        sum_by-append own base (places plan),
        sum_by-append own cells (plan.place ∷ []),
        sum_by-cons own plan.place [],
        sum_by-append own (header_cell ∷ things_of pages.pages) (fresh_of o),
        sum_by-cons own plan.place (header_cell ∷ things_of pages.pages),
      )

  once_new : (k : ℕ) → owners (unit_of h) (plan.place ∷ header_cell ∷ things_of (pages_after plan pages.pages)) k ≤ 1
  once_new k =
      let own : Cell → ℕ = λ c. cond (owns (unit_of h) k c) 1 0 in
      omega (
        arith,
        once_all k,
        parts.moved h pages o room r fresh len last plan p whole is f full own,
        sum_by-append own (header_cell ∷ things_of new) (plan.freed.items ++ plan.place ∷ []),
        sum_by-append own plan.freed.items (plan.place ∷ []),
        sum_by-cons own plan.place [],
        sum_by-cons own plan.place (header_cell ∷ things_of new),
      )

  -- ---- it can be written

  module _ (d : Disk) (agrees : Agrees (seen h pages o room len) d) where
    things_some : All (λ (c : Cell). 1 ≤ c.len) base
    things_some = whole.some

    fit : Fit runs d.bytes
    fit = session_bytes.runs_fit h pages.pages o len r.end ss runs pos sizes slots_some (cells_some ss slots_some) things_some once joined ends in_room d agrees.holds agrees.len agrees.fresh

    free : AreFree h pages.pages runs
    free = session_bytes.runs_free h pages.pages o len r.end ss runs pos sizes slots_some (cells_some ss slots_some) things_some once joined ends in_room d agrees.holds agrees.len agrees.fresh

    slots_fit : Fit (pieces_of (unit_of h) len None slots) d.bytes
    slots_fit = pieces_fit (unit_of h) pos len None slots d.bytes (sym agrees.len)

    -- what the file has once they are written
    module _ (e : Disk) (wrote : e.bytes ≡ written (unit_of h) plan (pages_after plan pages.pages) d.bytes) where
      all_written : e.bytes ≡ over_all runs d.bytes
      all_written = wrote ∙ sym (over_both (slot_pieces plan) (page_pieces (unit_of h) plan new) d.bytes)

      size : end_after (unit_of h) len ss ≡ length e.bytes
      size = session_bytes.size_after h pages.pages o len r.end ss runs pos sizes slots_some (cells_some ss slots_some) things_some once joined ends in_room d agrees.holds agrees.len agrees.fresh e all_written

      have : All (λ s. bytes_at (unit_of h) e.bytes s.cell ≡ s.bytes) ss
      have = session_bytes.slots_have h pages.pages o len r.end ss runs pos sizes slots_some (cells_some ss slots_some) things_some once joined ends in_room d agrees.holds agrees.len agrees.fresh e all_written

      kept : (id : SlotId) → content (unit_of h) e.bytes (place_in pages.pages o id) ≡ content (unit_of h) d.bytes (place_in pages.pages o id)
      kept = session_bytes.base_kept h pages.pages o len r.end ss runs pos sizes slots_some (cells_some ss slots_some) things_some once joined ends in_room d agrees.holds agrees.len agrees.fresh e all_written

      -- each thing has its bytes as before
      pub things_kept : All (λ c. bytes_at (unit_of h) e.bytes c ≡ bytes_at (unit_of h) d.bytes c) base
      things_kept = session_bytes.things_kept h pages.pages o len r.end ss runs pos sizes slots_some (cells_some ss slots_some) things_some once joined ends in_room d agrees.holds agrees.len agrees.fresh e all_written

      longer : len ≤ length e.bytes
      longer = omega (arith, size, end_grows (unit_of h) pos len ss)

      -- all of it lies in the file
      base_lies : All (LiesIn (unit_of h) (length e.bytes)) base
      base_lies = All-append (LiesIn (unit_of h) (length e.bytes)) (header_cell ∷ things_of pages.pages) (fresh_of o)
          (All-cons (LiesIn (unit_of h) (length e.bytes)) header_cell (things_of pages.pages) (record { some = omega arith; inside = omega (arith, longer, agrees.len, agrees.holds.header.long) })
          (λ k c lt. record { some = (agrees.holds.inside k c lt).some; inside = omega (arith, (agrees.holds.inside k c lt).inside, longer, agrees.len) }))
          (λ k c lt. record { some = (agrees.fresh k c lt).some; inside = omega (arith, (agrees.fresh k c lt).inside, longer) })

      written_lie : All (λ s. LiesIn (unit_of h) (length e.bytes) s.cell) ss
      written_lie k s lt = record { some = slots_some k s lt; inside = omega (arith, sizes k s lt, ends_in (unit_of h) len ss k s lt, size) }

      cells_lie : All (LiesIn (unit_of h) (length e.bytes)) cells
      cells_lie = subst (All (LiesIn (unit_of h) (length e.bytes))) cells_are (mapped ss written_lie)
        where
          mapped : (xs : List Slot) → All (λ s. LiesIn (unit_of h) (length e.bytes) s.cell) xs → All (LiesIn (unit_of h) (length e.bytes)) (map (λ (s : Slot). s.cell) xs)
          mapped [] all = λ k c lt. absurd (omega (arith, lt))
          mapped (x ∷ xs) all = All-cons (LiesIn (unit_of h) (length e.bytes)) x.cell (map (λ (s : Slot). s.cell) xs) (all 0 x (omega arith)) (mapped xs (λ k s lt. all (suc k) s (omega (arith, lt))))

      -- the things of the new pages too: each of them was there or is written
      new_lie : All (LiesIn (unit_of h) (length e.bytes)) (things_of (pages_after plan pages.pages))
      new_lie k c lt =
          let all = moved_all (base ++ cells) ((header_cell ∷ things_of new) ++ plan.freed.items) (is_out (unit_of h) (length e.bytes)) law
          (λ i x below. in_is (unit_of h) (length e.bytes) (get_or (base ++ cells) i x) (All-append (LiesIn (unit_of h) (length e.bytes)) base cells base_lies cells_lie i x below)) in
          out_not (unit_of h) (length e.bytes) (get_or (things_of new) k c) (tail_of (λ x. is_out (unit_of h) (length e.bytes) x ≡ false) header_cell (things_of new) (left_of (λ x. is_out (unit_of h) (length e.bytes) x ≡ false) (header_cell ∷ things_of new) plan.freed.items all) k c lt)
        where
          law : (g : Cell → ℕ) → sum_by g ((header_cell ∷ things_of new) ++ plan.freed.items) ≡ sum_by g (base ++ cells)
          law g = omega (
            arith,
            parts.moved h pages o room r fresh len last plan p whole is f full g,
            sum_by-append g (header_cell ∷ things_of new) (plan.freed.items ++ plan.place ∷ []),
            sum_by-append g plan.freed.items (plan.place ∷ []),
            sum_by-append g (header_cell ∷ things_of new) plan.freed.items,
            sum_by-append g base (places plan),
            sum_by-append g cells (plan.place ∷ []),
            sum_by-append g base cells,
          )

      -- each added page stands whole
      stand : AreFit (pages_after plan pages.pages) plan.added.items → All (StandsWhole (unit_of h) e.bytes (pages_after plan pages.pages)) plan.added.items
      stand fits i a lt =
          let page = get_or plan.added.items i a in
          let slot : NewPage → Slot = λ x. record { cell = record { at = x.at; len = 1024 }; bytes = bytes_of new x } in
          let there : i < length (page_slots new plan.added.items) = omega (arith, lt, length-map plan.added.items slot) in
          let bytes = subst (λ s. bytes_at (unit_of h) e.bytes s.cell ≡ s.bytes) (get_or-map slot plan.added.items i a (slot a) lt) (right_of (λ s. bytes_at (unit_of h) e.bytes s.cell ≡ s.bytes) slots (page_slots new plan.added.items) have i (slot a) there) in
          let lies = subst (λ s. LiesIn (unit_of h) (length e.bytes) s.cell) (get_or-map slot plan.added.items i a (slot a) lt) (right_of (λ s. LiesIn (unit_of h) (length e.bytes) s.cell) slots (page_slots new plan.added.items) written_lie i (slot a) there) in
          go page (page_of new page.space page.index) refl (pages_there pages.pages plan.added.items plan.pointings.items f.missing i a lt) bytes lies.inside (fits i a lt)
        where
          go : (b : NewPage) (q : Option Page) → page_of new b.space b.index ≡ q → IsSome (page_of new b.space b.index) → bytes_at (unit_of h) e.bytes (record { at = b.at; len = 1024 }) ≡ bytes_of new b → b.at * unit_of h + 1024 ≤ length e.bytes
              → ((x : Page) → page_of new b.space b.index ≡ Some x → FitsPage x) → StandsWhole (unit_of h) e.bytes new b
          go b None none some bytes inside fits = absurd (none_some (subst IsSome none some))
            where
              none_some : false ≡ true → ⊥
              none_some e = cc
          go b (Some q) found some bytes inside fits = (q, found, inside, record { fits = fits q found; bytes = bytes ∙ ap (λ o. option_map_or page_bytes o []) found })

      -- ---- the log makes the new pages of the old ones

      module _ (holds : Holds h pages.pages e) where
        pages_apart_then : AllPairs (AreApart (unit_of h)) (with_added plan.added.items pages.pages)
        pages_apart_then = pages_apart (unit_of h) (with_added plan.added.items pages.pages) pos (λ k.
            let own : Cell → ℕ = λ c. cond (owns (unit_of h) k c) 1 0 in
            omega (
              arith,
              once_all k,
              things_new own plan.added.items pages.pages,
              sum_by-append own base (places plan),
              sum_by-append own cells (plan.place ∷ []),
              sum_by-append own (cells_of plan.placed.items) (places_of plan.added.items),
              sum_by-append own (header_cell ∷ things_of pages.pages) (fresh_of o),
              sum_by-cons own header_cell (things_of pages.pages),
            ))

        log_room : plan.place.at + blocks (unit_of h) plan.place.len ≤ room_of h
        log_room =
            let one = right_of (λ c. c.at + blocks (unit_of h) c.len ≤ r.end) cells (plan.place ∷ []) within 0 plan.place (omega arith) in
            omega (arith, one, in_room)

        made : AreFit (pages_after plan pages.pages) plan.added.items → IsCommit h pages.pages (pages_after plan pages.pages) plan.place plan.draft.writes e × (plan.place.at ≤ blocks (unit_of h) (length e.bytes))
        made fits = (
          subst (λ ws. IsCommit h pages.pages new plan.place ws e) (sym f.writes)
              (commit_made h pages.pages plan.added.items plan.pointings.items plan.place e holds pages_apart_then f.missing f.turnover.numbers f.turnover.fits f.turnover.targets
              (parts.addresses h pages o room r fresh len last plan p whole is f full) (omega (arith, log_len)) once_old once_new new_lie (stand fits) log_room),
          subst (λ n. plan.place.at ≤ blocks (unit_of h) n) size log_begins,
        )

    pub writable : IsWritable h pages.pages (pages_after plan pages.pages) plan d
    writable = record {
      holds = agrees.holds;
      fit = (fit_split (slot_pieces plan) (page_pieces (unit_of h) plan new) d.bytes fit).0;
      size = ap length (f.planned.runs.same d.bytes slots_fit).0 ∙ pieces_length (unit_of h) pos len None slots d.bytes (sym agrees.len) ∙ sym f.planned.end;
      slots = (split_free h pages.pages (slot_pieces plan) (page_pieces (unit_of h) plan new) free).0;
      pages = (split_free h pages.pages (slot_pieces plan) (page_pieces (unit_of h) plan new) free).1;
      fits = f.fits;
      cells = subst (All (λ w. FitsCell w.cell)) (sym f.writes) (fits_writes h plan.added.items plan.pointings.items f.turnover.fits (parts.addresses h pages o room r fresh len last plan p whole is f full));
      commit = λ e holds wrote fits. made e wrote holds fits;
    }

    -- ---- the store then

    abbrev bytes : List ℕ
    bytes = written (unit_of h) plan (pages_after plan pages.pages) d.bytes

    abbrev after : Disk
    after = record d { bytes = written (unit_of h) plan (pages_after plan pages.pages) d.bytes }

    things : HasThings (with_log h plan.place) plan.draft.writes (pages_after plan pages.pages) (length bytes)
    things = record {
      inside = new_lie after refl;
      apart = λ k. each plan.draft.writes k;
      targets = subst (All (λ w. IsTarget h new w.target)) (sym f.writes) (targets_new h pages.pages plan.added.items plan.pointings.items f.missing f.turnover.targets);
    }
      where
        each : (ws : List CellWrite) (k : ℕ) → owners (unit_of h) (header_cell ∷ log_things (with_log h plan.place) ws ++ things_of (pages_after plan pages.pages)) k ≤ 1
        each [] k = omega (arith, once_new k, sum_by-cons (λ c. cond (owns (unit_of h) k c) 1 0) plan.place (header_cell ∷ things_of new))
        each (w ∷ ws) k =
            let own : Cell → ℕ = λ c. cond (owns (unit_of h) k c) 1 0 in
            omega (arith, once_new k, sum_by-cons own plan.place (header_cell ∷ things_of new), sum_by-cons own header_cell (things_of new), sum_by-cons own header_cell (plan.place ∷ things_of new), sum_by-cons own plan.place (things_of new))

    long : 128 ≤ length bytes
    long = omega (arith, longer after refl, agrees.len, agrees.holds.header.long)

    -- the log leaves the slots that the new pages name
    pub named_kept : (id : SlotId) → content (unit_of h) (put_cells plan.draft.writes bytes) (pointer_of (pages_after plan pages.pages) id.space id.number) ≡ content (unit_of h) bytes (pointer_of (pages_after plan pages.pages) id.space id.number)
    named_kept id =
        pointer_kept h new plan.draft.writes bytes pos (λ k. omega (arith, once_new k, sum_by-cons (λ c. cond (owns (unit_of h) k c) 1 0) plan.place (header_cell ∷ things_of new))) (new_lie after refl)
        (suits_within (with_log h plan.place) (length bytes) plan.draft.writes long (suits (with_log h plan.place) new (length bytes) pos plan.draft.writes things)) things.targets id

    -- the new pages name the slots of the session with the last changes
    map_written : Same (map_of h (pages_after plan pages.pages) (put_cells plan.draft.writes bytes)) (changed last (session (seen h pages o room len) d))
    map_written id =
        named_kept id
        ∙ ap (content (unit_of h) bytes) (named_then id)
        ∙ changed_there (unit_of h) bytes (session (seen h pages o room len) d) plan.placed.items id (place_in pages.pages o id)
        (left_of (λ s. bytes_at (unit_of h) bytes s.cell ≡ s.bytes) slots (page_slots new plan.added.items) (have after refl)) (kept after refl id ∙ ap (content (unit_of h) d.bytes) (sym (session_is h pages o room len [] id)))
        ∙ ap (λ cs. changed cs (session (seen h pages o room len) d) id) f.are

    -- a stop leaves the slots of the last commit, or those of the session with the last changes
    pub before_or_after : (image said : List ℕ) → OldOrNew h pages.pages (pages_after plan pages.pages) plan d image said → BeforeOrAfter (seen h pages o room len) last d image said
    before_or_after image said left = (
      left.0,
      elim left.1 [
        | inl old ↦ inl old
        | inr gives ↦ inr (gives_same h.first image (changed last (session (seen h pages o room len) d)) (map_of h new (put_cells plan.draft.writes bytes)) (λ id. sym (map_written id)) gives)
      ],
    )

    module _ (q : Paged) (none : Overlay) (t : Space) (z : Disk) (is_after : q.pages ≡ pages_after plan pages.pages) (empty : (space : spaces.Space) → changes_of none space ≡ []) where
      pub agrees_then : Holds plan.header (pages_after plan pages.pages) z → length z.bytes ≡ max (length bytes) (log_at (with_log h plan.place) + plan.place.len) → Agrees (seen plan.header q none t plan.end) z
      agrees_then holds size_is = record {
        holds = subst (λ l. Holds plan.header l z) (sym is_after) holds;
        len = f.end ∙ over_append (unit_of h) len cells (plan.place ∷ []) ∙ ap (λ n. max n (plan.place.at * unit_of h + plan.place.len)) (sym (after_over (unit_of h) len ss sizes ∙ ap (end_over (unit_of h) len) cells_are) ∙ size after refl) ∙ sym size_is;
        fresh = subst (λ l. All (LiesIn (unit_of plan.header) plan.end) l) (λ i. places_in (sym (empty Objects) i) ++ places_in (sym (empty System) i)) (λ k x lt. absurd (omega (arith, lt)));
        cached = λ k x lt. absurd (omega (arith, lt));
      }

      pub committed_then : Same (map_of plan.header (pages_after plan pages.pages) z.bytes) (map_of h (pages_after plan pages.pages) (put_cells plan.draft.writes bytes)) → Same (committed (seen plan.header q none t plan.end) z) (changed last (session (seen h pages o room len) d))
      committed_then same id = ap (λ l. map_of plan.header l z.bytes id) is_after ∙ same id ∙ map_written id

      pub session_then : Same (map_of plan.header (pages_after plan pages.pages) z.bytes) (map_of h (pages_after plan pages.pages) (put_cells plan.draft.writes bytes)) → Same (session (seen plan.header q none t plan.end) z) (changed last (session (seen h pages o room len) d))
      session_then same id =
          ap (λ cs. content (unit_of plan.header) z.bytes (option_map_or (λ x. x) (lookup (nat_eq id.number) cs) (pointer_of q.pages id.space id.number))) (nothing id.space)
          ∙ committed_then same id
        where
          nothing : (space : spaces.Space) → changes_in (seen plan.header q none t plan.end) space ≡ []
          nothing Objects = empty Objects
          nothing System = empty System

      -- as it is told of the pages in memory

      now_holds : Holds plan.header q.pages z → Holds plan.header (pages_after plan pages.pages) z
      now_holds holds = subst (λ l. Holds plan.header l z) is_after holds

      pub now_same : Same (map_of plan.header q.pages z.bytes) (map_of h q.pages (put_cells plan.draft.writes (written (unit_of h) plan q.pages d.bytes)))
          → Same (map_of plan.header (pages_after plan pages.pages) z.bytes) (map_of h (pages_after plan pages.pages) (put_cells plan.draft.writes bytes))
      now_same same = subst (λ l. Same (map_of plan.header l z.bytes) (map_of h l (put_cells plan.draft.writes (written (unit_of h) plan l d.bytes)))) is_after same

      pub agrees_now : Holds plan.header q.pages z → length z.bytes ≡ max (length (written (unit_of h) plan q.pages d.bytes)) (log_at (with_log h plan.place) + plan.place.len) → Agrees (seen plan.header q none t plan.end) z
      agrees_now holds size_is = agrees_then (now_holds holds) (size_is ∙ ap (λ l. max (length (written (unit_of h) plan l d.bytes)) (log_at (with_log h plan.place) + plan.place.len)) is_after)

      pub committed_now : Same (map_of plan.header q.pages z.bytes) (map_of h q.pages (put_cells plan.draft.writes (written (unit_of h) plan q.pages d.bytes))) → Same (committed (seen plan.header q none t plan.end) z) (changed last (session (seen h pages o room len) d))
      committed_now same = committed_then (now_same same)

      pub session_now : Same (map_of plan.header q.pages z.bytes) (map_of h q.pages (put_cells plan.draft.writes (written (unit_of h) plan q.pages d.bytes))) → Same (session (seen plan.header q none t plan.end) z) (changed last (session (seen h pages o room len) d))
      session_now same = session_then (now_same same)

  -- the header is the old one but for its root, its log and its gate
  pub header_kept : plan.header ≡ record h { root = plan.header.root; log = plan.header.log; gate = plan.header.gate; block_root = plan.header.block_root }
  header_kept =
      let kept = parts.header_is h pages o room r fresh len last plan p whole is f full in
      kept ∙ (λ i. record h { root = plan.header.root; log = (sym kept i).log; gate = (sym kept i).gate; block_root = plan.header.block_root })

  -- both sides are the session with the changes
  pub settled_then : (q : Paged) (none : Overlay) (t : Space) (was es : Cached) → q.pages ≡ pages_after plan pages.pages → ((space : spaces.Space) → changes_of none space ≡ [])
      → IsSettled last (parts h pages o room len was) (parts plan.header q none t plan.end es)
  settled_then q none t was es is_after empty = record {
    objects = empty Objects;
    system = empty System;
    there = λ id.
        ap (λ l. is_some (pointer_of l id.space id.number)) is_after
        ∙ ap is_some (named_then id)
        ∙ there_same plan.placed.items id (place_in pages.pages o id)
        ∙ (λ i. has_after (f.are i) id (is_some (sym (session_is h pages o room len was id) i)));
  }

  -- a slot moved
  pub some_moved : (id : SlotId) × (moves pages.pages o last id ≡ true)
  some_moved = one_moves plan.pointings.items (moves pages.pages o last) f.some (λ id. f.turnover.moved id ∙ moved_is pages.pages o o last plan.placed.items id f.are (λ space. refl))
