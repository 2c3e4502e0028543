-- The steps of a change: what each gives for the next.
use Rattle.std.proofs.Common.{◌≡◌, ◌≢◌, ◌∙◌, subst₂, ℕ, ◌+◌, ◌*◌, ◌<◌, ◌≤◌, List, [], ◌∷◌, ◌++◌, length, map, get_or, sym, ap, subst, refl, arith}
use Rattle.std.specs.Prelude.{All, Contains, is_some}
use Rattle.oc_layout.specs.declared.cells.Cell.{Cell}
use Rattle.oc_layout.specs.declared.cells.Header.{Header}
use Rattle.oc_layout.specs.declared.cells.Space as spaces
use Rattle.oc_layout.specs.Layout.{unit_of, room_of, blocks}
use Rattle.oc_host.specs.Disk.{Disk}
use Rattle.oc_free.specs.FreeParts.{free_at}
use Rattle.oc_pages.specs.Pages.{Paged, things_of}
use Rattle.oc_room.specs.Rooms.{Space, IsRoom, GoesBack, owners, open_at}
use Rattle.oc_room.proofs.Counting.{some_blocks}
use Rattle.oc_room.proofs.Few.{few}
use Rattle.oc_slots.specs.declared.overlay.Overlay.{Overlay}
use Rattle.oc_slots.specs.declared.placed.Slot.{Slot}
use Rattle.oc_slots.specs.declared.placed.PlacedChange.{PlacedChange}
use Rattle.oc_slots.specs.declared.run.Planned.{Planned}
use Rattle.oc_slots.specs.declared.slot.SlotChange.{SlotChange}
use Rattle.oc_slots.specs.declared.slot.SlotId.{SlotId}
use Rattle.oc_slots.specs.Cached.{Cached}
use Rattle.oc_slots.specs.Maps.{Same, changed, content, has_after}
use Rattle.oc_slots.specs.Forms.{LiesIn, header_cell}
use Rattle.oc_slots.specs.Slots.{changes_of, change_of, slots_of, cells_of}
use Rattle.oc_slots.specs.Stores.{Slots, Agrees, AreChanges, IsWhole, changes_in, fresh_of, session, session_place, parts}
use Rattle.oc_slots.specs.Noting.{noted, place_in, placed_place, IsSession}
use Rattle.oc_slots.specs.Pieces.{as_pieces, over_all, Fit, IsPlanned, end_of, end_after}
use Rattle.oc_slots.specs.Writing.{AreFree, Keeps}
use Rattle.oc_slots.proofs.Things.{right_of}
use Rattle.oc_slots.proofs.Noted.{owners_append}
use Rattle.oc_slots.proofs.Tilings.{tiles_within, each_once}
use Rattle.oc_slots.proofs.SessionChange.{fresh_same, some_placed, cells_some, session_ready, whole_noted, once, slot_ends, r_unit}
use Rattle.oc_slots.proofs.SessionBytes.{runs_fit, runs_free, size_after, base_kept, lie_after, slots_have}
use Rattle.oc_slots.proofs.SessionMap.{changed_there, distinct_of, noted_elsewhere}
use Rattle.oc_slots.proofs.KeptPlaces.{changes_seen, session_is, session_then}
use Rattle.oc_slots.proofs.PlanMoves.{there_same}

-- the parts of a store that keeps nothing
abbrev pub seen : Header → Paged → Overlay → Space → ℕ → Slots
seen h pages o room len = parts h pages o room len []

-- no more slots are the session's own than the file may have blocks
pub few_fresh : (h : Header) (pages : Paged) (o : Overlay) (room : Space) (fresh len : ℕ) → IsWhole h pages o room fresh len → fresh ≤ room.limit
few_fresh h pages o room fresh len whole =
    let base : List Cell = header_cell ∷ things_of pages.pages in
    let some = right_of (λ c. 1 ≤ c.len) base (fresh_of o) whole.some in
    let within = right_of (λ c. c.at + blocks room.unit c.len ≤ room.end) base (fresh_of o) (tiles_within room whole.is_room.unit (base ++ fresh_of o) whole.tiles whole.some) in
    let inside : All (λ c. c.at < room.end) (fresh_of o) = λ k d lt. omega (arith, within k d lt, some_blocks room.unit _ whole.is_room.unit (some k d lt)) in
    omega (arith, whole.count, few room.unit room.end whole.is_room.unit (fresh_of o) some inside (λ k. omega (arith, each_once room whole.is_room.unit (base ++ fresh_of o) whole.tiles k, owners_append room.unit k base (fresh_of o))), whole.is_room.end)

-- the changes are placed, and nothing is noted yet
pub record IsPlaced (h : Header) (pages : Paged) (o p : Overlay) (room r : Space) (fresh len : ℕ) (changes : List SlotChange) (ps : List PlacedChange) (planned : Planned) : Type 0 where
  pub whole : IsWhole h pages o room fresh len
  pub is : AreChanges changes
  pub are : map change_of ps ≡ changes
  pub sizes : All (λ s. s.cell.len ≡ length s.bytes) (slots_of ps)
  pub opened : (k : ℕ) → open_at room k ≡ open_at r k + owners room.unit (cells_of ps) k
  pub back : GoesBack r (cells_of ps) room.end
  pub plan : IsPlanned (unit_of h) len (slots_of ps) planned
  pub spare : fresh + length (cells_of ps) ≤ r.spare
  pub same : (space : spaces.Space) → changes_of p space ≡ changes_of o space
  pub unit : r.unit ≡ room.unit
  pub limit : r.limit ≡ room.limit
  pub is_room : IsRoom r

-- they are noted
pub record IsNoted (p q : Overlay) (r t : Space) (n : ℕ) (ps : List PlacedChange) : Type 0 where
  pub session : IsSession q t n []
  pub changes_are : (space : spaces.Space) → changes_of q space ≡ noted ps space (changes_of p space)
  pub moved : (k : ℕ) → free_at t.parts k + owners r.unit (fresh_of q) k ≡ free_at r.parts k + owners r.unit (fresh_of p) k + owners r.unit (cells_of ps) k
  pub members : (c : Cell) → Contains (fresh_of q) c → Contains (fresh_of p ++ cells_of ps) c
  pub unit : t.unit ≡ r.unit
  pub end : t.end ≡ r.end
  pub limit : t.limit ≡ r.limit

-- of a space of which no slot is named all stays as it was noted
pub untouched_after : (h : Header) (pages : Paged) (o q : Overlay) (room t : Space) (len end : ℕ) (was es : Cached) (ps : List PlacedChange) (space : spaces.Space)
    → changes_of q space ≡ noted ps space (changes_of o space) → All (λ c. c.id.space ≢ space) (map change_of ps) → changes_in (parts h pages q t end es) space ≡ changes_in (parts h pages o room len was) space
untouched_after h pages o q room t len end was es ps space are others =
    changes_seen h pages q t end es space ∙ are ∙ noted_elsewhere ps space (changes_of o space) others ∙ sym (changes_seen h pages o room len was space)

module _ (h : Header) (pages : Paged) (o p : Overlay) (room r : Space) (fresh len : ℕ) (changes : List SlotChange) (ps : List PlacedChange) (planned : Planned) (f : IsPlaced h pages o p room r fresh len changes ps planned) where
  pub ready : IsSession p r fresh (cells_of ps)
  ready = session_ready h pages o p room r fresh len changes ps f.whole f.is f.are f.sizes f.opened f.back f.spare f.same f.unit f.limit f.is_room

  units : r.unit ≡ unit_of h
  units = r_unit h pages o p room r fresh len changes ps f.whole f.is f.are f.sizes f.opened f.back f.spare f.same f.unit f.limit f.is_room

  pub pos_unit : 0 < unit_of h
  pos_unit = subst (λ u. 0 < u) units f.is_room.unit

  pub once_unit : (k : ℕ) → owners (unit_of h) (((header_cell ∷ things_of pages.pages) ++ fresh_of o) ++ cells_of ps) k ≤ 1
  once_unit k = subst₂ (λ u l. owners u (((header_cell ∷ things_of pages.pages) ++ l) ++ cells_of ps) k ≤ 1) units (fresh_same o p f.same)
      (omega (arith, once h pages o p room r fresh len changes ps f.whole f.is f.are f.sizes f.opened f.back f.spare f.same f.unit f.limit f.is_room k))

  pub ends_unit : (i : ℕ) (d : Slot) → i < length (slots_of ps) → end_of (unit_of h) (get_or (slots_of ps) i d) ≤ r.end * unit_of h
  ends_unit i d lt = subst (λ u. end_of u (get_or (slots_of ps) i d) ≤ r.end * u) units (slot_ends h pages o p room r fresh len changes ps f.whole f.is f.are f.sizes f.opened f.back f.spare f.same f.unit f.limit f.is_room i d lt)

  pub slots_some : All (λ s. 1 ≤ s.cell.len) (slots_of ps)
  slots_some = some_placed changes ps f.are f.is.some f.sizes

  pub in_room : r.end ≤ room_of h
  in_room = omega (arith, f.is_room.end, f.limit, f.whole.limit)

  module _ (q : Overlay) (t : Space) (n : ℕ) (g : IsNoted p q r t n ps) where
    pub whole_after : IsWhole h pages q t n planned.end
    whole_after = subst (IsWhole h pages q t n) (ap (λ u. end_after u len (slots_of ps)) units ∙ sym f.plan.end)
        (whole_noted h pages o p room r fresh len changes ps f.whole f.is f.are f.sizes f.opened f.back f.spare f.same f.unit f.limit f.is_room q t n g.session g.changes_are g.moved g.unit g.end g.limit)

    place_after : (id : SlotId) → session_place (seen h pages q t planned.end) id ≡ placed_place ps id (place_in pages.pages o id)
    place_after = session_then h pages o q room t len planned.end ps (distinct_of changes ps f.are f.is.distinct) (λ space. g.changes_are space ∙ ap (noted ps space) (f.same space))

    -- a slot is there then as the changes leave it
    pub there_after : (id : SlotId) → is_some (session_place (seen h pages q t planned.end) id) ≡ has_after changes id (is_some (session_place (seen h pages o room len) id))
    there_after id =
        ap is_some (place_after id)
        ∙ there_same ps id (place_in pages.pages o id)
        ∙ (λ i. has_after (f.are i) id (is_some (sym (session_is h pages o room len [] id) i)))

  module _ (d : Disk) (agrees : Agrees (seen h pages o room len) d) where
    pub fits : Fit (as_pieces planned.runs.items) d.bytes
    fits = runs_fit h pages.pages o len r.end (slots_of ps) (as_pieces planned.runs.items) pos_unit f.sizes slots_some (cells_some (slots_of ps) slots_some) f.whole.some once_unit f.plan.runs ends_unit in_room d agrees.holds agrees.len agrees.fresh

    pub frees : AreFree h pages.pages (as_pieces planned.runs.items)
    frees = runs_free h pages.pages o len r.end (slots_of ps) (as_pieces planned.runs.items) pos_unit f.sizes slots_some (cells_some (slots_of ps) slots_some) f.whole.some once_unit f.plan.runs ends_unit in_room d agrees.holds agrees.len agrees.fresh

    module _ (q : Overlay) (t : Space) (n : ℕ) (g : IsNoted p q r t n ps) (e : Disk) (wrote : e.bytes ≡ over_all (as_pieces planned.runs.items) d.bytes) (keeps : Keeps h pages.pages d e) where
      pub agrees_after : Agrees (seen h pages q t planned.end) e
      agrees_after = record {
        holds = keeps.holds agrees.holds;
        len = f.plan.end ∙ size_after h pages.pages o len r.end (slots_of ps) (as_pieces planned.runs.items) pos_unit f.sizes slots_some (cells_some (slots_of ps) slots_some) f.whole.some once_unit f.plan.runs ends_unit in_room d agrees.holds agrees.len agrees.fresh e wrote;
        fresh = subst (λ n. All (LiesIn (unit_of h) n) (fresh_of q)) (sym f.plan.end) (lie_after h pages.pages o len r.end (slots_of ps) (as_pieces planned.runs.items) pos_unit f.sizes slots_some (cells_some (slots_of ps) slots_some) f.whole.some once_unit f.plan.runs ends_unit in_room d agrees.holds agrees.len agrees.fresh e wrote q
            (λ c there. subst (λ l. Contains (l ++ cells_of ps) c) (fresh_same o p f.same) (g.members c there)));
        cached = λ k x lt. absurd (omega (arith, lt));
      }

      pub session_after : Same (session (seen h pages q t planned.end) e) (changed changes (session (seen h pages o room len) d))
      session_after id =
          ap (content (unit_of h) e.bytes) (place_after q t n g id)
          ∙ changed_there (unit_of h) e.bytes (session (seen h pages o room len) d) ps id (place_in pages.pages o id)
          (slots_have h pages.pages o len r.end (slots_of ps) (as_pieces planned.runs.items) pos_unit f.sizes slots_some (cells_some (slots_of ps) slots_some) f.whole.some once_unit f.plan.runs ends_unit in_room d agrees.holds agrees.len agrees.fresh e wrote)
          (base_kept h pages.pages o len r.end (slots_of ps) (as_pieces planned.runs.items) pos_unit f.sizes slots_some (cells_some (slots_of ps) slots_some) f.whole.some once_unit f.plan.runs ends_unit in_room d agrees.holds agrees.len agrees.fresh e wrote id
          ∙ ap (content (unit_of h) d.bytes) (sym (session_is h pages o room len [] id)))
          ∙ ap (λ cs. changed cs (session (seen h pages o room len) d) id) f.are
