-- What the file holds once the slots of a change are written.
use Rattle.std.proofs.Common.{◌≡◌, ◌∙◌, ℕ, ◌+◌, ◌*◌, ◌<◌, ◌≤◌, Bool, true, false, nat_eq, List, [], ◌∷◌, ◌++◌, length, map, get_or, Option, Some, None, sym, ap, subst, refl, arith, length-append}
use Rattle.std.specs.Prelude.{All, Contains}
use Rattle.std.specs.Map.{lookup}
use Rattle.std.specs.Option.{option_map_or}
use Rattle.std.proofs.Common.{subst₂}
use Rattle.std.proofs.lemmas.List.{get_or-map, length-map, get_or_append_left}
use Rattle.std.proofs.lemmas.List.Elements.{All-append, All-cons}
use Rattle.oc_layout.specs.declared.cells.Cell.{Cell}
use Rattle.oc_layout.specs.declared.cells.Header.{Header}
use Rattle.oc_layout.specs.declared.cells.Space as spaces
use Rattle.oc_layout.specs.declared.cells.Space.TheVariants.{Objects, System}
use Rattle.oc_layout.specs.Layout.{unit_of, room_of}
use Rattle.oc_host.specs.Disk.{Disk}
use Rattle.oc_log.specs.Log.{slice}
use Rattle.oc_log.proofs.Bytes.{slice_same}
use Rattle.oc_pages.specs.declared.page.Page.{Page}
use Rattle.oc_pages.specs.Pages.{pointer_of, things_of}
use Rattle.oc_room.specs.Rooms.{owners}
use Rattle.oc_room.proofs.Counting.{blocks_least}
use Rattle.oc_slots.specs.declared.overlay.Overlay.{Overlay}
use Rattle.oc_slots.specs.declared.placed.Slot.{Slot}
use Rattle.oc_slots.specs.declared.slot.SlotId.{SlotId}
use Rattle.oc_slots.specs.Maps.{bytes_at, content}
use Rattle.oc_slots.specs.Forms.{LiesIn, header_cell}
use Rattle.oc_slots.specs.Held.{IsBeside, Holds}
use Rattle.oc_slots.specs.Slots.{Changes, changes_of, cell_list, places_in}
use Rattle.oc_slots.specs.Stores.{fresh_of}
use Rattle.oc_slots.specs.Noting.{place_in}
use Rattle.oc_slots.specs.Pieces.{Piece, ShareNone, over_all, Fit, AreBeside, AreJoined, pieces_of, end_of, end_after}
use Rattle.oc_slots.specs.Writing.{AreFree}
use Rattle.oc_slots.proofs.Noted.{owners_append}
use Rattle.oc_slots.proofs.PieceBytes.{pieces_beside, pieces_within, pieces_fit, pieces_length, slots_written, beside_same, end_grows}
use Rattle.oc_slots.proofs.Sessions.{of_contained}
use Rattle.oc_slots.proofs.Tilings.{both_apart, pairs_apart}
use Rattle.oc_slots.proofs.Things.{tail_of, pointed, left_of, right_of}

module _ (P : Cell → Type 0) where
  pub noted_has : (cs : Changes) (n : ℕ) (base : Option Cell) (c : Cell) → All P (places_in cs) → (base ≡ Some c → P c) → option_map_or (λ x. x) (lookup (nat_eq n) cs) base ≡ Some c → P c
  noted_has [] n base c all based e = based e
  noted_has (x ∷ xs) n base c all based e = go (nat_eq n x.0) refl (noted_has xs n base c (right_of P (cell_list x.1) (places_in xs) all) based)
    where
      one : (o : Option Cell) → All P (cell_list o) → o ≡ Some c → P c
      one o here is = subst (λ r. All P (cell_list r)) is here 0 c (omega arith)

      go : (b : Bool) → nat_eq n x.0 ≡ b → (option_map_or (λ y. y) (lookup (nat_eq n) xs) base ≡ Some c → P c) → P c
      go true t rest = one x.1 (left_of P (cell_list x.1) (places_in xs) all) (sym (first t) ∙ e)
        where
          first : nat_eq n x.0 ≡ true → option_map_or (λ y. y) (lookup (nat_eq n) (x ∷ xs)) base ≡ x.1
          first t = rw t refl
      go false t rest = rest (sym (later t) ∙ e)
        where
          later : nat_eq n x.0 ≡ false → option_map_or (λ y. y) (lookup (nat_eq n) (x ∷ xs)) base ≡ option_map_or (λ y. y) (lookup (nat_eq n) xs) base
          later t = rw t refl

  -- a slot of the session is one of the pages' or one of the session's own
  pub place_has : (pages : List Page) (o : Overlay) (id : SlotId) (c : Cell) → All P (things_of pages) → All P (fresh_of o) → place_in pages o id ≡ Some c → P c
  place_has pages o id c things fresh e =
      noted_has (changes_of o id.space) id.number (pointer_of pages id.space id.number) c (in_space id.space) (pointed P pages things id.space id.number c) e
    where
      in_space : (space : spaces.Space) → All P (places_in (changes_of o space))
      in_space Objects = left_of P (places_in (changes_of o Objects)) (places_in (changes_of o System)) fresh
      in_space System = right_of P (places_in (changes_of o Objects)) (places_in (changes_of o System)) fresh

module _ (h : Header) (pages : List Page) (o : Overlay) (len top : ℕ) (ss : List Slot) (runs : List Piece) (pos : 0 < unit_of h) (sizes : All (λ s. s.cell.len ≡ length s.bytes) ss) (some_slots : All (λ s. 1 ≤ s.cell.len) ss)
    (some_cells : All (λ (c : Cell). 1 ≤ c.len) (map (λ (s : Slot). s.cell) ss))
    (some_things : All (λ (c : Cell). 1 ≤ c.len) ((header_cell ∷ things_of pages) ++ fresh_of o)) (once : (k : ℕ) → owners (unit_of h) (((header_cell ∷ things_of pages) ++ fresh_of o) ++ map (λ (s : Slot). s.cell) ss) k ≤ 1)
    (joined : AreJoined (pieces_of (unit_of h) len None ss) runs) (ends : (i : ℕ) (d : Slot) → i < length ss → end_of (unit_of h) (get_or ss i d) ≤ top * unit_of h) (room : top ≤ room_of h)
    (d : Disk) (holds : Holds h pages d) (size : len ≡ length d.bytes) (lies : All (LiesIn (unit_of h) len) (fresh_of o)) where
  abbrev u : ℕ
  u = unit_of h

  abbrev things : List Cell
  things = (header_cell ∷ things_of pages) ++ fresh_of o

  abbrev pieces : List Piece
  pieces = pieces_of (unit_of h) len None ss

  base_lies : All (λ c. c.at * unit_of h + c.len ≤ len) (header_cell ∷ things_of pages)
  base_lies = All-cons (λ c. c.at * unit_of h + c.len ≤ len) header_cell (things_of pages) (omega (arith, size, holds.header.long)) (λ k x lt. omega (arith, size, (holds.inside k x lt).inside))

  things_lie : All (λ c. c.at * unit_of h + c.len ≤ len) ((header_cell ∷ things_of pages) ++ fresh_of o)
  things_lie = All-append (λ c. c.at * unit_of h + c.len ≤ len) (header_cell ∷ things_of pages) (fresh_of o) base_lies (λ k x lt. (lies k x lt).inside)

  apart : (i : ℕ) (c : Cell) → i < length ((header_cell ∷ things_of pages) ++ fresh_of o) → All (λ s. ShareNone (unit_of h) s.cell (get_or ((header_cell ∷ things_of pages) ++ fresh_of o) i c)) ss
  apart i c lt j s lt_j =
      subst (λ x. ShareNone (unit_of h) x (get_or ((header_cell ∷ things_of pages) ++ fresh_of o) i c)) (get_or-map (λ (s : Slot). s.cell) ss j s s.cell lt_j)
      (both_apart (unit_of h) ((header_cell ∷ things_of pages) ++ fresh_of o) (map (λ (s : Slot). s.cell) ss) pos some_things some_cells once i j c s.cell lt (omega (arith, lt_j, length-map ss (λ (s : Slot). s.cell))))

  -- all pieces are beside each thing
  beside : (i : ℕ) (c : Cell) → i < length ((header_cell ∷ things_of pages) ++ fresh_of o) → AreBeside (unit_of h) (get_or ((header_cell ∷ things_of pages) ++ fresh_of o) i c) (pieces_of (unit_of h) len None ss)
  beside i c lt = pieces_beside (unit_of h) pos len None ss (get_or ((header_cell ∷ things_of pages) ++ fresh_of o) i c) sizes (some_things i c lt) (things_lie i c lt) (apart i c lt) (λ p e. absurd (none e))
    where
      none : {p : Cell} → None ≡ Some p → ⊥
      none e = cc

  fit : Fit (pieces_of (unit_of h) len None ss) d.bytes
  fit = pieces_fit (unit_of h) pos len None ss d.bytes (sym size)

  pub runs_fit : Fit runs d.bytes
  runs_fit = (joined.same d.bytes fit).1

  runs_write : over_all runs d.bytes ≡ over_all (pieces_of (unit_of h) len None ss) d.bytes
  runs_write = (joined.same d.bytes fit).0

  -- the runs lie beside what is held, and in the room of the file
  pub runs_free : AreFree h pages runs
  runs_free i r lt = record {
    room = let end = joined.within (top * unit_of h) (pieces_within (unit_of h) pos len None ss (top * unit_of h) ends) i r lt in
        omega (arith, blocks_least (unit_of h) _ top pos end, room);
    beside = λ j c lt_j.
        let before = get_or_append_left (header_cell ∷ things_of pages) (fresh_of o) c j lt_j in
        let in_all : j < length ((header_cell ∷ things_of pages) ++ fresh_of o) = omega (arith, lt_j, length-append (header_cell ∷ things_of pages) (fresh_of o)) in
        subst (λ x. IsBeside (unit_of h) (get_or runs i r).at (length (get_or runs i r).bytes) x) before
        (joined.beside (unit_of h) (get_or ((header_cell ∷ things_of pages) ++ fresh_of o) j c) (some_things j c in_all) (beside j c in_all) i r lt);
  }

  -- ---- after the writes

  module _ (e : Disk) (wrote : e.bytes ≡ over_all runs d.bytes) where
    is : e.bytes ≡ over_all (pieces_of (unit_of h) len None ss) d.bytes
    is = wrote ∙ runs_write

    pub size_after : end_after (unit_of h) len ss ≡ length e.bytes
    size_after = sym (pieces_length (unit_of h) pos len None ss d.bytes (sym size)) ∙ ap length (sym is)

    slots_there : All (λ s. (slice (s.cell.at * unit_of h) s.cell.len (over_all (pieces_of (unit_of h) len None ss) d.bytes) ≡ s.bytes) × (end_of (unit_of h) s ≤ end_after (unit_of h) len ss)) ss
    slots_there = slots_written (unit_of h) pos len None ss d.bytes (sym size) sizes some_slots (λ i j x lt inside.
        subst₂ (ShareNone (unit_of h)) (get_or-map (λ (s : Slot). s.cell) ss i x x.cell (omega (arith, lt, inside))) (get_or-map (λ (s : Slot). s.cell) ss j x x.cell inside)
        (pairs_apart (unit_of h) (map (λ (s : Slot). s.cell) ss) pos some_cells (λ k. omega (arith, once k, owners_append (unit_of h) k ((header_cell ∷ things_of pages) ++ fresh_of o) (map (λ (s : Slot). s.cell) ss))) i j x.cell lt (omega (arith, inside, length-map ss (λ (s : Slot). s.cell)))))

    longer : len ≤ length e.bytes
    longer = omega (arith, size_after, end_grows (unit_of h) pos len ss)

    -- a thing has its bytes as before
    abbrev IsKept : Cell → Type 0
    IsKept c = bytes_at (unit_of h) e.bytes c ≡ bytes_at (unit_of h) d.bytes c

    pub things_kept : All IsKept ((header_cell ∷ things_of pages) ++ fresh_of o)
    things_kept i c lt =
        slice_same _ _ d.bytes e.bytes (omega (arith, things_lie i c lt, size)) (omega (arith, things_lie i c lt, longer))
        (λ k ge below. ap (λ l. get_or l k 0) is ∙ beside_same (unit_of h) (pieces_of (unit_of h) len None ss) d.bytes (get_or ((header_cell ∷ things_of pages) ++ fresh_of o) i c) fit (beside i c lt) k ge below)

    -- so a slot that didn't change has its bytes
    pub base_kept : (id : SlotId) → content (unit_of h) e.bytes (place_in pages o id) ≡ content (unit_of h) d.bytes (place_in pages o id)
    base_kept id = go (place_in pages o id) refl
      where
        go : (q : Option Cell) → place_in pages o id ≡ q → content (unit_of h) e.bytes (place_in pages o id) ≡ content (unit_of h) d.bytes (place_in pages o id)
        go None is_ = rw is_ refl
        go (Some c) is_ = rw is_ (ap {B = Option (List ℕ)} (λ l. Some l) (place_has IsKept pages o id c
            (tail_of IsKept header_cell (things_of pages) (left_of IsKept (header_cell ∷ things_of pages) (fresh_of o) things_kept)) (right_of IsKept (header_cell ∷ things_of pages) (fresh_of o) things_kept) is_))

    -- all slots of the session lie in the file
    pub lie_after : (q : Overlay) → ((c : Cell) → Contains (fresh_of q) c → Contains (fresh_of o ++ map (λ (s : Slot). s.cell) ss) c) → All (LiesIn (unit_of h) (end_after (unit_of h) len ss)) (fresh_of q)
    lie_after q members = of_contained (LiesIn (unit_of h) (end_after (unit_of h) len ss)) (fresh_of q) (fresh_of o ++ map (λ (s : Slot). s.cell) ss) members
        (All-append (LiesIn (unit_of h) (end_after (unit_of h) len ss)) (fresh_of o) (map (λ (s : Slot). s.cell) ss)
        (λ k c lt. record { some = (lies k c lt).some; inside = omega (arith, (lies k c lt).inside, longer, size_after) })
        (cells_lie ss (λ k s lt. record { some = some_slots k s lt; inside = omega (arith, sizes k s lt, (slots_there k s lt).1) })))
      where
        cells_lie : (xs : List Slot) → All (λ s. LiesIn (unit_of h) (end_after (unit_of h) len ss) s.cell) xs → All (LiesIn (unit_of h) (end_after (unit_of h) len ss)) (map (λ (s : Slot). s.cell) xs)
        cells_lie [] all = λ k c lt. absurd (omega (arith, lt))
        cells_lie (x ∷ xs) all = All-cons (LiesIn (unit_of h) (end_after (unit_of h) len ss)) x.cell (map (λ (s : Slot). s.cell) xs) (all 0 x (omega arith)) (cells_lie xs (tail_of (λ s. LiesIn (unit_of h) (end_after (unit_of h) len ss) s.cell) x xs all))

    pub slots_have : All (λ s. bytes_at (unit_of h) e.bytes s.cell ≡ s.bytes) ss
    slots_have k s lt = ap (λ l. bytes_at (unit_of h) l (get_or ss k s).cell) is ∙ (slots_there k s lt).0
