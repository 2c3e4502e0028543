-- What is kept when a change is done, and when the session is given up.
use Rattle.std.proofs.Common.{◌≡◌, ◌∙◌, ℕ, ◌<◌, ◌≤◌, false, List, [], ◌∷◌, ◌++◌, length, get_or, sym, ap, subst, arith}
use Rattle.std.specs.Prelude.{All, AllPairs}
use Rattle.std.specs.Map.{keys_of}
use Rattle.oc_layout.specs.declared.cells.Cell.{Cell}
use Rattle.oc_layout.specs.declared.cells.Header.{Header}
use Rattle.oc_layout.specs.declared.cells.Space as spaces
use Rattle.oc_layout.specs.Layout.{unit_of}
use Rattle.oc_host.specs.Disk.{Disk}
use Rattle.oc_pages.specs.Pages.{Paged, things_of}
use Rattle.oc_room.specs.Rooms.{Space, owners}
use Rattle.oc_slots.specs.declared.overlay.Overlay.{Overlay}
use Rattle.oc_slots.specs.declared.placed.PlacedChange.{PlacedChange}
use Rattle.oc_slots.specs.declared.run.Planned.{Planned}
use Rattle.oc_slots.specs.declared.slot.Side.{Side}
use Rattle.oc_slots.specs.declared.slot.Side.TheVariants.{Committed, Session}
use Rattle.oc_slots.specs.declared.slot.SlotChange.{SlotChange}
use Rattle.oc_slots.specs.declared.slot.SlotId.{SlotId}
use Rattle.oc_slots.specs.Cached.{Cached, AreThose, is_among, without}
use Rattle.oc_slots.specs.Forms.{header_cell}
use Rattle.oc_slots.specs.Maps.{is_same, content}
use Rattle.oc_slots.specs.Noting.{left_by}
use Rattle.oc_slots.specs.Pieces.{as_pieces, over_all}
use Rattle.oc_slots.specs.Slots.{changes_of, slots_of, cells_of}
use Rattle.oc_slots.specs.Stores.{Agrees, ArePlaces, AreRead, IsPlace, IsWhole, fresh_of, parts, place_on}
use Rattle.oc_slots.specs.Writing.{Keeps}
use Rattle.oc_slots.proofs.Forgotten.{all_left, exactly}
use Rattle.oc_slots.proofs.KeptPlaces.{session_is, with_kept, without_kept, place_same, stays_placed, left_goes, stays_committed, fresh_goes, reads_left}
use Rattle.oc_slots.proofs.Noted.{owners_append}
use Rattle.oc_slots.proofs.SessionBytes.{base_kept}
use Rattle.oc_slots.proofs.SessionChange.{fresh_same, cells_some}
use Rattle.oc_slots.proofs.SessionMap.{distinct_of}
use Rattle.oc_slots.proofs.SessionSteps.{seen, IsPlaced, IsNoted, pos_unit, once_unit, ends_unit, slots_some, in_room, whole_after}
use Rattle.oc_slots.proofs.Things.{tail_of, right_of}
use Rattle.oc_slots.proofs.Tilings.{each_once}

module _ (h : Header) (pages : Paged) (o p : Overlay) (room r : Space) (fresh len : ℕ) (changes : List SlotChange) (ps : List PlacedChange) (planned : Planned) (f : IsPlaced h pages o p room r fresh len changes ps planned) (es : Cached) (places : ArePlaces (seen h pages o room len) es) where
  distinct : AllPairs (λ a b. is_same a.id b.id ≡ false) ps
  distinct = distinct_of changes ps f.are f.is.distinct

  -- without noting anything they are places still
  pub places_same : (l : ℕ) → ArePlaces (seen h pages p r l) es
  places_same l k d lt = place_same h pages o p room r len l (get_or es k d).0 f.same (places k d lt)

  once : (k : ℕ) → owners (unit_of h) ((things_of pages.pages ++ fresh_of p) ++ cells_of ps) k ≤ 1
  once k = subst (λ l. owners (unit_of h) ((things_of pages.pages ++ l) ++ cells_of ps) k ≤ 1) (sym (fresh_same o p f.same))
      (omega (arith, once_unit h pages o p room r fresh len changes ps planned f k, owners_append (unit_of h) k (header_cell ∷ []) ((things_of pages.pages ++ fresh_of o) ++ cells_of ps)))

  module _ (q : Overlay) (t : Space) (n : ℕ) (g : IsNoted p q r t n ps) where
    stays : (k : ℕ) (d : Cell × List ℕ) → k < length es → is_among (left_by p ps) (get_or es k d).0 ≡ false → IsPlace (seen h pages q t planned.end) (get_or es k d).0
    stays k d lt left = stays_placed h pages p q r t len planned.end ps distinct g.changes_are (get_or es k d).0 (places_same len k d lt) left

    some : All (λ c. 1 ≤ c.len) (things_of pages.pages ++ fresh_of q)
    some = tail_of (λ c. 1 ≤ c.len) header_cell (things_of pages.pages ++ fresh_of q) (whole_after h pages o p room r fresh len changes ps planned f q t n g).some

    pub places_after : ArePlaces (seen h pages q t planned.end) (without (left_by p ps) es)
    places_after = all_left (λ e. IsPlace (seen h pages q t planned.end) e.0) (left_by p ps) es stays

    pub those_after : (fs : Cached) → AreThose (IsPlace (parts h pages q t planned.end fs)) (keys_of es) (keys_of (without (left_by p ps) es))
    those_after fs = exactly (IsPlace (parts h pages q t planned.end fs)) (left_by p ps) es (λ k d lt left. with_kept h pages q t planned.end fs (get_or es k d).0 (stays k d lt left))
        (λ c there place. left_goes h pages p q r t len planned.end ps distinct g.changes_are (unit_of h) (pos_unit h pages o p room r fresh len changes ps planned f) some once c there (without_kept h pages q t planned.end fs c place))

  module _ (d : Disk) (agrees : Agrees (seen h pages o room len) d) (e : Disk) (wrote : e.bytes ≡ over_all (as_pieces planned.runs.items) d.bytes) (keeps : Keeps h pages.pages d e) where
    both : (side : Side) (id : SlotId) → content (unit_of h) e.bytes (place_on side (seen h pages o room len) id) ≡ content (unit_of h) d.bytes (place_on side (seen h pages o room len) id)
    both Committed id = keeps.same agrees.holds id
    both Session id =
        ap (content (unit_of h) e.bytes) (session_is h pages o room len [] id)
        ∙ base_kept h pages.pages o len r.end (slots_of ps) (as_pieces planned.runs.items) (pos_unit h pages o p room r fresh len changes ps planned f) f.sizes (slots_some h pages o p room r fresh len changes ps planned f)
        (cells_some (slots_of ps) (slots_some h pages o p room r fresh len changes ps planned f)) f.whole.some (once_unit h pages o p room r fresh len changes ps planned f) f.plan.runs (ends_unit h pages o p room r fresh len changes ps planned f)
        (in_room h pages o p room r fresh len changes ps planned f) d agrees.holds agrees.len agrees.fresh e wrote id
        ∙ ap (content (unit_of h) d.bytes) (sym (session_is h pages o room len [] id))

    pub reads_after : (cells : List Cell) → AreRead (unit_of h) d.bytes es → AreRead (unit_of h) e.bytes (without cells es)
    reads_after cells read = reads_left (unit_of h) d.bytes e.bytes (seen h pages o room len) cells es both places read

-- ---- given up

module _ (h : Header) (pages : Paged) (o p : Overlay) (room t : Space) (fresh len : ℕ) (whole : IsWhole h pages o room fresh len) (none : (space : spaces.Space) → changes_of p space ≡ []) (es : Cached) (places : ArePlaces (seen h pages o room len) es) where
  back : (k : ℕ) (d : Cell × List ℕ) → k < length es → is_among (fresh_of o) (get_or es k d).0 ≡ false → IsPlace (seen h pages p t len) (get_or es k d).0
  back k d lt left = stays_committed h pages o p room t len none (get_or es k d).0 (places k d lt) left

  pub places_back : ArePlaces (seen h pages p t len) (without (fresh_of o) es)
  places_back = all_left (λ e. IsPlace (seen h pages p t len) e.0) (fresh_of o) es back

  apart : (k : ℕ) → owners room.unit (things_of pages.pages ++ fresh_of o) k ≤ 1
  apart k = omega (arith, each_once room whole.is_room.unit ((header_cell ∷ things_of pages.pages) ++ fresh_of o) whole.tiles k, owners_append room.unit k (header_cell ∷ []) (things_of pages.pages ++ fresh_of o))

  pub those_back : (fs : Cached) → AreThose (IsPlace (parts h pages p t len fs)) (keys_of es) (keys_of (without (fresh_of o) es))
  those_back fs = exactly (IsPlace (parts h pages p t len fs)) (fresh_of o) es (λ k d lt left. with_kept h pages p t len fs (get_or es k d).0 (back k d lt left))
      (λ c there place. fresh_goes h pages o p room t len none room.unit whole.is_room.unit (right_of (λ c. 1 ≤ c.len) (header_cell ∷ things_of pages.pages) (fresh_of o) whole.some) apart c there (without_kept h pages p t len fs c place))
