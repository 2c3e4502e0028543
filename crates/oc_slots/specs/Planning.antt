-- What a commit has ready before it changes anything: all that it needs of memory and of the room of the file.
use Rattle.std.specs.Prelude.{◌≡◌, ◌⊎◌, ◌≤◌, ℕ, ◌+◌, ◌*◌, ◌==◌, ◌&&◌, ◌||◌, max, nat_eq, Bool, true, false, if◌then◌else◌, IsSome, List, [], ◌∷◌, ◌++◌, length, map, replicate, slice_index_or, is_some, Option, Some, All, AllPairs}
use Rattle.std.specs.List.{list_any}
use Rattle.std.specs.Map.{lookup}
use Rattle.oc_layout.specs.declared.cells.Cell.{Cell}
use Rattle.oc_layout.specs.declared.cells.Header.{Header}
use Rattle.oc_layout.specs.declared.cells.Space.TheVariants.{Objects, System}
use Rattle.oc_layout.specs.Headers.{is_in_range}
use Rattle.oc_layout.specs.Layout.{unit_of, is_wide, write_len, blocks, FitsCell}
use Rattle.oc_host.specs.Disk.{Disk}
use Rattle.oc_log.specs.Log.{with_log, put_cells}
use Rattle.oc_free.specs.FreeParts.{free_at}
use Rattle.oc_pages.specs.declared.page.Page.{Page}
use Rattle.oc_pages.specs.Chains.{FitsPage}
use Rattle.oc_pages.specs.Order.{AreAscending}
use Rattle.oc_pages.specs.Pages.{Paged, no_cell, pointer_of, page_of, page_holding, things_of, IsOther, IsMissing}
use Rattle.oc_room.specs.Rooms.{Space, IsRoom, Tiles, AreInOrder, open_at, owners, unplaced, placed}
use Rattle.oc_slots.specs.declared.commit_plan.CommitPlan.{CommitPlan}
use Rattle.oc_slots.specs.declared.commit_plan.LogPlan.{LogPlan}
use Rattle.oc_slots.specs.declared.new_pages.NewPage.{NewPage}
use Rattle.oc_slots.specs.declared.overlay.Overlay.{Overlay}
use Rattle.oc_slots.specs.declared.placed.PlacedChange.{PlacedChange}
use Rattle.oc_slots.specs.declared.run.Planned.{Planned}
use Rattle.oc_slots.specs.declared.slot.SlotChange.{SlotChange}
use Rattle.oc_slots.specs.declared.slot.SlotId.{SlotId}
use Rattle.oc_slots.specs.declared.turnover.Pointing.{Pointing}
use Rattle.oc_slots.specs.Attaching.{with_cells}
use Rattle.oc_slots.specs.Commits.{IsCommit}
use Rattle.oc_slots.specs.Maps.{has_after, is_same}
use Rattle.oc_slots.specs.Forms.{GivesFrom, header_cell}
use Rattle.oc_slots.specs.Held.{Holds, map_of}
use Rattle.oc_slots.specs.Slots.{change_of, changes_of, cells_of, slots_of, lengths_of}
use Rattle.oc_slots.specs.Stores.{Slots, AreNumbers, changes_in, session_place, committed_place, fresh_of}
use Rattle.oc_slots.specs.Noting.{place_in}
use Rattle.oc_slots.specs.Pieces.{Piece, IsPlanned, Fit, as_pieces, over_all, pieces_of}
use Rattle.oc_slots.specs.Pointings.{writes_of, set_all, AreHeld, AreDistinct}
use Rattle.oc_slots.specs.Turnovers.{numbers_in, places_of, page_slots, with_added, root_writes, IsTurnover, AreNew, AreMissing}
use Rattle.oc_slots.specs.Writing.{AreFree}

-- the length of a file of `len` bytes once something stands in each of these cells
abbrev pub end_over : ℕ → ℕ → List Cell → ℕ
end_over unit len [] = len
end_over unit len (c ∷ cs) = end_over unit (max len (c.at * unit + c.len)) cs

-- The slot moves: one of these last changes names it or it changed since the last commit, and it is there then or was at the last commit. So its
-- pointer is set. These are where the session has it, and where the last commit has it.
abbrev pub moves_where : List SlotChange → SlotId → Bool → Option Cell → Option Cell → Bool
moves_where last id has_changed session committed =
    (list_any (λ c. is_same c.id id) last || has_changed) && (has_after last id (is_some session) || is_some committed)

-- the slot moves by a commit of an overlay over pages
abbrev pub moves : List Page → Overlay → List SlotChange → SlotId → Bool
moves pages o last id = moves_where last id (is_some (lookup (nat_eq id.number) (changes_of o id.space))) (place_in pages o id) (pointer_of pages id.space id.number)

-- the slot moves by a commit of a store
abbrev pub moves_in : Slots → List SlotChange → SlotId → Bool
moves_in s last id = moves_where last id (is_some (lookup (nat_eq id.number) (changes_in s id.space))) (session_place s id) (committed_place s id)

-- the bytes of a commit's log: the root cell is in it where pages are added, and each pointer that a page has
abbrev pub log_length : Bool → ℕ → List Pointing → ℕ
log_length wide added ps = 4 + write_len wide * ((if added == 0 then 0 else 1) + length (writes_of ps))

-- The lengths of what a commit places, in its order: the slots of `last`, the pages that are missing for the slots that moved, and the log. Each slot
-- that moved is pointed once, and has a target where a page has its number.
pub record AreLengths (wide : Bool) (pages : List Page) (moved : SlotId → Bool) (last : List SlotChange) (lens : List ℕ) : Type 0 where
  pub pointings : List Pointing
  pub are_moved : (id : SlotId) → list_any (λ p. is_same p.id id) pointings ≡ moved id
  pub distinct : AreDistinct pointings
  pub targets : All (λ p. is_some p.target ≡ is_some (page_holding pages p.id.space p.id.number)) pointings
  pub objects : List ℕ
  pub system : List ℕ
  pub objects_are : AreAscending (IsMissing pages Objects (numbers_in Objects pointings)) objects
  pub system_are : AreAscending (IsMissing pages System (numbers_in System pointings)) system
  pub are : lens ≡ lengths_of last ++ replicate (length objects + length system) 1024 ++ log_length wide (length objects + length system) pointings ∷ []

-- what is placed by a plan: the slots, the pages and the log
abbrev pub places : CommitPlan → List Cell
places plan = cells_of plan.placed.items ++ places_of plan.added.items ++ plan.place ∷ []

-- the pages once the plan is carried out
abbrev pub pages_after : CommitPlan → List Page → List Page
pages_after plan pages = set_all plan.pointings.items (with_added plan.added.items pages)

-- the header then: it names the log and the first page, and its gate is closed
abbrev pub header_after : CommitPlan → Header → Header
header_after plan h = with_cells (record (with_log h plan.place) { gate = 0 }) plan.draft.writes

-- The plan is that of a commit with these changes as the last ones. It has room and memory for everything.
pub record IsPlan (h : Header) (pages : Paged) (o : Overlay) (room : Space) (len : ℕ) (last : List SlotChange) (plan : CommitPlan) (p : Paged) (r : Space) : Type 0 where
  pub are : map change_of plan.placed.items ≡ last
  pub sizes : All (λ s. s.cell.len ≡ length s.bytes) (slots_of plan.placed.items)
  pub planned : IsPlanned (unit_of h) len (slots_of plan.placed.items) plan.planned
  pub turnover : IsTurnover (unit_of h) pages.pages o plan.placed.items plan.pointings.items plan.freed.items
  pub missing : AreMissing pages.pages plan.added.items
  pub held : AreHeld (with_added plan.added.items pages.pages) plan.pointings.items
  pub some : 1 ≤ length plan.pointings.items
  pub fits : FitsCell plan.place
  pub log : plan.place.len ≡ log_length (is_wide h) (length plan.added.items) plan.pointings.items
  pub writes : plan.draft.writes ≡ root_writes h plan.added.items ++ writes_of plan.pointings.items
  pub wide : plan.draft.wide ≡ is_wide h
  pub unit : plan.draft.unit ≡ unit_of h
  pub header : plan.header ≡ header_after plan h
  pub end : plan.end ≡ end_over (unit_of h) len (places plan)
  pub opened : (k : ℕ) → open_at room k ≡ open_at r k + owners room.unit (places plan) k
  pub order : AreInOrder room.unit room.end (places plan) r.end
  pub within : (k : ℕ) → room.end ≤ k → free_at r.parts k ≡ 0
  pub is_room : IsRoom r
  pub room_unit : r.unit ≡ room.unit
  pub limit : r.limit ≡ room.limit
  pub spare : length plan.freed.items + 1 ≤ r.spare
  pub same_pages : p.pages ≡ pages.pages
  pub same_unit : p.unit ≡ pages.unit
  pub pages_spare : length plan.added.items ≤ p.spare

-- ---- how it is made

-- The slots of a commit are placed, and the parts of the store belong together with them: each block of the file is in just one of the header, the pages,
-- the slots of both sides, those that are placed, and the free parts. So many things can be given back without memory.
pub record AreSlotsPlaced (h : Header) (pages : Paged) (o : Overlay) (room : Space) (placed : List PlacedChange) (others : ℕ) : Type 0 where
  pub in_range : is_in_range h ≡ true
  pub page_unit : pages.unit ≡ unit_of h
  pub is_room : IsRoom room
  pub unit : room.unit ≡ unit_of h
  pub distinct : AllPairs (λ p q. is_same p.id q.id ≡ false) placed
  pub numbers : All (λ p. (1 ≤ p.id.number) × (p.id.number ≤ 2147483646)) placed
  pub objects : AreNumbers (changes_of o Objects)
  pub system : AreNumbers (changes_of o System)
  pub other : AllPairs IsOther pages.pages
  pub tiles : Tiles room (header_cell ∷ things_of pages.pages ++ fresh_of o ++ cells_of placed)
  pub some : All (λ c. 1 ≤ c.len) (header_cell ∷ things_of pages.pages ++ fresh_of o ++ cells_of placed)
  pub spare : others ≤ room.spare
  pub few : others ≤ room.limit

-- The second room is the first with these cells placed one after another, which have these lengths.
pub record ArePlaced (room : Space) (lens : List ℕ) (cells : List Cell) (r : Space) : Type 0 where
  pub placed : placed room.unit (unplaced room) lens ≡ record { cells = cells; parts = r.parts; end = r.end }
  pub lengths : map (λ c. c.len) cells ≡ lens
  pub opened : (k : ℕ) → open_at room k ≡ open_at r k + owners room.unit cells k
  pub order : AreInOrder room.unit room.end cells r.end
  pub within : (k : ℕ) → room.end ≤ k → free_at r.parts k ≡ 0
  pub unit : r.unit ≡ room.unit
  pub limit : r.limit ≡ room.limit

-- The pages of these indexes are added at the first of these cells, and the log of their writes and of those of the pointings stands at the one behind
-- them.
pub record IsLogPlan (h : Header) (objects system : List ℕ) (ps : List Pointing) (cells : List Cell) (log : LogPlan) : Type 0 where
  pub added : AreNew objects system cells log.added.items
  pub place : log.place ≡ slice_index_or cells (length objects + length system) no_cell
  pub writes : log.draft.writes ≡ root_writes h log.added.items ++ writes_of ps
  pub wide : log.draft.wide ≡ is_wide h
  pub unit : log.draft.unit ≡ unit_of h
  pub header : log.header ≡ with_cells (record (with_log h log.place) { gate = 0 }) log.draft.writes

-- The plan has these slots, and what comes behind them: the pages and the log.
pub record IsRest (h : Header) (pages : Paged) (o : Overlay) (room : Space) (slots : List PlacedChange) (runs : Planned) (plan : CommitPlan) (p : Paged) (r : Space) : Type 0 where
  pub placed : plan.placed.items ≡ slots
  pub planned : plan.planned ≡ runs
  pub turnover : IsTurnover (unit_of h) pages.pages o slots plan.pointings.items plan.freed.items
  pub missing : AreMissing pages.pages plan.added.items
  pub held : AreHeld (with_added plan.added.items pages.pages) plan.pointings.items
  pub some : 1 ≤ length plan.pointings.items
  pub fits : FitsCell plan.place
  pub log : plan.place.len ≡ log_length (is_wide h) (length plan.added.items) plan.pointings.items
  pub writes : plan.draft.writes ≡ root_writes h plan.added.items ++ writes_of plan.pointings.items
  pub wide : plan.draft.wide ≡ is_wide h
  pub unit : plan.draft.unit ≡ unit_of h
  pub header : plan.header ≡ header_after plan h
  pub end : plan.end ≡ end_over (unit_of h) runs.end (places_of plan.added.items ++ plan.place ∷ [])
  pub opened : (k : ℕ) → open_at room k ≡ open_at r k + owners room.unit (places_of plan.added.items ++ plan.place ∷ []) k
  pub order : AreInOrder room.unit room.end (places_of plan.added.items ++ plan.place ∷ []) r.end
  pub within : (k : ℕ) → room.end ≤ k → free_at r.parts k ≡ 0
  pub room_unit : r.unit ≡ room.unit
  pub limit : r.limit ≡ room.limit
  pub spare : length plan.freed.items + 1 ≤ r.spare
  pub pages_spare : length plan.added.items ≤ p.spare

-- ---- what is written of it

-- the pieces of the slots
abbrev pub slot_pieces : CommitPlan → List Piece
slot_pieces plan = as_pieces plan.planned.runs.items

-- the pieces of the added pages, as they are among these
abbrev pub page_pieces : ℕ → CommitPlan → List Page → List Piece
page_pieces unit plan new = pieces_of unit plan.planned.end plan.planned.before (page_slots new plan.added.items)

-- the file's bytes with both
abbrev pub written : ℕ → CommitPlan → List Page → List ℕ → List ℕ
written unit plan new b = over_all (page_pieces unit plan new) (over_all (slot_pieces plan) b)

-- the numbers of each added page have their bits, as it is among these
abbrev pub AreFit : List Page → List NewPage → Type 0
AreFit new added = All (λ a. (q : Page) → page_of new a.space a.index ≡ Some q → FitsPage q) added

-- The plan can be written to the file, which holds the old pages: the slots and pages beside what it holds, and then the log makes the new pages of the old ones.
pub record IsWritable (h : Header) (old new : List Page) (plan : CommitPlan) (d : Disk) : Type 0 where
  pub holds : Holds h old d
  pub fit : Fit (slot_pieces plan) d.bytes
  pub size : length (over_all (slot_pieces plan) d.bytes) ≡ plan.planned.end
  pub slots : AreFree h old (slot_pieces plan)
  pub pages : AreFree h old (page_pieces (unit_of h) plan new)
  pub fits : FitsCell plan.place
  pub cells : All (λ w. FitsCell w.cell) plan.draft.writes
  pub commit : (e : Disk) → Holds h old e → e.bytes ≡ written (unit_of h) plan new d.bytes → AreFit new plan.added.items → IsCommit h old new plan.place plan.draft.writes e × (plan.place.at ≤ blocks (unit_of h) (length e.bytes))

-- What is written suits the header: the draft is for files of its form, the log has its place, and each added page is there, in the order in which they were placed.
pub record IsReady (h : Header) (new : List Page) (plan : CommitPlan) : Type 0 where
  pub in_range : is_in_range h ≡ true
  pub wide : plan.draft.wide ≡ is_wide h
  pub unit : plan.draft.unit ≡ unit_of h
  pub log : plan.place.len ≡ 4 + write_len (is_wide h) * length plan.draft.writes
  pub there : All (λ a. IsSome (page_of new a.space a.index)) plan.added.items
  pub order : (last : ℕ) × AreInOrder (unit_of h) (blocks (unit_of h) plan.planned.end) (places_of plan.added.items) last
  pub header : plan.header ≡ header_after plan h

-- A stop leaves what was said, the header's first number, and the map of the old pages or that of the new ones.
abbrev pub OldOrNew : Header → List Page → List Page → CommitPlan → Disk → List ℕ → List ℕ → Type 0
OldOrNew h old new plan d image said =
    (said ≡ d.said)
    × (GivesFrom h.first image (map_of h old d.bytes) ⊎ GivesFrom h.first image (map_of h new (put_cells plan.draft.writes (written (unit_of h) plan new d.bytes))))
