-- What is known of a store when the slots of a commit are placed.
use Rattle.std.proofs.Common.{◌≡◌, ◌∙◌, inl, inr, ℕ, ◌+◌, ◌*◌, ◌<◌, ◌≤◌, List, [], ◌∷◌, ◌++◌, length, get_or, sym, subst, refl, arith, length-append}
use Rattle.std.specs.Prelude.{All, AllPairs, sum_by}
use Rattle.std.proofs.lemmas.List.{append_assoc}
use Rattle.std.proofs.lemmas.List.Sums.{sum_by-cons}
use Rattle.oc_layout.specs.declared.cells.Cell.{Cell}
use Rattle.oc_layout.specs.declared.cells.Header.{Header}
use Rattle.oc_layout.specs.Layout.{unit_of, blocks}
use Rattle.oc_pages.specs.declared.page.Page.{Page}
use Rattle.oc_pages.specs.Chains.{AreApart}
use Rattle.oc_pages.specs.Pages.{Paged, things_of}
use Rattle.oc_room.specs.Rooms.{Space, owners}
use Rattle.oc_room.proofs.Counting.{some_blocks}
use Rattle.oc_room.proofs.Few.{few}
use Rattle.oc_slots.specs.declared.overlay.Overlay.{Overlay}
use Rattle.oc_slots.specs.declared.placed.PlacedChange.{PlacedChange}
use Rattle.oc_slots.specs.declared.turnover.Pointing.{Pointing}
use Rattle.oc_slots.specs.Forms.{header_cell}
use Rattle.oc_slots.specs.Slots.{cells_of}
use Rattle.oc_slots.specs.Stores.{fresh_of}
use Rattle.oc_slots.specs.Pointings.{cells_in}
use Rattle.oc_slots.specs.Turnovers.{IsTurnover}
use Rattle.oc_slots.specs.Planning.{AreSlotsPlaced}
use Rattle.oc_slots.proofs.Apart.{beside_first, ends_before}
use Rattle.oc_slots.proofs.Noted.{owners_append}
use Rattle.oc_slots.proofs.PagesApart.{pages_apart}
use Rattle.oc_slots.proofs.Things.{tail_of, of_pages, left_of, right_of}
use Rattle.oc_slots.proofs.Tilings.{tiles_within, each_once}

-- a list has as many elements as ones
pub as_many_ones : (cells : List Cell) → sum_by (λ _. 1) cells ≡ length cells
as_many_ones [] = refl
as_many_ones (c ∷ cs) = omega (arith, sum_by-cons (λ _. 1) c cs, as_many_ones cs)

module _ (h : Header) (pages : Paged) (o : Overlay) (room : Space) (changes : List PlacedChange) (others : ℕ) (s : AreSlotsPlaced h pages o room changes others) where
  abbrev things : List Cell
  things = things_of pages.pages

  abbrev later : List Cell
  later = fresh_of o ++ cells_of changes

  pos : 0 < room.unit
  pos = s.is_room.unit

  all_within : All (λ c. c.at + blocks room.unit c.len ≤ room.end) (header_cell ∷ things ++ fresh_of o ++ cells_of changes)
  all_within = tiles_within room pos (header_cell ∷ things ++ fresh_of o ++ cells_of changes) s.tiles s.some

  all_once : (k : ℕ) → owners room.unit (header_cell ∷ things ++ fresh_of o ++ cells_of changes) k ≤ 1
  all_once k = omega (arith, each_once room pos (header_cell ∷ things ++ fresh_of o ++ cells_of changes) s.tiles k)

  -- the header and the pages, without the slots that changed
  of_front : (P : Cell → Type 0) → All P (header_cell ∷ things ++ fresh_of o ++ cells_of changes) → All P (header_cell ∷ things)
  of_front P all = left_of P (header_cell ∷ things) (fresh_of o) (left_of P (header_cell ∷ things ++ fresh_of o) (cells_of changes) all)

  front_once : (k : ℕ) → owners room.unit (header_cell ∷ things) k ≤ 1
  front_once k = omega (arith, all_once k, owners_append room.unit k (header_cell ∷ things) (fresh_of o), owners_append room.unit k (header_cell ∷ things ++ fresh_of o) (cells_of changes))

  things_once : (k : ℕ) → owners room.unit things k ≤ 1
  things_once k = omega (arith, front_once k, owners_append room.unit k (header_cell ∷ []) things)

  things_some : All (λ c. 1 ≤ c.len) things
  things_some = tail_of (λ c. 1 ≤ c.len) header_cell things (of_front (λ c. 1 ≤ c.len) s.some)

  pub later_some : All (λ c. 1 ≤ c.len) (fresh_of o ++ cells_of changes)
  later_some = right_of (λ c. 1 ≤ c.len) (header_cell ∷ things) (fresh_of o ++ cells_of changes) (subst (All (λ c. 1 ≤ c.len)) (append_assoc (header_cell ∷ things) (fresh_of o) (cells_of changes)) s.some)

  -- no two pages have a byte in common
  pub apart_pages : AllPairs (AreApart pages.unit) pages.pages
  apart_pages = subst (λ u. AllPairs (AreApart u) pages.pages) (s.unit ∙ sym s.page_unit) (pages_apart room.unit pages.pages pos things_once)

  -- each page lies behind the header
  pub pages_behind : All (λ p. 128 ≤ p.at * unit_of h) pages.pages
  pages_behind = subst (λ u. All (λ (p : Page). 128 ≤ p.at * u) pages.pages) s.unit (of_pages (λ c. 128 ≤ c.at * room.unit) pages.pages behind)
    where
      behind : All (λ c. 128 ≤ c.at * room.unit) things
      behind k d lt = elim (beside_first room.unit header_cell things pos (omega arith) things_some front_once k d lt) [
        | inl before ↦ absurd (omega (arith, before, things_some k d lt))
        | inr after ↦ omega (arith, after)
      ]

  -- and in the file
  pub pages_inside : All (λ p. p.at * unit_of h + 1024 ≤ room.end * unit_of h) pages.pages
  pages_inside = subst (λ u. All (λ (p : Page). p.at * u + 1024 ≤ room.end * u) pages.pages) s.unit
      (λ k d lt. ends_before room.unit (get_or pages.pages k d).at 1024 room.end pos (of_pages (λ c. c.at + blocks room.unit c.len ≤ room.end) pages.pages things_within k d lt))
    where
      things_within : All (λ c. c.at + blocks room.unit c.len ≤ room.end) things
      things_within = tail_of (λ c. c.at + blocks room.unit c.len ≤ room.end) header_cell things (of_front (λ c. c.at + blocks room.unit c.len ≤ room.end) all_within)

  pub few_blocks : room.end ≤ 2147483647
  few_blocks = omega (arith, s.is_room.end, s.is_room.limit)

  -- there are no more things than blocks
  few_things : length things + length (fresh_of o) + length (cells_of changes) < 2147483648
  few_things =
      let all : List Cell = header_cell ∷ things ++ fresh_of o ++ cells_of changes in
      let begins : All (λ c. c.at < room.end) (header_cell ∷ things ++ fresh_of o ++ cells_of changes) = λ k d lt. omega (arith, all_within k d lt, some_blocks room.unit _ pos (s.some k d lt)) in
      let count = few room.unit room.end pos (header_cell ∷ things ++ fresh_of o ++ cells_of changes) s.some begins all_once in
      omega (arith, count, few_blocks, length-append (header_cell ∷ things ++ fresh_of o) (cells_of changes), length-append (header_cell ∷ things) (fresh_of o))

  -- and none comes free twice
  pub few_freed : (ps : List Pointing) (freed : List Cell) → IsTurnover (unit_of h) pages.pages o changes ps freed → length freed < 2147483648
  few_freed ps freed t =
      let one : Cell → ℕ = λ _. 1 in
      omega (arith, t.cells one, t.were one, few_things, as_many_ones freed, as_many_ones (cells_in ps), as_many_ones (fresh_of o), as_many_ones (cells_of changes), as_many_ones things)
