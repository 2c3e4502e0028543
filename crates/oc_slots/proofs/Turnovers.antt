-- What becomes of the pointers, from the lists that are made.
use Rattle.std.proofs.Common.{◌≡◌, ◌∙◌, ℕ, ◌+◌, ◌≤◌, false, List, [], ◌++◌, length, map, sym, subst, arith}
use Rattle.std.specs.Prelude.{All, AllPairs, sum_by, flat_map, is_some, unwrap_or, nat_eq, ◌||◌, ◌&&◌}
use Rattle.std.specs.List.{IsDistinct}
use Rattle.std.specs.List.Sorted.{IsPermutation, IsNonDecreasingBy}
use Rattle.std.specs.Option.{option_to_list}
use Rattle.std.proofs.lemmas.List.Sorted.{All-permutation}
use Rattle.std.proofs.lemmas.List.Sums.{sum_by-append}
use Rattle.oc_layout.specs.declared.cells.Cell.{Cell}
use Rattle.oc_layout.specs.declared.cells.Space.{Space}
use Rattle.oc_layout.specs.declared.cells.Space.TheVariants.{Objects, System}
use Rattle.oc_layout.specs.Layout.{FitsCell}
use Rattle.oc_pages.specs.declared.page.Page.{Page}
use Rattle.oc_pages.specs.Pages.{pointer_in, pointer_of, target_of, IsOther}
use Rattle.oc_pages.specs.Chains.{AreApart}
use Rattle.oc_slots.specs.declared.overlay.Overlay.{Overlay}
use Rattle.oc_slots.specs.declared.placed.PlacedChange.{PlacedChange}
use Rattle.oc_slots.specs.declared.turnover.Pointing.{Pointing}
use Rattle.oc_slots.specs.Maps.{is_same}
use Rattle.oc_slots.specs.Slots.{changes_of, cells_of, places_in}
use Rattle.oc_slots.specs.Stores.{AreNumbers, fresh_of}
use Rattle.oc_slots.specs.Noting.{place_of, noted}
use Rattle.oc_slots.specs.Pointings.{cells_in, replaced, AreDistinct}
use Rattle.oc_slots.specs.Turnovers.{slot_at, pointed, other_pointed, other_freed, IsTurnover}
use Rattle.oc_slots.proofs.Things.{left_of, right_of}
use Rattle.oc_slots.proofs.TurnoverCounts.{named_once, once_distinct}
use Rattle.oc_slots.proofs.TurnoverPointed.{Move, mover, pointee, pointings_of, pointed_once, pointed_are, pointed_at, pointed_there, pointed_just}
use Rattle.oc_slots.proofs.TurnoverSlots.{moves_of, moved_there, movers_are, moves_distinct, moves_numbers, moves_bytes, pointings_are}
use Rattle.oc_slots.proofs.TurnoverSums.{cells_both, replaced_both, placed_cells, other_cells}
use Rattle.oc_slots.proofs.TurnoverOrder.{distinct_so, sum_so, pointed_so, place_so, targets_differ, ascending, replaced_within}

-- those of the slots that are placed, and what comes free by them
abbrev pub front_pointings : ℕ → List Page → List PlacedChange → List Pointing
front_pointings unit pages placed = flat_map (λ p. pointed unit pages p.id (place_of p)) placed

abbrev pub front_freed : List Page → List PlacedChange → List Cell
front_freed pages placed = flat_map (λ p. option_to_list (pointer_of pages p.id.space p.id.number)) placed

-- those of the others of a space
abbrev pub more_pointings : ℕ → List Page → Overlay → Overlay → Space → List Pointing
more_pointings unit pages o named space = flat_map (λ e. other_pointed unit pages named (slot_at space e.0) e.1) (changes_of o space)

abbrev pub more_freed : List Page → Overlay → Overlay → Space → List Cell
more_freed pages o named space = flat_map (λ e. other_freed pages named (slot_at space e.0) e.1) (changes_of o space)

-- what the caller knows
pub record IsGiven (unit : ℕ) (pages : List Page) (o : Overlay) (placed : List PlacedChange) : Type 0 where
  pub distinct : AllPairs (λ p q. is_same p.id q.id ≡ false) placed
  pub numbers : All (λ p. (1 ≤ p.id.number) × (p.id.number ≤ 2147483646)) placed
  pub objects : AreNumbers (changes_of o Objects)
  pub system : AreNumbers (changes_of o System)
  pub some : All (λ c. 1 ≤ c.len) (fresh_of o ++ cells_of placed)
  pub others : AllPairs IsOther pages
  pub apart : AllPairs (AreApart unit) pages
  pub full : All (λ p. length p.cells ≡ 126) pages

module _ (unit : ℕ) (pages : List Page) (o named : Overlay) (placed : List PlacedChange) (given : IsGiven unit pages o placed) (are : (space : Space) → changes_of named space ≡ noted placed space [])
    (objects : IsDistinct nat_eq (map (λ e. e.0) (changes_of o Objects))) (system : IsDistinct nat_eq (map (λ e. e.0) (changes_of o System))) where
  abbrev moves : List Move
  moves = moves_of o named placed are given.distinct

  abbrev made : List Pointing
  made = (front_pointings unit pages placed ++ more_pointings unit pages o named Objects) ++ more_pointings unit pages o named System

  abbrev freed : List Cell
  freed = (front_freed pages placed ++ more_freed pages o named Objects) ++ more_freed pages o named System

  made_are : made ≡ pointings_of unit pages moves
  made_are = pointings_are o named placed are given.distinct unit pages

  differ : AllPairs (λ m n. is_same m.0 n.0 ≡ false) moves
  differ = moves_distinct o named placed are given.distinct objects system

  made_once : AreDistinct made
  made_once = subst AreDistinct (sym made_are) (once_distinct pointee (pointings_of unit pages moves) (λ id. omega (arith, pointed_once unit pages id moves, named_once mover moves differ id)))

  made_cells : (f : Cell → ℕ) → sum_by f freed + sum_by f (cells_in made) ≡ sum_by f (fresh_of o) + sum_by f (cells_of placed) + sum_by f (replaced pages made)
  made_cells f =
      let fresh = left_of (λ c. 1 ≤ c.len) (fresh_of o) (cells_of placed) given.some in
      let a = placed_cells unit pages f placed (right_of (λ c. 1 ≤ c.len) (fresh_of o) (cells_of placed) given.some) in
      let b = other_cells unit pages f named Objects (changes_of o Objects) (left_of (λ c. 1 ≤ c.len) (places_in (changes_of o Objects)) (places_in (changes_of o System)) fresh) in
      let c = other_cells unit pages f named System (changes_of o System) (right_of (λ c. 1 ≤ c.len) (places_in (changes_of o Objects)) (places_in (changes_of o System)) fresh) in
      omega (
        arith,
        a,
        b,
        c,
        sum_by-append f (front_freed pages placed ++ more_freed pages o named Objects) (more_freed pages o named System),
        sum_by-append f (front_freed pages placed) (more_freed pages o named Objects),
        cells_both unit pages f (front_pointings unit pages placed ++ more_pointings unit pages o named Objects) (more_pointings unit pages o named System),
        cells_both unit pages f (front_pointings unit pages placed) (more_pointings unit pages o named Objects),
        replaced_both unit pages f (front_pointings unit pages placed ++ more_pointings unit pages o named Objects) (more_pointings unit pages o named System),
        replaced_both unit pages f (front_pointings unit pages placed) (more_pointings unit pages o named Objects),
        sum_by-append f (places_in (changes_of o Objects)) (places_in (changes_of o System)),
      )

  -- the pointings that are made, in the order of their targets, and what comes free
  pub turned : (ps : List Pointing) → IsPermutation made ps → IsNonDecreasingBy (λ p. unwrap_or p.target 0) ps → All (λ p. FitsCell p.cell) ps → IsTurnover unit pages o placed ps freed
  turned ps same order fits =
      let distinct = distinct_so made ps same made_once in
      let is = subst (λ l. IsPermutation l ps) made_are same in
      let targets = All-permutation (λ (p : Pointing). target_of unit pages p.id.space p.id.number ≡ p.target) (pointings_of unit pages moves) ps is (pointed_at unit pages moves) in
      record {
        distinct = distinct;
        numbers = All-permutation (λ (p : Pointing). (1 ≤ p.id.number) × (p.id.number ≤ 2147483646)) (pointings_of unit pages moves) ps is
            (pointed_are unit pages (λ id. (1 ≤ id.number) × (id.number ≤ 2147483646)) moves (moves_numbers o named placed are given.distinct given.numbers given.objects given.system));
        fits = fits;
        targets = targets;
        ascend = ascending ps order (targets_differ unit pages ps given.apart targets distinct);
        places = λ id.
            place_so (pointings_of unit pages moves) ps id (pointer_of pages id.space id.number) is (subst AreDistinct made_are made_once)
            ∙ pointed_there unit pages moves id differ (moves_bytes o named placed are given.distinct given.some)
            ∙ moved_there o named placed are given.distinct pages id;
        moved = λ id.
            pointed_so (pointings_of unit pages moves) ps id is
            ∙ pointed_just unit pages moves id differ
            ∙ (λ i. movers_are o named placed are given.distinct id i && (is_some (moved_there o named placed are given.distinct pages id i) || is_some (pointer_of pages id.space id.number)));
        cells = λ f. omega (arith, made_cells f, sum_so f (λ p. option_to_list (pointer_in p.cell)) made ps same, sum_so f (λ p. option_to_list (pointer_of pages p.id.space p.id.number)) made ps same);
        were = λ f. replaced_within f pages ps given.full given.others distinct;
      }
