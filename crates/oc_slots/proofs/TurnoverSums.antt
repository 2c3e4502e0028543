-- The places that are pointed to, replaced and freed, counted.
use Rattle.std.proofs.Common.{◌≡◌, ◌∙◌, inl, inr, ℕ, ◌+◌, ◌≤◌, List, [], ◌∷◌, ◌++◌, Option, Some, None, ap, subst, refl, arith}
use Rattle.std.specs.Prelude.{All, sum_by, flat_map}
use Rattle.std.specs.Option.{option_to_list}
use Rattle.std.proofs.lemmas.Bool.{cases_Bool}
use Rattle.std.proofs.lemmas.Grind.{flat_map-append}
use Rattle.std.proofs.lemmas.List.Sums.{sum_by-append}
use Rattle.oc_layout.specs.declared.cells.Cell.{Cell}
use Rattle.oc_layout.specs.declared.cells.Space.{Space}
use Rattle.oc_pages.specs.declared.page.Page.{Page}
use Rattle.oc_pages.specs.Pages.{pointer_in, pointer_of, target_of}
use Rattle.oc_slots.specs.declared.overlay.Overlay.{Overlay}
use Rattle.oc_slots.specs.declared.placed.PlacedChange.{PlacedChange}
use Rattle.oc_slots.specs.declared.slot.SlotId.{SlotId}
use Rattle.oc_slots.specs.declared.turnover.Pointing.{Pointing}
use Rattle.oc_slots.specs.Pointings.{cells_in, replaced}
use Rattle.oc_slots.specs.Slots.{Changes, cell_list, cells_of, places_in}
use Rattle.oc_slots.specs.Noting.{place_of}
use Rattle.oc_slots.specs.Turnovers.{is_noted, slot_at, pointed, other_pointed, other_freed}
use Rattle.oc_slots.proofs.Things.{left_of, right_of}
use Rattle.oc_slots.proofs.Sessions.{cells_one}
use Rattle.oc_slots.proofs.TurnoverPointed.{pointed_from, pointer_some}

module _ (unit : ℕ) (pages : List Page) (f : Cell → ℕ) where
  sum_both : (xs ys : List Cell) → sum_by f (xs ++ ys) ≡ sum_by f xs + sum_by f ys
  sum_both xs ys = sum_by-append f xs ys

  pub cells_both : (xs ys : List Pointing) → sum_by f (cells_in (xs ++ ys)) ≡ sum_by f (cells_in xs) + sum_by f (cells_in ys)
  cells_both xs ys = ap (sum_by f) (flat_map-append (λ (p : Pointing). option_to_list (pointer_in p.cell)) xs ys) ∙ sum_both (cells_in xs) (cells_in ys)

  pub replaced_both : (xs ys : List Pointing) → sum_by f (replaced pages (xs ++ ys)) ≡ sum_by f (replaced pages xs) + sum_by f (replaced pages ys)
  replaced_both xs ys = ap (sum_by f) (flat_map-append (λ (p : Pointing). option_to_list (pointer_of pages p.id.space p.id.number)) xs ys) ∙ sum_both (replaced pages xs) (replaced pages ys)

  -- what one pointing frees and points to is its place and what it replaces
  one_from : (id : SlotId) (place was : Option Cell) (target : Option ℕ) → pointer_of pages id.space id.number ≡ was → All (λ c. 1 ≤ c.len) (cell_list place)
      → sum_by f (option_to_list was) + sum_by f (cells_in (pointed_from id place was target)) ≡ sum_by f (cell_list place) + sum_by f (replaced pages (pointed_from id place was target))
  one_from id None None target e some = refl
  one_from id None (Some d) target e some = omega (arith, ap (λ (o : Option Cell). sum_by f (option_to_list o ++ [])) e)
  one_from id (Some c) None target e some = omega (arith, ap (λ (o : Option Cell). sum_by f (option_to_list o ++ [])) e, ap (λ (o : Option Cell). sum_by f (option_to_list o ++ [])) (pointer_some c (some 0 c (omega arith))))
  one_from id (Some c) (Some d) target e some = omega (arith, ap (λ (o : Option Cell). sum_by f (option_to_list o ++ [])) e, ap (λ (o : Option Cell). sum_by f (option_to_list o ++ [])) (pointer_some c (some 0 c (omega arith))))

  one_pointed : (id : SlotId) (place : Option Cell) → All (λ c. 1 ≤ c.len) (cell_list place)
      → sum_by f (option_to_list (pointer_of pages id.space id.number)) + sum_by f (cells_in (pointed unit pages id place)) ≡ sum_by f (cell_list place) + sum_by f (replaced pages (pointed unit pages id place))
  one_pointed id place some = one_from id place (pointer_of pages id.space id.number) (target_of unit pages id.space id.number) refl some

  pub placed_cells : (ps : List PlacedChange) → All (λ c. 1 ≤ c.len) (cells_of ps)
      → sum_by f (flat_map (λ p. option_to_list (pointer_of pages p.id.space p.id.number)) ps) + sum_by f (cells_in (flat_map (λ p. pointed unit pages p.id (place_of p)) ps))
      ≡ sum_by f (cells_of ps) + sum_by f (replaced pages (flat_map (λ p. pointed unit pages p.id (place_of p)) ps))
  placed_cells [] some = refl
  placed_cells (p ∷ ps) some =
      let both = subst (All (λ (c : Cell). 1 ≤ c.len)) (cells_one p ps) some in
      let front = one_pointed p.id (place_of p) (left_of (λ c. 1 ≤ c.len) (cell_list (place_of p)) (cells_of ps) both) in
      let rest = placed_cells ps (right_of (λ c. 1 ≤ c.len) (cell_list (place_of p)) (cells_of ps) both) in
      let more = flat_map (λ (p : PlacedChange). pointed unit pages p.id (place_of p)) ps in
      omega (
        arith,
        front,
        rest,
        ap (sum_by f) (cells_one p ps),
        sum_both (cell_list (place_of p)) (cells_of ps),
        sum_both (option_to_list (pointer_of pages p.id.space p.id.number)) (flat_map (λ (p : PlacedChange). option_to_list (pointer_of pages p.id.space p.id.number)) ps),
        cells_both (pointed unit pages p.id (place_of p)) more,
        replaced_both (pointed unit pages p.id (place_of p)) more,
      )

  list_sum : (o : Option Cell) → sum_by f (option_to_list o) ≡ sum_by f (cell_list o)
  list_sum None = refl
  list_sum (Some c) = refl

  pub other_cells : (named : Overlay) (space : Space) (cs : Changes) → All (λ c. 1 ≤ c.len) (places_in cs)
      → sum_by f (flat_map (λ e. other_freed pages named (slot_at space e.0) e.1) cs) + sum_by f (cells_in (flat_map (λ e. other_pointed unit pages named (slot_at space e.0) e.1) cs))
      ≡ sum_by f (places_in cs) + sum_by f (replaced pages (flat_map (λ e. other_pointed unit pages named (slot_at space e.0) e.1) cs))
  other_cells named space [] some = refl
  other_cells named space (e ∷ es) some =
      let rest = other_cells named space es (right_of (λ c. 1 ≤ c.len) (cell_list e.1) (places_in es) some) in
      let more = flat_map (λ (e : ℕ × Option Cell). other_pointed unit pages named (slot_at space e.0) e.1) es in
      let free = flat_map (λ (e : ℕ × Option Cell). other_freed pages named (slot_at space e.0) e.1) es in
      let places = sum_both (cell_list e.1) (places_in es) in
      elim (cases_Bool (is_noted named (slot_at space e.0))) [
        | inl yes_ ↦ rw yes_ (omega (arith, rest, places, list_sum e.1, sum_both (option_to_list e.1) free))
        | inr no_ ↦
            let front = one_pointed (slot_at space e.0) e.1 (left_of (λ c. 1 ≤ c.len) (cell_list e.1) (places_in es) some) in
            rw no_ (omega (
              arith,
              rest,
              places,
              front,
              sum_both (option_to_list (pointer_of pages space e.0)) free,
              cells_both (pointed unit pages (slot_at space e.0) e.1) more,
              replaced_both (pointed unit pages (slot_at space e.0) e.1) more,
            ))
      ]
