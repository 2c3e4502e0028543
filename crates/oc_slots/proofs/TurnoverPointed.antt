-- The pointings of slots that changed.
use Rattle.std.proofs.Common.{◌≡◌, ◌∙◌, inl, inr, ℕ, suc, ◌≤◌, Bool, false, cond, List, [], ◌∷◌, ◌++◌, get_or, Option, Some, None, subst, refl, arith}
use Rattle.std.specs.Prelude.{All, AllPairs, flat_map, is_some, unwrap_or, if◌then◌else◌, ◌||◌, ◌&&◌}
use Rattle.std.specs.List.{list_any}
use Rattle.std.proofs.lemmas.Bool.{cases_Bool}
use Rattle.std.proofs.lemmas.Bool.Decides.{nat_tests}
use Rattle.std.proofs.lemmas.List.Elements.{All-nil, All-cons, All-append}
use Rattle.std.proofs.lemmas.List.Sums.{sum_by-cons}
use Rattle.oc_layout.specs.declared.cells.Cell.{Cell}
use Rattle.oc_pages.specs.declared.page.Page.{Page}
use Rattle.oc_pages.specs.Pages.{no_cell, is_empty, pointer_in, pointer_of, target_of}
use Rattle.oc_slots.specs.declared.slot.SlotId.{SlotId}
use Rattle.oc_slots.specs.declared.turnover.Pointing.{Pointing}
use Rattle.oc_slots.specs.Maps.{is_same}
use Rattle.oc_slots.specs.Pointings.{is_pointed, pointed_place, AreAt}
use Rattle.oc_slots.specs.Turnovers.{pointed}
use Rattle.oc_slots.proofs.Things.{tail_of}
use Rattle.oc_slots.proofs.SameSlots.{same_itself, same_slot, differs}
use Rattle.oc_slots.proofs.TurnoverCounts.{count, count_front, count_both}

-- a slot that changed, and where it is then
abbrev pub Move : Type 0
Move = SlotId × Option Cell

abbrev pub mover : Move → SlotId
mover m = m.0

abbrev pub pointee : Pointing → SlotId
pointee p = p.id

-- where a slot is by these, and else here
abbrev pub moved_place : List Move → SlotId → Option Cell → Option Cell
moved_place [] id base = base
moved_place (m ∷ ms) id base = if is_same m.0 id then m.1 else moved_place ms id base

-- one of them is of this slot
abbrev pub is_mover : List Move → SlotId → Bool
is_mover ms id = list_any (λ m. is_same m.0 id) ms

-- the place, if there is one, has a byte
abbrev pub HasByte : Option Cell → Type 0
HasByte None = Unit {0}
HasByte (Some c) = 1 ≤ c.len

pub pointer_some : (c : Cell) → 1 ≤ c.len → pointer_in c ≡ Some c
pointer_some c some =
    let full : is_empty c ≡ false = grind (arith, nat_tests, some) in
    rw full refl

-- ---- one slot, with what its pointer was and where that stands

abbrev pub pointed_from : SlotId → Option Cell → Option Cell → Option ℕ → List Pointing
pointed_from id place was target = if is_some place || is_some was then record { id = id; cell = unwrap_or place no_cell; target = target } ∷ [] else []

here_place : (id : SlotId) (place was : Option Cell) (target : Option ℕ) (rest : List Pointing) → HasByte place → pointed_place rest id was ≡ was → pointed_place (pointed_from id place was target ++ rest) id was ≡ place
here_place id None None target rest some none = none
here_place id None (Some c) target rest some none = rw (same_itself id) refl
here_place id (Some c) was target rest some none = rw (same_itself id) (pointer_some c some)

other_place : (i id : SlotId) (place was : Option Cell) (target : Option ℕ) (rest : List Pointing) (base : Option Cell) → is_same i id ≡ false → pointed_place (pointed_from i place was target ++ rest) id base ≡ pointed_place rest id base
other_place i id None None target rest base other = refl
other_place i id None (Some c) target rest base other = rw other refl
other_place i id (Some c) was target rest base other = rw other refl

here_pointed : (id : SlotId) (place was : Option Cell) (target : Option ℕ) (rest : List Pointing) → is_pointed rest id ≡ false → is_pointed (pointed_from id place was target ++ rest) id ≡ (is_some place || is_some was)
here_pointed id None None target rest none = none
here_pointed id None (Some c) target rest none = rw (same_itself id) refl
here_pointed id (Some c) was target rest none = rw (same_itself id) refl

other_pointed : (i id : SlotId) (place was : Option Cell) (target : Option ℕ) (rest : List Pointing) → is_same i id ≡ false → is_pointed (pointed_from i place was target ++ rest) id ≡ is_pointed rest id
other_pointed i id None None target rest other = refl
other_pointed i id None (Some c) target rest other = rw other refl
other_pointed i id (Some c) was target rest other = rw other refl

pointed_count : (i id : SlotId) (place was : Option Cell) (target : Option ℕ) → count pointee id (pointed_from i place was target) ≤ cond (is_same i id) 1 0
pointed_count i id None None target = omega arith
pointed_count i id None (Some c) target = omega (arith, sum_by-cons (λ p. cond (is_same (pointee p) id) 1 0) (record { id = i; cell = no_cell; target = target }) [])
pointed_count i id (Some c) was target = omega (arith, sum_by-cons (λ p. cond (is_same (pointee p) id) 1 0) (record { id = i; cell = c; target = target }) [])

pointed_all : (P : Pointing → Type 0) (id : SlotId) (place was : Option Cell) (target : Option ℕ) → ((c : Cell) → P (record { id = id; cell = c; target = target })) → All P (pointed_from id place was target)
pointed_all P id None None target each = All-nil P
pointed_all P id None (Some c) target each = All-cons P _ [] (each no_cell) (All-nil P)
pointed_all P id (Some c) was target each = All-cons P _ [] (each c) (All-nil P)

-- ---- the pointings of all that changed

module _ (unit : ℕ) (pages : List Page) where
  abbrev pub pointings_of : List Move → List Pointing
  pointings_of ms = flat_map (λ m. pointed unit pages m.0 m.1) ms

  pub pointed_once : (id : SlotId) (ms : List Move) → count pointee id (pointings_of ms) ≤ count mover id ms
  pointed_once id [] = omega arith
  pointed_once id (m ∷ ms) =
      omega (
        arith,
        count_front mover id m ms,
        count_both pointee id (pointed unit pages m.0 m.1) (pointings_of ms),
        pointed_once id ms,
        pointed_count m.0 id m.1 (pointer_of pages m.0.space m.0.number) (target_of unit pages m.0.space m.0.number),
      )

  -- what holds of the slots holds of the pointings' slots
  pub pointed_are : (P : SlotId → Type 0) (ms : List Move) → All (λ m. P m.0) ms → All (λ p. P p.id) (pointings_of ms)
  pointed_are P [] all = All-nil (λ p. P p.id)
  pointed_are P (m ∷ ms) all =
      All-append (λ p. P p.id) (pointed unit pages m.0 m.1) (pointings_of ms)
      (pointed_all (λ p. P p.id) m.0 m.1 (pointer_of pages m.0.space m.0.number) (target_of unit pages m.0.space m.0.number) (λ c. all 0 m (omega arith)))
      (pointed_are P ms (tail_of (λ m. P m.0) m ms all))

  pub pointed_at : (ms : List Move) → AreAt unit pages (pointings_of ms)
  pointed_at [] = All-nil (λ p. target_of unit pages p.id.space p.id.number ≡ p.target)
  pointed_at (m ∷ ms) =
      All-append (λ p. target_of unit pages p.id.space p.id.number ≡ p.target) (pointed unit pages m.0 m.1) (pointings_of ms)
      (pointed_all (λ p. target_of unit pages p.id.space p.id.number ≡ p.target) m.0 m.1 (pointer_of pages m.0.space m.0.number) (target_of unit pages m.0.space m.0.number) (λ c. refl))
      (pointed_at ms)

  none_placed : (ms : List Move) (id : SlotId) (base : Option Cell) → All (λ m. is_same m.0 id ≡ false) ms → pointed_place (pointings_of ms) id base ≡ base
  none_placed [] id base none = refl
  none_placed (m ∷ ms) id base none =
      other_place m.0 id m.1 (pointer_of pages m.0.space m.0.number) (target_of unit pages m.0.space m.0.number) (pointings_of ms) base (none 0 m (omega arith))
      ∙ none_placed ms id base (tail_of (λ m. is_same m.0 id ≡ false) m ms none)

  none_pointed : (ms : List Move) (id : SlotId) → All (λ m. is_same m.0 id ≡ false) ms → is_pointed (pointings_of ms) id ≡ false
  none_pointed [] id none = refl
  none_pointed (m ∷ ms) id none =
      other_pointed m.0 id m.1 (pointer_of pages m.0.space m.0.number) (target_of unit pages m.0.space m.0.number) (pointings_of ms) (none 0 m (omega arith))
      ∙ none_pointed ms id (tail_of (λ m. is_same m.0 id ≡ false) m ms none)

  -- each is pointed to where it is then
  pub pointed_there : (ms : List Move) (id : SlotId) → AllPairs (λ m n. is_same m.0 n.0 ≡ false) ms → All (λ m. HasByte m.1) ms
      → pointed_place (pointings_of ms) id (pointer_of pages id.space id.number) ≡ moved_place ms id (pointer_of pages id.space id.number)
  pointed_there [] id distinct some = refl
  pointed_there (m ∷ ms) id distinct some = elim (cases_Bool (is_same m.0 id)) [
    | inl yes_ ↦
        let none = none_placed ms m.0 (pointer_of pages m.0.space m.0.number) (λ k d lt. differs m.0 (get_or ms k d).0 m.0 (distinct 0 (suc k) d (omega arith) (omega (arith, lt))) (same_itself m.0)) in
        let here = here_place m.0 m.1 (pointer_of pages m.0.space m.0.number) (target_of unit pages m.0.space m.0.number) (pointings_of ms) (some 0 m (omega arith)) none in
        subst (λ i. pointed_place (pointings_of (m ∷ ms)) i (pointer_of pages i.space i.number) ≡ m.1) (same_slot m.0 id yes_) here ∙ rw yes_ refl
    | inr no_ ↦
        other_place m.0 id m.1 (pointer_of pages m.0.space m.0.number) (target_of unit pages m.0.space m.0.number) (pointings_of ms) (pointer_of pages id.space id.number) no_
        ∙ pointed_there ms id (λ i j d lt inside. distinct (suc i) (suc j) d (omega (arith, lt)) (omega (arith, inside))) (tail_of (λ m. HasByte m.1) m ms some)
        ∙ rw no_ refl
  ]

  -- just those that are there or were are pointed
  pub pointed_just : (ms : List Move) (id : SlotId) → AllPairs (λ m n. is_same m.0 n.0 ≡ false) ms
      → is_pointed (pointings_of ms) id ≡ (is_mover ms id && (is_some (moved_place ms id (pointer_of pages id.space id.number)) || is_some (pointer_of pages id.space id.number)))
  pointed_just [] id distinct = refl
  pointed_just (m ∷ ms) id distinct = elim (cases_Bool (is_same m.0 id)) [
    | inl yes_ ↦
        let none = none_pointed ms m.0 (λ k d lt. differs m.0 (get_or ms k d).0 m.0 (distinct 0 (suc k) d (omega arith) (omega (arith, lt))) (same_itself m.0)) in
        let here = here_pointed m.0 m.1 (pointer_of pages m.0.space m.0.number) (target_of unit pages m.0.space m.0.number) (pointings_of ms) none in
        subst (λ i. is_pointed (pointings_of (m ∷ ms)) i ≡ (is_some m.1 || is_some (pointer_of pages i.space i.number))) (same_slot m.0 id yes_) here ∙ rw yes_ refl
    | inr no_ ↦
        other_pointed m.0 id m.1 (pointer_of pages m.0.space m.0.number) (target_of unit pages m.0.space m.0.number) (pointings_of ms) no_
        ∙ pointed_just ms id (λ i j d lt inside. distinct (suc i) (suc j) d (omega (arith, lt)) (omega (arith, inside)))
        ∙ rw no_ refl
  ]
