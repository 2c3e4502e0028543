-- Which slots changed, and where they are then.
use Rattle.std.proofs.Common.{◌≡◌, inl, inr, ℕ, ◌≤◌, true, false, cond, List, [], ◌∷◌, ◌++◌, map, Option, Some, None, sym, ap, subst, refl, arith}
use Rattle.std.specs.Prelude.{All, flat_map, is_some, if◌then◌else◌, ◌||◌, nat_eq}
use Rattle.std.specs.List.{list_any, IsDistinct, AllByRecursion}
use Rattle.std.specs.Map.{lookup}
use Rattle.std.specs.Option.{option_map_or}
use Rattle.std.proofs.lemmas.Bool.{cases_Bool, cases_eq}
use Rattle.std.proofs.lemmas.Bool.Decides.{nat_tests}
use Rattle.std.proofs.lemmas.List.Elements.{All-nil, All-cons}
use Rattle.oc_layout.specs.declared.cells.Cell.{Cell}
use Rattle.oc_layout.specs.declared.cells.Space.{Space}
use Rattle.oc_pages.specs.declared.page.Page.{Page}
use Rattle.oc_slots.specs.declared.overlay.Overlay.{Overlay}
use Rattle.oc_slots.specs.declared.placed.PlacedChange.{PlacedChange}
use Rattle.oc_slots.specs.declared.slot.SlotId.{SlotId}
use Rattle.oc_slots.specs.Maps.{is_same}
use Rattle.oc_slots.specs.Slots.{Changes, cell_list, cells_of, places_in}
use Rattle.oc_slots.specs.Noting.{place_of, placed_place}
use Rattle.oc_slots.specs.Turnovers.{is_noted, slot_at, pointed, other_pointed}
use Rattle.oc_slots.proofs.Sessions.{cells_one}
use Rattle.oc_slots.proofs.Things.{tail_of, left_of, right_of}
use Rattle.oc_slots.proofs.SameSlots.{is_true, same_true, differs}
use Rattle.oc_slots.proofs.TurnoverCounts.{count, count_front, none_named}
use Rattle.oc_slots.proofs.TurnoverPointed.{Move, mover, moved_place, is_mover, HasByte, pointings_of}

-- ---- those that are placed

abbrev pub placed_moves : List PlacedChange → List Move
placed_moves [] = []
placed_moves (p ∷ ps) = (p.id, place_of p) ∷ placed_moves ps

pub placed_there : (ps : List PlacedChange) (id : SlotId) (base : Option Cell) → moved_place (placed_moves ps) id base ≡ placed_place ps id base
placed_there [] id base = refl
placed_there (p ∷ ps) id base = ap (λ (o : Option Cell). cond (is_same p.id id) (place_of p) o) (placed_there ps id base)

pub placed_movers : (ps : List PlacedChange) (id : SlotId) → is_mover (placed_moves ps) id ≡ list_any (λ p. is_same p.id id) ps
placed_movers [] id = refl
placed_movers (p ∷ ps) id = ap (λ b. is_same p.id id || b) (placed_movers ps id)

pub placed_count : (ps : List PlacedChange) (id : SlotId) → count mover id (placed_moves ps) ≡ count (λ (p : PlacedChange). p.id) id ps
placed_count [] id = refl
placed_count (p ∷ ps) id = omega (arith, count_front mover id (p.id, place_of p) (placed_moves ps), count_front (λ (p : PlacedChange). p.id) id p ps, placed_count ps id)

pub placed_pointings : (unit : ℕ) (pages : List Page) (ps : List PlacedChange) → flat_map (λ p. pointed unit pages p.id (place_of p)) ps ≡ pointings_of unit pages (placed_moves ps)
placed_pointings unit pages [] = refl
placed_pointings unit pages (p ∷ ps) = ap (λ l. pointed unit pages p.id (place_of p) ++ l) (placed_pointings unit pages ps)

pub placed_are : (P : SlotId → Type 0) (ps : List PlacedChange) → All (λ p. P p.id) ps → All (λ m. P m.0) (placed_moves ps)
placed_are P [] all = All-nil (λ (m : Move). P m.0)
placed_are P (p ∷ ps) all = All-cons (λ (m : Move). P m.0) (p.id, place_of p) (placed_moves ps) (all 0 p (omega arith)) (placed_are P ps (tail_of (λ p. P p.id) p ps all))

byte_of : (o : Option Cell) → All (λ c. 1 ≤ c.len) (cell_list o) → HasByte o
byte_of None all = tt
byte_of (Some c) all = all 0 c (omega arith)

pub placed_bytes : (ps : List PlacedChange) → All (λ c. 1 ≤ c.len) (cells_of ps) → All (λ m. HasByte m.1) (placed_moves ps)
placed_bytes [] all = All-nil (λ (m : Move). HasByte m.1)
placed_bytes (p ∷ ps) all =
    let both = subst (All (λ (c : Cell). 1 ≤ c.len)) (cells_one p ps) all in
    All-cons (λ (m : Move). HasByte m.1) (p.id, place_of p) (placed_moves ps)
    (byte_of (place_of p) (left_of (λ c. 1 ≤ c.len) (cell_list (place_of p)) (cells_of ps) both))
    (placed_bytes ps (right_of (λ c. 1 ≤ c.len) (cell_list (place_of p)) (cells_of ps) both))

-- ---- those that the overlay has and that aren't named

others_differ : (space : Space) (m n : ℕ) → (m ≡ n → ⊥) → is_same (slot_at space m) (slot_at space n) ≡ false
others_differ space m n not = elim (cases_Bool (is_same (slot_at space m) (slot_at space n))) [
  | inl yes_ ↦ absurd (not (is_true (slot_at space m) (slot_at space n) yes_).1)
  | inr no_ ↦ no_
]

module _ (named : Overlay) (space : Space) where
  abbrev pub other_move : ℕ × Option Cell → List Move
  other_move e = if is_noted named (slot_at space e.0) then [] else (slot_at space e.0, e.1) ∷ []

  abbrev pub other_moves : Changes → List Move
  other_moves cs = flat_map other_move cs

  pub other_pointings : (unit : ℕ) (pages : List Page) (cs : Changes) → flat_map (λ e. other_pointed unit pages named (slot_at space e.0) e.1) cs ≡ pointings_of unit pages (other_moves cs)
  other_pointings unit pages [] = refl
  other_pointings unit pages (e ∷ es) = elim (cases_Bool (is_noted named (slot_at space e.0))) [
    | inl yes_ ↦ rw yes_ (other_pointings unit pages es)
    | inr no_ ↦ rw no_ (ap (λ l. pointed unit pages (slot_at space e.0) e.1 ++ l) (other_pointings unit pages es))
  ]

  pub others_are : (P : SlotId → Type 0) (cs : Changes) → All (λ e. P (slot_at space e.0)) cs → All (λ m. P m.0) (other_moves cs)
  others_are P [] all = All-nil (λ (m : Move). P m.0)
  others_are P (e ∷ es) all =
      let rest = others_are P es (tail_of (λ e. P (slot_at space e.0)) e es all) in
      elim (cases_Bool (is_noted named (slot_at space e.0))) [
        | inl yes_ ↦ rw yes_ rest
        | inr no_ ↦ rw no_ (All-cons (λ (m : Move). P m.0) (slot_at space e.0, e.1) (other_moves es) (all 0 e (omega arith)) rest)
      ]

  pub other_bytes : (cs : Changes) → All (λ c. 1 ≤ c.len) (places_in cs) → All (λ m. HasByte m.1) (other_moves cs)
  other_bytes [] all = All-nil (λ (m : Move). HasByte m.1)
  other_bytes (e ∷ es) all =
      let rest = other_bytes es (right_of (λ c. 1 ≤ c.len) (cell_list e.1) (places_in es) all) in
      elim (cases_Bool (is_noted named (slot_at space e.0))) [
        | inl yes_ ↦ rw yes_ rest
        | inr no_ ↦ rw no_ (All-cons (λ (m : Move). HasByte m.1) (slot_at space e.0, e.1) (other_moves es) (byte_of e.1 (left_of (λ c. 1 ≤ c.len) (cell_list e.1) (places_in es) all)) rest)
      ]

  -- a slot that is named, or of the other space, isn't one of them
  pub others_apart : (id : SlotId) → ((n : ℕ) → is_noted named (slot_at space n) ≡ false → is_same (slot_at space n) id ≡ false) → (cs : Changes) → All (λ m. is_same m.0 id ≡ false) (other_moves cs)
  others_apart id apart [] = All-nil (λ (m : Move). is_same m.0 id ≡ false)
  others_apart id apart (e ∷ es) = elim (cases_Bool (is_noted named (slot_at space e.0))) [
    | inl yes_ ↦ rw yes_ (others_apart id apart es)
    | inr no_ ↦ rw no_ (All-cons (λ (m : Move). is_same m.0 id ≡ false) (slot_at space e.0, e.1) (other_moves es) (apart e.0 no_) (others_apart id apart es))
  ]

  -- one that isn't named is where the overlay has it
  pub other_there : (n : ℕ) (base : Option Cell) → is_noted named (slot_at space n) ≡ false → (cs : Changes) → moved_place (other_moves cs) (slot_at space n) base ≡ option_map_or (λ x. x) (lookup (nat_eq n) cs) base
  other_there n base free [] = refl
  other_there n base free (e ∷ es) = elim (cases_eq n e.0) [
    | inl is ↦
        let at : nat_eq n e.0 ≡ true = grind (arith, nat_tests, is) in
        let free_ : is_noted named (slot_at space e.0) ≡ false = subst (λ k. is_noted named (slot_at space k) ≡ false) is free in
        let same : is_same (slot_at space e.0) (slot_at space n) ≡ true = same_true (slot_at space e.0) (slot_at space n) refl (sym is) in
        rw free_ (rw same (rw at refl))
    | inr not ↦
        let at : nat_eq n e.0 ≡ false = grind (arith, nat_tests, not) in
        let other : is_same (slot_at space e.0) (slot_at space n) ≡ false = others_differ space e.0 n (λ same. not (sym same)) in
        elim (cases_Bool (is_noted named (slot_at space e.0))) [
          | inl yes_ ↦ rw yes_ (rw at (other_there n base free es))
          | inr no_ ↦ rw no_ (rw other (rw at (other_there n base free es)))
        ]
  ]

  pub other_movers : (n : ℕ) → is_noted named (slot_at space n) ≡ false → (cs : Changes) → is_mover (other_moves cs) (slot_at space n) ≡ is_some (lookup (nat_eq n) cs)
  other_movers n free [] = refl
  other_movers n free (e ∷ es) = elim (cases_eq n e.0) [
    | inl is ↦
        let at : nat_eq n e.0 ≡ true = grind (arith, nat_tests, is) in
        let free_ : is_noted named (slot_at space e.0) ≡ false = subst (λ k. is_noted named (slot_at space k) ≡ false) is free in
        let same : is_same (slot_at space e.0) (slot_at space n) ≡ true = same_true (slot_at space e.0) (slot_at space n) refl (sym is) in
        rw free_ (rw same (rw at refl))
    | inr not ↦
        let at : nat_eq n e.0 ≡ false = grind (arith, nat_tests, not) in
        let other : is_same (slot_at space e.0) (slot_at space n) ≡ false = others_differ space e.0 n (λ same. not (sym same)) in
        elim (cases_Bool (is_noted named (slot_at space e.0))) [
          | inl yes_ ↦ rw yes_ (rw at (other_movers n free es))
          | inr no_ ↦ rw no_ (rw other (rw at (other_movers n free es)))
        ]
  ]

  -- each of them is one change of the overlay
  pub other_count : (id : SlotId) (cs : Changes) → count mover id (other_moves cs) ≤ count (λ (e : ℕ × Option Cell). slot_at space e.0) id cs
  other_count id [] = omega arith
  other_count id (e ∷ es) =
      let front = count_front (λ (e : ℕ × Option Cell). slot_at space e.0) id e es in
      elim (cases_Bool (is_noted named (slot_at space e.0))) [
        | inl yes_ ↦ rw yes_ (omega (arith, front, other_count id es))
        | inr no_ ↦ rw no_ (omega (arith, front, other_count id es, count_front mover id (slot_at space e.0, e.1) (other_moves es)))
      ]

-- the overlay's changes of a space are of slots that differ
pub changes_differ : (space : Space) (cs : Changes) → IsDistinct nat_eq (map (λ e. e.0) cs) → (id : SlotId) → count (λ (e : ℕ × Option Cell). slot_at space e.0) id cs ≤ 1
unfolding IsDistinct
changes_differ space [] distinct id = omega arith
changes_differ space (e ∷ es) distinct id =
    let front = count_front (λ (e : ℕ × Option Cell). slot_at space e.0) id e es in
    elim (cases_Bool (is_same (slot_at space e.0) id)) [
      | inl yes_ ↦ omega (arith, front, ap {B = ℕ} (λ b. cond b 1 0) yes_, none_named (λ (e : ℕ × Option Cell). slot_at space e.0) id es (later es distinct.0 yes_))
      | inr no_ ↦ omega (arith, front, ap {B = ℕ} (λ b. cond b 1 0) no_, changes_differ space es distinct.1 id)
    ]
  where
    later : (rest : Changes) → AllByRecursion (λ k. nat_eq e.0 k ≡ false) (map (λ e. e.0) rest) → is_same (slot_at space e.0) id ≡ true → All (λ e. is_same (slot_at space e.0) id ≡ false) rest
    later [] all same = All-nil (λ (e : ℕ × Option Cell). is_same (slot_at space e.0) id ≡ false)
    later (x ∷ xs) all same =
        All-cons (λ (e : ℕ × Option Cell). is_same (slot_at space e.0) id ≡ false) x xs
        (differs (slot_at space e.0) (slot_at space x.0) id (apart x.0 all.0) same)
        (later xs all.1 same)
      where
        apart : (k : ℕ) → nat_eq e.0 k ≡ false → is_same (slot_at space e.0) (slot_at space k) ≡ false
        apart k no_ = grind (arith, nat_tests, no_)
