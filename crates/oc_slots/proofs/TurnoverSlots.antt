-- The slots that changed, of both spaces.
use Rattle.std.proofs.Common.{◌≡◌, ◌∙◌, inl, inr, ℕ, ◌≤◌, Bool, true, false, cond, List, [], ◌∷◌, ◌++◌, map, Option, Some, None, sym, ap, refl, arith}
use Rattle.std.specs.Prelude.{All, AllPairs, flat_map, is_some, ◌||◌, nat_eq}
use Rattle.std.specs.List.{list_any, IsDistinct}
use Rattle.std.specs.Map.{lookup}
use Rattle.std.specs.Option.{option_map_or}
use Rattle.std.proofs.lemmas.Bool.{cases_Bool}
use Rattle.std.proofs.lemmas.Grind.{flat_map-append}
use Rattle.std.proofs.lemmas.List.{append_assoc}
use Rattle.std.proofs.lemmas.List.Elements.{All-append}
use Rattle.std.proofs.lemmas.List.Folds.{list_any-append, list_any_none}
use Rattle.oc_layout.specs.declared.cells.Cell.{Cell}
use Rattle.oc_layout.specs.declared.cells.Space.{Space}
use Rattle.oc_layout.specs.declared.cells.Space.TheVariants.{Objects, System}
use Rattle.oc_pages.specs.declared.page.Page.{Page}
use Rattle.oc_pages.specs.Pages.{pointer_of}
use Rattle.oc_slots.specs.declared.overlay.Overlay.{Overlay}
use Rattle.oc_slots.specs.declared.placed.PlacedChange.{PlacedChange}
use Rattle.oc_slots.specs.declared.slot.SlotId.{SlotId}
use Rattle.oc_slots.specs.Maps.{is_same}
use Rattle.oc_slots.specs.Slots.{Changes, changes_of, cells_of, places_in}
use Rattle.oc_slots.specs.Stores.{AreNumbers, fresh_of}
use Rattle.oc_slots.specs.Noting.{place_of, placed_place, place_in, noted}
use Rattle.oc_slots.specs.Turnovers.{is_noted, is_changed, slot_at, pointed, other_pointed}
use Rattle.oc_slots.proofs.SessionMap.{noted_place}
use Rattle.oc_slots.proofs.Things.{tail_of, left_of, right_of}
use Rattle.oc_slots.proofs.SameSlots.{clash, same_slot}
use Rattle.oc_slots.proofs.TurnoverCounts.{count, count_front, count_both, none_named, named_once, once_distinct}
use Rattle.oc_slots.proofs.TurnoverPointed.{Move, mover, moved_place, is_mover, HasByte, pointings_of}
use Rattle.oc_slots.proofs.TurnoverMoves.{placed_moves, placed_there, placed_movers, placed_count, placed_pointings, placed_are, placed_bytes, other_moves, other_pointings, others_are, other_bytes, others_apart, other_there, other_movers, other_count, changes_differ}

-- ---- a slot among several

moved_append : (xs ys : List Move) (id : SlotId) (base : Option Cell) → moved_place (xs ++ ys) id base ≡ moved_place xs id (moved_place ys id base)
moved_append [] ys id base = refl
moved_append (x ∷ xs) ys id base = ap (λ (o : Option Cell). cond (is_same x.0 id) x.1 o) (moved_append xs ys id base)

not_moved : (ms : List Move) (id : SlotId) (base : Option Cell) → All (λ m. is_same m.0 id ≡ false) ms → moved_place ms id base ≡ base
not_moved [] id base others = refl
not_moved (m ∷ ms) id base others = rw (others 0 m (omega arith)) (not_moved ms id base (tail_of (λ m. is_same m.0 id ≡ false) m ms others))

-- one that is placed is where it is placed
placed_any : (ps : List PlacedChange) (id : SlotId) (one other : Option Cell) → list_any (λ p. is_same p.id id) ps ≡ true → placed_place ps id one ≡ placed_place ps id other
placed_any [] id one other among = absurd (clash among)
placed_any (p ∷ ps) id one other among = elim (cases_Bool (is_same p.id id)) [
  | inl yes_ ↦ rw yes_ refl
  | inr no_ ↦
      let rest : list_any (λ p. is_same p.id id) ps ≡ true = grind (arith, no_, among) in
      rw no_ (placed_any ps id one other rest)
]

placed_none : (ps : List PlacedChange) (id : SlotId) (base : Option Cell) → list_any (λ p. is_same p.id id) ps ≡ false → placed_place ps id base ≡ base
placed_none [] id base none = refl
placed_none (p ∷ ps) id base none = elim (cases_Bool (is_same p.id id)) [
  | inl yes_ ↦ absurd (wrong yes_)
  | inr no_ ↦
      let rest : list_any (λ p. is_same p.id id) ps ≡ false = grind (arith, no_, none) in
      rw no_ (placed_none ps id base rest)
]
  where
    wrong : is_same p.id id ≡ true → ⊥
    wrong yes_ = grind (arith, yes_, none)

none_placed : (ps : List PlacedChange) (id : SlotId) → list_any (λ p. is_same p.id id) ps ≡ false → count (λ (p : PlacedChange). p.id) id ps ≡ 0
none_placed [] id none = refl
none_placed (p ∷ ps) id none = elim (cases_Bool (is_same p.id id)) [
  | inl yes_ ↦ absurd (wrong yes_)
  | inr no_ ↦
      let rest : list_any (λ p. is_same p.id id) ps ≡ false = grind (arith, no_, none) in
      omega (arith, count_front (λ (p : PlacedChange). p.id) id p ps, ap {B = ℕ} (λ b. cond b 1 0) no_, none_placed ps id rest)
]
  where
    wrong : is_same p.id id ≡ true → ⊥
    wrong yes_ = grind (arith, yes_, none)

-- what is looked up among the slots that are named
noted_any : (ps : List PlacedChange) (id : SlotId) → AllPairs (λ p q. is_same p.id q.id ≡ false) ps → is_some (lookup (nat_eq id.number) (noted ps id.space [])) ≡ list_any (λ p. is_same p.id id) ps
noted_any ps id distinct = go (lookup (nat_eq id.number) (noted ps id.space [])) (λ base. noted_place ps id [] base distinct) (list_any (λ p. is_same p.id id) ps) refl
  where
    here : Cell
    here = record { at = 0; len = 0 }

    differ : (o : Option Cell) → o ≡ None → o ≡ Some here → ⊥
    differ o none some = cc

    go : (found : Option (Option Cell)) → ((base : Option Cell) → option_map_or (λ x. x) found base ≡ placed_place ps id base) → (b : Bool) → list_any (λ p. is_same p.id id) ps ≡ b → is_some found ≡ list_any (λ p. is_same p.id id) ps
    go None are true e = absurd (differ (placed_place ps id None) (sym (are None)) (placed_any ps id None (Some here) e ∙ sym (are (Some here))))
    go None are false e = sym e
    go (Some o) are true e = sym e
    go (Some o) are false e = absurd (differ o (are None ∙ placed_none ps id None e) (are (Some here) ∙ placed_none ps id (Some here) e))

-- ---- all that changed

module _ (o named : Overlay) (placed : List PlacedChange) (are : (space : Space) → changes_of named space ≡ noted placed space []) (distinct : AllPairs (λ p q. is_same p.id q.id ≡ false) placed) where
  abbrev pub others_of : List Move
  others_of = other_moves named Objects (changes_of o Objects) ++ other_moves named System (changes_of o System)

  abbrev pub moves_of : List Move
  moves_of = placed_moves placed ++ others_of

  pub noted_is : (id : SlotId) → is_noted named id ≡ list_any (λ p. is_same p.id id) placed
  noted_is id = ap (λ (l : Changes). is_some (lookup (nat_eq id.number) l)) (are id.space) ∙ noted_any placed id distinct

  -- those of the other space
  system_apart : (n : ℕ) → All (λ m. is_same m.0 (slot_at Objects n) ≡ false) (other_moves named System (changes_of o System))
  system_apart n = others_apart named System (slot_at Objects n) (λ k free. refl) (changes_of o System)

  objects_apart : (n : ℕ) → All (λ m. is_same m.0 (slot_at System n) ≡ false) (other_moves named Objects (changes_of o Objects))
  objects_apart n = others_apart named Objects (slot_at System n) (λ k free. refl) (changes_of o Objects)

  -- those of a slot that is named
  named_apart : (space : Space) (id : SlotId) → is_noted named id ≡ true → All (λ m. is_same m.0 id ≡ false) (other_moves named space (changes_of o space))
  named_apart space id has = others_apart named space id (λ k free. apart k free) (changes_of o space)
    where
      apart : (k : ℕ) → is_noted named (slot_at space k) ≡ false → is_same (slot_at space k) id ≡ false
      apart k free = elim (cases_Bool (is_same (slot_at space k) id)) [
        | inl yes_ ↦ absurd (clash (sym free ∙ ap (is_noted named) (same_slot (slot_at space k) id yes_) ∙ has))
        | inr no_ ↦ no_
      ]

  others_there : (space : Space) (n : ℕ) (base : Option Cell) → is_noted named (slot_at space n) ≡ false → moved_place others_of (slot_at space n) base ≡ option_map_or (λ x. x) (lookup (nat_eq n) (changes_of o space)) base
  others_there Objects n base free =
      moved_append (other_moves named Objects (changes_of o Objects)) (other_moves named System (changes_of o System)) (slot_at Objects n) base
      ∙ ap (moved_place (other_moves named Objects (changes_of o Objects)) (slot_at Objects n)) (not_moved (other_moves named System (changes_of o System)) (slot_at Objects n) base (system_apart n))
      ∙ other_there named Objects n base free (changes_of o Objects)
  others_there System n base free =
      moved_append (other_moves named Objects (changes_of o Objects)) (other_moves named System (changes_of o System)) (slot_at System n) base
      ∙ not_moved (other_moves named Objects (changes_of o Objects)) (slot_at System n) (moved_place (other_moves named System (changes_of o System)) (slot_at System n) base) (objects_apart n)
      ∙ other_there named System n base free (changes_of o System)

  others_move : (space : Space) (n : ℕ) → is_noted named (slot_at space n) ≡ false → is_mover others_of (slot_at space n) ≡ is_some (lookup (nat_eq n) (changes_of o space))
  others_move Objects n free =
      list_any-append (λ m. is_same m.0 (slot_at Objects n)) (other_moves named Objects (changes_of o Objects)) (other_moves named System (changes_of o System))
      ∙ (λ i. other_movers named Objects n free (changes_of o Objects) i || list_any_none (λ m. is_same m.0 (slot_at Objects n)) (other_moves named System (changes_of o System)) (system_apart n) i)
      ∙ or_false (is_some (lookup (nat_eq n) (changes_of o Objects)))
    where
      or_false : (b : Bool) → (b || false) ≡ b
      or_false true = refl
      or_false false = refl
  others_move System n free =
      list_any-append (λ m. is_same m.0 (slot_at System n)) (other_moves named Objects (changes_of o Objects)) (other_moves named System (changes_of o System))
      ∙ (λ i. list_any_none (λ m. is_same m.0 (slot_at System n)) (other_moves named Objects (changes_of o Objects)) (objects_apart n) i || other_movers named System n free (changes_of o System) i)

  -- each slot that changed is where the changes have it
  pub moved_there : (pages : List Page) (id : SlotId) → moved_place moves_of id (pointer_of pages id.space id.number) ≡ placed_place placed id (place_in pages o id)
  moved_there pages id =
      moved_append (placed_moves placed) others_of id (pointer_of pages id.space id.number)
      ∙ placed_there placed id (moved_place others_of id (pointer_of pages id.space id.number))
      ∙ elim (cases_Bool (list_any (λ p. is_same p.id id) placed)) [
        | inl yes_ ↦ placed_any placed id (moved_place others_of id (pointer_of pages id.space id.number)) (place_in pages o id) yes_
        | inr no_ ↦ ap (placed_place placed id) (others_there id.space id.number (pointer_of pages id.space id.number) (noted_is id ∙ no_))
      ]

  -- they are just those that changed
  pub movers_are : (id : SlotId) → is_mover moves_of id ≡ is_changed o placed id
  movers_are id =
      list_any-append (λ m. is_same m.0 id) (placed_moves placed) others_of
      ∙ ap (λ b. b || is_mover others_of id) (placed_movers placed id)
      ∙ elim (cases_Bool (list_any (λ p. is_same p.id id) placed)) [
        | inl yes_ ↦ rw yes_ refl
        | inr no_ ↦ ap (λ b. list_any (λ p. is_same p.id id) placed || b) (others_move id.space id.number (noted_is id ∙ no_))
      ]

  -- each is named once
  module _ (objects : IsDistinct nat_eq (map (λ e. e.0) (changes_of o Objects))) (system : IsDistinct nat_eq (map (λ e. e.0) (changes_of o System))) where
    others_once : (space : Space) (n : ℕ) → count mover (slot_at space n) others_of ≤ 1
    others_once Objects n =
        omega (
          arith,
          count_both mover (slot_at Objects n) (other_moves named Objects (changes_of o Objects)) (other_moves named System (changes_of o System)),
          other_count named Objects (slot_at Objects n) (changes_of o Objects),
          changes_differ Objects (changes_of o Objects) objects (slot_at Objects n),
          none_named mover (slot_at Objects n) (other_moves named System (changes_of o System)) (system_apart n),
        )
    others_once System n =
        omega (
          arith,
          count_both mover (slot_at System n) (other_moves named Objects (changes_of o Objects)) (other_moves named System (changes_of o System)),
          other_count named System (slot_at System n) (changes_of o System),
          changes_differ System (changes_of o System) system (slot_at System n),
          none_named mover (slot_at System n) (other_moves named Objects (changes_of o Objects)) (objects_apart n),
        )

    each_once : (id : SlotId) → count mover id moves_of ≤ 1
    each_once id =
        let all = count_both mover id (placed_moves placed) others_of in
        let front = placed_count placed id in
        elim (cases_Bool (list_any (λ p. is_same p.id id) placed)) [
          | inl yes_ ↦
              let has = noted_is id ∙ yes_ in
              omega (
                arith,
                all,
                front,
                named_once (λ (p : PlacedChange). p.id) placed distinct id,
                count_both mover id (other_moves named Objects (changes_of o Objects)) (other_moves named System (changes_of o System)),
                none_named mover id (other_moves named Objects (changes_of o Objects)) (named_apart Objects id has),
                none_named mover id (other_moves named System (changes_of o System)) (named_apart System id has),
              )
          | inr no_ ↦ omega (arith, all, front, none_placed placed id no_, others_once id.space id.number)
        ]

    pub moves_distinct : AllPairs (λ m n. is_same m.0 n.0 ≡ false) moves_of
    moves_distinct = once_distinct mover moves_of each_once

  pub moves_numbers : All (λ p. (1 ≤ p.id.number) × (p.id.number ≤ 2147483646)) placed → AreNumbers (changes_of o Objects) → AreNumbers (changes_of o System)
      → All (λ m. (1 ≤ m.0.number) × (m.0.number ≤ 2147483646)) moves_of
  moves_numbers front objects system =
      All-append (λ (m : Move). (1 ≤ m.0.number) × (m.0.number ≤ 2147483646)) (placed_moves placed) others_of
      (placed_are (λ id. (1 ≤ id.number) × (id.number ≤ 2147483646)) placed front)
      (All-append (λ (m : Move). (1 ≤ m.0.number) × (m.0.number ≤ 2147483646)) (other_moves named Objects (changes_of o Objects)) (other_moves named System (changes_of o System))
      (others_are named Objects (λ id. (1 ≤ id.number) × (id.number ≤ 2147483646)) (changes_of o Objects) objects)
      (others_are named System (λ id. (1 ≤ id.number) × (id.number ≤ 2147483646)) (changes_of o System) system))

  pub moves_bytes : All (λ c. 1 ≤ c.len) (fresh_of o ++ cells_of placed) → All (λ m. HasByte m.1) moves_of
  moves_bytes some =
      let fresh = left_of (λ c. 1 ≤ c.len) (fresh_of o) (cells_of placed) some in
      All-append (λ (m : Move). HasByte m.1) (placed_moves placed) others_of
      (placed_bytes placed (right_of (λ c. 1 ≤ c.len) (fresh_of o) (cells_of placed) some))
      (All-append (λ (m : Move). HasByte m.1) (other_moves named Objects (changes_of o Objects)) (other_moves named System (changes_of o System))
      (other_bytes named Objects (changes_of o Objects) (left_of (λ c. 1 ≤ c.len) (places_in (changes_of o Objects)) (places_in (changes_of o System)) fresh))
      (other_bytes named System (changes_of o System) (right_of (λ c. 1 ≤ c.len) (places_in (changes_of o Objects)) (places_in (changes_of o System)) fresh)))

  -- the pointings that are made are those of all that changed
  pub pointings_are : (unit : ℕ) (pages : List Page)
      → (flat_map (λ p. pointed unit pages p.id (place_of p)) placed ++ flat_map (λ e. other_pointed unit pages named (slot_at Objects e.0) e.1) (changes_of o Objects)) ++ flat_map (λ e. other_pointed unit pages named (slot_at System e.0) e.1) (changes_of o System)
      ≡ pointings_of unit pages moves_of
  pointings_are unit pages =
      (λ i. (placed_pointings unit pages placed i ++ other_pointings named Objects unit pages (changes_of o Objects) i) ++ other_pointings named System unit pages (changes_of o System) i)
      ∙ append_assoc (pointings_of unit pages (placed_moves placed)) (pointings_of unit pages (other_moves named Objects (changes_of o Objects))) (pointings_of unit pages (other_moves named System (changes_of o System)))
      ∙ ap (λ l. pointings_of unit pages (placed_moves placed) ++ l) (sym (flat_map-append (λ (m : Move). pointed unit pages m.0 m.1) (other_moves named Objects (changes_of o Objects)) (other_moves named System (changes_of o System))))
      ∙ sym (flat_map-append (λ (m : Move). pointed unit pages m.0 m.1) (placed_moves placed) others_of)
