-- The map of the session once changes are noted.
use Rattle.std.proofs.Common.{◌≡◌, ◌≢◌, ◌∙◌, inl, inr, ℕ, suc, Bool, true, false, nat_eq, List, [], ◌∷◌, map, get_or, Option, Some, None, sym, ap, subst, refl, arith}
use Rattle.std.specs.Prelude.{All, AllPairs, ◌==◌, if◌then◌else◌}
use Rattle.std.specs.Map.{lookup}
use Rattle.std.specs.Option.{option_map, option_map_or}
use Rattle.std.proofs.lemmas.Bool.{cases_eq}
use Rattle.std.proofs.lemmas.Bool.Decides.{nat_tests}
use Rattle.std.proofs.lemmas.List.{get_or-map, length-map}
use Rattle.indexmap.specs.IndexMap.{insert_entry}
use Rattle.oc_layout.specs.declared.cells.Cell.{Cell}
use Rattle.oc_layout.specs.declared.cells.Space as spaces
use Rattle.oc_pages.specs.Pages.{space_number}
use Rattle.oc_slots.specs.declared.placed.Slot.{Slot}
use Rattle.oc_slots.specs.declared.placed.PlacedChange.{PlacedChange}
use Rattle.oc_slots.specs.declared.slot.SlotId.{SlotId}
use Rattle.oc_slots.specs.declared.slot.SlotChange.{SlotChange}
use Rattle.oc_slots.specs.Maps.{SlotMap, is_same, changed, bytes_at, content}
use Rattle.oc_slots.specs.Slots.{Changes, put_change, change_of, slots_of}
use Rattle.oc_slots.specs.Noting.{noted, place_of, placed_place}
use Rattle.oc_slots.proofs.Things.{tail_of}
use Rattle.oc_slots.proofs.SameSlots.{is_true, same_true, differs, spaces_same}

-- what is looked up once an entry is put
lookup_put : (cs : Changes) (m : ℕ) (o : Option Cell) (n : ℕ) → lookup (nat_eq n) (insert_entry nat_eq cs m o) ≡ (if n == m then Some o else lookup (nat_eq n) cs)
lookup_put [] m o n = elim (cases_eq n m) [
  | inl e ↦ let t : (n == m) ≡ true = grind (arith, nat_tests, e) in rw t refl
  | inr ne ↦ let t : (n == m) ≡ false = grind (arith, nat_tests, ne) in rw t refl
]
lookup_put (e ∷ es) m o n = elim (cases_eq m e.0) [
  | inl here ↦
      let at : nat_eq m e.0 ≡ true = grind (arith, nat_tests, here) in
      elim (cases_eq n m) [
        | inl same ↦ let t : (n == m) ≡ true = grind (arith, nat_tests, same) in let s : nat_eq n e.0 ≡ true = grind (arith, nat_tests, same, here) in rw at (rw t (rw s refl))
        | inr other ↦ let t : (n == m) ≡ false = grind (arith, nat_tests, other) in let s : nat_eq n e.0 ≡ false = grind (arith, nat_tests, other, here) in rw at (rw t (rw s refl))
      ]
  | inr not ↦
      let at : nat_eq m e.0 ≡ false = grind (arith, nat_tests, not) in
      rw at (elim (cases_eq n e.0) [
        | inl first ↦ let s : nat_eq n e.0 ≡ true = grind (arith, nat_tests, first) in let t : (n == m) ≡ false = grind (arith, nat_tests, first, not) in rw s (rw t refl)
        | inr later ↦ let s : nat_eq n e.0 ≡ false = grind (arith, nat_tests, later) in rw s (lookup_put es m o n)
      ])
]

not_there : (ps : List PlacedChange) (id : SlotId) (base : Option Cell) → All (λ p. is_same p.id id ≡ false) ps → placed_place ps id base ≡ base
not_there [] id base others = refl
not_there (p ∷ ps) id base others = rw (others 0 p (omega arith)) (not_there ps id base (tail_of (λ p. is_same p.id id ≡ false) p ps others))

put_same : (id : SlotId) (p : SlotId) (o : Option Cell) (cs : Changes) → is_same p id ≡ true → lookup (nat_eq id.number) (put_change p o id.space cs) ≡ Some o
put_same id p o cs same =
    let both = is_true p id same in
    let space : (space_number id.space == space_number p.space) ≡ true = grind (arith, nat_tests, both.0) in
    let number : (id.number == p.number) ≡ true = grind (arith, nat_tests, both.1) in
    rw space (lookup_put cs p.number o id.number ∙ rw number refl)

pub put_other : (id : SlotId) (p : SlotId) (o : Option Cell) (cs : Changes) → is_same p id ≡ false → lookup (nat_eq id.number) (put_change p o id.space cs) ≡ lookup (nat_eq id.number) cs
put_other id p o cs other = elim (cases_eq (space_number id.space) (space_number p.space)) [
  | inl here ↦
      let space : (space_number id.space == space_number p.space) ≡ true = grind (arith, nat_tests, here) in
      elim (cases_eq id.number p.number) [
        | inl same ↦ absurd (clash (sym other ∙ same_true p id (sym here) (sym same)))
        | inr number ↦ let not : (id.number == p.number) ≡ false = grind (arith, nat_tests, number) in rw space (lookup_put cs p.number o id.number ∙ rw not refl)
      ]
  | inr there ↦ let space : (space_number id.space == space_number p.space) ≡ false = grind (arith, nat_tests, there) in rw space refl
]
  where
    clash : false ≡ true → ⊥
    clash e = cc

-- of a space of which no slot is named all stays as it was noted
pub noted_elsewhere : (ps : List PlacedChange) (space : spaces.Space) (cs : Changes) → All (λ c. c.id.space ≢ space) (map change_of ps) → noted ps space cs ≡ cs
noted_elsewhere [] space cs others = refl
noted_elsewhere (p ∷ ps) space cs others =
    let there : (space_number space == space_number p.id.space) ≡ false = elim (cases_eq (space_number space) (space_number p.id.space)) [
      | inl here ↦ absurd (others 0 (change_of p) (omega arith) (sym (spaces_same space p.id.space here)))
      | inr other ↦ grind (arith, nat_tests, other)
    ] in
    ap (noted ps space) (rw there refl) ∙ noted_elsewhere ps space cs (tail_of (λ c. c.id.space ≢ space) (change_of p) (map change_of ps) others)

-- the session has a slot where it was placed, and else where it had it before
pub noted_place : (ps : List PlacedChange) (id : SlotId) (cs : Changes) (base : Option Cell) → AllPairs (λ p q. is_same p.id q.id ≡ false) ps
    → option_map_or (λ x. x) (lookup (nat_eq id.number) (noted ps id.space cs)) base ≡ placed_place ps id (option_map_or (λ x. x) (lookup (nat_eq id.number) cs) base)
noted_place [] id cs base distinct = refl
noted_place (p ∷ ps) id cs base distinct =
    noted_place ps id (put_change p.id (place_of p) id.space cs) base (λ i j d lt inside. distinct (suc i) (suc j) d (omega (arith, lt)) (omega (arith, inside))) ∙ go (is_same p.id id) refl
  where
    go : (b : Bool) → is_same p.id id ≡ b
        → placed_place ps id (option_map_or (λ x. x) (lookup (nat_eq id.number) (put_change p.id (place_of p) id.space cs)) base) ≡ placed_place (p ∷ ps) id (option_map_or (λ x. x) (lookup (nat_eq id.number) cs) base)
    go true e =
        ap (λ o. placed_place ps id (option_map_or (λ x. x) o base)) (put_same id p.id (place_of p) cs e)
        ∙ not_there ps id (place_of p) (λ k d lt. differs p.id (get_or ps k d).id id (distinct 0 (suc k) d (omega arith) (omega (arith, lt))) e)
        ∙ rw e refl
    go false e = ap (λ o. placed_place ps id (option_map_or (λ x. x) o base)) (put_other id p.id (place_of p) cs e) ∙ rw e refl

-- where each placed slot has its bytes, the map is the one that was before with these changes
pub changed_there : (unit : ℕ) (bytes : List ℕ) (m : SlotMap) (ps : List PlacedChange) (id : SlotId) (base : Option Cell) → All (λ s. bytes_at unit bytes s.cell ≡ s.bytes) (slots_of ps) → content unit bytes base ≡ m id
    → content unit bytes (placed_place ps id base) ≡ changed (map change_of ps) m id
changed_there unit bytes m [] id base has same = same
changed_there unit bytes m (p ∷ ps) id base has same = go (is_same p.id id) refl (changed_there unit bytes m ps id base (rest p.slot refl) same)
  where
    rest : (o : Option Slot) → p.slot ≡ o → All (λ s. bytes_at unit bytes s.cell ≡ s.bytes) (slots_of ps)
    rest None e = subst (λ l. All (λ s. bytes_at unit bytes s.cell ≡ s.bytes) l) (only e) has
      where
        only : p.slot ≡ None → slots_of (p ∷ ps) ≡ slots_of ps
        only e = rw e refl
    rest (Some s) e = tail_of (λ s. bytes_at unit bytes s.cell ≡ s.bytes) s (slots_of ps) (subst (λ l. All (λ s. bytes_at unit bytes s.cell ≡ s.bytes) l) (first e) has)
      where
        first : p.slot ≡ Some s → slots_of (p ∷ ps) ≡ s ∷ slots_of ps
        first e = rw e refl

    here : (o : Option Slot) → p.slot ≡ o → content unit bytes (place_of p) ≡ option_map (λ s. s.bytes) p.slot
    here None e = rw e refl
    here (Some s) e = rw e (ap {B = Option (List ℕ)} (λ l. Some l) (subst (λ l. All (λ s. bytes_at unit bytes s.cell ≡ s.bytes) l) (first e) has 0 s (omega arith)))
      where
        first : p.slot ≡ Some s → slots_of (p ∷ ps) ≡ s ∷ slots_of ps
        first e = rw e refl

    go : (b : Bool) → is_same p.id id ≡ b → content unit bytes (placed_place ps id base) ≡ changed (map change_of ps) m id → content unit bytes (placed_place (p ∷ ps) id base) ≡ changed (map change_of (p ∷ ps)) m id
    go true e later = rw e (here p.slot refl)
    go false e later = rw e later

pub distinct_of : (changes : List SlotChange) (ps : List PlacedChange) → map change_of ps ≡ changes → AllPairs (λ a b. is_same a.id b.id ≡ false) changes → AllPairs (λ p q. is_same p.id q.id ≡ false) ps
distinct_of changes ps are distinct i j d lt inside =
    let one = get_or-map change_of ps i d (change_of d) (omega (arith, lt, inside)) in
    let two = get_or-map change_of ps j d (change_of d) inside in
    (λ k. is_same (sym one k).id (sym two k).id) ∙ subst (λ l. AllPairs (λ a b. is_same a.id b.id ≡ false) l) (sym are) distinct i j (change_of d) lt (omega (arith, inside, length-map ps change_of))
