-- Pointings in another order, and in that of their targets.
use Rattle.std.proofs.Common.{◌≡◌, ◌∙◌, inl, inr, ℕ, suc, ◌+◌, ◌*◌, ◌<◌, ◌≤◌, true, false, cond, List, [], ◌∷◌, ◌++◌, get_or, Option, Some, None, sym, ap, refl, arith}
use Rattle.std.specs.Prelude.{◌⊎◌, All, AllPairs, IsSome, nat_lt, sum_by, flat_map, is_some, unwrap_or, if◌then◌else◌}
use Rattle.std.specs.List.Sorted.{IsPermutation, IsNonDecreasingBy}
use Rattle.std.specs.Option.{option_to_list}
use Rattle.std.proofs.lemmas.Bool.{cases_Bool}
use Rattle.std.proofs.lemmas.Bool.Decides.{nat_tests}
use Rattle.std.proofs.lemmas.List.Elements.{All-nil, All-cons}
use Rattle.std.proofs.lemmas.List.Sorted.{All-permutation, sum_by-IsPermutation, list_any-IsPermutation}
use Rattle.std.proofs.lemmas.List.Sums.{sum_by-append, sum_by-cons}
use Rattle.oc_layout.specs.declared.cells.Cell.{Cell}
use Rattle.oc_layout.specs.declared.cells.Space.{Space}
use Rattle.oc_layout.specs.Layout.{is_ascending, is_below}
use Rattle.oc_pages.specs.declared.page.Page.{Page}
use Rattle.oc_pages.specs.Pages.{no_cell, pointer_in, pointer_of, target_of, page_holding, holds, slot_in, space_number, things_of, IsOther}
use Rattle.oc_pages.specs.Chains.{AreApart}
use Rattle.oc_pages.proofs.PointerLaws.{HasCells}
use Rattle.oc_pages.proofs.Ranges.{within_is}
use Rattle.oc_slots.specs.declared.slot.SlotId.{SlotId}
use Rattle.oc_slots.specs.declared.turnover.Pointing.{Pointing}
use Rattle.oc_slots.specs.Maps.{is_same}
use Rattle.oc_slots.specs.Pointings.{writes_of, is_pointed, pointed_place, cells_in, replaced, AreAt, AreDistinct, AreHeld}
use Rattle.oc_slots.proofs.PointedPages.{things_all}
use Rattle.oc_slots.proofs.Things.{tail_of}
use Rattle.oc_slots.proofs.SameSlots.{clash, same_true, differs}
use Rattle.oc_slots.proofs.TurnoverCounts.{count, count_front, named_once, once_distinct}
use Rattle.oc_slots.proofs.TurnoverPointed.{pointee}

-- ---- what the order doesn't matter to

pub distinct_so : (xs ys : List Pointing) → IsPermutation xs ys → AreDistinct xs → AreDistinct ys
distinct_so xs ys same distinct = once_distinct pointee ys (λ id. omega (arith, named_once pointee xs distinct id, sum_by-IsPermutation (λ (p : Pointing). cond (is_same p.id id) 1 0) xs ys same))

sum_flat : {X : Type 0} (f : Cell → ℕ) (g : X → List Cell) (xs : List X) → sum_by f (flat_map g xs) ≡ sum_by (λ x. sum_by f (g x)) xs
sum_flat f g [] = refl
sum_flat f g (x ∷ xs) = omega (arith, sum_by-append f (g x) (flat_map g xs), sum_by-cons (λ x. sum_by f (g x)) x xs, sum_flat f g xs)

pub sum_so : (f : Cell → ℕ) (g : Pointing → List Cell) (xs ys : List Pointing) → IsPermutation xs ys → sum_by f (flat_map g ys) ≡ sum_by f (flat_map g xs)
sum_so f g xs ys same = sum_flat f g ys ∙ sum_by-IsPermutation (λ p. sum_by f (g p)) xs ys same ∙ sym (sum_flat f g xs)

-- each pointing of a slot that is pointed once points where it is
its_place : (xs : List Pointing) (id : SlotId) (base : Option Cell) → AreDistinct xs → All (λ p. is_same p.id id ≡ true → pointer_in p.cell ≡ pointed_place xs id base) xs
its_place [] id base distinct = All-nil (λ (p : Pointing). is_same p.id id ≡ true → pointer_in p.cell ≡ pointed_place [] id base)
its_place (x ∷ xs) id base distinct =
    let rest = its_place xs id base (λ i j d lt inside. distinct (suc i) (suc j) d (omega (arith, lt)) (omega (arith, inside))) in
    elim (cases_Bool (is_same x.id id)) [
      | inl yes_ ↦
          All-cons (λ (p : Pointing). is_same p.id id ≡ true → pointer_in p.cell ≡ pointed_place (x ∷ xs) id base) x xs (λ same. rw yes_ refl)
          (λ k d lt same. absurd (clash (sym (differs x.id (get_or xs k d).id id (distinct 0 (suc k) d (omega arith) (omega (arith, lt))) yes_) ∙ same)))
      | inr no_ ↦
          All-cons (λ (p : Pointing). is_same p.id id ≡ true → pointer_in p.cell ≡ pointed_place (x ∷ xs) id base) x xs (λ same. absurd (clash (sym no_ ∙ same)))
          (λ k d lt same. rest k d lt same ∙ rw no_ refl)
    ]

placed_so : (ys : List Pointing) (id : SlotId) (base there : Option Cell) → All (λ p. is_same p.id id ≡ true → pointer_in p.cell ≡ there) ys → is_pointed ys id ≡ true → pointed_place ys id base ≡ there
placed_so [] id base there all among = absurd (clash among)
placed_so (y ∷ ys) id base there all among = elim (cases_Bool (is_same y.id id)) [
  | inl yes_ ↦ rw yes_ (all 0 y (omega arith) yes_)
  | inr no_ ↦
      let rest : is_pointed ys id ≡ true = grind (arith, no_, among) in
      rw no_ (placed_so ys id base there (tail_of (λ p. is_same p.id id ≡ true → pointer_in p.cell ≡ there) y ys all) rest)
]

placed_not : (ys : List Pointing) (id : SlotId) (base : Option Cell) → is_pointed ys id ≡ false → pointed_place ys id base ≡ base
placed_not [] id base none = refl
placed_not (y ∷ ys) id base none = elim (cases_Bool (is_same y.id id)) [
  | inl yes_ ↦ absurd (wrong yes_)
  | inr no_ ↦
      let rest : is_pointed ys id ≡ false = grind (arith, no_, none) in
      rw no_ (placed_not ys id base rest)
]
  where
    wrong : is_same y.id id ≡ true → ⊥
    wrong yes_ = grind (arith, yes_, none)

pub pointed_so : (xs ys : List Pointing) (id : SlotId) → IsPermutation xs ys → is_pointed ys id ≡ is_pointed xs id
pointed_so xs ys id same = sym (list_any-IsPermutation (λ (p : Pointing). is_same p.id id) xs ys same)

pub place_so : (xs ys : List Pointing) (id : SlotId) (base : Option Cell) → IsPermutation xs ys → AreDistinct xs → pointed_place ys id base ≡ pointed_place xs id base
place_so xs ys id base same distinct = elim (cases_Bool (is_pointed xs id)) [
  | inl yes_ ↦ placed_so ys id base (pointed_place xs id base) (All-permutation (λ (p : Pointing). is_same p.id id ≡ true → pointer_in p.cell ≡ pointed_place xs id base) xs ys same (its_place xs id base distinct)) (pointed_so xs ys id same ∙ yes_)
  | inr no_ ↦ placed_not ys id base (pointed_so xs ys id same ∙ no_) ∙ sym (placed_not xs id base no_)
]

-- ---- the targets of slots that differ

-- no cell of a page apart from these stands here
abbrev pub IsBeyond : ℕ → ℕ → Page → Type 0
IsBeyond unit target p = (target < p.at * unit) ⊎ (p.at * unit + 1024 ≤ target)

record StandsIn (unit target : ℕ) (p : Page) (number : ℕ) : Type 0 where
  pub at : target ≡ p.at * unit + 16 + 8 * slot_in p number
  pub above : 126 * p.index < number
  pub below : number ≤ 126 * p.index + 126

stands_in : (unit : ℕ) (p : Page) (ps : List Page) (space : Space) (number target : ℕ) → holds space number p ≡ true → target_of unit (p ∷ ps) space number ≡ Some target → StandsIn unit target p number
stands_in unit p ps space number target has is =
    let here : target_of unit (p ∷ ps) space number ≡ Some (p.at * unit + 16 + 8 * slot_in p number) = rw has refl in
    let both : ◌≡◌ {A = Option ℕ} (Some target) (Some (p.at * unit + 16 + 8 * slot_in p number)) = sym is ∙ here in
    let w = within_is p.index number (grind (arith, has)) in
    record { at = cc both; above = w.above; below = w.below }

later_page : (unit : ℕ) (p : Page) (ps : List Page) (space : Space) (number target : ℕ) → holds space number p ≡ false → target_of unit (p ∷ ps) space number ≡ Some target → target_of unit ps space number ≡ Some target
later_page unit p ps space number target has is =
    let here : target_of unit (p ∷ ps) space number ≡ target_of unit ps space number = rw has refl in
    sym here ∙ is

beyond : (unit : ℕ) (p : Page) (ps : List Page) (space : Space) (number target : ℕ) → All (AreApart unit p) ps → target_of unit ps space number ≡ Some target → IsBeyond unit target p
beyond unit p [] space number target apart is = let no_way : ◌≡◌ {A = Option ℕ} None (Some target) = is in absurd (cc no_way)
beyond unit p (q ∷ qs) space number target apart is = elim (cases_Bool (holds space number q)) [
  | inl yes_ ↦
      let there = stands_in unit q qs space number target yes_ is in
      elim (apart 0 q (omega arith)) [
        | inl before ↦ inr (omega (arith, before, there.at, there.above, there.below))
        | inr after ↦ inl (omega (arith, after, there.at, there.above, there.below))
      ]
  | inr no_ ↦ beyond unit p qs space number target (tail_of (AreApart unit p) q qs apart) (later_page unit q qs space number target no_ is)
]

pub one_slot : (unit : ℕ) (pages : List Page) (a b : SlotId) (target : ℕ) → AllPairs (AreApart unit) pages → target_of unit pages a.space a.number ≡ Some target → target_of unit pages b.space b.number ≡ Some target → is_same a b ≡ true
one_slot unit [] a b target apart one other = let no_way : ◌≡◌ {A = Option ℕ} None (Some target) = one in absurd (cc no_way)
one_slot unit (p ∷ ps) a b target apart one other =
    let front : All (AreApart unit p) ps = λ k d lt. apart 0 (suc k) d (omega arith) (omega (arith, lt)) in
    elim (cases_Bool (holds a.space a.number p)) [
      | inl a_has ↦
          let here = stands_in unit p ps a.space a.number target a_has one in
          elim (cases_Bool (holds b.space b.number p)) [
            | inl b_has ↦
                let there = stands_in unit p ps b.space b.number target b_has other in
                let spaces : space_number a.space ≡ space_number b.space = grind (arith, nat_tests, a_has, b_has) in
                same_true a b spaces (omega (arith, here.at, there.at, here.above, here.below, there.above, there.below))
            | inr b_not ↦ elim (beyond unit p ps b.space b.number target front (later_page unit p ps b.space b.number target b_not other)) [
              | inl before ↦ absurd (omega (arith, before, here.at, here.above, here.below))
              | inr after ↦ absurd (omega (arith, after, here.at, here.above, here.below))
            ]
          ]
      | inr a_not ↦
          let later = later_page unit p ps a.space a.number target a_not one in
          elim (cases_Bool (holds b.space b.number p)) [
            | inl b_has ↦
                let there = stands_in unit p ps b.space b.number target b_has other in
                elim (beyond unit p ps a.space a.number target front later) [
                  | inl before ↦ absurd (omega (arith, before, there.at, there.above, there.below))
                  | inr after ↦ absurd (omega (arith, after, there.at, there.above, there.below))
                ]
            | inr b_not ↦ one_slot unit ps a b target (λ i j d lt inside. apart (suc i) (suc j) d (omega (arith, lt)) (omega (arith, inside))) later (later_page unit p ps b.space b.number target b_not other)
          ]
    ]

-- ---- the order of the targets

-- the two don't stand in one place
abbrev pub TargetsDiffer : Pointing → Pointing → Type 0
TargetsDiffer p q = (target : ℕ) → p.target ≡ Some target → q.target ≡ Some target → ⊥

pub targets_differ : (unit : ℕ) (pages : List Page) (ps : List Pointing) → AllPairs (AreApart unit) pages → AreAt unit pages ps → AreDistinct ps → AllPairs TargetsDiffer ps
targets_differ unit pages ps apart at distinct = λ i j d lt inside target one other.
    clash (sym (distinct i j d lt inside) ∙ one_slot unit pages (get_or ps i d).id (get_or ps j d).id target apart (at i d (omega (arith, lt, inside)) ∙ one) (at j d inside ∙ other))

below : (target : ℕ) (ps : List Pointing) → All (λ p. (t : ℕ) → p.target ≡ Some t → target < t) ps → is_below target (writes_of ps) ≡ true
below target [] all = refl
below target (p ∷ ps) all = go p.target refl (below target ps (tail_of (λ p. (t : ℕ) → p.target ≡ Some t → target < t) p ps all))
  where
    go : (o : Option ℕ) → p.target ≡ o → is_below target (writes_of ps) ≡ true → is_below target (writes_of (p ∷ ps)) ≡ true
    go None e rest = rw e rest
    go (Some t) e rest = let lt = all 0 p (omega arith) t e in let test : nat_lt target t ≡ true = grind (arith, nat_tests, lt) in rw e test

pub ascending : (ps : List Pointing) → IsNonDecreasingBy (λ p. unwrap_or p.target 0) ps → AllPairs TargetsDiffer ps → is_ascending (writes_of ps) ≡ true
ascending [] order differ = refl
ascending (p ∷ ps) order differ = go p.target refl (ascending ps (λ i j d le lt. order (suc i) (suc j) d (omega (arith, le)) (omega (arith, lt))) (λ i j d lt inside. differ (suc i) (suc j) d (omega (arith, lt)) (omega (arith, inside))))
  where
    above : (t : ℕ) → p.target ≡ Some t → All (λ q. (u : ℕ) → q.target ≡ Some u → t < u) ps
    above t e k d lt u is =
        let le = order 0 (suc k) d (omega arith) (omega (arith, lt)) in
        let one : unwrap_or p.target 0 ≡ t = ap (λ (o : Option ℕ). unwrap_or o 0) e in
        let other : unwrap_or (get_or ps k d).target 0 ≡ u = ap (λ (o : Option ℕ). unwrap_or o 0) is in
        least t u (omega (arith, le, one, other)) (λ same. differ 0 (suc k) d (omega arith) (omega (arith, lt)) t e (is ∙ ap (λ (n : ℕ). Some n) (sym same)))
      where
        least : (t u : ℕ) → t ≤ u → (t ≡ u → ⊥) → t < u
        least t u le not = grind (arith, le, not)

    go : (o : Option ℕ) → p.target ≡ o → is_ascending (writes_of ps) ≡ true → is_ascending (writes_of (p ∷ ps)) ≡ true
    go None e rest = rw e rest
    go (Some t) e rest = rw e (rw (below t ps (above t e)) rest)

-- ---- what is replaced

-- the pointing, if a page holds its number, with its pointer taken away
abbrev pub cleared : List Page → Pointing → List Pointing
cleared pages p = if is_some (page_holding pages p.id.space p.id.number) then record { id = p.id; cell = no_cell; target = None } ∷ [] else []

abbrev pub all_cleared : List Page → List Pointing → List Pointing
all_cleared pages ps = flat_map (cleared pages) ps

cleared_once : (pages : List Page) (id : SlotId) (ps : List Pointing) → count pointee id (all_cleared pages ps) ≤ count pointee id ps
cleared_once pages id [] = omega arith
cleared_once pages id (p ∷ ps) =
    let front = count_front pointee id p ps in
    let rest = cleared_once pages id ps in
    elim (cases_Bool (is_some (page_holding pages p.id.space p.id.number))) [
      | inl yes_ ↦ rw yes_ (omega (arith, front, rest, count_front pointee id (record { id = p.id; cell = no_cell; target = None }) (all_cleared pages ps)))
      | inr no_ ↦ rw no_ (omega (arith, front, rest))
    ]

cleared_held : (pages : List Page) (ps : List Pointing) → AreHeld pages (all_cleared pages ps)
cleared_held pages [] = All-nil (λ (p : Pointing). IsSome (page_holding pages p.id.space p.id.number))
cleared_held pages (p ∷ ps) = elim (cases_Bool (is_some (page_holding pages p.id.space p.id.number))) [
  | inl yes_ ↦ rw yes_ (All-cons (λ (p : Pointing). IsSome (page_holding pages p.id.space p.id.number)) (record { id = p.id; cell = no_cell; target = None }) (all_cleared pages ps) yes_ (cleared_held pages ps))
  | inr no_ ↦ rw no_ (cleared_held pages ps)
]

cleared_cells : (pages : List Page) (ps : List Pointing) → cells_in (all_cleared pages ps) ≡ []
cleared_cells pages [] = refl
cleared_cells pages (p ∷ ps) = elim (cases_Bool (is_some (page_holding pages p.id.space p.id.number))) [
  | inl yes_ ↦ rw yes_ (cleared_cells pages ps)
  | inr no_ ↦ rw no_ (cleared_cells pages ps)
]

not_held : (pages : List Page) (space : Space) (number : ℕ) → is_some (page_holding pages space number) ≡ false → pointer_of pages space number ≡ None
not_held pages space number no_ = go (page_holding pages space number) refl no_
  where
    go : (o : Option Page) → page_holding pages space number ≡ o → is_some o ≡ false → pointer_of pages space number ≡ None
    go None e none = rw e refl
    go (Some q) e none = absurd (clash (sym none))

cleared_replaced : (pages : List Page) (ps : List Pointing) → replaced pages (all_cleared pages ps) ≡ replaced pages ps
cleared_replaced pages [] = refl
cleared_replaced pages (p ∷ ps) = elim (cases_Bool (is_some (page_holding pages p.id.space p.id.number))) [
  | inl yes_ ↦ rw yes_ (ap (λ l. option_to_list (pointer_of pages p.id.space p.id.number) ++ l) (cleared_replaced pages ps))
  | inr no_ ↦ rw no_ (cleared_replaced pages ps ∙ (λ i. option_to_list (sym (not_held pages p.id.space p.id.number no_) i) ++ replaced pages ps))
]

-- what is replaced is among the things of the pages
pub replaced_within : (f : Cell → ℕ) (pages : List Page) (ps : List Pointing) → All HasCells pages → AllPairs IsOther pages → AreDistinct ps → sum_by f (replaced pages ps) ≤ sum_by f (things_of pages)
replaced_within f pages ps sizes others distinct =
    let once = once_distinct pointee (all_cleared pages ps) (λ id. omega (arith, cleared_once pages id ps, named_once pointee ps distinct id)) in
    omega (arith, things_all f (all_cleared pages ps) pages sizes others (cleared_held pages ps) once, ap (sum_by f) (cleared_cells pages ps), ap (sum_by f) (cleared_replaced pages ps))
