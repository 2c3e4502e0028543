-- Things in the order of their addresses, and the room between them.
use Rattle.std.proofs.Common.{◌≡◌, ◌∙◌, ℕ, ◌+◌, ◌-◌, ◌<◌, ◌≤◌, ◌&&◌, Bool, true, false, cond, leb, ltb, List, length, take, get_or, ap, subst, inl, inr, arith}
use Rattle.std.proofs.lemmas.Bool.{cases_lt}
use Rattle.std.proofs.lemmas.Bool.Decides.{nat_tests}
use Rattle.oc_layout.specs.declared.cells.Cell.{Cell}
use Rattle.oc_layout.specs.Layout.{blocks}
use Rattle.oc_room.specs.Rooms.{owns, owners, AreApart}
use Rattle.oc_room.proofs.Counting.{no_cell, owners_more, owners_within}

-- The first i of the things and the free parts have each block before the end just once. The last of the things reaches up to the end.
pub record IsFilled (unit end : ℕ) (things : List Cell) (i : ℕ) (free : ℕ → ℕ) : Type 0 where
  pub each : (k : ℕ) → k < end → owners unit (take i things) k + free k ≡ 1
  pub none : (k : ℕ) → end ≤ k → owners unit (take i things) k + free k ≡ 0
  pub last : 0 < i → (k : ℕ) → (get_or things (i - 1) no_cell).at ≤ k → k < end → 1 ≤ owners unit (take i things) k
  pub empty : i ≡ 0 → end ≡ 0

module _ (unit end : ℕ) (things : List Cell) (i : ℕ) (free : ℕ → ℕ) (lt : i < length things) (filled : IsFilled unit end things i free) where
  thing : Cell
  thing = get_or things i no_cell

  -- one thing more, with the gap before it
  pub fill : (next : ℕ → ℕ) (to : ℕ) → 1 ≤ blocks unit (get_or things i no_cell).len → end ≤ (get_or things i no_cell).at
      → ((k : ℕ) → next k ≡ free k + cond (leb end k && ltb k (get_or things i no_cell).at) 1 0) → to ≡ (get_or things i no_cell).at + blocks unit (get_or things i no_cell).len
      → IsFilled unit to things (i + 1) next
  fill next to some begins gap ends = record {
    each = λ k below. each k below;
    none = λ k behind. none k behind;
    last = λ pos k from below. last k from below;
    empty = λ zero. absurd (omega (arith, zero));
  }
    where
      each : (k : ℕ) → k < to → owners unit (take (i + 1) things) k + next k ≡ 1
      each k below = elim (cases_lt k end) [
        | inl before ↦
            let outside : owns unit k (get_or things i no_cell) ≡ false = grind (arith, nat_tests, before, begins) in
            let no_gap : (leb end k && ltb k (get_or things i no_cell).at) ≡ false = grind (arith, nat_tests, before) in
            omega (arith, owners_more unit k i things lt, gap k, filled.each k before, ap {B = ℕ} (λ b. cond b 1 0) outside, ap {B = ℕ} (λ b. cond b 1 0) no_gap)
        | inr behind ↦ elim (cases_lt k (get_or things i no_cell).at) [
          | inl between ↦
              let outside : owns unit k (get_or things i no_cell) ≡ false = grind (arith, nat_tests, between) in
              let in_gap : (leb end k && ltb k (get_or things i no_cell).at) ≡ true = grind (arith, nat_tests, between, behind) in
              omega (arith, owners_more unit k i things lt, gap k, filled.none k behind, ap {B = ℕ} (λ b. cond b 1 0) outside, ap {B = ℕ} (λ b. cond b 1 0) in_gap)
          | inr within ↦
              let inside : owns unit k (get_or things i no_cell) ≡ true = grind (arith, nat_tests, within, below, ends) in
              let no_gap : (leb end k && ltb k (get_or things i no_cell).at) ≡ false = grind (arith, nat_tests, within) in
              omega (arith, owners_more unit k i things lt, gap k, filled.none k behind, ap {B = ℕ} (λ b. cond b 1 0) inside, ap {B = ℕ} (λ b. cond b 1 0) no_gap)
        ]
      ]

      none : (k : ℕ) → to ≤ k → owners unit (take (i + 1) things) k + next k ≡ 0
      none k behind =
          let outside : owns unit k (get_or things i no_cell) ≡ false = grind (arith, nat_tests, behind, ends) in
          let no_gap : (leb end k && ltb k (get_or things i no_cell).at) ≡ false = grind (arith, nat_tests, behind, ends, some) in
          omega (arith, owners_more unit k i things lt, gap k, filled.none k (omega (arith, behind, ends, begins)), ap {B = ℕ} (λ b. cond b 1 0) outside, ap {B = ℕ} (λ b. cond b 1 0) no_gap)

      last : (k : ℕ) → (get_or things (i + 1 - 1) no_cell).at ≤ k → k < to → 1 ≤ owners unit (take (i + 1) things) k
      last k from below =
          let same : i + 1 - 1 ≡ i = omega arith in
          let from_here : (get_or things i no_cell).at ≤ k = subst (λ n. (get_or things n no_cell).at ≤ k) same from in
          let inside : owns unit k (get_or things i no_cell) ≡ true = grind (arith, nat_tests, from_here, below, ends) in
          omega (arith, owners_more unit k i things lt, ap {B = ℕ} (λ b. cond b 1 0) inside)

  -- a thing that begins before the end shares its first block with the one before
  pub overlaps : (to : ℕ) → 1 ≤ blocks unit (get_or things i no_cell).len → (0 < i → (get_or things (i - 1) no_cell).at ≤ (get_or things i no_cell).at)
      → (get_or things i no_cell).at < end → ¬ AreApart unit to things
  overlaps to some ordered before apart =
      let at = (get_or things i no_cell).at in
      let pos : 0 < i = elim (cases_lt 0 i) [
        | inl pos ↦ pos
        | inr zero ↦ absurd (omega (arith, before, filled.empty (omega (arith, zero))))
      ] in
      let inside : owns unit at (get_or things i no_cell) ≡ true = grind (arith, nat_tests, some) in
      let twice : 2 ≤ owners unit things at = omega (arith, filled.last pos at (ordered pos) before, owners_within unit at i things lt, ap {B = ℕ} (λ b. cond b 1 0) inside) in
      let most : cond (leb to at) 0 1 ≤ 1 = at_most_one (leb to at) in
      absurd (omega (arith, twice, apart at, most))
    where
      at_most_one : (b : Bool) → cond b 0 1 ≤ 1
      at_most_one true = omega arith
      at_most_one false = omega arith

-- a thing that ends behind the end has a block there
pub too_far : (unit end : ℕ) (things : List Cell) (i : ℕ) → i < length things → 1 ≤ blocks unit (get_or things i no_cell).len → end < (get_or things i no_cell).at + blocks unit (get_or things i no_cell).len → ¬ AreApart unit end things
too_far unit end things i lt some beyond apart =
    let k : ℕ = (get_or things i no_cell).at + blocks unit (get_or things i no_cell).len - 1 in
    let inside : owns unit k (get_or things i no_cell) ≡ true = grind (arith, nat_tests, some) in
    let behind : leb end k ≡ true = grind (arith, nat_tests, beyond) in
    absurd (omega (arith, owners_within unit k i things lt, apart k, ap {B = ℕ} (λ b. cond b 1 0) inside, ap {B = ℕ} (λ b. cond b 0 1) behind))

-- what lies behind the last thing is free up to the end
pub filled_out : (unit end to : ℕ) (things sorted old : List Cell) (i : ℕ) (free next : ℕ → ℕ) → IsFilled unit end sorted i free → take i sorted ≡ things → end ≤ to
    → ((k : ℕ) → owners unit things k ≡ owners unit old k) → ((k : ℕ) → next k ≡ free k + cond (leb end k && ltb k to) 1 0)
    → record { each : (k : ℕ) → k < to → owners unit old k + next k ≡ 1; none : (k : ℕ) → to ≤ k → owners unit old k + next k ≡ 0 }
filled_out unit end to things sorted old i free next filled whole le same gap = record { each = each; none = none }
  where
    these : (k : ℕ) → owners unit (take i sorted) k ≡ owners unit old k
    these k = ap (λ l. owners unit l k) whole ∙ same k

    each : (k : ℕ) → k < to → owners unit old k + next k ≡ 1
    each k lt = elim (cases_lt k end) [
      | inl before ↦
          let outside : (leb end k && ltb k to) ≡ false = grind (arith, nat_tests, before) in
          omega (arith, these k, filled.each k before, gap k, ap {B = ℕ} (λ b. cond b 1 0) outside)
      | inr behind ↦
          let inside : (leb end k && ltb k to) ≡ true = grind (arith, nat_tests, behind, lt) in
          omega (arith, these k, filled.none k behind, gap k, ap {B = ℕ} (λ b. cond b 1 0) inside)
    ]

    none : (k : ℕ) → to ≤ k → owners unit old k + next k ≡ 0
    none k ge =
        let outside : (leb end k && ltb k to) ≡ false = grind (arith, nat_tests, ge) in
        omega (arith, these k, filled.none k (omega (arith, le, ge)), gap k, ap {B = ℕ} (λ b. cond b 1 0) outside)
