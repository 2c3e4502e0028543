-- Things that are placed lie beside those that were there, and tile the file with them.
use Rattle.std.proofs.Common.{◌≡◌, inl, inr, ℕ, ◌+◌, ◌*◌, ◌<◌, ◌≤◌, true, false, cond, leb, List, ◌++◌, length, get_or, sym, ap, subst, arith}
use Rattle.std.specs.Prelude.{All}
use Rattle.std.proofs.lemmas.Bool.{cases_lt}
use Rattle.std.proofs.lemmas.Bool.Decides.{nat_tests}
use Rattle.std.proofs.lemmas.List.{get_or_default}
use Rattle.std.proofs.lemmas.List.Sums.{sum_by-append}
use Rattle.oc_layout.specs.declared.cells.Cell.{Cell}
use Rattle.oc_free.specs.FreeParts.{free_at}
use Rattle.oc_room.specs.Rooms.{Space, Tiles, owns, owners, open_at}
use Rattle.oc_room.proofs.Counting.{no_cell, owners_within}
use Rattle.oc_slots.specs.Held.{IsBeside}
use Rattle.oc_slots.proofs.Apart.{beside_one}

owners_both : (unit k : ℕ) (xs ys : List Cell) → owners unit (xs ++ ys) k ≡ owners unit xs k + owners unit ys k
owners_both unit k xs ys = sum_by-append (λ c. cond (owns unit k c) 1 0) xs ys

module _ (s t : Space) (things cells : List Cell) (tiles : Tiles s things) (same : t.unit ≡ s.unit) (grown : s.end ≤ t.end) (opened : (k : ℕ) → open_at s k ≡ open_at t k + owners s.unit cells k) (within : (k : ℕ) → t.end ≤ k → free_at t.parts k ≡ 0) where
  -- what was there and what is placed tile the file
  pub tiles_placed : Tiles t (things ++ cells)
  tiles_placed = record {
    each = λ k lt. subst (λ u. owners u (things ++ cells) k + free_at t.parts k ≡ 1) (sym same) (each k lt);
    none = λ k ge. subst (λ u. owners u (things ++ cells) k + free_at t.parts k ≡ 0) (sym same) (none k ge);
  }
    where
      each : (k : ℕ) → k < t.end → owners s.unit (things ++ cells) k + free_at t.parts k ≡ 1
      each k lt =
          let there : leb t.end k ≡ false = grind (arith, nat_tests, lt) in
          elim (cases_lt k s.end) [
            | inl old ↦
                let here : leb s.end k ≡ false = grind (arith, nat_tests, old) in
                omega (arith, owners_both s.unit k things cells, tiles.each k old, opened k, ap {B = ℕ} (λ b. cond b 1 0) here, ap {B = ℕ} (λ b. cond b 1 0) there)
            | inr new ↦
                let here : leb s.end k ≡ true = grind (arith, nat_tests, new) in
                omega (arith, owners_both s.unit k things cells, tiles.none k new, opened k, ap {B = ℕ} (λ b. cond b 1 0) here, ap {B = ℕ} (λ b. cond b 1 0) there)
          ]

      none : (k : ℕ) → t.end ≤ k → owners s.unit (things ++ cells) k + free_at t.parts k ≡ 0
      none k ge =
          let there : leb t.end k ≡ true = grind (arith, nat_tests, ge) in
          let here : leb s.end k ≡ true = grind (arith, nat_tests, ge, grown) in
          omega (arith, owners_both s.unit k things cells, tiles.none k (omega (arith, ge, grown)), opened k, within k ge, ap {B = ℕ} (λ b. cond b 1 0) here, ap {B = ℕ} (λ b. cond b 1 0) there)

  -- no block is in one of each
  once : (k : ℕ) → owners s.unit things k + owners s.unit cells k ≤ 1
  once k = elim (cases_lt k t.end) [
    | inl lt ↦ subst (λ u. owners u things k + owners u cells k ≤ 1) same (omega (arith, owners_both t.unit k things cells, tiles_placed.each k lt))
    | inr ge ↦ subst (λ u. owners u things k + owners u cells k ≤ 1) same (omega (arith, owners_both t.unit k things cells, tiles_placed.none k ge))
  ]

  own_within : (xs : List Cell) (i k : ℕ) → i < length xs → cond (owns s.unit k (get_or xs i no_cell)) 1 0 ≤ owners s.unit xs k
  own_within xs i k lt = omega (arith, owners_within s.unit k i xs lt)

  -- each thing is beside each that is placed
  pub beside_placed : 0 < s.unit → All (λ c. 1 ≤ c.len) things → All (λ c. 1 ≤ c.len) cells → (i : ℕ) → i < length cells
      → All (IsBeside s.unit ((get_or cells i no_cell).at * s.unit) (get_or cells i no_cell).len) things
  beside_placed pos some_things some_cells i lt j d lt_j =
      let cell = get_or cells i no_cell in
      subst (IsBeside s.unit (cell.at * s.unit) cell.len) (get_or_default things j no_cell d lt_j)
      (beside_one s.unit cell (get_or things j no_cell) pos (some_cells i no_cell lt) (some_things j no_cell lt_j)
      (λ k. omega (arith, once k, own_within cells i k lt, own_within things j k lt_j)))
