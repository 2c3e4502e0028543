-- Things that share no block share no byte.
use Rattle.std.proofs.Common.{◌≡◌, inl, inr, ℕ, ◌+◌, ◌*◌, ◌<◌, ◌≤◌, true, cond, List, ◌∷◌, length, get_or, ap, subst, arith}
use Rattle.std.specs.Prelude.{All}
use Rattle.std.proofs.Math.Nat.{mul-le-mul_left}
use Rattle.std.proofs.lemmas.Bool.{cases_lt}
use Rattle.std.proofs.lemmas.Bool.Decides.{nat_tests}
use Rattle.std.proofs.lemmas.List.{get_or_default}
use Rattle.std.proofs.lemmas.List.Sums.{sum_by-cons}
use Rattle.oc_layout.specs.declared.cells.Cell.{Cell}
use Rattle.oc_layout.specs.Layout.{blocks}
use Rattle.oc_layout.proofs.Blocks.{blocks_hold}
use Rattle.oc_room.specs.Rooms.{owns, owners}
use Rattle.oc_room.proofs.Counting.{no_cell, owners_within, some_blocks}
use Rattle.oc_slots.specs.Held.{IsBeside}

pub ends_before : (unit at n to : ℕ) → 0 < unit → at + blocks unit n ≤ to → at * unit + n ≤ to * unit
ends_before unit at n to pos le =
    let whole : unit * (at + blocks unit n) ≤ unit * to = mul-le-mul_left unit le in
    omega (arith, whole, blocks_hold unit n pos)

pub beside_one : (unit : ℕ) (x c : Cell) → 0 < unit → 1 ≤ x.len → 1 ≤ c.len → ((k : ℕ) → cond (owns unit k x) 1 0 + cond (owns unit k c) 1 0 ≤ 1) → IsBeside unit (x.at * unit) x.len c
beside_one unit x c pos some_x some_c once = elim (cases_lt x.at c.at) [
  | inl below ↦ inr (ends_before unit x.at x.len c.at pos (elim (cases_lt c.at (x.at + blocks unit x.len)) [
    | inl inside ↦
        let bx : owns unit c.at x ≡ true = grind (arith, nat_tests, below, inside) in
        let more = some_blocks unit c.len pos some_c in
        let bc : owns unit c.at c ≡ true = grind (arith, nat_tests, more) in
        absurd (omega (arith, once c.at, ap {B = ℕ} (λ b. cond b 1 0) bx, ap {B = ℕ} (λ b. cond b 1 0) bc))
    | inr behind ↦ behind
  ]))
  | inr above ↦ inl (ends_before unit c.at c.len x.at pos (elim (cases_lt x.at (c.at + blocks unit c.len)) [
    | inl inside ↦
        let more = some_blocks unit x.len pos some_x in
        let bx : owns unit x.at x ≡ true = grind (arith, nat_tests, more) in
        let bc : owns unit x.at c ≡ true = grind (arith, nat_tests, above, inside) in
        absurd (omega (arith, once x.at, ap {B = ℕ} (λ b. cond b 1 0) bx, ap {B = ℕ} (λ b. cond b 1 0) bc))
    | inr behind ↦ behind
  ]))
]

own_within : (unit k : ℕ) (things : List Cell) (i : ℕ) → i < length things → cond (owns unit k (get_or things i no_cell)) 1 0 ≤ owners unit things k
own_within unit k things i lt = omega (arith, owners_within unit k i things lt)

-- the first of the things is beside each of the others
pub beside_first : (unit : ℕ) (x : Cell) (things : List Cell) → 0 < unit → 1 ≤ x.len → All (λ c. 1 ≤ c.len) things → ((k : ℕ) → owners unit (x ∷ things) k ≤ 1) → All (IsBeside unit (x.at * unit) x.len) things
beside_first unit x things pos some_x some once i d lt =
    subst (IsBeside unit (x.at * unit) x.len) (get_or_default things i no_cell d lt)
    (beside_one unit x (get_or things i no_cell) pos some_x (some i no_cell lt)
    (λ k. omega (arith, once k, sum_by-cons (λ c. cond (owns unit k c) 1 0) x things, own_within unit k things i lt)))
