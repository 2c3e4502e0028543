-- How many things own a block.
use Rattle.std.proofs.Common.{◌≡◌, ℕ, ◌+◌, ◌-◌, ◌*◌, ◌<◌, ◌≤◌, true, false, cond, List, length, take, get_or, ap, inl, inr, arith}
use Rattle.std.specs.Int.{div_ceil}
use Rattle.std.proofs.lemmas.Bool.{cases_lt}
use Rattle.std.proofs.lemmas.Bool.Decides.{nat_tests}
use Rattle.std.proofs.lemmas.List.Sums.{sum_by_more, sum_by_more_le}
use Rattle.std.proofs.lemmas.Grind.{div_ceil_times}
use Rattle.std.proofs.Math.Nat.{le-div_iff_mul-le}
use Rattle.oc_layout.specs.declared.cells.Cell.{Cell}
use Rattle.oc_layout.specs.Layout.{blocks}
use Rattle.oc_room.specs.Rooms.{owns, owners, LiesApart}

-- no cell
abbrev pub no_cell : Cell
no_cell = record { at = 0; len = 0 }

-- one thing more
pub owners_more : (unit k i : ℕ) (cells : List Cell) → i < length cells → owners unit (take (i + 1) cells) k ≡ owners unit (take i cells) k + cond (owns unit k (get_or cells i no_cell)) 1 0
owners_more unit k i cells lt = sum_by_more (λ c. cond (owns unit k c) 1 0) cells i no_cell lt

pub owners_within : (unit k i : ℕ) (cells : List Cell) → i < length cells → owners unit (take i cells) k + cond (owns unit k (get_or cells i no_cell)) 1 0 ≤ owners unit cells k
owners_within unit k i cells lt = sum_by_more_le (λ c. cond (owns unit k c) 1 0) cells i no_cell lt

-- the fewest blocks that hold the bytes
pub blocks_least : (unit n k : ℕ) → 0 < unit → n ≤ k * unit → blocks unit n ≤ k
blocks_least unit n k pos le = elim (cases_lt k (blocks unit n)) [
  | inl more ↦
      let low : (k + 1) * unit ≤ n + unit - 1 = (le-div_iff_mul-le {k = unit} {x = k + 1} {y = n + unit - 1} pos).0 (omega (arith, more)) in
      absurd (omega (arith, low, le, pos))
  | inr enough ↦ enough
]

pub some_blocks : (unit n : ℕ) → 0 < unit → 1 ≤ n → 1 ≤ blocks unit n
some_blocks unit n pos some = (le-div_iff_mul-le {k = unit} {x = 1} {y = n + unit - 1} pos).1 (omega (arith, some, pos))

-- rounded up, it is as many
pub rounded_up : (unit n : ℕ) → 0 < unit → div_ceil n unit ≡ blocks unit n
rounded_up unit n pos =
    let bounds = div_ceil_times n unit pos in
    let least : blocks unit n ≤ div_ceil n unit = blocks_least unit n (div_ceil n unit) pos bounds.0 in
    let most : div_ceil n unit ≤ blocks unit n = (le-div_iff_mul-le {k = unit} {x = div_ceil n unit} {y = n + unit - 1} pos).1 (omega (arith, bounds.1, pos)) in
    omega (arith, least, most)

-- ---- giving things back

module _ (unit end : ℕ) (cells : List Cell) (free now : ℕ → ℕ) (i : ℕ) (lt : i < length cells) (below : (k : ℕ) → k < end → now k ≡ free k + owners unit (take i cells) k) where
  -- the blocks of a thing that begins before the end are taken
  pub still_taken : ((k : ℕ) → k < end → free k + owners unit cells k ≤ 1) → LiesApart unit end (get_or cells i no_cell) → (get_or cells i no_cell).at < end
      → (k : ℕ) → owns unit k (get_or cells i no_cell) ≡ true → now k ≡ 0
  still_taken apart lies starts k owned =
      let inside : k < end = elim lies [
        | inl ends ↦ grind (arith, nat_tests, owned, ends)
        | inr begins ↦ absurd (omega (arith, starts, begins))
      ] in
      let one : cond (owns unit k (get_or cells i no_cell)) 1 0 ≡ 1 = ap {B = ℕ} (λ b. cond b 1 0) owned in
      omega (arith, below k inside, apart k inside, owners_within unit k i cells lt, one)

  pub given_below : (next : ℕ → ℕ) → ((k : ℕ) → next k ≡ now k + cond (owns unit k (get_or cells i no_cell)) 1 0)
      → (k : ℕ) → k < end → next k ≡ free k + owners unit (take (i + 1) cells) k
  given_below next gave k inside = omega (arith, gave k, below k inside, owners_more unit k i cells lt)

  -- a thing that begins behind the end has no block before it
  pub skipped_below : end ≤ (get_or cells i no_cell).at → (k : ℕ) → k < end → now k ≡ free k + owners unit (take (i + 1) cells) k
  skipped_below begins k inside =
      let not : owns unit k (get_or cells i no_cell) ≡ false = grind (arith, nat_tests, begins, inside) in
      omega (arith, below k inside, owners_more unit k i cells lt, ap {B = ℕ} (λ b. cond b 1 0) not)

module _ (unit end : ℕ) (cells : List Cell) (now : ℕ → ℕ) (i : ℕ) (behind : (k : ℕ) → end ≤ k → now k ≡ 0) where
  pub given_behind : LiesApart unit end (get_or cells i no_cell) → (get_or cells i no_cell).at < end → (next : ℕ → ℕ)
      → ((k : ℕ) → next k ≡ now k + cond (owns unit k (get_or cells i no_cell)) 1 0) → (k : ℕ) → end ≤ k → next k ≡ 0
  given_behind lies starts next gave k outside =
      let not : owns unit k (get_or cells i no_cell) ≡ false = elim lies [
        | inl ends ↦ grind (arith, nat_tests, outside, ends)
        | inr begins ↦ absurd (omega (arith, starts, begins))
      ] in
      omega (arith, gave k, behind k outside, ap {B = ℕ} (λ b. cond b 1 0) not)
