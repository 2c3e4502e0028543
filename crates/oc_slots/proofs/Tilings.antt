-- Things that tile a file: where they end, and that no two share a block.
use Rattle.std.proofs.Common.{◌≡◌, inl, inr, ℕ, zero, suc, ◌+◌, ◌-◌, ◌*◌, ◌<◌, ◌≤◌, Bool, true, false, cond, List, [], ◌∷◌, ◌++◌, length, get_or, ap, refl, arith}
use Rattle.std.specs.Prelude.{All, AllPairs}
use Rattle.std.proofs.lemmas.Bool.{cases_lt}
use Rattle.std.proofs.lemmas.Bool.Decides.{nat_tests}
use Rattle.std.proofs.lemmas.List.{get_or_default}
use Rattle.std.proofs.Math.Nat.{mul-le-mul_right}
use Rattle.std.proofs.lemmas.List.Sums.{sum_by-cons}
use Rattle.oc_layout.specs.declared.cells.Cell.{Cell}
use Rattle.oc_layout.specs.Layout.{blocks}
use Rattle.oc_layout.proofs.Blocks.{blocks_hold, blocks_reach}
use Rattle.oc_free.specs.FreeParts.{free_at}
use Rattle.oc_room.specs.Rooms.{Space, Tiles, owns, owners}
use Rattle.oc_room.proofs.Counting.{no_cell, owners_within, some_blocks}
use Rattle.oc_slots.specs.Pieces.{ShareNone}
use Rattle.oc_slots.proofs.Noted.{owners_append}
use Rattle.oc_slots.proofs.Things.{tail_of}

-- a cell owns its first and its last block
first_owned : (unit : ℕ) (c : Cell) → 0 < unit → 1 ≤ c.len → owns unit c.at c ≡ true
first_owned unit c pos some = let more = some_blocks unit c.len pos some in grind (arith, nat_tests, more)

-- what is in the list is counted
counted : (unit k : ℕ) (cells : List Cell) (i : ℕ) (d : Cell) → i < length cells → owns unit k (get_or cells i d) ≡ true → 1 ≤ owners unit cells k
counted unit k cells i d lt own =
    omega (arith, owners_within unit k i cells lt, ap {B = ℕ} (λ x. cond (owns unit k x) 1 0) (get_or_default cells i no_cell d lt), ap {B = ℕ} (λ b. cond b 1 0) own)

-- a block that has an owner has one in the list
pub owner_of : (unit k : ℕ) (cells : List Cell) → 1 ≤ owners unit cells k → (i : ℕ) × (i < length cells) × (owns unit k (get_or cells i no_cell) ≡ true)
owner_of unit k [] some = absurd (omega (arith, some))
owner_of unit k (c ∷ cs) some = go (owns unit k c) refl (owner_of unit k cs)
  where
    go : (b : Bool) → owns unit k c ≡ b → (1 ≤ owners unit cs k → (i : ℕ) × (i < length cs) × (owns unit k (get_or cs i no_cell) ≡ true)) → (i : ℕ) × (i < length (c ∷ cs)) × (owns unit k (get_or (c ∷ cs) i no_cell) ≡ true)
    go true e rest = (0, omega arith, e)
    go false e rest =
        let there = rest (omega (arith, some, sum_by-cons (λ x. cond (owns unit k x) 1 0) c cs, ap {B = ℕ} (λ b. cond b 1 0) e)) in
        (suc there.0, omega (arith, there.1), there.2)

-- two cells whose blocks are counted once share none
pub none_shared : (unit : ℕ) (a b : Cell) → 0 < unit → 1 ≤ a.len → 1 ≤ b.len → ((k : ℕ) → cond (owns unit k a) 1 0 + cond (owns unit k b) 1 0 ≤ 1) → ShareNone unit a b
none_shared unit a b pos some_a some_b once = elim (cases_lt b.at (a.at + blocks unit a.len)) [
  | inl under ↦ elim (cases_lt a.at (b.at + blocks unit b.len)) [
    | inl over ↦ elim (cases_lt a.at b.at) [
      | inl below ↦
          let ba : owns unit b.at a ≡ true = grind (arith, nat_tests, below, under) in
          let bb = first_owned unit b pos some_b in
          absurd (omega (arith, once b.at, ap {B = ℕ} (λ x. cond x 1 0) ba, ap {B = ℕ} (λ x. cond x 1 0) bb))
      | inr above ↦
          let aa = first_owned unit a pos some_a in
          let ab : owns unit a.at b ≡ true = grind (arith, nat_tests, above, over) in
          absurd (omega (arith, once a.at, ap {B = ℕ} (λ x. cond x 1 0) aa, ap {B = ℕ} (λ x. cond x 1 0) ab))
    ]
    | inr ge ↦ inr ge
  ]
  | inr ge ↦ inl ge
]

module _ (s : Space) (pos : 0 < s.unit) where
  -- each of the things lies in the file
  pub tiles_within : (things : List Cell) → Tiles s things → All (λ c. 1 ≤ c.len) things → All (λ c. c.at + blocks s.unit c.len ≤ s.end) things
  tiles_within things tiles some i d lt =
      let c = get_or things i d in
      let more = some_blocks s.unit c.len pos (some i d lt) in
      let last = c.at + blocks s.unit c.len - 1 in
      elim (cases_lt last s.end) [
        | inl in_ ↦ omega (arith, in_, more)
        | inr out ↦
            let own : owns s.unit last c ≡ true = grind (arith, nat_tests, more) in
            absurd (omega (arith, tiles.none last out, counted s.unit last things i d lt own))
      ]

  tiles_once : (things : List Cell) → Tiles s things → (k : ℕ) → owners s.unit things k + free_at s.parts k ≤ 1
  tiles_once things tiles k = elim (cases_lt k s.end) [ inl lt ↦ omega (arith, tiles.each k lt) | inr ge ↦ omega (arith, tiles.none k ge) ]

  pub each_once : (things : List Cell) → Tiles s things → (k : ℕ) → owners s.unit things k + free_at s.parts k ≤ 1
  each_once = tiles_once

-- one of the first and one of the second share no block
pub both_apart : (unit : ℕ) (xs ys : List Cell) → 0 < unit → All (λ c. 1 ≤ c.len) xs → All (λ c. 1 ≤ c.len) ys → ((k : ℕ) → owners unit (xs ++ ys) k ≤ 1)
    → (i j : ℕ) (d e : Cell) → i < length xs → j < length ys → ShareNone unit (get_or ys j e) (get_or xs i d)
both_apart unit xs ys pos some_x some_y once i j d e lt_x lt_y =
    none_shared unit (get_or ys j e) (get_or xs i d) pos (some_y j e lt_y) (some_x i d lt_x)
    (λ k. omega (
      arith,
      once k,
      owners_append unit k xs ys,
      owners_within unit k i xs lt_x,
      owners_within unit k j ys lt_y,
      ap {B = ℕ} (λ x. cond (owns unit k x) 1 0) (get_or_default xs i no_cell d lt_x),
      ap {B = ℕ} (λ x. cond (owns unit k x) 1 0) (get_or_default ys j no_cell e lt_y),
    ))

-- no two of a list do
pub pairs_apart : (unit : ℕ) (xs : List Cell) → 0 < unit → All (λ c. 1 ≤ c.len) xs → ((k : ℕ) → owners unit xs k ≤ 1) → AllPairs (ShareNone unit) xs
pairs_apart unit [] pos some once = λ i j d lt inside. absurd (omega (arith, inside))
pairs_apart unit (x ∷ xs) pos some once = go (pairs_apart unit xs pos (tail_of (λ c. 1 ≤ c.len) x xs some) (λ k. omega (arith, once k, sum_by-cons (λ c. cond (owns unit k c) 1 0) x xs)))
  where
    go : AllPairs (ShareNone unit) xs → AllPairs (ShareNone unit) (x ∷ xs)
    go rest zero zero d lt inside = absurd (omega (arith, lt))
    go rest zero (suc j) d lt inside =
        none_shared unit x (get_or xs j d) pos (some 0 x (omega arith)) (some (suc j) d inside)
        (λ k. omega (arith, once k, sum_by-cons (λ c. cond (owns unit k c) 1 0) x xs, owners_within unit k j xs (omega (arith, inside)), ap {B = ℕ} (λ y. cond (owns unit k y) 1 0) (get_or_default xs j no_cell d (omega (arith, inside)))))
    go rest (suc i) zero d lt inside = absurd (omega (arith, lt))
    go rest (suc i) (suc j) d lt inside = rest i j d (omega (arith, lt)) (omega (arith, inside))

-- a file that ends behind a cell which owns its last block has that many blocks
pub blocks_reached : (unit end bytes : ℕ) (c : Cell) → 0 < unit → c.at < end → end ≤ c.at + blocks unit c.len → c.at * unit + c.len ≤ bytes → end ≤ blocks unit bytes
blocks_reached unit end bytes c pos starts reach within = elim (cases_lt (blocks unit bytes) end) [
  | inl short ↦
      let d : ℕ = end - c.at - 1 in
      let is : end ≡ c.at + (d + 1) = omega (arith, starts) in
      let far : (d + 1) * unit < c.len + unit = blocks_reach unit c.len (d + 1) pos (omega (arith, reach, is)) in
      let hold : bytes ≤ blocks unit bytes * unit = blocks_hold unit bytes pos in
      let less : blocks unit bytes * unit ≤ (c.at + d) * unit = mul-le-mul_right unit (omega (arith, short, is)) in
      absurd (omega (arith, far, hold, less, within))
  | inr enough ↦ enough
]
