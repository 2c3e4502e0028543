-- From blocks to bytes.
use Rattle.std.proofs.Common.{inl, inr, ℕ, ◌+◌, ◌-◌, ◌*◌, ◌<◌, ◌≤◌, arith}
use Rattle.std.proofs.Math.Nat.{le-div_iff_mul-le}
use Rattle.std.proofs.lemmas.Bool.{cases_lt}
use Rattle.oc_layout.specs.Layout.{blocks}

-- the blocks hold the bytes
pub blocks_hold : (unit n : ℕ) → 0 < unit → n ≤ blocks unit n * unit
blocks_hold unit n pos =
    let whole = blocks unit n in
    elim (cases_lt (whole * unit) n) [
      | inl short ↦
          let more : (whole + 1) * unit ≤ n + unit - 1 = omega (arith, short, pos) in
          let bigger = (le-div_iff_mul-le {k = unit} {x = whole + 1} {y = n + unit - 1} pos).1 more in
          absurd (omega (arith, bigger))
      | inr enough ↦ enough
    ]

-- a block that begins within them or at their end begins before a block more than the bytes
pub blocks_reach : (unit n at : ℕ) → 0 < unit → at ≤ blocks unit n → at * unit < n + unit
blocks_reach unit n at pos le = omega (arith, (le-div_iff_mul-le {k = unit} {x = at} {y = n + unit - 1} pos).0 le, pos)
