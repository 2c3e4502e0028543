use Rattle.std.proofs.Common.{◌≡◌, ◌∙◌, ◌≤◌, ◌<◌, ◌*◌, ◌-◌, ◌^◌, ◌%◌, ℕ, ap, arith}
use Rattle.std.proofs.Math.Nat.{mod-eq_of_lt, pow-le-pow_right}
use Rattle.oc_value.proofs.Signs.{halves}
use Rattle.oc_value.proofs.integers.half_of.Goals as goal

at_most : (w : ℕ) → w ≤ 16 → 2 ^ (8 * w - 1) ≤ 2 ^ 127
at_most w few = pow-le-pow_right {n = 2} (omega arith) {i = 8 * w - 1} {j = 127} (omega (arith, few))

whole : (w : ℕ) → w ≤ 16 → 1 * 2 ^ (8 * w - 1) % 340282366920938463463374607431768211456 ≡ 2 ^ (8 * w - 1)
whole w few =
    let one : 1 * 2 ^ (8 * w - 1) ≡ 2 ^ (8 * w - 1) = omega arith in
    let small : 2 ^ (8 * w - 1) < 340282366920938463463374607431768211456 = omega (arith, at_most w few) in
    ap (λ (n : ℕ). n % 340282366920938463463374607431768211456) one ∙ mod-eq_of_lt small

pub returns-clause-half : goal.returns-clause-half
returns-clause-half g c = let e = whole g.row.W c.requires.few in let h = halves g.row.W c.requires.some in omega (arith, e, h)

pub returns-clause-power : goal.returns-clause-power
returns-clause-power g c = whole g.row.W c.requires.few

pub returns-clause-small : goal.returns-clause-small
returns-clause-small g c = let e = whole g.row.W c.requires.few in let h = at_most g.row.W c.requires.few in omega (arith, e, h)
