-- A handle below the end is one of the row.
use Rattle.std.proofs.Common.{◌≡◌, inl, inr, ℕ, zero, suc, ◌<◌, ap, arith}
use Rattle.std.proofs.lemmas.Bool.{cases_lt}
use Rattle.oc_model.specs.declared.reach.Node.{Node}
use Rattle.oc_model.specs.declared.reach.Node.TheVariants as node
use Rattle.oc_model.specs.Lists.{IsOneOf}
use Rattle.bench_parts.specs.Rows.{row}

pub among : (n k : ℕ) → n < k → IsOneOf (node.Live n) (row k)
among n zero h = absurd (omega (arith, h))
among n (suc k) h = elim (cases_lt n k) [ inl lt ↦ inr (among n k lt) | inr ge ↦ let e : n ≡ k = omega (arith, h, ge) in inl (ap {B = Node} (λ i. node.Live i) e) ]
