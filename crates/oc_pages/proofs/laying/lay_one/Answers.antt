use Rattle.std.proofs.Common.{rules, ◌≡◌, ◌⊎◌, inl, inr, ◌∙◌, ◌<◌, ◌≤◌, ◌^◌, ◌+◌, ◌-◌, ℕ, length, min, max, ap, arith}
use Rattle.std.proofs.lemmas.Bool.{cases_lt}
use Rattle.oc_host.specs.Disk.{Apart}
use Rattle.oc_log.specs.Log.{slice}
use Rattle.oc_pages.proofs.LaidCells.{laid_in, laid_out}
use Rattle.oc_pages.proofs.laying.lay_one.Goals as goal

-- a byte of the part is beside the cell, if the part has none of the cell's bytes
beside : (at n t k : ℕ) → min (t + 8) (at + n) ≤ max t at → at ≤ k → k < at + n → Apart k t 8
beside at n t k none ge lt = elim (cases_lt k t) [ inl before ↦ inl before | inr after ↦ inr (omega (arith, none, ge, lt, after)) ]

-- and if it is none of those that the part has
outside : (at n t start end k : ℕ) → start ≡ max t at → end ≡ min (t + 8) (at + n) → at ≤ k → k < at + n → (k < start) ⊎ (end ≤ k) → Apart k t 8
outside at n t start end k first last ge lt (inl before) = inl (omega (arith, first, before, ge))
outside at n t start end k first last ge lt (inr after) = inr (omega (arith, last, after, lt))

pub returns-then-start-end : goal.returns-then-start-end
returns-then-start-end c image within inside is =
    let at = c.args.at in
    let n = length c.args.bytes.now in
    let t = c.args.cell.target in
    let start = c.max-start.result in
    let end = c.min-end.result in
    let first : start ≡ max t at = search rules in
    let sum : c.saturating_add.result ≡ min (t + 8) (2 ^ 64 - 1) = search rules in
    let lesser : end ≡ min c.saturating_add.result (at + n) = search rules in
    let last : end ≡ min (t + 8) (at + n) = omega (arith, sum, lesser, c.requires) in
    let some : start < end = c.if-start-end.true in
    let from = start - t in
    let to = end - t in
    c.put.ensures
    ∙ laid_in at n t c.args.cell.cell image c.args.bytes.now within inside is (start - at) from to (slice from (to - from) c.write_cell.result) (ap (slice from (to - from)) c.write_cell.ensures)
    (omega (arith, first, some)) (omega (arith, last)) (omega (arith, first)) (omega (arith, first, last, some))
    (λ k ge lt away. outside at n t (t + from) (t + to) k (omega (arith, first)) (omega (arith, first, last, some)) ge lt away)

pub returns-else-start-end : goal.returns-else-start-end
returns-else-start-end c image within inside is =
    let at = c.args.at in
    let n = length c.args.bytes.now in
    let t = c.args.cell.target in
    let first : c.max-start.result ≡ max t at = search rules in
    let sum : c.saturating_add.result ≡ min (t + 8) (2 ^ 64 - 1) = search rules in
    let lesser : c.min-end.result ≡ min c.saturating_add.result (at + n) = search rules in
    let none : min (t + 8) (at + n) ≤ max t at = omega (arith, first, sum, lesser, c.requires, c.if-start-end.false) in
    laid_out at n t c.args.cell.cell image c.args.bytes.now within inside is (λ k ge lt. beside at n t k none ge lt)
