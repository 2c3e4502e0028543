use Rattle.std.proofs.Common.{rules, arith, ◌≡◌, ◌-◌, ℕ, leb, true, false}
use Rattle.std.specs.List.Sorted.{IsPartitionPoint}
use Rattle.std.proofs.lemmas.Fn.{always_returns_same}
use Rattle.oc_pages.proofs.CellPlaces.{far_first, none_among}
use Rattle.oc_pages.proofs.targets.is_cell.Goals as goal

pub returns-then-start-target-clause-no : goal.returns-then-start-target-clause-no
returns-then-start-target-clause-no c is =
    let starts = c.args.starts.now in
    let target = c.args.target in
    let facts = c.partition_point-first.ensures in
    let first = c.partition_point-first.result in
    let point : IsPartitionPoint (λ (s : ℕ). leb 1024 (target - s) ≡ true) (λ (s : ℕ). leb 1024 (target - s) ≡ false) starts first =
    facts.partitioned (λ s. leb 1024 (target - s)) (always_returns_same _ _ _ (λ a r f called. (search rules, search rules))) (far_first starts target c.requires) in
    none_among starts c.split_at.result.1.now target first c.requires facts.bound c.split_at.ensures.back point
    c.loop-start.start-index c.loop-start.invariant (λ lt. c.if-start-target.true)

pub returns-clause-no : goal.returns-clause-no
returns-clause-no c is =
    let starts = c.args.starts.now in
    let target = c.args.target in
    let facts = c.partition_point-first.ensures in
    let first = c.partition_point-first.result in
    let point : IsPartitionPoint (λ (s : ℕ). leb 1024 (target - s) ≡ true) (λ (s : ℕ). leb 1024 (target - s) ≡ false) starts first =
    facts.partitioned (λ s. leb 1024 (target - s)) (always_returns_same _ _ _ (λ a r f called. (search rules, search rules))) (far_first starts target c.requires) in
    none_among starts c.split_at.result.1.now target first c.requires facts.bound c.split_at.ensures.back point
    c.loop-start.start-index c.loop-start.invariant (λ lt. absurd (omega (arith, lt, c.loop-start-test.false)))
