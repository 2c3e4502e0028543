use Rattle.std.proofs.Common.{rules, List, get_or, subst}
use Rattle.std.specs.Prelude.{All}
use Rattle.std.proofs.lemmas.List.{take_all}
use Rattle.std.proofs.lemmas.List.Elements.{All-more}
use Rattle.oc_layout.specs.declared.cells.CellWrite.{CellWrite}
use Rattle.oc_log.proofs.Touches.{none}
use Rattle.oc_pages.specs.Targets.{IsCellAmong}
use Rattle.oc_pages.proofs.targets.are_cells.Goals as goal

pub loop-write-preserved : goal.loop-write-preserved
unfolding none
loop-write-preserved c =
    let ws = c.args.writes.now in
    let k = c.loop-write.write-index in
    let here : IsCellAmong c.args.starts.now (get_or ws k none).target = search rules in
    All-more (λ w. IsCellAmong c.args.starts.now w.target) ws k none c.loop-write-test.true c.loop-write.invariant here

pub returns-clause-yes : goal.returns-clause-yes
returns-clause-yes c is =
    let ws = c.args.writes.now in
    subst (λ (l : List CellWrite). All (λ w. IsCellAmong c.args.starts.now w.target) l) (take_all c.loop-write.write-index ws c.loop-write-test.false) c.loop-write.invariant
