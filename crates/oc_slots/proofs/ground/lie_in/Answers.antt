use Rattle.std.proofs.Common.{rules, List, get_or, subst}
use Rattle.std.specs.Prelude.{All}
use Rattle.std.proofs.lemmas.List.{take_all}
use Rattle.std.proofs.lemmas.List.Elements.{All-more}
use Rattle.oc_layout.specs.declared.cells.Cell.{Cell}
use Rattle.oc_room.proofs.Counting.{no_cell}
use Rattle.oc_slots.specs.Forms.{LiesIn}
use Rattle.oc_slots.proofs.ground.lie_in.Goals as goal

pub loop-thing-preserved : goal.loop-thing-preserved
loop-thing-preserved c =
    let here : LiesIn c.args.unit c.args.len (get_or c.args.things.now c.loop-thing.thing-index no_cell) = c.if-not-lies_in.ensures.yes (search rules) in
    All-more (LiesIn c.args.unit c.args.len) c.args.things.now c.loop-thing.thing-index no_cell c.loop-thing-test.true c.loop-thing.invariant here

pub returns-clause-yes : goal.returns-clause-yes
returns-clause-yes c is = subst (λ (l : List Cell). All (LiesIn c.args.unit c.args.len) l) (take_all c.loop-thing.thing-index c.args.things.now c.loop-thing-test.false) c.loop-thing.invariant
