use Rattle.std.proofs.Common.{◌∙◌, ap, sym, arith}
use Rattle.std.specs.Ordering.{is_lt}
use Rattle.std.proofs.lemmas.Bool.{false≢true}
use Rattle.oc_chunks.proofs.Opened.{ascends_more, not_below, less_is}
use Rattle.oc_chunks.proofs.opening.ascends.Goals as goal

pub loop-at-preserved : goal.loop-at-preserved
loop-at-preserved g c = ascends_more g.E.Entry.order g.met.E.Entry.total c.args.entries.now c.loop-at.at c.index-entries-at.result c.index-entries-at-in-loop-at.result (omega arith) (omega arith) c.index-entries-at.is c.index-entries-at-in-loop-at.is c.loop-at.invariant (less_is _ (ap is_lt (sym c.compare.ensures) ∙ sym c.is_lt.ensures ∙ c.if-not-is_lt.false))

pub returns-then-not-is_lt-clause-no : goal.returns-then-not-is_lt-clause-no
returns-then-not-is_lt-clause-no g c a = false≢true (sym c.if-not-is_lt.true ∙ c.is_lt.ensures ∙ ap is_lt c.compare.ensures ∙ ap is_lt (not_below g.E.Entry.order g.met.E.Entry.total c.args.entries.now c.loop-at.at c.index-entries-at.result c.index-entries-at-in-loop-at.result (omega arith) (omega arith) c.index-entries-at.is c.index-entries-at-in-loop-at.is a))
