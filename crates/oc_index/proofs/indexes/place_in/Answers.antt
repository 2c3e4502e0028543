use Rattle.std.proofs.Common.{◌∙◌, sym, arith}
use Rattle.oc_index.proofs.Slots.{place_at}
use Rattle.oc_index.proofs.indexes.place_in.Goals as goal

pub returns-then-is_here-clause-there : goal.returns-then-is_here-clause-there
returns-then-is_here-clause-there c = place_at c.args.id c.args.fields.now c.loop-at.at c.index-fields-at.result (omega arith) c.index-fields-at.is c.loop-at.invariant (sym c.is_here.ensures ∙ c.if-is_here.true)
