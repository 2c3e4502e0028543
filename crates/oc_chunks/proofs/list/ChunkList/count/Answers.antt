use Rattle.std.proofs.Common.{◌∙◌, ap, filter, length, min, ◌^◌, ◌-◌}
use Rattle.oc_chunks.specs.Between.{is_between}
use Rattle.oc_chunks.proofs.Looking.{seen}
use Rattle.oc_chunks.proofs.list.ChunkList.count.Goals as goal

pub returns : goal.returns
returns g c = c.len_of.ensures ∙ ap (λ l. min (length l) (2 ^ 64 - 1)) (c.span_between.ensures.entries ∙ ap (filter (is_between (g.C.Cut.side c.args.low.now) (g.C.Cut.side c.args.high.now))) (seen g.E.Entry.order c.self.inside.pieces.items c.as_slice.result.now c.args.self.now c.as_slice.ensures.value c.self.view_is))
