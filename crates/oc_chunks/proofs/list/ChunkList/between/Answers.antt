use Rattle.std.proofs.Common.{◌≡◌, ◌∙◌, ap, subst, filter, flat_map, IfOk}
use Rattle.oc_chunks.specs.Between.{is_between}
use Rattle.oc_chunks.proofs.Looking.{seen}
use Rattle.oc_chunks.proofs.list.ChunkList.between.Goals as goal

pub returns : goal.returns
returns g c = subst (λ l. IfOk c.slices.result (λ v. flat_map (λ s. s.now) v.items ≡ l)) (c.span_between.ensures.entries ∙ ap (filter (is_between (g.C.Cut.side c.args.low.now) (g.C.Cut.side c.args.high.now))) (seen g.E.Entry.order c.self.inside.pieces.items c.as_slice.result.now c.args.self.now c.as_slice.ensures.value c.self.view_is)) c.slices.ensures
