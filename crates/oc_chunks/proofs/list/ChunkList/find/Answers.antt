use Rattle.std.proofs.Common.{◌∙◌, ap}
use Rattle.std.specs.List.{find}
use Rattle.oc_chunks.specs.Between.{is_at}
use Rattle.oc_chunks.proofs.Looking.{seen}
use Rattle.oc_chunks.proofs.list.ChunkList.find.Goals as goal

pub returns : goal.returns
returns g c = c.find.ensures ∙ ap (find (is_at (g.C.Cut.side c.args.cut.now))) (seen g.E.Entry.order c.self.inside.pieces.items c.as_slice.result.now c.args.self.now c.as_slice.ensures.value c.self.view_is)
