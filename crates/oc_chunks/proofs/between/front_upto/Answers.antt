use Rattle.std.proofs.Common.{◌∙◌, ap, sym}
use Rattle.oc_chunks.specs.Pieces.{present}
use Rattle.oc_chunks.proofs.Looking.{front_is}
use Rattle.oc_chunks.proofs.between.front_upto.Goals as goal

pub returns-clause-entries : goal.returns-clause-entries
returns-clause-entries g c =
    let found = c.locate-found in
    front_is (g.C.Cut.side c.args.cut.now) c.args.pieces.now found.result.piece found.result.at found.ensures c.index-pieces-found.result c.index-pieces-found.is c.entries.result.now (c.entries.ensures ∙ ap (λ q. present q.part) (sym c.index-pieces-found.is))
