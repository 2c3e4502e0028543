use Rattle.std.proofs.Common.{◌∙◌, ap, ap₂, ◌++◌, ◌+◌, subst, sym, flat_map}
use Rattle.std.proofs.lemmas.List.{take_rest}
use Rattle.oc_chunks.specs.Ascending.{IsAscending}
use Rattle.oc_chunks.specs.Between.{entries_in}
use Rattle.oc_chunks.specs.Pieces.{present, shown}
use Rattle.oc_chunks.proofs.Looking.{back_is, rest_ascends, piece_rest_ascends}
use Rattle.oc_chunks.proofs.between.back_behind.Goals as goal

pub returns-clause-entries : goal.returns-clause-entries
returns-clause-entries g c =
    let found = c.locate-found in
    ap₂ (λ k l. k ++ entries_in l) (take_rest c.entries.result.now found.result.at) (take_rest c.args.pieces.now (found.result.piece + 1))
    ∙ back_is (g.C.Cut.side c.args.cut.now) c.args.pieces.now found.result.piece found.result.at found.ensures c.index-pieces-found.result c.index-pieces-found.is c.entries.result.now (c.entries.ensures ∙ ap (λ q. present q.part) (sym c.index-pieces-found.is))

pub returns-clause-first : goal.returns-clause-first
returns-clause-first g c =
    let found = c.locate-found in
    subst (IsAscending g.E.Entry.order) (sym (take_rest c.entries.result.now found.result.at)) (piece_rest_ascends (g.C.Cut.side c.args.cut.now) c.args.pieces.now found.result.piece found.result.at found.ensures g.E.Entry.order c.requires.ascending (g.met.C.Cut.parts c.args.cut.now) c.index-pieces-found.result c.index-pieces-found.is c.entries.result.now (c.entries.ensures ∙ ap (λ q. present q.part) (sym c.index-pieces-found.is)))

pub returns-clause-ascending : goal.returns-clause-ascending
returns-clause-ascending g c =
    let found = c.locate-found in
    subst (λ l. IsAscending g.E.Entry.order (flat_map shown l)) (sym (take_rest c.args.pieces.now (found.result.piece + 1))) (rest_ascends (g.C.Cut.side c.args.cut.now) c.args.pieces.now found.result.piece found.result.at found.ensures g.E.Entry.order c.requires.ascending)
