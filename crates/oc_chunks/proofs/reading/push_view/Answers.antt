use Rattle.std.proofs.Common.{◌∙◌, ap, sym, ◌++◌, ◌∷◌, [], map, append-nil, arith}
use Rattle.std.proofs.lemmas.List.{map_push}
use Rattle.oc_chunks.specs.Reading.{chunk_of}
use Rattle.oc_chunks.proofs.Read.{no_chunk, the_chunk}
use Rattle.oc_chunks.proofs.reading.push_view.Goals as goal

pub returns : goal.returns
returns g c = ap (map chunk_of) c.in_ok-push.ensures.items ∙ map_push chunk_of c.args.views.now.items c.view_of.result ∙ ap (λ d. map chunk_of c.args.views.now.items ++ d ∷ []) c.view_of.ensures ∙ ap (λ l. map chunk_of c.args.views.now.items ++ l) (sym (the_chunk c.args.piece.now (omega arith) c.requires))

pub returns-then-piece-eq0 : goal.returns-then-piece-eq0
returns-then-piece-eq0 g c = sym (ap (λ l. map chunk_of c.args.views.now.items ++ l) (no_chunk c.args.piece.now c.if-piece-eq0.true) ∙ append-nil (map chunk_of c.args.views.now.items))
