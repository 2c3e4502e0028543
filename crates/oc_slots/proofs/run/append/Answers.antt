use Rattle.std.proofs.Common.{◌≡◌, ◌∙◌, inl, inr, [], ◌∷◌, ◌++◌, replicate, sym, ap, subst}
use Rattle.std.proofs.lemmas.List.{map-append}
use Rattle.oc_slots.specs.declared.run.Run.{Run}
use Rattle.oc_slots.specs.Pieces.{Piece, as_pieces, AreJoined}
use Rattle.oc_slots.proofs.Joins.{join_new, join_last}
use Rattle.oc_slots.proofs.run.append.Goals as goal

pub returns : goal.returns
returns c pieces joined =
    let p : Piece = record { at = c.args.at; bytes = replicate c.args.zeros 0 ++ c.args.bytes.now } in
    let run = c.run_to-run.result in
    let as_piece : Run → Piece = λ r. record { at = r.at; bytes = r.bytes.items } in
    let after : as_pieces c.push.new.self.items ≡ as_pieces c.run_to-run.new.runs.items ++ record { at = run.at; bytes = c.extend.new.run.items } ∷ [] =
    ap as_pieces c.in_ok-push.ensures.items ∙ map-append as_piece c.run_to-run.new.runs.items (record { at = run.at; bytes = c.extend.new.run } ∷ []) in
    subst (AreJoined (pieces ++ p ∷ [])) (sym after) (elim c.run_to-run.ensures [
      | inl last ↦
          let before : as_pieces c.args.runs.now.items ≡ as_pieces c.run_to-run.new.runs.items ++ as_piece run ∷ [] = ap as_pieces last.0 ∙ map-append as_piece c.run_to-run.new.runs.items (run ∷ []) in
          subst (λ l. AreJoined (pieces ++ p ∷ []) (as_pieces c.run_to-run.new.runs.items ++ record { at = run.at; bytes = l } ∷ [])) (sym c.in_ok-extend.ensures)
          (join_last pieces (as_pieces c.run_to-run.new.runs.items) (as_piece run) p (subst (AreJoined pieces) before joined) last.1)
      | inr new ↦
          let same : record { at = run.at; bytes = c.extend.new.run.items } ≡ p = λ i. record { at = new.1 i; bytes = (c.in_ok-extend.ensures ∙ ap (λ l. l ++ (replicate c.args.zeros 0 ++ c.args.bytes.now)) new.2) i } in
          subst (λ q. AreJoined (pieces ++ p ∷ []) (as_pieces c.run_to-run.new.runs.items ++ q ∷ [])) (sym same)
          (join_new pieces (as_pieces c.run_to-run.new.runs.items) p (subst (λ l. AreJoined pieces (as_pieces l)) (sym new.0) joined))
    ])
