use Rattle.std.proofs.Common.{◌∙◌, ◌+◌, ◌-◌, ◌*◌, max, List, [], ◌∷◌, ◌++◌, length, replicate, ap, subst, refl}
use Rattle.oc_slots.specs.Pieces.{Piece, as_pieces, piece_of, AreJoined}
use Rattle.oc_slots.proofs.Plans.{plan_last}
use Rattle.oc_slots.proofs.run.Planned.add.Goals as goal

pub returns : goal.returns
returns c len done is =
    let slot = c.args.slot.now in
    let joins : (pieces : List Piece) → AreJoined pieces (as_pieces c.args.self.now.runs.items) → AreJoined (pieces ++ piece_of c.args.unit c.args.self.now.end c.args.self.now.before slot ∷ []) (as_pieces c.append.new.runs.items) =
    λ pieces before. subst (λ p. AreJoined (pieces ++ p ∷ []) (as_pieces c.append.new.runs.items))
    (λ i. record { at = c.from-at.ensures.is i; bytes = replicate (slot.cell.at * c.args.unit - c.from-at.ensures.is i) 0 ++ c.as_slice-bytes.ensures i }) (c.in_ok-append.ensures pieces before) in
    plan_last c.args.unit len done slot c.args.self.now _ is joins
    (c.max-self.ensures ∙ ap (λ n. max c.args.self.now.end (slot.cell.at * c.args.unit + n)) (ap length c.as_slice-bytes.ensures)) refl
