-- The front of the line is four pieces.
use Rattle.std.proofs.Common.{[], ◌∷◌, codes, decimal}
use Rattle.oc_generate.proofs.Scripts.{four_pieces}
use Rattle.oc_generate.proofs.put_reading_front.Goals as goal

pub returns : goal.returns
returns c =
    four_pieces c.args.script.now.items (codes "make Reading { car: ~") (decimal c.args.car) (codes ", value:") (32 ∷ []) _ _ _ _
    c.in_ok-extend_from_slice.ensures.items c.in_ok-put_number.ensures c.in_ok-extend_from_slice-2.ensures.items c.in_ok-push.ensures.items
