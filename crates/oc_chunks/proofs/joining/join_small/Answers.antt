use Rattle.std.proofs.Common.{refl, flat_map}
use Rattle.oc_chunks.specs.Pieces.{chunks_now}
use Rattle.oc_chunks.proofs.Joined.{joins_self}
use Rattle.oc_chunks.proofs.joining.join_small.Goals as goal

pub loop-at-init : goal.loop-at-init
loop-at-init g c = record { sound = c.requires; long = refl; marked = refl; joins = joins_self g.E.Entry.bytes g.E.Entry.MOST (flat_map chunks_now c.args.pieces.now.items); none = tt }
