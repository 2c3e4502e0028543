use Rattle.oc_chunks.proofs.Merged.{set_sized, set_merges}
use Rattle.oc_chunks.proofs.joining.join_two.Goals as goal

pub clear-requires-clause-sized : goal.clear-requires-clause-sized
clear-requires-clause-sized g c =
    set_sized g.E.Entry.order g.E.Entry.bytes g.E.Entry.MOST g.met.E.Entry.few c.args.pieces.now.items c.requires.sound c.args.first c.args.second c.requires.small
    c.index.result.now c.index-2.result.now c.index_mut.result.now c.stand_in.new.piece c.in_ok-joint.joint c.index.ensures c.index-2.ensures c.index_mut.ensures.value c.in_ok-joint.ensures c.stand_in.ensures

pub returns-clause-ok : goal.returns-clause-ok
returns-clause-ok g c =
    set_merges g.E.Entry.order g.E.Entry.bytes g.E.Entry.MOST g.met.E.Entry.few c.args.pieces.now.items c.requires.sound c.args.first c.args.second c.requires.small
    c.index.result.now c.index-2.result.now c.index_mut.result.now c.stand_in.new.piece c.in_ok-joint.joint c.index.ensures c.index-2.ensures c.index_mut.ensures.value c.in_ok-joint.ensures c.stand_in.ensures
    c.clear.new.pieces.items c.clear.ensures
