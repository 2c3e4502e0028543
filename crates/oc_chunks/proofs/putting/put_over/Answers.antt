use Rattle.std.proofs.Common.{subst}
use Rattle.oc_chunks.specs.Adding.{IsCutOver}
use Rattle.oc_chunks.proofs.Gaps.{piece_at}
use Rattle.oc_chunks.proofs.Swapping.{swapped, Swapped}
use Rattle.oc_chunks.proofs.putting.put_over.Goals as goal

put_is : (g : _) → (c : goal.In_ok-put_pieces g) → Swapped g.E.Entry.order g.met.E.Entry.total g.E.Entry.bytes g.E.Entry.MOST g.met.E.Entry.few c.args.entry c.args.pieces.now.items c.requires.sound c.args.found.piece c.args.found.at c.requires.here c.put_pieces.new.pieces.items
put_is g c =
    let pl = c.requires.here.place in
    let p = piece_at c.args.pieces.now.items pl.before pl.piece pl.after c.args.found.piece c.index.result.now pl.split pl.index c.index.ensures in
    let made = subst (λ q. IsCutOver g.E.Entry.bytes g.E.Entry.MOST c.args.found.at c.args.entry q.part c.in_ok-made.made.items) p c.in_ok-made.ensures in
    swapped g.E.Entry.order g.met.E.Entry.total g.E.Entry.bytes g.E.Entry.MOST g.met.E.Entry.few c.args.entry c.args.pieces.now.items c.requires.sound c.args.found.piece c.args.found.at c.requires.here c.in_ok-made.made.items c.put_pieces.new.pieces.items made c.in_ok-put_pieces.ensures.ok

pub returns-clause-sound : goal.returns-clause-sound
returns-clause-sound g c = (put_is g c).is_sound

pub returns-clause-ok : goal.returns-clause-ok
returns-clause-ok g c = (put_is g c).is_put
