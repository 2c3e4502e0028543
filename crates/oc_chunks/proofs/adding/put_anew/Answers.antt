use Rattle.std.proofs.Common.{subst}
use Rattle.oc_chunks.specs.Adding.{IsCutOf}
use Rattle.oc_chunks.proofs.Gaps.{anew, piece_at, Comes}
use Rattle.oc_chunks.proofs.adding.put_anew.Goals as goal

came : (g : _) → (c : goal.In_ok-put_pieces g) → Comes g.E.Entry.order g.met.E.Entry.total g.E.Entry.bytes g.E.Entry.MOST g.met.E.Entry.few c.args.entry c.args.pieces.now.items c.requires.sound c.args.gap.piece c.args.gap.at c.requires.gap c.put_pieces.new.pieces.items
came g c =
    let gap = c.requires.gap in
    let p = piece_at c.args.pieces.now.items gap.before gap.piece gap.after c.args.gap.piece c.index.result.now gap.split gap.index c.index.ensures in
    let made = subst (λ q. IsCutOf g.E.Entry.bytes g.E.Entry.MOST c.args.gap.at c.args.entry q.part c.in_ok-made.made.items) p c.in_ok-made.ensures in
    anew g.E.Entry.order g.met.E.Entry.total g.E.Entry.bytes g.E.Entry.MOST g.met.E.Entry.few c.args.entry c.args.pieces.now.items c.requires.sound c.args.gap.piece c.args.gap.at gap c.in_ok-made.made.items c.put_pieces.new.pieces.items made c.in_ok-put_pieces.ensures.ok

pub returns-clause-sound : goal.returns-clause-sound
returns-clause-sound g c = (came g c).is_sound

pub returns-clause-ok : goal.returns-clause-ok
returns-clause-ok g c = (came g c).is_added
