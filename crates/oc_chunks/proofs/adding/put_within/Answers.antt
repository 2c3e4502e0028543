use Rattle.std.proofs.Common.{◌∙◌, ap, refl, set}
use Rattle.oc_chunks.proofs.Gaps.{within, Comes, piece_at, view_set, sound_set, IsSame, on_err}
use Rattle.oc_chunks.proofs.adding.put_within.Goals as goal

same : (g : _) → (c : goal.After-from_residual g) → IsSame (record { part = c.enter.new.part; was = c.index_mut-piece.result.now.was }) c.requires.fits.gap.piece
same g c =
    let gap = c.requires.fits.gap in
    let p = piece_at c.args.pieces.now.items gap.before gap.piece gap.after c.args.gap.piece c.index_mut-piece.result.now gap.split gap.index c.index_mut-piece.ensures.value in
    record {
      items = c.in_err-enter.ensures.err.0 ∙ ap (λ q. q.part.items.items) p;
      len = c.in_err-enter.ensures.err.1 ∙ ap (λ q. q.part.len) p;
      number = c.in_err-enter.ensures.number ∙ ap (λ q. q.part.number) p;
      changed = c.in_err-enter.ensures.changed ∙ ap (λ q. q.part.changed) p;
      was = ap (λ q. q.was) p;
    }

pub returns-in_err-enter-clause-sound : goal.returns-in_err-enter-clause-sound
returns-in_err-enter-clause-sound g c =
    let gap = c.requires.fits.gap in
    sound_set g.E.Entry.order c.args.pieces.now.items gap.before gap.piece gap.after c.args.gap.piece gap.split gap.index (record { part = c.enter.new.part; was = c.index_mut-piece.result.now.was }) (same g c) c.requires.sound

pub returns-in_err-enter-clause-err : goal.returns-in_err-enter-clause-err
returns-in_err-enter-clause-err g c =
    let gap = c.requires.fits.gap in
    on_err c.from_residual.result (view_set g.E.Entry.order c.args.pieces.now.items gap.before gap.piece gap.after c.args.gap.piece gap.split gap.index (record { part = c.enter.new.part; was = c.index_mut-piece.result.now.was }) (same g c))

came : (g : _) → (c : goal.In_ok-enter g) → Comes g.E.Entry.order g.met.E.Entry.total g.E.Entry.bytes g.E.Entry.MOST g.met.E.Entry.few c.args.entry c.args.pieces.now.items c.requires.sound c.args.gap.piece c.args.gap.at c.requires.fits.gap (set c.args.pieces.now.items c.args.gap.piece (record { part = c.enter.new.part; was = c.index_mut-piece.result.now.was }))
came g c =
    let gap = c.requires.fits.gap in
    let p = piece_at c.args.pieces.now.items gap.before gap.piece gap.after c.args.gap.piece c.index_mut-piece.result.now gap.split gap.index c.index_mut-piece.ensures.value in
    let e = c.in_ok-enter.ensures in
    within g.E.Entry.order g.met.E.Entry.total g.E.Entry.bytes g.E.Entry.MOST g.met.E.Entry.few c.args.entry c.args.pieces.now.items c.requires.sound c.args.gap.piece c.args.gap.at gap c.index_mut-piece.result.now (record { part = c.enter.new.part; was = c.index_mut-piece.result.now.was }) p c.requires.fits.way e.ok e.len e.number e.changed refl

pub returns-clause-sound : goal.returns-clause-sound
returns-clause-sound g c = (came g c).is_sound

pub returns-clause-ok : goal.returns-clause-ok
returns-clause-ok g c = (came g c).is_added
