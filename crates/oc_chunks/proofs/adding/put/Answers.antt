use Rattle.std.proofs.Common.{◌≡◌, ◌∙◌, ap, sym, subst, refl, ◌+◌, length, arith}
use Rattle.std.proofs.lemmas.Bool.Decides.{nat_tests}
use Rattle.oc_chunks.specs.Adding.{IsWithinWay}
use Rattle.oc_chunks.specs.Cutting.{IsWide}
use Rattle.oc_chunks.specs.Pieces.{present}
use Rattle.oc_chunks.proofs.Wide.{wide_present}
use Rattle.oc_chunks.proofs.Gaps.{piece_at, last_gap}
use Rattle.oc_chunks.proofs.adding.put.Goals as goal

pub way_into-requires-clause-wide : goal.way_into-requires-clause-wide
way_into-requires-clause-wide g c =
    let gap = c.requires.gap in
    let p = piece_at c.args.pieces.now.items gap.before gap.piece gap.after c.args.gap.piece c.index.result.now gap.split gap.index c.index.ensures in
    (c.requires.wide.0, subst (λ q. IsWide g.E.Entry.bytes c.args.widest (present q.part)) (sym p) (wide_present g.E.Entry.bytes c.args.widest c.args.pieces.now.items gap.before gap.piece gap.after gap.split c.requires.wide.1))

pub push_alone-requires-clause-last : goal.push_alone-requires-clause-last
push_alone-requires-clause-last g c =
    let gap = c.requires.gap in
    let ps = c.args.pieces.now in
    let p = piece_at ps.items gap.before gap.piece gap.after c.args.gap.piece c.index.result.now gap.split gap.index c.index.ensures in
    let way = c.in-Behind.ensures.behind refl in
    let last : c.args.gap.piece + 1 ≡ length ps.items = grind (arith, nat_tests, way.0, c.len.ensures, ps.ok.0) in
    last_gap g.E.Entry.order c.args.entry ps.items c.args.gap.piece c.args.gap.at gap last (way.1 ∙ ap (λ q. q.part.len) p) way.2

pub put_within-requires-clause-fits : goal.put_within-requires-clause-fits
put_within-requires-clause-fits g c =
    let gap = c.requires.gap in
    let p = piece_at c.args.pieces.now.items gap.before gap.piece gap.after c.args.gap.piece c.index.result.now gap.split gap.index c.index.ensures in
    record { gap = gap; way = subst (IsWithinWay g.E.Entry.bytes g.E.Entry.MOST c.args.entry) p (c.in-Within.ensures.within refl) }
