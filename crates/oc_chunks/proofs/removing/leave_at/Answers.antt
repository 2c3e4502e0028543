use Rattle.std.proofs.Common.{◌∙◌, ap, ◌-◌}
use Rattle.oc_chunks.specs.Removing.{kept_behind, moved}
use Rattle.oc_chunks.proofs.Gaps.{piece_at}
use Rattle.oc_chunks.proofs.Gone.{sound_left, marked_same, chunks_left, was_there}
use Rattle.oc_chunks.proofs.removing.leave_at.Goals as goal

pub returns-clause-there : goal.returns-clause-there
returns-clause-there g c = was_there g.E.Entry.order g.met.E.Entry.total (g.C.Cut.side c.args.cut.now) (g.met.C.Cut.parts c.args.cut.now) c.args.pieces.now.items c.requires.sound c.args.found.piece c.args.found.at c.requires.here

pub returns-clause-sound : goal.returns-clause-sound
returns-clause-sound g c =
    let place = c.requires.here.place in
    let q = c.index_mut.result.now in
    let n = c.leave.new.piece in
    let a = c.args.found.at - 1 in
    let e = c.leave.ensures in
    let is = piece_at c.args.pieces.now.items place.before place.piece place.after c.args.found.piece q place.split place.index c.index_mut.ensures.value in
    sound_left g.E.Entry.order g.met.E.Entry.total (g.C.Cut.side c.args.cut.now) (g.met.C.Cut.parts c.args.cut.now) c.args.pieces.now.items c.requires.sound c.args.found.piece c.args.found.at c.requires.here n (e.items ∙ ap (λ r. kept_behind r.was n.part.len (moved a r.part)) is) (e.len ∙ ap (λ r. r.part.len) is) (e.number ∙ ap (λ r. r.part.number) is) (e.changed ∙ ap (λ r. r.part.changed) is) (e.was ∙ ap (λ r. r.was) is)

pub returns-clause-chunks : goal.returns-clause-chunks
returns-clause-chunks g c =
    let place = c.requires.here.place in
    let q = c.index_mut.result.now in
    let n = c.leave.new.piece in
    let a = c.args.found.at - 1 in
    let e = c.leave.ensures in
    let is = piece_at c.args.pieces.now.items place.before place.piece place.after c.args.found.piece q place.split place.index c.index_mut.ensures.value in
    chunks_left g.E.Entry.order g.met.E.Entry.total (g.C.Cut.side c.args.cut.now) (g.met.C.Cut.parts c.args.cut.now) c.args.pieces.now.items c.requires.sound c.args.found.piece c.args.found.at c.requires.here n (e.items ∙ ap (λ r. kept_behind r.was n.part.len (moved a r.part)) is) (e.len ∙ ap (λ r. r.part.len) is) (e.number ∙ ap (λ r. r.part.number) is) (e.changed ∙ ap (λ r. r.part.changed) is) (e.was ∙ ap (λ r. r.was) is)

pub returns-clause-marked : goal.returns-clause-marked
returns-clause-marked g c =
    let place = c.requires.here.place in
    let q = c.index_mut.result.now in
    let n = c.leave.new.piece in
    let a = c.args.found.at - 1 in
    let e = c.leave.ensures in
    let is = piece_at c.args.pieces.now.items place.before place.piece place.after c.args.found.piece q place.split place.index c.index_mut.ensures.value in
    marked_same g.E.Entry.order g.met.E.Entry.total (g.C.Cut.side c.args.cut.now) (g.met.C.Cut.parts c.args.cut.now) c.args.pieces.now.items c.requires.sound c.args.found.piece c.args.found.at c.requires.here n (e.items ∙ ap (λ r. kept_behind r.was n.part.len (moved a r.part)) is) (e.len ∙ ap (λ r. r.part.len) is) (e.number ∙ ap (λ r. r.part.number) is) (e.changed ∙ ap (λ r. r.part.changed) is) (e.was ∙ ap (λ r. r.was) is)
