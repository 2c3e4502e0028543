use Rattle.std.proofs.Common.{◌∙◌, sym, subst, arith}
use Rattle.oc_chunks.specs.Ascending.{IsAscending}
use Rattle.oc_chunks.proofs.Opened.{Wrote, wrote_step, wrote_all, wrote_rest, settled_all_sound}
use Rattle.oc_chunks.proofs.Settled.{settled_thens, settled_shown}
use Rattle.oc_chunks.proofs.writing.set_written.Goals as goal

pub loop-at-preserved : goal.loop-at-preserved
loop-at-preserved g c =
    let inv = c.loop-at.invariant in
    let init = c.args.pieces.now.items in
    let at = c.loop-at.at in
    let w : Wrote g.E.Entry.order c.args.numbers.now init c.requires.settled c.loop-at.pieces.items c.loop-at.spare.now at = record { long = inv.long; rest = inv.rest; settled = inv.settled; entries = inv.entries; chunks = inv.chunks; left = inv.left } in
    let s = wrote_step g.E.Entry.order c.args.numbers.now init c.requires.settled c.loop-at.pieces.items c.loop-at.spare.now at w (omega arith) c.index_mut.result.now c.write_one-spare.new.piece c.index_mut.ensures.value c.write_one-spare.ensures.piece c.write_one-spare.result.now c.write_one-spare.ensures.rest in
    record { long = s.long; rest = s.rest; settled = s.settled; entries = s.entries; chunks = s.chunks; left = s.left }

pub returns-clause-sound : goal.returns-clause-sound
returns-clause-sound g c =
    let inv = c.loop-at.invariant in
    let init = c.args.pieces.now.items in
    let all = wrote_all g.E.Entry.order c.args.numbers.now init c.requires.settled c.loop-at.pieces.items c.loop-at.spare.now c.loop-at.at (record { long = inv.long; rest = inv.rest; settled = inv.settled; entries = inv.entries; chunks = inv.chunks; left = inv.left }) (omega arith) in
    settled_all_sound g.E.Entry.order c.loop-at.pieces.items all.0 (subst (IsAscending g.E.Entry.order) (sym (all.1 ∙ sym (settled_shown init c.requires.settled))) c.requires.sound.ascending)

pub returns-clause-marked : goal.returns-clause-marked
returns-clause-marked g c =
    let inv = c.loop-at.invariant in
    let init = c.args.pieces.now.items in
    let all = wrote_all g.E.Entry.order c.args.numbers.now init c.requires.settled c.loop-at.pieces.items c.loop-at.spare.now c.loop-at.at (record { long = inv.long; rest = inv.rest; settled = inv.settled; entries = inv.entries; chunks = inv.chunks; left = inv.left }) (omega arith) in
    settled_thens g.E.Entry.order c.loop-at.pieces.items all.0

pub returns-clause-settled : goal.returns-clause-settled
returns-clause-settled g c =
    let inv = c.loop-at.invariant in
    (wrote_all g.E.Entry.order c.args.numbers.now c.args.pieces.now.items c.requires.settled c.loop-at.pieces.items c.loop-at.spare.now c.loop-at.at (record { long = inv.long; rest = inv.rest; settled = inv.settled; entries = inv.entries; chunks = inv.chunks; left = inv.left }) (omega arith)).0

pub returns-clause-rest : goal.returns-clause-rest
returns-clause-rest g c =
    let inv = c.loop-at.invariant in
    wrote_rest g.E.Entry.order c.args.numbers.now c.args.pieces.now.items c.requires.settled c.loop-at.pieces.items c.loop-at.spare.now c.loop-at.at (record { long = inv.long; rest = inv.rest; settled = inv.settled; entries = inv.entries; chunks = inv.chunks; left = inv.left }) (omega arith)
