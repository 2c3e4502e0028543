use Rattle.std.proofs.Common.{◌≡◌, ◌∙◌, ap, sym, subst, ◌<◌, ◌+◌, take, length, flat_map, arith}
use Rattle.std.proofs.lemmas.List.{take_all}
use Rattle.oc_chunks.specs.Ascending.{Each}
use Rattle.oc_chunks.specs.Pieces.{chunks_now}
use Rattle.oc_chunks.specs.Settling.{IsSettled, kept_chunks}
use Rattle.oc_chunks.proofs.Settled.{then_at, same_rest, settled_sound, settled_thens, Stepped, step_gone, step_kept}
use Rattle.oc_chunks.proofs.settling.settle.Goals.{then-settle_one, else-settle_one}
use Rattle.oc_chunks.proofs.settling.settle.Goals as goal

pub settle_one-requires-clause-ascending : goal.settle_one-requires-clause-ascending
settle_one-requires-clause-ascending g c =
    let inv = c.loop-at.invariant in
    let q = c.index_mut.result.now in
    then_at g.E.Entry.order c.args.pieces.now.items c.loop-at.at q (omega arith) (c.index_mut.ensures.value ∙ same_rest c.loop-at.pieces.items c.args.pieces.now.items c.loop-at.at q (omega arith) inv.rest) c.requires.marked

stepped : (g : _) → (c : goal.Joined-settle_one g) → Stepped g.E.Entry.order c.args.keep c.args.pieces.now.items c.if-settle_one.pieces.items c.if-settle_one.kept (c.loop-at.at + 1)
stepped g c =
    let inv = c.loop-at.invariant in
    let cmp = g.E.Entry.order in
    let ps = c.loop-at.pieces.items in
    let init = c.args.pieces.now.items in
    let at = c.loop-at.at in
    let kept = c.loop-at.kept in
    let old : Stepped cmp c.args.keep init ps kept at = record { behind = inv.behind; long = inv.long; rest = inv.rest; settled = inv.settled; chunks = inv.chunks } in
    let lt : at < length ps = omega arith in
    elim c.if-settle_one.branch [
      | then-settle_one w ↦ subst (λ k. Stepped cmp c.args.keep init c.if-settle_one.pieces.items k (at + 1)) (sym w.kept-is) (step_kept cmp c.args.keep init ps kept at old lt c.index_mut.result.now c.settle_one.new.piece c.index_mut.ensures.value (rw w.if-settle_one.true at c.settle_one.ensures.kept) c.if-settle_one.pieces.items (ap (λ v. v.items) w.pieces-is ∙ w.swap.ensures.items))
      | else-settle_one w ↦ subst (λ k. Stepped cmp c.args.keep init c.if-settle_one.pieces.items k (at + 1)) (sym w.kept-is) (subst (λ l. Stepped cmp c.args.keep init l kept (at + 1)) (sym (ap (λ v. v.items) w.pieces-is)) (step_gone cmp c.args.keep init ps kept at old lt c.index_mut.result.now c.settle_one.new.piece c.index_mut.ensures.value (c.settle_one.ensures.gone w.if-settle_one.false)))
    ]

pub loop-at-preserved : goal.loop-at-preserved
loop-at-preserved g c =
    let s = stepped g c in
    record { behind = s.behind; long = s.long; rest = s.rest; settled = s.settled; chunks = s.chunks }

pub returns-clause-sound : goal.returns-clause-sound
returns-clause-sound g c =
    let inv = c.loop-at.invariant in
    let init = c.args.pieces.now.items in
    let all : take c.loop-at.at init ≡ init = take_all c.loop-at.at init (omega arith) in
    settled_sound g.E.Entry.order c.args.keep init c.truncate.new.self.items c.requires (subst (Each IsSettled) (sym c.truncate.ensures.items) inv.settled) (ap (flat_map chunks_now) c.truncate.ensures.items ∙ inv.chunks ∙ ap (flat_map (kept_chunks g.E.Entry.order c.args.keep)) all)

pub returns-clause-marked : goal.returns-clause-marked
returns-clause-marked g c =
    let inv = c.loop-at.invariant in
    let init = c.args.pieces.now.items in
    let all : take c.loop-at.at init ≡ init = take_all c.loop-at.at init (omega arith) in
    settled_thens g.E.Entry.order c.truncate.new.self.items (subst (Each IsSettled) (sym c.truncate.ensures.items) inv.settled) ∙ ap (flat_map chunks_now) c.truncate.ensures.items ∙ inv.chunks ∙ ap (flat_map (kept_chunks g.E.Entry.order c.args.keep)) all
