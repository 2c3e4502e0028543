use Rattle.std.proofs.Common.{◌≡◌, ◌+◌, ◌≤◌, List, refl, sym, ap, ◌∙◌, subst, arith}
use Rattle.oc_heap.specs.Heaps.{Objects, back_to as held_back_to}
use Rattle.oc_refs.specs.declared.table.Ref.{Ref}
use Rattle.oc_live.specs.Memories.{Memory, LiveFrom, back_to}
use Rattle.oc_live.specs.Joined.{memory_in, AreJoined}
use Rattle.oc_live.proofs.Undoing.{AreUndone, none_undone, one_undone, undone_joined, undone_seen, live_from, lower}
use Rattle.oc_live.proofs.live.LiveObjects.undo_to.Goals as goal

pub loop-undone-init : goal.loop-undone-init
loop-undone-init c = (refl, none_undone c.self.inside.heap c.self.inside.refs c.args.handle c.self.invariant)

pub loop-undone-preserved : goal.loop-undone-preserved
loop-undone-preserved c =
    let m = c.self.inside in (
      λ i. record (c.loop-undone.invariant.0 i) { refs = c.release.new.refs },
      subst (λ (k : List Ref). AreUndone m.heap m.refs k c.args.handle (c.loop-undone.undone + 1)) (sym c.release.ensures)
          (one_undone m.heap m.refs c.loop-undone.self-inside.refs c.args.handle c.loop-undone.undone c.loop-undone.invariant.1 c.loop-undone.auto.undone),
    )

pub undo_to-requires-clause-from : goal.undo_to-requires-clause-from
undo_to-requires-clause-from c =
    let m = c.self.inside in
    let low : m.heap.first ≤ c.args.handle = lower c.args.self.now c.requires.from.0 m.heap.first c.args.handle c.requires.from.1 (subst (λ (k : Memory). LiveFrom k m.heap.first) c.self.view_is (live_from m.heap m.refs m.names m.settings m.commits c.self.invariant.handles)) c.requires.from.2 c.requires.to in
    subst (λ (k : Objects). k.first ≤ c.args.handle) (λ i. (sym c.loop-undone.invariant.0 i).heap) low

pub undo_to-requires-clause-to : goal.undo_to-requires-clause-to
undo_to-requires-clause-to c =
    let m = c.self.inside in
    let high : c.args.handle ≤ m.heap.next = subst (λ (k : Memory). c.args.handle ≤ k.next_handle) (sym c.self.view_is) c.requires.to in
    subst (λ (k : Objects). c.args.handle ≤ k.next) (λ i. (sym c.loop-undone.invariant.0 i).heap) high

pub invariant_of-self : goal.invariant_of-self
invariant_of-self c =
    let m = c.self.inside in
    let low : m.heap.first ≤ c.args.handle = lower c.args.self.now c.requires.from.0 m.heap.first c.args.handle c.requires.from.1 (subst (λ (k : Memory). LiveFrom k m.heap.first) c.self.view_is (live_from m.heap m.refs m.names m.settings m.commits c.self.invariant.handles)) c.requires.from.2 c.requires.to in
    let high : c.args.handle ≤ m.heap.next = subst (λ (k : Memory). c.args.handle ≤ k.next_handle) (sym c.self.view_is) c.requires.to in
    let next : c.next-next.result ≡ m.heap.next = c.next-next.ensures.value in
    let all : c.loop-undone.undone ≡ m.heap.next = omega arith in
    let here : c.undo_to.new.self ≡ held_back_to m.heap c.args.handle = c.undo_to.ensures ∙ (λ i. held_back_to (c.loop-undone.invariant.0 i).heap c.args.handle) in
    subst (λ (k : Objects). AreJoined k c.loop-undone.self-inside.refs) (sym here)
    (undone_joined m.heap m.refs c.loop-undone.self-inside.refs c.args.handle c.loop-undone.undone c.loop-undone.invariant.1 all low high)

pub returns : goal.returns
returns c =
    let m = c.self.inside in
    let low : m.heap.first ≤ c.args.handle = lower c.args.self.now c.requires.from.0 m.heap.first c.args.handle c.requires.from.1 (subst (λ (k : Memory). LiveFrom k m.heap.first) c.self.view_is (live_from m.heap m.refs m.names m.settings m.commits c.self.invariant.handles)) c.requires.from.2 c.requires.to in
    let high : c.args.handle ≤ m.heap.next = subst (λ (k : Memory). c.args.handle ≤ k.next_handle) (sym c.self.view_is) c.requires.to in
    let next : c.next-next.result ≡ m.heap.next = c.next-next.ensures.value in
    let all : c.loop-undone.undone ≡ m.heap.next = omega arith in
    let here : c.undo_to.new.self ≡ held_back_to m.heap c.args.handle = c.undo_to.ensures ∙ (λ i. held_back_to (c.loop-undone.invariant.0 i).heap c.args.handle) in
    let same = c.loop-undone.invariant.0 in
    (λ i. memory_in (here i) c.loop-undone.self-inside.refs (same i).names (same i).settings (same i).commits)
    ∙ undone_seen m.heap m.refs c.loop-undone.self-inside.refs c.args.handle c.loop-undone.undone c.loop-undone.invariant.1 all low high m.names m.settings m.commits
    ∙ ap (λ (k : Memory). back_to k c.args.handle) c.self.view_is
