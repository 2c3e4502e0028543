use Rattle.std.proofs.Common.{◌≡◌, ◌∷◌, ℕ, List, drop, get_or, length, sym, subst, ap, ◌∙◌, add-one, ◌+◌, ◌<◌, ◌≤◌, None, true, refl, arith}
use Rattle.std.proofs.Math.Seq.{drop-cons}
use Rattle.oc_store.specs.Numbering.{AreRising}
use Rattle.oc_live.specs.Memories.{handle_in, with_changed, Memory}
use Rattle.oc_container.specs.Enlisted.{enlisted, given}
use Rattle.oc_container.proofs.EnlistedNumbers.{are_unsaved, free_rest, unsaved_rest, AreUnsaved}
use Rattle.oc_container.proofs.enlisting.enlist_all.Goals as goal

-- those that are left: this one, and those behind it
rest : (hs : List ℕ) (i : ℕ) → i < length hs → drop i hs ≡ get_or hs i 0 ∷ drop (i + 1) hs
rest hs i lt = drop-cons hs i 0 lt ∙ (λ j. get_or hs i 0 ∷ drop (sym (add-one i) j) hs)

pub enlist-requires-clause-unsaved : goal.enlist-requires-clause-unsaved
enlist-requires-clause-unsaved c =
    (subst (AreUnsaved c.loop-handle.live) (rest c.args.handles.now c.loop-handle.handle-index c.loop-handle-test.true) c.loop-handle.invariant.2).0

pub loop-handle-preserved : goal.loop-handle-preserved
loop-handle-preserved c =
    let hs = c.args.handles.now in
    let i = c.loop-handle.handle-index in
    let k = c.loop-handle.live in
    let h = get_or hs i 0 in
    let n = c.loop-handle.number in
    let left = rest hs i c.loop-handle-test.true in
    let now : c.enlist.new.live ≡ with_changed k h (given n) = c.in_ok-enlist.ensures.ok in
    let rising = subst AreRising left c.loop-handle.invariant.3 in (
      omega (arith, c.loop-handle.invariant.0),
      ap (λ m. enlisted m (n + 1) (drop (i + 1) hs)) now ∙ sym (ap (enlisted k n) left) ∙ c.loop-handle.invariant.1,
      subst (λ m. AreUnsaved m (drop (i + 1) hs)) (sym now) (unsaved_rest k h (given n) (drop (i + 1) hs) rising.0 (subst (AreUnsaved k) left c.loop-handle.invariant.2).1),
      rising.1,
      subst (λ (m : Memory). (q : ℕ) → n + 1 ≤ q → handle_in m.live q ≡ None) (sym now) (free_rest k h n c.loop-handle.invariant.4),
    )

pub loop-handle-init : goal.loop-handle-init
loop-handle-init c =
    (omega arith, refl, are_unsaved c.args.live.now c.args.handles.now c.requires.unsaved, c.requires.rising, c.requires.free)
