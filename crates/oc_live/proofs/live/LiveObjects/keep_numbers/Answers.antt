use Rattle.std.proofs.Common.{◌≡◌, ◌≤◌, ◌<◌, cond, ap, ◌∙◌, arith}
use Rattle.oc_model.specs.Maps.{at}
use Rattle.oc_machine.specs.Memory.{number_at, detached}
use Rattle.oc_live.specs.Memories.{Memory, with_changed}
use Rattle.oc_live.specs.Kept.{is_lost}
use Rattle.oc_live.proofs.Keeping.{with_kept_below, none_settled, one_settled, all_settled}
use Rattle.oc_live.proofs.live.LiveObjects.keep_numbers.Goals as goal

pub loop-handle-init : goal.loop-handle-init
loop-handle-init g c = λ kept tells. none_settled kept c.args.self.now c.first_handle-first.result c.first_handle-first.ensures

pub loop-handle-preserved : goal.loop-handle-preserved
loop-handle-preserved g c = λ kept tells.
    let next : c.next_handle-next.result ≡ c.args.self.now.next_handle = c.next_handle-next.ensures in
    let more : c.loop-handle.handle < c.args.self.now.next_handle = omega arith in
    c.keep_number.ensures kept tells
    ∙ ap (λ (m : Memory). cond (is_lost kept (number_at (at m.live c.loop-handle.handle))) (with_changed m c.loop-handle.handle detached) m) (c.loop-handle.invariant kept tells)
    ∙ one_settled kept c.args.self.now c.first_handle-first.result c.loop-handle.handle c.first_handle-first.ensures c.loop-handle.auto.handle more

pub returns : goal.returns
returns g c = λ kept tells.
    let next : c.next_handle-next.result ≡ c.args.self.now.next_handle = c.next_handle-next.ensures in
    let order : c.first_handle-first.result ≤ c.args.self.now.next_handle = c.first_handle-first.ensures.order in
    let ends : c.loop-handle.handle ≡ c.args.self.now.next_handle = omega arith in
    c.loop-handle.invariant kept tells
    ∙ ap (λ h. with_kept_below kept h c.args.self.now) ends
    ∙ all_settled kept c.args.self.now c.first_handle-first.result c.first_handle-first.ensures
