use Rattle.std.proofs.Common.{ap, ◌∙◌, arith}
use Rattle.oc_live.specs.Memories.{Memory, back_to}
use Rattle.oc_container.proofs.making.make_given.Goals as goal

pub undo_to-requires-clause-from : goal.undo_to-requires-clause-from
undo_to-requires-clause-from c = (c.first_handle.result, c.wake_and_make.ensures.more.from c.first_handle.result c.first_handle.ensures, omega (arith, c.first_handle.ensures.order, c.next_handle-next.ensures))

pub returns-in-Ok-clause-settings : goal.returns-in-Ok-clause-settings
returns-in-Ok-clause-settings c = ap (λ (k : Memory). k.settings) (c.wake_and_make.ensures.more.back c.first_handle.result c.first_handle.ensures)

pub returns-in-Err-clause-settings : goal.returns-in-Err-clause-settings
returns-in-Err-clause-settings c = ap (λ (k : Memory). k.settings) (c.undo_to.ensures ∙ ap (back_to c.wake_and_make.new.live) c.next_handle-next.ensures ∙ c.wake_and_make.ensures.more.back c.first_handle.result c.first_handle.ensures)

pub returns-in-Err-clause-unchanged : goal.returns-in-Err-clause-unchanged
returns-in-Err-clause-unchanged c = c.undo_to.ensures ∙ ap (back_to c.wake_and_make.new.live) c.next_handle-next.ensures ∙ c.wake_and_make.ensures.more.back c.first_handle.result c.first_handle.ensures
