use Rattle.std.proofs.Common.{◌≡◌, ◌+◌, ◌≤◌, drop}
use Rattle.oc_model.specs.Stores.{class_of}
use Rattle.oc_container.specs.Outlined.{session_listed}
use Rattle.oc_container.specs.Woken.{with_each_woken, HasMore}
use Rattle.oc_container.proofs.waking.wake_all.Given as goal

abbrev pub invariant-loop-number : goal.invariant-loop-number
invariant-loop-number l =
    record {
      woken : with_each_woken (class_of (session_listed l.store)) l.live (drop l.number-index l.numbers) ≡ with_each_woken (class_of (session_listed l.store)) l.fn.live l.numbers;
      next : l.live.next_handle ≤ l.fn.live.next_handle + l.number-index;
      more : HasMore l.fn.live l.live;
    }
