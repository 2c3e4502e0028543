use Rattle.std.proofs.Common.{take}
use Rattle.oc_pages.proofs.Ordered.{IsOnce}
use Rattle.oc_pages.proofs.order.each_once.Given as goal

abbrev pub invariant-loop-number : goal.invariant-loop-number
invariant-loop-number l = IsOnce (take l.number-index l.numbers) l.once.items
