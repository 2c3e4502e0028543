use Rattle.std.proofs.Common.{take}
use Rattle.oc_chunks.specs.Ascending.{Each}
use Rattle.oc_model.specs.Lists.{IsOneOf}
use Rattle.oc_store.proofs.last.stand_in_order.Given as goal

-- those so far are found
abbrev pub invariant-loop-number : goal.invariant-loop-number
invariant-loop-number l = Each (λ n. IsOneOf n l.others) (take l.number-index l.numbers)
