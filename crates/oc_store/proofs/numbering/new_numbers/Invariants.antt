use Rattle.oc_store.specs.Numbering.{SplitAt}
use Rattle.oc_store.proofs.FreeNumbers.{AreFree}
use Rattle.oc_store.proofs.numbering.new_numbers.Given as goal

abbrev pub invariant-loop-number : goal.invariant-loop-number
invariant-loop-number l = AreFree l.used l.count l.number l.numbers.items × SplitAt l.used l.number l.place
