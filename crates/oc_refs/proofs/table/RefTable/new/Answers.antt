use Rattle.oc_refs.proofs.Tables.{none_listed, none_agree}
use Rattle.oc_refs.proofs.table.RefTable.new.Goals as goal

pub invariant_of-result : goal.invariant_of-result
invariant_of-result c = none_agree c.new.result.entries c.new-2.result.entries c.new.ensures.empty c.new-2.ensures.empty

pub returns : goal.returns
returns c = none_listed c.new.result.entries c.new.ensures.empty
