use Rattle.std.proofs.Common.{rules}
use Rattle.std.proofs.lemmas.List.Sorted.{IsNonDecreasingBy-from_sort_by_key}
use Rattle.oc_layout.specs.declared.cells.Cell.{Cell}
use Rattle.oc_room.proofs.around.sort_by_address.Goals as goal

pub returns-clause-ascending : goal.returns-clause-ascending
returns-clause-ascending c = IsNonDecreasingBy-from_sort_by_key (λ (t : Cell). t.at) _ c.sort_unstable_by_key.ensures.sorted (λ a r q k. search rules)
