use Rattle.std.proofs.Common.{rules, take, sym, ◌∙◌}
use Rattle.oc_host.proofs.Giving.{drop-add}
use Rattle.oc_host.proofs.memory_source.MemSourceSource.read.Goals as goal

pub returns-clause-value : goal.returns-clause-value
returns-clause-value c =
    let begun = c.begin.new.self in
    let n = c.copy_start-count.result in
    λ told. sym c.begin.ensures.left ∙ drop-add begun.at n begun.bytes.items (take n c.copy_start-count.new.into) (search rules)
