use Rattle.std.proofs.Common.{◌≡◌, false, if◌then◌else◌, ap, sym, ◌∙◌}
use Rattle.oc_model.specs.Nodes.{is_stored}
use Rattle.oc_model.specs.SchemaEquality.{differs}
use Rattle.oc_machine.specs.CommitLines.{settings_in}
use Rattle.oc_live.specs.Kept.{with_kept}
use Rattle.oc_live.specs.Memories.{cleared}
use Rattle.oc_container.proofs.Steps.{schemas_differ}
use Rattle.oc_container.proofs.rolling_back.forget_lost.Goals as goal

pub returns-else-differ-clause-memory : goal.returns-else-differ-clause-memory
returns-else-differ-clause-memory c = λ disk k s shows.
    let old = c.args.live.now in
    let e : differs s.schema k.schema ≡ false = schemas_differ c.args.store.now disk k s _ _ _ shows c.schema.ensures c.schema-committed.ensures c.differ.ensures ∙ c.if-differ.false in
    c.detach_lost.ensures.memory disk k s shows ∙ ap (λ b. if b then record (cleared old) { settings = settings_in k.schema old.settings } else with_kept (is_stored k) old) (sym e)
