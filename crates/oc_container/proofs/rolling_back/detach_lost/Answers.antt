use Rattle.std.proofs.Common.{◌≡◌, is_some, ap, ◌∙◌, rules}
use Rattle.oc_model.specs.Nodes.{is_stored}
use Rattle.oc_live.specs.Memories.{Memory}
use Rattle.oc_slots.specs.declared.slot.Side.TheVariants.{Committed}
use Rattle.oc_store.specs.Filed.{class_on}
use Rattle.oc_store.proofs.Fetched.{class_shown}
use Rattle.oc_container.proofs.Steps.{stored_with_class}
use Rattle.oc_container.proofs.rolling_back.detach_lost.Goals as goal

pub returns-clause-memory : goal.returns-clause-memory
returns-clause-memory c = λ disk k s shows.
    c.keep_numbers.ensures (is_stored k) (λ n b lt post. let told : b ≡ is_some (class_on Committed c.args.store.now n) = search rules in told ∙ ap is_some (class_shown c.args.store.now disk k s shows Committed n) ∙ stored_with_class k n)

pub returns-clause-settings : goal.returns-clause-settings
returns-clause-settings c = ap (λ (m : Memory). m.settings) (c.keep_numbers.ensures (λ n. is_some (class_on Committed c.args.store.now n)) (λ n b lt post. search rules))
