use Rattle.std.proofs.Common.{rules, ap, ◌∙◌}
use Rattle.oc_store.specs.Filed.{FiledStore}
use Rattle.oc_container.proofs.container.Container.attach.Goals as goal

pub returns-in_err-store-clause-no_map : goal.returns-in_err-store-clause-no_map
returns-in_err-store-clause-no_map g c = λ e t m gives. c.in_err-store.ensures.no_map (search rules) t m gives

pub returns-clause-stands : goal.returns-clause-stands
returns-clause-stands g c = λ t s st. c.begun.ensures.begins _ s (c.in_ok-store.ensures.stands t s st)

pub returns-clause-made : goal.returns-clause-made
returns-clause-made g c =
    λ t may. (ap (λ (v : FiledStore). (v.slots).header) c.begun.ensures.store ∙ (c.in_ok-store.ensures.made t may).0, c.begun.ensures.begins _ _ (c.in_ok-store.ensures.made t may).1)
