use Rattle.std.proofs.Common.{sym, ap, ◌∙◌, subst}
use Rattle.oc_live.specs.Memories.{Memory, cleared, with_classes_to}
use Rattle.oc_container.specs.Contained.{AreOfClasses}
use Rattle.oc_container.proofs.ClassSettings.{settings_alike, still_of_classes}
use Rattle.oc_container.proofs.rolling_back.forget_all.Goals as goal

pub returns-clause-memory : goal.returns-clause-memory
returns-clause-memory c =
    let old = c.args.live.now in
    c.drop_classes_above.ensures
    ∙ ap (λ (m : Memory). record m { settings = with_classes_to m.settings c.len.result }) c.clear.ensures
    ∙ ap (λ n. record (cleared old) { settings = with_classes_to old.settings n }) c.len.ensures
    ∙ ap (λ s. record (cleared old) { settings = s }) (sym (settings_alike c.args.schema.now old.settings c.requires))

pub returns-clause-classes : goal.returns-clause-classes
returns-clause-classes c =
    let old = c.args.live.now in
    subst (λ (m : Memory). AreOfClasses m.settings)
    (sym (c.drop_classes_above.ensures ∙ ap (λ (m : Memory). record m { settings = with_classes_to m.settings c.len.result }) c.clear.ensures))
    (still_of_classes old.settings c.len.result c.requires)
