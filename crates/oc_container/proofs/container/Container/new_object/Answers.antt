use Rattle.std.proofs.Common.{◌≡◌, [], None, Some, refl, sym, ◌∙◌, subst}
use Rattle.oc_model.specs.declared.answer.Word.TheVariants as word
use Rattle.oc_model.specs.Schemas.{class_named}
use Rattle.oc_container.specs.Contained.{Contained, Holds}
use Rattle.oc_container.specs.Made.{IsChecked}
use Rattle.oc_container.specs.Outlined.{outlined}
use Rattle.oc_container.proofs.Checks.{all_taken}
use Rattle.oc_container.proofs.NewObjects.{held_still, held_with, is_made, named_by, no_class, not_taken, told_handle, told_refusal}
use Rattle.oc_container.proofs.container.Container.new_object.Goals as goal

pub returns-in_default-clause-told : goal.returns-in_default-clause-told
returns-in_default-clause-told c = λ disk m h.
    let v : Contained = record { store = c.self.inside.store; memory = c.self.inside.live } in
    let held : Holds v disk m = subst (λ (x : Contained). Holds x disk m) (sym c.self.view_is) h in
    let none : class_named ((v.store).session).schema c.args.class.now ≡ None = named_by _ _ _ _ _ c.schema-schema.ensures c.as_slice.ensures c.class_named.ensures.value ∙ c.in_default.is in
    told_refusal _ word.Class (no_class v disk m held c.args.class.now c.args.givens.now none)

pub returns-in_default-clause-step : goal.returns-in_default-clause-step
returns-in_default-clause-step c = λ disk m h.
    let v : Contained = record { store = c.self.inside.store; memory = c.self.inside.live } in
    let held : Holds v disk m = subst (λ (x : Contained). Holds x disk m) (sym c.self.view_is) h in
    let none : class_named ((v.store).session).schema c.args.class.now ≡ None = named_by _ _ _ _ _ c.schema-schema.ensures c.as_slice.ensures c.class_named.ensures.value ∙ c.in_default.is in
    held_still c.args.self.now c.args.self.now disk m _ word.Class h refl (no_class v disk m held c.args.class.now c.args.givens.now none)

pub returns-in-Err-clause-told : goal.returns-in-Err-clause-told
returns-in-Err-clause-told c = λ disk m h.
    let v : Contained = record { store = c.self.inside.store; memory = c.self.inside.live } in
    let held : Holds v disk m = subst (λ (x : Contained). Holds x disk m) (sym c.self.view_is) h in
    let known : class_named ((v.store).session).schema c.args.class.now ≡ Some c.in-Some.number = named_by _ _ _ _ _ c.schema-schema.ensures c.as_slice.ensures c.class_named.ensures.value ∙ c.in-Some.is in
    told_refusal _ c.in-Err.word (not_taken v disk m held c.args.class.now c.args.givens.now c.in-Some.number known c.in-Err.word (sym c.in-Err.is ∙ c.check.ensures))

pub returns-in-Err-clause-step : goal.returns-in-Err-clause-step
returns-in-Err-clause-step c = λ disk m h.
    let v : Contained = record { store = c.self.inside.store; memory = c.self.inside.live } in
    let held : Holds v disk m = subst (λ (x : Contained). Holds x disk m) (sym c.self.view_is) h in
    let known : class_named ((v.store).session).schema c.args.class.now ≡ Some c.in-Some.number = named_by _ _ _ _ _ c.schema-schema.ensures c.as_slice.ensures c.class_named.ensures.value ∙ c.in-Some.is in
    held_still c.args.self.now c.args.self.now disk m _ c.in-Err.word h refl (not_taken v disk m held c.args.class.now c.args.givens.now c.in-Some.number known c.in-Err.word (sym c.in-Err.is ∙ c.check.ensures))

pub make_given-requires-clause-checked : goal.make_given-requires-clause-checked
make_given-requires-clause-checked c = all_taken (outlined c.self.inside.store c.self.inside.live) c.in-Some.number [] c.args.givens.now (sym c.check.ensures ∙ c.in_default-check.is)

pub returns-clause-told : goal.returns-clause-told
returns-clause-told c = λ disk m h.
    let v : Contained = record { store = c.self.inside.store; memory = c.self.inside.live } in
    let held : Holds v disk m = subst (λ (x : Contained). Holds x disk m) (sym c.self.view_is) h in
    let known : class_named ((v.store).session).schema c.args.class.now ≡ Some c.in-Some.number = named_by _ _ _ _ _ c.schema-schema.ensures c.as_slice.ensures c.class_named.ensures.value ∙ c.in-Some.is in
    let taken : IsChecked (outlined v.store v.memory) c.in-Some.number c.args.givens.now = all_taken (outlined v.store v.memory) c.in-Some.number [] c.args.givens.now (sym c.check.ensures ∙ c.in_default-check.is) in
    told_handle m c.make_given.new.live c.in_ok-handle.handle _ (is_made v disk m held c.args.class.now c.args.givens.now c.in-Some.number known c.make_given.new.live c.in_ok-handle.handle taken c.in_ok-handle.ensures.made)

pub returns-clause-step : goal.returns-clause-step
returns-clause-step c = λ disk m h.
    let v : Contained = record { store = c.self.inside.store; memory = c.self.inside.live } in
    let held : Holds v disk m = subst (λ (x : Contained). Holds x disk m) (sym c.self.view_is) h in
    let known : class_named ((v.store).session).schema c.args.class.now ≡ Some c.in-Some.number = named_by _ _ _ _ _ c.schema-schema.ensures c.as_slice.ensures c.class_named.ensures.value ∙ c.in-Some.is in
    let taken : IsChecked (outlined v.store v.memory) c.in-Some.number c.args.givens.now = all_taken (outlined v.store v.memory) c.in-Some.number [] c.args.givens.now (sym c.check.ensures ∙ c.in_default-check.is) in
    held_with v _ disk m c.make_given.new.live c.in_ok-handle.handle _ held refl (is_made v disk m held c.args.class.now c.args.givens.now c.in-Some.number known c.make_given.new.live c.in_ok-handle.handle taken c.in_ok-handle.ensures.made)
