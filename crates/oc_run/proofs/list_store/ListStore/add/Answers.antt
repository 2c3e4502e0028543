-- The table has the new name too.
use Rattle.std.proofs.Common.{◌≡◌, sym, ◌∙◌, subst, length, None, ◌<◌, true, [], ◌∷◌, ◌++◌}
use Rattle.oc_model.specs.Schemas.{class_named}
use Rattle.oc_model.specs.SchemaRules.{is_within_limits}
use Rattle.oc_run.proofs.ListLemmas.{with_class_kept}
use Rattle.oc_run.proofs.list_store.ListStore.add.Goals as goal

pub invariant_of-self-2 : goal.invariant_of-self-2
invariant_of-self-2 c =
    let s = c.self.inside in
    let class = c.args.class in
    let was = sym c.self.view_is in
    let few = subst (λ m. length m.session.schema.classes < 65535) was c.requires.has_room in
    let free = subst (λ m. class_named m.session.schema class.name ≡ None) was c.requires.is_free in
    let within = subst (λ m. is_within_limits (record { classes = m.session.schema.classes ++ class ∷ []; next_field = c.args.next_field }) ≡ true) was c.requires.is_within in
    let number : c.len.result ≡ length s.classes.items = c.len.ensures ∙ s.classes.ok.0 in
    let name = c.in_ok-name.ensures.items ∙ c.as_slice.ensures in
    rw c.in_ok-push.ensures.items
    (with_class_kept s.classes.items s.next_field c.args.next_field s.records.items s.numbers c.insert.new.self class c.in_ok-name.name c.self.invariant few within c.requires.is_flat name free (rw number at c.in_default.ensures.updates))
