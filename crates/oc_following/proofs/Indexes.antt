-- A schema where a field gets an index or loses it may follow.
use Rattle.std.proofs.Common.{◌≡◌, refl, subst, ℕ, Bool, true, not, ◌&&◌, Some}
use Rattle.std.specs.Prelude.{Ok}
use Rattle.std.proofs.lemmas.Bool.{not-true}
use Rattle.oc_model.specs.declared.answer.Word.TheVariants as word
use Rattle.oc_model.specs.declared.schema.FieldDef.{FieldDef}
use Rattle.oc_model.specs.Kinds.{is_array}
use Rattle.oc_model.specs.Maps.{Text}
use Rattle.oc_model.specs.Refusals.{Checked, ◌>>=◌, ◌>>◌, unless, or_refuse}
use Rattle.oc_model.specs.Schemas.{Schema, class_named, field_named}
use Rattle.oc_model.specs.SchemaRules.{keeps_rules}
use Rattle.oc_model.specs.SchemaSteps.{with_field, index_set}
use Rattle.oc_model.proofs.Elements.{from_filter}
use Rattle.oc_model.proofs.Inherited.{named_is_one, current_in_all}
use Rattle.oc_refactor.proofs.Indexing.{indexed_keeps}
use Rattle.oc_refactor.proofs.OneField.{at_id, kept_at}
use Rattle.oc_refactor.proofs.Taken.{declares}
use Rattle.oc_lists.specs.Following.{MayFollow}
use Rattle.oc_following.proofs.Unrefused.{bound, behind, there, passed}
use Rattle.oc_following.proofs.Changing.{few_ids, mapped_extends}
use Rattle.oc_following.proofs.Extending.{may_follow}

module _ (s t : Schema) (class name : Text) (on : Bool) (rules : keeps_rules s ≡ true) where
  abbrev change : FieldDef → FieldDef
  change g = record g { indexed = on }

  -- where the field is known
  at_field : (c : ℕ) (f : FieldDef) → field_named s c name ≡ Some f → not (on && is_array f.kind) ≡ true → MayFollow s (with_field s f.id change)
  at_field c f found single =
      let i = named_is_one s c name f found in
      let w = declares s c f i in
      let now = (from_filter (λ (g : FieldDef). g.current) f w.class.fields w.own).1 in
      may_follow s (with_field s f.id change) rules
      (mapped_extends (at_id f.id change) (kept_at (λ (x : FieldDef). x.id) f.id change (λ x. refl)) (kept_at (λ (x : FieldDef). x.kind) f.id change (λ x. refl)) s)
      (indexed_keeps s f on rules (few_ids s rules) (current_in_all f s c i) now (not-true _ single))

  -- with an index for a field, or without it
  pub index_follows : index_set s class name on ≡ Ok t → MayFollow s t
  unfolding index_set
  index_follows h =
      let last : FieldDef → Checked Schema = λ f. unless (not (on && is_array f.kind)) word.Kind >> Ok (with_field s f.id change) in
      let c = bound (or_refuse (class_named s class) word.Class) (λ c. or_refuse (field_named s c name) word.Field >>= last) t h in
      let f = bound (or_refuse (field_named s c.0 name) word.Field) last t c.2 in
      let u = behind (unless (not (on && is_array f.0.kind)) word.Kind) (Ok (with_field s f.0.id change)) t f.2 in
      let is : with_field s f.0.id change ≡ t = (let q = u.2 in cc) in
      subst (MayFollow s) is (at_field c.0 f.0 (there (field_named s c.0 name) word.Field f.0 f.1) (passed _ word.Kind u.0 u.1))
