-- A schema where a class or a field has another name may follow.
use Rattle.std.proofs.Common.{◌≡◌, refl, sym, ◌∙◌, subst, ℕ, ◌-◌, true, false, not, ◌||◌, find, slice_set, Some, is_some}
use Rattle.std.specs.Prelude.{Ok, is_none}
use Rattle.std.proofs.lemmas.Bool.{not-true}
use Rattle.oc_model.specs.declared.answer.Word.TheVariants as word
use Rattle.oc_model.specs.declared.schema.FieldDef.{FieldDef}
use Rattle.oc_model.specs.declared.schema.ClassDef.{ClassDef}
use Rattle.oc_model.specs.Maps.{Text}
use Rattle.oc_model.specs.Refusals.{Checked, ◌>>=◌, ◌>>◌, unless, or_refuse}
use Rattle.oc_model.specs.Schemas.{Schema, class_at, class_named, current}
use Rattle.oc_model.specs.SchemaRules.{is_name, keeps_rules}
use Rattle.oc_model.specs.SchemaSteps.{is_called, own_field, is_taken_around, with_class_at, with_field, class_renamed, field_renamed}
use Rattle.oc_schema.specs.Drafts.{schema_of}
use Rattle.oc_refactor.specs.Fields.{named_at}
use Rattle.oc_refactor.proofs.FieldNames.{field_name_keeps, field_name_answered}
use Rattle.oc_refactor.proofs.FieldsMapped.{mapped}
use Rattle.oc_refactor.proofs.Indexing.{owned}
use Rattle.oc_refactor.proofs.OneField.{kept_at}
use Rattle.oc_refactor.proofs.Renaming.{renamed, renamed_keeps, renamed_told}
use Rattle.oc_lists.specs.Following.{MayFollow}
use Rattle.oc_following.proofs.Unrefused.{bound, behind, there, passed, none_there, named_class}
use Rattle.oc_following.proofs.Changing.{few_ids, mapped_grown, set_extends}
use Rattle.oc_following.proofs.Extending.{may_follow}

-- the schema that was answered is the one that is told
answered : {A : Type 0} (r : Checked A) (a b : A) → r ≡ Ok a → r ≡ Ok b → a ≡ b
answered r a b h k = cc

-- ---- a class

module _ (s t : Schema) (name to : Text) (rules : keeps_rules s ≡ true) (proper : is_name to ≡ true) where
  -- where the class and its number are known
  class_follows_at : (c : ℕ) (d : ClassDef) → class_named s name ≡ Some c → class_at s c ≡ Some d → is_some (class_named s to) ≡ false → class_renamed s name to ≡ Ok t → MayFollow s t
  class_follows_at c d named here free h =
      let u = schema_of (slice_set s.classes (c - 1) (renamed d to)) s.next_field in
      subst (MayFollow s) (answered (class_renamed s name to) u t (renamed_told s name to c d named free here) h)
      (may_follow s u rules
      (set_extends s c d (renamed d to) s.next_field here (record { parent = refl; fields = λ f i. (f, i, refl, refl) }))
      (renamed_keeps s c d to here rules (few_ids s rules) proper free))

  -- with another name for a class
  pub class_follows : class_renamed s name to ≡ Ok t → MayFollow s t
  unfolding class_renamed
  class_follows h =
      let last : ℕ → Checked Schema = λ c. unless (is_none (class_named s to)) word.Exists >> Ok (record s { classes = with_class_at s c (λ d. record d { name = to }) }) in
      let c = bound (or_refuse (class_named s name) word.Class) last t h in
      let u = behind (unless (is_none (class_named s to)) word.Exists) (Ok (record s { classes = with_class_at s c.0 (λ d. record d { name = to }) })) t c.2 in
      let named = there (class_named s name) word.Class c.0 c.1 in
      let d = named_class s name c.0 named in
      class_follows_at c.0 d.0 named d.1 (none_there (class_named s to) (passed _ word.Exists u.0 u.1)) h

-- ---- a field

module _ (s t : Schema) (class name to : Text) (rules : keeps_rules s ≡ true) (proper : is_name to ≡ true) where
  -- where the field and its class are known
  field_follows_at : (c : ℕ) (d : ClassDef) (f : FieldDef) → class_named s class ≡ Some c → class_at s c ≡ Some d → own_field s c name ≡ Some f
      → (is_some (own_field s c to) || is_taken_around s c to) ≡ false → field_renamed s class name to ≡ Ok t → MayFollow s t
  field_follows_at c d f named here found free h =
      let own : find (is_called name) (current d.fields) ≡ Some f = sym (owned s c d name here) ∙ found in
      let u = schema_of (slice_set s.classes (c - 1) (mapped (named_at f.id to) d)) s.next_field in
      subst (MayFollow s) (answered (field_renamed s class name to) u t (field_name_answered s c d name to f rules (few_ids s rules) here own proper free class named) h)
      (may_follow s u rules
      (set_extends s c d (mapped (named_at f.id to) d) s.next_field here
      (mapped_grown (named_at f.id to) (kept_at (λ (x : FieldDef). x.id) f.id (λ g. record g { name = to }) (λ x. refl)) (kept_at (λ (x : FieldDef). x.kind) f.id (λ g. record g { name = to }) (λ x. refl)) d))
      (field_name_keeps s c d name to f rules (few_ids s rules) here own proper free))

  -- with another name for a field
  pub field_follows : field_renamed s class name to ≡ Ok t → MayFollow s t
  unfolding field_renamed
  field_follows h =
      let last : ℕ → FieldDef → Checked Schema = λ c f. unless (not (is_some (own_field s c to) || is_taken_around s c to)) word.Exists >> Ok (with_field s f.id (λ g. record g { name = to })) in
      let c = bound (or_refuse (class_named s class) word.Class) (λ c. or_refuse (own_field s c name) word.Field >>= last c) t h in
      let f = bound (or_refuse (own_field s c.0 name) word.Field) (last c.0) t c.2 in
      let u = behind (unless (not (is_some (own_field s c.0 to) || is_taken_around s c.0 to)) word.Exists) (Ok (with_field s f.0.id (λ g. record g { name = to }))) t f.2 in
      let named = there (class_named s class) word.Class c.0 c.1 in
      let d = named_class s class c.0 named in
      field_follows_at c.0 d.0 f.0 named d.1 (there (own_field s c.0 name) word.Field f.0 f.1) (not-true _ (passed _ word.Exists u.0 u.1)) h
