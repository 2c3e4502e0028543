-- The test of equality of schemas decides equality, part by part.
use Rattle.std.proofs.Common.{◌≡◌, refl, sym, ap, ◌∙◌, subst, ℕ, ◌-◌, Bool, true, false, not, ◌==◌, nat_lt, if◌then◌else◌, T, arith}
use Rattle.std.proofs.lemmas.Bool.{and_parts, and_from}
use Rattle.std.proofs.lemmas.Bool.Decides.{nat_tests}
use lib.Pointwise.{pointwise_decides, bytes_decides}
use lib.Dec.{eqb→eq}
use Rattle.oc_model.specs.declared.value.Base.{Base}
use Rattle.oc_model.specs.declared.value.Base.TheVariants as base
use Rattle.oc_model.specs.declared.value.Kind.{Kind}
use Rattle.oc_model.specs.declared.value.Kind.TheVariants as kind
use Rattle.oc_model.specs.declared.schema.FieldDef.{FieldDef}
use Rattle.oc_model.specs.declared.schema.ClassDef.{ClassDef}
use Rattle.oc_model.specs.Maps.{Text, same}
use Rattle.oc_model.specs.Kinds.{kind_tag, same_kind}
use Rattle.oc_model.specs.Schemas.{Schema}
use Rattle.oc_model.specs.SchemaEquality.{same_flag, same_field, same_class, differs}

-- ---- numbers, kinds and flags

pub equal_numbers : (m n : ℕ) → (m == n) ≡ true → m ≡ n
equal_numbers m n h = eqb→eq m n (subst T (sym h) tt)

pub same_number : (n : ℕ) → (n == n) ≡ true
same_number n = grind (arith, nat_tests)

-- the base kind of a number
abbrev base_from : ℕ → Base
base_from n =
    if n == 1 then base.Bool
    else if n == 2 then base.I8
    else if n == 3 then base.I16
    else if n == 4 then base.I32
    else if n == 5 then base.I64
    else if n == 6 then base.Text
    else if n == 7 then base.Ref
    else if n == 8 then base.U64
    else base.I128

-- the kind of a number
abbrev kind_from : ℕ → Kind
kind_from n = if nat_lt n 17 then kind.One (base_from n) else kind.Many (base_from (n - 16))

kind_from_tag : (k : Kind) → kind_from (kind_tag k) ≡ k
kind_from_tag (kind.One base.Bool) = refl
kind_from_tag (kind.One base.I8) = refl
kind_from_tag (kind.One base.I16) = refl
kind_from_tag (kind.One base.I32) = refl
kind_from_tag (kind.One base.I64) = refl
kind_from_tag (kind.One base.Text) = refl
kind_from_tag (kind.One base.Ref) = refl
kind_from_tag (kind.One base.U64) = refl
kind_from_tag (kind.One base.I128) = refl
kind_from_tag (kind.Many base.Bool) = refl
kind_from_tag (kind.Many base.I8) = refl
kind_from_tag (kind.Many base.I16) = refl
kind_from_tag (kind.Many base.I32) = refl
kind_from_tag (kind.Many base.I64) = refl
kind_from_tag (kind.Many base.Text) = refl
kind_from_tag (kind.Many base.Ref) = refl
kind_from_tag (kind.Many base.U64) = refl
kind_from_tag (kind.Many base.I128) = refl

pub equal_kinds : (j k : Kind) → same_kind j k ≡ true → j ≡ k
equal_kinds j k h = sym (kind_from_tag j) ∙ ap kind_from (equal_numbers (kind_tag j) (kind_tag k) h) ∙ kind_from_tag k

pub equal_flags : (a b : Bool) → same_flag a b ≡ true → a ≡ b
equal_flags true b h = sym h
equal_flags false true h = h
equal_flags false false h = refl

pub same_flags : (a : Bool) → same_flag a a ≡ true
same_flags true = refl
same_flags false = refl

pub equal_texts : (t u : Text) → same t u ≡ true → t ≡ u
equal_texts t u = (bytes_decides t u).0

pub same_text : (t : Text) → same t t ≡ true
same_text t = (bytes_decides t t).1 refl

-- ---- fields, classes and schemas

equal_fields : (f g : FieldDef) → same_field f g ≡ true → f ≡ g
equal_fields f g h =
    let d = and_parts _ _ h in
    let c = and_parts _ _ d.0 in
    let b = and_parts _ _ c.0 in
    let a = and_parts _ _ b.0 in
    λ i. record {
      id = equal_numbers f.id g.id a.0 i;
      name = equal_texts f.name g.name a.1 i;
      kind = equal_kinds f.kind g.kind b.1 i;
      current = equal_flags f.current g.current c.1 i;
      indexed = equal_flags f.indexed g.indexed d.1 i;
    }

pub same_fields : (f : FieldDef) → same_field f f ≡ true
same_fields f =
    and_from _ _ (and_from _ _ (and_from _ _ (and_from _ _ (same_number f.id) (same_text f.name)) (same_number (kind_tag f.kind))) (same_flags f.current)) (same_flags f.indexed)

fields_decide : (f g : FieldDef) → (same_field f g ≡ true → f ≡ g) × (f ≡ g → same_field f g ≡ true)
fields_decide f g = (equal_fields f g, λ e. subst (λ h. same_field f h ≡ true) e (same_fields f))

equal_classes : (c d : ClassDef) → same_class c d ≡ true → c ≡ d
equal_classes c d h =
    let b = and_parts _ _ h in
    let a = and_parts _ _ b.0 in
    λ i. record {
      name = equal_texts c.name d.name a.0 i;
      parent = equal_numbers c.parent d.parent a.1 i;
      fields = (pointwise_decides fields_decide c.fields d.fields).0 b.1 i;
    }

same_classes : (c : ClassDef) → same_class c c ≡ true
same_classes c =
    and_from _ _ (and_from _ _ (same_text c.name) (same_number c.parent)) ((pointwise_decides fields_decide c.fields c.fields).1 refl)

classes_decide : (c d : ClassDef) → (same_class c d ≡ true → c ≡ d) × (c ≡ d → same_class c d ≡ true)
classes_decide c d = (equal_classes c d, λ e. subst (λ b. same_class c b ≡ true) e (same_classes c))

not_false : (b : Bool) → not b ≡ false → b ≡ true
not_false true h = refl
not_false false h = sym h

pub equal_schemas : (s t : Schema) → differs s t ≡ false → s ≡ t
unfolding differs
equal_schemas s t h =
    let a = and_parts _ _ (not_false _ h) in
    λ i. record {
      classes = (pointwise_decides classes_decide s.classes t.classes).0 a.0 i;
      next_field = equal_numbers s.next_field t.next_field a.1 i;
    }

same_schema : (s : Schema) → differs s s ≡ false
unfolding differs
same_schema s = ap not (and_from _ _ ((pointwise_decides classes_decide s.classes s.classes).1 refl) (same_number s.next_field))

pub equal_differ_not : (s t : Schema) → s ≡ t → differs s t ≡ false
equal_differ_not s t e = subst (λ u. differs s u ≡ false) e (same_schema s)
