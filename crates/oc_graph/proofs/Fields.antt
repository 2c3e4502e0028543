-- What the current fields name, by what stands under their ids.
use Rattle.std.proofs.Common.{◌≡◌, refl, sym, ap, ◌∙◌, ℕ, true, false, cond, ◌==◌, List, [], ◌∷◌, ◌++◌, map, find, Option, Some, None, option_map, is_some, unwrap_or}
use Rattle.std.specs.Prelude.{flat_map}
use Rattle.oc_model.specs.declared.value.Base.TheVariants as base
use Rattle.oc_model.specs.declared.value.Kind.{Kind}
use Rattle.oc_model.specs.declared.value.Kind.TheVariants as kind
use Rattle.oc_model.specs.declared.value.Entry.{Entry}
use Rattle.oc_model.specs.declared.value.Rec.{Rec}
use Rattle.oc_model.specs.declared.schema.ClassDef.{ClassDef}
use Rattle.oc_model.specs.declared.schema.FieldDef.{FieldDef}
use Rattle.oc_model.specs.Nodes.{named_in}
use Rattle.oc_model.specs.References.{refs_in}
use Rattle.oc_model.specs.Schemas.{Schema, fields_of}
use Rattle.oc_model.specs.Spelling.{record_bytes, IsSpellable}
use Rattle.oc_model.specs.Stores.{value_in}
use Rattle.oc_model.specs.Values.{default}
use Rattle.oc_graph.specs.Spelled.{named_of, under, Named}
use Rattle.oc_graph.proofs.Spelled.{named_in_entry, named_is}

-- a default names nothing
pub default_names : (k : Kind) → refs_in (default k) ≡ []
default_names (kind.One base.Bool) = refl
default_names (kind.One base.I8) = refl
default_names (kind.One base.I16) = refl
default_names (kind.One base.I32) = refl
default_names (kind.One base.I64) = refl
default_names (kind.One base.U64) = refl
default_names (kind.One base.I128) = refl
default_names (kind.One base.Text) = refl
default_names (kind.One base.Ref) = refl
default_names (kind.Many b) = refl

-- field by field
flat_mapped : {X Y Z : Type 0} (f : Y → List Z) (g : X → Y) (xs : List X) → flat_map f (map g xs) ≡ flat_map (λ x. f (g x)) xs
flat_mapped f g [] = refl
flat_mapped f g (x ∷ xs) = ap (λ zs. f (g x) ++ zs) (flat_mapped f g xs)

pub names_are : (s : Schema) (c : ℕ) (es : List Entry) → flat_map (λ (f : FieldDef). refs_in (value_in es f.id f.kind)) (fields_of s c) ≡ named_in s c es
unfolding named_in
names_are s c es = sym (flat_mapped refs_in (λ (f : FieldDef). value_in es f.id f.kind) (fields_of s c))

-- what the value of a field names stands under its id
value_under : (f : FieldDef) (es : List Entry) → under (map named_in_entry es) f ≡ refs_in (value_in es f.id f.kind)
value_under f [] = sym (default_names f.kind)
value_under f (e ∷ es) =
    elim (e.id == f.id) as (λ b. unwrap_or (option_map (λ (n : Named). n.1) (cond b (Some (named_in_entry e)) (find (λ (n : Named). n.0 == f.id) (map named_in_entry es)))) []
    ≡ refs_in (unwrap_or (option_map (λ (d : Entry). d.value) (cond b (Some e) (find (λ (d : Entry). d.id == f.id) es))) (default f.kind))) [
      | true ↦ refl
      | false ↦ value_under f es
    ]

-- what a record names, by its bytes
pub record_named : (s : Schema) (r : Rec) (b : List ℕ) → IsSpellable r → b ≡ record_bytes r → flat_map (under (named_of b)) (fields_of s r.class) ≡ named_in s r.class r.entries
record_named s r b spellable bytes =
    ap (λ (l : List Named). flat_map (under l) (fields_of s r.class)) (ap named_of bytes ∙ named_is r spellable)
    ∙ (λ i. flat_map (λ f. value_under f r.entries i) (fields_of s r.class))
    ∙ names_are s r.class r.entries

-- where no class is found, there is none
pub nothing_there : {X : Type 0} (found : Option X) (f : Option X → Option ClassDef) (p : Option ClassDef) → f None ≡ None → f found ≡ p → is_some found ≡ false → p ≡ None
nothing_there None f p none is h = sym is ∙ none
nothing_there (Some d) f p none is h = absurd (cc)
