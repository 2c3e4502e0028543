-- Entries that can be spelled name objects by numbers that objects may have.
use Rattle.std.proofs.Common.{◌≡◌, refl, ◌∙◌, ◌^◌, Bool, true, false, ◌&&◌, ◌==◌, nat_lt, nat_le, List, [], ◌∷◌, length, Some, None, ℕ, flat_map}
use Rattle.std.specs.Prelude.{if◌then◌else◌}
use Rattle.std.specs.List.{list_all}
use Rattle.std.proofs.lemmas.Bool.{and_parts, and_from}
use Rattle.std.proofs.lemmas.List.Folds.{list_all-append}
use Rattle.oc_model.specs.declared.value.Atom.{Atom}
use Rattle.oc_model.specs.declared.value.Atom.TheVariants as atom
use Rattle.oc_model.specs.declared.value.Entry.{Entry}
use Rattle.oc_model.specs.declared.value.Value.{Value}
use Rattle.oc_model.specs.declared.value.Value.TheVariants as value
use Rattle.oc_model.specs.References.{refs_in, refs_in_atom}
use Rattle.oc_model.specs.Spelling.{is_small, is_small_atom}

-- a number that an object may have
abbrev is_object : ℕ → Bool
is_object n = nat_le n 2147483646

-- ---- the references of what is small are those of objects

of_atom : (a : Atom) → is_small_atom a ≡ true → list_all is_object (refs_in_atom a) ≡ true
of_atom (atom.Bool x) small = refl
of_atom (atom.Int n) small = refl
of_atom (atom.Text None) small = refl
of_atom (atom.Text (Some t)) small = refl
of_atom (atom.Ref n) small =
    elim (n == 0) as (λ t. list_all is_object (if t then [] else n ∷ []) ≡ true) [ true ↦ refl | false ↦ and_from (is_object n) true small refl ]

of_items : (items : List Atom) → list_all is_small_atom items ≡ true → list_all is_object (flat_map refs_in_atom items) ≡ true
of_items [] small = refl
of_items (a ∷ items) small =
    let parts = and_parts (is_small_atom a) (list_all is_small_atom items) small in
    list_all-append is_object (refs_in_atom a) (flat_map refs_in_atom items)
    ∙ and_from (list_all is_object (refs_in_atom a)) (list_all is_object (flat_map refs_in_atom items)) (of_atom a parts.0) (of_items items parts.1)

of_value : (v : Value) → is_small v ≡ true → list_all is_object (refs_in v) ≡ true
of_value (value.One a) small = of_atom a small
of_value (value.Many None) small = refl
of_value (value.Many (Some items)) small = of_items items (and_parts (nat_lt (length items) (2 ^ 32)) (list_all is_small_atom items) small).1

pub small_references : (es : List Entry) → list_all (λ (e : Entry). is_small e.value) es ≡ true → list_all is_object (flat_map (λ (e : Entry). refs_in e.value) es) ≡ true
small_references [] small = refl
small_references (e ∷ es) small =
    let parts = and_parts (is_small e.value) (list_all (λ (f : Entry). is_small f.value) es) small in
    list_all-append is_object (refs_in e.value) (flat_map (λ (f : Entry). refs_in f.value) es)
    ∙ and_from (list_all is_object (refs_in e.value)) (list_all is_object (flat_map (λ (f : Entry). refs_in f.value) es)) (of_value e.value parts.0) (small_references es parts.1)
