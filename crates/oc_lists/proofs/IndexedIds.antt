-- The ids of the indexed fields, each once, and in their order.
use Rattle.std.proofs.Common.{◌≡◌, ◌∙◌, ap, ap₂, sym, refl, inl, inr, ℕ, zero, suc, ◌+◌, ◌<◌, arith, length, drop, get_or, Bool, true, false, cond, not, nat_eq, ◌&&◌, ◌||◌, IsTrue, List, [], ◌∷◌, map, filter, Option, None, Some, nat_cmp}
use Rattle.std.specs.List.{list_all}
use Rattle.std.specs.Ordering.{is_lt}
use Rattle.std.proofs.lemmas.Bool.{and_from, and_parts}
use Rattle.std.proofs.lemmas.List.{drop_more}
use denote.Ref.{Bor}
use Rattle.oc_model.specs.declared.schema.FieldDef.{FieldDef}
use Rattle.oc_model.specs.Lists.{placed, sorted, IsOneOf}
use Rattle.oc_model.specs.Maps.{is_in}
use Rattle.oc_model.specs.SchemaRules.{all_fields, are_apart, keeps_rules}
use Rattle.oc_model.specs.Schemas.{Schema, fields_of}
use Rattle.oc_model.proofs.Elements.{from_filter, is_among, to_filter, to_map}
use Rattle.oc_model.proofs.Inherited.{current_in_all}
use Rattle.oc_model.proofs.Rules.{rules_kept}
use Rattle.oc_catalog.specs.Catalogs.{indexed_ids}
use Rattle.oc_index.specs.Fields.{FieldList}
use Rattle.oc_index.specs.Indexed.{StoreLists}
use Rattle.oc_lists.specs.Lists.{HasIndexes}
use Rattle.oc_lists.specs.Refiling.{indexed_for, indexed_in}
use Rattle.oc_lists.proofs.FieldWise.{turned}
use Rattle.oc_lists.proofs.PartOf.{part_apart, part_filter, part_map}

-- ---- numbers in order

or_turned : (a b c : Bool) → (a || (b || c)) ≡ (b || (a || c))
or_turned true true c = refl
or_turned true false c = refl
or_turned false b c = refl

pub in_placed : (n m : ℕ) (ns : List ℕ) → is_in (placed nat_cmp m ns) n ≡ (nat_eq n m || is_in ns n)
in_placed n m [] = refl
in_placed n m (k ∷ ns) =
    (elim (is_lt (nat_cmp k m)) as (λ b. is_in (cond b (k ∷ placed nat_cmp m ns) (m ∷ k ∷ ns)) n ≡ (nat_eq n m || (nat_eq n k || is_in ns n))) [
      | true ↦ ap (λ b. nat_eq n k || b) (in_placed n m ns) ∙ or_turned (nat_eq n k) (nat_eq n m) (is_in ns n)
      | false ↦ refl
    ])

pub in_sorted : (n : ℕ) (ns : List ℕ) → is_in (sorted nat_cmp ns) n ≡ is_in ns n
in_sorted n [] = refl
in_sorted n (m ∷ ns) = in_placed n m (sorted nat_cmp ns) ∙ ap (λ b. nat_eq n m || b) (in_sorted n ns)

and_turned : (a b c d : Bool) → (not (a || b) && (not c && d)) ≡ (not (a || c) && (not b && d))
and_turned true b c d = refl
and_turned false true true d = refl
and_turned false true false d = refl
and_turned false false true d = refl
and_turned false false false d = refl

apart_placed : (m : ℕ) (ns : List ℕ) → are_apart (placed nat_cmp m ns) ≡ (not (is_in ns m) && are_apart ns)
apart_placed m [] = refl
apart_placed m (k ∷ ns) =
    (elim (is_lt (nat_cmp k m)) as (λ b. are_apart (cond b (k ∷ placed nat_cmp m ns) (m ∷ k ∷ ns)) ≡ (not (nat_eq m k || is_in ns m) && (not (is_in ns k) && are_apart ns))) [
      | true ↦ ap₂ (λ a b. not a && b) (in_placed k m ns ∙ ap (λ b. b || is_in ns k) (turned k m)) (apart_placed m ns) ∙ and_turned (nat_eq m k) (is_in ns k) (is_in ns m) (are_apart ns)
      | false ↦ refl
    ])

apart_sorted : (ns : List ℕ) → are_apart (sorted nat_cmp ns) ≡ are_apart ns
apart_sorted [] = refl
apart_sorted (n ∷ ns) = apart_placed n (sorted nat_cmp ns) ∙ ap₂ (λ a b. not a && b) (in_sorted n ns) (apart_sorted ns)

-- ---- the indexes of a schema

-- no two indexed fields have one id
pub indexed_apart : (s : Schema) → keeps_rules s ≡ true → are_apart (indexed_ids s.classes) ≡ true
indexed_apart s keeps = part_apart (indexed_ids s.classes) (map (λ (f : FieldDef). f.id) (all_fields s)) (part_map (λ (f : FieldDef). f.id) (filter (λ (f : FieldDef). f.indexed) (all_fields s)) (all_fields s) (part_filter (λ (f : FieldDef). f.indexed) (all_fields s))) (rules_kept s keeps).ids

pub ids_apart : (s : Schema) (l : StoreLists) → keeps_rules s ≡ true → HasIndexes s l → IsTrue (are_apart (map (λ (f : ℕ × FieldList). f.0) l.fields))
ids_apart s l keeps h = ap are_apart h.ids ∙ apart_sorted (indexed_ids s.classes) ∙ indexed_apart s keeps

pub index_there : (s : Schema) (l : StoreLists) (f : FieldDef) → HasIndexes s l → IsOneOf f (all_fields s) → f.indexed ≡ true → IsTrue (is_in (map (λ (g : ℕ × FieldList). g.0) l.fields) f.id)
index_there s l f h one indexed =
    ap (λ ns. is_in ns f.id) h.ids ∙ in_sorted f.id (indexed_ids s.classes)
    ∙ is_among f.id (indexed_ids s.classes) (to_map (λ (g : FieldDef). g.id) f (filter (λ (g : FieldDef). g.indexed) (all_fields s)) (to_filter (λ (g : FieldDef). g.indexed) f (all_fields s) one indexed))

all_of : {X : Type 0} (p : X → Bool) (xs : List X) → ((x : X) → IsOneOf x xs → p x ≡ true) → list_all p xs ≡ true
all_of p [] h = refl
all_of p (x ∷ xs) h = and_from (p x) (list_all p xs) (h x (inl refl)) (all_of p xs (λ y m. h y (inr m)))

pub indexes_there : (s : Schema) (l : StoreLists) (class : Option ℕ) (fs : List FieldDef) → HasIndexes s l → fs ≡ indexed_for s class → IsTrue (list_all (λ f. is_in (map (λ (g : ℕ × FieldList). g.0) l.fields) f.id) fs)
indexes_there s l None fs h is = ap (list_all (λ (f : FieldDef). is_in (map (λ (g : ℕ × FieldList). g.0) l.fields) f.id)) is
indexes_there s l (Some class) fs h is =
    ap (list_all (λ (f : FieldDef). is_in (map (λ (g : ℕ × FieldList). g.0) l.fields) f.id)) is
    ∙ all_of (λ (f : FieldDef). is_in (map (λ (g : ℕ × FieldList). g.0) l.fields) f.id) (indexed_in s class) (λ f m.
    let b = from_filter (λ (g : FieldDef). g.indexed) f (fields_of s class) m in
    index_there s l f h (current_in_all f s class b.0) b.1)

-- what passes of all passes of the one at a place
pub passes_at : (p : FieldDef → Bool) (fs : List (Bor FieldDef)) (i : ℕ) (f : Bor FieldDef) → i < length fs → f ≡ get_or fs i f → list_all p (map (λ g. g.now) fs) ≡ true → p f.now ≡ true
passes_at p [] i f lt is h = absurd (omega arith)
passes_at p (g ∷ fs) zero f lt is h = ap (λ (b : Bor FieldDef). p b.now) is ∙ (and_parts (p g.now) (list_all p (map (λ g. g.now) fs)) h).0
passes_at p (g ∷ fs) (suc i) f lt is h = passes_at p fs i f (omega arith) is (and_parts (p g.now) (list_all p (map (λ g. g.now) fs)) h).1

pub at_turn : (fs : List (Bor FieldDef)) (i : ℕ) (f : Bor FieldDef) → i < length fs → f ≡ get_or fs i f → map (λ g. g.now) (drop i fs) ≡ f.now ∷ map (λ g. g.now) (drop (i + 1) fs)
at_turn fs i f lt is = ap (map (λ (g : Bor FieldDef). g.now)) (drop_more fs i f lt) ∙ ap (λ (g : Bor FieldDef). g.now ∷ map (λ (g : Bor FieldDef). g.now) (drop (i + 1) fs)) (sym is)

-- those of the fields that are among some ids
pub indexes_among : (s : Schema) (l : StoreLists) (class : ℕ) (ids : List ℕ) (fs : List FieldDef) → HasIndexes s l → fs ≡ filter (λ (f : FieldDef). is_in ids f.id) (indexed_in s class) → IsTrue (list_all (λ f. is_in (map (λ (g : ℕ × FieldList). g.0) l.fields) f.id) fs)
indexes_among s l class ids fs h is =
    ap (list_all (λ (f : FieldDef). is_in (map (λ (g : ℕ × FieldList). g.0) l.fields) f.id)) is
    ∙ all_of (λ (f : FieldDef). is_in (map (λ (g : ℕ × FieldList). g.0) l.fields) f.id) (filter (λ (f : FieldDef). is_in ids f.id) (indexed_in s class)) (λ f m.
    let a = from_filter (λ (g : FieldDef). is_in ids g.id) f (indexed_in s class) m in
    let b = from_filter (λ (g : FieldDef). g.indexed) f (fields_of s class) a.0 in
    index_there s l f h (current_in_all f s class b.0) b.1)
