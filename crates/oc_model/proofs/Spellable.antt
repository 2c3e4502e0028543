-- A record that suits a schema and isn't long can be spelled.
use Rattle.std.proofs.Common.{◌≡◌, refl, sym, ◌∙◌, subst, ℕ, zero, suc, ◌*◌, ◌^◌, ◌<◌, ◌≤◌, Bool, true, false, ◌&&◌, ◌==◌, nat_lt, nat_le, List, [], ◌∷◌, length, Some, None, is_some, slice_get, flat_map, arith, true≢false}
use Rattle.std.specs.Prelude.{if◌then◌else◌}
use Rattle.std.specs.List.{list_all, sum_by}
use Rattle.std.proofs.lemmas.Bool.{and_parts, and_from, ltb-true, leb-true, lt-ltb, le-leb, eqb-true}
use Rattle.std.proofs.lemmas.List.Folds.{list_all-append}
use Rattle.std.proofs.lemmas.List.Sums.{sum_by-cons}
use Rattle.oc_model.specs.declared.value.Base.{Base}
use Rattle.oc_model.specs.declared.value.Base.TheVariants as base
use Rattle.oc_model.specs.declared.value.Atom.{Atom}
use Rattle.oc_model.specs.declared.value.Atom.TheVariants as atom
use Rattle.oc_model.specs.declared.value.Value.{Value}
use Rattle.oc_model.specs.declared.value.Value.TheVariants as value
use Rattle.oc_model.specs.declared.value.Entry.{Entry}
use Rattle.oc_model.specs.declared.value.Rec.{Rec}
use Rattle.oc_model.specs.declared.schema.FieldDef.{FieldDef}
use Rattle.oc_model.specs.declared.schema.ClassDef.{ClassDef}
use Rattle.oc_model.specs.References.{refs_in, refs_in_atom}
use Rattle.oc_model.specs.Schemas.{Schema, class_at}
use Rattle.oc_model.specs.SchemaRules.{keeps_rules, all_fields}
use Rattle.oc_model.specs.Stores.{width_of, base_of, atom_len, value_len, entry_len, record_len}
use Rattle.oc_model.specs.Spelling.{is_small_atom, is_small, is_id, IsSpellable}
use Rattle.oc_model.specs.StoreRules.{known_fields, is_under, is_known, Suits}
use Rattle.oc_model.proofs.Elements.{all_pass, some_passes, weaker}
use Rattle.oc_model.proofs.Inherited.{known_in_all}
use Rattle.oc_model.proofs.Rules.{rules_kept, limits_kept}

abbrev is_object : ℕ → Bool
is_object n = nat_le n 2147483646

-- ---- values

small_atom : (b : Base) (a : Atom) → atom_len b a ≤ 262144 → list_all is_object (refs_in_atom a) ≡ true → is_small_atom a ≡ true
small_atom b (atom.Text (Some t)) len refs = lt-ltb (length t) (2 ^ 32) (omega arith)
small_atom b (atom.Text None) len refs = refl
small_atom b (atom.Bool x) len refs = refl
small_atom b (atom.Int n) len refs = refl
small_atom b (atom.Ref n) len refs =
    (elim (n == 0) as (λ t. (n == 0) ≡ t → list_all is_object (if t then [] else n ∷ []) ≡ true → nat_le n 2147483646 ≡ true) [
      | true ↦ λ z _. let q = eqb-true n 0 z in le-leb n 2147483646 (omega arith)
      | false ↦ λ _ r. (and_parts (is_object n) true r).0
    ]) refl refs

some_width : (b : Base) → 1 ≤ width_of b
some_width base.Bool = omega arith
some_width b = omega arith

some_byte : (b : Base) (a : Atom) → 1 ≤ atom_len b a
some_byte b (atom.Text (Some t)) = omega arith
some_byte b (atom.Text None) = omega arith
some_byte b (atom.Bool x) = some_width b
some_byte b (atom.Int n) = some_width b
some_byte b (atom.Ref n) = some_width b

items_small : (b : Base) (items : List Atom) → sum_by (atom_len b) items ≤ 262144 → list_all is_object (flat_map refs_in_atom items) ≡ true
    → (list_all is_small_atom items ≡ true) × (length items ≤ sum_by (atom_len b) items)
items_small b [] len refs = (refl, omega arith)
items_small b (a ∷ items) len refs =
    let sum = sum_by-cons (atom_len b) a items in
    let r = and_parts (list_all is_object (refs_in_atom a)) (list_all is_object (flat_map refs_in_atom items)) (sym (list_all-append is_object (refs_in_atom a) (flat_map refs_in_atom items)) ∙ refs) in
    let more = items_small b items (omega (arith, sum, len)) r.1 in
    let some = some_byte b a in
    let count = more.1 in
    (and_from _ _ (small_atom b a (omega (arith, sum, len)) r.0) more.0, omega (arith, sum, some, count))

small_value : (b : Base) (v : Value) → value_len b v ≤ 262144 → list_all is_object (refs_in v) ≡ true → is_small v ≡ true
small_value b (value.One a) len refs = small_atom b a len refs
small_value b (value.Many None) len refs = refl
small_value b (value.Many (Some items)) len refs =
    let r = items_small b items (omega (arith, len)) refs in
    let count = r.1 in
    and_from _ _ (lt-ltb (length items) (2 ^ 32) (omega (arith, len, count))) r.0

entries_small : (es : List Entry) → sum_by entry_len es ≤ 262144 → list_all is_object (flat_map (λ (e : Entry). refs_in e.value) es) ≡ true
    → (list_all (λ (e : Entry). is_small e.value) es ≡ true) × (length es * 5 ≤ sum_by entry_len es)
entries_small [] len refs = (refl, omega arith)
entries_small (e ∷ es) len refs =
    let sum = sum_by-cons entry_len e es in
    let r = and_parts (list_all is_object (refs_in e.value)) (list_all is_object (flat_map (λ (f : Entry). refs_in f.value) es)) (sym (list_all-append is_object (refs_in e.value) (flat_map (λ (f : Entry). refs_in f.value) es)) ∙ refs) in
    let more = entries_small es (omega (arith, sum, len)) r.1 in
    let count = more.1 in
    (and_from _ _ (small_value (base_of e.kind) e.value (omega (arith, sum, len)) r.0) more.0, omega (arith, sum, count))

-- ---- the class and the ids

is_there : (cs : List ClassDef) (i : ℕ) → is_some (slice_get cs i) ≡ true → i < length cs
is_there [] i h = absurd (true≢false (sym h))
is_there (c ∷ cs) zero h = omega arith
is_there (c ∷ cs) (suc i) h = let r = is_there cs i h in omega arith

class_id : (s : Schema) (c : ℕ) → length s.classes ≤ 65535 → is_some (class_at s c) ≡ true → is_id c ≡ true
class_id s zero few h = absurd (true≢false (sym h))
class_id s (suc i) few h = let r = is_there s.classes i h in and_from _ _ (le-leb 1 (suc i) (omega arith)) (lt-ltb (suc i) (2 ^ 32) (omega arith))

drawn_id : (id next : ℕ) → next ≤ 4294967295 → (nat_le 1 id && nat_lt id next) ≡ true → is_id id ≡ true
drawn_id id next few h =
    let r = and_parts (nat_le 1 id) (nat_lt id next) h in
    let below = ltb-true id next r.1 in
    and_from _ _ r.0 (lt-ltb id (2 ^ 32) (omega arith))

entry_id : (s : Schema) (c : ℕ) (e : Entry) → keeps_rules s ≡ true → is_known s c e ≡ true → is_id e.id ≡ true
entry_id s c e keeps h =
    let rules = rules_kept s keeps in
    let limits = limits_kept s rules.within in
    let g = some_passes (λ (f : FieldDef). is_under f e) (known_fields s c) h in
    let u = and_parts _ _ g.2 in
    let drawn = all_pass (λ (f : FieldDef). nat_le 1 f.id && nat_lt f.id s.next_field) g.0 (all_fields s) (and_parts (nat_le 1 s.next_field) _ rules.drawn).1 (known_in_all g.0 s c g.1) in
    subst (λ n. is_id n ≡ true) (eqb-true (g.0).id e.id u.0) (drawn_id (g.0).id s.next_field (leb-true s.next_field 4294967295 limits.ids) drawn)

-- ---- the record

pub suited_spellable : (s : Schema) (r : Rec) → keeps_rules s ≡ true → Suits s r → record_len r ≤ 262144 → list_all is_object (flat_map (λ (e : Entry). refs_in e.value) r.entries) ≡ true → IsSpellable r
suited_spellable s r keeps suits len refs =
    let rules = rules_kept s keeps in
    let limits = limits_kept s rules.within in
    let es = entries_small r.entries (omega (arith, len)) refs in
    let count = es.1 in
    record {
      class = class_id s r.class (leb-true (length s.classes) 65535 limits.classes) suits.class;
      few = le-leb (length r.entries) 65535 (omega (arith, len, count));
      ids = weaker (is_known s r.class) (λ e. is_id e.id) (λ e h. entry_id s r.class e keeps h) r.entries suits.known;
      fits = suits.fits;
      small = es.0;
    }
