-- The bytes of a catalog tell what they spell.
use Rattle.std.proofs.Common.{◌≡◌, refl, sym, ap, ◌∙◌, ℕ, ◌+◌, ◌^◌, ◌<◌, ◌≤◌, Bool, true, false, ◌&&◌, ◌||◌, ◌==◌, nat_lt, nat_le, IsTrue, List, [], ◌∷◌, ◌++◌, length, arith, append_assoc}
use Rattle.std.specs.Prelude.{flat_map, if◌then◌else◌}
use Rattle.std.specs.List.{list_all, enumerate_from}
use Rattle.std.specs.Int.{w16, w32, to_be_bytes}
use Rattle.std.proofs.lemmas.Bool.{and_parts, and_from, ltb-true, leb-true, lt-ltb}
use Rattle.std.proofs.lemmas.List.Folds.{list_all-append}
use Rattle.oc_model.specs.declared.schema.FieldDef.{FieldDef}
use Rattle.oc_model.specs.declared.schema.ClassDef.{ClassDef}
use Rattle.oc_model.specs.Kinds.{kind_tag}
use Rattle.oc_model.specs.Schemas.{Schema}
use Rattle.oc_model.specs.SchemaRules.{keeps_rules, all_fields}
use Rattle.oc_model.specs.Spelling.{Tells, counted, name_bytes, field_flags, field_bytes, class_bytes, list_bytes, catalog_bytes, is_word, is_list, IsCatalog}
use Rattle.oc_model.proofs.Elements.{weaker}
use Rattle.oc_model.proofs.Fronts.{first_same, rest_same, fronts_same, word_same, short_same}
use Rattle.oc_model.proofs.Rules.{rules_kept, limits_kept}
use Rattle.oc_model.proofs.Told.{all_both, counted_told, kind_told}

-- ---- names, fields and classes

pub name_told : (t u rest more : List ℕ) → name_bytes t ++ rest ≡ name_bytes u ++ more → (t ≡ u) × (rest ≡ more)
name_told t u rest more e = fronts_same t u rest more (first_same (length t) (length u) (t ++ rest) (u ++ more) e) (rest_same (length t) (length u) (t ++ rest) (u ++ more) e)

abbrev flags : Bool → Bool → ℕ
flags a b = (if a then 1 else 0) + (if b then 2 else 0)

flags_back : (a b : Bool) → ((flags a b == 1 || flags a b == 3) ≡ a) × (nat_le 2 (flags a b) ≡ b)
flags_back true true = (refl, refl)
flags_back true false = (refl, refl)
flags_back false true = (refl, refl)
flags_back false false = (refl, refl)

pub flags_told : (a b c d : Bool) → flags a b ≡ flags c d → (a ≡ c) × (b ≡ d)
flags_told a b c d e =
    let f = flags_back a b in
    let g = flags_back c d in
    (sym f.0 ∙ ap (λ n. n == 1 || n == 3) e ∙ g.0, sym f.1 ∙ ap (nat_le 2) e ∙ g.1)

abbrev is_field : FieldDef → Bool
is_field f = is_word f.id

pub field_told : Tells (λ f. IsTrue (is_field f)) field_bytes
field_told f g rest more p q e =
    let ids = word_same f.id g.id (field_flags f ∷ kind_tag f.kind ∷ name_bytes f.name ++ rest) (field_flags g ∷ kind_tag g.kind ∷ name_bytes g.name ++ more) (ltb-true f.id (2 ^ 32) p) (ltb-true g.id (2 ^ 32) q) e in
    let flags = flags_told f.current f.indexed g.current g.indexed (first_same (field_flags f) (field_flags g) _ _ ids.1) in
    let behind : kind_tag f.kind ∷ name_bytes f.name ++ rest ≡ kind_tag g.kind ∷ name_bytes g.name ++ more = rest_same (field_flags f) (field_flags g) _ _ ids.1 in
    let kinds = kind_told f.kind g.kind (first_same (kind_tag f.kind) (kind_tag g.kind) _ _ behind) in
    let names = name_told f.name g.name rest more (rest_same (kind_tag f.kind) (kind_tag g.kind) _ _ behind) in
    (λ i. record { id = ids.0 i; name = names.0 i; kind = kinds i; current = flags.0 i; indexed = flags.1 i }, names.1)

abbrev has_few : ClassDef → Bool
has_few c = nat_lt (length c.fields) (2 ^ 16)

abbrev has_fields : ClassDef → Bool
has_fields c = list_all is_field c.fields

abbrev is_class : ClassDef → Bool
is_class c = is_word c.parent && (has_few c && has_fields c)

pub class_told : Tells (λ c. IsTrue (is_class c)) class_bytes
class_told c d rest more p q e =
    let a = and_parts (is_word c.parent) (has_few c && has_fields c) p in
    let b = and_parts (is_word d.parent) (has_few d && has_fields d) q in
    let x = and_parts (has_few c) (has_fields c) a.1 in
    let y = and_parts (has_few d) (has_fields d) b.1 in
    let cs = counted w16 field_bytes c.fields in
    let ds = counted w16 field_bytes d.fields in
    let parents = word_same c.parent d.parent ((name_bytes c.name ++ cs) ++ rest) ((name_bytes d.name ++ ds) ++ more) (ltb-true c.parent (2 ^ 32) a.0) (ltb-true d.parent (2 ^ 32) b.0) e in
    let names = name_told c.name d.name (cs ++ rest) (ds ++ more) (sym (append_assoc (name_bytes c.name) cs rest) ∙ parents.1 ∙ append_assoc (name_bytes d.name) ds more) in
    let fields = counted_told w16 (λ n. n < 2 ^ 16) short_same is_field field_bytes field_told c.fields d.fields rest more (ltb-true _ (2 ^ 16) x.0, x.1) (ltb-true _ (2 ^ 16) y.0, y.1) names.1 in
    (λ i. record { name = names.0 i; parent = parents.0 i; fields = fields.0 i }, fields.1)

-- ---- lists

pub word_told : Tells (λ n. IsTrue (is_word n)) (to_be_bytes w32)
word_told m n rest more p q e = word_same m n rest more (ltb-true m (2 ^ 32) p) (ltb-true n (2 ^ 32) q) e

pub numbers_told : Tells (λ (ns : List ℕ). IsTrue (is_word (length ns)) × IsTrue (list_all is_word ns)) (counted w32 (to_be_bytes w32))
numbers_told = counted_told w32 (λ n. IsTrue (is_word n)) word_told is_word (to_be_bytes w32) word_told

pub list_told : Tells (λ l. IsTrue (is_list l)) list_bytes
list_told k l rest more p q e =
    let a = and_parts _ _ p in
    let b = and_parts _ _ q in
    let c = and_parts _ _ a.0 in
    let d = and_parts _ _ b.0 in
    let ids = word_told k.0 l.0 (counted w32 (to_be_bytes w32) k.1 ++ rest) (counted w32 (to_be_bytes w32) l.1 ++ more) c.0 d.0 e in
    let numbers = numbers_told k.1 l.1 rest more (c.1, a.1) (d.1, b.1) ids.1 in
    (λ i. (ids.0 i, numbers.0 i), numbers.1)

-- ---- the rules of a schema keep its numbers small

-- parents that come earlier
parents_small : (m : ℕ) (cs : List ClassDef) → m + length cs ≤ 65536 → list_all (λ (e : ℕ × ClassDef). nat_lt (e.1).parent e.0) (enumerate_from m cs) ≡ true → list_all (λ (c : ClassDef). is_word c.parent) cs ≡ true
parents_small m [] few h = refl
parents_small m (c ∷ cs) few h =
    let r = and_parts _ _ h in
    let below = ltb-true c.parent m r.0 in
    and_from _ _ (lt-ltb c.parent (2 ^ 32) (omega arith)) (parents_small (m + 1) cs (omega arith) r.1)

ids_small : (p : FieldDef → Bool) → ((f : FieldDef) → p f ≡ true → is_field f ≡ true) → (cs : List ClassDef) → list_all p (flat_map (λ (c : ClassDef). c.fields) cs) ≡ true → list_all has_fields cs ≡ true
ids_small p each [] h = refl
ids_small p each (c ∷ cs) h =
    let r = and_parts _ _ (sym (list_all-append p c.fields (flat_map (λ (d : ClassDef). d.fields) cs)) ∙ h) in
    and_from _ _ (weaker p is_field each c.fields r.0) (ids_small p each cs r.1)

id_small : (id next : ℕ) → next ≤ 4294967295 → (nat_le 1 id && nat_lt id next) ≡ true → is_word id ≡ true
id_small id next few h = let below = ltb-true id next (and_parts (nat_le 1 id) (nat_lt id next) h).1 in lt-ltb id (2 ^ 32) (omega arith)

count_small : (n : ℕ) → nat_le n 1000 ≡ true → nat_lt n (2 ^ 16) ≡ true
count_small n h = let few = leb-true n 1000 h in lt-ltb n (2 ^ 16) (omega arith)

pub classes_small : (s : Schema) → keeps_rules s ≡ true → (length s.classes < 2 ^ 16) × IsTrue (list_all is_class s.classes) × (s.next_field < 2 ^ 32)
classes_small s h =
    let rules = rules_kept s h in
    let limits = limits_kept s rules.within in
    let classes = leb-true (length s.classes) 65535 limits.classes in
    let next = leb-true s.next_field 4294967295 limits.ids in
    let each_id : list_all (λ (f : FieldDef). nat_le 1 f.id && nat_lt f.id s.next_field) (all_fields s) ≡ true = (and_parts (nat_le 1 s.next_field) _ rules.drawn).1 in
    let small_ids = ids_small (λ (f : FieldDef). nat_le 1 f.id && nat_lt f.id s.next_field) (λ f. id_small f.id s.next_field next) s.classes each_id in
    let small_counts = weaker (λ (c : ClassDef). nat_le (length c.fields) 1000) has_few (λ c. count_small (length c.fields)) s.classes limits.own_fields in
    let small_parents = parents_small 1 s.classes (omega (arith, classes)) rules.parents in
    (omega (arith, classes), all_both (λ c. is_word c.parent) (λ c. has_few c && has_fields c) s.classes small_parents (all_both has_few has_fields s.classes small_counts small_ids), omega (arith, next))

-- ---- the catalog

pub catalog_told : Tells (λ (c : ℕ × Schema × List (ℕ × List ℕ)). IsCatalog c.0 c.1 c.2) (λ c. catalog_bytes c.0 c.1 c.2)
unfolding catalog_bytes
catalog_told c d rest more p q e =
    let a = classes_small c.1 p.schema in
    let b = classes_small d.1 q.schema in
    let cc = counted w16 class_bytes (c.1).classes in
    let dc = counted w16 class_bytes (d.1).classes in
    let cl = counted w32 list_bytes c.2 in
    let dl = counted w32 list_bytes d.2 in
    let nexts = word_told c.0 d.0 (to_be_bytes w32 (c.1).next_field ++ ((cc ++ cl) ++ rest)) (to_be_bytes w32 (d.1).next_field ++ ((dc ++ dl) ++ more)) p.next q.next (rest_same 1 1 _ _ e) in
    let ids = word_same (c.1).next_field (d.1).next_field ((cc ++ cl) ++ rest) ((dc ++ dl) ++ more) a.2 b.2 nexts.1 in
    let classes = counted_told w16 (λ n. n < 2 ^ 16) short_same is_class class_bytes class_told (c.1).classes (d.1).classes (cl ++ rest) (dl ++ more) (a.0, a.1) (b.0, b.1)
    (sym (append_assoc cc cl rest) ∙ ids.1 ∙ append_assoc dc dl more) in
    let lists = counted_told w32 (λ n. IsTrue (is_word n)) word_told is_list list_bytes list_told c.2 d.2 rest more (p.few, p.lists) (q.few, q.lists) classes.1 in
    (λ i. (nexts.0 i, record { classes = classes.0 i; next_field = ids.0 i }, lists.0 i), lists.1)

pub catalog_one : (m n : ℕ) (s t : Schema) (ls ks : List (ℕ × List ℕ)) → IsCatalog m s ls → IsCatalog n t ks → catalog_bytes m s ls ≡ catalog_bytes n t ks → (m ≡ n) × (s ≡ t) × (ls ≡ ks)
catalog_one m n s t ls ks p q e =
    let r = (catalog_told (m, s, ls) (n, t, ks) [] [] p q (ap (λ l. l ++ []) e)).0 in
    ((λ i. (r i).0), (λ i. (r i).1), (λ i. (r i).2))
