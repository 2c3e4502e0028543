-- No field of a class that is new has an index, so no object is read for one.
use Rattle.std.proofs.Common.{◌≡◌, inl, inr, refl, sym, ap, ◌∙◌, ℕ, ◌+◌, ◌≤◌, arith, Bool, true, false, cond, not, ◌&&◌, is_some, List, [], ◌∷◌, ◌++◌, append-nil, map, filter, flat_map, Option, None}
use Rattle.std.specs.Prelude.{Ok, Err}
use Rattle.std.specs.List.{list_any}
use Rattle.std.proofs.lemmas.List.Elements.{filter-append}
use Rattle.oc_model.specs.declared.answer.Word.TheVariants as word
use Rattle.oc_model.specs.declared.command.Decl.{Decl}
use Rattle.oc_model.specs.declared.schema.ClassDef.{ClassDef}
use Rattle.oc_model.specs.declared.schema.FieldDef.{FieldDef}
use Rattle.oc_model.specs.Lengths.{indexed_fields}
use Rattle.oc_model.specs.Lists.{IsOneOf}
use Rattle.oc_model.specs.Maps.{are_distinct, is_in, Text}
use Rattle.oc_model.specs.Refusals.{Checked, ◌>>=◌, ◌>>◌, unless}
use Rattle.oc_model.specs.Schemas.{Schema, class_named, field_named}
use Rattle.oc_model.specs.SchemaRules.{is_within_limits}
use Rattle.oc_model.specs.SchemaSteps.{declared, declared_fields, declared_new, declared_under, names_of, parent_number, stated_fields, with_new_class, within_limits}
use Rattle.oc_model.specs.Stores.{base_of}
use Rattle.oc_model.proofs.Elements.{is_among, to_map}
use Rattle.oc_chunks.specs.Chunks.{joined}
use Rattle.oc_catalog.specs.Catalogs.{indexed_ids}
use Rattle.oc_index.specs.declared.items.ExtentItem.{ExtentItem}
use Rattle.oc_lists.specs.Following.{has_index, is_reindexed, newly_indexed, reindexed}
use Rattle.oc_lists.specs.Refiling.{indexed_in}
use Rattle.oc_slots.specs.Stores.{Slots}
use Rattle.oc_store.specs.Reindexing.{objects_len}
use Rattle.oc_container.specs.Contained.{Contained}

-- ---- the fields that have an index

abbrev indexed : List FieldDef → List FieldDef
indexed fs = filter (λ (f : FieldDef). f.indexed) fs

none_stated : (id : ℕ) (ds : List Decl) → indexed (stated_fields [] id ds) ≡ []
none_stated id [] = refl
none_stated id (d ∷ ds) = none_stated (id + 1) ds

none_declared : (id : ℕ) (ds : List Decl) → indexed (declared_fields [] id ds) ≡ []
none_declared id ds = ap indexed (append-nil (stated_fields [] id ds)) ∙ none_stated id ds

-- a class without such a field behind the others
none_behind : (cs : List ClassDef) (c : ClassDef) → indexed c.fields ≡ [] → indexed (flat_map (λ (k : ClassDef). k.fields) (cs ++ c ∷ [])) ≡ indexed (flat_map (λ (k : ClassDef). k.fields) cs)
none_behind [] c none = ap indexed (append-nil c.fields) ∙ none
none_behind (k ∷ cs) c none =
    filter-append (λ (f : FieldDef). f.indexed) k.fields (flat_map (λ (d : ClassDef). d.fields) (cs ++ c ∷ []))
    ∙ ap (λ l. indexed k.fields ++ l) (none_behind cs c none)
    ∙ sym (filter-append (λ (f : FieldDef). f.indexed) k.fields (flat_map (λ (d : ClassDef). d.fields) cs))

-- the schema with a new class has the indexes that it had without it
same_indexed : (s : Schema) (name : Text) (p : ℕ) (ds : List Decl) → indexed_fields (with_new_class s name p ds) ≡ indexed_fields s
same_indexed s name p ds = none_behind s.classes (record { name = name; parent = p; fields = declared_fields [] s.next_field ds }) (none_declared s.next_field ds)

-- ---- which objects are read

none_left : (s : Schema) (fs : List FieldDef) → ((f : FieldDef) → IsOneOf f fs → has_index s f.id ≡ true)
    → filter (λ (e : ℕ × _). not (has_index s e.0)) (map (λ (f : FieldDef). (f.id, base_of f.kind)) fs) ≡ []
none_left s [] has = refl
none_left s (f ∷ fs) has =
    let rest = filter (λ (e : ℕ × _). not (has_index s e.0)) (map (λ (g : FieldDef). (g.id, base_of g.kind)) fs) in
    ap (λ b. cond (not b) ((f.id, base_of f.kind) ∷ rest) rest) (has f (inl refl)) ∙ none_left s fs (λ g one. has g (inr one))

-- no field gets an index where those that have one are the same
none_new : (s t : Schema) → indexed_fields t ≡ indexed_fields s → newly_indexed s t ≡ []
none_new s t same =
    ap (λ (fs : List FieldDef). filter (λ (e : ℕ × _). not (has_index s e.0)) (map (λ (f : FieldDef). (f.id, base_of f.kind)) fs)) same
    ∙ none_left s (indexed_fields s) (λ f one. is_among f.id (indexed_ids s.classes) (to_map (λ (g : FieldDef). g.id) f (indexed_fields s) one))

none_of : (fs : List FieldDef) → list_any (λ (f : FieldDef). is_in [] f.id) fs ≡ false
none_of [] = refl
none_of (f ∷ fs) = none_of fs

none_kept : (p : ℕ → Bool) (es : List ExtentItem) → ((c : ℕ) → p c ≡ false) → map (λ (e : ExtentItem). e.number) (filter (λ (e : ExtentItem). p e.class) es) ≡ []
none_kept p [] none = refl
none_kept p (e ∷ es) none =
    let rest = filter (λ (x : ExtentItem). p x.class) es in
    ap (λ b. map (λ (x : ExtentItem). x.number) (cond b (e ∷ rest) rest)) (none e.class) ∙ none_kept p es none

-- so no object is read
none_read : (s t : Schema) (es : List ExtentItem) → indexed_fields t ≡ indexed_fields s → reindexed s t es ≡ []
none_read s t es same =
    none_kept (is_reindexed s t) es (λ c. ap (λ (l : List (ℕ × _)). list_any (λ (f : FieldDef). is_in (map (λ (e : ℕ × _). e.0) l) f.id) (indexed_in t c)) (none_new s t same) ∙ none_of (indexed_in t c))

-- ---- what is declared

-- what a check let through
let_through : {A B : Type 0} (r : Checked A) (f : A → Checked B) (b : B) → Ok b ≡ (r >>= f) → (a : A) × (Ok b ≡ f a)
let_through (Ok a) f b h = (a, h)
let_through (Err w) f b h = absurd (cc)

behind : {A B : Type 0} (q : Checked A) (r : Checked B) (b : B) → Ok b ≡ (q >> r) → Ok b ≡ r
behind (Ok a) r b h = h
behind (Err w) r b h = absurd (cc)

unlimited : (u t : Schema) → Ok t ≡ within_limits u → t ≡ u
unlimited u t h = let q = behind (unless (is_within_limits u) word.Size) (Ok u) t h in cc

-- a new class that was declared
new_is : (s t : Schema) (name : Text) (p : ℕ) (ds : List Decl) → Ok t ≡ declared_new s name p ds → t ≡ with_new_class s name p ds
new_is s t name p ds h =
    unlimited (with_new_class s name p ds) t
    (behind (unless (are_distinct (names_of ds) && not (list_any (λ n. is_some (field_named s p n)) (names_of ds))) word.Exists) (within_limits (with_new_class s name p ds)) t h)

declared_is : (s t : Schema) (name : Text) (parent : Option Text) (ds : List Decl) → class_named s name ≡ None → Ok t ≡ declared s name parent ds → (p : ℕ) × (t ≡ with_new_class s name p ds)
unfolding declared
declared_is s t name parent ds free h =
    let r = let_through (parent_number s parent) (λ p. declared_under (class_named s name) s name p ds) t h in
    (r.0, new_is s t name r.0 ds (r.1 ∙ ap (λ o. declared_under o s name r.0 ds) free))

-- a declaration of a class that is new reads no object
nothing_read : (s t : Schema) (name : Text) (parent : Option Text) (ds : List Decl) (es : List ExtentItem) → class_named s name ≡ None → Ok t ≡ declared s name parent ds → reindexed s t es ≡ []
nothing_read s t name parent ds es free h =
    let d = declared_is s t name parent ds free h in
    none_read s t es (ap indexed_fields d.1 ∙ same_indexed s name d.0 ds)

-- of a container neither
pub unread : (v : Contained) (s t : Schema) (name : Text) (parent : Option Text) (ds : List Decl) → s ≡ ((v.store).session).schema → class_named s name ≡ None → Ok t ≡ declared s name parent ds
    → reindexed ((v.store).session).schema t (joined (((v.store).lists).extents).chunks) ≡ []
unread v s t name parent ds is free h =
    ap (λ (x : Schema). reindexed x t (joined (((v.store).lists).extents).chunks)) (sym is) ∙ nothing_read s t name parent ds (joined (((v.store).lists).extents).chunks) free h

pub nothing_taken : (s : Slots) (ns : List ℕ) → ns ≡ [] → (before after : ℕ) → after ≤ before + objects_len s ns → after ≤ before
nothing_taken s ns none before after le = let len : objects_len s ns ≡ 0 = ap (objects_len s) none in omega (arith, le, len)
