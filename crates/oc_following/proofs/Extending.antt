-- A schema with all classes and fields of another one: it may follow where both keep the rules.
use Rattle.std.proofs.Common.{◌≡◌, refl, sym, ap, ◌∙◌, subst, ℕ, zero, suc, ◌+◌, ◌-◌, ◌≤◌, inl, inr, Bool, true, false, not, ◌&&◌, ◌||◌, ◌==◌, List, [], ◌∷◌, length, map, filter, slice_get, Some, is_some, arith, true≢false}
use Rattle.std.specs.Cmp.{both_ways}
use Rattle.std.specs.List.{enumerate_from}
use Rattle.std.proofs.lemmas.Bool.{eqb-true, eq-eqb}
use Rattle.std.proofs.lemmas.Option.{slice_get_within, slice_get-get_or}
use Rattle.oc_model.specs.declared.value.Entry.{Entry}
use Rattle.oc_model.specs.declared.value.Rec.{Rec}
use Rattle.oc_model.specs.declared.schema.FieldDef.{FieldDef}
use Rattle.oc_model.specs.declared.schema.ClassDef.{ClassDef}
use Rattle.oc_model.specs.Candidates.{has_field}
use Rattle.oc_model.specs.Kinds.{same_kind}
use Rattle.oc_model.specs.Lengths.{indexed_fields}
use Rattle.oc_model.specs.Lists.{IsOneOf}
use Rattle.oc_model.specs.Schemas.{Schema, class_at, parent_of, current, own_fields, fields_within, below_within, fields_of, is_sub}
use Rattle.oc_model.specs.SchemaRules.{numbered, all_fields, keeps_rules}
use Rattle.oc_model.specs.StoreRules.{known_fields, is_under, is_known, Suits}
use Rattle.oc_model.proofs.Elements.{in_right, from_flat_map, to_flat_map, to_map, all_pass, weaker, some_passes, any_passes, from_filter, to_filter, in_left}
use Rattle.oc_model.proofs.Inherited.{fields_below, apart_same}
use Rattle.oc_model.proofs.NewClass.{IsEarlier, is_earlier}
use Rattle.oc_model.proofs.Rules.{rules_kept}
use Rattle.oc_refactor.proofs.OneClass.{at_number, class_is_one}
use Rattle.oc_refactor.proofs.Taken.{declares, one_class, class_numbered}
use Rattle.oc_lists.specs.Following.{AreAlike, MayFollow}
use Rattle.oc_following.proofs.Unrefused.{class_some}

-- ---- the same classes, and perhaps more in them

-- The second class has the parent of the first one, and for each field of that a field of the same id and kind.
pub record IsGrown (d e : ClassDef) : Type 0 where
  pub parent : e.parent ≡ d.parent
  pub fields : (f : FieldDef) → IsOneOf f d.fields → (g : FieldDef) × IsOneOf g e.fields × (g.id ≡ f.id) × (g.kind ≡ f.kind)

-- Each class of the first schema is in the second one under its number, with its fields and perhaps more.
abbrev pub Extends : Schema → Schema → Type 0
Extends s t = (c : ℕ) (d : ClassDef) → class_at s c ≡ Some d → (e : ClassDef) × (class_at t c ≡ Some e) × IsGrown d e

-- ---- places

-- the place of a class that is one of them
place_of : (d : ClassDef) (cs : List ClassDef) → IsOneOf d cs → (i : ℕ) × (slice_get cs i ≡ Some d)
place_of d [] h = absurd h
place_of d (c ∷ cs) h = elim h as (λ _. (i : ℕ) × (slice_get (c ∷ cs) i ≡ Some d)) [ inl e ↦ (0, ap Some (sym e)) | inr j ↦ let r = place_of d cs j in (suc r.0, r.1) ]

-- the class that has a field
field_place : (s : Schema) (f : FieldDef) → IsOneOf f (all_fields s) → (a : ℕ) × (d : ClassDef) × (class_at s a ≡ Some d) × IsOneOf f d.fields
field_place s f h =
    let r = from_flat_map (λ (c : ClassDef). c.fields) f s.classes h in
    let p = place_of r.0 s.classes r.1 in
    (suc p.0, r.0, p.1, r.2)

number_place : (n : ℕ) (cs : List ClassDef) (e : ℕ × ClassDef) → IsOneOf e (enumerate_from n cs) → (i : ℕ) × (e.0 ≡ n + i) × (slice_get cs i ≡ Some e.1)
number_place n [] e h = absurd h
number_place n (c ∷ cs) e h =
    elim h as (λ _. (i : ℕ) × (e.0 ≡ n + i) × (slice_get (c ∷ cs) i ≡ Some e.1)) [
      | inl q ↦ (0, ap (λ (x : ℕ × ClassDef). x.0) q ∙ from_0 n, ap (λ (x : ℕ × ClassDef). Some x.1) (sym q))
      | inr j ↦ let r = number_place (n + 1) cs e j in (suc r.0, r.1 ∙ one_on n r.0, r.2)
    ]
  where
    from_0 : (n : ℕ) → n ≡ n + 0
    from_0 n = omega arith

    one_on : (n i : ℕ) → n + 1 + i ≡ n + suc i
    one_on n i = omega arith

-- the class beside a number is the one of that number
class_of_number : (s : Schema) (e : ℕ × ClassDef) → IsOneOf e (numbered s) → class_at s e.0 ≡ Some e.1
class_of_number s e h =
    let r = number_place 1 s.classes e h in
    let q = r.1 in
    let n : e.0 ≡ suc r.0 = omega (arith, q) in
    ap (class_at s) n ∙ r.2

-- a class that is there has a number within the list
pub within : (s : Schema) (c : ℕ) (d : ClassDef) → class_at s c ≡ Some d → c ≤ length s.classes
within s zero d h = omega arith
within s (suc i) d h = let lt = slice_get_within s.classes i d h in omega (arith, lt)

-- ---- a field is that of the objects of its class and of those below

own_is_current : (s : Schema) (a : ℕ) (d : ClassDef) (f : FieldDef) → class_at s a ≡ Some d → IsOneOf f (current d.fields) → IsOneOf f (fields_of s a)
unfolding fields_of
own_is_current s zero d f h i = absurd (cc)
own_is_current s (suc k) d f h i = in_right f (fields_within k s (parent_of (class_at s (suc k)))) (own_fields (class_at s (suc k))) (subst (λ o. IsOneOf f (own_fields o)) (sym h) i)

module _ (s : Schema) (rules : keeps_rules s ≡ true) (a : ℕ) (d : ClassDef) (here : class_at s a ≡ Some d) (f : FieldDef) (own : IsOneOf f (current d.fields)) where
  its_id : (g : FieldDef) (e : ClassDef) → IsOneOf g (current e.fields) → IsOneOf g.id (map (λ (x : FieldDef). x.id) e.fields)
  its_id g e i = to_map (λ (x : FieldDef). x.id) g e.fields (from_filter (λ (x : FieldDef). x.current) g e.fields i).0

  has_below : (c : ℕ) → has_field s f c ≡ true → is_sub s c a ≡ true
  has_below c h =
      let r = some_passes (λ (g : FieldDef). g.id == f.id) (fields_of s c) h in
      let w = declares s c r.0 r.1 in
      let same : r.0.id ≡ f.id = eqb-true r.0.id f.id r.2 in
      let one = one_class f.id s w.at a w.class d (rules_kept s rules).ids w.there here (subst (λ n. IsOneOf n (map (λ (x : FieldDef). x.id) w.class.fields)) same (its_id r.0 w.class w.own)) (its_id f d own) in
      ap (is_sub s c) (sym one) ∙ w.above

  below_has : (c : ℕ) → is_sub s c a ≡ true → has_field s f c ≡ true
  below_has c h =
      let r = fields_below s c a (is_earlier s (rules_kept s rules).parents) h in
      let i = in_left f (fields_of s a) r.0 (own_is_current s a d f here own) in
      any_passes (λ (g : FieldDef). g.id == f.id) f (fields_of s c) (subst (IsOneOf f) (sym r.1) i) (eq-eqb f.id f.id refl)

  -- the objects that have a field are those of its class and of the classes below it
  has_where_below : (c : ℕ) → has_field s f c ≡ is_sub s c a
  has_where_below c = both_ways _ _ (has_below c) (below_has c)

-- ---- the same ancestors

module _ (s t : Schema) (rules : keeps_rules s ≡ true) (grown : Extends s t) where
  early : IsEarlier s
  early = is_earlier s (rules_kept s rules).parents

  same_parent : (c : ℕ) (d : ClassDef) → class_at s c ≡ Some d → parent_of (class_at t c) ≡ parent_of (class_at s c)
  same_parent c d h = let r = grown c d h in ap parent_of r.1 ∙ r.2.parent ∙ ap parent_of (sym h)

  same_below : (n a b : ℕ) → a ≤ length s.classes → below_within n t a b ≡ below_within n s a b
  same_below zero a b le = refl
  same_below (suc n) zero b le = ap (λ r. 0 == b || r) (same_below n 0 b le)
  same_below (suc n) (suc a) b le =
      let up = early a in
      let same = same_parent (suc a) _ (slice_get-get_or s.classes a (record { name = []; parent = 0; fields = [] }) (omega (arith, le))) in
      ap (λ p. suc a == b || below_within n t p b) same ∙ ap (λ r. suc a == b || r) (same_below n (parent_of (class_at s (suc a))) b (omega (arith, up, le)))

  same_sub : (c a : ℕ) (d : ClassDef) → class_at s c ≡ Some d → is_sub t c a ≡ is_sub s c a
  unfolding is_sub
  same_sub c a d h = same_below c c a (within s c d h)

  -- ---- records

  -- an entry that an object may have
  known_still : (c : ℕ) (d : ClassDef) → class_at s c ≡ Some d → (e : Entry) → is_known s c e ≡ true → is_known t c e ≡ true
  unfolding known_fields
  known_still c d there e h =
      let r = some_passes (λ (f : FieldDef). is_under f e) (known_fields s c) h in
      let w = from_flat_map (λ (x : ℕ × ClassDef). (x.1).fields) r.0 (filter (λ (x : ℕ × ClassDef). is_sub s c x.0) (numbered s)) r.1 in
      let k = from_filter (λ (x : ℕ × ClassDef). is_sub s c x.0) w.0 (numbered s) w.1 in
      let m = grown w.0.0 w.0.1 (class_of_number s w.0 k.0) in
      let g = m.2.fields r.0 w.2 in
      let sub = same_sub c w.0.0 d there ∙ k.1 in
      any_passes (λ (f : FieldDef). is_under f e) g.0 (known_fields t c)
      (to_flat_map (λ (x : ℕ × ClassDef). (x.1).fields) g.0 (w.0.0, m.0) (filter (λ (x : ℕ × ClassDef). is_sub t c x.0) (numbered t))
      (to_filter (λ (x : ℕ × ClassDef). is_sub t c x.0) (w.0.0, m.0) (numbered t) (class_numbered t w.0.0 m.0 m.1) sub) g.1)
      ((λ i. g.2 i == e.id && same_kind (g.3 i) e.kind) ∙ r.2)

  still_suits : (r : Rec) → Suits s r → Suits t r
  still_suits r h =
      let d = class_some s r.class h.class in
      record {
        class = ap is_some (grown r.class d.0 d.1).1;
        known = weaker (is_known s r.class) (is_known t r.class) (known_still r.class d.0 d.1) r.entries h.known;
        fits = h.fits;
        by_id = h.by_id;
      }

  -- ---- fields that have an index in both

  module _ (also : keeps_rules t ≡ true) where
    with_index : (u : Schema) → keeps_rules u ≡ true → (f : FieldDef) → IsOneOf f (indexed_fields u) → IsOneOf f (all_fields u) × (f.current ≡ true)
    with_index u keeps f i =
        let r = from_filter (λ (g : FieldDef). g.indexed) f (all_fields u) i in
        (r.0, now f.current f.indexed r.1 (all_pass (λ (g : FieldDef). g.current || not g.indexed) f (all_fields u) (rules_kept u keeps).past r.0))
      where
        now : (c i : Bool) → i ≡ true → (c || not i) ≡ true → c ≡ true
        now true i h k = refl
        now false i h k = absurd (true≢false (sym k ∙ ap not h))

    still_alike : (f g : FieldDef) → IsOneOf f (indexed_fields s) → IsOneOf g (indexed_fields t) → f.id ≡ g.id → AreAlike s t f g
    still_alike f g i j same =
        let old = with_index s rules f i in
        let new = with_index t also g j in
        let p = field_place s f old.0 in
        let m = grown p.0 p.1 p.2 in
        let h = m.2.fields f p.3 in
        let in_all = to_flat_map (λ (c : ClassDef). c.fields) h.0 m.0 t.classes (class_is_one m.0 (p.0 - 1) t.classes (at_number t p.0 m.0 m.1)) h.1 in
        let is : g ≡ h.0 = apart_same g h.0 (all_fields t) (rules_kept t also).ids new.0 in_all (sym same ∙ sym h.2) in
        let own_old = to_filter (λ (x : FieldDef). x.current) f p.1.fields p.3 old.1 in
        let own_new = to_filter (λ (x : FieldDef). x.current) g m.0.fields (subst (λ x. IsOneOf x m.0.fields) (sym is) h.1) new.1 in
        record {
          kind = sym h.3 ∙ ap (λ (x : FieldDef). x.kind) (sym is);
          classes = λ c there.
              let d = class_some s c there in
              has_where_below s rules p.0 p.1 p.2 f own_old c ∙ sym (same_sub c p.0 d.0 d.1) ∙ sym (has_where_below t also p.0 m.0 m.1 g own_new c);
        }

    -- so the second schema may follow the first one
    pub may_follow : MayFollow s t
    may_follow = record { rules = also; suits = still_suits; indexed = still_alike }
