-- The fields that a declaration leaves a class keep the rules of fields.
use Rattle.std.proofs.Common.{◌≡◌, ◌⊎◌, refl, sym, ap, ◌∙◌, subst, ℕ, suc, ◌+◌, ◌≤◌, ◌<◌, inl, inr, Bool, true, false, not, ◌&&◌, ◌||◌, nat_lt, nat_le, List, [], ◌∷◌, ◌++◌, length, map, filter, fold, Option, Some, None, cond, arith, true≢false, append-nil}
use Rattle.std.specs.Prelude.{if◌then◌else◌, is_none, unwrap_or, option_map}
use Rattle.std.specs.Option.{option_or}
use Rattle.std.specs.List.{list_all, list_any}
use Rattle.std.proofs.lemmas.Bool.{and_parts, and_from, not-true}
use Rattle.std.proofs.lemmas.Bool.Decides.{nat_tests}
use Rattle.std.proofs.lemmas.List.{map-append}
use Rattle.std.proofs.lemmas.List.Elements.{filter-append}
use Rattle.oc_model.specs.declared.command.Decl.{Decl}
use Rattle.oc_model.specs.declared.schema.FieldDef.{FieldDef}
use Rattle.oc_model.specs.Kinds.{is_array, same_kind}
use Rattle.oc_model.specs.Lists.{IsOneOf}
use Rattle.oc_model.specs.Maps.{same, is_in, are_distinct}
use Rattle.oc_model.specs.Schemas.{current}
use Rattle.oc_model.specs.SchemaRules.{is_name, are_apart, are_in_order}
use Rattle.oc_model.specs.SchemaSteps.{later_field, past_fields, past_field, kept_field, made_current, made_past, field_for, is_new, new_field, stated_fields, by_id, unstated_fields, declared_fields, names_of}
use Rattle.oc_model.proofs.Elements.{in_append, from_map, to_map, from_filter, found_in, all_pass, any_passes, is_among}
use Rattle.oc_model.proofs.Inherited.{apart_same}
use Rattle.oc_model.proofs.SchemaLaws.{equal_texts, same_text}
use Rattle.oc_schema.specs.ClassRules.{field_keeps}
use Rattle.oc_refactor.proofs.Ascending.{by_id_from, by_id_apart, by_id_in_order}
use Rattle.oc_refactor.proofs.KeepsRules.{AllKeep}
use Rattle.oc_refactor.proofs.Apart.{AreDisjoint, apart_from, apart_joined}

abbrev pub ids_of : List FieldDef → List ℕ
ids_of fs = map (λ f. f.id) fs

-- ---- the rules of a field

-- with more ids drawn
pub keeps_later : (next last : ℕ) (f : FieldDef) → next ≤ last → field_keeps next f ≡ true → field_keeps last f ≡ true
keeps_later next last f le h =
    let r = and_parts (is_name f.name && (nat_le 1 f.id && nat_lt f.id next) && (f.current || not f.indexed)) (not (f.indexed && is_array f.kind)) h in
    let q = and_parts (is_name f.name && (nat_le 1 f.id && nat_lt f.id next)) (f.current || not f.indexed) r.0 in
    let p = and_parts (is_name f.name) (nat_le 1 f.id && nat_lt f.id next) q.0 in
    let d = and_parts (nat_le 1 f.id) (nat_lt f.id next) p.1 in
    let below = d.1 in
    let more : nat_lt f.id last ≡ true = grind (arith, nat_tests, below) in
    and_from _ _ (and_from _ _ (and_from _ _ p.0 (and_from _ _ d.0 more)) q.1) r.1

-- what is told of a field's id
pub id_drawn : (next : ℕ) (f : FieldDef) → field_keeps next f ≡ true → f.id < next
id_drawn next f h =
    let r = and_parts (is_name f.name && (nat_le 1 f.id && nat_lt f.id next) && (f.current || not f.indexed)) (not (f.indexed && is_array f.kind)) h in
    let q = and_parts (is_name f.name && (nat_le 1 f.id && nat_lt f.id next)) (f.current || not f.indexed) r.0 in
    let p = and_parts (is_name f.name) (nat_le 1 f.id && nat_lt f.id next) q.0 in
    let d = (and_parts (nat_le 1 f.id) (nat_lt f.id next) p.1).1 in
    grind (arith, nat_tests, d)

-- a field without an index, current or past
plain_keeps : (next : ℕ) (f g : FieldDef) → g.id ≡ f.id → g.name ≡ f.name → g.indexed ≡ false → field_keeps next f ≡ true → field_keeps next g ≡ true
plain_keeps next f g id name plain h =
    let r = and_parts (is_name f.name && (nat_le 1 f.id && nat_lt f.id next) && (f.current || not f.indexed)) (not (f.indexed && is_array f.kind)) h in
    let q = and_parts (is_name f.name && (nat_le 1 f.id && nat_lt f.id next)) (f.current || not f.indexed) r.0 in
    let drawn = ap (λ n. nat_le 1 n && nat_lt n next) id ∙ (and_parts (is_name f.name) (nat_le 1 f.id && nat_lt f.id next) q.0).1 in
    let named = ap is_name name ∙ (and_parts (is_name f.name) (nat_le 1 f.id && nat_lt f.id next) q.0).0 in
    and_from _ _ (and_from _ _ (and_from _ _ named drawn) (no_index g.current g.indexed plain)) (ap (λ b. not (b && is_array g.kind)) plain)
  where
    no_index : (c i : Bool) → i ≡ false → (c || not i) ≡ true
    no_index true i e = refl
    no_index false i e = ap not e

-- ---- a field that is there for a declaration

pub record IsThere (own : List FieldDef) (d : Decl) (f : FieldDef) : Type 0 where
  pub from : FieldDef
  pub among : IsOneOf from own
  pub called : same from.name d.name ≡ true
  pub id : f.id ≡ from.id
  pub name : f.name ≡ from.name
  pub kind : f.kind ≡ from.kind
  pub current : f.current ≡ true
  pub keeps : (next : ℕ) → field_keeps next from ≡ true → field_keeps next f ≡ true

later_is_one : (fs : List FieldDef) (g f : FieldDef) → fold later_field (Some g) fs ≡ Some f → IsOneOf f (g ∷ fs)
later_is_one [] g f e = let q : f ≡ g = cc in inl q
later_is_one (h ∷ fs) g f e =
    (elim (nat_lt g.id h.id) as (λ b. fold later_field (if b then Some h else Some g) fs ≡ Some f → IsOneOf f (g ∷ h ∷ fs)) [
      | true ↦ λ e. inr (later_is_one fs h f e)
      | false ↦ λ e. elim (later_is_one fs g f e) as (λ _. IsOneOf f (g ∷ h ∷ fs)) [ inl q ↦ inl q | inr i ↦ inr (inr i) ]
    ]) e

latest_is_one : (fs : List FieldDef) (f : FieldDef) → fold later_field None fs ≡ Some f → IsOneOf f fs
latest_is_one [] f e = absurd (cc)
latest_is_one (g ∷ fs) f e = later_is_one fs g f e

kept_is_there : (own : List FieldDef) (d : Decl) (g : FieldDef) → kept_field own d ≡ Some g → IsThere own d g
kept_is_there own d g h =
    let r = found_in (λ f. f.current && same f.name d.name && same_kind f.kind d.kind) g own h in
    let p = and_parts (g.current && same g.name d.name) (same_kind g.kind d.kind) r.1 in
    let q = and_parts g.current (same g.name d.name) p.0 in
    record { from = g; among = r.0; called = q.1; id = refl; name = refl; kind = refl; current = q.0; keeps = λ next k. k }

past_is_there : (own : List FieldDef) (d : Decl) (g : FieldDef) → past_field own d.name d.kind ≡ Some g → IsThere own d (made_current g)
past_is_there own d g h =
    let r = from_filter (λ (f : FieldDef). not f.current && same f.name d.name && same_kind f.kind d.kind) g own (latest_is_one (past_fields own d.name d.kind) g h) in
    let p = and_parts (not g.current && same g.name d.name) (same_kind g.kind d.kind) r.1 in
    let q = and_parts (not g.current) (same g.name d.name) p.0 in
    record { from = g; among = r.0; called = q.1; id = refl; name = refl; kind = refl; current = refl; keeps = λ next k. plain_keeps next g (made_current g) refl refl refl k }

pub is_there : (own : List FieldDef) (d : Decl) (f : FieldDef) → field_for own d ≡ Some f → IsThere own d f
is_there own d f h =
    (elim (kept_field own d) as (λ o. kept_field own d ≡ o → option_or o (option_map made_current (past_field own d.name d.kind)) ≡ Some f → IsThere own d f) [
      | Some g ↦ λ e h. let q : g ≡ f = cc in subst (IsThere own d) q (kept_is_there own d g e)
      | None ↦ λ e h. (elim (past_field own d.name d.kind) as (λ o. past_field own d.name d.kind ≡ o → option_map made_current o ≡ Some f → IsThere own d f) [
        | Some g ↦ λ e h. let q : made_current g ≡ f = cc in subst (IsThere own d) q (past_is_there own d g e)
        | None ↦ λ e h. absurd (cc)
      ]) refl h
    ]) refl h

-- ---- the stated fields

-- the field that is there, or a new one
abbrev placed : Option FieldDef → ℕ → Decl → FieldDef
placed o id d = unwrap_or o (new_field id d)

abbrev id_after : Option FieldDef → ℕ → ℕ
id_after o id = if is_none o then id + 1 else id

abbrev pub new_ids : List FieldDef → List Decl → ℕ
new_ids own ds = length (filter (is_new own) ds)

id_rises : (o : Option FieldDef) (id : ℕ) → id ≤ id_after o id
id_rises None id = omega arith
id_rises (Some f) id = omega arith

ids_counted : (own : List FieldDef) (id : ℕ) (d : Decl) (ds : List Decl) → id_after (field_for own d) id + new_ids own ds ≡ id + new_ids own (d ∷ ds)
ids_counted own id d ds =
    elim (field_for own d) as (λ o. id_after o id + new_ids own ds ≡ id + length (cond (is_none o) (d ∷ filter (is_new own) ds) (filter (is_new own) ds))) [ None ↦ omega arith | Some f ↦ refl ]

name_placed : (d : Decl) (id : ℕ) (own : List FieldDef) (o : Option FieldDef) → ((f : FieldDef) → o ≡ Some f → IsThere own d f) → (placed o id d).name ≡ d.name
name_placed d id own None h = refl
name_placed d id own (Some f) h = let t = h f refl in t.name ∙ equal_texts t.from.name d.name t.called

current_placed : (d : Decl) (id : ℕ) (own : List FieldDef) (o : Option FieldDef) → ((f : FieldDef) → o ≡ Some f → IsThere own d f) → (placed o id d).current ≡ true
current_placed d id own None h = refl
current_placed d id own (Some f) h = (h f refl).current

module _ (own : List FieldDef) where
  pub names_stated : (id : ℕ) (ds : List Decl) → map (λ f. f.name) (stated_fields own id ds) ≡ names_of ds
  names_stated id [] = refl
  names_stated id (d ∷ ds) = λ i. name_placed d id own (field_for own d) (is_there own d) i ∷ names_stated (id_after (field_for own d) id) ds i

  pub current_stated : (id : ℕ) (ds : List Decl) → current (stated_fields own id ds) ≡ stated_fields own id ds
  current_stated id [] = refl
  current_stated id (d ∷ ds) =
      let rest = stated_fields own (id_after (field_for own d) id) ds in
      (λ i. cond (current_placed d id own (field_for own d) (is_there own d) i) (placed (field_for own d) id d ∷ current_stated (id_after (field_for own d) id) ds i) (current rest))

  pub length_stated : (id : ℕ) (ds : List Decl) → length (stated_fields own id ds) ≡ length ds
  length_stated id [] = refl
  length_stated id (d ∷ ds) = ap suc (length_stated (id_after (field_for own d) id) ds)

  -- the id of a stated field is that of a field that was there, or a new one
  pub record IsKept (ds : List Decl) (n : ℕ) : Type 0 where
    pub from : FieldDef
    pub by : Decl
    pub among : IsOneOf from own
    pub stated : IsOneOf by ds
    pub called : same from.name by.name ≡ true
    pub id : n ≡ from.id

  one_placed : (d : Decl) (ds : List Decl) (id n : ℕ) (o : Option FieldDef) → ((f : FieldDef) → o ≡ Some f → IsThere own d f) → n ≡ (placed o id d).id → IsKept (d ∷ ds) n ⊎ (id ≤ n)
  one_placed d ds id n None h e = inr (omega (arith, e))
  one_placed d ds id n (Some f) h e = let t = h f refl in inl (record { from = t.from; by = d; among = t.among; stated = inl refl; called = t.called; id = e ∙ t.id })

  pub stated_from : (id n : ℕ) (ds : List Decl) → IsOneOf n (ids_of (stated_fields own id ds)) → IsKept ds n ⊎ (id ≤ n)
  stated_from id n [] h = absurd h
  stated_from id n (d ∷ ds) h =
      elim h as (λ _. IsKept (d ∷ ds) n ⊎ (id ≤ n)) [
        | inl e ↦ one_placed d ds id n (field_for own d) (is_there own d) e
        | inr i ↦ (elim (stated_from (id_after (field_for own d) id) n ds i) as (λ _. IsKept (d ∷ ds) n ⊎ (id ≤ n)) [
          | inl k ↦ inl (record { from = k.from; by = k.by; among = k.among; stated = inr k.stated; called = k.called; id = k.id })
          | inr le ↦ let up = id_rises (field_for own d) id in inr (omega (arith, le, up))
        ])
      ]

  -- one that was there has this id and this kind
  abbrev pub WasOfKind : FieldDef → Type 0
  WasOfKind f = (from : FieldDef) × IsOneOf from own × (f.id ≡ from.id) × (f.kind ≡ from.kind)

  placed_of_kind : (d : Decl) (id : ℕ) (o : Option FieldDef) → ((f : FieldDef) → o ≡ Some f → IsThere own d f) → WasOfKind (placed o id d) ⊎ (id ≤ (placed o id d).id)
  placed_of_kind d id None h = inr (omega arith)
  placed_of_kind d id (Some f) h = let t = h f refl in inl (t.from, t.among, t.id, t.kind)

  -- a stated field was there under its id and with its kind, or has a new id
  pub stated_of_kind : (id : ℕ) (f : FieldDef) (ds : List Decl) → IsOneOf f (stated_fields own id ds) → WasOfKind f ⊎ (id ≤ f.id)
  stated_of_kind id f [] h = absurd h
  stated_of_kind id f (d ∷ ds) h =
      elim h as (λ _. WasOfKind f ⊎ (id ≤ f.id)) [
        | inl e ↦ subst (λ x. WasOfKind x ⊎ (id ≤ x.id)) (sym e) (placed_of_kind d id (field_for own d) (is_there own d))
        | inr i ↦ (elim (stated_of_kind (id_after (field_for own d) id) f ds i) as (λ _. WasOfKind f ⊎ (id ≤ f.id)) [
          | inl k ↦ inl k
          | inr le ↦ let up = id_rises (field_for own d) id in inr (omega (arith, le, up))
        ])
      ]

  module _ (next : ℕ) (good : (f : FieldDef) → IsOneOf f own → field_keeps next f ≡ true) where
    one_keeps : (d : Decl) (id last : ℕ) (o : Option FieldDef) → ((f : FieldDef) → o ≡ Some f → IsThere own d f) → 1 ≤ id → next ≤ last → (is_none o ≡ true → id < last) → is_name d.name ≡ true → field_keeps last (placed o id d) ≡ true
    one_keeps d id last None h some le room named =
        let lt = room refl in
        let a : nat_le 1 id ≡ true = grind (arith, nat_tests) in
        let b : nat_lt id last ≡ true = grind (arith, nat_tests, lt) in
        and_from _ _ (and_from _ _ (and_from _ _ named (and_from _ _ a b)) refl) refl
    one_keeps d id last (Some f) h some le room named = let t = h f refl in t.keeps last (keeps_later next last t.from le (good t.from t.among))

    one_drawn : (d : Decl) (ds : List Decl) (id last : ℕ) → id + new_ids own (d ∷ ds) ≤ last → is_none (field_for own d) ≡ true → id < last
    one_drawn d ds id last le new =
        let e : new_ids own (d ∷ ds) ≡ suc (new_ids own ds) = ap (λ b. length (cond b (d ∷ filter (is_new own) ds) (filter (is_new own) ds))) new in
        omega (arith, le, e)

    pub stated_keep : (id last : ℕ) (ds : List Decl) → 1 ≤ id → next ≤ last → id + new_ids own ds ≤ last → list_all (λ d. is_name d.name) ds ≡ true → list_all (field_keeps last) (stated_fields own id ds) ≡ true
    stated_keep id last [] some le room named = refl
    stated_keep id last (d ∷ ds) some le room named =
        let r = and_parts (is_name d.name) (list_all (λ d. is_name d.name) ds) named in
        let up = id_rises (field_for own d) id in
        let c = ids_counted own id d ds in
        and_from _ _ (one_keeps d id last (field_for own d) (is_there own d) some le (one_drawn d ds id last room) r.0)
        (stated_keep (id_after (field_for own d) id) last ds (omega (arith, some, up)) le (omega (arith, room, c)) r.1)

    -- no two stated fields have one id
    head_apart : (apart : are_apart (ids_of own) ≡ true) (d : Decl) (ds : List Decl) (id n : ℕ) (o : Option FieldDef) → ((f : FieldDef) → o ≡ Some f → IsThere own d f) → next ≤ id
        → ((b : Decl) → IsOneOf b ds → same d.name b.name ≡ true → ⊥) → n ≡ (placed o id d).id → IsKept ds n ⊎ (id_after o id ≤ n) → ⊥
    head_apart apart d ds id n None h le other e k =
        elim k as (λ _. ⊥) [
          | inl t ↦ let lt = id_drawn next t.from (good t.from t.among) in let q = t.id in omega (arith, lt, q, e, le)
          | inr up ↦ omega (arith, up, e)
        ]
    head_apart apart d ds id n (Some f) h le other e k =
        let m = h f refl in
        elim k as (λ _. ⊥) [
          | inl t ↦
              let q : m.from ≡ t.from = apart_same m.from t.from own apart m.among t.among (sym m.id ∙ sym e ∙ t.id) in
              let a : d.name ≡ t.by.name = sym (equal_texts m.from.name d.name m.called) ∙ ap (λ (x : FieldDef). x.name) q ∙ equal_texts t.from.name t.by.name t.called in
              other t.by t.stated (subst (λ x. same d.name x ≡ true) a (same_text d.name))
          | inr up ↦ let lt = id_drawn next m.from (good m.from m.among) in let q = m.id in omega (arith, lt, q, e, le, up)
        ]

    no_other : (d : Decl) (ds : List Decl) → are_distinct (names_of (d ∷ ds)) ≡ true → (b : Decl) → IsOneOf b ds → same d.name b.name ≡ true → ⊥
    no_other d ds h b i e =
        let r = and_parts (not (list_any (same d.name) (names_of ds))) (are_distinct (names_of ds)) h in
        true≢false (sym (any_passes (same d.name) b.name (names_of ds) (to_map (λ (x : Decl). x.name) b ds i) e) ∙ not-true _ r.0)

    pub stated_apart : are_apart (ids_of own) ≡ true → (id : ℕ) (ds : List Decl) → next ≤ id → are_distinct (names_of ds) ≡ true → are_apart (ids_of (stated_fields own id ds)) ≡ true
    stated_apart apart id [] le distinct = refl
    stated_apart apart id (d ∷ ds) le distinct =
        let up = id_rises (field_for own d) id in
        let rest = stated_fields own (id_after (field_for own d) id) ds in
        apart_from _ (ids_of rest)
        (λ i. head_apart apart d ds id _ (field_for own d) (is_there own d) le (no_other d ds distinct) refl (stated_from (id_after (field_for own d) id) _ ds i))
        (stated_apart apart (id_after (field_for own d) id) ds (omega (arith, le, up)) (and_parts (not (list_any (same d.name) (names_of ds))) (are_distinct (names_of ds)) distinct).1)

-- ---- the stated fields and behind them the past ones

pub current_parts : (fs gs : List FieldDef) → current (fs ++ gs) ≡ current fs ++ current gs
current_parts fs gs = filter-append (λ (f : FieldDef). f.current) fs gs

none_current : (fs : List FieldDef) → ((f : FieldDef) → IsOneOf f fs → f.current ≡ false) → current fs ≡ []
none_current [] h = refl
none_current (f ∷ fs) h = (λ i. cond (h f (inl refl) i) (f ∷ current fs) (current fs)) ∙ none_current fs (λ g j. h g (inr j))

current_in_front : (f : FieldDef) (gs : List FieldDef) → f.current ≡ true → are_in_order gs ≡ true → are_in_order (f ∷ gs) ≡ true
current_in_front f [] c h = refl
current_in_front f (g ∷ gs) c h = and_from _ _ (ap (λ b. b || not g.current && nat_lt f.id g.id) c) h

all_in_front : (fs gs : List FieldDef) → ((f : FieldDef) → IsOneOf f fs → f.current ≡ true) → are_in_order gs ≡ true → are_in_order (fs ++ gs) ≡ true
all_in_front [] gs c h = h
all_in_front (f ∷ fs) gs c h = current_in_front f (fs ++ gs) (c f (inl refl)) (all_in_front fs gs (λ g i. c g (inr i)) h)

module _ (own : List FieldDef) (next : ℕ) (ds : List Decl) (good : AllKeep next own) (apart : are_apart (ids_of own) ≡ true)
    (some : 1 ≤ next) (proper : list_all (λ d. is_name d.name) ds ≡ true) (distinct : are_distinct (names_of ds) ≡ true) where
  stated : List FieldDef
  stated = stated_fields own next ds

  past : List FieldDef
  past = by_id (map made_past (unstated_fields own stated))

  -- a past one was there and isn't stated
  record WasThere (f : FieldDef) : Type 0 where
    from : FieldDef
    among : IsOneOf from own
    unstated : is_in (ids_of stated) from.id ≡ false
    is : f ≡ made_past from

  was_there : (f : FieldDef) → IsOneOf f past → WasThere f
  unfolding past stated
  was_there f i =
      let r = from_map made_past f (unstated_fields own stated) (by_id_from (map made_past (unstated_fields own stated)) f i) in
      let q = from_filter (λ (g : FieldDef). not (is_in (ids_of stated) g.id)) r.0 own r.1 in
      record { from = r.0; among = q.0; unstated = not-true _ q.1; is = r.2 }

  stated_current : (f : FieldDef) → IsOneOf f stated → f.current ≡ true
  unfolding stated
  stated_current f i = (from_filter (λ (g : FieldDef). g.current) f stated (subst (IsOneOf f) (sym (current_stated own next ds)) i)).1

  pub declared_current : current (declared_fields own next ds) ≡ stated_fields own next ds
  unfolding past stated
  declared_current =
      current_parts stated past ∙ (λ i. current_stated own next ds i ++ none_current past (λ f j. ap (λ (x : FieldDef). x.current) (was_there f j).is) i) ∙ append-nil stated

  pub declared_in_order : are_in_order (declared_fields own next ds) ≡ true
  unfolding past stated
  declared_in_order =
      all_in_front stated past stated_current
      (by_id_in_order (map made_past (unstated_fields own stated)) (λ f i. ap (λ (x : FieldDef). x.current) (from_map made_past f (unstated_fields own stated) i).2))

  pub declared_keep : AllKeep (next + new_ids own ds) (declared_fields own next ds)
  unfolding past stated
  declared_keep f i =
      let last = next + new_ids own ds in
      elim (in_append f stated past i) as (λ _. field_keeps last f ≡ true) [
        | inl a ↦ all_pass (field_keeps last) f stated (stated_keep own next good next last ds some (omega arith) (omega arith) proper) a
        | inr b ↦
            let w = was_there f b in
            subst (λ g. field_keeps last g ≡ true) (sym w.is) (plain_keeps last w.from (made_past w.from) refl refl refl (keeps_later next last w.from (omega arith) (good w.from w.among)))
      ]

  disjoint : AreDisjoint (ids_of stated) (ids_of past)
  disjoint n i j =
      let r = from_map (λ (f : FieldDef). f.id) n past j in
      let w = was_there r.0 r.1 in
      let e : n ≡ w.from.id = r.2 ∙ ap (λ (x : FieldDef). x.id) w.is in
      true≢false (sym (is_among w.from.id (ids_of stated) (subst (λ m. IsOneOf m (ids_of stated)) e i)) ∙ w.unstated)

  pub declared_apart : are_apart (ids_of (declared_fields own next ds)) ≡ true
  unfolding past stated
  declared_apart =
      ap are_apart (map-append (λ (f : FieldDef). f.id) stated past)
      ∙ apart_joined (ids_of stated) (ids_of past) (stated_apart own next good apart next ds (omega arith) distinct) (by_id_apart (map made_past (unstated_fields own stated))) disjoint

  -- each id was there or is new
  pub declared_ids : (n : ℕ) → IsOneOf n (ids_of (declared_fields own next ds)) → IsOneOf n (ids_of own) ⊎ (next ≤ n)
  unfolding past stated
  declared_ids n i =
      elim (in_append n (ids_of stated) (ids_of past) (subst (IsOneOf n) (map-append (λ (f : FieldDef). f.id) stated past) i)) as (λ _. IsOneOf n (ids_of own) ⊎ (next ≤ n)) [
        | inl a ↦ (elim (stated_from own next n ds a) as (λ _. IsOneOf n (ids_of own) ⊎ (next ≤ n)) [
          | inl k ↦ inl (subst (λ m. IsOneOf m (ids_of own)) (sym k.id) (to_map (λ (f : FieldDef). f.id) k.from own k.among))
          | inr le ↦ inr le
        ])
        | inr b ↦
            let r = from_map (λ (f : FieldDef). f.id) n past b in
            let w = was_there r.0 r.1 in
            inl (subst (λ m. IsOneOf m (ids_of own)) (sym (r.2 ∙ ap (λ (x : FieldDef). x.id) w.is)) (to_map (λ (f : FieldDef). f.id) w.from own w.among))
      ]
