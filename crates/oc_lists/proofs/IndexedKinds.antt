-- The indexed fields of classes, one behind another.
use Rattle.std.proofs.Common.{◌≡◌, ◌⊎◌, inl, inr, ◌∙◌, ap, sym, refl, subst, ℕ, zero, suc, ◌+◌, ◌<◌, Bool, true, false, true≢false, cond, List, [], ◌∷◌, ◌++◌, length, get_or, drop, map, filter, Option, None, Some, is_some, nat_eq, append_assoc, add-one, arith, nat_cmp}
use Rattle.std.specs.Prelude.{flat_map, IfSome, IsSome}
use Rattle.std.specs.Ordering.{is_eq}
use Rattle.std.specs.Cmp.{nat_cmp_total, tied_itself}
use Rattle.std.proofs.Math.Seq.{drop-cons}
use Rattle.std.proofs.lemmas.Bool.{eqb-true}
use Rattle.std.proofs.lemmas.Map.Lookups.{exact_unsigned}
use Rattle.std.proofs.lemmas.List.{map-append}
use Rattle.std.proofs.lemmas.List.Elements.{filter-append}
use Rattle.oc_model.specs.declared.value.Base.{Base}
use Rattle.oc_model.specs.declared.value.Base.TheVariants as base
use Rattle.oc_model.specs.Lists.{IsOneOf}
use Rattle.oc_model.specs.Lengths.{indexed_fields}
use Rattle.oc_model.proofs.Elements.{from_map, is_among, some_passes, to_map}
use Rattle.oc_model.proofs.Reaching.{is_equal}
use Rattle.oc_model.specs.declared.schema.FieldDef.{FieldDef}
use Rattle.oc_model.specs.declared.schema.ClassDef.{ClassDef}
use Rattle.oc_model.specs.Schemas.{Schema, class_at}
use Rattle.oc_model.specs.Stores.{base_of}
use Rattle.oc_catalog.specs.Catalogs.{indexed_ids}
use Rattle.oc_catalog.proofs.Numbered.{class_turn, told_of}
use Rattle.oc_lists.specs.Following.{has_index}
use Rattle.oc_lists.specs.Lists.{bases_in}

-- those of some fields
abbrev pub bases_of_fields : List FieldDef → List (ℕ × Base)
bases_of_fields fields = map (λ (f : FieldDef). (f.id, base_of f.kind)) (filter (λ (f : FieldDef). f.indexed) fields)

-- those of some classes
abbrev pub bases_of_classes : List ClassDef → List (ℕ × Base)
bases_of_classes classes = bases_of_fields (flat_map (λ (c : ClassDef). c.fields) classes)

bases_append : (fs gs : List FieldDef) → bases_of_fields (fs ++ gs) ≡ bases_of_fields fs ++ bases_of_fields gs
bases_append fs gs = ap (map (λ (f : FieldDef). (f.id, base_of f.kind))) (filter-append (λ (f : FieldDef). f.indexed) fs gs) ∙ map-append (λ (f : FieldDef). (f.id, base_of f.kind)) (filter (λ (f : FieldDef). f.indexed) fs) (filter (λ (f : FieldDef). f.indexed) gs)

pub class_more : (s : Schema) (place : ℕ) → place < length s.classes → (old new : List (ℕ × Base)) → IfSome (class_at s (place + 1)) (λ (c : ClassDef). new ≡ old ++ bases_of_fields c.fields)
    → old ++ bases_of_classes (drop place s.classes) ≡ bases_in s → new ++ bases_of_classes (drop (place + 1) s.classes) ≡ bases_in s
class_more s place lt old new more so_far =
    let t = class_turn s place lt in
    ap (λ l. l ++ bases_of_classes (drop (place + 1) s.classes)) (told_of (λ (c : ClassDef). new ≡ old ++ bases_of_fields c.fields) (class_at s (place + 1)) t.0 t.1 more)
    ∙ append_assoc old (bases_of_fields (t.0).fields) (bases_of_classes (drop (place + 1) s.classes))
    ∙ ap (λ l. old ++ l) (sym (bases_append (t.0).fields (flat_map (λ (c : ClassDef). c.fields) (drop (place + 1) s.classes))))
    ∙ ap (λ l. old ++ bases_of_classes l) (sym t.2)
    ∙ so_far

-- ---- a map of them

pub one_at : {X : Type 0} (xs : List X) (i : ℕ) (d : X) → i < length xs → IsOneOf (get_or xs i d) xs
one_at [] i d lt = absurd (omega arith)
one_at (x ∷ xs) zero d lt = inl refl
one_at (x ∷ xs) (suc i) d lt = inr (one_at xs i d (omega arith))

-- a pair is entered
module _ (ps : List (ℕ × Base)) (i : ℕ) (lt : i < length ps) (old new : ℕ → Option Base) (updated : (q : ℕ) → new q ≡ cond (is_eq (nat_cmp (get_or ps i (0, base.Bool)).0 q)) (Some (get_or ps i (0, base.Bool)).1) (old q)) where
  abbrev here : ℕ × Base
  here = get_or ps i (0, base.Bool)

  turn : drop i ps ≡ here ∷ drop (i + 1) ps
  turn = drop-cons ps i (0, base.Bool) lt ∙ (λ j. here ∷ drop (sym (add-one i) j) ps)

  some_same : (a b : Base) → Some a ≡ Some b → a ≡ b
  some_same a b e = cc

  pub entered_right : ((id : ℕ) (b : Base) → old id ≡ Some b → IsOneOf (id, b) ps) → (id : ℕ) (b : Base) → new id ≡ Some b → IsOneOf (id, b) ps
  entered_right so_far id b e = by_key (is_eq (nat_cmp here.0 id)) refl
    where
      by_key : (t : Bool) → is_eq (nat_cmp here.0 id) ≡ t → IsOneOf (id, b) ps
      by_key true same =
          let key : here.0 ≡ id = exact_unsigned here.0 id (is_equal _ same) in
          let kind : here.1 ≡ b = some_same here.1 b (sym (updated id ∙ ap (λ t. cond t (Some here.1) (old id)) same) ∙ e) in
          subst (λ (p : ℕ × Base). IsOneOf p ps) {x = here} {y = (id, b)} (λ j. (key j, kind j)) (one_at ps i (0, base.Bool) lt)
      by_key false other = so_far id b (sym (updated id ∙ ap (λ t. cond t (Some here.1) (old id)) other) ∙ e)

  pub entered_there : ((id : ℕ) (b : Base) → IsOneOf (id, b) ps → IsSome (old id) ⊎ IsOneOf (id, b) (drop i ps)) → (id : ℕ) (b : Base) → IsOneOf (id, b) ps → IsSome (new id) ⊎ IsOneOf (id, b) (drop (i + 1) ps)
  entered_there so_far id b one = by_place (so_far id b one)
    where
      by_key : (t : Bool) → is_eq (nat_cmp here.0 id) ≡ t → (is_eq (nat_cmp here.0 id) ≡ true) ⊎ IsSome (old id) → IsSome (new id)
      by_key true same h = subst IsSome (sym (updated id ∙ ap (λ t. cond t (Some here.1) (old id)) same)) refl
      by_key false other (inl same) = absurd (true≢false (sym same ∙ other))
      by_key false other (inr some) = subst IsSome (sym (updated id ∙ ap (λ t. cond t (Some here.1) (old id)) other)) some

      by_turn : IsOneOf (id, b) (here ∷ drop (i + 1) ps) → IsSome (new id) ⊎ IsOneOf (id, b) (drop (i + 1) ps)
      by_turn (inl same) = inl (by_key (is_eq (nat_cmp here.0 id)) refl (inl (ap (λ k. is_eq (nat_cmp k id)) (sym (ap (λ p. p.0) same)) ∙ ap is_eq (tied_itself nat_cmp_total id))))
      by_turn (inr behind) = inr behind

      by_place : IsSome (old id) ⊎ IsOneOf (id, b) (drop i ps) → IsSome (new id) ⊎ IsOneOf (id, b) (drop (i + 1) ps)
      by_place (inl some) = inl (by_key (is_eq (nat_cmp here.0 id)) refl (inr some))
      by_place (inr behind) = by_turn (subst (IsOneOf (id, b)) turn behind)

-- ---- the keys of the map

module _ (s : Schema) (m : ℕ → Option Base) (right : (id : ℕ) (b : Base) → m id ≡ Some b → IsOneOf (id, b) (bases_in s)) (there : (id : ℕ) (b : Base) → IsOneOf (id, b) (bases_in s) → IsSome (m id)) where
  based_id : (id : ℕ) (b : Base) → IsOneOf (id, b) (bases_in s) → has_index s id ≡ true
  based_id id b one =
      let f = from_map (λ (f : FieldDef). (f.id, base_of f.kind)) (id, b) (indexed_fields s) one in
      subst (λ k. has_index s k ≡ true) (sym (ap (λ (e : ℕ × Base). e.0) f.2)) (is_among (f.0).id (indexed_ids s.classes) (to_map (λ (g : FieldDef). g.id) f.0 (indexed_fields s) f.1))

  index_based : (id : ℕ) → has_index s id ≡ true → IsSome (m id)
  index_based id it =
      let n = some_passes (nat_eq id) (indexed_ids s.classes) it in
      let f = from_map (λ (g : FieldDef). g.id) n.0 (indexed_fields s) n.1 in
      there id (base_of (f.0).kind) (subst (λ k. IsOneOf (k, base_of (f.0).kind) (bases_in s)) (sym (eqb-true id n.0 n.2 ∙ f.2)) (to_map (λ (g : FieldDef). (g.id, base_of g.kind)) f.0 (indexed_fields s) f.1))

  pub keys_are : (id : ℕ) → is_some (m id) ≡ has_index s id
  keys_are id = (elim (m id) as (λ o. m id ≡ o → is_some o ≡ has_index s id) [
    | None ↦ λ none. off (has_index s id) (λ it. true≢false (sym (index_based id it) ∙ ap is_some none))
    | Some b ↦ λ some. sym (based_id id b (right id b some))
  ]) refl
    where
      off : (b : Bool) → ¬ (b ≡ true) → false ≡ b
      off true never = absurd (never refl)
      off false never = refl
