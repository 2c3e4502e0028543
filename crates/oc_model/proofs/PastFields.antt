-- The latest of some fields is among them, and none of them has a greater id.
use Rattle.std.proofs.Common.{◌≡◌, refl, ap, subst, ◌≤◌, Bool, true, false, ◌||◌, nat_lt, nat_le, List, [], ◌∷◌, fold, Option, Some, None, option_map, unwrap_or, if◌then◌else◌, arith}
use Rattle.std.specs.List.{list_all, list_any}
use Rattle.std.proofs.lemmas.Bool.{and_from, ltb-true, ltb-false, le-leb}
use Rattle.oc_model.specs.declared.schema.FieldDef.{FieldDef}
use Rattle.oc_model.specs.SchemaSteps.{later_field}
use Rattle.oc_model.specs.SchemaEquality.{same_field}
use Rattle.oc_model.proofs.Elements.{or_right}
use Rattle.oc_model.proofs.SchemaLaws.{same_fields}

equal_ids : (g f : FieldDef) → Some g ≡ Some f → g.id ≤ f.id
equal_ids g f e = let q : g.id ≡ f.id = ap (λ (o : Option FieldDef). unwrap_or (option_map (λ (h : FieldDef). h.id) o) 0) e in omega arith

-- of two fields and what is later than the later one: neither has a greater id
both_below : (b : Bool) (g h f : FieldDef) (fs : List FieldDef) → nat_lt g.id h.id ≡ b → ((k : FieldDef) → fold later_field (Some k) fs ≡ Some f → k.id ≤ f.id)
    → fold later_field (if b then Some h else Some g) fs ≡ Some f → (g.id ≤ f.id) × (h.id ≤ f.id)
both_below true g h f fs q rest e = let a = ltb-true g.id h.id q in let r = rest h e in (omega arith, r)
both_below false g h f fs q rest e = let a = ltb-false g.id h.id q in let r = rest g e in (r, omega arith)

rises : (fs : List FieldDef) (g f : FieldDef) → fold later_field (Some g) fs ≡ Some f → g.id ≤ f.id
rises [] g f e = equal_ids g f e
rises (h ∷ fs) g f e = (both_below (nat_lt g.id h.id) g h f fs refl (λ k q. rises fs k f q) e).0

-- what holds after each of two fields holds after the later one
either : {P : Type 0} (b : Bool) (g h : FieldDef) (o : Option FieldDef) (fs : List FieldDef) → ((k : FieldDef) → fold later_field (Some k) fs ≡ o → P) → fold later_field (if b then Some h else Some g) fs ≡ o → P
either true g h o fs rest e = rest h e
either false g h o fs rest e = rest g e

bounds : (fs : List FieldDef) (g f : FieldDef) → fold later_field (Some g) fs ≡ Some f → list_all (λ (k : FieldDef). nat_le k.id f.id) fs ≡ true
bounds [] g f e = refl
bounds (h ∷ fs) g f e =
    and_from _ _ (le-leb h.id f.id (both_below (nat_lt g.id h.id) g h f fs refl (λ k q. rises fs k f q) e).1) (either (nat_lt g.id h.id) g h (Some f) fs (λ k q. bounds fs k f q) e)

equal_same : (g f : FieldDef) → Some g ≡ Some f → same_field f g ≡ true
equal_same g f e =
    let q : g ≡ f = ap (λ (o : Option FieldDef). unwrap_or o g) e in
    subst (λ (k : FieldDef). same_field k g ≡ true) q (same_fields g)

or_between : (a b c : Bool) → (a || c) ≡ true → (a || (b || c)) ≡ true
or_between true b c h = refl
or_between false b c h = or_right b c h

one_of : (b : Bool) (g h f : FieldDef) (fs : List FieldDef) → ((k : FieldDef) → fold later_field (Some k) fs ≡ Some f → (same_field f k || list_any (same_field f) fs) ≡ true)
    → fold later_field (if b then Some h else Some g) fs ≡ Some f → (same_field f g || (same_field f h || list_any (same_field f) fs)) ≡ true
one_of true g h f fs rest e = or_right (same_field f g) _ (rest h e)
one_of false g h f fs rest e = or_between (same_field f g) (same_field f h) _ (rest g e)

among : (fs : List FieldDef) (g f : FieldDef) → fold later_field (Some g) fs ≡ Some f → (same_field f g || list_any (same_field f) fs) ≡ true
among [] g f e = ap (λ b. b || false) (equal_same g f e)
among (h ∷ fs) g f e = one_of (nat_lt g.id h.id) g h f fs (λ k q. among fs k f q) e

pub latest_among : (fs : List FieldDef) (f : FieldDef) → fold later_field None fs ≡ Some f → list_any (same_field f) fs ≡ true
latest_among [] f e = absurd (cc)
latest_among (g ∷ fs) f e = among fs g f e

pub latest_bounds : (fs : List FieldDef) (f : FieldDef) → fold later_field None fs ≡ Some f → list_all (λ (k : FieldDef). nat_le k.id f.id) fs ≡ true
latest_bounds [] f e = refl
latest_bounds (g ∷ fs) f e = and_from _ _ (le-leb g.id f.id (rises fs g f e)) (bounds fs g f e)

none_left : (fs : List FieldDef) (g : FieldDef) → fold later_field (Some g) fs ≡ None → ⊥
none_left [] g e = cc
none_left (h ∷ fs) g e = either (nat_lt g.id h.id) g h None fs (λ k q. none_left fs k q) e

pub latest_of_none : (fs : List FieldDef) → fold later_field None fs ≡ None → fs ≡ []
latest_of_none [] e = refl
latest_of_none (g ∷ fs) e = absurd (none_left fs g e)
