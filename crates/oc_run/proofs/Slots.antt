-- The values of a new record in their places.
use Rattle.std.proofs.Common.{◌≡◌, ℕ, zero, suc, ◌+◌, ◌<◌, ◌≤◌, ⊎_elim, Bool, true, false, not, ◌||◌, ◌==◌, nat_lt, List, [], ◌∷◌, length, map, drop, find, slice_get, slice_set, get_or, Option, Some, None, is_some, Ok, Err, refl, sym, ap, subst, ◌∙◌, arith, zero-add, add-zero}
use Rattle.std.specs.List.{list_any}
use Rattle.std.proofs.lemmas.Bool.{cases_Bool, cond-true, cond-false, and_parts, or_parts, or_cases, not-true}
use Rattle.std.proofs.lemmas.Bool.Decides.{nat_tests}
use Rattle.std.proofs.lemmas.List.{length-set, at_drop_more}
use Rattle.std.proofs.lemmas.Option.{some_pair_parts}
use Rattle.oc_model.specs.declared.value.Kind.{Kind}
use Rattle.oc_model.specs.declared.value.Value.{Value}
use Rattle.oc_model.specs.declared.value.Entry.{Entry}
use Rattle.oc_model.specs.declared.schema.FieldDef.{FieldDef}
use Rattle.oc_model.specs.declared.command.Given.{Given}
use Rattle.oc_model.specs.declared.answer.Word.TheVariants as word
use Rattle.oc_model.specs.Maps.{Text, same, are_distinct}
use Rattle.oc_model.specs.Refusals.{Checked, ◌>>=◌, ◌>>◌, unless}
use Rattle.oc_model.specs.Values.{fits}
use Rattle.oc_model.specs.Stores.{entered, entry_for}
use Rattle.oc_run.specs.ListStore.{Ascends, value_of, placed_from, SlotList, is_filled, with_given, with_all_given, blank, chosen}
use Rattle.oc_run.proofs.ListLemmas.{after, same_text, text_same}

-- ---- one value more

fields_above : (low : ℕ) (fs : List FieldDef) (i : ℕ) (f : FieldDef) → Ascends low fs → slice_get fs i ≡ Some f → low ≤ f.id
fields_above low [] i f h e = absurd cc
fields_above low (g ∷ fs) zero f h e = let s : g ≡ f = cc in subst (λ x. low ≤ x.id) s h.0
fields_above low (g ∷ fs) (suc i) f h e = let a = h.0 in let b = fields_above (g.id + 1) fs i f h.2 e in omega arith

entered_first : (low : ℕ) (fs : List FieldDef) (vs : SlotList) (e : Entry) → Ascends low fs → e.id < low → entered e (chosen fs vs) ≡ e ∷ chosen fs vs
entered_first low [] vs e h lt = refl
entered_first low (f ∷ fs) [] e h lt = refl
entered_first low (f ∷ fs) (None ∷ vs) e h lt = let a = h.0 in entered_first (f.id + 1) fs vs e h.2 (omega arith)
entered_first low (f ∷ fs) (Some v ∷ vs) e h lt =
    let a = h.0 in
    let ne : (e.id == f.id) ≡ false = grind (arith, nat_tests) in
    let y : nat_lt e.id f.id ≡ true = grind (arith, nat_tests) in
    rw (ne, y) refl

pub chosen_more : (low : ℕ) (fs : List FieldDef) (vs : SlotList) (i : ℕ) (f : FieldDef) (v : Value) → Ascends low fs → length vs ≡ length fs → slice_get fs i ≡ Some f → is_filled vs i ≡ false
    → entered (entry_for f v) (chosen fs vs) ≡ chosen fs (slice_set vs i (Some v))
chosen_more low [] vs i f v h l e free = absurd cc
chosen_more low (g ∷ fs) [] i f v h l e free = absurd (omega arith)
chosen_more low (g ∷ fs) (None ∷ vs) zero f v h l e free =
    let s : g ≡ f = cc in
    entered_first (g.id + 1) fs vs (entry_for f v) h.2 (let t : f.id ≡ g.id = ap (λ x. x.id) (sym s) in omega arith) ∙ ap (λ x. entry_for x v ∷ chosen fs vs) (sym s)
chosen_more low (g ∷ fs) (Some w ∷ vs) zero f v h l e free = absurd cc
chosen_more low (g ∷ fs) (None ∷ vs) (suc i) f v h l e free = chosen_more (g.id + 1) fs vs i f v h.2 (omega arith) e free
chosen_more low (g ∷ fs) (Some w ∷ vs) (suc i) f v h l e free =
    let a = fields_above (g.id + 1) fs i f h.2 e in
    let ne : (f.id == g.id) ≡ false = grind (arith, nat_tests) in
    let lt : nat_lt f.id g.id ≡ false = grind (arith, nat_tests) in
    rw (ne, lt) (ap (λ xs. entry_for g w ∷ xs) (chosen_more (g.id + 1) fs vs i f v h.2 (omega arith) e free))

-- the field that a name finds, and its place
pub record IsPlaced (fs : List FieldDef) (n : ℕ) (name : Text) (f : FieldDef) : Type 0 where
  pub place : ℕ
  pub at_place : slice_get fs place ≡ Some f
  pub called : same f.name name ≡ true
  pub placed : placed_from n fs name ≡ Some (n + place, f.kind)

pub placed_is : (n : ℕ) (fs : List FieldDef) (name : Text) (f : FieldDef) → find (λ f. same f.name name) fs ≡ Some f → IsPlaced fs n name f
placed_is n [] name f e = absurd cc
placed_is n (g ∷ fs) name f e =
    ⊎_elim
    (λ y. let s : Some g ≡ Some f = sym (cond-true _ _ _ y) ∙ e in let t : g ≡ f = cc in
    record { place = 0; at_place = s; called = subst (λ x. same x.name name ≡ true) t y; placed = cond-true _ _ _ y ∙ rw t (ap (λ k. Some (k, f.kind)) (sym (add-zero n))) })
    (λ no. let r = placed_is (n + 1) fs name f (sym (cond-false _ _ _ no) ∙ e) in
    record { place = suc r.place; at_place = r.at_place; called = r.called; placed = cond-false _ _ _ no ∙ r.placed ∙ ap (λ k. Some (k, f.kind)) (omega arith) })
    (cases_Bool (same g.name name))

pub not_placed : (n : ℕ) (fs : List FieldDef) (name : Text) → find (λ f. same f.name name) fs ≡ None → placed_from n fs name ≡ None
not_placed n [] name e = refl
not_placed n (g ∷ fs) name e =
    ⊎_elim
    (λ y. let s : Some g ≡ None = sym (cond-true _ _ _ y) ∙ e in absurd cc)
    (λ no. cond-false _ _ _ no ∙ not_placed (n + 1) fs name (sym (cond-false _ _ _ no) ∙ e))
    (cases_Bool (same g.name name))

pub placed_within : (n : ℕ) (fs : List FieldDef) (name : Text) (i : ℕ) (k : Kind) → placed_from n fs name ≡ Some (i, k) → i < n + length fs
placed_within n [] name i k e = absurd cc
placed_within n (g ∷ fs) name i k e =
    ⊎_elim
    (λ y. let t = (some_pair_parts n i g.kind k (sym (cond-true _ _ _ y) ∙ e)).0 in omega arith)
    (λ no. let r = placed_within (n + 1) fs name i k (sym (cond-false _ _ _ no) ∙ e) in omega arith)
    (cases_Bool (same g.name name))

or_later : (b c : Bool) → c ≡ true → (b || c) ≡ true
or_later true c e = refl
or_later false c e = e

-- a name that is placed is a field's
placed_name : (n : ℕ) (fs : List FieldDef) (i : ℕ) (name : Text) (p : ℕ × Kind) → placed_from n (drop i fs) name ≡ Some p → list_any (λ t. same t name) (map (λ f. f.name) fs) ≡ true
placed_name n [] zero name p e = absurd cc
placed_name n [] (suc i) name p e = absurd cc
placed_name n (f ∷ fs) zero name p e =
    ⊎_elim
    (λ y. rw y refl)
    (λ no. rw no (placed_name (n + 1) fs 0 name p (sym (cond-false _ _ _ no) ∙ e)))
    (cases_Bool (same f.name name))
placed_name n (f ∷ fs) (suc i) name p e = or_later (same f.name name) (list_any (λ t. same t name) (map (λ f. f.name) fs)) (placed_name n fs i name p e)

-- a name apart from all of these is none of them
apart_from_all : (a b : Text) (ts : List Text) → list_any (same a) ts ≡ false → list_any (λ t. same t b) ts ≡ true → same a b ≡ false
apart_from_all a b [] free y = absurd cc
apart_from_all a b (t ∷ ts) free y =
    let parts = or_parts (same a t) (list_any (same a) ts) free in
    ⊎_elim
    (λ h. let s : t ≡ b = same_text t b h in subst (λ x. same a x ≡ false) s parts.0)
    (λ h. apart_from_all a b ts parts.1 h)
    (or_cases (same t b) (list_any (λ t. same t b) ts) y)

-- where no name comes twice, a field that is found from some place on is the first of its name
placed_late : (i k : ℕ) (fs : List FieldDef) (name : Text) (p : ℕ × Kind) → are_distinct (map (λ f. f.name) fs) ≡ true → placed_from (k + i) (drop i fs) name ≡ Some p → placed_from k fs name ≡ Some p
placed_late zero k fs name p d e = rw (← add-zero k) e
placed_late (suc i) k [] name p d e = absurd cc
placed_late (suc i) k (f ∷ fs) name p d e =
    let parts = and_parts (not (list_any (same f.name) (map (λ f. f.name) fs))) (are_distinct (map (λ f. f.name) fs)) d in
    let free = apart_from_all f.name name (map (λ f. f.name) fs) (not-true _ parts.0) (placed_name (k + suc i) fs i name p e) in
    cond-false _ _ _ free ∙ placed_late i (k + 1) fs name p parts.1 (ap (λ n. placed_from n (drop i fs) name) (sym (after k i)) ∙ e)

pub placed_first : (i : ℕ) (fs : List FieldDef) (name : Text) (p : ℕ × Kind) → are_distinct (map (λ f. f.name) fs) ≡ true → placed_from i (drop i fs) name ≡ Some p → placed_from 0 fs name ≡ Some p
placed_first i fs name p d e = placed_late i 0 fs name p d (ap (λ n. placed_from n (drop i fs) name) (zero-add i) ∙ e)

pub record IsAt (fs : List FieldDef) (n : ℕ) (name : Text) (i : ℕ) : Type 0 where
  place : ℕ
  field : FieldDef
  number : i ≡ n + place
  at_place : slice_get fs place ≡ Some field
  called : same field.name name ≡ true

placed_at : (n : ℕ) (fs : List FieldDef) (name : Text) (i : ℕ) (k : Kind) → placed_from n fs name ≡ Some (i, k) → IsAt fs n name i
placed_at n [] name i k e = absurd cc
placed_at n (g ∷ fs) name i k e =
    ⊎_elim
    (λ y. let t = (some_pair_parts n i g.kind k (sym (cond-true _ _ _ y) ∙ e)).0 in
    record { place = 0; field = g; number = omega arith; at_place = refl; called = y })
    (λ no. let r = placed_at (n + 1) fs name i k (sym (cond-false _ _ _ no) ∙ e) in
    record { place = suc r.place; field = r.field; number = let m = r.number in omega arith; at_place = r.at_place; called = r.called })
    (cases_Bool (same g.name name))

filled_set_same : (vs : SlotList) (p : ℕ) (v : Value) → p < length vs → is_filled (slice_set vs p (Some v)) p ≡ true
filled_set_same [] p v lt = absurd (omega arith)
filled_set_same (w ∷ vs) zero v lt = refl
filled_set_same (w ∷ vs) (suc p) v lt = filled_set_same vs p v (omega arith)

filled_set_other : (vs : SlotList) (p i : ℕ) (w : Option Value) → (i ≡ p → ⊥) → is_filled (slice_set vs p w) i ≡ is_filled vs i
filled_set_other [] p i w ne = refl
filled_set_other (u ∷ vs) zero zero w ne = absurd (ne refl)
filled_set_other (u ∷ vs) zero (suc i) w ne = refl
filled_set_other (u ∷ vs) (suc p) zero w ne = refl
filled_set_other (u ∷ vs) (suc p) (suc i) w ne = filled_set_other vs p i w (λ e. ne (ap suc e))

-- a name was seen where the place of its field has a value
abbrev pub SeenIs : List FieldDef → List Text → SlotList → Type 0
SeenIs fs seen vs = (name : Text) (i : ℕ) (k : Kind) → placed_from 0 fs name ≡ Some (i, k) → list_any (same name) seen ≡ is_filled vs i

pub seen_more : (fs : List FieldDef) (seen : List Text) (vs : SlotList) (given : Text) (p : ℕ) (k : Kind) (v : Value) → placed_from 0 fs given ≡ Some (p, k) → length vs ≡ length fs
    → SeenIs fs seen vs → SeenIs fs (given ∷ seen) (slice_set vs p (Some v))
seen_more fs seen vs given p k v placed l h name i j e =
    ⊎_elim
    (λ y.
    let s : name ≡ given = same_text name given y in
    let t : placed_from 0 fs given ≡ Some (i, j) = subst (λ x. placed_from 0 fs x ≡ Some (i, j)) s e in
    let q : i ≡ p = (some_pair_parts i p j k (sym t ∙ placed)).0 in
    let lt = placed_within 0 fs given p k placed in
    rw (y, q) (sym (filled_set_same vs p v (omega arith))))
    (λ no.
    let a = placed_at 0 fs name i j e in
    let b = placed_at 0 fs given p k placed in
    let an = a.number in
    let bn = b.number in
    let ne : i ≡ p → ⊥ = λ q.
    let pp : a.place ≡ b.place = omega arith in
    let sf : Some a.field ≡ Some b.field = sym a.at_place ∙ ap (slice_get fs) pp ∙ b.at_place in
    let ff : a.field ≡ b.field = cc in
    let n1 : name ≡ given = sym (same_text a.field.name name a.called) ∙ ap (λ x. x.name) ff ∙ same_text b.field.name given b.called in
    let yes : same name given ≡ true = text_same name given n1 in
    absurd cc in
    rw no (h name i j e ∙ sym (filled_set_other vs p i (Some v) ne)))
    (cases_Bool (same name given))

-- ---- all values

pub blank_chosen : (fs : List FieldDef) → chosen fs (blank fs) ≡ []
blank_chosen [] = refl
blank_chosen (f ∷ fs) = blank_chosen fs

pub blank_long : (fs : List FieldDef) → length (blank fs) ≡ length fs
blank_long [] = refl
blank_long (f ∷ fs) = ap suc (blank_long fs)

pub blank_free : (fs : List FieldDef) (i : ℕ) → false ≡ is_filled (blank fs) i
blank_free [] i = refl
blank_free (f ∷ fs) zero = refl
blank_free (f ∷ fs) (suc i) = blank_free fs i

pub given_long : (fs : List FieldDef) (vs ws : SlotList) (g : Given) → with_given fs vs g ≡ Ok ws → length ws ≡ length vs
given_long fs vs ws g e = by_place (placed_from 0 fs g.name) refl
  where
    by_tests : (i : ℕ) (k : Kind) (b t : Bool) → (unless (not b) word.Exists >> unless t word.Kind >> Ok (slice_set vs i (Some (value_of k g.value)))) ≡ Ok ws → length ws ≡ length vs
    by_tests i k true t e = absurd cc
    by_tests i k false true e = let s : slice_set vs i (Some (value_of k g.value)) ≡ ws = cc in ap length (sym s) ∙ length-set vs i (Some (value_of k g.value))
    by_tests i k false false e = absurd cc

    by_place : (o : Option (ℕ × Kind)) → placed_from 0 fs g.name ≡ o → length ws ≡ length vs
    by_place None o = let t = rw o at e in absurd cc
    by_place (Some p) o = by_tests p.0 p.1 (is_filled vs p.0) (fits p.1 (value_of p.1 g.value)) (rw o at e)

pub length-all : (fs : List FieldDef) (gs : List Given) (vs ws : SlotList) → with_all_given fs vs gs ≡ Ok ws → length ws ≡ length vs
length-all fs [] vs ws e = let s : vs ≡ ws = cc in ap length (sym s)
length-all fs (g ∷ gs) vs ws e = by_first (with_given fs vs g) refl (λ us h. length-all fs gs us ws h)
  where
    by_first : (r : Checked SlotList) → with_given fs vs g ≡ r → ((us : SlotList) → with_all_given fs us gs ≡ Ok ws → length ws ≡ length us) → length ws ≡ length vs
    by_first (Err w) h rest = let t = rw h at e in absurd cc
    by_first (Ok us) h rest = rest us (rw h at e) ∙ given_long fs vs us g h

pub filled_read : (vs : SlotList) (i : ℕ) (v : Option Value) → i < length vs → v ≡ get_or vs i v → is_filled vs i ≡ is_some v
filled_read [] i v lt e = absurd (omega arith)
filled_read (w ∷ vs) zero v lt e = ap is_some (sym e)
filled_read (w ∷ vs) (suc i) v lt e = filled_read vs i v (omega arith) e

-- one given value more
pub given_more : (fs : List FieldDef) (vs ws : SlotList) (gs : List Given) (i : ℕ) (g : Given) (r : Checked SlotList) → with_given fs vs g ≡ Ok ws → i < length gs → g ≡ get_or gs i g
    → with_all_given fs vs (drop i gs) ≡ r → with_all_given fs ws (drop (i + 1) gs) ≡ r
given_more fs vs ws gs i g r e lt item h =
    let t : with_all_given fs vs (drop i gs) ≡ (with_given fs vs (get_or gs i g) >>= λ us. with_all_given fs us (drop (i + 1) gs)) = at_drop_more (with_all_given fs vs) gs i g lt in
    let u : with_given fs vs (get_or gs i g) ≡ Ok ws = ap (with_given fs vs) (sym item) ∙ e in
    sym (rw u at t) ∙ h
