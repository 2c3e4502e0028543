-- The check of given values, one after another.
use Rattle.std.proofs.Common.{◌≡◌, refl, sym, ap, ◌∙◌, ℕ, suc, ◌+◌, ◌<◌, ◌≤◌, Bool, true, false, cond, not, ◌&&◌, ◌||◌, List, [], ◌∷◌, ◌++◌, map, flat_map, reverse, take, drop, get_or, length, Option, Some, None, Ok, Err, option_map, nat_le, nat_cmp, add-one}
use Rattle.std.specs.List.{cons_option, list_any}
use Rattle.std.specs.Ordering.{is_lt}
use Rattle.std.proofs.lemmas.List.{reverse-append}
use Rattle.std.proofs.lemmas.List.Folds.{list_all-append, list_any-append}
use Rattle.std.proofs.Math.ListN.{drop_of_length-le}
use Rattle.std.proofs.Math.Seq.{drop-cons, take-suc}
use Rattle.oc_model.specs.declared.schema.FieldDef.{FieldDef}
use Rattle.oc_model.specs.declared.answer.Word.{Word}
use Rattle.oc_model.specs.declared.answer.Word.TheVariants as word
use Rattle.oc_model.specs.declared.command.Given.{Given}
use Rattle.oc_model.specs.declared.command.Single.{Single}
use Rattle.oc_model.specs.declared.command.Single.TheVariants as single
use Rattle.oc_model.specs.declared.command.ValueText.{ValueText}
use Rattle.oc_model.specs.declared.command.ValueText.TheVariants as valued
use Rattle.oc_model.specs.Lists.{placed, sorted}
use Rattle.oc_model.specs.Maps.{Text, same}
use Rattle.oc_model.specs.Nodes.{is_stored}
use Rattle.oc_model.specs.Refusals.{Checked, ◌>>=◌, ◌>>◌, unless, or_refuse}
use Rattle.oc_model.specs.Schemas.{Schema, field_named}
use Rattle.oc_model.specs.States.{State}
use Rattle.oc_model.specs.Values.{fits}
use Rattle.oc_machine.specs.Values.{FieldValues, checked, numbers_given, numbers_in_single, numbers_in_value, single_found, singles_found, value_found, value_of}
use Rattle.oc_container.specs.Givens.{fields_given, given_checked, names_back, numbers_named, verdict, AreNumbers}
use Rattle.oc_container.specs.Made.{IsChecked}

-- ---- names that were given

-- whether a name is among those of some values, in whatever order
pub named_back : (t : Text) (gs : List Given) → list_any (same t) (names_back gs) ≡ list_any (λ g. same t g.name) gs
named_back t [] = refl
named_back t (g ∷ gs) =
    ap (list_any (same t)) (reverse-append (g.name ∷ []) (map (λ (g : Given). g.name) gs))
    ∙ list_any-append (same t) (names_back gs) (g.name ∷ [])
    ∙ turned (list_any (same t) (names_back gs)) (same t g.name)
    ∙ ap (λ b. same t g.name || b) (named_back t gs)
  where
    turned : (a b : Bool) → (a || (b || false)) ≡ (b || a)
    turned true true = refl
    turned true false = refl
    turned false true = refl
    turned false false = refl

-- with one value more
pub back_more : (gs : List Given) (i : ℕ) (g : Given) → i < length gs → g ≡ get_or gs i g → names_back (take (i + 1) gs) ≡ g.name ∷ names_back (take i gs)
back_more gs i g less is =
    rw add-one (
    ap names_back (take-suc gs i g less ∙ ap (λ (x : Given). take i gs ++ x ∷ []) (sym is))
    ∙ ap reverse (names_append (take i gs) g)
    ∙ reverse-append (map (λ (g : Given). g.name) (take i gs)) (g.name ∷ []))
  where
    names_append : (hs : List Given) (g : Given) → map (λ (g : Given). g.name) (hs ++ g ∷ []) ≡ map (λ (g : Given). g.name) hs ++ g.name ∷ []
    names_append [] g = refl
    names_append (h ∷ hs) g = ap (λ (ts : List Text). h.name ∷ ts) (names_append hs g)

-- ---- one step

-- what follows a step that takes the value
after_step : (o : Checked FieldDef) (a : FieldDef → Checked (Unit {0})) (v : ValueText) (rest : Checked FieldValues) → (o >>= a) ≡ Ok tt → verdict (o >>= λ f. a f >> rest >>= λ more. Ok ((f, v) ∷ more)) ≡ verdict rest
after_step (Err w) a v rest h = absurd (cc)
after_step (Ok f) a v rest h = ap (λ (t : Checked (Unit {0})). verdict (t >> rest >>= λ more. Ok ((f, v) ∷ more))) h ∙ elim rest as (λ r. verdict (r >>= λ more. Ok ((f, v) ∷ more)) ≡ verdict r) [ Ok fs ↦ refl | Err w ↦ refl ]

-- a step that refuses it
at_step : (o : Checked FieldDef) (a : FieldDef → Checked (Unit {0})) (v : ValueText) (rest : Checked FieldValues) (w : Word) → (o >>= a) ≡ Err w → verdict (o >>= λ f. a f >> rest >>= λ more. Ok ((f, v) ∷ more)) ≡ Err w
at_step (Err x) a v rest w h = h
at_step (Ok f) a v rest w h = ap (λ (t : Checked (Unit {0})). verdict (t >> rest >>= λ more. Ok ((f, v) ∷ more))) h

module _ (m : State) (c : ℕ) (seen : List Text) (g : Given) (gs : List Given) where
  pub checked_on : given_checked m c seen g ≡ Ok tt → verdict (checked m c seen (g ∷ gs)) ≡ verdict (checked m c (g.name ∷ seen) gs)
  unfolding checked
  checked_on h = after_step (or_refuse (field_named m.session.schema c g.name) word.Field) (λ f. unless (not (list_any (same g.name) seen)) word.Exists >> value_found m g.value >> unless (fits f.kind (value_of m f.kind g.value)) word.Kind) g.value (checked m c (g.name ∷ seen) gs) h

  pub checked_to : (w : Word) → given_checked m c seen g ≡ Err w → verdict (checked m c seen (g ∷ gs)) ≡ Err w
  unfolding checked
  checked_to w h = at_step (or_refuse (field_named m.session.schema c g.name) word.Field) (λ f. unless (not (list_any (same g.name) seen)) word.Exists >> value_found m g.value >> unless (fits f.kind (value_of m f.kind g.value)) word.Kind) g.value (checked m c (g.name ∷ seen) gs) w h

-- a value against a field that the class has
pub one_checked : (m : State) (c : ℕ) (earlier : List Given) (g : Given) (s : Schema) (name : Text) (f : FieldDef) (b : Bool) → s ≡ m.session.schema → name ≡ g.name → field_named s c name ≡ Some f → b ≡ list_any (λ (h : Given). same name h.name) earlier
    → given_checked m c (names_back earlier) g ≡ (unless (not b) word.Exists >> value_found m g.value >> unless (fits f.kind (value_of m f.kind g.value)) word.Kind)
one_checked m c earlier g s name f b schema named has again =
    let there : field_named m.session.schema c g.name ≡ Some f = (λ i. field_named (sym schema i) c (sym named i)) ∙ has in
    let twice : list_any (same g.name) (names_back earlier) ≡ b = named_back g.name earlier ∙ ap (λ (t : Text). list_any (λ (h : Given). same t h.name) earlier) (sym named) ∙ sym again in
    (λ i. or_refuse (there i) word.Field >>= λ f. unless (not (twice i)) word.Exists >> value_found m g.value >> unless (fits f.kind (value_of m f.kind g.value)) word.Kind)

-- the first refusal of three
pub refused_first : (a b d : Checked (Unit {0})) (w : Word) → a ≡ Err w → (a >> b >> d) ≡ Err w
refused_first a b d w h = ap (λ (t : Checked (Unit {0})). t >> b >> d) h

pub refused_second : (a b d : Checked (Unit {0})) (w : Word) → a ≡ Ok tt → b ≡ Err w → (a >> b >> d) ≡ Err w
refused_second a b d w h e = λ i. h i >> e i >> d

pub taken_twice : (a b d : Checked (Unit {0})) → a ≡ Ok tt → b ≡ Ok tt → (a >> b >> d) ≡ d
taken_twice a b d h e = λ i. h i >> e i >> d

-- the values from a place on
left_from : (gs : List Given) (i : ℕ) (g : Given) → i < length gs → g ≡ get_or gs i g → drop i gs ≡ g ∷ drop (i + 1) gs
left_from gs i g less is = rw add-one (drop-cons gs i g less ∙ ap (λ (x : Given). x ∷ drop (suc i) gs) (sym is))

module _ (m : State) (c : ℕ) (gs : List Given) (i : ℕ) (g : Given) (less : i < length gs) (is : g ≡ get_or gs i g) where
  -- a turn that takes the value
  pub turn_on : given_checked m c (names_back (take i gs)) g ≡ Ok tt → verdict (checked m c (names_back (take (i + 1) gs)) (drop (i + 1) gs)) ≡ verdict (checked m c (names_back (take i gs)) (drop i gs))
  turn_on h =
      ap (λ ts. verdict (checked m c ts (drop (i + 1) gs))) (back_more gs i g less is)
      ∙ sym (checked_on m c (names_back (take i gs)) g (drop (i + 1) gs) h)
      ∙ sym (ap (λ hs. verdict (checked m c (names_back (take i gs)) hs)) (left_from gs i g less is))

  -- one that refuses it
  pub turn_to : (w : Word) → given_checked m c (names_back (take i gs)) g ≡ Err w → verdict (checked m c (names_back (take i gs)) (drop i gs)) ≡ Err w
  turn_to w h = ap (λ hs. verdict (checked m c (names_back (take i gs)) hs)) (left_from gs i g less is) ∙ checked_to m c (names_back (take i gs)) g (drop (i + 1) gs) w h

-- at the end all are taken
pub at_end : (m : State) (c : ℕ) (gs : List Given) (i : ℕ) → length gs ≤ i → Ok tt ≡ verdict (checked m c (names_back (take i gs)) (drop i gs))
unfolding checked
at_end m c gs i le = ap (λ hs. verdict (checked m c (names_back (take i gs)) hs)) (sym (drop_of_length-le gs le))

-- ---- what passed the check

-- What a value that is taken says: there is a field, what it names is there, and the rest is taken.
record Taken (o : Option FieldDef) (found : Checked (Unit {0})) (v : ValueText) (rest whole : Checked FieldValues) : Type 0 where
  field : FieldDef
  is_field : o ≡ Some field
  is_found : found ≡ Ok tt
  rest_taken : verdict rest ≡ Ok tt
  goes_on : whole ≡ (rest >>= λ more. Ok ((field, v) ∷ more))

taken_in : (o : Option FieldDef) (b : Bool) (found : Checked (Unit {0})) (fit : FieldDef → Bool) (v : ValueText) (rest : Checked FieldValues)
    → verdict (or_refuse o word.Field >>= λ f. unless b word.Exists >> found >> unless (fit f) word.Kind >> rest >>= λ more. Ok ((f, v) ∷ more)) ≡ Ok tt
    → Taken o found v rest (or_refuse o word.Field >>= λ f. unless b word.Exists >> found >> unless (fit f) word.Kind >> rest >>= λ more. Ok ((f, v) ∷ more))
taken_in None b found fit v rest h = absurd (cc)
taken_in (Some f) false found fit v rest h = absurd (cc)
taken_in (Some f) true (Err w) fit v rest h = absurd (cc)
taken_in (Some f) true (Ok u) fit v rest h =
    (elim (fit f) as (λ t. verdict (unless t word.Kind >> rest >>= λ more. Ok ((f, v) ∷ more)) ≡ Ok tt → Taken (Some f) (Ok u) v rest (unless t word.Kind >> rest >>= λ more. Ok ((f, v) ∷ more))) [
      | false ↦ λ e. absurd (cc)
      | true ↦ λ e. record { field = f; is_field = refl; is_found = refl; rest_taken = still rest e; goes_on = refl }
    ]) h
  where
    still : (r : Checked FieldValues) → verdict (r >>= λ more. Ok ((f, v) ∷ more)) ≡ Ok tt → verdict r ≡ Ok tt
    still (Ok fs) e = refl
    still (Err w) e = absurd (cc)

module _ (m : State) (c : ℕ) where
  first_taken : (seen : List Text) (g : Given) (gs : List Given) → verdict (checked m c seen (g ∷ gs)) ≡ Ok tt
      → Taken (field_named m.session.schema c g.name) (value_found m g.value) g.value (checked m c (g.name ∷ seen) gs) (checked m c seen (g ∷ gs))
  unfolding checked
  first_taken seen g gs h =
      taken_in (field_named m.session.schema c g.name) (not (list_any (same g.name) seen)) (value_found m g.value) (λ f. fits f.kind (value_of m f.kind g.value)) g.value (checked m c (g.name ∷ seen) gs) h

  -- values that pass the check are those of their fields
  pub all_taken : (seen : List Text) (gs : List Given) → verdict (checked m c seen gs) ≡ Ok tt → checked m c seen gs ≡ Ok (fields_given m.session.schema c gs)
  unfolding checked
  all_taken seen [] h = refl
  all_taken seen (g ∷ gs) h =
      let t = first_taken seen g gs h in
      t.goes_on ∙ ap (λ (r : Checked FieldValues). r >>= λ more. Ok ((t.field, g.value) ∷ more)) (all_taken (g.name ∷ seen) gs t.rest_taken)
      ∙ ap (λ (o : Option FieldDef). Ok (cons_option (option_map (λ (f : FieldDef). (f, g.value)) o) (fields_given m.session.schema c gs))) (sym t.is_field)

  -- they name the numbers that are written
  pub numbers_taken : (seen : List Text) (gs : List Given) → verdict (checked m c seen gs) ≡ Ok tt → numbers_given (fields_given m.session.schema c gs) ≡ numbers_named gs
  numbers_taken seen [] h = refl
  numbers_taken seen (g ∷ gs) h =
      let t = first_taken seen g gs h in
      ap (λ (o : Option FieldDef). numbers_given (cons_option (option_map (λ (f : FieldDef). (f, g.value)) o) (fields_given m.session.schema c gs))) t.is_field
      ∙ ap (λ ns. numbers_in_value g.value ++ ns) (numbers_taken (g.name ∷ seen) gs t.rest_taken)

  -- where objects have numbers of 32 bits, so have those that are named
  module _ (small : (n : ℕ) → is_stored m.session n ≡ true → nat_le n 4294967295 ≡ true) where
    single_number : (s : Single) → single_found m s ≡ Ok tt → AreNumbers (numbers_in_single s)
    single_number single.Null h = refl
    single_number (single.Bool b) h = refl
    single_number (single.Int n) h = refl
    single_number (single.Text t) h = refl
    single_number (single.Name t) h = refl
    single_number (single.Num n) h = ap (λ b. b && true) (small n (holds (is_stored m.session n) h))
      where
        holds : (b : Bool) → unless b word.Live ≡ Ok tt → b ≡ true
        holds true e = refl
        holds false e = absurd (cc)

    joined : (xs ys : List ℕ) → AreNumbers xs → AreNumbers ys → AreNumbers (xs ++ ys)
    joined xs ys a b = list_all-append (λ n. nat_le n 4294967295) xs ys ∙ (λ i. a i && b i)

    both_found : (a b : Checked (Unit {0})) → (a >> b) ≡ Ok tt → (a ≡ Ok tt) × (b ≡ Ok tt)
    both_found (Ok u) b h = (refl, h)
    both_found (Err w) b h = absurd (cc)

    singles_numbers : (ss : List Single) → singles_found m ss ≡ Ok tt → AreNumbers (flat_map numbers_in_single ss)
    singles_numbers [] h = refl
    singles_numbers (s ∷ ss) h =
        let p = both_found (single_found m s) (singles_found m ss) h in
        joined (numbers_in_single s) (flat_map numbers_in_single ss) (single_number s p.0) (singles_numbers ss p.1)

    value_numbers : (x : ValueText) → value_found m x ≡ Ok tt → AreNumbers (numbers_in_value x)
    value_numbers (valued.One s) h = single_number s h
    value_numbers (valued.Many ss) h = singles_numbers ss h

    pub numbers_small : (seen : List Text) (gs : List Given) → verdict (checked m c seen gs) ≡ Ok tt → AreNumbers (numbers_named gs)
    numbers_small seen [] h = refl
    numbers_small seen (g ∷ gs) h =
        let t = first_taken seen g gs h in
        joined (numbers_in_value g.value) (numbers_named gs) (value_numbers g.value t.is_found) (numbers_small (g.name ∷ seen) gs t.rest_taken)

-- what is taken has no refusal
pub taken_verdict : (m : State) (c : ℕ) (gs : List Given) → IsChecked m c gs → verdict (checked m c [] gs) ≡ Ok tt
taken_verdict m c gs h = ap verdict h

-- ---- how many numbers there are

placed_long : (n : ℕ) (ns : List ℕ) → length (placed nat_cmp n ns) ≡ suc (length ns)
placed_long n [] = refl
placed_long n (k ∷ ns) = elim (is_lt (nat_cmp k n)) as (λ b. length (cond b (k ∷ placed nat_cmp n ns) (n ∷ k ∷ ns)) ≡ suc (suc (length ns))) [ true ↦ ap suc (placed_long n ns) | false ↦ refl ]

-- in order they are as many
pub sorted_long : (ns : List ℕ) → length (sorted nat_cmp ns) ≡ length ns
sorted_long [] = refl
sorted_long (n ∷ ns) = placed_long n (sorted nat_cmp ns) ∙ ap suc (sorted_long ns)
