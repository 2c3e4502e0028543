-- What a value is converted to is of the kind that is asked for; a value of this kind stays; what became a text comes back.
use Rattle.std.proofs.Common.{◌≡◌, ◌∙◌, ap, refl, ◌^◌, ◌<◌, negsuc, arith, IsTrue, Bool, true, false, List, [], ◌∷◌, Option, Some, None}
use Rattle.std.specs.Prelude.{ℤ, pos, option_map, if◌then◌else◌}
use Rattle.std.specs.List.{list_all}
use Rattle.std.specs.Option.{option_zip, option_and_then}
use Rattle.std.proofs.lemmas.Bool.{and_parts, and_from}
use Rattle.std.specs.Fmt.{signed_decimal}
use Rattle.std.proofs.lemmas.Bool.Decides.{nat_tests}
use Rattle.oc_model.proofs.Decimals.{size, number_again}
use Rattle.oc_model.specs.declared.value.Base.{Base}
use Rattle.oc_model.specs.declared.value.Base.TheVariants as base
use Rattle.oc_model.specs.declared.value.Kind.{Kind}
use Rattle.oc_model.specs.declared.value.Kind.TheVariants as kind
use Rattle.oc_model.specs.declared.value.Atom.{Atom}
use Rattle.oc_model.specs.declared.value.Atom.TheVariants as atom
use Rattle.oc_model.specs.declared.value.Value.{Value}
use Rattle.oc_model.specs.declared.value.Value.TheVariants as value
use Rattle.oc_model.specs.Values.{fits, fits_base}
use Rattle.oc_model.specs.Conversions.{in_range, converted_atom, converted_atoms, converted, number_spelled}

-- ---- it fits

passed : {X : Type 0} (test : X → Bool) (x : X) (c : Bool) → test x ≡ c → (y : X) → (if c then Some x else None) ≡ Some y → IsTrue (test y)
passed test x true e y h = cc
passed test x false e y h = cc

in_range_fits : (b : Base) (n : ℤ) (a : Atom) → in_range b n ≡ Some a → IsTrue (fits_base b a)
in_range_fits b n a h = passed (fits_base b) (atom.Int n) _ refl a h

is_it : {X : Type 0} (test : X → Bool) (x y : X) → IsTrue (test x) → Some x ≡ Some y → IsTrue (test y)
is_it test x y t h = cc

mapped : {X Y : Type 0} (test : Y → Bool) (f : X → Y) (o : Option X) (y : Y) → ((x : X) → o ≡ Some x → IsTrue (test (f x))) → option_map f o ≡ Some y → IsTrue (test y)
mapped test f None y each h = cc
mapped test f (Some x) y each h = is_it test (f x) y (each x refl) h

bound_fits : (b : Base) (o : Option ℤ) (a : Atom) → option_and_then (in_range b) o ≡ Some a → IsTrue (fits_base b a)
bound_fits b None a h = cc
bound_fits b (Some n) a h = in_range_fits b n a h

atom_fits : (b : Base) (x a : Atom) → converted_atom b x ≡ Some a → IsTrue (fits_base b a)
atom_fits base.Bool (atom.Bool x) a h = is_it (fits_base base.Bool) _ a refl h
atom_fits base.Text (atom.Bool x) a h = is_it (fits_base base.Text) _ a refl h
atom_fits base.Ref (atom.Bool x) a h = cc
atom_fits b (atom.Bool x) a h = in_range_fits b (pos (if x then 1 else 0)) a h
atom_fits base.Bool (atom.Int n) a h = mapped (fits_base base.Bool) atom.Bool _ a (λ x _. refl) h
atom_fits base.Text (atom.Int n) a h = is_it (fits_base base.Text) _ a refl h
atom_fits base.Ref (atom.Int n) a h = cc
atom_fits b (atom.Int n) a h = in_range_fits b n a h
atom_fits base.Bool (atom.Text (Some t)) a h = mapped (fits_base base.Bool) atom.Bool _ a (λ x _. refl) h
atom_fits base.Text (atom.Text (Some t)) a h = is_it (fits_base base.Text) _ a refl h
atom_fits base.Ref (atom.Text (Some t)) a h = cc
atom_fits b (atom.Text (Some t)) a h = bound_fits b (number_spelled t) a h
atom_fits base.Text (atom.Text None) a h = is_it (fits_base base.Text) _ a refl h
atom_fits b (atom.Text None) a h = cc
atom_fits base.Ref (atom.Ref n) a h = is_it (fits_base base.Ref) _ a refl h
atom_fits b (atom.Ref n) a h = cc

-- both have a value, and it is this
joined : {X : Type 0} (o : Option X) (p : Option (List X)) (y : X) (ys : List X) → option_map (λ (q : X × List X). q.0 ∷ q.1) (option_zip o p) ≡ Some (y ∷ ys) → (o ≡ Some y) × (p ≡ Some ys)
joined None p y ys h = cc
joined (Some x) None y ys h = cc
joined (Some x) (Some xs) y ys h = let e : (x ∷ xs) ≡ (y ∷ ys) = cc in (let f : x ≡ y = cc in ap Some f, let g : xs ≡ ys = cc in ap Some g)

not_empty : {X : Type 0} (o : Option X) (p : Option (List X)) → option_map (λ (q : X × List X). q.0 ∷ q.1) (option_zip o p) ≡ Some [] → ⊥
not_empty None p h = cc
not_empty (Some x) None h = cc
not_empty (Some x) (Some xs) h = cc

atoms_fit : (b : Base) (xs ys : List Atom) → converted_atoms b xs ≡ Some ys → IsTrue (list_all (fits_base b) ys)
atoms_fit b [] [] h = refl
atoms_fit b [] (y ∷ ys) h = cc
atoms_fit b (x ∷ xs) [] h = absurd (not_empty _ _ h)
atoms_fit b (x ∷ xs) (y ∷ ys) h =
    let parts = joined (converted_atom b x) (converted_atoms b xs) y ys h in
    and_from _ _ (atom_fits b x y parts.0) (atoms_fit b xs ys parts.1)

pub converted_fits : (from to : Kind) (v w : Value) → converted from to v ≡ Some w → IsTrue (fits to w)
unfolding converted
converted_fits (kind.One from) (kind.One to) (value.One x) w h = mapped (fits (kind.One to)) value.One (converted_atom to x) w (atom_fits to x) h
converted_fits (kind.Many from) (kind.Many to) (value.Many None) w h = is_it (fits (kind.Many to)) (value.Many None) w refl h
converted_fits (kind.Many from) (kind.Many to) (value.Many (Some items)) w h = mapped (fits (kind.Many to)) (λ ys. value.Many (Some ys)) (converted_atoms to items) w (atoms_fit to items) h
converted_fits from to v w h = cc

-- ---- it stays

when_true : {X : Type 0} (c : Bool) (x : X) → IsTrue c → (if c then Some x else None) ≡ Some x
when_true true x h = refl
when_true false x h = cc

atom_stays : (b : Base) (a : Atom) → IsTrue (fits_base b a) → converted_atom b a ≡ Some a
atom_stays base.Bool (atom.Bool x) h = refl
atom_stays base.Text (atom.Text None) h = refl
atom_stays base.Text (atom.Text (Some t)) h = refl
atom_stays base.Ref (atom.Ref n) h = refl
atom_stays base.I8 (atom.Int n) h = when_true _ _ h
atom_stays base.I16 (atom.Int n) h = when_true _ _ h
atom_stays base.I32 (atom.Int n) h = when_true _ _ h
atom_stays base.I64 (atom.Int n) h = when_true _ _ h
atom_stays base.U64 (atom.Int n) h = when_true _ _ h
atom_stays base.I128 (atom.Int n) h = when_true _ _ h
atom_stays b a h = cc

atoms_stay : (b : Base) (items : List Atom) → IsTrue (list_all (fits_base b) items) → converted_atoms b items ≡ Some items
atoms_stay b [] h = refl
atoms_stay b (a ∷ rest) h =
    let first = atom_stays b a (and_parts _ _ h).0 in
    let others = atoms_stay b rest (and_parts (fits_base b a) _ h).1 in
    rw (first, others) refl

pub converted_stays : (k : Kind) (v : Value) → IsTrue (fits k v) → converted k k v ≡ Some v
unfolding converted
converted_stays (kind.One b) (value.One a) h = ap (option_map value.One) (atom_stays b a h)
converted_stays (kind.Many b) (value.Many None) h = refl
converted_stays (kind.Many b) (value.Many (Some items)) h = ap (option_map (λ ys. value.Many (Some ys))) (atoms_stay b items h)
converted_stays k v h = cc

-- ---- it comes back from a text

bounded : (b : Base) (n : ℤ) → IsTrue (fits_base b (atom.Int n)) → size n < 10 ^ 39
bounded base.Bool n h = cc
bounded base.Text n h = cc
bounded base.Ref n h = cc
bounded base.U64 (negsuc n) h = cc
bounded b (pos n) h = grind (arith, nat_tests)
bounded b (negsuc n) h = grind (arith, nat_tests)

number_back : (b : Base) (n : ℤ) → IsTrue (fits_base b (atom.Int n)) → option_and_then (in_range b) (number_spelled (signed_decimal n)) ≡ Some (atom.Int n)
number_back b n h = ap (option_and_then (in_range b)) (number_again n (bounded b n h)) ∙ when_true _ (atom.Int n) h

there : (f : Atom → Option Atom) (u t a : Atom) → f u ≡ Some a → Some u ≡ Some t → f t ≡ Some a
there f u t a e h = cc

atom_back : (b : Base) (a t : Atom) → IsTrue (fits_base b a) → converted_atom base.Text a ≡ Some t → converted_atom b t ≡ Some a
atom_back base.Bool (atom.Bool true) t f h = there (converted_atom base.Bool) _ t _ refl h
atom_back base.Bool (atom.Bool false) t f h = there (converted_atom base.Bool) _ t _ refl h
atom_back base.I8 (atom.Int n) t f h = there (converted_atom base.I8) _ t _ (number_back base.I8 n f) h
atom_back base.I16 (atom.Int n) t f h = there (converted_atom base.I16) _ t _ (number_back base.I16 n f) h
atom_back base.I32 (atom.Int n) t f h = there (converted_atom base.I32) _ t _ (number_back base.I32 n f) h
atom_back base.I64 (atom.Int n) t f h = there (converted_atom base.I64) _ t _ (number_back base.I64 n f) h
atom_back base.U64 (atom.Int n) t f h = there (converted_atom base.U64) _ t _ (number_back base.U64 n f) h
atom_back base.I128 (atom.Int n) t f h = there (converted_atom base.I128) _ t _ (number_back base.I128 n f) h
atom_back base.Text (atom.Text None) t f h = there (converted_atom base.Text) _ t _ refl h
atom_back base.Text (atom.Text (Some x)) t f h = there (converted_atom base.Text) _ t _ refl h
atom_back base.Ref (atom.Ref n) t f h = cc
atom_back b a t f h = cc

one_back : (b : Base) (a : Atom) (o : Option Atom) (w : Value) → ((t : Atom) → o ≡ Some t → converted_atom b t ≡ Some a)
    → option_map value.One o ≡ Some w → converted (kind.One base.Text) (kind.One b) w ≡ Some (value.One a)
unfolding converted
one_back b a None w each h = cc
one_back b a (Some t) (value.One u) each h = ap (option_map value.One) (each u (let e : value.One t ≡ value.One u = cc in let f : t ≡ u = cc in ap Some f))
one_back b a (Some t) (value.Many items) each h = cc

pub converted_back : (b : Base) (v w : Value) → IsTrue (fits (kind.One b) v) → converted (kind.One b) (kind.One base.Text) v ≡ Some w → converted (kind.One base.Text) (kind.One b) w ≡ Some v
unfolding converted
converted_back b (value.One a) w f h = one_back b a (converted_atom base.Text a) w (λ t. atom_back b a t f) h
converted_back b (value.Many items) w f h = cc
