-- A class that is new and has no parent: what the step of every class makes of it.
use Rattle.std.proofs.Common.{◌≡◌, refl, sym, ap, subst, ◌∙◌, ℕ, ◌+◌, ◌<◌, ◌≤◌, nat_lt, nat_le, arith, Bool, true, false, not, ◌&&◌, List, [], ◌∷◌, ◌++◌, length, Option, None, Ok, Err, is_some}
use Rattle.std.specs.List.{list_any}
use Rattle.std.proofs.lemmas.Bool.{and_parts}
use Rattle.std.proofs.lemmas.Bool.Decides.{nat_tests}
use Rattle.oc_model.specs.declared.command.Decl.{Decl}
use Rattle.oc_model.specs.declared.answer.Word.TheVariants as word
use Rattle.oc_model.specs.declared.answer.Answer.TheVariants as answer
use Rattle.oc_model.specs.Maps.{Text, are_distinct}
use Rattle.oc_model.specs.Refusals.{Checked, ◌>>=◌, ◌>>◌, unless}
use Rattle.oc_model.specs.Schemas.{Schema, class_named, field_named}
use Rattle.oc_model.specs.SchemaRules.{has_earlier_parents, is_within_limits}
use Rattle.oc_model.specs.SchemaSteps.{new_field, declared_fields, with_new_class, names_of, declared_under, declared}
use Rattle.oc_model.specs.States.{State}
use Rattle.oc_machine.specs.Outcomes.{settled, done}
use Rattle.oc_machine.specs.SchemaLines.{set_schema, class_step, with_class_changed}
use Rattle.oc_run.specs.ListStore.{new_fields, with_class, has_room, declare, new_class_step}

no_inherited : (s : Schema) (names : List Text) → list_any (λ n. is_some (field_named s 0 n)) names ≡ false
unfolding field_named
no_inherited s [] = refl
no_inherited s (n ∷ names) = no_inherited s names

same_fields : (id : ℕ) (ds : List Decl) → declared_fields [] id ds ≡ new_fields id ds
same_fields id [] = refl
same_fields id (d ∷ ds) = ap (λ fields. new_field id d ∷ fields) (same_fields (id + 1) ds)

same_schema : (s : Schema) (name : Text) (ds : List Decl) → with_new_class s name 0 ds ≡ with_class s name ds
same_schema s name ds =
    ap (λ fields. record { classes = s.classes ++ record { name = name; parent = 0; fields = fields } ∷ []; next_field = s.next_field + length ds }) (same_fields s.next_field ds)

-- the limits of such a class
pub limits_are : (s : Schema) (name : Text) (ds : List Decl) (b : Bool) → is_within_limits (with_new_class s name 0 ds) ≡ b → is_within_limits (with_class s name ds) ≡ b
limits_are s name ds b = subst (λ t. is_within_limits t ≡ b) (same_schema s name ds)

and_true : (b : Bool) → (b && true) ≡ b
and_true true = refl
and_true false = refl

in_turn : {A B C : Type 0} (a : Checked A) (b : Checked B) (c : Checked C) → (a >> (b >> c)) ≡ (a >> b >> c)
in_turn (Ok x) b c = refl
in_turn (Err w) b c = refl

declared_alike : (s : Schema) (name : Text) (ds : List Decl) → is_within_limits (with_new_class s name 0 ds) ≡ has_room s ds → class_named s name ≡ None → declared s name None ds ≡ declare s name ds
unfolding declared
declared_alike s name ds limits new =
    ap (λ o. declared_under o s name 0 ds) new
    ∙ (λ i. unless (are_distinct (names_of ds) && not (no_inherited s (names_of ds) i)) word.Exists >> (unless (limits i) word.Size >> Ok (same_schema s name ds i)))
    ∙ (λ i. unless (and_true (are_distinct (names_of ds)) i) word.Exists >> (unless (has_room s ds) word.Size >> Ok (with_class s name ds)))
    ∙ in_turn (unless (are_distinct (names_of ds)) word.Exists) (unless (has_room s ds) word.Size) (Ok (with_class s name ds))

-- no object in memory is of a new class
pub class_is_new : (m : State) (name : Text) (ds : List Decl) → is_within_limits (with_new_class m.session.schema name 0 ds) ≡ has_room m.session.schema ds → class_named m.session.schema name ≡ None
    → class_step m name None ds ≡ new_class_step m name ds
unfolding class_step
class_is_new m name ds limits new =
    ap (λ r. r >>= λ s. done (with_class_changed m (class_named m.session.schema name) s)) (declared_alike m.session.schema name ds limits new)
    ∙ ap (λ (o : Option ℕ). declare m.session.schema name ds >>= λ s. done (with_class_changed m o s)) new

-- ---- the exits

pub room_is : (s : Schema) (ds : List Decl) → has_room s ds ≡ true → (length s.classes < 65535) × ((length ds ≤ 255) × (s.next_field + length ds ≤ 4294967295))
room_is s ds h =
    let a = and_parts (nat_lt (length s.classes) 65535 && nat_le (length ds) 255) (nat_le (s.next_field + length ds) 4294967295) h in
    let b = and_parts (nat_lt (length s.classes) 65535) (nat_le (length ds) 255) a.0 in
    let few = b.0 in
    let short = b.1 in
    let ids = a.1 in
    (grind (arith, nat_tests), (grind (arith, nat_tests), grind (arith, nat_tests)))

-- what the law of the limits of new classes says
abbrev pub Limits : Type 0
Limits = (s : Schema) (name : Text) (ds : List Decl) → has_earlier_parents s ≡ true → is_within_limits s ≡ true → is_within_limits (with_new_class s name 0 ds) ≡ has_room s ds

module _ (m : State) (name : Text) (ds : List Decl) (law : Limits) (earlier : has_earlier_parents m.session.schema ≡ true) (within : is_within_limits m.session.schema ≡ true) where
  pub stays_within : has_room m.session.schema ds ≡ true → is_within_limits (with_class m.session.schema name ds) ≡ true
  stays_within room = limits_are m.session.schema name ds true (law m.session.schema name ds earlier within ∙ room)

  class_is : class_named m.session.schema name ≡ None → class_step m name None ds ≡ new_class_step m name ds
  class_is new = class_is_new m name ds (law m.session.schema name ds earlier within) new

  pub given_twice : class_named m.session.schema name ≡ None → are_distinct (names_of ds) ≡ false → (m, answer.Refused word.Exists) ≡ settled m (class_step m name None ds)
  given_twice new e = sym (ap (settled m) (class_is new) ∙ rw e refl)

  pub no_room : class_named m.session.schema name ≡ None → are_distinct (names_of ds) ≡ true → has_room m.session.schema ds ≡ false → (m, answer.Refused word.Size) ≡ settled m (class_step m name None ds)
  no_room new e room = sym (ap (settled m) (class_is new) ∙ rw (e, room) refl)

  pub declares : class_named m.session.schema name ≡ None → are_distinct (names_of ds) ≡ true → has_room m.session.schema ds ≡ true
      → (set_schema m (with_class m.session.schema name ds), answer.Done) ≡ settled m (class_step m name None ds)
  declares new e room = sym (ap (settled m) (class_is new) ∙ rw (e, room) refl)
