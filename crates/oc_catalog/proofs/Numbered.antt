-- The classes of a schema, one behind another.
use Rattle.std.proofs.Common.{◌≡◌, ◌∙◌, ap, sym, refl, subst, ℕ, zero, suc, ◌+◌, ◌<◌, Bool, true, IsTrue, List, [], ◌∷◌, ◌++◌, length, drop, arith, append_assoc, Option, Some, None, is_some, add-one}
use Rattle.std.specs.Prelude.{slice_get, flat_map, IfSome}
use Rattle.std.specs.List.{list_all}
use Rattle.std.proofs.lemmas.Bool.{and_parts}
use Rattle.oc_model.specs.declared.schema.ClassDef.{ClassDef}
use Rattle.oc_model.specs.Schemas.{Schema, class_at}

turn : {X : Type 0} (xs : List X) (n : ℕ) → n < length xs → (x : X) × (slice_get xs n ≡ Some x) × (drop n xs ≡ x ∷ drop (suc n) xs)
turn [] n lt = absurd (omega (arith, lt))
turn (x ∷ xs) zero lt = (x, refl, refl)
turn (x ∷ xs) (suc n) lt = turn xs n (omega (arith, lt))

-- the class of the next number, and those behind it
pub class_turn : (s : Schema) (place : ℕ) → place < length s.classes → (c : ClassDef) × (class_at s (place + 1) ≡ Some c) × (drop place s.classes ≡ c ∷ drop (place + 1) s.classes)
class_turn s place lt =
    let t = turn s.classes place lt in
    subst (λ n. (c : ClassDef) × (class_at s n ≡ Some c) × (drop place s.classes ≡ c ∷ drop n s.classes)) (sym (add-one place)) t

pub class_there : (s : Schema) (place : ℕ) → place < length s.classes → is_some (class_at s (place + 1)) ≡ true
class_there s place lt = ap is_some (class_turn s place lt).1

each_at : {X : Type 0} (t : X → Bool) (xs : List X) (n : ℕ) (x : X) → slice_get xs n ≡ Some x → IsTrue (list_all t xs) → IsTrue (t x)
each_at t [] n x e h = cc
each_at t (y ∷ ys) zero x e h = let same : y ≡ x = cc in subst (λ z. IsTrue (t z)) same (and_parts (t y) (list_all t ys) h).0
each_at t (y ∷ ys) (suc n) x e h = each_at t ys n x e (and_parts (t y) (list_all t ys) h).1

pub class_passes : (t : ClassDef → Bool) (s : Schema) (number : ℕ) (c : ClassDef) → class_at s number ≡ Some c → IsTrue (list_all t s.classes) → IsTrue (t c)
class_passes t s zero c e h = cc
class_passes t s (suc n) c e h = each_at t s.classes n c e h

pub told_of : {X : Type 0} (P : X → Type 0) (o : Option X) (x : X) → o ≡ Some x → IfSome o P → P x
told_of P None x e p = cc
told_of P (Some y) x e p = let same : y ≡ x = cc in subst P same p

-- what is written so far, and what is still to write
pub written_on : (spell : ClassDef → List ℕ) (s : Schema) (place : ℕ) → place < length s.classes → (old new whole : List ℕ) → IfSome (class_at s (place + 1)) (λ c. new ≡ old ++ spell c)
    → old ++ flat_map spell (drop place s.classes) ≡ whole → new ++ flat_map spell (drop (place + 1) s.classes) ≡ whole
written_on spell s place lt old new whole more so_far =
    let t = class_turn s place lt in
    ap (λ l. l ++ flat_map spell (drop (place + 1) s.classes)) (told_of (λ c. new ≡ old ++ spell c) (class_at s (place + 1)) t.0 t.1 more)
    ∙ append_assoc old (spell t.0) (flat_map spell (drop (place + 1) s.classes))
    ∙ ap (λ l. old ++ flat_map spell l) (sym t.2)
    ∙ so_far
