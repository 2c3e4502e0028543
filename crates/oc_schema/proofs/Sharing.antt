-- Classes by their numbers and by their places.
use Rattle.std.proofs.Common.{◌≡◌, ℕ, zero, suc, ◌-◌, ◌≤◌, List, slice_get, Some, None, length, get_or, sym, ap, arith, [], ◌∷◌}
use Rattle.std.proofs.lemmas.Option.{get_or_from_slice_get}
use Rattle.oc_model.specs.declared.schema.ClassDef.{ClassDef}
use Rattle.oc_model.specs.Schemas.{Schema, class_at}

-- the class of a number is what stands in its place
pub class_found : (s : Schema) (n : ℕ) → 1 ≤ n → slice_get s.classes (n - 1) ≡ class_at s n
class_found s zero le = absurd (omega arith)
class_found s (suc n) le = let e : suc n - 1 ≡ n = omega arith in ap (slice_get s.classes) e

-- the class in a place is what stands there
pub class_placed : (cs : List ClassDef) (place : ℕ) (c : ClassDef) → slice_get cs place ≡ Some c → c ≡ get_or cs place c
class_placed cs place c e = sym (get_or_from_slice_get cs place c c e)

-- in each place one stands
pub class_missing : (cs : List ClassDef) (place : ℕ) → slice_get cs place ≡ None → length cs ≤ place
class_missing [] place e = omega arith
class_missing (c ∷ cs) zero e = absurd (cc)
class_missing (c ∷ cs) (suc i) e = let r = class_missing cs i e in omega (arith, r)
