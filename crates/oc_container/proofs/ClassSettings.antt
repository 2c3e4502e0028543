-- The settings of the classes that a schema has are those of the numbers up to its last class.
use Rattle.std.proofs.Common.{◌≡◌, ℕ, zero, suc, Bool, true, false, ◌&&◌, cond, nat_lt, nat_le, List, [], ◌∷◌, length, filter, is_some, slice_get, refl, sym, ap, ◌∙◌, true≢false}
use Rattle.std.proofs.Math.Dec.{leb-suc-zero, leb-suc-suc, leb-zero}
use Rattle.std.specs.List.{list_all}
use Rattle.oc_model.specs.declared.schema.ClassDef.{ClassDef}
use Rattle.oc_model.specs.declared.reach.ClassSettings.{ClassSettings}
use Rattle.oc_model.specs.Schemas.{Schema, class_at}
use Rattle.oc_model.specs.States.{Settings}
use Rattle.oc_machine.specs.CommitLines.{settings_in}
use Rattle.oc_live.specs.Memories.{with_classes_to}
use Rattle.oc_container.specs.Contained.{AreOfClasses}

there : (cs : List ClassDef) (i : ℕ) → is_some (slice_get cs i) ≡ nat_le (suc i) (length cs)
there [] i = sym (leb-suc-zero i)
there (c ∷ cs) zero = sym (leb-suc-suc 0 (length cs) ∙ leb-zero (length cs))
there (c ∷ cs) (suc i) = there cs i ∙ sym (leb-suc-suc (suc i) (length cs))

class_there : (s : Schema) (n : ℕ) → nat_lt 0 n ≡ true → is_some (class_at s n) ≡ nat_le n (length s.classes)
class_there s zero h = cc
class_there s (suc n) h = there s.classes n

both : (a b : Bool) → (a && b) ≡ true → (a ≡ true) × (b ≡ true)
both true b h = (refl, h)
both false b h = absurd (true≢false (sym h))

kept_alike : (s : Schema) (es : List (ℕ × ClassSettings)) → list_all (λ (e : ℕ × ClassSettings). nat_lt 0 e.0) es ≡ true
    → filter (λ (e : ℕ × ClassSettings). is_some (class_at s e.0)) es ≡ filter (λ (e : ℕ × ClassSettings). nat_le e.0 (length s.classes)) es
kept_alike s [] h = refl
kept_alike s (e ∷ es) h =
    let p = both (nat_lt 0 e.0) (list_all (λ (d : ℕ × ClassSettings). nat_lt 0 d.0) es) h in
    ap (λ b. cond b (e ∷ filter (λ (d : ℕ × ClassSettings). is_some (class_at s d.0)) es) (filter (λ (d : ℕ × ClassSettings). is_some (class_at s d.0)) es)) (class_there s e.0 p.0)
    ∙ ap (λ l. cond (nat_le e.0 (length s.classes)) (e ∷ l) l) (kept_alike s es p.1)

pub settings_alike : (s : Schema) (k : Settings) → AreOfClasses k → settings_in s k ≡ with_classes_to k (length s.classes)
settings_alike s k of = ap (λ (l : List (ℕ × ClassSettings)). record k { classes = l }) (kept_alike s k.classes of)

all_still : (n : ℕ) (es : List (ℕ × ClassSettings)) → list_all (λ (e : ℕ × ClassSettings). nat_lt 0 e.0) es ≡ true
    → list_all (λ (e : ℕ × ClassSettings). nat_lt 0 e.0) (filter (λ (e : ℕ × ClassSettings). nat_le e.0 n) es) ≡ true
all_still n [] h = refl
all_still n (e ∷ es) h =
    let p = both (nat_lt 0 e.0) (list_all (λ (d : ℕ × ClassSettings). nat_lt 0 d.0) es) h in
    elim (nat_le e.0 n) as (λ b. list_all (λ (d : ℕ × ClassSettings). nat_lt 0 d.0) (cond b (e ∷ filter (λ (d : ℕ × ClassSettings). nat_le d.0 n) es) (filter (λ (d : ℕ × ClassSettings). nat_le d.0 n) es)) ≡ true) [
      | true ↦ ap (λ b. b && list_all (λ (d : ℕ × ClassSettings). nat_lt 0 d.0) (filter (λ (d : ℕ × ClassSettings). nat_le d.0 n) es)) p.0 ∙ all_still n es p.1
      | false ↦ all_still n es p.1
    ]

-- fewer settings of classes are settings of classes
pub still_of_classes : (k : Settings) (n : ℕ) → AreOfClasses k → AreOfClasses (with_classes_to k n)
still_of_classes k n of = all_still n k.classes of
