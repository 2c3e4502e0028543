-- What a step of checks answered where nothing was refused.
use Rattle.std.proofs.Common.{◌≡◌, refl, sym, ap, ℕ, Bool, true, false, Option, Some, None, is_some, true≢false}
use Rattle.std.specs.Prelude.{Ok, Err, is_none}
use Rattle.oc_model.specs.declared.answer.Word.{Word}
use Rattle.oc_model.specs.declared.schema.ClassDef.{ClassDef}
use Rattle.oc_model.specs.Maps.{Text}
use Rattle.oc_model.specs.Refusals.{Checked, ◌>>=◌, ◌>>◌, unless, or_refuse}
use Rattle.oc_model.specs.Schemas.{Schema, class_at, class_named}
use Rattle.oc_schema.proofs.Parting.{some_there}

-- a value was answered, and so was what follows from it
pub bound : {A B : Type 0} (r : Checked A) (f : A → Checked B) (b : B) → (r >>= f) ≡ Ok b → (a : A) × (r ≡ Ok a) × (f a ≡ Ok b)
bound (Ok a) f b h = (a, refl, h)
bound (Err w) f b h = absurd (cc)

-- of two steps in a row neither was refused
pub behind : {A B : Type 0} (q : Checked A) (r : Checked B) (b : B) → (q >> r) ≡ Ok b → (a : A) × (q ≡ Ok a) × (r ≡ Ok b)
behind (Ok a) r b h = (a, refl, h)
behind (Err w) r b h = absurd (cc)

-- what was asked for is there
pub there : {A : Type 0} (o : Option A) (w : Word) (a : A) → or_refuse o w ≡ Ok a → o ≡ Some a
there None w a h = absurd (cc)
there (Some x) w a h = let q : x ≡ a = cc in ap Some q

-- the test holds
pub passed : (b : Bool) (w : Word) (u : Unit {0}) → unless b w ≡ Ok u → b ≡ true
passed true w u h = refl
passed false w u h = absurd (cc)

-- where nothing is there, nothing is found
pub none_there : {A : Type 0} (o : Option A) → is_none o ≡ true → is_some o ≡ false
none_there None h = refl
none_there (Some x) h = absurd (true≢false (sym h))

-- a class that is there
pub class_some : (s : Schema) (c : ℕ) → is_some (class_at s c) ≡ true → (d : ClassDef) × (class_at s c ≡ Some d)
class_some s c h = some_of (class_at s c) h
  where
    some_of : (o : Option ClassDef) → is_some o ≡ true → (d : ClassDef) × (o ≡ Some d)
    some_of None h = absurd (true≢false (sym h))
    some_of (Some d) h = (d, refl)

-- the class of a name that is there
pub named_class : (s : Schema) (name : Text) (c : ℕ) → class_named s name ≡ Some c → (d : ClassDef) × (class_at s c ≡ Some d)
named_class s name c h = class_some s c (some_there s name (Some c) (sym h))
