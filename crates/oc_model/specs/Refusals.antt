-- A value or the first refusal, and what follows where there was none.
use Rattle.std.specs.Prelude.{Bool, true, false, Option, Some, None, Result, Ok, Err}
use Rattle.oc_model.specs.declared.answer.Word.{Word}

-- a value, or the first refusal
abbrev pub Checked : Type 0 → Type 0
Checked A = Result A Word

infixl 10 ◌>>=◌
-- what follows, unless there was a refusal
abbrev pub ◌>>=◌ : {A B : Type 0} → Checked A → (A → Checked B) → Checked B
(Ok a) >>= f = f a
(Err w) >>= f = Err w

infixl 10 ◌>>◌
-- the second, unless the first was refused
abbrev pub ◌>>◌ : {A B : Type 0} → Checked A → Checked B → Checked B
(Ok a) >> r = r
(Err w) >> r = Err w

-- the refusal, unless the test holds
abbrev pub unless : Bool → Word → Checked (Unit {0})
unless true w = Ok tt
unless false w = Err w

-- the refusal, where there is nothing
abbrev pub or_refuse : {A : Type 0} → Option A → Word → Checked A
or_refuse None w = Err w
or_refuse (Some a) w = Ok a
