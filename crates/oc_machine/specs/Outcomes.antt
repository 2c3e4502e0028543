-- What a command leads to: a new state and an answer.
use Rattle.std.specs.Prelude.{Ok, Err}
use Rattle.oc_model.specs.declared.answer.Answer.{Answer}
use Rattle.oc_model.specs.declared.answer.Answer.TheVariants as answer
use Rattle.oc_model.specs.States.{State}
pub use Rattle.oc_model.specs.Refusals.{Checked, ◌>>=◌, ◌>>◌, unless, or_refuse}

-- the new state and the answer
abbrev pub Outcome : Type 0
Outcome = State × Answer

-- a refusal leaves the state as it is
abbrev pub settled : State → Checked Outcome → Outcome
settled m (Ok r) = r
settled m (Err w) = (m, answer.Refused w)

-- the new state, where nothing but `ok` is said
abbrev pub done : State → Checked Outcome
done m = Ok (m, answer.Done)
