-- What a run has still to say, from the state after some lines and the bytes behind them.
use Rattle.std.specs.Prelude.{◌≡◌, Bool, false, not, ◌||◌, ◌==◌, [], ◌++◌, flat_map, IsTrue}
use Rattle.std.specs.List.{list_any, list_all}
use Rattle.oc_model.specs.Maps.{Text}
use Rattle.oc_model.specs.States.{State}
use Rattle.oc_host.specs.Disk.{Disk, Says, SaysFront}
use Rattle.oc_machine.specs.Printing.{answer_text}
use Rattle.oc_machine.specs.Runs.{is_built, is_refusal, lines_of, answers_from, closing}

-- no byte is LF
abbrev pub is_in_one_line : Text → Bool
is_in_one_line t = list_all (λ c. not (c == 10)) t

-- the answers of these bytes' lines, and the closing
unfoldable pub rest : State → Text → Text
rest m t = flat_map answer_text (answers_from is_built [] 1 m (lines_of t)) ++ closing false

-- some line of these bytes is refused
unfoldable pub errs : State → Text → Bool
errs m t = list_any is_refusal (answers_from is_built [] 1 m (lines_of t))

-- A part of a run: it begins at state m with the bytes t before it, and ends at state n with the bytes u. It says `said`. Whether a line was refused is `bad` before it and `worse` after it.
pub record Goes (m : State) (t : Text) (bad : Bool) (said : Text) (n : State) (u : Text) (worse : Bool) : Type 0 where
  pub text : rest m t ≡ said ++ rest n u
  pub errors : bad || errs m t ≡ worse || errs n u

-- A part of a run that reads these bytes: whatever comes behind them, it goes from `before` it to `after` it, and says so to the host.
pub record Advances (tells : Bool) (d e : Disk) (m : State) (before : Text → Text) (bad : Bool) (n : State) (after : Text → Text) (worse : Bool) : Type 0 where
  pub said : Text
  pub host : IsTrue tells → Says d e said
  pub goes : (u : Text) → Goes m (before u) bad said n (after u) worse

-- A part of a run that stops: whatever comes behind, a front of what was still to say was said.
abbrev pub Fronts : Bool → Disk → Disk → State → (Text → Text) → Type 0
Fronts tells d e m before = IsTrue tells → (u : Text) → SaysFront d e (rest m (before u))

-- The host's file, and what a stop may leave of it, are as before.
pub record IsSameFile (d e : Disk) : Type 0 where
  pub bytes : e.bytes ≡ d.bytes
  pub synced : e.synced ≡ d.synced
  pub spans : e.spans ≡ d.spans
  pub top : e.top ≡ d.top
