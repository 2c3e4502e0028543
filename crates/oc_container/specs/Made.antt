-- What memory becomes where an object is made in it, and what a line comes to that makes one.
use Rattle.std.specs.Prelude.{◌≡◌, ℕ, List, [], None, true, Ok, Err}
use Rattle.oc_model.specs.declared.value.Entry.{Entry}
use Rattle.oc_model.specs.declared.command.Given.{Given}
use Rattle.oc_model.specs.declared.answer.Word.TheVariants as word
use Rattle.oc_model.specs.Maps.{Text}
use Rattle.oc_model.specs.Refusals.{Checked, ◌>>=◌, or_refuse}
use Rattle.oc_model.specs.Schemas.{class_named}
use Rattle.oc_model.specs.States.{State, Live}
use Rattle.oc_model.specs.Stores.{Store, class_of, written}
use Rattle.oc_machine.specs.ObjectLines.{made}
use Rattle.oc_machine.specs.Values.{FieldValues, checked, numbers_given, with_given}
use Rattle.oc_live.specs.Memories.{Memory, with_new}
use Rattle.oc_container.specs.Givens.{fields_given}
use Rattle.oc_container.specs.Outlined.{remembered}
use Rattle.oc_container.specs.Woken.{with_all_woken}

-- an unsaved object of the class, with these entries
abbrev pub unsaved_with : ℕ → List Entry → Live
unsaved_with c es = record { class = c; number = None; active = true; entries = es }

-- With a new object of the class, with these values and the defaults elsewhere, and its handle. What the values name by number is live before it.
unfoldable pub made_in : Store → Memory → ℕ → FieldValues → Memory × ℕ
unfolding written
made_in s k c fs =
    let w = with_all_woken (class_of s) k (numbers_given fs) in
    (with_new w (unsaved_with c (written s.schema c (with_given (remembered w) [] fs) [])), w.next_handle)

-- the values pass the check, and are those of these fields
abbrev pub IsChecked : State → ℕ → List Given → Type 0
IsChecked m c gs = checked m c [] gs ≡ Ok (fields_given m.session.schema c gs)

-- what a line comes to that makes an object of the class of this name: the state with it, and its handle
unfoldable pub new_made : State → Text → List Given → Checked (State × ℕ)
unfolding checked made
new_made m class gs =
    or_refuse (class_named m.session.schema class) word.Class >>= λ c.
    checked m c [] gs >>= λ fs.
    Ok (made m c fs)

-- the state then: where it is refused, the one before
abbrev pub after_making : State → Checked (State × ℕ) → State
after_making m (Ok r) = r.0
after_making m (Err w) = m

-- the handle that is told, or the refusal
abbrev pub handle_told : Checked (State × ℕ) → Checked ℕ
handle_told (Ok r) = Ok r.1
handle_told (Err w) = Err w
