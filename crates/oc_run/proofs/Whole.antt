-- The parts of a run make the text of the machine.
use Rattle.std.proofs.Common.{◌≡◌, Bool, false, [], ◌++◌, sym, ◌∙◌, ap, subst}
use Rattle.std.specs.Prelude.{codes, IsTrue, ◌||◌}
use Rattle.oc_model.specs.Maps.{Text}
use Rattle.oc_model.specs.States.{State, start}
use Rattle.oc_model.specs.Stores.{empty_store}
use Rattle.oc_host.specs.Disk.{Disk, Says, SaysFront}
use Rattle.oc_host.proofs.Saying.{says_then, says_then_front, front_more}
use Rattle.oc_run.specs.Outcomes.{text, has_error}
use Rattle.oc_run.specs.Rest.{rest, errs, Advances, Fronts}
use Rattle.oc_run.proofs.LineByLine.{text_is_rest, has_error_is_errs}

-- the state before the first line
abbrev pub first : State
first = start (empty_store 1)

starts : (script : Text) → text script ≡ codes "ready\n" ++ rest first script
unfolding text
starts script = text_is_rest script

errs_are : (script : Text) → has_error script ≡ errs first script
unfolding has_error
errs_are script = has_error_is_errs script

-- a front of `ready`
pub ready_front : (d e : Disk) (t script : Text) → t ≡ codes "ready\n" → SaysFront d e t → SaysFront d e (text script)
ready_front d e t script is front =
    subst (λ (s : Text). SaysFront d e s) (sym (starts script)) (front_more (rest first script) (subst (λ (s : Text). SaysFront d e s) is front))

-- `ready`, and then a front of what is said of the script
pub script_front : (d e f : Disk) (t script : Text) → t ≡ codes "ready\n" → Says d e t → SaysFront e f (rest first script) → SaysFront d f (text script)
script_front d e f t script is ready front =
    subst (λ (s : Text). SaysFront d f s) (sym (starts script)) (says_then_front (subst (λ (s : Text). Says d e s) is ready) front)

-- `ready`, and then all that is said of the script
pub script_said : (d e f : Disk) (t script : Text) → t ≡ codes "ready\n" → Says d e t → Says e f (rest first script) → Says d f (text script)
script_said d e f t script is ready all =
    subst (λ (s : Text). Says d f s) (sym (starts script)) (says_then (subst (λ (s : Text). Says d e s) is ready) all)

module _ (tells : Bool) where
  -- the lines that LF ends, and then the last line and the closing
  pub then_rest : (d e f : Disk) (n : State) (m : State) (x y script : Text) (bad worse : Bool) → m ≡ first → x ≡ [] → Advances tells d e m (λ u. x ++ script) bad n (λ u. y) worse → Says e f (rest n y) → IsTrue tells → Says d f (rest first script)
  then_rest d e f n m x y script bad worse is_first none part all told =
      subst (λ (s : Text). Says d f s) (sym (part.goes []).text ∙ whole) (says_then (part.host told) all)
    where
      whole : rest m (x ++ script) ≡ rest first script
      whole = ap (λ (k : State). rest k (x ++ script)) is_first ∙ ap (λ (t : Text). rest first (t ++ script)) none

  pub then_rest_front : (d e f : Disk) (n : State) (m : State) (x y script : Text) (bad worse : Bool) → m ≡ first → x ≡ [] → Advances tells d e m (λ u. x ++ script) bad n (λ u. y) worse → SaysFront e f (rest n y) → IsTrue tells → SaysFront d f (rest first script)
  then_rest_front d e f n m x y script bad worse is_first none part front told =
      subst (λ (s : Text). SaysFront d f s) (sym (part.goes []).text ∙ whole) (says_then_front (part.host told) front)
    where
      whole : rest m (x ++ script) ≡ rest first script
      whole = ap (λ (k : State). rest k (x ++ script)) is_first ∙ ap (λ (t : Text). rest first (t ++ script)) none

  pub fronts_rest : (d e : Disk) (m : State) (x script : Text) → m ≡ first → x ≡ [] → Fronts tells d e m (λ u. x ++ script) → IsTrue tells → SaysFront d e (rest first script)
  fronts_rest d e m x script is_first none front told =
      subst (λ (s : Text). SaysFront d e s) (ap (λ (k : State). rest k (x ++ script)) is_first ∙ ap (λ (t : Text). rest first (t ++ script)) none) (front told [])

  pub errs_all : (d e : Disk) (m n : State) (x y script : Text) (bad worse worst : Bool) → m ≡ first → x ≡ [] → bad ≡ false → Advances tells d e m (λ u. x ++ script) bad n (λ u. y) worse → worse || errs n y ≡ worst → has_error script ≡ worst
  errs_all d e m n x y script bad worse worst is_first none good part closed =
      errs_are script
      ∙ ap (λ (t : Text). errs first (t ++ script)) (sym none)
      ∙ ap (λ (k : State). errs k (x ++ script)) (sym is_first)
      ∙ ap (λ (b : Bool). b || errs m (x ++ script)) (sym good)
      ∙ (part.goes []).errors
      ∙ closed
