-- What any command leads to, and what is left where it gives up.
use Rattle.std.proofs.Common.{◌≡◌, ◌⊎◌, inl, inr, ⊎_elim, refl, sym, ap, ◌∙◌, subst, ℕ, zero, suc, ◌==◌, Bool, ◌++◌, true, false, true≢false, List, [], ◌∷◌, length, take, append-nil, arith, Option, Some, None, Err, Result, IfOk, OnErr}
use Rattle.std.specs.Prelude.{IsErrOf}
use Rattle.std.proofs.lemmas.Bool.Decides.{nat_tests}
use Rattle.std.proofs.lemmas.Result.{IfErr-at_err, IfOk-weaker, on_err_weaker}
use Rattle.oc_host.specs.Disk.{Disk, IsImage, LeavesOnly, Looks, now}
use Rattle.oc_host.proofs.Moments.{weaken}
use Rattle.oc_layout.specs.declared.cells.Space.{Space}
use Rattle.oc_model.specs.declared.answer.Answer.{Answer}
use Rattle.oc_model.specs.declared.answer.Answer.TheVariants as answer
use Rattle.oc_model.specs.declared.answer.Word.TheVariants as word
use Rattle.oc_model.specs.declared.command.Command.{Command}
use Rattle.oc_model.specs.declared.command.Command.TheVariants as line
use Rattle.oc_model.specs.declared.command.Decl.{Decl}
use Rattle.oc_model.specs.Maps.{Text}
use Rattle.oc_model.specs.States.{State}
use Rattle.oc_model.specs.Stores.{Store}
use Rattle.oc_machine.specs.CommitLines.{commit_step, rollback_step}
use Rattle.oc_machine.specs.Machine.{step}
use Rattle.oc_machine.specs.Outcomes.{Outcome, settled}
use Rattle.oc_machine.specs.QueryLines.{query_step}
use Rattle.oc_machine.specs.Runs.{is_full}
use Rattle.oc_store.specs.Changed.{IsSameStore}
use Rattle.oc_store.specs.Filed.{Agrees, FiledStore, Shows}
use Rattle.oc_store.specs.Stops.{StandsForEither}
use Rattle.oc_store.proofs.Standing.{image_stands}
use Rattle.oc_container.specs.declared.fault.Fault.{Fault}
use Rattle.oc_container.specs.declared.fault.Fault.TheVariants as fault
use Rattle.oc_container.specs.Built.{built_outcome, class_outcome}
use Rattle.oc_container.specs.Contained.{Contained, Holds, IsSame, IsSpent, Meets}

-- ---- the steps

-- there are none, where the test says so
pub none_in : {X : Type 0} (xs ys : List X) (b : Bool) → xs ≡ ys → b ≡ (length xs == 0) → b ≡ true → ys ≡ []
none_in xs [] b same told empty = refl
none_in xs (y ∷ ys) b same told empty =
    let some : (length (y ∷ ys) == 0) ≡ false = grind (arith, nat_tests) in
    absurd (true≢false (sym empty ∙ told ∙ ap (λ zs. length zs == 0) same ∙ some))

pub class_is : (m : State) (name : Text) (parent : Option Text) (ds : List Decl) → class_outcome m name parent ds ≡ built_outcome m (line.Class name parent ds)
unfolding step
class_is m name parent ds = refl

pub query_is : (m : State) (class : Text) → settled m (query_step m class None []) ≡ built_outcome m (line.Query class None [])
unfolding step
query_is m class = refl

pub commit_is : (m : State) → commit_step m ≡ built_outcome m line.Commit
unfolding step
commit_is m = refl

pub rollback_is : (m : State) → rollback_step m ≡ built_outcome m line.Rollback
unfolding step
rollback_is m = refl

-- an outcome that is the same for every state is met too
pub outcome_met : (r : Result Answer Fault) (v w : Contained) (d e : Disk) (T : Type 0) (o p : State → Outcome) → ((m : State) → o m ≡ p m)
    → IfOk r (λ a. T → (m : State) → Holds v d m → Meets w e a (o m)) → IfOk r (λ a. T → (m : State) → Holds v d m → Meets w e a (p m))
outcome_met r v w d e T o p same =
    IfOk-weaker r (λ a. T → (m : State) → Holds v d m → Meets w e a (o m)) (λ a. T → (m : State) → Holds v d m → Meets w e a (p m))
    (λ a meets t m h. subst (λ q. Meets w e a q) (same m) (meets t m h))

-- a commit meets its step, where there is room
pub commit_met : (r : Result Answer Fault) (v w : Contained) (d e : Disk) (T : Type 0) (c : Command) → c ≡ line.Commit
    → IfOk r (λ a. is_full (Some a) ≡ false → T → (m : State) → Holds v d m → Meets w e a (commit_step m))
    → IfOk r (λ a. is_full (Some a) ≡ false → T → (m : State) → Holds v d m → Meets w e a (built_outcome m c))
commit_met r v w d e T c is =
    IfOk-weaker r (λ a. is_full (Some a) ≡ false → T → (m : State) → Holds v d m → Meets w e a (commit_step m)) (λ a. is_full (Some a) ≡ false → T → (m : State) → Holds v d m → Meets w e a (built_outcome m c))
    (λ a meets room t m h. subst (λ q. Meets w e a q) (commit_is m ∙ ap (built_outcome m) (sym is)) (meets room t m h))

-- ---- what a stop leaves

nothing_of : (n : ℕ) → take {A = ℕ} n [] ≡ []
nothing_of zero = refl
nothing_of (suc n) = refl

-- a stop in a run that only looks leaves what stands for the store of the last commit
pub looks_stand : (v : FiledStore) (d e : Disk) (c s : Store) → Agrees v d → Shows v d c s → Looks d e → LeavesOnly d e (StandsForEither c s d)
looks_stand v d e c s agrees shows looks =
    weaken d e (StandsForEither c s d) (IsImage (now d)) looks.moments
    (λ image said is. (is.told.1 ∙ ap (λ (l : List ℕ). d.said ++ l) (nothing_of is.told.0) ∙ append-nil d.said, inl (image_stands v d c s agrees shows image said is)))

-- ---- what is left where nothing has changed

module _ (v w : FiledStore) (same : IsSameStore v w) where
  -- the store as it was, with what none of its slots depends on as it is
  abbrev between : FiledStore
  between = record {
    slots = record (v.slots) { room = (w.slots).room; len = (w.slots).len; cached = (w.slots).cached };
    committed = v.committed;
    session = v.session;
    lists = v.lists;
    touched = w.touched;
  }

  between_is : between ≡ w
  between_is = λ i. record {
    slots = record {
      header = sym (same.slots).header i;
      pages = sym (same.slots).pages i;
      objects = sym (same.slots).objects i;
      system = sym (same.slots).system i;
      room = (w.slots).room;
      len = (w.slots).len;
      cached = (w.slots).cached;
    };
    committed = sym same.committed i;
    session = sym same.session i;
    lists = sym same.lists i;
    touched = w.touched;
  }

  pub same_shows : (d : Disk) (c s : Store) → Shows v d c s → Shows w d c s
  same_shows d c s shows = subst (λ (x : FiledStore). Shows x d c s) between_is (record { spelled = shows.spelled; committed = shows.committed; session = shows.session })

-- a container that is the same, over a file that is the same, is as it was
pub same_spent : (v w : Contained) (d e : Disk) (m : State) → IsSame v w → e ≡ d → Holds v d m → IsSpent w e m
same_spent v w d e m same there h = inl (subst (λ (x : Disk). Shows w.store x m.committed m.session) (sym there) (same_shows v.store w.store same.store d m.committed m.session h.stores))

-- so after a fault of a commit other than that of the host it is spent
pub spent_unless : (r : Result Answer Fault) (v w : Contained) (d e : Disk) (T Still : Type 0) → (Still → e ≡ d) → OnErr r (IsErrOf r fault.Host ⊎ (Still × IsSame v w))
    → OnErr r (IsErrOf r fault.Host ⊎ (T → (m : State) → Holds v d m → IsSpent w e m))
spent_unless r v w d e T Still there = on_err_weaker r (⊎_elim inl (λ same. inr (λ t m h. same_spent v w d e m same.1 (there same.0) h)))

-- ---- the exits

module _ (r : Result Answer Fault) where
  -- an answer that isn't a want of room is none
  pub never_full : (X : ℕ → ℕ → ℕ → Type 0) → IfOk r (λ a. is_full (Some a) ≡ false) → IfOk r (λ a. (need len limit : ℕ) → a ≡ answer.Refused (word.Full need len limit) → X need len limit)
  never_full X room = IfOk-weaker r (λ a. is_full (Some a) ≡ false) (λ a. (need len limit : ℕ) → a ≡ answer.Refused (word.Full need len limit) → X need len limit)
      (λ a not_full need len limit is. absurd (true≢false (sym (ap (λ x. is_full (Some x)) is) ∙ not_full))) room

  -- what is so anyway is so where there is room
  pub in_room : (P : Answer → Type 0) → IfOk r P → IfOk r (λ a. is_full (Some a) ≡ false → P a)
  in_room P = IfOk-weaker r P (λ a. is_full (Some a) ≡ false → P a) (λ a p room. p)

  -- a want of room, with what is known anyway
  pub full_and : (Known Still Same : Type 0) (X : ℕ → ℕ → ℕ → Type 0) → Known → IfOk r (λ a. (need len limit : ℕ) → a ≡ answer.Refused (word.Full need len limit) → X need len limit × Still × Same)
      → IfOk r (λ a. (need len limit : ℕ) → a ≡ answer.Refused (word.Full need len limit) → Known × X need len limit × Still × Same)
  full_and Known Still Same X known =
      IfOk-weaker r (λ a. (need len limit : ℕ) → a ≡ answer.Refused (word.Full need len limit) → X need len limit × Still × Same)
      (λ a. (need len limit : ℕ) → a ≡ answer.Refused (word.Full need len limit) → Known × X need len limit × Still × Same)
      (λ a full need len limit is. let f = full need len limit is in (known, f.0, f.1, f.2))

-- after a damaged slot what holds after every fault but the host's
pub damaged_unless : (r : Result Answer Fault) (P : Type 0) (space : Space) (n : ℕ) → OnErr r (IsErrOf r fault.Host ⊎ P) → r ≡ Err (fault.Damaged space n) → P
damaged_unless r P space n either is = not_host (IfErr-at_err (λ _. IsErrOf r fault.Host ⊎ P) is either)
  where
    not_host : IsErrOf r fault.Host ⊎ P → P
    not_host (inl host) = absurd (let clash : Err (fault.Damaged space n) ≡ Err fault.Host = sym is ∙ host in cc)
    not_host (inr p) = p
