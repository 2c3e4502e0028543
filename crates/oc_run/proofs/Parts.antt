-- How the parts of a run make a whole.
use Rattle.std.proofs.Common.{◌≡◌, ℕ, ◌||◌, ◌≢◌, Bool, true, false, [], ◌∷◌, ◌++◌, ◌+◌, ◌-◌, length, take, drop, append_assoc, arith, refl, sym, ◌∙◌, ap, subst}
use Rattle.std.specs.Prelude.{codes, Some, None, IsTrue, OnErr, Result, Ok, Err}
use Rattle.std.proofs.lemmas.List.{append-nil, take_all, drop_all, take-append-drop}
use Rattle.oc_model.specs.Maps.{Text}
use Rattle.oc_model.specs.States.{State}
use Rattle.oc_model.specs.declared.answer.Answer.{Answer}
use Rattle.oc_machine.specs.Printing.{answer_text}
use Rattle.oc_machine.specs.Runs.{is_built, is_refusal, line_step}
use Rattle.oc_host.specs.Disk.{Disk, Says, SaysFront}
use Rattle.oc_host.proofs.Saying.{says_nothing, says_then, says_then_front, front_more}
use Rattle.oc_run.specs.Rest.{is_in_one_line, rest, errs, Goes, Advances, Fronts, IsSameFile}
use Rattle.oc_run.proofs.LineByLine.{quiet_line, answered_line, goes_nowhere, goes_then, grown, last_line, last_line_goes, rest_nothing, errs_nothing}

-- what holds whatever the result holds at an error
pub on_err : {T E : Type 0} (r : Result T E) (P : Type 0) → P → OnErr r P
on_err (Ok x) P p = tt
on_err (Err e) P p = p

module _ (tells : Bool) where
  -- ---- one line

  pub quiet : (d : Disk) (m n : State) (x : Text) (bad : Bool) → is_in_one_line x ≡ true → line_step is_built false m x ≡ (n, None) → Advances tells d d m (λ u. x ++ 10 ∷ u) bad n (λ u. u) bad
  quiet d m n x bad h step = record { said = []; host = λ told. says_nothing d; goes = λ u. quiet_line m n x u bad h step }

  pub answered : (d e : Disk) (m n : State) (a : Answer) (x t : Text) (bad : Bool) → is_in_one_line x ≡ true → line_step is_built false m x ≡ (n, Some a) → t ≡ answer_text a → (IsTrue tells → Says d e t) → Advances tells d e m (λ u. x ++ 10 ∷ u) bad n (λ u. u) (bad || is_refusal a)
  answered d e m n a x t bad h step is told =
      record { said = answer_text a; host = λ yes. subst (λ (s : Text). Says d e s) is (told yes); goes = λ u. answered_line m n a x u bad h step }

  pub answered_front : (d e : Disk) (m n : State) (a : Answer) (x t : Text) → is_in_one_line x ≡ true → line_step is_built false m x ≡ (n, Some a) → t ≡ answer_text a → (IsTrue tells → SaysFront d e t) → Fronts tells d e m (λ u. x ++ 10 ∷ u)
  answered_front d e m n a x t h step is told =
      λ yes u. subst (λ (s : Text). SaysFront d e s) (sym (answered_line m n a x u false h step).text) (front_more (rest n u) (subst (λ (s : Text). SaysFront d e s) is (told yes)))

  -- ---- parts in a row

  pub stays : (d : Disk) (m : State) (before : Text → Text) (bad : Bool) → Advances tells d d m before bad m before bad
  stays d m before bad = record { said = []; host = λ told. says_nothing d; goes = λ u. goes_nowhere m (before u) bad }

  pub fronts_none : (d : Disk) (m : State) (before : Text → Text) → Fronts tells d d m before
  fronts_none d m before = λ yes u. record { count = 0; says = says_nothing d }

  pub advances_then : {d e f : Disk} {m n k : State} {one two three : Text → Text} {bad worse worst : Bool} → Advances tells d e m one bad n two worse → Advances tells e f n two worse k three worst → Advances tells d f m one bad k three worst
  advances_then first second =
      record { said = first.said ++ second.said; host = λ yes. says_then (first.host yes) (second.host yes); goes = λ u. goes_then (first.goes u) (second.goes u) }

  pub advances_front : {d e f : Disk} {m n : State} {one two : Text → Text} {bad worse : Bool} → Advances tells d e m one bad n two worse → Fronts tells e f n two → Fronts tells d f m one
  advances_front {d} {e} {f} first second =
      λ yes u. subst (λ (s : Text). SaysFront d f s) (sym (first.goes u).text) (says_then_front (first.host yes) (second yes u))

  -- what comes behind may begin with these bytes
  pub within : {d e : Disk} {m n : State} {one two : Text → Text} {bad worse : Bool} (f : Text → Text) → Advances tells d e m one bad n two worse → Advances tells d e m (λ u. one (f u)) bad n (λ u. two (f u)) worse
  within f part = record { said = part.said; host = part.host; goes = λ u. part.goes (f u) }

  -- a piece that ends no line
  pub keeps : (d : Disk) (m : State) (x y : Text) (bad : Bool) → is_in_one_line x ≡ true → is_in_one_line y ≡ true → Advances tells d d m (λ u. x ++ (y ++ u)) bad m (λ u. (x ++ take (65536 - length x) y) ++ u) bad
  keeps d m x y bad h i = record { said = []; host = λ told. says_nothing d; goes = λ u. grown m x y u bad h i }

  -- the whole piece ends no line
  pub took_all : (d : Disk) (m : State) (x b y : Text) (n : ℕ) (bad : Bool) → is_in_one_line x ≡ true → is_in_one_line (take n b) ≡ true → y ≡ x ++ take (65536 - length x) (take n b) → n ≡ length b → Advances tells d d m (λ u. x ++ (b ++ u)) bad m (λ u. y ++ (drop n b ++ u)) bad
  took_all d m x b y n bad h i is end = record { said = []; host = λ told. says_nothing d; goes = λ u. subst (λ (t : Text). Goes m (x ++ (b ++ u)) bad [] m (t ++ (drop n b ++ u)) bad) (sym is) (moved u) }
    where
      front : take n b ≡ b
      front = take_all n b (omega (arith, end))

      back : drop n b ≡ []
      back = drop_all n b (omega (arith, end))

      moved : (u : Text) → Goes m (x ++ (b ++ u)) bad [] m ((x ++ take (65536 - length x) (take n b)) ++ (drop n b ++ u)) bad
      moved u =
          subst (λ (t : Text). Goes m (x ++ (b ++ u)) bad [] m ((x ++ take (65536 - length x) (take n b)) ++ (t ++ u)) bad) (sym back)
          (subst (λ (t : Text). Goes m (x ++ (t ++ u)) bad [] m ((x ++ take (65536 - length x) (take n b)) ++ u) bad) front (grown m x (take n b) u bad h i))

  -- the piece reaches to an LF
  reaches : (d : Disk) (m : State) (x b y : Text) (n : ℕ) (bad : Bool) → is_in_one_line x ≡ true → is_in_one_line (take n b) ≡ true → y ≡ x ++ take (65536 - length x) (take n b) → drop n b ≡ 10 ∷ drop (n + 1) b → Advances tells d d m (λ u. x ++ (b ++ u)) bad m (λ u. y ++ 10 ∷ (drop (n + 1) b ++ u)) bad
  reaches d m x b y n bad h i is lf = record { said = []; host = λ told. says_nothing d; goes = λ u. subst (λ (t : Text). Goes m (x ++ (b ++ u)) bad [] m (t ++ 10 ∷ (drop (n + 1) b ++ u)) bad) (sym is) (moved u) }
    where
      parts : (u : Text) → take n b ++ 10 ∷ (drop (n + 1) b ++ u) ≡ b ++ u
      parts u = ap (λ (t : Text). take n b ++ (t ++ u)) (sym lf) ∙ sym (append_assoc (take n b) (drop n b) u) ∙ ap (λ (t : Text). t ++ u) (take-append-drop n b)

      moved : (u : Text) → Goes m (x ++ (b ++ u)) bad [] m ((x ++ take (65536 - length x) (take n b)) ++ 10 ∷ (drop (n + 1) b ++ u)) bad
      moved u =
          subst (λ (t : Text). Goes m (x ++ t) bad [] m ((x ++ take (65536 - length x) (take n b)) ++ 10 ∷ (drop (n + 1) b ++ u)) bad) (parts u)
          (grown m x (take n b) (10 ∷ (drop (n + 1) b ++ u)) bad h i)

  pub took_line : (d e : Disk) (m k : State) (x b y z : Text) (n : ℕ) (bad worse : Bool) → is_in_one_line x ≡ true → is_in_one_line (take n b) ≡ true → y ≡ x ++ take (65536 - length x) (take n b) → drop n b ≡ 10 ∷ drop (n + 1) b → Advances tells d e m (λ u. y ++ 10 ∷ u) bad k (λ u. u) worse → z ≡ [] → Advances tells d e m (λ u. x ++ (b ++ u)) bad k (λ u. z ++ (drop (n + 1) b ++ u)) worse
  took_line d e m k x b y z n bad worse h i is lf answered none =
      subst (λ (t : Text). Advances tells d e m (λ u. x ++ (b ++ u)) bad k (λ u. t ++ (drop (n + 1) b ++ u)) worse) (sym none)
      (advances_then (reaches d m x b y n bad h i is lf) (within (λ u. drop (n + 1) b ++ u) answered))

  pub took_line_front : (d e : Disk) (m : State) (x b y : Text) (n : ℕ) (bad : Bool) → is_in_one_line x ≡ true → is_in_one_line (take n b) ≡ true → y ≡ x ++ take (65536 - length x) (take n b) → drop n b ≡ 10 ∷ drop (n + 1) b → Fronts tells d e m (λ u. y ++ 10 ∷ u) → Fronts tells d e m (λ u. x ++ (b ++ u))
  took_line_front d e m x b y n bad h i is lf front =
      advances_front (reaches d m x b y n bad h i is lf) (λ yes u. front yes (drop (n + 1) b ++ u))

  -- ---- the end of a script

  pub last_none : (d : Disk) (m : State) (x : Text) (bad : Bool) → x ≡ [] → Advances tells d d m (λ u. x) bad m (λ u. []) bad
  last_none d m x bad none = subst (λ (t : Text). Advances tells d d m (λ u. t) bad m (λ u. []) bad) (sym none) (stays d m (λ u. []) bad)

  pub last_some : (d e : Disk) (m n : State) (x : Text) (bad worse : Bool) → is_in_one_line x ≡ true → x ≢ [] → Advances tells d e m (λ u. x ++ 10 ∷ u) bad n (λ u. u) worse → Advances tells d e m (λ u. x) bad n (λ u. []) worse
  last_some d e m n x bad worse h some part = record { said = part.said; host = part.host; goes = λ u. last_line_goes m n x part.said bad worse h some part.goes }

  -- The front of what is said of the last line, that nothing ends.
  pub last_front : (d e : Disk) (m : State) (x : Text) → is_in_one_line x ≡ true → x ≢ [] → Fronts tells d e m (λ u. x ++ 10 ∷ u) → Fronts tells d e m (λ u. x)
  last_front d e m [] h some front = absurd (some refl)
  last_front d e m (c ∷ x) h some front = λ yes u. subst (λ (s : Text). SaysFront d e s) (sym (last_line m c x false h).text) (front yes [])

  pub closes : (d e f : Disk) (m n : State) (x t : Text) (bad worse : Bool) → t ≡ codes "closed\n" → Advances tells d e m (λ u. x) bad n (λ u. []) worse → (IsTrue tells → Says e f t) → IsTrue tells → Says d f (rest m x)
  closes d e f m n x t bad worse is part told = λ yes.
      subst (λ (s : Text). Says d f s) (sym (part.goes []).text)
      (says_then (part.host yes) (subst (λ (s : Text). Says e f s) (is ∙ sym (rest_nothing n)) (told yes)))

  pub closes_front : (d e f : Disk) (m n : State) (x t : Text) (bad worse : Bool) → t ≡ codes "closed\n" → Advances tells d e m (λ u. x) bad n (λ u. []) worse → (IsTrue tells → SaysFront e f t) → IsTrue tells → SaysFront d f (rest m x)
  closes_front d e f m n x t bad worse is part told = λ yes.
      subst (λ (s : Text). SaysFront d f s) (sym (part.goes []).text)
      (says_then_front (part.host yes) (subst (λ (s : Text). SaysFront e f s) (is ∙ sym (rest_nothing n)) (told yes)))

  pub closes_errors : (d e : Disk) (m n : State) (x : Text) (bad worse : Bool) → Advances tells d e m (λ u. x) bad n (λ u. []) worse → bad || errs m x ≡ worse
  closes_errors d e m n x bad worse part = (part.goes []).errors ∙ errs_nothing n worse

  -- ---- a script in pieces

  pub stops : {d e : Disk} {m n : State} {one two : Text → Text} {bad worse : Bool} → Advances tells d e m one bad n two worse → Fronts tells d e m one
  stops {d} {e} {m} {n} {one} {two} part = advances_front part (fronts_none e n two)

  -- the script has a piece more
  pub fed : {d e f : Disk} {m n o : State} {one : Text → Text} {bad worse worst : Bool} (y z l p k : Text) → Advances tells d e m one bad n (λ u. y ++ l) worse → l ≡ p ++ k → Advances tells e f n (λ u. y ++ (p ++ u)) worse o (λ u. z ++ u) worst → Advances tells d f m one bad o (λ u. z ++ k) worst
  fed {d} {e} {f} {m} {n} {o} {one} {bad} {worse} {worst} y z l p k so_far is part =
      advances_then (subst (λ (t : Text). Advances tells d e m one bad n (λ u. y ++ t) worse) is so_far) (within (λ u. k) part)

  pub fed_front : {d e f : Disk} {m n : State} {one : Text → Text} {bad worse : Bool} (y l p k : Text) → Advances tells d e m one bad n (λ u. y ++ l) worse → l ≡ p ++ k → Fronts tells e f n (λ u. y ++ (p ++ u)) → Fronts tells d f m one
  fed_front {d} {e} {f} {m} {n} {one} {bad} {worse} y l p k so_far is front =
      advances_front (subst (λ (t : Text). Advances tells d e m one bad n (λ u. y ++ t) worse) is so_far) (λ told u. front told k)

  -- the script is at its end
  pub fed_all : {d e : Disk} {m n : State} {one : Text → Text} {y l : Text} {bad worse : Bool} → Advances tells d e m one bad n (λ u. y ++ l) worse → l ≡ [] → Advances tells d e m one bad n (λ u. y) worse
  fed_all {d} {e} {m} {n} {one} {y} {l} {bad} {worse} so_far none =
      subst (λ (t : Text). Advances tells d e m one bad n (λ u. t) worse) (append-nil y) (subst (λ (t : Text). Advances tells d e m one bad n (λ u. y ++ t) worse) none so_far)

-- what is said leaves the file
pub same_then : {d e f : Disk} {s : Text} → IsSameFile d e → Says e f s → IsSameFile d f
same_then same said = record { bytes = said.bytes ∙ same.bytes; synced = said.synced ∙ same.synced; spans = said.spans ∙ same.spans; top = said.top ∙ same.top }
