-- How a run goes on line by line.
use Rattle.std.proofs.Common.{◌≡◌, ℕ, zero, suc, ◌+◌, ◌<◌, ◌≤◌, ◌≢◌, ◌-◌, ◌⊎◌, inl, inr, Bool, true, false, not, List, [], ◌∷◌, ◌++◌, length, take, drop, refl, sym, ◌∙◌, ap, subst, append_assoc, arith, nat_lt}
use Rattle.std.specs.Prelude.{◌==◌, ◌&&◌, ◌||◌, flat_map, option_to_list, codes, Option, Some, None}
use Rattle.std.specs.List.{list_any}
use Rattle.std.proofs.lemmas.List.{append-nil, take_all, length-append, length-take, length-drop}
use Rattle.std.proofs.lemmas.Bool.{cases_lt}
use Rattle.std.proofs.lemmas.Bool.Decides.{nat_tests}
use Rattle.oc_model.specs.Maps.{Text}
use Rattle.oc_model.specs.States.{State, start}
use Rattle.oc_model.specs.Stores.{empty_store}
use Rattle.oc_model.specs.declared.answer.Answer.{Answer}
use Rattle.oc_model.specs.declared.answer.Word.TheVariants.{Long}
use Rattle.oc_machine.specs.Reading.{refused, reading}
use Rattle.oc_machine.specs.Printing.{answer_text}
use Rattle.oc_machine.specs.Runs.{is_built, is_refusal, lines_of, onto_first, line_step, built_step, answers_from, answers, closing, text, has_error}
use Rattle.oc_run.specs.Rest.{is_in_one_line, rest, errs, Goes}

-- ---- the lines of bytes that begin within a line

abbrev joined : Text → List Text → List Text
joined x [] = x ∷ []
joined x (l ∷ ls) = (x ++ l) ∷ ls

onto_joined : (c : ℕ) (x : Text) (ls : List Text) → onto_first c (joined x ls) ≡ joined (c ∷ x) ls
onto_joined c x [] = refl
onto_joined c x (l ∷ ls) = refl

onto_is_joined : (c : ℕ) (ls : List Text) → onto_first c ls ≡ joined (c ∷ []) ls
onto_is_joined c [] = refl
onto_is_joined c (l ∷ ls) = refl

both : (b d : Bool) → not b && d ≡ true → (b ≡ false) × (d ≡ true)
both true d e = absurd (cc)
both false d e = (refl, e)

lines_joined : (c : ℕ) (x u : Text) → is_in_one_line (c ∷ x) ≡ true → lines_of ((c ∷ x) ++ u) ≡ joined (c ∷ x) (lines_of u)
lines_joined c [] u h = rw (both (c == 10) true h).0 (onto_is_joined c (lines_of u))
lines_joined c (d ∷ x) u h =
    let p = both (c == 10) (is_in_one_line (d ∷ x)) h in
    rw p.0 (ap (onto_first c) (lines_joined d x u p.1) ∙ onto_joined c (d ∷ x) (lines_of u))

-- a line that LF ends
pub lines_lf : (x u : Text) → is_in_one_line x ≡ true → lines_of (x ++ 10 ∷ u) ≡ x ∷ lines_of u
lines_lf [] u h = refl
lines_lf (c ∷ x) u h = lines_joined c x (10 ∷ u) h ∙ ap (λ l. l ∷ lines_of u) (append-nil (c ∷ x))

-- the last line, that nothing ends
lines_last : (c : ℕ) (x : Text) → is_in_one_line (c ∷ x) ≡ true → lines_of (c ∷ x) ≡ lines_of ((c ∷ x) ++ 10 ∷ [])
lines_last c x h = ap lines_of (sym (append-nil (c ∷ x))) ∙ lines_joined c x [] h ∙ sym (lines_lf (c ∷ x) [] h)

-- ---- the answers of the lines

-- without lines that find no room, the numbers of the lines don't matter
renumbered : (i j : ℕ) (m : State) (ls : List Text) → answers_from is_built [] i m ls ≡ answers_from is_built [] j m ls
renumbered i j m [] = refl
renumbered i j m (l ∷ ls) =
    ap (λ xs. option_to_list (line_step is_built false m l).1 ++ xs) (renumbered (i + 1) (j + 1) (line_step is_built false m l).0 ls)

flat_map_append : (f : Answer → Text) (xs ys : List Answer) → flat_map f (xs ++ ys) ≡ flat_map f xs ++ flat_map f ys
flat_map_append f [] ys = refl
flat_map_append f (a ∷ xs) ys = ap (λ t. f a ++ t) (flat_map_append f xs ys) ∙ sym (append_assoc (f a) (flat_map f xs) (flat_map f ys))

abbrev from_line : State → Text → List Text → List Answer
from_line m x ls = option_to_list (line_step is_built false m x).1 ++ answers_from is_built [] 1 (line_step is_built false m x).0 ls

answers_lf : (m : State) (x u : Text) → is_in_one_line x ≡ true → answers_from is_built [] 1 m (lines_of (x ++ 10 ∷ u)) ≡ from_line m x (lines_of u)
answers_lf m x u h =
    ap (λ ls. answers_from is_built [] 1 m ls) (lines_lf x u h)
    ∙ ap (λ xs. option_to_list (line_step is_built false m x).1 ++ xs) (renumbered 2 1 (line_step is_built false m x).0 (lines_of u))

-- a line that has no answer
pub quiet_line : (m n : State) (x u : Text) (bad : Bool) → is_in_one_line x ≡ true → line_step is_built false m x ≡ (n, None) → Goes m (x ++ 10 ∷ u) bad [] n u bad
unfolding rest errs
quiet_line m n x u bad h step =
    let same : answers_from is_built [] 1 m (lines_of (x ++ 10 ∷ u)) ≡ answers_from is_built [] 1 n (lines_of u) =
    answers_lf m x u h ∙ ap (λ (r : State × Option Answer). option_to_list r.1 ++ answers_from is_built [] 1 r.0 (lines_of u)) step in
    record { text = ap (λ xs. flat_map answer_text xs ++ closing false) same; errors = ap (λ xs. bad || list_any is_refusal xs) same }

or_assoc : (a b c : Bool) → a || (b || c) ≡ (a || b) || c
or_assoc true b c = refl
or_assoc false b c = refl

-- a line with an answer
pub answered_line : (m n : State) (a : Answer) (x u : Text) (bad : Bool) → is_in_one_line x ≡ true → line_step is_built false m x ≡ (n, Some a) → Goes m (x ++ 10 ∷ u) bad (answer_text a) n u (bad || is_refusal a)
unfolding rest errs
answered_line m n a x u bad h step =
    let left = answers_from is_built [] 1 n (lines_of u) in
    let same : answers_from is_built [] 1 m (lines_of (x ++ 10 ∷ u)) ≡ a ∷ left =
    answers_lf m x u h ∙ ap (λ (r : State × Option Answer). option_to_list r.1 ++ answers_from is_built [] 1 r.0 (lines_of u)) step in
    record {
      text = ap (λ xs. flat_map answer_text xs ++ closing false) same ∙ append_assoc (answer_text a) (flat_map answer_text left) (closing false);
      errors = ap (λ xs. bad || list_any is_refusal xs) same ∙ or_assoc bad (is_refusal a) (list_any is_refusal left);
    }

-- ---- parts of a run

pub goes_nowhere : (m : State) (t : Text) (bad : Bool) → Goes m t bad [] m t bad
goes_nowhere m t bad = record { text = refl; errors = refl }

pub goes_then : {m n k : State} {t u v : Text} {bad worse worst : Bool} {one two : Text} → Goes m t bad one n u worse → Goes n u worse two k v worst → Goes m t bad (one ++ two) k v worst
goes_then {m} {n} {k} {t} {u} {v} {bad} {worse} {worst} {one} {two} first second =
    record { text = first.text ∙ ap (λ s. one ++ s) second.text ∙ sym (append_assoc one two (rest k v)); errors = first.errors ∙ second.errors }

-- the last line of a script, that nothing ends
pub last_line : (m : State) (c : ℕ) (x : Text) (bad : Bool) → is_in_one_line (c ∷ x) ≡ true → Goes m (c ∷ x) bad [] m ((c ∷ x) ++ 10 ∷ []) bad
unfolding rest errs
last_line m c x bad h =
    record { text = ap (λ ls. flat_map answer_text (answers_from is_built [] 1 m ls) ++ closing false) (lines_last c x h); errors = ap (λ ls. bad || list_any is_refusal (answers_from is_built [] 1 m ls)) (lines_last c x h) }

-- ---- long lines

reading_long : (x : Text) → 65535 < length x → reading x ≡ refused Long
unfolding reading
reading_long x lt = rw (is_long x lt, reading) refl
  where
    is_long : (x : Text) → 65535 < length x → nat_lt 65535 (length x) ≡ true
    is_long x lt = grind (arith, nat_tests)

step_long : (m : State) (x y : Text) → 65535 < length x → 65535 < length y → line_step is_built false m x ≡ line_step is_built false m y
unfolding line_step
step_long m x y long longer = ap (λ r. built_step is_built false m r) (reading_long x long ∙ sym (reading_long y longer))

answers_long : (m : State) (x y : Text) (ls : List Text) → 65535 < length x → 65535 < length y → answers_from is_built [] 1 m (joined x ls) ≡ answers_from is_built [] 1 m (joined y ls)
answers_long m x y [] long longer = ap (λ (r : State × Option Answer). option_to_list r.1 ++ []) (step_long m x y long longer)
answers_long m x y (l ∷ ls) long longer =
    ap (λ (r : State × Option Answer). option_to_list r.1 ++ answers_from is_built [] 2 r.0 ls)
    (step_long m (x ++ l) (y ++ l) (omega (arith, long, length-append x l)) (omega (arith, longer, length-append y l)))

-- Of a line, 65,536 bytes are enough.
pub long_line : (m : State) (c d : ℕ) (x y u : Text) (bad : Bool) → is_in_one_line (c ∷ x) ≡ true → is_in_one_line (d ∷ y) ≡ true → 65535 < length (c ∷ x) → 65535 < length (d ∷ y) → Goes m ((c ∷ x) ++ u) bad [] m ((d ∷ y) ++ u) bad
unfolding rest errs
long_line m c d x y u bad h i long longer =
    let same : answers_from is_built [] 1 m (lines_of ((c ∷ x) ++ u)) ≡ answers_from is_built [] 1 m (lines_of ((d ∷ y) ++ u)) =
    ap (λ ls. answers_from is_built [] 1 m ls) (lines_joined c x u h) ∙ answers_long m (c ∷ x) (d ∷ y) (lines_of u) long longer ∙ sym (ap (λ ls. answers_from is_built [] 1 m ls) (lines_joined d y u i)) in
    record { text = ap (λ xs. flat_map answer_text xs ++ closing false) same; errors = ap (λ xs. bad || list_any is_refusal xs) same }

-- ---- a line that grows

pub one_line_append : (x y : Text) → is_in_one_line x ≡ true → is_in_one_line y ≡ true → is_in_one_line (x ++ y) ≡ true
one_line_append [] y h i = i
one_line_append (c ∷ x) y h i = let p = both (c == 10) (is_in_one_line x) h in rw p.0 (one_line_append x y p.1 i)

pub one_line_take : (n : ℕ) (x : Text) → is_in_one_line x ≡ true → is_in_one_line (take n x) ≡ true
one_line_take zero x h = refl
one_line_take (suc n) [] h = refl
one_line_take (suc n) (c ∷ x) h = let p = both (c == 10) (is_in_one_line x) h in rw p.0 (one_line_take n x p.1)

-- Of a piece of a line as much is kept as makes 65,536 bytes.
pub one_line_kept : (x y : Text) → is_in_one_line x ≡ true → is_in_one_line y ≡ true → is_in_one_line (x ++ take (65536 - length x) y) ≡ true
one_line_kept x y h i = one_line_append x (take (65536 - length x) y) h (one_line_take (65536 - length x) y i)

long_alike : (m : State) (x y u : Text) (bad : Bool) → is_in_one_line x ≡ true → is_in_one_line y ≡ true → 65535 < length x → 65535 < length y → Goes m (x ++ u) bad [] m (y ++ u) bad
long_alike m [] y u bad h i long longer = absurd (omega arith)
long_alike m (c ∷ x) [] u bad h i long longer = absurd (omega arith)
long_alike m (c ∷ x) (d ∷ y) u bad h i long longer = long_line m c d x y u bad h i long longer

pub grown : (m : State) (x y u : Text) (bad : Bool) → is_in_one_line x ≡ true → is_in_one_line y ≡ true → Goes m (x ++ (y ++ u)) bad [] m ((x ++ take (65536 - length x) y) ++ u) bad
grown m x y u bad h i = subst (λ (t : Text). Goes m t bad [] m ((x ++ take (65536 - length x) y) ++ u) bad) (append_assoc x y u) (split (cases_lt (65536 - length x) (length y)))
  where
    split : (65536 - length x < length y) ⊎ (length y ≤ 65536 - length x) → Goes m ((x ++ y) ++ u) bad [] m ((x ++ take (65536 - length x) y) ++ u) bad
    split (inl lt) =
        long_alike m (x ++ y) (x ++ take (65536 - length x) y) u bad (one_line_append x y h i) (one_line_kept x y h i)
        (omega (arith, lt, length-append x y))
        (omega (arith, lt, length-append x (take (65536 - length x) y), length-take (65536 - length x) y))
    split (inr le) =
        subst (λ (t : Text). Goes m ((x ++ y) ++ u) bad [] m ((x ++ t) ++ u) bad) (sym (take_all (65536 - length x) y le)) (goes_nowhere m ((x ++ y) ++ u) bad)

-- the rest of a slice from a place on
pub tail : (b : Text) (i : ℕ) → take (length b - i) (drop i b) ≡ drop i b
tail b i = take_all (length b - i) (drop i b) (omega (arith, length-drop i b))

-- ---- the end of a script

-- the last line of a script, that nothing ends
pub last_line_goes : (m n : State) (x said : Text) (bad worse : Bool) → is_in_one_line x ≡ true → x ≢ [] → ((u : Text) → Goes m (x ++ 10 ∷ u) bad said n u worse) → Goes m x bad said n [] worse
last_line_goes m n [] said bad worse h some goes = absurd (some refl)
last_line_goes m n (c ∷ x) said bad worse h some goes = goes_then (last_line m c x bad h) (goes [])

pub rest_nothing : (m : State) → rest m [] ≡ codes "closed\n"
unfolding rest
rest_nothing m = refl

or_false : (b : Bool) → b || false ≡ b
or_false true = refl
or_false false = refl

pub errs_nothing : (m : State) (bad : Bool) → bad || errs m [] ≡ bad
unfolding errs
errs_nothing m bad = or_false bad

-- the whole text of a run is `ready` and then what is said of the script
pub text_is_rest : (script : Text) → text is_built (empty_store 1) script [] ≡ codes "ready\n" ++ rest (start (empty_store 1)) script
unfolding rest
text_is_rest script = refl

pub has_error_is_errs : (script : Text) → has_error is_built (empty_store 1) script [] ≡ errs (start (empty_store 1)) script
unfolding errs
has_error_is_errs script = or_false (list_any is_refusal (answers is_built (empty_store 1) script []))
