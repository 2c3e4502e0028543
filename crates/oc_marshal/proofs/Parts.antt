-- Things that are put together of parts.
use Rattle.std.proofs.Common.{◌≡◌, ◌∙◌, ap, sym, refl, ℕ, ◌<◌, ◌≤◌, Bool, true, false, IsTrue, List, [], ◌∷◌, ◌++◌, length, drop, arith, append_assoc, Some, None}
use Rattle.std.specs.Prelude.{flat_map}
use Rattle.std.specs.List.{list_all}
use Rattle.std.proofs.lemmas.Bool.{and_parts, and_from}
use Rattle.oc_model.specs.Spelling.{Tells}
use Rattle.oc_marshal.specs.Places.{StandsAt, NothingAt, StandInRow, NoRowAt, any, flag_bytes, is_optional, optional_bytes, is_pair, pair_bytes}
use Rattle.oc_marshal.proofs.Standing.{only_one}

-- ---- two things

pub pair_found : {X Y : Type 0} (t : X → Bool) (s : X → List ℕ) (u : Y → Bool) (r : Y → List ℕ) (bytes : List ℕ) (at mid to : ℕ) (x : X) (y : Y)
    → StandsAt t s bytes at x mid → StandsAt u r bytes mid y to → StandsAt (is_pair t u) (pair_bytes s r) bytes at (x, y) to
pair_found t s u r bytes at mid to x y a b = record {
  passes = and_from (t x) (u y) a.passes b.passes;
  spelled = a.spelled ∙ ap (λ l. s x ++ l) b.spelled ∙ sym (append_assoc (s x) (r y) (drop to bytes));
  within = b.within;
}

pub no_first : {X Y : Type 0} (t : X → Bool) (s : X → List ℕ) (u : Y → Bool) (r : Y → List ℕ) (bytes : List ℕ) (at : ℕ)
    → NothingAt t s bytes at → NothingAt (is_pair t u) (pair_bytes s r) bytes at
no_first t s u r bytes at none p rest h e = none p.0 (r p.1 ++ rest) (and_parts (t p.0) (u p.1) h).0 (e ∙ append_assoc (s p.0) (r p.1) rest)

pub no_second : {X Y : Type 0} (t : X → Bool) (s : X → List ℕ) (u : Y → Bool) (r : Y → List ℕ) (bytes : List ℕ) (at mid : ℕ) (x : X) → Tells (λ x. IsTrue (t x)) s
    → StandsAt t s bytes at x mid → NothingAt u r bytes mid → NothingAt (is_pair t u) (pair_bytes s r) bytes at
no_second t s u r bytes at mid x tells a none p rest h e =
    let parts = and_parts (t p.0) (u p.1) h in
    let one = only_one t s bytes at mid x p.0 (r p.1 ++ rest) tells a parts.0 (e ∙ append_assoc (s p.0) (r p.1) rest) in
    none p.1 rest parts.1 (sym one.1)

-- ---- a thing that may be there

no_such : {P : Type 0} (a b : ℕ) (xs ys : List ℕ) → (a ≡ b → ⊥) → a ∷ xs ≡ b ∷ ys → P
no_such a b xs ys ne e = absurd (ne cc)

same_rest : (a : ℕ) (xs ys : List ℕ) → a ∷ xs ≡ a ∷ ys → xs ≡ ys
same_rest a xs ys e = cc

pub no_flag : {X : Type 0} (t : X → Bool) (s : X → List ℕ) (bytes : List ℕ) (at : ℕ) → NothingAt any flag_bytes bytes at → NothingAt (is_optional t) (optional_bytes s) bytes at
no_flag t s bytes at none None rest h e = none false rest refl e
no_flag t s bytes at none (Some x) rest h e = none true (s x ++ rest) refl e

pub null_found : {X : Type 0} (t : X → Bool) (s : X → List ℕ) (bytes : List ℕ) (at to : ℕ) → StandsAt any flag_bytes bytes at false to → StandsAt (is_optional t) (optional_bytes s) bytes at None to
null_found t s bytes at to a = record { passes = refl; spelled = a.spelled; within = a.within }

pub some_found : {X : Type 0} (t : X → Bool) (s : X → List ℕ) (bytes : List ℕ) (at mid to : ℕ) (x : X) → StandsAt any flag_bytes bytes at true mid → StandsAt t s bytes mid x to
    → StandsAt (is_optional t) (optional_bytes s) bytes at (Some x) to
some_found t s bytes at mid to x a b = record { passes = b.passes; spelled = a.spelled ∙ ap (λ l. 1 ∷ l) b.spelled; within = b.within }

pub no_some : {X : Type 0} (t : X → Bool) (s : X → List ℕ) (bytes : List ℕ) (at mid : ℕ) → StandsAt any flag_bytes bytes at true mid → NothingAt t s bytes mid
    → NothingAt (is_optional t) (optional_bytes s) bytes at
no_some t s bytes at mid a none None rest h e = no_such 1 0 (drop mid bytes) rest (λ q. omega (arith, q)) (sym a.spelled ∙ e)
no_some t s bytes at mid a none (Some x) rest h e = none x rest h (same_rest 1 (drop mid bytes) (s x ++ rest) (sym a.spelled ∙ e))

-- ---- many things

pub row_starts : {X : Type 0} (t : X → Bool) (s : X → List ℕ) (bytes : List ℕ) (at : ℕ) → at ≤ length bytes → StandInRow t s bytes at [] at
row_starts t s bytes at within = record { passes = refl; spelled = refl; within = within }

all_on : {X : Type 0} (t : X → Bool) (xs : List X) (x : X) → IsTrue (list_all t xs) → IsTrue (t x) → IsTrue (list_all t (xs ++ x ∷ []))
all_on t [] x h p = and_from (t x) true p refl
all_on t (y ∷ xs) x h p = let parts = and_parts (t y) (list_all t xs) h in and_from (t y) (list_all t (xs ++ x ∷ [])) parts.0 (all_on t xs x parts.1 p)

flat_on : {X : Type 0} (s : X → List ℕ) (xs : List X) (x : X) (rest : List ℕ) → flat_map s xs ++ (s x ++ rest) ≡ flat_map s (xs ++ x ∷ []) ++ rest
flat_on s [] x rest = sym (append_assoc (s x) [] rest)
flat_on s (y ∷ xs) x rest =
    append_assoc (s y) (flat_map s xs) (s x ++ rest)
    ∙ ap (λ l. s y ++ l) (flat_on s xs x rest)
    ∙ sym (append_assoc (s y) (flat_map s (xs ++ x ∷ [])) rest)

pub row_goes_on : {X : Type 0} (t : X → Bool) (s : X → List ℕ) (bytes : List ℕ) (at mid to : ℕ) (xs : List X) (x : X) → StandInRow t s bytes at xs mid → StandsAt t s bytes mid x to
    → StandInRow t s bytes at (xs ++ x ∷ []) to
row_goes_on t s bytes at mid to xs x a b = record {
  passes = all_on t xs x a.passes b.passes;
  spelled = a.spelled ∙ ap (λ l. flat_map s xs ++ l) b.spelled ∙ flat_on s xs x (drop to bytes);
  within = b.within;
}

-- a longer row goes on with a thing of its own behind a shorter one
broken_off : {X : Type 0} (t : X → Bool) (s : X → List ℕ) → Tells (λ x. IsTrue (t x)) s → (xs ys : List X) (left rest : List ℕ) → length xs < length ys → IsTrue (list_all t xs) → IsTrue (list_all t ys)
    → flat_map s xs ++ left ≡ flat_map s ys ++ rest → ((x : X) (more : List ℕ) → IsTrue (t x) → left ≡ s x ++ more → ⊥) → ⊥
broken_off t s tells xs [] left rest lt h p e none = absurd (omega (arith, lt))
broken_off t s tells [] (y ∷ ys) left rest lt h p e none = none y (flat_map s ys ++ rest) (and_parts (t y) (list_all t ys) p).0 (e ∙ append_assoc (s y) (flat_map s ys) rest)
broken_off t s tells (x ∷ xs) (y ∷ ys) left rest lt h p e none =
    let a = and_parts (t x) (list_all t xs) h in
    let b = and_parts (t y) (list_all t ys) p in
    let one = tells x y (flat_map s xs ++ left) (flat_map s ys ++ rest) a.0 b.0 (sym (append_assoc (s x) (flat_map s xs) left) ∙ e ∙ append_assoc (s y) (flat_map s ys) rest) in
    broken_off t s tells xs ys left rest (omega (arith, lt)) a.1 b.1 one.1 none

pub no_row : {X : Type 0} (t : X → Bool) (s : X → List ℕ) (bytes : List ℕ) (at mid count : ℕ) (xs : List X) → Tells (λ x. IsTrue (t x)) s → StandInRow t s bytes at xs mid → length xs < count
    → NothingAt t s bytes mid → NoRowAt t s bytes at count
no_row t s bytes at mid count xs tells a lt none ys rest len h e =
    broken_off t s tells xs ys (drop mid bytes) rest (omega (arith, lt, len)) a.passes h (sym a.spelled ∙ e) none
