-- The items of a list behind separators.
use Rattle.std.proofs.lemmas.List.{append_assoc}
use Rattle.std.proofs.Common.{◌≡◌, ℕ, Bool, ◌+◌, ◌-◌, ◌<◌, ◌≤◌, suc, zero, true, false, List, [], ◌∷◌, ◌++◌, Option, Some, None, drop, refl, sym, ap, ◌∙◌, arith, append-nil}
use Rattle.oc_machine.specs.declared.token.Token.{Token}
use Rattle.oc_machine.specs.Lexing.{◌>>=◌}
use Rattle.oc_machine.specs.Parsers.{Parser, more_of}
use Rattle.oc_script.specs.Parsed.{after}

after_one : {A : Type 0} (xs : List A) (x : A) (r : Option (List A × List Token)) → after xs (r >>= λ more. Some (x ∷ more.0, more.1)) ≡ after (xs ++ x ∷ []) r
after_one xs x None = refl
after_one xs x (Some r) = ap (λ ys. Some (ys, r.1)) (sym (append_assoc xs (x ∷ []) r.0))

step_on : {A : Type 0} (begins : List Token → Bool) (p : Parser A) (x : A) (n : ℕ) (ts us : List Token) → begins ts ≡ true → p (drop 1 ts) ≡ Some (x, us) → more_of begins (suc n) p ts ≡ (more_of begins n p us >>= λ more. Some (x ∷ more.0, more.1))
step_on begins p x n ts us comes is = rw (comes, more_of) (rw is refl)

step_off : {A : Type 0} (begins : List Token → Bool) (p : Parser A) (n : ℕ) (ts : List Token) → begins ts ≡ true → p (drop 1 ts) ≡ None → more_of begins (suc n) p ts ≡ None
step_off begins p n ts comes is = rw (comes, more_of) (rw is refl)

no_more : {A : Type 0} (begins : List Token → Bool) (p : Parser A) (n : ℕ) (ts : List Token) → begins ts ≡ false → more_of begins n p ts ≡ Some ([], ts)
no_more begins p zero ts comes = refl
no_more begins p (suc n) ts comes = rw (comes, more_of) refl

-- One item more is read.
pub list_goes_on : {A : Type 0} (begins : List Token → Bool) (p : Parser A) (xs : List A) (x : A) (most i : ℕ) (ts us : List Token) → i < most → begins ts ≡ true → p (drop 1 ts) ≡ Some (x, us)
    → after xs (more_of begins (most - i) p ts) ≡ after (xs ++ x ∷ []) (more_of begins (most - (i + 1)) p us)
list_goes_on begins p xs x most i ts us lt comes is =
    let n : most - i ≡ suc (most - (i + 1)) = omega arith in
    rw n (ap (after xs) (step_on begins p x (most - (i + 1)) ts us comes is) ∙ after_one xs x (more_of begins (most - (i + 1)) p us))

-- Behind a separator there is no item.
pub list_breaks : {A : Type 0} (begins : List Token → Bool) (p : Parser A) (xs : List A) (most i : ℕ) (ts : List Token) → i < most → begins ts ≡ true → p (drop 1 ts) ≡ None → after xs (more_of begins (most - i) p ts) ≡ None
list_breaks begins p xs most i ts lt comes is =
    let n : most - i ≡ suc (most - (i + 1)) = omega arith in
    rw n (ap (after xs) (step_off begins p (most - (i + 1)) ts comes is))

-- There is no separator.
pub list_ends : {A : Type 0} (begins : List Token → Bool) (p : Parser A) (xs : List A) (most i : ℕ) (ts : List Token) → begins ts ≡ false → after xs (more_of begins (most - i) p ts) ≡ Some (xs, ts)
list_ends begins p xs most i ts comes = ap (after xs) (no_more begins p (most - i) ts comes) ∙ ap (λ ys. Some (ys, ts)) (append-nil xs)

-- There are no more.
pub list_stops : {A : Type 0} (begins : List Token → Bool) (p : Parser A) (xs : List A) (most i : ℕ) (ts : List Token) → most ≤ i → after xs (more_of begins (most - i) p ts) ≡ Some (xs, ts)
list_stops begins p xs most i ts le =
    let n : most - i ≡ zero = omega arith in
    rw n (ap (λ ys. Some (ys, ts)) (append-nil xs))

pub ruleset more_items = (list_goes_on, list_breaks, list_ends, list_stops)
