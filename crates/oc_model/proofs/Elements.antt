-- Elements of lists, and tests of all elements.
use Rattle.std.proofs.Common.{◌≡◌, ℕ, Bool, true, false, cond, ◌&&◌, ◌||◌, List, [], ◌∷◌, ◌++◌, Some, ◌+◌, map, filter, flat_map, ◌⊎◌, inl, inr, refl, sym, ap, ◌∙◌, subst, true≢false, arith}
use Rattle.std.specs.List.{list_all, list_any, find, enumerate_from}
use Rattle.std.proofs.lemmas.Bool.{and_from}
use Rattle.std.proofs.lemmas.Bool.Decides.{nat_tests}
use Rattle.oc_model.specs.Lists.{IsOneOf}
use Rattle.oc_model.specs.Maps.{is_in}

pub in_append : {X : Type 0} (x : X) (xs ys : List X) → IsOneOf x (xs ++ ys) → IsOneOf x xs ⊎ IsOneOf x ys
in_append x [] ys h = inr h
in_append x (y ∷ xs) ys h = elim h as (λ _. IsOneOf x (y ∷ xs) ⊎ IsOneOf x ys) [
  | inl e ↦ inl (inl e)
  | inr t ↦ elim (in_append x xs ys t) [ inl a ↦ inl (inr a) | inr b ↦ inr b ]
]

pub in_left : {X : Type 0} (x : X) (xs ys : List X) → IsOneOf x xs → IsOneOf x (xs ++ ys)
in_left x [] ys h = absurd h
in_left x (y ∷ xs) ys h = elim h as (λ _. IsOneOf x ((y ∷ xs) ++ ys)) [ inl e ↦ inl e | inr t ↦ inr (in_left x xs ys t) ]

pub in_right : {X : Type 0} (x : X) (xs ys : List X) → IsOneOf x ys → IsOneOf x (xs ++ ys)
in_right x [] ys h = h
in_right x (y ∷ xs) ys h = inr (in_right x xs ys h)

-- what a `flat_map` gives comes from an element
pub from_flat_map : {X Y : Type 0} (f : X → List Y) (y : Y) (xs : List X) → IsOneOf y (flat_map f xs) → (x : X) × IsOneOf x xs × IsOneOf y (f x)
from_flat_map f y [] h = absurd h
from_flat_map f y (x ∷ xs) h =
    elim (in_append y (f x) (flat_map f xs) h) [
      | inl a ↦ (x, inl refl, a)
      | inr b ↦ let r = from_flat_map f y xs b in (r.0, inr r.1, r.2)
    ]

pub to_flat_map : {X Y : Type 0} (f : X → List Y) (y : Y) (x : X) (xs : List X) → IsOneOf x xs → IsOneOf y (f x) → IsOneOf y (flat_map f xs)
to_flat_map f y x [] h k = absurd h
to_flat_map f y x (z ∷ xs) h k =
    elim h as (λ _. IsOneOf y (flat_map f (z ∷ xs))) [
      | inl e ↦ in_left y (f z) (flat_map f xs) (subst (λ u. IsOneOf y (f u)) e k)
      | inr t ↦ in_right y (f z) (flat_map f xs) (to_flat_map f y x xs t k)
    ]

pub to_map : {X Y : Type 0} (f : X → Y) (x : X) (xs : List X) → IsOneOf x xs → IsOneOf (f x) (map f xs)
to_map f x [] h = absurd h
to_map f x (z ∷ xs) h = elim h as (λ _. IsOneOf (f x) (map f (z ∷ xs))) [ inl e ↦ inl (ap f e) | inr t ↦ inr (to_map f x xs t) ]

pub from_map : {X Y : Type 0} (f : X → Y) (y : Y) (xs : List X) → IsOneOf y (map f xs) → (x : X) × IsOneOf x xs × (y ≡ f x)
from_map f y [] h = absurd h
from_map f y (x ∷ xs) h = elim h [ inl e ↦ (x, inl refl, e) | inr t ↦ let r = from_map f y xs t in (r.0, inr r.1, r.2) ]

-- ---- tests of lists

pub both_true : (a b : Bool) → (a && b) ≡ true → (a ≡ true) × (b ≡ true)
both_true true b h = (refl, h)
both_true false b h = absurd (true≢false (sym h))

pub all_pass : {X : Type 0} (p : X → Bool) (x : X) (xs : List X) → list_all p xs ≡ true → IsOneOf x xs → p x ≡ true
all_pass p x [] h i = absurd i
all_pass p x (y ∷ xs) h i =
    let r = both_true (p y) (list_all p xs) h in elim i as (λ _. p x ≡ true) [ inl e ↦ ap p e ∙ r.0 | inr t ↦ all_pass p x xs r.1 t ]

-- of a test that follows from the other
pub weaker : {X : Type 0} (p q : X → Bool) → ((x : X) → p x ≡ true → q x ≡ true) → (xs : List X) → list_all p xs ≡ true → list_all q xs ≡ true
weaker p q each [] h = refl
weaker p q each (x ∷ xs) h = let r = both_true (p x) (list_all p xs) h in and_from _ _ (each x r.0) (weaker p q each xs r.1)

-- some element fails, where not all pass
pub some_fails : {X : Type 0} (p : X → Bool) (xs : List X) → list_all p xs ≡ false → (x : X) × IsOneOf x xs × (p x ≡ false)
some_fails p [] h = absurd (true≢false h)
some_fails p (y ∷ xs) h =
    (elim (p y) as (λ b. p y ≡ b → (b && list_all p xs) ≡ false → (x : _) × IsOneOf x (y ∷ xs) × (p x ≡ false)) [
      | true ↦ λ e h. let r = some_fails p xs h in (r.0, inr r.1, r.2)
      | false ↦ λ e h. (y, inl refl, e)
    ]) refl h

-- some element passes
pub some_passes : {X : Type 0} (p : X → Bool) (xs : List X) → list_any p xs ≡ true → (x : X) × IsOneOf x xs × (p x ≡ true)
some_passes p [] h = absurd (true≢false (sym h))
some_passes p (y ∷ xs) h =
    (elim (p y) as (λ b. p y ≡ b → (b || list_any p xs) ≡ true → (x : _) × IsOneOf x (y ∷ xs) × (p x ≡ true)) [
      | true ↦ λ e h. (y, inl refl, e)
      | false ↦ λ e h. let r = some_passes p xs h in (r.0, inr r.1, r.2)
    ]) refl h

or_left : (a b : Bool) → a ≡ true → (a || b) ≡ true
or_left a b h = ap (λ c. c || b) h

pub or_right : (a b : Bool) → b ≡ true → (a || b) ≡ true
or_right true b h = refl
or_right false b h = h

pub any_passes : {X : Type 0} (p : X → Bool) (x : X) (xs : List X) → IsOneOf x xs → p x ≡ true → list_any p xs ≡ true
any_passes p x [] h e = absurd h
any_passes p x (y ∷ xs) h e = elim h as (λ _. (p y || list_any p xs) ≡ true) [ inl q ↦ or_left (p y) (list_any p xs) (ap p (sym q) ∙ e) | inr t ↦ or_right (p y) (list_any p xs) (any_passes p x xs t e) ]

pub is_among : (n : ℕ) (ns : List ℕ) → IsOneOf n ns → is_in ns n ≡ true
is_among n ns h = any_passes _ n ns h (grind (arith, nat_tests))

-- ---- what a filter keeps, and a search finds

pub from_filter : {X : Type 0} (p : X → Bool) (x : X) (xs : List X) → IsOneOf x (filter p xs) → IsOneOf x xs × (p x ≡ true)
from_filter p x [] h = absurd h
from_filter p x (y ∷ xs) h =
    (elim (p y) as (λ b. p y ≡ b → IsOneOf x (cond b (y ∷ filter p xs) (filter p xs)) → IsOneOf x (y ∷ xs) × (p x ≡ true)) [
      | true ↦ λ e h. (elim h as (λ _. IsOneOf x (y ∷ xs) × (p x ≡ true)) [ inl q ↦ (inl q, ap p q ∙ e) | inr t ↦ let r = from_filter p x xs t in (inr r.0, r.1) ])
      | false ↦ λ e h. let r = from_filter p x xs h in (inr r.0, r.1)
    ]) refl h

pub to_filter : {X : Type 0} (p : X → Bool) (x : X) (xs : List X) → IsOneOf x xs → p x ≡ true → IsOneOf x (filter p xs)
to_filter p x [] h e = absurd h
to_filter p x (y ∷ xs) h e =
    (elim (p y) as (λ b. p y ≡ b → IsOneOf x (cond b (y ∷ filter p xs) (filter p xs))) [
      | true ↦ λ q. (elim h as (λ _. IsOneOf x (y ∷ filter p xs)) [ inl same ↦ inl same | inr t ↦ inr (to_filter p x xs t e) ])
      | false ↦ λ q. (elim h as (λ _. IsOneOf x (filter p xs)) [ inl same ↦ absurd (true≢false (sym e ∙ ap p same ∙ q)) | inr t ↦ to_filter p x xs t e ])
    ]) refl

pub found_in : {X : Type 0} (p : X → Bool) (x : X) (xs : List X) → find p xs ≡ Some x → IsOneOf x xs × (p x ≡ true)
found_in p x [] h = absurd (cc)
found_in p x (y ∷ xs) h =
    (elim (p y) as (λ b. p y ≡ b → cond b (Some y) (find p xs) ≡ Some x → IsOneOf x (y ∷ xs) × (p x ≡ true)) [
      | true ↦ λ e h. let q : y ≡ x = cc in (inl (sym q), ap p (sym q) ∙ e)
      | false ↦ λ e h. let r = found_in p x xs h in (inr r.0, r.1)
    ]) refl h

pub from_numbered : {X : Type 0} (n : ℕ) (e : ℕ × X) (xs : List X) → IsOneOf e (enumerate_from n xs) → IsOneOf e.1 xs
from_numbered n e [] h = absurd h
from_numbered n e (x ∷ xs) h = elim h as (λ _. IsOneOf e.1 (x ∷ xs)) [ inl q ↦ inl (ap (λ p. p.1) q) | inr t ↦ inr (from_numbered (n + 1) e xs t) ]
