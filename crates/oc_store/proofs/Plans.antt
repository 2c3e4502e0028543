-- The numbers that segments get.
use Rattle.std.proofs.Common.{◌≡◌, ◌⊎◌, inl, inr, ◌∙◌, ap, sym, refl, subst, ℕ, ◌+◌, ◌≤◌, Bool, true, false, true≢false, cond, ◌||◌, List, [], ◌∷◌, ◌++◌, length, map, filter, Option, Some, None, arith, append_assoc}
use Rattle.std.specs.Prelude.{filter_map}
use Rattle.std.specs.List.{cons_option}
use Rattle.std.proofs.lemmas.List.{map-append}
use Rattle.oc_model.specs.Lists.{IsOneOf}
use Rattle.oc_model.proofs.Elements.{from_map, to_map}
use Rattle.oc_chunks.specs.Ascending.{Each, Pairs}
use Rattle.oc_chunks.specs.Chunks.{Chunk, joined, numbers}
use Rattle.oc_chunks.specs.Opening.{number_from, spare_behind, spare_of, written}
use Rattle.oc_store.proofs.NamedLists.{Other}
use Rattle.oc_store.specs.Last.{numberless, planned, planned_as, segment_of, spare_left, Planned, Segment}

-- ---- elements

pub each_of : {X : Type 0} (P : X → Type 0) (xs : List X) → ((x : X) → IsOneOf x xs → P x) → Each P xs
each_of P [] h = tt
each_of P (x ∷ xs) h = (h x (inl refl), each_of P xs (λ y i. h y (inr i)))

pub of_each : {X : Type 0} (P : X → Type 0) (xs : List X) (x : X) → Each P xs → IsOneOf x xs → P x
of_each P [] x a one = absurd one
of_each P (y ∷ ys) x a (inl same) = subst P (sym same) a.0
of_each P (y ∷ ys) x a (inr later) = of_each P ys x a.1 later

-- ---- the numbers that they have

abbrev pub old_numbers : List Segment → List ℕ
old_numbers = filter_map (λ s. s.number)

abbrev pub number_of : Planned → ℕ
number_of p = p.number

abbrev pub planned_numbers : List ℕ → List Segment → List ℕ
planned_numbers spare ss = map number_of (planned spare ss)

pub planned_append : (spare : List ℕ) (ss ts : List Segment) → planned spare (ss ++ ts) ≡ planned spare ss ++ planned (spare_left spare ss) ts
planned_append spare [] ts = refl
planned_append spare (s ∷ ss) ts = ap (λ l. planned_as (number_from s.number spare) s ++ l) (planned_append (spare_behind s.number spare) ss ts) ∙ sym (append_assoc (planned_as (number_from s.number spare) s) (planned (spare_behind s.number spare) ss) (planned (spare_left (spare_behind s.number spare) ss) ts))

-- what is left was spare
pub left_spare : (spare : List ℕ) (ss : List Segment) (n : ℕ) → IsOneOf n (spare_left spare ss) → IsOneOf n spare
left_spare spare [] n i = i
left_spare spare (s ∷ ss) n i = behind s.number spare (left_spare (spare_behind s.number spare) ss n i)
  where
    behind : (o : Option ℕ) (spare : List ℕ) → IsOneOf n (spare_behind o spare) → IsOneOf n spare
    behind (Some k) spare i = i
    behind None [] i = i
    behind None (m ∷ spare) i = inr i

abbrev with_number : Option ℕ → Segment → Segment
with_number o s = record { number = o; bytes = s.bytes; changed = s.changed }

due_without : (b : Bool) → (b || true) ≡ true
due_without true = refl
due_without false = refl

-- the number of each is one that it had, or a spare one: then it is written
abbrev IsFrom : List ℕ → List Segment → Planned → Type 0
IsFrom spare ss p = IsOneOf p.number (old_numbers ss) ⊎ (IsOneOf p.number spare × (p.is_due ≡ true))

module _ (p : Planned) (s : Segment) (ss : List Segment) (rest : (spare : List ℕ) → IsOneOf p (planned spare ss) → IsFrom spare ss p) where
  from_numbered : (o : Option ℕ) (spare : List ℕ) → IsOneOf p (planned spare (with_number o s ∷ ss)) → IsFrom spare (with_number o s ∷ ss) p
  from_numbered (Some k) spare (inl same) = inl (inl (ap number_of same))
  from_numbered (Some k) spare (inr later) = elim (rest spare later) [ inl old ↦ inl (inr old) | inr new ↦ inr new ]
  from_numbered None [] i = rest [] i
  from_numbered None (m ∷ spare) (inl same) = inr (inl (ap number_of same), ap (λ (q : Planned). q.is_due) same ∙ due_without s.changed)
  from_numbered None (m ∷ spare) (inr later) = elim (rest spare later) [ inl old ↦ inl old | inr new ↦ inr (inr new.0, new.1) ]

pub planned_from : (spare : List ℕ) (ss : List Segment) (p : Planned) → IsOneOf p (planned spare ss) → IsFrom spare ss p
planned_from spare [] p i = absurd i
planned_from spare (s ∷ ss) p i = from_numbered p s ss (λ spare i. planned_from spare ss p i) s.number spare i

number_from_plan : (spare : List ℕ) (ss : List Segment) (n : ℕ) → IsOneOf n (planned_numbers spare ss) → IsOneOf n (old_numbers ss) ⊎ IsOneOf n spare
number_from_plan spare ss n i =
    let f = from_map number_of n (planned spare ss) i in
    elim (planned_from spare ss f.0 f.1) [ inl old ↦ inl (subst (λ k. IsOneOf k (old_numbers ss)) (sym f.2) old) | inr new ↦ inr (subst (λ k. IsOneOf k spare) (sym f.2) new.0) ]

-- ---- no number twice

abbrev pub AreDisjoint : List ℕ → List ℕ → Type 0
AreDisjoint ms ns = (n : ℕ) → IsOneOf n ms → IsOneOf n ns → ⊥

-- a number that is none of these is another than each
pub other_than : (m : ℕ) (ns : List ℕ) → (IsOneOf m ns → ⊥) → Each (Other m) ns
other_than m ns h = each_of (Other m) ns (λ n i same. h (subst (λ k. IsOneOf k ns) (sym same) i))

pub none_of : (m : ℕ) (ns : List ℕ) → Each (Other m) ns → IsOneOf m ns → ⊥
none_of m ns a i = of_each (Other m) ns m a i refl

module _ (s : Segment) (ss : List Segment) (rest : (spare : List ℕ) → Pairs Other spare → Pairs Other (old_numbers ss) → AreDisjoint spare (old_numbers ss) → Pairs Other (planned_numbers spare ss)) where
  apart_numbered : (o : Option ℕ) (spare : List ℕ) → Pairs Other spare → Pairs Other (old_numbers (with_number o s ∷ ss)) → AreDisjoint spare (old_numbers (with_number o s ∷ ss)) → Pairs Other (planned_numbers spare (with_number o s ∷ ss))
  apart_numbered (Some k) spare a b d = (
    other_than k (planned_numbers spare ss) (λ i. elim (number_from_plan spare ss k i) [ inl old ↦ none_of k (old_numbers ss) b.0 old | inr new ↦ d k new (inl refl) ]),
    rest spare a b.1 (λ n i j. d n i (inr j)),
  )
  apart_numbered None [] a b d = rest [] a b d
  apart_numbered None (m ∷ spare) a b d = (
    other_than m (planned_numbers spare ss) (λ i. elim (number_from_plan spare ss m i) [ inl old ↦ d m (inl refl) old | inr new ↦ none_of m spare a.0 new ]),
    rest spare a.1 b (λ n i j. d n (inr i) j),
  )

pub planned_apart : (spare : List ℕ) (ss : List Segment) → Pairs Other spare → Pairs Other (old_numbers ss) → AreDisjoint spare (old_numbers ss) → Pairs Other (planned_numbers spare ss)
planned_apart spare [] a b d = tt
planned_apart spare (s ∷ ss) a b d = apart_numbered s ss (λ spare a b d. planned_apart spare ss a b d) s.number spare a b d

-- ---- those that are written

-- those that are to be written
abbrev pub due : List Planned → List Planned
due = filter (λ p. p.is_due)

due_cons : (p : Planned) (ps : List Planned) (q : Planned) → IsOneOf q (due ps) → IsOneOf q (due (p ∷ ps))
due_cons p ps q i = elim p.is_due as (λ b. IsOneOf q (cond b (p ∷ due ps) (due ps))) [ true ↦ inr i | false ↦ i ]

pub is_written : (p : Planned) (ps : List Planned) → IsOneOf p ps → p.is_due ≡ true → IsOneOf p (due ps)
is_written p [] i e = absurd i
is_written p (q ∷ ps) (inl same) e = subst (λ b. IsOneOf p (cond b (q ∷ due ps) (due ps))) (sym (sym (ap (λ (r : Planned). r.is_due) same) ∙ e)) (inl same)
is_written p (q ∷ ps) (inr later) e = due_cons q ps p (is_written p ps later e)

pub from_due : (p : Planned) (ps : List Planned) → IsOneOf p (due ps) → IsOneOf p ps × (p.is_due ≡ true)
from_due p [] i = absurd i
from_due p (q ∷ ps) i = by_test (from_due p ps) q.is_due refl i
  where
    by_test : (IsOneOf p (due ps) → IsOneOf p ps × (p.is_due ≡ true)) → (b : Bool) → q.is_due ≡ b → IsOneOf p (cond b (q ∷ due ps) (due ps)) → IsOneOf p (q ∷ ps) × (p.is_due ≡ true)
    by_test rest true e (inl same) = (inl same, ap (λ (r : Planned). r.is_due) same ∙ e)
    by_test rest true e (inr later) = let r = rest later in (inr r.0, r.1)
    by_test rest false e later = let r = rest later in (inr r.0, r.1)

pub due_apart : (ps : List Planned) → Pairs Other (map number_of ps) → Pairs Other (map number_of (due ps))
due_apart [] a = tt
due_apart (p ∷ ps) a = elim p.is_due as (λ b. Pairs Other (map number_of (cond b (p ∷ due ps) (due ps)))) [
  | true ↦ (other_than p.number (map number_of (due ps)) (λ i. let f = from_map number_of p.number (due ps) i in none_of p.number (map number_of ps) a.0 (subst (λ k. IsOneOf k (map number_of ps)) (sym f.2) (to_map number_of f.0 ps (from_due f.0 ps f.1).0))), due_apart ps a.1)
  | false ↦ due_apart ps a.1
]

-- two of them that have one number are one
pub same_number : (p q : Planned) (ps : List Planned) → Pairs Other (map number_of ps) → IsOneOf p ps → IsOneOf q ps → p.number ≡ q.number → p ≡ q
same_number p q [] a i j e = absurd i
same_number p q (r ∷ ps) a (inl x) (inl y) e = x ∙ sym y
same_number p q (r ∷ ps) a (inl x) (inr j) e = absurd (none_of r.number (map number_of ps) a.0 (subst (λ k. IsOneOf k (map number_of ps)) (sym e ∙ ap number_of x) (to_map number_of q ps j)))
same_number p q (r ∷ ps) a (inr i) (inl y) e = absurd (none_of r.number (map number_of ps) a.0 (subst (λ k. IsOneOf k (map number_of ps)) (e ∙ ap number_of y) (to_map number_of p ps i)))
same_number p q (r ∷ ps) a (inr i) (inr j) e = same_number p q ps a.1 i j e

-- one that isn't written has a number that none which is written has
pub not_written : (p : Planned) (ps : List Planned) → Pairs Other (map number_of ps) → IsOneOf p ps → p.is_due ≡ false → IsOneOf p.number (map number_of (due ps)) → ⊥
not_written p ps a i e j =
    let f = from_map number_of p.number (due ps) j in
    let g = from_due f.0 ps f.1 in
    true≢false (sym g.1 ∙ ap (λ (r : Planned). r.is_due) (same_number f.0 p ps a g.0 i (sym f.2)) ∙ e)

-- ---- the chunks of one list

module _ {X : Type 0} (bytes : List X → List ℕ) where
  abbrev pub segments : List (Chunk X) → List Segment
  segments cs = map (segment_of bytes) cs

  one_number : (o : Option ℕ) (s : Segment) (ms ns : List ℕ) → ms ≡ ns → cons_option o ms ≡ map number_of (planned_as o s) ++ ns
  one_number None s ms ns e = e
  one_number (Some n) s ms ns e = ap (λ l. n ∷ l) e

  pub written_numbers : (spare : List ℕ) (cs : List (Chunk X)) → numbers (written spare cs) ≡ planned_numbers spare (segments cs)
  written_numbers spare [] = refl
  written_numbers spare (c ∷ cs) =
      one_number (number_from c.number spare) (segment_of bytes c) (numbers (written (spare_behind c.number spare) cs)) (planned_numbers (spare_behind c.number spare) (segments cs)) (written_numbers (spare_behind c.number spare) cs)
      ∙ sym (map-append number_of (planned_as (number_from c.number spare) (segment_of bytes c)) (planned (spare_behind c.number spare) (segments cs)))

  pub left_of : (spare : List ℕ) (cs : List (Chunk X)) → spare_of spare cs ≡ spare_left spare (segments cs)
  left_of spare [] = refl
  left_of spare (c ∷ cs) = left_of (spare_behind c.number spare) cs

  pub old_of : (cs : List (Chunk X)) → numbers cs ≡ old_numbers (segments cs)
  old_of [] = refl
  old_of (c ∷ cs) = ap (cons_option c.number) (old_of cs)

pub written_joined : {X : Type 0} (spare : List ℕ) (cs : List (Chunk X)) → joined (written spare cs) ≡ joined cs
written_joined spare [] = refl
written_joined spare (c ∷ cs) = ap (λ l. c.entries ++ l) (written_joined (spare_behind c.number spare) cs)

-- ---- enough numbers

module _ {X : Type 0} (c : Chunk X) (cs : List (Chunk X)) where
  abbrev numbered_so : Option ℕ → Chunk X
  numbered_so o = record { entries = c.entries; number = o; changed = c.changed }

  pub record HasNumber (o : Option ℕ) (spare : List ℕ) : Type 0 where
    pub number : ℕ
    pub is : number_from o spare ≡ Some number
    pub enough : numberless cs ≤ length (spare_behind o spare)
    pub left : length (spare_behind o spare) + numberless (numbered_so o ∷ cs) ≡ length spare + numberless cs

  enough_numbered : (o : Option ℕ) (spare : List ℕ) → numberless (numbered_so o ∷ cs) ≤ length spare → HasNumber o spare
  enough_numbered (Some n) spare le = record { number = n; is = refl; enough = le; left = refl }
  enough_numbered None [] le = absurd (omega (arith, le))
  enough_numbered None (m ∷ spare) le = record { number = m; is = refl; enough = omega (arith, le); left = omega arith }

  pub has_number : (spare : List ℕ) → numberless (c ∷ cs) ≤ length spare → HasNumber c.number spare
  has_number spare le = enough_numbered c.number spare le

pub left_length : {X : Type 0} (spare : List ℕ) (cs : List (Chunk X)) → numberless cs ≤ length spare → length (spare_of spare cs) + numberless cs ≡ length spare
left_length spare [] le = omega arith
left_length spare (c ∷ cs) le = let h = has_number c cs spare le in let r = left_length (spare_behind c.number spare) cs h.enough in omega (arith, r, h.left)
