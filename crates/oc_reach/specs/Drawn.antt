-- The walks of the tests: each number and each handle is a node, and has a least budget.
use Rattle.std.specs.Prelude.{ℕ, zero, suc, ◌-◌, ◌^◌, ◌<◌, ◌≡◌, min, max, List, [], ◌∷◌, ◌++◌, slice_index}
use Rattle.std.proofs.Common.{inl, inr, arith, ap}
use Rattle.std.proofs.lemmas.Bool.{cases_lt}
use Rattle.oc_model.specs.declared.reach.Node.{Node}
use Rattle.oc_model.specs.declared.reach.Node.TheVariants as node
use Rattle.oc_model.specs.Lists.{IsOneOf}
use Rattle.oc_model.specs.Walks.{Walk, IsLawful}

-- what the numbers below the end are made into
abbrev pub below : (ℕ → Node) → ℕ → List Node
below make zero = []
below make (suc n) = make n ∷ below make n

-- every number, and every handle
unfoldable pub every_node : List Node
every_node = below node.Number (2 ^ 32) ++ below node.Live (2 ^ 64)

-- the number or the handle
abbrev pub place : Node → ℕ
place (node.Live h) = h
place (node.Number n) = n

-- each node arrives with its least budget at least
abbrev pub drawn_walk : List ℕ → Walk
drawn_walk least = record { nodes = every_node; next = λ x. []; arrive = λ x h. min (max (slice_index least (place x)) h) 65535; hand = λ x k. k - 1 }

pub drawn_lawful : (least : List ℕ) → IsLawful (drawn_walk least)
drawn_lawful least =
    record {
      arrive_small = λ x k h. omega arith;
      arrive_rises = λ x j k h _. omega arith;
      hand_small = λ x k _ h. omega arith;
      hand_rises = λ x j k _ h _. omega arith;
      inside = λ x y i. absurd i;
    }

-- two numbers, each of which names both
abbrev pub both : List Node
both = node.Number 0 ∷ node.Number 1 ∷ []

-- a node arrives with what it is handed
abbrev pub both_walk : Walk
both_walk = record { nodes = both; next = λ x. both; arrive = λ x h. h; hand = λ x k. k - 1 }

pub both_lawful : IsLawful both_walk
both_lawful =
    record {
      arrive_small = λ x k h. h;
      arrive_rises = λ x j k h _. h;
      hand_small = λ x k _ h. omega arith;
      hand_rises = λ x j k _ h _. omega arith;
      inside = λ x y i. i;
    }

among : (make : ℕ → Node) (n k : ℕ) → n < k → IsOneOf (make n) (below make k)
among make n zero h = absurd (omega arith)
among make n (suc k) h = elim (cases_lt n k) [ inl lt ↦ inr (among make n k lt) | inr ge ↦ let e : n ≡ k = omega arith in inl (ap make e) ]

in_left : (x : Node) (xs ys : List Node) → IsOneOf x xs → IsOneOf x (xs ++ ys)
in_left x [] ys h = absurd h
in_left x (y ∷ xs) ys h = elim h as (λ _. IsOneOf x ((y ∷ xs) ++ ys)) [ inl e ↦ inl e | inr t ↦ inr (in_left x xs ys t) ]

in_right : (x : Node) (xs ys : List Node) → IsOneOf x ys → IsOneOf x (xs ++ ys)
in_right x [] ys h = h
in_right x (y ∷ xs) ys h = inr (in_right x xs ys h)

pub number_in : (n : ℕ) → n < 2 ^ 32 → IsOneOf (node.Number n) every_node
unfolding every_node
number_in n h = in_left (node.Number n) (below node.Number (2 ^ 32)) (below node.Live (2 ^ 64)) (among node.Number n (2 ^ 32) h)

pub handle_in : (n : ℕ) → n < 2 ^ 64 → IsOneOf (node.Live n) every_node
unfolding every_node
handle_in n h = in_right (node.Live n) (below node.Number (2 ^ 32)) (below node.Live (2 ^ 64)) (among node.Live n (2 ^ 64) h)
