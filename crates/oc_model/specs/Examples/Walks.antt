-- What is reached from a root, over small graphs.
use Rattle.std.specs.Prelude.{◌≡◌, refl, ℕ, ◌==◌, List, [], ◌∷◌, map, None, true, false, unwrap_or, if◌then◌else◌}
use Rattle.std.proofs.Common.{inl, inr, leb-true}
use Rattle.oc_model.specs.declared.reach.Node.{Node}
use Rattle.oc_model.specs.declared.reach.Node.TheVariants.{Live, Number}
use Rattle.oc_model.specs.declared.reach.ClassSettings.{ClassSettings}
use Rattle.oc_model.specs.Maps.{Map, at, keys}
use Rattle.oc_model.specs.Walks.{Walk, Table, Arrives, begins, goes_on, best, clamped, at_least_if, node_id, plain_walk}

-- ---- graphs of stored objects

-- which numbers each object names
abbrev Names : Type 0
Names = Map (List ℕ)

-- the nodes that a node names
abbrev named : Names → Node → List Node
named g (Live h) = []
named g (Number n) = map (λ m. Number m) (unwrap_or (at g n) [])

-- all nodes
abbrev objects : Names → List Node
objects g = map (λ n. Number n) (keys g)

-- the plain walk over these objects
abbrev over : Names → Walk
over g = plain_walk (objects g) (named g)

-- these objects with these budgets
abbrev numbers : List (ℕ × ℕ) → Table
numbers es = map (λ e. (Number e.0, e.1)) es

-- four objects, each naming the next
abbrev chain : Names
chain = (1, 2 ∷ []) ∷ (2, 3 ∷ []) ∷ (3, 4 ∷ []) ∷ (4, []) ∷ []

-- three objects, each naming the next, and the last the first
abbrev circle : Names
circle = (1, 2 ∷ []) ∷ (2, 3 ∷ []) ∷ (3, 1 ∷ []) ∷ []

-- A chain of four is reached as far as the depth goes.
chain_2 : best (over chain) (Number 1) 2 ≡ numbers ((1, 2) ∷ (2, 1) ∷ [])
unfolding best
chain_2 = refl

chain_4 : best (over chain) (Number 1) 4 ≡ numbers ((1, 4) ∷ (2, 3) ∷ (3, 2) ∷ (4, 1) ∷ [])
unfolding best
chain_4 = refl

chain_from_its_end : best (over chain) (Number 3) 65535 ≡ numbers ((3, 65535) ∷ (4, 65534) ∷ [])
unfolding best
chain_from_its_end = refl

-- With depth 0 not even the root is reached.
chain_0 : best (over chain) (Number 1) 0 ≡ []
unfolding best
chain_0 = refl

-- Round a cycle each keeps the budget of its first arrival.
circle_2 : best (over circle) (Number 1) 2 ≡ numbers ((1, 2) ∷ (2, 1) ∷ [])
unfolding best
circle_2 = refl

circle_100 : best (over circle) (Number 2) 100 ≡ numbers ((1, 98) ∷ (2, 100) ∷ (3, 99) ∷ [])
unfolding best
circle_100 = refl

-- an object that names itself
itself : best (over ((7, 7 ∷ 7 ∷ []) ∷ [])) (Number 7) 3 ≡ numbers ((7, 3) ∷ [])
unfolding best
itself = refl

-- ---- two ways to one object

-- Object 4 is two steps from the first by a long way and one by a short one. The greatest budget counts, so the last of them is reached too.
abbrev six : Names
six = (1, 2 ∷ 4 ∷ []) ∷ (2, 3 ∷ []) ∷ (3, 4 ∷ []) ∷ (4, 5 ∷ []) ∷ (5, 6 ∷ []) ∷ (6, []) ∷ []

six_4 : best (over six) (Number 1) 4 ≡ numbers ((1, 4) ∷ (2, 3) ∷ (3, 2) ∷ (4, 3) ∷ (5, 2) ∷ (6, 1) ∷ [])
unfolding best
six_4 = refl

-- Both of its arrivals, as paths: with 3 by the short way, and with 1 by the long one.
short_way : Arrives (over six) (Number 1) 4 (Number 4) 3
short_way = goes_on (begins refl refl) (leb-true 1 4 refl) (inr (inl refl)) refl

long_way : Arrives (over six) (Number 1) 4 (Number 4) 1
long_way = goes_on (goes_on (goes_on (begins refl refl) (leb-true 1 4 refl) (inl refl) refl) (leb-true 1 3 refl) (inl refl) refl) (leb-true 1 2 refl) (inl refl) refl

-- ---- the order of the table

-- Live objects come before numbers, whatever the order in which they are reached.
abbrev mixed : Node → List Node
mixed (Live h) = Live 2 ∷ []
mixed (Number n) = if n == 3 then Number 1 ∷ Live 9 ∷ [] else []

live_first : best (plain_walk (Live 2 ∷ Live 9 ∷ Number 1 ∷ Number 3 ∷ []) mixed) (Number 3) 3 ≡ (Live 2, 1) ∷ (Live 9, 2) ∷ (Number 1, 2) ∷ (Number 3, 3) ∷ []
unfolding best
live_first = refl

-- ---- settings of classes

-- a class of this minimum and this maximum
abbrev between : ℕ → ℕ → ClassSettings
between low high = record { minimum = low; maximum = high; update = None; cascade_activate = false; cascade_update = false; cascade_delete = false }

raised_to_minimum : clamped (between 3 10) 0 ≡ 3
raised_to_minimum = refl

lowered_to_maximum : clamped (between 3 10) 11 ≡ 10
lowered_to_maximum = refl

-- where the minimum is over the maximum, the maximum counts
maximum_last : clamped (between 10 3) 5 ≡ 3
maximum_last = refl

at_least_1 : at_least_if true 0 ≡ 1
at_least_1 = refl

at_least_2 : at_least_if true 2 ≡ 2
at_least_2 = refl

not_raised : at_least_if false 0 ≡ 0
not_raised = refl

-- the plain walk where arrivals are clamped by the settings of each number
abbrev clamping : (ℕ → ClassSettings) → Names → Walk
clamping settings g = record (over g) { arrive = λ x h. clamped (settings (node_id x)) h }

-- A minimum raises what arrives with nothing, the root too. So a cycle can raise the budgets of nodes that were reached before.
raised_in_a_circle : best (clamping (λ n. if n == 3 then between 5 9 else between 0 9) circle) (Number 1) 2 ≡ numbers ((1, 4) ∷ (2, 3) ∷ (3, 5) ∷ [])
unfolding best
raised_in_a_circle = refl

raised_root : best (clamping (λ n. between 2 2) chain) (Number 1) 0 ≡ numbers ((1, 2) ∷ (2, 2) ∷ (3, 2) ∷ (4, 2) ∷ [])
unfolding best
raised_root = refl

-- An arrival that is lowered to 0 reaches nothing.
barred : best (clamping (λ n. if n == 3 then between 0 0 else between 0 9) chain) (Number 1) 100 ≡ numbers ((1, 9) ∷ (2, 8) ∷ [])
unfolding best
barred = refl

-- Where each hands on 1, all is reached that can be.
on_and_on : best (record (over circle) { hand = λ x k. 1 }) (Number 1) 1 ≡ numbers ((1, 1) ∷ (2, 1) ∷ (3, 1) ∷ [])
unfolding best
on_and_on = refl
