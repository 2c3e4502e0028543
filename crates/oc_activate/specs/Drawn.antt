-- The graphs of the tests: each number and each handle is a node, by lists of classes and of marks.
use Rattle.std.specs.Prelude.{ℕ, ◌≡◌, Some, nat_eq, List, [], slice_index}
use Rattle.std.proofs.Common.{sym}
use Rattle.oc_reach.specs.Drawn.{every_node, place}
use Rattle.oc_reach.specs.Graphs.{Shown, IsClosed}

abbrev pub drawn_graph : List ℕ → List ℕ → Shown
drawn_graph classes fresh = record { nodes = every_node; class = λ x. Some (slice_index classes (place x)); unsaved = λ x. nat_eq (slice_index fresh (place x)) 1; next = λ x. [] }

pub drawn_closed : (classes fresh : List ℕ) → IsClosed (drawn_graph classes fresh)
drawn_closed classes fresh x y i = absurd i

pub same_drawn : (a b c d : List ℕ) → b ≡ a → d ≡ c → drawn_graph a c ≡ drawn_graph b d
same_drawn a b c d p q = λ i. drawn_graph (sym p i) (sym q i)
