-- The handles among the nodes of a table.
use Rattle.std.proofs.Common.{◌≡◌, ℕ, zero, suc, ◌+◌, ◌<◌, Bool, true, false, List, [], ◌∷◌, get_or, length, refl, sym, arith, nat_cmp, true≢false}
use Rattle.std.specs.List.{All}
use Rattle.std.specs.Ordering.{is_lt}
use Rattle.std.specs.declared.cmp.Ordering.TheVariants.{Less, Equal, Greater}
use Rattle.std.specs.Cmp.{ranked}
use Rattle.std.specs.FinMap.{is_sorted}
use Rattle.std.specs.FinMap.Entries.{below_all}
use Rattle.oc_model.specs.declared.reach.Node.{Node}
use Rattle.oc_model.specs.declared.reach.Node.TheVariants as node
use Rattle.oc_model.specs.Walks.{node_cmp, Table}
use Rattle.oc_model.proofs.Elements.{both_true}
use Rattle.oc_chunks.specs.Ascending.{Each}
use Rattle.oc_machine.specs.Memory.{handles_in}
use Rattle.oc_store.specs.Numbering.{AreRising}

all_more : {X : Type 0} (P : X → Type 0) (x : X) (xs : List X) → P x → All P xs → All P (x ∷ xs)
all_more P x xs p all zero d lt = p
all_more P x xs p all (suc i) d lt = all i d (omega (arith, lt))

none_fail : {X : Type 0} (P : X → Type 0) → All P []
none_fail P i d lt = absurd (omega (arith, lt))

-- what holds of the live nodes holds of the handles
pub of_handles : (P : ℕ → Type 0) (t : Table) → All (λ e. (h : ℕ) → e.0 ≡ node.Live h → P h) t → All P (handles_in t)
of_handles P [] all = none_fail P
of_handles P ((node.Live h, k) ∷ t) all = all_more P h (handles_in t) (all 0 (node.Live h, k) (omega arith) h refl) (of_handles P t (λ i d lt. all (suc i) d (omega (arith, lt))))
of_handles P ((node.Number n, k) ∷ t) all = of_handles P t (λ i d lt. all (suc i) d (omega (arith, lt)))

is_below : (h k : ℕ) → is_lt (nat_cmp h k) ≡ true → h < k
is_below h k lt =
    (elim (nat_cmp h k) as (λ o. nat_cmp h k ≡ o → is_lt o ≡ true → h < k) [
      | Less ↦ λ is _. ranked h k Less (sym is)
      | Equal ↦ λ _ no_less. absurd (true≢false (sym no_less))
      | Greater ↦ λ _ no_less. absurd (true≢false (sym no_less))
    ]) refl lt

-- the handle of a live node that comes first is the least
least : (h : ℕ) (t : Table) → below_all node_cmp (node.Live h) t ≡ true → Each (λ k. h < k) (handles_in t)
least h [] below = tt
least h ((node.Live k, b) ∷ t) below =
    let both = both_true (is_lt (node_cmp (node.Live h) (node.Live k))) (below_all node_cmp (node.Live h) t) below in (is_below h k both.0, least h t both.1)
least h ((node.Number n, b) ∷ t) below = least h t (both_true (is_lt (node_cmp (node.Live h) (node.Number n))) (below_all node_cmp (node.Live h) t) below).1

-- the handles of a table that is in order rise
pub handles_rise : (t : Table) → is_sorted node_cmp t ≡ true → AreRising (handles_in t)
handles_rise [] sorted = tt
handles_rise ((node.Live h, k) ∷ t) sorted = let both = both_true (below_all node_cmp (node.Live h) t) (is_sorted node_cmp t) sorted in (least h t both.0, handles_rise t both.1)
handles_rise ((node.Number n, k) ∷ t) sorted = handles_rise t (both_true (below_all node_cmp (node.Number n) t) (is_sorted node_cmp t) sorted).1
