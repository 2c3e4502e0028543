-- Objects that are taken away from a handle on.
use Rattle.std.proofs.Common.{◌≡◌, ℕ, ◌+◌, ◌<◌, ◌≤◌, true, false, cond, nat_lt, List, [], ◌∷◌, filter, None, Some, is_some, option_map, unwrap_or, refl, sym, ap, ◌∙◌, arith, true≢false, nat_cmp}
use Rattle.std.specs.Ordering.{is_eq}
use Rattle.std.specs.declared.cmp.Ordering.TheVariants.{Less, Equal, Greater}
use Rattle.std.specs.FinMap.Entries.{is_sorted-where_key}
use Rattle.std.proofs.lemmas.Bool.Decides.{nat_tests}
use Rattle.std.proofs.lemmas.Map.Lookups.{exact_unsigned}
use Rattle.oc_model.specs.Maps.{Map, at}
use Rattle.oc_model.specs.Lists.{IsOneOf}
use Rattle.oc_model.specs.States.{Live, Settings}
use Rattle.oc_heap.specs.declared.heap.Live.{Live as Held}
use Rattle.oc_heap.specs.Heaps.{Objects, HasHandles, back_to as held_back_to}
use Rattle.oc_refs.specs.declared.table.Ref.{Ref}
use Rattle.oc_refs.specs.Triples.{by_handle, without}
use Rattle.oc_live.specs.Memories.{Memory, LiveFrom, back_to}
use Rattle.oc_live.specs.Joined.{with_triple, joined, live_in, memory_in, released, AreJoined}
use Rattle.oc_live.proofs.Tables.{none_some}
use Rattle.oc_live.proofs.Joining.{told, untold, live_there, sorted_live}
use Rattle.oc_live.proofs.Keeping.{below, not_below}
use Rattle.oc_live.proofs.Enlisting.{gone_joined, gone_here, gone_others}

-- the live handles of the heap are those of the live part
pub live_from : (heap : Objects) (rs : List Ref) (names : List (List ℕ × ℕ)) (settings : Settings) (commits : ℕ) → HasHandles heap → LiveFrom (memory_in heap rs names settings commits) heap.first
live_from heap rs names settings commits handles =
    record {
      ascend = sorted_live rs heap.live ∙ handles.ascend;
      starts = handles.starts;
      order = handles.order;
      live = λ h. (λ is. (handles.live h).0 (sym (live_there rs heap.live h) ∙ is), λ within. live_there rs heap.live h ∙ (handles.live h).1 within);
    }

is_below : (k h : ℕ) → nat_lt k h ≡ true → k < h
is_below k h less = grind (arith, nat_tests)

-- there is one first handle
pub lower : (m : Memory) (f g h : ℕ) → LiveFrom m f → LiveFrom m g → f ≤ h → h ≤ m.next_handle → g ≤ h
lower m f g h from other low high =
    (elim (nat_lt h g) as (λ b. nat_lt h g ≡ b → g ≤ h) [
      | false ↦ λ out. above out
      | true ↦ λ less.
          let before : h < g = is_below h g less in
          let order : g ≤ m.next_handle = other.order in
          ((other.live h).0 ((from.live h).1 (low, omega arith))).0
    ]) refl
  where
    above : nat_lt h g ≡ false → g ≤ h
    above out = grind (arith, nat_tests)

module _ {X : Type 0} (h : ℕ) where
  -- the entries under smaller keys
  abbrev pub under : Map X → Map X
  under xs = filter (λ (e : ℕ × X). nat_lt e.0 h) xs

  at_under : (xs : Map X) (k : ℕ) → k < h → at (under xs) k ≡ at xs k
  at_under [] k less = refl
  at_under (e ∷ xs) k less =
      (elim (nat_lt e.0 h) as (λ b. nat_lt e.0 h ≡ b → at (cond b (e ∷ under xs) (under xs)) k ≡ cond (is_eq (nat_cmp k e.0)) (Some e.1) (at xs k)) [
        | true ↦ λ _. ap (cond (is_eq (nat_cmp k e.0)) (Some e.1)) (at_under xs k less)
        | false ↦ λ out.
            at_under xs k less
            ∙ (elim (nat_cmp k e.0) as (λ o. nat_cmp k e.0 ≡ o → at xs k ≡ cond (is_eq o) (Some e.1) (at xs k)) [
              | Less ↦ λ _. refl
              | Greater ↦ λ _. refl
              | Equal ↦ λ is. absurd (true≢false (sym (ap (λ n. nat_lt n h) (sym (exact_unsigned k e.0 is)) ∙ below k h less) ∙ out))
            ]) refl
      ]) refl

  none_under : (xs : Map X) (k : ℕ) → h ≤ k → at (under xs) k ≡ None
  none_under [] k more = refl
  none_under (e ∷ xs) k more =
      (elim (nat_lt e.0 h) as (λ b. nat_lt e.0 h ≡ b → at (cond b (e ∷ under xs) (under xs)) k ≡ None) [
        | false ↦ λ _. none_under xs k more
        | true ↦ λ stays.
            (elim (nat_cmp k e.0) as (λ o. nat_cmp k e.0 ≡ o → cond (is_eq o) (Some e.1) (at (under xs) k) ≡ None) [
              | Less ↦ λ _. none_under xs k more
              | Greater ↦ λ _. none_under xs k more
              | Equal ↦ λ is. absurd (true≢false (sym stays ∙ ap (λ n. nat_lt n h) (sym (exact_unsigned k e.0 is)) ∙ not_below k h more))
            ]) refl
      ]) refl

-- the objects under smaller handles, where the tables agree on those
under_live : (h : ℕ) (rs qs : List Ref) → ((k : ℕ) → k < h → by_handle qs k ≡ by_handle rs k) → (xs : Map Held) → live_in qs (under h xs) ≡ under h (live_in rs xs)
under_live h rs qs same [] = refl
under_live h rs qs same (e ∷ xs) =
    (elim (nat_lt e.0 h) as (λ b. nat_lt e.0 h ≡ b → live_in qs (cond b (e ∷ under h xs) (under h xs)) ≡ cond b ((e.0, joined rs e.0 e.1) ∷ under h (live_in rs xs)) (under h (live_in rs xs))) [
      | true ↦ λ yes. λ i. (e.0, with_triple (same e.0 (is_below e.0 h yes) i) e.1) ∷ under_live h rs qs same xs i
      | false ↦ λ _. under_live h rs qs same xs
    ]) refl

-- ---- triples that go with their objects

-- From the handle on and below the other no triple is left, and under smaller handles all are there.
pub record AreUndone (heap : Objects) (rs qs : List Ref) (h k : ℕ) : Type 0 where
  pub joined : AreJoined heap qs
  pub stay : (g : ℕ) → g < h → by_handle qs g ≡ by_handle rs g
  pub gone : (g : ℕ) → h ≤ g → g < k → by_handle qs g ≡ None

-- at first nothing is undone
pub none_undone : (heap : Objects) (rs : List Ref) (h : ℕ) → AreJoined heap rs → AreUndone heap rs rs h h
none_undone heap rs h j = record { joined = j; stay = λ g less. refl; gone = λ g more less. absurd (omega arith) }

-- below the next number is below it or the number itself
at_last : {A : Type 0} (g k : ℕ) → g < k + 1 → (g < k → A) → (g ≡ k → A) → A
at_last {A} g k less before here =
    (elim (nat_lt g k) as (λ b. nat_lt g k ≡ b → A) [ true ↦ λ under. before (is_below g k under) | false ↦ λ out. here (close out) ]) refl
  where
    close : nat_lt g k ≡ false → g ≡ k
    close out = grind (arith, nat_tests)

module _ (heap : Objects) (rs qs : List Ref) (h k : ℕ) (u : AreUndone heap rs qs h k) where
  -- one handle more, which has no triple
  undone_none : by_handle qs k ≡ None → AreUndone heap rs qs h (k + 1)
  undone_none none =
      record {
        joined = u.joined;
        stay = u.stay;
        gone = λ g more less. at_last g k less (λ before. u.gone g more before) (λ here. ap (by_handle qs) here ∙ none);
      }

  -- one handle more, whose triple is taken out
  undone_one : h ≤ k → (r : Ref) → by_handle qs k ≡ Some r → AreUndone heap rs (without r.number qs) h (k + 1)
  undone_one from r has =
      record {
        joined = gone_joined heap qs u.joined r.number;
        stay = λ g less. gone_others heap qs u.joined k g r has (λ e. absurd (omega arith)) ∙ u.stay g less;
        gone = λ g more less.
            at_last g k less (λ before. gone_others heap qs u.joined k g r has (λ e. absurd (omega arith)) ∙ u.gone g more before)
            (λ here. ap (by_handle (without r.number qs)) here ∙ gone_here heap qs u.joined k r has);
      }

  -- one handle more
  pub one_undone : h ≤ k → AreUndone heap rs (released qs k) h (k + 1)
  one_undone from =
      (elim (by_handle qs k) as (λ t. by_handle qs k ≡ t → AreUndone heap rs (unwrap_or (option_map (λ r. without r.number qs) t) qs) h (k + 1)) [
        | None ↦ λ none. undone_none none
        | Some r ↦ λ has. undone_one from r has
      ]) refl

  module _ (all : k ≡ heap.next) (low : heap.first ≤ h) (high : h ≤ heap.next) where
    -- a triple that is left is under a smaller handle
    left_below : (r : Ref) → IsOneOf r qs → r.handle < h
    left_below r one =
        (elim (nat_lt r.handle h) as (λ b. nat_lt r.handle h ≡ b → r.handle < h) [
          | true ↦ λ yes. is_below r.handle h yes
          | false ↦ λ out.
              let within = (u.joined.handles.live r.handle).0 (u.joined.live r one) in
              let less : r.handle < heap.next = within.1 in
              absurd (none_some r (sym (u.gone r.handle (above out) (omega arith)) ∙ u.joined.objects r one))
        ]) refl
      where
        above : nat_lt r.handle h ≡ false → h ≤ r.handle
        above out = grind (arith, nat_tests)

    live_under : (g : ℕ) → (is_some (at (under h heap.live) g) ≡ true) → (heap.first ≤ g) × (g < h)
    live_under g =
        (elim (nat_lt g h) as (λ b. nat_lt g h ≡ b → is_some (at (under h heap.live) g) ≡ true → (heap.first ≤ g) × (g < h)) [
          | true ↦ λ yes is. (((u.joined.handles.live g).0 (sym (ap is_some (at_under h heap.live g (is_below g h yes))) ∙ is)).0, is_below g h yes)
          | false ↦ λ out is. absurd (true≢false (sym is ∙ ap is_some (none_under h heap.live g (above out))))
        ]) refl
      where
        above : nat_lt g h ≡ false → h ≤ g
        above out = grind (arith, nat_tests)

    -- without the objects from the handle on heap and table agree
    pub undone_joined : AreJoined (held_back_to heap h) qs
    undone_joined =
        record {
          handles = record {
            starts = u.joined.handles.starts;
            order = low;
            ascend = untold _ (is_sorted-where_key nat_cmp (λ x. nat_lt x h) heap.live (told heap.live u.joined.handles.ascend));
            live = λ g. (live_under g, λ within. let less : g < h = within.1 in ap is_some (at_under h heap.live g less) ∙ (u.joined.handles.live g).1 (within.0, omega arith));
          };
          numbers = u.joined.numbers;
          objects = u.joined.objects;
          live = λ r one. ap is_some (at_under h heap.live r.handle (left_below r one)) ∙ u.joined.live r one;
        }

    -- the same, seen from outside
    pub undone_seen : (names : List (List ℕ × ℕ)) (settings : Settings) (commits : ℕ) → memory_in (held_back_to heap h) qs names settings commits ≡ back_to (memory_in heap rs names settings commits) h
    undone_seen names settings commits =
        ap (λ (l : Map Live). record { live = l; next_handle = h; names = names; settings = settings; commits = commits }) (under_live h rs qs u.stay heap.live)
