-- The objects of a heap with the triples of a table.
use Rattle.std.proofs.Common.{T, ◌≡◌, ℕ, ◌+◌, ◌<◌, ◌≤◌, Bool, true, false, cond, ◌&&◌, ◌==◌, List, [], ◌∷◌, map, Option, None, Some, is_some, option_map, unwrap_or, refl, sym, ap, ◌∙◌, subst, arith, true≢false, nat_cmp}
use Rattle.std.specs.Ordering.{is_eq, is_lt}
use Rattle.std.specs.declared.cmp.Ordering.TheVariants.{Less, Equal, Greater}
use Rattle.std.specs.Cmp.{nat_cmp_total, unsigned_tied}
use Rattle.std.proofs.lemmas.Bool.Decides.{nat_tests}
use Rattle.std.proofs.lemmas.Map.Lookups.{exact_unsigned}
use Rattle.std.specs.FinMap.{put, is_sorted}
use Rattle.std.specs.FinMap.Entries.{by_order, below_all, same_entries, is_sorted-put, find-put}
use Rattle.oc_model.specs.declared.value.Entry.{Entry}
use Rattle.oc_model.specs.Maps.{Map, at, with_at}
use Rattle.oc_model.specs.States.{Live, Settings}
use Rattle.oc_heap.specs.declared.heap.Live.{Live as Held}
use Rattle.oc_heap.specs.Heaps.{Objects, with_new as with_held, with_entries, refilled as held_refilled}
use Rattle.oc_refs.specs.declared.table.Ref.{Ref}
use Rattle.oc_refs.specs.Triples.{by_handle}
use Rattle.oc_live.specs.Memories.{Memory, unsaved, with_new, with_changed, refilled}
use Rattle.oc_live.specs.Joined.{with_triple, joined, live_in, memory_in, AreJoined}
use Rattle.oc_live.proofs.Tables.{is_same, to_itself, found_one}

-- ---- maps

module _ {X Y : Type 0} where
  -- the map with each value changed
  abbrev pub shown : (ℕ → X → Y) → Map X → Map Y
  shown j xs = map (λ (e : ℕ × X). (e.0, j e.0 e.1)) xs

  -- what the changed map has at a key
  pub at_shown : (j : ℕ → X → Y) (xs : Map X) (k : ℕ) → at (shown j xs) k ≡ option_map (j k) (at xs k)
  at_shown j [] k = refl
  at_shown j (e ∷ xs) k =
      (elim (nat_cmp k e.0) as (λ o. nat_cmp k e.0 ≡ o → cond (is_eq o) (Some (j e.0 e.1)) (at (shown j xs) k) ≡ option_map (j k) (cond (is_eq o) (Some e.1) (at xs k))) [
        | Less ↦ λ _. at_shown j xs k
        | Equal ↦ λ is. ap (λ (n : ℕ). Some (j n e.1)) (sym (exact_unsigned k e.0 is))
        | Greater ↦ λ _. at_shown j xs k
      ]) refl

  below_shown : (j : ℕ → X → Y) (k : ℕ) (xs : Map X) → below_all nat_cmp k (shown j xs) ≡ below_all nat_cmp k xs
  below_shown j k [] = refl
  below_shown j k (e ∷ xs) = ap (λ b. is_lt (nat_cmp k e.0) && b) (below_shown j k xs)

  -- the keys stay in order
  pub sorted_shown : (j : ℕ → X → Y) (xs : Map X) → is_sorted nat_cmp (shown j xs) ≡ is_sorted nat_cmp xs
  sorted_shown j [] = refl
  sorted_shown j (e ∷ xs) = λ i. below_shown j e.0 xs i && sorted_shown j xs i

  -- putting and changing can be exchanged
  pub put_shown : (j : ℕ → X → Y) (k : ℕ) (x : X) (xs : Map X) → shown j (put nat_cmp k x xs) ≡ put nat_cmp k (j k x) (shown j xs)
  put_shown j k x [] = refl
  put_shown j k x (e ∷ xs) =
      (elim (nat_cmp k e.0) as (λ o. nat_cmp k e.0 ≡ o → shown j (by_order o ((k, x) ∷ e ∷ xs) ((e.0, x) ∷ xs) (e ∷ put nat_cmp k x xs))
      ≡ by_order o ((k, j k x) ∷ (e.0, j e.0 e.1) ∷ shown j xs) ((e.0, j k x) ∷ shown j xs) ((e.0, j e.0 e.1) ∷ put nat_cmp k (j k x) (shown j xs))) [
        | Less ↦ λ _. refl
        | Equal ↦ λ is. ap (λ (n : ℕ). (e.0, j n x) ∷ shown j xs) (sym (exact_unsigned k e.0 is))
        | Greater ↦ λ _. ap (λ (r : Map Y). (e.0, j e.0 e.1) ∷ r) (put_shown j k x xs)
      ]) refl

-- an order that is told as a fact
pub told : {X : Type 0} (xs : Map X) → is_sorted nat_cmp xs ≡ true → T (is_sorted nat_cmp xs)
told xs h = subst T (sym h) tt

-- a fact told as a test
pub untold : (b : Bool) → T b → b ≡ true
untold true h = refl
untold false h = absurd h

-- what a map has at a key after another was put in
found_put : {X : Type 0} (q k : ℕ) (x : X) (xs : Map X) → at (with_at xs k x) q ≡ cond (q == k) (Some x) (at xs q)
found_put q k x xs = find-put nat_cmp nat_cmp_total q k x xs ∙ ap (λ b. cond b (Some x) (at xs q)) (unsigned_tied q k)

module _ {X Y : Type 0} where
  -- two changes that agree at each entry
  pub shown_alike : (f g : ℕ → X → Y) (xs : Map X) → is_sorted nat_cmp xs ≡ true → ((k : ℕ) (x : X) → at xs k ≡ Some x → g k x ≡ f k x) → shown g xs ≡ shown f xs
  shown_alike f g xs sorted alike =
      same_entries nat_cmp nat_cmp_total exact_unsigned (shown g xs) (shown f xs) (told (shown g xs) (sorted_shown g xs ∙ sorted)) (told (shown f xs) (sorted_shown f xs ∙ sorted))
      (λ q. at_shown g xs q
      ∙ (elim (at xs q) as (λ o. at xs q ≡ o → option_map (g q) o ≡ option_map (f q) o) [ None ↦ λ _. refl | Some x ↦ λ has. ap Some (alike q x has) ]) refl
      ∙ sym (at_shown f xs q))

  -- two changes that agree at each key but one
  pub shown_but : (f g : ℕ → X → Y) (xs : Map X) (h : ℕ) (x : X) → is_sorted nat_cmp xs ≡ true → at xs h ≡ Some x → ((k : ℕ) → (k ≡ h → ⊥) → (y : X) → g k y ≡ f k y)
      → shown g xs ≡ with_at (shown f xs) h (g h x)
  shown_but f g xs h x sorted has others =
      same_entries nat_cmp nat_cmp_total exact_unsigned (shown g xs) (with_at (shown f xs) h (g h x)) (told (shown g xs) (sorted_shown g xs ∙ sorted))
      (is_sorted-put nat_cmp nat_cmp_total h (g h x) (shown f xs) (told (shown f xs) (sorted_shown f xs ∙ sorted))) each
    where
      mapped : (k : ℕ) (o : Option X) → ((y : X) → g k y ≡ f k y) → option_map (g k) o ≡ option_map (f k) o
      mapped k None same = refl
      mapped k (Some y) same = ap Some (same y)

      each : (q : ℕ) → at (shown g xs) q ≡ at (with_at (shown f xs) h (g h x)) q
      each q =
          at_shown g xs q
          ∙ (elim (q == h) as (λ b. (q == h) ≡ b → option_map (g q) (at xs q) ≡ cond b (Some (g h x)) (at (shown f xs) q)) [
            | true ↦ λ is. ap (λ (n : ℕ). option_map (g n) (at xs n)) (is_same q h is) ∙ ap (option_map (g h)) has
            | false ↦ λ isnt. mapped q (at xs q) (others q (λ e. true≢false (sym (to_itself q h e) ∙ isnt))) ∙ sym (at_shown f xs q)
          ]) refl
          ∙ sym (found_put q h (g h x) (shown f xs))

-- a change that leaves each entry
pub shown_itself : {X : Type 0} (xs : Map X) → shown (λ (k : ℕ) (x : X). x) xs ≡ xs
shown_itself [] = refl
shown_itself (e ∷ xs) = λ i. e ∷ shown_itself xs i

-- ---- live objects

-- a live object is the one of the heap with its triple
pub at_live : (rs : List Ref) (xs : Map Held) (k : ℕ) → at (live_in rs xs) k ≡ option_map (joined rs k) (at xs k)
at_live rs xs k = at_shown (joined rs) xs k

-- the live objects stand in the order of the heap
pub sorted_live : (rs : List Ref) (xs : Map Held) → is_sorted nat_cmp (live_in rs xs) ≡ is_sorted nat_cmp xs
sorted_live rs xs = sorted_shown (joined rs) xs

-- an object put in the heap is put among the live objects
put_live : (rs : List Ref) (k : ℕ) (x : Held) (xs : Map Held) → live_in rs (put nat_cmp k x xs) ≡ put nat_cmp k (joined rs k x) (live_in rs xs)
put_live rs k x xs = put_shown (joined rs) k x xs

-- Where two tables differ only at one handle, the live objects differ only there.
pub live_changed : (rs qs : List Ref) (xs : Map Held) (h : ℕ) (x : Held) → is_sorted nat_cmp xs ≡ true → at xs h ≡ Some x → ((k : ℕ) → (k ≡ h → ⊥) → by_handle qs k ≡ by_handle rs k)
    → live_in qs xs ≡ with_at (live_in rs xs) h (joined qs h x)
live_changed rs qs xs h x sorted has others =
    shown_but (joined rs) (joined qs) xs h x sorted has (λ k apart y. ap (λ (t : Option Ref). with_triple t y) (others k apart))

-- a part of a memory where an object under a handle has changed
pub changed_is : (m : Memory) (h : ℕ) (o : Live) (f : Live → Live) (live : Map Live) → at m.live h ≡ Some o → live ≡ with_at m.live h (f o) → record m { live = live } ≡ with_changed m h f
changed_is m h o f live has is =
    ap (λ (l : Map Live). record m { live = l }) is ∙ sym (ap (λ (t : Option Live). unwrap_or (option_map (λ p. record m { live = with_at m.live h (f p) }) t) m) has)

-- ---- what is there

-- what is there
pub there : {X : Type 0} (o : Option X) → is_some o ≡ true → (x : X) × (o ≡ Some x)
there None h = absurd (true≢false (sym h))
there (Some x) h = (x, refl)

some_mapped : {X Y : Type 0} (f : X → Y) (o : Option X) → is_some (option_map f o) ≡ is_some o
some_mapped f None = refl
some_mapped f (Some x) = refl

-- what is live is in the heap
pub live_there : (rs : List Ref) (xs : Map Held) (h : ℕ) → is_some (at (live_in rs xs) h) ≡ is_some (at xs h)
live_there rs xs h = ap is_some (at_live rs xs h) ∙ some_mapped (joined rs h) (at xs h)

-- putting at a key that is there adds no key
still_there : {X : Type 0} (xs : Map X) (k q : ℕ) (x : X) → is_some (at xs k) ≡ true → is_some (at (with_at xs k x) q) ≡ is_some (at xs q)
still_there xs k q x has =
    ap is_some (found_put q k x xs)
    ∙ (elim (q == k) as (λ b. (q == k) ≡ b → is_some (cond b (Some x) (at xs q)) ≡ is_some (at xs q)) [
      | true ↦ λ is. sym (ap (λ n. is_some (at xs n)) (is_same q k is) ∙ has)
      | false ↦ λ _. refl
    ]) refl

-- ---- objects that change in the heap

refilled_joined : (t : Option Ref) (g : List Entry → List Entry) (x : Held) → with_triple t (held_refilled g x) ≡ refilled g (with_triple t x)
refilled_joined None g x = refl
refilled_joined (Some r) g x = refl

filled_is : (heap : Objects) (h : ℕ) (g : List Entry → List Entry) (x : Held) → at heap.live h ≡ Some x → with_entries heap h g ≡ record heap { live = with_at heap.live h (held_refilled g x) }
filled_is heap h g x has = ap (λ (t : Option Held). unwrap_or (option_map (λ o. record heap { live = with_at heap.live h (held_refilled g o) }) t) heap) has

module _ (heap : Objects) (rs : List Ref) (names : List (List ℕ × ℕ)) (settings : Settings) (commits : ℕ) where
  -- what stands in memory
  abbrev pub whole : Memory
  whole = memory_in heap rs names settings commits

  -- a change of entries in the heap, seen from outside
  pub filled_seen : (h : ℕ) (g : List Entry → List Entry) → is_some (at heap.live h) ≡ true → memory_in (with_entries heap h g) rs names settings commits ≡ with_changed whole h (refilled g)
  filled_seen h g live =
      let x = there (at heap.live h) live in
      ap (λ (k : Objects). memory_in k rs names settings commits) (filled_is heap h g x.0 x.1)
      ∙ changed_is whole h (joined rs h x.0) (refilled g) (live_in rs (with_at heap.live h (held_refilled g x.0))) (at_live rs heap.live h ∙ ap (option_map (joined rs h)) x.1)
      (put_live rs h (held_refilled g x.0) heap.live ∙ ap (λ (o : Live). with_at (live_in rs heap.live) h o) (refilled_joined (by_handle rs h) g x.0))

  -- a new object in the heap, seen from outside
  pub new_seen : (c : ℕ) → AreJoined heap rs → memory_in (with_held heap c) rs names settings commits ≡ with_new whole (unsaved c)
  new_seen c j =
      let o : Held = record { class = c; entries = [] } in
      (λ i. record whole { live = (put_live rs heap.next o heap.live ∙ ap (λ (t : Option Ref). with_at (live_in rs heap.live) heap.next (with_triple t o)) (no_triple j)) i; next_handle = heap.next + 1 })
    where
      no_triple : AreJoined heap rs → by_handle rs heap.next ≡ None
      no_triple j =
          (elim (by_handle rs heap.next) as (λ t. by_handle rs heap.next ≡ t → t ≡ None) [
            | None ↦ λ _. refl
            | Some r ↦ λ e.
                let f = found_one (λ q. q.handle == heap.next) rs r e in
                let below = (j.handles.live r.handle).0 (j.live r f.0) in
                let same : r.handle ≡ heap.next = is_same r.handle heap.next f.1 in
                let less : r.handle < heap.next = below.1 in
                absurd (omega arith)
          ]) refl

-- a change of entries leaves heap and table in agreement
pub filled_joined : (heap : Objects) (rs : List Ref) (h : ℕ) (g : List Entry → List Entry) → is_some (at heap.live h) ≡ true → AreJoined heap rs → AreJoined (with_entries heap h g) rs
filled_joined heap rs h g live j =
    let x = there (at heap.live h) live in
    subst (λ (k : Objects). AreJoined k rs) (sym (filled_is heap h g x.0 x.1)) (record {
      handles = record {
        starts = j.handles.starts;
        order = j.handles.order;
        ascend = untold _ (is_sorted-put nat_cmp nat_cmp_total h (held_refilled g x.0) heap.live (told heap.live j.handles.ascend));
        live = λ k. (λ is. (j.handles.live k).0 (sym (still_there heap.live h k (held_refilled g x.0) live) ∙ is), λ within. still_there heap.live h k (held_refilled g x.0) live ∙ (j.handles.live k).1 within);
      };
      numbers = j.numbers;
      objects = j.objects;
      live = λ r one. still_there heap.live h r.handle (held_refilled g x.0) live ∙ j.live r one;
    })

-- a new object leaves heap and table in agreement
pub new_joined : (heap : Objects) (rs : List Ref) (c : ℕ) → AreJoined heap rs → AreJoined (with_held heap c) rs
new_joined heap rs c j =
    let o : Held = record { class = c; entries = [] } in
    record {
      handles = record {
        starts = j.handles.starts;
        order = omega (arith, j.handles.order);
        ascend = untold _ (is_sorted-put nat_cmp nat_cmp_total heap.next o heap.live (told heap.live j.handles.ascend));
        live = λ k. (λ is. among k o (sym (ap is_some (found_put k heap.next o heap.live)) ∙ is), λ within. ap is_some (found_put k heap.next o heap.live) ∙ within_new k o within.0 within.1);
      };
      numbers = j.numbers;
      objects = j.objects;
      live = λ r one. ap is_some (found_put r.handle heap.next o heap.live) ∙ or_there (r.handle == heap.next) o (at heap.live r.handle) (j.live r one);
    }
  where
    or_there : (b : Bool) (o : Held) (t : Option Held) → is_some t ≡ true → is_some (cond b (Some o) t) ≡ true
    or_there true o t h = refl
    or_there false o t h = h

    among : (k : ℕ) (o : Held) → is_some (cond (k == heap.next) (Some o) (at heap.live k)) ≡ true → (heap.first ≤ k) × (k < heap.next + 1)
    among k o =
        (elim (k == heap.next) as (λ b. (k == heap.next) ≡ b → is_some (cond b (Some o) (at heap.live k)) ≡ true → (heap.first ≤ k) × (k < heap.next + 1)) [
          | true ↦ λ is _. let same : k ≡ heap.next = is_same k heap.next is in let order : heap.first ≤ heap.next = j.handles.order in (omega arith, omega arith)
          | false ↦ λ _ is. let w = (j.handles.live k).0 is in let low : heap.first ≤ k = w.0 in let high : k < heap.next = w.1 in (omega arith, omega arith)
        ]) refl

    within_new : (k : ℕ) (o : Held) → heap.first ≤ k → k < heap.next + 1 → is_some (cond (k == heap.next) (Some o) (at heap.live k)) ≡ true
    within_new k o low high =
        (elim (k == heap.next) as (λ b. (k == heap.next) ≡ b → is_some (cond b (Some o) (at heap.live k)) ≡ true) [
          | true ↦ λ _. refl
          | false ↦ λ apart. (j.handles.live k).1 (low, below apart)
        ]) refl
      where
        below : (k == heap.next) ≡ false → k < heap.next
        below apart = grind (arith, nat_tests)
