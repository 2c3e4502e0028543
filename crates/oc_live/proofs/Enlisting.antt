-- Numbers of live objects: how they are found, given and taken away.
use Rattle.std.proofs.Common.{◌≡◌, ℕ, Bool, true, false, not, cond, ◌==◌, List, [], ◌∷◌, find, Option, None, Some, is_some, option_map, unwrap_or, refl, sym, ap, subst, ◌∙◌, inl, inr, true≢false, nat_cmp}
use Rattle.std.specs.Ordering.{is_eq}
use Rattle.std.specs.declared.cmp.Ordering.TheVariants.{Less, Equal, Greater}
use Rattle.std.proofs.lemmas.Map.Lookups.{exact_unsigned}
use Rattle.oc_model.specs.Maps.{Map, at, with_at}
use Rattle.oc_model.specs.Lists.{IsOneOf}
use Rattle.oc_model.specs.States.{Live, Settings}
use Rattle.oc_model.specs.Nodes.{is_number}
use Rattle.oc_heap.specs.declared.heap.Live.{Live as Held}
use Rattle.oc_heap.specs.Heaps.{Objects}
use Rattle.oc_refs.specs.declared.table.Ref.{Ref}
use Rattle.oc_refs.specs.Triples.{by_number, by_handle, with_ref, without, turned as triple_turned, with_active}
use Rattle.oc_machine.specs.Memory.{number_at, detached}
use Rattle.oc_live.specs.Memories.{Memory, with_changed, numbered, turned, held_of, handle_in}
use Rattle.oc_live.specs.Joined.{with_triple, joined, live_in, memory_in, released, AreJoined, ListsAll}
use Rattle.oc_live.proofs.Tables.{some_same, none_some, is_same, to_itself, another, found_one, find_more, find_turned, find_kept, find_gone, one_more, one_turned, one_kept}
use Rattle.oc_live.proofs.Joining.{at_live, live_changed, changed_is, there}

-- what a triple says, an object without one being active
abbrev pub active_by : Option Ref → Bool
active_by None = true
active_by (Some r) = r.active

none_mapped : {X Y : Type 0} (f : X → Y) (o : Option X) → option_map f o ≡ None → o ≡ None
none_mapped f None h = refl
none_mapped f (Some x) h = absurd (none_some (f x) (sym h))

held_back : (t : Option Ref) (x : Held) → held_of (with_triple t x) ≡ x
held_back None x = refl
held_back (Some r) x = refl

-- the heap has the class and the entries of what is live
pub held_there : (rs : List Ref) (xs : Map Held) (h : ℕ) → at xs h ≡ option_map held_of (at (live_in rs xs) h)
held_there rs xs h = back (at xs h) ∙ sym (ap (option_map held_of) (at_live rs xs h))
  where
    back : (o : Option Held) → o ≡ option_map held_of (option_map (joined rs h) o)
    back None = refl
    back (Some x) = ap Some (sym (held_back (by_handle rs h) x))

-- whether a live object is active
pub active_is : (rs : List Ref) (xs : Map Held) (h : ℕ) (t : Option Ref) → by_handle rs h ≡ t → is_some (at (live_in rs xs) h) ≡ true
    → Some (active_by t) ≡ option_map (λ (o : Live). o.active) (at (live_in rs xs) h)
active_is rs xs h t e live =
    let x = there (at (live_in rs xs) h) live in
    seen (at xs h) (sym (at_live rs xs h) ∙ x.1) ∙ sym (ap (option_map (λ (o : Live). o.active)) (at_live rs xs h))
  where
    shown : (q : Option Ref) (y : Held) → active_by q ≡ (with_triple q y).active
    shown None y = refl
    shown (Some r) y = refl

    seen : {o : Live} (k : Option Held) → option_map (joined rs h) k ≡ Some o → Some (active_by t) ≡ option_map (λ (p : Live). p.active) (option_map (joined rs h) k)
    seen {o} None none = absurd (none_some o none)
    seen (Some y) _ = ap Some (ap active_by (sym e) ∙ shown (by_handle rs h) y)

triple_number : (t : Option Ref) (x : Held) → option_map (λ (r : Ref). r.number) t ≡ (with_triple t x).number
triple_number None x = refl
triple_number (Some r) x = refl

module _ (heap : Objects) (rs : List Ref) (j : AreJoined heap rs) where
  -- the triple of a handle is one of the table, and has the handle
  of_handle : (h : ℕ) (r : Ref) → by_handle rs h ≡ Some r → IsOneOf r rs × (r.handle ≡ h)
  of_handle h r e = let f = found_one (λ q. q.handle == h) rs r e in (f.0, is_same r.handle h f.1)

  of_number : (n : ℕ) (r : Ref) → by_number rs n ≡ Some r → IsOneOf r rs × (r.number ≡ n)
  of_number n r e = let f = found_one (λ q. q.number == n) rs r e in (f.0, is_same r.number n f.1)

  -- the object of a triple is live
  object_of : (h : ℕ) (r : Ref) → by_handle rs h ≡ Some r → (x : Held) × (at heap.live h ≡ Some x)
  object_of h r e = let f = of_handle h r e in there (at heap.live h) (ap (λ k. is_some (at heap.live k)) (sym f.1) ∙ j.live r f.0)

  -- the number of a handle's triple is that of the live object
  pub number_is : (h : ℕ) → option_map (λ (r : Ref). r.number) (by_handle rs h) ≡ number_at (at (live_in rs heap.live) h)
  number_is h = seen (at heap.live h) refl ∙ sym (ap number_at (at_live rs heap.live h))
    where
      seen : (o : Option Held) → at heap.live h ≡ o → option_map (λ (r : Ref). r.number) (by_handle rs h) ≡ number_at (option_map (joined rs h) o)
      seen (Some x) e = triple_number (by_handle rs h) x
      seen None e =
          (elim (by_handle rs h) as (λ t. by_handle rs h ≡ t → option_map (λ (r : Ref). r.number) t ≡ None) [
            | None ↦ λ _. refl
            | Some r ↦ λ has. let x = object_of h r has in absurd (none_some x.0 (sym e ∙ x.1))
          ]) refl

  -- an unsaved object has no triple
  pub no_triple : (h : ℕ) → number_at (at (live_in rs heap.live) h) ≡ None → by_handle rs h ≡ None
  no_triple h none = none_mapped (λ (r : Ref). r.number) (by_handle rs h) (number_is h ∙ none)

  -- the triple of a handle is found by its number
  pub number_there : (h : ℕ) (r : Ref) → by_handle rs h ≡ Some r → is_some (by_number rs r.number) ≡ true
  number_there h r e = ap is_some (j.numbers r (of_handle h r e).0)

  -- the table has the live objects with a number and no others
  pub lists_all : ListsAll rs (live_in rs heap.live)
  lists_all =
      record {
        sound = λ r one.
            let x = there (at heap.live r.handle) (j.live r one) in
            (with_triple (Some r) x.0, at_live rs heap.live r.handle ∙ ap (option_map (joined rs r.handle)) x.1 ∙ ap (λ (t : Option Ref). Some (with_triple t x.0)) (j.objects r one), refl, refl);
        complete = λ h n o has is. listed h n o (at heap.live h) (sym (at_live rs heap.live h) ∙ has) is;
      }
    where
      by_triple : (h n : ℕ) (o : Live) (x : Held) (t : Option Ref) → by_handle rs h ≡ t → with_triple t x ≡ o → o.number ≡ Some n → IsOneOf (record { number = n; handle = h; active = o.active }) rs
      by_triple h n o x None e same is = absurd (none_some n (ap (λ (p : Live). p.number) same ∙ is))
      by_triple h n o x (Some r) e same is =
          let f = of_handle h r e in
          let number : r.number ≡ n = some_same r.number n (ap (λ (p : Live). p.number) same ∙ is) in
          let active : r.active ≡ o.active = ap (λ (p : Live). p.active) same in
          let one : r ≡ record { number = n; handle = h; active = o.active } = λ i. record { number = number i; handle = f.1 i; active = active i } in
          subst (λ (q : Ref). IsOneOf q rs) one f.0

      listed : (h n : ℕ) (o : Live) (k : Option Held) → option_map (joined rs h) k ≡ Some o → o.number ≡ Some n → IsOneOf (record { number = n; handle = h; active = o.active }) rs
      listed h n o None e is = absurd (none_some o e)
      listed h n o (Some x) e is = by_triple h n o x (by_handle rs h) refl (some_same (joined rs h x) o e) is

  -- ---- the handle of a number

  numbered_by : (n k : ℕ) (x : Held) → is_number n (joined rs k x).number ≡ true → (r : Ref) × (by_number rs n ≡ Some r) × (r.handle ≡ k)
  numbered_by n k x =
      (elim (by_handle rs k) as (λ t. by_handle rs k ≡ t → is_number n (with_triple t x).number ≡ true → (r : Ref) × (by_number rs n ≡ Some r) × (r.handle ≡ k)) [
        | None ↦ λ _ h. absurd (true≢false (sym h))
        | Some r ↦ λ e h.
            let f = of_handle k r e in
            (r, ap (by_number rs) (sym (is_same r.number n h)) ∙ j.numbers r f.0, f.1)
      ]) refl

  none_seen : (n : ℕ) → by_number rs n ≡ None → (xs : Map Held) → option_map (λ (e : ℕ × Live). e.0) (find (λ (e : ℕ × Live). is_number n (e.1).number) (live_in rs xs)) ≡ None
  none_seen n none [] = refl
  none_seen n none (e ∷ xs) =
      let rest = find (λ (f : ℕ × Live). is_number n (f.1).number) (live_in rs xs) in
      (elim (is_number n (joined rs e.0 e.1).number) as (λ b. is_number n (joined rs e.0 e.1).number ≡ b → option_map (λ (f : ℕ × Live). f.0) (cond b (Some (e.0, joined rs e.0 e.1)) rest) ≡ None) [
        | true ↦ λ is. let r = numbered_by n e.0 e.1 is in absurd (none_some r.0 (sym none ∙ r.1))
        | false ↦ λ _. none_seen n none xs
      ]) refl

  one_seen : (n : ℕ) (r : Ref) → by_number rs n ≡ Some r → (xs : Map Held) → is_some (at xs r.handle) ≡ true
      → option_map (λ (e : ℕ × Live). e.0) (find (λ (e : ℕ × Live). is_number n (e.1).number) (live_in rs xs)) ≡ Some r.handle
  one_seen n r has [] live = absurd (true≢false (sym live))
  one_seen n r has (e ∷ xs) live =
      let rest = find (λ (f : ℕ × Live). is_number n (f.1).number) (live_in rs xs) in
      (elim (is_number n (joined rs e.0 e.1).number) as (λ b. is_number n (joined rs e.0 e.1).number ≡ b → option_map (λ (f : ℕ × Live). f.0) (cond b (Some (e.0, joined rs e.0 e.1)) rest) ≡ Some r.handle) [
        | true ↦ λ is. let q = numbered_by n e.0 e.1 is in ap Some (sym q.2 ∙ ap (λ (t : Ref). t.handle) (some_same q.0 r (sym q.1 ∙ has)))
        | false ↦ λ isnt. one_seen n r has xs (behind isnt)
      ]) refl
    where
      behind : is_number n (joined rs e.0 e.1).number ≡ false → is_some (at xs r.handle) ≡ true
      behind isnt =
          (elim (nat_cmp r.handle e.0) as (λ o. nat_cmp r.handle e.0 ≡ o → is_some (cond (is_eq o) (Some e.1) (at xs r.handle)) ≡ true → is_some (at xs r.handle) ≡ true) [
            | Less ↦ λ _ h. h
            | Greater ↦ λ _ h. h
            | Equal ↦ λ is h.
                let f = of_number n r has in
                let mine : by_handle rs e.0 ≡ Some r = ap (by_handle rs) (sym (exact_unsigned r.handle e.0 is)) ∙ j.objects r f.0 in
                absurd (true≢false (sym (ap (λ t. is_number n (with_triple t e.1).number) mine ∙ to_itself r.number n f.1) ∙ isnt))
          ]) refl live

  -- the handle of a number's triple is that of the live object
  pub handle_is : (n : ℕ) → option_map (λ (r : Ref). r.handle) (by_number rs n) ≡ handle_in (live_in rs heap.live) n
  handle_is n =
      (elim (by_number rs n) as (λ t. by_number rs n ≡ t → option_map (λ (r : Ref). r.handle) t ≡ handle_in (live_in rs heap.live) n) [
        | None ↦ λ none. sym (none_seen n none heap.live)
        | Some r ↦ λ has. sym (one_seen n r has heap.live (j.live r (of_number n r has).0))
      ]) refl

  -- a number that no live object has is not in the table
  pub free_number : (n : ℕ) → handle_in (live_in rs heap.live) n ≡ None → by_number rs n ≡ None
  free_number n none = none_mapped (λ (r : Ref). r.handle) (by_number rs n) (handle_is n ∙ none)

  -- ---- a number given

  -- a number given to an unsaved object leaves heap and table in agreement
  pub more_joined : (r : Ref) → by_number rs r.number ≡ None → by_handle rs r.handle ≡ None → is_some (at heap.live r.handle) ≡ true → AreJoined heap (with_ref r rs)
  more_joined r free lone live =
      record {
        handles = j.handles;
        numbers = λ q one.
            find_more (λ t. t.number == q.number) r rs (λ is. ap (by_number rs) (sym (is_same r.number q.number is)) ∙ free)
            ∙ elim (one_more q r rs one) [
              | inl e ↦ ap (λ b. cond b (Some r) (by_number rs q.number)) (to_itself r.number q.number (ap (λ (t : Ref). t.number) (sym e))) ∙ ap Some (sym e)
              | inr old ↦
                  ap (λ b. cond b (Some r) (by_number rs q.number)) (another r.number q.number (λ e. none_some q (sym free ∙ ap (by_number rs) e ∙ j.numbers q old)))
                  ∙ j.numbers q old
            ];
        objects = λ q one.
            find_more (λ t. t.handle == q.handle) r rs (λ is. ap (by_handle rs) (sym (is_same r.handle q.handle is)) ∙ lone)
            ∙ elim (one_more q r rs one) [
              | inl e ↦ ap (λ b. cond b (Some r) (by_handle rs q.handle)) (to_itself r.handle q.handle (ap (λ (t : Ref). t.handle) (sym e))) ∙ ap Some (sym e)
              | inr old ↦
                  ap (λ b. cond b (Some r) (by_handle rs q.handle)) (another r.handle q.handle (λ e. none_some q (sym lone ∙ ap (by_handle rs) e ∙ j.objects q old)))
                  ∙ j.objects q old
            ];
        live = λ q one. elim (one_more q r rs one) [ inl e ↦ ap (λ (t : Ref). is_some (at heap.live t.handle)) e ∙ live | inr old ↦ j.live q old ];
      }

  numbered_now : (t : Option Ref) (r : Ref) (x : Held) → with_triple (Some r) x ≡ numbered r.number r.active (with_triple t x)
  numbered_now None r x = refl
  numbered_now (Some q) r x = refl

  module _ (names : List (List ℕ × ℕ)) (settings : Settings) (commits : ℕ) where
    -- what stands in memory, with this table
    abbrev pub all_in : List Ref → Memory
    all_in qs = memory_in heap qs names settings commits

    -- a number given, seen from outside
    pub more_seen : (r : Ref) → by_handle rs r.handle ≡ None → is_some (at heap.live r.handle) ≡ true → all_in (with_ref r rs) ≡ with_changed (all_in rs) r.handle (numbered r.number r.active)
    more_seen r lone live =
        let x = there (at heap.live r.handle) live in
        let h = r.handle in
        let mine : by_handle (with_ref r rs) h ≡ Some r = find_more (λ t. t.handle == h) r rs (λ _. lone) ∙ ap (λ b. cond b (Some r) (by_handle rs h)) (to_itself h h refl) in
        changed_is (all_in rs) h (joined rs h x.0) (numbered r.number r.active) (live_in (with_ref r rs) heap.live) (at_live rs heap.live h ∙ ap (option_map (joined rs h)) x.1)
        (live_changed rs (with_ref r rs) heap.live h x.0 j.handles.ascend x.1
        (λ k apart. find_more (λ t. t.handle == k) r rs (λ is. absurd (apart (sym (is_same h k is)))) ∙ ap (λ b. cond b (Some r) (by_handle rs k)) (another h k (λ e. apart (sym e))))
        ∙ ap (λ (o : Live). with_at (live_in rs heap.live) h o) (ap (λ (t : Option Ref). with_triple t x.0) mine ∙ numbered_now (by_handle rs h) r x.0))

  -- ---- a triple turned

  kept_number : (n : ℕ) (active : Bool) (r : Ref) → (triple_turned n active r).number ≡ r.number
  kept_number n active r = elim (r.number == n) as (λ b. (cond b (record { number = r.number; handle = r.handle; active = active }) r).number ≡ r.number) [ true ↦ refl | false ↦ refl ]

  kept_handle : (n : ℕ) (active : Bool) (r : Ref) → (triple_turned n active r).handle ≡ r.handle
  kept_handle n active r = elim (r.number == n) as (λ b. (cond b (record { number = r.number; handle = r.handle; active = active }) r).handle ≡ r.handle) [ true ↦ refl | false ↦ refl ]

  -- an active state changed leaves heap and table in agreement
  pub turned_joined : (n : ℕ) (active : Bool) → AreJoined heap (with_active n active rs)
  turned_joined n active =
      let f = triple_turned n active in
      record {
        handles = j.handles;
        numbers = λ q one.
            let y = one_turned f q rs one in
            let same : q.number ≡ (y.0).number = ap (λ (t : Ref). t.number) y.2 ∙ kept_number n active y.0 in
            find_turned (λ t. t.number == q.number) f (λ t. ap (λ m. m == q.number) (kept_number n active t)) rs
            ∙ ap (option_map f) (ap (by_number rs) same ∙ j.numbers y.0 y.1) ∙ ap Some (sym y.2);
        objects = λ q one.
            let y = one_turned f q rs one in
            let same : q.handle ≡ (y.0).handle = ap (λ (t : Ref). t.handle) y.2 ∙ kept_handle n active y.0 in
            find_turned (λ t. t.handle == q.handle) f (λ t. ap (λ m. m == q.handle) (kept_handle n active t)) rs
            ∙ ap (option_map f) (ap (by_handle rs) same ∙ j.objects y.0 y.1) ∙ ap Some (sym y.2);
        live = λ q one.
            let y = one_turned f q rs one in
            ap (λ k. is_some (at heap.live k)) (ap (λ (t : Ref). t.handle) y.2 ∙ kept_handle n active y.0) ∙ j.live y.0 y.1;
      }

  -- another handle has another number
  numbers_differ : (h k : ℕ) (r q : Ref) → by_handle rs h ≡ Some r → by_handle rs k ≡ Some q → (k ≡ h → ⊥) → q.number ≡ r.number → ⊥
  numbers_differ h k r q has hask apart same =
      let f = of_handle h r has in
      let g = of_handle k q hask in
      let one : q ≡ r = some_same q r (sym (j.numbers q g.0) ∙ ap (by_number rs) same ∙ j.numbers r f.0) in
      apart (sym g.1 ∙ ap (λ (t : Ref). t.handle) one ∙ f.1)

  turned_others : (h k : ℕ) (r : Ref) (active : Bool) → by_handle rs h ≡ Some r → (k ≡ h → ⊥) → by_handle (with_active r.number active rs) k ≡ by_handle rs k
  turned_others h k r active has apart =
      find_turned (λ t. t.handle == k) (triple_turned r.number active) (λ t. ap (λ m. m == k) (kept_handle r.number active t)) rs
      ∙ (elim (by_handle rs k) as (λ o. by_handle rs k ≡ o → option_map (triple_turned r.number active) o ≡ o) [
        | None ↦ λ _. refl
        | Some q ↦ λ hask. ap (λ b. Some (cond b (record { number = q.number; handle = q.handle; active = active }) q)) (another q.number r.number (numbers_differ h k r q has hask apart))
      ]) refl

  -- a triple that is taken out isn't found by its handle
  pub gone_here : (h : ℕ) (r : Ref) → by_handle rs h ≡ Some r → by_handle (without r.number rs) h ≡ None
  gone_here h r has =
      find_gone (λ t. t.handle == h) (λ t. not (t.number == r.number)) rs
      (λ q one is.
      let same : q ≡ r = some_same q r (sym (j.objects q one) ∙ ap (by_handle rs) (is_same q.handle h is) ∙ has) in
      ap not (to_itself q.number r.number (ap (λ (t : Ref). t.number) same)))

  -- and all others are found as before
  pub gone_others : (h k : ℕ) (r : Ref) → by_handle rs h ≡ Some r → (k ≡ h → ⊥) → by_handle (without r.number rs) k ≡ by_handle rs k
  gone_others h k r has apart =
      (elim (by_handle rs k) as (λ o. by_handle rs k ≡ o → by_handle (without r.number rs) k ≡ o) [
        | None ↦ λ none.
            find_gone (λ t. t.handle == k) (λ t. not (t.number == r.number)) rs
            (λ q one is. absurd (none_some q (sym none ∙ ap (by_handle rs) (sym (is_same q.handle k is)) ∙ j.objects q one)))
        | Some q ↦ λ hask.
            find_kept (λ t. t.handle == k) (λ t. not (t.number == r.number)) rs q hask (ap not (another q.number r.number (numbers_differ h k r q has hask apart)))
      ]) refl

  -- a triple taken out leaves heap and table in agreement
  pub gone_joined : (n : ℕ) → AreJoined heap (without n rs)
  gone_joined n =
      let kept = λ (t : Ref). not (t.number == n) in
      record {
        handles = j.handles;
        numbers = λ q one. let o = one_kept kept q rs one in find_kept (λ t. t.number == q.number) kept rs q (j.numbers q o.0) o.1;
        objects = λ q one. let o = one_kept kept q rs one in find_kept (λ t. t.handle == q.handle) kept rs q (j.objects q o.0) o.1;
        live = λ q one. let o = one_kept kept q rs one in j.live q o.0;
      }

  -- the triple of a handle taken out leaves heap and table in agreement
  pub released_joined : (h : ℕ) → AreJoined heap (released rs h)
  released_joined h = elim (by_handle rs h) as (λ t. AreJoined heap (unwrap_or (option_map (λ r. without r.number rs) t) rs)) [ None ↦ j | Some r ↦ gone_joined r.number ]

  module _ (names : List (List ℕ × ℕ)) (settings : Settings) (commits : ℕ) (h : ℕ) where
    -- the change of a table at one handle, seen
    seen_at : (qs : List Ref) (x : Held) (f : Live → Live) → at heap.live h ≡ Some x → ((k : ℕ) → (k ≡ h → ⊥) → by_handle qs k ≡ by_handle rs k) → joined qs h x ≡ f (joined rs h x)
        → memory_in heap qs names settings commits ≡ with_changed (memory_in heap rs names settings commits) h f
    seen_at qs x f has others is =
        changed_is (memory_in heap rs names settings commits) h (joined rs h x) f (live_in qs heap.live) (at_live rs heap.live h ∙ ap (option_map (joined rs h)) has)
        (live_changed rs qs heap.live h x j.handles.ascend has others ∙ ap (λ (o : Live). with_at (live_in rs heap.live) h o) is)

    -- an active state changed, seen from outside
    pub turned_seen : (r : Ref) (active : Bool) → by_handle rs h ≡ Some r
        → memory_in heap (with_active r.number active rs) names settings commits ≡ with_changed (memory_in heap rs names settings commits) h (turned active)
    turned_seen r active has =
        let x = object_of h r has in
        let now : by_handle (with_active r.number active rs) h ≡ Some (record { number = r.number; handle = r.handle; active = active }) =
        find_turned (λ t. t.handle == h) (triple_turned r.number active) (λ t. ap (λ m. m == h) (kept_handle r.number active t)) rs
        ∙ ap (option_map (triple_turned r.number active)) has
        ∙ ap (λ b. Some (cond b (record { number = r.number; handle = r.handle; active = active }) r)) (to_itself r.number r.number refl) in
        seen_at (with_active r.number active rs) x.0 (turned active) x.1 (λ k apart. turned_others h k r active has apart)
        (ap (λ (t : Option Ref). with_triple t x.0) now ∙ sym (ap (λ (t : Option Ref). turned active (with_triple t x.0)) has))

    gone_seen : (r : Ref) → by_handle rs h ≡ Some r
        → memory_in heap (without r.number rs) names settings commits ≡ with_changed (memory_in heap rs names settings commits) h detached
    gone_seen r has =
        let x = object_of h r has in
        seen_at (without r.number rs) x.0 detached x.1 (λ k apart. gone_others h k r has apart)
        (ap (λ (t : Option Ref). with_triple t x.0) (gone_here h r has) ∙ sym (ap (λ (t : Option Ref). detached (with_triple t x.0)) has))

    -- an unsaved object is detached already
    lone_seen : by_handle rs h ≡ None → is_some (at heap.live h) ≡ true
        → memory_in heap rs names settings commits ≡ with_changed (memory_in heap rs names settings commits) h detached
    lone_seen none live =
        let x = there (at heap.live h) live in
        seen_at rs x.0 detached x.1 (λ k apart. refl)
        (ap (λ (t : Option Ref). with_triple t x.0) none ∙ sym (ap (λ (t : Option Ref). detached (with_triple t x.0)) none))

    -- the triple of a live object taken out
    pub released_seen : is_some (at heap.live h) ≡ true
        → memory_in heap (released rs h) names settings commits ≡ with_changed (memory_in heap rs names settings commits) h detached
    released_seen live =
        (elim (by_handle rs h) as (λ t. by_handle rs h ≡ t → memory_in heap (unwrap_or (option_map (λ r. without r.number rs) t) rs) names settings commits ≡ with_changed (memory_in heap rs names settings commits) h detached) [
          | None ↦ λ none. lone_seen none live
          | Some r ↦ λ has. gone_seen r has
        ]) refl
