-- Live objects that are made one after another, and taken away again.
use Rattle.std.proofs.Common.{◌≡◌, ℕ, ◌+◌, ◌<◌, ◌≤◌, Bool, true, false, cond, nat_lt, ◌==◌, List, [], ◌∷◌, drop, filter, find, get_or, length, Option, None, Some, is_some, is_none, option_map, unwrap_or, refl, sym, ap, ◌∙◌, arith, add-one, nat_cmp}
use Rattle.std.specs.Ordering.{is_eq}
use Rattle.std.specs.declared.cmp.Ordering.TheVariants.{Less, Equal, Greater}
use Rattle.std.specs.Cmp.{nat_cmp_total, unsigned_tied}
use Rattle.std.specs.FinMap.Entries.{by_order, find-put, is_sorted-put}
use Rattle.std.proofs.lemmas.Bool.Decides.{nat_tests}
use Rattle.std.proofs.lemmas.Cmp.{tied_itself}
use Rattle.std.proofs.lemmas.Map.Lookups.{exact_unsigned}
use Rattle.std.proofs.Math.Seq.{drop-cons}
use Rattle.oc_model.specs.Maps.{Map, at, with_at}
use Rattle.oc_model.specs.Nodes.{is_number}
use Rattle.oc_model.specs.States.{Live}
use Rattle.oc_live.specs.Memories.{Memory, LiveFrom, back_to, handle_in, with_new, with_changed}
use Rattle.oc_live.proofs.Tables.{is_same, to_itself}
use Rattle.oc_live.proofs.Joining.{told, untold}
use Rattle.oc_live.proofs.Keeping.{below, not_below}
use Rattle.oc_container.specs.Woken.{stub, with_stub, with_woken, HasMore}

-- ---- maps

module _ {X : Type 0} where
  -- what a map has at a key after another was put in
  pub found_put : (q k : ℕ) (x : X) (xs : Map X) → at (with_at xs k x) q ≡ cond (q == k) (Some x) (at xs q)
  found_put q k x xs = find-put nat_cmp nat_cmp_total q k x xs ∙ ap (λ b. cond b (Some x) (at xs q)) (unsigned_tied q k)

  -- at the key itself it is there
  pub found_there : (k : ℕ) (x : X) (xs : Map X) → at (with_at xs k x) k ≡ Some x
  found_there k x xs = found_put k k x xs ∙ ap (λ b. cond b (Some x) (at xs k)) (to_itself k k refl)

  -- a second one at the key takes the place of the first
  pub put_twice : (k : ℕ) (x y : X) (xs : Map X) → with_at (with_at xs k x) k y ≡ with_at xs k y
  put_twice k x y [] = ap (λ o. by_order o ((k, y) ∷ (k, x) ∷ []) ((k, y) ∷ []) ((k, x) ∷ (k, y) ∷ [])) (tied_itself nat_cmp_total k)
  put_twice k x y (e ∷ xs) =
      (elim (nat_cmp k e.0) as (λ o. nat_cmp k e.0 ≡ o → with_at (by_order o ((k, x) ∷ e ∷ xs) ((e.0, x) ∷ xs) (e ∷ with_at xs k x)) k y ≡ by_order o ((k, y) ∷ e ∷ xs) ((e.0, y) ∷ xs) (e ∷ with_at xs k y)) [
        | Less ↦ λ _. ap (λ o. by_order o ((k, y) ∷ (k, x) ∷ e ∷ xs) ((k, y) ∷ e ∷ xs) ((k, x) ∷ with_at (e ∷ xs) k y)) (tied_itself nat_cmp_total k)
        | Equal ↦ λ is. ap (λ o. by_order o ((k, y) ∷ (e.0, x) ∷ xs) ((e.0, y) ∷ xs) ((e.0, x) ∷ with_at xs k y)) is
        | Greater ↦ λ is. ap (λ o. by_order o ((k, y) ∷ e ∷ with_at xs k x) ((e.0, y) ∷ with_at xs k x) (e ∷ with_at (with_at xs k x) k y)) is ∙ ap (λ r. e ∷ r) (put_twice k x y xs)
      ]) refl

  -- the entries under keys below the number
  abbrev pub under : ℕ → Map X → Map X
  under h xs = filter (λ (e : ℕ × X). nat_lt e.0 h) xs

  -- one put in at the number isn't among them
  pub under_put : (h : ℕ) (x : X) (xs : Map X) → under h (with_at xs h x) ≡ under h xs
  under_put h x [] = ap (λ b. cond b ((h, x) ∷ []) []) (not_below h h (omega arith))
  under_put h x (e ∷ xs) =
      (elim (nat_cmp h e.0) as (λ o. nat_cmp h e.0 ≡ o → under h (by_order o ((h, x) ∷ e ∷ xs) ((e.0, x) ∷ xs) (e ∷ with_at xs h x)) ≡ under h (e ∷ xs)) [
        | Less ↦ λ _. ap (λ b. cond b ((h, x) ∷ under h (e ∷ xs)) (under h (e ∷ xs))) (not_below h h (omega arith))
        | Equal ↦ λ is.
            let out : nat_lt e.0 h ≡ false = not_below e.0 h (same_below (exact_unsigned h e.0 is)) in
            ap (λ b. cond b ((e.0, x) ∷ under h xs) (under h xs)) out ∙ sym (ap (λ b. cond b (e ∷ under h xs) (under h xs)) out)
        | Greater ↦ λ _. ap (λ r. cond (nat_lt e.0 h) (e ∷ r) r) (under_put h x xs)
      ]) refl
    where
      same_below : h ≡ e.0 → h ≤ e.0
      same_below is = omega (arith, is)

  -- those below the smaller number are among those below the greater
  pub under_twice : (h k : ℕ) (xs : Map X) → h ≤ k → under h (under k xs) ≡ under h xs
  under_twice h k [] le = refl
  under_twice h k (e ∷ xs) le =
      (elim (nat_lt e.0 k) as (λ b. nat_lt e.0 k ≡ b → under h (cond b (e ∷ under k xs) (under k xs)) ≡ cond (nat_lt e.0 h) (e ∷ under h xs) (under h xs)) [
        | true ↦ λ _. ap (λ r. cond (nat_lt e.0 h) (e ∷ r) r) (under_twice h k xs le)
        | false ↦ λ out. under_twice h k xs le ∙ sym (ap (λ b. cond b (e ∷ under h xs) (under h xs)) (further out))
      ]) refl
    where
      further : nat_lt e.0 k ≡ false → nat_lt e.0 h ≡ false
      further out = grind (arith, nat_tests, le)

  -- where all keys are below the number, these are all
  pub under_all : (h : ℕ) (xs : Map X) → ((k : ℕ) → is_some (at xs k) ≡ true → k < h) → under h xs ≡ xs
  under_all h [] less = refl
  under_all h (e ∷ xs) less =
      ap (λ b. cond b (e ∷ under h xs) (under h xs)) (below e.0 h (less e.0 here)) ∙ ap (λ r. e ∷ r) (under_all h xs (λ k is. less k (later k is)))
    where
      here : is_some (at (e ∷ xs) e.0) ≡ true
      here = ap (λ o. is_some (cond (is_eq o) (Some e.1) (at xs e.0))) (tied_itself nat_cmp_total e.0)

      later : (k : ℕ) → is_some (at xs k) ≡ true → is_some (at (e ∷ xs) k) ≡ true
      later k is = elim (is_eq (nat_cmp k e.0)) as (λ b. is_some (cond b (Some e.1) (at xs k)) ≡ true) [ true ↦ refl | false ↦ is ]

-- ---- memory

-- nothing more
pub no_more : (k : Memory) → HasMore k k
no_more k =
    record {
      later = omega arith;
      from = λ first from. from;
      back = λ first from. ap (λ (l : Map Live). record k { live = l }) (under_all k.next_handle k.live (λ h is. ((from.live h).0 is).1));
    }

-- more, and then more
pub more_still : (a b c : Memory) → HasMore a b → HasMore b c → HasMore a c
more_still a b c one two =
    record {
      later = omega (arith, one.later, two.later);
      from = λ first from. two.from first (one.from first from);
      back = λ first from.
          ap (λ (l : Map Live). record c { live = l; next_handle = a.next_handle }) (sym (under_twice a.next_handle b.next_handle c.live one.later))
          ∙ ap (λ (k : Memory). back_to k a.next_handle) (two.back first (one.from first from)) ∙ one.back first from;
    }

-- one object more
pub one_more : (k : Memory) (o : Live) → HasMore k (with_new k o)
one_more k o =
    record {
      later = omega arith;
      from = λ first from. record {
        ascend = untold _ (is_sorted-put nat_cmp nat_cmp_total k.next_handle o k.live (told k.live from.ascend));
        starts = from.starts;
        order = omega (arith, from.order);
        live = λ h. (among first from h, within first from h);
      };
      back = λ first from.
          ap (λ (l : Map Live). record k { live = l }) (under_put k.next_handle o k.live ∙ under_all k.next_handle k.live (λ h is. ((from.live h).0 is).1));
    }
  where
    among : (first : ℕ) → LiveFrom k first → (h : ℕ) → is_some (at (with_at k.live k.next_handle o) h) ≡ true → (first ≤ h) × (h < k.next_handle + 1)
    among first from h is =
        (elim (h == k.next_handle) as (λ b. (h == k.next_handle) ≡ b → is_some (cond b (Some o) (at k.live h)) ≡ true → (first ≤ h) × (h < k.next_handle + 1)) [
          | true ↦ λ here _. let same : h ≡ k.next_handle = is_same h k.next_handle here in let order : first ≤ k.next_handle = from.order in (omega arith, omega arith)
          | false ↦ λ _ there. let w = (from.live h).0 there in let low : first ≤ h = w.0 in let high : h < k.next_handle = w.1 in (omega arith, omega arith)
        ]) refl (sym (ap is_some (found_put h k.next_handle o k.live)) ∙ is)

    within : (first : ℕ) → LiveFrom k first → (h : ℕ) → (first ≤ h) × (h < k.next_handle + 1) → is_some (at (with_at k.live k.next_handle o) h) ≡ true
    within first from h w =
        ap is_some (found_put h k.next_handle o k.live)
        ∙ (elim (h == k.next_handle) as (λ b. (h == k.next_handle) ≡ b → is_some (cond b (Some o) (at k.live h)) ≡ true) [
          | true ↦ λ _. refl
          | false ↦ λ apart. (from.live h).1 (w.0, before apart w.1)
        ]) refl
      where
        before : (h == k.next_handle) ≡ false → h < k.next_handle + 1 → h < k.next_handle
        before apart less = grind (arith, nat_tests)

-- the new object is under its handle
pub new_there : (k : Memory) (o : Live) → at (with_new k o).live k.next_handle ≡ Some o
new_there k o = found_there k.next_handle o k.live

-- the new object changed is another new one
pub new_changed : (k : Memory) (o : Live) (change : Live → Live) → with_changed (with_new k o) k.next_handle change ≡ with_new k (change o)
new_changed k o change =
    ap (λ (t : Option Live). unwrap_or (option_map (λ (p : Live). record (with_new k o) { live = with_at (with_new k o).live k.next_handle (change p) }) t) (with_new k o)) (new_there k o)
    ∙ ap (λ (l : Map Live). record k { live = l; next_handle = k.next_handle + 1 }) (put_twice k.next_handle o (change o) k.live)

-- the same, where the new memory and the handle are known by equations
pub new_at : (k new : Memory) (o : Live) (h : ℕ) → new ≡ with_new k o → h ≡ k.next_handle → at new.live h ≡ Some o
new_at k new o h is next = (λ i. at (is i).live (next i)) ∙ new_there k o

pub changed_at : (k new last : Memory) (o : Live) (h : ℕ) (change : Live → Live) → new ≡ with_new k o → h ≡ k.next_handle → last ≡ with_changed new h change → last ≡ with_new k (change o)
changed_at k new last o h change is next turned = turned ∙ (λ i. with_changed (is i) (next i) change) ∙ new_changed k o change

-- a new object without a number has none of the numbers
pub none_numbered : (k : Memory) (o : Live) (n : ℕ) → o.number ≡ None → handle_in k.live n ≡ None → handle_in (with_new k o).live n ≡ None
none_numbered k o n bare free = ap (option_map (λ (e : ℕ × Live). e.0)) (still (k.live) (nothing (find (λ (e : ℕ × Live). is_number n (e.1).number) k.live) free))
  where
    nothing : (t : Option (ℕ × Live)) → option_map (λ (e : ℕ × Live). e.0) t ≡ None → t ≡ None
    nothing None e = refl
    nothing (Some x) e = absurd (cc)

    unnumbered : is_number n o.number ≡ false
    unnumbered = ap (is_number n) bare

    first_out : (b : Bool) (e : ℕ × Live) (r : Option (ℕ × Live)) → cond b (Some e) r ≡ None → (b ≡ false) × (r ≡ None)
    first_out true e r h = absurd (cc)
    first_out false e r h = (refl, h)

    still : (l : Map Live) → find (λ (e : ℕ × Live). is_number n (e.1).number) l ≡ None → find (λ (e : ℕ × Live). is_number n (e.1).number) (with_at l k.next_handle o) ≡ None
    still [] none = ap (λ b. cond b (Some (k.next_handle, o)) None) unnumbered
    still (e ∷ l) none =
        let out = first_out (is_number n (e.1).number) e (find (λ (d : ℕ × Live). is_number n (d.1).number) l) none in
        elim (nat_cmp k.next_handle e.0) as (λ t. find (λ (d : ℕ × Live). is_number n (d.1).number) (by_order t ((k.next_handle, o) ∷ e ∷ l) ((e.0, o) ∷ l) (e ∷ with_at l k.next_handle o)) ≡ None) [
          | Less ↦ ap (λ b. cond b (Some (k.next_handle, o)) (find (λ (d : ℕ × Live). is_number n (d.1).number) (e ∷ l))) unnumbered ∙ none
          | Equal ↦ ap (λ b. cond b (Some (e.0, o)) (find (λ (d : ℕ × Live). is_number n (d.1).number) l)) unnumbered ∙ out.1
          | Greater ↦ ap (λ b. cond b (Some e) (find (λ (d : ℕ × Live). is_number n (d.1).number) (with_at l k.next_handle o))) out.0 ∙ still l out.1
        ]

-- ---- one number

-- where it has no object in memory
pub woken_new : (k : Memory) (n c : ℕ) → handle_in k.live n ≡ None → with_woken k n (Some c) ≡ with_new k (stub n c)
woken_new k n c free = ap (λ t. cond (is_none t) (with_new k (stub n c)) k) free

-- where it has one
pub woken_there : (k : Memory) (n : ℕ) (class : Option ℕ) → is_some (handle_in k.live n) ≡ true → with_woken k n class ≡ k
woken_there k n class has = ap (λ b. cond b (with_stub k n class) k) (some_is (handle_in k.live n) has)
  where
    some_is : (t : Option ℕ) → is_some t ≡ true → is_none t ≡ false
    some_is None h = absurd (cc)
    some_is (Some x) h = refl

-- what isn't there is none
pub none_is : (t u : Option ℕ) (b : Bool) → t ≡ u → b ≡ is_some t → b ≡ false → u ≡ None
none_is t None b same is off = refl
none_is t (Some x) b same is off = absurd (cc)

-- the numbers from a place on
pub numbers_from : (ns : List ℕ) (i : ℕ) → i < length ns → drop i ns ≡ get_or ns i 0 ∷ drop (i + 1) ns
numbers_from ns i less = rw add-one (drop-cons ns i 0 less)
