-- Objects in a row, looked up, put in and taken away by their handles.
use Rattle.std.proofs.Common.{◌≡◌, ℕ, zero, suc, ◌+◌, ◌<◌, ◌≤◌, true, false, cond, List, [], ◌∷◌, ◌++◌, length, take, filter, slice_get, slice_set, get_or, Some, None, is_some, refl, sym, ap, ◌∙◌, arith, nat_cmp, nat_lt, true≢false, ◌&&◌, ◌⊎◌, inl, inr, ◌-◌, unwrap_or, option_map, length-append}
use Rattle.std.specs.Ordering.{is_eq, is_lt}
use Rattle.std.specs.declared.cmp.Ordering.TheVariants.{Less, Equal, Greater}
use Rattle.std.specs.Cmp.{nat_cmp_is}
use Rattle.std.specs.FinMap.{put, is_sorted}
use Rattle.std.specs.FinMap.Entries.{by_order, below_all}
use Rattle.std.specs.List.{enumerate_from}
use Rattle.std.proofs.lemmas.Bool.Decides.{nat_tests}
use Rattle.std.proofs.lemmas.List.{length-set, length-take-le}
use Rattle.oc_model.specs.declared.value.Entry.{Entry}
use Rattle.oc_model.specs.Maps.{at, with_at}
use Rattle.oc_heap.specs.declared.heap.Live.{Live}
use Rattle.oc_heap.specs.Heaps.{HasHandles, with_new, refilled, with_entries, back_to}
use Rattle.oc_heap.specs.Rows.{objects_of, KeepsHandles}

less : (x y : ℕ) → x < y → nat_cmp x y ≡ Less
less x y h = sym (nat_cmp_is x y Less h)

equal : (x y : ℕ) → x ≡ y → nat_cmp x y ≡ Equal
equal x y h = sym (nat_cmp_is x y Equal h)

greater : (x y : ℕ) → y < x → nat_cmp x y ≡ Greater
greater x y h = sym (nat_cmp_is x y Greater h)

module _ {X : Type 0} where
  -- nothing is found under a handle below the first
  pub at_below : (f k : ℕ) (xs : List X) → k < f → at (enumerate_from f xs) k ≡ None
  at_below f k [] h = refl
  at_below f k (x ∷ xs) h = ap (λ o. cond (is_eq o) (Some x) (at (enumerate_from (f + 1) xs) k)) (less k f h) ∙ at_below (f + 1) k xs (omega arith)

  pub at_place : (f i k : ℕ) (xs : List X) → k ≡ f + i → at (enumerate_from f xs) k ≡ slice_get xs i
  at_place f i k [] h = refl
  at_place f zero k (x ∷ xs) h = ap (λ o. cond (is_eq o) (Some x) (at (enumerate_from (f + 1) xs) k)) (equal k f (omega arith))
  at_place f (suc i) k (x ∷ xs) h = ap (λ o. cond (is_eq o) (Some x) (at (enumerate_from (f + 1) xs) k)) (greater k f (omega arith)) ∙ at_place (f + 1) i k xs (omega arith)

  pub put_place : (f i k : ℕ) (x : X) (xs : List X) → k ≡ f + i → i < length xs → put nat_cmp k x (enumerate_from f xs) ≡ enumerate_from f (slice_set xs i x)
  put_place f i k x [] e h = absurd (omega arith)
  put_place f zero k x (y ∷ ys) e h =
      ap (λ o. by_order o ((k, x) ∷ (f, y) ∷ enumerate_from (f + 1) ys) ((f, x) ∷ enumerate_from (f + 1) ys) ((f, y) ∷ put nat_cmp k x (enumerate_from (f + 1) ys))) (equal k f (omega arith))
  put_place f (suc i) k x (y ∷ ys) e h =
      ap (λ o. by_order o ((k, x) ∷ (f, y) ∷ enumerate_from (f + 1) ys) ((f, x) ∷ enumerate_from (f + 1) ys) ((f, y) ∷ put nat_cmp k x (enumerate_from (f + 1) ys))) (greater k f (omega arith))
      ∙ ap (λ es. (f, y) ∷ es) (put_place (f + 1) i k x ys (omega arith) (omega arith))

  pub put_last : (f k : ℕ) (x : X) (xs : List X) → k ≡ f + length xs → put nat_cmp k x (enumerate_from f xs) ≡ enumerate_from f (xs ++ x ∷ [])
  put_last f k x [] e = let q : k ≡ f = omega arith in ap (λ n. (n, x) ∷ []) q
  put_last f k x (y ∷ ys) e =
      ap (λ o. by_order o ((k, x) ∷ (f, y) ∷ enumerate_from (f + 1) ys) ((f, x) ∷ enumerate_from (f + 1) ys) ((f, y) ∷ put nat_cmp k x (enumerate_from (f + 1) ys))) (greater k f (omega arith))
      ∙ ap (λ es. (f, y) ∷ es) (put_last (f + 1) k x ys (omega arith))

  pub kept_below : (f n k : ℕ) (xs : List X) → k ≡ f + n → filter (λ (e : ℕ × X). nat_lt e.0 k) (enumerate_from f xs) ≡ enumerate_from f (take n xs)
  kept_below f zero k [] e = refl
  kept_below f (suc n) k [] e = refl
  kept_below f zero k (x ∷ xs) e = none_below f k (x ∷ xs) (omega arith)
    where
      none_below : (f k : ℕ) (xs : List X) → k ≤ f → filter (λ (e : ℕ × X). nat_lt e.0 k) (enumerate_from f xs) ≡ []
      none_below f k [] h = refl
      none_below f k (x ∷ xs) h =
          let no : nat_lt f k ≡ false = grind (arith, nat_tests) in
          ap (λ b. cond b ((f, x) ∷ filter (λ (e : ℕ × X). nat_lt e.0 k) (enumerate_from (f + 1) xs)) (filter (λ (e : ℕ × X). nat_lt e.0 k) (enumerate_from (f + 1) xs))) no
          ∙ none_below (f + 1) k xs (omega arith)
  kept_below f (suc n) k (x ∷ xs) e =
      let yes : nat_lt f k ≡ true = grind (arith, nat_tests) in
      ap (λ b. cond b ((f, x) ∷ filter (λ (e : ℕ × X). nat_lt e.0 k) (enumerate_from (f + 1) xs)) (filter (λ (e : ℕ × X). nat_lt e.0 k) (enumerate_from (f + 1) xs))) yes
      ∙ ap (λ es. (f, x) ∷ es) (kept_below (f + 1) n k xs (omega arith))

  all_above : (f k : ℕ) (xs : List X) → k < f → below_all nat_cmp k (enumerate_from f xs) ≡ true
  all_above f k [] h = refl
  all_above f k (x ∷ xs) h = ap (λ o. is_lt o && below_all nat_cmp k (enumerate_from (f + 1) xs)) (less k f h) ∙ all_above (f + 1) k xs (omega arith)

  pub sorted_row : (f : ℕ) (xs : List X) → is_sorted nat_cmp (enumerate_from f xs) ≡ true
  sorted_row f [] = refl
  sorted_row f (x ∷ xs) = ap (λ b. b && is_sorted nat_cmp (enumerate_from (f + 1) xs)) (all_above (f + 1) f xs (omega arith)) ∙ sorted_row (f + 1) xs

  is_some_get : (xs : List X) (i : ℕ) → i < length xs → is_some (slice_get xs i) ≡ true
  is_some_get [] i h = absurd (omega arith)
  is_some_get (x ∷ xs) zero h = refl
  is_some_get (x ∷ xs) (suc i) h = is_some_get xs i (omega arith)

  some_get : (xs : List X) (i : ℕ) → is_some (slice_get xs i) ≡ true → i < length xs
  some_get [] i h = absurd (true≢false (sym h))
  some_get (x ∷ xs) zero h = omega arith
  some_get (x ∷ xs) (suc i) h = let lt : i < length xs = some_get xs i h in omega arith

  -- what is live is found in the row
  pub live_place : (f k : ℕ) (xs : List X) → is_some (at (enumerate_from f xs) k) ≡ true → (f ≤ k) × (k < f + length xs)
  live_place f k xs h = elim (nat_order f k) [
    | inl below ↦ absurd (true≢false (sym h ∙ ap is_some (at_below f k xs below)))
    | inr e ↦ let lt : e.0 < length xs = some_get xs e.0 (sym (ap is_some (at_place f e.0 k xs e.1)) ∙ h) in let q : k ≡ f + e.0 = e.1 in (omega arith, omega arith)
  ]
    where
      nat_order : (f k : ℕ) → (k < f) ⊎ ((i : ℕ) × (k ≡ f + i))
      nat_order zero k = inr (k, omega arith)
      nat_order (suc f) zero = inl (omega arith)
      nat_order (suc f) (suc k) = elim (nat_order f k) [ inl h ↦ inl (omega arith) | inr e ↦ let q : k ≡ f + e.0 = e.1 in inr (e.0, omega arith) ]

  pub place_live : (f k : ℕ) (xs : List X) → f ≤ k → k < f + length xs → is_some (at (enumerate_from f xs) k) ≡ true
  place_live f k xs h lt = ap is_some (at_place f (k - f) k xs (omega arith)) ∙ is_some_get xs (k - f) (omega arith)

-- ---- the heap

pub handles_of : (f : ℕ) (os : List Live) → KeepsHandles f os → HasHandles (objects_of f os)
handles_of f os keeps =
    record {
      starts = keeps.starts;
      order = omega arith;
      ascend = sorted_row f os;
      live = λ k. (live_place f k os, λ h. place_live f k os h.0 h.1);
    }

get_at : (os : List Live) (i : ℕ) (o : Live) → i < length os → o ≡ get_or os i o → slice_get os i ≡ Some o
get_at [] i o h e = absurd (omega arith)
get_at (p ∷ os) zero o h e = ap Some (sym e)
get_at (p ∷ os) (suc i) o h e = get_at os i o (omega arith) e

pub refilled_at : (f k i : ℕ) (os : List Live) (o : Live) (g : List Entry → List Entry) (es : List Entry)
    → k ≡ f + i → i < length os → o ≡ get_or os i o → es ≡ g o.entries
    → objects_of f (slice_set os i (record { class = o.class; entries = es })) ≡ with_entries (objects_of f os) k g
refilled_at f k i os o g es e lt is q =
    let new : Live = record { class = o.class; entries = es } in
    (λ j. record { live = sym (put_place f i k new os e lt) j; first = f; next = f + length-set os i new j })
    ∙ ap (λ (ds : List Entry). record (objects_of f os) { live = with_at (enumerate_from f os) k (record { class = o.class; entries = ds }) }) q
    ∙ sym (ap (λ t. unwrap_or (option_map (λ (p : Live). record (objects_of f os) { live = with_at (enumerate_from f os) k (refilled g p) }) t) (objects_of f os)) (at_place f i k os e ∙ get_at os i o lt is))

pub made : (f c : ℕ) (os ps : List Live) → ps ≡ os ++ (record { class = c; entries = [] }) ∷ [] → objects_of f ps ≡ with_new (objects_of f os) c
made f c os ps q =
    let o : Live = record { class = c; entries = [] } in
    (λ i. record { live = (ap (enumerate_from f) q ∙ sym (put_last f (f + length os) o os refl)) i; first = f; next = next i })
  where
    next : f + length ps ≡ f + length os + 1
    next = omega (arith, ap length q, length-append os ((record { class = c; entries = [] }) ∷ []))

pub undone : (f k n : ℕ) (os ps : List Live) → k ≡ f + n → n ≤ length os → ps ≡ take n os → objects_of f ps ≡ back_to (objects_of f os) k
undone f k n os ps e le q =
    (λ i. record { live = (ap (enumerate_from f) q ∙ sym (kept_below f n k os e)) i; first = f; next = next i })
  where
    next : f + length ps ≡ k
    next = omega (arith, ap length q, length-take-le n os le)
