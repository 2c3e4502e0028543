-- What went, put back.
use Rattle.std.proofs.Common.{◌≡◌, ◌∙◌, ap, ap₂, sym, refl, ℕ, zero, suc, ◌+◌, ◌-◌, ◌<◌, ◌≤◌, true, false, cond, List, [], ◌∷◌, ◌++◌, length, take, drop, get_or, arith, append_assoc, length-append, length-drop}
use borrow.Rule.Slice.PartMut.{mid_of, put_mid}
use Rattle.std.specs.Global.{Vec}
use Rattle.std.specs.Ordering.{is_lt}
use Rattle.std.specs.Cmp.{IsTotalOrder}
use Rattle.std.specs.declared.cmp.Ordering.{Ordering}
use Rattle.std.specs.declared.cmp.Ordering.TheVariants.{Less, Equal, Greater}
use Rattle.std.specs.List.Sorted.{IsPartitionedBy}
use Rattle.std.proofs.lemmas.Bool.{false≢true}
use Rattle.std.proofs.lemmas.List.{with_items_is, take-take, drop-take, drop-drop, length-take-le, take_at, drop_at}
use Rattle.oc_model.specs.Lists.{placed}
use Rattle.oc_chunks.specs.Ascending.{Each, IsAscending}
use Rattle.oc_chunks.specs.Editing.{put_in}
use Rattle.oc_chunks.specs.declared.piece.Part.{Part}
use Rattle.oc_chunks.specs.Pieces.{restored, present}
use Rattle.oc_chunks.specs.Settling.{IsPutBack}
use Rattle.oc_chunks.proofs.Eaches.{partitioned, pairs_more}

module _ {X : Type 0} (cmp : X → X → Ordering) (o : IsTotalOrder cmp) where
  less_is : (r : Ordering) → is_lt r ≡ true → r ≡ Less
  less_is Less it = refl
  less_is Equal it = absurd (false≢true it)
  less_is Greater it = absurd (false≢true it)

  pub below_part : (x : X) (xs : List X) → IsAscending cmp xs → IsPartitionedBy (λ e. is_lt (cmp e x)) xs
  below_part x xs a = partitioned (λ e. is_lt (cmp e x)) xs (pairs_more (λ u v. cmp u v ≡ Less) (λ u v. is_lt (cmp v x) ≡ true → is_lt (cmp u x) ≡ true) xs (λ u v below it. ap is_lt (o.trans u v x below (less_is (cmp v x) it))) a)

  pub placed_gap : (x : X) (xs ys : List X) → Each (λ e. is_lt (cmp e x) ≡ true) xs → Each (λ e. is_lt (cmp e x) ≡ false) ys → placed cmp x (xs ++ ys) ≡ xs ++ x ∷ ys
  placed_gap x [] [] low high = refl
  placed_gap x [] (y ∷ ys) low high = ap (λ b. cond b (y ∷ placed cmp x ys) (x ∷ y ∷ ys)) high.0
  placed_gap x (w ∷ xs) ys low high = ap (λ b. cond b (w ∷ placed cmp x (xs ++ ys)) (x ∷ w ∷ (xs ++ ys))) low.0 ∙ ap (λ l. w ∷ l) (placed_gap x xs ys low.1 high)

  -- a list is in order where it is with an element more
  each_placed : (P : X → Type 0) (x : X) (ys : List X) → Each P (placed cmp x ys) → Each P ys
  each_placed P x [] a = tt
  each_placed P x (y ∷ ys) a = (elim (is_lt (cmp y x)) as (λ b. Each P (cond b (y ∷ placed cmp x ys) (x ∷ y ∷ ys)) → Each P (y ∷ ys)) [
    | true ↦ λ h. (h.0, each_placed P x ys h.1)
    | false ↦ λ h. h.1
  ]) a

  pub ascends_without : (x : X) (ys : List X) → IsAscending cmp (placed cmp x ys) → IsAscending cmp ys
  ascends_without x [] a = tt
  ascends_without x (y ∷ ys) a = (elim (is_lt (cmp y x)) as (λ b. IsAscending cmp (cond b (y ∷ placed cmp x ys) (x ∷ y ∷ ys)) → IsAscending cmp (y ∷ ys)) [
    | true ↦ λ h. (each_placed (λ v. cmp y v ≡ Less) x ys h.0, ascends_without x ys h.1)
    | false ↦ λ h. h.1
  ]) a

  pub ascends_before : (ys xs : List X) → IsAscending cmp (restored cmp xs ys) → IsAscending cmp xs
  ascends_before [] xs a = a
  ascends_before (y ∷ ys) xs a = ascends_without y xs (ascends_before ys (placed cmp y xs) a)

  pub length-placed : (x : X) (ys : List X) → length (placed cmp x ys) ≡ suc (length ys)
  length-placed x [] = refl
  length-placed x (y ∷ ys) = elim (is_lt (cmp y x)) as (λ b. length (cond b (y ∷ placed cmp x ys) (x ∷ y ∷ ys)) ≡ suc (suc (length ys))) [
    | true ↦ ap suc (length-placed x ys)
    | false ↦ refl
  ]

-- ---- the turn

module _ {X : Type 0} where
  one_of : (xs : List X) (n : ℕ) (d : X) → n < length xs → take 1 (drop n xs) ≡ get_or xs n d ∷ []
  one_of [] n d lt = absurd (omega arith)
  one_of (x ∷ xs) zero d lt = refl
  one_of (x ∷ xs) (suc n) d lt = one_of xs n d (omega arith)

  pub gone_of : (xs : List X) (n : ℕ) (d : X) → n < length xs → drop n xs ≡ get_or xs n d ∷ drop (suc n) xs
  gone_of [] n d lt = absurd (omega arith)
  gone_of (x ∷ xs) zero d lt = refl
  gone_of (x ∷ xs) (suc n) d lt = gone_of xs n d (omega arith)

  module _ (xs : List X) (at len : ℕ) (d : X) (le : at ≤ len) (lt : len < length xs) where
    abbrev k : ℕ
    k = len - at

    mid_front : take k (take (suc k) (drop at xs)) ≡ drop at (take len xs)
    mid_front = take-take k (suc k) (drop at xs) (omega arith) ∙ sym (ap (λ n. drop at (take n xs)) {x = len} {y = at + k} (omega arith) ∙ drop-take at k xs)

    mid_last : drop k (take (suc k) (drop at xs)) ≡ get_or xs len d ∷ []
    mid_last = ap (λ n. drop k (take n (drop at xs))) {x = suc k} {y = k + 1} (omega arith) ∙ drop-take k 1 (drop at xs) ∙ ap (take 1) (drop-drop k at xs ∙ ap (λ n. drop n xs) {x = at + k} {y = len} (omega arith)) ∙ one_of xs len d lt

    behind : drop (suc k) (drop at xs) ≡ drop (suc len) xs
    behind = drop-drop (suc k) at xs ∙ ap (λ n. drop n xs) {x = at + suc k} {y = suc len} (omega arith)

    turned : (zs ys : List X) → zs ≡ xs → ys ≡ drop (length (mid_of at (suc len - at) zs) - 1) (mid_of at (suc len - at) zs) ++ take (length (mid_of at (suc len - at) zs) - 1) (mid_of at (suc len - at) zs) → put_mid at (suc len - at) zs ys ≡ take at xs ++ (get_or xs len d ∷ (drop at (take len xs) ++ drop (suc len) xs))
    turned zs ys same turn =
        let count : length (take (suc k) (drop at xs)) ≡ suc k = length-take-le (suc k) (drop at xs) (omega (arith, length-drop at xs)) in
        let n_is : suc len - at ≡ suc k = omega arith in
        let new : ys ≡ get_or xs len d ∷ drop at (take len xs) =
        turn ∙ ap (λ l. drop (length (mid_of at (suc len - at) l) - 1) (mid_of at (suc len - at) l) ++ take (length (mid_of at (suc len - at) l) - 1) (mid_of at (suc len - at) l)) same
        ∙ ap (λ n. drop (length (mid_of at n xs) - 1) (mid_of at n xs) ++ take (length (mid_of at n xs) - 1) (mid_of at n xs)) n_is
        ∙ ap (λ n. drop n (mid_of at (suc k) xs) ++ take n (mid_of at (suc k) xs)) {y = k} (omega (arith, count))
        ∙ ap₂ (λ a b. a ++ b) mid_last mid_front in
        ap (λ l. take at l ++ (ys ++ drop (suc len - at) (drop at l))) same ∙ ap (λ n. take at xs ++ (ys ++ drop n (drop at xs))) n_is ∙ ap₂ (λ a b. take at xs ++ (a ++ b)) new behind

    long : length (take at xs ++ (get_or xs len d ∷ (drop at (take len xs) ++ drop (suc len) xs))) ≡ length xs
    long = omega (arith, length-append (take at xs) (get_or xs len d ∷ (drop at (take len xs) ++ drop (suc len) xs)), length-append (drop at (take len xs)) (drop (suc len) xs), length-take-le at xs (omega arith), length-drop at (take len xs), length-take-le len xs (omega arith), length-drop (suc len) xs)

    -- the items once the part is turned, as a `Vec` shows them
    pub put_back_items : (v : Vec X) (zs ys : List X) → v.items ≡ xs → v.len ≡ length v.items → zs ≡ xs → ys ≡ drop (length (mid_of at (suc len - at) zs) - 1) (mid_of at (suc len - at) zs) ++ take (length (mid_of at (suc len - at) zs) - 1) (mid_of at (suc len - at) zs) → take v.len (put_mid at (suc len - at) zs ys ++ drop (length (put_mid at (suc len - at) zs ys)) v.items) ≡ take at xs ++ (get_or xs len d ∷ (drop at (take len xs) ++ drop (suc len) xs))
    put_back_items v zs ys items count same turn =
        let is = turned zs ys same turn in
        with_items_is v (put_mid at (suc len - at) zs ys) (ap length is ∙ long ∙ sym (ap length items) ∙ sym count) ∙ is

    pub now_there : take (suc len) (take at xs ++ (get_or xs len d ∷ (drop at (take len xs) ++ drop (suc len) xs))) ≡ put_in at (get_or xs len d) (take len xs)
    now_there =
        ap (take (suc len)) (sym (append_assoc (take at xs) (get_or xs len d ∷ drop at (take len xs)) (drop (suc len) xs)))
        ∙ take_at (take at xs ++ get_or xs len d ∷ drop at (take len xs)) (drop (suc len) xs) (suc len) (omega (arith, length-append (take at xs) (get_or xs len d ∷ drop at (take len xs)), length-take-le at xs (omega arith), length-drop at (take len xs), length-take-le len xs (omega arith)))
        ∙ ap (λ l. l ++ get_or xs len d ∷ drop at (take len xs)) (sym (take-take at len xs le))

    pub now_gone : drop (suc len) (take at xs ++ (get_or xs len d ∷ (drop at (take len xs) ++ drop (suc len) xs))) ≡ drop (suc len) xs
    now_gone =
        ap (drop (suc len)) (sym (append_assoc (take at xs) (get_or xs len d ∷ drop at (take len xs)) (drop (suc len) xs)))
        ∙ drop_at (take at xs ++ get_or xs len d ∷ drop at (take len xs)) (drop (suc len) xs) (suc len) (omega (arith, length-append (take at xs) (get_or xs len d ∷ drop at (take len xs)), length-take-le at xs (omega arith), length-drop at (take len xs), length-take-le len xs (omega arith)))

    pub now_long : length (take at xs ++ (get_or xs len d ∷ (drop at (take len xs) ++ drop (suc len) xs))) ≡ length xs
    now_long = long

    pub put_back_now : (v : Vec X) (zs ys : List X) (m : ℕ) → m ≡ suc len → v.items ≡ xs → v.len ≡ length v.items → zs ≡ xs → ys ≡ drop (length (mid_of at (m - at) zs) - 1) (mid_of at (m - at) zs) ++ take (length (mid_of at (m - at) zs) - 1) (mid_of at (m - at) zs) → take v.len (put_mid at (m - at) zs ys ++ drop (length (put_mid at (m - at) zs ys)) v.items) ≡ take at xs ++ (get_or xs len d ∷ (drop at (take len xs) ++ drop (suc len) xs))
    put_back_now v zs ys m is items count same turn =
        ap (λ k. take v.len (put_mid at (k - at) zs ys ++ drop (length (put_mid at (k - at) zs ys)) v.items)) is
        ∙ put_back_items v zs ys items count same (turn ∙ ap (λ k. drop (length (mid_of at (k - at) zs) - 1) (mid_of at (k - at) zs) ++ take (length (mid_of at (k - at) zs) - 1) (mid_of at (k - at) zs)) is)

-- the part with the latest that went put back
pub is_put_back : {X : Type 0} (cmp : X → X → Ordering) (old new : Part X) (at : ℕ) → at ≤ old.len → old.len < length old.items.items → ((d : X) → placed cmp (get_or old.items.items old.len d) (present old) ≡ put_in at (get_or old.items.items old.len d) (present old)) → ((d : X) → new.items.items ≡ take at old.items.items ++ (get_or old.items.items old.len d ∷ (drop at (present old) ++ drop (suc old.len) old.items.items))) → new.len ≡ suc old.len → new.number ≡ old.number → new.changed ≡ old.changed → IsPutBack cmp old new
is_put_back {X} cmp old new at le lt place items len number changed = of_items old.items.items refl
  where
    of_items : (l : List X) → old.items.items ≡ l → IsPutBack cmp old new
    of_items [] is = absurd (omega (arith, ap length is))
    of_items (d ∷ l) is = record {
      it = get_or old.items.items old.len d;
      rest = drop (suc old.len) old.items.items;
      gone_is = gone_of old.items.items old.len d lt;
      present_is = ap₂ take len (items d) ∙ now_there old.items.items at old.len d le lt ∙ sym (place d);
      gone_now = ap₂ drop len (items d) ∙ now_gone old.items.items at old.len d le lt;
      len = len;
      long = ap length (items d) ∙ now_long old.items.items at old.len d le lt;
      number = number;
      changed = changed;
    }
