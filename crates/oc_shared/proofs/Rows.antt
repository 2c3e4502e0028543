-- Where a key stands among rows that ascend, and what a change there leaves.
use Rattle.std.proofs.Common.{◌≡◌, ℕ, zero, suc, ◌+◌, ◌≤◌, ◌<◌, Bool, true, false, not, cond, ◌&&◌, T, [], ◌∷◌, ◌++◌, length, Some, None, refl, sym, ap, subst, ◌∙◌, arith, true≢false, length-append, ◌-◌}
use Rattle.std.specs.Prelude.{slice_get, slice_set, insert, remove}
use Rattle.std.proofs.Common.{Ordering}
use Rattle.std.proofs.Common.{Less, Equal, Greater}
use Rattle.std.specs.Ordering.{nat_cmp, is_eq, is_gt, is_lt, ordering_reverse}
use Rattle.std.specs.Cmp.Lexicographic.{slice_cmp, nat_list_cmp_total}
use Rattle.std.specs.FinMap.{slice_cmp-IsAntisymmetric, nat_cmp-IsAntisymmetric}
use Rattle.std.specs.FinMap.Entries.{by_order, below_all, is_sorted, is_sorted-put, is_sorted-where_key}
use Rattle.std.proofs.lemmas.Bool.{and_parts}
use Rattle.oc_shared.specs.Tables.{Key, Rows, is_same, value_at, with_value, without_key, IsAscending, count_before, has_key, value_in}

abbrev order : Key → Key → Ordering
order a b = slice_cmp nat_cmp a b

-- ---- the order of keys

less : (o : Ordering) → is_lt o ≡ true → o ≡ Less
less Less e = refl
less Equal e = absurd (true≢false (sym e))
less Greater e = absurd (true≢false (sym e))

greater : (o : Ordering) → is_gt o ≡ true → o ≡ Greater
greater Less e = absurd (true≢false (sym e))
greater Equal e = absurd (true≢false (sym e))
greater Greater e = refl

equal : (o : Ordering) → is_eq o ≡ true → o ≡ Equal
equal Less e = absurd (true≢false (sym e))
equal Equal e = refl
equal Greater e = absurd (true≢false (sym e))

as_test : (b : Bool) → b ≡ true → T b
as_test b e = subst T (sym e) tt

from_test : (b : Bool) → T b → b ≡ true
from_test true t = refl
from_test false t = absurd t

-- a key behind another is behind what is before that
behind_more : (key m e : Key) → is_gt (order key m) ≡ true → order e m ≡ Less → is_gt (order key e) ≡ true
behind_more key m e h lt =
    let back : order m key ≡ Less = nat_list_cmp_total.antisymm m key ∙ ap ordering_reverse (greater (order key m) h) in
    ap is_gt (nat_list_cmp_total.antisymm key e ∙ ap ordering_reverse (nat_list_cmp_total.trans e m key lt back))

module _ {V : Type 0} where
  below_more : (x y : Key) (es : Rows V) → order x y ≡ Less → below_all (slice_cmp nat_cmp) y es ≡ true → below_all (slice_cmp nat_cmp) x es ≡ true
  below_more x y [] lt h = refl
  below_more x y (e ∷ es) lt h =
      let parts = and_parts (is_lt (order y e.0)) (below_all (slice_cmp nat_cmp) y es) h in
      let here : order x e.0 ≡ Less = nat_list_cmp_total.trans x y e.0 lt (less (order y e.0) parts.0) in
      let rest = below_more x y es lt parts.1 in
      (λ i. is_lt (here i) && rest i)

  below_middle : (x : Key) (l : Rows V) (m : Key × V) (r : Rows V) → below_all (slice_cmp nat_cmp) x (l ++ m ∷ r) ≡ true → order x m.0 ≡ Less
  below_middle x [] m r h = less (order x m.0) (and_parts (is_lt (order x m.0)) (below_all (slice_cmp nat_cmp) x r) h).0
  below_middle x (e ∷ l) m r h = below_middle x l m r (and_parts (is_lt (order x e.0)) (below_all (slice_cmp nat_cmp) x (l ++ m ∷ r)) h).1

  below_front : (x : Key) (l r : Rows V) → below_all (slice_cmp nat_cmp) x (l ++ r) ≡ true → below_all (slice_cmp nat_cmp) x l ≡ true
  below_front x [] r h = refl
  below_front x (e ∷ l) r h =
      let parts = and_parts (is_lt (order x e.0)) (below_all (slice_cmp nat_cmp) x (l ++ r)) h in
      let rest = below_front x l r parts.1 in
      (λ i. parts.0 i && rest i)

  -- ---- a list in parts

  pub ascending_front : (l : Rows V) (m : Key × V) (r : Rows V) → IsAscending (l ++ m ∷ r) → IsAscending l
  ascending_front [] m r h = refl
  ascending_front (e ∷ l) m r h =
      let parts = and_parts (below_all (slice_cmp nat_cmp) e.0 (l ++ m ∷ r)) (is_sorted (slice_cmp nat_cmp) (l ++ m ∷ r)) h in
      let here = below_front e.0 l (m ∷ r) parts.0 in
      let rest : IsAscending l = ascending_front l m r parts.1 in
      (λ i. here i && rest i)

  pub ascending_back : (l : Rows V) (m : Key × V) (r : Rows V) → IsAscending (l ++ m ∷ r) → IsAscending r
  ascending_back [] m r h = (and_parts (below_all (slice_cmp nat_cmp) m.0 r) (is_sorted (slice_cmp nat_cmp) r) h).1
  ascending_back (e ∷ l) m r h = ascending_back l m r (and_parts (below_all (slice_cmp nat_cmp) e.0 (l ++ m ∷ r)) (is_sorted (slice_cmp nat_cmp) (l ++ m ∷ r)) h).1

  -- a key behind the middle is behind all that is before it
  pub count_behind : (key : Key) (l : Rows V) (m : Key × V) (r : Rows V) → IsAscending (l ++ m ∷ r) → is_gt (order key m.0) ≡ true → count_before key (l ++ m ∷ r) ≡ length l + 1 + count_before key r
  count_behind key [] m r h g = let one : suc (count_before key r) ≡ 0 + 1 + count_before key r = omega arith in ap (λ b. cond b (suc (count_before key r)) 0) g ∙ one
  count_behind key (e ∷ l) m r h g =
      let parts = and_parts (below_all (slice_cmp nat_cmp) e.0 (l ++ m ∷ r)) (is_sorted (slice_cmp nat_cmp) (l ++ m ∷ r)) h in
      let here = behind_more key m.0 e.0 g (below_middle e.0 l m r parts.0) in
      let rest = count_behind key l m r parts.1 g in
      let one : suc (length l + 1 + count_before key r) ≡ suc (length l) + 1 + count_before key r = omega arith in
      ap (λ b. cond b (suc (count_before key (l ++ m ∷ r))) 0) here ∙ ap suc rest ∙ one

  -- one that isn't stands as in what is before the middle
  pub count_front : (key : Key) (l : Rows V) (m : Key × V) (r : Rows V) → is_gt (order key m.0) ≡ false → count_before key (l ++ m ∷ r) ≡ count_before key l
  count_front key [] m r g = ap (λ b. cond b (suc (count_before key r)) 0) g
  count_front key (e ∷ l) m r g = ap (λ n. cond (is_gt (order key e.0)) (suc n) 0) (count_front key l m r g)

  -- the place of a key behind the middle, and of one that isn't
  pub placed_behind : (key : Key) (place n : ℕ) (at l : Rows V) (m : Key × V) (r : Rows V) → at ≡ l ++ m ∷ r → is_gt (order key m.0) ≡ true → IsAscending at
      → place + count_before key at ≡ n + length at → place + count_before key r ≡ n + length r
  placed_behind key place n at l m r is g h e =
      let counted = count_behind key l m r (subst IsAscending is h) g in
      let known : place + count_before key (l ++ m ∷ r) ≡ n + length (l ++ m ∷ r) = subst (λ (xs : Rows V). place + count_before key xs ≡ n + length xs) is e in
      omega (arith, known, counted, length-append l (m ∷ r))

  pub placed_front : (key : Key) (place n : ℕ) (at l : Rows V) (m : Key × V) (r : Rows V) → at ≡ l ++ m ∷ r → is_gt (order key m.0) ≡ false → length at ≤ place
      → place + count_before key at ≡ n + length at → place - (length r + 1) + count_before key l ≡ n + length l
  placed_front key place n at l m r is g w e =
      let counted = count_front key l m r g in
      let known : place + count_before key (l ++ m ∷ r) ≡ n + length (l ++ m ∷ r) = subst (λ (xs : Rows V). place + count_before key xs ≡ n + length xs) is e in
      let room : length (l ++ m ∷ r) ≤ place = subst (λ (xs : Rows V). length xs ≤ place) is w in
      omega (arith, known, room, counted, length-append l (m ∷ r))

  pub room_behind : (place : ℕ) (at l : Rows V) (m : Key × V) (r : Rows V) → at ≡ l ++ m ∷ r → length at ≤ place → length r ≤ place
  room_behind place at l m r is w =
      let room : length (l ++ m ∷ r) ≤ place = subst (λ (xs : Rows V). length xs ≤ place) is w in
      omega (arith, room, length-append l (m ∷ r))

  pub room_front : (place : ℕ) (at l : Rows V) (m : Key × V) (r : Rows V) → at ≡ l ++ m ∷ r → length at ≤ place → length l ≤ place - (length r + 1)
  room_front place at l m r is w =
      let room : length (l ++ m ∷ r) ≤ place = subst (λ (xs : Rows V). length xs ≤ place) is w in
      omega (arith, room, length-append l (m ∷ r))

  pub count_within : (key : Key) (es : Rows V) → count_before key es ≤ length es
  count_within key [] = omega arith
  count_within key (e ∷ es) =
      let rest = count_within key es in
      elim (is_gt (order key e.0)) as (λ b. cond b (suc (count_before key es)) 0 ≤ suc (length es)) [ true ↦ omega (arith, rest) | false ↦ omega arith ]

  pub there_within : (key : Key) (es : Rows V) (i : ℕ) → has_key key (slice_get es i) ≡ true → i < length es
  there_within key [] i h = absurd (true≢false (sym h))
  there_within key (e ∷ es) zero h = omega arith
  there_within key (e ∷ es) (suc i) h = let r = there_within key es i h in omega (arith, r)

  -- ---- what stands at a key

  none_below : (key : Key) (es : Rows V) → below_all (slice_cmp nat_cmp) key es ≡ true → value_at es key ≡ None
  none_below key [] h = refl
  none_below key (e ∷ es) h =
      let parts = and_parts (is_lt (order key e.0)) (below_all (slice_cmp nat_cmp) key es) h in
      ap (λ o. cond (is_eq o) (Some e.1) (value_at es key)) (less (order key e.0) parts.0) ∙ none_below key es parts.1

  pub value_read : (key : Key) (es : Rows V) → IsAscending es → value_at es key ≡ value_in key (slice_get es (count_before key es))
  value_read key [] h = refl
  value_read key (e ∷ es) h =
      let parts = and_parts (below_all (slice_cmp nat_cmp) e.0 es) (is_sorted (slice_cmp nat_cmp) es) h in
      (elim (order key e.0) as (λ o. order key e.0 ≡ o → cond (is_eq o) (Some e.1) (value_at es key) ≡ cond (is_gt o) (value_in key (slice_get es (count_before key es))) (cond (is_eq o) (Some e.1) None)) [
        | Less ↦ λ p. none_below key es (below_more key e.0 es p parts.0)
        | Equal ↦ λ p. refl
        | Greater ↦ λ p. value_read key es parts.1
      ]) refl
      ∙ (elim (is_gt (order key e.0)) as (λ b. cond b (value_in key (slice_get es (count_before key es))) (cond (is_same key e.0) (Some e.1) None) ≡ value_in key (slice_get (e ∷ es) (cond b (suc (count_before key es)) 0))) [ true ↦ refl | false ↦ refl ])

  -- ---- changes

  pub put_new : (key : Key) (v : V) (es : Rows V) → has_key key (slice_get es (count_before key es)) ≡ false → insert es (count_before key es) (key, v) ≡ with_value es key v
  put_new key v [] h = refl
  put_new key v (e ∷ es) h =
      (elim (order key e.0) as (λ o. order key e.0 ≡ o → has_key key (slice_get (e ∷ es) (cond (is_gt o) (suc (count_before key es)) 0)) ≡ false
      → insert (e ∷ es) (cond (is_gt o) (suc (count_before key es)) 0) (key, v) ≡ by_order o ((key, v) ∷ e ∷ es) ((e.0, v) ∷ es) (e ∷ with_value es key v)) [
        | Less ↦ λ p h. refl
        | Equal ↦ λ p h. absurd (true≢false (sym (ap is_eq p) ∙ h))
        | Greater ↦ λ p h. ap (λ rest. e ∷ rest) (put_new key v es h)
      ]) refl h

  pub put_there : (key : Key) (v : V) (es : Rows V) → has_key key (slice_get es (count_before key es)) ≡ true → slice_set es (count_before key es) (key, v) ≡ with_value es key v
  put_there key v [] h = absurd (true≢false (sym h))
  put_there key v (e ∷ es) h =
      (elim (order key e.0) as (λ o. order key e.0 ≡ o → has_key key (slice_get (e ∷ es) (cond (is_gt o) (suc (count_before key es)) 0)) ≡ true
      → slice_set (e ∷ es) (cond (is_gt o) (suc (count_before key es)) 0) (key, v) ≡ by_order o ((key, v) ∷ e ∷ es) ((e.0, v) ∷ es) (e ∷ with_value es key v)) [
        | Less ↦ λ p h. absurd (true≢false (sym h ∙ ap is_eq p))
        | Equal ↦ λ p h. ap (λ k. (k, v) ∷ es) (slice_cmp-IsAntisymmetric nat_cmp-IsAntisymmetric key e.0 p)
        | Greater ↦ λ p h. ap (λ rest. e ∷ rest) (put_there key v es h)
      ]) refl h

  kept_below : (key : Key) (es : Rows V) → below_all (slice_cmp nat_cmp) key es ≡ true → without_key es key ≡ es
  kept_below key [] h = refl
  kept_below key (e ∷ es) h =
      let parts = and_parts (is_lt (order key e.0)) (below_all (slice_cmp nat_cmp) key es) h in
      ap (λ o. cond (not (is_eq o)) (e ∷ without_key es key) (without_key es key)) (less (order key e.0) parts.0) ∙ ap (λ rest. e ∷ rest) (kept_below key es parts.1)

  pub removed_there : (key : Key) (es : Rows V) → IsAscending es → has_key key (slice_get es (count_before key es)) ≡ true → remove es (count_before key es) ≡ without_key es key
  removed_there key [] h t = absurd (true≢false (sym t))
  removed_there key (e ∷ es) h t =
      let parts = and_parts (below_all (slice_cmp nat_cmp) e.0 es) (is_sorted (slice_cmp nat_cmp) es) h in
      (elim (order key e.0) as (λ o. order key e.0 ≡ o → has_key key (slice_get (e ∷ es) (cond (is_gt o) (suc (count_before key es)) 0)) ≡ true
      → remove (e ∷ es) (cond (is_gt o) (suc (count_before key es)) 0) ≡ cond (not (is_eq o)) (e ∷ without_key es key) (without_key es key)) [
        | Less ↦ λ p t. absurd (true≢false (sym t ∙ ap is_eq p))
        | Equal ↦ λ p t. sym (kept_below key es (subst (λ k. below_all (slice_cmp nat_cmp) k es ≡ true) (sym (slice_cmp-IsAntisymmetric nat_cmp-IsAntisymmetric key e.0 p)) parts.0))
        | Greater ↦ λ p t. ap (λ rest. e ∷ rest) (removed_there key es parts.1 t)
      ]) refl t

  pub removed_none : (key : Key) (es : Rows V) → IsAscending es → has_key key (slice_get es (count_before key es)) ≡ false → es ≡ without_key es key
  removed_none key [] h t = refl
  removed_none key (e ∷ es) h t =
      let parts = and_parts (below_all (slice_cmp nat_cmp) e.0 es) (is_sorted (slice_cmp nat_cmp) es) h in
      (elim (order key e.0) as (λ o. order key e.0 ≡ o → has_key key (slice_get (e ∷ es) (cond (is_gt o) (suc (count_before key es)) 0)) ≡ false
      → e ∷ es ≡ cond (not (is_eq o)) (e ∷ without_key es key) (without_key es key)) [
        | Less ↦ λ p t. ap (λ rest. e ∷ rest) (sym (kept_below key es (below_more key e.0 es p parts.0)))
        | Equal ↦ λ p t. absurd (true≢false (sym (ap is_eq p) ∙ t))
        | Greater ↦ λ p t. ap (λ rest. e ∷ rest) (removed_none key es parts.1 t)
      ]) refl t

  -- ---- the order of what is left

  pub ascending_put : (key : Key) (v : V) (es : Rows V) → IsAscending es → IsAscending (with_value es key v)
  ascending_put key v es h = from_test _ (is_sorted-put (slice_cmp nat_cmp) nat_list_cmp_total key v es (as_test _ h))

  pub ascending_without : (key : Key) (es : Rows V) → IsAscending es → IsAscending (without_key es key)
  ascending_without key es h = from_test _ (is_sorted-where_key (slice_cmp nat_cmp) (λ k. not (is_same key k)) es (as_test _ h))
