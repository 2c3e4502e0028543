-- Entries by ascending number, and the triples in them.
use Rattle.std.proofs.Common.{◌≡◌, ℕ, ◌<◌, Bool, true, false, not, cond, nat_eq, nat_lt, ◌==◌, ◌&&◌, List, [], ◌∷◌, map, Some, None, T, refl, sym, ap, ◌∙◌, subst, nat_cmp, arith, true≢false}
use Rattle.std.specs.List.{find as first, IsDistinct, AllByRecursion}
use Rattle.std.specs.Ordering.{eq_by_cmp, is_eq, is_lt}
use Rattle.std.specs.declared.cmp.Ordering.{Ordering}
use Rattle.std.specs.declared.cmp.Ordering.TheVariants.{Less, Equal, Greater}
use Rattle.std.specs.Cmp.{nat_cmp_total, nat_cmp_is, nat_eq_equiv, unsigned_tied, tied_itself}
use Rattle.std.proofs.lemmas.Cmp.{ranked}
use Rattle.std.proofs.lemmas.Bool.Decides.{nat_tests}
use Rattle.std.specs.Map.{lookup}
use Rattle.std.specs.FinMap.{find, put, is_sorted}
use Rattle.std.specs.FinMap.Entries.{by_order, below_all, where_key}
use Rattle.oc_refs.specs.declared.table.Ref.{Ref}
use Rattle.oc_refs.specs.Triples.{by_number, with_ref, without, turned, with_active}

-- ---- look-ups

pub find_is : {X : Type 0} (q : ℕ) (es : List (ℕ × X)) → find nat_cmp q es ≡ lookup (nat_eq q) es
find_is q [] = refl
find_is q (e ∷ es) = λ i. cond (unsigned_tied q e.0 i) (Some e.1) (find_is q es i)

is_equal : (o : Ordering) → is_eq o ≡ true → o ≡ Equal
is_equal Less h = cc
is_equal Equal h = refl
is_equal Greater h = cc

is_less : (o : Ordering) → T (is_lt o) → o ≡ Less
is_less Less h = refl
is_less Equal h = absurd h
is_less Greater h = absurd h

both_of : (a b : Bool) → T (a && b) → T a × T b
both_of true b h = (tt, h)
both_of false b h = absurd h

-- nothing is found below all keys
pub find_low : {X : Type 0} (q : ℕ) (es : List (ℕ × X)) → T (below_all nat_cmp q es) → find nat_cmp q es ≡ None
find_low q [] h = refl
find_low q (e ∷ es) h = let p = both_of _ _ h in ap (λ o. cond (is_eq o) (Some e.1) (find nat_cmp q es)) (is_less _ p.0) ∙ find_low q es p.1

find_head : {X : Type 0} (e : ℕ × X) (es : List (ℕ × X)) → find nat_cmp e.0 (e ∷ es) ≡ Some e.1
find_head e es = ap (λ o. cond (is_eq o) (Some e.1) (find nat_cmp e.0 es)) (tied_itself nat_cmp_total e.0)

same_key : (a b : ℕ) → nat_cmp a b ≡ Equal → a ≡ b
same_key a b h = ranked a b Equal (sym h)

none_some : {X : Type 0} (x : X) → None ≡ Some x → ⊥
none_some x e = cc

-- what is found behind the first entry is found
find_behind : {X : Type 0} (e : ℕ × X) (es : List (ℕ × X)) (n : ℕ) (x : X) → T (below_all nat_cmp e.0 es) → find nat_cmp n es ≡ Some x → find nat_cmp n (e ∷ es) ≡ Some x
find_behind e es n x low h =
    (elim (nat_cmp n e.0) as (λ o. nat_cmp n e.0 ≡ o → cond (is_eq o) (Some e.1) (find nat_cmp n es) ≡ Some x) [
      | Less ↦ λ _. h
      | Greater ↦ λ _. h
      | Equal ↦ λ q. absurd (none_some x (sym (find_low e.0 es low) ∙ ap (λ k. find nat_cmp k es) (sym (same_key n e.0 q)) ∙ h))
    ]) refl

-- ---- entries under the number of their triple

abbrev pub AllNamed : List (ℕ × Ref) → Type 0
AllNamed [] = Unit {0}
AllNamed (e ∷ es) = (e.1.number ≡ e.0) × AllNamed es

pub all_named : (es : List (ℕ × Ref)) → T (is_sorted nat_cmp es) → ((n : ℕ) (r : Ref) → find nat_cmp n es ≡ Some r → r.number ≡ n) → AllNamed es
all_named [] s h = tt
all_named (e ∷ es) s h =
    let p = both_of _ _ s in
    (h e.0 e.1 (find_head e es), all_named es p.1 (λ n r f. h n r (find_behind e es n r p.0 f)))

tested : (a b n : ℕ) → a ≡ b → (a == n) ≡ eq_by_cmp nat_cmp n b
tested a b n h = nat_eq_equiv.symm a n ∙ sym (unsigned_tied n a) ∙ ap (λ k. eq_by_cmp nat_cmp n k) h

pub number_found : (n : ℕ) (es : List (ℕ × Ref)) → AllNamed es → by_number (map (λ e. e.1) es) n ≡ find nat_cmp n es
number_found n [] h = refl
number_found n (e ∷ es) h = ap (λ b. cond b (Some e.1) (by_number (map (λ e. e.1) es) n)) (tested _ _ n h.0) ∙ ap (λ o. cond (eq_by_cmp nat_cmp n e.0) (Some e.1) o) (number_found n es h.1)

-- a triple that is new
pub put_new : (k : ℕ) (r : Ref) (es : List (ℕ × Ref)) → AllNamed es → r.number ≡ k → find nat_cmp k es ≡ None → map (λ e. e.1) (put nat_cmp k r es) ≡ with_ref r (map (λ e. e.1) es)
put_new k r [] a n h = refl
put_new k r (e ∷ es) a n h =
    (elim (nat_cmp k e.0) as (λ o. nat_cmp k e.0 ≡ o → cond (is_eq o) (Some e.1) (find nat_cmp k es) ≡ None
    → map (λ e. e.1) (by_order o ((k, r) ∷ e ∷ es) ((e.0, r) ∷ es) (e ∷ put nat_cmp k r es)) ≡ with_ref r (e.1 ∷ map (λ e. e.1) es)) [
      | Less ↦ λ q h.
          let lt : k < e.0 = ranked k e.0 Less (sym q) in
          let yes : nat_lt r.number e.1.number ≡ true = grind (arith, nat_tests, a.0) in
          sym (ap (λ b. cond b (r ∷ e.1 ∷ map (λ e. e.1) es) (e.1 ∷ with_ref r (map (λ e. e.1) es))) yes)
      | Equal ↦ λ q h. absurd (none_some e.1 (sym h))
      | Greater ↦ λ q h.
          let gt : e.0 < k = ranked k e.0 Greater (sym q) in
          let no : nat_lt r.number e.1.number ≡ false = grind (arith, nat_tests, a.0) in
          ap (λ rs. e.1 ∷ rs) (put_new k r es a.1 n h) ∙ sym (ap (λ b. cond b (r ∷ e.1 ∷ map (λ e. e.1) es) (e.1 ∷ with_ref r (map (λ e. e.1) es))) no)
    ]) refl h

-- what is above a key is above a smaller one
lower : {X : Type 0} (k m : ℕ) (es : List (ℕ × X)) → k < m → T (below_all nat_cmp m es) → T (below_all nat_cmp k es)
lower k m [] lt h = tt
lower k m (e ∷ es) lt h =
    let p = both_of (is_lt (nat_cmp m e.0)) (below_all nat_cmp m es) h in
    let above : m < e.0 = ranked m e.0 Less (sym (is_less (nat_cmp m e.0) p.0)) in
    let less : nat_cmp k e.0 ≡ Less = sym (nat_cmp_is k e.0 Less (omega arith)) in
    subst (λ o. T (is_lt o && below_all nat_cmp k es)) (sym less) (lower k m es lt p.1)

-- the triples above a number are left as they are
others_stay : (k : ℕ) (active : Bool) (es : List (ℕ × Ref)) → AllNamed es → T (below_all nat_cmp k es) → with_active k active (map (λ e. e.1) es) ≡ map (λ e. e.1) es
others_stay k active [] a h = refl
others_stay k active (e ∷ es) a h =
    let p = both_of (is_lt (nat_cmp k e.0)) (below_all nat_cmp k es) h in
    let lt : k < e.0 = ranked k e.0 Less (sym (is_less (nat_cmp k e.0) p.0)) in
    let no : (e.1.number == k) ≡ false = grind (arith, nat_tests, a.0) in
    λ i. turned_no e.1 no i ∷ others_stay k active es a.1 p.1 i
  where
    turned_no : (r : Ref) → (r.number == k) ≡ false → turned k active r ≡ r
    turned_no r apart = ap (λ b. cond b (record { number = r.number; handle = r.handle; active = active }) r) apart

-- a triple in the place of the one that has its number
pub put_over : (k : ℕ) (active : Bool) (r : Ref) (es : List (ℕ × Ref)) → AllNamed es → T (is_sorted nat_cmp es) → find nat_cmp k es ≡ Some r
    → map (λ e. e.1) (put nat_cmp k (record { number = r.number; handle = r.handle; active = active }) es) ≡ with_active k active (map (λ e. e.1) es)
put_over k active r [] a s h = absurd (none_some r h)
put_over k active r (e ∷ es) a s h =
    let p = both_of _ _ s in
    let new : Ref = record { number = r.number; handle = r.handle; active = active } in
    (elim (nat_cmp k e.0) as (λ o. nat_cmp k e.0 ≡ o → cond (is_eq o) (Some e.1) (find nat_cmp k es) ≡ Some r
    → map (λ e. e.1) (by_order o ((k, new) ∷ e ∷ es) ((e.0, new) ∷ es) (e ∷ put nat_cmp k new es)) ≡ with_active k active (e.1 ∷ map (λ e. e.1) es)) [
      | Less ↦ λ q h. absurd (none_some r (sym (find_low k es (lower k e.0 es (ranked k e.0 Less (sym q)) p.0)) ∙ h))
      | Equal ↦ λ q h.
          let is : r ≡ e.1 = cc in
          let key : k ≡ e.0 = same_key k e.0 q in
          let yes : (e.1.number == k) ≡ true = grind (arith, nat_tests, a.0) in
          ap (λ (t : Ref). record { number = t.number; handle = t.handle; active = active } ∷ map (λ e. e.1) es) is
          ∙ sym (ap (λ b. cond b (record { number = e.1.number; handle = e.1.handle; active = active }) e.1 ∷ with_active k active (map (λ e. e.1) es)) yes
          ∙ ap (λ rs. record { number = e.1.number; handle = e.1.handle; active = active } ∷ rs) (others_stay k active es a.1 (subst (λ n. T (below_all nat_cmp n es)) (sym key) p.0)))
      | Greater ↦ λ q h.
          let gt : e.0 < k = ranked k e.0 Greater (sym q) in
          let no : (e.1.number == k) ≡ false = grind (arith, nat_tests, a.0) in
          ap (λ rs. e.1 ∷ rs) (put_over k active r es a.1 p.1 h)
          ∙ sym (ap (λ b. cond b (record { number = e.1.number; handle = e.1.handle; active = active }) e.1 ∷ with_active k active (map (λ e. e.1) es)) no)
    ]) refl h

-- a triple taken out
pub removed : (k : ℕ) (es : List (ℕ × Ref)) → AllNamed es → map (λ e. e.1) (where_key nat_cmp (λ x. not (eq_by_cmp nat_cmp k x)) es) ≡ without k (map (λ e. e.1) es)
removed k [] a = refl
removed k (e ∷ es) a =
    let same : not (eq_by_cmp nat_cmp k e.0) ≡ not (e.1.number == k) = ap not (sym (tested _ _ k a.0)) in
    (elim (not (eq_by_cmp nat_cmp k e.0)) as (λ b. map (λ e. e.1) (cond b (e ∷ where_key nat_cmp (λ x. not (eq_by_cmp nat_cmp k x)) es) (where_key nat_cmp (λ x. not (eq_by_cmp nat_cmp k x)) es)) ≡ cond b (e.1 ∷ without k (map (λ e. e.1) es)) (without k (map (λ e. e.1) es))) [
      | true ↦ ap (λ rs. e.1 ∷ rs) (removed k es a.1)
      | false ↦ removed k es a.1
    ]) ∙ ap (λ b. cond b (e.1 ∷ without k (map (λ e. e.1) es)) (without k (map (λ e. e.1) es))) same

-- ---- all triples

-- what holds of each that is found holds of all
pub each : (f : Ref → ℕ) (P : ℕ → Type 0) (es : List (ℕ × Ref)) → T (is_sorted nat_cmp es) → ((n : ℕ) (r : Ref) → find nat_cmp n es ≡ Some r → P (f r)) → AllByRecursion P (map f (map (λ e. e.1) es))
each f P [] s h = tt
each f P (e ∷ es) s h =
    let p = both_of (below_all nat_cmp e.0 es) (is_sorted nat_cmp es) s in
    (h e.0 e.1 (find_head e es), each f P es p.1 (λ n r found. h n r (find_behind e es n r p.0 found)))

-- what is found behind the first entry has another key
behind_first : (e : ℕ × Ref) (es : List (ℕ × Ref)) (n : ℕ) (r : Ref) → T (below_all nat_cmp e.0 es) → find nat_cmp n es ≡ Some r → e.0 ≡ n → ⊥
behind_first e es n r low found same = none_some r (sym (find_low e.0 es low) ∙ ap (λ k. find nat_cmp k es) same ∙ found)

pub differ : (a b : ℕ) → (a ≡ b → ⊥) → nat_eq a b ≡ false
differ a b h =
    (elim (nat_eq a b) as (λ t. nat_eq a b ≡ t → t ≡ false) [
      | true ↦ λ e. let same : a ≡ b = grind (arith, nat_tests) in absurd (h same)
      | false ↦ λ e. refl
    ]) refl

-- triples with one value have one key: then no value comes twice
pub distinct_by : (f : Ref → ℕ) (es : List (ℕ × Ref)) → T (is_sorted nat_cmp es)
    → ((m n : ℕ) (q r : Ref) → find nat_cmp m es ≡ Some q → find nat_cmp n es ≡ Some r → f q ≡ f r → m ≡ n) → IsDistinct nat_eq (map f (map (λ e. e.1) es))
unfolding IsDistinct
distinct_by f [] s h = tt
distinct_by f (e ∷ es) s h =
    let p = both_of (below_all nat_cmp e.0 es) (is_sorted nat_cmp es) s in (
      each f (λ y. nat_eq (f e.1) y ≡ false) es p.1 (λ n r found. differ (f e.1) (f r) (λ same. behind_first e es n r p.0 found (h e.0 n e.1 r (find_head e es) (find_behind e es n r p.0 found) same))),
      distinct_by f es p.1 (λ m n q r a b same. h m n q r (find_behind e es m q p.0 a) (find_behind e es n r p.0 b) same),
    )

-- ---- the first triple that passes a test

pub none_passes : (test : Ref → Bool) (es : List (ℕ × Ref)) → T (is_sorted nat_cmp es) → ((n : ℕ) (r : Ref) → find nat_cmp n es ≡ Some r → test r ≡ false) → first test (map (λ e. e.1) es) ≡ None
none_passes test [] s h = refl
none_passes test (e ∷ es) s h =
    let p = both_of (below_all nat_cmp e.0 es) (is_sorted nat_cmp es) s in
    ap (λ b. cond b (Some e.1) (first test (map (λ e. e.1) es))) (h e.0 e.1 (find_head e es)) ∙ none_passes test es p.1 (λ n r found. h n r (find_behind e es n r p.0 found))

pub one_passes : (test : Ref → Bool) (es : List (ℕ × Ref)) (k : ℕ) (r : Ref) → T (is_sorted nat_cmp es) → find nat_cmp k es ≡ Some r → test r ≡ true
    → ((n : ℕ) (q : Ref) → find nat_cmp n es ≡ Some q → test q ≡ true → q ≡ r) → first test (map (λ e. e.1) es) ≡ Some r
one_passes test [] k r s f t h = absurd (none_some r f)
one_passes test (e ∷ es) k r s f t h =
    let p = both_of (below_all nat_cmp e.0 es) (is_sorted nat_cmp es) s in
    (elim (test e.1) as (λ b. test e.1 ≡ b → cond b (Some e.1) (first test (map (λ e. e.1) es)) ≡ Some r) [
      | true ↦ λ is. ap Some (h e.0 e.1 (find_head e es) is)
      | false ↦ λ isnt. one_passes test es k r p.1 (later isnt) t (λ n q found. h n q (find_behind e es n q p.0 found))
    ]) refl
  where
    later : test e.1 ≡ false → find nat_cmp k es ≡ Some r
    later isnt =
        (elim (eq_by_cmp nat_cmp k e.0) as (λ b. cond b (Some e.1) (find nat_cmp k es) ≡ Some r → find nat_cmp k es ≡ Some r) [
          | true ↦ λ found. let same : e.1 ≡ r = cc in absurd (true≢false (sym t ∙ sym (ap test same) ∙ isnt))
          | false ↦ λ found. found
        ]) f
