-- Numbers that ascend are told by which they are.
use Rattle.std.proofs.Common.{◌≡◌, ◌∙◌, ap, ap₂, sym, refl, subst, ℕ, ◌==◌, Bool, true, false, true≢false, cond, not, ◌&&◌, ◌||◌, List, [], ◌∷◌, map, filter, None, Some, nat_eq, nat_cmp}
use Rattle.std.specs.Ordering.{is_eq, is_lt, ordering_reverse}
use Rattle.std.specs.declared.cmp.Ordering.TheVariants.{Less, Equal, Greater}
use Rattle.std.specs.Cmp.{nat_cmp_total}
use Rattle.std.specs.FinMap.Entries.{by_order, is_sorted, is_sorted-put, is_sorted-where_key, same_entries}
use Rattle.std.proofs.lemmas.Bool.{and_parts, eq-eqb, eqb-true, not-true, or_parts}
use Rattle.std.proofs.lemmas.Map.Lookups.{exact_unsigned}
use Rattle.oc_model.specs.Lists.{placed, sorted}
use Rattle.oc_model.specs.Maps.{Map, at, is_in, with_at}
use Rattle.oc_model.specs.SchemaRules.{are_apart}
use Rattle.oc_model.proofs.Reaching.{of_true}
use Rattle.oc_lists.proofs.Entries.{equal_is, is_true}
use Rattle.oc_lists.proofs.IndexedIds.{in_placed, in_sorted}

keyed : List ℕ → Map Bool
keyed ns = map (λ n. (n, true)) ns

-- each number is less than all that follow
pub Ascends : List ℕ → Type 0
Ascends ns = is_sorted nat_cmp (keyed ns) ≡ true

found_keyed : (q : ℕ) (ns : List ℕ) → at (keyed ns) q ≡ cond (is_in ns q) (Some true) None
unfolding keyed
found_keyed q [] = refl
found_keyed q (n ∷ ns) = ap₂ (λ b o. cond b (Some true) o) (equal_is q n) (found_keyed q ns) ∙ of_test (q == n)
  where
    of_test : (b : Bool) → cond b (Some true) (cond (is_in ns q) (Some true) None) ≡ cond (b || is_in ns q) (Some true) None
    of_test true = refl
    of_test false = refl

unkeyed : (ns : List ℕ) → map (λ (e : ℕ × Bool). e.0) (keyed ns) ≡ ns
unfolding keyed
unkeyed [] = refl
unkeyed (n ∷ ns) = ap (λ l. n ∷ l) (unkeyed ns)

pub same_numbers : (ms ns : List ℕ) → Ascends ms → Ascends ns → ((q : ℕ) → is_in ms q ≡ is_in ns q) → ms ≡ ns
unfolding Ascends
same_numbers ms ns a b same =
    sym (unkeyed ms)
    ∙ ap (map (λ (e : ℕ × Bool). e.0)) (same_entries nat_cmp nat_cmp_total exact_unsigned (keyed ms) (keyed ns) (of_true _ a) (of_true _ b) (λ q. found_keyed q ms ∙ ap (λ t. cond t (Some true) None) (same q) ∙ sym (found_keyed q ns)))
    ∙ unkeyed ns

-- ---- a number placed

put_is : (m : ℕ) (ns : List ℕ) → is_in ns m ≡ false → keyed (placed nat_cmp m ns) ≡ with_at (keyed ns) m true
unfolding keyed
put_is m [] off = refl
put_is m (k ∷ ns) off =
    let parts = or_parts (m == k) (is_in ns m) off in
    (elim (nat_cmp m k) as (λ o. nat_cmp m k ≡ o → keyed (cond (is_lt (nat_cmp k m)) (k ∷ placed nat_cmp m ns) (m ∷ k ∷ ns)) ≡ by_order o ((m, true) ∷ keyed (k ∷ ns)) ((k, true) ∷ keyed ns) ((k, true) ∷ with_at (keyed ns) m true)) [
      | Less ↦ λ e. ap (λ b. keyed (cond b (k ∷ placed nat_cmp m ns) (m ∷ k ∷ ns))) (ap is_lt (nat_cmp_total.antisymm k m ∙ ap ordering_reverse e))
      | Equal ↦ λ e. absurd (true≢false (sym (eq-eqb m k (exact_unsigned m k e)) ∙ parts.0))
      | Greater ↦ λ e. ap (λ b. keyed (cond b (k ∷ placed nat_cmp m ns) (m ∷ k ∷ ns))) (ap is_lt (nat_cmp_total.antisymm k m ∙ ap ordering_reverse e)) ∙ ap (λ l. (k, true) ∷ l) (put_is m ns parts.1)
    ]) refl

pub placed_ascends : (m : ℕ) (ns : List ℕ) → Ascends ns → is_in ns m ≡ false → Ascends (placed nat_cmp m ns)
unfolding Ascends
placed_ascends m ns a off = ap (is_sorted nat_cmp) (put_is m ns off) ∙ is_true (is_sorted nat_cmp (with_at (keyed ns) m true)) (is_sorted-put nat_cmp nat_cmp_total m true (keyed ns) (of_true _ a))

pub sorted_ascends : (ns : List ℕ) → are_apart ns ≡ true → Ascends (sorted nat_cmp ns)
unfolding Ascends keyed
sorted_ascends [] apart = refl
sorted_ascends (n ∷ ns) apart =
    let parts = and_parts (not (is_in ns n)) (are_apart ns) apart in
    placed_ascends n (sorted nat_cmp ns) (sorted_ascends ns parts.1) (in_sorted n ns ∙ not-true (is_in ns n) parts.0)

-- ---- some of the numbers

keyed_filter : (h : ℕ → Bool) (ns : List ℕ) → keyed (filter h ns) ≡ filter (λ (e : ℕ × Bool). h e.0) (keyed ns)
unfolding keyed
keyed_filter h [] = refl
keyed_filter h (n ∷ ns) = (elim (h n) as (λ b. keyed (cond b (n ∷ filter h ns) (filter h ns)) ≡ cond b ((n, true) ∷ filter (λ (e : ℕ × Bool). h e.0) (keyed ns)) (filter (λ (e : ℕ × Bool). h e.0) (keyed ns))) [
  | true ↦ ap (λ l. (n, true) ∷ l) (keyed_filter h ns)
  | false ↦ keyed_filter h ns
])

pub filter_ascends : (h : ℕ → Bool) (ns : List ℕ) → Ascends ns → Ascends (filter h ns)
unfolding Ascends
filter_ascends h ns a = ap (is_sorted nat_cmp) (keyed_filter h ns) ∙ is_true (is_sorted nat_cmp (filter (λ (e : ℕ × Bool). h e.0) (keyed ns))) (is_sorted-where_key nat_cmp h (keyed ns) (of_true _ a))

pub in_filter : (h : ℕ → Bool) (ns : List ℕ) (q : ℕ) → is_in (filter h ns) q ≡ (is_in ns q && h q)
in_filter h [] q = refl
in_filter h (n ∷ ns) q = of_tests (h n) (q == n) refl refl (in_filter h ns q)
  where
    last : (a b : Bool) → b ≡ false → (a && b) ≡ b
    last true b off = refl
    last false b off = sym off

    of_tests : (b c : Bool) → h n ≡ b → (q == n) ≡ c → is_in (filter h ns) q ≡ (is_in ns q && h q) → is_in (cond b (n ∷ filter h ns) (filter h ns)) q ≡ (((q == n) || is_in ns q) && h q)
    of_tests true true e f rest = ap (λ t. t || is_in (filter h ns) q) f ∙ sym (ap (λ t. (t || is_in ns q) && h q) f ∙ ap h (eqb-true q n f) ∙ e)
    of_tests true false e f rest = ap (λ t. t || is_in (filter h ns) q) f ∙ rest ∙ sym (ap (λ t. (t || is_in ns q) && h q) f)
    of_tests false true e f rest = rest ∙ last (is_in ns q) (h q) (ap h (eqb-true q n f) ∙ e) ∙ sym (ap (λ t. (t || is_in ns q) && h q) f)
    of_tests false false e f rest = rest ∙ sym (ap (λ t. (t || is_in ns q) && h q) f)

-- ---- numbers placed one after the other

pub placed_all : List ℕ → List ℕ → List ℕ
placed_all [] ns = ns
placed_all (m ∷ ms) ns = placed_all ms (placed nat_cmp m ns)

pub placed_all_one : (m : ℕ) (ms ns : List ℕ) → placed_all (m ∷ ms) ns ≡ placed_all ms (placed nat_cmp m ns)
unfolding placed_all
placed_all_one m ms ns = refl

pub placed_all_none : (ns : List ℕ) → placed_all [] ns ≡ ns
unfolding placed_all
placed_all_none ns = refl

pub all_ascend : (ms ns : List ℕ) → Ascends ns → are_apart ms ≡ true → ((q : ℕ) → is_in ms q ≡ true → is_in ns q ≡ false) → Ascends (placed_all ms ns)
unfolding placed_all
all_ascend [] ns a apart none = a
all_ascend (m ∷ ms) ns a apart none =
    let parts = and_parts (not (is_in ms m)) (are_apart ms) apart in
    all_ascend ms (placed nat_cmp m ns) (placed_ascends m ns a (none m (ap (λ b. b || is_in ms m) (eq-eqb m m refl)))) parts.1
    (λ q it. in_placed q m ns ∙ ap₂ (λ b c. b || c) (other (q == m) (not-true (is_in ms m) parts.0) q refl it) (none q (later (q == m) (is_in ms q) it)))
  where
    later : (b c : Bool) → c ≡ true → (b || c) ≡ true
    later true c it = refl
    later false c it = it

    other : (b : Bool) → is_in ms m ≡ false → (q : ℕ) → (q == m) ≡ b → is_in ms q ≡ true → (q == m) ≡ false
    other true off q same it = absurd (true≢false (sym it ∙ ap (is_in ms) (eqb-true q m same) ∙ off))
    other false off q same it = same

pub in_all_placed : (ms ns : List ℕ) (q : ℕ) → is_in (placed_all ms ns) q ≡ (is_in ms q || is_in ns q)
unfolding placed_all
in_all_placed [] ns q = refl
in_all_placed (m ∷ ms) ns q = in_all_placed ms (placed nat_cmp m ns) q ∙ ap (λ b. is_in ms q || b) (in_placed q m ns) ∙ turn (is_in ms q) (q == m) (is_in ns q)
  where
    turn : (a b c : Bool) → (a || (b || c)) ≡ ((b || a) || c)
    turn true true c = refl
    turn true false c = refl
    turn false true c = refl
    turn false false c = refl
