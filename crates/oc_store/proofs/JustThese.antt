-- Numbers in order, each once, that are just those of the extents.
use Rattle.std.proofs.Common.{◌≡◌, ◌⊎◌, inl, inr, ◌∙◌, ap, sym, refl, subst, ℕ, zero, suc, ◌<◌, Bool, true, false, ◌||◌, List, [], ◌∷◌, ◌++◌, length, get_or, map, Option, Some, None, arith, nat_cmp}
use Rattle.std.specs.Prelude.{is_some, IsSome, Contains, AllPairs}
use Rattle.std.specs.List.{list_any}
use Rattle.std.specs.Ordering.{is_eq, is_lt}
use Rattle.std.specs.Cmp.{nat_cmp_total, tied_itself}
use Rattle.std.proofs.lemmas.Bool.{cases_lt, or_left}
use Rattle.std.proofs.lemmas.Map.Lookups.{exact_unsigned}
use Rattle.oc_model.specs.Lists.{IsOneOf}
use Rattle.oc_model.proofs.Elements.{or_right}
use Rattle.oc_model.proofs.Reaching.{is_equal}
use Rattle.oc_chunks.specs.Ascending.{Each, IsAscending, Pairs}
use Rattle.oc_chunks.proofs.Eaches.{pairs_more}
use Rattle.oc_index.specs.declared.items.ExtentItem.{ExtentItem}
use Rattle.oc_index.specs.Items.{extent_cmp}
use Rattle.oc_index.specs.Ranges.{is_numbered}
use Rattle.oc_index.proofs.Ordered.{lt_of}
use Rattle.oc_pages.specs.Order.{AreAscending}
use Rattle.oc_store.specs.Outlines.{AreBelow, AreListed, HasJust}
use Rattle.oc_lists.proofs.IndexedKinds.{one_at}
use Rattle.oc_store.proofs.NamedLists.{pairs_map}

-- ---- by place, and by recursion

pub one_of : (ns : List ℕ) (n : ℕ) → Contains ns n → IsOneOf n ns
one_of ns n (k, lt, is) = subst (λ m. IsOneOf m ns) is (one_at ns k n lt)

pub contains : (ns : List ℕ) (n : ℕ) → IsOneOf n ns → Contains ns n
contains [] n one = absurd one
contains (m ∷ ns) n (inl same) = (0, omega arith, sym same)
contains (m ∷ ns) n (inr later) = let r = contains ns n later in (suc r.0, omega (arith, r.1), r.2)

each_indexed : (P : ℕ → Type 0) (ns : List ℕ) → ((k d : ℕ) → k < length ns → P (get_or ns k d)) → Each P ns
each_indexed P [] h = tt
each_indexed P (n ∷ ns) h = (h 0 0 (omega arith), each_indexed P ns (λ k d lt. h (suc k) d (omega arith)))

abbrev Below : ℕ → ℕ → Type 0
Below m n = m < n

pub in_order : (ns : List ℕ) → AllPairs Below ns → Pairs Below ns
in_order [] h = tt
in_order (n ∷ ns) h = (each_indexed (Below n) ns (λ k d lt. h 0 (suc k) d (omega arith) (omega arith)), in_order ns (λ i j d lt end. h (suc i) (suc j) d (omega arith) (omega arith)))

pub each_one : (P : ℕ → Type 0) (ns : List ℕ) (n : ℕ) → Each P ns → IsOneOf n ns → P n
each_one P [] n a one = absurd one
each_one P (m ∷ ns) n a (inl same) = subst P (sym same) a.0
each_one P (m ∷ ns) n a (inr later) = each_one P ns n a.1 later

-- ---- lists in order of the same numbers

later_of : (x : ℕ) (n : ℕ) (ns : List ℕ) → x < n → IsOneOf n (x ∷ ns) → IsOneOf n ns
later_of x n ns lt (inl same) = absurd (omega arith)
later_of x n ns lt (inr later) = later

no_less : (a b : ℕ) (bs : List ℕ) → Each (Below b) bs → IsOneOf a (b ∷ bs) → a < b → ⊥
no_less a b bs low (inl same) lt = absurd (omega arith)
no_less a b bs low (inr later) lt = let above = each_one (Below b) bs a low later in absurd (omega (arith, above, lt))

same_first : (x y : ℕ) (xs ys : List ℕ) → Each (Below x) xs → Each (Below y) ys → IsOneOf x (y ∷ ys) → IsOneOf y (x ∷ xs) → x ≡ y
same_first x y xs ys p q to back =
    elim (cases_lt x y) [
      | inl lt ↦ absurd (no_less x y ys q to lt)
      | inr le ↦ (elim (cases_lt y x) [ inl lt ↦ absurd (no_less y x xs p back lt) | inr ge ↦ omega (arith, le, ge) ])
    ]

same_members : (xs ys : List ℕ) → Pairs Below xs → Pairs Below ys → ((n : ℕ) → IsOneOf n xs → IsOneOf n ys) → ((n : ℕ) → IsOneOf n ys → IsOneOf n xs) → xs ≡ ys
same_members [] [] p q to back = refl
same_members [] (y ∷ ys) p q to back = absurd (back y (inl refl))
same_members (x ∷ xs) [] p q to back = absurd (to x (inl refl))
same_members (x ∷ xs) (y ∷ ys) p q to back =
    let first : x ≡ y = same_first x y xs ys p.0 q.0 (to x (inl refl)) (back y (inl refl)) in
    let rest : xs ≡ ys = same_members xs ys p.1 q.1
    (λ n one. let above = each_one (Below x) xs n p.0 one in later_of y n ys (omega (arith, above, first)) (to n (inr one)))
    (λ n one. let above = each_one (Below y) ys n q.0 one in later_of x n xs (omega (arith, above, first)) (back n (inr one))) in
    λ i. first i ∷ rest i

-- ---- the extents

abbrev number : ExtentItem → ℕ
number e = e.number

by_first : (n : ℕ) (e : ExtentItem) (es : List ExtentItem) → (list_any (is_numbered n) es ≡ true → IsOneOf n (map number es)) → (b : Bool) → is_numbered n e ≡ b → (is_numbered n e || list_any (is_numbered n) es) ≡ true → IsOneOf n (map number (e ∷ es))
by_first n e es rest true it h = inl (sym (exact_unsigned e.number n (is_equal _ it)))
by_first n e es rest false other h = inr (rest (sym (ap (λ b. b || list_any (is_numbered n) es) other) ∙ h))

listed_one : (n : ℕ) (es : List ExtentItem) → list_any (is_numbered n) es ≡ true → IsOneOf n (map number es)
listed_one n [] h = cc
listed_one n (e ∷ es) h = by_first n e es (listed_one n es) (is_numbered n e) refl h

one_listed : (n : ℕ) (es : List ExtentItem) → IsOneOf n (map number es) → list_any (is_numbered n) es ≡ true
one_listed n [] one = absurd one
one_listed n (e ∷ es) (inl same) = or_left (is_numbered n e) (list_any (is_numbered n) es) (ap (λ k. is_eq (nat_cmp k n)) (sym same) ∙ ap is_eq (tied_itself nat_cmp_total n))
one_listed n (e ∷ es) (inr later) = or_right (is_numbered n e) (list_any (is_numbered n) es) (one_listed n es later)

pub same_truth : (a b : Bool) → (a ≡ true → b ≡ true) → (b ≡ true → a ≡ true) → a ≡ b
same_truth true b to back = sym (to refl)
same_truth false true to back = back refl
same_truth false false to back = refl

module _ {X : Type 0} (place : ℕ → Option X) (ns : List ℕ) (asc : AreAscending (λ n. IsSome (place n)) ns) (es : List ExtentItem) where
  abbrev there : ℕ → Bool
  there n = is_some (place n)

  pub just_listed : map number es ≡ ns → AreListed there es
  just_listed same n =
      same_truth (there n) (list_any (is_numbered n) es)
      (λ some. one_listed n es (subst (IsOneOf n) (sym same) (one_of ns n ((asc.exact n).1 some))))
      (λ listed. (asc.exact n).0 (contains ns n (subst (IsOneOf n) same (listed_one n es listed))))

  pub listed_just : IsAscending extent_cmp es → AreListed there es → map number es ≡ ns
  listed_just up listed =
      same_members (map number es) ns
      (pairs_map number Below es (pairs_more (λ x y. extent_cmp x y ≡ _) (λ (x : ExtentItem) (y : ExtentItem). x.number < y.number) es (λ x y less. lt_of x.number y.number (ap is_lt less)) up))
      (in_order ns asc.ascend)
      (λ n one. one_of ns n ((asc.exact n).1 (listed n ∙ one_listed n es one)))
      (λ n one. listed_one n es (sym (listed n) ∙ (asc.exact n).0 (contains ns n one)))

  pub just_below : (next : ℕ) → Each (λ n. n < next) ns → AreBelow there next
  just_below next low n some = each_one (λ m. m < next) ns n low (one_of ns n ((asc.exact n).1 some))

  pub below_just : (next : ℕ) → AreBelow there next → Each (λ n. n < next) ns
  below_just next low = each_indexed (λ n. n < next) ns (λ k d lt. low (get_or ns k d) ((asc.exact (get_or ns k d)).0 (contains ns (get_or ns k d) (one_at ns k d lt))))
