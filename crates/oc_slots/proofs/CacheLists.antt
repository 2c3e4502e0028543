-- What a cache keeps after a look-up, after a slot is put, and after one is taken out.
use Rattle.std.proofs.Common.{◌≡◌, ◌∙◌, inl, inr, ℕ, ◌+◌, ◌-◌, ◌≤◌, Bool, true, false, List, [], ◌∷◌, ◌++◌, length, take, Option, Some, None, sym, ap, subst, refl, arith}
use Rattle.std.specs.Prelude.{not, ◌||◌}
use Rattle.std.specs.Cmp.{IsEquivalence}
use Rattle.std.specs.List.{AllByRecursion, IsDistinct}
use Rattle.std.specs.Map.{keys_of, lookup, lookup_entry, remove_entry}
use Rattle.std.specs.Option.{option_map, option_map_or}
use Rattle.std.proofs.lemmas.Bool.{cases_Bool}
use Rattle.std.proofs.lemmas.Bool.Decides.{nat_tests}
use Rattle.std.proofs.lemmas.List.{take_all, take-map, length-take}
use Rattle.std.proofs.lemmas.List.Folds.{list_any-append}
use Rattle.std.proofs.lemmas.List.Sums.{length-filter, count_by-le-length}
use Rattle.std.proofs.lemmas.Map.{NonePasses, none_passes_from_lookup}
use Rattle.std.proofs.lemmas.Map.Entries.{none_past_head}
use Rattle.std.proofs.lemmas.Map.Keys.{IsDistinct-tail, IsDistinct-cons}
use Rattle.std.proofs.lemmas.Map.Made.{IsDistinct-keys_filter}
use Rattle.indexmap.proofs.MapLemmas.{distinct-take}
use Rattle.lru.specs.LruCache.{LruCache, promoted, put_entries}
use Rattle.lru.proofs.CallerLemmas.{Contains-lookup_entry}
use Rattle.lru.proofs.Pairs.{lookup-lookup_entry}
use Rattle.oc_layout.specs.declared.cells.Cell.{Cell}
use Rattle.oc_slots.specs.Cached.{Cached, IsCache, is_cell, is_among, without, with_first}

-- ---- the test of cells

pub same_cell : (a b : Cell) → is_cell a b ≡ true → a ≡ b
same_cell a b e =
    let at : a.at ≡ b.at = grind (arith, nat_tests, e) in
    let len : a.len ≡ b.len = grind (arith, nat_tests, e) in
    λ i. record { at = at i; len = len i }

pub is_itself : (a : Cell) → is_cell a a ≡ true
is_itself a = grind (arith, nat_tests)

pub flips : (a b : Cell) → is_cell a b ≡ is_cell b a
flips a b = elim (cases_Bool (is_cell a b)) [
  | inl yes_ ↦ let e = same_cell a b yes_ in (λ i. is_cell (e i) b) ∙ (λ i. is_cell b (sym e i))
  | inr no_ ↦ elim (cases_Bool (is_cell b a)) [
    | inl back ↦ let e = same_cell b a back in (λ i. is_cell a (e i)) ∙ (λ i. is_cell (sym e i) a)
    | inr neither ↦ no_ ∙ sym neither
  ]
]

agree : (a b c : Cell) → is_cell a b ≡ true → is_cell a c ≡ is_cell b c
agree a b c e i = is_cell (same_cell a b e i) c

pub cells_equal : IsEquivalence is_cell
cells_equal = record { refl = is_itself; symm = flips; congr = agree }

-- ---- what is left without one place

-- where the place isn't there nothing goes
kept_none : (cell : Cell) (es : Cached) → NonePasses (is_cell cell) es → without (cell ∷ []) es ≡ es
kept_none cell [] none = refl
kept_none cell (e ∷ es) none = rw none.0 (ap (λ l. e ∷ l) (kept_none cell es none.1))

pub removed_is : (cell : Cell) (es : Cached) → IsDistinct is_cell (keys_of es) → remove_entry (is_cell cell) es ≡ without (cell ∷ []) es
removed_is cell [] distinct = refl
removed_is cell (e ∷ es) distinct = go (is_cell cell e.0) refl (removed_is cell es (IsDistinct-tail is_cell e.0 (keys_of es) distinct))
  where
    go : (b : Bool) → is_cell cell e.0 ≡ b → remove_entry (is_cell cell) es ≡ without (cell ∷ []) es → remove_entry (is_cell cell) (e ∷ es) ≡ without (cell ∷ []) (e ∷ es)
    go true t rest = rw t (sym (kept_none cell es (none_past_head cells_equal cell e es distinct t)))
    go false t rest = rw t (ap (λ l. e ∷ l) rest)

no_longer : (cells : List Cell) (es : Cached) → length (without cells es) ≤ length es
no_longer cells es = omega (arith, length-filter (λ (e : Cell × List ℕ). not (is_among cells e.0)) es, count_by-le-length (λ (e : Cell × List ℕ). not (is_among cells e.0)) es)

shorter : (cell : Cell) (es : Cached) (f : Cell × List ℕ) → lookup_entry (is_cell cell) es ≡ Some f → length (without (cell ∷ []) es) + 1 ≤ length es
shorter cell [] f found = absurd (clash found)
  where
    clash : None ≡ Some f → ⊥
    clash e = cc
shorter cell (e ∷ es) f found = go (is_cell cell e.0) refl (shorter cell es f) found
  where
    go : (b : Bool) → is_cell cell e.0 ≡ b → (lookup_entry (is_cell cell) es ≡ Some f → length (without (cell ∷ []) es) + 1 ≤ length es) → lookup_entry (is_cell cell) (e ∷ es) ≡ Some f
        → length (without (cell ∷ []) (e ∷ es)) + 1 ≤ length (e ∷ es)
    go true t rest found = rw t (omega (arith, no_longer (cell ∷ []) es))
    go false t rest found = rw t (omega (arith, rest (sym (later t) ∙ found)))
      where
        later : is_cell cell e.0 ≡ false → lookup_entry (is_cell cell) (e ∷ es) ≡ lookup_entry (is_cell cell) es
        later t = rw t refl

-- ---- what a look-up and a put leave

module _ (cell : Cell) (es : Cached) (few : length es ≤ 256) (distinct : IsDistinct is_cell (keys_of es)) where
  front : (f : Cell × List ℕ) (bytes : List ℕ) → lookup_entry (is_cell cell) es ≡ Some f → (f.0, bytes) ∷ remove_entry (is_cell cell) es ≡ with_first cell bytes es
  front f bytes found =
      let at : f.0 ≡ cell = sym (same_cell cell f.0 (Contains-lookup_entry (is_cell cell) es f found).1) in
      let all = take_all 255 (without (cell ∷ []) es) (omega (arith, shorter cell es f found, few)) in
      (λ i. (at i, bytes) ∷ removed_is cell es distinct i) ∙ (λ i. (cell, bytes) ∷ sym all i)

  pub promoted_is : (bytes : List ℕ) → lookup (is_cell cell) es ≡ Some bytes → promoted (is_cell cell) es ≡ with_first cell bytes es
  promoted_is bytes found = go (lookup_entry (is_cell cell) es) refl
    where
      clash : None ≡ Some bytes → ⊥
      clash e = cc

      value : (f : Cell × List ℕ) → Some f.1 ≡ Some bytes → f.1 ≡ bytes
      value f e = cc

      go : (o : Option (Cell × List ℕ)) → lookup_entry (is_cell cell) es ≡ o → promoted (is_cell cell) es ≡ with_first cell bytes es
      go None e = absurd (clash (ap (option_map (λ (f : Cell × List ℕ). f.1)) (sym e) ∙ lookup-lookup_entry (is_cell cell) es ∙ found))
      go (Some f) e =
          let same = value f (ap (option_map (λ (f : Cell × List ℕ). f.1)) (sym e) ∙ lookup-lookup_entry (is_cell cell) es ∙ found) in
          ap (λ o. option_map_or (λ (f : Cell × List ℕ). f ∷ remove_entry (is_cell cell) es) o es) e
          ∙ front f f.1 e ∙ ap (λ b. with_first cell b es) same

  pub put_is : (cap : ℕ) (bytes : List ℕ) → cap ≡ 256 → put_entries is_cell (record { entries = es; cap = cap }) cell bytes ≡ with_first cell bytes es
  put_is cap bytes most = go (lookup_entry (is_cell cell) es) refl
    where
      none : lookup_entry (is_cell cell) es ≡ None → lookup (is_cell cell) es ≡ None
      none e = sym (lookup-lookup_entry (is_cell cell) es) ∙ ap (option_map (λ (f : Cell × List ℕ). f.1)) e

      go : (o : Option (Cell × List ℕ)) → lookup_entry (is_cell cell) es ≡ o → put_entries is_cell (record { entries = es; cap = cap }) cell bytes ≡ with_first cell bytes es
      go None e =
          ap (λ o. option_map_or (λ (f : Cell × List ℕ). (f.0, bytes) ∷ remove_entry (is_cell cell) es) o ((cell, bytes) ∷ take (cap - 1) es)) e
          ∙ (λ i. (cell, bytes) ∷ take (most i - 1) (sym (kept_none cell es (none_passes_from_lookup (is_cell cell) es (none e))) i))
      go (Some f) e =
          ap (λ o. option_map_or (λ (f : Cell × List ℕ). (f.0, bytes) ∷ remove_entry (is_cell cell) es) o ((cell, bytes) ∷ take (cap - 1) es)) e
          ∙ front f bytes e

-- ---- no place twice

others : (cell : Cell) (es : Cached) → AllByRecursion (λ y. is_cell cell y ≡ false) (keys_of (without (cell ∷ []) es))
others cell [] = tt
others cell (e ∷ es) = go (is_cell cell e.0) refl (others cell es)
  where
    go : (b : Bool) → is_cell cell e.0 ≡ b → AllByRecursion (λ y. is_cell cell y ≡ false) (keys_of (without (cell ∷ []) es)) → AllByRecursion (λ y. is_cell cell y ≡ false) (keys_of (without (cell ∷ []) (e ∷ es)))
    go true t rest = rw t rest
    go false t rest = subst (λ l. AllByRecursion (λ y. is_cell cell y ≡ false) (keys_of l)) (sym (stays t)) (t, rest)
      where
        stays : is_cell cell e.0 ≡ false → without (cell ∷ []) (e ∷ es) ≡ e ∷ without (cell ∷ []) es
        stays t = rw t refl

first_distinct : (cell : Cell) (bytes : List ℕ) (es : Cached) → IsDistinct is_cell (keys_of es) → IsDistinct is_cell (keys_of (with_first cell bytes es))
first_distinct cell bytes es distinct =
    subst (IsDistinct is_cell) (take-map (λ (e : Cell × List ℕ). e.0) 256 ((cell, bytes) ∷ without (cell ∷ []) es))
    (distinct-take cells_equal 256 (cell ∷ keys_of (without (cell ∷ []) es))
    (IsDistinct-cons is_cell cell (keys_of (without (cell ∷ []) es)) (others cell es) (IsDistinct-keys_filter is_cell (λ e. not (is_among (cell ∷ []) e.0)) es distinct)))

pub cache_first : (c d : LruCache Cell (List ℕ)) (cell : Cell) (bytes : List ℕ) → IsCache c → d.cap ≡ c.cap → d.entries ≡ with_first cell bytes c.entries → IsCache d
cache_first c d cell bytes is cap now = record {
  most = cap ∙ is.most;
  few = omega (arith, ap length now, length-take 256 ((cell, bytes) ∷ without (cell ∷ []) c.entries));
  distinct = subst (λ l. IsDistinct is_cell (keys_of l)) (sym now) (first_distinct cell bytes c.entries is.distinct);
}

pub cache_without : (c d : LruCache Cell (List ℕ)) (cells : List Cell) → IsCache c → d.cap ≡ c.cap → d.entries ≡ without cells c.entries → IsCache d
cache_without c d cells is cap now = record {
  most = cap ∙ is.most;
  few = omega (arith, ap length now, no_longer cells c.entries, is.few);
  distinct = subst (λ l. IsDistinct is_cell (keys_of l)) (sym now) (IsDistinct-keys_filter is_cell (λ e. not (is_among cells e.0)) c.entries is.distinct);
}

-- ---- several places, one after another

pub without_more : (xs ys : List Cell) (es : Cached) → without (xs ++ ys) es ≡ without ys (without xs es)
without_more xs ys [] = refl
without_more xs ys (e ∷ es) = go (is_among xs e.0) (is_among ys e.0) refl refl (without_more xs ys es)
  where
    go : (a b : Bool) → is_among xs e.0 ≡ a → is_among ys e.0 ≡ b → without (xs ++ ys) es ≡ without ys (without xs es) → without (xs ++ ys) (e ∷ es) ≡ without ys (without xs (e ∷ es))
    go true b t s rest = skip (list_any-append (λ x. is_cell x e.0) xs ys ∙ ap (λ q. q || is_among ys e.0) t)
      where
        skip : is_among (xs ++ ys) e.0 ≡ true → without (xs ++ ys) (e ∷ es) ≡ without ys (without xs (e ∷ es))
        skip u = rw (u, t) rest
    go false true t s rest = skip (list_any-append (λ x. is_cell x e.0) xs ys ∙ ap (λ q. q || is_among ys e.0) t ∙ s)
      where
        skip : is_among (xs ++ ys) e.0 ≡ true → without (xs ++ ys) (e ∷ es) ≡ without ys (without xs (e ∷ es))
        skip u = rw (u, t, s) rest
    go false false t s rest = skip (list_any-append (λ x. is_cell x e.0) xs ys ∙ ap (λ q. q || is_among ys e.0) t ∙ s)
      where
        skip : is_among (xs ++ ys) e.0 ≡ false → without (xs ++ ys) (e ∷ es) ≡ without ys (without xs (e ∷ es))
        skip u = rw (u, t, s) (ap (λ l. e ∷ l) rest)

pub without_none : (es : Cached) → without [] es ≡ es
without_none [] = refl
without_none (e ∷ es) = ap (λ l. e ∷ l) (without_none es)
