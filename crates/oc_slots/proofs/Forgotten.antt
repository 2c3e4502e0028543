-- What stays kept, and that it is just what still has its place.
use Rattle.std.proofs.Common.{◌≡◌, ◌∙◌, ℕ, zero, suc, ◌<◌, Bool, true, false, cond, List, [], ◌∷◌, length, take, get_or, sym, ap, subst, refl, arith}
use Rattle.std.specs.Prelude.{All, Contains, IsTrue, IsSome, filter, not, unwrap_or, ◌||◌, ◌&&◌}
use Rattle.std.specs.List.{list_any}
use Rattle.std.specs.Map.{keys_of, lookup}
use Rattle.std.proofs.lemmas.List.{take-map}
use Rattle.std.proofs.lemmas.List.Elements.{All-cons, All-filter, All-take}
use Rattle.std.proofs.lemmas.Map.Views.{list_any-from_Contains}
use Rattle.indexmap.proofs.CallerLemmas.{Contains-list_any}
use Rattle.oc_layout.specs.declared.cells.Cell.{Cell}
use Rattle.oc_slots.specs.Maps.{bytes_at}
use Rattle.oc_slots.specs.Cached.{Cached, AreThose, is_cell, is_among, without, with_first, first_of}
use Rattle.oc_slots.specs.Stores.{AreRead}
use Rattle.oc_slots.proofs.CacheLists.{same_cell, is_itself, flips, cells_equal}
use Rattle.oc_slots.proofs.Things.{tail_of}

-- ---- cells among cells

turned : (c : Cell) (cells : List Cell) → is_among cells c ≡ list_any (is_cell c) cells
turned c [] = refl
turned c (x ∷ xs) = λ i. flips x c i || turned c xs i

pub among_contained : (cells : List Cell) (c : Cell) → Contains cells c → is_among cells c ≡ true
among_contained cells c there = turned c cells ∙ list_any-from_Contains cells_equal c cells there

pub contained_among : (cells : List Cell) (c : Cell) → is_among cells c ≡ true → Contains cells c
contained_among cells c e = Contains-list_any is_cell same_cell cells c (sym (turned c cells) ∙ e)

-- ---- places of what is kept

pub keys_without : (cells : List Cell) (es : Cached) → keys_of (without cells es) ≡ filter (λ c. not (is_among cells c)) (keys_of es)
keys_without cells [] = refl
keys_without cells (e ∷ es) = go (is_among cells e.0) refl (keys_without cells es)
  where
    go : (b : Bool) → is_among cells e.0 ≡ b → keys_of (without cells es) ≡ filter (λ c. not (is_among cells c)) (keys_of es)
        → keys_of (without cells (e ∷ es)) ≡ filter (λ c. not (is_among cells c)) (keys_of (e ∷ es))
    go true t rest = rw t rest
    go false t rest = rw t (ap (λ l. e.0 ∷ l) rest)

one_cell : (cell : Cell) (cells : List Cell) → filter (λ c. not (is_among (cell ∷ []) c)) cells ≡ filter (λ c. not (is_cell cell c)) cells
one_cell cell [] = refl
one_cell cell (c ∷ cs) = go (is_cell cell c) refl (one_cell cell cs)
  where
    go : (b : Bool) → is_cell cell c ≡ b → filter (λ c. not (is_among (cell ∷ []) c)) cs ≡ filter (λ c. not (is_cell cell c)) cs
        → filter (λ c. not (is_among (cell ∷ []) c)) (c ∷ cs) ≡ filter (λ c. not (is_cell cell c)) (c ∷ cs)
    go true t rest = rw t rest
    go false t rest = rw t (ap (λ l. c ∷ l) rest)

-- the slot that was fetched comes first
pub keys_first : (cell : Cell) (bytes : List ℕ) (es : Cached) → keys_of (with_first cell bytes es) ≡ first_of cell (keys_of es)
keys_first cell bytes es =
    sym (take-map (λ (e : Cell × List ℕ). e.0) 256 ((cell, bytes) ∷ without (cell ∷ []) es))
    ∙ ap (λ l. take 256 (cell ∷ l)) (keys_without (cell ∷ []) es ∙ one_cell cell (keys_of es))

pub found_key : (cell : Cell) (es : Cached) → Contains (keys_of es) cell → IsSome (lookup (is_cell cell) es)
found_key cell [] there = absurd (omega (arith, there.1))
found_key cell (e ∷ es) (i, lt, is) = go (is_cell cell e.0) refl i lt is (λ j below same. found_key cell es (j, below, same))
  where
    go : (b : Bool) → is_cell cell e.0 ≡ b → (i : ℕ) → i < length (keys_of (e ∷ es)) → get_or (keys_of (e ∷ es)) i cell ≡ cell
        → ((j : ℕ) → j < length (keys_of es) → get_or (keys_of es) j cell ≡ cell → IsSome (lookup (is_cell cell) es)) → IsSome (lookup (is_cell cell) (e ∷ es))
    go true t i lt is rest = rw t refl
    go false t zero lt is rest = absurd (clash (sym t ∙ ap (is_cell cell) is ∙ is_itself cell))
      where
        clash : false ≡ true → ⊥
        clash e = cc
    go false t (suc j) lt is rest = rw t (rest j (omega (arith, lt)) is)

-- ---- what holds of each

pub all_first : (P : Cell × List ℕ → Type 0) (cell : Cell) (bytes : List ℕ) (es : Cached) → P (cell, bytes) → All P es → All P (with_first cell bytes es)
all_first P cell bytes es here all = All-take P 256 ((cell, bytes) ∷ without (cell ∷ []) es) (All-cons P (cell, bytes) (without (cell ∷ []) es) here (All-filter (λ (e : Cell × List ℕ). not (is_among (cell ∷ []) e.0)) P es all))

-- what holds of those that aren't taken out
pub all_left : (P : Cell × List ℕ → Type 0) (cells : List Cell) (es : Cached) → All (λ e. is_among cells e.0 ≡ false → P e) es → All P (without cells es)
all_left P cells [] all = λ k d lt. absurd (omega (arith, lt))
all_left P cells (e ∷ es) all = go (is_among cells e.0) refl (all 0 e (omega arith)) (all_left P cells es (tail_of (λ e. is_among cells e.0 ≡ false → P e) e es all))
  where
    go : (b : Bool) → is_among cells e.0 ≡ b → (is_among cells e.0 ≡ false → P e) → All P (without cells es) → All P (without cells (e ∷ es))
    go true t here rest = subst (All P) (sym (gone t)) rest
      where
        gone : is_among cells e.0 ≡ true → without cells (e ∷ es) ≡ without cells es
        gone t = rw t refl
    go false t here rest = subst (All P) (sym (stays t)) (All-cons P e (without cells es) (here t) rest)
      where
        stays : is_among cells e.0 ≡ false → without cells (e ∷ es) ≡ e ∷ without cells es
        stays t = rw t refl

-- those that are left are just those of which P holds, where it holds of none that is taken out and of all others
pub exactly : (P : Cell → Type 0) (cells : List Cell) (es : Cached) → All (λ e. is_among cells e.0 ≡ false → P e.0) es → ((c : Cell) → Contains cells c → P c → ⊥) → AreThose P (keys_of es) (keys_of (without cells es))
exactly P cells es stays goes = record {
  test = λ c. not (is_among cells c);
  are = keys_without cells es;
  holds = both es stays;
}
  where
    clash : IsTrue false → ⊥
    clash e = cc

    one : (c : Cell) → (is_among cells c ≡ false → P c) → (b : Bool) → is_among cells c ≡ b → (IsTrue (not (is_among cells c)) → P c) × (P c → IsTrue (not (is_among cells c)))
    one c here true t = (λ yes_. absurd (clash (subst IsTrue (ap not t) yes_)), λ p. absurd (goes c (contained_among cells c t) p))
    one c here false t = (λ yes_. here t, λ p. subst IsTrue (sym (ap not t)) refl)

    both : (es : Cached) → All (λ e. is_among cells e.0 ≡ false → P e.0) es → All (λ c. (IsTrue (not (is_among cells c)) → P c) × (P c → IsTrue (not (is_among cells c)))) (keys_of es)
    both [] all = λ k d lt. absurd (omega (arith, lt))
    both (e ∷ es) all = All-cons (λ c. (IsTrue (not (is_among cells c)) → P c) × (P c → IsTrue (not (is_among cells c)))) e.0 (keys_of es) (one e.0 (all 0 e (omega arith)) (is_among cells e.0) refl)
        (both es (tail_of (λ e. is_among cells e.0 ≡ false → P e.0) e es all))

-- what is kept at a place is what the file has there
pub read_there : (unit : ℕ) (image : List ℕ) (cell : Cell) (es : Cached) → AreRead unit image es → unwrap_or (lookup (is_cell cell) es) (bytes_at unit image cell) ≡ bytes_at unit image cell
read_there unit image cell [] read = refl
read_there unit image cell (e ∷ es) read = go (is_cell cell e.0) refl (read_there unit image cell es (tail_of (λ e. e.1 ≡ bytes_at unit image e.0) e es read))
  where
    go : (b : Bool) → is_cell cell e.0 ≡ b → unwrap_or (lookup (is_cell cell) es) (bytes_at unit image cell) ≡ bytes_at unit image cell → unwrap_or (lookup (is_cell cell) (e ∷ es)) (bytes_at unit image cell) ≡ bytes_at unit image cell
    go true t rest = rw t (read 0 e (omega arith) ∙ ap (bytes_at unit image) (sym (same_cell cell e.0 t)))
    go false t rest = rw t rest

-- those of which P holds, and of these the ones of which Q holds, where Q holds of nothing else
pub those_then : (P Q : Cell → Type 0) (xs ys zs : List Cell) → ((c : Cell) → Q c → P c) → AreThose P xs ys → AreThose Q ys zs → AreThose Q xs zs
those_then P Q xs ys zs inside one two = record {
  test = λ c. one.test c && two.test c;
  are = two.are ∙ ap (filter two.test) one.are ∙ twice xs;
  holds = both xs one.holds (subst (All (λ c. (IsTrue (two.test c) → Q c) × (Q c → IsTrue (two.test c)))) one.are two.holds);
}
  where
    twice : (cs : List Cell) → filter two.test (filter one.test cs) ≡ filter (λ c. one.test c && two.test c) cs
    twice [] = refl
    twice (c ∷ cs) = step (one.test c) refl (twice cs)
      where
        step : (b : Bool) → one.test c ≡ b → filter two.test (filter one.test cs) ≡ filter (λ c. one.test c && two.test c) cs → filter two.test (filter one.test (c ∷ cs)) ≡ filter (λ c. one.test c && two.test c) (c ∷ cs)
        step true t rest = rw t (ap (λ l. cond (two.test c) (c ∷ l) l) rest)
        step false t rest = rw t rest

    none : IsTrue false → ⊥
    none e = cc

    both : (cs : List Cell) → All (λ c. (IsTrue (one.test c) → P c) × (P c → IsTrue (one.test c))) cs → All (λ c. (IsTrue (two.test c) → Q c) × (Q c → IsTrue (two.test c))) (filter one.test cs)
        → All (λ c. (IsTrue (one.test c && two.test c) → Q c) × (Q c → IsTrue (one.test c && two.test c))) cs
    both [] all again = λ k d lt. absurd (omega (arith, lt))
    both (c ∷ cs) all again =
        All-cons (λ c. (IsTrue (one.test c && two.test c) → Q c) × (Q c → IsTrue (one.test c && two.test c))) c cs (here (one.test c) refl again)
        (both cs (tail_of (λ c. (IsTrue (one.test c) → P c) × (P c → IsTrue (one.test c))) c cs all) (later (one.test c) refl again))
      where
        kept_here : one.test c ≡ true → filter one.test (c ∷ cs) ≡ c ∷ filter one.test cs
        kept_here t = rw t refl

        gone_here : one.test c ≡ false → filter one.test (c ∷ cs) ≡ filter one.test cs
        gone_here t = rw t refl

        later : (b : Bool) → one.test c ≡ b → All (λ c. (IsTrue (two.test c) → Q c) × (Q c → IsTrue (two.test c))) (filter one.test (c ∷ cs)) → All (λ c. (IsTrue (two.test c) → Q c) × (Q c → IsTrue (two.test c))) (filter one.test cs)
        later true t again = tail_of (λ c. (IsTrue (two.test c) → Q c) × (Q c → IsTrue (two.test c))) c (filter one.test cs) (subst (All (λ c. (IsTrue (two.test c) → Q c) × (Q c → IsTrue (two.test c)))) (kept_here t) again)
        later false t again = subst (All (λ c. (IsTrue (two.test c) → Q c) × (Q c → IsTrue (two.test c)))) (gone_here t) again

        here : (b : Bool) → one.test c ≡ b → All (λ c. (IsTrue (two.test c) → Q c) × (Q c → IsTrue (two.test c))) (filter one.test (c ∷ cs)) → (IsTrue (one.test c && two.test c) → Q c) × (Q c → IsTrue (one.test c && two.test c))
        here true t again =
            let first = subst (All (λ c. (IsTrue (two.test c) → Q c) × (Q c → IsTrue (two.test c)))) (kept_here t) again 0 c (omega arith) in
            (λ yes_. first.0 (subst IsTrue (ap (λ b. b && two.test c) t) yes_), λ q. subst IsTrue (sym (ap (λ b. b && two.test c) t)) (first.1 q))
        here false t again =
            (λ yes_. absurd (none (subst IsTrue (ap (λ b. b && two.test c) t) yes_)), λ q. absurd (none (subst IsTrue t ((all 0 c (omega arith)).1 (inside c q)))))
