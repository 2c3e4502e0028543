-- Pieces that are settled one by one.
use Rattle.std.proofs.Common.{◌≡◌, ◌∙◌, ap, ap₂, sym, refl, subst, inl, inr, ℕ, zero, suc, ◌+◌, ◌<◌, ◌≤◌, Bool, true, false, nat_lt, max, ◌||◌, List, [], ◌∷◌, ◌++◌, length, take, drop, get_or, set, flat_map, arith, append-nil}
use Rattle.std.specs.declared.cmp.Ordering.{Ordering}
use Rattle.std.specs.declared.cmp.Ordering.TheVariants.{Less}
use Rattle.std.proofs.lemmas.Bool.Decides.{nat_tests}
use Rattle.std.proofs.lemmas.List.{take_all, drop_all, take_more, take_more_set, take-set-le, drop-set-lt, length-set, drop-drop, get_or-set_same, take-set}
use Rattle.std.proofs.lemmas.List.Edits.{swap_is}
use Rattle.std.specs.List.{swap}
use Rattle.std.proofs.lemmas.Bool.{cases_lt}
use Rattle.std.proofs.lemmas.List.Concat.{flat_map-append}
use Rattle.oc_chunks.specs.declared.piece.Piece.{Piece}
use Rattle.oc_chunks.specs.declared.settling.Keep.{Keep}
use Rattle.oc_chunks.specs.declared.settling.Keep.TheVariants.{Now, Then}
use Rattle.oc_chunks.specs.Ascending.{Each, IsAscending}
use Rattle.oc_chunks.specs.Chunks.{Chunk, joined}
use Rattle.oc_chunks.specs.Pieces.{present, gone, shown, restored, chunk_now, chunks_now, chunks_then, was_chunks, IsSized, IsSizedWas, IsSound}
use Rattle.oc_chunks.specs.Settling.{IsSettled, IsKept, kept_chunks}
use Rattle.oc_chunks.proofs.Eaches.{each_append, pairs_front, pairs_rest, pairs_append, pairs_across, each_more}
use Rattle.oc_chunks.proofs.Views.{entries_of, joined_now, each_entry, each_present}
use Rattle.oc_chunks.proofs.Located.{around}

-- what stands at a place of lists that are alike from there on
pub same_rest : {X : Type 0} (xs ys : List X) (i : ℕ) (d : X) → i < length xs → drop i xs ≡ drop i ys → get_or xs i d ≡ get_or ys i d
same_rest [] ys i d lt is = absurd (omega arith)
same_rest (x ∷ xs) [] zero d lt is = cc
same_rest (x ∷ xs) (y ∷ ys) zero d lt is = cc
same_rest (x ∷ xs) [] (suc i) d lt is = from_nothing xs i d is
  where
    from_nothing : {X : Type 0} (xs : List X) (i : ℕ) (d : X) → drop i xs ≡ [] → get_or xs i d ≡ d
    from_nothing [] i d is = refl
    from_nothing (x ∷ xs) zero d is = cc
    from_nothing (x ∷ xs) (suc i) d is = from_nothing xs i d is
same_rest (x ∷ xs) (y ∷ ys) (suc i) d lt is = same_rest xs ys i d (omega arith) is

pub next_rest : {X : Type 0} (xs ys : List X) (i : ℕ) → drop i xs ≡ drop i ys → drop (i + 1) xs ≡ drop (i + 1) ys
next_rest xs ys i is = sym (drop-drop 1 i xs) ∙ ap (drop 1) is ∙ drop-drop 1 i ys

module _ {X : Type 0} where
  -- ---- what is settled is sound

  pub then_at : (cmp : X → X → Ordering) (ps : List (Piece X)) (i : ℕ) (q : Piece X) → i < length ps → q ≡ get_or ps i q → IsAscending cmp (joined (flat_map (chunks_then cmp) ps)) → IsAscending cmp (joined (chunks_then cmp q))
  then_at cmp ps i q lt read a =
      let R : X → X → Type 0 = λ u v. cmp u v ≡ Less in
      let before = flat_map (chunks_then cmp) (take i ps) in
      let after = flat_map (chunks_then cmp) (drop (suc i) ps) in
      let split : ps ≡ take i ps ++ q ∷ drop (suc i) ps = around i q ps lt ∙ ap (λ e. take i ps ++ e ∷ drop (suc i) ps) (sym read) in
      let all : joined (flat_map (chunks_then cmp) ps) ≡ joined before ++ (joined (chunks_then cmp q) ++ joined after) = ap joined (ap (flat_map (chunks_then cmp)) split ∙ flat_map-append (chunks_then cmp) (take i ps) (q ∷ drop (suc i) ps)) ∙ flat_map-append (λ c. c.entries) before (chunks_then cmp q ++ after) ∙ ap (λ l. joined before ++ l) (flat_map-append (λ c. c.entries) (chunks_then cmp q) after) in
      pairs_front R (joined (chunks_then cmp q)) (joined after) (pairs_rest R (joined before) (joined (chunks_then cmp q) ++ joined after) (subst (IsAscending cmp) all a))

  pub some_chunk : (l : List X) (c : Chunk X) → 1 ≤ length l → Rattle.oc_chunks.specs.Chunks.some_of l c ≡ c ∷ []
  some_chunk [] c le = absurd (omega arith)
  some_chunk (e ∷ l) c le = refl

  pub all_present : (p : Piece X) → IsSettled p → present p.part ≡ p.part.items.items
  all_present p s = take_all p.part.len p.part.items.items (omega (arith, s.whole))

  pub settled_now : (p : Piece X) → IsSettled p → chunks_now p ≡ chunk_now p.part ∷ []
  settled_now p s = some_chunk (present p.part) (chunk_now p.part) (omega (arith, ap length (all_present p s), s.whole, s.some))

  settled_then : (cmp : X → X → Ordering) (p : Piece X) → IsSettled p → chunks_then cmp p ≡ chunks_now p
  settled_then cmp p s =
      let none : gone p.part ≡ [] = drop_all p.part.len p.part.items.items (omega (arith, s.whole)) in
      let not_less : nat_lt p.part.len (length p.part.items.items) ≡ false = grind (arith, nat_tests, s.whole) in
      let changed : (p.part.changed || nat_lt p.part.len (length p.part.items.items)) ≡ p.part.changed = ap (λ b. p.part.changed || b) not_less ∙ or_false p.part.changed in
      ap (was_chunks cmp p.part) s.was ∙ ap₂ (λ l b. record { entries = restored cmp (present p.part) l; number = p.part.number; changed = b } ∷ []) none (sym changed) ∙ sym (settled_now p s)
    where
      or_false : (b : Bool) → (b || false) ≡ b
      or_false true = refl
      or_false false = refl

  pub settled_thens : (cmp : X → X → Ordering) (ps : List (Piece X)) → Each IsSettled ps → flat_map (chunks_then cmp) ps ≡ flat_map chunks_now ps
  settled_thens cmp [] s = refl
  settled_thens cmp (p ∷ ps) s = ap₂ (λ k l. k ++ l) (settled_then cmp p s.0) (settled_thens cmp ps s.1)

  pub settled_shown : (ps : List (Piece X)) → Each IsSettled ps → flat_map shown ps ≡ entries_of ps
  settled_shown [] s = refl
  settled_shown (p ∷ ps) s = ap₂ (λ k l. k ++ l) (ap (λ n. take n p.part.items.items) {x = max p.part.len 1} {y = p.part.len} (omega (arith, s.0.some))) (settled_shown ps s.1)

  pub settled_sized : (ps : List (Piece X)) → Each IsSettled ps → Each IsSized ps
  settled_sized [] s = tt
  settled_sized (p ∷ ps) s = (record { part = record { within = omega (arith, s.0.whole); few = s.0.few }; was = subst (IsSizedWas p.part) (sym s.0.was) (record { some = omega (arith, s.0.some, s.0.whole); within = omega (arith, s.0.whole); few = omega (arith, s.0.few, s.0.whole) }) }, settled_sized ps s.1)

  entries_across : (R : X → X → Type 0) (es : List X) (ps : List (Piece X)) → Each (λ x. Each (R x) (flat_map shown ps)) es → Each (λ x. Each (R x) (entries_of ps)) es
  entries_across R es ps a = each_more (λ x. Each (R x) (flat_map shown ps)) (λ x. Each (R x) (entries_of ps)) es (λ x. each_entry (R x) ps) a

  pub entries_ascend : (cmp : X → X → Ordering) (ps : List (Piece X)) → IsAscending cmp (flat_map shown ps) → IsAscending cmp (entries_of ps)
  entries_ascend cmp [] a = tt
  entries_ascend cmp (p ∷ ps) a =
      let R : X → X → Type 0 = λ u v. cmp u v ≡ Less in
      pairs_append R (present p.part) (entries_of ps) (own p.part.len refl) (entries_ascend cmp ps (pairs_rest R (shown p) (flat_map shown ps) a)) (entries_across R (present p.part) ps (each_present (λ x. Each (R x) (flat_map shown ps)) p (pairs_across R (shown p) (flat_map shown ps) a)))
    where
      own : (n : ℕ) → p.part.len ≡ n → IsAscending cmp (present p.part)
      own zero is = subst (λ k. IsAscending cmp (take k p.part.items.items)) (sym is) tt
      own (suc n) is = subst (λ k. IsAscending cmp (take k p.part.items.items)) {x = max p.part.len 1} (omega arith) (pairs_front (λ u v. cmp u v ≡ Less) (shown p) (flat_map shown ps) a)

  kept_ascend : (cmp : X → X → Ordering) (keep : Keep) (ps : List (Piece X)) → IsSound cmp ps → IsAscending cmp (joined (flat_map (kept_chunks cmp keep) ps))
  kept_ascend cmp Now ps s = subst (IsAscending cmp) (sym (joined_now ps)) (entries_ascend cmp ps s.ascending)
  kept_ascend cmp Then ps s = s.marked

  pub settled_sound : (cmp : X → X → Ordering) (keep : Keep) (ps new : List (Piece X)) → IsSound cmp ps → Each IsSettled new → flat_map chunks_now new ≡ flat_map (kept_chunks cmp keep) ps → IsSound cmp new
  settled_sound cmp keep ps new s settled chunks =
      let now : IsAscending cmp (joined (flat_map chunks_now new)) = subst (λ l. IsAscending cmp (joined l)) (sym chunks) (kept_ascend cmp keep ps s) in
      record {
        sized = settled_sized new settled;
        ascending = subst (IsAscending cmp) (joined_now new ∙ sym (settled_shown new settled)) now;
        marked = subst (λ l. IsAscending cmp (joined l)) (sym (settled_thens cmp new settled)) now;
      }

  -- ---- one step

  pub record Stepped (cmp : X → X → Ordering) (keep : Keep) (init ps : List (Piece X)) (kept at : ℕ) : Type 0 where
    pub behind : kept ≤ at
    pub long : length ps ≡ length init
    pub rest : drop at ps ≡ drop at init
    pub settled : Each IsSettled (take kept ps)
    pub chunks : flat_map chunks_now (take kept ps) ≡ flat_map (kept_chunks cmp keep) (take at init)

  module _ (cmp : X → X → Ordering) (keep : Keep) (init ps : List (Piece X)) (kept at : ℕ) (s : Stepped cmp keep init ps kept at) (lt : at < length ps) (q n : Piece X) (read : q ≡ get_or ps at q) where
    one_more : flat_map (kept_chunks cmp keep) (take (at + 1) init) ≡ flat_map (kept_chunks cmp keep) (take at init) ++ (kept_chunks cmp keep q ++ [])
    one_more = ap (flat_map (kept_chunks cmp keep)) (take_more init at q (omega (arith, s.long))) ∙ flat_map-append (kept_chunks cmp keep) (take at init) (get_or init at q ∷ []) ∙ ap (λ e. flat_map (kept_chunks cmp keep) (take at init) ++ (kept_chunks cmp keep e ++ [])) (sym (read ∙ same_rest ps init at q lt s.rest))

    set_rest : drop (at + 1) (set ps at n) ≡ drop (at + 1) init
    set_rest = drop-set-lt (at + 1) ps at n (omega arith) ∙ next_rest ps init at s.rest

    pub step_gone : kept_chunks cmp keep q ≡ [] → Stepped cmp keep init (set ps at n) kept (at + 1)
    step_gone none = record {
      behind = omega (arith, s.behind);
      long = length-set ps at n ∙ s.long;
      rest = set_rest;
      settled = subst (Each IsSettled) (sym (take-set-le kept ps at n s.behind)) s.settled;
      chunks = ap (flat_map chunks_now) (take-set-le kept ps at n s.behind) ∙ s.chunks ∙ sym (one_more ∙ ap (λ l. flat_map (kept_chunks cmp keep) (take at init) ++ (l ++ [])) none ∙ append-nil (flat_map (kept_chunks cmp keep) (take at init)));
    }

    abbrev xs : List (Piece X)
    xs = set ps at n

    abbrev y : Piece X
    y = get_or xs kept q

    n_at : get_or xs at q ≡ n
    n_at = get_or-set_same ps at n q lt

    swapped : swap xs kept at ≡ set (set xs kept n) at y
    swapped = sym (swap_is xs kept at q (omega (arith, s.behind, length-set ps at n)) (omega (arith, length-set ps at n))) ∙ ap (λ e. set (set xs kept e) at y) n_at

    front : take (kept + 1) (set (set xs kept n) at y) ≡ take kept ps ++ n ∷ []
    front = elim (cases_lt kept at) [
      | inl less ↦ take-set-le (kept + 1) (set xs kept n) at y (omega arith) ∙ take_more_set xs kept n (omega (arith, s.behind, length-set ps at n)) ∙ ap (λ l. l ++ n ∷ []) (take-set-le kept ps at n s.behind)
      | inr more ↦
          let same : kept ≡ at = omega (arith, s.behind) in
          let y_is : y ≡ n = ap (λ k. get_or xs k q) same ∙ n_at in
          ap (λ k. take (k + 1) (set (set xs kept n) at y)) same ∙ take_more_set (set xs kept n) at y (omega (arith, length-set xs kept n, length-set ps at n)) ∙ ap₂ (λ k e. k ++ e ∷ []) (ap (λ k. take k (set xs kept n)) (sym same) ∙ take-set xs kept n ∙ take-set-le kept ps at n s.behind) y_is
    ]

    pub step_kept : IsKept (kept_chunks cmp keep q) n → (new : List (Piece X)) → new ≡ swap xs kept at → Stepped cmp keep init new (kept + 1) (at + 1)
    step_kept k new is =
        let new_is : new ≡ set (set xs kept n) at y = is ∙ swapped in
        record {
          behind = omega (arith, s.behind);
          long = ap length new_is ∙ length-set (set xs kept n) at y ∙ length-set xs kept n ∙ length-set ps at n ∙ s.long;
          rest = ap (drop (at + 1)) new_is ∙ drop-set-lt (at + 1) (set xs kept n) at y (omega arith) ∙ drop-set-lt (at + 1) xs kept n (omega (arith, s.behind)) ∙ set_rest;
          settled = subst (Each IsSettled) (sym (ap (take (kept + 1)) new_is ∙ front)) (each_append IsSettled (take kept ps) (n ∷ []) s.settled (k.settled, tt));
          chunks = ap (flat_map chunks_now) (ap (take (kept + 1)) new_is ∙ front) ∙ flat_map-append chunks_now (take kept ps) (n ∷ []) ∙ ap₂ (λ a b. a ++ (b ++ [])) s.chunks (settled_now n k.settled ∙ sym k.chunk) ∙ sym one_more;
        }
