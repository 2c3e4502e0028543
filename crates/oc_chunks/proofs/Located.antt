-- What the two searches of a place give.
use Rattle.std.proofs.Common.{◌≡◌, ◌⊎◌, ◌∙◌, ap, sym, refl, subst, inl, inr, ℕ, zero, suc, ◌-◌, ◌<◌, ◌≤◌, Bool, true, false, not, max, List, [], ◌∷◌, ◌++◌, length, take, drop, get_or, flat_map, arith}
use Rattle.std.specs.Ordering.{is_gt}
use Rattle.std.specs.declared.cmp.Ordering.{Ordering}
use Rattle.std.specs.declared.cmp.Ordering.TheVariants.{Less, Equal, Greater}
use Rattle.std.specs.List.{AllWithin}
use Rattle.std.specs.List.Sorted.{IsPartitionedBy}
use Rattle.std.proofs.lemmas.Bool.{false≢true, true≢false}
use Rattle.std.proofs.lemmas.List.{length-take-le, drop_at}
use Rattle.std.proofs.lemmas.List.Concat.{flat_map-append}
use Rattle.oc_chunks.specs.declared.piece.Piece.{Piece}
use Rattle.oc_chunks.specs.Ascending.{Each, Pairs, IsAscending}
use Rattle.oc_chunks.specs.Pieces.{present, shown, is_upto, begins, begins_in, IsBegun, IsLater, Place}
use Rattle.oc_chunks.proofs.Eaches.{each_append, each_rest, each_more, each_drop, each_within, each_behind, pairs_front, pairs_rest, pairs_across, partitioned, pairs_more}

-- a list around the place i
pub around : {X : Type 0} (i : ℕ) (d : X) (xs : List X) → i < length xs → xs ≡ take i xs ++ get_or xs i d ∷ drop (suc i) xs
around i d [] lt = absurd (omega arith)
around zero d (x ∷ xs) lt = refl
around (suc i) d (x ∷ xs) lt = ap (λ l. x ∷ l) (around i d xs (omega arith))

module _ {X : Type 0} (cmp : X → X → Ordering) (side : X → Ordering) (parts : (x y : X) → cmp x y ≡ Less → (side x ≡ Less) ⊎ (side y ≡ Greater)) where
  abbrev Below : X → X → Type 0
  Below x y = cmp x y ≡ Less

  abbrev AllBelow : List X → X → Type 0
  AllBelow ys x = Each (Below x) ys

  abbrev IsLow : X → Type 0
  IsLow e = side e ≡ Less

  abbrev IsBehind : X → Type 0
  IsBehind e = side e ≡ Greater

  not_behind : (r : Ordering) → not (is_gt r) ≡ true → r ≡ Greater → ⊥
  not_behind r it is = absurd (false≢true (sym (ap (λ o. not (is_gt o)) is) ∙ it))

  pub behind_it : (r : Ordering) → not (is_gt r) ≡ false → r ≡ Greater
  behind_it Less off = absurd (true≢false off)
  behind_it Equal off = absurd (true≢false off)
  behind_it Greater off = refl

  -- what is below something that isn't behind the place is before it
  low_below : (x y : X) → cmp x y ≡ Less → is_upto side y ≡ true → side x ≡ Less
  low_below x y below it = elim (parts x y below) [ inl less ↦ less | inr greater ↦ absurd (not_behind (side y) it greater) ]

  high_above : (x y : X) → cmp x y ≡ Less → is_upto side x ≡ false → side y ≡ Greater
  high_above x y below off = elim (parts x y below) [ inl less ↦ absurd (true≢false (sym (ap (λ o. not (is_gt o)) less) ∙ off)) | inr greater ↦ greater ]

  upto_below : (x y : X) → cmp x y ≡ Less → is_upto side y ≡ true → is_upto side x ≡ true
  upto_below x y below it = ap (λ o. not (is_gt o)) (low_below x y below it)

  pub entries_part : (xs : List X) → IsAscending cmp xs → IsPartitionedBy (is_upto side) xs
  entries_part xs ascending = partitioned (is_upto side) xs (pairs_more Below (λ x y. is_upto side y ≡ true → is_upto side x ≡ true) xs upto_below ascending)

  -- ---- pieces

  -- a piece's first entry, as the search sees it
  record Head (p : Piece X) : Type 0 where
    first : X
    rest : List X
    behind : List X
    items : p.part.items.items ≡ first ∷ behind
    sees : shown p ≡ first ∷ rest

  -- a piece that has an entry, there or gone
  head : (p : Piece X) (e : X) (es : List X) → p.part.items.items ≡ e ∷ es → Head p
  head p e es is =
      let t = take_one (max p.part.len 1) e es (omega arith) in
      record { first = e; rest = t.0; behind = es; items = is; sees = ap (take (max p.part.len 1)) is ∙ t.1 }
    where
      take_one : (n : ℕ) (e : X) (l : List X) → 1 ≤ n → (es : List X) × (take n (e ∷ l) ≡ e ∷ es)
      take_one zero e l le = absurd (omega arith)
      take_one (suc n) e l le = (take n l, refl)

  -- a piece that has begun has an entry
  begun_head : (p : Piece X) → begins side p ≡ true → Head p
  begun_head p it = of_items p.part.items.items refl
    where
      of_items : (l : List X) → p.part.items.items ≡ l → Head p
      of_items [] is = absurd (false≢true (sym (ap (begins_in side) is) ∙ it))
      of_items (e ∷ l) is = head p e l is

  shows_nothing : (p : Piece X) → p.part.items.items ≡ [] → shown p ≡ []
  shows_nothing p is = ap (take (max p.part.len 1)) is ∙ take_nothing (max p.part.len 1)
    where
      take_nothing : (n : ℕ) → take {A = X} n [] ≡ []
      take_nothing zero = refl
      take_nothing (suc n) = refl

  begins_head : (p : Piece X) (h : Head p) → begins side p ≡ is_upto side h.first
  begins_head p h = ap (begins_in side) h.items

  -- behind a piece that begins later none has begun
  begun_before : (p : Piece X) (ps : List (Piece X)) → (h : Head p) → begins side p ≡ false → Each (Below h.first) (flat_map shown ps) → Each (IsLater side) ps
  begun_before p [] h off low = tt
  begun_before p (q ∷ ps) h off low = (of_begun (begins side q) refl, begun_before p ps h off (each_rest (Below h.first) (shown q) (flat_map shown ps) low))
    where
      of_begun : (b : Bool) → begins side q ≡ b → begins side q ≡ false
      of_begun false is = is
      of_begun true is =
          let k = begun_head q is in
          let first : cmp h.first k.first ≡ Less = (subst (λ l. Each (Below h.first) (l ++ flat_map shown ps)) k.sees low).0 in
          absurd (false≢true (sym off ∙ begins_head p h ∙ upto_below h.first k.first first (sym (begins_head q k) ∙ is)))

  head_below : (p : Piece X) (ys : List X) (h : Head p) → Pairs Below (shown p ++ ys) → Each (Below h.first) ys
  head_below p ys h a = (subst (λ l. Each (AllBelow ys) l) h.sees (pairs_across Below (shown p) ys a)).0

  -- the pieces that have not begun lie behind the place
  all_behind : (ps : List (Piece X)) → IsAscending cmp (flat_map shown ps) → Each (IsLater side) ps → Each IsBehind (flat_map shown ps)
  all_behind [] a off = tt
  all_behind (p ∷ ps) a off = each_append IsBehind (shown p) (flat_map shown ps) (of_items p.part.items.items refl) (all_behind ps (pairs_rest Below (shown p) (flat_map shown ps) a) off.1)
    where
      of_items : (l : List X) → p.part.items.items ≡ l → Each IsBehind (shown p)
      of_items [] is = subst (Each IsBehind) (sym (shows_nothing p is)) tt
      of_items (e ∷ l) is =
          let h = head p e l is in
          let off_head : is_upto side h.first ≡ false = sym (begins_head p h) ∙ off.0 in
          let own : IsAscending cmp (h.first ∷ h.rest) = subst (IsAscending cmp) h.sees (pairs_front Below (shown p) (flat_map shown ps) a) in
          subst (Each IsBehind) (sym h.sees) (behind_it (side h.first) off_head, each_more (Below h.first) IsBehind h.rest (λ y below. high_above h.first y below off_head) own.0)

  -- the pieces before one that has begun lie before the place
  all_low : (before : List (Piece X)) (p : Piece X) (after : List (Piece X)) → begins side p ≡ true → IsAscending cmp (flat_map shown (before ++ p ∷ after)) → Each IsLow (flat_map shown before)
  all_low before p after it a =
      let h = begun_head p it in
      let joined : IsAscending cmp (flat_map shown before ++ flat_map shown (p ∷ after)) = subst (IsAscending cmp) (flat_map-append shown before (p ∷ after)) a in
      let across : Each (AllBelow ((h.first ∷ h.rest) ++ flat_map shown after)) (flat_map shown before) = subst (λ l. Each (AllBelow (l ++ flat_map shown after)) (flat_map shown before)) h.sees (pairs_across Below (flat_map shown before) (shown p ++ flat_map shown after) joined) in
      each_more (AllBelow ((h.first ∷ h.rest) ++ flat_map shown after)) IsLow (flat_map shown before) (λ x below. low_below x h.first below.0 (sym (begins_head p h) ∙ it)) across

  pub present_ascends : (p : Piece X) → IsAscending cmp (shown p) → IsAscending cmp (present p.part)
  present_ascends p a = ascends p.part.len refl
    where
      ascends : (n : ℕ) → p.part.len ≡ n → IsAscending cmp (present p.part)
      ascends zero is = subst (λ k. IsAscending cmp (take k p.part.items.items)) (sym is) tt
      ascends (suc n) is = subst (λ k. IsAscending cmp (take k p.part.items.items)) {x = max p.part.len 1} (omega arith) a

  module _ (ps : List (Piece X)) (ascending : IsAscending cmp (flat_map shown ps)) (i : ℕ) (p : Piece X) (within : i < length ps) (is : p ≡ get_or ps i p) where
    split : ps ≡ take i ps ++ p ∷ drop (suc i) ps
    split = around i p ps within ∙ ap (λ q. take i ps ++ q ∷ drop (suc i) ps) (sym is)

    ascending_parts : IsAscending cmp (flat_map shown (take i ps ++ p ∷ drop (suc i) ps))
    ascending_parts = subst (λ l. IsAscending cmp (flat_map shown l)) split ascending

    ascending_from : IsAscending cmp (shown p ++ flat_map shown (drop (suc i) ps))
    ascending_from = pairs_rest Below (flat_map shown (take i ps)) (flat_map shown (p ∷ drop (suc i) ps)) (subst (IsAscending cmp) (flat_map-append shown (take i ps) (p ∷ drop (suc i) ps)) ascending_parts)

    pub piece_ascends : IsAscending cmp (present p.part)
    piece_ascends = present_ascends p (pairs_front Below (shown p) (flat_map shown (drop (suc i) ps)) ascending_from)

    -- no piece has begun from one on that has an entry and begins later
    pub later_from : 1 ≤ length p.part.items.items → begins side p ≡ false → Each (IsLater side) (drop i ps)
    later_from some off = of_items p.part.items.items refl
      where
        at_place : drop i ps ≡ p ∷ drop (suc i) ps
        at_place = ap (drop i) split ∙ drop_at (take i ps) (p ∷ drop (suc i) ps) i (length-take-le i ps (omega arith))

        of_items : (l : List X) → p.part.items.items ≡ l → Each (IsLater side) (drop i ps)
        of_items [] none = absurd (omega (arith, some, ap length none))
        of_items (e ∷ l) has =
            let h = head p e l has in
            subst (Each (IsLater side)) (sym at_place) (off, begun_before p (drop (suc i) ps) h off (head_below p (flat_map shown (drop (suc i) ps)) h ascending_from))

    low_of : (begun : ℕ) → i ≡ begun - 1 → IsBegun side ps begun → Each IsLow (flat_map shown (take i ps))
    low_of zero last on = subst (λ k. Each IsLow (flat_map shown (take k ps))) {x = 0} (omega arith) tt
    low_of (suc n) last on = all_low (take i ps) p (drop (suc i) ps) (ap (begins side) is ∙ on i p (omega arith)) ascending_parts

    rest_off : (begun : ℕ) → i ≡ begun - 1 → Each (IsLater side) (drop begun ps) → Each (IsLater side) (drop (suc i) ps)
    rest_off zero last off = each_drop (IsLater side) (suc i) ps off
    rest_off (suc n) last off = subst (λ k. Each (IsLater side) (drop k ps)) {x = suc n} {y = suc i} (omega arith) off

    pub place : (begun at : ℕ) → p.part.len ≤ length p.part.items.items → i ≡ begun - 1 → IsBegun side ps begun → Each (IsLater side) (drop begun ps) → at ≤ length (present p.part) → AllWithin (λ e. is_upto side e ≡ true) (present p.part) 0 at → AllWithin (λ e. is_upto side e ≡ false) (present p.part) at (length (present p.part)) → Place side ps i at
    place begun at long last on off in_range upto behind = record {
      before = take i ps;
      piece = p;
      after = drop (suc i) ps;
      split = split;
      index = length-take-le i ps (omega arith);
      within = omega (arith, in_range, length-take-le p.part.len p.part.items.items long);
      low = low_of begun last on;
      upto = each_within (λ e. is_upto side e ≡ true) at (present p.part) in_range upto;
      behind = each_more (λ e. is_upto side e ≡ false) IsBehind (drop at (present p.part)) (λ e it. behind_it (side e) it) (each_behind (λ e. is_upto side e ≡ false) at (present p.part) behind);
      high = all_behind (drop (suc i) ps) (pairs_rest Below (shown p) (flat_map shown (drop (suc i) ps)) ascending_from) (rest_off begun last off);
    }

-- ---- a search over the places

-- what holds at each of some places, and of all that lie behind them
pub each_from : {X : Type 0} (P : X → Type 0) (from to : ℕ) (xs : List X) → from ≤ to → to ≤ length xs → AllWithin P xs from to → Each P (drop to xs) → Each P (drop from xs)
each_from P from zero xs le within here rest = subst (λ k. Each P (drop k xs)) {x = 0} {y = from} (omega arith) rest
each_from P zero (suc to) [] le within here rest = tt
each_from P (suc from) (suc to) [] le within here rest = tt
each_from P zero (suc to) (x ∷ xs) le within here rest = (here 0 x (omega arith) (omega arith), each_from P 0 to xs (omega arith) (omega arith) (λ k d l h. here (suc k) d (omega arith) (omega arith)) rest)
each_from P (suc from) (suc to) (x ∷ xs) le within here rest = each_from P from to xs (omega arith) (omega arith) (λ k d l h. here (suc k) d (omega arith) (omega arith)) rest
