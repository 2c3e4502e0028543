-- What lies before a place, at it and behind it.
use Rattle.std.proofs.Common.{◌≡◌, ◌⊎◌, ◌∙◌, ap, ap₂, sym, refl, subst, ℕ, zero, suc, ◌+◌, ◌-◌, ◌<◌, ◌≤◌, Bool, true, false, cond, not, ◌&&◌, List, [], ◌∷◌, ◌++◌, length, take, drop, filter, get_or, flat_map, Some, None, arith, append-nil, append_assoc, length-append, take-append-drop}
use Rattle.std.specs.List.{find, AllWithin}
use Rattle.std.specs.Ordering.{is_eq, is_gt}
use Rattle.std.specs.Cmp.{IsTotalOrder}
use Rattle.std.specs.declared.cmp.Ordering.{Ordering}
use Rattle.std.specs.declared.cmp.Ordering.TheVariants.{Less, Equal, Greater}
use Rattle.std.proofs.lemmas.Bool.{false≢true}
use Rattle.std.proofs.lemmas.List.{take_at, drop_at, get_or_at, length-take-le}
use Rattle.std.proofs.lemmas.List.Concat.{flat_map-append}
use Rattle.std.proofs.lemmas.List.Elements.{filter-append}
use Rattle.oc_chunks.specs.declared.piece.Piece.{Piece}
use Rattle.oc_chunks.specs.Ascending.{Each, IsAscending}
use Rattle.oc_chunks.specs.Between.{is_at, is_past, entries_in}
use Rattle.oc_chunks.specs.Chunks.{Chunked, joined}
use Rattle.oc_chunks.specs.Pieces.{present, shown, last_is, is_upto, IsSound, IsSized, Place, view}
use Rattle.oc_chunks.proofs.Eaches.{each_append, each_front, each_rest, each_more, each_within, each_behind, pairs_front, pairs_rest}
use Rattle.oc_chunks.proofs.Views.{entries_of, each_entry, joined_now}
use Rattle.oc_chunks.proofs.Gaps.{piece_at, place_ascends}
use Rattle.oc_chunks.proofs.Located.{present_ascends}
use Rattle.oc_chunks.proofs.Leaving.{Nth, nth, less_off, before_it, equal_is}

module _ {X : Type 0} (p : X → Bool) where
  pub filter_all : (xs : List X) → Each (λ e. p e ≡ true) xs → filter p xs ≡ xs
  filter_all [] on = refl
  filter_all (x ∷ xs) on = ap (λ b. cond b (x ∷ filter p xs) (filter p xs)) on.0 ∙ ap (λ l. x ∷ l) (filter_all xs on.1)

  pub filter_none : (xs : List X) → Each (λ e. p e ≡ false) xs → filter p xs ≡ []
  filter_none [] off = refl
  filter_none (x ∷ xs) off = ap (λ b. cond b (x ∷ filter p xs) (filter p xs)) off.0 ∙ filter_none xs off.1

  pub find_none : (xs : List X) → Each (λ e. p e ≡ false) xs → find p xs ≡ None
  find_none [] off = refl
  find_none (x ∷ xs) off = ap (λ b. cond b (Some x) (find p xs)) off.0 ∙ find_none xs off.1

  pub find_first : (us : List X) (y : X) (vs : List X) → Each (λ e. p e ≡ false) us → p y ≡ true → find p (us ++ y ∷ vs) ≡ Some y
  find_first [] y vs off it = ap (λ b. cond b (Some y) (find p vs)) it
  find_first (u ∷ us) y vs off it = ap (λ b. cond b (Some u) (find p (us ++ y ∷ vs))) off.0 ∙ find_first us y vs off.1 it

  -- one test after the other
  pub filter_both : (q : X → Bool) (xs : List X) → filter q (filter p xs) ≡ filter (λ e. p e && q e) xs
  filter_both q [] = refl
  filter_both q (x ∷ xs) = of_test (p x) (filter_both q xs)
    where
      of_test : (b : Bool) → filter q (filter p xs) ≡ filter (λ e. p e && q e) xs → filter q (cond b (x ∷ filter p xs) (filter p xs)) ≡ cond (b && q x) (x ∷ filter (λ e. p e && q e) xs) (filter (λ e. p e && q e) xs)
      of_test true rest = ap (λ l. cond (q x) (x ∷ l) l) rest
      of_test false rest = rest

module _ {X : Type 0} (side : X → Ordering) where
  -- what the search in a list gives
  pub upto_is : (xs : List X) (n : ℕ) → n ≤ length xs → AllWithin (λ e. is_upto side e ≡ true) xs 0 n → AllWithin (λ e. is_upto side e ≡ false) xs n (length xs) → filter (is_upto side) xs ≡ take n xs
  upto_is xs n le on off =
      ap (filter (is_upto side)) (sym (take-append-drop n xs))
      ∙ filter-append (is_upto side) (take n xs) (drop n xs)
      ∙ ap₂ (λ k l. k ++ l) (filter_all (is_upto side) (take n xs) (each_within (λ e. is_upto side e ≡ true) n xs le on)) (filter_none (is_upto side) (drop n xs) (each_behind (λ e. is_upto side e ≡ false) n xs off))
      ∙ append-nil (take n xs)

  past_of : (r : Ordering) → not (is_gt r) ≡ true → is_gt r ≡ false
  past_of Less it = refl
  past_of Equal it = refl
  past_of Greater it = cc

  low_upto : (es : List X) → Each (λ e. side e ≡ Less) es → Each (λ e. is_upto side e ≡ true) es
  low_upto es a = each_more (λ e. side e ≡ Less) (λ e. is_upto side e ≡ true) es (λ e is. ap (λ r. not (is_gt r)) is) a

  high_off : (es : List X) → Each (λ e. side e ≡ Greater) es → Each (λ e. is_upto side e ≡ false) es
  high_off es a = each_more (λ e. side e ≡ Greater) (λ e. is_upto side e ≡ false) es (λ e is. ap (λ r. not (is_gt r)) is) a

  upto_past : (es : List X) → Each (λ e. is_upto side e ≡ true) es → Each (λ e. is_past side e ≡ false) es
  upto_past es a = each_more (λ e. is_upto side e ≡ true) (λ e. is_past side e ≡ false) es (λ e it. past_of (side e) it) a

  high_past : (es : List X) → Each (λ e. side e ≡ Greater) es → Each (λ e. is_past side e ≡ true) es
  high_past es a = each_more (λ e. side e ≡ Greater) (λ e. is_past side e ≡ true) es (λ e is. ap is_gt is) a

  not_first : (n : ℕ) (xs : List X) → last_is side (take n xs) ≡ true → 1 ≤ n
  not_first zero xs it = absurd (false≢true it)
  not_first (suc n) xs it = omega arith

  module _ (ps : List (Piece X)) (i at : ℕ) (pl : Place side ps i at) where
    abbrev es : List X
    es = present pl.piece.part

    parts_of : entries_of ps ≡ entries_of pl.before ++ ((take at es ++ drop at es) ++ entries_of pl.after)
    parts_of = ap entries_of pl.split ∙ flat_map-append (λ q. present q.part) pl.before (pl.piece ∷ pl.after) ∙ ap (λ l. entries_of pl.before ++ (l ++ entries_of pl.after)) (sym (take-append-drop at es))

    before_is : take i ps ≡ pl.before
    before_is = ap (take i) pl.split ∙ take_at pl.before (pl.piece ∷ pl.after) i pl.index

    after_is : drop (i + 1) ps ≡ pl.after
    after_is = ap (drop (i + 1)) (pl.split ∙ sym (append_assoc pl.before (pl.piece ∷ []) pl.after)) ∙ drop_at (pl.before ++ pl.piece ∷ []) pl.after (i + 1) (omega (arith, length-append pl.before (pl.piece ∷ []), pl.index))

    parts_by : (t : X → Bool) → filter t (entries_of ps) ≡ filter t (entries_of pl.before) ++ ((filter t (take at es) ++ filter t (drop at es)) ++ filter t (entries_of pl.after))
    parts_by t = ap (filter t) parts_of ∙ filter-append t (entries_of pl.before) ((take at es ++ drop at es) ++ entries_of pl.after) ∙ ap (λ l. filter t (entries_of pl.before) ++ l) (filter-append t (take at es ++ drop at es) (entries_of pl.after) ∙ ap (λ l. l ++ filter t (entries_of pl.after)) (filter-append t (take at es) (drop at es)))

    lows : Each (λ e. side e ≡ Less) (entries_of pl.before)
    lows = each_entry (λ e. side e ≡ Less) pl.before pl.low

    highs : Each (λ e. side e ≡ Greater) (entries_of pl.after)
    highs = each_entry (λ e. side e ≡ Greater) pl.after pl.high

    -- what isn't behind the place
    pub front_is : (q : Piece X) → q ≡ get_or ps i q → (n : List X) → n ≡ present q.part → entries_in (take i ps) ++ take at n ≡ filter (is_upto side) (entries_in ps)
    front_is q read n is =
        let t = is_upto side in
        let own : n ≡ es = is ∙ ap (λ r. present r.part) (piece_at ps pl.before pl.piece pl.after i q pl.split pl.index read) in
        let here : filter t (take at es) ++ filter t (drop at es) ≡ take at es = ap₂ (λ k l. k ++ l) (filter_all t (take at es) pl.upto) (filter_none t (drop at es) (high_off (drop at es) pl.behind)) ∙ append-nil (take at es) in
        ap₂ (λ k l. entries_in k ++ take at l) before_is own
        ∙ sym (parts_by t
        ∙ ap₂ (λ k l. k ++ l) (filter_all t (entries_of pl.before) (low_upto (entries_of pl.before) lows)) (ap₂ (λ k l. k ++ l) here (filter_none t (entries_of pl.after) (high_off (entries_of pl.after) highs)) ∙ append-nil (take at es)))

    -- what is behind the place
    pub back_is : (q : Piece X) → q ≡ get_or ps i q → (n : List X) → n ≡ present q.part → drop at n ++ entries_in (drop (i + 1) ps) ≡ filter (is_past side) (entries_in ps)
    back_is q read n is =
        let t = is_past side in
        let own : n ≡ es = is ∙ ap (λ r. present r.part) (piece_at ps pl.before pl.piece pl.after i q pl.split pl.index read) in
        let here : filter t (take at es) ++ filter t (drop at es) ≡ drop at es = ap₂ (λ k l. k ++ l) (filter_none t (take at es) (upto_past (take at es) pl.upto)) (filter_all t (drop at es) (high_past (drop at es) pl.behind)) in
        ap₂ (λ k l. drop at k ++ entries_in l) own after_is
        ∙ sym (parts_by t
        ∙ ap₂ (λ k l. k ++ l) (filter_none t (entries_of pl.before) (upto_past (entries_of pl.before) (low_upto (entries_of pl.before) lows))) (ap₂ (λ k l. k ++ l) here (filter_all t (entries_of pl.after) (high_past (entries_of pl.after) highs))))

    pub rest_sized : Each IsSized ps → Each IsSized (drop (i + 1) ps)
    rest_sized s = subst (Each IsSized) (sym after_is) (each_rest IsSized pl.before (pl.piece ∷ pl.after) (subst (Each IsSized) pl.split s)).1

    pub front_sized : Each IsSized ps → Each IsSized (take i ps)
    front_sized s = subst (Each IsSized) (sym before_is) (each_front IsSized pl.before (pl.piece ∷ pl.after) (subst (Each IsSized) pl.split s))

    module _ (cmp : X → X → Ordering) (ascending : IsAscending cmp (flat_map shown ps)) where
      abbrev Below : X → X → Type 0
      Below u v = cmp u v ≡ Less

      from_here : IsAscending cmp (shown pl.piece ++ flat_map shown pl.after)
      from_here = pairs_rest Below (flat_map shown pl.before) (shown pl.piece ++ flat_map shown pl.after) (subst (IsAscending cmp) (ap (flat_map shown) pl.split ∙ flat_map-append shown pl.before (pl.piece ∷ pl.after)) ascending)

      pub rest_ascends : IsAscending cmp (flat_map shown (drop (i + 1) ps))
      rest_ascends = subst (λ l. IsAscending cmp (flat_map shown l)) (sym after_is) (pairs_rest Below (shown pl.piece) (flat_map shown pl.after) from_here)

      pub piece_rest_ascends : ((x y : X) → cmp x y ≡ Less → (side x ≡ Less) ⊎ (side y ≡ Greater)) → (q : Piece X) → q ≡ get_or ps i q → (n : List X) → n ≡ present q.part → IsAscending cmp (drop at n)
      piece_rest_ascends parts q read n is =
          let own : n ≡ es = is ∙ ap (λ r. present r.part) (piece_at ps pl.before pl.piece pl.after i q pl.split pl.index read) in
          let all : IsAscending cmp es = present_ascends cmp side parts pl.piece (pairs_front Below (shown pl.piece) (flat_map shown pl.after) from_here) in
          subst (λ l. IsAscending cmp (drop at l)) (sym own) (pairs_rest Below (take at es) (drop at es) (subst (IsAscending cmp) (sym (take-append-drop at es)) all))

    module _ (cmp : X → X → Ordering) (o : IsTotalOrder cmp) (parts : (x y : X) → cmp x y ≡ Less → (side x ≡ Less) ⊎ (side y ≡ Greater)) (sound : IsSound cmp ps) where
      abbrev IsOff : X → Type 0
      IsOff e = is_at side e ≡ false

      es_ascends : IsAscending cmp es
      es_ascends = place_ascends cmp side parts ps i at pl sound

      piece_sized : IsSized pl.piece
      piece_sized = (each_rest IsSized pl.before (pl.piece ∷ pl.after) (subst (Each IsSized) pl.split sound.sized)).0

      es_long : length es ≡ pl.piece.part.len
      es_long = length-take-le pl.piece.part.len pl.piece.part.items.items piece_sized.part.within

      -- the entry at the place is the last one before it
      first_at : (a : ℕ) → suc a ≡ at → (n : Nth side es a) → last_is side (take at es) ≡ true → find (is_at side) (entries_in ps) ≡ Some n.it
      first_at a is n last =
          let here : is_eq (side n.it) ≡ true = sym n.last ∙ ap (λ k. last_is side (take k es)) is ∙ last in
          let low : Each (λ e. side e ≡ Less) (take a es) = before_it cmp o side parts (take a es) n.it (drop (suc a) es) (subst (IsAscending cmp) n.split es_ascends) (equal_is cmp o side parts (side n.it) here) in
          let us = entries_of pl.before ++ take a es in
          let vs = drop (suc a) es ++ entries_of pl.after in
          let split : entries_of ps ≡ us ++ n.it ∷ vs = ap entries_of pl.split ∙ flat_map-append (λ q. present q.part) pl.before (pl.piece ∷ pl.after) ∙ ap (λ l. entries_of pl.before ++ (l ++ entries_of pl.after)) n.split ∙ ap (λ l. entries_of pl.before ++ l) (append_assoc (take a es) (n.it ∷ drop (suc a) es) (entries_of pl.after)) ∙ sym (append_assoc (entries_of pl.before) (take a es) (n.it ∷ vs)) in
          ap (find (is_at side)) split ∙ find_first (is_at side) us n.it vs (each_append IsOff (entries_of pl.before) (take a es) (less_off cmp o side parts (entries_of pl.before) lows) (less_off cmp o side parts (take a es) low)) here

      nth_read : (a : ℕ) (d : X) → a < length es → (n : Nth side es a) → d ≡ get_or es a d → d ≡ n.it
      nth_read a d lt n d_is = d_is ∙ ap (λ l. get_or l a d) n.split ∙ get_or_at (take a es) n.it (drop (suc a) es) d a (length-take-le a es (omega (arith, lt)))

      pub found_is : (q : Piece X) → q ≡ get_or ps i q → (n : List X) → n ≡ present q.part → (d : X) → d ≡ get_or n (at - 1) d → last_is side (take at (present q.part)) ≡ true → Some d ≡ find (is_at side) (entries_in ps)
      found_is q read n is d d_is last =
          let some : 1 ≤ at = not_first at (present q.part) last in
          let same : q ≡ pl.piece = piece_at ps pl.before pl.piece pl.after i q pl.split pl.index read in
          let own : n ≡ es = is ∙ ap (λ r. present r.part) same in
          let lt : at - 1 < length es = omega (arith, some, es_long, pl.within) in
          let it = nth side es (at - 1) lt in
          ap Some (nth_read (at - 1) d lt it (d_is ∙ ap (λ l. get_or l (at - 1) d) own)) ∙ sym (first_at (at - 1) (omega (arith, some)) it (ap (λ r. last_is side (take at (present r.part))) (sym same) ∙ last))

-- the entries of a list in chunks
pub seen : {X : Type 0} (cmp : X → X → Ordering) (ps zs : List (Piece X)) (l : Chunked X) → zs ≡ ps → view cmp ps ≡ l → entries_in zs ≡ joined l.chunks
seen cmp ps zs l same is = ap entries_in same ∙ sym (joined_now ps) ∙ ap (λ k. joined k.chunks) is
