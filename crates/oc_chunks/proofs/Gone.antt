-- The found entry taken out of the pieces.
use Rattle.std.proofs.Common.{◌≡◌, ◌⊎◌, ◌∙◌, ap, ap₂, sym, refl, subst, ℕ, zero, suc, ◌+◌, ◌-◌, ◌<◌, ◌≤◌, Bool, true, false, cond, nat_lt, max, not, ◌||◌, List, [], ◌∷◌, ◌++◌, length, take, drop, set, filter, flat_map, arith, append-nil, append_assoc, length-append, length-take, take-append-drop}
use Rattle.std.specs.List.{list_any}
use Rattle.std.specs.Ordering.{is_eq, ordering_reverse}
use Rattle.std.specs.Cmp.{IsTotalOrder}
use Rattle.std.specs.declared.cmp.Ordering.{Ordering}
use Rattle.std.specs.declared.cmp.Ordering.TheVariants.{Less, Equal, Greater}
use Rattle.std.proofs.lemmas.Bool.{false≢true}
use Rattle.std.proofs.lemmas.Bool.Decides.{nat_tests}
use Rattle.std.proofs.lemmas.List.{set_at, take-take, drop-take, length-take-le, nil_from_length}
use Rattle.std.proofs.lemmas.List.Concat.{flat_map-append}
use Rattle.oc_chunks.specs.declared.piece.Piece.{Piece}
use Rattle.oc_chunks.specs.declared.piece.Was.{Was}
use Rattle.oc_chunks.specs.declared.piece.Was.TheVariants.{Itself, Nothing, Other}
use Rattle.oc_chunks.specs.Ascending.{Each, IsAscending}
use Rattle.oc_chunks.specs.Chunks.{Chunk, joined, nonempty, some_of, left}
use Rattle.oc_chunks.specs.Pieces.{present, gone, shown, last_is, chunk_now, chunks_now, chunks_then, was_chunks, restored, IsSized, IsSizedWas, IsSound, Place}
use Rattle.oc_chunks.specs.Removing.{moved, kept_behind, IsHere}
use Rattle.oc_chunks.proofs.Eaches.{each_append, each_front, each_rest, each_more, pairs_rest, pairs_across, pairs_without}
use Rattle.oc_chunks.proofs.Views.{entries_of, joined_now, each_entry}
use Rattle.oc_chunks.proofs.Replacing.{placed_between}
use Rattle.oc_chunks.proofs.Gaps.{place_ascends}
use Rattle.oc_chunks.proofs.Leaving.{all_stay, one_passes, one_goes, take_moved, drop_moved, length_moved, Nth, nth, less_off, behind_off, before_it, equal_is}

module _ {X : Type 0} where
  -- what is kept of a list, up to so many
  kept_take : (w : Was X) (n : ℕ) (xs : List X) → take (max n 1) (kept_behind w n xs) ≡ take (max n 1) xs
  kept_take Itself n xs = refl
  kept_take Nothing n xs = take-take (max n 1) (max n 1) xs (omega arith)
  kept_take (Other old) n xs = take-take (max n 1) (max n 1) xs (omega arith)

  kept_there : (w : Was X) (n : ℕ) (xs : List X) → take n (kept_behind w n xs) ≡ take n xs
  kept_there Itself n xs = refl
  kept_there Nothing n xs = take-take n (max n 1) xs (omega arith)
  kept_there (Other old) n xs = take-take n (max n 1) xs (omega arith)

  kept_length : (w : Was X) (n : ℕ) (xs : List X) → n + 1 ≤ length xs → n ≤ length (kept_behind w n xs)
  kept_length Itself n xs le = omega arith
  kept_length Nothing n xs le = let l = length-take-le (max n 1) xs (omega arith) in omega arith
  kept_length (Other old) n xs le = let l = length-take-le (max n 1) xs (omega arith) in omega arith

module _ {X : Type 0} (cmp : X → X → Ordering) (o : IsTotalOrder cmp) (side : X → Ordering) (parts : (u v : X) → cmp u v ≡ Less → (side u ≡ Less) ⊎ (side v ≡ Greater)) (ps : List (Piece X)) (sound : IsSound cmp ps) (i at : ℕ) (here : IsHere side ps i at) where
  abbrev pl : Place side ps i at
  pl = here.place

  abbrev p : Piece X
  p = pl.piece

  abbrev es : List X
  es = present p.part

  abbrev a : ℕ
  a = at - 1

  abbrev Below : X → X → Type 0
  Below u v = cmp u v ≡ Less

  abbrev IsOff : X → Type 0
  IsOff e = is_eq (side e) ≡ false

  sized_here : Each IsSized (pl.before ++ p ∷ pl.after)
  sized_here = subst (Each IsSized) pl.split sound.sized

  p_sized : IsSized p
  p_sized = (each_rest IsSized pl.before (p ∷ pl.after) sized_here).0

  es_count : length es ≡ p.part.len
  es_count = length-take-le p.part.len p.part.items.items p_sized.part.within

  some : 1 ≤ at
  some = of_at at refl
    where
      of_at : (n : ℕ) → at ≡ n → 1 ≤ at
      of_at zero is = absurd (false≢true (subst (λ k. last_is side (take k es) ≡ true) is here.last))
      of_at (suc n) is = omega arith

  in_part : a < p.part.len
  in_part = omega (arith, some, pl.within)

  y : Nth side es a
  y = nth side es a (omega (arith, in_part, es_count))

  abbrev us : List X
  us = take a es

  abbrev vs : List X
  vs = drop (suc a) es

  y_is : side y.it ≡ Equal
  y_is = equal_is cmp o side parts (side y.it) (sym y.last ∙ subst (λ n. last_is side (take n es) ≡ true) {x = at} {y = suc a} (omega (arith, some)) here.last)

  y_at : is_eq (side y.it) ≡ true
  y_at = ap is_eq y_is

  es_ascends : IsAscending cmp (us ++ y.it ∷ vs)
  es_ascends = subst (IsAscending cmp) y.split (place_ascends cmp side parts ps i at pl sound)

  us_less : Each (λ e. side e ≡ Less) us
  us_less = before_it cmp o side parts us y.it vs es_ascends y_is

  vs_behind : Each (λ e. side e ≡ Greater) vs
  vs_behind = subst (λ n. Each (λ e. side e ≡ Greater) (drop n es)) {x = at} {y = suc a} (omega (arith, some)) pl.behind

  us_off : Each IsOff us
  us_off = less_off cmp o side parts us us_less

  vs_off : Each IsOff vs
  vs_off = behind_off cmp o side parts vs vs_behind

  module _ (n : Piece X) (items : n.part.items.items ≡ kept_behind p.was n.part.len (moved a p.part)) (len : n.part.len + 1 ≡ p.part.len) (number : n.part.number ≡ p.part.number) (changed : n.part.changed ≡ p.part.changed) (was : n.was ≡ p.was) where
    staying_is : take a es ++ drop (a + 1) es ≡ us ++ vs
    staying_is = ap (λ k. us ++ drop k es) {x = a + 1} {y = suc a} (omega arith)

    now_there : present n.part ≡ us ++ vs
    now_there = ap (take n.part.len) items ∙ kept_there p.was n.part.len (moved a p.part) ∙ take_moved p.part a p_sized.part.within in_part n.part.len len ∙ staying_is

    moved_length : length (moved a p.part) ≡ length p.part.items.items
    moved_length = length_moved p.part a p_sized.part.within in_part

    y_behind : take 1 (drop a p.part.items.items) ≡ y.it ∷ []
    y_behind = sym (take-take 1 (p.part.len - a) (drop a p.part.items.items) (omega (arith, in_part))) ∙ ap (take 1) (sym (drop-take a (p.part.len - a) p.part.items.items) ∙ ap (λ k. drop a (take k p.part.items.items)) {x = a + (p.part.len - a)} {y = p.part.len} (omega (arith, in_part))) ∙ y.one

    -- ---- the order

    old_shown : IsAscending cmp (flat_map shown pl.before ++ (shown p ++ flat_map shown pl.after))
    old_shown = subst (IsAscending cmp) (ap (flat_map shown) pl.split ∙ flat_map-append shown pl.before (p ∷ pl.after)) sound.ascending

    p_shown : shown p ≡ us ++ y.it ∷ vs
    p_shown = ap (λ k. take k p.part.items.items) {x = max p.part.len 1} {y = p.part.len} (omega (arith, in_part)) ∙ y.split

    n_shown : shown n ≡ take (max n.part.len 1) (moved a p.part)
    n_shown = ap (take (max n.part.len 1)) items ∙ kept_take p.was n.part.len (moved a p.part)

    now_shown : IsAscending cmp (flat_map shown pl.before ++ (shown n ++ flat_map shown pl.after))
    now_shown = of_len n.part.len refl
      where
        of_len : (k : ℕ) → n.part.len ≡ k → IsAscending cmp (flat_map shown pl.before ++ (shown n ++ flat_map shown pl.after))
        of_len zero is =
            let empty : us ++ vs ≡ [] = nil_from_length (us ++ vs) (omega (arith, ap length (sym now_there), is, length-take n.part.len n.part.items.items)) in
            let all : moved a p.part ≡ y.it ∷ gone p.part = sym (take-append-drop 0 (moved a p.part)) ∙ drop_moved p.part a p_sized.part.within in_part 0 (omega (arith, len, is)) ∙ ap (λ l. l ++ gone p.part) y_behind in
            let one : shown n ≡ y.it ∷ [] = n_shown ∙ ap (λ k. take (max k 1) (moved a p.part)) is ∙ ap (take 1) all in
            let no_us : us ≡ [] = nil_from_length us (omega (arith, ap length empty, length-append us vs)) in
            let no_vs : vs ≡ [] = nil_from_length vs (omega (arith, ap length empty, length-append us vs)) in
            let same : shown n ≡ shown p = one ∙ sym (p_shown ∙ ap₂ (λ k l. k ++ y.it ∷ l) no_us no_vs) in
            subst (λ l. IsAscending cmp (flat_map shown pl.before ++ (l ++ flat_map shown pl.after))) (sym same) old_shown
        of_len (suc k) is =
            let seen : shown n ≡ us ++ vs = ap (λ m. take m n.part.items.items) {x = max n.part.len 1} {y = n.part.len} (omega arith) ∙ now_there in
            let sb = flat_map shown pl.before in
            let sa = flat_map shown pl.after in
            let old : IsAscending cmp (sb ++ us ++ y.it ∷ (vs ++ sa)) = subst (IsAscending cmp) (ap (λ l. sb ++ (l ++ sa)) p_shown ∙ ap (λ l. sb ++ l) (append_assoc us (y.it ∷ vs) sa) ∙ sym (append_assoc sb us (y.it ∷ (vs ++ sa)))) old_shown in
            let new : IsAscending cmp (sb ++ us ++ (vs ++ sa)) = pairs_without Below (sb ++ us) y.it (vs ++ sa) old in
            subst (IsAscending cmp) (append_assoc sb us (vs ++ sa) ∙ ap (λ l. sb ++ l) (sym (append_assoc us vs sa)) ∙ ap (λ l. sb ++ (l ++ sa)) (sym seen)) new

    -- ---- the mark

    restored_same : restored cmp (us ++ vs) (y.it ∷ gone p.part) ≡ restored cmp es (gone p.part)
    restored_same =
        let lows : Each (λ e. cmp e y.it ≡ Less) us = each_more (λ u. Each (Below u) (y.it ∷ vs)) (λ e. cmp e y.it ≡ Less) us (λ u below. below.0) (pairs_across Below us (y.it ∷ vs) es_ascends) in
        let highs : Each (λ e. cmp e y.it ≡ Greater) vs = each_more (λ e. cmp y.it e ≡ Less) (λ e. cmp e y.it ≡ Greater) vs (λ e below. o.antisymm e y.it ∙ ap ordering_reverse below) (pairs_rest Below us (y.it ∷ vs) es_ascends).0 in
        ap (λ l. restored cmp l (gone p.part)) (placed_between cmp o y.it us vs lows highs ∙ sym y.split)

    then_of : (w : Was X) → p.was ≡ w → was_chunks cmp n.part w ≡ was_chunks cmp p.part w
    then_of Itself is =
        let moved_all : n.part.items.items ≡ moved a p.part = items ∙ ap (λ w. kept_behind w n.part.len (moved a p.part)) is in
        let gone_now : gone n.part ≡ y.it ∷ gone p.part = ap (drop n.part.len) moved_all ∙ drop_moved p.part a p_sized.part.within in_part n.part.len len ∙ ap (λ l. l ++ gone p.part) y_behind in
        ap (λ c. c ∷ []) (ap₂ (λ l k. record { entries = l; number = k; changed = n.part.changed }) (ap₂ (restored cmp) now_there gone_now ∙ restored_same) number ∙ ap (λ b. record { entries = restored cmp es (gone p.part); number = p.part.number; changed = b }) changed)
    then_of Nothing is = refl
    then_of (Other old) is = refl

    then_same : chunks_then cmp n ≡ chunks_then cmp p
    then_same = ap (was_chunks cmp n.part) was ∙ then_of p.was refl

    -- ---- the chunks

    now_changed : (n.part.changed || nat_lt n.part.len (length n.part.items.items)) ≡ true
    now_changed = of_was p.was refl p_sized.was
      where
        either : (b : Bool) → (b || true) ≡ true
        either true = refl
        either false = refl

        new_one : p.part.changed ≡ true → (n.part.changed || nat_lt n.part.len (length n.part.items.items)) ≡ true
        new_one is = ap (λ b. b || nat_lt n.part.len (length n.part.items.items)) (changed ∙ is)

        of_was : (w : Was X) → p.was ≡ w → IsSizedWas p.part w → (n.part.changed || nat_lt n.part.len (length n.part.items.items)) ≡ true
        of_was Itself is s =
            let long : length n.part.items.items ≡ length p.part.items.items = ap length items ∙ ap (λ w. length (kept_behind w n.part.len (moved a p.part))) is ∙ moved_length in
            let less : nat_lt n.part.len (length n.part.items.items) ≡ true = grind (arith, nat_tests, long, len, p_sized.part.within) in
            ap (λ b. n.part.changed || b) less ∙ either n.part.changed
        of_was Nothing is s = new_one s
        of_was (Other old) is s = new_one s.1

    old_chunk : chunks_now p ≡ chunk_now p.part ∷ []
    old_chunk = some_is es (chunk_now p.part) (omega (arith, es_count, in_part))
      where
        some_is : (l : List X) (c : Chunk X) → 1 ≤ length l → some_of l c ≡ c ∷ []
        some_is [] c le = absurd (omega arith)
        some_is (e ∷ l) c le = refl

    left_chunk : flat_map (left (λ e. is_eq (side e))) (chunks_now p) ≡ chunks_now n
    left_chunk =
        let any : list_any (λ e. is_eq (side e)) es ≡ true = ap (list_any (λ e. is_eq (side e))) y.split ∙ one_passes (λ e. is_eq (side e)) us y.it vs y_at in
        let rest : filter (λ e. not (is_eq (side e))) es ≡ us ++ vs = ap (filter (λ e. not (is_eq (side e)))) y.split ∙ one_goes (λ e. is_eq (side e)) us y.it vs us_off y_at vs_off in
        ap (flat_map (left (λ e. is_eq (side e)))) old_chunk
        ∙ append-nil (left (λ e. is_eq (side e)) (chunk_now p.part))
        ∙ ap (λ b. cond b (nonempty (record { entries = filter (λ e. not (is_eq (side e))) es; number = p.part.number; changed = true })) (chunk_now p.part ∷ [])) any
        ∙ ap₂ (λ l k. nonempty (record { entries = l; number = k; changed = true })) (rest ∙ sym now_there) (sym number)
        ∙ ap (λ b. nonempty (record { entries = present n.part; number = n.part.number; changed = b })) (sym now_changed)

    -- ---- all of it

    set_is : set ps i n ≡ pl.before ++ n ∷ pl.after
    set_is = ap (λ l. set l i n) pl.split ∙ set_at pl.before p pl.after n i pl.index

    pub marked_same : flat_map (chunks_then cmp) (set ps i n) ≡ flat_map (chunks_then cmp) ps
    marked_same = ap (flat_map (chunks_then cmp)) set_is ∙ flat_map-append (chunks_then cmp) pl.before (n ∷ pl.after) ∙ ap (λ l. flat_map (chunks_then cmp) pl.before ++ (l ++ flat_map (chunks_then cmp) pl.after)) then_same ∙ sym (flat_map-append (chunks_then cmp) pl.before (p ∷ pl.after)) ∙ ap (flat_map (chunks_then cmp)) (sym pl.split)

    pub chunks_left : flat_map chunks_now (set ps i n) ≡ flat_map (left (λ e. is_eq (side e))) (flat_map chunks_now ps)
    chunks_left =
        let lose = flat_map (left (λ e. is_eq (side e))) in
        let cb = flat_map chunks_now pl.before in
        let ca = flat_map chunks_now pl.after in
        let before : lose cb ≡ cb = all_stay (λ e. is_eq (side e)) pl.before (less_off cmp o side parts (entries_of pl.before) (each_entry (λ e. side e ≡ Less) pl.before pl.low)) in
        let after : lose ca ≡ ca = all_stay (λ e. is_eq (side e)) pl.after (behind_off cmp o side parts (entries_of pl.after) (each_entry (λ e. side e ≡ Greater) pl.after pl.high)) in
        let old : lose (flat_map chunks_now ps) ≡ lose cb ++ (lose (chunks_now p) ++ lose ca) = ap lose (ap (flat_map chunks_now) pl.split ∙ flat_map-append chunks_now pl.before (p ∷ pl.after)) ∙ flat_map-append (left (λ e. is_eq (side e))) cb (chunks_now p ++ ca) ∙ ap (λ l. lose cb ++ l) (flat_map-append (left (λ e. is_eq (side e))) (chunks_now p) ca) in
        ap (flat_map chunks_now) set_is ∙ flat_map-append chunks_now pl.before (n ∷ pl.after) ∙ sym (old ∙ ap₂ (λ k l. k ++ (lose (chunks_now p) ++ l)) before after ∙ ap (λ l. cb ++ (l ++ ca)) left_chunk)

    n_sized : IsSized n
    n_sized =
        let k = kept_length p.was n.part.len (moved a p.part) (omega (arith, moved_length, len, p_sized.part.within)) in
        record { part = record { within = omega (arith, k, ap length items); few = omega (arith, len, p_sized.part.few) }; was = subst (IsSizedWas n.part) (sym was) (of_was p.was refl p_sized.was) }
      where
        of_was : (w : Was X) → p.was ≡ w → IsSizedWas p.part w → IsSizedWas n.part w
        of_was Itself is w =
            let same : length n.part.items.items ≡ length p.part.items.items = ap length items ∙ ap (λ w. length (kept_behind w n.part.len (moved a p.part))) is ∙ moved_length in
            record { some = omega (arith, w.some, same); within = omega (arith, w.within, len, same); few = omega (arith, w.few, same) }
        of_was Nothing is s = changed ∙ s
        of_was (Other old) is s = (s.0, changed ∙ s.1)

    pub sound_left : IsSound cmp (set ps i n)
    sound_left = record {
      sized = subst (Each IsSized) (sym set_is) (each_append IsSized pl.before (n ∷ pl.after) (each_front IsSized pl.before (p ∷ pl.after) sized_here) (n_sized, (each_rest IsSized pl.before (p ∷ pl.after) sized_here).1));
      ascending = subst (IsAscending cmp) (sym (ap (flat_map shown) set_is ∙ flat_map-append shown pl.before (n ∷ pl.after))) now_shown;
      marked = subst (λ l. IsAscending cmp (joined l)) (sym marked_same) sound.marked;
    }

  pub was_there : list_any (λ e. is_eq (side e)) (joined (flat_map chunks_now ps)) ≡ true
  was_there =
      let es_of = entries_of pl.before in
      ap (list_any (λ e. is_eq (side e))) (joined_now ps ∙ ap entries_of pl.split ∙ flat_map-append (λ q. present q.part) pl.before (p ∷ pl.after) ∙ ap (λ l. es_of ++ (l ++ entries_of pl.after)) y.split ∙ ap (λ l. es_of ++ l) (append_assoc us (y.it ∷ vs) (entries_of pl.after)) ∙ sym (append_assoc es_of us (y.it ∷ (vs ++ entries_of pl.after)))) ∙ one_passes (λ e. is_eq (side e)) (es_of ++ us) y.it (vs ++ entries_of pl.after) y_at
