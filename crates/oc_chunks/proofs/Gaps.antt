-- An entry put into its gap.
use Rattle.std.proofs.Common.{◌≡◌, ◌⊎◌, ◌∙◌, ap, ap₂, sym, refl, subst, inl, inr, ℕ, zero, suc, ◌+◌, ◌<◌, ◌≤◌, Bool, true, false, cond, ◌==◌, nat_lt, max, not, ◌||◌, List, [], ◌∷◌, ◌++◌, length, take, drop, get_or, set, flat_map, Option, None, Result, Ok, Err, OnErr, arith, append-nil, append_assoc, length-append, take-append-drop}
use Rattle.std.specs.Ordering.{is_eq, is_gt}
use Rattle.std.specs.Cmp.{IsTotalOrder}
use Rattle.std.specs.declared.cmp.Ordering.{Ordering}
use Rattle.std.specs.declared.cmp.Ordering.TheVariants.{Less, Equal, Greater}
use Rattle.std.proofs.lemmas.Bool.Decides.{nat_tests}
use Rattle.std.proofs.lemmas.Bool.{false≢true, true≢false}
use Rattle.std.proofs.lemmas.List.{take_all, get_or_at, set_at, drop_at, take_at, length-take-le, take-take, nil_from_length}
use Rattle.std.proofs.lemmas.List.Concat.{flat_map-append}
use Rattle.oc_model.specs.Lists.{IsOneOf, placed}
use Rattle.oc_chunks.specs.declared.piece.Part.{Part}
use Rattle.oc_chunks.specs.declared.piece.Piece.{Piece}
use Rattle.oc_chunks.specs.declared.piece.Was.{Was}
use Rattle.oc_chunks.specs.declared.piece.Was.TheVariants.{Itself, Nothing, Other}
use Rattle.oc_chunks.specs.Ascending.{Each, IsAscending, has}
use Rattle.oc_chunks.specs.Chunks.{Chunk, Chunked, joined, numbers, nonempty, some_of, is_within, IsCut, Adds}
use Rattle.oc_chunks.specs.Pieces.{present, shown, last_is, chunk_now, chunks_now, chunks_then, was_chunks, IsSized, IsSizedPart, IsSizedWas, IsSound, Place, is_upto, view, restored, chunk_then}
use Rattle.oc_chunks.specs.Cutting.{IsMade, items_of}
use Rattle.oc_chunks.specs.Editing.{put_in, stands_in, StandsFor}
use Rattle.oc_chunks.specs.Adding.{Gap, IsWithinWay, IsCutOf, is_new}
use Rattle.oc_chunks.proofs.Eaches.{each_append, each_front, each_rest, each_more, pairs_front, pairs_rest}
use Rattle.oc_chunks.proofs.Located.{present_ascends}
use Rattle.oc_chunks.proofs.Views.{entries_of, joined_now, each_member}
use Rattle.oc_chunks.proofs.Replacing.{Replaces, adds, now_sound, pairs_outside, numbers_append}
use Rattle.oc_chunks.proofs.Filling.{length-put_in, within_put_in, few_within, made_present, made_entries, made_seen, made_then, made_numbers, made_cut, made_sized, stood_sized, stood_then, cut_chunk, each_some}

-- the piece at the place
pub piece_at : {X : Type 0} (ps before : List X) (p : X) (after : List X) (i : ℕ) (q : X) → ps ≡ before ++ p ∷ after → length before ≡ i → q ≡ get_or ps i q → q ≡ p
piece_at ps before p after i q split index read = read ∙ ap (λ l. get_or l i q) split ∙ get_or_at before p after q i index

module _ {X : Type 0} (side : X → Ordering) where
  pub last_is_at : (xs : List X) (n : ℕ) (d : X) → n < length xs → d ≡ get_or xs n d → last_is side (take (suc n) xs) ≡ is_eq (side d)
  last_is_at [] n d lt read = absurd (omega arith)
  last_is_at (y ∷ ys) zero d lt read = ap (λ e. is_eq (side e)) (sym read)
  last_is_at (y ∷ []) (suc n) d lt read = absurd (omega arith)
  last_is_at (y ∷ z ∷ zs) (suc n) d lt read = last_is_at (z ∷ zs) n d (omega arith) read

  is_less : (r : Ordering) → not (is_gt r) ≡ true → is_eq r ≡ false → r ≡ Less
  is_less Less upto off = refl
  is_less Equal upto off = absurd (true≢false off)
  is_less Greater upto off = absurd (false≢true upto)

  -- where the last is not at the place, all are before it
  pub all_less : (cmp : X → X → Ordering) → ((u v : X) → cmp u v ≡ Less → (side u ≡ Less) ⊎ (side v ≡ Greater)) → (xs : List X) → IsAscending cmp xs → Each (λ e. is_upto side e ≡ true) xs → last_is side xs ≡ false → Each (λ e. side e ≡ Less) xs
  all_less cmp parts [] ascending upto off = tt
  all_less cmp parts (y ∷ []) ascending upto off = (is_less (side y) upto.0 off, tt)
  all_less cmp parts (y ∷ z ∷ zs) ascending upto off = (elim (parts y z ascending.0.0) [ inl less ↦ less | inr greater ↦ absurd (false≢true (sym (ap (λ r. not (is_gt r)) greater) ∙ upto.1.0)) ], all_less cmp parts (z ∷ zs) ascending.1 upto.1 off)

module _ {X : Type 0} (cmp : X → X → Ordering) where
  has_front : (x : X) (xs ys : List X) → has cmp x xs ≡ true → has cmp x (xs ++ ys) ≡ true
  has_front x [] ys it = absurd (false≢true it)
  has_front x (w ∷ xs) ys it = first (is_eq (cmp w x)) it (has_front x xs ys)
    where
      first : (b : Bool) → (b || has cmp x xs) ≡ true → (has cmp x xs ≡ true → has cmp x (xs ++ ys) ≡ true) → (b || has cmp x (xs ++ ys)) ≡ true
      first true it rest = refl
      first false it rest = rest it

  has_rest : (x : X) (xs ys : List X) → has cmp x ys ≡ true → has cmp x (xs ++ ys) ≡ true
  has_rest x [] ys it = it
  has_rest x (w ∷ xs) ys it = first (is_eq (cmp w x)) (has_rest x xs ys it)
    where
      first : (b : Bool) → has cmp x (xs ++ ys) ≡ true → (b || has cmp x (xs ++ ys)) ≡ true
      first true rest = refl
      first false rest = rest

  has_last : (x : X) (xs : List X) → last_is (λ e. cmp e x) xs ≡ true → has cmp x xs ≡ true
  has_last x [] it = absurd (false≢true it)
  has_last x (y ∷ []) it = ap (λ b. b || false) it
  has_last x (y ∷ z ∷ zs) it = has_rest x (y ∷ []) (z ∷ zs) (has_last x (z ∷ zs) it)

  module _ (x : X) (ps : List (Piece X)) (i at : ℕ) (p : Place (λ e. cmp e x) ps i at) where
    pub there : (q : Piece X) → q ≡ get_or ps i q → last_is (λ e. cmp e x) (take at (present q.part)) ≡ true → has cmp x (joined (flat_map chunks_now ps)) ≡ true
    there q read it =
        let same : q ≡ p.piece = piece_at ps p.before p.piece p.after i q p.split p.index read in
        let own : has cmp x (take at (present p.piece.part)) ≡ true = has_last x (take at (present p.piece.part)) (subst (λ r. last_is (λ e. cmp e x) (take at (present r.part)) ≡ true) same it) in
        let whole : has cmp x (present p.piece.part) ≡ true = subst (λ l. has cmp x l ≡ true) (take-append-drop at (present p.piece.part)) (has_front x (take at (present p.piece.part)) (drop at (present p.piece.part)) own) in
        let all : has cmp x (entries_of p.before ++ (present p.piece.part ++ entries_of p.after)) ≡ true = has_rest x (entries_of p.before) (present p.piece.part ++ entries_of p.after) (has_front x (present p.piece.part) (entries_of p.after) whole) in
        subst (λ l. has cmp x l ≡ true) (sym (joined_now ps ∙ ap entries_of p.split ∙ flat_map-append (λ r. present r.part) p.before (p.piece ∷ p.after))) all

    pub gap : ((u v : X) → cmp u v ≡ Less → (cmp u x ≡ Less) ⊎ (cmp v x ≡ Greater)) → IsAscending cmp (present p.piece.part) → (q : Piece X) → q ≡ get_or ps i q → last_is (λ e. cmp e x) (take at (present q.part)) ≡ false → Gap cmp x ps i at
    gap parts ascending q read off =
        let same : q ≡ p.piece = piece_at ps p.before p.piece p.after i q p.split p.index read in
        let own : IsAscending cmp (take at (present p.piece.part)) = pairs_front (λ u v. cmp u v ≡ Less) (take at (present p.piece.part)) (drop at (present p.piece.part)) (subst (IsAscending cmp) (sym (take-append-drop at (present p.piece.part))) ascending) in
        record {
          before = p.before;
          piece = p.piece;
          after = p.after;
          split = p.split;
          index = p.index;
          within = p.within;
          low = p.low;
          upto = all_less (λ e. cmp e x) cmp parts (take at (present p.piece.part)) own p.upto (subst (λ r. last_is (λ e. cmp e x) (take at (present r.part)) ≡ false) same off);
          behind = p.behind;
          high = p.high;
        }

  pub adds_nothing : (bytes : X → ℕ) (most : ℕ) (x : X) (l : Chunked X) → has cmp x (joined l.chunks) ≡ true → Adds cmp bytes most x l l
  adds_nothing bytes most x l it = record { entries = sym (ap (λ b. cond b (joined l.chunks) (placed cmp x (joined l.chunks))) it); marked = refl; numbers = refl; chunks = each_more (λ c. IsOneOf c l.chunks) (λ c. IsOneOf c l.chunks ⊎ IsCut bytes most c) l.chunks (λ c m. inl m) (each_member l.chunks) }

module _ {X : Type 0} where
  pub one_number : (es : List X) (c : Chunk X) → 1 ≤ length es → numbers (some_of es c) ≡ numbers (c ∷ [])
  one_number [] c le = absurd (omega arith)
  one_number (e ∷ es) c le = refl

  pub same_number : (c d : Chunk X) → c.number ≡ d.number → numbers (c ∷ []) ≡ numbers (d ∷ [])
  same_number c d is = ap (λ n. numbers (record { entries = c.entries; number = n; changed = c.changed } ∷ [])) is

  no_number : (c : Chunk X) → c.number ≡ None → numbers (c ∷ []) ≡ []
  no_number c is = ap (λ n. numbers (record { entries = c.entries; number = n; changed = c.changed } ∷ [])) is

  -- the number stays where the piece had an entry
  pub stood_number : (p : Piece X) (q : Part X) → IsSizedPart p.part → 1 ≤ length (present q) → numbers (chunks_now (stands_in p q)) ≡ numbers (chunks_now p)
  stood_number p q s some = of_len p.part.len refl
    where
      of_len : (n : ℕ) → p.part.len ≡ n → numbers (chunks_now (stands_in p q)) ≡ numbers (chunks_now p)
      of_len zero is =
          let gone_number : (stands_in p q).part.number ≡ None = ap (λ n. cond (n == 0) None p.part.number) is in
          one_number (present q) (chunk_now (stands_in p q).part) some ∙ no_number (chunk_now (stands_in p q).part) gone_number ∙ ap (λ n. numbers (some_of (take n p.part.items.items) (chunk_now p.part))) (sym is)
      of_len (suc n) is =
          let kept : (stands_in p q).part.number ≡ p.part.number = ap (λ b. cond b None p.part.number) {x = p.part.len == 0} {y = false} (grind (arith, nat_tests, is)) in
          one_number (present q) (chunk_now (stands_in p q).part) some ∙ same_number (chunk_now (stands_in p q).part) (chunk_now p.part) kept ∙ sym (one_number (present p.part) (chunk_now p.part) (omega (arith, is, s.within, length-take-le p.part.len p.part.items.items s.within)))

  pub new_changed : (p : Part X) (w : Was X) → is_new w ≡ true → IsSizedWas p w → p.changed ≡ true
  new_changed p Itself new s = absurd (false≢true new)
  new_changed p Nothing new s = s
  new_changed p (Other old) new s = s.1

  pub new_was : (p n : Part X) (w : Was X) → is_new w ≡ true → IsSizedWas p w → n.changed ≡ true → IsSizedWas n w
  new_was p n Itself new s changed = absurd (false≢true new)
  new_was p n Nothing new s changed = changed
  new_was p n (Other old) new s changed = (s.0, changed)

  pub new_then : (cmp : X → X → Ordering) (p n : Part X) (w : Was X) → is_new w ≡ true → was_chunks cmp n w ≡ was_chunks cmp p w
  new_then cmp p n Itself new = absurd (false≢true new)
  new_then cmp p n Nothing new = refl
  new_then cmp p n (Other old) new = refl

module _ {X : Type 0} (cmp : X → X → Ordering) (o : IsTotalOrder cmp) (bytes : X → ℕ) (most : ℕ) (few : most ≤ 512) (x : X) where
  present_seen : (p : Piece X) → 1 ≤ p.part.len → present p.part ≡ shown p
  present_seen p some = ap (λ n. take n p.part.items.items) {x = p.part.len} {y = max p.part.len 1} (omega arith)

  module _ (ps : List (Piece X)) (sound : IsSound cmp ps) (i at : ℕ) (g : Gap cmp x ps i at) where
    sound_here : IsSound cmp (g.before ++ (g.piece ∷ []) ++ g.after)
    sound_here = subst (IsSound cmp) (g.split ∙ sym (append_assoc g.before (g.piece ∷ []) g.after)) sound

    pub gap_sized : IsSized g.piece
    gap_sized = (each_rest IsSized g.before (g.piece ∷ g.after) (subst (Each IsSized) g.split sound.sized)).0

    seen_here : IsAscending cmp (flat_map shown g.before ++ (shown g.piece ++ flat_map shown g.after))
    seen_here = subst (IsAscending cmp) (ap (flat_map shown) g.split ∙ flat_map-append shown g.before (g.piece ∷ g.after)) sound.ascending

    present_here : IsAscending cmp (flat_map shown g.before ++ (present g.piece.part ++ flat_map shown g.after))
    present_here = of_len g.piece.part.len refl
      where
        of_len : (n : ℕ) → g.piece.part.len ≡ n → IsAscending cmp (flat_map shown g.before ++ (present g.piece.part ++ flat_map shown g.after))
        of_len zero is = subst (λ k. IsAscending cmp (flat_map shown g.before ++ (take k g.piece.part.items.items ++ flat_map shown g.after))) (sym is) (pairs_outside (λ u v. cmp u v ≡ Less) (flat_map shown g.before) (shown g.piece) (flat_map shown g.after) seen_here)
        of_len (suc n) is = subst (λ l. IsAscending cmp (flat_map shown g.before ++ (l ++ flat_map shown g.after))) (sym (present_seen g.piece (omega arith))) seen_here

    parted_here : IsAscending cmp (flat_map shown g.before ++ ((take at (present g.piece.part) ++ drop at (present g.piece.part)) ++ flat_map shown g.after))
    parted_here = subst (λ l. IsAscending cmp (flat_map shown g.before ++ (l ++ flat_map shown g.after))) (sym (take-append-drop at (present g.piece.part))) present_here

    -- what takes the piece's place is pieces of its entries with x
    pub replaces : (qs : List (Piece X)) → Each IsSized qs → flat_map shown qs ≡ put_in at x (present g.piece.part) → entries_of qs ≡ put_in at x (present g.piece.part) → flat_map (chunks_then cmp) qs ≡ chunks_then cmp g.piece → numbers (flat_map chunks_now qs) ≡ numbers (chunks_now g.piece) → Each (IsCut bytes most) (flat_map chunks_now qs) → Replaces cmp o bytes most g.before (g.piece ∷ []) qs g.after x (take at (present g.piece.part)) [] (drop at (present g.piece.part))
    replaces qs sized seen entries marked numbered is_cut = record {
      sound = sound_here;
      ascending = parted_here;
      low = g.low;
      upto = g.upto;
      behind = g.behind;
      high = g.high;
      there = append-nil (present g.piece.part) ∙ sym (take-append-drop at (present g.piece.part));
      sized = sized;
      seen = seen;
      entries = entries;
      marked = marked ∙ sym (append-nil (chunks_then cmp g.piece));
      numbered = numbered ∙ ap numbers (sym (append-nil (chunks_now g.piece)));
      cut = each_more (IsCut bytes most) (λ c. IsOneOf c (chunks_now g.piece ++ []) ⊎ IsCut bytes most c) (flat_map chunks_now qs) (λ c is. inr is) is_cut;
    }

    -- a new list of pieces with those in place of the piece
    pub record Comes (new : List (Piece X)) : Type 0 where
      pub is_sound : IsSound cmp new
      pub is_added : Adds cmp bytes most x (view cmp ps) (view cmp new)

    pub comes : (qs new : List (Piece X)) → new ≡ g.before ++ qs ++ g.after → Replaces cmp o bytes most g.before (g.piece ∷ []) qs g.after x (take at (present g.piece.part)) [] (drop at (present g.piece.part)) → Comes new
    comes qs new is r = record {
      is_sound = subst (IsSound cmp) (sym is) (now_sound cmp o bytes most g.before (g.piece ∷ []) qs g.after x (take at (present g.piece.part)) [] (drop at (present g.piece.part)) r);
      is_added = subst (λ l. Adds cmp bytes most x (view cmp ps) (view cmp l)) (sym is) (subst (λ l. Adds cmp bytes most x (view cmp l) (view cmp (g.before ++ qs ++ g.after))) (append_assoc g.before (g.piece ∷ []) g.after ∙ sym g.split) (adds cmp o bytes most g.before (g.piece ∷ []) qs g.after x (take at (present g.piece.part)) [] (drop at (present g.piece.part)) r refl));
    }

    before_is : take i ps ≡ g.before
    before_is = ap (take i) g.split ∙ take_at g.before (g.piece ∷ g.after) i g.index

    after_is : drop (suc i) ps ≡ g.after
    after_is = ap (drop (suc i)) (g.split ∙ sym (append_assoc g.before (g.piece ∷ []) g.after)) ∙ drop_at (g.before ++ g.piece ∷ []) g.after (suc i) (omega (arith, length-append g.before (g.piece ∷ []), g.index))

    in_range : i < length ps
    in_range = omega (arith, g.index, ap length g.split, length-append g.before (g.piece ∷ g.after))

    -- ---- into new pieces

    stood_numbers : (m : Piece X) (more : List (Piece X)) → IsMade bytes most m → Each (IsMade bytes most) more → numbers (flat_map chunks_now (stands_in g.piece m.part ∷ more)) ≡ numbers (chunks_now g.piece)
    stood_numbers m more made mores =
        numbers_append (chunks_now (stands_in g.piece m.part)) (flat_map chunks_now more)
        ∙ ap (λ l. numbers (chunks_now (stands_in g.piece m.part)) ++ l) (made_numbers bytes most more mores)
        ∙ append-nil (numbers (chunks_now (stands_in g.piece m.part)))
        ∙ stood_number g.piece m.part gap_sized.part (subst (λ l. 1 ≤ length l) (sym (made_present bytes most m made)) made.some)

    pub anew : (made new : List (Piece X)) → IsCutOf bytes most at x g.piece.part made → StandsFor ps i made new → Comes new
    anew made new c s =
        let d_is : s.piece ≡ g.piece = sym (get_or_at (take i ps) s.piece (drop (suc i) ps) g.piece i (length-take-le i ps (omega (arith, in_range)))) ∙ ap (λ l. get_or l i g.piece) (sym s.split) ∙ ap (λ l. get_or l i g.piece) g.split ∙ get_or_at g.before g.piece g.after g.piece i g.index in
        let is : new ≡ g.before ++ (stands_in g.piece s.first.part ∷ s.more) ++ g.after = s.new_is ∙ ap (λ l. l ++ (stands_in s.piece s.first.part ∷ s.more) ++ drop (suc i) ps) before_is ∙ ap (λ l. g.before ++ (stands_in s.piece s.first.part ∷ s.more) ++ l) after_is ∙ ap (λ q. g.before ++ (stands_in q s.first.part ∷ s.more) ++ g.after) d_is in
        let each : Each (IsMade bytes most) (s.first ∷ s.more) = subst (Each (IsMade bytes most)) s.made_is c.each in
        let items : items_of (s.first ∷ s.more) ≡ put_in at x (present g.piece.part) = ap items_of (sym s.made_is) ∙ c.items in
        comes (stands_in g.piece s.first.part ∷ s.more) new is (replaces (stands_in g.piece s.first.part ∷ s.more)
        (stood_sized bytes most few g.piece s.first gap_sized each.0, made_sized bytes most few s.more each.1)
        (made_seen bytes most (s.first ∷ s.more) each ∙ items)
        (made_entries bytes most (s.first ∷ s.more) each ∙ items)
        (ap₂ (λ k l. k ++ l) (stood_then cmp g.piece.part (stands_in g.piece s.first.part).part g.piece.was) (made_then cmp bytes most s.more each.1) ∙ append-nil (chunks_then cmp g.piece))
        (stood_numbers s.first s.more each.0 each.1)
        (each_append (IsCut bytes most) (chunks_now (stands_in g.piece s.first.part)) (flat_map chunks_now s.more) (each_some (IsCut bytes most) (present s.first.part) (chunk_now (stands_in g.piece s.first.part).part) (cut_chunk bytes most (stands_in g.piece s.first.part).part each.0.changed (ap (is_within bytes most) (made_present bytes most s.first each.0) ∙ each.0.within))) (made_cut bytes most s.more each.1)))

    -- ---- among the entries of a new piece

    pub within : (q n : Piece X) → q ≡ g.piece → IsWithinWay bytes most x g.piece → n.part.items.items ≡ put_in at x (present q.part) → n.part.len ≡ q.part.len + 1 → n.part.number ≡ q.part.number → n.part.changed ≡ q.part.changed → n.was ≡ q.was → Comes (set ps i n)
    within q n same way q_items q_len q_number q_changed q_was =
        let p = g.piece in
        let items : n.part.items.items ≡ put_in at x (present p.part) = q_items ∙ ap (λ r. put_in at x (present r.part)) same in
        let len : n.part.len ≡ p.part.len + 1 = q_len ∙ ap (λ r. r.part.len + 1) same in
        let number : n.part.number ≡ p.part.number = q_number ∙ ap (λ r. r.part.number) same in
        let changed : n.part.changed ≡ p.part.changed = q_changed ∙ ap (λ r. r.part.changed) same in
        let was : n.was ≡ p.was = q_was ∙ ap (λ r. r.was) same in
        let count : length (present p.part) ≡ p.part.len = length-take-le p.part.len p.part.items.items gap_sized.part.within in
        let long : length n.part.items.items ≡ p.part.len + 1 = ap length items ∙ length-put_in at x (present p.part) ∙ omega (arith, count) in
        let there : present n.part ≡ put_in at x (present p.part) = take_all n.part.len n.part.items.items (omega (arith, long, len)) ∙ items in
        let seen : shown n ≡ put_in at x (present p.part) = take_all (max n.part.len 1) n.part.items.items (omega (arith, long, len)) ∙ items in
        let few_now : p.part.len + 1 ≤ 512 = omega (arith, few_within bytes most (x ∷ present p.part) few way.room, count) in
        let old_changed : p.part.changed ≡ true = new_changed p.part p.was way.is_new_one gap_sized.was in
        let is : set ps i n ≡ g.before ++ (n ∷ []) ++ g.after = ap (λ l. set l i n) g.split ∙ set_at g.before p g.after n i g.index ∙ sym (append_assoc g.before (n ∷ []) g.after) in
        comes (n ∷ []) (set ps i n) is (replaces (n ∷ [])
        (record { part = record { within = omega (arith, long, len); few = omega (arith, few_now, len) }; was = subst (IsSizedWas n.part) (sym was) (new_was p.part n.part p.was way.is_new_one gap_sized.was (changed ∙ old_changed)) }, tt)
        (append-nil (shown n) ∙ seen)
        (append-nil (present n.part) ∙ there)
        (append-nil (chunks_then cmp n) ∙ ap (was_chunks cmp n.part) was ∙ new_then cmp p.part n.part p.was way.is_new_one)
        (ap numbers (append-nil (chunks_now n)) ∙ one_number (present n.part) (chunk_now n.part) (omega (arith, ap length there, length-put_in at x (present p.part))) ∙ same_number (chunk_now n.part) (chunk_now p.part) number ∙ sym (one_number (present p.part) (chunk_now p.part) (omega (arith, count, way.some))))
        (each_append (IsCut bytes most) (chunks_now n) [] (each_some (IsCut bytes most) (present n.part) (chunk_now n.part) (cut_chunk bytes most n.part (changed ∙ old_changed) (ap (is_within bytes most) there ∙ within_put_in bytes most at x (present p.part) ∙ way.room))) tt))

  -- ---- behind all others

  pub record Came (ps new : List (Piece X)) : Type 0 where
    pub is_sound : IsSound cmp new
    pub is_added : Adds cmp bytes most x (view cmp ps) (view cmp new)

  pub alone : (ps : List (Piece X)) (q : Piece X) → IsSound cmp ps → Each (λ e. cmp e x ≡ Less) (flat_map shown ps) → IsMade bytes most q → q.part.items.items ≡ x ∷ [] → Came ps (ps ++ q ∷ [])
  alone ps q sound low made items =
      let made_all : Each (IsMade bytes most) (q ∷ []) = (made, tt) in
      let own : items_of (q ∷ []) ≡ x ∷ [] = append-nil q.part.items.items ∙ items in
      let old : ps ++ [] ++ [] ≡ ps = append-nil (ps ++ []) ∙ append-nil ps in
      let new : ps ++ (q ∷ []) ++ [] ≡ ps ++ q ∷ [] = append-nil (ps ++ q ∷ []) in
      let r : Replaces cmp o bytes most ps [] (q ∷ []) [] x [] [] [] = record {
        sound = subst (IsSound cmp) (sym old) sound;
        ascending = subst (IsAscending cmp) (sym (append-nil (flat_map shown ps))) sound.ascending;
        low = low;
        upto = tt;
        behind = tt;
        high = tt;
        there = refl;
        sized = made_sized bytes most few (q ∷ []) made_all;
        seen = made_seen bytes most (q ∷ []) made_all ∙ own;
        entries = made_entries bytes most (q ∷ []) made_all ∙ own;
        marked = made_then cmp bytes most (q ∷ []) made_all;
        numbered = made_numbers bytes most (q ∷ []) made_all;
        cut = each_more (IsCut bytes most) (λ c. ⊥ ⊎ IsCut bytes most c) (flat_map chunks_now (q ∷ [])) (λ c is. inr is) (made_cut bytes most (q ∷ []) made_all);
      } in
      record {
        is_sound = subst (IsSound cmp) new (now_sound cmp o bytes most ps [] (q ∷ []) [] x [] [] [] r);
        is_added = subst (λ l. Adds cmp bytes most x (view cmp ps) (view cmp l)) new (subst (λ l. Adds cmp bytes most x (view cmp l) (view cmp (ps ++ (q ∷ []) ++ []))) old (adds cmp o bytes most ps [] (q ∷ []) [] x [] [] [] r refl));
      }

-- ---- a piece that is the same but for its memory

pub record IsSame {X : Type 0} (n q : Piece X) : Type 0 where
  pub items : n.part.items.items ≡ q.part.items.items
  pub len : n.part.len ≡ q.part.len
  pub number : n.part.number ≡ q.part.number
  pub changed : n.part.changed ≡ q.part.changed
  pub was : n.was ≡ q.was

module _ {X : Type 0} (cmp : X → X → Ordering) (n q : Piece X) (same : IsSame n q) where
  same_shown : shown n ≡ shown q
  same_shown = ap₂ (λ xs l. take (max l 1) xs) same.items same.len

  abbrev now_of : List X → ℕ → Option ℕ → Bool → List (Chunk X)
  now_of xs l k b = nonempty (record { entries = take l xs; number = k; changed = b || nat_lt l (length xs) })

  same_now : chunks_now n ≡ chunks_now q
  same_now = ap₂ (λ xs l. now_of xs l n.part.number n.part.changed) same.items same.len ∙ ap₂ (now_of q.part.items.items q.part.len) same.number same.changed

  abbrev then_of : List X → ℕ → Option ℕ → Bool → List (Chunk X)
  then_of xs l k b = record { entries = restored cmp (take l xs) (drop l xs); number = k; changed = b } ∷ []

  same_chunk : chunk_then cmp n.part ∷ [] ≡ chunk_then cmp q.part ∷ []
  same_chunk = ap₂ (λ xs l. then_of xs l n.part.number n.part.changed) same.items same.len ∙ ap₂ (then_of q.part.items.items q.part.len) same.number same.changed

  same_then : chunks_then cmp n ≡ chunks_then cmp q
  same_then = ap (was_chunks cmp n.part) same.was ∙ of_was q.was
    where
      of_was : (w : Was X) → was_chunks cmp n.part w ≡ was_chunks cmp q.part w
      of_was Itself = same_chunk
      of_was Nothing = refl
      of_was (Other old) = refl

  same_sized : IsSized q → IsSized n
  same_sized s = record {
    part = record { within = omega (arith, s.part.within, same.len, ap length same.items); few = omega (arith, s.part.few, same.len) };
    was = subst (IsSizedWas n.part) (sym same.was) (of_was q.was s.was);
  }
    where
      of_was : (w : Was X) → IsSizedWas q.part w → IsSizedWas n.part w
      of_was Itself w = record { some = omega (arith, w.some, ap length same.items); within = omega (arith, w.within, same.len, ap length same.items); few = omega (arith, w.few, ap length same.items) }
      of_was Nothing changed = same.changed ∙ changed
      of_was (Other old) w = (w.0, same.changed ∙ w.1)

  module _ (before after : List (Piece X)) where
    with_same : {Y : Type 0} (f : Piece X → List Y) → f n ≡ f q → flat_map f (before ++ n ∷ after) ≡ flat_map f (before ++ q ∷ after)
    with_same f is = flat_map-append f before (n ∷ after) ∙ ap (λ l. flat_map f before ++ (l ++ flat_map f after)) is ∙ sym (flat_map-append f before (q ∷ after))

    pub view_same : view cmp (before ++ n ∷ after) ≡ view cmp (before ++ q ∷ after)
    view_same = ap₂ (λ c m. record { chunks = c; marked = m }) (with_same chunks_now same_now) (with_same (chunks_then cmp) same_then)

    pub sound_same : IsSound cmp (before ++ q ∷ after) → IsSound cmp (before ++ n ∷ after)
    sound_same s = record {
      sized = each_append IsSized before (n ∷ after) (each_front IsSized before (q ∷ after) s.sized) (same_sized (each_rest IsSized before (q ∷ after) s.sized).0, (each_rest IsSized before (q ∷ after) s.sized).1);
      ascending = subst (IsAscending cmp) (sym (with_same shown same_shown)) s.ascending;
      marked = subst (λ l. IsAscending cmp (joined l)) (sym (with_same (chunks_then cmp) same_then)) s.marked;
    }

-- the same, at a place of the pieces
module _ {X : Type 0} (cmp : X → X → Ordering) (ps before : List (Piece X)) (p : Piece X) (after : List (Piece X)) (i : ℕ) (split : ps ≡ before ++ p ∷ after) (index : length before ≡ i) (n : Piece X) (same : IsSame n p) where
  set_is : set ps i n ≡ before ++ n ∷ after
  set_is = ap (λ l. set l i n) split ∙ set_at before p after n i index

  pub view_set : view cmp (set ps i n) ≡ view cmp ps
  view_set = ap (view cmp) set_is ∙ view_same cmp n p same before after ∙ ap (view cmp) (sym split)

  pub sound_set : IsSound cmp ps → IsSound cmp (set ps i n)
  sound_set s = subst (IsSound cmp) (sym set_is) (sound_same cmp n p same before after (subst (IsSound cmp) split s))

-- ---- the last gap

module _ {X : Type 0} (cmp : X → X → Ordering) (x : X) (ps : List (Piece X)) where
  pub last_gap : (i at : ℕ) (g : Gap cmp x ps i at) → i + 1 ≡ length ps → at ≡ g.piece.part.len → 1 ≤ at → Each (λ e. cmp e x ≡ Less) (flat_map shown ps)
  last_gap i at g last all some =
      let low : X → Type 0 = λ e. cmp e x ≡ Less in
      let none : g.after ≡ [] = nil_from_length g.after (omega (arith, g.index, ap length g.split, length-append g.before (g.piece ∷ g.after))) in
      let seen : shown g.piece ≡ take at (present g.piece.part) = ap (λ n. take n g.piece.part.items.items) {x = max g.piece.part.len 1} {y = g.piece.part.len} (omega arith) ∙ sym (take-take g.piece.part.len g.piece.part.len g.piece.part.items.items (omega arith)) ∙ ap (λ n. take n (present g.piece.part)) (sym all) in
      let last_seen : Each low (shown g.piece ++ flat_map shown g.after) = each_append low (shown g.piece) (flat_map shown g.after) (subst (Each low) (sym seen) g.upto) (subst (λ l. Each low (flat_map shown l)) (sym none) tt) in
      subst (Each low) (sym (ap (flat_map shown) g.split ∙ flat_map-append shown g.before (g.piece ∷ g.after))) (each_append low (flat_map shown g.before) (shown g.piece ++ flat_map shown g.after) g.low last_seen)

pub place_ascends : {X : Type 0} (cmp : X → X → Ordering) (side : X → Ordering) (parts : (x y : X) → cmp x y ≡ Less → (side x ≡ Less) ⊎ (side y ≡ Greater)) (ps : List (Piece X)) (i at : ℕ) (p : Place side ps i at) → IsSound cmp ps → IsAscending cmp (present p.piece.part)
place_ascends cmp side parts ps i at p s = present_ascends cmp side parts p.piece (pairs_front (λ u v. cmp u v ≡ Less) (shown p.piece) (flat_map shown p.after) (pairs_rest (λ u v. cmp u v ≡ Less) (flat_map shown p.before) (shown p.piece ++ flat_map shown p.after) (subst (IsAscending cmp) (ap (flat_map shown) p.split ∙ flat_map-append shown p.before (p.piece ∷ p.after)) s.ascending)))

pub on_err : {T E P : Type 0} (r : Result T E) → P → OnErr r P
on_err (Ok v) p = tt
on_err (Err e) p = p
