-- An entry in place of the one that is equal to it.
use Rattle.std.proofs.Common.{◌≡◌, ◌⊎◌, ◌∙◌, ap, ap₂, sym, refl, subst, inr, ℕ, zero, suc, ◌-◌, ◌<◌, ◌≤◌, Bool, true, false, cond, not, ◌||◌, max, List, [], ◌∷◌, ◌++◌, length, take, drop, filter, get_or, set, flat_map, Result, Ok, Err, OnOk, arith, append-nil, append_assoc, length-append, take-append-drop}
use Rattle.std.specs.List.{list_any}
use Rattle.std.specs.Ordering.{is_eq}
use Rattle.std.specs.Cmp.{IsTotalOrder}
use Rattle.std.specs.declared.cmp.Ordering.{Ordering}
use Rattle.std.specs.declared.cmp.Ordering.TheVariants.{Less, Greater}
use Rattle.std.proofs.lemmas.Bool.{false≢true, true≢false}
use Rattle.std.proofs.lemmas.List.{take_at, drop_at, get_or_at, length-take-le}
use Rattle.std.proofs.lemmas.List.Concat.{flat_map-append}
use Rattle.oc_model.specs.Lists.{IsOneOf, placed}
use Rattle.oc_chunks.specs.declared.piece.Piece.{Piece}
use Rattle.oc_chunks.specs.Adding.{Gap, IsCutOver}
use Rattle.oc_chunks.specs.Ascending.{Each, IsAscending, has, replaced}
use Rattle.oc_chunks.specs.Chunks.{Chunked, joined, numbers, is_within, IsCut, Adds, Puts}
use Rattle.oc_chunks.specs.Cutting.{IsMade, IsCutInto, items_of}
use Rattle.oc_chunks.specs.declared.piece.Part.{Part}
use Rattle.oc_chunks.specs.Editing.{stands_in, StandsFor}
use Rattle.oc_chunks.specs.Pieces.{present, shown, last_is, chunk_now, chunks_now, IsSized, IsSound, Place, view}
use Rattle.oc_chunks.specs.Places.{at_parts}
use Rattle.oc_chunks.specs.Removing.{IsHere}
use Rattle.oc_chunks.proofs.Eaches.{each_append, each_rest, each_more, pairs_without}
use Rattle.oc_chunks.proofs.Filling.{made_present, made_entries, made_seen, made_then, made_numbers, made_cut, made_sized, stood_sized, stood_then, cut_chunk, each_some}
use Rattle.oc_chunks.proofs.Gaps.{place_ascends, stood_number}
use Rattle.oc_chunks.proofs.Leaving.{Nth, nth, before_it, equal_is, one_goes}
use Rattle.oc_chunks.proofs.Replacing.{Replaces, now_sound, numbers_same, then_same, others, old_entries, new_entries, lows, highs, numbers_append, placed_between, not_there}
use Rattle.oc_chunks.proofs.Views.{entries_of, joined_now, each_entry}

module _ {X : Type 0} (cmp : X → X → Ordering) (o : IsTotalOrder cmp) where
  kept_any : (p : X → Bool) (xs : List X) → list_any p xs ≡ false → filter (λ e. not (p e)) xs ≡ xs
  kept_any p [] off = refl
  kept_any p (x ∷ xs) off = of_test (p x) off (kept_any p xs)
    where
      of_test : (b : Bool) → (b || list_any p xs) ≡ false → (list_any p xs ≡ false → filter (λ e. not (p e)) xs ≡ xs) → cond (not b) (x ∷ filter (λ e. not (p e)) xs) (filter (λ e. not (p e)) xs) ≡ x ∷ xs
      of_test true off rest = absurd (true≢false off)
      of_test false off rest = ap (λ l. x ∷ l) (rest off)

  -- where none is equal, to put is to add
  pub puts_new : (bytes : X → ℕ) (most : ℕ) (x : X) (old new : Chunked X) → has cmp x (joined old.chunks) ≡ false → Adds cmp bytes most x old new → Puts cmp bytes most x old new
  puts_new bytes most x old new off a = record {
    entries = a.entries ∙ ap (λ b. cond b (joined old.chunks) (placed cmp x (joined old.chunks))) off ∙ ap (placed cmp x) (sym (kept_any (λ e. is_eq (cmp e x)) (joined old.chunks) off));
    marked = a.marked;
    numbers = a.numbers;
    chunks = a.chunks;
  }

  pub gap_absent : (x : X) (ps : List (Piece X)) (i at : ℕ) → Gap cmp x ps i at → has cmp x (joined (flat_map chunks_now ps)) ≡ false
  gap_absent x ps i at g =
      let es = present g.piece.part in
      let us = entries_of g.before ++ take at es in
      let vs = drop at es ++ entries_of g.after in
      let split : joined (flat_map chunks_now ps) ≡ us ++ vs = joined_now ps ∙ ap entries_of g.split ∙ flat_map-append (λ q. present q.part) g.before (g.piece ∷ g.after) ∙ ap (λ l. entries_of g.before ++ (l ++ entries_of g.after)) (sym (take-append-drop at es)) ∙ ap (λ l. entries_of g.before ++ l) (append_assoc (take at es) (drop at es) (entries_of g.after)) ∙ sym (append_assoc (entries_of g.before) (take at es) vs) in
      ap (has cmp x) split ∙ not_there cmp o x us vs (each_append (λ e. cmp e x ≡ Less) (entries_of g.before) (take at es) (each_entry (λ e. cmp e x ≡ Less) g.before g.low) g.upto) (each_append (λ e. cmp e x ≡ Greater) (drop at es) (entries_of g.after) g.behind (each_entry (λ e. cmp e x ≡ Greater) g.after g.high))

module _ {X : Type 0} (cmp : X → X → Ordering) (o : IsTotalOrder cmp) (bytes : X → ℕ) (most : ℕ) (few : most ≤ 512) (x : X) (ps : List (Piece X)) (sound : IsSound cmp ps) (i at : ℕ) (here : IsHere (λ e. cmp e x) ps i at) where
  abbrev pl : Place (λ e. cmp e x) ps i at
  pl = here.place

  abbrev p : Piece X
  p = pl.piece

  abbrev es : List X
  es = present p.part

  abbrev a : ℕ
  a = at - 1

  abbrev Below : X → X → Type 0
  Below u v = cmp u v ≡ Less

  piece_sized : IsSized p
  piece_sized = (each_rest IsSized pl.before (p ∷ pl.after) (subst (Each IsSized) pl.split sound.sized)).0

  es_long : length es ≡ p.part.len
  es_long = length-take-le p.part.len p.part.items.items piece_sized.part.within

  not_first : (n : ℕ) (xs : List X) → last_is (λ e. cmp e x) (take n xs) ≡ true → 1 ≤ n
  not_first zero xs it = absurd (false≢true it)
  not_first (suc n) xs it = omega arith

  pub some : 1 ≤ at
  some = not_first at es here.last

  pub place_some : 1 ≤ p.part.len
  place_some = omega (arith, some, pl.within)

  found : Nth (λ e. cmp e x) es a
  found = nth (λ e. cmp e x) es a (omega (arith, some, es_long, pl.within))

  equal : is_eq (cmp found.it x) ≡ true
  equal = sym found.last ∙ ap (λ k. last_is (λ e. cmp e x) (take k es)) {x = suc a} {y = at} (omega (arith, some)) ∙ here.last

  es_split : es ≡ take a es ++ found.it ∷ drop at es
  es_split = found.split ∙ ap (λ k. take a es ++ found.it ∷ drop k es) {x = suc a} {y = at} (omega (arith, some))

  low : Each (λ e. cmp e x ≡ Less) (take a es)
  low = before_it cmp o (λ e. cmp e x) (at_parts cmp o x) (take a es) found.it (drop at es) (subst (IsAscending cmp) es_split (place_ascends cmp (λ e. cmp e x) (at_parts cmp o x) ps i at pl sound)) (equal_is cmp o (λ e. cmp e x) (at_parts cmp o x) (cmp found.it x) equal)

  seen_here : IsAscending cmp (flat_map shown pl.before ++ (es ++ flat_map shown pl.after))
  seen_here = subst (λ l. IsAscending cmp (flat_map shown pl.before ++ (l ++ flat_map shown pl.after))) (ap (λ n. take n p.part.items.items) {x = max p.part.len 1} {y = p.part.len} (omega (arith, place_some))) (subst (IsAscending cmp) (ap (flat_map shown) pl.split ∙ flat_map-append shown pl.before (p ∷ pl.after)) sound.ascending)

  parted_here : IsAscending cmp (flat_map shown pl.before ++ ((take a es ++ drop at es) ++ flat_map shown pl.after))
  parted_here =
      let sb = flat_map shown pl.before in
      let sa = flat_map shown pl.after in
      let shape : (m : List X) → sb ++ ((take a es ++ m) ++ sa) ≡ (sb ++ take a es) ++ (m ++ sa) = λ m. ap (λ l. sb ++ l) (append_assoc (take a es) m sa) ∙ sym (append_assoc sb (take a es) (m ++ sa)) in
      subst (IsAscending cmp) (sym (shape (drop at es))) (pairs_without Below (sb ++ take a es) found.it (drop at es ++ sa) (subst (IsAscending cmp) (ap (λ l. sb ++ (l ++ sa)) es_split ∙ shape (found.it ∷ drop at es)) seen_here))

  abbrev over : List X
  over = take a es ++ x ∷ drop at es

  before_is : take i ps ≡ pl.before
  before_is = ap (take i) pl.split ∙ take_at pl.before (p ∷ pl.after) i pl.index

  after_is : drop (suc i) ps ≡ pl.after
  after_is = ap (drop (suc i)) (pl.split ∙ sym (append_assoc pl.before (p ∷ []) pl.after)) ∙ drop_at (pl.before ++ p ∷ []) pl.after (suc i) (omega (arith, length-append pl.before (p ∷ []), pl.index))

  in_range : i < length ps
  in_range = omega (arith, pl.index, ap length pl.split, length-append pl.before (p ∷ pl.after))

  pub record Swapped (new : List (Piece X)) : Type 0 where
    pub is_sound : IsSound cmp new
    pub is_put : Puts cmp bytes most x (view cmp ps) (view cmp new)

  module _ (made new : List (Piece X)) (c : IsCutOver bytes most at x p.part made) (s : StandsFor ps i made new) where
    d_is : s.piece ≡ p
    d_is = sym (get_or_at (take i ps) s.piece (drop (suc i) ps) p i (length-take-le i ps (omega (arith, in_range)))) ∙ ap (λ l. get_or l i p) (sym s.split) ∙ ap (λ l. get_or l i p) pl.split ∙ get_or_at pl.before p pl.after p i pl.index

    abbrev qs : List (Piece X)
    qs = stands_in p s.first.part ∷ s.more

    new_is : new ≡ pl.before ++ qs ++ pl.after
    new_is = s.new_is ∙ ap (λ l. l ++ (stands_in s.piece s.first.part ∷ s.more) ++ drop (suc i) ps) before_is ∙ ap (λ l. pl.before ++ (stands_in s.piece s.first.part ∷ s.more) ++ l) after_is ∙ ap (λ q. pl.before ++ (stands_in q s.first.part ∷ s.more) ++ pl.after) d_is

    each : Each (IsMade bytes most) (s.first ∷ s.more)
    each = subst (Each (IsMade bytes most)) s.made_is c.each

    items : items_of (s.first ∷ s.more) ≡ over
    items = ap items_of (sym s.made_is) ∙ c.items

    old_is : pl.before ++ (p ∷ []) ++ pl.after ≡ ps
    old_is = append_assoc pl.before (p ∷ []) pl.after ∙ sym pl.split

    stood_numbers : numbers (flat_map chunks_now qs) ≡ numbers (flat_map chunks_now (p ∷ []))
    stood_numbers =
        numbers_append (chunks_now (stands_in p s.first.part)) (flat_map chunks_now s.more)
        ∙ ap (λ l. numbers (chunks_now (stands_in p s.first.part)) ++ l) (made_numbers bytes most s.more each.1)
        ∙ append-nil (numbers (chunks_now (stands_in p s.first.part)))
        ∙ stood_number p s.first.part piece_sized.part (subst (λ l. 1 ≤ length l) (sym (made_present bytes most s.first each.0)) each.0.some)
        ∙ ap numbers (sym (append-nil (chunks_now p)))

    replaces : Replaces cmp o bytes most pl.before (p ∷ []) qs pl.after x (take a es) (found.it ∷ []) (drop at es)
    replaces = record {
      sound = subst (IsSound cmp) (sym old_is) sound;
      ascending = parted_here;
      low = pl.low;
      upto = low;
      behind = pl.behind;
      high = pl.high;
      there = append-nil es ∙ es_split;
      sized = (stood_sized bytes most few p s.first piece_sized each.0, made_sized bytes most few s.more each.1);
      seen = made_seen bytes most (s.first ∷ s.more) each ∙ items;
      entries = made_entries bytes most (s.first ∷ s.more) each ∙ items;
      marked = ap₂ (λ k l. k ++ l) (stood_then cmp p.part (stands_in p s.first.part).part p.was) (made_then cmp bytes most s.more each.1);
      numbered = stood_numbers;
      cut = each_more (IsCut bytes most) (λ c. IsOneOf c (chunks_now p ++ []) ⊎ IsCut bytes most c) (flat_map chunks_now qs) (λ c is. inr is) (each_append (IsCut bytes most) (chunks_now (stands_in p s.first.part)) (flat_map chunks_now s.more) (each_some (IsCut bytes most) (present s.first.part) (chunk_now (stands_in p s.first.part).part) (cut_chunk bytes most (stands_in p s.first.part).part each.0.changed (ap (is_within bytes most) (made_present bytes most s.first each.0) ∙ each.0.within))) (made_cut bytes most s.more each.1));
    }

    abbrev us : List X
    us = entries_of pl.before ++ take a es

    abbrev vs : List X
    vs = drop at es ++ entries_of pl.after

    less_off : (ws : List X) → Each (λ e. cmp e x ≡ Less) ws → Each (λ e. is_eq (cmp e x) ≡ false) ws
    less_off ws k = each_more (λ e. cmp e x ≡ Less) (λ e. is_eq (cmp e x) ≡ false) ws (λ e is. ap is_eq is) k

    more_off : (ws : List X) → Each (λ e. cmp e x ≡ Greater) ws → Each (λ e. is_eq (cmp e x) ≡ false) ws
    more_off ws k = each_more (λ e. cmp e x ≡ Greater) (λ e. is_eq (cmp e x) ≡ false) ws (λ e is. ap is_eq is) k

    swapped_entries : joined (flat_map chunks_now (pl.before ++ qs ++ pl.after)) ≡ replaced cmp x (joined (flat_map chunks_now (pl.before ++ (p ∷ []) ++ pl.after)))
    swapped_entries =
        let r = replaces in
        let lo = lows cmp o bytes most pl.before (p ∷ []) qs pl.after x (take a es) (found.it ∷ []) (drop at es) r in
        let hi = highs cmp o bytes most pl.before (p ∷ []) qs pl.after x (take a es) (found.it ∷ []) (drop at es) r in
        new_entries cmp o bytes most pl.before (p ∷ []) qs pl.after x (take a es) (found.it ∷ []) (drop at es) r
        ∙ sym (ap (replaced cmp x) (old_entries cmp o bytes most pl.before (p ∷ []) qs pl.after x (take a es) (found.it ∷ []) (drop at es) r)
        ∙ ap (placed cmp x) (one_goes (λ e. is_eq (cmp e x)) us found.it vs (less_off us lo) equal (more_off vs hi))
        ∙ placed_between cmp o x us vs lo hi)

    pub swapped : Swapped new
    swapped = record {
      is_sound = subst (IsSound cmp) (sym new_is) (now_sound cmp o bytes most pl.before (p ∷ []) qs pl.after x (take a es) (found.it ∷ []) (drop at es) replaces);
      is_put = subst (λ l. Puts cmp bytes most x (view cmp ps) (view cmp l)) (sym new_is) (subst (λ l. Puts cmp bytes most x (view cmp l) (view cmp (pl.before ++ qs ++ pl.after))) old_is (record {
        entries = swapped_entries;
        marked = then_same cmp o bytes most pl.before (p ∷ []) qs pl.after x (take a es) (found.it ∷ []) (drop at es) replaces;
        numbers = numbers_same cmp o bytes most pl.before (p ∷ []) qs pl.after x (take a es) (found.it ∷ []) (drop at es) replaces;
        chunks = others cmp o bytes most pl.before (p ∷ []) qs pl.after x (take a es) (found.it ∷ []) (drop at es) replaces;
      }));
    }

-- ---- the entries of a piece with one in place of another

set_split : {X : Type 0} (xs : List X) (i : ℕ) (x : X) → i < length xs → set xs i x ≡ take i xs ++ x ∷ drop (suc i) xs
set_split [] i x lt = absurd (omega arith)
set_split (y ∷ xs) zero x lt = refl
set_split (y ∷ xs) (suc i) x lt = ap (λ l. y ∷ l) (set_split xs i x (omega arith))

pub cut_over_is : {X : Type 0} (bytes : X → ℕ) (most at : ℕ) (x : X) (p : Part X) (zs : List X) (out new : List (Piece X)) → 1 ≤ at → at ≤ p.len → p.len ≤ length p.items.items → zs ≡ present p → out ≡ [] → IsCutInto bytes most (set zs (at - 1) x) out new → IsCutOver bytes most at x p new
cut_over_is bytes most at x p zs out new some le within zs_is out_is c =
    let is : new ≡ c.made = c.behind ∙ ap (λ l. l ++ c.made) out_is in
    record {
      each = subst (Each (IsMade bytes most)) (sym is) c.each;
      items = ap items_of is ∙ c.items ∙ ap (λ l. set l (at - 1) x) zs_is ∙ set_split (present p) (at - 1) x (omega (arith, some, le, length-take-le p.len p.items.items within)) ∙ ap (λ k. take (at - 1) (present p) ++ x ∷ drop k (present p)) {x = suc (at - 1)} {y = at} (omega (arith, some));
    }

pub on_ok : {T E P Q : Type 0} (r : Result T E) → (P → Q) → OnOk r P → OnOk r Q
on_ok (Ok v) f p = f p
on_ok (Err e) f p = tt
