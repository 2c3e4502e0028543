-- Two pieces joined.
use Rattle.std.proofs.Common.{◌≡◌, ◌⊎◌, ◌∙◌, ap, ap₂, sym, refl, subst, inl, inr, ℕ, zero, suc, ◌+◌, ◌-◌, ◌*◌, ◌<◌, ◌≤◌, ◌==◌, ◌≢◌, Bool, true, false, cond, nat_lt, nat_le, max, ◌||◌, ◌&&◌, List, [], ◌∷◌, ◌++◌, length, take, drop, get_or, set, flat_map, sum_by, None, arith, append-nil, append_assoc, length-append}
use Rattle.std.specs.List.{AllWithin}
use Rattle.std.specs.declared.cmp.Ordering.{Ordering}
use Rattle.std.proofs.lemmas.Bool.Decides.{nat_tests}
use Rattle.std.proofs.lemmas.List.{take_all, take_at, drop_at, set_at, take-set-le, drop-set-lt, drop-drop, length-set, length-take-le, take-take, get_or-set_same, get_or-set_other, get_or-drop}
use Rattle.std.proofs.lemmas.List.Concat.{flat_map-append}
use Rattle.std.proofs.Math.Seq.{take-add}
use Rattle.oc_chunks.specs.declared.piece.Part.{Part}
use Rattle.oc_chunks.specs.declared.piece.Piece.{Piece}
use Rattle.oc_chunks.specs.Ascending.{Each, IsAscending}
use Rattle.oc_chunks.specs.Chunks.{Chunk, joined, some_of}
use Rattle.oc_chunks.specs.Editing.{stands_in}
use Rattle.oc_chunks.specs.Joining.{is_small, are_small, Joins, NoneSmall}
use Rattle.oc_chunks.specs.Merging.{AreSmall, Cleared, IsAlone, IsBare, IsJointPart, Merges, MergesTwo, Neighbours}
use Rattle.oc_chunks.specs.Pieces.{present, shown, chunk_now, chunks_now, chunks_then, IsSized, IsSound}
use Rattle.oc_chunks.proofs.Eaches.{each_rest}
use Rattle.oc_chunks.proofs.Filling.{stood_then, stood_was}
use Rattle.oc_chunks.proofs.Gaps.{piece_at}
use Rattle.oc_chunks.proofs.Joined.{both, joint_of, joins_more, none_front, none_more}
use Rattle.oc_chunks.proofs.Located.{around}
use Rattle.oc_chunks.proofs.Read.{no_chunk, the_chunk}
use Rattle.oc_chunks.proofs.Replacing.{pairs_outside}

-- what holds at each of some places
pub each_between : {X : Type 0} (P : X → Type 0) (from n : ℕ) (xs : List X) → from + n ≤ length xs → AllWithin P xs from (from + n) → Each P (take n (drop from xs))
each_between P from zero xs le a = tt
each_between P zero (suc n) [] le a = tt
each_between P zero (suc n) (x ∷ xs) le a = (a 0 x (omega arith) (omega arith), each_between P zero n xs (omega arith) (λ k d l h. a (suc k) d (omega arith) (omega arith)))
each_between P (suc from) (suc n) [] le a = absurd (omega arith)
each_between P (suc from) (suc n) (x ∷ xs) le a = each_between P from (suc n) xs (omega arith) (λ k d l h. a (suc k) d (omega arith) (omega arith))

pub each_set : {X : Type 0} (P : X → Type 0) (xs : List X) (i : ℕ) (x : X) → Each P xs → P x → Each P (set xs i x)
each_set P [] i x a it = tt
each_set P (y ∷ xs) zero x a it = (it, a.1)
each_set P (y ∷ xs) (suc i) x a it = (a.0, each_set P xs i x a.1 it)

-- a place where another element gives the same
pub flat_map-set : {X Y : Type 0} (f : X → List Y) (xs : List X) (i : ℕ) (x y : X) → i < length xs → x ≡ get_or xs i x → f y ≡ f x → flat_map f (set xs i y) ≡ flat_map f xs
flat_map-set f [] i x y lt is same = absurd (omega arith)
flat_map-set f (z ∷ xs) zero x y lt is same = ap (λ l. l ++ flat_map f xs) (same ∙ ap f is)
flat_map-set f (z ∷ xs) (suc i) x y lt is same = ap (λ l. f z ++ l) (flat_map-set f xs i x y (omega arith) is same)

pub take-more_same : {X : Type 0} (n m : ℕ) (xs ys : List X) → n ≤ m → take m xs ≡ take m ys → take n xs ≡ take n ys
take-more_same n m xs ys le is = sym (take-take n m xs le) ∙ ap (take n) is ∙ take-take n m ys le

pub drop-more_same : {X : Type 0} (n m : ℕ) (xs ys : List X) → m ≤ n → drop m xs ≡ drop m ys → drop n xs ≡ drop n ys
drop-more_same n m xs ys le is =
    let n_is : m + (n - m) ≡ n = omega arith in
    ap (λ k. drop k xs) (sym n_is) ∙ sym (drop-drop (n - m) m xs) ∙ ap (drop (n - m)) is ∙ drop-drop (n - m) m ys ∙ ap (λ k. drop k ys) n_is

module _ {X : Type 0} where
  -- ---- pieces without entries

  nothing_of : (n : ℕ) → take {A = X} n [] ≡ []
  nothing_of zero = refl
  nothing_of (suc n) = refl

  bare_shown : (p : Piece X) → IsBare p → shown p ≡ []
  bare_shown p is = ap (take (max p.part.len 1)) is ∙ nothing_of (max p.part.len 1)

  bare_chunks : (p : Piece X) → IsBare p → chunks_now p ≡ []
  bare_chunks p is = ap (λ l. some_of l (chunk_now p.part)) (ap (take p.part.len) is ∙ nothing_of p.part.len)

  none_of : {Y : Type 0} (P : Piece X → Type 0) (f : Piece X → List Y) → ((p : Piece X) → P p → f p ≡ []) → (ps : List (Piece X)) → Each P ps → flat_map f ps ≡ []
  none_of P f none [] a = refl
  none_of P f none (p ∷ ps) a = ap₂ (λ k l. k ++ l) (none p a.0) (none_of P f none ps a.1)

  pub bare_none : (ps : List (Piece X)) → Each IsBare ps → flat_map chunks_now ps ≡ []
  bare_none = none_of IsBare chunks_now bare_chunks

  pub empty_none : (ps : List (Piece X)) → Each (λ p. p.part.len ≡ 0) ps → flat_map chunks_now ps ≡ []
  empty_none = none_of (λ p. p.part.len ≡ 0) chunks_now no_chunk

  -- ---- the piece before with entries

  pub neighbours : (ps : List (Piece X)) (first at : ℕ) (p q : Piece X) → first < at → at < length ps → p ≡ get_or ps first p → q ≡ get_or ps at q → 1 ≤ p.part.len → 1 ≤ q.part.len → AllWithin (λ r. r.part.len ≡ 0) ps (first + 1) at → Neighbours ps first at
  neighbours ps first at p q before_it within p_is q_is some other none =
      let n = at - (first + 1) in
      let ds = drop (suc first) ps in
      let long = Rattle.std.proofs.Common.length-drop (suc first) ps in
      let n_lt : n < length ds = omega (arith, long) in
      let q_in : q ≡ get_or ds n q = q_is ∙ ap (λ k. get_or ps k q) {x = at} {y = suc first + n} (omega arith) ∙ sym (get_or-drop (suc first) ps n q) in
      record {
        before = take first ps;
        first = p;
        between = take n ds;
        second = q;
        after = drop (suc n) ds;
        split = around first p ps (omega arith) ∙ ap₂ (λ e l. take first ps ++ e ∷ l) (sym p_is) (around n q ds n_lt ∙ ap (λ e. take n ds ++ e ∷ drop (suc n) ds) (sym q_in));
        index = length-take-le first ps (omega arith);
        next = omega (arith, length-take-le n ds (omega (arith, n_lt)));
        some = some;
        none = each_between (λ r. r.part.len ≡ 0) (suc first) n ps (omega arith) (λ k d l h. none k d (omega arith) (omega arith));
        other = other;
      }

  -- no piece before it has entries
  pub alone_first : (ps : List (Piece X)) (at : ℕ) → AllWithin (λ p. p.part.len ≡ 0) ps 0 at → at ≤ length ps → IsAlone ps at
  alone_first ps at none le = inr (empty_none (take at ps) (each_between (λ p. p.part.len ≡ 0) 0 at ps (omega arith) (λ k d l h. none k d l (omega arith))))

  pub first_at : (ps : List (Piece X)) (i j : ℕ) (pl : Neighbours ps i j) (p : Piece X) → p ≡ get_or ps i p → p ≡ pl.first
  first_at ps i j pl p is = piece_at ps pl.before pl.first (pl.between ++ pl.second ∷ pl.after) i p pl.split pl.index is

  pub second_at : (ps : List (Piece X)) (i j : ℕ) (pl : Neighbours ps i j) (p : Piece X) → p ≡ get_or ps j p → p ≡ pl.second
  second_at ps i j pl p is = piece_at ps (pl.before ++ pl.first ∷ pl.between) pl.second pl.after j p (pl.split ∙ sym (append_assoc pl.before (pl.first ∷ pl.between) (pl.second ∷ pl.after))) (omega (arith, length-append pl.before (pl.first ∷ pl.between), pl.index, pl.next)) is

  -- ---- pieces cleared one by one

  pub cleared_more : (cmp : X → X → Ordering) (from at : ℕ) (init ps : List (Piece X)) (q n : Piece X) (bare : Part X) → Cleared cmp from at init ps → from ≤ at → at < length ps → q ≡ get_or ps at q → n ≡ stands_in q bare → bare.items.items ≡ [] → bare.len ≡ 0 → bare.changed ≡ true → IsSized q → Cleared cmp from (at + 1) init (set ps at n)
  cleared_more cmp from at init ps q n bare c le lt q_is n_is none len changed sized = record {
    long = length-set ps at n ∙ c.long;
    front = take-set-le from ps at n le ∙ c.front;
    rest = drop-set-lt (at + 1) ps at n (omega arith) ∙ drop-more_same (at + 1) at ps init (omega arith) c.rest;
    bare = more;
    sized = each_set IsSized ps at n c.sized (subst IsSized (sym n_is) (record {
      part = record { within = omega (arith, len); few = omega (arith, len) };
      was = stood_was q.part (stands_in q bare).part q.was sized.was changed;
    }));
    marked = flat_map-set (chunks_then cmp) ps at q n lt q_is (ap (chunks_then cmp) n_is ∙ stood_then cmp q.part (stands_in q bare).part q.was) ∙ c.marked;
  }
    where
      more : AllWithin IsBare (set ps at n) from (at + 1)
      more k d low high = elim (Rattle.std.proofs.lemmas.Bool.cases_lt k at) [
        | inl less ↦ let other : k ≢ at = omega arith in subst IsBare (sym (get_or-set_other ps at k n d other)) (c.bare k d low less)
        | inr over ↦ let same : k ≡ at = omega arith in subst (λ i. IsBare (get_or (set ps at n) i d)) (sym same) (subst IsBare (sym (get_or-set_same ps at n d lt)) (ap (λ p. p.part.items.items) n_is ∙ none))
      ]

module _ {X : Type 0} (cmp : X → X → Ordering) (bytes : X → ℕ) (most : ℕ) (few : most ≤ 512) (ps : List (Piece X)) (sound : IsSound cmp ps) (i j : ℕ) (s : AreSmall bytes most ps i j) (joint : Part X) (of_both : IsJointPart s.pair.first.part s.pair.second.part joint) where
  abbrev pl : Neighbours ps i j
  pl = s.pair

  abbrev p : Piece X
  p = pl.first

  abbrev q : Piece X
  q = pl.second

  abbrev n : Piece X
  n = stands_in p joint

  abbrev ms : List (Piece X)
  ms = pl.between ++ q ∷ []

  split : ps ≡ pl.before ++ p ∷ (ms ++ pl.after)
  split = pl.split ∙ ap (λ l. pl.before ++ p ∷ l) (sym (append_assoc pl.between (q ∷ []) pl.after))

  all_sized : Each IsSized (pl.before ++ p ∷ (pl.between ++ q ∷ pl.after))
  all_sized = subst (Each IsSized) pl.split sound.sized

  pub first_sized : IsSized p
  first_sized = (each_rest IsSized pl.before (p ∷ (pl.between ++ q ∷ pl.after)) all_sized).0

  pub second_sized : IsSized q
  second_sized = (each_rest IsSized pl.between (q ∷ pl.after) (each_rest IsSized pl.before (p ∷ (pl.between ++ q ∷ pl.after)) all_sized).1).0

  small : is_small bytes most (present p.part ++ present q.part) ≡ true
  small = (both ((chunk_now p.part).changed || (chunk_now q.part).changed) (is_small bytes most (present p.part ++ present q.part)) s.small).1

  few_entries : length (present p.part ++ present q.part) ≤ 512
  few_entries = grind (arith, nat_tests, few, small)

  n_sized : IsSized n
  n_sized = record {
    part = record { within = omega (arith, of_both.whole); few = omega (arith, of_both.whole, ap length of_both.items, few_entries) };
    was = stood_was p.part n.part p.was first_sized.was of_both.changed;
  }

  abbrev pub mid : List (Piece X)
  mid = set ps i n

  mid_is : mid ≡ pl.before ++ n ∷ (ms ++ pl.after)
  mid_is = ap (λ l. set l i n) split ∙ set_at pl.before p (ms ++ pl.after) n i pl.index

  pub mid_sized : Each IsSized mid
  mid_sized = each_set IsSized ps i n sound.sized n_sized

  long : length ps ≡ length pl.before + suc (length pl.between + suc (length pl.after))
  long = ap length pl.split ∙ omega (arith, length-append pl.before (p ∷ (pl.between ++ q ∷ pl.after)), length-append pl.between (q ∷ pl.after))

  in_list : j < length ps
  in_list = omega (arith, long, pl.index, pl.next)

  mid_marked : flat_map (chunks_then cmp) mid ≡ flat_map (chunks_then cmp) ps
  mid_marked = ap (flat_map (chunks_then cmp)) mid_is ∙ flat_map-append (chunks_then cmp) pl.before (n ∷ (ms ++ pl.after)) ∙ ap (λ l. flat_map (chunks_then cmp) pl.before ++ (l ++ flat_map (chunks_then cmp) (ms ++ pl.after))) (stood_then cmp p.part n.part p.was) ∙ sym (flat_map-append (chunks_then cmp) pl.before (p ∷ (ms ++ pl.after))) ∙ ap (flat_map (chunks_then cmp)) (sym split)

  module _ (new : List (Piece X)) (c : Cleared cmp (i + 1) (j + 1) mid new) where
    abbrev ns : List (Piece X)
    ns = take (j - i) (drop (i + 1) new)

    new_long : length new ≡ length ps
    new_long = c.long ∙ length-set ps i n

    ns_bare : Each IsBare ns
    ns_bare = each_between IsBare (i + 1) (j - i) new (omega (arith, new_long, in_list, pl.next)) (λ k d l h. c.bare k d (omega arith) (omega (arith, pl.next)))

    front_is : take (i + 1) new ≡ pl.before ++ n ∷ []
    front_is = c.front ∙ ap (take (i + 1)) (mid_is ∙ sym (append_assoc pl.before (n ∷ []) (ms ++ pl.after))) ∙ take_at (pl.before ++ n ∷ []) (ms ++ pl.after) (i + 1) (omega (arith, length-append pl.before (n ∷ []), pl.index))

    rest_is : drop (j + 1) new ≡ pl.after
    rest_is =
        let whole : mid ≡ (pl.before ++ n ∷ ms) ++ pl.after = mid_is ∙ sym (append_assoc pl.before (n ∷ ms) pl.after) in
        c.rest ∙ ap (drop (j + 1)) whole ∙ drop_at (pl.before ++ n ∷ ms) pl.after (j + 1) (omega (arith, length-append pl.before (n ∷ ms), length-append pl.between (q ∷ []), pl.index, pl.next))

    new_is : new ≡ (pl.before ++ n ∷ []) ++ (ns ++ pl.after)
    new_is =
        sym (Rattle.std.proofs.Common.take-append-drop (i + 1) new)
        ∙ ap₂ (λ k l. k ++ l) front_is (sym (Rattle.std.proofs.Common.take-append-drop (j - i) (drop (i + 1) new)) ∙ ap (λ l. ns ++ l) (drop-drop (j - i) (i + 1) new ∙ ap (λ k. drop k new) {x = i + 1 + (j - i)} {y = j + 1} (omega (arith, pl.next)) ∙ rest_is))

    -- what a function that gives nothing for the cleared ones gives for all
    new_list : {Y : Type 0} (f : Piece X → List Y) → flat_map f ns ≡ [] → flat_map f new ≡ flat_map f pl.before ++ (f n ++ flat_map f pl.after)
    new_list f none =
        ap (flat_map f) new_is ∙ flat_map-append f (pl.before ++ n ∷ []) (ns ++ pl.after)
        ∙ ap₂ (λ k l. k ++ l) (flat_map-append f pl.before (n ∷ []) ∙ ap (λ l. flat_map f pl.before ++ l) (append-nil (f n))) (flat_map-append f ns pl.after ∙ ap (λ l. l ++ flat_map f pl.after) none)
        ∙ append_assoc (flat_map f pl.before) (f n) (flat_map f pl.after)

    old_list : {Y : Type 0} (f : Piece X → List Y) → flat_map f ps ≡ flat_map f pl.before ++ (f p ++ (flat_map f pl.between ++ (f q ++ flat_map f pl.after)))
    old_list f = ap (flat_map f) pl.split ∙ flat_map-append f pl.before (p ∷ (pl.between ++ q ∷ pl.after)) ∙ ap (λ l. flat_map f pl.before ++ (f p ++ l)) (flat_map-append f pl.between (q ∷ pl.after))

    n_present : present n.part ≡ present p.part ++ present q.part
    n_present = take_all n.part.len joint.items.items (omega (arith, of_both.whole)) ∙ of_both.items

    -- ---- the order

    seen : (r : Piece X) → 1 ≤ r.part.len → shown r ≡ present r.part
    seen r some = ap (λ k. take k r.part.items.items) {x = max r.part.len 1} {y = r.part.len} (omega (arith, some))

    n_some : 1 ≤ n.part.len
    n_some = omega (arith, of_both.whole, ap length of_both.items, length-append (present p.part) (present q.part), length-take-le p.part.len p.part.items.items first_sized.part.within, pl.some)

    now_ascending : IsAscending cmp (flat_map shown new)
    now_ascending =
        let sb = flat_map shown pl.before in
        let sm = flat_map shown pl.between in
        let sa = flat_map shown pl.after in
        let pp = present p.part in
        let qq = present q.part in
        let old : IsAscending cmp ((sb ++ pp) ++ (sm ++ (qq ++ sa))) = subst (IsAscending cmp) (old_list shown ∙ ap₂ (λ k l. sb ++ (k ++ (sm ++ (l ++ sa)))) (seen p pl.some) (seen q pl.other) ∙ sym (append_assoc sb pp (sm ++ (qq ++ sa)))) sound.ascending in
        let now : IsAscending cmp ((sb ++ pp) ++ (qq ++ sa)) = pairs_outside (λ u v. cmp u v ≡ Rattle.std.specs.declared.cmp.Ordering.TheVariants.Less) (sb ++ pp) sm (qq ++ sa) old in
        subst (IsAscending cmp) (append_assoc sb pp (qq ++ sa) ∙ ap (λ l. sb ++ l) (sym (append_assoc pp qq sa)) ∙ ap (λ l. sb ++ (l ++ sa)) (sym (seen n n_some ∙ n_present)) ∙ sym (new_list shown (none_of IsBare shown bare_shown ns ns_bare))) now

    -- ---- the chunks

    old_chunks : flat_map chunks_now ps ≡ flat_map chunks_now pl.before ++ (chunk_now p.part ∷ chunk_now q.part ∷ flat_map chunks_now pl.after)
    old_chunks =
        let cb = flat_map chunks_now pl.before in
        let ca = flat_map chunks_now pl.after in
        old_list chunks_now ∙ ap₂ (λ k l. cb ++ (k ++ (l ++ (chunks_now q ++ ca)))) (the_chunk p pl.some first_sized.part.within) (empty_none pl.between pl.none) ∙ ap (λ l. cb ++ (chunk_now p.part ∷ (l ++ ca))) (the_chunk q pl.other second_sized.part.within)

    n_chunk : chunk_now n.part ≡ joint_of bytes most (chunk_now p.part) (chunk_now q.part)
    n_chunk =
        let number : n.part.number ≡ p.part.number = ap (λ b. cond b None p.part.number) {x = p.part.len == 0} {y = false} (grind (arith, nat_tests, pl.some)) in
        let changed : (joint.changed || nat_lt joint.len (length joint.items.items)) ≡ true = ap (λ b. b || nat_lt joint.len (length joint.items.items)) of_both.changed in
        ap₂ (λ l k. record { entries = l; number = k; changed = joint.changed || nat_lt joint.len (length joint.items.items) }) n_present number ∙ ap (λ b. record { entries = present p.part ++ present q.part; number = p.part.number; changed = b }) changed

    new_chunks : flat_map chunks_now new ≡ flat_map chunks_now pl.before ++ (joint_of bytes most (chunk_now p.part) (chunk_now q.part) ∷ flat_map chunks_now pl.after)
    new_chunks = new_list chunks_now (bare_none ns ns_bare) ∙ ap (λ l. flat_map chunks_now pl.before ++ (l ++ flat_map chunks_now pl.after)) (the_chunk n n_some n_sized.part.within ∙ ap (λ d. d ∷ []) n_chunk)

    marked_same : flat_map (chunks_then cmp) new ≡ flat_map (chunks_then cmp) ps
    marked_same = c.marked ∙ mid_marked

    pub merges_two : MergesTwo cmp bytes most i j ps new
    merges_two = record {
      merges = record {
        sound = record { sized = c.sized; ascending = now_ascending; marked = subst (λ l. IsAscending cmp (joined l)) (sym marked_same) sound.marked };
        long = new_long;
        rest = c.rest ∙ drop-set-lt (j + 1) ps i n (omega (arith, pl.next));
        marked = marked_same;
        joins = λ cs h. subst (Joins bytes most cs) (sym new_chunks) (joins_more bytes most cs (flat_map chunks_now pl.before) (chunk_now p.part) (chunk_now q.part) (flat_map chunks_now pl.after) s.small (subst (Joins bytes most cs) old_chunks h));
      };
      front = take-more_same i (i + 1) new mid (omega arith) c.front ∙ take-set-le i ps i n (omega arith);
      bare = c.bare;
    }

-- the same, with the pieces as they are read
module _ {X : Type 0} (cmp : X → X → Ordering) (bytes : X → ℕ) (most : ℕ) (few : most ≤ 512) (ps : List (Piece X)) (sound : IsSound cmp ps) (i j : ℕ) (s : AreSmall bytes most ps i j) (p q r n : Piece X) (joint : Part X) (p_is : p ≡ get_or ps i p) (q_is : q ≡ get_or ps j q) (r_is : r ≡ get_or ps i r) (of_both : IsJointPart p.part q.part joint) (n_is : n ≡ stands_in r joint) where
  of_pair : IsJointPart s.pair.first.part s.pair.second.part joint
  of_pair = subst (λ e. IsJointPart s.pair.first.part e.part joint) (second_at ps i j s.pair q q_is) (subst (λ e. IsJointPart e.part q.part joint) (first_at ps i j s.pair p p_is) of_both)

  set_same : set ps i (stands_in s.pair.first joint) ≡ set ps i n
  set_same = ap (set ps i) (sym (n_is ∙ ap (λ e. stands_in e joint) (first_at ps i j s.pair r r_is)))

  pub set_sized : Each IsSized (set ps i n)
  set_sized = subst (Each IsSized) set_same (mid_sized cmp bytes most few ps sound i j s joint of_pair)

  pub set_merges : (new : List (Piece X)) → Cleared cmp (i + 1) (j + 1) (set ps i n) new → MergesTwo cmp bytes most i j ps new
  set_merges new c = merges_two cmp bytes most few ps sound i j s joint of_pair new (subst (λ l. Cleared cmp (i + 1) (j + 1) l new) (sym set_same) c)

-- ---- one after another

module _ {X : Type 0} (cmp : X → X → Ordering) (bytes : X → ℕ) (most : ℕ) where
  pub merges_none : (n : ℕ) (ps : List (Piece X)) → IsSound cmp ps → Merges cmp bytes most n ps ps
  merges_none n ps s = record { sound = s; long = refl; rest = refl; marked = refl; joins = λ cs h. h }

  -- two that are joined, and then others before them
  pub merges_back : (i j : ℕ) (old mid new : List (Piece X)) → i ≤ j → MergesTwo cmp bytes most i j old mid → Merges cmp bytes most (i + 1) mid new → Merges cmp bytes most (j + 1) old new
  merges_back i j old mid new le two m = record {
    sound = m.sound;
    long = m.long ∙ two.merges.long;
    rest = drop-more_same (j + 1) (i + 1) new mid (omega arith) m.rest ∙ two.merges.rest;
    marked = m.marked ∙ two.merges.marked;
    joins = λ cs h. m.joins cs (two.merges.joins cs h);
  }

  -- the cleared ones have no chunks
  pub none_back : (i j : ℕ) (old mid new : List (Piece X)) → i ≤ j → j < length old → MergesTwo cmp bytes most i j old mid → Merges cmp bytes most (i + 1) mid new → NoneSmall bytes most (flat_map chunks_now (take (i + 1) new)) → NoneSmall bytes most (flat_map chunks_now (take (j + 1) new))
  none_back i j old mid new le lt two m none =
      let k = j - i in
      let bare : Each IsBare (take k (drop (i + 1) mid)) = each_between IsBare (i + 1) k mid (omega (arith, two.merges.long, lt)) (λ a d l h. two.bare a d l (omega arith)) in
      let same : flat_map chunks_now (take (j + 1) new) ≡ flat_map chunks_now (take (i + 1) new) =
      ap (λ a. flat_map chunks_now (take a new)) {x = j + 1} {y = i + 1 + k} (omega arith)
      ∙ ap (flat_map chunks_now) (take-add (i + 1) k new)
      ∙ flat_map-append chunks_now (take (i + 1) new) (take k (drop (i + 1) new))
      ∙ ap (λ l. flat_map chunks_now (take (i + 1) new) ++ l) (ap (λ l. flat_map chunks_now (take k l)) m.rest ∙ bare_none (take k (drop (i + 1) mid)) bare)
      ∙ append-nil (flat_map chunks_now (take (i + 1) new)) in
      subst (NoneSmall bytes most) (sym same) none

  -- no two are small before two that are joined
  pub none_before : (i j : ℕ) (old mid : List (Piece X)) → i ≤ j → MergesTwo cmp bytes most i j old mid → NoneSmall bytes most (flat_map chunks_now (take j old)) → NoneSmall bytes most (flat_map chunks_now (take i mid))
  none_before i j old mid le two none =
      let k = j - i in
      let parts : flat_map chunks_now (take j old) ≡ flat_map chunks_now (take i old) ++ flat_map chunks_now (take k (drop i old)) =
      ap (λ a. flat_map chunks_now (take a old)) {x = j} {y = i + k} (omega arith) ∙ ap (flat_map chunks_now) (take-add i k old) ∙ flat_map-append chunks_now (take i old) (take k (drop i old)) in
      subst (λ l. NoneSmall bytes most (flat_map chunks_now l)) (sym two.front) (none_front bytes most (flat_map chunks_now (take i old)) (flat_map chunks_now (take k (drop i old))) (subst (NoneSmall bytes most) parts none))

  -- a piece that is not joined with the one before
  pub none_apart : (i j : ℕ) (ps : List (Piece X)) → IsSound cmp ps → (pl : Neighbours ps i j) → are_small bytes most (chunk_now pl.first.part) (chunk_now pl.second.part) ≡ false → NoneSmall bytes most (flat_map chunks_now (take j ps)) → NoneSmall bytes most (flat_map chunks_now (take (j + 1) ps))
  none_apart i j ps s pl off none =
      let p = pl.first in
      let q = pl.second in
      let cb = flat_map chunks_now pl.before in
      let all : Each IsSized (pl.before ++ p ∷ (pl.between ++ q ∷ pl.after)) = subst (Each IsSized) pl.split s.sized in
      let p_sized : IsSized p = (each_rest IsSized pl.before (p ∷ (pl.between ++ q ∷ pl.after)) all).0 in
      let q_sized : IsSized q = (each_rest IsSized pl.between (q ∷ pl.after) (each_rest IsSized pl.before (p ∷ (pl.between ++ q ∷ pl.after)) all).1).0 in
      let front = pl.before ++ p ∷ pl.between in
      let whole : ps ≡ front ++ q ∷ pl.after = pl.split ∙ sym (append_assoc pl.before (p ∷ pl.between) (q ∷ pl.after)) in
      let count : length front ≡ j = omega (arith, length-append pl.before (p ∷ pl.between), pl.index, pl.next) in
      let chunks : flat_map chunks_now front ≡ cb ++ chunk_now p.part ∷ [] = flat_map-append chunks_now pl.before (p ∷ pl.between) ∙ ap₂ (λ k l. cb ++ (k ++ l)) (the_chunk p pl.some p_sized.part.within) (empty_none pl.between pl.none) in
      let before : NoneSmall bytes most (cb ++ chunk_now p.part ∷ []) = subst (NoneSmall bytes most) (ap (flat_map chunks_now) (ap (take j) whole ∙ take_at front (q ∷ pl.after) j count) ∙ chunks) none in
      let more : flat_map chunks_now (take (j + 1) ps) ≡ cb ++ chunk_now p.part ∷ chunk_now q.part ∷ [] =
      ap (λ l. flat_map chunks_now (take (j + 1) l)) (whole ∙ sym (append_assoc front (q ∷ []) pl.after))
      ∙ ap (flat_map chunks_now) (take_at (front ++ q ∷ []) pl.after (j + 1) (omega (arith, length-append front (q ∷ []), count)))
      ∙ flat_map-append chunks_now front (q ∷ [])
      ∙ ap₂ (λ k l. k ++ (l ++ [])) chunks (the_chunk q pl.other q_sized.part.within)
      ∙ append_assoc cb (chunk_now p.part ∷ []) (chunk_now q.part ∷ []) in
      subst (NoneSmall bytes most) (sym more) (none_more bytes most cb (chunk_now p.part) (chunk_now q.part) before off)

  pub small_at : (i j : ℕ) (ps : List (Piece X)) → Neighbours ps i j → (p q : Piece X) → p ≡ get_or ps i p → q ≡ get_or ps j q → are_small bytes most (chunk_now p.part) (chunk_now q.part) ≡ true → AreSmall bytes most ps i j
  small_at i j ps pl p q p_is q_is it = record {
    pair = pl;
    small = ap₂ (λ u v. are_small bytes most (chunk_now u.part) (chunk_now v.part)) (sym (first_at ps i j pl p p_is)) (sym (second_at ps i j pl q q_is)) ∙ it;
  }

  pub apart_at : (i j : ℕ) (ps : List (Piece X)) → IsSound cmp ps → Neighbours ps i j → (p q : Piece X) → p ≡ get_or ps i p → q ≡ get_or ps j q → are_small bytes most (chunk_now p.part) (chunk_now q.part) ≡ false → NoneSmall bytes most (flat_map chunks_now (take j ps)) → NoneSmall bytes most (flat_map chunks_now (take (j + 1) ps))
  apart_at i j ps s pl p q p_is q_is off = none_apart i j ps s pl (ap₂ (λ u v. are_small bytes most (chunk_now u.part) (chunk_now v.part)) (sym (first_at ps i j pl p p_is)) (sym (second_at ps i j pl q q_is)) ∙ off)

  -- a piece without entries, or the first with some
  pub none_alone : (at : ℕ) (ps : List (Piece X)) → IsSound cmp ps → IsAlone ps at → at < length ps → NoneSmall bytes most (flat_map chunks_now (take at ps)) → NoneSmall bytes most (flat_map chunks_now (take (at + 1) ps))
  none_alone at ps s alone lt none = elim alone [
    | inl same ↦ subst (NoneSmall bytes most) (sym same) none
    | inr nothing ↦
        let one : flat_map chunks_now (take (at + 1) ps) ≡ flat_map chunks_now (take 1 (drop at ps)) = ap (flat_map chunks_now) (take-add at 1 ps) ∙ flat_map-append chunks_now (take at ps) (take 1 (drop at ps)) ∙ ap (λ l. l ++ flat_map chunks_now (take 1 (drop at ps))) nothing in
        subst (NoneSmall bytes most) (sym one) (alone_chunk (drop at ps))
  ]
    where
      some_alone : (es : List X) (c : Chunk X) → NoneSmall bytes most (some_of es c ++ [])
      some_alone [] c = tt
      some_alone (e ∷ es) c = tt

      alone_chunk : (rs : List (Piece X)) → NoneSmall bytes most (flat_map chunks_now (take 1 rs))
      alone_chunk [] = tt
      alone_chunk (r ∷ rs) = some_alone (present r.part) (chunk_now r.part)
