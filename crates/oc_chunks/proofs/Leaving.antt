-- What the pieces make without an entry.
use Rattle.std.proofs.Common.{◌≡◌, ◌⊎◌, ◌∙◌, ap, ap₂, sym, refl, subst, inl, inr, ℕ, zero, suc, ◌+◌, ◌-◌, ◌<◌, ◌≤◌, Bool, true, false, cond, not, ◌||◌, List, [], ◌∷◌, ◌++◌, length, take, drop, filter, flat_map, arith, append-nil, append_assoc, length-append, length-drop, take-append-drop}
use Rattle.std.specs.List.{list_any}
use Rattle.std.specs.Ordering.{is_eq, is_gt}
use Rattle.std.specs.Cmp.{IsTotalOrder}
use Rattle.std.specs.declared.cmp.Ordering.{Ordering}
use Rattle.std.specs.declared.cmp.Ordering.TheVariants.{Less, Equal, Greater}
use Rattle.std.proofs.lemmas.Bool.{false≢true}
use Rattle.std.proofs.lemmas.List.{drop_at, take_at, length-take-le, take-take}
use Rattle.std.proofs.lemmas.List.Concat.{flat_map-append}
use Rattle.oc_chunks.specs.declared.piece.Part.{Part}
use Rattle.oc_chunks.specs.declared.piece.Piece.{Piece}
use Rattle.oc_chunks.specs.Ascending.{Each, IsAscending}
use Rattle.oc_chunks.specs.Chunks.{Chunk, joined, nonempty, some_of, left}
use Rattle.oc_chunks.specs.Pieces.{present, gone, last_is, chunk_now, chunks_now, IsSound, Place}
use Rattle.oc_chunks.specs.Removing.{moved}
use Rattle.oc_chunks.proofs.Eaches.{each_append, each_front, each_rest, each_more, pairs_front, pairs_across}
use Rattle.oc_chunks.proofs.Views.{entries_of, joined_now, each_entry}
use Rattle.oc_chunks.proofs.Gaps.{all_less, place_ascends}

module _ {X : Type 0} (passes : X → Bool) where
  abbrev Off : X → Type 0
  Off e = passes e ≡ false

  none_passes : (es : List X) → Each Off es → list_any passes es ≡ false
  none_passes [] off = refl
  none_passes (e ∷ es) off = ap (λ b. b || list_any passes es) off.0 ∙ none_passes es off.1

  stays : (es : List X) (c : Chunk X) → c.entries ≡ es → Each Off es → flat_map (left passes) (some_of es c) ≡ some_of es c
  stays [] c is off = refl
  stays (e ∷ es) c is off = append-nil (left passes c) ∙ ap (λ b. cond b (nonempty (record { entries = filter (λ e. not (passes e)) c.entries; number = c.number; changed = true })) (c ∷ [])) (ap (list_any passes) is ∙ none_passes (e ∷ es) off)

  -- chunks with no such entry stay
  pub all_stay : (ps : List (Piece X)) → Each Off (entries_of ps) → flat_map (left passes) (flat_map chunks_now ps) ≡ flat_map chunks_now ps
  all_stay [] off = refl
  all_stay (p ∷ ps) off = flat_map-append (left passes) (chunks_now p) (flat_map chunks_now ps) ∙ ap₂ (λ k l. k ++ l) (stays (present p.part) (chunk_now p.part) refl (each_front Off (present p.part) (entries_of ps) off)) (all_stay ps (each_rest Off (present p.part) (entries_of ps) off))

  kept : (es : List X) → Each Off es → filter (λ e. not (passes e)) es ≡ es
  kept [] off = refl
  kept (e ∷ es) off = ap (λ b. cond (not b) (e ∷ filter (λ e. not (passes e)) es) (filter (λ e. not (passes e)) es)) off.0 ∙ ap (λ l. e ∷ l) (kept es off.1)

  -- one passes among those that don't
  pub one_passes : (us : List X) (y : X) (vs : List X) → passes y ≡ true → list_any passes (us ++ y ∷ vs) ≡ true
  one_passes [] y vs it = ap (λ b. b || list_any passes vs) it
  one_passes (u ∷ us) y vs it = either (passes u) (one_passes us y vs it)
    where
      either : (b : Bool) → list_any passes (us ++ y ∷ vs) ≡ true → (b || list_any passes (us ++ y ∷ vs)) ≡ true
      either true rest = refl
      either false rest = rest

  pub one_goes : (us : List X) (y : X) (vs : List X) → Each Off us → passes y ≡ true → Each Off vs → filter (λ e. not (passes e)) (us ++ y ∷ vs) ≡ us ++ vs
  one_goes [] y vs off it rest = ap (λ b. cond (not b) (y ∷ filter (λ e. not (passes e)) vs) (filter (λ e. not (passes e)) vs)) it ∙ kept vs rest
  one_goes (u ∷ us) y vs off it rest = ap (λ b. cond (not b) (u ∷ filter (λ e. not (passes e)) (us ++ y ∷ vs)) (filter (λ e. not (passes e)) (us ++ y ∷ vs))) off.0 ∙ ap (λ l. u ∷ l) (one_goes us y vs off.1 it rest)

-- ---- the entries of a piece without one

module _ {X : Type 0} (p : Part X) (at : ℕ) (within : p.len ≤ length p.items.items) (there : at < p.len) where
  pub count : length (present p) ≡ p.len
  count = length-take-le p.len p.items.items within

  front_is : take at p.items.items ≡ take at (present p)
  front_is = sym (take-take at p.len p.items.items (omega arith))

  -- those that stay
  abbrev pub staying : List X
  staying = take at (present p) ++ drop (at + 1) (present p)

  length_staying : length staying ≡ p.len - 1
  length_staying = omega (arith, count, length-append (take at (present p)) (drop (at + 1) (present p)), length-take-le at (present p) (omega (arith, count)), length-drop (at + 1) (present p))

  moved_is : moved at p ≡ staying ++ (take 1 (drop at p.items.items) ++ gone p)
  moved_is = ap (λ l. l ++ (drop (at + 1) (present p) ++ (take 1 (drop at p.items.items) ++ gone p))) front_is ∙ sym (append_assoc (take at (present p)) (drop (at + 1) (present p)) (take 1 (drop at p.items.items) ++ gone p))

  pub take_moved : (n : ℕ) → n + 1 ≡ p.len → take n (moved at p) ≡ staying
  take_moved n is = ap (take n) moved_is ∙ take_at staying (take 1 (drop at p.items.items) ++ gone p) n (omega (arith, length_staying))

  pub drop_moved : (n : ℕ) → n + 1 ≡ p.len → drop n (moved at p) ≡ take 1 (drop at p.items.items) ++ gone p
  drop_moved n is = ap (drop n) moved_is ∙ drop_at staying (take 1 (drop at p.items.items) ++ gone p) n (omega (arith, length_staying))

  pub length_moved : length (moved at p) ≡ length p.items.items
  length_moved =
      let one : length (take 1 (drop at p.items.items)) ≡ 1 = length-take-le 1 (drop at p.items.items) (omega (arith, length-drop at p.items.items)) in
      omega (arith, ap length moved_is, length-append staying (take 1 (drop at p.items.items) ++ gone p), length-append (take 1 (drop at p.items.items)) (gone p), length-drop p.len p.items.items, length_staying, one)

-- an element of a list, and what lies on both sides
pub record Nth {X : Type 0} (side : X → Ordering) (es : List X) (a : ℕ) : Type 0 where
  pub it : X
  pub split : es ≡ take a es ++ it ∷ drop (suc a) es
  pub last : last_is side (take (suc a) es) ≡ is_eq (side it)
  pub one : take 1 (drop a es) ≡ it ∷ []

nth_more : {X : Type 0} (side : X → Ordering) (e f : X) (es : List X) (a : ℕ) → Nth side (f ∷ es) a → Nth side (e ∷ f ∷ es) (suc a)
nth_more side e f es a n = record { it = n.it; split = ap (λ l. e ∷ l) n.split; last = n.last; one = n.one }

pub nth : {X : Type 0} (side : X → Ordering) (es : List X) (a : ℕ) → a < length es → Nth side es a
nth side [] a lt = absurd (omega arith)
nth side (e ∷ es) zero lt = record { it = e; split = refl; last = refl; one = refl }
nth side (e ∷ []) (suc a) lt = absurd (omega arith)
nth side (e ∷ f ∷ es) (suc a) lt = nth_more side e f es a (nth side (f ∷ es) a (omega arith))

module _ {X : Type 0} (cmp : X → X → Ordering) (o : IsTotalOrder cmp) (side : X → Ordering) (parts : (u v : X) → cmp u v ≡ Less → (side u ≡ Less) ⊎ (side v ≡ Greater)) where
  abbrev pub at_place : X → Bool
  at_place e = is_eq (side e)

  pub equal_is : (r : Ordering) → is_eq r ≡ true → r ≡ Equal
  equal_is Less it = absurd (false≢true it)
  equal_is Equal it = refl
  equal_is Greater it = absurd (false≢true it)

  pub less_off : (es : List X) → Each (λ e. side e ≡ Less) es → Each (λ e. at_place e ≡ false) es
  less_off es a = each_more (λ e. side e ≡ Less) (λ e. at_place e ≡ false) es (λ e is. ap is_eq is) a

  pub behind_off : (es : List X) → Each (λ e. side e ≡ Greater) es → Each (λ e. at_place e ≡ false) es
  behind_off es a = each_more (λ e. side e ≡ Greater) (λ e. at_place e ≡ false) es (λ e is. ap is_eq is) a

  pub before_it : (us : List X) (y : X) (vs : List X) → IsAscending cmp (us ++ y ∷ vs) → side y ≡ Equal → Each (λ e. side e ≡ Less) us
  before_it us y vs a is = each_more (λ u. Each (λ v. cmp u v ≡ Less) (y ∷ vs)) (λ e. side e ≡ Less) us (λ u below. elim (parts u y below.0) [ inl less ↦ less | inr greater ↦ absurd (false≢true (ap is_gt (sym is ∙ greater))) ]) (pairs_across (λ u v. cmp u v ≡ Less) us (y ∷ vs) a)

  -- nothing is at a place before which the last entry is not there
  pub none_there : (ps : List (Piece X)) (i at : ℕ) (p : Place side ps i at) → IsSound cmp ps → last_is side (take at (present p.piece.part)) ≡ false → Each (λ e. at_place e ≡ false) (entries_of ps)
  none_there ps i at p s off =
      let es = present p.piece.part in
      let asc : IsAscending cmp (take at es) = pairs_front (λ u v. cmp u v ≡ Less) (take at es) (drop at es) (subst (IsAscending cmp) (sym (take-append-drop at es)) (place_ascends cmp side parts ps i at p s)) in
      let lows = less_off (take at es) (all_less side cmp parts (take at es) asc p.upto off) in
      let own : Each (λ e. at_place e ≡ false) es = subst (Each (λ e. at_place e ≡ false)) (take-append-drop at es) (each_append (λ e. at_place e ≡ false) (take at es) (drop at es) lows (behind_off (drop at es) p.behind)) in
      let before = less_off (entries_of p.before) (each_entry (λ e. side e ≡ Less) p.before p.low) in
      let after = behind_off (entries_of p.after) (each_entry (λ e. side e ≡ Greater) p.after p.high) in
      subst (λ l. Each (λ e. at_place e ≡ false) (entries_of l)) (sym p.split) (subst (Each (λ e. at_place e ≡ false)) (sym (flat_map-append (λ q. present q.part) p.before (p.piece ∷ p.after))) (each_append (λ e. at_place e ≡ false) (entries_of p.before) (es ++ entries_of p.after) before (each_append (λ e. at_place e ≡ false) es (entries_of p.after) own after)))

  pub none_any : (ps : List (Piece X)) → Each (λ e. at_place e ≡ false) (entries_of ps) → list_any at_place (joined (flat_map chunks_now ps)) ≡ false
  none_any ps off = ap (list_any at_place) (joined_now ps) ∙ none_passes at_place (entries_of ps) off
