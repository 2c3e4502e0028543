-- The indexes of fields, there and at the mark.
use Rattle.std.proofs.Common.{◌≡◌, ◌∙◌, ap, ap₂, sym, refl, subst, ℕ, zero, suc, ◌+◌, ◌<◌, ◌≤◌, Bool, true, false, cond, not, ◌&&◌, ◌==◌, List, [], ◌∷◌, ◌++◌, length, map, filter, take, drop, get_or, set, flat_map, Option, Some, None, Result, Ok, Err, OnOk, OnErr, IsSome, option_map, arith, append-nil, append_assoc}
use Rattle.std.specs.List.{find}
use Rattle.std.specs.Option.{is_some}
use Rattle.std.proofs.lemmas.Bool.{false≢true}
use Rattle.std.proofs.lemmas.List.{take_all, drop_all, take_more, length-take-le, get_or_at, set_at, map_push}
use Rattle.std.proofs.lemmas.List.Concat.{flat_map-append}
use Rattle.oc_chunks.specs.Ascending.{Each}
use Rattle.oc_chunks.proofs.Eaches.{each_append}
use Rattle.oc_chunks.proofs.Located.{around}
use Rattle.oc_index.specs.declared.indexes.Field.{Field}
use Rattle.oc_index.specs.Fields.{FieldList}
use Rattle.oc_index.specs.Indexed.{now_of, then_of, undone, marked_now, ended, marked_field, undone_field, field_at, with_field, is_of, IsPlace}

-- ---- a change of each in turn

length-map : {X Y : Type 0} (f : X → Y) (xs : List X) → length (map f xs) ≡ length xs
length-map f [] = refl
length-map f (x ∷ xs) = let rest = length-map f xs in omega arith

module _ {X : Type 0} (f : X → X) where
  pub map_step : (init ps : List X) (at : ℕ) (q n : X) → ps ≡ map f (take at init) ++ drop at init → at < length init → q ≡ get_or ps at q → n ≡ f q → set ps at n ≡ map f (take (at + 1) init) ++ drop (at + 1) init
  map_step init ps at q n is lt q_is n_is =
      let it = get_or init at q in
      let front = map f (take at init) in
      let long : length front ≡ at = length-map f (take at init) ∙ length-take-le at init (omega (arith, lt)) in
      let behind : drop at init ≡ it ∷ drop (suc at) init = rest_of init at q lt in
      let shape : ps ≡ front ++ it ∷ drop (suc at) init = is ∙ ap (λ l. front ++ l) behind in
      let same : q ≡ it = q_is ∙ ap (λ l. get_or l at q) shape ∙ get_or_at front it (drop (suc at) init) q at long in
      ap (λ l. set l at n) shape ∙ set_at front it (drop (suc at) init) n at long
      ∙ ap (λ e. front ++ e ∷ drop (suc at) init) (n_is ∙ ap f same)
      ∙ sym (append_assoc front (f it ∷ []) (drop (suc at) init))
      ∙ ap₂ (λ k l. k ++ l) (sym (ap (map f) (take_more init at q lt) ∙ map_push f (take at init) it)) (ap (λ k. drop k init) {x = suc at} {y = at + 1} (omega arith))
    where
      rest_of : (xs : List X) (i : ℕ) (d : X) → i < length xs → drop i xs ≡ get_or xs i d ∷ drop (suc i) xs
      rest_of [] i d lt = absurd (omega arith)
      rest_of (x ∷ xs) zero d lt = refl
      rest_of (x ∷ xs) (suc i) d lt = rest_of xs i d (omega arith)

  pub map_all : (init ps : List X) (at : ℕ) → ps ≡ map f (take at init) ++ drop at init → length init ≤ at → ps ≡ map f init
  map_all init ps at is le = is ∙ ap₂ (λ k l. map f k ++ l) (take_all at init le) (drop_all at init le) ∙ append-nil (map f init)

-- ---- indexes that end

now_ended : (id : ℕ) (f : Field) (b h : Bool) → (f.id == id) ≡ b → f.is_here ≡ h → now_of (ended id f) ≡ filter (λ g. not (g.0 == id)) (now_of f)
now_ended id f true true same here = rw same (rw here (rw same refl))
now_ended id f true false same here = rw same (rw here refl)
now_ended id f false true same here = rw same (rw here (rw same refl))
now_ended id f false false same here = rw same (rw here refl)

filter_joined : {X : Type 0} (p : X → Bool) (xs ys : List X) → filter p (xs ++ ys) ≡ filter p xs ++ filter p ys
filter_joined p [] ys = refl
filter_joined p (x ∷ xs) ys = of_test (p x) (filter_joined p xs ys)
  where
    of_test : (b : Bool) → filter p (xs ++ ys) ≡ filter p xs ++ filter p ys → cond b (x ∷ filter p (xs ++ ys)) (filter p (xs ++ ys)) ≡ cond b (x ∷ filter p xs) (filter p xs) ++ filter p ys
    of_test true is = ap (λ l. x ∷ l) is
    of_test false is = is

pub all_ended : (id : ℕ) (fs : List Field) → flat_map now_of (map (ended id) fs) ≡ filter (λ g. not (g.0 == id)) (flat_map now_of fs)
all_ended id [] = refl
all_ended id (f ∷ fs) = ap₂ (λ k l. k ++ l) (now_ended id f (f.id == id) f.is_here refl refl) (all_ended id fs) ∙ sym (filter_joined (λ g. not (g.0 == id)) (now_of f) (flat_map now_of fs))

pub ended_then : (id : ℕ) (fs : List Field) → flat_map then_of (map (ended id) fs) ≡ flat_map then_of fs
ended_then id [] = refl
ended_then id (f ∷ fs) = ap (λ l. then_of f ++ l) (ended_then id fs)

-- ---- the mark

now_marked : (f : Field) (b : Bool) → f.is_here ≡ b → flat_map now_of (map marked_field (cond b (f ∷ []) [])) ≡ map (λ g. (g.0, marked_now g.1)) (now_of f)
now_marked f true is = rw is refl
now_marked f false is = rw is refl

kept_first : {X : Type 0} (p : X → Bool) (x : X) (xs : List X) → filter p (x ∷ xs) ≡ cond (p x) (x ∷ []) [] ++ filter p xs
kept_first p x xs = of_test (p x)
  where
    of_test : (b : Bool) → cond b (x ∷ filter p xs) (filter p xs) ≡ cond b (x ∷ []) [] ++ filter p xs
    of_test true = refl
    of_test false = refl

map_joined : {X Y : Type 0} (f : X → Y) (xs ys : List X) → map f (xs ++ ys) ≡ map f xs ++ map f ys
map_joined f [] ys = refl
map_joined f (x ∷ xs) ys = ap (λ l. f x ∷ l) (map_joined f xs ys)

pub all_marked : (fs : List Field) → flat_map now_of (map marked_field (filter (λ f. f.is_here) fs)) ≡ map (λ g. (g.0, marked_now g.1)) (flat_map now_of fs)
all_marked [] = refl
all_marked (f ∷ fs) =
    let one = cond f.is_here (f ∷ []) [] in
    let rest = filter (λ g. g.is_here) fs in
    ap (λ l. flat_map now_of (map marked_field l)) (kept_first (λ g. g.is_here) f fs) ∙ ap (flat_map now_of) (map_joined marked_field one rest) ∙ flat_map-append now_of (map marked_field one) (map marked_field rest)
    ∙ ap₂ (λ k l. k ++ l) (now_marked f f.is_here refl) (all_marked fs) ∙ sym (map_joined (λ g. (g.0, marked_now g.1)) (now_of f) (flat_map now_of fs))

pub marked_then : (fs : List Field) → flat_map then_of (map marked_field fs) ≡ flat_map now_of (map marked_field fs)
marked_then [] = refl
marked_then (f ∷ fs) = ap (λ l. now_of (marked_field f) ++ l) (marked_then fs)

pub undone_now : (fs : List Field) → flat_map now_of (map undone_field fs) ≡ flat_map then_of fs
undone_now [] = refl
undone_now (f ∷ fs) = ap (λ l. then_of f ++ l) (undone_now fs)

pub undone_then : (fs : List Field) → flat_map then_of (map undone_field fs) ≡ flat_map then_of fs
undone_then [] = refl
undone_then (f ∷ fs) = ap (λ l. then_of f ++ l) (undone_then fs)

then_kept : (f : Field) (b : Bool) → f.was_there ≡ b → flat_map then_of (cond b (f ∷ []) []) ≡ then_of f
then_kept f true is = append-nil (then_of f)
then_kept f false is = sym (rw is refl)

pub kept_then : (fs : List Field) → flat_map then_of (filter (λ f. f.was_there) fs) ≡ flat_map then_of fs
kept_then [] = refl
kept_then (f ∷ fs) =
    ap (flat_map then_of) (kept_first (λ g. g.was_there) f fs) ∙ flat_map-append then_of (cond f.was_there (f ∷ []) []) (filter (λ g. g.was_there) fs)
    ∙ ap₂ (λ k l. k ++ l) (then_kept f f.was_there refl) (kept_then fs)

-- ---- the index of a field

module _ (id : ℕ) where
  abbrev Off : Field → Type 0
  Off f = is_of id f ≡ false

  abbrev same_id : ℕ × FieldList → Bool
  same_id g = g.0 == id

  -- a place that isn't of this id
  skip : (f : Field) (rest : List (ℕ × FieldList)) (h : Bool) → f.is_here ≡ h → Off f → find same_id (now_of f ++ rest) ≡ find same_id rest
  skip f rest true is off = rw is (ap (λ b. cond b (Some (f.id, f.index)) (find same_id rest)) (ap (λ b. b && (f.id == id)) (sym is) ∙ off))
  skip f rest false is off = rw is refl

  pub none_at : (fs : List Field) → Each Off fs → field_at id (flat_map now_of fs) ≡ None
  none_at fs off = ap (option_map (λ g. g.1)) (none_found fs off)
    where
      none_found : (fs : List Field) → Each Off fs → find same_id (flat_map now_of fs) ≡ None
      none_found [] off = refl
      none_found (f ∷ fs) off = skip f (flat_map now_of fs) f.is_here refl off.0 ∙ none_found fs off.1

  skip_all : (fs : List Field) (rest : List Field) → Each Off fs → find same_id (flat_map now_of (fs ++ rest)) ≡ find same_id (flat_map now_of rest)
  skip_all [] rest off = refl
  skip_all (f ∷ fs) rest off = skip f (flat_map now_of (fs ++ rest)) f.is_here refl off.0 ∙ skip_all fs rest off.1

  both : (a b : Bool) → (a && b) ≡ true → (a ≡ true) × (b ≡ true)
  both true true it = (refl, refl)
  both true false it = absurd (false≢true it)
  both false b it = absurd (false≢true it)

  hit : (f : Field) (rest : List (ℕ × FieldList)) → is_of id f ≡ true → find same_id (now_of f ++ rest) ≡ Some (f.id, f.index)
  hit f rest it = let b = both f.is_here (f.id == id) it in rw b.0 (ap (λ c. cond c (Some (f.id, f.index)) (find same_id rest)) b.1)

  with_skip : (f : Field) (g : FieldList) (rest : List (ℕ × FieldList)) (h : Bool) → f.is_here ≡ h → Off f → with_field id g (now_of f ++ rest) ≡ now_of f ++ with_field id g rest
  with_skip f g rest true is off = rw is (ap (λ b. cond b ((f.id, g) ∷ rest) ((f.id, f.index) ∷ with_field id g rest)) (ap (λ b. b && (f.id == id)) (sym is) ∙ off))
  with_skip f g rest false is off = rw is refl

  with_hit : (f : Field) (g : FieldList) (rest : List (ℕ × FieldList)) → is_of id f ≡ true → with_field id g (now_of f ++ rest) ≡ now_of (record f { index = g }) ++ rest
  with_hit f g rest it = let b = both f.is_here (f.id == id) it in rw b.0 (ap (λ c. cond c ((f.id, g) ∷ rest) ((f.id, f.index) ∷ with_field id g rest)) b.1)

  with_all : (fs : List Field) (f : Field) (rest : List Field) (g : FieldList) → Each Off fs → is_of id f ≡ true → flat_map now_of (fs ++ record f { index = g } ∷ rest) ≡ with_field id g (flat_map now_of (fs ++ f ∷ rest))
  with_all [] f rest g off it = sym (with_hit f g (flat_map now_of rest) it)
  with_all (e ∷ fs) f rest g off it = ap (λ l. now_of e ++ l) (with_all fs f rest g off.1 it) ∙ sym (with_skip e g (flat_map now_of (fs ++ f ∷ rest)) e.is_here refl off.0)

  then_same : (fs : List Field) (f : Field) (rest : List Field) (g : FieldList) → undone g ≡ undone f.index → flat_map then_of (fs ++ record f { index = g } ∷ rest) ≡ flat_map then_of (fs ++ f ∷ rest)
  then_same [] f rest g same = ap (λ u. cond f.was_there ((f.id, u) ∷ []) [] ++ flat_map then_of rest) same
  then_same (e ∷ fs) f rest g same = ap (λ l. then_of e ++ l) (then_same fs f rest g same)

  module _ (fs : List Field) (at : ℕ) (p : IsPlace id fs at) (q : Field) (q_is : q ≡ get_or fs at q) where
    at_place : q ≡ p.field
    at_place = q_is ∙ ap (λ l. get_or l at q) p.split ∙ get_or_at p.before p.field p.after q at p.index

    pub found : field_at id (flat_map now_of fs) ≡ Some q.index
    found = ap (option_map (λ g. g.1)) (ap (λ l. find same_id (flat_map now_of l)) p.split ∙ skip_all p.before (p.field ∷ p.after) p.none ∙ hit p.field (flat_map now_of p.after) p.here) ∙ ap (λ f. Some f.index) (sym at_place)

    module _ (g : FieldList) where
      set_is : set fs at (record q { index = g }) ≡ p.before ++ record p.field { index = g } ∷ p.after
      set_is = ap (λ l. set l at (record q { index = g })) p.split ∙ set_at p.before p.field p.after (record q { index = g }) at p.index ∙ ap (λ f. p.before ++ record f { index = g } ∷ p.after) at_place

      pub changed_now : flat_map now_of (set fs at (record q { index = g })) ≡ with_field id g (flat_map now_of fs)
      changed_now = ap (flat_map now_of) set_is ∙ with_all p.before p.field p.after g p.none p.here ∙ ap (λ l. with_field id g (flat_map now_of l)) (sym p.split)

      pub changed_then : g.base ≡ q.index.base → g.marked ≡ q.index.marked → flat_map then_of (set fs at (record q { index = g })) ≡ flat_map then_of fs
      changed_then base marked = ap (flat_map then_of) set_is ∙ then_same p.before p.field p.after g (ap₂ (λ b m. record { base = b; chunks = m; marked = m }) (base ∙ ap (λ f. f.index.base) at_place) (marked ∙ ap (λ f. f.index.marked) at_place)) ∙ ap (flat_map then_of) (sym p.split)

      pub unchanged_now : g ≡ q.index → flat_map now_of (set fs at (record q { index = g })) ≡ flat_map now_of fs
      unchanged_now same = ap (flat_map now_of) (set_is ∙ ap (λ h. p.before ++ record p.field { index = h } ∷ p.after) (same ∙ ap (λ f. f.index) at_place) ∙ sym p.split)

pub place_at : (id : ℕ) (fs : List Field) (at : ℕ) (q : Field) → at < length fs → q ≡ get_or fs at q → Each (λ f. is_of id f ≡ false) (take at fs) → is_of id q ≡ true → IsPlace id fs at
place_at id fs at q lt q_is none here = record {
  before = take at fs;
  field = q;
  after = drop (suc at) fs;
  split = around at q fs lt ∙ ap (λ e. take at fs ++ e ∷ drop (suc at) fs) (sym q_is);
  index = length-take-le at fs (omega (arith, lt));
  none = none;
  here = here;
}

pub none_more : (id : ℕ) (fs : List Field) (at : ℕ) (q : Field) → at < length fs → q ≡ get_or fs at q → Each (λ f. is_of id f ≡ false) (take at fs) → is_of id q ≡ false → Each (λ f. is_of id f ≡ false) (take (at + 1) fs)
none_more id fs at q lt q_is none off = subst (Each (λ f. is_of id f ≡ false)) (sym (take_more fs at q lt ∙ ap (λ e. take at fs ++ e ∷ []) (sym q_is))) (each_append (λ f. is_of id f ≡ false) (take at fs) (q ∷ []) none (off, tt))

pub none_all : (id : ℕ) (fs : List Field) (at : ℕ) → length fs ≤ at → Each (λ f. is_of id f ≡ false) (take at fs) → Each (λ f. is_of id f ≡ false) fs
none_all id fs at le none = subst (Each (λ f. is_of id f ≡ false)) (take_all at fs le) none

pub not_some : {X : Type 0} (r : Option X) → IsSome r → r ≡ None → ⊥
not_some r some is = false≢true (sym (ap is_some is) ∙ some)

pub adds_change : {T E A B C D P : Type 0} (r : Result T E) → OnOk r A → OnOk r B → OnOk r C → OnOk r D → (A → B → C → D → P) → OnOk r P
adds_change (Ok v) a b c d f = f a b c d
adds_change (Err e) a b c d f = tt

pub either_way : {T E P Q : Type 0} (r : Result T E) → (Q → P) → OnOk r P → OnErr r Q → P
either_way (Ok v) f p q = p
either_way (Err e) f p q = f q
