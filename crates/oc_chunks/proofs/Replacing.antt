-- What the pieces make with an entry more.
use Rattle.std.proofs.Common.{◌≡◌, ◌⊎◌, ◌∙◌, ap, sym, refl, subst, inl, inr, ℕ, false, cond, ◌||◌, List, [], ◌∷◌, ◌++◌, flat_map, Option, Some, None, append_assoc}
use Rattle.std.specs.Ordering.{is_eq, is_lt, ordering_reverse}
use Rattle.std.specs.Cmp.{IsTotalOrder}
use Rattle.std.specs.declared.cmp.Ordering.{Ordering}
use Rattle.std.specs.declared.cmp.Ordering.TheVariants.{Less, Greater}
use Rattle.std.proofs.lemmas.List.Concat.{flat_map-append}
use Rattle.oc_model.specs.Lists.{IsOneOf, placed}
use Rattle.oc_chunks.specs.declared.piece.Piece.{Piece}
use Rattle.oc_chunks.specs.Ascending.{Each, Pairs, IsAscending, has, entered}
use Rattle.oc_chunks.specs.Chunks.{Chunk, joined, numbers, IsCut, IsCutFrom, Adds}
use Rattle.oc_chunks.specs.Pieces.{present, shown, chunks_now, chunks_then, IsSized, IsSound, view}
use Rattle.oc_chunks.proofs.Eaches.{each_append, each_front, each_rest, each_more, pairs_front, pairs_rest, pairs_across, pairs_append, pairs_with}
use Rattle.oc_chunks.proofs.Views.{entries_of, joined_now, each_entry, each_member, member_front, member_rest}

module _ {X : Type 0} (cmp : X → X → Ordering) (o : IsTotalOrder cmp) where
  abbrev Below : X → X → Type 0
  Below x y = cmp x y ≡ Less

  -- an element goes between those that are below it and those that are above
  pub placed_between : (x : X) (xs ys : List X) → Each (λ e. cmp e x ≡ Less) xs → Each (λ e. cmp e x ≡ Greater) ys → placed cmp x (xs ++ ys) ≡ xs ++ x ∷ ys
  placed_between x [] [] low high = refl
  placed_between x [] (y ∷ ys) low high = ap (λ r. cond (is_lt r) (y ∷ placed cmp x ys) (x ∷ y ∷ ys)) high.0
  placed_between x (w ∷ xs) ys low high = ap (λ r. cond (is_lt r) (w ∷ placed cmp x (xs ++ ys)) (x ∷ w ∷ (xs ++ ys))) low.0 ∙ ap (λ l. w ∷ l) (placed_between x xs ys low.1 high)

  pub not_there : (x : X) (xs ys : List X) → Each (λ e. cmp e x ≡ Less) xs → Each (λ e. cmp e x ≡ Greater) ys → has cmp x (xs ++ ys) ≡ false
  not_there x [] [] low high = refl
  not_there x [] (y ∷ ys) low high = ap (λ r. is_eq r || has cmp x ys) high.0 ∙ not_there x [] ys tt high.1
  not_there x (w ∷ xs) ys low high = ap (λ r. is_eq r || has cmp x (xs ++ ys)) low.0 ∙ not_there x xs ys low.1 high

  pub above : (x e : X) → cmp e x ≡ Greater → cmp x e ≡ Less
  above x e is = o.antisymm x e ∙ ap ordering_reverse is

-- what lies between two lists may go
pub pairs_outside : {X : Type 0} (R : X → X → Type 0) (xs ms ys : List X) → Pairs R (xs ++ (ms ++ ys)) → Pairs R (xs ++ ys)
pairs_outside R xs ms ys a = pairs_append R xs ys (pairs_front R xs (ms ++ ys) a) (pairs_rest R ms ys (pairs_rest R xs (ms ++ ys) a)) (each_more (λ x. Each (R x) (ms ++ ys)) (λ x. Each (R x) ys) xs (λ x e. each_rest (R x) ms ys e) (pairs_across R xs (ms ++ ys) a))

pub numbers_append : {X : Type 0} (cs ds : List (Chunk X)) → numbers (cs ++ ds) ≡ numbers cs ++ numbers ds
numbers_append [] ds = refl
numbers_append (c ∷ cs) ds = of_number c.number refl (numbers_append cs ds)
  where
    of_number : (n : Option ℕ) → c.number ≡ n → numbers (cs ++ ds) ≡ numbers cs ++ numbers ds → numbers (c ∷ (cs ++ ds)) ≡ numbers (c ∷ cs) ++ numbers ds
    of_number None is rest = rw is rest
    of_number (Some k) is rest = rw is (ap (λ l. k ∷ l) rest)

pub flat_parts : {X Y : Type 0} (f : X → List Y) (xs ys zs : List X) → flat_map f (xs ++ ys ++ zs) ≡ flat_map f xs ++ (flat_map f ys ++ flat_map f zs)
flat_parts f xs ys zs = ap (flat_map f) (append_assoc xs ys zs) ∙ flat_map-append f xs (ys ++ zs) ∙ ap (λ l. flat_map f xs ++ l) (flat_map-append f ys zs)

module _ {X : Type 0} (cmp : X → X → Ordering) (o : IsTotalOrder cmp) (bytes : X → ℕ) (most : ℕ) (before ms qs after : List (Piece X)) (x : X) (low_part gone_part high_part : List X) where
  abbrev Low : X → Type 0
  Low e = cmp e x ≡ Less

  abbrev High : X → Type 0
  High e = cmp e x ≡ Greater

  abbrev Old : Chunk X → Type 0
  Old c = IsOneOf c (flat_map chunks_now (before ++ ms ++ after)) ⊎ IsCut bytes most c

  -- pieces of the same entries and x in place of some
  pub record Replaces : Type 0 where
    pub sound : IsSound cmp (before ++ ms ++ after)
    pub ascending : IsAscending cmp (flat_map shown before ++ ((low_part ++ high_part) ++ flat_map shown after))
    pub low : Each Low (flat_map shown before)
    pub upto : Each Low low_part
    pub behind : Each High high_part
    pub high : Each High (flat_map shown after)
    pub there : entries_of ms ≡ low_part ++ (gone_part ++ high_part)
    pub sized : Each IsSized qs
    pub seen : flat_map shown qs ≡ low_part ++ x ∷ high_part
    pub entries : entries_of qs ≡ low_part ++ x ∷ high_part
    pub marked : flat_map (chunks_then cmp) qs ≡ flat_map (chunks_then cmp) ms
    pub numbered : numbers (flat_map chunks_now qs) ≡ numbers (flat_map chunks_now ms)
    pub cut : Each (λ c. IsOneOf c (flat_map chunks_now ms) ⊎ IsCut bytes most c) (flat_map chunks_now qs)

  module _ (r : Replaces) where
    outer_sized : Each IsSized (before ++ qs ++ after)
    outer_sized =
        let all : Each IsSized (before ++ (ms ++ after)) = subst (Each IsSized) (append_assoc before ms after) r.sound.sized in
        subst (Each IsSized) (sym (append_assoc before qs after)) (each_append IsSized before (qs ++ after) (each_front IsSized before (ms ++ after) all) (each_append IsSized qs after r.sized (each_rest IsSized ms after (each_rest IsSized before (ms ++ after) all))))

    with_x : (us vs : List X) → us ++ low_part ++ x ∷ (high_part ++ vs) ≡ us ++ ((low_part ++ x ∷ high_part) ++ vs)
    with_x us vs = append_assoc us low_part (x ∷ (high_part ++ vs)) ∙ ap (λ l. us ++ l) (sym (append_assoc low_part (x ∷ high_part) vs))

    without_x : (us vs : List X) → us ++ ((low_part ++ high_part) ++ vs) ≡ us ++ low_part ++ (high_part ++ vs)
    without_x us vs = ap (λ l. us ++ l) (append_assoc low_part high_part vs) ∙ sym (append_assoc us low_part (high_part ++ vs))

    now_ascending : IsAscending cmp (flat_map shown (before ++ qs ++ after))
    now_ascending =
        let sb = flat_map shown before in
        let sa = flat_map shown after in
        let apart : IsAscending cmp (sb ++ low_part ++ (high_part ++ sa)) = subst (IsAscending cmp) (without_x sb sa) r.ascending in
        let lows : Each Low (sb ++ low_part) = each_append Low sb low_part r.low r.upto in
        let highs : Each (λ e. cmp x e ≡ Less) (high_part ++ sa) = each_more High (λ e. cmp x e ≡ Less) (high_part ++ sa) (above cmp o x) (each_append High high_part sa r.behind r.high) in
        let more : IsAscending cmp (sb ++ low_part ++ x ∷ (high_part ++ sa)) = pairs_with (λ u v. cmp u v ≡ Less) (sb ++ low_part) x (high_part ++ sa) apart lows highs in
        subst (IsAscending cmp) (with_x sb sa ∙ ap (λ l. sb ++ (l ++ sa)) (sym r.seen) ∙ sym (flat_parts shown before qs after)) more

    pub then_same : flat_map (chunks_then cmp) (before ++ qs ++ after) ≡ flat_map (chunks_then cmp) (before ++ ms ++ after)
    then_same = flat_parts (chunks_then cmp) before qs after ∙ ap (λ l. flat_map (chunks_then cmp) before ++ (l ++ flat_map (chunks_then cmp) after)) r.marked ∙ sym (flat_parts (chunks_then cmp) before ms after)

    pub now_sound : IsSound cmp (before ++ qs ++ after)
    now_sound = record { sized = outer_sized; ascending = now_ascending; marked = subst (λ l. IsAscending cmp (joined l)) (sym then_same) r.sound.marked }

    pub lows : Each Low (entries_of before ++ low_part)
    lows = each_append Low (entries_of before) low_part (each_entry Low before r.low) r.upto

    pub highs : Each High (high_part ++ entries_of after)
    highs = each_append High high_part (entries_of after) r.behind (each_entry High after r.high)

    pub old_entries : joined (flat_map chunks_now (before ++ ms ++ after)) ≡ (entries_of before ++ low_part) ++ (gone_part ++ (high_part ++ entries_of after))
    old_entries =
        let eb = entries_of before in
        let ea = entries_of after in
        joined_now (before ++ ms ++ after) ∙ flat_parts (λ p. present p.part) before ms after ∙ ap (λ l. eb ++ (l ++ ea)) r.there
        ∙ ap (λ l. eb ++ l) (append_assoc low_part (gone_part ++ high_part) ea ∙ ap (λ l. low_part ++ l) (append_assoc gone_part high_part ea)) ∙ sym (append_assoc eb low_part (gone_part ++ (high_part ++ ea)))

    pub new_entries : joined (flat_map chunks_now (before ++ qs ++ after)) ≡ (entries_of before ++ low_part) ++ x ∷ (high_part ++ entries_of after)
    new_entries = joined_now (before ++ qs ++ after) ∙ flat_parts (λ p. present p.part) before qs after ∙ ap (λ l. entries_of before ++ (l ++ entries_of after)) r.entries ∙ sym (with_x (entries_of before) (entries_of after))

    entries_with : gone_part ≡ [] → joined (flat_map chunks_now (before ++ qs ++ after)) ≡ entered cmp x (joined (flat_map chunks_now (before ++ ms ++ after)))
    entries_with none =
        let us = entries_of before ++ low_part in
        let vs = high_part ++ entries_of after in
        let old : joined (flat_map chunks_now (before ++ ms ++ after)) ≡ us ++ vs = old_entries ∙ ap (λ l. us ++ (l ++ vs)) none in
        new_entries ∙ sym (ap (entered cmp x) old ∙ ap (λ b. cond b (us ++ vs) (placed cmp x (us ++ vs))) (not_there cmp o x us vs lows highs) ∙ placed_between cmp o x us vs lows highs)

    pub numbers_same : numbers (flat_map chunks_now (before ++ qs ++ after)) ≡ numbers (flat_map chunks_now (before ++ ms ++ after))
    numbers_same = parts qs ∙ ap (λ l. numbers (flat_map chunks_now before) ++ (l ++ numbers (flat_map chunks_now after))) r.numbered ∙ sym (parts ms)
      where
        parts : (ns : List (Piece X)) → numbers (flat_map chunks_now (before ++ ns ++ after)) ≡ numbers (flat_map chunks_now before) ++ (numbers (flat_map chunks_now ns) ++ numbers (flat_map chunks_now after))
        parts ns = ap numbers (flat_parts chunks_now before ns after) ∙ numbers_append (flat_map chunks_now before) (flat_map chunks_now ns ++ flat_map chunks_now after) ∙ ap (λ l. numbers (flat_map chunks_now before) ++ l) (numbers_append (flat_map chunks_now ns) (flat_map chunks_now after))

    pub others : IsCutFrom bytes most (flat_map chunks_now (before ++ ms ++ after)) (flat_map chunks_now (before ++ qs ++ after))
    others =
        let cb = flat_map chunks_now before in
        let cm = flat_map chunks_now ms in
        let cq = flat_map chunks_now qs in
        let ca = flat_map chunks_now after in
        let is : flat_map chunks_now (before ++ ms ++ after) ≡ cb ++ (cm ++ ca) = flat_parts chunks_now before ms after in
        let in_old : (c : Chunk X) → IsOneOf c (cb ++ (cm ++ ca)) → Old c = λ c m. inl (subst (IsOneOf c) (sym is) m) in
        let first : Each Old cb = each_more (λ c. IsOneOf c cb) Old cb (λ c m. in_old c (member_front c cb (cm ++ ca) m)) (each_member cb) in
        let last : Each Old ca = each_more (λ c. IsOneOf c ca) Old ca (λ c m. in_old c (member_rest c cb (cm ++ ca) (member_rest c cm ca m))) (each_member ca) in
        let middle : Each Old cq = each_more (λ c. IsOneOf c cm ⊎ IsCut bytes most c) Old cq (λ c m. elim m [ inl one ↦ in_old c (member_rest c cb (cm ++ ca) (member_front c cm ca one)) | inr is_cut ↦ inr is_cut ]) r.cut in
        subst (Each Old) (sym (flat_parts chunks_now before qs after)) (each_append Old cb (cq ++ ca) first (each_append Old cq ca middle last))

    pub adds : gone_part ≡ [] → Adds cmp bytes most x (view cmp (before ++ ms ++ after)) (view cmp (before ++ qs ++ after))
    adds none = record { entries = entries_with none; marked = then_same; numbers = numbers_same; chunks = others }
