-- The bytes of entries of which none is wider than the widest.
use Rattle.std.proofs.Common.{◌≡◌, ◌∙◌, ap, sym, refl, subst, ℕ, suc, ◌+◌, ◌*◌, ◌<◌, ◌≤◌, Bool, true, false, not, cond, List, [], ◌∷◌, ◌++◌, length, take, get_or, filter, map, flat_map, sum_by, arith, append-nil}
use Rattle.std.specs.List.{list_any}
use Rattle.std.specs.Ordering.{is_lt, is_eq}
use Rattle.std.specs.declared.cmp.Ordering.{Ordering}
use Rattle.std.proofs.lemmas.Bool.Decides.{nat_tests}
use Rattle.std.proofs.Math.Nat.{suc-mul}
use Rattle.std.proofs.lemmas.List.{take_more, map_push}
use Rattle.std.proofs.lemmas.List.Sums.{sum_by-cons}
use Rattle.std.proofs.lemmas.List.Concat.{flat_map-append}
use Rattle.oc_model.specs.Lists.{placed}
use Rattle.oc_chunks.specs.Ascending.{has, entered, replaced}
use Rattle.oc_chunks.specs.declared.opening.Written.{Written}
use Rattle.oc_chunks.specs.declared.piece.Piece.{Piece}
use Rattle.oc_chunks.specs.Chunks.{Chunk, is_within, joined, left, nonempty}
use Rattle.oc_chunks.specs.Cutting.{IsWide}
use Rattle.oc_chunks.specs.Opening.{chunk_read, spare_behind, written}
use Rattle.oc_chunks.specs.Pieces.{present, chunks_now}
use Rattle.oc_chunks.proofs.Eaches.{each_append, each_front, each_rest, each_more}
use Rattle.oc_chunks.proofs.Views.{entries_of, joined_now, joined_some}

module _ {X : Type 0} (bytes : X → ℕ) (widest : ℕ) where
  pub sum_wide : (es : List X) → IsWide bytes widest es → sum_by bytes es ≤ length es * widest
  sum_wide [] w = omega arith
  sum_wide (e ∷ es) w = let rest = sum_wide es w.1 in let first = w.0 in let more = suc-mul (length es) widest in let sum : sum_by bytes (e ∷ es) ≡ bytes e + sum_by bytes es = sum_by-cons bytes e es in omega (arith, rest, first, more, sum)

  pub light : (most : ℕ) (x : X) (es : List X) → IsWide bytes widest (x ∷ es) → length es < most → (length es + 1) * widest ≤ 4096 → is_within bytes most (x ∷ es) ≡ true
  light most x es w few le =
      let sum : sum_by bytes (x ∷ es) ≤ (length es + 1) * widest = subst (λ n. sum_by bytes (x ∷ es) ≤ n * widest) {x = suc (length es)} {y = length es + 1} (omega arith) (sum_wide (x ∷ es) w) in
      let small : sum_by bytes (x ∷ es) ≤ 4096 = omega (arith, sum, le) in
      grind (arith, nat_tests, few, small)

  pub wide_append : (xs ys : List X) → IsWide bytes widest xs → IsWide bytes widest ys → IsWide bytes widest (xs ++ ys)
  wide_append = each_append (λ e. bytes e ≤ widest)

  wide_filter : (p : X → Bool) (es : List X) → IsWide bytes widest es → IsWide bytes widest (filter p es)
  wide_filter p [] w = tt
  wide_filter p (e ∷ es) w = elim (p e) as (λ b. IsWide bytes widest (cond b (e ∷ filter p es) (filter p es))) [
    | true ↦ (w.0, wide_filter p es w.1)
    | false ↦ wide_filter p es w.1
  ]

  wide_placed : (cmp : X → X → Ordering) (x : X) (es : List X) → bytes x ≤ widest → IsWide bytes widest es → IsWide bytes widest (placed cmp x es)
  wide_placed cmp x [] it w = (it, tt)
  wide_placed cmp x (e ∷ es) it w = elim (is_lt (cmp e x)) as (λ b. IsWide bytes widest (cond b (e ∷ placed cmp x es) (x ∷ e ∷ es))) [
    | true ↦ (w.0, wide_placed cmp x es it w.1)
    | false ↦ (it, w)
  ]

  pub wide_entered : (cmp : X → X → Ordering) (x : X) (es : List X) → bytes x ≤ widest → IsWide bytes widest es → IsWide bytes widest (entered cmp x es)
  wide_entered cmp x es it w = elim (has cmp x es) as (λ b. IsWide bytes widest (cond b es (placed cmp x es))) [
    | true ↦ w
    | false ↦ wide_placed cmp x es it w
  ]

  pub wide_replaced : (cmp : X → X → Ordering) (x : X) (es : List X) → bytes x ≤ widest → IsWide bytes widest es → IsWide bytes widest (replaced cmp x es)
  wide_replaced cmp x es it w = wide_placed cmp x (filter (λ e. not (is_eq (cmp e x))) es) it (wide_filter (λ e. not (is_eq (cmp e x))) es w)

  pub wide_left : (p : X → Bool) (cs : List (Chunk X)) → IsWide bytes widest (joined cs) → IsWide bytes widest (joined (flat_map (left p) cs))
  wide_left p [] w = tt
  wide_left p (c ∷ cs) w =
      subst (IsWide bytes widest) (sym (flat_map-append (λ d. d.entries) (left p c) (flat_map (left p) cs)))
      (wide_append (joined (left p c)) (joined (flat_map (left p) cs)) (one (each_front (λ e. bytes e ≤ widest) c.entries (joined cs) w)) (wide_left p cs (each_rest (λ e. bytes e ≤ widest) c.entries (joined cs) w)))
    where
      one : IsWide bytes widest c.entries → IsWide bytes widest (joined (left p c))
      one v = elim (list_any p c.entries) as (λ b. IsWide bytes widest (joined (cond b (nonempty (record { entries = filter (λ e. not (p e)) c.entries; number = c.number; changed = true })) (c ∷ [])))) [
        | true ↦ subst (IsWide bytes widest) (sym (joined_some (filter (λ e. not (p e)) c.entries) (record { entries = filter (λ e. not (p e)) c.entries; number = c.number; changed = true }) refl)) (wide_filter (λ e. not (p e)) c.entries v)
        | false ↦ subst (IsWide bytes widest) (sym (append-nil c.entries)) v
      ]

  pub wide_chunks : (ws : List (Written X)) (before : ℕ) (i : ℕ) (v : Written X) (es : List X) → i < length ws → v ≡ get_or ws i v → es ≡ v.entries.items → before ≤ widest → IsWide bytes widest es → IsWide bytes before (joined (map chunk_read (take i ws))) → IsWide bytes widest (joined (map chunk_read (take (i + 1) ws)))
  wide_chunks ws before i v es lt read es_is le w old =
      let front : joined (map chunk_read (take (i + 1) ws)) ≡ joined (map chunk_read (take i ws)) ++ es = ap (λ l. joined (map chunk_read l)) (take_more ws i v lt ∙ ap (λ d. take i ws ++ d ∷ []) (sym read)) ∙ ap joined (map_push chunk_read (take i ws) v) ∙ flat_map-append (λ c. c.entries) (map chunk_read (take i ws)) (chunk_read v ∷ []) ∙ ap (λ l. joined (map chunk_read (take i ws)) ++ l) (append-nil v.entries.items ∙ sym es_is) in
      subst (IsWide bytes widest) (sym front) (wide_append (joined (map chunk_read (take i ws))) es (each_more (λ e. bytes e ≤ before) (λ e. bytes e ≤ widest) (joined (map chunk_read (take i ws))) (λ e u. omega (arith, le, u)) old) w)

  pub wide_present : (ps before : List (Piece X)) (p : Piece X) (after : List (Piece X)) → ps ≡ before ++ p ∷ after → IsWide bytes widest (joined (flat_map chunks_now ps)) → IsWide bytes widest (present p.part)
  wide_present ps before p after split w =
      let all : IsWide bytes widest (entries_of before ++ (present p.part ++ entries_of after)) = subst (IsWide bytes widest) (joined_now ps ∙ ap entries_of split ∙ flat_map-append (λ q. present q.part) before (p ∷ after)) w in
      each_front (λ e. bytes e ≤ widest) (present p.part) (entries_of after) (each_rest (λ e. bytes e ≤ widest) (entries_of before) (present p.part ++ entries_of after) all)

pub joined_written : {X : Type 0} (spare : List ℕ) (cs : List (Chunk X)) → joined (written spare cs) ≡ joined cs
joined_written spare [] = refl
joined_written spare (c ∷ cs) = ap (λ l. c.entries ++ l) (joined_written (spare_behind c.number spare) cs)

pub wider : {X : Type 0} (bytes : X → ℕ) (m n : ℕ) (es : List X) → m ≤ n → IsWide bytes m es → IsWide bytes n es
wider bytes m n es le w = each_more (λ e. bytes e ≤ m) (λ e. bytes e ≤ n) es (λ e v. omega (arith, le, v)) w

pub wide_more : {X : Type 0} (bytes : X → ℕ) (m n : ℕ) (es : List X) (i : ℕ) (e : X) → i < length es → e ≡ get_or es i e → m ≤ n → bytes e ≤ n → IsWide bytes m (take i es) → IsWide bytes n (take (i + 1) es)
wide_more bytes m n es i e lt read le it w = subst (IsWide bytes n) (sym (take_more es i e lt ∙ ap (λ d. take i es ++ d ∷ []) (sym read))) (wide_append bytes n (take i es) (e ∷ []) (wider bytes m n (take i es) le w) (it, tt))
