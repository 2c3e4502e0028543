-- What is read of a list, chunk by chunk.
use Rattle.std.proofs.Common.{◌≡◌, ◌∙◌, ap, sym, refl, subst, ℕ, zero, suc, ◌+◌, ◌<◌, ◌≤◌, Bool, true, IsTrue, List, [], ◌∷◌, ◌++◌, length, get_or, take, drop, map, Option, Some, None, arith, append_assoc, append-nil, add-one}
use Rattle.std.specs.Prelude.{flat_map, sum_by, filter_map}
use Rattle.std.specs.declared.cmp.Ordering.{Ordering}
use Rattle.std.proofs.lemmas.List.Concat.{flat_map-append}
use Rattle.std.proofs.Math.Seq.{drop-cons}
use Rattle.std.proofs.lemmas.List.Sums.{sum_by-cons}
use Rattle.std.proofs.lemmas.List.{take_more, take-append-drop}
use Rattle.oc_chunks.specs.declared.opening.Written.{Written}
use Rattle.oc_chunks.specs.Ascending.{Each, IsAscending}
use Rattle.oc_chunks.specs.Chunks.{Chunk, IsSizedChunk, joined, numbers}
use Rattle.oc_chunks.specs.Opening.{chunk_read, Follows, IsList}
use Rattle.oc_chunks.proofs.Eaches.{each_append}
use Rattle.oc_slots.specs.Maps.{SlotMap}
use Rattle.oc_store.specs.Lists.{chunk_kept, AreNext, IsDamagedAt, IsNext, IsSoundList}
use Rattle.oc_store.proofs.Ends.{joined_more, mapped}

-- the numbers that the chunks were written under
abbrev pub numbers_of : {X : Type 0} → List (Written X) → List ℕ
numbers_of ws = map (λ w. w.number) ws

pub numbers_read : {X : Type 0} (ws : List (Written X)) → numbers (map chunk_read ws) ≡ numbers_of ws
numbers_read [] = refl
numbers_read (w ∷ ws) = ap (λ l. w.number ∷ l) (numbers_read ws)

pub numbers_more : {X : Type 0} (ws : List (Written X)) (w : Written X) → numbers_of (ws ++ w ∷ []) ≡ numbers_of ws ++ w.number ∷ []
numbers_more [] w = refl
numbers_more (v ∷ ws) w = ap (λ l. v.number ∷ l) (numbers_more ws w)

-- a chunk more makes a list where its entries follow
pub list_more : {X : Type 0} (cmp : X → X → Ordering) (ws : List (Written X)) (w : Written X) → IsList cmp (map chunk_read ws) → Follows cmp (joined (map chunk_read ws)) w.entries.items → IsList cmp (map chunk_read (ws ++ w ∷ []))
list_more cmp ws w list f = record {
  sized = subst (Each IsSizedChunk) (sym (mapped ws w)) (each_append IsSizedChunk (map chunk_read ws) (chunk_read w ∷ []) list.sized (record { some = f.some; few = f.few }, tt));
  ascending = subst (IsAscending cmp) (sym (joined_more ws w)) f.ascending;
}

-- a list around the element at a place, up to it and from it on
pub around : {X : Type 0} (xs : List X) (i : ℕ) (x d : X) → i < length xs → x ≡ get_or xs i d → xs ≡ take i xs ++ x ∷ drop (i + 1) xs
around xs i x d lt is = sym (take-append-drop i xs) ∙ ap (λ l. take i xs ++ l) (drop-cons xs i d lt ∙ (λ j. sym is j ∷ drop (sym (add-one i) j) xs))

pub front_more : {X : Type 0} (xs : List X) (i : ℕ) (x d : X) → i < length xs → x ≡ get_or xs i d → take (i + 1) xs ≡ take i xs ++ x ∷ []
front_more xs i x d lt is = take_more xs i d lt ∙ ap (λ y. take i xs ++ y ∷ []) (sym is)

pub rest_more : {X : Type 0} (f : X → ℕ) (xs : List X) (i : ℕ) (x d : X) → i < length xs → x ≡ get_or xs i d → sum_by f (drop i xs) ≡ f x + sum_by f (drop (i + 1) xs)
rest_more f xs i x d lt is = ap (sum_by f) (drop-cons xs i d lt ∙ (λ j. sym is j ∷ drop (sym (add-one i) j) xs)) ∙ sum_by-cons f x (drop (i + 1) xs)

module _ {X : Type 0} (Spelled : List X → List ℕ → Type 0) (m : SlotMap) (cmp : X → X → Ordering) (suits : X → Bool) where
  pub next_more : (before : List X) (cs : List (Chunk X)) (c : Chunk X) → AreNext Spelled m cmp suits before cs → IsNext Spelled m cmp suits (before ++ joined cs) c → AreNext Spelled m cmp suits before (cs ++ c ∷ [])
  next_more before [] c a n = (subst (λ l. IsNext Spelled m cmp suits l c) (append-nil before) n, tt)
  next_more before (d ∷ cs) c a n = (a.0, next_more (before ++ d.entries) cs c a.1 (subst (λ l. IsNext Spelled m cmp suits l c) (sym (append_assoc before d.entries (joined cs))) n))

  module _ (ws : List (Written X)) (ns : List ℕ) (i n : ℕ) (lt : i < length ns) (is : n ≡ get_or ns i 0) (so_far : numbers_of ws ≡ take i ns) where
    -- a chunk more is read
    pub read_more : (w : Written X) → w.number ≡ n → numbers_of (ws ++ w ∷ []) ≡ take (i + 1) ns
    read_more w number = numbers_more ws w ∙ (λ j. so_far j ++ number j ∷ []) ∙ sym (front_more ns i n 0 lt is)

    -- this one is damaged
    pub read_damaged : AreNext Spelled m cmp suits [] (map chunk_read ws) → ((entries : List X) → IsNext Spelled m cmp suits (joined (map chunk_read ws)) (chunk_kept n entries) → ⊥) → IsDamagedAt Spelled m cmp suits ns n
    read_damaged sound damaged = record {
      chunks = map chunk_read ws;
      behind = drop (i + 1) ns;
      numbered = around ns i n 0 lt is ∙ ap (λ l. l ++ n ∷ drop (i + 1) ns) (sym (numbers_read ws ∙ so_far));
      sound = sound;
      damaged = damaged;
    }

  pub all_read : (ws : List (Written X)) (ns : List ℕ) → numbers_of ws ≡ ns → AreNext Spelled m cmp suits [] (map chunk_read ws) → IsSoundList Spelled m cmp suits ns (map chunk_read ws)
  all_read ws ns is sound = record { numbered = numbers_read ws ∙ is; sound = sound }
