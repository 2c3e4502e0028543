-- What the bytes of a segment tell, and where none stands.
use Rattle.std.proofs.Common.{◌≡◌, ◌∙◌, ap, sym, refl, subst, ℕ, ◌<◌, ◌≤◌, ◌^◌, Bool, true, false, true≢false, nat_le, IsTrue, List, [], ◌∷◌, ◌++◌, length, drop, arith, append_assoc}
use Rattle.std.specs.Prelude.{flat_map}
use Rattle.std.specs.Cmp.{IsTotalOrder}
use Rattle.std.specs.Int.{w16, to_be_bytes}
use Rattle.std.specs.Ordering.{is_lt}
use Rattle.std.specs.declared.cmp.Ordering.{Ordering}
use Rattle.std.specs.declared.cmp.Ordering.TheVariants.{Less, Equal, Greater}
use Rattle.std.proofs.lemmas.Bool.{and_parts, and_from, leb-true, le-leb, lt-ltb}
use Rattle.std.proofs.lemmas.List.{length-drop}
use Rattle.std.proofs.Math.ListN.{drop_of_length-le}
use Rattle.oc_chunks.specs.Ascending.{Each, IsAscending}
use Rattle.oc_model.specs.Spelling.{Tells, segment_bytes}
use Rattle.oc_model.proofs.Told.{counted_told}
use Rattle.oc_model.proofs.Elements.{weaker}
use Rattle.oc_marshal.specs.Places.{StandsAt, NothingAt, StandInRow, NoRowAt, is_short}
use Rattle.oc_marshal.proofs.Standing.{only_one, short_told}
use Rattle.oc_segments.specs.Segments.{is_below, is_rising, is_size, AreEntries, SpellsSegment}

-- ---- the order

module _ {X : Type 0} (cmp : X → X → Ordering) (o : IsTotalOrder cmp) where
  less_of : (r : Ordering) → is_lt r ≡ true → r ≡ Less
  less_of Less h = refl
  less_of Equal h = absurd (true≢false (sym h))
  less_of Greater h = absurd (true≢false (sym h))

  below_further : (x y : X) (ys : List X) → cmp x y ≡ Less → Each (λ z. cmp y z ≡ Less) ys → Each (λ z. cmp x z ≡ Less) ys
  below_further x y [] lt h = tt
  below_further x y (z ∷ ys) lt h = (o.trans x y z lt h.0, below_further x y ys lt h.1)

  -- each is less than the next, so each is less than all that follow
  pub rising_ascends : (xs : List X) → is_rising cmp xs ≡ true → IsAscending cmp xs
  rising_ascends [] h = tt
  rising_ascends (x ∷ []) h = (tt, tt)
  rising_ascends (x ∷ y ∷ ys) h =
      let parts = and_parts (is_below cmp x (y ∷ ys)) (is_rising cmp (y ∷ ys)) h in
      let lt = less_of (cmp x y) parts.0 in
      let rest = rising_ascends (y ∷ ys) parts.1 in
      ((lt, below_further x y ys lt rest.0), rest)

ascending_rises : {X : Type 0} (cmp : X → X → Ordering) (xs : List X) → IsAscending cmp xs → is_rising cmp xs ≡ true
ascending_rises cmp [] a = refl
ascending_rises cmp (x ∷ []) a = refl
ascending_rises cmp (x ∷ y ∷ ys) a = and_from (is_lt (cmp x y)) (is_rising cmp (y ∷ ys)) (ap is_lt (a.0).0) (ascending_rises cmp (y ∷ ys) a.1)

-- ---- the bytes

size_small : (n : ℕ) → IsTrue (is_size n) → IsTrue (is_short n)
size_small n h = let few = leb-true n 512 (and_parts (nat_le 1 n) (nat_le n 512) h).1 in lt-ltb n (2 ^ 16) (omega (arith, few))

sizes_tell : Tells (λ n. IsTrue (is_size n)) (to_be_bytes w16)
sizes_tell m n rest more p q e = short_told m n rest more (size_small m p) (size_small n q) e

pub no_short : (bytes : List ℕ) (at : ℕ) → NothingAt is_short (to_be_bytes w16) bytes at → NothingAt is_size (to_be_bytes w16) bytes at
no_short bytes at none n rest p e = none n rest (size_small n p) e

nothing_behind : (xs : List ℕ) → xs ++ [] ≡ xs
nothing_behind [] = refl
nothing_behind (x ∷ xs) = ap (λ l. x ∷ l) (nothing_behind xs)

module _ {X : Type 0} (cmp : X → X → Ordering) (test : X → Bool) (spell : X → List ℕ) where
  sized : (es : List X) → AreEntries cmp test es → IsTrue (is_size (length es))
  sized es a = and_from (nat_le 1 (length es)) (nat_le (length es) 512) (le-leb 1 (length es) a.some) (le-leb (length es) 512 a.few)

  module _ (bytes : List ℕ) where
    pub no_size : NothingAt is_size (to_be_bytes w16) bytes 0 → (es : List X) → SpellsSegment cmp test spell es bytes → ⊥
    no_size none es s = none (length es) (flat_map spell es) (sized es s.is) s.bytes

    pub no_items : (from count : ℕ) → StandsAt is_size (to_be_bytes w16) bytes 0 count from → NoRowAt test spell bytes from count → (es : List X) → SpellsSegment cmp test spell es bytes → ⊥
    no_items from count a none es s =
        let one = only_one is_size (to_be_bytes w16) bytes 0 from count (length es) (flat_map spell es) sizes_tell a (sized es s.is) s.bytes in
        none es [] one.0 (s.is).each (sym one.1 ∙ sym (nothing_behind (flat_map spell es)))

    module _ (tells : Tells (λ x. IsTrue (test x)) spell) (from to count : ℕ) (items : List X)
        (a : StandsAt is_size (to_be_bytes w16) bytes 0 count from) (row : StandInRow test spell bytes from items to) (len : length items ≡ count) where
      front : bytes ≡ segment_bytes spell items ++ drop to bytes
      front = a.spelled ∙ (λ i. to_be_bytes w16 (sym len i) ++ row.spelled i) ∙ sym (append_assoc (to_be_bytes w16 (length items)) (flat_map spell items) (drop to bytes))

      size : IsTrue (is_size (length items))
      size = subst (λ n. IsTrue (is_size n)) (sym len) a.passes

      same_items : (es : List X) → SpellsSegment cmp test spell es bytes → (es ≡ items) × ([] ≡ drop to bytes)
      same_items es s =
          counted_told w16 (λ n. IsTrue (is_short n)) short_told test spell tells es items [] (drop to bytes)
          (size_small (length es) (sized es s.is), (s.is).each) (size_small (length items) size, row.passes)
          (nothing_behind (segment_bytes spell es) ∙ sym s.bytes ∙ front)

      pub none_behind : to < length bytes → (es : List X) → SpellsSegment cmp test spell es bytes → ⊥
      none_behind more es s =
          let empty : length (drop to bytes) ≡ 0 = sym (ap length (same_items es s).1) in
          absurd (omega (arith, empty, length-drop to bytes, more))

      pub none_rising : is_rising cmp items ≡ false → (es : List X) → SpellsSegment cmp test spell es bytes → ⊥
      none_rising broken es s =
          true≢false (sym (ascending_rises cmp es (s.is).ascending) ∙ ap (is_rising cmp) (same_items es s).0 ∙ broken)

      pub segment_only : (es : List X) → SpellsSegment cmp test spell es bytes → es ≡ items
      segment_only es s = (same_items es s).0

      pub segment_found : IsTotalOrder cmp → is_rising cmp items ≡ true → length bytes ≤ to → SpellsSegment cmp test spell items bytes
      segment_found o rising end =
          let parts = and_parts (nat_le 1 (length items)) (nat_le (length items) 512) size in
          record {
            is = record {
              some = leb-true 1 (length items) parts.0;
              few = leb-true (length items) 512 parts.1;
              each = row.passes;
              ascending = rising_ascends cmp o items rising;
            };
            bytes = front ∙ ap (λ l. segment_bytes spell items ++ l) (drop_of_length-le bytes end) ∙ nothing_behind (segment_bytes spell items);
          }

-- what can stand can be written
pub still_entries : {X : Type 0} (cmp : X → X → Ordering) (p q : X → Bool) → ((x : X) → IsTrue (p x) → IsTrue (q x)) → (es : List X) → AreEntries cmp p es → AreEntries cmp q es
still_entries cmp p q each es a = record { some = a.some; few = a.few; each = weaker p q each es a.each; ascending = a.ascending }
