-- A file begins with the header that its first bytes spell.
use Rattle.std.proofs.Common.{◌≡◌, ◌∙◌, inl, inr, ℕ, zero, suc, ◌+◌, ◌-◌, ◌<◌, ◌≤◌, ◌^◌, true, List, [], ◌∷◌, ◌++◌, length, take, drop, replicate, get_or, refl, sym, ap, subst, arith, length-drop, length-take}
use Rattle.std.specs.Int.{w32, to_be_bytes, from_be_bytes}
use Rattle.std.proofs.lemmas.Bool.{cases_lt}
use Rattle.std.proofs.lemmas.Nat.{be_bytes_4}
use Rattle.std.proofs.lemmas.List.{get_or-take, get_or-drop, get_or_past, get_or-replicate, get_or_append_left, take-append-drop, drop-drop, ext_get_or, length-replicate}
use Rattle.oc_pages.proofs.Images.{numbers_same}
use Rattle.oc_layout.specs.declared.cells.Header.{Header}
use Rattle.oc_layout.specs.Layout.{cell_bytes, first_cell, FitsCell}
use Rattle.oc_layout.specs.Headers.{opening_bytes, header_bytes, fields, is_in_range, FitsHeader, SpellsHeader}
use Rattle.oc_layout.proofs.HeaderAgain.{fields_again}
use Rattle.oc_slots.specs.Forms.{Begins}
use Rattle.oc_slots.proofs.Headers.{fields_same}

-- ---- what is spelled begins the file

module _ (h : Header) (b : List ℕ) (spells : SpellsHeader h (take 128 b)) where
  size : length (take 128 b) ≡ 128
  size = ap length spells.bytes

  long : 128 ≤ length b
  long = omega (arith, size, length-take 128 b)

  first : (k : ℕ) → k < 128 → get_or b k 0 ≡ get_or (header_bytes h) k 0
  first k lt = sym (get_or-take 128 b k 0 lt) ∙ ap (λ (l : List ℕ). get_or l k 0) spells.bytes

  zeros_at : (from n k : ℕ) (rest : List ℕ) → drop from (header_bytes h) ≡ replicate n 0 ++ rest → from ≤ k → k < from + n → get_or (header_bytes h) k 0 ≡ 0
  zeros_at from n k rest e ge lt =
      let here : from + (k - from) ≡ k = omega (arith, ge) in
      ap (λ (j : ℕ). get_or (header_bytes h) j 0) (sym here) ∙ sym (get_or-drop from (header_bytes h) (k - from) 0)
      ∙ ap (λ (l : List ℕ). get_or l (k - from) 0) e
      ∙ get_or_append_left (replicate n 0) rest 0 (k - from) (omega (arith, length-replicate {A = ℕ} n 0, ge, lt))
      ∙ get_or-replicate n (k - from) 0 0 (omega (arith, ge, lt))

  pub spelled_begins : Begins h b
  spelled_begins = record {
    long = long;
    fields = sym (fields_again h spells.fits) ∙ fields_same b (header_bytes h) (λ k lt. sym (first k lt));
    in_range = in_range;
    opening = opening;
    zeros = λ k ge lt. first k (omega (arith, lt)) ∙ zeros_at 24 8 k (drop 32 (header_bytes h)) refl ge lt;
    end_zeros = λ k ge lt. first k lt ∙ zeros_at 66 62 k [] refl ge lt;
  }
    where
      in_range : is_in_range h ≡ true
      in_range = search spells.in_range

      eight : take 8 b ≡ take 8 (take 128 b)
      eight = ext_get_or 0 (take 8 b) (take 8 (take 128 b)) (omega (arith, length-take 8 b, length-take 8 (take 128 b), size, long))
          (λ i lt. let under : i < 8 = omega (arith, lt, length-take 8 b) in get_or-take 8 b i 0 under ∙ sym (get_or-take 8 (take 128 b) i 0 under ∙ get_or-take 128 b i 0 (omega (arith, under))))

      opening : take 8 b ≡ opening_bytes
      opening = eight ∙ ap (take 8) spells.bytes

-- ---- bytes that begin a file are spelled

abbrev AreBytes : List ℕ → Type 0
AreBytes b = (i : ℕ) → get_or b i 0 < 256

module _ (l : List ℕ) (size : length l ≡ 128) (bytes : AreBytes l) where
  dropped : (n : ℕ) → AreBytes (drop n l)
  dropped n i = subst (λ x. x < 256) (sym (get_or-drop n l i 0)) (bytes (n + i))

  below : (n : ℕ) → from_be_bytes w32 (drop n l) < 2 ^ 32
  below n = omega (arith, dropped n 0, dropped n 1, dropped n 2, dropped n 3)

  cell_fits : (n : ℕ) → FitsCell (first_cell (drop n l))
  cell_fits n = record { at = below n; len = subst (λ x. from_be_bytes w32 x < 2 ^ 32) (sym (drop-drop 4 n l)) (below (n + 4)) }

  taken : (n m : ℕ) → AreBytes (take m (drop n l))
  taken n m i = elim (cases_lt i m) [
    | inl lt ↦ subst (λ x. x < 256) (sym (get_or-take m (drop n l) i 0 lt)) (dropped n i)
    | inr ge ↦ subst (λ x. x < 256) (sym (get_or_past (take m (drop n l)) i 0 (omega (arith, length-take m (drop n l), ge)))) (omega arith)
  ]

  -- a part and what is behind it
  part : (n m : ℕ) (front : List ℕ) → take m (drop n l) ≡ front → drop n l ≡ front ++ drop (n + m) l
  part n m front e = sym (take-append-drop m (drop n l)) ∙ (λ i. e i ++ drop-drop m n l i)

  number : (n : ℕ) → n + 4 ≤ 128 → drop n l ≡ to_be_bytes w32 (from_be_bytes w32 (drop n l)) ++ drop (n + 4) l
  number n le = part n 4 (to_be_bytes w32 (from_be_bytes w32 (drop n l))) (sym (be_bytes_4 (take 4 (drop n l)) (from_be_bytes w32 (drop n l)) (omega (arith, length-take 4 (drop n l), length-drop n l, size, le)) (taken n 4) (sym (numbers_same (drop n l) (take 4 (drop n l)) (λ k lt. get_or-take 4 (drop n l) k 0 lt)))))

  cell : (n : ℕ) → n + 8 ≤ 128 → drop n l ≡ cell_bytes (first_cell (drop n l)) ++ drop (n + 8) l
  cell n le =
      let at = to_be_bytes w32 (from_be_bytes w32 (drop n l)) in
      let second : from_be_bytes w32 (drop (n + 4) l) ≡ from_be_bytes w32 (drop 4 (drop n l)) = ap (from_be_bytes w32) (sym (drop-drop 4 n l)) in
      number n (omega (arith, le)) ∙ ap (λ (r : List ℕ). at ++ r) (number (n + 4) (omega (arith, le)))
      ∙ (λ i. at ++ (to_be_bytes w32 (second i) ++ drop (eight i) l))
    where
      eight : n + 4 + 4 ≡ n + 8
      eight = omega arith

  fits : FitsHeader (fields l)
  fits = record {
    limit = below 8;
    first = below 12;
    root = cell_fits 16;
    log = cell_fits 32;
    gate = bytes 64;
    block = below 40;
    block_limit = below 44;
    block_root = cell_fits 48;
    spare = cell_fits 56;
    form = bytes 65;
  }

  module _ (opening : take 8 l ≡ opening_bytes) (zeros : (k : ℕ) → 24 ≤ k → k < 32 → get_or l k 0 ≡ 0) (end_zeros : (k : ℕ) → 66 ≤ k → k < 128 → get_or l k 0 ≡ 0) where
    zeros_part : take 8 (drop 24 l) ≡ replicate 8 0
    zeros_part = ext_get_or 0 (take 8 (drop 24 l)) (replicate 8 0) (omega (arith, length-take 8 (drop 24 l), length-drop 24 l, size))
        (λ i lt. let under : i < 8 = omega (arith, lt, length-take 8 (drop 24 l)) in
        get_or-take 8 (drop 24 l) i 0 under ∙ get_or-drop 24 l i 0 ∙ zeros (24 + i) (omega arith) (omega (arith, under)) ∙ sym (get_or-replicate 8 i 0 0 under))

    end_part : drop 64 l ≡ get_or l 64 0 ∷ get_or l 65 0 ∷ replicate 62 0
    end_part = ext_get_or 0 (drop 64 l) (get_or l 64 0 ∷ get_or l 65 0 ∷ replicate 62 0) (omega (arith, length-drop 64 l, size)) (λ i lt. get_or-drop 64 l i 0 ∙ each i (omega (arith, lt, length-drop 64 l, size)))
      where
        each : (i : ℕ) → i < 64 → get_or l (64 + i) 0 ≡ get_or (get_or l 64 0 ∷ get_or l 65 0 ∷ replicate 62 0) i 0
        each zero lt = refl
        each (suc zero) lt = refl
        each (suc (suc i)) lt = end_zeros (64 + suc (suc i)) (omega arith) (omega (arith, lt)) ∙ sym (get_or-replicate 62 i 0 0 (omega (arith, lt)))

    whole : l ≡ header_bytes (fields l)
    whole =
        part 0 8 opening_bytes opening
        ∙ ap (λ r. opening_bytes ++ r) (number 8 (omega arith)
        ∙ ap (λ r. to_be_bytes w32 (fields l).limit ++ r) (number 12 (omega arith)
        ∙ ap (λ r. to_be_bytes w32 (fields l).first ++ r) (cell 16 (omega arith)
        ∙ ap (λ r. cell_bytes (fields l).root ++ r) (part 24 8 (replicate 8 0) zeros_part
        ∙ ap (λ r. replicate 8 0 ++ r) (cell 32 (omega arith)
        ∙ ap (λ r. cell_bytes (fields l).log ++ r) (number 40 (omega arith)
        ∙ ap (λ r. to_be_bytes w32 (fields l).block ++ r) (number 44 (omega arith)
        ∙ ap (λ r. to_be_bytes w32 (fields l).block_limit ++ r) (cell 48 (omega arith)
        ∙ ap (λ r. cell_bytes (fields l).block_root ++ r) (cell 56 (omega arith)
        ∙ ap (λ r. cell_bytes (fields l).spare ++ r) end_part)))))))))

    pub spells : is_in_range (fields l) ≡ true → SpellsHeader (fields l) l
    spells range = record { fits = fits; in_range = search range; bytes = whole }

-- the header that begins a file is the one that its first bytes spell
pub begins_spelled : (h : Header) (b l : List ℕ) → l ≡ take 128 b → ((i : ℕ) → get_or l i 0 < 256) → Begins h b → SpellsHeader h l
begins_spelled h b l is bytes begins = subst (λ x. SpellsHeader x l) (sym (begins.fields ∙ sym same)) (spells l size bytes opening zeros ends range)
  where
    size : length l ≡ 128
    size = ap length is ∙ omega (arith, length-take 128 b, begins.long)

    first : (k : ℕ) → k < 128 → get_or l k 0 ≡ get_or b k 0
    first k lt = ap (λ (x : List ℕ). get_or x k 0) is ∙ get_or-take 128 b k 0 lt

    same : fields l ≡ fields b
    same = fields_same b l first

    range : is_in_range (fields l) ≡ true
    range = ap is_in_range (same ∙ sym begins.fields) ∙ begins.in_range

    opening : take 8 l ≡ opening_bytes
    opening = ext_get_or 0 (take 8 l) (take 8 b) (omega (arith, length-take 8 l, length-take 8 b, size, begins.long))
        (λ i lt. let under : i < 8 = omega (arith, lt, length-take 8 l) in get_or-take 8 l i 0 under ∙ first i (omega (arith, under)) ∙ sym (get_or-take 8 b i 0 under)) ∙ begins.opening

    zeros : (k : ℕ) → 24 ≤ k → k < 32 → get_or l k 0 ≡ 0
    zeros k ge lt = first k (omega (arith, lt)) ∙ begins.zeros k ge lt

    ends : (k : ℕ) → 66 ≤ k → k < 128 → get_or l k 0 ≡ 0
    ends k ge lt = first k lt ∙ begins.end_zeros k ge lt
