-- Bytes written over others, place by place.
use Rattle.std.proofs.Common.{◌≡◌, inl, inr, ⊎_elim, ℕ, ◌+◌, ◌-◌, ◌<◌, ◌≤◌, max, List, [], ◌∷◌, ◌++◌, length, take, drop, get_or, refl, sym, ◌∙◌, ap, subst, arith, length-append, length-drop}
use Rattle.std.specs.Prelude.{replicate}
use Rattle.std.proofs.lemmas.List.{length-replicate, get_or-replicate, length-take, get_or-take, get_or-drop, get_or_append_left, get_or-append_right, get_or_past, ext_get_or}
use Rattle.std.proofs.lemmas.Bool.{cases_lt}
use Rattle.oc_layout.specs.declared.cells.CellWrite.{CellWrite}
use Rattle.oc_layout.specs.Layout.{cell_bytes}
use Rattle.oc_host.specs.Disk.{Apart, over}
use Rattle.oc_log.specs.Log.{slice, put_cells, padded, AllApart, AllWithin, AllClear}

pub length-over : (at : ℕ) (bytes b : List ℕ) → at ≤ length b → length (over at bytes b) ≡ max (length b) (at + length bytes)
length-over at bytes b le = omega (arith, length-append (take at b ++ bytes) (drop (at + length bytes) b), length-append (take at b) bytes, length-take at b, length-drop (at + length bytes) b)

pub length-over-in : (at : ℕ) (bytes b : List ℕ) → at + length bytes ≤ length b → length (over at bytes b) ≡ length b
length-over-in at bytes b le = omega (arith, length-over at bytes b (omega arith))

-- outside what is written, the byte stays
pub over_out : (at : ℕ) (bytes b : List ℕ) (k : ℕ) → at ≤ length b → Apart k at (length bytes) → get_or (over at bytes b) k 0 ≡ get_or b k 0
over_out at bytes b k le (inl lt) =
    get_or_append_left (take at b ++ bytes) (drop (at + length bytes) b) 0 k (omega (arith, length-append (take at b) bytes, length-take at b))
    ∙ get_or_append_left (take at b) bytes 0 k (omega (arith, length-take at b))
    ∙ get_or-take at b k 0 lt
over_out at bytes b k le (inr ge) =
    let front : length (take at b ++ bytes) ≡ at + length bytes = omega (arith, length-append (take at b) bytes, length-take at b) in
    let here : at + length bytes + (k - (at + length bytes)) ≡ k = omega arith in
    get_or-append_right (take at b ++ bytes) (drop (at + length bytes) b) (at + length bytes) k 0 front ge
    ∙ get_or-drop (at + length bytes) b (k - (at + length bytes)) 0
    ∙ ap (λ (j : ℕ). get_or b j 0) here

-- within, it is the byte written
pub over_in : (at : ℕ) (bytes b : List ℕ) (k : ℕ) → at ≤ length b → at ≤ k → k < at + length bytes → get_or (over at bytes b) k 0 ≡ get_or bytes (k - at) 0
over_in at bytes b k le ge lt =
    let front : length (take at b) ≡ at = omega (arith, length-take at b) in
    get_or_append_left (take at b ++ bytes) (drop (at + length bytes) b) 0 k (omega (arith, length-append (take at b) bytes, length-take at b))
    ∙ get_or-append_right (take at b) bytes at k 0 front ge

-- among n bytes from `at` on, or not
pub data Where (k at n : ℕ) : Type 0 where
  apart : Apart k at n → Where k at n
  among : at ≤ k → k < at + n → Where k at n

pub place_of : (k at n : ℕ) → Where k at n
place_of k at n = elim (cases_lt k at) [
  | inl lt ↦ apart (inl lt)
  | inr ge ↦ elim (cases_lt k (at + n)) [ inl lt ↦ among ge lt | inr le ↦ apart (inr le) ]
]

-- equal at one place, after the same bytes are written
pub over_same : (at : ℕ) (bytes b c : List ℕ) (k : ℕ) → at ≤ length b → at ≤ length c → (Apart k at (length bytes) → get_or c k 0 ≡ get_or b k 0) → get_or (over at bytes c) k 0 ≡ get_or (over at bytes b) k 0
over_same at bytes b c k in_b in_c same = elim (place_of k at (length bytes)) [
  | apart out ↦ over_out at bytes c k in_c out ∙ same out ∙ sym (over_out at bytes b k in_b out)
  | among ge lt ↦ over_in at bytes c k in_c ge lt ∙ sym (over_in at bytes b k in_b ge lt)
]

pub length-put : (ws : List CellWrite) (b : List ℕ) → AllWithin (length b) ws → length (put_cells ws b) ≡ length b
length-put [] b within = refl
length-put (w ∷ ws) b within =
    let once = length-over-in w.target (cell_bytes w.cell) b within.0 in
    length-put ws (over w.target (cell_bytes w.cell) b) (subst (λ (n : ℕ). AllWithin n ws) (sym once) within.1) ∙ once

pub put_out : (ws : List CellWrite) (b : List ℕ) (k : ℕ) → AllWithin (length b) ws → AllApart k ws → get_or (put_cells ws b) k 0 ≡ get_or b k 0
put_out [] b k within out = refl
put_out (w ∷ ws) b k within out =
    let once = length-over-in w.target (cell_bytes w.cell) b within.0 in
    put_out ws (over w.target (cell_bytes w.cell) b) k (subst (λ (n : ℕ). AllWithin n ws) (sym once) within.1) out.1
    ∙ over_out w.target (cell_bytes w.cell) b k (omega (arith, within.0)) out.0

-- what stood in the cells before doesn't matter
pub put_same : (ws : List CellWrite) (b c : List ℕ) (k : ℕ) → length c ≡ length b → AllWithin (length b) ws → (AllApart k ws → get_or c k 0 ≡ get_or b k 0) → get_or (put_cells ws c) k 0 ≡ get_or (put_cells ws b) k 0
put_same [] b c k size within same = same tt
put_same (w ∷ ws) b c k size within same =
    let bytes = cell_bytes w.cell in
    let in_b = length-over-in w.target bytes b within.0 in
    let in_c = length-over-in w.target bytes c (omega (arith, within.0, size)) in
    put_same ws (over w.target bytes b) (over w.target bytes c) k (omega (arith, size, in_b, in_c)) (subst (λ (n : ℕ). AllWithin n ws) (sym in_b) within.1)
    (λ out. over_same w.target bytes b c k (omega (arith, within.0)) (omega (arith, within.0, size)) (λ here. same (here, out)))

-- the same for two lists of other lengths
pub put_same_in : (ws : List CellWrite) (b c : List ℕ) (k : ℕ) → AllWithin (length b) ws → AllWithin (length c) ws → (AllApart k ws → get_or c k 0 ≡ get_or b k 0) → get_or (put_cells ws c) k 0 ≡ get_or (put_cells ws b) k 0
put_same_in [] b c k in_b in_c same = same tt
put_same_in (w ∷ ws) b c k in_b in_c same =
    let bytes = cell_bytes w.cell in
    let size_b = length-over-in w.target bytes b in_b.0 in
    let size_c = length-over-in w.target bytes c in_c.0 in
    put_same_in ws (over w.target bytes b) (over w.target bytes c) k
    (subst (λ (n : ℕ). AllWithin n ws) (sym size_b) in_b.1) (subst (λ (n : ℕ). AllWithin n ws) (sym size_c) in_c.1)
    (λ out. over_same w.target bytes b c k (omega (arith, in_b.0)) (omega (arith, in_c.0)) (λ here. same (here, out)))

-- putting them in twice is putting them in
pub put_again : (ws : List CellWrite) (b : List ℕ) (k : ℕ) → AllWithin (length b) ws → get_or (put_cells ws (put_cells ws b)) k 0 ≡ get_or (put_cells ws b) k 0
put_again ws b k within = put_same ws b (put_cells ws b) k (length-put ws b within) within (λ out. put_out ws b k within out)

-- a place among bytes that no target touches
pub clear_of : (at n k : ℕ) (ws : List CellWrite) → AllClear at n ws → at ≤ k → k < at + n → AllApart k ws
clear_of at n k [] clear ge lt = tt
clear_of at n k (w ∷ ws) clear ge lt = (⊎_elim (λ below. inr (omega arith)) (λ above. inl (omega arith)) clear.0, clear_of at n k ws clear.1 ge lt)

pub slice_same : (at n : ℕ) (b c : List ℕ) → at + n ≤ length b → at + n ≤ length c → ((k : ℕ) → at ≤ k → k < at + n → get_or c k 0 ≡ get_or b k 0) → slice at n c ≡ slice at n b
slice_same at n b c in_b in_c same =
    ext_get_or 0 (slice at n c) (slice at n b) (omega (arith, length-take n (drop at c), length-take n (drop at b), length-drop at c, length-drop at b))
    (λ i lt.
    let under : i < n = omega (arith, length-take n (drop at c), length-drop at c, lt) in
    get_or-take n (drop at c) i 0 under ∙ get_or-drop at c i 0 ∙ same (at + i) (omega arith) (omega (arith, under))
    ∙ sym (get_or-take n (drop at b) i 0 under ∙ get_or-drop at b i 0))

-- the bytes that were written
pub slice_over : (at : ℕ) (bytes b : List ℕ) → at ≤ length b → slice at (length bytes) (over at bytes b) ≡ bytes
slice_over at bytes b le =
    ext_get_or 0 (slice at (length bytes) (over at bytes b)) bytes
    (omega (arith, length-take (length bytes) (drop at (over at bytes b)), length-drop at (over at bytes b), length-over at bytes b le))
    (λ i lt.
    let under : i < length bytes = omega (arith, length-take (length bytes) (drop at (over at bytes b)), length-drop at (over at bytes b), length-over at bytes b le, lt) in
    let here : at + i - at ≡ i = omega arith in
    get_or-take (length bytes) (drop at (over at bytes b)) i 0 under ∙ get_or-drop at (over at bytes b) i 0
    ∙ over_in at bytes b (at + i) le (omega arith) (omega (arith, under)) ∙ ap (λ (j : ℕ). get_or bytes j 0) here)

-- ---- zeros behind the end

pub length-padded : (at : ℕ) (b : List ℕ) → length (padded at b) ≡ max (length b) at
length-padded at b = omega (arith, length-append b (replicate (at - length b) 0), length-replicate {A = ℕ} (at - length b) 0)

zeros : (n k : ℕ) → ◌≡◌ {A = ℕ} (get_or (replicate n 0) k 0) 0
zeros n k = elim (cases_lt k n) [
  | inl lt ↦ get_or-replicate n k 0 0 lt
  | inr ge ↦ get_or_past (replicate n 0) k 0 (omega (arith, length-replicate {A = ℕ} n 0, ge))
]

-- no byte is other for it
pub padded_same : (at : ℕ) (b : List ℕ) (k : ℕ) → get_or (padded at b) k 0 ≡ get_or b k 0
padded_same at b k = elim (cases_lt k (length b)) [
  | inl lt ↦ get_or_append_left b (replicate (at - length b) 0) 0 k lt
  | inr ge ↦ get_or-append_right b (replicate (at - length b) 0) (length b) k 0 (omega arith) ge ∙ zeros (at - length b) (k - length b) ∙ sym (get_or_past b k 0 ge)
]

-- zeros from the end on and then the bytes are these bytes behind the zeros
module _ (at start : ℕ) (bytes b : List ℕ) (starts : start + (at - length b) ≡ at) where
  all : List ℕ
  all = replicate (at - length b) 0 ++ bytes

  in_file : start ≤ length b
  in_file = omega (arith, starts)

  size : length all ≡ (at - length b) + length bytes
  unfolding all
  size = omega (arith, length-append (replicate (at - length b) 0) bytes, length-replicate {A = ℕ} (at - length b) 0)

  within : (k : ℕ) → start ≤ k → k < start + length all → get_or all (k - start) 0 ≡ get_or (over at bytes (padded at b)) k 0
  unfolding all
  within k ge lt = elim (cases_lt k at) [
    | inl early ↦
        get_or_append_left (replicate (at - length b) 0) bytes 0 (k - start) (omega (arith, length-replicate {A = ℕ} (at - length b) 0, early, starts, ge))
        ∙ zeros (at - length b) (k - start)
        ∙ sym (get_or_past b k 0 (omega (arith, early, starts, ge)))
        ∙ sym (padded_same at b k)
        ∙ sym (over_out at bytes (padded at b) k (omega (arith, length-padded at b)) (inl early))
    | inr late ↦
        let here : k - start - (at - length b) ≡ k - at = omega (arith, starts, late, ge) in
        get_or-append_right (replicate (at - length b) 0) bytes (at - length b) (k - start) 0 (length-replicate {A = ℕ} (at - length b) 0) (omega (arith, starts, late))
        ∙ ap (λ (j : ℕ). get_or bytes j 0) here
        ∙ sym (over_in at bytes (padded at b) k (omega (arith, length-padded at b)) late (omega (arith, lt, size, starts)))
  ]

  same_at : (k : ℕ) → get_or (over start all b) k 0 ≡ get_or (over at bytes (padded at b)) k 0
  same_at k = elim (place_of k start (length all)) [
    | apart out ↦
        over_out start all b k in_file out ∙ sym (padded_same at b k)
        ∙ sym (over_out at bytes (padded at b) k (omega (arith, length-padded at b)) (⊎_elim (λ lt. inl (omega (arith, lt, starts))) (λ ge. inr (omega (arith, ge, size, starts))) out))
    | among ge lt ↦ over_in start all b k in_file ge lt ∙ within k ge lt
  ]

  pub over_padded : over start (replicate (at - length b) 0 ++ bytes) b ≡ over at bytes (padded at b)
  unfolding all
  over_padded =
      ext_get_or 0 (over start all b) (over at bytes (padded at b))
      (omega (arith, length-over start all b in_file, size, length-over at bytes (padded at b) (omega (arith, length-padded at b)), length-padded at b, starts))
      (λ k lt. same_at k)
