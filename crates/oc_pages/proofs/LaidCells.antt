-- Cells laid over a part of an image.
use Rattle.std.proofs.Common.{◌≡◌, ◌⊎◌, inl, inr, ℕ, zero, suc, ◌+◌, ◌-◌, ◌<◌, ◌≤◌, List, [], ◌∷◌, length, take, drop, get_or, sym, ◌∙◌, ap, subst, arith, length-take, length-drop, get_or-take}
use Rattle.std.proofs.lemmas.List.{take_more, take-append-drop, get_or-drop, ext_get_or}
use Rattle.oc_layout.specs.declared.cells.Cell.{Cell}
use Rattle.oc_layout.specs.declared.cells.CellWrite.{CellWrite}
use Rattle.oc_layout.specs.Layout.{cell_bytes}
use Rattle.oc_host.specs.Disk.{Apart, over}
use Rattle.oc_log.specs.Log.{slice, put_cells, AllWithin}
use Rattle.oc_log.proofs.Bytes.{length-over-in, over_out, over_in, place_of, apart, among, length-put, slice_same}
use Rattle.oc_log.proofs.Touches.{put_append, within_append}

-- a byte of a slice
pub byte_of : (at n : ℕ) (b : List ℕ) (i : ℕ) → i < n → get_or (slice at n b) i 0 ≡ get_or b (at + i) 0
byte_of at n b i lt = get_or-take n (drop at b) i 0 lt ∙ get_or-drop at b i 0

pub length-slice : (at n : ℕ) (b : List ℕ) → at + n ≤ length b → length (slice at n b) ≡ n
length-slice at n b le = omega (arith, length-take n (drop at b), length-drop at b, le)

-- ---- one cell

module _ (at n t : ℕ) (cell : Cell) (image bytes : List ℕ) (within : t + 8 ≤ length image) (inside : at + n ≤ length image) (is : bytes ≡ slice at n image) where
  other : List ℕ
  other = over t (cell_bytes cell) image

  long : length other ≡ length image
  unfolding other
  long = length-over-in t (cell_bytes cell) image (omega (arith, within))

  -- none of its bytes is there
  pub laid_out : ((k : ℕ) → at ≤ k → k < at + n → Apart k t 8) → bytes ≡ slice at n (over t (cell_bytes cell) image)
  unfolding other
  laid_out out =
      is ∙ sym (slice_same at n image other inside (omega (arith, inside, long))
      (λ k ge lt. over_out t (cell_bytes cell) image k (omega (arith, within)) (out k ge lt)))

  -- its bytes between two of them are there, and no others
  pub laid_in : (place from to : ℕ) (piece : List ℕ) → piece ≡ slice from (to - from) (cell_bytes cell) → from < to → to ≤ 8 → at + place ≡ t + from → place + (to - from) ≤ n
      → ((k : ℕ) → at ≤ k → k < at + n → (k < t + from) ⊎ (t + to ≤ k) → Apart k t 8) → over place piece bytes ≡ slice at n (over t (cell_bytes cell) image)
  unfolding other
  laid_in place from to piece piece_is some few starts ends out =
      ext_get_or 0 (over place piece bytes) (slice at n other)
      (omega (arith, length-over-in place piece bytes fits, size, length-slice at n other (omega (arith, inside, long))))
      (λ i lt. at_byte i (omega (arith, lt, length-over-in place piece bytes fits, size)))
    where
      size : length bytes ≡ n
      size = ap length is ∙ length-slice at n image inside

      long_piece : length piece ≡ to - from
      long_piece = ap length piece_is ∙ length-slice from (to - from) (cell_bytes cell) (omega (arith, some, few))

      fits : place + length piece ≤ length bytes
      fits = omega (arith, long_piece, ends, size)

      at_byte : (i : ℕ) → i < n → get_or (over place piece bytes) i 0 ≡ get_or (slice at n other) i 0
      at_byte i lt = elim (place_of i place (length piece)) [
        | apart away ↦
            over_out place piece bytes i (omega (arith, fits)) away
            ∙ ap (λ (l : List ℕ). get_or l i 0) is ∙ byte_of at n image i lt
            ∙ sym (over_out t (cell_bytes cell) image (at + i) (omega (arith, within)) (out (at + i) (omega arith) (omega (arith, lt)) (beside away)))
            ∙ sym (byte_of at n other i lt)
        | among ge below ↦
            let here : from + (i - place) ≡ at + i - t = omega (arith, starts, ge) in
            over_in place piece bytes i (omega (arith, fits)) ge below
            ∙ ap (λ (l : List ℕ). get_or l (i - place) 0) piece_is
            ∙ byte_of from (to - from) (cell_bytes cell) (i - place) (omega (arith, ge, below, long_piece))
            ∙ ap (λ (j : ℕ). get_or (cell_bytes cell) j 0) here
            ∙ sym (over_in t (cell_bytes cell) image (at + i) (omega (arith, within)) (omega (arith, starts, ge)) (omega (arith, starts, ge, below, long_piece, few, some)))
            ∙ sym (byte_of at n other i lt)
      ]
        where
          beside : Apart i place (length piece) → (at + i < t + from) ⊎ (t + to ≤ at + i)
          beside (inl before) = inl (omega (arith, before, starts))
          beside (inr after) = inr (omega (arith, after, starts, long_piece, some))

-- ---- one cell more

pub within_at : (len : ℕ) (ws : List CellWrite) (k : ℕ) (d : CellWrite) → AllWithin len ws → k < length ws → (get_or ws k d).target + 8 ≤ len
within_at len [] k d all lt = absurd (omega (arith, lt))
within_at len (w ∷ ws) zero d all lt = all.0
within_at len (w ∷ ws) (suc k) d all lt = within_at len ws k d all.1 (omega (arith, lt))

pub within_first : (len : ℕ) (ws : List CellWrite) (k : ℕ) → AllWithin len ws → AllWithin len (take k ws)
within_first len ws k all = (within_append len (take k ws) (drop k ws) (subst (λ (l : List CellWrite). AllWithin len l) (sym (take-append-drop k ws)) all)).0

pub length-first : (ws : List CellWrite) (k : ℕ) (image : List ℕ) → AllWithin (length image) ws → length (put_cells (take k ws) image) ≡ length image
length-first ws k image all = length-put (take k ws) image (within_first (length image) ws k all)

pub put_more : (ws : List CellWrite) (k : ℕ) (d : CellWrite) (image : List ℕ) → k < length ws
    → over (get_or ws k d).target (cell_bytes (get_or ws k d).cell) (put_cells (take k ws) image) ≡ put_cells (take (k + 1) ws) image
put_more ws k d image lt =
    sym (ap (λ (l : List CellWrite). put_cells l image) (take_more ws k d lt) ∙ put_append (take k ws) (get_or ws k d ∷ []) image)
