-- Cells that stand one behind another are written at once.
use Rattle.std.proofs.Common.{◌≡◌, inl, inr, ⊎_elim, ℕ, ◌+◌, ◌-◌, ◌*◌, ◌<◌, ◌≤◌, List, [], ◌∷◌, ◌++◌, length, take, drop, get_or, refl, sym, ◌∙◌, ap, subst, arith, append_assoc, length-append}
use Rattle.std.proofs.lemmas.List.{append-nil, length-take, take_more, take-append-drop, get_or_append_left, get_or-append_right, ext_get_or, take-append-le, take_all, drop-append-le, drop_all}
use Rattle.std.proofs.lemmas.Bool.{cases_lt}
use Rattle.oc_layout.specs.declared.cells.CellWrite.{CellWrite}
use Rattle.oc_layout.specs.Layout.{cell_bytes}
use Rattle.oc_host.specs.Disk.{Apart, over}
use Rattle.oc_log.specs.Log.{put_cells, AllApart, AllWithin}
use Rattle.oc_log.specs.Runs.{cells_bytes, first_target, Touch}
use Rattle.oc_log.proofs.Bytes.{length-over, over_in, over_out, place_of, apart, among}

pub length-cells : (ws : List CellWrite) → length (cells_bytes ws) ≡ 8 * length ws
length-cells [] = omega arith
length-cells (w ∷ ws) = omega (arith, length-append (cell_bytes w.cell) (cells_bytes ws), length-cells ws)

-- ---- lists in two parts

pub cells_append : (vs ws : List CellWrite) → cells_bytes (vs ++ ws) ≡ cells_bytes vs ++ cells_bytes ws
cells_append [] ws = refl
cells_append (v ∷ vs) ws = ap (λ (l : List ℕ). cell_bytes v.cell ++ l) (cells_append vs ws) ∙ sym (append_assoc (cell_bytes v.cell) (cells_bytes vs) (cells_bytes ws))

pub put_append : (vs ws : List CellWrite) (b : List ℕ) → put_cells (vs ++ ws) b ≡ put_cells ws (put_cells vs b)
put_append [] ws b = refl
put_append (v ∷ vs) ws b = put_append vs ws (over v.target (cell_bytes v.cell) b)

pub within_append : (len : ℕ) (vs ws : List CellWrite) → AllWithin len (vs ++ ws) → AllWithin len vs × AllWithin len ws
within_append len [] ws all = (tt, all)
within_append len (v ∷ vs) ws all = let rest = within_append len vs ws all.1 in ((all.0, rest.0), rest.1)

pub apart_append : (k : ℕ) (vs ws : List CellWrite) → AllApart k (vs ++ ws) → AllApart k vs × AllApart k ws
apart_append k [] ws all = (tt, all)
apart_append k (v ∷ vs) ws all = let rest = apart_append k vs ws all.1 in ((all.0, rest.0), rest.1)

-- ---- one write of two parts

module _ (at : ℕ) (x y b : List ℕ) (inside : at + length x ≤ length b) where
  once : length (over at x b) ≡ length b
  once = omega (arith, length-over at x b (omega (arith, inside)), inside)

  both : length (x ++ y) ≡ length x + length y
  both = length-append x y

  join_at : (k : ℕ) → get_or (over (at + length x) y (over at x b)) k 0 ≡ get_or (over at (x ++ y) b) k 0
  join_at k = elim (place_of k at (length (x ++ y))) [
    | apart out ↦
        over_out (at + length x) y (over at x b) k (omega (arith, once, inside)) (⊎_elim (λ lt. inl (omega (arith, lt))) (λ ge. inr (omega (arith, ge, both))) out)
        ∙ over_out at x b k (omega (arith, inside)) (⊎_elim (λ lt. inl lt) (λ ge. inr (omega (arith, ge, both))) out)
        ∙ sym (over_out at (x ++ y) b k (omega (arith, inside)) out)
    | among ge lt ↦ elim (cases_lt k (at + length x)) [
      | inl first ↦
          over_out (at + length x) y (over at x b) k (omega (arith, once, inside)) (inl first)
          ∙ over_in at x b k (omega (arith, inside)) ge first
          ∙ sym (get_or_append_left x y 0 (k - at) (omega (arith, ge, first)))
          ∙ sym (over_in at (x ++ y) b k (omega (arith, inside)) ge lt)
      | inr second ↦
          let here : k - (at + length x) ≡ k - at - length x = omega (arith, ge, second) in
          over_in (at + length x) y (over at x b) k (omega (arith, once, inside)) second (omega (arith, lt, both))
          ∙ ap (λ (j : ℕ). get_or y j 0) here
          ∙ sym (get_or-append_right x y (length x) (k - at) 0 (omega arith) (omega (arith, ge, second)))
          ∙ sym (over_in at (x ++ y) b k (omega (arith, inside)) ge lt)
    ]
  ]

  over_join : over (at + length x) y (over at x b) ≡ over at (x ++ y) b
  over_join =
      ext_get_or 0 (over (at + length x) y (over at x b)) (over at (x ++ y) b)
      (omega (arith, length-over (at + length x) y (over at x b) (omega (arith, once, inside)), once, length-over at (x ++ y) b (omega (arith, inside)), both, inside))
      (λ k lt. join_at k)

-- ---- a run of cells

pub touch_put : (ws : List CellWrite) (at : ℕ) (b : List ℕ) → Touch at ws → at + 8 * length ws ≤ length b → over at (cells_bytes ws) b ≡ put_cells ws b
touch_put [] at b touch le =
    let here : at + length (cells_bytes []) ≡ at = omega arith in
    ap (λ (n : ℕ). take at b ++ [] ++ drop n b) here ∙ ap (λ (l : List ℕ). l ++ drop at b) (append-nil (take at b)) ∙ take-append-drop at b
touch_put (w ∷ ws) at b touch le =
    let bytes = cell_bytes w.cell in
    sym (over_join at bytes (cells_bytes ws) b (omega (arith, le)))
    ∙ touch_put ws (at + 8) (over at bytes b) touch.1 (omega (arith, le, length-over at bytes b (omega (arith, le))))
    ∙ ap (λ (n : ℕ). put_cells ws (over n bytes b)) (sym touch.0)

pub touch_apart : (ws : List CellWrite) (at k : ℕ) → Touch at ws → AllApart k ws → Apart k at (8 * length ws)
touch_apart [] at k touch all = elim (cases_lt k at) [ inl lt ↦ inl lt | inr ge ↦ inr (omega (arith, ge)) ]
touch_apart (w ∷ ws) at k touch all =
    let first : Apart k at 8 = subst (λ (n : ℕ). Apart k n 8) touch.0 all.0 in
    let rest : Apart k (at + 8) (8 * length ws) = touch_apart ws (at + 8) k touch.1 all.1 in
    ⊎_elim (λ lt. inl lt) (λ ge. ⊎_elim (λ lt. absurd (omega (arith, lt, ge))) (λ far. inr (omega (arith, far))) rest) first

pub touch_within : (ws : List CellWrite) (at len : ℕ) → Touch at ws → AllWithin len ws → 0 < length ws → at + 8 * length ws ≤ len
touch_within [] at len touch all some = absurd (omega (arith, some))
touch_within (w ∷ []) at len touch all some = omega (arith, touch.0, all.0)
touch_within (w ∷ v ∷ vs) at len touch all some = omega (arith, touch_within (v ∷ vs) (at + 8) len touch.1 all.1 (omega arith))

-- one cell more
pub touch_more : (ws : List CellWrite) (w : CellWrite) (at : ℕ) → Touch at ws → w.target ≡ at + 8 * length ws → Touch at (ws ++ w ∷ [])
touch_more [] w at touch is = (omega (arith, is), tt)
touch_more (v ∷ vs) w at touch is = (touch.0, touch_more vs w (at + 8) touch.1 (omega (arith, is)))

unfoldable pub none : CellWrite
none = record { target = 0; cell = record { at = 0; len = 0 } }

-- the first cell
pub touch_first : (ws : List CellWrite) (at : ℕ) → 0 < length ws → first_target ws ≡ at → Touch at (take 1 ws)
touch_first [] at some is = absurd (omega (arith, some))
touch_first (w ∷ ws) at some is = (is, tt)

pub last_first : (ws : List CellWrite) (at : ℕ) → 0 < length ws → first_target ws ≡ at → (get_or ws 0 none).target ≡ at
last_first [] at some is = absurd (omega (arith, some))
last_first (w ∷ ws) at some is = is

-- the next cell
pub touch_next : (ws : List CellWrite) (at n : ℕ) → n < length ws → Touch at (take n ws) → (get_or ws n none).target ≡ at + 8 * n → Touch at (take (n + 1) ws)
touch_next ws at n lt touch is =
    subst (λ (l : List CellWrite). Touch at l) (sym (take_more ws n none lt))
    (touch_more (take n ws) (get_or ws n none) at touch (omega (arith, is, length-take n ws, lt)))

-- the bytes of the first n cells, and of the others
pub cells_split : (n : ℕ) (ws : List CellWrite) (b : List ℕ) → b ≡ cells_bytes ws → n ≤ length ws → (take (8 * n) b ≡ cells_bytes (take n ws)) × (drop (8 * n) b ≡ cells_bytes (drop n ws))
cells_split n ws b is le =
    let x = cells_bytes (take n ws) in
    let y = cells_bytes (drop n ws) in
    let size : length x ≡ 8 * n = omega (arith, length-cells (take n ws), length-take n ws, le) in
    let parts : b ≡ x ++ y = is ∙ sym (ap cells_bytes (take-append-drop n ws)) ∙ cells_append (take n ws) (drop n ws) in (
      ap (λ (l : List ℕ). take (8 * n) l) parts ∙ take-append-le (8 * n) x y (omega (arith, size)) ∙ take_all (8 * n) x (omega (arith, size)),
      ap (λ (l : List ℕ). drop (8 * n) l) parts ∙ drop-append-le (8 * n) x y (omega (arith, size)) ∙ ap (λ (l : List ℕ). l ++ y) (drop_all (8 * n) x (omega (arith, size))),
    )

pub cells_fit : (n : ℕ) (ws : List CellWrite) (b : List ℕ) → b ≡ cells_bytes ws → n ≤ length ws → 8 * n ≤ length b
cells_fit n ws b is le = omega (arith, ap length is, length-cells ws, le)
