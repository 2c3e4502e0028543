-- The bytes of a page in an image that changes.
use Rattle.std.proofs.Common.{◌≡◌, ◌⊎◌, inl, inr, ⊎_elim, ℕ, zero, suc, ◌+◌, ◌-◌, ◌*◌, ◌<◌, ◌≤◌, ◌^◌, List, [], ◌∷◌, ◌++◌, length, drop, get_or, set, refl, sym, ◌∙◌, ap, subst, arith, append-nil}
use Rattle.std.specs.Prelude.{All, flat_map}
use Rattle.std.specs.Int.{w32, to_be_bytes, from_be_bytes}
use Rattle.std.proofs.lemmas.Bool.{cases_lt, cases_eq}
use Rattle.std.proofs.lemmas.List.{get_or-drop, get_or-set_same, get_or-set_other, length-set, ext_get_or}
use Rattle.std.proofs.lemmas.List.Elements.{All-head, All-tail}
use Rattle.oc_host.specs.Disk.{over}
use Rattle.oc_layout.specs.declared.cells.Cell.{Cell}
use Rattle.oc_layout.specs.declared.cells.Space.{Space}
use Rattle.oc_layout.specs.declared.cells.Space.TheVariants.{Objects, System}
use Rattle.oc_layout.specs.Layout.{cell_bytes, first_cell, FitsCell}
use Rattle.oc_layout.proofs.Spelled.{number_again, cell_again}
use Rattle.oc_log.proofs.Bytes.{over_out, over_in, slice_same}
use Rattle.oc_pages.specs.declared.page.Page.{Page}
use Rattle.oc_pages.specs.Pages.{no_cell, space_number}
use Rattle.oc_pages.specs.Chains.{cells_from, page_at, ReadsAs, SpellsPage, IsKept}
use Rattle.oc_pages.proofs.LaidCells.{byte_of}

-- ---- a page that is spelled is read again

cells_again : (n : ℕ) (cells : List Cell) → length cells ≡ n → All FitsCell cells → cells_from n (flat_map cell_bytes cells) ≡ cells
unfolding cells_from
cells_again zero [] e fits = refl
cells_again zero (c ∷ cs) e fits = absurd (omega (arith, e))
cells_again (suc n) [] e fits = absurd (omega (arith, e))
cells_again (suc n) (c ∷ cs) e fits = λ i. cell_again c (flat_map cell_bytes cs) (All-head FitsCell c cs fits) i ∷ cells_again n cs (omega (arith, e)) (All-tail FitsCell c cs fits) i

space_few : (space : Space) → space_number space < 2 ^ 32
space_few Objects = omega arith
space_few System = omega arith

pub page_again : (p : Page) (b : List ℕ) → SpellsPage p b → ReadsAs p b
page_again p b spells = subst (ReadsAs p) (sym spells.bytes) (record {
  link = sym (cell_again p.link (to_be_bytes w32 (space_number p.space) ++ (to_be_bytes w32 p.index ++ flat_map cell_bytes p.cells)) spells.fits.link);
  space = sym (number_again (space_number p.space) (to_be_bytes w32 p.index ++ flat_map cell_bytes p.cells) (space_few p.space));
  index = sym (number_again p.index (flat_map cell_bytes p.cells) spells.fits.index);
  cells = sym (cells_again 126 p.cells spells.fits.size spells.fits.cells);
})

-- ---- a page whose bytes stay

pub page_kept : (unit : ℕ) (image other : List ℕ) (p : Page) → p.at * unit + 1024 ≤ length image → IsKept unit image other p → page_at unit other p.at ≡ page_at unit image p.at
page_kept unit image other p inside kept = slice_same (p.at * unit) 1024 image other inside kept.inside kept.same

-- ---- what is read from bytes that agree

pub numbers_same : (b c : List ℕ) → ((k : ℕ) → k < 4 → get_or c k 0 ≡ get_or b k 0) → from_be_bytes w32 c ≡ from_be_bytes w32 b
numbers_same b c same = omega (arith, same 0 (omega arith), same 1 (omega arith), same 2 (omega arith), same 3 (omega arith))

pub behind : (n : ℕ) (b c : List ℕ) (k : ℕ) → get_or c (n + k) 0 ≡ get_or b (n + k) 0 → get_or (drop n c) k 0 ≡ get_or (drop n b) k 0
behind n b c k same = get_or-drop n c k 0 ∙ same ∙ sym (get_or-drop n b k 0)

pub first_same : (b c : List ℕ) → ((k : ℕ) → k < 8 → get_or c k 0 ≡ get_or b k 0) → first_cell c ≡ first_cell b
first_same b c same i = record {
  at = numbers_same b c (λ k lt. same k (omega (arith, lt))) i;
  len = numbers_same (drop 4 b) (drop 4 c) (λ k lt. behind 4 b c k (same (4 + k) (omega (arith, lt)))) i;
}

pub length-cells : (n : ℕ) (b : List ℕ) → length (cells_from n b) ≡ n
unfolding cells_from
length-cells zero b = refl
length-cells (suc n) b = ap suc (length-cells n (drop 8 b))

-- the cell at a place, by its bytes
cell_there : (n : ℕ) (b : List ℕ) (i : ℕ) (c : List ℕ) → i < n → ((k : ℕ) → k < 8 → get_or b (8 * i + k) 0 ≡ get_or c k 0) → get_or (cells_from n b) i no_cell ≡ first_cell c
unfolding cells_from
cell_there zero b i c lt same = absurd (omega (arith, lt))
cell_there (suc n) b zero c lt same = first_same c b (λ k less. let there : k ≡ 8 * 0 + k = omega arith in ap (λ (j : ℕ). get_or b j 0) there ∙ same k less)
cell_there (suc n) b (suc i) c lt same =
    cell_there n (drop 8 b) i c (omega (arith, lt))
    (λ k in_.
    let there : 8 * suc i + k ≡ 8 + (8 * i + k) = omega arith in
    get_or-drop 8 b (8 * i + k) 0 ∙ ap (λ (j : ℕ). get_or b j 0) (sym there) ∙ same k in_)

-- ---- a page of which one cell changes

module _ (p : Page) (b c : List ℕ) (slot : ℕ) (cell : Cell) (reads : ReadsAs p b) (lt : slot < 126) (fits : FitsCell cell)
    (out : (k : ℕ) → k < 1024 → (k < 16 + 8 * slot) ⊎ (16 + 8 * slot + 8 ≤ k) → get_or c k 0 ≡ get_or b k 0)
    (in_ : (k : ℕ) → k < 8 → get_or c (16 + 8 * slot + k) 0 ≡ get_or (cell_bytes cell) k 0) where
  each : (i : ℕ) → i < 126 → get_or (set p.cells slot cell) i no_cell ≡ get_or (cells_from 126 (drop 16 c)) i no_cell
  each i below = elim (cases_eq i slot) [
    | inl same ↦
        let here : 16 + (8 * i + 0) ≡ 16 + 8 * slot + 0 = omega (arith, same) in
        ap (λ (j : ℕ). get_or (set p.cells slot cell) j no_cell) same
        ∙ get_or-set_same p.cells slot cell no_cell (omega (arith, lt, ap length reads.cells, length-cells 126 (drop 16 b)))
        ∙ sym (cell_again cell [] fits) ∙ ap first_cell (append-nil (cell_bytes cell))
        ∙ sym (cell_there 126 (drop 16 c) i (cell_bytes cell) below
        (λ k less.
        let there : 16 + (8 * i + k) ≡ 16 + 8 * slot + k = omega (arith, same) in
        get_or-drop 16 c (8 * i + k) 0 ∙ ap (λ (j : ℕ). get_or c j 0) there ∙ in_ k less))
    | inr apart ↦
        get_or-set_other p.cells slot i cell no_cell apart
        ∙ ap (λ (l : List Cell). get_or l i no_cell) reads.cells
        ∙ cell_there 126 (drop 16 b) i (drop (16 + 8 * i) c) below
        (λ k less.
        let there : 16 + (8 * i + k) ≡ 16 + 8 * i + k = omega arith in
        let away : (16 + 8 * i + k < 16 + 8 * slot) ⊎ (16 + 8 * slot + 8 ≤ 16 + 8 * i + k) = elim (cases_lt i slot) [
          | inl before ↦ inl (omega (arith, before, less))
          | inr after ↦ inr (omega (arith, after, apart))
        ] in
        get_or-drop 16 b (8 * i + k) 0 ∙ ap (λ (j : ℕ). get_or b j 0) there
        ∙ sym (out (16 + 8 * i + k) (omega (arith, below, less)) away)
        ∙ sym (get_or-drop (16 + 8 * i) c k 0))
        ∙ sym (cell_there 126 (drop 16 c) i (drop (16 + 8 * i) c) below
        (λ k less.
        let there : 16 + (8 * i + k) ≡ 16 + 8 * i + k = omega arith in
        get_or-drop 16 c (8 * i + k) 0 ∙ ap (λ (j : ℕ). get_or c j 0) there ∙ sym (get_or-drop (16 + 8 * i) c k 0)))
  ]

  pub reads_changed : ReadsAs (record p { cells = set p.cells slot cell }) c
  reads_changed = record {
    link = reads.link ∙ sym (first_same b c (λ k less. out k (omega (arith, less)) (inl (omega (arith, less)))));
    space = reads.space ∙ sym (numbers_same (drop 8 b) (drop 8 c) (λ k less. behind 8 b c k (out (8 + k) (omega (arith, less)) (inl (omega (arith, less))))));
    index = reads.index ∙ sym (numbers_same (drop 12 b) (drop 12 c) (λ k less. behind 12 b c k (out (12 + k) (omega (arith, less)) (inl (omega (arith, less))))));
    cells =
        let size = length-set p.cells slot cell in
        let long : length (set p.cells slot cell) ≡ 126 = omega (arith, size, ap length reads.cells, length-cells 126 (drop 16 b)) in
        ext_get_or no_cell (set p.cells slot cell) (cells_from 126 (drop 16 c)) (omega (arith, long, length-cells 126 (drop 16 c))) (λ i below. each i (omega (arith, below, long)));
  }

-- the page is read with the cell that was written over its bytes
pub page_written : (unit : ℕ) (image : List ℕ) (p : Page) (slot : ℕ) (cell : Cell) → ReadsAs p (page_at unit image p.at) → p.at * unit + 1024 ≤ length image → slot < 126 → FitsCell cell
    → ReadsAs (record p { cells = set p.cells slot cell }) (page_at unit (over (p.at * unit + 16 + 8 * slot) (cell_bytes cell) image) p.at)
page_written unit image p slot cell reads inside lt fits =
    let at = p.at * unit in
    let target = at + 16 + 8 * slot in
    let other = over target (cell_bytes cell) image in
    let starts : target ≤ length image = omega (arith, inside, lt) in
    reads_changed p (page_at unit image p.at) (page_at unit other p.at) slot cell reads lt fits
    (λ k below away.
    let apart : (at + k < target) ⊎ (target + 8 ≤ at + k) = ⊎_elim (λ before. inl (omega (arith, before))) (λ after. inr (omega (arith, after))) away in
    byte_of at 1024 other k below ∙ over_out target (cell_bytes cell) image (at + k) starts apart ∙ sym (byte_of at 1024 image k below))
    (λ k less.
    let there : at + (16 + 8 * slot + k) ≡ target + k = omega arith in
    let here : target + k - target ≡ k = omega arith in
    byte_of at 1024 other (16 + 8 * slot + k) (omega (arith, lt, less)) ∙ ap (λ (j : ℕ). get_or other j 0) there
    ∙ over_in target (cell_bytes cell) image (target + k) starts (omega arith) (omega (arith, less)) ∙ ap (λ (j : ℕ). get_or (cell_bytes cell) j 0) here)
