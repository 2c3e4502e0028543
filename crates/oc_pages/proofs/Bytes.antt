-- The cells of a page in its bytes.
use Rattle.std.proofs.Common.{◌≡◌, ℕ, suc, ◌+◌, ◌-◌, ◌*◌, ◌<◌, ◌≤◌, List, [], ◌∷◌, ◌++◌, length, drop, take, get_or, set, sym, ◌∙◌, ap, arith, append_assoc, append-nil, length-append, length-take}
use Rattle.std.specs.Prelude.{flat_map}
use Rattle.std.specs.Int.{w32, to_be_bytes}
use Rattle.std.proofs.lemmas.Grind.{flat_map-append}
use Rattle.std.proofs.lemmas.List.{take_more_set, take_more, take_all, take-append-le}
use Rattle.oc_host.specs.Disk.{over}
use Rattle.oc_layout.specs.declared.cells.Cell.{Cell}
use Rattle.oc_layout.specs.Layout.{cell_bytes, first_cell}
use Rattle.oc_pages.specs.declared.page.Page.{Page}
use Rattle.oc_pages.specs.Pages.{space_number, no_cell}
use Rattle.oc_pages.specs.Chains.{cells_from, page_bytes}

-- the first of some cells
pub cells_step : (n m : ℕ) (b : List ℕ) → n ≡ suc m → cells_from n b ≡ first_cell b ∷ cells_from m (drop 8 b)
unfolding cells_from
cells_step n m b e = ap (λ (k : ℕ). cells_from k b) e

pub cells_none : (n : ℕ) (b : List ℕ) → n ≡ 0 → cells_from n b ≡ []
unfolding cells_from
cells_none n b e = ap (λ (k : ℕ). cells_from k b) e

-- one cell more is read
pub read_more : (cells : List Cell) (k : ℕ) (rest after : List ℕ) (cell : Cell) (target : List Cell) → k < 126 → length cells ≡ 126 → cell ≡ first_cell rest → after ≡ drop 8 rest
    → take k cells ++ cells_from (126 - k) rest ≡ target → take (k + 1) (set cells k cell) ++ cells_from (126 - (k + 1)) after ≡ target
read_more cells k rest after cell target lt size is behind was =
    let one_less : 126 - k ≡ suc (126 - (k + 1)) = omega (arith, lt) in
    (λ i. take_more_set cells k cell (omega (arith, lt, size)) i ++ cells_from (126 - (k + 1)) (behind i))
    ∙ append_assoc (take k cells) (cell ∷ []) (cells_from (126 - (k + 1)) (drop 8 rest))
    ∙ (λ i. take k cells ++ (is i ∷ cells_from (126 - (k + 1)) (drop 8 rest)))
    ∙ ap (λ (l : List Cell). take k cells ++ l) (sym (cells_step (126 - k) (126 - (k + 1)) rest one_less))
    ∙ was

-- all are read
pub read_all : (cells : List Cell) (k : ℕ) (rest : List ℕ) (target : List Cell) → 126 ≤ k → length cells ≡ 126
    → take k cells ++ cells_from (126 - k) rest ≡ target → cells ≡ target
read_all cells k rest target le size was =
    let none : 126 - k ≡ 0 = omega (arith, le) in
    sym (append-nil cells)
    ∙ (λ i. sym (take_all k cells (omega (arith, le, size))) i ++ sym (cells_none (126 - k) rest none) i)
    ∙ was

-- bytes that were put in, and those before them
pub take-over : (at : ℕ) (bytes b : List ℕ) → at ≤ length b → take (at + length bytes) (over at bytes b) ≡ take at b ++ bytes
take-over at bytes b le =
    let size : length (take at b ++ bytes) ≡ at + length bytes = omega (arith, length-append (take at b) bytes, length-take at b, le) in
    take-append-le (at + length bytes) (take at b ++ bytes) (drop (at + length bytes) b) (omega (arith, size))
    ∙ take_all (at + length bytes) (take at b ++ bytes) (omega (arith, size))

-- the bytes before the cells of the numbers
abbrev pub head_bytes : Page → List ℕ
head_bytes p = cell_bytes p.link ++ (to_be_bytes w32 (space_number p.space) ++ to_be_bytes w32 p.index)

pub head_written : (p : Page) (b c d : List ℕ) → 1024 ≤ length b → c ≡ over 0 (cell_bytes p.link) b → length c ≡ 1024
    → d ≡ over 8 (cell_bytes (record { at = space_number p.space; len = p.index })) c → take 16 d ≡ head_bytes p ++ flat_map cell_bytes (take 0 p.cells)
head_written p b c d size is_c in_c is_d =
    let front : take 8 c ≡ cell_bytes p.link = ap (take 8) is_c ∙ take-over 0 (cell_bytes p.link) b (omega (arith, size)) in
    ap (take 16) is_d ∙ take-over 8 (cell_bytes (record { at = space_number p.space; len = p.index })) c (omega (arith, in_c))
    ∙ (λ i. front i ++ cell_bytes (record { at = space_number p.space; len = p.index }))

pub written_more : (p : Page) (k : ℕ) (b c : List ℕ) (cell : Cell) → k < 126 → length p.cells ≡ 126 → length b ≡ 1024 → cell ≡ get_or p.cells k no_cell
    → c ≡ over (16 + 8 * k) (cell_bytes cell) b → take (16 + 8 * k) b ≡ head_bytes p ++ flat_map cell_bytes (take k p.cells)
    → take (16 + 8 * (k + 1)) c ≡ head_bytes p ++ flat_map cell_bytes (take (k + 1) p.cells)
written_more p k b c cell lt size in_b is is_c was =
    let next : 16 + 8 * (k + 1) ≡ 16 + 8 * k + 8 = omega arith in
    (λ i. take (next i) (is_c i))
    ∙ take-over (16 + 8 * k) (cell_bytes cell) b (omega (arith, in_b, lt))
    ∙ (λ i. was i ++ cell_bytes (is i))
    ∙ append_assoc (head_bytes p) (flat_map cell_bytes (take k p.cells)) (cell_bytes (get_or p.cells k no_cell))
    ∙ ap (λ (l : List ℕ). head_bytes p ++ (flat_map cell_bytes (take k p.cells) ++ l)) (sym (append-nil (cell_bytes (get_or p.cells k no_cell))))
    ∙ ap (λ (l : List ℕ). head_bytes p ++ l) (sym (flat_map-append cell_bytes (take k p.cells) (get_or p.cells k no_cell ∷ [])))
    ∙ ap (λ (l : List Cell). head_bytes p ++ flat_map cell_bytes l) (sym (take_more p.cells k no_cell (omega (arith, lt, size))))

pub written_all : (p : Page) (k : ℕ) (b : List ℕ) → 126 ≤ k → k ≤ 126 → length p.cells ≡ 126 → length b ≡ 1024
    → take (16 + 8 * k) b ≡ head_bytes p ++ flat_map cell_bytes (take k p.cells) → b ≡ page_bytes p
written_all p k b ge le size in_b was =
    sym (take_all (16 + 8 * k) b (omega (arith, in_b, ge)))
    ∙ was
    ∙ ap (λ (l : List Cell). head_bytes p ++ flat_map cell_bytes l) (take_all k p.cells (omega (arith, size, ge)))
