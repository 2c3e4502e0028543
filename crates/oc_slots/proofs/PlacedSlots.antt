-- Changes and the slots that they are placed as.
use Rattle.std.proofs.Common.{◌≡◌, ◌∙◌, ℕ, suc, ◌+◌, ◌<◌, ◌≤◌, get_or, append-nil, List, [], ◌∷◌, ◌++◌, length, map, take, Option, Some, None, sym, ap, refl, arith, length-append}
use Rattle.std.proofs.Math.Seq.{take-append_seam}
use Rattle.std.proofs.lemmas.Grind.{flat_map-append}
use Rattle.std.proofs.lemmas.List.{map-append, append_assoc, take_more, take_all, length-map}
use Rattle.std.specs.Prelude.{All}
use Rattle.std.proofs.lemmas.List.Elements.{All-cons}
use Rattle.oc_layout.specs.declared.cells.Cell.{Cell}
use Rattle.oc_slots.specs.declared.slot.SlotChange.{SlotChange}
use Rattle.oc_slots.specs.declared.placed.Slot.{Slot}
use Rattle.oc_slots.specs.declared.placed.PlacedChange.{PlacedChange}
use Rattle.oc_slots.specs.Slots.{slot_list, slots_of, cells_of, change_of, length_list, lengths_of}

-- as many slots are placed as the changes bring
pub as_many : (ps : List PlacedChange) → length (cells_of ps) ≡ length (lengths_of (map change_of ps))
as_many [] = refl
as_many (p ∷ ps) = one p.slot refl (as_many ps)
  where
    one : (o : Option Slot) → p.slot ≡ o → length (cells_of ps) ≡ length (lengths_of (map change_of ps)) → length (cells_of (p ∷ ps)) ≡ length (lengths_of (map change_of (p ∷ ps)))
    one None e rest = rw e rest
    one (Some s) e rest = rw e (ap {B = ℕ} (λ n. suc n) rest)

pub cells_append : (ps qs : List PlacedChange) → cells_of (ps ++ qs) ≡ cells_of ps ++ cells_of qs
cells_append ps qs = ap (map (λ (s : Slot). s.cell)) (flat_map-append (λ (p : PlacedChange). slot_list p.slot) ps qs) ∙ map-append (λ (s : Slot). s.cell) (slots_of ps) (slots_of qs)

pub lengths_append : (cs ds : List SlotChange) → lengths_of (cs ++ ds) ≡ lengths_of cs ++ lengths_of ds
lengths_append cs ds = flat_map-append (λ (c : SlotChange). length_list c.bytes) cs ds

-- the next change finds a cell as long as the cells are enough for all
pub next_has : (cells rest : List Cell) (done later : List SlotChange) (c : SlotChange) (ps : List PlacedChange) → map change_of ps ≡ done → cells_of ps ++ rest ≡ cells
    → length (lengths_of (done ++ c ∷ later)) ≤ length cells → length (length_list c.bytes) ≤ length rest
next_has cells rest done later c ps are joined le =
    let count : length (cells_of ps) ≡ length (lengths_of done) = as_many ps ∙ ap (λ l. length (lengths_of l)) are in
    let parts : length (lengths_of (done ++ c ∷ later)) ≡ length (lengths_of done) + length (length_list c.bytes ++ lengths_of later) = ap length (lengths_append done (c ∷ later)) ∙ length-append (lengths_of done) (length_list c.bytes ++ lengths_of later) in
    omega (arith, count, parts, le, length-append (length_list c.bytes) (lengths_of later), sym (length-append (cells_of ps) rest) ∙ ap length joined)

-- behind the next change the cells go on
pub next_cells : (cells rest others : List Cell) (ps : List PlacedChange) (p : PlacedChange) → cells_of ps ++ rest ≡ cells → map (λ (s : Slot). s.cell) (slot_list p.slot) ++ others ≡ rest
    → cells_of (ps ++ p ∷ []) ++ others ≡ cells
next_cells cells rest others ps p joined here =
    ap (λ l. l ++ others) (cells_append ps (p ∷ []) ∙ ap (λ l. cells_of ps ++ l) (one p.slot refl))
    ∙ append_assoc (cells_of ps) (map (λ (s : Slot). s.cell) (slot_list p.slot)) others ∙ ap (λ l. cells_of ps ++ l) here ∙ joined
  where
    one : (o : Option Slot) → p.slot ≡ o → cells_of (p ∷ []) ≡ map (λ (s : Slot). s.cell) (slot_list p.slot)
    one None e = rw e refl
    one (Some s) e = rw e refl

-- what is placed took the cells from the front
pub front_cells : (cells rest : List Cell) (ps : List PlacedChange) → cells_of ps ++ rest ≡ cells → cells_of ps ≡ take (length (cells_of ps)) cells
front_cells cells rest ps joined = sym (take-append_seam (cells_of ps) rest) ∙ ap (take (length (cells_of ps))) joined

pub slots_more : (ps : List PlacedChange) (i : ℕ) (p : PlacedChange) → i < length ps → get_or ps i p ≡ p → slots_of (take (i + 1) ps) ≡ slots_of (take i ps) ++ slot_list p.slot
slots_more ps i p lt is =
    ap slots_of (take_more ps i p lt) ∙ flat_map-append (λ (q : PlacedChange). slot_list q.slot) (take i ps) (get_or ps i p ∷ []) ∙ (λ j. slots_of (take i ps) ++ append-nil (slot_list (is j).slot) j)

pub slots_whole : (ps : List PlacedChange) (i : ℕ) → length ps ≤ i → take i ps ≡ ps
slots_whole ps i le = take_all i ps le

-- all cells are taken where there is one for each slot
pub all_cells : (cells : List Cell) (changes : List SlotChange) (ps : List PlacedChange) → map change_of ps ≡ changes → cells_of ps ≡ take (length (cells_of ps)) cells → map (λ (c : Cell). c.len) cells ≡ lengths_of changes → cells_of ps ≡ cells
all_cells cells changes ps are front lengths =
    let many : length (cells_of ps) ≡ length (lengths_of changes) = as_many ps ∙ ap (λ l. length (lengths_of l)) are in
    let same : length cells ≡ length (lengths_of changes) = sym (length-map cells (λ (c : Cell). c.len)) ∙ ap length lengths in
    front ∙ take_all (length (cells_of ps)) cells (omega (arith, many, same))

pub lengths_are : (ps : List PlacedChange) → lengths_of (map change_of ps) ≡ map (λ (s : Slot). length s.bytes) (slots_of ps)
lengths_are [] = refl
lengths_are (p ∷ ps) = one p.slot refl (lengths_are ps)
  where
    one : (o : Option Slot) → p.slot ≡ o → lengths_of (map change_of ps) ≡ map (λ (s : Slot). length s.bytes) (slots_of ps) → lengths_of (map change_of (p ∷ ps)) ≡ map (λ (s : Slot). length s.bytes) (slots_of (p ∷ ps))
    one None e rest = rw e rest
    one (Some s) e rest = rw e (ap (λ l. length s.bytes ∷ l) rest)

sizes_in : (ss : List Slot) → map (λ (c : Cell). c.len) (map (λ (s : Slot). s.cell) ss) ≡ map (λ (s : Slot). length s.bytes) ss → All (λ (s : Slot). s.cell.len ≡ length s.bytes) ss
sizes_in [] e = λ k d lt. absurd (omega (arith, lt))
sizes_in (s ∷ ss) e = All-cons (λ (s : Slot). s.cell.len ≡ length s.bytes) s ss (head e) (sizes_in ss (rest e))
  where
    head : {m n : ℕ} {xs ys : List ℕ} → m ∷ xs ≡ n ∷ ys → m ≡ n
    head e = cc

    rest : {m n : ℕ} {xs ys : List ℕ} → m ∷ xs ≡ n ∷ ys → xs ≡ ys
    rest e = cc

-- each slot's cell is as long as its bytes
pub sizes_are : (changes : List SlotChange) (ps : List PlacedChange) → map change_of ps ≡ changes → map (λ (c : Cell). c.len) (cells_of ps) ≡ lengths_of changes → All (λ (s : Slot). s.cell.len ≡ length s.bytes) (slots_of ps)
sizes_are changes ps are lengths = sizes_in (slots_of ps) (lengths ∙ sym (ap lengths_of are) ∙ lengths_are ps)

pub lengths_more : (cs : List SlotChange) (i : ℕ) (c : SlotChange) → i < length cs → c ≡ get_or cs i c → lengths_of (take (i + 1) cs) ≡ lengths_of (take i cs) ++ length_list c.bytes
lengths_more cs i c lt is =
    ap lengths_of (take_more cs i c lt) ∙ lengths_append (take i cs) (get_or cs i c ∷ []) ∙ (λ j. lengths_of (take i cs) ++ append-nil (length_list (sym is j).bytes) j)

pub lengths_whole : (cs : List SlotChange) (i : ℕ) → length cs ≤ i → lengths_of (take i cs) ≡ lengths_of cs
lengths_whole cs i le = ap lengths_of (take_all i cs le)
