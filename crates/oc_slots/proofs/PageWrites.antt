-- Pages that are written one after another, each with zeros before it.
use Rattle.std.proofs.Common.{◌≡◌, ◌∙◌, inl, inr, ℕ, zero, suc, ◌+◌, ◌-◌, ◌*◌, ◌/◌, ◌≤◌, ◌<◌, max, List, [], ◌∷◌, ◌++◌, length, map, get_or, take, drop, replicate, Option, Some, sym, ap, subst, arith}
use Rattle.std.proofs.Math.Nat.{mul-add-div_right}
use Rattle.std.proofs.Math.Seq.{drop-cons}
use Rattle.std.proofs.lemmas.Bool.{cases_lt}
use Rattle.std.proofs.lemmas.List.{take-replicate, drop-replicate, drop-append-le, drop-map, length-replicate, get_or-drop, drop_all}
use Rattle.oc_layout.specs.declared.cells.Cell.{Cell}
use Rattle.oc_layout.specs.declared.cells.Header.{Header}
use Rattle.oc_layout.specs.declared.cells.Space.TheVariants.{Objects}
use Rattle.oc_layout.specs.Layout.{blocks}
use Rattle.oc_pages.specs.declared.page.Page.{Page}
use Rattle.oc_room.specs.Rooms.{AreInOrder}
use Rattle.oc_slots.specs.declared.new_pages.NewPage.{NewPage}
use Rattle.oc_slots.specs.declared.placed.Slot.{Slot}
use Rattle.oc_slots.specs.Pieces.{Piece, from, end_of, piece_of, pieces_of}
use Rattle.oc_slots.specs.Turnovers.{bytes_of, page_slots, places_of}
use Rattle.oc_slots.specs.Writing.{IsFree, AreFree}
use Rattle.oc_slots.proofs.Headers.{blocks_rise}
use Rattle.oc_slots.proofs.PieceBytes.{from_near}

-- the last of the zeros, and the page
pub last_zeros : (zeros : ℕ) (front page : List ℕ) → zeros ≤ 127 → front ≡ take 127 (replicate 1151 0) → drop (127 - zeros) (front ++ page) ≡ replicate zeros 0 ++ page
last_zeros zeros front page few is =
    (λ i. drop (127 - zeros) ((is ∙ take-replicate {X = ℕ} 127 1151 0 (omega arith)) i ++ page))
    ∙ drop-append-le (127 - zeros) (replicate 127 0) page (omega (arith, length-replicate {A = ℕ} 127 0))
    ∙ ap (λ l. l ++ page) (drop-replicate (127 - zeros) 127 0) ∙ ap (λ n. replicate n 0 ++ page) (count zeros few)
  where
    count : (n : ℕ) → n ≤ 127 → 127 - (127 - n) ≡ n
    count n le = omega (arith, le)

-- ---- blocks and bytes

pub blocks_from : (unit at n : ℕ) → 0 < unit → blocks unit (at * unit + n) ≡ at + blocks unit n
blocks_from unit at n pos = ap (λ m. m / unit) same ∙ mul-add-div_right {m = unit} pos at (n + unit - 1)
  where
    same : at * unit + n + unit - 1 ≡ at * unit + (n + unit - 1)
    same = omega (arith, pos)

pub blocks_max : (unit m n : ℕ) → 0 < unit → blocks unit (max m n) ≡ max (blocks unit m) (blocks unit n)
blocks_max unit m n pos = elim (cases_lt m n) [
  | inl less ↦ (let same : max m n ≡ n = omega (arith, less) in ap (blocks unit) same) ∙ omega (arith, blocks_rise unit m n pos (omega (arith, less)))
  | inr more ↦ (let same : max m n ≡ m = omega (arith, more) in ap (blocks unit) same) ∙ omega (arith, blocks_rise unit n m pos more)
]

-- ---- the pages that are left

-- the first of the mapped ones that are left
pub drop_mapped : {A B : Type 0} (f : A → B) (xs : List A) (i : ℕ) (d : A) → i < length xs → drop i (map f xs) ≡ f (get_or xs i d) ∷ drop (i + 1) (map f xs)
drop_mapped f xs i d lt =
    drop-map f i xs ∙ ap (map f) (drop-cons xs i d lt) ∙ (λ j. f (get_or xs i d) ∷ sym (drop-map f (suc i) xs) j) ∙ (λ j. f (get_or xs i d) ∷ drop (next j) (map f xs))
  where
    next : suc i ≡ i + 1
    next = omega arith

drop_on : {A : Type 0} (i : ℕ) (xs : List A) (x : A) (rest : List A) → drop i xs ≡ x ∷ rest → drop (i + 1) xs ≡ rest
drop_on zero [] x rest e = absurd (no e)
  where
    no : {A : Type 0} {x : A} {rest : List A} → [] ≡ x ∷ rest → ⊥
    no e = cc
drop_on zero (y ∷ ys) x rest e = tail e
  where
    tail : {A : Type 0} {x y : A} {xs ys : List A} → x ∷ xs ≡ y ∷ ys → xs ≡ ys
    tail e = cc
drop_on (suc i) [] x rest e = absurd (no e)
  where
    no : {A : Type 0} {x : A} {rest : List A} → [] ≡ x ∷ rest → ⊥
    no e = cc
drop_on (suc i) (y ∷ ys) x rest e = (λ j. drop (more j) (y ∷ ys)) ∙ drop_on i ys x rest e
  where
    more : suc i + 1 ≡ suc (i + 1)
    more = omega arith

drop_some : {A : Type 0} (i : ℕ) (xs : List A) (x : A) (rest : List A) → drop i xs ≡ x ∷ rest → i < length xs
drop_some i xs x rest e = elim (cases_lt i (length xs)) [
  | inl lt ↦ lt
  | inr ge ↦ absurd (no (sym (drop_all i xs ge) ∙ e))
]
  where
    no : {A : Type 0} {x : A} {rest : List A} → [] ≡ x ∷ rest → ⊥
    no e = cc

-- a page to be named where there is none
abbrev pub no_page : NewPage
no_page = record { space = Objects; index = 0; at = 0 }

abbrev slot_of : List Page → NewPage → Slot
slot_of pages a = record { cell = record { at = a.at; len = 1024 }; bytes = bytes_of pages a }

module _ (pages : List Page) (added : List NewPage) (unit end0 end : ℕ) (before0 before : Option Cell) (i : ℕ) (d : NewPage) (lt : i < length added) (pos : 0 < unit)
    (size : length (bytes_of pages (get_or added i d)) ≡ 1024)
    (left : drop i (pieces_of unit end0 before0 (page_slots pages added)) ≡ pieces_of unit end before (drop i (page_slots pages added))) where
  abbrev all : List Piece
  all = pieces_of unit end0 before0 (page_slots pages added)

  abbrev page : NewPage
  page = get_or added i d

  abbrev piece : Piece
  piece = piece_of unit end before (slot_of pages page)

  pub first_left : drop i (pieces_of unit end0 before0 (page_slots pages added)) ≡ piece_of unit end before (slot_of pages (get_or added i d)) ∷ drop (i + 1) (pieces_of unit end0 before0 (page_slots pages added))
  first_left = first ∙ (λ j. piece_of unit end before (slot_of pages (get_or added i d)) ∷ sym others j)
    where
      first : drop i (pieces_of unit end0 before0 (page_slots pages added)) ≡ piece_of unit end before (slot_of pages (get_or added i d)) ∷ pieces_of unit (max end (end_of unit (slot_of pages (get_or added i d)))) (Some (slot_of pages (get_or added i d)).cell) (drop (i + 1) (page_slots pages added))
      first = left ∙ ap (pieces_of unit end before) (drop_mapped (slot_of pages) added i d lt)

      others : drop (i + 1) (pieces_of unit end0 before0 (page_slots pages added)) ≡ pieces_of unit (max end (end_of unit (slot_of pages (get_or added i d)))) (Some (slot_of pages (get_or added i d)).cell) (drop (i + 1) (page_slots pages added))
      others = drop_on i all (piece_of unit end before (slot_of pages (get_or added i d))) _ first

  pub rest_left : (next : ℕ) → next ≡ max end ((get_or added i d).at * unit + 1024) → drop (i + 1) (pieces_of unit end0 before0 (page_slots pages added)) ≡ pieces_of unit next (Some (record { at = (get_or added i d).at; len = 1024 })) (drop (i + 1) (page_slots pages added))
  rest_left next is =
      drop_on i all (piece_of unit end before (slot_of pages (get_or added i d))) _ (left ∙ ap (pieces_of unit end before) (drop_mapped (slot_of pages) added i d lt))
      ∙ (λ j. pieces_of unit (same j) (Some (record { at = (get_or added i d).at; len = 1024 })) (drop (i + 1) (page_slots pages added)))
    where
      same : max end (end_of unit (slot_of pages (get_or added i d))) ≡ next
      same = omega (arith, size, is)

  pub among : (h : Header) (held : List Page) → AreFree h held (pieces_of unit end0 before0 (page_slots pages added)) → IsFree h held (piece_of unit end before (slot_of pages (get_or added i d)))
  among h held free =
      let inside : i < length all = drop_some i all _ _ first_left in
      subst (IsFree h held) (here i all _ _ first_left) (free i piece inside)
    where
      here : (i : ℕ) (ps : List Piece) (p : Piece) (rest : List Piece) → drop i ps ≡ p ∷ rest → get_or ps i p ≡ p
      here i ps p rest e = (λ j. get_or ps (sym at_once j) p) ∙ sym (get_or-drop i ps 0 p) ∙ ap (λ l. get_or l 0 p) e
        where
          at_once : i + 0 ≡ i
          at_once = omega arith

  module _ (last : ℕ) (order : AreInOrder unit (blocks unit end) (drop i (places_of added)) last) where
    in_order : ((get_or added i d).at ≤ blocks unit end) × AreInOrder unit (max (blocks unit end) ((get_or added i d).at + blocks unit 1024)) (drop (i + 1) (places_of added)) last
    in_order = subst (λ l. AreInOrder unit (blocks unit end) l last) (drop_mapped (λ (a : NewPage). record { at = a.at; len = 1024 }) added i d lt) order

    pub few_zeros : unit ≤ 127 → (get_or added i d).at * unit - from unit end before (record { at = (get_or added i d).at; len = 1024 }) ≤ 127
    few_zeros small = omega (arith, small, from_near unit pos end before (record { at = (get_or added i d).at; len = 1024 }) in_order.0)

    pub next_order : (next : ℕ) → next ≡ max end ((get_or added i d).at * unit + 1024) → AreInOrder unit (blocks unit next) (drop (i + 1) (places_of added)) last
    next_order next is =
        subst (λ n. AreInOrder unit n (drop (i + 1) (places_of added)) last)
        (sym (ap (blocks unit) is ∙ blocks_max unit end ((get_or added i d).at * unit + 1024) pos ∙ ap (max (blocks unit end)) (blocks_from unit (get_or added i d).at 1024 pos)))
        in_order.1
