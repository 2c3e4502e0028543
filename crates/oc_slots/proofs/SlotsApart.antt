-- The slots that pages name share no block with a page, so cells that are put into the pages leave their bytes.
use Rattle.std.proofs.Common.{◌≡◌, ◌∙◌, ◌⊎◌, inl, inr, ℕ, suc, zero, ◌+◌, ◌*◌, ◌<◌, ◌≤◌, Bool, true, false, cond, List, [], ◌∷◌, ◌++◌, length, map, Option, Some, None, sym, ap, subst, subst₂, refl, arith}
use Rattle.std.specs.Prelude.{◌==◌, All, Contains, filter, flat_map, not}
use Rattle.std.proofs.lemmas.Bool.{cases_Bool, cases_lt}
use Rattle.std.proofs.lemmas.List.{get_or-map, length-map, get_or_past}
use Rattle.std.proofs.lemmas.List.Elements.{All-nil, All-cons, All-tail, All-append, All-map, All-contains, Contains-get_or, Contains-append_left, Contains-append_right}
use Rattle.std.proofs.lemmas.List.Sums.{sum_by-cons}
use Rattle.oc_layout.specs.declared.cells.Cell.{Cell}
use Rattle.oc_layout.specs.declared.cells.CellWrite.{CellWrite}
use Rattle.oc_layout.specs.declared.cells.Header.{Header}
use Rattle.oc_layout.specs.declared.cells.Space.{Space}
use Rattle.oc_layout.specs.Layout.{unit_of}
use Rattle.oc_log.specs.Log.{put_cells, AllWithin, AllClear}
use Rattle.oc_log.proofs.Bytes.{length-put, put_out, clear_of, slice_same}
use Rattle.oc_pages.specs.declared.page.Page.{Page}
use Rattle.oc_pages.specs.Pages.{is_empty, no_cell, holds, slot_in, cell_in, pointer_in, page_holding, place_of, pointer_of, target_of, things_in, things_of}
use Rattle.oc_pages.proofs.Listings.{found_is, no_pointer, its_pointer}
use Rattle.oc_room.specs.Rooms.{owns, owners}
use Rattle.oc_slots.specs.declared.slot.SlotId.{SlotId}
use Rattle.oc_slots.specs.Maps.{bytes_at, content}
use Rattle.oc_slots.specs.Forms.{LiesIn, IsTarget, header_cell, root_place}
use Rattle.oc_slots.specs.Held.{IsBeside}
use Rattle.oc_slots.specs.Pieces.{ShareNone}
use Rattle.oc_slots.proofs.AddedPages.{IsInPage, writes_within}
use Rattle.oc_slots.proofs.Apart.{ends_before, beside_first}
use Rattle.oc_slots.proofs.Noted.{owners_append}
use Rattle.oc_slots.proofs.Things.{tail_of, left_of, right_of}
use Rattle.oc_slots.proofs.Tilings.{both_apart}

-- ---- pages and the slots that they name

-- the places that the pointers of a page name
abbrev named_in : Page → List Cell
named_in p = filter (λ c. not (is_empty c)) p.cells

-- those that all pointers name
abbrev named : List Page → List Cell
named pages = flat_map (λ p. filter (λ c. not (is_empty c)) p.cells) pages

-- each thing is the place of a page, or is named
owners_parts : (unit k : ℕ) (pages : List Page) → owners unit (things_of pages) k ≡ owners unit (map place_of pages ++ named pages) k
owners_parts unit k [] = refl
owners_parts unit k (p ∷ ps) =
    let own : Cell → ℕ = λ c. cond (owns unit k c) 1 0 in
    omega (
      arith,
      owners_parts unit k ps,
      owners_append unit k (things_in p) (things_of ps),
      sum_by-cons own (place_of p) (named_in p),
      owners_append unit k (map place_of ps) (named ps),
      owners_append unit k (map place_of (p ∷ ps)) (named (p ∷ ps)),
      sum_by-cons own (place_of p) (map place_of ps),
      owners_append unit k (named_in p) (named ps),
    )

passes : {X : Type 0} (test : X → Bool) (xs : List X) (x : X) → Contains xs x → test x ≡ true → Contains (filter test xs) x
passes test [] x there good = absurd (omega (arith, there.1))
passes test (y ∷ ys) x there good = go (test y) refl there (λ rest. passes test ys x rest good)
  where
    go : (b : Bool) → test y ≡ b → Contains (y ∷ ys) x → (Contains ys x → Contains (filter test ys) x) → Contains (filter test (y ∷ ys)) x
    go true e (zero, lt, same) later = rw e (0, omega arith, same)
    go true e (suc k, lt, same) later = let rest = later (k, omega (arith, lt), same) in rw e (suc rest.0, omega (arith, rest.1), rest.2)
    go false e (zero, lt, same) later = let good_ : test y ≡ true = ap test same ∙ good in absurd (cc (good_, e))
    go false e (suc k, lt, same) later = rw e (later (k, omega (arith, lt), same))

among : {X Y : Type 0} (f : X → List Y) (xs : List X) (x : X) (y : Y) → Contains xs x → Contains (f x) y → Contains (flat_map f xs) y
among f [] x y there here = absurd (omega (arith, there.1))
among {Y = Y} f (z ∷ zs) x y (zero, lt, e) here = Contains-append_left (f z) (flat_map f zs) y (subst (λ w. Contains (f w) y) (sym e) here)
among f (z ∷ zs) x y (suc k, lt, e) here = Contains-append_right (f z) (flat_map f zs) y (among f zs x y (k, omega (arith, lt), e) here)

-- what a pointer names is one of them
is_named : (pages : List Page) (space : Space) (number : ℕ) (c : Cell) → pointer_of pages space number ≡ Some c → Contains (named pages) c
is_named pages space number c h = go (page_holding pages space number) refl
  where
    clash : None ≡ Some c → ⊥
    clash e = cc

    go : (o : Option Page) → page_holding pages space number ≡ o → Contains (named pages) c
    go None e = absurd (clash (sym (no_pointer pages space number e) ∙ h))
    go (Some p) e = elim (cases_Bool (is_empty (cell_in p number))) [
      | inl none ↦ absurd (clash (sym (empty none) ∙ pointer))
      | inr some ↦
          let cell : cell_in p number ≡ c = same (sym (full some) ∙ pointer) in
          let inside : slot_in p number < length p.cells = elim (cases_lt (slot_in p number) (length p.cells)) [
            | inl lt ↦ lt
            | inr ge ↦ let away : is_empty (cell_in p number) ≡ true = ap is_empty (get_or_past p.cells (slot_in p number) no_cell ge) in absurd (cc (away, some))
          ] in
          among named_in pages p c (found_is (holds space number) pages p e).0
          (subst (Contains (named_in p)) cell (passes (λ x. not (is_empty x)) p.cells (cell_in p number) (Contains-get_or p.cells (slot_in p number) no_cell inside) (ap not some)))
    ]
      where
        pointer : pointer_in (cell_in p number) ≡ Some c
        pointer = sym (its_pointer pages space number p e) ∙ h

        empty : is_empty (cell_in p number) ≡ true → pointer_in (cell_in p number) ≡ None
        empty none = rw none refl

        full : is_empty (cell_in p number) ≡ false → pointer_in (cell_in p number) ≡ Some (cell_in p number)
        full some = rw some refl

        same : Some (cell_in p number) ≡ Some c → cell_in p number ≡ c
        same some = cc

-- ---- what is put into the pages

-- a number's cell stands in the page that holds it
target_in : (unit : ℕ) (pages : List Page) (space : Space) (number target : ℕ) → target_of unit pages space number ≡ Some target → IsInPage unit pages target
target_in unit pages space number target e =
    writes_within unit pages (record { id = record { space = space; number = number }; cell = no_cell; target = Some target } ∷ [])
    (All-cons (λ p. target_of unit pages p.id.space p.id.number ≡ p.target) (record { id = record { space = space; number = number }; cell = no_cell; target = Some target }) [] e (All-nil (λ p. target_of unit pages p.id.space p.id.number ≡ p.target)))
    0 (record { target = target; cell = no_cell }) (omega arith)

root_low : (h : Header) → root_place h + 8 ≤ 128
root_low h = elim (cases_Bool (h.form == 2)) [
  | inl two ↦ rw two (omega arith)
  | inr one ↦ rw one (omega arith)
]

-- ---- a slot that pages name

named_all : (P : Cell → Type 0) (pages : List Page) → All P (things_of pages) → All P (named pages)
named_all P [] all = all
named_all P (p ∷ ps) all =
    All-append P (named_in p) (named ps)
    (tail_of P (place_of p) (named_in p) (left_of P (things_in p) (things_of ps) all))
    (named_all P ps (right_of P (things_in p) (things_of ps) all))

module _ (h : Header) (pages : List Page) (len : ℕ) (pos : 0 < unit_of h) (once : (k : ℕ) → owners (unit_of h) (header_cell ∷ things_of pages) k ≤ 1) (lie : All (LiesIn (unit_of h) len) (things_of pages)) (c : Cell) (there : Contains (named pages) c) where
  some : All (λ (x : Cell). 1 ≤ x.len) (things_of pages)
  some k d lt = (lie k d lt).some

  -- what holds of all things holds of the slot
  of_slot : (P : Cell → Type 0) → All P (things_of pages) → P c
  of_slot P all = All-contains P (named pages) c (named_all P pages all) there

  slot_lies : LiesIn (unit_of h) len c
  slot_lies = of_slot (LiesIn (unit_of h) len) lie

  beside_header : IsBeside (unit_of h) (0 * unit_of h) 128 c
  beside_header = of_slot (IsBeside (unit_of h) (0 * unit_of h) 128) (beside_first (unit_of h) header_cell (things_of pages) pos (omega arith) some once)

  parts_once : (k : ℕ) → owners (unit_of h) (map place_of pages ++ named pages) k ≤ 1
  parts_once k = omega (arith, once k, sum_by-cons (λ (x : Cell). cond (owns (unit_of h) k x) 1 0) header_cell (things_of pages), owners_parts (unit_of h) k pages)

  beside_page : (p : Page) → Contains pages p → ShareNone (unit_of h) c (place_of p)
  beside_page p (i, lt, e) =
      subst₂ (ShareNone (unit_of h)) there.2 (get_or-map place_of pages i p (place_of p) lt ∙ ap place_of e)
      (both_apart (unit_of h) (map place_of pages) (named pages) pos (All-map (λ (x : Cell). 1 ≤ x.len) place_of pages (λ k d le. omega arith)) (named_all (λ (x : Cell). 1 ≤ x.len) pages some) parts_once
      i there.0 (place_of p) c (omega (arith, lt, length-map pages place_of)) there.1)

  beside_target : (target : ℕ) → IsTarget h pages target → (target + 8 ≤ c.at * unit_of h) ⊎ (c.at * unit_of h + c.len ≤ target)
  beside_target target (inl root) = elim beside_header [
    | inl before ↦ absurd (omega (arith, before, slot_lies.some))
    | inr after ↦ inl (omega (arith, root, root_low h, after))
  ]
  beside_target target (inr cell) =
      let in_page = target_in (unit_of h) pages cell.0 cell.1 target cell.2 in
      elim (beside_page in_page.0 in_page.1) [
        | inl before ↦ inr (omega (arith, ends_before (unit_of h) c.at c.len in_page.0.at pos before, in_page.2))
        | inr after ↦ inl (omega (arith, ends_before (unit_of h) in_page.0.at 1024 c.at pos after, in_page.3))
      ]

  clear : (ws : List CellWrite) → All (λ w. IsTarget h pages w.target) ws → AllClear (c.at * unit_of h) c.len ws
  clear [] targets = tt
  clear (w ∷ ws) targets = (beside_target w.target (targets 0 w (omega arith)), clear ws (All-tail (λ (x : CellWrite). IsTarget h pages x.target) w ws targets))

slot_kept : (h : Header) (pages : List Page) (ws : List CellWrite) (b : List ℕ) → 0 < unit_of h → ((k : ℕ) → owners (unit_of h) (header_cell ∷ things_of pages) k ≤ 1) → All (LiesIn (unit_of h) (length b)) (things_of pages)
    → AllWithin (length b) ws → All (λ w. IsTarget h pages w.target) ws → (c : Cell) → Contains (named pages) c → bytes_at (unit_of h) (put_cells ws b) c ≡ bytes_at (unit_of h) b c
slot_kept h pages ws b pos once lie within targets c there =
    let lies = slot_lies h pages (length b) pos once lie c there in
    slice_same (c.at * unit_of h) c.len b (put_cells ws b) lies.inside (omega (arith, lies.inside, length-put ws b within))
    (λ k ge lt. put_out ws b k within (clear_of (c.at * unit_of h) c.len k ws (clear h pages (length b) pos once lie c there ws targets) ge lt))

-- each slot has its bytes when cells are put where the pages have theirs
pub pointer_kept : (h : Header) (pages : List Page) (ws : List CellWrite) (b : List ℕ) → 0 < unit_of h → ((k : ℕ) → owners (unit_of h) (header_cell ∷ things_of pages) k ≤ 1) → All (LiesIn (unit_of h) (length b)) (things_of pages)
    → AllWithin (length b) ws → All (λ w. IsTarget h pages w.target) ws
    → (id : SlotId) → content (unit_of h) (put_cells ws b) (pointer_of pages id.space id.number) ≡ content (unit_of h) b (pointer_of pages id.space id.number)
pointer_kept h pages ws b pos once lie within targets id = go (pointer_of pages id.space id.number) refl
  where
    go : (o : Option Cell) → pointer_of pages id.space id.number ≡ o → content (unit_of h) (put_cells ws b) (pointer_of pages id.space id.number) ≡ content (unit_of h) b (pointer_of pages id.space id.number)
    go None e = rw e refl
    go (Some c) e = rw e (ap {B = Option (List ℕ)} (λ l. Some l) (slot_kept h pages ws b pos once lie within targets c (is_named pages id.space id.number c e)))
