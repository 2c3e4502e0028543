-- The form of a file, by its parts: the front, the pages and the things.
use Rattle.std.proofs.Common.{◌≡◌, ◌≢◌, ◌∙◌, ◌⊎◌, inl, inr, ℕ, ◌+◌, ◌*◌, ◌<◌, ◌≤◌, true, false, cond, List, [], ◌∷◌, ◌++◌, length, take, drop, get_or, get_or-take, Option, Some, None, refl, sym, ap, subst, arith, append-nil}
use Rattle.std.specs.Prelude.{All, ◌==◌, option_map}
use Rattle.std.proofs.lemmas.Bool.{cases_Bool}
use Rattle.std.proofs.lemmas.Bool.Decides.{nat_tests}
use Rattle.std.proofs.lemmas.List.Elements.{All-head, All-tail, All-contains}
use Rattle.std.proofs.lemmas.List.Sums.{sum_by-cons, sum_by-append}
use Rattle.oc_host.specs.Disk.{Apart, over}
use Rattle.oc_layout.specs.declared.cells.Cell.{Cell}
use Rattle.oc_layout.specs.declared.cells.CellWrite.{CellWrite}
use Rattle.oc_layout.specs.declared.cells.Header.{Header}
use Rattle.oc_layout.specs.declared.cells.Space.{Space}
use Rattle.oc_layout.specs.Layout.{unit_of, first_page_of, first_cell, cell_bytes, FitsCell}
use Rattle.oc_layout.specs.Headers.{fields}
use Rattle.oc_layout.proofs.Spelled.{cell_again}
use Rattle.oc_log.specs.Log.{slice, put_cells, log_at, AllWithin, AllClear, AreTargets}
use Rattle.oc_log.proofs.Bytes.{length-over-in, over_out, slice_over}
use Rattle.oc_pages.specs.declared.page.Page.{Page}
use Rattle.oc_pages.specs.Pages.{holds, slot_in, page_holding, place_of, target_of, things_of}
use Rattle.oc_pages.specs.Chains.{HasPages}
use Rattle.oc_pages.proofs.Images.{first_same}
use Rattle.oc_pages.proofs.Listings.{found_is}
use Rattle.oc_pages.proofs.Ranges.{within_is}
use Rattle.oc_room.specs.Rooms.{owns, owners}
use Rattle.oc_slots.specs.Attaching.{ReadsLog, SuitsTarget, HasFront, HasThings, with_cell, with_cells, with_closed}
use Rattle.oc_slots.specs.Forms.{Begins, ToPutIn, HasForm, LiesIn, header_cell, log_things, root_place}
use Rattle.oc_slots.specs.Held.{IsBeside}
use Rattle.oc_slots.proofs.Apart.{beside_first}
use Rattle.oc_slots.proofs.Headers.{unit_some, number_same, cell_same, fields_same}
use Rattle.oc_slots.proofs.Things.{of_pages}

pub root_at : (h : Header) → (root_place h ≡ 16) ⊎ (root_place h ≡ 48)
root_at h = elim (cases_Bool (h.form == 2)) [ inl e ↦ inr (rw e refl) | inr e ↦ inl (rw e refl) ]

-- ---- the header with writes put in

-- it differs in the root cells alone
abbrev with_roots : Header → Cell → Cell → Header
with_roots h root block_root = record h { root = root; block_root = block_root }

cell_kept : (h : Header) (w : CellWrite) → with_cell h w ≡ with_roots h (with_cell h w).root (with_cell h w).block_root
cell_kept h w = elim (cases_Bool (w.target == root_place h)) [
  | inl there ↦ elim (cases_Bool (h.form == 2)) [ inl form ↦ rw (there, form) refl | inr form ↦ rw (there, form) refl ]
  | inr other ↦ rw other refl
]

pub cells_kept : (ws : List CellWrite) (h : Header) → with_cells h ws ≡ with_roots h (with_cells h ws).root (with_cells h ws).block_root
cells_kept [] h = refl
cells_kept (w ∷ ws) h =
    let after = with_cells (with_cell h w) ws in
    cells_kept ws (with_cell h w) ∙ (λ i. with_roots (cell_kept h w i) after.root after.block_root)

-- with a closed gate it differs in the gate too
abbrev with_others : Header → Cell → Cell → ℕ → Header
with_others h root block_root gate = record h { root = root; block_root = block_root; gate = gate }

closed_is : (h : Header) → with_closed h ≡ record h { gate = (with_closed h).gate }
closed_is h = elim (cases_Bool (h.gate == 1)) [ inl e ↦ rw e refl | inr e ↦ rw e refl ]

pub settled_kept : (h : Header) (ws : List CellWrite) → with_closed (with_cells h ws) ≡ with_others h (with_cells h ws).root (with_cells h ws).block_root (with_closed (with_cells h ws)).gate
settled_kept h ws = closed_is (with_cells h ws) ∙ (λ i. record (cells_kept ws h i) { gate = (with_closed (with_cells h ws)).gate })

pub is_closed : (h : Header) → (with_closed h).gate ≢ 1
is_closed h = elim (cases_Bool (h.gate == 1)) [ inl e ↦ (λ (is : (with_closed h).gate ≡ 1). clash e is) | inr e ↦ (λ is. other e is) ]
  where
    clash : (h.gate == 1) ≡ true → (with_closed h).gate ≡ 1 → ⊥
    clash e is = let zero_is : (with_closed h).gate ≡ 0 = rw e refl in omega (arith, zero_is, is)

    other : (h.gate == 1) ≡ false → (with_closed h).gate ≡ 1 → ⊥
    other e is = let same : (with_closed h).gate ≡ h.gate = rw e refl in grind (arith, nat_tests, e, same, is)

-- a write's own cell is read again
pub written : (b : List ℕ) (w : CellWrite) → w.target + 8 ≤ length b → FitsCell w.cell → first_cell (drop w.target (over w.target (cell_bytes w.cell) b)) ≡ w.cell
written b w le fits =
    let c = over w.target (cell_bytes w.cell) b in
    sym (first_same (drop w.target c) (take 8 (drop w.target c)) (λ k lt. get_or-take 8 (drop w.target c) k 0 lt))
    ∙ ap first_cell (slice_over w.target (cell_bytes w.cell) b (omega (arith, le)) ∙ sym (append-nil (cell_bytes w.cell)))
    ∙ cell_again w.cell [] fits

one_put : (b : List ℕ) (w : CellWrite) → 128 ≤ length b → SuitsTarget (fields b) (length b) w → FitsCell w.cell → fields (over w.target (cell_bytes w.cell) b) ≡ with_cell (fields b) w
one_put b w long suit fits = elim suit [
  | inr lies ↦
      let h = fields b in
      let c = over w.target (cell_bytes w.cell) b in
      let other : (w.target == root_place h) ≡ false = elim (root_at h) [ inl e ↦ grind (arith, nat_tests, e, lies.0) | inr e ↦ grind (arith, nat_tests, e, lies.0) ] in
      rw other (fields_same b c (λ k lt. over_out w.target (cell_bytes w.cell) b k (omega (arith, lies.1)) (inl (omega (arith, lt, lies.0)))))
  | inl root ↦
      let h = fields b in
      let there : (w.target == root_place h) ≡ true = grind (arith, nat_tests, root) in
      elim (cases_Bool (h.form == 2)) [
        | inl form ↦
            let at : w.target ≡ 48 = root ∙ rw form refl in
            rw (there, form) (blocks_put at)
        | inr form ↦
            let at : w.target ≡ 16 = root ∙ rw form refl in
            rw (there, form) (plain_put at)
      ]
]
  where
    c : List ℕ
    c = over w.target (cell_bytes w.cell) b

    same : w.target + 8 ≤ 128 → (k : ℕ) → Apart k w.target 8 → get_or c k 0 ≡ get_or b k 0
    same le k apart = over_out w.target (cell_bytes w.cell) b k (omega (arith, le, long)) apart

    plain_put : w.target ≡ 16 → fields c ≡ record (fields b) { root = w.cell }
    plain_put at i = record {
      limit = number_same b c 8 (λ k ge lt. same (omega (arith, at)) k (inl (omega (arith, lt, at)))) i;
      first = number_same b c 12 (λ k ge lt. same (omega (arith, at)) k (inl (omega (arith, lt, at)))) i;
      root = (subst (λ t. first_cell (drop t c) ≡ w.cell) at (written b w (omega (arith, at, long)) fits)) i;
      log = cell_same b c 32 (λ k ge lt. same (omega (arith, at)) k (inr (omega (arith, ge, at)))) i;
      gate = same (omega (arith, at)) 64 (inr (omega (arith, at))) i;
      block = number_same b c 40 (λ k ge lt. same (omega (arith, at)) k (inr (omega (arith, ge, at)))) i;
      block_limit = number_same b c 44 (λ k ge lt. same (omega (arith, at)) k (inr (omega (arith, ge, at)))) i;
      block_root = cell_same b c 48 (λ k ge lt. same (omega (arith, at)) k (inr (omega (arith, ge, at)))) i;
      spare = cell_same b c 56 (λ k ge lt. same (omega (arith, at)) k (inr (omega (arith, ge, at)))) i;
      form = same (omega (arith, at)) 65 (inr (omega (arith, at))) i;
    }

    blocks_put : w.target ≡ 48 → fields c ≡ record (fields b) { block_root = w.cell }
    blocks_put at i = record {
      limit = number_same b c 8 (λ k ge lt. same (omega (arith, at)) k (inl (omega (arith, lt, at)))) i;
      first = number_same b c 12 (λ k ge lt. same (omega (arith, at)) k (inl (omega (arith, lt, at)))) i;
      root = cell_same b c 16 (λ k ge lt. same (omega (arith, at)) k (inl (omega (arith, lt, at)))) i;
      log = cell_same b c 32 (λ k ge lt. same (omega (arith, at)) k (inl (omega (arith, lt, at)))) i;
      gate = same (omega (arith, at)) 64 (inr (omega (arith, at))) i;
      block = number_same b c 40 (λ k ge lt. same (omega (arith, at)) k (inl (omega (arith, lt, at)))) i;
      block_limit = number_same b c 44 (λ k ge lt. same (omega (arith, at)) k (inl (omega (arith, lt, at)))) i;
      block_root = (subst (λ t. first_cell (drop t c) ≡ w.cell) at (written b w (omega (arith, at, long)) fits)) i;
      spare = cell_same b c 56 (λ k ge lt. same (omega (arith, at)) k (inr (omega (arith, ge, at)))) i;
      form = same (omega (arith, at)) 65 (inr (omega (arith, at))) i;
    }

within_one : (h : Header) (len : ℕ) (w : CellWrite) → 128 ≤ len → SuitsTarget h len w → w.target + 8 ≤ len
within_one h len w long suit = elim suit [
  | inl root ↦ elim (root_at h) [ inl e ↦ omega (arith, root, e, long) | inr e ↦ omega (arith, root, e, long) ]
  | inr lies ↦ lies.1
]

pub suits_within : (h : Header) (len : ℕ) (ws : List CellWrite) → 128 ≤ len → All (SuitsTarget h len) ws → AllWithin len ws
suits_within h len [] long suit = tt
suits_within h len (w ∷ ws) long suit = (within_one h len w long (All-head (SuitsTarget h len) w ws suit), suits_within h len ws long (All-tail (SuitsTarget h len) w ws suit))

pub fields_put : (ws : List CellWrite) (b : List ℕ) → 128 ≤ length b → All (SuitsTarget (fields b) (length b)) ws → All (λ w. FitsCell w.cell) ws → fields (put_cells ws b) ≡ with_cells (fields b) ws
fields_put [] b long suit fits = refl
fields_put (w ∷ ws) b long suit fits =
    let first = All-head (SuitsTarget (fields b) (length b)) w ws suit in
    let c = over w.target (cell_bytes w.cell) b in
    let size : length c ≡ length b = length-over-in w.target (cell_bytes w.cell) b (within_one (fields b) (length b) w long first) in
    let put = one_put b w long first (All-head (λ (x : CellWrite). FitsCell x.cell) w ws fits) in
    let root : root_place (fields c) ≡ root_place (fields b) = ap root_place (put ∙ cell_kept (fields b) w) in
    let rest : All (SuitsTarget (fields c) (length c)) ws = λ k d lt. elim (All-tail (SuitsTarget (fields b) (length b)) w ws suit k d lt) [
      | inl here ↦ inl (here ∙ sym root)
      | inr lies ↦ inr (lies.0, omega (arith, lies.1, size))
    ] in
    fields_put ws c (omega (arith, long, size)) rest (All-tail (λ (x : CellWrite). FitsCell x.cell) w ws fits) ∙ ap (λ x. with_cells x ws) put

-- ---- where a pointer's cell stands

-- what holds of all things holds of the page where the cell stands
pub target_page : (P : Cell → Type 0) (unit : ℕ) (pages : List Page) (space : Space) (number target : ℕ) → All P (things_of pages) → target_of unit pages space number ≡ Some target
    → (p : Page) × P (place_of p) × (p.at * unit + 16 ≤ target) × (target + 8 ≤ p.at * unit + 1024)
target_page P unit pages space number target all e = go (page_holding pages space number) refl e
  where
    go : (o : Option Page) → page_holding pages space number ≡ o → option_map (λ (p : Page). p.at * unit + 16 + 8 * slot_in p number) o ≡ Some target
        → (p : Page) × P (place_of p) × (p.at * unit + 16 ≤ target) × (target + 8 ≤ p.at * unit + 1024)
    go None found is = absurd (cc is)
    go (Some p) found is =
        let there = found_is (holds space number) pages p found in
        let w = within_is p.index number (grind (arith, there.1)) in
        let value : p.at * unit + 16 + 8 * slot_in p number ≡ target = cc is in
        (p, All-contains (λ q. P (place_of q)) pages p (of_pages P pages all) there.0, omega (arith, value), omega (arith, value, w.above, w.below))

pub all_clear : (at n : ℕ) (ws : List CellWrite) → All (λ w. (w.target + 8 ≤ at) ⊎ (at + n ≤ w.target)) ws → AllClear at n ws
all_clear at n [] all = tt
all_clear at n (w ∷ ws) all = (All-head (λ (x : CellWrite). (x.target + 8 ≤ at) ⊎ (at + n ≤ x.target)) w ws all, all_clear at n ws (All-tail (λ (x : CellWrite). (x.target + 8 ≤ at) ⊎ (at + n ≤ x.target)) w ws all))

-- ---- from the parts to the form

module _ (h : Header) (pages : List Page) (len : ℕ) (pos : 0 < unit_of h) where
  own : ℕ → Cell → ℕ
  own k c = cond (owns (unit_of h) k c) 1 0

  pub header_once : (ws : List CellWrite) (k : ℕ) → owners (unit_of h) (header_cell ∷ log_things h ws ++ things_of pages) k ≤ 1 → owners (unit_of h) (header_cell ∷ things_of pages) k ≤ 1
  header_once ws k le =
      let own : Cell → ℕ = λ c. cond (owns (unit_of h) k c) 1 0 in
      omega (arith, le, sum_by-cons own header_cell (log_things h ws ++ things_of pages), sum_by-append own (log_things h ws) (things_of pages), sum_by-cons own header_cell (things_of pages))

  log_once : (k : ℕ) → owners (unit_of h) (header_cell ∷ h.log ∷ things_of pages) k ≤ 1 → owners (unit_of h) (h.log ∷ things_of pages) k ≤ 1
  log_once k le =
      let own : Cell → ℕ = λ c. cond (owns (unit_of h) k c) 1 0 in
      omega (arith, le, sum_by-cons own header_cell (h.log ∷ things_of pages))

  module _ (ws : List CellWrite) (things : HasThings h ws pages len) where
    some : All (λ (c : Cell). 1 ≤ c.len) (things_of pages)
    some k d lt = (things.inside k d lt).some

    pub beside_header : All (IsBeside (unit_of h) (0 * unit_of h) 128) (things_of pages)
    beside_header = beside_first (unit_of h) header_cell (things_of pages) pos (omega arith) some (λ k. header_once ws k (things.apart k))

    -- each target is the root cell's, or stands in a page behind the header
    pub suits : All (SuitsTarget h len) ws
    suits k d lt = elim (things.targets k d lt) [
      | inl root ↦ inl root
      | inr cell ↦
          let w = get_or ws k d in
          let both : All (λ c. LiesIn (unit_of h) len c × IsBeside (unit_of h) (0 * unit_of h) 128 c) (things_of pages) = λ i e le. (things.inside i e le, beside_header i e le) in
          let at = target_page (λ c. LiesIn (unit_of h) len c × IsBeside (unit_of h) (0 * unit_of h) 128 c) (unit_of h) pages cell.0 cell.1 w.target both cell.2 in
          inr (elim at.1.1 [ inl before ↦ absurd (omega (arith, before)) | inr after ↦ omega (arith, after, at.2) ], omega (arith, at.3, at.1.0.inside))
    ]

    clear_small : (at n : ℕ) → at + n ≤ 128 → ((t : ℕ) → (t ≡ 16) ⊎ (t ≡ 48) → (t + 8 ≤ at) ⊎ (at + n ≤ t)) → All (SuitsTarget h len) ws → AllClear at n ws
    clear_small at n le roots suit = all_clear at n ws (λ k d lt. elim (suit k d lt) [
      | inl root ↦ roots (get_or ws k d).target (elim (root_at h) [ inl e ↦ inl (root ∙ e) | inr e ↦ inr (root ∙ e) ])
      | inr lies ↦ inr (omega (arith, le, lies.0))
    ])

    pub are_targets : 128 ≤ len → 128 ≤ log_at h → All (LiesIn (unit_of h) len) (log_things h ws) → AreTargets h len ws
    are_targets long behind log = record {
      within = suits_within h len ws long suits;
      gate = clear_small 64 1 (omega arith) (λ t at. inl (elim at [ inl e ↦ omega (arith, e) | inr e ↦ omega (arith, e) ])) suits;
      cell = clear_small 32 8 (omega arith) (λ t at. elim at [ inl e ↦ inl (omega (arith, e)) | inr e ↦ inr (omega (arith, e)) ]) suits;
      place = place ws refl;
    }
      where
        place : (vs : List CellWrite) → ws ≡ vs → AllClear (log_at h) h.log.len ws
        place [] e = subst (AllClear (log_at h) h.log.len) (sym e) tt
        place (v ∷ vs) e =
            let lies = All-head (LiesIn (unit_of h) len) h.log [] (subst (λ l. All (LiesIn (unit_of h) len) (log_things h l)) e log) in
            let beside = beside_first (unit_of h) h.log (things_of pages) pos lies.some some (λ k. log_once k (subst (λ l. owners (unit_of h) (header_cell ∷ log_things h l ++ things_of pages) k ≤ 1) e (things.apart k))) in
            all_clear (log_at h) h.log.len ws (λ k d lt. elim (things.targets k d lt) [
              | inl root ↦ inl (elim (root_at h) [ inl at ↦ omega (arith, root, at, behind) | inr at ↦ omega (arith, root, at, behind) ])
              | inr cell ↦
                  let at = target_page (IsBeside (unit_of h) (log_at h) h.log.len) (unit_of h) pages cell.0 cell.1 (get_or ws k d).target beside cell.2 in
                  elim at.1 [ inl before ↦ inl (omega (arith, before, at.3)) | inr after ↦ inr (omega (arith, after, at.2)) ]
            ])

gate_is : (h : Header) (b : List ℕ) → Begins h b → h.gate ≡ get_or b 64 0
gate_is h b begins = ap (λ (x : Header). x.gate) begins.fields

log_is : (h : Header) (b : List ℕ) → Begins h b → first_cell (slice 32 8 b) ≡ h.log
log_is h b begins = first_same (drop 32 b) (take 8 (drop 32 b)) (λ k lt. get_or-take 8 (drop 32 b) k 0 lt) ∙ sym (ap (λ (x : Header). x.log) begins.fields)

module _ (h : Header) (ws : List CellWrite) (pages : List Page) (b : List ℕ) where
  -- the header with the writes put in
  pub fields_with : HasFront h ws b → All (λ w. FitsCell w.cell) ws → fields (put_cells ws b) ≡ with_cells h ws
  fields_with front fits =
      fields_put ws b front.header.long (subst (λ x. All (SuitsTarget x (length b)) ws) front.header.fields front.suit) fits ∙ ap (λ x. with_cells x ws) (sym front.header.fields)

  pub parts_form : HasFront h ws b → All (λ w. FitsCell w.cell) ws → All (LiesIn (unit_of h) (length b)) (log_things h ws)
      → HasPages (unit_of h) (put_cells ws b) (first_page_of (with_cells h ws)) pages → HasThings h ws pages (length b) → HasForm h ws pages b
  parts_form front fits log chain things = record {
    header = front.header;
    room = front.room;
    log = put front.log;
    chain = subst (λ x. HasPages (unit_of h) (put_cells ws b) (first_page_of x) pages) (sym (fields_with front fits)) chain;
    inside = things.inside;
    apart = things.apart;
    targets = things.targets;
  }
    where
      put : ReadsLog h b ws → ToPutIn h b ws
      put (inl closed) = inl ((λ yes. closed.0 (gate_is h b front.header ∙ yes)), closed.1)
      put (inr opened) = inr (
        sym (gate_is h b front.header) ∙ opened.gate,
        opened.behind,
        record {
          long = front.header.long;
          cell = log_is h b front.header;
          inside = opened.inside;
          log = opened.reads;
          targets = are_targets h pages (length b) (unit_some h front.header.in_range) ws things front.header.long opened.behind log;
        },
      )

  -- ---- and back

  pub form_things : HasForm h ws pages b → HasThings h ws pages (length b)
  form_things form = record { inside = form.inside; apart = form.apart; targets = form.targets }

  pub form_front : HasForm h ws pages b → HasFront h ws b
  form_front form = record {
    header = form.header;
    room = form.room;
    log = reads form.log;
    suit = suits h pages (length b) (unit_some h form.header.in_range) ws (form_things form);
  }
    where
      reads : ToPutIn h b ws → ReadsLog h b ws
      reads (inl closed) = inl ((λ yes. closed.0 (sym (gate_is h b form.header) ∙ yes)), closed.1)
      reads (inr opened) = inr (record { gate = gate_is h b form.header ∙ opened.0; behind = opened.1; inside = opened.2.inside; reads = opened.2.log })

  pub form_pages : HasForm h ws pages b → All (λ w. FitsCell w.cell) ws → HasPages (unit_of h) (put_cells ws b) (first_page_of (with_cells h ws)) pages
  form_pages form fits = subst (λ x. HasPages (unit_of h) (put_cells ws b) (first_page_of x) pages) (fields_with (form_front form) fits) form.chain
