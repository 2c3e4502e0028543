-- The writes of a plan make a commit: with its log put in, the file has the new pages.
use Rattle.std.proofs.Common.{◌≡◌, ◌∙◌, inl, inr, ℕ, ◌+◌, ◌*◌, ◌<◌, ◌≤◌, ◌==◌, max, cond, true, false, List, [], ◌∷◌, ◌++◌, length, get_or, Option, Some, None, refl, sym, ap, subst, arith}
use Rattle.std.specs.Prelude.{All, AllPairs}
use Rattle.std.specs.Option.{option_map, option_to_list}
use Rattle.std.proofs.lemmas.Bool.{cases_Bool}
use Rattle.std.proofs.lemmas.Bool.Decides.{nat_tests}
use Rattle.std.proofs.lemmas.List.Elements.{All-nil, All-cons, All-head, All-tail, All-append, All-contains}
use Rattle.std.proofs.lemmas.List.Sums.{sum_by-cons}
use Rattle.oc_layout.specs.declared.cells.Cell.{Cell}
use Rattle.oc_layout.specs.declared.cells.CellWrite.{CellWrite}
use Rattle.oc_layout.specs.declared.cells.Header.{Header}
use Rattle.oc_layout.specs.Layout.{unit_of, room_of, first_page_of, blocks, FitsCell}
use Rattle.oc_layout.specs.Headers.{fields}
use Rattle.oc_host.specs.Disk.{Disk}
use Rattle.oc_log.specs.Log.{with_log, put_cells, log_at, AllApart, AllWithin, AreTargets}
use Rattle.oc_log.proofs.Bytes.{length-put, put_out, slice_same}
use Rattle.oc_pages.specs.declared.page.Page.{Page}
use Rattle.oc_pages.specs.Pages.{is_page, page_of, place_of, first_of, empty_page, things_of}
use Rattle.oc_pages.specs.Chains.{Chain, HasPages, SpellsPage, AreApart, page_at}
use Rattle.oc_pages.proofs.Listings.{found_is}
use Rattle.oc_room.specs.Rooms.{owns, owners}
use Rattle.oc_slots.specs.declared.new_pages.NewPage.{NewPage}
use Rattle.oc_slots.specs.declared.turnover.Pointing.{Pointing}
use Rattle.oc_slots.specs.Attaching.{SuitsTarget, HasThings, with_cell, with_cells}
use Rattle.oc_slots.specs.Commits.{IsCommit}
use Rattle.oc_slots.specs.Forms.{LiesIn, header_cell, log_things, root_place}
use Rattle.oc_slots.specs.Held.{IsBeside, Holds}
use Rattle.oc_slots.specs.Pointings.{set_all, write_of, writes_of, AreAt}
use Rattle.oc_slots.specs.Turnovers.{with_added, root_writes, AreMissing}
use Rattle.oc_slots.proofs.AddedPages.{StandsWhole, with_pointings, face_stays, page_then, root_is, writes_within, clear_new, pairs_old, pages_then, targets_new, put_both}
use Rattle.oc_slots.proofs.Apart.{beside_first}
use Rattle.oc_slots.proofs.FormParts.{root_at, fields_put, suits, suits_within, are_targets}
use Rattle.oc_slots.proofs.Headers.{unit_some}
use Rattle.oc_slots.proofs.MissingPages.{missing_front}
use Rattle.oc_slots.proofs.PageWrites.{blocks_from, blocks_max}
use Rattle.oc_slots.proofs.Recovering.{own_apart}
use Rattle.oc_slots.proofs.Things.{IsAlike, of_pages, pages_alike}

-- ---- the root cell's write

root_all : (P : CellWrite → Type 0) (h : Header) (added : List NewPage) → All (λ a. P (record { target = root_place h; cell = record { at = a.at; len = 1024 } })) added → All P (root_writes h added)
root_all P h [] all = All-nil P
root_all P h (a ∷ []) all = All-cons P (record { target = root_place h; cell = record { at = a.at; len = 1024 } }) [] (all 0 a (omega arith)) (All-nil P)
root_all P h (a ∷ b ∷ bs) all = root_all P h (b ∷ bs) (All-tail (λ (x : NewPage). P (record { target = root_place h; cell = record { at = x.at; len = 1024 } })) a (b ∷ bs) all)

-- it touches no byte behind the header
far_apart : (ws : List CellWrite) (k : ℕ) → 128 ≤ k → All (λ w. w.target + 8 ≤ 128) ws → AllApart k ws
far_apart [] k far low = tt
far_apart (w ∷ ws) k far low = (inr (omega (arith, far, All-head (λ (x : CellWrite). x.target + 8 ≤ 128) w ws low)), far_apart ws k far (All-tail (λ (x : CellWrite). x.target + 8 ≤ 128) w ws low))

root_low : (h : Header) (added : List NewPage) → All (λ w. w.target + 8 ≤ 128) (root_writes h added)
root_low h added = root_all (λ w. w.target + 8 ≤ 128) h added (λ k a lt. elim (root_at h) [ inl e ↦ omega (arith, e) | inr e ↦ omega (arith, e) ])

-- ---- the header with the writes

-- writes behind the header leave it as it is
header_stays : (h : Header) (ws : List CellWrite) → All (λ w. 128 ≤ w.target) ws → with_cells h ws ≡ h
header_stays h [] far = refl
header_stays h (w ∷ ws) far = ap (λ x. with_cells x ws) one ∙ header_stays h ws (All-tail (λ (x : CellWrite). 128 ≤ x.target) w ws far)
  where
    one : with_cell h w ≡ h
    one =
        let behind = All-head (λ (x : CellWrite). 128 ≤ x.target) w ws far in
        let other : (w.target == root_place h) ≡ false = elim (root_at h) [ inl e ↦ grind (arith, nat_tests, e, behind) | inr e ↦ grind (arith, nat_tests, e, behind) ] in
        rw other refl

-- the root cell's write is what it leads to
root_named : (h : Header) (w : CellWrite) → w.target ≡ root_place h → first_page_of (with_cell h w) ≡ w.cell
root_named h w root =
    let there : (w.target == root_place h) ≡ true = grind (arith, nat_tests, root) in
    elim (cases_Bool (h.form == 2)) [
      | inl form ↦
          let is : with_cell h w ≡ record h { block_root = w.cell } = rw (there, form) refl in
          let leads : first_page_of (record h { block_root = w.cell }) ≡ w.cell = rw form refl in
          ap first_page_of is ∙ leads
      | inr form ↦
          let is : with_cell h w ≡ record h { root = w.cell } = rw (there, form) refl in
          let leads : first_page_of (record h { root = w.cell }) ≡ w.cell = rw form refl in
          ap first_page_of is ∙ leads
    ]

first_then : (h : Header) (old : List Page) (added : List NewPage) (ws : List CellWrite) → first_page_of h ≡ first_of old → All (λ w. 128 ≤ w.target) ws → first_page_of (with_cells h (root_writes h added ++ ws)) ≡ first_of (with_added added old)
first_then h old [] ws was far = ap first_page_of (header_stays h ws far) ∙ was
first_then h old (a ∷ more) ws was far =
    let w : CellWrite = record { target = root_place h; cell = first_of (with_added (a ∷ more) old) } in
    (λ i. first_page_of (with_cells h (root_is h (a ∷ more) old (omega arith) i ++ ws))) ∙ ap first_page_of (header_stays (with_cell h w) ws far) ∙ root_named h w refl

-- a chain begins with its first page
first_was : (unit : ℕ) (image : List ℕ) (root : Cell) (pages : List Page) → Chain unit image root pages → root ≡ first_of pages
first_was unit image root [] chain = chain
first_was unit image root (p ∷ ps) chain = chain.0.place

-- ---- the added pages among the new ones

added_at : (ps : List Pointing) (added : List NewPage) (pages : List Page) → AreMissing pages added → All (λ a. (q : Page) × (page_of (set_all ps (with_added added pages)) a.space a.index ≡ Some q) × (q.at ≡ a.at)) added
added_at ps [] pages missing = All-nil (λ (a : NewPage). (q : Page) × (page_of (set_all ps (with_added [] pages)) a.space a.index ≡ Some q) × (q.at ≡ a.at))
added_at ps (a ∷ more) pages missing =
    let p = empty_page a.space a.index a.at (first_of pages) in
    All-cons (λ (x : NewPage). (q : Page) × (page_of (set_all ps (with_added (a ∷ more) pages)) x.space x.index ≡ Some q) × (q.at ≡ x.at)) a more
    (with_pointings ps p, page_then ps a more pages missing, ap (λ (x : Page). x.at) (face_stays ps p))
    (added_at ps more (p ∷ pages) (missing_front pages a more missing))

-- what holds of all things holds of their places
places_hold : (P : Cell → Type 0) (ps : List Pointing) (added : List NewPage) (pages : List Page) → AreMissing pages added → All P (things_of (set_all ps (with_added added pages))) → All (λ a. P (record { at = a.at; len = 1024 })) added
places_hold P ps added pages missing all k d lt =
    let a = get_or added k d in
    let is = added_at ps added pages missing k d lt in
    let found = found_is (is_page a.space a.index) (set_all ps (with_added added pages)) is.0 is.1 in
    subst (λ n. P (record { at = n; len = 1024 })) is.2 (All-contains (λ (q : Page). P (place_of q)) (set_all ps (with_added added pages)) is.0 (of_pages P (set_all ps (with_added added pages)) all) found.0)

-- ---- the cells' numbers have 32 bits

cells_fit : (ps : List Pointing) → All (λ p. FitsCell p.cell) ps → All (λ w. FitsCell w.cell) (writes_of ps)
cells_fit [] fits = All-nil (λ (w : CellWrite). FitsCell w.cell)
cells_fit (p ∷ ps) fits =
    All-append (λ (w : CellWrite). FitsCell w.cell) (option_to_list (write_of p)) (writes_of ps) (one p.target) (cells_fit ps (All-tail (λ (x : Pointing). FitsCell x.cell) p ps fits))
  where
    one : (t : Option ℕ) → All (λ (w : CellWrite). FitsCell w.cell) (option_to_list (option_map (λ target. record { target = target; cell = p.cell }) t))
    one None = All-nil (λ (w : CellWrite). FitsCell w.cell)
    one (Some target) = All-cons (λ (w : CellWrite). FitsCell w.cell) (record { target = target; cell = p.cell }) [] (All-head (λ (x : Pointing). FitsCell x.cell) p ps fits) (All-nil (λ (w : CellWrite). FitsCell w.cell))

pub fits_writes : (h : Header) (added : List NewPage) (ps : List Pointing) → All (λ p. FitsCell p.cell) ps → All (λ a. a.at ≤ 2147483647) added → All (λ w. FitsCell w.cell) (root_writes h added ++ writes_of ps)
fits_writes h added ps fits addresses =
    All-append (λ (w : CellWrite). FitsCell w.cell) (root_writes h added) (writes_of ps)
    (root_all (λ (w : CellWrite). FitsCell w.cell) h added (λ k a lt. record { at = omega (arith, addresses k a lt); len = omega arith }))
    (cells_fit ps fits)

-- ---- the commit

module _ (h : Header) (old : List Page) (added : List NewPage) (ps : List Pointing) (place : Cell) (e : Disk) (holds : Holds h old e) (apart_pages : AllPairs (AreApart (unit_of h)) (with_added added old)) (missing : AreMissing old added)
    (numbers : All (λ p. (1 ≤ p.id.number) × (p.id.number ≤ 2147483646)) ps) (fits : All (λ p. FitsCell p.cell) ps) (targets : AreAt (unit_of h) old ps) (addresses : All (λ a. a.at ≤ 2147483647) added) (some : 1 ≤ place.len)
    (once_old : (k : ℕ) → owners (unit_of h) (place ∷ header_cell ∷ things_of old) k ≤ 1) (once_new : (k : ℕ) → owners (unit_of h) (place ∷ header_cell ∷ things_of (set_all ps (with_added added old))) k ≤ 1)
    (inside : All (LiesIn (unit_of h) (length e.bytes)) (things_of (set_all ps (with_added added old)))) (stand : All (StandsWhole (unit_of h) e.bytes (set_all ps (with_added added old))) added) (room : place.at + blocks (unit_of h) place.len ≤ room_of h) where
  pos : 0 < unit_of h
  pos = unit_some h holds.header.in_range

  long : 128 ≤ length e.bytes
  long = holds.header.long

  -- ---- what lies beside the header

  some_old : All (λ (c : Cell). 1 ≤ c.len) (things_of old)
  some_old k c lt = (holds.inside k c lt).some

  some_new : All (λ (c : Cell). 1 ≤ c.len) (things_of (set_all ps (with_added added old)))
  some_new k c lt = (inside k c lt).some

  no_log : (k : ℕ) → owners (unit_of h) (header_cell ∷ things_of (set_all ps (with_added added old))) k ≤ 1
  no_log k = omega (arith, once_new k, sum_by-cons (λ c. cond (owns (unit_of h) k c) 1 0) place (header_cell ∷ things_of (set_all ps (with_added added old))))

  beside_old : All (IsBeside (unit_of h) (0 * unit_of h) 128) (things_of old)
  beside_old = beside_first (unit_of h) header_cell (things_of old) pos (omega arith) some_old holds.apart

  beside_new : All (IsBeside (unit_of h) (0 * unit_of h) 128) (things_of (set_all ps (with_added added old)))
  beside_new = beside_first (unit_of h) header_cell (things_of (set_all ps (with_added added old))) pos (omega arith) some_new no_log

  behind : 128 ≤ log_at (with_log h place)
  behind =
      let all_some = All-cons (λ (c : Cell). 1 ≤ c.len) header_cell (things_of (set_all ps (with_added added old))) (omega arith) some_new in
      elim (All-head (IsBeside (unit_of h) (place.at * unit_of h) place.len) header_cell (things_of (set_all ps (with_added added old))) (beside_first (unit_of h) place (header_cell ∷ things_of (set_all ps (with_added added old))) pos some all_some once_new)) [
        | inl before ↦ omega (arith, before)
        | inr after ↦ absurd (omega (arith, after, some))
      ]

  -- ---- where the cells stand

  once_log : (ws : List CellWrite) (k : ℕ) → owners (unit_of h) (header_cell ∷ log_things (with_log h place) ws ++ things_of (set_all ps (with_added added old))) k ≤ 1
  once_log [] k = no_log k
  once_log (w ∷ ws) k =
      let own : Cell → ℕ = λ c. cond (owns (unit_of h) k c) 1 0 in
      let things = things_of (set_all ps (with_added added old)) in
      omega (arith, once_new k, sum_by-cons own place (header_cell ∷ things), sum_by-cons own header_cell things, sum_by-cons own header_cell (place ∷ things), sum_by-cons own place things)

  -- in a file that is as long or longer
  things : (len : ℕ) → length e.bytes ≤ len → HasThings (with_log h place) (root_writes h added ++ writes_of ps) (set_all ps (with_added added old)) len
  things len le = record {
    inside = λ k c lt. record { some = (inside k c lt).some; inside = omega (arith, (inside k c lt).inside, le) };
    apart = once_log (root_writes h added ++ writes_of ps);
    targets = targets_new h old added ps missing targets;
  }

  suit : All (SuitsTarget (with_log h place) (length e.bytes)) (root_writes h added ++ writes_of ps)
  suit = suits (with_log h place) (set_all ps (with_added added old)) (length e.bytes) pos (root_writes h added ++ writes_of ps) (things (length e.bytes) (omega arith))

  are : AreTargets (with_log h place) (length e.bytes) (root_writes h added ++ writes_of ps)
  are =
      let end = max (length e.bytes) (log_at (with_log h place) + place.len) in
      let far = are_targets (with_log h place) (set_all ps (with_added added old)) end pos (root_writes h added ++ writes_of ps) (things end (omega arith)) (omega (arith, long)) behind (log_in end (omega arith) (root_writes h added ++ writes_of ps)) in
      record { within = suits_within (with_log h place) (length e.bytes) (root_writes h added ++ writes_of ps) long suit; gate = far.gate; cell = far.cell; place = far.place }
    where
      log_in : (end : ℕ) → log_at (with_log h place) + place.len ≤ end → (ws : List CellWrite) → All (LiesIn (unit_of h) end) (log_things (with_log h place) ws)
      log_in end le [] = All-nil (LiesIn (unit_of h) end)
      log_in end le (w ∷ ws) = All-cons (LiesIn (unit_of h) end) place [] (record { some = some; inside = le }) (All-nil (LiesIn (unit_of h) end))

  -- ---- the file with the root cell

  root_within : AllWithin (length e.bytes) (root_writes h added)
  root_within = suits_within h (length e.bytes) (root_writes h added) long (root_all (SuitsTarget h (length e.bytes)) h added (λ k a lt. inl refl))

  rooted_size : length (put_cells (root_writes h added) e.bytes) ≡ length e.bytes
  rooted_size = length-put (root_writes h added) e.bytes root_within

  rooted_same : (k : ℕ) → 128 ≤ k → get_or (put_cells (root_writes h added) e.bytes) k 0 ≡ get_or e.bytes k 0
  rooted_same k far = put_out (root_writes h added) e.bytes k root_within (far_apart (root_writes h added) k far (root_low h added))

  -- a thing beside the header has its bytes still
  alike : (c : Cell) → 1 ≤ c.len → IsBeside (unit_of h) (0 * unit_of h) 128 c → IsAlike (unit_of h) e.bytes (put_cells (root_writes h added) e.bytes) c
  alike c some beside k ge below = rooted_same k (elim beside [ inl before ↦ absurd (omega (arith, before, some)) | inr after ↦ omega (arith, after, ge) ])

  first_is : first_page_of h ≡ first_of old
  first_is = first_was (unit_of h) e.bytes (first_page_of h) old holds.chain.chain

  old_rooted : HasPages (unit_of h) (put_cells (root_writes h added) e.bytes) (first_of old) old
  old_rooted = pages_alike (unit_of h) e.bytes (put_cells (root_writes h added) e.bytes) old holds.inside
      (λ k c lt. record { some = (holds.inside k c lt).some; inside = omega (arith, (holds.inside k c lt).inside, rooted_size) })
      (λ k c lt. alike (get_or (things_of old) k c) (some_old k c lt) (beside_old k c lt))
      (first_of old) (subst (λ r. HasPages (unit_of h) e.bytes r old) first_is holds.chain)

  stand_rooted : All (StandsWhole (unit_of h) (put_cells (root_writes h added) e.bytes) (set_all ps (with_added added old))) added
  stand_rooted k d lt =
      let a = get_or added k d in
      let s = stand k d lt in
      let beside = places_hold (IsBeside (unit_of h) (0 * unit_of h) 128) ps added old missing beside_new k d lt in
      let same : page_at (unit_of h) (put_cells (root_writes h added) e.bytes) a.at ≡ page_at (unit_of h) e.bytes a.at
      = slice_same (a.at * unit_of h) 1024 e.bytes (put_cells (root_writes h added) e.bytes) s.2 (omega (arith, s.2, rooted_size)) (alike (record { at = a.at; len = 1024 }) (omega arith) beside) in
      (s.0, s.1, omega (arith, s.2, rooted_size), subst (SpellsPage s.0) (sym same) s.3)

  -- ---- the chain

  far_cells : All (λ w. 128 ≤ w.target) (writes_of ps)
  far_cells k d lt =
      let in_page = writes_within (unit_of h) old ps targets k d lt in
      elim (All-contains (λ (p : Page). IsBeside (unit_of h) (0 * unit_of h) 128 (place_of p)) old in_page.0 (of_pages (IsBeside (unit_of h) (0 * unit_of h) 128) old beside_old) in_page.1) [
        | inl before ↦ absurd (omega (arith, before))
        | inr after ↦ omega (arith, after, in_page.2)
      ]

  fields_then : fields (put_cells (root_writes h added ++ writes_of ps) e.bytes) ≡ with_cells h (root_writes h added ++ writes_of ps)
  fields_then =
      fields_put (root_writes h added ++ writes_of ps) e.bytes long (subst (λ x. All (SuitsTarget x (length e.bytes)) (root_writes h added ++ writes_of ps)) holds.header.fields suit) (fits_writes h added ps fits addresses)
      ∙ ap (λ x. with_cells x (root_writes h added ++ writes_of ps)) (sym holds.header.fields)

  root_then : first_of (with_added added old) ≡ first_page_of (fields (put_cells (root_writes h added ++ writes_of ps) e.bytes))
  root_then = sym (ap first_page_of fields_then ∙ first_then h old added (writes_of ps) first_is far_cells)

  chain : HasPages (unit_of h) (put_cells (root_writes h added ++ writes_of ps) e.bytes) (first_page_of (fields (put_cells (root_writes h added ++ writes_of ps) e.bytes))) (set_all ps (with_added added old))
  chain =
      subst (λ r. HasPages (unit_of h) (put_cells (root_writes h added ++ writes_of ps) e.bytes) r (set_all ps (with_added added old))) root_then
      (subst (λ b. HasPages (unit_of h) b (first_of (with_added added old)) (set_all ps (with_added added old))) (sym (put_both (root_writes h added) (writes_of ps) e.bytes))
      (pages_then (unit_of h) (put_cells (root_writes h added) e.bytes) old added ps old_rooted (pairs_old (AreApart (unit_of h)) added old apart_pages) missing addresses numbers targets fits stand_rooted (clear_new (unit_of h) old added ps targets apart_pages)))

  -- ---- all of it

  pub commit_made : IsCommit h old (set_all ps (with_added added old)) place (root_writes h added ++ writes_of ps) e
  commit_made = record {
    some = some;
    behind = behind;
    room =
        let both = blocks_max (unit_of h) e.top (log_at (with_log h place) + place.len) pos in
        let log = blocks_from (unit_of h) place.at place.len pos in
        omega (arith, both, log, holds.room, room);
    targets = are;
    own = λ k is. own_apart (with_log h place) (length e.bytes) k (root_writes h added ++ writes_of ps) is suit;
    old_apart = once_old;
    apart = once_new;
    inside = inside;
    chain = chain;
    targets_are = targets_new h old added ps missing targets;
  }
