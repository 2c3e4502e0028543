-- The log of a commit can be written.
use Rattle.std.proofs.Common.{◌≡◌, ◌∙◌, ℕ, ◌+◌, ◌*◌, ◌<◌, ◌≤◌, ◌^◌, ◌==◌, ◌&&◌, Bool, true, false, cond, List, [], ◌∷◌, ◌++◌, length, map, replicate, Option, Some, None, sym, ap, subst, refl, arith}
use Rattle.std.specs.Prelude.{All, IsSome, IsTrue, if◌then◌else◌, option_map}
use Rattle.std.specs.Option.{option_to_list}
use Rattle.std.proofs.Math.Nat.{mul-le-mul_left}
use Rattle.std.proofs.lemmas.Bool.Decides.{nat_tests}
use Rattle.std.proofs.lemmas.List.{get_or-map, length-map}
use Rattle.std.proofs.lemmas.List.Elements.{All-append, All-cons, All-nil, All-tail, All-take, All-contains}
use Rattle.oc_layout.specs.declared.cells.Cell.{Cell}
use Rattle.oc_layout.specs.declared.cells.CellWrite.{CellWrite}
use Rattle.oc_layout.specs.declared.cells.Header.{Header}
use Rattle.oc_layout.specs.declared.cells.Space.TheVariants.{Objects, System}
use Rattle.oc_layout.specs.Layout.{unit_of, is_wide, write_len, is_below, is_ascending, target_end, FitsCell, FitsWrite, IsLog}
use Rattle.oc_layout.specs.Headers.{is_in_range}
use Rattle.oc_pages.specs.declared.page.Page.{Page}
use Rattle.oc_pages.specs.Order.{AreAscending}
use Rattle.oc_pages.specs.Pages.{Paged, no_cell, slot_in, page_holding, target_of, IsMissing}
use Rattle.oc_room.specs.Rooms.{Space}
use Rattle.oc_slots.specs.declared.new_pages.NewPage.{NewPage}
use Rattle.oc_slots.specs.declared.overlay.Overlay.{Overlay}
use Rattle.oc_slots.specs.declared.placed.PlacedChange.{PlacedChange}
use Rattle.oc_slots.specs.declared.turnover.Pointing.{Pointing}
use Rattle.oc_slots.specs.Forms.{root_place}
use Rattle.oc_slots.specs.Pointings.{write_of, writes_of}
use Rattle.oc_slots.specs.Turnovers.{numbers_in, places_of, root_writes, IsTurnover, AreNew}
use Rattle.oc_slots.specs.Planning.{AreSlotsPlaced, log_length}
use Rattle.oc_slots.proofs.AddedPages.{held_new, count_new, places_new, writes_within, writes_len}
use Rattle.oc_slots.proofs.PlanLengths.{long, last_len}
use Rattle.oc_slots.proofs.PlanGrounds.{pages_behind, pages_inside, few_blocks}

-- what holds of the root cell's write at each of the pages holds of the one that there is
root_all : (P : CellWrite → Type 0) (h : Header) (added : List NewPage) → All (λ a. P (record { target = root_place h; cell = record { at = a.at; len = 1024 } })) added → All P (root_writes h added)
root_all P h [] all = All-nil P
root_all P h (a ∷ []) all = All-cons P (record { target = root_place h; cell = record { at = a.at; len = 1024 } }) [] (all 0 a (omega arith)) (All-nil P)
root_all P h (a ∷ b ∷ bs) all = root_all P h (b ∷ bs) (All-tail (λ (x : NewPage). P (record { target = root_place h; cell = record { at = x.at; len = 1024 } })) a (b ∷ bs) all)

-- the writes' cells are those of the pointings
cells_fit : (ps : List Pointing) → All (λ p. FitsCell p.cell) ps → All (λ w. FitsCell w.cell) (writes_of ps)
cells_fit [] all = All-nil (λ (w : CellWrite). FitsCell w.cell)
cells_fit (p ∷ ps) all =
    All-append (λ (w : CellWrite). FitsCell w.cell) (option_to_list (write_of p)) (writes_of ps) (one p.target) (cells_fit ps (All-tail (λ (x : Pointing). FitsCell x.cell) p ps all))
  where
    one : (t : Option ℕ) → All (λ (w : CellWrite). FitsCell w.cell) (option_to_list (option_map (λ target. record { target = target; cell = p.cell }) t))
    one None = All-nil (λ (w : CellWrite). FitsCell w.cell)
    one (Some target) = All-cons (λ (w : CellWrite). FitsCell w.cell) (record { target = target; cell = p.cell }) [] (all 0 p (omega arith)) (All-nil (λ (w : CellWrite). FitsCell w.cell))

-- a number that has a page has a write
write_some : (unit : ℕ) (pages : List Page) (p : Pointing) (ps : List Pointing) → IsSome (page_holding pages p.id.space p.id.number) → target_of unit pages p.id.space p.id.number ≡ p.target → 1 ≤ length (writes_of (p ∷ ps))
write_some unit pages p ps some is = by_target p.target refl (subst IsSome is (mapped (page_holding pages p.id.space p.id.number) some))
  where
    mapped : (o : Option Page) → IsSome o → IsSome (option_map (λ (q : Page). q.at * unit + 16 + 8 * slot_in q p.id.number) o)
    mapped None some = absurd (cc some)
    mapped (Some q) some = refl

    by_target : (t : Option ℕ) → p.target ≡ t → IsSome t → 1 ≤ length (writes_of (p ∷ ps))
    by_target None e some = absurd (cc some)
    by_target (Some n) e some = rw e (omega arith)

-- the root cell lies in the header
root_low : (h : Header) → root_place h ≤ 48
root_low h = go (h.form == 2) refl
  where
    go : (b : Bool) → (h.form == 2) ≡ b → root_place h ≤ 48
    go true e = rw e (omega arith)
    go false e = rw e (omega arith)

-- the log's targets ascend where those behind the root cell's do
ascend_root : (h : Header) (added : List NewPage) (ws : List CellWrite) → All (λ w. 128 ≤ w.target) ws → IsTrue (is_ascending ws) → IsTrue (is_ascending (root_writes h added ++ ws))
ascend_root h [] ws behind ascend = ascend
ascend_root h (a ∷ []) ws behind ascend = first ws behind ascend
  where
    low : root_place h ≤ 48
    low = root_low h

    first : (ws : List CellWrite) → All (λ w. 128 ≤ w.target) ws → IsTrue (is_ascending ws) → IsTrue (is_below (root_place h) ws && is_ascending ws)
    first [] behind ascend = ascend
    first (w ∷ ws) behind ascend = let far = behind 0 w (omega arith) in grind (arith, nat_tests, low, far, ascend)
ascend_root h (a ∷ b ∷ bs) ws behind ascend = ascend_root h (b ∷ bs) ws behind ascend

-- the bytes of the room have numbers of the log
target_low : (h : Header) (end : ℕ) → is_in_range h ≡ true → end ≤ 2147483647 → end * unit_of h < target_end (is_wide h)
target_low h end range few = go (h.form == 2) refl
  where
    go : (b : Bool) → (h.form == 2) ≡ b → end * unit_of h < target_end (is_wide h)
    go true e =
        let low : unit_of h ≤ 127 = grind (arith, nat_tests, range, e) in
        let most : end * unit_of h ≤ end * 127 = mul-le-mul_left end low in
        let wide : target_end (is_wide h) ≡ 2 ^ 64 = ap target_end e in
        omega (arith, most, wide, few)
    go false e =
        let one : unit_of h ≡ 1 = ap (λ b. cond b h.block 1) e in
        let same : end * unit_of h ≡ end * 1 = ap (λ u. end * u) one in
        let wide : target_end (is_wide h) ≡ 2 ^ 32 = ap target_end e in
        omega (arith, same, wide, few)

some_targets : (wide : Bool) → 48 < target_end wide
some_targets true = omega arith
some_targets false = omega arith

-- the bytes of a write are no fewer than one
more_bytes : (wide : Bool) (n : ℕ) → n ≤ write_len wide * n
more_bytes true n = omega arith
more_bytes false n = omega arith

module _ (h : Header) (pages : Paged) (o : Overlay) (room : Space) (changes : List PlacedChange) (others : ℕ) (s : AreSlotsPlaced h pages o room changes others)
    (p : Pointing) (ps : List Pointing) (freed : List Cell) (t : IsTurnover (unit_of h) pages.pages o changes (p ∷ ps) freed) (objects system : List ℕ)
    (of_objects : AreAscending (IsMissing pages.pages Objects (numbers_in Objects (p ∷ ps))) objects) (of_system : AreAscending (IsMissing pages.pages System (numbers_in System (p ∷ ps))) system) where
  abbrev count : ℕ
  count = length objects + length system

  writes_behind : All (λ w. 128 ≤ w.target) (writes_of (p ∷ ps))
  writes_behind k d lt =
      let there = writes_within (unit_of h) pages.pages (p ∷ ps) t.targets k d lt in
      let behind = All-contains (λ (q : Page). 128 ≤ q.at * unit_of h) pages.pages there.0 (pages_behind h pages o room changes others s) there.1 in
      omega (arith, behind, there.2)

  writes_fit : All (FitsWrite (is_wide h)) (writes_of (p ∷ ps))
  writes_fit k d lt =
      let there = writes_within (unit_of h) pages.pages (p ∷ ps) t.targets k d lt in
      let inside = All-contains (λ (q : Page). q.at * unit_of h + 1024 ≤ room.end * unit_of h) pages.pages there.0 (pages_inside h pages o room changes others s) there.1 in
      record {
        target = omega (arith, inside, there.3, target_low h room.end s.in_range (few_blocks h pages o room changes others s));
        cell = cells_fit (p ∷ ps) t.fits k d lt;
      }

  module _ (cells : List Cell) (added : List NewPage) (lens : map (λ (c : Cell). c.len) cells ≡ replicate count 1024 ++ log_length (is_wide h) count (p ∷ ps) ∷ []) (fits : All FitsCell cells) (new : AreNew objects system cells added) where
    pub is_log : IsLog (is_wide h) (root_writes h added ++ writes_of (p ∷ ps))
    is_log = record {
      some = some added new;
      few = few;
      ascending = ascend_root h added (writes_of (p ∷ ps)) writes_behind t.ascend;
      fits = All-append (FitsWrite (is_wide h)) (root_writes h added) (writes_of (p ∷ ps)) root_fits writes_fit;
    }
      where
        some : (added : List NewPage) → AreNew objects system cells added → 0 < length (root_writes h added ++ writes_of (p ∷ ps))
        some [] new =
            write_some (unit_of h) pages.pages p ps (held_new pages.pages (p ∷ ps) objects system cells [] of_objects of_system new t.numbers 0 p (omega arith)) (t.targets 0 p (omega arith))
        some (a ∷ more) new =
            let there : (length (a ∷ more) == 0) ≡ false = grind (arith, nat_tests) in
            omega (arith, writes_len h (a ∷ more) (p ∷ ps), ap {B = ℕ} (λ b. cond b 0 1) there)

        few : length (root_writes h added ++ writes_of (p ∷ ps)) < 2 ^ 32
        few =
            let all : ℕ = (if count == 0 then 0 else 1) + length (writes_of (p ∷ ps)) in
            let are : length (root_writes h added ++ writes_of (p ∷ ps)) ≡ (if count == 0 then 0 else 1) + length (writes_of (p ∷ ps)) =
            writes_len h added (p ∷ ps) ∙ ap (λ n. (if n == 0 then 0 else 1) + length (writes_of (p ∷ ps))) (count_new objects system cells added new) in
            let bytes = last_len count (log_length (is_wide h) count (p ∷ ps)) cells lens in
            let fit = (fits count no_cell (omega (arith, long count (log_length (is_wide h) count (p ∷ ps)) cells lens))).len in
            omega (arith, are, bytes, fit, more_bytes (is_wide h) ((if count == 0 then 0 else 1) + length (writes_of (p ∷ ps))))

        place_in : NewPage → Cell
        place_in a = record { at = a.at; len = 1024 }

        places_fit : All FitsCell (places_of added)
        places_fit = subst (All FitsCell) (sym (places_new objects system cells added new (log_length (is_wide h) count (p ∷ ps)) lens)) (All-take FitsCell (length added) cells fits)

        root_fits : All (FitsWrite (is_wide h)) (root_writes h added)
        root_fits = root_all (FitsWrite (is_wide h)) h added (λ k d lt. record {
          target = omega (arith, root_low h, some_targets (is_wide h));
          cell = subst FitsCell (get_or-map place_in added k d no_cell lt) (places_fit k no_cell (omega (arith, lt, length-map added place_in)));
        })
