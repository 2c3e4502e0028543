-- The file once a commit's log is put in and its gate is closed: it holds the new pages.
use Rattle.std.proofs.Common.{◌≡◌, ◌≢◌, ◌∙◌, inl, inr, ℕ, ◌+◌, ◌*◌, ◌<◌, ◌≤◌, max, cond, List, [], ◌∷◌, ◌++◌, length, get_or, drop, refl, sym, ap, subst, subst₂, arith}
use Rattle.std.specs.Prelude.{All}
use Rattle.std.proofs.lemmas.Bool.{cases_eq, cases_lt}
use Rattle.std.proofs.lemmas.List.Sums.{sum_by-cons}
use Rattle.oc_layout.specs.declared.cells.Cell.{Cell}
use Rattle.oc_layout.specs.declared.cells.CellWrite.{CellWrite}
use Rattle.oc_layout.specs.declared.cells.Header.{Header}
use Rattle.oc_layout.specs.Layout.{unit_of, is_wide, blocks, write_len, first_cell, log_bytes, FitsCell}
use Rattle.oc_layout.specs.Headers.{fields}
use Rattle.oc_host.specs.Disk.{Disk, IsDisk, IsSynced, Apart, over}
use Rattle.oc_log.specs.Log.{with_log, put_cells, log_at, padded, staged, Clear, AllWithin}
use Rattle.oc_log.specs.States.{MayPrepare}
use Rattle.oc_log.specs.Stops.{HasAll}
use Rattle.oc_log.proofs.Bytes.{length-over, length-padded, length-over-in, over_out, over_in, length-put, put_out, put_same_in}
use Rattle.oc_log.proofs.FourCalls.{long, stays, within}
use Rattle.oc_log.proofs.Stages.{settled_closed, gate_apart}
use Rattle.oc_pages.specs.declared.page.Page.{Page}
use Rattle.oc_pages.specs.Pages.{pointer_of, things_of}
use Rattle.oc_room.specs.Rooms.{owns, owners}
use Rattle.oc_slots.specs.Attaching.{SuitsTarget, HasThings, with_cells}
use Rattle.oc_slots.specs.Commits.{IsCommit}
use Rattle.oc_slots.specs.Forms.{HasForm, header_cell, log_things, root_place}
use Rattle.oc_slots.specs.Held.{Holds, map_of}
use Rattle.oc_slots.specs.Maps.{Same, content}
use Rattle.oc_slots.proofs.Committing.{shut_form, shut_slots}
use Rattle.oc_slots.proofs.Formed.{formed_holds}
use Rattle.oc_slots.proofs.FormParts.{suits, fields_put, cells_kept, written}
use Rattle.oc_slots.proofs.Headers.{unit_some, number_same, cell_same, fields_same}

module _ (h : Header) (old new : List Page) (e : Disk) (holds : Holds h old e) (place : Cell) (cells : List CellWrite) (is : IsCommit h old new place cells e)
    (len : place.len ≡ 4 + write_len (is_wide h) * length cells) (begins : place.at ≤ blocks (unit_of h) (length e.bytes)) (fits : All (λ w. FitsCell w.cell) cells) (fits_place : FitsCell place) where
  -- the log may be written
  pub may : MayPrepare (with_log h place) cells e
  may = record {
    long = holds.header.long;
    closed = λ one. holds.closed (ap (λ (x : Header). x.gate) holds.header.fields ∙ one);
    gate = holds.held 0 header_cell (omega arith) 64 (omega arith) (omega arith);
    behind = is.behind;
    begins = begins;
    targets = is.targets;
  }

  -- the file with its log, behind an open gate, and in the end
  abbrev logged : List ℕ
  logged = staged (with_log h place) cells e.bytes

  abbrev opened : List ℕ
  opened = over 64 (1 ∷ []) (staged (with_log h place) cells e.bytes)

  abbrev final : List ℕ
  final = over 64 (0 ∷ []) (put_cells cells (over 64 (1 ∷ []) (staged (with_log h place) cells e.bytes)))

  logged_size : length (staged (with_log h place) cells e.bytes) ≡ max (length e.bytes) (log_at (with_log h place) + place.len)
  logged_size = long (with_log h place) cells e len holds.disk may

  at_gate : 65 ≤ length (staged (with_log h place) cells e.bytes)
  at_gate = omega (arith, logged_size, holds.header.long)

  opened_size : length (over 64 (1 ∷ []) (staged (with_log h place) cells e.bytes)) ≡ length (staged (with_log h place) cells e.bytes)
  opened_size = length-over-in 64 (1 ∷ []) (staged (with_log h place) cells e.bytes) (omega (arith, at_gate))

  within_opened : AllWithin (length (over 64 (1 ∷ []) (staged (with_log h place) cells e.bytes))) cells
  within_opened = subst (λ n. AllWithin n cells) (sym opened_size) (within (with_log h place) cells e len holds.disk may)

  put_size : length (put_cells cells (over 64 (1 ∷ []) (staged (with_log h place) cells e.bytes))) ≡ length (staged (with_log h place) cells e.bytes)
  put_size = length-put cells (over 64 (1 ∷ []) (staged (with_log h place) cells e.bytes)) within_opened ∙ opened_size

  pub size : length (over 64 (0 ∷ []) (put_cells cells (over 64 (1 ∷ []) (staged (with_log h place) cells e.bytes)))) ≡ max (length e.bytes) (log_at (with_log h place) + place.len)
  size = length-over-in 64 (0 ∷ []) (put_cells cells (over 64 (1 ∷ []) (staged (with_log h place) cells e.bytes))) (omega (arith, put_size, at_gate)) ∙ put_size ∙ logged_size

  gate_is : get_or final 64 0 ≡ 0
  gate_is = over_in 64 (0 ∷ []) (put_cells cells (over 64 (1 ∷ []) (staged (with_log h place) cells e.bytes))) 64 (omega (arith, put_size, at_gate)) (omega arith) (omega arith)

  closed : get_or final 64 0 ≢ 1
  closed one = omega (arith, one, gate_is)

  beside_gate : (k : ℕ) → Apart k 64 1 → get_or final k 0 ≡ get_or (put_cells cells (over 64 (1 ∷ []) (staged (with_log h place) cells e.bytes))) k 0
  beside_gate k apart = over_out 64 (0 ∷ []) (put_cells cells (over 64 (1 ∷ []) (staged (with_log h place) cells e.bytes))) k (omega (arith, put_size, at_gate)) apart

  opened_same : (k : ℕ) → Apart k 64 1 → get_or (over 64 (1 ∷ []) (staged (with_log h place) cells e.bytes)) k 0 ≡ get_or (staged (with_log h place) cells e.bytes) k 0
  opened_same k apart = over_out 64 (1 ∷ []) (staged (with_log h place) cells e.bytes) k (omega (arith, at_gate)) apart

  -- outside the log, its cell and the gate it reads as the file with the cells
  same : (k : ℕ) → Clear (with_log h place) k → get_or final k 0 ≡ get_or (put_cells cells e.bytes) k 0
  same k clear =
      beside_gate k clear.2
      ∙ put_same_in cells e.bytes (over 64 (1 ∷ []) (staged (with_log h place) cells e.bytes)) k is.targets.within within_opened (λ out. opened_same k clear.2 ∙ stays (with_log h place) cells e len holds.disk may k clear)

  all : HasAll (with_log h place) cells e final e.said
  all = record {
    told = refl;
    size = ap length (settled_closed (with_log h place) final closed) ∙ size;
    same = λ k lt clear. ap (λ (l : List ℕ). get_or l k 0) (settled_closed (with_log h place) final closed) ∙ same k clear;
    log = λ one. absurd (closed one);
  }

  form : HasForm (fields final) [] new final
  form = shut_form h old new e holds place cells is final e.said all closed

  -- ---- its header

  -- the file with its log and a closed gate
  abbrev resting : List ℕ
  resting = over 64 (0 ∷ []) (staged (with_log h place) cells e.bytes)

  resting_size : length (over 64 (0 ∷ []) (staged (with_log h place) cells e.bytes)) ≡ length (staged (with_log h place) cells e.bytes)
  resting_size = length-over-in 64 (0 ∷ []) (staged (with_log h place) cells e.bytes) (omega (arith, at_gate))

  within_resting : AllWithin (length (over 64 (0 ∷ []) (staged (with_log h place) cells e.bytes))) cells
  within_resting = subst (λ n. AllWithin n cells) (sym resting_size) (within (with_log h place) cells e len holds.disk may)

  low : (k : ℕ) → get_or final k 0 ≡ get_or (put_cells cells (over 64 (0 ∷ []) (staged (with_log h place) cells e.bytes))) k 0
  low k = elim (cases_eq k 64) [
    | inl at ↦
        (λ i. get_or final (at i) 0) ∙ gate_is
        ∙ sym ((λ i. get_or (put_cells cells resting) (at i) 0) ∙ put_out cells resting 64 within_resting (gate_apart (with_log h place) (length e.bytes) cells is.targets)
        ∙ over_in 64 (0 ∷ []) (staged (with_log h place) cells e.bytes) 64 (omega (arith, at_gate)) (omega arith) (omega arith))
    | inr other ↦
        let apart : Apart k 64 1 = elim (cases_lt k 64) [ inl below ↦ inl below | inr ge ↦ inr (omega (arith, ge, other)) ] in
        beside_gate k apart
        ∙ put_same_in cells resting opened k within_resting within_opened (λ out. opened_same k apart ∙ sym (over_out 64 (0 ∷ []) (staged (with_log h place) cells e.bytes) k (omega (arith, at_gate)) apart))
  ]

  resting_same : (k : ℕ) → k < 128 → Apart k 32 8 → Apart k 64 1 → get_or resting k 0 ≡ get_or e.bytes k 0
  resting_same k lt cell gate =
      over_out 64 (0 ∷ []) (staged (with_log h place) cells e.bytes) k (omega (arith, at_gate)) gate
      ∙ stays (with_log h place) cells e len holds.disk may k (inl (omega (arith, lt, is.behind)), cell, gate)

  fields_resting : fields resting ≡ record (with_log h place) { gate = 0 }
  fields_resting = rested ∙ (λ i. record (sym holds.header.fields i) { log = place; gate = 0 })
    where
      rested : fields resting ≡ record (fields e.bytes) { log = place; gate = 0 }
      rested i = record {
        limit = number_same e.bytes resting 8 (λ k ge lt. resting_same k (omega (arith, lt)) (inl (omega (arith, lt))) (inl (omega (arith, lt)))) i;
        first = number_same e.bytes resting 12 (λ k ge lt. resting_same k (omega (arith, lt)) (inl (omega (arith, lt))) (inl (omega (arith, lt)))) i;
        root = cell_same e.bytes resting 16 (λ k ge lt. resting_same k (omega (arith, lt)) (inl (omega (arith, lt))) (inl (omega (arith, lt)))) i;
        log = log_is i;
        gate = over_in 64 (0 ∷ []) (staged (with_log h place) cells e.bytes) 64 (omega (arith, at_gate)) (omega arith) (omega arith) i;
        block = number_same e.bytes resting 40 (λ k ge lt. resting_same k (omega (arith, lt)) (inr (omega (arith, ge))) (inl (omega (arith, lt)))) i;
        block_limit = number_same e.bytes resting 44 (λ k ge lt. resting_same k (omega (arith, lt)) (inr (omega (arith, ge))) (inl (omega (arith, lt)))) i;
        block_root = cell_same e.bytes resting 48 (λ k ge lt. resting_same k (omega (arith, lt)) (inr (omega (arith, ge))) (inl (omega (arith, lt)))) i;
        spare = cell_same e.bytes resting 56 (λ k ge lt. resting_same k (omega (arith, lt)) (inr (omega (arith, ge))) (inl (omega (arith, lt)))) i;
        form = resting_same 65 (omega arith) (inr (omega arith)) (inr (omega arith)) i;
      }
        where
          log_is : first_cell (drop 32 resting) ≡ place
          log_is =
              let base = over (log_at (with_log h place)) (log_bytes (is_wide h) cells) (padded (log_at (with_log h place)) e.bytes) in
              let padding = length-padded (log_at (with_log h place)) e.bytes in
              let base_size = length-over (log_at (with_log h place)) (log_bytes (is_wide h) cells) (padded (log_at (with_log h place)) e.bytes) (omega (arith, padding)) in
              cell_same (staged (with_log h place) cells e.bytes) resting 32 (λ k ge lt. over_out 64 (0 ∷ []) (staged (with_log h place) cells e.bytes) k (omega (arith, at_gate)) (inl (omega (arith, lt))))
              ∙ written base (record { target = 32; cell = place }) (omega (arith, base_size, padding, holds.header.long)) fits_place

  things : HasThings (with_log h place) cells new (length e.bytes)
  things = record {
    inside = is.inside;
    apart = λ k. once cells k;
    targets = is.targets_are;
  }
    where
      once : (ws : List CellWrite) (k : ℕ) → owners (unit_of h) (header_cell ∷ log_things (with_log h place) ws ++ things_of new) k ≤ 1
      once [] k = omega (arith, is.apart k, sum_by-cons (λ c. cond (owns (unit_of h) k c) 1 0) place (header_cell ∷ things_of new))
      once (w ∷ ws) k =
          let own : Cell → ℕ = λ c. cond (owns (unit_of h) k c) 1 0 in
          omega (arith, is.apart k, sum_by-cons own place (header_cell ∷ things_of new), sum_by-cons own header_cell (things_of new), sum_by-cons own header_cell (place ∷ things_of new), sum_by-cons own place (things_of new))

  suit : All (SuitsTarget (fields resting) (length resting)) cells
  suit k w lt = elim (suits (with_log h place) new (length e.bytes) (unit_some h holds.header.in_range) cells things k w lt) [
    | inl root ↦ inl (root ∙ ap root_place (sym fields_resting))
    | inr lies ↦ inr (lies.0, omega (arith, lies.1, resting_size, logged_size))
  ]

  -- the header is the old one but for the log, the gate and what the cells make of the root
  pub header_is : fields final ≡ with_cells (record (with_log h place) { gate = 0 }) cells
  header_is =
      fields_same (put_cells cells resting) final (λ k lt. low k)
      ∙ fields_put cells resting (omega (arith, resting_size, logged_size, holds.header.long)) suit fits
      ∙ ap (λ x. with_cells x cells) fields_resting

  -- ---- the new pages are held

  module _ (f : Disk) (bytes : f.bytes ≡ final) (synced : IsSynced f) (sound : IsDisk f) where
    pub holds_new : Holds (with_cells (record (with_log h place) { gate = 0 }) cells) new f
    holds_new = formed_holds (with_cells (record (with_log h place) { gate = 0 }) cells) new f (subst₂ (λ x b. HasForm x [] new b) header_is (sym bytes) form) synced sound
        (λ one. omega (arith, one, ap (λ (x : Header). x.gate) (cells_kept cells (record (with_log h place) { gate = 0 }))))

    pub map_new : Same (map_of (with_cells (record (with_log h place) { gate = 0 }) cells) new f.bytes) (map_of h new (put_cells cells e.bytes))
    map_new id = (λ i. content (unit_of (sym header_is i)) (bytes i) (pointer_of new id.space id.number)) ∙ sym (shut_slots h old new e holds place cells is final e.said all closed id)

    pub size_new : length f.bytes ≡ max (length e.bytes) (log_at (with_log h place) + place.len)
    size_new = ap length bytes ∙ size
