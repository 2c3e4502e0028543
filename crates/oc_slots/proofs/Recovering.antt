-- An open log of a file of the form is put in.
use Rattle.std.proofs.Common.{◌≡◌, ◌≢◌, ◌∙◌, inl, inr, ℕ, ◌+◌, ◌*◌, ◌<◌, ◌≤◌, max, true, false, cond, List, [], ◌∷◌, ◌++◌, length, get_or, Some, None, refl, sym, ap, ap₂, subst, subst₂, arith}
use Rattle.std.specs.Prelude.{All, ◌==◌, ◌&&◌, nat_le, if◌then◌else◌}
use Rattle.std.proofs.lemmas.Bool.{cases_eq, cases_lt}
use Rattle.std.proofs.lemmas.Bool.Decides.{nat_tests}
use Rattle.std.proofs.lemmas.List.{ext_get_or}
use Rattle.std.proofs.lemmas.List.Elements.{All-head, All-tail}
use Rattle.std.proofs.lemmas.List.Sums.{sum_by-cons}
use Rattle.oc_host.specs.Disk.{Disk, IsDisk, IsSynced, Apart, over}
use Rattle.oc_layout.specs.declared.cells.Cell.{Cell}
use Rattle.oc_layout.specs.declared.cells.CellWrite.{CellWrite}
use Rattle.oc_layout.specs.declared.cells.Header.{Header}
use Rattle.oc_layout.specs.Layout.{unit_of, room_of, is_wide, first_page_of, first_cell, blocks, read_writes}
use Rattle.oc_layout.specs.Headers.{fields}
use Rattle.oc_log.specs.Log.{slice, with_log, put_cells, log_at, open_writes, put_found, settled, AllApart, AllWithin, AllClear, AreTargets}
use Rattle.oc_log.specs.States.{HasLog, MayRecover}
use Rattle.oc_log.specs.Stops.{HasAll, Recovers}
use Rattle.oc_log.proofs.Bytes.{length-over-in, length-put, over_out, over_in, put_out, put_same, put_again}
use Rattle.oc_log.proofs.Redo.{open_is}
use Rattle.oc_log.proofs.Stages.{settled_open, gate_apart}
use Rattle.oc_pages.specs.declared.page.Page.{Page}
use Rattle.oc_pages.specs.Pages.{pointer_of, target_of, things_of}
use Rattle.oc_pages.specs.Chains.{HasPages}
use Rattle.oc_room.specs.Rooms.{owns, owners}
use Rattle.oc_slots.specs.Attaching.{IsJudged, SuitsTarget, StillGives, with_cells, with_closed}
use Rattle.oc_slots.specs.Commits.{IsCommit}
use Rattle.oc_slots.specs.Forms.{LiesIn, HasForm, Gives, GivesFrom, IsOwn, header_cell, log_things, root_place}
use Rattle.oc_slots.specs.Held.{IsBeside, Holds, map_of}
use Rattle.oc_slots.specs.Maps.{SlotMap, Same, content}
use Rattle.oc_slots.specs.Slots.{places_in}
use Rattle.oc_slots.specs.Stores.{Slots, Agrees, AreRead}
use Rattle.oc_slots.proofs.Changed.{first_number_same, unit_same, room_same, wide_same, root_same, begins_changed, first_page_same}
use Rattle.oc_slots.proofs.Committing.{gives_new}
use Rattle.oc_slots.proofs.Formed.{formed_holds}
use Rattle.oc_slots.proofs.FormParts.{root_at, cells_kept, fields_with, form_front, form_things, suits}
use Rattle.oc_slots.proofs.FormParts as parts
use Rattle.oc_slots.proofs.Fronts.{one_header, some_same}
use Rattle.oc_slots.proofs.Grounds.{a_log}
use Rattle.oc_slots.proofs.Headers.{unit_some, number_same, cell_same}
use Rattle.oc_slots.proofs.HeldGives.{gives_same}
use Rattle.oc_slots.proofs.OneMap.{one_map}
use Rattle.oc_slots.proofs.Things.{IsAlike, slots_alike, pages_alike}

-- a synced file of these bytes
abbrev rest_disk : List ℕ → List ℕ → Disk
rest_disk bytes said = record { bytes = bytes; synced = bytes; spans = []; top = length bytes; said = said; past = [] }

-- ---- maps that are the same

pub form_gives : (h : Header) (ws : List CellWrite) (pages : List Page) (b : List ℕ) → HasForm h ws pages b → Gives b (λ id. content (unit_of h) (put_cells ws b) (pointer_of pages id.space id.number))
form_gives h ws pages b form = record { header = h; writes = ws; pages = pages; form = form; slots = λ id. refl }

-- ---- logs under headers that say the same of them

settled_alike : (g h : Header) → unit_of g ≡ unit_of h → is_wide g ≡ is_wide h → (b : List ℕ) → settled g b ≡ settled h b
unfolding open_writes
settled_alike g h unit wide b i =
    put_found (if (get_or b 64 0 == 1) && nat_le ((first_cell (slice 32 8 b)).at * unit i + (first_cell (slice 32 8 b)).len) (length b) then read_writes (wide i) (slice ((first_cell (slice 32 8 b)).at * unit i) (first_cell (slice 32 8 b)).len b) else None) b

log_moved : (g h : Header) (ws : List CellWrite) (b : List ℕ) → unit_of g ≡ unit_of h → is_wide g ≡ is_wide h → g.log ≡ h.log → HasLog h ws b → HasLog g ws b
log_moved g h ws b unit wide log has = record {
  long = has.long;
  cell = has.cell ∙ sym log;
  inside = subst (λ n. n ≤ length b) (sym (ap₂ {C = ℕ} (λ a c. a + c) at len)) has.inside;
  log = (λ i. read_writes (wide i) (slice (at i) (len i) b)) ∙ has.log;
  targets = targets_moved (length b) has.targets;
}
  where
    at : log_at g ≡ log_at h
    at i = (log i).at * unit i

    len : g.log.len ≡ h.log.len
    len = ap (λ (c : Cell). c.len) log

    targets_moved : (n : ℕ) → AreTargets h n ws → AreTargets g n ws
    targets_moved n t = record { within = t.within; gate = t.gate; cell = t.cell; place = subst (λ m. AllClear m g.log.len ws) (sym at) (subst (λ m. AllClear (log_at h) m ws) (sym len) t.place) }

-- the header's own bytes are in no target
pub own_apart : (h : Header) (len k : ℕ) (ws : List CellWrite) → IsOwn h k → All (SuitsTarget h len) ws → AllApart k ws
own_apart h len k [] own suit = tt
own_apart h len k (w ∷ ws) own suit = (
  elim (All-head (SuitsTarget h len) w ws suit) [
    | inl root ↦ subst (λ t. Apart k t 8) (sym root) own.3
    | inr lies ↦ inl (omega (arith, own.0, lies.0))
  ],
  own_apart h len k ws own (All-tail (SuitsTarget h len) w ws suit),
)

module _ (h : Header) (ws : List CellWrite) (s : Slots) (b : List ℕ) (is : IsJudged h ws s b) where
  form : HasForm h ws s.pages b
  form = is.form

  pos : 0 < unit_of h
  pos = unit_some h form.header.in_range

  suit : All (SuitsTarget h (length b)) ws
  suit = suits h s.pages (length b) pos ws (form_things h ws s.pages b form)

  beside : All (IsBeside (unit_of h) (0 * unit_of h) 128) (things_of s.pages)
  beside = parts.beside_header h s.pages (length b) pos ws (form_things h ws s.pages b form)

  -- ---- behind a closed gate

  module _ (closed : h.gate ≢ 1) where
    none : ws ≡ []
    none = elim form.log [ inl shut ↦ shut.1 | inr opened ↦ absurd (closed (ap (λ (x : Header). x.gate) form.header.fields ∙ opened.0)) ]

    header_closed : s.header ≡ h
    header_closed = is.header ∙ ap (λ l. with_closed (with_cells h l)) none ∙ stays
      where
        stays : with_closed h ≡ h
        stays = let test : (h.gate == 1) ≡ false = grind (arith, nat_tests, closed) in rw test refl

    pub closed_form : HasForm s.header [] s.pages b
    closed_form = subst (λ x. HasForm x [] s.pages b) (sym header_closed) (subst (λ l. HasForm h l s.pages b) none form)

    pub closed_gate : s.header.gate ≢ 1
    closed_gate = subst (λ (x : Header). x.gate ≢ 1) (sym header_closed) closed

  -- ---- behind an open one

  module _ (gate : h.gate ≡ 1) where
    opened : (get_or b 64 0 ≡ 1) × (128 ≤ log_at h) × HasLog h ws b
    opened = elim form.log [ inl shut ↦ absurd (shut.0 (sym (ap (λ (x : Header). x.gate) form.header.fields) ∙ gate)) | inr found ↦ found ]

    has : HasLog h ws b
    has = opened.2

    pub open_log : open_writes h b ≡ Some ws
    open_log = open_is h b has.cell opened.0 has.inside (Some ws) has.log

    pub settled_is : settled h b ≡ put_cells ws b
    settled_is = settled_open h ws b has opened.0

    pub may_recover : (d : Disk) → d.bytes ≡ b → IsSynced d → MayRecover h d
    may_recover d file synced = record {
      synced = synced;
      long = subst (λ l. 128 ≤ length l) (sym file) has.long;
      gate = ap (λ (l : List ℕ). get_or l 64 0) file ∙ sym (ap (λ (x : Header). x.gate) form.header.fields);
      cell = ap (λ l. first_cell (slice 32 8 l)) file ∙ has.cell;
      targets = λ vs e. subst₂ (λ n l. AreTargets h n l) (ap length (sym file)) (some_same ws vs (sym open_log ∙ ap (open_writes h) (sym file) ∙ e)) has.targets;
    }

    -- the file with the cells put in, and that with a closed gate
    size_put : length (put_cells ws b) ≡ length b
    size_put = length-put ws b has.targets.within

    pub size_after : length (over 64 (0 ∷ []) (put_cells ws b)) ≡ length b
    size_after = length-over-in 64 (0 ∷ []) (put_cells ws b) (omega (arith, size_put, has.long)) ∙ size_put

    size : length (over 64 (0 ∷ []) (put_cells ws b)) ≡ length b
    size = size_after

    out : (k : ℕ) → Apart k 64 1 → get_or (over 64 (0 ∷ []) (put_cells ws b)) k 0 ≡ get_or (put_cells ws b) k 0
    out k apart = over_out 64 (0 ∷ []) (put_cells ws b) k (omega (arith, size_put, has.long)) apart

    raw : (k : ℕ) → IsOwn h k → get_or (over 64 (0 ∷ []) (put_cells ws b)) k 0 ≡ get_or b k 0
    raw k own = out k own.2 ∙ put_out ws b k has.targets.within (own_apart h (length b) k ws own suit)

    long : 128 ≤ length (over 64 (0 ∷ []) (put_cells ws b))
    long = omega (arith, size, has.long)

    unit : unit_of (fields (over 64 (0 ∷ []) (put_cells ws b))) ≡ unit_of h
    unit = unit_same h b (over 64 (0 ∷ []) (put_cells ws b)) form.header long raw

    wide : is_wide (fields (over 64 (0 ∷ []) (put_cells ws b))) ≡ is_wide h
    wide = wide_same h b (over 64 (0 ∷ []) (put_cells ws b)) form.header long raw

    shut : get_or (over 64 (0 ∷ []) (put_cells ws b)) 64 0 ≡ 0
    shut = over_in 64 (0 ∷ []) (put_cells ws b) 64 (omega (arith, size_put, has.long)) (omega arith) (omega arith)

    -- the header of the store is the file's
    fields_shut : fields (over 64 (0 ∷ []) (put_cells ws b)) ≡ record (fields (put_cells ws b)) { gate = 0 }
    fields_shut i = record {
      limit = number_same (put_cells ws b) (over 64 (0 ∷ []) (put_cells ws b)) 8 (λ k ge lt. out k (inl (omega (arith, lt)))) i;
      first = number_same (put_cells ws b) (over 64 (0 ∷ []) (put_cells ws b)) 12 (λ k ge lt. out k (inl (omega (arith, lt)))) i;
      root = cell_same (put_cells ws b) (over 64 (0 ∷ []) (put_cells ws b)) 16 (λ k ge lt. out k (inl (omega (arith, lt)))) i;
      log = cell_same (put_cells ws b) (over 64 (0 ∷ []) (put_cells ws b)) 32 (λ k ge lt. out k (inl (omega (arith, lt)))) i;
      gate = shut i;
      block = number_same (put_cells ws b) (over 64 (0 ∷ []) (put_cells ws b)) 40 (λ k ge lt. out k (inl (omega (arith, lt)))) i;
      block_limit = number_same (put_cells ws b) (over 64 (0 ∷ []) (put_cells ws b)) 44 (λ k ge lt. out k (inl (omega (arith, lt)))) i;
      block_root = cell_same (put_cells ws b) (over 64 (0 ∷ []) (put_cells ws b)) 48 (λ k ge lt. out k (inl (omega (arith, lt)))) i;
      spare = cell_same (put_cells ws b) (over 64 (0 ∷ []) (put_cells ws b)) 56 (λ k ge lt. out k (inl (omega (arith, lt)))) i;
      form = out 65 (inr (omega arith)) i;
    }

    header_after : s.header ≡ fields (over 64 (0 ∷ []) (put_cells ws b))
    header_after = is.header ∙ closed_now ∙ sym (fields_shut ∙ (λ i. record (fields_with h ws s.pages b (form_front h ws s.pages b form) is.fits i) { gate = 0 }))
      where
        gate_kept : (with_cells h ws).gate ≡ 1
        gate_kept = ap (λ (x : Header). x.gate) (cells_kept ws h) ∙ gate

        closed_now : with_closed (with_cells h ws) ≡ record (with_cells h ws) { gate = 0 }
        closed_now = let test : ((with_cells h ws).gate == 1) ≡ true = grind (arith, nat_tests, gate_kept) in rw test refl

    -- ---- its form

    alike : All (IsAlike (unit_of h) (put_cells ws b) (over 64 (0 ∷ []) (put_cells ws b))) (things_of s.pages)
    alike i c lt k ge below = out k (inr (elim (beside i c lt) [ inl before ↦ absurd (omega (arith, before, (form.inside i c lt).some)) | inr behind ↦ omega (arith, behind, ge) ]))

    inside_put : All (LiesIn (unit_of h) (length (put_cells ws b))) (things_of s.pages)
    inside_put i c lt = record { some = (form.inside i c lt).some; inside = omega (arith, (form.inside i c lt).inside, size_put) }

    inside_after : All (LiesIn (unit_of h) (length (over 64 (0 ∷ []) (put_cells ws b)))) (things_of s.pages)
    inside_after i c lt = record { some = (form.inside i c lt).some; inside = omega (arith, (form.inside i c lt).inside, size) }

    first_is : first_page_of (fields (over 64 (0 ∷ []) (put_cells ws b))) ≡ first_page_of (fields (put_cells ws b))
    first_is = first_page_same (put_cells ws b) (over 64 (0 ∷ []) (put_cells ws b)) (λ k ge lt. out k (inl (omega (arith, lt)))) (λ k ge lt. out k (inl (omega (arith, lt)))) (out 65 (inr (omega arith)))

    chain_after : HasPages (unit_of h) (over 64 (0 ∷ []) (put_cells ws b)) (first_page_of (fields (over 64 (0 ∷ []) (put_cells ws b)))) s.pages
    chain_after = subst (λ r. HasPages (unit_of h) (over 64 (0 ∷ []) (put_cells ws b)) r s.pages) (sym first_is)
        (pages_alike (unit_of h) (put_cells ws b) (over 64 (0 ∷ []) (put_cells ws b)) s.pages inside_put inside_after alike (first_page_of (fields (put_cells ws b))) form.chain)

    form_after : HasForm (fields (over 64 (0 ∷ []) (put_cells ws b))) [] s.pages (over 64 (0 ∷ []) (put_cells ws b))
    form_after = record {
      header = begins_changed h b (over 64 (0 ∷ []) (put_cells ws b)) form.header long raw;
      room = subst₂ (λ u m. blocks u (length (over 64 (0 ∷ []) (put_cells ws b))) ≤ m) (sym unit) (sym (room_same h b (over 64 (0 ∷ []) (put_cells ws b)) form.header long raw)) (subst (λ n. blocks (unit_of h) n ≤ room_of h) (sym size) form.room);
      log = inl ((λ one. absurd (omega (arith, one, shut))), refl);
      chain = subst (λ u. HasPages u (over 64 (0 ∷ []) (put_cells ws b)) (first_page_of (fields (over 64 (0 ∷ []) (put_cells ws b)))) s.pages) (sym unit) chain_after;
      inside = subst (λ u. All (LiesIn u (length (over 64 (0 ∷ []) (put_cells ws b)))) (things_of s.pages)) (sym unit) inside_after;
      apart = subst (λ u. (k : ℕ) → owners u (header_cell ∷ things_of s.pages) k ≤ 1) (sym unit) (λ k. parts.header_once h s.pages (length b) pos ws k (form.apart k));
      targets = λ k w lt. absurd (omega (arith, lt));
    }

    pub opened_form : HasForm s.header [] s.pages (over 64 (0 ∷ []) (put_cells ws b))
    opened_form = subst (λ x. HasForm x [] s.pages (over 64 (0 ∷ []) (put_cells ws b))) (sym header_after) form_after

    pub opened_gate : s.header.gate ≢ 1
    opened_gate one = omega (arith, shut, one, ap (λ (x : Header). x.gate) header_after)

    map_after : Same (map_of (fields (over 64 (0 ∷ []) (put_cells ws b))) s.pages (over 64 (0 ∷ []) (put_cells ws b))) (λ id. content (unit_of h) (put_cells ws b) (pointer_of s.pages id.space id.number))
    map_after id =
        (λ i. content (unit i) (over 64 (0 ∷ []) (put_cells ws b)) (pointer_of s.pages id.space id.number))
        ∙ slots_alike (unit_of h) (put_cells ws b) (over 64 (0 ∷ []) (put_cells ws b)) s.pages inside_put inside_after alike id.space id.number

    -- the store's map is the file's
    pub opened_map : (m : SlotMap) → Gives b m → Same (map_of s.header s.pages (over 64 (0 ∷ []) (put_cells ws b))) m
    opened_map m gives id =
        ap (λ x. map_of x s.pages (over 64 (0 ∷ []) (put_cells ws b)) id) header_after ∙ map_after id
        ∙ one_map b (λ j. content (unit_of h) (put_cells ws b) (pointer_of s.pages j.space j.number)) m (form_gives h ws s.pages b form) gives id

    -- ---- whatever a stop leaves

    done : put_cells ws (over 64 (0 ∷ []) (put_cells ws b)) ≡ over 64 (0 ∷ []) (put_cells ws b)
    done = ext_get_or 0 (put_cells ws (over 64 (0 ∷ []) (put_cells ws b))) (over 64 (0 ∷ []) (put_cells ws b)) (length-put ws (over 64 (0 ∷ []) (put_cells ws b)) within) (λ k lt. elim (cases_eq k 64) [
      | inl e ↦ put_out ws (over 64 (0 ∷ []) (put_cells ws b)) k within (subst (λ j. AllApart j ws) (sym e) (gate_apart h (length b) ws has.targets))
      | inr other ↦
          let apart : Apart k 64 1 = elim (cases_lt k 64) [ inl below ↦ inl below | inr ge ↦ inr (omega (arith, ge, other)) ] in
          put_same ws (put_cells ws b) (over 64 (0 ∷ []) (put_cells ws b)) k (omega (arith, size, size_put)) (subst (λ n. AllWithin n ws) (sym size_put) has.targets.within) (λ a. out k apart)
          ∙ put_again ws b k has.targets.within ∙ sym (out k apart)
    ])
      where
        within : AllWithin (length (over 64 (0 ∷ []) (put_cells ws b))) ws
        within = subst (λ n. AllWithin n ws) (sym size) has.targets.within

    holds : (said : List ℕ) → Holds (fields (over 64 (0 ∷ []) (put_cells ws b))) s.pages (rest_disk (over 64 (0 ∷ []) (put_cells ws b)) said)
    holds said = formed_holds (fields (over 64 (0 ∷ []) (put_cells ws b))) s.pages (rest_disk (over 64 (0 ∷ []) (put_cells ws b)) said) form_after (record { bytes = refl; spans = refl; top = refl })
        (record { no_shorter = omega arith; no_longer = omega arith; kept = λ k fixed. refl }) (λ one. omega (arith, one, shut))

    at_same : log_at (with_log (fields (over 64 (0 ∷ []) (put_cells ws b))) h.log) ≡ log_at h
    at_same = ap (λ u. h.log.at * u) unit

    there : log_things h ws ≡ h.log ∷ []
    there = a_log h ws (is.some gate)

    lies : LiesIn (unit_of h) (length b) h.log
    lies = All-head (LiesIn (unit_of h) (length b)) h.log [] (subst (All (LiesIn (unit_of h) (length b))) there is.log)

    once : (k : ℕ) → owners (unit_of h) (h.log ∷ header_cell ∷ things_of s.pages) k ≤ 1
    once k =
        let own : Cell → ℕ = λ c. cond (owns (unit_of h) k c) 1 0 in
        let le = subst (λ l. owners (unit_of h) (header_cell ∷ l ++ things_of s.pages) k ≤ 1) there (form.apart k) in
        omega (arith, le, sum_by-cons own header_cell (h.log ∷ things_of s.pages), sum_by-cons own h.log (things_of s.pages), sum_by-cons own h.log (header_cell ∷ things_of s.pages), sum_by-cons own header_cell (things_of s.pages))

    root_is : root_place (fields (over 64 (0 ∷ []) (put_cells ws b))) ≡ root_place h
    root_is = root_same h b (over 64 (0 ∷ []) (put_cells ws b)) form.header long raw

    commit : (said : List ℕ) → IsCommit (fields (over 64 (0 ∷ []) (put_cells ws b))) s.pages s.pages h.log ws (rest_disk (over 64 (0 ∷ []) (put_cells ws b)) said)
    commit said = record {
      some = lies.some;
      behind = subst (λ n. 128 ≤ n) (sym at_same) opened.1;
      room = subst₂ (λ u m. blocks u (max (length (over 64 (0 ∷ []) (put_cells ws b))) (h.log.at * u + h.log.len)) ≤ m) (sym unit) (sym (room_same h b (over 64 (0 ∷ []) (put_cells ws b)) form.header long raw))
          (subst (λ n. blocks (unit_of h) n ≤ room_of h) (sym top) form.room);
      targets = record {
        within = subst (λ n. AllWithin n ws) (sym size) has.targets.within;
        gate = has.targets.gate;
        cell = has.targets.cell;
        place = subst (λ n. AllClear n h.log.len ws) (sym at_same) has.targets.place;
      };
      own = λ k own. own_apart h (length b) k ws (own.0, own.1, own.2, subst (λ n. Apart k n 8) root_is own.3) suit;
      old_apart = subst (λ u. (k : ℕ) → owners u (h.log ∷ header_cell ∷ things_of s.pages) k ≤ 1) (sym unit) once;
      apart = subst (λ u. (k : ℕ) → owners u (h.log ∷ header_cell ∷ things_of s.pages) k ≤ 1) (sym unit) once;
      inside = subst (λ u. All (LiesIn u (length (over 64 (0 ∷ []) (put_cells ws b)))) (things_of s.pages)) (sym unit) inside_after;
      chain = subst (λ l. HasPages (unit_of (fields (over 64 (0 ∷ []) (put_cells ws b)))) l (first_page_of (fields l)) s.pages) (sym done) form_after.chain;
      targets_are = λ i w lt. elim (form.targets i w lt) [
        | inl root ↦ inl (root ∙ sym root_is)
        | inr cell ↦ inr (cell.0, cell.1, ap (λ u. target_of u s.pages cell.0 cell.1) unit ∙ cell.2)
      ];
    }
      where
        top : max (length (over 64 (0 ∷ []) (put_cells ws b))) (h.log.at * unit_of h + h.log.len) ≡ length b
        top = omega (arith, size, has.inside)

    pub still_gives : (d : Disk) (image said : List ℕ) → d.bytes ≡ b → Recovers h d image said → StillGives d image said
    still_gives d image said file r = record {
      told = r.told;
      gives = λ first m from. let of_file : GivesFrom first b m = subst (λ l. GivesFrom first l m) file from in
          gives_same first image m (map_of (fields (over 64 (0 ∷ []) (put_cells ws b))) s.pages (put_cells ws (over 64 (0 ∷ []) (put_cells ws b))))
          (λ id. sym (ap (λ l. map_of (fields (over 64 (0 ∷ []) (put_cells ws b))) s.pages l id) done ∙ map_after id
          ∙ one_map b (λ j. content (unit_of h) (put_cells ws b) (pointer_of s.pages j.space j.number)) m (form_gives h ws s.pages b form) of_file.gives id))
          (subst (λ n. GivesFrom n image (map_of (fields (over 64 (0 ∷ []) (put_cells ws b))) s.pages (put_cells ws (over 64 (0 ∷ []) (put_cells ws b))))) (number_is first m of_file)
          (gives_new (fields (over 64 (0 ∷ []) (put_cells ws b))) s.pages s.pages (rest_disk (over 64 (0 ∷ []) (put_cells ws b)) said) (holds said) h.log ws (commit said) image said all));
    }
      where
        number_is : (first : ℕ) (m : SlotMap) → GivesFrom first b m → (fields (over 64 (0 ∷ []) (put_cells ws b))).first ≡ first
        number_is first m from =
            first_number_same h b (over 64 (0 ∷ []) (put_cells ws b)) form.header long raw
            ∙ ap (λ (x : Header). x.first) (one_header b h (from.gives).header form.header (from.gives).form.header) ∙ from.is_first

        reads : settled (with_log (fields (over 64 (0 ∷ []) (put_cells ws b))) h.log) image ≡ settled h image
        reads = settled_alike (with_log (fields (over 64 (0 ∷ []) (put_cells ws b))) h.log) h unit wide image

        was : settled h d.bytes ≡ put_cells ws b
        was = ap (settled h) file ∙ settled_is

        all : HasAll (with_log (fields (over 64 (0 ∷ []) (put_cells ws b))) h.log) ws (rest_disk (over 64 (0 ∷ []) (put_cells ws b)) said) image said
        all = record {
          told = refl;
          size = ap length reads ∙ r.size ∙ ap length was ∙ size_put ∙ sym (subst (λ n. max (length (over 64 (0 ∷ []) (put_cells ws b))) (n + h.log.len) ≡ length b) (sym at_same) (omega (arith, size, has.inside)));
          same = λ k lt clear.
              ap (λ (l : List ℕ). get_or l k 0) reads ∙ r.same k (subst (λ n. Apart k n h.log.len) at_same clear.0, clear.1, clear.2)
              ∙ ap (λ (l : List ℕ). get_or l k 0) was ∙ sym (ap (λ (l : List ℕ). get_or l k 0) done ∙ out k clear.2);
          log = λ open_gate. log_moved (with_log (fields (over 64 (0 ∷ []) (put_cells ws b))) h.log) h ws image unit wide refl (r.log ws (ap (open_writes h) file ∙ open_log) open_gate);
        }

-- ---- the store of a file that is at rest

pub rest_agrees : (s : Slots) (d : Disk) → HasForm s.header [] s.pages d.bytes → s.header.gate ≢ 1 → s.len ≡ length d.bytes → s.objects ≡ [] → s.system ≡ [] → s.cached ≡ [] → IsSynced d → IsDisk d → Agrees s d
rest_agrees s d form closed len objects system kept synced sound = record {
  holds = formed_holds s.header s.pages d form synced sound closed;
  len = len;
  fresh = subst (All (LiesIn (unit_of s.header) s.len)) (λ i. places_in (sym objects i) ++ places_in (sym system i)) (λ k d lt. absurd (omega (arith, lt)));
  cached = subst (AreRead (unit_of s.header) d.bytes) (sym kept) (λ k e lt. absurd (omega (arith, lt)));
}

pub rest_map : (s : Slots) (b : List ℕ) → HasForm s.header [] s.pages b → (m : SlotMap) → Gives b m → Same (map_of s.header s.pages b) m
rest_map s b form m gives = one_map b (map_of s.header s.pages b) m (form_gives s.header [] s.pages b form) gives
