-- Whatever a stop leaves while the cells of a commit are put in gives the old map or the new one.
use Rattle.std.proofs.Common.{◌≡◌, ◌≢◌, ◌∙◌, ◌⊎◌, inl, inr, ℕ, zero, suc, ◌+◌, ◌*◌, ◌<◌, ◌≤◌, max, cond, List, [], ◌∷◌, ◌++◌, length, take, drop, get_or, get_or-take, sym, ap, ap₂, subst, subst₂, refl, arith}
use Rattle.std.specs.Prelude.{All}
use Rattle.std.proofs.lemmas.Bool.{cases_eq}
use Rattle.std.proofs.lemmas.List.Sums.{sum_by-cons}
use Rattle.oc_layout.specs.declared.cells.Cell.{Cell}
use Rattle.oc_layout.specs.declared.cells.CellWrite.{CellWrite}
use Rattle.oc_layout.specs.declared.cells.Header.{Header}
use Rattle.oc_layout.specs.Layout.{unit_of, is_wide, first_page_of, first_cell, blocks, read_writes}
use Rattle.oc_layout.specs.Headers.{fields}
use Rattle.oc_host.specs.Disk.{Disk, Fixed, Apart}
use Rattle.oc_log.specs.Log.{slice, with_log, put_cells, log_at, settled, AllClear, Clear}
use Rattle.oc_log.specs.States.{HasLog}
use Rattle.oc_log.specs.Stops.{HasNone, HasAll, NoneOrAll}
use Rattle.oc_log.proofs.Bytes.{length-put, put_out}
use Rattle.oc_log.proofs.Stages.{settled_closed, settled_open}
use Rattle.oc_pages.specs.declared.page.Page.{Page}
use Rattle.oc_pages.specs.Pages.{target_of, pointer_of, things_of}
use Rattle.oc_pages.specs.Chains.{HasPages}
use Rattle.oc_pages.proofs.Images.{first_same}
use Rattle.oc_room.specs.Rooms.{owns, owners}
use Rattle.oc_slots.specs.Maps.{content}
use Rattle.oc_slots.specs.declared.slot.SlotId.{SlotId}
use Rattle.oc_slots.specs.Forms.{LiesIn, ToPutIn, HasForm, IsOwn, IsTarget, Gives, GivesFrom, header_cell, log_things}
use Rattle.oc_slots.specs.Held.{IsHeld, IsBeside, Holds, map_of}
use Rattle.oc_slots.specs.Commits.{IsCommit}
use Rattle.oc_slots.proofs.Apart.{beside_first}
use Rattle.oc_slots.proofs.Changed.{first_number_same, unit_same, room_same, wide_same, root_same, begins_changed, first_page_same}
use Rattle.oc_slots.proofs.Headers.{unit_some, blocks_rise}
use Rattle.oc_slots.proofs.HeldGives.{held_inside}
use Rattle.oc_slots.proofs.Things.{IsAlike, tail_of, slots_alike, pages_alike}

-- ---- a log under another header that says the same of it

first_taken : (l : List ℕ) → first_cell (take 8 l) ≡ first_cell l
first_taken l = first_same l (take 8 l) (λ k lt. get_or-take 8 l k 0 lt)

has_log_moved : (g h : Header) (ws : List CellWrite) (b : List ℕ) → unit_of g ≡ unit_of h → is_wide g ≡ is_wide h → g.log ≡ h.log → HasLog h ws b → HasLog g ws b
has_log_moved g h ws b unit wide log has = record {
  long = has.long;
  cell = has.cell ∙ sym log;
  inside = subst (λ n. n ≤ length b) (sym (ap₂ {C = ℕ} (λ a c. a + c) at len)) has.inside;
  log = (λ i. read_writes (wide i) (slice (at i) (len i) b)) ∙ has.log;
  targets = record {
    within = has.targets.within;
    gate = has.targets.gate;
    cell = has.targets.cell;
    place = subst (λ n. AllClear n g.log.len ws) (sym at) (subst (λ n. AllClear (log_at h) n ws) (sym len) has.targets.place);
  };
}
  where
    at : log_at g ≡ log_at h
    at i = (log i).at * unit i

    len : g.log.len ≡ h.log.len
    len = ap (λ (c : Cell). c.len) log

module _ (h : Header) (old new : List Page) (d : Disk) (holds : Holds h old d) (place : Cell) (cells : List CellWrite) (is : IsCommit h old new place cells d) (image said : List ℕ) where
  abbrev h1 : Header
  h1 = with_log h place

  pos : 0 < unit_of h
  pos = unit_some h holds.header.in_range

  -- a byte of the header outside the log cell and the gate
  clear_header : (k : ℕ) → k < 128 → Apart k 32 8 → Apart k 64 1 → Clear h1 k
  clear_header k lt cell gate = (inl (omega (arith, lt, is.behind)), cell, gate)

  -- a byte of a thing that lies apart from the header and the log
  module _ (pages : List Page) (some : All (λ c. 1 ≤ c.len) (things_of pages)) (apart : (k : ℕ) → owners (unit_of h) (place ∷ header_cell ∷ things_of pages) k ≤ 1) where
    no_log : (k : ℕ) → owners (unit_of h) (header_cell ∷ things_of pages) k ≤ 1
    no_log k = omega (arith, apart k, sum_by-cons (λ c. cond (owns (unit_of h) k c) 1 0) place (header_cell ∷ things_of pages))

    all_some : All (λ (c : Cell). 1 ≤ c.len) (header_cell ∷ things_of pages)
    all_some zero c lt = omega arith
    all_some (suc k) c lt = some k c (omega (arith, lt))

    pub clear_thing : (i : ℕ) (c : Cell) → i < length (things_of pages) → (k : ℕ) → (get_or (things_of pages) i c).at * unit_of h ≤ k → k < (get_or (things_of pages) i c).at * unit_of h + (get_or (things_of pages) i c).len → Clear h1 k
    clear_thing i c lt k ge below =
        let thing = get_or (things_of pages) i c in
        let beside_log : IsBeside (unit_of h) (place.at * unit_of h) place.len thing = tail_of (IsBeside (unit_of h) (place.at * unit_of h) place.len) header_cell (things_of pages) (beside_first (unit_of h) place (header_cell ∷ things_of pages) pos is.some all_some apart) i c lt in
        let beside_header : IsBeside (unit_of h) (0 * unit_of h) 128 thing = beside_first (unit_of h) header_cell (things_of pages) pos (omega arith) some no_log i c lt in
        let behind : 128 ≤ k = elim beside_header [ inl before ↦ absurd (omega (arith, before, ge, below)) | inr after ↦ omega (arith, after, ge) ] in
        (elim beside_log [ inl before ↦ inl (omega (arith, before, below)) | inr after ↦ inr (omega (arith, after, ge)) ], inr (omega (arith, behind)), inr (omega (arith, behind)))

  -- ---- none of the cells

  module _ (r : HasNone h1 d image said) where
    same_none : (k : ℕ) → Fixed d k → Clear h1 k → get_or image k 0 ≡ get_or d.bytes k 0
    same_none k fixed clear = subst (λ l. get_or l k 0 ≡ get_or d.bytes k 0) (settled_closed h1 image r.closed) (r.same k fixed clear)

    size_none : length (settled h1 image) ≡ length image
    size_none = ap length (settled_closed h1 image r.closed)

    header_none : (k : ℕ) → k < 128 → Apart k 32 8 → Apart k 64 1 → get_or image k 0 ≡ get_or d.bytes k 0
    header_none k lt cell gate = same_none k (holds.held 0 header_cell (omega arith) k (omega arith) (omega (arith, lt))) (clear_header k lt cell gate)

    long_none : 128 ≤ length image
    long_none = let last : 127 < length d.synced = (holds.held 0 header_cell (omega arith) 127 (omega arith) (omega arith)).0 in omega (arith, last, r.no_shorter, size_none)

    raw_none : (k : ℕ) → IsOwn h k → get_or image k 0 ≡ get_or d.bytes k 0
    raw_none k own = header_none k own.0 own.1 own.2

    some_old : All (λ c. 1 ≤ c.len) (things_of old)
    some_old k c lt = (holds.inside k c lt).some

    held_old : All (IsHeld (unit_of h) d) (things_of old)
    held_old = tail_of (IsHeld (unit_of h) d) header_cell (things_of old) holds.held

    alike_old : All (IsAlike (unit_of h) d.bytes image) (things_of old)
    alike_old i c lt k ge below = same_none k (held_old i c lt k ge below) (clear_thing old some_old is.old_apart i c lt k ge below)

    inside_old : All (LiesIn (unit_of h) (length image)) (things_of old)
    inside_old i c lt = record {
      some = (holds.inside i c lt).some;
      inside = let last = held_inside (unit_of h) d _ (holds.inside i c lt).some (held_old i c lt) in omega (arith, last, r.no_shorter, size_none);
    }

    unit_none : unit_of (fields image) ≡ unit_of h
    unit_none = unit_same h d.bytes image holds.header long_none raw_none

    page_none : first_page_of h ≡ first_page_of (fields image)
    page_none = ap first_page_of holds.header.fields ∙ sym (first_page_same d.bytes image (λ k ge lt. header_none k (omega (arith, lt)) (inl (omega (arith, lt))) (inl (omega (arith, lt)))) (λ k ge lt. header_none k (omega (arith, lt)) (inr (omega (arith, ge))) (inl (omega (arith, lt)))) (header_none 65 (omega arith) (inr (omega arith)) (inr (omega arith))))

    map_old : Gives image (map_of h old d.bytes)
    map_old = record {
      header = fields image;
      writes = [];
      pages = old;
      form = record {
        header = begins_changed h d.bytes image holds.header long_none raw_none;
        room = subst₂ (λ u m. blocks u (length image) ≤ m) (sym unit_none) (sym (room_same h d.bytes image holds.header long_none raw_none))
            (let rise = blocks_rise (unit_of h) (length image) (max d.top (log_at h1 + place.len)) pos (omega (arith, r.no_longer, size_none)) in omega (arith, rise, is.room));
        log = inl (r.closed, refl);
        chain = subst₂ (λ u root. HasPages u image root old) (sym unit_none) page_none (pages_alike (unit_of h) d.bytes image old holds.inside inside_old alike_old (first_page_of h) holds.chain);
        inside = subst (λ u. All (LiesIn u (length image)) (things_of old)) (sym unit_none) inside_old;
        apart = subst (λ u. (k : ℕ) → owners u (header_cell ∷ things_of old) k ≤ 1) (sym unit_none) holds.apart;
        targets = λ k w lt. absurd (omega (arith, lt));
      };
      slots = λ id. sym (slots_alike (unit_of h) d.bytes image old holds.inside inside_old alike_old id.space id.number) ∙ (λ i. content (sym unit_none i) image (pointer_of old id.space id.number));
    }

    pub gives_old : GivesFrom h.first image (map_of h old d.bytes)
    unfolding map_old
    gives_old = record { gives = map_old; is_first = first_number_same h d.bytes image holds.header long_none raw_none }

  -- ---- all of them

  module _ (r : HasAll h1 cells d image said) where
    after : List ℕ
    after = put_cells cells d.bytes

    size_after : length (put_cells cells d.bytes) ≡ length d.bytes
    size_after = length-put cells d.bytes is.targets.within

    some_new : All (λ c. 1 ≤ c.len) (things_of new)
    some_new k c lt = (is.inside k c lt).some

    -- whatever is put in, the image reads as the file with the cells
    module _ (ws : List CellWrite) (reads : settled h1 image ≡ put_cells ws image) (size : length (put_cells ws image) ≡ length image) (put : ToPutIn (fields image) image ws)
        (raw : (k : ℕ) → IsOwn h k → get_or image k 0 ≡ get_or d.bytes k 0)
        (log_apart : (k : ℕ) → owners (unit_of h) (header_cell ∷ log_things (fields image) ws ++ things_of new) k ≤ 1) (targets : All (λ w. IsTarget (fields image) new w.target) ws) where
      same_all : (k : ℕ) → k < length d.bytes → Clear h1 k → get_or (put_cells ws image) k 0 ≡ get_or (put_cells cells d.bytes) k 0
      same_all k lt clear = subst (λ l. get_or l k 0 ≡ get_or (put_cells cells d.bytes) k 0) reads (r.same k lt clear)

      size_all : length image ≡ max (length d.bytes) (log_at h1 + place.len)
      size_all = sym size ∙ ap length (sym reads) ∙ r.size

      long_all : 128 ≤ length image
      long_all = omega (arith, size_all, holds.header.long)

      header_all : (k : ℕ) → k < 128 → Apart k 32 8 → Apart k 64 1 → get_or (put_cells ws image) k 0 ≡ get_or (put_cells cells d.bytes) k 0
      header_all k lt cell gate = same_all k (omega (arith, lt, holds.header.long)) (clear_header k lt cell gate)

      alike_new : All (IsAlike (unit_of h) (put_cells cells d.bytes) (put_cells ws image)) (things_of new)
      alike_new i c lt k ge below = same_all k (omega (arith, below, (is.inside i c lt).inside)) (clear_thing new some_new is.apart i c lt k ge below)

      inside_after : All (LiesIn (unit_of h) (length (put_cells cells d.bytes))) (things_of new)
      inside_after i c lt = record { some = (is.inside i c lt).some; inside = omega (arith, (is.inside i c lt).inside, size_after) }

      inside_put : All (LiesIn (unit_of h) (length (put_cells ws image))) (things_of new)
      inside_put i c lt = record { some = (is.inside i c lt).some; inside = omega (arith, (is.inside i c lt).inside, size, size_all) }

      inside_new : All (LiesIn (unit_of h) (length image)) (things_of new)
      inside_new i c lt = record { some = (is.inside i c lt).some; inside = omega (arith, (is.inside i c lt).inside, size_all) }

      unit_all : unit_of (fields image) ≡ unit_of h
      unit_all = unit_same h d.bytes image holds.header long_all raw

      page_all : first_page_of (fields (put_cells cells d.bytes)) ≡ first_page_of (fields (put_cells ws image))
      page_all = sym (first_page_same (put_cells cells d.bytes) (put_cells ws image) (λ k ge lt. header_all k (omega (arith, lt)) (inl (omega (arith, lt))) (inl (omega (arith, lt)))) (λ k ge lt. header_all k (omega (arith, lt)) (inr (omega (arith, ge))) (inl (omega (arith, lt)))) (header_all 65 (omega arith) (inr (omega arith)) (inr (omega arith))))

      form_with : HasForm (fields image) ws new image
      form_with = record {
        header = begins_changed h d.bytes image holds.header long_all raw;
        room = subst₂ (λ u m. blocks u (length image) ≤ m) (sym unit_all) (sym (room_same h d.bytes image holds.header long_all raw))
            (let rise = blocks_rise (unit_of h) (length image) (max d.top (log_at h1 + place.len)) pos (omega (arith, size_all, holds.disk.no_longer)) in omega (arith, rise, is.room));
        log = put;
        chain = subst₂ (λ u root. HasPages u (put_cells ws image) root new) (sym unit_all) page_all (pages_alike (unit_of h) (put_cells cells d.bytes) (put_cells ws image) new inside_after inside_put alike_new (first_page_of (fields (put_cells cells d.bytes))) is.chain);
        inside = subst (λ u. All (LiesIn u (length image)) (things_of new)) (sym unit_all) inside_new;
        apart = subst (λ u. (k : ℕ) → owners u (header_cell ∷ log_things (fields image) ws ++ things_of new) k ≤ 1) (sym unit_all) log_apart;
        targets = targets;
      }

      slots_with : (id : SlotId) → map_of h new (put_cells cells d.bytes) id ≡ content (unit_of (fields image)) (put_cells ws image) (pointer_of new id.space id.number)
      slots_with = λ id. sym (slots_alike (unit_of h) (put_cells cells d.bytes) (put_cells ws image) new inside_after inside_put alike_new id.space id.number) ∙ (λ i. content (sym unit_all i) (put_cells ws image) (pointer_of new id.space id.number))

      pub gives_with : GivesFrom h.first image (map_of h new (put_cells cells d.bytes))
      gives_with = record {
        gives = record { header = fields image; writes = ws; pages = new; form = form_with; slots = slots_with };
        is_first = first_number_same h d.bytes image holds.header long_all raw;
      }

    own_after : (k : ℕ) → IsOwn h k → get_or (settled h1 image) k 0 ≡ get_or d.bytes k 0
    own_after k own =
        r.same k (omega (arith, own.0, holds.header.long)) (clear_header k own.0 own.1 own.2) ∙ put_out cells d.bytes k is.targets.within (is.own k own)

    no_log_new : (k : ℕ) → owners (unit_of h) (header_cell ∷ things_of new) k ≤ 1
    no_log_new k = omega (arith, is.apart k, sum_by-cons (λ c. cond (owns (unit_of h) k c) 1 0) place (header_cell ∷ things_of new))

    -- behind a closed gate
    module _ (closed : get_or image 64 0 ≢ 1) where
      reads_shut : settled h1 image ≡ image
      reads_shut = settled_closed h1 image closed

      raw_shut : (k : ℕ) → IsOwn h k → get_or image k 0 ≡ get_or d.bytes k 0
      raw_shut k own = subst (λ l. get_or l k 0 ≡ get_or d.bytes k 0) reads_shut (own_after k own)

      pub shut_form : HasForm (fields image) [] new image
      shut_form = form_with [] reads_shut refl (inl (closed, refl)) raw_shut no_log_new (λ k w lt. absurd (omega (arith, lt)))

      pub shut_slots : (id : SlotId) → map_of h new (put_cells cells d.bytes) id ≡ content (unit_of (fields image)) image (pointer_of new id.space id.number)
      shut_slots = slots_with [] reads_shut refl (inl (closed, refl)) raw_shut no_log_new (λ k w lt. absurd (omega (arith, lt)))

      shut : GivesFrom h.first image (map_of h new (put_cells cells d.bytes))
      shut = gives_with [] reads_shut refl (inl (closed, refl)) raw_shut no_log_new (λ k w lt. absurd (omega (arith, lt)))

    -- behind an open one
    module _ (gate : get_or image 64 0 ≡ 1) where
      has : HasLog h1 cells image
      has = r.log gate

      reads_open : settled h1 image ≡ put_cells cells image
      reads_open = settled_open h1 cells image has gate

      raw_open : (k : ℕ) → IsOwn h k → get_or image k 0 ≡ get_or d.bytes k 0
      raw_open k own = sym (put_out cells image k has.targets.within (is.own k own)) ∙ subst (λ l. get_or l k 0 ≡ get_or d.bytes k 0) reads_open (own_after k own)

      unit_open : unit_of (fields image) ≡ unit_of h
      unit_open = unit_same h d.bytes image holds.header has.long raw_open

      log_open : (fields image).log ≡ place
      log_open = sym (first_taken (drop 32 image)) ∙ has.cell

      moved : HasLog (fields image) cells image
      moved = has_log_moved (fields image) h1 cells image unit_open (wide_same h d.bytes image holds.header has.long raw_open) log_open has

      behind_open : 128 ≤ log_at (fields image)
      behind_open = subst (λ n. 128 ≤ n) (λ i. (sym log_open i).at * sym unit_open i) is.behind

      apart_open : (ws : List CellWrite) (k : ℕ) → owners (unit_of h) (header_cell ∷ log_things (fields image) ws ++ things_of new) k ≤ 1
      apart_open [] k = no_log_new k
      apart_open (w ∷ ws) k =
          let own : Cell → ℕ = λ c. cond (owns (unit_of h) k c) 1 0 in
          let same : own (fields image).log ≡ own place = ap own log_open in
          omega (arith, is.apart k, same, sum_by-cons own place (header_cell ∷ things_of new), sum_by-cons own header_cell (things_of new), sum_by-cons own header_cell ((fields image).log ∷ things_of new), sum_by-cons own (fields image).log (things_of new))

      targets_open : All (λ w. IsTarget (fields image) new w.target) cells
      targets_open i w lt = elim (is.targets_are i w lt) [
        | inl root ↦ inl (root ∙ sym (root_same h d.bytes image holds.header has.long raw_open))
        | inr cell ↦ inr (cell.0, cell.1, ap (λ u. target_of u new cell.0 cell.1) unit_open ∙ cell.2)
      ]

      opened : GivesFrom h.first image (map_of h new (put_cells cells d.bytes))
      opened = gives_with cells reads_open (length-put cells image has.targets.within) (inr (gate, behind_open, moved)) raw_open (apart_open cells) targets_open

    pub gives_new : GivesFrom h.first image (map_of h new (put_cells cells d.bytes))
    gives_new = elim (cases_eq (get_or image 64 0) 1) [ inl gate ↦ opened gate | inr closed ↦ shut closed ]

  -- ---- either

  pub either_gives : NoneOrAll h1 cells d image said → (said ≡ d.said) × (GivesFrom h.first image (map_of h old d.bytes) ⊎ GivesFrom h.first image (map_of h new (put_cells cells d.bytes)))
  either_gives (inl none) = (none.told, inl (gives_old none))
  either_gives (inr all) = (all.told, inr (gives_new all))
