-- The log is written behind a closed gate.
use Rattle.std.proofs.Common.{◌≡◌, inl, inr, ⊎_elim, ℕ, zero, suc, ◌+◌, ◌-◌, ◌*◌, ◌<◌, ◌≤◌, min, max, List, [], ◌∷◌, ◌++◌, length, drop, get_or, refl, sym, ◌∙◌, ap, subst, arith, length-append, Result, Ok}
use Rattle.std.specs.Prelude.{replicate}
use Rattle.std.proofs.lemmas.List.{append-nil, length-replicate}
use Rattle.oc_host.specs.declared.host.Failed.{Failed}
use Rattle.oc_layout.specs.declared.cells.CellWrite.{CellWrite}
use Rattle.oc_layout.specs.declared.cells.Header.{Header}
use Rattle.oc_layout.specs.Layout.{is_wide, unit_of, cell_bytes, first_cell, log_bytes, read_writes, FitsCell, IsLog}
use Rattle.oc_layout.proofs.Blocks.{blocks_reach}
use Rattle.oc_layout.proofs.Spelled.{cell_again, log_again}
use Rattle.oc_host.specs.Disk.{Stop, Disk, Apart, Outside, IsDisk, LeavesOnly, over, now, looked, writing, wrote, synced_now, AfterLook, AfterWrite, AfterSync}
use Rattle.oc_host.proofs.Moments.{Gives, started, looks, writes, syncs, synced}
use Rattle.oc_log.specs.Log.{slice, log_at, padded, staged, AllWithin}
use Rattle.oc_log.specs.States.{MayPrepare, IsPrepared}
use Rattle.oc_log.specs.Stops.{HasNone}
use Rattle.oc_log.proofs.Bytes.{length-over, length-over-in, over_out, slice_same, slice_over, length-padded, padded_same, over_padded}
use Rattle.oc_log.proofs.Stages.{nothing, settled_closed}

-- fewer zeros
drop_more_zeros : (n pad most : ℕ) (log : List ℕ) → most ≡ pad + n → drop n (replicate most 0 ++ log) ≡ replicate pad 0 ++ log
drop_more_zeros zero pad most log is =
    let same : most ≡ pad = omega (arith, is) in
    ap (λ (m : ℕ). replicate m 0 ++ log) same
drop_more_zeros (suc n) pad zero log is = absurd (omega (arith, is))
drop_more_zeros (suc n) pad (suc most) log is = drop_more_zeros n pad most log (omega (arith, is))

drop_zeros : (most pad : ℕ) (log : List ℕ) → pad ≤ most → drop (most - pad) (replicate most 0 ++ log) ≡ replicate pad 0 ++ log
drop_zeros most pad log le = drop_more_zeros (most - pad) pad most log (omega (arith, le))

pub further : (m n : ℕ) (ws : List CellWrite) → m ≤ n → AllWithin m ws → AllWithin n ws
further m n [] le within = tt
further m n (w ∷ ws) le within = (omega (arith, within.0, le), further m n ws le within.1)

positive : (at unit : ℕ) → 128 ≤ at * unit → 0 < unit
positive at zero le = absurd (omega (arith, le))
positive at (suc unit) le = omega arith

-- the zeros that are needed are fewer than the bytes of a block
pub padding_fits : (h : Header) (ws : List CellWrite) (d : Disk) → MayPrepare h ws d → log_at h - length d.bytes ≤ unit_of h - 1
padding_fits h ws d may =
    let reach : log_at h < length d.bytes + unit_of h = blocks_reach (unit_of h) (length d.bytes) h.log.at (positive h.log.at (unit_of h) may.behind) may.begins in
    omega (arith, reach)

-- the write of the log as the code makes it
pub log_write_is : (h : Header) (ws : List CellWrite) (d : Disk) → MayPrepare h ws d → (log : List ℕ) (unit most len gap pad : ℕ) (all bytes : List ℕ) (e : Disk) (r : Result Unit Failed) (f : Disk)
    → unit ≡ unit_of h → most ≡ unit_of h - 1 → len ≡ length d.bytes → gap ≡ h.log.at * unit - len → pad ≡ min gap most
    → all ≡ replicate (unit_of h - 1) 0 ++ log → bytes ≡ drop (most - pad) all → e ≡ looked d
    → AfterWrite (h.log.at * unit - pad) bytes r e f
    → AfterWrite (log_at h - (log_at h - length d.bytes)) (replicate (log_at h - length d.bytes) 0 ++ log) r (looked d) f
log_write_is h ws d may log unit most len gap pad all bytes e r f unit_is most_is len_is gap_is pad_is all_is bytes_is e_is after =
    let need = log_at h - length d.bytes in
    let at : h.log.at * unit ≡ log_at h = ap (λ (n : ℕ). h.log.at * n) unit_is in
    let fits = padding_fits h ws d may in
    let pad_need : pad ≡ need = omega (arith, pad_is, gap_is, len_is, most_is, at, fits) in
    let start : h.log.at * unit - pad ≡ log_at h - need = omega (arith, at, pad_need) in
    let padded_is : bytes ≡ replicate need 0 ++ log = bytes_is ∙ (λ i. drop (most_is i - pad_need i) (all_is i)) ∙ drop_zeros (unit_of h - 1) need log fits in
    subst (λ (x : Disk). AfterWrite (log_at h - need) (replicate need 0 ++ log) r x f) e_is
    (subst (λ (l : List ℕ). AfterWrite (log_at h - need) l r e f) padded_is
    (subst (λ (n : ℕ). AfterWrite n bytes r e f) start after))

-- a stop while the log and its place are written
record IsStaging (h : Header) (d : Disk) (stop : Stop) : Type 0 where
  synced : stop.synced ≡ d.synced
  top : stop.top ≤ max d.top (log_at h + h.log.len)
  told : stop.said ≡ d.said
  piece : stop.piece ≡ []
  spans : (k : ℕ) → k < length d.bytes → Outside k d.spans → Apart k (log_at h) h.log.len → Apart k 32 8 → Outside k stop.spans

module _ (h : Header) (ws : List CellWrite) (d : Disk) (is_disk : IsDisk d) (may : MayPrepare h ws d) where
  staging : (stop : Stop) → IsStaging h d stop → Gives stop (HasNone h d)
  staging stop is image said im =
      let gate : get_or image 64 0 ≡ get_or d.bytes 64 0 =
      im.kept 64 (omega (arith, may.gate.0, ap length is.synced)) (is.spans 64 (omega (arith, may.long)) may.gate.1 (inl (omega (arith, may.behind))) (inr (omega arith)))
      ∙ ap (λ (l : List ℕ). get_or l 64 0) is.synced ∙ sym (is_disk.kept 64 may.gate) in
      let stands = settled_closed h image (λ opened. may.closed (sym gate ∙ opened)) in
      record {
        told = im.told.1 ∙ ap (λ (l : List ℕ). stop.said ++ l) (nothing im.told.0 stop.piece is.piece) ∙ append-nil stop.said ∙ is.told;
        closed = λ opened. may.closed (sym gate ∙ opened);
        no_shorter = omega (arith, ap length stands, im.no_shorter, ap length is.synced);
        no_longer = omega (arith, ap length stands, im.no_longer, is.top);
        same = λ k fixed clear.
            ap (λ (l : List ℕ). get_or l k 0) stands
            ∙ im.kept k (omega (arith, fixed.0, ap length is.synced)) (is.spans k (omega (arith, fixed.0, is_disk.no_shorter)) fixed.1 clear.0 clear.1)
            ∙ ap (λ (l : List ℕ). get_or l k 0) is.synced ∙ sym (is_disk.kept k fixed);
      }

  at_first : IsStaging h d (now d)
  at_first = record { synced = refl; top = omega arith; told = refl; piece = refl; spans = λ k lt out place cell. out }

  pub stage_looks : {T : Type 0} (r : Result T Failed) (e : Disk) → AfterLook r d e → LeavesOnly d e (HasNone h d)
  stage_looks r e is = looks d d (HasNone h d) r e is (started d (HasNone h d)) (staging (now d) at_first)

  module _ (log cell : List ℕ) (log_len : length log ≡ h.log.len) (cell_len : length cell ≡ 8) where
    abbrev pad : ℕ
    pad = log_at h - length d.bytes

    abbrev start : ℕ
    start = log_at h - pad

    abbrev bytes : List ℕ
    bytes = replicate pad 0 ++ log

    abbrev first : Disk
    first = wrote start bytes (looked d)

    abbrev second : Disk
    second = wrote 32 cell first

    starts : start + pad ≡ log_at h
    starts = omega arith

    size : length bytes ≡ pad + h.log.len
    size = omega (arith, length-append (replicate pad 0) log, length-replicate {A = ℕ} pad 0, log_len)

    first_is : first.bytes ≡ over (log_at h) log (padded (log_at h) d.bytes)
    first_is = over_padded (log_at h) start log d.bytes starts

    -- outside the log's place, within the file
    outside : (k : ℕ) → k < length d.bytes → Apart k (log_at h) h.log.len → Apart k start (length bytes)
    outside k lt place = ⊎_elim (λ below. inl (omega (arith, below, lt))) (λ above. inr (omega (arith, above, size))) place

    in_first : IsStaging h d (writing start (length bytes) (looked d))
    in_first = record {
      synced = refl;
      top = omega (arith, size);
      told = refl;
      piece = refl;
      spans = λ k lt out place cell. (outside k lt place, out);
    }

    in_second : IsStaging h d (writing 32 (length cell) first)
    in_second = record {
      synced = refl;
      top = omega (arith, size, cell_len, may.behind);
      told = refl;
      piece = refl;
      spans = λ k lt out place in_cell. (subst (λ (n : ℕ). Apart k 32 n) (sym cell_len) in_cell, (outside k lt place, out));
    }

    long_first : length first.bytes ≡ max (length d.bytes) (log_at h + h.log.len)
    long_first = ap length first_is ∙ omega (arith, length-over (log_at h) log (padded (log_at h) d.bytes) (omega (arith, length-padded (log_at h) d.bytes)), length-padded (log_at h) d.bytes, log_len)

    long_second : length second.bytes ≡ max (length d.bytes) (log_at h + h.log.len)
    long_second = omega (arith, length-over-in 32 cell first.bytes (omega (arith, long_first, cell_len, may.long)), long_first)

    stays : (k : ℕ) → Apart k (log_at h) h.log.len → Apart k 32 8 → get_or second.bytes k 0 ≡ get_or d.bytes k 0
    stays k place in_cell =
        over_out 32 cell first.bytes k (omega (arith, long_first, may.long)) (subst (λ (n : ℕ). Apart k 32 n) (sym cell_len) in_cell)
        ∙ ap (λ (l : List ℕ). get_or l k 0) first_is
        ∙ over_out (log_at h) log (padded (log_at h) d.bytes) k (omega (arith, length-padded (log_at h) d.bytes)) (subst (λ (n : ℕ). Apart k (log_at h) n) (sym log_len) place)
        ∙ padded_same (log_at h) d.bytes k

    the_gate : get_or second.bytes 64 0 ≡ get_or d.bytes 64 0
    the_gate = stays 64 (inl (omega (arith, may.behind))) (inr (omega arith))

    written : HasNone h d second.bytes d.said
    written =
        let stands = settled_closed h second.bytes (λ opened. may.closed (sym the_gate ∙ opened)) in
        record {
          told = refl;
          closed = λ opened. may.closed (sym the_gate ∙ opened);
          no_shorter = omega (arith, ap length stands, long_second, is_disk.no_shorter);
          no_longer = omega (arith, ap length stands, long_second, is_disk.no_longer);
          same = λ k fixed clear. ap (λ (l : List ℕ). get_or l k 0) stands ∙ stays k clear.0 clear.1;
        }

    pub log_writes : (r : Result Unit Failed) (e : Disk) → AfterWrite start bytes r (looked d) e → LeavesOnly d e (HasNone h d)
    log_writes r e is =
        writes d (looked d) (HasNone h d) start bytes r e is (stage_looks {T = Unit} (Ok tt) (looked d) refl) (staging (writing start (length bytes) (looked d)) in_first)

    pub cell_room : 32 ≤ length first.bytes
    cell_room = omega (arith, long_first, may.long)

    pub cell_writes : (r : Result Unit Failed) (f : Disk) → AfterWrite 32 cell r first f → LeavesOnly d f (HasNone h d)
    cell_writes r f after = writes d first (HasNone h d) 32 cell r f after (log_writes (Ok tt) first refl) (staging (writing 32 (length cell) first) in_second)

    pub log_syncs : (r : Result Unit Failed) (k : Disk) → AfterSync r second k → LeavesOnly d k (HasNone h d)
    log_syncs r k after =
        syncs d second (HasNone h d) r k after (cell_writes (Ok tt) second refl) (staging (writing 32 (length cell) first) in_second) written

    module _ (log_is : log ≡ log_bytes (is_wide h) ws) (cell_is : cell ≡ cell_bytes h.log) where
      pub staged_is : second.bytes ≡ staged h ws d.bytes
      staged_is = ap (λ (l : List ℕ). over 32 cell l) first_is ∙ (λ i. over 32 (cell_is i) (over (log_at h) (log_is i) (padded (log_at h) d.bytes)))

      pub prepared : IsLog (is_wide h) ws → FitsCell h.log → IsPrepared h ws (synced_now second)
      prepared is_log fits = record {
        synced = synced second;
        gate = λ opened. may.closed (sym the_gate ∙ opened);
        has = record {
          long = omega (arith, long_second, may.long);
          cell =
              ap first_cell (subst (λ (n : ℕ). slice 32 n second.bytes ≡ cell) cell_len (slice_over 32 cell first.bytes cell_room) ∙ cell_is)
              ∙ cell_again h.log [] fits;
          inside = omega (arith, long_second);
          log =
              ap (λ (l : List ℕ). read_writes (is_wide h) l)
              (slice_same (log_at h) h.log.len first.bytes second.bytes (omega (arith, long_first)) (omega (arith, long_second))
              (λ j ge lt. over_out 32 cell first.bytes j cell_room (inr (omega (arith, ge, may.behind, cell_len))))
              ∙ ap (λ (l : List ℕ). slice (log_at h) h.log.len l) first_is
              ∙ subst (λ (n : ℕ). slice (log_at h) n (over (log_at h) log (padded (log_at h) d.bytes)) ≡ log) log_len (slice_over (log_at h) log (padded (log_at h) d.bytes) (omega (arith, length-padded (log_at h) d.bytes)))
              ∙ log_is)
              ∙ log_again (is_wide h) ws is_log;
          targets = record {
            within = further (length d.bytes) (length second.bytes) ws (omega (arith, long_second)) may.targets.within;
            gate = may.targets.gate;
            cell = may.targets.cell;
            place = may.targets.place;
          };
        };
        behind = may.behind;
      }
