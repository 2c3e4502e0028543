-- The four calls in a row.
use Rattle.std.proofs.Common.{◌≡◌, inl, inr, ⊎_elim, ℕ, ◌+◌, ◌*◌, ◌≤◌, max, List, [], ◌∷◌, length, get_or, sym, ◌∙◌, ap, subst, arith}
use Rattle.oc_layout.specs.declared.cells.CellWrite.{CellWrite}
use Rattle.oc_layout.specs.declared.cells.Header.{Header}
use Rattle.oc_layout.specs.Layout.{is_wide, write_len, cell_bytes, log_bytes}
use Rattle.oc_layout.proofs.Spelled.{length-log}
use Rattle.oc_host.specs.Disk.{Span, Disk, Apart, Outside, IsDisk, IsSynced, LeavesOnly, over}
use Rattle.oc_host.proofs.Moments.{then_runs, said_stays, weaken}
use Rattle.oc_log.specs.Log.{put_cells, log_at, padded, staged, Clear, AllWithin}
use Rattle.oc_log.specs.States.{MayPrepare}
use Rattle.oc_log.specs.Stops.{HasNone, HasAll, NoneOrAll}
use Rattle.oc_log.proofs.Bytes.{length-over, length-over-in, over_out, length-padded, padded_same, length-put, put_same_in, put_again}
use Rattle.oc_log.proofs.Prepares.{further}

module _ (h : Header) (ws : List CellWrite) (d : Disk) (len : h.log.len ≡ 4 + write_len (is_wide h) * length ws) (is_disk : IsDisk d) (may : MayPrepare h ws d) where
  abbrev log : List ℕ
  log = log_bytes (is_wide h) ws

  abbrev first : List ℕ
  first = over (log_at h) log (padded (log_at h) d.bytes)

  log_len : length log ≡ h.log.len
  log_len = length-log (is_wide h) ws ∙ sym len

  begins : log_at h ≤ length (padded (log_at h) d.bytes)
  begins = omega (arith, length-padded (log_at h) d.bytes)

  long_first : length first ≡ max (length d.bytes) (log_at h + h.log.len)
  long_first = omega (arith, length-over (log_at h) log (padded (log_at h) d.bytes) begins, length-padded (log_at h) d.bytes, log_len)

  pub long : length (staged h ws d.bytes) ≡ max (length d.bytes) (log_at h + h.log.len)
  long = omega (arith, length-over-in 32 (cell_bytes h.log) first (omega (arith, long_first, may.long)), long_first)

  pub stays : (k : ℕ) → Clear h k → get_or (staged h ws d.bytes) k 0 ≡ get_or d.bytes k 0
  stays k clear =
      over_out 32 (cell_bytes h.log) first k (omega (arith, long_first, may.long)) clear.1
      ∙ over_out (log_at h) log (padded (log_at h) d.bytes) k begins (subst (λ (n : ℕ). Apart k (log_at h) n) (sym log_len) clear.0)
      ∙ padded_same (log_at h) d.bytes k

  -- none of the cells, as seen from the start
  from_prepared : (e : Disk) → e.bytes ≡ staged h ws d.bytes → e.said ≡ d.said → IsSynced e → (image said : List ℕ) → HasNone h e image said → HasNone h d image said
  from_prepared e is spoke synced image said r = record {
    told = r.told ∙ spoke;
    closed = r.closed;
    no_shorter = omega (arith, r.no_shorter, ap length synced.bytes, ap length is, long, is_disk.no_shorter);
    no_longer = omega (arith, r.no_longer, synced.top, ap length is, long, is_disk.no_longer);
    same = λ k fixed clear.
        r.same k (omega (arith, fixed.0, ap length synced.bytes, ap length is, long, is_disk.no_shorter), subst (λ (l : List Span). Outside k l) (sym synced.spans) tt) clear
        ∙ ap (λ (l : List ℕ). get_or l k 0) is ∙ stays k clear;
  }

  pub within : AllWithin (length (staged h ws d.bytes)) ws
  within = further (length d.bytes) (length (staged h ws d.bytes)) ws (omega (arith, long)) may.targets.within

  -- all of them: a file whose bytes are those staged, outside the log and the gate, with or without the cells
  all_in : (e : Disk) → e.said ≡ d.said → length e.bytes ≡ length (staged h ws d.bytes)
      → ((k : ℕ) → Clear h k → get_or (put_cells ws e.bytes) k 0 ≡ get_or (put_cells ws (staged h ws d.bytes)) k 0)
      → (image said : List ℕ) → HasAll h ws e image said → HasAll h ws d image said
  all_in e spoke size same image said r = record {
    told = r.told ∙ spoke;
    size = omega (arith, r.size, size, long);
    log = r.log;
    same = λ k lt clear.
        r.same k (omega (arith, lt, size, long)) clear ∙ same k clear
        ∙ put_same_in ws d.bytes (staged h ws d.bytes) k may.targets.within within (λ out. stays k clear);
  }

  told_stays : (image said : List ℕ) → NoneOrAll h ws d image said → said ≡ d.said
  told_stays image said (inl r) = r.told
  told_stays image said (inr r) = r.told

  module _ (e : Disk) (e_is : e.bytes ≡ staged h ws d.bytes) (e_synced : IsSynced e) (e_disk : IsDisk e) (prepares : LeavesOnly d e (HasNone h d)) where
    run_prepared : LeavesOnly d e (NoneOrAll h ws d)
    run_prepared = weaken d e (NoneOrAll h ws d) (HasNone h d) prepares (λ image said r. inl r)

    e_said : e.said ≡ d.said
    e_said = said_stays d e (NoneOrAll h ws d) run_prepared e_disk told_stays

    pub run_opened : (f : Disk) → LeavesOnly e f (NoneOrAll h ws e) → LeavesOnly d f (NoneOrAll h ws d)
    run_opened f opens =
        then_runs d e f (NoneOrAll h ws d) (NoneOrAll h ws e) (NoneOrAll h ws d) run_prepared opens (λ image said r. r)
        (λ image said r. ⊎_elim
        (λ none. inl (from_prepared e e_is e_said e_synced image said none))
        (λ all. inr (all_in e e_said (ap length e_is) (λ k clear. ap (λ (l : List ℕ). get_or (put_cells ws l) k 0) e_is) image said all)) r)

    module _ (f : Disk) (f_is : f.bytes ≡ over 64 (1 ∷ []) e.bytes) (f_disk : IsDisk f) (opens : LeavesOnly e f (NoneOrAll h ws e)) where
      f_size : length f.bytes ≡ length (staged h ws d.bytes)
      f_size = ap length f_is ∙ length-over-in 64 (1 ∷ []) e.bytes (omega (arith, ap length e_is, long, may.long)) ∙ ap length e_is

      f_within : AllWithin (length f.bytes) ws
      f_within = subst (λ (n : ℕ). AllWithin n ws) (sym f_size) within

      f_same : (k : ℕ) → Clear h k → get_or (put_cells ws f.bytes) k 0 ≡ get_or (put_cells ws (staged h ws d.bytes)) k 0
      f_same k clear =
          put_same_in ws (staged h ws d.bytes) f.bytes k within f_within
          (λ out. ap (λ (l : List ℕ). get_or l k 0) f_is ∙ over_out 64 (1 ∷ []) e.bytes k (omega (arith, ap length e_is, long, may.long)) clear.2 ∙ ap (λ (l : List ℕ). get_or l k 0) e_is)

      f_said : f.said ≡ d.said
      f_said = said_stays d f (NoneOrAll h ws d) (run_opened f opens) f_disk told_stays

      pub run_applied : (g : Disk) → LeavesOnly f g (HasAll h ws f) → LeavesOnly d g (NoneOrAll h ws d)
      run_applied g applies =
          then_runs d f g (NoneOrAll h ws d) (HasAll h ws f) (NoneOrAll h ws d) (run_opened f opens) applies (λ image said r. r)
          (λ image said r. inr (all_in f f_said f_size f_same image said r))

      pub run_closed : (g : Disk) → g.bytes ≡ put_cells ws f.bytes → IsDisk g → LeavesOnly f g (HasAll h ws f) → (z : Disk) → LeavesOnly g z (HasAll h ws g) → LeavesOnly d z (NoneOrAll h ws d)
      run_closed g g_is g_disk applies z closes =
          let g_said = said_stays d g (NoneOrAll h ws d) (run_applied g applies) g_disk told_stays in
          then_runs d g z (NoneOrAll h ws d) (HasAll h ws g) (NoneOrAll h ws d) (run_applied g applies) closes (λ image said r. r)
          (λ image said r. inr (all_in g g_said (ap length g_is ∙ length-put ws f.bytes f_within ∙ f_size)
          (λ k clear. ap (λ (l : List ℕ). get_or (put_cells ws l) k 0) g_is ∙ put_again ws f.bytes k f_within ∙ f_same k clear) image said r))
