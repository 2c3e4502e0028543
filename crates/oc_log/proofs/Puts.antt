-- Cells are written, a run at a time.
use Rattle.std.proofs.Common.{◌≡◌, inl, inr, ℕ, ◌+◌, ◌*◌, ◌<◌, ◌≤◌, List, [], ◌++◌, length, get_or, refl, sym, ◌∙◌, ap, subst, arith, Result, Ok}
use Rattle.oc_host.specs.declared.host.Failed.{Failed}
use Rattle.oc_layout.specs.declared.cells.CellWrite.{CellWrite}
use Rattle.oc_layout.specs.declared.cells.Header.{Header}
use Rattle.oc_host.specs.Disk.{Span, Stop, Disk, Apart, Outside, IsSynced, LeavesOnly, now, writing, wrote, synced_now, AfterWrite, AfterSync}
use Rattle.oc_host.proofs.Moments.{Gives, started, writes, syncs, synced}
use Rattle.oc_log.specs.Log.{put_cells, AllApart, AllWithin}
use Rattle.oc_log.specs.Runs.{cells_bytes, Touch, Touched, IsPut}
use Rattle.oc_log.specs.States.{IsOpened, IsApplied}
use Rattle.oc_log.specs.Stops.{HasAll}
use Rattle.oc_log.proofs.Bytes.{length-over-in, length-put, put_out, put_again}
use Rattle.oc_log.proofs.Stages.{Around, around, touched_after, has_log_same, log_apart, gate_apart}
use Rattle.oc_log.proofs.Touches.{length-cells, put_append, within_append, apart_append, touch_put, touch_apart, touch_within}

-- some of the cells are written, and these are left
pub record IsPutting (ws rest : List CellWrite) (old d : Disk) : Type 0 where
  pub bytes : put_cells rest d.bytes ≡ put_cells ws old.bytes
  pub size : length d.bytes ≡ length old.bytes
  pub said : d.said ≡ old.said
  pub synced : d.synced ≡ old.bytes
  pub top : d.top ≡ length old.bytes
  pub spans : (k : ℕ) → AllApart k ws → Outside k d.spans
  pub within : AllWithin (length old.bytes) rest
  pub part : (k : ℕ) → AllApart k ws → AllApart k rest
  pub so_far : LeavesOnly old d (Touched ws old)

touches : (ws : List CellWrite) (old : Disk) (stop : Stop) → Around (λ k. AllApart k ws) old.bytes old.said stop → Gives stop (Touched ws old)
touches ws old stop is image spoken im =
    let t = around (λ k. AllApart k ws) old.bytes old.said stop is image spoken im in
    record { told = t.told; size = t.size; same = t.same }

pub put_starts : (ws : List CellWrite) (old : Disk) → IsSynced old → AllWithin (length old.bytes) ws → IsPutting ws ws old old
put_starts ws old s within = record {
  bytes = refl;
  size = refl;
  said = refl;
  synced = s.bytes;
  top = s.top;
  spans = λ k out. subst (λ (l : List Span). Outside k l) (sym s.spans) tt;
  within = within;
  part = λ k out. out;
  so_far = started old (Touched ws old);
}

module _ (ws run rest : List CellWrite) (at : ℕ) (old d : Disk) (p : IsPutting ws (run ++ rest) old d) (touch : Touch at run) (some : 0 < length run) where
  fits : at + 8 * length run ≤ length old.bytes
  fits = touch_within run at (length old.bytes) touch (within_append (length old.bytes) run rest p.within).0 some

  size : length (cells_bytes run) ≡ 8 * length run
  size = length-cells run

  out_of : (k : ℕ) → AllApart k ws → Apart k at (length (cells_bytes run))
  out_of k out = subst (λ (n : ℕ). Apart k at n) (sym size) (touch_apart run at k touch (apart_append k run rest (p.part k out)).0)

  in_write : Around (λ k. AllApart k ws) old.bytes old.said (writing at (length (cells_bytes run)) d)
  in_write = record {
    synced = p.synced;
    top = omega (arith, p.top, fits, size);
    told = p.said;
    piece = refl;
    spans = λ k out. (out_of k out, p.spans k out);
  }

  pub put_fits : at ≤ length d.bytes
  put_fits = omega (arith, fits, p.size)

  pub put_writes : (r : Result Unit Failed) (e : Disk) → AfterWrite at (cells_bytes run) r d e → LeavesOnly old e (Touched ws old)
  put_writes r e is = writes old d (Touched ws old) at (cells_bytes run) r e is p.so_far (touches ws old (writing at (length (cells_bytes run)) d) in_write)

  pub put_goes_on : (e : Disk) → e ≡ wrote at (cells_bytes run) d → IsPutting ws rest old e
  put_goes_on e is = subst (λ (x : Disk). IsPutting ws rest old x) (sym is) (record {
    bytes = ap (λ (l : List ℕ). put_cells rest l) (touch_put run at d.bytes touch (omega (arith, fits, p.size))) ∙ sym (put_append run rest d.bytes) ∙ p.bytes;
    size = length-over-in at (cells_bytes run) d.bytes (omega (arith, fits, p.size, size)) ∙ p.size;
    said = p.said;
    synced = p.synced;
    top = omega (arith, p.top, fits, size);
    spans = λ k out. (out_of k out, p.spans k out);
    within = (within_append (length old.bytes) run rest p.within).1;
    part = λ k out. (apart_append k run rest (p.part k out)).1;
    so_far = put_writes (Ok tt) (wrote at (cells_bytes run) d) refl;
  })

pub put_ends : (ws : List CellWrite) (old d : Disk) → IsPutting ws [] old d → IsPut ws old d
put_ends ws old d p = record { bytes = p.bytes; said = p.said; synced = p.synced; top = p.top; spans = p.spans }

-- ---- and synced, under an open gate
module _ (h : Header) (ws : List CellWrite) (d : Disk) (p : IsOpened h ws d) where
  after_put : Touched ws d (put_cells ws d.bytes) d.said
  after_put = record {
    told = refl;
    size = length-put ws d.bytes p.has.targets.within;
    same = λ k out. put_out ws d.bytes k p.has.targets.within out;
  }

  pub put_moments : (e : Disk) → LeavesOnly d e (Touched ws d) → LeavesOnly d e (HasAll h ws d)
  put_moments e so_far = record {
    later = so_far.later;
    each = λ t image spoken le left. elim (so_far.each t image spoken le left) [
      | inl older ↦ inl older
      | inr t ↦ inr (touched_after h ws d p.has p.gate image spoken t)
    ];
  }

  pub put_syncs : (r : Result Unit Failed) (e f : Disk) → IsPut ws d e → LeavesOnly d e (Touched ws d) → AfterSync r e f → LeavesOnly d f (HasAll h ws d)
  put_syncs r e f is so_far after =
      put_moments f (syncs d e (Touched ws d) r f after so_far
      (touches ws d (now e) (record { synced = is.synced; top = is.top; told = is.said; piece = refl; spans = is.spans }))
      whole)
    where
      whole : Touched ws d e.bytes e.said
      whole = subst (λ (l : List ℕ). Touched ws d l e.said) (sym is.bytes) (subst (λ (l : List ℕ). Touched ws d (put_cells ws d.bytes) l) (sym is.said) after_put)

  pub applied : (e f : Disk) → IsPut ws d e → f ≡ synced_now e → IsApplied h ws f
  applied e f is after = subst (λ (x : Disk). IsApplied h ws x) (sym after) (record {
    synced = synced e;
    gate = t.same 64 (gate_apart h (length d.bytes) ws p.has.targets) ∙ p.gate;
    has = has_log_same h ws d.bytes e.bytes p.has t.size (λ k in_log. t.same k (log_apart h (length d.bytes) ws k p.has.targets in_log));
    done = λ k. subst (λ (l : List ℕ). get_or (put_cells ws l) k 0 ≡ get_or l k 0) (sym is.bytes) (put_again ws d.bytes k p.has.targets.within);
  })
    where
      t : Touched ws d e.bytes d.said
      t = subst (λ (l : List ℕ). Touched ws d l d.said) (sym is.bytes) after_put
