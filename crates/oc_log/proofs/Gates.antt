-- The gate's byte is written and synced.
use Rattle.std.proofs.Common.{◌≡◌, inl, inr, ℕ, ◌≤◌, List, [], ◌∷◌, length, get_or, refl, sym, ◌∙◌, ap, subst, arith, Result}
use Rattle.oc_host.specs.declared.host.Failed.{Failed}
use Rattle.oc_layout.specs.declared.cells.CellWrite.{CellWrite}
use Rattle.oc_layout.specs.declared.cells.Header.{Header}
use Rattle.oc_host.specs.Disk.{Span, Disk, IsImage, Apart, Outside, IsSynced, LeavesOnly, over, now, writing, wrote, synced_now, AfterWrite, AfterSync}
use Rattle.oc_host.proofs.Moments.{Gives, started, writes, syncs, synced}
use Rattle.oc_log.specs.Log.{log_at}
use Rattle.oc_log.specs.States.{HasLog, IsPrepared, IsOpened, IsApplied}
use Rattle.oc_log.specs.Stops.{HasAll, NoneOrAll}
use Rattle.oc_log.proofs.Bytes.{over_out, over_in, length-over-in}
use Rattle.oc_log.proofs.Stages.{InLog, Around, Differs, around, has_log_same, opening_either, closing_after}

module _ (d : Disk) (is_synced : IsSynced d) (long : 128 ≤ length d.bytes) (v : ℕ) where
  abbrev Other : ℕ → Type 0
  Other k = Apart k 64 1

  in_write : Around Other d.bytes d.said (writing 64 1 d)
  in_write = record {
    synced = is_synced.bytes;
    top = omega (arith, is_synced.top, long);
    told = refl;
    piece = refl;
    spans = λ k other. (other, subst (λ (l : List Span). Outside k l) (sym is_synced.spans) tt);
  }

  pub after_write : Differs Other d.bytes d.said (over 64 (v ∷ []) d.bytes) d.said
  after_write = record {
    told = refl;
    size = length-over-in 64 (v ∷ []) d.bytes (omega (arith, long));
    same = λ k other. over_out 64 (v ∷ []) d.bytes k (omega (arith, long)) other;
  }

  pub the_gate : get_or (over 64 (v ∷ []) d.bytes) 64 0 ≡ v
  the_gate = over_in 64 (v ∷ []) d.bytes 64 (omega (arith, long)) (omega arith) (omega arith)

  module _ (P : List ℕ → List ℕ → Type 0) (here : (image spoken : List ℕ) → Differs Other d.bytes d.said image spoken → P image spoken) where
    in_write_gives : Gives (writing 64 1 d) P
    in_write_gives image spoken is = here image spoken (around Other d.bytes d.said (writing 64 1 d) in_write image spoken is)

    pub gate_writes : (r : Result Unit Failed) (e : Disk) → AfterWrite 64 (v ∷ []) r d e → LeavesOnly d e P
    gate_writes r e is = writes d d P 64 (v ∷ []) r e is (started d P) in_write_gives

    pub gate_syncs : (r : Result Unit Failed) (e f : Disk) → e ≡ wrote 64 (v ∷ []) d → LeavesOnly d e P → AfterSync r e f → LeavesOnly d f P
    gate_syncs r e f is so_far after =
        syncs d e P r f after so_far
        (λ image spoken im. in_write_gives image spoken (subst (λ (x : Disk). IsImage (now x) image spoken) is im))
        (subst (λ (x : Disk). P x.bytes x.said) (sym is) (here (over 64 (v ∷ []) d.bytes) d.said after_write))

-- the bytes of a disk that was written and synced
pub both_is : (d e f : Disk) (v : ℕ) → e ≡ wrote 64 (v ∷ []) d → f ≡ synced_now e → f ≡ synced_now (wrote 64 (v ∷ []) d)
both_is d e f v one two = two ∙ ap synced_now one

module _ (h : Header) (ws : List CellWrite) (d : Disk) where
  has_still : HasLog h ws d.bytes → 128 ≤ log_at h → (v : ℕ) → HasLog h ws (over 64 (v ∷ []) d.bytes)
  has_still has behind v =
      has_log_same h ws d.bytes (over 64 (v ∷ []) d.bytes) has (length-over-in 64 (v ∷ []) d.bytes (omega (arith, has.long)))
      (λ k in_log. over_out 64 (v ∷ []) d.bytes k (omega (arith, has.long)) (apart k in_log))
    where
      apart : (k : ℕ) → InLog h k → Apart k 64 1
      apart k (inl cell) = inl (omega (arith, cell.1))
      apart k (inr place) = inr (omega (arith, place.0, behind))

  pub opened : IsPrepared h ws d → (f : Disk) → f ≡ synced_now (wrote 64 (1 ∷ []) d) → IsOpened h ws f
  opened p f is = subst (λ (x : Disk). IsOpened h ws x) (sym is) (record {
    synced = synced (wrote 64 (1 ∷ []) d);
    gate = the_gate d p.synced p.has.long 1;
    has = has_still p.has p.behind 1;
  })

  pub opening : IsPrepared h ws d → (image spoken : List ℕ) → Differs (λ k. Apart k 64 1) d.bytes d.said image spoken → NoneOrAll h ws d image spoken
  opening p = opening_either h ws d p.has p.gate p.behind p.synced

  pub closing : IsApplied h ws d → (image spoken : List ℕ) → Differs (λ k. Apart k 64 1) d.bytes d.said image spoken → HasAll h ws d image spoken
  closing p = closing_after h ws d p.has p.gate p.done
