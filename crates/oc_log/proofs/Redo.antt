-- An open log is put in again.
use Rattle.std.proofs.Common.{◌≡◌, inl, inr, ℕ, ◌+◌, ◌*◌, ◌<◌, ◌≤◌, Bool, true, false, List, [], ◌∷◌, length, get_or, refl, sym, ◌∙◌, ap, subst, arith, rules, Option, Some, None}
use Rattle.std.specs.Prelude.{IsTrue, nat_le, ◌==◌, ◌&&◌, if◌then◌else◌}
use Rattle.std.proofs.lemmas.Bool.{cases_lt}
use Rattle.std.proofs.lemmas.List.{get_or_past}
use Rattle.oc_layout.specs.declared.cells.CellWrite.{CellWrite}
use Rattle.oc_layout.specs.declared.cells.Header.{Header}
use Rattle.oc_layout.specs.Layout.{is_wide, unit_of, first_cell, read_writes}
use Rattle.oc_host.specs.Disk.{Disk, IsImage, IsDisk, LeavesOnly, Looks, over, now}
use Rattle.oc_host.proofs.Moments.{only_bytes, then_runs, said_stays, weaken}
use Rattle.oc_log.specs.Log.{slice, put_cells, log_at, open_writes, put_found, settled, AreTargets}
use Rattle.oc_log.specs.States.{HasLog, IsOpened, MayRecover}
use Rattle.oc_log.specs.Stops.{HasAll, Recovers}
use Rattle.oc_log.proofs.Bytes.{length-put, put_again}
use Rattle.oc_log.proofs.Stages.{both}

one_false : (x y : Bool) → y ≡ false → (x && y) ≡ false
one_false true y e = e
one_false false y e = refl

module _ (h : Header) (b : List ℕ) (cell : first_cell (slice 32 8 b) ≡ h.log) where
  -- a log's place that isn't in the file
  pub open_none : length b < log_at h + h.log.len → open_writes h b ≡ None
  unfolding open_writes
  open_none far =
      let no : nat_le (log_at h + h.log.len) (length b) ≡ false = search rules in
      let test = one_false (get_or b 64 0 == 1) (nat_le (log_at h + h.log.len) (length b)) no in
      (λ i. if (get_or b 64 0 == 1) && nat_le ((cell i).at * unit_of h + (cell i).len) (length b) then read_writes (is_wide h) (slice ((cell i).at * unit_of h) (cell i).len b) else None)
      ∙ (λ i. if test i then read_writes (is_wide h) (slice (log_at h) h.log.len b) else None)

  -- what the bytes there are
  pub open_is : get_or b 64 0 ≡ 1 → log_at h + h.log.len ≤ length b → (o : Option (List CellWrite)) → read_writes (is_wide h) (slice (log_at h) h.log.len b) ≡ o → open_writes h b ≡ o
  unfolding open_writes
  open_is gate inside o is =
      let g : IsTrue (get_or b 64 0 == 1) = search rules in
      let l : IsTrue (nat_le (log_at h + h.log.len) (length b)) = search rules in
      let test = both (get_or b 64 0 == 1) (nat_le (log_at h + h.log.len) (length b)) g l in
      (λ i. if (get_or b 64 0 == 1) && nat_le ((cell i).at * unit_of h + (cell i).len) (length b) then read_writes (is_wide h) (slice ((cell i).at * unit_of h) (cell i).len b) else None)
      ∙ (λ i. if test i then read_writes (is_wide h) (slice (log_at h) h.log.len b) else None)
      ∙ is

-- an image of a synced file is the file
-- an open log that is found is there
found_log : (h : Header) (d : Disk) → MayRecover h d → (ws : List CellWrite) → open_writes h d.bytes ≡ Some ws → get_or d.bytes 64 0 ≡ 1 → HasLog h ws d.bytes
found_log h d may ws is gate = elim (cases_lt (length d.bytes) (log_at h + h.log.len)) [
  | inl far ↦ absurd (clash (sym (open_none h d.bytes may.cell far) ∙ is))
  | inr inside ↦ record {
    long = may.long;
    cell = may.cell;
    inside = inside;
    log = sym (open_is h d.bytes may.cell gate inside (read_writes (is_wide h) (slice (log_at h) h.log.len d.bytes)) refl) ∙ is;
    targets = may.targets ws is;
  }
]
  where
    clash : None ≡ Some ws → ⊥
    clash e = cc

pub moments_of : (h : Header) (d e : Disk) → MayRecover h d → Looks d e → LeavesOnly d e (Recovers h d)
moments_of h d e may looks = weaken d e (Recovers h d) (IsImage (now d)) looks.moments (λ image said im.
    let is = only_bytes d may.synced image said im in
    record {
      told = is.1;
      size = ap (λ (l : List ℕ). length (settled h l)) is.0;
      same = λ k clear. ap (λ (l : List ℕ). get_or (settled h l) k 0) is.0;
      log = λ ws found gate. subst (λ (l : List ℕ). HasLog h ws l) (sym is.0) (found_log h d may ws found (subst (λ (l : List ℕ). get_or l 64 0 ≡ 1) is.0 gate));
    })

some_same : (vs ws : List CellWrite) → Some vs ≡ Some ws → vs ≡ ws
some_same vs ws e = cc

module _ (h : Header) (ws : List CellWrite) (d e : Disk) (may : MayRecover h d) (is_open : open_writes h d.bytes ≡ Some ws) (looks : Looks d e) where
  stands : settled h d.bytes ≡ put_cells ws d.bytes
  stands = ap (λ (o : Option (List CellWrite)). put_found o d.bytes) is_open

  targets : AreTargets h (length d.bytes) ws
  targets = may.targets ws is_open

  pub opened_again : h.gate ≡ 1 → log_at h + h.log.len ≤ length d.bytes → read_writes (is_wide h) (slice (log_at h) h.log.len d.bytes) ≡ Some ws → IsOpened h ws e
  opened_again gate inside log = record {
    synced = record { bytes = looks.synced ∙ may.synced.bytes ∙ sym looks.bytes; spans = looks.spans ∙ may.synced.spans; top = looks.top ∙ may.synced.top ∙ sym (ap length looks.bytes) };
    gate = ap (λ (l : List ℕ). get_or l 64 0) looks.bytes ∙ may.gate ∙ gate;
    has = subst (λ (l : List ℕ). HasLog h ws l) (sym looks.bytes) (record { long = may.long; cell = may.cell; inside = inside; log = log; targets = targets });
  }

  module _ (inside : log_at h + h.log.len ≤ length d.bytes) where
    -- what stands outside d is nothing
    past_end : (l m : List ℕ) (k : ℕ) → length l ≡ length m → (k < length m → get_or l k 0 ≡ get_or m k 0) → get_or l k 0 ≡ get_or m k 0
    past_end l m k size same = elim (cases_lt k (length m)) [
      | inl lt ↦ same lt
      | inr ge ↦ get_or_past l k 0 (omega (arith, ge, size)) ∙ sym (get_or_past m k 0 ge)
    ]

    put_size : length (put_cells ws d.bytes) ≡ length d.bytes
    put_size = length-put ws d.bytes targets.within

    -- from a file that has the cells or is to have them
    from_all : (f : Disk) → f.said ≡ d.said → length f.bytes ≡ length d.bytes → ((k : ℕ) → get_or (put_cells ws f.bytes) k 0 ≡ get_or (put_cells ws d.bytes) k 0)
        → (image said : List ℕ) → HasAll h ws f image said → Recovers h d image said
    from_all f spoke size same image said r =
        let whole : length (settled h image) ≡ length (settled h d.bytes) = omega (arith, r.size, size, inside, ap length stands, put_size) in
        record {
          told = r.told ∙ spoke;
          size = whole;
          log = λ others found gate. subst (λ (l : List CellWrite). HasLog h l image) (some_same ws others (sym is_open ∙ found)) (r.log gate);
          same = λ k clear. past_end (settled h image) (settled h d.bytes) k whole
              (λ lt. r.same k (omega (arith, lt, size, ap length stands, put_size)) clear ∙ same k ∙ ap (λ (l : List ℕ). get_or l k 0) (sym stands));
        }

    pub applies : (f : Disk) → LeavesOnly e f (HasAll h ws e) → LeavesOnly d f (Recovers h d)
    applies f run =
        then_runs d e f (Recovers h d) (HasAll h ws e) (Recovers h d) (moments_of h d e may looks) run (λ image said r. r)
        (from_all e looks.said (ap length looks.bytes) (λ k. ap (λ (l : List ℕ). get_or (put_cells ws l) k 0) looks.bytes))

    pub closes : (f g : Disk) → LeavesOnly e f (HasAll h ws e) → IsDisk f → f.bytes ≡ put_cells ws e.bytes → LeavesOnly f g (HasAll h ws f) → LeavesOnly d g (Recovers h d)
    closes f g run sound put rest =
        then_runs d f g (Recovers h d) (HasAll h ws f) (Recovers h d) (applies f run) rest (λ image said r. r)
        (from_all f spoke (ap length bytes ∙ put_size) (λ k. ap (λ (l : List ℕ). get_or (put_cells ws l) k 0) bytes ∙ put_again ws d.bytes k targets.within))
      where
        spoke : f.said ≡ d.said
        spoke = said_stays d f (Recovers h d) (applies f run) sound (λ image said r. r.told)

        bytes : f.bytes ≡ put_cells ws d.bytes
        bytes = put ∙ ap (λ (l : List ℕ). put_cells ws l) looks.bytes

  pub recovers : (f g : Disk) → f.bytes ≡ put_cells ws e.bytes → g.bytes ≡ over 64 (0 ∷ []) f.bytes → g.bytes ≡ over 64 (0 ∷ []) (settled h d.bytes)
  recovers f g put closed = closed ∙ ap (λ (l : List ℕ). over 64 (0 ∷ []) l) (put ∙ ap (λ (l : List ℕ). put_cells ws l) looks.bytes ∙ sym stands)
