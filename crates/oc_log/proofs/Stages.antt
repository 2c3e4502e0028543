-- What a stop leaves in each call on a log.
use Rattle.std.proofs.Common.{◌≡◌, ◌≢◌, ◌⊎◌, inl, inr, ⊎_elim, ℕ, zero, suc, ◌+◌, ◌*◌, ◌<◌, ◌≤◌, Bool, true, false, List, [], ◌++◌, length, take, get_or, refl, sym, ◌∙◌, ap, subst, arith, rules, None}
use Rattle.std.specs.Prelude.{IsTrue, nat_le, ◌==◌, ◌&&◌, if◌then◌else◌}
use Rattle.std.proofs.lemmas.List.{get_or_past, append-nil}
use Rattle.std.proofs.lemmas.Bool.{cases_lt, cases_eq}
use Rattle.oc_layout.specs.declared.cells.CellWrite.{CellWrite}
use Rattle.oc_layout.specs.declared.cells.Header.{Header}
use Rattle.oc_layout.specs.Layout.{is_wide, unit_of, first_cell, read_writes}
use Rattle.oc_host.specs.Disk.{Stop, Disk, Apart, Outside, IsSynced}
use Rattle.oc_host.proofs.Moments.{Gives}
use Rattle.oc_log.specs.Log.{slice, put_cells, log_at, open_writes, put_found, settled, AllApart, AreTargets, Clear}
use Rattle.oc_log.specs.Runs.{Touched}
use Rattle.oc_log.specs.States.{HasLog}
use Rattle.oc_log.specs.Stops.{HasAll, NoneOrAll}
use Rattle.oc_log.proofs.Bytes.{length-put, put_same, clear_of, slice_same}

-- ---- an open log

is_not : (x y : ℕ) → x ≢ y → (x == y) ≡ false
is_not x y ne = search rules

-- without an open gate an image stands for itself
pub settled_closed : (h : Header) (b : List ℕ) → get_or b 64 0 ≢ 1 → settled h b ≡ b
unfolding open_writes
settled_closed h b closed =
    λ i. put_found (if is_not (get_or b 64 0) 1 closed i && nat_le ((first_cell (slice 32 8 b)).at * unit_of h + (first_cell (slice 32 8 b)).len) (length b) then read_writes (is_wide h) (slice ((first_cell (slice 32 8 b)).at * unit_of h) (first_cell (slice 32 8 b)).len b) else None) b

pub both : (x y : Bool) → IsTrue x → IsTrue y → (x && y) ≡ true
both true true a b = refl
both true false a b = absurd cc
both false y a b = absurd cc

-- with one, it stands for itself with the cells put in
pub settled_open : (h : Header) (ws : List CellWrite) (b : List ℕ) → HasLog h ws b → get_or b 64 0 ≡ 1 → settled h b ≡ put_cells ws b
unfolding open_writes
settled_open h ws b has gate =
    let g : IsTrue (get_or b 64 0 == 1) = search rules in
    let l : IsTrue (nat_le (h.log.at * unit_of h + h.log.len) (length b)) = search (rules, has.inside) in
    let test = both (get_or b 64 0 == 1) (nat_le (h.log.at * unit_of h + h.log.len) (length b)) g l in
    (λ i. put_found (if (get_or b 64 0 == 1) && nat_le ((has.cell i).at * unit_of h + (has.cell i).len) (length b) then read_writes (is_wide h) (slice ((has.cell i).at * unit_of h) (has.cell i).len b) else None) b)
    ∙ (λ i. put_found (if test i then read_writes (is_wide h) (slice (log_at h) h.log.len b) else None) b)
    ∙ (λ i. put_found (has.log i) b)

-- a place of the log cell or of the log
abbrev pub InLog : Header → ℕ → Type 0
InLog h k = ((32 ≤ k) × (k < 40)) ⊎ ((log_at h ≤ k) × (k < log_at h + h.log.len))

pub has_log_same : (h : Header) (ws : List CellWrite) (b c : List ℕ) → HasLog h ws b → length c ≡ length b → ((k : ℕ) → InLog h k → get_or c k 0 ≡ get_or b k 0) → HasLog h ws c
has_log_same h ws b c has size same = record {
  long = omega (arith, size, has.long);
  cell = ap first_cell (slice_same 32 8 b c (omega (arith, has.long)) (omega (arith, has.long, size)) (λ k ge lt. same k (inl (ge, lt)))) ∙ has.cell;
  inside = omega (arith, size, has.inside);
  log = ap (λ (l : List ℕ). read_writes (is_wide h) l) (slice_same (log_at h) h.log.len b c has.inside (omega (arith, size, has.inside)) (λ k ge lt. same k (inr (ge, lt)))) ∙ has.log;
  targets = subst (λ (n : ℕ). AreTargets h n ws) (sym size) has.targets;
}

-- no target touches the log
pub log_apart : (h : Header) (len : ℕ) (ws : List CellWrite) (k : ℕ) → AreTargets h len ws → InLog h k → AllApart k ws
log_apart h len ws k targets (inl cell) = clear_of 32 8 k ws targets.cell cell.0 (omega (arith, cell.1))
log_apart h len ws k targets (inr place) = clear_of (log_at h) h.log.len k ws targets.place place.0 place.1

pub gate_apart : (h : Header) (len : ℕ) (ws : List CellWrite) → AreTargets h len ws → AllApart 64 ws
gate_apart h len ws targets = clear_of 64 1 64 ws targets.gate (omega arith) (omega arith)

-- ---- images around a synced file

-- a stop that leaves these bytes, but where `Keep` doesn't hold
pub record Around (Keep : ℕ → Type 0) (b said : List ℕ) (stop : Stop) : Type 0 where
  pub synced : stop.synced ≡ b
  pub top : stop.top ≡ length b
  pub told : stop.said ≡ said
  pub piece : stop.piece ≡ []
  pub spans : (k : ℕ) → Keep k → Outside k stop.spans

pub record Differs (Keep : ℕ → Type 0) (b said image spoken : List ℕ) : Type 0 where
  pub told : spoken ≡ said
  pub size : length image ≡ length b
  pub same : (k : ℕ) → Keep k → get_or image k 0 ≡ get_or b k 0

pub nothing : (n : ℕ) (l : List ℕ) → l ≡ [] → take n l ≡ []
nothing zero l is = refl
nothing (suc n) l is = ap (λ (m : List ℕ). take (suc n) m) is

pub around : (Keep : ℕ → Type 0) (b said : List ℕ) (stop : Stop) → Around Keep b said stop → Gives stop (Differs Keep b said)
around Keep b said stop is image spoken im = record {
  told = im.told.1 ∙ ap (λ (l : List ℕ). stop.said ++ l) (nothing im.told.0 stop.piece is.piece) ∙ append-nil stop.said ∙ is.told;
  size = sizes;
  same = λ k keep. elim (cases_lt k (length b)) [
    | inl lt ↦ im.kept k (omega (arith, lt, ap length is.synced)) (is.spans k keep) ∙ ap (λ (l : List ℕ). get_or l k 0) is.synced
    | inr ge ↦ get_or_past image k 0 (omega (arith, ge, sizes)) ∙ sym (get_or_past b k 0 ge)
  ];
}
  where
    sizes : length image ≡ length b
    sizes = omega (arith, im.no_shorter, im.no_longer, is.top, ap length is.synced)

-- ---- the cells

module _ (h : Header) (ws : List CellWrite) (d : Disk) (has : HasLog h ws d.bytes) where
  open_is_after : (image spoken : List ℕ) → spoken ≡ d.said → length image ≡ length d.bytes → HasLog h ws image → get_or image 64 0 ≡ 1
      → ((k : ℕ) → Clear h k → AllApart k ws → get_or image k 0 ≡ get_or d.bytes k 0) → HasAll h ws d image spoken
  open_is_after image spoken told size has_image gate same =
      let is = settled_open h ws image has_image gate in
      record {
        told = told;
        size = omega (arith, ap length is, length-put ws image has_image.targets.within, size, has.inside);
        log = λ g. has_image;
        same = λ k lt clear. ap (λ (l : List ℕ). get_or l k 0) is ∙ put_same ws d.bytes image k size has.targets.within (same k clear);
      }

  -- while they are written
  pub touched_after : get_or d.bytes 64 0 ≡ 1 → (image spoken : List ℕ) → Touched ws d image spoken → HasAll h ws d image spoken
  touched_after gate image spoken t =
      open_is_after image spoken t.told t.size
      (has_log_same h ws d.bytes image has t.size (λ k in_log. t.same k (log_apart h (length d.bytes) ws k has.targets in_log)))
      (t.same 64 (gate_apart h (length d.bytes) ws has.targets) ∙ gate)
      (λ k clear out. t.same k out)

  -- while the gate is opened
  pub opening_either : (closed : get_or d.bytes 64 0 ≢ 1) (behind : 128 ≤ log_at h) (synced : IsSynced d) (image spoken : List ℕ) → Differs (λ k. Apart k 64 1) d.bytes d.said image spoken → NoneOrAll h ws d image spoken
  opening_either closed behind synced image spoken t = elim (cases_eq (get_or image 64 0) 1) [
    | inl gate ↦ inr (open_is_after image spoken t.told t.size
        (has_log_same h ws d.bytes image has t.size (λ k in_log. t.same k (⊎_elim (λ cell. inl (omega (arith, cell.1))) (λ place. inr (omega (arith, place.0, behind))) in_log)))
        gate (λ k clear out. t.same k clear.2))
    | inr closed ↦ inl (
        let is = settled_closed h image closed in
        record {
          told = t.told;
          closed = closed;
          no_shorter = omega (arith, ap length is, t.size, ap length synced.bytes);
          no_longer = omega (arith, ap length is, t.size, synced.top);
          same = λ k fixed clear. ap (λ (l : List ℕ). get_or l k 0) is ∙ t.same k clear.2;
        })
  ]

  -- while it is closed, after the cells were put in
  pub closing_after : (gate : get_or d.bytes 64 0 ≡ 1) (done : (k : ℕ) → get_or (put_cells ws d.bytes) k 0 ≡ get_or d.bytes k 0) (image spoken : List ℕ) → Differs (λ k. Apart k 64 1) d.bytes d.said image spoken → HasAll h ws d image spoken
  closing_after gate done image spoken t = elim (cases_eq (get_or image 64 0) 1) [
    | inl still ↦
        let all : (k : ℕ) → get_or image k 0 ≡ get_or d.bytes k 0 = λ k. elim (cases_eq k 64) [
          | inl here ↦ subst (λ (j : ℕ). get_or image j 0 ≡ get_or d.bytes j 0) (sym here) (still ∙ sym gate)
          | inr other ↦ t.same k (elim (cases_lt k 64) [ inl lt ↦ inl lt | inr ge ↦ inr (omega arith) ])
        ] in
        open_is_after image spoken t.told t.size (has_log_same h ws d.bytes image has t.size (λ k in_log. all k)) still (λ k clear out. all k)
    | inr closed ↦
        let is = settled_closed h image closed in
        record {
          told = t.told;
          size = omega (arith, ap length is, t.size, has.inside);
          log = λ g. absurd (closed g);
          same = λ k lt clear. ap (λ (l : List ℕ). get_or l k 0) is ∙ t.same k clear.2 ∙ sym (done k);
        }
  ]
