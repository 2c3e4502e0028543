use Rattle.std.proofs.Common.{◌≡◌, ◌∙◌, ℕ, ◌<◌, List, [], ◌∷◌, ◌++◌, length, take, drop, get_or, refl, ap, subst, sym, arith, rules}
use Rattle.std.proofs.lemmas.List.{take-append-drop, length-take}
use Rattle.oc_layout.specs.declared.cells.CellWrite.{CellWrite}
use Rattle.oc_host.specs.Disk.{Disk, AfterWrite, wrote}
use Rattle.oc_log.specs.Runs.{cells_bytes}
use Rattle.oc_log.proofs.Puts.{IsPutting, put_goes_on, put_writes, put_ends}
use Rattle.oc_log.proofs.Touches.{none, cells_split, cells_fit}
use Rattle.oc_log.proofs.applying.put_all.Goals as goal

pub split_at-requires-in-len1-up : goal.split_at-requires-in-len1-up
split_at-requires-in-len1-up g c = cells_fit c.touching-count.result c.loop-rest.rest.now c.loop-rest.to_come.now c.loop-rest.invariant.bytes c.touching-count.ensures.inside

-- the cells that are left, in two parts
parts : (ws rest : List CellWrite) (n : ℕ) (old d : Disk) → IsPutting ws rest old d → IsPutting ws (take n rest ++ drop n rest) old d
parts ws rest n old d p = subst (λ (l : List CellWrite). IsPutting ws l old d) (sym (take-append-drop n rest)) p

some : (n : ℕ) (rest : List CellWrite) → 0 < n → 0 < length rest → 0 < length (take n rest)
some n rest pos len = omega (arith, length-take n rest, pos, len)

pub returns-in_err-write_at-clause-any_moment : goal.returns-in_err-write_at-clause-any_moment
unfolding none
returns-in_err-write_at-clause-any_moment g c told =
    let old = g.H.Host.disk c.args.host.now in
    let d = g.H.Host.disk c.loop-rest.host in
    let e = g.H.Host.disk c.write_at.new.self in
    let ws = c.args.writes.now in
    let rest = c.loop-rest.rest.now in
    let n = c.touching-count.result in
    let at = (get_or rest 0 none).target in
    let len : 0 < length rest = search rules in
    let split = cells_split n rest c.loop-rest.to_come.now c.loop-rest.invariant.bytes c.touching-count.ensures.inside in
    let run = c.split_at-in-len1-up.ensures.front ∙ split.0 in
    put_writes ws (take n rest) (drop n rest) at old d (parts ws rest n old d (c.loop-rest.invariant.told told)) c.touching-count.ensures.touch (some n rest c.touching-count.ensures.some len) c.write_at.result e
    (subst (λ (bytes : List ℕ). AfterWrite at bytes c.write_at.result d e) run (c.write_at.ensures.disk told))

pub loop-rest-preserved : goal.loop-rest-preserved
unfolding none
loop-rest-preserved g c =
    let old = g.H.Host.disk c.args.host.now in
    let d = g.H.Host.disk c.loop-rest.host in
    let e = g.H.Host.disk c.write_at.new.self in
    let ws = c.args.writes.now in
    let rest = c.loop-rest.rest.now in
    let n = c.touching-count.result in
    let at = (get_or rest 0 none).target in
    let len : 0 < length rest = search rules in
    let split = cells_split n rest c.loop-rest.to_come.now c.loop-rest.invariant.bytes c.touching-count.ensures.inside in
    let run = c.split_at-in-len1-up.ensures.front ∙ split.0 in
    let after = c.split_at.ensures.back in
    record {
      told = λ told. subst (λ (l : List CellWrite). IsPutting ws l old e) (sym after)
          (put_goes_on ws (take n rest) (drop n rest) at old d (parts ws rest n old d (c.loop-rest.invariant.told told)) c.touching-count.ensures.touch (some n rest c.touching-count.ensures.some len) e
          (c.in_ok-write_at.ensures.disk told ∙ ap (λ (bytes : List ℕ). wrote at bytes d) run));
      bytes = c.split_at-in-len1-up.ensures.back ∙ split.1 ∙ sym (ap cells_bytes after);
      faults = c.in_ok-write_at.ensures.cause ∙ c.loop-rest.invariant.faults;
      taken = c.write_at.ensures.taken ∙ c.loop-rest.invariant.taken;
    }

nothing_left : (ws : List CellWrite) → length ws < 1 → ws ≡ []
nothing_left [] lt = refl
nothing_left (w ∷ ws) lt = absurd (omega (arith, lt))

pub returns-clause-ok : goal.returns-clause-ok
returns-clause-ok g c told =
    let old = g.H.Host.disk c.args.host.now in
    let d = g.H.Host.disk c.loop-rest.host in
    let ws = c.args.writes.now in
    let empty = nothing_left c.loop-rest.rest.now (omega (arith, c.in_default.len_below)) in
    put_ends ws old d (subst (λ (l : List CellWrite). IsPutting ws l old d) empty (c.loop-rest.invariant.told told))
