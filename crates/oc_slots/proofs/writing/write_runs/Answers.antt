use Rattle.std.proofs.Common.{◌≡◌, ◌∙◌, ◌+◌, ◌≤◌, ℕ, List, [], length, drop, ap, subst, refl, arith}
use Rattle.std.proofs.lemmas.List.{drop_all, length-map}
use Rattle.oc_slots.specs.declared.run.Run.{Run}
use Rattle.oc_host.specs.Disk.{AfterWrite, wrote}
use Rattle.oc_slots.specs.Pieces.{Piece, as_pieces, over_all, Fit}
use Rattle.oc_slots.proofs.RunWrites.{IsWritten, none_written, pieces_left, piece_among, moments_on, written_on}
use Rattle.oc_slots.proofs.writing.write_runs.Goals as goal

pub loop-run-init : goal.loop-run-init
loop-run-init g c = record { told = λ told. none_written (as_pieces c.args.runs.now) (g.H.Host.disk c.args.host.now) (c.requires told); faults = refl; taken = refl }

pub write_at-requires : goal.write_at-requires
write_at-requires g c told =
    let left = pieces_left c.args.runs.now c.loop-run.run-index c.run-item.result c.loop-run-test.true c.run-item.is in
    (subst (λ l. Fit l (g.H.Host.disk c.loop-run.host).bytes) left (c.loop-run.invariant.told told).fit).0

pub returns-in_err-write_at-clause-any_moment : goal.returns-in_err-write_at-clause-any_moment
returns-in_err-write_at-clause-any_moment g c told h pages free holds =
    let old = g.H.Host.disk c.args.host.now in
    let d = g.H.Host.disk c.loop-run.host in
    let e = g.H.Host.disk c.write_at.new.self in
    let all = as_pieces c.args.runs.now in
    let rest = drop (c.loop-run.run-index + 1) all in
    let run = c.run-item.result in
    let p : Piece = record { at = run.at; bytes = run.bytes.items } in
    let left = pieces_left c.args.runs.now c.loop-run.run-index run c.loop-run-test.true c.run-item.is in
    moments_on all rest p old d (subst (λ l. IsWritten all l old d) left (c.loop-run.invariant.told told)) (piece_among c.args.runs.now c.loop-run.run-index run c.loop-run-test.true c.run-item.is)
    c.write_at.result e (subst (λ b. AfterWrite run.at b c.write_at.result d e) c.deref.ensures.value (c.write_at.ensures.disk told)) (g.met.H.Host.sound c.loop-run.host told) h pages free holds

pub loop-run-preserved : goal.loop-run-preserved
loop-run-preserved g c =
    let old = g.H.Host.disk c.args.host.now in
    let d = g.H.Host.disk c.loop-run.host in
    let e = g.H.Host.disk c.write_at.new.self in
    let all = as_pieces c.args.runs.now in
    let rest = drop (c.loop-run.run-index + 1) all in
    let run = c.run-item.result in
    let p : Piece = record { at = run.at; bytes = run.bytes.items } in
    let left = pieces_left c.args.runs.now c.loop-run.run-index run c.loop-run-test.true c.run-item.is in
    record {
      told = λ told. written_on all rest p old d (subst (λ l. IsWritten all l old d) left (c.loop-run.invariant.told told)) (piece_among c.args.runs.now c.loop-run.run-index run c.loop-run-test.true c.run-item.is)
          e (c.in_ok-write_at.ensures.disk told ∙ ap (λ b. wrote run.at b d) c.deref.ensures.value) (g.met.H.Host.sound c.loop-run.host told);
      faults = c.in_ok-write_at.ensures.cause ∙ c.loop-run.invariant.faults;
      taken = c.write_at.ensures.taken ∙ c.loop-run.invariant.taken;
    }

none_left : (runs : List Run) (i : ℕ) → length runs ≤ i → drop i (as_pieces runs) ≡ []
none_left runs i le = drop_all i (as_pieces runs) (omega (arith, le, length-map runs as_piece))
  where
    as_piece : Run → Piece
    as_piece r = record { at = r.at; bytes = r.bytes.items }

pub returns-clause-bytes : goal.returns-clause-bytes
returns-clause-bytes g c told =
    subst (λ l. over_all l (g.H.Host.disk c.loop-run.host).bytes ≡ over_all (as_pieces c.args.runs.now) (g.H.Host.disk c.args.host.now).bytes)
    (none_left c.args.runs.now c.loop-run.run-index c.loop-run-test.false) (c.loop-run.invariant.told told).bytes

pub returns-clause-keeps : goal.returns-clause-keeps
returns-clause-keeps g c told = (c.loop-run.invariant.told told).keeps

pub returns-clause-any_moment : goal.returns-clause-any_moment
returns-clause-any_moment g c told = (c.loop-run.invariant.told told).moments
