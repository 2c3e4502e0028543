use Rattle.std.proofs.Common.{◌≡◌, drop}
use Rattle.std.specs.Prelude.{IsTrue}
use Rattle.oc_slots.specs.Pieces.{as_pieces}
use Rattle.oc_slots.proofs.RunWrites.{IsWritten}
use Rattle.oc_slots.proofs.writing.write_runs.Given as goal

abbrev pub invariant-loop-run : goal.invariant-loop-run
invariant-loop-run g l = record {
  told : IsTrue g.H.Host.tells → IsWritten (as_pieces l.runs) (drop l.run-index (as_pieces l.runs)) (g.H.Host.disk l.fn.host) (g.H.Host.disk l.host);
  faults : g.H.Host.faults l.host ≡ g.H.Host.faults l.fn.host;
  taken : g.H.Host.taken l.host ≡ g.H.Host.taken l.fn.host;
}
