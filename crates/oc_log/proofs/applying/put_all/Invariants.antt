use Rattle.std.proofs.Common.{◌≡◌, length}
use Rattle.std.specs.Prelude.{IsTrue}
use Rattle.oc_log.specs.Runs.{cells_bytes}
use Rattle.oc_log.proofs.Puts.{IsPutting}
use Rattle.oc_log.proofs.applying.put_all.Given as goal

abbrev pub invariant-loop-rest : goal.invariant-loop-rest
invariant-loop-rest g l = record {
  told : IsTrue g.H.Host.tells → IsPutting l.writes l.rest (g.H.Host.disk l.fn.host) (g.H.Host.disk l.host);
  bytes : l.to_come ≡ cells_bytes l.rest;
  faults : g.H.Host.faults l.host ≡ g.H.Host.faults l.fn.host;
  taken : g.H.Host.taken l.host ≡ g.H.Host.taken l.fn.host;
}

abbrev pub decreases-loop-rest : goal.decreases-loop-rest
decreases-loop-rest g l = length l.rest
