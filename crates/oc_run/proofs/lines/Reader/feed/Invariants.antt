use Rattle.std.proofs.Common.{◌≡◌, ◌≤◌, ◌-◌, ◌++◌, length, drop}
use Rattle.oc_run.specs.Rest.{Advances}
use Rattle.oc_run.proofs.lines.Reader.feed.Given as goal

abbrev pub invariant-loop-at : goal.invariant-loop-at
invariant-loop-at g l =
    record {
      within : l.at ≤ length l.bytes;
      goes : Advances g.H.Host.tells (g.H.Host.disk l.fn.host) (g.H.Host.disk l.host) l.fn.self.store (λ u. l.fn.self.line.items ++ (l.bytes ++ u)) l.fn.self.refusals l.self.store (λ u. l.self.line.items ++ (drop l.at l.bytes ++ u)) l.self.refusals;
      faults : g.H.Host.faults l.host ≡ g.H.Host.faults l.fn.host;
      taken : g.H.Host.taken l.host ≡ g.H.Host.taken l.fn.host;
    }

abbrev pub decreases-loop-at : goal.decreases-loop-at
decreases-loop-at g l = length l.bytes - l.at
