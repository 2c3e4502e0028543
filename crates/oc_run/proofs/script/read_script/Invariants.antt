use Rattle.std.proofs.Common.{◌≡◌, ◌⊎◌, ◌≤◌, ◌<◌, ◌-◌, ◌++◌, length}
use Rattle.std.specs.Prelude.{IsTrue}
use Rattle.oc_run.specs.Causes.{Took}
use Rattle.oc_run.specs.Rest.{Advances, IsSameFile}
use Rattle.oc_run.proofs.script.read_script.Given as goal

abbrev pub invariant-loop-n : goal.invariant-loop-n
invariant-loop-n g l =
    record {
      some : 0 < l.left;
      within : l.left ≤ 268435457;
      room : 0 < length l.buffer;
      goes : IsTrue g.S.Source.tells → Advances g.H.Host.tells (g.H.Host.disk l.fn.host) (g.H.Host.disk l.host) l.fn.reader.store (λ u. l.fn.reader.line.items ++ g.S.Source.left l.fn.script) l.fn.reader.refusals l.reader.store (λ u. l.reader.line.items ++ g.S.Source.left l.script) l.reader.refusals;
      file : IsTrue g.H.Host.tells → IsSameFile (g.H.Host.disk l.fn.host) (g.H.Host.disk l.host);
      host_faults : g.H.Host.faults l.host ≡ g.H.Host.faults l.fn.host;
      host_taken : g.H.Host.taken l.host ≡ g.H.Host.taken l.fn.host;
      faults : g.S.Source.faults l.script ≡ g.S.Source.faults l.fn.script;
      taken : ((l.left ≡ 268435457) × (g.S.Source.taken l.script ≡ g.S.Source.taken l.fn.script)) ⊎ ((l.left < 268435457) × Took (268435457 - l.left) (g.S.Source.taken l.fn.script) (g.S.Source.taken l.script));
    }

abbrev pub decreases-loop-n : goal.decreases-loop-n
decreases-loop-n g l = l.left
