use Rattle.std.proofs.Common.{◌≡◌, ◌≤◌, ◌+◌, ◌-◌, ◌*◌, ◌^◌, length}
use Rattle.std.specs.Prelude.{IsTrue, All, AllPairs}
use Rattle.oc_host.specs.Disk.{Looks}
use Rattle.oc_log.specs.Log.{put_cells, AllWithin}
use Rattle.oc_pages.specs.Pages.{IsInRange, IsOther}
use Rattle.oc_pages.specs.Chains.{Leads}
use Rattle.oc_pages.proofs.Walks.{first_or}
use Rattle.oc_pages.proofs.loading.walk.Given as goal

abbrev pub invariant-loop-next : goal.invariant-loop-next
invariant-loop-next g l = record {
  size : IsTrue g.H.Host.tells → l.len ≡ length (g.H.Host.disk l.fn.host).bytes;
  within : IsTrue g.H.Host.tells → AllWithin (length (g.H.Host.disk l.host).bytes) l.cells;
  looks : IsTrue g.H.Host.tells → Looks (g.H.Host.disk l.fn.host) (g.H.Host.disk l.host);
  leads : IsTrue g.H.Host.tells → Leads l.unit (put_cells l.cells (g.H.Host.disk l.fn.host).bytes) l.fn.root l.table.pages l.next;
  first : first_or l.next l.table.pages ≡ l.fn.root;
  in_range : All IsInRange l.table.pages;
  full : All (λ p. length p.cells ≡ 126) l.table.pages;
  distinct : AllPairs IsOther l.table.pages;
  later : g.H.Host.faults l.fn.host ≤ g.H.Host.faults l.host;
  taken : g.H.Host.taken l.host ≤ g.H.Host.taken l.fn.host + 1024 * length l.table.pages;
}

abbrev pub decreases-loop-next : goal.decreases-loop-next
decreases-loop-next g l = 2 ^ 64 - length l.table.pages
