-- A node arrives with what is handed.
use Rattle.oc_update.proofs.Rules.{delete_arrives}
use Rattle.oc_update.proofs.deleting.DeletingSpread.arrive.Goals as goal

pub returns : goal.returns
returns g c = let s = c.args.self.now in delete_arrives s.settings.now (g.G.Graph.shown s.graph.now) c.args._node c.args.handed
