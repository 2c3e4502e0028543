-- What a store reaches from an object in memory, and what is asked for on the way.
use Rattle.std.specs.Prelude.{ℕ, Bool, List}
use Rattle.oc_host.specs.Disk.{Disk}
use Rattle.oc_model.specs.declared.reach.Node.{Node}
use Rattle.oc_model.specs.declared.reach.Node.TheVariants as node
use Rattle.oc_live.specs.Memories.{Memory}
use Rattle.oc_reach.specs.Asking.{AskedOnce}
use Rattle.oc_reach.specs.Graphs.{store_over}
use Rattle.oc_graph.specs.Objects.{sight}
use Rattle.oc_graph.specs.Sights.{graph_in}
use Rattle.oc_store.specs.Filed.{FiledStore}

-- The nodes were asked for what they name by a store from the object, each once: nodes that it reaches, where the file is told.
abbrev pub AskedFor : Bool → Memory → FiledStore → Disk → ℕ → ℕ → List Node → Type 0
AskedFor told k v d h depth asked = AskedOnce (store_over k.settings (graph_in told (sight k v d))) told (node.Live h) depth asked
