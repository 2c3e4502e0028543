-- What is read of a record names what its bytes name.
use Rattle.std.proofs.Common.{◌≡◌, sym, ap, ◌∙◌, ℕ, List, Option, Some, None, get_or, filter_map}
use Rattle.std.specs.List.{All}
use Rattle.oc_model.specs.declared.reach.Node.{Node}
use Rattle.oc_model.specs.declared.value.Rec.{Rec}
use Rattle.oc_model.specs.Lists.{IsOneOf}
use Rattle.oc_model.specs.Maps.{Map}
use Rattle.oc_model.specs.Nodes.{named_in}
use Rattle.oc_model.specs.Schemas.{Schema}
use Rattle.oc_model.specs.States.{Live}
use Rattle.oc_lists.proofs.IndexedKinds.{one_at}
use Rattle.oc_slots.specs.Cached.{Cached}
use Rattle.oc_store.specs.Filed.{FiledStore, IsRead}
use Rattle.oc_graph.specs.Objects.{extents_in, keeping}
use Rattle.oc_graph.specs.Sights.{names_in_bytes, node_in}
use Rattle.oc_graph.proofs.Fields.{record_named}

pub read_names : (s : Schema) (class : Option ℕ) (o : Option (List ℕ)) (r : Rec) → IsRead s class o (Some r) → named_in s r.class r.entries ≡ names_in_bytes s class o
read_names s class None r read = absurd read.0
read_names s class (Some b) r read = sym (record_named s r b (read.0).is.spellable (read.0).bytes) ∙ ap (λ k. names_in_bytes s k (Some b)) (sym read.2)

-- all of a list are in another, where each of its elements is
pub all_in : (xs ns : List Node) → ((y : Node) → IsOneOf y xs → IsOneOf y ns) → All (λ y. IsOneOf y ns) xs
all_in xs ns each = λ k d lt. each (get_or xs k d) (one_at xs k d lt)

-- with other slots kept, a record names the same nodes
pub kept_names : (live : Map Live) (v w : FiledStore) (kept : Cached) → w ≡ keeping kept v → (r : Rec)
    → filter_map (node_in live (extents_in w)) (named_in (w.session).schema r.class r.entries) ≡ filter_map (node_in live (extents_in v)) (named_in (v.session).schema r.class r.entries)
kept_names live v w kept same r = λ i. filter_map (node_in live (extents_in (same i))) (named_in ((same i).session).schema r.class r.entries)
