use Rattle.std.proofs.Common.{◌≡◌, ℕ, Some, drop}
use Rattle.std.specs.Prelude.{IsSome, ◌⊎◌}
use Rattle.std.specs.Ordering.{nat_cmp}
use Rattle.std.specs.BTreeMap.{get}
use Rattle.oc_model.specs.declared.value.Base.{Base}
use Rattle.oc_model.specs.Lists.{IsOneOf}
use Rattle.oc_lists.proofs.bases.bases_of.Given as goal

-- what is in the map is one of the pairs, and each pair has an entry or is still to come
abbrev pub invariant-loop-id : goal.invariant-loop-id
invariant-loop-id l = record {
  right : (id : ℕ) (b : Base) → get nat_cmp l.bases id ≡ Some b → IsOneOf (id, b) l.id-items;
  there : (id : ℕ) (b : Base) → IsOneOf (id, b) l.id-items → IsSome (get nat_cmp l.bases id) ⊎ IsOneOf (id, b) (drop l.id-index l.id-items);
}
