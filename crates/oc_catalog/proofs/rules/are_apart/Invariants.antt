use Rattle.std.proofs.Common.{◌≡◌, ℕ, drop, true, nat_cmp}
use Rattle.std.specs.BTreeSet.{contains_by}
use Rattle.oc_model.specs.Maps.{is_in}
use Rattle.oc_model.specs.SchemaRules.{are_apart}
use Rattle.oc_catalog.proofs.rules.are_apart.Given as goal

abbrev pub invariant-loop-place : goal.invariant-loop-place
invariant-loop-place l =
    record {
      apart : are_apart (drop l.place l.numbers) ≡ true;
      seen : (q : ℕ) → contains_by (nat_cmp q) l.later ≡ is_in (drop l.place l.numbers) q;
    }
