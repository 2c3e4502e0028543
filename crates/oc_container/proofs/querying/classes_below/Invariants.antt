use Rattle.std.proofs.Common.{◌≡◌, ◌+◌, ◌&&◌, ℕ, nat_lt}
use Rattle.oc_model.specs.Maps.{is_in}
use Rattle.oc_model.specs.Schemas.{is_sub}
use Rattle.oc_container.proofs.querying.classes_below.Given as goal

-- the classes so far
abbrev pub invariant-loop-place : goal.invariant-loop-place
invariant-loop-place l = (c : ℕ) → is_in l.classes.items c ≡ (nat_lt c (l.place + 1) && is_sub l.schema c l.class)
