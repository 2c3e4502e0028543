use Rattle.std.proofs.Common.{◌≡◌, ◌+◌, ◌&&◌, ℕ, nat_lt, map}
use Rattle.oc_model.specs.Maps.{is_in}
use Rattle.oc_lists.specs.Following.{has_one_of}
use Rattle.oc_lists.proofs.indexing.classes_with.Given as goal

-- the classes so far
abbrev pub invariant-loop-place : goal.invariant-loop-place
invariant-loop-place l = (c : ℕ) → is_in l.classes.items c ≡ (nat_lt c (l.place + 1) && has_one_of (map (λ e. e.0) l.started) l.schema c)
