use Rattle.std.proofs.Common.{◌≡◌, ℕ, Bool}
use Rattle.oc_live.specs.Kept.{Tells}
use Rattle.oc_live.proofs.Keeping.{with_kept_below}
use Rattle.oc_live.proofs.live.LiveObjects.keep_numbers.Given as goal

abbrev pub invariant-loop-handle : goal.invariant-loop-handle
invariant-loop-handle g l = (kept : ℕ → Bool) → Tells (goal.F-post g l.is_kept) kept → l.self ≡ with_kept_below kept l.handle l.fn.self
