-- The walks that are planned here, over any graph.
use Rattle.std.specs.Prelude.{ℕ, ◌≡◌}
use Rattle.std.proofs.Common.{sym}
use Rattle.oc_model.specs.States.{Settings}
use Rattle.oc_model.specs.Walks.{Walk, IsLawful}
use Rattle.oc_reach.specs.Graphs.{Shown, IsClosed, AreInRange, activate_over, plain_over, show_over}
use Rattle.oc_reach.proofs.GraphLaws.{activate_over_lawful, plain_over_lawful, show_over_lawful}
use Rattle.oc_activate.specs.declared.planning.Walk.{Walk as Which}
use Rattle.oc_activate.specs.declared.planning.Walk.TheVariants as which

-- the rule of each walk
abbrev pub walk_over : Which → Settings → Shown → Walk
walk_over which.Activate s g = activate_over s g
walk_over which.Deactivate s g = plain_over g
walk_over which.Refresh s g = plain_over g
walk_over which.Peek s g = plain_over g
walk_over which.Show s g = show_over g

-- the depth with which it begins
abbrev pub begins_with : Which → ℕ → ℕ
begins_with which.Show depth = 1
begins_with _ depth = depth

pub plan_lawful : (which : Which) (s : Settings) (g : Shown) → AreInRange s → IsClosed g → IsLawful (walk_over which s g)
plan_lawful which.Activate s g all closed = activate_over_lawful s g all closed
plan_lawful which.Deactivate s g all closed = plain_over_lawful g closed
plan_lawful which.Refresh s g all closed = plain_over_lawful g closed
plan_lawful which.Peek s g all closed = plain_over_lawful g closed
plan_lawful which.Show s g all closed = show_over_lawful g closed

-- of equal parts
pub same_over : (v w : Which) (s t : Settings) (g k : Shown) → w ≡ v → t ≡ s → g ≡ k → walk_over v s g ≡ walk_over w t k
same_over v w s t g k a b c = λ i. walk_over (sym a i) (sym b i) (c i)
