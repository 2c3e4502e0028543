-- The rules that the walks are made of keep the laws of a walk.
use Rattle.std.proofs.Common.{ℕ, ◌≤◌, Bool, true, false, List, arith}
use Rattle.oc_model.specs.declared.reach.Node.{Node}
use Rattle.oc_model.specs.declared.reach.ClassSettings.{ClassSettings}
use Rattle.oc_model.specs.Lists.{IsOneOf}
use Rattle.oc_model.specs.Walks.{IsLawful, clamped, at_least_if, plain_walk}

pub clamped_small : (s : ClassSettings) (k : ℕ) → clamped s k ≤ s.maximum
clamped_small s k = omega arith

pub clamped_rises : (s : ClassSettings) (j k : ℕ) → j ≤ k → clamped s j ≤ clamped s k
clamped_rises s j k h = omega arith

pub at_least_small : (b : Bool) (k : ℕ) → k ≤ 65535 → at_least_if b k ≤ 65535
at_least_small true k h = omega arith
at_least_small false k h = omega arith

pub at_least_rises : (b : Bool) (j k : ℕ) → j ≤ k → at_least_if b j ≤ at_least_if b k
at_least_rises true j k h = omega arith
at_least_rises false j k h = omega arith

pub plain_lawful : (nodes : List Node) (next : Node → List Node) → ((x y : Node) → IsOneOf y (next x) → IsOneOf y nodes) → IsLawful (plain_walk nodes next)
plain_lawful nodes next inside =
    record {
      arrive_small = λ x k h. h;
      arrive_rises = λ x j k h _. h;
      hand_small = λ x k _ h. omega arith;
      hand_rises = λ x j k _ h _. omega arith;
      inside = inside;
    }
