use Rattle.std.proofs.Common.{◌≡◌, ◌∙◌, ◌<◌, ◌-◌, length, sym, ap, rules, get_or, subst, take, ℕ, List, [], ◌∷◌, ◌++◌, ◌+◌, Vec, Global}
use Rattle.std.specs.Prelude.{Contains}
use Rattle.oc_pages.proofs.Ordered.{IsOnce, once_same, once_more, once_all}
use Rattle.oc_pages.proofs.order.each_once.Goals as goal
use Rattle.oc_pages.proofs.order.each_once.Goals.{then-not-ends_in+in_ok-push, else-not-ends_in}

pub loop-number-preserved : goal.loop-number-preserved
loop-number-preserved c =
    let numbers = c.args.numbers.now in
    let k = c.loop-number.number-index in
    elim c.if-not-ends_in.branch [
      | then-not-ends_in+in_ok-push w ↦
          let items : w.push.new.self.items ≡ c.loop-number.once.items ++ get_or numbers k 0 ∷ [] = search rules in
          let other = subst (λ (l : List ℕ). 0 < length l → get_or l (length l - 1) 0 ≡ get_or numbers k 0 → ⊥) c.deref.ensures.value (c.ends_in.ensures.no w.if-not-ends_in.true) in
          subst (λ (l : List ℕ). IsOnce (take (k + 1) numbers) l) (sym (ap (λ (v : Vec ℕ Global). v.items) w.once-is ∙ items))
          (once_more numbers c.loop-number.once.items k c.loop-number-test.true c.requires c.loop-number.invariant other)
      | else-not-ends_in w ↦
          let there : Contains c.loop-number.once.items (get_or numbers k 0) = subst (λ (l : List ℕ). Contains l (get_or numbers k 0)) c.deref.ensures.value (c.ends_in.ensures.yes w.if-not-ends_in.false) in
          subst (λ (l : List ℕ). IsOnce (take (k + 1) numbers) l) (sym (ap (λ (v : Vec ℕ Global). v.items) w.once-is))
          (once_same numbers c.loop-number.once.items k c.loop-number-test.true c.loop-number.invariant there)
    ]

pub returns : goal.returns
returns c = once_all c.args.numbers.now c.loop-number.once.items c.loop-number.number-index c.loop-number-test.false c.loop-number.invariant
