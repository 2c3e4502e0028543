use Rattle.std.proofs.Common.{◌≡◌, ◌≤◌, ◌+◌, ◌-◌, ◌^◌, Bool, true, false, cond, is_some, length, sym, ap, ◌∙◌, subst, arith, ℕ, refl}
use Rattle.oc_refs.specs.Triples.{by_number}
use Rattle.oc_refs.proofs.Tables.{number_is, few_steps, some_there}
use Rattle.oc_refs.proofs.table.RefTable.by_number.Goals as goal

pub returns-clause-value : goal.returns-clause-value
returns-clause-value g c =
    c.visit.ensures.value ∙ sym (number_is c.self.inside.refs.entries c.self.inside.numbers.entries c.args.number c.self.invariant) ∙ ap (λ rs. by_number rs c.args.number) c.self.view_is

-- a step for what is found
one_step : (b : Bool) (old new l : ℕ) → new ≡ old + cond b 1 0 → (b ≡ true → 1 ≤ l) → 2 ^ (new - old) ≤ (l + 1) ^ 2
one_step true old new l e some = few_steps (new - old) l (omega arith) (λ _. some refl)
one_step false old new l e some = few_steps (new - old) l (omega arith) (λ one. absurd (omega arith))

pub returns-clause-cost : goal.returns-clause-cost
returns-clause-cost g c =
    subst (λ l. 2 ^ (c.visit.new.steps - c.args.steps.now) ≤ (l + 1) ^ 2) (ap length c.self.view_is)
    (one_step (is_some c.visit.result) c.args.steps.now c.visit.new.steps _ c.visit.ensures.cost
    (λ has. some_there c.self.inside.refs.entries c.self.inside.numbers.entries c.args.number c.self.invariant (ap is_some (sym c.visit.ensures.value) ∙ has)))
