use Rattle.std.proofs.Common.{◌≡◌, ◌≤◌, ◌+◌, ◌-◌, ◌^◌, Bool, true, false, cond, is_some, length, sym, ap, ◌∙◌, subst, arith, ℕ}
use Rattle.oc_refs.specs.Triples.{by_handle}
use Rattle.oc_refs.proofs.Tables.{handle_none, handle_some, few_steps, some_there}
use Rattle.oc_refs.proofs.table.RefTable.by_handle.Goals as goal

pub returns-in_default-clause-value : goal.returns-in_default-clause-value
returns-in_default-clause-value g c =
    sym (handle_none c.self.inside.refs.entries c.self.inside.numbers.entries c.args.handle c.self.invariant (sym c.in_default.ensures.value)) ∙ ap (λ rs. by_handle rs c.args.handle) c.self.view_is

pub returns-clause-value : goal.returns-clause-value
returns-clause-value g c =
    c.visit.ensures.value ∙ sym (handle_some c.self.inside.refs.entries c.self.inside.numbers.entries c.args.handle c.in-Some.number.now c.self.invariant (sym c.in-Some.ensures.value)) ∙ ap (λ rs. by_handle rs c.args.handle) c.self.view_is

-- a step for the number, and one for the triple
two_steps : (b : Bool) (old mid new l : ℕ) → mid ≡ old + 1 → new ≡ mid + cond b 1 0 → 1 ≤ l → 2 ^ (new - old) ≤ (l + 1) ^ 2
two_steps true old mid new l e f some = few_steps (new - old) l (omega arith) (λ _. some)
two_steps false old mid new l e f some = few_steps (new - old) l (omega arith) (λ _. some)

pub returns-clause-cost : goal.returns-clause-cost
returns-clause-cost g c =
    let f = c.self.invariant.found c.args.handle c.in-Some.number.now (sym c.in-Some.ensures.value) in
    subst (λ l. 2 ^ (c.visit.new.steps - c.args.steps.now) ≤ (l + 1) ^ 2) (ap length c.self.view_is)
    (two_steps (is_some c.visit.result) c.args.steps.now c.tick.new.self c.visit.new.steps _ c.tick.ensures c.visit.ensures.cost
    (some_there c.self.inside.refs.entries c.self.inside.numbers.entries c.in-Some.number.now c.self.invariant (ap is_some f.1)))
