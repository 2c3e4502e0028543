use Rattle.std.proofs.Common.{sym, ap, ◌∙◌}
use Rattle.oc_refs.specs.Triples.{by_number, without}
use Rattle.oc_refs.proofs.Tables.{number_is, with_less, agree_less}
use Rattle.oc_refs.proofs.table.RefTable.remove.Goals as goal

pub returns-in_default-clause-value : goal.returns-in_default-clause-value
returns-in_default-clause-value c =
    c.in_default.ensures.value ∙ sym (number_is c.self.inside.refs.entries c.self.inside.numbers.entries c.args.number c.self.invariant) ∙ ap (λ rs. by_number rs c.args.number) c.self.view_is

pub returns-in_default-clause-rest : goal.returns-in_default-clause-rest
returns-in_default-clause-rest c =
    with_less c.self.inside.refs.entries c.remove.new.self.entries c.self.inside.numbers.entries c.args.number c.self.invariant c.in_default.ensures.updates.0 ∙ ap (without c.args.number) c.self.view_is

pub invariant_of-self-2 : goal.invariant_of-self-2
invariant_of-self-2 c =
    agree_less c.self.inside.refs.entries c.remove.new.self.entries c.self.inside.numbers.entries c.remove-2.new.self.entries c.args.number c.in-Some.triple c.self.invariant (sym c.in-Some.ensures.value)
    c.in-Some.ensures.updates.0 c.remove-2.ensures.updates.0 c.in-Some.ensures.len

pub returns-clause-value : goal.returns-clause-value
returns-clause-value c =
    c.in-Some.ensures.value ∙ sym (number_is c.self.inside.refs.entries c.self.inside.numbers.entries c.args.number c.self.invariant) ∙ ap (λ rs. by_number rs c.args.number) c.self.view_is

pub returns-clause-rest : goal.returns-clause-rest
returns-clause-rest c =
    with_less c.self.inside.refs.entries c.remove.new.self.entries c.self.inside.numbers.entries c.args.number c.self.invariant c.in-Some.ensures.updates.0 ∙ ap (without c.args.number) c.self.view_is
