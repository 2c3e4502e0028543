use Rattle.std.proofs.Common.{sym, ap, ◌∙◌, subst, is_some, IsSome, true≢false, refl}
use Rattle.oc_refs.specs.Triples.{by_number, with_active}
use Rattle.oc_refs.proofs.Tables.{number_is, agree_turned, with_turned}
use Rattle.oc_refs.proofs.table.RefTable.set_active.Goals as goal

pub returns-in_default : goal.returns-in_default
returns-in_default c =
    absurd (true≢false (sym c.requires ∙ sym (ap (λ rs. is_some (by_number rs c.args.number)) c.self.view_is)
    ∙ ap is_some (number_is c.self.inside.refs.entries c.self.inside.numbers.entries c.args.number c.self.invariant ∙ sym c.in_default.ensures.value)))

pub invariant_of-self-2 : goal.invariant_of-self-2
invariant_of-self-2 c =
    let old = c.in-Some.triple.now in
    let told = c.get_mut.follows.holds (record { number = old.number; handle = old.handle; active = c.args.active }) in
    agree_turned c.self.inside.refs.entries _ c.self.inside.numbers.entries c.args.number c.args.active old c.self.invariant (sym c.in-Some.ensures.value) (told.3 (subst IsSome c.in-Some.ensures.value refl)).0 told.2

pub returns : goal.returns
returns c =
    let old = c.in-Some.triple.now in
    let told = c.get_mut.follows.holds (record { number = old.number; handle = old.handle; active = c.args.active }) in
    with_turned c.self.inside.refs.entries _ c.self.inside.numbers.entries c.args.number c.args.active old c.self.invariant (sym c.in-Some.ensures.value) (told.3 (subst IsSome c.in-Some.ensures.value refl)).0
    ∙ ap (with_active c.args.number c.args.active) c.self.view_is
