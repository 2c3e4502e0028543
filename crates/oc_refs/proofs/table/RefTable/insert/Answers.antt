use Rattle.std.proofs.Common.{◌≡◌, sym, ap, ◌∙◌, ◌+◌, ℕ, cond, is_some, Option, None, nat_eq}
use Rattle.std.specs.Map.{lookup}
use Rattle.oc_refs.specs.declared.table.Ref.{Ref}
use Rattle.oc_refs.specs.Triples.{by_number, by_handle, with_ref}
use Rattle.oc_refs.proofs.Tables.{number_is, handle_gone, with_new, agree_more, agree_again, put_and_gone}
use Rattle.oc_refs.proofs.table.RefTable.insert.Goals as goal

longer : {X : Type 0} (o : Option X) (a b : ℕ) → b ≡ a + cond (is_some o) 0 1 → o ≡ None → b ≡ a + 1
longer o a b e none = e ∙ ap (λ t. a + cond (is_some t) 0 1) none

pub invariant_of-self-in-Ok : goal.invariant_of-self-in-Ok
invariant_of-self-in-Ok c =
    let es = c.self.inside.refs.entries in
    let ns = c.self.inside.numbers.entries in
    let r : Ref = record { number = c.args.number; handle = c.args.handle; active = c.args.active } in
    let absent : lookup (nat_eq c.args.number) es ≡ None = sym (number_is es ns c.args.number c.self.invariant) ∙ ap (λ rs. by_number rs c.args.number) c.self.view_is ∙ c.requires.number in
    let free : lookup (nat_eq c.args.handle) ns ≡ None = handle_gone es ns c.args.handle c.self.invariant (ap (λ rs. by_handle rs c.args.handle) c.self.view_is ∙ c.requires.handle) in
    agree_more es c.insert-2.new.self.entries ns c.insert.new.self.entries r c.self.invariant absent free c.in-Ok.ensures.updates.0 c.in_ok-insert.ensures.updates.0 (longer _ _ _ c.in-Ok.ensures.len (c.in-Ok.ensures.old ∙ absent))

pub invariant_of-self-in-Err : goal.invariant_of-self-in-Err
invariant_of-self-in-Err c =
    let es = c.self.inside.refs.entries in
    let ns = c.self.inside.numbers.entries in
    let free : lookup (nat_eq c.args.handle) ns ≡ None = handle_gone es ns c.args.handle c.self.invariant (ap (λ rs. by_handle rs c.args.handle) c.self.view_is ∙ c.requires.handle) in
    agree_again es c.insert-2.new.self.entries ns c.remove.new.self.entries c.self.invariant c.in-Err.ensures.err
    (put_and_gone ns c.insert.new.self.entries c.remove.new.self.entries c.args.handle c.args.number free c.in_ok-insert.ensures.updates.0 c.remove.ensures.updates.0)

pub returns-in-Ok-clause-ok : goal.returns-in-Ok-clause-ok
returns-in-Ok-clause-ok c =
    let es = c.self.inside.refs.entries in
    let ns = c.self.inside.numbers.entries in
    let r : Ref = record { number = c.args.number; handle = c.args.handle; active = c.args.active } in
    let absent : lookup (nat_eq c.args.number) es ≡ None = sym (number_is es ns c.args.number c.self.invariant) ∙ ap (λ rs. by_number rs c.args.number) c.self.view_is ∙ c.requires.number in
    with_new es c.insert-2.new.self.entries ns r c.self.invariant c.in-Ok.ensures.updates.0 absent ∙ ap (with_ref r) c.self.view_is
