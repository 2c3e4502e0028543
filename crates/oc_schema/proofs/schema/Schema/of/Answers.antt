-- Each exit, by the parts of the rules.
use Rattle.std.proofs.Common.{◌≤◌, refl, sym, ap, subst, ◌∙◌, is_some, IfSome, arith, length}
use Rattle.oc_model.specs.Schemas.{Schema}
use Rattle.oc_model.specs.SchemaRules.{has_earlier_parents, has_distinct_classes}
use Rattle.oc_schema.specs.Drafts.{own_rules_keep, lines_keep, IsTable}
use Rattle.oc_schema.proofs.Parting.{own_broken, lines_broken, names_broken, none_broken, own_has_parents, own_has_few}
use Rattle.oc_schema.proofs.schema.Schema.of.Goals as goal

pub returns-then-not-branch : goal.returns-then-not-branch
returns-then-not-branch c =
    let cs = c.args.classes in
    let n = c.args.next_field in
    let few : n ≤ 4294967295 = omega (arith, c.ranges.next_field.fits) in
    let own = ap (λ xs. own_rules_keep xs n) (sym c.as_slice.ensures) ∙ sym c.in_ok-own_rules_hold.ensures ∙ c.if-not-branch.true in
    rw (own_broken cs n few own) refl

pub lines_keep_rules-requires-clause-parents : goal.lines_keep_rules-requires-clause-parents
lines_keep_rules-requires-clause-parents c =
    let cs = c.args.classes in
    let n = c.args.next_field in
    let own = ap (λ xs. own_rules_keep xs n) (sym c.as_slice.ensures) ∙ sym c.in_ok-own_rules_hold.ensures ∙ c.if-not-branch.false in
    ap has_earlier_parents c.in_ok-draft.ensures ∙ own_has_parents cs n own

pub lines_keep_rules-requires-clause-few : goal.lines_keep_rules-requires-clause-few
lines_keep_rules-requires-clause-few c =
    let cs = c.args.classes in
    let n = c.args.next_field in
    let own = ap (λ xs. own_rules_keep xs n) (sym c.as_slice.ensures) ∙ sym c.in_ok-own_rules_hold.ensures ∙ c.if-not-branch.false in
    subst (λ (s : Schema). length s.classes ≤ 65535) (sym c.in_ok-draft.ensures) (own_has_few cs n own)

pub numbers-requires : goal.numbers-requires
numbers-requires c =
    let cs = c.args.classes in
    let n = c.args.next_field in
    let own = ap (λ xs. own_rules_keep xs n) (sym c.as_slice.ensures) ∙ sym c.in_ok-own_rules_hold.ensures ∙ c.if-not-branch.false in
    subst (λ (s : Schema). length s.classes ≤ 65535) (sym c.in_ok-draft.ensures) (own_has_few cs n own)

pub returns-then-not-branch-2 : goal.returns-then-not-branch-2
returns-then-not-branch-2 c =
    let cs = c.args.classes in
    let n = c.args.next_field in
    let few : n ≤ 4294967295 = omega (arith, c.ranges.next_field.fits) in
    let lines = ap lines_keep (sym c.in_ok-draft.ensures) ∙ sym c.in_ok-lines_keep_rules.ensures ∙ c.if-not-branch-2.true in
    rw (lines_broken cs n few lines) refl

pub invariant_of-result : goal.invariant_of-result
invariant_of-result c =
    let cs = c.args.classes in
    let n = c.args.next_field in
    let few : n ≤ 4294967295 = omega (arith, c.ranges.next_field.fits) in
    let made = c.in_ok-draft.ensures in
    let own = ap (λ xs. own_rules_keep xs n) (sym c.as_slice.ensures) ∙ sym c.in_ok-own_rules_hold.ensures ∙ c.if-not-branch.false in
    let lines = ap lines_keep (sym made) ∙ sym c.in_ok-lines_keep_rules.ensures ∙ c.if-not-branch-2.false in
    let names = ap has_distinct_classes (sym made) ∙ sym c.in_ok-numbers.ensures.distinct ∙ ap is_some c.in-Some.is in
    record {
      rules = rw made (none_broken cs n few own lines names);
      table = subst (λ o. IfSome o (λ m. IsTable m c.in_ok-draft.draft.classes)) c.in-Some.is c.in_ok-numbers.ensures.names;
    }

pub returns-in-Some : goal.returns-in-Some
returns-in-Some c =
    let cs = c.args.classes in
    let n = c.args.next_field in
    let few : n ≤ 4294967295 = omega (arith, c.ranges.next_field.fits) in
    let made = c.in_ok-draft.ensures in
    let own = ap (λ xs. own_rules_keep xs n) (sym c.as_slice.ensures) ∙ sym c.in_ok-own_rules_hold.ensures ∙ c.if-not-branch.false in
    let lines = ap lines_keep (sym made) ∙ sym c.in_ok-lines_keep_rules.ensures ∙ c.if-not-branch-2.false in
    let names = ap has_distinct_classes (sym made) ∙ sym c.in_ok-numbers.ensures.distinct ∙ ap is_some c.in-Some.is in
    rw (none_broken cs n few own lines names, made) refl

pub returns-in-None : goal.returns-in-None
returns-in-None c =
    let cs = c.args.classes in
    let n = c.args.next_field in
    let few : n ≤ 4294967295 = omega (arith, c.ranges.next_field.fits) in
    let names = ap has_distinct_classes (sym c.in_ok-draft.ensures) ∙ sym c.in_ok-numbers.ensures.distinct ∙ ap is_some c.in-None.is in
    rw (names_broken cs n few names) refl
