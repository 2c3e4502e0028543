-- One class more, from behind.
use Rattle.std.proofs.Common.{◌≡◌, ℕ, ◌+◌, ◌-◌, ◌≤◌, length, arith, refl, sym, ap, ◌∙◌, drop, is_some, Option, Some, None}
use denote.Ref.{Bor}
use Rattle.std.specs.Option.{option_copied}
use Rattle.oc_model.specs.Schemas.{number_from}
use Rattle.oc_shared.specs.Tables.{value_at, with_value}
use Rattle.oc_schema.proofs.FromBehind.{class_twice, class_once, table_turn}
use Rattle.oc_schema.proofs.draft.Draft.numbers.Goals as goal

copied_some : (o : Option (Bor ℕ)) → is_some (option_copied o) ≡ is_some o
copied_some None = refl
copied_some (Some n) = refl

pub returns-then-is_some-clause-distinct : goal.returns-then-is_some-clause-distinct
returns-then-is_some-clause-distinct c =
    let cs = c.args.self.now.classes in
    let i = c.loop-place.place in
    let within : i ≤ length cs = omega (arith, c.loop-place.auto.place, c.len-place.ensures) in
    let class = c.class_in-class.result.now in
    let old = c.get.ensures ∙ c.loop-place.invariant.table c.as_slice-name.result.now ∙ ap (number_from (i + 1) (drop i cs)) c.as_slice-name.ensures in
    let some = sym (ap is_some old) ∙ copied_some c.get.result ∙ sym c.is_some.ensures ∙ c.if-is_some.true in
    sym (class_twice cs i (i + 1) class c.loop-place-test.true within c.class_in-class.ensures some)

pub loop-place-preserved : goal.loop-place-preserved
loop-place-preserved c =
    let cs = c.args.self.now.classes in
    let i = c.loop-place.place in
    let within : i ≤ length cs = omega (arith, c.loop-place.auto.place, c.len-place.ensures) in
    let class = c.class_in-class.result.now in
    let numbers = c.loop-place.numbers in
    let old = c.get.ensures ∙ c.loop-place.invariant.table c.as_slice-name.result.now ∙ ap (number_from (i + 1) (drop i cs)) c.as_slice-name.ensures in
    let free = sym (ap is_some old) ∙ copied_some c.get.result ∙ sym c.is_some.ensures ∙ c.if-is_some.false in
    let is = c.in_ok-numbers.ensures ∙ ap (λ k. with_value numbers k (i - 1 + 1)) c.as_slice-name.ensures in
    record {
      distinct = class_once cs i (i + 1) class c.loop-place-test.true within c.class_in-class.ensures free c.loop-place.invariant.distinct;
      table = λ q. ap (λ t. value_at t q) is ∙ table_turn numbers cs i class c.loop-place-test.true within c.class_in-class.ensures c.loop-place.invariant.table q;
    }
