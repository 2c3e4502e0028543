-- One record more.
use Rattle.std.proofs.Common.{◌≡◌, ◌+◌, ◌<◌, sym, ap, ap₂, ◌∙◌, arith, length, nat_le, true, sum_by}
use Rattle.oc_model.specs.declared.answer.Answer.TheVariants as answer
use Rattle.oc_model.specs.Stores.{entry_len, record_len}
use Rattle.oc_machine.specs.Outcomes.{settled}
use Rattle.oc_run.specs.ListStore.{state_of}
use Rattle.oc_run.proofs.ListLemmas.{store_is}
use Rattle.oc_run.proofs.list_store.ListStore.store.Goals as goal

pub returns : goal.returns
returns c =
    let m = c.args.self.now in
    let s = c.self.inside in
    let rs = s.records.items in
    let held = s.records.ok.0 in
    let count = c.len.ensures in
    let test = c.if-len-ge-RECORD_NUMBER_LIMIT.false in
    let few : length rs < 2147483646 = omega arith in
    let short : nat_le (record_len c.args.new) 262144 ≡ true = sym (c.if-not-is_short.ensures ∙ ap (λ es. nat_le (6 + sum_by entry_len es) 262144) c.as_slice.ensures) in
    let number = c.len-2.ensures ∙ c.in_ok-push.ensures.len ∙ ap (λ n. n + 1) held in
    let e = store_is m s.classes.items s.next_field rs c.args.new c.self.view_is short few in
    ap₂ (λ items n. (state_of s.classes.items s.next_field items, answer.Stored n 1)) c.in_ok-push.ensures.items number ∙ sym (ap (settled m) e)
