use Rattle.std.proofs.Common.{◌≡◌, [], length, sym, ap, ◌∙◌, arith, nat_cmp}
use Rattle.oc_model.specs.Lists.{sorted}
use Rattle.oc_model.specs.Schemas.{Schema}
use Rattle.oc_model.specs.Stores.{class_of, written}
use Rattle.oc_machine.specs.Values.{numbers_given, with_given}
use Rattle.oc_container.specs.Givens.{fields_given, numbers_named}
use Rattle.oc_container.specs.Made.{made_in, unsaved_with}
use Rattle.oc_container.specs.Outlined.{outlined, remembered, session_listed}
use Rattle.oc_container.specs.Woken.{with_all_woken, with_each_woken}
use Rattle.oc_container.proofs.Checks.{numbers_small, numbers_taken, sorted_long, taken_verdict}
use Rattle.oc_container.proofs.Listed.{listed_are_small}
use Rattle.oc_container.proofs.Made.{made_is, made_told}
use Rattle.oc_container.proofs.MoreLive.{more_still, no_more}
use Rattle.oc_container.proofs.making.wake_and_make.Goals as goal

pub returns-in_err-numbers-clause-more : goal.returns-in_err-numbers-clause-more
returns-in_err-numbers-clause-more c = no_more c.args.live.now

pub wake_all-requires : goal.wake_all-requires
wake_all-requires c =
    let many : length c.deref.result.now ≡ length (numbers_named c.args.givens.now) = ap length (c.deref.ensures.value ∙ c.in_ok-numbers.ensures) ∙ sorted_long (numbers_named c.args.givens.now) in
    record { room = omega (arith, many, c.requires.room) }

pub given_entries-requires-clause-numbers : goal.given_entries-requires-clause-numbers
given_entries-requires-clause-numbers c =
    let m = outlined c.args.store.now c.args.live.now in
    numbers_small m c.args.class (listed_are_small c.args.store.now) [] c.args.givens.now (taken_verdict m c.args.class c.args.givens.now c.requires.checked)

pub make_object-requires : goal.make_object-requires
make_object-requires c =
    let many : length c.deref.result.now ≡ length (numbers_named c.args.givens.now) = ap length (c.deref.ensures.value ∙ c.in_ok-numbers.ensures) ∙ sorted_long (numbers_named c.args.givens.now) in
    record { room = omega (arith, many, c.requires.room, c.wake_all.ensures.next) }

pub returns-clause-made : goal.returns-clause-made
returns-clause-made c =
    let v = c.args.store.now in
    let m = outlined v c.args.live.now in
    let k = c.args.live.now in
    let w = c.wake_all.new.live in
    let gs = c.args.givens.now in
    let class = c.args.class in
    let fs = fields_given (session_listed v).schema class gs in
    let are : c.deref.result.now ≡ sorted nat_cmp (numbers_given fs) =
    c.deref.ensures.value ∙ c.in_ok-numbers.ensures ∙ ap (sorted nat_cmp) (sym (numbers_taken m class [] gs (taken_verdict m class gs c.requires.checked))) in
    let woken : w ≡ with_all_woken (class_of (session_listed v)) k (numbers_given fs) = c.in_ok-wake_all.ensures.woken ∙ ap (with_each_woken (class_of (session_listed v)) k) are in
    let entries : c.in_ok-entries.entries.items ≡ written (session_listed v).schema class (with_given (remembered w) [] fs) [] =
    c.in_ok-entries.ensures ∙ ap (λ es. written c.schema-schema.result.now class es []) (c.deref-2.ensures.value ∙ c.in_ok-values.ensures)
    ∙ ap (λ (s : Schema). written s class (with_given (remembered w) [] (fields_given s class gs)) []) c.schema-schema.ensures in
    made_told c.make_object.result c.make_object.new.live w (unsaved_with class c.in_ok-entries.entries.items) (made_in (session_listed v) k class fs) c.make_object.ensures.handle c.make_object.ensures.made
    (made_is (session_listed v) k w class fs c.in_ok-entries.entries.items woken entries)

pub returns-clause-more : goal.returns-clause-more
returns-clause-more c = more_still c.args.live.now c.wake_all.new.live c.make_object.new.live c.wake_all.ensures.more c.make_object.ensures.more
