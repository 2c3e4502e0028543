use Rattle.std.proofs.Common.{◌≡◌, ℕ, List, sym, ap, ◌∙◌, cond, take, drop, slice_set, ◌++◌, ◌∷◌, Bool}
use Rattle.oc_model.specs.declared.value.Entry.{Entry}
use Rattle.oc_model.specs.Stores.{entered}
use Rattle.oc_heap.proofs.Entering.{entered_is}
use Rattle.oc_heap.specs.Places.{place_of, is_at}
use Rattle.oc_heap.proofs.entries.enter.Goals as goal

in_place : (e : Entry) (es : List Entry) (p : ℕ) (b : Bool) → p ≡ place_of e.id es → b ≡ is_at es p e.id → entered e es ≡ cond b (slice_set es p e) (take p es ++ e ∷ drop p es)
in_place e es p b q h =
    entered_is e es ∙ ap (λ (n : ℕ). cond (is_at es n e.id) (slice_set es n e) (take n es ++ e ∷ drop n es)) (sym q)
    ∙ ap (λ t. cond t (slice_set es p e) (take p es ++ e ∷ drop p es)) (sym h)

pub returns-then-is_at-clause-ok : goal.returns-then-is_at-clause-ok
returns-then-is_at-clause-ok c =
    c.set.ensures
    ∙ sym (in_place c.args.entry c.args.entries.now c.place_of-place.result _ (c.place_of-place.ensures.value ∙ ap (place_of c.args.entry.id) c.as_slice.ensures) (sym c.if-is_at.true ∙ c.is_at.ensures ∙ ap (λ es. is_at es c.place_of-place.result c.args.entry.id) c.as_slice-2.ensures))

pub returns-clause-ok : goal.returns-clause-ok
returns-clause-ok c =
    let told = in_place c.args.entry c.args.entries.now c.place_of-place.result _ (c.place_of-place.ensures.value ∙ ap (place_of c.args.entry.id) c.as_slice.ensures) (sym c.if-is_at.false ∙ c.is_at.ensures ∙ ap (λ es. is_at es c.place_of-place.result c.args.entry.id) c.as_slice-2.ensures) in
    rw told c.insert.ensures.ok
