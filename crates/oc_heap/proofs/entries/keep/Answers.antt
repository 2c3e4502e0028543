use Rattle.std.proofs.Common.{◌≡◌, ℕ, zero, ◌-◌, ◌≤◌, suc, length, arith, sym, ap, ◌∙◌, List, take, drop, filter, ◌++◌, Bool, true, get_or}
use Rattle.oc_model.specs.declared.value.Entry.{Entry}
use Rattle.oc_model.specs.Maps.{is_in}
use Rattle.oc_heap.proofs.Entering.{kept_turn}
use Rattle.oc_heap.proofs.entries.keep.Goals as goal

-- the entry in front of the place stays
stays : (p : Entry → Bool) (i : ℕ) (xs now : List Entry) (x : Entry) → 1 ≤ i → i ≤ length xs → now ≡ take i xs ++ filter p (drop i xs) → x ≡ get_or now (i - 1) x → p x ≡ true
    → now ≡ take (i - 1) xs ++ filter p (drop (i - 1) xs)
stays p zero xs now x one le e is h = absurd (omega arith)
stays p (suc k) xs now x one le e is h =
    let q : suc k - 1 ≡ k = omega arith in
    e ∙ kept_turn p k xs x (omega arith) (is ∙ (λ j. get_or (e j) (q j) x)) h ∙ ap (λ n. take n xs ++ filter p (drop n xs)) (sym q)

pub loop-place-preserved : goal.loop-place-preserved
loop-place-preserved c =
    let p : Entry → Bool = λ e. is_in c.args.ids.now e.id in
    let k = c.loop-place.place - 1 in
    let x = c.index-as_slice-place.result in
    let here : x ≡ get_or c.loop-place.entries k x = c.index-as_slice-place.is ∙ ap (λ es. get_or es k x) c.as_slice.ensures in
    stays p c.loop-place.place c.args.entries.now c.loop-place.entries x (omega arith) (omega arith) c.loop-place.invariant here
    (ap p c.index-as_slice-place.is ∙ sym c.is_among.ensures ∙ c.if-not-is_among.false)
