use Rattle.std.proofs.Common.{◌≡◌, ◌<◌, length, get_or, inl, inr, refl, arith}
use Rattle.oc_store.proofs.FreeNumbers.{behind, stands_at, stands_nowhere, stays}
use Rattle.oc_store.proofs.numbering.push_free.Goals.{else-place-used-via-then-place-used+else-used-place, else-place-used-via-else-place-used}
use Rattle.oc_store.proofs.numbering.push_free.Goals as goal

pub returns-then-used-place-clause-place : goal.returns-then-used-place-clause-place
returns-then-used-place-clause-place c = behind c.args.used.now c.requires.rising c.args.number c.args.place c.requires.place c.if-place-used.true c.if-used-place.true

pub returns-then-used-place-clause-numbers : goal.returns-then-used-place-clause-numbers
returns-then-used-place-clause-numbers c = inl (refl, stands_at c.args.used.now c.requires.rising c.args.number c.args.place c.requires.place c.if-place-used.true c.if-used-place.true)

-- the number doesn't stand at the place
apart : (c : goal.In_ok-push) → c.args.place < length c.args.used.now → get_or c.args.used.now c.args.place 0 ≡ c.args.number → ⊥
apart c lt same =
    elim c.else-place-used.branch [
      | else-place-used-via-then-place-used+else-used-place w ↦ w.if-used-place.false same
      | else-place-used-via-else-place-used w ↦ absurd (omega (arith, lt, w.if-place-used.false))
    ]

pub returns-clause-place : goal.returns-clause-place
returns-clause-place c = stays c.args.used.now c.requires.rising c.args.number c.args.place c.requires.place (apart c)

pub returns-clause-numbers : goal.returns-clause-numbers
returns-clause-numbers c = inr (c.in_ok-push.ensures.items, stands_nowhere c.args.used.now c.requires.rising c.args.number c.args.place c.requires.place (apart c))
