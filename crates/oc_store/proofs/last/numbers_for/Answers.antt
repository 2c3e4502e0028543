use Rattle.std.proofs.Common.{inl, inr, sym, subst, ℕ, List}
use Rattle.oc_chunks.specs.Ascending.{Each}
use Rattle.oc_model.specs.Lists.{IsOneOf}
use Rattle.oc_slots.specs.Stores.{committed_place}
use Rattle.oc_store.specs.Lists.{system_slot}
use Rattle.oc_store.specs.Numbering.{AreRising}
use Rattle.oc_store.proofs.JustThese.{in_order}
use Rattle.oc_store.proofs.LastFacts.{has_place, no_place}
use Rattle.oc_store.proofs.last.numbers_for.Goals as goal

pub new_numbers-requires : goal.new_numbers-requires
new_numbers-requires c = subst AreRising (sym c.deref.ensures.value) (in_order c.in_ok-used.used.items c.in_ok-used.ensures.ascend)

pub returns-clause-unused : goal.returns-clause-unused
returns-clause-unused c =
    no_place (λ n. committed_place c.args.slots.now (system_slot n)) c.in_ok-used.used.items c.in_ok-used.ensures c.in_ok-numbers.numbers.items
    (subst (λ (used : List ℕ). Each (λ n. IsOneOf n used → ⊥) c.in_ok-numbers.numbers.items) c.deref.ensures.value c.in_ok-numbers.ensures.unused)

pub returns-clause-least : goal.returns-clause-least
returns-clause-least c m n i from lt =
    elim (c.in_ok-numbers.ensures.least m n i from lt) [
      | inl used ↦ inl (has_place (λ k. committed_place c.args.slots.now (system_slot k)) c.in_ok-used.used.items c.in_ok-used.ensures m (subst (IsOneOf m) c.deref.ensures.value used))
      | inr one ↦ inr one
    ]
