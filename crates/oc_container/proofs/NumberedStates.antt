-- The numbers that a store gives are given in memory.
use Rattle.std.proofs.Common.{◌≡◌, ℕ, ◌+◌, true, List, [], ◌∷◌, fold, length, Option, None, Some, is_some, option_map, unwrap_or, refl, sym, ap, ◌∙◌, arith, true≢false}
use Rattle.oc_model.specs.Maps.{at, with_at}
use Rattle.oc_model.specs.States.{Live, State}
use Rattle.oc_machine.specs.WalkLines.{with_number}
use Rattle.oc_live.specs.Memories.{memory_of, with_changed, with_memory, Memory}
use Rattle.oc_store.specs.Numbering.{AreRising}
use Rattle.oc_container.specs.Enlisted.{enlisted, given, numbered}
use Rattle.oc_container.proofs.EnlistedNumbers.{unsaved_rest, AreUnsaved}

-- one more number that is given
one_numbered : (m : State) (h : ℕ) → is_some (at m.live h) ≡ true → with_number m h ≡ numbered m (h ∷ [])
one_numbered m h live =
    (elim (at m.live h) as (λ o. is_some o ≡ true →
    elim o [
      | None ↦ m
      | Some p ↦
          record m {
            session = record m.session { next = m.session.next + 1 };
            live = with_at m.live h (record { class = p.class; number = Some m.session.next; active = p.active; entries = p.entries });
          }
    ]
    ≡ with_memory (record m { session = record m.session { next = m.session.next + 1 } })
    (unwrap_or (option_map (λ p. record (memory_of m) { live = with_at m.live h (given m.session.next p) }) o) (memory_of m))) [
      | None ↦ λ none. absurd (true≢false (sym none))
      | Some o ↦ λ _. refl
    ]) live

-- numbers are given one after another
pub numbered_is : (hs : List ℕ) (m : State) → AreRising hs → AreUnsaved (memory_of m) hs → fold with_number m hs ≡ numbered m hs
numbered_is [] m a all = λ i. with_memory (record m { session = record m.session { next = sym (plus_none m.session.next) i } }) (memory_of m)
  where
    plus_none : (n : ℕ) → n + 0 ≡ n
    plus_none n = omega arith
numbered_is (h ∷ hs) m a all =
    let one = one_numbered m h (all.0).0 in
    ap (λ (w : State). fold with_number w hs) one
    ∙ numbered_is hs (numbered m (h ∷ [])) a.1 (unsaved_rest (memory_of m) h (given m.session.next) hs a.0 all.1)
    ∙ (λ i. with_memory (record m { session = record m.session { next = next i } }) (enlisted (enlisted (memory_of m) m.session.next (h ∷ [])) (m.session.next + 1) hs))
  where
    next : m.session.next + 1 + length hs ≡ m.session.next + length (h ∷ hs)
    next = omega arith
