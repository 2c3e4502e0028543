-- Objects that lose their numbers one after another.
use Rattle.std.proofs.Common.{◌≡◌, ℕ, ◌+◌, ◌<◌, ◌≤◌, Bool, true, false, cond, ◌&&◌, ◌==◌, nat_lt, Option, Some, is_some, option_map, refl, sym, ap, ◌∙◌, arith}
use Rattle.std.proofs.lemmas.Bool.Decides.{nat_tests}
use Rattle.oc_model.specs.Maps.{Map, at, with_at}
use Rattle.oc_model.specs.States.{Live}
use Rattle.oc_machine.specs.Memory.{number_at, detached}
use Rattle.oc_live.specs.Memories.{Memory, with_changed, LiveFrom}
use Rattle.oc_live.specs.Kept.{is_lost, with_kept}
use Rattle.oc_live.proofs.Tables.{some_same, is_same}
use Rattle.oc_live.proofs.Joining.{at_shown, shown, shown_alike, shown_but, shown_itself, changed_is, there}

-- what is made of an object, if the test holds and its number isn't kept
abbrev pub settled : Bool → (ℕ → Bool) → Live → Live
settled b kept o = cond (b && is_lost kept o.number) (detached o) o

-- each object under a smaller handle that has a number that isn't kept is detached
abbrev pub with_kept_below : (ℕ → Bool) → ℕ → Memory → Memory
with_kept_below kept h m = record m { live = shown (λ (k : ℕ) (o : Live). settled (nat_lt k h) kept o) m.live }

-- the test of a smaller number
pub below : (k h : ℕ) → k < h → nat_lt k h ≡ true
below k h less = grind (arith, nat_tests)

-- the test of a number that isn't smaller
pub not_below : (k h : ℕ) → h ≤ k → nat_lt k h ≡ false
not_below k h more = grind (arith, nat_tests)

module _ (kept : ℕ → Bool) (m : Memory) where
  -- before the first handle all are as they were
  pub none_settled : (first : ℕ) → LiveFrom m first → m ≡ with_kept_below kept first m
  none_settled first from =
      ap (λ (l : Map Live). record m { live = l })
      (sym (shown_alike (λ (k : ℕ) (o : Live). o) (λ (k : ℕ) (o : Live). settled (nat_lt k first) kept o) m.live from.ascend
      (λ k o has. ap (λ b. settled b kept o) (not_below k first ((from.live k).0 (ap is_some has)).0))
      ∙ shown_itself m.live))

  -- behind the last one all are settled
  pub all_settled : (first : ℕ) → LiveFrom m first → with_kept_below kept m.next_handle m ≡ with_kept kept m
  all_settled first from =
      ap (λ (l : Map Live). record m { live = l })
      (shown_alike (λ (k : ℕ) (o : Live). settled true kept o) (λ (k : ℕ) (o : Live). settled (nat_lt k m.next_handle) kept o) m.live from.ascend
      (λ k o has. ap (λ b. settled b kept o) (below k m.next_handle ((from.live k).0 (ap is_some has)).1)))

  next_below : (k h : ℕ) → (k ≡ h → ⊥) → nat_lt k (h + 1) ≡ nat_lt k h
  next_below k h apart =
      (elim (nat_lt k h) as (λ b. nat_lt k h ≡ b → nat_lt k (h + 1) ≡ b) [
        | true ↦ λ less. grind (arith, nat_tests)
        | false ↦ λ more. (elim (nat_lt k (h + 1)) as (λ b. nat_lt k (h + 1) ≡ b → b ≡ false) [ true ↦ λ close. absurd (apart (reached more close)) | false ↦ λ _. refl ]) refl
      ]) refl
    where
      reached : nat_lt k h ≡ false → nat_lt k (h + 1) ≡ true → k ≡ h
      reached more close = grind (arith, nat_tests)

  -- one handle more
  pub one_settled : (first h : ℕ) → LiveFrom m first → first ≤ h → h < m.next_handle
      → cond (is_lost kept (number_at (at (with_kept_below kept h m).live h))) (with_changed (with_kept_below kept h m) h detached) (with_kept_below kept h m) ≡ with_kept_below kept (h + 1) m
  one_settled first h from low high =
      let x = there (at m.live h) ((from.live h).1 (low, high)) in
      let o = x.0 in
      let f = λ (k : ℕ) (p : Live). settled (nat_lt k h) kept p in
      let g = λ (k : ℕ) (p : Live). settled (nat_lt k (h + 1)) kept p in
      let has : at (shown f m.live) h ≡ Some o = at_shown f m.live h ∙ ap (option_map (f h)) x.1 ∙ ap (λ b. Some (settled b kept o)) (not_below h h (omega arith)) in
      let here : g h o ≡ settled true kept o = ap (λ b. settled b kept o) (below h (h + 1) (omega arith)) in
      ap (λ (t : Option Live). cond (is_lost kept (number_at t)) (with_changed (with_kept_below kept h m) h detached) (with_kept_below kept h m)) has
      ∙ (elim (is_lost kept o.number) as (λ b. is_lost kept o.number ≡ b → cond b (with_changed (with_kept_below kept h m) h detached) (with_kept_below kept h m) ≡ with_kept_below kept (h + 1) m) [
        | true ↦ λ lost.
            sym (changed_is (with_kept_below kept h m) h o detached (shown g m.live) has
            (shown_but f g m.live h o from.ascend x.1 (λ k apart p. ap (λ b. settled b kept p) (next_below k h apart))
            ∙ ap (λ (p : Live). with_at (shown f m.live) h p) (here ∙ ap (λ b. cond b (detached o) o) lost)))
        | false ↦ λ stays.
            ap (λ (l : Map Live). record m { live = l })
            (sym (shown_alike f g m.live from.ascend (λ k p hasp. alike k p hasp o x.1 stays)))
      ]) refl
    where
      unmoved : (b : Bool) (p : Live) → is_lost kept p.number ≡ false → settled b kept p ≡ p
      unmoved true p stays = ap (λ b. cond b (detached p) p) stays
      unmoved false p stays = refl

      alike : (k : ℕ) (p : Live) → at m.live k ≡ Some p → (o : Live) → at m.live h ≡ Some o → is_lost kept o.number ≡ false → settled (nat_lt k (h + 1)) kept p ≡ settled (nat_lt k h) kept p
      alike k p hasp o has stays =
          (elim (k == h) as (λ b. (k == h) ≡ b → settled (nat_lt k (h + 1)) kept p ≡ settled (nat_lt k h) kept p) [
            | true ↦ λ is.
                let same : p ≡ o = some_same p o (sym hasp ∙ ap (at m.live) (is_same k h is) ∙ has) in
                let stays' : is_lost kept p.number ≡ false = ap (λ (q : Live). is_lost kept q.number) same ∙ stays in
                unmoved (nat_lt k (h + 1)) p stays' ∙ sym (unmoved (nat_lt k h) p stays')
            | false ↦ λ apart. ap (λ b. settled b kept p) (next_below k h (λ e. differs apart e))
          ]) refl
        where
          differs : (k == h) ≡ false → k ≡ h → ⊥
          differs apart e = grind (arith, nat_tests)
