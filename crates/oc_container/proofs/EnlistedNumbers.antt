-- Numbers given to unsaved objects, one after the other.
use Rattle.std.proofs.Common.{◌≡◌, ℕ, suc, ◌+◌, ◌<◌, ◌≤◌, Bool, true, false, cond, ◌==◌, List, [], ◌∷◌, find, Option, None, Some, is_some, option_map, unwrap_or, refl, sym, ap, ◌∙◌, arith, nat_cmp}
use Rattle.std.specs.List.{All}
use Rattle.std.specs.declared.cmp.Ordering.TheVariants.{Less, Equal, Greater}
use Rattle.std.specs.FinMap.Entries.{by_order}
use Rattle.oc_model.specs.Maps.{Map, at, with_at}
use Rattle.oc_model.specs.Nodes.{is_number}
use Rattle.oc_model.specs.States.{Live}
use Rattle.oc_chunks.specs.Ascending.{Each}
use Rattle.oc_machine.specs.Memory.{number_at}
use Rattle.oc_live.specs.Memories.{Memory, handle_in, with_changed}
use Rattle.oc_live.proofs.Tables.{another, none_some}
use Rattle.oc_container.specs.Enlisted.{given, IsUnsaved}
use Rattle.oc_container.proofs.MoreLive.{found_put}

-- ---- one object gets its number

-- each of these objects is unsaved
abbrev pub AreUnsaved : Memory → List ℕ → Type 0
AreUnsaved k [] = Unit {0}
AreUnsaved k (h ∷ hs) = IsUnsaved k h × AreUnsaved k hs

pub are_unsaved : (k : Memory) (hs : List ℕ) → All (IsUnsaved k) hs → AreUnsaved k hs
are_unsaved k [] all = tt
are_unsaved k (h ∷ hs) all = (all 0 0 (omega arith), are_unsaved k hs (λ i d lt. all (suc i) d (omega (arith, lt))))

module _ (k : Memory) (h : ℕ) (f : Live → Live) where
  -- the others stay
  at_other : (q : ℕ) → (q == h) ≡ false → at (with_changed k h f).live q ≡ at k.live q
  at_other q differs =
      elim (at k.live h) as (λ o. at (unwrap_or (option_map (λ o. record k { live = with_at k.live h (f o) }) o) k).live q ≡ at k.live q) [
        | None ↦ refl
        | Some o ↦ found_put q h (f o) k.live ∙ ap (λ b. cond b (Some (f o)) (at k.live q)) differs
      ]

  -- the objects behind it stay unsaved
  pub unsaved_rest : (hs : List ℕ) → Each (λ q. h < q) hs → AreUnsaved k hs → AreUnsaved (with_changed k h f) hs
  unsaved_rest [] a all = tt
  unsaved_rest (q ∷ qs) a all =
      let same = at_other q (another q h (λ e. absurd (omega (arith, e, a.0)))) in
      ((ap is_some same ∙ (all.0).0, ap number_at same ∙ (all.0).1), unsaved_rest qs a.1 all.1)

-- no object among these passes the test
none_put : (P : Live → Bool) (h : ℕ) (x : Live) (xs : Map Live) → P x ≡ false → find (λ (e : ℕ × Live). P e.1) xs ≡ None → find (λ (e : ℕ × Live). P e.1) (with_at xs h x) ≡ None
none_put P h x [] out none = ap (λ b. cond b (Some (h, x)) None) out
none_put P h x (e ∷ xs) out none =
    (elim (P e.1) as (λ b. P e.1 ≡ b → cond b (Some e) (find (λ (e : ℕ × Live). P e.1) xs) ≡ None → find (λ (e : ℕ × Live). P e.1) (with_at (e ∷ xs) h x) ≡ None) [
      | true ↦ λ is some. absurd (none_some e (sym some))
      | false ↦ λ isnt rest.
          let found = λ (l : Map Live). find (λ (e : ℕ × Live). P e.1) l in
          let first : found ((h, x) ∷ e ∷ xs) ≡ None = ap (λ b. cond b (Some (h, x)) (found (e ∷ xs))) out ∙ ap (λ b. cond b (Some e) (found xs)) isnt ∙ rest in
          let instead : found ((e.0, x) ∷ xs) ≡ None = ap (λ b. cond b (Some (e.0, x)) (found xs)) out ∙ rest in
          let later : found (e ∷ with_at xs h x) ≡ None = ap (λ b. cond b (Some e) (found (with_at xs h x))) isnt ∙ none_put P h x xs out rest in
          elim (nat_cmp h e.0) as (λ o. found (by_order o ((h, x) ∷ e ∷ xs) ((e.0, x) ∷ xs) (e ∷ with_at xs h x)) ≡ None) [
            | Less ↦ first
            | Equal ↦ instead
            | Greater ↦ later
          ]
    ]) refl none

unmapped : {X Y : Type 0} (f : X → Y) (o : Option X) → option_map f o ≡ None → o ≡ None
unmapped f None e = refl
unmapped f (Some x) e = absurd (none_some (f x) (sym e))

-- the numbers above stay free
pub free_rest : (k : Memory) (h n : ℕ) → ((m : ℕ) → n ≤ m → handle_in k.live m ≡ None) → (m : ℕ) → n + 1 ≤ m → handle_in (with_changed k h (given n)).live m ≡ None
free_rest k h n free m le =
    elim (at k.live h) as (λ o. handle_in (unwrap_or (option_map (λ o. record k { live = with_at k.live h (given n o) }) o) k).live m ≡ None) [
      | None ↦ free m (omega (arith, le))
      | Some o ↦
          ap (option_map (λ (e : ℕ × Live). e.0))
          (none_put (λ p. is_number m p.number) h (given n o) k.live (another n m (λ e. absurd (omega (arith, e, le)))) (unmapped (λ (e : ℕ × Live). e.0) (find (λ (e : ℕ × Live). is_number m (e.1).number) k.live) (free m (omega (arith, le)))))
    ]
