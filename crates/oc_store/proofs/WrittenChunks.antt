-- The chunks of a list, written.
use Rattle.std.proofs.Common.{◌≡◌, ◌⊎◌, inl, inr, ◌∙◌, ap, sym, refl, subst, ℕ, ◌≤◌, Bool, true, false, true≢false, not, ◌||◌, List, [], ◌∷◌, ◌++◌, length, Option, Some, None, append_assoc}
use Rattle.std.specs.Prelude.{is_some, IsSomeAnd, IsTrue}
use Rattle.std.specs.List.{list_all}
use Rattle.std.specs.declared.cmp.Ordering.{Ordering}
use Rattle.std.proofs.lemmas.Bool.{and_parts}
use Rattle.std.proofs.lemmas.List.Folds.{list_all-append}
use Rattle.oc_model.specs.Lists.{IsOneOf}
use Rattle.oc_chunks.specs.Ascending.{Each, IsAscending}
use Rattle.oc_chunks.specs.Chunks.{Chunk, joined}
use Rattle.oc_chunks.specs.Opening.{number_from, spare_behind, written}
use Rattle.oc_chunks.proofs.Eaches.{pairs_front}
use Rattle.oc_store.specs.Last.{is_due, numberless, planned, planned_as, segment_of, Planned}
use Rattle.oc_slots.specs.Maps.{SlotMap}
use Rattle.oc_lists.specs.Keeping.{StandAsThen}
use Rattle.oc_store.specs.Lists.{system_slot, AreNext, HasSegment, IsKept}
use Rattle.oc_store.proofs.Plans.{has_number, of_each, segments}

-- the slot of the segment has what is written of it, or else what it had
pub record IsDone (m n : SlotMap) (p : Planned) : Type 0 where
  pub due : p.is_due ≡ true → n (system_slot p.number) ≡ Some p.bytes
  pub rest : p.is_due ≡ false → n (system_slot p.number) ≡ m (system_slot p.number)

pub some_is : (o : Option (List ℕ)) (b : List ℕ) (P : List ℕ → Type 0) → o ≡ Some b → P b → IsSomeAnd o P
some_is o b P e p = subst (λ q. IsSomeAnd q P) (sym e) p

not_due : (b : Bool) (o : Option ℕ) → (b || not (is_some o)) ≡ false → (b ≡ false) × ((n : ℕ) × (o ≡ Some n))
not_due true o e = absurd (true≢false e)
not_due false None e = absurd (true≢false e)
not_due false (Some n) e = (refl, (n, refl))

from_some : (o : Option ℕ) (spare : List ℕ) (k n : ℕ) → o ≡ Some k → number_from o spare ≡ Some n → k ≡ n
from_some o spare k n is e = let h : Some k ≡ Some n = sym (ap (λ q. number_from q spare) is) ∙ e in cc

module _ {X : Type 0} (Spelled : List X → List ℕ → Type 0) (bytes : List X → List ℕ) (m n : SlotMap) (marked : List (Chunk X)) (then : Each (IsKept Spelled m) marked) where
  module _ (c : Chunk X) (spells : Spelled c.entries (bytes c.entries)) (stands : (c.changed ≡ true) ⊎ IsOneOf c marked) (number : ℕ) (spare : List ℕ) (is : number_from c.number spare ≡ Some number)
      (done : IsDone m n (record { number = number; bytes = bytes c.entries; is_due = is_due (segment_of bytes c) })) where
    as_then : c.changed ≡ false → (k : ℕ) → c.number ≡ Some k → IsOneOf c marked → HasSegment Spelled m number c.entries
    as_then off k numbered one =
        let kept = of_each (IsKept Spelled m) marked c then one in
        let same : k ≡ number = from_some c.number spare k number numbered is in
        let other : Some kept.number ≡ Some k = sym (ap (λ (d : Chunk X). d.number) kept.is) ∙ numbered in
        subst (λ j. HasSegment Spelled m j c.entries) ((let h : kept.number ≡ k = cc in h) ∙ same) kept.spelled

    segment_there : (b : Bool) → is_due (segment_of bytes c) ≡ b → HasSegment Spelled n number c.entries
    segment_there true e = some_is (n (system_slot number)) (bytes c.entries) (Spelled c.entries) (done.due e) spells
    segment_there false e =
        let r = not_due c.changed c.number e in
        subst (λ o. IsSomeAnd o (Spelled c.entries)) (sym (done.rest e))
        (elim stands [ inl on ↦ absurd (true≢false (sym on ∙ r.0)) | inr one ↦ as_then r.0 (r.1).0 (r.1).1 one ])

    pub one_kept : IsKept Spelled n (record { entries = c.entries; number = number_from c.number spare; changed = false })
    one_kept = record {
      number = number;
      is = λ i. record { entries = c.entries; number = is i; changed = false };
      spelled = segment_there (is_due (segment_of bytes c)) refl;
    }

  pub written_kept : (spare : List ℕ) (cs : List (Chunk X)) → numberless cs ≤ length spare → Each (λ c. Spelled c.entries (bytes c.entries)) cs → StandAsThen marked cs
      → ((p : Planned) → IsOneOf p (planned spare (segments bytes cs)) → IsDone m n p) → Each (IsKept Spelled n) (written spare cs)
  written_kept spare [] enough spells stands done = tt
  written_kept spare (c ∷ cs) enough spells stands done =
      let h = has_number c cs spare enough in
      let here : Planned = record { number = h.number; bytes = bytes c.entries; is_due = is_due (segment_of bytes c) } in
      let rest = planned (spare_behind c.number spare) (segments bytes cs) in
      let first : planned_as (number_from c.number spare) (segment_of bytes c) ++ rest ≡ here ∷ rest = ap (λ o. planned_as o (segment_of bytes c) ++ rest) h.is in (
        one_kept c spells.0 stands.0 h.number spare h.is (done here (subst (IsOneOf here) (sym first) (inl refl))),
        written_kept (spare_behind c.number spare) cs h.enough spells.1 stands.1 (λ p i. done p (subst (IsOneOf p) (sym first) (inr i))),
      )

-- chunks that are kept, whose entries suit and ascend behind these
pub are_next : {X : Type 0} (Spelled : List X → List ℕ → Type 0) (m : SlotMap) (cmp : X → X → Ordering) (suits : X → Bool) (before : List X) (cs : List (Chunk X))
    → Each (IsKept Spelled m) cs → IsTrue (list_all suits (joined cs)) → IsAscending cmp (before ++ joined cs) → AreNext Spelled m cmp suits before cs
are_next Spelled m cmp suits before [] kept suit asc = tt
are_next Spelled m cmp suits before (c ∷ cs) kept suit asc =
    let parts = and_parts (list_all suits c.entries) (list_all suits (joined cs)) (sym (list_all-append suits c.entries (joined cs)) ∙ suit) in
    let behind : IsAscending cmp ((before ++ c.entries) ++ joined cs) = subst (IsAscending cmp) (sym (append_assoc before c.entries (joined cs))) asc in (
      record { kept = kept.0; suit = parts.0; above = pairs_front _ (before ++ c.entries) (joined cs) behind },
      are_next Spelled m cmp suits (before ++ c.entries) cs kept.1 parts.1 behind,
    )
