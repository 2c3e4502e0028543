-- A slot of the committed side has a number of at most 2,147,483,646.
use Rattle.std.proofs.Common.{◌≡◌, ◌∙◌, ap, refl, subst, ℕ, ◌<◌, true, inl, inr, List, Option, Some, None, arith}
use Rattle.std.specs.Prelude.{All, IsSomeAnd}
use Rattle.std.proofs.lemmas.Bool.{cases_Bool}
use Rattle.oc_host.specs.Disk.{Disk}
use Rattle.oc_layout.specs.Layout.{unit_of}
use Rattle.oc_layout.specs.declared.cells.Space.{Space}
use Rattle.oc_pages.specs.declared.page.Page.{Page}
use Rattle.oc_pages.specs.Pages.{cell_in, holds, is_empty, page_holding, pointer_in, pointer_of, IsInRange}
use Rattle.oc_pages.proofs.Listings.{found_is, its_pointer, no_pointer}
use Rattle.oc_pages.proofs.Lookups.{holds_number, in_none}
use Rattle.oc_slots.specs.declared.slot.SlotId.{SlotId}
use Rattle.oc_slots.specs.Maps.{content}
use Rattle.oc_slots.specs.Stores.{committed, Agrees, Slots}
use Rattle.oc_store.specs.Lists.{system_slot}

module _ (space : Space) (number : ℕ) (high : 2147483646 < number) where
  -- a page has no pointer for a number that is too high
  none_in_page : (p : Page) → IsInRange p → holds space number p ≡ true → pointer_in (cell_in p number) ≡ None
  none_in_page p is here = elim (cases_Bool (is_empty (cell_in p number))) [
    | inl yes_ ↦ in_none (cell_in p number) (cell_in p number) refl yes_
    | inr no_ ↦ absurd (omega (arith, high, is.numbers number (holds_number space number p here) no_))
  ]

  -- nor have the pages
  pub none_in_pages : (pages : List Page) → All IsInRange pages → pointer_of pages space number ≡ None
  none_in_pages pages ranges = go (page_holding pages space number) refl
    where
      go : (o : Option Page) → page_holding pages space number ≡ o → pointer_of pages space number ≡ None
      go None e = no_pointer pages space number e
      go (Some p) e =
          let found = found_is (holds space number) pages p e in
          its_pointer pages space number p e ∙ none_in_page p (subst IsInRange found.0.2 (ranges found.0.0 p found.0.1)) found.1

-- nor has the committed side a slot of such a number
pub committed_small : (s : Slots) (d : Disk) → Agrees s d → (id : SlotId) → 2147483646 < id.number → committed s d id ≡ None
committed_small s d agrees id high = ap (content (unit_of s.header) d.bytes) (none_in_pages id.space id.number high s.pages ((agrees.holds).chain).in_range)

-- so no segment of such a number is spelled
pub no_segment : (s : Slots) (d : Disk) → Agrees s d → (n : ℕ) → 2147483646 < n → (P : List ℕ → Type 0) → IsSomeAnd (committed s d (system_slot n)) P → ⊥
no_segment s d agrees n high P some = subst (λ o. IsSomeAnd o P) (committed_small s d agrees (system_slot n) high) some
