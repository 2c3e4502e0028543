-- Where no slot moves, the session with the last changes is the last commit.
use Rattle.std.proofs.Common.{◌≡◌, ◌≢◌, ◌∙◌, ℕ, nat_eq, Bool, true, false, List, [], ◌∷◌, Option, Some, None, refl, sym, ap}
use Rattle.std.specs.Prelude.{◌||◌, ◌&&◌, is_some}
use Rattle.std.specs.List.{list_any}
use Rattle.std.specs.Map.{lookup}
use Rattle.std.specs.Option.{option_map_or}
use Rattle.oc_layout.specs.declared.cells.Cell.{Cell}
use Rattle.oc_pages.specs.declared.page.Page.{Page}
use Rattle.oc_pages.specs.Pages.{pointer_of}
use Rattle.oc_slots.specs.declared.overlay.Overlay.{Overlay}
use Rattle.oc_slots.specs.declared.slot.SlotChange.{SlotChange}
use Rattle.oc_slots.specs.declared.slot.SlotId.{SlotId}
use Rattle.oc_slots.specs.Maps.{SlotMap, has_after, is_same, changed, content}
use Rattle.oc_slots.specs.Slots.{changes_of}
use Rattle.oc_slots.specs.Noting.{place_in}
use Rattle.oc_slots.specs.Planning.{moves}

not_named : (last : List SlotChange) (m : SlotMap) (id : SlotId) → list_any (λ c. is_same c.id id) last ≡ false → changed last m id ≡ m id
not_named [] m id e = refl
not_named (c ∷ cs) m id e = go (is_same c.id id) refl (not_named cs m id)
  where
    clash : true ≡ false → ⊥
    clash x = cc

    go : (b : Bool) → is_same c.id id ≡ b → (list_any (λ c. is_same c.id id) cs ≡ false → changed cs m id ≡ m id) → changed (c ∷ cs) m id ≡ m id
    go true t rest = absurd (clash (sym (ap (λ b. b || list_any (λ c. is_same c.id id) cs) t) ∙ e))
    go false t rest = rw t (rest (sym (ap (λ b. b || list_any (λ c. is_same c.id id) cs) t) ∙ e))

has_changed : (last : List SlotChange) (m : SlotMap) (id : SlotId) → is_some (changed last m id) ≡ has_after last id (is_some (m id))
has_changed [] m id = refl
has_changed (c ∷ cs) m id = go (is_same c.id id) refl (has_changed cs m id)
  where
    go : (b : Bool) → is_same c.id id ≡ b → is_some (changed cs m id) ≡ has_after cs id (is_some (m id)) → is_some (changed (c ∷ cs) m id) ≡ has_after (c ∷ cs) id (is_some (m id))
    go true t rest = rw t refl
    go false t rest = rw t rest

none_of : {A : Type 0} (o : Option A) → is_some o ≡ false → o ≡ None
none_of None e = refl
none_of (Some x) e = absurd (clash e)
  where
    clash : true ≡ false → ⊥
    clash x = cc

some_content : (unit : ℕ) (b : List ℕ) (o : Option Cell) → is_some (content unit b o) ≡ is_some o
some_content unit b None = refl
some_content unit b (Some c) = refl

pub idle_map : (unit : ℕ) (b : List ℕ) (pages : List Page) (o : Overlay) (last : List SlotChange) (m : SlotMap) (id : SlotId) → m id ≡ content unit b (place_in pages o id) → moves pages o last id ≢ true
    → content unit b (pointer_of pages id.space id.number) ≡ changed last m id
idle_map unit b pages o last m id is idle = go (list_any (λ c. is_same c.id id) last) refl (lookup (nat_eq id.number) (changes_of o id.space)) refl
  where
    clash : true ≡ false → ⊥
    clash z = cc

    neither : (x y : Bool) → x ≡ true → (x && y) ≢ true → y ≡ false
    neither x true e idle_ = absurd (idle_ (ap (λ z. z && true) e))
    neither x false e idle_ = refl

    both : (x y : Bool) → (x || y) ≡ false → (x ≡ false) × (y ≡ false)
    both true y e = absurd (clash e)
    both false y e = (refl, e)

    gone : (has_after last id (is_some (place_in pages o id)) || is_some (pointer_of pages id.space id.number)) ≡ false → content unit b (pointer_of pages id.space id.number) ≡ changed last m id
    gone e =
        let parts = both (has_after last id (is_some (place_in pages o id))) (is_some (pointer_of pages id.space id.number)) e in
        ap (content unit b) (none_of (pointer_of pages id.space id.number) parts.1)
        ∙ sym (none_of (changed last m id) (has_changed last m id ∙ ap (has_after last id) (ap is_some is ∙ some_content unit b (place_in pages o id)) ∙ parts.0))

    go : (n : Bool) → list_any (λ c. is_same c.id id) last ≡ n → (l : Option (Option Cell)) → lookup (nat_eq id.number) (changes_of o id.space) ≡ l → content unit b (pointer_of pages id.space id.number) ≡ changed last m id
    go true named l found = gone (neither (list_any (λ c. is_same c.id id) last || is_some (lookup (nat_eq id.number) (changes_of o id.space))) _ (ap (λ x. x || is_some (lookup (nat_eq id.number) (changes_of o id.space))) named) idle)
    go false named None found = sym (not_named last m id named ∙ is ∙ ap (λ x. content unit b (option_map_or (λ y. y) x (pointer_of pages id.space id.number))) found)
    go false named (Some c) found = gone (neither (list_any (λ c. is_same c.id id) last || is_some (lookup (nat_eq id.number) (changes_of o id.space))) _ (ap (λ x. x || is_some (lookup (nat_eq id.number) (changes_of o id.space))) named ∙ ap is_some found) idle)

-- and a slot is there as it was
pub idle_there : (pages : List Page) (o : Overlay) (last : List SlotChange) (id : SlotId) → moves pages o last id ≢ true → is_some (pointer_of pages id.space id.number) ≡ has_after last id (is_some (place_in pages o id))
idle_there pages o last id idle =
    let m : SlotMap = λ i. content 0 [] (place_in pages o i) in
    sym (some_content 0 [] (pointer_of pages id.space id.number))
    ∙ ap is_some (idle_map 0 [] pages o last m id refl idle)
    ∙ has_changed last m id
    ∙ ap (has_after last id) (some_content 0 [] (place_in pages o id))
