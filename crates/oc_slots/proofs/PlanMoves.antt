-- Which slots move, by the changes and by what is placed of them.
use Rattle.std.proofs.Common.{◌≡◌, ◌∙◌, ◌⊎◌, inl, inr, ℕ, suc, ◌+◌, ◌≤◌, ◌&&◌, ◌||◌, nat_eq, Bool, true, false, List, [], ◌∷◌, length, map, Option, Some, None, sym, ap, subst, refl, arith}
use Rattle.std.specs.Prelude.{All, AllPairs, is_some, sum_by}
use Rattle.std.specs.List.{list_any}
use Rattle.std.specs.Map.{lookup}
use Rattle.std.specs.Option.{option_map, option_map_or}
use Rattle.std.proofs.lemmas.Bool.{cases_Bool}
use Rattle.oc_layout.specs.declared.cells.Cell.{Cell}
use Rattle.oc_layout.specs.declared.cells.Space as spaces
use Rattle.oc_pages.specs.declared.page.Page.{Page}
use Rattle.oc_pages.specs.Pages.{pointer_of}
use Rattle.oc_slots.specs.declared.overlay.Overlay.{Overlay}
use Rattle.oc_slots.specs.declared.placed.Slot.{Slot}
use Rattle.oc_slots.specs.declared.placed.PlacedChange.{PlacedChange}
use Rattle.oc_slots.specs.declared.slot.SlotChange.{SlotChange}
use Rattle.oc_slots.specs.declared.slot.SlotId.{SlotId}
use Rattle.oc_slots.specs.declared.turnover.Pointing.{Pointing}
use Rattle.oc_slots.specs.Maps.{has_after, is_same}
use Rattle.oc_slots.specs.Slots.{changes_of, change_of, cells_of, lengths_of}
use Rattle.oc_slots.specs.Pointings.{is_pointed, replaced}
use Rattle.oc_slots.specs.Noting.{place_in, placed_place}
use Rattle.oc_slots.specs.Turnovers.{is_moved, IsTurnover}
use Rattle.oc_slots.specs.Planning.{moves}
use Rattle.oc_slots.proofs.SessionChange.{fresh_same}
use Rattle.oc_slots.proofs.SameSlots.{clash, same_itself, same_slot}

-- a change is placed where it is made
pub named_same : (ps : List PlacedChange) (id : SlotId) → list_any (λ p. is_same p.id id) ps ≡ list_any (λ c. is_same c.id id) (map change_of ps)
named_same [] id = refl
named_same (p ∷ ps) id = ap (λ b. is_same p.id id || b) (named_same ps id)

-- and the slot is there then if it has bytes
pub there_same : (ps : List PlacedChange) (id : SlotId) (base : Option Cell) → is_some (placed_place ps id base) ≡ has_after (map change_of ps) id (is_some base)
there_same [] id base = refl
there_same (p ∷ ps) id base = go (is_same p.id id) refl (there_same ps id base)
  where
    here : (o : Option Slot) → is_some (option_map (λ s. s.cell) o) ≡ is_some (option_map (λ s. s.bytes) o)
    here None = refl
    here (Some s) = refl

    go : (b : Bool) → is_same p.id id ≡ b → is_some (placed_place ps id base) ≡ has_after (map change_of ps) id (is_some base) → is_some (placed_place (p ∷ ps) id base) ≡ has_after (map change_of (p ∷ ps)) id (is_some base)
    go true e rest = rw e (here p.slot)
    go false e rest = rw e rest

-- the session's place is the same by the same changes
pub place_same : (pages : List Page) (o p : Overlay) (id : SlotId) → ((space : spaces.Space) → changes_of p space ≡ changes_of o space) → place_in pages p id ≡ place_in pages o id
place_same pages o p id same i = option_map_or (λ x. x) (lookup (nat_eq id.number) (same id.space i)) (pointer_of pages id.space id.number)

-- what moves by the placed changes moves by the changes
pub moved_is : (pages : List Page) (o p : Overlay) (last : List SlotChange) (ps : List PlacedChange) (id : SlotId) → map change_of ps ≡ last → ((space : spaces.Space) → changes_of p space ≡ changes_of o space) → is_moved pages p ps id ≡ moves pages o last id
moved_is pages o p last ps id are same =
    (λ i. (named_same ps id i || is_some (lookup (nat_eq id.number) (same id.space i))) && ((there_same ps id (place_in pages p id) ∙ ap (λ b. has_after (map change_of ps) id (is_some b)) (place_same pages o p id same)) i || is_some (pointer_of pages id.space id.number)))
    ∙ ap (λ cs. moves pages o cs id) are

-- what becomes of the pointers is the same by the same changes
pub turned_same : (unit : ℕ) (pages : List Page) (o p : Overlay) (placed : List PlacedChange) (ps : List Pointing) (freed : List Cell) → ((space : spaces.Space) → changes_of p space ≡ changes_of o space) → IsTurnover unit pages p placed ps freed → IsTurnover unit pages o placed ps freed
turned_same unit pages o p placed ps freed same t = record {
  distinct = t.distinct;
  numbers = t.numbers;
  fits = t.fits;
  targets = t.targets;
  ascend = t.ascend;
  places = λ id. t.places id ∙ ap (placed_place placed id) (place_same pages o p id same);
  moved = λ id. t.moved id ∙ (λ i. (list_any (λ x. is_same x.id id) placed || is_some (lookup (nat_eq id.number) (same id.space i))) && (is_some (placed_place placed id (place_same pages o p id same i)) || is_some (pointer_of pages id.space id.number)));
  cells = λ f. t.cells f ∙ (λ i. sum_by f (fresh_same o p same i) + sum_by f (cells_of placed) + sum_by f (replaced pages ps));
  were = t.were;
}

-- one of the changes is of this slot, and it is there then
pub record IsBrought (cs : List SlotChange) (id : SlotId) : Type 0 where
  pub named : list_any (λ c. is_same c.id id) cs ≡ true
  pub there : (was : Bool) → has_after cs id was ≡ true

-- a change of another slot leaves it so
brought_on : (c : SlotChange) (cs : List SlotChange) (id : SlotId) → is_same c.id id ≡ false → IsBrought cs id → IsBrought (c ∷ cs) id
brought_on c cs id other b = record { named = ap (λ t. t || list_any (λ x. is_same x.id id) cs) other ∙ b.named; there = λ was. rw other (b.there was) }

-- nothing is to be placed, or one of the slots is there then
pub placed_or_none : (cs : List SlotChange) → AllPairs (λ a b. is_same a.id b.id ≡ false) cs → (lengths_of cs ≡ []) ⊎ ((id : SlotId) × IsBrought cs id)
placed_or_none [] distinct = inl refl
placed_or_none (c ∷ cs) distinct = go c.bytes refl (placed_or_none cs (λ i j d lt inside. distinct (suc i) (suc j) d (omega (arith, lt)) (omega (arith, inside))))
  where
    -- a later change is of another slot
    other : (ds : List SlotChange) (id : SlotId) → All (λ x. is_same c.id x.id ≡ false) ds → list_any (λ x. is_same x.id id) ds ≡ true → is_same c.id id ≡ false
    other [] id apart there = absurd (clash there)
    other (x ∷ xs) id apart there = elim (cases_Bool (is_same x.id id)) [
      | inl here ↦ subst (λ y. is_same c.id y ≡ false) (same_slot x.id id here) (apart 0 x (omega arith))
      | inr not ↦ other xs id (λ k d lt. apart (suc k) d (omega (arith, lt))) (sym (ap (λ t. t || list_any (λ y. is_same y.id id) xs) not) ∙ there)
    ]

    go : (o : Option (List ℕ)) → c.bytes ≡ o → (lengths_of cs ≡ []) ⊎ ((id : SlotId) × IsBrought cs id) → (lengths_of (c ∷ cs) ≡ []) ⊎ ((id : SlotId) × IsBrought (c ∷ cs) id)
    go None e (inl none) = inl (rw e none)
    go None e (inr some) = inr (some.0, brought_on c cs some.0 (other cs some.0 (λ k d lt. distinct 0 (suc k) d (omega arith) (omega (arith, lt))) some.1.named) some.1)
    go (Some b) e rest = inr (c.id, record { named = ap (λ t. t || list_any (λ x. is_same x.id c.id) cs) (same_itself c.id); there = λ was. rw (same_itself c.id) (ap is_some e) })

-- so it moves
pub brought_moves : (pages : List Page) (o : Overlay) (last : List SlotChange) (id : SlotId) → IsBrought last id → moves pages o last id ≡ true
brought_moves pages o last id b i =
    (b.named i || is_some (lookup (nat_eq id.number) (changes_of o id.space))) && (b.there (is_some (place_in pages o id)) i || is_some (pointer_of pages id.space id.number))

-- where no slot moves, nothing is to be placed
pub nothing_moves : (pages : List Page) (o : Overlay) (last : List SlotChange) → AllPairs (λ a b. is_same a.id b.id ≡ false) last → ((id : SlotId) → moves pages o last id ≡ false) → lengths_of last ≡ []
nothing_moves pages o last distinct none = elim (placed_or_none last distinct) [
  | inl nothing ↦ nothing
  | inr some ↦ absurd (clash (sym (none some.0) ∙ brought_moves pages o last some.0 some.1))
]

-- where slots are pointed that move, one moves
pub one_moves : (ps : List Pointing) (moved : SlotId → Bool) → 1 ≤ length ps → ((id : SlotId) → is_pointed ps id ≡ moved id) → (id : SlotId) × (moved id ≡ true)
one_moves [] moved some same = absurd (omega (arith, some))
one_moves (x ∷ xs) moved some same = (x.id, sym (same x.id) ∙ ap (λ t. t || list_any (λ p. is_same p.id x.id) xs) (same_itself x.id))
