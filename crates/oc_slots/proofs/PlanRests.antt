-- The pages and the log of a commit, at the places that they got.
use Rattle.std.proofs.Common.{◌≡◌, ◌∙◌, ℕ, ◌+◌, ◌*◌, ◌<◌, ◌≤◌, List, [], ◌∷◌, ◌++◌, length, map, replicate, get_or, Option, Some, None, sym, ap, subst, refl, arith}
use Rattle.std.specs.Prelude.{All, is_some, option_map}
use Rattle.oc_layout.specs.declared.cells.Cell.{Cell}
use Rattle.oc_layout.specs.declared.cells.Header.{Header}
use Rattle.oc_layout.specs.declared.cells.Space.TheVariants.{Objects, System}
use Rattle.oc_layout.specs.Layout.{unit_of, is_wide, FitsCell, IsLog}
use Rattle.oc_pages.specs.declared.page.Page.{Page}
use Rattle.oc_pages.specs.Order.{AreAscending}
use Rattle.oc_pages.specs.Pages.{Paged, no_cell, slot_in, page_holding, IsMissing}
use Rattle.oc_room.specs.Rooms.{Space, IsRoom, AreInOrder, open_at, owners, unplaced, lacking}
use Rattle.oc_room.proofs.Orders.{cells_fit}
use Rattle.oc_slots.specs.declared.commit_plan.LogPlan.{LogPlan}
use Rattle.oc_slots.specs.declared.new_pages.NewPage.{NewPage}
use Rattle.oc_slots.specs.declared.overlay.Overlay.{Overlay}
use Rattle.oc_slots.specs.declared.placed.PlacedChange.{PlacedChange}
use Rattle.oc_slots.specs.declared.turnover.Pointing.{Pointing}
use Rattle.oc_slots.specs.Pointings.{writes_of, AreAt}
use Rattle.oc_slots.specs.Turnovers.{numbers_in, places_of, root_writes, is_moved, IsTurnover, AreNew}
use Rattle.oc_slots.specs.Planning.{AreLengths, AreSlotsPlaced, ArePlaced, IsLogPlan, log_length}
use Rattle.oc_slots.proofs.AddedPages.{count_new}
use Rattle.oc_slots.proofs.PlanLengths.{long, last_len, cells_are}
use Rattle.oc_slots.proofs.PlanLogs.{is_log}

-- what becomes of the pointers, of equal changes
pub turned : (u v : ℕ) (pages : List Page) (o : Overlay) (xs ys : List PlacedChange) (ps : List Pointing) (freed : List Cell) → IsTurnover u pages o xs ps freed → u ≡ v → xs ≡ ys → IsTurnover v pages o ys ps freed
turned u v pages o xs ys ps freed t unit same = subst (λ n. IsTurnover n pages o ys ps freed) unit (subst (λ l. IsTurnover u pages o l ps freed) same t)

-- a pointing has a place where a page has its number
pub held_targets : (unit : ℕ) (pages : List Page) (ps : List Pointing) → AreAt unit pages ps → All (λ p. is_some p.target ≡ is_some (page_holding pages p.id.space p.id.number)) ps
held_targets unit pages ps at k d lt = sym (ap is_some (at k d lt)) ∙ same (page_holding pages (get_or ps k d).id.space (get_or ps k d).id.number) (λ p. p.at * unit + 16 + 8 * slot_in p (get_or ps k d).id.number)
  where
    same : (o : Option Page) (f : Page → ℕ) → is_some (option_map f o) ≡ is_some o
    same None f = refl
    same (Some p) f = refl

-- the lengths of what is placed behind the slots
pub lengths_known : (h : Header) (u : ℕ) (pages : List Page) (o : Overlay) (xs ys : List PlacedChange) (ps qs ks : List Pointing) (freed : List Cell) (objects system lens made : List ℕ) → IsTurnover u pages o xs ps freed → u ≡ unit_of h → xs ≡ ys
    → qs ≡ ps → AreAscending (IsMissing pages Objects (numbers_in Objects qs)) objects → AreAscending (IsMissing pages System (numbers_in System qs)) system
    → ks ≡ ps → made ≡ replicate (length objects + length system) 1024 ++ log_length (is_wide h) (length objects + length system) ks ∷ [] → lens ≡ made → AreLengths (is_wide h) pages (is_moved pages o ys) [] lens
lengths_known h u pages o xs ys ps qs ks freed objects system lens made t unit same found of_objects of_system counted are given =
    let here = turned u (unit_of h) pages o xs ys ps freed t unit same in
    record {
      pointings = ps;
      are_moved = here.moved;
      distinct = here.distinct;
      targets = held_targets (unit_of h) pages ps here.targets;
      objects = objects;
      system = system;
      objects_are = subst (λ l. AreAscending (IsMissing pages Objects (numbers_in Objects l)) objects) found of_objects;
      system_are = subst (λ l. AreAscending (IsMissing pages System (numbers_in System l)) system) found of_system;
      are = given ∙ are ∙ ap (λ l. replicate (length objects + length system) 1024 ++ log_length (is_wide h) (length objects + length system) l ∷ []) counted;
    }

-- whatever cells of these lengths the pages get, the log can be written
pub log_of : (h : Header) (pages : Paged) (o : Overlay) (room : Space) (changes : List PlacedChange) (others : ℕ) → AreSlotsPlaced h pages o room changes others → (ps : List Pointing) (freed : List Cell) → 0 < length ps → IsTurnover (unit_of h) pages.pages o changes ps freed
    → (objects system : List ℕ) → AreAscending (IsMissing pages.pages Objects (numbers_in Objects ps)) objects → AreAscending (IsMissing pages.pages System (numbers_in System ps)) system
    → (cells : List Cell) (added : List NewPage) → map (λ (c : Cell). c.len) cells ≡ replicate (length objects + length system) 1024 ++ log_length (is_wide h) (length objects + length system) ps ∷ [] → All FitsCell cells
    → AreNew objects system cells added → IsLog (is_wide h) (root_writes h added ++ writes_of ps)
log_of h pages o room changes others s [] freed some t objects system of_objects of_system cells added lens fits new = absurd (omega (arith, some))
log_of h pages o room changes others s (p ∷ ps) freed some t objects system of_objects of_system cells added lens fits new = is_log h pages o room changes others s p ps freed t objects system of_objects of_system cells added lens fits new

module _ (h : Header) (room r : Space) (objects system : List ℕ) (ps : List Pointing) (cells : List Cell) (log : LogPlan) (lens : List ℕ) (placed : ArePlaced room lens cells r) (is : IsLogPlan h objects system ps cells log)
    (lens_are : lens ≡ replicate (length objects + length system) 1024 ++ log_length (is_wide h) (length objects + length system) ps ∷ []) where
  abbrev count : ℕ
  count = length objects + length system

  have : map (λ (c : Cell). c.len) cells ≡ replicate count 1024 ++ log_length (is_wide h) count ps ∷ []
  have = placed.lengths ∙ lens_are

  pub added_count : length log.added.items ≡ count
  added_count = count_new objects system cells log.added.items is.added

  -- the cells are those of the pages and that of the log
  pub cells_whole : cells ≡ places_of log.added.items ++ log.place ∷ []
  cells_whole = cells_are count (log_length (is_wide h) count ps) cells have objects system log.added.items refl is.added ∙ ap (λ c. places_of log.added.items ++ c ∷ []) (sym is.place)

  pub log_len : log.place.len ≡ log_length (is_wide h) (length log.added.items) ps
  log_len = ap (λ (c : Cell). c.len) is.place ∙ last_len count (log_length (is_wide h) count ps) cells have ∙ ap (λ n. log_length (is_wide h) n ps) (sym added_count)

  pub log_fits : lacking room.unit room.limit (unplaced room) lens ≡ None → IsRoom r → FitsCell log.place
  log_fits none room_is =
      let few : r.end ≤ 2147483647 = omega (arith, room_is.end, room_is.limit) in
      subst FitsCell (sym is.place) (cells_fit room.unit room.limit room.end r.end (unplaced room) cells lens none placed.lengths placed.order few count no_cell (omega (arith, long count (log_length (is_wide h) count ps) cells have)))

  pub opened_there : (k : ℕ) → open_at room k ≡ open_at r k + owners room.unit (places_of log.added.items ++ log.place ∷ []) k
  opened_there k = placed.opened k ∙ ap (λ l. open_at r k + owners room.unit l k) cells_whole

  pub order_there : AreInOrder room.unit room.end (places_of log.added.items ++ log.place ∷ []) r.end
  order_there = subst (λ l. AreInOrder room.unit room.end l r.end) cells_whole placed.order
