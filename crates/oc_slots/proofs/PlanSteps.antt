-- The steps of a commit's plan: what each gives for the next.
use Rattle.std.proofs.Common.{◌≡◌, ◌∙◌, inl, inr, ℕ, ◌+◌, ◌≤◌, false, cond, leb, List, [], ◌∷◌, ◌++◌, length, map, None, sym, ap, subst, subst₂, arith}
use Rattle.std.specs.Prelude.{All}
use Rattle.std.proofs.lemmas.Bool.{cases_lt}
use Rattle.std.proofs.lemmas.Bool.Decides.{nat_tests}
use Rattle.std.proofs.lemmas.List.{append_assoc}
use Rattle.oc_layout.specs.declared.cells.Cell.{Cell}
use Rattle.oc_layout.specs.declared.cells.Header.{Header}
use Rattle.oc_layout.specs.declared.cells.Space as spaces
use Rattle.oc_layout.specs.declared.cells.Space.TheVariants.{Objects, System}
use Rattle.oc_layout.specs.Layout.{unit_of, is_wide}
use Rattle.oc_free.specs.FreeParts.{free_at}
use Rattle.oc_pages.specs.Pages.{Paged}
use Rattle.oc_room.specs.Rooms.{Space, Placed, IsRoom, GoesBack, AreInOrder, open_at, owners, unplaced, placed, lacking}
use Rattle.oc_room.proofs.Orders.{order_append, lacking_behind, lacking_anew, end_anew, placed_behind}
use Rattle.oc_slots.specs.declared.commit_plan.CommitPlan.{CommitPlan}
use Rattle.oc_slots.specs.declared.overlay.Overlay.{Overlay}
use Rattle.oc_slots.specs.declared.placed.PlacedChange.{PlacedChange}
use Rattle.oc_slots.specs.declared.run.Planned.{Planned}
use Rattle.oc_slots.specs.declared.slot.SlotChange.{SlotChange}
use Rattle.oc_slots.specs.declared.slot.SlotId.{SlotId}
use Rattle.oc_slots.specs.Slots.{change_of, changes_of, slots_of, cells_of, lengths_of}
use Rattle.oc_slots.specs.Stores.{AreChanges, AreNumbers, IsWhole}
use Rattle.oc_slots.specs.Pieces.{IsPlanned}
use Rattle.oc_slots.specs.Turnovers.{places_of, is_moved, IsTurnover}
use Rattle.oc_slots.specs.Planning.{AreLengths, AreSlotsPlaced, IsPlan, IsRest, moves, end_over}
use Rattle.oc_slots.proofs.Noted.{few_noted, owners_append}
use Rattle.oc_slots.proofs.PlanMoves.{moved_is, turned_same}
use Rattle.oc_slots.proofs.SessionChange.{tiled, all_some, numbers_of}
use Rattle.oc_slots.proofs.SessionMap.{distinct_of}
use Rattle.oc_slots.proofs.SessionSteps.{IsPlaced, ready}
use Rattle.oc_slots.proofs.InOrder.{after_over, over_append}

-- the changes are placed
pub placed_so : (h : Header) (pages : Paged) (o p : Overlay) (room r : Space) (fresh len : ℕ) (last : List SlotChange) (ps : List PlacedChange) (planned : Planned) (unit : ℕ) → IsWhole h pages o room fresh len → AreChanges last
    → map change_of ps ≡ last → All (λ s. s.cell.len ≡ length s.bytes) (slots_of ps) → ((k : ℕ) → open_at room k ≡ open_at r k + owners room.unit (cells_of ps) k) → GoesBack r (cells_of ps) room.end → IsPlanned unit len (slots_of ps) planned → unit ≡ unit_of h
    → fresh + length (cells_of ps) ≤ r.spare → ((space : spaces.Space) → changes_of p space ≡ changes_of o space) → r.unit ≡ room.unit → r.limit ≡ room.limit → IsRoom r → IsPlaced h pages o p room r fresh len last ps planned
placed_so h pages o p room r fresh len last ps planned unit whole is are sizes opened back plan unit_is spare same same_unit limit is_room = record {
  whole = whole;
  is = is;
  are = are;
  sizes = sizes;
  opened = opened;
  back = back;
  plan = subst (λ u. IsPlanned u len (slots_of ps) planned) unit_is plan;
  spare = spare;
  same = same;
  unit = same_unit;
  limit = limit;
  is_room = is_room;
}

module _ (h : Header) (pages : Paged) (o p : Overlay) (room r : Space) (fresh len : ℕ) (last : List SlotChange) (ps : List PlacedChange) (planned : Planned) (f : IsPlaced h pages o p room r fresh len last ps planned) where
  -- no more slots are the session's own and placed than the file may have blocks
  pub few_both : fresh + length (cells_of ps) ≤ r.limit
  few_both =
      let s = ready h pages o p room r fresh len last ps planned f in
      omega (arith, few_noted p r fresh (cells_of ps) s, s.count, f.is_room.end)

  pub few_words : fresh + length (cells_of ps) ≤ 2147483647
  few_words = omega (arith, few_both, f.is_room.limit)

  -- what comes behind the slots can be planned
  pub slots_placed : AreSlotsPlaced h pages p r ps (fresh + length (cells_of ps))
  slots_placed = record {
    in_range = f.whole.in_range;
    page_unit = f.whole.page_unit;
    is_room = f.is_room;
    unit = f.unit ∙ f.whole.unit;
    distinct = distinct_of last ps f.are f.is.distinct;
    numbers = numbers_of last ps f.are f.is.numbers;
    objects = subst AreNumbers (sym (f.same Objects)) f.whole.objects;
    system = subst AreNumbers (sym (f.same System)) f.whole.system;
    other = f.whole.distinct;
    tiles = tiled h pages o p room r fresh len last ps f.whole f.is f.are f.sizes f.opened f.back f.spare f.same f.unit f.limit f.is_room;
    some = all_some h pages o p room r fresh len last ps f.whole f.is f.are f.sizes f.opened f.back f.spare f.same f.unit f.limit f.is_room;
    spare = f.spare;
    few = few_both;
  }

  -- a slot moves by what is placed as it does by the changes
  pub moves_so : (id : SlotId) → is_moved pages.pages p ps id ≡ moves pages.pages o last id
  moves_so id = moved_is pages.pages o p last ps id f.are f.same

  -- ---- how long all is

  module _ (cells : List Cell) (slots : placed room.unit (unplaced room) (lengths_of last) ≡ record { cells = cells; parts = r.parts; end = r.end }) (none : lacking room.unit room.limit (unplaced room) (lengths_of last) ≡ None) (lens : List ℕ) where
    pub lengths_all : AreLengths (is_wide h) pages.pages (is_moved pages.pages p ps) [] lens → AreLengths (is_wide h) pages.pages (moves pages.pages o last) last (lengths_of last ++ lens)
    lengths_all are = record {
      pointings = are.pointings;
      are_moved = λ id. are.are_moved id ∙ moves_so id;
      distinct = are.distinct;
      targets = are.targets;
      objects = are.objects;
      system = are.system;
      objects_are = are.objects_are;
      system_are = are.system_are;
      are = ap (λ l. lengths_of last ++ l) are.are ∙ sym (append_assoc (lengths_of last) _ _);
    }

    -- what lacks of the rest lacks of all
    pub lacking_all : lacking room.unit room.limit (unplaced room) (lengths_of last ++ lens) ≡ lacking r.unit r.limit (unplaced r) lens
    lacking_all =
        lacking_behind room.unit room.limit (unplaced room) (lengths_of last) lens none
        ∙ ap (λ q. lacking room.unit room.limit q lens) slots
        ∙ lacking_anew room.unit room.limit r.parts r.end cells [] lens
        ∙ (λ i. lacking (sym f.unit i) (sym f.limit i) (unplaced r) lens)

    pub end_all : (placed room.unit (unplaced room) (lengths_of last ++ lens)).end ≡ (placed r.unit (unplaced r) lens).end
    end_all =
        ap (λ (q : Placed). q.end) (placed_behind room.unit (unplaced room) (lengths_of last) lens ∙ ap (λ q. placed room.unit q lens) slots)
        ∙ end_anew room.unit r.parts r.end cells [] lens
        ∙ ap (λ u. (placed u (unplaced r) lens).end) (sym f.unit)

  -- ---- the whole plan

  module _ (order : AreInOrder room.unit room.end (cells_of ps) r.end) (plan : CommitPlan) (q : Paged) (t : Space) (rest : IsRest h pages p r ps planned plan q t) (is_room : IsRoom t) (same_pages : q.pages ≡ pages.pages) (same_unit : q.unit ≡ pages.unit) where
    abbrev behind : List Cell
    behind = places_of plan.added.items ++ plan.place ∷ []

    -- the places, those of the slots first
    places_are : cells_of ps ++ (places_of plan.added.items ++ plan.place ∷ []) ≡ cells_of plan.placed.items ++ places_of plan.added.items ++ plan.place ∷ []
    places_are = ap (λ l. cells_of l ++ (places_of plan.added.items ++ plan.place ∷ [])) (sym rest.placed) ∙ sym (append_assoc (cells_of plan.placed.items) (places_of plan.added.items) (plan.place ∷ []))

    within : (k : ℕ) → room.end ≤ k → free_at t.parts k ≡ 0
    within k ge = elim (cases_lt k r.end) [
      | inl below ↦
          let behind_none : leb r.end k ≡ false = grind (arith, nat_tests, below) in
          omega (arith, f.back.within k ge, rest.opened k, ap {B = ℕ} (λ b. cond b 1 0) behind_none)
      | inr over ↦ rest.within k over
    ]

    opened : (k : ℕ) → open_at room k ≡ open_at t k + owners room.unit (cells_of ps ++ (places_of plan.added.items ++ plan.place ∷ [])) k
    opened k =
        let later = subst (λ u. open_at r k ≡ open_at t k + owners u (places_of plan.added.items ++ plan.place ∷ []) k) f.unit (rest.opened k) in
        omega (arith, f.opened k, later, owners_append room.unit k (cells_of ps) (places_of plan.added.items ++ plan.place ∷ []))

    ends : plan.end ≡ end_over (unit_of h) len (cells_of ps ++ (places_of plan.added.items ++ plan.place ∷ []))
    ends =
        rest.end
        ∙ ap (λ n. end_over (unit_of h) n (places_of plan.added.items ++ plan.place ∷ [])) (f.plan.end ∙ after_over (unit_of h) len (slots_of ps) f.sizes)
        ∙ sym (over_append (unit_of h) len (cells_of ps) (places_of plan.added.items ++ plan.place ∷ []))

    in_order : AreInOrder room.unit room.end (cells_of ps ++ (places_of plan.added.items ++ plan.place ∷ [])) t.end
    in_order = order_append room.unit room.end r.end t.end (cells_of ps) (places_of plan.added.items ++ plan.place ∷ []) order (subst (λ u. AreInOrder u r.end (places_of plan.added.items ++ plan.place ∷ []) t.end) f.unit rest.order)

    pub plan_is : IsPlan h pages o room len last plan q t
    plan_is = record {
      are = ap (map change_of) rest.placed ∙ f.are;
      sizes = subst (λ l. All (λ s. s.cell.len ≡ length s.bytes) (slots_of l)) (sym rest.placed) f.sizes;
      planned = subst₂ (λ l runs. IsPlanned (unit_of h) len (slots_of l) runs) (sym rest.placed) (sym rest.planned) f.plan;
      turnover = turned_same (unit_of h) pages.pages o p plan.placed.items plan.pointings.items plan.freed.items f.same
          (subst (λ l. IsTurnover (unit_of h) pages.pages p l plan.pointings.items plan.freed.items) (sym rest.placed) rest.turnover);
      missing = rest.missing;
      held = rest.held;
      some = rest.some;
      fits = rest.fits;
      log = rest.log;
      writes = rest.writes;
      wide = rest.wide;
      unit = rest.unit;
      header = rest.header;
      end = ends ∙ ap (end_over (unit_of h) len) places_are;
      opened = λ k. opened k ∙ ap (λ l. open_at t k + owners room.unit l k) places_are;
      order = subst (λ l. AreInOrder room.unit room.end l t.end) places_are in_order;
      within = within;
      is_room = is_room;
      room_unit = rest.room_unit ∙ f.unit;
      limit = rest.limit ∙ f.limit;
      spare = rest.spare;
      same_pages = same_pages;
      same_unit = same_unit;
      pages_spare = rest.pages_spare;
    }
