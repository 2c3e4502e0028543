-- A commit's plan that is carried out in memory: what comes free, and that the parts of the store belong together then.
use Rattle.std.proofs.Common.{◌≡◌, ◌∙◌, ℕ, ◌+◌, ◌<◌, ◌≤◌, false, cond, List, [], ◌∷◌, ◌++◌, length, get_or, sym, ap, subst, arith, append-nil, length-append}
use Rattle.std.specs.Prelude.{All, AllPairs, nat_le, sum_by}
use Rattle.std.proofs.lemmas.Bool.Decides.{nat_tests}
use Rattle.std.proofs.lemmas.List.{get_or-map, length-map}
use Rattle.std.proofs.lemmas.List.Elements.{All-append, All-cons}
use Rattle.std.proofs.lemmas.List.Sums.{sum_by-cons, sum_by-append}
use Rattle.oc_layout.specs.declared.cells.Cell.{Cell}
use Rattle.oc_layout.specs.declared.cells.Header.{Header}
use Rattle.oc_layout.specs.declared.cells.Space as spaces
use Rattle.oc_layout.specs.declared.cells.Space.TheVariants.{Objects, System}
use Rattle.oc_layout.specs.Layout.{unit_of, room_of, blocks}
use Rattle.oc_layout.specs.Headers.{is_in_range}
use Rattle.oc_log.specs.Log.{with_log}
use Rattle.oc_free.specs.FreeParts.{free_at}
use Rattle.oc_pages.specs.declared.page.Page.{Page}
use Rattle.oc_pages.specs.Pages.{Paged, things_of, with_pointer, IsOther}
use Rattle.oc_pages.proofs.PointerLaws.{cells_kept as all_kept}
use Rattle.oc_room.specs.Rooms.{Space, Tiles, IsRoom, owns, owners, AreInOrder}
use Rattle.oc_room.proofs.Counting.{no_cell}
use Rattle.oc_slots.specs.declared.commit_plan.CommitPlan.{CommitPlan}
use Rattle.oc_slots.specs.declared.new_pages.NewPage.{NewPage}
use Rattle.oc_slots.specs.declared.overlay.Overlay.{Overlay}
use Rattle.oc_slots.specs.declared.slot.SlotChange.{SlotChange}
use Rattle.oc_slots.specs.declared.turnover.Pointing.{Pointing}
use Rattle.oc_slots.specs.Forms.{header_cell}
use Rattle.oc_slots.specs.Slots.{changes_of, places_in, slots_of, cells_of}
use Rattle.oc_slots.specs.Stores.{IsWhole, AreChanges, AreNumbers, fresh_of}
use Rattle.oc_slots.specs.Noting.{GoFree}
use Rattle.oc_slots.specs.Pointings.{set_all}
use Rattle.oc_slots.specs.Turnovers.{places_of, with_added}
use Rattle.oc_slots.specs.Planning.{IsPlan, places, pages_after, end_over}
use Rattle.oc_slots.proofs.AddedPages.{things_new, replaced_new, cells_new, others_new}
use Rattle.oc_slots.proofs.FormParts.{cells_kept}
use Rattle.oc_slots.proofs.MovedThings.{moved_all}
use Rattle.oc_slots.proofs.Things.{left_of, right_of}
use Rattle.oc_slots.proofs.Noted.{owners_append}
use Rattle.oc_slots.proofs.Placing.{tiles_placed}
use Rattle.oc_slots.proofs.PointedPages.{things_all}
use Rattle.oc_slots.proofs.SessionChange.{some_placed, cells_some}
use Rattle.oc_slots.proofs.Tilings.{tiles_within, each_once}
use Rattle.oc_slots.proofs.InOrder.{order_blocks}
use Rattle.oc_room.proofs.Orders.{order_end}

pub pages_some : (added : List NewPage) → All (λ (c : Cell). 1 ≤ c.len) (places_of added)
pages_some [] = λ k d lt. absurd (omega (arith, lt))
pages_some (a ∷ more) = All-cons (λ (c : Cell). 1 ≤ c.len) (record { at = a.at; len = 1024 }) (places_of more) (omega arith) (pages_some more)

all_set : (ps : List Pointing) (pages : List Page) → All (λ q. length q.cells ≡ 126) pages → All (λ q. length q.cells ≡ 126) (set_all ps pages)
all_set [] pages all = all
all_set (p ∷ ps) pages all = all_set ps (with_pointer p.id.space p.id.number p.cell pages) (all_kept p.id.space p.id.number p.cell pages all)

module _ (h : Header) (pages : Paged) (o : Overlay) (room r : Space) (fresh len : ℕ) (last : List SlotChange) (plan : CommitPlan) (p : Paged)
    (whole : IsWhole h pages o room fresh len) (is : AreChanges last) (f : IsPlan h pages o room len last plan p r) (full : All (λ q. length q.cells ≡ 126) pages.pages) where
  abbrev old : List Cell
  old = header_cell ∷ things_of pages.pages ++ fresh_of o

  -- the things that the store has then
  abbrev new : List Cell
  new = header_cell ∷ things_of (pages_after plan pages.pages)

  -- what comes free
  abbrev gone : List Cell
  gone = plan.freed.items ++ plan.place ∷ []

  pub pos : 0 < r.unit
  pos = f.is_room.unit

  pub unit : r.unit ≡ unit_of h
  unit = f.room_unit ∙ whole.unit

  -- what was there and what is placed tile the file
  pub tiled_placed : Tiles r (old ++ places plan)
  tiled_placed = tiles_placed room r old (places plan) whole.tiles f.room_unit (order_end room.unit room.end r.end (places plan) f.order) f.opened f.is_room.within

  pub placed_some : All (λ c. 1 ≤ c.len) (cells_of plan.placed.items)
  placed_some = cells_some (slots_of plan.placed.items) (some_placed last plan.placed.items f.are is.some f.sizes)

  pub log_some : 1 ≤ plan.place.len
  log_some = omega (arith, f.log)

  pub all_some : All (λ c. 1 ≤ c.len) (old ++ places plan)
  all_some =
      All-append (λ c. 1 ≤ c.len) old (places plan) whole.some
      (All-append (λ c. 1 ≤ c.len) (cells_of plan.placed.items ++ places_of plan.added.items) (plan.place ∷ [])
      (All-append (λ c. 1 ≤ c.len) (cells_of plan.placed.items) (places_of plan.added.items) placed_some (pages_some plan.added.items))
      (All-cons (λ c. 1 ≤ c.len) plan.place [] log_some (λ k d lt. absurd (omega (arith, lt)))))

  pub all_within : All (λ c. c.at + blocks r.unit c.len ≤ r.end) (old ++ places plan)
  all_within = tiles_within r pos (old ++ places plan) tiled_placed all_some

  -- the things and what comes free are just what was there and what is placed
  pub moved : (g : Cell → ℕ) → sum_by g (new ++ gone) ≡ sum_by g (old ++ places plan)
  moved g =
      let ps = plan.pointings.items in
      let added = plan.added.items in
      let placed = cells_of plan.placed.items in
      let next = with_added added pages.pages in
      let set = things_all g ps next (cells_new added pages.pages full) (others_new added pages.pages f.missing whole.distinct) f.held f.turnover.distinct in
      omega (
        arith,
        set,
        things_new g added pages.pages,
        ap (sum_by g) (replaced_new added pages.pages ps f.missing),
        f.turnover.cells g,
        sum_by-append g new gone,
        sum_by-cons g header_cell (things_of (pages_after plan pages.pages)),
        sum_by-append g plan.freed.items (plan.place ∷ []),
        sum_by-append g old (places plan),
        sum_by-append g (header_cell ∷ things_of pages.pages) (fresh_of o),
        sum_by-cons g header_cell (things_of pages.pages),
        sum_by-append g (placed ++ places_of added) (plan.place ∷ []),
        sum_by-append g placed (places_of added),
      )

  pub tiled : Tiles r (new ++ gone)
  tiled = record {
    each = λ k lt. omega (arith, tiled_placed.each k lt, moved (λ c. cond (owns r.unit k c) 1 0));
    none = λ k ge. omega (arith, tiled_placed.none k ge, moved (λ c. cond (owns r.unit k c) 1 0));
  }

  pub each_some : All (λ c. 1 ≤ c.len) (new ++ gone)
  each_some k d lt =
      let all = moved_all (old ++ places plan) (new ++ gone) (λ c. nat_le c.len 0) moved (λ i e below. empty (get_or (old ++ places plan) i e) (all_some i e below)) in
      full_of (get_or (new ++ gone) k d) (all k d lt)
    where
      empty : (c : Cell) → 1 ≤ c.len → nat_le c.len 0 ≡ false
      empty c some = grind (arith, nat_tests, some)

      full_of : (c : Cell) → nat_le c.len 0 ≡ false → 1 ≤ c.len
      full_of c e = grind (arith, nat_tests, e)

  -- the pages have all their cells
  pub full_after : All (λ q. length q.cells ≡ 126) (pages_after plan pages.pages)
  full_after = all_set plan.pointings.items (with_added plan.added.items pages.pages) (cells_new plan.added.items pages.pages full)

  -- what comes free can be given back
  pub gone_free : GoFree r gone
  gone_free = record {
    is_room = f.is_room;
    some = right_of (λ c. 1 ≤ c.len) new gone each_some;
    within = right_of (λ c. c.at + blocks r.unit c.len ≤ r.end) new gone (tiles_within r pos (new ++ gone) tiled each_some);
    taken = λ k. omega (arith, each_once r pos (new ++ gone) tiled k, owners_append r.unit k new gone);
    spare = omega (arith, f.spare, length-append plan.freed.items (plan.place ∷ []));
  }

  -- each of the added pages has an address that a cell can name
  pub addresses : All (λ a. a.at ≤ 2147483647) plan.added.items
  addresses i d lt =
      let placed = cells_of plan.placed.items in
      let added = places_of plan.added.items in
      let here : All (λ c. c.at + blocks r.unit c.len ≤ r.end) added =
      right_of (λ c. c.at + blocks r.unit c.len ≤ r.end) placed added (left_of (λ c. c.at + blocks r.unit c.len ≤ r.end) (placed ++ added) (plan.place ∷ []) (right_of (λ c. c.at + blocks r.unit c.len ≤ r.end) old (places plan) all_within)) in
      let as_cell : NewPage → Cell = λ a. record { at = a.at; len = 1024 } in
      let one = here i no_cell (omega (arith, lt, length-map plan.added.items as_cell)) in
      let same = ap (λ (c : Cell). c.at) (get_or-map as_cell plan.added.items i d no_cell lt) in
      omega (arith, one, same, f.is_room.end, f.is_room.limit)

  pub end_is : r.end ≡ blocks (unit_of h) plan.end
  end_is =
      subst (λ u. r.end ≡ blocks u (end_over u len (places plan))) whole.unit
      (order_blocks room.unit len r.end (places plan) whole.is_room.unit (subst (λ e. AreInOrder room.unit e (places plan) r.end) (whole.end ∙ (λ i. blocks (sym whole.unit i) len)) f.order))
      ∙ ap (blocks (unit_of h)) (sym f.end)

  -- ---- the header then

  abbrev closed : Header
  closed = record (with_log h plan.place) { gate = 0 }

  pub header_is : plan.header ≡ record closed { root = plan.header.root; block_root = plan.header.block_root }
  header_is = f.header ∙ cells_kept plan.draft.writes closed ∙ (λ i. record closed { root = (sym f.header i).root; block_root = (sym f.header i).block_root })

  module _ (q : Paged) (none : Overlay) (t : Space) (empty : (space : spaces.Space) → changes_of none space ≡ []) (parts : (k : ℕ) → free_at t.parts k ≡ free_at r.parts k + owners r.unit gone k) (is_room : IsRoom t)
      (t_unit : t.unit ≡ r.unit) (t_end : t.end ≡ r.end) (t_limit : t.limit ≡ r.limit) (after : q.pages ≡ pages_after plan pages.pages) (same_unit : q.unit ≡ pages.unit) (others : AllPairs IsOther q.pages) where
    nothing : fresh_of none ≡ []
    nothing i = places_in (empty Objects i) ++ places_in (empty System i)

    only_new : new ≡ header_cell ∷ things_of q.pages ++ fresh_of none
    only_new = sym (append-nil new) ∙ (λ i. header_cell ∷ things_of (sym after i) ++ sym nothing i)

    tiled_new : Tiles t new
    tiled_new = record {
      each = λ k lt. subst (λ u. owners u new k + free_at t.parts k ≡ 1) (sym t_unit) (omega (arith, tiled.each k (omega (arith, lt, t_end)), parts k, owners_append r.unit k new gone));
      none = λ k ge. subst (λ u. owners u new k + free_at t.parts k ≡ 0) (sym t_unit) (omega (arith, tiled.none k (omega (arith, ge, t_end)), parts k, owners_append r.unit k new gone));
    }

    -- the parts of the store belong together
    pub whole_installed : IsWhole plan.header q none t 0 plan.end
    whole_installed = record {
      in_range = ap is_in_range header_is ∙ whole.in_range;
      closed = λ e. omega (arith, e, ap (λ (x : Header). x.gate) header_is);
      page_unit = same_unit ∙ whole.page_unit ∙ sym (ap unit_of header_is);
      distinct = others;
      is_room = is_room;
      unit = t_unit ∙ unit ∙ sym (ap unit_of header_is);
      limit = t_limit ∙ f.limit ∙ whole.limit ∙ sym (ap room_of header_is);
      end = t_end ∙ end_is ∙ (λ i. blocks (unit_of (sym header_is i)) plan.end);
      tiles = subst (Tiles t) only_new tiled_new;
      some = subst (All (λ c. 1 ≤ c.len)) only_new (left_of (λ c. 1 ≤ c.len) new gone each_some);
      count = sym (ap length nothing);
      spare = omega arith;
      objects = subst AreNumbers (sym (empty Objects)) (λ k d lt. absurd (omega (arith, lt)));
      system = subst AreNumbers (sym (empty System)) (λ k d lt. absurd (omega (arith, lt)));
    }

-- ---- as it is given to who carries the plan out

-- the plan is one of a store whose parts belong together, with these pages and this room
abbrev pub IsGiven : Paged → Space → CommitPlan → Type 0
IsGiven p r plan =
    (header : Header) × (before : Paged) × (overlay : Overlay) × (at : Space) × (fresh : ℕ) × (len : ℕ) × (last : List SlotChange)
    × IsWhole header before overlay at fresh len × AreChanges last × IsPlan header before overlay at len last plan p r

full_before : (p before : Paged) → p.pages ≡ before.pages → All (λ q. length q.cells ≡ 126) p.pages → All (λ q. length q.cells ≡ 126) before.pages
full_before p before same all = subst (All (λ q. length q.cells ≡ 126)) same all

pub given_free : (p : Paged) (r : Space) (plan : CommitPlan) → IsGiven p r plan → All (λ q. length q.cells ≡ 126) p.pages → GoFree r (plan.freed.items ++ plan.place ∷ [])
given_free p r plan (h, before, o, at, fresh, len, last, whole, is, f) all = gone_free h before o at r fresh len last plan p whole is f (full_before p before f.same_pages all)

pub given_addresses : (p : Paged) (r : Space) (plan : CommitPlan) → IsGiven p r plan → All (λ q. length q.cells ≡ 126) p.pages → All (λ a. a.at ≤ 2147483647) plan.added.items
given_addresses p r plan (h, before, o, at, fresh, len, last, whole, is, f) all = addresses h before o at r fresh len last plan p whole is f (full_before p before f.same_pages all)

pub given_full : (p : Paged) (r : Space) (plan : CommitPlan) → IsGiven p r plan → All (λ q. length q.cells ≡ 126) p.pages → All (λ q. length q.cells ≡ 126) (pages_after plan p.pages)
given_full p r plan (h, before, o, at, fresh, len, last, whole, is, f) all =
    subst (λ l. All (λ q. length q.cells ≡ 126) (pages_after plan l)) (sym f.same_pages) (full_after h before o at r fresh len last plan p whole is f (full_before p before f.same_pages all))

pub given_whole : (p q : Paged) (r t : Space) (plan : CommitPlan) (none : Overlay) → IsGiven p r plan → All (λ x. length x.cells ≡ 126) p.pages → ((space : spaces.Space) → changes_of none space ≡ [])
    → ((k : ℕ) → free_at t.parts k ≡ free_at r.parts k + owners r.unit (plan.freed.items ++ plan.place ∷ []) k) → IsRoom t → t.unit ≡ r.unit → t.end ≡ r.end → t.limit ≡ r.limit
    → q.pages ≡ pages_after plan p.pages → q.unit ≡ p.unit → AllPairs IsOther q.pages → IsWhole plan.header q none t 0 plan.end
given_whole p q r t plan none (h, before, o, at, fresh, len, last, whole, is, f) all empty parts is_room unit end limit after same others =
    whole_installed h before o at r fresh len last plan p whole is f (full_before p before f.same_pages all) q none t empty parts is_room unit end limit (after ∙ ap (pages_after plan) f.same_pages) (same ∙ f.same_unit) others
