-- Where slots are that are kept, before and after a change and a rollback.
use Rattle.std.proofs.Common.{◌≡◌, ◌∙◌, inl, inr, ⊎_elim, ◌⊎◌, ℕ, suc, ◌+◌, ◌<◌, ◌≤◌, nat_eq, Bool, true, false, cond, List, [], ◌∷◌, ◌++◌, length, drop, get_or, Option, Some, None, sym, ap, subst, refl, arith, append-nil}
use Rattle.std.specs.Prelude.{All, AllPairs, Contains, flat_map, ◌||◌}
use Rattle.std.specs.Map.{lookup}
use Rattle.std.specs.Option.{option_map_or, option_flatten}
use Rattle.std.proofs.lemmas.Bool.Decides.{nat_tests}
use Rattle.std.proofs.Math.Seq.{drop-cons}
use Rattle.std.proofs.lemmas.List.{get_or_default}
use Rattle.std.proofs.lemmas.List.Elements.{Contains-append_left, Contains-append_right}
use Rattle.std.proofs.lemmas.List.Folds.{list_any-append}
use Rattle.indexmap.specs.IndexMap.{insert_entry}
use Rattle.oc_layout.specs.declared.cells.Cell.{Cell}
use Rattle.oc_layout.specs.declared.cells.Header.{Header}
use Rattle.oc_layout.specs.declared.cells.Space as spaces
use Rattle.oc_layout.specs.declared.cells.Space.TheVariants.{Objects, System}
use Rattle.oc_layout.specs.Layout.{unit_of}
use Rattle.oc_host.specs.Disk.{Disk}
use Rattle.oc_pages.specs.Pages.{Paged, pointer_of, space_number, things_of}
use Rattle.oc_room.specs.Rooms.{Space, owns, owners}
use Rattle.oc_room.proofs.Counting.{no_cell, owners_within, some_blocks}
use Rattle.oc_slots.specs.declared.overlay.Overlay.{Overlay}
use Rattle.oc_slots.specs.declared.slot.Side.{Side}
use Rattle.oc_slots.specs.declared.slot.Side.TheVariants.{Committed, Session}
use Rattle.oc_slots.specs.declared.slot.SlotId.{SlotId}
use Rattle.oc_slots.specs.declared.placed.PlacedChange.{PlacedChange}
use Rattle.oc_slots.specs.Cached.{Cached, is_cell, is_among, without}
use Rattle.oc_slots.specs.Maps.{is_same, bytes_at, content}
use Rattle.oc_slots.specs.Noting.{noted, noted_cells, left_by, place_of, place_in, placed_place}
use Rattle.oc_slots.specs.Slots.{Changes, changes_of, put_change, cell_list, places_in, cells_of}
use Rattle.oc_slots.specs.Stores.{Slots, IsPlace, ArePlaces, AreRead, changes_in, fresh_of, place_on, map_on, parts}
use Rattle.oc_slots.proofs.CacheLists.{is_itself}
use Rattle.oc_slots.proofs.Forgotten.{all_left, among_contained}
use Rattle.oc_slots.proofs.Noted.{each_in, owners_append, put_measure}
use Rattle.oc_slots.proofs.SessionBytes.{place_has, noted_has}
use Rattle.oc_slots.proofs.SameSlots.{is_true}
use Rattle.oc_slots.proofs.SessionMap.{put_other, noted_place}
use Rattle.oc_slots.proofs.Sessions.{cells_one}
use Rattle.oc_slots.proofs.Things.{tail_of, pointed}

-- ---- what places and maps depend on

-- what changed in a space, as the store is seen
pub changes_seen : (h : Header) (pages : Paged) (o : Overlay) (room : Space) (len : ℕ) (es : Cached) (space : spaces.Space) → changes_in (parts h pages o room len es) space ≡ changes_of o space
changes_seen h pages o room len es Objects = refl
changes_seen h pages o room len es System = refl

-- where the session has a slot, by the overlay over the pages
pub session_is : (h : Header) (pages : Paged) (o : Overlay) (room : Space) (len : ℕ) (es : Cached) (id : SlotId) → place_on Session (parts h pages o room len es) id ≡ place_in pages.pages o id
session_is h pages o room len es id = ap (λ cs. option_map_or (λ x. x) (lookup (nat_eq id.number) cs) (pointer_of pages.pages id.space id.number)) (changes_seen h pages o room len es id.space)

-- what is kept changes no place
pub place_bare : (h : Header) (pages : Paged) (o : Overlay) (room : Space) (len : ℕ) (es : Cached) (side : Side) (id : SlotId) → place_on side (parts h pages o room len []) id ≡ place_on side (parts h pages o room len es) id
place_bare h pages o room len es Committed id = refl
place_bare h pages o room len es Session id = session_is h pages o room len [] id ∙ sym (session_is h pages o room len es id)

pub with_kept : (h : Header) (pages : Paged) (o : Overlay) (room : Space) (len : ℕ) (es : Cached) (c : Cell) → IsPlace (parts h pages o room len []) c → IsPlace (parts h pages o room len es) c
with_kept h pages o room len es c (side, (id, e)) = (side, (id, sym (place_bare h pages o room len es side id) ∙ e))

pub without_kept : (h : Header) (pages : Paged) (o : Overlay) (room : Space) (len : ℕ) (es : Cached) (c : Cell) → IsPlace (parts h pages o room len es) c → IsPlace (parts h pages o room len []) c
without_kept h pages o room len es c (side, (id, e)) = (side, (id, place_bare h pages o room len es side id ∙ e))

-- nor does the room
pub place_same : (h : Header) (pages : Paged) (o p : Overlay) (room r : Space) (len end : ℕ) (c : Cell) → ((space : spaces.Space) → changes_of p space ≡ changes_of o space) → IsPlace (parts h pages o room len []) c → IsPlace (parts h pages p r end []) c
place_same h pages o p room r len end c same (Committed, (id, e)) = (Committed, (id, e))
place_same h pages o p room r len end c same (Session, (id, e)) =
    (Session, (id, session_is h pages p r end [] id ∙ ap (λ cs. option_map_or (λ x. x) (lookup (nat_eq id.number) cs) (pointer_of pages.pages id.space id.number)) (same id.space) ∙ sym (session_is h pages o room len [] id) ∙ e))

-- nor do the pages in memory
pub place_pages : (h : Header) (pages p : Paged) (o q : Overlay) (room r : Space) (len : ℕ) (c : Cell) → p.pages ≡ pages.pages → ((space : spaces.Space) → changes_of q space ≡ changes_of o space) → IsPlace (parts h pages o room len []) c → IsPlace (parts h p q r len []) c
place_pages h pages p o q room r len c is same (Committed, (id, e)) = (Committed, (id, ap (λ l. pointer_of l id.space id.number) is ∙ e))
place_pages h pages p o q room r len c is same (Session, (id, e)) =
    (Session, (id, session_is h p q r len [] id ∙ (λ i. option_map_or (λ x. x) (lookup (nat_eq id.number) (same id.space i)) (pointer_of (is i) id.space id.number)) ∙ sym (session_is h pages o room len [] id) ∙ e))

pub map_at : (side : Side) (s : Slots) (d : Disk) (id : SlotId) → map_on side s d id ≡ content (unit_of s.header) d.bytes (place_on side s id)
map_at Committed s d id = refl
map_at Session s d id = refl

-- ---- what is noted of a slot

nothing : {X : Type 0} (c : X) → None ≡ Some c → ⊥
nothing c e = cc

clash : true ≡ false → ⊥
clash e = cc

abbrev Noted : Type 0
Noted = spaces.Space → Changes

-- the place that was noted of a slot, as a list
abbrev place_noted : Noted → SlotId → List Cell
place_noted f id = cell_list (option_flatten (lookup (nat_eq id.number) (f id.space)))

abbrev places_noted : Noted → List PlacedChange → List Cell
places_noted f ps = flat_map (λ p. place_noted f p.id) ps

-- with one more noted
abbrev with_noted : Noted → PlacedChange → Noted
with_noted f p space = put_change p.id (place_of p) space (f space)

space_same : (a b : spaces.Space) → space_number a ≡ space_number b → a ≡ b
space_same Objects Objects e = refl
space_same Objects System e = absurd (omega (arith, e))
space_same System Objects e = absurd (omega (arith, e))
space_same System System e = refl

pub id_same : (a b : SlotId) → is_same a b ≡ true → a ≡ b
id_same a b e =
    let both = is_true a b e in
    let space = space_same a.space b.space both.0 in
    λ i. record { space = space i; number = both.1 i }

-- what is noted of others stays
same_left : (f : Noted) (p : PlacedChange) (ps : List PlacedChange) → All (λ q. is_same p.id q.id ≡ false) ps → places_noted (with_noted f p) ps ≡ places_noted f ps
same_left f p [] others = refl
same_left f p (q ∷ qs) others =
    let here : place_noted (with_noted f p) q.id ≡ place_noted f q.id =
    ap (λ r. cell_list (option_flatten r)) (put_other q.id p.id (place_of p) (f q.id.space) (others 0 q (omega arith))) in
    λ i. here i ++ same_left f p qs (tail_of (λ r. is_same p.id r.id ≡ false) q qs others) i

module _ (m : List Cell → ℕ) (add : (xs ys : List Cell) → m (xs ++ ys) ≡ m xs + m ys) where
  abbrev total : Noted → ℕ
  total f = m (places_in (f Objects)) + m (places_in (f System))

  put_total : (f : Noted) (id : SlotId) (o : Option Cell) → total (λ space. put_change id o space (f space)) + m (place_noted f id) ≡ total f + m (cell_list o)
  put_total f id o = go id.space refl
    where
      go : (space : spaces.Space) → id.space ≡ space → total (λ space. put_change id o space (f space)) + m (place_noted f id) ≡ total f + m (cell_list o)
      go Objects e =
          let one : put_change id o Objects (f Objects) ≡ insert_entry nat_eq (f Objects) id.number o = rw e refl in
          let two : put_change id o System (f System) ≡ f System = rw e refl in
          let was : place_noted f id ≡ cell_list (option_flatten (lookup (nat_eq id.number) (f Objects))) = rw e refl in
          omega (arith, ap m was, ap (λ l. m (places_in l)) one, ap (λ l. m (places_in l)) two, put_measure m add (f Objects) id.number o)
      go System e =
          let one : put_change id o System (f System) ≡ insert_entry nat_eq (f System) id.number o = rw e refl in
          let two : put_change id o Objects (f Objects) ≡ f Objects = rw e refl in
          let was : place_noted f id ≡ cell_list (option_flatten (lookup (nat_eq id.number) (f System))) = rw e refl in
          omega (arith, ap m was, ap (λ l. m (places_in l)) one, ap (λ l. m (places_in l)) two, put_measure m add (f System) id.number o)

  count_noted : (f : Noted) (ps : List PlacedChange) → AllPairs (λ a b. is_same a.id b.id ≡ false) ps → total (λ space. noted ps space (f space)) + m (places_noted f ps) ≡ total f + m (cells_of ps)
  count_noted f [] distinct = refl
  count_noted f (p ∷ ps) distinct =
      let rest = count_noted (with_noted f p) ps (λ i j d lt inside. distinct (suc i) (suc j) d (omega (arith, lt)) (omega (arith, inside))) in
      let one = put_total f p.id (place_of p) in
      let same = same_left f p ps (λ k d lt. distinct 0 (suc k) d (omega arith) (omega (arith, lt))) in
      omega (arith, rest, one, ap m same, add (place_noted f p.id) (places_noted f ps), ap m (cells_one p ps), add (cell_list (place_of p)) (cells_of ps))

  -- what is noted now and what was left is what was noted and what is placed
  pub count_left : (o q : Overlay) (ps : List PlacedChange) → AllPairs (λ a b. is_same a.id b.id ≡ false) ps → ((space : spaces.Space) → changes_of q space ≡ noted ps space (changes_of o space)) → m (fresh_of q) + m (left_by o ps) ≡ m (fresh_of o) + m (cells_of ps)
  count_left o q ps distinct are =
      omega (
        arith,
        count_noted (changes_of o) ps distinct,
        ap (λ l. m (places_in l)) (are Objects),
        ap (λ l. m (places_in l)) (are System),
        add (places_in (changes_of q Objects)) (places_in (changes_of q System)),
        add (places_in (changes_of o Objects)) (places_in (changes_of o System)),
      )

-- what the changes leave from one on
pub left_more : (o : Overlay) (ps : List PlacedChange) (i : ℕ) (p : PlacedChange) → i < length ps → p ≡ get_or ps i p → left_by o (drop i ps) ≡ noted_cells o p.id ++ left_by o (drop (i + 1) ps)
left_more o ps i p lt is = ap (left_by o) (drop-cons ps i p lt) ∙ (λ j. noted_cells o (sym is j).id ++ left_by o (drop (next j) ps))
  where
    next : suc i ≡ i + 1
    next = omega arith

-- where a slot's old place isn't left it wasn't placed
left_or_same : (o : Overlay) (ps : List PlacedChange) (id : SlotId) (c : Cell) (base : Option Cell) → noted_cells o id ≡ c ∷ [] → is_among (left_by o ps) c ≡ false → placed_place ps id base ≡ base
left_or_same o [] id c base has left = refl
left_or_same o (p ∷ ps) id c base has left = go (is_same p.id id) refl (left_or_same o ps id c base has)
  where
    parts_of : is_among (left_by o (p ∷ ps)) c ≡ (is_among (noted_cells o p.id) c || is_among (left_by o ps) c)
    parts_of = list_any-append (λ x. is_cell x c) (noted_cells o p.id) (left_by o ps)

    here : is_same p.id id ≡ true → is_among (noted_cells o p.id) c ≡ true
    here t = ap (λ i. is_among (noted_cells o i) c) (id_same p.id id t) ∙ ap (λ l. is_among l c) has ∙ ap (λ b. b || false) (is_itself c)

    go : (b : Bool) → is_same p.id id ≡ b → (is_among (left_by o ps) c ≡ false → placed_place ps id base ≡ base) → placed_place (p ∷ ps) id base ≡ base
    go true t rest = absurd (clash (sym (ap (λ b. b || is_among (left_by o ps) c) (here t)) ∙ sym parts_of ∙ left))
    go false t rest = rw t (rest (second (is_among (noted_cells o p.id) c) refl))
      where
        second : (b : Bool) → is_among (noted_cells o p.id) c ≡ b → is_among (left_by o ps) c ≡ false
        second true u = absurd (clash (sym (ap (λ b. b || is_among (left_by o ps) c) u) ∙ sym parts_of ∙ left))
        second false u = sym (ap (λ b. b || is_among (left_by o ps) c) u) ∙ sym parts_of ∙ left

-- ---- one owner

module _ (unit : ℕ) (pos : 0 < unit) (c : Cell) (some : 1 ≤ c.len) where
  owns_first : owns unit c.at c ≡ true
  owns_first = let there = some_blocks unit c.len pos some in grind (arith, nat_tests, there)

  -- who has the cell owns its first block
  pub one_owner : (cells : List Cell) → Contains cells c → 1 ≤ owners unit cells c.at
  one_owner cells (i, lt, is) =
      let here = owners_within unit c.at i cells lt in
      let same : get_or cells i no_cell ≡ c = get_or_default cells i no_cell c lt ∙ is in
      omega (arith, here, ap {B = ℕ} (λ x. cond (owns unit c.at x) 1 0) same, ap {B = ℕ} (λ b. cond b 1 0) owns_first)

-- ---- a change

-- a place of the store is among the things
pub place_there : (h : Header) (pages : Paged) (o : Overlay) (room : Space) (len : ℕ) (c : Cell) → IsPlace (parts h pages o room len []) c → Contains (things_of pages.pages ++ fresh_of o) c
place_there h pages o room len c (Committed, (id, e)) =
    pointed (Contains (things_of pages.pages ++ fresh_of o)) pages.pages (λ k d lt. Contains-append_left (things_of pages.pages) (fresh_of o) _ (each_in (things_of pages.pages) k d lt)) id.space id.number c e
place_there h pages o room len c (Session, (id, e)) =
    place_has (Contains (things_of pages.pages ++ fresh_of o)) pages.pages o id c (λ k d lt. Contains-append_left (things_of pages.pages) (fresh_of o) _ (each_in (things_of pages.pages) k d lt))
    (λ k d lt. Contains-append_right (things_of pages.pages) (fresh_of o) _ (each_in (fresh_of o) k d lt)) (sym (session_is h pages o room len [] id) ∙ e)

module _ (h : Header) (pages : Paged) (o q : Overlay) (room t : Space) (len end : ℕ) (ps : List PlacedChange) (distinct : AllPairs (λ a b. is_same a.id b.id ≡ false) ps)
    (are : (space : spaces.Space) → changes_of q space ≡ noted ps space (changes_of o space)) where
  -- the session has a slot where it was placed, and else where it had it
  pub session_then : (id : SlotId) → place_on Session (parts h pages q t end []) id ≡ placed_place ps id (place_in pages.pages o id)
  session_then id =
      session_is h pages q t end [] id
      ∙ ap (λ cs. option_map_or (λ x. x) (lookup (nat_eq id.number) cs) (pointer_of pages.pages id.space id.number)) (are id.space)
      ∙ noted_place ps id (changes_of o id.space) (pointer_of pages.pages id.space id.number) distinct

  -- what isn't left is a place still
  pub stays_placed : (c : Cell) → IsPlace (parts h pages o room len []) c → is_among (left_by o ps) c ≡ false → IsPlace (parts h pages q t end []) c
  stays_placed c (Committed, (id, e)) left = (Committed, (id, e))
  stays_placed c (Session, (id, e)) left = go (lookup (nat_eq id.number) (changes_of o id.space)) refl
    where
      old : place_in pages.pages o id ≡ Some c
      old = sym (session_is h pages o room len [] id) ∙ e

      go : (r : Option (Option Cell)) → lookup (nat_eq id.number) (changes_of o id.space) ≡ r → IsPlace (parts h pages q t end []) c
      go None is = (Committed, (id, ap (λ r. option_map_or (λ x. x) r (pointer_of pages.pages id.space id.number)) (sym is) ∙ old))
      go (Some None) is = absurd (nothing c (ap (λ r. option_map_or (λ x. x) r (pointer_of pages.pages id.space id.number)) (sym is) ∙ old))
      go (Some (Some x)) is =
          let same : Some x ≡ Some c = ap (λ r. option_map_or (λ x. x) r (pointer_of pages.pages id.space id.number)) (sym is) ∙ old in
          let has : noted_cells o id ≡ c ∷ [] = ap (λ r. cell_list (option_flatten r)) is ∙ ap cell_list same in (
            Session,
            (id, session_then id ∙ left_or_same o ps id c (place_in pages.pages o id) has left ∙ old),
          )

  module _ (unit : ℕ) (pos : 0 < unit) (some : All (λ c. 1 ≤ c.len) (things_of pages.pages ++ fresh_of q)) (once : (k : ℕ) → owners unit ((things_of pages.pages ++ fresh_of o) ++ cells_of ps) k ≤ 1) where
    -- what is left is none
    pub left_goes : (c : Cell) → Contains (left_by o ps) c → IsPlace (parts h pages q t end []) c → ⊥
    left_goes c left place =
        let there = place_there h pages q t end c place in
        let long : 1 ≤ c.len = subst (λ x. 1 ≤ x.len) there.2 (some there.0 c there.1) in
        let a = one_owner unit pos c long (left_by o ps) left in
        let b = one_owner unit pos c long (things_of pages.pages ++ fresh_of q) there in
        omega (
          arith,
          a,
          b,
          once c.at,
          count_left (λ l. owners unit l c.at) (owners_append unit c.at) o q ps distinct are,
          owners_append unit c.at (things_of pages.pages) (fresh_of q),
          owners_append unit c.at (things_of pages.pages) (fresh_of o),
          owners_append unit c.at (things_of pages.pages ++ fresh_of o) (cells_of ps),
        )

-- ---- a rollback

module _ (h : Header) (pages : Paged) (o p : Overlay) (room t : Space) (len : ℕ) (none : (space : spaces.Space) → changes_of p space ≡ []) where
  -- the places of the committed side stay
  pub stays_committed : (c : Cell) → IsPlace (parts h pages o room len []) c → is_among (fresh_of o) c ≡ false → IsPlace (parts h pages p t len []) c
  stays_committed c (Committed, (id, e)) left = (Committed, (id, e))
  stays_committed c (Session, (id, e)) left =
      ⊎_elim (λ among. absurd (clash (sym among ∙ left))) (λ place. place)
      (noted_has (λ x. (is_among (fresh_of o) x ≡ true) ⊎ IsPlace (parts h pages p t len []) x) (changes_of o id.space) id.number (pointer_of pages.pages id.space id.number) c
      (in_space id.space) (λ based. inr (Committed, (id, based))) (sym (session_is h pages o room len [] id) ∙ e))
    where
      in_space : (space : spaces.Space) → All (λ x. (is_among (fresh_of o) x ≡ true) ⊎ IsPlace (parts h pages p t len []) x) (places_in (changes_of o space))
      in_space Objects = λ k d lt. inl (among_contained (fresh_of o) _ (Contains-append_left (places_in (changes_of o Objects)) (places_in (changes_of o System)) _ (each_in (places_in (changes_of o Objects)) k d lt)))
      in_space System = λ k d lt. inl (among_contained (fresh_of o) _ (Contains-append_right (places_in (changes_of o Objects)) (places_in (changes_of o System)) _ (each_in (places_in (changes_of o System)) k d lt)))

  -- and those of the session alone are none
  pub fresh_goes : (unit : ℕ) → 0 < unit → All (λ c. 1 ≤ c.len) (fresh_of o) → ((k : ℕ) → owners unit (things_of pages.pages ++ fresh_of o) k ≤ 1) → (c : Cell) → Contains (fresh_of o) c → IsPlace (parts h pages p t len []) c → ⊥
  fresh_goes unit pos some once c fresh place =
      let empty : things_of pages.pages ++ fresh_of p ≡ things_of pages.pages = (λ i. things_of pages.pages ++ (places_in (none Objects i) ++ places_in (none System i))) ∙ append-nil (things_of pages.pages) in
      let there = subst (λ l. Contains l c) empty (place_there h pages p t len c place) in
      let long : 1 ≤ c.len = subst (λ x. 1 ≤ x.len) fresh.2 (some fresh.0 c fresh.1) in
      let a = one_owner unit pos c long (fresh_of o) fresh in
      let b = one_owner unit pos c long (things_of pages.pages) there in
      omega (arith, a, b, once c.at, owners_append unit c.at (things_of pages.pages) (fresh_of o))

-- ---- what was read

same_bytes : (unit : ℕ) (x y : List ℕ) (c : Cell) → content unit y (Some c) ≡ content unit x (Some c) → bytes_at unit y c ≡ bytes_at unit x c
same_bytes unit x y c e = cc

-- where the slots of both sides have their bytes as before, what is left of what is kept was read there
pub reads_left : (unit : ℕ) (x y : List ℕ) (s : Slots) (cells : List Cell) (es : Cached) → ((side : Side) (id : SlotId) → content unit y (place_on side s id) ≡ content unit x (place_on side s id)) → ArePlaces s es → AreRead unit x es → AreRead unit y (without cells es)
reads_left unit x y s cells es same places read = all_left (λ e. e.1 ≡ bytes_at unit y e.0) cells es (λ k d lt left.
    let place = places k d lt in
    let e = get_or es k d in
    let here : content unit y (Some e.0) ≡ content unit x (Some e.0) = (λ i. content unit y (sym place.1.1 i)) ∙ same place.0 place.1.0 ∙ (λ i. content unit x (place.1.1 i)) in
    read k d lt ∙ sym (same_bytes unit x y e.0 here))
