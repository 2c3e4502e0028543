-- What is kept when a commit is done: just what doesn't come free by it, with the bytes that it had.
use Rattle.std.proofs.Common.{◌≡◌, ◌∙◌, inl, inr, ⊎_elim, ◌⊎◌, ℕ, zero, suc, ◌+◌, ◌<◌, ◌≤◌, Bool, true, false, cond, List, [], ◌∷◌, ◌++◌, length, get_or, Option, Some, None, sym, ap, subst, refl, arith, append-nil}
use Rattle.std.specs.Prelude.{All, Contains, ◌||◌, sum_by}
use Rattle.std.specs.Map.{keys_of}
use Rattle.std.specs.Option.{option_to_list}
use Rattle.std.proofs.lemmas.Bool.Decides.{nat_tests}
use Rattle.std.proofs.lemmas.List.Elements.{Contains-append_left, Contains-append_right, All-contains}
use Rattle.std.proofs.lemmas.List.Folds.{list_any-append}
use Rattle.std.proofs.lemmas.List.Sums.{sum_by-cons}
use Rattle.oc_layout.specs.declared.cells.Cell.{Cell}
use Rattle.oc_layout.specs.declared.cells.Header.{Header}
use Rattle.oc_layout.specs.declared.cells.Space as spaces
use Rattle.oc_layout.specs.declared.cells.Space.TheVariants.{Objects, System}
use Rattle.oc_layout.specs.Layout.{unit_of}
use Rattle.oc_host.specs.Disk.{Disk}
use Rattle.oc_log.specs.Log.{put_cells}
use Rattle.oc_pages.specs.declared.page.Page.{Page}
use Rattle.oc_pages.specs.Pages.{Paged, pointer_in, pointer_of, things_of}
use Rattle.oc_room.specs.Rooms.{Space}
use Rattle.oc_slots.specs.declared.commit_plan.CommitPlan.{CommitPlan}
use Rattle.oc_slots.specs.declared.overlay.Overlay.{Overlay}
use Rattle.oc_slots.specs.declared.slot.Side.TheVariants.{Committed, Session}
use Rattle.oc_slots.specs.declared.slot.SlotChange.{SlotChange}
use Rattle.oc_slots.specs.declared.slot.SlotId.{SlotId}
use Rattle.oc_slots.specs.declared.turnover.Pointing.{Pointing}
use Rattle.oc_slots.specs.Cached.{Cached, AreThose, is_cell, is_among, without}
use Rattle.oc_slots.specs.Forms.{header_cell}
use Rattle.oc_slots.specs.Held.{map_of}
use Rattle.oc_slots.specs.Maps.{Same, bytes_at, content, is_same}
use Rattle.oc_slots.specs.Planning.{IsPlan, pages_after, written}
use Rattle.oc_slots.specs.Pointings.{AreDistinct, cells_in, is_pointed, pointed_place, replaced}
use Rattle.oc_slots.specs.Slots.{changes_of, places_in}
use Rattle.oc_slots.specs.Stores.{Agrees, AreChanges, ArePlaces, AreRead, IsPlace, IsWhole, fresh_of, parts}
use Rattle.oc_slots.proofs.AddedPages.{pointers_then}
use Rattle.oc_slots.proofs.CacheLists.{same_cell, is_itself}
use Rattle.oc_slots.proofs.CommitFacts.{named_kept, now_same, things_kept}
use Rattle.oc_slots.proofs.Forgotten.{all_left, among_contained, exactly}
use Rattle.oc_slots.proofs.InstallParts as installed
use Rattle.oc_slots.proofs.KeptPlaces.{id_same, one_owner, place_there, session_is, with_kept, without_kept}
use Rattle.oc_slots.proofs.Noted.{each_in, owners_append}
use Rattle.oc_slots.proofs.SessionBytes.{noted_has}
use Rattle.oc_slots.proofs.SessionSteps.{seen}
use Rattle.oc_slots.proofs.Things.{tail_of, left_of, right_of}
use Rattle.oc_slots.proofs.Tilings.{each_once}

clash : true ≡ false → ⊥
clash e = cc

or_right : (a b : Bool) → b ≡ true → (a || b) ≡ true
or_right true b e = refl
or_right false b e = e

module _ (c : Cell) where
  -- counts the cell
  abbrev is_here : Cell → ℕ
  is_here x = cond (is_cell x c) 1 0

  counted : (cells : List Cell) → is_among cells c ≡ true → 1 ≤ sum_by is_here cells
  counted [] e = absurd (clash (sym e))
  counted (x ∷ xs) e = go (is_cell x c) refl (counted xs)
    where
      go : (b : Bool) → is_cell x c ≡ b → (is_among xs c ≡ true → 1 ≤ sum_by is_here xs) → 1 ≤ sum_by is_here (x ∷ xs)
      go true t rest = omega (arith, sum_by-cons is_here x xs, ap {B = ℕ} (λ b. cond b 1 0) t)
      go false t rest = omega (arith, sum_by-cons is_here x xs, rest (sym (ap (λ b. b || is_among xs c) t) ∙ e))

  found : (cells : List Cell) → 1 ≤ sum_by is_here cells → is_among cells c ≡ true
  found [] some = absurd (omega (arith, some))
  found (x ∷ xs) some = go (is_cell x c) refl (found xs)
    where
      go : (b : Bool) → is_cell x c ≡ b → (1 ≤ sum_by is_here xs → is_among xs c ≡ true) → is_among (x ∷ xs) c ≡ true
      go true t rest = ap (λ b. b || is_among xs c) t
      go false t rest = ap (λ b. b || is_among xs c) t ∙ rest (omega (arith, some, sum_by-cons is_here x xs, ap {B = ℕ} (λ b. cond b 1 0) t))

  only_one : (o : Option Cell) → is_among (option_to_list o) c ≡ true → o ≡ Some c
  only_one None e = absurd (clash (sym e))
  only_one (Some x) e = ap {B = Option Cell} (λ y. Some y) (same_cell x c (go (is_cell x c) refl))
    where
      go : (b : Bool) → is_cell x c ≡ b → is_cell x c ≡ true
      go true t = t
      go false t = absurd (clash (sym e ∙ ap (λ b. b || false) t))

  -- one of these slots has the cell by these pointings, and no other slot is it
  abbrev IsPointed : List Pointing → Type 0
  IsPointed ps = (id : SlotId) × ((base : Option Cell) → pointed_place ps id base ≡ Some c) × ((other : SlotId) → All (λ p. is_same other p.id ≡ false) ps → is_same other id ≡ false)

  pointing_of : (ps : List Pointing) → AreDistinct ps → is_among (cells_in ps) c ≡ true → IsPointed ps
  pointing_of [] distinct e = absurd (clash (sym e))
  pointing_of (p ∷ ps) distinct e =
      go (is_among (option_to_list (pointer_in p.cell)) c) refl (pointing_of ps (λ i j d lt inside. distinct (suc i) (suc j) d (omega (arith, lt)) (omega (arith, inside))))
    where
      others : All (λ q. is_same p.id q.id ≡ false) ps
      others k d lt = distinct 0 (suc k) d (omega arith) (omega (arith, lt))

      split : (is_among (option_to_list (pointer_in p.cell)) c || is_among (cells_in ps) c) ≡ true
      split = sym (list_any-append (λ x. is_cell x c) (option_to_list (pointer_in p.cell)) (cells_in ps)) ∙ e

      first : (base : Option Cell) → pointed_place (p ∷ ps) p.id base ≡ pointer_in p.cell
      first base = let t : is_same p.id p.id ≡ true = grind (arith, nat_tests) in rw t refl

      later : (id : SlotId) (base : Option Cell) → is_same p.id id ≡ false → pointed_place (p ∷ ps) id base ≡ pointed_place ps id base
      later id base t = rw t refl

      go : (b : Bool) → is_among (option_to_list (pointer_in p.cell)) c ≡ b → (is_among (cells_in ps) c ≡ true → IsPointed ps) → IsPointed (p ∷ ps)
      go true t rest = (p.id, λ base. first base ∙ only_one (pointer_in p.cell) t, λ other all. all 0 p (omega arith))
      go false t rest =
          let one = rest (sym (ap (λ b. b || is_among (cells_in ps) c) t) ∙ split) in
          (one.0, λ base. later one.0 base (one.2 p.id others) ∙ one.1 base, λ other all. one.2 other (tail_of (λ q. is_same other q.id ≡ false) p ps all))

  -- the place of a slot that is pointed is replaced
  was_replaced : (pages : List Page) (ps : List Pointing) (id : SlotId) → is_pointed ps id ≡ true → pointer_of pages id.space id.number ≡ Some c → is_among (replaced pages ps) c ≡ true
  was_replaced pages [] id e is = absurd (clash (sym e))
  was_replaced pages (p ∷ ps) id e is = list_any-append (λ x. is_cell x c) (option_to_list (pointer_of pages p.id.space p.id.number)) (replaced pages ps) ∙ go (is_same p.id id) refl (was_replaced pages ps id)
    where
      go : (b : Bool) → is_same p.id id ≡ b → (is_pointed ps id ≡ true → pointer_of pages id.space id.number ≡ Some c → is_among (replaced pages ps) c ≡ true)
          → (is_among (option_to_list (pointer_of pages p.id.space p.id.number)) c || is_among (replaced pages ps) c) ≡ true
      go true t rest =
          ap (λ b. b || is_among (replaced pages ps) c)
          (ap (λ (i : SlotId). is_among (option_to_list (pointer_of pages i.space i.number)) c) (id_same p.id id t) ∙ ap (λ o. is_among (option_to_list o) c) is ∙ ap (λ b. b || false) (is_itself c))
      go false t rest = or_right (is_among (option_to_list (pointer_of pages p.id.space p.id.number)) c) (is_among (replaced pages ps) c) (rest (sym (ap (λ b. b || is_pointed ps id) t) ∙ e) is)

-- a slot that isn't pointed stays where it is
not_pointed : (ps : List Pointing) (id : SlotId) (base : Option Cell) → is_pointed ps id ≡ false → pointed_place ps id base ≡ base
not_pointed [] id base e = refl
not_pointed (p ∷ ps) id base e = go (is_same p.id id) refl (not_pointed ps id base)
  where
    go : (b : Bool) → is_same p.id id ≡ b → (is_pointed ps id ≡ false → pointed_place ps id base ≡ base) → pointed_place (p ∷ ps) id base ≡ base
    go true t rest = absurd (clash (sym (ap (λ b. b || is_pointed ps id) t) ∙ e))
    go false t rest = rw t (rest (sym (ap (λ b. b || is_pointed ps id) t) ∙ e))

some_same : (u v : ℕ) (x y : List ℕ) (c : Cell) → content u y (Some c) ≡ content v x (Some c) → bytes_at u y c ≡ bytes_at v x c
some_same u v x y c e = cc

module _ (h : Header) (pages : Paged) (o : Overlay) (room r : Space) (fresh len : ℕ) (last : List SlotChange) (plan : CommitPlan) (p : Paged)
    (whole : IsWhole h pages o room fresh len) (is : AreChanges last) (f : IsPlan h pages o room len last plan p r) (full : All (λ q. length q.cells ≡ 126) pages.pages) where
  abbrev new : List Page
  new = pages_after plan pages.pages

  -- the new pages name the cell
  abbrev IsNamed : Cell → Type 0
  IsNamed c = (id : SlotId) × (pointer_of (pages_after plan pages.pages) id.space id.number ≡ Some c)

  -- what the session had or the pointings replace, and what doesn't come free, is pointed to
  pointed_to : (c : Cell) → is_among plan.freed.items c ≡ false → 1 ≤ sum_by (is_here c) (fresh_of o) + sum_by (is_here c) (replaced pages.pages plan.pointings.items) → IsNamed c
  pointed_to c left some =
      let one = pointing_of c plan.pointings.items f.turnover.distinct (found c (cells_in plan.pointings.items) (go (sum_by (is_here c) plan.freed.items) refl)) in
      (one.0, pointers_then pages.pages plan.added.items plan.pointings.items f.missing f.held f.turnover.distinct full one.0 ∙ one.1 (pointer_of pages.pages one.0.space one.0.number))
    where
      go : (n : ℕ) → sum_by (is_here c) plan.freed.items ≡ n → 1 ≤ sum_by (is_here c) (cells_in plan.pointings.items)
      go zero none = omega (arith, some, none, f.turnover.cells (is_here c))
      go (suc n) some_ = absurd (clash (sym (found c plan.freed.items (omega (arith, some_))) ∙ left))

  stays_pointed : (c : Cell) (id : SlotId) → pointer_of pages.pages id.space id.number ≡ Some c → is_among plan.freed.items c ≡ false → IsNamed c
  stays_pointed c id e left = go (is_pointed plan.pointings.items id) refl
    where
      go : (b : Bool) → is_pointed plan.pointings.items id ≡ b → IsNamed c
      go true t = pointed_to c left (omega (arith, counted c (replaced pages.pages plan.pointings.items) (was_replaced c pages.pages plan.pointings.items id t e)))
      go false t =
          (id, pointers_then pages.pages plan.added.items plan.pointings.items f.missing f.held f.turnover.distinct full id ∙ not_pointed plan.pointings.items id (pointer_of pages.pages id.space id.number) t ∙ e)

  -- a place that doesn't come free is named still
  stays_named : (c : Cell) → IsPlace (seen h pages o room len) c → is_among plan.freed.items c ≡ false → IsNamed c
  stays_named c (Committed, (id, e)) left = stays_pointed c id e left
  stays_named c (Session, (id, e)) left =
      ⊎_elim (λ among. pointed_to c left (omega (arith, counted c (fresh_of o) among))) (λ based. stays_pointed c id based left)
      (noted_has (λ x. (is_among (fresh_of o) x ≡ true) ⊎ (pointer_of pages.pages id.space id.number ≡ Some x)) (changes_of o id.space) id.number (pointer_of pages.pages id.space id.number) c
      (in_space id.space) (λ based. inr based) (sym (session_is h pages o room len [] id) ∙ e))
    where
      in_space : (space : spaces.Space) → All (λ x. (is_among (fresh_of o) x ≡ true) ⊎ (pointer_of pages.pages id.space id.number ≡ Some x)) (places_in (changes_of o space))
      in_space Objects = λ k d lt. inl (among_contained (fresh_of o) _ (Contains-append_left (places_in (changes_of o Objects)) (places_in (changes_of o System)) _ (each_in (places_in (changes_of o Objects)) k d lt)))
      in_space System = λ k d lt. inl (among_contained (fresh_of o) _ (Contains-append_right (places_in (changes_of o Objects)) (places_in (changes_of o System)) _ (each_in (places_in (changes_of o System)) k d lt)))

  module _ (q : Paged) (none : Overlay) (t : Space) (is_after : q.pages ≡ pages_after plan pages.pages) (empty : (space : spaces.Space) → changes_of none space ≡ []) (es : Cached) (places : ArePlaces (seen h pages o room len) es) where
    stays : (k : ℕ) (d : Cell × List ℕ) → k < length es → is_among plan.freed.items (get_or es k d).0 ≡ false → IsPlace (seen plan.header q none t plan.end) (get_or es k d).0
    stays k d lt left =
        let named = stays_named (get_or es k d).0 (places k d lt) left in
        (Committed, (named.0, ap (λ l. pointer_of l named.0.space named.0.number) is_after ∙ named.1))

    -- and what comes free is none
    goes : (c : Cell) → Contains plan.freed.items c → IsPlace (seen plan.header q none t plan.end) c → ⊥
    goes c freed place =
        let pos = installed.pos h pages o room r fresh len last plan p whole is f full in
        let all = header_cell ∷ things_of new in
        let gone = plan.freed.items ++ plan.place ∷ [] in
        let some = left_of (λ (x : Cell). 1 ≤ x.len) plan.freed.items (plan.place ∷ []) (right_of (λ (x : Cell). 1 ≤ x.len) all gone (installed.each_some h pages o room r fresh len last plan p whole is f full)) in
        let long : 1 ≤ c.len = subst (λ (x : Cell). 1 ≤ x.len) freed.2 (some freed.0 c freed.1) in
        let there : Contains (things_of new) c = subst (λ l. Contains l c) things_are (place_there plan.header q none t plan.end c place) in
        omega (
          arith,
          one_owner r.unit pos c long (things_of new) there,
          one_owner r.unit pos c long plan.freed.items freed,
          each_once r pos (all ++ gone) (installed.tiled h pages o room r fresh len last plan p whole is f full) c.at,
          owners_append r.unit c.at all gone,
          owners_append r.unit c.at (header_cell ∷ []) (things_of new),
          owners_append r.unit c.at plan.freed.items (plan.place ∷ []),
        )
      where
        things_are : things_of q.pages ++ fresh_of none ≡ things_of new
        things_are = (λ i. things_of (is_after i) ++ (places_in (empty Objects i) ++ places_in (empty System i))) ∙ append-nil (things_of new)

    pub places_then : ArePlaces (seen plan.header q none t plan.end) (without plan.freed.items es)
    places_then = all_left (λ e. IsPlace (seen plan.header q none t plan.end) e.0) plan.freed.items es stays

    pub kept_then : (fs : Cached) → AreThose (IsPlace (parts plan.header q none t plan.end fs)) (keys_of es) (keys_of (without plan.freed.items es))
    kept_then fs = exactly (IsPlace (parts plan.header q none t plan.end fs)) plan.freed.items es (λ k d lt left. with_kept plan.header q none t plan.end fs (get_or es k d).0 (stays k d lt left))
        (λ c there place. goes c there (without_kept plan.header q none t plan.end fs c place))

    module _ (d : Disk) (agrees : Agrees (seen h pages o room len) d) (z : Disk) (same : Same (map_of plan.header q.pages z.bytes) (map_of h q.pages (put_cells plan.draft.writes (written (unit_of h) plan q.pages d.bytes)))) where
      abbrev now : List ℕ
      now = written (unit_of h) plan (pages_after plan pages.pages) d.bytes

      before : (c : Cell) → IsPlace (seen h pages o room len) c → bytes_at (unit_of h) now c ≡ bytes_at (unit_of h) d.bytes c
      before c place =
          All-contains (λ x. bytes_at (unit_of h) now x ≡ bytes_at (unit_of h) d.bytes x) (things_of pages.pages ++ fresh_of o) c
          (tail_of (λ x. bytes_at (unit_of h) now x ≡ bytes_at (unit_of h) d.bytes x) header_cell (things_of pages.pages ++ fresh_of o)
          (things_kept h pages o room r fresh len last plan p whole is f full d agrees (record d { bytes = now }) refl)) (place_there h pages o room len c place)

      bytes : (c : Cell) → IsPlace (seen h pages o room len) c → is_among plan.freed.items c ≡ false → bytes_at (unit_of plan.header) z.bytes c ≡ bytes_at (unit_of h) d.bytes c
      bytes c place left =
          let named = stays_named c place left in
          some_same (unit_of plan.header) (unit_of h) now z.bytes c
          ((λ i. content (unit_of plan.header) z.bytes (sym named.1 i)) ∙ now_same h pages o room r fresh len last plan p whole is f full d agrees q none t z is_after empty same named.0
          ∙ named_kept h pages o room r fresh len last plan p whole is f full d agrees named.0 ∙ (λ i. content (unit_of h) now (named.1 i)))
          ∙ before c place

      -- what is left has the bytes that were read
      pub reads_then : AreRead (unit_of h) d.bytes es → AreRead (unit_of plan.header) z.bytes (without plan.freed.items es)
      reads_then read = all_left (λ e. e.1 ≡ bytes_at (unit_of plan.header) z.bytes e.0) plan.freed.items es (λ k x lt left. read k x lt ∙ sym (bytes (get_or es k x).0 (places k x lt) left))
