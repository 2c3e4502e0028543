-- What holds of the pages with those that a commit adds.
use Rattle.std.proofs.Common.{◌≡◌, ◌∙◌, inl, inr, ℕ, zero, suc, ◌+◌, ◌-◌, ◌*◌, ◌/◌, ◌<◌, ◌≤◌, ◌⊎◌, ◌&&◌, ◌==◌, Bool, true, false, List, [], ◌∷◌, ◌++◌, length, map, take, replicate, get_or, set, Option, Some, None, sym, ap, subst, refl, arith, length-append}
use Rattle.std.specs.Prelude.{All, AllPairs, Contains, IsSome, find, sum_by, if◌then◌else◌}
use Rattle.std.specs.Option.{option_map, option_to_list}
use Rattle.std.proofs.lemmas.Bool.{cases_Bool, cases_eq}
use Rattle.std.proofs.lemmas.Bool.Decides.{nat_tests}
use Rattle.std.proofs.lemmas.List.{get_or-map, length-map, take-map, take_at, length-replicate, get_or-set_other}
use Rattle.std.proofs.lemmas.List.Elements.{All-nil, All-cons, All-tail, All-append, All-map, All-contains, Contains-append_left, Contains-append_right, Contains-get_or}
use Rattle.std.proofs.lemmas.List.Sums.{sum_by-cons}
use Rattle.oc_layout.specs.declared.cells.Cell.{Cell}
use Rattle.oc_layout.specs.declared.cells.CellWrite.{CellWrite}
use Rattle.oc_layout.specs.declared.cells.Header.{Header}
use Rattle.oc_layout.specs.declared.cells.Space.{Space}
use Rattle.oc_layout.specs.declared.cells.Space.TheVariants.{Objects, System}
use Rattle.oc_layout.specs.Layout.{FitsCell, cell_bytes, unit_of}
use Rattle.oc_host.specs.Disk.{over}
use Rattle.oc_log.specs.Log.{put_cells, AllClear, AllWithin}
use Rattle.oc_log.proofs.Bytes.{length-put, put_out, clear_of, slice_same}
use Rattle.oc_pages.specs.declared.page.Page.{Page}
use Rattle.oc_pages.specs.Order.{AreAscending}
use Rattle.oc_pages.specs.Pages.{no_cell, is_empty, is_page, has_number, holds, slot_in, page_of, page_holding, pointer_of, target_of, place_of, with_cell, with_pointer, space_number, first_of, empty_page, things_of, IsOther, IsMissing, IsInRange}
use Rattle.oc_pages.specs.Chains.{Chain, HasPages, Leads, StandsAt, ReadsAs, SpellsPage, AreApart, page_at}
use Rattle.oc_pages.proofs.Changes.{no_cells, with_held, with_other}
use Rattle.oc_pages.proofs.Images.{page_again}
use Rattle.oc_pages.proofs.Listings.{found_is}
use Rattle.oc_pages.proofs.Lookups.{nothing_found}
use Rattle.oc_pages.proofs.PointerLaws.{cells_added, pointer_added, things_added, target_set}
use Rattle.oc_pages.proofs.Ranges.{within_is, is_within, in_range_all}
use Rattle.oc_slots.specs.declared.new_pages.NewPage.{NewPage}
use Rattle.oc_slots.specs.declared.turnover.Pointing.{Pointing}
use Rattle.oc_slots.specs.Forms.{root_place, IsTarget}
use Rattle.oc_slots.specs.declared.slot.SlotId.{SlotId}
use Rattle.oc_slots.specs.Pointings.{set_all, write_of, writes_of, pointed_place, cells_in, replaced, AreAt, AreHeld, AreDistinct}
use Rattle.oc_slots.specs.Turnovers.{numbers_in, places_of, with_added, root_writes, AreNew, AreMissing}
use Rattle.oc_slots.proofs.MissingPages.{missing_front, page_skips}
use Rattle.oc_slots.proofs.PointedPages.{chain_all, distinct_all, pointers_all, things_all}
use Rattle.oc_slots.proofs.FormParts.{all_clear}

-- ---- lists

pairs_append : {X : Type 0} (R : X → X → Type 0) (xs ys : List X) → AllPairs R xs → AllPairs R ys → All (λ x. All (R x) ys) xs → AllPairs R (xs ++ ys)
pairs_append R [] ys one two cross = two
pairs_append R (x ∷ xs) ys one two cross =
    both (pairs_append R xs ys (λ i j d lt inside. one (suc i) (suc j) d (omega (arith, lt)) (omega (arith, inside))) two (All-tail (λ y. All (R y) ys) x xs cross))
    (All-append (R x) xs ys (λ k d lt. one 0 (suc k) d (omega arith) (omega (arith, lt))) (cross 0 x (omega arith)))
  where
    both : AllPairs R (xs ++ ys) → All (R x) (xs ++ ys) → AllPairs R (x ∷ xs ++ ys)
    both rest first i zero d lt inside = absurd (omega (arith, lt))
    both rest first zero (suc j) d lt inside = first j d (omega (arith, inside))
    both rest first (suc i) (suc j) d lt inside = rest i j d (omega (arith, lt)) (omega (arith, inside))

pairs_map : {X Y : Type 0} (R : Y → Y → Type 0) (f : X → Y) (xs : List X) → AllPairs (λ a b. R (f a) (f b)) xs → AllPairs R (map f xs)
pairs_map R f [] pairs i j d lt inside = absurd (omega (arith, inside))
pairs_map {X = X} {Y = Y} R f (x ∷ xs) pairs i j d lt inside =
    let n : j < length (x ∷ xs) = omega (arith, inside, length-map (x ∷ xs) f) in
    subst (λ (y : Y). R y (get_or (map f (x ∷ xs)) j d)) (sym (get_or-map f (x ∷ xs) i x d (omega (arith, lt, n))))
    (subst (λ (y : Y). R (f (get_or (x ∷ xs) i x)) y) (sym (get_or-map f (x ∷ xs) j x d n)) (pairs i j x lt n))

pairs_unmap : {X Y : Type 0} (R : Y → Y → Type 0) (f : X → Y) (xs : List X) → AllPairs R (map f xs) → AllPairs (λ a b. R (f a) (f b)) xs
pairs_unmap {X = X} {Y = Y} R f xs pairs i j d lt inside =
    let m : i < length xs = omega (arith, lt, inside) in
    subst (λ (y : Y). R y (f (get_or xs j d))) (get_or-map f xs i d (f d) m)
    (subst (λ (y : Y). R (get_or (map f xs) i (f d)) y) (get_or-map f xs j d (f d) inside) (pairs i j (f d) lt (omega (arith, inside, length-map xs f))))

all_unmap : {X Y : Type 0} (P : Y → Type 0) (f : X → Y) (xs : List X) → All P (map f xs) → All (λ x. P (f x)) xs
all_unmap P f xs all k d lt = subst P (get_or-map f xs k d (f d) lt) (all k (f d) (omega (arith, lt, length-map xs f)))

contains_map : {X Y : Type 0} (f : X → Y) (xs : List X) (x : X) → Contains xs x → Contains (map f xs) (f x)
contains_map f xs x (k, lt, e) = (k, omega (arith, lt, length-map xs f), get_or-map f xs k x (f x) lt ∙ ap f e)

contains_unmap : {X Y : Type 0} (f : X → Y) (xs : List X) (y : Y) → Contains (map f xs) y → (x : X) × Contains xs x × (f x ≡ y)
contains_unmap f [] y (k, lt, e) = absurd (omega (arith, lt))
contains_unmap f (x ∷ xs) y (zero, lt, e) = (x, (0, omega arith, refl), e)
contains_unmap f (x ∷ xs) y (suc k, lt, e) =
    let there = contains_unmap f xs y (k, omega (arith, lt), e) in
    (there.0, (suc there.1.0, omega (arith, there.1.1), there.1.2), there.2)

-- ---- the new pages are those that are missing

abbrev Key : Type 0
Key = Space × ℕ

abbrev key_of : NewPage → Key
key_of a = (a.space, a.index)

abbrev key_in : Space → ℕ → Key
key_in space index = (space, index)

abbrev AreTwo : Key → Key → Type 0
AreTwo a b = ((space_number a.0 == space_number b.0) && (a.1 == b.1)) ≡ false

two_numbers : (space : Space) (m n : ℕ) → m < n → AreTwo (space, m) (space, n)
two_numbers space m n lt = grind (arith, nat_tests, lt)

module _ (pages : List Page) (ps : List Pointing) (objects system : List ℕ) (cells : List Cell) (added : List NewPage)
    (of_objects : AreAscending (IsMissing pages Objects (numbers_in Objects ps)) objects) (of_system : AreAscending (IsMissing pages System (numbers_in System ps)) system) (new : AreNew objects system cells added) where
  pub missing_new : AreMissing pages added
  missing_new = record {
    none = all_unmap (λ (e : Key). page_of pages e.0 e.1 ≡ None) key_of added
        (subst (λ (l : List Key). All (λ e. page_of pages e.0 e.1 ≡ None) l) (sym new.indexes)
        (All-append (λ (e : Key). page_of pages e.0 e.1 ≡ None) (map (key_in Objects) objects) (map (key_in System) system)
        (All-map (λ (e : Key). page_of pages e.0 e.1 ≡ None) (key_in Objects) objects (λ k d lt. ((of_objects.exact (get_or objects k d)).0 (here objects k d lt)).none))
        (All-map (λ (e : Key). page_of pages e.0 e.1 ≡ None) (key_in System) system (λ k d lt. ((of_system.exact (get_or system k d)).0 (here system k d lt)).none))));
    distinct = pairs_unmap AreTwo key_of added
        (subst (λ (l : List Key). AllPairs AreTwo l) (sym new.indexes)
        (pairs_append AreTwo (map (key_in Objects) objects) (map (key_in System) system)
        (pairs_map AreTwo (key_in Objects) objects (λ i j d lt inside. two_numbers Objects (get_or objects i d) (get_or objects j d) (of_objects.ascend i j d lt inside)))
        (pairs_map AreTwo (key_in System) system (λ i j d lt inside. two_numbers System (get_or system i d) (get_or system j d) (of_system.ascend i j d lt inside)))
        (All-map (λ (e : Key). All (AreTwo e) (map (key_in System) system)) (key_in Objects) objects (λ k d lt. All-map (AreTwo (Objects, get_or objects k d)) (key_in System) system (λ j e le. refl)))));
  }
    where
      here : (xs : List ℕ) (k d : ℕ) → k < length xs → Contains xs (get_or xs k d)
      here xs k d lt = Contains-get_or xs k d lt

-- ---- then each number has a page

find_some : (test : Page → Bool) (xs : List Page) (x : Page) → Contains xs x → test x ≡ true → IsSome (find test xs)
find_some test [] x there passes = absurd (omega (arith, there.1))
find_some test (y ∷ ys) x there passes = go (test y) refl there (λ rest. find_some test ys x rest passes)
  where
    go : (b : Bool) → test y ≡ b → Contains (y ∷ ys) x → (Contains ys x → IsSome (find test ys)) → IsSome (find test (y ∷ ys))
    go true e there later = rw e refl
    go false e (zero, lt, same) later = let yes_ : test y ≡ true = ap test same ∙ passes in absurd (cc (yes_, e))
    go false e (suc k, lt, same) later = rw e (later (k, omega (arith, lt), same))

some_front : (test : Page → Bool) (x : Page) (xs : List Page) → IsSome (find test xs) → IsSome (find test (x ∷ xs))
some_front test x xs some = go (test x) refl
  where
    go : (b : Bool) → test x ≡ b → IsSome (find test (x ∷ xs))
    go true e = rw e refl
    go false e = rw e some

-- a page that is there keeps being found
some_kept : (test : Page → Bool) (added : List NewPage) (pages : List Page) → IsSome (find test pages) → IsSome (find test (with_added added pages))
some_kept test [] pages some = some
some_kept test (a ∷ more) pages some =
    let p = empty_page a.space a.index a.at (first_of pages) in
    some_kept test more (p ∷ pages) (some_front test p pages some)

-- and so is a new one
some_new : (space : Space) (number : ℕ) (added : List NewPage) (pages : List Page) (a : NewPage) → Contains added a → a.space ≡ space → has_number a.index number ≡ true → IsSome (page_holding (with_added added pages) space number)
some_new space number [] pages a there same has = absurd (omega (arith, there.1))
some_new space number (b ∷ more) pages a (zero, lt, e) same has =
    let p = empty_page b.space b.index b.at (first_of pages) in
    let here : b.space ≡ space = ap (λ (x : NewPage). x.space) e ∙ same in
    let has_here : has_number b.index number ≡ true = ap (λ (x : NewPage). has_number x.index number) e ∙ has in
    let number_here : space_number b.space ≡ space_number space = ap space_number here in
    some_kept (holds space number) more (p ∷ pages) (find_some (holds space number) (p ∷ pages) p (0, omega arith, refl) (grind (arith, nat_tests, number_here, has_here)))
some_new space number (b ∷ more) pages a (suc k, lt, e) same has =
    some_new space number more (empty_page b.space b.index b.at (first_of pages) ∷ pages) a (k, omega (arith, lt), e) same has

-- the index of a number's page
its_index : (number : ℕ) → 1 ≤ number → has_number ((number - 1) / 126) number ≡ true
its_index number some = is_within ((number - 1) / 126) number (record { above = omega (arith, some); below = omega (arith, some) })

same_space : (a b : Space) → space_number a ≡ space_number b → a ≡ b
same_space Objects Objects e = refl
same_space Objects System e = absurd (omega (arith, e))
same_space System Objects e = absurd (omega (arith, e))
same_space System System e = refl

in_numbers : (space : Space) (ps : List Pointing) (k : ℕ) (d : Pointing) → k < length ps → (get_or ps k d).id.space ≡ space → Contains (numbers_in space ps) (get_or ps k d).id.number
in_numbers space [] k d lt same = absurd (omega (arith, lt))
in_numbers space (p ∷ ps) zero d lt same = subst (λ (l : List ℕ). Contains l p.id.number) (sym here) (0, omega arith, refl)
  where
    here : numbers_in space (p ∷ ps) ≡ p.id.number ∷ numbers_in space ps
    here = let e : space_number p.id.space ≡ space_number space = ap space_number same in let yes_ : (space_number p.id.space == space_number space) ≡ true = grind (arith, nat_tests, e) in rw yes_ refl
in_numbers space (p ∷ ps) (suc k) d lt same =
    Contains-append_right (if space_number p.id.space == space_number space then p.id.number ∷ [] else []) (numbers_in space ps) (get_or ps k d).id.number (in_numbers space ps k d (omega (arith, lt)) same)

module _ (pages : List Page) (ps : List Pointing) (objects system : List ℕ) (cells : List Cell) (added : List NewPage)
    (of_objects : AreAscending (IsMissing pages Objects (numbers_in Objects ps)) objects) (of_system : AreAscending (IsMissing pages System (numbers_in System ps)) system) (new : AreNew objects system cells added) where
  -- a page that is missing is among the new ones
  there_new : (space : Space) (index : ℕ) → IsMissing pages space (numbers_in space ps) index → (a : NewPage) × Contains added a × (key_of a ≡ (space, index))
  there_new space index is = contains_unmap key_of added (space, index) (subst (λ (l : List Key). Contains l (space, index)) (sym new.indexes) (among space is))
    where
      among : (space : Space) → IsMissing pages space (numbers_in space ps) index → Contains (map (key_in Objects) objects ++ map (key_in System) system) (space, index)
      among Objects is = Contains-append_left (map (key_in Objects) objects) (map (key_in System) system) (Objects, index) (contains_map (key_in Objects) objects index ((of_objects.exact index).1 is))
      among System is = Contains-append_right (map (key_in Objects) objects) (map (key_in System) system) (System, index) (contains_map (key_in System) system index ((of_system.exact index).1 is))

  pub held_new : All (λ p. (1 ≤ p.id.number) × (p.id.number ≤ 2147483646)) ps → AreHeld (with_added added pages) ps
  held_new numbers k d lt = by_page (page_of pages space index) refl
    where
      space : Space
      space = (get_or ps k d).id.space

      number : ℕ
      number = (get_or ps k d).id.number

      index : ℕ
      index = (number - 1) / 126

      has : has_number index number ≡ true
      has = its_index number (numbers k d lt).0

      by_page : (o : Option Page) → page_of pages space index ≡ o → IsSome (page_holding (with_added added pages) space number)
      by_page None e =
          let there = there_new space index (record { number = number; among = in_numbers space ps k d lt refl; has = has; none = e }) in
          some_new space number added pages there.0 there.1 (ap (λ (x : Key). x.0) there.2) (ap (λ (x : Key). has_number x.1 number) there.2 ∙ has)
      by_page (Some q) e =
          let found = found_is (is_page space index) pages q e in
          some_kept (holds space number) added pages (find_some (holds space number) pages q found.0 (held q found.1))
        where
          held : (q : Page) → is_page space index q ≡ true → holds space number q ≡ true
          held q yes_ =
              let same : space_number q.space ≡ space_number space = grind (arith, nat_tests, yes_) in
              let at : q.index ≡ index = grind (arith, nat_tests, yes_) in
              let there : has_number q.index number ≡ true = ap (λ i. has_number i number) at ∙ has in
              grind (arith, nat_tests, same, there)

-- ---- where they are put

places_len : (added : List NewPage) → map (λ c. c.len) (places_of added) ≡ replicate (length added) 1024
places_len [] = refl
places_len (a ∷ more) = ap (λ (l : List ℕ). 1024 ∷ l) (places_len more)

places_at : (added : List NewPage) → map (λ c. c.at) (places_of added) ≡ map (λ a. a.at) added
places_at [] = refl
places_at (a ∷ more) = ap (λ (l : List ℕ). a.at ∷ l) (places_at more)

same_cells : (xs ys : List Cell) → map (λ c. c.at) xs ≡ map (λ c. c.at) ys → map (λ c. c.len) xs ≡ map (λ c. c.len) ys → xs ≡ ys
same_cells [] [] ats lens = refl
same_cells [] (y ∷ ys) ats lens = let no_way : ◌≡◌ {A = List ℕ} [] (y.at ∷ map (λ c. c.at) ys) = ats in absurd (cc no_way)
same_cells (x ∷ xs) [] ats lens = let no_way : ◌≡◌ {A = List ℕ} (x.at ∷ map (λ c. c.at) xs) [] = ats in absurd (cc no_way)
same_cells (x ∷ xs) (y ∷ ys) ats lens =
    let firsts : ◌≡◌ {A = List ℕ} (x.at ∷ map (λ c. c.at) xs) (y.at ∷ map (λ c. c.at) ys) = ats in
    let lasts : ◌≡◌ {A = List ℕ} (x.len ∷ map (λ c. c.len) xs) (y.len ∷ map (λ c. c.len) ys) = lens in
    let at : x.at ≡ y.at = cc firsts in
    let len : x.len ≡ y.len = cc lasts in
    let rest = same_cells xs ys (cc firsts) (cc lasts) in
    λ i. record { at = at i; len = len i } ∷ rest i

module _ (objects system : List ℕ) (cells : List Cell) (added : List NewPage) (new : AreNew objects system cells added) where
  pub count_new : length added ≡ length objects + length system
  count_new =
      let long : length (map key_of added) ≡ length (map (key_in Objects) objects ++ map (key_in System) system) = ap length new.indexes in
      omega (arith, length-map added key_of, long, length-append (map (key_in Objects) objects) (map (key_in System) system), length-map objects (key_in Objects), length-map system (key_in System))

  pub places_new : (len : ℕ) → map (λ c. c.len) cells ≡ replicate (length objects + length system) 1024 ++ len ∷ [] → places_of added ≡ take (length added) cells
  places_new len lens = same_cells (places_of added) (take (length added) cells)
      (places_at added ∙ new.places ∙ take-map (λ c. c.at) (length added) cells)
      (places_len added
      ∙ sym (take_at (replicate (length added) 1024) (len ∷ []) (length added) (length-replicate (length added) 1024))
      ∙ ap (λ n. take (length added) (replicate n 1024 ++ len ∷ [])) count_new
      ∙ ap (take (length added)) (sym lens)
      ∙ take-map (λ c. c.len) (length added) cells)

-- ---- what they are counted as, and what they point to

pub things_new : (f : Cell → ℕ) (added : List NewPage) (pages : List Page) → sum_by f (things_of (with_added added pages)) ≡ sum_by f (places_of added) + sum_by f (things_of pages)
things_new f [] pages = omega arith
things_new f (a ∷ more) pages =
    let p = empty_page a.space a.index a.at (first_of pages) in
    let place : Cell = record { at = a.at; len = 1024 } in
    let one : sum_by f (things_of (p ∷ pages)) ≡ sum_by f (place ∷ things_of pages) = ap (sum_by f) (things_added a.space a.index a.at (first_of pages) pages) in
    omega (arith, things_new f more (p ∷ pages), one, sum_by-cons f place (things_of pages), sum_by-cons f place (places_of more))

pub pointers_new : (added : List NewPage) (pages : List Page) → AreMissing pages added → (space : Space) (number : ℕ) → pointer_of (with_added added pages) space number ≡ pointer_of pages space number
pointers_new [] pages missing space number = refl
pointers_new (a ∷ more) pages missing space number =
    pointers_new more (empty_page a.space a.index a.at (first_of pages) ∷ pages) (missing_front pages a more missing) space number
    ∙ pointer_added a.space space a.index a.at number (first_of pages) pages (missing.none 0 a (omega arith))

pub replaced_new : (added : List NewPage) (pages : List Page) (ps : List Pointing) → AreMissing pages added → replaced (with_added added pages) ps ≡ replaced pages ps
replaced_new added pages [] missing = refl
replaced_new added pages (p ∷ ps) missing = λ i. option_to_list (pointers_new added pages missing p.id.space p.id.number i) ++ replaced_new added pages ps missing i

-- ---- they have all their cells, and no two are of one space and index

pub cells_new : (added : List NewPage) (pages : List Page) → All (λ p. length p.cells ≡ 126) pages → All (λ p. length p.cells ≡ 126) (with_added added pages)
cells_new [] pages sizes = sizes
cells_new (a ∷ more) pages sizes = cells_new more (empty_page a.space a.index a.at (first_of pages) ∷ pages) (cells_added a.space a.index a.at (first_of pages) pages sizes)

pub others_new : (added : List NewPage) (pages : List Page) → AreMissing pages added → AllPairs IsOther pages → AllPairs IsOther (with_added added pages)
others_new [] pages missing others = others
others_new (a ∷ more) pages missing others = others_new more (p ∷ pages) (missing_front pages a more missing) both
  where
    p : Page
    p = empty_page a.space a.index a.at (first_of pages)

    both : AllPairs IsOther (empty_page a.space a.index a.at (first_of pages) ∷ pages)
    both i zero d lt inside = absurd (omega (arith, lt))
    both zero (suc j) d lt inside = nothing_found (is_page a.space a.index) pages (missing.none 0 a (omega arith)) j d (omega (arith, inside))
    both (suc i) (suc j) d lt inside = others i j d (omega (arith, lt)) (omega (arith, inside))

-- ---- they are in range

empty_in_range : (space : Space) (index at : ℕ) (link : Cell) → at ≤ 2147483647 → IsInRange (empty_page space index at link)
empty_in_range space index at link low = in_range_all (empty_page space index at link) low (λ j lt high. ap is_empty (no_cells 126 j))

cell_in_range : (space : Space) (number : ℕ) (cell : Cell) (p : Page) → number ≤ 2147483646 → IsInRange p → IsInRange (with_cell space number cell p)
cell_in_range space number cell p low is = elim (cases_Bool (holds space number p)) [
  | inr no_ ↦ subst IsInRange (sym (with_other space number cell p no_)) is
  | inl yes_ ↦ subst IsInRange (sym (with_held space number cell p yes_)) (record { address = is.address; numbers = named (grind (arith, yes_)) })
]
  where
    named : has_number p.index number ≡ true → (other : ℕ) → has_number p.index other ≡ true → is_empty (get_or (set p.cells (slot_in p number) cell) (slot_in p other) no_cell) ≡ false → other ≤ 2147483646
    named has other has_other some = elim (cases_eq (slot_in p other) (slot_in p number)) [
      | inl same ↦
          let a = within_is p.index number has in
          let b = within_is p.index other has_other in
          let e : other ≡ number = omega (arith, same, a.above, b.above) in
          omega (arith, e, low)
      | inr away ↦ is.numbers other has_other (ap is_empty (sym (get_or-set_other p.cells (slot_in p number) (slot_in p other) cell no_cell away)) ∙ some)
    ]

ranges_added : (added : List NewPage) (pages : List Page) → All IsInRange pages → All (λ a. a.at ≤ 2147483647) added → All IsInRange (with_added added pages)
ranges_added [] pages ranges low = ranges
ranges_added (a ∷ more) pages ranges low =
    let p = empty_page a.space a.index a.at (first_of pages) in
    ranges_added more (p ∷ pages) (All-cons IsInRange p pages (empty_in_range a.space a.index a.at (first_of pages) (low 0 a (omega arith))) ranges) (All-tail (λ (x : NewPage). x.at ≤ 2147483647) a more low)

ranges_set : (ps : List Pointing) (pages : List Page) → All IsInRange pages → All (λ p. (1 ≤ p.id.number) × (p.id.number ≤ 2147483646)) ps → All IsInRange (set_all ps pages)
ranges_set [] pages ranges numbers = ranges
ranges_set (p ∷ ps) pages ranges numbers =
    ranges_set ps (with_pointer p.id.space p.id.number p.cell pages)
    (All-map IsInRange (with_cell p.id.space p.id.number p.cell) pages (λ k d lt. cell_in_range p.id.space p.id.number p.cell (get_or pages k d) (numbers 0 p (omega arith)).1 (ranges k d lt)))
    (All-tail (λ (x : Pointing). (1 ≤ x.id.number) × (x.id.number ≤ 2147483646)) p ps numbers)

pub ranges_new : (ps : List Pointing) (added : List NewPage) (pages : List Page) → All IsInRange pages → All (λ a. a.at ≤ 2147483647) added → All (λ p. (1 ≤ p.id.number) × (p.id.number ≤ 2147483646)) ps → All IsInRange (set_all ps (with_added added pages))
ranges_new ps added pages ranges low numbers = ranges_set ps (with_added added pages) (ranges_added added pages ranges low) numbers

-- ---- where the cells are put

-- the eight bytes from here on are those of a cell of one of the pages
abbrev pub IsInPage : ℕ → List Page → ℕ → Type 0
IsInPage unit pages target = (p : Page) × Contains pages p × (p.at * unit + 16 ≤ target) × (target + 8 ≤ p.at * unit + 1024)

-- a number's cell stands in the page that holds it
target_in : (unit : ℕ) (pages : List Page) (space : Space) (number target : ℕ) → target_of unit pages space number ≡ Some target → IsInPage unit pages target
target_in unit pages space number target e = go (page_holding pages space number) refl e
  where
    go : (o : Option Page) → page_holding pages space number ≡ o → option_map (λ (p : Page). p.at * unit + 16 + 8 * slot_in p number) o ≡ Some target → IsInPage unit pages target
    go None found is = absurd (cc is)
    go (Some p) found is =
        let there = found_is (holds space number) pages p found in
        let w = within_is p.index number (grind (arith, there.1)) in
        let value : p.at * unit + 16 + 8 * slot_in p number ≡ target = cc is in
        (p, there.0, omega (arith, value), omega (arith, value, w.above, w.below))

-- each cell that the log puts in lies in one of the pages
pub writes_within : (unit : ℕ) (old : List Page) (ps : List Pointing) → AreAt unit old ps → All (λ w. IsInPage unit old w.target) (writes_of ps)
writes_within unit old [] stand = All-nil (λ (w : CellWrite). IsInPage unit old w.target)
writes_within unit old (p ∷ ps) stand =
    All-append (λ (w : CellWrite). IsInPage unit old w.target) (option_to_list (write_of p)) (writes_of ps)
    (one p.target (stand 0 p (omega arith)))
    (writes_within unit old ps (All-tail (λ (x : Pointing). target_of unit old x.id.space x.id.number ≡ x.target) p ps stand))
  where
    one : (t : Option ℕ) → target_of unit old p.id.space p.id.number ≡ t → All (λ (w : CellWrite). IsInPage unit old w.target) (option_to_list (option_map (λ target. record { target = target; cell = p.cell }) t))
    one None e = All-nil (λ (w : CellWrite). IsInPage unit old w.target)
    one (Some target) e = All-cons (λ (w : CellWrite). IsInPage unit old w.target) (record { target = target; cell = p.cell }) [] (target_in unit old p.id.space p.id.number target e) (All-nil (λ (w : CellWrite). IsInPage unit old w.target))

all_within : (len : ℕ) (ws : List CellWrite) → All (λ w. w.target + 8 ≤ len) ws → AllWithin len ws
all_within len [] all = tt
all_within len (w ∷ ws) all = (all 0 w (omega arith), all_within len ws (All-tail (λ (x : CellWrite). x.target + 8 ≤ len) w ws all))

-- so none touches what is apart from all pages
pub writes_clear : (unit : ℕ) (old : List Page) (ps : List Pointing) (at n : ℕ) → AreAt unit old ps → All (λ p. (p.at * unit + 1024 ≤ at) ⊎ (at + n ≤ p.at * unit)) old → AllClear at n (writes_of ps)
writes_clear unit old ps at n stand away = all_clear at n (writes_of ps) (λ k d lt.
    let there = writes_within unit old ps stand k d lt in
    elim (All-contains (λ (p : Page). (p.at * unit + 1024 ≤ at) ⊎ (at + n ≤ p.at * unit)) old there.0 away there.1) [
      | inl before ↦ inl (omega (arith, before, there.3))
      | inr after ↦ inr (omega (arith, after, there.2))
    ])

-- and each lies in a file that has the pages
pub writes_inside : (unit len : ℕ) (old : List Page) (ps : List Pointing) → AreAt unit old ps → All (λ p. p.at * unit + 1024 ≤ len) old → AllWithin len (writes_of ps)
writes_inside unit len old ps stand inside = all_within len (writes_of ps) (λ k d lt.
    let there = writes_within unit old ps stand k d lt in
    let end = All-contains (λ (p : Page). p.at * unit + 1024 ≤ len) old there.0 inside there.1 in
    omega (arith, end, there.3))

-- ---- the log's writes

root_count : (h : Header) (added : List NewPage) → length (root_writes h added) ≡ (if length added == 0 then 0 else 1)
root_count h [] = refl
root_count h (a ∷ []) = refl
root_count h (a ∷ b ∷ bs) =
    let one : (length (b ∷ bs) == 0) ≡ false = grind (arith, nat_tests) in
    let two : (length (a ∷ b ∷ bs) == 0) ≡ false = grind (arith, nat_tests) in
    root_count h (b ∷ bs) ∙ rw (one, two) refl

pub writes_len : (h : Header) (added : List NewPage) (ps : List Pointing) → length (root_writes h added ++ writes_of ps) ≡ (if length added == 0 then 0 else 1) + length (writes_of ps)
writes_len h added ps = length-append (root_writes h added) (writes_of ps) ∙ ap (λ n. n + length (writes_of ps)) (root_count h added)

pub root_is : (h : Header) (added : List NewPage) (pages : List Page) → 1 ≤ length added → root_writes h added ≡ record { target = root_place h; cell = first_of (with_added added pages) } ∷ []
root_is h [] pages some = absurd (omega (arith, some))
root_is h (a ∷ []) pages some = refl
root_is h (a ∷ b ∷ bs) pages some = root_is h (b ∷ bs) (empty_page a.space a.index a.at (first_of pages) ∷ pages) (omega arith)

-- ---- a page with its pointers

-- the page with these cells, one after another
abbrev pub with_pointings : List Pointing → Page → Page
with_pointings [] q = q
with_pointings (p ∷ ps) q = with_pointings ps (with_cell p.id.space p.id.number p.cell q)

pub set_front : (ps : List Pointing) (q : Page) (pages : List Page) → set_all ps (q ∷ pages) ≡ with_pointings ps q ∷ set_all ps pages
set_front [] q pages = refl
set_front (p ∷ ps) q pages = set_front ps (with_cell p.id.space p.id.number p.cell q) (with_pointer p.id.space p.id.number p.cell pages)

-- its place, what it is and where it leads
abbrev pub face : Page → Page
face q = record q { cells = [] }

face_cell : (space : Space) (number : ℕ) (cell : Cell) (q : Page) → face (with_cell space number cell q) ≡ face q
face_cell space number cell q = elim (cases_Bool (holds space number q)) [
  | inl yes_ ↦ ap face (with_held space number cell q yes_)
  | inr no_ ↦ ap face (with_other space number cell q no_)
]

pub face_stays : (ps : List Pointing) (q : Page) → face (with_pointings ps q) ≡ face q
face_stays [] q = refl
face_stays (p ∷ ps) q = face_stays ps (with_cell p.id.space p.id.number p.cell q) ∙ face_cell p.id.space p.id.number p.cell q

-- ---- the page of a space and index

page_cell : (space : Space) (number : ℕ) (cell : Cell) (pages : List Page) (other : Space) (index : ℕ) → page_of (with_pointer space number cell pages) other index ≡ option_map (with_cell space number cell) (page_of pages other index)
page_cell space number cell [] other index = refl
page_cell space number cell (q ∷ qs) other index =
    let same : is_page other index (with_cell space number cell q) ≡ is_page other index q = ap (is_page other index) (face_cell space number cell q) in
    let rest = page_cell space number cell qs other index in
    elim (cases_Bool (is_page other index q)) [
      | inl yes_ ↦ grind (arith, yes_, same)
      | inr no_ ↦ grind (arith, no_, same, rest)
    ]

pub page_pointed : (ps : List Pointing) (pages : List Page) (space : Space) (index : ℕ) → page_of (set_all ps pages) space index ≡ option_map (with_pointings ps) (page_of pages space index)
page_pointed [] pages space index = whole (page_of pages space index)
  where
    whole : (o : Option Page) → o ≡ option_map (with_pointings []) o
    whole None = refl
    whole (Some q) = refl
page_pointed (p ∷ ps) pages space index =
    page_pointed ps (with_pointer p.id.space p.id.number p.cell pages) space index
    ∙ ap (option_map (with_pointings ps)) (page_cell p.id.space p.id.number p.cell pages space index)
    ∙ both (page_of pages space index)
  where
    both : (o : Option Page) → option_map (with_pointings ps) (option_map (with_cell p.id.space p.id.number p.cell) o) ≡ option_map (with_pointings (p ∷ ps)) o
    both None = refl
    both (Some q) = refl

-- pages of other spaces and indexes don't hide it
page_behind : (more : List NewPage) (pages : List Page) (space : Space) (index : ℕ) → All (λ b. ((space_number b.space == space_number space) && (b.index == index)) ≡ false) more → page_of (with_added more pages) space index ≡ page_of pages space index
page_behind [] pages space index others = refl
page_behind (b ∷ more) pages space index others =
    let p = empty_page b.space b.index b.at (first_of pages) in
    page_behind more (p ∷ pages) space index (All-tail (λ (x : NewPage). ((space_number x.space == space_number space) && (x.index == index)) ≡ false) b more others)
    ∙ page_skips p pages space index (others 0 b (omega arith))

key_flips : (a b : NewPage) → AreTwo (key_of a) (key_of b) → AreTwo (key_of b) (key_of a)
key_flips a b two = elim (cases_Bool ((space_number b.space == space_number a.space) && (b.index == a.index))) [
  | inr no_ ↦ no_
  | inl yes_ ↦ grind (arith, nat_tests, two, yes_)
]

-- a new page, as it is in the end
pub page_then : (ps : List Pointing) (a : NewPage) (more : List NewPage) (pages : List Page) → AreMissing pages (a ∷ more)
    → page_of (set_all ps (with_added (a ∷ more) pages)) a.space a.index ≡ Some (with_pointings ps (empty_page a.space a.index a.at (first_of pages)))
page_then ps a more pages missing =
    page_pointed ps (with_added (a ∷ more) pages) a.space a.index
    ∙ ap (option_map (with_pointings ps)) (page_behind more (p ∷ pages) a.space a.index (λ k d lt. key_flips a (get_or more k d) (missing.distinct 0 (suc k) d (omega arith) (omega (arith, lt)))) ∙ here)
  where
    p : Page
    p = empty_page a.space a.index a.at (first_of pages)

    here : page_of (empty_page a.space a.index a.at (first_of pages) ∷ pages) a.space a.index ≡ Some (empty_page a.space a.index a.at (first_of pages))
    here = let yes_ : is_page a.space a.index (empty_page a.space a.index a.at (first_of pages)) ≡ true = grind (arith, nat_tests) in rw yes_ refl

-- ---- the chain

-- the page of this space and index stands in the image, whole
abbrev pub StandsWhole : ℕ → List ℕ → List Page → NewPage → Type 0
StandsWhole unit image pages a = (q : Page) × (page_of pages a.space a.index ≡ Some q) × (a.at * unit + 1024 ≤ length image) × SpellsPage q (page_at unit image a.at)

pages_inside : (unit : ℕ) (image : List ℕ) (root : Cell) (pages : List Page) (next : Cell) → Leads unit image root pages next → All (λ p. p.at * unit + 1024 ≤ length image) pages
pages_inside unit image root [] next leads = All-nil (λ (p : Page). p.at * unit + 1024 ≤ length image)
pages_inside unit image root (p ∷ ps) next leads = All-cons (λ (x : Page). x.at * unit + 1024 ≤ length image) p ps leads.0.inside (pages_inside unit image p.link ps next leads.1)

module _ (unit : ℕ) (image : List ℕ) (ps : List Pointing) (within : AllWithin (length image) (writes_of ps)) where
  -- a page that no cell touches
  page_stays : (at : ℕ) → at * unit + 1024 ≤ length image → AllClear (at * unit) 1024 (writes_of ps) → page_at unit (put_cells (writes_of ps) image) at ≡ page_at unit image at
  page_stays at inside clear =
      slice_same (at * unit) 1024 image (put_cells (writes_of ps) image) inside (omega (arith, inside, length-put (writes_of ps) image within))
      (λ k ge lt. put_out (writes_of ps) image k within (clear_of (at * unit) 1024 k (writes_of ps) clear ge lt))

  stands_then : (p q : Page) → face q ≡ face p → p.at * unit + 1024 ≤ length image → SpellsPage q (page_at unit image p.at) → AllClear (p.at * unit) 1024 (writes_of ps)
      → StandsAt unit (put_cells (writes_of ps) image) (place_of p) q
  stands_then p q same inside spells clear =
      let at : q.at ≡ p.at = ap (λ (x : Page). x.at) same in
      record {
        place = ap (λ n. record { at = n; len = 1024 }) (sym at);
        inside = subst (λ n. n * unit + 1024 ≤ length (put_cells (writes_of ps) image)) (sym at) (omega (arith, inside, length-put (writes_of ps) image within));
        reads = subst (λ n. ReadsAs q (page_at unit (put_cells (writes_of ps) image) n)) (sym at) (subst (ReadsAs q) (sym (page_stays p.at inside clear)) (page_again q (page_at unit image p.at) spells));
      }

  chain_on : (added : List NewPage) (pages : List Page) → AreMissing pages added → All (StandsWhole unit image (set_all ps (with_added added pages))) added → All (λ a. AllClear (a.at * unit) 1024 (writes_of ps)) added
      → Chain unit (put_cells (writes_of ps) image) (first_of pages) (set_all ps pages) → Chain unit (put_cells (writes_of ps) image) (first_of (with_added added pages)) (set_all ps (with_added added pages))
  chain_on [] pages missing written clear chain = chain
  chain_on (a ∷ more) pages missing written clear chain =
      let p = empty_page a.space a.index a.at (first_of pages) in
      let q = with_pointings ps p in
      let w = written 0 a (omega arith) in
      let both : ◌≡◌ {A = Option Page} (Some w.0) (Some q) = sym w.1 ∙ page_then ps a more pages missing in
      let same : w.0 ≡ q = cc both in
      let stands = stands_then p q (face_stays ps p) w.2 (subst (λ (x : Page). SpellsPage x (page_at unit image a.at)) same w.3) (clear 0 a (omega arith)) in
      let link : q.link ≡ first_of pages = ap (λ (x : Page). x.link) (face_stays ps p) in
      let front : Chain unit (put_cells (writes_of ps) image) (place_of p) (q ∷ set_all ps pages) = (stands, subst (λ (c : Cell). Chain unit (put_cells (writes_of ps) image) c (set_all ps pages)) (sym link) chain) in
      chain_on more (p ∷ pages) (missing_front pages a more missing) (All-tail (StandsWhole unit image (set_all ps (with_added (a ∷ more) pages))) a more written) (All-tail (λ (x : NewPage). AllClear (x.at * unit) 1024 (writes_of ps)) a more clear)
      (subst (λ (l : List Page). Chain unit (put_cells (writes_of ps) image) (place_of p) l) (sym (set_front ps p pages)) front)

-- where the new pages stand in the file as they are in the end, and the cells are put into the others, the chain leads along all of them
pub chain_new : (unit : ℕ) (image : List ℕ) (old : List Page) (added : List NewPage) (ps : List Pointing) → Chain unit image (first_of old) old → AllPairs IsOther old → AllPairs (AreApart unit) old → AreMissing old added
    → AreAt unit old ps → All (λ p. FitsCell p.cell) ps → All (StandsWhole unit image (set_all ps (with_added added old))) added → All (λ a. AllClear (a.at * unit) 1024 (writes_of ps)) added
    → Chain unit (put_cells (writes_of ps) image) (first_of (with_added added old)) (set_all ps (with_added added old))
chain_new unit image old added ps chain others apart missing stand fits written clear =
    chain_on unit image ps (writes_inside unit (length image) old ps stand (pages_inside unit image (first_of old) old no_cell chain)) added old missing written clear
    (chain_all unit image (first_of old) old ps chain others apart stand fits)

-- ---- no cell touches a new page

pub pairs_old : (R : Page → Page → Type 0) (added : List NewPage) (pages : List Page) → AllPairs R (with_added added pages) → AllPairs R pages
pairs_old R [] pages pairs = pairs
pairs_old R (a ∷ more) pages pairs =
    let rest = pairs_old R more (empty_page a.space a.index a.at (first_of pages) ∷ pages) pairs in
    λ i j d lt inside. rest (suc i) (suc j) d (omega (arith, lt)) (omega (arith, inside))

apart_old : (unit : ℕ) (added : List NewPage) (pages : List Page) → AllPairs (AreApart unit) (with_added added pages) → All (λ a. All (λ p. (p.at * unit + 1024 ≤ a.at * unit) ⊎ (a.at * unit + 1024 ≤ p.at * unit)) pages) added
apart_old unit [] pages apart = All-nil (λ (a : NewPage). All (λ p. (p.at * unit + 1024 ≤ a.at * unit) ⊎ (a.at * unit + 1024 ≤ p.at * unit)) pages)
apart_old unit (a ∷ more) pages apart =
    let p = empty_page a.space a.index a.at (first_of pages) in
    let here = pairs_old (AreApart unit) more (p ∷ pages) apart in
    let rest = apart_old unit more (p ∷ pages) apart in
    All-cons (λ (x : NewPage). All (λ q. (q.at * unit + 1024 ≤ x.at * unit) ⊎ (x.at * unit + 1024 ≤ q.at * unit)) pages) a more
    (λ k d lt. elim (here 0 (suc k) d (omega arith) (omega (arith, lt))) [ inl before ↦ inr before | inr after ↦ inl after ])
    (λ k d lt. All-tail (λ (q : Page). (q.at * unit + 1024 ≤ (get_or more k d).at * unit) ⊎ ((get_or more k d).at * unit + 1024 ≤ q.at * unit)) p pages (rest k d lt))

-- as they are apart from the others
pub clear_new : (unit : ℕ) (old : List Page) (added : List NewPage) (ps : List Pointing) → AreAt unit old ps → AllPairs (AreApart unit) (with_added added old) → All (λ a. AllClear (a.at * unit) 1024 (writes_of ps)) added
clear_new unit old added ps stand apart k d lt = writes_clear unit old ps ((get_or added k d).at * unit) 1024 stand (apart_old unit added old apart k d lt)

-- ---- all of it together

-- the pages with the new ones and the pointers, and the places that they name
module _ (old : List Page) (added : List NewPage) (ps : List Pointing) (missing : AreMissing old added) (held : AreHeld (with_added added old) ps) (distinct : AreDistinct ps) (sizes : All (λ p. length p.cells ≡ 126) old) where
  pub pointers_then : (id : SlotId) → pointer_of (set_all ps (with_added added old)) id.space id.number ≡ pointed_place ps id (pointer_of old id.space id.number)
  pointers_then id = pointers_all ps (with_added added old) id (cells_new added old sizes) held distinct ∙ ap (pointed_place ps id) (pointers_new added old missing id.space id.number)

  pub things_then : (f : Cell → ℕ) → AllPairs IsOther old → sum_by f (things_of (set_all ps (with_added added old))) + sum_by f (replaced old ps) ≡ sum_by f (places_of added) + sum_by f (things_of old) + sum_by f (cells_in ps)
  things_then f others =
      let all = things_all f ps (with_added added old) (cells_new added old sizes) (others_new added old missing others) held distinct in
      let same : sum_by f (replaced (with_added added old) ps) ≡ sum_by f (replaced old ps) = ap (sum_by f) (replaced_new added old ps missing) in
      omega (arith, all, same, things_new f added old)

pub pages_then : (unit : ℕ) (image : List ℕ) (old : List Page) (added : List NewPage) (ps : List Pointing) → HasPages unit image (first_of old) old → AllPairs (AreApart unit) old → AreMissing old added
    → All (λ a. a.at ≤ 2147483647) added → All (λ p. (1 ≤ p.id.number) × (p.id.number ≤ 2147483646)) ps → AreAt unit old ps → All (λ p. FitsCell p.cell) ps
    → All (StandsWhole unit image (set_all ps (with_added added old))) added → All (λ a. AllClear (a.at * unit) 1024 (writes_of ps)) added
    → HasPages unit (put_cells (writes_of ps) image) (first_of (with_added added old)) (set_all ps (with_added added old))
pages_then unit image old added ps has apart missing low numbers stand fits written clear = record {
  chain = chain_new unit image old added ps has.chain has.distinct apart missing stand fits written clear;
  in_range = ranges_new ps added old has.in_range low numbers;
  distinct = distinct_all ps (with_added added old) (others_new added old missing has.distinct);
}

-- ---- each cell is one of the pages then

target_pointed : (unit : ℕ) (ps : List Pointing) (pages : List Page) (space : Space) (number : ℕ) → target_of unit (set_all ps pages) space number ≡ target_of unit pages space number
target_pointed unit [] pages space number = refl
target_pointed unit (p ∷ ps) pages space number =
    target_pointed unit ps (with_pointer p.id.space p.id.number p.cell pages) space number ∙ target_set unit p.id.space space p.id.number number p.cell pages

-- a page in front of the one that holds the number doesn't hold it
held_behind : (space : Space) (index at : ℕ) (link : Cell) (pages : List Page) (other : Space) (number : ℕ) (q : Page) → page_of pages space index ≡ None → page_holding pages other number ≡ Some q
    → page_holding (empty_page space index at link ∷ pages) other number ≡ Some q
held_behind space index at link pages other number q none some = elim (cases_Bool (holds other number (empty_page space index at link))) [
  | inr no_ ↦ rw no_ some
  | inl yes_ ↦
      let found = found_is (holds other number) pages q some in
      let away : is_page space index q ≡ false = All-contains (λ (x : Page). is_page space index x ≡ false) pages q (nothing_found (is_page space index) pages none) found.0 in
      absurd (clash away found.1 yes_)
]
  where
    clash : is_page space index q ≡ false → holds other number q ≡ true → holds other number (empty_page space index at link) ≡ true → ⊥
    clash away one two = grind (arith, nat_tests, away, one, two)

held_then : (added : List NewPage) (pages : List Page) (space : Space) (number : ℕ) (q : Page) → AreMissing pages added → page_holding pages space number ≡ Some q → page_holding (with_added added pages) space number ≡ Some q
held_then [] pages space number q missing some = some
held_then (a ∷ more) pages space number q missing some =
    held_then more (empty_page a.space a.index a.at (first_of pages) ∷ pages) space number q (missing_front pages a more missing) (held_behind a.space a.index a.at (first_of pages) pages space number q (missing.none 0 a (omega arith)) some)

-- where a number's cell stands it stands with the new pages too
pub target_then : (unit : ℕ) (added : List NewPage) (ps : List Pointing) (pages : List Page) (space : Space) (number target : ℕ) → AreMissing pages added → target_of unit pages space number ≡ Some target
    → target_of unit (set_all ps (with_added added pages)) space number ≡ Some target
target_then unit added ps pages space number target missing e = target_pointed unit ps (with_added added pages) space number ∙ by_holder (page_holding pages space number) refl
  where
    by_holder : (o : Option Page) → page_holding pages space number ≡ o → target_of unit (with_added added pages) space number ≡ Some target
    by_holder None none = let no_way : ◌≡◌ {A = Option ℕ} None (Some target) = ap (option_map (λ (p : Page). p.at * unit + 16 + 8 * slot_in p number)) (sym none) ∙ e in absurd (cc no_way)
    by_holder (Some q) some =
        ap (option_map (λ (p : Page). p.at * unit + 16 + 8 * slot_in p number)) (held_then added pages space number q missing some)
        ∙ ap (option_map (λ (p : Page). p.at * unit + 16 + 8 * slot_in p number)) (sym some) ∙ e

root_targets : (h : Header) (added : List NewPage) (pages : List Page) → All (λ w. IsTarget h pages w.target) (root_writes h added)
root_targets h [] pages = All-nil (λ (w : CellWrite). IsTarget h pages w.target)
root_targets h (a ∷ []) pages = All-cons (λ (w : CellWrite). IsTarget h pages w.target) (record { target = root_place h; cell = record { at = a.at; len = 1024 } }) [] (inl refl) (All-nil (λ (w : CellWrite). IsTarget h pages w.target))
root_targets h (a ∷ b ∷ bs) pages = root_targets h (b ∷ bs) pages

cell_targets : (h : Header) (old pages : List Page) (ps : List Pointing) → ((space : Space) (number target : ℕ) → target_of (unit_of h) old space number ≡ Some target → target_of (unit_of h) pages space number ≡ Some target)
    → AreAt (unit_of h) old ps → All (λ w. IsTarget h pages w.target) (writes_of ps)
cell_targets h old pages [] same stand = All-nil (λ (w : CellWrite). IsTarget h pages w.target)
cell_targets h old pages (p ∷ ps) same stand =
    All-append (λ (w : CellWrite). IsTarget h pages w.target) (option_to_list (write_of p)) (writes_of ps)
    (one p.target (stand 0 p (omega arith)))
    (cell_targets h old pages ps same (All-tail (λ (x : Pointing). target_of (unit_of h) old x.id.space x.id.number ≡ x.target) p ps stand))
  where
    one : (t : Option ℕ) → target_of (unit_of h) old p.id.space p.id.number ≡ t → All (λ (w : CellWrite). IsTarget h pages w.target) (option_to_list (option_map (λ target. record { target = target; cell = p.cell }) t))
    one None e = All-nil (λ (w : CellWrite). IsTarget h pages w.target)
    one (Some target) e = All-cons (λ (w : CellWrite). IsTarget h pages w.target) (record { target = target; cell = p.cell }) [] (inr (p.id.space, p.id.number, same p.id.space p.id.number target e)) (All-nil (λ (w : CellWrite). IsTarget h pages w.target))

pub targets_new : (h : Header) (old : List Page) (added : List NewPage) (ps : List Pointing) → AreMissing old added → AreAt (unit_of h) old ps
    → All (λ w. IsTarget h (set_all ps (with_added added old)) w.target) (root_writes h added ++ writes_of ps)
targets_new h old added ps missing stand =
    All-append (λ (w : CellWrite). IsTarget h (set_all ps (with_added added old)) w.target) (root_writes h added) (writes_of ps)
    (root_targets h added (set_all ps (with_added added old)))
    (cell_targets h old (set_all ps (with_added added old)) ps (λ space number target e. target_then (unit_of h) added ps old space number target missing e) stand)

-- ---- the root cell first

pub put_both : (xs ys : List CellWrite) (b : List ℕ) → put_cells (xs ++ ys) b ≡ put_cells ys (put_cells xs b)
put_both [] ys b = refl
put_both (x ∷ xs) ys b = put_both xs ys (over x.target (cell_bytes x.cell) b)
