-- Cells that are put into pages one after another, in memory and in a file.
use Rattle.std.proofs.Common.{◌≡◌, ◌∙◌, inl, inr, ℕ, suc, ◌+◌, ◌*◌, ◌<◌, Bool, true, false, List, [], ◌∷◌, ◌++◌, length, get_or, Option, Some, None, sym, ap, subst, refl, arith}
use Rattle.std.specs.Prelude.{All, AllPairs, IsSome, sum_by, if◌then◌else◌}
use Rattle.std.specs.Option.{option_map, option_to_list}
use Rattle.std.proofs.lemmas.Bool.{cases_Bool}
use Rattle.std.proofs.lemmas.List.Sums.{sum_by-append}
use Rattle.std.proofs.lemmas.List.{get_or-map, length-map}
use Rattle.oc_layout.specs.declared.cells.Space.{Space}
use Rattle.oc_layout.specs.declared.cells.Space.TheVariants.{Objects, System}
use Rattle.oc_layout.specs.declared.cells.Cell.{Cell}
use Rattle.oc_layout.specs.Layout.{FitsCell, cell_bytes}
use Rattle.oc_host.specs.Disk.{over}
use Rattle.oc_log.specs.Log.{put_cells}
use Rattle.oc_pages.specs.declared.page.Page.{Page}
use Rattle.oc_pages.specs.Pages.{holds, slot_in, with_cell, with_pointer, target_of, pointer_in, pointer_of, page_holding, things_of, is_page, IsOther, space_number}
use Rattle.oc_pages.specs.Chains.{Chain, AreApart}
use Rattle.oc_pages.proofs.Changes.{with_held, with_other}
use Rattle.oc_pages.proofs.ChainLaws.{chain_set, with_none}
use Rattle.oc_pages.proofs.Lookups.{nothing_found}
use Rattle.oc_pages.proofs.PointerLaws.{HasCells, target_set, cells_kept, holder_set, pointer_set_here, pointer_set_other, things_set}
use Rattle.oc_slots.specs.declared.turnover.Pointing.{Pointing}
use Rattle.oc_slots.specs.Pointings.{set_all, writes_of, AreAt, AreHeld, AreDistinct, pointed_place, cells_in, replaced}
use Rattle.oc_slots.specs.declared.slot.SlotId.{SlotId}
use Rattle.oc_slots.specs.Maps.{is_same}
use Rattle.oc_slots.proofs.Things.{tail_of}
use Rattle.oc_slots.proofs.SameSlots.{is_true, same_true, clash}

-- where a page is, and which, stays
same_page : (p : Pointing) (q : Page) → ((with_cell p.id.space p.id.number p.cell q).at ≡ q.at) × ((with_cell p.id.space p.id.number p.cell q).space ≡ q.space) × ((with_cell p.id.space p.id.number p.cell q).index ≡ q.index)
same_page p q = elim (cases_Bool (holds p.id.space p.id.number q)) [
  | inl yes_ ↦ let is = with_held p.id.space p.id.number p.cell q yes_ in (ap (λ (x : Page). x.at) is, ap (λ (x : Page). x.space) is, ap (λ (x : Page). x.index) is)
  | inr no_ ↦ let is = with_other p.id.space p.id.number p.cell q no_ in (ap (λ (x : Page). x.at) is, ap (λ (x : Page). x.space) is, ap (λ (x : Page). x.index) is)
]

pub distinct_set : (p : Pointing) (pages : List Page) → AllPairs IsOther pages → AllPairs IsOther (with_pointer p.id.space p.id.number p.cell pages)
distinct_set p pages distinct i j d lt inside =
    let n : j < length pages = omega (arith, inside, length-map pages (with_cell p.id.space p.id.number p.cell)) in
    let one = get_or-map (with_cell p.id.space p.id.number p.cell) pages i d d (omega (arith, lt, n)) in
    let two = get_or-map (with_cell p.id.space p.id.number p.cell) pages j d d n in
    let a = same_page p (get_or pages i d) in
    let b = same_page p (get_or pages j d) in
    (λ k. IsOther_value (one k) (two k)) ∙ (λ k. is_page (a.1 k) (a.2 k) (record (with_cell p.id.space p.id.number p.cell (get_or pages j d)) { space = b.1 k; index = b.2 k })) ∙ distinct i j d lt n
  where
    IsOther_value : Page → Page → Bool
    IsOther_value x y = is_page x.space x.index y

pub apart_set : (unit : ℕ) (p : Pointing) (pages : List Page) → AllPairs (AreApart unit) pages → AllPairs (AreApart unit) (with_pointer p.id.space p.id.number p.cell pages)
apart_set unit p pages apart i j d lt inside =
    let n : j < length pages = omega (arith, inside, length-map pages (with_cell p.id.space p.id.number p.cell)) in
    let one = get_or-map (with_cell p.id.space p.id.number p.cell) pages i d d (omega (arith, lt, n)) in
    let two = get_or-map (with_cell p.id.space p.id.number p.cell) pages j d d n in
    let a = ap (λ (x : Page). x.at) one ∙ (same_page p (get_or pages i d)).0 in
    let b = ap (λ (x : Page). x.at) two ∙ (same_page p (get_or pages j d)).0 in
    elim (apart i j d lt n) [ inl before ↦ inl (omega (arith, before, ap (λ n. n * unit) a, ap (λ n. n * unit) b)) | inr after ↦ inr (omega (arith, after, ap (λ n. n * unit) a, ap (λ n. n * unit) b)) ]

pub at_set : (unit : ℕ) (p : Pointing) (pages : List Page) (ps : List Pointing) → AreAt unit pages ps → AreAt unit (with_pointer p.id.space p.id.number p.cell pages) ps
at_set unit p pages ps at k d lt = target_set unit p.id.space (get_or ps k d).id.space p.id.number (get_or ps k d).id.number p.cell pages ∙ at k d lt

-- where no page holds the number the pages stay as they are
unheld : (unit : ℕ) (space : Space) (number : ℕ) (cell : Cell) (pages : List Page) → target_of unit pages space number ≡ None → with_pointer space number cell pages ≡ pages
unheld unit space number cell pages none = by_holder (page_holding pages space number) refl
  where
    by_holder : (o : Option Page) → page_holding pages space number ≡ o → with_pointer space number cell pages ≡ pages
    by_holder None e = with_none space number cell pages (nothing_found (holds space number) pages e)
    by_holder (Some q) e =
        let no_way : ◌≡◌ {A = Option ℕ} (Some (q.at * unit + 16 + 8 * slot_in q number)) None = ap (option_map (λ (x : Page). x.at * unit + 16 + 8 * slot_in x number)) (sym e) ∙ none in
        absurd (cc no_way)

-- the file with this cell, if it has a target, and those of the others
abbrev put_at : Cell → List Pointing → List ℕ → Option ℕ → List ℕ
put_at cell ps image t = put_cells (option_to_list (option_map (λ target. record { target = target; cell = cell }) t) ++ writes_of ps) image

-- the chain of a file into which the cells are put is that of the pages with them
pub chain_all : (unit : ℕ) (image : List ℕ) (root : Cell) (pages : List Page) (ps : List Pointing) → Chain unit image root pages → AllPairs IsOther pages → AllPairs (AreApart unit) pages → AreAt unit pages ps → All (λ p. FitsCell p.cell) ps
    → Chain unit (put_cells (writes_of ps) image) root (set_all ps pages)
chain_all unit image root pages [] chain distinct apart at fits = chain
chain_all unit image root pages (p ∷ ps) chain distinct apart at fits =
    let next = with_pointer p.id.space p.id.number p.cell pages in
    by_target (λ b here. chain_all unit b root next ps here (distinct_set p pages distinct) (apart_set unit p pages apart) (at_set unit p pages ps (tail_of (λ x. target_of unit pages x.id.space x.id.number ≡ x.target) p ps at)) (tail_of (λ x. FitsCell x.cell) p ps fits)) p.target refl
  where
    by_target : ((b : List ℕ) → Chain unit b root (with_pointer p.id.space p.id.number p.cell pages) → Chain unit (put_cells (writes_of ps) b) root (set_all (p ∷ ps) pages)) → (t : Option ℕ) → p.target ≡ t → Chain unit (put_at p.cell ps image p.target) root (set_all (p ∷ ps) pages)
    by_target later None e = subst (λ (t : Option ℕ). Chain unit (put_at p.cell ps image t) root (set_all (p ∷ ps) pages)) (sym e)
        (later image (subst (λ (l : List Page). Chain unit image root l) (sym (unheld unit p.id.space p.id.number p.cell pages (at 0 p (omega arith) ∙ e))) chain))
    by_target later (Some target) e = subst (λ (t : Option ℕ). Chain unit (put_at p.cell ps image t) root (set_all (p ∷ ps) pages)) (sym e)
        (later (over target (cell_bytes p.cell) image) (chain_set unit image root pages p.id.space p.id.number p.cell target (fits 0 p (omega arith)) chain distinct apart (at 0 p (omega arith) ∙ e)))

pub cells_all : (ps : List Pointing) (pages : List Page) → All HasCells pages → All HasCells (set_all ps pages)
cells_all [] pages sizes = sizes
cells_all (p ∷ ps) pages sizes = cells_all ps (with_pointer p.id.space p.id.number p.cell pages) (cells_kept p.id.space p.id.number p.cell pages sizes)

pub distinct_all : (ps : List Pointing) (pages : List Page) → AllPairs IsOther pages → AllPairs IsOther (set_all ps pages)
distinct_all [] pages distinct = distinct
distinct_all (p ∷ ps) pages distinct = distinct_all ps (with_pointer p.id.space p.id.number p.cell pages) (distinct_set p pages distinct)

-- ---- the pointers then

pub held_set : (p : Pointing) (pages : List Page) (ps : List Pointing) → AreHeld pages ps → AreHeld (with_pointer p.id.space p.id.number p.cell pages) ps
held_set p pages ps held k d lt = subst IsSome (sym (holder_set p.id.space (get_or ps k d).id.space p.id.number (get_or ps k d).id.number p.cell pages)) (still (page_holding pages (get_or ps k d).id.space (get_or ps k d).id.number) (held k d lt))
  where
    still : (o : Option Page) → IsSome o → IsSome (option_map (with_cell p.id.space p.id.number p.cell) o)
    still None some = some
    still (Some q) some = refl

-- a cell that is set is the pointer of its number, and of no other
pointer_one : (p : Pointing) (pages : List Page) (id : SlotId) → All HasCells pages → IsSome (page_holding pages p.id.space p.id.number)
    → pointer_of (with_pointer p.id.space p.id.number p.cell pages) id.space id.number ≡ (if is_same p.id id then pointer_in p.cell else pointer_of pages id.space id.number)
pointer_one p pages id sizes held = elim (cases_Bool (is_same p.id id)) [
  | inl yes_ ↦
      let both = is_true p.id id yes_ in
      let space : p.id.space ≡ id.space = spaces_same p.id.space id.space both.0 in
      rw yes_ ((λ i. pointer_of (with_pointer p.id.space p.id.number p.cell pages) (sym space i) (sym both.1 i)) ∙ here (page_holding pages p.id.space p.id.number) refl held)
  | inr no_ ↦ rw no_ (pointer_set_other p.id.space id.space p.id.number id.number p.cell pages (λ s n. clash (sym no_ ∙ same_true p.id id (sym s) (sym n))))
]
  where
    spaces_same : (a b : Space) → space_number a ≡ space_number b → a ≡ b
    spaces_same Objects Objects e = refl
    spaces_same Objects System e = absurd (omega (arith, e))
    spaces_same System Objects e = absurd (omega (arith, e))
    spaces_same System System e = refl

    here : (o : Option Page) → page_holding pages p.id.space p.id.number ≡ o → IsSome o → pointer_of (with_pointer p.id.space p.id.number p.cell pages) p.id.space p.id.number ≡ pointer_in p.cell
    here None e some = absurd (clash some)
    here (Some q) e some = pointer_set_here p.id.space p.id.number p.cell pages q sizes e

not_pointed : (ps : List Pointing) (id : SlotId) (base : Option Cell) → All (λ p. is_same p.id id ≡ false) ps → pointed_place ps id base ≡ base
not_pointed [] id base others = refl
not_pointed (p ∷ ps) id base others = rw (others 0 p (omega arith)) (not_pointed ps id base (tail_of (λ p. is_same p.id id ≡ false) p ps others))

differs : (p q id : SlotId) → is_same p q ≡ false → is_same p id ≡ true → is_same q id ≡ false
differs p q id other same = elim (cases_Bool (is_same q id)) [
  | inl yes_ ↦ let a = is_true p id same in let b = is_true q id yes_ in absurd (clash (sym other ∙ same_true p q (a.0 ∙ sym b.0) (a.1 ∙ sym b.1)))
  | inr no_ ↦ no_
]

pub pointers_all : (ps : List Pointing) (pages : List Page) (id : SlotId) → All HasCells pages → AreHeld pages ps → AreDistinct ps → pointer_of (set_all ps pages) id.space id.number ≡ pointed_place ps id (pointer_of pages id.space id.number)
pointers_all [] pages id sizes held distinct = refl
pointers_all (p ∷ ps) pages id sizes held distinct =
    pointers_all ps (with_pointer p.id.space p.id.number p.cell pages) id (cells_kept p.id.space p.id.number p.cell pages sizes) (held_set p pages ps (tail_of (λ x. IsSome (page_holding pages x.id.space x.id.number)) p ps held))
    (λ i j d lt inside. distinct (suc i) (suc j) d (omega (arith, lt)) (omega (arith, inside)))
    ∙ ap (pointed_place ps id) (pointer_one p pages id sizes (held 0 p (omega arith)))
    ∙ go (is_same p.id id) refl
  where
    go : (b : Bool) → is_same p.id id ≡ b → pointed_place ps id (if is_same p.id id then pointer_in p.cell else pointer_of pages id.space id.number) ≡ pointed_place (p ∷ ps) id (pointer_of pages id.space id.number)
    go true e = rw e (not_pointed ps id (pointer_in p.cell) (λ k d lt. differs p.id (get_or ps k d).id id (distinct 0 (suc k) d (omega arith) (omega (arith, lt))) e))
    go false e = rw e refl

-- ---- what is counted of their places

module _ (f : Cell → ℕ) where
  sum_append : (xs ys : List Cell) → sum_by f (xs ++ ys) ≡ sum_by f xs + sum_by f ys
  sum_append xs ys = sum_by-append f xs ys

  replaced_same : (p : Pointing) (pages : List Page) (ps : List Pointing) → All HasCells pages → IsSome (page_holding pages p.id.space p.id.number) → All (λ q. is_same p.id q.id ≡ false) ps
      → replaced (with_pointer p.id.space p.id.number p.cell pages) ps ≡ replaced pages ps
  replaced_same p pages [] sizes held others = refl
  replaced_same p pages (q ∷ qs) sizes held others = λ i.
      option_to_list (same i) ++ replaced_same p pages qs sizes held (tail_of (λ x. is_same p.id x.id ≡ false) q qs others) i
    where
      same : pointer_of (with_pointer p.id.space p.id.number p.cell pages) q.id.space q.id.number ≡ pointer_of pages q.id.space q.id.number
      same = pointer_one p pages q.id sizes held ∙ rw (others 0 q (omega arith)) refl

  -- the places of the pages with the cells, and those that were replaced
  pub things_all : (ps : List Pointing) (pages : List Page) → All HasCells pages → AllPairs IsOther pages → AreHeld pages ps → AreDistinct ps
      → sum_by f (things_of (set_all ps pages)) + sum_by f (replaced pages ps) ≡ sum_by f (things_of pages) + sum_by f (cells_in ps)
  things_all [] pages sizes distinct held once = refl
  things_all (p ∷ ps) pages sizes distinct held once =
      let next = with_pointer p.id.space p.id.number p.cell pages in
      let rest = things_all ps next (cells_kept p.id.space p.id.number p.cell pages sizes) (distinct_set p pages distinct) (held_set p pages ps (tail_of (λ x. IsSome (page_holding pages x.id.space x.id.number)) p ps held))
      (λ i j d lt inside. once (suc i) (suc j) d (omega (arith, lt)) (omega (arith, inside))) in
      let same = replaced_same p pages ps sizes (held 0 p (omega arith)) (λ k d lt. once 0 (suc k) d (omega arith) (omega (arith, lt))) in
      let one = set_one (page_holding pages p.id.space p.id.number) refl (held 0 p (omega arith)) in
      omega (arith, rest, one, ap (sum_by f) same, sum_append (option_to_list (pointer_of pages p.id.space p.id.number)) (replaced pages ps), sum_append (option_to_list (pointer_in p.cell)) (cells_in ps))
    where
      set_one : (o : Option Page) → page_holding pages p.id.space p.id.number ≡ o → IsSome o
          → sum_by f (things_of (with_pointer p.id.space p.id.number p.cell pages)) + sum_by f (option_to_list (pointer_of pages p.id.space p.id.number)) ≡ sum_by f (things_of pages) + sum_by f (option_to_list (pointer_in p.cell))
      set_one None e some = absurd (clash some)
      set_one (Some q) e some = things_set f p.id.space p.id.number p.cell pages q sizes distinct e
