-- The pages that are missing, put at their places and added one after another.
use Rattle.std.proofs.Common.{◌≡◌, ◌∙◌, inl, inr, ℕ, zero, suc, ◌+◌, ◌-◌, ◌<◌, ◌≤◌, ◌==◌, true, false, List, [], ◌∷◌, ◌++◌, length, map, take, drop, get_or, sym, ap, subst, refl, arith, append_assoc, length-append}
use Rattle.std.specs.Prelude.{All, IsSome}
use Rattle.std.proofs.lemmas.Bool.{cases_Bool}
use Rattle.std.proofs.lemmas.List.{map-append, length-map, take-map, take_more, drop_more, take-append-drop, take-take, take_all, drop-take}
use Rattle.std.proofs.lemmas.List.Elements.{All-tail, All-nil, All-cons}
use Rattle.oc_layout.specs.declared.cells.Cell.{Cell}
use Rattle.oc_layout.specs.declared.cells.CellWrite.{CellWrite}
use Rattle.oc_layout.specs.declared.cells.Header.{Header}
use Rattle.oc_layout.specs.declared.cells.Space.{Space}
use Rattle.oc_layout.specs.declared.cells.Space.TheVariants.{Objects, System}
use Rattle.oc_pages.specs.declared.page.Page.{Page}
use Rattle.oc_pages.specs.Pages.{space_number, is_page, page_of, page_holding, first_of, empty_page, with_pointer}
use Rattle.oc_slots.specs.declared.new_pages.NewPage.{NewPage}
use Rattle.oc_slots.specs.declared.turnover.Pointing.{Pointing}
use Rattle.oc_slots.specs.Forms.{root_place}
use Rattle.oc_slots.specs.Pointings.{set_all, AreHeld}
use Rattle.oc_slots.specs.Turnovers.{numbers_in, keys_of, with_added, root_writes, AreNew, AreMissing}
use Rattle.oc_slots.proofs.PointedPages.{held_set}
use Rattle.oc_slots.proofs.Things.{tail_of}

-- ---- the numbers that are pointed

pub numbers_some : (space : Space) (ps : List Pointing) → All (λ p. (1 ≤ p.id.number) × (p.id.number ≤ 2147483646)) ps → All (λ n. 1 ≤ n) (numbers_in space ps)
numbers_some space [] all = All-nil (λ n. 1 ≤ n)
numbers_some space (p ∷ ps) all =
    let rest = numbers_some space ps (All-tail (λ (x : Pointing). (1 ≤ x.id.number) × (x.id.number ≤ 2147483646)) p ps all) in
    elim (cases_Bool (space_number p.id.space == space_number space)) [
      | inl yes_ ↦ subst (All (λ n. 1 ≤ n)) (sym (here yes_)) (All-cons (λ n. 1 ≤ n) p.id.number (numbers_in space ps) (all 0 p (omega arith)).0 rest)
      | inr no_ ↦ subst (All (λ n. 1 ≤ n)) (sym (away no_)) rest
    ]
  where
    here : (space_number p.id.space == space_number space) ≡ true → numbers_in space (p ∷ ps) ≡ p.id.number ∷ numbers_in space ps
    here e = rw e refl

    away : (space_number p.id.space == space_number space) ≡ false → numbers_in space (p ∷ ps) ≡ numbers_in space ps
    away e = rw e refl

-- ---- the pages at their places

-- a row with one element more, which the next of another row gives
pub row_more : {A B C : Type 0} (f : A → C) (g : B → C) (new old : List A) (x : A) (start : List C) (ys : List B) (i : ℕ) (d : B)
    → new ≡ old ++ x ∷ [] → map f old ≡ start ++ map g (take i ys) → i < length ys → f x ≡ g (get_or ys i d) → map f new ≡ start ++ map g (take (i + 1) ys)
row_more {A = A} {B = B} {C = C} f g new old x start ys i d e was lt is =
    ap (map f) e ∙ map-append f old (x ∷ [])
    ∙ (λ k. was k ++ is k ∷ [])
    ∙ append_assoc start (map g (take i ys)) (g (get_or ys i d) ∷ [])
    ∙ ap (λ (l : List C). start ++ l) (sym (map-append g (take i ys) (get_or ys i d ∷ [])) ∙ ap (map g) (sym (take_more ys i d lt)))

-- a row that is whole
pub row_whole : {B C : Type 0} (g : B → C) (start row : List C) (ys : List B) (i : ℕ) → row ≡ start ++ map g (take i ys) → length ys ≤ i → row ≡ start ++ map g ys
row_whole {C = C} g start row ys i e le = e ∙ ap (λ (l : List _). start ++ map g l) (take_all i ys le)

abbrev key_of : NewPage → Space × ℕ
key_of a = (a.space, a.index)

abbrev key_in : Space → ℕ → Space × ℕ
key_in space index = (space, index)

take_both : (n m : ℕ) (cells : List Cell) → take n cells ++ take m (drop n cells) ≡ take (n + m) cells
take_both n m cells =
    (λ i. sym (take-take n (n + m) cells (omega arith)) i ++ sym (drop-take n m cells) i)
    ∙ take-append-drop n (take (n + m) cells)

-- the pages of objects and those of the system behind them
pub are_new : (objects system : List ℕ) (cells front back : List Cell) (none first added : List NewPage) → length objects + length system ≤ length cells → none ≡ [] → front ≡ take (length objects) cells → back ≡ drop (length objects) cells
    → keys_of first ≡ keys_of none ++ map (λ index. (Objects, index)) objects → keys_of added ≡ keys_of first ++ map (λ index. (System, index)) system
    → map (λ a. a.at) first ≡ map (λ a. a.at) none ++ map (λ c. c.at) (take (length objects) front) → map (λ a. a.at) added ≡ map (λ a. a.at) first ++ map (λ c. c.at) (take (length system) back)
    → AreNew objects system cells added
are_new objects system cells front back none first added enough empty front_is back_is keys more_keys at more_at = record {
  indexes = both;
  places =
      more_at
      ∙ (λ i. (at ∙ (λ j. map (λ a. a.at) (empty j) ++ map (λ c. c.at) (take (length objects) (front_is j))) ∙ ap (λ l. map (λ c. c.at) l) (take-take (length objects) (length objects) cells (omega arith))) i ++ map (λ c. c.at) (take (length system) (back_is i)))
      ∙ sym (map-append (λ c. c.at) (take (length objects) cells) (take (length system) (drop (length objects) cells)))
      ∙ ap (λ l. map (λ c. c.at) l) (take_both (length objects) (length system) cells)
      ∙ sym (take-map (λ c. c.at) (length objects + length system) cells)
      ∙ ap (λ n. take n (map (λ c. c.at) cells)) (sym size);
}
  where
    both : keys_of added ≡ map (λ index. (Objects, index)) objects ++ map (λ index. (System, index)) system
    both = more_keys ∙ (λ i. (keys ∙ (λ j. keys_of (empty j) ++ map (λ index. (Objects, index)) objects)) i ++ map (λ index. (System, index)) system)

    size : length added ≡ length objects + length system
    size =
        let long : length (map key_of added) ≡ length (map (key_in Objects) objects ++ map (key_in System) system) = ap length both in
        omega (arith, length-map added key_of, long, length-append (map (key_in Objects) objects) (map (key_in System) system), length-map objects (key_in Objects), length-map system (key_in System))

-- ---- pages that are added one after another

pub page_skips : (p : Page) (pages : List Page) (space : Space) (index : ℕ) → is_page space index p ≡ false → page_of (p ∷ pages) space index ≡ page_of pages space index
page_skips p pages space index other = rw other refl

-- the first of them is added, and the others are missing still
pub missing_front : (pages : List Page) (a : NewPage) (more : List NewPage) → AreMissing pages (a ∷ more) → AreMissing (empty_page a.space a.index a.at (first_of pages) ∷ pages) more
missing_front pages a more is = record {
  none = λ k d lt. page_skips (empty_page a.space a.index a.at (first_of pages)) pages (get_or more k d).space (get_or more k d).index (is.distinct 0 (suc k) d (omega arith) (omega (arith, lt))) ∙ is.none (suc k) d (omega (arith, lt));
  distinct = λ i j d lt inside. is.distinct (suc i) (suc j) d (omega (arith, lt)) (omega (arith, inside));
}

module _ (pages new : List Page) (added : List NewPage) (i : ℕ) (d : NewPage) (lt : i < length added) (is : AreMissing pages (drop i added))
    (e : new ≡ empty_page (get_or added i d).space (get_or added i d).index (get_or added i d).at (first_of pages) ∷ pages) where
  front : drop i added ≡ get_or added i d ∷ drop (i + 1) added
  front = drop_more added i d lt

  pub missing_on : AreMissing new (drop (i + 1) added)
  missing_on = subst (λ (l : List Page). AreMissing l (drop (i + 1) added)) (sym e) (missing_front pages (get_or added i d) (drop (i + 1) added) (subst (AreMissing pages) front is))

  pub added_on : with_added (drop (i + 1) added) new ≡ with_added (drop i added) pages
  added_on = ap (with_added (drop (i + 1) added)) e ∙ ap (λ (l : List NewPage). with_added l pages) (sym front)

-- ---- pointers that are set one after another

module _ (pages new : List Page) (ps : List Pointing) (i : ℕ) (d : Pointing) (lt : i < length ps) (held : AreHeld pages (drop i ps)) where
  first_pointed : drop i ps ≡ get_or ps i d ∷ drop (i + 1) ps
  first_pointed = drop_more ps i d lt

  pub held_now : IsSome (page_holding pages (get_or ps i d).id.space (get_or ps i d).id.number)
  held_now = subst (AreHeld pages) first_pointed held 0 d (omega arith)

  module _ (e : new ≡ with_pointer (get_or ps i d).id.space (get_or ps i d).id.number (get_or ps i d).cell pages) where
    pub held_on : AreHeld new (drop (i + 1) ps)
    held_on = subst (λ (l : List Page). AreHeld l (drop (i + 1) ps)) (sym e)
        (held_set (get_or ps i d) pages (drop (i + 1) ps) (tail_of (λ x. IsSome (page_holding pages x.id.space x.id.number)) (get_or ps i d) (drop (i + 1) ps) (subst (AreHeld pages) first_pointed held)))

    pub set_on : set_all (drop (i + 1) ps) new ≡ set_all (drop i ps) pages
    set_on = ap (set_all (drop (i + 1) ps)) e ∙ ap (λ (l : List Pointing). set_all l pages) (sym first_pointed)

-- ---- the write of the root cell

root_at : (h : Header) (added : List NewPage) (k : ℕ) (a : NewPage) → k + 1 ≡ length added → a ≡ get_or added k a → root_writes h added ≡ record { target = root_place h; cell = record { at = a.at; len = 1024 } } ∷ []
root_at h [] k a long last = absurd (omega (arith, long))
root_at h (b ∷ []) zero a long last = ap (λ (x : NewPage). record { target = root_place h; cell = record { at = x.at; len = 1024 } } ∷ []) (sym last)
root_at h (b ∷ []) (suc k) a long last = absurd (omega (arith, long))
root_at h (b ∷ c ∷ cs) zero a long last = absurd (omega (arith, long))
root_at h (b ∷ c ∷ cs) (suc k) a long last = root_at h (c ∷ cs) k a (omega (arith, long)) last

-- it names the last page
root_last : (h : Header) (added : List NewPage) (a : NewPage) → 0 < length added → a ≡ get_or added (length added - 1) a → root_writes h added ≡ record { target = root_place h; cell = record { at = a.at; len = 1024 } } ∷ []
root_last h added a some last = root_at h added (length added - 1) a (omega (arith, some)) last

pub root_pushed : (h : Header) (added : List NewPage) (a : NewPage) (old new : List CellWrite) (target : ℕ) → target ≡ root_place h → new ≡ old ++ record { target = target; cell = record { at = a.at; len = 1024 } } ∷ []
    → 0 < length added → a ≡ get_or added (length added - 1) a → new ≡ old ++ root_writes h added
root_pushed h added a old new target is e some last = e ∙ (λ i. old ++ record { target = is i; cell = record { at = a.at; len = 1024 } } ∷ []) ∙ ap (λ (l : List CellWrite). old ++ l) (sym (root_last h added a some last))
