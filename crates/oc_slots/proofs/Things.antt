-- Things whose bytes are the same in two files.
use Rattle.std.proofs.Common.{◌≡◌, ◌∙◌, inl, inr, ℕ, zero, suc, ◌+◌, ◌*◌, ◌<◌, ◌≤◌, Bool, true, false, List, [], ◌∷◌, ◌++◌, length, get_or, Option, Some, None, sym, ap, subst, refl, arith, length-append}
use Rattle.std.specs.Prelude.{All, Contains, filter, not}
use Rattle.std.proofs.lemmas.Bool.{cases_lt}
use Rattle.std.proofs.lemmas.List.{get_or_past, get_or_append_left}
use Rattle.oc_layout.specs.declared.cells.Cell.{Cell}
use Rattle.oc_layout.specs.declared.cells.Space.{Space}
use Rattle.oc_log.proofs.Bytes.{slice_same}
use Rattle.oc_pages.specs.declared.page.Page.{Page}
use Rattle.oc_pages.specs.Pages.{no_cell, is_empty, pointer_in, cell_in, slot_in, holds, page_holding, place_of, pointer_of, things_in, things_of}
use Rattle.oc_pages.specs.Chains.{HasPages}
use Rattle.oc_pages.proofs.ChainLaws.{chain_same}
use Rattle.oc_pages.proofs.Listings.{found_is, no_pointer, its_pointer}
use Rattle.oc_slots.specs.Maps.{bytes_at, content}
use Rattle.oc_slots.specs.Forms.{LiesIn}

-- the thing's bytes are the same in both files
abbrev pub IsAlike : ℕ → List ℕ → List ℕ → Cell → Type 0
IsAlike unit b c thing = (k : ℕ) → thing.at * unit ≤ k → k < thing.at * unit + thing.len → get_or c k 0 ≡ get_or b k 0

-- ---- what holds of all things

head_of : {X : Type 0} (P : X → Type 0) (x : X) (xs : List X) → All P (x ∷ xs) → P x
head_of P x xs all = all 0 x (omega arith)

pub tail_of : {X : Type 0} (P : X → Type 0) (x : X) (xs : List X) → All P (x ∷ xs) → All P xs
tail_of P x xs all = λ k d lt. all (suc k) d (omega (arith, lt))

pub left_of : {X : Type 0} (P : X → Type 0) (xs ys : List X) → All P (xs ++ ys) → All P xs
left_of P xs ys all k d lt = subst P (get_or_append_left xs ys d k lt) (all k d (omega (arith, lt, length-append xs ys)))

pub right_of : {X : Type 0} (P : X → Type 0) (xs ys : List X) → All P (xs ++ ys) → All P ys
right_of P [] ys all = all
right_of P (x ∷ xs) ys all = right_of P xs ys (tail_of P x (xs ++ ys) all)

-- of the pages' own places
pub of_pages : (P : Cell → Type 0) (pages : List Page) → All P (things_of pages) → All (λ p. P (place_of p)) pages
of_pages P [] all = λ k d lt. absurd (omega (arith, lt))
of_pages P (p ∷ ps) all = either (of_pages P ps (right_of P (things_in p) (things_of ps) all))
  where
    either : All (λ q. P (place_of q)) ps → All (λ q. P (place_of q)) (p ∷ ps)
    either rest zero d lt = head_of P (place_of p) (filter (λ c. not (is_empty c)) p.cells ++ things_of ps) all
    either rest (suc k) d lt = rest k d (omega (arith, lt))

-- of what the pointers name
passing : (P : Cell → Type 0) (cells : List Cell) → All P (filter (λ c. not (is_empty c)) cells) → (k : ℕ) → k < length cells → is_empty (get_or cells k no_cell) ≡ false → P (get_or cells k no_cell)
passing P [] all k lt some = absurd (omega (arith, lt))
passing P (c ∷ cs) all k lt some = go (is_empty c) refl k lt some (λ rest. passing P cs rest)
  where
    go : (b : Bool) → is_empty c ≡ b → (k : ℕ) → k < length (c ∷ cs) → is_empty (get_or (c ∷ cs) k no_cell) ≡ false
        → (All P (filter (λ c. not (is_empty c)) cs) → (k : ℕ) → k < length cs → is_empty (get_or cs k no_cell) ≡ false → P (get_or cs k no_cell)) → P (get_or (c ∷ cs) k no_cell)
    go true e zero lt some again = absurd (cc (e, some))
    go true e (suc k) lt some again = again (subst (All P) (kept e) all) k (omega (arith, lt)) some
      where
        kept : is_empty c ≡ true → filter (λ c. not (is_empty c)) (c ∷ cs) ≡ filter (λ c. not (is_empty c)) cs
        kept e = rw e refl
    go false e zero lt some again = head_of P c (filter (λ c. not (is_empty c)) cs) (subst (All P) (kept e) all)
      where
        kept : is_empty c ≡ false → filter (λ c. not (is_empty c)) (c ∷ cs) ≡ c ∷ filter (λ c. not (is_empty c)) cs
        kept e = rw e refl
    go false e (suc k) lt some again = again (tail_of P c (filter (λ c. not (is_empty c)) cs) (subst (All P) (kept e) all)) k (omega (arith, lt)) some
      where
        kept : is_empty c ≡ false → filter (λ c. not (is_empty c)) (c ∷ cs) ≡ c ∷ filter (λ c. not (is_empty c)) cs
        kept e = rw e refl

-- of the things in one page
in_page : (P : Cell → Type 0) (pages : List Page) (p : Page) → All P (things_of pages) → Contains pages p → All P (things_in p)
in_page P [] p all there = absurd (omega (arith, there.1))
in_page P (q ∷ qs) p all (zero, lt, e) = subst (λ x. All P (things_in x)) e (first all)
  where
    first : All P (things_of (q ∷ qs)) → All P (things_in q)
    first all k d lt = subst P (sym (here k d lt)) (all k d (omega (arith, lt, length-append (things_in q) (things_of qs))))
      where
        here : (k : ℕ) (d : Cell) → k < length (things_in q) → get_or (things_in q) k d ≡ get_or (things_in q ++ things_of qs) k d
        here k d lt = sym (get_or_append_left (things_in q) (things_of qs) d k lt)
in_page P (q ∷ qs) p all (suc k, lt, e) = in_page P qs p (right_of P (things_in q) (things_of qs) all) (k, omega (arith, lt), e)

some_cell : (c d : Cell) → pointer_in c ≡ Some d → (is_empty c ≡ false) × (c ≡ d)
some_cell c d h = go (is_empty c) refl h
  where
    none : None ≡ Some d → ⊥
    none e = cc

    go : (b : Bool) → is_empty c ≡ b → pointer_in c ≡ Some d → (is_empty c ≡ false) × (c ≡ d)
    go true e h = absurd (none (sym (empty e) ∙ h))
      where
        empty : is_empty c ≡ true → pointer_in c ≡ None
        empty e = rw e refl
    go false e h = (e, some (sym (full e) ∙ h))
      where
        full : is_empty c ≡ false → pointer_in c ≡ Some c
        full e = rw e refl

        some : Some c ≡ Some d → c ≡ d
        some e = cc

-- what a pointer names is one of the things
pub pointed : (P : Cell → Type 0) (pages : List Page) → All P (things_of pages) → (space : Space) (number : ℕ) (c : Cell) → pointer_of pages space number ≡ Some c → P c
pointed P pages all space number c h = go (page_holding pages space number) refl
  where
    clash : None ≡ Some c → ⊥
    clash e = cc

    go : (o : Option Page) → page_holding pages space number ≡ o → P c
    go None e = absurd (clash (sym (no_pointer pages space number e) ∙ h))
    go (Some p) e =
        let found = found_is (holds space number) pages p e in
        let cell = some_cell (cell_in p number) c (sym (its_pointer pages space number p e) ∙ h) in
        let inside : slot_in p number < length p.cells = elim (cases_lt (slot_in p number) (length p.cells)) [
          | inl lt ↦ lt
          | inr ge ↦ absurd (empty (get_or_past p.cells (slot_in p number) no_cell ge) cell.0)
        ] in
        subst P cell.1 (passing P p.cells (tail_of P (place_of p) (filter (λ c. not (is_empty c)) p.cells) (in_page P pages p all found.0)) (slot_in p number) inside cell.0)
      where
        empty : cell_in p number ≡ no_cell → is_empty (cell_in p number) ≡ false → ⊥
        empty e some = let yes_ : is_empty (cell_in p number) ≡ true = ap is_empty e in cc (yes_, some)

-- ---- two files

module _ (unit : ℕ) (b c : List ℕ) where
  pub bytes_alike : (thing : Cell) → LiesIn unit (length b) thing → LiesIn unit (length c) thing → IsAlike unit b c thing → bytes_at unit c thing ≡ bytes_at unit b thing
  bytes_alike thing one two alike = slice_same (thing.at * unit) thing.len b c one.inside two.inside alike

  module _ (pages : List Page) (in_b : All (LiesIn unit (length b)) (things_of pages)) (in_c : All (LiesIn unit (length c)) (things_of pages)) (alike : All (IsAlike unit b c) (things_of pages)) where
    -- the slots have the same bytes
    pub slots_alike : (space : Space) (number : ℕ) → content unit c (pointer_of pages space number) ≡ content unit b (pointer_of pages space number)
    slots_alike space number = go (pointer_of pages space number) refl
      where
        go : (o : Option Cell) → pointer_of pages space number ≡ o → content unit c (pointer_of pages space number) ≡ content unit b (pointer_of pages space number)
        go None e = rw e refl
        go (Some x) e = rw e (ap {B = Option (List ℕ)} (λ l. Some l) (bytes_alike x (pointed (LiesIn unit (length b)) pages in_b space number x e) (pointed (LiesIn unit (length c)) pages in_c space number x e) (pointed (IsAlike unit b c) pages alike space number x e)))

    -- and the pages are the same
    pub pages_alike : (root : Cell) → HasPages unit b root pages → HasPages unit c root pages
    pages_alike root has = record {
      chain = chain_same unit b c root pages has.chain (λ k d lt. record {
        inside = (of_pages (LiesIn unit (length c)) pages in_c k d lt).inside;
        same = of_pages (IsAlike unit b c) pages alike k d lt;
      });
      in_range = has.in_range;
      distinct = has.distinct;
    }
