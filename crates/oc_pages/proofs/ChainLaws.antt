-- What holds of the chain of an image.
use Rattle.std.proofs.Common.{◌≡◌, inl, inr, ℕ, zero, suc, ◌+◌, ◌*◌, ◌<◌, ◌≤◌, true, false, List, [], ◌∷◌, length, get_or, refl, sym, ◌∙◌, ap, subst, arith, Option, Some, None}
use Rattle.std.specs.Prelude.{All, AllPairs, Contains, option_map}
use Rattle.std.proofs.lemmas.Bool.{cases_Bool}
use Rattle.std.proofs.lemmas.Bool.Decides.{nat_tests}
use Rattle.std.proofs.lemmas.List.Elements.{All-nil, All-cons, All-head, All-tail}
use Rattle.oc_host.specs.Disk.{over}
use Rattle.oc_layout.specs.declared.cells.Cell.{Cell}
use Rattle.oc_layout.specs.declared.cells.Space.{Space}
use Rattle.oc_layout.specs.Layout.{cell_bytes, FitsCell}
use Rattle.oc_log.proofs.Bytes.{length-over-in, over_out}
use Rattle.oc_pages.specs.declared.page.Page.{Page}
use Rattle.oc_pages.specs.Pages.{is_page, holds, slot_in, page_holding, target_of, place_of, with_cell, with_pointer, IsOther}
use Rattle.oc_pages.specs.Places.{no_page, page_in}
use Rattle.oc_pages.specs.Chains.{StandsAt, ReadsAs, SpellsPage, Leads, Chain, AreApart, IsKept, page_at}
use Rattle.oc_pages.proofs.Chained.{map_same}
use Rattle.oc_pages.proofs.Changes.{with_held, with_other}
use Rattle.oc_pages.proofs.Images.{page_again, page_kept, page_written, length-cells}
use Rattle.oc_pages.proofs.Listings.{found_is}
use Rattle.oc_pages.proofs.Ranges.{within_is}
-- an image has one chain from a root cell
pub use Rattle.oc_pages.proofs.Walks.{chain_only}

-- ---- an image that keeps the bytes of all pages has the same chain

stands_kept : (unit : ℕ) (image other : List ℕ) (root : Cell) (p : Page) → StandsAt unit image root p → IsKept unit image other p → StandsAt unit other root p
stands_kept unit image other root p stands kept = record {
  place = stands.place;
  inside = kept.inside;
  reads = subst (ReadsAs p) (sym (page_kept unit image other p stands.inside kept)) stands.reads;
}

pub leads_same : (unit : ℕ) (image other : List ℕ) (root : Cell) (pages : List Page) (next : Cell) → Leads unit image root pages next → All (IsKept unit image other) pages → Leads unit other root pages next
leads_same unit image other root [] next leads kept = leads
leads_same unit image other root (p ∷ ps) next leads kept = (
  stands_kept unit image other root p leads.0 (All-head (IsKept unit image other) p ps kept),
  leads_same unit image other p.link ps next leads.1 (All-tail (IsKept unit image other) p ps kept),
)

pub chain_same : (unit : ℕ) (image other : List ℕ) (root : Cell) (pages : List Page) → Chain unit image root pages → All (IsKept unit image other) pages → Chain unit other root pages
chain_same unit image other root pages chain kept = leads_same unit image other root pages _ chain kept

-- ---- a page in front of the chain

pub chain_added : (unit : ℕ) (image other : List ℕ) (root : Cell) (pages : List Page) (p : Page) → Chain unit image root pages → All (IsKept unit image other) pages
    → p.link ≡ root → p.at * unit + 1024 ≤ length other → SpellsPage p (page_at unit other p.at) → Chain unit other (place_of p) (p ∷ pages)
chain_added unit image other root pages p chain kept link inside spells = (
  record { place = refl; inside = inside; reads = page_again p (page_at unit other p.at) spells },
  subst (λ (c : Cell). Chain unit other c pages) (sym link) (chain_same unit image other root pages chain kept),
)

-- ---- another cell for a number

-- a cell of one page that is written leaves the pages that are apart from it
cell_keeps : (unit : ℕ) (image : List ℕ) (p q : Page) (slot : ℕ) (cell : Cell) → slot < 126 → q.at * unit + 1024 ≤ length image → p.at * unit + 1024 ≤ length image → AreApart unit p q
    → IsKept unit image (over (q.at * unit + 16 + 8 * slot) (cell_bytes cell) image) p
cell_keeps unit image p q slot cell lt in_q in_p apart =
    let target = q.at * unit + 16 + 8 * slot in
    record {
      inside = omega (arith, in_p, length-over-in target (cell_bytes cell) image (omega (arith, in_q, lt)));
      same = λ k from to. over_out target (cell_bytes cell) image k (omega (arith, in_q, lt)) (elim apart [
        | inl before ↦ inl (omega (arith, before, to))
        | inr after ↦ inr (omega (arith, after, from, lt))
      ]);
    }

all_keep : (unit : ℕ) (image : List ℕ) (q : Page) (slot : ℕ) (cell : Cell) (root : Cell) (pages : List Page) (next : Cell) → slot < 126 → q.at * unit + 1024 ≤ length image
    → Leads unit image root pages next → All (λ p. AreApart unit p q) pages → All (IsKept unit image (over (q.at * unit + 16 + 8 * slot) (cell_bytes cell) image)) pages
all_keep unit image q slot cell root [] next lt in_q leads apart = All-nil (IsKept unit image (over (q.at * unit + 16 + 8 * slot) (cell_bytes cell) image))
all_keep unit image q slot cell root (p ∷ ps) next lt in_q leads apart =
    All-cons (IsKept unit image (over (q.at * unit + 16 + 8 * slot) (cell_bytes cell) image)) p ps (cell_keeps unit image p q slot cell lt in_q leads.0.inside (All-head (λ x. AreApart unit x q) p ps apart))
    (all_keep unit image q slot cell p.link ps next lt in_q leads.1 (All-tail (λ x. AreApart unit x q) p ps apart))

-- pages that don't hold the number stay as they are
pub with_none : (space : Space) (number : ℕ) (cell : Cell) (pages : List Page) → All (λ p. holds space number p ≡ false) pages → with_pointer space number cell pages ≡ pages
with_none space number cell pages none = map_same (with_cell space number cell) pages (λ k lt. with_other space number cell (page_in pages k) (none k no_page lt))

pairs_head : (R : Page → Page → Type 0) (p : Page) (ps : List Page) → AllPairs R (p ∷ ps) → All (R p) ps
pairs_head R p ps pairs k d lt = pairs zero (suc k) d (omega arith) (omega (arith, lt))

pairs_tail : (R : Page → Page → Type 0) (p : Page) (ps : List Page) → AllPairs R (p ∷ ps) → AllPairs R ps
pairs_tail R p ps pairs i j d below lt = pairs (suc i) (suc j) d (omega (arith, below)) (omega (arith, lt))

-- where the first page holds the number no other does
pub others_none : (space : Space) (number : ℕ) (p : Page) (ps : List Page) → AllPairs IsOther (p ∷ ps) → holds space number p ≡ true → All (λ q. holds space number q ≡ false) ps
others_none space number p ps distinct here k d lt = elim (cases_Bool (holds space number (get_or ps k d))) [
  | inr no_ ↦ no_
  | inl yes_ ↦ absurd (clash p (get_or ps k d) (pairs_head IsOther p ps distinct k d lt) here yes_)
]
  where
    clash : (p q : Page) → is_page p.space p.index q ≡ false → holds space number p ≡ true → holds space number q ≡ true → ⊥
    clash p q no_ one two = grind (arith, nat_tests, no_, one, two)

slot_few : (space : Space) (number : ℕ) (p : Page) → holds space number p ≡ true → slot_in p number < 126
slot_few space number p here = let w = within_is p.index number (grind (arith, here)) in omega (arith, w.above, w.below)

leads_set : (unit : ℕ) (image : List ℕ) (space : Space) (number : ℕ) (cell : Cell) (root : Cell) (pages : List Page) (next : Cell) (q : Page) → FitsCell cell → Leads unit image root pages next
    → AllPairs IsOther pages → AllPairs (AreApart unit) pages → page_holding pages space number ≡ Some q
    → Leads unit (over (q.at * unit + 16 + 8 * slot_in q number) (cell_bytes cell) image) root (with_pointer space number cell pages) next
leads_set unit image space number cell root [] next q fits leads distinct apart e = let no_way : ◌≡◌ {A = Option Page} None (Some q) = e in absurd (cc no_way)
leads_set unit image space number cell root (p ∷ ps) next q fits leads distinct apart e = elim (cases_Bool (holds space number p)) [
  | inl yes_ ↦
      let found : ◌≡◌ {A = Option Page} (Some p) (Some q) = grind (arith, yes_, e) in
      let same : p ≡ q = cc found in
      subst (λ (x : Page). Leads unit (over (x.at * unit + 16 + 8 * slot_in x number) (cell_bytes cell) image) root (with_pointer space number cell (p ∷ ps)) next) same (first_has yes_)
  | inr no_ ↦
      let rest : page_holding ps space number ≡ Some q = grind (arith, no_, e) in
      let found = found_is (holds space number) ps q rest in
      let there = found.0 in
      let away : AreApart unit p q = subst (AreApart unit p) there.2 (pairs_head (AreApart unit) p ps apart there.0 q there.1) in
      let in_q = inside_of p.link ps leads.1 q there in
      let other = over (q.at * unit + 16 + 8 * slot_in q number) (cell_bytes cell) image in
      subst (λ (x : Page). StandsAt unit other root x × Leads unit other x.link (with_pointer space number cell ps) next) (sym (with_other space number cell p no_)) (
        stands_kept unit image other root p leads.0 (cell_keeps unit image p q (slot_in q number) cell (slot_few space number q found.1) in_q leads.0.inside away),
        leads_set unit image space number cell p.link ps next q fits leads.1 (pairs_tail IsOther p ps distinct) (pairs_tail (AreApart unit) p ps apart) rest,
      )
]
  where
    inside_of : (root : Cell) (pages : List Page) → Leads unit image root pages next → (q : Page) → Contains pages q → q.at * unit + 1024 ≤ length image
    inside_of root [] leads q there = absurd (omega (arith, there.1))
    inside_of root (x ∷ xs) leads q (zero, lt, e) = subst (λ (y : Page). y.at * unit + 1024 ≤ length image) e leads.0.inside
    inside_of root (x ∷ xs) leads q (suc k, lt, e) = inside_of x.link xs leads.1 q (k, omega (arith, lt), e)

    flip : (p q : Page) → AreApart unit p q → AreApart unit q p
    flip p q (inl before) = inr before
    flip p q (inr after) = inl after

    first_has : holds space number p ≡ true → Leads unit (over (p.at * unit + 16 + 8 * slot_in p number) (cell_bytes cell) image) root (with_pointer space number cell (p ∷ ps)) next
    first_has yes_ =
        let slot = slot_in p number in
        let few = slot_few space number p yes_ in
        let other = over (p.at * unit + 16 + 8 * slot) (cell_bytes cell) image in
        let rest = with_none space number cell ps (others_none space number p ps distinct yes_) in
        let kept = all_keep unit image p slot cell p.link ps next few leads.0.inside leads.1 (λ k d lt. flip p (get_or ps k d) (pairs_head (AreApart unit) p ps apart k d lt)) in
        subst (λ (x : Page). StandsAt unit other root x × Leads unit other x.link (with_pointer space number cell ps) next) (sym (with_held space number cell p yes_)) (
          record {
            place = leads.0.place;
            inside = omega (arith, leads.0.inside, length-over-in (p.at * unit + 16 + 8 * slot) (cell_bytes cell) image (omega (arith, leads.0.inside, few)));
            reads = page_written unit image p slot cell leads.0.reads leads.0.inside few fits;
          },
          subst (λ (l : List Page). Leads unit other p.link l next) (sym rest) (leads_same unit image other p.link ps next leads.1 kept),
        )

pub chain_set : (unit : ℕ) (image : List ℕ) (root : Cell) (pages : List Page) (space : Space) (number : ℕ) (cell : Cell) (target : ℕ) → FitsCell cell → Chain unit image root pages
    → AllPairs IsOther pages → AllPairs (AreApart unit) pages → target_of unit pages space number ≡ Some target
    → Chain unit (over target (cell_bytes cell) image) root (with_pointer space number cell pages)
chain_set unit image root pages space number cell target fits chain distinct apart e = by_holder (page_holding pages space number) refl
  where
    by_holder : (o : Option Page) → page_holding pages space number ≡ o → Chain unit (over target (cell_bytes cell) image) root (with_pointer space number cell pages)
    by_holder None none = let no_way : ◌≡◌ {A = Option ℕ} None (Some target) = ap (option_map (λ (p : Page). p.at * unit + 16 + 8 * slot_in p number)) (sym none) ∙ e in absurd (cc no_way)
    by_holder (Some q) some =
        let both : ◌≡◌ {A = Option ℕ} (Some (q.at * unit + 16 + 8 * slot_in q number)) (Some target) = ap (option_map (λ (p : Page). p.at * unit + 16 + 8 * slot_in p number)) (sym some) ∙ e in
        let same : q.at * unit + 16 + 8 * slot_in q number ≡ target = cc both in
        subst (λ (t : ℕ). Chain unit (over t (cell_bytes cell) image) root (with_pointer space number cell pages)) same
        (leads_set unit image space number cell root pages _ q fits chain distinct apart some)

-- ---- the pages of a chain have all their cells

pub chain_cells : (unit : ℕ) (image : List ℕ) (root : Cell) (pages : List Page) (next : Cell) → Leads unit image root pages next → All (λ p. length p.cells ≡ 126) pages
chain_cells unit image root [] next leads = All-nil (λ (p : Page). length p.cells ≡ 126)
chain_cells unit image root (p ∷ ps) next leads = All-cons (λ (p : Page). length p.cells ≡ 126) p ps (ap length leads.0.reads.cells ∙ length-cells 126 _) (chain_cells unit image p.link ps next leads.1)
