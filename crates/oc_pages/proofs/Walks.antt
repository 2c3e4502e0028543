-- A chain is walked from its root cell on.
use Rattle.std.proofs.Common.{◌≡◌, ℕ, ◌+◌, ◌≤◌, true, false, List, [], ◌∷◌, ◌++◌, length, get_or, refl, sym, ◌∙◌, ap, subst, arith, append-nil, length-append, ◌-◌}
use Rattle.std.specs.Prelude.{All, AllPairs, Any}
use Rattle.std.proofs.lemmas.Bool.Decides.{nat_tests}
use Rattle.std.proofs.lemmas.List.{get_or_append_left, get_or-append_right}
use Rattle.oc_layout.specs.declared.cells.Cell.{Cell}
use Rattle.oc_layout.specs.Layout.{first_cell}
use Rattle.oc_pages.specs.declared.page.Page.{Page}
use Rattle.oc_pages.specs.Pages.{no_cell, is_empty, is_page, place_of, first_of, IsInRange, IsOther}
use Rattle.oc_pages.specs.Chains.{StandsAt, ReadsAs, Leads, Chain, HasPages, page_at}
use Rattle.oc_pages.proofs.Tables.{same_space}

-- a cell that names a page isn't empty
page_or_none : (p : Page) → place_of p ≡ no_cell → ⊥
page_or_none p e = let len : 1024 ≡ 0 = ap (λ (c : Cell). c.len) e in omega (arith, len)

-- what is read is one page
pub reads_only : (p q : Page) (b c : List ℕ) → p.at ≡ q.at → b ≡ c → ReadsAs p b → ReadsAs q c → p ≡ q
reads_only p q b c at same one two =
    let link : p.link ≡ q.link = one.link ∙ ap first_cell same ∙ sym two.link in
    let space : p.space ≡ q.space = same_space p.space q.space (grind (arith, one.space, two.space, same)) in
    let index : p.index ≡ q.index = grind (arith, one.index, two.index, same) in
    let cells : p.cells ≡ q.cells = grind (arith, one.cells, two.cells, same) in
    λ i. record { at = at i; space = space i; index = index i; link = link i; cells = cells i }

-- a cell names one page of an image
pub stands_only : (unit : ℕ) (image : List ℕ) (root : Cell) (p q : Page) → StandsAt unit image root p → StandsAt unit image root q → p ≡ q
stands_only unit image root p q one two =
    let at : p.at ≡ q.at = ap (λ (c : Cell). c.at) (sym one.place ∙ two.place) in
    reads_only p q (page_at unit image p.at) (page_at unit image q.at) at (ap (page_at unit image) at) one.reads two.reads

-- one page more
pub leads_more : (unit : ℕ) (image : List ℕ) (root : Cell) (done : List Page) (next : Cell) (p : Page) → Leads unit image root done next → StandsAt unit image next p → Leads unit image root (done ++ p ∷ []) p.link
leads_more unit image root [] next p e stands = (subst (λ (c : Cell). StandsAt unit image c p) (sym e) stands, refl)
leads_more unit image root (d ∷ ds) next p leads stands = (leads.0, leads_more unit image d.link ds next p leads.1 stands)

-- what a chain has behind the pages that lead to a cell
pub record Rest (unit : ℕ) (image : List ℕ) (done : List Page) (next : Cell) (pages : List Page) : Type 0 where
  pub rest : List Page
  pub split : pages ≡ done ++ rest
  pub chain : Chain unit image next rest

-- a chain has the pages that lead from its root cell
pub leads_split : (unit : ℕ) (image : List ℕ) (root : Cell) (done : List Page) (next : Cell) (pages : List Page) → Leads unit image root done next → Chain unit image root pages → Rest unit image done next pages
leads_split unit image root [] next pages e chain = record { rest = pages; split = refl; chain = subst (λ (c : Cell). Chain unit image c pages) e chain }
leads_split unit image root (d ∷ ds) next [] leads chain = absurd (page_or_none d (sym leads.0.place ∙ chain))
leads_split unit image root (d ∷ ds) next (p ∷ ps) leads chain =
    let same : d ≡ p = stands_only unit image root d p leads.0 chain.0 in
    let behind = leads_split unit image d.link ds next ps leads.1 (subst (λ (q : Page). Chain unit image q.link ps) (sym same) chain.1) in
    record { rest = behind.rest; split = λ i. sym same i ∷ behind.split i; chain = behind.chain }

-- an image has one chain from a root cell
pub chain_only : (unit : ℕ) (image : List ℕ) (root : Cell) (pages others : List Page) → Chain unit image root pages → Chain unit image root others → pages ≡ others
chain_only unit image root pages others one two = none_behind pages others (leads_split unit image root pages no_cell others one two)
  where
    none_behind : (pages others : List Page) → Rest unit image pages no_cell others → pages ≡ others
    none_behind pages others r = sym (r.split ∙ ap (λ (l : List Page). pages ++ l) (nothing r.rest r.chain) ∙ append-nil pages)
      where
        nothing : (rest : List Page) → Chain unit image no_cell rest → rest ≡ []
        nothing [] chain = refl
        nothing (p ∷ ps) chain = absurd (page_or_none p (sym chain.0.place))

-- the page that a chain has at a cell that isn't empty
pub record Next (unit : ℕ) (image : List ℕ) (done : List Page) (next : Cell) (pages : List Page) : Type 0 where
  pub page : Page
  pub rest : List Page
  pub split : pages ≡ done ++ page ∷ rest
  pub stands : StandsAt unit image next page

pub next_of : (unit : ℕ) (image : List ℕ) (root : Cell) (done : List Page) (next : Cell) (pages : List Page) → is_empty next ≡ false → Leads unit image root done next → Chain unit image root pages → Next unit image done next pages
next_of unit image root done next pages some leads chain = of_rest (leads_split unit image root done next pages leads chain)
  where
    of_rest : Rest unit image done next pages → Next unit image done next pages
    of_rest r = behind r.rest r.split r.chain
      where
        behind : (rest : List Page) → pages ≡ done ++ rest → Chain unit image next rest → Next unit image done next pages
        behind [] split e = let none : is_empty next ≡ true = ap is_empty e in absurd (cc (none, some))
        behind (p ∷ ps) split chain = record { page = p; rest = ps; split = split; stands = chain.0 }

-- a page more was read than the chain's pages so far, and the chain has it
pub more_pages : (unit : ℕ) (image : List ℕ) (root : Cell) (done : List Page) (next : Cell) (pages : List Page) → is_empty next ≡ false → Leads unit image root done next → Chain unit image root pages → length done + 1 ≤ length pages
more_pages unit image root done next pages some leads chain =
    let n = next_of unit image root done next pages some leads chain in
    omega (arith, ap length n.split, length-append done (n.page ∷ n.rest))

pub no_fewer_pages : (unit : ℕ) (image : List ℕ) (root : Cell) (done : List Page) (next : Cell) (pages : List Page) → Leads unit image root done next → Chain unit image root pages → length done ≤ length pages
no_fewer_pages unit image root done next pages leads chain =
    let r = leads_split unit image root done next pages leads chain in
    omega (arith, ap length r.split, length-append done r.rest)

-- where no page in range stands at the next cell, there are no pages
pub no_pages_there : (unit : ℕ) (image : List ℕ) (root : Cell) (done : List Page) (next : Cell) (pages : List Page) → is_empty next ≡ false → Leads unit image root done next
    → ((p : Page) → StandsAt unit image next p → IsInRange p → ⊥) → HasPages unit image root pages → ⊥
no_pages_there unit image root done next pages some leads none has =
    let n = next_of unit image root done next pages some leads has.chain in
    let in_range = at_seam done n.page n.rest (subst (λ (l : List Page). All IsInRange l) n.split has.in_range) in
    none n.page n.stands in_range
  where
    at_seam : (done : List Page) (p : Page) (rest : List Page) → All IsInRange (done ++ p ∷ rest) → IsInRange p
    at_seam done p rest all =
        let zero_ : length done - length done ≡ 0 = omega arith in
        let here : get_or (done ++ p ∷ rest) (length done) p ≡ p = get_or-append_right done (p ∷ rest) (length done) (length done) p refl (omega arith) ∙ ap (λ (k : ℕ). get_or (p ∷ rest) k p) zero_ in
        subst IsInRange here (all (length done) p (omega (arith, length-append done (p ∷ rest))))

-- where the next page is of the space and index of an earlier one, there are none
pub no_pages_twice : (unit : ℕ) (image : List ℕ) (root : Cell) (done : List Page) (next : Cell) (q : Page) (pages : List Page) → is_empty next ≡ false → Leads unit image root done next
    → StandsAt unit image next q → Any (λ p. is_page q.space q.index p ≡ true) done → HasPages unit image root pages → ⊥
no_pages_twice unit image root done next q pages some leads stands twice has =
    let n = next_of unit image root done next pages some leads has.chain in
    let same : n.page ≡ q = stands_only unit image next n.page q n.stands stands in
    let k = twice.0 in
    let p = twice.1 in
    let zero_ : length done - length done ≡ 0 = omega arith in
    let all = done ++ n.page ∷ n.rest in
    let size = length-append done (n.page ∷ n.rest) in
    let other = subst (λ (l : List Page). AllPairs IsOther l) n.split has.distinct k (length done) p twice.2 (omega (arith, size)) in
    let at_k : get_or all k p ≡ p = get_or_append_left done (n.page ∷ n.rest) p k twice.2 ∙ twice.3 in
    let at_end : get_or all (length done) p ≡ q = get_or-append_right done (n.page ∷ n.rest) (length done) (length done) p refl (omega arith) ∙ ap (λ (j : ℕ). get_or (n.page ∷ n.rest) j p) zero_ ∙ same in
    let no_ : is_page p.space p.index q ≡ false = subst (λ (x : Page). is_page x.space x.index q ≡ false) at_k (subst (λ (x : Page). IsOther (get_or all k p) x) at_end other) in
    apart p q no_ twice.4
  where
    apart : (p q : Page) → is_page p.space p.index q ≡ false → is_page q.space q.index p ≡ true → ⊥
    apart p q no_ yes_ = grind (arith, nat_tests, no_, yes_)

-- the root cell of pages that lead to another
abbrev pub first_or : Cell → List Page → Cell
first_or next [] = next
first_or next (p ∷ ps) = place_of p

pub first_more : (root next : Cell) (done : List Page) (p : Page) (link : Cell) → first_or next done ≡ root → place_of p ≡ next → first_or link (done ++ p ∷ []) ≡ root
first_more root next [] p link e here = here ∙ e
first_more root next (d ∷ ds) p link e here = e

pub first_last : (root next : Cell) (done : List Page) → is_empty next ≡ true → first_or next done ≡ root → first_of done ≡ root
first_last root next [] none e = empty_is next none ∙ e
  where
    empty_is : (c : Cell) → is_empty c ≡ true → no_cell ≡ c
    empty_is c none =
        let parts : (0 ≡ c.at) × (0 ≡ c.len) = grind (arith, nat_tests, none) in
        λ i. record { at = parts.0 i; len = parts.1 i }
first_last root next (d ∷ ds) none e = e

-- the cell that the pages lead to is empty, so they are the chain
pub leads_all : (unit : ℕ) (image : List ℕ) (root : Cell) (done : List Page) (next : Cell) → is_empty next ≡ true → Leads unit image root done next → Chain unit image root done
leads_all unit image root done next none leads = subst (λ (c : Cell). Leads unit image root done c) (empty_is next none) leads
  where
    empty_is : (c : Cell) → is_empty c ≡ true → c ≡ no_cell
    empty_is c none =
        let parts : (c.at ≡ 0) × (c.len ≡ 0) = grind (arith, nat_tests, none) in
        λ i. record { at = parts.0 i; len = parts.1 i }
