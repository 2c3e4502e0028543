-- A file gives one map at most.
use Rattle.std.proofs.Common.{◌≡◌, ◌∙◌, inl, inr, ℕ, List, sym, subst}
use Rattle.oc_layout.specs.declared.cells.CellWrite.{CellWrite}
use Rattle.oc_layout.specs.declared.cells.Header.{Header}
use Rattle.oc_layout.specs.Layout.{unit_of, first_page_of}
use Rattle.oc_layout.specs.Headers.{fields}
use Rattle.oc_log.specs.Log.{put_cells}
use Rattle.oc_pages.specs.declared.page.Page.{Page}
use Rattle.oc_pages.specs.Pages.{pointer_of}
use Rattle.oc_pages.specs.Chains.{Chain}
use Rattle.oc_pages.proofs.ChainLaws.{chain_only}
use Rattle.oc_slots.specs.Maps.{SlotMap, Same, content}
use Rattle.oc_slots.specs.Forms.{ToPutIn, HasForm, Gives}
use Rattle.oc_slots.proofs.Fronts.{some_same}

one_log : (h : Header) (image : List ℕ) (vs ws : List CellWrite) → ToPutIn h image vs → ToPutIn h image ws → vs ≡ ws
one_log h image vs ws (inl a) (inl b) = a.1 ∙ sym b.1
one_log h image vs ws (inl a) (inr b) = absurd (a.0 b.0)
one_log h image vs ws (inr a) (inl b) = absurd (b.0 a.0)
one_log h image vs ws (inr a) (inr b) = some_same vs ws (sym a.2.log ∙ b.2.log)

pub one_form : (image : List ℕ) (g h : Header) (vs ws : List CellWrite) (ps qs : List Page) → HasForm g vs ps image → HasForm h ws qs image → (g ≡ h) × (vs ≡ ws) × (ps ≡ qs)
one_form image g h vs ws ps qs a b =
    let header : g ≡ h = a.header.fields ∙ sym b.header.fields in
    let log : vs ≡ ws = one_log h image vs ws (subst (λ x. ToPutIn x image vs) header a.log) b.log in
    let chain : Chain (unit_of h) (put_cells ws image) (first_page_of (fields (put_cells ws image))) ps =
    subst (λ l. Chain (unit_of h) (put_cells l image) (first_page_of (fields (put_cells l image))) ps) log (subst (λ x. Chain (unit_of x) (put_cells vs image) (first_page_of (fields (put_cells vs image))) ps) header a.chain.chain) in
    (header, log, chain_only _ _ _ _ _ chain b.chain.chain)

pub one_map : (image : List ℕ) (m n : SlotMap) → Gives image m → Gives image n → Same m n
one_map image m n a b id =
    let same = one_form image a.header b.header a.writes b.writes a.pages b.pages a.form b.form in
    a.slots id
    ∙ (λ i. content (unit_of (same.0 i)) (put_cells (same.1 i) image) (pointer_of (same.2 i) id.space id.number))
    ∙ sym (b.slots id)
