-- What is read of a file of the form is its form.
use Rattle.std.proofs.Common.{◌≡◌, ◌∙◌, ℕ, List, length, sym, ap, subst}
use Rattle.std.specs.Prelude.{All}
use Rattle.oc_layout.specs.declared.cells.CellWrite.{CellWrite}
use Rattle.oc_layout.specs.declared.cells.Header.{Header}
use Rattle.oc_layout.specs.Layout.{unit_of, first_page_of, FitsCell}
use Rattle.oc_log.specs.Log.{put_cells}
use Rattle.oc_pages.specs.declared.page.Page.{Page}
use Rattle.oc_pages.specs.Chains.{HasPages}
use Rattle.oc_pages.proofs.ChainLaws.{chain_only}
use Rattle.oc_slots.specs.Attaching.{HasFront, HasThings, with_cells}
use Rattle.oc_slots.specs.Forms.{HasForm}
use Rattle.oc_slots.proofs.FormParts.{cells_kept, form_front, form_pages, form_things}
use Rattle.oc_slots.proofs.Fronts.{one_front}

-- the file's bytes b, which are read as e, its front, and the header with the writes put in
module _ (b e : List ℕ) (same : e ≡ b) (g : Header) (vs vs1 vs2 : List CellWrite) (one : vs1 ≡ vs) (two : vs2 ≡ vs) (x : Header) (put : x ≡ with_cells g vs1) where
  is_put : x ≡ with_cells g vs
  is_put = put ∙ ap (with_cells g) one

  pub unit_is : unit_of x ≡ unit_of g
  unit_is = ap unit_of (is_put ∙ cells_kept vs g)

  pub found : (pages : List Page) → HasPages (unit_of x) (put_cells vs2 e) (first_page_of x) pages → HasPages (unit_of g) (put_cells vs b) (first_page_of (with_cells g vs)) pages
  found pages has =
      subst (λ r. HasPages (unit_of g) (put_cells vs b) r pages) (ap first_page_of is_put)
      (subst (λ l. HasPages (unit_of g) l (first_page_of x) pages) (λ i. put_cells (two i) (same i)) (subst (λ u. HasPages u (put_cells vs2 e) (first_page_of x) pages) unit_is has))

  asks : (pages : List Page) → HasPages (unit_of g) (put_cells vs b) (first_page_of (with_cells g vs)) pages → HasPages (unit_of x) (put_cells vs2 e) (first_page_of x) pages
  asks pages has =
      subst (λ u. HasPages u (put_cells vs2 e) (first_page_of x) pages) (sym unit_is)
      (subst (λ l. HasPages (unit_of g) l (first_page_of x) pages) (λ i. put_cells (sym two i) (sym same i)) (subst (λ r. HasPages (unit_of g) (put_cells vs b) r pages) (sym (ap first_page_of is_put)) has))

  module _ (front : HasFront g vs b) (fits : All (λ w. FitsCell w.cell) vs) (h : Header) (ws : List CellWrite) (pages : List Page) (form : HasForm h ws pages b) where
    front_is : (h ≡ g) × (ws ≡ vs)
    front_is = one_front b h g ws vs (form_front h ws pages b form) front

    pub header_is : h ≡ g
    header_is = front_is.0

    moved : HasForm g vs pages b
    moved = subst (λ l. HasForm g l pages b) front_is.1 (subst (λ k. HasForm k ws pages b) front_is.0 form)

    pub asked : HasPages (unit_of x) (put_cells vs2 e) (first_page_of x) pages
    asked = asks pages (form_pages g vs pages b moved fits)

    pub pages_are : (ps : List Page) → HasPages (unit_of x) (put_cells vs2 e) (first_page_of x) ps → pages ≡ ps
    pages_are ps has = chain_only _ _ _ _ _ asked.chain has.chain

    pub things_asked : (ps : List Page) → HasPages (unit_of x) (put_cells vs2 e) (first_page_of x) ps → HasThings g vs ps (length b)
    things_asked ps has = subst (λ l. HasThings g vs l (length b)) (pages_are ps has) (form_things g vs pages b moved)
