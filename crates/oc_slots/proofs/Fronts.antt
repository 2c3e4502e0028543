-- A file has one front.
use Rattle.std.proofs.Common.{◌≡◌, ◌∙◌, inl, inr, ℕ, List, Some, sym, subst}
use Rattle.oc_layout.specs.declared.cells.CellWrite.{CellWrite}
use Rattle.oc_layout.specs.declared.cells.Header.{Header}
use Rattle.oc_slots.specs.Forms.{Begins}
use Rattle.oc_slots.specs.Attaching.{ReadsLog, HasFront}

pub one_header : (b : List ℕ) (g h : Header) → Begins g b → Begins h b → g ≡ h
one_header b g h x y = x.fields ∙ sym y.fields

pub some_same : (vs ws : List CellWrite) → Some vs ≡ Some ws → vs ≡ ws
some_same vs ws e = cc

pub one_log : (h : Header) (b : List ℕ) (vs ws : List CellWrite) → ReadsLog h b vs → ReadsLog h b ws → vs ≡ ws
one_log h b vs ws (inl x) (inl y) = x.1 ∙ sym y.1
one_log h b vs ws (inl x) (inr y) = absurd (x.0 y.gate)
one_log h b vs ws (inr x) (inl y) = absurd (y.0 x.gate)
one_log h b vs ws (inr x) (inr y) = some_same vs ws (sym x.reads ∙ y.reads)

pub one_front : (b : List ℕ) (g h : Header) (vs ws : List CellWrite) → HasFront g vs b → HasFront h ws b → (g ≡ h) × (vs ≡ ws)
one_front b g h vs ws x y =
    let header = one_header b g h x.header y.header in
    (header, one_log h b vs ws (subst (λ k. ReadsLog k b vs) header x.log) y.log)
