-- Headers of which the log cell, the gate or the root cell may differ.
use Rattle.std.proofs.Common.{◌≡◌, ◌∙◌, ◌⊎◌, inl, inr, ℕ, ◌<◌, ◌≤◌, List, length, get_or, sym, ap, refl, arith}
use Rattle.std.specs.Prelude.{◌==◌, if◌then◌else◌}
use Rattle.std.proofs.lemmas.Bool.{cases_Bool}
use Rattle.oc_layout.specs.declared.cells.Header.{Header}
use Rattle.oc_layout.specs.Layout.{unit_of, room_of, is_wide, first_page_of}
use Rattle.oc_layout.specs.Headers.{fields, is_in_range}
use Rattle.oc_log.proofs.Bytes.{slice_same}
use Rattle.oc_slots.specs.Forms.{Begins, IsOwn, root_place}
use Rattle.oc_slots.proofs.Headers.{number_same, cell_same}

root_at : (h : Header) → (root_place h ≡ 16) ⊎ (root_place h ≡ 48)
root_at h = elim (cases_Bool (h.form == 2)) [ inl e ↦ inr (rw e refl) | inr e ↦ inl (rw e refl) ]

own : (h : Header) (k : ℕ) → k < 128 → (k < 16) ⊎ ((24 ≤ k) × (k < 32)) ⊎ ((40 ≤ k) × (k < 48)) ⊎ ((56 ≤ k) × (k < 64)) ⊎ (65 ≤ k) → IsOwn h k
own h k lt place = (
  lt,
  elim place [
    | inl a ↦ inl (omega (arith, a))
    | inr r ↦ elim r [ inl a ↦ inl (omega (arith, a.1)) | inr r ↦ inr (elim r [ inl a ↦ a.0 | inr r ↦ elim r [ inl a ↦ omega (arith, a.0) | inr a ↦ omega (arith, a) ] ]) ]
  ],
  elim place [
    | inl a ↦ inl (omega (arith, a))
    | inr r ↦ elim r [ inl a ↦ inl (omega (arith, a.1)) | inr r ↦ elim r [ inl a ↦ inl (omega (arith, a.1)) | inr r ↦ elim r [ inl a ↦ inl a.1 | inr a ↦ inr a ] ] ]
  ],
  elim (root_at h) [
    | inl e ↦ elim place [ inl a ↦ inl (omega (arith, a, e)) | inr r ↦ inr (elim r [ inl a ↦ omega (arith, a.0, e) | inr r ↦ elim r [ inl a ↦ omega (arith, a.0, e) | inr r ↦ elim r [ inl a ↦ omega (arith, a.0, e) | inr a ↦ omega (arith, a, e) ] ] ]) ]
    | inr e ↦ elim place [ inl a ↦ inl (omega (arith, a, e)) | inr r ↦ elim r [ inl a ↦ inl (omega (arith, a.1, e)) | inr r ↦ elim r [ inl a ↦ inl (omega (arith, a.1, e)) | inr r ↦ inr (elim r [ inl a ↦ omega (arith, a.0, e) | inr a ↦ omega (arith, a, e) ]) ] ] ]
  ],
)

module _ (h : Header) (b image : List ℕ) (begins : Begins h b) (long : 128 ≤ length image) (raw : (k : ℕ) → IsOwn h k → get_or image k 0 ≡ get_or b k 0) where
  abbrev g : Header
  g = fields image

  limit : g.limit ≡ (fields b).limit
  limit = number_same b image 8 (λ k ge lt. raw k (own h k (omega (arith, lt)) (inl (omega (arith, lt)))))

  first : g.first ≡ (fields b).first
  first = number_same b image 12 (λ k ge lt. raw k (own h k (omega (arith, lt)) (inl (omega (arith, lt)))))

  block : g.block ≡ (fields b).block
  block = number_same b image 40 (λ k ge lt. raw k (own h k (omega (arith, lt)) (inr (inr (inl (ge, omega (arith, lt)))))))

  block_limit : g.block_limit ≡ (fields b).block_limit
  block_limit = number_same b image 44 (λ k ge lt. raw k (own h k (omega (arith, lt)) (inr (inr (inl (omega (arith, ge), omega (arith, lt)))))))

  spare : g.spare ≡ (fields b).spare
  spare = cell_same b image 56 (λ k ge lt. raw k (own h k (omega (arith, lt)) (inr (inr (inr (inl (ge, omega (arith, lt))))))))

  form : g.form ≡ (fields b).form
  form = raw 65 (own h 65 (omega arith) (inr (inr (inr (inr (omega arith))))))

  -- from the header of the one to that of the other, but for the cells and the gate that may differ
  abbrev middle : Header
  middle = record (fields b) { root = g.root; log = g.log; gate = g.gate; block_root = g.block_root }

  between : g ≡ middle
  between i = record { limit = limit i; first = first i; root = g.root; log = g.log; gate = g.gate; block = block i; block_limit = block_limit i; block_root = g.block_root; spare = spare i; form = form i }

  pub first_number_same : g.first ≡ h.first
  first_number_same = first ∙ ap (λ (x : Header). x.first) (sym begins.fields)

  pub unit_same : unit_of g ≡ unit_of h
  unit_same = ap unit_of between ∙ ap unit_of (sym begins.fields)

  pub room_same : room_of g ≡ room_of h
  room_same = ap room_of between ∙ ap room_of (sym begins.fields)

  pub wide_same : is_wide g ≡ is_wide h
  wide_same = ap is_wide between ∙ ap is_wide (sym begins.fields)

  pub root_same : root_place g ≡ root_place h
  root_same = ap root_place between ∙ ap root_place (sym begins.fields)

  pub begins_changed : Begins g image
  begins_changed = record {
    long = long;
    fields = refl;
    in_range = ap is_in_range between ∙ ap is_in_range (sym begins.fields) ∙ begins.in_range;
    opening = slice_same 0 8 b image (omega (arith, begins.long)) (omega (arith, long)) (λ k ge lt. raw k (own h k (omega (arith, lt)) (inl (omega (arith, lt))))) ∙ begins.opening;
    zeros = λ k ge lt. raw k (own h k (omega (arith, lt)) (inr (inl (ge, lt)))) ∙ begins.zeros k ge lt;
    end_zeros = λ k ge lt. raw k (own h k lt (inr (inr (inr (inr (omega (arith, ge))))))) ∙ begins.end_zeros k ge lt;
  }

-- the first page, where the form and both root cells agree
pub first_page_same : (b c : List ℕ) → ((k : ℕ) → 16 ≤ k → k < 24 → get_or c k 0 ≡ get_or b k 0) → ((k : ℕ) → 48 ≤ k → k < 56 → get_or c k 0 ≡ get_or b k 0) → get_or c 65 0 ≡ get_or b 65 0
    → first_page_of (fields c) ≡ first_page_of (fields b)
first_page_same b c roots blocks form i = if form i == 2 then cell_same b c 48 blocks i else cell_same b c 16 roots i
