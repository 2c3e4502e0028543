-- Which objects are there after one change of several.
use Rattle.std.proofs.Common.{get_or, ◌≡◌, ◌≢◌, ◌⊎◌, inl, inr, ◌∙◌, ap, sym, refl, ℕ, zero, suc, drop, ◌==◌, true, false, cond, List, [], ◌∷◌, Option, None, Some, is_some}
use Rattle.std.specs.Prelude.{All}
use Rattle.std.proofs.lemmas.Bool.Decides.{eqb_tells}
use Rattle.oc_model.specs.declared.value.Rec.{Rec}
use Rattle.oc_index.specs.declared.items.ExtentItem.{ExtentItem}
use Rattle.oc_lists.specs.declared.record.RecChange.{RecChange}
use Rattle.oc_lists.specs.Changing.{there_after}
use Rattle.oc_lists.specs.Lists.{class_in}
use Rattle.oc_lists.specs.Refiling.{class_of_rec, relisted}
use Rattle.oc_lists.proofs.Changed.{distinct_first, distinct_rest, rec_unnamed, there_is, AreDistinct}
use Rattle.oc_lists.proofs.FieldWise.{turned}
use Rattle.oc_lists.proofs.Notes.{class_relisted}

has_class : (r : Option Rec) → is_some (class_of_rec r) ≡ is_some r
has_class None = refl
has_class (Some r) = refl

pub distinct_drop : (i : ℕ) (cs : List RecChange) → AreDistinct cs → AreDistinct (drop i cs)
distinct_drop zero cs apart = apart
distinct_drop (suc i) [] apart = apart
distinct_drop (suc i) (c ∷ cs) apart = distinct_drop i cs (distinct_rest c cs apart)

pub there_more : (c : RecChange) (cs : List RecChange) (es : List ExtentItem) → AreDistinct (c ∷ cs) → (n : ℕ)
    → there_after cs n (is_some (class_in (relisted c.number (class_of_rec c.rec) es) n)) ≡ there_after (c ∷ cs) n (is_some (class_in es n))
there_more c cs es apart n = ap (λ o. there_after cs n (is_some o)) (class_relisted c.number (class_of_rec c.rec) es n) ∙ by_number (eqb_tells c.number n)
  where
    others : c.number ≡ n → All (λ d. (d.number == n) ≡ false) cs
    others same k d lt = turned (get_or cs k d).number n ∙ ap (λ m. m == (get_or cs k d).number) (sym same) ∙ distinct_first c cs apart k d lt

    by_number : (((c.number == n) ≡ true) × (c.number ≡ n)) ⊎ (((c.number == n) ≡ false) × (c.number ≢ n))
        → there_after cs n (is_some (cond (c.number == n) (class_of_rec c.rec) (class_in es n))) ≡ cond (c.number == n) (is_some c.rec) (there_after cs n (is_some (class_in es n)))
    by_number (inl same) =
        ap (λ b. there_after cs n (is_some (cond b (class_of_rec c.rec) (class_in es n)))) same.0 ∙ ap (there_after cs n) (has_class c.rec)
        ∙ sym (there_is cs n c.rec) ∙ ap is_some (rec_unnamed cs n c.rec (others same.1))
        ∙ sym (ap (λ b. cond b (is_some c.rec) (there_after cs n (is_some (class_in es n)))) same.0)
    by_number (inr off) =
        ap (λ b. there_after cs n (is_some (cond b (class_of_rec c.rec) (class_in es n)))) off.0
        ∙ sym (ap (λ b. cond b (is_some c.rec) (there_after cs n (is_some (class_in es n)))) off.0)
