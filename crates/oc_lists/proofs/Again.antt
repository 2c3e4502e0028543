-- The extents stay where an object is put in as it stands, or taken out though it isn't there.
use Rattle.std.proofs.Common.{◌≡◌, ◌↔◌, ◌∙◌, ap, sym, refl, subst, ℕ, Bool, true, false, cond, not, IsTrue, List, [], ◌∷◌, filter, find, Option, None, Some, option_map, nat_cmp}
use Rattle.std.specs.Ordering.{is_eq, is_lt, ordering_reverse}
use Rattle.std.specs.declared.cmp.Ordering.TheVariants.{Less}
use Rattle.std.specs.Cmp.{nat_cmp_total}
use Rattle.std.proofs.lemmas.Bool.{iff_false}
use Rattle.std.proofs.lemmas.Map.Lookups.{exact_unsigned}
use Rattle.oc_model.specs.declared.value.Rec.{Rec}
use Rattle.oc_model.specs.Lists.{placed}
use Rattle.oc_model.proofs.Reaching.{is_equal}
use Rattle.oc_chunks.specs.Ascending.{replaced, Each, IsAscending}
use Rattle.oc_chunks.specs.Chunks.{joined, Chunked}
use Rattle.oc_index.specs.declared.items.ExtentItem.{ExtentItem}
use Rattle.oc_index.specs.Items.{extent_cmp}
use Rattle.oc_index.specs.Ranges.{is_numbered}
use Rattle.oc_lists.specs.Lists.{class_in}
use Rattle.oc_lists.specs.Refiling.{class_of_rec, relisted}
use Rattle.oc_lists.specs.Staying.{IsListed}
use Rattle.oc_lists.proofs.Placing.{behind, in_front}

module _ (n : ℕ) where
  abbrev Others : List ExtentItem → List ExtentItem
  Others es = filter (λ e. not (is_numbered n e)) es

  -- no object has the number
  none_gone : (es : List ExtentItem) → class_in es n ≡ None → Others es ≡ es
  none_gone [] none = refl
  none_gone (e ∷ es) none =
      (elim (is_numbered n e) as (λ t. option_map (λ (d : ExtentItem). d.class) (cond t (Some e) (find (is_numbered n) es)) ≡ None → cond (not t) (e ∷ Others es) (Others es) ≡ e ∷ es) [
        | true ↦ λ h. absurd (cc)
        | false ↦ λ h. ap (λ l. e ∷ l) (none_gone es h)
      ]) none

  -- all numbers are above this one
  above : (m : ℕ) → nat_cmp n m ≡ Less → nat_cmp m n ≡ ordering_reverse Less
  above m below = nat_cmp_total.antisymm m n ∙ ap ordering_reverse below

  all_above : (es : List ExtentItem) → Each (λ e. nat_cmp n e.number ≡ Less) es → Others es ≡ es
  all_above [] each = refl
  all_above (e ∷ es) each = ap (λ o. cond (not (is_eq o)) (e ∷ Others es) (Others es)) (above e.number each.0) ∙ ap (λ l. e ∷ l) (all_above es each.1)

  module _ (class : ℕ) where
    abbrev It : ExtentItem
    It = record { number = n; class = class }

    at_front : (es : List ExtentItem) → Each (λ e. nat_cmp n e.number ≡ Less) es → placed extent_cmp It es ≡ It ∷ es
    at_front [] each = refl
    at_front (e ∷ es) each = in_front extent_cmp It e es (ap is_lt (above e.number each.0))

    -- what is below all is below the one that is there
    below_it : (k : ℕ) (es : List ExtentItem) → Each (λ e. nat_cmp k e.number ≡ Less) es → class_in es n ≡ Some class → nat_cmp k n ≡ Less
    below_it k [] each there = absurd (cc)
    below_it k (e ∷ es) each there =
        (elim (is_numbered n e) as (λ t. is_numbered n e ≡ t → option_map (λ (d : ExtentItem). d.class) (cond t (Some e) (find (is_numbered n) es)) ≡ Some class → nat_cmp k n ≡ Less) [
          | true ↦ λ is h. subst (λ m. nat_cmp k m ≡ Less) (exact_unsigned e.number n (is_equal (nat_cmp e.number n) is)) each.0
          | false ↦ λ isnt h. below_it k es each.1 h
        ]) refl there

    replaced_same : (es : List ExtentItem) → IsAscending extent_cmp es → class_in es n ≡ Some class → replaced extent_cmp It es ≡ es
    replaced_same [] up there = absurd (cc)
    replaced_same (e ∷ es) up there =
        (elim (is_numbered n e) as (λ t. is_numbered n e ≡ t → option_map (λ (d : ExtentItem). d.class) (cond t (Some e) (find (is_numbered n) es)) ≡ Some class → placed extent_cmp It (cond (not t) (e ∷ Others es) (Others es)) ≡ e ∷ es) [
          | true ↦ λ is h.
              let number : e.number ≡ n = exact_unsigned e.number n (is_equal (nat_cmp e.number n) is) in
              let same : e.class ≡ class = cc in
              let it : It ≡ e = λ i. record { number = sym number i; class = sym same i } in
              let each : Each (λ d. nat_cmp n d.number ≡ Less) es = subst (λ m. Each (λ (d : ExtentItem). nat_cmp m d.number ≡ Less) es) number up.0 in
              ap (placed extent_cmp It) (all_above es each) ∙ at_front es each ∙ ap (λ (d : ExtentItem). d ∷ es) it
          | false ↦ λ isnt h. behind extent_cmp It e (Others es) (ap is_lt (below_it e.number es up.0 h)) ∙ ap (λ l. e ∷ l) (replaced_same es up.1 h)
        ]) refl there

-- the object stands as it is to be
pub relisted_same : (n : ℕ) (class : Option ℕ) (es : List ExtentItem) → IsAscending extent_cmp es → class_in es n ≡ class → relisted n class es ≡ es
relisted_same n None es up is = none_gone n es is
relisted_same n (Some class) es up is = replaced_same n class es up is

-- what a search over the extents tells of them
module _ (n : ℕ) (rec : Option Rec) (e f : Chunked ExtentItem) (same : f ≡ e) where
  pub listed_stays : IsAscending extent_cmp (joined f.chunks) → IsListed (joined f.chunks) n rec → joined e.chunks ≡ relisted n (class_of_rec rec) (joined e.chunks)
  listed_stays up listed = subst (λ (d : Chunked ExtentItem). joined d.chunks ≡ relisted n (class_of_rec rec) (joined d.chunks)) same (sym (relisted_same n (class_of_rec rec) (joined f.chunks) up listed))

  pub never_listed : {A : Type 0} (b : Bool) → IsTrue b ↔ IsListed (joined f.chunks) n rec → b ≡ false → IsListed (joined e.chunks) n rec → A
  never_listed b tells off listed = absurd (iff_false tells off (subst (λ (d : Chunked ExtentItem). IsListed (joined d.chunks) n rec) (sym same) listed))
