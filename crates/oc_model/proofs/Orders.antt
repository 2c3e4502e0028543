-- The order of single values is total, and tells all but nulls apart.
use Rattle.std.proofs.Common.{◌≡◌, ◌∙◌, ap, sym, refl, inl, inr, IsTrue, ℕ, zero, Bool, true, false, List, Some, None, arith}
use Rattle.std.specs.Ordering.{ordering_then, nat_cmp, int_cmp, bool_cmp}
use Rattle.std.specs.declared.cmp.Ordering.{Ordering}
use Rattle.std.specs.declared.cmp.Ordering.TheVariants.{Less, Equal, Greater}
use Rattle.std.specs.Cmp.{IsTotalOrder, nat_cmp_total, int_cmp_total, bool_cmp_total}
use Rattle.std.proofs.lemmas.Cmp.{on_total, then_total, nat_list_cmp_total, tied_itself}
use Rattle.std.proofs.lemmas.Map.Lookups.{exact_unsigned, exact_signed, exact_bytes}
use Rattle.oc_model.specs.declared.value.Atom.{Atom}
use Rattle.oc_model.specs.declared.value.Atom.TheVariants as atom
use Rattle.oc_model.specs.Orders.{compare, rank, truth_of, number_of, text_of, text_cmp, ref_of, is_null, IsAlike}

pub compare_total : IsTotalOrder compare
compare_total =
    then_total (on_total rank nat_cmp_total) (then_total (on_total truth_of bool_cmp_total)
    (then_total (on_total number_of int_cmp_total) (then_total (on_total text_of nat_list_cmp_total) (on_total ref_of nat_cmp_total))))

first_equal : (a b : Ordering) → ordering_then a b ≡ Equal → a ≡ Equal
first_equal Less b h = h
first_equal Equal b h = refl
first_equal Greater b h = h

pub last_equal : (a b : Ordering) → ordering_then a b ≡ Equal → b ≡ Equal
last_equal Less b h = cc
last_equal Equal b h = h
last_equal Greater b h = cc

exact_truth : (x y : Bool) → bool_cmp x y ≡ Equal → x ≡ y
exact_truth false false h = refl
exact_truth false true h = cc
exact_truth true false h = cc
exact_truth true true h = refl

same_keys : (a b : Atom) → rank a ≡ rank b → truth_of a ≡ truth_of b → number_of a ≡ number_of b → text_of a ≡ text_of b → ref_of a ≡ ref_of b → IsAlike a b
same_keys (atom.Bool x) (atom.Bool y) h t n s r = inl (ap atom.Bool t)
same_keys (atom.Int x) (atom.Int y) h t n s r = inl (ap atom.Int n)
same_keys (atom.Text None) (atom.Text None) h t n s r = inl refl
same_keys (atom.Text (Some x)) (atom.Text (Some y)) h t n s r = inl (ap (λ (z : List ℕ). atom.Text (Some z)) s)
same_keys (atom.Ref x) (atom.Ref y) h t n s r = inl (ap atom.Ref r)
same_keys (atom.Text None) (atom.Ref zero) h t n s r = inr (refl, refl)
same_keys (atom.Ref zero) (atom.Text None) h t n s r = inr (refl, refl)
same_keys (atom.Text (Some x)) (atom.Ref y) h t n s r = absurd (grind (arith, h))
same_keys (atom.Ref x) (atom.Text (Some y)) h t n s r = absurd (grind (arith, h))
same_keys (atom.Bool x) (atom.Text (Some y)) h t n s r = absurd (omega (arith, h))
same_keys (atom.Bool x) (atom.Text None) h t n s r = absurd (omega (arith, h))
same_keys (atom.Int x) (atom.Text (Some y)) h t n s r = absurd (omega (arith, h))
same_keys (atom.Int x) (atom.Text None) h t n s r = absurd (omega (arith, h))
same_keys a b h t n s r = absurd (grind (arith, h))

pub alike : (a b : Atom) → compare a b ≡ Equal → IsAlike a b
alike a b h =
    let truths = last_equal (nat_cmp (rank a) (rank b)) _ h in
    let numbers = last_equal (bool_cmp (truth_of a) (truth_of b)) _ truths in
    let texts = last_equal (int_cmp (number_of a) (number_of b)) _ numbers in
    let refs = last_equal (text_cmp (text_of a) (text_of b)) _ texts in
    same_keys a b
    (exact_unsigned _ _ (first_equal _ _ h))
    (exact_truth _ _ (first_equal _ _ truths))
    (exact_signed _ _ (first_equal _ _ numbers))
    (exact_bytes _ _ (first_equal _ _ texts))
    (exact_unsigned _ _ refs)

nulls : (a b : Atom) → IsTrue (is_null a) → IsTrue (is_null b) → compare a b ≡ Equal
nulls (atom.Text None) (atom.Text None) p q = refl
nulls (atom.Text None) (atom.Ref zero) p q = refl
nulls (atom.Ref zero) (atom.Text None) p q = refl
nulls (atom.Ref zero) (atom.Ref zero) p q = refl
nulls a b p q = absurd (grind (arith, p, q))

pub from_alike : (a b : Atom) → IsAlike a b → compare a b ≡ Equal
from_alike a b (inl e) = ap (compare a) (sym e) ∙ tied_itself compare_total a
from_alike a b (inr n) = nulls a b n.0 n.1
