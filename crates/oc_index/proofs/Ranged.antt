-- Numbers in order, and entries of one value.
use Rattle.std.proofs.Common.{◌≡◌, refl, ℕ, cond, not, ◌&&◌, arith}
use Rattle.std.specs.Ordering.{is_lt, is_eq, is_gt, nat_cmp}
use Rattle.std.specs.declared.cmp.Ordering.{Ordering}
use Rattle.std.specs.declared.cmp.Ordering.TheVariants.{Less, Equal, Greater}
use Rattle.std.proofs.lemmas.Bool.Decides.{nat_tests}

pub nat_exact : (m n : ℕ) → nat_cmp m n ≡ Equal → m ≡ n
nat_exact m n is = grind (arith, nat_tests, is)

pub one_value : (r : Ordering) → (is_gt (cond (is_lt r) Less Greater) && not (is_gt (cond (is_gt r) Greater Less))) ≡ is_eq r
one_value Less = refl
one_value Equal = refl
one_value Greater = refl
