-- What a number or a truth value is as a text spells it again.
use Rattle.std.proofs.Common.{◌≡◌, ◌∙◌, ap, refl, IsTrue, ℕ, suc, ◌+◌, ◌-◌, ◌*◌, ◌/◌, ◌%◌, ◌^◌, ◌<◌, ◌≤◌, Bool, true, false, nat_le, List, [], ◌∷◌, ◌++◌, length, Some, None, arith, length-append}
use Rattle.std.specs.Prelude.{ℤ, pos, negsuc, neg_ℤ, option_map, if◌then◌else◌, decimal, ◌==◌}
use Rattle.std.specs.List.{list_all}
use Rattle.std.specs.Char.{is_ascii_digit}
use Rattle.std.specs.Fmt.{signed_decimal}
use Rattle.std.proofs.lemmas.Fmt.{decimal_by_steps_wide, length-decimal-le_wide}
use Rattle.std.proofs.lemmas.List.Folds.{list_all-append}
use Rattle.std.proofs.lemmas.List.Sums.{fold-append}
use Rattle.std.proofs.lemmas.Bool.Decides.{nat_tests}
use Rattle.std.proofs.lemmas.Bool.{and_parts, and_from}
use Rattle.oc_model.specs.Maps.{Text}
use Rattle.oc_model.specs.Conversions.{number, natural_spelled, number_spelled}

record IsDecimal (n : ℕ) (ds : Text) : Type 0 where
  some : 1 ≤ length ds
  are_digits : IsTrue (list_all is_ascii_digit ds)
  value : number ds ≡ n

digit : (d : ℕ) → d < 10 → IsTrue (is_ascii_digit (48 + d))
digit d h = grind (arith, nat_tests)

one_digit : (n : ℕ) → n < 10 → IsDecimal n ((48 + n) ∷ [])
one_digit n h = record { some = omega arith; are_digits = and_from (is_ascii_digit (48 + n)) true (digit n h) refl; value = omega arith }

more_digits : (n : ℕ) (ds : List ℕ) → 10 ≤ n → IsDecimal (n / 10) ds → IsDecimal n (ds ++ ((48 + n % 10) ∷ []))
more_digits n ds h p =
    let last = and_from (is_ascii_digit (48 + n % 10)) true (digit (n % 10) (grind arith)) refl in
    record {
      some = omega (arith, p.some, length-append ds ((48 + n % 10) ∷ []));
      are_digits = list_all-append is_ascii_digit ds ((48 + n % 10) ∷ []) ∙ and_from _ _ p.are_digits last;
      value = fold-append (λ n d. 10 * n + (d - 48)) 0 ds ((48 + n % 10) ∷ []) ∙ (let v = p.value in grind (arith, v));
    }

decimal_is : (n : ℕ) → n < 10 ^ 64 → IsDecimal n (decimal n)
decimal_is = decimal_by_steps_wide IsDecimal one_digit more_digits

at_most : (m n : ℕ) → m ≤ n → nat_le m n ≡ true
at_most m n h = grind (arith, nat_tests)

passed : (test : Bool) (n : ℕ) → test ≡ true → (if test then Some n else None) ≡ Some n
passed true n h = refl
passed false n h = cc

natural_again : (n : ℕ) → n < 10 ^ 39 → natural_spelled (decimal n) ≡ Some n
natural_again n h =
    let d = decimal_is n (omega (arith, h)) in
    let few = length-decimal-le_wide 39 n (omega arith) h (omega (arith, h)) in
    passed _ _ (and_from _ _ (and_from (nat_le 1 (length (decimal n))) (nat_le (length (decimal n)) 39) (at_most _ _ d.some) (at_most _ _ few)) d.are_digits)
    ∙ ap Some d.value

no_sign : (c : ℕ) → IsTrue (is_ascii_digit c) → (c == 45) ≡ false
no_sign c h = grind (arith, nat_tests)

second_branch : {X : Type 0} (test : Bool) (x y : X) → test ≡ false → (if test then x else y) ≡ y
second_branch false x y h = refl
second_branch true x y h = cc

-- a digit in front is no sign
unsigned : (ds : Text) → 1 ≤ length ds → IsTrue (list_all is_ascii_digit ds) → number_spelled ds ≡ option_map pos (natural_spelled ds)
unsigned [] some h = absurd (omega (arith, some))
unsigned (c ∷ ds) some h = second_branch _ _ _ (no_sign c (and_parts (is_ascii_digit c) _ h).0)

-- the number without its sign
abbrev pub size : ℤ → ℕ
size (pos n) = n
size (negsuc n) = suc n

pub number_again : (n : ℤ) → size n < 10 ^ 39 → number_spelled (signed_decimal n) ≡ Some n
number_again (pos n) h =
    let d = decimal_is n (omega (arith, h)) in
    unsigned (decimal n) d.some d.are_digits ∙ ap (option_map pos) (natural_again n h)
number_again (negsuc n) h = ap (option_map (λ m. neg_ℤ (pos m))) (natural_again (suc n) h)
