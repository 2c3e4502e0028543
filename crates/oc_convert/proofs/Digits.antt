-- Numbers by their digits.
use Rattle.std.proofs.Common.{◌≡◌, ℕ, ◌+◌, ◌-◌, ◌*◌, ◌<◌, ◌≤◌, suc, false, nat_le, [], ◌∷◌, length, get_or, drop, drop-cons, ap, arith}
use Rattle.std.proofs.lemmas.Bool.Decides.{nat_tests}
use Rattle.oc_model.specs.Maps.{Text}
use Rattle.oc_model.specs.Conversions.{number}
use Rattle.oc_convert.specs.Ranges.{number_after}

-- more digits spell no smaller number
number_grows : (n : ℕ) (digits : Text) → n ≤ number_after n digits
number_grows n [] = omega arith
number_grows n (d ∷ digits) = omega (arith, number_grows (10 * n + (d - 48)) digits)

-- Where one digit more passes the limit, so does the whole number.
pub past_limit : (limit n i : ℕ) (digits : Text) → number_after n (drop i digits) ≡ number digits → i < length digits → limit < 10 * n + (get_or digits i 0 - 48) → nat_le (number digits) limit ≡ false
past_limit limit n i digits e lt more =
    let m = 10 * n + (get_or digits i 0 - 48) in
    let step : number_after n (drop i digits) ≡ number_after m (drop (suc i) digits) = ap (number_after n) (drop-cons digits i 0 lt) in
    let grows = number_grows m (drop (suc i) digits) in
    grind (arith, nat_tests)
