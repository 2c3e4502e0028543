-- Words as numbers with a sign.
use Rattle.std.proofs.Common.{◌≡◌, ◌∙◌, ap, sym, ℕ, zero, suc, ◌+◌, ◌-◌, ◌*◌, ◌%◌, ◌^◌, ◌<◌, ◌≤◌, IsTrue, arith, pow-suc}
use Rattle.std.specs.Prelude.{ℤ, pos, negsuc}
use Rattle.std.specs.Int.{bytes_high_first, cast_unsigned, w128}
use Rattle.std.proofs.lemmas.Bool.{ltb-true, lt-ltb}
use Rattle.std.proofs.lemmas.Nat.{pow-add}
use Rattle.std.proofs.Math.Nat.{add-mul-mod_self_right, mod-eq_of_lt, pow-le-pow_right}
use Rattle.oc_value.specs.Values.{fits_signed, fits_unsigned}
use Rattle.oc_value.specs.Integers.{number_bytes}
use Rattle.oc_value.proofs.Bytes.{pow_256, some_256, above_not_shown, bytes_tell}

pub halves : (w : ℕ) → 1 ≤ w → 2 ^ (8 * w - 1) + 2 ^ (8 * w - 1) ≡ 256 ^ w
halves w some =
    let one : 8 * w ≡ suc (8 * w - 1) = omega (arith, some) in
    let doubled : 2 ^ (8 * w) ≡ 2 ^ (8 * w - 1) * 2 = ap (λ (n : ℕ). 2 ^ n) one ∙ pow-suc 2 (8 * w - 1) in
    omega (arith, doubled, pow_256 w)

-- all words of 16 bytes are so many words of w bytes
pub words : (w : ℕ) → w ≤ 16 → 256 ^ w * 256 ^ (16 - w) ≡ 2 ^ 128
words w few =
    let sum : w + (16 - w) ≡ 16 = omega (arith, few) in
    sym (pow-add 256 w (16 - w)) ∙ ap (λ (n : ℕ). 256 ^ n) sum

less_one : (b q : ℕ) → 0 < q → b * q ≡ (q - 1) * b + b
less_one b zero some = absurd (omega (arith, some))
less_one b (suc q) some = let one : suc q - 1 ≡ q = omega arith in rw one (grind arith)

-- what stands above the low w bytes of a negative number
above : (w : ℕ) → w ≤ 16 → (256 ^ (16 - w) - 1) * 256 ^ w + 256 ^ w ≡ 2 ^ 128
above w few = sym (less_one (256 ^ w) (256 ^ (16 - w)) (some_256 (16 - w))) ∙ words w few

-- a negative number, read as a word of 16 bytes
negative : (w m : ℕ) → w ≤ 16 → m < 256 ^ w → cast_unsigned w128 (negsuc m) ≡ (256 ^ w - suc m) + (256 ^ (16 - w) - 1) * 256 ^ w
negative w m few small = let all = above w few in omega (arith, all, small)

pub negative_spelled : (w m word : ℕ) → w ≤ 16 → m < 256 ^ w → suc m + word ≡ 256 ^ w → bytes_high_first w word ≡ number_bytes w (negsuc m)
negative_spelled w m word few small sum =
    let low : 256 ^ w - suc m ≡ word = omega (arith, sum) in
    sym (ap (bytes_high_first w) (negative w m few small ∙ ap (λ (n : ℕ). n + (256 ^ (16 - w) - 1) * 256 ^ w) low) ∙ above_not_shown w word (256 ^ (16 - w) - 1))

-- ---- what the bytes of a number tell

word_told : (w word n : ℕ) → word < 256 ^ w → bytes_high_first w word ≡ bytes_high_first w n → word ≡ n % 256 ^ w
word_told w word n small same = sym (mod-eq_of_lt small) ∙ bytes_tell w word n same

pub natural_told : (w word n : ℕ) → word < 256 ^ w → n < 256 ^ w → bytes_high_first w word ≡ bytes_high_first w n → n ≡ word
natural_told w word n small few same = sym (word_told w word n small same ∙ mod-eq_of_lt few)

pub negative_told : (w word m : ℕ) → w ≤ 16 → word < 256 ^ w → m < 256 ^ w → bytes_high_first w word ≡ number_bytes w (negsuc m) → suc m + word ≡ 256 ^ w
negative_told w word m few small low same =
    let unit = 256 ^ w in
    let left : unit - suc m < unit = omega (arith, low) in
    let told : word ≡ unit - suc m =
    word_told w word (cast_unsigned w128 (negsuc m)) small same
    ∙ ap (λ (n : ℕ). n % unit) (negative w m few low)
    ∙ add-mul-mod_self_right (unit - suc m) (256 ^ (16 - w) - 1) unit
    ∙ mod-eq_of_lt left in
    omega (arith, told, low)

-- the number of the word is the one number of so many bytes that is spelled so
pub low_half : (w half word : ℕ) (n : ℤ) → w ≤ 16 → half ≡ 2 ^ (8 * w - 1) → half + half ≡ 256 ^ w → word < half → IsTrue (fits_signed (8 * w - 1) n)
    → bytes_high_first w word ≡ number_bytes w n → n ≡ pos word
low_half w half word (pos m) few is sum low fits same =
    let small = ltb-true m (2 ^ (8 * w - 1)) fits in
    ap pos (natural_told w word m (omega (arith, sum, low)) (omega (arith, sum, is, small)) same)
low_half w half word (negsuc m) few is sum low fits same =
    let small = ltb-true m (2 ^ (8 * w - 1)) fits in
    let told = negative_told w word m few (omega (arith, sum, low)) (omega (arith, sum, is, small)) same in
    absurd (omega (arith, sum, is, small, told, low))

pub high_half : (w half word k : ℕ) (n : ℤ) → w ≤ 16 → half ≡ 2 ^ (8 * w - 1) → half + half ≡ 256 ^ w → half ≤ word → suc k + word ≡ 256 ^ w → IsTrue (fits_signed (8 * w - 1) n)
    → bytes_high_first w word ≡ number_bytes w n → n ≡ negsuc k
high_half w half word k (pos m) few is sum high whole fits same =
    let small = ltb-true m (2 ^ (8 * w - 1)) fits in
    let told = natural_told w word m (omega (arith, whole)) (omega (arith, sum, is, small)) same in
    absurd (omega (arith, is, small, told, high))
high_half w half word k (negsuc m) few is sum high whole fits same =
    let small = ltb-true m (2 ^ (8 * w - 1)) fits in
    let told = negative_told w word m few (omega (arith, whole)) (omega (arith, sum, is, small)) same in
    ap negsuc (omega (arith, told, whole))

-- ---- what the code makes of a word

pub low_fits : (w half word : ℕ) → half ≡ 2 ^ (8 * w - 1) → word < half → IsTrue (fits_signed (8 * w - 1) (pos word))
low_fits w half word is low = lt-ltb word (2 ^ (8 * w - 1)) (omega (arith, is, low))

pub high_fits : (w half word far : ℕ) → half ≡ 2 ^ (8 * w - 1) → half + half ≡ 256 ^ w → word < 256 ^ w → half ≤ word → suc far + word ≡ 256 ^ w → IsTrue (fits_signed (8 * w - 1) (negsuc far))
high_fits w half word far is sum small high whole = lt-ltb far (2 ^ (8 * w - 1)) (omega (arith, is, sum, high, whole))

pub natural_fits : (w word : ℕ) → word < 256 ^ w → IsTrue (fits_unsigned (8 * w) (pos word))
natural_fits w word small = lt-ltb word (2 ^ (8 * w)) (let power = pow_256 w in omega (arith, power, small))

pub natural_only : (w word : ℕ) (n : ℤ) → word < 256 ^ w → IsTrue (fits_unsigned (8 * w) n) → bytes_high_first w word ≡ number_bytes w n → n ≡ pos word
natural_only w word (pos m) small fits same =
    let low = ltb-true m (2 ^ (8 * w)) fits in
    let power = pow_256 w in
    ap pos (natural_told w word m small (omega (arith, power, low)) same)
natural_only w word (negsuc m) small fits same = cc

pub narrow : (w word : ℕ) → w < 16 → word < 256 ^ w → word < 2 ^ 127
narrow w word few small =
    let bound : 256 ^ w ≤ 256 ^ 15 = pow-le-pow_right {n = 256} (omega arith) {i = w} {j = 15} (omega (arith, few)) in
    omega (arith, bound, small)
