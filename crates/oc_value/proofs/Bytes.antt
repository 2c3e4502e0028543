-- The low bytes of a number.
use Rattle.std.proofs.Common.{◌≡◌, ◌∙◌, ap, sym, refl, ℕ, zero, suc, ◌+◌, ◌-◌, ◌*◌, ◌/◌, ◌%◌, ◌^◌, ◌<◌, ◌≤◌, List, [], ◌∷◌, ◌++◌, length, take, get_or, fold, append_assoc, arith, pow-suc, mul_comm}
use Rattle.std.specs.Prelude.{bit_and}
use Rattle.std.specs.Int.{byte_at, bytes_high_first}
use Rattle.std.proofs.lemmas.Nat.{and_mask, pow-add}
use Rattle.std.proofs.Math.Nat.{div-div-eq-div-mul, pow-le-pow_right}
use Rattle.std.proofs.Math.Arith.{mod-mul}
use Rattle.std.proofs.Math.Seq.{take-suc}

-- ---- powers

pub pow_256 : (k : ℕ) → 2 ^ (8 * k) ≡ 256 ^ k
pow_256 zero = refl
pow_256 (suc k) =
    let more : 8 * suc k ≡ 8 * k + 8 = omega arith in
    let step : 256 ^ k * 256 ≡ 256 ^ suc k = grind arith in
    ap (λ (n : ℕ). 2 ^ n) more ∙ pow-add 2 (8 * k) 8 ∙ ap (λ (n : ℕ). n * 256) (pow_256 k) ∙ step

pub some_256 : (k : ℕ) → 0 < 256 ^ k
some_256 k = pow-le-pow_right {n = 256} (omega arith) {i = 0} {j = k} (omega arith)

-- ---- one byte

pub byte_by_shift : (n k : ℕ) → bit_and (n / 2 ^ (8 * k)) 255 ≡ byte_at k n
byte_by_shift n zero = and_mask (n / 1) 8 ∙ (let same : n / 1 ≡ n = grind arith in ap (λ (m : ℕ). m % 256) same)
byte_by_shift n (suc k) = and_mask (n / 2 ^ (8 * suc k)) 8 ∙ ap (λ (m : ℕ). n / m % 256) (pow_256 (suc k))

byte_is : (k n : ℕ) → byte_at k n ≡ n / 256 ^ k % 256
byte_is zero n = let same : n / 1 ≡ n = grind arith in ap (λ (m : ℕ). m % 256) (sym same)
byte_is (suc k) n = refl

-- the byte above is that of the number without its low byte
next_byte : (k n : ℕ) → byte_at (suc k) n ≡ byte_at k (n / 256)
next_byte k n =
    let power : 256 ^ suc k ≡ 256 * 256 ^ k = pow-suc 256 k ∙ mul_comm (256 ^ k) 256 in
    ap (λ (m : ℕ). n / m % 256) power ∙ ap (λ (m : ℕ). m % 256) (sym (div-div-eq-div-mul n 256 (256 ^ k))) ∙ sym (byte_is k (n / 256))

-- ---- bytes

-- the low byte stands last
low_last : (k n : ℕ) → bytes_high_first (suc k) n ≡ bytes_high_first k (n / 256) ++ (n % 256) ∷ []
low_last zero n = refl
low_last (suc k) n = λ i. next_byte k n i ∷ low_last k n i

-- one byte more
pub byte_on : (k n b : ℕ) → b < 256 → bytes_high_first (suc k) (256 * n + b) ≡ bytes_high_first k n ++ b ∷ []
byte_on k n b small =
    let high : (256 * n + b) / 256 ≡ n = omega (arith, small) in
    let low : (256 * n + b) % 256 ≡ b = omega (arith, small) in
    low_last k (256 * n + b) ∙ (λ i. bytes_high_first k (high i) ++ low i ∷ [])

turned : (p x : ℕ) → p * (x * 256) ≡ 256 * (p * x)
turned p x = grind arith

-- what is above doesn't show
pub above_not_shown : (k n p : ℕ) → bytes_high_first k (n + p * 256 ^ k) ≡ bytes_high_first k n
above_not_shown zero n p = refl
above_not_shown (suc k) n p =
    let power : 256 ^ suc k ≡ 256 ^ k * 256 = pow-suc 256 k in
    let product : p * 256 ^ suc k ≡ 256 * (p * 256 ^ k) = ap (λ (m : ℕ). p * m) power ∙ turned p (256 ^ k) in
    let high : (n + p * 256 ^ suc k) / 256 ≡ n / 256 + p * 256 ^ k = omega (arith, product) in
    let low : (n + p * 256 ^ suc k) % 256 ≡ n % 256 = omega (arith, product) in
    low_last k (n + p * 256 ^ suc k)
    ∙ (λ i. bytes_high_first k (high i) ++ low i ∷ [])
    ∙ ap (λ l. l ++ (n % 256) ∷ []) (above_not_shown k (n / 256) p)
    ∙ sym (low_last k n)

-- one more byte in front of the low k bytes
byte_before : (k n high : ℕ) → (high * 256 + byte_at k n) * 256 ^ k + n % 256 ^ k ≡ high * 256 ^ suc k + n % 256 ^ suc k
byte_before zero n high = omega arith
byte_before (suc k) n high =
    let unit = 256 ^ suc k in
    let wider : 256 ^ suc (suc k) ≡ 256 * unit = pow-suc 256 (suc k) ∙ mul_comm unit 256 in
    rw (wider, mod-mul n {m = 256} {c = unit} (omega arith) (some_256 (suc k))) (omega arith)

bytes_read : (k n high : ℕ) → fold (λ h byte. h * 256 + byte) high (bytes_high_first k n) ≡ high * 256 ^ k + n % 256 ^ k
bytes_read zero n high = omega arith
bytes_read (suc k) n high = bytes_read k n (high * 256 + byte_at k n) ∙ byte_before k n high

low_bytes : (k n : ℕ) → fold (λ h byte. h * 256 + byte) 0 (bytes_high_first k n) ≡ n % 256 ^ k
low_bytes k n = bytes_read k n 0 ∙ omega arith

-- the bytes tell the number as far as they go
pub bytes_tell : (k m n : ℕ) → bytes_high_first k m ≡ bytes_high_first k n → m % 256 ^ k ≡ n % 256 ^ k
bytes_tell k m n e = sym (low_bytes k m) ∙ ap (fold (λ h byte. h * 256 + byte) 0) e ∙ low_bytes k n

-- ---- steps of loops

pub one_byte_more : (out new all : List ℕ) (b k n : ℕ) → zero < k → b ≡ byte_at (k - 1) n → new ≡ out ++ b ∷ [] → out ++ bytes_high_first k n ≡ all → new ++ bytes_high_first (k - 1) n ≡ all
one_byte_more out new all b zero n some byte pushed so_far = absurd (omega (arith, some))
one_byte_more out new all b (suc k) n some byte pushed so_far =
    let at : suc k - 1 ≡ k = omega arith in
    let here : b ≡ byte_at k n = byte ∙ ap (λ (m : ℕ). byte_at m n) at in
    ap (λ (m : ℕ). new ++ bytes_high_first m n) at
    ∙ ap (λ xs. xs ++ bytes_high_first k n) pushed
    ∙ append_assoc out (b ∷ []) (bytes_high_first k n)
    ∙ ap (λ (x : ℕ). out ++ x ∷ bytes_high_first k n) here
    ∙ so_far

pub word_step : (k n b : ℕ) → n < 256 ^ k → b < 256 → 256 * n + b < 256 ^ (k + 1)
word_step k n b small byte =
    let power : 256 ^ suc k ≡ 256 ^ k * 256 = pow-suc 256 k in
    let next : 256 ^ (k + 1) ≡ 256 ^ suc k = (let one : k + 1 ≡ suc k = omega arith in ap (λ (m : ℕ). 256 ^ m) one) in
    omega (arith, power, next, small, byte)

-- there is room for one byte more
pub fits_word : (w k n : ℕ) → k < w → w ≤ 16 → n < 256 ^ k → 256 * n + 255 < 2 ^ 128
fits_word w k n more few small =
    let next = word_step k n 255 small (omega arith) in
    let bound : 256 ^ (k + 1) ≤ 256 ^ 16 = pow-le-pow_right {n = 256} (omega arith) {i = k + 1} {j = 16} (omega (arith, more, few)) in
    omega (arith, next, bound)

pub bytes_step : (k n b : ℕ) (xs : List ℕ) → b < 256 → k < length xs → get_or xs k 0 ≡ b → take k xs ≡ bytes_high_first k n → take (k + 1) xs ≡ bytes_high_first (k + 1) (256 * n + b)
bytes_step k n b xs small more here so_far =
    let one : k + 1 ≡ suc k = omega arith in
    ap (λ (m : ℕ). take m xs) one
    ∙ take-suc xs k 0 more
    ∙ (λ i. so_far i ++ here i ∷ [])
    ∙ sym (byte_on k n b small)
    ∙ ap (λ (m : ℕ). bytes_high_first m (256 * n + b)) (sym one)
