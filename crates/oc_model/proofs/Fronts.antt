-- Two lists that begin with the same bytes.
use Rattle.std.proofs.Common.{◌≡◌, sym, ap, ◌∙◌, ℕ, zero, suc, ◌+◌, ◌*◌, ◌^◌, ◌%◌, ◌<◌, List, ◌∷◌, ◌++◌, length, take, drop, fold, arith, pow-suc, mul_comm}
use Rattle.std.specs.Int.{byte_at, bytes_high_first}
use Rattle.std.proofs.Math.Nat.{pow-le-pow_right}
use Rattle.std.proofs.Math.Arith.{mod-mul}
use Rattle.std.proofs.Math.Seq.{take-append_seam, drop-append_seam}
use Rattle.oc_model.proofs.Lengths.{length-bytes_high_first}

pub first_same : {X : Type 0} (a b : X) (xs ys : List X) → a ∷ xs ≡ b ∷ ys → a ≡ b
first_same a b xs ys e = cc

pub rest_same : {X : Type 0} (a b : X) (xs ys : List X) → a ∷ xs ≡ b ∷ ys → xs ≡ ys
rest_same a b xs ys e = cc

-- fronts of one length are one, and so is what stands behind
pub fronts_same : (xs ys rest more : List ℕ) → length xs ≡ length ys → xs ++ rest ≡ ys ++ more → (xs ≡ ys) × (rest ≡ more)
fronts_same xs ys rest more len e = (
  sym (take-append_seam xs rest) ∙ (λ i. take (len i) (e i)) ∙ take-append_seam ys more,
  sym (drop-append_seam xs rest) ∙ (λ i. drop (len i) (e i)) ∙ drop-append_seam ys more,
)

-- ---- numbers

-- one more byte in front of the low k bytes
byte_on : (k n high : ℕ) → (high * 256 + byte_at k n) * 256 ^ k + n % 256 ^ k ≡ high * 256 ^ suc k + n % 256 ^ suc k
byte_on zero n high = omega arith
byte_on (suc k) n high =
    let unit = 256 ^ suc k in
    let wider : 256 ^ suc (suc k) ≡ 256 * unit = pow-suc 256 (suc k) ∙ mul_comm unit 256 in
    let some : 0 < unit = pow-le-pow_right {n = 256} (omega arith) {i = 0} {j = suc k} (omega arith) in
    rw (wider, mod-mul n {m = 256} {c = unit} (omega arith) some) (omega arith)

bytes_read : (k n high : ℕ) → fold (λ h byte. h * 256 + byte) high (bytes_high_first k n) ≡ high * 256 ^ k + n % 256 ^ k
bytes_read zero n high = omega arith
bytes_read (suc k) n high = bytes_read k n (high * 256 + byte_at k n) ∙ byte_on k n high

low_bytes : (k n : ℕ) → fold (λ h byte. h * 256 + byte) 0 (bytes_high_first k n) ≡ n % 256 ^ k
low_bytes k n = bytes_read k n 0 ∙ omega arith

-- the bytes tell the number as far as they go
pub low_same : (k m n : ℕ) (rest more : List ℕ) → bytes_high_first k m ++ rest ≡ bytes_high_first k n ++ more → (m % 256 ^ k ≡ n % 256 ^ k) × (rest ≡ more)
low_same k m n rest more e =
    let f = fronts_same (bytes_high_first k m) (bytes_high_first k n) rest more (length-bytes_high_first k m ∙ sym (length-bytes_high_first k n)) e in
    (sym (low_bytes k m) ∙ ap (fold (λ h byte. h * 256 + byte) 0) f.0 ∙ low_bytes k n, f.1)

pub short_same : (m n : ℕ) (rest more : List ℕ) → m < 2 ^ 16 → n < 2 ^ 16 → bytes_high_first 2 m ++ rest ≡ bytes_high_first 2 n ++ more → (m ≡ n) × (rest ≡ more)
short_same m n rest more a b e = let f = low_same 2 m n rest more e in let g = f.0 in (omega arith, f.1)

pub word_same : (m n : ℕ) (rest more : List ℕ) → m < 2 ^ 32 → n < 2 ^ 32 → bytes_high_first 4 m ++ rest ≡ bytes_high_first 4 n ++ more → (m ≡ n) × (rest ≡ more)
word_same m n rest more a b e = let f = low_same 4 m n rest more e in let g = f.0 in (omega arith, f.1)
