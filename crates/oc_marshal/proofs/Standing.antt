-- What stands at a place of the bytes.
use Rattle.std.proofs.Common.{◌≡◌, ◌∙◌, ap, sym, refl, ℕ, zero, suc, ◌+◌, ◌-◌, ◌^◌, ◌%◌, ◌<◌, ◌≤◌, Bool, nat_lt, IsTrue, List, ◌++◌, length, take, drop, arith, append_assoc, length-append}
use Rattle.std.specs.Str.{is_utf8}
use Rattle.std.specs.Int.{w16, w32, to_be_bytes, bytes_high_first}
use Rattle.std.proofs.lemmas.Bool.{and_parts, and_from, ltb-true, lt-ltb}
use Rattle.std.proofs.lemmas.List.{drop-drop, take-append-drop, length-drop}
use Rattle.std.proofs.Math.Seq.{take-append_seam, drop-append_seam}
use Rattle.oc_model.specs.Spelling.{Tells, is_word}
use Rattle.oc_value.proofs.Bytes.{bytes_tell}
use Rattle.oc_marshal.specs.Places.{StandsAt}
use Rattle.oc_marshal.specs.Records.{is_string, string_bytes}

pub length-bytes_high_first : (k n : ℕ) → length (bytes_high_first k n) ≡ k
length-bytes_high_first zero n = refl
length-bytes_high_first (suc k) n = omega (arith, length-bytes_high_first k n)

-- so few bytes are left that nothing of this length stands there
pub too_short : (bytes ys rest : List ℕ) (at k : ℕ) → length ys ≡ k → length bytes - at < k → drop at bytes ≡ ys ++ rest → ⊥
too_short bytes ys rest at k len few e = let l = ap length e in absurd (omega (arith, l, length-drop at bytes, length-append ys rest, len, few))

-- what stands in front of the rest stands there
pub stands_front : {X : Type 0} (test : X → Bool) (spell : X → List ℕ) (bytes : List ℕ) (at k : ℕ) (x : X) → IsTrue (test x) → at + k ≤ length bytes
    → drop at bytes ≡ spell x ++ drop k (drop at bytes) → StandsAt test spell bytes at x (at + k)
stands_front test spell bytes at k x passes within e = record { passes = passes; spelled = e ∙ ap (λ l. spell x ++ l) (drop-drop k at bytes); within = within }

pub stands_taken : {X : Type 0} (test : X → Bool) (spell : X → List ℕ) (bytes : List ℕ) (at k : ℕ) (x : X) → IsTrue (test x) → at + k ≤ length bytes
    → take k (drop at bytes) ≡ spell x → StandsAt test spell bytes at x (at + k)
stands_taken test spell bytes at k x passes within e =
    stands_front test spell bytes at k x passes within (sym (take-append-drop k (drop at bytes)) ∙ ap (λ l. l ++ drop k (drop at bytes)) e)

-- fronts of one length are one, and so is what stands behind
pub fronts_same : (xs ys rest more : List ℕ) → length xs ≡ length ys → xs ++ rest ≡ ys ++ more → (xs ≡ ys) × (rest ≡ more)
fronts_same xs ys rest more len e = (
  sym (take-append_seam xs rest) ∙ (λ i. take (len i) (e i)) ∙ take-append_seam ys more,
  sym (drop-append_seam xs rest) ∙ (λ i. drop (len i) (e i)) ∙ drop-append_seam ys more,
)

-- ---- numbers

low_same : (k m n : ℕ) (rest more : List ℕ) → bytes_high_first k m ++ rest ≡ bytes_high_first k n ++ more → (m % 256 ^ k ≡ n % 256 ^ k) × (rest ≡ more)
low_same k m n rest more e =
    let f = fronts_same (bytes_high_first k m) (bytes_high_first k n) rest more (length-bytes_high_first k m ∙ sym (length-bytes_high_first k n)) e in
    (bytes_tell k m n f.0, f.1)

pub word_told : Tells (λ n. IsTrue (is_word n)) (to_be_bytes w32)
word_told m n rest more p q e =
    let a = ltb-true m (2 ^ 32) p in
    let b = ltb-true n (2 ^ 32) q in
    let f = low_same 4 m n rest more e in
    let g = f.0 in
    (omega arith, f.1)

pub short_told : Tells (λ n. IsTrue (nat_lt n (2 ^ 16))) (to_be_bytes w16)
short_told m n rest more p q e =
    let a = ltb-true m (2 ^ 16) p in
    let b = ltb-true n (2 ^ 16) q in
    let f = low_same 2 m n rest more e in
    let g = f.0 in
    (omega arith, f.1)

-- ---- one thing at a place

-- what is told by its bytes stands there alone, and what stands behind stands behind it
pub only_one : {X : Type 0} (test : X → Bool) (spell : X → List ℕ) (bytes : List ℕ) (at to : ℕ) (x y : X) (more : List ℕ) → Tells (λ x. IsTrue (test x)) spell
    → StandsAt test spell bytes at x to → IsTrue (test y) → drop at bytes ≡ spell y ++ more → (y ≡ x) × (more ≡ drop to bytes)
only_one test spell bytes at to x y more tells s p e = tells y x more (drop to bytes) p s.passes (sym e ∙ s.spelled)

-- ---- texts

pub string_found : (bytes t : List ℕ) (at from len end : ℕ) → StandsAt is_word (to_be_bytes w32) bytes at len from → end ≡ from + len → end ≤ length bytes
    → t ≡ take len (drop from bytes) → length t ≡ len → IsTrue (is_utf8 t) → StandsAt is_string string_bytes bytes at t end
string_found bytes t at from len end s e within is size utf8 =
    let behind : drop from bytes ≡ t ++ drop end bytes =
    sym (take-append-drop len (drop from bytes)) ∙ (λ i. sym is i ++ drop len (drop from bytes)) ∙ ap (λ l. t ++ l) (drop-drop len from bytes ∙ ap (λ (n : ℕ). drop n bytes) (sym e)) in
    record {
      passes = and_from (nat_lt (length t) (2 ^ 32)) (is_utf8 t) (lt-ltb (length t) (2 ^ 32) (let small = ltb-true len (2 ^ 32) s.passes in omega (arith, size, small))) utf8;
      spelled = s.spelled ∙ (λ i. to_be_bytes w32 (sym size i) ++ behind i) ∙ sym (append_assoc (to_be_bytes w32 (length t)) t (drop end bytes));
      within = within;
    }

-- a text that stands there has the length and the bytes that were found
pub string_only : (bytes x rest : List ℕ) (at from len : ℕ) → StandsAt is_word (to_be_bytes w32) bytes at len from → IsTrue (is_string x)
    → drop at bytes ≡ (to_be_bytes w32 (length x) ++ x) ++ rest → (length x ≡ len) × (drop from bytes ≡ x ++ rest)
string_only bytes x rest at from len s p e =
    let parts = and_parts (nat_lt (length x) (2 ^ 32)) (is_utf8 x) p in
    let r = only_one is_word (to_be_bytes w32) bytes at from len (length x) (x ++ rest) word_told s parts.0 (e ∙ append_assoc (to_be_bytes w32 (length x)) x rest) in
    (r.0, sym r.1)

pub string_is : (bytes x rest : List ℕ) (at from len : ℕ) → StandsAt is_word (to_be_bytes w32) bytes at len from → IsTrue (is_string x)
    → drop at bytes ≡ (to_be_bytes w32 (length x) ++ x) ++ rest → (take len (drop from bytes) ≡ x) × IsTrue (is_utf8 x)
string_is bytes x rest at from len s p e =
    let r = string_only bytes x rest at from len s p e in
    ((λ i. take (sym r.0 i) (r.1 i)) ∙ take-append_seam x rest, (and_parts (nat_lt (length x) (2 ^ 32)) (is_utf8 x) p).1)
