-- What is spelled is read again.
use Rattle.std.proofs.Common.{◌≡◌, ◌≢◌, ◌⊎◌, inl, inr, ℕ, zero, suc, ◌+◌, ◌*◌, ◌^◌, ◌<◌, ◌≤◌, Bool, true, false, List, [], ◌∷◌, ◌++◌, length, drop, Some, refl, sym, ◌∙◌, ap, arith, length-append, length-drop, append_assoc, rules}
use Rattle.std.specs.Prelude.{IsTrue, All, nat_lt, ◌==◌, ◌&&◌, if◌then◌else◌, None}
use Rattle.std.specs.Int.{w32, w64, to_be_bytes, from_be_bytes}
use Rattle.std.proofs.lemmas.Nat.{from_be_bytes-to_be_bytes_4, from_be_bytes-to_be_bytes_8}
use Rattle.oc_layout.specs.declared.cells.Cell.{Cell}
use Rattle.oc_layout.specs.declared.cells.CellWrite.{CellWrite}
use Rattle.oc_layout.specs.Layout.{cell_bytes, first_cell, write_bytes, first_write, writes_bytes, first_writes, write_len, log_bytes, read_writes, is_ascending, FitsCell, FitsWrite, IsLog, SpellsLog}

pub number_again : (n : ℕ) (rest : List ℕ) → n < 2 ^ 32 → from_be_bytes w32 (to_be_bytes w32 n ++ rest) ≡ n
number_again n rest lt = from_be_bytes-to_be_bytes_4 n lt

pub wide_again : (n : ℕ) (rest : List ℕ) → n < 2 ^ 64 → from_be_bytes w64 (to_be_bytes w64 n ++ rest) ≡ n
wide_again n rest lt = from_be_bytes-to_be_bytes_8 n lt

pub cell_again : (c : Cell) (rest : List ℕ) → FitsCell c → first_cell (cell_bytes c ++ rest) ≡ c
cell_again c rest fits i = record { at = number_again c.at [] fits.at i; len = number_again c.len [] fits.len i }

pub write_again : (wide : Bool) (w : CellWrite) (rest : List ℕ) → FitsWrite wide w → first_write wide (write_bytes wide w ++ rest) ≡ w
write_again true w rest fits i = record { target = wide_again w.target [] fits.target i; cell = cell_again w.cell [] fits.cell i }
write_again false w rest fits i = record { target = number_again w.target [] fits.target i; cell = cell_again w.cell [] fits.cell i }

drop_write : (wide : Bool) (w : CellWrite) (rest : List ℕ) → drop (write_len wide) (write_bytes wide w ++ rest) ≡ rest
drop_write true w rest = refl
drop_write false w rest = refl

-- what holds of all holds of the first, and of all behind it
first_of : (P : CellWrite → Type 0) (w : CellWrite) (ws : List CellWrite) → All P (w ∷ ws) → P w
first_of P w ws all = all zero w (omega arith)

rest_of : (P : CellWrite → Type 0) (w : CellWrite) (ws : List CellWrite) → All P (w ∷ ws) → All P ws
rest_of P w ws all = λ k d lt. all (suc k) d (omega (arith, lt))

pub writes_again : (wide : Bool) (ws : List CellWrite) → All (FitsWrite wide) ws → first_writes wide (length ws) (writes_bytes wide ws) ≡ ws
writes_again wide [] fits = refl
writes_again wide (w ∷ ws) fits =
    (λ i. write_again wide w (writes_bytes wide ws) (first_of (FitsWrite wide) w ws fits) i ∷ first_writes wide (length ws) (drop_write wide w (writes_bytes wide ws) i))
    ∙ ap (λ (l : List CellWrite). w ∷ l) (writes_again wide ws (rest_of (FitsWrite wide) w ws fits))

length-write : (wide : Bool) (w : CellWrite) → length (write_bytes wide w) ≡ write_len wide
length-write true w = refl
length-write false w = refl

pub length-writes : (wide : Bool) (ws : List CellWrite) → length (writes_bytes wide ws) ≡ write_len wide * length ws
length-writes wide [] = omega arith
length-writes wide (w ∷ ws) = omega (arith, length-append (write_bytes wide w) (writes_bytes wide ws), length-write wide w, length-writes wide ws)

pub length-log : (wide : Bool) (ws : List CellWrite) → length (log_bytes wide ws) ≡ 4 + write_len wide * length ws
length-log wide ws = omega (arith, length-append (to_be_bytes w32 (length ws)) (writes_bytes wide ws), length-writes wide ws)

all_true : (a b c : Bool) → IsTrue a → IsTrue b → IsTrue c → (a && b && c) ≡ true
all_true true true true x y z = refl
all_true true true false x y z = absurd cc
all_true true false c x y z = absurd cc
all_true false b c x y z = absurd cc

-- what reading needs to find
pub log_read : (wide : Bool) (b : List ℕ) (n : ℕ) (ws : List CellWrite) → from_be_bytes w32 b ≡ n → first_writes wide n (drop 4 b) ≡ ws → 0 < n → length b ≡ 4 + write_len wide * n → IsTrue (is_ascending ws) → read_writes wide b ≡ Some ws
unfolding read_writes
log_read wide b n ws e f pos len asc =
    let p : IsTrue (nat_lt 0 n) = search rules in
    let l : IsTrue (length b == 4 + write_len wide * n) = search rules in
    let test = all_true (nat_lt 0 n) (length b == 4 + write_len wide * n) (is_ascending ws) p l asc in
    (λ i. if nat_lt 0 (e i) && (length b == 4 + write_len wide * e i) && is_ascending (first_writes wide (e i) (drop 4 b)) then Some (first_writes wide (e i) (drop 4 b)) else None)
    ∙ (λ i. if nat_lt 0 n && (length b == 4 + write_len wide * n) && is_ascending (f i) then Some (f i) else None)
    ∙ (λ i. if test i then Some ws else None)

pub log_again : (wide : Bool) (ws : List CellWrite) → IsLog wide ws → read_writes wide (log_bytes wide ws) ≡ Some ws
log_again wide ws is = log_read wide (log_bytes wide ws) (length ws) ws (number_again (length ws) (writes_bytes wide ws) is.few) (writes_again wide ws is.fits) is.some (length-log wide ws) is.ascending

some_false : (a b c : Bool) → (a ≡ false) ⊎ (b ≡ false) ⊎ (c ≡ false) → (a && b && c) ≡ false
some_false a b c (inl e) = λ i. e i && b && c
some_false true b c (inr (inl e)) = λ i. e i && c
some_false false b c (inr (inl e)) = refl
some_false true true c (inr (inr e)) = e
some_false true false c (inr (inr e)) = refl
some_false false b c (inr (inr e)) = refl

-- why bytes are no log
pub read_none : (wide : Bool) (b : List ℕ) → (from_be_bytes w32 b ≡ 0) ⊎ (length b ≢ 4 + write_len wide * from_be_bytes w32 b) ⊎ (is_ascending (first_writes wide (from_be_bytes w32 b) (drop 4 b)) ≡ false) → read_writes wide b ≡ None
unfolding read_writes
read_none wide b why =
    let n = from_be_bytes w32 b in
    let ws = first_writes wide n (drop 4 b) in
    let reasons : (nat_lt 0 n ≡ false) ⊎ ((length b == 4 + write_len wide * n) ≡ false) ⊎ (is_ascending ws ≡ false) = elim why [
      | inl none ↦ inl (search rules)
      | inr (inl size) ↦ inr (inl (search rules))
      | inr (inr order) ↦ inr (inr order)
    ] in
    let test = some_false (nat_lt 0 n) (length b == 4 + write_len wide * n) (is_ascending ws) reasons in
    λ i. if test i then Some ws else None

-- one write more is read
pub read_step : (wide : Bool) (n m : ℕ) (b : List ℕ) (out target : List CellWrite) → n ≡ suc m → out ++ first_writes wide n b ≡ target → (out ++ first_write wide b ∷ []) ++ first_writes wide m (drop (write_len wide) b) ≡ target
read_step wide n m b out target e was =
    append_assoc out (first_write wide b ∷ []) (first_writes wide m (drop (write_len wide) b)) ∙ ap (λ (k : ℕ). out ++ first_writes wide k b) (sym e) ∙ was

pub size_step : (w n m : ℕ) (b : List ℕ) → n ≡ suc m → length b ≡ w * n → length (drop w b) ≡ w * m
size_step w n m b e was = let same : length b ≡ w * suc m = was ∙ ap (λ (k : ℕ). w * k) e in omega (arith, same, length-drop w b)

pub room : (w n m : ℕ) (b : List ℕ) → n ≡ suc m → length b ≡ w * n → w ≤ length b
room w n m b e was = let same : length b ≡ w * suc m = was ∙ ap (λ (k : ℕ). w * k) e in omega (arith, same)

-- one write more is spelled
pub spelled_step : (wide : Bool) (ws : List CellWrite) (w : CellWrite) (rest : List ℕ) → writes_bytes wide ws ++ (write_bytes wide w ++ rest) ≡ writes_bytes wide (ws ++ w ∷ []) ++ rest
spelled_step wide [] w rest = sym (append_assoc (write_bytes wide w) [] rest)
spelled_step wide (v ∷ ws) w rest =
    append_assoc (write_bytes wide v) (writes_bytes wide ws) (write_bytes wide w ++ rest)
    ∙ ap (λ (l : List ℕ). write_bytes wide v ++ l) (spelled_step wide ws w rest)
    ∙ sym (append_assoc (write_bytes wide v) (writes_bytes wide (ws ++ w ∷ [])) rest)

-- bytes that spell writes as a log are read as these writes
pub spelled_again : (wide : Bool) (ws : List CellWrite) (b : List ℕ) → SpellsLog wide ws b → read_writes wide b ≡ Some ws
spelled_again wide ws b s = ap (read_writes wide) s.bytes ∙ log_again wide ws s.is

-- bytes that are read as no log spell none
pub spells_none : (wide : Bool) (ws : List CellWrite) (b : List ℕ) → read_writes wide b ≡ None → SpellsLog wide ws b → ⊥
spells_none wide ws b none s = let some = spelled_again wide ws b s in cc (none, some)

-- bytes spell one list of writes at most
pub spells_one : (wide : Bool) (ws found : List CellWrite) (b : List ℕ) → read_writes wide b ≡ Some found → SpellsLog wide ws b → ws ≡ found
spells_one wide ws found b some s = let again = spelled_again wide ws b s in cc (some, again)

length-first_writes : (wide : Bool) (n : ℕ) (b : List ℕ) → length (first_writes wide n b) ≡ n
length-first_writes wide zero b = refl
length-first_writes wide (suc n) b = ap suc (length-first_writes wide n (drop (write_len wide) b))

-- a count and that many writes behind it, in order, spell a log
pub log_spelled : (wide : Bool) (b : List ℕ) (n : ℕ) (ws : List CellWrite) → ws ≡ first_writes wide n (drop 4 b) → 0 < n → n < 2 ^ 32 → IsTrue (is_ascending ws) → All (FitsWrite wide) ws → b ≡ to_be_bytes w32 n ++ drop 4 b → drop 4 b ≡ writes_bytes wide ws → SpellsLog wide ws b
log_spelled wide b n ws found some few order fits count writes =
    let size : length ws ≡ n = ap length found ∙ length-first_writes wide n (drop 4 b) in
    record {
      is = record { some = omega (arith, size, some); few = omega (arith, size, few); ascending = order; fits = fits };
      bytes = count ∙ (λ i. to_be_bytes w32 (sym size i) ++ writes i);
    }
