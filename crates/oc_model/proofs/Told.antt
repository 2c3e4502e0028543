-- The bytes of a value, of an entry and of a record tell what they spell.
use Rattle.std.proofs.Common.{◌≡◌, refl, sym, ap, ◌∙◌, subst, ℕ, suc, ◌+◌, ◌-◌, ◌^◌, ◌%◌, ◌<◌, Bool, true, false, ◌&&◌, ◌==◌, nat_lt, nat_le, IsTrue, List, [], ◌∷◌, ◌++◌, length, Option, Some, None, arith, append_assoc, pos, negsuc}
use Rattle.std.specs.Prelude.{ℤ, flat_map, if◌then◌else◌}
use Rattle.std.specs.List.{list_all}
use Rattle.std.specs.Int.{Width, w16, w32, w128, to_be_bytes, bytes_high_first, cast_unsigned}
use Rattle.std.proofs.lemmas.Bool.{and_parts, and_from, ltb-true, leb-true}
use Rattle.oc_model.specs.declared.value.Base.{Base}
use Rattle.oc_model.specs.declared.value.Base.TheVariants as base
use Rattle.oc_model.specs.declared.value.Kind.{Kind}
use Rattle.oc_model.specs.declared.value.Kind.TheVariants as kind
use Rattle.oc_model.specs.declared.value.Atom.{Atom}
use Rattle.oc_model.specs.declared.value.Atom.TheVariants as atom
use Rattle.oc_model.specs.declared.value.Value.{Value}
use Rattle.oc_model.specs.declared.value.Value.TheVariants as value
use Rattle.oc_model.specs.declared.value.Entry.{Entry}
use Rattle.oc_model.specs.declared.value.Rec.{Rec}
use Rattle.oc_model.specs.Values.{fits, fits_base, fits_signed, fits_unsigned}
use Rattle.oc_model.specs.Kinds.{kind_tag}
use Rattle.oc_model.specs.Spelling.{Tells, counted, atom_bytes, value_bytes, entry_bytes, record_bytes, entry_fits, is_small_atom, is_small, is_word, is_id, IsSpellable, extent_bytes, index_bytes, segment_bytes, IsSegment, is_extent, is_indexed}
use Rattle.oc_model.proofs.Fronts.{first_same, rest_same, fronts_same, low_same, short_same, word_same}
use Rattle.oc_model.proofs.SchemaLaws.{equal_kinds, same_number}

-- ---- whole numbers

-- the number in two's complement, where there are so many patterns
abbrev code : ℕ → ℤ → ℕ
code top (pos n) = n
code top (negsuc n) = top - suc n

-- so far from 0, on either side
abbrev IsWithin : ℕ → ℤ → Type 0
IsWithin half (pos n) = n < half
IsWithin half (negsuc n) = n < half

code_same : (half : ℕ) (m n : ℤ) → IsWithin half m → IsWithin half n → code (half + half) m ≡ code (half + half) n → m ≡ n
code_same half (pos m) (pos n) a b e = ap pos e
code_same half (pos m) (negsuc n) a b e = absurd (omega arith)
code_same half (negsuc m) (pos n) a b e = absurd (omega arith)
code_same half (negsuc m) (negsuc n) a b e = ap negsuc (omega arith)

within : (bits : ℕ) (n : ℤ) → IsTrue (fits_signed bits n) → IsWithin (2 ^ bits) n
within bits (pos n) h = ltb-true n (2 ^ bits) h
within bits (negsuc n) h = ltb-true n (2 ^ bits) h

low_1 : (n : ℤ) → IsWithin (2 ^ 7) n → cast_unsigned w128 n % 256 ^ 1 ≡ code (2 ^ 7 + 2 ^ 7) n
low_1 (pos n) h = omega arith
low_1 (negsuc n) h = omega arith

low_2 : (n : ℤ) → IsWithin (2 ^ 15) n → cast_unsigned w128 n % 256 ^ 2 ≡ code (2 ^ 15 + 2 ^ 15) n
low_2 (pos n) h = omega arith
low_2 (negsuc n) h = omega arith

low_4 : (n : ℤ) → IsWithin (2 ^ 31) n → cast_unsigned w128 n % 256 ^ 4 ≡ code (2 ^ 31 + 2 ^ 31) n
low_4 (pos n) h = omega arith
low_4 (negsuc n) h = omega arith

low_8 : (n : ℤ) → IsWithin (2 ^ 63) n → cast_unsigned w128 n % 256 ^ 8 ≡ code (2 ^ 63 + 2 ^ 63) n
low_8 (pos n) h = omega arith
low_8 (negsuc n) h = omega arith

low_16 : (n : ℤ) → IsWithin (2 ^ 127) n → cast_unsigned w128 n % 256 ^ 16 ≡ code (2 ^ 127 + 2 ^ 127) n
low_16 (pos n) h = omega arith
low_16 (negsuc n) h = omega arith

-- a number of so many bits and a sign is told by that many bytes
pub signed_told : (k bits : ℕ) → ((n : ℤ) → IsWithin (2 ^ bits) n → cast_unsigned w128 n % 256 ^ k ≡ code (2 ^ bits + 2 ^ bits) n)
    → Tells (λ (n : ℤ). IsTrue (fits_signed bits n)) (λ n. bytes_high_first k (cast_unsigned w128 n))
signed_told k bits low m n rest more f g e =
    let r = low_same k (cast_unsigned w128 m) (cast_unsigned w128 n) rest more e in
    let p = within bits m f in
    let q = within bits n g in
    (code_same (2 ^ bits) m n p q (sym (low m p) ∙ r.0 ∙ low n q), r.1)

pub unsigned_told : Tells (λ (n : ℤ). IsTrue (fits_unsigned 64 n)) (λ n. bytes_high_first 8 (cast_unsigned w128 n))
unsigned_told (pos m) (pos n) rest more f g e =
    let r = low_same 8 m n rest more e in
    let same = r.0 in
    let p = ltb-true m (2 ^ 64) f in
    let q = ltb-true n (2 ^ 64) g in
    (ap pos (omega arith), r.1)
unsigned_told m n rest more f g e = cc

-- ---- single values

-- the value is of the base kind, and small
abbrev is_atom : Base → Atom → Bool
is_atom b a = fits_base b a && is_small_atom a

signed_atom : (k bits : ℕ) → ((n : ℤ) → IsWithin (2 ^ bits) n → cast_unsigned w128 n % 256 ^ k ≡ code (2 ^ bits + 2 ^ bits) n) → (m n : ℤ) (rest more : List ℕ)
    → IsTrue (fits_signed bits m && true) → IsTrue (fits_signed bits n && true)
    → bytes_high_first k (cast_unsigned w128 m) ++ rest ≡ bytes_high_first k (cast_unsigned w128 n) ++ more → (atom.Int m ≡ atom.Int n) × (rest ≡ more)
signed_atom k bits low m n rest more f g e = let r = signed_told k bits low m n rest more (and_parts _ true f).0 (and_parts _ true g).0 e in (ap atom.Int r.0, r.1)

unsigned_atom : (m n : ℤ) (rest more : List ℕ) → IsTrue (fits_unsigned 64 m && true) → IsTrue (fits_unsigned 64 n && true)
    → bytes_high_first 8 (cast_unsigned w128 m) ++ rest ≡ bytes_high_first 8 (cast_unsigned w128 n) ++ more → (atom.Int m ≡ atom.Int n) × (rest ≡ more)
unsigned_atom m n rest more f g e = let r = unsigned_told m n rest more (and_parts _ true f).0 (and_parts _ true g).0 e in (ap atom.Int r.0, r.1)

-- a byte 0 and a byte 1
apart : {P : Type 0} (rest more : List ℕ) → 0 ∷ rest ≡ 1 ∷ more → P
apart rest more e = let q = first_same {X = ℕ} 0 1 rest more e in absurd (omega arith)

pub truth_told : (x y : Bool) (rest more : List ℕ) → (if x then 1 else 0) ∷ rest ≡ (if y then 1 else 0) ∷ more → (atom.Bool x ≡ atom.Bool y) × (rest ≡ more)
truth_told true true rest more e = (refl, rest_same 1 1 rest more e)
truth_told false false rest more e = (refl, rest_same 0 0 rest more e)
truth_told true false rest more e = apart more rest (sym e)
truth_told false true rest more e = apart rest more e

pub text_told : (t u rest more : List ℕ) → length t < 2 ^ 32 → length u < 2 ^ 32 → bytes_high_first 4 (length t) ++ (t ++ rest) ≡ bytes_high_first 4 (length u) ++ (u ++ more) → (t ≡ u) × (rest ≡ more)
text_told t u rest more a b e =
    let w = word_same (length t) (length u) (t ++ rest) (u ++ more) a b e in
    fronts_same t u rest more w.0 w.1

pub texts_told : (t u : Option (List ℕ)) (rest more : List ℕ) → IsTrue (is_small_atom (atom.Text t)) → IsTrue (is_small_atom (atom.Text u))
    → atom_bytes base.Text (atom.Text t) ++ rest ≡ atom_bytes base.Text (atom.Text u) ++ more → (atom.Text t ≡ atom.Text u) × (rest ≡ more)
texts_told None None rest more f g e = (refl, rest_same 0 0 rest more e)
texts_told None (Some u) rest more f g e = apart _ _ e
texts_told (Some t) None rest more f g e = apart _ _ (sym e)
texts_told (Some t) (Some u) rest more f g e =
    let r = text_told t u rest more (ltb-true (length t) (2 ^ 32) f) (ltb-true (length u) (2 ^ 32) g) (rest_same 1 1 _ _ e) in
    (ap (λ v. atom.Text (Some v)) r.0, r.1)

pub ref_told : (m n : ℕ) (rest more : List ℕ) → IsTrue (nat_le m 2147483646) → IsTrue (nat_le n 2147483646) → bytes_high_first 4 m ++ rest ≡ bytes_high_first 4 n ++ more → (atom.Ref m ≡ atom.Ref n) × (rest ≡ more)
ref_told m n rest more f g e =
    let a = leb-true m 2147483646 f in
    let b = leb-true n 2147483646 g in
    let r = word_same m n rest more (omega arith) (omega arith) e in
    (ap atom.Ref r.0, r.1)

pub atom_told : (b : Base) → Tells (λ a. IsTrue (is_atom b a)) (atom_bytes b)
atom_told base.Bool (atom.Bool x) (atom.Bool y) rest more f g e = truth_told x y rest more e
atom_told base.I8 (atom.Int m) (atom.Int n) rest more f g e = signed_atom 1 7 low_1 m n rest more f g e
atom_told base.I16 (atom.Int m) (atom.Int n) rest more f g e = signed_atom 2 15 low_2 m n rest more f g e
atom_told base.I32 (atom.Int m) (atom.Int n) rest more f g e = signed_atom 4 31 low_4 m n rest more f g e
atom_told base.I64 (atom.Int m) (atom.Int n) rest more f g e = signed_atom 8 63 low_8 m n rest more f g e
atom_told base.U64 (atom.Int m) (atom.Int n) rest more f g e = unsigned_atom m n rest more f g e
atom_told base.I128 (atom.Int m) (atom.Int n) rest more f g e = signed_atom 16 127 low_16 m n rest more f g e
atom_told base.Text (atom.Text t) (atom.Text u) rest more f g e = texts_told t u rest more f g e
atom_told base.Ref (atom.Ref m) (atom.Ref n) rest more f g e = ref_told m n rest more f g e
atom_told b x y rest more f g e = cc

-- ---- lists

pub all_both : {X : Type 0} (p q : X → Bool) (xs : List X) → IsTrue (list_all p xs) → IsTrue (list_all q xs) → IsTrue (list_all (λ x. p x && q x) xs)
all_both p q [] a b = refl
all_both p q (x ∷ xs) a b =
    let c = and_parts (p x) (list_all p xs) a in
    let d = and_parts (q x) (list_all q xs) b in
    and_from _ _ (and_from _ _ c.0 d.0) (all_both p q xs c.1 d.1)

-- lists of one length, whose elements are told
pub list_told : {X : Type 0} (test : X → Bool) (bytes : X → List ℕ) → Tells (λ x. IsTrue (test x)) bytes → (xs ys : List X) (rest more : List ℕ) → length xs ≡ length ys
    → IsTrue (list_all test xs) → IsTrue (list_all test ys) → flat_map bytes xs ++ rest ≡ flat_map bytes ys ++ more → (xs ≡ ys) × (rest ≡ more)
list_told test bytes each [] [] rest more len f g e = (refl, e)
list_told test bytes each [] (y ∷ ys) rest more len f g e = absurd (omega arith)
list_told test bytes each (x ∷ xs) [] rest more len f g e = absurd (omega arith)
list_told test bytes each (x ∷ xs) (y ∷ ys) rest more len f g e =
    let a = and_parts (test x) (list_all test xs) f in
    let b = and_parts (test y) (list_all test ys) g in
    let first = each x y (flat_map bytes xs ++ rest) (flat_map bytes ys ++ more) a.0 b.0 (sym (append_assoc (bytes x) (flat_map bytes xs) rest) ∙ e ∙ append_assoc (bytes y) (flat_map bytes ys) more) in
    let others = list_told test bytes each xs ys rest more (omega arith) a.1 b.1 first.1 in
    (λ i. first.0 i ∷ others.0 i, others.1)

-- the count tells how long the list is
pub counted_told : {X : Type 0} (w : Width) (P : ℕ → Type 0) → Tells P (to_be_bytes w) → (test : X → Bool) (bytes : X → List ℕ) → Tells (λ x. IsTrue (test x)) bytes
    → Tells (λ xs. P (length xs) × IsTrue (list_all test xs)) (counted w bytes)
counted_told w P count test bytes each xs ys rest more f g e =
    let c = count (length xs) (length ys) (flat_map bytes xs ++ rest) (flat_map bytes ys ++ more) f.0 g.0
    (sym (append_assoc (to_be_bytes w (length xs)) (flat_map bytes xs) rest) ∙ e ∙ append_assoc (to_be_bytes w (length ys)) (flat_map bytes ys) more) in
    list_told test bytes each xs ys rest more c.0 f.1 g.1 c.1

-- ---- values

-- the value is of the kind, and small
abbrev is_value : Kind → Value → Bool
is_value k v = fits k v && is_small v

pub items_told : (b : Base) (xs ys : List Atom) (rest more : List ℕ) → IsTrue (list_all (fits_base b) xs && (nat_lt (length xs) (2 ^ 32) && list_all is_small_atom xs))
    → IsTrue (list_all (fits_base b) ys && (nat_lt (length ys) (2 ^ 32) && list_all is_small_atom ys))
    → 1 ∷ counted w32 (atom_bytes b) xs ++ rest ≡ 1 ∷ counted w32 (atom_bytes b) ys ++ more → (value.Many (Some xs) ≡ value.Many (Some ys)) × (rest ≡ more)
items_told b xs ys rest more f g e =
    let p = and_parts _ _ f in
    let q = and_parts _ _ g in
    let c = and_parts _ _ p.1 in
    let d = and_parts _ _ q.1 in
    let r = counted_told w32 (λ n. n < 2 ^ 32) word_same (is_atom b) (atom_bytes b) (atom_told b) xs ys rest more
    (ltb-true (length xs) (2 ^ 32) c.0, all_both (fits_base b) is_small_atom xs p.0 c.1)
    (ltb-true (length ys) (2 ^ 32) d.0, all_both (fits_base b) is_small_atom ys q.0 d.1)
    (rest_same 1 1 _ _ e) in
    (ap (λ zs. value.Many (Some zs)) r.0, r.1)

pub value_told : (k : Kind) → Tells (λ v. IsTrue (is_value k v)) (value_bytes k)
value_told (kind.One b) (value.One x) (value.One y) rest more f g e = let r = atom_told b x y rest more f g e in (ap value.One r.0, r.1)
value_told (kind.Many b) (value.Many None) (value.Many None) rest more f g e = (refl, rest_same 0 0 rest more e)
value_told (kind.Many b) (value.Many None) (value.Many (Some ys)) rest more f g e = apart _ _ e
value_told (kind.Many b) (value.Many (Some xs)) (value.Many None) rest more f g e = apart _ _ (sym e)
value_told (kind.Many b) (value.Many (Some xs)) (value.Many (Some ys)) rest more f g e = items_told b xs ys rest more f g e
value_told k x y rest more f g e = cc

-- ---- records

pub kind_told : (j k : Kind) → kind_tag j ≡ kind_tag k → j ≡ k
kind_told j k e = equal_kinds j k (ap (λ n. kind_tag j == n) (sym e) ∙ same_number (kind_tag j))

pub id_is_word : (n : ℕ) → IsTrue (is_id n) → n < 2 ^ 32
id_is_word n h = ltb-true n (2 ^ 32) (and_parts _ _ h).1

-- what a spellable record's entries are
abbrev is_entry : Entry → Bool
is_entry e = is_id e.id && (entry_fits e && is_small e.value)

pub entry_told : Tells (λ x. IsTrue (is_entry x)) entry_bytes
entry_told x y rest more f g e =
    let p = and_parts (is_id x.id) (is_value x.kind x.value) f in
    let q = and_parts (is_id y.id) (is_value y.kind y.value) g in
    let ids = word_same x.id y.id (kind_tag x.kind ∷ value_bytes x.kind x.value ++ rest) (kind_tag y.kind ∷ value_bytes y.kind y.value ++ more) (id_is_word x.id p.0) (id_is_word y.id q.0) e in
    let kinds = kind_told x.kind y.kind (first_same (kind_tag x.kind) (kind_tag y.kind) _ _ ids.1) in
    let values = value_told x.kind x.value y.value rest more p.1 (subst (λ k. IsTrue (is_value k y.value)) (sym kinds) q.1)
    (rest_same (kind_tag x.kind) (kind_tag y.kind) (value_bytes x.kind x.value ++ rest) (value_bytes y.kind y.value ++ more) ids.1 ∙ ap (λ k. value_bytes k y.value ++ more) (sym kinds)) in
    (λ i. record { id = ids.0 i; value = values.0 i; kind = kinds i }, values.1)

entries_of : (r : Rec) → IsSpellable r → (length r.entries < 2 ^ 16) × IsTrue (list_all is_entry r.entries)
entries_of r s =
    let few = leb-true (length r.entries) 65535 s.few in
    (omega arith, all_both (λ e. is_id e.id) (λ e. entry_fits e && is_small e.value) r.entries s.ids (all_both entry_fits (λ e. is_small e.value) r.entries s.fits s.small))

pub record_told : Tells IsSpellable record_bytes
unfolding record_bytes
record_told r s rest more f g e =
    let c = word_same r.class s.class (counted w16 entry_bytes r.entries ++ rest) (counted w16 entry_bytes s.entries ++ more) (id_is_word r.class f.class) (id_is_word s.class g.class) e in
    let es = counted_told w16 (λ n. n < 2 ^ 16) short_same is_entry entry_bytes entry_told r.entries s.entries rest more (entries_of r f) (entries_of s g) c.1 in
    (λ i. record { class = c.0 i; entries = es.0 i }, es.1)

-- with nothing behind them
pub told_alone : {X : Type 0} (P : X → Type 0) (bytes : X → List ℕ) → Tells P bytes → (x y : X) → P x → P y → bytes x ≡ bytes y → x ≡ y
told_alone P bytes told x y p q e = (told x y [] [] p q (ap (λ l. l ++ []) e)).0

-- ---- entries of lists

pub extent_told : Tells (λ (e : ℕ × ℕ). IsTrue (is_extent e)) (λ e. extent_bytes e.0 e.1)
extent_told x y rest more f g e =
    let p = and_parts _ _ f in
    let q = and_parts _ _ g in
    let a = word_same x.0 y.0 (to_be_bytes w32 x.1 ++ rest) (to_be_bytes w32 y.1 ++ more) (ltb-true x.0 (2 ^ 32) p.0) (ltb-true y.0 (2 ^ 32) q.0) e in
    let b = word_same x.1 y.1 rest more (ltb-true x.1 (2 ^ 32) p.1) (ltb-true y.1 (2 ^ 32) q.1) a.1 in
    (λ i. (a.0 i, b.0 i), b.1)

pub indexed_told : (b : Base) → Tells (λ (e : Atom × ℕ). IsTrue (is_indexed b e)) (λ e. index_bytes b e.0 e.1)
indexed_told b x y rest more f g e =
    let p = and_parts (is_atom b x.0) (is_word x.1) f in
    let q = and_parts (is_atom b y.0) (is_word y.1) g in
    let k = atom_told b x.0 y.0 (to_be_bytes w32 x.1 ++ rest) (to_be_bytes w32 y.1 ++ more) p.0 q.0
    (sym (append_assoc (atom_bytes b x.0) (to_be_bytes w32 x.1) rest) ∙ e ∙ append_assoc (atom_bytes b y.0) (to_be_bytes w32 y.1) more) in
    let n = word_same x.1 y.1 rest more (ltb-true x.1 (2 ^ 32) p.1) (ltb-true y.1 (2 ^ 32) q.1) k.1 in
    (λ i. (k.0 i, n.0 i), n.1)

pub segment_told : {X : Type 0} (test : X → Bool) (bytes : X → List ℕ) → Tells (λ x. IsTrue (test x)) bytes → Tells (IsSegment test) (segment_bytes bytes)
segment_told test bytes each xs ys rest more f g e =
    let a = leb-true (length xs) 65535 f.few in
    let b = leb-true (length ys) 65535 g.few in
    counted_told w16 (λ n. n < 2 ^ 16) short_same test bytes each xs ys rest more (omega arith, f.each) (omega arith, g.each) e

pub extents_told : Tells (IsSegment is_extent) (segment_bytes (λ e. extent_bytes e.0 e.1))
extents_told = segment_told is_extent (λ e. extent_bytes e.0 e.1) extent_told

pub index_told : (b : Base) → Tells (IsSegment (is_indexed b)) (segment_bytes (λ e. index_bytes b e.0 e.1))
index_told b = segment_told (is_indexed b) (λ e. index_bytes b e.0 e.1) (indexed_told b)
