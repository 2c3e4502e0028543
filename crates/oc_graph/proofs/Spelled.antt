-- What stands first in the bytes of a record is read from them.
use Rattle.std.proofs.Common.{◌≡◌, refl, sym, ap, ◌∙◌, ℕ, ◌^◌, ◌<◌, Bool, ◌&&◌, nat_lt, nat_le, IsTrue, List, [], ◌∷◌, ◌++◌, length, drop, map, Option, Some, None, arith, append_assoc, append-nil}
use Rattle.std.specs.Prelude.{flat_map}
use Rattle.std.specs.List.{list_all}
use Rattle.std.specs.Int.{w16, w32, to_be_bytes}
use Rattle.std.proofs.lemmas.Bool.{and_parts, and_from, ltb-true, leb-true}
use Rattle.std.proofs.lemmas.Nat.{from_be_bytes-to_be_bytes_2, from_be_bytes-to_be_bytes_4}
use Rattle.std.proofs.Math.Seq.{drop-append_seam}
use Rattle.oc_model.specs.declared.value.Base.{Base}
use Rattle.oc_model.specs.declared.value.Base.TheVariants as base
use Rattle.oc_model.specs.declared.value.Kind.{Kind}
use Rattle.oc_model.specs.declared.value.Kind.TheVariants as kind
use Rattle.oc_model.specs.declared.value.Atom.{Atom}
use Rattle.oc_model.specs.declared.value.Atom.TheVariants as atom
use Rattle.oc_model.specs.declared.value.Value.{Value}
use Rattle.oc_model.specs.declared.value.Value.TheVariants as value
use Rattle.oc_model.specs.declared.value.Entry.{Entry}
use Rattle.oc_model.specs.declared.value.Rec.{Rec}
use Rattle.oc_model.specs.Values.{fits, fits_base}
use Rattle.oc_model.specs.Kinds.{kind_tag}
use Rattle.oc_model.specs.References.{refs_in, refs_in_atom}
use Rattle.oc_model.specs.Spelling.{counted, atom_bytes, value_bytes, entry_bytes, record_bytes, entry_fits, is_small_atom, is_small, is_word, is_id, IsSpellable}
use Rattle.oc_graph.specs.Spelled.{Front, Named, atom_front, behind_text, entry_front, items_front, kind_of, named_of, row_front, short, value_front, word}

-- ---- numbers and kinds

pub word_is : (n : ℕ) (rest : List ℕ) → n < 2 ^ 32 → word (to_be_bytes w32 n ++ rest) ≡ n
word_is n rest small = from_be_bytes-to_be_bytes_4 n small

pub short_is : (n : ℕ) (rest : List ℕ) → n < 2 ^ 16 → short (to_be_bytes w16 n ++ rest) ≡ n
short_is n rest small = from_be_bytes-to_be_bytes_2 n small

pub kind_is : (k : Kind) → kind_of (kind_tag k) ≡ k
kind_is (kind.One base.Bool) = refl
kind_is (kind.One base.I8) = refl
kind_is (kind.One base.I16) = refl
kind_is (kind.One base.I32) = refl
kind_is (kind.One base.I64) = refl
kind_is (kind.One base.U64) = refl
kind_is (kind.One base.I128) = refl
kind_is (kind.One base.Text) = refl
kind_is (kind.One base.Ref) = refl
kind_is (kind.Many base.Bool) = refl
kind_is (kind.Many base.I8) = refl
kind_is (kind.Many base.I16) = refl
kind_is (kind.Many base.I32) = refl
kind_is (kind.Many base.I64) = refl
kind_is (kind.Many base.U64) = refl
kind_is (kind.Many base.I128) = refl
kind_is (kind.Many base.Text) = refl
kind_is (kind.Many base.Ref) = refl

-- ---- single values

-- the value is of the base kind, and small
abbrev is_atom : Base → Atom → Bool
is_atom b a = fits_base b a && is_small_atom a

text_is : (t : Option (List ℕ)) (rest : List ℕ) → IsTrue (is_small_atom (atom.Text t)) → behind_text (atom_bytes base.Text (atom.Text t) ++ rest) ≡ rest
text_is None rest small = refl
text_is (Some t) rest small =
    ap (λ n. drop n (t ++ rest)) (word_is (length t) (t ++ rest) (ltb-true (length t) (2 ^ 32) small)) ∙ drop-append_seam t rest

reference_is : (n : ℕ) (rest : List ℕ) → IsTrue (nat_le n 2147483646) → atom_front base.Ref (atom_bytes base.Ref (atom.Ref n) ++ rest) ≡ (refs_in_atom (atom.Ref n), rest)
reference_is n rest small =
    let le = leb-true n 2147483646 small in
    (λ i. (refs_in_atom (atom.Ref (word_is n rest (omega arith) i)), rest))

pub atom_is : (b : Base) (a : Atom) (rest : List ℕ) → IsTrue (is_atom b a) → atom_front b (atom_bytes b a ++ rest) ≡ (refs_in_atom a, rest)
atom_is base.Bool (atom.Bool x) rest f = refl
atom_is base.I8 (atom.Int n) rest f = refl
atom_is base.I16 (atom.Int n) rest f = refl
atom_is base.I32 (atom.Int n) rest f = refl
atom_is base.I64 (atom.Int n) rest f = refl
atom_is base.U64 (atom.Int n) rest f = refl
atom_is base.I128 (atom.Int n) rest f = refl
atom_is base.Text (atom.Text t) rest f = (λ i. ([], text_is t rest f i))
atom_is base.Ref (atom.Ref n) rest f = reference_is n rest f
atom_is b a rest f = cc

-- ---- rows

pub row_is : {X Y : Type 0} (one : List ℕ → Front Y) (test : X → Bool) (spell : X → List ℕ) (view : X → Y)
    → ((x : X) (rest : List ℕ) → IsTrue (test x) → one (spell x ++ rest) ≡ (view x, rest))
    → (xs : List X) (rest : List ℕ) → IsTrue (list_all test xs) → row_front one (length xs) (flat_map spell xs ++ rest) ≡ (map view xs, rest)
row_is one test spell view each [] rest all = refl
row_is {X} {Y} one test spell view each (x ∷ xs) rest all =
    let parts = and_parts (test x) (list_all test xs) all in
    let here : one (flat_map spell (x ∷ xs) ++ rest) ≡ (view x, flat_map spell xs ++ rest) = ap one (append_assoc (spell x) (flat_map spell xs) rest) ∙ each x (flat_map spell xs ++ rest) parts.0 in
    let later = row_is one test spell view each xs rest parts.1 in
    ap (λ (f : Front Y). (f.0 ∷ (row_front one (length xs) f.1).0, (row_front one (length xs) f.1).1)) here
    ∙ ap (λ (f : Front (List Y)). (view x ∷ f.0, f.1)) later

-- ---- values

all_both : {X : Type 0} (p q : X → Bool) (xs : List X) → IsTrue (list_all p xs) → IsTrue (list_all q xs) → IsTrue (list_all (λ x. p x && q x) xs)
all_both p q [] a b = refl
all_both p q (x ∷ xs) a b =
    let c = and_parts (p x) (list_all p xs) a in
    let d = and_parts (q x) (list_all q xs) b in
    and_from _ _ (and_from _ _ c.0 d.0) (all_both p q xs c.1 d.1)

flat_is : (items : List Atom) → flat_map (λ named. named) (map refs_in_atom items) ≡ flat_map refs_in_atom items
flat_is [] = refl
flat_is (a ∷ items) = ap (λ named. refs_in_atom a ++ named) (flat_is items)

items_are : (b : Base) (items : List Atom) (rest : List ℕ) → length items < 2 ^ 32 → IsTrue (list_all (is_atom b) items)
    → items_front b (counted w32 (atom_bytes b) items ++ rest) ≡ (flat_map refs_in_atom items, rest)
items_are b items rest few all =
    let spelled = append_assoc (to_be_bytes w32 (length items)) (flat_map (atom_bytes b) items) rest in
    let count = word_is (length items) (flat_map (atom_bytes b) items ++ rest) few in
    ap (items_front b) spelled
    ∙ ap (λ n. (flat_map (λ named. named) (row_front (atom_front b) n (flat_map (atom_bytes b) items ++ rest)).0, (row_front (atom_front b) n (flat_map (atom_bytes b) items ++ rest)).1)) count
    ∙ ap (λ (f : Front (List (List ℕ))). (flat_map (λ (named : List ℕ). named) f.0, f.1)) (row_is (atom_front b) (is_atom b) (atom_bytes b) refs_in_atom (atom_is b) items rest all)
    ∙ (λ i. (flat_is items i, rest))

pub value_is : (k : Kind) (v : Value) (rest : List ℕ) → IsTrue (fits k v && is_small v) → value_front k (value_bytes k v ++ rest) ≡ (refs_in v, rest)
value_is (kind.One b) (value.One a) rest f = atom_is b a rest f
value_is (kind.Many b) (value.Many None) rest f = refl
value_is (kind.Many b) (value.Many (Some items)) rest f =
    let p = and_parts (list_all (fits_base b) items) (nat_lt (length items) (2 ^ 32) && list_all is_small_atom items) f in
    let q = and_parts (nat_lt (length items) (2 ^ 32)) (list_all is_small_atom items) p.1 in
    items_are b items rest (ltb-true (length items) (2 ^ 32) q.0) (all_both (fits_base b) is_small_atom items p.0 q.1)
value_is k v rest f = cc

-- ---- records

-- what a spellable record's entries are
abbrev is_entry : Entry → Bool
is_entry e = is_id e.id && (entry_fits e && is_small e.value)

-- the entry's id, and what its value names
abbrev pub named_in_entry : Entry → Named
named_in_entry e = (e.id, refs_in e.value)

entry_is : (e : Entry) (rest : List ℕ) → IsTrue (is_entry e) → entry_front (entry_bytes e ++ rest) ≡ (named_in_entry e, rest)
entry_is e rest f =
    let p = and_parts (is_id e.id) (entry_fits e && is_small e.value) f in
    let id = word_is e.id (kind_tag e.kind ∷ value_bytes e.kind e.value ++ rest) (ltb-true e.id (2 ^ 32) (and_parts (nat_le 1 e.id) (is_word e.id) p.0).1) in
    let value : value_front (kind_of (kind_tag e.kind)) (value_bytes e.kind e.value ++ rest) ≡ (refs_in e.value, rest) = ap (λ k. value_front k (value_bytes e.kind e.value ++ rest)) (kind_is e.kind) ∙ value_is e.kind e.value rest p.1 in
    (λ i. ((id i, (value i).0), (value i).1))

-- what the bytes of a record name is what its entries name
pub named_is : (r : Rec) → IsSpellable r → named_of (record_bytes r) ≡ map named_in_entry r.entries
unfolding record_bytes
named_is r s =
    let few = leb-true (length r.entries) 65535 s.few in
    let count = short_is (length r.entries) (flat_map entry_bytes r.entries) (omega (arith, few)) in
    let all = all_both (λ e. is_id e.id) (λ e. entry_fits e && is_small e.value) r.entries s.ids (all_both entry_fits (λ e. is_small e.value) r.entries s.fits s.small) in
    ap (λ n. (row_front entry_front n (flat_map entry_bytes r.entries)).0) count
    ∙ ap (λ l. (row_front entry_front (length r.entries) l).0) (sym (append-nil (flat_map entry_bytes r.entries)))
    ∙ ap (λ (f : Front (List Named)). f.0) (row_is entry_front is_entry entry_bytes named_in_entry entry_is r.entries [] all)
