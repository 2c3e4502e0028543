-- How many bytes a record's spelling has.
use Rattle.std.proofs.Common.{◌≡◌, refl, ◌+◌, IsTrue, ℕ, zero, suc, Bool, List, [], ◌∷◌, length, Some, None, arith, length-append}
use Rattle.std.specs.Prelude.{flat_map}
use Rattle.std.specs.List.{list_all, sum_by}
use Rattle.std.specs.Int.{Width, w16, w32, byte_len, to_be_bytes, bytes_high_first}
use Rattle.std.proofs.lemmas.List.Sums.{sum_by-cons}
use Rattle.std.proofs.lemmas.Bool.{and_parts}
use Rattle.oc_model.specs.declared.value.Base.{Base}
use Rattle.oc_model.specs.declared.value.Base.TheVariants as base
use Rattle.oc_model.specs.declared.value.Kind.{Kind}
use Rattle.oc_model.specs.declared.value.Kind.TheVariants as kind
use Rattle.oc_model.specs.declared.value.Atom.{Atom}
use Rattle.oc_model.specs.declared.value.Atom.TheVariants as atom
use Rattle.oc_model.specs.declared.value.Value.{Value}
use Rattle.oc_model.specs.declared.value.Value.TheVariants as value
use Rattle.oc_model.specs.declared.value.Entry.{Entry}
use Rattle.oc_model.specs.declared.value.Rec.{Rec}
use Rattle.oc_model.specs.Values.{fits, fits_base}
use Rattle.oc_model.specs.Stores.{base_of, atom_len, value_len, entry_len, record_len}
use Rattle.oc_model.specs.Spelling.{counted, atom_bytes, value_bytes, entry_bytes, record_bytes, entry_fits}

pub length-bytes_high_first : (k n : ℕ) → length (bytes_high_first k n) ≡ k
length-bytes_high_first zero n = refl
length-bytes_high_first (suc k) n = omega (arith, length-bytes_high_first k n)

-- where each has its length, all have the sum
length-all : {X : Type 0} (bytes : X → List ℕ) (len : X → ℕ) (test : X → Bool) → ((x : X) → IsTrue (test x) → length (bytes x) ≡ len x)
    → (xs : List X) → IsTrue (list_all test xs) → length (flat_map bytes xs) ≡ sum_by len xs
length-all bytes len test each [] h = refl
length-all bytes len test each (x ∷ xs) h =
    omega (arith, length-append (bytes x) (flat_map bytes xs), each x (and_parts _ _ h).0, length-all bytes len test each xs (and_parts _ _ h).1, sum_by-cons len x xs)

length-counted : {X : Type 0} (w : Width) (bytes : X → List ℕ) (len : X → ℕ) (test : X → Bool) → ((x : X) → IsTrue (test x) → length (bytes x) ≡ len x)
    → (xs : List X) → IsTrue (list_all test xs) → length (counted w bytes xs) ≡ byte_len w + sum_by len xs
length-counted w bytes len test each xs h =
    omega (arith, length-append (to_be_bytes w (length xs)) (flat_map bytes xs), length-bytes_high_first (byte_len w) (length xs), length-all bytes len test each xs h)

length-atom_bytes : (b : Base) (a : Atom) → IsTrue (fits_base b a) → length (atom_bytes b a) ≡ atom_len b a
length-atom_bytes b (atom.Text None) h = refl
length-atom_bytes b (atom.Text (Some t)) h = omega (arith, length-append (to_be_bytes w32 (length t)) t)
length-atom_bytes b (atom.Int n) h = length-bytes_high_first _ _
length-atom_bytes base.Bool (atom.Bool x) h = refl
length-atom_bytes base.Ref (atom.Ref n) h = refl
length-atom_bytes b a h = cc

length-value_bytes : (k : Kind) (v : Value) → IsTrue (fits k v) → length (value_bytes k v) ≡ value_len (base_of k) v
length-value_bytes (kind.One b) (value.One a) h = length-atom_bytes b a h
length-value_bytes (kind.Many b) (value.Many None) h = refl
length-value_bytes (kind.Many b) (value.Many (Some items)) h = omega (arith, length-counted w32 (atom_bytes b) (atom_len b) (fits_base b) (length-atom_bytes b) items h)
length-value_bytes k v h = cc

length-entry_bytes : (e : Entry) → IsTrue (entry_fits e) → length (entry_bytes e) ≡ entry_len e
length-entry_bytes e h = omega (arith, length-value_bytes e.kind e.value h)

pub length-record_bytes : (r : Rec) → IsTrue (list_all entry_fits r.entries) → length (record_bytes r) ≡ record_len r
unfolding record_bytes
length-record_bytes r h = omega (arith, length-counted w16 entry_bytes entry_len entry_fits length-entry_bytes r.entries h)
