-- An entry of a field's list: a value, and a number behind it.
use Rattle.std.proofs.Common.{ℕ, ◌&&◌, IsTrue, List, Some}
use Rattle.std.specs.Int.{w32, to_be_bytes}
use Rattle.std.proofs.lemmas.Bool.{and_parts, and_from}
use Rattle.oc_model.specs.declared.value.Base.{Base}
use Rattle.oc_model.specs.declared.value.Atom.{Atom}
use Rattle.oc_model.specs.Values.{fits_base}
use Rattle.oc_model.specs.Spelling.{Tells, atom_bytes, is_indexed, is_small_atom, is_word}
use Rattle.oc_model.proofs.Told.{atom_told}
use Rattle.oc_marshal.specs.Places.{StandsAt, NothingAt}
use Rattle.oc_marshal.specs.Records.{is_atom, is_text}
use Rattle.oc_marshal.proofs.Parts.{no_second}
use Rattle.oc_segments.specs.Items.{index_spelling, index_stands}

small_key : (b : Base) (a : Atom) → IsTrue (is_atom b a) → IsTrue (fits_base b a && is_small_atom a)
small_key b a p =
    let parts = and_parts (fits_base b a) (is_small_atom a && is_text a) p in
    and_from (fits_base b a) (is_small_atom a) parts.0 (and_parts (is_small_atom a) (is_text a) parts.1).0

keys_tell : (b : Base) → Tells (λ a. IsTrue (is_atom b a)) (atom_bytes b)
keys_tell b x y rest more p q e = atom_told b x y rest more (small_key b x p) (small_key b y q) e

pub no_number : (b : Base) (bytes : List ℕ) (at from : ℕ) (key : Atom) → StandsAt (is_atom b) (atom_bytes b) bytes at key from → NothingAt is_word (to_be_bytes w32) bytes from
    → NothingAt (index_stands (Some b)) (index_spelling (Some b)) bytes at
no_number b bytes at from key a none x rest p e =
    let whole = and_parts (is_indexed b (x.key, x.number)) (is_text x.key) p in
    let parts = and_parts (fits_base b x.key && is_small_atom x.key) (is_word x.number) whole.0 in
    let fits = and_parts (fits_base b x.key) (is_small_atom x.key) parts.0 in
    let stands = and_from (fits_base b x.key) (is_small_atom x.key && is_text x.key) fits.0 (and_from (is_small_atom x.key) (is_text x.key) fits.1 whole.1) in
    no_second (is_atom b) (atom_bytes b) is_word (to_be_bytes w32) bytes at from key (keys_tell b) a none (x.key, x.number) rest (and_from (is_atom b x.key) (is_word x.number) stands parts.1) e
