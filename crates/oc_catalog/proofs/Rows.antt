-- Things with their count in front, and what the bytes of two things tell.
use Rattle.std.proofs.Common.{◌≡◌, ◌∙◌, ap, sym, ℕ, ◌+◌, ◌<◌, ◌≤◌, Bool, IsTrue, List, ◌∷◌, ◌++◌, length, take, drop, arith, append_assoc, slice_index}
use Rattle.std.specs.List.{list_all}
use Rattle.std.specs.Int.{w16, w32}
use Rattle.std.proofs.lemmas.Bool.{and_parts, le-leb}
use Rattle.std.proofs.lemmas.List.{drop-drop, drop_more, take-append-drop}
use Rattle.oc_model.specs.Spelling.{Tells, counted, name_bytes, is_word}
use Rattle.oc_model.proofs.Told.{counted_told}
use Rattle.oc_marshal.specs.Places.{StandsAt, is_pair, is_short, pair_bytes}
use Rattle.oc_marshal.proofs.Standing.{short_told, word_told}
use Rattle.oc_catalog.specs.Drafts.{are_few, are_many, is_short_name}

-- ---- two things

pub pair_told : {X Y : Type 0} (t : X → Bool) (s : X → List ℕ) (u : Y → Bool) (r : Y → List ℕ) → Tells (λ x. IsTrue (t x)) s → Tells (λ y. IsTrue (u y)) r
    → Tells (λ p. IsTrue (is_pair t u p)) (pair_bytes s r)
pair_told t s u r first second x y rest more p q e =
    let a = and_parts (t x.0) (u x.1) p in
    let b = and_parts (t y.0) (u y.1) q in
    let f = first x.0 y.0 (r x.1 ++ rest) (r y.1 ++ more) a.0 b.0 (sym (append_assoc (s x.0) (r x.1) rest) ∙ e ∙ append_assoc (s y.0) (r y.1) more) in
    let g = second x.1 y.1 rest more a.1 b.1 f.1 in
    (λ i. (f.0 i, g.0 i), g.1)

-- ---- many things, with their count in front

pub few_told : {X : Type 0} (t : X → Bool) (s : X → List ℕ) → Tells (λ x. IsTrue (t x)) s → Tells (λ xs. IsTrue (are_few t xs)) (counted w16 s)
few_told t s each xs ys rest more p q e =
    counted_told w16 (λ n. IsTrue (is_short n)) short_told t s each xs ys rest more
    (and_parts (is_short (length xs)) (list_all t xs) p) (and_parts (is_short (length ys)) (list_all t ys) q) e

pub many_told : {X : Type 0} (t : X → Bool) (s : X → List ℕ) → Tells (λ x. IsTrue (t x)) s → Tells (λ xs. IsTrue (are_many t xs)) (counted w32 s)
many_told t s each xs ys rest more p q e =
    counted_told w32 (λ n. IsTrue (is_word n)) word_told t s each xs ys rest more
    (and_parts (is_word (length xs)) (list_all t xs) p) (and_parts (is_word (length ys)) (list_all t ys) q) e

-- ---- names

-- the byte at a place, and what stands behind it
byte_first : (bytes : List ℕ) (at : ℕ) → at < length bytes → drop at bytes ≡ slice_index bytes at ∷ drop (at + 1) bytes
byte_first bytes at lt = drop_more bytes at 0 lt

pub name_found : (bytes name : List ℕ) (at len : ℕ) → at < length bytes → len ≡ slice_index bytes at → len ≤ 255 → at + 1 + len ≤ length bytes → name ≡ take len (drop (at + 1) bytes) → length name ≡ len
    → StandsAt is_short_name name_bytes bytes at name (at + 1 + len)
name_found bytes name at len lt first few within is size =
    let behind : drop (at + 1) bytes ≡ name ++ drop (at + 1 + len) bytes =
    sym (take-append-drop len (drop (at + 1) bytes)) ∙ (λ i. sym is i ++ drop len (drop (at + 1) bytes)) ∙ ap (λ l. name ++ l) (drop-drop len (at + 1) bytes) in
    record {
      passes = le-leb (length name) 255 (omega (arith, size, few));
      spelled = byte_first bytes at lt ∙ (λ i. (sym first ∙ sym size) i ∷ behind i);
      within = within;
    }
