-- What the bytes of a record's parts tell, and where none of them stands.
use Rattle.std.proofs.Common.{◌≡◌, ◌∙◌, ap, sym, refl, subst, ℕ, ◌-◌, ◌^◌, ◌<◌, ◌≤◌, Bool, true, false, ◌&&◌, ◌==◌, nat_lt, nat_le, IsTrue, List, [], ◌∷◌, ◌++◌, length, drop, arith, append_assoc, Option, Some, None}
use Rattle.std.specs.Prelude.{if◌then◌else◌, flat_map, Result, Ok, Err, IfOk, IfNone}
use Rattle.std.specs.List.{list_all}
use Rattle.std.specs.Int.{w16, w32, to_be_bytes}
use Rattle.std.proofs.lemmas.Bool.{and_parts, and_from, leb-true, ltb-true, lt-ltb, le-leb}
use Rattle.std.proofs.lemmas.List.{length-drop}
use Rattle.std.proofs.Math.ListN.{drop_of_length-le}
use Rattle.oc_model.specs.declared.value.Base.{Base}
use Rattle.oc_model.specs.declared.value.Base.TheVariants as base
use Rattle.oc_model.specs.declared.value.Kind.{Kind}
use Rattle.oc_model.specs.declared.value.Kind.TheVariants as kind
use Rattle.oc_model.specs.declared.value.Atom.{Atom}
use Rattle.oc_model.specs.declared.value.Atom.TheVariants as atom
use Rattle.oc_model.specs.declared.value.Value.{Value}
use Rattle.oc_model.specs.declared.value.Value.TheVariants as value
use Rattle.oc_model.specs.declared.value.Entry.{Entry}
use Rattle.oc_model.specs.declared.value.Rec.{Rec}
use Rattle.oc_model.specs.Values.{fits, fits_base}
use Rattle.oc_model.specs.Kinds.{kind_tag}
use Rattle.oc_model.specs.Spelling.{Tells, atom_bytes, value_bytes, entry_bytes, record_bytes, counted, entry_fits, is_small, is_small_atom, is_word, is_id, IsSpellable}
use Rattle.oc_marshal.specs.Places.{StandsAt, NothingAt, StandInRow, NoRowAt, any, is_short, is_optional, optional_bytes, is_pair, pair_bytes}
use Rattle.oc_marshal.specs.Records.{IsRecord, SpellsRecord, are_items, is_ascending, is_atom, is_value, is_entry, is_text, has_texts, is_string, string_bytes, kind_bytes}
use Rattle.oc_marshal.proofs.Standing.{only_one, short_told, word_told}

-- ---- what is told

abbrev pub ValuesTell : Type 0
ValuesTell = (k : Kind) → Tells (λ v. IsTrue (fits k v && is_small v)) (value_bytes k)

small_atom : (b : Base) (a : Atom) → IsTrue (is_atom b a) → IsTrue (fits_base b a && is_small_atom a)
small_atom b a p =
    let parts = and_parts (fits_base b a) (is_small_atom a && is_text a) p in
    and_from (fits_base b a) (is_small_atom a) parts.0 (and_parts (is_small_atom a) (is_text a) parts.1).0

pub atom_told : ValuesTell → (b : Base) → Tells (λ a. IsTrue (is_atom b a)) (atom_bytes b)
atom_told law b x y rest more p q e =
    let r = law (kind.One b) (value.One x) (value.One y) rest more (small_atom b x p) (small_atom b y q) e in
    let same = r.0 in
    (cc, r.1)

alone : Entry → Rec
alone e = record { class = 1; entries = e ∷ [] }

small_value : (k : Kind) (v : Value) → IsTrue (is_value k v) → IsTrue (fits k v) × IsTrue (is_small v)
small_value k v p =
    let parts = and_parts (fits k v) (is_small v && has_texts v) p in
    (parts.0, (and_parts (is_small v) (has_texts v) parts.1).0)

alone_spellable : (e : Entry) → IsTrue (is_entry e) → IsSpellable (alone e)
unfolding alone
alone_spellable e p =
    let parts = and_parts (is_id e.id) (is_value e.kind e.value) p in
    let v = small_value e.kind e.value parts.1 in
    record {
      class = refl;
      few = refl;
      ids = and_from (is_id e.id) true parts.0 refl;
      fits = and_from (entry_fits e) true v.0 refl;
      small = and_from (is_small e.value) true v.1 refl;
    }

alone_bytes : (e : Entry) (rest : List ℕ) → record_bytes (alone e) ++ rest ≡ 0 ∷ 0 ∷ 0 ∷ 1 ∷ 0 ∷ 1 ∷ (entry_bytes e ++ rest)
unfolding record_bytes alone
alone_bytes e rest = ap (λ l. 0 ∷ 0 ∷ 0 ∷ 1 ∷ 0 ∷ 1 ∷ l) (append_assoc (entry_bytes e) [] rest)

pub entry_told : Tells IsSpellable record_bytes → Tells (λ e. IsTrue (is_entry e)) entry_bytes
unfolding alone
entry_told law x y rest more p q e =
    let r = law (alone x) (alone y) rest more (alone_spellable x p) (alone_spellable y q)
    (alone_bytes x rest ∙ ap (λ l. 0 ∷ 0 ∷ 0 ∷ 1 ∷ 0 ∷ 1 ∷ l) e ∙ sym (alone_bytes y more)) in
    let lists : (x ∷ []) ≡ (y ∷ []) = ap (λ (s : Rec). s.entries) r.0 in
    (cc, r.1)

pub id_told : Tells (λ n. IsTrue (is_id n)) (to_be_bytes w32)
id_told m n rest more p q e = word_told m n rest more (and_parts (nat_le 1 m) (is_word m) p).1 (and_parts (nat_le 1 n) (is_word n) q).1 e

base_from : ℕ → Base
base_from n =
    if n == 1 then base.Bool else if n == 2 then base.I8 else if n == 3 then base.I16 else if n == 4 then base.I32 else if n == 5 then base.I64 else if n == 6 then base.Text else if n == 7 then base.Ref else if n == 8 then base.U64 else base.I128

kind_from : ℕ → Kind
kind_from n = if nat_lt n 16 then kind.One (base_from n) else kind.Many (base_from (n - 16))

kind_back : (k : Kind) → kind_from (kind_tag k) ≡ k
unfolding base_from kind_from
kind_back (kind.One base.Bool) = refl
kind_back (kind.One base.I8) = refl
kind_back (kind.One base.I16) = refl
kind_back (kind.One base.I32) = refl
kind_back (kind.One base.I64) = refl
kind_back (kind.One base.U64) = refl
kind_back (kind.One base.I128) = refl
kind_back (kind.One base.Text) = refl
kind_back (kind.One base.Ref) = refl
kind_back (kind.Many base.Bool) = refl
kind_back (kind.Many base.I8) = refl
kind_back (kind.Many base.I16) = refl
kind_back (kind.Many base.I32) = refl
kind_back (kind.Many base.I64) = refl
kind_back (kind.Many base.U64) = refl
kind_back (kind.Many base.I128) = refl
kind_back (kind.Many base.Text) = refl
kind_back (kind.Many base.Ref) = refl

kind_told : Tells (λ k. IsTrue (any k)) kind_bytes
kind_told j k rest more p q e =
    let tags : kind_tag j ≡ kind_tag k = cc in
    let same : rest ≡ more = cc in
    (sym (kind_back j) ∙ ap kind_from tags ∙ kind_back k, same)

pair_told : {X Y : Type 0} (t : X → Bool) (s : X → List ℕ) (u : Y → Bool) (r : Y → List ℕ) → Tells (λ x. IsTrue (t x)) s → Tells (λ y. IsTrue (u y)) r
    → Tells (λ p. IsTrue (is_pair t u p)) (pair_bytes s r)
pair_told t s u r first second x y rest more p q e =
    let a = and_parts (t x.0) (u x.1) p in
    let b = and_parts (t y.0) (u y.1) q in
    let f = first x.0 y.0 (r x.1 ++ rest) (r y.1 ++ more) a.0 b.0 (sym (append_assoc (s x.0) (r x.1) rest) ∙ e ∙ append_assoc (s y.0) (r y.1) more) in
    let g = second x.1 y.1 rest more a.1 b.1 f.1 in
    (λ i. (f.0 i, g.0 i), g.1)

pub label_told : Tells (λ l. IsTrue (is_pair is_id any l)) (pair_bytes (to_be_bytes w32) kind_bytes)
label_told = pair_told is_id (to_be_bytes w32) any kind_bytes id_told kind_told

-- ---- where none stands

pub no_reference : (bytes : List ℕ) (at : ℕ) → NothingAt is_word (to_be_bytes w32) bytes at → NothingAt (is_atom base.Ref) (atom_bytes base.Ref) bytes at
no_reference bytes at none (atom.Ref n) rest p e =
    none n rest (lt-ltb n (2 ^ 32) (let small = leb-true n 2147483646 (and_parts (nat_le n 2147483646) true p).0 in omega (arith, small))) e
no_reference bytes at none (atom.Bool x) rest p e = cc
no_reference bytes at none (atom.Int n) rest p e = cc
no_reference bytes at none (atom.Text t) rest p e = cc

pub no_text : (bytes : List ℕ) (at : ℕ) → NothingAt (is_optional is_string) (optional_bytes string_bytes) bytes at → NothingAt (is_atom base.Text) (atom_bytes base.Text) bytes at
no_text bytes at none (atom.Text None) rest p e = none None rest refl e
no_text bytes at none (atom.Text (Some t)) rest p e = none (Some t) rest p e
no_text bytes at none (atom.Ref n) rest p e = cc
no_text bytes at none (atom.Bool x) rest p e = cc
no_text bytes at none (atom.Int n) rest p e = cc

no_single : (b : Base) (bytes : List ℕ) (at : ℕ) → NothingAt (is_atom b) (atom_bytes b) bytes at → NothingAt (is_value (kind.One b)) (value_bytes (kind.One b)) bytes at
no_single b bytes at none (value.One a) rest p e = none a rest p e
no_single b bytes at none (value.Many items) rest p e = cc

pub no_value : (k : Kind) (b : Base) (bytes : List ℕ) (at : ℕ) → k ≡ kind.One b → NothingAt (is_atom b) (atom_bytes b) bytes at → NothingAt (is_value k) (value_bytes k) bytes at
no_value k b bytes at is none = subst (λ j. NothingAt (is_value j) (value_bytes j) bytes at) (sym is) (no_single b bytes at none)

-- ---- arrays

all_both : {X : Type 0} (p q : X → Bool) (xs : List X) → IsTrue (list_all p xs) → IsTrue (list_all q xs) → IsTrue (list_all (λ x. p x && q x) xs)
all_both p q [] a b = refl
all_both p q (x ∷ xs) a b =
    let c = and_parts (p x) (list_all p xs) a in
    let d = and_parts (q x) (list_all q xs) b in
    and_from (p x && q x) (list_all (λ x. p x && q x) xs) (and_from (p x) (q x) c.0 d.0) (all_both p q xs c.1 d.1)

all_each : {X : Type 0} (p q : X → Bool) (xs : List X) → IsTrue (list_all (λ x. p x && q x) xs) → IsTrue (list_all p xs) × IsTrue (list_all q xs)
all_each p q [] h = (refl, refl)
all_each p q (x ∷ xs) h =
    let here = and_parts (p x && q x) (list_all (λ x. p x && q x) xs) h in
    let first = and_parts (p x) (q x) here.0 in
    let others = all_each p q xs here.1 in
    (and_from (p x) (list_all p xs) first.0 others.0, and_from (q x) (list_all q xs) first.1 others.1)

no_many : (b : Base) (bytes : List ℕ) (at : ℕ) → NothingAt (is_optional (are_items b)) (optional_bytes (counted w32 (atom_bytes b))) bytes at
    → NothingAt (is_value (kind.Many b)) (value_bytes (kind.Many b)) bytes at
no_many b bytes at none (value.One a) rest p e = cc
no_many b bytes at none (value.Many None) rest p e = none None rest refl e
no_many b bytes at none (value.Many (Some xs)) rest p e =
    let parts = and_parts (list_all (fits_base b) xs) ((nat_lt (length xs) (2 ^ 32) && list_all is_small_atom xs) && list_all is_text xs) p in
    let more = and_parts (nat_lt (length xs) (2 ^ 32) && list_all is_small_atom xs) (list_all is_text xs) parts.1 in
    let few = and_parts (nat_lt (length xs) (2 ^ 32)) (list_all is_small_atom xs) more.0 in
    let each = all_both (fits_base b) (λ a. is_small_atom a && is_text a) xs parts.0 (all_both is_small_atom is_text xs few.1 more.1) in
    none (Some xs) rest (and_from (nat_lt (length xs) (2 ^ 32)) (list_all (is_atom b) xs) few.0 each) e

pub no_array : (k : Kind) (b : Base) (bytes : List ℕ) (at : ℕ) → k ≡ kind.Many b → NothingAt (is_optional (are_items b)) (optional_bytes (counted w32 (atom_bytes b))) bytes at
    → NothingAt (is_value k) (value_bytes k) bytes at
no_array k b bytes at is none = subst (λ j. NothingAt (is_value j) (value_bytes j) bytes at) (sym is) (no_many b bytes at none)

many_found : (b : Base) (bytes : List ℕ) (at to : ℕ) (items : Option (List Atom)) → StandsAt (is_optional (are_items b)) (optional_bytes (counted w32 (atom_bytes b))) bytes at items to
    → StandsAt (is_value (kind.Many b)) (value_bytes (kind.Many b)) bytes at (value.Many items) to
many_found b bytes at to None s = record { passes = refl; spelled = s.spelled; within = s.within }
many_found b bytes at to (Some xs) s =
    let parts = and_parts (nat_lt (length xs) (2 ^ 32)) (list_all (is_atom b) xs) s.passes in
    let first = all_each (fits_base b) (λ a. is_small_atom a && is_text a) xs parts.1 in
    let more = all_each is_small_atom is_text xs first.1 in
    record {
      passes = and_from (list_all (fits_base b) xs) _ first.0 (and_from _ (list_all is_text xs) (and_from (nat_lt (length xs) (2 ^ 32)) (list_all is_small_atom xs) parts.0 more.0) more.1);
      spelled = s.spelled;
      within = s.within;
    }

pub array_found : (k : Kind) (b : Base) (bytes : List ℕ) (at to : ℕ) (items : Option (List Atom)) → k ≡ kind.Many b → StandsAt (is_optional (are_items b)) (optional_bytes (counted w32 (atom_bytes b))) bytes at items to
    → StandsAt (is_value k) (value_bytes k) bytes at (value.Many items) to
array_found k b bytes at to items is s = subst (λ j. StandsAt (is_value j) (value_bytes j) bytes at (value.Many items) to) (sym is) (many_found b bytes at to items s)

pub no_items : (b : Base) (bytes : List ℕ) (at from count : ℕ) → StandsAt is_word (to_be_bytes w32) bytes at count from → NoRowAt (is_atom b) (atom_bytes b) bytes from count
    → NothingAt (are_items b) (counted w32 (atom_bytes b)) bytes at
no_items b bytes at from count s none xs rest p e =
    let parts = and_parts (nat_lt (length xs) (2 ^ 32)) (list_all (is_atom b) xs) p in
    let one = only_one is_word (to_be_bytes w32) bytes at from count (length xs) (flat_map (atom_bytes b) xs ++ rest) word_told s parts.0
    (e ∙ append_assoc (to_be_bytes w32 (length xs)) (flat_map (atom_bytes b) xs) rest) in
    none xs rest one.0 parts.1 (sym one.1)

pub none_weaker : {T E A B : Type 0} (r : Result (Option T) E) → (A → B) → IfOk r (λ f. IfNone f A) → IfOk r (λ f. IfNone f B)
none_weaker (Ok None) f h = f h
none_weaker (Ok (Some x)) f h = tt
none_weaker (Err e) f h = tt

-- ---- records

pub no_entry : (bytes : List ℕ) (at : ℕ) → NothingAt (is_pair is_id any) (pair_bytes (to_be_bytes w32) kind_bytes) bytes at → NothingAt is_entry entry_bytes bytes at
no_entry bytes at none x rest p e =
    none (x.id, x.kind) (value_bytes x.kind x.value ++ rest) (and_from (is_id x.id) true (and_parts (is_id x.id) (is_value x.kind x.value) p).0 refl) e

abbrev head_bytes : ℕ × ℕ → List ℕ
head_bytes = pair_bytes (to_be_bytes w32) (to_be_bytes w16)

abbrev is_head : ℕ × ℕ → Bool
is_head = is_pair is_id is_short

pub head_told : Tells (λ h. IsTrue (is_head h)) head_bytes
head_told = pair_told is_id (to_be_bytes w32) is_short (to_be_bytes w16) id_told short_told

head_is : (r : Rec) → IsSpellable r → IsTrue (is_head (r.class, length r.entries))
head_is r s = and_from (is_id r.class) (is_short (length r.entries)) s.class (lt-ltb (length r.entries) (2 ^ 16) (let few = leb-true (length r.entries) 65535 s.few in omega (arith, few)))

record_is : (r : Rec) → record_bytes r ≡ head_bytes (r.class, length r.entries) ++ flat_map entry_bytes r.entries
unfolding record_bytes
record_is r = refl

pub no_head : (bytes : List ℕ) → NothingAt is_head head_bytes bytes 0 → (r : Rec) → SpellsRecord r bytes → ⊥
no_head bytes none r s = none (r.class, length r.entries) (flat_map entry_bytes r.entries) (head_is r s.is.spellable) (s.bytes ∙ record_is r)

entries_are : (r : Rec) → IsRecord r → IsTrue (list_all is_entry r.entries)
entries_are r is =
    let s = is.spellable in
    all_both (λ e. is_id e.id) (λ (e : Entry). is_value e.kind e.value) r.entries s.ids
    (all_both entry_fits (λ (e : Entry). is_small e.value && has_texts e.value) r.entries s.fits
    (all_both (λ (e : Entry). is_small e.value) (λ (e : Entry). has_texts e.value) r.entries s.small is.texts))

nothing_behind : (xs : List ℕ) → xs ++ [] ≡ xs
nothing_behind [] = refl
nothing_behind (x ∷ xs) = ap (λ l. x ∷ l) (nothing_behind xs)

pub no_entries : (bytes : List ℕ) (class count from : ℕ) → StandsAt is_head head_bytes bytes 0 (class, count) from → NoRowAt is_entry entry_bytes bytes from count → (r : Rec) → SpellsRecord r bytes → ⊥
no_entries bytes class count from s none r spells =
    let one = only_one is_head head_bytes bytes 0 from (class, count) (r.class, length r.entries) (flat_map entry_bytes r.entries) head_told s (head_is r spells.is.spellable) (spells.bytes ∙ record_is r) in
    none r.entries [] (ap (λ (h : ℕ × ℕ). h.1) one.0) (entries_are r spells.is) (sym one.1 ∙ sym (nothing_behind (flat_map entry_bytes r.entries)))

-- a head and as many entries behind it, whatever stands behind them
record IsFront (r : Rec) (b : List ℕ) (to : ℕ) : Type 0 where
  spellable : IsSpellable r
  texts : IsTrue (list_all (λ e. has_texts e.value) r.entries)
  bytes : b ≡ record_bytes r ++ drop to b

front : (bytes : List ℕ) (class count from to : ℕ) (es : List Entry) → StandsAt is_head head_bytes bytes 0 (class, count) from → StandInRow is_entry entry_bytes bytes from es to → length es ≡ count
    → IsFront (record { class = class; entries = es }) bytes to
front bytes class count from to es h row len =
    let head = and_parts (is_id class) (is_short count) h.passes in
    let ids = all_each (λ e. is_id e.id) (λ (e : Entry). is_value e.kind e.value) es row.passes in
    let kinds = all_each entry_fits (λ (e : Entry). is_small e.value && has_texts e.value) es ids.1 in
    let rest = all_each (λ (e : Entry). is_small e.value) (λ (e : Entry). has_texts e.value) es kinds.1 in
    let r : Rec = record { class = class; entries = es } in
    record {
      spellable = record {
        class = head.0;
        few = le-leb (length es) 65535 (let small = ltb-true count (2 ^ 16) head.1 in omega (arith, small, len));
        ids = ids.0;
        fits = kinds.0;
        small = rest.0;
      };
      texts = rest.1;
      bytes =
          h.spelled
          ∙ (λ i. head_bytes (class, sym len i) ++ row.spelled i)
          ∙ sym (append_assoc (head_bytes (class, length es)) (flat_map entry_bytes es) (drop to bytes))
          ∙ ap (λ l. l ++ drop to bytes) (sym (record_is r));
    }

abbrev pub RecordsTell : Type 0
RecordsTell = Tells IsSpellable record_bytes

-- a record with these bytes is the one that was found, and nothing stands behind it
same_record : RecordsTell → (r x : Rec) (b : List ℕ) (to : ℕ) → IsFront r b to → SpellsRecord x b → (x ≡ r) × ([] ≡ drop to b)
same_record law r x b to f s = law x r [] (drop to b) s.is.spellable f.spellable (nothing_behind (record_bytes x) ∙ sym s.bytes ∙ f.bytes)

pub none_behind : RecordsTell → (bytes : List ℕ) (class count from to : ℕ) (es : List Entry) → StandsAt is_head head_bytes bytes 0 (class, count) from → StandInRow is_entry entry_bytes bytes from es to → length es ≡ count
    → to < length bytes → (x : Rec) → SpellsRecord x bytes → ⊥
none_behind law bytes class count from to es h row len more x s =
    let same = same_record law (record { class = class; entries = es }) x bytes to (front bytes class count from to es h row len) s in
    let empty : length (drop to bytes) ≡ 0 = sym (ap length same.1) in
    absurd (omega (arith, empty, length-drop to bytes, more))

pub none_in_disorder : RecordsTell → (bytes : List ℕ) (class count from to : ℕ) (es : List Entry) → StandsAt is_head head_bytes bytes 0 (class, count) from → StandInRow is_entry entry_bytes bytes from es to → length es ≡ count
    → is_ascending es ≡ false → (x : Rec) → SpellsRecord x bytes → ⊥
none_in_disorder law bytes class count from to es h row len disorder x s =
    let same = same_record law (record { class = class; entries = es }) x bytes to (front bytes class count from to es h row len) s in
    let order : is_ascending es ≡ true = sym (ap (λ (r : Rec). is_ascending r.entries) same.0) ∙ s.is.ascending in
    absurd (cc (order, disorder))

pub record_found : (bytes : List ℕ) (class count from to : ℕ) (es : List Entry) → StandsAt is_head head_bytes bytes 0 (class, count) from → StandInRow is_entry entry_bytes bytes from es to → length es ≡ count
    → length bytes ≤ to → is_ascending es ≡ true → SpellsRecord (record { class = class; entries = es }) bytes
record_found bytes class count from to es h row len end order =
    let f = front bytes class count from to es h row len in
    record {
      is = record { spellable = f.spellable; ascending = order; texts = f.texts };
      bytes = f.bytes ∙ ap (λ l. record_bytes (record { class = class; entries = es }) ++ l) (drop_of_length-le bytes end) ∙ nothing_behind (record_bytes (record { class = class; entries = es }));
    }
