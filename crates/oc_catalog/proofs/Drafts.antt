-- What the bytes of a draft tell, and where none stands.
use Rattle.std.proofs.Common.{◌≡◌, ◌∙◌, ap, sym, refl, ℕ, ◌<◌, ◌≤◌, ◌^◌, Bool, nat_le, ◌&&◌, IsTrue, List, [], ◌∷◌, ◌++◌, length, drop, arith, Option, Some, None}
use Rattle.std.specs.Prelude.{IfNone}
use Rattle.std.specs.Int.{w16, w32, to_be_bytes}
use Rattle.std.proofs.lemmas.Bool.{and_parts, and_from, leb-true, lt-ltb}
use Rattle.std.proofs.lemmas.List.{length-drop}
use Rattle.std.proofs.Math.ListN.{drop_of_length-le}
use Rattle.oc_model.specs.declared.schema.ClassDef.{ClassDef}
use Rattle.oc_model.specs.Spelling.{Tells, counted, class_bytes, field_bytes, name_bytes, is_word}
use Rattle.oc_model.proofs.CatalogTold.{name_told}
use Rattle.oc_model.proofs.Fronts.{rest_same}
use Rattle.oc_marshal.specs.Places.{StandsAt, NothingAt, is_pair, pair_bytes}
use Rattle.oc_marshal.proofs.Parts.{no_first, no_second, pair_found}
use Rattle.oc_marshal.proofs.Standing.{word_told}
use Rattle.oc_catalog.specs.declared.catalog.ListEntry.{ListEntry}
use Rattle.oc_catalog.specs.declared.reading.Draft.{Draft}
use Rattle.oc_catalog.specs.Drafts.{are_few, are_many, draft_bytes, entry_bytes, head_bytes, is_class, is_entry, is_field, is_head, is_label, is_short_name, label_bytes, SpellsDraft}
use Rattle.oc_catalog.specs.Telling.{classes_tell, entries_tell}
use Rattle.oc_catalog.proofs.Rows.{few_told, many_told, pair_told}

-- ---- fields and classes

module _ (bytes : List ℕ) (at : ℕ) where
  -- a field as a label and a name
  no_field : NothingAt (is_pair is_label is_short_name) (pair_bytes label_bytes name_bytes) bytes at → NothingAt is_field field_bytes bytes at
  no_field none f rest p e =
      let parts = and_parts (is_word f.id) (is_short_name f.name) p in
      none ((f.id, ((f.current, f.indexed), f.kind)), f.name) rest (and_from (is_label (f.id, ((f.current, f.indexed), f.kind))) (is_short_name f.name) (and_from (is_word f.id) _ parts.0 refl) parts.1) e

  pub no_label : NothingAt is_label label_bytes bytes at → NothingAt is_field field_bytes bytes at
  no_label none = no_field (no_first is_label label_bytes is_short_name name_bytes bytes at none)

  -- a class as a parent, a name and fields
  no_class : NothingAt (is_pair is_word (is_pair is_short_name (are_few is_field))) (pair_bytes (to_be_bytes w32) (pair_bytes name_bytes (counted w16 field_bytes))) bytes at → NothingAt is_class class_bytes bytes at
  no_class none c rest p e = none (c.parent, (c.name, c.fields)) rest p e

  pub no_fields : (from mid parent : ℕ) (name : List ℕ) → StandsAt is_word (to_be_bytes w32) bytes at parent from → StandsAt is_short_name name_bytes bytes from name mid
      → NothingAt (are_few is_field) (counted w16 field_bytes) bytes mid → NothingAt is_class class_bytes bytes at
  no_fields from mid parent name a b none =
      no_class (no_second is_word (to_be_bytes w32) (is_pair is_short_name (are_few is_field)) (pair_bytes name_bytes (counted w16 field_bytes)) bytes at from parent word_told a
      (no_second is_short_name name_bytes (are_few is_field) (counted w16 field_bytes) bytes from mid name (λ t u rest more p q e. name_told t u rest more e) b none))

-- ---- the head

next_small : (n : ℕ) → IsTrue (nat_le 1 n && nat_le n 2147483647) → IsTrue (is_word n)
next_small n h = let small = leb-true n 2147483647 (and_parts (nat_le 1 n) (nat_le n 2147483647) h).1 in lt-ltb n (2 ^ 32) (omega (arith, small))

heads_tell : Tells (λ h. IsTrue (is_head h)) head_bytes
heads_tell h k rest more p q e =
    let a = and_parts (nat_le 1 h.0 && nat_le h.0 2147483647) (is_word h.1) p in
    let b = and_parts (nat_le 1 k.0 && nat_le k.0 2147483647) (is_word k.1) q in
    let first = word_told h.0 k.0 (to_be_bytes w32 h.1 ++ rest) (to_be_bytes w32 k.1 ++ more) (next_small h.0 a.0) (next_small k.0 b.0) (rest_same 1 1 _ _ e) in
    let second = word_told h.1 k.1 rest more a.1 b.1 first.1 in
    (λ i. (first.0 i, second.0 i), second.1)

pub no_next : (bytes : List ℕ) → NothingAt is_word (to_be_bytes w32) bytes 1 → NothingAt is_head head_bytes bytes 0
no_next bytes none h rest p e =
    none h.0 (to_be_bytes w32 h.1 ++ rest) (next_small h.0 (and_parts (nat_le 1 h.0 && nat_le h.0 2147483647) (is_word h.1) p).0) (ap (λ (l : List ℕ). drop 1 l) e)

pub if_none : {X P : Type 0} (o : Option X) → P → IfNone o P
if_none None p = p
if_none (Some x) p = tt

-- ---- the draft

abbrev lists_bytes : List ListEntry → List ℕ
lists_bytes = counted w32 entry_bytes

abbrev body_bytes : List ClassDef × List ListEntry → List ℕ
body_bytes = pair_bytes (counted w16 class_bytes) lists_bytes

abbrev is_body : List ClassDef × List ListEntry → Bool
is_body = is_pair (are_few is_class) (are_many is_entry)

bodies_tell : Tells (λ b. IsTrue (is_body b)) body_bytes
bodies_tell = pair_told (are_few is_class) (counted w16 class_bytes) (are_many is_entry) lists_bytes (few_told is_class class_bytes classes_tell) (many_told is_entry entry_bytes entries_tell)

abbrev whole_bytes : (ℕ × ℕ) × (List ClassDef × List ListEntry) → List ℕ
whole_bytes = pair_bytes head_bytes body_bytes

abbrev is_whole : (ℕ × ℕ) × (List ClassDef × List ListEntry) → Bool
is_whole = is_pair is_head is_body

wholes_tell : Tells (λ w. IsTrue (is_whole w)) whole_bytes
wholes_tell = pair_told is_head head_bytes is_body body_bytes heads_tell bodies_tell

abbrev whole_of : Draft → (ℕ × ℕ) × (List ClassDef × List ListEntry)
whole_of d = ((d.next, d.next_field), (d.classes, d.lists))

nothing_behind : (xs : List ℕ) → xs ++ [] ≡ xs
nothing_behind [] = refl
nothing_behind (x ∷ xs) = ap (λ l. x ∷ l) (nothing_behind xs)

module _ (bytes : List ℕ) where
  no_draft : NothingAt is_whole whole_bytes bytes 0 → (d : Draft) → SpellsDraft d bytes → ⊥
  no_draft none d s = none (whole_of d) [] s.is (s.bytes ∙ sym (nothing_behind (draft_bytes d)))

  pub no_head : NothingAt is_head head_bytes bytes 0 → (d : Draft) → SpellsDraft d bytes → ⊥
  no_head none = no_draft (no_first is_head head_bytes is_body body_bytes bytes 0 none)

  pub no_lists : (from mid : ℕ) (head : ℕ × ℕ) (classes : List ClassDef) → StandsAt is_head head_bytes bytes 0 head from → StandsAt (are_few is_class) (counted w16 class_bytes) bytes from classes mid
      → NothingAt (are_many is_entry) lists_bytes bytes mid → (d : Draft) → SpellsDraft d bytes → ⊥
  no_lists from mid head classes a b none =
      no_draft (no_second is_head head_bytes is_body body_bytes bytes 0 from head heads_tell a
      (no_second (are_few is_class) (counted w16 class_bytes) (are_many is_entry) lists_bytes bytes from mid classes (few_told is_class class_bytes classes_tell) b none))

  module _ (from mid to : ℕ) (head : ℕ × ℕ) (classes : List ClassDef) (lists : List ListEntry)
      (a : StandsAt is_head head_bytes bytes 0 head from) (b : StandsAt (are_few is_class) (counted w16 class_bytes) bytes from classes mid) (c : StandsAt (are_many is_entry) lists_bytes bytes mid lists to) where
    whole_found : StandsAt is_whole whole_bytes bytes 0 (head, (classes, lists)) to
    whole_found =
        pair_found is_head head_bytes is_body body_bytes bytes 0 from to head (classes, lists) a (pair_found (are_few is_class) (counted w16 class_bytes) (are_many is_entry) lists_bytes bytes from mid to classes lists b c)

    pub none_behind : to < length bytes → (d : Draft) → SpellsDraft d bytes → ⊥
    none_behind more d s =
        let one = wholes_tell (whole_of d) (head, (classes, lists)) [] (drop to bytes) s.is whole_found.passes (nothing_behind (draft_bytes d) ∙ sym s.bytes ∙ whole_found.spelled) in
        let empty : length (drop to bytes) ≡ 0 = sym (ap length one.1) in
        absurd (omega (arith, empty, length-drop to bytes, more))

    pub draft_found : length bytes ≤ to → SpellsDraft (record { next = head.0; next_field = head.1; classes = classes; lists = lists }) bytes
    draft_found end = record {
      is = whole_found.passes;
      bytes = whole_found.spelled ∙ ap (λ l. whole_bytes (head, (classes, lists)) ++ l) (drop_of_length-le bytes end) ∙ nothing_behind (whole_bytes (head, (classes, lists)));
    }

pub draft_only : (bytes : List ℕ) (d e : Draft) → SpellsDraft d bytes → SpellsDraft e bytes → d ≡ e
draft_only bytes d e s t =
    let one = (wholes_tell (whole_of d) (whole_of e) [] [] s.is t.is (ap (λ l. l ++ []) (sym s.bytes ∙ t.bytes))).0 in
    λ i. record { next = ((one i).0).0; next_field = ((one i).0).1; classes = ((one i).1).0; lists = ((one i).1).1 }
