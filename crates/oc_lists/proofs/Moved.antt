-- What stays of lists whose entries change.
use Rattle.std.proofs.Common.{◌≡◌, ◌⊎◌, ◌∙◌, inl, inr, ap, ap₂, sym, refl, subst, ℕ, Bool, true, false, cond, not, nat_le, List, [], ◌∷◌, ◌++◌, append-nil, map, filter, flat_map, Option, Result, Ok, Err, OnOk, OnErr, ⊎_elim}
use Rattle.std.specs.List.{list_any}
use Rattle.std.proofs.lemmas.Bool.{or_parts}
use Rattle.std.proofs.lemmas.List.Elements.{filter_map-append, filter-append}
use Rattle.std.proofs.lemmas.List.Concat.{flat_map-append}
use Rattle.oc_model.specs.Lists.{IsOneOf}
use Rattle.oc_model.specs.Schemas.{Schema}
use Rattle.oc_chunks.specs.Ascending.{Each}
use Rattle.oc_chunks.specs.Chunks.{Chunk, joined, left, nonempty, numbers, some_of, IsCut, IsCutFrom}
use Rattle.oc_chunks.proofs.Eaches.{each_append, each_more}
use Rattle.oc_chunks.proofs.Views.{each_member}
use Rattle.oc_index.specs.declared.items.ExtentItem.{ExtentItem}
use Rattle.oc_index.specs.Fields.{FieldList}
use Rattle.oc_index.specs.Indexed.{undone, StoreLists}
use Rattle.oc_lists.specs.Keeping.{list_numbers, AreKept, AreNumbered, StandAsThen}
use Rattle.oc_lists.specs.Lists.{bases_in, HasIndexes}
use Rattle.oc_lists.specs.Moving.{AreFields, AreMoved, ArePartOf, IsMoved}
use Rattle.oc_lists.proofs.FieldWise.{fields_each, fields_ids, fields_self, fields_then}
use Rattle.oc_lists.proofs.PartOf.{part_append, part_apart, part_none, part_passes, part_self, part_then}

pub one_of_each : {Y : Type 0} (P : Y → Type 0) (ys : List Y) (y : Y) → Each P ys → IsOneOf y ys → P y
one_of_each P [] y e m = absurd m
one_of_each P (z ∷ zs) y e (inl same) = subst P (sym same) e.0
one_of_each P (z ∷ zs) y e (inr m) = one_of_each P zs y e.1 m

module _ {X : Type 0} where
  -- ---- chunks

  pub stand_self : (cs : List (Chunk X)) → StandAsThen cs cs
  stand_self cs = each_more (λ c. IsOneOf c cs) (λ c. (c.changed ≡ true) ⊎ IsOneOf c cs) cs (λ c m. inr m) (each_member cs)

  pub stand_then : (cs ds es : List (Chunk X)) → StandAsThen cs ds → StandAsThen ds es → StandAsThen cs es
  stand_then cs ds es a b = each_more (λ c. (c.changed ≡ true) ⊎ IsOneOf c ds) (λ c. (c.changed ≡ true) ⊎ IsOneOf c cs) es (λ c h. ⊎_elim (λ q. inl q) (λ m. one_of_each (λ d. (d.changed ≡ true) ⊎ IsOneOf d cs) ds c a m) h) b

  pub stand_cut : (bytes : X → ℕ) (most : ℕ) (cs ds : List (Chunk X)) → IsCutFrom bytes most cs ds → StandAsThen cs ds
  stand_cut bytes most cs ds a = each_more (λ c. IsOneOf c cs ⊎ IsCut bytes most c) (λ c. (c.changed ≡ true) ⊎ IsOneOf c cs) ds (λ c h. ⊎_elim (λ m. inr m) (λ k. inl k.changed) h) a

  -- ---- chunks without some entries

  module _ (p : X → Bool) where
    some_changed : (cs : List (Chunk X)) (es : List X) (c : Chunk X) → c.changed ≡ true → StandAsThen cs (some_of es c)
    some_changed cs [] c h = tt
    some_changed cs (e ∷ es) c h = (inl h, tt)

    left_stands : (c : Chunk X) (cs : List (Chunk X)) → IsOneOf c cs → StandAsThen cs (left p c)
    left_stands c cs m =
        (elim (list_any p c.entries) as (λ b. StandAsThen cs (cond b (nonempty (record { entries = filter (λ e. not (p e)) c.entries; number = c.number; changed = true })) (c ∷ []))) [
          | true ↦ some_changed cs (filter (λ e. not (p e)) c.entries) (record { entries = filter (λ e. not (p e)) c.entries; number = c.number; changed = true }) refl
          | false ↦ (inr m, tt)
        ])

    all_left : (cs ds : List (Chunk X)) → Each (λ d. IsOneOf d cs) ds → StandAsThen cs (flat_map (left p) ds)
    all_left cs [] a = tt
    all_left cs (d ∷ ds) a = each_append (λ c. (c.changed ≡ true) ⊎ IsOneOf c cs) (left p d) (flat_map (left p) ds) (left_stands d cs a.0) (all_left cs ds a.1)

    pub stand_left : (cs : List (Chunk X)) → StandAsThen cs (flat_map (left p) cs)
    stand_left cs = all_left cs cs (each_member cs)

    some_numbers : (es : List X) (c : Chunk X) → ArePartOf (numbers (some_of es c)) (numbers (c ∷ []))
    some_numbers [] c = part_none (numbers (c ∷ []))
    some_numbers (e ∷ es) c = part_self (numbers (c ∷ []))

    left_numbers : (c : Chunk X) → ArePartOf (numbers (left p c)) (numbers (c ∷ []))
    left_numbers c =
        (elim (list_any p c.entries) as (λ b. ArePartOf (numbers (cond b (nonempty (record { entries = filter (λ e. not (p e)) c.entries; number = c.number; changed = true })) (c ∷ []))) (numbers (c ∷ []))) [
          | true ↦ some_numbers (filter (λ e. not (p e)) c.entries) (record { entries = filter (λ e. not (p e)) c.entries; number = c.number; changed = true })
          | false ↦ part_self (numbers (c ∷ []))
        ])

    pub part_left : (cs : List (Chunk X)) → ArePartOf (numbers (flat_map (left p) cs)) (numbers cs)
    part_left [] = refl
    part_left (c ∷ cs) =
        subst (λ l. ArePartOf l (numbers (c ∷ cs))) (sym (filter_map-append (λ (d : Chunk X). d.number) (left p c) (flat_map (left p) cs)))
        (subst (ArePartOf (numbers (left p c) ++ numbers (flat_map (left p) cs))) (sym (filter_map-append (λ (d : Chunk X). d.number) (c ∷ []) cs))
        (part_append (numbers (left p c)) (numbers (c ∷ [])) (numbers (flat_map (left p) cs)) (numbers cs) (left_numbers c) (part_left cs)))

    stays : (es : List X) → list_any p es ≡ false → filter (λ e. not (p e)) es ≡ es
    stays [] h = refl
    stays (e ∷ es) h =
        let b = or_parts (p e) (list_any p es) h in
        ap (λ t. cond (not t) (e ∷ filter (λ e. not (p e)) es) (filter (λ e. not (p e)) es)) b.0 ∙ ap (λ l. e ∷ l) (stays es b.1)

    some_joined : (es : List X) (n : Option ℕ) → joined (some_of es (record { entries = es; number = n; changed = true })) ≡ es
    some_joined [] n = refl
    some_joined (e ∷ es) n = append-nil (e ∷ es)

    left_joined : (c : Chunk X) → joined (left p c) ≡ filter (λ e. not (p e)) c.entries
    left_joined c =
        (elim (list_any p c.entries) as (λ b. list_any p c.entries ≡ b → joined (cond b (nonempty (record { entries = filter (λ e. not (p e)) c.entries; number = c.number; changed = true })) (c ∷ [])) ≡ filter (λ e. not (p e)) c.entries) [
          | true ↦ λ h. some_joined (filter (λ e. not (p e)) c.entries) c.number
          | false ↦ λ h. append-nil c.entries ∙ sym (stays c.entries h)
        ]) refl

    pub joined_left : (cs : List (Chunk X)) → joined (flat_map (left p) cs) ≡ filter (λ e. not (p e)) (joined cs)
    joined_left [] = refl
    joined_left (c ∷ cs) =
        flat_map-append (λ (d : Chunk X). d.entries) (left p c) (flat_map (left p) cs)
        ∙ ap₂ (λ k l. k ++ l) (left_joined c) (joined_left cs)
        ∙ sym (filter-append (λ e. not (p e)) c.entries (joined cs))

-- ---- one index

pub index_self : (i : FieldList) → IsMoved i i
index_self i = record { base = refl; chunks = stand_self i.chunks; numbers = part_self (numbers i.chunks); marked = refl }

pub index_then : (i j k : FieldList) → IsMoved i j → IsMoved j k → IsMoved i k
index_then i j k a b = record {
  base = b.base ∙ a.base;
  chunks = stand_then i.chunks j.chunks k.chunks a.chunks b.chunks;
  numbers = part_then (numbers k.chunks) (numbers j.chunks) (numbers i.chunks) b.numbers a.numbers;
  marked = b.marked ∙ a.marked;
}

-- ---- all lists

pub moved_self : (l : StoreLists) → AreMoved l l
moved_self l = record {
  chunks = stand_self (l.extents).chunks;
  numbers = part_self (numbers (l.extents).chunks);
  extents_marked = refl;
  fields = fields_self (λ id. IsMoved) (λ id. index_self) l.fields;
  marked = refl;
}

pub moved_then : (l m n : StoreLists) → AreMoved l m → AreMoved m n → AreMoved l n
moved_then l m n a b = record {
  chunks = stand_then (l.extents).chunks (m.extents).chunks (n.extents).chunks a.chunks b.chunks;
  numbers = part_then (numbers (n.extents).chunks) (numbers (m.extents).chunks) (numbers (l.extents).chunks) b.numbers a.numbers;
  extents_marked = b.extents_marked ∙ a.extents_marked;
  fields = fields_then (λ id. IsMoved) (λ id. IsMoved) (λ id. IsMoved) (λ id. index_then) l.fields m.fields n.fields a.fields b.fields;
  marked = b.marked ∙ a.marked;
}

-- the indexes alone have changed
pub moved_fields : (l m : StoreLists) → m.extents ≡ l.extents → m.marked ≡ l.marked → AreFields (λ id. IsMoved) l.fields m.fields → AreMoved l m
moved_fields l m extents marked fields = record {
  chunks = subst (λ e. StandAsThen (l.extents).chunks e.chunks) (sym extents) (stand_self (l.extents).chunks);
  numbers = subst (λ e. ArePartOf (numbers e.chunks) (numbers (l.extents).chunks)) (sym extents) (part_self (numbers (l.extents).chunks));
  extents_marked = ap (λ e. e.marked) extents;
  fields = fields;
  marked = marked;
}

-- the extents alone have changed
pub moved_extents : (l m : StoreLists) → m.fields ≡ l.fields → m.marked ≡ l.marked → StandAsThen (l.extents).chunks (m.extents).chunks → ArePartOf (numbers (m.extents).chunks) (numbers (l.extents).chunks) → (m.extents).marked ≡ (l.extents).marked → AreMoved l m
moved_extents l m fields marked chunks numbers extents = record {
  chunks = chunks;
  numbers = numbers;
  extents_marked = extents;
  fields = subst (AreFields (λ id. IsMoved) l.fields) (sym fields) (fields_self (λ id. IsMoved) (λ id. index_self) l.fields);
  marked = marked;
}

pub put_moved : {T E : Type 0} (r : Result T E) (bytes : ExtentItem → ℕ) (most : ℕ) (l m : StoreLists) → OnOk r (numbers (m.extents).chunks ≡ numbers (l.extents).chunks) → OnOk r (IsCutFrom bytes most (l.extents).chunks (m.extents).chunks)
    → OnOk r ((m.extents).marked ≡ (l.extents).marked) → (m.fields ≡ l.fields) × (m.marked ≡ l.marked) → OnErr r (m ≡ l) → AreMoved l m
put_moved (Ok v) bytes most l m segments cut marked others same =
    moved_extents l m others.0 others.1 (stand_cut bytes most (l.extents).chunks (m.extents).chunks cut) (subst (λ ns. ArePartOf ns (numbers (l.extents).chunks)) (sym segments) (part_self (numbers (l.extents).chunks))) marked
put_moved (Err e) bytes most l m segments cut marked others same = subst (AreMoved l) (sym same) (moved_self l)

pub taken_moved : (p : ExtentItem → Bool) (l m : StoreLists) → (m.extents).chunks ≡ flat_map (left p) (l.extents).chunks → (m.extents).marked ≡ (l.extents).marked → (m.fields ≡ l.fields) × (m.marked ≡ l.marked) → AreMoved l m
taken_moved p l m chunks marked others =
    moved_extents l m others.0 others.1 (subst (StandAsThen (l.extents).chunks) (sym chunks) (stand_left p (l.extents).chunks)) (subst (λ cs. ArePartOf (numbers cs) (numbers (l.extents).chunks)) (sym chunks) (part_left p (l.extents).chunks)) marked

pub moved_ids : (l m : StoreLists) → AreMoved l m → map (λ (f : ℕ × FieldList). f.0) m.fields ≡ map (λ (f : ℕ × FieldList). f.0) l.fields
moved_ids l m a = fields_ids (λ id. IsMoved) l.fields m.fields a.fields

pub indexes_moved : (s : Schema) (l m : StoreLists) → AreMoved l m → HasIndexes s l → HasIndexes s m
indexes_moved s l m a h = record {
  ids = moved_ids l m a ∙ h.ids;
  bases = fields_each (λ id. IsMoved) (λ (f : ℕ × FieldList). IsOneOf (f.0, (f.1).base) (bases_in s)) (λ (f : ℕ × FieldList). IsOneOf (f.0, (f.1).base) (bases_in s)) (λ id i j r one. subst (λ b. IsOneOf (id, b) (bases_in s)) (sym r.base) one) l.fields m.fields a.fields h.bases;
}

-- ---- what holds of lists and of what became of them

fields_numbers : (fs gs : List (ℕ × FieldList)) → AreFields (λ id. IsMoved) fs gs → ArePartOf (flat_map (λ (f : ℕ × FieldList). numbers (f.1).chunks) gs) (flat_map (λ (f : ℕ × FieldList). numbers (f.1).chunks) fs)
fields_numbers [] [] a = refl
fields_numbers [] (g ∷ gs) a = absurd a
fields_numbers (f ∷ fs) [] a = absurd a
fields_numbers (f ∷ fs) (g ∷ gs) a = part_append (numbers (g.1).chunks) (numbers (f.1).chunks) (flat_map (λ (f : ℕ × FieldList). numbers (f.1).chunks) gs) (flat_map (λ (f : ℕ × FieldList). numbers (f.1).chunks) fs) a.1.numbers (fields_numbers fs gs a.2)

moved_numbers : (l m : StoreLists) → AreMoved l m → ArePartOf (list_numbers m) (list_numbers l)
moved_numbers l m a = part_append (numbers (m.extents).chunks) (numbers (l.extents).chunks) (flat_map (λ (f : ℕ × FieldList). numbers (f.1).chunks) m.fields) (flat_map (λ (f : ℕ × FieldList). numbers (f.1).chunks) l.fields) a.numbers (fields_numbers l.fields m.fields a.fields)

pub numbered_moved : (has_slot : ℕ → Bool) (l m : StoreLists) → AreMoved l m → AreNumbered has_slot l → AreNumbered has_slot m
numbered_moved has_slot l m a h =
    let part = moved_numbers l m a in
    record {
      from_2 = part_passes (nat_le 2) (list_numbers m) (list_numbers l) part h.from_2;
      once = part_apart (list_numbers m) (list_numbers l) part h.once;
      there = part_passes has_slot (list_numbers m) (list_numbers l) part h.there;
    }

pub kept_moved : (l m : StoreLists) → AreMoved l m → AreKept l → AreKept m
kept_moved l m a h = record {
  extents = subst (λ cs. StandAsThen cs (m.extents).chunks) (sym a.extents_marked) (stand_then (l.extents).marked (l.extents).chunks (m.extents).chunks h.extents a.chunks);
  fields = fields_each (λ id. IsMoved) (λ (f : ℕ × FieldList). StandAsThen (f.1).marked (f.1).chunks) (λ (f : ℕ × FieldList). StandAsThen (f.1).marked (f.1).chunks) (λ id i j r s. subst (λ cs. StandAsThen cs j.chunks) (sym r.marked) (stand_then i.marked i.chunks j.chunks s r.chunks)) l.fields m.fields a.fields h.fields;
  then = subst (λ fs. Each (λ (f : ℕ × FieldList). ((f.1).marked ≡ []) ⊎ IsOneOf (f.0, undone f.1) fs) m.fields) (sym a.marked)
      (fields_each (λ id. IsMoved) (λ (f : ℕ × FieldList). ((f.1).marked ≡ []) ⊎ IsOneOf (f.0, undone f.1) l.marked) (λ (f : ℕ × FieldList). ((f.1).marked ≡ []) ⊎ IsOneOf (f.0, undone f.1) l.marked)
      (λ id i j r s. ⊎_elim (λ none. inl (r.marked ∙ none)) (λ one. inr (subst (λ u. IsOneOf (id, u) l.marked) (ap₂ (λ b c. record { base = b; chunks = c; marked = c }) (sym r.base) (sym r.marked)) one)) s) l.fields m.fields a.fields h.then);
}
