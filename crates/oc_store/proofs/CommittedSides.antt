-- What holds of both sides once the session is committed, whatever the file is.
use Rattle.std.proofs.Common.{◌≡◌, inl, ◌∙◌, ap, ap₂, sym, refl, subst, ℕ, ◌+◌, Bool, false, List, [], ◌∷◌, arith}
use Rattle.std.specs.Prelude.{is_some, IsTrue}
use Rattle.std.specs.List.{list_any}
use Rattle.std.proofs.lemmas.List.Sums.{sum_by-cons}
use Rattle.oc_chunks.specs.Ascending.{Each}
use Rattle.oc_chunks.specs.Chunks.{Chunk}
use Rattle.oc_chunks.specs.Opening.{number_from, spare_behind, spare_of, written}
use Rattle.oc_index.specs.Fields.{FieldList}
use Rattle.oc_index.specs.Indexed.{written_fields, written_list, StoreLists}
use Rattle.oc_index.specs.Ranges.{is_numbered}
use Rattle.oc_slots.specs.declared.slot.SlotChange.{SlotChange}
use Rattle.oc_slots.specs.Maps.{changed, has_after}
use Rattle.oc_slots.specs.Stores.{committed_place, session_place, AreChanges, IsSettled, Slots}
use Rattle.oc_lists.specs.Keeping.{list_numbers, AreNumbered, Noted}
use Rattle.oc_lists.specs.Lists.{lists_then, IsMarked}
use Rattle.oc_store.specs.Committing.{IsLast}
use Rattle.oc_store.specs.Filed.{FiledStore, IsFiled}
use Rattle.oc_store.specs.Last.{are_small, lists_written, numberless, numberless_in, numberless_of}
use Rattle.oc_store.specs.Lists.{system_slot}
use Rattle.oc_store.specs.Outlines.{IsOutline}
use Rattle.oc_store.specs.Sides.{AreWritten, Heading, IsSide, IsWritten}
use Rattle.oc_store.specs.Stands.{object_slot}
use Rattle.oc_store.proofs.Fresh.{fresh_filed, then_same}
use Rattle.oc_store.proofs.Plans.{written_joined}
use Rattle.oc_store.proofs.SystemSlots.{objects_there, system_places}
use Rattle.oc_store.proofs.Written.{are_written, is_marked, lists_of}

-- ---- where all is written, nothing gets a number

module _ {X : Type 0} where
  chunk_same : (spare : List ℕ) (c : Chunk X) → IsWritten c → record { entries = c.entries; number = number_from c.number spare; changed = false } ≡ c
  chunk_same spare c w = (λ i. record { entries = c.entries; number = number_from ((w.1 i).number) spare; changed = false }) ∙ sym w.1

  chunks_same : (spare : List ℕ) (cs : List (Chunk X)) → Each IsWritten cs → written spare cs ≡ cs
  chunks_same spare [] a = refl
  chunks_same spare (c ∷ cs) a = ap₂ (λ d ds. d ∷ ds) (chunk_same spare c a.0) (ap (λ (d : Chunk X). written (spare_behind d.number spare) cs) (a.0).1 ∙ chunks_same spare cs a.1)

  spare_same : (spare : List ℕ) (cs : List (Chunk X)) → Each IsWritten cs → spare_of spare cs ≡ spare
  spare_same spare [] a = refl
  spare_same spare (c ∷ cs) a = ap (λ (d : Chunk X). spare_of (spare_behind d.number spare) cs) (a.0).1 ∙ spare_same spare cs a.1

  none_numberless : (cs : List (Chunk X)) → Each IsWritten cs → numberless cs ≡ 0
  none_numberless [] a = refl
  none_numberless (c ∷ cs) a = ap (λ (d : Chunk X). numberless (d ∷ cs)) (a.0).1 ∙ none_numberless cs a.1

index_same : (spare : List ℕ) (f : ℕ × FieldList) → Each IsWritten (f.1).chunks → (f.1).marked ≡ (f.1).chunks → (f.0, written_list spare f.1) ≡ f
index_same spare f a marked =
    let same = chunks_same spare (f.1).chunks a in
    λ i. (f.0, record { base = (f.1).base; chunks = same i; marked = (same ∙ sym marked) i })

fields_same : (spare : List ℕ) (fs : List (ℕ × FieldList)) → Each (λ f. Each IsWritten (f.1).chunks) fs → Each (λ f. (f.1).marked ≡ (f.1).chunks) fs → written_fields spare fs ≡ fs
fields_same spare [] a marked = refl
fields_same spare (f ∷ fs) a marked = ap₂ (λ g gs. g ∷ gs) (index_same spare f a.0 marked.0) (ap (λ k. written_fields k fs) (spare_same spare (f.1).chunks a.0) ∙ fields_same spare fs a.1 marked.1)

none_in : (fs : List (ℕ × FieldList)) → Each (λ f. Each IsWritten (f.1).chunks) fs → numberless_in fs ≡ 0
none_in [] a = refl
none_in (f ∷ fs) a = sum_by-cons (λ (g : ℕ × FieldList). numberless (g.1).chunks) f fs ∙ ap₂ (λ x y. x + y) (none_numberless (f.1).chunks a.0) (none_in fs a.1)

module _ (l : StoreLists) (marked : IsMarked l) (written : AreWritten l) where
  lists_same : lists_written [] l ≡ l
  lists_same =
      let extents = chunks_same [] (l.extents).chunks written.extents in
      let spare = spare_same [] (l.extents).chunks written.extents in
      let fields : written_fields (spare_of [] (l.extents).chunks) l.fields ≡ l.fields = ap (λ k. written_fields k l.fields) spare ∙ fields_same [] l.fields written.fields marked.each in
      λ i. record { extents = record { chunks = extents i; marked = (extents ∙ sym marked.extents) i }; fields = fields i; marked = (fields ∙ sym marked.fields) i }

  none_of : numberless_of l ≡ 0
  none_of = ap₂ (λ x y. x + y) (none_numberless (l.extents).chunks written.extents) (none_in l.fields written.fields)

no_changes : AreChanges []
no_changes = record {
  distinct = λ i j d lt end. absurd (omega arith);
  numbers = λ k d lt. absurd (omega arith);
  some = λ k d lt. absurd (omega arith);
}

-- where nothing changed a commit changes nothing last
pub idle_last : (v : FiledStore) (classes : Noted) → IsFiled v.slots v.committed v.session v.lists classes → v.session ≡ v.committed → IsMarked v.lists → IsLast v [] []
idle_last v classes filed heading marked =
    let then = then_same v.lists marked in
    let written = subst AreWritten then filed.written in
    let same : lists_then v.lists ≡ lists_written [] v.lists = then ∙ sym (lists_same v.lists marked written) in
    record {
      are = inl (heading, marked, refl, refl);
      changes = no_changes;
      system = tt;
      outline = λ first m o. subst (λ (h : Heading). IsOutline first m h.next h.schema (lists_written [] v.lists)) (sym heading) (subst (IsOutline first m (v.committed).next (v.committed).schema) same o);
      numbered = subst (AreNumbered (λ n. is_some (committed_place v.slots (system_slot n)))) same (filed.committed).numbered;
      small = subst (λ k. IsTrue (are_small (list_numbers k))) same (filed.committed).small;
      count = sym (none_of v.lists marked written);
      rising = tt;
      range = tt;
      unused = tt;
      least = λ m n one. absurd one;
    }

-- ---- both sides once the slots are settled

module _ (v : FiledStore) (classes : Noted) (filed : IsFiled v.slots v.committed v.session v.lists classes) (last : List SlotChange) (numbers : List ℕ) (is : IsLast v last numbers) (t : Slots) (settled : IsSettled last v.slots t) where
  system_there : ◌≡◌ {A = ℕ → Bool} (λ n. has_after last (system_slot n) (is_some (committed_place v.slots (system_slot n)))) (λ n. is_some (committed_place t (system_slot n)))
  system_there = λ i n. (ap (λ p. has_after last (system_slot n) (is_some p)) (sym (system_places v.slots filed.system n)) ∙ sym (settled.there (system_slot n))) i

  object_there : (n : ℕ) → is_some (committed_place t (object_slot n)) ≡ is_some (session_place v.slots (object_slot n))
  object_there n = settled.there (object_slot n) ∙ objects_there last is.system n (is_some (session_place v.slots (object_slot n)))

  settled_side : IsSide (committed_place t) v.session (lists_written numbers v.lists)
  settled_side = record {
    next = (filed.session).next;
    just = record {
      listed = λ n. object_there n ∙ (filed.session).just.listed n ∙ ap (list_any (is_numbered n)) (sym (written_joined numbers ((v.lists).extents).chunks));
      below = λ n h. (filed.session).just.below n (sym (object_there n) ∙ h);
    };
    lists = lists_of (v.session).schema numbers v.lists (filed.session).lists;
    numbered = subst (λ has. AreNumbered has (lists_written numbers v.lists)) system_there is.numbered;
    small = is.small;
  }

  pub settled_filed : IsFiled t v.session v.session (lists_written numbers v.lists) []
  settled_filed = fresh_filed t v.session (lists_written numbers v.lists) settled.objects settled.system settled_side (are_written numbers v.lists is.count) (is_marked numbers v.lists)
