-- What a commit of lists changes in the system's slots.
use Rattle.std.proofs.Common.{◌≡◌, ◌⊎◌, inl, inr, ◌∙◌, ap, ap₂, sym, refl, subst, ℕ, ◌≤◌, Bool, true, false, true≢false, not, List, [], ◌∷◌, ◌++◌, length, map, Option, Some, None, arith}
use Rattle.std.specs.Prelude.{nat_le, IfSome, IsTrue}
use Rattle.std.proofs.lemmas.Bool.{le-leb, leb-true, not-true}
use Rattle.std.proofs.lemmas.List.{map-append}
use Rattle.oc_model.specs.Lists.{IsOneOf}
use Rattle.oc_model.specs.Maps.{is_in}
use Rattle.oc_model.proofs.Elements.{all_pass, from_filter, from_map, in_append, in_left, in_right, is_among, some_passes, to_filter, to_map}
use Rattle.oc_model.proofs.SchemaLaws.{equal_numbers}
use Rattle.oc_layout.specs.declared.cells.Space.TheVariants.{System}
use Rattle.oc_chunks.specs.Ascending.{Each, Pairs}
use Rattle.oc_chunks.proofs.Eaches.{each_append, each_more, pairs_append, pairs_more}
use Rattle.oc_index.specs.Indexed.{StoreLists}
use Rattle.oc_slots.specs.Maps.{changed, is_same, SlotMap}
use Rattle.oc_slots.specs.Maps.{has_after}
use Rattle.oc_slots.specs.Slots.{length_list, lengths_of}
use Rattle.oc_slots.specs.Stores.{AreChanges}
use Rattle.oc_lists.specs.Keeping.{list_numbers, AreNumbered}
use Rattle.oc_lists.specs.Lists.{lists_then}
use Rattle.oc_chunks.specs.Opening.{number_from, spare_behind}
use Rattle.oc_store.specs.Last.{are_small, gone_segments, last_changes, list_segments, lists_written, numbers_off, planned, planned_as, system_change, unchanged_of, written_segments, Planned, Segment}
use Rattle.oc_store.specs.Lists.{system_slot}
use Rattle.oc_store.specs.Numbering.{AreRising, IsSegmentNumber}
use Rattle.oc_store.proofs.NamedLists.{apart_pairs, pairs_filter, Below, Other}
use Rattle.oc_store.proofs.Plans.{due, due_apart, each_of, from_due, is_written, not_written, number_of, of_each, old_numbers, other_than, planned_apart, planned_from}
use Rattle.oc_store.proofs.ShortLists.{all_from, pairs_apart}
use Rattle.oc_store.proofs.SystemChanges.{after_not, after_there, all_of, all_pairs_of, changed_not, changed_there, changes, changes_distinct, changes_numbers, numbers_in, Change}
use Rattle.oc_store.proofs.UnchangedSegments.{unchanged_still}
use Rattle.oc_store.proofs.Written.{numbers_old, numbers_written}
use Rattle.oc_store.proofs.WrittenChunks.{IsDone}

numbers_due : (ps : List Planned) → numbers_in (map (λ (p : Planned). (p.number, Some p.bytes)) ps) ≡ map number_of ps
numbers_due [] = refl
numbers_due (p ∷ ps) = ap (λ l. p.number ∷ l) (numbers_due ps)

numbers_gone : (ns : List ℕ) → numbers_in (gone_segments ns) ≡ ns
numbers_gone [] = refl
numbers_gone (n ∷ ns) = ap (λ l. n ∷ l) (numbers_gone ns)

-- a number that passes the test of those that aren't among these is none of them
off_one : (kept ns : List ℕ) (n : ℕ) → IsOneOf n (numbers_off kept ns) → IsOneOf n ns × (IsOneOf n kept → ⊥)
off_one kept ns n i = let f = from_filter (λ k. not (is_in kept k)) n ns i in (f.0, λ j. true≢false (sym (is_among n kept j) ∙ not-true (is_in kept n) f.1))

module _ (there : ℕ → Bool) (l : StoreLists) (ns : List ℕ) (numbered : AreNumbered there l) (marked : AreNumbered there (lists_then l)) (small : IsTrue (are_small (list_numbers l))) (marked_small : IsTrue (are_small (list_numbers (lists_then l))))
    (rising : AreRising ns) (range : Each IsSegmentNumber ns) (unused : Each (λ n. there n ≡ false) ns) where
  abbrev segs : List Segment
  segs = list_segments l

  abbrev plan : List Planned
  plan = planned ns segs

  abbrev now : List ℕ
  now = list_numbers (lists_written ns l)

  abbrev then : List ℕ
  then = list_numbers (lists_then l)

  -- ---- the numbers of the segments

  old_there : (n : ℕ) → IsOneOf n (old_numbers segs) → there n ≡ true
  old_there n i = all_pass there n (list_numbers l) numbered.there (subst (IsOneOf n) (numbers_old l) i)

  ns_apart : Pairs Other ns
  ns_apart = pairs_more Below Other ns (λ m n lt same. absurd (omega (arith, lt, same))) rising

  plan_apart : Pairs Other (map number_of plan)
  plan_apart = planned_apart ns segs ns_apart (subst (Pairs Other) (sym (numbers_old l)) (apart_pairs (list_numbers l) numbered.once)) (λ n i j. true≢false (sym (old_there n j) ∙ of_each (λ k. there k ≡ false) ns n unused i))

  in_range : (m : StoreLists) → AreNumbered there m → IsTrue (are_small (list_numbers m)) → (n : ℕ) → IsOneOf n (list_numbers m) → IsSegmentNumber n
  in_range m a s n i = (leb-true 2 n (all_pass (nat_le 2) n (list_numbers m) a.from_2 i), leb-true n 2147483646 (all_pass (λ k. nat_le k 2147483646) n (list_numbers m) s i))

  plan_range : (p : Planned) → IsOneOf p plan → IsSegmentNumber p.number
  plan_range p i = elim (planned_from ns segs p i) [
    | inl old ↦ in_range l numbered small p.number (subst (IsOneOf p.number) (numbers_old l) old)
    | inr new ↦ of_each IsSegmentNumber ns p.number range new.0
  ]

  planned_one : (n : ℕ) → IsOneOf n now → (p : Planned) × IsOneOf p plan × (n ≡ p.number)
  planned_one n i = from_map number_of n plan (subst (IsOneOf n) (numbers_written ns l) i)

  one_now : (p : Planned) → IsOneOf p plan → IsOneOf p.number now
  one_now p i = subst (IsOneOf p.number) (sym (numbers_written ns l)) (to_map number_of p plan i)

  pub now_apart : Pairs Other now
  now_apart = subst (Pairs Other) (sym (numbers_written ns l)) plan_apart

  pub now_range : Each IsSegmentNumber now
  now_range = each_of IsSegmentNumber now (λ n i. let p = planned_one n i in subst IsSegmentNumber (sym p.2) (plan_range p.0 p.1))

  pub now_small : IsTrue (are_small now)
  now_small = all_from (λ n. nat_le n 2147483646) now (each_more IsSegmentNumber (λ n. nat_le n 2147483646 ≡ true) now (λ n r. le-leb n 2147483646 r.1) now_range)

  -- ---- those that are gone

  abbrev gone : List ℕ
  gone = numbers_off now then

  gone_range : Each IsSegmentNumber gone
  gone_range = each_of IsSegmentNumber gone (λ n i. in_range (lists_then l) marked marked_small n (off_one now then n i).0)

  gone_apart : Pairs Other gone
  gone_apart = pairs_filter Other (λ n. not (is_in now n)) then (apart_pairs then marked.once)

  not_1 : (n : ℕ) → IsSegmentNumber n → IsOneOf n (1 ∷ []) → ⊥
  not_1 n r (inl same) = absurd (omega (arith, r.0, same))
  not_1 n r (inr other) = other

  -- ---- the changes

  module _ (catalog : List ℕ) where
    abbrev pub es : List Change
    es = last_changes ns l catalog

    numbers_are : numbers_in es ≡ map number_of (due plan) ++ (gone ++ 1 ∷ [])
    numbers_are =
        map-append (λ (e : Change). e.0) (written_segments plan) (gone_segments gone ++ (1, Some catalog) ∷ [])
        ∙ ap₂ (λ a b. a ++ b) (numbers_due (due plan)) (map-append (λ (e : Change). e.0) (gone_segments gone) ((1, Some catalog) ∷ []) ∙ ap (λ k. k ++ 1 ∷ []) (numbers_gone gone))

    due_one : (n : ℕ) → IsOneOf n (map number_of (due plan)) → IsOneOf n now × IsSegmentNumber n
    due_one n i =
        let f = from_map number_of n (due plan) i in
        let g = (from_due f.0 plan f.1).0 in
        (subst (λ k. IsOneOf k now) (sym f.2) (one_now f.0 g), subst IsSegmentNumber (sym f.2) (plan_range f.0 g))

    pub es_apart : Pairs Other (numbers_in es)
    es_apart = subst (Pairs Other) (sym numbers_are)
        (pairs_append Other (map number_of (due plan)) (gone ++ 1 ∷ []) (due_apart plan plan_apart)
        (pairs_append Other gone (1 ∷ []) gone_apart (tt, tt) (each_more IsSegmentNumber (λ n. Each (Other n) (1 ∷ [])) gone (λ n r. ((λ same. not_1 n r (inl same)), tt)) gone_range))
        (each_of (λ n. Each (Other n) (gone ++ 1 ∷ [])) (map number_of (due plan)) (λ n i.
        let d = due_one n i in
        other_than n (gone ++ 1 ∷ []) (λ j. elim (in_append n gone (1 ∷ []) j) [ inl g ↦ (off_one now then n g).1 d.0 | inr o ↦ not_1 n d.1 o ]))))

    abbrev IsSlotNumber : ℕ → Type 0
    IsSlotNumber n = (1 ≤ n) × (n ≤ 2147483646)

    slot_number : (n : ℕ) → IsSegmentNumber n → IsSlotNumber n
    slot_number n r = (omega (arith, r.0), r.1)

    es_range : Each IsSlotNumber (numbers_in es)
    es_range = subst (Each IsSlotNumber) (sym numbers_are)
        (each_append IsSlotNumber (map number_of (due plan)) (gone ++ 1 ∷ []) (each_of IsSlotNumber (map number_of (due plan)) (λ n i. slot_number n (due_one n i).1))
        (each_append IsSlotNumber gone (1 ∷ []) (each_more IsSegmentNumber IsSlotNumber gone slot_number gone_range) ((omega arith, omega arith), tt)))

    -- a segment that isn't written has the slot of no change
    not_changed : (p : Planned) → IsOneOf p plan → p.is_due ≡ false → IsOneOf p.number (numbers_in es) → ⊥
    not_changed p i off j =
        elim (in_append p.number (map number_of (due plan)) (gone ++ 1 ∷ []) (subst (IsOneOf p.number) numbers_are j)) [
          | inl d ↦ not_written p plan plan_apart i off d
          | inr k ↦ (elim (in_append p.number gone (1 ∷ []) k) [ inl g ↦ (off_one now then p.number g).1 (one_now p i) | inr o ↦ not_1 p.number (plan_range p i) o ])
        ]

    written_one : (p : Planned) → IsOneOf p plan → p.is_due ≡ true → IsOneOf {X = Change} (p.number, Some p.bytes) es
    written_one p i on = in_left {X = Change} (p.number, Some p.bytes) (written_segments plan) (gone_segments gone ++ (1, Some catalog) ∷ []) (to_map (λ (q : Planned). (q.number, Some q.bytes)) p (due plan) (is_written p plan i on))

    pub done : (m : SlotMap) (p : Planned) → IsOneOf p plan → IsDone m (changed (changes es) m) p
    done m p i = record {
      due = λ on. changed_there m es p.number (Some p.bytes) es_apart (written_one p i on);
      rest = λ off. changed_not m es p.number (not_changed p i off);
    }

    pub catalog_there : (m : SlotMap) → changed (changes es) m (system_slot 1) ≡ Some catalog
    catalog_there m = changed_there m es 1 (Some catalog) es_apart (in_right {X = Change} (1, Some catalog) (written_segments plan) (gone_segments gone ++ (1, Some catalog) ∷ []) (in_right {X = Change} (1, Some catalog) (gone_segments gone) ((1, Some catalog) ∷ []) (inl refl)))

    -- ---- the clauses

    in_system : (ds : List Change) → Each (λ c. c.id.space ≡ System) (changes ds)
    in_system [] = tt
    in_system (d ∷ ds) = (refl, in_system ds)

    pub all_in_system : Each (λ c. c.id.space ≡ System) (changes es)
    all_in_system = in_system es

    after_one : (p : Planned) → IsOneOf p plan → (b : Bool) → p.is_due ≡ b → has_after (changes es) (system_slot p.number) (there p.number) ≡ true
    after_one p i true on = after_there (there p.number) es p.number (Some p.bytes) es_apart (written_one p i on)
    after_one p i false off = after_not (there p.number) es p.number (not_changed p i off) ∙ elim (planned_from ns segs p i) [ inl old ↦ old_there p.number old | inr new ↦ absurd (true≢false (sym new.1 ∙ off)) ]

    pub numbered_after : AreNumbered (λ n. has_after (changes es) (system_slot n) (there n)) (lists_written ns l)
    numbered_after = record {
      from_2 = all_from (nat_le 2) now (each_more IsSegmentNumber (λ n. nat_le 2 n ≡ true) now (λ n r. le-leb 2 n r.0) now_range);
      once = pairs_apart now now_apart;
      there = all_from (λ n. has_after (changes es) (system_slot n) (there n)) now (each_of (λ n. has_after (changes es) (system_slot n) (there n) ≡ true) now (λ n i.
          let p = planned_one n i in
          subst (λ k. has_after (changes es) (system_slot k) (there k) ≡ true) (sym p.2) (after_one p.0 p.1 ((p.0).is_due) refl)));
    }

    gone_or_now : (n : ℕ) → IsOneOf n then → (b : Bool) → is_in now n ≡ b → IsOneOf n now ⊎ IsOneOf (system_change (n, None)) (changes es)
    gone_or_now n i true e = inl (let r = some_passes _ now e in subst (λ k. IsOneOf k now) (sym (equal_numbers n r.0 r.2)) r.1)
    gone_or_now n i false e =
        inr (to_map system_change (n, None) es
        (in_right {X = Change} (n, None) (written_segments plan) (gone_segments gone ++ (1, Some catalog) ∷ [])
        (in_left {X = Change} (n, None) (gone_segments gone) ((1, Some catalog) ∷ []) (to_map (λ (k : ℕ). (k, None)) n gone (to_filter (λ k. not (is_in now k)) n then i (ap not e))))))

    pub all_gone : Each (λ n. IsOneOf n now ⊎ IsOneOf (system_change (n, None)) (changes es)) then
    all_gone = each_of (λ n. IsOneOf n now ⊎ IsOneOf (system_change (n, None)) (changes es)) then (λ n i. gone_or_now n i (is_in now n) refl)

    -- each slot that isn't gone has a byte
    module _ (some : 1 ≤ length catalog) (each : Each (λ (s : Segment). 1 ≤ length s.bytes) segs) where
      planned_bytes : (spare : List ℕ) (ss : List Segment) → Each (λ (s : Segment). 1 ≤ length s.bytes) ss → Each (λ (p : Planned). 1 ≤ length p.bytes) (planned spare ss)
      planned_bytes spare [] a = tt
      planned_bytes spare (s ∷ ss) a = one (number_from s.number spare) (planned_bytes (spare_behind s.number spare) ss a.1)
        where
          one : (o : Option ℕ) → Each (λ (p : Planned). 1 ≤ length p.bytes) (planned (spare_behind s.number spare) ss) → Each (λ (p : Planned). 1 ≤ length p.bytes) (planned_as o s ++ planned (spare_behind s.number spare) ss)
          one None rest = rest
          one (Some n) rest = (a.0, rest)

      abbrev HasByte : Change → Type 0
      HasByte e = IfSome e.1 (λ b. 1 ≤ length b)

      lengths_some : (ds : List Change) → Each HasByte ds → Each (λ n. 1 ≤ n) (lengths_of (changes ds))
      lengths_some [] a = tt
      lengths_some (d ∷ ds) a = one d.1 a.0 (lengths_some ds a.1)
        where
          one : (o : Option (List ℕ)) → IfSome o (λ b. 1 ≤ length b) → Each (λ n. 1 ≤ n) (lengths_of (changes ds)) → Each (λ n. 1 ≤ n) (length_list o ++ lengths_of (changes ds))
          one None h rest = rest
          one (Some b) h rest = (h, rest)

      due_bytes : (ps : List Planned) → Each (λ (p : Planned). 1 ≤ length p.bytes) ps → Each HasByte (written_segments ps)
      due_bytes ps a = each_of HasByte (written_segments ps) (λ e i.
          let f = from_map (λ (q : Planned). (q.number, Some q.bytes)) e (due ps) i in
          subst HasByte (sym f.2) (of_each (λ (p : Planned). 1 ≤ length p.bytes) ps f.0 a (from_due f.0 ps f.1).0))

      gone_bytes : (ks : List ℕ) → Each HasByte (gone_segments ks)
      gone_bytes [] = tt
      gone_bytes (k ∷ ks) = (tt, gone_bytes ks)

      pub are_changes : AreChanges (changes es)
      are_changes = record {
        distinct = all_pairs_of (λ a b. is_same a.id b.id ≡ false) (changes es) (changes_distinct es es_apart);
        numbers = all_of (λ c. (1 ≤ c.id.number) × (c.id.number ≤ 2147483646)) (changes es) (changes_numbers IsSlotNumber es es_range);
        some = all_of (λ n. 1 ≤ n) (lengths_of (changes es)) (lengths_some es (each_append HasByte (written_segments plan) (gone_segments gone ++ (1, Some catalog) ∷ []) (due_bytes plan (planned_bytes ns segs each)) (each_append HasByte (gone_segments gone) ((1, Some catalog) ∷ []) (gone_bytes gone) (some, tt))));
      }

    pub all_unwritten : Each (λ c. IsOneOf c.id.number (unchanged_of l) → ⊥) (changes es)
    all_unwritten = changes_numbers (λ n. IsOneOf n (unchanged_of l) → ⊥) es (each_of (λ n. IsOneOf n (unchanged_of l) → ⊥) (numbers_in es) (λ n i j.
        let s = unchanged_still l ns n j in
        not_changed s.segment s.among s.off (subst (λ k. IsOneOf k (numbers_in es)) (sym s.number) i)))
