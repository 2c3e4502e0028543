-- The segments of chunks that haven't changed.
use Rattle.std.proofs.Common.{◌≡◌, inl, inr, ◌∙◌, ap, ap₂, sym, refl, subst, ℕ, Bool, true, false, cond, not, List, [], ◌∷◌, ◌++◌, filter, Option, Some, None}
use Rattle.std.specs.Prelude.{flat_map}
use Rattle.std.specs.List.{cons_option}
use Rattle.std.proofs.lemmas.List.Elements.{filter-append, filter_map-append}
use Rattle.oc_model.specs.Lists.{IsOneOf}
use Rattle.oc_model.specs.Spelling.{segment_bytes}
use Rattle.oc_model.proofs.Elements.{in_right}
use Rattle.oc_chunks.specs.Chunks.{numbers, Chunk}
use Rattle.oc_chunks.specs.Opening.{number_from, spare_behind}
use Rattle.oc_index.specs.Fields.{FieldList}
use Rattle.oc_index.specs.Indexed.{StoreLists}
use Rattle.oc_segments.specs.Items.{extent_spelling, index_spelling}
use Rattle.oc_store.specs.Last.{extent_segments, field_segments, index_segments, list_segments, planned, planned_as, segment_of, unchanged_numbers, unchanged_of, Planned, Segment}
use Rattle.oc_store.proofs.Plans.{old_numbers, segments}

abbrev is_unchanged : Segment → Bool
is_unchanged s = not s.changed

-- a segment of this number that isn't written
pub record IsStill (n : ℕ) (ps : List Planned) : Type 0 where
  pub segment : Planned
  pub among : IsOneOf segment ps
  pub number : segment.number ≡ n
  pub off : segment.is_due ≡ false

still_behind : (n : ℕ) (ps qs : List Planned) → IsStill n qs → IsStill n (ps ++ qs)
still_behind n ps qs s = record { segment = s.segment; among = in_right s.segment ps qs s.among; number = s.number; off = s.off }

still_one : (n : ℕ) (o : Option ℕ) (bytes : List ℕ) (b : Bool) (ss : List Segment) → ((spare : List ℕ) → IsOneOf n (old_numbers (filter is_unchanged ss)) → IsStill n (planned spare ss))
    → (spare : List ℕ) → IsOneOf n (old_numbers (filter is_unchanged (record { number = o; bytes = bytes; changed = b } ∷ ss))) → IsStill n (planned spare (record { number = o; bytes = bytes; changed = b } ∷ ss))
still_one n o bytes true ss rest spare i = still_behind n (planned_as (number_from o spare) (record { number = o; bytes = bytes; changed = true })) (planned (spare_behind o spare) ss) (rest (spare_behind o spare) i)
still_one n None bytes false ss rest spare i = still_behind n (planned_as (number_from None spare) (record { number = None; bytes = bytes; changed = false })) (planned (spare_behind None spare) ss) (rest (spare_behind None spare) i)
still_one n (Some k) bytes false ss rest spare (inl same) = record { segment = record { number = k; bytes = bytes; is_due = false }; among = inl refl; number = sym same; off = refl }
still_one n (Some k) bytes false ss rest spare (inr later) = still_behind n (planned_as (Some k) (record { number = Some k; bytes = bytes; changed = false })) (planned spare ss) (rest spare later)

still : (n : ℕ) (ss : List Segment) (spare : List ℕ) → IsOneOf n (old_numbers (filter is_unchanged ss)) → IsStill n (planned spare ss)
still n [] spare i = absurd i
still n (s ∷ ss) spare i = still_one n s.number s.bytes s.changed ss (λ spare i. still n ss spare i) spare i

module _ {X : Type 0} (bytes : List X → List ℕ) where
  unchanged_old : (cs : List (Chunk X)) → unchanged_numbers cs ≡ old_numbers (filter is_unchanged (segments bytes cs))
  unchanged_old [] = refl
  unchanged_old (c ∷ cs) = one c.changed (unchanged_old cs)
    where
      one : (b : Bool) → unchanged_numbers cs ≡ old_numbers (filter is_unchanged (segments bytes cs))
          → numbers (cond (not b) (c ∷ filter (λ (d : Chunk X). not d.changed) cs) (filter (λ (d : Chunk X). not d.changed) cs)) ≡ old_numbers (cond (not b) (segment_of bytes c ∷ filter is_unchanged (segments bytes cs)) (filter is_unchanged (segments bytes cs)))
      one true e = e
      one false e = ap (cons_option c.number) e

old_append : (ss ts : List Segment) → old_numbers (filter is_unchanged (ss ++ ts)) ≡ old_numbers (filter is_unchanged ss) ++ old_numbers (filter is_unchanged ts)
old_append ss ts = ap old_numbers (filter-append is_unchanged ss ts) ∙ filter_map-append (λ (s : Segment). s.number) (filter is_unchanged ss) (filter is_unchanged ts)

fields_unchanged : (fs : List (ℕ × FieldList)) → flat_map (λ f. unchanged_numbers (f.1).chunks) fs ≡ old_numbers (filter is_unchanged (field_segments fs))
fields_unchanged [] = refl
fields_unchanged (f ∷ fs) = ap₂ (λ a b. a ++ b) (unchanged_old (segment_bytes (index_spelling (Some (f.1).base))) (f.1).chunks) (fields_unchanged fs) ∙ sym (old_append (index_segments f.1) (field_segments fs))

pub unchanged_still : (l : StoreLists) (spare : List ℕ) (n : ℕ) → IsOneOf n (unchanged_of l) → IsStill n (planned spare (list_segments l))
unchanged_still l spare n i =
    still n (list_segments l) spare
    (subst (IsOneOf n) (ap₂ (λ a b. a ++ b) (unchanged_old (segment_bytes (extent_spelling None)) (l.extents).chunks) (fields_unchanged l.fields) ∙ sym (old_append (extent_segments (l.extents).chunks) (field_segments l.fields))) i)
