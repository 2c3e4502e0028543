-- Indexes that are as they were at the mark.
use Rattle.std.proofs.Common.{◌≡◌, ◌∙◌, ap, ap₂, sym, subst, ℕ, ◌+◌, ◌<◌, List, [], ◌∷◌, ◌++◌, length, get_or, take, flat_map}
use Rattle.std.proofs.lemmas.List.{take_more}
use Rattle.std.proofs.lemmas.List.Concat.{flat_map-append}
use Rattle.oc_chunks.specs.Ascending.{Each}
use Rattle.oc_chunks.proofs.Eaches.{each_append}
use Rattle.oc_index.specs.declared.indexes.Field.{Field}
use Rattle.oc_index.specs.Fields.{FieldList}
use Rattle.oc_index.specs.Indexed.{now_of, then_of}

abbrev pub IsMarkedList : ℕ × FieldList → Type 0
IsMarkedList f = (f.1).marked ≡ (f.1).chunks

module _ (fs : List Field) (i : ℕ) (f : Field) (lt : i < length fs) (is : f ≡ get_or fs i f) where
  turn : take (i + 1) fs ≡ take i fs ++ f ∷ []
  turn = take_more fs i f lt ∙ ap (λ k. take i fs ++ k ∷ []) (sym is)

  one : (g : Field → List (ℕ × FieldList)) → flat_map g (take (i + 1) fs) ≡ flat_map g (take i fs) ++ flat_map g (f ∷ [])
  one g = ap (flat_map g) turn ∙ flat_map-append g (take i fs) (f ∷ [])

  pub then_more : flat_map then_of (take i fs) ≡ flat_map now_of (take i fs) → then_of f ≡ now_of f → flat_map then_of (take (i + 1) fs) ≡ flat_map now_of (take (i + 1) fs)
  then_more so_far same = one then_of ∙ ap₂ (λ a b. a ++ (b ++ [])) so_far same ∙ sym (one now_of)

  pub each_more_of : Each IsMarkedList (flat_map now_of (take i fs)) → Each IsMarkedList (now_of f) → Each IsMarkedList (flat_map now_of (take (i + 1) fs))
  each_more_of so_far own = subst (Each IsMarkedList) (sym (one now_of)) (each_append IsMarkedList (flat_map now_of (take i fs)) (now_of f ++ []) so_far (each_append IsMarkedList (now_of f) [] own tt))
