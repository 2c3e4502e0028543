-- Segments spell one list at most.
use Rattle.std.proofs.Common.{◌≡◌, ◌∙◌, ap, sym, refl, subst, ℕ, ◌^◌, Bool, IsTrue, List, [], ◌∷◌, ◌++◌, length, Option, Some, None, arith}
use Rattle.std.specs.Prelude.{IsSomeAnd}
use Rattle.std.specs.List.{list_all}
use Rattle.std.specs.declared.cmp.Ordering.{Ordering}
use Rattle.std.proofs.lemmas.Bool.{and_from, lt-ltb}
use Rattle.oc_model.specs.declared.value.Base.{Base}
use Rattle.oc_model.specs.Spelling.{Tells}
use Rattle.oc_marshal.specs.Places.{is_short}
use Rattle.oc_catalog.specs.Drafts.{are_few}
use Rattle.oc_catalog.proofs.Rows.{few_told}
use Rattle.oc_chunks.specs.Ascending.{Each}
use Rattle.oc_chunks.specs.Chunks.{Chunk, joined, numbers}
use Rattle.oc_index.specs.declared.items.ExtentItem.{ExtentItem}
use Rattle.oc_index.specs.declared.items.IndexItem.{IndexItem}
use Rattle.oc_segments.specs.Items.{extent_fits, extent_spelling, index_stands, index_spelling}
use Rattle.oc_segments.specs.Segments.{AreEntries, SpellsSegment}
use Rattle.oc_segments.specs.Telling.{extents_tell, indexes_tell}
use Rattle.oc_slots.specs.Maps.{SlotMap}
use Rattle.oc_store.specs.Lists.{chunk_kept, system_slot, AreNext, HasList, IsKept, SpellsExtents, SpellsIndex}

module _ {X : Type 0} (cmp : X → X → Ordering) (test : X → Bool) (spell : X → List ℕ) (tells : Tells (λ x. IsTrue (test x)) spell) where
  few : (xs : List X) → AreEntries cmp test xs → IsTrue (are_few test xs)
  few xs a = and_from (is_short (length xs)) (list_all test xs) (lt-ltb (length xs) (2 ^ 16) (omega (arith, a.few))) a.each

  one_segment : (b : List ℕ) (xs ys : List X) → SpellsSegment cmp test spell xs b → SpellsSegment cmp test spell ys b → xs ≡ ys
  one_segment b xs ys p q = (few_told test spell tells xs ys [] [] (few xs p.is) (few ys q.is) (ap (λ l. l ++ []) (sym p.bytes ∙ q.bytes))).0

pub one_extents : (b : List ℕ) (xs ys : List ExtentItem) → SpellsExtents xs b → SpellsExtents ys b → xs ≡ ys
one_extents = one_segment _ (extent_fits None) (extent_spelling None) (extents_tell None)

pub one_index : (base : Base) (b : List ℕ) (xs ys : List IndexItem) → SpellsIndex base xs b → SpellsIndex base ys b → xs ≡ ys
one_index base = one_segment _ (index_stands (Some base)) (index_spelling (Some base)) (indexes_tell (Some base))

module _ {X : Type 0} (Spelled : List X → List ℕ → Type 0) (only : (b : List ℕ) (xs ys : List X) → Spelled xs b → Spelled ys b → xs ≡ ys) (m : SlotMap) where
  pub same_there : (o : Option (List ℕ)) (xs ys : List X) → IsSomeAnd o (Spelled xs) → IsSomeAnd o (Spelled ys) → xs ≡ ys
  same_there None xs ys p q = absurd p
  same_there (Some b) xs ys p q = only b xs ys p q

  pub number_first : (c : Chunk X) (cs : List (Chunk X)) (n : ℕ) → c ≡ chunk_kept n c.entries → numbers (c ∷ cs) ≡ n ∷ numbers cs
  number_first c cs n is = ap (λ d. numbers (d ∷ cs)) is

  pub same_chunks : (cs ds : List (Chunk X)) → Each (IsKept Spelled m) cs → Each (IsKept Spelled m) ds → numbers cs ≡ numbers ds → joined cs ≡ joined ds
  same_chunks [] [] a b e = refl
  same_chunks [] (d ∷ ds) a b e = let h : [] ≡ (b.0).number ∷ numbers ds = e ∙ number_first d ds (b.0).number (b.0).is in cc
  same_chunks (c ∷ cs) [] a b e = let h : (a.0).number ∷ numbers cs ≡ [] = sym (number_first c cs (a.0).number (a.0).is) ∙ e in cc
  same_chunks (c ∷ cs) (d ∷ ds) a b e =
      let h : (a.0).number ∷ numbers cs ≡ (b.0).number ∷ numbers ds = sym (number_first c cs (a.0).number (a.0).is) ∙ e ∙ number_first d ds (b.0).number (b.0).is in
      let number : (a.0).number ≡ (b.0).number = cc in
      let rest : numbers cs ≡ numbers ds = cc in
      let first : c.entries ≡ d.entries = same_there (m (system_slot (a.0).number)) c.entries d.entries (a.0).spelled (subst (λ n. IsSomeAnd (m (system_slot n)) (Spelled d.entries)) (sym number) (b.0).spelled) in
      let behind : joined cs ≡ joined ds = same_chunks cs ds a.1 b.1 rest in
      λ i. first i ++ behind i

  pub all_kept : (cmp : X → X → Ordering) (suits : X → Bool) (before : List X) (cs : List (Chunk X)) → AreNext Spelled m cmp suits before cs → Each (IsKept Spelled m) cs
  all_kept cmp suits before [] a = tt
  all_kept cmp suits before (c ∷ cs) a = ((a.0).kept, all_kept cmp suits (before ++ c.entries) cs a.1)

  -- chunks that are sound are the list that their numbers spell
  pub is_list : (cmp : X → X → Ordering) (suits : X → Bool) (cs : List (Chunk X)) (entries : List X) → AreNext Spelled m cmp suits [] cs → HasList Spelled m (numbers cs) entries → joined cs ≡ entries
  is_list cmp suits cs entries sound list = same_chunks cs list.chunks (all_kept cmp suits [] cs sound) list.kept (sym list.numbered) ∙ list.whole
