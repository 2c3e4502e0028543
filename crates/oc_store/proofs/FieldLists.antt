-- The indexes of fields, read one after another.
use Rattle.std.proofs.Common.{◌≡◌, inl, inr, ◌∙◌, ap, sym, refl, subst, ℕ, ◌+◌, ◌<◌, cond, List, [], ◌∷◌, ◌++◌, length, get_or, take, drop, map}
use Rattle.std.specs.Ordering.{is_lt}
use Rattle.std.specs.Cmp.{nat_cmp_is}
use Rattle.std.specs.declared.cmp.Ordering.TheVariants.{Less}
use Rattle.std.proofs.lemmas.List.{map-append}
use Rattle.oc_model.specs.Lists.{placed}
use Rattle.oc_model.specs.Schemas.{Schema}
use Rattle.oc_chunks.specs.Ascending.{Each, Pairs}
use Rattle.oc_chunks.specs.Chunks.{Chunk, numbers}
use Rattle.oc_chunks.proofs.Eaches.{each_more, pairs_across}
use Rattle.oc_index.specs.Fields.{FieldList}
use Rattle.oc_index.specs.Indexed.{field_cmp, undone, StoreLists}
use Rattle.oc_index.specs.Items.{extent_cmp}
use Rattle.oc_index.specs.declared.items.ExtentItem.{ExtentItem}
use Rattle.oc_catalog.specs.declared.catalog.ListEntry.{ListEntry}
use Rattle.oc_slots.specs.Maps.{SlotMap}
use Rattle.oc_lists.specs.Keeping.{extent_suits}
use Rattle.oc_store.specs.Lists.{AreNext, IsDamagedAt, SpellsExtents}
use Rattle.oc_store.specs.Outlines.{named, named_lists, IsDamagedAmong, IsDamagedIn, IsIndex, IsSoundIn}
use Rattle.oc_store.proofs.NamedLists.{each_map, each_unmap}
use Rattle.oc_store.proofs.Readings.{around, front_more}

-- what has a greater id than all stands last
pub placed_last : (x : ℕ × FieldList) (fs : List (ℕ × FieldList)) → Each (λ (f : ℕ × FieldList). f.0 < x.0) fs → placed field_cmp x fs ≡ fs ++ x ∷ []
placed_last x [] a = refl
placed_last x (f ∷ fs) a = ap (λ b. cond b (f ∷ placed field_cmp x fs) (x ∷ f ∷ fs)) (ap is_lt (sym (nat_cmp_is f.0 x.0 Less a.0))) ∙ ap (λ l. f ∷ l) (placed_last x fs a.1)

-- nothing changed in an index since the mark
pub undone_same : (f : FieldList) → f.marked ≡ f.chunks → undone f ≡ f
undone_same f e = λ i. record { base = f.base; chunks = e i; marked = f.marked }

pub sound_named : (m : SlotMap) (s : Schema) (fs : List (ℕ × FieldList)) → Each (IsIndex m s) fs → Each (IsSoundIn m s) (map named fs)
sound_named m s fs a = each_map named (IsSoundIn m s) fs (each_more (IsIndex m s) (λ f. IsSoundIn m s (named f)) fs (λ f ix. inr ((f.1).base, ix.base, ((f.1).chunks, record { numbered = refl; sound = ix.sound }))) a)

module _ (lists : List ListEntry) (i : ℕ) (lt : i < length lists) (list : ListEntry) (is : list ≡ get_or lists i list) (fs : List (ℕ × FieldList)) (so_far : map named fs ≡ take i lists) where
  abbrev Rises : ListEntry → ListEntry → Type 0
  Rises k l = k.id < l.id

  pub all_below : Pairs Rises lists → Each (λ (f : ℕ × FieldList). f.0 < list.id) fs
  all_below p =
      let across = pairs_across Rises (take i lists) (list ∷ drop (i + 1) lists) (subst (Pairs Rises) (around lists i list list lt is) p) in
      let below = each_more (λ k. Each (Rises k) (list ∷ drop (i + 1) lists)) (λ (k : ListEntry). k.id < list.id) (take i lists) (λ k h. h.0) across in
      each_unmap named (λ (k : ListEntry). k.id < list.id) fs (subst (Each (λ (k : ListEntry). k.id < list.id)) (sym so_far) below)

  pub named_more : (f : FieldList) → numbers f.chunks ≡ list.segments → map named (fs ++ (list.id, f) ∷ []) ≡ take (i + 1) lists
  named_more f e = map-append named fs ((list.id, f) ∷ []) ∙ (λ j. so_far j ++ record { id = list.id; segments = e j } ∷ []) ∙ sym (front_more lists i list list lt is)

  pub damaged_next : (m : SlotMap) (s : Schema) (n : ℕ) → Each (IsIndex m s) fs → IsDamagedIn m s list n → IsDamagedAmong m s lists n
  damaged_next m s n sound damaged = record {
    before = take i lists;
    list = list;
    behind = drop (i + 1) lists;
    split = around lists i list list lt is;
    sound = subst (Each (IsSoundIn m s)) so_far (sound_named m s fs sound);
    damaged = damaged;
  }

-- ---- all lists of a catalog

module _ (m : SlotMap) (s : Schema) (lists : List ListEntry) (all : ListEntry) (fields : List ListEntry) (is : lists ≡ all ∷ fields) (zero : all.id ≡ 0) where
  pub damaged_first : (n : ℕ) → IsDamagedAt SpellsExtents m extent_cmp (extent_suits s) all.segments n → IsDamagedAmong m s lists n
  damaged_first n damaged = record { before = []; list = all; behind = fields; split = is; sound = tt; damaged = inl (zero, damaged) }

  pub damaged_later : (n : ℕ) (chunks : List (Chunk ExtentItem)) → numbers chunks ≡ all.segments → AreNext SpellsExtents m extent_cmp (extent_suits s) [] chunks → IsDamagedAmong m s fields n → IsDamagedAmong m s lists n
  damaged_later n chunks numbered sound d = record {
    before = all ∷ d.before;
    list = d.list;
    behind = d.behind;
    split = is ∙ ap (λ l. all ∷ l) d.split;
    sound = (inl (zero, (chunks, record { numbered = numbered; sound = sound })), d.sound);
    damaged = d.damaged;
  }

  pub named_all : (l : StoreLists) (chunks : List (Chunk ExtentItem)) → (l.extents).chunks ≡ chunks → numbers chunks ≡ all.segments → map named l.fields ≡ fields → named_lists l ≡ lists
  named_all l chunks extents numbered named = (λ i. record { id = sym zero i; segments = (ap numbers extents ∙ numbered) i } ∷ named i) ∙ sym is
