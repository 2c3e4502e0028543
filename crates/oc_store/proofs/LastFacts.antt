-- What the last changes of a commit are made of, and what holds of them.
use Rattle.std.proofs.Common.{◌≡◌, ◌∙◌, ap, sym, refl, ℕ, ◌+◌, ◌<◌, true, cond, not, List, [], ◌∷◌, ◌++◌, length, get_or, drop, map, Option, Some, None, append_assoc}
use Rattle.std.specs.Prelude.{is_some, Contains, IsSome}
use Rattle.std.proofs.lemmas.List.{map-append}
use Rattle.std.proofs.lemmas.List.Elements.{filter-append}
use Rattle.oc_layout.specs.declared.cells.Cell.{Cell}
use Rattle.oc_model.specs.Lists.{IsOneOf}
use Rattle.oc_model.specs.Maps.{is_in}
use Rattle.oc_model.specs.Schemas.{Schema}
use Rattle.oc_model.proofs.Elements.{is_among}
use Rattle.oc_chunks.specs.Ascending.{Each}
use Rattle.oc_chunks.proofs.Eaches.{each_more}
use Rattle.oc_index.specs.Indexed.{StoreLists}
use Rattle.oc_catalog.specs.declared.catalog.ListEntry.{ListEntry}
use Rattle.oc_catalog.specs.Catalogs.{segments_of, SpellsCatalog}
use Rattle.oc_pages.specs.Order.{AreAscending}
use Rattle.oc_slots.specs.declared.slot.SlotChange.{SlotChange}
use Rattle.oc_slots.specs.Maps.{changed, SlotMap}
use Rattle.oc_lists.specs.Keeping.{list_numbers, AreKept, AreListsOf}
use Rattle.oc_lists.specs.Lists.{lists_then}
use Rattle.oc_store.specs.Last.{gone_segments, last_changes, list_segments, lists_written, numberless_of, numbers_off, planned, system_change, written_segments, AreInChunks, Planned}
use Rattle.oc_store.specs.Lists.{system_slot}
use Rattle.oc_store.specs.Outlines.{named_lists, IsOutline}
use Rattle.oc_store.specs.Sides.{Heading}
use Rattle.oc_store.proofs.JustThese.{contains, one_of, same_truth}
use Rattle.oc_store.proofs.LastOutline.{outlined}
use Rattle.oc_store.proofs.ShortLists.{among_is, named_segments, not_among}
use Rattle.oc_store.proofs.Writings.{at_turn, same_default}
use Rattle.oc_store.proofs.WrittenChunks.{some_is, IsDone}

-- ---- numbers that the committed side hasn't

none_is : {X : Type 0} (o : Option X) → (IsSome o → ⊥) → o ≡ None
none_is None h = refl
none_is (Some x) h = absurd (h refl)

module _ (place : ℕ → Option Cell) (used : List ℕ) (asc : AreAscending (λ n. IsSome (place n)) used) where
  pub no_place : (ns : List ℕ) → Each (λ n. IsOneOf n used → ⊥) ns → Each (λ n. place n ≡ None) ns
  no_place ns a = each_more (λ n. IsOneOf n used → ⊥) (λ n. place n ≡ None) ns (λ n h. none_is (place n) (λ some. h (one_of used n ((asc.exact n).1 some)))) a

  pub has_place : (n : ℕ) → IsOneOf n used → is_some (place n) ≡ true
  has_place n i = (asc.exact n).0 (contains used n i)

-- ---- segments that are gone

pub one_gone : (kept : List ℕ) (n : ℕ) → (IsOneOf n kept → ⊥) → gone_segments (numbers_off kept (n ∷ [])) ≡ (n, None) ∷ []
one_gone kept n h = ap (λ b. gone_segments (cond (not b) (n ∷ []) [])) (not_among n kept h)

pub none_gone : (kept : List ℕ) (n : ℕ) → IsOneOf n kept → gone_segments (numbers_off kept (n ∷ [])) ≡ []
none_gone kept n i = ap (λ b. gone_segments (cond (not b) (n ∷ []) [])) (is_among n kept i)

-- where each of the numbers is kept none is gone
pub all_kept : (kept ns : List ℕ) → Each (λ n. IsOneOf n kept) ns → gone_segments (numbers_off kept ns) ≡ []
all_kept kept [] all = refl
all_kept kept (n ∷ ns) all = ap (λ b. gone_segments (cond (not b) (n ∷ numbers_off kept ns) (numbers_off kept ns))) (is_among n kept all.0) ∙ all_kept kept ns all.1

abbrev pub gone_changes : List ℕ → List ℕ → List SlotChange
gone_changes kept ns = map system_change (gone_segments (numbers_off kept ns))

gone_append : (kept ms ns : List ℕ) → gone_changes kept (ms ++ ns) ≡ gone_changes kept ms ++ gone_changes kept ns
gone_append kept ms ns =
    ap (λ l. map system_change (gone_segments l)) (filter-append (λ n. not (is_in kept n)) ms ns)
    ∙ ap (map system_change) (map-append (λ (n : ℕ). (n, None)) (numbers_off kept ms) (numbers_off kept ns))
    ∙ map-append system_change (gone_segments (numbers_off kept ms)) (gone_segments (numbers_off kept ns))

same_among : (kept segs : List ℕ) → AreAscending (Contains segs) kept → (n : ℕ) → is_in kept n ≡ is_in segs n
same_among kept segs asc n =
    same_truth (is_in kept n) (is_in segs n)
    (λ e. is_among n segs (one_of segs n ((asc.exact n).0 (contains kept n (among_is n kept e)))))
    (λ e. is_among n kept (one_of kept n ((asc.exact n).1 (contains segs n (among_is n segs e)))))

pub gone_step : (kept segs ms : List ℕ) (i : ℕ) → AreAscending (Contains segs) kept → i < length ms → (old new whole : List SlotChange) → new ≡ old ++ gone_changes kept (get_or ms i 0 ∷ []) → old ++ gone_changes segs (drop i ms) ≡ whole → new ++ gone_changes segs (drop (i + 1) ms) ≡ whole
gone_step kept segs ms i asc lt old new whole grown so_far =
    let n = get_or ms i 0 in
    ap (λ l. l ++ gone_changes segs (drop (i + 1) ms)) (grown ∙ ap (λ b. old ++ map system_change (gone_segments (cond (not b) (n ∷ []) []))) (same_among kept segs asc n))
    ∙ append_assoc old (gone_changes segs (n ∷ [])) (gone_changes segs (drop (i + 1) ms))
    ∙ ap (λ l. old ++ l) (sym (gone_append segs (n ∷ []) (drop (i + 1) ms)))
    ∙ ap (λ l. old ++ gone_changes segs l) (sym (at_turn ms i n lt (same_default ms i 0 n lt)))
    ∙ so_far

-- ---- all changes

pub all_changes : (l : StoreLists) (ns : List ℕ) (entries : List ListEntry) → entries ≡ named_lists (lists_written ns l) → (catalog : List ℕ) (a b c : List SlotChange) → a ≡ map system_change (written_segments (planned ns (list_segments l)))
    → b ≡ a ++ gone_changes (segments_of entries) (list_numbers (lists_then l)) → c ≡ b ++ system_change (1, Some catalog) ∷ [] → c ≡ map system_change (last_changes ns l catalog)
all_changes l ns entries e catalog a b c first second third =
    let x = written_segments (planned ns (list_segments l)) in
    let y = gone_segments (numbers_off (list_numbers (lists_written ns l)) (list_numbers (lists_then l))) in
    third
    ∙ ap (λ k. k ++ system_change (1, Some catalog) ∷ []) (second ∙ (λ i. first i ++ gone_changes ((ap segments_of e ∙ named_segments (lists_written ns l)) i) (list_numbers (lists_then l))))
    ∙ append_assoc (map system_change x) (map system_change y) (system_change (1, Some catalog) ∷ [])
    ∙ ap (λ k. map system_change x ++ k) (sym (map-append system_change y ((1, Some catalog) ∷ [])))
    ∙ sym (map-append system_change x (y ++ (1, Some catalog) ∷ []))

-- the outline, where the changes are these
pub outline_after : (l : StoreLists) (ns : List ℕ) (s : Schema) (next : ℕ) → AreKept l → AreListsOf s l → AreInChunks l → length ns ≡ numberless_of l → (catalog : List ℕ) → SpellsCatalog (record { next = next; schema = s; lists = named_lists (lists_written ns l) }) catalog
    → (cs : List SlotChange) → ((m : SlotMap) (p : Planned) → IsOneOf p (planned ns (list_segments l)) → IsDone m (changed cs m) p) → ((m : SlotMap) → changed cs m (system_slot 1) ≡ Some catalog)
    → (first : ℕ) (m : SlotMap) (then : Heading) → IsOutline first m then.next then.schema (lists_then l) → IsOutline first (changed cs m) next s (lists_written ns l)
outline_after l ns s next kept lists chunks count catalog spelled cs done there first m then o =
    outlined l ns s kept lists chunks count first next m (changed cs m) then o (done m) (some_is (changed cs m (system_slot 1)) catalog (SpellsCatalog (record { next = next; schema = s; lists = named_lists (lists_written ns l) })) (there m) spelled)
