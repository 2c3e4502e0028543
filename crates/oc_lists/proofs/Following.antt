-- The lists of a store follow several changes, one after the other.
use Rattle.std.proofs.Common.{get_or, take, ◌≡◌, ◌∙◌, ap, sym, refl, subst, ℕ, zero, suc, ◌+◌, ◌<◌, ◌≤◌, ◌==◌, false, List, [], ◌∷◌, ◌++◌, map, length, Option, None, Some, option_map, arith}
use Rattle.std.specs.Prelude.{AllPairs, IfSome}
use Rattle.std.proofs.lemmas.List.{get_or-take, length-take-le, take_more}
use Rattle.std.proofs.lemmas.List.Elements.{All-take}
use Rattle.oc_model.specs.declared.value.Rec.{Rec}
use Rattle.oc_model.specs.Maps.{at, Map}
use Rattle.oc_model.specs.StoreRules.{KeepsStore, Suits}
use Rattle.oc_model.specs.Stores.{class_of, Store}
use Rattle.oc_model.specs.Schemas.{Schema}
use Rattle.oc_chunks.specs.Chunks.{joined}
use Rattle.oc_index.specs.Indexed.{StoreLists}
use Rattle.oc_lists.specs.declared.record.RecChange.{RecChange}
use Rattle.oc_lists.specs.Changing.{record_changed, records_changed, store_changed, AreOld, AreRecChanges, IsStorable}
use Rattle.oc_lists.specs.Lists.{HasLists}
use Rattle.oc_lists.specs.Refiling.{class_for, class_of_rec, indexed_for, refiled, relisted, Refiles}
use Rattle.oc_lists.proofs.Changed.{at_unnamed, keeps_changed}
use Rattle.oc_lists.proofs.Entries.{index_any_next}
use Rattle.oc_lists.proofs.Followed.{lists_follow, store_one, IsOfClass}

records_more : (cs : List RecChange) (c : RecChange) (m : Map Rec) → records_changed (cs ++ c ∷ []) m ≡ record_changed c (records_changed cs m)
records_more [] c m = refl
records_more (d ∷ cs) c m = records_more cs c (record_changed d m)

one_changed : (n next : ℕ) (o : Option Rec) (s : Schema) (m : Map Rec) → record { schema = s; next = next; records = record_changed (record { number = n; rec = o }) m } ≡ store_one n o (record { schema = s; next = next; records = m })
one_changed n next None s m = refl
one_changed n next (Some r) s m = refl

-- no changes
pub lists_first : (l : StoreLists) (s : Store) (next : ℕ) → HasLists l s → HasLists l (store_changed next [] s)
lists_first l s next h = record {
  extents = h.extents;
  indexes = λ f one i there. h.indexes f one i there ∙ sym (index_any_next s f next);
}

default_any : {X : Type 0} (xs : List X) (i : ℕ) (d e : X) → i < length xs → get_or xs i d ≡ get_or xs i e
default_any [] i d e lt = absurd (omega arith)
default_any (x ∷ xs) zero d e lt = refl
default_any (x ∷ xs) (suc i) d e lt = default_any xs i d e (omega arith)

map_at : {X Y : Type 0} (f : X → Y) (xs : List X) (i : ℕ) (x : X) (d : Y) → i < length xs → x ≡ get_or xs i x → get_or (map f xs) i d ≡ f x
map_at f [] i x d lt is = absurd (omega arith)
map_at f (y ∷ xs) zero x d lt is = ap f (sym is)
map_at f (y ∷ xs) (suc i) x d lt is = map_at f xs i x d (omega arith) is

pairs_take : {X : Type 0} (R : X → X → Type 0) (i : ℕ) (xs : List X) → i ≤ length xs → AllPairs R xs → AllPairs R (take i xs)
pairs_take R i xs le pairs a b d before lt =
    let long : length (take i xs) ≡ i = length-take-le i xs le in
    let end : b < i = omega (arith, lt, long) in
    let start : a < i = omega (arith, before, end) in
    subst (λ x. R x (get_or (take i xs) b d)) (sym (get_or-take i xs a d start))
    (subst (R (get_or xs a d)) (sym (get_or-take i xs b d end)) (pairs a b d before (omega (arith, end, le))))

module _ (s : Store) (next : ℕ) (changes : List RecChange) (olds : List (Option Rec)) (keeps : KeepsStore s) (may : AreRecChanges s.schema (class_of s) s.next next changes) (were : AreOld s.records changes olds) where
  may_first : (i : ℕ) → i ≤ length changes → AreRecChanges s.schema (class_of s) s.next next (take i changes)
  may_first i le = record {
    distinct = pairs_take (λ (a b : RecChange). (a.number == b.number) ≡ false) i changes le may.distinct;
    numbers = All-take (λ (c : RecChange). (1 ≤ c.number) × (c.number < next)) i changes may.numbers;
    later = may.later;
    small = may.small;
    storable = All-take (λ (c : RecChange). IfSome c.rec (IsStorable s.schema)) i changes may.storable;
    class = All-take (λ (c : RecChange). IfSome c.rec (λ r. IfSome (class_of s c.number) (λ k. k ≡ r.class))) i changes may.class;
  }

  module _ (i : ℕ) (lt : i < length changes) (c : RecChange) (is : c ≡ get_or changes i c) (old : Option Rec) (old_is : old ≡ get_or olds i old) where
    abbrev so_far : Store
    so_far = store_changed next (take i changes) s

    le : i ≤ length changes
    le = omega (arith, lt)

    not_named : (k : ℕ) (d : RecChange) → k < length (take i changes) → ((get_or (take i changes) k d).number == c.number) ≡ false
    not_named k d below =
        let long : length (take i changes) ≡ i = length-take-le i changes le in
        let before : k < i = omega (arith, below, long) in
        ap (λ (e : RecChange). e.number == c.number) (get_or-take i changes k d before)
        ∙ subst (λ (e : RecChange). ((get_or changes k d).number == e.number) ≡ false) (sym (is ∙ default_any changes i c d lt)) (may.distinct k i d before lt)

    before_it : at s.records c.number ≡ old
    before_it = sym (old_is ∙ ap (λ l. get_or l i old) were ∙ map_at (λ (d : RecChange). at s.records d.number) changes i c old lt is)

    found : at so_far.records c.number ≡ old
    found = at_unnamed (take i changes) s.records c.number (may_first i le).distinct not_named ∙ before_it

    same_class : IsOfClass old c.rec
    same_class = of_new c.rec old before_it (subst (λ (d : RecChange). IfSome d.rec (λ r. IfSome (class_of s d.number) (λ k. k ≡ r.class))) (sym is) (may.class i c lt))
      where
        of_old : (r : Rec) (o : Option Rec) → IfSome (option_map (λ (q : Rec). q.class) o) (λ k. k ≡ r.class) → IfSome o (λ q. q.class ≡ r.class)
        of_old r None h = tt
        of_old r (Some q) h = h

        of_new : (new o : Option Rec) → at s.records c.number ≡ o → IfSome new (λ r. IfSome (class_of s c.number) (λ k. k ≡ r.class)) → IsOfClass o new
        of_new None o e h = tt
        of_new (Some r) o e h = of_old r o (subst (λ p. IfSome (option_map (λ (q : Rec). q.class) p) (λ k. k ≡ r.class)) e h)

    suits : IfSome c.rec (Suits s.schema)
    suits = of_new c.rec (subst (λ (d : RecChange). IfSome d.rec (IsStorable s.schema)) (sym is) (may.storable i c lt))
      where
        of_new : (new : Option Rec) → IfSome new (IsStorable s.schema) → IfSome new (Suits s.schema)
        of_new None h = tt
        of_new (Some r) h = h.suits

    then_is : store_one c.number c.rec so_far ≡ store_changed next (take (i + 1) changes) s
    then_is =
        sym (one_changed c.number next c.rec s.schema (records_changed (take i changes) s.records))
        ∙ ap (λ m. record { schema = s.schema; next = next; records = m }) (sym (records_more (take i changes) c s.records) ∙ ap (λ l. records_changed l s.records) (ap (λ (d : RecChange). take i changes ++ d ∷ []) is ∙ sym (take_more changes i c lt)))

    pub lists_next : (l m : StoreLists) → joined (m.extents).chunks ≡ relisted c.number (class_of_rec c.rec) (joined (l.extents).chunks) → Refiles (refiled c.number old c.rec (indexed_for s.schema (class_for old c.rec))) l m
        → HasLists l so_far → HasLists m (store_changed next (take (i + 1) changes) s)
    lists_next l m extents entries h = subst (HasLists m) then_is (lists_follow so_far (keeps_changed s next (take i changes) keeps (may_first i le)) c.number l m old c.rec found same_class suits extents entries h)
