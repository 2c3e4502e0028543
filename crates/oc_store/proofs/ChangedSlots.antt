-- What changes of objects make of the slots.
use Rattle.std.proofs.Common.{◌≡◌, ◌≢◌, ap, sym, refl, subst, ℕ, suc, ◌≤◌, Bool, true, false, cond, ◌==◌, nat_lt, List, [], ◌∷◌, ◌++◌, length, map, Option, Some, None, option_map, arith}
use Rattle.std.specs.Prelude.{is_some, IfSome, All, AllPairs, IsTrue}
use Rattle.std.proofs.lemmas.List.Elements.{All-append, All-cons, All-map, All-tail}
use Rattle.std.proofs.lemmas.List.Kept.{AllPairs-cons}
use Rattle.std.proofs.lemmas.Bool.{and_from, and_parts}
use Rattle.oc_model.specs.declared.value.Entry.{Entry}
use Rattle.oc_model.specs.declared.value.Rec.{Rec}
use Rattle.oc_model.specs.SchemaRules.{keeps_rules}
use Rattle.oc_model.specs.StoreRules.{are_ascending}
use Rattle.oc_model.proofs.Spellable.{suited_spellable}
use Rattle.oc_marshal.specs.Records.{is_ascending, SpellsRecord}
use Rattle.oc_model.specs.Schemas.{Schema}
use Rattle.oc_model.specs.Spelling.{record_bytes}
use Rattle.oc_model.specs.Stores.{record_len}
use Rattle.oc_model.proofs.Lengths.{length-record_bytes}
use Rattle.oc_slots.specs.declared.slot.SlotChange.{SlotChange}
use Rattle.oc_layout.specs.declared.cells.Space.TheVariants.{System}
use Rattle.oc_slots.specs.Maps.{changed, is_same, SlotMap}
use Rattle.oc_slots.specs.Maps.{has_after}
use Rattle.oc_slots.specs.Slots.{lengths_of, length_list}
use Rattle.oc_slots.specs.Stores.{AreChanges}
use Rattle.oc_lists.specs.declared.record.RecChange.{RecChange}
use Rattle.oc_lists.specs.Changing.{there_after, AreRecChanges, IsStorable}
use Rattle.oc_lists.proofs.Changed.{rec_after}
use Rattle.oc_store.specs.Changed.{len_list, record_lens, slot_change}
use Rattle.oc_store.specs.Lists.{system_slot}
use Rattle.oc_store.specs.Stands.{object_slot, SpellsObject}

some_mapped : {X Y : Type 0} (f : X → Y) (o : Option X) → is_some (option_map f o) ≡ is_some o
some_mapped f None = refl
some_mapped f (Some x) = refl

-- ---- which slots are there

pub object_after : (cs : List RecChange) (n : ℕ) (b : Bool) → has_after (map slot_change cs) (object_slot n) b ≡ there_after cs n b
object_after [] n b = refl
object_after (c ∷ cs) n b = λ i. cond (c.number == n) (some_mapped record_bytes c.rec i) (object_after cs n b i)

pub system_after : (cs : List RecChange) (n : ℕ) (b : Bool) → has_after (map slot_change cs) (system_slot n) b ≡ b
system_after [] n b = refl
system_after (c ∷ cs) n b = system_after cs n b

-- ---- what they have

pub system_stays : (cs : List RecChange) (m : SlotMap) (n : ℕ) → changed (map slot_change cs) m (system_slot n) ≡ m (system_slot n)
system_stays [] m n = refl
system_stays (c ∷ cs) m n = system_stays cs m n

-- ---- they may be changed so

fits_of : (s : Schema) (r : Rec) → IsStorable s r → length (record_bytes r) ≡ record_len r
fits_of s r h = length-record_bytes r h.suits.fits

len_is : (s : Schema) (o : Option Rec) → IfSome o (IsStorable s) → length_list (option_map record_bytes o) ≡ len_list o
len_is s None h = refl
len_is s (Some r) h = ap (λ n. n ∷ []) (fits_of s r h)

pub lens_are : (s : Schema) (cs : List RecChange) → All (λ (c : RecChange). IfSome c.rec (IsStorable s)) cs → lengths_of (map slot_change cs) ≡ record_lens cs
lens_are s [] all = refl
lens_are s (c ∷ cs) all = λ i. len_is s c.rec (all 0 c (omega arith)) i ++ lens_are s cs (All-tail (λ (x : RecChange). IfSome x.rec (IsStorable s)) c cs all) i

some_len : (o : Option Rec) → All (λ n. 1 ≤ n) (len_list o)
some_len None = λ k d lt. absurd (omega arith)
some_len (Some r) = All-cons (λ n. 1 ≤ n) (record_len r) [] (omega arith) (λ k d lt. absurd (omega arith))

some_lens : (cs : List RecChange) → All (λ n. 1 ≤ n) (record_lens cs)
some_lens [] = λ k d lt. absurd (omega arith)
some_lens (c ∷ cs) = All-append (λ n. 1 ≤ n) (len_list c.rec) (record_lens cs) (some_len c.rec) (some_lens cs)

apart : (c : RecChange) (cs : List RecChange) → All (λ (b : RecChange). (c.number == b.number) ≡ false) cs → All (λ (b : SlotChange). is_same (slot_change c).id b.id ≡ false) (map slot_change cs)
apart c cs all = All-map (λ (b : SlotChange). is_same (slot_change c).id b.id ≡ false) slot_change cs all

all_apart : (cs : List RecChange) → AllPairs (λ (a b : RecChange). (a.number == b.number) ≡ false) cs → AllPairs (λ (a b : SlotChange). is_same a.id b.id ≡ false) (map slot_change cs)
all_apart [] h = λ i j d lt end. absurd (omega arith)
all_apart (c ∷ cs) h =
    AllPairs-cons (λ (a b : SlotChange). is_same a.id b.id ≡ false) (slot_change c) (map slot_change cs)
    (apart c cs (λ k d lt. h 0 (suc k) d (omega arith) (omega arith)))
    (all_apart cs (λ i j d lt end. h (suc i) (suc j) d (omega arith) (omega arith)))

pub may_change : (s : Schema) (class_of : ℕ → Option ℕ) (old next : ℕ) (cs : List RecChange) → AreRecChanges s class_of old next cs → AreChanges (map slot_change cs)
may_change s class_of old next cs h = record {
  distinct = all_apart cs h.distinct;
  numbers = All-map (λ (c : SlotChange). (1 ≤ (c.id).number) × ((c.id).number ≤ 2147483646)) slot_change cs (λ k d lt. let n = h.numbers k d lt in (n.0, omega (arith, n.1, h.small)));
  some = subst (All (λ n. 1 ≤ n)) (sym (lens_are s cs h.storable)) (some_lens cs);
}

-- ---- they spell the records

module _ (s : Schema) (rules : IsTrue (keeps_rules s)) where
  by_id : (es : List Entry) → are_ascending (map (λ (e : Entry). e.id) es) ≡ true → is_ascending es ≡ true
  by_id [] h = refl
  by_id (e ∷ []) h = refl
  by_id (e ∷ f ∷ es) h = let p = and_parts (nat_lt e.id f.id) _ h in and_from _ _ p.0 (by_id (f ∷ es) p.1)

  pub spelled : (r : Rec) → IsStorable s r → SpellsRecord r (record_bytes r)
  spelled r h = record {
    is = record {
      spellable = suited_spellable s r rules h.suits h.short h.references;
      ascending = by_id r.entries h.suits.by_id;
      texts = h.texts;
    };
    bytes = refl;
  }

  spells_new : (o : Option Rec) → IfSome o (IsStorable s) → SpellsObject (option_map record_bytes o) o
  spells_new None h = tt
  spells_new (Some r) h = spelled r h

  pub spells_after : (cs : List RecChange) → All (λ (c : RecChange). IfSome c.rec (IsStorable s)) cs → (m : SlotMap) (n : ℕ) (before : Option Rec) → SpellsObject (m (object_slot n)) before → SpellsObject (changed (map slot_change cs) m (object_slot n)) (rec_after cs n before)
  spells_after [] all m n before h = h
  spells_after (c ∷ cs) all m n before h =
      elim (c.number == n) as (λ b. SpellsObject (cond b (option_map record_bytes c.rec) (changed (map slot_change cs) m (object_slot n))) (cond b c.rec (rec_after cs n before))) [
        | true ↦ spells_new c.rec (all 0 c (omega arith))
        | false ↦ spells_after cs (All-tail (λ (x : RecChange). IfSome x.rec (IsStorable s)) c cs all) m n before h
      ]

-- no slot of the system is named
pub no_system : (cs : List RecChange) → All (λ (c : SlotChange). (c.id).space ≢ System) (map slot_change cs)
no_system cs = All-map (λ (c : SlotChange). (c.id).space ≢ System) slot_change cs (λ k d lt e. cc)
