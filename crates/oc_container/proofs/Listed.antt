-- The objects of a session as its lists tell them.
use Rattle.std.proofs.Common.{◌≡◌, refl, sym, ap, ◌∙◌, ℕ, true, false, cond, List, [], ◌∷◌, filter, find, map, Option, Some, None, is_some, option_map, nat_le, nat_cmp, ◌==◌, arith, true≢false}
use Rattle.std.specs.Ordering.{is_eq}
use Rattle.std.specs.Cmp.{unsigned_tied}
use Rattle.std.proofs.lemmas.Bool.Decides.{nat_tests}
use Rattle.oc_model.specs.declared.value.Rec.{Rec}
use Rattle.oc_model.specs.Maps.{at}
use Rattle.oc_model.specs.Nodes.{is_stored}
use Rattle.oc_model.specs.Stores.{Store, class_of}
use Rattle.oc_chunks.specs.Chunks.{joined}
use Rattle.oc_index.specs.declared.items.ExtentItem.{ExtentItem}
use Rattle.oc_lists.specs.Lists.{class_in}
use Rattle.oc_slots.specs.declared.slot.Side.TheVariants.{Session}
use Rattle.oc_store.specs.Filed.{class_on, FiledStore}
use Rattle.oc_live.proofs.Tables.{is_same}
use Rattle.oc_container.specs.Outlined.{listed, session_listed}

-- the class that a record has, if there is one
abbrev of_record : Option Rec → Option ℕ
of_record o = option_map (λ (r : Rec). r.class) o

-- the object as a record without entries
abbrev bare : ExtentItem → Rec
bare e = record { class = e.class; entries = [] }

turned : (a b : ℕ) → (a == b) ≡ (b == a)
turned a b = (elim (a == b) as (λ t. (a == b) ≡ t → t ≡ (b == a)) [ true ↦ λ e. grind (arith, nat_tests, e) | false ↦ λ e. grind (arith, nat_tests, e) ]) refl

module _ (n : ℕ) where
  -- one object in front, as it is listed
  front : (e : ExtentItem) (es : List ExtentItem) → at (listed (e ∷ es)) n ≡ cond (nat_le e.number 4294967295) (cond (n == e.number) (Some (bare e)) (at (listed es) n)) (at (listed es) n)
  front e es =
      elim (nat_le e.number 4294967295) as (λ b. at (map (λ (e : ExtentItem). (e.number, bare e)) (cond b (e ∷ filter (λ (e : ExtentItem). nat_le e.number 4294967295) es) (filter (λ (e : ExtentItem). nat_le e.number 4294967295) es))) n ≡ cond b (cond (n == e.number) (Some (bare e)) (at (listed es) n)) (at (listed es) n)) [
        | true ↦ ap (λ b. cond b (Some (bare e)) (at (listed es) n)) (unsigned_tied n e.number)
        | false ↦ refl
      ]

  -- where the number has 32 bits, its class is the one that the lists have
  pub listed_small : (es : List ExtentItem) → nat_le n 4294967295 ≡ true → of_record (at (listed es) n) ≡ class_in es n
  listed_small [] small = refl
  listed_small (e ∷ es) small =
      ap of_record (front e es)
      ∙ (elim (n == e.number) as (λ b. (n == e.number) ≡ b → of_record (cond (nat_le e.number 4294967295) (cond b (Some (bare e)) (at (listed es) n)) (at (listed es) n)) ≡ option_map (λ (e : ExtentItem). e.class) (cond b (Some e) (find (λ (e : ExtentItem). is_eq (nat_cmp e.number n)) es))) [
        | true ↦ λ is. ap (λ b. of_record (cond b (Some (bare e)) (at (listed es) n))) (ap (λ k. nat_le k 4294967295) (sym (is_same n e.number is)) ∙ small)
        | false ↦ λ _. elim (nat_le e.number 4294967295) as (λ b. of_record (cond b (at (listed es) n) (at (listed es) n)) ≡ class_in es n) [ true ↦ listed_small es small | false ↦ listed_small es small ]
      ]) refl
      ∙ ap (λ b. option_map (λ (e : ExtentItem). e.class) (cond b (Some e) (find (λ (e : ExtentItem). is_eq (nat_cmp e.number n)) es))) (turned n e.number ∙ sym (unsigned_tied e.number n))

  -- a greater number has none
  pub listed_none : (es : List ExtentItem) → nat_le n 4294967295 ≡ false → at (listed es) n ≡ None
  listed_none [] large = refl
  listed_none (e ∷ es) large =
      front e es
      ∙ (elim (nat_le e.number 4294967295) as (λ b. nat_le e.number 4294967295 ≡ b → cond b (cond (n == e.number) (Some (bare e)) (at (listed es) n)) (at (listed es) n) ≡ None) [
        | true ↦ λ small.
            (elim (n == e.number) as (λ t. (n == e.number) ≡ t → cond t (Some (bare e)) (at (listed es) n) ≡ None) [
              | true ↦ λ is. absurd (true≢false (sym small ∙ ap (λ k. nat_le k 4294967295) (sym (is_same n e.number is)) ∙ large))
              | false ↦ λ _. listed_none es large
            ]) refl
        | false ↦ λ _. listed_none es large
      ]) refl

-- ---- the session of a store

module _ (v : FiledStore) (n : ℕ) where
  -- a number of 32 bits has the class that the lists have
  pub class_listed : nat_le n 4294967295 ≡ true → class_of (session_listed v) n ≡ class_on Session v n
  class_listed small = listed_small n (joined ((v.lists).extents).chunks) small

  -- a greater one has none
  pub none_listed : nat_le n 4294967295 ≡ false → class_of (session_listed v) n ≡ None
  none_listed large = ap of_record (listed_none n (joined ((v.lists).extents).chunks) large)

  -- an object that is listed has a number of 32 bits
  pub listed_are_small : is_stored (session_listed v) n ≡ true → nat_le n 4294967295 ≡ true
  listed_are_small there =
      (elim (nat_le n 4294967295) as (λ b. nat_le n 4294967295 ≡ b → b ≡ true) [
        | true ↦ λ _. refl
        | false ↦ λ large. absurd (gone (at (listed (joined ((v.lists).extents).chunks)) n) (listed_none n (joined ((v.lists).extents).chunks) large) there)
      ]) refl
    where
      gone : (o : Option Rec) → o ≡ None → is_some o ≡ true → ⊥
      gone None e h = cc
      gone (Some r) e h = cc

-- where a greater number has no class, the lists tell each class
pub classes_listed : (v : FiledStore) (s : Store) → ((n : ℕ) → class_on Session v n ≡ class_of s n) → ((n : ℕ) → nat_le n 4294967295 ≡ false → class_of s n ≡ None) → (n : ℕ) → class_of s n ≡ class_of (session_listed v) n
classes_listed v s told large n =
    (elim (nat_le n 4294967295) as (λ b. nat_le n 4294967295 ≡ b → class_of s n ≡ class_of (session_listed v) n) [
      | true ↦ λ small. sym (told n) ∙ sym (class_listed v n small)
      | false ↦ λ out. large n out ∙ sym (none_listed v n out)
    ]) refl
