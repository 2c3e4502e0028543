-- A container in which an object is made.
use Rattle.std.proofs.Common.{◌≡◌, refl, ℕ, ◌<◌, ◌≤◌, false, List, [], Option, Some, None, Ok, Err, option_map, nat_le, sym, ap, ◌∙◌, subst, arith}
use Rattle.std.proofs.lemmas.Bool.Decides.{nat_tests}
use Rattle.oc_model.specs.declared.value.Rec.{Rec}
use Rattle.oc_model.specs.declared.answer.Word.{Word}
use Rattle.oc_model.specs.declared.answer.Word.TheVariants as word
use Rattle.oc_model.specs.declared.command.Given.{Given}
use Rattle.oc_model.specs.Maps.{Text, at}
use Rattle.oc_model.specs.Refusals.{Checked}
use Rattle.oc_model.specs.Schemas.{Schema, class_named}
use Rattle.oc_model.specs.States.{State}
use Rattle.oc_model.specs.StoreRules.{KeepsStore}
use Rattle.oc_model.specs.Stores.{Store, class_of}
use Rattle.oc_machine.specs.Values.{checked}
use Rattle.oc_live.specs.Memories.{Memory, with_memory}
use Rattle.oc_host.specs.Disk.{Disk}
use Rattle.oc_container.specs.Contained.{Contained, Holds}
use Rattle.oc_container.specs.Givens.{fields_given, verdict}
use Rattle.oc_container.specs.Made.{after_making, handle_told, made_in, new_made, IsChecked}
use Rattle.oc_container.specs.Outlined.{outlined, session_listed}
use Rattle.oc_slots.specs.declared.slot.Side.TheVariants.{Session}
use Rattle.oc_store.proofs.Fetched.{class_shown}
use Rattle.oc_container.proofs.Listed.{classes_listed}
use Rattle.oc_container.proofs.SeenAlike.{check_refused, class_unknown, object_made, SeesAlike}

-- no object has a number of more than 32 bits
none_large : (s : Store) → KeepsStore s → (n : ℕ) → nat_le n 4294967295 ≡ false → class_of s n ≡ None
none_large s keeps n large = ap (option_map (λ (r : Rec). r.class)) (none (at s.records n) refl)
  where
    none : (o : Option Rec) → at s.records n ≡ o → o ≡ None
    none None e = refl
    none (Some r) e =
        let below : n < s.next = keeps.below_next n r e in
        let few : s.next ≤ 2147483647 = keeps.small_next in
        absurd (out (omega arith))
      where
        out : n ≤ 4294967295 → ⊥
        out le = grind (arith, nat_tests, le, large)

-- what the container tells without its file is its state, but for values
pub sees : (v : Contained) (d : Disk) (m : State) → Holds v d m → SeesAlike m (outlined v.store v.memory)
sees v d m h =
    record {
      schema = sym (((h.stores).session).heading).schema;
      memory = sym h.memory;
      classes = classes_listed v.store m.session (class_shown v.store d m.committed m.session h.stores Session) (none_large m.session ((h.stores).session).keeps);
    }

-- ---- what is told and what is held then

pub told_refusal : (o : Checked (State × ℕ)) (w : Word) → o ≡ Err w → Err w ≡ handle_told o
told_refusal o w is = ap handle_told (sym is)

pub held_still : (v new : Contained) (d : Disk) (m : State) (o : Checked (State × ℕ)) (w : Word) → Holds v d m → new ≡ v → o ≡ Err w → Holds new d (after_making m o)
held_still v new d m o w h same is = subst (λ (x : Contained). Holds x d (after_making m o)) (sym same) (subst (λ (x : Checked (State × ℕ)). Holds v d (after_making m x)) (sym is) h)

pub told_handle : (m : State) (k : Memory) (n : ℕ) (o : Checked (State × ℕ)) → o ≡ Ok (with_memory m k, n) → Ok n ≡ handle_told o
told_handle m k n o is = ap handle_told (sym is)

pub held_with : (v new : Contained) (d : Disk) (m : State) (k : Memory) (n : ℕ) (o : Checked (State × ℕ)) → Holds v d m → new ≡ record { store = v.store; memory = k } → o ≡ Ok (with_memory m k, n) → Holds new d (after_making m o)
held_with v new d m k n o h same is =
    subst (λ (x : Contained). Holds x d (after_making m o)) (sym same)
    (subst (λ (x : Checked (State × ℕ)). Holds (record { store = v.store; memory = k }) d (after_making m x)) (sym is) (record { stores = h.stores; memory = refl }))

-- ---- how the line comes out

module _ (v : Contained) (d : Disk) (m : State) (h : Holds v d m) (class : Text) (gs : List Given) where
  pub no_class : class_named ((v.store).session).schema class ≡ None → new_made m class gs ≡ Err word.Class
  no_class none = class_unknown m class gs ((v.store).session).schema (sym (sees v d m h).schema) none

  module _ (c : ℕ) (known : class_named ((v.store).session).schema class ≡ Some c) where
    pub not_taken : (w : Word) → Err w ≡ verdict (checked (outlined v.store v.memory) c [] gs) → new_made m class gs ≡ Err w
    not_taken w is = check_refused m class gs (outlined v.store v.memory) (sees v d m h) c known w (sym is)

    pub is_made : (k : Memory) (n : ℕ) → IsChecked (outlined v.store v.memory) c gs → ◌≡◌ {A = Memory × ℕ} (k, n) (made_in (session_listed v.store) v.memory c (fields_given ((v.store).session).schema c gs)) → new_made m class gs ≡ Ok (with_memory m k, n)
    is_made k n taken is = object_made m class gs (outlined v.store v.memory) (sees v d m h) c known k n taken is

-- the class of a name, as it is looked up
pub named_by : (s t : Schema) (x y : Text) (o : Option ℕ) → s ≡ t → x ≡ y → o ≡ class_named s x → class_named t y ≡ o
named_by s t x y o same text is = (λ i. class_named (sym same i) (sym text i)) ∙ sym is
