-- What a line sees of a state: two states with one schema, one memory and objects of the same classes make the same of it.
use Rattle.std.proofs.Common.{◌≡◌, refl, sym, ap, ◌∙◌, ℕ, true, false, cond, List, [], ◌∷◌, map, fold, Option, Some, None, Ok, Err, is_some, is_none, unwrap_or, option_map, nat_cmp, not}
use Rattle.std.specs.List.{list_any}
use Rattle.oc_model.specs.declared.value.Base.{Base}
use Rattle.oc_model.specs.declared.value.Kind.{Kind}
use Rattle.oc_model.specs.declared.value.Atom.TheVariants as atom
use Rattle.oc_model.specs.declared.value.Value.TheVariants as value
use Rattle.oc_model.specs.declared.value.Entry.{Entry}
use Rattle.oc_model.specs.declared.value.Rec.{Rec}
use Rattle.oc_model.specs.declared.schema.FieldDef.{FieldDef}
use Rattle.oc_model.specs.declared.answer.Word.{Word}
use Rattle.oc_model.specs.declared.answer.Word.TheVariants as word
use Rattle.oc_model.specs.declared.command.Given.{Given}
use Rattle.oc_model.specs.declared.command.Single.{Single}
use Rattle.oc_model.specs.declared.command.Single.TheVariants as single
use Rattle.oc_model.specs.declared.command.ValueText.{ValueText}
use Rattle.oc_model.specs.declared.command.ValueText.TheVariants as valued
use Rattle.oc_model.specs.Lists.{sorted}
use Rattle.oc_model.specs.Maps.{Text, at, same}
use Rattle.oc_model.specs.Nodes.{is_stored}
use Rattle.oc_model.specs.Refusals.{Checked, ◌>>=◌, ◌>>◌, unless, or_refuse}
use Rattle.oc_model.specs.Schemas.{Schema, class_named, field_named}
use Rattle.oc_model.specs.States.{State}
use Rattle.oc_model.specs.Stores.{Store, base_of, class_of, entered, entry_for, written}
use Rattle.oc_model.specs.Values.{fits}
use Rattle.oc_machine.specs.Memory.{bound, woken, with_new as with_new_in, with_stub as with_stub_in}
use Rattle.oc_machine.specs.ObjectLines.{made}
use Rattle.oc_machine.specs.Values.{FieldValues, atom_of, checked, numbers_given, single_found, singles_found, value_found, value_of, with_given}
use Rattle.oc_live.specs.Memories.{Memory, handle_in, memory_of, with_memory, with_new}
use Rattle.oc_container.specs.Givens.{fields_given, verdict}
use Rattle.oc_container.specs.Made.{made_in, new_made, unsaved_with, IsChecked}
use Rattle.oc_container.specs.Outlined.{remembered}
use Rattle.oc_container.specs.Woken.{with_all_woken, with_each_woken, with_stub, with_woken}

-- One schema, one memory, and the same classes of objects.
pub record SeesAlike (m w : State) : Type 0 where
  pub schema : m.session.schema ≡ w.session.schema
  pub memory : memory_of m ≡ memory_of w
  pub classes : (n : ℕ) → class_of m.session n ≡ class_of w.session n

-- ---- the check

there_with_class : (s : Store) (n : ℕ) → is_stored s n ≡ is_some (class_of s n)
there_with_class s n = elim (at s.records n) as (λ (o : Option Rec). is_some o ≡ is_some (option_map (λ (r : Rec). r.class) o)) [ None ↦ refl | Some r ↦ refl ]

module _ (m w : State) (a : SeesAlike m w) where
  single_alike : (s : Single) → single_found m s ≡ single_found w s
  single_alike single.Null = refl
  single_alike (single.Bool b) = refl
  single_alike (single.Int n) = refl
  single_alike (single.Text t) = refl
  single_alike (single.Name name) = ap (λ (k : Memory). unless (is_some (bound k.names name)) word.Name) a.memory
  single_alike (single.Num n) = ap (λ b. unless b word.Live) (there_with_class m.session n ∙ ap is_some (a.classes n) ∙ sym (there_with_class w.session n))

  singles_alike : (ss : List Single) → singles_found m ss ≡ singles_found w ss
  singles_alike [] = refl
  singles_alike (s ∷ ss) = λ i. single_alike s i >> singles_alike ss i

  found_alike : (x : ValueText) → value_found m x ≡ value_found w x
  found_alike (valued.One s) = single_alike s
  found_alike (valued.Many ss) = singles_alike ss

-- ---- values

module _ (m w : State) (same_memory : memory_of m ≡ memory_of w) where
  atom_alike : (b : Base) (s : Single) → atom_of m b s ≡ atom_of w b s
  atom_alike b single.Null = refl
  atom_alike b (single.Bool x) = refl
  atom_alike b (single.Int n) = refl
  atom_alike b (single.Text t) = refl
  atom_alike b (single.Name name) = ap (λ (k : Memory). atom.Ref (unwrap_or (bound k.names name) 0)) same_memory
  atom_alike b (single.Num n) = ap (λ (k : Memory). atom.Ref (unwrap_or (handle_in k.live n) 0)) same_memory

  pub value_alike : (k : Kind) (x : ValueText) → value_of m k x ≡ value_of w k x
  value_alike k (valued.One single.Null) = refl
  value_alike k (valued.One (single.Bool b)) = refl
  value_alike k (valued.One (single.Int n)) = refl
  value_alike k (valued.One (single.Text t)) = refl
  value_alike k (valued.One (single.Name name)) = ap value.One (atom_alike (base_of k) (single.Name name))
  value_alike k (valued.One (single.Num n)) = ap value.One (atom_alike (base_of k) (single.Num n))
  value_alike k (valued.Many ss) = λ i. value.Many (Some (map (λ s. atom_alike (base_of k) s i) ss))

  -- given values come to the same entries
  pub given_alike : (es : List Entry) (fs : FieldValues) → with_given m es fs ≡ with_given w es fs
  given_alike es fs = λ i. fold (λ (es : List Entry) (p : FieldDef × ValueText). entered (entry_for p.0 (value_alike p.0.kind p.1 i)) es) es fs

module _ (m w : State) (a : SeesAlike m w) where
  -- the check is the same
  pub checked_alike : (c : ℕ) (seen : List Text) (gs : List Given) → checked m c seen gs ≡ checked w c seen gs
  unfolding checked
  checked_alike c seen [] = refl
  checked_alike c seen (g ∷ gs) = λ i.
      or_refuse (field_named (a.schema i) c g.name) word.Field >>= λ f.
      unless (not (list_any (same g.name) seen)) word.Exists >>
      found_alike m w a g.value i >>
      unless (fits f.kind (value_alike m w a.memory f.kind g.value i)) word.Kind >>
      checked_alike c (g.name ∷ seen) gs i >>= λ more.
      Ok ((f, g.value) ∷ more)

-- ---- waking

module _ (m : State) where
  stub_is : (n : ℕ) (o : Option Rec) → with_stub_in m n o ≡ with_memory m (with_stub (memory_of m) n (option_map (λ (r : Rec). r.class) o))
  stub_is n None = refl
  stub_is n (Some r) = refl

  woken_is : (n : ℕ) → woken m n ≡ with_memory m (with_woken (memory_of m) n (class_of m.session n))
  woken_is n =
      elim (is_none (handle_in m.live n)) as (λ b. (elim b [ true ↦ with_stub_in m n (at m.session.records n) | false ↦ m ]) ≡ with_memory m (cond b (with_stub (memory_of m) n (class_of m.session n)) (memory_of m))) [
        | true ↦ stub_is n (at m.session.records n)
        | false ↦ refl
      ]

each_woken_is : (m : State) (ns : List ℕ) → fold woken m ns ≡ with_memory m (with_each_woken (class_of m.session) (memory_of m) ns)
each_woken_is m [] = refl
each_woken_is m (n ∷ ns) =
    ap (λ (x : State). fold woken x ns) (woken_is m n) ∙ each_woken_is (with_memory m (with_woken (memory_of m) n (class_of m.session n))) ns

-- ---- the new object

made_is_in : (m : State) (c : ℕ) (fs : FieldValues) → made m c fs ≡ (with_memory m (made_in m.session (memory_of m) c fs).0, (made_in m.session (memory_of m) c fs).1)
unfolding made made_in
made_is_in m c fs =
    let k = with_all_woken (class_of m.session) (memory_of m) (numbers_given fs) in
    ap (λ (w : State). (with_new_in w (unsaved_with c (written w.session.schema c (with_given w [] fs) [])), w.next_handle)) (each_woken_is m (sorted nat_cmp (numbers_given fs)))
    ∙ ap (λ (es : List Entry). (with_memory m (with_new k (unsaved_with c (written m.session.schema c es []))), k.next_handle)) (given_alike (with_memory m k) (remembered k) refl [] fs)

made_alike : (s t : Store) (k l : Memory) (c : ℕ) (fs : FieldValues) → s.schema ≡ t.schema → k ≡ l → ((n : ℕ) → class_of s n ≡ class_of t n) → made_in s k c fs ≡ made_in t l c fs
unfolding made_in
made_alike s t k l c fs schema memory classes = λ i.
    let w = with_all_woken (λ n. classes n i) (memory i) (numbers_given fs) in
    (with_new w (unsaved_with c (written (schema i) c (with_given (remembered w) [] fs) [])), w.next_handle)

-- ---- the whole line

refused_is : (r : Checked FieldValues) (w : Word) → verdict r ≡ Err w → r ≡ Err w
refused_is (Ok fs) w h = absurd (cc)
refused_is (Err x) w h = cc

module _ (m : State) (class : Text) (gs : List Given) where
  pub class_unknown : (s : Schema) → s ≡ m.session.schema → class_named s class ≡ None → new_made m class gs ≡ Err word.Class
  unfolding new_made
  class_unknown s is none = ap (λ (o : Option ℕ). or_refuse o word.Class >>= λ c. checked m c [] gs >>= λ fs. Ok (made m c fs)) (ap (λ (x : Schema). class_named x class) (sym is) ∙ none)

  module _ (w : State) (a : SeesAlike m w) (c : ℕ) (known : class_named w.session.schema class ≡ Some c) where
    named : class_named m.session.schema class ≡ Some c
    named = ap (λ (s : Schema). class_named s class) a.schema ∙ known

    pub check_refused : (x : Word) → verdict (checked w c [] gs) ≡ Err x → new_made m class gs ≡ Err x
    unfolding new_made
    check_refused x h =
        ap (λ (o : Option ℕ). or_refuse o word.Class >>= λ c. checked m c [] gs >>= λ fs. Ok (made m c fs)) named
        ∙ ap (λ (r : Checked FieldValues). r >>= λ fs. Ok (made m c fs)) (checked_alike m w a c [] gs ∙ refused_is (checked w c [] gs) x h)

    pub object_made : (k : Memory) (h : ℕ) → IsChecked w c gs → ◌≡◌ {A = Memory × ℕ} (k, h) (made_in w.session (memory_of w) c (fields_given w.session.schema c gs)) → new_made m class gs ≡ Ok (with_memory m k, h)
    unfolding new_made
    object_made k h taken is =
        let fs = fields_given w.session.schema c gs in
        ap (λ (o : Option ℕ). or_refuse o word.Class >>= λ c. checked m c [] gs >>= λ fs. Ok (made m c fs)) named
        ∙ ap (λ (r : Checked FieldValues). r >>= λ fs. Ok (made m c fs)) (checked_alike m w a c [] gs ∙ taken)
        ∙ ap Ok (made_is_in m c fs)
        ∙ ap (λ (p : Memory × ℕ). Ok (with_memory m p.0, p.1)) (made_alike m.session w.session (memory_of m) (memory_of w) c fs a.schema a.memory a.classes ∙ sym is)
