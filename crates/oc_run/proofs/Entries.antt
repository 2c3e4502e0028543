-- The entries of a class's fields.
use Rattle.std.proofs.Common.{◌≡◌, ℕ, ◌+◌, ◌<◌, ◌≤◌, true, false, ◌==◌, nat_lt, List, [], ◌∷◌, ◌++◌, length, map, fold, find, Some, None, refl, sym, ap, ◌∙◌, arith, append-nil, append_assoc}
use Rattle.std.specs.List.{AllByRecursion}
use Rattle.std.proofs.lemmas.Bool.Decides.{nat_tests}
use Rattle.oc_model.specs.declared.value.Value.{Value}
use Rattle.oc_model.specs.declared.value.Entry.{Entry}
use Rattle.oc_model.specs.declared.schema.FieldDef.{FieldDef}
use Rattle.oc_model.specs.declared.schema.ClassDef.{ClassDef}
use Rattle.oc_model.specs.Values.{default}
use Rattle.oc_model.specs.Stores.{value_in, entered, entry_for, written}
use Rattle.oc_run.specs.ListStore.{schema_of, Ascends, IsFlat, class_of, SlotList, chosen, filled}
use Rattle.oc_run.proofs.ListLemmas.{class_is_flat, fields_are}

-- an entry below all fields is not theirs
pub skipped : {X : Type 0} (g : FieldDef → Value → X) (low : ℕ) (fs : List FieldDef) (e : Entry) (es : List Entry) → Ascends low fs → e.id < low
    → map (λ f. g f (value_in (e ∷ es) f.id f.kind)) fs ≡ map (λ f. g f (value_in es f.id f.kind)) fs
skipped g low [] e es h lt = refl
skipped g low (f ∷ fs) e es h lt =
    let a = h.0 in
    let no : (e.id == f.id) ≡ false = grind (arith, nat_tests) in
    rw no (ap (λ xs. g f (value_in es f.id f.kind) ∷ xs) (skipped g (f.id + 1) fs e es h.2 (omega arith)))

-- no given entry is below all fields
none_chosen : (low : ℕ) (fs : List FieldDef) (vs : SlotList) (i : ℕ) → Ascends low fs → i < low → find (λ e. e.id == i) (chosen fs vs) ≡ None
none_chosen low [] vs i h lt = refl
none_chosen low (f ∷ fs) [] i h lt = refl
none_chosen low (f ∷ fs) (None ∷ vs) i h lt = let a = h.0 in none_chosen (f.id + 1) fs vs i h.2 (omega arith)
none_chosen low (f ∷ fs) (Some v ∷ vs) i h lt =
    let a = h.0 in
    let no : (f.id == i) ≡ false = grind (arith, nat_tests) in
    rw no (none_chosen (f.id + 1) fs vs i h.2 (omega arith))

same_number : (n : ℕ) → (n == n) ≡ true
same_number n = grind (arith, nat_tests)

-- each field with its given value or the default
pub all_values : (low : ℕ) (fs : List FieldDef) (vs : SlotList) → Ascends low fs → length vs ≡ length fs
    → map (λ f. entry_for f (value_in (chosen fs vs) f.id f.kind)) fs ≡ filled fs vs
all_values low [] vs h l = refl
all_values low (f ∷ fs) [] h l = absurd (omega arith)
all_values low (f ∷ fs) (None ∷ vs) h l =
    rw (none_chosen (f.id + 1) fs vs f.id h.2 (omega arith)) (ap (λ xs. entry_for f (default f.kind) ∷ xs) (all_values (f.id + 1) fs vs h.2 (omega arith)))
all_values low (f ∷ fs) (Some v ∷ vs) h l =
    rw (same_number f.id) (ap (λ xs. entry_for f v ∷ xs) (skipped entry_for (f.id + 1) fs (entry_for f v) (chosen fs vs) h.2 (omega arith) ∙ all_values (f.id + 1) fs vs h.2 (omega arith)))

abbrev AllBelow : ℕ → List Entry → Type 0
AllBelow low [] = Unit {0}
AllBelow low (e ∷ es) = (e.id < low) × AllBelow low es

-- an entry above all others comes at the end
entered_last : (e : Entry) (es : List Entry) → AllBelow e.id es → entered e es ≡ es ++ e ∷ []
entered_last e [] h = refl
entered_last e (f ∷ es) h =
    let a = h.0 in
    let ne : (e.id == f.id) ≡ false = grind (arith, nat_tests) in
    let no : nat_lt e.id f.id ≡ false = grind (arith, nat_tests) in
    rw (ne, no) (ap (λ xs. f ∷ xs) (entered_last e es h.1))

below_more : (low high : ℕ) (es : List Entry) → low ≤ high → AllBelow low es → AllBelow high es
below_more low high [] le h = tt
below_more low high (e ∷ es) le h = (let a = h.0 in omega arith, below_more low high es le h.1)

below_push : (low : ℕ) (es : List Entry) (e : Entry) → AllBelow low es → e.id < low → AllBelow low (es ++ e ∷ [])
below_push low [] e h lt = (lt, tt)
below_push low (f ∷ es) e h lt = (h.0, below_push low es e h.1 lt)

-- fields whose ids ascend are entered one behind another
pub entered_all : (g : FieldDef → Value) (low : ℕ) (fs : List FieldDef) (es : List Entry) → Ascends low fs → AllBelow low es
    → fold (λ es f. entered (entry_for f (g f)) es) es fs ≡ es ++ map (λ f. entry_for f (g f)) fs
entered_all g low [] es h b = sym (append-nil es)
entered_all g low (f ∷ fs) es h b =
    let e = entry_for f (g f) in
    rw (entered_last e es (below_more low f.id es h.0 b))
    (entered_all g (f.id + 1) fs (es ++ e ∷ []) h.2 (below_push (f.id + 1) es e (below_more low (f.id + 1) es (let a = h.0 in omega arith) b) (omega arith))
    ∙ append_assoc es (e ∷ []) (map (λ f. entry_for f (g f)) fs))

-- what is written of the given values
pub written_is : (cs : List ClassDef) (nf c : ℕ) (d : ClassDef) (vs : SlotList) → AllByRecursion IsFlat cs → class_of cs c ≡ Some d → length vs ≡ length d.fields
    → written (schema_of cs nf) c (chosen d.fields vs) [] ≡ filled d.fields vs
unfolding written
written_is cs nf c d vs h e l =
    let a = (class_is_flat cs c d h e).ascends in
    rw (fields_are cs nf c d h e)
    (entered_all (λ f. value_in (chosen d.fields vs) f.id f.kind) 0 d.fields [] a tt ∙ all_values 0 d.fields vs a l)
