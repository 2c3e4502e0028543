-- What the lists make of values is what a make makes.
use Rattle.std.proofs.Common.{◌≡◌, ℕ, zero, suc, ◌+◌, ⊎_elim, Bool, true, false, not, ◌==◌, List, [], ◌∷◌, ◌++◌, length, map, flat_map, find, slice_set, Option, Some, None, Ok, Err, unwrap_or, refl, sym, ap, subst, ap₂, ◌∙◌, arith, zero-add}
use Rattle.std.specs.List.{list_all, AllByRecursion}
use Rattle.std.proofs.lemmas.Bool.{cases_Bool, cond-true, cond-false, and_parts}
use Rattle.std.proofs.lemmas.List.{length-set}
use Rattle.std.proofs.lemmas.Option.{some_pair_parts}
use Rattle.oc_model.specs.declared.value.Base.TheVariants as base
use Rattle.oc_model.specs.declared.value.Kind.{Kind}
use Rattle.oc_model.specs.declared.value.Kind.TheVariants as kind
use Rattle.oc_model.specs.declared.value.Value.{Value}
use Rattle.oc_model.specs.declared.value.Value.TheVariants as value
use Rattle.oc_model.specs.declared.value.Atom.TheVariants as atom
use Rattle.oc_model.specs.declared.value.Entry.{Entry}
use Rattle.oc_model.specs.declared.schema.FieldDef.{FieldDef}
use Rattle.oc_model.specs.declared.schema.ClassDef.{ClassDef}
use Rattle.oc_model.specs.declared.command.Single.TheVariants as single
use Rattle.oc_model.specs.declared.command.ValueText.{ValueText}
use Rattle.oc_model.specs.declared.command.ValueText.TheVariants as valued
use Rattle.oc_model.specs.declared.command.Given.{Given}
use Rattle.oc_model.specs.declared.answer.Word.{Word}
use Rattle.oc_model.specs.declared.answer.Word.TheVariants as word
use Rattle.oc_model.specs.Maps.{Text, at, same, are_distinct}
use Rattle.oc_model.specs.Refusals.{Checked, ◌>>=◌, ◌>>◌, unless}
use Rattle.oc_model.specs.References.{refs_in}
use Rattle.oc_model.specs.Values.{fits, default}
use Rattle.oc_model.specs.Schemas.{class_named, field_named}
use Rattle.oc_model.specs.Stores.{value_in, entered, entry_for, written}
use Rattle.oc_model.specs.States.{State, Live, start_settings, settings_of}
use Rattle.oc_model.specs.Nodes.{named_in}
use Rattle.oc_machine.specs.Memory.{with_new, value_by, entries_by}
use Rattle.oc_machine.specs.Values.{FieldValues, value_found, checked, numbers_in_value, numbers_given, value_of as machine_value, with_given as entered_given}
use Rattle.oc_machine.specs.ObjectLines.{made}
use Rattle.oc_machine.specs.WalkLines.{stored, store_depth, make_step}
use Rattle.oc_machine.specs.Runs.{is_built_kind, is_built_value}
use Rattle.oc_run.specs.ListStore.{schema_of, IsFlat, class_of, IsKept, is_plain, value_of, placed_from, SlotList, is_filled, with_given, with_all_given, blank, chosen, filled, entries_given, record_step}
use Rattle.oc_run.proofs.ListLemmas.{class_is_flat, fields_are}
use Rattle.oc_run.proofs.Entries.{written_is}
use Rattle.oc_run.proofs.Slots.{SeenIs, seen_more, chosen_more, placed_is, not_placed, blank_chosen, blank_long, blank_free, length-all}
use Rattle.oc_run.proofs.Storing.{stored_alone, made_alone}

-- ---- values of numbers and texts

-- a value of a kind that the program has is a number or a text
fits_plain : (k : Kind) (v : Value) → is_built_kind k ≡ true → fits k v ≡ true → is_plain v ≡ true
fits_plain (kind.One base.I32) (value.One (atom.Int n)) h f = refl
fits_plain (kind.One base.I32) (value.One (atom.Text t)) h f = refl
fits_plain (kind.One base.I32) (value.One (atom.Bool b)) h f = absurd cc
fits_plain (kind.One base.I32) (value.One (atom.Ref n)) h f = absurd cc
fits_plain (kind.One base.I32) (value.Many xs) h f = absurd cc
fits_plain (kind.One base.Text) (value.One (atom.Int n)) h f = refl
fits_plain (kind.One base.Text) (value.One (atom.Text t)) h f = refl
fits_plain (kind.One base.Text) (value.One (atom.Bool b)) h f = absurd cc
fits_plain (kind.One base.Text) (value.One (atom.Ref n)) h f = absurd cc
fits_plain (kind.One base.Text) (value.Many xs) h f = absurd cc
fits_plain (kind.One base.Bool) v h f = absurd cc
fits_plain (kind.One base.I8) v h f = absurd cc
fits_plain (kind.One base.I16) v h f = absurd cc
fits_plain (kind.One base.I64) v h f = absurd cc
fits_plain (kind.One base.U64) v h f = absurd cc
fits_plain (kind.One base.I128) v h f = absurd cc
fits_plain (kind.One base.Ref) v h f = absurd cc
fits_plain (kind.Many b) v h f = absurd cc

-- and so is the default of such a kind
default_plain : (k : Kind) → is_built_kind k ≡ true → is_plain (default k) ≡ true
default_plain (kind.One base.I32) h = refl
default_plain (kind.One base.Text) h = refl
default_plain (kind.One base.Bool) h = absurd cc
default_plain (kind.One base.I8) h = refl
default_plain (kind.One base.I16) h = refl
default_plain (kind.One base.I64) h = refl
default_plain (kind.One base.U64) h = refl
default_plain (kind.One base.I128) h = refl
default_plain (kind.One base.Ref) h = absurd cc
default_plain (kind.Many b) h = absurd cc

plain_refs : (v : Value) → is_plain v ≡ true → refs_in v ≡ []
plain_refs (value.One (atom.Int n)) h = refl
plain_refs (value.One (atom.Text t)) h = refl
plain_refs (value.One (atom.Bool b)) h = refl
plain_refs (value.One (atom.Ref n)) h = absurd cc
plain_refs (value.Many xs) h = absurd cc

plain_stays : (r : ℕ → ℕ) (v : Value) → is_plain v ≡ true → value_by r v ≡ v
plain_stays r (value.One (atom.Int n)) h = refl
plain_stays r (value.One (atom.Text t)) h = refl
plain_stays r (value.One (atom.Bool b)) h = refl
plain_stays r (value.One (atom.Ref n)) h = absurd cc
plain_stays r (value.Many xs) h = absurd cc

abbrev are_plain : List Entry → Bool
are_plain es = list_all (λ e. is_plain e.value) es

entries_stay : (r : ℕ → ℕ) (es : List Entry) → are_plain es ≡ true → entries_by r es ≡ es
entries_stay r [] h = refl
entries_stay r (e ∷ es) h =
    let b = and_parts (is_plain e.value) (are_plain es) h in
    ap₂ (λ (v : Value) (xs : List Entry). record { id = e.id; value = v; kind = e.kind } ∷ xs) (plain_stays r e.value b.0) (entries_stay r es b.1)

value_is_plain : (es : List Entry) (id : ℕ) (k : Kind) → are_plain es ≡ true → is_built_kind k ≡ true → is_plain (value_in es id k) ≡ true
value_is_plain [] id k h b = default_plain k b
value_is_plain (e ∷ es) id k h b =
    let p = and_parts (is_plain e.value) (are_plain es) h in
    ⊎_elim
    (λ y. rw y p.0)
    (λ no. rw no (value_is_plain es id k p.1 b))
    (cases_Bool (e.id == id))

names_none : (es : List Entry) (fs : List FieldDef) → are_plain es ≡ true → list_all (λ f. is_built_kind f.kind) fs ≡ true → flat_map refs_in (map (λ f. value_in es f.id f.kind) fs) ≡ []
names_none es [] h b = refl
names_none es (f ∷ fs) h b =
    let p = and_parts (is_built_kind f.kind) (list_all (λ f. is_built_kind f.kind) fs) b in
    rw (plain_refs (value_in es f.id f.kind) (value_is_plain es f.id f.kind h p.0)) (names_none es fs h p.1)

-- ---- plain values in their places

abbrev is_plain_slot : Option Value → Bool
is_plain_slot None = true
is_plain_slot (Some v) = is_plain v

placed_kind : (n : ℕ) (fs : List FieldDef) (name : Text) (p : ℕ × Kind) → list_all (λ f. is_built_kind f.kind) fs ≡ true → placed_from n fs name ≡ Some p → is_built_kind p.1 ≡ true
placed_kind n [] name p b e = absurd cc
placed_kind n (f ∷ fs) name p b e =
    let h = and_parts (is_built_kind f.kind) (list_all (λ f. is_built_kind f.kind) fs) b in
    ⊎_elim
    (λ y. let t = (some_pair_parts n p.0 f.kind p.1 (sym (cond-true _ _ _ y) ∙ e)).1 in subst (λ k. is_built_kind k ≡ true) t h.0)
    (λ no. placed_kind (n + 1) fs name p h.1 (sym (cond-false _ _ _ no) ∙ e))
    (cases_Bool (same f.name name))

plain_set : (vs : SlotList) (i : ℕ) (v : Value) → list_all is_plain_slot vs ≡ true → is_plain v ≡ true → list_all is_plain_slot (slice_set vs i (Some v)) ≡ true
plain_set [] i v h p = refl
plain_set (w ∷ vs) zero v h p = rw p (and_parts (is_plain_slot w) (list_all is_plain_slot vs) h).1
plain_set (w ∷ vs) (suc i) v h p =
    let b = and_parts (is_plain_slot w) (list_all is_plain_slot vs) h in
    rw b.0 (plain_set vs i v b.1 p)

given_plain : (fs : List FieldDef) (vs ws : SlotList) (g : Given) → list_all (λ f. is_built_kind f.kind) fs ≡ true → list_all is_plain_slot vs ≡ true → with_given fs vs g ≡ Ok ws → list_all is_plain_slot ws ≡ true
given_plain fs vs ws g built plain e = by_place (placed_from 0 fs g.name) refl
  where
    by_tests : (i : ℕ) (k : Kind) → is_built_kind k ≡ true → (b t : Bool) → fits k (value_of k g.value) ≡ t → (unless (not b) word.Exists >> unless t word.Kind >> Ok (slice_set vs i (Some (value_of k g.value)))) ≡ Ok ws → list_all is_plain_slot ws ≡ true
    by_tests i k h true t f e = absurd cc
    by_tests i k h false true f e =
        let s : slice_set vs i (Some (value_of k g.value)) ≡ ws = cc in
        subst (λ us. list_all is_plain_slot us ≡ true) s (plain_set vs i (value_of k g.value) plain (fits_plain k (value_of k g.value) h f))
    by_tests i k h false false f e = absurd cc

    by_place : (o : Option (ℕ × Kind)) → placed_from 0 fs g.name ≡ o → list_all is_plain_slot ws ≡ true
    by_place None o = let t = rw o at e in absurd cc
    by_place (Some p) o = by_tests p.0 p.1 (placed_kind 0 fs g.name p built o) (is_filled vs p.0) (fits p.1 (value_of p.1 g.value)) refl (rw o at e)

all_plain : (fs : List FieldDef) (gs : List Given) (vs ws : SlotList) → list_all (λ f. is_built_kind f.kind) fs ≡ true → list_all is_plain_slot vs ≡ true → with_all_given fs vs gs ≡ Ok ws → list_all is_plain_slot ws ≡ true
all_plain fs [] vs ws built plain e = let s : vs ≡ ws = cc in subst (λ us. list_all is_plain_slot us ≡ true) s plain
all_plain fs (g ∷ gs) vs ws built plain e = by_first (with_given fs vs g) refl (λ us p h. all_plain fs gs us ws built p h)
  where
    by_first : (r : Checked SlotList) → with_given fs vs g ≡ r → ((us : SlotList) → list_all is_plain_slot us ≡ true → with_all_given fs us gs ≡ Ok ws → list_all is_plain_slot ws ≡ true) → list_all is_plain_slot ws ≡ true
    by_first (Err w) h rest = let t = rw h at e in absurd cc
    by_first (Ok us) h rest = rest us (given_plain fs vs us g built plain h) (rw h at e)

blank_plain : (fs : List FieldDef) → list_all is_plain_slot (blank fs) ≡ true
blank_plain [] = refl
blank_plain (f ∷ fs) = blank_plain fs

slot_plain : (o : Option Value) (k : Kind) → is_plain_slot o ≡ true → is_built_kind k ≡ true → is_plain (unwrap_or o (default k)) ≡ true
slot_plain None k h b = default_plain k b
slot_plain (Some v) k h b = h

filled_plain : (fs : List FieldDef) (vs : SlotList) → list_all (λ f. is_built_kind f.kind) fs ≡ true → list_all is_plain_slot vs ≡ true → are_plain (filled fs vs) ≡ true
filled_plain [] vs b h = refl
filled_plain (f ∷ fs) [] b h = refl
filled_plain (f ∷ fs) (v ∷ vs) b h =
    let p = and_parts (is_built_kind f.kind) (list_all (λ f. is_built_kind f.kind) fs) b in
    let q = and_parts (is_plain_slot v) (list_all is_plain_slot vs) h in
    rw (slot_plain v f.kind q.0 p.0) (filled_plain fs vs p.1 q.1)

-- ---- a full list is written as it is

abbrev full : List FieldDef → SlotList → SlotList
full [] vs = []
full (f ∷ fs) [] = []
full (f ∷ fs) (v ∷ vs) = Some (unwrap_or v (default f.kind)) ∷ full fs vs

full_long : (fs : List FieldDef) (vs : SlotList) → length vs ≡ length fs → length (full fs vs) ≡ length fs
full_long [] vs l = refl
full_long (f ∷ fs) [] l = absurd (omega arith)
full_long (f ∷ fs) (v ∷ vs) l = ap suc (full_long fs vs (omega arith))

full_chosen : (fs : List FieldDef) (vs : SlotList) → chosen fs (full fs vs) ≡ filled fs vs
full_chosen [] vs = refl
full_chosen (f ∷ fs) [] = refl
full_chosen (f ∷ fs) (v ∷ vs) = ap (λ es. entry_for f (unwrap_or v (default f.kind)) ∷ es) (full_chosen fs vs)

full_filled : (fs : List FieldDef) (vs : SlotList) → filled fs (full fs vs) ≡ filled fs vs
full_filled [] vs = refl
full_filled (f ∷ fs) [] = refl
full_filled (f ∷ fs) (v ∷ vs) = ap (λ es. entry_for f (unwrap_or v (default f.kind)) ∷ es) (full_filled fs vs)

written_again : (cs : List ClassDef) (nf c : ℕ) (d : ClassDef) (vs : SlotList) → AllByRecursion IsFlat cs → class_of cs c ≡ Some d → length vs ≡ length d.fields
    → written (schema_of cs nf) c (filled d.fields vs) [] ≡ filled d.fields vs
written_again cs nf c d vs h e l =
    ap (λ es. written (schema_of cs nf) c es []) (sym (full_chosen d.fields vs))
    ∙ written_is cs nf c d (full d.fields vs) h e (full_long d.fields vs l)
    ∙ full_filled d.fields vs

-- ---- the values that the program has

built_found : (m : State) (v : ValueText) → is_built_value v ≡ true → value_found m v ≡ Ok tt
built_found m (valued.One single.Null) h = refl
built_found m (valued.One (single.Int n)) h = refl
built_found m (valued.One (single.Text t)) h = refl
built_found m (valued.One (single.Bool b)) h = absurd cc
built_found m (valued.One (single.Name name)) h = absurd cc
built_found m (valued.One (single.Num n)) h = absurd cc
built_found m (valued.Many ss) h = absurd cc

built_value : (m : State) (k : Kind) (v : ValueText) → is_built_value v ≡ true → machine_value m k v ≡ value_of k v
built_value m k (valued.One single.Null) h = refl
built_value m k (valued.One (single.Int n)) h = refl
built_value m k (valued.One (single.Text t)) h = refl
built_value m k (valued.One (single.Bool b)) h = absurd cc
built_value m k (valued.One (single.Name name)) h = absurd cc
built_value m k (valued.One (single.Num n)) h = absurd cc
built_value m k (valued.Many ss) h = absurd cc

built_numbers : (v : ValueText) → is_built_value v ≡ true → numbers_in_value v ≡ []
built_numbers (valued.One single.Null) h = refl
built_numbers (valued.One (single.Int n)) h = refl
built_numbers (valued.One (single.Text t)) h = refl
built_numbers (valued.One (single.Bool b)) h = absurd cc
built_numbers (valued.One (single.Name name)) h = absurd cc
built_numbers (valued.One (single.Num n)) h = absurd cc
built_numbers (valued.Many ss) h = absurd cc

-- ---- the check by name and by place

-- the numbers and the entries of what is given
abbrev Parts : Type 0
Parts = List ℕ × List Entry

abbrev parts : State → List Entry → FieldValues → Parts
parts m es fs = (numbers_given fs, entered_given m es fs)

-- the same, where nothing was refused
abbrev given : List ℕ → List Entry → Checked Parts
given ns es = Ok (ns, es)

abbrev refused : Word → Checked Parts
refused w = Err w

abbrev nothing_refused : Checked (Unit {0})
nothing_refused = Ok tt

-- one value more before the others
one_before : {A P : Type 0} (l : Checked (List A)) (a : A) (k : List A → P) → ((l >>= λ more. Ok (a ∷ more)) >>= λ all. Ok (k all)) ≡ (l >>= λ more. Ok (k (a ∷ more)))
one_before (Ok more) a k = refl
one_before (Err w) a k = refl

-- two refusals before what follows
two_refusals : {A P W : Type 0} (b t : Bool) (l : Checked (List A)) (a : A) (p : List A → P) (ws : W) (k : W → Checked W) (j : W → P)
    → (b ≡ false → t ≡ true → (l >>= λ more. Ok (p (a ∷ more))) ≡ (k ws >>= λ us. Ok (j us)))
    → ((unless (not b) word.Exists >> nothing_refused >> unless t word.Kind >> l >>= λ more. Ok (a ∷ more)) >>= λ all. Ok (p all)) ≡ (((unless (not b) word.Exists >> unless t word.Kind >> Ok ws) >>= k) >>= λ us. Ok (j us))
two_refusals true t l a p ws k j h = refl
two_refusals false true l a p ws k j h = one_before l a p ∙ h refl refl
two_refusals false false l a p ws k j h = refl

field_is : (cs : List ClassDef) (nf c : ℕ) (d : ClassDef) (name : Text) → AllByRecursion IsFlat cs → class_of cs c ≡ Some d
    → field_named (schema_of cs nf) c name ≡ find (λ f. same f.name name) d.fields
unfolding field_named
field_is cs nf c d name flat is = rw (fields_are cs nf c d flat is) refl

module _ (m : State) (c : ℕ) (d : ClassDef) (flat : AllByRecursion IsFlat m.session.schema.classes) (is : class_of m.session.schema.classes c ≡ Some d) where
  -- the given values, by name and by place
  abbrev GivenIs : List Given → Type 0
  GivenIs gs = (seen : List Text) (vs : SlotList) → length vs ≡ length d.fields → SeenIs d.fields seen vs
      → (checked m c seen gs >>= λ fs. Ok (parts m (chosen d.fields vs) fs)) ≡ (with_all_given d.fields vs gs >>= λ ws. given [] (chosen d.fields ws))

  field_here : (name : Text) → field_named m.session.schema c name ≡ find (λ f. same f.name name) d.fields
  field_here name = field_is m.session.schema.classes m.session.schema.next_field c d name flat is

  given_step : (g : Given) (gs : List Given) → is_built_value g.value ≡ true → GivenIs gs
      → (seen : List Text) (vs : SlotList) → length vs ≡ length d.fields → SeenIs d.fields seen vs → (o : Option FieldDef) → find (λ f. same f.name g.name) d.fields ≡ o
      → (checked m c seen (g ∷ gs) >>= λ fs. Ok (parts m (chosen d.fields vs) fs)) ≡ (with_all_given d.fields vs (g ∷ gs) >>= λ ws. given [] (chosen d.fields ws))
  unfolding checked
  given_step g gs built rest seen vs l h None e =
      rw (field_here g.name ∙ e, not_placed 0 d.fields g.name e) refl
  given_step g gs built rest seen vs l h (Some f) e =
      let r = placed_is 0 d.fields g.name f e in
      let placed = r.placed ∙ ap (λ n. Some (n, f.kind)) (zero-add r.place) in
      let v = value_of f.kind g.value in
      let ws = slice_set vs r.place (Some v) in
      rw (field_here g.name ∙ e, placed, h g.name r.place f.kind placed, built_found m g.value built, built_value m f.kind g.value built)
      (two_refusals (is_filled vs r.place) (fits f.kind v) (checked m c (g.name ∷ seen) gs) (f, g.value) (parts m (chosen d.fields vs)) ws (λ us. with_all_given d.fields us gs) (λ us. ([], chosen d.fields us))
      (λ free fit.
      ap₂ (λ (ns : List ℕ) (es : List Entry). checked m c (g.name ∷ seen) gs >>= λ more. given (ns ++ numbers_given more) (entered_given m es more)) (built_numbers g.value built)
      (ap (λ x. entered (entry_for f x) (chosen d.fields vs)) (built_value m f.kind g.value built) ∙ chosen_more 0 d.fields vs r.place f v (class_is_flat m.session.schema.classes c d flat is).ascends l r.at_place free)
      ∙ rest (g.name ∷ seen) ws (length-set vs r.place (Some v) ∙ l) (seen_more d.fields seen vs g.name r.place f.kind v placed l h)))

  given_is : (gs : List Given) → list_all (λ g. is_built_value g.value) gs ≡ true → GivenIs gs
  unfolding checked
  given_is [] b seen vs l h = refl
  given_is (g ∷ gs) b seen vs l h =
      let p = and_parts (is_built_value g.value) (list_all (λ g. is_built_value g.value) gs) b in
      given_step g gs p.0 (given_is gs p.1) seen vs l h _ refl

  -- ---- a new record

  -- what is stored of the values in their places
  stored_is : (ws : SlotList) → length ws ≡ length d.fields → list_all is_plain_slot ws ≡ true → at m.session.records m.session.next ≡ None
      → stored (with_new m (record { class = c; number = None; active = true; entries = filled d.fields ws })) m.next_handle 1 ≡ record_step m (record { class = c; entries = filled d.fields ws })
  unfolding named_in
  stored_is ws l plain free =
      let cs = m.session.schema.classes in
      let nf = m.session.schema.next_field in
      let built = (class_is_flat cs c d flat is).plain in
      let es = filled d.fields ws in
      let ep = filled_plain d.fields ws built plain in
      stored_alone m c es
      (ap (λ fs. flat_map refs_in (map (λ f. value_in es f.id f.kind) fs)) (fields_are cs nf c d flat is) ∙ names_none es d.fields ep built)
      (λ r. entries_stay r es ep)
      (written_again cs nf c d ws flat is l)
      free

  -- what a line makes
  pub make_is : (name : Text) (gs : List Given) → list_all (λ g. is_built_value g.value) gs ≡ true → m.settings ≡ start_settings → at m.session.records m.session.next ≡ None → class_named m.session.schema name ≡ Some c
      → make_step m name gs ≡ (entries_given d.fields gs >>= λ es. record_step m (record { class = c; entries = es }))
  unfolding make_step
  make_is name gs built settings free named =
      rw named (last (checked m c [] gs) (with_all_given d.fields (blank d.fields) gs) refl refl)
    where
      given_so : (checked m c [] gs >>= λ fs. Ok (parts m [] fs)) ≡ (with_all_given d.fields (blank d.fields) gs >>= λ ws. given [] (chosen d.fields ws))
      given_so =
          ap (λ es. checked m c [] gs >>= λ fs. Ok (parts m es fs)) (sym (blank_chosen d.fields))
          ∙ given_is gs built [] (blank d.fields) (blank_long d.fields) (λ t i k e. blank_free d.fields i)

      depth_is : (o : Live) → store_depth (with_new m o) c ≡ 1
      depth_is o = ap (λ s. unwrap_or (settings_of s c).update s.update) settings

      last : (r : Checked FieldValues) (q : Checked SlotList) → checked m c [] gs ≡ r → with_all_given d.fields (blank d.fields) gs ≡ q
          → (r >>= λ fs. let n = made m c fs in stored n.0 n.1 (store_depth n.0 c))
          ≡ ((q >>= λ ws. Ok (filled d.fields ws)) >>= λ es. record_step m (record { class = c; entries = es }))
      last (Err w) (Err v) e f =
          let t : refused w ≡ refused v = rw (e, f) at given_so in
          let s : w ≡ v = cc in
          ap (λ x. Err x) s
      last (Err w) (Ok ws) e f = let t = rw (e, f) at given_so in absurd cc
      last (Ok fs) (Err v) e f = let t = rw (e, f) at given_so in absurd cc
      last (Ok fs) (Ok ws) e f =
          let t : Ok (parts m [] fs) ≡ given [] (chosen d.fields ws) = rw (e, f) at given_so in
          let numbers : numbers_given fs ≡ [] = ap (λ r. elim r [ Ok p ↦ p.0 | Err w ↦ [] ]) t in
          let entries : entered_given m [] fs ≡ chosen d.fields ws = ap (λ r. elim r [ Ok p ↦ p.1 | Err w ↦ [] ]) t in
          let long = length-all d.fields gs (blank d.fields) ws f ∙ blank_long d.fields in
          let cs = m.session.schema.classes in
          let nf = m.session.schema.next_field in
          let filled_is : written m.session.schema c (entered_given m [] fs) [] ≡ filled d.fields ws = ap (λ es. written m.session.schema c es []) entries ∙ written_is cs nf c d ws flat is long in
          let object : List Entry → Live = λ es. record { class = c; number = None; active = true; entries = es } in
          ap (λ n. stored n.0 n.1 (store_depth n.0 c)) (made_alone m c fs numbers)
          ∙ ap (λ es. stored (with_new m (object es)) m.next_handle (store_depth (with_new m (object es)) c)) filled_is
          ∙ ap (stored (with_new m (object (filled d.fields ws))) m.next_handle) (depth_is (object (filled d.fields ws)))
          ∙ stored_is ws long (all_plain d.fields gs (blank d.fields) ws (class_is_flat cs c d flat is).plain (blank_plain d.fields) f) free

-- ---- the entries that are kept

filled_ids : (fs : List FieldDef) (vs : SlotList) → length vs ≡ length fs → map (λ e. e.id) (filled fs vs) ≡ map (λ f. f.id) fs
filled_ids [] vs l = refl
filled_ids (f ∷ fs) [] l = absurd (omega arith)
filled_ids (f ∷ fs) (v ∷ vs) l = ap (λ is. f.id ∷ is) (filled_ids fs vs (omega arith))

-- the entries that a line gives are those of the fields
given_ids : (fs : List FieldDef) (gs : List Given) (es : List Entry) → entries_given fs gs ≡ Ok es → map (λ e. e.id) es ≡ map (λ f. f.id) fs
given_ids fs gs es e = by_result (with_all_given fs (blank fs) gs) refl e
  where
    by_result : (r : Checked SlotList) → with_all_given fs (blank fs) gs ≡ r → (r >>= λ ws. Ok (filled fs ws)) ≡ Ok es → map (λ e. e.id) es ≡ map (λ f. f.id) fs
    by_result (Err w) h e = absurd cc
    by_result (Ok ws) h e = let s : filled fs ws ≡ es = cc in ap (map (λ e. e.id)) (sym s) ∙ filled_ids fs ws (length-all fs gs (blank fs) ws h ∙ blank_long fs)

pub class_is_distinct : (cs : List ClassDef) (c : ℕ) (d : ClassDef) → AllByRecursion IsFlat cs → class_of cs c ≡ Some d → are_distinct (map (λ f. f.name) d.fields) ≡ true
class_is_distinct cs c d flat is = (class_is_flat cs c d flat is).distinct

pub given_is_kept : (cs : List ClassDef) (c : ℕ) (d : ClassDef) (gs : List Given) (es : List Entry) → class_of cs c ≡ Some d → entries_given d.fields gs ≡ Ok es → IsKept cs (record { class = c; entries = es })
given_is_kept cs c d gs es is e = record { class = rw is refl; ids = rw is (given_ids d.fields gs es e) }

pub make_none : (m : State) (name : Text) (gs : List Given) → class_named m.session.schema name ≡ None → make_step m name gs ≡ Err word.Class
unfolding make_step
make_none m name gs e = rw e refl

pub make_of : (m : State) (name : Text) (gs : List Given) (c : ℕ) (d : ClassDef) (r : Checked (List Entry)) → AllByRecursion IsFlat m.session.schema.classes → list_all (λ g. is_built_value g.value) gs ≡ true → m.settings ≡ start_settings
    → at m.session.records m.session.next ≡ None → class_named m.session.schema name ≡ Some c → class_of m.session.schema.classes c ≡ Some d → entries_given d.fields gs ≡ r
    → make_step m name gs ≡ (r >>= λ es. record_step m (record { class = c; entries = es }))
make_of m name gs c d r flat built settings free n is e =
    make_is m c d flat is name gs built settings free n ∙ ap (λ r. r >>= λ es. record_step m (record { class = c; entries = es })) e
