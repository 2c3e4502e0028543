-- What a change of one index makes of the entries of all.
use Rattle.std.proofs.Common.{◌≡◌, ◌∙◌, inl, inr, ap, sym, refl, subst, ℕ, Bool, true, false, cond, ◌==◌, IsTrue, List, [], ◌∷◌, map, Option, Some, Result, Ok, Err, OnOk, OnErr}
use Rattle.std.proofs.lemmas.Bool.{eq-eqb, ne_eqb}
use Rattle.oc_model.specs.declared.value.Atom.{Atom}
use Rattle.oc_model.specs.declared.value.Rec.{Rec}
use Rattle.oc_model.specs.declared.schema.FieldDef.{FieldDef}
use Rattle.oc_model.specs.Lists.{IsOneOf}
use Rattle.oc_model.specs.SchemaRules.{are_apart}
use Rattle.oc_chunks.specs.Chunks.{joined, numbers}
use Rattle.oc_index.specs.declared.items.IndexItem.{IndexItem}
use Rattle.oc_index.specs.Fields.{FieldList}
use Rattle.oc_index.specs.Indexed.{Changes, Enters, Leaves, StoreLists}
use Rattle.oc_index.specs.Items.{index_bytes}
use Rattle.oc_index.specs.Ranges.{is_entry}
use Rattle.oc_lists.specs.Keeping.{StandAsThen}
use Rattle.oc_lists.specs.Moving.{AreFields, AreMoved, ArePartOf, IsMoved}
use Rattle.oc_lists.specs.Refiling.{at_field, is_kept, key_under, refiled, rekeyed, with_key, without_key, Refiles}
use Rattle.oc_lists.proofs.FieldWise.{fields_self, fields_then, one_changed}
use Rattle.oc_lists.proofs.Moved.{index_self, joined_left, moved_fields, moved_self, part_left, stand_cut, stand_left}
use Rattle.oc_lists.proofs.PartOf.{part_self}

-- ---- one index

left_moved : (key : Atom) (n : ℕ) (i j : FieldList) → Leaves key n i j → IsMoved i j
left_moved key n i j h = record {
  base = h.base;
  chunks = subst (StandAsThen i.chunks) (sym h.chunks) (stand_left (is_entry key n) i.chunks);
  numbers = subst (λ cs. ArePartOf (numbers cs) (numbers i.chunks)) (sym h.chunks) (part_left (is_entry key n) i.chunks);
  marked = h.marked;
}

entered_moved : (key : Atom) (n : ℕ) (i j : FieldList) → Enters key n i j → IsMoved i j
entered_moved key n i j h = record {
  base = h.base;
  chunks = stand_cut index_bytes 128 i.chunks j.chunks h.chunks;
  numbers = subst (λ ns. ArePartOf ns (numbers i.chunks)) (sym h.segments) (part_self (numbers i.chunks));
  marked = h.marked;
}

-- ---- the one index among all

module _ (id : ℕ) where
  others_stay : (f : List IndexItem → List IndexItem) (n : ℕ) (i : FieldList) → (id == n) ≡ false → joined i.chunks ≡ at_field id f n (joined i.chunks)
  others_stay f n i off = sym (ap (λ b. cond b (f (joined i.chunks)) (joined i.chunks)) off)

  own_changes : (f : List IndexItem → List IndexItem) (es : List IndexItem) → at_field id f id es ≡ f es
  own_changes f es = ap (λ b. cond b (f es) es) (eq-eqb id id refl)

  module _ (l m : StoreLists) (apart : IsTrue (are_apart (map (λ (f : ℕ × FieldList). f.0) l.fields))) where
    changed_moved : (R : FieldList → FieldList → Type 0) → ((i j : FieldList) → R i j → IsMoved i j) → m.extents ≡ l.extents → m.marked ≡ l.marked → Changes id R l.fields m.fields → AreMoved l m
    changed_moved R weak extents marked c = moved_fields l m extents marked (one_changed id (λ n. IsMoved) (λ n i off. index_self i) R weak l.fields m.fields apart c)

    changed_entries : (f : List IndexItem → List IndexItem) (R : FieldList → FieldList → Type 0) → ((i j : FieldList) → R i j → joined j.chunks ≡ f (joined i.chunks)) → Changes id R l.fields m.fields → Refiles (at_field id f) l m
    changed_entries f R is c = one_changed id (λ n i j. joined j.chunks ≡ at_field id f n (joined i.chunks)) (others_stay f) R (λ i j r. is i j r ∙ sym (own_changes f (joined i.chunks))) l.fields m.fields apart c

    pub leaves_moved : (key : Atom) (n : ℕ) → m.extents ≡ l.extents → m.marked ≡ l.marked → Changes id (Leaves key n) l.fields m.fields → AreMoved l m
    leaves_moved key n = changed_moved (Leaves key n) (left_moved key n)

    pub leaves_entries : (key : Atom) (n : ℕ) → Changes id (Leaves key n) l.fields m.fields → Refiles (at_field id (without_key n (Some key))) l m
    leaves_entries key n = changed_entries (without_key n (Some key)) (Leaves key n) (λ i j h. ap joined h.chunks ∙ joined_left (is_entry key n) i.chunks)

    pub enters_moved : {T E : Type 0} (r : Result T E) (key : Atom) (n : ℕ) → m.extents ≡ l.extents → m.marked ≡ l.marked → OnOk r (Changes id (Enters key n) l.fields m.fields) → OnErr r (m ≡ l) → AreMoved l m
    enters_moved (Ok v) key n extents marked c same = changed_moved (Enters key n) (entered_moved key n) extents marked c
    enters_moved (Err e) key n extents marked c same = subst (AreMoved l) (sym same) (moved_self l)

    pub enters_entries : (key : Atom) (n : ℕ) → Changes id (Enters key n) l.fields m.fields → Refiles (at_field id (with_key n (Some key))) l m
    enters_entries key n = changed_entries (with_key n (Some key)) (Enters key n) (λ i j h. h.entries)

  -- a change of one index that changes nothing
  pub same_stays : (f : List IndexItem → List IndexItem) → ((es : List IndexItem) → f es ≡ es) → (l : StoreLists) → Refiles (at_field id f) l l
  same_stays f same l = fields_self (λ n i j. joined j.chunks ≡ at_field id f n (joined i.chunks)) (λ n i. by_id (id == n) (joined i.chunks)) l.fields
    where
      by_id : (b : Bool) (es : List IndexItem) → es ≡ cond b (f es) es
      by_id true es = sym (same es)
      by_id false es = refl

  -- two changes of one index
  pub then_changes : (f g h : List IndexItem → List IndexItem) → ((es : List IndexItem) → h es ≡ g (f es)) → (l m n : StoreLists) → Refiles (at_field id f) l m → Refiles (at_field id g) m n → Refiles (at_field id h) l n
  then_changes f g h is l m n a b =
      fields_then (λ k i j. joined j.chunks ≡ at_field id f k (joined i.chunks)) (λ k i j. joined j.chunks ≡ at_field id g k (joined i.chunks)) (λ k i j. joined j.chunks ≡ at_field id h k (joined i.chunks))
      (λ k i j o p q. by_id (id == k) (joined i.chunks) (joined j.chunks) (joined o.chunks) p q) l.fields m.fields n.fields a b
    where
      by_id : (t : Bool) (es ds cs : List IndexItem) → ds ≡ cond t (f es) es → cs ≡ cond t (g ds) ds → cs ≡ cond t (h es) es
      by_id true es ds cs p q = q ∙ ap g p ∙ sym (is es)
      by_id false es ds cs p q = q ∙ p

pub kept_stays : (n : ℕ) (old new : Option Atom) → is_kept old new ≡ true → (es : List IndexItem) → rekeyed n old new es ≡ es
kept_stays n old new kept es = ap (λ b. cond b es (with_key n new (without_key n old es))) kept

pub not_kept : (n : ℕ) (old new : Option Atom) → is_kept old new ≡ false → (es : List IndexItem) → rekeyed n old new es ≡ with_key n new (without_key n old es)
not_kept n old new kept es = ap (λ b. cond b es (with_key n new (without_key n old es))) kept

-- ---- one field after the other

module _ (n : ℕ) (old new : Option Rec) where
  -- the indexes as they are come to what the fields make of those at the start
  abbrev pub Comes : List FieldDef → List FieldDef → StoreLists → StoreLists → Type 0
  Comes rest fs l m = AreFields (λ id i j. refiled n old new rest id (joined j.chunks) ≡ refiled n old new fs id (joined i.chunks)) l.fields m.fields

  pub comes_first : (fs : List FieldDef) (l : StoreLists) → Comes fs fs l l
  comes_first fs l = fields_self (λ id i j. refiled n old new fs id (joined j.chunks) ≡ refiled n old new fs id (joined i.chunks)) (λ id i. refl) l.fields

  pub comes_more : (f : FieldDef) (rest fs : List FieldDef) (l m o : StoreLists) → Comes (f ∷ rest) fs l m → Refiles (at_field f.id (rekeyed n (key_under f old) (key_under f new))) m o → Comes rest fs l o
  comes_more f rest fs l m o a b =
      fields_then (λ id i j. refiled n old new (f ∷ rest) id (joined j.chunks) ≡ refiled n old new fs id (joined i.chunks))
      (λ id i j. joined j.chunks ≡ at_field f.id (rekeyed n (key_under f old) (key_under f new)) id (joined i.chunks))
      (λ id i j. refiled n old new rest id (joined j.chunks) ≡ refiled n old new fs id (joined i.chunks))
      (λ id i j k p q. ap (refiled n old new rest id) q ∙ p) l.fields m.fields o.fields a b

  pub comes_last : (fs : List FieldDef) (l m : StoreLists) → Comes [] fs l m → Refiles (refiled n old new fs) l m
  comes_last fs l m a = a

  -- an index of a field that isn't among these stays
  pub refiled_off : (fs : List FieldDef) (id : ℕ) → ((f : FieldDef) → IsOneOf f fs → f.id ≡ id → ⊥) → (es : List IndexItem) → refiled n old new fs id es ≡ es
  refiled_off [] id off es = refl
  refiled_off (f ∷ fs) id off es =
      ap (λ b. refiled n old new fs id (cond b (rekeyed n (key_under f old) (key_under f new) es) es)) (ne_eqb f.id id (off f (inl refl))) ∙ refiled_off fs id (λ g one. off g (inr one)) es

-- the same under other names of the values
pub under_keys : {T E : Type 0} (r : Result T E) (id n : ℕ) (a b x y : Option Atom) (l m : StoreLists) → a ≡ x → b ≡ y → OnOk r (Refiles (at_field id (rekeyed n a b)) l m) → OnOk r (Refiles (at_field id (rekeyed n x y)) l m)
under_keys r id n a b x y l m p q h =
    subst (λ k. OnOk r (Refiles (at_field id (rekeyed n x k)) l m)) q (subst (λ k. OnOk r (Refiles (at_field id (rekeyed n k b)) l m)) p h)
