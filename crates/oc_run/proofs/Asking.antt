-- What the lists show is what a query shows.
use Rattle.std.proofs.Common.{◌≡◌, ℕ, zero, suc, ◌+◌, ◌<◌, ⊎_elim, true, ◌==◌, List, [], ◌∷◌, length, map, filter, filter_map, slice_get, Option, Some, None, Ok, Err, refl, sym, ap, subst, ◌∙◌, arith, nat_cmp, add-zero}
use Rattle.std.specs.List.{AllByRecursion}
use Rattle.std.specs.FinMap.{is_sorted}
use Rattle.std.specs.FinMap.Entries.{below_all}
use Rattle.std.proofs.lemmas.Bool.{cases_Bool, cond-false, eqb-true}
use Rattle.std.proofs.lemmas.Bool.Decides.{nat_tests}
use Rattle.oc_model.specs.declared.value.Value.{Value}
use Rattle.oc_model.specs.declared.value.Value.TheVariants as value
use Rattle.oc_model.specs.declared.value.Atom.{Atom}
use Rattle.oc_model.specs.declared.value.Atom.TheVariants as atom
use Rattle.oc_model.specs.declared.value.Entry.{Entry}
use Rattle.oc_model.specs.declared.value.Rec.{Rec}
use Rattle.oc_model.specs.declared.schema.FieldDef.{FieldDef}
use Rattle.oc_model.specs.declared.schema.ClassDef.{ClassDef}
use Rattle.oc_model.specs.declared.answer.Mark.{Mark}
use Rattle.oc_model.specs.declared.answer.ShownField.{ShownField}
use Rattle.oc_model.specs.declared.answer.ShownAtom.TheVariants as shown_atom
use Rattle.oc_model.specs.declared.answer.ShownValue.TheVariants as shown_value
use Rattle.oc_model.specs.declared.answer.Answer.TheVariants as answer
use Rattle.oc_model.specs.declared.answer.Word.TheVariants as word
use Rattle.oc_model.specs.Maps.{at, keys, Text}
use Rattle.oc_model.specs.Schemas.{class_at, number_from, class_named, is_sub}
use Rattle.oc_model.specs.Stores.{Store, value_in}
use Rattle.oc_model.specs.Queries.{is_of}
use Rattle.oc_model.specs.States.{State}
use Rattle.oc_model.proofs.Answering.{answer_plain}
use Rattle.oc_machine.specs.Showing.{stored_mark, shown_atom_by, shown_value_by, stored_line}
use Rattle.oc_machine.specs.QueryLines.{asked_by_query, found_lines, query_step}
use Rattle.oc_run.specs.ListStore.{numbered, schema_of, state_of, Ascends, IsFlat, class_of, field_ids, IsKept, mark_within, shown_in_order, line_of, lines_from}
use Rattle.oc_run.proofs.ListLemmas.{less, after, at_number, is_some-at, class_is_flat, fields_are, below_is_same}
use Rattle.oc_run.proofs.Entries.{skipped}

-- ---- what a query shows

-- references that are shown alike
atom_alike : (q m : ℕ → Option Mark) → ((n : ℕ) → q n ≡ m n) → (a : Atom) → shown_atom_by q a ≡ shown_atom_by m a
atom_alike q m h (atom.Bool b) = refl
atom_alike q m h (atom.Int n) = refl
atom_alike q m h (atom.Text t) = refl
atom_alike q m h (atom.Ref n) = ap shown_atom.Ref (h n)

atoms_alike : (q m : ℕ → Option Mark) → ((n : ℕ) → q n ≡ m n) → (xs : List Atom) → map (shown_atom_by q) xs ≡ map (shown_atom_by m) xs
atoms_alike q m h [] = refl
atoms_alike q m h (a ∷ xs) = rw (atom_alike q m h a, atoms_alike q m h xs) refl

value_alike : (q m : ℕ → Option Mark) → ((n : ℕ) → q n ≡ m n) → (v : Value) → shown_value_by q v ≡ shown_value_by m v
value_alike q m h (value.One a) = ap shown_value.One (atom_alike q m h a)
value_alike q m h (value.Many None) = refl
value_alike q m h (value.Many (Some xs)) = ap (λ ys. shown_value.Many (Some ys)) (atoms_alike q m h xs)

marks_alike : (s : Store) (rs : List Rec) → s.records ≡ numbered 1 rs → (n : ℕ) → stored_mark s n ≡ mark_within (length rs) n
marks_alike s rs e n = rw (e, is_some-at n rs) refl

abbrev shown_field : (ℕ → Option Mark) → FieldDef → Value → ShownField
shown_field q f v = record { name = f.name; value = shown_value_by q v }

-- the values by id and by place
shown_alike : (count low : ℕ) (q : ℕ → Option Mark) → ((n : ℕ) → q n ≡ mark_within count n) → (fs : List FieldDef) (es : List Entry) → Ascends low fs → map (λ e. e.id) es ≡ map (λ f. f.id) fs
    → map (λ f. shown_field q f (value_in es f.id f.kind)) fs ≡ shown_in_order count fs es
shown_alike count low q h [] es a e = refl
shown_alike count low q h (f ∷ fs) [] a e = absurd cc
shown_alike count low q h (f ∷ fs) (x ∷ es) a e =
    let i : x.id ≡ f.id = cc in
    let is : map (λ e. e.id) es ≡ map (λ f. f.id) fs = cc in
    let y : (x.id == f.id) ≡ true = grind (arith, nat_tests) in
    rw (y, value_alike q (mark_within count) h x.value)
    (ap (λ xs. shown_field (mark_within count) f x.value ∷ xs)
    (skipped (shown_field q) (f.id + 1) fs x es a.2 (omega arith) ∙ shown_alike count (f.id + 1) q h fs es a.2 is))

class_of_is : (cs : List ClassDef) (nf c : ℕ) (d : ClassDef) → class_of cs c ≡ Some d → class_at (schema_of cs nf) c ≡ Some d
class_of_is cs nf zero d e = absurd cc
class_of_is cs nf (suc c) d e = e

-- the line of one record
line_is : (cs : List ClassDef) (nf : ℕ) (rs : List Rec) (c : ℕ) (d : ClassDef) (n : ℕ) (r : Rec) → AllByRecursion IsFlat cs → class_of cs c ≡ Some d → IsKept cs r → r.class ≡ c
    → at (numbered 1 rs) n ≡ Some r → stored_line (state_of cs nf rs).session n ≡ Some (line_of (length rs) d n r)
unfolding stored_line
line_is cs nf rs c d n r flat is kept e found =
    let here : class_of cs r.class ≡ Some d = ap (class_of cs) e ∙ is in
    let fields = fields_are cs nf r.class d flat here in
    let name = class_of_is cs nf r.class d here in
    let ids : map (λ e. e.id) r.entries ≡ map (λ f. f.id) d.fields = kept.ids ∙ ap field_ids here in
    let s = (state_of cs nf rs).session in
    let values = shown_alike (length rs) 0 (stored_mark s) (marks_alike s rs refl) d.fields r.entries (class_is_flat cs c d flat is).ascends ids in
    rw (found, fields, name, values) refl

is_of_is : (cs : List ClassDef) (nf : ℕ) (rs : List Rec) (c n : ℕ) (r : Rec) → AllByRecursion IsFlat cs → at (numbered 1 rs) n ≡ Some r → is_of (state_of cs nf rs).session (suc c) n ≡ (r.class == suc c)
unfolding is_sub
is_of_is cs nf rs c n r flat found = rw found (below_is_same cs nf r.class c flat)

lines_are : (cs : List ClassDef) (nf : ℕ) (all : List Rec) (c : ℕ) (d : ClassDef) → AllByRecursion IsFlat cs → class_of cs (suc c) ≡ Some d → (n : ℕ) (rs : List Rec)
    → AllByRecursion (IsKept cs) rs → ((k : ℕ) → at (numbered 1 all) (n + k) ≡ slice_get rs k)
    → filter_map (stored_line (state_of cs nf all).session) (filter (is_of (state_of cs nf all).session (suc c)) (keys (numbered n rs))) ≡ lines_from (length all) d (suc c) n rs
lines_are cs nf all c d flat is n [] kept h = refl
lines_are cs nf all c d flat is n (r ∷ rs) kept h =
    let found : at (numbered 1 all) n ≡ Some r = ap (at (numbered 1 all)) (sym (add-zero n)) ∙ h 0 in
    let rest = lines_are cs nf all c d flat is (n + 1) rs kept.1 (λ k. ap (at (numbered 1 all)) (sym (after n k)) ∙ h (suc k)) in
    let s = (state_of cs nf all).session in
    let test = is_of_is cs nf all c n r flat found in
    ⊎_elim
    (λ y.
    let e : r.class ≡ suc c = eqb-true r.class (suc c) y in
    let line = line_is cs nf all (suc c) d n r flat is kept.0 e found in
    rw (test, y, line) (ap (λ xs. line_of (length all) d n r ∷ xs) rest))
    (λ no. rw (test, cond-false (r.class == suc c) (n ∷ filter (is_of s (suc c)) (keys (numbered (n + 1) rs))) (filter (is_of s (suc c)) (keys (numbered (n + 1) rs))) no, no) rest)
    (cases_Bool (r.class == suc c))

-- ---- the numbers of the records

below_later : (h n : ℕ) (rs : List Rec) → h < n → below_all nat_cmp h (numbered n rs) ≡ true
below_later h n [] lt = refl
below_later h n (r ∷ rs) lt = rw (less h n lt) (below_later h (n + 1) rs (omega arith))

in_order : (n : ℕ) (rs : List Rec) → is_sorted nat_cmp (numbered n rs) ≡ true
in_order n [] = refl
in_order n (r ∷ rs) = rw (below_later n (n + 1) rs (omega arith)) (in_order (n + 1) rs)

-- ---- the line

pub query_is : (cs : List ClassDef) (nf : ℕ) (rs : List Rec) (name : Text) (c : ℕ) (d : ClassDef) → AllByRecursion IsFlat cs → AllByRecursion (IsKept cs) rs → number_from 1 cs name ≡ Some c → class_of cs c ≡ Some d
    → query_step (state_of cs nf rs) name None [] ≡ Ok (state_of cs nf rs, answer.Found (lines_from (length rs) d c 1 rs))
unfolding query_step asked_by_query found_lines
query_is cs nf rs name zero d flat kept n is = absurd cc
query_is cs nf rs name (suc c) d flat kept n is =
    let m = state_of cs nf rs in
    rw (n, answer_plain m.session (suc c) (in_order 1 rs), lines_are cs nf rs c d flat is 1 rs kept (λ k. at_number 1 k rs)) refl

pub query_none : (m : State) (name : Text) → class_named m.session.schema name ≡ None → query_step m name None [] ≡ Err word.Class
unfolding query_step asked_by_query
query_none m name e = rw e refl

pub query_by : (m : State) (cs : List ClassDef) (nf : ℕ) (rs : List Rec) (name : Text) (c : ℕ) (d : ClassDef) → state_of cs nf rs ≡ m → AllByRecursion IsFlat cs → AllByRecursion (IsKept cs) rs
    → class_named m.session.schema name ≡ Some c → class_of m.session.schema.classes c ≡ Some d → query_step m name None [] ≡ Ok (m, answer.Found (lines_from (length rs) d c 1 rs))
query_by m cs nf rs name c d e flat kept =
    subst (λ m. class_named m.session.schema name ≡ Some c → class_of m.session.schema.classes c ≡ Some d → query_step m name None [] ≡ Ok (m, answer.Found (lines_from (length rs) d c 1 rs))) e
    (λ n is. query_is cs nf rs name c d flat kept n is)
