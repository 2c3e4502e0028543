-- What a query for a class finds, and how it is shown.
use Rattle.std.proofs.Common.{◌≡◌, inl, inr, refl, sym, ap, ◌∙◌, subst, ℕ, ◌+◌, ◌<◌, ◌≤◌, true, false, cond, ◌&&◌, List, [], ◌∷◌, ◌++◌, map, filter, filter_map, Option, Some, None, Ok, Err, is_some, option_map, option_to_list, unwrap_or, nat_cmp, nat_le, get_or, drop, length, add-one, append-nil, append_assoc, arith, if◌then◌else◌}
use Rattle.std.specs.List.{cons_option}
use Rattle.std.specs.Ordering.{is_lt}
use Rattle.std.specs.FinMap.{is_sorted}
use Rattle.std.specs.FinMap.Entries.{below_all}
use Rattle.std.proofs.lemmas.Bool.Decides.{nat_tests}
use Rattle.std.proofs.Math.ListN.{drop_of_length-le}
use Rattle.std.proofs.Math.Seq.{drop-cons}
use Rattle.oc_host.specs.Disk.{Disk}
use Rattle.oc_model.specs.declared.value.Rec.{Rec}
use Rattle.oc_model.specs.declared.answer.Answer.TheVariants as answer
use Rattle.oc_model.specs.declared.answer.Mark.TheVariants as mark
use Rattle.oc_model.specs.declared.answer.ObjectLine.{ObjectLine}
use Rattle.oc_model.specs.declared.answer.Word.TheVariants as word
use Rattle.oc_model.specs.declared.query.Expr.{All}
use Rattle.oc_model.specs.Lists.{IsOneOf}
use Rattle.oc_model.specs.Maps.{at, keys, Map, Text}
use Rattle.oc_model.specs.Queries.{answer as answer_of, is_of}
use Rattle.oc_model.specs.Schemas.{Schema, class_named, is_sub}
use Rattle.oc_model.specs.States.{State}
use Rattle.oc_model.specs.StoreRules.{KeepsStore}
use Rattle.oc_model.specs.Stores.{Store}
use Rattle.oc_model.proofs.Answering.{answer_plain}
use Rattle.oc_model.proofs.Elements.{both_true}
use Rattle.oc_machine.specs.Outcomes.{settled}
use Rattle.oc_machine.specs.QueryLines.{asked_by_query, found_lines, query_step}
use Rattle.oc_machine.specs.Showing.{stored_line, stored_mark}
use Rattle.oc_chunks.specs.Chunks.{joined}
use Rattle.oc_index.specs.declared.items.ExtentItem.{ExtentItem}
use Rattle.oc_index.proofs.Ordered.{lt_of}
use Rattle.oc_lists.specs.Lists.{extents_of}
use Rattle.oc_live.specs.Memories.{Memory}
use Rattle.oc_lists.proofs.OneRecord.{found_first, found_later}
use Rattle.oc_slots.specs.declared.slot.Side.TheVariants.{Session}
use Rattle.oc_store.specs.Filed.{FiledStore, Shows}
use Rattle.oc_store.proofs.Fetched.{class_shown}
use Rattle.oc_container.specs.Asked.{mark_in, objects_below, record_line}
use Rattle.oc_container.specs.Contained.{Contained, Holds, Meets}
use Rattle.oc_container.proofs.Steps.{stored_with_class}

-- ---- which objects

above : {V : Type 0} (k : ℕ) (m : Map V) → below_all nat_cmp k m ≡ true → (e : ℕ × V) → IsOneOf e m → k < e.0
above k [] below e one = absurd one
above k (d ∷ m) below e (inl same) = let lt = lt_of k d.0 (both_true (is_lt (nat_cmp k d.0)) (below_all nat_cmp k m) below).0 in let key : e.0 ≡ d.0 = ap (λ (x : ℕ × _). x.0) same in omega (arith, lt, key)
above k (d ∷ m) below e (inr one) = above k m (both_true (is_lt (nat_cmp k d.0)) (below_all nat_cmp k m) below).1 e one

-- what stands in a map is found under its number
found_under : {V : Type 0} (m : Map V) → is_sorted nat_cmp m ≡ true → (e : ℕ × V) → IsOneOf e m → at m e.0 ≡ Some e.1
found_under [] up e one = absurd one
found_under (d ∷ m) up e (inl same) = found_first e.0 d m (ap (λ (x : ℕ × _). x.0) same) ∙ ap (λ (x : ℕ × _). Some x.1) (sym same)
found_under (d ∷ m) up e (inr one) =
    let parts = both_true (below_all nat_cmp d.0 m) (is_sorted nat_cmp m) up in
    let lt = above d.0 m parts.0 e one in
    found_later e.0 d m (λ same. absurd (omega (arith, lt, same))) ∙ found_under m parts.1 e one

abbrev extent : ℕ × Rec → ExtentItem
extent e = record { number = e.0; class = (e.1).class }

below_found : (s : Store) (c : ℕ) (m : Map Rec) → ((e : ℕ × Rec) → IsOneOf e m → at s.records e.0 ≡ Some e.1) → filter (is_of s c) (keys m) ≡ objects_below s.schema c (map extent m)
below_found s c [] there = refl
below_found s c (e ∷ m) there =
    let rest = below_found s c m (λ d one. there d (inr one)) in
    let is : is_of s c e.0 ≡ is_sub s.schema (e.1).class c = ap (λ (o : Option Rec). unwrap_or (option_map (λ d. is_sub s.schema d c) (option_map (λ (r : Rec). r.class) o)) false) (there e (inl refl)) in
    ap (λ b. cond b (e.0 ∷ filter (is_of s c) (keys m)) (filter (is_of s c) (keys m))) is
    ∙ (elim (is_sub s.schema (e.1).class c) as (λ b. cond b (e.0 ∷ filter (is_of s c) (keys m)) (filter (is_of s c) (keys m)) ≡ map (λ (x : ExtentItem). x.number) (cond b (extent e ∷ filter (λ (x : ExtentItem). is_sub s.schema x.class c) (map extent m)) (filter (λ (x : ExtentItem). is_sub s.schema x.class c) (map extent m)))) [
      | true ↦ ap (λ l. e.0 ∷ l) rest
      | false ↦ rest
    ])

answer_is : (s : Store) (c : ℕ) → KeepsStore s → answer_of s c All [] ≡ objects_below s.schema c (extents_of s)
answer_is s c keeps = answer_plain s c keeps.by_number ∙ below_found s c s.records (found_under s.records keeps.by_number)

-- ---- the step

query_found : (m : State) (name : Text) (c : ℕ) → KeepsStore m.session → class_named m.session.schema name ≡ Some c
    → query_step m name None [] ≡ Ok (m, answer.Found (filter_map (stored_line m.session) (objects_below m.session.schema c (extents_of m.session))))
unfolding query_step asked_by_query found_lines
query_found m name c keeps named = rw (named, answer_is m.session c keeps) refl

query_refused : (m : State) (name : Text) → class_named m.session.schema name ≡ None → query_step m name None [] ≡ Err word.Class
unfolding query_step asked_by_query
query_refused m name none = rw none refl

pub refused_meets : (v : Contained) (d : Disk) (m : State) (name : Text) → Holds v d m → class_named ((v.store).session).schema name ≡ None
    → Meets v d (answer.Refused word.Class) (settled m (query_step m name None []))
refused_meets v d m name h none =
    let free : class_named m.session.schema name ≡ None = ap (λ (s : Schema). class_named s name) (sym (((h.stores).session).heading).schema) ∙ none in
    subst (λ o. Meets v d (answer.Refused word.Class) (settled m o)) (sym (query_refused m name free)) (record { state = h; answer = refl })

pub found_meets : (w : Contained) (e : Disk) (m : State) (name : Text) (c : ℕ) (lines : List ObjectLine) → Holds w e m → KeepsStore m.session → class_named m.session.schema name ≡ Some c
    → lines ≡ filter_map (stored_line m.session) (objects_below m.session.schema c (extents_of m.session)) → Meets w e (answer.Found lines) (settled m (query_step m name None []))
found_meets w e m name c lines h keeps named are =
    subst (λ o. Meets w e (answer.Found lines) (settled m o)) (sym (query_found m name c keeps named)) (record { state = h; answer = ap answer.Found are })

pub query_meets : (v w : Contained) (d e : Disk) (m : State) (name : Text) (c : ℕ) (numbers : List ℕ) (lines : List ObjectLine) → Holds v d m → Holds w e m → class_named ((v.store).session).schema name ≡ Some c
    → numbers ≡ objects_below ((v.store).session).schema c (joined (((v.store).lists).extents).chunks) → lines ≡ filter_map (stored_line m.session) numbers → Meets w e (answer.Found lines) (settled m (query_step m name None []))
query_meets v w d e m name c numbers lines h k named are shown =
    let schema = (((h.stores).session).heading).schema in
    found_meets w e m name c lines k ((h.stores).session).keeps (ap (λ (s : Schema). class_named s name) (sym schema) ∙ named)
    (shown ∙ ap (filter_map (stored_line m.session)) (are ∙ (λ i. objects_below (schema i) c ((((h.stores).session).lists).extents i))))

-- the class of the name, as the calls tell it
pub named_in : (v : Contained) (s : Schema) (given name : Text) (o : Option ℕ) → s ≡ ((v.store).session).schema → given ≡ name → o ≡ class_named s given → class_named ((v.store).session).schema name ≡ o
named_in v s given name o schema same told = sym (told ∙ (λ i. class_named (schema i) (same i)))

-- the state stays where the store is that of the same two
pub still_holds : (v : Contained) (s t : FiledStore) (k : Memory) (d e : Disk) (m : State) → record { store = s; memory = k } ≡ v → Holds v d m
    → (Shows s d m.committed m.session → Shows t e m.committed m.session) → Holds (record { store = t; memory = k }) e m
still_holds v s t k d e m view h shows = record {
  stores = shows (subst (λ (w : Contained). Shows w.store d m.committed m.session) (sym view) h.stores);
  memory = ap (λ (w : Contained). w.memory) view ∙ h.memory;
}

-- ---- how an object is shown

module _ (v : FiledStore) (d : Disk) (c s : Store) (shows : Shows v d c s) where
  small_stored : (n : ℕ) (o : Option Rec) → at s.records n ≡ o → (nat_le n 4294967295 && is_some o) ≡ is_some o
  small_stored n None e = elim (nat_le n 4294967295) as (λ b. (b && false) ≡ false) [ true ↦ refl | false ↦ refl ]
  small_stored n (Some r) e =
      let keeps = (shows.session).keeps in
      let low = keeps.below_next n r e in
      let few = keeps.small_next in
      let le : n ≤ 4294967295 = omega (arith, low, few) in
      let is : nat_le n 4294967295 ≡ true = grind (arith, nat_tests, le) in
      ap (λ b. b && true) is

  -- a reference is shown as the store of the session shows it
  mark_is : (n : ℕ) → mark_in v n ≡ stored_mark s n
  mark_is n =
      ap (λ b. if nat_le n 4294967295 && b then Some (mark.Number n) else None) (ap is_some (class_shown v d c s shows Session n) ∙ stored_with_class s n)
      ∙ ap (λ b. if b then Some (mark.Number n) else None) (small_stored n (at s.records n) refl)

  marks_are : mark_in v ≡ stored_mark s
  marks_are = λ i n. mark_is n i

  -- the line of its record
  pub line_is : (n : ℕ) (o : Option Rec) → o ≡ at s.records n → option_map (record_line (mark_in v) (v.session).schema n) o ≡ stored_line s n
  unfolding stored_line
  line_is n o is = (λ i. option_map (record_line (marks_are i) (((shows.session).heading).schema i) n) (is i))

-- ---- the lines, one after the other

first_line : (f : ℕ → Option ObjectLine) (n : ℕ) (ns : List ℕ) → filter_map f (n ∷ ns) ≡ option_to_list (f n) ++ filter_map f ns
first_line f n ns = elim (f n) as (λ (o : Option ObjectLine). cons_option o (filter_map f ns) ≡ option_to_list o ++ filter_map f ns) [ None ↦ refl | Some l ↦ refl ]

-- with the line of the object at the place, if it has one
pub lines_more : (f : ℕ → Option ObjectLine) (ns : List ℕ) (i : ℕ) → i < length ns → (before after all : List ObjectLine) (o : Option ObjectLine) → o ≡ f (get_or ns i 0) → after ≡ before ++ option_to_list o
    → before ++ filter_map f (drop i ns) ≡ all → after ++ filter_map f (drop (i + 1) ns) ≡ all
lines_more f ns i lt before after all o is grown so_far =
    ap (λ l. l ++ filter_map f (drop (i + 1) ns)) (grown ∙ ap (λ x. before ++ option_to_list x) is)
    ∙ append_assoc before (option_to_list (f (get_or ns i 0))) (filter_map f (drop (i + 1) ns))
    ∙ ap (λ l. before ++ l) (sym (ap (filter_map f) (drop-cons ns i 0 lt ∙ (λ j. get_or ns i 0 ∷ drop (sym (add-one i) j) ns)) ∙ first_line f (get_or ns i 0) (drop (i + 1) ns)))
    ∙ so_far

-- at the end these are the lines of all
pub lines_all : (f : ℕ → Option ObjectLine) (ns : List ℕ) (i : ℕ) → length ns ≤ i → (lines all : List ObjectLine) → lines ++ filter_map f (drop i ns) ≡ all → lines ≡ all
lines_all f ns i le lines all whole = sym (append-nil lines) ∙ ap (λ l. lines ++ filter_map f l) (sym (drop_of_length-le ns le)) ∙ whole
