-- A store that begins at a new object which names none: it reaches that object alone, and writes its record.
use Rattle.std.proofs.Common.{◌≡◌, ℕ, zero, suc, ◌+◌, ◌*◌, Bool, true, false, ◌&&◌, nat_le, List, [], ◌∷◌, map, length, filter_map, fold, Some, None, refl, ap, ◌∙◌, arith, nat_cmp, Ok}
use Rattle.std.specs.Ordering.{is_eq}
use Rattle.std.specs.declared.cmp.Ordering.{Ordering}
use Rattle.std.specs.declared.cmp.Ordering.TheVariants.{Less, Equal, Greater}
use Rattle.std.specs.Cmp.{nat_cmp_total, tied_itself}
use Rattle.std.specs.FinMap.Entries.{find-put, by_order}
use Rattle.std.proofs.lemmas.Bool.{cond-true}
use Rattle.std.proofs.lemmas.Bool.Decides.{nat_tests}
use Rattle.oc_model.specs.declared.value.Entry.{Entry}
use Rattle.oc_model.specs.declared.value.Rec.{Rec}
use Rattle.oc_model.specs.declared.reach.Node.{Node}
use Rattle.oc_model.specs.declared.reach.Node.TheVariants as node
use Rattle.oc_model.specs.declared.answer.Word.TheVariants as word
use Rattle.oc_model.specs.declared.answer.Answer.TheVariants as answer
use Rattle.oc_model.specs.Maps.{Map, at, with_at}
use Rattle.oc_model.specs.Refusals.{Checked, ◌>>◌, unless}
use Rattle.oc_model.specs.Stores.{written, record_len}
use Rattle.oc_model.specs.States.{State, Live}
use Rattle.oc_model.specs.Nodes.{named_in, is_awake, object_next, is_unsaved_node}
use Rattle.oc_model.specs.Walks.{Walk, Table, at_least_if, raised, is_settled, settle, best}
use Rattle.oc_model.specs.StateWalks.{store_walk}
use Rattle.oc_machine.specs.Outcomes.{Outcome}
use Rattle.oc_machine.specs.Memory.{all_woken, with_new, entries_by, to_number, handles_in}
use Rattle.oc_machine.specs.Values.{FieldValues, numbers_given, with_given}
use Rattle.oc_machine.specs.SchemaLines.{are_short, with_records}
use Rattle.oc_machine.specs.ObjectLines.{made}
use Rattle.oc_machine.specs.WalkLines.{StorePlan, unsaved_among, with_number, change_of, by_number, store_plan, stored}
use Rattle.oc_run.specs.ListStore.{live_of, record_step}

-- ---- maps

pub at_put : {X : Type 0} (m : Map X) (k : ℕ) (x : X) → at (with_at m k x) k ≡ Some x
at_put m k x = find-put nat_cmp nat_cmp_total k k x m ∙ cond-true _ _ _ (ap is_eq (tied_itself nat_cmp_total k))

put_by : {X : Type 0} (r : Ordering) (m : Map X) (k : ℕ) (x y : X) (e : ℕ × X) → nat_cmp k e.0 ≡ r → with_at (with_at m k x) k y ≡ with_at m k y
    → with_at (by_order r ((k, x) ∷ e ∷ m) ((e.0, x) ∷ m) (e ∷ with_at m k x)) k y ≡ by_order r ((k, y) ∷ e ∷ m) ((e.0, y) ∷ m) (e ∷ with_at m k y)
put_by Less m k x y e is h = rw (tied_itself nat_cmp_total k) refl
put_by Equal m k x y e is h = rw is refl
put_by Greater m k x y e is h = rw is (ap (λ es. e ∷ es) h)

-- what is put there last stays
pub put_twice : {X : Type 0} (m : Map X) (k : ℕ) (x y : X) → with_at (with_at m k x) k y ≡ with_at m k y
put_twice [] k x y = rw (tied_itself nat_cmp_total k) refl
put_twice (e ∷ m) k x y = put_by (nat_cmp k e.0) m k x y e refl (put_twice m k x y)

-- ---- the walk

settled_stays : (n : ℕ) (w : Walk) (t : Table) → settle n true w t ≡ t
settled_stays zero w t = refl
settled_stays (suc n) w t = refl

-- a root that names nothing is reached alone
best_alone : (w : Walk) (root : Node) → w.next root ≡ [] → w.arrive root 1 ≡ 1 → best w root 1 ≡ (root, 1) ∷ []
unfolding best
best_alone w root none one = from_table _ (ap (λ k. raised [] (root, k)) one)
  where
    settled : is_settled w ((root, 1) ∷ []) ≡ true
    settled = rw none refl

    from_table : (t : Table) → t ≡ (root, 1) ∷ [] → settle (65536 * (length w.nodes + 1)) (is_settled w t) w t ≡ (root, 1) ∷ []
    from_table t is =
        ap (λ u. settle (65536 * (length w.nodes + 1)) (is_settled w u) w u) is
        ∙ ap (λ b. settle (65536 * (length w.nodes + 1)) b w ((root, 1) ∷ [])) settled
        ∙ settled_stays (65536 * (length w.nodes + 1)) w ((root, 1) ∷ [])

arrives_once : (b : Bool) → at_least_if b 1 ≡ 1
arrives_once true = refl
arrives_once false = refl

-- ---- the new object

module _ (m : State) (c : ℕ) (es : List Entry) where
  abbrev h : ℕ
  h = m.next_handle

  abbrev n : ℕ
  n = m.session.next

  abbrev unsaved : Live
  unsaved = record { class = c; number = None; active = true; entries = es }

  abbrev new : Rec
  new = record { class = c; entries = es }

  -- with the object in memory
  abbrev before : State
  before = with_new m unsaved

  -- with its number
  abbrev after : State
  after = record m { session = record m.session { next = n + 1 }; live = with_at m.live h (live_of n new); next_handle = h + 1 }

  reached : named_in m.session.schema c es ≡ [] → best (store_walk before) (node.Live h) 1 ≡ (node.Live h, 1) ∷ []
  unfolding store_walk
  reached none =
      best_alone (store_walk before) (node.Live h)
      (ap (object_next is_awake before) (at_put m.live h unsaved) ∙ ap (map node.Live) none)
      (arrives_once (is_unsaved_node before (node.Live h)))

  is_new : unsaved_among before (h ∷ []) ≡ h ∷ []
  is_new = rw (at_put m.live h unsaved) refl

  gets_number : with_number before h ≡ after
  gets_number =
      rw (at_put m.live h unsaved, with_number) (ap (λ (live : Map Live). record before { session = record m.session { next = n + 1 }; live = live }) (put_twice m.live h unsaved (live_of n new)))

  change_is : ((r : ℕ → ℕ) → entries_by r es ≡ es) → written m.session.schema c es [] ≡ es → at m.session.records n ≡ None → filter_map (λ g. change_of after (at after.live g)) (h ∷ []) ≡ (n, new) ∷ []
  change_is plain whole free =
      rw (at_put m.live h (live_of n new), plain (to_number after), free, whole) refl

  plan_is : named_in m.session.schema c es ≡ [] → ((r : ℕ → ℕ) → entries_by r es ≡ es) → written m.session.schema c es [] ≡ es → at m.session.records n ≡ None
      → store_plan before h 1 ≡ record { numbered = after; changes = (n, new) ∷ [] }
  unfolding store_plan
  plan_is none plain whole free =
      ap (λ t. from_handles (handles_in t)) (reached none)
      ∙ ap (λ us. from_state (fold with_number before us) (h ∷ [])) is_new
      ∙ ap (λ w. from_state w (h ∷ [])) gets_number
      ∙ ap (λ cs. record { numbered = after; changes = by_number cs }) (change_is plain whole free)
    where
      from_state : State → List ℕ → StorePlan
      from_state w hs = record { numbered = w; changes = by_number (filter_map (λ g. change_of w (at w.live g)) hs) }

      from_handles : List ℕ → StorePlan
      from_handles hs = from_state (fold with_number before (unsaved_among before hs)) hs

  and_true : (b : Bool) → (b && true) ≡ b
  and_true true = refl
  and_true false = refl

  same_limit : nat_le (n + 1) 2147483647 ≡ nat_le n 2147483646
  same_limit = grind (arith, nat_tests)

  pub stored_alone : named_in m.session.schema c es ≡ [] → ((r : ℕ → ℕ) → entries_by r es ≡ es) → written m.session.schema c es [] ≡ es → at m.session.records n ≡ None
      → stored before h 1 ≡ record_step m new
  unfolding stored
  stored_alone none plain whole free =
      ap from_plan (plan_is none plain whole free)
      ∙ rw (and_true (nat_le (record_len new) 262144), same_limit, at_put m.live h (live_of n new)) refl
    where
      from_plan : StorePlan → Checked Outcome
      from_plan p =
          unless (are_short p.changes) word.Size >>
          unless (nat_le p.numbered.session.next 2147483647) word.Numbers >>
          Ok (with_records p.numbered p.changes, answer.Stored (to_number p.numbered h) (length p.changes))

-- what is made of values without numbers
pub made_alone : (m : State) (c : ℕ) (fs : FieldValues) → numbers_given fs ≡ []
    → made m c fs ≡ (with_new m (record { class = c; number = None; active = true; entries = written m.session.schema c (with_given m [] fs) [] }), m.next_handle)
unfolding made
made_alone m c fs none =
    ap (λ ns. let w = all_woken m ns in (with_new w (record { class = c; number = None; active = true; entries = written w.session.schema c (with_given w [] fs) [] }), w.next_handle)) none
