-- A container meets the step of a line, where its store and its memory do.
use Rattle.std.proofs.Common.{◌≡◌, inr, ℕ, ◌+◌, Bool, true, false, List, Option, Some, None, Result, Ok, Err, IfSome, IfOk, IfErr, OnErr, is_some, is_none, refl, sym, ap, ◌∙◌, subst, if◌then◌else◌}
use Rattle.oc_host.specs.Disk.{Disk}
use Rattle.oc_model.specs.declared.value.Rec.{Rec}
use Rattle.oc_model.specs.declared.answer.Answer.{Answer}
use Rattle.oc_model.specs.declared.answer.Answer.TheVariants as answer
use Rattle.oc_model.specs.declared.answer.Word.{Word}
use Rattle.oc_model.specs.declared.answer.Word.TheVariants as word
use Rattle.oc_model.specs.declared.command.Decl.{Decl}
use Rattle.oc_model.specs.Maps.{at, Text}
use Rattle.oc_model.specs.Nodes.{is_stored}
use Rattle.oc_model.specs.Schemas.{Schema, class_named}
use Rattle.oc_model.specs.SchemaEquality.{differs}
use Rattle.oc_model.specs.SchemaSteps.{declared}
use Rattle.oc_model.specs.States.{State}
use Rattle.oc_model.specs.Stores.{Store, class_of}
use Rattle.oc_machine.specs.Memory.{with_all, detached}
use Rattle.oc_machine.specs.Outcomes.{Checked, Outcome, settled, done, ◌>>=◌}
use Rattle.oc_machine.specs.SchemaLines.{class_step, set_schema, with_class_changed}
use Rattle.oc_machine.specs.CommitLines.{commit_step, rollback_step, rolled_back, forgotten, is_lost, settings_in}
use Rattle.oc_live.specs.Kept.{with_kept}
use Rattle.oc_live.specs.Memories.{Memory, cleared, memory_of}
use Rattle.oc_store.specs.Filed.{FiledStore, Shows}
use Rattle.oc_store.specs.Reindexing.{with_schema}
use Rattle.oc_layout.specs.declared.cells.Space.{Space}
use Rattle.oc_container.specs.declared.fault.Fault.{Fault}
use Rattle.oc_container.specs.declared.fault.Fault.TheVariants as fault
use Rattle.oc_container.specs.Built.{class_outcome, refusal}
use Rattle.oc_container.specs.Contained.{Contained, Holds, IsSpent, Meets}

-- ---- commit

pub commit_meets : (v : Contained) (s t : FiledStore) (k l : Memory) (d e : Disk) (m : State) (n : ℕ) → v ≡ record { store = s; memory = k } → Holds v d m
    → (Shows s d m.committed m.session → Shows t e m.session m.session) → l ≡ record k { commits = k.commits + 1 } → n ≡ l.commits
    → Meets (record { store = t; memory = l }) e (answer.Committed n) (commit_step m)
unfolding commit_step
commit_meets v s t k l d e m n view h shows counted told =
    let was : k ≡ memory_of m = ap (λ (c : Contained). c.memory) (sym view) ∙ h.memory in
    let now : l ≡ record (memory_of m) { commits = m.commits + 1 } = counted ∙ ap (λ (x : Memory). record x { commits = x.commits + 1 }) was in
    record {
      state = record { stores = shows (subst (λ (c : Contained). Shows c.store d m.committed m.session) view h.stores); memory = now };
      answer = ap answer.Committed (told ∙ ap (λ (x : Memory). x.commits) now);
    }

-- ---- rollback

rolled_committed : (m : State) → ((rollback_step m).0).committed ≡ m.committed
unfolding rollback_step
rolled_committed m = elim (differs m.session.schema m.committed.schema) as (λ b. (rolled_back (if b then forgotten m else with_all (λ h o. is_lost m.committed o) detached m)).committed ≡ m.committed) [ true ↦ refl | false ↦ refl ]

rolled_session : (m : State) → ((rollback_step m).0).session ≡ m.committed
unfolding rollback_step
rolled_session m = elim (differs m.session.schema m.committed.schema) as (λ b. (rolled_back (if b then forgotten m else with_all (λ h o. is_lost m.committed o) detached m)).session ≡ m.committed) [ true ↦ refl | false ↦ refl ]

rolled_answer : (m : State) → (rollback_step m).1 ≡ answer.RolledBack
unfolding rollback_step
rolled_answer m = refl

pub rollback_meets : (v : Contained) (s t : FiledStore) (k l : Memory) (d : Disk) (m : State) → v ≡ record { store = s; memory = k } → Holds v d m
    → (Shows s d m.committed m.session → Shows t d m.committed m.committed)
    → (Shows s d m.committed m.session → l ≡ (if differs m.session.schema m.committed.schema then record (cleared k) { settings = settings_in m.committed.schema k.settings } else with_kept (is_stored m.committed) k))
    → memory_of ((rollback_step m).0) ≡ (if differs m.session.schema m.committed.schema then record (cleared (memory_of m)) { settings = settings_in m.committed.schema m.settings } else with_kept (is_stored m.committed) (memory_of m))
    → Meets (record { store = t; memory = l }) d answer.RolledBack (rollback_step m)
rollback_meets v s t k l d m view h shows lost law =
    let was : k ≡ memory_of m = ap (λ (c : Contained). c.memory) (sym view) ∙ h.memory in
    let shown : Shows s d m.committed m.session = subst (λ (c : Contained). Shows c.store d m.committed m.session) view h.stores in
    record {
      state = record {
        stores = subst (λ (x : Store). Shows t d x ((rollback_step m).0).session) (sym (rolled_committed m)) (subst (λ (x : Store). Shows t d m.committed x) (sym (rolled_session m)) (shows shown));
        memory = lost shown ∙ ap (λ (x : Memory). if differs m.session.schema m.committed.schema then record (cleared x) { settings = settings_in m.committed.schema x.settings } else with_kept (is_stored m.committed) x) was ∙ sym law;
      };
      answer = sym (rolled_answer m);
    }

-- whether the schemas of the sides differ is whether those of the stores do
pub schemas_differ : (v : FiledStore) (d : Disk) (c s : Store) (x y : Schema) (b : Bool) → Shows v d c s → x ≡ (v.session).schema → y ≡ (v.committed).schema → b ≡ differs x y → differs s.schema c.schema ≡ b
schemas_differ v d c s x y b shows now past is = sym (is ∙ ap (λ z. differs z y) (now ∙ ((shows.session).heading).schema) ∙ ap (λ z. differs s.schema z) (past ∙ ((shows.committed).heading).schema))

-- an object is there where it has a class
pub stored_with_class : (s : Store) (n : ℕ) → is_some (class_of s n) ≡ is_stored s n
stored_with_class s n = elim (at s.records n) as (λ (o : Option Rec). is_some (class_within o) ≡ is_some o) [ None ↦ refl | Some r ↦ refl ]
  where
    class_within : Option Rec → Option ℕ
    class_within None = None
    class_within (Some r) = Some r.class

-- ---- class

pub class_declared : (m : State) (name : Text) (parent : Option Text) (ds : List Decl) (s : Schema) → class_named m.session.schema name ≡ None → Ok s ≡ declared m.session.schema name parent ds
    → class_outcome m name parent ds ≡ (set_schema m s, answer.Done)
unfolding class_step
class_declared m name parent ds s free is =
    ap (λ o. if is_none o then settled m (declared m.session.schema name parent ds >>= λ t. done (with_class_changed m o t)) else (m, answer.Refused word.Syntax)) free
    ∙ ap (λ r. settled m (r >>= λ t. done (set_schema m t))) (sym is)

pub class_refused : (m : State) (name : Text) (parent : Option Text) (ds : List Decl) (w : Word) → class_named m.session.schema name ≡ None → Err w ≡ declared m.session.schema name parent ds
    → class_outcome m name parent ds ≡ (m, answer.Refused w)
unfolding class_step
class_refused m name parent ds w free is =
    ap (λ o. if is_none o then settled m (declared m.session.schema name parent ds >>= λ t. done (with_class_changed m o t)) else (m, answer.Refused word.Syntax)) free
    ∙ ap (λ r. settled m (r >>= λ t. done (set_schema m t))) (sym is)

taken_outcome : (m : State) (name : Text) (parent : Option Text) (ds : List Decl) (o : Option ℕ) → is_some o ≡ true
    → (if is_none o then settled m (class_step m name parent ds) else (m, answer.Refused word.Syntax)) ≡ (m, answer.Refused word.Syntax)
taken_outcome m name parent ds None h = cc
taken_outcome m name parent ds (Some n) h = refl

pub class_taken : (m : State) (name : Text) (parent : Option Text) (ds : List Decl) → is_some (class_named m.session.schema name) ≡ true → class_outcome m name parent ds ≡ (m, answer.Refused word.Syntax)
class_taken m name parent ds h = taken_outcome m name parent ds (class_named m.session.schema name) h

-- what was refused, with its word
pub refused_for : (o : Option (Checked Schema)) (r : Checked Schema) (a : Answer) → IfSome o (λ told. told ≡ r) → refusal o ≡ Some a → (w : Word) × (Err w ≡ r) × (a ≡ answer.Refused w)
refused_for None r a is told = cc
refused_for (Some (Ok s)) r a is told = cc
refused_for (Some (Err w)) r a is told = (w, is, cc)

pub schema_meets : (v : Contained) (s t : FiledStore) (k : Memory) (d e : Disk) (m : State) (schema : Schema) → v ≡ record { store = s; memory = k } → Holds v d m
    → (Shows s d m.committed m.session → Shows t e m.committed (with_schema schema m.session))
    → Meets (record { store = t; memory = k }) e answer.Done (set_schema m schema, answer.Done)
schema_meets v s t k d e m schema view h shows =
    record {
      state = record {
        stores = shows (subst (λ (c : Contained). Shows c.store d m.committed m.session) view h.stores);
        memory = ap (λ (c : Contained). c.memory) (sym view) ∙ h.memory;
      };
      answer = refl;
    }

pub schema_spent : (v : Contained) (s t : FiledStore) (k : Memory) (d e : Disk) (m : State) → v ≡ record { store = s; memory = k } → Holds v d m
    → (Shows s d m.committed m.session → Shows t e m.committed m.committed) → IsSpent (record { store = t; memory = k }) e m
schema_spent v s t k d e m view h shows = inr (shows (subst (λ (c : Contained). Shows c.store d m.committed m.session) view h.stores))

-- an outcome that is the same is met too
pub meets_same : (v : Contained) (d : Disk) (a : Answer) (o p : Outcome) → p ≡ o → Meets v d a o → Meets v d a p
meets_same v d a o p e meets = subst (λ (q : Outcome). Meets v d a q) (sym e) meets

-- where nothing changed, a refusal is met
pub refusal_met : (v : Contained) (d : Disk) (a : Answer) (m : State) (w : Word) (o : Outcome) → Holds v d m → a ≡ answer.Refused w → o ≡ (m, answer.Refused w) → Meets v d a o
refusal_met v d a m w o h told e = subst (λ (q : Outcome). Meets v d a q) (sym e) (record { state = h; answer = told })

-- what holds anyway holds after an error
pub on_error : {T E : Type 0} (r : Result T E) (P : Type 0) → P → OnErr r P
on_error (Ok x) P p = tt
on_error (Err e) P p = p

-- ---- the exits of a declaration

-- whether the name is a class's, as the calls tell it
pub named_told : (s : Schema) (given name : Text) (found : Option ℕ) (b : Bool) → given ≡ name → found ≡ class_named s given → b ≡ is_some found → is_some (class_named s name) ≡ b
named_told s given name found b same is told = sym (told ∙ ap is_some (is ∙ ap (class_named s) same))

pub none_there : (o : Option ℕ) → is_some o ≡ false → o ≡ None
none_there None h = refl
none_there (Some n) h = cc

pub taken_step : (v : Contained) (d : Disk) (name : Text) (parent : Option Text) (ds : List Decl) (s : Schema) (m : State) → s ≡ ((v.store).session).schema → is_some (class_named s name) ≡ true
    → Holds v d m → Meets v d (answer.Refused word.Syntax) (class_outcome m name parent ds)
taken_step v d name parent ds s m is taken h =
    let same : s ≡ m.session.schema = is ∙ (((h.stores).session).heading).schema in
    refusal_met v d (answer.Refused word.Syntax) m word.Syntax (class_outcome m name parent ds) h refl (class_taken m name parent ds (ap (λ (x : Schema). is_some (class_named x name)) (sym same) ∙ taken))

pub refused_steps : (r : Result Answer Fault) (o : Option (Checked Schema)) (v : Contained) (d : Disk) (T : Type 0) (name : Text) (parent : Option Text) (ds : List Decl) (s : Schema)
    → s ≡ ((v.store).session).schema → class_named s name ≡ None → IfSome o (λ told. told ≡ declared s name parent ds) → IfOk r (λ a. refusal o ≡ Some a)
    → IfOk r (λ a. T → (m : State) → Holds v d m → Meets v d a (class_outcome m name parent ds))
refused_steps (Err e) o v d T name parent ds s is free why told = tt
refused_steps (Ok a) o v d T name parent ds s is free why told = λ t m h.
    let same : s ≡ m.session.schema = is ∙ (((h.stores).session).heading).schema in
    let f = refused_for o (declared s name parent ds) a why told in
    refusal_met v d a m f.0 (class_outcome m name parent ds) h f.2
    (class_refused m name parent ds f.0 (ap (λ (x : Schema). class_named x name) (sym same) ∙ free) (f.1 ∙ ap (λ (x : Schema). declared x name parent ds) same))

pub declared_steps : (r : Result Answer Fault) (v w : Contained) (d e : Disk) (T : Type 0) (name : Text) (parent : Option Text) (ds : List Decl) (s t : Schema)
    → s ≡ ((v.store).session).schema → class_named s name ≡ None → Ok t ≡ declared s name parent ds
    → IfOk r (λ a. T → (m : State) → Holds v d m → Meets w e a (set_schema m t, answer.Done))
    → IfOk r (λ a. T → (m : State) → Holds v d m → Meets w e a (class_outcome m name parent ds))
declared_steps (Err x) v w d e T name parent ds s t is free was meets = tt
declared_steps (Ok a) v w d e T name parent ds s t is free was meets = λ tells m h.
    let same : s ≡ m.session.schema = is ∙ (((h.stores).session).heading).schema in
    meets_same w e a (set_schema m t, answer.Done) (class_outcome m name parent ds)
    (class_declared m name parent ds t (ap (λ (x : Schema). class_named x name) (sym same) ∙ free) (was ∙ ap (λ (x : Schema). declared x name parent ds) same)) (meets tells m h)

-- want of memory is no other fault
pub only_memory : (r : Result Answer Fault) (f : Fault) → IfErr r (λ x. x ≡ fault.Memory) → r ≡ Err f → f ≡ fault.Memory
only_memory (Ok a) f m e = cc
only_memory (Err x) f m e = let same : x ≡ f = cc in sym same ∙ m

pub no_damage : (r : Result Answer Fault) (space : Space) (n : ℕ) → IfErr r (λ x. x ≡ fault.Memory) → r ≡ Err (fault.Damaged space n) → ⊥
no_damage r space n m e = let clash : fault.Damaged space n ≡ fault.Memory = only_memory r (fault.Damaged space n) m e in cc

pub no_host : (r : Result Answer Fault) → IfErr r (λ x. x ≡ fault.Memory) → r ≡ Err fault.Host → ⊥
no_host r m e = let clash : fault.Host ≡ fault.Memory = only_memory r fault.Host m e in cc
