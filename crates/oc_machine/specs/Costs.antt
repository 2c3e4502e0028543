-- What a line may cost: the bytes that it reads.
use Rattle.std.specs.Prelude.{ℕ, ◌*◌, Bool, List, [], ◌∷◌, ◌++◌, filter, flat_map, fold, sum_by, option_map, unwrap_or, Ok, Err}
use Rattle.oc_model.specs.declared.value.Kind.{Kind}
use Rattle.oc_model.specs.declared.query.Expr.{Expr, Row_of-Expr, end_of-Expr, more_of-Expr, Not', And', Or', Inside', All, Test, Null, Is}
use Rattle.oc_model.specs.declared.reach.Node.TheVariants as node
use Rattle.oc_model.specs.declared.command.Given.{Given}
use Rattle.oc_model.specs.declared.command.Command.{Command}
use Rattle.oc_model.specs.declared.command.Command.TheVariants.{Convert, Index, Make, PeekName, PeekNumber, Store as StoreLine, Delete, Activate, Deactivate, Refresh, Query, Example, Commit, Rollback}
use Rattle.oc_model.specs.declared.answer.Word.TheVariants as word
use Rattle.oc_model.specs.Maps.{Map, Text, at, with_at, keys}
use Rattle.oc_model.specs.References.{refs_in_atom}
use Rattle.oc_model.specs.Schemas.{class_named, fields_of, field_named, is_sub}
use Rattle.oc_model.specs.SchemaSteps.{conversion_of}
use Rattle.oc_model.specs.Stores.{Store, record_len}
use Rattle.oc_model.specs.Lengths.{catalog_len}
use Rattle.oc_model.specs.Queries.{named, value_named, values, is_of}
use Rattle.oc_model.specs.Candidates.{has_field, candidates}
use Rattle.oc_model.specs.States.{State}
use Rattle.oc_model.specs.Walks.{best}
use Rattle.oc_model.specs.StateWalks.{activate_walk, deactivate_walk, refresh_walk, store_walk, delete_walk}
use Rattle.oc_machine.specs.Outcomes.{Checked, ◌>>=◌, or_refuse}
use Rattle.oc_machine.specs.Memory.{live_named, numbers_in}
use Rattle.oc_machine.specs.Values.{checked}
use Rattle.oc_machine.specs.ObjectLines.{made}
use Rattle.oc_machine.specs.WalkLines.{store_depth, any, is_inactive, side_of, peeked_numbers}
use Rattle.oc_machine.specs.QueryLines.{Asked, asked_by_query, asked_by_example}
use Rattle.oc_model.specs.Opened.{expr_rows}

-- ---- the records of a query

-- The objects from which a step of a path starts at an object: itself, and for each further name what the names before it lead to.
unfoldable pub starts : Store → List Text → ℕ → List ℕ
unfolding field_named
starts s [] n = []
starts s (name ∷ []) n = n ∷ []
starts s (name ∷ next ∷ path) n = n ∷ flat_map (starts s (next ∷ path)) (named (value_named s name (at s.records n)))

-- the objects of the class, or of one below it, among those that values name
abbrev pub inner_objects : Store → ℕ → List Text → ℕ → List ℕ
inner_objects s c path n = filter (is_of s c) (flat_map refs_in_atom (values s path n))

-- The objects from which a step starts when every test of an expression is tried at an object. What is behind a `Boxed` or in `Items` is a row, of one part or of many.
unfoldable mutual
  unfolding starts values is_sub expr_rows

  pub tried : Store → Expr → ℕ → List ℕ
  tried s All n = []
  tried s (Not' p e) n = all_tried s e n
  tried s (And' p es) n = all_tried s es n
  tried s (Or' p es) n = all_tried s es n
  tried s (Test path o literal) n = starts s path n
  tried s (Null path) n = starts s path n
  tried s (Is path m) n = starts s path n
  tried s (Inside' path c p e) n = starts s path n ++ flat_map (all_tried s e) (inner_objects s c path n)

  pub all_tried : Store → {k : _} → Row_of-Expr k → ℕ → List ℕ
  all_tried s end_of-Expr n = []
  all_tried s (more_of-Expr e es) n = tried s e n ++ all_tried s es n

-- what is looked at for one candidate: itself, where the tests start, and where the keys of the criteria start
abbrev pub looked_at : Store → Asked → ℕ → List ℕ
looked_at s q n = n ∷ tried s q.expr n ++ flat_map (λ c. starts s c.path n) q.criteria

-- the records that a query reads, for all of its candidates
unfoldable pub query_numbers : Store → Asked → List ℕ
unfolding starts tried candidates
query_numbers s q = flat_map (looked_at s q) (candidates s q.class q.expr)

-- ---- the records of a line

-- nothing, where a line is refused
abbrev pub or_nothing : {A : Type 0} → Checked (List A) → List A
or_nothing (Ok ns) = ns
or_nothing (Err w) = []

-- the numbers of the objects whose class passes a test
abbrev pub numbers_of_class : (ℕ → Bool) → Store → List ℕ
numbers_of_class test s = keys (filter (λ e. test (e.1).class) s.records)

-- the objects whose class has the field
abbrev pub index_numbers : State → Text → Text → Checked (List ℕ)
index_numbers m class field =
    or_refuse (class_named m.session.schema class) word.Class >>= λ c.
    or_refuse (field_named m.session.schema c field) word.Field >>= λ f.
    Ok (numbers_of_class (has_field m.session.schema f) m.session)

-- the objects of the class and of those below it
abbrev pub convert_numbers : State → Text → Text → Kind → Checked (List ℕ)
convert_numbers m class field from =
    conversion_of m.session.schema class field from >>= λ v. Ok (numbers_of_class (λ c. is_sub m.session.schema c v.class) m.session)

-- the reached objects with a number
abbrev pub store_numbers : State → ℕ → ℕ → List ℕ
store_numbers m h depth = numbers_in any m (best (store_walk m) (node.Live h) depth)

-- the numbers whose records the line `make` writes, or its refusal
abbrev pub make_numbers : State → Text → List Given → Checked (List ℕ)
make_numbers m class gs =
    or_refuse (class_named m.session.schema class) word.Class >>= λ c.
    checked m c [] gs >>= λ fs.
    (let r = made m c fs in Ok (store_numbers r.0 r.1 (store_depth r.0 c)))

-- The numbers of the session's records that a line reads.
unfoldable pub session_numbers : State → Command → Checked (List ℕ)
unfolding field_named fields_of conversion_of is_sub best store_walk delete_walk activate_walk deactivate_walk refresh_walk checked made asked_by_query asked_by_example query_numbers
session_numbers m (Index class field) = index_numbers m class field
session_numbers m (Convert class field from) = convert_numbers m class field from
session_numbers m (Make class gs) = make_numbers m class gs
session_numbers m (StoreLine name depth) = live_named m name >>= λ o. Ok (store_numbers m o.0 (unwrap_or depth (store_depth m (o.1).class)))
session_numbers m (Delete name) = live_named m name >>= λ o. Ok (numbers_in any m (best (delete_walk m) (node.Live o.0) 1))
session_numbers m (Activate name depth) =
    live_named m name >>= λ o. Ok (numbers_in is_inactive m (best (activate_walk m) (node.Live o.0) (unwrap_or depth m.settings.activation)))
session_numbers m (Deactivate name depth) = live_named m name >>= λ o. Ok (numbers_in is_inactive m (best (deactivate_walk m) (node.Live o.0) depth))
session_numbers m (Refresh name depth) = live_named m name >>= λ o. Ok (numbers_in any m (best (refresh_walk m) (node.Live o.0) depth))
session_numbers m (Query class filter criteria) = asked_by_query m class filter criteria >>= λ q. Ok (query_numbers m.session q)
session_numbers m (Example name) = asked_by_example m name >>= λ q. Ok (query_numbers m.session q)
session_numbers m c = Ok []

-- ---- the cost

-- each number once, ascending
abbrev pub each_once : List ℕ → List ℕ
each_once ns = keys (fold (λ (all : Map (Unit {0})) n. with_at all n tt) [] ns)

-- the bytes of an object's record
abbrev pub len_of : Store → ℕ → ℕ
len_of s n = unwrap_or (option_map record_len (at s.records n)) 0

-- the bytes of the records of these numbers, each counted once
abbrev pub lens_of : Store → List ℕ → ℕ
lens_of s ns = sum_by (len_of s) (each_once ns)

-- twice the length of each record that is looked at
abbrev pub peek_cost : State → Store → ℕ → ℕ → ℕ
peek_cost m s n depth = 2 * lens_of s (peeked_numbers s n depth)

-- A line reads at most twice the records that it is about, and one that ends a transaction, as the closing does, the lists of the committed store.
unfoldable pub cost : State → Command → ℕ
unfolding session_numbers peeked_numbers catalog_len
cost m (PeekNumber n depth side) = peek_cost m (side_of m side) n depth
cost m (PeekName name depth side) = 2 * lens_of (side_of m side) (or_nothing (live_named m name >>= λ o. or_refuse (o.1).number word.Live >>= λ n. Ok (peeked_numbers (side_of m side) n depth)))
cost m Commit = catalog_len m.committed
cost m Rollback = catalog_len m.committed
cost m c = 2 * lens_of m.session (or_nothing (session_numbers m c))
