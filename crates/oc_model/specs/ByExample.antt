-- The query that a live object asks as an example, and when it is none.
use Rattle.std.specs.Prelude.{ℕ, zero, suc, pos, ◌+◌, ◌*◌, Bool, true, false, not, ◌==◌, nat_lt, List, [], ◌∷◌, map, filter, flat_map, fold, length, sum_by, Option, Some, None, Ok, option_map, unwrap_or}
use Rattle.std.specs.List.{list_all}
use Rattle.std.specs.FinMap.{put}
use Rattle.oc_model.specs.declared.value.Atom.{Atom}
use Rattle.oc_model.specs.declared.value.Atom.TheVariants as atom
use Rattle.oc_model.specs.declared.value.Value.{Value}
use Rattle.oc_model.specs.declared.value.Value.TheVariants as value
use Rattle.oc_model.specs.declared.schema.FieldDef.{FieldDef}
use Rattle.oc_model.specs.declared.query.Op.TheVariants as op
use Rattle.oc_model.specs.declared.query.Expr.{Expr}
use Rattle.oc_model.specs.declared.query.Expr.TheVariants.{And, Test, Inside}
use Rattle.oc_model.specs.declared.reach.Node.{Node}
use Rattle.oc_model.specs.declared.reach.Node.TheVariants as node
use Rattle.oc_model.specs.declared.answer.Word.TheVariants as word
use Rattle.oc_model.specs.Maps.{Text, at}
use Rattle.oc_model.specs.Refusals.{Checked, ◌>>◌, unless}
use Rattle.oc_model.specs.Schemas.{fields_of}
use Rattle.oc_model.specs.Stores.{value_in}
use Rattle.oc_model.specs.States.{State, Live}
use Rattle.oc_model.specs.Nodes.{is_awake, memory_next, named_in}
use Rattle.oc_model.specs.Walks.{Table, node_cmp, budget, best}
use Rattle.oc_model.specs.StateWalks.{show_walk}

-- ---- what an object's values ask

-- false, 0, the empty text and null ask nothing
abbrev pub asks : Atom → Bool
asks (atom.Bool b) = b
asks (atom.Int (pos zero)) = false
asks (atom.Int n) = true
asks (atom.Text None) = false
asks (atom.Text (Some [])) = false
asks (atom.Text (Some (c ∷ t))) = true
asks (atom.Ref n) = not (n == 0)

-- the single values of a field
abbrev pub atoms_of : Value → List Atom
atoms_of (value.One a) = a ∷ []
atoms_of (value.Many None) = []
atoms_of (value.Many (Some items)) = items

-- those of them that ask something
abbrev pub asking : Live → FieldDef → List Atom
asking o f = filter asks (atoms_of (value_in o.entries f.id f.kind))

-- ---- the query

-- the class of a live object, 0 where there is none
abbrev pub class_in : State → ℕ → ℕ
class_in m h = unwrap_or (option_map (λ o. o.class) (at m.live h)) 0

-- What a value asks of the field of this name: to be equal, or to name an object of the class that meets the example of the object that it names.
abbrev pub asked : State → (ℕ → Expr) → Text → Atom → Expr
asked m example name (atom.Ref h) = Inside (name ∷ []) (class_in m h) (example h)
asked m example name a = Test (name ∷ []) op.Equal a

-- all that the values of an object ask, field by field; nothing where there is no object
abbrev pub asked_by : State → (ℕ → Expr) → Option Live → List Expr
asked_by m example None = []
asked_by m example (Some o) = flat_map (λ f. map (asked m example f.name) (asking o f)) (fields_of m.session.schema o.class)

-- All that the values of the object ask, field by field. The number bounds the references on a path.
abbrev pub example_within : ℕ → State → ℕ → Expr
example_within zero m h = And []
example_within (suc fuel) m h = And (asked_by m (example_within fuel m) (at m.live h))

-- ---- paths of references

-- one more path to a node, or as many as are said
abbrev pub with_paths : Table → Node × ℕ → Table
with_paths t e = put node_cmp e.0 (budget t e.0 + e.1) t

-- how many paths lead to each node with one reference more
abbrev pub onward : State → Table → Table
onward m t = fold with_paths [] (flat_map (λ e. map (λ y. (y, e.1)) (memory_next m e.0)) t)

-- how many paths of so many references lead from a live object to each node
abbrev pub paths : State → ℕ → ℕ → Table
paths m h zero = (node.Live h, 1) ∷ []
paths m h (suc k) = onward m (paths m h k)

-- how many values of the object ask something
abbrev pub asking_count : State → Option Live → ℕ
asking_count m None = 0
asking_count m (Some o) = sum_by (λ f. length (asking o f)) (fields_of m.session.schema o.class)

-- how many values of a node's object ask something; none of an object that isn't live
abbrev pub node_count : State → Node → ℕ
node_count m (node.Live h) = asking_count m (at m.live h)
node_count m (node.Number n) = 0

-- what the objects of a table ask, each as often as paths lead to it
abbrev pub count_at : State → Table → ℕ
count_at m t = sum_by (λ e. e.1 * node_count m e.0) t

-- the same for this table and so many further ones, each with one reference more
abbrev pub count_within : State → ℕ → Table → ℕ
count_within m zero t = 0
count_within m (suc k) t = count_at m t + count_within m k (onward m t)

-- ---- refusals

-- not a live object without its values
abbrev pub is_awake_at : Option Live → Bool
is_awake_at None = true
is_awake_at (Some o) = is_awake o

-- not a live object without its values
abbrev pub is_awake_node : State → Node → Bool
is_awake_node m (node.Live h) = is_awake_at (at m.live h)
is_awake_node m (node.Number n) = true

-- the nodes that references in memory lead to, the first one among them
abbrev pub reachable : State → Node → Table
reachable m x = best (show_walk m) x 1

-- the table has no node
abbrev pub is_empty : Table → Bool
is_empty [] = true
is_empty (e ∷ t) = false

-- A path with as many references as there are live objects comes to one of them twice.
abbrev pub leads_to_cycle : State → ℕ → Bool
leads_to_cycle m h = not (is_empty (paths m h (length m.live)))

-- The query of a live object's example. It is refused where something reachable is inactive, where a cycle is reachable, where a path has more than 64 references, and where more than 65,536 values ask something, those of a shared object counted on each path.
unfoldable pub example : State → ℕ → Checked Expr
unfolding named_in fields_of best show_walk
example m h =
    unless (list_all (λ e. is_awake_node m e.0) (reachable m (node.Live h))) word.Stub >>
    unless (not (leads_to_cycle m h)) word.Cycle >>
    unless (is_empty (paths m h 65)) word.Deep >>
    unless (not (nat_lt 65536 (count_within m 65 (paths m h 0)))) word.Size >>
    Ok (example_within 65 m h)
