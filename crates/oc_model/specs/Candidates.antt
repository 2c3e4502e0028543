-- Candidates: which parts of a query an index answers, and the objects that the query then has to look at.
use Rattle.std.specs.Prelude.{ℕ, Bool, true, false, not, ◌&&◌, ◌==◌, nat_le, List, [], ◌∷◌, ◌++◌, map, filter, filter_map, length, Option, Some, None, option_map, if◌then◌else◌}
use Rattle.std.specs.Option.{option_and_then}
use Rattle.std.specs.List.{list_any}
use Rattle.oc_model.specs.declared.value.Atom.{Atom}
use Rattle.oc_model.specs.declared.value.Atom.TheVariants as atom
use Rattle.oc_model.specs.declared.value.Value.{Value}
use Rattle.oc_model.specs.declared.value.Value.TheVariants as value
use Rattle.oc_model.specs.declared.schema.FieldDef.{FieldDef}
use Rattle.oc_model.specs.declared.query.Op.{Op}
use Rattle.oc_model.specs.declared.query.Op.TheVariants as op
use Rattle.oc_model.specs.declared.query.Expr.{Expr, Row_of-Expr, end_of-Expr, more_of-Expr, And', Test, Is}
use Rattle.oc_model.specs.Maps.{keys, Text, is_in}
use Rattle.oc_model.specs.Orders.{is_null}
use Rattle.oc_model.specs.Kinds.{is_array}
use Rattle.oc_model.specs.Schemas.{Schema, fields_of, field_named, is_sub}
use Rattle.oc_model.specs.Stores.{Store, value_in}
use Rattle.oc_model.specs.Queries.{passes, ref_meets, is_of}
use Rattle.oc_model.specs.Opened.{expr_rows}

-- ---- what an index holds

-- the single value; an array is in no index
abbrev pub single : Value → Atom
single (value.One a) = a
single (value.Many items) = atom.Text None

-- an object of this class has the field
abbrev pub has_field : Schema → FieldDef → ℕ → Bool
has_field s f c = list_any (λ g. g.id == f.id) (fields_of s c)

-- The index of a field: for each object whose class has the field the value as it is stored, and the object's number.
unfoldable pub index_of : Store → FieldDef → List (Atom × ℕ)
unfolding fields_of
index_of s f = map (λ e. (single (value_in (e.1).entries f.id f.kind), e.0)) (filter (λ e. has_field s.schema f (e.1).class) s.records)

-- ---- what an index answers

-- a field with an index, and what is asked of its value
pub record Lookup : Type 0 where
  pub field : FieldDef
  pub holds : Atom → Bool

-- The parts of the expression that stand under `and` alone. What is behind a `Boxed` or in `Items` is a row, of one part or of many.
unfoldable mutual
  unfolding expr_rows

  pub conjuncts : Expr → List Expr
  conjuncts (And' p es) = all_conjuncts es
  conjuncts e = e ∷ []

  pub all_conjuncts : {k : _} → Row_of-Expr k → List Expr
  all_conjuncts end_of-Expr = []
  all_conjuncts (more_of-Expr e es) = conjuncts e ++ all_conjuncts es

-- equal to something that isn't null, or smaller or greater
abbrev pub is_looked_up : Op → Atom → Bool
is_looked_up op.Equal literal = not (is_null literal)
is_looked_up op.Less literal = true
is_looked_up op.AtMost literal = true
is_looked_up op.Greater literal = true
is_looked_up op.AtLeast literal = true
is_looked_up o literal = false

-- the field, if it has an index and holds single values
abbrev pub with_index : FieldDef → Option FieldDef
with_index f = if f.indexed && not (is_array f.kind) then Some f else None

-- the field of this name that the objects of the class have, if an index answers for it
abbrev pub indexed_field : Schema → ℕ → Text → Option FieldDef
indexed_field s c name = option_and_then with_index (field_named s c name)

-- what an index is asked for a part of a query over the class, if one answers it
abbrev pub lookup : Schema → ℕ → Expr → Option Lookup
lookup s c (Test (name ∷ []) o literal) =
    if is_looked_up o literal then option_map (λ f. record { field = f; holds = passes o literal }) (indexed_field s c name) else None
lookup s c (Is (name ∷ []) m) = option_map (λ f. record { field = f; holds = ref_meets (λ n. n == m) }) (indexed_field s c name)
lookup s c e = None

-- the numbers that the index gives
abbrev pub hits : Store → Lookup → List ℕ
hits s l = map (λ e. e.1) (filter (λ e. l.holds e.0) (index_of s l.field))

-- the list, or perhaps another that is shorter
abbrev pub shorter : List ℕ → Option (List ℕ) → List ℕ
shorter ns None = ns
shorter ns (Some ms) = if nat_le (length ns) (length ms) then ns else ms

-- the shortest of the lists, and the first of those, if there are any
abbrev pub shortest : List (List ℕ) → Option (List ℕ)
shortest [] = None
shortest (ns ∷ lists) = Some (shorter ns (shortest lists))

-- the fewest numbers that an index gives for a part of the query, if one answers a part
unfoldable pub looked_up : Store → ℕ → Expr → Option (List ℕ)
unfolding field_named index_of conjuncts
looked_up s c e = shortest (map (hits s) (filter_map (lookup s.schema c) (conjuncts e)))

-- ---- what the query looks at

-- the number is among those that were looked up, where any were
abbrev pub is_left : Option (List ℕ) → ℕ → Bool
is_left None n = true
is_left (Some ns) n = is_in ns n

-- The objects of the class that an index leaves, all of them where none answers a part of the query.
unfoldable pub candidates : Store → ℕ → Expr → List ℕ
unfolding looked_up is_sub
candidates s c e = filter (λ n. is_of s c n && is_left (looked_up s c e) n) (keys s.records)
