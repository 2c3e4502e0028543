-- Queries: the values of a path, which objects meet an expression, and the answer in its order.
use Rattle.std.specs.Prelude.{ℕ, Bool, true, false, not, ◌&&◌, ◌||◌, ◌==◌, List, [], ◌∷◌, map, flat_map, filter, Option, Some, None, is_some, option_map, unwrap_or, if◌then◌else◌}
use Rattle.std.specs.List.{list_any, starts_with, ends_with}
use Rattle.std.specs.Str.{str_to_ascii_lowercase}
use Rattle.std.specs.Ordering.{nat_cmp, on, then_cmp, flip_args, is_lt, is_le, is_gt, is_ge, is_eq}
use Rattle.std.specs.declared.cmp.Ordering.{Ordering}
use Rattle.oc_model.specs.declared.value.Atom.{Atom}
use Rattle.oc_model.specs.declared.value.Atom.TheVariants as atom
use Rattle.oc_model.specs.declared.value.Value.{Value}
use Rattle.oc_model.specs.declared.value.Value.TheVariants as value
use Rattle.oc_model.specs.declared.value.Rec.{Rec}
use Rattle.oc_model.specs.declared.query.Op.{Op}
use Rattle.oc_model.specs.declared.query.Op.TheVariants as op
use Rattle.oc_model.specs.declared.query.Expr.{Expr, Row_of-Expr, end_of-Expr, more_of-Expr, Not', And', Or', Inside', All, Test, Null, Is}
use Rattle.oc_model.specs.declared.query.Criterion.{Criterion}
use Rattle.oc_model.specs.Maps.{at, keys, Text}
use Rattle.oc_model.specs.Lists.{sorted}
use Rattle.oc_model.specs.Orders.{compare, rank, is_null}
use Rattle.oc_model.specs.References.{refs_in}
use Rattle.oc_model.specs.Schemas.{field_named, is_sub}
use Rattle.oc_model.specs.Stores.{Store, class_of, value_in}
use Rattle.oc_model.specs.Opened.{expr_rows}

-- ---- the values of a path

-- the value that a record has in the current field of this name, if its class has one
abbrev pub value_named : Store → Text → Option Rec → Option Value
value_named s name None = None
value_named s name (Some r) = option_map (λ f. value_in r.entries f.id f.kind) (field_named s.schema r.class name)

-- a single value alone, the elements of an array, one null for a null array
abbrev pub last_values : Option Value → List Atom
last_values None = []
last_values (Some (value.One a)) = a ∷ []
last_values (Some (value.Many None)) = atom.Text None ∷ []
last_values (Some (value.Many (Some items))) = items

-- what a value names
abbrev pub named : Option Value → List ℕ
named None = []
named (Some v) = refs_in v

-- the value, but null in place of a reference to what the store hasn't
abbrev pub as_read : Store → Atom → Atom
as_read s (atom.Ref n) = if is_some (at s.records n) then atom.Ref n else atom.Ref 0
as_read s a = a

-- The values of a path at an object. Each step but the last goes on from every object that the field's value names, in order.
unfoldable pub values : Store → List Text → ℕ → List Atom
unfolding field_named
values s [] n = []
values s (name ∷ []) n = map (as_read s) (last_values (value_named s name (at s.records n)))
values s (name ∷ next ∷ path) n = flat_map (values s (next ∷ path)) (named (value_named s name (at s.records n)))

-- ---- one value and a literal

-- a truth value, a number or a text, and no null
abbrev pub is_ordered : Atom → Bool
is_ordered (atom.Bool b) = true
is_ordered (atom.Int n) = true
is_ordered (atom.Text (Some t)) = true
is_ordered _ = false

-- both are truth values, or both numbers, or both texts
abbrev pub are_comparable : Atom → Atom → Bool
are_comparable a b = is_ordered a && is_ordered b && rank a == rank b

-- the text begins with the part
abbrev pub begins_with : Text → Text → Bool
begins_with part text = starts_with (λ a b. a == b) text part

-- the text ends with the part
abbrev pub closes_with : Text → Text → Bool
closes_with part text = ends_with (λ a b. a == b) text part

-- the text, and what is left of it without its first bytes
abbrev pub endings : Text → List Text
endings [] = [] ∷ []
endings (c ∷ t) = (c ∷ t) ∷ endings t

-- the part begins at some place of the text
abbrev pub has_part : Text → Text → Bool
has_part part text = list_any (begins_with part) (endings text)

-- what a text is asked about a part
abbrev pub text_test : Op → Text → Text → Bool
text_test op.Like part text = has_part (str_to_ascii_lowercase part) (str_to_ascii_lowercase text)
text_test op.Contains part text = has_part part text
text_test op.Starts part text = begins_with part text
text_test op.Ends part text = closes_with part text
text_test _ part text = false

-- both are texts, and the value passes the test with the literal
abbrev pub on_texts : Op → Atom → Atom → Bool
on_texts o (atom.Text (Some part)) (atom.Text (Some text)) = text_test o part text
on_texts o _ _ = false

-- The value passes the test with the literal. Null is equal to null, and else meets no test.
abbrev pub passes : Op → Atom → Atom → Bool
passes op.Equal literal a = is_eq (compare a literal)
passes op.Less literal a = are_comparable a literal && is_lt (compare a literal)
passes op.AtMost literal a = are_comparable a literal && is_le (compare a literal)
passes op.Greater literal a = are_comparable a literal && is_gt (compare a literal)
passes op.AtLeast literal a = are_comparable a literal && is_ge (compare a literal)
passes o literal a = on_texts o literal a

-- a reference to an object that passes the test
abbrev pub ref_meets : (ℕ → Bool) → Atom → Bool
ref_meets p (atom.Ref n) = not (n == 0) && p n
ref_meets p _ = false

-- ---- which objects meet an expression

-- the object is of the class or of one below it
abbrev pub is_of : Store → ℕ → ℕ → Bool
is_of s c n = unwrap_or (option_map (λ d. is_sub s.schema d c) (class_of s n)) false

-- The object meets the expression. What is behind a `Boxed` or in `Items` is a row, of one part or of many.
unfoldable mutual
  unfolding values is_sub expr_rows

  pub meets : Store → Expr → ℕ → Bool
  meets s All n = true
  meets s (Not' p e) n = not (all_meet s e n)
  meets s (And' p es) n = all_meet s es n
  meets s (Or' p es) n = some_meets s es n
  meets s (Test path o literal) n = list_any (passes o literal) (values s path n)
  meets s (Null path) n = list_any is_null (values s path n)
  meets s (Is path m) n = list_any (ref_meets (λ k. k == m)) (values s path n)
  meets s (Inside' path c p e) n = list_any (ref_meets (λ m. is_of s c m && all_meet s e m)) (values s path n)

  -- it meets every part of the row
  pub all_meet : Store → {k : _} → Row_of-Expr k → ℕ → Bool
  all_meet s end_of-Expr n = true
  all_meet s (more_of-Expr e es) n = meets s e n && all_meet s es n

  -- it meets some part of the row
  pub some_meets : Store → {k : _} → Row_of-Expr k → ℕ → Bool
  some_meets s end_of-Expr n = false
  some_meets s (more_of-Expr e es) n = meets s e n || some_meets s es n

-- ---- the order of an answer

-- the first of the values; null, if there are none
abbrev pub first_or_null : List Atom → Atom
first_or_null [] = atom.Text None
first_or_null (a ∷ more) = a

-- what a criterion orders an object by
abbrev pub key_at : Store → Criterion → ℕ → Atom
key_at s c n = first_or_null (values s c.path n)

-- an order, or its reverse
abbrev pub turned : {K : Type 0} → Bool → (K → K → Ordering) → K → K → Ordering
turned true R = R
turned false R = flip_args R

-- by the first criterion, then by the next ones, and in the end by number
abbrev pub criteria_cmp : Store → List Criterion → ℕ → ℕ → Ordering
criteria_cmp s [] = nat_cmp
criteria_cmp s (c ∷ cs) = then_cmp (turned c.ascending (on (key_at s c) compare)) (criteria_cmp s cs)

-- the numbers of the objects of a class, or of one below it, that meet the expression
abbrev pub found : Store → ℕ → Expr → List ℕ
found s c e = filter (λ n. is_of s c n && meets s e n) (keys s.records)

-- those in the order of the criteria
unfoldable pub answer : Store → ℕ → Expr → List Criterion → List ℕ
unfolding values is_sub meets
answer s c e criteria = sorted (criteria_cmp s criteria) (found s c e)
