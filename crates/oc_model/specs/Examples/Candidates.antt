-- What queries look at, over a small store with indexes.
use Rattle.std.specs.Prelude.{◌≡◌, refl, ℕ, true, pos, List, [], ◌∷◌, codes}
use Rattle.oc_model.specs.declared.value.Base.TheVariants as base
use Rattle.oc_model.specs.declared.value.Kind.{Kind}
use Rattle.oc_model.specs.declared.value.Kind.TheVariants as kind
use Rattle.oc_model.specs.declared.value.Atom.{Atom}
use Rattle.oc_model.specs.declared.value.Atom.TheVariants as atom
use Rattle.oc_model.specs.declared.value.Rec.{Rec}
use Rattle.oc_model.specs.declared.schema.FieldDef.{FieldDef}
use Rattle.oc_model.specs.declared.query.Op.TheVariants as op
use Rattle.oc_model.specs.declared.query.Expr.{Expr}
use Rattle.oc_model.specs.declared.query.Expr.TheVariants.{All, Not, And, Or, Test, Null, Is}
use Rattle.oc_model.specs.Maps.{Text}
use Rattle.oc_model.specs.Stores.{Store}
use Rattle.oc_model.specs.Candidates.{index_of, candidates}
use Rattle.oc_model.specs.Examples.Building.{field, class, object, store, whole, ref}

-- ---- a store: a and r have an index, b and the array have none

-- a field with an index
abbrev indexed : ℕ → Text → Kind → FieldDef
indexed id name k = record (field id name k) { indexed = true }

-- the fields of the class
abbrev own : List FieldDef
own = indexed 1 (codes "a") (kind.One base.I32) ∷ field 2 (codes "b") (kind.One base.I32) ∷ indexed 3 (codes "r") (kind.One base.Ref) ∷ []

-- the further field of the class below
abbrev more : List FieldDef
more = field 4 (codes "c") (kind.One base.I32) ∷ []

-- of the first class, with a, b and what r refers to
abbrev item : ℕ → ℕ → ℕ → Rec
item a b r = object 1 own (whole (pos a) ∷ whole (pos b) ∷ ref r ∷ [])

-- of the class below it
abbrev below : ℕ → Rec
below a = object 2 own (whole (pos a) ∷ [])

-- Objects 1 to 4 are of the first class, and 5 is of the class below it; r of object 4 refers to nothing that is there.
abbrev pub items : Store
items = store (class 0 (codes "T") own ∷ class 1 (codes "U") more ∷ []) (item 1 7 0 ∷ item 2 7 1 ∷ item 2 8 1 ∷ item 3 8 99 ∷ below 2 ∷ [])

-- a whole number
abbrev number : ℕ → Atom
number n = atom.Int (pos n)

-- the indexed field has this number
abbrev is_a : ℕ → Expr
is_a n = Test (codes "a" ∷ []) op.Equal (number n)

-- the field without an index has this number
abbrev is_b : ℕ → Expr
is_b n = Test (codes "b" ∷ []) op.Equal (number n)

-- ---- an index has an entry for each object of the class and below it, with the default where there is none in the record

entries : index_of items (indexed 3 (codes "r") (kind.One base.Ref)) ≡ (atom.Ref 0, 1) ∷ (atom.Ref 1, 2) ∷ (atom.Ref 1, 3) ∷ (atom.Ref 99, 4) ∷ (atom.Ref 0, 5) ∷ []
unfolding index_of
entries = refl

-- ---- what a query looks at

by_index : candidates items 1 (is_a 2) ≡ 2 ∷ 3 ∷ 5 ∷ []
unfolding candidates
by_index = refl

-- only the class below
by_class : candidates items 2 (is_a 2) ≡ 5 ∷ []
unfolding candidates
by_class = refl

-- Without an index, or with one that isn't asked, these are all objects of the class.
no_index : candidates items 1 (is_b 7) ≡ 1 ∷ 2 ∷ 3 ∷ 4 ∷ 5 ∷ []
unfolding candidates
no_index = refl

all_objects : candidates items 1 All ≡ 1 ∷ 2 ∷ 3 ∷ 4 ∷ 5 ∷ []
unfolding candidates
all_objects = refl

under_not : candidates items 1 (Not (is_a 2)) ≡ 1 ∷ 2 ∷ 3 ∷ 4 ∷ 5 ∷ []
unfolding candidates
under_not = refl

under_or : candidates items 1 (Or (is_a 2 ∷ is_a 1 ∷ [])) ≡ 1 ∷ 2 ∷ 3 ∷ 4 ∷ 5 ∷ []
unfolding candidates
under_or = refl

with_null : candidates items 1 (Null (codes "r" ∷ [])) ≡ 1 ∷ 2 ∷ 3 ∷ 4 ∷ 5 ∷ []
unfolding candidates
with_null = refl

longer_path : candidates items 1 (Test (codes "r" ∷ codes "a" ∷ []) op.Equal (number 1)) ≡ 1 ∷ 2 ∷ 3 ∷ 4 ∷ 5 ∷ []
unfolding candidates
longer_path = refl

-- Under `and`, however deep, the part with the fewest entries is taken.
under_and : candidates items 1 (And (is_b 7 ∷ And (Test (codes "a" ∷ []) op.AtMost (number 2) ∷ is_a 1 ∷ []) ∷ [])) ≡ 1 ∷ []
unfolding candidates
under_and = refl

-- at a tie the first
tie : candidates items 1 (And (Is (codes "r" ∷ []) 99 ∷ is_a 1 ∷ [])) ≡ 4 ∷ []
unfolding candidates
tie = refl

other_tie : candidates items 1 (And (is_a 1 ∷ Is (codes "r" ∷ []) 99 ∷ [])) ≡ 1 ∷ []
unfolding candidates
other_tie = refl

-- A reference counts as it is stored, also where it refers to nothing; null is looked up by none.
to_nothing : candidates items 1 (Is (codes "r" ∷ []) 99) ≡ 4 ∷ []
unfolding candidates
to_nothing = refl

to_null : candidates items 1 (Is (codes "r" ∷ []) 0) ≡ []
unfolding candidates
to_null = refl
