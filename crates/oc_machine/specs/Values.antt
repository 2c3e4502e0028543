-- The values that a line gives to fields: what has to be there, and what they come to.
use Rattle.std.specs.Prelude.{ℕ, not, List, [], ◌∷◌, map, flat_map, fold, Some, None, Ok, is_some, unwrap_or}
use Rattle.std.specs.List.{list_any}
use Rattle.oc_model.specs.declared.value.Base.{Base}
use Rattle.oc_model.specs.declared.value.Base.TheVariants as base
use Rattle.oc_model.specs.declared.value.Kind.{Kind}
use Rattle.oc_model.specs.declared.value.Kind.TheVariants as kind
use Rattle.oc_model.specs.declared.value.Atom.{Atom}
use Rattle.oc_model.specs.declared.value.Atom.TheVariants as atom
use Rattle.oc_model.specs.declared.value.Value.{Value}
use Rattle.oc_model.specs.declared.value.Value.TheVariants as value
use Rattle.oc_model.specs.declared.value.Entry.{Entry}
use Rattle.oc_model.specs.declared.schema.FieldDef.{FieldDef}
use Rattle.oc_model.specs.declared.command.Single.{Single}
use Rattle.oc_model.specs.declared.command.Single.TheVariants as single
use Rattle.oc_model.specs.declared.command.ValueText.{ValueText}
use Rattle.oc_model.specs.declared.command.ValueText.TheVariants as valued
use Rattle.oc_model.specs.declared.command.Given.{Given}
use Rattle.oc_model.specs.declared.answer.Word.TheVariants as word
use Rattle.oc_model.specs.Maps.{Text, same}
use Rattle.oc_model.specs.Refusals.{Checked, ◌>>=◌, ◌>>◌, unless, or_refuse}
use Rattle.oc_model.specs.Values.{fits}
use Rattle.oc_model.specs.Schemas.{field_named}
use Rattle.oc_model.specs.Stores.{base_of, entered, entry_for}
use Rattle.oc_model.specs.States.{State}
use Rattle.oc_model.specs.Nodes.{is_stored}
use Rattle.oc_machine.specs.Memory.{bound, to_handle}

-- ---- what has to be there

-- a name has to be bound, a number has to be in the session
abbrev pub single_found : State → Single → Checked (Unit {0})
single_found m (single.Name name) = unless (is_some (bound m.names name)) word.Name
single_found m (single.Num n) = unless (is_stored m.session n) word.Live
single_found m s = Ok tt

-- refused where one of the values names nothing
abbrev pub singles_found : State → List Single → Checked (Unit {0})
singles_found m [] = Ok tt
singles_found m (s ∷ ss) = single_found m s >> singles_found m ss

-- from the left to the right
abbrev pub value_found : State → ValueText → Checked (Unit {0})
value_found m (valued.One s) = single_found m s
value_found m (valued.Many ss) = singles_found m ss

-- ---- the value

-- the null of a base kind: a text where the kind is text, else a reference
abbrev pub null_atom : Base → Atom
null_atom base.Text = atom.Text None
null_atom b = atom.Ref 0

-- the null of a kind
abbrev pub null_of : Kind → Value
null_of (kind.One b) = value.One (null_atom b)
null_of (kind.Many b) = value.Many None

-- a single value as it is written, with handles for objects
abbrev pub atom_of : State → Base → Single → Atom
atom_of m b single.Null = null_atom b
atom_of m b (single.Bool x) = atom.Bool x
atom_of m b (single.Int n) = atom.Int n
atom_of m b (single.Text t) = atom.Text (Some t)
atom_of m b (single.Name name) = atom.Ref (unwrap_or (bound m.names name) 0)
atom_of m b (single.Num n) = atom.Ref (to_handle m n)

-- the value that is written for a field of this kind
abbrev pub value_of : State → Kind → ValueText → Value
value_of m k (valued.One single.Null) = null_of k
value_of m k (valued.One s) = value.One (atom_of m (base_of k) s)
value_of m k (valued.Many ss) = value.Many (Some (map (atom_of m (base_of k)) ss))

-- ---- the check

-- the fields with the values that they are given
abbrev pub FieldValues : Type 0
FieldValues = List (FieldDef × ValueText)

-- Field by field: the class hasn't the field, the field is given twice, something isn't there, the value doesn't fit.
unfoldable pub checked : State → ℕ → List Text → List Given → Checked FieldValues
unfolding field_named
checked m c seen [] = Ok []
checked m c seen (g ∷ gs) =
    or_refuse (field_named m.session.schema c g.name) word.Field >>= λ f.
    unless (not (list_any (same g.name) seen)) word.Exists >>
    value_found m g.value >>
    unless (fits f.kind (value_of m f.kind g.value)) word.Kind >>
    checked m c (g.name ∷ seen) gs >>= λ more.
    Ok ((f, g.value) ∷ more)

-- ---- entries

-- the number that a value names
abbrev pub numbers_in_single : Single → List ℕ
numbers_in_single (single.Num n) = n ∷ []
numbers_in_single s = []

-- the objects that a value names by number
abbrev pub numbers_in_value : ValueText → List ℕ
numbers_in_value (valued.One s) = numbers_in_single s
numbers_in_value (valued.Many ss) = flat_map numbers_in_single ss

-- the numbers that given values name
abbrev pub numbers_given : FieldValues → List ℕ
numbers_given fs = flat_map (λ p. numbers_in_value p.1) fs

-- these entries, with the given values in place of what was there
abbrev pub with_given : State → List Entry → FieldValues → List Entry
with_given m es fs = fold (λ (es : List Entry) p. entered (entry_for p.0 (value_of m p.0.kind p.1)) es) es fs
