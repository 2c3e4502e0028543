-- What a change leaves just as it was: the entries of a list, its chunks, their numbers and their marks.
use Rattle.std.specs.Prelude.{◌≡◌, ℕ, ◌==◌, not, ◌||◌, Bool, IsTrue, List, Option}
use Rattle.std.specs.List.{list_all, zip}
use Rattle.oc_model.specs.declared.value.Rec.{Rec}
use Rattle.oc_model.specs.declared.schema.FieldDef.{FieldDef}
use Rattle.oc_model.specs.Schemas.{Schema}
use Rattle.oc_index.specs.declared.items.ExtentItem.{ExtentItem}
use Rattle.oc_index.specs.Indexed.{StoreLists}
use Rattle.oc_lists.specs.declared.record.RecChange.{RecChange}
use Rattle.oc_lists.specs.Lists.{class_in}
use Rattle.oc_lists.specs.Moving.{AreFields}
use Rattle.oc_lists.specs.Refiling.{class_for, class_of_rec, indexed_for, is_kept, key_under}

-- ---- the extents

-- the object has the class of this record among these objects, or isn't among them where there is no record
abbrev pub IsListed : List ExtentItem → ℕ → Option Rec → Type 0
IsListed es n rec = class_in es n ≡ class_of_rec rec

-- ---- the indexes

-- each index whose id passes is the one that it was
abbrev pub Stay : (ℕ → Bool) → StoreLists → StoreLists → Type 0
Stay passes old new = AreFields (λ id i j. IsTrue (passes id) → j ≡ i) old.fields new.fields

-- the field has another id, or the two records have one value under it
abbrev pub is_off : ℕ → Option Rec → Option Rec → FieldDef → Bool
is_off id old new f = not (f.id == id) || is_kept (key_under f old) (key_under f new)

-- the object's class has no indexed field of this id, or the two records have one value under it
abbrev pub keeps_key : Schema → ℕ → Option Rec → Option Rec → Bool
keeps_key s id old new = list_all (is_off id old new) (indexed_for s (class_for old new))

-- so it is for each of these changes, which these records went before
abbrev pub keep_key : Schema → List (Option Rec) → List RecChange → ℕ → Bool
keep_key s olds changes id = list_all (λ e. keeps_key s id e.0 e.1.rec) (zip olds changes)
