-- Which entries of a field's list are asked for.
use Rattle.std.specs.Prelude.{ℕ, Bool, true, not, ◌&&◌, List, map, if◌then◌else◌}
use Rattle.std.specs.Ordering.{is_lt, is_eq, is_gt, nat_cmp}
use Rattle.std.specs.declared.cmp.Ordering.{Ordering}
use Rattle.std.specs.declared.cmp.Ordering.TheVariants.{Less, Greater}
use Rattle.oc_model.specs.declared.value.Atom.{Atom}
use Rattle.oc_model.specs.Lists.{sorted}
use Rattle.oc_model.specs.Orders.{compare}
use Rattle.oc_index.specs.declared.items.ExtentItem.{ExtentItem}
use Rattle.oc_index.specs.declared.items.IndexItem.{IndexItem}
use Rattle.oc_index.specs.declared.ranges.End.{End}
use Rattle.oc_index.specs.declared.ranges.End.TheVariants.{Free, At, Past}
use Rattle.oc_index.specs.declared.ranges.Edge.{Edge}
use Rattle.oc_index.specs.declared.ranges.Edge.TheVariants.{Front, Before, Behind, Back}
use Rattle.oc_index.specs.Items.{index_cmp}

-- the object has this number
abbrev pub is_numbered : ℕ → ExtentItem → Bool
is_numbered n e = is_eq (nat_cmp e.number n)

-- the entry of this value and this number
abbrev pub is_entry : Atom → ℕ → IndexItem → Bool
is_entry key n e = is_eq (index_cmp e (record { key = key; number = n }))

-- the value is this one, or null as this one
abbrev pub has_key : Atom → IndexItem → Bool
has_key key e = is_eq (compare e.key key)

-- the value is no less than the low end, or greater where the end is left out
abbrev pub is_from : End → Atom → Bool
is_from Free key = true
is_from (At a) key = not (is_lt (compare key a))
is_from (Past a) key = is_gt (compare key a)

-- the value is no greater than the high end, or less where the end is left out
abbrev pub is_upto : End → Atom → Bool
is_upto Free key = true
is_upto (At a) key = not (is_gt (compare key a))
is_upto (Past a) key = is_lt (compare key a)

-- the value lies between the ends
abbrev pub is_in_range : End → End → IndexItem → Bool
is_in_range low high e = is_from low e.key && is_upto high e.key

-- the objects of the entries, by number
abbrev pub numbers_of : List IndexItem → List ℕ
numbers_of es = sorted nat_cmp (map (λ e. e.number) es)

-- on which side of an edge the entry lies
abbrev pub edge_side : Edge → IndexItem → Ordering
edge_side Front e = Greater
edge_side (Before a) e = if is_lt (compare e.key a.now) then Less else Greater
edge_side (Behind a) e = if is_gt (compare e.key a.now) then Greater else Less
edge_side Back e = Less
