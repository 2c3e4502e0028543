-- The entries of lists: their order, and the bytes that they take.
use Rattle.std.specs.Prelude.{ℕ, ◌+◌, length, None, Some}
use Rattle.std.specs.Ordering.{nat_cmp, on, then_cmp}
use Rattle.std.specs.declared.cmp.Ordering.{Ordering}
use Rattle.oc_model.specs.declared.value.Atom.{Atom}
use Rattle.oc_model.specs.declared.value.Atom.TheVariants as atom
use Rattle.oc_model.specs.Orders.{compare}
use Rattle.oc_index.specs.declared.items.ExtentItem.{ExtentItem}
use Rattle.oc_index.specs.declared.items.IndexItem.{IndexItem}

-- by the object's number
abbrev pub extent_cmp : ExtentItem → ExtentItem → Ordering
extent_cmp = on (λ e. e.number) nat_cmp

-- by the value, and equal values by the object's number
abbrev pub index_cmp : IndexItem → IndexItem → Ordering
index_cmp = then_cmp (on (λ e. e.key) compare) (on (λ e. e.number) nat_cmp)

-- the bytes of the value in a segment, at most: a number takes as many as its kind is wide, and no kind is wider than 16 bytes
abbrev pub key_bytes : Atom → ℕ
key_bytes (atom.Bool b) = 1
key_bytes (atom.Int n) = 16
key_bytes (atom.Text None) = 1
key_bytes (atom.Text (Some t)) = 5 + length t
key_bytes (atom.Ref n) = 4

-- those of an entry of a field's list, at most
abbrev pub index_bytes : IndexItem → ℕ
index_bytes e = key_bytes e.key + 4
