-- The entries of segments, and their bytes.
use Rattle.std.specs.Prelude.{ℕ, Bool, false, ◌&&◌, List, [], Option, None, Some}
use Rattle.oc_model.specs.declared.value.Base.{Base}
use Rattle.oc_model.specs.Spelling.{extent_bytes, index_bytes, is_extent, is_indexed}
use Rattle.oc_marshal.specs.Records.{is_text}
use Rattle.oc_index.specs.declared.items.ExtentItem.{ExtentItem}
use Rattle.oc_index.specs.declared.items.IndexItem.{IndexItem}

-- ---- entries of the list of all objects, which have no base kind

-- the entry can be spelled
abbrev pub extent_fits : Option Base → ExtentItem → Bool
extent_fits None e = is_extent (e.number, e.class)
extent_fits (Some b) e = false

-- the bytes of the entry
abbrev pub extent_spelling : Option Base → ExtentItem → List ℕ
extent_spelling b e = extent_bytes e.number e.class

-- ---- entries of a field's list, where the base kind is the field's

-- the entry can be spelled
abbrev pub index_fits : Option Base → IndexItem → Bool
index_fits None e = false
index_fits (Some b) e = is_indexed b (e.key, e.number)

-- the entry can be spelled, and a text is UTF-8
abbrev pub index_stands : Option Base → IndexItem → Bool
index_stands b e = index_fits b e && is_text e.key

-- the bytes of the entry
abbrev pub index_spelling : Option Base → IndexItem → List ℕ
index_spelling None e = []
index_spelling (Some b) e = index_bytes b e.key e.number
