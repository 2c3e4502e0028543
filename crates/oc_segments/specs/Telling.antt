-- The bytes of an entry tell it.
use Rattle.std.specs.Prelude.{IsTrue, Option, None, Some}
use Rattle.std.proofs.lemmas.Bool.{and_parts}
use Rattle.oc_model.specs.declared.value.Base.{Base}
use Rattle.oc_model.specs.Spelling.{Tells}
use Rattle.oc_model.proofs.Told.{extent_told, indexed_told}
use Rattle.oc_marshal.specs.Records.{is_text}
use Rattle.oc_index.specs.declared.items.IndexItem.{IndexItem}
use Rattle.oc_segments.specs.Items.{extent_fits, extent_spelling, index_fits, index_spelling, index_stands}

-- of the list of all objects
pub extents_tell : (b : Option Base) → Tells (λ e. IsTrue (extent_fits b e)) (extent_spelling b)
extents_tell None x y rest more p q e =
    let r = extent_told (x.number, x.class) (y.number, y.class) rest more p q e in
    (λ i. record { number = (r.0 i).0; class = (r.0 i).1 }, r.1)
extents_tell (Some b) x y rest more p q e = cc

-- of a field's list
pub indexes_tell : (b : Option Base) → Tells (λ e. IsTrue (index_stands b e)) (index_spelling b)
indexes_tell None x y rest more p q e = cc
indexes_tell (Some b) x y rest more p q e =
    let r = indexed_told b (x.key, x.number) (y.key, y.number) rest more (and_parts (index_fits (Some b) x) (is_text x.key) p).0 (and_parts (index_fits (Some b) y) (is_text y.key) q).0 e in
    (λ i. record { key = (r.0 i).0; number = (r.0 i).1 }, r.1)

-- what stands in a field's list can be spelled
pub index_writable : (b : Option Base) (e : IndexItem) → IsTrue (index_stands b e) → IsTrue (index_fits b e)
index_writable b e h = (and_parts (index_fits b e) (is_text e.key) h).0
