-- The bytes of the catalog and the lists of small stores.
use Rattle.std.specs.Prelude.{◌≡◌, refl, ◌+◌, ◌*◌, true, [], ◌∷◌, codes}
use Rattle.oc_model.specs.declared.value.Base.TheVariants as base
use Rattle.oc_model.specs.declared.value.Kind.TheVariants as kind
use Rattle.oc_model.specs.Stores.{Store}
use Rattle.oc_model.specs.Lengths.{catalog_len, entry_count}
use Rattle.oc_model.specs.Examples.Building.{field, class, object, store, text, no_text}
use Rattle.oc_model.specs.Examples.Candidates.{items}

-- nothing but the catalog and an empty list
empty : catalog_len (store [] []) ≡ 23
unfolding catalog_len
empty = refl

-- Two classes take 32 and 16 bytes. There are three lists of five entries, each of 8 bytes.
three_lists : catalog_len items ≡ 15 + 32 + 16 + 3 * (8 + 5 * (8 + 6))
unfolding catalog_len
three_lists = refl

entries : entry_count items ≡ 15
unfolding entry_count
entries = refl

-- an index of texts, one of two bytes and one null
abbrev texts : Store
texts = let own = record (field 1 (codes "v") (kind.One base.Text)) { indexed = true } ∷ [] in store (class 0 (codes "K") own ∷ []) (object 1 own (text (codes "ab") ∷ []) ∷ object 1 own (no_text ∷ []) ∷ [])

of_texts : catalog_len texts ≡ 15 + 16 + (8 + 2 * (8 + 6)) + (8 + (7 + 4 + 6) + (1 + 4 + 6))
unfolding catalog_len
of_texts = refl
