-- The classes of objects, as the extents have them.
use Rattle.std.proofs.Common.{◌≡◌, ◌∙◌, ap, sym, refl, ℕ, Bool, true, false, cond, List, [], ◌∷◌, map, Option, Some, option_map, nat_cmp}
use Rattle.std.specs.Prelude.{find}
use Rattle.std.specs.Ordering.{is_eq, ordering_reverse}
use Rattle.std.specs.declared.cmp.Ordering.{Ordering}
use Rattle.std.specs.declared.cmp.Ordering.TheVariants.{Less, Equal, Greater}
use Rattle.std.specs.Cmp.{nat_cmp_total}
use Rattle.oc_model.specs.declared.value.Rec.{Rec}
use Rattle.oc_model.specs.Maps.{Map, at}
use Rattle.oc_model.specs.Stores.{Store, class_of}
use Rattle.oc_index.specs.declared.items.ExtentItem.{ExtentItem}
use Rattle.oc_index.specs.Ranges.{is_numbered}
use Rattle.oc_lists.specs.Lists.{class_in}
use Rattle.oc_lists.specs.Lists.{extents_of}

reversed : (r : Ordering) → is_eq (ordering_reverse r) ≡ is_eq r
reversed Less = refl
reversed Equal = refl
reversed Greater = refl

swapped : (a b : ℕ) → is_eq (nat_cmp a b) ≡ is_eq (nat_cmp b a)
swapped a b = ap is_eq (nat_cmp_total.antisymm a b) ∙ reversed (nat_cmp b a)

abbrev item : ℕ × Rec → ExtentItem
item e = record { number = e.0; class = (e.1).class }

listed_class : (n : ℕ) (records : Map Rec) → class_in (map item records) n ≡ option_map (λ (r : Rec). r.class) (at records n)
listed_class n [] = refl
listed_class n (e ∷ es) =
    (elim (is_eq (nat_cmp n e.0)) as (λ b. is_numbered n (item e) ≡ b → class_in (map item (e ∷ es)) n ≡ option_map (λ (r : Rec). r.class) (cond b (Some e.1) (at es n))) [
      | true ↦ λ q. ap (λ t. option_map (λ (i : ExtentItem). i.class) (cond t (Some (item e)) (find (is_numbered n) (map item es)))) q
      | false ↦ λ q. ap (λ t. option_map (λ (i : ExtentItem). i.class) (cond t (Some (item e)) (find (is_numbered n) (map item es)))) q ∙ listed_class n es
    ]) (swapped e.0 n)

-- the class of an object of a store whose extents these are
pub class_is : (s : Store) (extents : List ExtentItem) (n : ℕ) → extents ≡ extents_of s → class_in extents n ≡ class_of s n
class_is s extents n e = ap (λ es. class_in es n) e ∙ listed_class n s.records
