-- An edge parts the entries of an index.
use Rattle.std.proofs.Common.{◌≡◌, ◌⊎◌, ◌∙◌, ap, sym, refl, inl, inr, Bool, true, false, cond}
use Rattle.std.specs.Ordering.{is_lt, is_gt, nat_cmp, ordering_then, ordering_reverse}
use Rattle.std.specs.declared.cmp.Ordering.{Ordering}
use Rattle.std.specs.declared.cmp.Ordering.TheVariants.{Less, Equal, Greater}
use Rattle.std.proofs.lemmas.Bool.{false≢true}
use Rattle.std.proofs.lemmas.Cmp.{upto}
use Rattle.oc_model.specs.declared.value.Atom.{Atom}
use Rattle.oc_model.specs.Orders.{compare}
use Rattle.oc_model.proofs.Orders.{compare_total}
use Rattle.oc_index.specs.declared.items.IndexItem.{IndexItem}
use Rattle.oc_index.specs.declared.ranges.Edge.{Edge}
use Rattle.oc_index.specs.declared.ranges.Edge.TheVariants.{Front, Before, Behind, Back}
use Rattle.oc_index.specs.Items.{index_cmp}
use Rattle.oc_index.specs.Ranges.{edge_side}

then_less : (r s : Ordering) → ordering_then r s ≡ Less → is_gt r ≡ false
then_less Less s is = refl
then_less Equal s is = refl
then_less Greater s is = absurd (false≢true (sym (ap is_gt is)))

-- the values of entries in order
keys_upto : (x y : IndexItem) → index_cmp x y ≡ Less → is_gt (compare x.key y.key) ≡ false
keys_upto x y below = then_less (compare x.key y.key) (nat_cmp x.number y.number) below

reverse_gt : (r : Ordering) → is_lt r ≡ false → is_gt (ordering_reverse r) ≡ false
reverse_gt Less off = absurd (false≢true (sym off))
reverse_gt Equal off = refl
reverse_gt Greater off = refl

reverse_lt : (r : Ordering) → is_gt r ≡ false → is_lt (ordering_reverse r) ≡ false
reverse_lt Less off = refl
reverse_lt Equal off = refl
reverse_lt Greater off = absurd (false≢true (sym off))

before_parts : (a : Atom) (x y : IndexItem) → index_cmp x y ≡ Less → (b : Bool) → is_lt (compare x.key a) ≡ b → (cond (is_lt (compare x.key a)) Less Greater ≡ Less) ⊎ (cond (is_lt (compare y.key a)) Less Greater ≡ Greater)
before_parts a x y below true is = inl (ap (λ b. cond b Less Greater) is)
before_parts a x y below false is =
    let from : is_gt (compare a x.key) ≡ false = ap is_gt (compare_total.antisymm a x.key) ∙ reverse_gt (compare x.key a) is in
    let still : is_gt (compare a y.key) ≡ false = upto compare_total a x.key y.key from (keys_upto x y below) in
    inr (ap (λ b. cond b Less Greater) (ap is_lt (compare_total.antisymm y.key a) ∙ reverse_lt (compare a y.key) still))

behind_parts : (a : Atom) (x y : IndexItem) → index_cmp x y ≡ Less → (b : Bool) → is_gt (compare y.key a) ≡ b → (cond (is_gt (compare x.key a)) Greater Less ≡ Less) ⊎ (cond (is_gt (compare y.key a)) Greater Less ≡ Greater)
behind_parts a x y below true is = inr (ap (λ b. cond b Greater Less) is)
behind_parts a x y below false is = inl (ap (λ b. cond b Greater Less) (upto compare_total x.key y.key a (keys_upto x y below) is))

pub edge_parts : (s : Edge) (x y : IndexItem) → index_cmp x y ≡ Less → (edge_side s x ≡ Less) ⊎ (edge_side s y ≡ Greater)
edge_parts Front x y below = inr refl
edge_parts (Before a) x y below = before_parts a.now x y below (is_lt (compare x.key a.now)) refl
edge_parts (Behind a) x y below = behind_parts a.now x y below (is_gt (compare y.key a.now)) refl
edge_parts Back x y below = inl refl
