-- Lists in ascending order, and what a change makes of one.
use Rattle.std.specs.Prelude.{◌≡◌, Bool, not, List, [], ◌∷◌, filter, if◌then◌else◌}
use Rattle.std.specs.List.{list_any}
use Rattle.std.specs.Ordering.{is_eq}
use Rattle.std.specs.declared.cmp.Ordering.{Ordering}
use Rattle.std.specs.declared.cmp.Ordering.TheVariants.{Less}
use Rattle.oc_model.specs.Lists.{placed}

-- each element has it
abbrev pub Each : {X : Type 0} → (X → Type 0) → List X → Type 0
Each P [] = Unit {0}
Each P (x ∷ xs) = P x × Each P xs

-- each element is so related to all that follow
abbrev pub Pairs : {X : Type 0} → (X → X → Type 0) → List X → Type 0
Pairs R [] = Unit {0}
Pairs R (x ∷ xs) = Each (R x) xs × Pairs R xs

-- each element is below all that follow
abbrev pub IsAscending : {X : Type 0} → (X → X → Ordering) → List X → Type 0
IsAscending cmp = Pairs (λ x y. cmp x y ≡ Less)

-- an element of the list is equal to x in the order
abbrev pub has : {X : Type 0} → (X → X → Ordering) → X → List X → Bool
has cmp x xs = list_any (λ y. is_eq (cmp y x)) xs

-- the list with x at its place, if none is equal to it
abbrev pub entered : {X : Type 0} → (X → X → Ordering) → X → List X → List X
entered cmp x xs = if has cmp x xs then xs else placed cmp x xs

-- the list with x at its place, in place of the one that is equal to it if there is one
abbrev pub replaced : {X : Type 0} → (X → X → Ordering) → X → List X → List X
replaced cmp x xs = placed cmp x (filter (λ e. not (is_eq (cmp e x))) xs)
