-- Texts with a separator between each two, from the first text on.
use Rattle.std.proofs.Common.{◌≡◌, List, [], ◌∷◌, ◌++◌, map, sym, append_assoc}
use Rattle.std.specs.List.{flat_map}
use Rattle.std.proofs.lemmas.List.{append-nil}
use Rattle.oc_model.specs.Maps.{Text}
use Rattle.oc_machine.specs.Printing.{joined}

-- behind the first text, each text stands behind a separator
joined_map : {X : Type 0} (sep : Text) (f : X → Text) (x : X) (xs : List X) → joined sep (map f (x ∷ xs)) ≡ f x ++ flat_map (λ y. sep ++ f y) xs
joined_map sep f x [] = sym (append-nil (f x))
joined_map sep f x (y ∷ ys) = rw (joined_map sep f y ys) (simp append_assoc)

-- the first text, and then the others, make all of them
pub first_and_others : {X : Type 0} (sep : Text) (f : X → Text) (before between after : Text) (all : List X) (x : X) (xs : List X) → all ≡ x ∷ xs → between ≡ before ++ f x → after ≡ between ++ flat_map (λ y. sep ++ f y) xs → after ≡ before ++ joined sep (map f all)
first_and_others sep f before between after all x xs split first others = rw (others, first, split, joined_map sep f x xs) (append_assoc before (f x) _)
