use Rattle.std.specs.Prelude.{◌≡◌, refl, List, [], ◌∷◌, Some, None}
use Rattle.oc_model.specs.Space.{Part, best_fit, shortage}

parts : List Part
parts = record { address = 10; blocks = 5 } ∷ record { address = 30; blocks = 3 } ∷ record { address = 50; blocks = 3 } ∷ []

-- the least part that holds it, and the first of two that are alike
fits_best : best_fit parts 2 ≡ Some (record { address = 30; blocks = 3 })
unfolding best_fit parts
fits_best = refl

fits_alone : best_fit parts 4 ≡ Some (record { address = 10; blocks = 5 })
unfolding best_fit parts
fits_alone = refl

fits_none : best_fit parts 6 ≡ None
unfolding best_fit parts
fits_none = refl

-- 3 blocks fill the part at 30, 2 begin that at 50, 3 begin that at 10, 2 fill what is left of it, and 1 fills what is left at 50.
all_placed : shortage parts 60 60 (3 ∷ 2 ∷ 3 ∷ 2 ∷ 1 ∷ []) ≡ None
unfolding shortage best_fit parts
all_placed = refl

-- What no part holds is appended, up to the limit.
first_too_large : shortage parts 60 65 (5 ∷ 4 ∷ 2 ∷ 1 ∷ []) ≡ None
unfolding shortage best_fit parts
first_too_large = refl

short : shortage parts 60 65 (6 ∷ 1 ∷ []) ≡ Some (record { need = 6; length = 60 })
unfolding shortage best_fit parts
short = refl

short_later : shortage parts 60 65 (4 ∷ 4 ∷ 2 ∷ []) ≡ None
unfolding shortage best_fit parts
short_later = refl
