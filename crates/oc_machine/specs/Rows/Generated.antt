-- The generated script of one object of each class.
use Rattle.std.specs.Prelude.{◌≡◌, refl, codes}
use Rattle.oc_machine.specs.Generated.{lines_of_one}
use Rattle.oc_model.specs.Opened.{decimals}

one : lines_of_one 1 ≡ codes "make Pilot { name: \"P1\", points: 37 }\nmake Car { model: \"M1\", pilot: ~1 }\nmake Reading { car: ~2, value: 1, at: 1 }\n"
unfolding decimals
one = refl

hundred : lines_of_one 100 ≡ codes "make Pilot { name: \"P100\", points: 64 }\nmake Car { model: \"M2\", pilot: ~298 }\nmake Reading { car: ~299, value: 919, at: 100 }\ncommit\n"
unfolding decimals
hundred = refl
