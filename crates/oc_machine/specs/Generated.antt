-- The generated script: so many pilots, cars and readings, and queries over them.
use Rattle.std.specs.Prelude.{ℕ, zero, suc, ◌-◌, ◌*◌, ◌%◌, ◌==◌, List, [], ◌∷◌, ◌++◌, flat_map, codes, decimal, if◌then◌else◌}
use Rattle.oc_model.specs.Maps.{Text}
use Rattle.oc_machine.specs.Printing.{line}
use Rattle.oc_model.specs.Opened.{decimals}

-- 1 to n
abbrev pub up_to : ℕ → List ℕ
up_to zero = []
up_to (suc n) = up_to n ++ suc n ∷ []

-- the pilot of a turn
abbrev pub pilot_line : ℕ → Text
pilot_line i = line (codes "make Pilot { name: \"P" ++ decimal i ++ codes "\", points: " ++ decimal (37 * i % 101) ++ codes " }")

-- the car names the pilot that was just made
abbrev pub car_line : ℕ → Text
car_line i = line (codes "make Car { model: \"M" ++ decimal (i % 7) ++ codes "\", pilot: ~" ++ decimal (3 * i - 2) ++ codes " }")

-- the reading names that car
abbrev pub reading_line : ℕ → Text
reading_line i = line (codes "make Reading { car: ~" ++ decimal (3 * i - 1) ++ codes ", value: " ++ decimal (i * i % 1009) ++ codes ", at: " ++ decimal i ++ codes " }")

-- a commit behind each hundredth
abbrev pub commit_line : ℕ → Text
commit_line i = if i % 100 == 0 then line (codes "commit") else []

-- all lines of a turn
abbrev pub lines_of_one : ℕ → Text
lines_of_one i = pilot_line i ++ car_line i ++ reading_line i ++ commit_line i

-- the classes and their indexes
abbrev pub first_lines : Text
first_lines =
    line (codes "class Pilot { name: text, points: i32 }")
    ++ line (codes "class Car { model: text, pilot: ref }")
    ++ line (codes "class Reading { car: ref, value: i64, at: i32 }")
    ++ line (codes "index Pilot.points")
    ++ line (codes "index Reading.at")

-- a renamed field, three queries and the last commit
abbrev pub last_lines : Text
last_lines =
    line (codes "rename Car.model to label")
    ++ line (codes "query Pilot where points > 90 order points desc")
    ++ line (codes "query Car where pilot.points = 37")
    ++ line (codes "query Reading where at >= 10 and at < 20 and car.pilot.points > 50")
    ++ line (codes "commit")

-- the script of n objects of each class
unfoldable pub generated : ℕ → Text
unfolding decimals
generated n = first_lines ++ flat_map lines_of_one (up_to n) ++ last_lines
