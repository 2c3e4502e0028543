-- The front of a line.
use Rattle.std.specs.Prelude.{ℕ, ◌++◌, codes, decimal}
use Rattle.oc_model.specs.Maps.{Text}

-- what stands before the value of a reading, whose car has this number
abbrev pub reading_front : ℕ → Text
reading_front car = codes "make Reading { car: ~" ++ decimal car ++ codes ", value: "
