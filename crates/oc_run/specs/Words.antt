-- The command line.
use Rattle.std.specs.Prelude.{Bool, false, ◌==◌, List, [], ◌∷◌, Option, Some, None, if◌then◌else◌}
use Rattle.oc_model.specs.Maps.{Text}
use Rattle.oc_run.specs.declared.words.FileWords.{FileWords}

abbrev pub begins_with_dash : Text → Bool
begins_with_dash [] = false
begins_with_dash (c ∷ t) = c == 45

-- What the words say: one word that doesn't begin with `-`, which is the file's path.
abbrev pub words_of : List Text → Option FileWords
words_of (word ∷ []) = if begins_with_dash word then None else Some (record { file = word; other = None })
words_of _ = None
