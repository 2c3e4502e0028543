-- What a reader of tokens gives.
use Rattle.std.specs.Prelude.{◌≡◌, List, ◌++◌, Option, Some, None}
use Rattle.oc_machine.specs.declared.token.Token.{Token}
use Rattle.oc_machine.specs.Parsers.{Parser}

-- The parser reads this from the tokens, and leaves the new ones; or it reads nothing.
abbrev pub Reads : {A : Type 0} → Parser A → List Token → Option A → List Token → Type 0
Reads p old None new = p old ≡ None
Reads p old (Some x) new = p old ≡ Some (x, new)

-- these items, and those that were read behind them
abbrev pub after : {A : Type 0} → List A → Option (List A × List Token) → Option (List A × List Token)
after xs None = None
after xs (Some r) = Some (xs ++ r.0, r.1)
