-- How a text is given in parts.
use Rattle.std.proofs.Common.{◌≡◌, ℕ, ◌+◌, List, ◌++◌, take, drop, sym, ◌∙◌, ap₂}
use Rattle.std.proofs.lemmas.List.{drop-drop, take-append-drop}

-- what is left at a place is the next n bytes, and what is left after them
pub drop-add : (at n : ℕ) (bytes next : List ℕ) → next ≡ take n (drop at bytes) → drop at bytes ≡ next ++ drop (at + n) bytes
drop-add at n bytes next is = sym (take-append-drop n (drop at bytes)) ∙ ap₂ (λ (front rest : List ℕ). front ++ rest) (sym is) (drop-drop n at bytes)
