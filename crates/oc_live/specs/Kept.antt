-- Which live objects keep their numbers where the store goes back to an earlier one.
use Rattle.std.specs.Prelude.{◌≡◌, ℕ, ◌^◌, ◌<◌, Bool, false, not, map, Option, option_map, unwrap_or, if◌then◌else◌}
use Rattle.oc_model.specs.States.{Live}
use Rattle.oc_machine.specs.Memory.{detached}
use Rattle.oc_live.specs.Memories.{Memory}

-- there is a number, and it isn't kept
abbrev pub is_lost : (ℕ → Bool) → Option ℕ → Bool
is_lost kept number = unwrap_or (option_map (λ n. not (kept n)) number) false

-- Each object whose number isn't kept is detached. The others are as they were.
abbrev pub with_kept : (ℕ → Bool) → Memory → Memory
with_kept kept m = record m { live = map (λ (e : ℕ × Live). (e.0, if is_lost kept (e.1).number then detached e.1 else e.1)) m.live }

-- a test answers of each number whether it is kept
abbrev pub Tells : (ℕ → Bool → Type 0) → (ℕ → Bool) → Type 0
Tells answers kept = (n : ℕ) (b : Bool) → n < 2 ^ 32 → answers n b → b ≡ kept n
