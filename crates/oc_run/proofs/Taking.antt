-- How much of a script was taken.
use Rattle.std.proofs.Common.{◌≡◌, ◌⊎◌, inl, inr, ℕ, ◌-◌, ◌<◌, ◌≤◌, ◌≢◌, arith, Err}
use Rattle.oc_run.specs.declared.answering.Stop.{Stop}
use Rattle.oc_run.specs.declared.answering.Stop.TheVariants.{Memory, Host, Source, TooLong}
use Rattle.oc_run.specs.Causes.{SpeakFaults, Took, TookScript, TakesScript}

-- nothing so far, or all but what is left of a script and one byte more
abbrev pub IsTaken : ℕ → ℕ → ℕ → Type 0
IsTaken left old new = ((left ≡ 268435457) × (new ≡ old)) ⊎ ((left < 268435457) × Took (268435457 - left) old new)

took_more : (left n old mid new : ℕ) → left ≤ 268435457 → 0 < n → n ≤ left → IsTaken left old mid → Took n mid new → Took (268435457 - (left - n)) old new
took_more left n old mid new within some most (inl none) took = omega (arith, none.0, none.1, took, within, most)
took_more left n old mid new within some most (inr part) took = omega (arith, part.0, part.1, took, within, most)

pub taken_more : (left n old mid new : ℕ) → left ≤ 268435457 → n ≢ 0 → n ≤ left → IsTaken left old mid → Took n mid new → IsTaken (left - n) old new
taken_more left n old mid new within some most taken took = inr (omega (arith, within, some, most), took_more left n old mid new within (omega (arith, some)) most taken took)

pub took_all : (left n old mid new : ℕ) → left ≤ 268435457 → n ≢ 0 → n ≡ left → IsTaken left old mid → Took n mid new → Took 268435457 old new
took_all left n old mid new within some all (inl none) took = omega (arith, none.0, none.1, took, within, all)
took_all left n old mid new within some all (inr part) took = omega (arith, part.0, part.1, took, within, all)

pub took_script : (left old new : ℕ) → 0 < left → IsTaken left old new → TookScript old new
took_script left old new some (inl none) = inl none.1
took_script left old new some (inr part) = inr (268435457 - left, (omega (arith, some), part.1))

-- a part that reads no script isn't stopped by it
pub took_err : (stop : Stop) (a b old new : ℕ) → SpeakFaults {T = Unit} (Err stop) a b → TookScript old new → TakesScript {T = Unit} (Err stop) old new
took_err Memory a b old new cause took = took
took_err Host a b old new cause took = took
took_err Source a b old new cause took = absurd cause
took_err TooLong a b old new cause took = absurd cause
