-- The counts that the outside keeps: of calls, of failures and of bytes. Once a count that is kept in a `u64` is at the greatest one, it stays there.
use Rattle.std.specs.Prelude.{◌≡◌, ◌≤◌, ◌^◌, ◌+◌, ◌-◌, ℕ, min, Result, Ok, Err}
use Rattle.oc_host.specs.declared.host.Failed.{Failed}

-- it rose, or is at the greatest `u64`
abbrev pub Rose : ℕ → ℕ → Type 0
Rose old new = min (old + 1) (2 ^ 64 - 1) ≤ new

-- A call that succeeds leaves the count of faults alone, and a failure always shows in it.
abbrev pub HasCause : {T : Type 0} → Result T Failed → ℕ → ℕ → Type 0
HasCause (Ok x) old new = new ≡ old
HasCause (Err e) old new = (old ≤ new) × Rose old new

-- The clock goes on at each call that succeeds, and never back.
abbrev pub Ticks : {T : Type 0} → Result T Failed → ℕ → ℕ → Type 0
Ticks (Ok x) old new = (old ≤ new) × Rose old new
Ticks (Err e) old new = old ≤ new

-- A call that succeeds took n bytes more, and one that fails took none.
abbrev pub Takes : {T : Type 0} → ℕ → Result T Failed → ℕ → ℕ → Type 0
Takes n (Ok x) old new = new ≡ min (old + n) (2 ^ 64 - 1)
Takes n (Err e) old new = new ≡ old
