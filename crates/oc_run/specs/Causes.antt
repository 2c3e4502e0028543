-- Why a run stops before its closing, and how much of the script it takes.
use Rattle.std.specs.Prelude.{◌≡◌, ◌⊎◌, ◌≤◌, ◌^◌, ◌+◌, ◌-◌, ℕ, min, Result, Ok, Err}
use Rattle.oc_host.specs.Counts.{Rose}
use Rattle.oc_run.specs.declared.answering.Stop.{Stop}
use Rattle.oc_run.specs.declared.answering.Stop.TheVariants.{Memory, Host, Source, TooLong}

-- The host is the cause only where its count of faults rose, and else that count stays.
abbrev pub HostFaults : {T : Type 0} → Result T Stop → ℕ → ℕ → Type 0
HostFaults (Err Host) old new = (old ≤ new) × Rose old new
HostFaults (Ok x) old new = new ≡ old
HostFaults (Err Memory) old new = new ≡ old
HostFaults (Err Source) old new = new ≡ old
HostFaults (Err TooLong) old new = new ≡ old

-- The same for a part that reads no script.
abbrev pub SpeakFaults : {T : Type 0} → Result T Stop → ℕ → ℕ → Type 0
SpeakFaults (Err Host) old new = (old ≤ new) × Rose old new
SpeakFaults (Ok x) old new = new ≡ old
SpeakFaults (Err Memory) old new = new ≡ old
SpeakFaults (Err Source) old new = ⊥
SpeakFaults (Err TooLong) old new = ⊥

-- The source is the cause only where its count of faults rose, and else that count stays.
abbrev pub SourceFaults : {T : Type 0} → Result T Stop → ℕ → ℕ → Type 0
SourceFaults (Err Source) old new = (old ≤ new) × Rose old new
SourceFaults (Ok x) old new = new ≡ old
SourceFaults (Err Memory) old new = new ≡ old
SourceFaults (Err Host) old new = new ≡ old
SourceFaults (Err TooLong) old new = new ≡ old

-- so many bytes were taken from the source, whose count stays at the greatest `u64`
abbrev pub Took : ℕ → ℕ → ℕ → Type 0
Took n old new = new ≡ min (old + n) (2 ^ 64 - 1)

-- nothing, or at most a script's length
abbrev pub TookScript : ℕ → ℕ → Type 0
TookScript old new = (new ≡ old) ⊎ ((n : ℕ) × ((n ≤ 268435456) × Took n old new))

-- A script is too long where one byte more than the limit was taken, and else no more than the limit was.
abbrev pub TakesScript : {T : Type 0} → Result T Stop → ℕ → ℕ → Type 0
TakesScript (Err TooLong) old new = Took 268435457 old new
TakesScript (Ok x) old new = TookScript old new
TakesScript (Err Memory) old new = TookScript old new
TakesScript (Err Host) old new = TookScript old new
TakesScript (Err Source) old new = TookScript old new
