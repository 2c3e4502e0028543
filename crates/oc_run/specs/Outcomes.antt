-- What a run has said, and why, by how it ended.
use Rattle.std.specs.Prelude.{◌≡◌, ◌≤◌, ℕ, Bool, true, false, []}
use Rattle.oc_model.specs.Maps.{Text}
use Rattle.oc_model.specs.Stores.{empty_store}
use Rattle.oc_machine.specs.Runs as runs
use Rattle.oc_machine.specs.Runs.{is_built}
use Rattle.oc_host.specs.Counts.{Rose}
use Rattle.oc_host.specs.Disk.{Disk, Says, SaysFront}
use Rattle.oc_run.specs.Causes.{Took, TookScript}
use Rattle.oc_run.specs.declared.status.Status.{Status}
use Rattle.oc_run.specs.declared.status.Status.TheVariants as status

-- the exit code
abbrev pub code_of : Status → ℕ
code_of status.Done = 0
code_of status.Refusals = 1
code_of status.Words = 2
code_of status.Memory = 3
code_of status.Host = 4
code_of status.Source = 5
code_of status.TooLong = 8

-- the text of the machine of two maps for a script over the empty store, with the lines that are built
unfoldable pub text : Text → Text
text script = runs.text is_built (empty_store 1) script []

-- some line of that text is an error
unfoldable pub has_error : Text → Bool
has_error script = runs.has_error is_built (empty_store 1) script []

-- The whole text was said at the end, and else a front of it. With faulty words nothing was called.
abbrev pub HasSaid : Status → Text → Disk → Disk → Type 0
HasSaid status.Done script old new = Says old new (text script)
HasSaid status.Refusals script old new = Says old new (text script)
HasSaid status.Words script old new = new ≡ old
HasSaid status.Memory script old new = SaysFront old new (text script)
HasSaid status.Host script old new = SaysFront old new (text script)
HasSaid status.Source script old new = SaysFront old new (text script)
HasSaid status.TooLong script old new = SaysFront old new (text script)

-- At the end the script was read to its end, and the status tells whether some line of the text is an error.
abbrev pub HasRead : Status → Text → Text → Type 0
HasRead status.Done script left = (has_error script ≡ false) × (left ≡ [])
HasRead status.Refusals script left = (has_error script ≡ true) × (left ≡ [])
HasRead _ script left = Unit {0}

-- The host is the cause only where its count of faults rose, and else that count stays.
abbrev pub HostFaults : Status → ℕ → ℕ → Type 0
HostFaults status.Host old new = (old ≤ new) × Rose old new
HostFaults _ old new = new ≡ old

-- The source is the cause only where its count of faults rose, and else that count stays.
abbrev pub SourceFaults : Status → ℕ → ℕ → Type 0
SourceFaults status.Source old new = (old ≤ new) × Rose old new
SourceFaults _ old new = new ≡ old

-- A script is too long where one byte more than the limit was taken, and else no more than the limit was.
abbrev pub TakesScript : Status → ℕ → ℕ → Type 0
TakesScript status.TooLong old new = Took 268435457 old new
TakesScript _ old new = TookScript old new
