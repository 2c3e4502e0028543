-- What a `MemHost` stands for.
use Rattle.std.specs.Prelude.{◌≡◌, ◌+◌, ◌-◌, ℕ, List, length, take, Contains, Result, IsErr}
use Rattle.oc_host.specs.declared.memory.MemHost.{MemHost}
use Rattle.oc_host.specs.declared.host.Failed.{Failed}
use Rattle.oc_host.specs.declared.images.Fill.{Fill}
use Rattle.oc_host.specs.Counts.{HasCause, Ticks}
use Rattle.oc_host.specs.Disk.{Disk}
use Rattle.oc_host.specs.Images.{image_at}
use Rattle.oc_host.specs.Replay.{fresh, replay}

-- its bytes at the start, after each call that it noted
abbrev pub disk_of : MemHost → Disk
disk_of host = replay (fresh host.start.items) host.calls.items

-- its disk when the call with this number, from 1, began
abbrev pub disk_before : MemHost → ℕ → Disk
disk_before host call = replay (fresh host.start.items) (take (call - 1) host.calls.items)

-- the image that it shows of a stop in the call with this number, from 1
abbrev pub image_of : Fill → MemHost → ℕ → List ℕ
image_of fill host call = image_at fill (fresh host.start.items) host.calls.items (call - 1)

-- the numbers, from 1, of the calls that are to fail
abbrev pub planned_failures : MemHost → List ℕ
planned_failures host = host.fail.items

-- the next call is to fail
abbrev pub IsNextToFail : MemHost → Type 0
IsNextToFail host = Contains (planned_failures host) (length host.calls.items + 1)

-- one call more was noted
abbrev pub NotesCall : MemHost → MemHost → Type 0
NotesCall old new = length new.calls.items ≡ length old.calls.items + 1

-- no call was noted
pub record NotesNothing (old new : MemHost) : Type 0 where
  pub disk : disk_of new ≡ disk_of old
  pub calls : new.calls.items ≡ old.calls.items

-- the counts of failures and of bytes read are as they were
pub record KeepsCounts (old new : MemHost) : Type 0 where
  pub faults : new.faults ≡ old.faults
  pub taken : new.taken ≡ old.taken

-- How a call that reads nothing answers, and what it does to the counts. One that is to fail fails.
pub record Answers {T : Type 0} (result : Result T Failed) (old new : MemHost) : Type 0 where
  pub planned : IsNextToFail old → IsErr result
  pub clock : Ticks result (length old.calls.items) (length new.calls.items)
  pub cause : HasCause result old.faults new.faults
  pub taken : new.taken ≡ old.taken
