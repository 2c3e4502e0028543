-- A file with what a stop in each call may have left of it, beside what was said. The calls of a host are relations between two of these.
use Rattle.std.specs.Prelude.{◌≡◌, ◌⊎◌, ◌<◌, ◌≤◌, ◌+◌, ℕ, max, List, [], ◌∷◌, ◌++◌, length, take, drop, slice_index, Result, Ok, Err}
use Rattle.oc_host.specs.declared.host.Failed.{Failed}

-- `len` bytes from `at` on
pub record Span : Type 0 where
  pub at : ℕ
  pub len : ℕ

-- the place k isn't among the n bytes from `at` on
abbrev pub Apart : ℕ → ℕ → ℕ → Type 0
Apart k at n = (k < at) ⊎ (at + n ≤ k)

-- the place k is in none of the spans
abbrev pub Outside : ℕ → List Span → Type 0
Outside k [] = Unit {0}
Outside k (span ∷ spans) = Apart k span.at span.len × Outside k spans

-- What a stop leaves is settled by: the bytes at the last sync, the spans written since, the greatest length since, what was said, and the piece that was being said.
pub record Stop : Type 0 where
  pub synced : List ℕ
  pub spans : List Span
  pub top : ℕ
  pub said : List ℕ
  pub piece : List ℕ

-- A stop may leave this image, after this was said. Its length is between the synced one and the greatest since. Where nothing was written it
-- has the synced bytes, and elsewhere any. Of the piece that was being said any front may be said too.
pub record IsImage (stop : Stop) (image said : List ℕ) : Type 0 where
  pub no_shorter : length stop.synced ≤ length image
  pub no_longer : length image ≤ stop.top
  pub kept : (k : ℕ) → k < length stop.synced → Outside k stop.spans → slice_index image k ≡ slice_index stop.synced k
  pub told : (n : ℕ) × (said ≡ stop.said ++ take n stop.piece)

-- The bytes that a read gives, what settles the images between two calls, and for each call so far, the newest first, what settles the images
-- of a stop in it.
pub record Disk : Type 0 where
  pub bytes : List ℕ
  pub synced : List ℕ
  pub spans : List Span
  pub top : ℕ
  pub said : List ℕ
  pub past : List Stop

-- what settles the images of a stop between two calls
abbrev pub now : Disk → Stop
now d = record { synced = d.synced; spans = d.spans; top = d.top; said = d.said; piece = [] }

-- what settles them in a write of n bytes
abbrev pub writing : ℕ → ℕ → Disk → Stop
writing at n d = record { synced = d.synced; spans = record { at = at; len = n } ∷ d.spans; top = max d.top (at + n); said = d.said; piece = [] }

-- what settles them while this piece is said
abbrev pub saying : List ℕ → Disk → Stop
saying piece d = record { synced = d.synced; spans = d.spans; top = d.top; said = d.said; piece = piece }

-- A stop in the call with the number t may have left this image, after this was said. The oldest call is number 0.
abbrev pub In : ℕ → List Stop → List ℕ → List ℕ → Type 0
In t [] image said = ⊥
In t (stop ∷ earlier) image said = ((t ≡ length earlier) × IsImage stop image said) ⊎ In t earlier image said

-- A stop in one of these calls, from the one with the number t on, may have left this image, after this was said. The oldest call is number 0.
abbrev pub Since : ℕ → List Stop → List ℕ → List ℕ → Type 0
Since t [] image said = ⊥
Since t (stop ∷ earlier) image said = ((t ≤ length earlier) × IsImage stop image said) ⊎ Since t earlier image said

-- A stop since moment t, in a call or now, may have left this image, after this was said. Moment t is after t calls.
abbrev pub Left : Disk → ℕ → List ℕ → List ℕ → Type 0
Left d t image said = Since t d.past image said ⊎ IsImage (now d) image said

-- the byte at k is as it was synced, whatever a stop leaves
abbrev pub Fixed : Disk → ℕ → Type 0
Fixed d k = (k < length d.synced) × Outside k d.spans

-- nothing was written since the last sync
pub record IsSynced (d : Disk) : Type 0 where
  pub bytes : d.synced ≡ d.bytes
  pub spans : d.spans ≡ []
  pub top : d.top ≡ length d.bytes

-- A stop now may leave just the bytes that a read gives.
pub record IsDisk (d : Disk) : Type 0 where
  pub no_shorter : length d.synced ≤ length d.bytes
  pub no_longer : length d.bytes ≤ d.top
  pub kept : (k : ℕ) → Fixed d k → slice_index d.bytes k ≡ slice_index d.synced k

-- ---- what each call makes of a disk

-- b with these bytes at this place
abbrev pub over : ℕ → List ℕ → List ℕ → List ℕ
over at bytes b = take at b ++ bytes ++ drop (at + length bytes) b

-- after a call that changes nothing
abbrev pub looked : Disk → Disk
looked d = record d { past = now d ∷ d.past }

-- after a write of n bytes, if the file then reads as `found`
abbrev pub wrote_as : ℕ → ℕ → List ℕ → Disk → Disk
wrote_as at n found d =
    let during = writing at n d in
    record { bytes = found; synced = d.synced; spans = during.spans; top = during.top; said = d.said; past = during ∷ d.past }

-- after a write of these bytes
abbrev pub wrote : ℕ → List ℕ → Disk → Disk
wrote at bytes d = wrote_as at (length bytes) (over at bytes d.bytes) d

-- after a sync
abbrev pub synced_now : Disk → Disk
synced_now d = record { bytes = d.bytes; synced = d.bytes; spans = []; top = length d.bytes; said = d.said; past = now d ∷ d.past }

-- after a piece of which n bytes were said
abbrev pub said_so : List ℕ → ℕ → Disk → Disk
said_so piece n d = record d { said = d.said ++ take n piece; past = saying piece d ∷ d.past }

-- ---- what each call of a host may make of a disk, by its answer. A call that fails may also leave the disk wholly as it was.

-- A failed write may put any bytes in its range, and may lengthen the file by any part of what reaches past the end. Other bytes stay.
pub record Torn (at n : ℕ) (old new : List ℕ) : Type 0 where
  pub kept : (k : ℕ) → k < length old → Apart k at n → slice_index new k ≡ slice_index old k
  pub no_shorter : length old ≤ length new
  pub no_longer : length new ≤ max (length old) (at + n)

abbrev pub AfterLook : {T : Type 0} → Result T Failed → Disk → Disk → Type 0
AfterLook (Ok x) old new = new ≡ looked old
AfterLook (Err e) old new = (new ≡ looked old) ⊎ (new ≡ old)

abbrev pub AfterWrite : ℕ → List ℕ → Result Unit Failed → Disk → Disk → Type 0
AfterWrite at bytes (Ok x) old new = new ≡ wrote at bytes old
AfterWrite at bytes (Err e) old new = ((found : List ℕ) × Torn at (length bytes) old.bytes found × (new ≡ wrote_as at (length bytes) found old)) ⊎ (new ≡ old)

abbrev pub AfterSync : Result Unit Failed → Disk → Disk → Type 0
AfterSync (Ok x) old new = new ≡ synced_now old
AfterSync (Err e) old new = (new ≡ looked old) ⊎ (new ≡ old)

abbrev pub AfterSay : List ℕ → Result Unit Failed → Disk → Disk → Type 0
AfterSay piece (Ok x) old new = new ≡ said_so piece (length piece) old
AfterSay piece (Err e) old new = ((n : ℕ) × (new ≡ said_so piece n old)) ⊎ (new ≡ old)

-- ---- runs of calls

-- What a stop since `old` may have left, in a call or between two, has P, or a stop at `old` or before might have left it already.
pub record LeavesOnly (old new : Disk) (P : List ℕ → List ℕ → Type 0) : Type 0 where
  pub later : length old.past ≤ length new.past
  pub each : (t : ℕ) (image said : List ℕ) → t ≤ length old.past → Left new t image said → Left old t image said ⊎ P image said

-- The file and what was said are as they were, and no stop since leaves more than one at `old`.
pub record Looks (old new : Disk) : Type 0 where
  pub bytes : new.bytes ≡ old.bytes
  pub synced : new.synced ≡ old.synced
  pub spans : new.spans ≡ old.spans
  pub top : new.top ≡ old.top
  pub said : new.said ≡ old.said
  pub moments : LeavesOnly old new (IsImage (now old))

-- This text was said, and the file is as it was.
pub record Says (old new : Disk) (text : List ℕ) : Type 0 where
  pub said : new.said ≡ old.said ++ text
  pub bytes : new.bytes ≡ old.bytes
  pub synced : new.synced ≡ old.synced
  pub spans : new.spans ≡ old.spans
  pub top : new.top ≡ old.top

-- The first `count` bytes of this text were said, or all of it where it is shorter, and the file is as it was.
pub record SaysFront (old new : Disk) (text : List ℕ) : Type 0 where
  pub count : ℕ
  pub says : Says old new (take count text)
