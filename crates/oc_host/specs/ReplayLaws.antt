-- What holds of the disk that a record of calls makes.
use Rattle.std.specs.Prelude.{◌≡◌, ◌<◌, ◌≤◌, ◌+◌, ◌-◌, ℕ, max, true, false, List, [], ◌∷◌, ◌++◌, length, take, drop, refl}
use Rattle.std.proofs.Common.{inl, inr, ◌∙◌, ap, arith, get_or, length-append, length-drop}
use Rattle.std.proofs.lemmas.List.{length-take, get_or-take, get_or-drop, get_or_append_left, get_or-append_right}
use Rattle.oc_host.specs.declared.memory.Call.{Call}
use Rattle.oc_host.specs.declared.memory.Call.TheVariants.{Looked, Wrote, Synced, Said}
use Rattle.oc_host.specs.Disk.{Disk, IsDisk, Apart, over}
use Rattle.oc_host.specs.Replay.{fresh, after_call, replay}

pub replay_push : (d : Disk) (calls : List Call) (call : Call) → replay d (calls ++ call ∷ []) ≡ after_call call (replay d calls)
replay_push d [] call = refl
replay_push d (c ∷ calls) call = replay_push (after_call c d) calls call

-- ---- the record of stops has one for each call

pub length-after_call : (call : Call) (d : Disk) → length (after_call call d).past ≡ length d.past + 1
length-after_call Looked d = omega arith
length-after_call (Wrote at bytes true) d = omega arith
length-after_call (Wrote at bytes false) d = omega arith
length-after_call Synced d = omega arith
length-after_call (Said bytes n) d = omega arith

length-replay : (calls : List Call) (d : Disk) → length (replay d calls).past ≡ length d.past + length calls
length-replay [] d = omega arith
length-replay (call ∷ calls) d = omega (arith, length-replay calls (after_call call d), length-after_call call d)

pub counted_calls : (bytes : List ℕ) (calls : List Call) → length calls ≡ length (replay (fresh bytes) calls).past
counted_calls bytes calls = omega (arith, length-replay calls (fresh bytes))

-- ---- the file as it reads is one of its images

-- a write leaves the bytes outside its range
pub get_or-over : (at : ℕ) (bytes b : List ℕ) (k : ℕ) → k < length b → Apart k at (length bytes) → get_or (over at bytes b) k 0 ≡ get_or b k 0
get_or-over at bytes b k lt (inl below) =
    get_or_append_left (take at b ++ bytes) (drop (at + length bytes) b) 0 k (omega (arith, length-append (take at b) bytes, length-take at b))
    ∙ get_or_append_left (take at b) bytes 0 k (omega (arith, length-take at b))
    ∙ get_or-take at b k 0 below
get_or-over at bytes b k lt (inr ge) =
    let front : length (take at b ++ bytes) ≡ at + length bytes = omega (arith, length-append (take at b) bytes, length-take at b) in
    let here : at + length bytes + (k - (at + length bytes)) ≡ k = omega arith in
    get_or-append_right (take at b ++ bytes) (drop (at + length bytes) b) (at + length bytes) k 0 front ge
    ∙ get_or-drop (at + length bytes) b (k - (at + length bytes)) 0
    ∙ ap (λ (j : ℕ). get_or b j 0) here

-- a write never shortens the file, and makes it reach no further than its range
pub length-over : (at : ℕ) (bytes b : List ℕ) → (length b ≤ length (over at bytes b)) × (length (over at bytes b) ≤ max (length b) (at + length bytes))
length-over at bytes b =
    let whole = length-append (take at b ++ bytes) (drop (at + length bytes) b) in
    (omega (arith, whole, length-append (take at b) bytes, length-take at b, length-drop (at + length bytes) b), omega (arith, whole, length-append (take at b) bytes, length-take at b, length-drop (at + length bytes) b))

pub IsDisk-after_call : (call : Call) (d : Disk) → IsDisk d → IsDisk (after_call call d)
IsDisk-after_call Looked d is = record { no_shorter = is.no_shorter; no_longer = is.no_longer; kept = λ k fixed. is.kept k fixed }
IsDisk-after_call (Wrote at bytes true) d is = record {
  no_shorter = omega (arith, is.no_shorter, (length-over at bytes.items d.bytes).0);
  no_longer = omega (arith, is.no_longer, (length-over at bytes.items d.bytes).1);
  kept = λ k fixed. get_or-over at bytes.items d.bytes k (omega (arith, fixed.0, is.no_shorter)) fixed.1.0 ∙ is.kept k (fixed.0, fixed.1.1);
}
IsDisk-after_call (Wrote at bytes false) d is = record {
  no_shorter = is.no_shorter;
  no_longer = omega (arith, is.no_longer);
  kept = λ k fixed. is.kept k (fixed.0, fixed.1.1);
}
IsDisk-after_call Synced d is = record { no_shorter = omega arith; no_longer = omega arith; kept = λ k fixed. refl }
IsDisk-after_call (Said bytes n) d is = record { no_shorter = is.no_shorter; no_longer = is.no_longer; kept = λ k fixed. is.kept k fixed }

pub IsDisk-replay : (calls : List Call) (d : Disk) → IsDisk d → IsDisk (replay d calls)
IsDisk-replay [] d is = is
IsDisk-replay (call ∷ calls) d is = IsDisk-replay calls (after_call call d) (IsDisk-after_call call d is)

pub IsDisk-fresh : (bytes : List ℕ) → IsDisk (fresh bytes)
IsDisk-fresh bytes = record { no_shorter = omega arith; no_longer = omega arith; kept = λ k fixed. refl }

pub sound_calls : (bytes : List ℕ) (calls : List Call) → IsDisk (replay (fresh bytes) calls)
sound_calls bytes calls = IsDisk-replay calls (fresh bytes) (IsDisk-fresh bytes)
