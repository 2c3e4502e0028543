-- The images that a file in memory shows are those of its disk.
use Rattle.std.proofs.Common.{◌≡◌, ◌⊎◌, inl, inr, ℕ, zero, suc, ◌+◌, ◌<◌, ◌≤◌, true, false, List, [], ◌∷◌, ◌++◌, length, take, get_or, refl, sym, ◌∙◌, ap, subst, arith}
use Rattle.std.specs.Prelude.{replicate}
use Rattle.std.proofs.lemmas.List.{append-nil, length-replicate, take_more}
use Rattle.oc_host.specs.declared.images.Fill.{Fill}
use Rattle.oc_host.specs.declared.images.Fill.TheVariants.{Kept, Lost, Byte}
use Rattle.oc_host.specs.declared.memory.Call.{Call}
use Rattle.oc_host.specs.declared.memory.Call.TheVariants.{Looked, Wrote, Synced, Said}
use Rattle.oc_host.specs.Disk.{Stop, Disk, In, IsDisk, IsImage, now, over, writing}
use Rattle.oc_host.specs.Images.{during, filled, image_in, image_at}
use Rattle.oc_host.specs.Replay.{fresh, replay, after_call}
use Rattle.oc_host.specs.ReplayLaws.{replay_push, length-over, get_or-over, length-after_call, IsDisk-after_call, IsDisk-fresh}
use Rattle.oc_host.proofs.Moments.{reads_itself}

-- ---- the past has a stop for each call

past_of : (call : Call) (d : Disk) → (after_call call d).past ≡ during call d ∷ d.past
past_of Looked d = refl
past_of (Wrote at bytes true) d = refl
past_of (Wrote at bytes false) d = refl
past_of Synced d = refl
past_of (Said bytes n) d = refl

In-after_call : (call : Call) (d : Disk) (t : ℕ) (image said : List ℕ) → In t d.past image said → In t (after_call call d).past image said
In-after_call call d t image said is = subst (λ (past : List Stop). In t past image said) (sym (past_of call d)) (inr is)

In-replay : (calls : List Call) (d : Disk) (t : ℕ) (image said : List ℕ) → In t d.past image said → In t (replay d calls).past image said
In-replay [] d t image said is = is
In-replay (call ∷ calls) d t image said is = In-replay calls (after_call call d) t image said (In-after_call call d t image said is)

-- ---- each image is one of the call's stop

-- the synced file with each range filled is an image
abbrev IsFilled : ℕ → Disk → Type 0
IsFilled byte d = IsImage (now d) (filled byte d.spans d.synced) d.said

filled_more : (byte at n : ℕ) (d : Disk) → IsFilled byte d → IsImage (writing at n d) (over at (replicate n byte) (filled byte d.spans d.synced)) d.said
filled_more byte at n d is =
    let fill = replicate n byte in
    let file = filled byte d.spans d.synced in
    let size : length fill ≡ n = length-replicate n byte in
    record {
      no_shorter = omega (arith, is.no_shorter, (length-over at fill file).0);
      no_longer = omega (arith, is.no_longer, (length-over at fill file).1, size);
      kept = λ k lt out. get_or-over at fill file k (omega (arith, lt, is.no_shorter)) (subst (λ (m : ℕ). (k < at) ⊎ (at + m ≤ k)) (sym size) out.0) ∙ is.kept k lt out.1;
      told = is.told;
    }

IsFilled-after_call : (byte : ℕ) (call : Call) (d : Disk) → IsFilled byte d → IsFilled byte (after_call call d)
IsFilled-after_call byte Looked d is = is
IsFilled-after_call byte (Wrote at bytes true) d is = filled_more byte at (length bytes.items) d is
IsFilled-after_call byte (Wrote at bytes false) d is = filled_more byte at (length bytes.items) d is
IsFilled-after_call byte Synced d is = record { no_shorter = omega arith; no_longer = omega arith; kept = λ k lt out. refl; told = (0, sym (append-nil d.said)) }
IsFilled-after_call byte (Said bytes n) d is = record { no_shorter = is.no_shorter; no_longer = is.no_longer; kept = is.kept; told = (0, sym (append-nil (d.said ++ take n bytes.items))) }

-- with the synced bytes alone
lost_is : (stop : Stop) → length stop.synced ≤ stop.top → IsImage stop stop.synced stop.said
lost_is stop le = record { no_shorter = omega arith; no_longer = le; kept = λ k lt out. refl; told = (0, sym (append-nil stop.said)) }

-- in the stop of a piece there are all images of the moment before it
during_say : (d : Disk) (bytes : List ℕ) (stop : Stop) (image : List ℕ) → stop.synced ≡ d.synced → IsImage (now d) image d.said → IsImage (record { synced = d.synced; spans = d.spans; top = d.top; said = d.said; piece = bytes }) image d.said
during_say d bytes stop image same is = record { no_shorter = is.no_shorter; no_longer = is.no_longer; kept = is.kept; told = (0, sym (append-nil d.said)) }

image_is : (fill : Fill) (call : Call) (d : Disk) → IsDisk d → ((byte : ℕ) → IsFilled byte d) → IsImage (during call d) (image_in fill call d) d.said
image_is Kept Looked d is all = reads_itself d is
image_is Kept (Wrote at bytes done) d is all = reads_itself (after_call (Wrote at bytes true) d) (IsDisk-after_call (Wrote at bytes true) d is)
image_is Kept Synced d is all = reads_itself d is
image_is Kept (Said bytes n) d is all = during_say d bytes.items (now d) d.bytes refl (reads_itself d is)
image_is Lost Looked d is all = lost_is (now d) (omega (arith, is.no_shorter, is.no_longer))
image_is Lost (Wrote at bytes done) d is all = lost_is (writing at (length bytes.items) d) (omega (arith, is.no_shorter, is.no_longer))
image_is Lost Synced d is all = lost_is (now d) (omega (arith, is.no_shorter, is.no_longer))
image_is Lost (Said bytes n) d is all = lost_is (during (Said bytes n) d) (omega (arith, is.no_shorter, is.no_longer))
image_is (Byte byte) Looked d is all = all byte
image_is (Byte byte) (Wrote at bytes done) d is all = filled_more byte at (length bytes.items) d (all byte)
image_is (Byte byte) Synced d is all = all byte
image_is (Byte byte) (Said bytes n) d is all = during_say d bytes.items (now d) (filled byte d.spans d.synced) refl (all byte)

in_replay : (fill : Fill) (calls : List Call) (n : ℕ) (d : Disk) → n < length calls → IsDisk d → ((byte : ℕ) → IsFilled byte d) → In (length d.past + n) (replay d calls).past (image_at fill d calls n) (replay d (take n calls)).said
in_replay fill [] n d lt is all = absurd (omega arith)
in_replay fill (call ∷ calls) zero d lt is all =
    In-replay calls (after_call call d) (length d.past + 0) (image_in fill call d) d.said
    (subst (λ (past : List Stop). In (length d.past + 0) past (image_in fill call d) d.said) (sym (past_of call d)) (inl (omega arith, image_is fill call d is all)))
in_replay fill (call ∷ calls) (suc n) d lt is all =
    let e = after_call call d in
    subst (λ (t : ℕ). In t (replay e calls).past (image_at fill e calls n) (replay e (take n calls)).said) (omega (arith, length-after_call call d))
    (in_replay fill calls n e (omega (arith, lt)) (IsDisk-after_call call d is) (λ byte. IsFilled-after_call byte call d (all byte)))

-- the image of a stop in the call with this number, from 0
pub image_left : (fill : Fill) (start : List ℕ) (calls : List Call) (n : ℕ) → n < length calls → In n (replay (fresh start) calls).past (image_at fill (fresh start) calls n) (replay (fresh start) (take n calls)).said
image_left fill start calls n lt =
    subst (λ (t : ℕ). In t (replay (fresh start) calls).past (image_at fill (fresh start) calls n) (replay (fresh start) (take n calls)).said) (omega arith)
    (in_replay fill calls n (fresh start) lt (IsDisk-fresh start) (λ byte. record { no_shorter = omega arith; no_longer = omega arith; kept = λ k lt out. refl; told = (0, refl) }))

-- ---- the images are carried along

pub replay_more : (start : List ℕ) (calls : List Call) (i : ℕ) (none : Call) → i < length calls → replay (fresh start) (take (i + 1) calls) ≡ after_call (get_or calls i none) (replay (fresh start) (take i calls))
replay_more start calls i none lt = ap (λ (l : List Call). replay (fresh start) l) (take_more calls i none lt) ∙ replay_push (fresh start) (take i calls) (get_or calls i none)

pub image_at_is : (fill : Fill) (d : Disk) (calls : List Call) (n : ℕ) (none : Call) → n < length calls → image_at fill d calls n ≡ image_in fill (get_or calls n none) (replay d (take n calls))
image_at_is fill d [] n none lt = absurd (omega arith)
image_at_is fill d (call ∷ calls) zero none lt = refl
image_at_is fill d (call ∷ calls) (suc n) none lt = image_at_is fill (after_call call d) calls n none (omega (arith, lt))
