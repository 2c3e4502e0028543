-- An object that is made in memory.
use Rattle.std.proofs.Common.{◌≡◌, ap, ◌∙◌, ℕ, List, [], Result, Ok, Err, IfOk, OnOk}
use Rattle.std.specs.declared.alloc.AllocError.{AllocError}
use Rattle.oc_model.specs.declared.value.Entry.{Entry}
use Rattle.oc_model.specs.States.{Live}
use Rattle.oc_model.specs.Stores.{Store, class_of, written}
use Rattle.oc_machine.specs.Values.{FieldValues, numbers_given, with_given}
use Rattle.oc_live.specs.Memories.{Memory, with_new}
use Rattle.oc_container.specs.Made.{made_in, unsaved_with}
use Rattle.oc_container.specs.Outlined.{remembered}
use Rattle.oc_container.specs.Woken.{with_all_woken}

-- the object with these entries, over memory with its numbers woken
pub made_is : (s : Store) (k w : Memory) (c : ℕ) (fs : FieldValues) (es : List Entry) → w ≡ with_all_woken (class_of s) k (numbers_given fs) → es ≡ written s.schema c (with_given (remembered w) [] fs) []
    → ◌≡◌ {A = Memory × ℕ} (with_new w (unsaved_with c es), w.next_handle) (made_in s k c fs)
unfolding made_in
made_is s k w c fs es woken entries =
    ap (λ (es : List Entry). (with_new w (unsaved_with c es), w.next_handle)) entries
    ∙ ap (λ (w : Memory). (with_new w (unsaved_with c (written s.schema c (with_given (remembered w) [] fs) [])), w.next_handle)) woken

-- the same, as a call answers it
pub made_told : (r : Result ℕ AllocError) (new w : Memory) (o : Live) (p : Memory × ℕ) → IfOk r (λ h. h ≡ w.next_handle) → OnOk r (new ≡ with_new w o) → ◌≡◌ {A = Memory × ℕ} (with_new w o, w.next_handle) p
    → IfOk r (λ h. ◌≡◌ {A = Memory × ℕ} (new, h) p)
made_told (Ok h) new w o p handle made is = (λ i. (made i, handle i)) ∙ is
made_told (Err e) new w o p handle made is = tt
