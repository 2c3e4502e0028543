-- What a stop in a run of calls may leave.
use Rattle.std.proofs.Common.{◌≡◌, ◌⊎◌, inl, inr, ⊎_elim, ℕ, zero, suc, ◌≤◌, List, [], ◌∷◌, ◌++◌, length, take, get_or, refl, sym, ◌∙◌, ap, subst, arith, Result, Ok, Err}
use Rattle.std.proofs.lemmas.List.{ext_get_or, append-nil}
use Rattle.oc_host.specs.declared.host.Failed.{Failed}
use Rattle.oc_host.specs.Disk.{Span, Stop, Disk, IsImage, In, Since, Left, LeavesOnly, Looks, Outside, IsSynced, IsDisk, now, writing, saying, looked, wrote, wrote_as, synced_now, said_so, AfterLook, AfterWrite, AfterSync, AfterSay}

-- each image of this stop has P
abbrev pub Gives : Stop → (List ℕ → List ℕ → Type 0) → Type 0
Gives stop P = (image said : List ℕ) → IsImage stop image said → P image said

-- before the first call
pub started : (d : Disk) (P : List ℕ → List ℕ → Type 0) → LeavesOnly d d P
started d P = record { later = omega arith; each = λ t image said le left. inl left }

-- one call more
pub goes_on : (first d : Disk) (P : List ℕ → List ℕ → Type 0) (stop : Stop) (e : Disk) → LeavesOnly first d P → e.past ≡ stop ∷ d.past → Gives stop P → Gives (now e) P → LeavesOnly first e P
goes_on first d P stop e so_far past in_call after = record {
  later = omega (arith, ap length past, so_far.later);
  each = λ t image said le left. ⊎_elim (λ since. older t image said le (subst (λ (l : List Stop). Since t l image said) past since)) (λ is. inr (after image said is)) left;
}
  where
    older : (t : ℕ) (image said : List ℕ) → t ≤ length first.past → Since t (stop ∷ d.past) image said → Left first t image said ⊎ P image said
    older t image said le (inl here) = inr (in_call image said here.1)
    older t image said le (inr there) = so_far.each t image said le (inl there)

-- an image of a synced disk is its bytes
pub only_bytes : (d : Disk) → IsSynced d → (image said : List ℕ) → IsImage (now d) image said → (image ≡ d.bytes) × (said ≡ d.said)
only_bytes d s image said is = (same, is.told.1 ∙ ap (λ (l : List ℕ). d.said ++ l) (nothing is.told.0) ∙ append-nil d.said)
  where
    nothing : (n : ℕ) → take {A = ℕ} n [] ≡ []
    nothing zero = refl
    nothing (suc n) = refl

    sizes : length image ≡ length d.bytes
    sizes = omega (arith, is.no_shorter, is.no_longer, s.top, ap length s.bytes)

    outside : (k : ℕ) → Outside k d.spans
    outside k = subst (λ (l : List Span). Outside k l) (sym s.spans) tt

    same : image ≡ d.bytes
    same = ext_get_or 0 image d.bytes sizes (λ k lt. is.kept k (omega (arith, lt, sizes, ap length s.bytes)) (outside k) ∙ ap (λ (l : List ℕ). get_or l k 0) s.bytes)

pub synced : (d : Disk) → IsSynced (synced_now d)
synced d = record { bytes = refl; spans = refl; top = refl }

module _ (first d : Disk) (P : List ℕ → List ℕ → Type 0) where
  pub looks : {T : Type 0} (r : Result T Failed) (e : Disk) → AfterLook r d e → LeavesOnly first d P → Gives (now d) P → LeavesOnly first e P
  looks (Ok x) e is so_far here = subst (λ (f : Disk). LeavesOnly first f P) (sym is) (goes_on first d P (now d) (looked d) so_far refl here here)
  looks (Err x) e (inl is) so_far here = subst (λ (f : Disk). LeavesOnly first f P) (sym is) (goes_on first d P (now d) (looked d) so_far refl here here)
  looks (Err x) e (inr is) so_far here = subst (λ (f : Disk). LeavesOnly first f P) (sym is) so_far

  pub writes : (at : ℕ) (bytes : List ℕ) (r : Result Unit Failed) (e : Disk) → AfterWrite at bytes r d e → LeavesOnly first d P → Gives (writing at (length bytes) d) P → LeavesOnly first e P
  writes at bytes (Ok x) e is so_far here =
      subst (λ (f : Disk). LeavesOnly first f P) (sym is) (goes_on first d P (writing at (length bytes) d) (wrote at bytes d) so_far refl here here)
  writes at bytes (Err x) e (inl torn) so_far here =
      subst (λ (f : Disk). LeavesOnly first f P) (sym torn.2) (goes_on first d P (writing at (length bytes) d) (wrote_as at (length bytes) torn.0 d) so_far refl here here)
  writes at bytes (Err x) e (inr is) so_far here = subst (λ (f : Disk). LeavesOnly first f P) (sym is) so_far

  pub syncs : (r : Result Unit Failed) (e : Disk) → AfterSync r d e → LeavesOnly first d P → Gives (now d) P → P d.bytes d.said → LeavesOnly first e P
  syncs (Ok x) e is so_far here settled =
      subst (λ (f : Disk). LeavesOnly first f P) (sym is) (goes_on first d P (now d) (synced_now d) so_far refl here at_rest)
    where
      at_rest : Gives (now (synced_now d)) P
      at_rest image said is_image =
          let both = only_bytes (synced_now d) (synced d) image said is_image in
          subst (λ (l : List ℕ). P l said) (sym both.0) (subst (λ (l : List ℕ). P d.bytes l) (sym both.1) settled)
  syncs (Err x) e (inl is) so_far here settled = subst (λ (f : Disk). LeavesOnly first f P) (sym is) (goes_on first d P (now d) (looked d) so_far refl here here)
  syncs (Err x) e (inr is) so_far here settled = subst (λ (f : Disk). LeavesOnly first f P) (sym is) so_far

  pub says : (piece : List ℕ) (r : Result Unit Failed) (e : Disk) → AfterSay piece r d e → LeavesOnly first d P → Gives (saying piece d) P → ((n : ℕ) → Gives (now (said_so piece n d)) P) → LeavesOnly first e P
  says piece (Ok x) e is so_far here after =
      subst (λ (f : Disk). LeavesOnly first f P) (sym is) (goes_on first d P (saying piece d) (said_so piece (length piece) d) so_far refl here (after (length piece)))
  says piece (Err x) e (inl part) so_far here after =
      subst (λ (f : Disk). LeavesOnly first f P) (sym part.1) (goes_on first d P (saying piece d) (said_so piece part.0 d) so_far refl here (after part.0))
  says piece (Err x) e (inr is) so_far here after = subst (λ (f : Disk). LeavesOnly first f P) (sym is) so_far

-- two runs in a row
pub then_runs : (a b c : Disk) (P Q R : List ℕ → List ℕ → Type 0) → LeavesOnly a b P → LeavesOnly b c Q → ((image said : List ℕ) → P image said → R image said) → ((image said : List ℕ) → Q image said → R image said) → LeavesOnly a c R
then_runs a b c P Q R one two p q = record {
  later = omega (arith, one.later, two.later);
  each = λ t image said le left. ⊎_elim (λ older. ⊎_elim inl (λ h. inr (p image said h)) (one.each t image said le older)) (λ h. inr (q image said h)) (two.each t image said (omega (arith, le, one.later)) left);
}

-- ---- calls that only look

now_same : (d e : Disk) → Looks d e → now e ≡ now d
now_same d e l i = record { synced = l.synced i; spans = l.spans i; top = l.top i; said = l.said i; piece = [] }

looked_more : (first d e : Disk) → Looks first d → e ≡ looked d → Looks first e
looked_more first d e so_far is =
    let here : Gives (now d) (IsImage (now first)) = λ image said h. subst (λ (stop : Stop). IsImage stop image said) (now_same first d so_far) h in
    subst (λ (f : Disk). Looks first f) (sym is) (record {
      bytes = so_far.bytes;
      synced = so_far.synced;
      spans = so_far.spans;
      top = so_far.top;
      said = so_far.said;
      moments = goes_on first d (IsImage (now first)) (now d) (looked d) so_far.moments refl here here;
    })

pub looks_first : (d : Disk) → Looks d d
looks_first d = record { bytes = refl; synced = refl; spans = refl; top = refl; said = refl; moments = started d (IsImage (now d)) }

-- a call more
pub looks_more : {T : Type 0} (first d : Disk) (r : Result T Failed) (e : Disk) → Looks first d → AfterLook r d e → Looks first e
looks_more first d (Ok x) e so_far is = looked_more first d e so_far is
looks_more first d (Err x) e so_far (inl is) = looked_more first d e so_far is
looks_more first d (Err x) e so_far (inr is) = subst (λ (f : Disk). Looks first f) (sym is) so_far

-- two runs in a row
pub looks_then : (a b c : Disk) → Looks a b → Looks b c → Looks a c
looks_then a b c one two = record {
  bytes = two.bytes ∙ one.bytes;
  synced = two.synced ∙ one.synced;
  spans = two.spans ∙ one.spans;
  top = two.top ∙ one.top;
  said = two.said ∙ one.said;
  moments = then_runs a b c (IsImage (now a)) (IsImage (now b)) (IsImage (now a)) one.moments two.moments (λ image said h. h)
      (λ image said h. subst (λ (stop : Stop). IsImage stop image said) (now_same a b one) h);
}

-- the file as it reads is one of its images
pub reads_itself : (d : Disk) → IsDisk d → IsImage (now d) d.bytes d.said
reads_itself d is = record {
  no_shorter = is.no_shorter;
  no_longer = is.no_longer;
  kept = λ k lt out. is.kept k (lt, out);
  told = (0, sym (append-nil d.said));
}

-- no call is as late as this moment
none_since : (t : ℕ) (past : List Stop) (image said : List ℕ) → length past ≤ t → Since t past image said → ⊥
none_since t [] image said le since = since
none_since t (stop ∷ past) image said le (inl here) = absurd (omega (arith, here.0))
none_since t (stop ∷ past) image said le (inr there) = none_since t past image said (omega (arith, le)) there

-- what a stop leaves since this moment is what it leaves now
pub only_now : (d : Disk) (image said : List ℕ) → Left d (length d.past) image said → IsImage (now d) image said
only_now d image said (inl since) = absurd (none_since (length d.past) d.past image said (omega arith) since)
only_now d image said (inr here) = here

-- since the start of a run
pub each_since : (old new : Disk) (P : List ℕ → List ℕ → Type 0) → LeavesOnly old new P → Gives (now old) P → (image said : List ℕ) → Left new (length old.past) image said → P image said
each_since old new P so_far here image said left = ⊎_elim (λ older. here image said (only_now old image said older)) (λ h. h) (so_far.each (length old.past) image said (omega arith) left)

-- a run whose stops all leave what was said says nothing
pub said_stays : (old new : Disk) (P : List ℕ → List ℕ → Type 0) → LeavesOnly old new P → IsDisk new → ((image said : List ℕ) → P image said → said ≡ old.said) → new.said ≡ old.said
said_stays old new P so_far is told =
    ⊎_elim
    (λ older. let im = only_now old new.bytes new.said older in im.told.1 ∙ ap (λ (l : List ℕ). old.said ++ l) (nothing_of im.told.0) ∙ append-nil old.said)
    (λ h. told new.bytes new.said h)
    (so_far.each (length old.past) new.bytes new.said (omega arith) (inr (reads_itself new is)))
  where
    nothing_of : (n : ℕ) → take {A = ℕ} n [] ≡ []
    nothing_of zero = refl
    nothing_of (suc n) = refl

-- a run whose stops leave what has Q leaves what has P
pub weaken : (old new : Disk) (P Q : List ℕ → List ℕ → Type 0) → LeavesOnly old new Q → ((image said : List ℕ) → Q image said → P image said) → LeavesOnly old new P
weaken old new P Q so_far q = record { later = so_far.later; each = λ t image said le left. ⊎_elim inl (λ h. inr (q image said h)) (so_far.each t image said le left) }

-- what a stop in a call may have left, a stop since its start may have left
pub in_since : (t : ℕ) (past : List Stop) (image said : List ℕ) → In t past image said → Since t past image said
in_since t [] image said is = is
in_since t (stop ∷ past) image said (inl here) = inl (omega (arith, here.0), here.1)
in_since t (stop ∷ past) image said (inr there) = inr (in_since t past image said there)

-- ---- nothing is forgotten: what a stop might have left before a call it might have left after it

more : (stop later : Stop) (n : ℕ) → later.synced ≡ stop.synced → stop.top ≤ later.top → later.said ≡ stop.said → ((k : ℕ) → Outside k later.spans → Outside k stop.spans) → stop.piece ≡ [] → (image said : List ℕ) → IsImage stop image said → IsImage later image said
more stop later n synced top told spans piece image said is = record {
  no_shorter = omega (arith, is.no_shorter, ap length synced);
  no_longer = omega (arith, is.no_longer, top);
  kept = λ k lt out. is.kept k (omega (arith, lt, ap length synced)) (spans k out) ∙ ap (λ (l : List ℕ). get_or l k 0) (sym synced);
  told = (0, is.told.1 ∙ ap (λ (l : List ℕ). stop.said ++ l) (none is.told.0 stop.piece piece) ∙ ap (λ (l : List ℕ). l ++ []) (sym told));
}
  where
    none : (m : ℕ) (l : List ℕ) → l ≡ [] → take m l ≡ []
    none zero l is = refl
    none (suc m) l is = ap (λ (j : List ℕ). take (suc m) j) is

-- a call whose stop has each image of the moment before it
pub keeps : (d e : Disk) (stop : Stop) → e.past ≡ stop ∷ d.past → ((image said : List ℕ) → IsImage (now d) image said → IsImage stop image said) → (t : ℕ) (image said : List ℕ) → t ≤ length d.past → Left d t image said → Left e t image said
keeps d e stop past covers t image said le (inl since) = inl (subst (λ (l : List Stop). Since t l image said) (sym past) (inr since))
keeps d e stop past covers t image said le (inr here) = inl (subst (λ (l : List Stop). Since t l image said) (sym past) (inl (le, covers image said here)))

pub write_covers : (at n : ℕ) (d : Disk) (image said : List ℕ) → IsImage (now d) image said → IsImage (writing at n d) image said
write_covers at n d = more (now d) (writing at n d) 0 refl (omega arith) refl (λ k out. out.1) refl

pub say_covers : (piece : List ℕ) (d : Disk) (image said : List ℕ) → IsImage (now d) image said → IsImage (saying piece d) image said
say_covers piece d = more (now d) (saying piece d) 0 refl (omega arith) refl (λ k out. out) refl
