-- What a stop leaves while a file is attached.
use Rattle.std.proofs.Common.{◌≡◌, ◌≢◌, ◌∙◌, inl, inr, ⊎_elim, ℕ, ◌≤◌, ◌==◌, if◌then◌else◌, Bool, true, false, List, [], ◌∷◌, length, sym, ap, subst, arith, Result, Ok, Err}
use Rattle.std.specs.Prelude.{OnOk}
use Rattle.std.proofs.lemmas.Bool.Decides.{nat_tests}
use Rattle.oc_host.specs.Disk.{Disk, IsDisk, over, IsImage, IsSynced, LeavesOnly, Looks, AfterSync, AfterLook, now, synced_now}
use Rattle.oc_host.specs.declared.host.Failed.{Failed}
use Rattle.oc_host.proofs.Moments.{only_bytes, said_stays, synced, then_runs, weaken, looks_more, looks_first}
use Rattle.oc_layout.specs.declared.cells.CellWrite.{CellWrite}
use Rattle.oc_layout.specs.declared.cells.Header.{Header}
use Rattle.oc_log.specs.Log.{put_cells}
use Rattle.oc_pages.specs.declared.page.Page.{Page}
use Rattle.oc_slots.specs.Attaching.{IsFound, IsJudged, with_cells, with_closed, MayBeMade, MayLeave, StaysShort, StillGives}
use Rattle.oc_slots.specs.Forms.{HasForm, Gives, GivesFrom}
use Rattle.oc_slots.specs.Maps.{SlotMap}
use Rattle.oc_slots.specs.Stores.{Slots}
use Rattle.oc_slots.proofs.FormParts.{settled_kept}
use Rattle.oc_slots.proofs.OneMap.{one_form}
use Rattle.oc_slots.proofs.Recovering.{form_gives}

pub on_ok : {T E : Type 0} (r : Result T E) (P : Type 0) → P → OnOk r P
on_ok (Ok x) P p = p
on_ok (Err e) P p = tt

pub on_ok_map : {T E : Type 0} (r : Result T E) (P Q : Type 0) → OnOk r P → (P → Q) → OnOk r Q
on_ok_map (Ok x) P Q p f = f p
on_ok_map (Err e) P Q p f = tt

pub gives_long : (b : List ℕ) (m : SlotMap) → Gives b m → 128 ≤ length b
gives_long b m gives = gives.form.header.long

pub none_made : (anew : Bool) (b : List ℕ) (m : SlotMap) → Gives b m → MayBeMade anew b → ⊥
none_made anew b m gives (inl empty) = omega (arith, gives_long b m gives, empty)
none_made anew b m gives (inr short) = short.2 m gives

pub made_short : (anew : Bool) (b : List ℕ) → MayBeMade anew b → length b ≤ 128
made_short anew b (inl empty) = omega (arith, empty)
made_short anew b (inr short) = short.1

pub empty_gives_none : (b : List ℕ) → length b ≡ 0 → (m : SlotMap) → Gives b m → ⊥
empty_gives_none b empty m gives = omega (arith, gives_long b m gives, empty)

pub no_form_no_map : (b : List ℕ) → ((h : Header) (ws : List CellWrite) (pages : List Page) → HasForm h ws pages b → ⊥) → (m : SlotMap) → Gives b m → ⊥
no_form_no_map b none m gives = none gives.header gives.writes gives.pages gives.form

pub looks_synced : (d e : Disk) → Looks d e → IsSynced d → IsSynced e
looks_synced d e looks is = record {
  bytes = looks.synced ∙ is.bytes ∙ sym looks.bytes;
  spans = looks.spans ∙ is.spans;
  top = looks.top ∙ is.top ∙ ap length (sym looks.bytes);
}

module _ (anew : Bool) (d : Disk) where
  -- the file as it is
  as_it_is : (image said : List ℕ) → image ≡ d.bytes → said ≡ d.said → MayLeave anew d image said
  as_it_is image said same told = record {
    told = told;
    gives = λ first m from. subst (λ b. GivesFrom first b m) (sym same) from;
    short = λ made. subst (λ b. length b ≤ 128) (sym same) (made_short anew d.bytes made);
    stays = λ no not_made. same;
  }

  seen : (is : IsSynced d) (image said : List ℕ) → IsImage (now d) image said → MayLeave anew d image said
  seen is image said im = let same = only_bytes d is image said im in as_it_is image said same.0 same.1

  pub looked_leaves : (e : Disk) → IsSynced d → Looks d e → LeavesOnly d e (MayLeave anew d)
  looked_leaves e is looks = weaken d e (MayLeave anew d) (IsImage (now d)) looks.moments (seen is)

  short_leaves : (e : Disk) → Looks d e → MayBeMade anew d.bytes → ((m : SlotMap) → Gives d.bytes m → ⊥) → (image said : List ℕ) → StaysShort e image said → MayLeave anew d image said
  short_leaves e looks made none image said s = record {
    told = s.told ∙ looks.said;
    gives = λ first m from. absurd (none m from.gives);
    short = λ may. s.short;
    stays = λ no not_made. absurd (not_made made);
  }

  pub made_leaves : (e f : Disk) → IsSynced d → Looks d e → MayBeMade anew d.bytes → ((m : SlotMap) → Gives d.bytes m → ⊥) → LeavesOnly e f (StaysShort e) → LeavesOnly d f (MayLeave anew d)
  made_leaves e f is looks made none run = then_runs d e f (IsImage (now d)) (StaysShort e) (MayLeave anew d) looks.moments run (seen is) (short_leaves e looks made none)

  pub settled_leaves : (e f : Disk) (h : Header) (ws : List CellWrite) (s : Slots) → IsSynced d → Looks d e → IsJudged h ws s d.bytes → LeavesOnly e f (StillGives e) → LeavesOnly d f (MayLeave anew d)
  settled_leaves e f h ws s is looks judged run =
      let map = form_gives h ws s.pages d.bytes judged.form in
      then_runs d e f (IsImage (now d)) (StillGives e) (MayLeave anew d) looks.moments run (seen is) (λ image said r. record {
        told = r.told ∙ looks.said;
        gives = λ first m from. r.gives first m (subst (λ b. GivesFrom first b m) (sym looks.bytes) from);
        short = λ made. absurd (none_made anew d.bytes _ map made);
        stays = λ no not_made. absurd (no _ map);
      })

-- ---- from the first sync on

module _ (anew : Bool) (old d : Disk) (is : d ≡ synced_now old) where
  pub bytes_kept : d.bytes ≡ old.bytes
  bytes_kept = ap (λ (x : Disk). x.bytes) is

  pub is_synced : IsSynced d
  is_synced = subst IsSynced (sym is) (synced old)

  moved : (image said : List ℕ) → MayLeave anew d image said → MayLeave anew old image said
  moved image said m = record {
    told = m.told ∙ ap (λ (x : Disk). x.said) is;
    gives = λ first n from. m.gives first n (subst (λ b. GivesFrom first b n) (sym bytes_kept) from);
    short = λ made. m.short (subst (MayBeMade anew) (sym bytes_kept) made);
    stays = λ no not_made. m.stays (λ n gives. no n (subst (λ b. Gives b n) bytes_kept gives)) (λ made. not_made (subst (MayBeMade anew) bytes_kept made)) ∙ bytes_kept;
  }

  first_leaves : LeavesOnly old (synced_now old) (MayLeave anew old)
  first_leaves = record {
    later = omega arith;
    each = λ t image said le left. ⊎_elim (λ since. elim since [ inl here ↦ inl (inr here.1) | inr earlier ↦ inl (inl earlier) ])
        (λ im. let same = only_bytes (synced_now old) (synced old) image said im in inr (as_it_is anew old image said same.0 same.1)) left;
  }

  pub all_leaves : (e f : Disk) → Looks d e → LeavesOnly e f (MayLeave anew e) → LeavesOnly old f (MayLeave anew old)
  all_leaves e f looks run =
      then_runs old d f (MayLeave anew old) (MayLeave anew d) (MayLeave anew old) (subst (λ x. LeavesOnly old x (MayLeave anew old)) (sym is) first_leaves)
      (then_runs d e f (MayLeave anew d) (MayLeave anew e) (MayLeave anew d) (looked_leaves anew d e is_synced looks) run (λ image said m. m) (λ image said m. record {
        told = m.told ∙ looks.said;
        gives = λ first n from. m.gives first n (subst (λ b. GivesFrom first b n) (sym looks.bytes) from);
        short = λ made. m.short (subst (MayBeMade anew) (sym looks.bytes) made);
        stays = λ no not_made. m.stays (λ n gives. no n (subst (λ b. Gives b n) looks.bytes gives)) (λ made. not_made (subst (MayBeMade anew) looks.bytes made)) ∙ looks.bytes;
      }))
      (λ image said m. m) moved

-- a sync that failed
pub failed_leaves : (anew : Bool) (old d : Disk) (x : Failed) → AfterSync (Err x) old d → LeavesOnly old d (MayLeave anew old)
failed_leaves anew old d x (inl is) = subst (λ e. LeavesOnly old e (MayLeave anew old)) (sym is) (record {
  later = omega arith;
  each = λ t image said le left. inl (⊎_elim (λ since. elim since [ inl here ↦ inr here.1 | inr earlier ↦ inl earlier ]) (λ im. inr im) left);
})
failed_leaves anew old d x (inr is) = subst (λ e. LeavesOnly old e (MayLeave anew old)) (sym is) (record { later = omega arith; each = λ t image said le left. inl left })

pub sync_failed : (anew : Bool) (old d : Disk) (x : Failed) (r : Result Unit Failed) → r ≡ Err x → AfterSync r old d → LeavesOnly old d (MayLeave anew old)
sync_failed anew old d x r is after = failed_leaves anew old d x (subst (λ y. AfterSync y old d) is after)

pub len_looks : {T : Type 0} (d e : Disk) (r : Result T Failed) → AfterLook r d e → Looks d e
len_looks d e r after = looks_more d d r e (looks_first d) after

-- ---- what is found of a file of the form

module _ (g h : Header) (vs ws : List CellWrite) (pages : List Page) (s : Slots) (b : List ℕ) (judged : IsJudged g vs s b) (form : HasForm h ws pages b) where
  same_header : g ≡ h
  same_header = (one_form b g h vs ws s.pages pages judged.form form).0

  same_writes : vs ≡ ws
  same_writes = (one_form b g h vs ws s.pages pages judged.form form).1

  found_with : (now : List ℕ) → now ≡ (if h.gate == 1 then over 64 (0 ∷ []) (put_cells ws b) else b) → IsFound h ws pages s b now
  found_with now bytes = record {
    header = judged.header ∙ (λ i. with_closed (with_cells (same_header i) (same_writes i)));
    pages = (one_form b g h vs ws s.pages pages judged.form form).2;
    bytes = bytes;
  }

  pub found_shut : g.gate ≢ 1 → IsFound h ws pages s b b
  found_shut gate =
      let none : (h.gate == 1) ≡ false = (λ i. (sym same_header i).gate == 1) ∙ grind (arith, nat_tests, gate) in
      found_with b (sym (ap (λ t. if t then over 64 (0 ∷ []) (put_cells ws b) else b) none))

  pub found_open : g.gate ≡ 1 → (now : List ℕ) → now ≡ over 64 (0 ∷ []) (put_cells vs b) → IsFound h ws pages s b now
  found_open gate now bytes =
      let some : (h.gate == 1) ≡ true = (λ i. (sym same_header i).gate == 1) ∙ grind (arith, nat_tests, gate) in
      found_with now (bytes ∙ ap (λ l. over 64 (0 ∷ []) (put_cells l b)) same_writes ∙ sym (ap (λ t. if t then over 64 (0 ∷ []) (put_cells ws b) else b) some))

-- the store has the first number of the file's header
pub found_first : (first : ℕ) (m : SlotMap) (s : Slots) (old new : List ℕ) (from : GivesFrom first old m) → IsFound (from.gives).header (from.gives).writes (from.gives).pages s old new → (s.header).first ≡ first
found_first first m s old new from found = ap (λ (h : Header). h.first) (found.header ∙ settled_kept (from.gives).header (from.gives).writes) ∙ from.is_first

-- what was said stays
pub said_kept : (anew : Bool) (old new : Disk) → IsDisk new → LeavesOnly old new (MayLeave anew old) → new.said ≡ old.said
said_kept anew old new sound run = said_stays old new (MayLeave anew old) run sound (λ image said m. m.told)
