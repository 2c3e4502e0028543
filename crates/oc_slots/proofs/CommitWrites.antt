-- What the writes of a commit leave, one after another.
use Rattle.std.proofs.Common.{◌≡◌, ◌∙◌, inl, inr, ℕ, ◌+◌, ◌*◌, max, List, [], ◌∷◌, length, sym, ap, subst}
use Rattle.oc_layout.specs.declared.cells.Header.{Header}
use Rattle.oc_layout.specs.Layout.{unit_of, is_wide, write_len}
use Rattle.oc_host.specs.Disk.{Disk, IsDisk, IsSynced, LeavesOnly, over}
use Rattle.oc_host.proofs.Moments.{then_runs, weaken}
use Rattle.oc_log.specs.Log.{with_log, put_cells, log_at, staged}
use Rattle.oc_log.specs.States.{MayPrepare}
use Rattle.oc_log.specs.Stops.{NoneOrAll}
use Rattle.oc_pages.specs.declared.page.Page.{Page}
use Rattle.oc_slots.specs.declared.commit_plan.CommitPlan.{CommitPlan}
use Rattle.oc_slots.specs.Commits.{IsCommit}
use Rattle.oc_slots.specs.Forms.{GivesFrom}
use Rattle.oc_slots.specs.Held.{Holds, map_of}
use Rattle.oc_slots.specs.Maps.{Same}
use Rattle.oc_slots.specs.Pieces.{over_all}
use Rattle.oc_slots.specs.Planning.{IsWritable, OldOrNew, AreFit, header_after, slot_pieces, page_pieces, written}
use Rattle.oc_slots.specs.Writing.{Keeps, Before}
use Rattle.oc_slots.proofs.Committing.{either_gives}
use Rattle.oc_slots.proofs.Committed as after
use Rattle.oc_slots.proofs.HeldGives.{gives_same}

module _ (h : Header) (old new : List Page) (plan : CommitPlan) (len : plan.place.len ≡ 4 + write_len (is_wide h) * length plan.draft.writes) (d : Disk) (w : IsWritable h old new plan d) where
  -- while the slots are written
  pub runs_leave : (e : Disk) → LeavesOnly d e (Before h old d) → LeavesOnly d e (OldOrNew h old new plan d)
  runs_leave e first = weaken d e (OldOrNew h old new plan d) (Before h old d) first (λ image said b. (b.0, inl b.1))

  module _ (e : Disk) (slots : e.bytes ≡ over_all (slot_pieces plan) d.bytes) (keeps : Keeps h old d e) (first : LeavesOnly d e (Before h old d)) where
    pub held : Holds h old e
    held = keeps.holds w.holds

    pub slots_size : length e.bytes ≡ plan.planned.end
    slots_size = ap length slots ∙ w.size

    still : (image said : List ℕ) → Before h old e image said → OldOrNew h old new plan d image said
    still image said b = (b.0 ∙ keeps.said, inl (gives_same h.first image (map_of h old d.bytes) (map_of h old e.bytes) (λ id. sym (keeps.same w.holds id)) b.1))

    -- while the pages are written
    pub pages_leave : (f : Disk) → LeavesOnly e f (Before h old e) → LeavesOnly d f (OldOrNew h old new plan d)
    pages_leave f second = then_runs d e f (Before h old d) (Before h old e) (OldOrNew h old new plan d) first second (λ image said b. (b.0, inl b.1)) still

    module _ (f : Disk) (pages : f.bytes ≡ over_all (page_pieces (unit_of h) plan new) e.bytes) (kept : Keeps h old e f) (second : LeavesOnly e f (Before h old e)) (fit : AreFit new plan.added.items) where
      all_written : f.bytes ≡ written (unit_of h) plan new d.bytes
      all_written = pages ∙ ap (over_all (page_pieces (unit_of h) plan new)) slots

      held_then : Holds h old f
      held_then = kept.holds held

      commit : IsCommit h old new plan.place plan.draft.writes f
      commit = (w.commit f held_then all_written fit).0

      pub may : MayPrepare (with_log h plan.place) plan.draft.writes f
      may = after.may h old new f held_then plan.place plan.draft.writes commit len (w.commit f held_then all_written fit).1 w.cells w.fits

      none_or_all : (image said : List ℕ) → NoneOrAll (with_log h plan.place) plan.draft.writes f image said → OldOrNew h old new plan d image said
      none_or_all image said r =
          let gives = either_gives h old new f held_then plan.place plan.draft.writes commit image said r in (
            gives.0 ∙ kept.said ∙ keeps.said,
            elim gives.1 [
              | inl before ↦ inl (gives_same h.first image (map_of h old d.bytes) (map_of h old f.bytes) (λ id. sym (kept.same held id ∙ keeps.same w.holds id)) before)
              | inr behind ↦ inr (subst (λ b. GivesFrom h.first image (map_of h new (put_cells plan.draft.writes b))) all_written behind)
            ],
          )

      -- while the log is put in
      pub log_leaves : (z : Disk) → LeavesOnly f z (NoneOrAll (with_log h plan.place) plan.draft.writes f) → LeavesOnly d z (OldOrNew h old new plan d)
      log_leaves z third =
          then_runs d f z (OldOrNew h old new plan d) (NoneOrAll (with_log h plan.place) plan.draft.writes f) (OldOrNew h old new plan d) (pages_leave f second) third (λ image said r. r) none_or_all

      -- and then
      module _ (z : Disk) (bytes : z.bytes ≡ over 64 (0 ∷ []) (put_cells plan.draft.writes (over 64 (1 ∷ []) (staged (with_log h plan.place) plan.draft.writes f.bytes)))) (synced : IsSynced z) (sound : IsDisk z) where
        pub holds_then : Holds (header_after plan h) new z
        holds_then = after.holds_new h old new f held_then plan.place plan.draft.writes commit len (w.commit f held_then all_written fit).1 w.cells w.fits z bytes synced sound

        pub map_then : Same (map_of (header_after plan h) new z.bytes) (map_of h new (put_cells plan.draft.writes (written (unit_of h) plan new d.bytes)))
        map_then id =
            after.map_new h old new f held_then plan.place plan.draft.writes commit len (w.commit f held_then all_written fit).1 w.cells w.fits z bytes synced sound id
            ∙ ap (λ b. map_of h new (put_cells plan.draft.writes b) id) all_written

        pub size_then : length z.bytes ≡ max (length (written (unit_of h) plan new d.bytes)) (log_at (with_log h plan.place) + plan.place.len)
        size_then =
            after.size_new h old new f held_then plan.place plan.draft.writes commit len (w.commit f held_then all_written fit).1 w.cells w.fits z bytes synced sound
            ∙ ap (λ b. max (length b) (log_at (with_log h plan.place) + plan.place.len)) all_written
