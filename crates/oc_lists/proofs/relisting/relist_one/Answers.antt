use Rattle.std.proofs.Common.{◌≡◌, ◌∙◌, ap, sym, subst, ℕ}
use Rattle.oc_chunks.specs.Chunks.{joined}
use Rattle.oc_lists.specs.Keeping.{class_noted, AreNoted}
use Rattle.oc_lists.specs.Lists.{class_in}
use Rattle.oc_lists.specs.Refiling.{class_of_rec}
use Rattle.oc_lists.proofs.Moved.{moved_self}
use Rattle.oc_lists.proofs.Notes.{noted_more}
use Rattle.oc_lists.specs.Staying.{keeps_key}
use Rattle.oc_lists.proofs.Staying.{stay_after, stay_same, stay_self}
use Rattle.oc_lists.proofs.relisting.relist_one.Goals as goal

pub returns-in_err-note-clause-moved : goal.returns-in_err-note-clause-moved
returns-in_err-note-clause-moved c = moved_self c.args.indexes.now

pub returns-in_err-note-clause-stays : goal.returns-in_err-note-clause-stays
returns-in_err-note-clause-stays c = stay_self (λ id. keeps_key c.args.schema.now id c.args.old.now c.args.new.now) c.args.indexes.now

pub returns-in_err-put_or_take-clause-stays : goal.returns-in_err-put_or_take-clause-stays
returns-in_err-put_or_take-clause-stays c = stay_same (λ id. keeps_key c.args.schema.now id c.args.old.now c.args.new.now) c.args.indexes.now c.put_or_take.new.indexes c.put_or_take.ensures.fields

pub returns-in_err-rekey-clause-stays : goal.returns-in_err-rekey-clause-stays
returns-in_err-rekey-clause-stays c =
    stay_after (λ id. keeps_key c.args.schema.now id c.args.old.now c.args.new.now) c.args.indexes.now c.put_or_take.new.indexes c.rekey.new.indexes c.put_or_take.ensures.fields c.rekey.ensures.stays

pub returns-clause-stays : goal.returns-clause-stays
returns-clause-stays c =
    stay_after (λ id. keeps_key c.args.schema.now id c.args.old.now c.args.new.now) c.args.indexes.now c.put_or_take.new.indexes c.rekey.new.indexes c.put_or_take.ensures.fields c.rekey.ensures.stays

pub returns-clause-noted : goal.returns-clause-noted
returns-clause-noted c then h =
    subst (λ es. AreNoted c.note.new.classes.entries es then) (sym (ap (λ e. joined e.chunks) c.rekey.ensures.extents ∙ c.in_ok-put_or_take.ensures.extents))
    (noted_more c.args.classes.now.entries c.note.new.classes.entries (joined c.args.indexes.now.extents.chunks) c.args.number (class_of_rec c.args.new.now) c.in_ok-note.ensures.noted
    (subst (λ e. (n : ℕ) → class_noted c.note.new.classes.entries (class_in (joined e.chunks) n) n ≡ class_noted c.args.classes.now.entries (class_in (joined e.chunks) n) n) c.extents.ensures c.in_ok-note.ensures.still) then h)
