use Rattle.std.proofs.Common.{◌∙◌, ap}
use Rattle.oc_chunks.specs.Chunks.{joined}
use Rattle.oc_index.specs.Ranges.{is_numbered}
use Rattle.oc_lists.proofs.Again.{listed_stays, never_listed}
use Rattle.oc_lists.proofs.Moved.{joined_left, moved_self, put_moved, taken_moved}
use Rattle.oc_lists.proofs.relisting.put_or_take.Goals as goal

pub returns-then-is_listed-clause-moved : goal.returns-then-is_listed-clause-moved
returns-then-is_listed-clause-moved c = moved_self c.args.indexes.now

pub returns-then-is_listed-clause-extents : goal.returns-then-is_listed-clause-extents
returns-then-is_listed-clause-extents c =
    listed_stays c.args.number c.args.rec.now c.args.indexes.now.extents c.extents.result.now c.extents.ensures c.is_listed.ensures.order (c.is_listed.ensures.listed.0 c.if-is_listed.true)

pub returns-in-Some-clause-moved : goal.returns-in-Some-clause-moved
returns-in-Some-clause-moved c = put_moved c.put.result (λ _. 8) 512 c.args.indexes.now c.put.new.self c.put.ensures.segments c.put.ensures.chunks c.put.ensures.extents_marked c.put.ensures.fields c.put.ensures.err

pub returns-in-Some-clause-untouched : goal.returns-in-Some-clause-untouched
returns-in-Some-clause-untouched c = never_listed c.args.number c.args.rec.now c.args.indexes.now.extents c.extents.result.now c.extents.ensures c.is_listed.result c.is_listed.ensures.listed c.if-is_listed.false

pub returns-in-None-clause-untouched : goal.returns-in-None-clause-untouched
returns-in-None-clause-untouched c = never_listed c.args.number c.args.rec.now c.args.indexes.now.extents c.extents.result.now c.extents.ensures c.is_listed.result c.is_listed.ensures.listed c.if-is_listed.false

pub returns-in-None-clause-moved : goal.returns-in-None-clause-moved
returns-in-None-clause-moved c = taken_moved (is_numbered c.args.number) c.args.indexes.now c.take.new.self c.take.ensures.chunks c.take.ensures.extents_marked c.take.ensures.fields

pub returns-in-None-clause-extents : goal.returns-in-None-clause-extents
returns-in-None-clause-extents c = rw c.in-None.is (ap joined c.take.ensures.chunks ∙ joined_left (is_numbered c.args.number) c.args.indexes.now.extents.chunks)
