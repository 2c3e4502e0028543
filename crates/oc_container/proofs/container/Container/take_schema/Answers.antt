use Rattle.std.proofs.Common.{◌≤◌, ◌+◌, sym, subst, rules}
use Rattle.oc_model.specs.Lists.{IsOneOf}
use Rattle.oc_chunks.specs.Chunks.{joined}
use Rattle.oc_lists.specs.Following.{reindexed}
use Rattle.oc_slots.specs.declared.slot.Side.TheVariants.{Session}
use Rattle.oc_slots.specs.Stores.{session}
use Rattle.oc_store.specs.Filed.{class_on, IsRead}
use Rattle.oc_store.specs.Reindexing.{objects_len}
use Rattle.oc_store.specs.Stands.{object_slot}
use Rattle.oc_container.specs.Contained.{Contained}
use Rattle.oc_container.proofs.Steps.{on_error, schema_meets, schema_spent}
use Rattle.oc_container.proofs.container.Container.take_schema.Goals as goal

pub returns-clause-step : goal.returns-clause-step
returns-clause-step g c = λ t m h.
    schema_meets c.args.self.now _ _ _ _ _ m c.args.schema (sym c.self.view_is) h (c.in_ok-set_schema.ensures.shows t m.committed m.session)

pub returns-in_err-set_schema-clause-spent : goal.returns-in_err-set_schema-clause-spent
returns-in_err-set_schema-clause-spent g c =
    on_error c.from_residual.result _ (λ t m h. schema_spent c.args.self.now _ _ _ _ _ m (sym c.self.view_is) h (c.in_err-set_schema.ensures.still t m.committed m.session))

pub returns-in_err-set_schema-clause-damaged : goal.returns-in_err-set_schema-clause-damaged
returns-in_err-set_schema-clause-damaged g c = λ space n e.
    let d = c.in_err-set_schema.ensures.damaged space n (search rules) in (
      d.0,
      subst (λ (v : Contained). IsOneOf n (reindexed ((v.store).session).schema c.args.schema (joined (((v.store).lists).extents).chunks))) c.self.view_is d.1,
      λ t found r. d.2 t found (subst (λ (v : Contained). IsRead ((v.store).session).schema (class_on Session v.store n) (session (v.store).slots (g.H.Host.disk c.args.host.now) (object_slot n)) found) (sym c.self.view_is) r),
    )

pub returns-in_err-set_schema-clause-taken : goal.returns-in_err-set_schema-clause-taken
returns-in_err-set_schema-clause-taken g c =
    subst (λ (v : Contained). g.H.Host.taken c.set_schema.new.host ≤ g.H.Host.taken c.args.host.now + objects_len (v.store).slots (reindexed ((v.store).session).schema c.args.schema (joined (((v.store).lists).extents).chunks))) c.self.view_is c.set_schema.ensures.taken

pub returns-clause-taken : goal.returns-clause-taken
returns-clause-taken g c =
    subst (λ (v : Contained). g.H.Host.taken c.set_schema.new.host ≤ g.H.Host.taken c.args.host.now + objects_len (v.store).slots (reindexed ((v.store).session).schema c.args.schema (joined (((v.store).lists).extents).chunks))) c.self.view_is c.set_schema.ensures.taken
