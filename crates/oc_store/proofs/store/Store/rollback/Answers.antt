use Rattle.std.proofs.Common.{◌≡◌, sym, subst, []}
use Rattle.std.specs.Prelude.{unwrap_or}
use Rattle.oc_lists.specs.Lists.{lists_then}
use Rattle.oc_store.specs.Filed.{Agrees, FiledStore, IsFiled}
use Rattle.oc_store.specs.Sides.{Heading}
use Rattle.oc_store.proofs.Fresh.{fresh_store}
use Rattle.oc_store.proofs.RolledBack.{parted_fresh, rolled_agrees, rolled_filed, same_committed}
use Rattle.oc_store.proofs.store.Store.rollback.Goals as goal

pub invariant_of-self : goal.invariant_of-self
invariant_of-self c =
    let i = c.self.inside in
    let t = c.give_up.new.slots in
    let e = c.give_up.ensures in
    let then : Heading = record { next = i.next; schema = i.schema } in
    let now : Heading = record { next = c.give_up.new.session.next; schema = unwrap_or c.give_up.new.session.schema i.schema } in
    let back : now ≡ then = λ j. record { next = e.next j; schema = unwrap_or (e.schema j) i.schema } in
    let rolled = rolled_filed i.slots t then (record { next = i.session.next; schema = unwrap_or i.session.schema i.schema }) i.indexes i.session.classes.entries c.self.invariant.0 e.pages e.objects e.system in (
      subst (IsFiled t then now c.give_up.new.indexes) (sym e.classes)
          (subst (λ l. IsFiled t then now l []) (sym e.lists) (subst (λ h. IsFiled t then h (lists_then i.indexes) []) (sym back) rolled)),
      λ is. parted_fresh t then i.indexes c.give_up.new.indexes c.give_up.new.session.next c.give_up.new.session.schema c.give_up.new.session.touched e.next e.schema e.lists e.touched e.objects e.system c.self.invariant.0.written,
    )

pub returns-clause-agrees : goal.returns-clause-agrees
returns-clause-agrees c disk agrees =
    let i = c.self.inside in
    let t = c.give_up.new.slots in
    let e = c.give_up.ensures in
    let then : Heading = record { next = i.next; schema = i.schema } in
    let old : FiledStore = record { slots = i.slots; committed = then; session = record { next = i.session.next; schema = unwrap_or i.session.schema i.schema }; lists = i.indexes; touched = i.session.touched } in
    let new : FiledStore = record { slots = t; committed = then; session = record { next = c.give_up.new.session.next; schema = unwrap_or c.give_up.new.session.schema i.schema }; lists = c.give_up.new.indexes; touched = c.give_up.new.session.touched } in
    let back : new ≡ fresh_store t then (lists_then i.indexes) = λ j. record { slots = t; committed = then; session = record { next = e.next j; schema = unwrap_or (e.schema j) i.schema }; lists = e.lists j; touched = e.touched j } in
    let was : Agrees old disk = subst (λ x. Agrees x disk) (sym c.self.view_is) agrees in
    subst (λ x. Agrees x disk) (sym back) (rolled_agrees old t disk disk e.header (same_committed i.slots t disk e.header e.pages) was (e.agrees disk was.slots))
