-- A new class by the lists is one by the definition.
use Rattle.std.proofs.Common.{◌≡◌, sym, ap, ◌∙◌}
use Rattle.oc_run.proofs.ListLemmas.{new_is_flat}
use Rattle.oc_run.proofs.NewClasses.{given_twice, no_room, stays_within, declares}
use Rattle.oc_run.proofs.list_store.ListStore.declare.Goals as goal

pub returns-then-not-branch : goal.returns-then-not-branch
returns-then-not-branch c =
    let room = c.has_room-has_room.ensures in
    given_twice c.args.self.now c.args.name.now c.args.decls.now c.new_class_limits.ensures room.earlier room.within c.requires.is_free (sym c.in_ok-has_distinct_names.ensures ∙ c.if-not-branch.true)

pub returns-then-not-has_room : goal.returns-then-not-has_room
returns-then-not-has_room c =
    let room = c.if-not-has_room.ensures in
    no_room c.args.self.now c.args.name.now c.args.decls.now c.new_class_limits.ensures room.earlier room.within c.requires.is_free (sym c.in_ok-has_distinct_names.ensures ∙ c.if-not-branch.false) (sym room.room)

pub add-requires-clause-is_within : goal.add-requires-clause-is_within
add-requires-clause-is_within c =
    let room = c.if-not-has_room.ensures in
    let next : c.self.inside.next_field ≡ c.args.self.now.session.schema.next_field = ap (λ m. m.session.schema.next_field) c.self.view_is in
    rw (c.in_ok-copy.ensures, c.in_ok-new_fields.ensures, next)
    (stays_within c.args.self.now c.args.name.now c.args.decls.now c.new_class_limits.ensures room.earlier room.within (sym room.room))

pub add-requires-clause-is_flat : goal.add-requires-clause-is_flat
add-requires-clause-is_flat c = rw c.in_ok-new_fields.ensures (new_is_flat c.in_ok-copy.field-0 _ c.args.decls.now (sym c.in_ok-has_distinct_names.ensures ∙ c.if-not-branch.false) c.requires.are_built)

pub returns : goal.returns
returns c =
    let room = c.if-not-has_room.ensures in
    let next : c.self.inside.next_field ≡ c.args.self.now.session.schema.next_field = ap (λ m. m.session.schema.next_field) c.self.view_is in
    rw (c.in_ok-add.ensures, c.in_ok-copy.ensures, c.in_ok-new_fields.ensures, next)
    (declares c.args.self.now c.args.name.now c.args.decls.now c.new_class_limits.ensures room.earlier room.within c.requires.is_free (sym c.in_ok-has_distinct_names.ensures ∙ c.if-not-branch.false) (sym room.room))
