use Rattle.std.proofs.Common.{◌≡◌, true, false, rules, None, Some}
use Rattle.std.specs.Prelude.{if◌then◌else◌}
use Rattle.oc_model.specs.SchemaRules.{keeps_rules}
use Rattle.oc_schema.specs.Drafts.{schema_of}
use Rattle.oc_catalog.specs.declared.reading.Draft.{Draft}
use Rattle.oc_catalog.specs.Catalogs.{lists_keep}
use Rattle.oc_catalog.specs.Drafts.{SpellsDraft}
use Rattle.oc_catalog.proofs.Judged.{catalog_draft, catalog_found, catalog_only, draft_of, none_judged, none_ruled, some_if, none_if}
use Rattle.oc_catalog.proofs.reading.catalog_in.Goals as goal

pub returns-in_default-clause-none : goal.returns-in_default-clause-none
returns-in_default-clause-none c x s =
    let none : (d : Draft) → SpellsDraft d c.args.bytes.now → ⊥ = search rules in
    none (draft_of x) (catalog_draft x c.args.bytes.now s)

pub returns-then-not-branch-clause-none : goal.returns-then-not-branch-clause-none
returns-then-not-branch-clause-none c =
    let only : (other : Draft) → SpellsDraft other c.args.bytes.now → other ≡ c.in-Some.draft = search rules in
    let broken : lists_keep c.in-Some.draft.classes c.in-Some.draft.lists ≡ false = search rules in
    none_judged c.in-Some.draft c.args.bytes.now only broken

pub returns-in_default-2-clause-none : goal.returns-in_default-2-clause-none
returns-in_default-2-clause-none c =
    let d = c.in-Some.draft in
    let only : (other : Draft) → SpellsDraft other c.args.bytes.now → other ≡ c.in-Some.draft = search rules in
    let e : None ≡ (if keeps_rules (schema_of d.classes d.next_field) then Some (schema_of d.classes d.next_field) else None) = search rules in
    none_ruled c.in-Some.draft c.args.bytes.now only (none_if _ _ e)

pub returns-clause-spelled : goal.returns-clause-spelled
returns-clause-spelled c =
    let d = c.in-Some.draft in
    let spells : SpellsDraft c.in-Some.draft c.args.bytes.now = search rules in
    let kept : lists_keep d.classes d.lists ≡ true = search rules in
    let e : Some c.in-Some-2.schema ≡ (if keeps_rules (schema_of d.classes d.next_field) then Some (schema_of d.classes d.next_field) else None) = search rules in
    let r = some_if _ _ _ e in
    rw r.1 (catalog_found c.in-Some.draft c.args.bytes.now spells kept r.0)

pub returns-clause-only : goal.returns-clause-only
returns-clause-only c other s =
    let d = c.in-Some.draft in
    let only : (other : Draft) → SpellsDraft other c.args.bytes.now → other ≡ c.in-Some.draft = search rules in
    let e : Some c.in-Some-2.schema ≡ (if keeps_rules (schema_of d.classes d.next_field) then Some (schema_of d.classes d.next_field) else None) = search rules in
    let r = some_if _ _ _ e in
    rw r.1 (catalog_only c.in-Some.draft c.args.bytes.now only other s)
