use Rattle.std.proofs.Common.{◌≡◌, ◌∙◌, ◌++◌, ap, sym, rules, append_assoc}
use Rattle.std.specs.Int.{w16, w32}
use Rattle.oc_model.specs.Spelling.{class_bytes, counted}
use Rattle.oc_catalog.specs.declared.catalog.Catalog.{Catalog}
use Rattle.oc_catalog.specs.Drafts.{entry_bytes, head_bytes}
use Rattle.oc_catalog.proofs.Judged.{bytes_are, classes_are}
use Rattle.oc_catalog.proofs.writing.write_catalog_of.Goals as goal

pub write_classes-requires : goal.write_classes-requires
write_classes-requires c = classes_are c.args.schema.now c.keeps_rules.ensures

pub returns : goal.returns
returns c =
    let k : Catalog = record { next = c.args.next; schema = c.args.schema.now; lists = c.args.lists.now } in
    let head = head_bytes (k.next, (k.schema).next_field) in
    let classes = counted w16 class_bytes (k.schema).classes in
    let lists = counted w32 entry_bytes k.lists in
    let first : c.write_head.new.out.items ≡ head = search rules in
    let second : c.write_classes.new.out.items ≡ c.write_head.new.out.items ++ classes = search rules in
    let third : c.write_many.new.out.items ≡ c.write_classes.new.out.items ++ lists = search rules in
    record {
      is = record { next = c.requires.next; schema = c.keeps_rules.ensures; lists = c.requires.lists };
      bytes = third ∙ ap (λ l. l ++ lists) (second ∙ ap (λ l. l ++ classes) first) ∙ append_assoc head classes lists ∙ sym (bytes_are k);
    }
