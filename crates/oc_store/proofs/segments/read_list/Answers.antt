use Rattle.std.proofs.Common.{◌≡◌, ◌<◌, ◌∙◌, [], ◌∷◌, ◌++◌, length, get_or, ap, sym, subst, refl, arith, rules, map}
use Rattle.std.specs.Prelude.{IsErrOf, IsTrue}
use Rattle.std.specs.List.{list_all}
use Rattle.std.proofs.lemmas.List.{take_all}
use Rattle.oc_host.proofs.Moments.{looks_then}
use Rattle.oc_chunks.specs.Chunks.{joined}
use Rattle.oc_chunks.specs.declared.opening.Written.{Written}
use Rattle.oc_chunks.specs.Opening.{chunk_read, Follows, IsList}
use Rattle.oc_segments.specs.Segments.{SpellsSegment}
use Rattle.oc_slots.specs.Held.{map_of}
use Rattle.oc_slots.specs.declared.slot.Side.TheVariants.{Committed}
use Rattle.oc_slots.specs.Stores.{length_on}
use Rattle.oc_store.specs.declared.fault.ReadFault.TheVariants as read_fault
use Rattle.oc_store.specs.Listed.{is_segment}
use Rattle.oc_store.specs.Lists.{chunk_kept, system_slot, AreNext, IsDamagedAt, IsNext}
use Rattle.oc_store.proofs.Ends.{mapped}
use Rattle.oc_store.proofs.Gathered.{all_further, all_joined}
use Rattle.oc_store.proofs.Readings.{all_read, list_more, next_more, numbers_of, numbers_read, read_damaged, read_more, rest_more}
use Rattle.oc_store.proofs.segments.read_list.Goals as goal

pub returns-in_err-entries-clause-damaged : goal.returns-in_err-entries-clause-damaged
returns-in_err-entries-clause-damaged g c space n is =
    let inv = c.loop-number.invariant in
    let s = c.args.slots.now in
    let err : IsErrOf c.read_next.result (read_fault.Damaged space n) = search rules in
    let r = c.read_next.ensures.damaged space n err in (
      r.0,
      λ told.
          subst (λ k. IsDamagedAt (SpellsSegment g.E.Entry.order (g.E.Item.stands c.args.base) (g.E.Item.spell c.args.base)) (map_of s.header s.pages (g.H.Host.disk c.args.host.now).bytes) g.E.Entry.order (g.E.Listed.suits c.args.schema.now) c.args.segments.now k) (sym r.1)
          (read_damaged (SpellsSegment g.E.Entry.order (g.E.Item.stands c.args.base) (g.E.Item.spell c.args.base)) (map_of s.header s.pages (g.H.Host.disk c.args.host.now).bytes) g.E.Entry.order (g.E.Listed.suits c.args.schema.now)
          c.loop-number.chunks.items c.args.segments.now c.loop-number.number-index (get_or c.args.segments.now c.loop-number.number-index 0) (omega arith) refl inv.numbers (inv.sound told)
          (λ entries next. r.2 told entries (subst (λ l. IsNext (SpellsSegment g.E.Entry.order (g.E.Item.stands c.args.base) (g.E.Item.spell c.args.base)) (map_of s.header s.pages (g.H.Host.disk c.loop-number.host).bytes) g.E.Entry.order (g.E.Listed.suits c.args.schema.now) (joined (map chunk_read l)) (chunk_kept (get_or c.args.segments.now c.loop-number.number-index 0) entries)) (sym c.deref.ensures.value) (subst (λ b. IsNext (SpellsSegment g.E.Entry.order (g.E.Item.stands c.args.base) (g.E.Item.spell c.args.base)) (map_of s.header s.pages b) g.E.Entry.order (g.E.Listed.suits c.args.schema.now) (joined (map chunk_read c.loop-number.chunks.items)) (chunk_kept (get_or c.args.segments.now c.loop-number.number-index 0) entries)) (sym (inv.looks told).bytes) next)))),
    )

pub returns-in_err-entries-clause-looks : goal.returns-in_err-entries-clause-looks
returns-in_err-entries-clause-looks g c told = looks_then _ _ _ (c.loop-number.invariant.looks told) (c.read_next.ensures.looks told)

pub returns-in_err-push-clause-looks : goal.returns-in_err-push-clause-looks
returns-in_err-push-clause-looks g c told = looks_then _ _ _ (c.loop-number.invariant.looks told) (c.read_next.ensures.looks told)

pub loop-number-preserved : goal.loop-number-preserved
loop-number-preserved g c =
    let inv = c.loop-number.invariant in
    let s = c.args.slots.now in
    let i = c.loop-number.number-index in
    let n = get_or c.args.segments.now i 0 in
    let ws = c.loop-number.chunks.items in
    let w : Written g.row.E.Denot = record { entries = c.in_ok-entries.entries; number = n } in
    let lt : i < length c.args.segments.now = omega arith in
    let grown : c.push.new.self.items ≡ ws ++ w ∷ [] = c.in_ok-push.ensures.items in
    record {
      list = subst (λ l. IsList g.E.Entry.order (map chunk_read l)) (sym grown) (list_more g.E.Entry.order ws w inv.list (subst (λ l. Follows g.E.Entry.order (joined (map chunk_read l)) w.entries.items) c.deref.ensures.value c.in_ok-entries.ensures.follows));
      numbers = ap numbers_of grown ∙ read_more (SpellsSegment g.E.Entry.order (g.E.Item.stands c.args.base) (g.E.Item.spell c.args.base)) (map_of s.header s.pages []) g.E.Entry.order (g.E.Listed.suits c.args.schema.now) ws c.args.segments.now i n lt refl inv.numbers w refl;
      writable = subst (λ l. IsTrue (list_all (g.E.Item.stands c.args.base) (joined (map chunk_read l)))) (sym grown) (all_joined (g.E.Item.stands c.args.base) ws w inv.writable c.in_ok-entries.ensures.writable);
      suit = subst (λ l. IsTrue (list_all (g.E.Listed.suits c.args.schema.now) (joined (map chunk_read l)))) (sym grown) (all_joined (g.E.Listed.suits c.args.schema.now) ws w inv.suit c.in_ok-entries.ensures.suit);
      there = all_further (is_segment s) c.args.segments.now i 0 lt inv.there c.in_ok-entries.ensures.there;
      sound = λ told.
          subst (λ l. AreNext (SpellsSegment g.E.Entry.order (g.E.Item.stands c.args.base) (g.E.Item.spell c.args.base)) (map_of s.header s.pages (g.H.Host.disk c.args.host.now).bytes) g.E.Entry.order (g.E.Listed.suits c.args.schema.now) [] l) (sym (ap (map chunk_read) grown ∙ mapped ws w))
          (next_more (SpellsSegment g.E.Entry.order (g.E.Item.stands c.args.base) (g.E.Item.spell c.args.base)) (map_of s.header s.pages (g.H.Host.disk c.args.host.now).bytes) g.E.Entry.order (g.E.Listed.suits c.args.schema.now) [] (map chunk_read ws) (chunk_read w) (inv.sound told)
          (subst (λ b. IsNext (SpellsSegment g.E.Entry.order (g.E.Item.stands c.args.base) (g.E.Item.spell c.args.base)) (map_of s.header s.pages b) g.E.Entry.order (g.E.Listed.suits c.args.schema.now) (joined (map chunk_read ws)) (chunk_read w)) (inv.looks told).bytes (subst (λ l. IsNext (SpellsSegment g.E.Entry.order (g.E.Item.stands c.args.base) (g.E.Item.spell c.args.base)) (map_of s.header s.pages (g.H.Host.disk c.loop-number.host).bytes) g.E.Entry.order (g.E.Listed.suits c.args.schema.now) (joined (map chunk_read l)) (chunk_read w)) c.deref.ensures.value (c.in_ok-entries.ensures.next told))));
      agrees = c.read_next.ensures.agrees;
      looks = λ told. looks_then _ _ _ (inv.looks told) (c.read_next.ensures.looks told);
      later = omega (arith, inv.later, c.read_next.ensures.later);
      taken = omega (arith, inv.taken, c.read_next.ensures.taken, rest_more (λ k. length_on Committed s (system_slot k)) c.args.segments.now i n 0 lt refl);
    }

pub returns-clause-sound : goal.returns-clause-sound
returns-clause-sound g c told =
    let inv = c.loop-number.invariant in
    let s = c.args.slots.now in
    all_read (SpellsSegment g.E.Entry.order (g.E.Item.stands c.args.base) (g.E.Item.spell c.args.base)) (map_of s.header s.pages (g.H.Host.disk c.args.host.now).bytes) g.E.Entry.order (g.E.Listed.suits c.args.schema.now) c.loop-number.chunks.items c.args.segments.now (inv.numbers ∙ take_all c.loop-number.number-index c.args.segments.now (omega arith)) (inv.sound told)

pub returns-clause-numbers : goal.returns-clause-numbers
returns-clause-numbers g c =
    let inv = c.loop-number.invariant in
    numbers_read c.loop-number.chunks.items ∙ inv.numbers ∙ take_all c.loop-number.number-index c.args.segments.now (omega arith)

pub returns-clause-there : goal.returns-clause-there
returns-clause-there g c = subst (λ ns. IsTrue (list_all (is_segment c.args.slots.now) ns)) (take_all c.loop-number.number-index c.args.segments.now (omega arith)) c.loop-number.invariant.there
