use Rattle.std.proofs.Common.{◌≡◌, ◌∙◌, ap, sym, subst, refl, ◌++◌, ◌∷◌, [], length, arith}
use Rattle.oc_chunks.specs.Cutting.{IsMade}
use Rattle.oc_chunks.proofs.Gaps.{alone, Came}
use Rattle.oc_chunks.proofs.adding.push_alone.Goals as goal

came : (g : _) → (c : goal.In_ok-push-2 g) → Came g.E.Entry.order g.met.E.Entry.total g.E.Entry.bytes g.E.Entry.MOST g.met.E.Entry.few c.args.entry c.args.pieces.now.items c.push-2.new.self.items
came g c =
    let items : c.push.new.self.items ≡ c.args.entry ∷ [] = c.in_ok-push.ensures.items ∙ ap (λ l. l ++ c.args.entry ∷ []) c.new-items.ensures.items in
    let whole : c.made.result.part.items.items ≡ c.args.entry ∷ [] = ap (λ p. p.part.items.items) c.made.ensures ∙ items in
    let made : IsMade g.E.Entry.bytes g.E.Entry.MOST c.made.result = rw c.made.ensures (record { some = omega (arith, ap length items); whole = refl; within = rw items refl; number = refl; changed = refl; was = refl }) in
    subst (λ l. Came g.E.Entry.order g.met.E.Entry.total g.E.Entry.bytes g.E.Entry.MOST g.met.E.Entry.few c.args.entry c.args.pieces.now.items l) (sym c.in_ok-push-2.ensures.items) (alone g.E.Entry.order g.met.E.Entry.total g.E.Entry.bytes g.E.Entry.MOST g.met.E.Entry.few c.args.entry c.args.pieces.now.items c.made.result c.requires.sound c.requires.last made whole)

pub returns-clause-sound : goal.returns-clause-sound
returns-clause-sound g c = (came g c).is_sound

pub returns-clause-ok : goal.returns-clause-ok
returns-clause-ok g c = (came g c).is_added
