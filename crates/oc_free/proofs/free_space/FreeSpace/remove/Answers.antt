use Rattle.std.proofs.Common.{◌<◌, ◌∙◌, ap, length, sym, subst}
use Rattle.oc_free.specs.FreeParts.{Free}
use Rattle.oc_free.specs.Orders.{AreOrdered}
use Rattle.oc_free.proofs.Ordered.{in_sizes, ordered_remove, ranked_at, read_rank}
use Rattle.oc_free.proofs.free_space.FreeSpace.remove.Goals as goal

-- the part has its rank among the sizes
pub remove-requires : goal.remove-requires
remove-requires c =
    let a = c.self.inside.by_address.items in
    let s = c.self.inside.by_size.items in
    let within = subst (λ (v : Free). c.args.place < length v.parts) (sym c.self.view_is) c.requires in
    let is_rank = read_rank a s _ _ _ _ within c.remove-part.ensures.value c.deref.ensures.value c.rank_of-rank.ensures in
    let rank_within = (ranked_at s _ _ c.self.invariant.ranked is_rank (in_sizes a s c.self.invariant c.args.place within)).0 in
    subst (λ n. c.rank_of-rank.result < n) (ap length (sym c.deref.ensures.value) ∙ c.deref.ensures.len) rank_within

-- it is taken out of both lists
ordered : (c : goal.After-remove) → AreOrdered c.remove-part.new.self.items c.remove.new.self.items
ordered c =
    let a = c.self.inside.by_address.items in
    let s = c.self.inside.by_size.items in
    let within = subst (λ (v : Free). c.args.place < length v.parts) (sym c.self.view_is) c.requires in
    let is_rank = read_rank a s _ _ _ _ within c.remove-part.ensures.value c.deref.ensures.value c.rank_of-rank.ensures in
    rw (c.remove-part.ensures.items, c.remove.ensures.items) (ordered_remove a s c.args.place c.rank_of-rank.result c.self.invariant within is_rank)

pub invariant_of-self : goal.invariant_of-self
invariant_of-self c = ordered c

pub returns-clause-left : goal.returns-clause-left
returns-clause-left c = (ordered c).free
