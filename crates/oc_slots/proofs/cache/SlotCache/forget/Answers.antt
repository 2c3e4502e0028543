use Rattle.std.proofs.Common.{◌∙◌, List, [], ◌∷◌, ℕ, ap}
use Rattle.lru.specs.LruCache.{LruCache}
use Rattle.oc_layout.specs.declared.cells.Cell.{Cell}
use Rattle.oc_slots.specs.Cached.{without}
use Rattle.oc_slots.proofs.CacheLists.{cache_without, removed_is}
use Rattle.oc_slots.proofs.cache.SlotCache.forget.Goals as goal

pub invariant_of-self : goal.invariant_of-self
invariant_of-self c =
    let s = c.self.inside.slots in
    let is = c.self.invariant in
    cache_without s c.pop.new.self (c.args.cell ∷ []) is (ap (λ (x : LruCache Cell (List ℕ)). x.cap) c.pop.ensures.entries)
    (ap (λ (x : LruCache Cell (List ℕ)). x.entries) c.pop.ensures.entries ∙ removed_is c.args.cell s.entries is.distinct)

pub returns : goal.returns
returns c =
    let s = c.self.inside.slots in
    ap (λ (x : LruCache Cell (List ℕ)). x.entries) c.pop.ensures.entries ∙ removed_is c.args.cell s.entries c.self.invariant.distinct
    ∙ ap (without (c.args.cell ∷ [])) c.self.view_is
