use Rattle.std.proofs.Common.{◌∙◌, List, ℕ, ap}
use Rattle.lru.specs.LruCache.{LruCache}
use Rattle.oc_layout.specs.declared.cells.Cell.{Cell}
use Rattle.oc_slots.specs.Cached.{with_first}
use Rattle.oc_slots.proofs.CacheLists.{cache_first, put_is}
use Rattle.oc_slots.proofs.cache.SlotCache.keep.Goals as goal

pub invariant_of-self-2 : goal.invariant_of-self-2
invariant_of-self-2 c =
    let s = c.self.inside.slots in
    let is = c.self.invariant in
    cache_first s c.put.new.self c.args.cell c.args.bytes is (ap (λ (x : LruCache Cell (List ℕ)). x.cap) c.in_ok-put.ensures.entries)
    (ap (λ (x : LruCache Cell (List ℕ)). x.entries) c.in_ok-put.ensures.entries ∙ put_is c.args.cell s.entries is.few is.distinct s.cap c.args.bytes is.most)

pub returns-clause-first : goal.returns-clause-first
returns-clause-first c =
    let s = c.self.inside.slots in
    let is = c.self.invariant in
    ap (λ (x : LruCache Cell (List ℕ)). x.entries) c.in_ok-put.ensures.entries ∙ put_is c.args.cell s.entries is.few is.distinct s.cap c.args.bytes is.most
    ∙ ap (with_first c.args.cell c.args.bytes) c.self.view_is
