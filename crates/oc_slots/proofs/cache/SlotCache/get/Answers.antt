use Rattle.std.proofs.Common.{◌≡◌, ◌∙◌, List, ℕ, Some, sym, ap}
use Rattle.std.specs.Map.{lookup}
use Rattle.lru.specs.LruCache.{LruCache}
use Rattle.oc_layout.specs.declared.cells.Cell.{Cell}
use Rattle.oc_slots.specs.Cached.{is_cell, with_first}
use Rattle.oc_slots.proofs.CacheLists.{cache_first, promoted_is}
use Rattle.oc_slots.proofs.cache.SlotCache.get.Goals as goal

pub invariant_of-self : goal.invariant_of-self
invariant_of-self c =
    let s = c.self.inside.slots in
    let is = c.self.invariant in
    let found : lookup (is_cell c.args.cell) s.entries ≡ Some c.in_ok-bytes.bytes.items = sym c.in-Some.ensures ∙ ap {B = _} (λ b. Some b) (sym (c.in_ok-bytes.ensures ∙ c.as_slice.ensures)) in
    cache_first s c.promote.new.self c.args.cell c.in_ok-bytes.bytes.items is (ap (λ (x : LruCache Cell (List ℕ)). x.cap) c.promote.ensures.entries)
    (ap (λ (x : LruCache Cell (List ℕ)). x.entries) c.promote.ensures.entries ∙ promoted_is c.args.cell s.entries is.few is.distinct c.in_ok-bytes.bytes.items found)

pub returns-clause-first : goal.returns-clause-first
returns-clause-first c =
    let s = c.self.inside.slots in
    let is = c.self.invariant in
    let found : lookup (is_cell c.args.cell) s.entries ≡ Some c.in_ok-bytes.bytes.items = sym c.in-Some.ensures ∙ ap {B = _} (λ b. Some b) (sym (c.in_ok-bytes.ensures ∙ c.as_slice.ensures)) in
    ap (λ (x : LruCache Cell (List ℕ)). x.entries) c.promote.ensures.entries ∙ promoted_is c.args.cell s.entries is.few is.distinct c.in_ok-bytes.bytes.items found
    ∙ ap (with_first c.args.cell c.in_ok-bytes.bytes.items) c.self.view_is
