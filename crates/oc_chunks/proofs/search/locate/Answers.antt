use Rattle.std.proofs.Common.{◌≡◌, ◌∙◌, ap, sym, subst, rules, true, false, ◌≤◌, ◌<◌, ◌-◌, length, arith}
use Rattle.std.proofs.lemmas.List.Sorted.{IsPartitionPoint-from_clause}
use Rattle.std.specs.List.{AllWithin}
use Rattle.oc_chunks.specs.Ascending.{IsAscending}
use Rattle.oc_chunks.specs.Pieces.{is_upto, present, IsSized}
use Rattle.oc_chunks.proofs.Eaches.{each_at}
use Rattle.oc_chunks.proofs.Located.{place, entries_part, piece_ascends}
use Rattle.oc_chunks.proofs.search.locate.Goals as goal

pub returns : goal.returns
returns g c =
    let ps = c.args.pieces.now in
    let cmp = g.E.Entry.order in
    let side = g.C.Cut.side c.args.cut.now in
    let law = g.met.C.Cut.parts c.args.cut.now in
    let i = c.saturating_sub-piece.result in
    let p = c.index-pieces-piece.result in
    let some : 0 < length ps = c.requires.some in
    let begun = c.len_begun.result in
    let bound : begun ≤ length ps = c.len_begun.ensures.within in
    let last : i ≡ begun - 1 = c.saturating_sub-piece.ensures in
    let within : i < length ps = omega arith in
    let same = c.entries.ensures ∙ ap (λ q. present q.part) (sym c.index-pieces-piece.is) in
    let own = piece_ascends cmp side law ps c.requires.ascending i p within c.index-pieces-piece.is in
    let sized : IsSized p = subst IsSized (sym c.index-pieces-piece.is) (each_at IsSized i p ps within c.requires.sized) in
    let entries = IsPartitionPoint-from_clause (is_upto side) c.entries.result.now _ c.partition_point-at.ensures.partitioned (entries_part cmp side law _ (subst (IsAscending cmp) (sym same) own)) (λ a r f called. search rules) in
    let at = c.partition_point-at.result in
    let found = subst (λ l. (at ≤ length l) × AllWithin (λ e. is_upto side e ≡ true) l 0 at × AllWithin (λ e. is_upto side e ≡ false) l at (length l)) same (c.partition_point-at.ensures.bound, entries.0, entries.1) in
    place cmp side law ps c.requires.ascending i p within c.index-pieces-piece.is begun at sized.part.within last c.len_begun.ensures.begun c.len_begun.ensures.later found.0 found.1 found.2
