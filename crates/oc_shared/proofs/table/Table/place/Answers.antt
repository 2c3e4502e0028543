-- One row of the way down, and the rows on one of its sides.
use Rattle.std.proofs.Common.{◌≡◌, ◌+◌, ◌-◌, ◌≤◌, length, subst, ap, sym, ◌∙◌, nat_cmp}
use Rattle.std.specs.Ordering.{is_gt}
use Rattle.std.specs.Cmp.Lexicographic.{slice_cmp}
use Rattle.oc_shared.specs.Tables.{IsAscending, count_before}
use Rattle.oc_shared.proofs.Rows.{ascending_front, ascending_back, placed_behind, placed_front, room_behind, room_front}
use Rattle.oc_shared.proofs.table.Table.place.Goals as goal

pub loop-parts-preserved-then-is_behind : goal.loop-parts-preserved-then-is_behind
loop-parts-preserved-then-is_behind g c =
    let v = c.loop-parts.invariant in
    let p = c.in-Some.parts in
    let key = c.args.key.now in
    let behind = ap (λ k. is_gt (slice_cmp nat_cmp key k)) (sym c.as_slice.ensures) ∙ sym c.is_behind.ensures ∙ c.if-is_behind.true in
    record {
      counted = placed_behind key c.loop-parts.place (count_before key c.args.self.now) c.loop-parts.at.now p.before.now p.item.now p.after.now c.in-Some.ensures behind v.ascending v.counted;
      within = room_behind c.loop-parts.place c.loop-parts.at.now p.before.now p.item.now p.after.now c.in-Some.ensures v.within;
      ascending = ascending_back p.before.now p.item.now p.after.now (subst IsAscending c.in-Some.ensures v.ascending);
    }

pub loop-parts-preserved : goal.loop-parts-preserved
loop-parts-preserved g c =
    let v = c.loop-parts.invariant in
    let p = c.in-Some.parts in
    let key = c.args.key.now in
    let front = ap (λ k. is_gt (slice_cmp nat_cmp key k)) (sym c.as_slice.ensures) ∙ sym c.is_behind.ensures ∙ c.if-is_behind.false in
    record {
      counted =
          subst (λ n. c.loop-parts.place - (n + 1) + count_before key p.before.now ≡ count_before key c.args.self.now + length p.before.now) (sym c.len.ensures)
          (placed_front key c.loop-parts.place (count_before key c.args.self.now) c.loop-parts.at.now p.before.now p.item.now p.after.now c.in-Some.ensures front v.within v.counted);
      within = subst (λ n. length p.before.now ≤ c.loop-parts.place - (n + 1)) (sym c.len.ensures) (room_front c.loop-parts.place c.loop-parts.at.now p.before.now p.item.now p.after.now c.in-Some.ensures v.within);
      ascending = ascending_front p.before.now p.item.now p.after.now (subst IsAscending c.in-Some.ensures v.ascending);
    }
