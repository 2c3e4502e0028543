use Rattle.std.proofs.Common.{◌≡◌, ◌∙◌, ◌+◌, ◌≤◌, ℕ, List, length, take, drop, ap, sym, subst, arith}
use Rattle.oc_slots.specs.Turnovers.{AreNew}
use Rattle.oc_slots.proofs.MissingPages.{are_new}
use Rattle.oc_slots.proofs.new_pages.Missing.at.Goals as goal

pub returns : goal.returns
returns c =
    let size : c.len-2.result ≡ length c.deref.result.now = c.len-2.ensures ∙ sym c.deref.ensures.len in
    let one : length c.deref.result.now ≡ length c.args.self.now.objects.items = ap length c.deref.ensures.value in
    let two : length c.deref-2.result.now ≡ length c.args.self.now.system.items = ap length c.deref-2.ensures.value in
    let enough : length c.deref.result.now + length c.deref-2.result.now ≤ length c.args.cells.now = omega (arith, c.requires, one, two) in
    subst (λ (l : List ℕ). AreNew l c.args.self.now.system.items c.args.cells.now c.put_at-2.new.added.items) c.deref.ensures.value
    (subst (λ (l : List ℕ). AreNew c.deref.result.now l c.args.cells.now c.put_at-2.new.added.items) c.deref-2.ensures.value
    (are_new c.deref.result.now c.deref-2.result.now c.args.cells.now _ _ _ _ _ enough c.in_ok-added.ensures.items
    (c.split_at.ensures.front ∙ ap (λ n. take n c.args.cells.now) size)
    (c.split_at.ensures.back ∙ ap (λ n. drop n c.args.cells.now) size)
    c.in_ok-put_at.ensures.keys c.in_ok-put_at-2.ensures.keys c.in_ok-put_at.ensures.places c.in_ok-put_at-2.ensures.places))
