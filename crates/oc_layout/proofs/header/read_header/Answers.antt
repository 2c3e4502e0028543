use Rattle.std.proofs.Common.{◌≡◌, ◌∙◌, ℕ, List, true, refl, sym, ap, subst}
use Rattle.std.specs.Prelude.{nat_eq, ◌&&◌, [], ◌∷◌}
use Rattle.std.specs.Cmp.Lexicographic.{pointwise}
use Rattle.std.proofs.lemmas.Bool.{eq-eqb}
use Rattle.oc_layout.specs.Headers.{header_bytes, fields, is_in_range}
use Rattle.oc_layout.proofs.HeaderAgain.{fields_again}
use Rattle.oc_layout.proofs.header.read_header.Goals as goal
use Rattle.oc_layout.proofs.header.read_header.Goals.{else-suits-via-then-suits+else-eq, else-suits-via-else-suits}

same_bytes : (xs ys : List ℕ) → xs ≡ ys → pointwise nat_eq xs ys ≡ true
same_bytes xs ys e = subst (λ (l : List ℕ). pointwise nat_eq xs l ≡ true) e (itself xs)
  where
    itself : (l : List ℕ) → pointwise nat_eq l l ≡ true
    itself [] = refl
    itself (x ∷ l) = let here : nat_eq x x ≡ true = eq-eqb x x refl in let rest = itself l in (λ i. here i && rest i)

pub returns-then-eq-clause-only : goal.returns-then-eq-clause-only
returns-then-eq-clause-only c other spells = sym (c.fields_of-header.ensures.read ∙ ap fields spells.bytes ∙ fields_again other spells.fits)

pub returns-else-suits-clause-none : goal.returns-else-suits-clause-none
returns-else-suits-clause-none c h spells =
    let is : c.fields_of-header.result ≡ h = c.fields_of-header.ensures.read ∙ ap fields spells.bytes ∙ fields_again h spells.fits in
    elim c.else-suits.branch [
      | else-suits-via-then-suits+else-eq w ↦
          let same : w.write_header.result ≡ c.args.bytes.now = w.write_header.ensures ∙ ap header_bytes is ∙ sym spells.bytes in
          let both : w.as_slice.result.now ≡ w.as_slice-then-suits.result.now = w.as_slice.ensures ∙ same ∙ sym w.as_slice-then-suits.ensures in
          let yes : w.eq.result ≡ true = w.eq.ensures ∙ same_bytes w.as_slice.result.now w.as_slice-then-suits.result.now both in
          cc (yes, w.if-eq.false)
      | else-suits-via-else-suits w ↦
          let holds : c.suits.result ≡ true = c.suits.ensures ∙ ap is_in_range is ∙ spells.in_range in
          cc (holds, w.if-suits.false)
    ]
