-- New pieces in place of one.
use Rattle.std.proofs.Common.{◌≡◌, ◌∙◌, ap, sym, subst, ℕ, suc, ◌+◌, ◌-◌, ◌<◌, ◌≤◌, List, [], ◌∷◌, ◌++◌, length, take, drop, get_or, set, arith, append_assoc, length-append, length-drop}
use borrow.Rule.Slice.PartMut.{mid_of, put_mid}
use Rattle.std.specs.Global.{Vec}
use Rattle.std.proofs.lemmas.List.{with_items_is, set_at, get_or_at, length-take-le}
use Rattle.oc_chunks.specs.declared.piece.Piece.{Piece}
use Rattle.oc_chunks.specs.Editing.{stands_in, StandsFor}
use Rattle.oc_chunks.proofs.Located.{around}
use Rattle.oc_chunks.proofs.Puts.{turned_right}

module _ {X : Type 0} where
  first_of : (made : List (Piece X)) (first : Piece X) → 1 ≤ length made → first ≡ get_or made 0 first → made ≡ first ∷ drop 1 made
  first_of [] first some is = absurd (omega arith)
  first_of (p ∷ made) first some is = ap (λ q. q ∷ made) (sym is)

  module _ (ps made ms : List (Piece X)) (at : ℕ) (lt : at < length ps) (rest : ms ≡ drop 1 made) (v : Vec (Piece X)) (appended : v.items ≡ ps ++ ms) (count : v.len ≡ length v.items) (zs ys : List (Piece X)) (same : zs ≡ v.items) (k : ℕ) (more : k ≡ length ms) where
    abbrev mid : List (Piece X)
    mid = mid_of (at + 1) (length zs - (at + 1)) zs

    abbrev whole : List (Piece X)
    whole = put_mid (at + 1) (length zs - (at + 1)) zs ys

    module _ (turned : ys ≡ drop (length mid - k) mid ++ take (length mid - k) mid) (d : Piece X) where
      shape : (e : Piece X) → whole ≡ take at ps ++ get_or ps at e ∷ (ms ++ drop (at + 1) ps)
      shape e = turned_right ps ms zs ys at e lt (same ∙ appended) (subst (λ n. ys ≡ drop (length mid - n) mid ++ take (length mid - n) mid) more turned)

      long : length whole ≡ v.len
      long =
          let l = length-append (take at ps) (get_or ps at d ∷ (ms ++ drop (at + 1) ps)) in
          let m = length-append ms (drop (at + 1) ps) in
          let t = length-take-le at ps (omega arith) in
          let r = length-drop (at + 1) ps in
          let w = ap length (shape d) in
          let a = ap length appended ∙ length-append ps ms in
          omega arith

      pub now : take v.len (whole ++ drop (length whole) v.items) ≡ take at ps ++ get_or ps at d ∷ (ms ++ drop (at + 1) ps)
      now = with_items_is v whole long ∙ shape d

      pub stood : (first : Piece X) (q : Piece X) → 1 ≤ length made → first ≡ get_or made 0 first → d ≡ get_or (take v.len (whole ++ drop (length whole) v.items)) at d → q ≡ stands_in d first.part → StandsFor ps at made (set (take v.len (whole ++ drop (length whole) v.items)) at q)
      stood first q some is read in_place =
          let t = length-take-le at ps (omega arith) in
          let d_is : d ≡ get_or ps at d = read ∙ ap (λ l. get_or l at d) now ∙ get_or_at (take at ps) (get_or ps at d) (ms ++ drop (at + 1) ps) d at t in
          record {
            piece = d;
            first = first;
            more = ms;
            split = around at d ps lt ∙ ap (λ e. take at ps ++ e ∷ drop (suc at) ps) (sym d_is);
            made_is = first_of made first some is ∙ ap (λ l. first ∷ l) (sym rest);
            new_is = ap (λ l. set l at q) now ∙ set_at (take at ps) (get_or ps at d) (ms ++ drop (at + 1) ps) q at t ∙ ap (λ e. take at ps ++ e ∷ (ms ++ drop (at + 1) ps)) in_place ∙ ap (λ n. take at ps ++ stands_in d first.part ∷ (ms ++ drop n ps)) {x = at + 1} {y = suc at} (omega arith) ∙ sym (append_assoc (take at ps) (stands_in d first.part ∷ ms) (drop (suc at) ps));
          }
