-- One object of each class more.
use Rattle.std.proofs.Common.{◌≡◌, ℕ, suc, [], ◌∷◌, ◌++◌, flat_map, sym, ap, ◌∙◌, ◌+◌, arith}
use Rattle.std.proofs.lemmas.Grind.{flat_map-append}
use Rattle.std.proofs.lemmas.List.{append-nil, append_assoc}
use Rattle.oc_model.specs.Maps.{Text}
use Rattle.oc_machine.specs.Generated.{up_to, first_lines, lines_of_one, last_lines, generated}

one_more : (n : ℕ) → flat_map lines_of_one (up_to (suc n)) ≡ flat_map lines_of_one (up_to n) ++ lines_of_one (suc n)
one_more n = flat_map-append lines_of_one (up_to n) (suc n ∷ []) ∙ ap (λ t. flat_map lines_of_one (up_to n) ++ t) (append-nil (lines_of_one (suc n)))

-- a script of n objects of each class, and the lines of one more
pub goes_on : (s t first : Text) (n k : ℕ) → k ≡ n → s ≡ first ++ flat_map lines_of_one (up_to n) → t ≡ s ++ lines_of_one (k + 1) → t ≡ first ++ flat_map lines_of_one (up_to (n + 1))
goes_on s t first n k same s_is t_is =
    let next : n + 1 ≡ suc n = omega arith in
    let k_next : k + 1 ≡ suc n = omega (arith, same) in
    t_is ∙ ap (λ x. x ++ lines_of_one (k + 1)) s_is ∙ ap (λ m. (first ++ flat_map lines_of_one (up_to n)) ++ lines_of_one m) k_next
    ∙ append_assoc first (flat_map lines_of_one (up_to n)) (lines_of_one (suc n)) ∙ ap (λ x. first ++ x) (sym (one_more n)) ∙ ap (λ m. first ++ flat_map lines_of_one (up_to m)) (sym next)

-- the last lines make it whole
pub ends : (s t : Text) (n m : ℕ) → n ≡ m → s ≡ first_lines ++ flat_map lines_of_one (up_to n) → t ≡ s ++ last_lines → t ≡ generated m
unfolding generated
ends s t n m same s_is t_is =
    t_is ∙ ap (λ x. x ++ last_lines) s_is ∙ append_assoc first_lines (flat_map lines_of_one (up_to n)) last_lines ∙ ap (λ k. first_lines ++ (flat_map lines_of_one (up_to k) ++ last_lines)) same

-- four pieces, one after another
pub four_pieces : (s a b c d t u v w : Text) → t ≡ s ++ a → u ≡ t ++ b → v ≡ u ++ c → w ≡ v ++ d → w ≡ s ++ (a ++ (b ++ (c ++ d)))
four_pieces s a b c d t u v w t_is u_is v_is w_is =
    w_is ∙ ap (λ x. x ++ d) (v_is ∙ ap (λ x. x ++ c) (u_is ∙ ap (λ x. x ++ b) t_is))
    ∙ append_assoc ((s ++ a) ++ b) c d ∙ append_assoc (s ++ a) b (c ++ d) ∙ append_assoc s a (b ++ (c ++ d))
