-- Readers that skip, from the place to which they skip.
use Rattle.std.proofs.lemmas.List.{drop-drop, append_assoc}
use Rattle.std.proofs.Common.{◌≡◌, ℕ, ◌+◌, ◌<◌, ◌==◌, suc, zero, true, false, List, [], ◌∷◌, ◌++◌, Option, Some, None, length, get_or, drop, drop-cons, add-one, refl, sym, ap, ap₂, ◌∙◌, arith}
use Rattle.oc_model.specs.Maps.{Text}
use Rattle.oc_machine.specs.declared.token.Token.{Token}
use Rattle.oc_machine.specs.Lexing.{Read, is_blank, piece, text_after, tokens_after, token, ◌>>=◌}
use Rattle.oc_script.specs.Lexed.{behind, joined, token_at, IsWithin, AreWithin}

drop_here : (t : Text) (at : ℕ) → at < length t → drop at t ≡ get_or t at 0 ∷ drop (at + 1) t
drop_here t at lt = rw add-one (drop-cons t at 0 lt)

drop_there : (t : Text) (at more next : ℕ) → next ≡ at + (1 + more) → drop more (drop (at + 1) t) ≡ drop next t
drop_there t at more next e = drop-drop more (at + 1) t ∙ ap (λ n. drop n t) (omega arith)

-- ---- texts

-- one byte more in front
one_more : (k : ℕ) (r : Read Text) → (behind [] k r >>= λ r. Some (r.0, r.1 + 1)) ≡ behind [] (suc k) r
one_more k None = refl
one_more k (Some r) = ap (λ n. Some (r.0, n)) (omega arith)

-- The text behind the next k bytes is that of what is left there, and the bytes count.
text_from : (k : ℕ) (t : Text) → text_after k t ≡ behind [] k (text_after 0 (drop k t))
text_from zero t = elim (text_after 0 t) as (λ (r : Read Text). r ≡ behind [] 0 r) [ None ↦ refl | Some r ↦ ap (λ n. Some (r.0, n)) (omega arith) ]
text_from (suc k) [] = refl
text_from (suc k) (c ∷ t) = ap (λ (r : Read Text). r >>= λ r. Some (r.0, r.1 + 1)) (text_from k t) ∙ one_more k (text_after 0 (drop k t))

text_step : (c b more : ℕ) (t : Text) → (c == 34) ≡ false → piece c t ≡ Some (b, more) → text_after 0 (c ∷ t) ≡ (text_after more t >>= λ r. Some (b ∷ r.0, r.1 + 1))
text_step c b more t quote is = rw (quote, text_after) (rw is refl)

text_fault : (c : ℕ) (t : Text) → (c == 34) ≡ false → piece c t ≡ None → text_after 0 (c ∷ t) ≡ None
text_fault c t quote is = rw (quote, text_after) (rw is refl)

text_closed : (c : ℕ) (t : Text) → (c == 34) ≡ true → text_after 0 (c ∷ t) ≡ Some ([], 1)
text_closed c t quote = rw (quote, text_after) refl

piece_more : (bytes : Text) (at b more next : ℕ) (r : Read Text) → next ≡ at + (1 + more) → behind bytes at (behind [] more r >>= λ r. Some (b ∷ r.0, r.1 + 1)) ≡ behind (bytes ++ b ∷ []) next r
piece_more bytes at b more next None e = refl
piece_more bytes at b more next (Some r) e =
    let spelled : bytes ++ (b ∷ r.0) ≡ (bytes ++ b ∷ []) ++ r.0 = sym (append_assoc bytes (b ∷ []) r.0) in
    let count : r.1 + more + 1 + at ≡ r.1 + next = omega arith in
    ap₂ (λ (x : Text) (n : ℕ). Some (x, n)) spelled count

-- One piece more is read of a text.
pub text_goes_on : (bytes : Text) (at b more next : ℕ) (t : Text) → at < length t → (get_or t at 0 == 34) ≡ false → piece (get_or t at 0) (drop (at + 1) t) ≡ Some (b, more) → next ≡ at + (1 + more)
    → behind bytes at (text_after 0 (drop at t)) ≡ behind (bytes ++ b ∷ []) next (text_after 0 (drop next t))
text_goes_on bytes at b more next t lt quote is e =
    let bind : Read Text → Read Text = λ r. r >>= λ r. Some (b ∷ r.0, r.1 + 1) in
    let rest = drop (at + 1) t in
    let read : text_after 0 (drop at t) ≡ bind (text_after more rest) = ap (text_after 0) (drop_here t at lt) ∙ text_step (get_or t at 0) b more rest quote is in
    let left : text_after more rest ≡ behind [] more (text_after 0 (drop next t)) = text_from more rest ∙ ap (λ (t : Text). behind [] more (text_after 0 t)) (drop_there t at more next e) in
    ap (behind bytes at) (read ∙ ap bind left) ∙ piece_more bytes at b more next (text_after 0 (drop next t)) e

-- Where there is no piece, there is no text.
pub no_piece : (bytes : Text) (at : ℕ) (t : Text) → at < length t → (get_or t at 0 == 34) ≡ false → piece (get_or t at 0) (drop (at + 1) t) ≡ None → behind bytes at (text_after 0 (drop at t)) ≡ None
no_piece bytes at t lt quote is = ap (behind bytes at) (ap (text_after 0) (drop_here t at lt) ∙ text_fault (get_or t at 0) (drop (at + 1) t) quote is)

-- A quote ends the text.
pub text_ends : (bytes : Text) (at : ℕ) (t : Text) → at < length t → (get_or t at 0 == 34) ≡ true → behind bytes at (text_after 0 (drop at t)) ≡ Some (bytes ++ [], 1 + at)
text_ends bytes at t lt quote = ap (behind bytes at) (ap (text_after 0) (drop_here t at lt) ∙ text_closed (get_or t at 0) (drop (at + 1) t) quote)

-- ---- tokens

-- The tokens behind the next k bytes are those of what is left there.
tokens_from : (k : ℕ) (t : Text) → tokens_after k t ≡ tokens_after 0 (drop k t)
tokens_from zero t = refl
tokens_from (suc k) [] = refl
tokens_from (suc k) (c ∷ t) = tokens_from k t

tokens_step : (c more : ℕ) (t : Text) (x : Token) → is_blank c ≡ false → token c t ≡ Some (x, more) → tokens_after 0 (c ∷ t) ≡ (tokens_after more t >>= λ ys. Some (x ∷ ys))
tokens_step c more t x blank is = rw (blank, tokens_after) (rw is refl)

tokens_fault : (c : ℕ) (t : Text) → is_blank c ≡ false → token c t ≡ None → tokens_after 0 (c ∷ t) ≡ None
tokens_fault c t blank is = rw (blank, tokens_after) (rw is refl)

tokens_blank : (c : ℕ) (t : Text) → is_blank c ≡ true → tokens_after 0 (c ∷ t) ≡ tokens_after 0 t
tokens_blank c t blank = rw (blank, tokens_after) refl

token_more : (xs : List Token) (x : Token) (r : Option (List Token)) → joined xs (r >>= λ ys. Some (x ∷ ys)) ≡ joined (xs ++ x ∷ []) r
token_more xs x None = refl
token_more xs x (Some ys) = ap Some (sym (append_assoc xs (x ∷ []) ys))

-- One token more is read of a line.
pub tokens_go_on : (xs : List Token) (x : Token) (at more next : ℕ) (t : Text) → at < length t → is_blank (get_or t at 0) ≡ false → token_at (drop at t) ≡ Some (x, more) → next ≡ at + (1 + more)
    → joined xs (tokens_after 0 (drop at t)) ≡ joined (xs ++ x ∷ []) (tokens_after 0 (drop next t))
tokens_go_on xs x at more next t lt blank is e =
    let bind : Option (List Token) → Option (List Token) = λ r. r >>= λ ys. Some (x ∷ ys) in
    let rest = drop (at + 1) t in
    let here : token (get_or t at 0) rest ≡ Some (x, more) = ap token_at (sym (drop_here t at lt)) ∙ is in
    let read : tokens_after 0 (drop at t) ≡ bind (tokens_after more rest) = ap (tokens_after 0) (drop_here t at lt) ∙ tokens_step (get_or t at 0) more rest x blank here in
    let left : tokens_after more rest ≡ tokens_after 0 (drop next t) = tokens_from more rest ∙ ap (tokens_after 0) (drop_there t at more next e) in
    ap (joined xs) (read ∙ ap bind left) ∙ token_more xs x (tokens_after 0 (drop next t))

-- Where there is no token, there are no tokens.
pub no_token : (xs : List Token) (at : ℕ) (t : Text) → at < length t → is_blank (get_or t at 0) ≡ false → token_at (drop at t) ≡ None → joined xs (tokens_after 0 (drop at t)) ≡ None
no_token xs at t lt blank is =
    let here : token (get_or t at 0) (drop (at + 1) t) ≡ None = ap token_at (sym (drop_here t at lt)) ∙ is in
    ap (joined xs) (ap (tokens_after 0) (drop_here t at lt) ∙ tokens_fault (get_or t at 0) (drop (at + 1) t) blank here)

-- A blank is passed over.
pub blank_goes_on : (xs : List Token) (at : ℕ) (t : Text) → at < length t → is_blank (get_or t at 0) ≡ true → joined xs (tokens_after 0 (drop at t)) ≡ joined xs (tokens_after 0 (drop (at + 1) t))
blank_goes_on xs at t lt blank = ap (joined xs) (ap (tokens_after 0) (drop_here t at lt) ∙ tokens_blank (get_or t at 0) (drop (at + 1) t) blank)

pub AreWithin-push : (xs : List Token) (x : Token) → AreWithin xs → IsWithin x → AreWithin (xs ++ x ∷ [])
AreWithin-push [] x hs h = (h, tt)
AreWithin-push (y ∷ xs) x hs h = (hs.0, AreWithin-push xs x hs.1 h)
