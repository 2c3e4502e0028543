-- Lists of items: what is spelled is read, and what is read is spelled.
use Rattle.std.proofs.Common.{◌≡◌, ℕ, zero, suc, ◌≤◌, Bool, false, List, [], ◌∷◌, ◌++◌, length, drop, refl, sym, ap, ◌∙◌, subst, append_assoc, arith}
use Rattle.std.specs.Prelude.{Option, Some}
use Rattle.std.proofs.lemmas.List.{length-append}
use Rattle.oc_machine.specs.declared.token.Sign.{Sign}
use Rattle.oc_machine.specs.declared.token.Sign.TheVariants.{Comma}
use Rattle.oc_machine.specs.declared.token.Token.{Token}
use Rattle.oc_machine.specs.declared.token.Token.TheVariants.{Sign as a_sign}
use Rattle.oc_machine.specs.Lexing.{◌>>=◌, ◌>>◌}
use Rattle.oc_machine.specs.Parsers.{Parser, expect, same_sign, next_is, more_of, separated_by, separated, up_to, enclosed}
use Rattle.oc_machine.specs.GrammarValues.{Tokens, Spelling, Behind, Parted, Enclosed}
use Rattle.oc_machine.proofs.Combinators.{ReadsBefore, Any, Fronts, ReadsOnly, pure_gives, then_gives, expect_gives, choice_gives, Tells, sign_tells, sign_tells_itself, surely, otherwise}

-- one item or more, with this token between each two
abbrev pub Listed : {A : Type 0} → Token → Spelling A → Spelling (List A)
Listed {A} sep S xs ts = (1 ≤ length xs) × Parted sep S xs ts

-- items with commas between, perhaps none, and a closing sign
abbrev pub UpTo : {A : Type 0} → Sign → Spelling A → Spelling (List A)
UpTo {A} right S xs ts = (us : Tokens) × (Parted (a_sign Comma) S xs us × (ts ≡ us ++ a_sign right ∷ []))

module _ {A : Type 0} (begins : Tokens → Bool) (sep : Token) (tells : Tells begins sep) (p : Parser A) (S : Spelling A) where
  abbrev added : A → List A × Tokens → Option (List A × Tokens)
  added x more = Some (x ∷ more.0, more.1)

  abbrev with_more : ℕ → A × Tokens → Option (List A × Tokens)
  with_more n r = more_of begins n p r.1 >>= added r.0

  -- ---- what is spelled is read

  behind_length : (xs : List A) (us : Tokens) → Behind sep S xs us → length xs ≤ length us
  behind_length [] us b = omega arith
  behind_length (x ∷ xs) us (vs, ws, b) =
      omega (arith, behind_length xs ws b.1.0, ap (length {A = Token}) b.1.1, length-append vs ws)

  -- what stands behind an item is the token between, or what stands behind all
  behind_stops : (Stop : Tokens → Type 0) → ((ts : Tokens) → Stop (sep ∷ ts)) → (xs : List A) (us rest : Tokens) → Stop rest → Behind sep S xs us → Stop (us ++ rest)
  behind_stops Stop between [] us rest stop b = subst (λ (t : Tokens). Stop (t ++ rest)) (sym b) stop
  behind_stops Stop between (x ∷ xs) us rest stop (vs, ws, b) = subst (λ (t : Tokens). Stop (t ++ rest)) (sym b.1.1) (between ((vs ++ ws) ++ rest))

  no_more : (n : ℕ) (rest : Tokens) → begins rest ≡ false → more_of begins n p rest ≡ Some ([], rest)
  no_more zero rest stop = refl
  no_more (suc n) rest stop = otherwise {B = Option (List A × Tokens)} (begins rest) (p (drop 1 rest) >>= with_more n) (Some ([], rest)) stop

  one_more : (n : ℕ) (ts : Tokens) → more_of begins (suc n) p (sep ∷ ts) ≡ (p ts >>= with_more n)
  one_more n ts = surely {B = Option (List A × Tokens)} (begins (sep ∷ ts)) (p ts >>= with_more n) (Some ([], sep ∷ ts)) (tells.holds ts)

  more_read : (Stop : Tokens → Type 0) → ReadsBefore Stop p S → ((ts : Tokens) → Stop (sep ∷ ts))
      → (n : ℕ) (xs : List A) (us rest : Tokens) → length xs ≤ n → begins rest ≡ false → Stop rest → Behind sep S xs us → more_of begins n p (us ++ rest) ≡ Some (xs, rest)
  more_read Stop each between n [] us rest le end stop b =
      subst (λ (t : Tokens). more_of begins n p (t ++ rest) ≡ Some ([], rest)) (sym b) (no_more n rest end)
  more_read Stop each between zero (x ∷ xs) us rest le end stop b = absurd (omega arith)
  more_read Stop each between (suc n) (x ∷ xs) us rest le end stop (vs, ws, b) =
      subst (λ (t : Tokens). more_of begins (suc n) p (t ++ rest) ≡ Some (x ∷ xs, rest)) (sym b.1.1)
      (one_more n ((vs ++ ws) ++ rest)
      ∙ ap (λ (t : Tokens). p t >>= with_more n) (append_assoc vs ws rest)
      ∙ ap (λ (o : Option (A × Tokens)). o >>= with_more n) (each x vs (ws ++ rest) (behind_stops Stop between xs ws rest stop b.1.0) b.0)
      ∙ ap (λ (o : Option (List A × Tokens)). o >>= added x) (more_read Stop each between n xs ws rest (omega arith) end stop b.1.0))

  -- neither the token between nor what ends an item
  abbrev pub Ends : (Tokens → Type 0) → Tokens → Type 0
  Ends Stop rest = (begins rest ≡ false) × Stop rest

  pub list_read : (Stop : Tokens → Type 0) → ReadsBefore Stop p S → ((ts : Tokens) → Stop (sep ∷ ts)) → ReadsBefore (Ends Stop) (separated_by begins p) (Listed sep S)
  list_read Stop each between [] us rest stop l = absurd (omega (arith, l.0))
  list_read Stop each between (x ∷ xs) us rest stop (some, (vs, ws, b)) =
      let long : length xs ≤ length (us ++ rest) = omega (arith, behind_length xs ws b.1.0, ap (length {A = Token}) b.1.1, length-append vs ws, length-append us rest) in
      let n = length (us ++ rest) in
      ap (λ (t : Tokens). p t >>= with_more n) (ap (λ (t : Tokens). t ++ rest) b.1.1 ∙ append_assoc vs ws rest)
      ∙ ap (λ (o : Option (A × Tokens)). o >>= with_more n) (each x vs (ws ++ rest) (behind_stops Stop between xs ws rest stop.1 b.1.0) b.0)
      ∙ ap (λ (o : Option (List A × Tokens)). o >>= added x) (more_read Stop each between n xs ws rest long stop.0 stop.1 b.1.0)

  -- ---- what is read is spelled

  more_only : ReadsOnly p S → (n : ℕ) → ReadsOnly (more_of begins n p) (Behind sep S)
  more_only only zero = pure_gives [] _ λ ts. ([], (refl, refl))
  more_only only (suc n) =
      choice_gives begins sep _ _ _ tells
      (then_gives p S _ (λ ts. Fronts (Behind sep S) (sep ∷ ts)) only λ a us s.
      then_gives (more_of begins n p) (Behind sep S) _ _ (more_only only n) λ more vs b.
      pure_gives (a ∷ more) _ λ ts. (sep ∷ (us ++ vs), ((us, vs, (s, (b, refl))), ap (λ (t : Tokens). sep ∷ t) (sym (append_assoc us vs ts)))))
      (pure_gives [] _ λ ts. ([], (refl, refl)))

  pub list_only : ReadsOnly p S → ReadsOnly (separated_by begins p) (Listed sep S)
  list_only only ts =
      first (length ts) ts where
        first : (n : ℕ) (ts : Tokens) (x : List A) (rest : Tokens) → (p ts >>= with_more n) ≡ Some (x, rest) → Fronts (Listed sep S) ts x rest
        first n =
            then_gives p S _ _ only λ a us s.
            then_gives (more_of begins n p) (Behind sep S) _ _ (more_only only n) λ more vs b.
            pure_gives (a ∷ more) _ λ ts. (us ++ vs, ((omega arith, (us, vs, (s, (b, refl)))), sym (append_assoc us vs ts)))

-- ---- items up to a closing sign

module _ {A : Type 0} (right : Sign) (p : Parser A) (S : Spelling A) where
  -- an item never begins with the closing sign
  abbrev pub Opens : Type 0
  Opens = (x : A) (us rest : Tokens) → S x us → next_is right (us ++ rest) ≡ false

  abbrev closed : List A × Tokens → Option (List A × Tokens)
  closed r = expect right r.1 >>= λ c. Some (r.0, c.1)

  none_inside : (rest : Tokens) → up_to right p (a_sign right ∷ rest) ≡ Some ([], rest)
  none_inside rest =
      surely {B = Option (List A × Tokens)} (next_is right (a_sign right ∷ rest)) (Some ([], rest)) (separated p (a_sign right ∷ rest) >>= closed) (sign_tells_itself right)

  some_inside : (t : Tokens) → next_is right t ≡ false → up_to right p t ≡ (separated p t >>= closed)
  some_inside t begins = otherwise {B = Option (List A × Tokens)} (next_is right t) (Some ([], drop 1 t)) (separated p t >>= closed) begins

  shut : (xs : List A) (rest : Tokens) → closed (xs, a_sign right ∷ rest) ≡ Some (xs, rest)
  shut xs rest = ap (λ (b : Bool). (b >> Some (tt {0}, rest)) >>= λ (c : Unit {0} × Tokens). Some (xs, c.1)) (sign_tells_itself right)

  pub up_to_read : same_sign Comma right ≡ false → ReadsBefore Any p S → Opens → ReadsBefore Any (up_to right p) (UpTo right S)
  up_to_read apart each opens [] us rest any (vs, b) =
      ap (λ (t : Tokens). up_to right p (t ++ rest)) (b.1 ∙ ap (λ (t : Tokens). t ++ a_sign right ∷ []) b.0) ∙ none_inside rest
  up_to_read apart each opens (x ∷ xs) us rest any (vs, b) =
      let behind : Tokens = a_sign right ∷ rest in
      let parts : us ++ rest ≡ vs ++ behind = ap (λ (t : Tokens). t ++ rest) b.1 ∙ append_assoc vs (a_sign right ∷ []) rest in
      let begins : next_is right (vs ++ behind) ≡ false =
      subst (λ (t : Tokens). next_is right (t ++ behind) ≡ false) (sym b.0.2.1.1)
      (subst (λ (t : Tokens). next_is right t ≡ false) (sym (append_assoc b.0.0 b.0.1 behind)) (opens x b.0.0 (b.0.1 ++ behind) b.0.2.0)) in
      ap (up_to right p) parts
      ∙ some_inside (vs ++ behind) begins
      ∙ ap (λ (o : Option (List A × Tokens)). o >>= closed)
      (list_read (next_is Comma) (a_sign Comma) (sign_tells Comma) p S Any each (λ ts. tt) (x ∷ xs) vs behind (apart, tt) (omega arith, b.0))
      ∙ shut (x ∷ xs) rest

  pub up_to_only : ReadsOnly p S → ReadsOnly (up_to right p) (UpTo right S)
  up_to_only only =
      choice_gives (next_is right) (a_sign right) _ _ _ (sign_tells right)
      (pure_gives [] (λ ts. Fronts (UpTo right S) (a_sign right ∷ ts)) λ ts. (a_sign right ∷ [], (([], (refl, refl)), refl)))
      (then_gives (separated p) (Listed (a_sign Comma) S) _ _ (list_only (next_is Comma) (a_sign Comma) (sign_tells Comma) p S only) λ xs us l.
      expect_gives right _ (λ ts. Fronts (UpTo right S) (us ++ ts)) (
      pure_gives xs _ λ ts. (us ++ a_sign right ∷ [], ((us, (l.1, refl)), sym (append_assoc us (a_sign right ∷ []) ts)))))

-- ---- items between two signs

module _ {A : Type 0} (left right : Sign) (p : Parser A) (S : Spelling A) where
  entered : (ts : Tokens) → enclosed left right p (a_sign left ∷ ts) ≡ up_to right p ts
  entered ts = ap (λ (b : Bool). (b >> Some (tt {0}, ts)) >>= λ (c : Unit {0} × Tokens). up_to right p c.1) (sign_tells_itself left)

  pub enclosed_read : same_sign Comma right ≡ false → ReadsBefore Any p S → Opens right p S → ReadsBefore Any (enclosed left right p) (Enclosed left right S)
  enclosed_read apart each opens xs us rest any (vs, b) =
      ap (λ (t : Tokens). enclosed left right p (t ++ rest)) b.1
      ∙ entered ((vs ++ a_sign right ∷ []) ++ rest)
      ∙ up_to_read right p S apart each opens xs (vs ++ a_sign right ∷ []) rest tt (vs, (b.0, refl))

  pub enclosed_only : ReadsOnly p S → ReadsOnly (enclosed left right p) (Enclosed left right S)
  enclosed_only only =
      expect_gives left _ _ λ ts xs rest h.
      let u = up_to_only right p S only ts xs rest h in
      (a_sign left ∷ u.0, ((u.1.0.0, (u.1.0.1.0, ap (λ (t : Tokens). a_sign left ∷ t) u.1.0.1.1)), ap (λ (t : Tokens). a_sign left ∷ t) u.1.1))
