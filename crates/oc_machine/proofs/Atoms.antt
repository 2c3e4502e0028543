-- Paths, criteria, and what a path is asked: what is spelled is read, and what is read is spelled.
use Rattle.std.proofs.Common.{◌≡◌, inl, inr, ℕ, ◌≤◌, Bool, true, false, not, List, [], ◌∷◌, ◌++◌, length, refl, sym, ap, ◌∙◌, subst, append_assoc, arith, pos, nat_le}
use Rattle.std.specs.Prelude.{codes, Option, Some, neg_ℤ}
use Rattle.std.proofs.lemmas.Bool.Decides.{nat_tests}
use Rattle.oc_model.specs.declared.command.Literal.{Literal}
use Rattle.oc_model.specs.declared.command.Literal.TheVariants as literal
use Rattle.oc_model.specs.declared.command.CompareOp.{CompareOp}
use Rattle.oc_model.specs.declared.command.CompareOp.TheVariants as op
use Rattle.oc_model.specs.declared.command.TextOp.{TextOp}
use Rattle.oc_model.specs.declared.command.TextOp.TheVariants as text_op
use Rattle.oc_model.specs.declared.command.ExprText.{ExprText}
use Rattle.oc_model.specs.declared.command.ExprText.TheVariants.{Compare, Match, IsName as NameIs, IsNumber as NumberIs, Example}
use Rattle.oc_model.specs.declared.command.CritText.{CritText}
use Rattle.oc_model.specs.Maps.{Text}
use Rattle.oc_machine.specs.declared.token.Sign.{Sign}
use Rattle.oc_machine.specs.declared.token.Sign.TheVariants.{Dot, Equal, Less, AtMost, Greater, AtLeast}
use Rattle.oc_machine.specs.declared.token.Token.{Token}
use Rattle.oc_machine.specs.declared.token.Token.TheVariants.{Word as a_word, Nat, Minus, Num, Text as a_text, Sign as a_sign}
use Rattle.oc_machine.specs.Lexing.{◌>>=◌, ◌>>◌}
use Rattle.oc_machine.specs.Parsers.{pure, name, next_is, same_sign, separated_by, name_or_number, word_as}
use Rattle.oc_machine.specs.ReadingExpressions.{path, direction_named, criterion, literal_named, literal_of, a_literal, text_of, quoted_text, compare_op, compared, matched, asked_by_word, asked, atom}
use Rattle.oc_machine.specs.GrammarValues.{Tokens, IsName, SpellsName}
use Rattle.oc_machine.specs.GrammarExpressions.{SpellsPath, direction_word, SpellsCriterion, SpellsLiteral, compare_sign, text_word, SpellsAtom}
use Rattle.oc_machine.proofs.Combinators.{none_some, bind_some, some_same, test_some, ReadsBefore, Any, Gives, Fronts, ReadsOnly, pure_gives, then_gives, name_gives, sign_tells, token_only, word_gives, named_gives, said_gives, name_or_number_gives}
use Rattle.oc_machine.proofs.Lists.{Listed, list_read, list_only}

-- ---- paths

name_read : ReadsBefore Any name SpellsName
name_read n us rest any (named, e) =
    ap (λ (t : Tokens). name (t ++ rest)) e ∙ ap (λ b. not b >> Some (n, rest)) named

pub name_only : ReadsOnly name SpellsName
name_only ts x rest h =
    name_gives (λ r. Some r) (Fronts SpellsName) (λ n named. pure_gives n (λ ts. Fronts SpellsName (a_word n ∷ ts)) λ ts. (a_word n ∷ [], ((named, refl), refl))) ts x rest
    (ap (λ (o : Option (Text × Tokens)). ◌>>=◌ {A = Text × Tokens} o λ r. Some r) h)

-- no dot
abbrev pub NoDot : Tokens → Type 0
NoDot ts = next_is Dot ts ≡ false

within : (n : ℕ) → n ≤ 16 → nat_le n 16 ≡ true
within n h = grind (arith, nat_tests)

at_most : (n : ℕ) → nat_le n 16 ≡ true → n ≤ 16
at_most n h = grind (arith, nat_tests)

abbrev short_enough : List Text × Tokens → Option (List Text × Tokens)
short_enough r = nat_le (length r.0) 16 >> Some r

pub path_read : ReadsBefore NoDot path SpellsPath
unfolding path
path_read p us rest stop (some, (few, parted)) =
    ap (λ (o : Option (List Text × Tokens)). o >>= short_enough)
    (list_read (next_is Dot) (a_sign Dot) (sign_tells Dot) name SpellsName Any name_read (λ ts. tt) p us rest (stop, tt) (some, parted))
    ∙ ap (λ (b : Bool). b >> Some (p, rest)) (within (length p) few)

pub path_only : ReadsOnly path SpellsPath
unfolding path
path_only =
    then_gives (separated_by (next_is Dot) name) (Listed (a_sign Dot) SpellsName) short_enough _ (list_only (next_is Dot) (a_sign Dot) (sign_tells Dot) name SpellsName name_only) λ p us l ts x rest h.
    let c = test_some {B = List Text × Tokens} (nat_le (length p) 16) (Some (p, ts)) (x, rest) h in
    let q : ◌≡◌ {A = List Text × Tokens} (p, ts) (x, rest) = some_same (p, ts) (x, rest) c.1 in
    (us, (subst (λ (r : List Text × Tokens). SpellsPath r.0 us) q (l.0, (at_most (length p) c.0, l.1)), ap (λ (r : List Text × Tokens). us ++ r.1) q))

-- a path begins with a name
pub path_begins : (p : List Text) (us : Tokens) → SpellsPath p us → (n : Text) × ((vs : Tokens) × (IsName n × (us ≡ a_word n ∷ vs)))
path_begins [] us s = absurd (omega (arith, s.0))
path_begins (n ∷ p) us (some, (few, (vs, ws, b))) =
    (n, (ws, (b.0.0, b.1.1 ∙ ap (λ (t : Tokens). t ++ ws) b.0.1)))

begins_on : (p : List Text) (ts us vs : Tokens) → SpellsPath p us → ts ≡ us ++ vs → (n : Text) × ((ws : Tokens) × (IsName n × (ts ≡ a_word n ∷ ws)))
begins_on p ts us vs s e =
    let b = path_begins p us s in
    (b.0, (b.1.0 ++ vs, (b.1.1.0, e ∙ ap (λ (t : Tokens). t ++ vs) b.1.1.1)))

-- ---- criteria

direction_is : (t : Text) (b : Bool) → direction_named t ≡ Some b → t ≡ (elim b [ true ↦ codes "asc" | false ↦ codes "desc" ])
direction_is t =
    named_gives t (codes "asc") true _ _ (λ e. e)
    (named_gives t (codes "desc") false _ _ (λ e. e) (λ b h. none_some b h))

direction_read : (b : Bool) → direction_named (elim b [ true ↦ codes "asc" | false ↦ codes "desc" ]) ≡ Some b
direction_read true = refl
direction_read false = refl

abbrev directed : List Text × Tokens → Option (CritText × Tokens)
directed p = word_as direction_named p.1 >>= λ a. Some (record { path = p.0; ascending = a.0 }, a.1)

pub criterion_read : ReadsBefore Any criterion SpellsCriterion
unfolding criterion
criterion_read c us rest any (vs, s) =
    let last : Tokens = a_word (direction_word c) ∷ [] in
    ap criterion (ap (λ (t : Tokens). t ++ rest) s.1 ∙ append_assoc vs last rest)
    ∙ ap (λ (o : Option (List Text × Tokens)). o >>= directed) (path_read c.path vs (a_word (direction_word c) ∷ rest) refl s.0)
    ∙ ap (λ (o : Option Bool). ◌>>=◌ {A = Bool × Tokens} (o >>= λ a. Some (a, rest)) λ r. Some (record { path = c.path; ascending = r.0 }, r.1)) (direction_read c.ascending)

pub criterion_only : ReadsOnly criterion SpellsCriterion
unfolding criterion
criterion_only =
    then_gives path SpellsPath _ _ path_only λ p us s.
    word_gives direction_named (λ b. elim b [ true ↦ codes "asc" | false ↦ codes "desc" ]) _ (λ ts. Fronts SpellsCriterion (us ++ ts)) direction_is λ b.
    pure_gives (record { path = p; ascending = b }) _ λ ts.
    let w : Tokens = a_word (elim b [ true ↦ codes "asc" | false ↦ codes "desc" ]) ∷ [] in
    (us ++ w, ((us, (s, refl)), sym (append_assoc us w ts)))

-- ---- what a path is asked

named_literal : (t : Text) (v : Literal) → literal_named t ≡ Some v → SpellsLiteral v (a_word t ∷ [])
named_literal t =
    named_gives t (codes "null") literal.Null _ _ (λ e. ap (λ (w : Text). a_word w ∷ []) e)
    (named_gives t (codes "true") (literal.Bool true) _ _ (λ e. ap (λ (w : Text). a_word w ∷ []) e)
    (named_gives t (codes "false") (literal.Bool false) _ _ (λ e. ap (λ (w : Text). a_word w ∷ []) e) (λ v h. none_some v h)))

literal_is : (t : Token) (v : Literal) → literal_of t ≡ Some v → SpellsLiteral v (t ∷ [])
literal_is (a_word t) v h = named_literal t v h
literal_is (Nat n) v h = subst (λ (s : Literal). SpellsLiteral s (Nat n ∷ [])) (some_same (literal.Int (pos n)) v h) (n, inl (refl, refl))
literal_is (Minus n) v h = subst (λ (s : Literal). SpellsLiteral s (Minus n ∷ [])) (some_same (literal.Int (neg_ℤ (pos n))) v h) (n, inr (refl, refl))
literal_is (a_text t) v h = subst (λ (s : Literal). SpellsLiteral s (a_text t ∷ [])) (some_same (literal.Text t) v h) refl
literal_is (Num n) v h = none_some v h
literal_is (a_sign s) v h = none_some v h

literal_only : ReadsOnly a_literal SpellsLiteral
literal_only = token_only literal_of SpellsLiteral literal_is

literal_read : ReadsBefore Any a_literal SpellsLiteral
literal_read literal.Null us rest any e = ap (λ (t : Tokens). a_literal (t ++ rest)) e
literal_read (literal.Bool true) us rest any e = ap (λ (t : Tokens). a_literal (t ++ rest)) e
literal_read (literal.Bool false) us rest any e = ap (λ (t : Tokens). a_literal (t ++ rest)) e
literal_read (literal.Int n) us rest any (k, inl e) =
    ap (λ (t : Tokens). a_literal (t ++ rest)) e.1 ∙ ap (λ z. Some (literal.Int z, rest)) (sym e.0)
literal_read (literal.Int n) us rest any (k, inr e) =
    ap (λ (t : Tokens). a_literal (t ++ rest)) e.1 ∙ ap (λ z. Some (literal.Int z, rest)) (sym e.0)
literal_read (literal.Text t) us rest any e = ap (λ (t : Tokens). a_literal (t ++ rest)) e

text_is : (t : Token) (v : Text) → text_of t ≡ Some v → t ∷ [] ≡ a_text v ∷ []
text_is (a_text t) v h = ap (λ (u : Text). a_text u ∷ []) (some_same t v h)
text_is _ v h = none_some v h

abbrev SpellsText : Text → Tokens → Type 0
SpellsText v ts = ts ≡ a_text v ∷ []

text_only : ReadsOnly quoted_text SpellsText
text_only = token_only text_of SpellsText text_is

compare_is : (s : Sign) (o : CompareOp) → compare_op s ≡ Some o → s ≡ compare_sign o
compare_is Equal o h = ap compare_sign (some_same op.Equal o h)
compare_is Less o h = ap compare_sign (some_same op.Less o h)
compare_is AtMost o h = ap compare_sign (some_same op.AtMost o h)
compare_is Greater o h = ap compare_sign (some_same op.Greater o h)
compare_is AtLeast o h = ap compare_sign (some_same op.AtLeast o h)
compare_is _ o h = none_some o h

-- what is asked of a path that these tokens spell
abbrev Asks : Tokens → Tokens → ExprText → Tokens → Type 0
Asks us ts = Fronts SpellsAtom (us ++ ts)

compared_gives : (p : List Text) (us : Tokens) (o : CompareOp) → SpellsPath p us → Gives (compared p o) (λ ts. Asks us (a_sign (compare_sign o) ∷ ts))
compared_gives p us o s =
    then_gives a_literal SpellsLiteral _ _ literal_only λ l vs t.
    pure_gives (Compare p o l) _ λ ts.
    let w : Tokens = a_sign (compare_sign o) ∷ vs in
    (us ++ w, ((us, vs, (s, (t, refl))), sym (append_assoc us w ts)))

matched_gives : (p : List Text) (us : Tokens) (o : TextOp) → SpellsPath p us → Gives (matched p o) (λ ts. Asks us (a_word (text_word o) ∷ ts))
matched_gives p us o s =
    then_gives quoted_text SpellsText _ _ text_only λ t vs e.
    pure_gives (Match p o t) _ λ ts.
    let w : Tokens = a_word (text_word o) ∷ a_text t ∷ [] in
    (us ++ w, ((us, (s, refl)), ap (λ (v : Tokens). us ++ (a_word (text_word o) ∷ (v ++ ts))) e ∙ sym (append_assoc us w ts)))

word_asked_gives : (p : List Text) (us : Tokens) → SpellsPath p us → (w : Text) → Gives (asked_by_word p w) (λ ts. Asks us (a_word w ∷ ts))
word_asked_gives p us s w =
    said_gives w (codes "like") _ _ (λ v ts. Asks us (a_word v ∷ ts)) (matched_gives p us text_op.Like s)
    (said_gives w (codes "contains") _ _ (λ v ts. Asks us (a_word v ∷ ts)) (matched_gives p us text_op.Contains s)
    (said_gives w (codes "starts") _ _ (λ v ts. Asks us (a_word v ∷ ts)) (matched_gives p us text_op.Starts s)
    (said_gives w (codes "ends") _ _ (λ v ts. Asks us (a_word v ∷ ts)) (matched_gives p us text_op.Ends s)
    (said_gives w (codes "is") _ _ (λ v ts. Asks us (a_word v ∷ ts)) is_gives
    (said_gives w (codes "example") _ _ (λ v ts. Asks us (a_word v ∷ ts)) example_gives
    (λ ts x rest h. none_some (x, rest) h)))))) where
      is_gives : Gives (name_or_number (λ n. pure (NameIs p n)) (λ k. pure (NumberIs p k))) (λ ts. Asks us (a_word (codes "is") ∷ ts))
      is_gives =
          name_or_number_gives _ _ _
          (λ n named. pure_gives (NameIs p n) _ λ ts.
          let v : Tokens = a_word (codes "is") ∷ a_word n ∷ [] in
          (us ++ v, ((us, a_word n ∷ [], (s, ((named, refl), refl))), sym (append_assoc us v ts))))
          (λ k. pure_gives (NumberIs p k) _ λ ts.
          let v : Tokens = a_word (codes "is") ∷ Num k ∷ [] in
          (us ++ v, ((us, (s, refl)), sym (append_assoc us v ts))))

      example_gives : Gives (λ ts. name ts >>= λ n. Some (Example p n.0, n.1)) (λ ts. Asks us (a_word (codes "example") ∷ ts))
      example_gives =
          name_gives _ _ λ n named.
          pure_gives (Example p n) _ λ ts.
          let v : Tokens = a_word (codes "example") ∷ a_word n ∷ [] in
          (us ++ v, ((us, a_word n ∷ [], (s, ((named, refl), refl))), sym (append_assoc us v ts)))

asked_gives : (p : List Text) (us : Tokens) → SpellsPath p us → Gives (asked p) (Asks us)
asked_gives p us s (a_word w ∷ ts) x rest h = word_asked_gives p us s w ts x rest h
asked_gives p us s (a_sign r ∷ ts) x rest h =
    let a = bind_some (compare_op r) (λ o. compared p o ts) (x, rest) h in
    subst (λ (q : Sign). Asks us (a_sign q ∷ ts) x rest) (sym (compare_is r a.0 a.1.0)) (compared_gives p us a.0 s ts x rest a.1.1)
asked_gives p us s _ x rest h = none_some (x, rest) h

pub atom_only : ReadsOnly atom SpellsAtom
unfolding atom
atom_only = then_gives path SpellsPath _ _ path_only asked_gives

-- ---- what is asked is read

path_then : (p : List Text) (us tail : Tokens) → SpellsPath p us → NoDot tail → atom (us ++ tail) ≡ asked p tail
unfolding atom
path_then p us tail s stop = ap (λ (o : Option (List Text × Tokens)). o >>= λ r. asked r.0 r.1) (path_read p us tail stop s)

-- a path, these tokens, and the rest
asked_reads : (e : ExprText) (p : List Text) (ts us vs rest : Tokens) → SpellsPath p us → NoDot (vs ++ rest) → ts ≡ us ++ vs → asked p (vs ++ rest) ≡ Some (e, rest) → atom (ts ++ rest) ≡ Some (e, rest)
asked_reads e p ts us vs rest s stop is h =
    ap atom (ap (λ (t : Tokens). t ++ rest) is ∙ append_assoc us vs rest) ∙ path_then p us (vs ++ rest) s stop ∙ h

no_dot : (o : CompareOp) → same_sign Dot (compare_sign o) ≡ false
no_dot op.Equal = refl
no_dot op.Less = refl
no_dot op.AtMost = refl
no_dot op.Greater = refl
no_dot op.AtLeast = refl

compare_read : (o : CompareOp) → compare_op (compare_sign o) ≡ Some o
compare_read op.Equal = refl
compare_read op.Less = refl
compare_read op.AtMost = refl
compare_read op.Greater = refl
compare_read op.AtLeast = refl

match_read : (p : List Text) (o : TextOp) (t : Text) (rest : Tokens) → asked_by_word p (text_word o) (a_text t ∷ rest) ≡ Some (Match p o t, rest)
match_read p text_op.Like t rest = refl
match_read p text_op.Contains t rest = refl
match_read p text_op.Starts t rest = refl
match_read p text_op.Ends t rest = refl

pub atom_read : ReadsBefore Any atom SpellsAtom
atom_read (Compare p o l) ts rest any (us, vs, (s, (t, e))) =
    asked_reads (Compare p o l) p ts us (a_sign (compare_sign o) ∷ vs) rest s (no_dot o) e
    (ap (λ (q : Option CompareOp). q >>= λ c. compared p c (vs ++ rest)) (compare_read o)
    ∙ ap (λ (q : Option (Literal × Tokens)). q >>= λ r. Some (Compare p o r.0, r.1)) (literal_read l vs rest tt t))
atom_read (Match p o t) ts rest any (us, (s, e)) =
    asked_reads (Match p o t) p ts us (a_word (text_word o) ∷ a_text t ∷ []) rest s refl e (match_read p o t rest)
atom_read (NameIs p n) ts rest any (us, vs, (s, ((named, v), e))) =
    asked_reads (NameIs p n) p ts us (a_word (codes "is") ∷ vs) rest s refl e
    (ap (λ (t : Tokens). asked p (a_word (codes "is") ∷ (t ++ rest))) v ∙ ap (λ (b : Bool). not b >> Some (NameIs p n, rest)) named)
atom_read (NumberIs p k) ts rest any (us, (s, e)) =
    asked_reads (NumberIs p k) p ts us (a_word (codes "is") ∷ Num k ∷ []) rest s refl e refl
atom_read (Example p n) ts rest any (us, vs, (s, ((named, v), e))) =
    asked_reads (Example p n) p ts us (a_word (codes "example") ∷ vs) rest s refl e
    (ap (λ (t : Tokens). asked p (a_word (codes "example") ∷ (t ++ rest))) v
    ∙ ap (λ (b : Bool). ◌>>=◌ {A = Text × Tokens} (not b >> Some (n, rest)) λ r. Some (Example p r.0, r.1)) named)
atom_read _ ts rest any h = absurd h

-- an atom begins with a name
pub atom_begins : (e : ExprText) (ts : Tokens) → SpellsAtom e ts → (n : Text) × ((vs : Tokens) × (IsName n × (ts ≡ a_word n ∷ vs)))
atom_begins (Compare p o l) ts (us, vs, (s, (t, e))) = begins_on p ts us (a_sign (compare_sign o) ∷ vs) s e
atom_begins (Match p o t) ts (us, (s, e)) = begins_on p ts us (a_word (text_word o) ∷ a_text t ∷ []) s e
atom_begins (NameIs p n) ts (us, vs, (s, (t, e))) = begins_on p ts us (a_word (codes "is") ∷ vs) s e
atom_begins (NumberIs p k) ts (us, (s, e)) = begins_on p ts us (a_word (codes "is") ∷ Num k ∷ []) s e
atom_begins (Example p n) ts (us, vs, (s, (t, e))) = begins_on p ts us (a_word (codes "example") ∷ vs) s e
atom_begins _ ts h = absurd h
