-- What one parser reads, and what stands behind it: of what is spelled, and of what was read.
use Rattle.std.proofs.Common.{◌≡◌, ℕ, Bool, true, false, not, [], ◌∷◌, ◌++◌, drop, refl, sym, ap, ◌∙◌, subst}
use Rattle.std.specs.Prelude.{Option, Some, None, if◌then◌else◌}
use Rattle.std.specs.Cmp.Lexicographic.{bytes_decides}
use Rattle.oc_model.specs.Maps.{Text, same}
use Rattle.oc_machine.specs.declared.token.Sign.{Sign}
use Rattle.oc_machine.specs.declared.token.Sign.TheVariants.{OpenBrace, CloseBrace, OpenParenthesis, CloseParenthesis, OpenBracket, CloseBracket, Colon, Comma, Dot, Equal, Less, AtMost, Greater, AtLeast}
use Rattle.oc_machine.specs.declared.token.Token.{Token}
use Rattle.oc_machine.specs.declared.token.Token.TheVariants.{Word as a_word, Nat, Num, Sign as a_sign}
use Rattle.oc_machine.specs.Lexing.{◌>>=◌, ◌>>◌}
use Rattle.oc_machine.specs.Parsers.{Parser, name, nat, expect, expect_word, word_as, token_as, is_sign, is_word, same_sign, next_is, next_says, is_reserved, if_next, optional, optional_nat, name_or_number}
use Rattle.oc_machine.specs.GrammarValues.{Tokens, Spelling, IsName, Optionally}

-- ---- options and texts

pub none_some : {A B : Type 0} (a : A) → ◌≡◌ {A = Option A} None (Some a) → B
none_some a e = absurd (cc)

pub some_same : {A : Type 0} (a b : A) → Some a ≡ Some b → a ≡ b
some_same a b e = cc

pub bind_some : {A B : Type 0} (o : Option A) (f : A → Option B) (b : B) → (o >>= f) ≡ Some b → (a : A) × ((o ≡ Some a) × (f a ≡ Some b))
bind_some None f b h = none_some b h
bind_some (Some a) f b h = (a, (refl, h))

pub test_some : {B : Type 0} (t : Bool) (r : Option B) (b : B) → (t >> r) ≡ Some b → (t ≡ true) × (r ≡ Some b)
test_some true r b h = (refl, h)
test_some false r b h = none_some b h

pub not_true : (b : Bool) → not b ≡ true → b ≡ false
not_true true h = cc
not_true false h = refl

-- two texts that the test takes for one are one
pub same_text : (a b : Text) → same a b ≡ true → a ≡ b
same_text a b e = (bytes_decides a b).0 e

pub same_self : (a : Text) → same a a ≡ true
same_self a = (bytes_decides a a).1 refl

-- a name is no reserved word
pub no_word : (n w : Text) → IsName n → is_reserved w ≡ true → same n w ≡ false
no_word n w named reserved = by_test (same n w) refl where
  by_test : (b : Bool) → same n w ≡ b → same n w ≡ false
  by_test false e = e
  by_test true e = let k : is_reserved n ≡ true = subst (λ (v : Text). is_reserved v ≡ true) (sym (same_text n w e)) reserved in absurd (cc)

-- ---- what a parser has to do

-- what is spelled at the front is read, before tokens of this kind, and these are left
abbrev pub ReadsBefore : {A : Type 0} → (Tokens → Type 0) → Parser A → Spelling A → Type 0
ReadsBefore {A} Stop p S = (x : A) (us rest : Tokens) → Stop rest → S x us → p (us ++ rest) ≡ Some (x, rest)

abbrev pub Any : Tokens → Type 0
Any ts = Unit {0}

-- all that a parser reads has this relation to the tokens before and behind it
abbrev pub Gives : {A : Type 0} → Parser A → (Tokens → A → Tokens → Type 0) → Type 0
Gives {A} p P = (ts : Tokens) (x : A) (rest : Tokens) → p ts ≡ Some (x, rest) → P ts x rest

-- this stands at the front
abbrev pub Fronts : {A : Type 0} → Spelling A → Tokens → A → Tokens → Type 0
Fronts {A} S ts x rest = (us : Tokens) × (S x us × (ts ≡ us ++ rest))

-- what is read is spelled at the front
abbrev pub ReadsOnly : {A : Type 0} → Parser A → Spelling A → Type 0
ReadsOnly {A} p S = Gives p (Fronts S)

-- ---- one parser and then others

-- Each lemma `.._gives` takes a parser and what is done with its result to what the two give together.

pub pure_gives : {A : Type 0} (a : A) (P : Tokens → A → Tokens → Type 0)
    → ((ts : Tokens) → P ts a ts)
    → (ts : Tokens) (x : A) (rest : Tokens) → ◌≡◌ {A = Option (A × Tokens)} (Some (a, ts)) (Some (x, rest)) → P ts x rest
pure_gives {A} a P k ts x rest h = subst (λ (r : A × Tokens). P ts r.0 r.1) (some_same (a, ts) (x, rest) h) (k ts)

-- after anything that is known to be spelled
pub then_gives : {A B : Type 0} (p : Parser A) (S : Spelling A) (g : A × Tokens → Option (B × Tokens)) (P : Tokens → B → Tokens → Type 0)
    → ReadsOnly p S
    → ((a : A) (us : Tokens) → S a us → (ts : Tokens) (x : B) (rest : Tokens) → g (a, ts) ≡ Some (x, rest) → P (us ++ ts) x rest)
    → (ts : Tokens) (x : B) (rest : Tokens) → (p ts >>= g) ≡ Some (x, rest) → P ts x rest
then_gives p S g P only k ts x rest h =
    let a = bind_some (p ts) g (x, rest) h in
    let f = only ts a.0.0 a.0.1 a.1.0 in
    subst (λ (us : Tokens). P us x rest) (sym f.1.1) (k a.0.0 f.0 f.1.0 a.0.1 x rest a.1.1)

pub name_gives : {B : Type 0} (g : Text × Tokens → Option (B × Tokens)) (P : Tokens → B → Tokens → Type 0)
    → ((n : Text) → IsName n → (ts : Tokens) (x : B) (rest : Tokens) → g (n, ts) ≡ Some (x, rest) → P (a_word n ∷ ts) x rest)
    → (ts : Tokens) (x : B) (rest : Tokens) → (name ts >>= g) ≡ Some (x, rest) → P ts x rest
name_gives {B} g P k (a_word t ∷ ts) x rest h =
    let a = bind_some {A = Text × Tokens} {B = B × Tokens} (not (is_reserved t) >> Some (t, ts)) g (x, rest) h in
    let c = test_some {B = Text × Tokens} (not (is_reserved t)) (Some (t, ts)) a.0 a.1.0 in
    k t (not_true (is_reserved t) c.0) ts x rest (ap g (some_same (t, ts) a.0 c.1) ∙ a.1.1)
name_gives g P k _ x rest h = none_some (x, rest) h

pub nat_gives : {B : Type 0} (g : ℕ × Tokens → Option (B × Tokens)) (P : Tokens → B → Tokens → Type 0)
    → ((n : ℕ) (ts : Tokens) (x : B) (rest : Tokens) → g (n, ts) ≡ Some (x, rest) → P (Nat n ∷ ts) x rest)
    → (ts : Tokens) (x : B) (rest : Tokens) → (nat ts >>= g) ≡ Some (x, rest) → P ts x rest
nat_gives g P k (Nat n ∷ ts) x rest h = k n ts x rest h
nat_gives g P k _ x rest h = none_some (x, rest) h

-- ---- signs and words

same_is : (s r : Sign) → same_sign s r ≡ true → r ≡ s
same_is OpenBrace OpenBrace h = refl
same_is CloseBrace CloseBrace h = refl
same_is OpenParenthesis OpenParenthesis h = refl
same_is CloseParenthesis CloseParenthesis h = refl
same_is OpenBracket OpenBracket h = refl
same_is CloseBracket CloseBracket h = refl
same_is Colon Colon h = refl
same_is Comma Comma h = refl
same_is Dot Dot h = refl
same_is Equal Equal h = refl
same_is Less Less h = refl
same_is AtMost AtMost h = refl
same_is Greater Greater h = refl
same_is AtLeast AtLeast h = refl
same_is _ _ h = absurd (cc)

sign_is : (s : Sign) (t : Token) → is_sign s t ≡ true → t ≡ a_sign s
sign_is s (a_sign r) h = ap a_sign (same_is s r h)
sign_is s _ h = absurd (cc)

word_is : (w : Text) (t : Token) → is_word w t ≡ true → t ≡ a_word w
word_is w (a_word t) h = ap a_word (same_text t w h)
word_is w _ h = absurd (cc)

-- one token that is tested
tested_gives : {B : Type 0} (t u : Token) (b : Bool) (g : Unit {0} × Tokens → Option (B × Tokens)) (P : Tokens → B → Tokens → Type 0)
    → (b ≡ true → t ≡ u)
    → ((ts : Tokens) (x : B) (rest : Tokens) → g (tt, ts) ≡ Some (x, rest) → P (u ∷ ts) x rest)
    → (ts : Tokens) (x : B) (rest : Tokens) → ((b >> Some (tt, ts)) >>= g) ≡ Some (x, rest) → P (t ∷ ts) x rest
tested_gives t u true g P is k ts x rest h = subst (λ (v : Token). P (v ∷ ts) x rest) (sym (is refl)) (k ts x rest h)
tested_gives t u false g P is k ts x rest h = none_some (x, rest) h

pub expect_gives : {B : Type 0} (s : Sign) (g : Unit {0} × Tokens → Option (B × Tokens)) (P : Tokens → B → Tokens → Type 0)
    → ((ts : Tokens) (x : B) (rest : Tokens) → g (tt, ts) ≡ Some (x, rest) → P (a_sign s ∷ ts) x rest)
    → (ts : Tokens) (x : B) (rest : Tokens) → (expect s ts >>= g) ≡ Some (x, rest) → P ts x rest
expect_gives s g P k [] x rest h = none_some (x, rest) h
expect_gives s g P k (t ∷ ts) x rest h = tested_gives t (a_sign s) (is_sign s t) g P (sign_is s t) k ts x rest h

pub expect_word_gives : {B : Type 0} (w : Text) (g : Unit {0} × Tokens → Option (B × Tokens)) (P : Tokens → B → Tokens → Type 0)
    → ((ts : Tokens) (x : B) (rest : Tokens) → g (tt, ts) ≡ Some (x, rest) → P (a_word w ∷ ts) x rest)
    → (ts : Tokens) (x : B) (rest : Tokens) → (expect_word w ts >>= g) ≡ Some (x, rest) → P ts x rest
expect_word_gives w g P k [] x rest h = none_some (x, rest) h
expect_word_gives w g P k (t ∷ ts) x rest h = tested_gives t (a_word w) (is_word w t) g P (word_is w t) k ts x rest h

-- ---- what a token or a word stands for

pub token_only : {A : Type 0} (f : Token → Option A) (S : Spelling A) → ((t : Token) (a : A) → f t ≡ Some a → S a (t ∷ [])) → ReadsOnly (token_as f) S
token_only f S k [] x rest h = none_some (x, rest) h
token_only {A} f S k (t ∷ ts) x rest h =
    let a = bind_some {A = A} {B = A × Tokens} (f t) (λ b. Some (b, ts)) (x, rest) h in
    let q : ◌≡◌ {A = A × Tokens} (a.0, ts) (x, rest) = some_same (a.0, ts) (x, rest) a.1.1 in
    (t ∷ [], (subst (λ (b : A). S b (t ∷ [])) (ap (λ r. r.0) q) (k t a.0 a.1.0), ap (λ (r : A × Tokens). t ∷ r.1) q))

pub word_only : {A : Type 0} (f : Text → Option A) (S : Spelling A) → ((t : Text) (a : A) → f t ≡ Some a → S a (a_word t ∷ [])) → ReadsOnly (word_as f) S
word_only {A} f S k (a_word t ∷ ts) x rest h =
    let a = bind_some {A = A} {B = A × Tokens} (f t) (λ b. Some (b, ts)) (x, rest) h in
    let q : ◌≡◌ {A = A × Tokens} (a.0, ts) (x, rest) = some_same (a.0, ts) (x, rest) a.1.1 in
    (a_word t ∷ [], (subst (λ (b : A). S b (a_word t ∷ [])) (ap (λ r. r.0) q) (k t a.0 a.1.0), ap (λ (r : A × Tokens). a_word t ∷ r.1) q))
word_only f S k _ x rest h = none_some (x, rest) h

-- a word that one of these words stands for
pub word_gives : {A B : Type 0} (f : Text → Option A) (word_of : A → Text) (g : A × Tokens → Option (B × Tokens)) (P : Tokens → B → Tokens → Type 0)
    → ((t : Text) (a : A) → f t ≡ Some a → t ≡ word_of a)
    → ((a : A) (ts : Tokens) (x : B) (rest : Tokens) → g (a, ts) ≡ Some (x, rest) → P (a_word (word_of a) ∷ ts) x rest)
    → (ts : Tokens) (x : B) (rest : Tokens) → (word_as f ts >>= g) ≡ Some (x, rest) → P ts x rest
word_gives {A} {B} f word_of g P is k ts x rest h =
    then_gives (word_as f) (λ a us. us ≡ a_word (word_of a) ∷ []) g P
    (word_only f (λ a us. us ≡ a_word (word_of a) ∷ []) λ t a e. ap (λ (w : Text). a_word w ∷ []) (is t a e))
    (λ a us e ts x rest h. subst (λ (vs : Tokens). P (vs ++ ts) x rest) (sym e) (k a ts x rest h))
    ts x rest h

-- this word, or the words behind it in a table
pub named_gives : {A : Type 0} (t w : Text) (a : A) (others : Option A) (P : A → Type 0)
    → (t ≡ w → P a) → ((x : A) → others ≡ Some x → P x) → (x : A) → (if same t w then Some a else others) ≡ Some x → P x
named_gives {A} t w a others P is other x h = by_test (same t w) refl h where
  by_test : (b : Bool) → same t w ≡ b → (if b then Some a else others) ≡ Some x → P x
  by_test true e h = subst P (some_same a x h) (is (same_text t w e))
  by_test false e h = other x h

-- this word chooses a parser, or those behind it do
pub said_gives : {B : Type 0} (t w : Text) (p q : Parser B) (P : Text → Tokens → B → Tokens → Type 0)
    → Gives p (P w) → Gives q (P t) → Gives (if same t w then p else q) (P t)
said_gives {B} t w p q P is other ts x rest h = by_test (same t w) refl h where
  by_test : (b : Bool) → same t w ≡ b → (if b then p else q) ts ≡ Some (x, rest) → P t ts x rest
  by_test true e h = subst (λ (v : Text). P v ts x rest) (sym (same_text t w e)) (is ts x rest h)
  by_test false e h = other ts x rest h

-- ---- choices

-- a test that holds exactly where this token is next
pub record Tells (begins : Tokens → Bool) (sep : Token) : Type 0 where
  pub holds : (ts : Tokens) → begins (sep ∷ ts) ≡ true
  pub only : (ts : Tokens) → begins ts ≡ true → ts ≡ sep ∷ drop 1 ts

pub sign_tells_itself : (s : Sign) → same_sign s s ≡ true
sign_tells_itself OpenBrace = refl
sign_tells_itself CloseBrace = refl
sign_tells_itself OpenParenthesis = refl
sign_tells_itself CloseParenthesis = refl
sign_tells_itself OpenBracket = refl
sign_tells_itself CloseBracket = refl
sign_tells_itself Colon = refl
sign_tells_itself Comma = refl
sign_tells_itself Dot = refl
sign_tells_itself Equal = refl
sign_tells_itself Less = refl
sign_tells_itself AtMost = refl
sign_tells_itself Greater = refl
sign_tells_itself AtLeast = refl

next_is_only : (s : Sign) (ts : Tokens) → next_is s ts ≡ true → ts ≡ a_sign s ∷ drop 1 ts
next_is_only s [] h = absurd (cc)
next_is_only s (t ∷ ts) h = ap (λ (u : Token). u ∷ ts) (sign_is s t h)

next_says_only : (w : Text) (ts : Tokens) → next_says w ts ≡ true → ts ≡ a_word w ∷ drop 1 ts
next_says_only w [] h = absurd (cc)
next_says_only w (t ∷ ts) h = ap (λ (u : Token). u ∷ ts) (word_is w t h)

pub sign_tells : (s : Sign) → Tells (next_is s) (a_sign s)
sign_tells s = record { holds = λ ts. sign_tells_itself s; only = next_is_only s }

pub word_tells : (w : Text) → Tells (next_says w) (a_word w)
word_tells w = record { holds = λ ts. same_self w; only = next_says_only w }

pub otherwise : {B : Type 0} (b : Bool) (x y : B) → b ≡ false → (elim b [ true ↦ x | false ↦ y ]) ≡ y
otherwise true x y h = absurd (cc)
otherwise false x y h = refl

pub surely : {B : Type 0} (b : Bool) (x y : B) → b ≡ true → (elim b [ true ↦ x | false ↦ y ]) ≡ x
surely true x y h = refl
surely false x y h = absurd (cc)

pub choice_gives : {A : Type 0} (begins : Tokens → Bool) (sep : Token) (p q : Parser A) (P : Tokens → A → Tokens → Type 0)
    → Tells begins sep
    → ((ts : Tokens) (x : A) (rest : Tokens) → p ts ≡ Some (x, rest) → P (sep ∷ ts) x rest)
    → ((ts : Tokens) (x : A) (rest : Tokens) → q ts ≡ Some (x, rest) → P ts x rest)
    → (ts : Tokens) (x : A) (rest : Tokens) → if_next begins p q ts ≡ Some (x, rest) → P ts x rest
choice_gives {A} begins sep p q P tells first second ts x rest h = by_test (begins ts) refl h where
  by_test : (b : Bool) → begins ts ≡ b → ◌≡◌ {A = Option (A × Tokens)} (elim b [ true ↦ p (drop 1 ts) | false ↦ q ts ]) (Some (x, rest)) → P ts x rest
  by_test true e h = subst (λ (us : Tokens). P us x rest) (sym (tells.only ts e)) (first (drop 1 ts) x rest h)
  by_test false e h = second ts x rest h

pub optional_only : {A : Type 0} (begins : Tokens → Bool) (sep : Token) (p : Parser A) (S : Spelling A)
    → Tells begins sep → ReadsOnly p S → ReadsOnly (optional begins p) (Optionally sep S)
optional_only {A} begins sep p S tells only =
    choice_gives begins sep _ _ _ tells
    (then_gives p S _ (λ ts. Fronts (Optionally sep S) (sep ∷ ts)) only λ a us s. pure_gives (Some a) _ λ ts. (sep ∷ us, ((us, (s, refl)), refl)))
    (pure_gives None _ λ ts. ([], (refl, refl)))

pub optional_missing : {A : Type 0} (begins : Tokens → Bool) (p : Parser A) (ts : Tokens) → begins ts ≡ false → optional begins p ts ≡ Some (None, ts)
optional_missing {A} begins p ts h =
    otherwise {B = Option (Option A × Tokens)} (begins ts) (p (drop 1 ts) >>= λ r. Some (Some r.0, r.1)) (Some (None, ts)) h

pub optional_nat_gives : {B : Type 0} (g : Option ℕ × Tokens → Option (B × Tokens)) (P : Tokens → B → Tokens → Type 0)
    → ((n : ℕ) (ts : Tokens) (x : B) (rest : Tokens) → g (Some n, ts) ≡ Some (x, rest) → P (Nat n ∷ ts) x rest)
    → ((ts : Tokens) (x : B) (rest : Tokens) → g (None, ts) ≡ Some (x, rest) → P ts x rest)
    → (ts : Tokens) (x : B) (rest : Tokens) → (optional_nat ts >>= g) ≡ Some (x, rest) → P ts x rest
optional_nat_gives g P some none (Nat n ∷ ts) x rest h = some n ts x rest h
optional_nat_gives g P some none ts x rest h = none ts x rest h

pub name_or_number_gives : {A : Type 0} (named : Text → Parser A) (numbered : ℕ → Parser A) (P : Tokens → A → Tokens → Type 0)
    → ((n : Text) → IsName n → (ts : Tokens) (x : A) (rest : Tokens) → named n ts ≡ Some (x, rest) → P (a_word n ∷ ts) x rest)
    → ((n : ℕ) (ts : Tokens) (x : A) (rest : Tokens) → numbered n ts ≡ Some (x, rest) → P (Num n ∷ ts) x rest)
    → (ts : Tokens) (x : A) (rest : Tokens) → name_or_number named numbered ts ≡ Some (x, rest) → P ts x rest
name_or_number_gives {A} named numbered P k l (a_word t ∷ ts) x rest h =
    let c = test_some {B = A × Tokens} (not (is_reserved t)) (named t ts) (x, rest) h in
    k t (not_true (is_reserved t) c.0) ts x rest c.1
name_or_number_gives named numbered P k l (Num n ∷ ts) x rest h = l n ts x rest h
name_or_number_gives named numbered P k l _ x rest h = none_some (x, rest) h
