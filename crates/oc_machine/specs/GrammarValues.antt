-- The grammar of a line's parts, from a thing to its tokens: names, lists, kinds, values.
use Rattle.std.specs.Prelude.{◌≡◌, ℕ, ℤ, true, false, List, [], ◌∷◌, ◌++◌, codes, ◌⊎◌, pos, neg_ℤ, Option, Some, None}
use Rattle.oc_model.specs.declared.value.Base.{Base}
use Rattle.oc_model.specs.declared.value.Base.TheVariants as base
use Rattle.oc_model.specs.declared.value.Kind.{Kind}
use Rattle.oc_model.specs.declared.value.Kind.TheVariants as kind
use Rattle.oc_model.specs.declared.command.Single.{Single}
use Rattle.oc_model.specs.declared.command.Single.TheVariants as single
use Rattle.oc_model.specs.declared.command.ValueText.{ValueText}
use Rattle.oc_model.specs.declared.command.ValueText.TheVariants as valued
use Rattle.oc_model.specs.declared.command.Given.{Given}
use Rattle.oc_model.specs.declared.command.Decl.{Decl}
use Rattle.oc_model.specs.Maps.{Text}
use Rattle.oc_machine.specs.declared.token.Sign.{Sign}
use Rattle.oc_machine.specs.declared.token.Sign.TheVariants.{OpenBrace, CloseBrace, OpenBracket, CloseBracket, Colon, Comma}
use Rattle.oc_machine.specs.declared.token.Token.{Token}
use Rattle.oc_machine.specs.declared.token.Token.TheVariants.{Word as a_word, Nat, Minus, Num, Text as a_text, Sign as a_sign}
use Rattle.oc_machine.specs.Parsers.{is_reserved}

-- the tokens of a line or of a part of one
abbrev pub Tokens : Type 0
Tokens = List Token

-- these tokens spell this thing
abbrev pub Spelling : Type 0 → Type 1
Spelling A = A → Tokens → Type 0

-- ---- names and what may be missing

-- a word that isn't reserved
abbrev pub IsName : Text → Type 0
IsName n = is_reserved n ≡ false

-- a word that is a name
abbrev pub SpellsName : Text → Tokens → Type 0
SpellsName n ts = IsName n × (ts ≡ a_word n ∷ [])

-- a thing behind this token, or nothing
abbrev pub Optionally : {A : Type 0} → Token → Spelling A → Option A → Tokens → Type 0
Optionally {A} t Spells None ts = ts ≡ []
Optionally {A} t Spells (Some x) ts = (us : Tokens) × (Spells x us × (ts ≡ t ∷ us))

-- ---- lists

-- the items, each behind this token
abbrev pub Behind : {A : Type 0} → Token → Spelling A → List A → Tokens → Type 0
Behind {A} t Spells [] ts = ts ≡ []
Behind {A} t Spells (x ∷ xs) ts = (us vs : Tokens) × (Spells x us × (Behind t Spells xs vs × (ts ≡ t ∷ (us ++ vs))))

-- the items, with this token between each two
abbrev pub Parted : {A : Type 0} → Token → Spelling A → List A → Tokens → Type 0
Parted {A} t Spells [] ts = ts ≡ []
Parted {A} t Spells (x ∷ xs) ts = (us vs : Tokens) × (Spells x us × (Behind t Spells xs vs × (ts ≡ us ++ vs)))

-- the items between an opening and a closing sign, with commas between
abbrev pub Enclosed : {A : Type 0} → Sign → Sign → Spelling A → List A → Tokens → Type 0
Enclosed {A} left right Spells xs ts = (us : Tokens) × (Parted (a_sign Comma) Spells xs us × (ts ≡ a_sign left ∷ (us ++ a_sign right ∷ [])))

-- things in braces with commas between them
abbrev pub InBraces : {A : Type 0} → Spelling A → List A → Tokens → Type 0
InBraces {A} Spells xs ts = Enclosed OpenBrace CloseBrace Spells xs ts

-- ---- kinds

-- the word of a base
abbrev pub base_word : Base → Text
base_word base.Bool = codes "bool"
base_word base.I8 = codes "i8"
base_word base.I16 = codes "i16"
base_word base.I32 = codes "i32"
base_word base.I64 = codes "i64"
base_word base.U64 = codes "u64"
base_word base.I128 = codes "i128"
base_word base.Text = codes "text"
base_word base.Ref = codes "ref"

-- the word of a base, in brackets for an array
abbrev pub SpellsKind : Kind → Tokens → Type 0
SpellsKind (kind.One b) ts = ts ≡ a_word (base_word b) ∷ []
SpellsKind (kind.Many b) ts = ts ≡ a_sign OpenBracket ∷ a_word (base_word b) ∷ a_sign CloseBracket ∷ []

-- a name, a colon, a kind
abbrev pub SpellsDecl : Decl → Tokens → Type 0
SpellsDecl d ts = IsName d.name × ((us : Tokens) × (SpellsKind d.kind us × (ts ≡ a_word d.name ∷ a_sign Colon ∷ us)))

-- ---- values

-- A number below 0 stands behind `-`. So may 0.
abbrev pub SpellsInt : ℤ → Tokens → Type 0
SpellsInt n ts = (k : ℕ) × (((n ≡ pos k) × (ts ≡ Nat k ∷ [])) ⊎ ((n ≡ neg_ℤ (pos k)) × (ts ≡ Minus k ∷ [])))

-- a single value, by its one token or, for a number below 0, by two
abbrev pub SpellsSingle : Single → Tokens → Type 0
SpellsSingle single.Null ts = ts ≡ a_word (codes "null") ∷ []
SpellsSingle (single.Bool true) ts = ts ≡ a_word (codes "true") ∷ []
SpellsSingle (single.Bool false) ts = ts ≡ a_word (codes "false") ∷ []
SpellsSingle (single.Int n) ts = SpellsInt n ts
SpellsSingle (single.Text t) ts = ts ≡ a_text t ∷ []
SpellsSingle (single.Name n) ts = SpellsName n ts
SpellsSingle (single.Num n) ts = ts ≡ Num n ∷ []

-- a single value, or single values in brackets with commas between them
abbrev pub SpellsValue : ValueText → Tokens → Type 0
SpellsValue (valued.One v) ts = SpellsSingle v ts
SpellsValue (valued.Many vs) ts = Enclosed OpenBracket CloseBracket SpellsSingle vs ts

-- a field's name, a colon, its value
abbrev pub SpellsGiven : Given → Tokens → Type 0
SpellsGiven g ts = IsName g.name × ((us : Tokens) × (SpellsValue g.value us × (ts ≡ a_word g.name ∷ a_sign Colon ∷ us)))
