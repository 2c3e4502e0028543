-- Whole lines: what is spelled is read, and what is read is spelled.
use Rattle.std.proofs.Common.{◌≡◌, ℕ, ◌≤◌, Bool, true, false, [], ◌∷◌, ◌++◌, length, refl, sym, ap, ◌∙◌, subst, arith, nat_lt}
use Rattle.std.specs.Prelude.{Option, Some, None, fold, ◌||◌}
use Rattle.std.proofs.lemmas.Bool.Decides.{nat_tests}
use Rattle.oc_model.specs.declared.command.Command.{Command}
use Rattle.oc_model.specs.declared.answer.Word.TheVariants.{Long, Deep}
use Rattle.oc_model.specs.Maps.{Text}
use Rattle.oc_machine.specs.declared.token.Token.{Token}
use Rattle.oc_machine.specs.Lexing.{tokens}
use Rattle.oc_machine.specs.Reading.{Reading, command_of, open_behind, is_deep_from, is_deep, nothing, refused, reads, command_or_syntax, tokens_read, says_nothing, reading}
use Rattle.oc_machine.specs.GrammarValues.{Tokens}
use Rattle.oc_machine.specs.Grammar.{IsShallow, SpellsLine}
use Rattle.oc_machine.proofs.SpelledLines.{spelled_is_read}
use Rattle.oc_machine.proofs.ReadLines.{read_is_spelled}

-- ---- parentheses

within : (m n : ℕ) → nat_lt m n ≡ false → n ≤ m
within m n h = grind (arith, nat_tests)

beyond : (m n : ℕ) → n ≤ m → nat_lt m n ≡ false
beyond m n h = grind (arith, nat_tests)

-- no first part has more than 64 open, where so many are open before it
abbrev ShallowFrom : ℕ → Tokens → Type 0
ShallowFrom n ts = (us vs : Tokens) → ts ≡ us ++ vs → fold open_behind n us ≤ 64

neither : (a b : Bool) → (a || b) ≡ false → (a ≡ false) × (b ≡ false)
neither true b h = absurd (cc)
neither false b h = (refl, h)

shallow_from : (n : ℕ) (ts : Tokens) → n ≤ 64 → is_deep_from n ts ≡ false → ShallowFrom n ts
shallow_from n ts le h [] vs e = le
shallow_from n [] le h (u ∷ us) vs e = absurd (cc)
shallow_from n (t ∷ ts) le h (u ∷ us) vs e =
    let k = neither (nat_lt 64 (open_behind n t)) (is_deep_from (open_behind n t) ts) h in
    let same : t ≡ u = cc in
    let others : ts ≡ us ++ vs = cc in
    subst (λ (c : Token). fold open_behind (open_behind n c) us ≤ 64) same
    (shallow_from (open_behind n t) ts (within 64 (open_behind n t) k.0) k.1 us vs others)

not_deep : (n : ℕ) (ts : Tokens) → ShallowFrom n ts → is_deep_from n ts ≡ false
not_deep n [] h = refl
not_deep n (t ∷ ts) h =
    let k = open_behind n t in
    ap (λ (b : Bool). b || is_deep_from k ts) (beyond 64 k (h (t ∷ []) ts refl))
    ∙ not_deep k ts (λ us vs e. h (t ∷ us) vs (ap (λ (r : Tokens). t ∷ r) e))

shallow_read : (ts : Tokens) → IsShallow ts → is_deep ts ≡ false
unfolding is_deep
shallow_read ts h = not_deep 0 ts h

read_shallow : (ts : Tokens) → is_deep ts ≡ false → IsShallow ts
unfolding is_deep
read_shallow ts h = shallow_from 0 ts (omega arith) h

-- ---- a line

reads_same : (c d : Command) → reads c ≡ reads d → c ≡ d
reads_same c d h = cc

command_read : (o : Option Command) (c : Command) → command_or_syntax o ≡ reads c → o ≡ Some c
command_read None c h = absurd (cc)
command_read (Some d) c h = ap Some (reads_same d c h)

-- a line that isn't too deep reads as the command of its tokens
deep_cases : (d : Bool) (o : Option Command) (c : Command) → (elim d [ true ↦ refused Deep | false ↦ command_or_syntax o ]) ≡ reads c → (d ≡ false) × (o ≡ Some c)
deep_cases true o c h = absurd (cc)
deep_cases false o c h = (refl, command_read o c h)

tokens_cases : (o : Option Tokens) (c : Command) → tokens_read o ≡ reads c → (ts : Tokens) × ((o ≡ Some ts) × ((is_deep ts ≡ false) × (command_of ts ≡ Some c)))
tokens_cases None c h = absurd (cc)
tokens_cases (Some ts) c h = (ts, (refl, deep_cases (is_deep ts) (command_of ts) c h))

line_cases : (b d : Bool) (r : Reading) (c : Command) → (elim b [ true ↦ refused Long | false ↦ elim d [ true ↦ nothing | false ↦ r ] ]) ≡ reads c → (b ≡ false) × ((d ≡ false) × (r ≡ reads c))
line_cases true d r c h = absurd (cc)
line_cases false true r c h = absurd (cc)
line_cases false false r c h = (refl, (refl, h))

pub line_is_spelled : (c : Command) (line : Text) → reading line ≡ reads c → SpellsLine c line
unfolding reading
line_is_spelled c line h =
    let k = line_cases (nat_lt 65535 (length line)) (says_nothing line) (tokens_read (tokens line)) c h in
    let a = tokens_cases (tokens line) c k.1.1 in
    record { short = within 65535 (length line) k.0; speaks = k.1.0; among = a.0; falls = a.1.0; shallow = read_shallow a.0 a.1.1.0; spells = read_is_spelled c a.0 a.1.1.1 }

pub line_is_read : (c : Command) (line : Text) → SpellsLine c line → reading line ≡ reads c
unfolding reading
line_is_read c line s =
    ap (λ (b : Bool). elim b [ true ↦ refused Long | false ↦ elim (says_nothing line) [ true ↦ nothing | false ↦ tokens_read (tokens line) ] ]) (beyond 65535 (length line) s.short)
    ∙ ap (λ (d : Bool). elim d [ true ↦ nothing | false ↦ tokens_read (tokens line) ]) s.speaks
    ∙ ap tokens_read s.falls
    ∙ ap (λ (d : Bool). elim d [ true ↦ refused Deep | false ↦ command_or_syntax (command_of s.among) ]) (shallow_read s.among s.shallow)
    ∙ ap command_or_syntax (spelled_is_read c s.among s.spells)

pub one_reading : (c d : Command) (line : Text) → SpellsLine c line → SpellsLine d line → c ≡ d
one_reading c d line s t = reads_same c d (sym (line_is_read c line s) ∙ line_is_read d line t)
