-- Which command each form of a line reads as.
use Rattle.std.specs.Prelude.{◌≡◌, refl, ℕ, true, false, List, [], ◌∷◌, ◌++◌, ◌^◌, ◌-◌, pos, neg_ℤ, codes, replicate, Some, None, map}
use Rattle.oc_model.specs.declared.value.Base.TheVariants as base
use Rattle.oc_model.specs.declared.value.Kind.{Kind}
use Rattle.oc_model.specs.declared.value.Kind.TheVariants as kind
use Rattle.oc_model.specs.declared.command.Single.{Single}
use Rattle.oc_model.specs.declared.command.Single.TheVariants as single
use Rattle.oc_model.specs.declared.command.ValueText.{ValueText}
use Rattle.oc_model.specs.declared.command.ValueText.TheVariants.{One, Many}
use Rattle.oc_model.specs.declared.command.Given.{Given}
use Rattle.oc_model.specs.declared.command.Decl.{Decl}
use Rattle.oc_model.specs.declared.command.Literal.TheVariants as literal
use Rattle.oc_model.specs.declared.command.CompareOp.TheVariants as op
use Rattle.oc_model.specs.declared.command.TextOp.TheVariants as text_op
use Rattle.oc_model.specs.declared.command.ExprText.{ExprText}
use Rattle.oc_model.specs.declared.command.ExprText.TheVariants as expr
use Rattle.oc_model.specs.declared.command.CritText.{CritText}
use Rattle.oc_model.specs.declared.command.RunDepth.TheVariants as run_depth
use Rattle.oc_model.specs.declared.command.NumberSetting.TheVariants as setting
use Rattle.oc_model.specs.declared.command.FlagSetting.TheVariants as flag
use Rattle.oc_model.specs.declared.command.SideText.TheVariants as side
use Rattle.oc_model.specs.declared.command.Command.TheVariants.{Class, RenameClass, RenameField, Convert, Index, Unindex, ConfigRun, ConfigNumber, ConfigFlag, New, Make, Let, BindNumber, BindField, Forget, Names, Show, PeekName, PeekNumber, Store, Delete, Activate, Deactivate, Refresh, Purge, Query, Example, Commit, Rollback}
use Rattle.oc_model.specs.Maps.{Text}
use Rattle.oc_machine.specs.Reading.{Reading, nothing, reads, reading}
use Rattle.oc_machine.specs.Rows.{rows, times}

-- ---- words for rows

-- the reading of a line
abbrev read : Text → Reading
read line = reading line

-- a class
abbrev A : Text
A = codes "A"

-- another class
abbrev B : Text
B = codes "B"

-- a field or a name
abbrev a : Text
a = codes "a"

-- another field or name
abbrev b : Text
b = codes "b"

-- a field
abbrev f : Text
f = codes "f"

-- a field as it is declared
abbrev decl : Text → Kind → Decl
decl n k = record { name = n; kind = k }

-- a field and its value
abbrev given : Text → ValueText → Given
given n v = record { name = n; value = v }

-- a whole number
abbrev int : ℕ → Single
int n = single.Int (pos n)

-- a path of one name is this number
abbrev is_number : Text → ℕ → ExprText
is_number n k = expr.Compare (n ∷ []) op.Equal (literal.Int (pos k))

-- by the path, ascending
abbrev crit : List Text → CritText
crit p = record { path = p; ascending = true }

-- by the path, descending
abbrev crit_desc : List Text → CritText
crit_desc p = record { path = p; ascending = false }

-- what a query of the class A with this expression reads as
abbrev asks : ExprText → Reading
asks e = reads (Query A (Some e) [])

-- ---- lines on the schema

class : read (codes "class A { a: i32, b: [text] }") ≡ reads (Class A None (decl a (kind.One base.I32) ∷ decl b (kind.Many base.Text) ∷ []))
unfolding rows
class = refl

class_with_parent : read (codes "class A:B{}") ≡ reads (Class A (Some B) [])
unfolding rows
class_with_parent = refl

-- every base kind
all_kinds : map (λ w. read (codes "convert A.a from " ++ w)) (codes "bool" ∷ codes "i8" ∷ codes "i16" ∷ codes "i32" ∷ codes "i64" ∷ codes "u64" ∷ codes "i128" ∷ codes "text" ∷ codes "ref" ∷ [])
    ≡ map (λ k. reads (Convert A a (kind.One k))) (base.Bool ∷ base.I8 ∷ base.I16 ∷ base.I32 ∷ base.I64 ∷ base.U64 ∷ base.I128 ∷ base.Text ∷ base.Ref ∷ [])
unfolding rows
all_kinds = refl

convert : read (codes "convert A . a from [ u64 ]") ≡ reads (Convert A a (kind.Many base.U64))
unfolding rows
convert = refl

rename_class : read (codes "rename A to B") ≡ reads (RenameClass A B)
unfolding rows
rename_class = refl

rename_field : read (codes "rename A.a to b") ≡ reads (RenameField A a b)
unfolding rows
rename_field = refl

index : read (codes "index A.a") ≡ reads (Index A a)
unfolding rows
index = refl

unindex : read (codes "unindex A.a") ≡ reads (Unindex A a)
unfolding rows
unindex = refl

-- ---- settings

config_activation : read (codes "config activation 5") ≡ reads (ConfigRun run_depth.Activation 5)
unfolding rows
config_activation = refl

config_update : read (codes "config update 0") ≡ reads (ConfigRun run_depth.Update 0)
unfolding rows
config_update = refl

config_minimum : read (codes "config A.minimum 1") ≡ reads (ConfigNumber A setting.Minimum 1)
unfolding rows
config_minimum = refl

config_maximum : read (codes "config A.maximum 2") ≡ reads (ConfigNumber A setting.Maximum 2)
unfolding rows
config_maximum = refl

config_class_update : read (codes "config A.update 3") ≡ reads (ConfigNumber A setting.Update 3)
unfolding rows
config_class_update = refl

config_cascade_activate : read (codes "config A.cascade_activate on") ≡ reads (ConfigFlag A flag.CascadeActivate true)
unfolding rows
config_cascade_activate = refl

config_cascade_update : read (codes "config A.cascade_update off") ≡ reads (ConfigFlag A flag.CascadeUpdate false)
unfolding rows
config_cascade_update = refl

config_cascade_delete : read (codes "config A.cascade_delete on") ≡ reads (ConfigFlag A flag.CascadeDelete true)
unfolding rows
config_cascade_delete = refl

-- classes that are named like a depth of the run, or like another setting
config_classes : map read (codes "config activation.minimum 1" ∷ codes "config update.update 1" ∷ codes "config transparent.minimum 1" ∷ [])
    ≡ reads (ConfigNumber (codes "activation") setting.Minimum 1) ∷ reads (ConfigNumber (codes "update") setting.Update 1) ∷ reads (ConfigNumber (codes "transparent") setting.Minimum 1) ∷ []
unfolding rows
config_classes = refl

-- ---- lines on objects

new : read (codes "new a A { f: 1, b: [] }") ≡ reads (New a A (given f (One (int 1)) ∷ given b (Many []) ∷ []))
unfolding rows
new = refl

make : read (codes "make A { }") ≡ reads (Make A [])
unfolding rows
make = refl

-- every value, alone and in an array
values : map (λ v. read (codes "let a.f = " ++ v)) (codes "null" ∷ codes "true" ∷ codes "false" ∷ codes "7" ∷ codes "-7" ∷ codes "\"t\"" ∷ codes "b" ∷ codes "~3" ∷ codes "[null, true, false, 7, -7, \"t\", b, ~3]" ∷ codes "[]" ∷ [])
    ≡ map (λ v. reads (Let a f v)) (
    One single.Null
    ∷ One (single.Bool true)
    ∷ One (single.Bool false)
    ∷ One (int 7)
    ∷ One (single.Int (neg_ℤ (pos 7)))
    ∷ One (single.Text (codes "t"))
    ∷ One (single.Name b)
    ∷ One (single.Num 3)
    ∷ Many (single.Null ∷ single.Bool true ∷ single.Bool false ∷ int 7 ∷ single.Int (neg_ℤ (pos 7)) ∷ single.Text (codes "t") ∷ single.Name b ∷ single.Num 3 ∷ [])
    ∷ Many []
    ∷ []
    )
unfolding rows
values = refl

store : map read (codes "store a" ∷ codes "store a 3" ∷ []) ≡ reads (Store a None) ∷ reads (Store a (Some 3)) ∷ []
unfolding rows
store = refl

delete : read (codes "delete a") ≡ reads (Delete a)
unfolding rows
delete = refl

activate : map read (codes "activate a" ∷ codes "activate a 0" ∷ []) ≡ reads (Activate a None) ∷ reads (Activate a (Some 0)) ∷ []
unfolding rows
activate = refl

deactivate : read (codes "deactivate a 1") ≡ reads (Deactivate a 1)
unfolding rows
deactivate = refl

refresh : read (codes "refresh a 1") ≡ reads (Refresh a 1)
unfolding rows
refresh = refl

purge : read (codes "purge a") ≡ reads (Purge a)
unfolding rows
purge = refl

-- ---- lines on names

bind_number : read (codes "bind a ~1") ≡ reads (BindNumber a 1)
unfolding rows
bind_number = refl

bind_field : read (codes "bind a b.f") ≡ reads (BindField a b f)
unfolding rows
bind_field = refl

forget : read (codes "forget a") ≡ reads (Forget a)
unfolding rows
forget = refl

names : read (codes "names") ≡ reads Names
unfolding rows
names = refl

show : read (codes "show a") ≡ reads (Show a)
unfolding rows
show = refl

peek_name : read (codes "peek a 1 committed") ≡ reads (PeekName a 1 side.Committed)
unfolding rows
peek_name = refl

peek_number : read (codes "peek ~2 0 session") ≡ reads (PeekNumber 2 0 side.Session)
unfolding rows
peek_number = refl

-- ---- queries

query : read (codes "query A") ≡ reads (Query A None [])
unfolding rows
query = refl

query_ordered : read (codes "query A order a asc, a.b desc") ≡ reads (Query A None (crit (a ∷ []) ∷ crit_desc (a ∷ b ∷ []) ∷ []))
unfolding rows
query_ordered = refl

query_whole : read (codes "query A where a = 1 order b asc") ≡ reads (Query A (Some (is_number a 1)) (crit (b ∷ []) ∷ []))
unfolding rows
query_whole = refl

example : read (codes "example a") ≡ reads (Example a)
unfolding rows
example = refl

commit : read (codes "commit") ≡ reads Commit
unfolding rows
commit = refl

rollback : read (codes "rollback") ≡ reads Rollback
unfolding rows
rollback = refl

-- ---- what a path is asked

comparisons : map (λ w. read (codes "query A where a.b " ++ w ++ codes " -1")) (codes "=" ∷ codes "<" ∷ codes "<=" ∷ codes ">" ∷ codes ">=" ∷ [])
    ≡ map (λ o. asks (expr.Compare (a ∷ b ∷ []) o (literal.Int (neg_ℤ (pos 1))))) (op.Equal ∷ op.Less ∷ op.AtMost ∷ op.Greater ∷ op.AtLeast ∷ [])
unfolding rows
comparisons = refl

literals : map (λ w. read (codes "query A where a = " ++ w)) (codes "null" ∷ codes "true" ∷ codes "false" ∷ codes "1" ∷ codes "\"t\"" ∷ [])
    ≡ map (λ l. asks (expr.Compare (a ∷ []) op.Equal l)) (literal.Null ∷ literal.Bool true ∷ literal.Bool false ∷ literal.Int (pos 1) ∷ literal.Text (codes "t") ∷ [])
unfolding rows
literals = refl

matches : map (λ w. read (codes "query A where a " ++ w ++ codes " \"t\"")) (codes "like" ∷ codes "contains" ∷ codes "starts" ∷ codes "ends" ∷ [])
    ≡ map (λ o. asks (expr.Match (a ∷ []) o (codes "t"))) (text_op.Like ∷ text_op.Contains ∷ text_op.Starts ∷ text_op.Ends ∷ [])
unfolding rows
matches = refl

objects : map (λ w. read (codes "query A where a " ++ w)) (codes "is b" ∷ codes "is ~1" ∷ codes "example b" ∷ [])
    ≡ asks (expr.IsName (a ∷ []) b) ∷ asks (expr.IsNumber (a ∷ []) 1) ∷ asks (expr.Example (a ∷ []) b) ∷ []
unfolding rows
objects = refl

-- ---- expressions

-- `and` binds closer than `or`, and `not` closer than both
binding : read (codes "query A where not a = 1 and b = 2 or f = 3 and a = 4")
    ≡ asks (expr.Or (expr.And (expr.Not (is_number a 1) ∷ is_number b 2 ∷ []) ∷ expr.And (is_number f 3 ∷ is_number a 4 ∷ []) ∷ []))
unfolding rows
binding = refl

-- a list has all its members, and parentheses keep one within another
members : map (λ w. read (codes "query A where " ++ w)) (
    codes "a = 1 or b = 2 or f = 3"
    ∷ codes "a = 1 or (b = 2 or f = 3)"
    ∷ codes "(a = 1 or b = 2) or f = 3"
    ∷ codes "a = 1 and (b = 2 and f = 3)"
    ∷ codes "a = 1 and (b = 2 or f = 3)"
    ∷ []
    ) ≡ map asks (
    expr.Or (is_number a 1 ∷ is_number b 2 ∷ is_number f 3 ∷ [])
    ∷ expr.Or (is_number a 1 ∷ expr.Or (is_number b 2 ∷ is_number f 3 ∷ []) ∷ [])
    ∷ expr.Or (expr.Or (is_number a 1 ∷ is_number b 2 ∷ []) ∷ is_number f 3 ∷ [])
    ∷ expr.And (is_number a 1 ∷ expr.And (is_number b 2 ∷ is_number f 3 ∷ []) ∷ [])
    ∷ expr.And (is_number a 1 ∷ expr.Or (is_number b 2 ∷ is_number f 3 ∷ []) ∷ [])
    ∷ []
    )
unfolding rows
members = refl

-- one member alone is what it is
alone : map (λ w. read (codes "query A where " ++ w)) (codes "a = 1" ∷ codes "(a = 1)" ∷ codes "((a = 1))" ∷ codes "not a = 1" ∷ codes "not (a = 1)" ∷ codes "(not ((a = 1)))" ∷ codes "not (not (a = 1))" ∷ [])
    ≡ map asks (is_number a 1 ∷ is_number a 1 ∷ is_number a 1 ∷ expr.Not (is_number a 1) ∷ expr.Not (is_number a 1) ∷ expr.Not (is_number a 1) ∷ expr.Not (expr.Not (is_number a 1)) ∷ [])
unfolding rows
alone = refl

-- 64 parentheses are open at once
nested : read (codes "query A where " ++ replicate 64 40 ++ codes "a = 1" ++ replicate 64 41) ≡ asks (is_number a 1)
unfolding rows
nested = refl

-- a path of 16 names
long_path : read (codes "query A where a" ++ times 15 (codes ".a") ++ codes " = 1") ≡ asks (expr.Compare (replicate 16 a) op.Equal (literal.Int (pos 1)))
unfolding rows
long_path = refl

-- ---- blanks

-- A blank is needed only where two tokens would read as one.
without_blanks : map read (codes "peek a 1session" ∷ codes "bind a~1" ∷ codes "query A where f=1and a=2" ∷ codes "query A where f<=-1" ∷ codes "query A where(f=1)order a.b asc" ∷ [])
    ≡ reads (PeekName a 1 side.Session) ∷ reads (BindNumber a 1) ∷ asks (expr.And (is_number f 1 ∷ is_number a 2 ∷ [])) ∷ asks (expr.Compare (f ∷ []) op.AtMost (literal.Int (neg_ℤ (pos 1)))) ∷ reads (Query A (Some (is_number f 1)) (crit (a ∷ b ∷ []) ∷ [])) ∷ []
unfolding rows
without_blanks = refl

-- Space, tab and CR are blanks, also before the line and behind it.
with_blanks : read (codes "\t \r rename\rA\t. a  to b \r") ≡ reads (RenameField A a b)
unfolding rows
with_blanks = refl

-- ---- numbers

-- Leading zeros count as digits. 0 may stand behind `-`.
zeros : map read (codes "store a 007" ∷ codes "bind a ~01" ∷ codes "let a.f = -0" ∷ []) ≡ reads (Store a (Some 7)) ∷ reads (BindNumber a 1) ∷ reads (Let a f (One (int 0))) ∷ []
unfolding rows
zeros = refl

-- the greatest number of each token
greatest : map read (codes "refresh a 170141183460469231731687303715884105727" ∷ codes "let a.f = 170141183460469231731687303715884105727" ∷ codes "let a.f = -170141183460469231731687303715884105728" ∷ codes "bind a ~170141183460469231731687303715884105727" ∷ [])
    ≡ reads (Refresh a (2 ^ 127 - 1)) ∷ reads (Let a f (One (int (2 ^ 127 - 1)))) ∷ reads (Let a f (One (single.Int (neg_ℤ (pos (2 ^ 127)))))) ∷ reads (BindNumber a (2 ^ 127 - 1)) ∷ []
unfolding rows
greatest = refl

-- ---- texts

-- the line that gives a field a text, by the bytes between the quotes
abbrev text_line : Text → Text
text_line t = codes "let a.f = \"" ++ t ++ codes "\""

-- Every escape is read; `\x` takes digits of both cases. A `(` counts for nothing here.
escapes : read (text_line (codes "\\\"\\\\\\n\\r\\t\\x7f\\x7F\\x0a\\x0A(")) ≡ reads (Let a f (One (single.Text (34 ∷ 92 ∷ 10 ∷ 13 ∷ 9 ∷ 127 ∷ 127 ∷ 10 ∷ 10 ∷ 40 ∷ []))))
unfolding rows
escapes = refl

parentheses_in_text : read (text_line (replicate 65 40)) ≡ reads (Let a f (One (single.Text (replicate 65 40))))
unfolding rows
parentheses_in_text = refl

-- U+0080, U+009F, and the last character
characters : read (text_line (194 ∷ 128 ∷ 194 ∷ 159 ∷ 244 ∷ 143 ∷ 191 ∷ 191 ∷ [])) ≡ reads (Let a f (One (single.Text (194 ∷ 128 ∷ 194 ∷ 159 ∷ 244 ∷ 143 ∷ 191 ∷ 191 ∷ []))))
unfolding rows
characters = refl

-- ---- names

-- words of commands, kinds and settings as names
words_as_names : map read (codes "class class : class { i32: i32, ref: [ref] }" ∷ codes "rename to to to" ∷ codes "rename from.to to to" ∷ codes "convert from.from from text" ∷ codes "config config.minimum 1" ∷ codes "let let.let = let" ∷ codes "bind bind bind.bind" ∷ codes "peek peek 1 session" ∷ codes "query query order order1 asc" ∷ codes "names" ∷ [])
    ≡ reads (Class (codes "class") (Some (codes "class")) (decl (codes "i32") (kind.One base.I32) ∷ decl (codes "ref") (kind.Many base.Ref) ∷ []))
    ∷ reads (RenameClass (codes "to") (codes "to"))
    ∷ reads (RenameField (codes "from") (codes "to") (codes "to"))
    ∷ reads (Convert (codes "from") (codes "from") (kind.One base.Text))
    ∷ reads (ConfigNumber (codes "config") setting.Minimum 1)
    ∷ reads (Let (codes "let") (codes "let") (One (single.Name (codes "let"))))
    ∷ reads (BindField (codes "bind") (codes "bind") (codes "bind"))
    ∷ reads (PeekName (codes "peek") 1 side.Session)
    ∷ reads (Query (codes "query") None (crit (codes "order1" ∷ []) ∷ []))
    ∷ reads Names
    ∷ []
unfolding rows
words_as_names = refl

words_in_paths : map (λ w. read (codes "query A where " ++ w)) (codes "like like \"t\"" ∷ codes "is is is" ∷ codes "example example example" ∷ codes "a.starts.ends ends \"t\"" ∷ [])
    ≡ map asks (
    expr.Match (codes "like" ∷ []) text_op.Like (codes "t")
    ∷ expr.IsName (codes "is" ∷ []) (codes "is")
    ∷ expr.Example (codes "example" ∷ []) (codes "example")
    ∷ expr.Match (a ∷ codes "starts" ∷ codes "ends" ∷ []) text_op.Ends (codes "t")
    ∷ []
    )
unfolding rows
words_in_paths = refl

-- 64 letters, digits and `_`
long_name : read (codes "show _" ++ replicate 63 57) ≡ reads (Show (95 ∷ replicate 63 57))
unfolding rows
long_name = refl

-- ---- quiet lines

quiet : map read (codes "" ∷ codes " \t\r" ∷ codes "#" ∷ codes " # show a" ∷ (35 ∷ 0 ∷ 255 ∷ 11 ∷ 34 ∷ []) ∷ []) ≡ replicate 5 nothing
unfolding rows
quiet = refl

longest_quiet : map read (replicate 65535 32 ∷ (35 ∷ replicate 65534 40) ∷ []) ≡ replicate 2 nothing
unfolding rows
longest_quiet = refl
