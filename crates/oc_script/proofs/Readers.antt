-- Readers one after another.
use Rattle.std.proofs.Common.{◌≡◌, true, false, List, [], ◌∷◌, Option, Some, None, drop, codes, refl, ◌∙◌}
use Rattle.std.proofs.lemmas.Bool.{false≢true}
use Rattle.oc_model.specs.declared.command.ExprText.TheVariants as expr
use Rattle.oc_model.specs.Maps.{Text, same}
use Rattle.oc_machine.specs.declared.token.Sign.{Sign}
use Rattle.oc_machine.specs.declared.token.Sign.TheVariants.{Dot}
use Rattle.oc_machine.specs.declared.token.Token.{Token}
use Rattle.oc_machine.specs.Parsers.{Parser, ◌>=>◌, pure, next_is, expect, name, name_or_number}
use Rattle.oc_machine.specs.ReadingExpressions.{asked_by_word}
use Rattle.oc_script.specs.Parsed.{Reads}

-- What one parser gives of some tokens, another gives of others.
pub reads_on : {A : Type 0} (p q : Parser A) (old mid new : List Token) (r : Option A) → p old ≡ q mid → Reads q mid r new → Reads p old r new
reads_on p q old mid new None e h = e ∙ h
reads_on p q old mid new (Some x) e h = e ∙ h

-- Behind what the first parser reads stands what the second one does.
pub then_reads : {A B : Type 0} (p : Parser A) (f : A → Parser B) (old new : List Token) (x : A) → p old ≡ Some (x, new) → (p >=> f) old ≡ f x new
then_reads p f old new x e = rw e refl

-- The sign that comes next is read.
pub expect_next : (s : Sign) (old new : List Token) → next_is s old ≡ true → new ≡ drop 1 old → expect s old ≡ Some (tt, new)
expect_next s [] new next left = absurd (false≢true next)
expect_next s (t ∷ ts) new next left = rw (next, left) refl

-- A name, a dot and a name.
pub dotted : {A : Type 0} (f : Text → Text → Parser A) (old dot behind new : List Token) (x y : Text) → name old ≡ Some (x, dot) → next_is Dot dot ≡ true → behind ≡ drop 1 dot → name behind ≡ Some (y, new)
    → (name >=> λ x. expect Dot >=> λ _. name >=> λ y. f x y) old ≡ f x y new
dotted f old dot behind new x y first next left second =
    then_reads name (λ x. expect Dot >=> λ _. name >=> λ y. f x y) old dot x first
    ∙ then_reads (expect Dot) (λ _. name >=> λ y. f x y) dot behind tt (expect_next Dot dot behind next left)
    ∙ then_reads name (λ y. f x y) behind new y second

-- what stands behind a path and the word `is`
pub asked_is : (p : List Text) (w : Text) (ts : List Token) → same w (codes "like") ≡ false → same w (codes "contains") ≡ false → same w (codes "starts") ≡ false → same w (codes "ends") ≡ false → same w (codes "is") ≡ true
    → asked_by_word p w ts ≡ name_or_number (λ n. pure (expr.IsName p n)) (λ k. pure (expr.IsNumber p k)) ts
asked_is p w ts like contains starts ends is = rw (like, contains, starts, ends, is) refl
