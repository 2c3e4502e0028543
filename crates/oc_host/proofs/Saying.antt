-- What was said by several calls in a row.
use Rattle.std.proofs.Common.{◌≡◌, inl, inr, ℕ, ◌+◌, min, List, [], ◌++◌, length, take, refl, sym, ◌∙◌, ap, subst, append_assoc, arith, Ok, Err}
use Rattle.std.proofs.lemmas.List.{append-nil, take_all, take_min, take-append-le}
use Rattle.std.proofs.Math.Seq.{take-append-add}
use Rattle.oc_host.specs.declared.host.Failed.{Failed}
use Rattle.oc_host.specs.Disk.{Disk, AfterSay, Says, SaysFront, said_so}

-- ---- one call

-- n bytes of a piece
said_n : (piece : List ℕ) (n : ℕ) (d e : Disk) → e ≡ said_so piece n d → Says d e (take n piece)
said_n piece n d e is = record { said = ap (λ (f : Disk). f.said) is; bytes = ap (λ (f : Disk). f.bytes) is; synced = ap (λ (f : Disk). f.synced) is; spans = ap (λ (f : Disk). f.spans) is; top = ap (λ (f : Disk). f.top) is }

-- a call that succeeds says the whole piece
pub said_all : (piece : List ℕ) (x : Unit) (d e : Disk) → AfterSay piece (Ok x) d e → Says d e piece
said_all piece x d e is = subst (λ (text : List ℕ). Says d e text) (take_all (length piece) piece (omega arith)) (said_n piece (length piece) d e is)

-- nothing is a text
pub says_nothing : (d : Disk) → Says d d []
says_nothing d = record { said = sym (append-nil d.said); bytes = refl; synced = refl; spans = refl; top = refl }

-- a call that fails says a front of the piece
pub said_front : (piece : List ℕ) (f : Failed) (d e : Disk) → AfterSay piece (Err f) d e → SaysFront d e piece
said_front piece f d e (inl part) = record { count = part.0; says = said_n piece part.0 d e part.1 }
said_front piece f d e (inr is) = record { count = 0; says = subst (λ (g : Disk). Says d g []) (sym is) (says_nothing d) }

-- ---- several calls

pub says_then : {a b c : Disk} {s t : List ℕ} → Says a b s → Says b c t → Says a c (s ++ t)
says_then {a} {b} {c} {s} {t} one two = record {
  said = two.said ∙ ap (λ (l : List ℕ). l ++ t) one.said ∙ append_assoc a.said s t;
  bytes = two.bytes ∙ one.bytes;
  synced = two.synced ∙ one.synced;
  spans = two.spans ∙ one.spans;
  top = two.top ∙ one.top;
}

-- a front of the second text is, after the first, a front of both
pub says_then_front : {a b c : Disk} {s t : List ℕ} → Says a b s → SaysFront b c t → SaysFront a c (s ++ t)
says_then_front {a} {b} {c} {s} {t} one two = record {
  count = length s + two.count;
  says = subst (λ (text : List ℕ). Says a c text) (sym (take-append-add s t two.count)) (says_then one two.says);
}

-- a whole text is a front of itself
pub says_front : {a b : Disk} {s : List ℕ} → Says a b s → SaysFront a b s
says_front {a} {b} {s} all = record { count = length s; says = subst (λ (text : List ℕ). Says a b text) (sym (take_all (length s) s (omega arith))) all }

-- a front of a text is a front of a longer one
pub front_more : {a b : Disk} {s : List ℕ} (t : List ℕ) → SaysFront a b s → SaysFront a b (s ++ t)
front_more {a} {b} {s} t front = record {
  count = min front.count (length s);
  says = subst (λ (text : List ℕ). Says a b text) (sym (take_front ∙ take_min front.count s)) front.says;
}
  where
    take_front : take (min front.count (length s)) (s ++ t) ≡ take (min front.count (length s)) s
    take_front = take-append-le (min front.count (length s)) s t (omega arith)
