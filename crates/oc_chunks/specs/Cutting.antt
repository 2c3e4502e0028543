-- Entries cut into chunks that a change makes.
use Rattle.std.specs.Prelude.{◌≡◌, ℕ, ◌≤◌, true, List, ◌++◌, length, None}
use Rattle.std.specs.List.{flat_map}
use Rattle.std.specs.Global.{Vec}
use Rattle.oc_chunks.specs.declared.piece.Piece.{Piece}
use Rattle.oc_chunks.specs.declared.piece.Was.TheVariants.{Nothing}
use Rattle.oc_chunks.specs.Ascending.{Each}
use Rattle.oc_chunks.specs.Chunks.{is_within}

module _ {X : Type 0} where
  -- a new piece of these entries
  abbrev pub made_of : Vec X → Piece X
  made_of v = record { part = record { items = v; len = length v.items; number = None; changed = true }; was = Nothing }

  -- all items of the pieces
  abbrev pub items_of : List (Piece X) → List X
  items_of = flat_map (λ p. p.part.items.items)

  -- a new piece within the bound
  pub record IsMade (bytes : X → ℕ) (most : ℕ) (p : Piece X) : Type 0 where
    pub some : 1 ≤ length p.part.items.items
    pub whole : p.part.len ≡ length p.part.items.items
    pub within : is_within bytes most p.part.items.items ≡ true
    pub number : p.part.number ≡ None
    pub changed : p.part.changed ≡ true
    pub was : p.was ≡ Nothing

  -- new pieces of these entries stand behind the old ones
  pub record IsCutInto (bytes : X → ℕ) (most : ℕ) (es : List X) (old new : List (Piece X)) : Type 0 where
    pub made : List (Piece X)
    pub behind : new ≡ old ++ made
    pub each : Each (IsMade bytes most) made
    pub items : items_of made ≡ es

  -- no entry takes more bytes
  abbrev pub IsWide : (X → ℕ) → ℕ → List X → Type 0
  IsWide bytes widest = Each (λ e. bytes e ≤ widest)
