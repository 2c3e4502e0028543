-- A list in chunks, as contracts see it.
use Rattle.std.specs.Prelude.{◌≡◌, ◌⊎◌, ℕ, ◌≤◌, Bool, true, not, ◌||◌, ◌&&◌, nat_le, List, [], ◌∷◌, filter, filter_map, flat_map, length, sum_by, Option, if◌then◌else◌, refl}
use Rattle.std.specs.List.{list_any}
use Rattle.std.specs.Coded.{Coded, code_by, coded×, coded_ℕ, coded_bool, coded_list, coded_option}
use Rattle.std.specs.declared.cmp.Ordering.{Ordering}
use Rattle.oc_model.specs.Lists.{IsOneOf}
use Rattle.oc_chunks.specs.Ascending.{Each, entered, replaced}

-- a part of the list, its number as a segment if it has one, and whether it changed since it was written
pub record Chunk (X : Type 0) : Type 0 where
  pub entries : List X
  pub number : Option ℕ
  pub changed : Bool

-- the chunks as they are, and as they were at the mark
pub record Chunked (X : Type 0) : Type 0 where
  pub chunks : List (Chunk X)
  pub marked : List (Chunk X)

module _ {X : Type 0} where
  -- a chunk is told apart by its three parts
  abbrev pub chunk_code : Coded X → Coded (Chunk X)
  chunk_code code =
      code_by (List X × (Option ℕ × Bool)) (coded× (coded_list code) (coded× (coded_option coded_ℕ) coded_bool)) (λ c. (c.entries, (c.number, c.changed))) (λ p. record { entries = p.0; number = p.1.0; changed = p.1.1 }) (λ _. refl)

  -- a list in chunks is told apart by its two lists
  abbrev pub chunked_code : Coded X → Coded (Chunked X)
  chunked_code code =
      code_by (List (Chunk X) × List (Chunk X)) (coded× (coded_list (chunk_code code)) (coded_list (chunk_code code))) (λ l. (l.chunks, l.marked)) (λ p. record { chunks = p.0; marked = p.1 }) (λ _. refl)

  -- the chunk, if it has an entry
  abbrev pub some_of : List X → Chunk X → List (Chunk X)
  some_of [] c = []
  some_of (e ∷ es) c = c ∷ []

  -- a chunk that has an entry, and nothing in place of an empty one
  abbrev pub nonempty : Chunk X → List (Chunk X)
  nonempty c = some_of c.entries c

  -- a chunk has 1 to 512 entries
  pub record IsSizedChunk (c : Chunk X) : Type 0 where
    pub some : 1 ≤ length c.entries
    pub few : length c.entries ≤ 512

  -- the chunks as one list
  abbrev pub joined : List (Chunk X) → List X
  joined = flat_map (λ c. c.entries)

  -- the numbers that the chunks have, in order
  abbrev pub numbers : List (Chunk X) → List ℕ
  numbers = filter_map (λ c. c.number)

  -- one entry, or at most so many of at most so many bytes
  abbrev pub is_within : (X → ℕ) → ℕ → List X → Bool
  is_within bytes most es = nat_le (length es) 1 || (nat_le (length es) most && nat_le (sum_by bytes es) 4096)

  -- a chunk that a change made
  pub record IsCut (bytes : X → ℕ) (most : ℕ) (c : Chunk X) : Type 0 where
    pub changed : c.changed ≡ true
    pub within : is_within bytes most c.entries ≡ true

  -- each chunk stood there before as it is, or is one that a change made
  abbrev pub IsCutFrom : (X → ℕ) → ℕ → List (Chunk X) → List (Chunk X) → Type 0
  IsCutFrom bytes most old new = Each (λ c. IsOneOf c old ⊎ IsCut bytes most c) new

  -- new has x too
  pub record Adds (cmp : X → X → Ordering) (bytes : X → ℕ) (most : ℕ) (x : X) (old new : Chunked X) : Type 0 where
    pub entries : joined new.chunks ≡ entered cmp x (joined old.chunks)
    pub marked : new.marked ≡ old.marked
    pub numbers : numbers new.chunks ≡ numbers old.chunks
    pub chunks : IsCutFrom bytes most old.chunks new.chunks

  -- new has x, in place of one that is equal to it
  pub record Puts (cmp : X → X → Ordering) (bytes : X → ℕ) (most : ℕ) (x : X) (old new : Chunked X) : Type 0 where
    pub entries : joined new.chunks ≡ replaced cmp x (joined old.chunks)
    pub marked : new.marked ≡ old.marked
    pub numbers : numbers new.chunks ≡ numbers old.chunks
    pub chunks : IsCutFrom bytes most old.chunks new.chunks

  -- what is left of a chunk without the entries that pass: it has changed if one passes, and an empty one goes
  abbrev pub left : (X → Bool) → Chunk X → List (Chunk X)
  left passes c = if list_any passes c.entries then nonempty (record { entries = filter (λ e. not (passes e)) c.entries; number = c.number; changed = true }) else c ∷ []
