-- Lists of which nothing has changed since they were written.
use Rattle.std.proofs.Common.{◌≡◌, ◌∙◌, ap, ap₂, sym, refl, subst, ℕ, Bool, true, false, ◌||◌, ◌&&◌, List, [], ◌∷◌, ◌++◌, map, flat_map, Option, Some, None, IsSome}
use Rattle.std.specs.Bool.{OnTrue}
use Rattle.std.proofs.lemmas.Bool.{false≢true}
use Rattle.oc_chunks.specs.declared.opening.Written.{Written}
use Rattle.oc_chunks.specs.declared.piece.Piece.{Piece}
use Rattle.oc_chunks.specs.Ascending.{Each}
use Rattle.oc_chunks.specs.Chunks.{Chunk, some_of}
use Rattle.oc_chunks.specs.Joining.{is_small, NoneSmall}
use Rattle.oc_chunks.specs.Lists.{AreStored, IsStored}
use Rattle.oc_chunks.specs.Opening.{chunk_read, number_from, spare_behind, spare_of, written}
use Rattle.oc_chunks.specs.Pieces.{chunk_now, chunks_now, present}
use Rattle.oc_chunks.specs.Settling.{IsSettled}
use Rattle.oc_chunks.proofs.Eaches.{each_append}

numbered : (n : Option ℕ) (spare : List ℕ) → IsSome n → (number_from n spare ≡ n) × (spare_behind n spare ≡ spare)
numbered (Some k) spare it = (refl, refl)
numbered None spare it = absurd (false≢true it)

module _ {X : Type 0} where
  -- writing leaves them as they are
  pub written_stored : (spare : List ℕ) (cs : List (Chunk X)) → Each IsStored cs → written spare cs ≡ cs
  written_stored spare [] s = refl
  written_stored spare (c ∷ cs) s =
      let n = numbered c.number spare s.0.number in
      ap₂ (λ k b. record { entries = c.entries; number = k; changed = b } ∷ written (spare_behind c.number spare) cs) n.0 (sym s.0.changed)
      ∙ ap (λ l. c ∷ written l cs) n.1
      ∙ ap (λ l. c ∷ l) (written_stored spare cs s.1)

  pub spare_stored : (spare : List ℕ) (cs : List (Chunk X)) → Each IsStored cs → spare_of spare cs ≡ spare
  spare_stored spare [] s = refl
  spare_stored spare (c ∷ cs) s = ap (λ l. spare_of l cs) (numbered c.number spare s.0.number).1 ∙ spare_stored spare cs s.1

  -- no two of them are to be joined
  pub none_stored : (bytes : X → ℕ) (most : ℕ) (cs : List (Chunk X)) → Each IsStored cs → NoneSmall bytes most cs
  none_stored bytes most [] s = tt
  none_stored bytes most (c ∷ []) s = tt
  none_stored bytes most (c ∷ d ∷ cs) s = (ap₂ (λ a b. (a || b) && is_small bytes most (c.entries ++ d.entries)) s.0.changed s.1.0.changed, none_stored bytes most (d ∷ cs) s.1)

  pub read_stored : (ws : List (Written X)) → Each IsStored (map chunk_read ws)
  read_stored [] = tt
  read_stored (w ∷ ws) = (record { changed = refl; number = refl }, read_stored ws)

  -- what is written is stored, if all have numbers
  pub stored_written : (spare : List ℕ) (cs : List (Chunk X)) → Each (λ c. IsSome c.number) (written spare cs) → Each IsStored (written spare cs)
  stored_written spare [] n = tt
  stored_written spare (c ∷ cs) n = (record { changed = refl; number = n.0 }, stored_written (spare_behind c.number spare) cs n.1)

  one_numbered : (es : List X) (c : Chunk X) → IsSome c.number → Each (λ d. IsSome d.number) (some_of es c)
  one_numbered [] c it = tt
  one_numbered (e ∷ es) c it = (it, tt)

  pub chunks_numbered : (ps : List (Piece X)) → Each (λ p. IsSome p.part.number) ps → Each (λ c. IsSome c.number) (flat_map chunks_now ps)
  chunks_numbered [] n = tt
  chunks_numbered (p ∷ ps) n = each_append (λ c. IsSome c.number) (chunks_now p) (flat_map chunks_now ps) (one_numbered (present p.part) (chunk_now p.part) n.0) (chunks_numbered ps n.1)

  pub are_stored : (spare : List ℕ) (cs : List (Chunk X)) (ps : List (Piece X)) → Each IsSettled ps → flat_map chunks_now ps ≡ written spare cs → (b : Bool) → OnTrue b (Each (λ p. IsSome p.part.number) ps) → OnTrue b (AreStored ps)
  are_stored spare cs ps settled is true n = record { settled = settled; chunks = subst (Each IsStored) (sym is) (stored_written spare cs (subst (Each (λ c. IsSome c.number)) is (chunks_numbered ps n))) }
  are_stored spare cs ps settled is false n = tt
