-- The chunks of pieces, as they are read.
use Rattle.std.proofs.Common.{◌≡◌, ◌∙◌, ap, sym, refl, subst, ℕ, ◌+◌, ◌<◌, ◌≤◌, List, [], ◌∷◌, ◌++◌, length, take, get_or, map, flat_map, arith, append-nil}
use Rattle.std.specs.declared.cmp.Ordering.{Ordering}
use Rattle.std.proofs.lemmas.List.{take_more, length-take-le}
use Rattle.std.proofs.lemmas.List.Concat.{flat_map-append}
use Rattle.oc_chunks.specs.declared.piece.Piece.{Piece}
use Rattle.oc_chunks.specs.declared.reading.ChunkView.{ChunkView}
use Rattle.oc_chunks.specs.Ascending.{Each, IsAscending}
use Rattle.oc_chunks.specs.Chunks.{Chunk, IsSizedChunk, joined, some_of}
use Rattle.oc_chunks.specs.Pieces.{present, chunk_now, chunks_now, IsSized, IsSound}
use Rattle.oc_chunks.specs.Reading.{chunk_of}
use Rattle.oc_chunks.proofs.Eaches.{each_append}
use Rattle.oc_chunks.proofs.Views.{joined_now}
use Rattle.oc_chunks.proofs.Settled.{some_chunk, entries_ascend}

module _ {X : Type 0} where
  pub no_chunk : (p : Piece X) → p.part.len ≡ 0 → chunks_now p ≡ []
  no_chunk p is = ap (λ n. some_of (take n p.part.items.items) (chunk_now p.part)) is

  pub the_chunk : (p : Piece X) → 1 ≤ p.part.len → p.part.len ≤ length p.part.items.items → chunks_now p ≡ chunk_now p.part ∷ []
  the_chunk p some within = some_chunk (present p.part) (chunk_now p.part) (omega (arith, some, length-take-le p.part.len p.part.items.items within))

  pub read_more : (vs ws : List (ChunkView X)) (ps : List (Piece X)) (i : ℕ) (p : Piece X) → i < length ps → p ≡ get_or ps i p → map chunk_of vs ≡ flat_map chunks_now (take i ps) → map chunk_of ws ≡ map chunk_of vs ++ chunks_now p → map chunk_of ws ≡ flat_map chunks_now (take (i + 1) ps)
  read_more vs ws ps i p lt read old new = new ∙ ap (λ l. l ++ chunks_now p) old ∙ sym (ap (flat_map chunks_now) (take_more ps i p lt) ∙ flat_map-append chunks_now (take i ps) (get_or ps i p ∷ []) ∙ ap (λ l. flat_map chunks_now (take i ps) ++ l) (append-nil (chunks_now (get_or ps i p)) ∙ ap chunks_now (sym read)))

  sized_some : (l : List X) (c : Chunk X) → c.entries ≡ l → length l ≤ 512 → Each IsSizedChunk (some_of l c)
  sized_some [] c is few = tt
  sized_some (e ∷ l) c is few = (record { some = omega (arith, ap length is); few = omega (arith, ap length is, few) }, tt)

  pub chunks_sized : (ps : List (Piece X)) → Each IsSized ps → Each IsSizedChunk (flat_map chunks_now ps)
  chunks_sized [] s = tt
  chunks_sized (p ∷ ps) s = each_append IsSizedChunk (chunks_now p) (flat_map chunks_now ps) (sized_some (present p.part) (chunk_now p.part) refl (omega (arith, s.0.part.few, length-take-le p.part.len p.part.items.items s.0.part.within))) (chunks_sized ps s.1)

  pub chunks_ascend : (cmp : X → X → Ordering) (ps : List (Piece X)) → IsSound cmp ps → IsAscending cmp (joined (flat_map chunks_now ps))
  chunks_ascend cmp ps s = subst (IsAscending cmp) (sym (joined_now ps)) (entries_ascend cmp ps s.ascending)
