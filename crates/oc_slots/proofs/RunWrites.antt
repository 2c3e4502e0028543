-- Runs that are written one after another beside what is held.
use Rattle.std.proofs.Common.{◌≡◌, ◌∙◌, ℕ, zero, suc, ◌+◌, ◌≤◌, ◌<◌, List, [], ◌∷◌, ◌++◌, length, take, drop, get_or, map, Result, Ok, append-nil, sym, ap, subst, refl, arith}
use Rattle.std.proofs.Math.Seq.{drop-cons}
use Rattle.std.proofs.lemmas.List.{drop-map, get_or-map, length-map}
use Rattle.oc_layout.specs.declared.cells.Header.{Header}
use Rattle.oc_log.proofs.Bytes.{length-over, over_out}
use Rattle.oc_host.specs.declared.host.Failed.{Failed}
use Rattle.oc_host.specs.Disk.{Disk, IsDisk, IsImage, AfterWrite, LeavesOnly, writing, wrote}
use Rattle.oc_host.proofs.Moments.{started, writes}
use Rattle.oc_pages.specs.declared.page.Page.{Page}
use Rattle.oc_slots.specs.declared.run.Run.{Run}
use Rattle.oc_slots.specs.Held.{Holds, map_of}
use Rattle.oc_slots.specs.Pieces.{Piece, as_pieces, over_all, Fit}
use Rattle.oc_slots.specs.Writing.{IsFree, AreFree, Keeps, Before}
use Rattle.oc_slots.proofs.HeldGives.{gives_same}
use Rattle.oc_slots.proofs.Writes.{still_holds, same_map, gives_in_write}

nothing : (n : ℕ) → take {A = ℕ} n [] ≡ []
nothing zero = refl
nothing (suc n) = refl

-- nothing more is said in a stop between two calls or in a write
pub told_same : (said before : List ℕ) → (n : ℕ) × (said ≡ before ++ take n []) → said ≡ before
told_same said before (n, e) = e ∙ ap (λ l. before ++ l) (nothing n) ∙ append-nil before

-- after a write the disk is sound as before
pub wrote_sound : (at : ℕ) (bytes : List ℕ) (d : Disk) → IsDisk d → at ≤ length d.bytes → IsDisk (wrote at bytes d)
wrote_sound at bytes d sound le = record {
  no_shorter = omega (arith, length-over at bytes d.bytes le, sound.no_shorter);
  no_longer = omega (arith, length-over at bytes d.bytes le, sound.no_longer);
  kept = λ k fixed. over_out at bytes d.bytes k le fixed.1.0 ∙ sound.kept k (fixed.0, fixed.1.1);
}

-- some of the pieces are written, and these are left
pub record IsWritten (pieces rest : List Piece) (old d : Disk) : Type 0 where
  pub fit : Fit rest d.bytes
  pub bytes : over_all rest d.bytes ≡ over_all pieces old.bytes
  pub keeps : (h : Header) (pages : List Page) → AreFree h pages pieces → Keeps h pages old d
  pub moments : (h : Header) (pages : List Page) → AreFree h pages pieces → Holds h pages old → LeavesOnly old d (Before h pages old)

pub none_written : (pieces : List Piece) (old : Disk) → Fit pieces old.bytes → IsWritten pieces pieces old old
none_written pieces old fit = record {
  fit = fit;
  bytes = refl;
  keeps = λ h pages free. record { holds = λ holds. holds; same = λ holds id. refl; said = refl };
  moments = λ h pages free holds. started old (Before h pages old);
}

module _ (pieces rest : List Piece) (p : Piece) (old d : Disk) (written : IsWritten pieces (p ∷ rest) old d) (among : (h : Header) (pages : List Page) → AreFree h pages pieces → IsFree h pages p) where
  module _ (h : Header) (pages : List Page) (free : AreFree h pages pieces) (holds : Holds h pages old) where
    held : Holds h pages d
    held = (written.keeps h pages free).holds holds

    -- a stop in the write leaves the map of before
    in_write : (image said : List ℕ) → IsDisk (wrote p.at p.bytes d) → IsImage (writing p.at (length p.bytes) d) image said → Before h pages old image said
    in_write image said sound im = (
      told_same said d.said im.told ∙ (written.keeps h pages free).said,
      gives_same h.first image _ _ (λ id. sym ((written.keeps h pages free).same holds id))
          (gives_in_write h pages d held p.at p.bytes written.fit.0 (among h pages free).room (among h pages free).beside sound image said im),
    )

  pub moments_on : (r : Result Unit Failed) (e : Disk) → AfterWrite p.at p.bytes r d e → IsDisk d → (h : Header) (pages : List Page) → AreFree h pages pieces → Holds h pages old → LeavesOnly old e (Before h pages old)
  moments_on r e after sound h pages free holds = writes old d (Before h pages old) p.at p.bytes r e after (written.moments h pages free holds) (λ image said im. in_write h pages free holds image said (wrote_sound p.at p.bytes d sound written.fit.0) im)

  -- one piece more is written
  pub written_on : (e : Disk) → e ≡ wrote p.at p.bytes d → IsDisk d → IsWritten pieces rest old e
  written_on e is sound = record {
    fit = subst (λ (x : Disk). Fit rest x.bytes) (sym is) written.fit.1;
    bytes = ap (λ (x : Disk). over_all rest x.bytes) is ∙ written.bytes;
    keeps = λ h pages free. record {
      holds = λ holds. subst (Holds h pages) (sym is) (still_holds h pages d (held h pages free holds) p.at p.bytes written.fit.0 (among h pages free).room (among h pages free).beside (wrote_sound p.at p.bytes d sound written.fit.0));
      same = λ holds id. (λ i. map_of h pages (is i).bytes id) ∙ same_map h pages d (held h pages free holds) p.at p.bytes written.fit.0 (among h pages free).room (among h pages free).beside (wrote_sound p.at p.bytes d sound written.fit.0) id ∙ (written.keeps h pages free).same holds id;
      said = ap (λ (x : Disk). x.said) is ∙ (written.keeps h pages free).said;
    };
    moments = λ h pages free holds. moments_on (Ok tt) e is sound h pages free holds;
  }

abbrev as_piece : Run → Piece
as_piece r = record { at = r.at; bytes = r.bytes.items }

-- the pieces of the runs that are left
pub pieces_left : (runs : List Run) (i : ℕ) (r : Run) → i < length runs → r ≡ get_or runs i r → drop i (as_pieces runs) ≡ record { at = r.at; bytes = r.bytes.items } ∷ drop (i + 1) (as_pieces runs)
pieces_left runs i r lt is =
    drop-map as_piece i runs ∙ ap (map as_piece) (drop-cons runs i r lt) ∙ (λ j. as_piece (sym is j) ∷ map as_piece (drop (suc i) runs)) ∙ (λ j. as_piece r ∷ sym (drop-map as_piece (suc i) runs) j)
    ∙ (λ j. as_piece r ∷ drop (next j) (as_pieces runs))
  where
    next : suc i ≡ i + 1
    next = omega arith

pub piece_among : (runs : List Run) (i : ℕ) (r : Run) → i < length runs → r ≡ get_or runs i r → (h : Header) (pages : List Page) → AreFree h pages (as_pieces runs) → IsFree h pages (record { at = r.at; bytes = r.bytes.items })
piece_among runs i r lt is h pages free =
    subst (IsFree h pages) (get_or-map as_piece runs i r (as_piece r) lt ∙ ap as_piece (sym is)) (free i (as_piece r) (omega (arith, lt, length-map runs as_piece)))
