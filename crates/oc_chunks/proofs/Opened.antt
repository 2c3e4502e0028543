-- Chunks that are read, and chunks that are written.
use Rattle.std.proofs.Common.{◌≡◌, ◌∙◌, ap, ap₂, sym, refl, subst, ℕ, zero, suc, ◌+◌, ◌-◌, ◌<◌, ◌≤◌, Bool, true, false, nat_lt, ◌||◌, List, [], ◌∷◌, ◌++◌, length, map, take, drop, get_or, set, flat_map, Option, Some, None, arith, append-nil, append_assoc}
use Rattle.std.specs.Cmp.{IsTotalOrder}
use Rattle.std.specs.Global.{Vec}
use Rattle.std.specs.Option.{option_to_list}
use Rattle.std.specs.declared.cmp.Ordering.{Ordering}
use Rattle.std.specs.declared.cmp.Ordering.TheVariants.{Less, Equal, Greater}
use Rattle.std.specs.Ordering.{is_lt}
use Rattle.std.proofs.lemmas.Bool.{false≢true}
use Rattle.std.proofs.lemmas.Bool.Decides.{nat_tests}
use Rattle.std.proofs.lemmas.List.{take_all, drop_all, take_more, take_more_set, drop-set-lt, length-set}
use Rattle.std.proofs.lemmas.List.Concat.{flat_map-append}
use Rattle.oc_chunks.specs.declared.opening.Written.{Written}
use Rattle.oc_chunks.specs.declared.piece.Piece.{Piece}
use Rattle.oc_chunks.specs.Ascending.{Each, IsAscending}
use Rattle.oc_chunks.specs.Between.{entries_in}
use Rattle.oc_chunks.specs.Chunks.{Chunk, IsSizedChunk, joined, numbers}
use Rattle.oc_chunks.specs.Opening.{chunk_read, piece_read, number_from, spare_behind, spare_of, written, IsList, Follows}
use Rattle.oc_chunks.specs.Pieces.{present, chunks_now, chunks_then, IsSound}
use Rattle.oc_chunks.specs.Settling.{IsSettled}
use Rattle.oc_chunks.proofs.Eaches.{each_append, each_rest, each_more, each_at, pairs_front, pairs_across}
use Rattle.oc_chunks.proofs.Located.{around}
use Rattle.oc_chunks.proofs.Replacing.{numbers_append}
use Rattle.oc_chunks.proofs.Settled.{same_rest, next_rest, all_present, settled_now, settled_thens, settled_shown, settled_sized}
use Rattle.oc_chunks.proofs.Views.{joined_now}

module _ {X : Type 0} (cmp : X → X → Ordering) (o : IsTotalOrder cmp) where
  abbrev Below : X → X → Type 0
  Below u v = cmp u v ≡ Less

  -- what is above the last is above all
  pub above_last : (us : List X) (x y : X) → IsAscending cmp (us ++ x ∷ []) → cmp x y ≡ Less → Each (λ e. cmp e y ≡ Less) (us ++ x ∷ [])
  above_last [] x y a below = (below, tt)
  above_last (u ∷ us) x y a below = (o.trans u x y (each_rest (Below u) us (x ∷ []) a.0).0 below, above_last us x y a.1 below)

  -- where each of a list is below the first of another that ascends
  pub joined_ascend : (us vs : List X) (y : X) → IsAscending cmp us → IsAscending cmp (y ∷ vs) → Each (λ e. cmp e y ≡ Less) us → IsAscending cmp (us ++ y ∷ vs)
  joined_ascend [] vs y a b low = b
  joined_ascend (u ∷ us) vs y a b low = (each_append (Below u) us (y ∷ vs) a.0 (low.0, each_more (Below y) (Below u) vs (λ v below. o.trans u y v low.0 below) b.0), joined_ascend us vs y a.1 b low.1)

  neighbours : (xs : List X) (i : ℕ) (d e : X) → suc i < length xs → IsAscending cmp xs → cmp (get_or xs i d) (get_or xs (suc i) e) ≡ Less
  neighbours [] i d e lt a = absurd (omega arith)
  neighbours (x ∷ []) i d e lt a = absurd (omega arith)
  neighbours (x ∷ y ∷ xs) zero d e lt a = a.0.0
  neighbours (x ∷ y ∷ xs) (suc i) d e lt a = neighbours (y ∷ xs) i d e (omega arith) a.1

  -- one element more
  pub ascends_more : (xs : List X) (i : ℕ) (x y : X) → 1 ≤ i → i < length xs → x ≡ get_or xs (i - 1) x → y ≡ get_or xs i y → IsAscending cmp (take i xs) → cmp x y ≡ Less → IsAscending cmp (take (i + 1) xs)
  ascends_more xs i x y some lt x_is y_is a below =
      let front : take i xs ≡ take (i - 1) xs ++ x ∷ [] = ap (λ n. take n xs) {x = i} {y = (i - 1) + 1} (omega (arith, some)) ∙ take_more xs (i - 1) x (omega (arith, lt)) ∙ ap (λ e. take (i - 1) xs ++ e ∷ []) (sym x_is) in
      let whole : take (i + 1) xs ≡ take i xs ++ y ∷ [] = take_more xs i y lt ∙ ap (λ e. take i xs ++ e ∷ []) (sym y_is) in
      subst (IsAscending cmp) (sym whole) (joined_ascend (take i xs) [] y a (tt, tt) (subst (Each (λ e. cmp e y ≡ Less)) (sym front) (above_last (take (i - 1) xs) x y (subst (IsAscending cmp) front a) below)))

  pub not_below : (xs : List X) (i : ℕ) (x y : X) → 1 ≤ i → i < length xs → x ≡ get_or xs (i - 1) x → y ≡ get_or xs i y → IsAscending cmp xs → cmp x y ≡ Less
  not_below xs i x y some lt x_is y_is a = ap₂ cmp x_is (y_is ∙ ap (λ n. get_or xs n y) {x = i} {y = suc (i - 1)} (omega (arith, some))) ∙ neighbours xs (i - 1) x y (omega (arith, lt, some)) a

  -- ---- the last entry of pieces

  last_split : {Y : Type 0} (xs : List Y) (d : Y) → 1 ≤ length xs → d ≡ get_or xs (length xs - 1) d → xs ≡ take (length xs - 1) xs ++ d ∷ []
  last_split xs d some is = sym (take_all ((length xs - 1) + 1) xs (omega (arith, some))) ∙ take_more xs (length xs - 1) d (omega (arith, some)) ∙ ap (λ e. take (length xs - 1) xs ++ e ∷ []) (sym is)

  module _ (ps : List (Piece X)) (settled : Each IsSettled ps) (some : 1 ≤ length ps) (q : Piece X) (q_is : q ≡ get_or ps (length ps - 1) q) (es : List X) (es_is : es ≡ q.part.items.items) (d : X) (d_is : d ≡ get_or es (length es - 1) d) where
    last_settled : IsSettled q
    last_settled = subst IsSettled (sym q_is) (each_at IsSettled (length ps - 1) q ps (omega (arith, some)) settled)

    pub last_entry : entries_in ps ≡ (entries_in (take (length ps - 1) ps) ++ take (length es - 1) es) ++ d ∷ []
    last_entry =
        let own : present q.part ≡ take (length es - 1) es ++ d ∷ [] = all_present q last_settled ∙ sym es_is ∙ last_split es d (omega (arith, ap length es_is, last_settled.some, last_settled.whole)) d_is in
        ap entries_in (last_split ps q some q_is) ∙ flat_map-append (λ p. present p.part) (take (length ps - 1) ps) (q ∷ []) ∙ ap (λ l. entries_in (take (length ps - 1) ps) ++ l) (append-nil (present q.part) ∙ own) ∙ sym (append_assoc (entries_in (take (length ps - 1) ps)) (take (length es - 1) es) (d ∷ []))

    pub all_below : (y : X) → IsAscending cmp (entries_in ps) → cmp d y ≡ Less → Each (λ e. cmp e y ≡ Less) (entries_in ps)
    all_below y a below = subst (Each (λ e. cmp e y ≡ Less)) (sym last_entry) (above_last (entries_in (take (length ps - 1) ps) ++ take (length es - 1) es) d y (subst (IsAscending cmp) last_entry a) below)

    pub last_below : (y : X) → Each (λ e. cmp e y ≡ Less) (entries_in ps) → cmp d y ≡ Less
    last_below y a = (each_rest (λ e. cmp e y ≡ Less) (entries_in (take (length ps - 1) ps) ++ take (length es - 1) es) (d ∷ []) (subst (Each (λ e. cmp e y ≡ Less)) last_entry a)).0

-- ---- a chunk that is read

module _ {X : Type 0} (cmp : X → X → Ordering) where
  pub read_settled : (v : Vec X) (n : ℕ) → 1 ≤ length v.items → length v.items ≤ 512 → IsSettled (piece_read v n)
  read_settled v n some few = record { was = refl; some = some; few = few; whole = refl }

  or_false : (b : Bool) → (b || false) ≡ b
  or_false true = refl
  or_false false = refl

  whole_chunk : (p : Piece X) → IsSettled p → chunks_now p ≡ record { entries = present p.part; number = p.part.number; changed = p.part.changed } ∷ []
  whole_chunk p s = settled_now p s ∙ ap (λ b. record { entries = present p.part; number = p.part.number; changed = p.part.changed || b } ∷ []) {x = nat_lt p.part.len (length p.part.items.items)} {y = false} (grind (arith, nat_tests, s.whole)) ∙ ap (λ b. record { entries = present p.part; number = p.part.number; changed = b } ∷ []) (or_false p.part.changed)

  pub read_chunk : (v : Vec X) (n : ℕ) (w : Written X) → 1 ≤ length v.items → length v.items ≤ 512 → v.items ≡ w.entries.items → n ≡ w.number → chunks_now (piece_read v n) ≡ chunk_read w ∷ []
  read_chunk v n w some few items number = whole_chunk (piece_read v n) (read_settled v n some few) ∙ ap₂ (λ l k. record { entries = l; number = Some k; changed = false } ∷ []) (all_present (piece_read v n) (read_settled v n some few) ∙ items) number

  pub read_more : (ps : List (Piece X)) (ws : List (Written X)) (i : ℕ) (w : Written X) (v : Vec X) (n : ℕ) → i < length ws → w ≡ get_or ws i w → 1 ≤ length v.items → length v.items ≤ 512 → v.items ≡ w.entries.items → n ≡ w.number → flat_map chunks_now ps ≡ map chunk_read (take i ws) → flat_map chunks_now (ps ++ piece_read v n ∷ []) ≡ map chunk_read (take (i + 1) ws)
  read_more ps ws i w v n lt w_is some few items number so_far =
      flat_map-append chunks_now ps (piece_read v n ∷ []) ∙ ap₂ (λ k l. k ++ l) so_far (append-nil (chunks_now (piece_read v n)) ∙ read_chunk v n w some few items number)
      ∙ sym (ap (map chunk_read) (take_more ws i w lt ∙ ap (λ e. take i ws ++ e ∷ []) (sym w_is)) ∙ mapped (take i ws))
    where
      mapped : (us : List (Written X)) → map chunk_read (us ++ w ∷ []) ≡ map chunk_read us ++ chunk_read w ∷ []
      mapped [] = refl
      mapped (u ∷ us) = ap (λ l. chunk_read u ∷ l) (mapped us)

  pub read_entries : (ps : List (Piece X)) (v : Vec X) (n : ℕ) → 1 ≤ length v.items → length v.items ≤ 512 → entries_in (ps ++ piece_read v n ∷ []) ≡ entries_in ps ++ v.items
  read_entries ps v n some few = flat_map-append (λ p. present p.part) ps (piece_read v n ∷ []) ∙ ap (λ l. entries_in ps ++ l) (append-nil (present (piece_read v n).part) ∙ all_present (piece_read v n) (read_settled v n some few))

  -- a chunk that doesn't follow those before it
  pub no_list : (ps : List (Piece X)) (ws : List (Written X)) (i : ℕ) (w : Written X) (es : List X) → i < length ws → w ≡ get_or ws i w → es ≡ w.entries.items → flat_map chunks_now ps ≡ map chunk_read (take i ws) → IsList cmp (map chunk_read ws) → Follows cmp (entries_in ps) es
  no_list ps ws i w es lt w_is es_is so_far list =
      let split : ws ≡ take i ws ++ w ∷ drop (suc i) ws = around i w ws lt ∙ ap (λ e. take i ws ++ e ∷ drop (suc i) ws) (sym w_is) in
      let chunks : map chunk_read ws ≡ map chunk_read (take i ws) ++ chunk_read w ∷ map chunk_read (drop (suc i) ws) = ap (map chunk_read) split ∙ mapped (take i ws) (drop (suc i) ws) in
      let own : IsSizedChunk (chunk_read w) = (each_rest IsSizedChunk (map chunk_read (take i ws)) (chunk_read w ∷ map chunk_read (drop (suc i) ws)) (subst (Each IsSizedChunk) chunks list.sized)).0 in
      let before : joined (map chunk_read (take i ws)) ≡ entries_in ps = ap joined (sym so_far) ∙ joined_now ps in
      let all : joined (map chunk_read ws) ≡ (entries_in ps ++ es) ++ joined (map chunk_read (drop (suc i) ws)) = ap joined chunks ∙ flat_map-append (λ c. c.entries) (map chunk_read (take i ws)) (chunk_read w ∷ map chunk_read (drop (suc i) ws)) ∙ ap₂ (λ k l. k ++ (l ++ joined (map chunk_read (drop (suc i) ws)))) before (sym es_is) ∙ sym (append_assoc (entries_in ps) es (joined (map chunk_read (drop (suc i) ws)))) in
      record {
        some = omega (arith, own.some, ap length es_is);
        few = omega (arith, own.few, ap length es_is);
        ascending = pairs_front (λ u v. cmp u v ≡ Less) (entries_in ps ++ es) (joined (map chunk_read (drop (suc i) ws))) (subst (IsAscending cmp) all list.ascending);
      }
    where
      mapped : (us vs : List (Written X)) → map chunk_read (us ++ w ∷ vs) ≡ map chunk_read us ++ chunk_read w ∷ map chunk_read vs
      mapped [] vs = refl
      mapped (u ∷ us) vs = ap (λ l. chunk_read u ∷ l) (mapped us vs)

  -- settled pieces are sound, and are what they were
  pub settled_all_sound : (ps : List (Piece X)) → Each IsSettled ps → IsAscending cmp (entries_in ps) → IsSound cmp ps
  settled_all_sound ps s a = record {
    sized = settled_sized ps s;
    ascending = subst (IsAscending cmp) (sym (settled_shown ps s)) a;
    marked = subst (λ l. IsAscending cmp (joined l)) (sym (settled_thens cmp ps s)) (subst (IsAscending cmp) (sym (joined_now ps)) a);
  }

  -- ---- a piece that is written

  abbrev pub wrote : Piece X → List ℕ → Piece X
  wrote p spare = record p { part = record p.part { number = number_from p.part.number spare; changed = false } }

  pub wrote_settled : (p : Piece X) (spare : List ℕ) → IsSettled p → IsSettled (wrote p spare)
  wrote_settled p spare s = record { was = s.was; some = s.some; few = s.few; whole = s.whole }

  pub wrote_more : (p : Piece X) (spare : List ℕ) (cs : List (Chunk X)) → IsSettled p → written spare (chunks_now p ++ cs) ≡ chunks_now (wrote p spare) ++ written (spare_behind p.part.number spare) cs
  wrote_more p spare cs s = ap (λ l. written spare (l ++ cs)) (whole_chunk p s) ∙ ap (λ l. l ++ written (spare_behind p.part.number spare) cs) (sym (whole_chunk (wrote p spare) (wrote_settled p spare s)))

  pub wrote_left : (p : Piece X) (spare : List ℕ) (cs : List (Chunk X)) → IsSettled p → spare_of spare (chunks_now p ++ cs) ≡ spare_of (spare_behind p.part.number spare) cs
  wrote_left p spare cs s = ap (λ l. spare_of spare (l ++ cs)) (whole_chunk p s)

  pub number_one : (n : Option ℕ) (c : Chunk X) → c.number ≡ n → option_to_list n ≡ numbers (c ∷ [])
  number_one None c is = sym (rw is refl)
  number_one (Some k) c is = sym (rw is refl)

pub less_is : (r : Ordering) → is_lt r ≡ true → r ≡ Less
less_is Less it = refl
less_is Equal it = absurd (false≢true it)
less_is Greater it = absurd (false≢true it)

-- ---- chunks one after the other

module _ {X : Type 0} (cmp : X → X → Ordering) where
  -- the first of a list that ascends behind another
  pub below_first : (us es : List X) (y : X) → 1 ≤ length es → y ≡ get_or es 0 y → IsAscending cmp (us ++ es) → Each (λ e. cmp e y ≡ Less) us
  below_first us [] y some is a = absurd (omega arith)
  below_first us (e ∷ es) y some is a = each_more (λ u. Each (λ v. cmp u v ≡ Less) (e ∷ es)) (λ u. cmp u y ≡ Less) us (λ u below. ap (cmp u) is ∙ below.0) (pairs_across (λ u v. cmp u v ≡ Less) us (e ∷ es) a)

  pub follow : IsTotalOrder cmp → (us es : List X) (y : X) → 1 ≤ length es → y ≡ get_or es 0 y → IsAscending cmp us → IsAscending cmp es → Each (λ e. cmp e y ≡ Less) us → IsAscending cmp (us ++ es)
  follow o us [] y some is a b low = absurd (omega arith)
  follow o us (e ∷ es) y some is a b low = joined_ascend cmp o us es e a b (subst (λ x. Each (λ u. cmp u x ≡ Less) us) is low)

  pub then_more : (vs ws : List ℕ) (ps : List (Piece X)) (i : ℕ) (p : Piece X) → i < length ps → p ≡ get_or ps i p → vs ≡ numbers (flat_map (chunks_then cmp) (take i ps)) → ws ≡ vs ++ numbers (chunks_then cmp p) → ws ≡ numbers (flat_map (chunks_then cmp) (take (i + 1) ps))
  then_more vs ws ps i p lt read old new = new ∙ ap (λ l. l ++ numbers (chunks_then cmp p)) old ∙ sym (ap (λ l. numbers (flat_map (chunks_then cmp) l)) (take_more ps i p lt ∙ ap (λ e. take i ps ++ e ∷ []) (sym read)) ∙ ap numbers (flat_map-append (chunks_then cmp) (take i ps) (p ∷ []) ∙ ap (λ l. flat_map (chunks_then cmp) (take i ps) ++ l) (append-nil (chunks_then cmp p))) ∙ numbers_append (flat_map (chunks_then cmp) (take i ps)) (chunks_then cmp p))

drop_split : {Y : Type 0} (xs : List Y) (i : ℕ) (d : Y) → i < length xs → d ≡ get_or xs i d → drop i xs ≡ d ∷ drop (suc i) xs
drop_split [] i d lt is = absurd (omega arith)
drop_split (x ∷ xs) zero d lt is = ap (λ e. e ∷ xs) (sym is)
drop_split (x ∷ xs) (suc i) d lt is = drop_split xs i d (omega arith) is

module _ {X : Type 0} (cmp : X → X → Ordering) (nums : List ℕ) (init : List (Piece X)) (all : Each IsSettled init) where
  -- the pieces that are written so far
  pub record Wrote (ps : List (Piece X)) (spare : List ℕ) (at : ℕ) : Type 0 where
    pub long : length ps ≡ length init
    pub rest : drop at ps ≡ drop at init
    pub settled : Each IsSettled (take at ps)
    pub entries : entries_in (take at ps) ≡ entries_in (take at init)
    pub chunks : flat_map chunks_now (take at ps) ++ written spare (flat_map chunks_now (drop at init)) ≡ written nums (flat_map chunks_now init)
    pub left : spare_of spare (flat_map chunks_now (drop at init)) ≡ spare_of nums (flat_map chunks_now init)

  pub wrote_step : (ps : List (Piece X)) (spare : List ℕ) (at : ℕ) → Wrote ps spare at → at < length ps → (q n : Piece X) → q ≡ get_or ps at q → n ≡ wrote cmp q spare → (left : List ℕ) → left ≡ spare_behind q.part.number spare → Wrote (set ps at n) left (at + 1)
  wrote_step ps spare at w lt q n q_is n_is left left_is =
      let lt_init : at < length init = omega (arith, w.long, lt) in
      let q_init : q ≡ get_or init at q = q_is ∙ same_rest ps init at q lt w.rest in
      let s : IsSettled q = subst IsSettled (sym q_init) (each_at IsSettled at q init lt_init all) in
      let front : take (at + 1) (set ps at n) ≡ take at ps ++ n ∷ [] = take_more_set ps at n lt in
      let init_front : take (at + 1) init ≡ take at init ++ q ∷ [] = take_more init at q lt_init ∙ ap (λ e. take at init ++ e ∷ []) (sym q_init) in
      let cs = flat_map chunks_now (drop (at + 1) init) in
      let behind : flat_map chunks_now (drop at init) ≡ chunks_now q ++ cs = ap (flat_map chunks_now) (drop_split init at q lt_init q_init ∙ ap (λ k. q ∷ drop k init) {x = suc at} {y = at + 1} (omega arith)) in
      record {
        long = length-set ps at n ∙ w.long;
        rest = drop-set-lt (at + 1) ps at n (omega arith) ∙ next_rest ps init at w.rest;
        settled = subst (Each IsSettled) (sym front) (each_append IsSettled (take at ps) (n ∷ []) w.settled (subst IsSettled (sym n_is) (wrote_settled cmp q spare s), tt));
        entries = ap entries_in front ∙ flat_map-append (λ p. present p.part) (take at ps) (n ∷ []) ∙ ap₂ (λ k e. k ++ (present e.part ++ [])) w.entries n_is ∙ sym (ap entries_in init_front ∙ flat_map-append (λ p. present p.part) (take at init) (q ∷ []));
        chunks =
            ap₂ (λ k l. flat_map chunks_now k ++ written l cs) front left_is
            ∙ ap (λ l. l ++ written (spare_behind q.part.number spare) cs) (flat_map-append chunks_now (take at ps) (n ∷ []) ∙ ap (λ l. flat_map chunks_now (take at ps) ++ l) (append-nil (chunks_now n) ∙ ap chunks_now n_is))
            ∙ append_assoc (flat_map chunks_now (take at ps)) (chunks_now (wrote cmp q spare)) (written (spare_behind q.part.number spare) cs)
            ∙ ap (λ l. flat_map chunks_now (take at ps) ++ l) (sym (wrote_more cmp q spare cs s) ∙ ap (written spare) (sym behind))
            ∙ w.chunks;
        left = ap (λ l. spare_of l cs) left_is ∙ sym (wrote_left cmp q spare cs s) ∙ ap (spare_of spare) (sym behind) ∙ w.left;
      }

  pub wrote_all : (ps : List (Piece X)) (spare : List ℕ) (at : ℕ) → Wrote ps spare at → length init ≤ at → (Each IsSettled ps) × (entries_in ps ≡ entries_in init)
  wrote_all ps spare at w le =
      let whole : take at ps ≡ ps = take_all at ps (omega (arith, w.long, le)) in
      (subst (Each IsSettled) whole w.settled, ap entries_in (sym whole) ∙ w.entries ∙ ap entries_in (take_all at init le))

  pub wrote_rest : (ps : List (Piece X)) (spare : List ℕ) (at : ℕ) → Wrote ps spare at → length init ≤ at → spare ≡ spare_of nums (flat_map chunks_now init)
  wrote_rest ps spare at w le = ap (λ l. spare_of spare (flat_map chunks_now l)) (sym (drop_all at init le)) ∙ w.left

-- ---- chunks that are read one by one

module _ {X : Type 0} (cmp : X → X → Ordering) (init : List (Written X)) where
  -- the pieces of the chunks so far
  pub record IsRead (ws : List (Written X)) (ps : List (Piece X)) (at : ℕ) : Type 0 where
    pub long : length ws ≡ length init
    pub rest : drop at ws ≡ drop at init
    pub settled : Each IsSettled ps
    pub ascending : IsAscending cmp (entries_in ps)
    pub chunks : flat_map chunks_now ps ≡ map chunk_read (take at init)

  pub read_step : (ws : List (Written X)) (ps : List (Piece X)) (at : ℕ) → IsRead ws ps at → at < length ws → (w t : Written X) → w ≡ get_or ws at w → (v : Vec X) (n : ℕ) → v.items ≡ w.entries.items → n ≡ w.number → Follows cmp (entries_in ps) v.items → (new : List (Piece X)) → new ≡ ps ++ piece_read v n ∷ [] → IsRead (set ws at t) new (at + 1)
  read_step ws ps at r lt w t w_is v n v_is n_is f new new_is =
      let w_init : w ≡ get_or init at w = w_is ∙ same_rest ws init at w lt r.rest in
      record {
        long = length-set ws at t ∙ r.long;
        rest = drop-set-lt (at + 1) ws at t (omega arith) ∙ next_rest ws init at r.rest;
        settled = subst (Each IsSettled) (sym new_is) (each_append IsSettled ps (piece_read v n ∷ []) r.settled (read_settled cmp v n f.some f.few, tt));
        ascending = subst (λ l. IsAscending cmp (entries_in l)) (sym new_is) (subst (IsAscending cmp) (sym (read_entries cmp ps v n f.some f.few)) f.ascending);
        chunks = ap (flat_map chunks_now) new_is ∙ read_more cmp ps init at w v n (omega (arith, r.long, lt)) w_init f.some f.few v_is n_is r.chunks;
      }

  pub read_stops : (ws : List (Written X)) (ps : List (Piece X)) (at : ℕ) → IsRead ws ps at → at < length ws → (w : Written X) → w ≡ get_or ws at w → (es : List X) → es ≡ w.entries.items → (Follows cmp (entries_in ps) es → ⊥) → IsList cmp (map chunk_read init) → ⊥
  read_stops ws ps at r lt w w_is es es_is off list = off (no_list cmp ps init at w es (omega (arith, r.long, lt)) (w_is ∙ same_rest ws init at w lt r.rest) es_is r.chunks list)
