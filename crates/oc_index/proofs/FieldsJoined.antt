-- The indexes of fields, of which small neighbours are joined one after another.
use Rattle.std.proofs.Common.{◌≡◌, ◌∙◌, ap, sym, refl, subst, ℕ, ◌+◌, ◌<◌, ◌≤◌, List, [], ◌∷◌, ◌++◌, length, take, drop, get_or, set, flat_map, arith, append-nil, take-append-drop}
use Rattle.std.proofs.lemmas.List.{take_all, take_more, take_more_set, drop-set-lt, length-set}
use Rattle.std.proofs.lemmas.List.Concat.{flat_map-append}
use Rattle.oc_chunks.specs.Ascending.{Each}
use Rattle.oc_chunks.proofs.Eaches.{each_append}
use Rattle.oc_chunks.proofs.Joined.{joins_self}
use Rattle.oc_chunks.proofs.Merged.{flat_map-set}
use Rattle.oc_chunks.proofs.Settled.{same_rest, next_rest}
use Rattle.oc_index.specs.declared.indexes.Field.{Field}
use Rattle.oc_index.specs.Fields.{FieldList}
use Rattle.oc_index.specs.Indexed.{now_of, then_of, ids_of, IsJoined, JoinsFields}
use Rattle.oc_index.specs.Items.{index_bytes}
use Rattle.oc_index.proofs.Ordered.{set_ids}

pub joins_same : (fs : List (ℕ × FieldList)) → JoinsFields fs fs
joins_same [] = tt
joins_same (f ∷ fs) = (refl, record { base = refl; entries = refl; chunks = joins_self index_bytes 128 f.1.chunks; marked = refl }, joins_same fs)

joins_append : (fs gs hs ks : List (ℕ × FieldList)) → JoinsFields fs gs → JoinsFields hs ks → JoinsFields (fs ++ hs) (gs ++ ks)
joins_append [] [] hs ks j k = k
joins_append [] (g ∷ gs) hs ks j k = absurd j
joins_append (f ∷ fs) [] hs ks j k = absurd j
joins_append (f ∷ fs) (g ∷ gs) hs ks j k = (j.0, j.1, joins_append fs gs hs ks j.2 k)

-- the fields that are joined so far
pub record AreJoined (init fs : List Field) (at : ℕ) : Type 0 where
  pub long : length fs ≡ length init
  pub rest : drop at fs ≡ drop at init
  pub ids : ids_of fs ≡ ids_of init
  pub marked : flat_map then_of fs ≡ flat_map then_of init
  pub fields : JoinsFields (flat_map now_of (take at init)) (flat_map now_of (take at fs))

module _ (init fs : List Field) (at : ℕ) (w : AreJoined init fs at) where
  module _ (lt : at < length fs) (q n : Field) (read : q ≡ get_or fs at q) where
    lt_init : at < length init
    lt_init = omega (arith, w.long, lt)

    q_init : q ≡ get_or init at q
    q_init = read ∙ same_rest fs init at q lt w.rest

    init_more : flat_map now_of (take (at + 1) init) ≡ flat_map now_of (take at init) ++ now_of q
    init_more = ap (flat_map now_of) (take_more init at q lt_init ∙ ap (λ e. take at init ++ e ∷ []) (sym q_init)) ∙ flat_map-append now_of (take at init) (q ∷ []) ∙ ap (λ l. flat_map now_of (take at init) ++ l) (append-nil (now_of q))

    pub now_more : flat_map now_of (take (at + 1) (set fs at n)) ≡ flat_map now_of (take at fs) ++ now_of n
    now_more = ap (flat_map now_of) (take_more_set fs at n lt) ∙ flat_map-append now_of (take at fs) (n ∷ []) ∙ ap (λ l. flat_map now_of (take at fs) ++ l) (append-nil (now_of n))

    pub joined_step : n.id ≡ q.id → then_of n ≡ then_of q → JoinsFields (now_of q) (now_of n) → AreJoined init (set fs at n) (at + 1)
    joined_step id same now = record {
      long = length-set fs at n ∙ w.long;
      rest = drop-set-lt (at + 1) fs at n (omega arith) ∙ next_rest fs init at w.rest;
      ids = set_ids fs at q n lt read id ∙ w.ids;
      marked = flat_map-set then_of fs at q n lt read same ∙ w.marked;
      fields = subst (JoinsFields (flat_map now_of (take (at + 1) init))) (sym now_more) (subst (λ l. JoinsFields l (flat_map now_of (take at fs) ++ now_of n)) (sym init_more) (joins_append (flat_map now_of (take at init)) (flat_map now_of (take at fs)) (now_of q) (now_of n) w.fields now));
    }

    pub none_step : Each IsJoined (flat_map now_of (take at fs)) → Each IsJoined (now_of n) → Each IsJoined (flat_map now_of (take (at + 1) (set fs at n)))
    none_step before now = subst (Each IsJoined) (sym now_more) (each_append IsJoined (flat_map now_of (take at fs)) (now_of n) before now)

  -- those that are joined, and the rest as it was
  pub joined_all : JoinsFields (flat_map now_of init) (flat_map now_of fs)
  joined_all =
      let parts : (ks : List Field) → flat_map now_of ks ≡ flat_map now_of (take at ks) ++ flat_map now_of (drop at ks) = λ ks. ap (flat_map now_of) (sym (take-append-drop at ks)) ∙ flat_map-append now_of (take at ks) (drop at ks) in
      let both : JoinsFields (flat_map now_of (take at init) ++ flat_map now_of (drop at init)) (flat_map now_of (take at fs) ++ flat_map now_of (drop at init)) = joins_append (flat_map now_of (take at init)) (flat_map now_of (take at fs)) (flat_map now_of (drop at init)) (flat_map now_of (drop at init)) w.fields (joins_same (flat_map now_of (drop at init))) in
      subst (λ l. JoinsFields l (flat_map now_of fs)) (sym (parts init)) (subst (JoinsFields (flat_map now_of (take at init) ++ flat_map now_of (drop at init))) (ap (λ l. flat_map now_of (take at fs) ++ flat_map now_of l) (sym w.rest) ∙ sym (parts fs)) both)

  pub none_all : length init ≤ at → Each IsJoined (flat_map now_of (take at fs)) → Each IsJoined (flat_map now_of fs)
  none_all le = subst (λ l. Each IsJoined (flat_map now_of l)) (take_all at fs (omega (arith, w.long, le)))
