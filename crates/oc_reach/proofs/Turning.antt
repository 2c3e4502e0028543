-- What one turn makes of a walk under way.
use Rattle.std.proofs.Common.{◌≡◌, ℕ, ◌<◌, ◌≤◌, ◌⊎◌, inl, inr, List, [], ◌∷◌, Some, None, is_some, fold, cond, Bool, true, false, true≢false, nat_lt, T, refl, sym, ap, ◌∙◌, subst, arith, ltb-true, le_trans}
use Rattle.std.specs.List.{All, Contains}
use Rattle.std.specs.List.Sorted.{IsPermutation}
use Rattle.std.proofs.lemmas.Bool.{cases_lt}
use Rattle.std.proofs.lemmas.List.Elements.{Contains-append_cases, Contains-push_cases, All-head, All-tail}
use Rattle.std.proofs.lemmas.List.Sorted.{Contains-permutation, All-permutation}
use Rattle.std.specs.FinMap.{put, is_sorted}
use Rattle.oc_model.specs.declared.reach.Node.{Node}
use Rattle.oc_model.specs.Lists.{IsOneOf}
use Rattle.oc_model.specs.Walks.{Walk, IsLawful, Arrives, begins, goes_on, Table, node_cmp, budget, raised}
use Rattle.oc_model.proofs.Elements.{from_map, to_map}
use Rattle.oc_model.proofs.Reaching.{entry_of_put, found_entry, known_budget, rounds-at, arrives_small, sorted_rounds, of_true}
use Rattle.oc_reach.specs.Work.{Work, Answers, IsRaised, IsAsked, IsUnderWay, AllArrive, HasHandedOn, AreNew, Adds, arrivals, newly, widest}
use Rattle.oc_reach.proofs.Tables.{none_of}

-- ---- lists

pub head_or_tail : {X : Type 0} (e f : X) (es : List X) → Contains (e ∷ es) f → (e ≡ f) ⊎ Contains es f
head_or_tail e f es h =
    elim (Contains-append_cases (e ∷ []) es f h) [
      | inl a ↦ elim (Contains-push_cases [] e f a) [ inl n ↦ absurd (let lt : n.0 < 0 = n.1 in omega arith) | inr s ↦ inl s ]
      | inr b ↦ inr b
    ]

pub all_at : {X : Type 0} (P : X → Type 0) (x : X) (xs : List X) → All P xs → IsOneOf x xs → P x
all_at P x [] h i = absurd i
all_at P x (y ∷ ys) h i = elim i as (λ _. P x) [ inl e ↦ subst P (sym e) (All-head P y ys h) | inr t ↦ all_at P x ys (All-tail P y ys h) t ]

pub true_of : (b : Bool) → T b → b ≡ true
true_of true h = refl
true_of false h = absurd h

-- ---- the widest walk

pub widest_lawful : (w : Walk) → IsLawful w → IsLawful (widest w)
widest_lawful w l =
    record {
      arrive_small = l.arrive_small;
      arrive_rises = l.arrive_rises;
      hand_small = l.hand_small;
      hand_rises = l.hand_rises;
      inside = λ x y i. i;
    }

pub arrives_inside : (w : Walk) (root : Node) (depth : ℕ) → IsOneOf root w.nodes → (x : Node) (k : ℕ) → Arrives (widest w) root depth x k → IsOneOf x w.nodes
arrives_inside w root depth from x k (begins p q) = subst (λ z. IsOneOf z w.nodes) (sym p) from
arrives_inside w root depth from x k (goes_on a one i q) = i

module _ (w : Walk) (told : Bool) (root : Node) (depth : ℕ) where
  entry_there : (t : Table) (x : Node) → 1 ≤ budget t x → IsOneOf (x, budget t x) t
  entry_there t x one = found_entry x (budget t x) t (known_budget t x one)

  pub node_inside : (a : Answers) (t : Table) (work : Work) → IsUnderWay w told root depth a t work → (x : Node) → 1 ≤ budget t x → IsOneOf x w.nodes
  node_inside a t work u x one = arrives_inside w root depth u.from x (budget t x) ((u.widely x (budget t x) (entry_there t x one)).1)

  pub budget_fits : (a : Answers) (t : Table) (work : Work) → IsLawful w → IsUnderWay w told root depth a t work → (x : Node) → budget t x ≤ 65535
  budget_fits a t work l u x =
      elim (cases_lt 0 (budget t x)) [
        | inl some ↦ arrives_small (widest w) root depth (widest_lawful w l) u.small x (budget t x) ((u.widely x (budget t x) (entry_there t x (omega arith))).1)
        | inr none ↦ omega arith
      ]

  -- ---- the next entry of the work

  pub next_entry : (a : Answers) (t : Table) (e : ℕ × Node) (work rest : Work) → IsPermutation work (e ∷ rest) → IsUnderWay w told root depth a t work → IsUnderWay w told root depth a t (e ∷ rest)
  next_entry a t e work rest p u =
      record {
        small = u.small;
        from = u.from;
        order = u.order;
        widely = u.widely;
        arrive = u.arrive;
        begun = u.begun;
        right = u.right;
        within = u.within;
        asked = u.asked;
        live = All-permutation (λ (e : ℕ × Node). 1 ≤ e.0) _ _ p u.live;
        done = λ x one. elim (u.done x one) [ inl c ↦ inl (Contains-permutation _ _ (budget t x, x) p c) | inr h ↦ inr h ];
      }

  pub entry_live : (a : Answers) (t : Table) (k : ℕ) (x : Node) (rest : Work) → IsUnderWay w told root depth a t ((k, x) ∷ rest) → 1 ≤ k
  entry_live a t k x rest u = All-head (λ (e : ℕ × Node). 1 ≤ e.0) (k, x) rest u.live

  -- an entry with another budget than the node has
  pub passed_over : (a : Answers) (t : Table) (k : ℕ) (x : Node) (rest : Work) → (budget t x ≡ k → ⊥) → IsUnderWay w told root depth a t ((k, x) ∷ rest) → IsUnderWay w told root depth a t rest
  passed_over a t k x rest other u =
      record {
        small = u.small;
        from = u.from;
        order = u.order;
        widely = u.widely;
        arrive = u.arrive;
        begun = u.begun;
        right = u.right;
        within = u.within;
        asked = u.asked;
        live = All-tail (λ (e : ℕ × Node). 1 ≤ e.0) (k, x) rest u.live;
        done = λ q one. elim (u.done q one) [
          | inl c ↦ elim (head_or_tail (k, x) (budget t q, q) rest c) [
            | inl e ↦ absurd (other (ap (budget t) (ap (λ (e : ℕ × Node). e.1) e) ∙ sym (ap (λ (e : ℕ × Node). e.0) e)))
            | inr s ↦ inl s
          ]
          | inr h ↦ inr h
        ];
      }

  -- with one answer more
  pub answered : (a b : Answers) (t : Table) (x : Node) (work : Work) → 1 ≤ budget t x → IsAsked w told x a b → IsUnderWay w told root depth a t work → IsUnderWay w told root depth b t work
  answered a b t x work one k u =
      record {
        small = u.small;
        from = u.from;
        order = u.order;
        widely = u.widely;
        arrive = u.arrive;
        begun = u.begun;
        live = u.live;
        right = λ h q ys e. elim (k.only q ys e) [ inl o ↦ u.right h q ys o | inr n ↦ n.1 h ∙ ap w.next (sym n.0) ];
        within = λ q ys e. elim (k.only q ys e) [ inl o ↦ u.within q ys o | inr n ↦ n.2 ];
        asked = λ q ys e. elim (k.only q ys e) [ inl o ↦ u.asked q ys o | inr n ↦ subst (λ z. 1 ≤ budget t z) (sym n.0) one ];
        done = λ q some. elim (u.done q some) [ inl c ↦ inl c | inr h ↦ inr (h.0, k.keeps q h.0 h.1, h.2) ];
      }

  -- ---- raises

  pub all_arrive : (v : Walk) (es t : Table) → AllArrive v root depth t → ((y : Node) (b : ℕ) → IsOneOf (y, b) es → Arrives v root depth y b) → AllArrive v root depth (fold raised t es)
  all_arrive v [] t s o = s
  all_arrive v (e ∷ es) t s o =
      all_arrive v es (raised t e)
      (λ x k h. (elim (nat_lt (budget t e.0) e.1) as (λ b. nat_lt (budget t e.0) e.1 ≡ b → IsOneOf (x, k) (cond b (put node_cmp e.0 e.1 t) t) → (1 ≤ k) × Arrives v root depth x k) [
        | true ↦ λ c h. let lt : budget t e.0 < e.1 = ltb-true _ _ c in
            elim (entry_of_put e.0 e.1 t (x, k) h) [
              | inl q ↦ subst (λ (p : Node × ℕ). (1 ≤ p.1) × Arrives v root depth p.0 p.1) (sym q) ((omega arith, o e.0 e.1 (inl refl)))
              | inr i ↦ s x k i
            ]
        | false ↦ λ c h. s x k h
      ]) refl h)
      (λ y b i. o y b (inr i))

  from_arrivals : (h : ℕ) (ys : List Node) (y : Node) (b : ℕ) → IsOneOf (y, b) (arrivals w h ys) → IsOneOf y ys × (b ≡ w.arrive y h)
  from_arrivals h ys y b i =
      let f : Node → Node × ℕ = λ z. (z, w.arrive z h) in
      let r = from_map f (y, b) ys i in
      (subst (λ z. IsOneOf z ys) (sym (ap (λ (p : Node × ℕ). p.0) r.2)) r.1, ap (λ (p : Node × ℕ). p.1) r.2 ∙ ap (λ z. w.arrive z h) (sym (ap (λ (p : Node × ℕ). p.0) r.2)))

  -- what a node hands on arrives in each walk in which it names these nodes
  handed_arrive : (v : Walk) (t : Table) (x : Node) (ys : List Node) → v.arrive ≡ w.arrive → AllArrive v root depth t → 1 ≤ budget t x → ((y : Node) → IsOneOf y ys → IsOneOf y (v.next x)) → v.hand ≡ w.hand
      → (y : Node) (b : ℕ) → IsOneOf (y, b) (arrivals w (w.hand x (budget t x)) ys) → Arrives v root depth y b
  handed_arrive v t x ys ea s one names eh y b i =
      let r = from_arrivals (w.hand x (budget t x)) ys y b i in
      goes_on ((s x (budget t x) (entry_there t x one)).1) one (names y r.0) (r.1 ∙ ap (λ f. f y (w.hand x (budget t x))) (sym ea) ∙ ap (λ f. v.arrive y (f x (budget t x))) (sym eh))

  -- the node has handed on its budget
  pub handed_on : (a : Answers) (t u : Table) (x : Node) (ys : List Node) (rest left : Work) → 1 ≤ budget t x → a x ≡ Some ys → u ≡ fold raised t (arrivals w (w.hand x (budget t x)) ys) → IsRaised w.nodes t rest u left
      → IsUnderWay w told root depth a t ((budget t x, x) ∷ rest) → IsUnderWay w told root depth a u left
  handed_on a t u x ys rest left one known is r s =
      let h = w.hand x (budget t x) in
      let arrive = λ (v : Walk) (p : v.arrive ≡ w.arrive) (q : v.hand ≡ w.hand) (m : AllArrive v root depth t) (n : (y : Node) → IsOneOf y ys → IsOneOf y (v.next x)).
      subst (AllArrive v root depth) (sym is) (all_arrive v (arrivals w h ys) t m (handed_arrive v t x ys p m one n q)) in
      record {
        small = s.small;
        from = s.from;
        order = subst (λ z. is_sorted node_cmp z ≡ true) (sym is) (true_of _ (sorted_rounds w root depth (arrivals w h ys) t (of_true _ s.order)));
        widely = arrive (widest w) refl refl s.widely (λ y i. all_at (λ y. IsOneOf y w.nodes) y ys (s.within x ys known) i);
        arrive = λ shown. arrive w refl refl (s.arrive shown) (λ y i. subst (IsOneOf y) (s.right shown x ys known) i);
        begun = le_trans s.begun (r.higher root);
        right = s.right;
        within = s.within;
        asked = λ q zs e. le_trans (s.asked q zs e) (r.higher q);
        live = r.live (All-tail (λ (e : ℕ × Node). 1 ≤ e.0) (budget t x, x) rest s.live);
        done = λ q some. elim (cases_lt (budget t q) (budget u q)) [
          | inl rises ↦ inl (r.listed q rises)
          | inr stays ↦
              let up : budget t q ≤ budget u q = r.higher q in
              let same : budget t q ≡ budget u q = omega arith in
              still_done q some same
        ];
      }
    where
      at_least : (y : Node) → IsOneOf y ys → w.arrive y (w.hand x (budget t x)) ≤ budget u y
      at_least y i = subst (λ z. w.arrive y (w.hand x (budget t x)) ≤ budget z y) (sym is)
          (rounds-at (arrivals w (w.hand x (budget t x)) ys) t (y, w.arrive y (w.hand x (budget t x))) (to_map (λ z. (z, w.arrive z (w.hand x (budget t x)))) y ys i))

      still_done : (q : Node) → 1 ≤ budget u q → budget t q ≡ budget u q → Contains left (budget u q, q) ⊎ HasHandedOn w a u q
      still_done q some same =
          elim (s.done q (subst (λ n. 1 ≤ n) (sym same) some)) [
            | inl c ↦ elim (head_or_tail (budget t x, x) (budget t q, q) rest c) [
              | inl e ↦ let e_node : x ≡ q = ap (λ (e : ℕ × Node). e.1) e in
                  inr (ys, ap a (sym e_node) ∙ known, λ y i. subst (λ n. w.arrive y n ≤ budget u y) (ap (λ z. w.hand z (budget t z)) e_node ∙ ap (w.hand q) same) (at_least y i))
              | inr b ↦ inl (subst (λ n. Contains left (n, q)) same (r.kept (budget t q, q) b))
            ]
            | inr d ↦ inr (d.0, d.1, λ y i. le_trans (subst (λ n. w.arrive y (w.hand q n) ≤ budget t y) same (d.2 y i)) (r.higher y))
          ]

  handed_on_at : (a : Answers) (t u : Table) (x : Node) (k : ℕ) (ys : List Node) (rest left : Work) → budget t x ≡ k → 1 ≤ k → a x ≡ Some ys → u ≡ fold raised t (arrivals w (w.hand x k) ys) → IsRaised w.nodes t rest u left
      → IsUnderWay w told root depth a t ((k, x) ∷ rest) → IsUnderWay w told root depth a u left
  handed_on_at a t u x k ys rest left e =
      subst (λ k. 1 ≤ k → a x ≡ Some ys → u ≡ fold raised t (arrivals w (w.hand x k) ys) → IsRaised w.nodes t rest u left → IsUnderWay w told root depth a t ((k, x) ∷ rest) → IsUnderWay w told root depth a u left) e (handed_on a t u x ys rest left)

  turned_here : (a b : Answers) (t u : Table) (x : Node) (k h : ℕ) (rest left : Work) → budget t x ≡ k → IsAsked w told x a b → h ≡ w.hand x k → ((ys : List Node) → b x ≡ Some ys → u ≡ fold raised t (arrivals w h ys)) → IsRaised w.nodes t rest u left
      → IsUnderWay w told root depth a t ((k, x) ∷ rest) → IsUnderWay w told root depth b u left
  turned_here a b t u x k h rest left e asked eh is r s =
      let one : 1 ≤ k = entry_live a t k x rest s in
      let ys = asked.there.0 in
      handed_on_at b t u x k ys rest left e one asked.there.1 (is ys asked.there.1 ∙ ap (λ n. fold raised t (arrivals w n ys)) eh) r (answered a b t x ((k, x) ∷ rest) (omega arith) asked s)

  -- the same where the walk has another name
  pub turned : (v : Walk) → w ≡ v → (a b : Answers) (t u : Table) (x : Node) (k h : ℕ) (rest left : Work) → budget t x ≡ k → IsAsked w told x a b → h ≡ v.hand x k → ((ys : List Node) → b x ≡ Some ys → u ≡ fold raised t (arrivals v h ys)) → IsRaised v.nodes t rest u left
      → IsUnderWay w told root depth a t ((k, x) ∷ rest) → IsUnderWay w told root depth b u left
  turned v same a b t u x k h rest left e asked =
      subst (λ v. h ≡ v.hand x k → ((ys : List Node) → b x ≡ Some ys → u ≡ fold raised t (arrivals v h ys)) → IsRaised v.nodes t rest u left → IsUnderWay w told root depth a t ((k, x) ∷ rest) → IsUnderWay w told root depth b u left) same (turned_here a b t u x k h rest left e asked)

-- ---- what was asked for

pub one_new : (a : Answers) (t : Table) (x : Node) → a x ≡ None → 1 ≤ budget t x → AreNew a t (x ∷ [])
one_new a t x none one =
    record {
      once = ((λ i. i), tt);
      unknown = λ q i. elim i as (λ _. a q ≡ None) [ inl e ↦ ap a e ∙ none | inr n ↦ absurd n ];
      reached = λ q i. elim i as (λ _. 1 ≤ budget t q) [ inl e ↦ subst (λ z. 1 ≤ budget t z) (sym e) one | inr n ↦ absurd n ];
    }

pub none_new : (a : Answers) (t : Table) → AreNew a t []
none_new a t = record { once = tt; unknown = λ q i. absurd i; reached = λ q i. absurd i }

pub adds_none : (a : Answers) (t : Table) → Adds a a t []
adds_none a t = record { new = none_new a t; known = λ q i. absurd i; keeps = λ q h. h }

some_is : (b : Answers) (x : Node) (ys : List Node) → b x ≡ Some ys → is_some (b x) ≡ true
some_is b x ys e = ap is_some e

pub adds_newly : (w : Walk) (told : Bool) (a b : Answers) (t : Table) (x : Node) → 1 ≤ budget t x → IsAsked w told x a b → Adds a b t (newly a x)
adds_newly w told a b t x one k =
    (elim (is_some (a x)) as (λ s. is_some (a x) ≡ s → Adds a b t (cond s [] (x ∷ []))) [
      | true ↦ λ h. record { new = none_new a t; known = λ q i. absurd i; keeps = keeps }
      | false ↦ λ h. record {
        new = one_new a t x (none_of _ h) one;
        known = λ q i. elim i as (λ _. is_some (b q) ≡ true) [ inl e ↦ ap (λ z. is_some (b z)) e ∙ some_is b x k.there.0 k.there.1 | inr n ↦ absurd n ];
        keeps = keeps;
      }
    ]) refl
  where
    keeps : (q : Node) → is_some (a q) ≡ true → is_some (b q) ≡ true
    keeps q h = (elim (a q) as (λ o. a q ≡ o → is_some o ≡ true → is_some (b q) ≡ true) [ None ↦ λ _ n. absurd (true≢false (sym n)) | Some ys ↦ λ e _. some_is b q ys (k.keeps q ys e) ]) refl h
