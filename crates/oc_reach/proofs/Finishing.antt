-- The start of a walk and its end, and what was asked for on the way.
use Rattle.std.proofs.Common.{◌≡◌, ℕ, ◌*◌, ◌<◌, ◌≤◌, inl, inr, List, [], ◌∷◌, ◌++◌, length, Some, None, is_some, Bool, true, true≢false, refl, sym, ap, ◌∙◌, subst, arith, le_trans, IsTrue}
use Rattle.std.specs.List.{All}
use Rattle.std.proofs.lemmas.List.Elements.{All-nil, All-cons}
use Rattle.std.specs.FinMap.{is_sorted}
use Rattle.oc_model.specs.declared.reach.Node.{Node}
use Rattle.oc_model.specs.Lists.{IsOneOf}
use Rattle.oc_model.specs.Walks.{Walk, IsLawful, Arrives, begins, goes_on, Reached, Table, IsBest, node_cmp, budget, raised}
use Rattle.oc_model.proofs.Elements.{in_append}
use Rattle.oc_model.proofs.Reaching.{found_entry, known_budget, raised-at, sorted_rounds}
use Rattle.oc_reach.specs.Asking.{AreDistinct, AskedOnce}
use Rattle.oc_reach.specs.Work.{Work, Answers, IsRaised, IsUnderWay, AreNew, Adds, AreAnswered, all_budgets, widest}
use Rattle.oc_reach.proofs.Turning.{all_arrive, arrives_inside, budget_fits, node_inside, true_of}

all_in : {X : Type 0} (P : X → Type 0) (xs : List X) → ((x : X) → IsOneOf x xs → P x) → All P xs
all_in P [] h = All-nil P
all_in P (x ∷ xs) h = All-cons P x xs (h x (inl refl)) (all_in P xs (λ y i. h y (inr i)))

distinct_more : (xs ys : List Node) → AreDistinct xs → AreDistinct ys → ((x : Node) → IsOneOf x xs → IsOneOf x ys → ⊥) → AreDistinct (xs ++ ys)
distinct_more [] ys a b apart = b
distinct_more (x ∷ xs) ys a b apart =
    ((λ i. elim (in_append x xs ys i) [ inl l ↦ a.0 l | inr r ↦ apart x (inl refl) r ]), distinct_more xs ys a.1 b (λ z l r. apart z (inr l) r))

none_some : (a : Answers) (x : Node) → a x ≡ None → is_some (a x) ≡ true → ⊥
none_some a x e h = true≢false (sym h ∙ ap is_some e)

module _ (w : Walk) (told : Bool) (root : Node) (depth : ℕ) where
  first_arrives : (v : Walk) → v.arrive ≡ w.arrive → (t : Table) → t ≡ raised [] (root, w.arrive root depth) → (x : Node) (k : ℕ) → IsOneOf (x, k) t → (1 ≤ k) × Arrives v root depth x k
  first_arrives v e t is x k i =
      all_arrive w told root depth v ((root, w.arrive root depth) ∷ []) [] (λ x k i. absurd i)
      (λ y b i. elim i [
        | inl q ↦ begins (ap (λ (p : Node × ℕ). p.0) q) (ap (λ (p : Node × ℕ). p.1) q ∙ ap (λ f. f root depth) (sym e))
        | inr n ↦ absurd n
      ]) x k (subst (IsOneOf (x, k)) is i)

  pub started : (a : Answers) (t : Table) (work : Work) → depth ≤ 65535 → IsOneOf root w.nodes → ((x : Node) → a x ≡ None) → t ≡ raised [] (root, w.arrive root depth) → IsRaised w.nodes [] [] t work → IsUnderWay w told root depth a t work
  started a t work small from none is r =
      record {
        small = small;
        from = from;
        order = subst (λ z. is_sorted node_cmp z ≡ true) (sym is) (true_of _ (sorted_rounds w root depth ((root, w.arrive root depth) ∷ []) [] tt));
        widely = first_arrives (widest w) refl t is;
        arrive = λ _. first_arrives w refl t is;
        begun = subst (λ z. w.arrive root depth ≤ budget z root) (sym is) (raised-at [] (root, w.arrive root depth));
        right = λ _ x ys e. absurd (no_answer x ys e);
        within = λ x ys e. absurd (no_answer x ys e);
        asked = λ x ys e. absurd (no_answer x ys e);
        live = r.live (All-nil (λ (e : ℕ × Node). 1 ≤ e.0));
        done = λ x one. inl (r.listed x one);
      }
    where
      no_answer : (x : Node) (ys : List Node) → a x ≡ Some ys → ⊥
      no_answer x ys e = none_some a x (none x) (ap is_some e)

  -- ---- the end

  greatest : (a : Answers) (t : Table) → IsLawful w → IsUnderWay w told root depth a t [] → IsTrue told → (x : Node) (k : ℕ) → Arrives w root depth x k → k ≤ budget t x
  greatest a t l u shown x k (begins p q) = subst (λ n. n ≤ budget t x) (sym q) (subst (λ z. w.arrive root depth ≤ budget t z) (sym p) u.begun)
  greatest a t l u shown y k (goes_on {x = x} {j = j} b one i q) =
      let below : j ≤ budget t x = greatest a t l u shown x j b in
      let here : 1 ≤ budget t x = omega arith in
      let fits : budget t x ≤ 65535 = budget_fits w told root depth a t [] l u x in
      let up : w.hand x j ≤ w.hand x (budget t x) = l.hand_rises x j (budget t x) one below fits in
      let top : w.hand x (budget t x) ≤ 65535 = l.hand_small x (budget t x) here fits in
      let on : w.arrive y (w.hand x j) ≤ w.arrive y (w.hand x (budget t x)) = l.arrive_rises y (w.hand x j) (w.hand x (budget t x)) up top in
      subst (λ n. n ≤ budget t y) (sym q) (le_trans on
      (elim (u.done x here) [
        | inl c ↦ absurd (let lt : c.0 < 0 = c.1 in omega arith)
        | inr d ↦ d.2 y (subst (IsOneOf y) (sym (u.right shown x d.0 d.1)) i)
      ]))

  -- with no work left
  pub finished : (a : Answers) (t : Table) → IsLawful w → IsUnderWay w told root depth a t [] → IsTrue told → IsBest w root depth t
  finished a t l u shown =
      record {
        order = u.order;
        arrives = λ x k e. u.arrive shown x k (found_entry x k t e);
        greatest = λ x k b one.
            let below : k ≤ budget t x = greatest a t l u shown x k b in
            (budget t x, known_budget t x (le_trans one below), below);
      }

  pub entries_inside : (a : Answers) (t : Table) (work : Work) → IsUnderWay w told root depth a t work → All (λ (e : Node × ℕ). IsOneOf e.0 w.nodes) t
  entries_inside a t work u = all_in (λ (e : Node × ℕ). IsOneOf e.0 w.nodes) t (λ e i. arrives_inside w root depth u.from e.0 e.1 ((u.widely e.0 e.1 i).1))

  -- ---- what was asked for

  asked_budget : (a : Answers) (t : Table) (work : Work) → IsUnderWay w told root depth a t work → (x : Node) → is_some (a x) ≡ true → 1 ≤ budget t x
  asked_budget a t work u x h = (elim (a x) as (λ o. a x ≡ o → is_some o ≡ true → 1 ≤ budget t x) [ None ↦ λ _ n. absurd (true≢false (sym n)) | Some ys ↦ λ e _. u.asked x ys e ]) refl h

  is_reached : (a : Answers) (t : Table) (work : Work) → IsUnderWay w told root depth a t work → (x : Node) → 1 ≤ budget t x → IsTrue told → Reached w root depth x
  is_reached a t work u x one shown = (budget t x, one, (u.arrive shown x (budget t x) (found_entry x (budget t x) t (known_budget t x one))).1)

  pub answered_once : (a : Answers) (t : Table) (work : Work) (asked : List Node) → IsUnderWay w told root depth a t work → AreAnswered a asked → AskedOnce w told root depth asked
  answered_once a t work asked u k =
      record {
        once = k.once;
        nodes = λ x i. node_inside w told root depth a t work u x (asked_budget a t work u x (k.known x i));
        reached = λ shown x i. is_reached a t work u x (asked_budget a t work u x (k.known x i)) shown;
      }

  -- and where these came last
  pub asked_in_all : (a : Answers) (t : Table) (work : Work) (asked more : List Node) → IsUnderWay w told root depth a t work → AreAnswered a asked → AreNew a t more → AskedOnce w told root depth (asked ++ more)
  asked_in_all a t work asked more u k n =
      record {
        once = distinct_more asked more k.once n.once (λ x i j. none_some a x (n.unknown x j) (k.known x i));
        nodes = λ x i. node_inside w told root depth a t work u x (some_budget x i);
        reached = λ shown x i. is_reached a t work u x (some_budget x i) shown;
      }
    where
      some_budget : (x : Node) → IsOneOf x (asked ++ more) → 1 ≤ budget t x
      some_budget x i = elim (in_append x asked more i) [ inl l ↦ asked_budget a t work u x (k.known x l) | inr r ↦ n.reached x r ]

  pub none_asked : AskedOnce w told root depth []
  none_asked = record { once = tt; nodes = λ x i. absurd i; reached = λ _ x i. absurd i }

  -- ---- the walk comes to an end

  all_fit : (t : Table) → ((x : Node) → budget t x ≤ 65535) → (ns : List Node) → all_budgets t ns ≤ 65535 * length ns
  all_fit t h [] = omega arith
  all_fit t h (x ∷ ns) = let a : budget t x ≤ 65535 = h x in let b : all_budgets t ns ≤ 65535 * length ns = all_fit t h ns in omega arith

  pub budgets_fit : (a : Answers) (t : Table) (work : Work) → IsLawful w → IsUnderWay w told root depth a t work → all_budgets t w.nodes ≤ 65535 * length w.nodes
  budgets_fit a t work l u = all_fit t (budget_fits w told root depth a t work l u) w.nodes

pub answered_more : (a b : Answers) (t : Table) (asked more : List Node) → AreAnswered a asked → Adds a b t more → AreAnswered b (asked ++ more)
answered_more a b t asked more k n =
    record {
      once = distinct_more asked more k.once n.new.once (λ x i j. none_some a x (n.new.unknown x j) (k.known x i));
      known = λ x i. elim (in_append x asked more i) [ inl l ↦ n.keeps x (k.known x l) | inr r ↦ n.known x r ];
    }

pub answered_none : (a : Answers) → AreAnswered a []
answered_none a = record { once = tt; known = λ x i. absurd i }
