-- The walks of a store and of a delete over equal graphs.
use Rattle.std.specs.Prelude.{◌≡◌}
use Rattle.std.proofs.Common.{sym}
use Rattle.oc_model.specs.States.{Settings}
use Rattle.oc_reach.specs.Graphs.{Shown, store_over, delete_over}

pub same_store : (s t : Settings) (g k : Shown) → t ≡ s → g ≡ k → store_over s g ≡ store_over t k
same_store s t g k a b = λ i. store_over (sym a i) (b i)

pub same_delete : (s t : Settings) (g k : Shown) → t ≡ s → g ≡ k → delete_over s g ≡ delete_over t k
same_delete s t g k a b = λ i. delete_over (sym a i) (b i)
