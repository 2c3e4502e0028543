-- A call that answers a fault.
use Rattle.std.proofs.Common.{◌≡◌, ap, ℕ, List, Ok, Err}
use Rattle.std.specs.Prelude.{IfErr, IsErrOf, IsTrue, Result}
use Rattle.oc_host.specs.Counts.{Rose}
use Rattle.oc_layout.specs.declared.cells.Space.{Space}
use Rattle.oc_layout.specs.declared.cells.Space.TheVariants.{Objects}
use Rattle.oc_model.specs.declared.reach.Node.{Node}
use Rattle.oc_model.specs.Lists.{IsOneOf}
use Rattle.oc_store.specs.declared.fault.ReadFault.{ReadFault}
use Rattle.oc_store.specs.declared.fault.ReadFault.TheVariants as read_fault
use Rattle.oc_graph.specs.Objects.{Caused, Goes, IsDamagedRecord, RunObjects}
use Rattle.oc_graph.specs.Sights.{records_of}

pub caused_by : {T : Type 0} (r : Result T ReadFault) (told : _) (s t : RunObjects) (xs : List Node) → Goes told s t xs
    → (IsErrOf r read_fault.Host → Rose s.faults t.faults)
    → ((space : Space) (n : ℕ) → IsErrOf r (read_fault.Damaged space n) → (space ≡ Objects) × IsOneOf n (records_of (s.memory).live xs) × (IsTrue told → IsDamagedRecord s.store s.disk n))
    → IfErr r (λ f. Caused told s f t xs)
caused_by (Ok x) told s t xs goes host damaged = tt
caused_by (Err f) told s t xs goes host damaged = record { goes = goes; host = λ is. host (ap Err is); damaged = λ space n is. damaged space n (ap Err is) }
