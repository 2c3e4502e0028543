-- Which fault of a line a fault of the store is.
use Rattle.oc_store.specs.declared.fault.ReadFault.{ReadFault}
use Rattle.oc_store.specs.declared.fault.ReadFault.TheVariants as read
use Rattle.oc_container.specs.declared.fault.Fault.{Fault}
use Rattle.oc_container.specs.declared.fault.Fault.TheVariants as line

-- the fault of a line that comes from one of reading
abbrev pub fault_of : ReadFault → Fault
fault_of read.Host = line.Host
fault_of read.Memory = line.Memory
fault_of (read.Damaged space n) = line.Damaged space n
