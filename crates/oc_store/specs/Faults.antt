-- Faults of the layers below as those of a store.
use Rattle.oc_host.specs.declared.fault.IoFault.{IoFault}
use Rattle.oc_host.specs.declared.fault.IoFault.TheVariants as io_fault
use Rattle.oc_slots.specs.declared.attach_fault.AttachFault.{AttachFault}
use Rattle.oc_slots.specs.declared.attach_fault.AttachFault.TheVariants as attach_fault
use Rattle.oc_slots.specs.declared.fault.SpaceFault.{SpaceFault}
use Rattle.oc_slots.specs.declared.fault.SpaceFault.TheVariants as space_fault
use Rattle.oc_store.specs.declared.fault.ChangeFault.{ChangeFault}
use Rattle.oc_store.specs.declared.fault.ChangeFault.TheVariants as change_fault
use Rattle.oc_store.specs.declared.fault.ReadFault.{ReadFault}
use Rattle.oc_store.specs.declared.fault.ReadFault.TheVariants as read_fault
use Rattle.oc_store.specs.declared.fault.StartFault.{StartFault}
use Rattle.oc_store.specs.declared.fault.StartFault.TheVariants as start_fault

-- as a fault of reading
abbrev pub read_fault_of : IoFault → ReadFault
read_fault_of io_fault.Host = read_fault.Host
read_fault_of io_fault.Memory = read_fault.Memory

-- a fault of reading as one of changing
abbrev pub change_fault_of : ReadFault → ChangeFault
change_fault_of read_fault.Host = change_fault.Host
change_fault_of read_fault.Memory = change_fault.Memory
change_fault_of (read_fault.Damaged space number) = change_fault.Damaged space number

-- a fault of slots as one of changing
abbrev pub change_fault_of_space : SpaceFault → ChangeFault
change_fault_of_space space_fault.Host = change_fault.Host
change_fault_of_space space_fault.Memory = change_fault.Memory
change_fault_of_space (space_fault.Full need len limit) = change_fault.Full need len limit

-- a fault of reading as one of attaching
abbrev pub start_fault_of : ReadFault → StartFault
start_fault_of read_fault.Host = start_fault.Host
start_fault_of read_fault.Memory = start_fault.Memory
start_fault_of (read_fault.Damaged space number) = start_fault.Damaged space number

-- a fault of attaching slots as one of attaching
abbrev pub start_fault_of_slots : AttachFault → StartFault
start_fault_of_slots attach_fault.Host = start_fault.Host
start_fault_of_slots attach_fault.Memory = start_fault.Memory
start_fault_of_slots attach_fault.NotAContainer = start_fault.NotAContainer
