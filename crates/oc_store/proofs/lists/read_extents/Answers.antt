use Rattle.std.proofs.Common.{◌≡◌, sym, subst, map, rules}
use Rattle.std.specs.Prelude.{IsErrOf}
use Rattle.oc_chunks.specs.Ascending.{Each}
use Rattle.oc_chunks.specs.Opening.{chunk_read}
use Rattle.oc_store.specs.declared.fault.ReadFault.TheVariants as read_fault
use Rattle.oc_store.specs.Sides.{IsWritten}
use Rattle.oc_store.proofs.Gathered.{read_written}
use Rattle.oc_store.proofs.lists.read_extents.Goals as goal

pub returns-in_err-chunks-clause-damaged : goal.returns-in_err-chunks-clause-damaged
returns-in_err-chunks-clause-damaged g c space n is =
    let err : IsErrOf c.read_list.result (read_fault.Damaged space n) = search rules in
    c.read_list.ensures.damaged space n err

pub returns-clause-written : goal.returns-clause-written
returns-clause-written g c =
    let read : c.in-Some.extents.chunks ≡ map chunk_read c.in_ok-chunks.chunks.items = search rules in
    subst (Each IsWritten) (sym read) (read_written c.in_ok-chunks.chunks.items)
