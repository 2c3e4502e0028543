-- A header that is spelled is read again.
use Rattle.std.proofs.Common.{◌≡◌, []}
use Rattle.oc_layout.specs.declared.cells.Header.{Header}
use Rattle.oc_layout.specs.Headers.{header_bytes, fields, FitsHeader}
use Rattle.oc_layout.proofs.Spelled.{number_again}

pub fields_again : (h : Header) → FitsHeader h → fields (header_bytes h) ≡ h
fields_again h fits i = record {
  limit = number_again h.limit [] fits.limit i;
  first = number_again h.first [] fits.first i;
  root = record { at = number_again h.root.at [] fits.root.at i; len = number_again h.root.len [] fits.root.len i };
  log = record { at = number_again h.log.at [] fits.log.at i; len = number_again h.log.len [] fits.log.len i };
  gate = h.gate;
  block = number_again h.block [] fits.block i;
  block_limit = number_again h.block_limit [] fits.block_limit i;
  block_root = record { at = number_again h.block_root.at [] fits.block_root.at i; len = number_again h.block_root.len [] fits.block_root.len i };
  spare = record { at = number_again h.spare.at [] fits.spare.at i; len = number_again h.spare.len [] fits.spare.len i };
  form = h.form;
}
