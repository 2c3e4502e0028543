use Rattle.oc_model.proofs.CatalogTold.{catalog_told, catalog_one}
use Rattle.oc_model.proofs.laws_spelling.catalog_bytes_tell.Goals as goal

pub returns : goal.returns
returns c = record { catalogs = catalog_told; same = catalog_one }
