-- What a `FileHost` shows.
use Rattle.std.specs.Prelude.{ℕ, List, Option, option_map, string_bytes}
use Rattle.oc_host.specs.declared.file.FileHost.{FileHost}

-- the path of its file, in bytes, if it has a file
abbrev pub path_of : {R File Dir : Type 0} → FileHost R File Dir → Option (List ℕ)
path_of host = option_map string_bytes host.path
