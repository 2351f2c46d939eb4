-- What a client is told of an export.
use Rattle.std.specs.Prelude.{◌≡◌, ℕ, Some}
use Rattle.nbd_options.specs.declared.export.Export.{Export}

-- It has so many bytes and may be read, written and flushed; requests are whole sectors, best whole pages, and 32 MiB at most.
abbrev pub IsServed : ℕ → Export → Type 0
IsServed size export = (export.size ≡ size) × (export.flags ≡ 77) × (export.blocks ≡ Some (record { least = 512; best = 4096; most = 33554432 }))
