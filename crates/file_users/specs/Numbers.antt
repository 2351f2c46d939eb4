-- The two parts of a device's number of 64 bits. Source: the manual page makedev(3), and what its functions do: the driver has the bits 8
-- to 19 and 44 to 63, and which of its devices it is the bits 0 to 7 and 20 to 43.
use Rattle.std.specs.Prelude.{ℕ, ◌+◌, ◌*◌, ◌/◌, ◌%◌}

abbrev pub major_of : ℕ → ℕ
major_of device = device / 256 % 4096 + device / 17592186044416 * 4096

abbrev pub minor_of : ℕ → ℕ
minor_of device = device % 256 + device / 1048576 % 16777216 * 256
