-- To be believed: the numbers of errors, by doc/proto.md of the NBD project: "Error values".
use Rattle.std.specs.Prelude.{ℕ}
use Rattle.nbd_messages.specs.declared.errors.ErrorValue.{ErrorValue}
use Rattle.nbd_messages.specs.declared.errors.ErrorValue.TheVariants.{NotPermitted, Io, NoMemory, Invalid, NoSpace, NotSupported}

-- EPERM, EIO, ENOMEM, EINVAL, ENOSPC, ENOTSUP
abbrev pub error_number : ErrorValue → ℕ
error_number NotPermitted = 1
error_number Io = 5
error_number NoMemory = 12
error_number Invalid = 22
error_number NoSpace = 28
error_number NotSupported = 95
