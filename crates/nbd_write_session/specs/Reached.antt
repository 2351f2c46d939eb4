-- To be believed: what is said of an array by a session that ends with an error.
use Rattle.std.specs.Prelude.{List, Result, OnErr}
use Rattle.nbd_backend.specs.Calls.{Call, Called}

-- An array came from one state to another by some calls, and by nothing else.
abbrev pub Reaches : {S : Type 0} → (Call → S → S → Type 0) → S → S → Type 0
Reaches does old new = (calls : List Call) × Called does old calls new

-- An array came so to where a call of a session left it that ended with an error.
abbrev pub Reached : {S T E : Type 0} → (Call → S → S → Type 0) → Result T E → S → S → Type 0
Reached does result old new = OnErr result (Reaches does old new)
