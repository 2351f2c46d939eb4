-- Nothing is told where nothing is written.
use Rattle.std.proofs.Common.{ℕ, false, List, Option, Some, None, refl}
use Rattle.std.specs.Io.KnownBytes.{Keeps}
use Rattle.explain_syntax.specs.Sentences.{Tells}

keeps : (a : Option (List ℕ)) → Keeps a a
keeps None = tt
keeps (Some xs) = refl

pub tells_nothing : (a : Option (List ℕ)) → Tells a a None false
tells_nothing a = (refl, keeps a)
