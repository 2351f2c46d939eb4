-- What was shown stays so where the writer's bytes are kept: they are only written out.
use Rattle.std.proofs.Common.{ℕ, Bool, true, false, List, Option, Some, None}
use Rattle.std.specs.Io.KnownBytes.{Appends, Keeps}
use Rattle.script_runner.specs.Exit.{IsEarly}
use Rattle.script_runner.specs.Sessions.{Sitting}
use Rattle.script_runner.specs.declared.error.RunError.{RunError}
use Rattle.script_runner.specs.declared.error.RunError.TheVariants.{Memory, Read, Write, Endless}
use Rattle.script_runner.specs.declared.summary.Summary.{Summary}
use Rattle.dmrig.specs.Shown.{IsBegun, IsShown, IsTold}

-- bytes that were appended, and then kept
pub appends_kept : (a b c : Option (List ℕ)) (bs : List ℕ) → Appends a b bs → Keeps b c → Appends a c bs
appends_kept None b c bs p q = tt
appends_kept (Some xs) None c bs p q = absurd p
appends_kept (Some xs) (Some ys) None bs p q = absurd q
appends_kept (Some xs) (Some ys) (Some zs) bs p q = cc

-- bytes that were kept twice
pub keeps_kept : (a b c : Option (List ℕ)) → Keeps a b → Keeps b c → Keeps a c
keeps_kept None b c p q = tt
keeps_kept (Some xs) None c p q = absurd p
keeps_kept (Some xs) (Some ys) None p q = absurd q
keeps_kept (Some xs) (Some ys) (Some zs) p q = cc

pub shown_kept : (numbers : Bool) (text a b c : Option (List ℕ)) (summary : Summary) → IsShown numbers text a b summary → Keeps b c → IsShown numbers text a c summary
shown_kept true text a b c summary (answers, bytes, counts, is) kept = (answers, appends_kept a b c _ bytes kept, counts, is)
shown_kept false text a b c summary (replies, bytes, counts, is) kept = (replies, appends_kept a b c _ bytes kept, counts, is)

pub told_kept : {X : Type 0} (tells : X → ℕ → Sitting → X → Type 0) (numbers : Bool) (text a b c : Option (List ℕ)) (first last : X)
    → IsTold tells numbers text a b first last → Keeps b c → IsTold tells numbers text a c first last
told_kept tells true text a b c first last (answers, bytes, is) kept = (answers, appends_kept a b c _ bytes kept, is)
told_kept tells false text a b c first last (answers, bytes, is) kept = (answers, appends_kept a b c _ bytes kept, is)

pub begun_kept : (numbers : Bool) (text a b c : Option (List ℕ)) (error : RunError) → IsBegun numbers text a b error → Keeps b c → IsBegun numbers text a c error
begun_kept true text a b c error begun kept = λ no. let (answers, bytes, is) = begun no in (answers, appends_kept a b c _ bytes kept, is)
begun_kept false text a b c error begun kept = λ no. let (replies, bytes, is) = begun no in (replies, appends_kept a b c _ bytes kept, is)

pub early_kept : (text left a b c : Option (List ℕ)) (error : RunError) → IsEarly text left a b error → Keeps b c → IsEarly text left a c error
early_kept text left a b c Memory (read, bytes) kept = (read, keeps_kept a b c bytes kept)
early_kept text left a b c (Read error) early kept = early
early_kept text left a b c (Write error) early kept = early
early_kept text left a b c Endless early kept = early
