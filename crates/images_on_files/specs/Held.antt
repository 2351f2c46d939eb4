-- What a file that is written from its front to its end holds, by its calls.
use Rattle.std.specs.Prelude.{ℕ, List, []}
use Rattle.file_calls.specs.Calls.{Call}
use Rattle.file_calls.specs.Kept.{now_in, with_len}

-- What reads would give of a file that was empty, once it is cut or filled to so many bytes.
abbrev pub held : List Call → ℕ → List ℕ
held calls at = with_len (now_in [] calls) at
