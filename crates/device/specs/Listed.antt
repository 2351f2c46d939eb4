-- Lists of sectors in spans, and where a sector stands in such a list.
use Rattle.std.specs.Prelude.{ℕ, suc, List, [], ◌∷◌, ◌++◌, nat_eq, if◌then◌else◌}
use Rattle.std.specs.List.{range_with_len}
use Rattle.device.specs.declared.span.Span.{Span}

-- the sectors of spans, in order
abbrev pub listed : List Span → List ℕ
listed [] = []
listed (span ∷ spans) = range_with_len span.first span.count ++ listed spans

-- how many of a list come before a sector: all, where it is not listed
abbrev pub place_in : List ℕ → ℕ → ℕ
place_in [] s = 0
place_in (x ∷ xs) s = if nat_eq x s then 0 else suc (place_in xs s)
