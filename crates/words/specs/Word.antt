-- The first word of a line, and what stands after it. Words stand between spaces.
use Rattle.std.specs.Prelude.{ℕ, List, drop, ◌==◌, not, Bool}
use Rattle.std.specs.List.{after_first, before_first, position_or_len}

abbrev pub is_space : ℕ → Bool
is_space byte = byte == 32

-- what stands after the spaces at its beginning
abbrev pub unspaced : List ℕ → List ℕ
unspaced line = drop (position_or_len (λ byte. not (is_space byte)) line) line

-- the bytes up to a space, or all
abbrev pub first_word : List ℕ → List ℕ
first_word line = before_first is_space (unspaced line)

-- what stands after that space
abbrev pub after_word : List ℕ → List ℕ
after_word line = after_first is_space (unspaced line)
