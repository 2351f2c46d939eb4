-- To be believed: `run`'s output, a volume's steps or its attach are said in these words.
-- How a refusal is printed. The form is this project's own choice.
use Rattle.std.specs.Prelude.{ℕ, List, ◌++◌, codes, decimal}
use Rattle.sector.specs.declared.refusal.Refusal.{Refusal}
use Rattle.sector.specs.Refusal.{number_of, name_of}

-- a refusal, without the end of its line
abbrev pub refusal_text : Refusal → List ℕ
refusal_text refusal = codes "err " ++ decimal (number_of refusal) ++ codes " " ++ name_of refusal
