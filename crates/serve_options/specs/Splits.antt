-- The words of a command line, split into names and options.
use Rattle.std.specs.Prelude.{ℕ, List, [], ◌∷◌, ◌++◌, codes}
use Rattle.option_parser.specs.Splits.{Split as LineSplit, split_by as line_split_by, values_of}
use Rattle.option_parser.specs.Reading.{split_of as line_split_of, texts_of}
use Rattle.serve_options.specs.declared.splitting.Words.{Words}

pub record Split : Type 0 where
  -- the names and options
  pub line : LineSplit
  -- the values of each `--merge`, and of each `--snapshot`
  pub merges : List (List ℕ)
  pub snapshots : List (List ℕ)
  -- all stores: those that are merged first
  pub cows : List (List ℕ)

-- these options take a value
abbrev pub valued : List (List ℕ)
valued = codes "--chunk" ∷ codes "--full" ∷ codes "--merge" ∷ codes "--snapshot" ∷ []

abbrev pub with_stores : LineSplit → Split
with_stores line = record {
  line = line;
  merges = values_of line (codes "--merge");
  snapshots = values_of line (codes "--snapshot");
  cows = values_of line (codes "--merge") ++ values_of line (codes "--snapshot");
}

-- the words behind the program's own name
abbrev pub split_by : List (List ℕ) → Split
split_by words = with_stores (line_split_by valued words)

-- what is in a program's hands
abbrev pub split_of : Words → Split
split_of words = record {
  line = line_split_of words.line;
  merges = texts_of words.merges.items;
  snapshots = texts_of words.snapshots.items;
  cows = texts_of words.cows.items;
}
