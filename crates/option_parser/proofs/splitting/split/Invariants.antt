use Rattle.std.proofs.Common.{◌≡◌, map, take}
use Rattle.std.specs.String.{string_bytes}
use Rattle.option_parser.specs.Reading.{read_all, reading_of, texts_of}
use Rattle.option_parser.proofs.splitting.split.Given as goal

abbrev pub invariant-loop-word : goal.invariant-loop-word
invariant-loop-word l = reading_of l.split ≡ read_all (texts_of l.valued) (map string_bytes (take l.word-index l.words))
