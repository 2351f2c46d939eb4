-- What is left to be read of the lines: that of standard input, or of the file.
use Rattle.std.specs.Prelude.{ℕ, List, Option}
use Rattle.dmrig.specs.declared.source.Source.{Source}
use Rattle.dmrig.specs.declared.source.Source.TheVariants.{Input, File}

abbrev pub left_in : {I F : Type 0} → (I → Option (List ℕ)) → (F → Option (List ℕ)) → Source I F → Option (List ℕ)
left_in input file (Input i) = input i
left_in input file (File f) = file f
