use Rattle.std.proofs.Common.{◌≡◌, ◌-◌, drop, length, take}
use Rattle.std.specs.Prelude.{replicate}
use Rattle.std.specs.List.{list_all}
use Rattle.words.specs.Names.{is_name_byte}
use Rattle.words.proofs.names.padded.Given as goal

abbrev pub invariant-loop-i : goal.invariant-loop-i
invariant-loop-i l = record {
  rest : list_all is_name_byte (drop l.i l.word) ≡ list_all is_name_byte l.word;
  front : take l.i l.bytes ≡ take l.i l.word;
  long : length l.bytes ≡ 16;
  back : drop l.i l.bytes ≡ replicate (16 - l.i) 0;
}
