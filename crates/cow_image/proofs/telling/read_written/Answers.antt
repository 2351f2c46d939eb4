use Rattle.std.proofs.Common.{◌∙◌, sym, subst, List}
use Rattle.std.specs.List.Sorted.{IsPermutation}
use Rattle.sector.specs.declared.pair.Pair.{Pair}
use Rattle.cow_image.specs.Loaded.{IsRead}
use Rattle.cow_image.proofs.Tells.{told_lacks, told_fault, current_is, formed_read, copies_within}
use Rattle.cow_image.proofs.telling.read_written.Goals as goal

pub returns-in-Lacks-clause-told : goal.returns-in-Lacks-clause-told
returns-in-Lacks-clause-told g c = λ b is whole large header.
    let listed = rw (c.in-Lacks.is, c.in-Ok.ensures.chunk) at (c.in_ok-current.ensures.listed b is) in
    told_lacks c.args.chunk c.args.origin c.args.size c.in-Lacks.area b whole large header listed

pub returns-then-not-judge-clause-told : goal.returns-then-not-judge-clause-told
returns-then-not-judge-clause-told g c = λ b is whole large header.
    let read : IsRead c.args.chunk c.args.size b c.in-Ends.current c.read_pairs.new.pairs.items c.read_pairs.new.area.bytes.items = rw (c.in-Ends.is, c.in-Ok.ensures.chunk) at (c.in_ok-current.ensures.listed b is) in
    told_fault c.args.chunk c.args.origin c.args.size b c.read_pairs.new.pairs.items c.in_ok-fault.fault whole large header read.all (c.in_ok-fault.ensures.first b (c.in_ok-current.ensures.bytes ∙ is)) c.if-not-judge.ensures.formed

pub invariant_of-result-clause-within : goal.invariant_of-result-clause-within
invariant_of-result-clause-within g c = copies_within c.args.chunk c.args.origin c.args.size c.read_pairs.new.pairs.items c.judge.new.pairs.items c.requires.some c.judge.ensures.moved c.if-not-judge.ensures.formed.0

pub returns-clause-told : goal.returns-clause-told
returns-clause-told g c = λ b is whole large header.
    let read : IsRead c.args.chunk c.args.size b c.in-Ends.current c.read_pairs.new.pairs.items c.read_pairs.new.area.bytes.items = rw (c.in-Ends.is, c.in-Ok.ensures.chunk) at (c.in_ok-current.ensures.listed b is) in
    let formed = c.if-not-judge.ensures.formed in
    record {
      whole = whole;
      header = header;
      large = large;
      formed = formed_read c.args.chunk c.args.origin c.args.size c.in-Ends.current b c.read_pairs.new.area.bytes.items c.read_pairs.new.pairs.items read formed.0 formed.1;
      pairs = subst (λ (xs : List Pair). IsPermutation xs c.judge.new.pairs.items) (sym read.all) c.judge.ensures.moved;
      current = current_is c.args.chunk c.args.size c.in-Ends.current b c.read_pairs.new.area.bytes.items c.read_pairs.new.pairs.items read;
    }
