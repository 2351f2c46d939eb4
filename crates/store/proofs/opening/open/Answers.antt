use Rattle.std.proofs.Common.{inl, inr, ◌∙◌, Ok, ap, sym, subst, arith}
use Rattle.sector.specs.declared.refusal.Refusal.{Refusal}
use Rattle.crash_laws.specs.Firm.{AddsNow}
use Rattle.crash_laws.proofs.Firm.{adds_then}
use Rattle.cow_header.specs.declared.found.Found.TheVariants.{Header}
use Rattle.store.specs.Opening.{IsRefused}
use Rattle.store.specs.Reading.{all_read, read_pairs, reading}
use Rattle.store.proofs.FirstReads.{fresh_read, header_read, ended_after, starved_after}
use Rattle.store.proofs.opening.open.Goals as goal

pub returns-in-Ok-open_written-clause-opened : goal.returns-in-Ok-open_written-clause-opened
returns-in-Ok-open_written-clause-opened g c =
    let bytes = g.B.Block.contents c.args.device in
    let s = c.in-Ok-open_written.store.state in
    let chunk = c.in-Ok-open_written.ensures.chunk in
    let is = rw (← chunk, c.in-Ok.ensures.contents, c.in-Ok.ensures.size) at c.in-Ok-open_written.ensures in
    let size = c.in-Ok.ensures.size in
    let sectors = c.sectors-in-Header.ensures in
    record {
      found = c.in-Ok.ensures.found.1 ∙ ap Ok c.in-Header.is ∙ ap (λ n. Ok (Header n)) (sym chunk);
      large = omega arith;
      pairs = is.pairs;
      formed = is.formed;
      count = is.count;
      part = is.part;
      tail = is.tail;
      rest = is.rest;
      sure = is.sure;
      valid = is.valid;
    }

pub returns-in-Err-open_written-clause-refused : goal.returns-in-Err-open_written-clause-refused
returns-in-Err-open_written-clause-refused g c =
    let bytes = g.B.Block.contents c.args.device in
    let total = g.B.Block.size c.args.device in
    let size = c.in-Ok.ensures.size in
    let sectors = c.sectors-in-Header.ensures in
    let P : Refusal → Type 0 = λ r. IsRefused c.args.chunk c.args.origin total bytes r in
    elim c.in-Err-open_written.ensures.refused [
      | inl io ↦ subst P (sym io) tt
      | inr o ↦ elim o [
        | inl memory ↦ subst P (sym memory) tt
        | inr (damaged, not) ↦ subst P (sym damaged) (c.in-Header.chunk, c.in-Ok.ensures.found.1 ∙ ap Ok c.in-Header.is, omega arith, rw (c.in-Ok.ensures.contents, c.in-Ok.ensures.size) at not)
      ]
    ]

pub returns-in-Err-open_fresh-clause-layers : goal.returns-in-Err-open_fresh-clause-layers
returns-in-Err-open_fresh-clause-layers g c =
    let r = reading c.args.chunk (g.B.Block.size c.args.device) (g.B.Block.contents c.args.device) (g.B.Block.layers c.args.device) in
    let one = c.in-Ok.ensures.one in
    let back = ap g.B.Block.layers c.in-Err-open_fresh.ensures.refused.1 in
    starved_after r (g.B.Block.layers c.args.device) (g.B.Block.layers c.in-Err-open_fresh.refused.1) (back ∙ one) c.in-Err-open_fresh.refused.0 c.in-Err-open_fresh.ensures.refused.0

pub returns-in-Ok-open_written-clause-layers : goal.returns-in-Ok-open_written-clause-layers
returns-in-Ok-open_written-clause-layers g c =
    let total = g.B.Block.size c.args.device in
    let bytes = g.B.Block.contents c.args.device in
    let old = g.B.Block.layers c.args.device in
    let mid = g.B.Block.layers c.read_header.new.device in
    let chunk = c.in-Header.chunk in
    let size = c.in-Ok.ensures.size in
    let sectors = c.sectors-in-Header.ensures in
    header_read c.args.chunk total bytes (reading c.args.chunk total bytes old) c.in-Ok.found mid (c.in-Ok.ensures.says c.args.chunk) chunk c.in-Header.is (omega arith)
    ∙ rw (c.in-Ok.ensures.contents, c.in-Ok.ensures.size) at c.in-Ok-open_written.ensures.layers

pub returns-in-Err-open_written-clause-layers : goal.returns-in-Err-open_written-clause-layers
returns-in-Err-open_written-clause-layers g c =
    let total = g.B.Block.size c.args.device in
    let bytes = g.B.Block.contents c.args.device in
    let old = g.B.Block.layers c.args.device in
    let mid = g.B.Block.layers c.read_header.new.device in
    let chunk = c.in-Header.chunk in
    let size = c.in-Ok.ensures.size in
    let sectors = c.sectors-in-Header.ensures in
    ended_after (reading c.args.chunk total bytes old) (read_pairs c.in-Header.chunk (g.B.Block.size c.args.device) (g.B.Block.contents c.args.device) (g.B.Block.layers c.read_header.new.device)) c.in-Err-open_written.refused.0 old mid (g.B.Block.layers c.in-Err-open_written.refused.1)
    (header_read c.args.chunk total bytes (reading c.args.chunk total bytes old) c.in-Ok.found mid (c.in-Ok.ensures.says c.args.chunk) chunk c.in-Header.is (omega arith))
    c.in-Ok.ensures.one
    (rw (c.in-Ok.ensures.contents, c.in-Ok.ensures.size) at c.in-Err-open_written.ensures.layers)

pub returns-in-Ok-open_fresh-clause-adds : goal.returns-in-Ok-open_fresh-clause-adds
returns-in-Ok-open_fresh-clause-adds g c =
    let back = c.in-Ok-open_fresh.ensures.device in
    subst (λ (d : _). AddsNow (g.B.Block.may_hold c.args.device) (g.B.Block.may_hold d) (g.B.Block.contents d)) (sym back) c.in-Ok.ensures.adds

pub returns-in-Ok-open_written-clause-adds : goal.returns-in-Ok-open_written-clause-adds
returns-in-Ok-open_written-clause-adds g c =
    adds_then (g.B.Block.may_hold c.args.device) (g.B.Block.may_hold c.read_header.new.device) (g.B.Block.may_hold c.in-Ok-open_written.store.device) _ _ (sym c.in-Ok-open_written.ensures.contents) c.in-Ok.ensures.adds c.in-Ok-open_written.ensures.adds

pub returns-in-Ok-open_fresh-clause-layers : goal.returns-in-Ok-open_fresh-clause-layers
returns-in-Ok-open_fresh-clause-layers g c =
    let total = g.B.Block.size c.args.device in
    let bytes = g.B.Block.contents c.args.device in
    let old = g.B.Block.layers c.args.device in
    let mid = g.B.Block.layers c.read_header.new.device in
    let size = c.in-Ok.ensures.size in
    let sectors = c.sectors.ensures in
    let large = c.if-sectors-chunk.false in
    fresh_read c.args.chunk total bytes (reading c.args.chunk total bytes old) c.in-Ok.found mid (c.in-Ok.ensures.says c.args.chunk) c.in-Fresh.is (omega arith)
    ∙ ap (λ d. all_read (g.B.Block.layers d)) (sym c.in-Ok-open_fresh.ensures.device)
