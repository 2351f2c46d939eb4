use Rattle.std.proofs.Common.{◌≡◌, ◌≤◌, ◌+◌, ◌-◌, ℕ, List, length, take, rules, arith, subst, sym, ap, ◌∙◌, length-drop}
use Rattle.std.specs.Io.KnownBytes.{Consumes}
use Rattle.nbd_read_session.proofs.Hears.{heard_more, heard_same, length-put_mid, heard_short}
use Rattle.nbd_read_session.proofs.hearing.fill.Goals.{in-Ok, in-Err+else-ne}
use borrow.Rule.Slice.PartMut.{put_mid}
use Rattle.nbd_read_session.proofs.hearing.fill.Goals as goal

pub loop-preserved : goal.loop-preserved
loop-preserved g c =
    let i = c.loop.invariant in
    let len : length c.read.new.buf ≡ length c.loop.out - c.loop.at = search rules in
    let whole : length (put_mid c.loop.at (length c.loop.out - c.loop.at) c.loop.out c.read.new.buf) ≡ length c.loop.out = length-put_mid c.loop.out c.read.new.buf c.loop.at i.1 len in
    let kept : length (put_mid c.loop.at (length c.loop.out - c.loop.at) c.loop.out c.read.new.buf) ≡ length c.args.out.now = whole ∙ i.0 in
    elim c.match-read.branch [
      | in-Ok w ↦ (
        kept,
        (let few = w.in-Ok.ensures.bound in let at = w.at-is in omega arith),
        subst (λ (n : ℕ). Consumes (g.R.Read.remaining c.args.reader.now) (g.R.Read.remaining c.read.new.self) (take n (put_mid c.loop.at (length c.loop.out - c.loop.at) c.loop.out c.read.new.buf))) (sym w.at-is)
            (heard_more _ _ _ c.loop.out c.read.new.buf c.loop.at w.in-Ok.n i.1 len w.in-Ok.ensures.bound.0 i.2 w.in-Ok.ensures.bytes.0),
      )
      | in-Err+else-ne w ↦ (
        kept,
        (let at = w.at-is in omega arith),
        subst (λ (n : ℕ). Consumes (g.R.Read.remaining c.args.reader.now) (g.R.Read.remaining c.read.new.self) (take n (put_mid c.loop.at (length c.loop.out - c.loop.at) c.loop.out c.read.new.buf))) (sym w.at-is)
            (heard_same _ _ _ c.loop.out c.read.new.buf c.loop.at i.1 i.2 w.in-Err.ensures.bytes),
      )
    ]
