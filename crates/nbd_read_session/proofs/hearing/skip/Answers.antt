use Rattle.std.proofs.Common.{◌≡◌, ◌≤◌, ◌+◌, ◌-◌, ℕ, Bool, true, false, List, length, take, rules, arith, subst, sym, ap, ◌∙◌, MatchBool}
use Rattle.std.specs.Io.KnownBytes.{Consumes}
use Rattle.nbd_read_session.specs.Heard.{IsShort, IsRead}
use Rattle.nbd_read_session.proofs.Hears.{more_read}
use Rattle.nbd_read_session.proofs.hearing.skip.Goals as goal

pub loop-left-preserved : goal.loop-left-preserved
loop-left-preserved g c =
    let i = c.loop-left.invariant in
    let least = c.min-part.ensures in
    let test = c.if-not-branch.false in
    let few = i.few in
    let now : Consumes (g.R.Read.remaining c.loop-left.reader) (g.R.Read.remaining c.fill.new.reader) c.fill.new.out = rw test at c.in_ok-fill.ensures in
    let len : length c.fill.new.out ≡ c.min-part.result = search rules in
    record {
      few = omega arith;
      read = more_read _ _ _ (c.args.count - c.loop-left.left) c.min-part.result _ c.fill.new.out i.read now len (omega arith);
    }
