use Rattle.std.proofs.Common.{◌≡◌, ℕ, ◌+◌, ◌*◌, ◌<◌, ◌≤◌, List, [], ◌∙◌, length, take, drop, arith, rules, refl, sym, subst, length-append, length-drop}
use Rattle.cow_salvage.specs.Unread.{AddUnread, Stand, AreUnread}
use Rattle.cow_salvage.proofs.Tries.{add_then, add_none}
use Rattle.cow_salvage.proofs.trying.try_sectors.Goals as goal

pub loop-sector-init : goal.loop-sector-init
loop-sector-init g c = record {
  bytes = refl;
  calm = λ k n h. h;
  steady = λ k n h. h;
  low = omega arith;
  told = λ stand. add_none (g.I.Image.may_fail c.args.image.now) (g.I.Image.may_give c.args.image.now) c.args.first c.args.spans.now.items stand;
}

pub loop-sector-preserved : goal.loop-sector-preserved
loop-sector-preserved g c =
    let i = c.loop-sector.invariant in
    record {
      bytes = c.in_ok-try_sector.ensures.bytes ∙ i.bytes;
      calm = λ k n h. i.calm k n (c.in_ok-try_sector.ensures.calm k n h);
      steady = λ k n h. i.steady k n (c.in_ok-try_sector.ensures.steady k n h);
      low = (let low = i.low in omega arith);
      told = λ stand.
          add_then (g.I.Image.may_fail c.args.image.now) (g.I.Image.may_give c.args.image.now) (g.I.Image.may_fail c.loop-sector.image) (g.I.Image.may_give c.loop-sector.image) c.args.first c.loop-sector.sector (c.loop-sector.sector + 1) c.args.spans.now.items c.loop-sector.spans.items c.try_sector.new.spans.items i.calm i.steady (i.told stand) c.in_ok-try_sector.ensures.each;
    }

pub returns-clause-each : goal.returns-clause-each
returns-clause-each g c = λ stand.
    let all : c.loop-sector.sector ≡ c.args.first + c.args.count = let end = c.loop-sector.auto.sector-end in let past = c.loop-sector-test.false in omega arith in
    subst (λ (n : ℕ). AddUnread (g.I.Image.may_fail c.args.image.now) (g.I.Image.may_give c.args.image.now) c.args.first c.args.spans.now.items n c.loop-sector.spans.items) all (c.loop-sector.invariant.told stand)
