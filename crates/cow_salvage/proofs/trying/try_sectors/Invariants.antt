use Rattle.std.proofs.Common.{◌≡◌, ◌≤◌, ℕ}
use Rattle.cow_salvage.specs.Unread.{AddUnread, Stand}
use Rattle.cow_salvage.proofs.trying.try_sectors.Given as goal

abbrev pub invariant-loop-sector : goal.invariant-loop-sector
invariant-loop-sector g l = record {
  bytes : g.I.Image.bytes l.image ≡ g.I.Image.bytes l.fn.image;
  calm : (k n : ℕ) → g.I.Image.may_fail l.image k n → g.I.Image.may_fail l.fn.image k n;
  steady : (k n : ℕ) → g.I.Image.may_give l.image k n → g.I.Image.may_give l.fn.image k n;
  low : l.first ≤ l.sector;
  told : Stand l.first l.fn.spans.items → AddUnread (g.I.Image.may_fail l.fn.image) (g.I.Image.may_give l.fn.image) l.first l.fn.spans.items l.sector l.spans.items;
}
