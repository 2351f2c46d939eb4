use Rattle.std.proofs.Common.{◌≡◌, ◌≤◌, ◌-◌, ℕ, length, List, []}
use Rattle.cow_salvage.specs.Unread.{AddUnread, Stand}
use Rattle.cow_salvage.proofs.trying.try_pieces.Given as goal

abbrev pub invariant-loop-first : goal.invariant-loop-first
invariant-loop-first g l = record {
  bytes : g.I.Image.bytes l.image ≡ g.I.Image.bytes l.fn.image;
  calm : (k n : ℕ) → g.I.Image.may_fail l.image k n → g.I.Image.may_fail l.fn.image k n;
  steady : (k n : ℕ) → g.I.Image.may_give l.image k n → g.I.Image.may_give l.fn.image k n;
  inside : l.first ≤ l.size;
  room : length l.room ≡ 1_048_576;
  told : Stand 0 l.fn.spans.items → AddUnread (g.I.Image.may_fail l.fn.image) (g.I.Image.may_give l.fn.image) 0 l.fn.spans.items l.first l.spans.items;
}

abbrev pub decreases-loop-first : goal.decreases-loop-first
decreases-loop-first g l = l.size - l.first
