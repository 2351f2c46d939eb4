use Rattle.std.proofs.Common.{arith}
use Rattle.cow_image.proofs.Windows.{lies_inside, lies_same}
use Rattle.cow_image.proofs.windowed.Windowed.give.Goals as goal

pub returns-clause-inside : goal.returns-clause-inside
returns-clause-inside g c = lies_inside (g.I.Image.bytes c.args.self.now.below.now) c.args.self.now.at c.args.self.now.window.items c.in-Some.first c.args.at _ c.args.self.now.held c.in-Some.is (omega arith) (omega arith)

pub returns-clause-data : goal.returns-clause-data
returns-clause-data g c = lies_same (g.I.Image.bytes c.args.self.now.below.now) c.args.self.now.at c.args.self.now.window.items c.deref.result.now _ c.in-Some.first c.args.at _ c.args.self.now.held c.in-Some.is (omega arith) (omega arith) c.deref.ensures.value c.copy_from_slice.ensures.after
