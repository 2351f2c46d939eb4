use Rattle.image_compare.proofs.Fronts.{whole_some, whole_none}
use Rattle.image_compare.proofs.comparing.whole.Goals as goal

pub returns-in-Some : goal.returns-in-Some
returns-in-Some c = λ a b along blong is. whole_some a b c.args.size c.args.other_size c.in-Some.at c.args.front c.in-Some.is is

pub returns-in-None : goal.returns-in-None
returns-in-None c = λ a b along blong is. whole_none a b c.args.size c.args.other_size c.args.front c.end_of_shorter.result along blong c.in-None.is c.end_of_shorter.ensures is
