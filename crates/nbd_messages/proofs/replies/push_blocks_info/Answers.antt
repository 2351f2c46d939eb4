use Rattle.std.proofs.Common.{◌++◌, ℕ, List, length, sym, ap, ◌∙◌, append_assoc}
use Rattle.nbd_messages.specs.Replies.{option_front, blocks_info}
use Rattle.nbd_messages.proofs.Lengths.{length_blocks_info}
use Rattle.nbd_messages.proofs.replies.push_blocks_info.Goals as goal

pub returns : goal.returns
returns c =
    let info = blocks_info c.args.blocks.least c.args.blocks.best c.args.blocks.most in
    c.in_ok-push_blocks.ensures
    ∙ ap (λ (l : List ℕ). l ++ info) c.in_ok-push_option_front.ensures
    ∙ append_assoc c.args.out.now.items (option_front c.args.option c.args.kind 14) info
    ∙ ap (λ (n : ℕ). c.args.out.now.items ++ (option_front c.args.option c.args.kind n ++ info)) (sym (length_blocks_info c.args.blocks.least c.args.blocks.best c.args.blocks.most))
