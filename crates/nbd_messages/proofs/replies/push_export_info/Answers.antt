use Rattle.std.proofs.Common.{◌++◌, ℕ, List, length, sym, ap, ◌∙◌, append_assoc}
use Rattle.nbd_messages.specs.Replies.{option_front, export_info}
use Rattle.nbd_messages.proofs.Lengths.{length_export_info}
use Rattle.nbd_messages.proofs.replies.push_export_info.Goals as goal

pub returns : goal.returns
returns c =
    let info = export_info c.args.size c.args.flags in
    c.in_ok-push_info.ensures
    ∙ ap (λ (l : List ℕ). l ++ info) c.in_ok-push_option_front.ensures
    ∙ append_assoc c.args.out.now.items (option_front c.args.option c.args.kind 12) info
    ∙ ap (λ (n : ℕ). c.args.out.now.items ++ (option_front c.args.option c.args.kind n ++ info)) (sym (length_export_info c.args.size c.args.flags))
