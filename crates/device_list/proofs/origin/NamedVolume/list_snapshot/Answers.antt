use Rattle.std.proofs.Common.{rules, ◌≡◌, ◌<◌, List, length, get_or, sym, ap, ◌∙◌}
use Rattle.std.proofs.lemmas.List.{get_or_read}
use Rattle.std.proofs.lemmas.Result.{on_ok_weaker}
use Rattle.whole_commands.specs.Snaps.{Snap}
use Rattle.command_semantics.specs.Stacks.{device_of}
use Rattle.command_semantics.specs.State.{Names}
use Rattle.device_list.specs.Backed.{Backed}
use Rattle.device_list.specs.Held.{settled_in}
use Rattle.device_list.proofs.Listed.{snapshot_told}
use Rattle.device_list.proofs.origin.NamedVolume.list_snapshot.Goals as goal

pub returns-clause-added : goal.returns-clause-added
returns-clause-added c =
    let before = c.self.inside.volume.rested in
    let in_state : c.args.self.now.shown.state ≡ settled_in before = sym (ap (λ (v : Backed). v.shown.state) c.self.view_is) in
    let names : c.self.inside.snaps.items ≡ c.args.self.now.shown.snaps = ap (λ (v : Backed). v.shown.snaps) c.self.view_is in
    let lt : c.args.k < length before.snaps = search rules in
    let named : c.args.k < length c.args.self.now.shown.snaps = search rules in
    let old = c.args.self.now.shown.snaps in
    let here = c.index-names.result.now in
    let read : here ≡ get_or old c.args.k here = c.index-names.ensures ∙ ap (λ (ns : List Names). get_or ns c.args.k here) names in
    let same : (d : Names) → here ≡ get_or old c.args.k d = get_or_read old c.args.k here named read in
    on_ok_weaker c.add_snapshot.result (λ added d. snapshot_told c.args.out.now.items c.add_snapshot.new.out.items c.args.k here (get_or old c.args.k d) c.line_of_snapshot.result (device_of c.store_at.result.now) c.args.self.now.shown before in_state lt c.store_at.ensures (same d) c.line_of_snapshot.ensures added) c.add_snapshot.ensures.added
