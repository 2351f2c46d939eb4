use Rattle.std.proofs.Common.{rules, ◌≡◌, ◌<◌, List, length, get_or, sym, ap, ◌∙◌}
use Rattle.std.proofs.lemmas.List.{get_or_read}
use Rattle.std.proofs.lemmas.Result.{on_ok_weaker}
use Rattle.command_semantics.specs.Stacks.{device_of}
use Rattle.command_semantics.specs.State.{Names}
use Rattle.device_list.specs.Backed.{Backed}
use Rattle.device_list.specs.Held.{settled_in}
use Rattle.device_list.proofs.Layered.{store_told}
use Rattle.device_list.proofs.origin.NamedVolume.trace_store.Goals as goal

pub returns : goal.returns
returns c =
    let before = c.self.inside.volume.rested in
    let in_state : c.args.self.now.shown.state ≡ settled_in before = sym (ap (λ (v : Backed). v.shown.state) c.self.view_is) in
    let names : c.self.inside.snaps.items ≡ c.args.self.now.shown.snaps = ap (λ (v : Backed). v.shown.snaps) c.self.view_is in
    let lt : c.args.k < length before.snaps = search rules in
    let named : c.args.k < length c.args.self.now.shown.snaps = search rules in
    let old = c.args.self.now.shown.snaps in
    let here = c.index.result.now in
    let read : here ≡ get_or old c.args.k here = c.index.ensures ∙ ap (λ (ns : List Names). get_or ns c.args.k here) names in
    let same : (d : Names) → here ≡ get_or old c.args.k d = get_or_read old c.args.k here named read in
    on_ok_weaker c.add_layers.result (λ added d. store_told c.args.out.now.items c.add_layers.new.out.items c.args.k here (get_or old c.args.k d) c.deref.result.now (device_of c.store_at.result.now) c.args.self.now.shown before in_state lt c.store_at.ensures (same d) (c.deref.ensures.value ∙ ap (λ (n : Names). n.store) c.behind-self.view_is) added) c.add_layers.ensures
