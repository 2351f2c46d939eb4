use Rattle.std.proofs.Common.{◌≡◌, sym, ap, ◌∙◌, refl, arith}
use Rattle.layers.specs.declared.stack.Stack.{Stack}
use Rattle.whole_commands.specs.Devices.{sectors_of}
use Rattle.command_semantics.specs.Stacks.{device_of}
use Rattle.command_semantics.specs.Status.{merge_state}
use Rattle.device_list.proofs.Events.{behind}
use Rattle.device_list.proofs.Merges.{merge_is, no_names, some_names}
use Rattle.device_list.specs.Status.{state_kept}
use Rattle.device_list.proofs.Statuses.{flying_says, held_says, kept_there, merging_flies, origin_flies}
use Rattle.device_list.proofs.Uses.{merge_says, merging_says, origin_says, snapshot_says}
use Rattle.device_list.proofs.origin.NamedVolume.status.Goals.{in-Origin+in-None, in-Origin+in-Some, in-Merging, in-Snapshot}
use Rattle.device_list.proofs.origin.NamedVolume.status.Goals as goal

pub returns-in-Ok-clause-done : goal.returns-in-Ok-clause-done
returns-in-Ok-clause-done c =
    let size : c.from-sectors.result ≡ sectors_of (device_of c.self.inside.volume.rested.origin) = c.from-sectors.ensures ∙ c.sectors_of.ensures ∙ ap (λ (s : Stack). sectors_of (device_of s)) c.origin.ensures in
    let needs = rw (← c.self.view_is) at c.requires in
    let many = c.self.invariant.many in
    rw (← c.self.view_is) (λ sound quiet. elim c.match-role.branch [
      | in-Origin+in-None w ↦ rw w.in-Origin.is (origin_says c.from-sectors.result c.in-Ok.text _ w.origin_line.result (no_names c.self.inside.merging c.self.inside.volume.rested (rw w.in-None.is at w.merging_state.ensures.none)) (sym w.text-is ∙ c.in-Ok.is) w.origin_line.ensures size)
      | in-Origin+in-Some w ↦ (let g = w.in-Some.ensures.some in
          let h = some_names c.self.inside.merging c.self.inside.volume.rested g.0 c.self.invariant.begun g.1 in
          rw w.in-Origin.is (merge_says c.from-sectors.result w.in-Some.state c.in-Ok.text _ w.merge_line.result h.0 h.1 (g.2 ∙ ap merge_state (sym h.2)) (sym w.text-is ∙ c.in-Ok.is) w.merge_line.ensures size))
      | in-Merging w ↦ rw w.in-Merging.is (merging_says c.from-sectors.result c.in-Ok.text _ w.snapshot_line-text.result (sym w.text-is ∙ c.in-Ok.is) w.snapshot_line-text.ensures size)
      | in-Snapshot w ↦ (let lt = rw w.in-Snapshot.is at needs in
          rw w.in-Snapshot.is (snapshot_says w.in-Snapshot.k c.from-sectors.result w.state_at.result c.in-Ok.text _ c.self.inside.volume.rested w.snapshot_line-text-in-Snapshot.result refl (omega (arith, lt, many)) (w.state_at.ensures.settled (c.look.ensures quiet (c.self.invariant.loud sound))) (sym w.text-is ∙ c.in-Ok.is) w.snapshot_line-text-in-Snapshot.ensures size))
    ])

pub returns-in-Ok-clause-among : goal.returns-in-Ok-clause-among
returns-in-Ok-clause-among c =
    let size : c.from-sectors.result ≡ sectors_of (device_of c.self.inside.volume.rested.origin) = c.from-sectors.ensures ∙ c.sectors_of.ensures ∙ ap (λ (s : Stack). sectors_of (device_of s)) c.origin.ensures in
    let needs = rw (← c.self.view_is) at c.requires in
    let many = c.self.invariant.many in
    rw (← c.self.view_is) (λ moving flies. elim c.match-role.branch [
      | in-Origin+in-None w ↦ rw w.in-Origin.is (origin_flies _ moving c.in-Ok.text (origin_says c.from-sectors.result c.in-Ok.text _ w.origin_line.result (no_names c.self.inside.merging c.self.inside.volume.rested (rw w.in-None.is at w.merging_state.ensures.none)) (sym w.text-is ∙ c.in-Ok.is) w.origin_line.ensures size))
      | in-Origin+in-Some w ↦ (let g = w.in-Some.ensures.some in
          let h = some_names c.self.inside.merging c.self.inside.volume.rested g.0 c.self.invariant.begun g.1 in
          rw w.in-Origin.is (origin_flies _ moving c.in-Ok.text (merge_says c.from-sectors.result w.in-Some.state c.in-Ok.text _ w.merge_line.result h.0 h.1 (g.2 ∙ ap merge_state (sym h.2)) (sym w.text-is ∙ c.in-Ok.is) w.merge_line.ensures size)))
      | in-Merging w ↦ rw w.in-Merging.is (merging_flies _ moving c.in-Ok.text (merging_says c.from-sectors.result c.in-Ok.text _ w.snapshot_line-text.result (sym w.text-is ∙ c.in-Ok.is) w.snapshot_line-text.ensures size))
      | in-Snapshot w ↦ (let lt = rw w.in-Snapshot.is at needs in
          let there = kept_there c.self.inside.volume.rested w.state_at.ensures.whole w.in-Snapshot.k (omega (arith, lt, many)) in
          rw w.in-Snapshot.is (flying_says c.self.inside.volume.rested w.state_at.ensures.whole w.in-Snapshot.k (omega (arith, lt, many)) c.from-sectors.result w.state_at.result c.in-Ok.text _ moving w.snapshot_line-text-in-Snapshot.result refl flies (w.state_at.ensures.held there.0 ∙ ap state_kept (there.1 there.0)) (sym w.text-is ∙ c.in-Ok.is) w.snapshot_line-text-in-Snapshot.ensures size))
    ])

pub returns-in-Ok-clause-held : goal.returns-in-Ok-clause-held
returns-in-Ok-clause-held c =
    let size : c.from-sectors.result ≡ sectors_of (device_of c.self.inside.volume.rested.origin) = c.from-sectors.ensures ∙ c.sectors_of.ensures ∙ ap (λ (s : Stack). sectors_of (device_of s)) c.origin.ensures in
    let needs = rw (← c.self.view_is) at c.requires in
    let many = c.self.invariant.many in
    rw (← c.self.view_is) (elim c.match-role.branch [
      | in-Origin+in-None w ↦ rw w.in-Origin.is (origin_says c.from-sectors.result c.in-Ok.text _ w.origin_line.result (no_names c.self.inside.merging c.self.inside.volume.rested (rw w.in-None.is at w.merging_state.ensures.none)) (sym w.text-is ∙ c.in-Ok.is) w.origin_line.ensures size)
      | in-Origin+in-Some w ↦ (let g = w.in-Some.ensures.some in
          let h = some_names c.self.inside.merging c.self.inside.volume.rested g.0 c.self.invariant.begun g.1 in
          rw w.in-Origin.is (merge_says c.from-sectors.result w.in-Some.state c.in-Ok.text _ w.merge_line.result h.0 h.1 (g.2 ∙ ap merge_state (sym h.2)) (sym w.text-is ∙ c.in-Ok.is) w.merge_line.ensures size))
      | in-Merging w ↦ rw w.in-Merging.is (merging_says c.from-sectors.result c.in-Ok.text _ w.snapshot_line-text.result (sym w.text-is ∙ c.in-Ok.is) w.snapshot_line-text.ensures size)
      | in-Snapshot w ↦ (let lt = rw w.in-Snapshot.is at needs in
          let whole = w.state_at.ensures.whole in
          let there = kept_there c.self.inside.volume.rested whole w.in-Snapshot.k (omega (arith, lt, many)) in
          rw w.in-Snapshot.is (
            c.self.inside.volume.rested.events,
            behind c.self.inside.volume.rested _ whole refl (merge_is _ c.self.inside.volume.rested c.self.invariant.begun) refl refl c.self.invariant.requests,
            held_says c.self.inside.volume.rested whole w.in-Snapshot.k (omega (arith, lt, many)) c.from-sectors.result w.state_at.result c.in-Ok.text _ w.snapshot_line-text-in-Snapshot.result refl (w.state_at.ensures.held there.0 ∙ ap state_kept (there.1 there.0)) (sym w.text-is ∙ c.in-Ok.is) w.snapshot_line-text-in-Snapshot.ensures size,
          ))
    ])

pub returns-in-Err-clause-held : goal.returns-in-Err-clause-held
returns-in-Err-clause-held c =
    rw (← c.self.view_is) (elim c.match-role.branch [
      | in-Origin+in-None w ↦ rw w.in-Origin.is (λ other. absurd (other refl))
      | in-Origin+in-Some w ↦ rw w.in-Origin.is (λ other. absurd (other refl))
      | in-Merging w ↦ rw w.in-Merging.is (λ other. absurd (other refl))
      | in-Snapshot w ↦ rw w.in-Snapshot.is (
        c.self.inside.volume.rested.events,
        behind c.self.inside.volume.rested _ w.state_at.ensures.whole refl (merge_is _ c.self.inside.volume.rested c.self.invariant.begun) refl refl c.self.invariant.requests,
        λ other. absurd (other refl),
      )
    ])
