use Rattle.std.proofs.Common.{ap, arith, refl, sym, ◌∙◌}
use Rattle.std.specs.Prelude.{◌==◌}
use Rattle.plain_machine.specs.Plain.{did_overflow}
use Rattle.snapshot_list.proofs.Finds.{position_within}
use Rattle.audited_volume.proofs.Mays.{may_marked}
use Rattle.audited_volume.proofs.Placed.{dead_mark, new_noted, no_mark, noted_mark, nowhere_noted, old_noted, read_mark, read_may}
use Rattle.audited_volume.proofs.noting.note_mark.Goals as goal
use Rattle.audited_volume.proofs.noting.note_mark.Goals.{else-lives-place-via-then-lives-place+then-index+else-is_marked, else-lives-place-via-then-lives-place+else-index, else-lives-place-via-else-lives-place}

pub returns-in_default-place_in-clause-noted : goal.returns-in_default-place_in-clause-noted
returns-in_default-place_in-clause-noted g c =
    let w = c.args.volume.now in
    nowhere_noted g.B.Block.contents (g.B.Block.contents w.origin) c.args.dev c.in-Snap.number c.in-Snap.is w.snaps c.args.lives.now c.args.may.now.items c.args.may.now.items c.args.entries.now.items c.args.entries.now.items
    (sym c.place_in.ensures ∙ c.in_default-place_in.is) refl refl

pub push_reserved-requires : goal.push_reserved-requires
push_reserved-requires g c =
    let w = c.args.volume.now in
    let within = position_within (λ s. s.number == c.in-Snap.number) w.snaps c.in-Some.place (sym c.place_in.ensures ∙ c.in-Some.is) in
    let could = read_may g.B.Block.contents (g.B.Block.contents w.origin) w.snaps c.args.lives.now c.args.may.now.items c.in-Some.place within (c.requires.may ∙ c.requires.lives) c.index.result.now c.index.ensures ∙ c.if-index.true in
    omega (arith, c.requires.room, may_marked c.args.lives.now c.args.may.now.items c.in-Some.place c.if-lives-place.true could)

pub returns-then-is_marked-clause-noted : goal.returns-then-is_marked-clause-noted
returns-then-is_marked-clause-noted g c =
    let w = c.args.volume.now in
    let found = sym c.place_in.ensures ∙ c.in-Some.is in
    let within = position_within (λ s. s.number == c.in-Snap.number) w.snaps c.in-Some.place found in
    let could = read_may g.B.Block.contents (g.B.Block.contents w.origin) w.snaps c.args.lives.now c.args.may.now.items c.in-Some.place within (c.requires.may ∙ c.requires.lives) c.index.result.now c.index.ensures ∙ c.if-index.true in
    let s = c.snap.result.now in
    let marked = read_mark g.B.Block.contents (g.B.Block.contents w.origin) w.snaps c.args.lives.now c.args.may.now.items c.in-Some.place within (c.requires.may ∙ c.requires.lives) s c.is_marked.result (c.snap.ensures.value s) (c.is_marked.ensures ∙ ap did_overflow c.overflow.ensures) ∙ c.if-is_marked.true in
    new_noted g.B.Block.contents (g.B.Block.contents w.origin) c.args.dev c.in-Snap.number c.in-Snap.is w.snaps c.args.lives.now c.args.may.now.items _ c.args.entries.now.items _ c.in-Some.place found c.if-lives-place.true could marked refl c.push_reserved.ensures.items

pub returns-else-lives-place-clause-noted : goal.returns-else-lives-place-clause-noted
returns-else-lives-place-clause-noted g c =
    let w = c.args.volume.now in
    let contents = g.B.Block.contents in
    let origin = g.B.Block.contents w.origin in
    let lives = c.args.lives.now in
    let may = c.args.may.now.items in
    let k = c.in-Some.place in
    let found = sym c.place_in.ensures ∙ c.in-Some.is in
    let within = position_within (λ s. s.number == c.in-Snap.number) w.snaps k found in
    let long = c.requires.may ∙ c.requires.lives in
    let es = c.args.entries.now.items in
    elim c.else-lives-place.branch [
      | else-lives-place-via-then-lives-place+then-index+else-is_marked x ↦
          (let s = x.snap.result.now in
          old_noted contents origin c.args.dev c.in-Snap.number c.in-Snap.is w.snaps lives may may es es k found
          (no_mark contents origin w.snaps lives may k within long (read_mark contents origin w.snaps lives may k within long s x.is_marked.result (x.snap.ensures.value s) (x.is_marked.ensures ∙ ap did_overflow x.overflow.ensures) ∙ x.if-is_marked.false)) refl refl)
      | else-lives-place-via-then-lives-place+else-index x ↦
          old_noted contents origin c.args.dev c.in-Snap.number c.in-Snap.is w.snaps lives may may es es k found (noted_mark contents origin w.snaps lives may k within long (read_may contents origin w.snaps lives may k within long x.index.result.now x.index.ensures ∙ x.if-index.false)) refl refl
      | else-lives-place-via-else-lives-place x ↦
          old_noted contents origin c.args.dev c.in-Snap.number c.in-Snap.is w.snaps lives may may es es k found (dead_mark contents origin w.snaps lives may k within long x.if-lives-place.false) refl refl
    ]
