use Rattle.std.proofs.Common.{◌≡◌, ◌+◌, ◌≤◌, ◌∙◌, ap, arith, map, refl, rules, sym}
use Rattle.std.specs.Prelude.{replicate}
use Rattle.volume.specs.Volumed.{plain_of}
use Rattle.in_flight.specs.Kinds.{in_flight}
use Rattle.audited_volume.specs.Noted.{kept_count}
use Rattle.audited_volume.specs.Seats.{seated}
use Rattle.audited_volume.proofs.Beginning.{lives_shown, mays_shown}
use Rattle.audited_volume.proofs.Bounds.{new_bounds}
use Rattle.audited_volume.proofs.Mays.{kept_same}
use Rattle.audited_volume.proofs.Keeping.{new_keeps, none_yet}
use Rattle.audited_volume.proofs.audit.Audit.going_on.Goals as goal

pub invariant_of-result : goal.invariant_of-result
invariant_of-result g c =
    let w = c.args.volume in
    let loud = c.is_loud_now-loud.ensures in
    let quiet = ap (map in_flight) c.requires.quiet in
    let nought : c.in-Ok-vec.counts.items ≡ replicate 9 0 = search rules in
    let none : c.in-Ok-vec-2.folded.items ≡ replicate 9 0 = search rules in
    let few : c.args.taken + kept_count c.in-Ok-lives_in.lives.items c.in-Ok-mays_in.may.items ≤ 65_536 = omega (arith, c.requires.room, kept_same _ _ _ _ c.in-Ok-lives_in.ensures.lives c.in-Ok-mays_in.ensures) in
    rw (c.new.ensures.items, c.in-Ok-with_capacity.ensures.items)
    (record {
      audit = new_keeps _ c.is_loud_now-loud.result (plain_of g.B.Block.contents g.B.Block.layers w) _ c.args.taken c.in-Ok-lives_in.lives.items c.in-Ok-mays_in.may.items c.in-Ok-vec.counts.items c.in-Ok-vec-2.folded.items _ quiet (λ on. sym loud ∙ on) (λ on. c.in-Ok.ensures (sym loud ∙ on))
          (c.in-Ok-lives_in.ensures.lives ∙ lives_shown g.B.Block.contents (g.B.Block.contents w.origin) w.snaps)
          (c.in-Ok-mays_in.ensures ∙ mays_shown g.B.Block.contents (g.B.Block.contents w.origin) w.snaps) few c.in-Ok-with_capacity.ensures.capacity nought none;
      bounded = new_bounds w.requests c.is_loud_now-loud.result (plain_of g.B.Block.contents g.B.Block.layers w) _ quiet refl refl (λ s lt. none_yet c.in-Ok-vec.counts.items s nought);
      earned = omega (arith, c.requires.earned, kept_same _ _ _ _ c.in-Ok-lives_in.ensures.lives c.in-Ok-mays_in.ensures);
      lives = c.in-Ok-lives_in.ensures.lives;
      may = c.in-Ok-mays_in.ensures;
    })

pub returns-clause-ok : goal.returns-clause-ok
returns-clause-ok g c = (refl, c.in-Ok-with_capacity.ensures.items, ap (map seated) c.new.ensures.items, c.in-Ok-lives_in.ensures.lives, c.in-Ok-mays_in.ensures, c.is_loud_now-loud.ensures)
