-- They are as many as the volume's.
use Rattle.std.proofs.Common.{◌≡◌, ℕ, ◌≤◌, length, sym, ap, ◌∙◌, subst}
use Rattle.std.proofs.lemmas.List.{length-map}
use Rattle.in_flight.specs.Kinds.{in_flight}
use Rattle.snapshot.specs.Kept.{Kept}
use Rattle.volume.specs.Volumed.{Volumed}
use Rattle.audited_volume.specs.Seats.{flight_in}
use Rattle.locked_volume.proofs.under_lock.look_at_bounds.Goals as goal

pub returns-clause-held : goal.returns-clause-held
returns-clause-held g c =
    let audit = c.args.audit.now in
    let same : length audit.held ≡ length audit.volume.flights = sym (length-map audit.held flight_in) ∙ ap length c.look_at_requests.ensures ∙ length-map audit.volume.flights in_flight in
    let flights = ap (λ (v : Volumed g.row.B.Denot). length v.flights) c.volume-volume.ensures in
    subst (λ (n : ℕ). n ≤ 64) (c.flying.ensures.len ∙ flights ∙ sym same) c.flying.ensures.few

pub returns-clause-lives : goal.returns-clause-lives
returns-clause-lives g c =
    let audit = c.args.audit.now in
    let same : length audit.lives ≡ length audit.volume.snaps = ap length c.look_at_places.ensures.lives ∙ length-map audit.volume.snaps (λ (s : Kept g.row.B.Denot). s.live) in
    let snaps = ap (λ (v : Volumed g.row.B.Denot). length v.snaps) c.volume-volume.ensures in
    subst (λ (n : ℕ). n ≤ 8) (c.len.ensures.len ∙ snaps ∙ sym same) c.len.ensures.few
