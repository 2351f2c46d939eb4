-- A request that waits for nothing is refused as any is, or answered at the origin disk.
use Rattle.std.proofs.Common.{◌≡◌, ◌+◌, ◌*◌, ◌∙◌, ℕ, List, None, arith, ap, inl, length, refl, subst, sym}
use Rattle.std.specs.Prelude.{Err}
use Rattle.plain_machine.specs.declared.request.Op.TheVariants.{Write}
use Rattle.plain_machine.specs.declared.request.Request.{Request}
use Rattle.in_flight.specs.Kinds.{room_of}
use Rattle.in_flight.specs.declared.flights.Flight.{Flight}
use Rattle.volume.specs.AtDisk.{GoesToDisk}
use Rattle.volume.specs.DoesServe.{IsServedAtOnce}
use Rattle.volume.specs.Submitting.{submit_refusal}
use Rattle.volume.specs.Volumed.{Volumed}
use Rattle.volume.specs.Whole.{IsWhole}
use Rattle.volume.proofs.Admits.{admitted}
use Rattle.volume.proofs.AtDisk.{goes_disk, moves_goes, plain_goes, served_alone, whole_alone}
use Rattle.volume.proofs.Submits.{submitted_by}
use Rattle.volume.proofs.volume.Volume.serve_at_disk.Goals as goal

pub submit_refused-requires : goal.submit_refused-requires
submit_refused-requires g c = record { whole = plain_goes g.B.Block.contents g.B.Block.layers c.args.request c.args.self.now.snaps c.requires.goes }

pub returns-in-Some-clause-does : goal.returns-in-Some-clause-does
returns-in-Some-clause-does g c =
    let now = c.args.self.now in
    let h : IsWhole g.B.Block.contents g.B.Block.layers g.B.Block.size now = subst (IsWhole g.B.Block.contents g.B.Block.layers g.B.Block.size) c.self.view_is c.self.invariant.whole in
    submitted_by g.B.Block.contents g.B.Block.layers g.B.Block.size now now h c.args.request (Err c.in-Some.refusal) tt tt (inl (sym c.in-Some.ensures, refl))

pub overflow_add-self-inside : goal.overflow_add-self-inside
overflow_add-self-inside g c =
    let a = admitted g.B.Block.size c.args.request c.args.self.now (plain_goes g.B.Block.contents g.B.Block.layers c.args.request c.args.self.now.snaps c.requires.goes) (sym c.in-None.ensures) in
    let same : c.self.inside.requests ≡ c.args.self.now.requests = ap (λ (x : Volumed g.row.B.Denot). x.requests) c.self.view_is in
    omega (arith, a.requests, same)

pub answer_at_disk-requires-clause-whole : goal.answer_at_disk-requires-clause-whole
answer_at_disk-requires-clause-whole g c =
    let now = c.args.self.now in
    let h : IsWhole g.B.Block.contents g.B.Block.layers g.B.Block.size now = subst (IsWhole g.B.Block.contents g.B.Block.layers g.B.Block.size) c.self.view_is c.self.invariant.whole in
    let f : Flight = c.in-Ok.flight in
    let is : f.request ≡ c.args.request = c.in-Ok.ensures.request in
    let number : f.number ≡ now.requests + 1 = c.in-Ok.ensures.number ∙ ap (λ (x : Volumed g.row.B.Denot). x.requests + 1) c.self.view_is in
    let room : length f.room.items ≡ room_of f.request = c.in-Ok.ensures.room ∙ ap room_of (sym is) in
    let fits = subst (λ (r : Request). (bytes : List ℕ) → r.op ≡ Write bytes → length bytes ≡ 512 * r.range.count) (sym is) c.requires.bytes in
    let goes = subst (λ (r : Request). GoesToDisk g.B.Block.contents g.B.Block.layers r now.snaps) (sym is) c.requires.goes in
    let free = subst (λ (r : Request). submit_refusal g.B.Block.size r now ≡ None) (sym is) (sym c.in-None.ensures) in
    whole_alone g.B.Block.contents g.B.Block.layers g.B.Block.size now h c.requires.quiet c.requires.alone f number room fits (goes_disk g.B.Block.contents g.B.Block.layers f now.snaps c.in-Ok.ensures.route goes) free

pub answer_at_disk-requires-clause-moves : goal.answer_at_disk-requires-clause-moves
answer_at_disk-requires-clause-moves g c =
    let is : c.in-Ok.flight.request ≡ c.args.request = c.in-Ok.ensures.request in
    moves_goes g.B.Block.contents g.B.Block.layers c.in-Ok.flight.request c.args.self.now.snaps (subst (λ (r : Request). GoesToDisk g.B.Block.contents g.B.Block.layers r c.args.self.now.snaps) (sym is) c.requires.goes)

pub returns-clause-does : goal.returns-clause-does
returns-clause-does g c =
    let now = c.args.self.now in
    let h : IsWhole g.B.Block.contents g.B.Block.layers g.B.Block.size now = subst (IsWhole g.B.Block.contents g.B.Block.layers g.B.Block.size) c.self.view_is c.self.invariant.whole in
    let f : Flight = c.in-Ok.flight in
    let is : f.request ≡ c.args.request = c.in-Ok.ensures.request in
    let number : f.number ≡ now.requests + 1 = c.in-Ok.ensures.number ∙ ap (λ (x : Volumed g.row.B.Denot). x.requests + 1) c.self.view_is in
    let room : length f.room.items ≡ room_of f.request = c.in-Ok.ensures.room ∙ ap room_of (sym is) in
    let fits = subst (λ (r : Request). (bytes : List ℕ) → r.op ≡ Write bytes → length bytes ≡ 512 * r.range.count) (sym is) c.requires.bytes in
    let goes = subst (λ (r : Request). GoesToDisk g.B.Block.contents g.B.Block.layers r now.snaps) (sym is) c.requires.goes in
    let free = subst (λ (r : Request). submit_refusal g.B.Block.size r now ≡ None) (sym is) (sym c.in-None.ensures) in
    let w = c.answer_at_disk.new.self in
    let reply = c.answer_at_disk.result in
    subst (λ (r : Request). IsServedAtOnce g.B.Block.may_hold g.B.Block.contents g.B.Block.layers g.B.Block.size g.B.Block.fault_count g.B.Block.done_count r f.number reply now w) is
    (served_alone g.B.Block.contents g.B.Block.layers g.B.Block.size now h c.requires.quiet c.requires.alone f number room fits (goes_disk g.B.Block.contents g.B.Block.layers f now.snaps c.in-Ok.ensures.route goes) free g.B.Block.may_hold g.B.Block.fault_count g.B.Block.done_count reply w c.answer_at_disk.ensures.does (c.answer_at_disk.ensures.quiet ∙ c.requires.quiet))
