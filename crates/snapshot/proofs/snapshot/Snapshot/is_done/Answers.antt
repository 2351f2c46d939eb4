-- A snapshot that is done has no copy, so that no area is zeroed ahead.
use Rattle.std.proofs.Common.{◌≡◌, ◌*◌, ◌≤◌, ◌∙◌, ap, arith, length, map, sym, true, false, [], vec_len}
use Rattle.std.proofs.lemmas.Bool.{eqb-true, true≢false}
use Rattle.std.proofs.lemmas.List.{nil_from_length}
use Rattle.device.specs.Layers.{is_loud}
use Rattle.in_flight.specs.Copies.{pair_of}
use Rattle.store.specs.Loading.{is_begun}
use Rattle.store.specs.Held.{committed, pairs_pending}
use Rattle.snapshot.proofs.Rests.{in_order, next_here, none_ahead, none_firm, none_marked}
use Rattle.snapshot.proofs.snapshot.Snapshot.is_done.Goals as goal
use Rattle.snapshot.proofs.snapshot.Snapshot.is_done.Goals.{then-is_empty, else-is_empty}

pub returns-then-is_empty-2-clause-still : goal.returns-then-is_empty-2-clause-still
returns-then-is_empty-2-clause-still g c = λ tried live loud small.
    let s = c.self.inside.store in
    let bytes = g.B.Block.contents s.device in
    let ps = committed s.exceptions in
    let begun = pairs_pending s.exceptions in
    let copies = c.self.inside.copies.items in
    let none : length copies ≡ 0 = elim c.if-is_empty.branch [ then-is_empty w ↦ (let empty = eqb-true (vec_len c.self.inside.copies) 0 (sym c.is_empty.ensures ∙ w.if-is_empty.true) in omega (arith, empty)) | else-is_empty w ↦ absurd (true≢false (sym c.if-is_empty-2.true ∙ w.value-is ∙ w.if-is_empty.false)) ] in
    let alive : c.self.inside.live ≡ true = ap (λ v. v.live) c.self.view_is ∙ live in
    let loud' : is_loud (g.B.Block.layers s.device) ≡ true = ap (λ v. is_loud (g.B.Block.layers v.device)) c.self.view_is ∙ loud in
    let keeps = c.self.invariant.0 in
    let ready = keeps.ready in
    let copying = keeps.copying alive in
    let idle : begun ≡ [] = keeps.agree ∙ ap (λ cs. map pair_of cs) (nil_from_length copies none) in
    let stored = s.stored loud' in
    let small' : s.state.origin ≤ 2_147_483_648 = omega (arith, small, ap (λ v. v.state.origin) c.self.view_is) in
    let fits : s.state.size ≤ 2_147_483_648 = omega (arith, s.size, g.met.B.Block.small s.device) in
    let whole : length bytes ≡ 512 * s.state.size = g.met.B.Block.whole s.device ∙ ap (λ n. 512 * n) (sym s.size) in
    let unzeroed : s.state.zeroed ≡ false = none_ahead c.self.inside.live s.state (length copies) alive none keeps.ahead in
    rw (← c.self.view_is) (record {
      order = in_order bytes s.area.bytes.items ps s.state s.front stored ready copying s.places.next begun small' fits whole s.given;
      pairs = stored.listed (ap is_begun ready);
      next = next_here bytes s.area.bytes.items ps s.state s.front stored ready copying s.places.next begun idle s.given;
      zeroed = unzeroed;
      firm = none_firm s.state.firm s.state.zeroed s.front.firm unzeroed;
      unmarked = none_marked c.self.inside.live c.self.inside.marked keeps.dead alive;
    })
