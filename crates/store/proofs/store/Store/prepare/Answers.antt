use Rattle.std.proofs.Common.{◌≡◌, inl, inr, ◌∙◌, ◌*◌, arith, length, ap, sym, subst, refl, rules, IsTrue, false}
use Rattle.device.specs.Layers.{is_loud}
use Rattle.cow_format.specs.Pairs.{pairs_of}
use Rattle.store.specs.Headed.{head_of, marked_as}
use Rattle.store.specs.Held.{committed, pairs_pending}
use Rattle.store.specs.Loading.{is_begun, is_left}
use Rattle.store.specs.Stopping.{MayPrepare}
use Rattle.store.specs.declared.state.Left.{Left}
use Rattle.store.specs.declared.state.Left.TheVariants.{FirstArea, HeaderChunk, Tail}
use Rattle.store.proofs.Heads.{area_past}
use Rattle.store.proofs.Lost.{left_before, torn_within}
use Rattle.store.proofs.Stops.{first_stops, header_stops, tail_stops}
use Rattle.store.proofs.store.Store.prepare.Goals as goal

pub returns-in_ok-write_current-in-FirstArea-clause-leaves : goal.returns-in_ok-write_current-in-FirstArea-clause-leaves
returns-in_ok-write_current-in-FirstArea-clause-leaves g c = λ valid loud torn held.
    let s = c.args.self.now in
    let n = c.write_current.new.self in
    let l : IsTrue (is_loud (g.B.Block.layers s.device)) = loud in
    let whole : length (g.B.Block.contents s.device) ≡ 512 * s.state.size = g.met.B.Block.whole s.device ∙ ap (λ n. 512 * n) (sym s.size) in
    let left : s.state.left ≡ FirstArea = search rules in
    let waits : s.state.awaits ≡ false = search rules in
    let within = torn_within (g.B.Block.may_hold s.device) (g.B.Block.may_hold n.device) (g.B.Block.contents s.device) (g.B.Block.contents n.device) torn s.state.size (s.firm loud (ap is_left left) waits) (c.write_current.ensures.adds loud) held in
    inr (subst (λ (x : Left). MayPrepare x s.state.chunk s.state.origin s.state.size (committed s.exceptions) torn) (sym left) (first_stops _ (committed s.exceptions) s.state s.area.bytes.items (g.B.Block.contents s.device) _ torn s.front.some (area_past s.state.chunk s.state.current) (s.stored l) left whole c.write_current.ensures.only within))

pub returns-in_ok-write_valid-in-HeaderChunk-clause-leaves : goal.returns-in_ok-write_valid-in-HeaderChunk-clause-leaves
returns-in_ok-write_valid-in-HeaderChunk-clause-leaves g c = λ valid loud torn held.
    let s = c.args.self.now in
    let n = c.write_valid.new.self in
    let l : IsTrue (is_loud (g.B.Block.layers s.device)) = loud in
    let l' : IsTrue (is_loud (g.B.Block.layers n.device)) = c.write_valid.ensures.loud ∙ loud in
    let whole : length (g.B.Block.contents s.device) ≡ 512 * s.state.size = g.met.B.Block.whole s.device ∙ ap (λ n. 512 * n) (sym s.size) in
    let left : s.state.left ≡ HeaderChunk = search rules in
    let waits : s.state.awaits ≡ false = search rules in
    let within = torn_within (g.B.Block.may_hold s.device) (g.B.Block.may_hold n.device) (g.B.Block.contents s.device) (g.B.Block.contents n.device) torn s.state.size (s.firm loud (ap is_left left) waits) (c.write_valid.ensures.adds loud) held in
    inr (subst (λ (x : Left). MayPrepare x s.state.chunk s.state.origin s.state.size (committed s.exceptions) torn) (sym left) (header_stops s.places.next (committed s.exceptions) (pairs_pending s.exceptions) s.state s.area.bytes.items (g.B.Block.contents s.device) _ torn s.front (s.stored l)
    ((n.stored l').head ∙ ap (λ t. head_of t.left t.valid t.chunk) c.in_ok-write_valid-in-HeaderChunk.ensures.state ∙ ap (λ b. marked_as b s.state.chunk) valid) s.given left valid whole c.write_valid.ensures.only within))

pub returns-in_ok-write_current-in-Tail-clause-leaves : goal.returns-in_ok-write_current-in-Tail-clause-leaves
returns-in_ok-write_current-in-Tail-clause-leaves g c = λ valid loud torn held.
    let s = c.args.self.now in
    let n = c.write_current-in-Tail.new.self in
    let l : IsTrue (is_loud (g.B.Block.layers s.device)) = loud in
    let l' : IsTrue (is_loud (g.B.Block.layers n.device)) = c.write_current-in-Tail.ensures.loud ∙ loud in
    let whole : length (g.B.Block.contents s.device) ≡ 512 * s.state.size = g.met.B.Block.whole s.device ∙ ap (λ n. 512 * n) (sym s.size) in
    let left : s.state.left ≡ Tail = search rules in
    let waits : s.state.awaits ≡ false = search rules in
    let within = torn_within (g.B.Block.may_hold s.device) (g.B.Block.may_hold n.device) (g.B.Block.contents s.device) (g.B.Block.contents n.device) torn s.state.size (s.firm loud (ap is_left left) waits) (c.write_current-in-Tail.ensures.adds loud) held in
    inr (subst (λ (x : Left). MayPrepare x s.state.chunk s.state.origin s.state.size (committed s.exceptions) torn) (sym left) (tail_stops s.places.next (committed s.exceptions) (pairs_pending s.exceptions) s.state s.area.bytes.items (g.B.Block.contents s.device) _ torn s.front (s.stored l)
    (sym (ap (λ t. pairs_of t.chunk (g.B.Block.contents n.device)) c.in_ok-write_current-in-Tail.ensures.state) ∙ (n.stored l').listed (ap (λ t. is_begun t.left) c.in_ok-write_current-in-Tail.ensures.state) ∙ ap committed c.write_current-in-Tail.ensures.exceptions) s.given left valid whole c.write_current-in-Tail.ensures.only within))

pub returns-in_err-write_current-in-FirstArea-clause-leaves : goal.returns-in_err-write_current-in-FirstArea-clause-leaves
returns-in_err-write_current-in-FirstArea-clause-leaves g c = λ valid loud torn held.
    let s = c.args.self.now in
    let n = c.write_current.new.self in
    inl (left_before (g.B.Block.may_hold s.device) (g.B.Block.may_hold n.device) (g.B.Block.contents s.device) (g.B.Block.contents n.device) torn s.state.size (λ k lt. g.met.B.Block.holds_now s.device k (omega (arith, lt, s.size))) c.in_err-write_current-in-FirstArea.ensures.same (c.write_current.ensures.adds loud) held)

pub returns-in_err-write_valid-in-HeaderChunk-clause-leaves : goal.returns-in_err-write_valid-in-HeaderChunk-clause-leaves
returns-in_err-write_valid-in-HeaderChunk-clause-leaves g c = λ valid loud torn held.
    let s = c.args.self.now in
    let n = c.write_valid.new.self in
    inl (left_before (g.B.Block.may_hold s.device) (g.B.Block.may_hold n.device) (g.B.Block.contents s.device) (g.B.Block.contents n.device) torn s.state.size (λ k lt. g.met.B.Block.holds_now s.device k (omega (arith, lt, s.size))) c.in_err-write_valid-in-HeaderChunk.ensures.same (c.write_valid.ensures.adds loud) held)

pub returns-in_err-write_current-in-Tail-clause-leaves : goal.returns-in_err-write_current-in-Tail-clause-leaves
returns-in_err-write_current-in-Tail-clause-leaves g c = λ valid loud torn held.
    let s = c.args.self.now in
    let n = c.write_current-in-Tail.new.self in
    inl (left_before (g.B.Block.may_hold s.device) (g.B.Block.may_hold n.device) (g.B.Block.contents s.device) (g.B.Block.contents n.device) torn s.state.size (λ k lt. g.met.B.Block.holds_now s.device k (omega (arith, lt, s.size))) c.in_err-write_current-in-Tail.ensures.same (c.write_current-in-Tail.ensures.adds loud) held)

pub returns-in-Nothing-clause-leaves : goal.returns-in-Nothing-clause-leaves
returns-in-Nothing-clause-leaves g c = λ valid loud torn held.
    let s = c.args.self.now in
    inl (left_before (g.B.Block.may_hold s.device) (g.B.Block.may_hold s.device) (g.B.Block.contents s.device) (g.B.Block.contents s.device) torn s.state.size (λ k lt. g.met.B.Block.holds_now s.device k (omega (arith, lt, s.size))) refl (λ k v h. inl h) held)

pub returns-then-self-clause-leaves : goal.returns-then-self-clause-leaves
returns-then-self-clause-leaves g c = λ valid loud torn held.
    let s = c.args.self.now in
    let n = c.flush_load.new.self in
    inl (left_before (g.B.Block.may_hold s.device) (g.B.Block.may_hold n.device) (g.B.Block.contents s.device) (g.B.Block.contents n.device) torn s.state.size (λ k lt. g.met.B.Block.holds_now s.device k (omega (arith, lt, s.size))) c.flush_load.ensures.same (c.flush_load.ensures.adds loud) held)

pub returns-in_err-flush_load-clause-leaves : goal.returns-in_err-flush_load-clause-leaves
returns-in_err-flush_load-clause-leaves g c = λ valid loud torn held.
    let s = c.args.self.now in
    let n = c.flush_load.new.self in
    inl (left_before (g.B.Block.may_hold s.device) (g.B.Block.may_hold n.device) (g.B.Block.contents s.device) (g.B.Block.contents n.device) torn s.state.size (λ k lt. g.met.B.Block.holds_now s.device k (omega (arith, lt, s.size))) c.flush_load.ensures.same (c.flush_load.ensures.adds loud) held)
