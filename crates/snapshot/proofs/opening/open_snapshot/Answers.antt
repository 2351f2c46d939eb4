-- What the load gives, the snapshot has.
use Rattle.std.proofs.Common.{◌≡◌, ◌+◌, ◌*◌, ◌<◌, ◌≤◌, ◌++◌, ℕ, List, length, map, true, false, ◌∙◌, ap, sym, subst}
use Rattle.std.proofs.lemmas.List.{append-nil}
use Rattle.sector.specs.Bytes.{sector_at}
use Rattle.sector.specs.declared.pair.Pair.{Pair}
use Rattle.cow_header.specs.HeaderText.{found_in}
use Rattle.cow_format.specs.NextPlace.{IsNextPlace}
use Rattle.exception_arena.specs.Pending.{pairs}
use Rattle.device.specs.Layers.{is_loud}
use Rattle.cow_format.specs.Pairs.{pairs_of}
use Rattle.cow_format.specs.Places.{slot}
use Rattle.cache_loss_laws.proofs.Slots.{rest_of}
use Rattle.cow_format.specs.Picture.{picture}
use Rattle.store.specs.declared.state.Left.TheVariants.{Nothing}
use Rattle.store.specs.declared.state.State.{State}
use Rattle.store.specs.Held.{committed, pending}
use Rattle.store.specs.Stored.{new_of}
use Rattle.store.specs.Loading.{is_begun, is_settled}
use Rattle.snapshot.specs.Kept.{Kept}
use Rattle.snapshot.specs.StopsOpening.{Leaves, MayOpen, MayPrepareAll}
use Rattle.snapshot.specs.Opening.{ChangesFront, IsOpenedAs, prepared}
use Rattle.sector.specs.declared.refusal.Refusal.TheVariants.{Io as IoRefusal}
use Rattle.whole_commands.specs.Attaching.{done, refuse}
use Rattle.whole_commands.specs.Devices.{Device}
use Rattle.snapshot.specs.Attaching.{device_of, writes_by}
use Rattle.snapshot.proofs.Loads.{origin_goes}
use Rattle.snapshot.proofs.Leaves.{leaves_same, leaves_then, may_open}
use Rattle.snapshot.proofs.Openings.{shows, opened_origin, opened_copying, opened_is}
use Rattle.snapshot.proofs.StopsOpened.{opened_valid, stopped_back}
use Rattle.snapshot.proofs.opening.open_snapshot.Goals as goal

pub returns-in-Ok-prepare_all-clause-opened : goal.returns-in-Ok-prepare_all-clause-opened
returns-in-Ok-prepare_all-clause-opened g c =
    let e = c.in-Ok-prepare_all.ensures in
    let given = c.prepare_all.new.store.given in
    opened_is g.B.Block.contents g.B.Block.layers c.args.number c.args.chunk (g.B.Block.size c.args.origin.now) (g.B.Block.size c.args.store.device) c.args.overflow c.args.store.device c.prepare_all.new.store.device c.in-Ok.store.state c.prepare_all.new.store.state
    c.prepare_all.new.store.places.next (committed c.prepare_all.new.store.exceptions) c.over.result c.over.ensures.fields (e.state ∙ ap (λ (ps : List Pair). record c.in-Ok.store.state { left = Nothing; sure = length ps; awaits = false }) (sym (ap committed e.exceptions)))
    (subst (λ (ps : List Pair). IsOpenedAs c.args.chunk (g.B.Block.size c.args.origin.now) (g.B.Block.size c.args.store.device) (g.B.Block.contents c.args.store.device) c.in-Ok.store.state ps) (sym (ap committed e.exceptions)) c.in-Ok.ensures.opened)
    (subst (λ (ps : List Pair). IsNextPlace c.prepare_all.new.store.state.chunk (map new_of ps) c.prepare_all.new.store.places.next)
    (ap (λ qs. committed c.prepare_all.new.store.exceptions ++ pairs qs) (ap pending e.exceptions ∙ c.in-Ok.ensures.pending) ∙ append-nil (committed c.prepare_all.new.store.exceptions))
    (given.least (ap (λ (t : State). t.copying) e.state ∙ opened_copying c.args.chunk (g.B.Block.size c.args.origin.now) (g.B.Block.size c.args.store.device) (g.B.Block.contents c.args.store.device) c.in-Ok.store.state (committed c.in-Ok.store.exceptions) c.in-Ok.ensures.opened)))
    (λ loud. e.written (c.in-Ok.ensures.loud ∙ loud) ∙ ap (prepared c.in-Ok.store.state.left c.in-Ok.store.state) c.in-Ok.ensures.contents)

pub returns-in-Ok-prepare_all-clause-new : goal.returns-in-Ok-prepare_all-clause-new
returns-in-Ok-prepare_all-clause-new g c = λ origin len.
    c.over.ensures.new origin (len ∙ ap (λ n. 512 * n) (sym (ap (λ (t : State). t.origin) c.in-Ok-prepare_all.ensures.state
    ∙ opened_origin c.args.chunk (g.B.Block.size c.args.origin.now) (g.B.Block.size c.args.store.device) (g.B.Block.contents c.args.store.device) c.in-Ok.store.state (committed c.in-Ok.store.exceptions) c.in-Ok.ensures.opened)))

pub returns-in-Ok-prepare_all-clause-shown : goal.returns-in-Ok-prepare_all-clause-shown
returns-in-Ok-prepare_all-clause-shown g c = λ loud origin.
    let bytes = g.B.Block.contents c.args.store.device in
    let loaded = c.in-Ok.store.state in
    let ps = committed c.in-Ok.store.exceptions in
    let after = c.prepare_all.new.store in
    let bytes' = g.B.Block.contents c.prepare_all.new.store.device in
    let e = c.in-Ok-prepare_all.ensures in
    let chunk : c.prepare_all.new.store.state.chunk ≡ c.in-Ok.store.state.chunk = ap (λ (t : State). t.chunk) e.state in
    let loud' : is_loud (g.B.Block.layers c.prepare_all.new.store.device) ≡ true = e.loud ∙ c.in-Ok.ensures.loud ∙ loud in
    let stored = c.prepare_all.new.store.stored loud' in
    let listed : pairs_of c.in-Ok.store.state.chunk bytes' ≡ committed c.in-Ok.store.exceptions =
    ap (λ n. pairs_of n bytes') (sym chunk) ∙ stored.listed (ap (λ (t : State). is_begun t.left) e.state) ∙ ap committed e.exceptions in
    let only = subst (λ (b : List ℕ). ChangesFront c.in-Ok.store.state.chunk c.in-Ok.store.state.current b bytes') c.in-Ok.ensures.contents e.only in
    let is = shows c.args.chunk (g.B.Block.size c.args.origin.now) (g.B.Block.size c.args.store.device) c.in-Ok.store.state.current bytes bytes' loaded ps c.in-Ok.store.front.some c.in-Ok.ensures.opened only listed origin in
    ap (λ (s : Kept g.row.B.Denot). picture s.state.chunk origin (g.B.Block.contents s.device)) c.over.ensures.fields ∙ ap (λ n. picture n origin bytes') chunk ∙ is

pub returns-in-Err-prepare_all-clause-back : goal.returns-in-Err-prepare_all-clause-back
returns-in-Err-prepare_all-clause-back g c =
    let old = g.B.Block.contents c.args.store.device in
    let new = g.B.Block.contents c.into_device-device-in-Err-prepare_all.result in
    let now : new ≡ g.B.Block.contents c.prepare_all.new.store.device = ap g.B.Block.contents c.into_device-device-in-Err-prepare_all.ensures in
    stopped_back c.args.chunk (g.B.Block.size c.args.origin.now) (g.B.Block.size c.args.store.device) old (g.B.Block.contents c.in-Ok.store.device) (g.B.Block.contents c.prepare_all.new.store.device) new c.in-Ok.store.state (committed c.in-Ok.store.exceptions)
    c.in-Ok.ensures.opened c.in-Ok.ensures.contents now c.prepare_all.ensures.only

pub returns-in-Ok-prepare_all-clause-rest : goal.returns-in-Ok-prepare_all-clause-rest
returns-in-Ok-prepare_all-clause-rest g c = λ loud.
    let t = c.prepare_all.new.store in
    let e = c.in-Ok-prepare_all.ensures in
    let loud' : is_loud (g.B.Block.layers t.device) ≡ true = e.loud ∙ c.in-Ok.ensures.loud ∙ loud in
    let is = rest_of t.state.chunk t.state.current t.state.filled (length (committed t.exceptions)) (g.B.Block.contents t.device) t.area.bytes.items t.front.some ((t.stored loud').here (ap (λ (x : State). is_settled x.left) e.state)) t.front.empty t.front.count in
    subst (λ (x : Kept g.row.B.Denot). (k : ℕ) → length x.pairs ≤ k → k < (x.state.current + 1) * (32 * x.state.chunk) → (slot x.state.chunk (g.B.Block.contents x.device) k).new ≡ 0) (sym c.over.ensures.fields) is

pub returns-in-Err-clause-leaves : goal.returns-in-Err-clause-leaves
returns-in-Err-clause-leaves g c = λ loud.
    let d = c.args.store.device in
    leaves_same (g.B.Block.may_hold d) (g.B.Block.may_hold c.in-Err.device) (g.B.Block.contents d) (g.B.Block.contents c.in-Err.device) (g.B.Block.size d) _ (g.met.B.Block.holds_now d) c.in-Err.ensures.contents c.in-Err.ensures.adds

pub returns-in-Err-flush_origin-clause-leaves : goal.returns-in-Err-flush_origin-clause-leaves
returns-in-Err-flush_origin-clause-leaves g c = λ loud.
    let d = c.args.store.device in
    let m = c.in-Ok.store.device in
    let such : List ℕ → Type 0 = MayOpen c.args.chunk (g.B.Block.size c.args.origin.now) (g.B.Block.size d) (g.B.Block.contents d) (found_in (sector_at (g.B.Block.contents d) 0)) in
    subst (λ (x : g.row.B.Denot). Leaves (g.B.Block.may_hold d) (g.B.Block.may_hold x) (g.B.Block.size d) such) (sym c.into_device-device.ensures)
    (leaves_same (g.B.Block.may_hold d) (g.B.Block.may_hold m) (g.B.Block.contents d) (g.B.Block.contents m) (g.B.Block.size d) such (g.met.B.Block.holds_now d) c.in-Ok.ensures.contents c.in-Ok.ensures.adds)

pub returns-in-Ok-prepare_all-clause-leaves : goal.returns-in-Ok-prepare_all-clause-leaves
returns-in-Ok-prepare_all-clause-leaves g c = λ loud.
    let d = c.args.store.device in
    let m = c.in-Ok.store.device in
    let n = c.prepare_all.new.store.device in
    let s = c.in-Ok.store.state in
    let ps = committed c.in-Ok.store.exceptions in
    let old = g.B.Block.contents d in
    let sectors = g.B.Block.size c.args.origin.now in
    let opened = c.in-Ok.ensures.opened in
    let size : s.size ≡ g.B.Block.size d = c.in-Ok.store.size ∙ c.in-Ok.ensures.size in
    let such : List ℕ → Type 0 = MayOpen c.args.chunk sectors (g.B.Block.size d) old (found_in (sector_at old 0)) in
    let before = leaves_same (g.B.Block.may_hold d) (g.B.Block.may_hold m) old (g.B.Block.contents m) (g.B.Block.size d) such (g.met.B.Block.holds_now d) c.in-Ok.ensures.contents c.in-Ok.ensures.adds in
    let loads = subst (λ (k : ℕ). Leaves (g.B.Block.may_hold m) (g.B.Block.may_hold n) k (MayPrepareAll s.left s.chunk s.origin s.size ps)) size (c.prepare_all.ensures.leaves (opened_valid c.args.chunk sectors (g.B.Block.size d) old s ps opened) (c.in-Ok.ensures.loud ∙ loud)) in
    subst (λ (x : Kept g.row.B.Denot). Leaves (g.B.Block.may_hold d) (g.B.Block.may_hold x.device) (g.B.Block.size d) such) (sym c.over.ensures.fields)
    (leaves_then (g.B.Block.may_hold d) (g.B.Block.may_hold m) (g.B.Block.may_hold n) (g.B.Block.size d) such (MayPrepareAll s.left s.chunk s.origin s.size ps) such before loads (λ b is. is) (λ b is. may_open c.args.chunk sectors (g.B.Block.size d) old s ps b opened is))

pub returns-in-Err-prepare_all-clause-leaves : goal.returns-in-Err-prepare_all-clause-leaves
returns-in-Err-prepare_all-clause-leaves g c = λ loud.
    let d = c.args.store.device in
    let m = c.in-Ok.store.device in
    let n = c.prepare_all.new.store.device in
    let s = c.in-Ok.store.state in
    let ps = committed c.in-Ok.store.exceptions in
    let old = g.B.Block.contents d in
    let sectors = g.B.Block.size c.args.origin.now in
    let opened = c.in-Ok.ensures.opened in
    let size : s.size ≡ g.B.Block.size d = c.in-Ok.store.size ∙ c.in-Ok.ensures.size in
    let such : List ℕ → Type 0 = MayOpen c.args.chunk sectors (g.B.Block.size d) old (found_in (sector_at old 0)) in
    let before = leaves_same (g.B.Block.may_hold d) (g.B.Block.may_hold m) old (g.B.Block.contents m) (g.B.Block.size d) such (g.met.B.Block.holds_now d) c.in-Ok.ensures.contents c.in-Ok.ensures.adds in
    let loads = subst (λ (k : ℕ). Leaves (g.B.Block.may_hold m) (g.B.Block.may_hold n) k (MayPrepareAll s.left s.chunk s.origin s.size ps)) size (c.prepare_all.ensures.leaves (opened_valid c.args.chunk sectors (g.B.Block.size d) old s ps opened) (c.in-Ok.ensures.loud ∙ loud)) in
    subst (λ (x : g.row.B.Denot). Leaves (g.B.Block.may_hold d) (g.B.Block.may_hold x) (g.B.Block.size d) such) (sym c.into_device-device-in-Err-prepare_all.ensures)
    (leaves_then (g.B.Block.may_hold d) (g.B.Block.may_hold m) (g.B.Block.may_hold n) (g.B.Block.size d) such (MayPrepareAll s.left s.chunk s.origin s.size ps) such before loads (λ b is. is) (λ b is. may_open c.args.chunk sectors (g.B.Block.size d) old s ps b opened is))

pub returns-in-Ok-prepare_all-clause-exact : goal.returns-in-Ok-prepare_all-clause-exact
returns-in-Ok-prepare_all-clause-exact g c = λ loud.
    let o = c.args.origin.now in
    let p = c.flush_origin.new.origin in
    let m = c.in-Ok.store in
    let n = c.prepare_all.new.store in
    let at : g.row.B.Denot → Device = device_of g.B.Block.contents g.B.Block.layers in
    let flushed = c.in-Ok-flush_origin.ensures.flushed in
    let first = origin_goes (g.B.Block.contents o) (g.B.Block.contents p) (g.B.Block.layers o) (g.B.Block.layers p) _ _ _ _ (at m.device) (writes_by m.state.left m.state) flushed.operation flushed.same in
    let chunk : n.state.chunk ≡ m.state.chunk = ap (λ (t : State). t.chunk) c.in-Ok-prepare_all.ensures.state in
    c.in-Ok.ensures.exact ∙ first ∙ c.in-Ok-prepare_all.ensures.operations (c.in-Ok.ensures.loud ∙ loud) (at p) ∙ ap (λ k. done k (at p) (at n.device)) (sym chunk) ∙ ap (λ (x : Kept g.row.B.Denot). done x.state.chunk (at p) (at x.device)) (sym c.over.ensures.fields)

pub returns-in-Err-prepare_all-clause-given_back : goal.returns-in-Err-prepare_all-clause-given_back
returns-in-Err-prepare_all-clause-given_back g c = λ fed loud.
    let o = c.args.origin.now in
    let p = c.flush_origin.new.origin in
    let m = c.in-Ok.store in
    let n = c.prepare_all.new.store in
    let at : g.row.B.Denot → Device = device_of g.B.Block.contents g.B.Block.layers in
    let flushed = c.in-Ok-flush_origin.ensures.flushed in
    let first = origin_goes (g.B.Block.contents o) (g.B.Block.contents p) (g.B.Block.layers o) (g.B.Block.layers p) _ _ _ _ (at m.device) (writes_by m.state.left m.state) flushed.operation flushed.same in
    c.in-Ok.ensures.exact ∙ first ∙ c.in-Err-prepare_all.ensures.operations (c.in-Ok.ensures.loud ∙ loud) (at p) ∙ ap (λ (x : g.row.B.Denot). refuse IoRefusal (at p) (at x)) (sym c.into_device-device-in-Err-prepare_all.ensures)
