-- A load goes operation by operation as `whole_commands` has it, and stops as its writes do.
use Rattle.std.proofs.Common.{◌≡◌, ◌∙◌, ap, subst, sym, true, false}
use Rattle.std.proofs.lemmas.Bool.{cond-true}
use Rattle.device.specs.Layers.{is_loud}
use Rattle.store.specs.Held.{committed}
use Rattle.store.specs.Loading.{after_write, is_left}
use Rattle.store.specs.Stopping.{MayPrepare}
use Rattle.store.specs.declared.state.State.{State}
use Rattle.whole_commands.specs.Attaching.{done}
use Rattle.snapshot.specs.Attaching.{device_of}
use Rattle.snapshot.specs.StopsOpening.{Leaves, MayPrepareAll}
use Rattle.snapshot.proofs.Loads.{flush_goes, flush_stays, front_like, front_more, front_of, prepared_is, then_by, then_last, then_next, then_none}
use Rattle.snapshot.proofs.Leaves.{all_first, all_last, all_next, leaves_as, leaves_next, leaves_one, leaves_then}
use Rattle.snapshot.proofs.opening.prepare_all.Goals as goal

pub returns-in-Err-clause-operations : goal.returns-in-Err-clause-operations
returns-in-Err-clause-operations g c = λ loud origin.
    let s = c.args.store.now in
    prepared_is s.state.left s.state origin (device_of g.B.Block.contents g.B.Block.layers s.device) ∙ c.in-Err.ensures.operations loud origin (then_by s.state.left s.state origin)

pub returns-in-Err-clause-only : goal.returns-in-Err-clause-only
returns-in-Err-clause-only g c = front_of c.args.store.now.state.left c.args.store.now.state (g.B.Block.contents c.args.store.now.device) (g.B.Block.contents c.prepare_next.new.store.device) c.prepare_next.ensures.only

pub returns-then-not-more-clause-operations : goal.returns-then-not-more-clause-operations
returns-then-not-more-clause-operations g c = λ loud origin.
    let s = c.args.store.now in
    let n = c.prepare_next.new.store in
    let none : is_left s.state.left ≡ false = sym c.in-Ok.ensures.more ∙ c.if-not-more.true in
    prepared_is s.state.left s.state origin (device_of g.B.Block.contents g.B.Block.layers s.device) ∙ c.in-Ok.ensures.operations loud origin (then_by s.state.left s.state origin)
    ∙ then_none s.state.left s.state origin (device_of g.B.Block.contents g.B.Block.layers n.device) none

pub returns-in-Err-prepare_next-clause-operations : goal.returns-in-Err-prepare_next-clause-operations
returns-in-Err-prepare_next-clause-operations g c = λ loud origin.
    let s = c.args.store.now in
    let n = c.prepare_next.new.store in
    let loud' : is_loud (g.B.Block.layers n.device) ≡ true = c.prepare_next.ensures.loud ∙ loud in
    let some : is_left s.state.left ≡ true = sym c.in-Ok.ensures.more ∙ c.if-not-more.false in
    prepared_is s.state.left s.state origin (device_of g.B.Block.contents g.B.Block.layers s.device) ∙ c.in-Ok.ensures.operations loud origin (then_by s.state.left s.state origin)
    ∙ then_next s.state n.state _ origin (device_of g.B.Block.contents g.B.Block.layers n.device) c.in-Ok.ensures.state some
    ∙ c.in-Err-prepare_next.ensures.operations loud' origin (then_by n.state.left n.state origin)

pub returns-in-Err-prepare_next-clause-only : goal.returns-in-Err-prepare_next-clause-only
returns-in-Err-prepare_next-clause-only g c =
    let s = c.args.store.now in
    let n = c.prepare_next.new.store in
    let old = g.B.Block.contents s.device in
    let mid = g.B.Block.contents n.device in
    let new = g.B.Block.contents c.prepare_next-2.new.store.device in
    front_more s.state.chunk s.state.current old mid new (front_of s.state.left s.state old mid c.prepare_next.ensures.only)
    (front_like s.state n.state _ mid new c.in-Ok.ensures.state (front_of n.state.left n.state mid new c.prepare_next-2.ensures.only))

pub returns-then-not-again-clause-only : goal.returns-then-not-again-clause-only
returns-then-not-again-clause-only g c =
    let s = c.args.store.now in
    let n = c.prepare_next.new.store in
    let old = g.B.Block.contents s.device in
    let mid = g.B.Block.contents n.device in
    let new = g.B.Block.contents c.prepare_next-2.new.store.device in
    front_more s.state.chunk s.state.current old mid new (front_of s.state.left s.state old mid c.prepare_next.ensures.only)
    (front_like s.state n.state _ mid new c.in-Ok.ensures.state (front_of n.state.left n.state mid new c.prepare_next-2.ensures.only))

pub returns-then-not-again-clause-operations : goal.returns-then-not-again-clause-operations
returns-then-not-again-clause-operations g c = λ loud origin.
    let s = c.args.store.now in
    let n = c.prepare_next.new.store in
    let m = c.prepare_next-2.new.store in
    let loud' : is_loud (g.B.Block.layers n.device) ≡ true = c.prepare_next.ensures.loud ∙ loud in
    let some : is_left s.state.left ≡ true = sym c.in-Ok.ensures.more ∙ c.if-not-more.false in
    let none : is_left n.state.left ≡ false = sym c.in-Ok-prepare_next.ensures.more ∙ c.if-not-again.true in
    prepared_is s.state.left s.state origin (device_of g.B.Block.contents g.B.Block.layers s.device) ∙ c.in-Ok.ensures.operations loud origin (then_by s.state.left s.state origin)
    ∙ then_next s.state n.state _ origin (device_of g.B.Block.contents g.B.Block.layers n.device) c.in-Ok.ensures.state some
    ∙ c.in-Ok-prepare_next.ensures.operations loud' origin (then_by n.state.left n.state origin)
    ∙ then_none n.state.left n.state origin (device_of g.B.Block.contents g.B.Block.layers m.device) none ∙ ap (λ (x : State). done x.chunk origin (device_of g.B.Block.contents g.B.Block.layers m.device)) c.in-Ok.ensures.state

pub returns-in-Ok-prepare-clause-operations : goal.returns-in-Ok-prepare-clause-operations
returns-in-Ok-prepare-clause-operations g c = λ loud origin.
    let s = c.args.store.now in
    let n = c.prepare_next.new.store in
    let m = c.prepare_next-2.new.store in
    let t = c.prepare.new.self in
    let loud' : is_loud (g.B.Block.layers n.device) ≡ true = c.prepare_next.ensures.loud ∙ loud in
    let loud'' : is_loud (g.B.Block.layers m.device) ≡ true = c.prepare_next-2.ensures.loud ∙ loud' in
    let some : is_left s.state.left ≡ true = sym c.in-Ok.ensures.more ∙ c.if-not-more.false in
    let more : is_left n.state.left ≡ true = sym c.in-Ok-prepare_next.ensures.more ∙ c.if-not-again.false in
    let waits : m.state.awaits ≡ true = ap (λ (x : State). x.awaits) c.in-Ok-prepare_next.ensures.state ∙ more in
    prepared_is s.state.left s.state origin (device_of g.B.Block.contents g.B.Block.layers s.device) ∙ c.in-Ok.ensures.operations loud origin (then_by s.state.left s.state origin)
    ∙ then_next s.state n.state _ origin (device_of g.B.Block.contents g.B.Block.layers n.device) c.in-Ok.ensures.state some
    ∙ c.in-Ok-prepare_next.ensures.operations loud' origin (then_by n.state.left n.state origin)
    ∙ then_last s.state n.state _ origin (device_of g.B.Block.contents g.B.Block.layers m.device) c.in-Ok.ensures.state more
    ∙ flush_goes origin (g.B.Block.contents m.device) (g.B.Block.contents t.device) (g.B.Block.layers m.device) (g.B.Block.layers t.device) _ _ _ _ (done s.state.chunk origin) (c.in-Ok-prepare.ensures.flushes waits) (c.in-Ok-prepare.ensures.written loud'' ∙ cond-true _ _ _ waits)

pub returns-in-Err-prepare-clause-operations : goal.returns-in-Err-prepare-clause-operations
returns-in-Err-prepare-clause-operations g c = λ loud origin.
    let s = c.args.store.now in
    let n = c.prepare_next.new.store in
    let m = c.prepare_next-2.new.store in
    let t = c.prepare.new.self in
    let loud' : is_loud (g.B.Block.layers n.device) ≡ true = c.prepare_next.ensures.loud ∙ loud in
    let some : is_left s.state.left ≡ true = sym c.in-Ok.ensures.more ∙ c.if-not-more.false in
    let more : is_left n.state.left ≡ true = sym c.in-Ok-prepare_next.ensures.more ∙ c.if-not-again.false in
    let waits : m.state.awaits ≡ true = ap (λ (x : State). x.awaits) c.in-Ok-prepare_next.ensures.state ∙ more in
    prepared_is s.state.left s.state origin (device_of g.B.Block.contents g.B.Block.layers s.device) ∙ c.in-Ok.ensures.operations loud origin (then_by s.state.left s.state origin)
    ∙ then_next s.state n.state _ origin (device_of g.B.Block.contents g.B.Block.layers n.device) c.in-Ok.ensures.state some
    ∙ c.in-Ok-prepare_next.ensures.operations loud' origin (then_by n.state.left n.state origin)
    ∙ then_last s.state n.state _ origin (device_of g.B.Block.contents g.B.Block.layers m.device) c.in-Ok.ensures.state more
    ∙ flush_stays origin (g.B.Block.contents m.device) (g.B.Block.contents t.device) (g.B.Block.layers m.device) (g.B.Block.layers t.device) _ _ _ _ (done s.state.chunk origin) (c.in-Err-prepare.ensures.flushes waits) c.in-Err-prepare.ensures.same

pub returns-in-Ok-prepare-clause-firm : goal.returns-in-Ok-prepare-clause-firm
returns-in-Ok-prepare-clause-firm g c = λ loud.
    let n = c.prepare_next.new.store in
    let m = c.prepare_next-2.new.store in
    let loud' : is_loud (g.B.Block.layers n.device) ≡ true = c.prepare_next.ensures.loud ∙ loud in
    let loud'' : is_loud (g.B.Block.layers m.device) ≡ true = c.prepare_next-2.ensures.loud ∙ loud' in
    let more : is_left n.state.left ≡ true = sym c.in-Ok-prepare_next.ensures.more ∙ c.if-not-again.false in
    let waits : m.state.awaits ≡ true = ap (λ (x : State). x.awaits) c.in-Ok-prepare_next.ensures.state ∙ more in
    c.in-Ok-prepare.ensures.firm waits loud''

pub returns-in-Err-clause-leaves : goal.returns-in-Err-clause-leaves
returns-in-Err-clause-leaves g c = λ valid loud.
    let s = c.args.store.now in
    let n = c.prepare_next.new.store in
    let ps = committed s.exceptions in
    let start = all_first s.state.left s.state.chunk s.state.origin s.state.size ps in
    let one = c.prepare_next.ensures.leaves valid loud in
    leaves_as (g.B.Block.may_hold s.device) (g.B.Block.may_hold n.device) s.state.size (MayPrepare s.state.left s.state.chunk s.state.origin s.state.size ps) (MayPrepareAll s.state.left s.state.chunk s.state.origin s.state.size ps) one start

pub returns-then-not-more-clause-leaves : goal.returns-then-not-more-clause-leaves
returns-then-not-more-clause-leaves g c = λ valid loud.
    let s = c.args.store.now in
    let n = c.prepare_next.new.store in
    let ps = committed s.exceptions in
    let start = all_first s.state.left s.state.chunk s.state.origin s.state.size ps in
    let one = c.prepare_next.ensures.leaves valid loud in
    leaves_as (g.B.Block.may_hold s.device) (g.B.Block.may_hold n.device) s.state.size (MayPrepare s.state.left s.state.chunk s.state.origin s.state.size ps) (MayPrepareAll s.state.left s.state.chunk s.state.origin s.state.size ps) one start

pub returns-in-Err-prepare_next-clause-leaves : goal.returns-in-Err-prepare_next-clause-leaves
returns-in-Err-prepare_next-clause-leaves g c = λ valid loud.
    let s = c.args.store.now in
    let n = c.prepare_next.new.store in
    let ps = committed s.exceptions in
    let start = all_first s.state.left s.state.chunk s.state.origin s.state.size ps in
    let one = c.prepare_next.ensures.leaves valid loud in
    let m = c.prepare_next-2.new.store in
    let next = all_next s.state.left s.state.chunk s.state.origin s.state.size ps in
    let loud' : is_loud (g.B.Block.layers n.device) ≡ true = c.prepare_next.ensures.loud ∙ loud in
    let same : committed n.exceptions ≡ ps = ap committed c.prepare_next.ensures.exceptions in
    let two = leaves_next (g.B.Block.may_hold n.device) (g.B.Block.may_hold m.device) s.state n.state _ ps (committed n.exceptions) c.in-Ok.ensures.state same (c.prepare_next-2.ensures.leaves (ap (λ (x : State). x.valid) c.in-Ok.ensures.state ∙ valid) loud') in
    let both = leaves_then (g.B.Block.may_hold s.device) (g.B.Block.may_hold n.device) (g.B.Block.may_hold m.device) s.state.size (MayPrepare s.state.left s.state.chunk s.state.origin s.state.size ps) (MayPrepare (after_write s.state.left) s.state.chunk s.state.origin s.state.size ps) (MayPrepareAll s.state.left s.state.chunk s.state.origin s.state.size ps) one two start next in
    both

pub returns-then-not-again-clause-leaves : goal.returns-then-not-again-clause-leaves
returns-then-not-again-clause-leaves g c = λ valid loud.
    let s = c.args.store.now in
    let n = c.prepare_next.new.store in
    let ps = committed s.exceptions in
    let start = all_first s.state.left s.state.chunk s.state.origin s.state.size ps in
    let one = c.prepare_next.ensures.leaves valid loud in
    let m = c.prepare_next-2.new.store in
    let next = all_next s.state.left s.state.chunk s.state.origin s.state.size ps in
    let loud' : is_loud (g.B.Block.layers n.device) ≡ true = c.prepare_next.ensures.loud ∙ loud in
    let same : committed n.exceptions ≡ ps = ap committed c.prepare_next.ensures.exceptions in
    let two = leaves_next (g.B.Block.may_hold n.device) (g.B.Block.may_hold m.device) s.state n.state _ ps (committed n.exceptions) c.in-Ok.ensures.state same (c.prepare_next-2.ensures.leaves (ap (λ (x : State). x.valid) c.in-Ok.ensures.state ∙ valid) loud') in
    let both = leaves_then (g.B.Block.may_hold s.device) (g.B.Block.may_hold n.device) (g.B.Block.may_hold m.device) s.state.size (MayPrepare s.state.left s.state.chunk s.state.origin s.state.size ps) (MayPrepare (after_write s.state.left) s.state.chunk s.state.origin s.state.size ps) (MayPrepareAll s.state.left s.state.chunk s.state.origin s.state.size ps) one two start next in
    both

pub returns-in-Ok-prepare-clause-leaves : goal.returns-in-Ok-prepare-clause-leaves
returns-in-Ok-prepare-clause-leaves g c = λ valid loud.
    let s = c.args.store.now in
    let n = c.prepare_next.new.store in
    let ps = committed s.exceptions in
    let start = all_first s.state.left s.state.chunk s.state.origin s.state.size ps in
    let one = c.prepare_next.ensures.leaves valid loud in
    let m = c.prepare_next-2.new.store in
    let next = all_next s.state.left s.state.chunk s.state.origin s.state.size ps in
    let loud' : is_loud (g.B.Block.layers n.device) ≡ true = c.prepare_next.ensures.loud ∙ loud in
    let same : committed n.exceptions ≡ ps = ap committed c.prepare_next.ensures.exceptions in
    let two = leaves_next (g.B.Block.may_hold n.device) (g.B.Block.may_hold m.device) s.state n.state _ ps (committed n.exceptions) c.in-Ok.ensures.state same (c.prepare_next-2.ensures.leaves (ap (λ (x : State). x.valid) c.in-Ok.ensures.state ∙ valid) loud') in
    let both = leaves_then (g.B.Block.may_hold s.device) (g.B.Block.may_hold n.device) (g.B.Block.may_hold m.device) s.state.size (MayPrepare s.state.left s.state.chunk s.state.origin s.state.size ps) (MayPrepare (after_write s.state.left) s.state.chunk s.state.origin s.state.size ps) (MayPrepareAll s.state.left s.state.chunk s.state.origin s.state.size ps) one two start next in
    let t = c.prepare.new.self in
    let end = all_last s.state.left s.state.chunk s.state.origin s.state.size ps in
    let loud'' : is_loud (g.B.Block.layers m.device) ≡ true = c.prepare_next-2.ensures.loud ∙ loud' in
    let held : committed m.exceptions ≡ committed n.exceptions = ap committed c.prepare_next-2.ensures.exceptions in
    let three = leaves_one (g.B.Block.may_hold m.device) (g.B.Block.may_hold t.device) m.state.left m.state.chunk m.state.origin m.state.size (committed m.exceptions) (c.prepare.ensures.leaves (ap (λ (x : State). x.valid) c.in-Ok-prepare_next.ensures.state ∙ ap (λ (x : State). x.valid) c.in-Ok.ensures.state ∙ valid) loud'') in
    let back = leaves_next (g.B.Block.may_hold m.device) (g.B.Block.may_hold t.device) n.state m.state _ (committed n.exceptions) (committed m.exceptions) c.in-Ok-prepare_next.ensures.state held three in
    let first : Leaves (g.B.Block.may_hold m.device) (g.B.Block.may_hold t.device) s.state.size (MayPrepare (after_write (after_write s.state.left)) s.state.chunk s.state.origin s.state.size ps) =
    subst (λ (x : State). Leaves (g.B.Block.may_hold m.device) (g.B.Block.may_hold t.device) x.size (MayPrepare (after_write x.left) x.chunk x.origin x.size ps)) c.in-Ok.ensures.state (subst (λ xs. Leaves (g.B.Block.may_hold m.device) (g.B.Block.may_hold t.device) n.state.size (MayPrepare (after_write n.state.left) n.state.chunk n.state.origin n.state.size xs)) same back) in
    leaves_then (g.B.Block.may_hold s.device) (g.B.Block.may_hold m.device) (g.B.Block.may_hold t.device) s.state.size (MayPrepareAll s.state.left s.state.chunk s.state.origin s.state.size ps) (MayPrepare (after_write (after_write s.state.left)) s.state.chunk s.state.origin s.state.size ps) (MayPrepareAll s.state.left s.state.chunk s.state.origin s.state.size ps) both first (λ b is. is) end

pub returns-in-Err-prepare-clause-leaves : goal.returns-in-Err-prepare-clause-leaves
returns-in-Err-prepare-clause-leaves g c = λ valid loud.
    let s = c.args.store.now in
    let n = c.prepare_next.new.store in
    let ps = committed s.exceptions in
    let start = all_first s.state.left s.state.chunk s.state.origin s.state.size ps in
    let one = c.prepare_next.ensures.leaves valid loud in
    let m = c.prepare_next-2.new.store in
    let next = all_next s.state.left s.state.chunk s.state.origin s.state.size ps in
    let loud' : is_loud (g.B.Block.layers n.device) ≡ true = c.prepare_next.ensures.loud ∙ loud in
    let same : committed n.exceptions ≡ ps = ap committed c.prepare_next.ensures.exceptions in
    let two = leaves_next (g.B.Block.may_hold n.device) (g.B.Block.may_hold m.device) s.state n.state _ ps (committed n.exceptions) c.in-Ok.ensures.state same (c.prepare_next-2.ensures.leaves (ap (λ (x : State). x.valid) c.in-Ok.ensures.state ∙ valid) loud') in
    let both = leaves_then (g.B.Block.may_hold s.device) (g.B.Block.may_hold n.device) (g.B.Block.may_hold m.device) s.state.size (MayPrepare s.state.left s.state.chunk s.state.origin s.state.size ps) (MayPrepare (after_write s.state.left) s.state.chunk s.state.origin s.state.size ps) (MayPrepareAll s.state.left s.state.chunk s.state.origin s.state.size ps) one two start next in
    let t = c.prepare.new.self in
    let end = all_last s.state.left s.state.chunk s.state.origin s.state.size ps in
    let loud'' : is_loud (g.B.Block.layers m.device) ≡ true = c.prepare_next-2.ensures.loud ∙ loud' in
    let held : committed m.exceptions ≡ committed n.exceptions = ap committed c.prepare_next-2.ensures.exceptions in
    let three = leaves_one (g.B.Block.may_hold m.device) (g.B.Block.may_hold t.device) m.state.left m.state.chunk m.state.origin m.state.size (committed m.exceptions) (c.prepare.ensures.leaves (ap (λ (x : State). x.valid) c.in-Ok-prepare_next.ensures.state ∙ ap (λ (x : State). x.valid) c.in-Ok.ensures.state ∙ valid) loud'') in
    let back = leaves_next (g.B.Block.may_hold m.device) (g.B.Block.may_hold t.device) n.state m.state _ (committed n.exceptions) (committed m.exceptions) c.in-Ok-prepare_next.ensures.state held three in
    let first : Leaves (g.B.Block.may_hold m.device) (g.B.Block.may_hold t.device) s.state.size (MayPrepare (after_write (after_write s.state.left)) s.state.chunk s.state.origin s.state.size ps) =
    subst (λ (x : State). Leaves (g.B.Block.may_hold m.device) (g.B.Block.may_hold t.device) x.size (MayPrepare (after_write x.left) x.chunk x.origin x.size ps)) c.in-Ok.ensures.state (subst (λ xs. Leaves (g.B.Block.may_hold m.device) (g.B.Block.may_hold t.device) n.state.size (MayPrepare (after_write n.state.left) n.state.chunk n.state.origin n.state.size xs)) same back) in
    leaves_then (g.B.Block.may_hold s.device) (g.B.Block.may_hold m.device) (g.B.Block.may_hold t.device) s.state.size (MayPrepareAll s.state.left s.state.chunk s.state.origin s.state.size ps) (MayPrepare (after_write (after_write s.state.left)) s.state.chunk s.state.origin s.state.size ps) (MayPrepareAll s.state.left s.state.chunk s.state.origin s.state.size ps) both first (λ b is. is) end
