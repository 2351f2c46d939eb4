-- Where it copies, each chunk was read and written by a step; else nothing changed.
use Rattle.std.proofs.Common.{◌≡◌, ap, sym, ◌∙◌, subst, inl, inr, true, false, Some}
use Rattle.std.specs.Prelude.{◌==◌, ◌&&◌}
use Rattle.std.proofs.lemmas.Bool.{cases_Bool}
use Rattle.merge.specs.Merging.{Merging}
use Rattle.volume_laws.specs.MergeDue.{is_none}
use Rattle.volume.specs.Copied.{can_copy_to}
use Rattle.volume.specs.Lasting.{IsKept}
use Rattle.volume.specs.Volumed.{Volumed}
use Rattle.volume.proofs.GroupCopies.{all_copied, all_kept, copied_group, group_copies, none_is, none_of}
use Rattle.volume.proofs.volume.Volume.copy_group.Goals as goal

pub returns-then-not-is_empty-clause-answer : goal.returns-then-not-is_empty-clause-answer
returns-then-not-is_empty-clause-answer g c =
    let some : is_none c.self.inside.snaps.items ≡ false = none_is c.self.inside.snaps.items ∙ ap (λ n. n == 0) (sym c.self.inside.snaps.ok.0) ∙ sym c.if-not-is_empty.ensures in
    rw (← c.self.view_is) (sym (ap (λ b. b && (is_none c.self.inside.flights.items && can_copy_to g.B.Block.copies_runs g.B.Block.layers c.self.inside.origin c.self.inside.merge)) some))

pub returns-then-not-is_empty-2-clause-answer : goal.returns-then-not-is_empty-2-clause-answer
returns-then-not-is_empty-2-clause-answer g c =
    let none : is_none c.self.inside.snaps.items ≡ true = none_is c.self.inside.snaps.items ∙ ap (λ n. n == 0) (sym c.self.inside.snaps.ok.0) ∙ sym c.if-not-is_empty.ensures in
    let some : is_none c.self.inside.flights.items ≡ false = none_is c.self.inside.flights.items ∙ ap (λ n. n == 0) (sym c.self.inside.flights.ok.0) ∙ sym c.if-not-is_empty-2.ensures in
    rw (← c.self.view_is) (sym (ap (λ b. b && (is_none c.self.inside.flights.items && can_copy_to g.B.Block.copies_runs g.B.Block.layers c.self.inside.origin c.self.inside.merge)) none ∙ ap (λ b. b && can_copy_to g.B.Block.copies_runs g.B.Block.layers c.self.inside.origin c.self.inside.merge) some))

pub returns-in-None-clause-answer : goal.returns-in-None-clause-answer
returns-in-None-clause-answer g c =
    let none : is_none c.self.inside.snaps.items ≡ true = none_is c.self.inside.snaps.items ∙ ap (λ n. n == 0) (sym c.self.inside.snaps.ok.0) ∙ sym c.if-not-is_empty.ensures in
    let idle : is_none c.self.inside.flights.items ≡ true = none_is c.self.inside.flights.items ∙ ap (λ n. n == 0) (sym c.self.inside.flights.ok.0) ∙ sym c.if-not-is_empty-2.ensures in
    rw (← c.self.view_is) (sym (ap (λ b. b && (is_none c.self.inside.flights.items && can_copy_to g.B.Block.copies_runs g.B.Block.layers c.self.inside.origin c.self.inside.merge)) none ∙ ap (λ b. b && can_copy_to g.B.Block.copies_runs g.B.Block.layers c.self.inside.origin c.self.inside.merge) idle
    ∙ ap (can_copy_to g.B.Block.copies_runs g.B.Block.layers c.self.inside.origin) c.in-None.is))

pub returns-in-Some-clause-answer : goal.returns-in-Some-clause-answer
returns-in-Some-clause-answer g c =
    let none : is_none c.self.inside.snaps.items ≡ true = none_is c.self.inside.snaps.items ∙ ap (λ n. n == 0) (sym c.self.inside.snaps.ok.0) ∙ sym c.if-not-is_empty.ensures in
    let idle : is_none c.self.inside.flights.items ≡ true = none_is c.self.inside.flights.items ∙ ap (λ n. n == 0) (sym c.self.inside.flights.ok.0) ∙ sym c.if-not-is_empty-2.ensures in
    rw (← c.self.view_is) (c.copy_chunks.ensures.answer
    ∙ sym (ap (λ b. b && (is_none c.self.inside.flights.items && can_copy_to g.B.Block.copies_runs g.B.Block.layers c.self.inside.origin c.self.inside.merge)) none ∙ ap (λ b. b && can_copy_to g.B.Block.copies_runs g.B.Block.layers c.self.inside.origin c.self.inside.merge) idle
    ∙ ap (can_copy_to g.B.Block.copies_runs g.B.Block.layers c.self.inside.origin) c.in-Some.is))

pub returns-in-Some-clause-same : goal.returns-in-Some-clause-same
returns-in-Some-clause-same g c =
    let v : Volumed g.row.B.Denot = record { origin = c.self.inside.origin; snaps = c.self.inside.snaps.items; merge = c.self.inside.merge; flights = c.self.inside.flights.items; requests = c.self.inside.requests; copies = c.self.inside.copies; attached = c.self.inside.attached } in
    rw (← c.self.view_is) (λ no.
    (let undone = c.copy_chunks.ensures.undone no in
    ap (λ o. record v { origin = o; merge = Some c.copy_chunks.new.self }) undone.0 ∙ ap (λ m. record v { merge = Some m }) undone.1 ∙ ap (λ m. record v { merge = m }) (sym c.in-Some.is)))

pub invariant_of-self : goal.invariant_of-self
invariant_of-self g c =
    let v : Volumed g.row.B.Denot = record { origin = c.self.inside.origin; snaps = c.self.inside.snaps.items; merge = c.self.inside.merge; flights = c.self.inside.flights.items; requests = c.self.inside.requests; copies = c.self.inside.copies; attached = c.self.inside.attached } in
    let m = c.in-Some.merge in
    let m' = c.copy_chunks.new.self in
    let o = c.copy_chunks.new.origin in
    let snaps = none_of c.self.inside.snaps.items (ap (λ n. n == 0) (sym c.self.inside.snaps.ok.0) ∙ sym c.if-not-is_empty.ensures) in
    let flights = none_of c.self.inside.flights.items (ap (λ n. n == 0) (sym c.self.inside.flights.ok.0) ∙ sym c.if-not-is_empty-2.ensures) in
    elim (cases_Bool c.copy_chunks.result) [
      | inl copied ↦
          (let can = group_copies m.group m.state.chunk m.state.origin g.B.Block.copies_runs (g.B.Block.layers v.origin) (g.B.Block.layers m.device) (sym c.copy_chunks.ensures.answer ∙ copied) in
          let found = copied_group m.group m.state.chunk m.state.origin can.0 in
          all_kept g.B.Block.may_hold g.B.Block.contents g.B.Block.durable g.B.Block.layers g.B.Block.size g.B.Block.fault_count g.B.Block.done_count g.met.B.Block.whole g.met.B.Block.holds_now (g.met.B.Block.holds_two can.1) (g.met.B.Block.has_like can.1)
          v c.self.invariant snaps flights m c.in-Some.is m' o can.0 can.2 can.3 found.0 found.1 (c.copy_chunks.ensures.waits copied found.0 found.1) (c.copy_chunks.ensures.copied copied found.0 found.1) (c.copy_chunks.ensures.fields copied found.0 found.1)
          c.copy_chunks.ensures.same c.copy_chunks.ensures.layers c.copy_chunks.ensures.durable c.copy_chunks.ensures.size c.copy_chunks.ensures.faults (c.copy_chunks.ensures.done copied found.0 found.1))
      | inr left ↦
          (let undone = c.copy_chunks.ensures.undone left in
          subst (IsKept g.B.Block.may_hold g.B.Block.contents g.B.Block.layers g.B.Block.size)
          (sym (ap (λ o. record v { origin = o; merge = Some m' }) undone.0 ∙ ap (λ m. record v { merge = Some m }) undone.1 ∙ ap (λ m. record v { merge = m }) (sym c.in-Some.is))) c.self.invariant)
    ]

pub returns-in-Some-clause-copied : goal.returns-in-Some-clause-copied
returns-in-Some-clause-copied g c =
    let v : Volumed g.row.B.Denot = record { origin = c.self.inside.origin; snaps = c.self.inside.snaps.items; merge = c.self.inside.merge; flights = c.self.inside.flights.items; requests = c.self.inside.requests; copies = c.self.inside.copies; attached = c.self.inside.attached } in
    let m' = c.copy_chunks.new.self in
    let o = c.copy_chunks.new.origin in
    let snaps = none_of c.self.inside.snaps.items (ap (λ n. n == 0) (sym c.self.inside.snaps.ok.0) ∙ sym c.if-not-is_empty.ensures) in
    let flights = none_of c.self.inside.flights.items (ap (λ n. n == 0) (sym c.self.inside.flights.ok.0) ∙ sym c.if-not-is_empty-2.ensures) in
    rw (← c.self.view_is) (λ copied m is h grouped.
    (let this : c.in-Some.merge ≡ m = (let both : Some c.in-Some.merge ≡ Some m = sym c.in-Some.is ∙ is in cc) in
    let here = ap (λ (x : Merging g.row.B.Denot). x.group) this ∙ grouped in
    let was = c.in-Some.merge in
    let can = group_copies was.group was.state.chunk was.state.origin g.B.Block.copies_runs (g.B.Block.layers v.origin) (g.B.Block.layers was.device) (sym c.copy_chunks.ensures.answer ∙ copied) in
    all_copied g.B.Block.may_hold g.B.Block.contents g.B.Block.durable g.B.Block.layers g.B.Block.size g.B.Block.fault_count g.B.Block.done_count g.met.B.Block.whole g.met.B.Block.holds_now (g.met.B.Block.holds_two can.1) (g.met.B.Block.has_like can.1)
    v c.self.invariant snaps flights c.in-Some.merge c.in-Some.is m' o can.0 can.2 can.3 h here (c.copy_chunks.ensures.waits copied h here) (c.copy_chunks.ensures.copied copied h here) (c.copy_chunks.ensures.fields copied h here)
    c.copy_chunks.ensures.same c.copy_chunks.ensures.layers c.copy_chunks.ensures.durable c.copy_chunks.ensures.size c.copy_chunks.ensures.faults (c.copy_chunks.ensures.done copied h here)))
