use Rattle.std.proofs.Common.{List, true, false, ap, subst, refl, ◌≡◌, ◌∙◌, sym, rules}
use Rattle.std.specs.Prelude.{is_ok}
use Rattle.file_calls.specs.Calls.{Call, Sync}
use Rattle.file_calls.specs.Kept.{now_in, MayHold}
use Rattle.file_calls.specs.Laws.{sync_adds_none}
use Rattle.file_device.specs.Layers.{at_first}
use Rattle.file_device.specs.Laws.{loud_before}
use Rattle.file_device.proofs.CallsAhead.{sync_kept}
use Rattle.file_device.specs.Laws.{unbroken}
use Rattle.file_device.proofs.ahead.FileDeviceAhead.sync_ahead.Goals.{then-self, else-self}
use Rattle.file_device.proofs.ahead.FileDeviceAhead.sync_ahead.Goals as goal

pub returns-then-is_err-clause-does : goal.returns-then-is_err-clause-does
returns-then-is_err-clause-does g c =
    let d = c.args.self.now in
    let start = at_first (g.S.Start.first d.number) d.sectors in
    let past : List Call = g.C.FileCalls.history d.file in
    record {
      loud = λ loud. loud_before start (Sync (is_ok c.sync.result) false) past d.is_broken d.pieces (sync_kept start past _ (is_ok c.sync.result) c.sync.ensures.noted true d.pieces loud);
      same = λ loud. ap (now_in start) c.sync.ensures.noted;
      stop = λ loud s' v held. sync_adds_none start past (is_ok c.sync.result) false s' v (subst (λ h. MayHold start h s' v) c.sync.ensures.noted held);
      sized = refl;
      faulty = refl;
      counted = refl;
    }

pub returns-clause-does : goal.returns-clause-does
returns-clause-does g c =
    let d = c.args.self.now in
    let start = at_first (g.S.Start.first d.number) d.sectors in
    let past : List Call = g.C.FileCalls.history d.file in
    record {
      loud = λ loud. loud_before start (Sync (is_ok c.sync.result) false) past d.is_broken d.pieces (sync_kept start past _ (is_ok c.sync.result) c.sync.ensures.noted c.if-self.self d.pieces loud);
      same = λ loud. ap (now_in start) c.sync.ensures.noted;
      stop = λ loud s' v held. sync_adds_none start past (is_ok c.sync.result) false s' v (subst (λ h. MayHold start h s' v) c.sync.ensures.noted held);
      sized = refl;
      faulty = refl;
      counted = refl;
    }

pub returns-then-self-2-clause-sure : goal.returns-then-self-2-clause-sure
returns-then-self-2-clause-sure g c = λ all.
    (let d = c.args.self.now in
    let none : (d.is_broken ≡ false) × (d.has_failed ≡ false) = unbroken (g.C.FileCalls.history d.file) d.is_broken d.has_failed d.broken d.failed all in
    elim c.if-self.branch [
      | then-self w ↦ (let is : d.is_broken ≡ true = search rules in absurd (let no : true ≡ false = sym is ∙ none.0 in cc))
      | else-self w ↦ (let is : d.has_failed ≡ true = search rules in absurd (let no : true ≡ false = sym is ∙ none.1 in cc))
    ])
