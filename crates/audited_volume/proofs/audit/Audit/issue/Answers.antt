use Rattle.std.proofs.Common.{rules, ◌≡◌, ◌≢◌, ◌+◌, ◌++◌, ◌∷◌, [], refl, sym, ap, ◌∙◌, arith, map, append-nil, length-append}
use Rattle.audited_volume.specs.Seats.{seated}
use Rattle.audited_volume.specs.declared.entry.Entry.TheVariants.{Answered}
use Rattle.std.proofs.lemmas.List.{get_or_default}
use Rattle.std.proofs.lemmas.List.Edits.{length-remove}
use Rattle.plain_machine.specs.declared.event.Event.TheVariants.{Issue}
use Rattle.volume.specs.Volumed.{plain_of}
use Rattle.volume.proofs.Stepped.{allowed, not_allowed}
use Rattle.audited_volume.specs.Books.{AuditShape, count_of}
use Rattle.audited_volume.specs.declared.entry.HeldRequest.{HeldRequest}
use Rattle.audited_volume.proofs.Beginning.{plain_long, shows_long}
use Rattle.audited_volume.proofs.Bounds.{count_low, issued_bounds, long_kept, quiet_bounds, size_kept}
use Rattle.audited_volume.proofs.Earning.{kept_earned}
use Rattle.audited_volume.proofs.Keeping.{first_of, held_at, fits_held, going_is, going_keeps, taken_here, number_same, issued_keeps, answer_of}
use Rattle.audited_volume.proofs.Lives.{mays_by, replied_alive}
use Rattle.audited_volume.proofs.Receipts.{base_kept, saved_same, mine_none, mine_other, mine_own, receipt_has}
use Rattle.audited_volume.proofs.audit.Audit.issue.Goals as goal

pub returns-in_default-clause-does : goal.returns-in_default-clause-does
returns-in_default-clause-does g c =
    not_allowed g.B.Block.may_hold g.B.Block.contents g.B.Block.layers g.B.Block.size g.B.Block.fault_count g.B.Block.done_count _ (Issue c.args.number) _ _ _ refl
    (mine_none c.args.seat c.args.number c.self.inside.held.items _ (ap (λ (a : AuditShape _). a.held) c.self.view_is) (rw c.as_slice.ensures.value at c.in_default.ensures.none))

pub returns-then-index-seat-clause-does : goal.returns-then-index-seat-clause-does
returns-then-index-seat-clause-does g c =
    let first = first_of c.args.number c.self.inside.held.items c.in-Some.place c.index.result.now c.index.ensures (rw c.as_slice.ensures.value at c.in-Some.ensures.some) in
    let apart : c.index.result.now.seat ≢ c.args.seat = search rules in
    not_allowed g.B.Block.may_hold g.B.Block.contents g.B.Block.layers g.B.Block.size g.B.Block.fault_count g.B.Block.done_count _ (Issue c.args.number) _ _ _ refl
    (mine_other c.args.seat c.args.number c.self.inside.held.items _ c.in-Some.place c.index.result.now (ap (λ (a : AuditShape _). a.held) c.self.view_is) first apart)

pub copy_into-for_entry-requires : goal.copy_into-for_entry-requires
copy_into-for_entry-requires g c =
    let first = first_of c.args.number c.self.inside.held.items c.in-Some.place c.remove-held.result c.remove-held.ensures.value (rw c.as_slice.ensures.value at c.in-Some.ensures.some) in
    let flown = rw c.in-Ok-Reply.field-0-is at c.in-Ok-Reply.ensures.does.flown in
    (fits_held _ _ c.args.number c.in-Some.place c.remove-held.result c.in-Ok-Reply.reply _ c.self.invariant.audit.counted first (taken_here c.args.number c.in-Ok-Reply.which c.in-Ok-Reply.reply _ _ flown)).0

pub copy_into-for_receipt-requires : goal.copy_into-for_receipt-requires
copy_into-for_receipt-requires g c =
    let first = first_of c.args.number c.self.inside.held.items c.in-Some.place c.remove-held.result c.remove-held.ensures.value (rw c.as_slice.ensures.value at c.in-Some.ensures.some) in
    let flown = rw c.in-Ok-Reply.field-0-is at c.in-Ok-Reply.ensures.does.flown in
    (fits_held _ _ c.args.number c.in-Some.place c.remove-held.result c.in-Ok-Reply.reply _ c.self.invariant.audit.counted first (taken_here c.args.number c.in-Ok-Reply.which c.in-Ok-Reply.reply _ _ flown)).1

pub count_one-count-requires-clause-few : goal.count_one-count-requires-clause-few
count_one-count-requires-clause-few g c =
    let first = first_of c.args.number c.self.inside.held.items c.in-Some.place c.remove-held.result c.remove-held.ensures.value (rw c.as_slice.ensures.value at c.in-Some.ensures.some) in
    let same = c.remove-held.ensures.value ∙ get_or_default c.self.inside.held.items c.in-Some.place c.remove-held.result c.index.result.now first.within ∙ sym c.index.ensures in
    let theirs : c.index.result.now.seat ≡ c.args.seat = search rules in
    let fit = held_at c.self.inside.held.items c.args.number c.in-Some.place c.remove-held.result c.self.invariant.audit.counted.fits first in
    count_low _ 0 _ _ _ (plain_of g.B.Block.contents g.B.Block.layers c.self.inside.volume) _ 0 c.self.invariant.audit c.self.invariant.bounded c.args.number c.in-Some.place c.remove-held.result first c.args.seat (omega (arith, fit.seat, ap (λ (y : HeldRequest). y.seat) same ∙ theirs)) (omega (arith, c.last_request.ensures, c.last_request.type_inv, c.in-Ok-Reply.ensures.does.counts.0))

pub invariant_of-self : goal.invariant_of-self
invariant_of-self g c =
    let x = c.remove-held.result in
    let first = first_of c.args.number c.self.inside.held.items c.in-Some.place x c.remove-held.ensures.value (rw c.as_slice.ensures.value at c.in-Some.ensures.some) in
    let same = c.remove-held.ensures.value ∙ get_or_default c.self.inside.held.items c.in-Some.place x c.index.result.now first.within ∙ sym c.index.ensures in
    let theirs : c.index.result.now.seat ≡ c.args.seat = search rules in
    let fit = held_at c.self.inside.held.items c.args.number c.in-Some.place x c.self.invariant.audit.counted.fits first in
    let seat = ap (λ (y : HeldRequest). y.seat) same ∙ theirs in
    let flown = rw c.in-Ok-Reply.field-0-is at c.in-Ok-Reply.ensures.does.flown in
    let kept = issued_keeps _ _ c.self.inside.loud (plain_of g.B.Block.contents g.B.Block.layers c.self.inside.volume) (plain_of g.B.Block.contents g.B.Block.layers c.step.new.self) _ _ c.self.invariant.audit c.in-Ok-Reply.ensures.does.loud
    (saved_same g.B.Block.contents g.B.Block.layers c.self.inside.volume c.step.new.self c.in-Ok-Reply.ensures.does.kept.numbers) c.push_reserved.ensures.capacity c.args.number c.in-Some.place x first c.args.seat (ap (λ (y : HeldRequest). y.seat) same ∙ theirs)
    c.in-Ok-Reply.reply c.in-Ok-Reply.which (rw c.in-Ok-Reply.field-0-is at c.in-Ok-Reply.ensures.does.flown) (λ loud. rw c.in-Ok-Reply.field-0-is at (c.in-Ok-Reply.ensures.does.legal loud)) in
    let bounds = issued_bounds _ _ _ c.self.inside.loud (plain_of g.B.Block.contents g.B.Block.layers c.self.inside.volume) (plain_of g.B.Block.contents g.B.Block.layers c.step.new.self) _ _ c.self.invariant.audit c.self.invariant.bounded c.args.number c.in-Some.place x first c.in-Ok-Reply.ensures.does.counts.0
    (long_kept g.B.Block.contents g.B.Block.layers g.B.Block.size g.met.B.Block.whole c.self.inside.volume c.step.new.self (size_kept g.B.Block.size c.self.inside.volume c.step.new.self c.in-Ok-Reply.ensures.does.kept.sizes)) c.args.seat (omega (arith, fit.seat, seat)) c.in-Ok-Reply.reply (taken_here c.args.number c.in-Ok-Reply.which c.in-Ok-Reply.reply _ _ flown)
    (λ dev array shows. shows_long g.B.Block.contents g.B.Block.layers c.self.inside.volume dev array shows ∙ sym (plain_long g.B.Block.contents g.B.Block.layers c.self.inside.volume)) in
    rw (c.push_reserved.ensures.items, c.remove-held.ensures.items, c.count_one-count.ensures.counts, c.copy_into-for_entry.ensures) (record {
      audit = kept;
      bounded = bounds;
      earned = kept_earned g.B.Block.size c.self.inside.volume c.step.new.self _ _ c.self.invariant.earned c.in-Ok-Reply.ensures.does.kept (omega (arith, c.in-Ok-Reply.ensures.does.counts.0, length-append c.self.inside.entries.items (Answered (answer_of c.remove-held.result c.args.seat c.in-Ok-Reply.reply) ∷ []), length-remove c.self.inside.held.items c.in-Some.place first.within));
      lives = c.self.invariant.lives ∙ sym (replied_alive c.self.inside.volume c.step.new.self g.B.Block.fault_count c.in-Ok-Reply.which c.in-Ok-Reply.reply (rw c.in-Ok-Reply.field-0-is at c.in-Ok-Reply.ensures.does.cause));
      may = c.self.invariant.may ∙ sym (mays_by c.self.inside.volume c.step.new.self c.in-Ok-Reply.ensures.does.overflows);
    })

pub returns-in-Ok-Reply-clause-applied : goal.returns-in-Ok-Reply-clause-applied
returns-in-Ok-Reply-clause-applied g c =
    let x = c.remove-held.result in
    let first = first_of c.args.number c.self.inside.held.items c.in-Some.place x c.remove-held.ensures.value (rw c.as_slice.ensures.value at c.in-Some.ensures.some) in
    let same = c.remove-held.ensures.value ∙ get_or_default c.self.inside.held.items c.in-Some.place x c.index.result.now first.within ∙ sym c.index.ensures in
    let theirs : c.index.result.now.seat ≡ c.args.seat = search rules in
    let fit = held_at c.self.inside.held.items c.args.number c.in-Some.place x c.self.invariant.audit.counted.fits first in
    let mine = ap (λ (y : HeldRequest). y.seat) same ∙ theirs in
    let entries = ap (λ (a : AuditShape _). a.entries) c.self.view_is in
    let counted = c.count_one-count.ensures.result ∙ ap (λ k. k + 1) (c.self.invariant.audit.counted.counts c.args.seat (omega (arith, fit.seat, mine)) ∙ ap (count_of c.args.seat) c.self.view_is) in
    record {
      noted = rw c.copy_into-for_receipt.ensures
          (receipt_has _ _ c.self.inside.held.items c.args.number c.in-Ok-Reply.which c.in-Some.place c.args.seat c.count_one-count.result x c.in-Ok-Reply.reply
          (number_same c.args.number c.in-Ok-Reply.which c.in-Ok-Reply.reply _ _ (rw c.in-Ok-Reply.field-0-is at c.in-Ok-Reply.ensures.does.flown)) first mine fit.same
          (ap (λ (a : AuditShape _). a.held) c.self.view_is) (ap (map seated) c.remove-held.ensures.items) counted
          (rw (c.push_reserved.ensures.items, c.copy_into-for_entry.ensures) (ap (λ es. es ++ Answered (answer_of x c.args.seat c.in-Ok-Reply.reply) ∷ []) entries)));
      base = base_kept _ _ _ c.self.view_is (record { base = refl; taken = refl; loud = refl; folded = refl });
      err = tt;
    }

pub invariant_of-self-in-Ok-Done : goal.invariant_of-self-in-Ok-Done
invariant_of-self-in-Ok-Done g c =
    let flown = rw c.in-Ok-Done.field-0-is at c.in-Ok-Done.ensures.does.flown in record {
      audit = going_keeps _ _ c.self.inside.loud (plain_of g.B.Block.contents g.B.Block.layers c.self.inside.volume) (plain_of g.B.Block.contents g.B.Block.layers c.step.new.self) _ c.self.invariant.audit c.in-Ok-Done.ensures.does.loud
          (saved_same g.B.Block.contents g.B.Block.layers c.self.inside.volume c.step.new.self c.in-Ok-Done.ensures.does.kept.numbers) flown.same (λ loud. (rw c.in-Ok-Done.field-0-is at (c.in-Ok-Done.ensures.does.legal loud)).0);
      bounded = quiet_bounds _ _ c.self.inside.loud c.self.inside.loud (plain_of g.B.Block.contents g.B.Block.layers c.self.inside.volume) (plain_of g.B.Block.contents g.B.Block.layers c.step.new.self) _ c.self.invariant.bounded c.in-Ok-Done.ensures.does.counts.0 (λ on. on)
          (long_kept g.B.Block.contents g.B.Block.layers g.B.Block.size g.met.B.Block.whole c.self.inside.volume c.step.new.self (size_kept g.B.Block.size c.self.inside.volume c.step.new.self c.in-Ok-Done.ensures.does.kept.sizes)) flown.same;
      earned = kept_earned g.B.Block.size c.self.inside.volume c.step.new.self _ _ c.self.invariant.earned c.in-Ok-Done.ensures.does.kept (omega (arith, c.in-Ok-Done.ensures.does.counts.0));
      lives = c.self.invariant.lives ∙ sym (rw c.in-Ok-Done.field-0-is at c.in-Ok-Done.ensures.does.cause).lives;
      may = c.self.invariant.may ∙ sym (mays_by c.self.inside.volume c.step.new.self c.in-Ok-Done.ensures.does.overflows);
    }

pub returns-in-Ok-Done-clause-applied : goal.returns-in-Ok-Done-clause-applied
returns-in-Ok-Done-clause-applied g c = record {
  noted = record {
    held = ap (λ (a : AuditShape _). a.held) c.self.view_is;
    spoils = record { which = []; entries = ap (λ (a : AuditShape _). a.entries) c.self.view_is ∙ sym (append-nil _) };
  };
  base = base_kept _ _ _ c.self.view_is (record { base = refl; taken = refl; loud = refl; folded = refl });
  err = tt;
}

pub returns-in-Ok-Done-clause-unanswered : goal.returns-in-Ok-Done-clause-unanswered
returns-in-Ok-Done-clause-unanswered g c =
    let x = c.index.result.now in
    let first = first_of c.args.number c.self.inside.held.items c.in-Some.place x c.index.ensures (rw c.as_slice.ensures.value at c.in-Some.ensures.some) in
    going_is (plain_of g.B.Block.contents g.B.Block.layers c.self.inside.volume) _ c.args.number c.in-Some.place x _ _ c.self.invariant.audit.counted first (rw c.in-Ok-Done.field-0-is at c.in-Ok-Done.ensures.does.flown) (ap (λ (a : AuditShape _). a.held) c.self.view_is)

pub returns-in-Ok-Reply-clause-does : goal.returns-in-Ok-Reply-clause-does
returns-in-Ok-Reply-clause-does g c =
    let x = c.index.result.now in
    let first = first_of c.args.number c.self.inside.held.items c.in-Some.place x c.index.ensures (rw c.as_slice.ensures.value at c.in-Some.ensures.some) in
    let theirs : x.seat ≡ c.args.seat = search rules in
    allowed g.B.Block.may_hold g.B.Block.contents g.B.Block.layers g.B.Block.size g.B.Block.fault_count g.B.Block.done_count _ (Issue c.args.number) _ _ _ (mine_own c.args.seat c.args.number c.self.inside.held.items _ c.in-Some.place x (ap (λ (a : AuditShape _). a.held) c.self.view_is) first theirs)
    (rw (← c.self.view_is) (rw c.in-Ok-Reply.field-0-is at c.in-Ok-Reply.ensures.does))

pub returns-in-Ok-Done-clause-does : goal.returns-in-Ok-Done-clause-does
returns-in-Ok-Done-clause-does g c =
    let x = c.index.result.now in
    let first = first_of c.args.number c.self.inside.held.items c.in-Some.place x c.index.ensures (rw c.as_slice.ensures.value at c.in-Some.ensures.some) in
    let theirs : x.seat ≡ c.args.seat = search rules in
    allowed g.B.Block.may_hold g.B.Block.contents g.B.Block.layers g.B.Block.size g.B.Block.fault_count g.B.Block.done_count _ (Issue c.args.number) _ _ _ (mine_own c.args.seat c.args.number c.self.inside.held.items _ c.in-Some.place x (ap (λ (a : AuditShape _). a.held) c.self.view_is) first theirs)
    (rw (← c.self.view_is) (rw c.in-Ok-Done.field-0-is at c.in-Ok-Done.ensures.does))

pub returns-in-Err-clause-does : goal.returns-in-Err-clause-does
returns-in-Err-clause-does g c =
    let x = c.index.result.now in
    let first = first_of c.args.number c.self.inside.held.items c.in-Some.place x c.index.ensures (rw c.as_slice.ensures.value at c.in-Some.ensures.some) in
    let theirs : x.seat ≡ c.args.seat = search rules in
    allowed g.B.Block.may_hold g.B.Block.contents g.B.Block.layers g.B.Block.size g.B.Block.fault_count g.B.Block.done_count _ (Issue c.args.number) _ _ _ (mine_own c.args.seat c.args.number c.self.inside.held.items _ c.in-Some.place x (ap (λ (a : AuditShape _). a.held) c.self.view_is) first theirs)
    (rw (← c.self.view_is) c.in-Err.ensures.does)
