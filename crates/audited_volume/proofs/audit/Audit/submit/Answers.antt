use Rattle.std.proofs.Common.{length, refl, sym, ap, ◌∙◌, arith, map, length-append}
use Rattle.std.proofs.lemmas.Bool.{MatchBool-at_false, MatchBool-at_true, ltb-false}
use Rattle.plain_machine.specs.Kept.{kept}
use Rattle.in_flight.specs.Kinds.{room_of}
use Rattle.volume.specs.Volumed.{plain_of}
use Rattle.audited_volume.specs.Books.{AuditShape}
use Rattle.audited_volume.specs.declared.entry.HeldRequest.{HeldRequest}
use Rattle.audited_volume.proofs.Mays.{kept_same}
use Rattle.audited_volume.specs.Seats.{seated}
use Rattle.volume.proofs.Declines.{refused_declined}
use Rattle.volume.proofs.FewerLives.{accepted_lives, refused_lives}
use Rattle.audited_volume.proofs.Bounds.{admitted_asked, long_kept, refused_given, spoilt_bounds, submitted_bounds}
use Rattle.audited_volume.proofs.Earning.{kept_earned, marked_places, noted_places}
use Rattle.audited_volume.proofs.Keeping.{kept_room, submitted_kept, submitted_keeps, spoilt_keeps, declined_spoils}
use Rattle.audited_volume.proofs.Lives.{looked_lives, marked_mays, mays_by, refused_alive, refused_mays}
use Rattle.audited_volume.proofs.Marks.{mark_noted, marked_bounds, marked_keeps, none_noted}
use Rattle.audited_volume.proofs.Receipts.{saved_count, saved_same, snaps_same, noted_all, only_spoils, refused_requests}
use Rattle.audited_volume.proofs.audit.Audit.submit.Goals as goal

pub note_spoils-requires-clause-lives : goal.note_spoils-requires-clause-lives
note_spoils-requires-clause-lives g c =
    c.self.invariant.audit.counted.lives ∙ saved_count g.B.Block.contents g.B.Block.layers c.self.inside.volume ∙ sym (snaps_same c.self.inside.volume c.submit.new.self c.in-Ok-submit.ensures.does.kept.numbers)

pub note_spoils-requires-in-Err-clause-lives : goal.note_spoils-requires-in-Err-clause-lives
note_spoils-requires-in-Err-clause-lives g c =
    c.self.invariant.audit.counted.lives ∙ saved_count g.B.Block.contents g.B.Block.layers c.self.inside.volume ∙ sym (snaps_same c.self.inside.volume c.submit.new.self c.in-Err.ensures.does.kept.numbers)

pub note_mark-requires-clause-lives : goal.note_mark-requires-clause-lives
note_mark-requires-clause-lives g c =
    ap length c.as_slice-lives.ensures.value ∙ c.self.invariant.audit.counted.lives ∙ saved_count g.B.Block.contents g.B.Block.layers c.self.inside.volume ∙ sym (snaps_same c.self.inside.volume c.submit.new.self c.in-Err.ensures.does.kept.numbers)

pub invariant_of-self-in-Ok-submit : goal.invariant_of-self-in-Ok-submit
invariant_of-self-in-Ok-submit g c =
    let ok = c.in-Ok-submit.ensures.does.ok in
    let held = c.in-Ok-hold.ensures in
    rw (c.push_reserved.ensures.items, c.reserve.ensures.items)
    (record {
      audit = submitted_keeps _ _ c.self.inside.loud (plain_of g.B.Block.contents g.B.Block.layers c.self.inside.volume) (plain_of g.B.Block.contents g.B.Block.layers c.submit.new.self) _ _ c.in-Ok-submit.number (kept c.args.request) _ _ _ c.self.invariant.audit
          ok.loud (saved_same g.B.Block.contents g.B.Block.layers c.self.inside.volume c.submit.new.self c.in-Ok-submit.ensures.does.kept.numbers) ok.flown (λ loud. (_, submitted_kept _ _ _ c.args.request _ (ok.legal loud)))
          (noted_all g.B.Block.contents g.B.Block.layers c.submit.new.self _ _ _ _ c.note_spoils.ensures.noted) c.note_spoils.ensures.capacity
          (record { same = held.2 ∙ sym held.1; entry_room = held.3 ∙ kept_room c.args.request ∙ ap room_of (sym held.1); receipt_room = held.4 ∙ kept_room c.args.request ∙ ap room_of (sym held.1); seat = omega (arith, held.0, c.requires.seat) }) refl held.1
          (omega (arith, ltb-false 65_536 _ (sym c.is_full.ensures ∙ c.if-is_full.false), c.len.ensures, c.len-2.ensures, kept_same _ _ _ _ c.as_slice.ensures.value c.as_slice-2.ensures.value));
      bounded = submitted_bounds _ _ c.self.inside.loud _ _ _ _ c.in-Ok-submit.number (kept c.args.request) c.note_spoils.ensures.noted.which _ _ _ c.self.invariant.bounded ok.given ok.next
          (long_kept g.B.Block.contents g.B.Block.layers g.B.Block.size g.met.B.Block.whole c.self.inside.volume c.submit.new.self (ap g.B.Block.size ok.origin)) ok.flown (admitted_asked g.B.Block.contents g.B.Block.layers g.B.Block.size g.met.B.Block.whole c.args.request c.self.inside.volume c.in-Ok-submit.ensures.does.admitted c.requires.bytes) c.note_spoils.ensures.noted.entries_are;
      earned = kept_earned g.B.Block.size c.self.inside.volume c.submit.new.self _ _ c.self.invariant.earned c.in-Ok-submit.ensures.does.kept (omega (arith, ok.given, ok.next, length-append {A = HeldRequest}, noted_places _ _ _ _ c.self.inside.may.items _ _ c.note_spoils.ensures.noted));
      lives = looked_lives c.self.inside.volume c.submit.new.self g.B.Block.contents g.B.Block.layers _ _ _ _ c.note_spoils.ensures.noted c.self.invariant.lives c.in-Ok-submit.ensures.does.kept.numbers (accepted_lives c.self.inside.volume c.submit.new.self g.B.Block.contents g.B.Block.layers c.args.request c.in-Ok-submit.number ok);
      may = c.self.invariant.may ∙ sym (mays_by c.self.inside.volume c.submit.new.self ok.overflows);
    })

pub invariant_of-self-in-Err-submit : goal.invariant_of-self-in-Err-submit
invariant_of-self-in-Err-submit g c =
    let refused = c.in-Err.ensures.refused in
    let other = MatchBool-at_false _ _ c.if-is_overflow.false c.is_overflow.ensures in
    rw c.reserve.ensures.items
    (record {
      audit = spoilt_keeps _ _ c.self.inside.loud (plain_of g.B.Block.contents g.B.Block.layers c.self.inside.volume) (plain_of g.B.Block.contents g.B.Block.layers c.submit.new.self) _ _ _ _ c.self.invariant.audit
          c.in-Err.ensures.does.loud
          (refused_requests g.B.Block.contents g.B.Block.layers g.B.Block.size c.args.request c.in-Err.refusal c.self.inside.volume c.submit.new.self refused)
          (saved_same g.B.Block.contents g.B.Block.layers c.self.inside.volume c.submit.new.self c.in-Err.ensures.does.kept.numbers)
          (λ loud. declined_spoils c.args.request c.in-Err.refusal _ _ other (refused_declined g.B.Block.contents g.B.Block.layers g.B.Block.size c.self.inside.volume c.submit.new.self c.args.request c.in-Err.refusal refused loud))
          (noted_all g.B.Block.contents g.B.Block.layers c.submit.new.self _ _ _ _ c.note_spoils-in-Err.ensures.noted) c.note_spoils-in-Err.ensures.capacity;
      bounded = spoilt_bounds _ _ c.self.inside.loud _ _ _ _ c.self.invariant.bounded (refused_given g.B.Block.contents g.B.Block.layers g.B.Block.size c.args.request c.in-Err.refusal _ _ refused) (λ on. on)
          (long_kept g.B.Block.contents g.B.Block.layers g.B.Block.size g.met.B.Block.whole c.self.inside.volume c.submit.new.self (ap g.B.Block.size c.in-Err.ensures.does.untouched.origin)) (refused_requests g.B.Block.contents g.B.Block.layers g.B.Block.size c.args.request c.in-Err.refusal c.self.inside.volume c.submit.new.self refused) c.note_spoils-in-Err.ensures.noted.which _ _ _ c.note_spoils-in-Err.ensures.noted.entries_are;
      earned = kept_earned g.B.Block.size c.self.inside.volume c.submit.new.self _ _ c.self.invariant.earned c.in-Err.ensures.does.kept (omega (arith, refused_given g.B.Block.contents g.B.Block.layers g.B.Block.size c.args.request c.in-Err.refusal _ _ refused, noted_places _ _ _ _ c.self.inside.may.items _ _ c.note_spoils-in-Err.ensures.noted));
      lives = looked_lives c.self.inside.volume c.submit.new.self g.B.Block.contents g.B.Block.layers _ _ _ _ c.note_spoils-in-Err.ensures.noted c.self.invariant.lives c.in-Err.ensures.does.kept.numbers (refused_lives c.self.inside.volume c.submit.new.self g.B.Block.contents g.B.Block.layers g.B.Block.size c.args.request c.in-Err.refusal refused);
      may = c.self.invariant.may ∙ sym (refused_mays c.self.inside.volume c.submit.new.self g.B.Block.contents g.B.Block.layers g.B.Block.size c.args.request c.in-Err.refusal other refused);
    })

pub invariant_of-self-then-is_overflow : goal.invariant_of-self-then-is_overflow
invariant_of-self-then-is_overflow g c =
    let refused = c.in-Err.ensures.refused in
    let overflow = MatchBool-at_true _ _ c.if-is_overflow.true c.is_overflow.ensures in
    let held = c.in-Ok-hold.ensures in
    let requests = refused_requests g.B.Block.contents g.B.Block.layers g.B.Block.size c.args.request c.in-Err.refusal c.self.inside.volume c.submit.new.self refused in
    let noted = rw (c.as_slice-lives.ensures.value, held.1) at c.note_mark.ensures.noted in
    rw c.reserve.ensures.items
    (record {
      audit = marked_keeps _ _ c.self.inside.loud (plain_of g.B.Block.contents g.B.Block.layers c.self.inside.volume) (plain_of g.B.Block.contents g.B.Block.layers c.submit.new.self) _ c.self.invariant.audit
          c.in-Err.ensures.does.loud requests
          (saved_same g.B.Block.contents g.B.Block.layers c.self.inside.volume c.submit.new.self c.in-Err.ensures.does.kept.numbers) c.args.request c.in-Err.refusal _ _ _ overflow
          (λ loud. refused_declined g.B.Block.contents g.B.Block.layers g.B.Block.size c.self.inside.volume c.submit.new.self c.args.request c.in-Err.refusal refused loud) c.note_mark.ensures.capacity noted;
      bounded = marked_bounds _ _ c.self.inside.loud _ _ _ c.args.request.dev (plain_of g.B.Block.contents g.B.Block.layers c.submit.new.self).saved _ _ _ c.self.invariant.bounded (refused_given g.B.Block.contents g.B.Block.layers g.B.Block.size c.args.request c.in-Err.refusal _ _ refused)
          (long_kept g.B.Block.contents g.B.Block.layers g.B.Block.size g.met.B.Block.whole c.self.inside.volume c.submit.new.self (ap g.B.Block.size c.in-Err.ensures.does.untouched.origin)) requests noted;
      earned = kept_earned g.B.Block.size c.self.inside.volume c.submit.new.self _ _ c.self.invariant.earned c.in-Err.ensures.does.kept (omega (arith, refused_given g.B.Block.contents g.B.Block.layers g.B.Block.size c.args.request c.in-Err.refusal _ _ refused, marked_places _ _ _ _ _ _ _ noted));
      lives = c.self.invariant.lives ∙ sym (refused_alive c.self.inside.volume c.submit.new.self g.B.Block.contents g.B.Block.layers g.B.Block.size c.args.request c.in-Err.refusal overflow refused);
      may = marked_mays c.self.inside.volume c.submit.new.self g.B.Block.contents g.B.Block.layers g.B.Block.size c.args.request c.in-Err.refusal _ _ _ _ _ c.self.invariant.lives c.self.invariant.may overflow refused c.in-Err.ensures.does.kept.numbers noted;
    })

pub returns-else-is_overflow-clause-noted : goal.returns-else-is_overflow-clause-noted
returns-else-is_overflow-clause-noted g c =
    none_noted c.args.request c.in-Err.refusal _ _ (ap (map seated) c.reserve.ensures.items ∙ ap (λ (a : AuditShape _). a.held) c.self.view_is)
    (only_spoils _ _ _ _ _ _ _ _ c.note_spoils-in-Err.ensures.noted (ap (λ (a : AuditShape _). a.entries) c.self.view_is) refl)

pub returns-then-is_overflow-clause-noted : goal.returns-then-is_overflow-clause-noted
returns-then-is_overflow-clause-noted g c =
    let overflow = MatchBool-at_true _ _ c.if-is_overflow.true c.is_overflow.ensures in
    let noted = rw (c.as_slice-lives.ensures.value, c.in-Ok-hold.ensures.1) at c.note_mark.ensures.noted in
    mark_noted c.args.request c.in-Err.refusal _ _ (plain_of g.B.Block.contents g.B.Block.layers c.submit.new.self).saved c.self.inside.lives.items _ _ _ _ overflow (ap (map seated) c.reserve.ensures.items ∙ ap (λ (a : AuditShape _). a.held) c.self.view_is) noted (ap (λ (a : AuditShape _). a.entries) c.self.view_is) refl

pub returns-in-Ok-submit-clause-does : goal.returns-in-Ok-submit-clause-does
returns-in-Ok-submit-clause-does g c = rw (← c.self.view_is) c.in-Ok-submit.ensures.does

pub returns-else-is_overflow-clause-does : goal.returns-else-is_overflow-clause-does
returns-else-is_overflow-clause-does g c = rw (← c.self.view_is) c.in-Err.ensures.does

pub returns-then-is_overflow-clause-does : goal.returns-then-is_overflow-clause-does
returns-then-is_overflow-clause-does g c = rw (← c.self.view_is) c.in-Err.ensures.does
