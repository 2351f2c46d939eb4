-- What changes a volume between requests keeps what is true of an audit.
use Rattle.std.proofs.Common.{◌≡◌, ℕ, ◌+◌, ◌≤◌, Bool, true, false, List, [], ◌∷◌, ◌++◌, length, get_or, map, refl, sym, ◌∙◌, ap, subst, arith, length-append}
use Rattle.std.specs.Prelude.{◌&&◌}
use Rattle.std.proofs.lemmas.Bool.{false≢true}
use Rattle.std.proofs.lemmas.List.{length-map}
use Rattle.device.specs.Layers.{Layer}
use Rattle.plain_machine.specs.Plain.{Plain, Shown, shown_of}
use Rattle.plain_machine.specs.Legal.{IsFinished}
use Rattle.snapshot.specs.declared.opening.StoreDev.{StoreDev}
use Rattle.snapshot_list.specs.Keeping.{unkept}
use Rattle.in_flight.specs.Kinds.{in_flight}
use Rattle.volume.specs.Volumed.{Volumed, plain_of}
use Rattle.volume.specs.Finishing.{IsTakenOut}
use Rattle.audited_volume.specs.declared.entry.Answered.{Answered as AnsweredEntry}
use Rattle.audited_volume.specs.declared.entry.Entry.{Entry}
use Rattle.audited_volume.specs.declared.entry.Entry.TheVariants.{Finished}
use Rattle.audited_volume.specs.Replay.{after, IsLawful}
use Rattle.audited_volume.specs.Entries.{entries_by}
use Rattle.audited_volume.specs.Noted.{is_live, is_open, kept_count}
use Rattle.audited_volume.specs.Books.{Books, IsAudit}
use Rattle.audited_volume.proofs.Replaying.{replay_then, lawful_then, entries_by_silent}
use Rattle.audited_volume.proofs.Receipts.{saved_count}

pub first_on : (a b c : Bool) → a ≡ (b && c) → a ≡ true → b ≡ true
first_on a true c e on = refl
first_on a false c e on = absurd (false≢true (sym e ∙ on))

-- One entry more, which is of no seat's request: what the counts keep, and what the replay does.
module _ (loud loud' told told' : Bool) (p q : Plain) (v : Books) (e : Entry) (lives' may' : List Bool) (room' : ℕ) (h : IsAudit loud told p v)
    (still : told' ≡ true → told ≡ true) (keeps : told' ≡ true → loud ≡ true → loud' ≡ true) (requests : q.requests ≡ p.requests) (count : length lives' ≡ length q.saved) (count_may : length may' ≡ length q.saved)
    (none : (s : ℕ) (es : List Entry) → entries_by s (es ++ e ∷ []) ≡ entries_by s es) (free : v.taken + length v.entries + length v.held + kept_count lives' may' + 1 ≤ 65_536) (room : room' ≡ v.room)
    (does : told' ≡ true → loud ≡ true → (after (shown_of p) e ≡ shown_of q) × IsLawful (shown_of p) e × (v.lives ≡ map is_live p.saved → lives' ≡ map is_live q.saved) × (v.may ≡ map is_open p.saved → may' ≡ map is_open q.saved)) where
  abbrev more_books : Books
  more_books = record v { entries = v.entries ++ e ∷ []; lives = lives'; may = may'; room = room' }

  pub entry_keeps : IsAudit loud' told' q more_books
  entry_keeps = record {
    counted = record {
      fits = h.counted.fits;
      held = h.counted.held ∙ sym requests;
      counts = λ s lt. h.counted.counts s lt ∙ ap (λ (es : List AnsweredEntry). get_or v.folded s 0 + length es) (sym (none s v.entries));
      seats = h.counted.seats;
      folds = h.counted.folds;
      lives = count;
      may = count_may;
      entries = omega (arith, free, length-append v.entries (e ∷ []));
      room = omega (arith, h.counted.room, room);
    };
    loud_is = λ on. keeps on (h.loud_is (still on));
    replays = λ on. let r = h.replays (still on) in let d = does on (h.loud_is (still on)) in record {
      replay_is = replay_then v.base v.entries (e ∷ []) ∙ ap (λ (s : Shown). after s e) r.replay_is ∙ d.0;
      lawful = lawful_then v.base v.entries (e ∷ []) r.lawful (subst (λ (s : Shown). IsLawful s e) (sym r.replay_is) d.1, tt);
      lives = d.2 r.lives;
      may = d.3 r.may;
    };
  }

-- a merge that is taken out
none_finished : (s : ℕ) (es : List Entry) → entries_by s (es ++ Finished ∷ []) ≡ entries_by s es
none_finished s es = entries_by_silent s es Finished refl

pub finished_does : (p q : Plain) (lives may : List Bool) → IsFinished p q
    → (after (shown_of p) Finished ≡ shown_of q) × IsLawful (shown_of p) Finished × (lives ≡ map is_live p.saved → lives ≡ map is_live q.saved) × (may ≡ map is_open p.saved → may ≡ map is_open q.saved)
finished_does p q lives may f = (
  (λ i. record { origin = sym (ap (λ (x : Plain). x.origin) f.becomes) i; begun = sym (ap (λ (x : Plain). x.begun) f.becomes) i; saved = sym (ap (λ (x : Plain). x.saved) f.becomes) i }),
  (f.number, f.merged),
  λ was. was ∙ ap (map is_live) (sym (ap (λ (x : Plain). x.saved) f.becomes)),
  λ was. was ∙ ap (map is_open) (sym (ap (λ (x : Plain). x.saved) f.becomes)),
)

pub finished_keeps : {B : Type 0} (contents : B → List ℕ) (layers : B → List Layer) (w w' : Volumed B) (store : StoreDev B) (loud loud' more told : Bool) (v : Books) (room' : ℕ)
    → IsAudit loud told (plain_of contents layers w) v → loud ≡ (loud' && more) → IsTakenOut w w' store → (loud ≡ true → IsFinished (plain_of contents layers w) (plain_of contents layers w'))
    → v.taken + length v.entries + length v.held + kept_count v.lives v.may + 1 ≤ 65_536 → room' ≡ v.room
    → IsAudit loud' told (plain_of contents layers w') (record v { entries = v.entries ++ Finished ∷ []; room = room' })
finished_keeps contents layers w w' store loud loud' more told v room' h both taken finished free room =
    entry_keeps loud loud' told told (plain_of contents layers w) (plain_of contents layers w') v Finished v.lives v.may room' h (λ on. on) (λ on was. first_on loud loud' more both was)
    (ap (λ (x : Volumed _). map in_flight x.flights) taken.becomes)
    (h.counted.lives ∙ same) (h.counted.may ∙ same) none_finished free room (λ on was. finished_does _ _ v.lives v.may (finished was))
  where
    same : length (plain_of contents layers w).saved ≡ length (plain_of contents layers w').saved
    same = saved_count contents layers w ∙ sym (length-map w.snaps unkept) ∙ sym (ap (λ (x : Volumed _). length x.snaps) taken.becomes) ∙ sym (saved_count contents layers w')
