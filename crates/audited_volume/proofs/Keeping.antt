-- The events and the requests keep what is true of an audit.
use Rattle.std.proofs.Common.{◌≡◌, ◌≢◌, inl, inr, ℕ, zero, suc, ◌+◌, ◌<◌, ◌≤◌, Bool, true, List, [], ◌∷◌, ◌++◌, length, get_or, set, map, take, drop, Some, refl, sym, ◌∙◌, ap, subst, arith, length-append}
use Rattle.std.specs.List.{All, remove}
use Rattle.std.specs.Prelude.{replicate}
use Rattle.std.proofs.lemmas.Bool.{cases_eq}
use Rattle.std.proofs.lemmas.List.{get_or-set_same, get_or-set_other, length-set, length-map, map-append}
use Rattle.std.proofs.lemmas.List.Edits.{length-remove}
use Rattle.std.proofs.lemmas.List.Elements.{All-append, All-take, All-drop, All-nil}
use Rattle.plain_machine.specs.declared.event.Event.{Event}
use Rattle.plain_machine.specs.declared.event.Event.TheVariants.{Issue, CopyRead, CopyWrite, ZeroNext, WriteArea, Publish, WriteInvalid, FlushStore, MergeGroup, MergeAreaRead, MergeRead, MergeWrite, MergeFlush, MergeCommit, MergeRelease}
use Rattle.plain_machine.specs.declared.event.Outcome.{Outcome}
use Rattle.plain_machine.specs.declared.event.Outcome.TheVariants.{Done, Fault, Reply as Replied}
use Rattle.plain_machine.specs.declared.request.Op.{Op}
use Rattle.plain_machine.specs.declared.request.Op.TheVariants.{Read, Write, Flush}
use Rattle.plain_machine.specs.declared.request.Request.{Request}
use Rattle.plain_machine.specs.declared.request.Reply.{Reply}
use Rattle.plain_machine.specs.declared.request.Reply.TheVariants.{Data, Written, Flushed, Refused}
use Rattle.plain_machine.specs.Kept.{kept, kept_range}
use Rattle.plain_machine.specs.Plain.{Plain, InFlight, Entry as ShownEntry, spoiled, spoiled_entry, asked_under, without, Shown, shown_of}
use Rattle.plain_machine.specs.Replies.{FitsReply}
use Rattle.plain_machine.specs.Legal.{Spoils, IsAnswered, IsLegalStep, IsSubmitted, IsDeclined}
use Rattle.plain_machine.specs.Serves.{Serves}
use Rattle.sector.specs.declared.range.Range.{Range}
use Rattle.sector.specs.declared.refusal.Refusal.{Refusal}
use Rattle.sector.specs.declared.refusal.Refusal.TheVariants.{Overflow}
use Rattle.in_flight.specs.Kinds.{room_of, room_at}
use Rattle.volume.specs.Flying.{Fits, IsFlown, IsLeftGoing, IsTakenOut}
use Rattle.audited_volume.specs.declared.entry.Answered.{Answered as AnsweredEntry}
use Rattle.audited_volume.specs.declared.entry.Entry.{Entry}
use Rattle.audited_volume.specs.declared.entry.Entry.TheVariants.{Answered, Spoiled}
use Rattle.audited_volume.specs.declared.entry.HeldRequest.{HeldRequest}
use Rattle.audited_volume.specs.Seats.{Seated, seated, seated_under}
use Rattle.audited_volume.specs.Replay.{plain_in, served, replay, IsLawful, AllLawful}
use Rattle.audited_volume.specs.Entries.{entries_by}
use Rattle.audited_volume.specs.Noted.{Noted, is_live, is_open, kept_count}
use Rattle.audited_volume.specs.Books.{Books, Counted, Replays, IsAudit, HeldFits, in_flight}
use Rattle.audited_volume.proofs.Lost.{all_noted, lives_now, were_live}
use Rattle.audited_volume.proofs.Mays.{any_shown, noted_may, open_spoiled, opens_served}
use Rattle.audited_volume.proofs.Spoils.{lawful_spoils}
use Rattle.audited_volume.proofs.Replaying.{replay_then, lawful_then, replay_spoils, entries_by_spoils, entries_by_mine, entries_by_other, served_is, lawful_is, lives_served, IsFirst, asked_first, seated_first, without_first}

-- an event that is no Issue spoils, or is silent
pub spoils_of : (old : Plain) (event : Event) (outcome : Outcome) (new : Plain) → ((n : ℕ) → event ≢ Issue n) → IsLegalStep old event outcome new → (which : List ℕ) × Spoils which old new
spoils_of old event (Replied n reply) new other l = absurd (other n l.0)
spoils_of old (Issue n) Done new other l = absurd (other n refl)
spoils_of old (CopyRead n) Done new other l = l
spoils_of old (CopyWrite n) Done new other l = l
spoils_of old (ZeroNext n) Done new other l = l
spoils_of old (WriteArea n) Done new other l = l
spoils_of old (Publish n) Done new other l = l
spoils_of old (WriteInvalid n) Done new other l = l
spoils_of old (FlushStore n) Done new other l = l
spoils_of old MergeGroup Done new other l = l
spoils_of old MergeAreaRead Done new other l = l
spoils_of old MergeRead Done new other l = l
spoils_of old MergeWrite Done new other l = l
spoils_of old MergeFlush Done new other l = l
spoils_of old MergeCommit Done new other l = l
spoils_of old MergeRelease Done new other l = l
spoils_of old (Issue n) Fault new other l = absurd l
spoils_of old (CopyRead n) Fault new other l = l
spoils_of old (CopyWrite n) Fault new other l = l
spoils_of old (ZeroNext n) Fault new other l = l
spoils_of old (WriteArea n) Fault new other l = l
spoils_of old (Publish n) Fault new other l = l
spoils_of old (WriteInvalid n) Fault new other l = l
spoils_of old (FlushStore n) Fault new other l = l
spoils_of old MergeGroup Fault new other l = l
spoils_of old MergeAreaRead Fault new other l = l
spoils_of old MergeRead Fault new other l = l
spoils_of old MergeWrite Fault new other l = l
spoils_of old MergeFlush Fault new other l = l
spoils_of old MergeCommit Fault new other l = l
spoils_of old MergeRelease Fault new other l = l

-- and changes no request in flight
pub flown_other : (event : Event) (outcome : Outcome) (old new : List InFlight) → ((n : ℕ) → event ≢ Issue n) → IsFlown event outcome old new → new ≡ old
flown_other event (Replied n reply) old new other f = absurd (other n f.0)
flown_other (Issue n) Done old new other f = f.same
flown_other (CopyRead n) Done old new other f = f
flown_other (CopyWrite n) Done old new other f = f
flown_other (ZeroNext n) Done old new other f = f
flown_other (WriteArea n) Done old new other f = f
flown_other (Publish n) Done old new other f = f
flown_other (WriteInvalid n) Done old new other f = f
flown_other (FlushStore n) Done old new other f = f
flown_other MergeGroup Done old new other f = f
flown_other MergeAreaRead Done old new other f = f
flown_other MergeRead Done old new other f = f
flown_other MergeWrite Done old new other f = f
flown_other MergeFlush Done old new other f = f
flown_other MergeCommit Done old new other f = f
flown_other MergeRelease Done old new other f = f
flown_other (Issue n) Fault old new other f = absurd f
flown_other (CopyRead n) Fault old new other f = f
flown_other (CopyWrite n) Fault old new other f = f
flown_other (ZeroNext n) Fault old new other f = f
flown_other (WriteArea n) Fault old new other f = f
flown_other (Publish n) Fault old new other f = f
flown_other (WriteInvalid n) Fault old new other f = f
flown_other (FlushStore n) Fault old new other f = f
flown_other MergeGroup Fault old new other f = f
flown_other MergeAreaRead Fault old new other f = f
flown_other MergeRead Fault old new other f = f
flown_other MergeWrite Fault old new other f = f
flown_other MergeFlush Fault old new other f = f
flown_other MergeCommit Fault old new other f = f
flown_other MergeRelease Fault old new other f = f

-- spoils that were noted keep the counts
pub noted_counted : (p q : Plain) (v : Books) (lives' : List Bool) (es' : List Entry) (room' : ℕ) → Counted p v → Noted (length q.saved) q.saved v.lives lives' v.entries es'
    → q.requests ≡ p.requests → length q.saved ≡ length p.saved → room' ≡ v.room → Counted q (record v { entries = es'; lives = lives'; room = room' })
noted_counted p q v lives' es' room' h s requests same room = record {
  fits = h.fits;
  held = h.held ∙ sym requests;
  counts = λ seat lt. h.counts seat lt ∙ ap (λ (es : List AnsweredEntry). get_or v.folded seat 0 + length es) (sym (ap (entries_by seat) s.entries_are ∙ entries_by_spoils seat v.entries s.which));
  seats = h.seats;
  folds = h.folds;
  lives = s.same_length ∙ h.lives ∙ sym same;
  may = h.may ∙ sym same;
  entries = omega (arith, ap length s.entries_are, length-append v.entries (map Spoiled s.which), length-map s.which Spoiled, s.room, noted_may (length q.saved) q.saved v.lives lives' v.may v.entries es' any_shown s, h.entries);
  room = omega (arith, h.room, room);
}

-- and the replay
pub noted_replays : (p q : Plain) (v : Books) (which : List ℕ) (lives' : List Bool) (es' : List Entry) (room' : ℕ) → Replays p v → q.origin ≡ p.origin → q.begun ≡ p.begun → q.saved ≡ map (spoiled_entry which) p.saved
    → Noted (length q.saved) q.saved v.lives lives' v.entries es' → Replays q (record v { entries = es'; lives = lives'; room = room' })
noted_replays p q v which lives' es' room' h origin begun saved s =
    let noted : map (spoiled_entry s.which) p.saved ≡ q.saved = all_noted which p.saved q.saved v.lives lives' v.entries es' h.lives saved s in
    let spoils : AllLawful (shown_of p) (map Spoiled s.which) = lawful_spoils (shown_of p) s.which (were_live which p.saved q.saved v.lives lives' v.entries es' h.lives saved s) s.apart in
    let last : record (shown_of p) { saved = map (spoiled_entry s.which) p.saved } ≡ shown_of q = (λ i. record { origin = sym origin i; begun = sym begun i; saved = noted i }) in record {
      replay_is = ap (replay v.base) s.entries_are ∙ replay_then v.base v.entries (map Spoiled s.which) ∙ replay_spoils (replay v.base v.entries) s.which
          ∙ ap (λ (x : Shown). record x { saved = map (spoiled_entry s.which) x.saved }) h.replay_is ∙ last;
      lawful = subst (AllLawful v.base) (sym s.entries_are) (lawful_then v.base v.entries (map Spoiled s.which) h.lawful (subst (λ (x : Shown). AllLawful x (map Spoiled s.which)) (sym h.replay_is) spoils));
      lives = lives_now which p.saved q.saved v.lives lives' v.entries es' h.lives saved s;
      may = h.may ∙ sym (open_spoiled which p.saved) ∙ ap (map is_open) (sym saved);
    }

-- a call that spoils, or is silent
pub spoilt_keeps : (loud loud' told : Bool) (p q : Plain) (v : Books) (lives' : List Bool) (es' : List Entry) (room' : ℕ) → IsAudit loud told p v
    → loud' ≡ loud → q.requests ≡ p.requests → length q.saved ≡ length p.saved → (loud ≡ true → (which : List ℕ) × Spoils which p q)
    → Noted (length q.saved) q.saved v.lives lives' v.entries es' → room' ≡ v.room → IsAudit loud' told q (record v { entries = es'; lives = lives'; room = room' })
spoilt_keeps loud loud' told p q v lives' es' room' h same requests count spoils noted room = record {
  counted = noted_counted p q v lives' es' room' h.counted noted requests count room;
  loud_is = λ on. same ∙ h.loud_is on;
  replays = λ on. let s = spoils (h.loud_is on) in
      noted_replays p q v s.0 lives' es' room' (h.replays on) (ap (λ (x : Plain). x.origin) s.1) (ap (λ (x : Plain). x.begun) s.1) (ap (λ (x : Plain). x.saved) s.1) noted;
}

-- the request that was answered is the one that is held
pub first_of : (n : ℕ) (hs : List HeldRequest) (k : ℕ) (x : HeldRequest) → x ≡ get_or hs k x → (k < length hs) × ((d : HeldRequest) → (get_or hs k d).number ≡ n) × ((j : ℕ) (d : HeldRequest) → j < k → (get_or hs j d).number ≢ n) → IsFirst n hs k x
first_of n hs k x is found = record { within = found.0; is = is; number = ap (λ (y : HeldRequest). y.number) is ∙ found.1 x; before = found.2 }

pub held_at : (hs : List HeldRequest) (n k : ℕ) (x : HeldRequest) → All HeldFits hs → IsFirst n hs k x → HeldFits x
held_at hs n k x all first = subst HeldFits (sym first.is) (all k x first.within)

issue_same : (n m : ℕ) → Issue n ≡ Issue m → m ≡ n
issue_same n m e = cc

pub number_same : (n m : ℕ) (reply : Reply) (old new : List InFlight) → IsFlown (Issue n) (Replied m reply) old new → m ≡ n
number_same n m reply old new f = issue_same n m f.0

answered_here : (p q : Plain) (n m : ℕ) (reply : Reply) → IsLegalStep p (Issue n) (Replied m reply) q → IsAnswered p n reply q
answered_here p q n m reply l = subst (λ (k : ℕ). IsAnswered p k reply q) (issue_same n m l.0) l.1

pub taken_here : (n m : ℕ) (reply : Reply) (old new : List InFlight) → IsFlown (Issue n) (Replied m reply) old new → IsTakenOut n reply old new
taken_here n m reply old new f = subst (λ (k : ℕ). IsTakenOut k reply old new) (issue_same n m f.0) f.1

pub same_asked : (p : Plain) (v : Books) (n k : ℕ) (x : HeldRequest) (request : Request) → Counted p v → IsFirst n v.held k x → asked_under n p.requests ≡ Some request → request ≡ x.for_entry
same_asked p v n k x request h first asked =
    let e : Some request ≡ Some x.for_entry = sym asked ∙ ap (asked_under n) (sym h.held) ∙ asked_first n v.held k x first in
    cc

-- a reply fits the room of its request
room_fits : (op : Op) (range : Range) (reply : Reply) (n : ℕ) → Fits op range reply → n ≡ room_at op range.count → FitsReply n reply
room_fits Read range (Data bytes) n f is = is ∙ sym f
room_fits (Write sent) range (Data bytes) n f is = absurd f
room_fits Flush range (Data bytes) n f is = absurd f
room_fits op range Written n f is = tt
room_fits op range Flushed n f is = tt
room_fits op range (Refused failure) n f is = tt

pub fits_held : (p : Plain) (v : Books) (n k : ℕ) (x : HeldRequest) (reply : Reply) (new : List InFlight) → Counted p v → IsFirst n v.held k x → IsTakenOut n reply p.requests new
    → FitsReply (length x.entry_room) reply × FitsReply (length x.receipt_room) reply
fits_held p v n k x reply new h first t =
    let fit = held_at v.held n k x h.fits first in
    let asked : t.request ≡ x.for_entry = same_asked p v n k x t.request h first t.asked in (
      room_fits t.request.op t.request.range reply (length x.entry_room) t.fits (fit.entry_room ∙ ap room_of (sym asked)),
      room_fits t.request.op t.request.range reply (length x.receipt_room) t.fits (fit.receipt_room ∙ ap room_of (sym asked)),
    )

left_fits : (hs : List HeldRequest) (k : ℕ) → All HeldFits hs → All HeldFits (remove hs k)
left_fits hs k all = All-append HeldFits (take k hs) (drop (suc k) hs) (All-take HeldFits k hs all) (All-drop HeldFits (suc k) hs all)

-- one more for a seat
counted_one : (counts : List ℕ) (es : List Entry) (a : AnsweredEntry) (s folded : ℕ) → a.seat < length counts → get_or counts s 0 ≡ folded + length (entries_by s es)
    → get_or (set counts a.seat (get_or counts a.seat 0 + 1)) s 0 ≡ folded + length (entries_by s (es ++ Answered a ∷ []))
counted_one counts es a s folded within was = elim (cases_eq a.seat s) [
  | inl same ↦
      let new : get_or (set counts a.seat (get_or counts a.seat 0 + 1)) s 0 ≡ get_or counts s 0 + 1 = subst (λ (j : ℕ). get_or (set counts a.seat (get_or counts a.seat 0 + 1)) j 0 ≡ get_or counts j 0 + 1) same (get_or-set_same counts a.seat (get_or counts a.seat 0 + 1) 0 within) in
      omega (arith, new, was, ap length (entries_by_mine s es a same), length-append (entries_by s es) (a ∷ []))
  | inr apart ↦ get_or-set_other counts a.seat s (get_or counts a.seat 0 + 1) 0 (λ e. apart (sym e)) ∙ was ∙ ap (λ (xs : List AnsweredEntry). folded + length xs) (sym (entries_by_other s es a apart))
]

-- the entry of a request that was answered
abbrev pub answer_of : HeldRequest → ℕ → Reply → AnsweredEntry
answer_of x seat reply = record { seat = seat; request = x.for_entry; reply = reply }

module _ (loud told : Bool) (p : Plain) (v : Books) (h : IsAudit loud told p v) (n k : ℕ) (x : HeldRequest) (first : IsFirst n v.held k x) where
  pub left : length (remove v.held k) + 1 ≡ length v.held
  left = length-remove v.held k first.within

  pub entry_room : length v.entries < v.room
  entry_room = omega (arith, h.counted.entries, h.counted.room, left)

  module _ (seat : ℕ) (mine : x.seat ≡ seat) where
    pub low : seat < 9
    low = let fit = held_at v.held n k x h.counted.fits first in omega (arith, fit.seat, mine)

    pub within : seat < length v.counts
    within = omega (arith, low, h.counted.seats)

module _ (loud loud' told : Bool) (p q : Plain) (v : Books) (room' : ℕ) (h : IsAudit loud told p v) (same : loud' ≡ loud) (count : length q.saved ≡ length p.saved)
    (room : room' ≡ v.room) (n k : ℕ) (x : HeldRequest) (first : IsFirst n v.held k x) (seat : ℕ) (mine : x.seat ≡ seat) where
  inside : seat < length v.counts
  inside = within loud told p v h n k x first seat mine

  less : length (remove v.held k) + 1 ≡ length v.held
  less = left loud told p v h n k x first

  module _ (reply : Reply) where
    abbrev issued_books : Books
    issued_books = record v { entries = v.entries ++ Answered (answer_of x seat reply) ∷ []; held = remove v.held k; counts = set v.counts seat (get_or v.counts seat 0 + 1); room = room' }

    issued_counted : IsTakenOut n reply p.requests q.requests → Counted q issued_books
    issued_counted t = record {
      fits = left_fits v.held k h.counted.fits;
      held = sym (without_first n v.held k x first) ∙ ap (without n) h.counted.held ∙ sym t.gone;
      counts = λ s lt. counted_one v.counts v.entries (answer_of x seat reply) s (get_or v.folded s 0) inside (h.counted.counts s lt);
      seats = length-set v.counts seat (get_or v.counts seat 0 + 1) ∙ h.counted.seats;
      folds = h.counted.folds;
      lives = h.counted.lives ∙ sym count;
      may = h.counted.may ∙ sym count;
      entries = omega (arith, length-append v.entries (Answered (answer_of x seat reply) ∷ []), less, h.counted.entries);
      room = omega (arith, h.counted.room, room);
    }

    issued_replays : Replays p v → IsAnswered p n reply q → Replays q issued_books
    issued_replays r a =
        let asked : a.request ≡ x.for_entry = same_asked p v n k x a.request h.counted first a.asked in
        let serves : Serves p x.for_entry.dev x.for_entry.op x.for_entry.range reply q = subst (λ (y : Request). Serves p y.dev y.op y.range reply q) asked a.served in
        let made : shown_of q ≡ served x.for_entry.dev x.for_entry.op x.for_entry.range.first reply (shown_of p) = served_is p q x.for_entry.dev x.for_entry.op x.for_entry.range reply serves in
        let lawful : IsLawful (shown_of p) (Answered (answer_of x seat reply)) = subst (λ (s : Shown). Serves (plain_in (shown_of p)) x.for_entry.dev x.for_entry.op x.for_entry.range reply (plain_in s)) made (lawful_is p q x.for_entry.dev x.for_entry.op x.for_entry.range reply serves) in record {
          replay_is = replay_then v.base v.entries (Answered (answer_of x seat reply) ∷ []) ∙ ap (λ s. served x.for_entry.dev x.for_entry.op x.for_entry.range.first reply s) r.replay_is ∙ sym made;
          lawful = lawful_then v.base v.entries (Answered (answer_of x seat reply) ∷ []) r.lawful (subst (λ (s : Shown). IsLawful s (Answered (answer_of x seat reply))) (sym r.replay_is) lawful, tt);
          lives = r.lives ∙ sym (lives_served p q x.for_entry.dev x.for_entry.op x.for_entry.range reply serves);
          may = r.may ∙ sym (opens_served p q x.for_entry.dev x.for_entry.op x.for_entry.range reply serves);
        }

    pub issued_keeps : (m : ℕ) → IsFlown (Issue n) (Replied m reply) p.requests q.requests → (loud ≡ true → IsLegalStep p (Issue n) (Replied m reply) q) → IsAudit loud' told q issued_books
    issued_keeps m flown legal = record {
      counted = issued_counted (taken_here n m reply p.requests q.requests flown);
      loud_is = λ on. same ∙ h.loud_is on;
      replays = λ on. issued_replays (h.replays on) (answered_here p q n m reply (legal (h.loud_is on)));
    }

-- an Issue that gave no reply: no array changed, and the request stays
pub going_keeps : (loud loud' told : Bool) (p q : Plain) (v : Books) → IsAudit loud told p v → loud' ≡ loud → length q.saved ≡ length p.saved → q.requests ≡ p.requests → (loud ≡ true → q ≡ p) → IsAudit loud' told q v
going_keeps loud loud' told p q v h same count requests still = record {
  counted = record {
    fits = h.counted.fits;
    held = h.counted.held ∙ sym requests;
    counts = h.counted.counts;
    seats = h.counted.seats;
    folds = h.counted.folds;
    lives = h.counted.lives ∙ sym count;
    may = h.counted.may ∙ sym count;
    entries = h.counted.entries;
    room = h.counted.room;
  };
  loud_is = λ on. same ∙ h.loud_is on;
  replays = λ on. subst (λ (x : Plain). Replays x v) (sym (still (h.loud_is on))) (h.replays on);
}

-- and it is a flush's
pub going_is : (p : Plain) (v : Books) (n k : ℕ) (x : HeldRequest) (new : List InFlight) (held : List Seated) → Counted p v → IsFirst n v.held k x → IsLeftGoing n p.requests new → map seated v.held ≡ held
    → (y : Seated) × (seated_under n held ≡ Some y) × (y.request.op ≡ Flush)
going_is p v n k x new held h first going are =
    let same : going.request ≡ x.for_entry = same_asked p v n k x going.request h first going.asked in
    (seated x, ap (seated_under n) (sym are) ∙ seated_first n v.held k x first, ap (λ (r : Request). r.op) (sym same) ∙ going.flush)

-- a request as it is kept
kept_again : (op : Op) (range : Range) → kept_range op (kept_range op range) ≡ kept_range op range
kept_again Read range = refl
kept_again (Write sent) range = refl
kept_again Flush range = refl

-- it needs as much room
room_kept : (op : Op) (range : Range) → room_at op range.count ≡ room_at op (kept_range op range).count
room_kept Read range = refl
room_kept (Write sent) range = refl
room_kept Flush range = refl

pub kept_room : (request : Request) → room_of request ≡ room_of (kept request)
kept_room request = room_kept request.op request.range

pub submitted_kept : (which : List ℕ) (p : Plain) (number : ℕ) (request : Request) (q : Plain) → IsSubmitted which p number request q → IsSubmitted which p number (kept request) q
submitted_kept which p number request q s = record {
  writable = s.writable;
  becomes = s.becomes ∙ ap (λ (range : Range). record p { saved = (spoiled which p).saved; requests = p.requests ++ record { number = number; request = record request { range = range } } ∷ [] }) (sym (kept_again request.op request.range));
}

-- a request that was submitted
one_fits : (x : HeldRequest) → HeldFits x → All HeldFits (x ∷ [])
one_fits x fits zero d lt = fits
one_fits x fits (suc k) d lt = absurd (omega (arith, lt))

pub submitted_keeps : (loud loud' told : Bool) (p q : Plain) (v : Books) (x : HeldRequest) (number : ℕ) (request : Request) (lives' : List Bool) (es' : List Entry) (room' : ℕ) → IsAudit loud told p v
    → loud' ≡ loud → length q.saved ≡ length p.saved → q.requests ≡ p.requests ++ record { number = number; request = request } ∷ []
    → (loud ≡ true → (which : List ℕ) × IsSubmitted which p number request q)
    → Noted (length q.saved) q.saved v.lives lives' v.entries es' → room' ≡ v.room
    → HeldFits x → x.number ≡ number → x.for_entry ≡ request → v.taken + length v.entries + length v.held + kept_count v.lives v.may + 1 ≤ 65_536
    → IsAudit loud' told q (record v { entries = es'; lives = lives'; held = v.held ++ x ∷ []; room = room' })
submitted_keeps loud loud' told p q v x number request lives' es' room' h same count flown submitted noted room fits numbered asked free =
    let one : in_flight x ≡ (let y : InFlight = record { number = number; request = request } in y) = (λ i. record { number = numbered i; request = asked i }) in record {
      counted = record {
        fits = All-append HeldFits v.held (x ∷ []) h.counted.fits (one_fits x fits);
        held = map-append in_flight v.held (x ∷ []) ∙ ap (λ (ys : List InFlight). ys ++ in_flight x ∷ []) h.counted.held ∙ ap (λ y. p.requests ++ y ∷ []) one ∙ sym flown;
        counts = λ seat lt. h.counted.counts seat lt ∙ ap (λ (es : List AnsweredEntry). get_or v.folded seat 0 + length es) (sym (ap (entries_by seat) noted.entries_are ∙ entries_by_spoils seat v.entries noted.which));
        seats = h.counted.seats;
        folds = h.counted.folds;
        lives = noted.same_length ∙ h.counted.lives ∙ sym count;
        may = h.counted.may ∙ sym count;
        entries = omega (arith, free, length-append v.held (x ∷ []), ap length noted.entries_are, length-append v.entries (map Spoiled noted.which), length-map noted.which Spoiled, noted.room, noted_may (length q.saved) q.saved v.lives lives' v.may v.entries es' any_shown noted);
        room = omega (arith, h.counted.room, room);
      };
      loud_is = λ on. same ∙ h.loud_is on;
      replays = λ on. let s = submitted (h.loud_is on) in
          let r = noted_replays p q v s.0 lives' es' room' (h.replays on) (ap (λ (y : Plain). y.origin) s.1.becomes) (ap (λ (y : Plain). y.begun) s.1.becomes) (ap (λ (y : Plain). y.saved) s.1.becomes) noted in record {
            replay_is = r.replay_is;
            lawful = r.lawful;
            lives = r.lives;
            may = r.may;
          };
    }

-- a request that was refused
spoiled_nothing : (p q : Plain) → q ≡ p → Spoils [] p q
spoiled_nothing p q same = same ∙ (λ i. record { origin = p.origin; begun = p.begun; saved = sym (no_spoil p.saved) i; requests = p.requests })
  where
    no_spoil : (xs : List ShownEntry) → map (spoiled_entry []) xs ≡ xs
    no_spoil [] = refl
    no_spoil (y ∷ ys) = ap (λ zs. y ∷ zs) (no_spoil ys)

pub declined_spoils : (request : Request) (refusal : Refusal) (p q : Plain) → refusal ≢ Overflow → IsDeclined request refusal p q → (which : List ℕ) × Spoils which p q
declined_spoils request refusal p q other (inl same) = ([], spoiled_nothing p q same)
declined_spoils request refusal p q other (inr (number, bytes, dev, op, inl full)) = (number ∷ [], full.2)
declined_spoils request refusal p q other (inr (number, bytes, dev, op, inr marked)) = absurd (other marked.0)

-- a new audit
abbrev pub new_books : Shown → ℕ → List Bool → List Bool → List ℕ → List ℕ → ℕ → Books
new_books base taken lives may counts folded room = record { base = base; taken = taken; entries = []; held = []; lives = lives; may = may; counts = counts; folded = folded; room = room }

zeros : (n s z : ℕ) → z ≡ 0 → get_or (replicate n z) s z ≡ z
zeros zero s z e = refl
zeros (suc n) zero z e = refl
zeros (suc n) (suc s) z e = zeros n s z e

pub none_yet : (counts : List ℕ) (s : ℕ) → counts ≡ replicate 9 0 → get_or counts s 0 ≡ 0
none_yet counts s nought = ap (λ (l : List ℕ). get_or l s 0) nought ∙ zeros 9 s 0 refl

pub new_keeps : (loud told : Bool) (p : Plain) (base : Shown) (taken : ℕ) (lives may : List Bool) (counts folded : List ℕ) (room : ℕ) → p.requests ≡ [] → (told ≡ true → loud ≡ true) → (told ≡ true → base ≡ shown_of p) → lives ≡ map is_live p.saved → may ≡ map is_open p.saved → taken + kept_count lives may ≤ 65_536 → 65_536 ≤ room → counts ≡ replicate 9 0 → folded ≡ replicate 9 0
    → IsAudit loud told p (new_books base taken lives may counts folded room)
new_keeps loud told p base taken lives may counts folded room quiet on begins are opens few enough nought none = record {
  counted = record {
    fits = All-nil HeldFits;
    held = sym quiet;
    counts = λ s lt. omega (arith, none_yet counts s nought, none_yet folded s none);
    seats = ap length nought;
    folds = ap length none;
    lives = ap length are ∙ length-map p.saved is_live;
    may = ap length opens ∙ length-map p.saved is_open;
    entries = omega (arith, few);
    room = enough;
  };
  loud_is = on;
  replays = λ yes'. record { replay_is = begins yes'; lawful = tt; lives = are; may = opens };
}

-- a call that nobody sees
pub quiet_keeps : (loud loud' told : Bool) (p q : Plain) (v : Books) → IsAudit loud told p v → loud' ≡ loud → q ≡ p → IsAudit loud' told q v
quiet_keeps loud loud' told p q v h same plain =
    subst (λ (x : Plain). IsAudit loud' told x v) (sym plain) (record { counted = h.counted; loud_is = λ on. same ∙ h.loud_is on; replays = h.replays })
