-- What is true under a lock stays true.
use Rattle.std.proofs.Common.{◌≡◌, inl, inr, ℕ, ◌+◌, Bool, List, [], ◌∷◌, ◌++◌, length, Option, Some, None, refl, sym, ap, ◌∙◌, subst, arith, append_assoc, if◌then◌else◌, length-append}
use Rattle.std.specs.Prelude.{◌≢◌, ◌&&◌, slice_index_or}
use Rattle.std.proofs.lemmas.Bool.{eq-eqb}
use Rattle.sector.specs.declared.range.Range.{Range}
use Rattle.plain_machine.specs.Kept.{kept, kept_range}
use Rattle.atomic_table.specs.Seated.{TableId}
use Rattle.atomic_table.specs.declared.shared.Seat.{Seat}
use Rattle.device.specs.Layers.{Layer}
use Rattle.plain_machine.specs.declared.event.Event.{Event}
use Rattle.plain_machine.specs.declared.event.Event.TheVariants.{Issue}
use Rattle.plain_machine.specs.declared.event.Outcome.{Outcome}
use Rattle.plain_machine.specs.declared.event.Outcome.TheVariants.{Done, Fault, Reply as Replied}
use Rattle.plain_machine.specs.declared.request.Op.{Op}
use Rattle.plain_machine.specs.declared.request.Op.TheVariants.{Read, Write, Flush}
use Rattle.plain_machine.specs.declared.request.Reply.{Reply}
use Rattle.plain_machine.specs.declared.request.Request.{Request}
use Rattle.sector.specs.declared.refusal.Refusal.{Refusal}
use Rattle.volume.specs.Flying.{Fits}
use Rattle.audited_volume.specs.declared.entry.Answered.{Answered as AnsweredEntry}
use Rattle.audited_volume.specs.declared.entry.Entry.{Entry}
use Rattle.audited_volume.specs.declared.entry.Entry.TheVariants.{Answered}
use Rattle.audited_volume.specs.declared.entry.Receipt.{Receipt}
use Rattle.audited_volume.specs.Books.{AuditShape}
use Rattle.audited_volume.specs.Entries.{answered_of, entries_by}
use Rattle.audited_volume.specs.PlacesTaken.{HasReceipt, IsNotMerged, IsNoted, IsSilent, KeepsJournal}
use Rattle.audited_volume.specs.Seats.{IsUnanswered, Seated, may_do, seated_under, without_seated}
use Rattle.audited_volume.proofs.Receipts.{may_other}
use Rattle.locked_volume.specs.Keeping.{Begins, answered_by, asked_by, keeper_of, looking_of, seated_with}
use Rattle.locked_volume.specs.declared.rule.View.{View}
use Rattle.locked_volume.specs.declared.told.Told.{Told}
use Rattle.locked_volume.proofs.Moves.{entries_by-append}
use Rattle.locked_volume.specs.Fixed.{Fixed, StaysFrom, count_at, fixed_of}
use Rattle.locked_volume.specs.Posts.{IsKeeper, PostHolds, with_more}
use Rattle.locked_volume.specs.Seats.{IsReceipted, IsSeat}
use Rattle.locked_volume.proofs.Fresh.{fresh_in, knows_more}
use Rattle.locked_volume.proofs.Staying.{stays_not_begun}

-- a request that is no flush is kept as it is
range_same : (op : Op) (range : Range) → op ≢ Flush → range ≡ kept_range op range
range_same Read range other = refl
range_same (Write bytes) range other = refl
range_same Flush range other = absurd (other refl)

pub kept_same : (request : Request) → request.op ≢ Flush → request ≡ kept request
kept_same request other = ap (λ (range : Range). record request { range = range }) (range_same request.op request.range other)

-- a seat's entries are those of the start, and then its own
pub settled_own : (start all entries old : List Entry) (mine : List _) (seat s : ℕ) → entries ≡ start ++ all → s ≡ seat → entries_by s all ≡ entries_by s old ++ mine
    → entries_by seat entries ≡ entries_by seat start ++ (entries_by seat old ++ mine)
settled_own start all entries old mine seat s is by own =
    ap (entries_by seat) is ∙ entries_by-append seat start all ∙ ap (λ l. entries_by seat start ++ l) (subst (λ n. entries_by n all ≡ entries_by n old ++ mine) by own)

-- a receipt's count is the place of its entry among the seat's
pub counted_from : (start all entries old : List Entry) (mine : List _) (seat s : ℕ) (folds now : List ℕ) (count : ℕ) → entries ≡ start ++ all → s ≡ seat → now ≡ folds → entries_by s all ≡ entries_by s old ++ mine
    → count ≡ slice_index_or now seat 0 + length (entries_by seat entries) + 1 → count ≡ (slice_index_or folds seat 0 + length (entries_by seat start)) + length (entries_by seat old ++ mine) + 1
counted_from start all entries old mine seat s folds now count is by folded own counts =
    let long = ap length (settled_own start all entries old mine seat s is by own) ∙ length-append (entries_by seat start) (entries_by seat old ++ mine) in
    let same = ap (λ (l : List ℕ). slice_index_or l seat 0) folded in
    omega (arith, long, same, counts)

-- the one entry of a seat
one_by : (seat : ℕ) (a : AnsweredEntry) → a.seat ≡ seat → entries_by seat (Answered a ∷ []) ≡ a ∷ []
one_by seat a by = ap (λ (b : Bool). if b then (a ∷ []) else []) (eq-eqb a.seat seat by)

module _ {B : Type 0} (size : B → ℕ) (layers : B → List Layer) (history : TableId) (start : List Entry) (fixed : Fixed) where
  -- new entries were told, none of which answers a request
  pub noted_holds : (a b : AuditShape B) (keeper after : Seat Told View) (es fs more : List Entry) → PostHolds size layers history start fixed a keeper
      → IsKeeper history after → after.me.0 ≡ with_more (fresh_in es fs) keeper.me.0 → es ≡ b.entries → fs ≡ a.entries → b.entries ≡ a.entries ++ more → b.held ≡ a.held
      → StaysFrom fixed (fixed_of size layers b) → PostHolds size layers history start fixed b after
  noted_holds a b keeper after es fs more h is told now was added held stays = record {
    is_keeper = is;
    knows = knows_more start keeper.me.0.all es fs a.entries b.entries more now was h.knows added ∙ ap (λ (v : View). start ++ v.all) (sym told);
    flying = ap (λ (v : View). v.flying) told ∙ h.flying ∙ sym held;
    stays = stays;
  }

  -- the same, and a request is in flight
  pub asked_holds : (a b : AuditShape B) (keeper told after : Seat Told View) (me : View) (es fs more : List Entry) (number seat : ℕ) (request said : Request) → request.op ≢ Flush → PostHolds size layers history start fixed a keeper
      → IsKeeper history told → told.me.0 ≡ with_more (fresh_in es fs) keeper.me.0 → es ≡ b.entries → fs ≡ a.entries → b.entries ≡ a.entries ++ more
      → b.held ≡ a.held ++ record { number = number; seat = seat; request = kept request } ∷ []
      → after.table_id ≡ history → after.me.1 ≡ [] → after.me.0 ≡ keeper_of (asked_by number said (seated_with told.me.0 me)) → me.seat ≡ seat → said ≡ request
      → StaysFrom fixed (fixed_of size layers b) → PostHolds size layers history start fixed b after
  asked_holds a b keeper told after me es fs more number seat request said plain h is tells now was added held table bare asks by same stays = record {
    is_keeper = record {
      table = table;
      bare = bare;
      keeps = ap (λ (v : View). v.keeps) asks ∙ is.keeps;
      stands = ap (λ (v : View). v.sits) asks;
    };
    knows = knows_more start keeper.me.0.all es fs a.entries b.entries more now was h.knows added ∙ ap (λ (v : View). start ++ v.all) (sym tells) ∙ ap (λ (v : View). start ++ v.all) (sym asks);
    flying =
        ap (λ (v : View). v.flying) asks
        ∙ (λ i. (tells i).flying ++ record { number = number; seat = by i; request = same i } ∷ []) ∙ ap (λ (l : List Seated). l ++ record { number = number; seat = seat; request = request } ∷ []) h.flying
        ∙ ap (λ (r : Request). a.held ++ record { number = number; seat = seat; request = r } ∷ []) (kept_same request plain) ∙ sym held;
    stays = stays;
  }

  -- a seat looked
  pub looked_holds : (a : AuditShape B) (keeper after : Seat Told View) (me : View) → PostHolds size layers history start fixed a keeper
      → after.table_id ≡ history → after.me.1 ≡ [] → after.me.0 ≡ keeper_of (seated_with keeper.me.0 me) → PostHolds size layers history start fixed a after
  looked_holds a keeper after me h table bare looks = record {
    is_keeper = record {
      table = table;
      bare = bare;
      keeps = ap (λ (v : View). v.keeps) looks ∙ h.is_keeper.keeps;
      stands = ap (λ (v : View). v.sits) looks;
    };
    knows = h.knows ∙ ap (λ (v : View). start ++ v.all) (sym looks);
    flying = ap (λ (v : View). v.flying) looks ∙ h.flying;
    stays = h.stays;
  }

  -- a request is answered, and its entry told
  pub answered_holds : (a b : AuditShape B) (keeper after : Seat Told View) (me : View) (seat number : ℕ) (reply : Reply) (r : Receipt) (e : Entry) → PostHolds size layers history start fixed a keeper
      → after.table_id ≡ history → after.me.1 ≡ [] → after.me.0 ≡ keeper_of (answered_by number e (seated_with keeper.me.0 me)) → e ≡ Answered (answered_of r) → HasReceipt seat number reply r a b
      → StaysFrom fixed (fixed_of size layers b) → PostHolds size layers history start fixed b after
  answered_holds a b keeper after me seat number reply r e h table bare answers is done stays = record {
    is_keeper = record {
      table = table;
      bare = bare;
      keeps = ap (λ (v : View). v.keeps) answers ∙ h.is_keeper.keeps;
      stands = ap (λ (v : View). v.sits) answers;
    };
    knows = done.added ∙ ap (λ (l : List Entry). l ++ Answered (answered_of r) ∷ []) h.knows ∙ append_assoc start keeper.me.0.all (Answered (answered_of r) ∷ [])
        ∙ ap (λ (x : Entry). start ++ (keeper.me.0.all ++ x ∷ [])) (sym is) ∙ ap (λ (v : View). start ++ v.all) (sym answers);
    flying = ap (λ (v : View). v.flying) answers ∙ ap (without_seated number) h.flying ∙ sym done.gone;
    stays = stays;
  }

  -- and there is a receipt for it
  pub receipted : (a b : AuditShape B) (keeper me after : Seat Told View) (seat number : ℕ) (reply : Reply) (r : Receipt) (e : Entry) → PostHolds size layers history start fixed a keeper
      → IsSeat history seat me → after.table_id ≡ history → after.me.1 ≡ [] → after.me.0 ≡ looking_of (answered_by number e (seated_with keeper.me.0 me.me.0)) → e ≡ Answered (answered_of r) → HasReceipt seat number reply r a b
      → seated_under number me.me.0.waits ≡ seated_under number keeper.me.0.flying → entries_by me.me.0.seat keeper.me.0.all ≡ entries_by me.me.0.seat me.me.0.old ++ me.me.0.mine → Begins me.me.0.seen keeper.me.0.all
      → Fits r.request.op r.request.range r.reply → IsReceipted history (count_at fixed start seat) seat me after reply r
  receipted a b keeper me after seat number reply r e h sits table bare looks is done knows own later fits = record {
    is_seat = record {
      table = table;
      bare = bare;
      sits = ap (λ (v : View). v.sits) looks ∙ sits.sits;
      number = ap (λ (v : View). v.seat) looks ∙ sits.number;
    };
    old = ap (λ (v : View). v.old) looks;
    mine = ap (λ (v : View). v.mine) looks ∙ ap (λ (x : Entry). me.me.0.mine ++ entries_by me.me.0.seat (x ∷ [])) is ∙ ap (λ l. me.me.0.mine ++ l) (one_by me.me.0.seat (answered_of r) (done.by ∙ sym sits.number));
    reply = done.answer;
    fits = fits;
    by = done.by;
    count = counted_from start keeper.me.0.all a.entries me.me.0.old me.me.0.mine seat me.me.0.seat fixed.folded a.folded r.count h.knows sits.number h.stays.folded own done.count;
    number = number;
    asked = knows ∙ ap (seated_under number) h.flying ∙ done.asked;
    waits = ap (λ (v : View). v.waits) looks;
    later = (later.0 ++ e ∷ [], ap (λ (v : View). v.seen) looks ∙ ap (λ (l : List Entry). l ++ e ∷ []) later.1 ∙ append_assoc me.me.0.seen later.0 (e ∷ []));
  }

  -- nothing but the volume changed
  pub same_holds : (a b : AuditShape B) (keeper : Seat Told View) → PostHolds size layers history start fixed a keeper → b.entries ≡ a.entries → b.held ≡ a.held
      → StaysFrom fixed (fixed_of size layers b) → PostHolds size layers history start fixed b keeper
  same_holds a b keeper h entries held stays = record { is_keeper = h.is_keeper; knows = entries ∙ h.knows; flying = h.flying ∙ sym held; stays = stays }

  -- a merge did not begin
  pub not_begun_holds : (a b : AuditShape B) (keeper : Seat Told View) (number : ℕ) (refusal : Refusal) → PostHolds size layers history start fixed a keeper → IsNotMerged number refusal a b
      → PostHolds size layers history start fixed b keeper
  not_begun_holds a b keeper number refusal h (inl full) = subst (λ (x : AuditShape B). PostHolds size layers history start fixed x keeper) (sym full.2) h
  not_begun_holds a b keeper number refusal h (inr other) =
      let kept : KeepsJournal a b = other.2 in
      same_holds a b keeper h (ap (λ (x : AuditShape B). x.entries) kept.becomes) (ap (λ (x : AuditShape B). x.held) kept.becomes)
      (stays_not_begun size layers fixed a b number refusal h.stays other.1 kept)

-- an event that gave no reply
pub silent_of : {B : Type 0} (seat : ℕ) (outcome : Outcome) (receipt : Option Receipt) (a b : AuditShape B) → receipt ≡ None → IsNoted seat outcome receipt a b → IsSilent a b
silent_of seat outcome receipt a b none noted = go outcome (subst (λ (r : Option Receipt). IsNoted seat outcome r a b) none noted)
  where
    go : (o : Outcome) → IsNoted seat o None a b → IsSilent a b
    go (Replied n reply) s = absurd s
    go Done s = s
    go Fault s = s

-- an Issue that is done is of a flush
pub silent_done : {B : Type 0} (seat : ℕ) (outcome : Outcome) (receipt : Option Receipt) (a b : AuditShape B) → outcome ≡ Done → IsNoted seat outcome receipt a b → IsSilent a b
silent_done seat outcome receipt a b done noted = go receipt (subst (λ (o : Outcome). IsNoted seat o receipt a b) done noted)
  where
    go : (r : Option Receipt) → IsNoted seat Done r a b → IsSilent a b
    go None s = s
    go (Some r) s = absurd s

pub flush_done : (number : ℕ) (outcome : Outcome) (held : List Seated) → outcome ≡ Done → IsUnanswered (Issue number) outcome held → (x : Seated) × (seated_under number held ≡ Some x) × (x.request.op ≡ Flush)
flush_done number outcome held done is = subst (λ (o : Outcome). IsUnanswered (Issue number) o held) done is

-- a reply has a receipt
pub receipt_of : {B : Type 0} (seat number : ℕ) (reply : Reply) (r : Receipt) (outcome : Outcome) (receipt : Option Receipt) (a b : AuditShape B) → outcome ≡ Replied number reply → receipt ≡ Some r
    → IsNoted seat outcome receipt a b → HasReceipt seat number reply r a b
receipt_of seat number reply r outcome receipt a b replied some noted =
    subst (λ (x : Outcome × Option Receipt). IsNoted seat x.0 x.1 a b) (λ i. (replied i, some i)) noted

pub has_asked : {B : Type 0} (seat number : ℕ) (reply : Reply) (r : Receipt) (a b : AuditShape B) (flying : List Seated) (s : ℕ) → flying ≡ a.held → s ≡ seat → HasReceipt seat number reply r a b
    → (x : Seated) × (seated_under number flying ≡ Some x) × (x.seat ≡ s)
has_asked seat number reply r a b flying s flies by h = (record { number = number; seat = seat; request = r.request }, ap (seated_under number) flies ∙ h.asked, sym by)

-- an event that is no request's, which may be done by anyone, is done just where it is due
pub due_so : (seat : ℕ) (event : Event) (held : List Seated) (ok due : Bool) → ((n : ℕ) → event ≡ Issue n → ⊥) → ok ≡ (may_do seat event held && due) → ok ≡ due
due_so seat event held ok due other is = is ∙ ap (λ (b : Bool). b && due) (may_other seat event held other)
