-- The requests in flight and what was written stay inside their arrays, and no count runs past the requests that there were.
use Rattle.std.proofs.Common.{◌≡◌, inl, inr, ℕ, ◌+◌, ◌*◌, ◌%◌, ◌<◌, ◌≤◌, Bool, true, false, List, [], ◌∷◌, ◌++◌, length, get_or, set, map, Option, Some, None, refl, sym, ◌∙◌, ap, subst, arith, length-append}
use Rattle.std.specs.Prelude.{◌⊎◌, ◌==◌, ◌&&◌, if◌then◌else◌, nat_lt, nat_le, Result, Ok, Err, IfErr, IfOk, OnOk}
use Rattle.std.specs.List.{All, remove}
use Rattle.std.proofs.lemmas.Bool.{cases_eq, false≢true}
use Rattle.std.proofs.lemmas.List.{get_or-set_same, get_or-set_other}
use Rattle.std.proofs.lemmas.List.Edits.{length-remove}
use Rattle.std.proofs.lemmas.List.Elements.{All-append, All-cons, All-head, All-nil, All-tail}
use Rattle.device.specs.Layers.{Layer}
use Rattle.in_flight.specs.Kinds.{kind_of}
use Rattle.sector.specs.declared.range.Range.{Range}
use Rattle.sector.specs.declared.refusal.Refusal.{Refusal}
use Rattle.sector.specs.declared.refusal.Refusal.TheVariants.{NotMerging, OutOfRange}
use Rattle.layers.specs.declared.message.Answer.{Answer}
use Rattle.layers.specs.declared.message.Message.{Message}
use Rattle.merge.specs.Merging.{Merging}
use Rattle.plain_machine.specs.Kept.{kept, kept_range}
use Rattle.plain_machine.specs.Plain.{Plain, InFlight, asked_under, without, Shown, shown_of}
use Rattle.plain_machine.specs.Serves.{Shows}
use Rattle.plain_machine.specs.declared.request.Dev.{Dev}
use Rattle.plain_machine.specs.declared.request.Dev.TheVariants.{Origin, Snap}
use Rattle.plain_machine.specs.declared.request.Op.{Op}
use Rattle.plain_machine.specs.declared.request.Op.TheVariants.{Read, Write, Flush}
use Rattle.plain_machine.specs.declared.request.Reply.{Reply}
use Rattle.plain_machine.specs.declared.request.Reply.TheVariants.{Data, Written, Flushed, Refused}
use Rattle.plain_machine.specs.declared.request.Request.{Request}
use Rattle.volume.specs.Beginning.{IsNotBegun, IsResumed, SameButKept}
use Rattle.volume.specs.Layering.{Measures}
use Rattle.volume.specs.Telling.{IsNotTold, IsRelayeredAt, IsTold, layers_told}
use Rattle.volume.specs.Causes.{counts_of, counts_with}
use Rattle.volume.specs.Flying.{IsTakenOut}
use Rattle.volume.specs.Submitting.{IsFoundFull, IsOverflown, IsRefusedAs, SameButRoom, dev_refusal, first_of_two, is_piece_of, limit_refusal, range_refusal, shut_refusal, starting, submit_refusal}
use Rattle.volume.specs.Volumed.{Volumed, piece_with, plain_of}
use Rattle.audited_volume.specs.declared.entry.Entry.{Entry}
use Rattle.audited_volume.specs.declared.entry.Entry.TheVariants.{Answered, Spoiled}
use Rattle.audited_volume.specs.declared.entry.HeldRequest.{HeldRequest}
use Rattle.audited_volume.specs.Books.{Books, IsAudit, IsBounded}
use Rattle.audited_volume.specs.Inside.{AllInside, IsAsked, IsInside, LiesInside}
use Rattle.audited_volume.specs.Replay.{after, plain_in, replay}
use Rattle.audited_volume.proofs.Beginning.{plain_long}
use Rattle.audited_volume.proofs.Keeping.{answer_of, same_asked}
use Rattle.audited_volume.proofs.Replaying.{IsFirst}

pub inside_then : (s : Shown) (es fs : List Entry) → AllInside s es → AllInside (replay s es) fs → AllInside s (es ++ fs)
inside_then s [] fs all more = more
inside_then s (e ∷ es) fs all more = (all.0, inside_then (after s e) es fs all.1 more)

inside_spoils : (s : Shown) (ns : List ℕ) → AllInside s (map Spoiled ns)
inside_spoils s [] = tt
inside_spoils s (n ∷ ns) = (tt, inside_spoils (after s (Spoiled n)) ns)

-- the requests that are left
but_one : (P : InFlight → Type 0) (b : Bool) (r : InFlight) (rs ws : List InFlight) → All P (r ∷ rs) → All P ws → All P (if b then rs else (r ∷ ws))
but_one P true r rs ws all rest = All-tail P r rs all
but_one P false r rs ws all rest = All-cons P r ws (All-head P r rs all) rest

all_without : (P : InFlight → Type 0) (n : ℕ) (rs : List InFlight) → All P rs → All P (without n rs)
all_without P n [] all = all
all_without P n (r ∷ rs) all = but_one P (r.number == n) r rs (without n rs) all (all_without P n rs (All-tail P r rs all))

-- and the one that was asked for
found_one : (P : Request → Type 0) (b : Bool) (r : InFlight) (rest : Option Request) (request : Request) → P r.request → (rest ≡ Some request → P request) → (if b then Some r.request else rest) ≡ Some request → P request
found_one P true r rest request here later e = let same : r.request ≡ request = cc in subst P same here
found_one P false r rest request here later e = later e

asked_found : (P : Request → Type 0) (n : ℕ) (rs : List InFlight) (request : Request) → All (λ r. P r.request) rs → asked_under n rs ≡ Some request → P request
asked_found P n [] request all e = absurd (cc)
asked_found P n (r ∷ rs) request all e = found_one P (r.number == n) r (asked_under n rs) request (All-head (λ x. P x.request) r rs all) (asked_found P n rs request (All-tail (λ x. P x.request) r rs all)) e

-- the origin stays as large
pub long_kept : {B : Type 0} (contents : B → List ℕ) (layers : B → List Layer) (size : B → ℕ) → ((d : B) → length (contents d) ≡ 512 * size d) → (w w' : Volumed B) → size w'.origin ≡ size w.origin
    → length (plain_of contents layers w').origin ≡ length (plain_of contents layers w).origin
long_kept contents layers size whole w w' same = omega (arith, plain_long contents layers w, plain_long contents layers w', whole w.origin, whole w'.origin, same)

first_count : {B : Type 0} (size : B → ℕ) (merge : Option (Merging B)) (n : ℕ) (ns : List ℕ) → get_or (counts_with size merge (n ∷ ns)) 0 0 ≡ n
first_count size None n ns = refl
first_count size (Some m) n ns = refl

pub size_kept : {B : Type 0} (size : B → ℕ) (w w' : Volumed B) → counts_of size w' ≡ counts_of size w → size w'.origin ≡ size w.origin
size_kept size w w' same =
    sym (first_count size w'.merge (size w'.origin) (map (λ s. size s.device) w'.snaps)) ∙ ap (λ (l : List ℕ). get_or l 0 0) same ∙ first_count size w.merge (size w.origin) (map (λ s. size s.device) w.snaps)

-- nothing but the journal's length and the spoiled snapshots change
module _ (given given' : ℕ) (told told' : Bool) (p q : Plain) (v : Books) (b : IsBounded given told p v) (same : given' ≡ given) (still : told' ≡ true → told ≡ true) (long : length q.origin ≡ length p.origin) (requests : q.requests ≡ p.requests) where
  asked_still : All (λ r. IsAsked (length q.origin) r.request) q.requests
  asked_still = subst (λ (n : ℕ). All (λ r. IsAsked n r.request) q.requests) (sym long) (subst (All (λ r. IsAsked (length p.origin) r.request)) (sym requests) b.asked)

  pub quiet_bounds : IsBounded given' told' q v
  quiet_bounds = record { asked = asked_still; made = λ s lt. omega (arith, same, b.made s lt); inside = λ on. b.inside (still on) }

  pub entry_bounds : (e : Entry) (lives' may' : List Bool) (room' : ℕ) → IsInside (replay v.base v.entries) e → IsBounded given' told' q (record v { entries = v.entries ++ e ∷ []; lives = lives'; may = may'; room = room' })
  entry_bounds e lives' may' room' lies = record {
    asked = asked_still;
    made = λ s lt. omega (arith, same, b.made s lt);
    inside = λ on. inside_then v.base v.entries (e ∷ []) (b.inside (still on)) (lies, tt);
  }

  spoils_inside : (which : List ℕ) (es' : List Entry) → es' ≡ v.entries ++ map Spoiled which → told' ≡ true → AllInside v.base es'
  spoils_inside which es' are on = subst (AllInside v.base) (sym are) (inside_then v.base v.entries (map Spoiled which) (b.inside (still on)) (inside_spoils (replay v.base v.entries) which))

  pub spoilt_bounds : (which : List ℕ) (lives' : List Bool) (es' : List Entry) (room' : ℕ) → es' ≡ v.entries ++ map Spoiled which → IsBounded given' told' q (record v { entries = es'; lives = lives'; room = room' })
  spoilt_bounds which lives' es' room' are = record { asked = asked_still; made = λ s lt. omega (arith, same, b.made s lt); inside = spoils_inside which es' are }

-- a request that was submitted
pub submitted_bounds : (given given' : ℕ) (told : Bool) (p q : Plain) (v : Books) (x : HeldRequest) (number : ℕ) (request : Request) (which : List ℕ) (lives' : List Bool) (es' : List Entry) (room' : ℕ) → IsBounded given told p v
    → given' ≡ number → number ≡ given + 1 → length q.origin ≡ length p.origin → q.requests ≡ p.requests ++ record { number = number; request = request } ∷ [] → IsAsked (length p.origin) request → es' ≡ v.entries ++ map Spoiled which
    → IsBounded given' told q (record v { entries = es'; lives = lives'; held = v.held ++ x ∷ []; room = room' })
submitted_bounds given given' told p q v x number request which lives' es' room' b now next long requests asked are = record {
  asked = subst (λ (n : ℕ). All (λ r. IsAsked n r.request) q.requests) (sym long) (subst (All (λ r. IsAsked (length p.origin) r.request)) (sym requests)
      (All-append (λ r. IsAsked (length p.origin) r.request) p.requests (record { number = number; request = request } ∷ []) b.asked
      (All-cons (λ r. IsAsked (length p.origin) r.request) (record { number = number; request = request }) [] asked (All-nil (λ r. IsAsked (length p.origin) r.request)))));
  made = λ s lt. omega (arith, length-append v.held (x ∷ []), now, next, b.made s lt);
  inside = λ on. subst (AllInside v.base) (sym are) (inside_then v.base v.entries (map Spoiled which) (b.inside on) (inside_spoils (replay v.base v.entries) which));
}

-- a range that is admitted lies inside
and_both : (a c d : Bool) → (a && c && d) ≡ true → c ≡ true
and_both true true d e = refl
and_both true false d e = e
and_both false c d e = absurd (false≢true e)

le_true : (m n : ℕ) → nat_le m n ≡ true → m ≤ n
le_true m n e = search (arith)

third_none : (a b c d : Option Refusal) → first_of_two a (first_of_two b (first_of_two c d)) ≡ None → c ≡ None
third_none None None None d e = refl
third_none None None (Some r) d e = absurd (cc)
third_none None (Some r) c d e = absurd (cc)
third_none (Some r) b c d e = absurd (cc)

admitted_range : (b : Bool) → (if b then None else Some OutOfRange) ≡ None → b ≡ true
admitted_range true e = refl
admitted_range false e = absurd (cc)

pub admitted_inside : {B : Type 0} (size : B → ℕ) (request : Request) (w : Volumed B) → submit_refusal size request w ≡ None → (kept request).range.first + (kept request).range.count ≤ size w.origin
admitted_inside size request w e =
    let asked : Range = kept_range request.op request.range in
    let range = third_none (dev_refusal request.dev w.merge w.snaps) (shut_refusal (kind_of request) w.snaps) (range_refusal (piece_with w.merge w.snaps) (size w.origin) asked) (limit_refusal (starting (kind_of request) request.range.first w.merge w.snaps) w) e in
    let piece = admitted_range (is_piece_of (piece_with w.merge w.snaps) (size w.origin) asked) range in
    le_true (asked.first + asked.count) (size w.origin) (and_both (nat_lt 0 asked.count) (nat_le (asked.first + asked.count) (size w.origin)) (nat_le (asked.first % piece_with w.merge w.snaps + asked.count) (piece_with w.merge w.snaps)) piece)

-- a write is kept as it is
kept_long : (op : Op) (range : Range) → ((bytes : List ℕ) → op ≡ Write bytes → length bytes ≡ 512 * range.count) → (bytes : List ℕ) → op ≡ Write bytes → length bytes ≡ 512 * (kept_range op range).count
kept_long Read range long bytes e = absurd (cc)
kept_long (Write sent) range long bytes e = long bytes e
kept_long Flush range long bytes e = absurd (cc)

pub admitted_asked : {B : Type 0} (contents : B → List ℕ) (layers : B → List Layer) (size : B → ℕ) → ((d : B) → length (contents d) ≡ 512 * size d) → (request : Request) (w : Volumed B) → submit_refusal size request w ≡ None
    → ((bytes : List ℕ) → request.op ≡ Write bytes → length bytes ≡ 512 * request.range.count) → IsAsked (length (plain_of contents layers w).origin) (kept request)
admitted_asked contents layers size whole request w admitted bytes = record {
  inside = omega (arith, admitted_inside size request w admitted, plain_long contents layers w, whole w.origin);
  whole = kept_long request.op request.range bytes;
}

-- a refused request is given no number
pub refused_given : {B : Type 0} (contents : B → List ℕ) (layers : B → List Layer) (size : B → ℕ) (request : Request) (refusal : Refusal) (w w' : Volumed B) → IsRefusedAs contents layers size request refusal w w' → w'.requests ≡ w.requests
refused_given contents layers size request refusal w w' (inl same) = ap (λ (y : Volumed _). y.requests) same.1
refused_given contents layers size request refusal w w' (inr (inl same)) = let room : SameButRoom w w' = same.2 in ap (λ (y : Volumed _). y.requests) room.becomes
refused_given contents layers size request refusal w w' (inr (inr (inl full))) = let found : IsFoundFull contents layers full.2.0 _ w w' = full.2.2 in ap (λ (y : Volumed _). y.requests) found.becomes
refused_given contents layers size request refusal w w' (inr (inr (inr full))) = let found : IsOverflown contents layers full.2.0 _ w w' = full.2.2 in ap (λ (y : Volumed _). y.requests) found.becomes

-- a request that was answered
shows_bare : (p : Plain) (dev : Dev) (array : List ℕ) → Shows (plain_in (shown_of p)) dev array → Shows p dev array
shows_bare p Origin array shows = shows
shows_bare p (Snap number) array shows = shows

lies : (p : Plain) (dev : Dev) (op : Op) (first count : ℕ) (reply : Reply) → ((array : List ℕ) → Shows p dev array → length array ≡ length p.origin) → 512 * (first + count) ≤ length p.origin
    → ((bytes : List ℕ) → op ≡ Write bytes → length bytes ≡ 512 * count) → LiesInside (shown_of p) dev op first reply
lies p dev Read first count reply whole inside bytes = tt
lies p dev Flush first count reply whole inside bytes = tt
lies p dev (Write sent) first count (Data read) whole inside bytes = tt
lies p dev (Write sent) first count Written whole inside bytes = λ array shows. omega (arith, whole array (shows_bare p dev array shows), inside, bytes sent refl)
lies p dev (Write sent) first count Flushed whole inside bytes = tt
lies p dev (Write sent) first count (Refused failure) whole inside bytes = tt

module _ (given given' : ℕ) (loud told : Bool) (p q : Plain) (v : Books) (room' : ℕ) (h : IsAudit loud told p v) (b : IsBounded given told p v) (n k : ℕ) (x : HeldRequest) (first : IsFirst n v.held k x) where
  fewer : length (remove v.held k) + 1 ≡ length v.held
  fewer = length-remove v.held k first.within

  pub count_low : (seat : ℕ) → seat < 9 → given ≤ 18_446_744_073_709_551_615 → get_or v.counts seat 0 < 18_446_744_073_709_551_615
  count_low seat low le = omega (arith, b.made seat low, fewer, le)

  made_one : (seat s : ℕ) → given' ≡ given → seat < 9 → s < 9 → get_or (set v.counts seat (get_or v.counts seat 0 + 1)) s 0 + length (remove v.held k) ≤ given'
  made_one seat s same low lt = elim (cases_eq seat s) [
    | inl is ↦
        let new : get_or (set v.counts seat (get_or v.counts seat 0 + 1)) s 0 ≡ get_or v.counts s 0 + 1 = subst (λ (j : ℕ). get_or (set v.counts seat (get_or v.counts seat 0 + 1)) j 0 ≡ get_or v.counts j 0 + 1) is (get_or-set_same v.counts seat (get_or v.counts seat 0 + 1) 0 (omega (arith, h.counted.seats, low))) in
        omega (arith, new, b.made s lt, fewer, same)
    | inr apart ↦ (let new = get_or-set_other v.counts seat s (get_or v.counts seat 0 + 1) 0 (λ e. apart (sym e)) in omega (arith, new, b.made s lt, fewer, same))
  ]

  pub issued_bounds : given' ≡ given → length q.origin ≡ length p.origin → (seat : ℕ) → seat < 9 → (reply : Reply) → IsTakenOut n reply p.requests q.requests → ((dev : Dev) (array : List ℕ) → Shows p dev array → length array ≡ length p.origin)
      → IsBounded given' told q (record v { entries = v.entries ++ Answered (answer_of x seat reply) ∷ []; held = remove v.held k; counts = set v.counts seat (get_or v.counts seat 0 + 1); room = room' })
  issued_bounds same long seat low reply t whole =
      let mine : IsAsked (length p.origin) x.for_entry = subst (IsAsked (length p.origin)) (same_asked p v n k x t.request h.counted first t.asked) (asked_found (IsAsked (length p.origin)) n p.requests t.request b.asked t.asked) in record {
        asked = subst (λ (m : ℕ). All (λ r. IsAsked m r.request) q.requests) (sym long) (subst (All (λ r. IsAsked (length p.origin) r.request)) (sym t.gone) (all_without (λ r. IsAsked (length p.origin) r.request) n p.requests b.asked));
        made = λ s lt. made_one seat s same low lt;
        inside = λ on. let r = h.replays on in
            inside_then v.base v.entries (Answered (answer_of x seat reply) ∷ []) (b.inside on)
            (subst (λ (s : Shown). IsInside s (Answered (answer_of x seat reply))) (sym r.replay_is) (lies p x.for_entry.dev x.for_entry.op x.for_entry.range.first x.for_entry.range.count reply (whole x.for_entry.dev) mine.inside mine.whole), tt);
      }

-- none is in flight
pub new_bounds : (given : ℕ) (told : Bool) (p : Plain) (v : Books) → p.requests ≡ [] → v.held ≡ [] → v.entries ≡ [] → ((s : ℕ) → s < 9 → get_or v.counts s 0 ≡ 0) → IsBounded given told p v
new_bounds given told p v quiet held entries nought = record {
  asked = subst (All (λ r. IsAsked (length p.origin) r.request)) (sym quiet) (All-nil (λ r. IsAsked (length p.origin) r.request));
  made = λ s lt. omega (arith, nought s lt, ap length held);
  inside = λ on. subst (AllInside v.base) (sym entries) tt;
}

-- what changes layers, and nothing that callers see
relayered_given : {B : Type 0} (m : Measures B) (layers : B → List Layer) (dev : Dev) (f : List Layer → List Layer) (w w' : Volumed B) → IsRelayeredAt m layers dev f w w' → w'.requests ≡ w.requests
relayered_given m layers Origin f w w' is = ap (λ (y : Volumed _). y.requests) is.becomes
relayered_given m layers (Snap number) f w w' (inl is) = ap (λ (y : Volumed _). y.requests) is.becomes
relayered_given m layers (Snap number) f w w' (inr is) = ap (λ (y : Volumed _). y.requests) is.becomes

told_same : {B : Type 0} (m : Measures B) (layers : B → List Layer) (dev : Dev) (w w' : Volumed B) → (w' ≡ w) ⊎ IsRelayeredAt m layers dev (λ ls. ls) w w' → w'.requests ≡ w.requests
told_same m layers dev w w' (inl same) = ap (λ (y : Volumed _). y.requests) same
told_same m layers dev w w' (inr is) = relayered_given m layers dev (λ ls. ls) w w' is

pub told_given : {B : Type 0} (m : Measures B) (layers : B → List Layer) (dev : Dev) (depth : ℕ) (message : Message) (result : Result Answer Refusal) (w w' : Volumed B)
    → IfOk result (λ answer. IsTold m layers dev depth message answer w w') → IfErr result (λ refusal. IsNotTold m layers dev depth message refusal w w') → w'.requests ≡ w.requests
told_given m layers dev depth message (Ok answer) w w' ok err = relayered_given m layers dev (layers_told depth message) w w' ok.device
told_given m layers dev depth message (Err refusal) w w' ok err = told_same m layers dev w w' err.same

pub resumed_given : {B : Type 0} (result : Result (Unit {0}) Refusal) (w w' : Volumed B) → OnOk result (IsResumed w w') → IfErr result (λ refusal. (refusal ≡ NotMerging) × (w.merge ≡ None) × (w' ≡ w)) → w'.requests ≡ w.requests
resumed_given (Ok done) w w' ok err = ap (λ (y : Volumed _). y.requests) ok.becomes
resumed_given (Err refusal) w w' ok err = ap (λ (y : Volumed _). y.requests) err.2

-- a merge that does not begin
pub unbegun_given : {B : Type 0} (number : ℕ) (refusal : Refusal) (w w' : Volumed B) → IsNotBegun number refusal w w' → (w'.requests ≡ w.requests) × (w'.origin ≡ w.origin)
unbegun_given number refusal w w' (inl same) = (ap (λ (y : Volumed _). y.requests) same.1, ap (λ (y : Volumed _). y.origin) same.1)
unbegun_given number refusal w w' (inr kept) = let k : SameButKept w w' = kept.2 in (ap (λ (y : Volumed _). y.requests) k.becomes, ap (λ (y : Volumed _). y.origin) k.becomes)
