-- A client is served, from the first byte on.
use Rattle.std.proofs.Common.{◌≡◌, ℕ, ◌<◌, Bool, true, Option, None, Some, IfOk, IfSome, Result, Ok, Err, List, [], ◌∷◌, ◌++◌, map, inl, inr, refl, ap, ◌∙◌, sym, subst, arith}
use Rattle.std.specs.Io.KnownBytes.{Appends, append_known}
use Rattle.std.proofs.lemmas.List.{append-nil}
use Rattle.nbd_messages.specs.Replies.{greeting}
use Rattle.nbd_options.specs.declared.export.Export.{Export}
use Rattle.nbd_options.specs.declared.session.Place.{Place}
use Rattle.nbd_jobs.specs.Held.{Held}
use Rattle.nbd_jobs.specs.Steps.{JobState}
use Rattle.nbd_backend.specs.Calls.{Call, Called, CallsTo, Choose}
use Rattle.nbd_write_session.specs.Answered.{IsMoment}
use Rattle.nbd_write_session.specs.Kept.{IsKept, IsSpent}
use Rattle.nbd_write_session.specs.Owed.{Owed, owing, served}
use Rattle.nbd_write_session.specs.Asked.{AreAsked, IsOver}
use Rattle.nbd_write_session.specs.Come.{Chose, Comes}
use Rattle.nbd_write_session.specs.Haggling.{IsHaggledTo}
use Rattle.nbd_write_session.specs.Moved.{Answering, Goes, Moves, standing}
use Rattle.nbd_write_session.specs.Pieces.{deals_of}
use Rattle.nbd_write_session.specs.Session.{IsSession}
use Rattle.nbd_write_session.specs.Stream.{Stream, left, rest_of}
use Rattle.nbd_write_session.specs.declared.ended.Ended.{Ended}
use Rattle.nbd_write_session.specs.declared.ended.Finish.{Finish}
use Rattle.nbd_write_session.specs.declared.ended.Finish.TheVariants.{Client}
use Rattle.nbd_write_session.specs.declared.line.Line.{Line}
use Rattle.nbd_write_session.proofs.Called.{called_then}
use Rattle.nbd_write_session.proofs.Come.{told_more}
use Rattle.nbd_write_session.proofs.Moved.{goes_under}

-- nothing was heard
abbrev pub unheard : Stream
unheard = record { heard = []; unwanted = 0 }

abbrev pub IsTold : List Export → Finish → List Call → Option (List ℕ) → Option (List ℕ) → List ℕ → Type 0
IsTold exports finish calls wrote writes bytes = (said : List ℕ) × IsSession exports finish calls bytes said × Appends wrote writes said

some_got : (got : Place × Bool) → Some got ≡ None → ⊥
some_got got same = cc

-- the client went before it came to an export
pub gone_session : (exports : List Export) (got : Option (Place × Bool)) (s : Stream) (known new wrote writes : Option (List ℕ)) → s ≡ unheard → got ≡ None → Comes exports got (left s known) new wrote writes → IfSome known (IsTold exports Client [] wrote writes)
gone_session exports (Some got) s known new wrote writes fresh none comes = absurd (some_got got none)
gone_session exports None s None new wrote writes fresh none comes = tt
gone_session exports None s (Some x) new wrote writes fresh none comes =
    let is : rest_of s x ≡ x = ap (λ (t : Stream). rest_of t x) fresh in
    let P : List ℕ → Type 0 = λ l. IsSession exports Client [] l comes.said in
    (comes.said, subst P is (inr (refl, refl, comes.session)), comes.told)

-- where nothing is left to be said, what was said is all
bare : (a b : Option (List ℕ)) (o p said : List ℕ) → o ≡ [] → p ≡ [] → Appends (append_known a o) (append_known b p) said → Appends a b said
bare None b o p said none also told = tt
bare (Some x) None o p said none also told = absurd told
bare (Some x) (Some y) o p said none also told =
    sym (ap (λ (l : List ℕ). y ++ l) also ∙ append-nil y) ∙ told ∙ ap (λ (l : List ℕ). (x ++ l) ++ said) none ∙ ap (λ (l : List ℕ). l ++ said) (append-nil x)

-- no request was taken, and nothing is out, as the export was chosen
pub kept_at_first : (chunk : ℕ) (held : Held) (calls : List Call) (place : ℕ) → held ≡ record { jobs = []; out = []; given = 0 } → calls ≡ Choose place true ∷ [] → IsKept chunk held calls
kept_at_first chunk held calls place none chose =
    let P : Held → Type 0 = λ h. IsKept chunk h calls in
    let Q : List Call → Type 0 = λ l. IsKept chunk (record { jobs = []; out = []; given = 0 }) l in
    subst P (sym none) (subst Q (sym chose) (record {
      out = refl;
      jobs = λ k d h. absurd (omega (arith, h));
      apart = λ i k d hi hk e. absurd (omega (arith, hi));
      below = λ k d h. absurd (omega (arith, h));
      above = λ k d h. absurd (omega (arith, h));
      fresh = λ serial h. refl;
      none = refl;
      once = refl;
    }))

-- the client came to an export, and no request is open
pub served_session : (exports : List Export) (finish : Finish) (place : Place) (structured : Bool) (s t : Stream) (a b : Line) (known middle new wrote said writes : Option (List ℕ)) (at_first calls : List Call)
    → s ≡ unheard → Chose exports place structured (left s known) (left t middle) wrote said → at_first ≡ Choose place.export true ∷ [] → 0 < a.chunk
    → a.jobs ≡ record { jobs = []; out = []; given = 0 } → a.input ≡ t → a.out.items ≡ [] → a.size ≡ place.size → a.structured ≡ structured
    → Moves a b middle new said writes at_first calls → (b.jobs.jobs ≡ []) × (b.out.items ≡ []) → (finish ≡ Client → IfSome (left b.input new) (IsOver a.size)) → IfSome known (IsTold exports finish calls wrote writes)
served_session exports finish place structured s t a b None middle new wrote said writes at_first calls fresh chose called some none input out size agreed moves ended over = tt
served_session exports finish place structured s t a b (Some x) None new wrote said writes at_first calls fresh chose called some none input out size agreed moves ended over = absurd chose.came
served_session exports finish place structured s t a b (Some x) (Some y) None wrote said writes at_first calls fresh chose called some none input out size agreed moves ended over =
    absurd ((moves.goes (kept_at_first a.chunk a.jobs at_first place.export none called)).taken)
served_session exports finish place structured s t a b (Some x) (Some y) (Some z) wrote said writes at_first calls fresh chose called some none input out size agreed moves ended over =
    let goes : Goes place.size chose.after.structured a.chunk (IsSpent b.jobs) (standing a (Some y) said at_first) (standing b (Some z) writes calls) =
    goes_under place.size a.size chose.after.structured a.structured a.chunk a.chunk (IsSpent b.jobs) (standing a (Some y) said at_first) (standing b (Some z) writes calls) size (agreed ∙ sym chose.agreed) refl (moves.goes (kept_at_first a.chunk a.jobs at_first place.export none called)) in
    let kept : IsKept b.chunk b.jobs calls = moves.kept (kept_at_first a.chunk a.jobs at_first place.export none called) in
    let is : rest_of s x ≡ x = ap (λ (u : Stream). rest_of u x) fresh in
    let P : List ℕ → Type 0 = λ l. IsHaggledTo exports chose.after l (rest_of a.input y) chose.answers in
    let Q : Stream → Type 0 = λ u. IsHaggledTo exports chose.after (rest_of s x) (rest_of u y) chose.answers in
    let R : List Owed → Type 0 = λ l. Answering chose.after.structured a.chunk calls (IsSpent b.jobs) (l ++ goes.asked) (owing b.jobs) goes.said in
    let T : List Owed → Type 0 = λ l. Answering chose.after.structured a.chunk calls (IsSpent b.jobs) goes.asked l goes.said in
    let all : Answering chose.after.structured a.chunk calls (IsSpent b.jobs) goes.asked [] goes.said = subst T (ap (map served) ended.0) (subst R (ap owing none) goes.answers) in
    let U : ℕ → Type 0 = λ n. IsOver n (rest_of b.input z) in
    let V : ℕ → Type 0 = λ n. AreAsked place.size n goes.asked (rest_of a.input y) (rest_of b.input z) b.jobs.given in
    let W : List Call → Type 0 = λ l. IsMoment l calls in (
      greeting ++ (chose.answers ++ goes.said),
      inl (record {
        after = chose.after;
        place = place;
        rest = rest_of a.input y;
        answers = chose.answers;
        haggled = subst P is (subst Q (sym input) chose.came);
        chosen = chose.chosen;
        called = subst W called goes.called;
        once = kept.once;
        chunk = a.chunk;
        some = some;
        requests = goes.asked;
        unheard = rest_of b.input z;
        count = b.jobs.given;
        replies = goes.said;
        taken = subst V (ap (λ (h : Held). h.given) none) goes.taken;
        only = λ serial h. (elim h [ inl is ↦ (let X : ℕ → Type 0 = λ n. deals_of n calls ≡ [] in subst X (sym is) kept.none) | inr more ↦ kept.fresh serial more ]);
        replied = record { replies = all.replies; each = all.each; are = all.are; one = all.one };
        are = refl;
        over = λ client. subst U size (over client);
      }),
      told_more wrote said writes chose.answers goes.said chose.told (bare said writes a.out.items b.out.items goes.said out ended.1 goes.told),
    )

-- the same of what serving gives, with the calls of the array
pub served_result : {S : Type 0} (does : Call → S → S → Type 0) (exports : List Export) (result : Result Finish Ended) (place : Place) (structured told : Bool) (s t : Stream) (a b : Line) (known middle new wrote said writes : Option (List ℕ)) (before at_first after : S)
    → s ≡ unheard → Chose exports place structured (left s known) (left t middle) wrote said → told ≡ true → does (Choose place.export told) before at_first → 0 < a.chunk
    → a.jobs ≡ record { jobs = []; out = []; given = 0 } → a.input ≡ t → a.out.items ≡ [] → a.size ≡ place.size → a.structured ≡ structured
    → IfOk result (λ _. CallsTo does at_first after (Moves a b middle new said writes)) → IfOk result (λ _. (b.jobs.jobs ≡ []) × (b.out.items ≡ [])) → (result ≡ Ok Client → IfSome (left b.input new) (IsOver a.size))
    → IfOk result (λ finish. (calls : List Call) × Called does before calls after × IfSome known (IsTold exports finish calls wrote writes))
served_result does exports (Ok finish) place structured told s t a b known middle new wrote said writes before at_first after fresh chose is called some none input out size agreed (more, so, moves) ended over =
    let first : List Call = Choose place.export true ∷ [] in
    let P : Bool → Type 0 = λ u. does (Choose place.export u) before at_first in (
      more ++ first,
      called_then does before at_first after first more (before, refl, subst P is called) so,
      served_session exports finish place structured s t a b known middle new wrote said writes first (more ++ first) fresh chose refl some none input out size agreed (moves first) ended (λ client. over (ap Ok client)),
    )
served_result does exports (Err e) place structured told s t a b known middle new wrote said writes before at_first after fresh chose is called some none input out size agreed moves ended over = tt
