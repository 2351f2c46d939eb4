-- Replies, one after the other.
use Rattle.std.proofs.Common.{◌≡◌, ℕ, zero, suc, ◌<◌, Bool, Option, None, Some, List, [], ◌∷◌, ◌++◌, length, map, get_or, refl, ap, ◌∙◌, sym, subst, append_assoc, arith}
use Rattle.std.specs.List.{All, flat_map, remove}
use Rattle.std.specs.List.Sorted.{IsPermutation}
use Rattle.std.proofs.lemmas.Grind.{flat_map-append}
use Rattle.std.proofs.lemmas.List.{append-nil, map-append}
use Rattle.std.proofs.lemmas.List.Elements.{All-append}
use Rattle.std.proofs.lemmas.List.Sorted.{IsPermutation-refl, IsPermutation-remove, IsPermutation-to_front, IsPermutation-append_left, IsPermutation-append_right, IsPermutation-trans}
use Rattle.nbd_backend.specs.Calls.{Call}
use Rattle.nbd_write_session.specs.Answered.{IsMoment, IsReply, IsReplyTo, Reply}
use Rattle.nbd_write_session.specs.Moved.{Answering}
use Rattle.nbd_write_session.specs.Owed.{Owed}
use Rattle.nbd_write_session.specs.Pieces.{asked_count, deals_of}

-- ---- moments of the calls

pub moment_here : (calls : List Call) → IsMoment calls calls
moment_here calls = ([], refl)

pub moment_then : (a b c : List Call) → IsMoment a b → IsMoment b c → IsMoment a c
moment_then a b c (first, is) (second, also) = (second ++ first, also ∙ ap (λ (l : List Call). second ++ l) is ∙ sym (append_assoc second first a))

-- ---- replies

-- nothing is answered
pub answers_none : (structured : Bool) (chunk : ℕ) (calls : List Call) (spent : ℕ → Type 0) (owing : List Owed) → Answering structured chunk calls spent owing owing []
answers_none structured chunk calls spent owing = record {
  replies = [];
  each = λ k d inside. absurd (omega arith);
  gone = λ k d inside. absurd (omega arith);
  are = refl;
  one = IsPermutation-refl owing;
}

all_one : (P : Reply → Type 0) (r : Reply) → P r → (k : ℕ) (d : Reply) → k < 1 → P (get_or (r ∷ []) k d)
all_one P r is zero d inside = is
all_one P r is (suc k) d inside = absurd (omega arith)

-- one reply, and what it was owed for is owed no more
answers_with : (structured : Bool) (chunk : ℕ) (calls : List Call) (spent : ℕ → Type 0) (before after : List Owed) (o : Owed) (said : List ℕ) → IsReplyTo structured chunk o calls said → (o.refusal ≡ None → spent o.serial) → IsPermutation before (o ∷ after)
    → Answering structured chunk calls spent before after said
answers_with structured chunk calls spent before after o said is goes one =
    let r : Reply = record { owed = o; moment = calls; said = said } in
    let here : IsReply structured chunk calls r = record { moment = moment_here calls; is = is; last = λ none. refl } in
    record {
      replies = r ∷ [];
      each = all_one (IsReply structured chunk calls) r here;
      gone = all_one (λ r. r.owed.refusal ≡ None → spent r.owed.serial) r goes;
      are = sym (append-nil said);
      one = one;
    }

-- what is owed at a place is answered
pub answers_at : (structured : Bool) (chunk : ℕ) (calls : List Call) (spent : ℕ → Type 0) (owing : List Owed) (k : ℕ) (o : Owed) (said : List ℕ) → k < length owing → o ≡ get_or owing k o → IsReplyTo structured chunk o calls said → (o.refusal ≡ None → spent o.serial)
    → Answering structured chunk calls spent owing (remove owing k) said
answers_at structured chunk calls spent owing k o said inside there is goes = answers_with structured chunk calls spent owing (remove owing k) o said is goes (IsPermutation-remove owing k o inside there)

-- what came last is answered at once
pub answers_last : (structured : Bool) (chunk : ℕ) (calls : List Call) (spent : ℕ → Type 0) (owing : List Owed) (o : Owed) (said : List ℕ) → IsReplyTo structured chunk o calls said → (o.refusal ≡ None → spent o.serial) → Answering structured chunk calls spent (owing ++ o ∷ []) owing said
answers_last structured chunk calls spent owing o said is goes = answers_with structured chunk calls spent (owing ++ o ∷ []) owing o said is goes (IsPermutation-to_front owing o)

-- more is owed, which is not answered
pub answers_beside : (structured : Bool) (chunk : ℕ) (calls : List Call) (spent : ℕ → Type 0) (before after more : List Owed) (said : List ℕ) → Answering structured chunk calls spent before after said → Answering structured chunk calls spent (before ++ more) (after ++ more) said
answers_beside structured chunk calls spent before after more said so =
    let owed_of : Reply → Owed = λ r. r.owed in
    let moved : IsPermutation (before ++ more) ((map owed_of so.replies ++ after) ++ more) = IsPermutation-append_left more before (map owed_of so.replies ++ after) so.one in
    record {
      replies = so.replies;
      each = so.each;
      gone = so.gone;
      are = so.are;
      one = let P : List Owed → Type 0 = λ l. IsPermutation (before ++ more) l in subst P (append_assoc (map owed_of so.replies) after more) moved;
    }

-- what was answered at a moment was answered, where no more is asked for it
answers_later : (structured : Bool) (chunk : ℕ) (calls more : List Call) (spent spent' : ℕ → Type 0) (before after : List Owed) (said : List ℕ) → IsMoment calls more → ((n : ℕ) → spent n → spent' n)
    → ((n : ℕ) → spent n → asked_count (deals_of n more) ≡ asked_count (deals_of n calls)) → Answering structured chunk calls spent before after said → Answering structured chunk more spent' before after said
answers_later structured chunk calls more spent spent' before after said later keeps rests so = record {
  replies = so.replies;
  each = λ k d inside. (
      let is : IsReply structured chunk calls (get_or so.replies k d) = so.each k d inside in
      record {
        moment = moment_then (get_or so.replies k d).moment calls more is.moment later;
        is = is.is;
        last = λ none. rests (get_or so.replies k d).owed.serial (so.gone k d inside none) ∙ is.last none;
      });
  gone = λ k d inside none. keeps (get_or so.replies k d).owed.serial (so.gone k d inside none);
  are = so.are;
  one = so.one;
}

-- some is answered, and then other
pub answers_then : (structured : Bool) (chunk : ℕ) (earlier calls : List Call) (spent spent' : ℕ → Type 0) (before middle after : List Owed) (said more : List ℕ) → IsMoment earlier calls → ((n : ℕ) → spent n → spent' n)
    → ((n : ℕ) → spent n → asked_count (deals_of n calls) ≡ asked_count (deals_of n earlier)) → Answering structured chunk earlier spent before middle said → Answering structured chunk calls spent' middle after more → Answering structured chunk calls spent' before after (said ++ more)
answers_then structured chunk earlier calls spent spent' before middle after said more later keeps rests sooner second =
    let first = answers_later structured chunk earlier calls spent spent' before middle said later keeps rests sooner in
    let owed_of : Reply → Owed = λ r. r.owed in
    let said_of : Reply → List ℕ = λ r. r.said in
    let gone_of : Reply → Type 0 = λ r. r.owed.refusal ≡ None → spent' r.owed.serial in
    let here : List Owed = map owed_of first.replies in
    let there : List Owed = map owed_of second.replies in
    let moved : IsPermutation before (here ++ (there ++ after)) = IsPermutation-trans before (here ++ middle) (here ++ (there ++ after)) first.one (IsPermutation-append_right here middle (there ++ after) second.one) in
    record {
      replies = first.replies ++ second.replies;
      each = All-append (IsReply structured chunk calls) first.replies second.replies first.each second.each;
      gone = All-append gone_of first.replies second.replies first.gone second.gone;
      are = ap (λ (l : List ℕ). l ++ more) first.are ∙ ap (λ (l : List ℕ). flat_map said_of first.replies ++ l) second.are ∙ sym (flat_map-append said_of first.replies second.replies);
      one = let P : List Owed → Type 0 = λ l. IsPermutation before l in
          subst P (sym (append_assoc here there after) ∙ ap (λ (l : List Owed). l ++ after) (sym (map-append owed_of first.replies second.replies))) moved;
    }
