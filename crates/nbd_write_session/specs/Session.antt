-- To be believed: a whole session with a client, by doc/proto.md of the NBD project: "Newstyle negotiation", "Transmission".
use Rattle.std.specs.Prelude.{◌≡◌, ℕ, ◌⊎◌, ◌<◌, true, List, [], ◌∷◌, ◌++◌}
use Rattle.nbd_messages.specs.Replies.{greeting}
use Rattle.nbd_options.specs.declared.export.Export.{Export}
use Rattle.nbd_options.specs.declared.session.Place.{Place}
use Rattle.nbd_options.specs.declared.session.Session.{Session as SessionOf}
use Rattle.nbd_options.specs.declared.session.Stage.TheVariants.{Serving}
use Rattle.nbd_backend.specs.Calls.{Call, Choose}
use Rattle.nbd_write_session.specs.Answered.{Answers, IsMoment}
use Rattle.nbd_write_session.specs.Asked.{AreAsked, IsOver}
use Rattle.nbd_write_session.specs.Haggling.{IsHaggledTo, IsLeft, IsOpened}
use Rattle.nbd_write_session.specs.Owed.{Owed}
use Rattle.nbd_write_session.specs.Pieces.{choices, deals_of}
use Rattle.nbd_write_session.specs.declared.ended.Finish.{Finish}
use Rattle.nbd_write_session.specs.declared.ended.Finish.TheVariants.{Client}

-- The client came to an export, which the array was told. What was said are the greeting, the answers to options, and one reply to each
-- request that was taken, and nothing else; each reply is what the calls of the array say, which came behind. No other export was chosen,
-- and no piece was asked of the array but under the number of one of these requests, before its reply. Where the client ended it, no whole
-- request is left but one that disconnects.
pub record IsServed (exports : List Export) (finish : Finish) (calls : List Call) (bytes said : List ℕ) : Type 0 where
  pub after : SessionOf
  pub place : Place
  pub rest : List ℕ
  pub answers : List ℕ
  pub haggled : IsHaggledTo exports after bytes rest answers
  pub chosen : after.stage ≡ Serving place
  pub called : IsMoment (Choose place.export true ∷ []) calls
  pub once : choices calls ≡ 1
  pub chunk : ℕ
  pub some : 0 < chunk
  pub requests : List Owed
  pub unheard : List ℕ
  pub count : ℕ
  pub replies : List ℕ
  pub taken : AreAsked place.size 0 requests rest unheard count
  pub only : (serial : ℕ) → (serial ≡ 0) ⊎ (count < serial) → deals_of serial calls ≡ []
  pub replied : Answers after.structured chunk calls requests [] replies
  pub are : said ≡ greeting ++ (answers ++ replies)
  pub over : finish ≡ Client → IsOver place.size unheard

-- The client went before that, once its options were answered.
pub record IsGone (exports : List Export) (bytes said : List ℕ) : Type 0 where
  pub after : SessionOf
  pub rest : List ℕ
  pub answers : List ℕ
  pub haggled : IsHaggledTo exports after bytes rest answers
  pub left : IsLeft after.stage rest
  pub are : said ≡ greeting ++ answers

-- or it went before it said its flags
abbrev pub IsLeftSession : List Export → List ℕ → List ℕ → Type 0
IsLeftSession exports bytes said = IsGone exports bytes said ⊎ ((IsOpened bytes → ⊥) × (said ≡ greeting))

-- What was said in a session, of a client that said these bytes, and how the array was called in it, the last call first. Where the
-- client went before, it was not.
abbrev pub IsSession : List Export → Finish → List Call → List ℕ → List ℕ → Type 0
IsSession exports finish calls bytes said =
    IsServed exports finish calls bytes said
    ⊎ ((finish ≡ Client) × (calls ≡ []) × IsLeftSession exports bytes said)
