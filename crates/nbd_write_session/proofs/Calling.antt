-- What becomes of a connection by calls of its array, one after the other.
use Rattle.std.proofs.Common.{◌≡◌, ℕ, Option, List, ◌∷◌, refl}
use Rattle.nbd_backend.specs.Calls.{Call, CallsTo, Step}
use Rattle.nbd_backend.specs.declared.array.Stepped.{Stepped}
use Rattle.nbd_write_session.specs.declared.line.Line.{Line}
use Rattle.nbd_write_session.specs.Moved.{Moves, MovesCalling, MovesHearing, MovesSaying, MovesUnsaid}
use Rattle.nbd_write_session.specs.Pieces.{deals_of, out_of}
use Rattle.nbd_write_session.proofs.Called.{calls_none, calls_one, calls_then, calls_under}
use Rattle.nbd_write_session.proofs.Moved.{calling_then, moves_then, saying_then, turned, unsaid_none, worked}
use Rattle.nbd_write_session.proofs.Worked.{moves_stepped}

module _ {S : Type 0} (does : Call → S → S → Type 0) where
  -- nothing is called
  pub still : (here : S) (a : Line) → CallsTo does here here (MovesCalling a a)
  still here a = calls_none does here here (MovesCalling a a) refl (λ calls known contents. unsaid_none a known contents calls)

  pub still_saying : (here : S) (a : Line) (w : Option (List ℕ)) → CallsTo does here here (MovesSaying a a w w)
  still_saying here a w = calls_none does here here (MovesSaying a a w w) refl (λ calls known. unsaid_none a known w calls)

  pub still_whole : (here : S) (a : Line) (r w : Option (List ℕ)) → CallsTo does here here (Moves a a r r w w)
  still_whole here a r w = calls_none does here here (Moves a a r r w w) refl (λ calls. unsaid_none a r w calls)

  pub said_at_first : (here : S) (a b : Line) (v w : Option (List ℕ)) → ((calls : List Call) → MovesSaying a b v w calls calls) → CallsTo does here here (MovesSaying a b v w)
  said_at_first here a b v w saying = calls_none does here here (MovesSaying a b v w) refl saying

  -- a step of which nothing comes back
  pub stepped : (x y : S) (a : Line) (told : Stepped) → does (Step told) x y → ((calls : List Call) → out_of (Step told ∷ calls) ≡ out_of calls) → ((calls : List Call) (serial : ℕ) → deals_of serial (Step told ∷ calls) ≡ deals_of serial calls)
      → CallsTo does x y (MovesCalling a a)
  stepped x y a told so out deals = calls_one does x y (MovesCalling a a) (Step told) so (λ calls. moves_stepped a calls (Step told ∷ calls) told refl (out calls) (deals calls))

  -- a call that a connection goes on by
  pub called_to : (x y : S) (a b : Line) (call : Call) → does call x y → ((calls : List Call) → MovesCalling a b calls (call ∷ calls)) → CallsTo does x y (MovesCalling a b)
  called_to x y a b call so moves = calls_one does x y (MovesCalling a b) call so moves

  -- the same where something is said of it
  pub stepped_saying : (x y : S) (a b : Line) (v w : Option (List ℕ)) (told : Stepped) → does (Step told) x y → ((calls : List Call) → MovesSaying a b v w (Step told ∷ calls) (Step told ∷ calls))
      → ((calls : List Call) → out_of (Step told ∷ calls) ≡ out_of calls) → ((calls : List Call) (serial : ℕ) → deals_of serial (Step told ∷ calls) ≡ deals_of serial calls) → CallsTo does x y (MovesSaying a b v w)
  stepped_saying x y a b v w told so saying out deals =
      calls_one does x y (MovesSaying a b v w) (Step told) so
      (λ calls known. moves_then a a b known known known v v w calls (Step told ∷ calls) (Step told ∷ calls) (moves_stepped a calls (Step told ∷ calls) told refl (out calls) (deals calls) known v) (saying calls known))

  -- some calls, and others behind them
  pub calling : (x y z : S) (a b c : Line) → CallsTo does x y (MovesCalling a b) → CallsTo does y z (MovesCalling b c) → CallsTo does x z (MovesCalling a c)
  calling x y z a b c first second = calls_then does x y z (MovesCalling a b) (MovesCalling b c) (MovesCalling a c) (λ k l m. calling_then a b c k l m) first second

  pub saying : (x y z : S) (a b c : Line) (u v w : Option (List ℕ)) → CallsTo does x y (MovesSaying a b u v) → CallsTo does y z (MovesSaying b c v w) → CallsTo does x z (MovesSaying a c u w)
  saying x y z a b c u v w first second = calls_then does x y z (MovesSaying a b u v) (MovesSaying b c v w) (MovesSaying a c u w) (λ k l m. saying_then a b c u v w k l m) first second

  -- where nothing is said
  pub calling_saying : (x y : S) (a b : Line) (w : Option (List ℕ)) → CallsTo does x y (MovesCalling a b) → CallsTo does x y (MovesSaying a b w w)
  calling_saying x y a b w first = calls_under does x y (MovesCalling a b) (MovesSaying a b w w) (λ k l moves known. moves known w) first

  -- something is said before the calls, or behind them
  pub said_before : (x y : S) (a b c : Line) (v w : Option (List ℕ)) → ((calls : List Call) → MovesSaying a b v w calls calls) → CallsTo does x y (MovesCalling b c) → CallsTo does x y (MovesSaying a c v w)
  said_before x y a b c v w before second =
      calls_under does x y (MovesCalling b c) (MovesSaying a c v w) (λ k l moves known. moves_then a b c known known known v w w k k l (before k known) (moves known w)) second

  pub said_behind : (x y : S) (a b c : Line) (u v w : Option (List ℕ)) → CallsTo does x y (MovesSaying a b u v) → ((calls : List Call) → MovesSaying b c v w calls calls) → CallsTo does x y (MovesSaying a c u w)
  said_behind x y a b c u v w first behind =
      calls_under does x y (MovesSaying a b u v) (MovesSaying a c u w) (λ k l moves known. moves_then a b c known known known u v w k l l (moves known) (behind l known)) first

  -- all that is there is taken and answered, the array goes on, and more is heard
  pub turning : (x y z : S) (a b c d e f : Line) (r s t v w u : Option (List ℕ)) → CallsTo does x y (Moves a b r s v w) → MovesUnsaid b c → ((calls : List Call) → MovesSaying c d w u calls calls) → CallsTo does y z (MovesCalling d e) → MovesHearing e f s t
      → CallsTo does x z (Moves a f r t v u)
  turning x y z a b c d e f r s t v w u first taken said called heard =
      calls_then does x y z (Moves a b r s v w) (MovesCalling d e) (Moves a f r t v u) (λ k l m one two. turned a b c d e f r s t v w u k l m one taken said two heard) first called

  -- all that is there is taken, and some is done
  pub working : (x y z : S) (a b c d : Line) (r s v w u : Option (List ℕ)) → CallsTo does x y (Moves a b r s v w) → MovesUnsaid b c → CallsTo does y z (MovesSaying c d w u) → CallsTo does x z (Moves a d r s v u)
  working x y z a b c d r s v w u first taken second =
      calls_then does x y z (Moves a b r s v w) (MovesSaying c d w u) (Moves a d r s v u) (λ k l m one two. worked a b c d r s v w u k l m one taken two) first second
