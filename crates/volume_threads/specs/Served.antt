-- What the receipts of one call of a seat say. This project's own.
use Rattle.std.specs.Prelude.{◌≡◌, ◌⊎◌, ℕ, List, [], ◌∷◌, ◌++◌}
use Rattle.chunk.specs.Pieces.{Span, span_of, pieces_of}
use Rattle.plain_machine.specs.Failures.{refusal_of}
use Rattle.plain_machine.specs.declared.request.Dev.{Dev}
use Rattle.plain_machine.specs.declared.request.Failure.{Failure}
use Rattle.plain_machine.specs.declared.request.Op.{Op}
use Rattle.plain_machine.specs.declared.request.Op.TheVariants.{Read, Write}
use Rattle.plain_machine.specs.declared.request.Reply.{Reply}
use Rattle.plain_machine.specs.declared.request.Reply.TheVariants.{Data, Written, Refused}
use Rattle.plain_machine.specs.declared.request.Request.{Request}
use Rattle.sector.specs.declared.refusal.Refusal.{Refusal}
use Rattle.sector.specs.declared.refusal.Refusal.TheVariants.{NoMemory}
use Rattle.audited_volume.specs.declared.entry.Receipt.{Receipt}

-- a request of an operation on a piece of a device
pub record IsFor (dev : Dev) (op : Op) (piece : Span) (request : Request) : Type 0 where
  pub goes_to : request.dev ≡ dev
  pub asks : request.op ≡ op
  pub covers : span_of request.range ≡ piece

-- and a receipt of it
abbrev pub IsOf : Dev → Op → Span → Receipt → Type 0
IsOf dev op piece r = IsFor dev op piece r.request

-- There was no memory for an operation on a piece, or it was asked for and denied.
abbrev pub IsRefused : (List ℕ → Op) → Dev → (Request → Refusal → Type 0) → Span → Refusal → Type 0
IsRefused op dev denies piece refusal = (refusal ≡ NoMemory) ⊎ ((own : List ℕ) × (request : Request) × IsFor dev (op own) piece request × denies request refusal)

module _ (op : List ℕ → Op) (reply : List ℕ → Reply) (dev : Dev) where
  -- receipts of these pieces, one for each and in order, each with its bytes and that it was done; all bytes together
  abbrev pub AreServed : List Span → List Receipt → List ℕ → Type 0
  AreServed [] [] bytes = bytes ≡ []
  AreServed [] (r ∷ rs) bytes = ⊥
  AreServed (p ∷ ps) [] bytes = ⊥
  AreServed (p ∷ ps) (r ∷ rs) bytes =
      (own : List ℕ) × (rest : List ℕ) × IsOf dev (op own) p r × (r.reply ≡ reply own) × AreServed ps rs rest × (bytes ≡ own ++ rest)

  -- The receipts are of all pieces, of so many sectors each.
  abbrev pub IsServed : ℕ → Span → List Receipt → List ℕ → Type 0
  IsServed piece span receipts bytes = AreServed (pieces_of piece span) receipts bytes

  -- The first pieces were done, and then the next one was denied, or what was done is lost, where none is left; or one more was
  -- asked for, and it was answered by a failure.
  abbrev pub IsCut : (Refusal → Type 0) → (Request → Refusal → Type 0) → List Span → List Receipt → Refusal → Type 0
  IsCut lost denies pieces receipts refusal =
      (done : List Span) × (rest : List Span) × (firsts : List Receipt) × (bytes : List ℕ) × (pieces ≡ done ++ rest) × AreServed done firsts bytes
      × (((receipts ≡ firsts) × (rest ≡ [] → lost refusal) × ((p : Span) (ps : List Span) → rest ≡ p ∷ ps → IsRefused op dev denies p refusal))
      ⊎ ((p : Span) × (ps : List Span) × (r : Receipt) × (own : List ℕ) × (failure : Failure)
      × (rest ≡ p ∷ ps) × (receipts ≡ firsts ++ r ∷ []) × IsOf dev (op own) p r × (r.reply ≡ Refused failure) × (refusal ≡ refusal_of failure)))

  abbrev pub IsCutShort : (Refusal → Type 0) → (Request → Refusal → Type 0) → ℕ → Span → List Receipt → Refusal → Type 0
  IsCutShort lost denies piece span receipts refusal = IsCut lost denies (pieces_of piece span) receipts refusal

abbrev pub read_op : List ℕ → Op
read_op bytes = Read

abbrev pub written_reply : List ℕ → Reply
written_reply bytes = Written

-- A read whose pieces were all done is lost where there is no memory for its bytes; a write never is.
abbrev pub IsReadLost : Refusal → Type 0
IsReadLost refusal = refusal ≡ NoMemory

abbrev pub IsWriteLost : Refusal → Type 0
IsWriteLost refusal = ⊥

-- reads of the pieces of a range, of so many sectors each, which gave these bytes
abbrev pub IsReadBy : ℕ → Dev → Span → List Receipt → List ℕ → Type 0
IsReadBy piece dev = IsServed read_op Data dev piece

abbrev pub IsReadCut : (Request → Refusal → Type 0) → ℕ → Dev → Span → List Receipt → Refusal → Type 0
IsReadCut denies piece dev = IsCutShort read_op Data dev IsReadLost denies piece

-- writes of the pieces of a range, by these bytes
abbrev pub IsWrittenBy : ℕ → Dev → Span → List Receipt → List ℕ → Type 0
IsWrittenBy piece dev = IsServed Write written_reply dev piece

abbrev pub IsWriteCut : (Request → Refusal → Type 0) → ℕ → Dev → Span → List Receipt → Refusal → Type 0
IsWriteCut denies piece dev = IsCutShort Write written_reply dev IsWriteLost denies piece
