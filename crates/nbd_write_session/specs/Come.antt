-- How far a client has come to an export, where it is known what it says. This project's own.
use Rattle.std.specs.Prelude.{◌≡◌, ℕ, Bool, List, [], ◌∷◌, ◌++◌, drop, Option, Some, None, IfSome, ⊤}
use Rattle.std.specs.Io.KnownBytes.{Appends}
use Rattle.nbd_messages.specs.Replies.{greeting}
use Rattle.nbd_messages.specs.declared.asked.Asked.{Asked}
use Rattle.nbd_options.specs.declared.export.Export.{Export}
use Rattle.nbd_options.specs.declared.session.Place.{Place}
use Rattle.nbd_options.specs.declared.session.Session.{Session}
use Rattle.nbd_options.specs.declared.session.Stage.TheVariants.{Serving}
use Rattle.nbd_write_session.specs.Haggling.{AreHaggled, IsHaggledTo, IsOpened, IsOption, opened_by}
use Rattle.nbd_write_session.specs.Session.{IsLeftSession}

-- the flags were heard
abbrev pub Opens : Session → Option (List ℕ) → Option (List ℕ) → Type 0
Opens after None new = ⊤
Opens after (Some bytes) None = ⊥
Opens after (Some bytes) (Some rest) = IsOpened bytes × (after ≡ opened_by bytes) × (rest ≡ drop 4 bytes)

-- an option was heard and answered
abbrev pub Haggles : List Export → Session → Session → Option (List ℕ) → Option (List ℕ) → List ℕ → Type 0
Haggles exports session after None new said = ⊤
Haggles exports session after (Some bytes) None said = ⊥
Haggles exports session after (Some bytes) (Some rest) said = (asked : Asked) × AreHaggled exports (asked ∷ []) session after bytes rest said

-- no whole option is next
abbrev pub AsksNone : Option (List ℕ) → Type 0
AsksNone known = IfSome known (λ bytes. (asked : Asked) → IsOption asked bytes → ⊥)

-- flags and options were heard and answered
abbrev pub Came : List Export → Session → Option (List ℕ) → Option (List ℕ) → List ℕ → Type 0
Came exports after None new said = ⊤
Came exports after (Some bytes) None said = ⊥
Came exports after (Some bytes) (Some rest) said = IsHaggledTo exports after bytes rest said

-- the client came to an export
pub record Chose (exports : List Export) (place : Place) (structured : Bool) (old new wrote writes : Option (List ℕ)) : Type 0 where
  pub after : Session
  pub answers : List ℕ
  pub chosen : after.stage ≡ Serving place
  pub agreed : after.structured ≡ structured
  pub came : Came exports after old new answers
  pub told : Appends wrote writes (greeting ++ answers)

-- or it went
pub record Left (exports : List Export) (old wrote writes : Option (List ℕ)) : Type 0 where
  pub said : List ℕ
  pub session : IfSome old (λ bytes. IsLeftSession exports bytes said)
  pub told : Appends wrote writes said

abbrev pub Comes : List Export → Option (Place × Bool) → Option (List ℕ) → Option (List ℕ) → Option (List ℕ) → Option (List ℕ) → Type 0
Comes exports None old new wrote writes = Left exports old wrote writes
Comes exports (Some got) old new wrote writes = Chose exports got.0 got.1 old new wrote writes
