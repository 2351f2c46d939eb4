-- To be believed: how a client comes to an export, by doc/proto.md of the NBD project: "Newstyle negotiation", "Option
-- haggling". That contexts are not known here, and how long the data of an option may be, is this project's choice.
use Rattle.std.specs.Prelude.{◌≡◌, ◌==◌, ◌≢◌, ℕ, ◌+◌, ◌<◌, ◌≤◌, Bool, true, false, List, [], ◌∷◌, ◌++◌, length, take, drop, nat_le, nat_lt, Option, Some, None, ⊤, if◌then◌else◌}
use Rattle.nbd_messages.specs.Layout.{number_at}
use Rattle.nbd_messages.specs.Requests.{asked_in}
use Rattle.nbd_messages.specs.declared.asked.Asked.{Asked}
use Rattle.nbd_options.specs.Haggled.{Reaction, bare, haggled, haggled_unread, longest_text, unsupported}
use Rattle.nbd_options.specs.declared.export.Export.{Export}
use Rattle.nbd_options.specs.declared.session.Session.{Session}
use Rattle.nbd_options.specs.declared.session.Stage.{Stage}
use Rattle.nbd_options.specs.declared.session.Stage.TheVariants.{Opening, Haggling, Serving, Over}

-- the client's flags, of which there are two, are at the front
pub record IsOpened (bytes : List ℕ) : Type 0 where
  pub header : 4 ≤ length bytes
  pub flags : number_at (take 4 bytes) 0 4 < 4

-- how the haggling begins: the second flag declines zeros
abbrev pub opened_by : List ℕ → Session
opened_by bytes = record { no_zeroes = nat_le 2 (number_at (take 4 bytes) 0 4); structured = false; described = None; stage = Haggling }

-- whether an option's data are not looked at
abbrev pub is_passed : Asked → Bool
is_passed asked =
    if nat_lt longest_text asked.length then true else
    if asked.option == 9 then true else
    asked.option == 10

-- what such an option is answered
abbrev pub passed : Session → Asked → Reaction
passed session asked = if nat_lt longest_text asked.length then haggled_unread session asked.option else bare session asked.option unsupported

-- The next option of these bytes: its header is at their front, and its data behind it where they are looked at.
pub record IsOption (asked : Asked) (bytes : List ℕ) : Type 0 where
  pub header : 16 ≤ length bytes
  pub is : asked_in (take 16 bytes) ≡ Some asked
  pub whole : is_passed asked ≡ false → 16 + asked.length ≤ length bytes

-- what it is answered
abbrev pub answer_to : List Export → Session → Asked → List ℕ → Reaction
answer_to exports session asked bytes =
    if is_passed asked then passed session asked else haggled exports session asked.option (take asked.length (drop 16 bytes))

-- whether the haggling goes on
abbrev pub goes_on : Stage → Bool
goes_on Opening = true
goes_on Haggling = true
goes_on (Serving place) = false
goes_on Over = false

-- Bytes are these options and the rest; they come in this session, which is another after them; what is said are their answers.
abbrev pub AreHaggled : List Export → List Asked → Session → Session → List ℕ → List ℕ → List ℕ → Type 0
AreHaggled exports [] session after bytes rest said = (after ≡ session) × (rest ≡ bytes) × (said ≡ [])
AreHaggled exports (asked ∷ options) session after bytes rest said =
    (more : List ℕ) × (goes_on session.stage ≡ true) × IsOption asked bytes
    × (said ≡ (answer_to exports session asked bytes).answer ++ more)
    × AreHaggled exports options (answer_to exports session asked bytes).after after (drop (16 + asked.length) bytes) rest more

-- A client's bytes are its flags, options and the rest, and the options were answered so.
pub record IsHaggledTo (exports : List Export) (after : Session) (bytes rest said : List ℕ) : Type 0 where
  pub opened : IsOpened bytes
  pub options : List Asked
  pub are : AreHaggled exports options (opened_by bytes) after (drop 4 bytes) rest said

-- The client went before it came to an export: its flags are none, or it ended the haggling, or no whole option is next.
abbrev pub IsLeft : Stage → List ℕ → Type 0
IsLeft Opening rest = (asked : Asked) → IsOption asked rest → ⊥
IsLeft Haggling rest = (asked : Asked) → IsOption asked rest → ⊥
IsLeft (Serving place) rest = ⊥
IsLeft Over rest = ⊤
