-- To be believed: what an option is answered before a client uses an export, by doc/proto.md of the NBD project: "Newstyle
-- negotiation", "Option types", "Option reply types".
use Rattle.std.specs.Prelude.{◌≡◌, ◌==◌, ℕ, zero, suc, ◌+◌, ◌*◌, ◌&&◌, ◌||◌, Bool, true, false, List, [], ◌∷◌, ◌++◌, length, drop, slice_range, bytes_eq, codes, not, nat_lt, Option, Some, None, if◌then◌else◌}
use Rattle.std.specs.List.{flat_map}
use Rattle.nbd_messages.specs.Layout.{number_at}
use Rattle.nbd_messages.specs.Replies.{option_reply, listed_name, context_info, export_info, blocks_info, export_reply}
use Rattle.nbd_messages.specs.declared.blocks.BlockSizes.{BlockSizes}
use Rattle.nbd_options.specs.declared.context.Context.{Context}
use Rattle.nbd_options.specs.declared.context.Context.TheVariants.{Allocation, Bitmap}
use Rattle.nbd_options.specs.declared.export.Export.{Export}
use Rattle.nbd_options.specs.declared.session.Contexts.{Contexts}
use Rattle.nbd_options.specs.declared.session.Described.{Described}
use Rattle.nbd_options.specs.declared.session.Place.{Place}
use Rattle.nbd_options.specs.declared.session.Stage.{Stage}
use Rattle.nbd_options.specs.declared.session.Stage.TheVariants.{Serving, Over}
use Rattle.nbd_options.specs.declared.session.Session.{Session}

-- the types of replies: an acknowledgement, an export of a list, a fact of an export; unknown, malformed, no such export, too long
abbrev pub acknowledged : ℕ
acknowledged = 1

abbrev pub listing : ℕ
listing = 2

abbrev pub informing : ℕ
informing = 3

abbrev pub unsupported : ℕ
unsupported = 2_147_483_649

abbrev pub malformed : ℕ
malformed = 2_147_483_651

abbrev pub unknown : ℕ
unknown = 2_147_483_654

abbrev pub too_long : ℕ
too_long = 2_147_483_657

-- a context, which a client can ask about blocks
abbrev pub telling : ℕ
telling = 4

-- an export that was found, by its number
abbrev pub place_at : ℕ → Export → Place
place_at number e = record { export = number; size = e.size; flags = e.flags; blocks = e.blocks; bitmap = e.bitmap }

-- the first export of this name, from a number on
abbrev pub named_from : ℕ → List Export → List ℕ → Option Place
named_from number [] name = None
named_from number (e ∷ exports) name =
    if bytes_eq e.name.now name then Some (place_at number e) else named_from (number + 1) exports name

-- the first export
abbrev pub first_of : List Export → Option Place
first_of [] = None
first_of (e ∷ exports) = Some (place_at 0 e)

-- The export that a name means: the empty name the first one.
abbrev pub named : List Export → List ℕ → Option Place
named exports name = if length name == 0 then first_of exports else named_from 0 exports name

-- what is said, and what the session is then
pub record Reaction : Type 0 where
  pub answer : List ℕ
  pub after : Session

-- a session in another stage
abbrev pub moved : Session → Stage → Session
moved session stage = record { no_zeroes = session.no_zeroes; structured = session.structured; described = session.described; stage = stage }

-- a reply without data, after which the haggling goes on
abbrev pub bare : Session → ℕ → ℕ → Reaction
bare session option kind = record { answer = option_reply option kind []; after = session }

-- the end of the haggling by an export's name, after which a name that is none ends the session
abbrev pub named_export : Session → Option Place → Reaction
named_export session None = record { answer = []; after = moved session Over }
named_export session (Some place) = record {
  answer = export_reply place.size place.flags (if session.no_zeroes then 0 else 124);
  after = moved session (Serving place);
}

-- all exports, one after the other
abbrev pub listed : List Export → List ℕ
listed exports = flat_map (λ e. option_reply 3 listing (listed_name e.name.now)) exports ++ option_reply 3 acknowledged []

-- The data of an option on an export: the name behind its length, and so many numbers of facts that are asked for.
abbrev pub name_len : List ℕ → ℕ
name_len text = number_at text 0 4

abbrev pub asked_name : List ℕ → Option (List ℕ)
asked_name text =
    if nat_lt (length text) 6 then None else
    if nat_lt (length text) (6 + name_len text) then None else
    if length text == 6 + name_len text + 2 * number_at text (4 + name_len text) 2 then Some (slice_range text 4 (4 + name_len text)) else
    None

-- the lengths of requests that an export takes, where they are told
abbrev pub told_blocks : ℕ → Option BlockSizes → List ℕ
told_blocks option None = []
told_blocks option (Some blocks) = option_reply option informing (blocks_info blocks.least blocks.best blocks.most)

-- an export's size and flags, and its block sizes
abbrev pub informed : Session → ℕ → Stage → Option Place → Reaction
informed session option stage None = bare session option unknown
informed session option stage (Some place) = record {
  answer = option_reply option informing (export_info place.size place.flags) ++ told_blocks option place.blocks ++ option_reply option acknowledged [];
  after = moved session stage;
}

-- where the client waits for requests, if it goes on with the export
abbrev pub stage_at : Session → Bool → Option Place → Stage
stage_at session goes None = session.stage
stage_at session false (Some place) = session.stage
stage_at session true (Some place) = Serving place

-- What an option on an export is answered, with which the client goes on or not.
abbrev pub on_export : ℕ → Bool → List Export → Session → Option (List ℕ) → Reaction
on_export option goes exports session None = bare session option malformed
on_export option goes exports session (Some name) = informed session option (stage_at session goes (named exports name)) (named exports name)

-- structured replies are taken from then on
abbrev pub with_structure : Session → Reaction
with_structure session = record {
  answer = option_reply 8 acknowledged [];
  after = record { no_zeroes = session.no_zeroes; structured = true; described = session.described; stage = session.stage };
}

-- where an option's data are to be none
abbrev pub without_data : Session → ℕ → List ℕ → Reaction → Reaction
without_data session option text reaction = if length text == 0 then reaction else bare session option malformed

-- The data of an option on contexts: an export's name behind its length, how many queries, and each behind its length.
abbrev pub context_name : List ℕ → Option (List ℕ)
context_name text =
    if nat_lt (length text) 8 then None else
    if nat_lt (length text) (8 + name_len text) then None else
    Some (slice_range text 4 (4 + name_len text))

-- There are two contexts: which bytes are zeros, and which are marked, as QEMU's server tells the bits of a bitmap
-- (docs/interop/nbd.rst of QEMU); here that of the store, cow.
abbrev pub name_of : Context → List ℕ
name_of Allocation = codes "base:allocation"
name_of Bitmap = codes "qemu:dirty-bitmap:cow"

-- A query in a list may also be of all contexts that begin so, and no query is of all.
abbrev pub is_front : Context → List ℕ → Bool
is_front Allocation query = bytes_eq query (codes "base:")
is_front Bitmap query = if bytes_eq query (codes "qemu:") then true else bytes_eq query (codes "qemu:dirty-bitmap:")

abbrev pub is_fitting : Context → Bool → List ℕ → Bool
is_fitting context chooses query = if bytes_eq query (name_of context) then true else not chooses && is_front context query

-- whether one of so many queries is of the context, or one before was; nothing where they are malformed
unfoldable pub asked_by : Context → Bool → Bool → ℕ → List ℕ → Option Bool
asked_by context chooses found zero text = if length text == 0 then Some found else None
asked_by context chooses found (suc count) text =
    if nat_lt (length text) 4 then None else
    if nat_lt (length text) (4 + number_at text 0 4) then None else
    asked_by context chooses (if is_fitting context chooses (slice_range text 4 (4 + number_at text 0 4)) then true else found) count (drop (4 + number_at text 0 4) text)

abbrev pub query_count : List ℕ → ℕ
query_count text = number_at text (4 + name_len text) 4

abbrev pub asks_for : Context → Bool → List ℕ → Option Bool
asks_for context chooses text = asked_by context chooses (not chooses && (query_count text == 0)) (query_count text) (drop (8 + name_len text) text)

-- the contexts that are asked for; nothing where the queries are malformed
abbrev pub both : Option Bool → Option Bool → Option Contexts
both None bitmap = None
both (Some allocation) None = None
both (Some allocation) (Some bitmap) = Some (record { allocation = allocation; bitmap = bitmap })

abbrev pub asks : Bool → List ℕ → Option Contexts
asks chooses text = both (asks_for Allocation chooses text) (asks_for Bitmap chooses text)

-- those of them that an export has
abbrev pub offered : Bool → Contexts → Contexts
offered bitmap contexts = record { allocation = contexts.allocation; bitmap = bitmap && contexts.bitmap }

-- A session in which these contexts may be asked about, where they are chosen; a list chooses nothing.
abbrev pub choosing : Bool → Session → Option Described → Session
choosing false session described = session
choosing true session described = record { no_zeroes = session.no_zeroes; structured = session.structured; described = described; stage = session.stage }

-- an option on contexts that is refused: nothing is chosen
abbrev pub refused : ℕ → Bool → Session → ℕ → Reaction
refused option chooses session kind = record { answer = option_reply option kind []; after = choosing chooses session None }

-- a context's number in a session that has chosen it; a list has no numbers
abbrev pub number_of : Bool → Context → ℕ
number_of false context = 0
number_of true Allocation = 1
number_of true Bitmap = 2

abbrev pub told_context : ℕ → Bool → Context → Bool → List ℕ
told_context option chooses context false = []
told_context option chooses context true = option_reply option telling (context_info (number_of chooses context) (name_of context))

-- the contexts, one after the other
abbrev pub told_contexts : ℕ → Bool → Contexts → List ℕ
told_contexts option chooses contexts = told_context option chooses Allocation contexts.allocation ++ told_context option chooses Bitmap contexts.bitmap

abbrev pub contexts_at : ℕ → Bool → Session → Option Place → Option Contexts → Reaction
contexts_at option chooses session place None = refused option chooses session malformed
contexts_at option chooses session None (Some asks) = refused option chooses session unknown
contexts_at option chooses session (Some place) (Some asks) = record {
  answer = told_contexts option chooses (offered place.bitmap asks) ++ option_reply option acknowledged [];
  after = choosing chooses session (Some (record { export = place.export; contexts = offered place.bitmap asks }));
}

abbrev pub contexts_named : ℕ → Bool → List Export → Session → List ℕ → Option (List ℕ) → Reaction
contexts_named option chooses exports session text None = refused option chooses session malformed
contexts_named option chooses exports session text (Some name) = contexts_at option chooses session (named exports name) (asks chooses text)

-- What an option on contexts is answered: a list of them, or a choice. They want structured replies.
abbrev pub on_contexts : ℕ → Bool → List Export → Session → List ℕ → Reaction
on_contexts option chooses exports session text =
    if session.structured then contexts_named option chooses exports session text (context_name text) else refused option chooses session malformed

-- the session ends
abbrev pub aborted : Session → Reaction
aborted session = record { answer = option_reply 2 acknowledged []; after = moved session Over }

-- What an option with these data is answered.
abbrev pub haggled : List Export → Session → ℕ → List ℕ → Reaction
haggled exports session option text =
    if option == 1 then named_export session (named exports text) else
    if option == 2 then aborted session else
    if option == 3 then without_data session 3 text (record { answer = listed exports; after = session }) else
    if option == 6 then on_export 6 false exports session (asked_name text) else
    if option == 7 then on_export 7 true exports session (asked_name text) else
    if option == 8 then without_data session 8 text (with_structure session) else
    if option == 9 then on_contexts 9 false exports session text else
    if option == 10 then on_contexts 10 true exports session text else
    bare session option unsupported

-- the longest data of an option that are looked at
abbrev pub longest_text : ℕ
longest_text = 65536

-- the same where the data are too long: of a name there is no export
abbrev pub haggled_unread : Session → ℕ → Reaction
haggled_unread session option =
    if option == 1 then record { answer = []; after = moved session Over } else bare session option too_long

-- this is said, and the session is then so
abbrev pub IsReaction : List ℕ → Session → Reaction → Type 0
IsReaction answer after reaction = (answer ≡ reaction.answer) × (after ≡ reaction.after)

-- what an option with any data is answered
abbrev pub haggled_any : List Export → Session → ℕ → List ℕ → Reaction
haggled_any exports session option text =
    if nat_lt longest_text (length text) then haggled_unread session option else haggled exports session option text
