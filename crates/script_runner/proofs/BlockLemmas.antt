-- A block of lines at a desk.
use Rattle.std.proofs.Common.{◌≡◌, ◌≢◌, ℕ, List, [], ◌∷◌, ◌++◌, Option, Some, None, refl, sym, ap, ◌∙◌, subst, inl, inr}
use Rattle.std.specs.Io.KnownBytes.{Appends}
use Rattle.std.specs.List.{All}
use Rattle.std.specs.Prelude.{IfSome, map}
use Rattle.sector.specs.declared.refusal.Refusal.{Refusal}
use Rattle.sector.specs.declared.refusal.Refusal.TheVariants.{NoMemory}
use Rattle.command_semantics.specs.State.{Table}
use Rattle.parallel_lines.specs.Answering.{AreAnswered}
use Rattle.parallel_lines.specs.Running.{IsOfBlock, IsTableRun, all_told, seat_in}
use Rattle.parallel_lines.specs.Spared.{AreSpared}
use Rattle.command_replies.specs.declared.command_reply.CommandReply.{CommandReply}
use Rattle.command_replies.specs.declared.command_reply.CommandReply.TheVariants.{Done, Refused}
use Rattle.command_replies.specs.Texts.{text_of}
use Rattle.script_runner.specs.declared.summary.Summary.{Summary}
use Rattle.script_runner.specs.Counts.{with_reply}
use Rattle.command.specs.Blocks.{Lines}
use Rattle.parallel_lines.specs.Looking.{block_refusal}
use Rattle.script_runner.specs.Output.{LineOutcome, Standing, counted, followed, printed}
use Rattle.script_runner.specs.Sessions.{IsBlockBy, IsBlockDone, refuses}
use Rattle.script_runner.proofs.AskingLemmas.{memory_or_not}
use Rattle.script_runner.proofs.EndedLemmas.{both_printed, counted_append, one_printed}

-- one reply more is printed
pub reply_printed : (before mid after : Option (List ℕ)) (replies : List CommandReply) (reply : CommandReply) → Appends before mid (printed replies) → Appends mid after (text_of reply) → Appends before after (printed (replies ++ reply ∷ []))
reply_printed before mid after replies reply was is = both_printed before mid after replies (reply ∷ []) was (one_printed mid after reply is)

-- a block that is refused
pub refused_block : (block : Lines) (first : Option Refusal) (old new : Table) (e : Refusal) → (e ≢ NoMemory → first ≡ Some e) → IfSome first (λ _. new ≡ old) → IsTableRun block.lines old new → AreSpared old.volumes new.volumes → IsBlockBy block first old (refuses e new)
refused_block block first old new e why stays run spared = elim (memory_or_not e) [
  | inl memory ↦ starved first stays memory
  | inr other ↦ told first stays (why other)
]
  where
    starved : (first : Option Refusal) → IfSome first (λ _. new ≡ old) → e ≡ NoMemory → IsBlockBy block first old (refuses e new)
    starved None stays memory = record { told = inr (ap (λ r. Refused r ∷ []) memory, spared); table = run }
    starved (Some f) stays memory = inr (ap (λ r. refuses r new) memory ∙ ap (refuses NoMemory) stays)

    told : (first : Option Refusal) → IfSome first (λ _. new ≡ old) → first ≡ Some e → IsBlockBy block first old (refuses e new)
    told None stays is = absurd (let no : ⊥ = cc in no)
    told (Some f) stays is = inl (ap (refuses e) stays ∙ ap (λ r. refuses r old) (let same : e ≡ f = cc in same))

-- a block that was run
pub run_block : (block : Lines) (first : Option Refusal) (old new : Table) (told : List CommandReply) → first ≡ None → All IsOfBlock told → map seat_in told ≡ all_told block → AreAnswered block old new told → IsTableRun block.lines old new → IsBlockBy block first old (record { replies = told ++ Done ∷ []; table = new })
run_block block first old new told none all seats answers run =
    let P : Option Refusal → Type 0 = λ f. IsBlockBy block f old (record { replies = told ++ Done ∷ []; table = new }) in
    subst P (sym none) (record { told = inl (told, all, seats, answers, refl); table = run })

-- its answers and `ok` are counted
pub run_counted : (told : List CommandReply) (s : Summary) → with_reply Done (counted told s) ≡ counted (told ++ Done ∷ []) s
run_counted told s = sym (counted_append told (Done ∷ []) s)

-- what a block that is refused did, as its desk shows it
pub block_refused : (block : Lines) (old now : Standing) (was new : Table) (summary : Summary) (e : Refusal) (P : List CommandReply → Type 0) → old ≡ record { table = was; summary = summary } → (e ≢ NoMemory → block_refusal block was ≡ Some e) → IfSome (block_refusal block was) (λ _. new ≡ was) → IsTableRun block.lines was new → AreSpared was.volumes new.volumes → now ≡ followed (record { table = new; summary = summary }) (refuses e new) → P (Refused e ∷ [])
    → (done : LineOutcome) × IsBlockDone block old.table done × (now ≡ followed old done) × P done.replies
block_refused block old now was new summary e P view why stays run spared is last =
    let D : Table → Type 0 = λ t. IsBlockDone block t (refuses e new) in (
      refuses e new,
      subst D (sym (ap (λ (s : Standing). s.table) view)) (refused_block block (block_refusal block was) was new e why stays run spared),
      is ∙ ap (λ (s : Standing). record { table = new; summary = counted (Refused e ∷ []) s.summary }) (sym view),
      last,
    )

-- and of one that was run
pub block_ran : (block : Lines) (old : Standing) (was new : Table) (summary now : Summary) (told : List CommandReply) (P : List CommandReply → Type 0) → old ≡ record { table = was; summary = summary } → block_refusal block was ≡ None → All IsOfBlock told → map seat_in told ≡ all_told block → AreAnswered block was new told → IsTableRun block.lines was new → now ≡ with_reply Done (counted told summary) → P (told ++ Done ∷ [])
    → (done : LineOutcome) × IsBlockDone block old.table done × (record { table = new; summary = now } ≡ followed old done) × P done.replies
block_ran block old was new summary now told P view none all seats answers run counts last =
    let D : Table → Type 0 = λ t. IsBlockDone block t (record { replies = told ++ Done ∷ []; table = new }) in (
      record { replies = told ++ Done ∷ []; table = new },
      subst D (sym (ap (λ (s : Standing). s.table) view)) (run_block block (block_refusal block was) was new told none all seats answers run),
      ap (λ (n : Summary). record { table = new; summary = n }) (counts ∙ run_counted told summary ∙ ap (λ (s : Standing). counted (told ++ Done ∷ []) s.summary) (sym view)),
      last,
    )
