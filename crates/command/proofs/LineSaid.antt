-- What a line says, by each test in its turn.
use Rattle.std.proofs.Common.{◌≡◌, ℕ, ◌≤◌, List, length, true, false, cond, refl, sym, ap, subst, ◌∙◌}
use Rattle.std.specs.Prelude.{Option, None, Ok, Err, Result}
use Rattle.std.specs.List.{list_all}
use Rattle.words.proofs.Bools.{no_more}
use Rattle.sector.specs.declared.refusal.Refusal.{Refusal}
use Rattle.sector.specs.declared.refusal.Refusal.TheVariants.{BadTable}
use Rattle.words.specs.Given.{Gives}
use Rattle.words.specs.Words.{words_of}
use Rattle.command.specs.declared.grammar.Command.{Command}
use Rattle.command.specs.Grammar.{command_of}
use Rattle.command.specs.Line.{is_silent, is_printable, line_saying, said_of}

-- the command of a line that is looked at byte by byte
abbrev pub command_text : List ℕ → Result Command Refusal
command_text line = cond (list_all is_printable line) (command_of (words_of line)) (Err BadTable)

pub said_nothing : (max : ℕ) (line : List ℕ) → length line ≤ max → is_silent line ≡ true → said_of max line ≡ Ok None
unfolding said_of
said_nothing max line short silent = rw (no_more max (length line) short, silent) refl

pub said_any : (max : ℕ) (line : List ℕ) → length line ≤ max → is_silent line ≡ false → said_of max line ≡ cond (list_all is_printable line) (line_saying (command_of (words_of line))) (Err BadTable)
unfolding said_of
said_any max line short says = rw (no_more max (length line) short, says) refl

pub said_words : (max : ℕ) (line : List ℕ) (rule : Result Command Refusal) → length line ≤ max → is_silent line ≡ false → command_text line ≡ rule → said_of max line ≡ line_saying rule
said_words max line rule short says is =
    said_any max line short says
    ∙ elim (list_all is_printable line) as (λ t. cond t (line_saying (command_of (words_of line))) (Err BadTable) ≡ line_saying (cond t (command_of (words_of line)) (Err BadTable))) [ true ↦ refl | false ↦ refl ]
    ∙ ap line_saying is

-- an answer that is the rule's, or that a rule gives, is one that the line gives
gives_same : (r rule : Result (Option Command) Refusal) → r ≡ rule → Gives r rule
gives_same (Ok x) rule is = sym is
gives_same (Err e) rule is = λ other. sym is

gives_as : (r rule line : Result (Option Command) Refusal) → line ≡ rule → Gives r rule → Gives r line
gives_as r rule line is gives = let P : Result (Option Command) Refusal → Type 0 = λ t. Gives r t in subst P (sym is) gives

pub gives_words : (r : Result (Option Command) Refusal) (max : ℕ) (line : List ℕ) (rule : Result Command Refusal) → length line ≤ max → is_silent line ≡ false → command_text line ≡ rule → Gives r (line_saying rule) → Gives r (said_of max line)
gives_words r max line rule short says is gives = gives_as r (line_saying rule) (said_of max line) (said_words max line rule short says is) gives

pub same_words : (r : Result (Option Command) Refusal) (max : ℕ) (line : List ℕ) (rule : Result Command Refusal) → length line ≤ max → is_silent line ≡ false → command_text line ≡ rule → r ≡ line_saying rule → Gives r (said_of max line)
same_words r max line rule short says is same = gives_words r max line rule short says is (gives_same r (line_saying rule) same)

pub gives_any : (r : Result (Option Command) Refusal) (max : ℕ) (line : List ℕ) → length line ≤ max → is_silent line ≡ false → Gives r (cond (list_all is_printable line) (line_saying (command_of (words_of line))) (Err BadTable)) → Gives r (said_of max line)
gives_any r max line short says gives = gives_as r (cond (list_all is_printable line) (line_saying (command_of (words_of line))) (Err BadTable)) (said_of max line) (said_any max line short says) gives
