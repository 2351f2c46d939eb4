-- The tasks of the lines that were read so far.
use Rattle.std.proofs.Common.{◌≡◌, ◌≢◌, ◌+◌, ◌-◌, ◌<◌, ◌≤◌, ℕ, zero, suc, Bool, true, false, List, [], ◌∷◌, ◌++◌, sym, ap, ◌∙◌, subst, refl, arith}
use Rattle.std.specs.Global.{Vec}
use Rattle.std.specs.Prelude.{◌==◌}
use Rattle.std.specs.List.{AllZip}
use Rattle.std.proofs.lemmas.Bool.{eqb-true}
use Rattle.std.proofs.lemmas.List.{append-nil, append_assoc}
use Rattle.command.specs.declared.seat_line.SeatLine.{SeatLine}
use Rattle.parallel_threads.specs.declared.task.Task.{Task}
use Rattle.parallel_threads.specs.Tasks.{tasks_at}
use Rattle.parallel_lines.specs.Answering.{lines_by}

-- none for one seat more
pub none_more : (all : List (Vec Task)) (v : Vec Task) → v.items ≡ [] → ((i : ℕ) → tasks_at all i ≡ []) → (i : ℕ) → tasks_at (all ++ v ∷ []) i ≡ []
none_more [] v is none zero = is
none_more [] v is none (suc i) = refl
none_more (x ∷ xs) v is none zero = none 0
none_more (x ∷ xs) v is none (suc i) = none_more xs v is (λ k. none (suc k)) i

-- Where the tasks of the lines that are left are put behind those that are there, there is one for each line.
abbrev pub AreSoFar : (SeatLine → Task → Type 0) → List SeatLine → List SeatLine → (ℕ → List Task) → Type 0
AreSoFar is lines rest tasks = (i : ℕ) → i < 8 → (more : List Task) → AllZip is (lines_by (i + 1) rest) more → AllZip is (lines_by (i + 1) lines) (tasks i ++ more)

pub none_so_far : (is : SeatLine → Task → Type 0) (lines rest : List SeatLine) (tasks : ℕ → List Task) → rest ≡ lines → ((i : ℕ) → tasks i ≡ []) → AreSoFar is lines rest tasks
none_so_far is lines rest tasks all none i low more h =
    subst (λ (l : List Task). AllZip is (lines_by (i + 1) lines) (l ++ more)) (sym (none i)) (subst (λ (l : List SeatLine). AllZip is (lines_by (i + 1) l) more) all h)

pub all_so_far : (is : SeatLine → Task → Type 0) (lines rest : List SeatLine) (tasks : ℕ → List Task) → rest ≡ [] → AreSoFar is lines rest tasks → (i : ℕ) → i < 8 → AllZip is (lines_by (i + 1) lines) (tasks i)
all_so_far is lines rest tasks none so_far i low =
    subst (λ (l : List Task). AllZip is (lines_by (i + 1) lines) l) (append-nil (tasks i))
    (so_far i low [] (subst (λ (l : List SeatLine). AllZip is (lines_by (i + 1) l) []) (sym none) tt))

pub more_so_far : (is : SeatLine → Task → Type 0) (lines rest after : List SeatLine) (line : SeatLine) (old new : ℕ → List Task) (task : Task) → 1 ≤ line.seat → rest ≡ line ∷ after → is line task
    → new (line.seat - 1) ≡ old (line.seat - 1) ++ task ∷ [] → ((i : ℕ) → i ≢ line.seat - 1 → new i ≡ old i) → AreSoFar is lines rest old → AreSoFar is lines after new
more_so_far is lines rest after line old new task some next one put others so_far i low more h = by (line.seat == i + 1) refl
  where
    by : (b : Bool) → (line.seat == i + 1) ≡ b → AllZip is (lines_by (i + 1) lines) (new i ++ more)
    by true e =
        let same : line.seat ≡ i + 1 = eqb-true line.seat (i + 1) e in
        let place : line.seat - 1 ≡ i = omega (arith, same) in
        let now : new i ≡ old i ++ task ∷ [] = subst (λ (k : ℕ). new k ≡ old k ++ task ∷ []) place put in
        let first : lines_by (i + 1) rest ≡ line ∷ lines_by (i + 1) after = ap (lines_by (i + 1)) next ∙ (rw e refl) in
        subst (λ (l : List Task). AllZip is (lines_by (i + 1) lines) l) (sym (append_assoc (old i) (task ∷ []) more) ∙ ap (λ (l : List Task). l ++ more) (sym now))
        (so_far i low (task ∷ more) (subst (λ (l : List SeatLine). AllZip is l (task ∷ more)) (sym first) (one, h)))
    by false e =
        let now : new i ≡ old i = others i (λ same. absurd (let is_seat : line.seat ≡ i + 1 = omega (arith, some, same) in let no : ⊥ = grind (arith, e, is_seat) in no)) in
        let first : lines_by (i + 1) rest ≡ lines_by (i + 1) after = ap (lines_by (i + 1)) next ∙ (rw e refl) in
        subst (λ (l : List Task). AllZip is (lines_by (i + 1) lines) (l ++ more)) (sym now)
        (so_far i low more (subst (λ (l : List SeatLine). AllZip is l more) (sym first) h))
