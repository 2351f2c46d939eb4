-- What the tasks of seats may merge.
use Rattle.std.proofs.Common.{◌≡◌, ◌==◌, ◌&&◌, ◌+◌, ◌<◌, ℕ, Bool, true, false, List, [], Option, None, Some, length, get_or, refl, sym, ap, ◌∙◌, subst, arith, eq-eqb}
use Rattle.std.specs.List.{All, list_any, range_with_len}
use Rattle.std.proofs.lemmas.List.{append_cancel_left, append-nil, get_or-map}
use Rattle.std.proofs.lemmas.List.Elements.{All-nil, All-same}
use Rattle.std.proofs.lemmas.List.Folds.{list_any_at}
use Rattle.std.proofs.lemmas.List.FromFn.{get_or-range_with_len, length-range_with_len}
use Rattle.audited_volume.specs.declared.entry.Entry.{Entry}
use Rattle.audited_volume.specs.Books.{AuditShape}
use Rattle.locked_volume.specs.AskedFor.{AddsAskedFor, IsAskedFor}
use Rattle.locked_volume.specs.Denying.{Wish}
use Rattle.sector.specs.declared.refusal.Refusal.{Refusal}
use Rattle.parallel_threads.specs.Left.{AllAddAskedFor}
use Rattle.volume_threads.specs.Rigs.{SeatShape, start_in}
use Rattle.parallel_threads.specs.Tasks.{IsDone, IsDoneAs, MayMerge, is_merge_in, is_merge_of, merges_among}
use Rattle.parallel_threads.specs.declared.task.Job.{Job}
use Rattle.parallel_threads.specs.declared.task.Job.TheVariants.{Merge}
use Rattle.parallel_threads.specs.declared.task.Task.{Task}

-- by all tasks, each task of a seat may merge what it merges
pub all_may : (tasks : ℕ → List Task) (i : ℕ) → i < 8 → All (MayMerge (merges_among tasks)) (tasks i)
all_may tasks i low k d here volume number is =
    list_any_at (λ (j : ℕ). list_any (λ (t : Task). is_merge_in volume number t.job) (tasks j)) (range_with_len 0 8) i 0 (subst (λ (n : ℕ). i < n) (sym (length-range_with_len 0 8)) low)
    (subst (λ (j : ℕ). list_any (λ (t : Task). is_merge_in volume number t.job) (tasks j) ≡ true) (sym (get_or-range_with_len 0 8 i 0 low ∙ (let is : 0 + i ≡ i = omega arith in is)))
    (list_any_at (λ (t : Task). is_merge_in volume number t.job) (tasks i) k d here is))

both : (a b : Bool) → a ≡ true → b ≡ true → (a && b) ≡ true
both true b x y = y
both false b x y = x

-- a merge merges what it is of
pub merges_own : (volume number : ℕ) (job : Job) → job ≡ Merge volume number → is_merge_of volume number job ≡ true
merges_own volume number job is = ap (is_merge_of volume number) is ∙ both (volume == volume) (number == number) (eq-eqb volume volume refl) (eq-eqb number number refl)

-- and a task what its job does
pub job_may : (merges : ℕ → ℕ → Bool) (task : Task) (job : Job) → task.job ≡ Some job → MayMerge merges task → (volume number : ℕ) → is_merge_of volume number job ≡ true → merges volume number ≡ true
job_may merges task job is may volume number so = may volume number (ap (is_merge_in volume number) is ∙ so)

-- a task that was done merges nothing any more
pub done_may : (denies : ℕ → List Entry → Wish → Refusal → Type 0) (pieces : ℕ → ℕ) (merges : ℕ → ℕ → Bool) (before after : Task) (old new : SeatShape) → IsDone denies pieces before after old new → MayMerge merges before → MayMerge merges after
done_may denies pieces merges before after old new done may = go before.job done
  where
    go : (job : Option Job) → IsDoneAs denies pieces job before after old new → MayMerge merges after
    go None h = λ volume number is. may volume number (ap (λ (t : Task). is_merge_in volume number t.job) (sym h.0) ∙ is)
    go (Some job) h = λ volume number is. absurd (let no : false ≡ true = ap (λ (t : Task). is_merge_in volume number t.job) (sym h.1) ∙ is in cc)

-- nothing is new
pub same_asked : {B : Type 0} (tasks : ℕ → List Task) (audits : List (AuditShape B)) → AllAddAskedFor tasks audits audits
same_asked tasks audits k d low more is =
    let es = (get_or audits k d).entries in
    All-same (IsAskedFor (merges_among tasks k)) more [] (append_cancel_left es more [] (sym is ∙ sym (append-nil es))) (All-nil (IsAskedFor (merges_among tasks k)))

-- what is new in the journals of a rig that was closed
pub closed_asked : {B : Type 0} (tasks : ℕ → List Task) (old new : List (AuditShape B)) (volumes : ℕ) (start : ℕ → List Entry) (merges : ℕ → ℕ → Bool) → volumes ≡ length old → start ≡ start_in old → merges ≡ merges_among tasks
    → ((k : ℕ) (d : AuditShape B) → k < volumes → AddsAskedFor (merges k) (start k) (get_or new k d).entries) → AllAddAskedFor tasks old new
closed_asked tasks old new volumes start merges volumes_are start_is merges_are asked k d low =
    let was : start k ≡ (get_or old k d).entries = ap (λ f. f k) start_is ∙ get_or-map (λ a. a.entries) old k d [] low in
    subst (λ (x : (ℕ → Bool) × List Entry). AddsAskedFor x.0 x.1 (get_or new k d).entries) (λ i. (merges_are i k, was i))
    (asked k d (subst (λ n. k < n) (sym volumes_are) low))
