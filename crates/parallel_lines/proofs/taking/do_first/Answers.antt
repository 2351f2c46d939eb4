-- It is no request's, and so it is done.
use Rattle.std.proofs.Common.{◌≡◌, ◌≢◌, ℕ, Bool, true, false, List, [], ◌∷◌, map, Option, Some, None, refl, sym, ap, ◌∙◌, subst, arith}
use Rattle.std.specs.Prelude.{AllPairs}
use Rattle.layers.specs.declared.stack.Stack.{Stack}
use Rattle.layers.specs.Stack.{stack_contents, stack_layers}
use Rattle.plain_machine.specs.declared.event.Event.{Event}
use Rattle.plain_machine.specs.declared.event.Event.TheVariants.{Issue, CopyRead, CopyWrite, ZeroNext, WriteArea, Publish, WriteInvalid, FlushStore, MergeGroup, MergeAreaRead, MergeRead, MergeWrite, MergeFlush, MergeCommit, MergeRelease}
use Rattle.in_flight.specs.Kinds.{in_flight}
use Rattle.in_flight.specs.declared.flights.Flight.{Flight}
use Rattle.volume_laws.specs.Due.{DueSnap}
use Rattle.volume_laws.specs.MergeDue.{DueMerge}
use Rattle.volume.specs.Volumed.{Volumed, dues_of, is_due_by, is_due_of, merge_due, next_of}
use Rattle.volume.proofs.DueBeside.{first_due}
use Rattle.audited_volume.specs.Seats.{Seated, flight_in, may_do}
use Rattle.parallel_lines.proofs.Rests.{still_rested}
use Rattle.parallel_lines.proofs.taking.do_first.Goals as goal

-- no request is in flight of the volume
none_given : (fs : List Flight) → [] ≡ map in_flight fs → fs ≡ []
none_given [] same = refl
none_given (f ∷ fs) same = absurd (let no : [] ≡ in_flight f ∷ map in_flight fs = same in cc)

apart_none : AllPairs (λ (f g : Flight). f.number ≢ g.number) []
apart_none i j d first within = absurd (omega (arith, within))

apart : (fs : List Flight) → fs ≡ [] → AllPairs (λ (f g : Flight). f.number ≢ g.number) fs
apart fs none = subst (AllPairs (λ (f g : Flight). f.number ≢ g.number)) (sym none) apart_none

-- and so no Issue is due
no_issue : (dues : List DueSnap) (fs : List Flight) (merge : Option DueMerge) (number : ℕ) → fs ≡ [] → is_due_by dues fs merge (Issue number) ≡ true → ⊥
no_issue dues fs merge number none due = go merge (subst (λ (l : List Flight). is_due_by dues l merge (Issue number) ≡ true) none due)
  where
    go : (m : Option DueMerge) → is_due_by dues [] m (Issue number) ≡ true → ⊥
    go None h = absurd (let no : false ≡ true = h in cc)
    go (Some d) h = absurd (let no : false ≡ true = h in cc)

-- any other event may be done for anyone
may_all : (v : Volumed Stack) (held : List Seated) (event : Event) → v.flights ≡ [] → is_due_of stack_contents stack_layers v event ≡ true → may_do 1 event held ≡ true
may_all v held (Issue number) none due = absurd (no_issue (dues_of stack_contents stack_layers v) v.flights (merge_due stack_contents v.merge) number none due)
may_all v held (CopyRead number) none due = refl
may_all v held (CopyWrite number) none due = refl
may_all v held (ZeroNext number) none due = refl
may_all v held (WriteArea number) none due = refl
may_all v held (Publish number) none due = refl
may_all v held (WriteInvalid number) none due = refl
may_all v held (FlushStore number) none due = refl
may_all v held MergeGroup none due = refl
may_all v held MergeAreaRead none due = refl
may_all v held MergeRead none due = refl
may_all v held MergeWrite none due = refl
may_all v held MergeFlush none due = refl
may_all v held MergeCommit none due = refl
may_all v held MergeRelease none due = refl

not_denied : (v : Volumed Stack) (held : List Seated) (event : Event) → held ≡ [] → map flight_in held ≡ map in_flight v.flights → next_of stack_contents stack_layers v ≡ Some event → false ≡ may_do 1 event held → ⊥
not_denied v held event idle same next denied =
    let none : v.flights ≡ [] = none_given v.flights (sym (ap (map flight_in) idle) ∙ same) in
    let no : false ≡ true = denied ∙ may_all v held event none (first_due stack_contents stack_layers v event (apart v.flights none) next) in
    absurd (let said : false ≡ true = no in cc)

pub unreachable-requires : goal.unreachable-requires
unreachable-requires c = not_denied c.args.audit.now.volume c.args.audit.now.held c.args.event c.requires.none c.look_at_requests.ensures c.requires.due (c.in-Err.ensures.does.first c.requires.due)

pub returns-clause-rested : goal.returns-clause-rested
returns-clause-rested c before so = still_rested before c.args.audit.now c.apply.new.self _ so c.in-Ok.ensures.applied c.in-Ok.ensures.does.kept c.in-Ok.ensures.does.loud
