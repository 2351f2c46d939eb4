-- One piece more is served.
use Rattle.std.proofs.Common.{◌≡◌, ◌≢◌, inl, inr, ℕ, ◌+◌, ◌*◌, Bool, true, false, List, [], ◌∷◌, ◌++◌, get_or, take, drop, Option, Some, None, refl, sym, ◌∙◌, ap, subst, arith, drop-drop}
use Rattle.std.specs.Prelude.{◌==◌, ◌||◌}
use Rattle.std.specs.List.{list_any}
use Rattle.std.proofs.lemmas.Bool.{cases_Bool, cond-true, cond-false}
use Rattle.std.proofs.lemmas.List.{append_assoc, append-nil}
use Rattle.device.specs.Layers.{Layer}
use Rattle.sector.specs.declared.refusal.Refusal.{Refusal}
use Rattle.sector.specs.declared.refusal.Refusal.TheVariants.{Invalid as InvalidRefusal}
use Rattle.chunk.specs.Pieces.{Span}
use Rattle.chunk_alloc.specs.declared.usage.Usage.{Usage}
use Rattle.plain_machine.specs.declared.request.Dev.{Dev}
use Rattle.plain_machine.specs.declared.request.Op.{Op}
use Rattle.plain_machine.specs.declared.request.Op.TheVariants.{Read, Write}
use Rattle.plain_machine.specs.declared.request.Dev.TheVariants.{Snap as ToSnap}
use Rattle.plain_machine.specs.declared.request.Reply.{Reply}
use Rattle.plain_machine.specs.declared.request.Reply.TheVariants.{Refused}
use Rattle.plain_machine.specs.declared.request.Failure.{Failure}
use Rattle.plain_machine.specs.declared.request.Request.{Request}
use Rattle.whole_commands.specs.Commands.{bytes_in}
use Rattle.snapshot.specs.Kept.{Kept}
use Rattle.volume.specs.Volumed.{Volumed}
use Rattle.snapshot_list.specs.Finding.{place_of_snap}
use Rattle.volume.specs.Leaving.{usage_of}
use Rattle.volume.specs.Submitting.{IsRefusedAs}
use Rattle.plain_machine.specs.declared.request.Replied.{Replied}
use Rattle.volume_commands.specs.Rested.{Attached, attached_of, rested_of, has_number, snap_at}
use Rattle.plain_machine.specs.Failures.{refusal_of}
use Rattle.volume_commands.specs.Serving.{IsGood}
use Rattle.volume_commands.specs.Draining.{IsDrainedApart, is_idle_of}
use Rattle.volume_commands.specs.Among.{IsServedAmong, IsRefusedAmong, IsRequestOf, IsPieceServed, IsPieceFailed, AreReadAmong, AreWrittenAmong, IsTurnedAway, is_live_dev, live_in, sectors_of}
use Rattle.volume_commands.proofs.Seen.{dev_missing}
use Rattle.volume_commands.proofs.Closes.{found_snap}
use Rattle.volume_commands.proofs.Drains.{apart_none}

module _ {B : Type 0} (holds : B → ℕ → List ℕ → Type 0) (contents : B → List ℕ) (layers : B → List Layer) (faults size : B → ℕ) (dev : Dev) where
  from_start : (op : Op) (p : Span) (reply : Reply) (u v w : Volumed B) (before now after : List Replied) → v ≡ u → now ≡ before → IsPieceServed holds contents layers faults size dev op p reply v w now after → IsPieceServed holds contents layers faults size dev op p reply u w before after
  from_start op p reply u v w before now after same told s =
      subst (λ (rs : List Replied). IsPieceServed holds contents layers faults size dev op p reply u w rs after) told (subst (λ (x : Volumed B). IsPieceServed holds contents layers faults size dev op p reply x w now after) same s)

  pub read_more : (passed : List Span) (p : Span) (out : List ℕ) (reply : Reply) (u v w : Volumed B) (before now after : List Replied) → AreReadAmong holds contents layers faults size dev passed out u v before now → IsPieceServed holds contents layers faults size dev Read p reply v w now after
      → AreReadAmong holds contents layers faults size dev (passed ++ p ∷ []) (out ++ take (512 * p.count) (bytes_in reply)) u w before after
  read_more [] p out reply u v w before now after so s =
      let part : List ℕ = take (512 * p.count) (bytes_in reply) in
      (w, after, reply, [], from_start Read p reply u v w before now after so.1 so.2 s, (refl, refl, refl), ap (λ (bs : List ℕ). bs ++ part) so.0 ∙ sym (append-nil part))
  read_more (q ∷ passed) p out reply u v w before now after so s =
      let part : List ℕ = take (512 * p.count) (bytes_in reply) in
      let first : List ℕ = take (512 * q.count) (bytes_in so.2) in
      (so.0, so.1, so.2, so.3 ++ part, so.4, read_more passed p so.3 reply so.0 v w so.1 now after so.5 s, ap (λ (bs : List ℕ). bs ++ part) so.6 ∙ append_assoc first so.3 part)

  pub written_more : (passed : List Span) (p : Span) (bytes : List ℕ) (reply : Reply) (u v w : Volumed B) (before now after : List Replied) → AreWrittenAmong holds contents layers faults size dev passed bytes u v before now
      → IsPieceServed holds contents layers faults size dev (Write (take (512 * p.count) (drop (512 * sectors_of passed) bytes))) p reply v w now after → AreWrittenAmong holds contents layers faults size dev (passed ++ p ∷ []) bytes u w before after
  written_more [] p bytes reply u v w before now after so s = (w, after, reply, from_start (Write (take (512 * p.count) bytes)) p reply u v w before now after so.0 so.1 s, (refl, refl))
  written_more (q ∷ passed) p bytes reply u v w before now after so s =
      let rest : List ℕ = drop (512 * q.count) bytes in
      let later : drop (512 * (q.count + sectors_of passed)) bytes ≡ drop (512 * sectors_of passed) rest = sym (drop-drop (512 * sectors_of passed) (512 * q.count) bytes ∙ ap (λ n. drop n bytes) (omega arith)) in
      let mine = subst (λ (bs : List ℕ). IsPieceServed holds contents layers faults size dev (Write (take (512 * p.count) bs)) p reply v w now after) later s in
      (so.0, so.1, so.2, so.3, written_more passed p rest reply so.0 v w so.1 now after so.4 mine)

live_at : {B : Type 0} (number : ℕ) (xs : List (Attached B)) (s : Attached B) → snap_at number xs ≡ Some s → live_in number xs ≡ s.live
live_at number [] s e = absurd (cc)
live_at number (x ∷ xs) s e = elim (cases_Bool (x.number == number)) [
  | inl this ↦ (let is : Some x ≡ Some s = sym (cond-true _ _ _ this) ∙ e in let same : x ≡ s = cc in cond-true _ _ _ this ∙ ap (λ (y : Attached _). y.live) same)
  | inr other ↦ cond-false _ _ _ other ∙ live_at number xs s (sym (cond-false _ _ _ other) ∙ e)
]

live_none : {B : Type 0} (number : ℕ) (xs : List (Attached B)) → list_any (has_number number) xs ≡ false → live_in number xs ≡ false
live_none number [] e = refl
live_none number (x ∷ xs) e = elim (cases_Bool (x.number == number)) [
  | inl this ↦ absurd (let two : true ≡ false = sym (ap (λ b. b || list_any (has_number number) xs) this) ∙ e in cc)
  | inr other ↦ cond-false _ _ _ other ∙ live_none number xs (sym (ap (λ b. b || list_any (has_number number) xs) other) ∙ e)
]

used_live : {B : Type 0} (s : Kept B) (used : Option Usage) (usage : Usage) → used ≡ Some usage → used ≡ usage_of s → s.live ≡ true
used_live s used usage some is = elim (cases_Bool s.live) [
  | inl live ↦ live
  | inr dead ↦ absurd (let two : Some usage ≡ None = sym some ∙ is ∙ cond-false _ _ _ dead in cc)
]

unused_dead : {B : Type 0} (s : Kept B) (used : Option Usage) → used ≡ None → used ≡ usage_of s → s.live ≡ false
unused_dead s used none is = elim (cases_Bool s.live) [
  | inl live ↦ absurd (let two : None ≡ Some _ = sym none ∙ is ∙ cond-true _ _ _ live in cc)
  | inr dead ↦ dead
]

-- a snapshot that is found is live or not, by what is told of its use
module _ {B : Type 0} (number k : ℕ) (d : Kept B) (v : Volumed B) (used : Option Usage) (found : place_of_snap number v.snaps ≡ Some k) (is : used ≡ usage_of (get_or v.snaps k d)) where
  pub found_live : (usage : Usage) → used ≡ Some usage → is_live_dev (ToSnap number) (rested_of v) ≡ true
  found_live usage some = live_at number (rested_of v).snaps (attached_of (get_or v.snaps k d)) (found_snap number k d v found) ∙ used_live (get_or v.snaps k d) used usage some is

  pub found_dead : used ≡ None → is_live_dev (ToSnap number) (rested_of v) ≡ false
  found_dead none = live_at number (rested_of v).snaps (attached_of (get_or v.snaps k d)) (found_snap number k d v found) ∙ unused_dead (get_or v.snaps k d) used none is

pub missing_dead : {B : Type 0} (number : ℕ) (v : Volumed B) → place_of_snap number v.snaps ≡ None → is_live_dev (ToSnap number) (rested_of v) ≡ false
missing_dead number v none = live_none number (rested_of v).snaps (dev_missing number v none)

module _ {B : Type 0} (holds : B → ℕ → List ℕ → Type 0) (contents : B → List ℕ) (layers : B → List Layer) (faults size : B → ℕ) (request : Request) (refusal : Refusal) where
  -- refused at once
  pub turned_plain : (old new : Volumed B) (before after : List Replied) → refusal ≢ InvalidRefusal → IsRefusedAs contents layers size request refusal old new → after ≡ before → IsTurnedAway holds contents layers faults size request refusal old new before after
  turned_plain old new before after other refused told = record {
    mid = new;
    refused = refused;
    drained = subst (λ (rs : List Replied). IsDrainedApart holds contents layers faults size new new before rs) (sym told) (apart_none holds contents layers faults size new before);
    dead = λ e. (refl, told);
    other = λ e. (refl, told);
    idle = λ live is. absurd (other is);
  }

  -- and all was done that was due then, but for events of a merge
  pub turned_invalid : (live : Bool) (old mid new : Volumed B) (before now after : List Replied) → live ≡ is_live_dev request.dev (rested_of old) → now ≡ before → IsRefusedAs contents layers size request refusal old mid → refusal ≡ InvalidRefusal
      → IsDrainedApart holds contents layers faults size mid new now after → (live ≡ false → (new ≡ mid) × (after ≡ now)) → (live ≡ true → is_idle_of contents layers new ≡ true) → IsTurnedAway holds contents layers faults size request InvalidRefusal old new before after
  turned_invalid live old mid new before now after is told refused same drained dead idle = record {
    mid = mid;
    refused = subst (λ (r : Refusal). IsRefusedAs contents layers size request r old mid) same refused;
    drained = subst (λ (rs : List Replied). IsDrainedApart holds contents layers faults size mid new rs after) told drained;
    dead = λ e. (let d = dead (is ∙ e) in (d.0, d.1 ∙ told));
    other = λ differs. absurd (differs refl);
    idle = λ e w. idle (is ∙ e);
  }

module _ {B : Type 0} (holds : B → ℕ → List ℕ → Type 0) (contents : B → List ℕ) (layers : B → List Layer) (faults size : B → ℕ) (dev : Dev) (op : Op) (piece : Span) (request : Request) (asked : IsRequestOf dev op piece request) (old new : Volumed B) (before after : List Replied) where
  -- a piece whose request was answered
  pub piece_served : (given reply : Reply) → IsGood reply → given ≡ reply → IsServedAmong holds contents layers faults size request given old new before after → IsPieceServed holds contents layers faults size dev op piece reply old new before after
  piece_served given reply good is served = record {
    request = request;
    asked = asked;
    good = good;
    served = subst (λ (r : Reply). IsServedAmong holds contents layers faults size request r old new before after) is served;
  }

  pub piece_failed : (given : Reply) (failure : Failure) (refusal : Refusal) → refusal ≡ refusal_of failure → given ≡ Refused failure → IsServedAmong holds contents layers faults size request given old new before after
      → IsPieceFailed holds contents layers faults size dev op piece refusal old new before after
  piece_failed given failure refusal why is served = inr (inl (request, asked, failure, why, subst (λ (r : Reply). IsServedAmong holds contents layers faults size request r old new before after) is served))

  -- and one whose was refused
  pub piece_refused : (refusal : Refusal) → IsRefusedAmong holds contents layers faults size request refusal old new before after → IsPieceFailed holds contents layers faults size dev op piece refusal old new before after
  piece_refused refusal refused = elim refused [
    | inl memory ↦ inl memory
    | inr away ↦ inr (inr (request, asked, away))
  ]
