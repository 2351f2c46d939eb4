-- A command among others, between two of its pieces.
use Rattle.std.proofs.Common.{◌≡◌, ℕ, suc, zero, ◌+◌, ◌-◌, ◌*◌, ◌<◌, ◌≤◌, List, [], ◌∷◌, ◌++◌, length, take, drop, refl, sym, ◌∙◌, ap, subst, arith}
use Rattle.std.specs.Prelude.{min}
use Rattle.std.proofs.lemmas.List.{take_all}
use Rattle.sector.specs.declared.range.Range.{Range}
use Rattle.sector.specs.declared.refusal.Refusal.{Refusal}
use Rattle.device.specs.Layers.{Layer}
use Rattle.chunk.specs.Pieces.{Span}
use Rattle.plain_machine.specs.declared.request.Dev.{Dev}
use Rattle.plain_machine.specs.declared.request.Op.TheVariants.{Read, Write}
use Rattle.plain_machine.specs.declared.request.Reply.{Reply}
use Rattle.chunk.proofs.Runs.{StandsAt}
use Rattle.whole_commands.specs.Commands.{bytes_in}
use Rattle.volume.specs.Volumed.{Volumed}
use Rattle.plain_machine.specs.declared.request.Replied.{Replied}
use Rattle.volume_commands.specs.Rested.{rested_of}
use Rattle.volume_commands.specs.Kept.{KeepsDevices}
use Rattle.volume_commands.specs.Among.{IsPieceServed, IsPieceFailed, AreReadAmong, AreWrittenAmong, IsReadStopped, IsWriteStopped, sectors_of}
use Rattle.volume_commands.proofs.WriteRuns.{joined, ends}
use Rattle.volume_commands.proofs.Seen.{devices_none, devices_more}
use Rattle.volume_commands.proofs.Amongs.{read_more, written_more}

-- bytes that are cut to a length, which their own is not past
pub cut_same : (count n len : ℕ) (bytes slice : List ℕ) → slice ≡ bytes → len ≡ length bytes → n ≡ min len (count * 512) → take n slice ≡ take (512 * count) bytes
cut_same count n len bytes slice same long is = ap (take n) same ∙ cut (512 * count) bytes n (is ∙ ap (λ m. min m (count * 512)) long ∙ ap (min (length bytes)) (omega arith))
  where
    cut : (most : ℕ) (bs : List ℕ) (m : ℕ) → m ≡ min (length bs) most → take m bs ≡ take most bs
    cut most [] zero e = sym (take_all most [] (omega arith))
    cut most [] (suc m) e = absurd (omega (arith, e))
    cut zero (b ∷ bs) zero e = refl
    cut zero (b ∷ bs) (suc m) e = absurd (omega (arith, e))
    cut (suc most) (b ∷ bs) zero e = absurd (omega (arith, e))
    cut (suc most) (b ∷ bs) (suc m) e = ap (λ (xs : List ℕ). b ∷ xs) (cut most bs m (omega (arith, e)))

-- nothing is taken of no bytes
pub cut_none : (n : ℕ) (out : List ℕ) → out ≡ out ++ take n []
cut_none n out = sym (ap (λ (xs : List ℕ). out ++ xs) (take_all n [] (omega arith)) ∙ all out)
  where
    all : (xs : List ℕ) → xs ++ [] ≡ xs
    all [] = refl
    all (x ∷ xs) = ap (λ (ys : List ℕ). x ∷ ys) (all xs)

module _ {B : Type 0} (layers : B → List Layer) (size : B → ℕ) where
  -- from byte `from` of the command on: what pieces keep, and how many numbers were given
  pub record GoesAmong (from : ℕ) (old new : Volumed B) : Type 0 where
    pub kept : KeepsDevices layers size (rested_of old) (rested_of new)
    pub requests : 512 * new.requests ≤ 512 * old.requests + from

  -- where a read stands, and how many bytes were taken
  pub record IsUnderWayAmong (chunk : ℕ) (range : Range) (pieces : List Span) (taken room : ℕ) (old v : Volumed B) : Type 0 where
    pub from : ℕ
    pub stands : StandsAt chunk range.first (range.first + range.count) from pieces
    pub so : GoesAmong from old v
    pub few : taken ≤ from
    pub enough : 512 * range.count ≤ room

  pub among_start : (v : Volumed B) → GoesAmong 0 v v
  among_start v = record { kept = devices_none size layers (rested_of v); requests = omega arith }

  pub among_next : (from count : ℕ) (old v new : Volumed B) → GoesAmong from old v → KeepsDevices layers size (rested_of v) (rested_of new) → new.requests ≤ v.requests + 1 → 0 < count → GoesAmong (from + count * 512) old new
  among_next from count old v new so kept requests some = record {
    kept = devices_more size layers (rested_of old) (rested_of v) (rested_of new) so.kept kept;
    requests = omega (arith, so.requests, requests, some);
  }

  pub among_within : (from count : ℕ) (old new : Volumed B) → GoesAmong from old new → from ≤ 512 * count → new.requests ≤ old.requests + count
  among_within from count old new so le = omega (arith, so.requests, le)

module _ {B : Type 0} (holds : B → ℕ → List ℕ → Type 0) (contents : B → List ℕ) (layers : B → List Layer) (faults size : B → ℕ) (dev : Dev) where
  -- so far: these pieces were read, of all of them
  pub record ReadsAmong (all rest : List Span) (out : List ℕ) (old new : Volumed B) (before after : List Replied) : Type 0 where
    pub passed : List Span
    pub cut : passed ++ rest ≡ all
    pub did : AreReadAmong holds contents layers faults size dev passed out old new before after

  pub reads_start : (all rest : List Span) (out : List ℕ) (v : Volumed B) (before : List Replied) → rest ≡ all → out ≡ [] → ReadsAmong all rest out v v before before
  reads_start all rest out v before e none = record { passed = []; cut = e; did = (none, refl, refl) }

  pub reads_next : (all rest rest' : List Span) (p : Span) (out out' : List ℕ) (reply : Reply) (u v w : Volumed B) (before now after : List Replied) → ReadsAmong all rest out u v before now → rest ≡ p ∷ rest'
      → IsPieceServed holds contents layers faults size dev Read p reply v w now after → out' ≡ out ++ take (512 * p.count) (bytes_in reply) → ReadsAmong all rest' out' u w before after
  reads_next all rest rest' p out out' reply u v w before now after so e s more = record {
    passed = so.passed ++ p ∷ [];
    cut = joined so.passed p rest' ∙ ap (λ (xs : List Span). so.passed ++ xs) (sym e) ∙ so.cut;
    did = subst (λ (bs : List ℕ). AreReadAmong holds contents layers faults size dev (so.passed ++ p ∷ []) bs u w before after) (sym more) (read_more holds contents layers faults size dev so.passed p out reply u v w before now after so.did s);
  }

  pub reads_end : (all rest : List Span) (out : List ℕ) (u v : Volumed B) (before now : List Replied) → ReadsAmong all rest out u v before now → rest ≡ [] → AreReadAmong holds contents layers faults size dev all out u v before now
  reads_end all rest out u v before now so none =
      subst (λ (ps : List Span). AreReadAmong holds contents layers faults size dev ps out u v before now) (sym (ends so.passed) ∙ ap (λ (xs : List Span). so.passed ++ xs) (sym none) ∙ so.cut) so.did

  pub reads_stop : (all rest rest' : List Span) (p : Span) (out : List ℕ) (refusal : Refusal) (u v w : Volumed B) (before now after : List Replied) → ReadsAmong all rest out u v before now → rest ≡ p ∷ rest'
      → IsPieceFailed holds contents layers faults size dev Read p refusal v w now after → IsReadStopped holds contents layers faults size dev all refusal u w before after
  reads_stop all rest rest' p out refusal u v w before now after so e failed = record {
    passed = so.passed;
    piece = p;
    rest = rest';
    cut = ap (λ (xs : List Span). so.passed ++ xs) (sym e) ∙ so.cut;
    bytes = out;
    mid = v;
    ended = now;
    did = so.did;
    failed = failed;
  }

  -- or written
  pub record WritesAmong (all rest : List Span) (from : ℕ) (bytes : List ℕ) (old new : Volumed B) (before after : List Replied) : Type 0 where
    pub passed : List Span
    pub cut : passed ++ rest ≡ all
    pub at : from ≡ 512 * sectors_of passed
    pub did : AreWrittenAmong holds contents layers faults size dev passed bytes old new before after

  pub writes_start : (all rest : List Span) (bytes : List ℕ) (v : Volumed B) (before : List Replied) → rest ≡ all → WritesAmong all rest 0 bytes v v before before
  writes_start all rest bytes v before e = record { passed = []; cut = e; at = omega arith; did = (refl, refl) }

  sectors_more : (ps : List Span) (p : Span) → sectors_of (ps ++ p ∷ []) ≡ sectors_of ps + p.count
  sectors_more [] p = omega arith
  sectors_more (q ∷ ps) p = let h = sectors_more ps p in omega arith

  -- its own of the bytes
  own_part : (from count : ℕ) (passed : List Span) (bytes part : List ℕ) → from ≡ 512 * sectors_of passed → part ≡ take (from + count * 512 - from) (drop from bytes) → part ≡ take (512 * count) (drop (512 * sectors_of passed) bytes)
  own_part from count passed bytes part at is = is ∙ ap (λ n. take n (drop from bytes)) (omega arith) ∙ ap (λ n. take (512 * count) (drop n bytes)) at

  pub writes_next : (all rest rest' : List Span) (p : Span) (from : ℕ) (bytes part : List ℕ) (reply : Reply) (u v w : Volumed B) (before now after : List Replied) → WritesAmong all rest from bytes u v before now → rest ≡ p ∷ rest'
      → part ≡ take (from + p.count * 512 - from) (drop from bytes) → IsPieceServed holds contents layers faults size dev (Write part) p reply v w now after → WritesAmong all rest' (from + p.count * 512) bytes u w before after
  writes_next all rest rest' p from bytes part reply u v w before now after so e is s =
      let at = so.at in
      let more = sectors_more so.passed p in
      record {
        passed = so.passed ++ p ∷ [];
        cut = joined so.passed p rest' ∙ ap (λ (xs : List Span). so.passed ++ xs) (sym e) ∙ so.cut;
        at = omega (arith, at, more);
        did = written_more holds contents layers faults size dev so.passed p bytes reply u v w before now after so.did (subst (λ (bs : List ℕ). IsPieceServed holds contents layers faults size dev (Write bs) p reply v w now after) (own_part from p.count so.passed bytes part at is) s);
      }

  pub writes_end : (all rest : List Span) (from : ℕ) (bytes : List ℕ) (u v : Volumed B) (before now : List Replied) → WritesAmong all rest from bytes u v before now → rest ≡ [] → AreWrittenAmong holds contents layers faults size dev all bytes u v before now
  writes_end all rest from bytes u v before now so none =
      subst (λ (ps : List Span). AreWrittenAmong holds contents layers faults size dev ps bytes u v before now) (sym (ends so.passed) ∙ ap (λ (xs : List Span). so.passed ++ xs) (sym none) ∙ so.cut) so.did

  pub writes_stop : (all rest rest' : List Span) (p : Span) (from : ℕ) (bytes part : List ℕ) (refusal : Refusal) (u v w : Volumed B) (before now after : List Replied) → WritesAmong all rest from bytes u v before now → rest ≡ p ∷ rest'
      → part ≡ take (from + p.count * 512 - from) (drop from bytes) → IsPieceFailed holds contents layers faults size dev (Write part) p refusal v w now after → IsWriteStopped holds contents layers faults size dev all bytes refusal u w before after
  writes_stop all rest rest' p from bytes part refusal u v w before now after so e is failed = record {
    passed = so.passed;
    piece = p;
    rest = rest';
    cut = ap (λ (xs : List Span). so.passed ++ xs) (sym e) ∙ so.cut;
    mid = v;
    ended = now;
    did = so.did;
    failed = subst (λ (bs : List ℕ). IsPieceFailed holds contents layers faults size dev (Write bs) p refusal v w now after) (own_part from p.count so.passed bytes part so.at is) failed;
  }
