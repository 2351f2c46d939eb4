-- A command of a volume in which nothing is in flight, between two of its pieces.
use Rattle.std.proofs.Common.{◌≡◌, inr, ℕ, ◌+◌, ◌-◌, ◌*◌, List, [], ◌∷◌, ◌++◌, length, take, drop, refl, sym, ◌∙◌, ap, subst, arith, drop-drop}
use Rattle.std.proofs.lemmas.List.{append_assoc, append-nil, take_all}
use Rattle.sector.specs.declared.refusal.Refusal.{Refusal}
use Rattle.device.specs.Layers.{Layer}
use Rattle.chunk.specs.Pieces.{Span}
use Rattle.plain_machine.specs.declared.request.Dev.{Dev}
use Rattle.plain_machine.specs.declared.request.Op.{Op}
use Rattle.plain_machine.specs.declared.request.Op.TheVariants.{Read, Write}
use Rattle.plain_machine.specs.declared.request.Reply.{Reply}
use Rattle.whole_commands.specs.Commands.{bytes_in}
use Rattle.volume.specs.Volumed.{Volumed}
use Rattle.volume_commands.specs.Among.{sectors_of}
use Rattle.volume_commands.specs.AtRest.{AreReadAtRest, AreWrittenAtRest, IsPieceAnswered, IsPieceUndone, IsReadCut, IsReadUndone, IsWriteCut}
use Rattle.volume_commands.proofs.WriteRuns.{joined, ends}

-- so many bytes at most are all of no more
pub all_taken : (most : ℕ) (bytes part : List ℕ) → part ≡ take most bytes → length bytes ≡ most → part ≡ bytes
all_taken most bytes part is long = is ∙ take_all most bytes (omega (arith, long))

-- nothing more
pub none_more : (out : List ℕ) → out ≡ out ++ []
none_more out = sym (append-nil out)

sectors_more : (ps : List Span) (p : Span) → sectors_of (ps ++ p ∷ []) ≡ sectors_of ps + p.count
sectors_more [] p = omega arith
sectors_more (q ∷ ps) p = let h = sectors_more ps p in omega arith

-- its own of the bytes
own_part : (from count : ℕ) (passed : List Span) (bytes part : List ℕ) → from ≡ 512 * sectors_of passed → part ≡ take (from + count * 512 - from) (drop from bytes) → part ≡ take (512 * count) (drop (512 * sectors_of passed) bytes)
own_part from count passed bytes part at is = is ∙ ap (λ n. take n (drop from bytes)) (omega arith) ∙ ap (λ n. take (512 * count) (drop n bytes)) at

module _ {B : Type 0} (holds : B → ℕ → List ℕ → Type 0) (contents : B → List ℕ) (layers : B → List Layer) (faults size : B → ℕ) (dev : Dev) where
  from_start : (op : Op) (p : Span) (reply : Reply) (u v w : Volumed B) → v ≡ u → IsPieceAnswered holds contents layers faults size dev op p reply v w → IsPieceAnswered holds contents layers faults size dev op p reply u w
  from_start op p reply u v w same s = subst (λ (x : Volumed B). IsPieceAnswered holds contents layers faults size dev op p reply x w) same s

  read_longer : (passed : List Span) (p : Span) (out : List ℕ) (reply : Reply) (u v w : Volumed B) → AreReadAtRest holds contents layers faults size dev passed out u v → IsPieceAnswered holds contents layers faults size dev Read p reply v w
      → AreReadAtRest holds contents layers faults size dev (passed ++ p ∷ []) (out ++ bytes_in reply) u w
  read_longer [] p out reply u v w so s =
      let part : List ℕ = bytes_in reply in
      (w, reply, [], from_start Read p reply u v w so.1 s, (refl, refl), ap (λ (bs : List ℕ). bs ++ part) so.0 ∙ sym (append-nil part))
  read_longer (q ∷ passed) p out reply u v w so s =
      let part : List ℕ = bytes_in reply in
      let first : List ℕ = bytes_in so.1 in
      (so.0, so.1, so.2 ++ part, so.3, read_longer passed p so.2 reply so.0 v w so.4 s, ap (λ (bs : List ℕ). bs ++ part) so.5 ∙ append_assoc first so.2 part)

  written_longer : (passed : List Span) (p : Span) (bytes : List ℕ) (reply : Reply) (u v w : Volumed B) → AreWrittenAtRest holds contents layers faults size dev passed bytes u v
      → IsPieceAnswered holds contents layers faults size dev (Write (take (512 * p.count) (drop (512 * sectors_of passed) bytes))) p reply v w → AreWrittenAtRest holds contents layers faults size dev (passed ++ p ∷ []) bytes u w
  written_longer [] p bytes reply u v w so s = (w, reply, from_start (Write (take (512 * p.count) bytes)) p reply u v w so s, refl)
  written_longer (q ∷ passed) p bytes reply u v w so s =
      let rest : List ℕ = drop (512 * q.count) bytes in
      let later : drop (512 * (q.count + sectors_of passed)) bytes ≡ drop (512 * sectors_of passed) rest = sym (drop-drop (512 * sectors_of passed) (512 * q.count) bytes ∙ ap (λ n. drop n bytes) (omega arith)) in
      let mine = subst (λ (bs : List ℕ). IsPieceAnswered holds contents layers faults size dev (Write (take (512 * p.count) bs)) p reply v w) later s in
      (so.0, so.1, so.2, written_longer passed p rest reply so.0 v w so.3 mine)

  -- so far: these pieces were read, of all of them
  pub record ReadsAtRest (all rest : List Span) (out : List ℕ) (old new : Volumed B) : Type 0 where
    pub passed : List Span
    pub cut : passed ++ rest ≡ all
    pub did : AreReadAtRest holds contents layers faults size dev passed out old new

  pub rest_start : (all rest : List Span) (out : List ℕ) (v : Volumed B) → rest ≡ all → out ≡ [] → ReadsAtRest all rest out v v
  rest_start all rest out v e none = record { passed = []; cut = e; did = (none, refl) }

  pub rest_next : (all rest rest' : List Span) (p : Span) (out out' : List ℕ) (reply : Reply) (u v w : Volumed B) → ReadsAtRest all rest out u v → rest ≡ p ∷ rest'
      → IsPieceAnswered holds contents layers faults size dev Read p reply v w → out' ≡ out ++ bytes_in reply → ReadsAtRest all rest' out' u w
  rest_next all rest rest' p out out' reply u v w so e s more = record {
    passed = so.passed ++ p ∷ [];
    cut = joined so.passed p rest' ∙ ap (λ (xs : List Span). so.passed ++ xs) (sym e) ∙ so.cut;
    did = subst (λ (bs : List ℕ). AreReadAtRest holds contents layers faults size dev (so.passed ++ p ∷ []) bs u w) (sym more) (read_longer so.passed p out reply u v w so.did s);
  }

  pub rest_end : (all rest : List Span) (out : List ℕ) (u v : Volumed B) → ReadsAtRest all rest out u v → rest ≡ [] → AreReadAtRest holds contents layers faults size dev all out u v
  rest_end all rest out u v so none =
      subst (λ (ps : List Span). AreReadAtRest holds contents layers faults size dev ps out u v) (sym (ends so.passed) ∙ ap (λ (xs : List Span). so.passed ++ xs) (sym none) ∙ so.cut) so.did

  pub rest_stop : (all rest rest' : List Span) (p : Span) (out : List ℕ) (refusal : Refusal) (u v w : Volumed B) → ReadsAtRest all rest out u v → rest ≡ p ∷ rest'
      → IsPieceUndone holds contents layers faults size dev Read p refusal v w → IsReadUndone holds contents layers faults size dev all refusal u w
  rest_stop all rest rest' p out refusal u v w so e undone =
      let stop : IsReadCut holds contents layers faults size dev all refusal u w = record {
        passed = so.passed;
        piece = p;
        rest = rest';
        cut = ap (λ (xs : List Span). so.passed ++ xs) (sym e) ∙ so.cut;
        bytes = out;
        mid = v;
        did = so.did;
        undone = undone;
      } in
      inr stop

  -- a range of one piece
  pub rest_alone : (piece : Span) (bytes : List ℕ) (reply : Reply) (u w : Volumed B) → IsPieceAnswered holds contents layers faults size dev Read piece reply u w → bytes ≡ bytes_in reply → AreReadAtRest holds contents layers faults size dev (piece ∷ []) bytes u w
  rest_alone piece bytes reply u w s is = (w, reply, [], s, (refl, refl), is ∙ sym (append-nil (bytes_in reply)))

  pub rest_undone : (piece : Span) (refusal : Refusal) (u w : Volumed B) → IsPieceUndone holds contents layers faults size dev Read piece refusal u w → IsReadUndone holds contents layers faults size dev (piece ∷ []) refusal u w
  rest_undone piece refusal u w undone = rest_stop (piece ∷ []) (piece ∷ []) [] piece [] refusal u u w (rest_start (piece ∷ []) (piece ∷ []) [] u refl refl) refl undone

  -- or these were written
  pub record WritesAtRest (all rest : List Span) (from : ℕ) (bytes : List ℕ) (old new : Volumed B) : Type 0 where
    pub passed : List Span
    pub cut : passed ++ rest ≡ all
    pub at : from ≡ 512 * sectors_of passed
    pub did : AreWrittenAtRest holds contents layers faults size dev passed bytes old new

  pub wrote_start : (all rest : List Span) (bytes : List ℕ) (v : Volumed B) → rest ≡ all → WritesAtRest all rest 0 bytes v v
  wrote_start all rest bytes v e = record { passed = []; cut = e; at = omega arith; did = refl }

  pub wrote_next : (all rest rest' : List Span) (p : Span) (from : ℕ) (bytes part : List ℕ) (reply : Reply) (u v w : Volumed B) → WritesAtRest all rest from bytes u v → rest ≡ p ∷ rest'
      → part ≡ take (from + p.count * 512 - from) (drop from bytes) → IsPieceAnswered holds contents layers faults size dev (Write part) p reply v w → WritesAtRest all rest' (from + p.count * 512) bytes u w
  wrote_next all rest rest' p from bytes part reply u v w so e is s =
      let at = so.at in
      let more = sectors_more so.passed p in
      record {
        passed = so.passed ++ p ∷ [];
        cut = joined so.passed p rest' ∙ ap (λ (xs : List Span). so.passed ++ xs) (sym e) ∙ so.cut;
        at = omega (arith, at, more);
        did = written_longer so.passed p bytes reply u v w so.did (subst (λ (bs : List ℕ). IsPieceAnswered holds contents layers faults size dev (Write bs) p reply v w) (own_part from p.count so.passed bytes part at is) s);
      }

  pub wrote_end : (all rest : List Span) (from : ℕ) (bytes : List ℕ) (u v : Volumed B) → WritesAtRest all rest from bytes u v → rest ≡ [] → AreWrittenAtRest holds contents layers faults size dev all bytes u v
  wrote_end all rest from bytes u v so none =
      subst (λ (ps : List Span). AreWrittenAtRest holds contents layers faults size dev ps bytes u v) (sym (ends so.passed) ∙ ap (λ (xs : List Span). so.passed ++ xs) (sym none) ∙ so.cut) so.did

  pub wrote_stop : (all rest rest' : List Span) (p : Span) (from : ℕ) (bytes part : List ℕ) (refusal : Refusal) (u v w : Volumed B) → WritesAtRest all rest from bytes u v → rest ≡ p ∷ rest'
      → part ≡ take (from + p.count * 512 - from) (drop from bytes) → IsPieceUndone holds contents layers faults size dev (Write part) p refusal v w → IsWriteCut holds contents layers faults size dev all bytes refusal u w
  wrote_stop all rest rest' p from bytes part refusal u v w so e is undone = record {
    passed = so.passed;
    piece = p;
    rest = rest';
    cut = ap (λ (xs : List Span). so.passed ++ xs) (sym e) ∙ so.cut;
    mid = v;
    did = so.did;
    undone = subst (λ (bs : List ℕ). IsPieceUndone holds contents layers faults size dev (Write bs) p refusal v w) (own_part from p.count so.passed bytes part so.at is) undone;
  }
