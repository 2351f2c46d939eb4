-- The pieces of a write, one after the other, whether a merge is begun or not.
use Rattle.std.proofs.Common.{◌≡◌, ℕ, ◌+◌, ◌*◌, ◌<◌, List, [], ◌∷◌, ◌++◌, Option, Some, None, length, take, drop, refl, ap, ◌∙◌, sym, arith, drop-drop, length-append}
use Rattle.chunk.specs.Pieces.{Span}
use Rattle.plain_machine.specs.declared.request.Dev.{Dev}
use Rattle.plain_machine.specs.declared.request.Reply.{Reply}
use Rattle.plain_machine.specs.declared.request.Reply.TheVariants.{Data, Written, Flushed, Refused}
use Rattle.plain_machine.specs.declared.request.Failure.{Failure}
use Rattle.whole_commands.specs.Snaps.{Volume}
use Rattle.whole_commands.specs.Pieces.{Answered}
use Rattle.whole_commands.specs.Commands.{go_on, write_piece, write_pieces}
use Rattle.whole_commands.specs.Merges.{Merge, Merged, Merging, write_part, write_parts}
use Rattle.whole_commands.specs.Beside.{alone, beside, served, served_by}
use Rattle.volume_commands.specs.Serving.{IsGood, part_written}

abbrev pub counts_of : List Span → ℕ
counts_of [] = 0
counts_of (p ∷ pieces) = p.count + counts_of pieces

abbrev pub answer : Merged → Reply → Answered Merged
answer v reply = record { state = v; reply = reply }

-- the pieces of a write, each with its part of the bytes
abbrev pub parts_written : Dev → List Span → List ℕ → Merged → Answered Merged
parts_written dev [] bytes m = answer m Written
parts_written dev (piece ∷ pieces) bytes m =
    let here = part_written dev piece (take (512 * piece.count) bytes) m in
    go_on here.reply here (parts_written dev pieces (drop (512 * piece.count) bytes) here.state)

pub counts_more : (ps : List Span) (q : Span) → counts_of (ps ++ q ∷ []) ≡ counts_of ps + q.count
counts_more [] q = omega arith
counts_more (p ∷ ps) q = let h = counts_more ps q in omega arith

pub take_front : (ps qs : List Span) → take (length ps) (ps ++ qs) ≡ ps
take_front [] qs = refl
take_front (p ∷ ps) qs = ap (λ (xs : List Span). p ∷ xs) (take_front ps qs)

pub joined : (ps : List Span) (q : Span) (qs : List Span) → (ps ++ q ∷ []) ++ qs ≡ ps ++ q ∷ qs
joined [] q qs = refl
joined (p ∷ ps) q qs = ap (λ (xs : List Span). p ∷ xs) (joined ps q qs)

pub ends : (ps : List Span) → ps ++ [] ≡ ps
ends [] = refl
ends (p ∷ ps) = ap (λ (xs : List Span). p ∷ xs) (ends ps)

-- a piece that was done is followed by the rest
goes_written : (r : Reply) (here rest rest' x : Answered Merged) (w : Merged) → here.reply ≡ r → (rest ≡ answer w Written → rest' ≡ x) → go_on r here rest ≡ answer w Written → go_on r here rest' ≡ x
goes_written (Data bytes) here rest rest' x w is f e = f e
goes_written Written here rest rest' x w is f e = f e
goes_written Flushed here rest rest' x w is f e = f e
goes_written (Refused failure) here rest rest' x w is f e = let same : Refused failure ≡ Written = sym is ∙ ap (λ (a : Answered Merged). a.reply) e in absurd (cc)

-- without a merge, and beside one
pub alone_goes : (r : Reply) (here rest : Answered Volume) → alone (go_on r here rest) ≡ go_on r (alone here) (alone rest)
alone_goes (Data bytes) here rest = refl
alone_goes Written here rest = refl
alone_goes Flushed here rest = refl
alone_goes (Refused failure) here rest = refl

pub beside_goes : (r : Reply) (here rest : Answered Merging) → beside (go_on r here rest) ≡ go_on r (beside here) (beside rest)
beside_goes (Data bytes) here rest = refl
beside_goes Written here rest = refl
beside_goes Flushed here rest = refl
beside_goes (Refused failure) here rest = refl

alone_parts : (dev : Dev) (ps : List Span) (bytes : List ℕ) (v : Volume) → alone (write_pieces dev ps bytes v) ≡ parts_written dev ps bytes (record { volume = v; merge = None })
alone_parts dev [] bytes v = refl
alone_parts dev (p ∷ ps) bytes v =
    let here : Answered Volume = write_piece dev p (take (512 * p.count) bytes) v in
    alone_goes here.reply here (write_pieces dev ps (drop (512 * p.count) bytes) here.state) ∙ ap (go_on here.reply (alone here)) (alone_parts dev ps (drop (512 * p.count) bytes) here.state)

beside_parts : (dev : Dev) (ps : List Span) (bytes : List ℕ) (m : Merging) → beside (write_parts dev ps bytes m) ≡ parts_written dev ps bytes (record { volume = m.volume; merge = Some m.merge })
beside_parts dev [] bytes m = refl
beside_parts dev (p ∷ ps) bytes m =
    let here : Answered Merging = write_part dev p (take (512 * p.count) bytes) m in
    beside_goes here.reply here (write_parts dev ps (drop (512 * p.count) bytes) here.state) ∙ ap (go_on here.reply (beside here)) (beside_parts dev ps (drop (512 * p.count) bytes) here.state)

pub served_parts : (dev : Dev) (ps : List Span) (bytes : List ℕ) (m : Merged) → served (write_pieces dev ps bytes) (write_parts dev ps bytes) m ≡ parts_written dev ps bytes m
served_parts dev ps bytes m = by m.merge m.volume
  where
    by : (o : Option Merge) (v : Volume) → served_by (write_pieces dev ps bytes) (write_parts dev ps bytes) o v ≡ parts_written dev ps bytes (record { volume = v; merge = o })
    by None v = alone_parts dev ps bytes v
    by (Some g) v = beside_parts dev ps bytes (record { volume = v; merge = g })

module _ (dev : Dev) where
  -- pieces that were written, and then the others
  pub write_join : (ps qs : List Span) (bytes : List ℕ) (v w : Merged) → parts_written dev ps bytes v ≡ answer w Written → parts_written dev (ps ++ qs) bytes v ≡ parts_written dev qs (drop (512 * counts_of ps) bytes) w
  write_join [] qs bytes v w e = ap (λ (a : Answered Merged). parts_written dev qs bytes a.state) e
  write_join (p ∷ ps) qs bytes v w e =
      let part : List ℕ = take (512 * p.count) bytes in
      let rest : List ℕ = drop (512 * p.count) bytes in
      let here : Answered Merged = part_written dev p part v in
      let later : drop (512 * counts_of ps) rest ≡ drop (512 * (p.count + counts_of ps)) bytes = drop-drop (512 * counts_of ps) (512 * p.count) bytes ∙ ap (λ n. drop n bytes) (omega arith) in
      goes_written here.reply here (parts_written dev ps rest here.state) (parts_written dev (ps ++ qs) rest here.state) (parts_written dev qs (drop (512 * (p.count + counts_of ps)) bytes) w) w refl
      (λ done. write_join ps qs rest here.state w done ∙ ap (λ bs. parts_written dev qs bs w) later) e

  -- So far: these pieces were written, of all of them; where L holds, from v to w.
  pub record WritesTo (L : Type 0) (all : List Span) (bytes : List ℕ) (from : ℕ) (rest : List Span) (v w : Merged) : Type 0 where
    pub passed : List Span
    pub cut : passed ++ rest ≡ all
    pub at : from ≡ 512 * counts_of passed
    pub did : L → parts_written dev passed bytes v ≡ answer w Written

  pub writes_none : (L : Type 0) (all rest : List Span) (bytes : List ℕ) (v : Merged) → rest ≡ all → WritesTo L all bytes 0 rest v v
  writes_none L all rest bytes v e = record { passed = []; cut = e; at = omega arith; did = λ l. refl }

  -- a piece that is done, by its reply
  done_one : (p : Span) (bytes : List ℕ) (w u : Merged) (got : Reply) → IsGood got → part_written dev p (take (512 * p.count) bytes) w ≡ answer u got → parts_written dev (p ∷ []) bytes w ≡ answer u Written
  done_one p bytes w u (Data more) good e = ap (λ (a : Answered Merged). go_on a.reply a (answer a.state Written)) e
  done_one p bytes w u Written good e = ap (λ (a : Answered Merged). go_on a.reply a (answer a.state Written)) e
  done_one p bytes w u Flushed good e = ap (λ (a : Answered Merged). go_on a.reply a (answer a.state Written)) e
  done_one p bytes w u (Refused failure) good e = absurd good

  pub writes_more : (L : Type 0) (all rest rest' : List Span) (bytes : List ℕ) (from : ℕ) (p : Span) (v w u : Merged) (got : Reply) → WritesTo L all bytes from rest v w → rest ≡ p ∷ rest' → IsGood got
      → (L → part_written dev p (take (512 * p.count) (drop from bytes)) w ≡ answer u got) → WritesTo L all bytes (from + p.count * 512) rest' v u
  writes_more L all rest rest' bytes from p v w u got so e good one =
      let at = so.at in
      let more = counts_more so.passed p in
      record {
        passed = so.passed ++ p ∷ [];
        cut = joined so.passed p rest' ∙ ap (λ (xs : List Span). so.passed ++ xs) (sym e) ∙ so.cut;
        at = omega arith;
        did = λ l. write_join so.passed (p ∷ []) bytes v w (so.did l) ∙ ap (λ n. parts_written dev (p ∷ []) (drop n bytes) w) (sym at) ∙ done_one p (drop from bytes) w u got good (one l);
      }

  -- all of them
  pub writes_all : (L : Type 0) (all rest : List Span) (bytes : List ℕ) (from : ℕ) (v w : Merged) → WritesTo L all bytes from rest v w → rest ≡ [] → L → parts_written dev all bytes v ≡ answer w Written
  writes_all L all rest bytes from v w so e l = ap (λ xs. parts_written dev xs bytes v) (sym (sym (ends so.passed) ∙ ap (λ (xs : List Span). so.passed ++ xs) (sym e) ∙ so.cut)) ∙ so.did l

  -- one that failed
  pub writes_failed : (L : Type 0) (all rest rest' : List Span) (bytes : List ℕ) (from : ℕ) (p : Span) (v w u : Merged) (failure : Failure) → WritesTo L all bytes from rest v w → rest ≡ p ∷ rest'
      → (L → part_written dev p (take (512 * p.count) (drop from bytes)) w ≡ answer u (Refused failure)) → L → parts_written dev all bytes v ≡ answer u (Refused failure)
  writes_failed L all rest rest' bytes from p v w u failure so e one l =
      let at = so.at in
      let here : Answered Merged = part_written dev p (take (512 * p.count) (drop from bytes)) w in
      ap (λ xs. parts_written dev xs bytes v) (sym (ap (λ (xs : List Span). so.passed ++ xs) (sym e) ∙ so.cut))
      ∙ write_join so.passed (p ∷ rest') bytes v w (so.did l) ∙ ap (λ n. parts_written dev (p ∷ rest') (drop n bytes) w) (sym at)
      ∙ ap (λ (a : Answered Merged). go_on a.reply a (parts_written dev rest' (drop (512 * p.count) (drop from bytes)) a.state)) (one l)

  -- fewer than all, where some are left
  pub writes_fewer : (L : Type 0) (all rest rest' : List Span) (bytes : List ℕ) (from : ℕ) (p : Span) (v w : Merged) (so : WritesTo L all bytes from rest v w) → rest ≡ p ∷ rest' → length so.passed < length all
  writes_fewer L all rest rest' bytes from p v w so e =
      let whole : length (so.passed ++ p ∷ rest') ≡ length all = ap length (ap (λ (xs : List Span). so.passed ++ xs) (sym e) ∙ so.cut) in
      let sum : length (so.passed ++ p ∷ rest') ≡ length so.passed + length (p ∷ rest') = length-append so.passed (p ∷ rest') in
      omega (arith, whole, sum)

  -- the first ones
  pub writes_first : (L : Type 0) (all rest : List Span) (bytes : List ℕ) (from : ℕ) (v w : Merged) (so : WritesTo L all bytes from rest v w) → L → parts_written dev (take (length so.passed) all) bytes v ≡ answer w Written
  writes_first L all rest bytes from v w so l = ap (λ xs. parts_written dev xs bytes v) (ap (take (length so.passed)) (sym so.cut) ∙ take_front so.passed rest) ∙ so.did l
