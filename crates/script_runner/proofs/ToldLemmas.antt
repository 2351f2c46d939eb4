-- A run, line by line, with what is told behind each.
use Rattle.std.proofs.Common.{◌≡◌, ℕ, suc, ◌+◌, length, true, false, List, [], ◌∷◌, ◌++◌, Option, Some, None, refl, sym, ap, ◌∙◌, arith, subst, append_assoc, length-append}
use Rattle.std.specs.Prelude.{IfSome}
use Rattle.std.specs.Io.KnownBytes.{Appends, Keeps}
use Rattle.std.proofs.lemmas.List.{append-nil}
use Rattle.std.proofs.lemmas.Grind.{flat_map-append}
use Rattle.words.proofs.Written.{appends_more}
use Rattle.words.specs.Lines.{left, lines_of, ReadsLine}
use Rattle.command_replies.specs.declared.command_reply.CommandReply.{CommandReply}
use Rattle.command_replies.specs.Texts.{text_of}
use Rattle.script_runner.specs.Numbered.{all_of, numbered, numbered_from}
use Rattle.script_runner.specs.Output.{LineOutcome, printed}
use Rattle.script_runner.specs.Runs.{IsNext, begun}
use Rattle.script_runner.specs.Sessions.{IsEndedBy, Sitting}
use Rattle.script_runner.specs.Told.{AreToldEach, IsTextTold}
use Rattle.script_runner.proofs.KeptLemmas.{next_kept}
use Rattle.script_runner.proofs.NumberedLemmas.{all_push, push_printed}
use Rattle.script_runner.proofs.RunLemmas.{appends_kept, none_ahead}

-- the lines so far were done, and told, where the bytes of the text are known
abbrev pub IsOnTold : {X : Type 0} → (X → ℕ → Sitting → X → Type 0) → Option (List ℕ) → Option (List ℕ) → Sitting → List (List CommandReply) → X → X → Type 0
IsOnTold tells None left sitting answers before after = Unit {0}
IsOnTold tells (Some text) None sitting answers before after = ⊥
IsOnTold tells (Some text) (Some left) sitting answers before after = (first : List (List ℕ)) × (lines_of text ≡ first ++ lines_of left) × AreToldEach tells 1 begun first answers sitting before after

-- there were so many, and their replies were printed
abbrev pub FollowsTold : {X : Type 0} → (List (List CommandReply) → List ℕ) → (X → ℕ → Sitting → X → Type 0) → Option (List ℕ) → Option (List ℕ) → Option (List ℕ) → Option (List ℕ) → Sitting → ℕ → X → X → Type 0
FollowsTold prints tells text left was now sitting count before after = (answers : List (List CommandReply))
    × Appends was now (prints answers) × (count ≡ length answers) × IsOnTold tells text left sitting answers before after

-- one more reply of the next line is printed behind those that were
abbrev Prints : (List (List CommandReply) → List ℕ) → Option (List ℕ) → Option (List ℕ) → Option (List ℕ) → List CommandReply → ℕ → Type 0
Prints prints was now then replies count = (answers : List (List CommandReply)) → Appends was now (prints answers) → count ≡ length answers → Appends was then (prints (answers ++ replies ∷ []))

module _ {X : Type 0} (prints : List (List CommandReply) → List ℕ) (tells : X → ℕ → Sitting → X → Type 0) where
  none_told : (text : Option (List ℕ)) (t : X) → IsOnTold tells text text begun [] t t
  none_told None t = tt
  none_told (Some text) t = ([], refl, (refl, refl, refl))

  starts_alone : (text was : Option (List ℕ)) (sitting : Sitting) (t : X) → Appends was was (prints []) → sitting ≡ begun → FollowsTold prints tells text text was was sitting 0 t t
  starts_alone text was sitting t start is =
      let P : Sitting → Type 0 = λ s. FollowsTold prints tells text text was was s 0 t t in
      subst P (sym is) ([], start, refl, none_told text t)

  pub starts_told : (text was : Option (List ℕ)) (ahead : List ℕ) (sitting : Sitting) (t : X) → Appends was was (prints []) → ahead ≡ [] → sitting ≡ begun → FollowsTold prints tells text (left ahead text) was was sitting 0 t t
  starts_told text was ahead sitting t start none is =
      let P : Option (List ℕ) → Type 0 = λ rest. FollowsTold prints tells text rest was was sitting 0 t t in
      subst P (sym (none_ahead ahead text none)) (starts_alone text was sitting t start is)

  pub written_told : (text left was now then : Option (List ℕ)) (sitting : Sitting) (count : ℕ) (t u : X) → FollowsTold prints tells text left was now sitting count t u → Keeps now then → FollowsTold prints tells text left was then sitting count t u
  written_told text left was now then sitting count t u (answers, wrote, many, on) same = (answers, appends_kept was now then (prints answers) wrote same, many, on)

  -- one line more
  more_told : (number : ℕ) (old mid new : Sitting) (first : List (List ℕ)) (line : List ℕ) (answers : List (List CommandReply)) (done : LineOutcome) (t u v : X) → AreToldEach tells number old first answers mid t u → IsNext line mid new done → tells u (number + length answers) new v → AreToldEach tells number old (first ++ line ∷ []) (answers ++ done.replies ∷ []) new t v
  more_told number old mid new [] line answers done t u v (none, same, still) is tell =
      let P : Sitting → Type 0 = λ s. IsNext line s new done in
      let many : number + length answers ≡ number = ap (λ (l : List (List CommandReply)). number + length l) none ∙ zero_more number in
      let T : X → Type 0 = λ x. tells x number new v in
      let N : ℕ → Type 0 = λ n. tells u n new v in
      (new, done, [], v, subst P same is, ap (λ told. told ++ done.replies ∷ []) none, subst T still (subst N many tell), (refl, refl, refl))
    where
      zero_more : (n : ℕ) → n + 0 ≡ n
      zero_more n = omega arith
  more_told number old mid new (head ∷ first) line answers done t u v (next, did, rest, then, here, cut, told, more) is tell =
      let long : length answers ≡ suc (length rest) = ap (λ (l : List (List CommandReply)). length l) cut in
      let at : number + length answers ≡ number + 1 + length rest = omega (arith, long) in
      let N : ℕ → Type 0 = λ n. tells u n new v in
      (next, did, rest ++ done.replies ∷ [], then, here, ap (λ l. l ++ done.replies ∷ []) cut, told, more_told (number + 1) next mid new first line rest done then u v more is (subst N at tell))

  on_told : (text left left' : Option (List ℕ)) (kept : List ℕ) (old new : Sitting) (done : LineOutcome) (answers : List (List CommandReply)) (t u v : X) → IsOnTold tells text left old answers t u → ReadsLine 65536 left left' true kept → IsNext kept old new done → tells u (1 + length answers) new v → IsOnTold tells text left' new (answers ++ done.replies ∷ []) t v
  on_told None left left' kept old new done answers t u v on read is tell = tt
  on_told (Some text) None left' kept old new done answers t u v on read is tell = absurd on
  on_told (Some text) (Some left) None kept old new done answers t u v on read is tell = absurd read
  on_told (Some text) (Some left) (Some left') kept old new done answers t u v (first, cut, did) read is tell = (
    first ++ read.0 ∷ [],
    cut ∙ ap (λ lines. first ++ lines) read.1 ∙ sym (append_assoc first (read.0 ∷ []) (lines_of left')),
    more_told 1 begun old new first read.0 answers done t u v did (next_kept read.0 kept old new done read.2 is) tell,
  )

  pub goes_on_told : (text left left' was now then : Option (List ℕ)) (kept : List ℕ) (old new : Sitting) (done : LineOutcome) (count : ℕ) (t u v : X) → FollowsTold prints tells text left was now old count t u → ReadsLine 65536 left left' true kept → IsNext kept old new done → Prints prints was now then done.replies count → tells u (count + 1) new v → FollowsTold prints tells text left' was then new (count + 1) t v
  goes_on_told text left left' was now then kept old new done count t u v (answers, wrote, many, on) read is more tell =
      let long = length-append answers (done.replies ∷ []) in
      let N : ℕ → Type 0 = λ n. tells u n new v in
      let at : count + 1 ≡ 1 + length answers = omega (arith, many) in (
        answers ++ done.replies ∷ [],
        more answers wrote many,
        omega (arith, many, long),
        on_told text left left' kept old new done answers t u v on read is (subst N at tell),
      )

  -- the whole text was done
  on_whole_told : (text left left' : Option (List ℕ)) (kept : List ℕ) (last : Sitting) (done : LineOutcome) (answers : List (List CommandReply)) (t u : X) → IsOnTold tells text left last answers t u → ReadsLine 65536 left left' false kept → IsEndedBy last.block last.desk.table done → IfSome text (λ xs. IsTextTold tells xs (answers ++ done.replies ∷ []) t u)
  on_whole_told None left left' kept last done answers t u on read ended = tt
  on_whole_told (Some text) None left' kept last done answers t u on read ended = absurd on
  on_whole_told (Some text) (Some left) None kept last done answers t u on read ended = absurd read
  on_whole_told (Some text) (Some left) (Some left') kept last done answers t u (first, cut, did) none ended =
      let P : List (List ℕ) → Type 0 = λ lines. AreToldEach tells 1 begun lines answers last t u in
      let all : lines_of text ≡ first = cut ∙ ap (λ lines. first ++ lines) none ∙ append-nil first in
      (last, answers, done, subst P (sym all) did, ended, refl)

  pub ends_told : (text left left' was now then : Option (List ℕ)) (kept : List ℕ) (old : Sitting) (done : LineOutcome) (count : ℕ) (t u : X) → FollowsTold prints tells text left was now old count t u → ReadsLine 65536 left left' false kept → IsEndedBy old.block old.desk.table done → Prints prints was now then done.replies count → (answers : List (List CommandReply)) × Appends was then (prints answers) × IfSome text (λ xs. IsTextTold tells xs answers t u)
  ends_told text left left' was now then kept old done count t u (answers, wrote, many, on) read ended more =
      (answers ++ done.replies ∷ [], more answers wrote many, on_whole_told text left left' kept old done answers t u on read ended)

-- replies alone
abbrev pub plainly : List (List CommandReply) → List ℕ
plainly answers = printed (all_of answers)

pub prints_plainly : (was now then : Option (List ℕ)) (replies : List CommandReply) (count : ℕ) → Appends now then (printed replies) → Prints plainly was now then replies count
prints_plainly was now then replies count more = λ answers wrote many.
    let W : List ℕ → Type 0 = λ bytes. Appends was then bytes in
    subst W (sym (ap printed (all_push answers replies) ∙ flat_map-append text_of (all_of answers) replies)) (appends_more was now then (plainly answers) (printed replies) wrote more)

-- each line of them with its number
pub prints_numbered : (was now then : Option (List ℕ)) (replies : List CommandReply) (count : ℕ) (page : List ℕ) → page ≡ printed replies → Appends now then (numbered (count + 1) page) → Prints (numbered_from 1) was now then replies count
prints_numbered was now then replies count page same more = λ answers wrote many. push_printed was now then answers replies count (count + 1) page wrote many refl same more
