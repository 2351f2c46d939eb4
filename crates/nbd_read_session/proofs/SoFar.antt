-- A session so far, and what is left of it.
use Rattle.std.proofs.Common.{◌≡◌, ℕ, List, [], ◌∷◌, ◌++◌, Option, None, Some, IfSome, refl, ap, ◌∙◌, sym, subst, append_assoc, append-nil}
use Rattle.std.specs.Io.KnownBytes.{Consumes, Appends}
use Rattle.std.proofs.KnownBytes.{Appends-trans}
use Rattle.nbd_messages.specs.Replies.{greeting}
use Rattle.nbd_options.specs.declared.export.Export.{Export}
use Rattle.nbd_options.specs.declared.session.Session.{Session}
use Rattle.nbd_read_session.specs.Talk.{Talk, Turn, NoneIsWhole, AreArrays, beginning}
use Rattle.nbd_read_session.specs.Turns.{IsTurn, IsEnd}
use Rattle.nbd_read_session.specs.Blocks.{Array}

-- a talk from here on makes one from the beginning
abbrev pub Leads : List Export → (ℕ → Array) → (ℕ → ℕ → ℕ → Type 0) → List ℕ → List ℕ → Session → List ℕ → Type 0
Leads exports arrays may_fail heard said session rest = (more : List ℕ) (turns : List Turn) → Talk exports arrays may_fail session rest more turns → (all : List Turn) × Talk exports arrays may_fail beginning heard (said ++ more) all

-- what was read and written so far
pub record IsSoFar (exports : List Export) (arrays : ℕ → Array) (may_fail : ℕ → ℕ → ℕ → Type 0) (heard : List ℕ) (reader : Option (List ℕ)) (old new : Option (List ℕ)) (session : Session) : Type 0 where
  pub said : List ℕ
  pub rest : List ℕ
  pub left : reader ≡ Some rest
  pub written : Appends old new (greeting ++ said)
  pub leads : Leads exports arrays may_fail heard said session rest

pub so_far_begins : (exports : List Export) (arrays : ℕ → Array) (may_fail : ℕ → ℕ → ℕ → Type 0) (heard : List ℕ) (reader old new : Option (List ℕ)) → reader ≡ Some heard → Appends old new greeting → IsSoFar exports arrays may_fail heard reader old new beginning
so_far_begins exports arrays may_fail heard reader old new is written = record {
  said = [];
  rest = heard;
  left = is;
  written = subst (Appends old new) (sym (append-nil greeting)) written;
  leads = λ more turns talk. (turns, talk);
}

-- known bytes that were read
consumed : (a b : Option (List ℕ)) (xs bytes : List ℕ) → a ≡ Some xs → Consumes a b bytes → (ys : List ℕ) × (b ≡ Some ys) × (xs ≡ bytes ++ ys)
consumed None b xs bytes is consumes = let bad : None ≡ Some xs = is in (cc)
consumed (Some zs) None xs bytes is consumes = absurd consumes
consumed (Some zs) (Some ys) xs bytes is consumes = let same : zs ≡ xs = (cc) in (ys, refl, sym same ∙ consumes)

pub so_far_goes : (exports : List Export) (arrays : ℕ → Array) (may_fail : ℕ → ℕ → ℕ → Type 0) (heard : List ℕ) (reader reader' old mid new : Option (List ℕ)) (session session' : Session) (answer : List ℕ) → IsSoFar exports arrays may_fail heard reader old mid session → IsTurn exports arrays may_fail reader reader' session session' answer → Appends mid new answer → IsSoFar exports arrays may_fail heard reader' old new session'
so_far_goes exports arrays may_fail heard reader reader' old mid new session session' answer before (message, fault, consumes, whole, (answered, then), cause) written =
    let (rest, left, is) = consumed reader reader' before.rest message before.left consumes in
    record {
      said = before.said ++ answer;
      rest = rest;
      left = left;
      written = subst (Appends old new) (append_assoc greeting before.said answer) (Appends-trans old mid new (greeting ++ before.said) answer before.written written);
      leads = λ more turns talk.
          (let turn : Turn = record { message = message; fault = fault } in
          let later : Talk exports arrays may_fail session before.rest (answer ++ more) (turn ∷ turns) =
          (rest, more, whole, is, ap (λ (l : List ℕ). l ++ more) answered, subst (λ (s : Session). Talk exports arrays may_fail s rest more turns) then talk, cause) in
          let (all, whole_talk) = before.leads (answer ++ more) (turn ∷ turns) later in
          (all, subst (λ (l : List ℕ). Talk exports arrays may_fail beginning heard l all) (sym (append_assoc before.said answer more)) whole_talk));
    }

-- no whole message is left
ends_with : (a : Option (List ℕ)) (session : Session) (xs : List ℕ) → a ≡ Some xs → IsEnd a session → NoneIsWhole session.stage xs
ends_with None session xs is ends = let bad : None ≡ Some xs = is in (cc)
ends_with (Some ys) session xs is ends = let same : ys ≡ xs = (cc) in subst (NoneIsWhole session.stage) same ends

pub so_far_ends : (exports : List Export) (arrays : ℕ → Array) (may_fail : ℕ → ℕ → ℕ → Type 0) (heard : List ℕ) (reader old new : Option (List ℕ)) (session : Session) → IsSoFar exports arrays may_fail heard reader old new session → IsEnd reader session → (said : List ℕ) × (turns : List Turn) × Talk exports arrays may_fail beginning heard said turns × Appends old new (greeting ++ said)
so_far_ends exports arrays may_fail heard reader old new session so_far ends =
    let (all, talk) = so_far.leads [] [] (ends_with reader session so_far.rest so_far.left ends, refl) in
    (so_far.said, all, subst (λ (l : List ℕ). Talk exports arrays may_fail beginning heard l all) (append-nil so_far.said) talk, so_far.written)
