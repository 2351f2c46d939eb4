-- Calls added up: what a stop may leave after a list of calls, and one call more.
use Rattle.std.proofs.Common.{◌≡◌, ◌⊎◌, inl, inr, ℕ, false, List, [], ◌∷◌, ◌++◌, Option, None, Some, map, refl, sym, ◌∙◌, subst}
use Rattle.std.proofs.lemmas.List.{map-id}
use Rattle.std.specs.List.{list_any}
use Rattle.std.proofs.lemmas.Bool.{eq-eqb, or_parts, true≢false}
use Rattle.device.specs.Layers.{Layer}
use Rattle.plain_machine.specs.Plain.{InFlight}
use Rattle.plain_machine.specs.Unwritten.{writes, is_written}
use Rattle.plain_machine.specs.declared.request.Dev.{Dev}
use Rattle.plain_machine.specs.declared.request.Dev.TheVariants.{Origin, Snap}
use Rattle.plain_machine.specs.declared.request.Op.{Op}
use Rattle.plain_machine.specs.declared.request.Op.TheVariants.{Read, Write, Flush}
use Rattle.sector.specs.declared.range.Range.{Range}
use Rattle.in_flight.specs.Kinds.{in_flight}
use Rattle.crash_laws.specs.Clauses.{Gives}
use Rattle.volume.specs.declared.calls.Call.{Call}
use Rattle.volume.specs.declared.calls.Call.TheVariants.{Submit, Step, Tick, Message as Tell, BeginMerge, ResumeMerge}
use Rattle.volume.specs.AddedUp.{ComesFrom, GivesAsked, GivesCall, IsFrom, IsGiven, IsOpenIn, IsSomeOf, Merges, OpensNoneUnwritten, OpensOnly, is_write_of}
use Rattle.volume.specs.Stopping.{given_as}
use Rattle.volume.specs.Running.{MayCall}
use Rattle.volume.specs.Volumed.{Volumed, plain_of}
use Rattle.volume.proofs.AskedFor.{call_asked, some_left, some_right}

-- the writes in flight after some calls were in flight before them, or one of the calls submits them
abbrev pub AsksOnly : {B : Type 0} → List Call → Volumed B → Volumed B → Type 0
AsksOnly calls v w = (array : Option ℕ) (s : ℕ) (x : List ℕ) → IsSomeOf (GivesAsked array s x) (map in_flight w.flights) → IsGiven (map in_flight v.flights) calls array s x

given_more : (requests : List InFlight) (first rest : List Call) (array : Option ℕ) (s : ℕ) (x : List ℕ) → IsGiven requests first array s x → IsGiven requests (first ++ rest) array s x
given_more requests first rest array s x (inl asked) = inl asked
given_more requests first rest array s x (inr one) = inr (some_left (GivesCall array s x) first rest one)

-- where an array's values come from, through some calls and through others before them
none_some : (n : ℕ) → None ≡ Some n → ⊥
none_some n e = cc

some_none : (n : ℕ) → Some n ≡ None → ⊥
some_none n e = cc

comes_through : (first rest : List Call) (array mid from : Option ℕ) → ComesFrom rest array mid → ComesFrom first mid from → ComesFrom (first ++ rest) array from
comes_through first rest array mid from (inl same) (inl is) = inl (is ∙ same)
comes_through first rest array mid from (inl same) (inr merged) = inr (sym same ∙ merged.0, some_left (Merges from) first rest merged.1)
comes_through first rest array mid from (inr merged) (inl is) = inr (merged.0, some_right (Merges from) first rest (subst (λ o. IsSomeOf (Merges o) rest) (sym is) merged.1))
comes_through first rest array mid from (inr merged) (inr before) = inr (merged.0, some_left (Merges from) first rest before.1)

module _ {B : Type 0} (holds : B → ℕ → List ℕ → Type 0) (size : B → ℕ) where
  -- no calls
  pub opens_empty : (v : Volumed B) → OpensOnly holds size [] v v
  opens_empty v array s x may = record { from = array; comes = inl refl; is = inl may }

  pub asks_empty : (v : Volumed B) → AsksOnly [] v v
  asks_empty v array s x asked = inl asked

  -- one
  pub asks_one : (contents : B → List ℕ) (layers : B → List Layer) (call : Call) (v w : Volumed B) → MayCall call (plain_of contents layers v) (plain_of contents layers w) → AsksOnly (call ∷ []) v w
  asks_one contents layers call v w legal array s x asked = call_asked array s x call (plain_of contents layers v) (plain_of contents layers w) legal asked

  pub asks_then : (first rest : List Call) (u v w : Volumed B) → AsksOnly first u v → AsksOnly rest v w → AsksOnly (first ++ rest) u w
  asks_then first rest u v w one then array s x asked = elim (then array s x asked) [
    | inl before ↦ given_more (map in_flight u.flights) first rest array s x (one array s x before)
    | inr submitted ↦ inr (some_right (GivesCall array s x) first rest submitted)
  ]

  -- some calls, and others after them
  pub opens_then : (first rest : List Call) (u v w : Volumed B) → OpensOnly holds size first u v → AsksOnly first u v → OpensOnly holds size rest v w → OpensOnly holds size (first ++ rest) u w
  opens_then first rest u v w one asks then array s x may =
      let f = then array s x may in
      elim f.is [
        | inr (inl asked) ↦ given f.from f.comes (given_more (map in_flight u.flights) first rest f.from s x (asks f.from s x asked))
        | inr (inr submitted) ↦ given f.from f.comes (inr (some_right (GivesCall f.from s x) first rest submitted))
        | inl before ↦
            (let g = one f.from s x before in
            record { from = g.from; comes = comes_through first rest array f.from g.from f.comes g.comes; is = more g.from g.is })
      ]
    where
      given : (from : Option ℕ) → ComesFrom rest array from → IsGiven (map in_flight u.flights) (first ++ rest) from s x → IsFrom holds size (first ++ rest) u array s x
      given from comes is = record { from = from; comes = comes_through first rest array from from comes (inl refl); is = inr is }

      more : (from : Option ℕ) → IsOpenIn holds size u from s x ⊎ IsGiven (map in_flight u.flights) first from s x → IsOpenIn holds size u from s x ⊎ IsGiven (map in_flight u.flights) (first ++ rest) from s x
      more from (inl may) = inl may
      more from (inr is) = inr (given_more (map in_flight u.flights) first rest from s x is)

  -- those that a loop went over are all of them
  pub all_opened : (seen calls : List Call) (v w : Volumed B) → map (λ c. c) seen ≡ calls → OpensOnly holds size seen v w → OpensOnly holds size calls v w
  all_opened seen calls v w all opens = subst (λ (cs : List Call). OpensOnly holds size cs v w) (sym (map-id seen) ∙ all) opens

-- a write that is none of a snapshot's gives its array nothing
gives_none : (number s : ℕ) (x : List ℕ) (dev : Dev) (range : Range) (op : Op) → writes number dev op ≡ false → Gives (given_as dev range op) (Some number) s x → ⊥
gives_none number s x dev range Read none gives = gives
gives_none number s x dev range Flush none gives = gives
gives_none number s x Origin range (Write bytes) none gives = none_some number gives.0
gives_none number s x (Snap n) range (Write bytes) none gives = (let e : Some n ≡ Some number = gives.0 in let same : n ≡ number = cc in true≢false (sym (eq-eqb n number same) ∙ none))

pub asked_none : (number s : ℕ) (x : List ℕ) (requests : List InFlight) → is_written number requests ≡ false → IsSomeOf (GivesAsked (Some number) s x) requests → ⊥
asked_none number s x [] none one = one
asked_none number s x (r ∷ rs) none one =
    let parts = or_parts (writes number r.request.dev r.request.op) (is_written number rs) none in
    elim one [ inl here ↦ gives_none number s x r.request.dev r.request.range r.request.op parts.0 here | inr later ↦ asked_none number s x rs parts.1 later ]

called_none : (number s : ℕ) (x : List ℕ) (calls : List Call) → list_any (is_write_of number) calls ≡ false → IsSomeOf (GivesCall (Some number) s x) calls → ⊥
called_none number s x [] none one = one
called_none number s x (c ∷ cs) none one =
    let parts = or_parts (is_write_of number c) (list_any (is_write_of number) cs) none in
    elim one [ inl here ↦ call_none c parts.0 here | inr later ↦ called_none number s x cs parts.1 later ]
  where
    call_none : (c : Call) → is_write_of number c ≡ false → GivesCall (Some number) s x c → ⊥
    call_none (Submit request) free gives = gives_none number s x request.dev request.range request.op free gives
    call_none (Step event) free gives = gives
    call_none (Tick seconds) free gives = gives
    call_none (Tell dev depth message) free gives = gives
    call_none (BeginMerge n) free gives = gives
    call_none ResumeMerge free gives = gives

-- A snapshot that no call and no request in flight writes is left with nothing but what it might be left with before.
pub opens_unwritten : {B : Type 0} (holds : B → ℕ → List ℕ → Type 0) (size : B → ℕ) (calls : List Call) (v w : Volumed B) → OpensOnly holds size calls v w → OpensNoneUnwritten holds size calls v w
opens_unwritten holds size calls v w opens number free none s x may = (let f = opens (Some number) s x may in by f.from f.comes f.is)
  where
    by : (from : Option ℕ) → ComesFrom calls (Some number) from → IsOpenIn holds size v from s x ⊎ IsGiven (map in_flight v.flights) calls from s x → IsOpenIn holds size v (Some number) s x
    by from (inr merged) is = absurd (some_none number merged.0)
    by from (inl same) (inl before) = subst (λ o. IsOpenIn holds size v o s x) same before
    by from (inl same) (inr (inl asked)) = absurd (asked_none number s x (map in_flight v.flights) free (subst (λ o. IsSomeOf (GivesAsked o s x) (map in_flight v.flights)) same asked))
    by from (inl same) (inr (inr called)) = absurd (called_none number s x calls none (subst (λ o. IsSomeOf (GivesCall o s x) calls) same called))
