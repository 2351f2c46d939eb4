-- Events that are done one after the other, as long as each is due and nothing fails.
use Rattle.std.proofs.Common.{◌≡◌, inl, inr, ℕ, ◌<◌, Bool, true, false, List, [], ◌∷◌, Some, refl, ◌∙◌, sym, ap, subst, arith}
use Rattle.std.proofs.lemmas.Bool.{true≢false}
use Rattle.device.specs.Layers.{Layer}
use Rattle.plain_machine.specs.declared.event.Event.{Event}
use Rattle.plain_machine.specs.declared.event.Event.TheVariants.{CopyRead}
use Rattle.plain_machine.specs.declared.event.Outcome.{Outcome}
use Rattle.plain_machine.specs.declared.event.Outcome.TheVariants.{Done, Fault, Reply as Answered}
use Rattle.plain_machine.specs.declared.request.Reply.{Reply}
use Rattle.event_machine.specs.Seen.{replied_by}
use Rattle.volume.specs.Exact.{IsExact}
use Rattle.volume.specs.Stepping.{KeepsAll}
use Rattle.volume.specs.Volumed.{Volumed, is_loud_in_all, left_in_all}
use Rattle.counted_volume.specs.DoneDue.{AreDone, IsDoneDue, told_by}
use Rattle.counted_volume.specs.Following.{AreCarried, AreDoneSo, IsAlone, IsCarried, IsFollowed, all_following, following}
use Rattle.counted_volume.specs.Places.{Counted}
use Rattle.counted_volume.specs.TakesPlaces.{TakesByRequests}
use Rattle.counted_volume.proofs.DoneDue.{done_none, done_one, done_then}
use Rattle.counted_volume.proofs.Settled.{keeps_none, keeps_more}
use Rattle.counted_volume.proofs.Takings.{takes_then}

told_same : (outcome : Outcome) (reply : Reply) → Some (told_by outcome reply) ≡ replied_by outcome (Some reply)
told_same (Answered n given) reply = refl
told_same Done reply = refl
told_same Fault reply = refl

-- whether they go on after this outcome
abbrev pub goes_after : Outcome → Bool
goes_after (Answered n given) = false
goes_after Done = true
goes_after Fault = false

module _ {B : Type 0} (holds : B → ℕ → List ℕ → Type 0) (contents : B → List ℕ) (layers : B → List Layer) (faults size : B → ℕ) where
  -- what is said of all is said whichever events they are
  pub so_is : (which other : Type 0) (before after : Reply) (v w : Counted B) → other → AreDoneSo holds contents layers faults size which before after v w → AreDoneSo holds contents layers faults size other before after v w
  so_is which other before after v w is all = record { so = is; did = all.did; loud = all.loud; kept = all.kept; requests = all.requests; left = all.left; taken = all.taken }

  -- none of the events is done
  pub none_carried : (events : List Event) (reply after : Reply) (v w : Volumed B) → w ≡ v → after ≡ reply → AreCarried contents layers events reply after v w
  none_carried [] reply after v w same told = (same, told)
  none_carried (e ∷ events) reply after v w same told = inl (same, told)

  pub none_so : (which : Type 0) (reply : Reply) (v w : Counted B) → w.volume ≡ v.volume → TakesByRequests v w → which → AreDoneSo holds contents layers faults size which reply reply v w
  none_so which reply v w same taken is = record {
    so = is;
    did = subst (λ (x : Volumed B). AreDone holds contents layers faults size reply reply v.volume x) (sym same) (done_none holds contents layers faults size reply v.volume);
    loud = ap (is_loud_in_all layers) same;
    kept = subst (KeepsAll size v.volume) (sym same) (keeps_none size v.volume);
    requests = ap (λ (x : Volumed B). x.requests) same;
    left = (let e = ap (left_in_all contents layers) same in omega (arith, e));
    taken = taken;
  }

  -- one event that is not due
  pub not_carried : (event : Event) (reply : Reply) (v w : Counted B) → w.volume ≡ v.volume → TakesByRequests v w → IsCarried holds contents layers faults size event false reply reply v w
  not_carried event reply v w same taken = record { ends = none_so _ reply v w same taken (inl (same, refl)); goes_on = λ on. absurd (true≢false (sym on)) }

  -- and one that was done
  goes_done : (event : Event) (outcome : Outcome) (reply : Reply) (v w : Volumed B) → IsExact contents layers event outcome v w → left_in_all contents layers w < left_in_all contents layers v → goes_after outcome ≡ true
      → (told_by outcome reply ≡ reply) × IsExact contents layers event Done v w × (left_in_all contents layers w < left_in_all contents layers v)
  goes_done event (Answered n given) reply v w exact lower on = absurd (true≢false (sym on))
  goes_done event Done reply v w exact lower on = (refl, exact, lower)
  goes_done event Fault reply v w exact lower on = absurd (true≢false (sym on))

  pub done_carried : (event : Event) (outcome : Outcome) (reply : Reply) (v w : Counted B) → is_loud_in_all layers w.volume ≡ is_loud_in_all layers v.volume → KeepsAll size v.volume w.volume
      → left_in_all contents layers w.volume < left_in_all contents layers v.volume → TakesByRequests v w → IsDoneDue holds contents layers faults size event outcome v.volume w.volume
      → IsCarried holds contents layers faults size event (goes_after outcome) reply (told_by outcome reply) v w
  done_carried event outcome reply v w loud kept lower taken due = record {
    ends = record {
      so = inr (outcome, w.volume, due.exact, loud, inl (refl, told_same outcome reply));
      did = done_one holds contents layers faults size reply event outcome v.volume w.volume due;
      loud = loud;
      kept = kept;
      requests = due.requests;
      left = omega (arith, lower);
      taken = taken;
    };
    goes_on = goes_done event outcome reply v.volume w.volume due.exact lower;
  }

  -- more events may come after one
  more_carried : (event : Event) (rest : List Event) (before after : Reply) (v w : Volumed B) → AreCarried contents layers (event ∷ []) before after v w → AreCarried contents layers (event ∷ rest) before after v w
  more_carried event rest before after v w (inl none) = inl none
  more_carried event rest before after v w (inr (outcome, mid, exact, loud, inl last)) = inr (outcome, mid, exact, loud, inl last)
  more_carried event rest before after v w (inr (outcome, mid, exact, loud, inr (is, (same, told)))) = inr (outcome, mid, exact, loud, inr (is, none_carried rest before after mid w same told))

module _ {B : Type 0} {holds : B → ℕ → List ℕ → Type 0} {contents : B → List ℕ} {layers : B → List Layer} {faults size : B → ℕ} where
  -- where they do not go on after an event, none of those that come after it is done
  pub out_at : {event : Event} (rest : List Event) {go : Bool} {before after : Reply} {v w : Counted B} → IsCarried holds contents layers faults size event go before after v w
      → AreDoneSo holds contents layers faults size (AreCarried contents layers (event ∷ rest) before after v.volume w.volume) before after v w
  out_at {event} rest {go} {before} {after} {v} {w} one = so_is holds contents layers faults size _ _ before after v w (more_carried holds contents layers faults size event rest before after v.volume w.volume one.ends.so) one.ends

  -- where they do, those of them that are done are done after it
  pub out_after : {event : Event} (rest : List Event) {go : Bool} {before mid after : Reply} {u v w : Counted B} → go ≡ true → IsCarried holds contents layers faults size event go before mid u v
      → AreDoneSo holds contents layers faults size (AreCarried contents layers rest mid after v.volume w.volume) mid after v w → AreDoneSo holds contents layers faults size (AreCarried contents layers (event ∷ rest) before after u.volume w.volume) before after u w
  out_after {event} rest {go} {before} {mid} {after} {u} {v} {w} on one all = record {
    so = inr (Done, v.volume, (one.goes_on on).1, one.ends.loud, inr (refl, subst (λ (r : Reply). AreCarried contents layers rest r after v.volume w.volume) (one.goes_on on).0 all.so));
    did = done_then holds contents layers faults size before mid after u.volume v.volume w.volume one.ends.did all.did;
    loud = all.loud ∙ one.ends.loud;
    kept = keeps_more size u.volume v.volume w.volume one.ends.kept all.kept;
    requests = all.requests ∙ one.ends.requests;
    left = (let here = one.ends.left in let later = all.left in omega (arith, here, later));
    taken = takes_then u v w one.ends.taken all.taken;
  }

  -- those that were done after others
  pub so_then : {some more : Type 0} (which : Type 0) {before mid after : Reply} {u v w : Counted B} → AreDoneSo holds contents layers faults size some before mid u v → AreDoneSo holds contents layers faults size more mid after v w → which
      → AreDoneSo holds contents layers faults size which before after u w
  so_then which {before} {mid} {after} {u} {v} {w} one all is = record {
    so = is;
    did = done_then holds contents layers faults size before mid after u.volume v.volume w.volume one.did all.did;
    loud = all.loud ∙ one.loud;
    kept = keeps_more size u.volume v.volume w.volume one.kept all.kept;
    requests = all.requests ∙ one.requests;
    left = (let here = one.left in let later = all.left in omega (arith, here, later));
    taken = takes_then u v w one.taken all.taken;
  }

  -- and they follow the read of a copy's chunk
  pub read_followed : (n s : ℕ) {before after : Reply} {v w : Counted B} → AreDoneSo holds contents layers faults size (AreCarried contents layers (following (CopyRead n) s) before after v.volume w.volume) before after v w
      → AreDoneSo holds contents layers faults size (IsFollowed contents layers (CopyRead n) before after v.volume w.volume) before after v w
  read_followed n s {before} {after} {v} {w} all = so_is holds contents layers faults size _ _ before after v w (inl (s, all.so)) all

  pub alone_followed : (n s : ℕ) {before after : Reply} {v w : Counted B} → IsAlone n v.volume → AreDoneSo holds contents layers faults size (AreCarried contents layers (all_following n s) before after v.volume w.volume) before after v w
      → AreDoneSo holds contents layers faults size (IsFollowed contents layers (CopyRead n) before after v.volume w.volume) before after v w
  alone_followed n s {before} {after} {v} {w} alone all = so_is holds contents layers faults size _ _ before after v w (inr (n, s, refl, alone, all.so)) all
