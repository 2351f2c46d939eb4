-- Where what lasts begins: of a merge that is begun, and of a snapshot that was just attached; and what is open then, and once a
-- merge is taken out.
use Rattle.std.proofs.Common.{◌≡◌, inl, inr, ℕ, ◌+◌, ◌*◌, ◌<◌, ◌≤◌, true, false, List, [], Some, length, get_or, map, length-drop, sym, ◌∙◌, ap, subst, arith}
use Rattle.std.specs.Prelude.{◌&&◌, ◌==◌, not}
use Rattle.std.specs.List.{All}
use Rattle.std.proofs.lemmas.Bool.{cases_Bool, cases_lt, cond-true, cond-false, false≢true}
use Rattle.std.proofs.lemmas.List.Elements.{All-map}
use Rattle.sector.specs.Bytes.{sector_at}
use Rattle.sector.specs.declared.pair.Pair.{Pair}
use Rattle.device.specs.Layers.{Layer, is_loud}
use Rattle.cow_format.specs.Pairs.{AreWellFormed}
use Rattle.cow_format.specs.Places.{area_place, slot}
use Rattle.in_flight.specs.declared.flights.Flight.{Flight}
use Rattle.crash_laws.specs.Firm.{IsFirm}
use Rattle.cache_loss_laws.proofs.MergeKept.{begin_lasts}
use Rattle.cache_loss_laws.proofs.Attached.{attach_lasts}
use Rattle.cache_loss_laws.proofs.Slots.{inside_of}
use Rattle.store.specs.Headed.{marked_as}
use Rattle.snapshot.specs.Kept.{Kept}
use Rattle.snapshot.specs.InStep.{IsInStep}
use Rattle.snapshot_list.specs.Keeping.{unkept, kept_back, kept_for}
use Rattle.volume.specs.Beginning.{merging_from}
use Rattle.volume.specs.SnapLasting.{IsReady, lost_of, IsThereOn, SnapLasting}
use Rattle.volume.specs.MergeLasting.{MergeLasting}
use Rattle.volume.proofs.LastOne.{IsKeptSnap, none_ready, leaves, alive, there_of}
use Rattle.volume.proofs.OriginLasts.{area_room}

module _ {B : Type 0} (holds : B → ℕ → List ℕ → Type 0) (contents : B → List ℕ) (layers : B → List Layer) (size : B → ℕ) (whole : (d : B) → length (contents d) ≡ 512 * size d) (here : (d : B) (s : ℕ) → s < size d → holds d s (sector_at (contents d) s)) where
  -- What a snapshot keeps back for a merge is nothing that lasts.
  pub back_lasts : (o : B) (count : ℕ) (s : Kept B) → SnapLasting holds contents layers size o s → SnapLasting holds contents layers size o (kept_back count s)
  back_lasts o count s l = record { unmarked = l.unmarked; formed = l.formed; listed = l.listed; live = l.live; untried = l.untried; tried = l.tried }

  pub unkept_lasts : (o : B) (s : Kept B) → SnapLasting holds contents layers size o s → SnapLasting holds contents layers size o (unkept s)
  unkept_lasts o s l = record { unmarked = l.unmarked; formed = l.formed; listed = l.listed; live = l.live; untried = l.untried; tried = l.tried }

  pub kept_lasts : (o : B) (number count chunk : ℕ) (s : Kept B) → SnapLasting holds contents layers size o s → SnapLasting holds contents layers size o (kept_for number count chunk s)
  kept_lasts o number count chunk s l = elim (cases_Bool (s.live && not (s.number == number))) [
    | inl is ↦ subst (SnapLasting holds contents layers size o) (sym (cond-true _ _ _ is)) (back_lasts o _ s l)
    | inr other ↦ subst (SnapLasting holds contents layers size o) (sym (cond-false _ _ _ other)) l
  ]

  pub all_kept : (o : B) (number count chunk : ℕ) (xs : List (Kept B)) → All (SnapLasting holds contents layers size o) xs → All (SnapLasting holds contents layers size o) (map (kept_for number count chunk) xs)
  all_kept o number count chunk xs all = All-map (SnapLasting holds contents layers size o) (kept_for number count chunk) xs (λ k d lt. kept_lasts o number count chunk (get_or xs k d) (all k d lt))

  pub all_unkept : (o : B) (xs : List (Kept B)) → All (SnapLasting holds contents layers size o) xs → All (SnapLasting holds contents layers size o) (map unkept xs)
  all_unkept o xs all = All-map (SnapLasting holds contents layers size o) unkept xs (λ k d lt. unkept_lasts o (get_or xs k d) (all k d lt))

  -- and one that differs from another in that alone
  pub unkept_same : (o : B) (s t : Kept B) → unkept t ≡ unkept s → SnapLasting holds contents layers size o s → SnapLasting holds contents layers size o t
  unkept_same o s t same l =
      let u = subst (SnapLasting holds contents layers size o) (sym same) (unkept_lasts o s l) in
      record { unmarked = u.unmarked; formed = u.formed; listed = u.listed; live = u.live; untried = u.untried; tried = u.tried }

  -- A merge is begun of a live snapshot without marks: all its pairs are sure.
  module _ (o : B) (rs : List Flight) (s : Kept B) (k : IsKeptSnap contents layers size o rs s) (l : SnapLasting holds contents layers size o s) (live : s.live ≡ true) where
    all_sure : s.marks ≡ [] → s.state.sure ≡ length s.pairs
    all_sure none =
        let a = alive holds contents layers size whole here o rs s k l live in
        let few : s.state.sure ≤ length s.pairs = a.few in
        elim (cases_lt s.state.sure (length s.pairs)) [
          | inl below ↦ absurd (let any = a.link 0 (record { old = 0; new = 0 }) (omega (arith, below, length-drop s.state.sure s.pairs)) in
              let within : any.0 < length s.marks = any.2 in
              omega (arith, within, ap length none))
          | inr from ↦ omega (arith, from, few)
        ]

    pub begun_lasts : s.marks ≡ [] → (buffer : List ℕ) → MergeLasting holds contents layers size o (Some (merging_from s buffer))
    begun_lasts none buffer lo ls =
        begin_lasts (holds o) (holds s.device) (contents o) (contents s.device) (IsReady s.copies) (lost_of size o s) (there_of holds contents layers size whole here o rs s k l ls) (l.live lo ls live) (l.unmarked live) (all_sure none)

  -- A snapshot that was just attached: neither the origin's device nor its store may be left with anything but what is there.
  module _ (o : B) (s : Kept B) (some : 0 < s.state.chunk) (fits : s.state.origin ≡ size o) (step : IsInStep contents layers size s) (live : s.live ≡ true) (unmarked : s.marked ≡ false) (copies : s.copies ≡ []) (unzeroed : s.state.zeroed ≡ false) (loose : s.state.firm ≡ false)
      (all : s.state.sure ≡ length s.pairs) (counted : length s.pairs ≡ s.state.current * (32 * s.state.chunk) + s.state.filled) (unfilled : s.state.filled < 32 * s.state.chunk)
      (rest : is_loud (layers s.device) ≡ true → (k : ℕ) → length s.pairs ≤ k → k < (s.state.current + 1) * (32 * s.state.chunk) → (slot s.state.chunk (contents s.device) k).new ≡ 0)
      (firm_o : is_loud (layers o) ≡ true → IsFirm (holds o) (contents o) (size o)) (firm_s : is_loud (layers s.device) ≡ true → IsFirm (holds s.device) (contents s.device) (size s.device)) where
    formed : AreWellFormed s.state.chunk (size o) (size s.device) s.pairs
    formed = subst (λ n. AreWellFormed s.state.chunk n (size s.device) s.pairs) fits (subst (λ n. AreWellFormed s.state.chunk s.state.origin n s.pairs) step.sized step.formed)

    unready : (q : Pair) → IsReady s.copies q → ⊥
    unready q r = none_ready s.copies q copies r

    there : is_loud (layers s.device) ≡ true → IsThereOn holds contents size o s
    there ls = record {
      some = some;
      disk_now = leaves holds contents layers size whole here o;
      store_now = leaves holds contents layers size whole here s.device;
      listed = step.pairs ls;
      formed = formed;
      unlisted = λ q r. absurd (unready q r);
      lies = λ q r. absurd (unready q r);
    }

    room : s.state.chunk * (area_place s.state.chunk s.state.current + 1) ≤ size s.device
    room = area_room s.state.chunk (size s.device) (length s.pairs) s.state.current some (omega (arith, counted)) formed.room

    reach : length s.pairs < (s.state.current + 1) * (32 * s.state.chunk)
    reach = (let up : (s.state.current + 1) * (32 * s.state.chunk) ≡ s.state.current * (32 * s.state.chunk) + 32 * s.state.chunk = grind arith in omega (arith, counted, unfilled, up))

    pub new_lasts : SnapLasting holds contents layers size o s
    new_lasts = record {
      unmarked = λ _. unmarked;
      formed = formed;
      listed = step.pairs;
      live = λ lo ls _.
          attach_lasts (holds o) (holds s.device) (contents o) (contents s.device) (IsReady s.copies) (lost_of size o s) (there ls) unready unzeroed loose all (firm_o lo) (firm_s ls) (step.header ls ∙ ap (λ b. marked_as (not b) s.state.chunk) unmarked) reach (rest ls)
          (λ k lt. inside_of s.state.chunk (size s.device) s.state.current some room k lt);
      untried = λ lo ls dead. absurd (false≢true (sym dead ∙ live));
      tried = λ lo ls dead. absurd (false≢true (sym dead ∙ live));
    }
