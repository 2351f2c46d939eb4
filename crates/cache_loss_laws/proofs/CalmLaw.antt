-- A call that leaves a snapshot's list and its copies: the general law, by sectors. Most calls are instances of it.
use Rattle.std.proofs.Common.{◌≡◌, ◌⊎◌, inl, inr, ℕ, ◌+◌, ◌*◌, ◌/◌, ◌%◌, ◌<◌, List, [], ◌++◌, take, drop, get_or, ap, ◌∙◌, sym, subst, append-nil}
use Rattle.std.specs.Prelude.{Some, None}
use Rattle.std.specs.List.{All}
use Rattle.std.proofs.lemmas.List.Elements.{All-drop}
use Rattle.sector.specs.Bytes.{sector_at}
use Rattle.sector.specs.declared.pair.Pair.{Pair}
use Rattle.cow_format.specs.Pairs.{pairs_of, AreWellFormed, IsInside}
use Rattle.cow_format.specs.Picture.{place_of, picture}
use Rattle.crash_laws.specs.Stop.{MayLeave, Within}
use Rattle.crash_laws.specs.Again.{IsOpen}
use Rattle.crash_laws.specs.Firm.{IsFirmAt, AddsNow}
use Rattle.crash_laws.specs.May.{sector_of, MayList}
use Rattle.crash_laws.proofs.May.{may_kept}
use Rattle.crash_laws.proofs.Open.{sector_copied}
use Rattle.cache_loss_laws.specs.Lasting.{IsCopyFirm, Lasts}
use Rattle.cache_loss_laws.specs.Calm.{IsCalm}
use Rattle.cache_loss_laws.proofs.Copied.{sectors_copied, unnamed_before, found_there}
use Rattle.cache_loss_laws.proofs.Parts.{place_first}
use Rattle.cache_loss_laws.proofs.Places.{place_later, place_all, place_good, sector_fits, copy_sector}
use Rattle.cache_loss_laws.proofs.Lasting.{stop_formed, stop_opens}
use Rattle.cache_loss_laws.proofs.LastingCalls.{shown_disk}

module _ (chunk sectors size sure last : ℕ) (ps : List Pair) (oh sh oh' sh' : ℕ → List ℕ → Type 0) (o o' c c' : List ℕ) (given : ℕ → List ℕ → Type 0) (h : Lasts chunk sectors size sure last ps oh sh o c)
    (calm : IsCalm chunk sectors sure last ps o o' c c' given) (adds_o : AddsNow oh oh' o') (adds_s : AddsNow sh sh' c') where
  store_cases : (x : ℕ) (v : List ℕ) → Within sh sh' x v → sh x v ⊎ (v ≡ sector_at c' x)
  store_cases x v (inl was) = inl was
  store_cases x v (inr there) = adds_s x v there

  disk_cases : (x : ℕ) (v : List ℕ) → Within oh oh' x v → oh x v ⊎ (v ≡ sector_at o' x)
  disk_cases x v (inl was) = inl was
  disk_cases x v (inr there) = adds_o x v there

  list_with : (holds : ℕ → List ℕ → Type 0) → ((x : ℕ) (v : List ℕ) → holds x v → sh x v ⊎ (v ≡ sector_at c' x)) → MayList chunk sure last ps holds
  list_with holds cases = may_kept chunk sure last ps sh holds h.list (λ k v le x. elim (cases (sector_of chunk k) v x) [
    | inl was ↦ was
    | inr e ↦ subst (sh (sector_of chunk k)) (sym (e ∙ calm.lists k le)) (h.store_now.each (sector_of chunk k) (h.inside k le))
  ])

  at_sure : (s n : ℕ) (v : List ℕ) → s < sectors → place_of (take sure ps) (s / chunk) ≡ Some n → Within sh sh' (chunk * n + s % chunk) v → sh (chunk * n + s % chunk) v ⊎ given s v
  at_sure s n v lt at x =
      let good = place_good chunk sectors size (s / chunk) n ps h.formed.inside (place_first sure ps (s / chunk) n at) in
      let fits = sector_fits chunk size n s h.some good.fits in
      elim (store_cases (chunk * n + s % chunk) v x) [
        | inl was ↦ inl was
        | inr e ↦ elim (calm.surely s n lt at) [
          | inl same ↦ inl (subst (sh (chunk * n + s % chunk)) (sym (e ∙ same)) (h.store_now.each (chunk * n + s % chunk) fits))
          | inr g ↦ inr (subst (given s) (sym e) g)
        ]
      ]

  disk_same : (s : ℕ) (v : List ℕ) → s < sectors → place_of (take sure ps) (s / chunk) ≡ None → Within oh oh' s v → v ≡ sector_at o s
  disk_same s v lt none x = elim (disk_cases s v x) [ inl was ↦ h.disk s lt none v was | inr e ↦ e ∙ calm.disk s lt none ]

  at_disk : (s : ℕ) (v : List ℕ) → s < sectors → place_of (take sure ps) (s / chunk) ≡ None → Within oh oh' s v → (v ≡ sector_at (picture chunk o c) s) ⊎ given s v
  at_disk s v lt none x = inl (disk_same s v lt none x ∙ sym (shown_disk chunk sectors size sure last ps oh sh o c h s lt none))

  at_place : (s n : ℕ) (v : List ℕ) → s < sectors → place_of (take sure ps) (s / chunk) ≡ None → place_of (ps ++ []) (s / chunk) ≡ Some n → Within sh sh' (chunk * n + s % chunk) v → v ≡ sector_at (picture chunk o c) s
  at_place s n v lt none at x =
      let at' : place_of ps (s / chunk) ≡ Some n = ap (λ z. place_of z (s / chunk)) (sym (append-nil ps)) ∙ at in
      let good = place_good chunk sectors size (s / chunk) n ps h.formed.inside at' in
      let fits = sector_fits chunk size n s h.some good.fits in
      let (q, firm, old, new) = place_all (IsCopyFirm chunk sectors sh o c) (drop sure ps) (s / chunk) n h.placed (sym (place_later sure ps (s / chunk) none) ∙ at') in
      let only_this : IsFirmAt sh c (chunk * n + s % chunk) = subst (λ (m : ℕ). IsFirmAt sh c (chunk * m + s % chunk)) new (firm.firm s lt (sym old)) in
      let there : v ≡ sector_at c (chunk * n + s % chunk) = elim (store_cases (chunk * n + s % chunk) v x) [
        | inl was ↦ only_this v was
        | inr e ↦ e ∙ calm.perhaps s n lt none at'
      ] in
      there ∙ sym (sector_copied chunk sectors size s n o c ps h.some h.disk_now.whole h.store_now.whole lt fits h.listed at')

  same_list : MayList chunk sure last (ps ++ []) (Within sh sh')
  same_list = subst (λ z. MayList chunk sure last z (Within sh sh')) (sym (append-nil ps)) (list_with (Within sh sh') store_cases)

  same_formed : AreWellFormed chunk sectors size (ps ++ [])
  same_formed = subst (AreWellFormed chunk sectors size) (sym (append-nil ps)) h.formed

  -- whatever a stop leaves has well-formed pairs, and opens nothing but what is given
  pub calm_formed : (b d : List ℕ) → MayLeave (Within oh oh') sectors b → MayLeave (Within sh sh') size d → AreWellFormed chunk sectors size (pairs_of chunk d)
  calm_formed b d left_b left_d = stop_formed chunk sectors size sure last oh sh (Within oh oh') (Within sh sh') given o c ps [] h.some h.disk_now h.store_now h.listed h.list.low same_list h.inside same_formed at_sure at_disk at_place b d left_b left_d

  pub calm_opens : (b d : List ℕ) → MayLeave (Within oh oh') sectors b → MayLeave (Within sh sh') size d → (s : ℕ) → s < sectors → IsOpen chunk oh sh sectors size s (sector_at (picture chunk b d) s) ⊎ given s (sector_at (picture chunk b d) s)
  calm_opens b d left_b left_d s lt = stop_opens chunk sectors size sure last oh sh (Within oh oh') (Within sh sh') given o c ps [] h.some h.disk_now h.store_now h.listed h.list.low same_list h.inside same_formed at_sure at_disk at_place b d left_b left_d s lt

  -- a copy whose place is as it was, of a chunk that is not surely in the list
  pub calm_copy : (q : Pair) → IsInside chunk sectors size q → place_of (take sure ps) q.old ≡ None → ((s : ℕ) → s < sectors → s / chunk ≡ q.old → sector_at c' (chunk * q.new + s % chunk) ≡ sector_at c (chunk * q.new + s % chunk)) → MayLeave oh' sectors o' → IsCopyFirm chunk sectors sh o c q → IsCopyFirm chunk sectors sh' o' c' q
  calm_copy q lies none same disk_now firm = record {
    same = sectors_copied chunk sectors o' c' q h.some disk_now.whole (λ s lt named. same s lt named ∙ copy_sector chunk sectors size s o c q h.some h.disk_now.whole h.store_now.whole lt (sector_fits chunk size q.new s h.some lies.new) named firm.same ∙ sym (calm.disk s lt (ap (place_of (take sure ps)) named ∙ none)));
    firm = λ s lt named v x. elim (adds_s (chunk * q.new + s % chunk) v x) [
      | inl was ↦ firm.firm s lt named v was ∙ sym (same s lt named)
      | inr e ↦ e
    ];
  }

  -- the list, the origin's disk and the places after it
  pub calm_list : MayList chunk sure last ps sh'
  calm_list = list_with sh' adds_s

  pub calm_disk : (s : ℕ) → s < sectors → place_of (take sure ps) (s / chunk) ≡ None → IsFirmAt oh' o' s
  calm_disk s lt none v x = elim (adds_o s v x) [ inl was ↦ h.disk s lt none v was ∙ sym (calm.disk s lt none) | inr e ↦ e ]

  pub calm_placed : MayLeave oh' sectors o' → All (IsCopyFirm chunk sectors sh' o' c') (drop sure ps)
  calm_placed disk_now k d lt =
      let q : Pair = get_or (drop sure ps) k d in
      let none : place_of (take sure ps) (get_or (drop sure ps) k d).old ≡ None = unnamed_before sure ps h.formed.apart k d lt in
      let at : place_of ps (get_or (drop sure ps) k d).old ≡ Some (get_or (drop sure ps) k d).new = place_later sure ps (get_or (drop sure ps) k d).old none ∙ found_there sure ps h.formed.apart k d lt in
      calm_copy (get_or (drop sure ps) k d) (All-drop (IsInside chunk sectors size) sure ps h.formed.inside k d lt) none
      (λ s lt' named. calm.perhaps s (get_or (drop sure ps) k d).new lt' (ap (place_of (take sure ps)) named ∙ none) (ap (place_of ps) named ∙ at))
      disk_now (h.placed k d lt)
