-- A call of a seat, piece after piece.
use Rattle.std.proofs.Common.{◌≡◌, inl, inr, ℕ, List, [], ◌∷◌, ◌++◌, length, refl, sym, ap, ◌∙◌, subst, append_assoc, append-nil, arith}
use Rattle.chunk.specs.Pieces.{Span}
use Rattle.plain_machine.specs.declared.request.Dev.{Dev}
use Rattle.plain_machine.specs.declared.request.Op.{Op}
use Rattle.plain_machine.specs.declared.request.Reply.{Reply}
use Rattle.sector.specs.declared.refusal.Refusal.{Refusal}
use Rattle.audited_volume.specs.declared.entry.Receipt.{Receipt}
use Rattle.plain_machine.specs.declared.request.Request.{Request}
use Rattle.locked_volume.proofs.Begins.{begins_same, begins_then}
use Rattle.volume_threads.specs.Rigs.{HasAdded, IsPieceCut, SeatShape, receipts_at, seen_at}
use Rattle.volume_threads.specs.Served.{AreServed, IsCut, IsOf, IsRefused}

pub added_none : (volume : ℕ) (s : SeatShape) → HasAdded volume [] s s
added_none volume s = record { number = refl; here = sym (append-nil (receipts_at s volume)); others = λ k apart. refl; later = λ k. begins_same (seen_at s k); watches = refl }

pub added_more : (volume : ℕ) (xs ys : List Receipt) (a b c : SeatShape) → HasAdded volume xs a b → HasAdded volume ys b c → HasAdded volume (xs ++ ys) a c
added_more volume xs ys a b c f g = record {
  number = g.number ∙ f.number;
  here = g.here ∙ ap (λ (l : List Receipt). l ++ ys) f.here ∙ append_assoc (receipts_at a volume) xs ys;
  others = λ k apart. g.others k apart ∙ f.others k apart;
  later = λ k. begins_then (seen_at a k) (seen_at b k) (seen_at c k) (f.later k) (g.later k);
  watches = g.watches ∙ f.watches;
}

module _ (op : List ℕ → Op) (reply : List ℕ → Reply) (dev : Dev) where
  served_more : (ps : List Span) (rs : List Receipt) (bytes own : List ℕ) (p : Span) (r : Receipt) → AreServed op reply dev ps rs bytes → IsOf dev (op own) p r → r.reply ≡ reply own
      → AreServed op reply dev (ps ++ p ∷ []) (rs ++ r ∷ []) (bytes ++ own)
  served_more [] [] bytes own p r h is done = (own, [], is, done, refl, ap (λ (l : List ℕ). l ++ own) h ∙ sym (append-nil own))
  served_more [] (s ∷ rs) bytes own p r h is done = absurd h
  served_more (q ∷ ps) [] bytes own p r h is done = absurd h
  served_more (q ∷ ps) (s ∷ rs) bytes own p r h is done =
      (h.0, h.1 ++ own, h.2, h.3, served_more ps rs h.1 own p r h.4 is done, ap (λ (l : List ℕ). l ++ own) h.5 ∙ append_assoc h.0 h.1 own)

  -- the first pieces are done, and these are left
  pub record IsUnderWay (volume : ℕ) (pieces left : List Span) (old now : SeatShape) (bytes : List ℕ) : Type 0 where
    pub firsts : List Span
    pub more : List Receipt
    pub parts : pieces ≡ firsts ++ left
    pub added : HasAdded volume more old now
    pub served : AreServed op reply dev firsts more bytes

  pub begins : (volume : ℕ) (pieces : List Span) (s : SeatShape) → IsUnderWay volume pieces pieces s s []
  begins volume pieces s = record { firsts = []; more = []; parts = refl; added = added_none volume s; served = refl }

  pub goes : (volume : ℕ) (pieces left : List Span) (p : Span) (old now next : SeatShape) (bytes own : List ℕ) (r : Receipt) → IsUnderWay volume pieces (p ∷ left) old now bytes
      → IsOf dev (op own) p r → r.reply ≡ reply own → HasAdded volume (r ∷ []) now next → IsUnderWay volume pieces left old next (bytes ++ own)
  goes volume pieces left p old now next bytes own r h is done added = record {
    firsts = h.firsts ++ p ∷ [];
    more = h.more ++ r ∷ [];
    parts = h.parts ∙ sym (append_assoc h.firsts (p ∷ []) left);
    added = added_more volume h.more (r ∷ []) old now next h.added added;
    served = served_more h.firsts h.more bytes own p r h.served is done;
  }

  pub ends : (volume : ℕ) (pieces : List Span) (old now : SeatShape) (bytes : List ℕ) → IsUnderWay volume pieces [] old now bytes
      → (more : List Receipt) × HasAdded volume more old now × AreServed op reply dev pieces more bytes
  ends volume pieces old now bytes h = (h.more, h.added, subst (λ (l : List Span). AreServed op reply dev l h.more bytes) (sym (append-nil h.firsts) ∙ sym h.parts) h.served)

  first_of : (p q : Span) (ps qs : List Span) → p ∷ ps ≡ q ∷ qs → p ≡ q
  first_of p q ps qs e = ap head e
    where
      head : List Span → Span
      head [] = p
      head (x ∷ xs) = x

  -- spare: what is lost may be said of a piece that is left, too
  pub stops : (lost : Refusal → Type 0) (denies : Request → Refusal → Type 0) → ((q : Span) (r : Refusal) → lost r → IsRefused op dev denies q r)
      → (volume : ℕ) (pieces left : List Span) (p : Span) (old now next : SeatShape) (bytes : List ℕ) (refusal : Refusal) → IsUnderWay volume pieces (p ∷ left) old now bytes
      → IsPieceCut op reply lost denies dev p refusal volume now next → (more : List Receipt) × HasAdded volume more old next × IsCut op reply dev lost denies pieces more refusal
  stops lost denies spare volume pieces left p old now next bytes refusal h (inl (none, refused)) = (
    h.more ++ [],
    added_more volume h.more [] old now next h.added none,
    (
      h.firsts,
      p ∷ left,
      h.more,
      bytes,
      h.parts,
      h.served,
      inl (append-nil h.more, (λ over. absurd (omega (arith, ap length over))), λ q qs e. subst (λ x. IsRefused op dev denies x refusal) (first_of p q left qs e) refused),
    ),
  )
  stops lost denies spare volume pieces left p old now next bytes refusal h (inr (own, r, is, added, inl done)) = (
    h.more ++ r ∷ [],
    added_more volume h.more (r ∷ []) old now next h.added added,
    (
      h.firsts ++ p ∷ [],
      left,
      h.more ++ r ∷ [],
      bytes ++ own,
      h.parts ∙ sym (append_assoc h.firsts (p ∷ []) left),
      served_more h.firsts h.more bytes own p r h.served is done.0,
      inl (refl, (λ over. done.1), λ q qs e. spare q refusal done.1),
    ),
  )
  stops lost denies spare volume pieces left p old now next bytes refusal h (inr (own, r, is, added, inr failed)) = (
    h.more ++ r ∷ [],
    added_more volume h.more (r ∷ []) old now next h.added added,
    (h.firsts, p ∷ left, h.more, bytes, h.parts, h.served, inr (p, left, r, own, failed.0, refl, refl, is, failed.1, failed.2)),
  )

  -- where nothing is asked at all
  pub stops_at_once : (lost : Refusal → Type 0) (denies : Request → Refusal → Type 0) → ((q : Span) (r : Refusal) → lost r → IsRefused op dev denies q r)
      → (volume : ℕ) (pieces : List Span) (s : SeatShape) (refusal : Refusal) → lost refusal → (more : List Receipt) × HasAdded volume more s s × IsCut op reply dev lost denies pieces more refusal
  stops_at_once lost denies spare volume pieces s refusal is = ([], added_none volume s, ([], pieces, [], [], refl, refl, inl (refl, (λ over. is), λ q qs e. spare q refusal is)))
