-- A session and what it goes on with, as calls of a volume that was opened.
use Rattle.std.proofs.Common.{◌≡◌, ℕ, ◌*◌, ◌<◌, Bool, List, [], ◌∷◌, ◌++◌, length, Option, Some, None, refl, sym, subst}
use Rattle.std.specs.Prelude.{Err, IfErr, IfOk, IfSome, Ok, OnErr, Result}
use Rattle.std.specs.Io.KnownBytes.{Appends}
use Rattle.sector.specs.Bytes.{sector_at}
use Rattle.device.specs.Layers.{Layer}
use Rattle.volume.specs.Layering.{Measures}
use Rattle.nbd_options.specs.declared.export.Export.{Export}
use Rattle.nbd_backend.specs.Calls.{Call, Called}
use Rattle.nbd_write_session.specs.Reached.{Reaches}
use Rattle.nbd_write_session.specs.Session.{IsSession}
use Rattle.nbd_write_session.specs.declared.ended.Ended.{Ended}
use Rattle.nbd_write_session.specs.declared.ended.Finish.{Finish}
use Rattle.volume_nbd.specs.Calls.{does_by}
use Rattle.volume_nbd.specs.Looked.{IsLookedAt}
use Rattle.volume_nbd.specs.Served.{Served}
use Rattle.served_session_laws.specs.Sessions.{IsOpened, known_first}
use Rattle.served_session_laws.proofs.Calls.{through}
use Rattle.served_session_laws.proofs.Keeping.{kept_first}
use Rattle.nbd_write_session.proofs.Called.{called_then}
use Rattle.served_session_laws.proofs.Opened.{first_known}
use Rattle.served_session.specs.Served.{Heard, IsServed, StepsTo}

module _ {B : Type 0} (holds : B → ℕ → List ℕ → Type 0) (m : Measures B) (layers : B → List Layer) (failed unanswered : B → Bool) (whole : (d : B) → length (m.contents d) ≡ 512 * m.size d) (here : (d : B) (s : ℕ) → s < m.size d → holds d s (sector_at (m.contents d) s))
    (exports : List Export) (start left new : Served B) (looked : IsLookedAt holds m.contents layers m.size start.volume) (opened : IsOpened holds m layers start.volume) where
  served_by : (ended : Result Finish Ended) (heard : Heard) (calls : List Call) → Called (does_by holds m.contents layers m.size m.faults m.done failed unanswered) start calls left
      → IfOk ended (λ finish. IfSome heard.client (λ bytes. (said : List ℕ) × IsSession exports finish calls bytes said × Appends heard.before heard.after said))
      → StepsTo (does_by holds m.contents layers m.size m.faults m.done failed unanswered) left new → IsServed holds m layers failed unanswered exports start new ended heard
  served_by ended heard calls called says (more, gone, steps) =
      let all = called_then (does_by holds m.contents layers m.size m.faults m.done failed unanswered) start left new calls more called gone in
      record {
        calls = calls;
        says = says;
        more = more;
        steps = steps;
        loses = λ carried are.
            (let t = through holds m layers failed whole here unanswered (known_first m layers carried start.volume) start (more ++ calls) new (first_known holds m layers failed whole here start.volume carried are looked opened) (kept_first holds m layers failed start carried opened.idle) all in
            (t.after, t.loses));
      }

  pub is_served : (ended : Result Finish Ended) (heard : Heard)
      → IfOk ended (λ finish. (calls : List Call) × Called (does_by holds m.contents layers m.size m.faults m.done failed unanswered) start calls left × IfSome heard.client (λ bytes. (said : List ℕ) × IsSession exports finish calls bytes said × Appends heard.before heard.after said))
      → OnErr ended (Reaches (does_by holds m.contents layers m.size m.faults m.done failed unanswered) start left)
      → StepsTo (does_by holds m.contents layers m.size m.faults m.done failed unanswered) left new → IsServed holds m layers failed unanswered exports start new ended heard
  is_served (Ok finish) heard (calls, called, says) err goes = served_by (Ok finish) heard calls called says goes
  is_served (Err ended) heard ok (calls, called) goes = served_by (Err ended) heard calls called tt goes
