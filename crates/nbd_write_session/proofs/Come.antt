-- A client comes to an export.
use Rattle.std.proofs.Common.{◌≡◌, ℕ, ◌+◌, ◌-◌, ◌<◌, ◌≤◌, Bool, true, false, Option, None, Some, IfSome, MatchBool, List, [], ◌∷◌, ◌++◌, length, take, drop, if◌then◌else◌, inl, inr, refl, ap, ◌∙◌, sym, subst, append_assoc, arith, length-drop, nat_le}
use Rattle.std.specs.Io.KnownBytes.{Appends, Keeps}
use Rattle.std.proofs.KnownBytes.{Appends-trans}
use Rattle.std.proofs.lemmas.List.{append-nil, drop-drop}
use Rattle.nbd_messages.specs.Layout.{number_at}
use Rattle.nbd_messages.specs.Replies.{greeting}
use Rattle.nbd_messages.specs.Requests.{asked_in}
use Rattle.nbd_messages.specs.declared.asked.Asked.{Asked}
use Rattle.nbd_options.specs.Haggled.{IsReaction, Reaction, haggled}
use Rattle.nbd_options.specs.declared.export.Export.{Export}
use Rattle.nbd_options.specs.declared.session.Session.{Session}
use Rattle.nbd_options.specs.declared.session.Stage.{Stage}
use Rattle.nbd_options.specs.declared.session.Stage.TheVariants.{Opening, Haggling, Serving, Over}
use Rattle.nbd_write_session.specs.Come.{AsksNone, Came, Haggles, Left, Opens}
use Rattle.nbd_write_session.specs.Haggling.{AreHaggled, IsHaggledTo, IsLeft, IsOpened, IsOption, answer_to, goes_on, is_passed, opened_by, passed}
use Rattle.nbd_write_session.specs.Session.{IsGone, IsLeftSession}
use Rattle.nbd_write_session.specs.Stream.{Stream, dropped, left, lessened, rest_of}
use Rattle.nbd_write_session.specs.declared.ended.Finish.TheVariants.{Client}
use Rattle.nbd_write_session.proofs.Asked.{calm_front, calm_longer, calm_taken, front_heard, longer_rest, rest_passed, rest_taken}

-- ---- options, one after the other

haggled_then : (exports : List Export) (first second : List Asked) (s t u : Session) (bytes middle rest said more : List ℕ) → AreHaggled exports first s t bytes middle said → AreHaggled exports second t u middle rest more → AreHaggled exports (first ++ second) s u bytes rest (said ++ more)
haggled_then exports [] second s t u bytes middle rest said more (same, here, none) later =
    let P : Session → Type 0 = λ x. AreHaggled exports second x u middle rest more in
    let Q : List ℕ → Type 0 = λ l. AreHaggled exports second s u l rest more in
    let R : List ℕ → Type 0 = λ l. AreHaggled exports second s u bytes rest (l ++ more) in
    subst R (sym none) (subst Q here (subst P same later))
haggled_then exports (asked ∷ first) second s t u bytes middle rest said more (after, still, is, told, others) later = (
  after ++ more,
  still,
  is,
  ap (λ (l : List ℕ). l ++ more) told ∙ append_assoc (answer_to exports s asked bytes).answer after more,
  haggled_then exports first second (answer_to exports s asked bytes).after t u (drop (16 + asked.length) bytes) middle rest after more others later,
)

-- the flags were heard
pub came_opened : (exports : List Export) (after : Session) (old new : Option (List ℕ)) → Opens after old new → Came exports after old new []
came_opened exports after None new opens = tt
came_opened exports after (Some bytes) None opens = absurd opens
came_opened exports after (Some bytes) (Some rest) (opened, same, is) = record { opened = opened; options = []; are = (same, is, refl) }

-- and an option more
pub came_more : (exports : List Export) (s t : Session) (old middle new : Option (List ℕ)) (said answer : List ℕ) → Came exports s old middle said → Haggles exports s t middle new answer → Came exports t old new (said ++ answer)
came_more exports s t None middle new said answer came one = tt
came_more exports s t (Some x) None new said answer came one = absurd came
came_more exports s t (Some x) (Some y) None said answer came one = absurd one
came_more exports s t (Some x) (Some y) (Some z) said answer came (asked, one) = record {
  opened = came.opened;
  options = came.options ++ asked ∷ [];
  are = haggled_then exports came.options (asked ∷ []) (opened_by x) s t (drop 4 x) y z said answer came.are one;
}

-- ---- the flags

pub opens_flags : (after : Session) (s : Stream) (old known : Option (List ℕ)) → Keeps old (left s known) → s.unwanted ≡ 0 → 4 ≤ length s.heard → number_at (take 4 s.heard) 0 4 < 4 → after ≡ opened_by s.heard → Opens after old (left (dropped 4 s) known)
opens_flags after s None known keeps calm header flags is = tt
opens_flags after s (Some x) None keeps calm header flags is = absurd keeps
opens_flags after s (Some x) (Some y) keeps calm header flags is =
    let front : take 4 s.heard ≡ take 4 x = sym (front_heard s 4 y calm header) ∙ ap (take 4) keeps in
    let P : List ℕ → Type 0 = λ l. 4 ≤ length l in
    let Q : List ℕ → Type 0 = λ l. number_at l 0 4 < 4 in
    let R : List ℕ → Type 0 = λ l. after ≡ record { no_zeroes = nat_le 2 (number_at l 0 4); structured = false; described = None; stage = Haggling } in
    (record { header = subst P keeps (longer_rest s 4 y calm header); flags = subst Q front flags }, subst R front is, rest_taken s 4 y calm header ∙ ap (drop 4) keeps)

pub opens_none : (s : Stream) (old known : Option (List ℕ)) → Keeps old (left s known) → IfSome (left s known) (λ bytes. length bytes < 4) → IfSome old (λ bytes. IsOpened bytes → ⊥)
opens_none s None known keeps short = tt
opens_none s (Some x) None keeps short = absurd keeps
opens_none s (Some x) (Some y) keeps short = λ opened. (
    let P : List ℕ → Type 0 = λ l. length l < 4 in
    let few : length x < 4 = subst P keeps short in
    let header : 4 ≤ length x = opened.header in
    absurd (omega (arith, few, header)))

-- ---- an option

some_asked : (a b : Asked) → Some a ≡ Some b → a ≡ b
some_asked a b same = cc

true_false : true ≡ false → ⊥
true_false same = cc

-- what was heard of an option's header is what is left
option_front : (s : Stream) (x y : List ℕ) (asked : Asked) → rest_of s y ≡ x → s.unwanted ≡ 0 → 16 ≤ length s.heard → asked_in (take 16 s.heard) ≡ Some asked → (16 ≤ length x) × (asked_in (take 16 x) ≡ Some asked)
option_front s x y asked keeps calm header is =
    let P : List ℕ → Type 0 = λ l. 16 ≤ length l in
    (subst P keeps (longer_rest s 16 y calm header), ap (λ l. asked_in (take 16 l)) (sym keeps) ∙ ap asked_in (front_heard s 16 y calm header) ∙ is)

-- an option's data are passed, as they come
pub haggles_passed : (exports : List Export) (session after : Session) (asked : Asked) (s : Stream) (old known : Option (List ℕ)) (answer : List ℕ) → goes_on session.stage ≡ true → Keeps old (left s known) → s.unwanted ≡ 0 → 16 ≤ length s.heard → asked_in (take 16 s.heard) ≡ Some asked → is_passed asked ≡ true → IsReaction answer after (passed session asked) → Haggles exports session after old (left (lessened asked.length (dropped 16 s)) known) answer
haggles_passed exports session after asked s None known answer still keeps calm header is pass reaction = tt
haggles_passed exports session after asked s (Some x) None answer still keeps calm header is pass reaction = absurd keeps
haggles_passed exports session after asked s (Some x) (Some y) answer still keeps calm header is pass reaction =
    let front : (16 ≤ length x) × (asked_in (take 16 x) ≡ Some asked) = option_front s x y asked keeps calm header is in
    let P : Bool → Type 0 = λ b. IsReaction answer after (if b then passed session asked else haggled exports session asked.option (take asked.length (drop 16 x))) in
    let made : IsReaction answer after (answer_to exports session asked x) = subst P (sym pass) reaction in (
      asked,
      (
        [],
        still,
        record { header = front.0; is = front.1; whole = λ read. absurd (true_false (sym pass ∙ read)) },
        made.0 ∙ sym (append-nil (answer_to exports session asked x).answer),
        (made.1, rest_passed s 16 asked.length y calm header ∙ ap (drop (16 + asked.length)) keeps, refl),
      ),
    )

-- or read
pub haggles_read : (exports : List Export) (session after : Session) (asked : Asked) (s u : Stream) (old known known' : Option (List ℕ)) (answer : List ℕ) → goes_on session.stage ≡ true → Keeps old (left s known) → s.unwanted ≡ 0 → 16 ≤ length s.heard → asked_in (take 16 s.heard) ≡ Some asked → is_passed asked ≡ false → Keeps (left (dropped 16 s) known) (left u known') → asked.length ≤ length u.heard → (0 < asked.length → u.unwanted ≡ 0) → IsReaction answer after (haggled exports session asked.option (take asked.length u.heard)) → Haggles exports session after old (left (dropped asked.length u) known') answer
haggles_read exports session after asked s u None known known' answer still keeps calm header is pass heard there quiet reaction = tt
haggles_read exports session after asked s u (Some x) None known' answer still keeps calm header is pass heard there quiet reaction = absurd keeps
haggles_read exports session after asked s u (Some x) (Some y) None answer still keeps calm header is pass heard there quiet reaction = absurd heard
haggles_read exports session after asked s u (Some x) (Some y) (Some z) answer still keeps calm header is pass heard there quiet reaction =
    let n : ℕ = asked.length in
    let front : (16 ≤ length x) × (asked_in (take 16 x) ≡ Some asked) = option_front s x y asked keeps calm header is in
    let behind : rest_of u z ≡ drop 16 x = heard ∙ rest_taken s 16 y calm header ∙ ap (drop 16) keeps in
    let text : take n u.heard ≡ take n (drop 16 x) = sym (calm_front u n z quiet there) ∙ ap (take n) behind in
    let P : List ℕ → Type 0 = λ l. IsReaction answer after (haggled exports session asked.option l) in
    let Q : Bool → Type 0 = λ b. IsReaction answer after (if b then passed session asked else haggled exports session asked.option (take n (drop 16 x))) in
    let made : IsReaction answer after (answer_to exports session asked x) = subst Q (sym pass) (subst P text reaction) in
    let R : List ℕ → Type 0 = λ l. n ≤ length l in
    let inside : n ≤ length (drop 16 x) = subst R behind (calm_longer u n z quiet there) in
    let less : length (drop 16 x) ≡ length x - 16 = length-drop 16 x in
    let long : 16 ≤ length x = front.0 in
    let whole : 16 + n ≤ length x = omega (arith, inside, less, long) in (
      asked,
      (
        [],
        still,
        record { header = front.0; is = front.1; whole = λ _. whole },
        made.0 ∙ sym (append-nil (answer_to exports session asked x).answer),
        (made.1, calm_taken u n z quiet there ∙ ap (drop n) behind ∙ drop-drop n 16 x, refl),
      ),
    )

-- no header is there
pub asks_no_header : (s : Stream) (old known : Option (List ℕ)) → Keeps old (left s known) → IfSome (left s known) (λ bytes. length bytes < 16) → AsksNone old
asks_no_header s None known keeps short = tt
asks_no_header s (Some x) None keeps short = absurd keeps
asks_no_header s (Some x) (Some y) keeps short = λ other next. (
    let P : List ℕ → Type 0 = λ l. length l < 16 in
    let few : length x < 16 = subst P keeps short in
    let header : 16 ≤ length x = next.header in
    absurd (omega (arith, few, header)))

-- or no data
pub asks_no_data : (asked : Asked) (s u : Stream) (old known known' : Option (List ℕ)) → Keeps old (left s known) → s.unwanted ≡ 0 → 16 ≤ length s.heard → asked_in (take 16 s.heard) ≡ Some asked → is_passed asked ≡ false → Keeps (left (dropped 16 s) known) (left u known') → IfSome (left u known') (λ bytes. length bytes < asked.length) → AsksNone old
asks_no_data asked s u None known known' keeps calm header is pass heard short = tt
asks_no_data asked s u (Some x) None known' keeps calm header is pass heard short = absurd keeps
asks_no_data asked s u (Some x) (Some y) None keeps calm header is pass heard short = absurd heard
asks_no_data asked s u (Some x) (Some y) (Some z) keeps calm header is pass heard short = λ other next. (
    let front : (16 ≤ length x) × (asked_in (take 16 x) ≡ Some asked) = option_front s x y asked keeps calm header is in
    let same : other ≡ asked = some_asked other asked (sym next.is ∙ front.1) in
    let behind : rest_of u z ≡ drop 16 x = heard ∙ rest_taken s 16 y calm header ∙ ap (drop 16) keeps in
    let P : List ℕ → Type 0 = λ l. length l < asked.length in
    let few : length (drop 16 x) < asked.length = subst P behind short in
    let less : length (drop 16 x) ≡ length x - 16 = length-drop 16 x in
    let Q : Asked → Type 0 = λ a. is_passed a ≡ false → 16 + a.length ≤ length x in
    let whole : 16 + asked.length ≤ length x = subst Q same next.whole pass in
    absurd (omega (arith, few, less, whole)))

-- ---- the client goes

left_stage : (stage : Stage) (rest : List ℕ) → goes_on stage ≡ true → ((asked : Asked) → IsOption asked rest → ⊥) → IsLeft stage rest
left_stage Opening rest still none = none
left_stage Haggling rest still none = none
left_stage (Serving place) rest still none = absurd (true_false (sym still))
left_stage Over rest still none = tt

-- no option is next
pub left_asking : (session : Session) (known : Option (List ℕ)) → goes_on session.stage ≡ true → AsksNone known → IfSome known (IsLeft session.stage)
left_asking session None still none = tt
left_asking session (Some rest) still none = left_stage session.stage rest still none

-- or the last one ended it
pub left_over : (session : Session) (known : Option (List ℕ)) → session.stage ≡ Over → IfSome known (IsLeft session.stage)
left_over session None over = tt
left_over session (Some rest) over = let P : Stage → Type 0 = λ s. IsLeft s rest in subst P (sym over) tt

gone : (exports : List Export) (after : Session) (old rest : Option (List ℕ)) (answers : List ℕ) → Came exports after old rest answers → IfSome rest (IsLeft after.stage) → IfSome old (λ bytes. IsLeftSession exports bytes (greeting ++ answers))
gone exports after None rest answers came left = tt
gone exports after (Some x) None answers came left = absurd came
gone exports after (Some x) (Some y) answers came left = inl (record { after = after; rest = y; answers = answers; haggled = came; left = left; are = refl })

pub left_gone : (exports : List Export) (after : Session) (old rest wrote writes : Option (List ℕ)) (answers : List ℕ) → Came exports after old rest answers → IfSome rest (IsLeft after.stage) → Appends wrote writes (greeting ++ answers) → Left exports old wrote writes
left_gone exports after old rest wrote writes answers came left told = record { said = greeting ++ answers; session = gone exports after old rest answers came left; told = told }

unopened : (exports : List Export) (old : Option (List ℕ)) → IfSome old (λ bytes. IsOpened bytes → ⊥) → IfSome old (λ bytes. IsLeftSession exports bytes greeting)
unopened exports None none = tt
unopened exports (Some x) none = inr (none, refl)

pub left_unopened : (exports : List Export) (old wrote writes : Option (List ℕ)) → IfSome old (λ bytes. IsOpened bytes → ⊥) → Appends wrote writes greeting → Left exports old wrote writes
left_unopened exports old wrote writes none told = record { said = greeting; session = unopened exports old none; told = told }

-- more is said
pub told_more : (wrote middle writes : Option (List ℕ)) (said answer : List ℕ) → Appends wrote middle (greeting ++ said) → Appends middle writes answer → Appends wrote writes (greeting ++ (said ++ answer))
told_more wrote middle writes said answer first second =
    let P : List ℕ → Type 0 = λ l. Appends wrote writes l in
    subst P (append_assoc greeting said answer) (Appends-trans wrote middle writes (greeting ++ said) answer first second)

-- which of two facts a test gave
pub gave_true : (A B : Type 0) (b : Bool) → b ≡ true → MatchBool b A B → A
gave_true A B true is fact = fact
gave_true A B false is fact = absurd (true_false (sym is))

pub gave_false : (A B : Type 0) (b : Bool) → b ≡ false → MatchBool b A B → B
gave_false A B true is fact = absurd (true_false is)
gave_false A B false is fact = fact
