-- The events of scripts are events that their types hold, and their submissions have forms.
use Rattle.std.proofs.Common.{◌≡◌, ℕ, ◌<◌, ◌≤◌, ◌^◌, false, List, [], ◌∷◌, All, Option, Some, None, IfSome, bytes_eq, codes, drop, option_map, refl, arith}
use Rattle.std.proofs.lemmas.List.Elements.{All-cons, All-head, All-tail}
use Rattle.driver_model.specs.declared.kind.SessionKind.{SessionKind}
use Rattle.driver_model.specs.declared.kind.SessionKind.TheVariants as kind
use Rattle.driver_model.specs.declared.event.Event.{Event}
use Rattle.driver_model.specs.declared.event.EventKind.{EventKind}
use Rattle.driver_model.specs.declared.event.EventKind.TheVariants.{Submit, Cancel, Connected, Refused, Wrote, Bytes, Ended, ReadFault, WriteFault, Fired, Creds, CredsError, CredsEnd, Timeout, DropStream, Shutdown}
use Rattle.driver_model.specs.declared.event.Submission.{Submission}
use Rattle.driver_model.specs.declared.event.Submission.TheVariants.{Packed, Subscription}
use Rattle.resp_write.specs.declared.subscription.SubscriptionAction.{SubscriptionAction}
use Rattle.resp_write.specs.declared.subscription.SubscriptionAction.TheVariants as action
use Rattle.driver_model.specs.Request.{is_single_nameless, is_sharded, has_no_form}
use Rattle.redis_error.specs.declared.fault_kind.FaultKind.{FaultKind}
use Rattle.script_text.specs.Numbers.{number, max_u32, max_u64, time_limit}
use Rattle.script_text.specs.Words.{LineWords}
use Rattle.script_text.specs.Draws.{is_draw, drawn}
use Rattle.script_text.specs.EventLine.{Forms, by_first, whole, numbered, wrote, came, authorized, denied, timed, alone, faults, fault_among, failed, commands, packed, pinged, calls, requests, submissions, others, events, drawing, event_of}
use Rattle.containers.proofs.Choices.{chosen}
use Rattle.text_laws.specs.Fits.{AreBytes, FitsCommands, FitsSubmission, FitsNumber, FitsLimit, FitsKind, FitsEvent, HasForm}
use Rattle.text_laws.proofs.Held.{mapped, then_read, any_read, number_within}

-- the words of a line are bytes
pub record IsByteLine (line : LineWords) : Type 0 where
  pub words : All AreBytes line.words
  pub more : All (All AreBytes) line.more

-- what is read of words that are bytes
abbrev pub Reads : {A : Type 0} → (A → Type 0) → (List (List ℕ) → Option A) → Type 0
Reads P read = (words : List (List ℕ)) → All AreBytes words → IfSome (read words) P

-- what is read of them and of those behind separators
abbrev pub ReadsAll : {A : Type 0} → (A → Type 0) → (List (List ℕ) → List (List (List ℕ)) → Option A) → Type 0
ReadsAll P read = (words : List (List ℕ)) (more : List (List (List ℕ))) → All AreBytes words → All (All AreBytes) more → IfSome (read words more) P

abbrev pub AllRead : {A : Type 0} → (A → Type 0) → Forms A → Type 0
AllRead P [] = Unit {0}
AllRead P (form ∷ forms) = ReadsAll P form.1 × AllRead P forms

pub by_form : {A : Type 0} (P : A → Type 0) (forms : Forms A) → AllRead P forms → ReadsAll P (by_first forms)
by_form P [] each [] more small behind = tt
by_form P [] each (first ∷ rest) more small behind = tt
by_form P (form ∷ forms) each [] more small behind = tt
by_form P (form ∷ forms) each (first ∷ rest) more small behind =
    chosen (λ o. IfSome o P) (bytes_eq first form.0) (form.1 rest more) (by_first forms (first ∷ rest) more)
    (λ t. each.0 rest more (All-tail AreBytes first rest small) behind) (λ f. by_form P forms each.1 (first ∷ rest) more small behind)

pub whole_fits : {A : Type 0} (P : A → Type 0) (read : List (List ℕ) → Option A) → Reads P read → ReadsAll P (whole read)
whole_fits P read each words [] small behind = each words small
whole_fits P read each words (next ∷ more) small behind = tt

small_number : (word : List ℕ) → IfSome (number max_u32 word) (λ n. n ≤ max_u32)
small_number word = number_within max_u32 word

number_fits : (o : Option ℕ) → IfSome o (λ n. n ≤ max_u64) → FitsLimit (option_map Some o)
number_fits None within = tt
number_fits (Some n) within = omega (arith, within)

-- a time is one that its type holds
pub time_fits : (value : List ℕ) → FitsLimit (time_limit value)
time_fits value =
    chosen FitsLimit (bytes_eq value (codes "none")) (Some None) (option_map Some (number max_u64 value)) (λ t. tt) (λ f. number_fits (number max_u64 value) (number_within max_u64 value))

-- commands that their type holds, and that are no single nameless one
abbrev SaidCommands : List (List (List ℕ)) → Type 0
SaidCommands commands = FitsCommands commands × (is_single_nameless commands ≡ false)

-- a submission that its type holds, and for which a session of this kind has a form
abbrev SaidSubmission : SessionKind → Submission → Type 0
SaidSubmission session s = FitsSubmission s × (has_no_form session s ≡ false)

abbrev SaidKind : SessionKind → EventKind → Type 0
SaidKind session kind = FitsKind kind × HasForm session kind

-- an event that its type holds, and for whose submission a session of this kind has a form
abbrev pub SaidEvent : SessionKind → Event → Type 0
SaidEvent session e = FitsEvent e × HasForm session e.kind

-- what is read of the words of a line, whatever the session is
module _ (session : SessionKind) where
  abbrev Said : EventKind → Type 0
  Said = SaidKind session

  one_number : (f : ℕ → EventKind) → ((n : ℕ) → n < 2 ^ 32 → Said (f n)) → Reads Said (numbered f)
  one_number f fits [] small = tt
  one_number f fits (word ∷ []) small = mapped (λ n. n ≤ max_u32) Said f (λ n l. fits n (omega arith)) (number max_u32 word) (small_number word)
  one_number f fits (word ∷ next ∷ rest) small = tt

  wrote_fits : Reads Said wrote
  wrote_fits [] small = tt
  wrote_fits (link ∷ []) small = tt
  wrote_fits (link ∷ count ∷ []) small =
      then_read (λ l. l ≤ max_u32) Said (λ l. option_map (Wrote l) (number max_u64 count))
      (λ l within. mapped (λ n. n ≤ max_u64) Said (Wrote l) (λ n few. ((omega arith, omega arith), tt)) (number max_u64 count) (number_within max_u64 count))
      (number max_u32 link) (small_number link)
  wrote_fits (link ∷ count ∷ next ∷ rest) small = tt

  came_fits : Reads Said came
  came_fits [] small = tt
  came_fits (link ∷ []) small = tt
  came_fits (link ∷ piece ∷ []) small =
      mapped (λ l. l ≤ max_u32) Said (λ l. Bytes l piece) (λ l within. ((omega arith, All-head AreBytes piece [] (All-tail AreBytes link (piece ∷ []) small)), tt)) (number max_u32 link) (small_number link)
  came_fits (link ∷ piece ∷ next ∷ rest) small = tt

  authorized_fits : Reads Said authorized
  authorized_fits [] small = tt
  authorized_fits (source ∷ []) small = tt
  authorized_fits (source ∷ user ∷ []) small = tt
  authorized_fits (source ∷ user ∷ password ∷ []) small =
      let texts = All-tail AreBytes source (user ∷ password ∷ []) small in
      mapped (λ c. c ≤ max_u32) Said (λ c. Creds c (record { username = user; password = password }))
      (λ c within. ((omega arith, All-head AreBytes user (password ∷ []) texts, All-head AreBytes password [] (All-tail AreBytes user (password ∷ []) texts)), tt)) (number max_u32 source) (small_number source)
  authorized_fits (source ∷ user ∷ password ∷ next ∷ rest) small = tt

  denied_fits : Reads Said denied
  denied_fits [] small = tt
  denied_fits (source ∷ []) small = tt
  denied_fits (source ∷ text ∷ []) small =
      mapped (λ c. c ≤ max_u32) Said (λ c. CredsError c text) (λ c within. ((omega arith, All-head AreBytes text [] (All-tail AreBytes source (text ∷ []) small)), tt)) (number max_u32 source) (small_number source)
  denied_fits (source ∷ text ∷ next ∷ rest) small = tt

  timed_fits : Reads Said timed
  timed_fits [] small = tt
  timed_fits (value ∷ []) small = mapped (FitsNumber (2 ^ 64)) Said Timeout (λ ms fits. (fits, tt)) (time_limit value) (time_fits value)
  timed_fits (value ∷ next ∷ rest) small = tt

  alone_fits : (kind : EventKind) → Said kind → Reads Said (alone kind)
  alone_fits kind said [] small = said
  alone_fits kind said (word ∷ words) small = tt

  failed_fits : (f : ℕ → FaultKind → EventKind) → ((l : ℕ) (kind : FaultKind) → l < 2 ^ 32 → Said (f l kind)) → Reads Said (failed f)
  failed_fits f fits [] small = tt
  failed_fits f fits (link ∷ []) small = tt
  failed_fits f fits (link ∷ kind ∷ []) small =
      then_read (λ l. l ≤ max_u32) Said (λ l. option_map (f l) (fault_among faults kind))
      (λ l within. mapped (λ _. Unit {0}) Said (f l) (λ k any. fits l k (omega arith)) (fault_among faults kind) (any_read (fault_among faults kind)))
      (number max_u32 link) (small_number link)
  failed_fits f fits (link ∷ kind ∷ next ∷ rest) small = tt

  plain : (read : List (List ℕ) → Option EventKind) → Reads Said read → ReadsAll Said (whole read)
  plain = whole_fits Said

  others_fit : AllRead Said others
  unfolding others
  others_fit = (
    plain _ (one_number Cancel (λ n l. (l, tt))),
    (
      plain _ (one_number Connected (λ n l. (l, tt))),
      (
        plain _ (failed_fits Refused (λ l kind small. (small, tt))),
        (
          plain _ wrote_fits,
          (
            plain _ came_fits,
            (
              plain _ (one_number Ended (λ n l. (l, tt))),
              (
                plain _ (failed_fits ReadFault (λ l kind small. (small, tt))),
                (plain _ (failed_fits WriteFault (λ l kind small. (small, tt))), (plain _ (one_number Fired (λ n l. (l, tt))), (plain _ authorized_fits, (plain _ denied_fits, (plain _ (one_number CredsEnd (λ n l. (l, tt))), (plain _ timed_fits, (plain _ (alone_fits DropStream (tt, tt)), (plain _ (alone_fits Shutdown (tt, tt)), tt)))))))),
              ),
            ),
          ),
        ),
      ),
    ),
  )

-- a line of commands is never a single nameless one
commands_fit : (first : List (List ℕ)) (more : List (List (List ℕ))) → All AreBytes first → All (All AreBytes) more → SaidCommands (commands first more)
commands_fit [] [] small behind = (behind, refl)
commands_fit [] (next ∷ more) small behind = (All-cons (All AreBytes) [] (next ∷ more) small behind, refl)
commands_fit (word ∷ words) more small behind = (All-cons (All AreBytes) (word ∷ words) more small behind, refl)

packed_fits : ReadsAll (SaidSubmission kind.Single) packed
packed_fits [] more small behind = tt
packed_fits (offset ∷ []) more small behind = tt
packed_fits (offset ∷ count ∷ first) more small behind =
    let fits = commands_fit first more (All-tail AreBytes count first (All-tail AreBytes offset (count ∷ first) small)) behind in
    then_read (λ o. o ≤ max_u32) (SaidSubmission kind.Single) (λ o. option_map (λ c. Packed o c (commands first more)) (number max_u32 count))
    (λ o within. mapped (λ c. c ≤ max_u32) (SaidSubmission kind.Single) (λ c. Packed o c (commands first more)) (λ c few. ((omega arith, omega arith, fits.0), fits.1)) (number max_u32 count) (small_number count))
    (number max_u32 offset) (small_number offset)

-- the subscription calls of a session that has them
calls_fit : (session : SessionKind) → ((what : SubscriptionAction) (names : List (List ℕ)) → is_sharded what ≡ false → has_no_form session (Subscription what names) ≡ false) → AllRead (SaidSubmission session) calls
unfolding calls
calls_fit session has = (
  whole_fits (SaidSubmission session) _ (λ names each. (each, has action.Subscribe names refl)),
  (
    whole_fits (SaidSubmission session) _ (λ names each. (each, has action.Unsubscribe names refl)),
    (
      whole_fits (SaidSubmission session) _ (λ names each. (each, has action.PSubscribe names refl)),
      (whole_fits (SaidSubmission session) _ (λ names each. (each, has action.PUnsubscribe names refl)), tt),
    ),
  ),
)

pinged_fits : Reads (SaidSubmission kind.PubSub) pinged
pinged_fits [] small = (tt, refl)
pinged_fits (message ∷ []) small = (All-head AreBytes message [] small, refl)
pinged_fits (message ∷ next ∷ more) small = tt

requests_fit : AllRead (SaidSubmission kind.Single) requests
requests_fit =
    let said = SaidSubmission kind.Single in
    (whole_fits said _ (λ args each. (each, refl)), (whole_fits said _ (λ args each. (each, refl)), (commands_fit, (commands_fit, (packed_fits, calls_fit kind.Single (λ what names is. is))))))

submissions_fit : (session : SessionKind) → AllRead (SaidSubmission session) (submissions session)
submissions_fit kind.Single = requests_fit
submissions_fit (kind.Manager lazy) = requests_fit
submissions_fit kind.PubSub = (whole_fits (SaidSubmission kind.PubSub) pinged pinged_fits, calls_fit kind.PubSub (λ what names is. is))
submissions_fit kind.Monitor = tt

submitted_fits : (session : SessionKind) → ReadsAll (SaidKind session) (λ words more. option_map Submit (by_first (submissions session) words more))
submitted_fits session words more small behind =
    mapped (SaidSubmission session) (SaidKind session) Submit (λ s fits. fits) (by_first (submissions session) words more) (by_form (SaidSubmission session) (submissions session) (submissions_fit session) words more small behind)

-- a word of draws of 64 bits, and words that are bytes
abbrev pub FitsDrawn : ℕ × List (List ℕ) → Type 0
FitsDrawn d = (d.0 < 2 ^ 64) × All AreBytes d.1

pub drawn_fits : (words : List (List ℕ)) → All AreBytes words → IfSome (drawn words) FitsDrawn
drawn_fits [] small = (omega arith, small)
drawn_fits (word ∷ words) small =
    let read = number max_u64 (drop 1 word) in
    chosen (λ o. IfSome o FitsDrawn) (is_draw word) (option_map (λ n. (n, words)) read) (Some (0, word ∷ words))
    (λ t. mapped (λ n. n ≤ max_u64) FitsDrawn (λ n. (n, words)) (λ n within. (omega (arith, within), All-tail AreBytes word words small)) read (number_within max_u64 (drop 1 word)))
    (λ f. (omega arith, small))

pub event_fits : (session : SessionKind) (line : LineWords) → IsByteLine line → IfSome (event_of session line) (SaidEvent session)
unfolding event_of
event_fits session line small =
    then_read FitsDrawn (SaidEvent session) (λ d. option_map (drawing d.0) (by_first (events session) d.1 line.more))
    (λ d held. mapped (SaidKind session) (SaidEvent session) (drawing d.0) (λ kind fits. (record { word = held.0; kind = fits.0 }, fits.1)) (by_first (events session) d.1 line.more)
    (by_form (SaidKind session) (events session) (submitted_fits session, others_fit session) d.1 line.more held.1 small.more))
    (drawn line.words) (drawn_fits line.words small.words)
