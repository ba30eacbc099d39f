-- The laws of a link, each as one statement.
use Rattle.std.specs.Prelude.{◌≡◌, ℕ, ◌-◌, Bool, false, true, List, [], ◌∷◌, ◌++◌, length, if◌then◌else◌}
use Rattle.resp_value.specs.Data.{Data}
use Rattle.resp_read.specs.Values.{values}
use Rattle.driver_model.specs.declared.action.Owner.{Owner}
use Rattle.driver_model.specs.declared.action.Owner.TheVariants as owner
use Rattle.driver_model.specs.declared.hearing.Hearing.{Hearing}
use Rattle.driver_model.specs.declared.hearing.Hearing.TheVariants as hearing
use Rattle.driver_model.specs.Config.{bare_info}
use Rattle.driver_model.specs.Hearing.{is_watching}
use Rattle.driver_model.specs.Setup.{says_nothing}
use Rattle.connection_info.specs.declared.address.RedisConnectionInfo.{RedisConnectionInfo}
use Rattle.connection_setup.specs.Setup.{setup}
use Rattle.link_core.specs.declared.message.Settled.{Settled}
use Rattle.link_core.specs.declared.message.Started.{Started}
use Rattle.link_core.specs.Dealing.{noticed_behind, taking_in, taken_each}
use Rattle.link_core.specs.Link.{LinkState, Starting, Settling, Reading, piece_read}
use Rattle.link_core.specs.Row.{lack_of_row}
use Rattle.link_core.specs.Waiting.{without}
use Rattle.legal_trace.specs.Ledger.{Heard, is_set_up, ledger, monitor_message, reach}
use Rattle.std.specs.List.{AllByRecursion}
use Rattle.link_laws.specs.Greetings.{setup_start, greeting_link, greeting_ledger, IsBehind, HearAlike}
use Rattle.link_laws.specs.Alike.{SameLink, SameStarting, SameSettling, SameReading, SetsUp, others, told}
use Rattle.link_laws.specs.Pieces.{taken_by}
use Rattle.link_laws.specs.Notices.{SayTheSame, AreApart}
use Rattle.link_laws.specs.Runs.{Operation, read, withdraw, Run, performed, run, answered_or_wanted, line_with, wanted_first, wanted_by, is_withdraw, is_read}
use Rattle.link_laws.specs.Settles.{settled_ids, awaited_of}

-- links that are alike but for one message's own verdict are so after this call
abbrev pub KeepsAlike : (LinkState → LinkState) → Type 0
KeepsAlike call = (id : ℕ) (s t : LinkState) → SameLink id s t → SameLink id (call s) (call t)

-- and so are they, and what starts, after this one
abbrev pub StartsAlike : (Starting → Starting) → Type 0
StartsAlike call =
    (id : ℕ) (s t : LinkState) (out : List Started) → SameLink id s t
    → SameStarting id (call (record { link = s; out = out })) (call (record { link = t; out = out }))

-- and so are they, and all other verdicts, after this one
abbrev pub SettlesAlike : (Settling → Settling) → Type 0
SettlesAlike call =
    (id : ℕ) (s t : LinkState) (out out' : List Settled) → SameLink id s t → others id out ≡ others id out'
    → SameSettling id (call (record { link = s; out = out })) (call (record { link = t; out = out' }))

-- so are links that are set up, or are being set up by a message whose verdict is wanted, and what is told, in order, with bytes
abbrev pub ReadsAlike : (LinkState → Reading) → Bool → Type 0
ReadsAlike call ready =
    (id : ℕ) (s t : LinkState) → SameLink id s t → SetsUp ready t.row
    → SameReading id (call s) (call t) × (told (call s).notices ≡ told (call t).notices)

-- and all links are, on which neither messages are heard nor the server is put into monitor mode, but for what is told before they
-- are set up
abbrev pub ReadsItemsAlike : (LinkState → Reading) → Type 0
ReadsItemsAlike call = (id : ℕ) (s t : LinkState) → SameLink id s t → SameReading id (call s) (call t)

-- until a link ends, its started messages lack as many items as the starts take and were not dealt
abbrev pub LackWhatWasNotDealt : Run → Type 0
LackWhatWasNotDealt r =
    r.over ≡ false
    → lack_of_row r.link.row ≡ reach (ledger r.lines).starts (ledger r.lines).dealt - length (ledger r.lines).dealt

-- the messages that were settled, and then those whose verdict is wanted, stand in one line: a message joins it at its end, or,
-- where it starts at once, before all that wait for their start; and no operation but a withdrawal moves anyone out of it
abbrev pub OneLine : Type 0
OneLine =
    (name : ℕ → Owner) (r : Run) (op : Operation) → is_withdraw op ≡ false
    → answered_or_wanted (performed name r op) ≡ line_with r (wanted_first r op) (wanted_by r op)

-- what ends a link settles all whose verdict is wanted, in order
abbrev pub EndSettlesAll : Type 0
EndSettlesAll =
    (name : ℕ → Owner) (r : Run) (op : Operation) → r.over ≡ false → (performed name r op).over ≡ true
    → settled_ids (performed name r op).settled ≡ settled_ids r.settled ++ awaited_of r.link

-- what is told of a value stands behind as many messages as the values before it, in the same bytes, settled; and so it is what
-- becomes of that value there. Behind a value that ends the link nothing is read
abbrev pub NoticeStandsBehind : Type 0
NoticeStandsBehind =
    (h : Hearing) (ready : Bool) (s : LinkState) (piece : List ℕ) (before after : List Data) (v : Data) → s.broken ≡ false
    → values (s.rest ++ piece) ≡ before ++ v ∷ after
    → (let d = taken_by h ready s before in
    let e = taken_by h ready s (before ++ v ∷ []) in
    (piece_read h ready s piece).notices
    ≡ d.notices ++ (if d.strange then [] else noticed_behind (length d.out) (taking_in h ready d v).told) ++ (taken_each h ready (record e { notices = [] }) after).notices)

-- what a link tells with bytes is what its ledger hears then, in order; and each notice stands among the messages that these
-- bytes settle where it came: behind those that were full before it, and before the others. Whether a value ends the link is the
-- same of both
pub record NoticesAreHeard (name : ℕ → Owner) (r : Run) (piece : List ℕ) : Type 0 where
  pub heard : List Heard
  pub notices : (ledger (performed name r (read piece)).lines).notices ≡ (ledger r.lines).notices ++ heard
  pub same : SayTheSame (piece_read r.hearing true r.link piece).notices heard
  pub apart : (let x = piece_read r.hearing true r.link piece in AreApart name (ledger (performed name r (read piece)).lines) x.notices heard 0 x.out)
  pub strange : (ledger (performed name r (read piece)).lines).strange ≡ (piece_read r.hearing true r.link piece).strange

-- so it is until the link ends, whatever was done with it
abbrev pub EachNoticeIsHeard : Type 0
EachNoticeIsHeard =
    (name : ℕ → Owner) (h : Hearing) (size boundary : ℕ) (ops : List Operation) (piece : List ℕ) → (run name h size boundary ops).over ≡ false
    → NoticesAreHeard name (run name h size boundary ops) piece

-- and no other operation lets the ledger hear anything
abbrev pub NothingElseIsHeard : Type 0
NothingElseIsHeard =
    (name : ℕ → Owner) (r : Run) (op : Operation) → is_read op ≡ false
    → (ledger (performed name r op).lines).notices ≡ (ledger r.lines).notices

-- the message has left the queue
abbrev pub HasLeft : ℕ → Run → Type 0
HasLeft id r = without r.link.queue id ≡ r.link.queue

-- one withdrawal more, of a message that has left the queue, changes nothing of what is told of the link
abbrev pub WithdrawalIsNotTold : Type 0
WithdrawalIsNotTold =
    (name : ℕ → Owner) (h : Hearing) (size boundary id : ℕ) (ops more : List Operation) → HasLeft id (run name h size boundary ops)
    → (run name h size boundary (ops ++ more)).lines ≡ (run name h size boundary (ops ++ withdraw id ∷ more)).lines

-- and nothing of what the link settles but that message's own verdict
abbrev pub WithdrawalSparesOthers : Type 0
WithdrawalSparesOthers =
    (name : ℕ → Owner) (h : Hearing) (size boundary id : ℕ) (ops more : List Operation) → HasLeft id (run name h size boundary ops)
    → others id (run name h size boundary (ops ++ more)).settled
    ≡ others id (run name h size boundary (ops ++ withdraw id ∷ more)).settled

-- what a link tells whose setup isn't answered stands behind the answer; where the setup is answered well with these bytes, it is
-- what the ledger hears, and else the ledger hears nothing
abbrev pub SetupIsHeard : Type 0
SetupIsHeard =
    (name : ℕ → Owner) (h : Hearing) (info : RedisConnectionInfo) (size boundary id : ℕ) (piece : List ℕ) → name id ≡ owner.Setup
    → is_watching h ≡ false → says_nothing (setup info true) ≡ false
    → (let s = setup_start info in
    let l = greeting_ledger h info s piece in
    let r = piece_read h false (greeting_link size boundary id s) piece in
    AllByRecursion IsBehind r.notices × (is_set_up l ≡ true → HearAlike name l r) × (is_set_up l ≡ false → (l.notices ≡ []) × (l.strange ≡ false)))

-- and what a link tells whose MONITOR isn't answered stands behind the answer, and is what the ledger hears
abbrev pub MonitorIsHeard : Type 0
MonitorIsHeard =
    (name : ℕ → Owner) (size boundary id : ℕ) (piece : List ℕ) → name id ≡ owner.Monitor
    → (let s = monitor_message in
    let l = greeting_ledger hearing.Monitor bare_info s piece in
    let r = piece_read hearing.Monitor false (greeting_link size boundary id s) piece in
    AllByRecursion IsBehind r.notices × HearAlike name l r)
