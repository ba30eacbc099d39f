-- What a submission does next whose message hasn't started: the wait that is true of it, or its next step.
use Rattle.std.specs.Prelude.{ℕ, zero, suc, ◌+◌, ◌-◌, ◌==◌, nat_lt, nat_le, min, Bool, true, false, ◌&&◌, ◌||◌, not, Option, None, Some, is_none, is_some, length, if◌then◌else◌}
use Rattle.driver_model.specs.declared.action.WaitKind.{WaitKind}
use Rattle.driver_model.specs.declared.action.WaitKind.TheVariants as wait
use Rattle.driver_model.specs.declared.config.Config.{Config}
use Rattle.driver_model.specs.Config.{permits, buffer_size, boundary}
use Rattle.driver_model.specs.Shape.{permits_for}
use Rattle.legal_trace.specs.Ledger.{Ledger, dials, is_served, is_set_up, lacks_credentials, renewal_due, unwritten}
use Rattle.legal_trace.specs.Story.{Story, has_place, is_awaited, is_told, is_unstarted, shape}
use Rattle.legal_trace.specs.Book.{Book, has_generations}

-- it waits; its round begins; it takes so many permits; a timer of so many milliseconds is asked for it; it is answered with Nil at its place;
-- its message starts; nothing, since its link has ended
pub data Step : Type 0 where
  waits : WaitKind → Step
  rounds : Step
  takes : ℕ → Step
  asks : ℕ → Step
  tells : Step
  starts : Step
  nothing : Step

-- whether a step is to be made
abbrev pub is_due : Step → Bool
is_due (waits kind) = false
is_due rounds = true
is_due (takes count) = true
is_due (asks ms) = true
is_due tells = true
is_due starts = true
is_due nothing = false

-- what the configuration says, once it is told
abbrev pub configured : (Config → ℕ) → Option Config → ℕ
configured f None = 0
configured f (Some config) = f config

-- how many messages the queue of a link holds
abbrev pub queue_size : Book → ℕ
queue_size b = configured buffer_size b.config

-- bytes of the link are unwritten, and as many as this boundary: no message starts on it
abbrev pub is_held : ℕ → Ledger → Bool
is_held bound l = nat_lt 0 (length (unwritten l)) && nat_le bound (length (unwritten l))

-- so it is in this book
abbrev pub is_held_back : Book → Ledger → Bool
is_held_back b l = is_held (configured boundary b.config) l

-- how many permits the connection has, if they are counted
abbrev pub permits_in : Option Config → Option ℕ
permits_in None = None
permits_in (Some config) = permits config

-- the permits of a connection that a submission of link l holds
abbrev pub permits_on : ℕ → Story → ℕ
permits_on l s = if s.link == l then s.permits else 0

-- and those that the first n submissions hold
abbrev pub permits_held : (ℕ → Story) → ℕ → ℕ → ℕ
permits_held story l zero = 0
permits_held story l (suc n) = permits_held story l n + permits_on l (story n)

-- how many of so many permits nobody holds
abbrev pub free_permits : Book → ℕ → ℕ → ℕ
free_permits b l limit = limit - permits_held b.story l b.submissions

-- it holds its permits, where they are counted, and its timer was asked for, where it is to be answered within a time
abbrev pub is_let_in : Option ℕ → Story → Bool
is_let_in limit s = (is_none limit || nat_lt 0 s.permits) && (is_none s.timeout || is_some s.clock)

-- it stands in line for a place of that link: it was told at one, or may take one
abbrev pub is_in_line : Option ℕ → ℕ → Story → Bool
is_in_line limit l s = (s.link == l) && (is_unstarted s && (is_told s || is_let_in limit s))

-- how many of the first n submissions stand in line for link l
abbrev pub line_before : Option ℕ → (ℕ → Story) → ℕ → ℕ → ℕ
line_before limit story l zero = 0
line_before limit story l (suc n) = line_before limit story l n + (if is_in_line limit l (story n) then 1 else 0)

-- new credentials that are to be told and have not started stand in line on their link, before all submissions that take a place from then on
abbrev pub renewals_in_line : Ledger → ℕ
renewals_in_line l = if is_some (renewal_due l) then 1 else 0

-- as many stand in line before submission n as the queue of its link holds, so that it has no place; one that has its place keeps
-- it, also where new credentials come then
abbrev pub is_outside : Book → ℕ → Bool
is_outside b n =
    not (has_place (b.story n))
    && nat_le (queue_size b) (renewals_in_line (b.link (b.story n).link) + line_before (permits_in b.config) b.story (b.story n).link n)

-- a message that has its place starts, or waits while its link is held back
abbrev pub starts_or_waits : Bool → Step
starts_or_waits true = waits wait.Room
starts_or_waits false = starts

-- of one that may take a place: whether it stands outside, is awaited, and whether the link is held back
abbrev pub step_placed : Bool → Bool → Bool → Step
step_placed true awaited held = waits wait.Place
step_placed false true held = starts_or_waits held
step_placed false false held = tells

-- of one that holds its permits: its timer is asked for, if it is to be answered within a time, and then it comes to its place
abbrev pub step_timed : Option ℕ → Option ℕ → Step → Step
step_timed None clock next = next
step_timed (Some ms) None next = asks ms
step_timed (Some ms) (Some t) next = next

-- it takes permits where some are free, of so many, and else waits for one
abbrev pub step_taking : ℕ → ℕ → Step
step_taking zero most = waits wait.Permit
step_taking (suc free) most = takes (min (suc free) most)

-- of one on a link that is up: where permits are counted it takes some first, if it holds none
abbrev pub step_holding : Option ℕ → ℕ → (ℕ → Step) → Step → Step
step_holding None held taking next = next
step_holding (Some limit) zero taking next = taking limit
step_holding (Some limit) (suc held) taking next = next

-- where rounds are shown, and whether that of this one was: it begins before all else
abbrev pub step_rounding : Bool → Bool → Step → Step
step_rounding true false next = rounds
step_rounding true true next = next
step_rounding false rounded next = next

-- whether it was told, and what else it does
abbrev pub step_open : Bool → Bool → Step → Step
step_open true held next = starts_or_waits held
step_open false held next = next

-- on a link that is set up what is subscribed again there is to be answered first
abbrev pub step_served : Bool → Step → Step
step_served true next = next
step_served false next = waits wait.Resubscribe

-- what is waited for on a link that is up and not set up
abbrev pub unready_wait : Ledger → WaitKind
unready_wait l = if lacks_credentials l then wait.Creds else wait.Setup

-- the next step of a submission on a link that is set up
abbrev pub step_ready : Book → ℕ → Story → Step
step_ready b n s =
    let held = is_held_back b (b.link s.link) in
    step_served (is_served (b.link s.link)) (step_open (is_told s) held
    (step_rounding (has_generations b) s.rounded
    (step_holding (permits_in b.config) s.permits (λ limit. step_taking (free_permits b s.link limit) (permits_for (shape s) limit))
    (step_timed s.timeout s.clock (step_placed (is_outside b n) (is_awaited s) held)))))

-- and on one that isn't up: nothing where it has ended, and until it is asked for the submission waits for that
abbrev pub step_down : Bool → Step
step_down true = nothing
step_down false = waits wait.Backoff

-- the next step of submission n
abbrev pub next_step : Book → ℕ → Step
next_step b n =
    let s = b.story n in
    let l = b.link s.link in
    if dials l then waits wait.Connect
    else if l.up then (if is_set_up l then step_ready b n s else waits (unready_wait l))
    else step_down l.asked

-- a place that was taken in a turn before that one
abbrev pub is_taken_before : ℕ → Option ℕ → Bool
is_taken_before turn None = false
is_taken_before turn (Some place) = nat_lt place turn

-- submission n is ahead of the new credentials of link l: it took its place there in a turn before they became due, and makes a step
abbrev pub is_ahead : Book → ℕ → ℕ → Bool
is_ahead b l n = is_taken_before (b.since l) (b.placed n) && (((b.story n).link == l) && (is_unstarted (b.story n) && is_due (next_step b n)))

-- one of the first n numbers is such a one
abbrev pub any_below : (ℕ → Bool) → ℕ → Bool
any_below which zero = false
any_below which (suc n) = any_below which n || which n

-- new credentials of link l wait where it is held back, or somebody is ahead of them
abbrev pub is_renewal_held : Book → ℕ → Bool
is_renewal_held b l = is_held_back b (b.link l) || any_below (is_ahead b l) b.submissions
