-- How far the setup of a link has come: what it stands on, and what it is to the end of the link.
use Rattle.std.proofs.Common.{◌≡◌, ◌≢◌, inl, inr, ℕ, Bool, true, false, ◌&&◌, not, if◌then◌else◌, List, [], ◌++◌, take, Option, None, Some, refl, sym, ap, ◌∙◌, subst, ◌⊎◌, ◌||◌}
use Rattle.containers.proofs.Choices.{by_test, chosen, taken_if, left_if, if_false, both_left, both_right, not_both}
use Rattle.redis_error.specs.declared.redis_error.RedisError.{RedisError}
use Rattle.redis_error.specs.declared.redis_error.RedisError.TheVariants as error
use Rattle.connection_info.specs.declared.address.RedisConnectionInfo.{RedisConnectionInfo}
use Rattle.connection_setup.specs.declared.judgement.SetupResult.TheVariants.{Failed}
use Rattle.driver_model.specs.declared.action.Owner.TheVariants as owner
use Rattle.driver_model.specs.News.{News, silence, connected, refused, overdue, took, came, failed, authorized, denied, deserted, shut, renewed, unrenewed, late, unrepeated, dropped}
use Rattle.link_core.specs.Link.{LinkState}
use Rattle.link_laws.proofs.TiedLink.{TiedLink}
use Rattle.mux_conn.specs.declared.life.Greeting.{Greeting}
use Rattle.mux_conn.specs.declared.life.Life.{Life}
use Rattle.mux_conn.specs.declared.life.Life.TheVariants.{Resting, Dialing, Wanting, SettingUp, Ready, Ended}
use Rattle.mux_conn.specs.declared.request.Request.{Request}
use Rattle.legal_trace.specs.Ledger.{Ledger, End, Ending, by_opening, hears, noted, authorized_by, awaits_credentials, is_over, dials, refused_in, bytes_came, ending, ending_up, ending_asked, ending_unready, ending_by, ending_alive, error_in, is_well, is_set_up, is_ready, lacks_credentials, setup_after, setup_result, is_renewal_open, lost_by, may_renew, renewed_by, unrenewed_by, source_due, is_unreadable, opening_error, by_fault, Heard, is_fault, lasting, is_repeating, unrepeated_by, is_served}
use Rattle.legal_trace.proofs.Setups.{ends_where_set, ungreeted_is_unset}
use Rattle.legal_trace.proofs.Endings.{lasting_is_fault}
use Rattle.conn_laws.proofs.Links.Creds.{down_unawaited, unawaited_is, wanting_lacks, down_may_renew, down_sourced, asked_sourced, has_sourced, ready_sourced}
use Rattle.conn_laws.proofs.Links.SetUp.{not_set_up, lacking_unset, IsUnset}
use Rattle.conn_laws.proofs.Links.Server.{AreSought, HasSaid, TiedSetup, IsGreeting, hearing_at}
use Rattle.conn_laws.proofs.Ties.Tied.{TiedLife, carried, owner_of, whole_link, TiedNotices, greeter, is_reading}
use Rattle.credentials.specs.Credentials.{Credentials}
use Rattle.conn_laws.proofs.Links.SameSaid.{SameSaid, after_alike, greeting_link, said_alike, set_alike, setup_alike}
use Rattle.driver_model.specs.declared.hearing.Hearing.{Hearing}
use Rattle.driver_model.specs.Hearing.{felt, hears_messages}
use Rattle.driver_model.specs.declared.news.LinkFault.TheVariants as fault
use Rattle.resp_read.specs.Values.{is_spoiled}
use Rattle.conn_laws.proofs.Internal.Repeats.{down_repeats_not, TiedRepeat, served_is}
use Rattle.sub_tracker.specs.Subscribed.{Request as Call}
use Rattle.mux_conn.specs.declared.again.Again.{Again}
use Rattle.mux_conn.specs.Connection.{is_outstanding, is_ready as is_ready_life}

-- whose messages a link carries
--
-- they are the same where names are
pub carried_same : (life : Life) (requests other : List Request) → owner_of requests ≡ owner_of other → carried life requests ≡ carried life other
carried_same Resting requests other e = λ i p. e i p
carried_same Dialing requests other e = λ i p. e i p
carried_same (Wanting link) requests other e = λ i p. owner.Setup
carried_same (SettingUp link greeting) requests other e = λ i p. greeter greeting
carried_same (Ready link) requests other e = λ i p. e i p
carried_same (Ended x) requests other e = λ i p. e i p

-- so the tie of a link is
pub carried_tied : (life : Life) (requests other : List Request) (l : Ledger) → owner_of requests ≡ owner_of other → TiedLink (carried life requests) l (whole_link life) → TiedLink (carried life other) l (whole_link life)
carried_tied life requests other l e h = subst (λ name. TiedLink name l (whole_link life)) (carried_same life requests other e) h

-- what the setup stands on
--
-- a ledger with the same starts, the same items, and the same to be said
abbrev pub retold : Ledger → Bool → Bool → Option End → List ℕ → List ℕ → List ℕ → News → Ledger
retold l asked up end taken offer rest heard = record l { asked = asked; up = up; end = end; taken = taken; offer = offer; rest = rest; heard = heard }

-- the same is said of it
retold_said : (l : Ledger) (asked up : Bool) (end : Option End) (taken offer rest : List ℕ) (heard : News) → SameSaid l (retold l asked up end taken offer rest heard)
retold_said l asked up end taken offer rest heard = record { starts = refl; dealt = refl; info = refl; hearing = refl; wanted = refl; given = refl }

-- what is due next there
pub after_on : (l : Ledger) (asked up : Bool) (end : Option End) (taken offer rest : List ℕ) (heard : News) (n : ℕ) → setup_after (retold l asked up end taken offer rest heard) n ≡ setup_after l n
after_on l asked up end taken offer rest heard n = after_alike l (retold l asked up end taken offer rest heard) (retold_said l asked up end taken offer rest heard) n

-- and what the last setup came to are the same
pub result_on : (l : Ledger) (asked up : Bool) (end : Option End) (taken offer rest : List ℕ) (heard : News) → setup_result (retold l asked up end taken offer rest heard) ≡ setup_result l
result_on l asked up end taken offer rest heard = setup_alike l (retold l asked up end taken offer rest heard) (retold_said l asked up end taken offer rest heard)

-- so is whether it is set up
pub well_on : (l : Ledger) (asked up : Bool) (end : Option End) (taken offer rest : List ℕ) (heard : News) → is_set_up (retold l asked up end taken offer rest heard) ≡ is_set_up l
well_on l asked up end taken offer rest heard = set_alike l (retold l asked up end taken offer rest heard) (retold_said l asked up end taken offer rest heard)

-- and how far it has come
pub said_on : (l : Ledger) (asked up : Bool) (end : Option End) (taken offer rest : List ℕ) (heard : News) (started : List ℕ) (life : Life) → HasSaid l started life → HasSaid (retold l asked up end taken offer rest heard) started life
said_on l asked up end taken offer rest heard started life h = said_alike l (retold l asked up end taken offer rest heard) started life (retold_said l asked up end taken offer rest heard) h

-- with all that is known of it
pub setup_on : (l : Ledger) (asked up : Bool) (end : Option End) (taken offer rest : List ℕ) (heard : News) (info : RedisConnectionInfo) (started : List ℕ) (life : Life) → TiedSetup l info started life
    → TiedSetup (retold l asked up end taken offer rest heard) info started life
setup_on l asked up end taken offer rest heard info started life h = record { info_is = h.info_is; sent = h.sent; said = said_on l asked up end taken offer rest heard started life h.said }

-- on a link with the same messages
pub setup_link : (l : Ledger) (info : RedisConnectionInfo) (started : List ℕ) (link after : LinkState) (greeting : Greeting) → after.queue ≡ link.queue → after.row ≡ link.row → TiedSetup l info started (SettingUp link greeting) → TiedSetup l info started (SettingUp after greeting)
setup_link l info started link after greeting queue row h = record {
  info_is = h.info_is;
  sent = h.sent;
  said = (h.said.0, greeting_link l link after greeting queue row h.said.1);
}

-- also where it waits for credentials
pub wanting_link : (l : Ledger) (info : RedisConnectionInfo) (started : List ℕ) (link after : LinkState) → after.queue ≡ link.queue → after.row ≡ link.row → TiedSetup l info started (Wanting link) → TiedSetup l info started (Wanting after)
wanting_link l info started link after queue row h = record { info_is = h.info_is; sent = h.sent; said = (h.said.0, h.said.1, queue ∙ h.said.2, row ∙ h.said.3) }

-- and on any that is set up
pub setup_ready : (l : Ledger) (info : RedisConnectionInfo) (started : List ℕ) (link after : LinkState) → TiedSetup l info started (Ready link) → TiedSetup l info started (Ready after)
setup_ready l info started link after h = record { info_is = h.info_is; sent = h.sent; said = record { well = h.said.well; none = h.said.none } }

-- a ledger of which other sources, new credentials and timers are known
abbrev pub recredited : Ledger → Bool → Bool → List Credentials → Bool → ℕ → Bool → Ledger
recredited l asked renews renewals over timed lost = record l { creds = record l.creds { asked = asked; renews = renews; renewals = renewals; over = over; timed = timed; lost = lost } }

-- whether it is set up is the same
pub well_recredited : (l : Ledger) (asked renews : Bool) (renewals : List Credentials) (over : Bool) (timed : ℕ) (lost : Bool) → is_set_up (recredited l asked renews renewals over timed lost) ≡ is_set_up l
well_recredited l asked renews renewals over timed lost = set_alike l (recredited l asked renews renewals over timed lost) (record { starts = refl; dealt = refl; info = refl; hearing = refl; wanted = refl; given = refl })

-- so is all that is known of the setup of one that is set up
pub setup_recredited : (l : Ledger) (asked renews : Bool) (renewals : List Credentials) (over : Bool) (timed : ℕ) (lost : Bool) (info : RedisConnectionInfo) (started : List ℕ) (link : LinkState) → TiedSetup l info started (Ready link)
    → TiedSetup (recredited l asked renews renewals over timed lost) info started (Ready link)
setup_recredited l asked renews renewals over timed lost info started link h = record {
  info_is = h.info_is;
  sent = h.sent;
  said = record { well = well_recredited l asked renews renewals over timed lost ∙ h.said.well; none = h.said.none };
}

-- a ledger of which one source more is known, where credentials come of sources
abbrev pub readied : Bool → Ledger → Ledger
readied wanted l = recredited l (if wanted then true else l.creds.asked) (if wanted then l.creds.asked else l.creds.renews) l.creds.renewals l.creds.over l.creds.timed l.creds.lost

-- it is set up as it was
pub well_readied : (wanted : Bool) (l : Ledger) → is_set_up (readied wanted l) ≡ is_set_up l
well_readied wanted l = well_recredited l (if wanted then true else l.creds.asked) (if wanted then l.creds.asked else l.creds.renews) l.creds.renewals l.creds.over l.creds.timed l.creds.lost

-- and so it is of a link on which what is subscribed again is given up
pub setup_served : (l : Ledger) (info : RedisConnectionInfo) (started : List ℕ) (life : Life) → TiedSetup l info started life → TiedSetup (record (unrepeated_by l) { heard = unrepeated }) info started life
setup_served l info started life h = record {
  info_is = h.info_is;
  sent = h.sent;
  said = said_alike l (record (unrepeated_by l) { heard = unrepeated }) started life (record { starts = refl; dealt = refl; info = refl; hearing = refl; wanted = refl; given = refl }) h.said;
}

-- news that bring neither bytes nor credentials, nor end the time of what is subscribed again, leave it
abbrev pub BringsNothing : News → Type 0
BringsNothing (came piece) = ⊥
BringsNothing (authorized c) = ⊥
BringsNothing (renewed c) = ⊥
BringsNothing unrenewed = ⊥
BringsNothing (late k) = ⊥
BringsNothing unrepeated = ⊥
BringsNothing silence = Unit {0}
BringsNothing connected = Unit {0}
BringsNothing (refused f) = Unit {0}
BringsNothing overdue = Unit {0}
BringsNothing (took count) = Unit {0}
BringsNothing (failed f) = Unit {0}
BringsNothing (denied text) = Unit {0}
BringsNothing deserted = Unit {0}
BringsNothing dropped = Unit {0}
BringsNothing shut = Unit {0}

-- that they don't
pub brings_in_time : (n : News) → BringsNothing n → n ≢ unrepeated
brings_in_time silence k e = cc
brings_in_time connected k e = cc
brings_in_time (refused f) k e = cc
brings_in_time overdue k e = cc
brings_in_time (took count) k e = cc
brings_in_time (came piece) k e = cc
brings_in_time (failed f) k e = cc
brings_in_time (authorized c) k e = cc
brings_in_time (denied text) k e = cc
brings_in_time deserted k e = cc
brings_in_time (renewed c) k e = cc
brings_in_time unrenewed k e = cc
brings_in_time (late m) k e = cc
brings_in_time unrepeated k e = absurd k
brings_in_time dropped k e = cc
brings_in_time shut k e = cc

-- so it does
pub setup_hears : (l : Ledger) (turn : ℕ) (n : News) (info : RedisConnectionInfo) (started : List ℕ) (life : Life) → BringsNothing n → TiedSetup l info started life → TiedSetup (noted l (hears turn n)) info started life
setup_hears l turn silence info started life k h = setup_on l l.asked l.up l.end l.taken l.offer l.rest silence info started life h
setup_hears l turn connected info started life k h =
    chosen (λ (x : Ledger). TiedSetup (record x { heard = connected }) info started life) (is_over l) l (record l { up = true })
    (λ t. setup_on l l.asked l.up l.end l.taken l.offer l.rest connected info started life h)
    (λ f. setup_on l l.asked true l.end l.taken l.offer l.rest connected info started life h)
setup_hears l turn (refused f) info started life k h =
    let m = refused_in l turn (error.Io f) in
    chosen (λ (x : Ledger). TiedSetup (record x { heard = refused f }) info started life) (dials l) m l
    (λ t. setup_on l l.asked l.up m.end l.taken l.offer l.rest (refused f) info started life h)
    (λ n. setup_on l l.asked l.up l.end l.taken l.offer l.rest (refused f) info started life h)
setup_hears l turn overdue info started life k h = setup_on l l.asked l.up l.end l.taken l.offer l.rest overdue info started life h
setup_hears l turn (took count) info started life k h =
    chosen (λ (x : Ledger). TiedSetup (record x { heard = took count }) info started life) l.up (record l { taken = l.taken ++ take count l.offer; offer = [] }) l
    (λ t. setup_on l l.asked l.up l.end (l.taken ++ take count l.offer) [] l.rest (took count) info started life h)
    (λ n. setup_on l l.asked l.up l.end l.taken l.offer l.rest (took count) info started life h)
setup_hears l turn (came piece) info started life k h = absurd k
setup_hears l turn (failed f) info started life k h = setup_on l l.asked l.up l.end l.taken l.offer l.rest (failed f) info started life h
setup_hears l turn (authorized c) info started life k h = absurd k
setup_hears l turn (renewed c) info started life k h = absurd k
setup_hears l turn unrenewed info started life k h = absurd k
setup_hears l turn (late m) info started life k h = absurd k
setup_hears l turn unrepeated info started life k h = absurd k
setup_hears l turn (denied text) info started life k h = setup_on l l.asked l.up l.end l.taken l.offer l.rest (denied text) info started life h
setup_hears l turn deserted info started life k h = setup_on l l.asked l.up l.end l.taken l.offer l.rest deserted info started life h
setup_hears l turn dropped info started life k h = setup_on l l.asked l.up l.end l.taken l.offer l.rest dropped info started life h
setup_hears l turn shut info started life k h = setup_on l l.asked l.up l.end l.taken l.offer l.rest shut info started life h

-- and so do bytes and credentials, where the link isn't up
pub setup_unheard : (l : Ledger) (turn : ℕ) (n : News) (info : RedisConnectionInfo) (started : List ℕ) (life : Life) → l.up ≡ false → TiedSetup l info started life → TiedSetup (noted l (hears turn n)) info started life
setup_unheard l turn (came piece) info started life down h =
    if_false (λ (x : Ledger). TiedSetup (record x { heard = came piece }) info started life) l.up (bytes_came l piece) l down (setup_on l l.asked l.up l.end l.taken l.offer l.rest (came piece) info started life h)
setup_unheard l turn silence info started life down h = setup_hears l turn silence info started life tt h
setup_unheard l turn connected info started life down h = setup_hears l turn connected info started life tt h
setup_unheard l turn (refused f) info started life down h = setup_hears l turn (refused f) info started life tt h
setup_unheard l turn overdue info started life down h = setup_hears l turn overdue info started life tt h
setup_unheard l turn (took count) info started life down h = setup_hears l turn (took count) info started life tt h
setup_unheard l turn (failed f) info started life down h = setup_hears l turn (failed f) info started life tt h
setup_unheard l turn (authorized c) info started life down h =
    subst (λ (x : Ledger). TiedSetup x info started life) (sym (unawaited_is l turn c (down_unawaited l down))) (setup_on l l.asked l.up l.end l.taken l.offer l.rest (authorized c) info started life h)
setup_unheard l turn (renewed c) info started life down h =
    if_false (λ (x : Ledger). TiedSetup (record x { heard = renewed c }) info started life) (may_renew l) (renewed_by l c) l (down_may_renew l down) (setup_on l l.asked l.up l.end l.taken l.offer l.rest (renewed c) info started life h)
setup_unheard l turn unrenewed info started life down h =
    if_false (λ (x : Ledger). TiedSetup (record x { heard = unrenewed }) info started life) l.up (unrenewed_by l) l down (setup_on l l.asked l.up l.end l.taken l.offer l.rest unrenewed info started life h)
setup_unheard l turn (late m) info started life down h =
    if_false (λ (x : Ledger). TiedSetup (record x { heard = late m }) info started life) (l.up && is_renewal_open l m) (lost_by l) l (ap (λ u. u && is_renewal_open l m) down) (setup_on l l.asked l.up l.end l.taken l.offer l.rest (late m) info started life h)
setup_unheard l turn unrepeated info started life down h =
    if_false (λ (x : Ledger). TiedSetup (record x { heard = unrepeated }) info started life) (is_repeating l) (unrepeated_by l) l (down_repeats_not l down) (setup_on l l.asked l.up l.end l.taken l.offer l.rest unrepeated info started life h)
setup_unheard l turn (denied text) info started life down h = setup_hears l turn (denied text) info started life tt h
setup_unheard l turn deserted info started life down h = setup_hears l turn deserted info started life tt h
setup_unheard l turn dropped info started life down h = setup_hears l turn dropped info started life tt h
setup_unheard l turn shut info started life down h = setup_hears l turn shut info started life tt h

-- what is still to be told of a link stays
--
-- what is told of its notices, in a record of its ledger
abbrev pub PushesOf : Hearing → Hearing → Ledger → Type 0
PushesOf heard mine l = TiedNotices heard mine l.hearing l.notices l.told l.end l.parted l.strange (is_reading l) [] false

-- by how far the link has come
abbrev pub PushesAt : Life → Hearing → Hearing → Ledger → Type 0
PushesAt life heard mine l = TiedNotices heard mine (hearing_at life mine l.hearing) l.notices l.told l.end l.parted l.strange (is_reading l) [] false

-- where there is one
pub pushes_there : (life now : Life) (heard mine : Hearing) (l : Ledger) → life ≡ now → PushesAt life heard mine l → PushesAt now heard mine l
pushes_there life now heard mine l e h = subst (λ (x : Life). PushesAt x heard mine l) e h

-- another turn brings it, where no value came that ends the link
pub renoticed : {heard hears hearing : Hearing} {notices : List Heard} {told : ℕ} {end : Option End} {parted strange was now : Bool} {untold : List Heard} {parting : Bool} → (end ≡ None → strange ≡ false)
    → TiedNotices heard hears hearing notices told end parted strange was untold parting → TiedNotices heard hears hearing notices told end parted strange now untold parting
renoticed tame h = record { heard_is = h.heard_is; hearing_is = h.hearing_is; within = h.within; untold_is = h.untold_is; parts = h.parts; alive = h.alive; due = h.due; tame = λ e r. tame e }

-- no value came that ends the link, where it has not ended
abbrev pub IsTame : Ledger → Type 0
IsTame l = l.end ≡ None → l.strange ≡ false

-- so it does whatever news come that bring a link that is up nothing
pub pushes_hear : (life : Life) (l : Ledger) (turn : ℕ) (n : News) (heard mine : Hearing) → IsTame l → BringsNothing n ⊎ (l.up ≡ false) → PushesAt life heard mine l → PushesAt life heard mine (noted l (hears turn n))
pushes_hear life l turn silence heard mine tame k h = renoticed tame h
pushes_hear life l turn overdue heard mine tame k h = renoticed tame h
pushes_hear life l turn (refused f) heard mine tame k h =
    chosen (λ (x : Ledger). PushesAt life heard mine (record x { heard = refused f })) (dials l) (refused_in l turn (error.Io f)) l
    (λ t. record { heard_is = h.heard_is; hearing_is = h.hearing_is; within = h.within; untold_is = h.untold_is; parts = λ y d cut. absurd (not_both (is_fault (lasting l.last (by_opening (error.Io f)))) (lasting_is_fault l.last (by_opening (error.Io f))) cut); alive = λ e. cc; due = h.due; tame = λ e. cc })
    (λ t. renoticed tame h)
pushes_hear life l turn connected heard mine tame k h = chosen (λ (x : Ledger). PushesAt life heard mine (record x { heard = connected })) (is_over l) l (record l { up = true }) (λ t. renoticed tame h) (λ f. renoticed tame h)
pushes_hear life l turn (took count) heard mine tame k h = chosen (λ (x : Ledger). PushesAt life heard mine (record x { heard = took count })) l.up (record l { taken = l.taken ++ take count l.offer; offer = [] }) l (λ t. renoticed tame h) (λ f. renoticed tame h)
pushes_hear life l turn (came piece) heard mine tame k h = elim k [
  | inl piece_is ↦ absurd piece_is
  | inr down ↦ if_false (λ (x : Ledger). PushesAt life heard mine (record x { heard = came piece })) l.up (bytes_came l piece) l down (renoticed tame h)
]
pushes_hear life l turn (failed f) heard mine tame k h = renoticed tame h
pushes_hear life l turn (authorized c) heard mine tame k h = chosen (λ (x : Ledger). PushesAt life heard mine (record x { heard = authorized c })) (awaits_credentials l) (authorized_by l c) l (λ t. renoticed tame h) (λ f. renoticed tame h)
pushes_hear life l turn (renewed c) heard mine tame k h = chosen (λ (x : Ledger). PushesAt life heard mine (record x { heard = renewed c })) (may_renew l) (renewed_by l c) l (λ t. renoticed tame h) (λ f. renoticed tame h)
pushes_hear life l turn unrenewed heard mine tame k h = chosen (λ (x : Ledger). PushesAt life heard mine (record x { heard = unrenewed })) l.up (unrenewed_by l) l (λ t. renoticed tame h) (λ f. renoticed tame h)
pushes_hear life l turn (late m) heard mine tame k h = chosen (λ (x : Ledger). PushesAt life heard mine (record x { heard = late m })) (l.up && is_renewal_open l m) (lost_by l) l (λ t. renoticed tame h) (λ f. renoticed tame h)
pushes_hear life l turn unrepeated heard mine tame k h = chosen (λ (x : Ledger). PushesAt life heard mine (record x { heard = unrepeated })) (is_repeating l) (unrepeated_by l) l (λ t. renoticed tame h) (λ f. renoticed tame h)
pushes_hear life l turn (denied text) heard mine tame k h = renoticed tame h
pushes_hear life l turn deserted heard mine tame k h = renoticed tame h
pushes_hear life l turn dropped heard mine tame k h = renoticed tame h
pushes_hear life l turn shut heard mine tame k h = renoticed tame h

-- what ends by an error, or by this, by nothing ends
both_none : (x : Option RedisError) (y : Option Ending) → ending_by x y ≡ None → y ≡ None
both_none None y e = e
both_none (Some z) y e = cc

-- what doesn't end a link isn't there
unended : (b : Bool) (why : Ending) → (if b then Some why else None) ≡ None → b ≡ false
unended true why e = cc
unended false why e = refl

-- what ends nothing was no value that ends
pub no_ending : (l : Ledger) (piece : List ℕ) → l.up ≡ true → (let m = record l { heard = came piece } in ending m ≡ None) → l.strange ≡ false
no_ending l piece up none =
    let m = record l { heard = came piece } in
    let alive : ending_alive m ≡ None = sym (taken_if m.up (ending_alive m) _ up) ∙ none in
    let unready : is_unreadable m ≡ false =
    by_test (is_set_up m) _
    (λ t. unended (is_unreadable m) (by_fault (felt m.hearing fault.Parse)) (sym (taken_if (is_set_up m) (ending_up m (came piece)) _ t) ∙ alive))
    (λ f. unended (is_unreadable m) (by_opening (opening_error m fault.Parse)) (both_none (error_in (setup_result m)) (ending_unready m (came piece)) (sym (left_if (is_set_up m) (ending_up m (came piece)) (ending_by (error_in (setup_result m)) (ending_unready m (came piece))) f) ∙ alive))) in
    right_false (is_spoiled l.rest) l.strange unready
  where
    right_false : (p q : Bool) → (p || q) ≡ false → q ≡ false
    right_false true q e = cc
    right_false false q e = e

-- what ends a link
--
-- whose setup has come to nothing yet
ending_unset : (l : Ledger) → l.up ≡ true → IsUnset l → ending l ≡ ending_unready l l.heard
ending_unset l up r =
    taken_if l.up (ending_alive l) _ up ∙ left_if (is_set_up l) (ending_up l l.heard) _ r.unset ∙ ap (λ x. ending_by x (ending_unready l l.heard)) r.no_error

-- that is set up still
pub ending_setting : (l : Ledger) (link : LinkState) (greeting : Greeting) → l.up ≡ true → IsGreeting l link greeting → ending l ≡ ending_unready l l.heard
ending_setting l link greeting up h = ending_unset l up (not_set_up l link greeting h)

-- or waits for credentials
pub ending_wanting : (l : Ledger) → l.up ≡ true → lacks_credentials l ≡ true → ending l ≡ ending_unready l l.heard
ending_wanting l up lacks = ending_unset l up (lacking_unset l lacks)

-- once it has heard something
pub ready_heard : (l : Ledger) (n : News) → l.up ≡ true → is_set_up l ≡ true → ending (record l { heard = n }) ≡ ending_up (record l { heard = n }) n
ready_heard l n up well = ends_where_set (record l { heard = n }) up (well_on l l.asked l.up l.end l.taken l.offer l.rest n ∙ well)

-- it is set up still once it has heard something
pub setting_told : (l : Ledger) (n : News) (link : LinkState) (greeting : Greeting) → IsGreeting l link greeting → IsGreeting (record l { heard = n }) link greeting
setting_told l n link greeting s = let k = said_on l l.asked l.up l.end l.taken l.offer l.rest n [] (SettingUp link greeting) (refl, s) in k.1

-- and is ended by what it has heard
pub setting_heard : (l : Ledger) (n : News) (link : LinkState) (greeting : Greeting) → l.up ≡ true → IsGreeting l link greeting → ending (record l { heard = n }) ≡ ending_unready (record l { heard = n }) n
setting_heard l n link greeting up s = ending_setting (record l { heard = n }) link greeting up (setting_told l n link greeting s)

-- whose setup failed
pub ending_failed : (l : Ledger) (e : RedisError) → l.up ≡ true → setup_result l ≡ Some (Failed e) → ending l ≡ Some (by_opening e)
ending_failed l e up r =
    taken_if l.up (ending_alive l) _ up ∙ left_if (is_set_up l) (ending_up l l.heard) _ (ungreeted_is_unset l (ap is_well r)) ∙ ap (λ x. ending_by (error_in x) (ending_unready l l.heard)) r

-- news that end nothing
--
-- an error is none where it ends none
by_none : (x : Option RedisError) (y : Option Ending) → ending_by x y ≡ None → x ≡ None
by_none None y e = refl
by_none (Some z) y e = cc

-- no setup has failed on a link that need not end
none_failed : (l : Ledger) → ending l ≡ None → l.up ≡ true → is_set_up l ≡ false → error_in (setup_result l) ≡ None
none_failed l none up unready =
    by_none (error_in (setup_result l)) (ending_unready l l.heard)
    (sym (taken_if l.up (ending_alive l) _ up ∙ left_if (is_set_up l) (ending_up l l.heard) (ending_by (error_in (setup_result l)) (ending_unready l l.heard)) unready) ∙ none)

-- that nothing is heard, that bytes were taken, or that new credentials, or what is subscribed again, weren't answered in time
abbrev pub IsMild : News → Type 0
IsMild silence = Unit {0}
IsMild (took count) = Unit {0}
IsMild (late k) = Unit {0}
IsMild unrepeated = Unit {0}
IsMild _ = ⊥

-- so a link that is up need not end then
mild_up : (l : Ledger) (taken offer : List ℕ) (n : News) → (let m = record l { taken = taken; offer = offer; heard = n } in (ending_up m n ≡ None) × (ending_unready m n ≡ None)) → ending l ≡ None → l.up ≡ true → ending (record l { taken = taken; offer = offer; heard = n }) ≡ None
mild_up l taken offer n mild none up =
    let m = record l { taken = taken; offer = offer; heard = n } in
    let same = well_on l l.asked l.up l.end taken offer l.rest n in
    by_test (is_set_up l) _
    (λ t. ends_where_set m up (same ∙ t) ∙ mild.0)
    (λ f.
    taken_if l.up (ending_alive m) _ up ∙ left_if (is_set_up m) (ending_up m n) (ending_by (error_in (setup_result m)) (ending_unready m n)) (same ∙ f)
    ∙ ap (λ x. ending_by (error_in x) (ending_unready m n)) (result_on l l.asked l.up l.end taken offer l.rest n)
    ∙ ap (λ x. ending_by x (ending_unready m n)) (none_failed l none up f) ∙ mild.1)

-- nor does one that isn't
mild_down : (l : Ledger) (taken offer : List ℕ) (n : News) → ending_asked (record l { taken = taken; offer = offer; heard = n }) n ≡ None → l.up ≡ false → ending (record l { taken = taken; offer = offer; heard = n }) ≡ None
mild_down l taken offer n mild down =
    left_if l.up (ending_alive (record l { taken = taken; offer = offer; heard = n })) _ down
    ∙ chosen (λ (x : Option Ending). x ≡ None) (l.asked && not (is_over l)) (ending_asked (record l { taken = taken; offer = offer; heard = n }) n) None (λ t. mild) (λ f. refl)

-- whether it is up or not
pub mild_end : (l : Ledger) (taken offer : List ℕ) (n : News) → IsMild n → ending l ≡ None → ending (record l { taken = taken; offer = offer; heard = n }) ≡ None
mild_end l taken offer silence k none = by_test l.up _ (mild_up l taken offer silence (refl, refl) none) (mild_down l taken offer silence refl)
mild_end l taken offer (took count) k none = by_test l.up _ (mild_up l taken offer (took count) (refl, refl) none) (mild_down l taken offer (took count) refl)
mild_end l taken offer (late m) k none = by_test l.up _ (mild_up l taken offer (late m) (refl, refl) none) (mild_down l taken offer (late m) refl)
mild_end l taken offer unrepeated k none = by_test l.up _ (mild_up l taken offer unrepeated (refl, refl) none) (mild_down l taken offer unrepeated refl)
mild_end l taken offer _ k none = absurd k

-- nor does a stream of messages that is dropped, on a link of no messages
pub dropped_end : (l : Ledger) → hears_messages l.hearing ≡ false → ending l ≡ None → ending (record l { heard = dropped }) ≡ None
dropped_end l deaf none = by_test l.up _
    (mild_up l l.taken l.offer dropped (left_if (hears_messages l.hearing) (Some (by_fault fault.Ended)) None deaf, left_if (hears_messages l.hearing) (Some (by_opening error.Closed)) None deaf) none)
    (mild_down l l.taken l.offer dropped (left_if (hears_messages l.hearing) (Some (by_opening error.Closed)) None deaf))

-- where a link is ready
--
-- so is its connection's life
pub ready_lives : (l : Ledger) (created : ℕ) (info : RedisConnectionInfo) (started : List ℕ) (life : Life) → TiedLife l created life → AreSought l.creds life → TiedSetup l info started life → is_ready l ≡ true → is_ready_life life ≡ true
ready_lives l created info started Resting h c s r = absurd (not_both l.up h.1 (both_left l.up (is_set_up l) r))
ready_lives l created info started Dialing h c s r = absurd (not_both l.up h.1 (both_left l.up (is_set_up l) r))
ready_lives l created info started (Wanting link) h c s r = absurd (not_both (is_set_up l) (lacking_unset l (wanting_lacks l.creds link c)).unset (both_right l.up (is_set_up l) r))
ready_lives l created info started (SettingUp link greeting) h c s r = absurd (not_both (is_set_up l) (not_set_up l link greeting s.said.1).unset (both_right l.up (is_set_up l) r))
ready_lives l created info started (Ready link) h c s r = refl
ready_lives l created info started (Ended e) h c s r = absurd (not_both l.up h.0 (both_left l.up (is_set_up l) r))

-- so the creation was shown
pub ready_made : (l : Ledger) (created : ℕ) (life : Life) → is_ready_life life ≡ true → TiedLife l created life → created ≢ 0
ready_made l created Resting up h = cc
ready_made l created Dialing up h = cc
ready_made l created (Wanting link) up h = cc
ready_made l created (SettingUp link greeting) up h = cc
ready_made l created (Ready link) up h = h.3
ready_made l created (Ended e) up h = cc

-- and it takes requests where its connection does
pub served_by : (l : Ledger) (calls : List Call) (within : Option ℕ) (a : Again) (life : Life) → is_ready_life life ≡ true → TiedRepeat l calls within a life → is_served l ≡ not (is_outstanding a)
served_by l calls within a Resting up h = cc
served_by l calls within a Dialing up h = cc
served_by l calls within a (Wanting link) up h = cc
served_by l calls within a (SettingUp link greeting) up h = cc
served_by l calls within a (Ready link) up h = served_is l calls within a h
served_by l calls within a (Ended e) up h = cc

-- every source was asked for that is to be
--
-- by how far a link has come
pub life_sourced : (l : Ledger) (created : ℕ) (started : List ℕ) (life : Life) → TiedLife l created life → AreSought l.creds life → HasSaid l started life → source_due l ≡ false
life_sourced l created started Resting h s said = down_sourced l h.1
life_sourced l created started Dialing h s said = down_sourced l h.1
life_sourced l created started (Wanting link) h s said = asked_sourced l s.1 (inl (lacking_unset l (wanting_lacks l.creds link s)).unset)
life_sourced l created started (SettingUp link greeting) h s said = has_sourced l s.0 (not_set_up l link greeting said.1).unset
life_sourced l created started (Ready link) h s said = ready_sourced l s.0 (λ w. s.1 ∙ w)
life_sourced l created started (Ended e) h s said = down_sourced l h.0
