-- Requests by their numbers, and their names.
use Rattle.std.proofs.Common.{◌≡◌, ℕ, ◌<◌, Bool, true, false, length, Option, Some, None, refl, sym, ap, ◌∙◌, arith}
use Rattle.containers.proofs.Choices.{by_test, not_both}
use Rattle.legal_trace.specs.Book.{Book, hearing_in, kind_in}
use Rattle.mux_conn.specs.Connection.{is_resting}
use Rattle.conn_laws.proofs.Links.Server.{hearing_on}
use Rattle.session_laws.proofs.Ties.Tied.{TurnState, Tied}
use Rattle.driver_model.specs.Hearing.{is_watching}
use Rattle.driver_model.specs.declared.kind.SessionKind.{SessionKind}
use Rattle.driver_model.specs.declared.kind.SessionKind.TheVariants as session
use Rattle.driver_model.specs.Config as Configs
use Rattle.driver_model.specs.declared.config.Config.{Config}
use Rattle.driver_model.specs.declared.event.Submission.{Submission}
use Rattle.driver_model.specs.Request.{has_no_form}
use Rattle.conn_laws.proofs.Ties.Numbers.{is_own, below_own}
use Rattle.conn_laws.proofs.Ties.Names.{resting_unwatched}

-- requests, and what the driver says itself
--
-- no request has the number of a message of the driver's own
pub request_not : (b : Book) (t : TurnState) (p : ℕ) → Tied b t → p < length t.requests → is_own p ≡ false
request_not b t p h within = below_own p (let few = h.names.few in let all = h.numbers.few in omega arith)

-- and where there is a request, its server isn't either
pub asked_unwatched : (b : Book) (t : TurnState) (p : ℕ) → Tied b t → p < length t.requests → is_watching (b.link t.link).hearing ≡ false
asked_unwatched b t p h within =
    let l = b.link t.link in
    by_test (is_resting t.life) _
    (λ rests. resting_unwatched l b.created t.life rests h.life)
    (λ there. by_test (is_watching l.hearing) _
    (λ w. absurd (let same = sym h.notices.hearing_is ∙ hearing_on t.life t.hears l.hearing there in let none = ap length (h.numbers.quiet (ap is_watching same ∙ w)).none in let few = h.names.few in omega arith))
    (λ f. f))

-- what is put into monitor mode is a session of that kind
watching_kind : (is : SessionKind) (pushes : Bool) → is_watching (Configs.hearing_in is pushes) ≡ true → is ≡ session.Monitor
watching_kind session.Single true w = cc
watching_kind session.Single false w = cc
watching_kind (session.Manager lazy) true w = cc
watching_kind (session.Manager lazy) false w = cc
watching_kind session.PubSub pushes w = cc
watching_kind session.Monitor pushes w = refl

watching_book : (config : Option Config) → is_watching (hearing_in config) ≡ true → kind_in config ≡ session.Monitor
watching_book None w = cc
watching_book (Some config) w = watching_kind (Configs.kind_of config) (Configs.wants_pushes config) w

-- which nothing is submitted to
pub submits_unwatched : (b : Book) (t : TurnState) (what : Submission) → Tied b t → has_no_form t.kind what ≡ false → is_watching t.hears ≡ true → ⊥
submits_unwatched b t what h form w =
    let is : t.kind ≡ session.Monitor = sym h.numbers.kind_is ∙ watching_book b.config (ap is_watching h.notices.heard_is ∙ w) in
    not_both (has_no_form t.kind what) form (ap (λ (x : SessionKind). has_no_form x what) is)
