-- What news leave of a link, of tries, and of credentials that were asked for.
use Rattle.std.proofs.Common.{◌≡◌, ℕ, ◌+◌, ◌&&◌, List, [], ◌∷◌, length, slice_get, refl, sym, ap, ◌∙◌, subst, arith, length-take, true, Bool}
use Rattle.containers.proofs.Choices.{chosen}
use Rattle.redis_error.specs.declared.redis_error.RedisError.TheVariants as error
use Rattle.driver_model.specs.declared.action.Owner.{Owner}
use Rattle.driver_model.specs.declared.action.SourceUse.{SourceUse}
use Rattle.driver_model.specs.News.{News, silence, connected, took, came, failed, authorized, denied, deserted, shut, refused, overdue, renewed, unrenewed, late, unrepeated, dropped}
use Rattle.link_core.specs.Link.{LinkState}
use Rattle.link_laws.proofs.TiedLink.{TiedLink}
use Rattle.mux_conn.specs.declared.request.Request.{Request}
use Rattle.legal_trace.specs.Ledger.{Ledger, Start, setup_count, authorized_by, with_news, awaits_credentials, hears, noted, is_over, bytes_came, dials, refused_in, is_renewal_open, lost_by, may_renew, renewed_by, unrenewed_by, is_repeating, unrepeated_by}
use Rattle.legal_trace.specs.Story.{Story}
use Rattle.conn_laws.proofs.Links.Server.{owners_of, setup_owners}
use Rattle.conn_laws.proofs.Ties.Tied.{AreUses, owners_each, TiedTries, HasGreetedAlone}
use Rattle.driver_model.specs.Hearing.{is_watching}
use Rattle.legal_trace.proofs.Came.{holds_bytes}

-- bad events
--
-- what a link that has not ended is offered
pub offered_length : (name : ℕ → Owner) (l : Ledger) (s : LinkState) → TiedLink name l s → length l.offer ≡ s.outbox.offered
offered_length name l s h = ap length h.offer ∙ (let e = length-take s.outbox.offered s.outbox.unwritten in let b = h.bound in omega arith)

-- what is heard
--
-- news start nothing
pub heard_starts : (l : Ledger) (turn : ℕ) (n : News) → (noted l (hears turn n)).starts ≡ l.starts
heard_starts l turn silence = refl
heard_starts l turn (refused f) = chosen (λ (x : Ledger). x.starts ≡ l.starts) (dials l) (refused_in l turn (error.Io f)) l (λ t. refl) (λ d. refl)
heard_starts l turn overdue = refl
heard_starts l turn connected = chosen (λ (x : Ledger). x.starts ≡ l.starts) (is_over l) l _ (λ t. refl) (λ f. refl)
heard_starts l turn (took count) = chosen (λ (x : Ledger). x.starts ≡ l.starts) l.up _ l (λ t. refl) (λ f. refl)
heard_starts l turn (came piece) = chosen (λ (x : Ledger). x.starts ≡ l.starts) l.up (bytes_came l piece) l (λ t. holds_bytes (λ (x : Ledger). x.starts ≡ l.starts) l piece (λ rest strange told more. refl)) (λ f. refl)
heard_starts l turn (failed f) = refl
heard_starts l turn (authorized c) = chosen (λ (x : Ledger). x.starts ≡ l.starts) (awaits_credentials l) (authorized_by l c) l (λ t. refl) (λ f. refl)
heard_starts l turn (renewed c) = chosen (λ (x : Ledger). x.starts ≡ l.starts) (may_renew l) (renewed_by l c) l (λ t. refl) (λ f. refl)
heard_starts l turn unrenewed = chosen (λ (x : Ledger). x.starts ≡ l.starts) l.up (unrenewed_by l) l (λ t. refl) (λ f. refl)
heard_starts l turn (late k) = chosen (λ (x : Ledger). x.starts ≡ l.starts) (l.up && is_renewal_open l k) (lost_by l) l (λ t. refl) (λ f. refl)
heard_starts l turn unrepeated = chosen (λ (x : Ledger). x.starts ≡ l.starts) (is_repeating l) (unrepeated_by l) l (λ t. refl) (λ f. refl)
heard_starts l turn (denied text) = refl
heard_starts l turn deserted = refl
heard_starts l turn dropped = refl
heard_starts l turn shut = refl

-- news leave what is heard on a link
pub heard_hearing : (l : Ledger) (turn : ℕ) (n : News) → (noted l (hears turn n)).hearing ≡ l.hearing
heard_hearing l turn silence = refl
heard_hearing l turn (refused f) = chosen (λ (x : Ledger). x.hearing ≡ l.hearing) (dials l) (refused_in l turn (error.Io f)) l (λ t. refl) (λ d. refl)
heard_hearing l turn overdue = refl
heard_hearing l turn connected = chosen (λ (x : Ledger). x.hearing ≡ l.hearing) (is_over l) l _ (λ t. refl) (λ f. refl)
heard_hearing l turn (took count) = chosen (λ (x : Ledger). x.hearing ≡ l.hearing) l.up _ l (λ t. refl) (λ f. refl)
heard_hearing l turn (came piece) = chosen (λ (x : Ledger). x.hearing ≡ l.hearing) l.up (bytes_came l piece) l (λ t. holds_bytes (λ (x : Ledger). x.hearing ≡ l.hearing) l piece (λ rest strange told more. refl)) (λ f. refl)
heard_hearing l turn (failed f) = refl
heard_hearing l turn (authorized c) = chosen (λ (x : Ledger). x.hearing ≡ l.hearing) (awaits_credentials l) (authorized_by l c) l (λ t. refl) (λ f. refl)
heard_hearing l turn (renewed c) = chosen (λ (x : Ledger). x.hearing ≡ l.hearing) (may_renew l) (renewed_by l c) l (λ t. refl) (λ f. refl)
heard_hearing l turn unrenewed = chosen (λ (x : Ledger). x.hearing ≡ l.hearing) l.up (unrenewed_by l) l (λ t. refl) (λ f. refl)
heard_hearing l turn (late k) = chosen (λ (x : Ledger). x.hearing ≡ l.hearing) (l.up && is_renewal_open l k) (lost_by l) l (λ t. refl) (λ f. refl)
heard_hearing l turn unrepeated = chosen (λ (x : Ledger). x.hearing ≡ l.hearing) (is_repeating l) (unrepeated_by l) l (λ t. refl) (λ f. refl)
heard_hearing l turn (denied text) = refl
heard_hearing l turn deserted = refl
heard_hearing l turn dropped = refl
heard_hearing l turn shut = refl

-- the turn of an event that is of no account for submissions
--
-- tries are of the starts
pub tries_by : (l after : Ledger) (story : ℕ → Story) (requests : List Request) (link : ℕ) (started : List ℕ) → after.starts ≡ l.starts → after.hearing ≡ l.hearing → TiedTries l story requests link started → TiedTries after story requests link started
tries_by l after story requests link started e hearing h = record {
  owners = λ plain. subst (λ (ss : List Start). owners_of ss ≡ setup_owners (setup_count ss) (owners_each requests started)) (sym e) (h.owners (ap is_watching (sym hearing) ∙ plain));
  greeted = λ w. subst (λ (ss : List Start). HasGreetedAlone ss started) (sym e) (h.greeted (ap is_watching (sym hearing) ∙ w));
  shapes = λ k p s w i j. h.shapes k p s w i (ap (λ (ss : List Start). slice_get ss (setup_count ss + k)) (sym e) ∙ j);
  tried = λ k p w i. h.tried k p w i ∙ ap (λ (ss : List Start). record { link = link; message = setup_count ss + k } ∷ []) (sym e);
  untried = h.untried;
}

-- what was asked for a link's credentials: a source, a second one, and timers
record Sought : Type 0 where
  first : Bool
  second : Bool
  timers : ℕ

abbrev sought : Ledger → Sought
sought l = record { first = l.creds.asked; second = l.creds.renews; timers = l.creds.timed }

-- news ask for none of these
news_seek : (l : Ledger) (turn : ℕ) (n : News) → sought (noted l (hears turn n)) ≡ sought l
news_seek l turn silence = refl
news_seek l turn overdue = refl
news_seek l turn connected = chosen (λ (x : Ledger). sought x ≡ sought l) (is_over l) l (record l { up = true }) (λ t. refl) (λ f. refl)
news_seek l turn (refused f) = chosen (λ (x : Ledger). sought x ≡ sought l) (dials l) (refused_in l turn (error.Io f)) l (λ t. refl) (λ d. refl)
news_seek l turn (took count) = chosen (λ (x : Ledger). sought x ≡ sought l) l.up _ l (λ t. refl) (λ f. refl)
news_seek l turn (came piece) = chosen (λ (x : Ledger). sought x ≡ sought l) l.up (bytes_came l piece) l (λ t. holds_bytes (λ (x : Ledger). sought x ≡ sought l) l piece (λ rest strange told more. refl)) (λ f. refl)
news_seek l turn (failed f) = refl
news_seek l turn (authorized c) = chosen (λ (x : Ledger). sought x ≡ sought l) (awaits_credentials l) (authorized_by l c) l (λ t. refl) (λ f. refl)
news_seek l turn (denied text) = refl
news_seek l turn deserted = refl
news_seek l turn (renewed c) = chosen (λ (x : Ledger). sought x ≡ sought l) (may_renew l) (renewed_by l c) l (λ t. refl) (λ f. refl)
news_seek l turn unrenewed = chosen (λ (x : Ledger). sought x ≡ sought l) l.up (unrenewed_by l) l (λ t. refl) (λ f. refl)
news_seek l turn (late k) = chosen (λ (x : Ledger). sought x ≡ sought l) (l.up && is_renewal_open l k) (lost_by l) l (λ t. refl) (λ f. refl)
news_seek l turn unrepeated = chosen (λ (x : Ledger). sought x ≡ sought l) (is_repeating l) (unrepeated_by l) l (λ t. refl) (λ f. refl)
news_seek l turn dropped = refl
news_seek l turn shut = refl

pub sources_hear : (l : Ledger) (turn : ℕ) (n : News) → (noted l (hears turn n)).creds.asked ≡ l.creds.asked
sources_hear l turn n = ap (λ (s : Sought). s.first) (news_seek l turn n)

pub renews_hear : (l : Ledger) (turn : ℕ) (n : News) → (noted l (hears turn n)).creds.renews ≡ l.creds.renews
renews_hear l turn n = ap (λ (s : Sought). s.second) (news_seek l turn n)

pub timed_hear : (l : Ledger) (turn : ℕ) (n : News) → (noted l (hears turn n)).creds.timed ≡ l.creds.timed
timed_hear l turn n = ap (λ (s : Sought). s.timers) (news_seek l turn n)

-- what news leave of a link: that it was asked for, whether another attempt follows, and what protocol its server is told
pub record KeepsAsked (l m : Ledger) : Type 0 where
  pub asked : m.asked ≡ l.asked
  pub last : m.last ≡ l.last
  pub protocol : m.info.protocol ≡ l.info.protocol

same_asked : (l : Ledger) → KeepsAsked l l
same_asked l = record { asked = refl; last = refl; protocol = refl }

pub asked_hear : (l : Ledger) (turn : ℕ) (n : News) → KeepsAsked l (noted l (hears turn n))
asked_hear l turn n = record { asked = (by_news n).asked; last = (by_news n).last; protocol = (by_news n).protocol }
  where
    by_news : (n : News) → KeepsAsked l (with_news l turn n)
    by_news silence = same_asked l
    by_news overdue = same_asked l
    by_news connected = chosen (KeepsAsked l) (is_over l) l (record l { up = true }) (λ t. same_asked l) (λ f. record { asked = refl; last = refl; protocol = refl })
    by_news (refused f) = chosen (KeepsAsked l) (dials l) (refused_in l turn (error.Io f)) l (λ t. record { asked = refl; last = refl; protocol = refl }) (λ d. same_asked l)
    by_news (took count) = chosen (KeepsAsked l) l.up _ l (λ t. record { asked = refl; last = refl; protocol = refl }) (λ f. same_asked l)
    by_news (came piece) = chosen (KeepsAsked l) l.up (bytes_came l piece) l (λ t. holds_bytes (KeepsAsked l) l piece (λ rest strange told more. record { asked = refl; last = refl; protocol = refl })) (λ f. same_asked l)
    by_news (failed f) = same_asked l
    by_news (authorized c) = chosen (KeepsAsked l) (awaits_credentials l) (authorized_by l c) l (λ t. record { asked = refl; last = refl; protocol = refl }) (λ f. same_asked l)
    by_news (denied text) = same_asked l
    by_news deserted = same_asked l
    by_news (renewed c) = chosen (KeepsAsked l) (may_renew l) (renewed_by l c) l (λ t. record { asked = refl; last = refl; protocol = refl }) (λ f. same_asked l)
    by_news unrenewed = chosen (KeepsAsked l) l.up (unrenewed_by l) l (λ t. record { asked = refl; last = refl; protocol = refl }) (λ f. same_asked l)
    by_news (late k) = chosen (KeepsAsked l) (l.up && is_renewal_open l k) (lost_by l) l (λ t. record { asked = refl; last = refl; protocol = refl }) (λ f. same_asked l)
    by_news unrepeated = chosen (KeepsAsked l) (is_repeating l) (unrepeated_by l) l (λ t. record { asked = refl; last = refl; protocol = refl }) (λ f. same_asked l)
    by_news dropped = same_asked l
    by_news shut = same_asked l

-- so all sources are for it as they were
pub uses_hear : (sources : List SourceUse) (link : ℕ) (l : Ledger) (turn : ℕ) (n : News) → AreUses sources link l.creds.asked l.creds.renews → (let m = noted l (hears turn n) in AreUses sources link m.creds.asked m.creds.renews)
uses_hear sources link l turn n h =
    let m = noted l (hears turn n) in
    subst (λ (x : Bool). AreUses sources link x m.creds.renews) (sym (sources_hear l turn n)) (subst (λ (x : Bool). AreUses sources link l.creds.asked x) (sym (renews_hear l turn n)) h)
