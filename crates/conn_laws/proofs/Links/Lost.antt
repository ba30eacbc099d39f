-- How a link ends in a turn that doesn't shut everything down: in that turn. Where a fault ends it, it was ready until then.
use Rattle.std.proofs.Common.{◌≡◌, ◌≢◌, ◌⊎◌, inl, inr, ℕ, Bool, true, false, ◌&&◌, not, List, [], Option, Some, None, refl, sym, ◌∙◌, ap, subst, if◌then◌else◌}
use Rattle.containers.proofs.Choices.{chosen}
use Rattle.redis_error.specs.declared.fault_kind.FaultKind.TheVariants as kind
use Rattle.redis_error.specs.declared.redis_error.RedisError.{RedisError}
use Rattle.redis_error.specs.declared.redis_error.RedisError.TheVariants as error
use Rattle.driver_model.specs.declared.news.LinkFault.TheVariants as fault
use Rattle.driver_model.specs.Hearing.{felt, hears_messages}
use Rattle.driver_model.specs.News.{News, silence, connected, refused, overdue, took, came, failed, authorized, denied, deserted, renewed, unrenewed, late, unrepeated, dropped, shut}
use Rattle.mux_conn.specs.Connection.{is_outstanding}
use Rattle.mux_conn.specs.declared.again.Again.{Again}
use Rattle.legal_trace.specs.Ledger.{Ledger, End, Ending, Start, by_shutdown, by_fault, by_opening, by_attempt, begins, offers, tells, sources, times, repeats_timed, parts, ends, ending, ending_up, ending_unready, ending_asked, ending_alive, ending_by, ending_or_shutdown, error_in, is_fault, is_over, is_ready, is_served, is_set_up, is_unreadable, lacks_credentials, lasting, noted, setup_result, opening_error, authorized_by, awaits_credentials, bytes_came, dials, hears, is_renewal_open, is_repeating, lost_by, may_renew, refused_in, renewed_by, unrenewed_by, unrepeated_by, with_news}
use Rattle.legal_trace.proofs.Came.{holds_bytes}
use Rattle.legal_trace.proofs.Endings.{lasting_is_fault}
use Rattle.legal_trace.proofs.Moves.{up_and_set}
use Rattle.legal_trace.proofs.Plain.{same_some}
use Rattle.conn_laws.proofs.Internal.Repeats.{HasServed}

-- everything was shut down
abbrev pub is_shut_down : Ending → Bool
is_shut_down by_shutdown = true
is_shut_down (by_fault f) = false
is_shut_down (by_opening e) = false
is_shut_down (by_attempt e) = false

-- also where another attempt would follow
lasting_shut_down : (last : Bool) (why : Ending) → is_shut_down (lasting last why) ≡ is_shut_down why
lasting_shut_down true why = refl
lasting_shut_down false by_shutdown = refl
lasting_shut_down false (by_fault f) = refl
lasting_shut_down false (by_opening e) = refl
lasting_shut_down false (by_attempt e) = refl

-- what ends a link
--
-- it is a shutdown where that is heard alone, and where it is a fault the link is ready
abbrev EndsBy : Ledger → News → Option Ending → Type 0
EndsBy l news None = Unit {0}
EndsBy l news (Some why) = (news ≢ shut → is_shut_down why ≡ false) × (is_fault why ≡ true → is_ready l ≡ true)

-- so a shutdown ends it
shut_ends : (l : Ledger) → EndsBy l shut (Some by_shutdown)
shut_ends l = ((λ other. absurd (other refl)), λ is. cc is)

-- on one that is up and set up
ends_up : (l : Ledger) (news : News) → is_ready l ≡ true → EndsBy l news (ending_up l news)
ends_up l silence ready = tt
ends_up l connected ready = tt
ends_up l (refused f) ready = tt
ends_up l overdue ready = tt
ends_up l (took count) ready = tt
ends_up l (came piece) ready = chosen (EndsBy l (came piece)) (is_unreadable l) (Some (by_fault (felt l.hearing fault.Parse))) None (λ t. ((λ other. refl), λ is. ready)) (λ f. tt)
ends_up l (failed f) ready = ((λ other. refl), λ is. ready)
ends_up l (authorized c) ready = tt
ends_up l (denied text) ready = tt
ends_up l deserted ready = tt
ends_up l (renewed c) ready = tt
ends_up l unrenewed ready = tt
ends_up l (late k) ready = tt
ends_up l unrepeated ready = tt
ends_up l dropped ready = chosen (EndsBy l dropped) (hears_messages l.hearing) (Some (by_fault fault.Ended)) None (λ t. ((λ other. refl), λ is. ready)) (λ f. tt)
ends_up l shut ready = shut_ends l

-- a failed opening is no fault
opening_ends : (l : Ledger) (news : News) (e : RedisError) → EndsBy l news (Some (by_opening e))
opening_ends l news e = ((λ other. refl), λ is. cc is)

-- where it may fail
opening_if : (l : Ledger) (news : News) (b : Bool) (e : RedisError) → EndsBy l news (if b then Some (by_opening e) else None)
opening_if l news true e = opening_ends l news e
opening_if l news false e = tt

-- on one that is up and not set up
ends_unready : (l : Ledger) (news : News) → EndsBy l news (ending_unready l news)
ends_unready l silence = tt
ends_unready l connected = tt
ends_unready l (refused f) = tt
ends_unready l overdue = opening_ends l overdue (error.Io kind.TimedOut)
ends_unready l (took count) = tt
ends_unready l (came piece) = opening_if l (came piece) (is_unreadable l) (opening_error l fault.Parse)
ends_unready l (failed f) = opening_ends l (failed f) (opening_error l f)
ends_unready l (authorized c) = tt
ends_unready l (denied text) = opening_if l (denied text) (lacks_credentials l) (error.Credentials text)
ends_unready l deserted = opening_if l deserted (lacks_credentials l) (error.AuthFailed [])
ends_unready l (renewed c) = tt
ends_unready l unrenewed = tt
ends_unready l (late k) = tt
ends_unready l unrepeated = tt
ends_unready l dropped = opening_if l dropped (hears_messages l.hearing) error.Closed
ends_unready l shut = shut_ends l

-- and on one whose connect isn't answered
ends_asked : (l : Ledger) (news : News) → EndsBy l news (ending_asked l news)
ends_asked l silence = tt
ends_asked l connected = tt
ends_asked l (refused f) = tt
ends_asked l overdue = opening_ends l overdue (error.Io kind.TimedOut)
ends_asked l (took count) = tt
ends_asked l (came piece) = tt
ends_asked l (failed f) = tt
ends_asked l (authorized c) = tt
ends_asked l (denied text) = tt
ends_asked l deserted = tt
ends_asked l (renewed c) = tt
ends_asked l unrenewed = tt
ends_asked l (late k) = tt
ends_asked l unrepeated = tt
ends_asked l dropped = opening_if l dropped (hears_messages l.hearing) error.Closed
ends_asked l shut = shut_ends l

-- the error with which a setup failed, or another cause
ends_first : (l : Ledger) (news : News) (e : Option RedisError) (other : Option Ending) → EndsBy l news other → EndsBy l news (ending_by e other)
ends_first l news None other h = h
ends_first l news (Some e) other h = opening_ends l news e

-- so it is of any link
ends_by : (l : Ledger) → EndsBy l l.heard (ending l)
ends_by l =
    chosen (EndsBy l l.heard) l.up (ending_alive l) (if l.asked && not (is_over l) then ending_asked l l.heard else None)
    (λ up. chosen (EndsBy l l.heard) (is_set_up l) (ending_up l l.heard) (ending_by (error_in (setup_result l)) (ending_unready l l.heard))
    (λ set. ends_up l l.heard (up_and_set l up set))
    (λ unset. ends_first l l.heard (error_in (setup_result l)) (ending_unready l l.heard) (ends_unready l l.heard)))
    (λ down. chosen (EndsBy l l.heard) (l.asked && not (is_over l)) (ending_asked l l.heard) None (λ t. ends_asked l l.heard) (λ f. tt))

-- where a fault ends it, it is ready
pub fault_ready : (l : Ledger) (why : Ending) → ending l ≡ Some why → is_fault why ≡ true → is_ready l ≡ true
fault_ready l why must = (subst (EndsBy l l.heard) must (ends_by l)).1

-- so its end says whether it took requests
pub end_served : (l : Ledger) (turn : ℕ) (why : Ending) (a : Again) → ending l ≡ Some why → (is_ready l ≡ true → is_served l ≡ not (is_outstanding a)) → HasServed (noted l (ends turn)).end a
end_served l turn why a must served x is fault =
    let one = same_some _ x is in
    let faulted : is_fault why ≡ true = sym (ap (λ o. is_fault (ending_or_shutdown o)) must) ∙ sym (lasting_is_fault l.last (ending_or_shutdown (ending l))) ∙ ap (λ (y : End). is_fault y.why) one ∙ fault in
    let ready = fault_ready l why must faulted in
    sym (ap (λ (y : End). y.served) one) ∙ (λ i. ready i && is_served l) ∙ served ready

-- how a link has ended
--
-- in this turn, and not by a shutdown
pub record IsEndOf (turn : ℕ) (end : End) : Type 0 where
  pub turn_is : end.turn ≡ turn
  pub well : is_shut_down end.why ≡ false

-- where its end was due it is no shutdown
pub by_ending : (l : Ledger) (why : Ending) → l.heard ≢ shut → ending l ≡ Some why → is_shut_down (lasting l.last (ending_or_shutdown (ending l))) ≡ false
by_ending l why other must =
    lasting_shut_down l.last (ending_or_shutdown (ending l))
    ∙ ap (λ x. is_shut_down (ending_or_shutdown x)) must ∙ (subst (EndsBy l l.heard) must (ends_by l)).0 other

-- a link of which no shutdown is heard, and which ends in this turn, if it does
pub record IsNewEnd (turn : ℕ) (l : Ledger) : Type 0 where
  pub heard : l.heard ≢ shut
  pub end : (e : End) → l.end ≡ Some e → IsEndOf turn e

-- what news make of the end of a link: they leave it, or its connect fails
pub news_end : (l : Ledger) (turn : ℕ) (n : News) → ((with_news l turn n).end ≡ l.end) ⊎ ((e : RedisError) × ((with_news l turn n).end ≡ (refused_in l turn e).end))
news_end l turn silence = inl refl
news_end l turn connected = inl (chosen (λ (x : Ledger). x.end ≡ l.end) (is_over l) l (record l { up = true }) (λ t. refl) (λ f. refl))
news_end l turn (refused f) = chosen (λ (x : Ledger). (x.end ≡ l.end) ⊎ ((e : RedisError) × (x.end ≡ (refused_in l turn e).end))) (dials l) (refused_in l turn (error.Io f)) l (λ t. inr (error.Io f, refl)) (λ d. inl refl)
news_end l turn overdue = inl refl
news_end l turn (took count) = inl (chosen (λ (x : Ledger). x.end ≡ l.end) l.up _ l (λ t. refl) (λ f. refl))
news_end l turn (came piece) = inl (chosen (λ (x : Ledger). x.end ≡ l.end) l.up (bytes_came l piece) l (λ t. holds_bytes (λ (x : Ledger). x.end ≡ l.end) l piece (λ rest strange told more. refl)) (λ f. refl))
news_end l turn (failed f) = inl refl
news_end l turn (authorized c) = inl (chosen (λ (x : Ledger). x.end ≡ l.end) (awaits_credentials l) (authorized_by l c) l (λ t. refl) (λ f. refl))
news_end l turn (denied text) = inl refl
news_end l turn deserted = inl refl
news_end l turn (renewed c) = inl (chosen (λ (x : Ledger). x.end ≡ l.end) (may_renew l) (renewed_by l c) l (λ t. refl) (λ f. refl))
news_end l turn unrenewed = inl (chosen (λ (x : Ledger). x.end ≡ l.end) l.up (unrenewed_by l) l (λ t. refl) (λ f. refl))
news_end l turn (late k) = inl (chosen (λ (x : Ledger). x.end ≡ l.end) (l.up && is_renewal_open l k) (lost_by l) l (λ t. refl) (λ f. refl))
news_end l turn unrepeated = inl (chosen (λ (x : Ledger). x.end ≡ l.end) (is_repeating l) (unrepeated_by l) l (λ t. refl) (λ f. refl))
news_end l turn dropped = inl refl
news_end l turn shut = inl refl

-- so a link that had not ended ends in this turn, if it does
pub new_heard : (l : Ledger) (turn : ℕ) (n : News) → n ≢ shut → l.end ≡ None → IsNewEnd turn (noted l (hears turn n))
new_heard l turn n other alive = record {
  heard = other;
  end = λ e is. elim (news_end l turn n) [
    | inl same ↦ (let no : None ≡ Some e = sym (same ∙ alive) ∙ is in cc)
    | inr new ↦ subst (IsEndOf turn) (same_some _ e (sym new.1 ∙ is)) (record { turn_is = refl; well = lasting_shut_down l.last (by_opening new.0) })
  ];
}

-- a link that had ended, in the same way
pub record IsOldEnd (end : End) (l : Ledger) : Type 0 where
  pub down : l.up ≡ false
  pub was : l.end ≡ Some end

-- where one of two doesn't hold nothing is due
pub neither : (a : Bool) (x : Option Ending) → (if a && false then x else None) ≡ None
neither true x = refl
neither false x = refl

-- what acts do to the ledger of their link
--
-- a fact that all lines of acts keep, but that of the end
pub record KeepsLines (P : Ledger → Type 0) : Type 0 where
  pub begun : (l : Ledger) (s : Start) → P l → P (noted l (begins s))
  pub offered : (l : Ledger) (bytes : List ℕ) → P l → P (noted l (offers bytes))
  pub told : (l : Ledger) → P l → P (noted l tells)
  pub sourced : (l : Ledger) → P l → P (noted l sources)
  pub timed : (l : Ledger) → P l → P (noted l times)
  pub repeat_timed : (l : Ledger) → P l → P (noted l repeats_timed)
  pub parted : (l : Ledger) → P l → P (noted l parts)

pub new_keeps : (turn : ℕ) → KeepsLines (IsNewEnd turn)
new_keeps turn = record {
  begun = λ l s h. record { heard = h.heard; end = h.end };
  offered = λ l bytes h. record { heard = h.heard; end = h.end };
  told = λ l h. record { heard = h.heard; end = h.end };
  sourced = λ l h. record { heard = h.heard; end = h.end };
  timed = λ l h. record { heard = h.heard; end = h.end };
  repeat_timed = λ l h. record { heard = h.heard; end = h.end };
  parted = λ l h. record { heard = h.heard; end = h.end };
}

pub old_keeps : (end : End) → KeepsLines (IsOldEnd end)
old_keeps end = record {
  begun = λ l s h. record { down = h.down; was = h.was };
  offered = λ l bytes h. record { down = h.down; was = h.was };
  told = λ l h. record { down = h.down; was = h.was };
  sourced = λ l h. record { down = h.down; was = h.was };
  timed = λ l h. record { down = h.down; was = h.was };
  repeat_timed = λ l h. record { down = h.down; was = h.was };
  parted = λ l h. record { down = h.down; was = h.was };
}

-- what a link has heard
pub heard_keeps : (n : News) → KeepsLines (λ l. l.heard ≡ n)
heard_keeps n = record { begun = λ l s h. h; offered = λ l bytes h. h; told = λ l h. h; sourced = λ l h. h; timed = λ l h. h; repeat_timed = λ l h. h; parted = λ l h. h }
