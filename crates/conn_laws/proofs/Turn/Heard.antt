-- News for a link: what they leave of its ledger, where no act follows.
use Rattle.std.proofs.Common.{◌≡◌, ◌≢◌, ℕ, false, ◌&&◌, not, List, Option, None, refl, sym, ap, ◌∙◌, subst, Bool, true, ◌⊎◌, inr, inl}
use Rattle.containers.proofs.Choices.{chosen, if_false, left_if, not_both}
use Rattle.redis_error.specs.declared.redis_error.RedisError.TheVariants as error
use Rattle.redis_error.specs.declared.redis_error.RedisError.{RedisError}
use Rattle.driver_model.specs.News.{News, silence, connected, took, came, failed, authorized, denied, deserted, shut, refused, overdue, renewed, unrenewed, late, unrepeated, dropped}
use Rattle.driver_model.specs.declared.outcome.Outcome.TheVariants as outcome
use Rattle.link_core.specs.Link.{LinkState}
use Rattle.mux_conn.specs.declared.request.Request.{Request}
use Rattle.mux_conn.specs.declared.connection.MultiplexedConnection.{MultiplexedConnection}
use Rattle.mux_conn.specs.declared.life.Life.{Life}
use Rattle.mux_conn.specs.declared.life.Life.TheVariants.{Resting, Dialing, Wanting, SettingUp, Ready, Ended}
use Rattle.legal_trace.specs.Ledger.{Ledger, Ending, Sourced, hears, noted, ending, ending_alive, ending_asked, is_over, bytes_came, dials, refused_in, authorized_by, awaits_credentials, is_renewal_open, lost_by, may_renew, renewed_by, unrenewed_by, renewal_count, is_repeating, unrepeated_by}
use Rattle.legal_trace.specs.Story.{Story}
use Rattle.conn_laws.proofs.Links.Said.{mild_end, BringsNothing, brings_in_time}
use Rattle.conn_laws.proofs.Links.Creds.{creds_hear, down_unawaited, unawaited_is, down_may_renew, IsOfRenewals}
use Rattle.conn_laws.proofs.Links.Server.{TiedCreds, TiedRenewal, NoneRenewed}
use Rattle.conn_laws.proofs.Ties.Tied.{TiedLife, TiedWaits, has_ended}
use Rattle.conn_laws.proofs.Ties.States.{IsFit, IsFitIn, IsStopped}
use Rattle.conn_laws.proofs.Requests.Answer.{some_end}
use Rattle.conn_laws.proofs.Ties.Aside.{not_up_ends, over_not_asked}
use Rattle.conn_laws.proofs.Turn.Announce.{heard_starts}
use Rattle.conn_laws.proofs.Internal.Renewals.{renewal_alike}
use Rattle.mux_conn.specs.declared.renewal.Renewal.{Renewal}
use Rattle.legal_trace.proofs.Came.{holds_bytes}
use Rattle.mux_conn.specs.declared.life.Greeting.{Greeting}
use Rattle.mux_conn.specs.Connection.{is_ready, is_resting}
use Rattle.mux_conn.specs.declared.request.Waiting.{Waiting}
use Rattle.conn_laws.proofs.Internal.Repeats.{down_repeats_not}
use Rattle.conn_laws.proofs.Internal.Serving.{unready_serves}
use Rattle.mux_conn.specs.declared.again.Again.{Again}

-- what goes on isn't stopped
pub not_stopped : (life : Life) (waiting : List Waiting) → is_resting life ≡ false → has_ended life ≡ false → IsStopped life waiting → ⊥
not_stopped Resting waiting there alive h = cc
not_stopped Dialing waiting there alive h = h
not_stopped (Wanting link) waiting there alive h = h
not_stopped (SettingUp link greeting) waiting there alive h = h
not_stopped (Ready link) waiting there alive h = h
not_stopped (Ended e) waiting there alive h = cc

-- such news bring no new credentials, and deal nothing
--
creds_still : (l : Ledger) (turn : ℕ) (n : News) → BringsNothing n ⊎ (l.up ≡ false) → (noted l (hears turn n)).creds ≡ l.creds
creds_still l turn n (inr down) = creds_hear l turn n (λ x. down) (down_unawaited l down)
creds_still l turn silence (inl k) = refl
creds_still l turn overdue (inl k) = refl
creds_still l turn connected (inl k) = chosen (λ (x : Ledger). x.creds ≡ l.creds) (is_over l) l (record l { up = true }) (λ t. refl) (λ f. refl)
creds_still l turn (refused f) (inl k) = chosen (λ (x : Ledger). x.creds ≡ l.creds) (dials l) (refused_in l turn (error.Io f)) l (λ t. refl) (λ d. refl)
creds_still l turn (took count) (inl k) = chosen (λ (x : Ledger). x.creds ≡ l.creds) l.up _ l (λ t. refl) (λ f. refl)
creds_still l turn (came piece) (inl k) = absurd k
creds_still l turn (failed f) (inl k) = refl
creds_still l turn (authorized c) (inl k) = absurd k
creds_still l turn (denied text) (inl k) = refl
creds_still l turn deserted (inl k) = refl
creds_still l turn (renewed c) (inl k) = absurd k
creds_still l turn unrenewed (inl k) = absurd k
creds_still l turn (late m) (inl k) = absurd k
creds_still l turn unrepeated (inl k) = absurd k
creds_still l turn dropped (inl k) = refl
creds_still l turn shut (inl k) = refl

-- as many items
pub dealt_still : (l : Ledger) (turn : ℕ) (n : News) → BringsNothing n ⊎ (l.up ≡ false) → (noted l (hears turn n)).dealt ≡ l.dealt
dealt_still l turn silence k = refl
dealt_still l turn overdue k = refl
dealt_still l turn connected k = chosen (λ (x : Ledger). x.dealt ≡ l.dealt) (is_over l) l (record l { up = true }) (λ t. refl) (λ f. refl)
dealt_still l turn (refused f) k = chosen (λ (x : Ledger). x.dealt ≡ l.dealt) (dials l) (refused_in l turn (error.Io f)) l (λ t. refl) (λ d. refl)
dealt_still l turn (took count) k = chosen (λ (x : Ledger). x.dealt ≡ l.dealt) l.up _ l (λ t. refl) (λ f. refl)
dealt_still l turn (came piece) k = elim k [ inl brings ↦ absurd brings | inr down ↦ if_false (λ (x : Ledger). x.dealt ≡ l.dealt) l.up (bytes_came l piece) l down refl ]
dealt_still l turn (failed f) k = refl
dealt_still l turn (authorized c) k = chosen (λ (x : Ledger). x.dealt ≡ l.dealt) (awaits_credentials l) (authorized_by l c) l (λ t. refl) (λ f. refl)
dealt_still l turn (denied text) k = refl
dealt_still l turn deserted k = refl
dealt_still l turn (renewed c) k = chosen (λ (x : Ledger). x.dealt ≡ l.dealt) (may_renew l) (renewed_by l c) l (λ t. refl) (λ f. refl)
dealt_still l turn unrenewed k = chosen (λ (x : Ledger). x.dealt ≡ l.dealt) l.up (unrenewed_by l) l (λ t. refl) (λ f. refl)
dealt_still l turn (late m) k = chosen (λ (x : Ledger). x.dealt ≡ l.dealt) (l.up && is_renewal_open l m) (lost_by l) l (λ t. refl) (λ f. refl)
dealt_still l turn unrepeated k = chosen (λ (x : Ledger). x.dealt ≡ l.dealt) (is_repeating l) (unrepeated_by l) l (λ t. refl) (λ f. refl)
dealt_still l turn dropped k = refl
dealt_still l turn shut k = refl

-- so they leave the new credentials
pub renewal_still : (l : Ledger) (turn : ℕ) (n : News) (r : Renewal) (life : Life) → BringsNothing n ⊎ (l.up ≡ false) → TiedRenewal l r life → TiedRenewal (noted l (hears turn n)) r life
renewal_still l turn n r life k h = renewal_alike l (noted l (hears turn n)) r life (creds_still l turn n k) (heard_starts l turn n) (dealt_still l turn n k) h

-- nor does any other, where none came
none_new : (l : Ledger) (turn : ℕ) (n : News) → (IsOfRenewals n → ⊥) → (let c = (noted l (hears turn n)).creds in (c.over ≡ l.creds.over) × (c.renewals ≡ l.creds.renewals) × (c.timed ≡ l.creds.timed) × (c.lost ≡ l.creds.lost))
none_new l turn silence other = (refl, refl, refl, refl)
none_new l turn overdue other = (refl, refl, refl, refl)
none_new l turn connected other = chosen (λ (x : Ledger). (x.creds.over ≡ l.creds.over) × (x.creds.renewals ≡ l.creds.renewals) × (x.creds.timed ≡ l.creds.timed) × (x.creds.lost ≡ l.creds.lost)) (is_over l) l (record l { up = true }) (λ t. (refl, refl, refl, refl)) (λ f. (refl, refl, refl, refl))
none_new l turn (refused f) other =
    chosen (λ (x : Ledger). (x.creds.over ≡ l.creds.over) × (x.creds.renewals ≡ l.creds.renewals) × (x.creds.timed ≡ l.creds.timed) × (x.creds.lost ≡ l.creds.lost)) (dials l) (refused_in l turn (error.Io f)) l (λ t. (refl, refl, refl, refl)) (λ d. (refl, refl, refl, refl))
none_new l turn (took count) other = chosen (λ (x : Ledger). (x.creds.over ≡ l.creds.over) × (x.creds.renewals ≡ l.creds.renewals) × (x.creds.timed ≡ l.creds.timed) × (x.creds.lost ≡ l.creds.lost)) l.up _ l (λ t. (refl, refl, refl, refl)) (λ f. (refl, refl, refl, refl))
none_new l turn (came piece) other = chosen (λ (x : Ledger). (x.creds.over ≡ l.creds.over) × (x.creds.renewals ≡ l.creds.renewals) × (x.creds.timed ≡ l.creds.timed) × (x.creds.lost ≡ l.creds.lost)) l.up (bytes_came l piece) l (λ t. holds_bytes (λ (x : Ledger). (x.creds.over ≡ l.creds.over) × (x.creds.renewals ≡ l.creds.renewals) × (x.creds.timed ≡ l.creds.timed) × (x.creds.lost ≡ l.creds.lost)) l piece (λ rest strange told more. (refl, refl, refl, refl))) (λ f. (refl, refl, refl, refl))
none_new l turn (failed f) other = (refl, refl, refl, refl)
none_new l turn (authorized c) other =
    chosen (λ (x : Ledger). (x.creds.over ≡ l.creds.over) × (x.creds.renewals ≡ l.creds.renewals) × (x.creds.timed ≡ l.creds.timed) × (x.creds.lost ≡ l.creds.lost)) (awaits_credentials l) (authorized_by l c) l (λ t. (refl, refl, refl, refl)) (λ f. (refl, refl, refl, refl))
none_new l turn (denied text) other = (refl, refl, refl, refl)
none_new l turn deserted other = (refl, refl, refl, refl)
none_new l turn (renewed c) other = absurd (other tt)
none_new l turn unrenewed other = absurd (other tt)
none_new l turn (late m) other = absurd (other tt)
none_new l turn unrepeated other =
    chosen (λ (x : Ledger). (x.creds.over ≡ l.creds.over) × (x.creds.renewals ≡ l.creds.renewals) × (x.creds.timed ≡ l.creds.timed) × (x.creds.lost ≡ l.creds.lost)) (is_repeating l) (unrepeated_by l) l (λ t. (refl, refl, refl, refl)) (λ f. (refl, refl, refl, refl))
none_new l turn dropped other = (refl, refl, refl, refl)
none_new l turn shut other = (refl, refl, refl, refl)

-- so none are there then
pub none_hears : (l : Ledger) (turn : ℕ) (n : News) (r : Renewal) → (IsOfRenewals n → ⊥) → NoneRenewed l r → NoneRenewed (noted l (hears turn n)) r
none_hears l turn n r other h =
    let same = none_new l turn n other in
    record {
      over_is = same.0 ∙ h.over_is;
      came = same.1 ∙ h.came;
      waits = h.waits;
      untimed = same.2 ∙ h.untimed;
      unstarted = ap renewal_count (heard_starts l turn n) ∙ h.unstarted;
      unasked = h.unasked;
      unpending = h.unpending;
      told = h.told;
      kept = same.3 ∙ h.kept;
      found = h.found;
    }

-- what is over isn't dialling
over_dials : (l : Ledger) → is_over l ≡ true → dials l ≡ false
over_dials l over = ap (λ o. l.asked && not l.up && not o) over ∙ none_of l.asked l.up
  where
    none_of : (a b : Bool) → (a && not b && false) ≡ false
    none_of true true = refl
    none_of true false = refl
    none_of false b = refl

-- news leave the end of a link that is over
pub end_hear : (l : Ledger) (turn : ℕ) (n : News) → is_over l ≡ true → (noted l (hears turn n)).end ≡ l.end
end_hear l turn silence over = refl
end_hear l turn overdue over = refl
end_hear l turn connected over = chosen (λ (x : Ledger). x.end ≡ l.end) (is_over l) l (record l { up = true }) (λ t. refl) (λ f. refl)
end_hear l turn (refused f) over = chosen (λ (x : Ledger). x.end ≡ l.end) (dials l) (refused_in l turn (error.Io f)) l (λ t. absurd (not_both (dials l) (over_dials l over) t)) (λ d. refl)
end_hear l turn (took count) over = chosen (λ (x : Ledger). x.end ≡ l.end) l.up _ l (λ t. refl) (λ f. refl)
end_hear l turn (came piece) over = chosen (λ (x : Ledger). x.end ≡ l.end) l.up (bytes_came l piece) l (λ t. holds_bytes (λ (x : Ledger). x.end ≡ l.end) l piece (λ rest strange told more. refl)) (λ f. refl)
end_hear l turn (failed f) over = refl
end_hear l turn (authorized c) over = chosen (λ (x : Ledger). x.end ≡ l.end) (awaits_credentials l) (authorized_by l c) l (λ t. refl) (λ f. refl)
end_hear l turn (denied text) over = refl
end_hear l turn deserted over = refl
end_hear l turn (renewed c) over = chosen (λ (x : Ledger). x.end ≡ l.end) (may_renew l) (renewed_by l c) l (λ t. refl) (λ f. refl)
end_hear l turn unrenewed over = chosen (λ (x : Ledger). x.end ≡ l.end) l.up (unrenewed_by l) l (λ t. refl) (λ f. refl)
end_hear l turn (late m) over = chosen (λ (x : Ledger). x.end ≡ l.end) (l.up && is_renewal_open l m) (lost_by l) l (λ t. refl) (λ f. refl)
end_hear l turn unrepeated over = chosen (λ (x : Ledger). x.end ≡ l.end) (is_repeating l) (unrepeated_by l) l (λ t. refl) (λ f. refl)
end_hear l turn dropped over = refl
end_hear l turn shut over = refl

-- such news don't end the time of what is subscribed again while that isn't answered
pub again_quiet : (l : Ledger) (n : News) → BringsNothing n ⊎ (l.up ≡ false) → n ≡ unrepeated → is_repeating l ≡ false
again_quiet l n (inl k) is = absurd (brings_in_time n k is)
again_quiet l n (inr down) is = down_repeats_not l down

-- what the news are is of no account for how far a link has come
pub told_life : (l : Ledger) (created : ℕ) (life : Life) (n : News) → TiedLife l created life → TiedLife (record l { heard = n }) created life
told_life l created Resting n h = (h.0, h.1, h.2, h.3)
told_life l created Dialing n h = h
told_life l created (Wanting link) n h = h
told_life l created (SettingUp link greeting) n h = h
told_life l created (Ready link) n h = h
told_life l created (Ended e) n h = h

-- a link that has ended hears nothing
--
-- a link that has ended stays as it is
pub ended_hears : (l : Ledger) (created : ℕ) (e : RedisError) (turn : ℕ) (n : News) → TiedLife l created (Ended e) → TiedLife (noted l (hears turn n)) created (Ended e)
ended_hears l created e turn silence h = h
ended_hears l created e turn overdue h = h
ended_hears l created e turn (refused f) h = if_false (λ (x : Ledger). TiedLife x created (Ended e)) (dials l) (refused_in l turn (error.Io f)) l (over_dials l (some_end l.end (outcome.Fault e) h.1)) h
ended_hears l created e turn connected h = chosen (λ (x : Ledger). TiedLife x created (Ended e)) (is_over l) l _ (λ t. h) (λ f. absurd (not_both (is_over l) f (some_end l.end (outcome.Fault e) h.1)))
ended_hears l created e turn (took count) h = if_false (λ (x : Ledger). TiedLife x created (Ended e)) l.up _ l h.0 h
ended_hears l created e turn (came piece) h = if_false (λ (x : Ledger). TiedLife x created (Ended e)) l.up (bytes_came l piece) l h.0 h
ended_hears l created e turn (failed f) h = h
ended_hears l created e turn (authorized c) h = subst (λ (x : Ledger). TiedLife x created (Ended e)) (sym (unawaited_is l turn c (down_unawaited l h.0))) h
ended_hears l created e turn (renewed c) h = if_false (λ (x : Ledger). TiedLife x created (Ended e)) (may_renew l) (renewed_by l c) l (down_may_renew l h.0) h
ended_hears l created e turn unrenewed h = if_false (λ (x : Ledger). TiedLife x created (Ended e)) l.up (unrenewed_by l) l h.0 h
ended_hears l created e turn (late m) h = if_false (λ (x : Ledger). TiedLife x created (Ended e)) (l.up && is_renewal_open l m) (lost_by l) l (ap (λ u. u && is_renewal_open l m) h.0) h
ended_hears l created e turn unrepeated h = if_false (λ (x : Ledger). TiedLife x created (Ended e)) (is_repeating l) (unrepeated_by l) l (down_repeats_not l h.0) h
ended_hears l created e turn (denied text) h = h
ended_hears l created e turn deserted h = h
ended_hears l created e turn dropped h = h
ended_hears l created e turn shut h = h

-- and need not end again
pub over_no_end : (l : Ledger) (created : ℕ) (e : RedisError) → TiedLife l created (Ended e) → ending l ≡ None
over_no_end l created e h = not_up_ends l h.0 (over_not_asked l (some_end l.end (outcome.Fault e) h.1))

-- what is known of its credentials stays
pub down_creds : (l : Ledger) (turn : ℕ) (n : News) (wants : Bool) (life : Life) → l.up ≡ false → TiedCreds l.creds wants life → TiedCreds (noted l (hears turn n)).creds wants life
down_creds l turn n wants life down h = subst (λ (x : Sourced). TiedCreds x wants life) (sym (creds_hear l turn n (λ x. down) (down_unawaited l down))) h

-- a link whose connect isn't answered hears but of that, of the end of its time, and of the shutdown
--
-- news of a link that is up
abbrev pub IsOfAnother : News → Type 0
IsOfAnother (took count) = Unit {0}
IsOfAnother (came piece) = Unit {0}
IsOfAnother (failed f) = Unit {0}
IsOfAnother (authorized c) = Unit {0}
IsOfAnother (denied text) = Unit {0}
IsOfAnother deserted = Unit {0}
IsOfAnother (renewed c) = ⊥
IsOfAnother unrenewed = ⊥
IsOfAnother (late m) = ⊥
IsOfAnother unrepeated = ⊥
IsOfAnother silence = ⊥
IsOfAnother (refused f) = ⊥
IsOfAnother overdue = ⊥
IsOfAnother connected = ⊥
IsOfAnother dropped = ⊥
IsOfAnother shut = ⊥

-- a link whose connect is not answered stays as it is
pub dialing_hears : (l : Ledger) (created turn : ℕ) (n : News) → IsOfAnother n → TiedLife l created Dialing → TiedLife (noted l (hears turn n)) created Dialing
dialing_hears l created turn silence k h = absurd k
dialing_hears l created turn (refused f) k h = absurd k
dialing_hears l created turn overdue k h = absurd k
dialing_hears l created turn connected k h = absurd k
dialing_hears l created turn (took count) k h = if_false (λ (x : Ledger). TiedLife x created Dialing) l.up _ l h.1 h
dialing_hears l created turn (came piece) k h = if_false (λ (x : Ledger). TiedLife x created Dialing) l.up (bytes_came l piece) l h.1 h
dialing_hears l created turn (failed f) k h = h
dialing_hears l created turn (authorized c) k h = subst (λ (x : Ledger). TiedLife x created Dialing) (sym (unawaited_is l turn c (down_unawaited l h.1))) h
dialing_hears l created turn (renewed c) k h = absurd k
dialing_hears l created turn unrenewed k h = absurd k
dialing_hears l created turn (late m) k h = absurd k
dialing_hears l created turn unrepeated k h = absurd k
dialing_hears l created turn (denied text) k h = h
dialing_hears l created turn deserted k h = h
dialing_hears l created turn dropped k h = absurd k
dialing_hears l created turn shut k h = absurd k

-- such news end no link that is not up
asked_on : (l : Ledger) (n : News) → IsOfAnother n → ending_asked l n ≡ None
asked_on l silence k = refl
asked_on l (refused f) k = refl
asked_on l overdue k = absurd k
asked_on l connected k = refl
asked_on l (took count) k = refl
asked_on l (came piece) k = refl
asked_on l (failed f) k = refl
asked_on l (authorized c) k = refl
asked_on l (renewed c) k = refl
asked_on l unrenewed k = refl
asked_on l (late m) k = refl
asked_on l unrepeated k = refl
asked_on l (denied text) k = refl
asked_on l deserted k = refl
asked_on l dropped k = absurd k
asked_on l shut k = absurd k

-- so it need not end
pub dialing_no_end : (l : Ledger) (created turn : ℕ) (n : News) → IsOfAnother n → TiedLife l created Dialing → ending (noted l (hears turn n)) ≡ None
dialing_no_end l created turn n k h =
    let after = noted l (hears turn n) in
    left_if after.up (ending_alive after) _ (dialing_hears l created turn n k h).1
    ∙ chosen (λ (x : Option Ending). x ≡ None) (after.asked && not (is_over after)) (ending_asked after n) None (λ t. asked_on after n k) (λ f. refl)

-- without a link
--
-- a link that was never asked for hears nothing but that its connect succeeded
pub resting_is : (l : Ledger) (turn : ℕ) (n : News) → l.asked ≡ false → l.up ≡ false → n ≢ connected → noted l (hears turn n) ≡ record l { heard = n }
resting_is l turn silence none down other = refl
resting_is l turn overdue none down other = refl
resting_is l turn connected none down other = absurd (other refl)
resting_is l turn (refused f) none down other = ap (λ (x : Ledger). record x { heard = refused f }) (left_if (dials l) (refused_in l turn (error.Io f)) l (ap (λ a. a && not l.up && not (is_over l)) none))
resting_is l turn (took count) none down other = ap (λ (x : Ledger). record x { heard = took count }) (left_if l.up _ l down)
resting_is l turn (came piece) none down other = ap (λ (x : Ledger). record x { heard = came piece }) (left_if l.up (bytes_came l piece) l down)
resting_is l turn (failed f) none down other = refl
resting_is l turn (authorized c) none down other = unawaited_is l turn c (down_unawaited l down)
resting_is l turn (renewed c) none down other = ap (λ (x : Ledger). record x { heard = renewed c }) (left_if (may_renew l) (renewed_by l c) l (down_may_renew l down))
resting_is l turn unrenewed none down other = ap (λ (x : Ledger). record x { heard = unrenewed }) (left_if l.up (unrenewed_by l) l down)
resting_is l turn (late m) none down other = ap (λ (x : Ledger). record x { heard = late m }) (left_if (l.up && is_renewal_open l m) (lost_by l) l (ap (λ u. u && is_renewal_open l m) down))
resting_is l turn unrepeated none down other = ap (λ (x : Ledger). record x { heard = unrepeated }) (left_if (is_repeating l) (unrepeated_by l) l (down_repeats_not l down))
resting_is l turn (denied text) none down other = refl
resting_is l turn deserted none down other = refl
resting_is l turn dropped none down other = refl
resting_is l turn shut none down other = refl

-- a link that hears nothing need not end, where it need not before
pub silent_no_end : (l : Ledger) (turn : ℕ) → ending l ≡ None → ending (noted l (hears turn silence)) ≡ None
silent_no_end l turn none = mild_end l l.taken l.offer silence tt none

-- a link that is set up
--
-- is fit
pub setting_fit : (c : MultiplexedConnection) (link after : LinkState) (was greeting : Greeting) (fresh : List ℕ) → c.life ≡ SettingUp link was → IsFitIn c → IsFit c.size c.boundary after → IsFitIn (record c { life = SettingUp after greeting; fresh = fresh })
setting_fit c link after was greeting fresh e h k = record {
  wanting = λ x is. cc;
  setup = λ x u is. (let same : after ≡ x = cc in subst (IsFit c.size c.boundary) same k);
  link = λ x is. cc;
  none = λ down. h.none (unready_serves c.life c.again (ap is_ready e));
}

-- its waits stay as long as it is set up
pub setting_waits : (story : ℕ → Story) (requests : List Request) (a : Again) (link after : LinkState) (was greeting : Greeting) (fresh moved : List ℕ) → TiedWaits story requests a (SettingUp link was) fresh moved → TiedWaits story requests a (SettingUp after greeting) fresh moved
setting_waits story requests a link after was greeting fresh moved h = record {
  early = h.early;
  backoff = λ p w d. cc;
  connect = λ p w d. cc;
  creds = λ p x w s. cc;
  setup = λ p x u w s. h.setup p link was w refl;
  resubscribe = λ p x w r goes. cc;
  permit = λ p x w r none. cc;
  place = h.place;
  room = λ p i. absurd i;
  newer = h.newer;
  rising = h.rising;
  no_backoff = λ p i w d. cc;
  no_connect = λ p i w d. cc;
  no_creds = λ p x i w s. cc;
  no_setup = λ p x u i w s. h.no_setup p link was i w refl;
  no_resubscribe = λ p x i w r goes. cc;
  unpermitted = λ p x w r goes. cc;
  no_permit = λ p x i w r none. cc;
  no_place = h.no_place;
  seatless = h.seatless;
  no_room = λ p i r. absurd r;
}

-- a link that waits for credentials
--
-- is fit
pub wanting_fit : (c : MultiplexedConnection) (link after : LinkState) → c.life ≡ Wanting link → IsFitIn c → IsFit c.size c.boundary after → IsFitIn (record c { life = Wanting after })
wanting_fit c link after e h k = record {
  wanting = λ x is. (let same : after ≡ x = cc in subst (IsFit c.size c.boundary) same k);
  setup = λ x u is. cc;
  link = λ x is. cc;
  none = λ down. h.none (unready_serves c.life c.again (ap is_ready e));
}

-- and its waits stay
pub wanting_waits : (story : ℕ → Story) (requests : List Request) (a : Again) (link after : LinkState) (fresh moved : List ℕ) → TiedWaits story requests a (Wanting link) fresh moved → TiedWaits story requests a (Wanting after) fresh moved
wanting_waits story requests a link after fresh moved h = record {
  early = h.early;
  backoff = λ p w d. cc;
  connect = λ p w d. cc;
  creds = λ p x w s. h.creds p link w refl;
  setup = λ p x u w s. cc;
  resubscribe = λ p x w r goes. cc;
  permit = λ p x w r none. cc;
  place = h.place;
  room = λ p i. absurd i;
  newer = h.newer;
  rising = h.rising;
  no_backoff = λ p i w d. cc;
  no_connect = λ p i w d. cc;
  no_creds = λ p x i w s. h.no_creds p link i w refl;
  no_setup = λ p x u i w s. cc;
  no_resubscribe = λ p x i w r goes. cc;
  unpermitted = λ p x w r goes. cc;
  no_permit = λ p x i w r none. cc;
  no_place = h.no_place;
  seatless = h.seatless;
  no_room = λ p i r. absurd r;
}
