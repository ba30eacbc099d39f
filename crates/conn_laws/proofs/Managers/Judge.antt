-- How a link ended: by a fault once it was set up, or because its opening failed. One that has ended hears nothing more.
use Rattle.std.proofs.Common.{◌≡◌, ◌≢◌, ℕ, Bool, true, false, ◌&&◌, not, [], ◌++◌, take, Option, Some, None, is_some, refl, sym, ap, ◌∙◌}
use Rattle.containers.proofs.Choices.{by_test, chosen, not_both}
use Rattle.redis_error.specs.declared.redis_error.RedisError.{RedisError}
use Rattle.redis_error.specs.declared.redis_error.RedisError.TheVariants as error
use Rattle.driver_model.specs.declared.outcome.Outcome.TheVariants as outcome
use Rattle.driver_model.specs.News.{News, authorized, came, connected, denied, deserted, dropped, failed, late, overdue, refused, renewed, took, unrenewed, unrepeated, silence, shut as down}
use Rattle.mux_conn.specs.declared.life.Life.{Life}
use Rattle.mux_conn.specs.declared.life.Life.TheVariants.{Resting, Dialing, Wanting, SettingUp, Ready, Ended}
use Rattle.legal_trace.specs.Ledger.{End, Ending, Ledger, authorized_by, awaits_credentials, bytes_came, dials, is_renewal_open, is_repeating, lost_by, may_renew, refused_in, renewed_by, unrenewed_by, unrepeated_by, with_news, by_attempt, by_fault, by_opening, by_shutdown, failure_in, failure_of, hears, is_fault, is_over, noted}
use Rattle.legal_trace.specs.Owed.{owed_by, owed_unstarted}
use Rattle.legal_trace.proofs.Ledgers.{dials_from}
use Rattle.conn_laws.proofs.Links.Lost.{IsEndOf, IsOldEnd, is_shut_down}
use Rattle.conn_laws.proofs.Ties.Tied.{IsOver, TiedLife}
use Rattle.conn_laws.proofs.Internal.Repeats.{HasServed}
use Rattle.mux_conn.specs.declared.again.Again.{Again}
use Rattle.mux_conn.specs.Connection.{is_outstanding}

-- how a link ended
--
-- one that was set up ended by a fault, while it took requests where it did, where its opening didn't fail and nothing was shut down
pub by_fault_alone : (turn : ℕ) (end : End) (e : RedisError) (opened stopped : Bool) (a : Again) → stopped ≡ false → IsEndOf turn end → HasServed (Some end) a → owed_unstarted (Some end) ≡ Some (outcome.Fault e) → IsOver (Some end) stopped opened → (is_fault end.why && end.served) ≡ (opened && not (is_outstanding a))
by_fault_alone turn end e opened stopped a runs ends serving owes over = by_why end.why refl
  where
    failed : (x : RedisError) → end.why ≡ by_opening x → opened ≡ false
    failed x is = by_test opened _ (λ t. (let no : ◌≡◌ {A = Option RedisError} (Some x) None = sym (ap failure_of is) ∙ over.unfailed t in cc)) (λ f. f)

    well : failure_of end.why ≡ None → opened ≡ true
    well none = by_test opened _ (λ t. t) (λ f. absurd (over.failed f runs none))

    served : Bool
    served = not (is_outstanding a)

    by_why : (why : Ending) → end.why ≡ why → (is_fault end.why && end.served) ≡ (opened && served)
    by_why by_shutdown is = absurd (not_both (is_shut_down end.why) ends.well (ap is_shut_down is))
    by_why (by_fault f) is = (λ i. is_fault (is i) && serving end refl (ap is_fault is) i) ∙ sym (ap (λ x. x && served) (well (ap failure_of is)))
    by_why (by_opening x) is = ap (λ why. is_fault why && end.served) is ∙ sym (ap (λ y. y && served) (failed x is))
    by_why (by_attempt x) is = absurd (none_owed (sym (ap owed_by is) ∙ owes))
      where
        none_owed : ◌≡◌ {A = Option outcome.the_data} None (Some (outcome.Fault e)) → ⊥
        none_owed none = cc

-- whether its opening failed is what the session says of it
pub failed_so : (end : End) (opened stopped : Bool) → stopped ≡ false → IsOver (Some end) stopped opened → is_some (failure_in (Some end)) ≡ not opened
failed_so end true stopped runs over = ap is_some (over.unfailed refl)
failed_so end false stopped runs over = some (failure_of end.why) (over.failed refl runs)
  where
    some : (x : Option RedisError) → x ≢ None → is_some x ≡ true
    some None other = absurd (other refl)
    some (Some x) other = refl

-- a turn of a session between two turns
--
-- a link that has ended hears nothing more
pub old_heard : (l : Ledger) (turn : ℕ) (n : News) (end : End) → l.up ≡ false → l.end ≡ Some end → IsOldEnd end (noted l (hears turn n))
old_heard l turn n end low was = keeps (with_news l turn n) (by_news n)
  where
    over : is_over l ≡ true
    over = ap is_some was

    keeps : (x : Ledger) → IsOldEnd end x → IsOldEnd end (record x { heard = n })
    keeps x h = record { down = h.down; was = h.was }

    same : IsOldEnd end l
    same = record { down = low; was = was }

    still : (x : Ledger) → l.up ≡ true → IsOldEnd end x
    still x up = absurd (not_both l.up low up)

    by_news : (m : News) → IsOldEnd end (with_news l turn m)
    by_news silence = same
    by_news connected = chosen (IsOldEnd end) (is_over l) l (record l { up = true }) (λ t. same) (λ f. absurd (not_both (is_over l) f over))
    by_news (refused f) = chosen (IsOldEnd end) (dials l) (refused_in l turn (error.Io f)) l (λ t. absurd (not_both (is_over l) (dials_from l t).2 over)) (λ d. same)
    by_news overdue = same
    by_news (took count) = chosen (IsOldEnd end) l.up (record l { taken = l.taken ++ take count l.offer; offer = [] }) l (λ t. still _ t) (λ f. same)
    by_news (came piece) = chosen (IsOldEnd end) l.up (bytes_came l piece) l (λ t. still _ t) (λ f. same)
    by_news (failed f) = same
    by_news (authorized c) = chosen (IsOldEnd end) (awaits_credentials l) (authorized_by l c) l (λ t. record { down = low; was = was }) (λ f. same)
    by_news (denied text) = same
    by_news deserted = same
    by_news (renewed c) = chosen (IsOldEnd end) (may_renew l) (renewed_by l c) l (λ t. record { down = low; was = was }) (λ f. same)
    by_news unrenewed = chosen (IsOldEnd end) l.up (unrenewed_by l) l (λ t. still _ t) (λ f. same)
    by_news (late k) = chosen (IsOldEnd end) (l.up && is_renewal_open l k) (lost_by l) l (λ t. record { down = low; was = was }) (λ f. same)
    by_news unrepeated = chosen (IsOldEnd end) (is_repeating l) (unrepeated_by l) l (λ t. record { down = low; was = was }) (λ f. same)
    by_news dropped = same
    by_news down = same

-- a link that has ended has a life that has
pub over_life : (l : Ledger) (created : ℕ) (life : Life) → TiedLife l created life → (l.end ≡ None → ⊥) → (e : RedisError) × (life ≡ Ended e)
over_life l created Resting h over = absurd (over h.2)
over_life l created Dialing h over = absurd (over h.2)
over_life l created (Wanting link) h over = absurd (over h.2)
over_life l created (SettingUp link greeting) h over = absurd (over h.2)
over_life l created (Ready link) h over = absurd (over h.2)
over_life l created (Ended e) h over = (e, refl)
