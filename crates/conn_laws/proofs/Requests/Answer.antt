-- One outcome: what it leaves of requests and of their link.
use Rattle.std.proofs.Common.{◌≡◌, ◌≢◌, inl, inr, ℕ, ◌<◌, Bool, true, false, ◌&&◌, not, is_some, List, [], ◌∷◌, ◌++◌, Option, Some, None, if◌then◌else◌, refl, sym, ap, ◌∙◌, subst}
use Rattle.std.specs.List.{AllByRecursion}
use Rattle.containers.proofs.Choices.{chosen, if_true}
use Rattle.driver_model.specs.declared.outcome.Outcome.{Outcome}
use Rattle.driver_model.specs.declared.outcome.Outcome.TheVariants as outcome
use Rattle.redis_error.specs.declared.redis_error.RedisError.{RedisError}
use Rattle.redis_error.specs.declared.redis_error.RedisError.TheVariants as error
use Rattle.link_core.specs.declared.message.Entry.{Entry}
use Rattle.link_laws.specs.Settles.{wanted}
use Rattle.mux_conn.specs.declared.life.Life.{Life}
use Rattle.mux_conn.specs.declared.life.Life.TheVariants.{Resting, Dialing, Wanting, SettingUp, Ready, Ended}
use Rattle.mux_conn.specs.declared.request.Progress.TheVariants as progress
use Rattle.mux_conn.specs.declared.request.Request.{Request}
use Rattle.mux_conn.specs.Requests.{is_placed, with_permits}
use Rattle.legal_trace.specs.Ledger.{End, Heard, Ledger, is_over, ending, Ending, by_shutdown, by_fault, by_opening, by_attempt}
use Rattle.legal_trace.specs.Story.{Story, is_no_error, answered}
use Rattle.legal_trace.specs.Owed.{owed_by, owed_unstarted, owed_waiting}
use Rattle.conn_laws.proofs.Ties.Numbers.{IsIn, in_right, in_left}
use Rattle.conn_laws.proofs.Ties.Tied.{TiedLife, IsEntry, has_ended}
use Rattle.conn_laws.proofs.Changes.Requests.{progress_count as length_with, test_other as with_other}
use Rattle.conn_laws.proofs.Ties.Aside.{not_up_ends, over_not_asked}
use Rattle.conn_laws.proofs.Requests.Closing.{Closes}
use Rattle.conn_laws.proofs.Ties.Owes.{answered_closed}
use Rattle.mux_conn.specs.Connection.{is_outstanding}
use Rattle.mux_conn.specs.declared.again.Again.{Again}
use Rattle.sub_tracker.specs.Subscribed.{Request as Call}
use Rattle.conn_laws.proofs.Internal.Repeats.{TiedRepeat, calls_kept}
use Rattle.std.proofs.lemmas.List.{append-nil}

-- where it may stand
--
-- an end that owes something is one
pub some_end : (x : Option End) (o : Outcome) → owed_unstarted x ≡ Some o → is_some x ≡ true
some_end None o owes = cc
some_end (Some e) o owes = refl

-- a connection that has ended has a link that is over
pub ended_over : (l : Ledger) (created : ℕ) (life : Life) → has_ended life ≡ true → TiedLife l created life → is_over l ≡ true
ended_over l created Resting over h = cc
ended_over l created Dialing over h = cc
ended_over l created (Wanting link) over h = cc
ended_over l created (SettingUp link greeting) over h = cc
ended_over l created (Ready link) over h = cc
ended_over l created (Ended e) over h = some_end l.end (outcome.Fault e) h.1

-- what has ended need not end
pub ended_ends : (l : Ledger) (created : ℕ) (life : Life) → has_ended life ≡ true → TiedLife l created life → ending l ≡ None
ended_ends l created Resting over h = cc
ended_ends l created Dialing over h = cc
ended_ends l created (Wanting link) over h = cc
ended_ends l created (SettingUp link greeting) over h = cc
ended_ends l created (Ready link) over h = cc
ended_ends l created (Ended e) over h = not_up_ends l h.0 (over_not_asked l (some_end l.end (outcome.Fault e) h.1))

-- none is not some
pub no_push : (x : Option Heard) (y : Heard) → x ≡ None → x ≡ Some y → ⊥
no_push x y e f = let no : ◌≡◌ {A = Option Heard} None (Some y) = sym e ∙ f in cc

-- what it leaves
--
-- an answered story closes
pub answer_closes : (s : Story) (o : Outcome) → Closes s (answered s o)
answer_closes s o = record {
  submission = refl;
  late = refl;
  unspoken = refl;
  link = refl;
  time = refl;
  tries = refl;
  rounded = refl;
  closed = answered_closed (answered s o) s.outcomes o refl;
}

-- entries that are wanted are others
pub entries_answered : (requests : List Request) (p : ℕ) (row : List Entry) → (IsIn p (wanted row) → ⊥) → AllByRecursion (IsEntry requests) row → AllByRecursion (IsEntry (with_permits requests p progress.Closed 0)) row
entries_answered requests p [] apart all = tt
entries_answered requests p (e ∷ es) apart all = (
  elim all.0 [
    | inl r ↦ inl (record {
      below = subst (λ n. e.id < n) (sym (length_with requests p progress.Closed 0)) r.below;
      placed_at = λ t.
          let other : p ≢ e.id = λ same. apart (in_left p (if e.awaited then e.id ∷ [] else []) (wanted es) (if_true (IsIn p) e.awaited (e.id ∷ []) [] t (inl (sym same)))) in
          with_other is_placed requests p e.id progress.Closed 0 other ∙ r.placed_at t;
    })
    | inr a ↦ inr a
  ],
  entries_answered requests p es (λ i. apart (in_right p (if e.awaited then e.id ∷ [] else []) (wanted es) i)) all.1,
)

-- what the answer confirms is of no account for what is subscribed again on the link, where that is answered, or the link has ended
pub tracks_none : (l : Ledger) (calls more : List Call) (within : Option ℕ) (a : Again) (life : Life) → (has_ended life ≡ false → is_outstanding a ≡ true → more ≡ []) → TiedRepeat l calls within a life → TiedRepeat l (calls ++ more) within a life
tracks_none l calls more within a life none h = by_life life h none
  where
    kept : (x : Life) → TiedRepeat l calls within a x → (is_outstanding a ≡ true → more ≡ []) → TiedRepeat l (calls ++ more) within a x
    kept x k still = calls_kept l calls (calls ++ more) within a x (λ open_is. ap (λ cs. calls ++ cs) (still open_is) ∙ append-nil calls) k

    by_life : (x : Life) → TiedRepeat l calls within a x → (has_ended x ≡ false → is_outstanding a ≡ true → more ≡ []) → TiedRepeat l (calls ++ more) within a x
    by_life Resting k still = k
    by_life Dialing k still = kept Dialing k (still refl)
    by_life (Wanting link) k still = kept (Wanting link) k (still refl)
    by_life (SettingUp link greeting) k still = kept (SettingUp link greeting) k (still refl)
    by_life (Ready link) k still = kept (Ready link) k (still refl)
    by_life (Ended e) k still = k

-- what is owed to a submission without a message is an error
--
-- a fault is one
pub fault_is : (e : RedisError) (o : Outcome) → ◌≡◌ {A = Option Outcome} (Some (outcome.Fault e)) (Some o) → is_no_error (o ∷ []) ≡ false
fault_is e o is = let same : outcome.Fault e ≡ o = cc in subst (λ (x : Outcome). is_no_error (x ∷ []) ≡ false) same refl

-- by the end of its link
end_is : (x : Option End) (o : Outcome) → owed_unstarted x ≡ Some o → is_no_error (o ∷ []) ≡ false
end_is None o e = cc
end_is (Some end) o e = by_why end.why e
  where
    by_why : (why : Ending) → owed_by why ≡ Some o → is_no_error (o ∷ []) ≡ false
    by_why by_shutdown e = fault_is error.Closed o e
    by_why (by_fault f) e = fault_is error.Closed o e
    by_why (by_opening x) e = fault_is x o e
    by_why (by_attempt x) e = cc

-- also where everything is shut down
pub waiting_is : (shut : Bool) (l : Ledger) (o : Outcome) → owed_waiting shut l ≡ Some o → is_no_error (o ∷ []) ≡ false
waiting_is shut l o = chosen (λ (x : Option Outcome). x ≡ Some o → is_no_error (o ∷ []) ≡ false) (shut && not l.asked) (Some (outcome.Fault error.Closed)) (owed_unstarted l.end) (λ t. fault_is error.Closed o) (λ f. end_is l.end o)
