-- The actions of a turn stand segment by segment.
use Rattle.std.proofs.Common.{◌⊎◌, inl, inr, ℕ, zero, suc, ◌<◌, ◌≤◌, nat_le, List, [], ◌∷◌, ap, arith}
use Rattle.containers.proofs.Choices.{by_test, le_from, not_le_from}
use Rattle.driver_model.specs.declared.action.Action.{Action}
use Rattle.driver_model.specs.declared.action.Action.TheVariants as action
use Rattle.driver_model.specs.declared.action.Cause.TheVariants as cause
use Rattle.driver_model.specs.declared.action.Owner.TheVariants as owner
use Rattle.driver_model.specs.declared.action.Purpose.{Purpose}
use Rattle.driver_model.specs.declared.config.Config.{Config}
use Rattle.driver_model.specs.declared.event.Event.{Event}
use Rattle.driver_model.specs.declared.outcome.Outcome.{Outcome}
use Rattle.driver_model.specs.Push.{is_disconnection}
use Rattle.legal_trace.specs.Ledger.{is_over}
use Rattle.legal_trace.specs.Book.{Book, blank_book, entered, is_rest, is_of_connect}
use Rattle.legal_trace.specs.Legal.{MayStand, MayTimer, MayAnswer, MayTell, AllStand, link_of, IsApplied, IsMoved, IsWritten, Legal}
use Rattle.legal_laws.specs.Segments.{answers_in, timer_in, segment, MayCome, AreInOrder}
use Rattle.legal_laws.proofs.Traces.Held.{start_applied, setup_applied, tell_applied, take_applied, ask_applied, write_moved, wait_written, renew_applied, watch_applied, round_applied, repeat_applied}
use Rattle.legal_laws.proofs.Traces.Ranks.{rank, not_done, step_of, applied, moved, written, answer_first, creation_first, push_first}
use Rattle.legal_laws.proofs.Traces.Sound.{Sound, stays_sound, blank_is_sound}
use Rattle.legal_laws.proofs.Submissions.Rounds.{round_begun}

-- what is done in a turn from this segment on
abbrev pub DoneIn : ℕ → Book → Type 0
DoneIn zero b = Unit {0}
DoneIn (suc zero) b = Unit {0}
DoneIn (suc (suc zero)) b = IsApplied b
DoneIn (suc (suc (suc zero))) b = IsMoved b
DoneIn (suc (suc (suc (suc zero)))) b = IsWritten b
DoneIn (suc (suc (suc (suc (suc more))))) b = ⊥

-- behind an outcome
outcome_done : (b : Book) (n : ℕ) (o : Outcome) (may : MayAnswer b n o ⊎ MayTell b n o) → DoneIn (answers_in b n o may) (entered b (action.Outcome n o))
outcome_done b n o (inl owes) = tt
outcome_done b n o (inr told) = tell_applied b n o told

-- behind a timer
timer_done : (b : Book) (t ms : ℕ) (what : Purpose) (may : MayTimer b t ms what) → DoneIn (timer_in b t ms what may) (entered b (action.Timer t ms what))
timer_done b t ms what (inl may) = tt
timer_done b t ms what (inr (inl may)) = ask_applied b t ms what (ap is_rest may.is_for) (ap is_of_connect may.is_for) may.begun.applied
timer_done b t ms what (inr (inr (inl may))) = ask_applied b t ms what (ap is_rest may.is_for) (ap is_of_connect may.is_for) may.applied
timer_done b t ms what (inr (inr (inr may))) = ask_applied b t ms what (ap is_rest may.is_for) (ap is_of_connect may.is_for) may.applied

-- behind each action
done_behind : (b : Book) (a : Action) (may : MayStand b a) → Sound b → DoneIn (segment b a may) (entered b a)
done_behind b (action.Turn k (cause.Opening config word)) may h = tt
done_behind b (action.Turn k (cause.Event e)) may h = tt
done_behind b (action.Connect l host port) may h = tt
done_behind b (action.Timer t ms what) may h = timer_done b t ms what may
done_behind b (action.Took owner.Setup l count) may h = absurd may
done_behind b (action.Took owner.Auth l count) may h = absurd may
done_behind b (action.Took owner.Resub l count) may h = absurd may
done_behind b (action.Took owner.Monitor l count) may h = absurd may
done_behind b (action.Took (owner.Try n round) l count) may h = take_applied b n round l count may.1.begun.applied
done_behind b (action.Push l info) may h = tt
done_behind b (action.Message msg) may h = tt
done_behind b (action.Monitor v) may h = tt
done_behind b (action.NeedCreds c l) may h = tt
done_behind b (action.Generation g) may h = tt
done_behind b (action.Round owner.Setup on) may h = absurd may
done_behind b (action.Round owner.Auth on) may h = absurd may
done_behind b (action.Round owner.Resub on) may h = absurd may
done_behind b (action.Round owner.Monitor on) may h = absurd may
done_behind b (action.Round (owner.Try n round) on) may h = round_applied b n round on (round_begun b n on may.1).applied
done_behind b (action.Close l) may h = tt
done_behind b (action.Created e) may h = tt
done_behind b (action.Outcome n o) may h = outcome_done b n o may
done_behind b (action.Start l k owner.Setup count len) may h = setup_applied b l k count len may h
done_behind b (action.Start l k owner.Resub count len) may h = repeat_applied b l k count len may h
done_behind b (action.Start l k owner.Monitor count len) may h = watch_applied b l k count len may h
done_behind b (action.Start l k owner.Auth count len) may h = renew_applied b l k count len may h
done_behind b (action.Start l k (owner.Try n round) count len) may h = start_applied b l k n round count len may.1 h
done_behind b (action.Write l bytes) may h = write_moved b l bytes may.moved
done_behind b (action.Wait owner.Setup kind) may h = absurd may
done_behind b (action.Wait owner.Auth kind) may h = absurd may
done_behind b (action.Wait owner.Resub kind) may h = absurd may
done_behind b (action.Wait owner.Monitor kind) may h = absurd may
done_behind b (action.Wait (owner.Try n round) kind) may h = wait_written b n round kind may.1 may.1.written

-- from the fourth segment on all is written
written_from : (b : Book) (k : ℕ) → 4 ≤ k → DoneIn k b → IsWritten b
written_from b zero i h = absurd (omega arith)
written_from b (suc zero) i h = absurd (omega arith)
written_from b (suc (suc zero)) i h = absurd (omega arith)
written_from b (suc (suc (suc zero))) i h = absurd (omega arith)
written_from b (suc (suc (suc (suc zero)))) i h = h
written_from b (suc (suc (suc (suc (suc more))))) i h = absurd h

-- from the third on all has started
moved_from : (b : Book) (k : ℕ) → 3 ≤ k → DoneIn k b → IsMoved b
moved_from b zero i h = absurd (omega arith)
moved_from b (suc zero) i h = absurd (omega arith)
moved_from b (suc (suc zero)) i h = absurd (omega arith)
moved_from b (suc (suc (suc zero))) i h = h
moved_from b (suc (suc (suc (suc more)))) i h = (written_from b (suc (suc (suc (suc more)))) (omega arith) h).moved

-- from the second on the event has had its effect
applied_from : (b : Book) (k : ℕ) → 2 ≤ k → DoneIn k b → IsApplied b
applied_from b zero i h = absurd (omega arith)
applied_from b (suc zero) i h = absurd (omega arith)
applied_from b (suc (suc zero)) i h = h
applied_from b (suc (suc (suc more))) i h = (moved_from b (suc (suc (suc more))) (omega arith) h).begun.applied

-- an effect comes behind no pass, a pass behind no write, and a write behind no wait
effect_early : (b : Book) (a : Action) (may : MayStand b a) (k : ℕ) → Sound b → DoneIn k b → rank b a may < 11 → k ≤ 1
effect_early b a may k h done r = by_test (nat_le k 1) (k ≤ 1) (le_from k 1)
    (λ f. absurd (not_done b a may (step_of b (rank b a may) 11 r (applied b h (applied_from b k (not_le_from k 1 f) done)))))

-- nothing of the second comes behind the third
pass_early : (b : Book) (a : Action) (may : MayStand b a) (k : ℕ) → Sound b → DoneIn k b → rank b a may < 18 → k ≤ 2
pass_early b a may k h done r = by_test (nat_le k 2) (k ≤ 2) (le_from k 2)
    (λ f. absurd (not_done b a may (step_of b (rank b a may) 18 r (moved b h (moved_from b k (not_le_from k 2 f) done)))))

-- nothing of the third comes behind the fourth
write_early : (b : Book) (a : Action) (may : MayStand b a) (k : ℕ) → Sound b → DoneIn k b → rank b a may < 19 → k ≤ 3
write_early b a may k h done r = by_test (nat_le k 3) (k ≤ 3) (le_from k 3)
    (λ f. absurd (not_done b a may (step_of b (rank b a may) 19 r (written b h (written_from b k (not_le_from k 3 f) done)))))

-- there is none behind the fourth
at_most_four : (b : Book) (k : ℕ) → DoneIn k b → k ≤ 4
at_most_four b zero h = omega arith
at_most_four b (suc zero) h = omega arith
at_most_four b (suc (suc zero)) h = omega arith
at_most_four b (suc (suc (suc zero))) h = omega arith
at_most_four b (suc (suc (suc (suc zero)))) h = omega arith
at_most_four b (suc (suc (suc (suc (suc more))))) h = absurd h

-- an outcome comes in its segment
outcome_early : (b : Book) (n : ℕ) (o : Outcome) (may : MayAnswer b n o ⊎ MayTell b n o) (k : ℕ) → Sound b → DoneIn k b → k ≤ answers_in b n o may
outcome_early b n o (inl owes) k h done = effect_early b (action.Outcome n o) (inl owes) k h done (answer_first (is_over (link_of b n)))
outcome_early b n o (inr told) k h done = pass_early b (action.Outcome n o) (inr told) k h done (omega arith)

-- and a timer
timer_early : (b : Book) (t ms : ℕ) (what : Purpose) (may : MayTimer b t ms what) (k : ℕ) → Sound b → DoneIn k b → k ≤ timer_in b t ms what may
timer_early b t ms what (inl (inl may)) k h done = effect_early b (action.Timer t ms what) (inl (inl may)) k h done (omega arith)
timer_early b t ms what (inl (inr may)) k h done = effect_early b (action.Timer t ms what) (inl (inr may)) k h done (omega arith)
timer_early b t ms what (inr (inl may)) k h done = pass_early b (action.Timer t ms what) (inr (inl may)) k h done (omega arith)
timer_early b t ms what (inr (inr (inl may))) k h done = pass_early b (action.Timer t ms what) (inr (inr (inl may))) k h done (omega arith)
timer_early b t ms what (inr (inr (inr may))) k h done = pass_early b (action.Timer t ms what) (inr (inr (inr may))) k h done (omega arith)

-- so does each action that may stand
comes : (b : Book) (a : Action) (may : MayStand b a) (k : ℕ) → Sound b → DoneIn k b → MayCome k b a may
comes b (action.Turn j c) may k h done = tt
comes b (action.Connect l host port) may k h done = effect_early b (action.Connect l host port) may k h done (omega arith)
comes b (action.Timer t ms what) may k h done = timer_early b t ms what may k h done
comes b (action.Took owner.Setup l count) may k h done = absurd may
comes b (action.Took owner.Auth l count) may k h done = absurd may
comes b (action.Took owner.Resub l count) may k h done = absurd may
comes b (action.Took owner.Monitor l count) may k h done = absurd may
comes b (action.Took (owner.Try n round) l count) may k h done = pass_early b (action.Took (owner.Try n round) l count) may k h done (omega arith)
comes b (action.Push l info) may k h done = effect_early b (action.Push l info) may k h done (push_first (is_disconnection info.kind))
comes b (action.Message msg) may k h done = effect_early b (action.Message msg) may k h done (omega arith)
comes b (action.Monitor v) may k h done = effect_early b (action.Monitor v) may k h done (omega arith)
comes b (action.NeedCreds c l) may k h done = effect_early b (action.NeedCreds c l) may k h done (omega arith)
comes b (action.Generation g) may k h done = effect_early b (action.Generation g) may k h done (omega arith)
comes b (action.Round owner.Setup on) may k h done = absurd may
comes b (action.Round owner.Auth on) may k h done = absurd may
comes b (action.Round owner.Resub on) may k h done = absurd may
comes b (action.Round owner.Monitor on) may k h done = absurd may
comes b (action.Round (owner.Try n round) on) may k h done = pass_early b (action.Round (owner.Try n round) on) may k h done (omega arith)
comes b (action.Close l) may k h done = effect_early b (action.Close l) may k h done (omega arith)
comes b (action.Created e) may k h done = effect_early b (action.Created e) may k h done (creation_first b e may)
comes b (action.Outcome n o) may k h done = outcome_early b n o may k h done
comes b (action.Start l j owner.Setup count len) may k h done = pass_early b (action.Start l j owner.Setup count len) may k h done (omega arith)
comes b (action.Start l j owner.Auth count len) may k h done = pass_early b (action.Start l j owner.Auth count len) may k h done (omega arith)
comes b (action.Start l j owner.Resub count len) may k h done = pass_early b (action.Start l j owner.Resub count len) may k h done (omega arith)
comes b (action.Start l j owner.Monitor count len) may k h done = pass_early b (action.Start l j owner.Monitor count len) may k h done (omega arith)
comes b (action.Start l j (owner.Try n round) count len) may k h done = pass_early b (action.Start l j (owner.Try n round) count len) may k h done (omega arith)
comes b (action.Write l bytes) may k h done = write_early b (action.Write l bytes) may k h done (omega arith)
comes b (action.Wait owner.Setup kind) may k h done = absurd may
comes b (action.Wait owner.Auth kind) may k h done = absurd may
comes b (action.Wait owner.Resub kind) may k h done = absurd may
comes b (action.Wait owner.Monitor kind) may k h done = absurd may
comes b (action.Wait (owner.Try n round) kind) may k h done = at_most_four b k done

-- and actions behind one another
each_comes : (b : Book) (k : ℕ) (trace : List Action) (all : AllStand b trace) → Sound b → DoneIn k b → AreInOrder k b trace all
each_comes b k [] all h done = tt
each_comes b k (a ∷ more) all h done =
    (comes b a all.0 k h done, each_comes (entered b a) (segment b a all.0) more all.1 (stays_sound b a all.0 h) (done_behind b a all.0 h))

-- and so in a legal trace
pub in_segments : (config : Config) (word : ℕ) (events : List Event) (trace : List Action) (h : Legal config word events trace) → AreInOrder 0 blank_book trace h.each
in_segments config word events trace h = each_comes blank_book 0 trace h.each blank_is_sound tt
