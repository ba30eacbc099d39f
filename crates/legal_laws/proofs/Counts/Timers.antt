-- How many timers and sources of credentials there are.
use Rattle.std.proofs.Common.{◌≡◌, inl, inr, ℕ, ◌+◌, ◌<◌, ◌≤◌, ◌==◌, false, List, [], ◌∷◌, ◌++◌, length, Option, is_some, refl, sym, ap, subst, arith}
use Rattle.std.proofs.lemmas.List.{length_push}
use Rattle.containers.proofs.Choices.{taken_if, left_if, eq_test, if_true}
use Rattle.driver_model.specs.declared.action.Action.{Action}
use Rattle.driver_model.specs.declared.action.Action.TheVariants as action
use Rattle.driver_model.specs.declared.action.Cause.TheVariants as cause
use Rattle.driver_model.specs.declared.action.Owner.TheVariants as owner
use Rattle.driver_model.specs.declared.action.Purpose.{Purpose}
use Rattle.driver_model.specs.declared.action.Purpose.TheVariants as purpose
use Rattle.legal_trace.specs.Ledger.{Line, noted_each, sources, times, repeats_timed}
use Rattle.legal_trace.specs.Story.{Story, clocked}
use Rattle.legal_trace.specs.Book.{Book, after_timer, entered, is_of_connect, is_rest, timer_lines, use_for}
use Rattle.legal_trace.specs.Legal.{MayStand, MayTimer, MayTimeConnect, MayRest, MayTime, MayNeed}
use Rattle.legal_trace.proofs.Again.{again_is_up}
use Rattle.legal_trace.proofs.Moves.{asker_moves, asks_mean}
use Rattle.legal_trace.proofs.Sources.{second_is_new, source_is_up}
use Rattle.legal_laws.proofs.Counts.Sums.{sum_below, sum_less, sum_longer, sum_with_one}
use Rattle.legal_laws.proofs.Counts.Weights.{one_for, sources_of, timers_of, action_gathers, action_grows, source_more}
use Rattle.legal_laws.proofs.Counts.Links.{current_grows, rest_is_numbered}
use Rattle.legal_laws.proofs.Internal.Timed.{asked_timers}
use Rattle.legal_laws.proofs.Submissions.InLine.{submissions_grow}
use Rattle.legal_laws.proofs.Traces.Numbers.{asked_is_numbered, links_grow, mover_is_numbered, up_is_numbered}
use Rattle.legal_laws.proofs.Traces.Sound.{Sound}

-- how many submissions had a timer asked for
abbrev pub clocks : Book → ℕ
clocks b = sum_below (λ n. one_for (is_some (b.story n).clock)) b.submissions

-- how many timers were asked for, for new credentials and what is subscribed again
abbrev pub link_timers : Book → ℕ
link_timers b = sum_below (λ l. timers_of (b.link l)) b.links

-- and how many sources
abbrev pub link_sources : Book → ℕ
link_sources b = sum_below (λ l. sources_of (b.link l)) b.links

-- a timer is for a connect, a wait behind an attempt, a submission or a link; and a source for a link
pub record HasCounted (b : Book) : Type 0 where
  pub timers : length b.timers ≤ b.timed + b.current + clocks b + link_timers b
  pub timed : b.timed ≤ b.links
  pub sources : length b.sources ≤ link_sources b

clocks_grow : (b : Book) (a : Action) → clocks b ≤ clocks (entered b a)
clocks_grow b a =
    let here = sum_less (λ n. one_for (is_some (b.story n).clock)) (λ n. one_for (is_some ((entered b a).story n).clock)) b.submissions (λ n i. (action_grows b a n).clocked) in
    let more = sum_longer (λ n. one_for (is_some ((entered b a).story n).clock)) b.submissions (entered b a).submissions (submissions_grow b a) in
    omega (arith, here, more)

link_timers_grow : (b : Book) (a : Action) → MayStand b a → link_timers b ≤ link_timers (entered b a)
link_timers_grow b a may =
    let here = sum_less (λ l. timers_of (b.link l)) (λ l. timers_of ((entered b a).link l)) b.links (λ l i. (action_gathers b a l may i).timed) in
    let more = sum_longer (λ l. timers_of ((entered b a).link l)) b.links (entered b a).links (links_grow b a) in
    omega (arith, here, more)

link_sources_grow : (b : Book) (a : Action) → MayStand b a → link_sources b ≤ link_sources (entered b a)
link_sources_grow b a may =
    let here = sum_less (λ l. sources_of (b.link l)) (λ l. sources_of ((entered b a).link l)) b.links (λ l i. (action_gathers b a l may i).sourced) in
    let more = sum_longer (λ l. sources_of ((entered b a).link l)) b.links (entered b a).links (links_grow b a) in
    omega (arith, here, more)

-- where no timer is asked for, and no source
counted_on : (b : Book) (a : Action) → MayStand b a → Sound b → (entered b a).timers ≡ b.timers → (entered b a).timed ≡ b.timed → length (entered b a).sources ≤ length b.sources → HasCounted b → HasCounted (entered b a)
counted_on b a may sound same_timers same_timed few_sources h =
    let one = clocks_grow b a in
    let two = link_timers_grow b a may in
    let three = link_sources_grow b a may in
    let four = current_grows b a may sound in
    let five = links_grow b a in
    let same : length (entered b a).timers ≡ length b.timers = ap (λ (ts : List Purpose). length ts) same_timers in
    record {
      timers = let old = h.timers in omega (arith, old, one, two, four, same, same_timed);
      timed = let old = h.timed in omega (arith, old, five, same_timed);
      sources = let old = h.sources in omega (arith, old, three, few_sources);
    }

-- where one timer is
timer_on : (b : Book) (t ms : ℕ) (what : Purpose) → (may : MayTimer b t ms what) → Sound b
    → b.timed + b.current + clocks b + link_timers b + 1 ≤ (entered b (action.Timer t ms what)).timed + (entered b (action.Timer t ms what)).current + clocks (entered b (action.Timer t ms what)) + link_timers (entered b (action.Timer t ms what))
    → (entered b (action.Timer t ms what)).timed ≤ b.links → HasCounted b → HasCounted (entered b (action.Timer t ms what))
timer_on b t ms what may sound pays timed h = record {
  timers = let old = h.timers in let more : length (b.timers ++ what ∷ []) ≡ length b.timers + 1 = length_push b.timers what in omega (arith, old, pays, more);
  timed = timed;
  sources = let old = h.sources in let three = link_sources_grow b (action.Timer t ms what) may in omega (arith, old, three);
}

-- that of a connect
connect_counts : (b : Book) (t ms : ℕ) (what : Purpose) (may : MayTimer b t ms what) → MayTimeConnect b t ms what → Sound b → HasCounted b → HasCounted (entered b (action.Timer t ms what))
connect_counts b t ms what may its sound h =
    let a : Action = action.Timer t ms what in
    let more : (entered b a).timed ≡ b.timed + 1 = taken_if (is_of_connect what) (b.timed + 1) b.timed (ap is_of_connect its.is_for) in
    let one = clocks_grow b a in
    let two = link_timers_grow b a may in
    let four = current_grows b a may sound in
    let due : b.timed < b.links = its.due in
    timer_on b t ms what may sound (omega (arith, more, one, two, four)) (omega (arith, more, due)) h

-- any other one leaves that count
untimed : (b : Book) (t ms : ℕ) (what : Purpose) → is_of_connect what ≡ false → (entered b (action.Timer t ms what)).timed ≡ b.timed
untimed b t ms what other = left_if (is_of_connect what) (b.timed + 1) b.timed other

-- that of a wait behind an attempt
rest_counts : (b : Book) (t ms : ℕ) (what : Purpose) (may : MayTimer b t ms what) → MayRest b t ms what → Sound b → HasCounted b → HasCounted (entered b (action.Timer t ms what))
rest_counts b t ms what may its sound h =
    let a : Action = action.Timer t ms what in
    let timed = untimed b t ms what (ap is_of_connect its.is_for) in
    let goes : (entered b a).current ≡ b.links = taken_if (is_rest what) b.links b.current (ap is_rest its.is_for) in
    let below : b.current < b.links = rest_is_numbered b t ms what sound its in
    let one = clocks_grow b a in
    let two = link_timers_grow b a may in
    let old = h.timed in
    timer_on b t ms what may sound (omega (arith, timed, goes, below, one, two)) (omega (arith, timed, old)) h

-- that of a submission
clock_behind : (b : Book) (n t : ℕ) (what : Purpose) → what ≡ purpose.Response (owner.Try n 0) → one_for (is_some (after_timer b n t what).clock) ≡ 1
clock_behind b n t what is = subst (λ (w : Purpose). one_for (is_some (after_timer b n t w).clock) ≡ 1) (sym is)
    (if_true (λ (s : Story). one_for (is_some s.clock) ≡ 1) (n == n) (clocked (b.story n) t) (b.story n) (eq_test n n refl) refl)

own_counts : (b : Book) (t ms : ℕ) (what : Purpose) (may : MayTimer b t ms what) → MayTime b t ms what → Sound b → HasCounted b → HasCounted (entered b (action.Timer t ms what))
own_counts b t ms what may its sound h =
    let a : Action = action.Timer t ms what in
    let timed = untimed b t ms what (ap is_of_connect its.is_for) in
    let none : one_for (is_some (b.story its.n).clock) ≡ 0 = ap (λ (c : Option ℕ). one_for (is_some c)) (asks_mean b its.n ms its.asks).2 in
    let some : one_for (is_some ((entered b a).story its.n).clock) ≡ 1 = clock_behind b its.n t what its.is_for in
    let one : clocks b + 1 ≤ clocks (entered b a) = sum_with_one (λ n. one_for (is_some (b.story n).clock)) (λ n. one_for (is_some ((entered b a).story n).clock)) its.n b.submissions
    (mover_is_numbered b its.n sound.stories (asker_moves b t ms what its)) (λ n i. (action_grows b a n).clocked) (omega (arith, none, some)) in
    let two = link_timers_grow b a may in
    let four = current_grows b a may sound in
    let old = h.timed in
    timer_on b t ms what may sound (omega (arith, timed, one, two, four)) (omega (arith, timed, old)) h

-- that of a link
link_counts : (b : Book) (t ms : ℕ) (what : Purpose) (l : ℕ) (may : MayTimer b t ms what) → is_of_connect what ≡ false → l < b.links → timers_of (b.link l) + 1 ≤ timers_of ((entered b (action.Timer t ms what)).link l) → Sound b → HasCounted b
    → HasCounted (entered b (action.Timer t ms what))
link_counts b t ms what l may other below more sound h =
    let a : Action = action.Timer t ms what in
    let timed = untimed b t ms what other in
    let one = clocks_grow b a in
    let two : link_timers b + 1 ≤ link_timers (entered b a) = sum_with_one (λ m. timers_of (b.link m)) (λ m. timers_of ((entered b a).link m)) l b.links below (λ m i. (action_gathers b a m may i).timed) more in
    let four = current_grows b a may sound in
    let old = h.timed in
    timer_on b t ms what may sound (omega (arith, timed, one, two, four)) (omega (arith, timed, old)) h

renewal_more : (b : Book) (l k : ℕ) (what : Purpose) → what ≡ purpose.Renewal l k → timers_of (b.link l) + 1 ≤ timers_of (noted_each (b.link l) (timer_lines l what))
renewal_more b l k what is = subst (λ (w : Purpose). timers_of (b.link l) + 1 ≤ timers_of (noted_each (b.link l) (timer_lines l w))) (sym is)
    (if_true (λ (xs : List Line). timers_of (b.link l) + 1 ≤ timers_of (noted_each (b.link l) xs)) (l == l) (times ∷ []) [] (eq_test l l refl) (omega arith))

repeat_more : (b : Book) (l : ℕ) (what : Purpose) → what ≡ purpose.Resubscription l → (b.link l).again.timed ≡ false → timers_of (b.link l) + 1 ≤ timers_of (noted_each (b.link l) (timer_lines l what))
repeat_more b l what is once = subst (λ (w : Purpose). timers_of (b.link l) + 1 ≤ timers_of (noted_each (b.link l) (timer_lines l w))) (sym is)
    (if_true (λ (xs : List Line). timers_of (b.link l) + 1 ≤ timers_of (noted_each (b.link l) xs)) (l == l) (repeats_timed ∷ []) [] (eq_test l l refl)
    (let none : one_for (b.link l).again.timed ≡ 0 = ap one_for once in omega (arith, none)))

-- each
timer_counts : (b : Book) (t ms : ℕ) (what : Purpose) → MayTimer b t ms what → Sound b → HasCounted b → HasCounted (entered b (action.Timer t ms what))
timer_counts b t ms what (inl (inl its)) sound h = connect_counts b t ms what (inl (inl its)) its sound h
timer_counts b t ms what (inl (inr its)) sound h = rest_counts b t ms what (inl (inr its)) its sound h
timer_counts b t ms what (inr (inl its)) sound h = own_counts b t ms what (inr (inl its)) its sound h
timer_counts b t ms what (inr (inr (inl its))) sound h =
    link_counts b t ms what its.l (inr (inr (inl its))) (ap is_of_connect its.is_for) (asked_is_numbered b its.l sound.links (asked_timers b its.l sound its.asked))
    (renewal_more b its.l (b.link its.l).creds.timed what its.is_for) sound h
timer_counts b t ms what (inr (inr (inr its))) sound h =
    link_counts b t ms what its.l (inr (inr (inr its))) (ap is_of_connect its.is_for) (up_is_numbered b its.l sound.links (again_is_up (b.link its.l) its.due))
    (repeat_more b its.l what its.is_for its.once) sound h

-- a source that is asked for
source_counts : (b : Book) (c l : ℕ) → MayNeed b c l → Sound b → HasCounted b → HasCounted (entered b (action.NeedCreds c l))
source_counts b c l may sound h =
    let a : Action = action.NeedCreds c l in
    let one = clocks_grow b a in
    let two = link_timers_grow b a may in
    let own : sources_of (b.link l) + 1 ≤ sources_of ((entered b a).link l) =
    if_true (λ (xs : List Line). sources_of (b.link l) + 1 ≤ sources_of (noted_each (b.link l) xs)) (l == l) (sources ∷ []) [] (eq_test l l refl)
    (source_more (b.link l).creds.asked (b.link l).creds.renews (second_is_new (b.link l) may.due)) in
    let three : link_sources b + 1 ≤ link_sources (entered b a) = sum_with_one (λ m. sources_of (b.link m)) (λ m. sources_of ((entered b a).link m)) l b.links
    (up_is_numbered b l sound.links (source_is_up (b.link l) may.due)) (λ m i. (action_gathers b a m may i).sourced) own in
    record {
      timers = let old = h.timers in omega (arith, old, one, two);
      timed = h.timed;
      sources = let old = h.sources in let more : length (b.sources ++ use_for b l ∷ []) ≡ length b.sources + 1 = length_push b.sources (use_for b l) in omega (arith, old, three, more);
    }

-- each action that may stand keeps it
pub counted_kept : (b : Book) (a : Action) → MayStand b a → Sound b → HasCounted b → HasCounted (entered b a)
counted_kept b (action.Timer t ms what) may sound h = timer_counts b t ms what may sound h
counted_kept b (action.NeedCreds c l) may sound h = source_counts b c l may sound h
counted_kept b (action.Turn k (cause.Opening config word)) may sound h = counted_on b (action.Turn k (cause.Opening config word)) may sound refl refl (omega arith) h
counted_kept b (action.Turn k (cause.Event e)) may sound h = counted_on b (action.Turn k (cause.Event e)) may sound refl refl (omega arith) h
counted_kept b (action.Connect l host port) may sound h = counted_on b (action.Connect l host port) may sound refl refl (omega arith) h
counted_kept b (action.Generation g) may sound h = counted_on b (action.Generation g) may sound refl refl (omega arith) h
counted_kept b (action.Took who l count) may sound h = counted_on b (action.Took who l count) may sound refl refl (omega arith) h
counted_kept b (action.Push l info) may sound h = counted_on b (action.Push l info) may sound refl refl (omega arith) h
counted_kept b (action.Message m) may sound h = counted_on b (action.Message m) may sound refl refl (omega arith) h
counted_kept b (action.Monitor v) may sound h = counted_on b (action.Monitor v) may sound refl refl (omega arith) h
counted_kept b (action.Round who l) may sound h = counted_on b (action.Round who l) may sound refl refl (omega arith) h
counted_kept b (action.Close l) may sound h = counted_on b (action.Close l) may sound refl refl (omega arith) h
counted_kept b (action.Write l bytes) may sound h = counted_on b (action.Write l bytes) may sound refl refl (omega arith) h
counted_kept b (action.Wait who kind) may sound h = counted_on b (action.Wait who kind) may sound refl refl (omega arith) h
counted_kept b (action.Start l m who count len) may sound h = counted_on b (action.Start l m who count len) may sound refl refl (omega arith) h
counted_kept b (action.Created e) may sound h = counted_on b (action.Created e) may sound refl refl (omega arith) h
counted_kept b (action.Outcome n o) may sound h = counted_on b (action.Outcome n o) may sound refl refl (omega arith) h
