-- Numbers are bounded by turns.
use Rattle.std.proofs.Common.{◌≡◌, inl, inr, ℕ, zero, suc, ◌+◌, ◌<◌, ◌≤◌, Bool, true, false, ◌||◌, List, [], ◌∷◌, length, is_some, refl, ap, arith}
use Rattle.driver_model.specs.declared.action.Action.{Action}
use Rattle.driver_model.specs.declared.action.Action.TheVariants as action
use Rattle.driver_model.specs.declared.action.Cause.{Cause}
use Rattle.driver_model.specs.declared.action.Cause.TheVariants as cause
use Rattle.driver_model.specs.declared.config.Config.{Config}
use Rattle.driver_model.specs.declared.event.Event.{Event}
use Rattle.legal_trace.specs.Ledger.{monitor_among, again_among}
use Rattle.legal_trace.specs.Book.{Book, blank_book, book, entered, entered_each}
use Rattle.legal_trace.specs.Events.{HasRunOut}
use Rattle.legal_trace.specs.Legal.{MayStand, AllStand, causes, event_causes}
use Rattle.legal_laws.specs.Counts.{GivesFew, GivesFewBehind, HasNumbersLeft, NoneRunsOut}
use Rattle.legal_laws.proofs.Counts.Sums.{sum_below, sum_less, sum_longer, sum_one_each, sum_of_ones, sum_of_twos, sum_has}
use Rattle.legal_laws.proofs.Counts.Weights.{TriedOnce, one_for, one_most, has_served, rose, brought, timers_of, sources_of, sources_most, tried_once_kept}
use Rattle.legal_laws.proofs.Counts.Starts.{StartsFew, StartsPaid, asked_came, few_kept, none_few, starts_paid, tries}
use Rattle.legal_laws.proofs.Counts.Links.{PaysGenerations, PaysLinks, answers, brought_below, generations_paid, links_paid, near_most, reach_least, risen, served_before}
use Rattle.legal_laws.proofs.Counts.Timers.{HasCounted, clocks, counted_kept, link_sources, link_timers}
use Rattle.legal_laws.proofs.Traces.Sound.{Sound, blank_is_sound, stays_sound}

-- all that pays for numbers
pub record Counts (b : Book) : Type 0 where
  pub sound : Sound b
  pub links : PaysLinks b
  pub generations : PaysGenerations b
  pub counted : HasCounted b
  pub few : (l : ℕ) → StartsFew (b.link l)
  pub starts : (l : ℕ) → StartsPaid (tries b) (b.link l)
  pub once : (n : ℕ) → TriedOnce (b.story n)

-- it stays so
counts_kept : (b : Book) (a : Action) → MayStand b a → Counts b → Counts (entered b a)
counts_kept b a may h = record {
  sound = stays_sound b a may h.sound;
  links = links_paid b a may h.sound h.links;
  generations = generations_paid b a may h.sound h.generations;
  counted = counted_kept b a may h.sound h.counted;
  few = λ l. few_kept b a l may h.sound (h.few l);
  starts = λ l. starts_paid b a l may h.sound (h.starts l);
  once = λ n. tried_once_kept b a n may (h.once n);
}

counts_each : (b : Book) (front : List Action) → AllStand b front → Counts b → Counts (entered_each b front)
counts_each b [] all h = h
counts_each b (a ∷ more) all h = counts_each (entered b a) more all.1 (counts_kept b a all.0 h)

-- from the blank book on
sum_of_none : (n : ℕ) → sum_below (λ k. 0) n ≡ 0
sum_of_none zero = refl
sum_of_none (suc n) = let e : sum_below (λ k. 0) n ≡ 0 = sum_of_none n in omega (arith, e)

blank_counts : Counts blank_book
blank_counts = record {
  sound = blank_is_sound;
  links = record {
    paid = λ n. let e : sum_below (λ k. 0) n ≡ 0 = sum_of_none n in omega (arith, e);
    came = λ n. let e : sum_below (λ k. 0) n ≡ 0 = sum_of_none n in omega (arith, e);
    rests = λ some. absurd (cc some);
  };
  generations = omega arith;
  counted = record { timers = omega arith; timed = omega arith; sources = omega arith };
  few = λ l. none_few _ refl (omega arith);
  starts = λ l. omega arith;
  once = λ n. omega arith;
}

pub counts_behind : (front : List Action) → AllStand blank_book front → Counts (book front)
unfolding book
counts_behind front all = counts_each blank_book front all blank_counts

-- each submission is answered once at most, and each link that took requests when it ended came up
answers_most : (b : Book) → Sound b → answers b ≤ b.submissions
answers_most b sound = sum_of_ones (λ n. length (b.story n).outcomes) b.submissions (λ n i. (sound.once n).once)

served_rose : (up : Bool) (served : Bool) → one_for served ≤ one_for (up || served)
served_rose true served = one_most served
served_rose false served = omega arith

served_most : (b : Book) → Sound b → served_before b ≤ risen b b.links
served_most b sound =
    let here = sum_less (λ l. one_for (has_served (b.link l).end)) (λ l. rose (b.link l)) b.current (λ l i. served_rose (b.link l).up (has_served (b.link l).end)) in
    let more = sum_longer (λ l. rose (b.link l)) b.current b.links (near_most b sound.lives).0 in
    omega (arith, here, more)

-- links, with the new credentials of all
links_most : (b : Book) → Counts b → brought_below b b.links + b.links ≤ b.turns + 2
links_most b h =
    let paid = h.links.paid b.links in
    let generations = h.generations in
    let one = answers_most b h.sound in
    let two = served_most b h.sound in
    let least = reach_least b.rest b.current b.links (near_most b h.sound.lives).1 in
    omega (arith, paid, generations, one, two, least)

-- timers of links
link_timers_most : (b : Book) → Counts b → link_timers b ≤ brought_below b b.links + b.links
link_timers_most b h = sum_one_each (λ l. timers_of (b.link l)) (λ l. brought (b.link l)) b.links
    (λ l i. let timed = (h.few l).timed in let one = one_most (b.link l).again.timed in omega (arith, timed, one))

timers_most : (b : Book) → Counts b → length b.timers ≤ b.links + b.links + b.links + b.turns
timers_most b h =
    let all = h.counted.timers in
    let timed = h.counted.timed in
    let near = (near_most b h.sound.lives).0 in
    let own : clocks b ≤ b.submissions = sum_of_ones (λ n. one_for (is_some (b.story n).clock)) b.submissions (λ n i. one_most (is_some (b.story n).clock)) in
    let each = link_timers_most b h in
    let came = h.links.came b.links in
    omega (arith, all, timed, near, own, each, came)

sources_all : (b : Book) → Counts b → length b.sources ≤ b.links + b.links
sources_all b h =
    let all = h.counted.sources in
    let each : link_sources b ≤ b.links + b.links = sum_of_twos (λ l. sources_of (b.link l)) b.links (λ l i. sources_most (b.link l).creds.asked (b.link l).creds.renews) in
    omega (arith, all, each)

-- new credentials of one link
brought_most : (b : Book) (l : ℕ) → Counts b → b.submissions + brought (b.link l) ≤ b.turns
brought_most b l h =
    let one = sum_has (λ m. brought (b.link m)) l (suc l) (omega arith) in
    let came = h.links.came (suc l) in
    omega (arith, one, came)

starts_most : (b : Book) (l : ℕ) → Counts b → length (b.link l).starts ≤ b.turns + 4
starts_most b l h =
    let few = h.few l in
    let own = few.own in
    let setups = few.setups in
    let told = few.told in
    let paid = h.starts l in
    let watch = one_most (is_some (monitor_among (b.link l).starts 0)) in
    let again = one_most (is_some (again_among (b.link l).starts 0)) in
    let all : tries b ≤ b.submissions = sum_of_ones (λ n. length (b.story n).tries) b.submissions (λ n i. h.once n) in
    let came = brought_most b l h in
    omega (arith, own, setups, told, paid, watch, again, all, came)

-- so few numbers are given out
few_given : (b : Book) → Counts b → GivesFew b
few_given b h =
    let links = links_most b h in
    record {
      submissions = let came = h.links.came 0 in omega (arith, came);
      links = omega (arith, links);
      timers = let all = timers_most b h in omega (arith, all, links);
      sources = let all = sources_all b h in omega (arith, all, links);
      starts = λ l. starts_most b l h;
      renewals = λ l. let asked = asked_came (b.link l) (h.few l) in let came = brought_most b l h in omega (arith, asked, came);
    }

pub gives_few : (front : List Action) → GivesFewBehind front
gives_few front all = few_given (book front) (counts_behind front all)

-- and none runs out
few_left : (b : Book) → GivesFew b → b.turns ≤ 1_000_000_000 → HasRunOut b → ⊥
few_left b few i (inl out) = omega (arith, i, out)
few_left b few i (inr (inl out)) = let most = few.submissions in omega (arith, i, out, most)
few_left b few i (inr (inr (inl out))) = let most = few.links in omega (arith, i, out, most)
few_left b few i (inr (inr (inr (inl out)))) = let most = few.timers in omega (arith, i, out, most)
few_left b few i (inr (inr (inr (inr (inl out))))) = let most = few.sources in omega (arith, i, out, most)
few_left b few i (inr (inr (inr (inr (inr (inl out)))))) = let most = few.starts out.0 in let many = out.2 in omega (arith, i, many, most)
few_left b few i (inr (inr (inr (inr (inr (inr out)))))) = let most = few.renewals out.0 in let many = out.1 in omega (arith, i, many, most)

pub numbers_left : (front : List Action) → HasNumbersLeft front
numbers_left front all i out = few_left (book front) (gives_few front all) i out

-- a turn is one cause
turns_counted : (b : Book) (t : List Action) → (entered_each b t).turns ≡ b.turns + length (causes t)
turns_counted b [] = omega arith
turns_counted b (action.Turn k (cause.Opening config word) ∷ t) = let e = turns_counted (entered b (action.Turn k (cause.Opening config word))) t in omega (arith, e)
turns_counted b (action.Turn k (cause.Event x) ∷ t) = let e = turns_counted (entered b (action.Turn k (cause.Event x))) t in omega (arith, e)
turns_counted b (action.Connect l host port ∷ t) = turns_counted (entered b (action.Connect l host port)) t
turns_counted b (action.Timer n ms what ∷ t) = turns_counted (entered b (action.Timer n ms what)) t
turns_counted b (action.Took who l count ∷ t) = turns_counted (entered b (action.Took who l count)) t
turns_counted b (action.Push l info ∷ t) = turns_counted (entered b (action.Push l info)) t
turns_counted b (action.Message m ∷ t) = turns_counted (entered b (action.Message m)) t
turns_counted b (action.Monitor v ∷ t) = turns_counted (entered b (action.Monitor v)) t
turns_counted b (action.NeedCreds c l ∷ t) = turns_counted (entered b (action.NeedCreds c l)) t
turns_counted b (action.Generation g ∷ t) = turns_counted (entered b (action.Generation g)) t
turns_counted b (action.Round who l ∷ t) = turns_counted (entered b (action.Round who l)) t
turns_counted b (action.Close l ∷ t) = turns_counted (entered b (action.Close l)) t
turns_counted b (action.Write l bytes ∷ t) = turns_counted (entered b (action.Write l bytes)) t
turns_counted b (action.Wait who kind ∷ t) = turns_counted (entered b (action.Wait who kind)) t
turns_counted b (action.Start l m who count len ∷ t) = turns_counted (entered b (action.Start l m who count len)) t
turns_counted b (action.Created e ∷ t) = turns_counted (entered b (action.Created e)) t
turns_counted b (action.Outcome n o ∷ t) = turns_counted (entered b (action.Outcome n o)) t

events_counted : (events : List Event) → length (event_causes events) ≡ length events
events_counted [] = refl
events_counted (e ∷ es) = ap suc (events_counted es)

-- so a trace has a turn for each event, and one more
pub turns_of_events : (config : Config) (word : ℕ) (events : List Event) (trace : List Action) → causes trace ≡ cause.Opening config word ∷ event_causes events → (book trace).turns ≡ length events + 1
unfolding book
turns_of_events config word events trace is =
    let all : (entered_each blank_book trace).turns ≡ 0 + length (causes trace) = turns_counted blank_book trace in
    let has : length (causes trace) ≡ length (cause.Opening config word ∷ event_causes events) = ap (λ (cs : List Cause). length cs) is in
    let count : length (event_causes events) ≡ length events = events_counted events in
    omega (arith, all, has, count)

-- where its actions may stand, no number runs out in it within a billion turns
pub none_runs_out : (config : Config) (word : ℕ) (events : List Event) (trace : List Action) → causes trace ≡ cause.Opening config word ∷ event_causes events → AllStand blank_book trace → length events < 1_000_000_000 → HasRunOut (book trace) → ⊥
none_runs_out config word events trace turns each i out =
    let all = turns_of_events config word events trace turns in
    numbers_left trace each (omega (arith, i, all)) out

pub legal_runs_late : NoneRunsOut
legal_runs_late config word events trace h i out = none_runs_out config word events trace h.turns h.each i out
