-- How much of each sort a link and a submission have, and what actions make of it.
use Rattle.std.proofs.Common.{◌≡◌, ℕ, ◌+◌, ◌-◌, ◌<◌, ◌≤◌, Bool, true, false, ◌&&◌, ◌||◌, List, [], ◌∷◌, ◌++◌, length, take, Option, Some, None, is_some, refl, ap, subst, arith}
use Rattle.std.proofs.lemmas.List.{length_push}
use Rattle.containers.proofs.Choices.{by_test, chosen, both_left, not_both}
use Rattle.redis_error.specs.declared.redis_error.RedisError.TheVariants as error
use Rattle.driver_model.specs.declared.action.Action.{Action}
use Rattle.driver_model.specs.declared.action.Action.TheVariants as action
use Rattle.driver_model.specs.declared.action.Cause.TheVariants as cause
use Rattle.driver_model.specs.News.{News, silence, connected, refused, overdue, took, came, failed, authorized, denied, deserted, renewed, unrenewed, late, unrepeated, dropped, shut, news_of}
use Rattle.legal_trace.specs.Ledger.{Ledger, End, with_news, refused_in, bytes_came, ended, is_over, is_serving, is_ready, is_served, dials, awaits_credentials, authorized_by, may_renew, renewed_by, unrenewed_by, is_renewal_open, lost_by, is_repeating, unrepeated_by}
use Rattle.legal_trace.specs.Story.{Story, Try}
use Rattle.legal_trace.specs.Book.{Book, entered}
use Rattle.legal_trace.specs.Legal.{MayStand}
use Rattle.legal_trace.proofs.Came.{holds_bytes, grown}
use Rattle.legal_trace.proofs.Clocks.{timer_keeps}
use Rattle.legal_trace.proofs.Moves.{has_no_tries, ready_is_up}
use Rattle.legal_laws.proofs.Counts.Notes.{action_notes}
use Rattle.legal_laws.proofs.Submissions.Steps.{action_keeps, fires_keeps, left_keeps}

-- 1 where it is so, else 0
abbrev pub one_for : Bool → ℕ
one_for true = 1
one_for false = 0

pub one_most : (b : Bool) → one_for b ≤ 1
one_most true = omega arith
one_most false = omega arith

-- a link took requests when it ended
abbrev pub has_served : Option End → Bool
has_served None = false
has_served (Some end) = end.served

-- it is up, or took requests when it ended
abbrev pub rose : Ledger → ℕ
rose l = one_for (l.up || has_served l.end)

-- how many new credentials came for it
abbrev pub brought : Ledger → ℕ
brought l = length l.creds.renewals

-- how many timers were asked for, for new credentials and for what is subscribed again
abbrev pub timers_of : Ledger → ℕ
timers_of l = l.creds.timed + one_for l.again.timed

-- how many sources of credentials were
abbrev pub sources_by : Bool → Bool → ℕ
sources_by false renews = 0
sources_by true false = 1
sources_by true true = 2

abbrev pub sources_of : Ledger → ℕ
sources_of l = sources_by l.creds.asked l.creds.renews

pub sources_most : (asked renews : Bool) → sources_by asked renews ≤ 2
sources_most false renews = omega arith
sources_most true false = omega arith
sources_most true true = omega arith

-- the second source is one more
pub source_more : (asked renews : Bool) → (asked ≡ true → renews ≡ false) → sources_by asked renews + 1 ≤ sources_by true asked
source_more false renews second = omega arith
source_more true false second = omega arith
source_more true true second = absurd (cc (second refl))

-- some news is of a connect that succeeded, and some brings new credentials
abbrev pub is_connected : News → Bool
is_connected connected = true
is_connected _ = false

abbrev pub is_renewed : News → Bool
is_renewed (renewed c) = true
is_renewed _ = false

-- what news makes of these
pub record Weighs (x : News) (l m : Ledger) : Type 0 where
  pub rises : rose m ≤ rose l + one_for (is_connected x)
  pub brings : brought m ≤ brought l + one_for (is_renewed x)
  pub timed : timers_of m ≡ timers_of l
  pub sourced : sources_of m ≡ sources_of l

le_more : (n m more : ℕ) → n ≤ m → n ≤ m + more
le_more n m more i = omega (arith, i)

le_same : (n : ℕ) → n ≤ n
le_same n = omega arith

-- where it changes none of them
alike : (x : News) (l m : Ledger) → rose m ≤ rose l → brought m ≤ brought l → timers_of m ≡ timers_of l → sources_of m ≡ sources_of l → Weighs x l m
alike x l m rises brings timed sourced = record {
  rises = le_more (rose m) (rose l) (one_for (is_connected x)) rises;
  brings = le_more (brought m) (brought l) (one_for (is_renewed x)) brings;
  timed = timed;
  sourced = sourced;
}

still : (x : News) (l : Ledger) → Weighs x l l
still x l = alike x l l (le_same (rose l)) (le_same (brought l)) refl refl

-- one that didn't serve rises no higher
unserved_less : (p q : Bool) → one_for (p || false) ≤ one_for (p || q)
unserved_less true q = omega arith
unserved_less false q = omega arith

pub news_weighs : (l : Ledger) (turn : ℕ) (x : News) → Weighs x l (with_news l turn x)
news_weighs l turn silence = still silence l
news_weighs l turn connected = chosen (Weighs connected l) (is_over l) l (record l { up = true }) (λ t. still connected l)
    (λ f. record { rises = let most : one_for true ≤ 1 = one_most true in omega (arith, most); brings = le_more (brought l) (brought l) 0 (le_same (brought l)); timed = refl; sourced = refl })
news_weighs l turn (refused f) = chosen (Weighs (refused f) l) (dials l) (refused_in l turn (error.Io f)) l
    (λ t. alike (refused f) l (refused_in l turn (error.Io f)) (unserved_less l.up (has_served l.end)) (le_same (brought l)) refl refl) (λ e. still (refused f) l)
news_weighs l turn overdue = still overdue l
news_weighs l turn (took count) = chosen (Weighs (took count) l) l.up (record l { taken = l.taken ++ take count l.offer; offer = [] }) l
    (λ t. alike (took count) l (record l { taken = l.taken ++ take count l.offer; offer = [] }) (le_same (rose l)) (le_same (brought l)) refl refl) (λ e. still (took count) l)
news_weighs l turn (came piece) = chosen (Weighs (came piece) l) l.up (bytes_came l piece) l
    (λ t. holds_bytes (Weighs (came piece) l) l piece (λ rest strange told more. alike (came piece) l (grown l rest strange told more) (le_same (rose l)) (le_same (brought l)) refl refl)) (λ e. still (came piece) l)
news_weighs l turn (failed f) = still (failed f) l
news_weighs l turn (authorized c) = chosen (Weighs (authorized c) l) (awaits_credentials l) (authorized_by l c) l
    (λ t. alike (authorized c) l (authorized_by l c) (le_same (rose l)) (le_same (brought l)) refl refl) (λ e. still (authorized c) l)
news_weighs l turn (denied text) = still (denied text) l
news_weighs l turn deserted = still deserted l
news_weighs l turn (renewed c) = chosen (Weighs (renewed c) l) (may_renew l) (renewed_by l c) l
    (λ t. record {
      rises = le_more (rose l) (rose l) 0 (le_same (rose l));
      brings = let e : length (l.creds.renewals ++ c ∷ []) ≡ length l.creds.renewals + 1 = length_push l.creds.renewals c in omega (arith, e);
      timed = refl;
      sourced = refl;
    }) (λ e. still (renewed c) l)
news_weighs l turn unrenewed = chosen (Weighs unrenewed l) l.up (unrenewed_by l) l
    (λ t. alike unrenewed l (unrenewed_by l) (le_same (rose l)) (le_same (brought l)) refl refl) (λ e. still unrenewed l)
news_weighs l turn (late k) = chosen (Weighs (late k) l) (l.up && is_renewal_open l k) (lost_by l) l
    (λ t. alike (late k) l (lost_by l) (le_same (rose l)) (le_same (brought l)) refl refl) (λ e. still (late k) l)
news_weighs l turn unrepeated = chosen (Weighs unrepeated l) (is_repeating l) (unrepeated_by l) l
    (λ t. alike unrepeated l (unrepeated_by l) (le_same (rose l)) (le_same (brought l)) refl refl) (λ e. still unrepeated l)
news_weighs l turn dropped = still dropped l
news_weighs l turn shut = still shut l

-- an action is the turn of an event
abbrev pub is_event : Action → Bool
is_event (action.Turn k (cause.Event e)) = true
is_event _ = false

-- a link that ends rises no higher
end_rose : (l : Ledger) (turn : ℕ) → rose (ended l turn) ≤ rose l
end_rose l turn = by_test (is_serving l) (rose (ended l turn) ≤ rose l)
    (λ t.
    let up : l.up ≡ true = ready_is_up l (both_left (is_ready l) (is_served l) t) in
    let one : rose l ≡ 1 = ap (λ p. one_for (p || has_served l.end)) up in
    let most : one_for (is_serving l) ≤ 1 = one_most (is_serving l) in
    omega (arith, one, most))
    (λ f. let none : one_for (is_serving l) ≡ 0 = ap one_for f in omega (arith, none))

-- so nothing but an event brings a link up, or new credentials
pub action_weighs : (b : Book) (a : Action) (n : ℕ) → is_event a ≡ false → (rose ((entered b a).link n) ≤ rose (b.link n)) × (brought ((entered b a).link n) ≤ brought (b.link n))
action_weighs b a n other =
    let l = b.link n in
    let same : (rose l ≤ rose l) × (brought l ≤ brought l) = (le_same (rose l), le_same (brought l)) in
    action_notes (λ m. (rose m ≤ rose l) × (brought m ≤ brought l)) b a n (record {
      asked = λ host port e. (le_same (rose l), omega arith);
      heard = λ k e is. absurd (not_both (is_event a) other (ap is_event is));
      timed = λ t ms k e. same;
      repeated = λ t ms e. same;
      sourced = λ c e. same;
      begun = λ k who count len e. same;
      told = same;
      parted = same;
      offered = λ bytes. same;
      ended = λ e. (end_rose l (b.turns - 1), le_same (brought l));
    }) same

-- timers and sources that were asked for, for a link, were asked for
pub record Gathers (l m : Ledger) : Type 0 where
  pub timed : timers_of l ≤ timers_of m
  pub sourced : sources_of l ≤ sources_of m

gathers_same : (l m : Ledger) → timers_of m ≡ timers_of l → sources_of m ≡ sources_of l → Gathers l m
gathers_same l m timed sourced = record { timed = omega (arith, timed); sourced = omega (arith, sourced) }

source_grows : (asked renews : Bool) → sources_by asked renews ≤ sources_by true asked
source_grows false renews = omega arith
source_grows true false = omega arith
source_grows true true = omega arith

pub action_gathers : (b : Book) (a : Action) (n : ℕ) → MayStand b a → n < b.links → Gathers (b.link n) ((entered b a).link n)
action_gathers b a n may i =
    let l = b.link n in
    action_notes (Gathers l) b a n (record {
      asked = λ host port e. absurd (let next : n ≡ b.links = (subst (MayStand b) e may).next in omega (arith, next, i));
      heard = λ k e is. let w = news_weighs l k (news_of b.timers b.sources n e.kind) in gathers_same l _ w.timed w.sourced;
      timed = λ t ms k e. record { timed = omega arith; sourced = le_same (sources_of l) };
      repeated = λ t ms e. record { timed = let most : one_for l.again.timed ≤ 1 = one_most l.again.timed in omega (arith, most); sourced = le_same (sources_of l) };
      sourced = λ c e. record { timed = le_same (timers_of l); sourced = source_grows l.creds.asked l.creds.renews };
      begun = λ k who count len e. gathers_same l _ refl refl;
      told = gathers_same l _ refl refl;
      parted = gathers_same l _ refl refl;
      offered = λ bytes. gathers_same l _ refl refl;
      ended = λ e. gathers_same l _ refl refl;
    }) (gathers_same l l refl refl)

-- outcomes, a timer and messages that a submission has, it keeps
pub record Grew (s t : Story) : Type 0 where
  pub answered : length s.outcomes ≤ length t.outcomes
  pub clocked : one_for (is_some s.clock) ≤ one_for (is_some t.clock)
  pub tried : length s.tries ≤ length t.tries

grew_same : (s t : Story) → t.outcomes ≡ s.outcomes → t.clock ≡ s.clock → t.tries ≡ s.tries → Grew s t
grew_same s t outcomes clock tries = record {
  answered = omega (arith, ap length outcomes);
  clocked = omega (arith, ap (λ (c : Option ℕ). one_for (is_some c)) clock);
  tried = omega (arith, ap (λ (ts : List Try). length ts) tries);
}

pub action_grows : (b : Book) (a : Action) (n : ℕ) → Grew (b.story n) ((entered b a).story n)
action_grows b a n =
    let s = b.story n in
    let same : Grew s s = grew_same s s refl refl refl in
    action_keeps (Grew s) b a n (record {
      events = record {
        handed = λ what t. grew_same s _ refl refl refl;
        left = left_keeps (Grew s) s (λ o. grew_same s _ refl refl refl) same;
        fired = λ t c. fires_keeps (Grew s) s (λ o. grew_same s _ refl refl refl) same;
      };
      timed = λ t ms what e. timer_keeps (Grew s) b n t what (λ r o. grew_same s _ refl refl refl)
          (λ c. record { answered = le_same (length s.outcomes); clocked = one_most (is_some s.clock); tried = le_same (length s.tries) }) same;
      held = λ l count round e. grew_same s _ refl refl refl;
      rounded = grew_same s _ refl refl refl;
      waited = λ kind. grew_same s _ refl refl refl;
      started = λ l k round count len e. record {
        answered = le_same (length s.outcomes);
        clocked = le_same (one_for (is_some s.clock));
        tried = let more : length (s.tries ++ record { link = l; message = k } ∷ []) ≡ length s.tries + 1 = length_push s.tries (record { link = l; message = k }) in omega (arith, more);
      };
      answered = λ o e. record {
        answered = let more : length (s.outcomes ++ o ∷ []) ≡ length s.outcomes + 1 = length_push s.outcomes o in omega (arith, more);
        clocked = le_same (one_for (is_some s.clock));
        tried = le_same (length s.tries);
      };
    }) same

-- a submission has one message at most
abbrev pub TriedOnce : Story → Type 0
TriedOnce s = length s.tries ≤ 1

-- which it keeps
pub tried_once_kept : (b : Book) (a : Action) (n : ℕ) → MayStand b a → TriedOnce (b.story n) → TriedOnce ((entered b a).story n)
tried_once_kept b a n may h =
    action_keeps TriedOnce b a n (record {
      events = record {
        handed = λ what t. h;
        left = left_keeps TriedOnce (b.story n) (λ o. h) h;
        fired = λ t c. fires_keeps TriedOnce (b.story n) (λ o. h) h;
      };
      timed = λ t ms what e. timer_keeps TriedOnce b n t what (λ r o. h) (λ c. h) h;
      held = λ l count round e. h;
      rounded = h;
      waited = λ kind. h;
      started = λ l k round count len e.
          let none : (b.story n).tries ≡ [] = has_no_tries (b.story n) (subst (MayStand b) e may).1.unstarted in
          let more : length ((b.story n).tries ++ record { link = l; message = k } ∷ []) ≡ length (b.story n).tries + 1 = length_push (b.story n).tries (record { link = l; message = k }) in
          omega (arith, more, ap (λ (ts : List Try). length ts) none);
      answered = λ o e. h;
    }) h
