-- What a manager does of its own: what it leaves, and how far its numbers come.
use Rattle.std.proofs.Common.{◌≡◌, ℕ, ◌+◌, ◌-◌, ◌^◌, ◌<◌, ◌≤◌, nat_lt, Bool, true, List, [], ◌∷◌, ◌++◌, length, Option, Some, None, refl, sym, ap, subst, ◌∙◌, arith, length-append}
use Rattle.std.specs.Prelude.{is_some, option_map}
use Rattle.std.proofs.Math.Nat.{le_refl}
use Rattle.containers.proofs.Choices.{chosen, taken_if, lt_from, both_right}
use Rattle.manager_config.specs.declared.config.ConnectionManagerConfig.{ConnectionManagerConfig}
use Rattle.driver_model.specs.declared.action.Purpose.{Purpose}
use Rattle.driver_model.specs.declared.event.EventKind.{EventKind}
use Rattle.mux_conn.specs.declared.act.LinkAct.{LinkAct}
use Rattle.mux_conn.specs.Connection.{is_used_up, is_resting}
use Rattle.driver_model.specs.declared.action.Purpose.TheVariants as purpose
use Rattle.single_session.specs.declared.core_state.Core.{Core}
use Rattle.single_session.specs.declared.generations.Comeback.{Comeback}
use Rattle.single_session.specs.declared.generations.Comeback.TheVariants as comeback
use Rattle.single_session.specs.declared.generations.Generations.{Generations}
use Rattle.single_session.specs.Generations.{heeded, heeding, is_due, rests, comeback_of, comeback_in, failed_behind, begun_with, begun, bound_of, connect_purposes, came_back, AreFew, IsCounted, IsRestable, IsShowable, HasFraction}

-- what it leaves
pub record IsKept (u c : Core) : Type 0 where
  pub kind : u.kind ≡ c.kind
  pub turns : u.turns ≡ c.turns
  pub table : u.table ≡ c.table
  pub sources : u.sources ≡ c.sources
  pub requests : u.single.connection.requests ≡ c.single.connection.requests
  pub failure : u.single.connection.failure ≡ c.single.connection.failure

pub came_kept : (c : Core) (what : Comeback) → IsKept (came_back c what) c
came_kept c comeback.Stays = record { kind = refl; turns = refl; table = refl; sources = refl; requests = refl; failure = refl }
came_kept c (comeback.Rests n a t) = record { kind = refl; turns = refl; table = refl; sources = refl; requests = refl; failure = refl }
came_kept c (comeback.Dials l None t) = record { kind = refl; turns = refl; table = refl; sources = refl; requests = refl; failure = refl }
came_kept c (comeback.Dials l (Some n) t) = record { kind = refl; turns = refl; table = refl; sources = refl; requests = refl; failure = refl }

-- a manager stays one, that behaves so
same_some : (m : Option Generations) (f : Generations → Generations) → is_some (option_map f m) ≡ is_some m
same_some None f = refl
same_some (Some g) f = refl

pub heeded_some : (c : Core) (kind : EventKind) (acts : List LinkAct) → is_some (heeding c kind acts).manager ≡ is_some c.manager
heeded_some c kind acts = same_some c.manager (λ g. heeded g kind acts)

pub came_some : (c : Core) (what : Comeback) → is_some (came_back c what).manager ≡ is_some c.manager
came_some c comeback.Stays = refl
came_some c (comeback.Rests n a t) = same_some c.manager (λ g. failed_behind g a t)
came_some c (comeback.Dials l None t) = refl
came_some c (comeback.Dials l (Some n) t) = same_some c.manager (λ g. begun_with g n)

-- how it behaves
abbrev pub SameSettings : Option Generations → Option Generations → Type 0
SameSettings None None = Unit {0}
SameSettings (Some g) (Some h) = g.settings ≡ h.settings
SameSettings None (Some h) = ⊥
SameSettings (Some g) None = ⊥

pub settings_same : (m : Option Generations) → SameSettings m m
settings_same None = tt
settings_same (Some g) = refl

pub settings_then : (m n o : Option Generations) → SameSettings m n → SameSettings n o → SameSettings m o
settings_then None None None a b = tt
settings_then (Some f) (Some g) (Some h) a b = a ∙ b
settings_then None None (Some h) a b = b
settings_then None (Some g) o a b = absurd a
settings_then (Some f) None o a b = absurd a
settings_then (Some f) (Some g) None a b = b

heeded_settings : (m : Option Generations) (kind : EventKind) (acts : List LinkAct) → SameSettings (option_map (λ g. heeded g kind acts) m) m
heeded_settings None kind acts = tt
heeded_settings (Some g) kind acts = refl

failed_settings : (m : Option Generations) (a t : ℕ) → SameSettings (option_map (λ g. failed_behind g a t) m) m
failed_settings None a t = tt
failed_settings (Some g) a t = refl

begun_settings : (m : Option Generations) (n : ℕ) → SameSettings (option_map (λ g. begun_with g n) m) m
begun_settings None n = tt
begun_settings (Some g) n = refl

pub came_settings : (c : Core) (what : Comeback) → SameSettings (came_back c what).manager c.manager
came_settings c comeback.Stays = settings_same c.manager
came_settings c (comeback.Rests n a t) = failed_settings c.manager a t
came_settings c (comeback.Dials l None t) = settings_same c.manager
came_settings c (comeback.Dials l (Some n) t) = begun_settings c.manager n

pub own_settings : (c : Core) (kind : EventKind) (acts : List LinkAct) (what : Comeback) → SameSettings (came_back (heeding c kind acts) what).manager c.manager
own_settings c kind acts what =
    let h = heeding c kind acts in
    settings_then (came_back h what).manager h.manager c.manager (came_settings h what) (heeded_settings c.manager kind acts)

pub same_bound : (m n : Option Generations) → SameSettings m n → bound_of m ≡ bound_of n
same_bound None None s = refl
same_bound (Some g) (Some h) s = ap (λ (x : ConnectionManagerConfig). x.connection.connection_timeout) s
same_bound None (Some h) s = absurd s
same_bound (Some g) None s = absurd s

pub same_fraction : (m n : Option Generations) → SameSettings m n → HasFraction n → HasFraction m
same_fraction None None s f = tt
same_fraction (Some g) (Some h) s f = subst (λ (x : ConnectionManagerConfig). 0 < x.exponent_base.1) (sym s) f
same_fraction None (Some h) s f = absurd s
same_fraction (Some g) None s f = absurd s

-- it fits the links, and the generations, that there are
abbrev pub Suits : Option Generations → Core → Comeback → Type 0
Suits m c comeback.Stays = Unit {0}
Suits None c (comeback.Rests n a t) = ⊥
Suits None c (comeback.Dials l n t) = ⊥
Suits (Some g) c (comeback.Rests n a t) = (a ≡ g.attempt) × (c.single.link < c.links) × (t ≡ length c.timers)
Suits (Some g) c (comeback.Dials l None t) = (l ≡ c.links) × (t ≡ length c.timers)
Suits (Some g) c (comeback.Dials l (Some n) t) = (l ≡ c.links) × (t ≡ length c.timers) × (n ≡ g.number + 1)

suits_of : (g : Generations) (woken over : Bool) (c : Core) (acts : List LinkAct) → Suits (Some g) c (comeback_of g woken over c acts)
suits_of g woken over c acts =
    let S = Suits (Some g) c in
    chosen S (is_used_up c.single.connection) _ _ (λ _. tt)
    (λ _. chosen S (rests c) _ _ (λ r. (refl, lt_from c.single.link c.links (both_right (is_resting c.single.connection.life) (nat_lt c.single.link c.links) r), refl))
    (λ _. chosen S c.shut _ _ (λ _. tt)
    (λ _. chosen S woken _ _ (λ _. (refl, refl))
    (λ _. chosen S (is_due g over c.single.connection acts) _ _ (λ _. (refl, refl, refl)) (λ _. tt)))))

pub suits_in : (m : Option Generations) (woken over : Bool) (c : Core) (acts : List LinkAct) → Suits m c (comeback_in m woken over c acts)
suits_in None woken over c acts = tt
suits_in (Some g) woken over c acts = suits_of g woken over c acts

-- nothing is done once a number has run out
pub used_stays : (m : Option Generations) (woken over : Bool) (c : Core) (acts : List LinkAct) → is_used_up c.single.connection ≡ true → comeback_in m woken over c acts ≡ comeback.Stays
used_stays None woken over c acts used = refl
used_stays (Some g) woken over c acts used = taken_if (is_used_up c.single.connection) comeback.Stays _ used

-- so there are no more generations and attempts than links
heeded_few : (m : Option Generations) (kind : EventKind) (acts : List LinkAct) (link links : ℕ) → AreFew m link links → AreFew (option_map (λ g. heeded g kind acts) m) link links
heeded_few None kind acts link links few = few
heeded_few (Some g) kind acts link links few = few

pub counted_heeding : (c : Core) (kind : EventKind) (acts : List LinkAct) → IsCounted c → IsCounted (heeding c kind acts)
counted_heeding c kind acts few = heeded_few c.manager kind acts c.single.link c.links few

rested_few : (m : Option Generations) (c : Core) (n a t : ℕ) → AreFew m c.single.link c.links → Suits m c (comeback.Rests n a t) → AreFew (option_map (λ g. failed_behind g a t) m) c.links c.links
rested_few None c n a t few suits = absurd suits
rested_few (Some g) c n a t few suits = (le_refl c.links, few.1, omega (arith, few.2, suits.0, suits.1))

dialled_few : (m : Option Generations) (c : Core) (l t : ℕ) → AreFew m c.single.link c.links → Suits m c (comeback.Dials l None t) → AreFew m l (c.links + 1)
dialled_few None c l t few suits = absurd suits
dialled_few (Some g) c l t few suits = (omega (arith, suits.0), omega (arith, few.1), omega (arith, suits.0, few.0, few.2))

begun_few : (m : Option Generations) (c : Core) (l n t : ℕ) → AreFew m c.single.link c.links → Suits m c (comeback.Dials l (Some n) t) → AreFew (option_map (λ g. begun_with g n) m) l (c.links + 1)
begun_few None c l n t few suits = absurd suits
begun_few (Some g) c l n t few suits = (omega (arith, suits.0), omega (arith, few.1, suits.2), omega arith)

pub counted_came : (c : Core) (what : Comeback) → IsCounted c → Suits c.manager c what → IsCounted (came_back c what)
counted_came c comeback.Stays few suits = few
counted_came c (comeback.Rests n a t) few suits = rested_few c.manager c n a t few suits
counted_came c (comeback.Dials l None t) few suits = dialled_few c.manager c l t few suits
counted_came c (comeback.Dials l (Some n) t) few suits = begun_few c.manager c l n t few suits

restable_few : (m : Option Generations) (c : Core) (n a t : ℕ) → AreFew m c.single.link c.links → c.links < 2 ^ 32 → Suits m c (comeback.Rests n a t) → a < 2 ^ 32 - 1
restable_few None c n a t few links suits = absurd suits
restable_few (Some g) c n a t few links suits = omega (arith, few.2, suits.0, suits.1, links)

-- the attempt that failed isn't the last one that has a number
pub restable : (c : Core) (what : Comeback) → IsCounted c → c.links < 2 ^ 32 → Suits c.manager c what → IsRestable what
restable c comeback.Stays few links suits = tt
restable c (comeback.Rests n a t) few links suits = restable_few c.manager c n a t few links suits
restable c (comeback.Dials l n t) few links suits = tt

-- no timer is lost
pub more_timers : (c : Core) (what : Comeback) → length c.timers ≤ length (came_back c what).timers
more_timers c comeback.Stays = le_refl (length c.timers)
more_timers c (comeback.Rests n a t) = omega (arith, length-append c.timers (purpose.Backoff n ∷ []))
more_timers c (comeback.Dials l None t) = omega (arith, length-append c.timers (connect_purposes l (bound_of c.manager)))
more_timers c (comeback.Dials l (Some n) t) = omega (arith, length-append c.timers (connect_purposes l (bound_of (begun c n).manager)))

-- nor a link
pub more_links : (c : Core) (what : Comeback) → c.links ≤ (came_back c what).links
more_links c comeback.Stays = le_refl c.links
more_links c (comeback.Rests n a t) = le_refl c.links
more_links c (comeback.Dials l None t) = omega arith
more_links c (comeback.Dials l (Some n) t) = omega arith

-- the timer that is asked for with a link, where connects are bounded, and the number of the generation that begins, have room
timer_asked : (timers : List Purpose) (l t ms : ℕ) (bound : Option ℕ) → bound ≡ Some ms → t ≡ length timers → length (timers ++ connect_purposes l bound) < 2 ^ 32 → t < 2 ^ 32
timer_asked timers l t ms None e same few = cc
timer_asked timers l t ms (Some n) e same few = omega (arith, same, length-append timers (connect_purposes l (Some n)), few)

begun_bound : (m : Option Generations) (n : ℕ) → bound_of (option_map (λ g. begun_with g n) m) ≡ bound_of m
begun_bound None n = refl
begun_bound (Some g) n = refl

no_number : (n : ℕ) → ◌≡◌ {A = Option ℕ} None (Some n) → n < 2 ^ 32
no_number n e = cc

abbrev held : Option ℕ → ℕ
held None = 0
held (Some n) = n

same_number : (n k : ℕ) → ◌≡◌ {A = Option ℕ} (Some n) (Some k) → n < 2 ^ 32 → k < 2 ^ 32
same_number n k e l = let same : n ≡ k = ap (λ (x : Option ℕ). held x) e in omega (arith, same, l)

begun_number : (m : Option Generations) (c : Core) (l n t : ℕ) → AreFew m c.single.link c.links → Suits m c (comeback.Dials l (Some n) t) → n ≤ c.links + 1
begun_number None c l n t few suits = absurd suits
begun_number (Some g) c l n t few suits = omega (arith, few.1, suits.2)

suits_timer : (m : Option Generations) (c : Core) (l : ℕ) (n : Option ℕ) (t : ℕ) → Suits m c (comeback.Dials l n t) → t ≡ length c.timers
suits_timer None c l None t suits = absurd suits
suits_timer None c l (Some n) t suits = absurd suits
suits_timer (Some g) c l None t suits = suits.1
suits_timer (Some g) c l (Some n) t suits = suits.1

rests_timer : (m : Option Generations) (c : Core) (n a t : ℕ) → Suits m c (comeback.Rests n a t) → t ≡ length c.timers
rests_timer None c n a t suits = absurd suits
rests_timer (Some g) c n a t suits = suits.2

-- what is shown of it has numbers
pub showable : (c : Core) (what : Comeback) → IsCounted c → Suits c.manager c what → (came_back c what).links < 2 ^ 32 → length (came_back c what).timers < 2 ^ 32 → IsShowable (bound_of c.manager) what
showable c comeback.Stays few suits links timers = tt
showable c (comeback.Rests n a t) few suits links timers = omega (arith, rests_timer c.manager c n a t suits, length-append c.timers (purpose.Backoff n ∷ []), timers)
showable c (comeback.Dials l None t) few suits links timers = (λ k e. no_number k e, λ ms e. timer_asked c.timers l t ms (bound_of c.manager) e (suits_timer c.manager c l None t suits) timers)
showable c (comeback.Dials l (Some n) t) few suits links timers = (
  λ k e. same_number n k e (omega (arith, begun_number c.manager c l n t few suits, links)),
  λ ms e. timer_asked c.timers l t ms (bound_of (begun c n).manager) (begun_bound c.manager n ∙ e) (suits_timer c.manager c l (Some n) t suits) timers,
)
