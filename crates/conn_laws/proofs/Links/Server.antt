-- What is said to the server of a link, beside requests: its credentials, its greeting, and new credentials.
use Rattle.std.proofs.Common.{refl, subst, ◌≡◌, ◌≢◌, ◌⊎◌, ℕ, zero, suc, ◌+◌, ◌<◌, ◌≤◌, if◌then◌else◌, Bool, true, false, List, [], ◌∷◌, length, drop, Option, Some, None, slice_get, codes}
use Rattle.std.specs.List.{AllByRecursion}
use Rattle.connection_info.specs.declared.address.RedisConnectionInfo.{RedisConnectionInfo}
use Rattle.driver_model.specs.declared.action.Owner.{Owner}
use Rattle.driver_model.specs.declared.action.Owner.TheVariants as owner
use Rattle.driver_model.specs.Setup.{says_nothing, setup_shape}
use Rattle.resp_write.specs.Pack.{pack}
use Rattle.driver_model.specs.declared.hearing.Hearing.{Hearing}
use Rattle.driver_model.specs.Hearing.{is_watching}
use Rattle.link_core.specs.declared.message.Entry.{Entry}
use Rattle.link_core.specs.declared.message.Queued.{Queued}
use Rattle.link_core.specs.Link.{LinkState}
use Rattle.driver_model.specs.declared.outcome.Shape.TheVariants.{Confirmation, Single}
use Rattle.driver_model.specs.Shape.{verdict_of}
use Rattle.mux_conn.specs.declared.life.Greeting.{Greeting}
use Rattle.mux_conn.specs.declared.life.Greeting.TheVariants as greet
use Rattle.mux_conn.specs.declared.life.Life.{Life}
use Rattle.mux_conn.specs.declared.life.Life.TheVariants.{Resting, Dialing, Wanting, SettingUp, Ready, Ended}
use Rattle.mux_conn.specs.declared.renewal.Renewal.{Renewal}
use Rattle.mux_conn.specs.Connection.{are_some, is_resting}
use Rattle.mux_conn.specs.Effects.{setup_queued, setup_id}
use Rattle.legal_trace.specs.Ledger.{Ledger, Sourced, Start, cut, is_done, is_full, is_greeted, is_of_renewal, is_set_up, is_taken, last_renewal, monitor_of, renewal_count, setup_count, setup_steps, setup_after}

-- the owners of starts, in order
abbrev pub owners_of : List Start → List Owner
owners_of [] = []
owners_of (s ∷ ss) = s.owner ∷ owners_of ss

-- so many setups, and then these
abbrev pub setup_owners : ℕ → List Owner → List Owner
setup_owners zero more = more
setup_owners (suc n) more = owner.Setup ∷ setup_owners n more

-- this holds of a link that was asked for
abbrev pub OnLink : Life → Type 0 → Type 0
OnLink Resting P = Unit {0}
OnLink Dialing P = P
OnLink (Wanting link) P = P
OnLink (SettingUp link greeting) P = P
OnLink (Ready link) P = P
OnLink (Ended e) P = P

-- where the connection has one
pub on_link : (life : Life) (P : Type 0) → is_resting life ≡ false → OnLink life P → P
on_link Resting P there h = cc
on_link Dialing P there h = h
on_link (Wanting link) P there h = h
on_link (SettingUp link greeting) P there h = h
on_link (Ready link) P there h = h
on_link (Ended e) P there h = h

-- and what holds anyway holds of it
pub of_link : (life : Life) (P : Type 0) → P → OnLink life P
of_link Resting P h = tt
of_link Dialing P h = h
of_link (Wanting link) P h = h
of_link (SettingUp link greeting) P h = h
of_link (Ready link) P h = h
of_link (Ended e) P h = h

-- what is heard on the link, once it was asked for
abbrev pub hearing_at : Life → Hearing → Hearing → Hearing
hearing_at Resting hears hearing = hears
hearing_at Dialing hears hearing = hearing
hearing_at (Wanting link) hears hearing = hearing
hearing_at (SettingUp link greeting) hears hearing = hearing
hearing_at (Ready link) hears hearing = hearing
hearing_at (Ended e) hears hearing = hearing

pub hearing_on : (life : Life) (hears hearing : Hearing) → is_resting life ≡ false → hearing_at life hears hearing ≡ hearing
hearing_on Resting hears hearing there = cc
hearing_on Dialing hears hearing there = refl
hearing_on (Wanting link) hears hearing there = refl
hearing_on (SettingUp link greeting) hears hearing there = refl
hearing_on (Ready link) hears hearing there = refl
hearing_on (Ended e) hears hearing there = refl

-- it is what the session hears
pub hearing_there : (life : Life) (hears hearing : Hearing) → is_resting life ≡ false → hearing_at life hears hearing ≡ hears → hearing ≡ hears
hearing_there life hears hearing there same = subst (λ (x : Hearing). x ≡ hears) (hearing_on life hears hearing there) same

-- the credentials of a link come of no source, or they have come
abbrev pub HasCredentials : Sourced → Type 0
HasCredentials c = (c.wanted ≡ false) ⊎ ((c.asked ≡ true) × (c.given ≡ true))

-- how far the credentials of a link have come; where it is set up, and they come of sources, a second one was asked for
abbrev pub AreSought : Sourced → Life → Type 0
AreSought c Resting = (c.asked ≡ false) × (c.given ≡ false) × (c.renews ≡ false)
AreSought c Dialing = (c.asked ≡ false) × (c.given ≡ false) × (c.renews ≡ false)
AreSought c (Wanting link) = (c.wanted ≡ true) × (c.asked ≡ true) × (c.given ≡ false) × (c.renews ≡ false)
AreSought c (SettingUp link greeting) = HasCredentials c × (c.renews ≡ false)
AreSought c (Ready link) = HasCredentials c × (c.renews ≡ c.wanted)
AreSought c (Ended e) = Unit {0}

-- whether they come of sources is the same for the link and the session
pub record TiedCreds (c : Sourced) (wanted : Bool) (life : Life) : Type 0 where
  pub wanted_is : OnLink life (c.wanted ≡ wanted)
  pub sought : AreSought c life

-- no new credentials came, and none were told
pub record NoneRenewed (l : Ledger) (r : Renewal) : Type 0 where
  pub over_is : l.creds.over ≡ r.over
  pub came : l.creds.renewals ≡ []
  pub waits : r.waiting ≡ []
  pub untimed : l.creds.timed ≡ 0
  pub unstarted : renewal_count l.starts ≡ 0
  pub unasked : r.asked ≡ 0
  pub unpending : r.pending ≡ false
  pub told : r.unanswered ≡ false
  pub kept : l.creds.lost ≡ false
  pub found : r.lost ≡ false

-- all starts that tell new credentials before that of number k have their items
abbrev pub AreFullBefore : Ledger → ℕ → Type 0
AreFullBefore l k = (j : ℕ) (s : Start) → j < k → slice_get l.starts j ≡ Some s → is_of_renewal s.owner ≡ true → is_full l j ≡ true

-- the last that were told are not answered, and all before are
pub record IsTold (l : Ledger) : Type 0 where
  pub k : ℕ
  pub last : last_renewal l.starts 0 None ≡ Some k
  pub open_is : is_full l k ≡ false
  pub earlier : AreFullBefore l k

-- they were not answered in time, or their reply is an error
abbrev pub IsLost : Ledger → Type 0
IsLost l = (l.creds.lost ≡ true) ⊎ ((k : ℕ) × (last_renewal l.starts 0 None ≡ Some k) × (is_full l k ≡ true) × (is_done (verdict_of Confirmation (cut l k Confirmation)) ≡ false))

-- for how many new credentials a timer was asked
abbrev pub timed_of : Option ℕ → ℕ → ℕ
timed_of None asked = 0
timed_of (Some ms) asked = asked

-- the new credentials of a link that is set up: those that weren't told wait, and as many came as were told; so many were to be told, and have their timers;
-- those that were told are answered, but the last where it says so; and they were taken, in time, where it isn't said that some were lost
pub record AreRenewed (l : Ledger) (r : Renewal) : Type 0 where
  pub over_is : l.creds.over ≡ r.over
  pub waits : r.waiting ≡ drop (renewal_count l.starts) l.creds.renewals
  pub some : renewal_count l.starts ≤ length l.creds.renewals
  pub asked_is : r.asked ≡ renewal_count l.starts + (if r.pending then 1 else 0)
  pub timed_is : l.creds.timed ≡ timed_of r.within r.asked
  pub next : r.pending ≡ true → (r.unanswered ≡ false) × (are_some r.waiting ≡ true)
  pub shaped : (k : ℕ) (s : Start) → slice_get l.starts k ≡ Some s → is_of_renewal s.owner ≡ true → s.shape ≡ Confirmation
  pub answered : r.unanswered ≡ false → AreFullBefore l (length l.starts)
  pub unanswered : r.unanswered ≡ true → IsTold l
  pub kept : r.lost ≡ false → l.creds.lost ≡ false
  pub taken : r.lost ≡ false → r.unanswered ≡ false → is_taken l (last_renewal l.starts 0 None) ≡ true
  pub lost : r.lost ≡ true → IsLost l

-- by how far the link has come; once it has ended, no more were told than were to be, and a timer was asked for all of them
abbrev pub TiedRenewal : Ledger → Renewal → Life → Type 0
TiedRenewal l r Resting = NoneRenewed l r
TiedRenewal l r Dialing = NoneRenewed l r
TiedRenewal l r (Wanting link) = NoneRenewed l r
TiedRenewal l r (SettingUp link greeting) = NoneRenewed l r
TiedRenewal l r (Ready link) = AreRenewed l r
TiedRenewal l r (Ended e) = ((r.within ≢ None) → renewal_count l.starts ≤ l.creds.timed) × (renewal_count l.starts ≤ r.asked)

-- the greeting that the setup of that number is
abbrev pub greeting_at : ℕ → Greeting
greeting_at zero = greet.WithUser
greeting_at (suc k) = greet.WithoutUser

-- nothing but setups has started
abbrev pub AreSetupsAlone : Ledger → Type 0
AreSetupsAlone l = owners_of l.starts ≡ setup_owners (setup_count l.starts) []

-- the setup that is to start next on a link is in its queue: the first with the user name, and a second one without it
pub record IsSetupDue (l : Ledger) (link : LinkState) (greeting : Greeting) : Type 0 where
  pub due : setup_after l (setup_count l.starts) ≡ Some (setup_count l.starts)
  pub user : greeting ≡ greeting_at (setup_count l.starts)
  pub queue : link.queue ≡ setup_queued (setup_steps l (setup_count l.starts)) (setup_id greeting) ∷ []
  pub row : link.row ≡ []

-- the last setup that started is not answered, and the one before it is
pub record IsSetupSent (l : Ledger) (link : LinkState) (greeting : Greeting) : Type 0 where
  pub k : ℕ
  pub few : k < 2
  pub count : setup_count l.starts ≡ suc k
  pub user : greeting ≡ greeting_at k
  pub queue : link.queue ≡ []
  pub earlier : (j : ℕ) → j < k → is_full l j ≡ true
  pub open_is : is_full l k ≡ false

-- something is said to the server, and a setup is to start or isn't answered; its verdict is wanted
pub record IsSettingUp (l : Ledger) (link : LinkState) (greeting : Greeting) : Type 0 where
  pub says : says_nothing (setup_steps l 0) ≡ false
  pub alone : AreSetupsAlone l
  pub stage : IsSetupDue l link greeting ⊎ IsSetupSent l link greeting
  pub awaited : AllByRecursion (λ (e : Entry). e.awaited ≡ true) link.row

-- the message that MONITOR is
abbrev pub watch_queued : Queued
watch_queued = record { id = setup_id greet.Monitor; packed = pack (codes "MONITOR" ∷ []); shape = Single; awaited = true }

-- MONITOR is to start, and in the queue
pub record IsWatchDue (l : Ledger) (link : LinkState) : Type 0 where
  pub alone : AreSetupsAlone l
  pub answered : (j : ℕ) → j < setup_count l.starts → is_full l j ≡ true
  pub queue : link.queue ≡ watch_queued ∷ []
  pub row : link.row ≡ []

-- it is the last that started, and isn't answered
pub record IsWatchSent (l : Ledger) (link : LinkState) : Type 0 where
  pub k : ℕ
  pub sent : monitor_of l ≡ Some k
  pub long : length l.starts ≡ suc k
  pub shaped : (s : Start) → slice_get l.starts k ≡ Some s → s.shape ≡ Single
  pub queue : link.queue ≡ []
  pub earlier : (j : ℕ) → j < k → is_full l j ≡ true
  pub open_is : is_full l k ≡ false

-- the server is to be put into monitor mode, what is said before is answered well, and MONITOR is to start or isn't answered; its
-- verdict is wanted
pub record IsWatching (l : Ledger) (link : LinkState) : Type 0 where
  pub watches : is_watching l.hearing ≡ true
  pub greeted : is_greeted l ≡ true
  pub none : says_nothing (setup_steps l 0) ≡ true → setup_count l.starts ≡ 0
  pub stage : IsWatchDue l link ⊎ IsWatchSent l link
  pub awaited : AllByRecursion (λ (e : Entry). e.awaited ≡ true) link.row

-- how far a greeting has come
abbrev pub IsGreeting : Ledger → LinkState → Greeting → Type 0
IsGreeting l link greet.WithUser = IsSettingUp l link greet.WithUser
IsGreeting l link greet.WithoutUser = IsSettingUp l link greet.WithoutUser
IsGreeting l link greet.Monitor = IsWatching l link

-- it is set up; where nothing is to be said no setup has started
pub record IsSetUp (l : Ledger) : Type 0 where
  pub well : is_set_up l ≡ true
  pub none : says_nothing (setup_steps l 0) ≡ true → setup_count l.starts ≡ 0

-- how far the setup of a link has come; no request's message starts before it is set up
abbrev pub HasSaid : Ledger → List ℕ → Life → Type 0
HasSaid l started Resting = (l.starts ≡ []) × (started ≡ [])
HasSaid l started Dialing = (l.starts ≡ []) × (started ≡ [])
HasSaid l started (Wanting link) = (l.starts ≡ []) × (started ≡ []) × (link.queue ≡ []) × (link.row ≡ [])
HasSaid l started (SettingUp link greeting) = (started ≡ []) × IsGreeting l link greeting
HasSaid l started (Ready link) = IsSetUp l
HasSaid l started (Ended e) = Unit {0}

-- the first starts of a link are those of its setup, as it is sent
abbrev pub AreSetups : Ledger → Type 0
AreSetups l = (k : ℕ) (s : Start) → k < setup_count l.starts → slice_get l.starts k ≡ Some s → (s.owner ≡ owner.Setup) × (s.shape ≡ setup_shape (setup_steps l k))

-- what is said to the server is the same for the link and the session
pub record TiedSetup (l : Ledger) (info : RedisConnectionInfo) (started : List ℕ) (life : Life) : Type 0 where
  pub info_is : OnLink life (l.info ≡ info)
  pub sent : AreSetups l
  pub said : HasSaid l started life
