-- A link comes up: it is ready, or what is said to its server first is to start.
use Rattle.std.specs.List.{AllByRecursion}
use Rattle.std.proofs.Common.{inl, inr, length, ◌≡◌, ℕ, true, false, List, [], ◌++◌, None, refl, sym, ap, ◌∙◌, subst, ◌≢◌, Bool, if◌then◌else◌}
use Rattle.containers.proofs.Choices.{chosen, not_both}
use Rattle.driver_model.specs.declared.action.Owner.{Owner}
use Rattle.driver_model.specs.declared.action.WaitKind.{WaitKind}
use Rattle.driver_model.specs.declared.action.WaitKind.TheVariants as wait
use Rattle.connection_info.specs.declared.address.RedisConnectionInfo.{RedisConnectionInfo}
use Rattle.connection_setup.specs.Setup.{setup}
use Rattle.driver_model.specs.Setup.{says_nothing}
use Rattle.link_core.specs.declared.message.Queued.{Queued}
use Rattle.link_core.specs.Link.{LinkState}
use Rattle.link_laws.proofs.TiedLink.{TiedLink}
use Rattle.mux_conn.specs.declared.act.LinkAct.TheVariants as act
use Rattle.mux_conn.specs.declared.life.Life.{Life}
use Rattle.mux_conn.specs.declared.life.Life.TheVariants.{Resting, Dialing, Wanting, SettingUp, Ready, Ended}
use Rattle.mux_conn.specs.Requests.{is_waiting_at}
use Rattle.mux_conn.specs.Effects.{all_fresh, creation_told, made_ready, numbers_of}
use Rattle.mux_conn.specs.Turn.{early_wait}
use Rattle.mux_conn.specs.Connection.{Work, is_ready, acted, opened_on, is_resting}
use Rattle.mux_conn.specs.declared.connection.MultiplexedConnection.{MultiplexedConnection}
use Rattle.mux_conn.specs.declared.request.Request.{Request}
use Rattle.mux_conn.specs.declared.request.Waiting.{Waiting}
use Rattle.legal_trace.specs.Ledger.{Ledger, setup_count, setup_steps, Sourced, Start}
use Rattle.legal_trace.specs.Story.{Story}
use Rattle.conn_laws.proofs.Links.Server.{AreSetups, IsSetUp, AreSought, HasSaid, AreSetupsAlone, owners_of, setup_owners}
use Rattle.conn_laws.proofs.Ties.Tied.{IsEntry, IsQueued, TiedLines, TiedWaits, has_ended, link_in, no_link, owner_of, queue_ids}
use Rattle.conn_laws.proofs.Ties.States.{IsFit}
use Rattle.conn_laws.proofs.Ties.InLine.{kept_ids}
use Rattle.conn_laws.proofs.Ties.Numbers.{Rising, requests_in}
use Rattle.mux_conn.specs.declared.life.Greeting.{Greeting}
use Rattle.mux_conn.specs.declared.again.Again.{Again}

-- the waits
--
-- a link without messages has the lines of one that isn't up
pub bare_lines : (story : ℕ → Story) (requests : List Request) (link : LinkState) (waiting admitted : List Waiting) (started : List ℕ) → link.queue ≡ [] → link.row ≡ [] → TiedLines story requests no_link waiting admitted [] started → TiedLines story requests link waiting admitted [] started
bare_lines story requests link waiting admitted started queue row h = record {
  line = subst (λ (qs : List Queued). Rising 0 (requests_in started ++ (queue_ids qs ++ kept_ids admitted waiting)) (length requests)) (sym queue) h.line;
  queued = subst (AllByRecursion (IsQueued story requests)) (sym queue) tt;
  entries = subst (AllByRecursion (IsEntry requests)) (sym row) tt;
  packs = h.packs;
  packed_in = h.packed_in;
  there = λ p e. elim (h.there p e) [ inl i ↦ absurd i | inr k ↦ inr k ];
}

-- by a life alone nobody waits for what is subscribed again
pub not_resubscribing : (life : Life) → early_wait life ≢ wait.Resubscribe
not_resubscribing Resting same = cc
not_resubscribing Dialing same = cc
not_resubscribing (Wanting link) same = cc
not_resubscribing (SettingUp link greeting) same = cc
not_resubscribing (Ready link) same = cc
not_resubscribing (Ended e) same = cc

-- a link is ready
--
-- it is up and set up, and has no messages
pub record IsMade (l : Ledger) (created : ℕ) (requests : List Request) (link : LinkState) : Type 0 where
  pub asked : l.asked ≡ true
  pub up : l.up ≡ true
  pub alive : l.end ≡ None
  pub said : IsSetUp l
  pub tied : TiedLink (owner_of requests) l link
  pub queue : link.queue ≡ []
  pub row : link.row ≡ []

-- the life of a connection that has a link, which isn't ready, and has not ended
pub record IsEarly (life : Life) (after : WaitKind) : Type 0 where
  pub bare : link_in life ≡ no_link
  pub unready : is_ready life ≡ false
  pub alive : has_ended life ≡ false
  pub there : is_resting life ≡ false
  pub other : early_wait life ≢ after

-- no message has started there
pub early_started : (l : Ledger) (started : List ℕ) (life : Life) → is_ready life ≡ false → has_ended life ≡ false → HasSaid l started life → started ≡ []
early_started l started Resting unready alive h = h.1
early_started l started Dialing unready alive h = h.1
early_started l started (Wanting link) unready alive h = h.1
early_started l started (SettingUp link greeting) unready alive h = h.0
early_started l started (Ready link) unready alive h = cc
early_started l started (Ended e) unready alive h = cc

-- nor was a second source asked for
pub early_sources : (c : Sourced) (life : Life) → is_ready life ≡ false → has_ended life ≡ false → AreSought c life → c.renews ≡ false
early_sources c Resting unready alive h = h.2
early_sources c Dialing unready alive h = h.2
early_sources c (Wanting link) unready alive h = h.3
early_sources c (SettingUp link greeting) unready alive h = h.1
early_sources c (Ready link) unready alive h = cc
early_sources c (Ended e) unready alive h = cc

-- what a link that becomes ready leaves of a connection, whether a source is asked for or not
abbrev pub made_of : MultiplexedConnection → LinkState → MultiplexedConnection
made_of c link = record c { fresh = numbers_of c.waiting; life = Ready link; opened = true; told = true }

-- what a source that is asked for leaves
pub made_conn : (w : Work) (link : LinkState) → (made_ready w link).conn ≡ made_of w.conn link
made_conn w link =
    let v = creation_told (opened_on (all_fresh w) link) None in
    chosen (λ (x : Work). x.conn ≡ made_of w.conn link) w.conn.renewal.wanted (acted v act.NeedRenewals) v (λ t. refl) (λ f. refl)

-- but for what it shows
pub made_is : (w : Work) (link : LinkState) → made_ready w link ≡ record { conn = made_of w.conn link; acts = (made_ready w link).acts }
made_is w link = by_wanted w.conn.renewal.wanted
  where
    v : Work
    v = creation_told (opened_on (all_fresh w) link) None

    by_wanted : (b : Bool) → (if b then acted v act.NeedRenewals else v) ≡ record { conn = made_of w.conn link; acts = (if b then acted v act.NeedRenewals else v).acts }
    by_wanted true = refl
    by_wanted false = refl

-- a link is up
--
-- that has no messages, and whose server is told this
pub record IsUpNow (l : Ledger) (created : ℕ) (c : MultiplexedConnection) (info : RedisConnectionInfo) (started : List ℕ) (link : LinkState) : Type 0 where
  pub asked : l.asked ≡ true
  pub up : l.up ≡ true
  pub alive : l.end ≡ None
  pub info_is : l.info ≡ info
  pub wanted_is : l.creds.wanted ≡ c.renewal.wanted
  pub sent : AreSetups l
  pub starts : l.starts ≡ []
  pub none : started ≡ []
  pub tied : (name : ℕ → Owner) → TiedLink name l link
  pub queue : link.queue ≡ []
  pub row : link.row ≡ []
  pub fit : IsFit c.size c.boundary link

-- what is to be said is the same for the session and the ledger
pub says_same : (l : Ledger) (info : RedisConnectionInfo) → l.info ≡ info → says_nothing (setup_steps l 0) ≡ says_nothing (setup info true)
says_same l info is = ap (λ (x : RedisConnectionInfo). says_nothing (setup x true)) is

-- on a link on which nothing has started setups stand alone
pub bare_alone : (l : Ledger) → l.starts ≡ [] → AreSetupsAlone l
bare_alone l none = ap owners_of none ∙ ap (λ (ss : List Start). setup_owners (setup_count ss) []) (sym none)

-- where there are no requests nobody waits
pub none_wait : (story : ℕ → Story) (requests : List Request) (a : Again) (life : Life) (link : LinkState) (greeting : Greeting) (fresh moved : List ℕ) → requests ≡ [] → TiedWaits story requests a life fresh moved → TiedWaits story requests a (SettingUp link greeting) fresh moved
none_wait story requests a life link greeting fresh moved empty h = record {
  early = h.early;
  backoff = λ p w d. absurd (nobody p w);
  connect = λ p w d. absurd (nobody p w);
  creds = λ p x w d. absurd (nobody p w);
  setup = λ p x u w d. absurd (nobody p w);
  resubscribe = λ p x w d goes. absurd (nobody p w);
  permit = λ p x w d none. absurd (nobody p w);
  place = h.place;
  room = λ p i. absurd i;
  newer = h.newer;
  rising = h.rising;
  no_backoff = λ p i w d. absurd (nobody p w);
  no_connect = λ p i w d. absurd (nobody p w);
  no_creds = λ p x i w d. absurd (nobody p w);
  no_setup = λ p x u i w d. absurd (nobody p w);
  no_resubscribe = λ p x i w d goes. absurd (nobody p w);
  unpermitted = λ p x w d goes. absurd (nobody p w);
  no_permit = λ p x i w d none. absurd (nobody p w);
  no_place = h.no_place;
  seatless = h.seatless;
  no_room = λ p i j. absurd j;
}
  where
    nobody : (p : ℕ) → is_waiting_at requests p ≡ true → ⊥
    nobody p w = not_both (is_waiting_at requests p) (ap (λ (rs : List Request). is_waiting_at rs p) empty) w
