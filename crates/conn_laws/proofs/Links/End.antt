-- A fault ends the connection's link, or the shutdown does.
use Rattle.std.proofs.Common.{if◌then◌else◌, inl, inr, ◌≡◌, ◌≢◌, ℕ, true, false, List, [], ◌∷◌, ◌++◌, Some, None, refl, sym, ap, ◌∙◌, subst, is_some, arith, Option, ◌≤◌, ◌+◌, length, take}
use Rattle.std.specs.List.{AllByRecursion}
use Rattle.containers.proofs.Choices.{chosen, taken_if, le_test, not_both}
use Rattle.redis_error.specs.declared.redis_error.RedisError.{RedisError}
use Rattle.redis_error.specs.declared.redis_error.RedisError.TheVariants as error
use Rattle.driver_model.specs.declared.action.Owner.{Owner}
use Rattle.driver_model.specs.declared.action.Owner.TheVariants as owner
use Rattle.driver_model.specs.declared.news.LinkFault.{LinkFault}
use Rattle.driver_model.specs.declared.outcome.Verdict.TheVariants as verdict
use Rattle.driver_model.specs.News.{News, failed, denied, deserted, shut, overdue, dropped}
use Rattle.link_core.specs.declared.message.Queued.{Queued}
use Rattle.link_core.specs.declared.message.Settled.{Settled}
use Rattle.link_core.specs.Ends.{failed_by, queue_closed, error_of}
use Rattle.link_core.specs.Link.{LinkState}
use Rattle.link_laws.specs.Settles.{settled_ids, wanted, awaited_ids, IsOwed}
use Rattle.link_laws.proofs.Dealt.{all_append}
use Rattle.link_laws.proofs.Settles.{same_error}
use Rattle.link_laws.proofs.TiedLink.{TiedLink}
use Rattle.mux_conn.specs.declared.life.Greeting.{Greeting}
use Rattle.mux_conn.specs.declared.life.Life.{Life}
use Rattle.mux_conn.specs.declared.life.Life.TheVariants.{Wanting, Ready}
use Rattle.mux_conn.specs.Effects.{greeting_error}
use Rattle.legal_trace.specs.Ledger.{Ledger, by_opening, hears, noted, ending_unready, ending_up, is_set_up, lacks_credentials, fault_error, opening_error, monitor_among, reach, Start, setup_count, is_full}
use Rattle.conn_laws.proofs.Ties.Numbers.{IsIn}
use Rattle.conn_laws.proofs.Links.Server.{AreSought, HasCredentials, IsGreeting, IsWatchSent}
use Rattle.conn_laws.proofs.Ties.Tied.{link_in, queue_ids, greeter}
use Rattle.conn_laws.proofs.Links.SetUp.{alone_unwatched}
use Rattle.conn_laws.proofs.Links.Close.{IsClosedOf, SettlesAll}
use Rattle.conn_laws.proofs.Turn.Heard.{IsOfAnother}
use Rattle.link_laws.proofs.Rows.{none_open, open_list, open_rows}
use Rattle.link_core.specs.Dealing.{is_awaiting}
use Rattle.mux_conn.specs.declared.life.Greeting.TheVariants as greet
use Rattle.link_core.specs.declared.message.Entry.{Entry}
use Rattle.std.proofs.lemmas.List.{take_all}

-- what waits in the queue gets the closed connection
queue_waits : (ids : List ℕ) (queue : List Queued) → ((n : ℕ) → IsIn n (queue_ids queue) → IsIn n ids) → AllByRecursion (IsClosedOf ids) (queue_closed queue)
queue_waits ids [] keep = tt
queue_waits ids (q ∷ qs) keep =
    all_append (IsClosedOf ids) (failed_by q.awaited q.id error.Closed) (queue_closed qs)
    (chosen (AllByRecursion (IsClosedOf ids)) q.awaited (record { id = q.id; verdict = verdict.Fault error.Closed } ∷ []) [] (λ t. ((refl, keep q.id (inl refl)), tt)) (λ f. tt))
    (queue_waits ids qs (λ n i. keep n (inr i)))

-- what a link settles that ends, by the life of its connection
pub settles_ready : (name : ℕ → Owner) (l : Ledger) (life : Life) (link : LinkState) (row : List Settled) → life ≡ Ready link → AllByRecursion (IsOwed name l) row → settled_ids (row ++ queue_closed link.queue) ≡ wanted link.row ++ awaited_ids link.queue
    → SettlesAll name l (link_in life) row (queue_closed link.queue)
settles_ready name l life link row is all ids =
    subst (λ (x : Life). SettlesAll name l (link_in x) row (queue_closed link.queue)) (sym is) (record { started = all; waits = queue_waits (queue_ids link.queue) link.queue (λ n i. i); ids = ids })

-- a link that is up, with its ledger
pub record IsUp (name : ℕ → Owner) (l : Ledger) (created : ℕ) (link : LinkState) : Type 0 where
  pub asked : l.asked ≡ true
  pub up : l.up ≡ true
  pub alive : l.end ≡ None
  pub shown : created ≢ 0
  pub has : HasCredentials l.creds
  pub well : is_set_up l ≡ true
  pub tied : TiedLink name l link

-- a link that waits for credentials, with its ledger
pub record IsWanting (l : Ledger) (created : ℕ) (started : List ℕ) (link : LinkState) : Type 0 where
  pub asked : l.asked ≡ true
  pub up : l.up ≡ true
  pub alive : l.end ≡ None
  pub sought : AreSought l.creds (Wanting link)
  pub lacks : lacks_credentials l ≡ true
  pub starts : l.starts ≡ []
  pub none : started ≡ []
  pub queue : link.queue ≡ []
  pub row : link.row ≡ []
  pub tied : TiedLink (λ p. owner.Setup) l link

-- a link that is set up, with its ledger
pub record IsSetting (l : Ledger) (created : ℕ) (started : List ℕ) (link : LinkState) (greeting : Greeting) : Type 0 where
  pub asked : l.asked ≡ true
  pub up : l.up ≡ true
  pub alive : l.end ≡ None
  pub has : HasCredentials l.creds
  pub once : l.creds.renews ≡ false
  pub none : started ≡ []
  pub said : IsGreeting l link greeting
  pub tied : TiedLink (λ p. greeter greeting) l link

-- the turns of these events
--
-- news that leave what is told of a link
abbrev pub IsPlain : News → Type 0
IsPlain (failed f) = Unit {0}
IsPlain shut = Unit {0}
IsPlain overdue = Unit {0}
IsPlain (denied text) = Unit {0}
IsPlain deserted = Unit {0}
IsPlain dropped = Unit {0}
IsPlain _ = ⊥

-- the link stays as it is
pub plain_is : (l : Ledger) (turn : ℕ) (n : News) → IsPlain n → noted l (hears turn n) ≡ record l { heard = n }
plain_is l turn (failed f) k = refl
plain_is l turn shut k = refl
plain_is l turn overdue k = refl
plain_is l turn (denied text) k = refl
plain_is l turn deserted k = refl
plain_is l turn dropped k = refl
plain_is l turn _ k = absurd k

-- MONITOR that isn't answered takes items
watch_awaits : (name : ℕ → Owner) (l : Ledger) (link : LinkState) (row : List Entry) → link.row ≡ row → IsWatchSent l link → l.end ≡ None → TiedLink name l link → is_awaiting row ≡ true
watch_awaits name l link (e ∷ es) is sent alive tied = refl
watch_awaits name l link [] is sent alive tied =
    let none : open_rows l.starts l.dealt ≡ [] = sym (tied.row alive) ∙ ap (open_list name) is in
    let far = none_open l.starts l.dealt none in
    let all : take (sent.k + 1) l.starts ≡ l.starts = take_all (sent.k + 1) l.starts (omega (arith, sent.long)) in
    absurd (not_both (is_full l sent.k) sent.open_is (le_test _ _ (subst (λ (ss : List Start). reach ss l.dealt ≤ length l.dealt) (sym all) far)))

-- the error of a greeting that a fault ends is that of the opening
pub opening_error_is : (name : ℕ → Owner) (l : Ledger) (link : LinkState) (greeting : Greeting) (f : LinkFault) → IsGreeting l link greeting → l.end ≡ None → TiedLink name l link → opening_error l f ≡ greeting_error greeting link.row f
opening_error_is name l link greet.WithUser f h alive tied = ap (λ (o : Option ℕ). if is_some o then fault_error f else error.Closed) (alone_unwatched l.starts (setup_count l.starts) 0 h.alone)
opening_error_is name l link greet.WithoutUser f h alive tied = ap (λ (o : Option ℕ). if is_some o then fault_error f else error.Closed) (alone_unwatched l.starts (setup_count l.starts) 0 h.alone)
opening_error_is name l link greet.Monitor f h alive tied = elim h.stage [
  | inl due ↦
      ap (λ (o : Option ℕ). if is_some o then fault_error f else error.Closed) (alone_unwatched l.starts (setup_count l.starts) 0 due.alone)
      ∙ ap (λ (row : List Entry). if is_awaiting row then error_of f else error.Closed) (sym due.row)
  | inr sent ↦
      ap (λ (o : Option ℕ). if is_some o then fault_error f else error.Closed) sent.sent ∙ same_error f
      ∙ sym (taken_if (is_awaiting link.row) (error_of f) error.Closed (watch_awaits name l link link.row refl sent alive tied))
]

-- and that of a link on which nothing has started is the closed connection
pub bare_error_is : (l : Ledger) (f : LinkFault) → l.starts ≡ [] → opening_error l f ≡ error.Closed
bare_error_is l f none = ap (λ (ss : List Start). if is_some (monitor_among ss 0) then fault_error f else error.Closed) none

-- news that there are none, and the error by which an opening fails then that waits for them
pub record Denies (n : News) (x : RedisError) : Type 0 where
  pub stays : (l : Ledger) (turn : ℕ) → noted l (hears turn n) ≡ record l { heard = n }
  pub apart : IsOfAnother n
  pub ends : (l : Ledger) → ending_unready l n ≡ (if lacks_credentials l then Some (by_opening x) else None)
  pub calm : (l : Ledger) → ending_up l n ≡ None
  pub open_still : n ≢ shut
