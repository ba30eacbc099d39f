-- Ledgers with the same starts, the same items, and the same to be said: how far they have come is the same.
use Rattle.std.proofs.Common.{◌≡◌, inl, inr, ℕ, zero, suc, ◌==◌, ◌<◌, true, ◌&&◌, ◌||◌, not, if◌then◌else◌, List, [], ◌∷◌, length, Option, Some, None, refl, ap, ◌∙◌, sym, subst, slice_get}
use Rattle.std.specs.List.{AllByRecursion}
use Rattle.connection_setup.specs.declared.judgement.SetupResult.TheVariants.{Ready as Well}
use Rattle.connection_setup.specs.Setup.{setup}
use Rattle.driver_model.specs.Hearing.{is_watching}
use Rattle.driver_model.specs.Setup.{says_nothing}
use Rattle.link_core.specs.declared.message.Entry.{Entry}
use Rattle.link_core.specs.Link.{LinkState}
use Rattle.mux_conn.specs.declared.life.Greeting.{Greeting}
use Rattle.mux_conn.specs.declared.life.Greeting.TheVariants as greet
use Rattle.mux_conn.specs.declared.life.Life.{Life}
use Rattle.mux_conn.specs.declared.life.Life.TheVariants.{Resting, Dialing, Wanting, SettingUp, Ready, Ended}
use Rattle.mux_conn.specs.Effects.{setup_id, setup_queued}
use Rattle.legal_trace.specs.Ledger.{Ledger, Start, is_answered, is_full, is_greeted, is_set_up, is_well, lacks_credentials, last_result, monitor_among, monitor_of, repeats, result_of, setup_after, setup_count, setup_result, setup_steps}
use Rattle.conn_laws.proofs.Links.Server.{HasSaid, IsGreeting, IsSettingUp, IsWatching, greeting_at, owners_of, setup_owners}
use Rattle.conn_laws.proofs.Ties.Tied.{greeter}
use Rattle.driver_model.specs.declared.action.Owner.TheVariants as owner

-- of the second ledger the same is known of what is said to its server as of the first
pub record SameSaid (l m : Ledger) : Type 0 where
  pub starts : m.starts ≡ l.starts
  pub dealt : m.dealt ≡ l.dealt
  pub info : m.info ≡ l.info
  pub hearing : m.hearing ≡ l.hearing
  pub wanted : m.creds.wanted ≡ l.creds.wanted
  pub given : m.creds.given ≡ l.creds.given

-- whether a message has its items
pub full_alike : (l m : Ledger) → SameSaid l m → (k : ℕ) → is_full m k ≡ is_full l k
full_alike l m h k = λ i. is_full (record l { starts = h.starts i; dealt = h.dealt i }) k

-- what a setup came to
result_alike : (l m : Ledger) → SameSaid l m → (k : ℕ) → result_of m k ≡ result_of l k
result_alike l m h k = λ i. result_of (record l { starts = h.starts i; dealt = h.dealt i; info = h.info i }) k

-- the last of so many
last_alike : (l m : Ledger) → SameSaid l m → (n : ℕ) → last_result m n ≡ last_result l n
last_alike l m h zero = refl
last_alike l m h (suc k) = result_alike l m h k

-- which is due next
pub after_alike : (l m : Ledger) → SameSaid l m → (n : ℕ) → setup_after m n ≡ setup_after l n
after_alike l m h zero = λ i. if (h.wanted i && not (h.given i)) || says_nothing (setup (h.info i) (0 == 0)) then None else Some 0
after_alike l m h (suc zero) = ap (λ r. if repeats r then Some 1 else None) (result_alike l m h 0)
after_alike l m h (suc (suc k)) = refl

-- how many started
count_alike : (l m : Ledger) → SameSaid l m → setup_count m.starts ≡ setup_count l.starts
count_alike l m h = ap setup_count h.starts

-- whether it lacks credentials
pub lacks_alike : (l m : Ledger) → SameSaid l m → lacks_credentials m ≡ lacks_credentials l
lacks_alike l m h = λ i. h.wanted i && not (h.given i)

-- whether something is to be said
pub says_alike : (l m : Ledger) → SameSaid l m → says_nothing (setup_steps m 0) ≡ says_nothing (setup_steps l 0)
says_alike l m h = λ i. says_nothing (setup (h.info i) (0 == 0))

-- what all setups came to
pub setup_alike : (l m : Ledger) → SameSaid l m → setup_result m ≡ setup_result l
setup_alike l m h = λ i. if lacks_alike l m h i then None else if says_alike l m h i then Some Well else (last_alike l m h (setup_count m.starts) ∙ ap (last_result l) (count_alike l m h)) i

-- whether what is said before is answered well
pub greeted_alike : (l m : Ledger) → SameSaid l m → is_greeted m ≡ is_greeted l
greeted_alike l m h = ap is_well (setup_alike l m h)

-- which message is MONITOR
pub monitor_alike : (l m : Ledger) → SameSaid l m → monitor_of m ≡ monitor_of l
monitor_alike l m h = ap (λ (ss : List Start). monitor_among ss 0) h.starts

-- whether it is answered
answered_alike : (l m : Ledger) → SameSaid l m → (o : Option ℕ) → is_answered m o ≡ is_answered l o
answered_alike l m h None = refl
answered_alike l m h (Some k) = full_alike l m h k

-- and whether it is set up
pub set_alike : (l m : Ledger) → SameSaid l m → is_set_up m ≡ is_set_up l
set_alike l m h = λ i. greeted_alike l m h i && (not (is_watching (h.hearing i)) || (answered_alike l m h (monitor_of m) ∙ ap (is_answered l) (monitor_alike l m h)) i)

-- so a setup has come as far
setting_alike : (l m : Ledger) (link : LinkState) (greeting : Greeting) → SameSaid l m → IsSettingUp l link greeting → IsSettingUp m link greeting
setting_alike l m link greeting h s =
    let n = count_alike l m h in
    record {
      says = says_alike l m h ∙ s.says;
      alone = subst (λ (ss : List Start). owners_of ss ≡ setup_owners (setup_count ss) []) (sym h.starts) s.alone;
      stage = elim s.stage [
        | inl d ↦ inl (record {
          due = after_alike l m h (setup_count m.starts) ∙ ap (setup_after l) n ∙ d.due ∙ ap Some (sym n);
          user = d.user ∙ ap greeting_at (sym n);
          queue = d.queue ∙ (λ i. setup_queued (setup (sym h.info i) (sym n i == 0)) (setup_id greeting) ∷ []);
          row = d.row;
        })
        | inr s ↦ inr (record { k = s.k; few = s.few; count = n ∙ s.count; user = s.user; queue = s.queue; earlier = λ j less. full_alike l m h j ∙ s.earlier j less; open_is = full_alike l m h s.k ∙ s.open_is })
      ];
      awaited = s.awaited;
    }

-- and so has MONITOR
watching_alike : (l m : Ledger) (link : LinkState) → SameSaid l m → IsWatching l link → IsWatching m link
watching_alike l m link h s = record {
  watches = ap is_watching h.hearing ∙ s.watches;
  greeted = greeted_alike l m h ∙ s.greeted;
  none = λ t. count_alike l m h ∙ s.none (sym (says_alike l m h) ∙ t);
  stage = elim s.stage [
    | inl d ↦ inl (record { alone = subst (λ (ss : List Start). owners_of ss ≡ setup_owners (setup_count ss) []) (sym h.starts) d.alone; answered = λ j less. full_alike l m h j ∙ d.answered j (subst (λ n. j < n) (count_alike l m h) less); queue = d.queue; row = d.row })
    | inr s ↦ inr (record { k = s.k; sent = monitor_alike l m h ∙ s.sent; long = ap length h.starts ∙ s.long; shaped = λ x at. s.shaped x (ap (λ (ss : List Start). slice_get ss s.k) (sym h.starts) ∙ at); queue = s.queue; earlier = λ j less. full_alike l m h j ∙ s.earlier j less; open_is = full_alike l m h s.k ∙ s.open_is })
  ];
  awaited = s.awaited;
}

-- so a greeting has
pub greeting_alike : (l m : Ledger) (link : LinkState) (greeting : Greeting) → SameSaid l m → IsGreeting l link greeting → IsGreeting m link greeting
greeting_alike l m link greet.WithUser h s = setting_alike l m link greet.WithUser h s
greeting_alike l m link greet.WithoutUser h s = setting_alike l m link greet.WithoutUser h s
greeting_alike l m link greet.Monitor h s = watching_alike l m link h s

-- and all that is said
pub said_alike : (l m : Ledger) (started : List ℕ) (life : Life) → SameSaid l m → HasSaid l started life → HasSaid m started life
said_alike l m started Resting h s = (h.starts ∙ s.0, s.1)
said_alike l m started Dialing h s = (h.starts ∙ s.0, s.1)
said_alike l m started (Wanting link) h s = (h.starts ∙ s.0, s.1, s.2, s.3)
said_alike l m started (SettingUp link greeting) h s = (s.0, greeting_alike l m link greeting h s.1)
said_alike l m started (Ready link) h s = record { well = set_alike l m h ∙ s.well; none = λ t. count_alike l m h ∙ s.none (sym (says_alike l m h) ∙ t) }
said_alike l m started (Ended e) h s = tt

-- where all of it is the same by itself
pub same_said : (l : Ledger) → SameSaid l l
same_said l = record { starts = refl; dealt = refl; info = refl; hearing = refl; wanted = refl; given = refl }

-- a setup stands in the same way on a link with the same messages
setting_link : (l : Ledger) (link after : LinkState) (greeting : Greeting) → after.queue ≡ link.queue → after.row ≡ link.row → IsSettingUp l link greeting → IsSettingUp l after greeting
setting_link l link after greeting queue row s = record {
  says = s.says;
  alone = s.alone;
  stage = elim s.stage [
    | inl d ↦ inl (record { due = d.due; user = d.user; queue = queue ∙ d.queue; row = row ∙ d.row })
    | inr s ↦ inr (record { k = s.k; few = s.few; count = s.count; user = s.user; queue = queue ∙ s.queue; earlier = s.earlier; open_is = s.open_is })
  ];
  awaited = subst (AllByRecursion (λ (e : Entry). e.awaited ≡ true)) (sym row) s.awaited;
}

-- so does a greeting
pub greeting_link : (l : Ledger) (link after : LinkState) (greeting : Greeting) → after.queue ≡ link.queue → after.row ≡ link.row → IsGreeting l link greeting → IsGreeting l after greeting
greeting_link l link after greet.WithUser queue row s = setting_link l link after greet.WithUser queue row s
greeting_link l link after greet.WithoutUser queue row s = setting_link l link after greet.WithoutUser queue row s
greeting_link l link after greet.Monitor queue row s = record {
  watches = s.watches;
  greeted = s.greeted;
  none = s.none;
  stage = elim s.stage [
    | inl d ↦ inl (record { alone = d.alone; answered = d.answered; queue = queue ∙ d.queue; row = row ∙ d.row })
    | inr s ↦ inr (record { k = s.k; sent = s.sent; long = s.long; shaped = s.shaped; queue = queue ∙ s.queue; earlier = s.earlier; open_is = s.open_is })
  ];
  awaited = subst (AllByRecursion (λ (e : Entry). e.awaited ≡ true)) (sym row) s.awaited;
}

-- a setup's greeting is one
pub greeter_at : (k : ℕ) → greeter (greeting_at k) ≡ owner.Setup
greeter_at zero = refl
greeter_at (suc k) = refl

-- what is known of it
pub setting_of : (l : Ledger) (link : LinkState) (greeting : Greeting) → greeter greeting ≡ owner.Setup → IsGreeting l link greeting → IsSettingUp l link greeting
setting_of l link greet.WithUser own h = h
setting_of l link greet.WithoutUser own h = h
setting_of l link greet.Monitor own h = cc

-- and the other way round
pub greeting_of : (l : Ledger) (link : LinkState) (greeting : Greeting) → greeter greeting ≡ owner.Setup → IsSettingUp l link greeting → IsGreeting l link greeting
greeting_of l link greet.WithUser own h = h
greeting_of l link greet.WithoutUser own h = h
greeting_of l link greet.Monitor own h = cc
