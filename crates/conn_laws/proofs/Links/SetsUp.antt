-- The setup of a link starts.
use Rattle.std.proofs.Common.{List, None, Option, Some, [], ap, append_assoc, arith, inl, inr, length, refl, subst, suc, sym, true, zero, ℕ, ◌++◌, ◌<◌, ◌≤◌, ◌∙◌, ◌∷◌, ◌≡◌}
use Rattle.std.proofs.lemmas.List.{append-nil}
use Rattle.containers.proofs.Choices.{by_test, left_if, not_both}
use Rattle.containers.proofs.Places.{get_within}
use Rattle.driver_model.specs.Setup.{setup_shape}
use Rattle.driver_model.specs.declared.action.Owner.TheVariants as owner
use Rattle.link_core.specs.Link.{LinkState, entry_of, started_each}
use Rattle.link_core.specs.declared.message.Entry.{Entry}
use Rattle.link_core.specs.declared.message.Queued.{Queued}
use Rattle.link_core.specs.declared.message.Started.{Started}
use Rattle.link_laws.proofs.TiedLink.{all_push}
use Rattle.link_laws.specs.Starts.{begun}
use Rattle.mux_conn.specs.Connection.{Work, acted, at_life, with_setup}
use Rattle.mux_conn.specs.Effects.{setup_queued, setup_id}
use Rattle.mux_conn.specs.Passes.{started_at, greeted_each, greets_with, greeting_act}
use Rattle.mux_conn.specs.declared.act.LinkAct.{LinkAct}
use Rattle.mux_conn.specs.declared.act.LinkAct.TheVariants as act
use Rattle.mux_conn.specs.declared.life.Greeting.{Greeting}
use Rattle.mux_conn.specs.declared.life.Life.TheVariants.{SettingUp}
use Rattle.mux_conn.specs.declared.request.Request.{Request}
use Rattle.legal_trace.specs.Ledger.{Ledger, Start, begins, is_full, noted, reach, repeats, result_of, setup_after, setup_count, setup_message, setup_steps}
use Rattle.legal_trace.specs.Story.{Story}
use Rattle.conn_laws.proofs.Ties.Names.{get_more}
use Rattle.conn_laws.proofs.Links.SetUp.{begun_open, count_length, count_next}
use Rattle.conn_laws.proofs.Requests.Start.{owners-append, with_queue}
use Rattle.conn_laws.proofs.Links.Server.{AreSetups, IsSettingUp, owners_of, setup_owners, AreSetupsAlone, greeting_at}
use Rattle.conn_laws.proofs.Ties.Tied.{TiedTries, HasGreetedAlone, greeter, is_of_greeting}
use Rattle.conn_laws.proofs.Internal.Renewals.{full_begins}
use Rattle.mux_conn.specs.declared.life.Greeting.TheVariants as greet

-- the acts of its starts
--
abbrev shows_greeting : Greeting → List Started → List LinkAct
shows_greeting greeting [] = []
shows_greeting greeting (s ∷ ss) = greeting_act greeting s ∷ shows_greeting greeting ss

-- what is shown of them
greeted_is : (w : Work) (greeting : Greeting) (ss : List Started) → greeted_each w greeting ss ≡ record w { acts = w.acts ++ shows_greeting greeting ss }
greeted_is w greeting [] = ap (λ (x : List LinkAct). record w { acts = x }) (sym (append-nil w.acts))
greeted_is w greeting (s ∷ ss) = greeted_is (acted w (greeting_act greeting s)) greeting ss ∙ ap (λ (x : List LinkAct). record w { acts = x }) (append_assoc w.acts (greeting_act greeting s ∷ []) (shows_greeting greeting ss))

-- that of a setup
pub setup_act : (greeting : Greeting) → greeter greeting ≡ owner.Setup → (s : Started) → greeting_act greeting s ≡ act.SetUp s.msg s.need s.len
setup_act greet.WithUser own s = refl
setup_act greet.WithoutUser own s = refl
setup_act greet.Monitor own s = cc

-- which leaves the connection
pub greeted_conn : (w : Work) (greeting : Greeting) (ss : List Started) → (greeted_each w greeting ss).conn ≡ w.conn
greeted_conn w greeting ss = ap (λ (x : Work). x.conn) (greeted_is w greeting ss)

-- the setup that is due
--
-- it is one of two
due_few : (l : Ledger) (n : ℕ) → setup_after l n ≡ Some n → n < 2
due_few l zero e = omega arith
due_few l (suc zero) e = omega arith
due_few l (suc (suc n)) e = cc

-- where the server counts other arguments, all replies to the first have come
repeats_full : (l : Ledger) → repeats (result_of l 0) ≡ true → is_full l 0 ≡ true
repeats_full l e = by_test (is_full l 0) _ (λ t. t) (λ f. absurd (not_both (repeats (result_of l 0)) (ap repeats (left_if (is_full l 0) _ None f)) e))

-- so those before it are answered
due_earlier : (l : Ledger) (n j : ℕ) → setup_after l n ≡ Some n → j < n → is_full l j ≡ true
due_earlier l zero j e w = absurd (omega arith)
due_earlier l (suc zero) zero e w = repeats_full l (by_test (repeats (result_of l 0)) _ (λ t. t) (λ f. absurd (let no : ◌≡◌ {A = Option ℕ} None (Some 1) = sym (left_if (repeats (result_of l 0)) (Some 1) None f) ∙ e in cc)))
due_earlier l (suc zero) (suc j) e w = absurd (omega arith)
due_earlier l (suc (suc n)) j e w = cc

-- one more setup
setup_owners-push : (n : ℕ) → setup_owners n [] ++ owner.Setup ∷ [] ≡ setup_owners (suc n) []
setup_owners-push zero = refl
setup_owners-push (suc n) = ap (λ os. owner.Setup ∷ os) (setup_owners-push n)

-- setups alone are so with one more
setups_alone : (l : Ledger) (s : Start) → s.owner ≡ owner.Setup → AreSetupsAlone l → AreSetupsAlone (noted l (begins s))
setups_alone l s mine alone =
    owners-append l.starts (s ∷ []) ∙ (λ i. alone i ++ mine i ∷ []) ∙ setup_owners-push (setup_count l.starts) ∙ ap (λ n. setup_owners n []) (sym (count_next l.starts (setup_count l.starts) s alone mine))

-- a greeting that starts is one more
pub greeted_more : (starts : List Start) (s : Start) → is_of_greeting s.owner ≡ true → HasGreetedAlone starts [] → HasGreetedAlone (starts ++ s ∷ []) []
greeted_more starts s mine h = record {
  none = refl;
  greets = λ k x e. elim (get_more starts s k x e) [ inl old ↦ h.greets k x old | inr new ↦ subst (λ (y : Start). is_of_greeting y.owner ≡ true) new.1 mine ];
}

-- no request's message has started when a setup has
pub tries_set : (l : Ledger) (s : Start) (story : ℕ → Story) (requests : List Request) (link : ℕ) (started : List ℕ) → s.owner ≡ owner.Setup → started ≡ [] → AreSetupsAlone l → TiedTries l story requests link started → TiedTries (noted l (begins s)) story requests link started
tries_set l s story requests link [] mine none alone h = record {
  owners = λ plain. setups_alone l s mine alone;
  greeted = λ w. greeted_more l.starts s (ap is_of_greeting mine) (h.greeted w);
  shapes = λ k p x w i j. cc;
  tried = λ k p w i. cc;
  untried = h.untried;
}
tries_set l s story requests link (p ∷ ps) mine none alone h = cc

-- the message that is due on a link
abbrev pub due_queued : Ledger → Greeting → Queued
due_queued l greeting = setup_queued (setup_steps l (setup_count l.starts)) (setup_id greeting)

abbrev pub due_start : Ledger → Start
due_start l = setup_message l (setup_count l.starts)

-- the first starts are those of the setup still
pub setups_next : (l : Ledger) → owners_of l.starts ≡ setup_owners (setup_count l.starts) [] → AreSetups l → AreSetups (noted l (begins (due_start l)))
setups_next l all h k x less e =
    let c = setup_count l.starts in
    let long = count_length l.starts c all in
    elim (get_more l.starts (due_start l) k x e) [
      | inl i ↦ h k x (let w = get_within l.starts k x i in omega arith) i
      | inr i ↦
          let same : c ≡ k = (let at = i.0 in omega arith) in
          subst (λ (y : Start). (y.owner ≡ owner.Setup) × (y.shape ≡ setup_shape (setup_steps l k))) i.1 (refl, ap (λ n. setup_shape (setup_steps l n)) same)
    ]

-- what is known of the setup once it has started
pub setting_next : (l : Ledger) (link : LinkState) (greeting : Greeting) → owners_of l.starts ≡ setup_owners (setup_count l.starts) [] → length l.dealt ≤ reach l.starts l.dealt → setup_after l (setup_count l.starts) ≡ Some (setup_count l.starts)
    → greeting ≡ greeting_at (setup_count l.starts) → IsSettingUp l (with_queue link (due_queued l greeting ∷ [])) greeting → IsSettingUp (noted l (begins (due_start l))) (with_queue (begun link (due_queued l greeting)) []) greeting
setting_next l link greeting all within due user h =
    let c = setup_count l.starts in
    let long = count_length l.starts c all in
    record {
      says = h.says;
      alone = setups_alone l (due_start l) refl all;
      stage = inr (record {
        k = c;
        few = due_few l c due;
        count = count_next l.starts c (due_start l) all refl;
        user = user;
        queue = refl;
        earlier = λ j w. full_begins l (due_start l) j (omega arith) ∙ due_earlier l c j due w;
        open_is = begun_open l (due_start l) c (sym long) within;
      });
      awaited = all_push (λ (e : Entry). e.awaited ≡ true) link.row (entry_of (due_queued l greeting)) h.awaited refl;
    }

-- the pass
--
-- where nothing starts, all stays
pub none_set_up : (w : Work) (link : LinkState) (greeting : Greeting) (queue : List Queued) → w.conn.life ≡ SettingUp link greeting → link.queue ≡ queue
    → started_each (record { link = link; out = [] }) queue ≡ record { link = with_queue link queue; out = [] } → started_at w (SettingUp link greeting) ≡ w
none_set_up w link greeting queue life same stays =
    ap (λ (qs : List Queued). greets_with w greeting (started_each (record { link = link; out = [] }) qs)) same
    ∙ ap (greets_with w greeting) stays
    ∙ ap (λ (qs : List Queued). with_setup w (with_queue link qs) greeting) (sym same)
    ∙ ap (at_life w) (sym life)
