-- MONITOR starts on a link whose server is put into monitor mode.
use Rattle.std.proofs.Common.{List, Some, [], ap, arith, inr, length, refl, true, ℕ, ◌+◌, ◌++◌, ◌≤◌, ◌∙◌, ◌∷◌, ◌≡◌, ◌&&◌, slice_get}
use Rattle.std.proofs.lemmas.List.{length_push}
use Rattle.std.specs.Prelude.{is_none}
use Rattle.containers.proofs.Choices.{not_both}
use Rattle.driver_model.specs.Hearing.{is_watching}
use Rattle.link_core.specs.Link.{LinkState, entry_of}
use Rattle.link_core.specs.declared.message.Entry.{Entry}
use Rattle.link_laws.proofs.TiedLink.{all_push}
use Rattle.link_laws.specs.Starts.{begun}
use Rattle.mux_conn.specs.declared.request.Request.{Request}
use Rattle.legal_trace.specs.Ledger.{Ledger, Start, begins, monitor_due, monitor_message, noted, reach, setup_count}
use Rattle.legal_trace.specs.Story.{Story}
use Rattle.legal_trace.proofs.Monitors.{monitor_begun}
use Rattle.legal_trace.proofs.Setups.{count_more, greeted_begins}
use Rattle.conn_laws.proofs.Internal.Renewals.{full_begins}
use Rattle.conn_laws.proofs.Links.SetUp.{alone_unwatched, begun_open, count_length}
use Rattle.conn_laws.proofs.Links.SetsUp.{greeted_more}
use Rattle.conn_laws.proofs.Requests.Start.{with_queue}
use Rattle.conn_laws.proofs.Links.Server.{IsWatchDue, IsWatching, watch_queued}
use Rattle.conn_laws.proofs.Ties.Tied.{TiedTries}

-- MONITOR is due
--
-- on a link that is up, and on which it is to start
pub watch_due : (l : Ledger) (link : LinkState) → l.up ≡ true → IsWatching l link → IsWatchDue l link → monitor_due l ≡ true
watch_due l link up h due = λ i. up i && h.watches i && h.greeted i && is_none (alone_unwatched l.starts (setup_count l.starts) 0 due.alone i)

-- no request's message has started when it has
pub tries_watched : (l : Ledger) (story : ℕ → Story) (requests : List Request) (link : ℕ) (started : List ℕ) → is_watching l.hearing ≡ true → started ≡ [] → TiedTries l story requests link started → TiedTries (noted l (begins monitor_message)) story requests link started
tries_watched l story requests link [] watches none h = record {
  owners = λ plain. absurd (not_both (is_watching l.hearing) plain watches);
  greeted = λ w. greeted_more l.starts monitor_message refl (h.greeted w);
  shapes = λ k p x w i j. cc;
  tried = λ k p w i. cc;
  untried = h.untried;
}
tries_watched l story requests link (p ∷ ps) watches none h = cc

-- the link with MONITOR in its queue, and once it has started
abbrev pub queued : LinkState → LinkState
queued link = with_queue link (watch_queued ∷ [])

abbrev pub watched : LinkState → LinkState
watched link = with_queue (begun link watch_queued) []

-- the last that started
last_there : (ss : List Start) (s x : Start) → slice_get (ss ++ s ∷ []) (length ss) ≡ Some x → x ≡ s
last_there [] s x at = cc
last_there (y ∷ ss) s x at = last_there ss s x at

-- what is known of it once it has started
pub watching_next : (l : Ledger) (link : LinkState) → length l.dealt ≤ reach l.starts l.dealt → IsWatchDue l (queued link) → IsWatching l (queued link) → IsWatching (noted l (begins monitor_message)) (watched link)
watching_next l link within due h =
    let s = monitor_message in
    let long = count_length l.starts (setup_count l.starts) due.alone in
    record {
      watches = h.watches;
      greeted = greeted_begins l s refl h.greeted;
      none = λ t. count_more l.starts s refl ∙ h.none t;
      stage = inr (record {
        k = length l.starts;
        sent = monitor_begun l.starts s 0 (alone_unwatched l.starts (setup_count l.starts) 0 due.alone) refl ∙ ap Some (let same : 0 + length l.starts ≡ length l.starts = omega arith in same);
        shaped = λ x at. ap (λ (y : Start). y.shape) (last_there l.starts s x at);
        long = (let more = length_push l.starts s in omega arith);
        queue = refl;
        earlier = λ j less. full_begins l s j less ∙ due.answered j (omega arith);
        open_is = begun_open l s (length l.starts) refl within;
      });
      awaited = all_push (λ (e : Entry). e.awaited ≡ true) link.row (entry_of watch_queued) h.awaited refl;
    }
