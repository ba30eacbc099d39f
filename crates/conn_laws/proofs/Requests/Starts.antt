-- Messages start as far as they can.
use Rattle.std.proofs.Common.{List, None, [], ap, append_assoc, arith, false, inl, inr, refl, sym, true, ℕ, ◌++◌, ◌∙◌, ◌∷◌, ◌≡◌, ◌⊎◌}
use Rattle.std.proofs.lemmas.List.{append-nil}
use Rattle.containers.proofs.Choices.{chosen}
use Rattle.link_core.specs.Link.{Starting, holds_back, started_each, started_one}
use Rattle.link_core.specs.declared.message.Queued.{Queued}
use Rattle.link_core.specs.declared.message.Started.{Started}
use Rattle.mux_conn.specs.Connection.{Work, acted}
use Rattle.mux_conn.specs.Starts.{shown_each as shown_starts}
use Rattle.mux_conn.specs.Requests.{name_at}
use Rattle.mux_conn.specs.declared.act.LinkAct.{LinkAct}
use Rattle.mux_conn.specs.declared.act.LinkAct.TheVariants as act
use Rattle.mux_conn.specs.declared.request.Request.{Request}
use Rattle.legal_trace.specs.Ledger.{Ledger, Start, begins, ending, is_of_setup, noted}
use Rattle.conn_laws.proofs.Ties.Ahead.{HasSeats}
use Rattle.legal_trace.proofs.Setups.{ends_where_set}
use Rattle.conn_laws.proofs.Links.SetUp.{ending_up_same, set_up_begins}
use Rattle.conn_laws.proofs.Requests.Start.{with_queue}
use Rattle.conn_laws.proofs.Ties.States.{IsFit}
use Rattle.conn_laws.proofs.Links.Server.{IsSetUp}

-- the start of a request's message ends no link
pub begins_ends_none : (l : Ledger) (s : Start) → l.up ≡ true → is_of_setup s.owner ≡ false → IsSetUp l → ending l ≡ None → ending (noted l (begins s)) ≡ None
begins_ends_none l s up other h e = ends_where_set (noted l (begins s)) up (set_up_begins l s other h).well ∙ ending_up_same l (l.starts ++ s ∷ []) l.heard ∙ sym (ends_where_set l up h.well) ∙ e

-- the acts of the starts of one call
--
abbrev pub show_start : List Request → Started → LinkAct
show_start requests s = act.Start s.msg (name_at requests s.id) s.need s.len

-- and of all
abbrev pub shows : List Request → List Started → List LinkAct
shows requests [] = []
shows requests (s ∷ ss) = show_start requests s ∷ shows requests ss

-- one start more
pub shows-append : (requests : List Request) (ss : List Started) (s : Started) → shows requests (ss ++ s ∷ []) ≡ shows requests ss ++ show_start requests s ∷ []
shows-append requests [] s = refl
shows-append requests (x ∷ ss) s = ap (λ more. show_start requests x ∷ more) (shows-append requests ss s)

-- what is shown of starts
pub shown_is : (w : Work) (ss : List Started) → shown_starts w ss ≡ record w { acts = w.acts ++ shows w.conn.requests ss }
shown_is w [] = ap (λ (x : List LinkAct). record w { acts = x }) (sym (append-nil w.acts))
shown_is w (s ∷ ss) = shown_is (acted w (show_start w.conn.requests s)) ss ∙ ap (λ (x : List LinkAct). record w { acts = x }) (append_assoc w.acts (show_start w.conn.requests s ∷ []) (shows w.conn.requests ss))

-- a link with one more started is fit as it was
pub fit_next : (size bound : ℕ) (s : Starting) (q : Queued) (qs : List Queued) → IsFit size bound (with_queue s.link (q ∷ qs)) → IsFit size bound (with_queue (started_one s q).link qs)
fit_next size bound s q qs h = let w = h.within in record { sound = h.sound; size_is = h.size_is; bound_is = h.bound_is; within = omega arith }

-- and who took a place in this turn found one
pub seats_next : (moved : List ℕ) (front size : ℕ) (s : Starting) (q : Queued) (qs : List Queued) → HasSeats moved front (with_queue s.link (q ∷ qs)) size → HasSeats moved front (with_queue (started_one s q).link qs) size
seats_next moved front size s q qs h p m i = let k = h p m (inr i) in omega arith

-- the link is fit behind them
pub each_fit : (size bound : ℕ) (s : Starting) (qs : List Queued) → IsFit size bound (with_queue s.link qs) → IsFit size bound (started_each s qs).link
each_fit size bound s [] h = record { sound = h.sound; size_is = h.size_is; bound_is = h.bound_is; within = h.within }
each_fit size bound s (q ∷ qs) h =
    chosen (λ (x : Starting). IsFit size bound x.link) (holds_back s.link) _ (started_each (started_one s q) qs)
    (λ held. record { sound = h.sound; size_is = h.size_is; bound_is = h.bound_is; within = h.within })
    (λ free. each_fit size bound (started_one s q) qs (fit_next size bound s q qs h))

-- who took a place in this turn, and is in the queue still, found one
pub each_seats : (moved : List ℕ) (front size : ℕ) (s : Starting) (qs : List Queued) → HasSeats moved front (with_queue s.link qs) size → HasSeats moved front (started_each s qs).link size
each_seats moved front size s [] h = h
each_seats moved front size s (q ∷ qs) h =
    chosen (λ (x : Starting). HasSeats moved front x.link size) (holds_back s.link) _ (started_each (started_one s q) qs) (λ held. h) (λ free. each_seats moved front size (started_one s q) qs (seats_next moved front size s q qs h))

-- and nothing is in its queue, or it is held back
pub each_held : (s : Starting) (qs : List Queued) → ((started_each s qs).link.queue ≡ []) ⊎ (holds_back (started_each s qs).link ≡ true)
each_held s [] = inl refl
each_held s (q ∷ qs) = chosen (λ (x : Starting). (x.link.queue ≡ []) ⊎ (holds_back x.link ≡ true)) (holds_back s.link) _ (started_each (started_one s q) qs) (λ held. inr held) (λ free. each_held (started_one s q) qs)
