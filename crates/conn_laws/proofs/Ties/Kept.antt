-- Stories of the same submissions, outcomes, times and tries.
use Rattle.std.proofs.Common.{Bool, List, [], ap, sym, ℕ, ◌∙◌, ◌∷◌, ◌≡◌}
use Rattle.std.specs.List.{AllByRecursion}
use Rattle.driver_model.specs.declared.outcome.Shape.{Shape}
use Rattle.link_core.specs.declared.message.Queued.{Queued}
use Rattle.mux_conn.specs.Requests.{name_at}
use Rattle.mux_conn.specs.declared.request.Request.{Request}
use Rattle.mux_conn.specs.declared.request.Waiting.{Waiting}
use Rattle.legal_trace.specs.Ledger.{Ledger}
use Rattle.legal_trace.specs.Story.{Story, awaited_in, packed_in, shape_in, tried}
use Rattle.conn_laws.proofs.Ties.Tied.{IsOf, IsPacked, IsQueued, TiedTries}

-- a story of the same submission
pub of_same : (s s' : Story) (bytes : List ℕ) (of_shape : Shape) (awaited : Bool) → s.submission ≡ s'.submission → IsOf s bytes of_shape awaited → IsOf s' bytes of_shape awaited
of_same s s' bytes of_shape awaited e h = record {
  packs = h.packs ∙ ap packed_in e;
  shape_is = h.shape_is ∙ ap shape_in e;
  awaited_is = h.awaited_is ∙ ap awaited_in e;
}

-- of the same submissions
abbrev pub SameSubmissions : (ℕ → Story) → (ℕ → Story) → Type 0
SameSubmissions f g = (n : ℕ) → (f n).submission ≡ (g n).submission

-- of the same outcomes
abbrev pub SameOutcomes : (ℕ → Story) → (ℕ → Story) → Type 0
SameOutcomes f g = (n : ℕ) → (f n).outcomes ≡ (g n).outcomes

-- of the same times
abbrev pub SameTimes : (ℕ → Story) → (ℕ → Story) → Type 0
SameTimes f g = (n : ℕ) → (f n).timeout ≡ (g n).timeout

-- those that wait are as their submissions say
pub packed_same : (f g : ℕ → Story) (requests : List Request) (ws : List Waiting) → SameSubmissions f g → SameTimes f g → AllByRecursion (IsPacked f requests) ws → AllByRecursion (IsPacked g requests) ws
packed_same f g requests [] same times all = tt
packed_same f g requests (w ∷ ws) same times all = (
  record {
    is_of = of_same (f (name_at requests w.number)) (g (name_at requests w.number)) w.packed w.shape w.awaited (same (name_at requests w.number)) all.0.is_of;
    time_is = all.0.time_is ∙ times (name_at requests w.number);
  },
  packed_same f g requests ws same times all.1,
)

-- and so are those in the queue
pub queued_same : (f g : ℕ → Story) (requests : List Request) (qs : List Queued) → SameSubmissions f g → SameOutcomes f g → AllByRecursion (IsQueued f requests) qs → AllByRecursion (IsQueued g requests) qs
queued_same f g requests [] same told all = tt
queued_same f g requests (q ∷ qs) same told all = (
  record {
    is_of = of_same (f (name_at requests q.id)) (g (name_at requests q.id)) q.packed q.shape q.awaited (same (name_at requests q.id)) all.0.is_of;
    placed_at = all.0.placed_at;
    told = λ e. sym (told (name_at requests q.id)) ∙ all.0.told e;
  },
  queued_same f g requests qs same told all.1,
)

-- of the same tries, by the same places
pub tries_same : (l : Ledger) (f g : ℕ → Story) (requests : List Request) (link : ℕ) (started : List ℕ) → SameSubmissions f g → ((n : ℕ) → (f n).tries ≡ (g n).tries) → ((n : ℕ) → (f n).link ≡ (g n).link) → TiedTries l f requests link started → TiedTries l g requests link started
tries_same l f g requests link started same tried linked h = record {
  owners = h.owners;
  greeted = h.greeted;
  shapes = λ k p s l i j. h.shapes k p s l i j ∙ ap shape_in (same (name_at requests p));
  tried = λ k p l i. sym (tried (name_at requests p)) ∙ h.tried k p l i;
  untried = λ p r i out on. sym (tried r.name) ∙ h.untried p r i out (linked r.name ∙ on);
}
