-- What is tied of rounds is kept, where no round begins.
use Rattle.std.proofs.Common.{◌≡◌, ℕ, ◌<◌, ◌==◌, Bool, true, false, List, length, refl, sym, ◌∙◌}
use Rattle.containers.proofs.Choices.{chosen}
use Rattle.mux_conn.specs.declared.request.Progress.TheVariants as progress
use Rattle.mux_conn.specs.declared.request.Request.{Request}
use Rattle.mux_conn.specs.Requests.{is_open_at, is_unbegun_at, name_at, with_permits}
use Rattle.legal_trace.specs.Book.{Book, has_generations}
use Rattle.legal_trace.specs.Story.{Story}
use Rattle.conn_laws.proofs.Requests.Closing.{Closes}
use Rattle.session_laws.proofs.Requests.Closing.{with_closed}
use Rattle.conn_laws.proofs.Ties.Tied.{TiedRounds}
use Rattle.session_laws.proofs.Ties.Tied.{TurnState, Tied}
use Rattle.conn_laws.proofs.Requests.Rounded.{rounds_with}

-- a request is closed
pub rounds_closed : {comes ready rounds : Bool} (story : ℕ → Story) (requests : List Request) (fresh : List ℕ) (p : ℕ) (closed : ℕ → Story) → p < length requests → ((n : ℕ) → Closes (story n) (closed n)) → TiedRounds comes story requests ready fresh rounds
    → TiedRounds comes (with_closed story requests p closed) (with_permits requests p progress.Closed 0) ready fresh rounds
rounds_closed story requests fresh p closed within c h =
    rounds_with story (with_closed story requests p closed) requests fresh p progress.Closed 0 within refl
    (λ n. chosen (λ (x : Story). x.rounded ≡ (story n).rounded) (name_at requests p == n) (closed n) (story n) (λ t. (c n).rounded) (λ f. refl))
    (λ r o. cc) h

-- until the link takes requests
--
-- so the book says of a request whose round has begun, where rounds are shown
pub has_begun : (b : Book) (t : TurnState) (p : ℕ) → Tied b t → is_open_at t.requests p ≡ true → (t.rounds ≡ true → is_unbegun_at t.requests p ≡ false) → has_generations b ≡ true → (b.story (name_at t.requests p)).rounded ≡ true
has_begun b t p h o begun comes = let shows = sym h.rounds.rounds_is ∙ comes in h.rounds.begun p shows o (begun shows)
