-- The requests that submissions are, and where those are that are open.
use Rattle.std.proofs.Common.{List, None, Option, Some, [], length, refl, slice_get, ℕ, ◌++◌, ◌<◌, ◌∙◌, ◌∷◌, ◌≡◌}
use Rattle.containers.proofs.Places.{get_within}
use Rattle.mux_conn.specs.Requests.{name_at}
use Rattle.mux_conn.specs.declared.request.Pending.{Pending}
use Rattle.legal_trace.specs.Book.{Book}
use Rattle.conn_laws.proofs.Ties.Names.{name_of_some}
use Rattle.conn_laws.proofs.Ties.Tied.{IsRequest, TiedStory}
use Rattle.session_laws.proofs.Ties.Tied.{TurnState, Tied}
use Rattle.conn_laws.proofs.Ties.Behind.{IsAlive, blank_dead, fault_dead}

-- the request of a submission
pub record IsBehind (b : Book) (t : TurnState) (n : ℕ) : Type 0 where
  pub p : ℕ
  pub within : p < length t.requests
  pub name : name_at t.requests p ≡ n
  pub is : IsRequest (b.story n) t.requests t.link p

-- by what the session keeps of it
alive_entry : (b : Book) (t : TurnState) (n : ℕ) (at : Option (Option Pending)) → Tied b t → slice_get t.table n ≡ at → TiedStory (b.story n) t.requests t.link at → IsAlive (b.story n) → IsBehind b t n
alive_entry b t n None h e s a = absurd (blank_dead (b.story n) s a)
alive_entry b t n (Some None) h e s a = absurd (fault_dead (b.story n) s.error s.answered a)
alive_entry b t n (Some (Some p)) h e s a =
    let k = h.names.kept n p e in
    record { p = p.number; within = get_within t.requests p.number k.0 k.1; name = name_of_some t.requests p.number k.0 k.1 ∙ k.2; is = s }

-- a submission that can be answered or started is a request
pub alive_behind : (b : Book) (t : TurnState) (n : ℕ) → Tied b t → IsAlive (b.story n) → IsBehind b t n
alive_behind b t n h a = alive_entry b t n (slice_get t.table n) h refl (h.story n) a

-- one try more is one
pub some_more : {X : Type 0} (xs : List X) (x : X) → xs ++ x ∷ [] ≡ [] → ⊥
some_more [] x e = cc
some_more (y ∷ ys) x e = cc
