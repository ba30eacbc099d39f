-- Each single change keeps the names of requests.
use Rattle.std.proofs.Common.{◌≡◌, ℕ, List, ◌∙◌}
use Rattle.mux_conn.specs.declared.life.Life.{Life}
use Rattle.mux_conn.specs.declared.request.Progress.TheVariants as progress
use Rattle.mux_conn.specs.declared.request.Request.{Request}
use Rattle.mux_conn.specs.Requests.{permits_at}
use Rattle.conn_laws.proofs.Changes.Requests.{names, names_stay}
use Rattle.conn_laws.proofs.Changes.Kept.{IsKept, IsKeptThere, There, kept_there}

-- names
--
-- the requests have these names
abbrev HasNames : List ℕ → List Request → Life → Type 0
HasNames ns r life = names r ≡ ns

-- each single change keeps names
names_there : (ns : List ℕ) → IsKeptThere (HasNames ns)
names_there ns = record {
  answer = λ r life q h. names_stay r q progress.Closed 0 ∙ h;
  hush = λ r life q h. h;
  want = λ r size bound h. h;
  wait_on = λ r l k few h. h;
  connect = λ r l h. h;
  set_up = λ r l q greeting h. h;
  go_on = λ r l k greeting few h. h;
  repeat = λ r l k q greeting next few h. h;
  ready = λ r l k greeting few h. h;
  round = λ r life q t h. names_stay r q progress.Begun (permits_at r q) ∙ h;
  admit = λ r life q count t h. names_stay r q progress.Admitted count ∙ h;
  place = λ r l q t h. names_stay r q.number progress.Placed (permits_at r q.number) ∙ h;
  start = λ r l q qs h. h;
  say = λ r l q own h. h;
  offer = λ r l h. h;
  write = λ r l k h. h;
  come = λ r l what piece h. h;
  end = λ r life e h. h;
  rest = λ r life h. h;
}

-- so each part of a turn does
pub names_kept : (ns : List ℕ) → IsKept (There (HasNames ns))
names_kept ns = kept_there (names_there ns)
