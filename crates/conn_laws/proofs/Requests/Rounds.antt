-- The round of a request begins.
use Rattle.std.proofs.Common.{List, Option, ap, inl, inr, refl, sym, true, ℕ, ◌∙◌, ◌≡◌}
use Rattle.mux_conn.specs.declared.request.Progress.TheVariants as progress
use Rattle.mux_conn.specs.declared.request.Request.{Request}
use Rattle.mux_conn.specs.Requests.{at_progress, is_admitted, is_placed, is_waiting, is_waiting_at, permits_at}
use Rattle.legal_trace.specs.Steps.{is_let_in}
use Rattle.legal_trace.specs.Story.{Story}
use Rattle.conn_laws.proofs.Requests.LetIn.{test_kept}
use Rattle.conn_laws.proofs.Ties.Names.{name_still, permits_still, there_within}
use Rattle.conn_laws.proofs.Ties.Tied.{TiedPermits}

-- the permits are as they were
pub round_permits : (story : ℕ → Story) (submissions : ℕ) (requests : List Request) (link : ℕ) (limit : Option ℕ) (free : ℕ) (being_admitted : List ℕ) (p : ℕ) → is_waiting_at requests p ≡ true → TiedPermits story submissions requests link limit free being_admitted
    → TiedPermits story submissions (at_progress requests p progress.Begun) link limit free being_admitted
round_permits story submissions requests link limit free being_admitted p w h =
    let named = name_still requests p progress.Begun in
    let count = permits_at requests p in
    record {
      counted = h.counted;
      none = λ m v out.
          let k = h.none m (sym (test_kept is_waiting requests p count m refl w) ∙ v) out in
          (permits_still requests p m progress.Begun (there_within is_waiting requests p w) ∙ k.0, ap (λ n. (story n).clock) (named m) ∙ k.1);
      let_in = λ m e. ap (λ n. is_let_in limit (story n)) (named m) ∙ h.let_in m (elim e [
        | inl a ↦ inl (sym (test_kept is_admitted requests p count m refl w) ∙ a)
        | inr a ↦ inr (sym (test_kept is_placed requests p count m refl w) ∙ a)
      ]);
    }
