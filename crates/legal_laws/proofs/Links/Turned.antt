-- What news make of a link whose opening is over.
use Rattle.std.proofs.Common.{◌≡◌, ℕ, nat_le, List, Option, Some, None, sym, ap, ◌∙◌}
use Rattle.containers.proofs.Choices.{by_test, le_from, not_le_from, not_both}
use Rattle.redis_error.specs.declared.redis_error.RedisError.{RedisError}
use Rattle.driver_model.specs.declared.action.Action.TheVariants as action
use Rattle.driver_model.specs.declared.action.Cause.TheVariants as cause
use Rattle.driver_model.specs.declared.event.Event.{Event}
use Rattle.driver_model.specs.News.{news_of}
use Rattle.legal_trace.specs.Ledger.{Ledger, failure_in}
use Rattle.legal_trace.specs.Book.{Book, entered}
use Rattle.legal_trace.specs.Legal.{MayStand}
use Rattle.legal_trace.proofs.Ledgers.{IsUnasked}
use Rattle.legal_laws.proofs.Traces.Numbers.{links_kept}
use Rattle.legal_laws.proofs.Links.Quiet.{IsQuiet, hears_quiet}
use Rattle.legal_laws.proofs.Traces.Sound.{Sound}

-- a link that was not asked for has no opening
unasked_quiet : (shown : List (Option RedisError)) (l : Ledger) → IsUnasked l → IsQuiet shown l
unasked_quiet shown l h = record {
  quiet = (λ asked down lives. not_both l.asked h.0 asked, λ up. absurd (not_both l.up h.1 up));
  tells = λ e fails. absurd (let x : None ≡ Some e = sym (ap failure_in h.2) ∙ fails in cc x);
}

-- so a turn leaves each link
pub turn_quiet : (b : Book) (k : ℕ) (e : Event) (shown : List (Option RedisError)) (l : ℕ) → MayStand b (action.Turn k (cause.Event e)) → Sound b → IsQuiet shown (b.link l) → IsQuiet shown ((entered b (action.Turn k (cause.Event e))).link l)
turn_quiet b k e shown l may h q = by_test (nat_le b.links l) (IsQuiet shown ((entered b (action.Turn k (cause.Event e))).link l))
    (λ t. unasked_quiet shown ((entered b (action.Turn k (cause.Event e))).link l) ((links_kept b (action.Turn k (cause.Event e)) may h.links).unasked l (le_from b.links l t)))
    (λ f. hears_quiet shown (b.link l) k (news_of b.timers b.sources l e.kind) (h.links.asked l (not_le_from b.links l f)) (h.shaped l).are q)
