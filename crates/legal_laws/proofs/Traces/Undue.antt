-- What lets a wait behind an attempt, a generation or a link begin hangs on few facts: where these stay, nothing begins.
use Rattle.std.proofs.Common.{◌≡◌, ℕ, ◌-◌, ◌==◌, nat_lt, Bool, true, false, ◌&&◌, ◌||◌, not, List, Option, is_none, if◌then◌else◌, refl, sym, ◌∙◌, ap}
use Rattle.std.specs.List.{list_any}
use Rattle.redis_error.specs.declared.redis_error.RedisError.{RedisError}
use Rattle.connection_info.specs.Protocol.{is_resp3}
use Rattle.legal_trace.specs.Ledger.{End}
use Rattle.legal_trace.specs.Story.{is_open}
use Rattle.legal_trace.specs.Managers.{is_lazy}
use Rattle.legal_trace.specs.Book.{Book, has_generations, info_in}
use Rattle.legal_trace.specs.Legal.{current_link, is_attempt, is_cause, is_lost_in, rest_due, generation_due, link_due}

-- a generation is to begin, where the current link ended so, the last submission is open or isn't, and these are the errors
abbrev pub generated_by : Book → Option End → Bool → List RedisError → Bool
generated_by b end open_last errors =
    has_generations b && (not b.failed && (not b.shut && (if b.generation == 0 then (not (is_lazy b.config) || open_last) else ((is_resp3 (info_in b.config).protocol && is_lost_in (b.turns - 1) end) || list_any (is_cause end) errors))))

-- a link is to be asked for, where the current one was or wasn't, and this wait goes on
abbrev pub linked_by : Book → Bool → Option ℕ → Bool
linked_by b asked rest = if has_generations b then nat_lt 0 b.generation && (not asked && (is_none rest && not b.shut)) else b.links == 0

-- where the last submission isn't open, no generation begins that didn't where it was
less_begins : (has well alive first eager open_last caused : Bool) → (has && (well && (alive && (if first then (eager || open_last) else caused)))) ≡ false → (has && (well && (alive && (if first then (eager || false) else caused)))) ≡ false
less_begins false well alive first eager open_last caused e = refl
less_begins true false alive first eager open_last caused e = refl
less_begins true true false first eager open_last caused e = refl
less_begins true true true true true open_last caused e = e
less_begins true true true true false open_last caused e = refl
less_begins true true true false eager open_last caused e = e

-- so where it is open only if it was
less_open : (b : Book) (before after : Bool) (end : Option End) (errors : List RedisError) → (after ≡ true → before ≡ true) → generated_by b end before errors ≡ false → generated_by b end after errors ≡ false
less_open b before true end errors less e = ap (λ o. generated_by b end o errors) (sym (less refl)) ∙ e
less_open b before false end errors less e =
    less_begins (has_generations b) (not b.failed) (not b.shut) (b.generation == 0) (not (is_lazy b.config)) before ((is_resp3 (info_in b.config).protocol && is_lost_in (b.turns - 1) end) || list_any (is_cause end) errors) e

-- no generation begins where the end of the current link and the errors stay, and the last submission doesn't open
pub still_generated : (b : Book) {end : Option End} {errors : List RedisError} (after : Bool) → end ≡ (current_link b).end → errors ≡ b.errors → (after ≡ true → is_open (b.story (b.submissions - 1)) ≡ true) → generation_due b ≡ false → generated_by b end after errors ≡ false
still_generated b {end = end} {errors = errors} after same all less e =
    ap (λ o. generated_by b o after errors) same ∙ (ap (λ es. generated_by b (current_link b).end after es) all ∙ less_open b (is_open (b.story (b.submissions - 1))) after (current_link b).end b.errors less e)

-- no wait does
pub still_rested : (b : Book) {end : Option End} → end ≡ (current_link b).end → rest_due b ≡ false → (has_generations b && is_attempt end) ≡ false
still_rested b same e = ap (λ o. has_generations b && is_attempt o) same ∙ e

-- and no link is to be asked for, where whether it was stays, and the wait
pub still_linked : (b : Book) {asked : Bool} {rest : Option ℕ} → asked ≡ (current_link b).asked → rest ≡ b.rest → link_due b ≡ false → linked_by b asked rest ≡ false
still_linked b {asked = asked} {rest = rest} same waits e = ap (λ a. linked_by b a rest) same ∙ (ap (linked_by b (current_link b).asked) waits ∙ e)
