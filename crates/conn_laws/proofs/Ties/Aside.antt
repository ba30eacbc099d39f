-- Links other than the connection's: they have ended, or were never asked for.
use Rattle.std.proofs.Common.{◌≡◌, ◌≢◌, ℕ, ◌≤◌, Bool, true, false, ◌&&◌, not, nat_lt, None, Option, Some, refl, sym, ap, subst, ◌∙◌}
use Rattle.containers.proofs.Choices.{by_test, left_if, lt_from, not_lt_from, taken_if}
use Rattle.redis_error.specs.declared.redis_error.RedisError.{RedisError}
use Rattle.redis_error.specs.declared.redis_error.RedisError.TheVariants as error
use Rattle.driver_model.specs.News.{News, silence, connected, refused, overdue, took, came, failed, authorized, denied, deserted, shut, renewed, unrenewed, late, unrepeated, dropped}
use Rattle.driver_model.specs.declared.hearing.Hearing.{Hearing}
use Rattle.legal_trace.specs.Ledger.{Ledger, authorized_by, awaits_credentials, bytes_came, dials, ending, ending_alive, ending_asked, failure_in, hears, is_over, is_renewal_open, lost_by, may_renew, noted, refused_in, renewed_by, unrenewed_by, with_news, is_repeating, unrepeated_by}
use Rattle.conn_laws.proofs.Links.Creds.{down_may_renew, down_unawaited}
use Rattle.conn_laws.proofs.Ties.Tied.{AreAside, IsAside}
use Rattle.conn_laws.proofs.Internal.Repeats.{down_repeats_not}

-- what isn't up need not end where it isn't asked for, or is over
pub not_up_ends : (l : Ledger) → l.up ≡ false → (l.asked && not (is_over l)) ≡ false → ending l ≡ None
not_up_ends l down no_dial = left_if l.up (ending_alive l) _ down ∙ left_if (l.asked && not (is_over l)) (ending_asked l l.heard) None no_dial

-- what is over is not waited for
pub over_not_asked : (l : Ledger) → is_over l ≡ true → (l.asked && not (is_over l)) ≡ false
over_not_asked l over = ap (λ o. l.asked && not o) over ∙ none_of l.asked
  where
    none_of : (a : Bool) → (a && false) ≡ false
    none_of true = refl
    none_of false = refl

-- nor is a link aside
aside_not_asked : {links m created : ℕ} {heard : Hearing} {within : Option ℕ} (l : Ledger) → IsAside links m l heard within created → (l.asked && not (is_over l)) ≡ false
aside_not_asked {links = links} {m = m} l h = by_test (nat_lt m links) _
    (λ t. over_not_asked l (h.over (lt_from m links t)))
    (λ f. ap (λ (x : Ledger). x.asked && not (is_over x)) (h.unknown (not_lt_from m links f)))

-- so it need not end
pub aside_ends : {links m created : ℕ} {heard : Hearing} {within : Option ℕ} (l : Ledger) → IsAside links m l heard within created → ending l ≡ None
aside_ends l h = not_up_ends l h.down (aside_not_asked l h)

-- nor does it dial
pub aside_dials : {links m created : ℕ} {heard : Hearing} {within : Option ℕ} (l : Ledger) → IsAside links m l heard within created → dials l ≡ false
aside_dials l h = none_of l.asked (is_over l) l.up (aside_not_asked l h)
  where
    none_of : (asked over up : Bool) → (asked && not over) ≡ false → (asked && not up && not over) ≡ false
    none_of false over up e = refl
    none_of true false up e = cc
    none_of true true true e = refl
    none_of true true false e = refl

-- what it hears
--
-- news leave it, but that a connect succeeded of which it was never asked
aside_news : {links m created : ℕ} {heard : Hearing} {within : Option ℕ} (l : Ledger) (turn : ℕ) (n : News) → (links ≤ m → n ≢ connected) → IsAside links m l heard within created → with_news l turn n ≡ l
aside_news l turn silence far h = refl
aside_news {links = links} {m = m} l turn connected far h = by_test (nat_lt m links) _
    (λ t. taken_if (is_over l) l (record l { up = true }) (h.over (lt_from m links t)))
    (λ f. absurd (far (not_lt_from m links f) refl))
aside_news l turn (refused f) far h = left_if (dials l) (refused_in l turn (error.Io f)) l (aside_dials l h)
aside_news l turn overdue far h = refl
aside_news l turn (took count) far h = left_if l.up _ l h.down
aside_news l turn (came piece) far h = left_if l.up (bytes_came l piece) l h.down
aside_news l turn (failed f) far h = refl
aside_news l turn (authorized c) far h = left_if (awaits_credentials l) (authorized_by l c) l (down_unawaited l h.down)
aside_news l turn (denied text) far h = refl
aside_news l turn deserted far h = refl
aside_news l turn (renewed c) far h = left_if (may_renew l) (renewed_by l c) l (down_may_renew l h.down)
aside_news l turn unrenewed far h = left_if l.up (unrenewed_by l) l h.down
aside_news l turn (late k) far h = left_if (l.up && is_renewal_open l k) (lost_by l) l (ap (λ u. u && is_renewal_open l k) h.down)
aside_news l turn unrepeated far h = left_if (is_repeating l) (unrepeated_by l) l (down_repeats_not l h.down)
aside_news l turn dropped far h = refl
aside_news l turn shut far h = refl

-- so it stays aside; the creation may be shown with it
pub aside_heard : {links m created : ℕ} {heard : Hearing} {within : Option ℕ} (l : Ledger) (turn next : ℕ) (n : News) → (links ≤ m → n ≢ connected) → (created ≢ 0 → next ≢ 0) → IsAside links m l heard within created → IsAside links m (noted l (hears turn n)) heard within next
aside_heard {links = links} {m = m} {heard = heard} {within = within} l turn next n far shown h = subst (λ (x : Ledger). IsAside links m (record x { heard = n }) heard within next) (sym (aside_news l turn n far h)) (record {
  down = h.down;
  over = h.over;
  unknown = λ past. ap (λ (x : Ledger). record x { heard = n }) (h.unknown past);
  told = h.told;
  parts = h.parts;
  shown = λ e fails. shown (h.shown e fails);
  timed = h.timed;
  few = h.few;
})

-- it stays so in a turn that says nothing of it
pub aside_silent : {links m created : ℕ} {heard : Hearing} {within : Option ℕ} (l : Ledger) (turn : ℕ) → IsAside links m l heard within created → IsAside links m (noted l (hears turn silence)) heard within created
aside_silent {created = created} l turn h = aside_heard l turn created silence (λ past e. cc) (λ z. z) h

-- what was shown
--
-- where no creation was, its opening has not failed
pub unfailed : {links m created : ℕ} {heard : Hearing} {within : Option ℕ} (l : Ledger) → IsAside links m l heard within created → created ≡ 0 → failure_in l.end ≡ None
unfailed l h none = by_failure (failure_in l.end) (λ e fails. h.shown e fails none)
  where
    by_failure : (x : Option RedisError) → ((e : RedisError) → x ≡ Some e → ⊥) → x ≡ None
    by_failure None never = refl
    by_failure (Some e) never = absurd (never e refl)

-- where the creation is shown, or was
pub others_created : {links created : ℕ} {heard : Hearing} {within : Option ℕ} (link next : ℕ) (ledgers : ℕ → Ledger) → (created ≢ 0 → next ≢ 0) → AreAside link links ledgers heard within created → AreAside link links ledgers heard within next
others_created link next ledgers shown h m other =
    let k = h m other in
    record { down = k.down; over = k.over; unknown = k.unknown; told = k.told; parts = k.parts; shown = λ e fails. shown (k.shown e fails); timed = k.timed; few = k.few }
