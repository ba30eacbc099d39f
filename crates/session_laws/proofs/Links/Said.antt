-- How far the setup of a link has come: what it stands on, and what it is to the end of the link.
use Rattle.std.proofs.Common.{◌≡◌, ◌==◌, true, false, ◌&&◌, not, None, refl, sym, ap, ◌∙◌, subst}
use Rattle.containers.proofs.Choices.{by_test, both_left, eq_from, ne_from, not_both}
use Rattle.driver_model.specs.News.{News, silence, connected, refused, overdue, took, came, failed, authorized, denied, deserted, shut, renewed, unrenewed, late, unrepeated, dropped}
use Rattle.legal_trace.specs.Ledger.{Ledger, ending, is_set_up, is_ready, source_due, is_served}
use Rattle.legal_trace.specs.Book.{Book}
use Rattle.legal_trace.specs.Legal.{ReadyIsShown, SourcesAreAsked}
use Rattle.conn_laws.proofs.Links.Creds.{down_sourced}
use Rattle.conn_laws.proofs.Ties.Tied.{brings_bytes}
use Rattle.session_laws.proofs.Ties.Tied.{TurnState, Tied}
use Rattle.mux_conn.specs.Connection.{is_outstanding, is_ready as is_ready_life}
use Rattle.conn_laws.proofs.Links.Said.{IsTame, life_sourced, no_ending, ready_lives, ready_made, served_by}

-- what is still to be told of a link stays
--
-- so no such value came where nothing must end
pub is_tame : (b : Book) (t : TurnState) → Tied b t → ending (b.link t.link) ≡ None → IsTame (b.link t.link)
is_tame b t h none lives = by_news (b.link t.link).heard refl
  where
    l : Ledger
    l = b.link t.link

    other : (n : News) → l.heard ≡ n → brings_bytes n ≡ false → l.strange ≡ false
    other n e q = h.notices.tame lives (ap (λ x. brings_bytes x && l.up) e ∙ ap (λ x. x && l.up) q)

    by_news : (n : News) → l.heard ≡ n → l.strange ≡ false
    by_news (came piece) e = by_test l.up _
        (λ up. no_ending l piece up (ap (λ (x : News). ending (record l { heard = x })) (sym e) ∙ none))
        (λ down. h.notices.tame lives (ap (λ x. brings_bytes x && l.up) e ∙ down))
    by_news silence e = other silence e refl
    by_news connected e = other connected e refl
    by_news (refused f) e = other (refused f) e refl
    by_news overdue e = other overdue e refl
    by_news (took count) e = other (took count) e refl
    by_news (failed f) e = other (failed f) e refl
    by_news (authorized c) e = other (authorized c) e refl
    by_news (denied text) e = other (denied text) e refl
    by_news deserted e = other deserted e refl
    by_news (renewed c) e = other (renewed c) e refl
    by_news unrenewed e = other unrenewed e refl
    by_news (late k) e = other (late k) e refl
    by_news unrepeated e = other unrepeated e refl
    by_news dropped e = other dropped e refl
    by_news shut e = other shut e refl

-- where a link is ready
--
pub ready_life : (b : Book) (t : TurnState) → Tied b t → is_ready (b.link t.link) ≡ true → is_ready_life t.life ≡ true
ready_life b t h ready = ready_lives (b.link t.link) b.created t.info t.started t.life h.life h.creds.sought h.setup ready

pub ready_shown : (b : Book) (t : TurnState) → Tied b t → ReadyIsShown b
ready_shown b t h m ready = by_test (m == t.link) _
    (λ same. ready_made (b.link t.link) b.created t.life (ready_life b t h (subst (λ k. is_ready (b.link k) ≡ true) (eq_from m t.link same) ready)) h.life)
    (λ other. absurd (not_both (b.link m).up (h.others m (ne_from m t.link other)).down (both_left (b.link m).up (is_set_up (b.link m)) ready)))

pub ready_served : (b : Book) (t : TurnState) → Tied b t → is_ready (b.link t.link) ≡ true → is_served (b.link t.link) ≡ not (is_outstanding t.again)
ready_served b t h ready = served_by (b.link t.link) b.tracked t.renewal.within t.again t.life (ready_life b t h ready) h.repeat

-- every source was asked for that is to be
--
-- of any link
pub sources_asked : (b : Book) (t : TurnState) → Tied b t → SourcesAreAsked b
sources_asked b t h m = by_test (m == t.link) _
    (λ same. subst (λ k. source_due (b.link k) ≡ false) (sym (eq_from m t.link same)) (life_sourced (b.link t.link) b.created t.started t.life h.life h.creds.sought h.setup.said))
    (λ other. down_sourced (b.link m) (h.others m (ne_from m t.link other)).down)
