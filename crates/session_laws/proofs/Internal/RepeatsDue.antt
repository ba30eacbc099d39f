-- When what is subscribed again is to start: where the connection says so.
use Rattle.std.proofs.Common.{◌≡◌, ◌&&◌, true, refl, sym, ap, subst, ◌∙◌}
use Rattle.containers.proofs.Choices.{not_both}
use Rattle.link_core.specs.Link.{LinkState}
use Rattle.link_laws.proofs.TiedLink.{TiedLink}
use Rattle.mux_conn.specs.Repeats.{is_to_start}
use Rattle.mux_conn.specs.declared.life.Life.{Life}
use Rattle.mux_conn.specs.declared.life.Life.TheVariants.{Resting, Dialing, Wanting, SettingUp, Ready, Ended}
use Rattle.legal_trace.specs.Book.{Book}
use Rattle.legal_trace.specs.Ledger.{Ledger, again_due, is_set_up}
use Rattle.legal_trace.specs.Legal.{RepeatsAreTimed, RepeatsAreStarted}
use Rattle.legal_trace.proofs.Again.{again_is_set, again_is_up}
use Rattle.session_laws.proofs.Ties.Ahead.{held_by}
use Rattle.conn_laws.proofs.Links.Creds.{wanting_lacks}
use Rattle.conn_laws.proofs.Internal.Repeating.{HasRepeated}
use Rattle.session_laws.proofs.Internal.Repeating.{repeats_started, repeats_timed}
use Rattle.conn_laws.proofs.Internal.Repeats.{IsRepeated, TiedRepeat, to_start_is}
use Rattle.conn_laws.proofs.Links.Server.{AreSought, HasSaid}
use Rattle.conn_laws.proofs.Links.SetUp.{not_set_up, lacking_unset}
use Rattle.conn_laws.proofs.Ties.Tied.{TiedLife, carried, has_ended, owner_of, whole_link}
use Rattle.session_laws.proofs.Ties.Tied.{TurnState, Tied}
use Rattle.conn_laws.proofs.Internal.RepeatsDue.{timed_there}

-- it is on a link that is set up, and the connection says so
pub record IsDueThere (t : TurnState) : Type 0 where
  pub link : LinkState
  pub life : t.life ≡ Ready link
  pub starts : is_to_start t.again ≡ true

-- where the ledger of the session's link does
pub due_there : (b : Book) (t : TurnState) → Tied b t → again_due (b.link t.link) ≡ true → IsDueThere t
due_there b t h due = by_life t.life refl
  where
    l : Ledger
    l = b.link t.link

    lived : (life : Life) → t.life ≡ life → TiedLife l b.created life
    lived life e = subst (TiedLife l b.created) e h.life

    said : (life : Life) → t.life ≡ life → HasSaid l t.started life
    said life e = subst (HasSaid l t.started) e h.setup.said

    by_life : (life : Life) → t.life ≡ life → IsDueThere t
    by_life Resting e = absurd (not_both l.up (lived Resting e).1 (again_is_up l due))
    by_life Dialing e = absurd (not_both l.up (lived Dialing e).1 (again_is_up l due))
    by_life (Wanting link) e = absurd (not_both (is_set_up l) (lacking_unset l (wanting_lacks l.creds link (subst (AreSought l.creds) e h.creds.sought))).unset (again_is_set l due))
    by_life (SettingUp link greeting) e = absurd (not_both (is_set_up l) (not_set_up l link greeting (said (SettingUp link greeting) e).1).unset (again_is_set l due))
    by_life (Ready link) e =
        let up = (lived (Ready link) e).1 in
        let well = (said (Ready link) e).well in
        let repeat : IsRepeated l b.tracked t.renewal.within t.again = subst (TiedRepeat l b.tracked t.renewal.within t.again) e h.repeat in
        record { link = link; life = e; starts = sym (to_start_is l b.tracked t.renewal.within t.again (λ i. up i && well i) repeat) ∙ due }
    by_life (Ended x) e = absurd (not_both l.up (lived (Ended x) e).0 (again_is_up l due))

-- so it has its timer in the book
pub repeating_timed : (b : Book) (t : TurnState) → Tied b t → HasRepeated t.again t.life → RepeatsAreTimed b
repeating_timed b t h repeated = repeats_timed b t h (λ some due.
    let d = due_there b t h due in
    let repeat : IsRepeated (b.link t.link) b.tracked t.renewal.within t.again = subst (TiedRepeat (b.link t.link) b.tracked t.renewal.within t.again) d.life h.repeat in
    timed_there (b.link t.link) b.tracked t.renewal.within t.again repeat d.starts (repeated d.link d.life d.starts).0 some)

-- and waits for its link, which is held back
pub repeating_started : (b : Book) (t : TurnState) → Tied b t → ((link : LinkState) → t.life ≡ Ready link → link.boundary ≡ t.bound) → HasRepeated t.again t.life → RepeatsAreStarted b
repeating_started b t h bound repeated = repeats_started b t h (λ due.
    let d = due_there b t h due in
    let tied : TiedLink (owner_of t.requests) (b.link t.link) d.link = subst (λ (x : Life). TiedLink (carried x t.requests) (b.link t.link) (whole_link x)) d.life (h.link (ap has_ended d.life)) in
    held_by b t (owner_of t.requests) d.link h.numbers (bound d.link d.life) tied ∙ (repeated d.link d.life d.starts).1)
