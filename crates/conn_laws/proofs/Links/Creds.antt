-- Credentials of a link that come of a source: how far they have come, and that every source was asked for that is to be.
use Rattle.std.proofs.Common.{◌≡◌, inl, inr, ℕ, Bool, true, false, ◌&&◌, ◌||◌, not, List, [], ◌++◌, take, None, Some, refl, sym, ap, ◌∙◌, subst, ◌⊎◌}
use Rattle.containers.proofs.Choices.{by_test, chosen, taken_if, left_if}
use Rattle.redis_error.specs.declared.redis_error.RedisError.TheVariants as error
use Rattle.driver_model.specs.Setup.{says_nothing}
use Rattle.driver_model.specs.News.{News, silence, connected, refused, overdue, took, came, failed, authorized, denied, deserted, shut, renewed, unrenewed, late, unrepeated, dropped}
use Rattle.credentials.specs.Credentials.{Credentials}
use Rattle.link_core.specs.Link.{LinkState}
use Rattle.mux_conn.specs.declared.life.Life.TheVariants.{Wanting}
use Rattle.legal_trace.specs.Ledger.{Ledger, Sourced, Start, hears, noted, authorized_by, awaits_credentials, bytes_came, dials, is_over, lacks_credentials, refused_in, setup_after, setup_count, setup_result, setup_steps, source_due, is_renewal_open, is_set_up, lost_by, may_renew, renewed_by, unrenewed_by, is_repeating, unrepeated_by}
use Rattle.legal_trace.proofs.Setups.{IsUndecided, setup_unsaid}
use Rattle.conn_laws.proofs.Links.Server.{AreSought, HasCredentials}
use Rattle.legal_trace.proofs.Came.{holds_bytes}

-- whether they are waited for
--
-- while they are to come
pub wanting_lacks : (c : Sourced) (link : LinkState) → AreSought c (Wanting link) → (c.wanted && not c.given) ≡ true
wanting_lacks c link h = λ i. h.0 i && not (h.2 i)

-- not where they come of no source, or have come
pub has_credentials : (c : Sourced) → HasCredentials c → (c.wanted && not c.given) ≡ false
has_credentials c (inl unwanted) = ap (λ w. w && not c.given) unwanted
has_credentials c (inr come) = ap (λ g. c.wanted && not g) come.1 ∙ none_of c.wanted
  where
    none_of : (a : Bool) → (a && false) ≡ false
    none_of true = refl
    none_of false = refl

-- the setup of a link that waits for them has come to nothing
pub lacking_undecided : (l : Ledger) → lacks_credentials l ≡ true → IsUndecided (setup_result l)
lacking_undecided l lacks = subst IsUndecided (sym (setup_unsaid l lacks)) (record { unwell = refl; no_error = refl })

-- and none is to start there
pub lacking_undue : (l : Ledger) → lacks_credentials l ≡ true → l.starts ≡ [] → setup_after l (setup_count l.starts) ≡ None
lacking_undue l lacks none = ap (λ (ss : List Start). setup_after l (setup_count ss)) none ∙ taken_if (lacks_credentials l || says_nothing (setup_steps l 0)) None (Some 0) (ap (λ x. x || says_nothing (setup_steps l 0)) lacks)

-- it waits for those that come now
pub wanting_awaits : (l : Ledger) (link : LinkState) → l.up ≡ true → AreSought l.creds (Wanting link) → awaits_credentials l ≡ true
wanting_awaits l link up h = λ i. up i && h.1 i && wanting_lacks l.creds link h i

-- no other link does
pub none_awaited : (l : Ledger) → lacks_credentials l ≡ false → awaits_credentials l ≡ false
none_awaited l given = ap (λ x. l.up && l.creds.asked && x) given ∙ none_of l.up l.creds.asked
  where
    none_of : (a b : Bool) → (a && b && false) ≡ false
    none_of true true = refl
    none_of true false = refl
    none_of false true = refl
    none_of false false = refl

-- nor one that isn't up
pub down_unawaited : (l : Ledger) → l.up ≡ false → awaits_credentials l ≡ false
down_unawaited l down = ap (λ u. u && l.creds.asked && lacks_credentials l) down

-- new ones come to none that isn't up
pub down_may_renew : (l : Ledger) → l.up ≡ false → may_renew l ≡ false
down_may_renew l down = ap (λ u. u && is_set_up l && l.creds.renews && not l.creds.over) down

-- no source is to be asked for
--
-- on a link that isn't up
pub down_sourced : (l : Ledger) → l.up ≡ false → source_due l ≡ false
down_sourced l down = ap (λ u. u && l.creds.wanted && (not l.creds.asked || (is_set_up l && not l.creds.renews))) down

-- where none is wanted
pub unwanted_sourced : (l : Ledger) → l.creds.wanted ≡ false → source_due l ≡ false
unwanted_sourced l unwanted = ap (λ w. l.up && w && (not l.creds.asked || (is_set_up l && not l.creds.renews))) unwanted ∙ none_of l.up (not l.creds.asked || (is_set_up l && not l.creds.renews))
  where
    none_of : (a b : Bool) → (a && false && b) ≡ false
    none_of true b = refl
    none_of false b = refl

-- and where one was asked for, and it isn't set up, or a second one was
pub asked_sourced : (l : Ledger) → l.creds.asked ≡ true → (is_set_up l ≡ false) ⊎ (l.creds.renews ≡ true) → source_due l ≡ false
asked_sourced l asked later = ap (λ a. l.up && l.creds.wanted && (not a || (is_set_up l && not l.creds.renews))) asked ∙ ap (λ x. l.up && l.creds.wanted && x) (none_later later) ∙ none_of l.up l.creds.wanted
  where
    none_of : (a b : Bool) → (a && b && false) ≡ false
    none_of true true = refl
    none_of true false = refl
    none_of false true = refl
    none_of false false = refl

    none_new : (a : Bool) → (a && false) ≡ false
    none_new true = refl
    none_new false = refl

    none_later : (is_set_up l ≡ false) ⊎ (l.creds.renews ≡ true) → (is_set_up l && not l.creds.renews) ≡ false
    none_later (inl unset) = ap (λ s. s && not l.creds.renews) unset
    none_later (inr renews) = ap (λ s. is_set_up l && not s) renews ∙ none_new (is_set_up l)

-- on a link that has its credentials and isn't set up
pub has_sourced : (l : Ledger) → HasCredentials l.creds → is_set_up l ≡ false → source_due l ≡ false
has_sourced l (inl unwanted) unset = unwanted_sourced l unwanted
has_sourced l (inr come) unset = asked_sourced l come.0 (inl unset)

-- and on one that is
pub ready_sourced : (l : Ledger) → HasCredentials l.creds → (l.creds.wanted ≡ true → l.creds.renews ≡ true) → source_due l ≡ false
ready_sourced l (inl unwanted) renews = unwanted_sourced l unwanted
ready_sourced l (inr come) renews = by_test l.creds.wanted (source_due l ≡ false) (λ t. asked_sourced l come.0 (inr (renews t))) (λ f. unwanted_sourced l f)

-- what news make of them
--
-- news that bring new ones, tell that there are no more, or that some are late
abbrev pub IsOfRenewals : News → Type 0
IsOfRenewals (renewed c) = Unit {0}
IsOfRenewals unrenewed = Unit {0}
IsOfRenewals (late k) = Unit {0}
IsOfRenewals _ = ⊥

-- other news make nothing of them, but where they come and are waited for
pub creds_hear : (l : Ledger) (turn : ℕ) (n : News) → (IsOfRenewals n → l.up ≡ false) → awaits_credentials l ≡ false → (noted l (hears turn n)).creds ≡ l.creds
creds_hear l turn silence other k = refl
creds_hear l turn overdue other k = refl
creds_hear l turn connected other k = chosen (λ (x : Ledger). x.creds ≡ l.creds) (is_over l) l (record l { up = true }) (λ t. refl) (λ f. refl)
creds_hear l turn (refused f) other k = chosen (λ (x : Ledger). x.creds ≡ l.creds) (dials l) (refused_in l turn (error.Io f)) l (λ t. refl) (λ d. refl)
creds_hear l turn (took count) other k = chosen (λ (x : Ledger). x.creds ≡ l.creds) l.up (record l { taken = l.taken ++ take count l.offer; offer = [] }) l (λ t. refl) (λ f. refl)
creds_hear l turn (came piece) other k = chosen (λ (x : Ledger). x.creds ≡ l.creds) l.up (bytes_came l piece) l (λ t. holds_bytes (λ (x : Ledger). x.creds ≡ l.creds) l piece (λ rest strange told more. refl)) (λ f. refl)
creds_hear l turn (failed f) other k = refl
creds_hear l turn (authorized c) other k = ap (λ (x : Ledger). x.creds) (left_if (awaits_credentials l) (authorized_by l c) l k)
creds_hear l turn (denied text) other k = refl
creds_hear l turn deserted other k = refl
creds_hear l turn (renewed c) other k = ap (λ (x : Ledger). x.creds) (left_if (may_renew l) (renewed_by l c) l (down_may_renew l (other tt)))
creds_hear l turn unrenewed other k = ap (λ (x : Ledger). x.creds) (left_if l.up (unrenewed_by l) l (other tt))
creds_hear l turn (late m) other k = ap (λ (x : Ledger). x.creds) (left_if (l.up && is_renewal_open l m) (lost_by l) l (ap (λ u. u && is_renewal_open l m) (other tt)))
creds_hear l turn unrepeated other k = chosen (λ (x : Ledger). x.creds ≡ l.creds) (is_repeating l) (unrepeated_by l) l (λ t. refl) (λ f. refl)
creds_hear l turn dropped other k = refl
creds_hear l turn shut other k = refl

-- credentials that aren't waited for leave a link as it is
pub unawaited_is : (l : Ledger) (turn : ℕ) (c : Credentials) → awaits_credentials l ≡ false → noted l (hears turn (authorized c)) ≡ record l { heard = authorized c }
unawaited_is l turn c k = ap (λ (x : Ledger). record x { heard = authorized c }) (left_if (awaits_credentials l) (authorized_by l c) l k)

-- those that are waited for are said to its server
pub awaited_is : (l : Ledger) (turn : ℕ) (c : Credentials) → awaits_credentials l ≡ true → noted l (hears turn (authorized c)) ≡ record (authorized_by l c) { heard = authorized c }
awaited_is l turn c k = ap (λ (x : Ledger). record x { heard = authorized c }) (taken_if (awaits_credentials l) (authorized_by l c) l k)
