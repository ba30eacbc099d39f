-- What is to be told when bytes come on a link that is up.
use Rattle.std.proofs.Common.{◌≡◌, ℕ, ◌≤◌, Bool, true, false, ◌||◌, List, [], ◌∷◌, ◌++◌, length, drop, refl, sym, ap, ◌∙◌, subst, arith, length-append}
use Rattle.std.specs.List.{AllByRecursion}
use Rattle.std.proofs.lemmas.List.{append-nil, drop-append-le}
use Rattle.containers.proofs.Choices.{not_both}
use Rattle.resp_read.specs.Values.{is_spoiled, values}
use Rattle.driver_model.specs.declared.action.Owner.{Owner}
use Rattle.driver_model.specs.declared.hearing.Hearing.{Hearing}
use Rattle.driver_model.specs.declared.hearing.Hearing.TheVariants as hearing
use Rattle.driver_model.specs.Hearing.{hears_something}
use Rattle.link_core.specs.Dealing.{dealing_with}
use Rattle.link_core.specs.Link.{LinkState}
use Rattle.link_laws.proofs.Notices.{IsNoEnd}
use Rattle.link_laws.proofs.SetUp.{nothing_told}
use Rattle.link_laws.proofs.TiedLink.{deals, has_read}
use Rattle.legal_trace.specs.Ledger.{Heard, Ledger, bytes_came, is_unreadable}
use Rattle.legal_trace.proofs.Came.{Came}
use Rattle.conn_laws.proofs.Links.Greeted.{IsReadUnset}
use Rattle.conn_laws.proofs.Ties.More.{after_came}
use Rattle.conn_laws.proofs.Links.Said.{PushesOf}
use Rattle.conn_laws.proofs.Links.Telling.{IsHeard}
use Rattle.conn_laws.proofs.Ties.Tied.{TiedNotices, is_reading}

-- what is to be told
--
-- it is what came, where all before was told
pub heard_notices : (l : Ledger) (piece : List ℕ) (g : Came l (bytes_came l piece)) (heard mine : Hearing) (hs untold : List Heard) → l.up ≡ true
    → (let after = after_came l piece g in after.notices ≡ l.notices ++ hs → (hears_something mine ≡ true → untold ≡ hs) → PushesOf heard mine l
    → TiedNotices heard mine after.hearing after.notices after.told after.end after.parted after.strange (is_reading after) untold false)
heard_notices l piece g heard mine hs untold up more is h = record {
  heard_is = h.heard_is;
  hearing_is = h.hearing_is;
  within = λ y. (let few = h.within y in let long = length-append l.notices hs in let same = ap length more in omega (arith, few, long, same));
  untold_is = λ y. ap (drop l.told) more ∙ drop-append-le l.told l.notices hs (h.within y) ∙ ap (λ (xs : List Heard). xs ++ hs) (h.untold_is y) ∙ sym (is y);
  parts = h.parts;
  alive = h.alive;
  due = h.due;
  tame = λ lives quiet. absurd (not_both l.up quiet up);
}

-- what came is no end of a link, and stands behind no more items than there are
pub all_heard : (m : Ledger) (hs : List Heard) → AllByRecursion (λ (h : Heard). IsNoEnd h.what) hs → AllByRecursion (λ (h : Heard). h.after ≤ length m.dealt) hs → AllByRecursion (IsHeard m) hs
all_heard m [] kinds within = tt
all_heard m (h ∷ hs) kinds within = (record { kind_is = kinds.0; within = within.0 }, all_heard m hs kinds.1 within.1)

-- where nobody hears anything
nothing_heard : (h : Hearing) → hears_something h ≡ false → h ≡ hearing.Nothing
nothing_heard hearing.Nothing e = refl
nothing_heard hearing.Pushes e = cc
nothing_heard hearing.Messages e = cc
nothing_heard hearing.Monitor e = cc

-- nothing is to be told
pub none_noticed : (h : Hearing) (ready : Bool) (link : LinkState) (piece : List ℕ) → hears_something h ≡ false → (deals h ready link piece).notices ≡ []
none_noticed h ready link piece quiet =
    subst (λ (x : Hearing). (deals x ready link piece).notices ≡ []) (sym (nothing_heard h quiet)) (nothing_told ready (dealing_with link.row) (values (link.rest ++ piece)) refl refl).0

-- a link that isn't set up behind the bytes
--
-- of which nothing is to be told
pub quiet_notices : (name : ℕ → Owner) (h : Hearing) (l : Ledger) (link : LinkState) (piece : List ℕ) (g : Came l (bytes_came l piece)) (heard mine : Hearing) → l.up ≡ true → IsReadUnset name h l link piece g → PushesOf heard mine l → PushesOf heard mine (after_came l piece g)
quiet_notices name h l link piece g heard mine up r k = heard_notices l piece g heard mine [] [] up (r.notices ∙ sym (append-nil l.notices)) (λ y. refl) k

-- of two tests, of which the second isn't met
or_none : (p q : Bool) → q ≡ false → (p || q) ≡ p
or_none true q e = refl
or_none false q e = e

-- and on which what can't be read on is what breaks it
pub unset_unreadable : (name : ℕ → Owner) (h : Hearing) (l : Ledger) (link : LinkState) (piece : List ℕ) (g : Came l (bytes_came l piece)) → IsReadUnset name h l link piece g → is_unreadable (after_came l piece g) ≡ (has_read h false link piece).broken
unset_unreadable name h l link piece g r =
    let after = after_came l piece g in
    or_none (is_spoiled after.rest) after.strange r.tame ∙ ap is_spoiled r.of.tied.rest ∙ sym r.of.tied.broken
