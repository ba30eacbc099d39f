-- What an agenda offers is what the book of the trace offers, action by action.
use Rattle.std.proofs.Common.{◌≡◌, ◌⊎◌, inl, inr, ℕ, ◌-◌, ◌==◌, true, List, [], ◌∷◌, ◌++◌, take, Some, if◌then◌else◌, refl, sym, ◌∙◌, subst}
use Rattle.containers.proofs.Choices.{chosen, eq_from, eq_test, ne_test}
use Rattle.driver_model.specs.declared.action.Action.{Action}
use Rattle.driver_model.specs.declared.action.Action.TheVariants as action
use Rattle.driver_model.specs.declared.event.EventKind.{EventKind}
use Rattle.driver_model.specs.declared.event.EventKind.TheVariants as event
use Rattle.legal_trace.specs.Book.{Book, if_mine, push_line, entered}
use Rattle.legal_trace.specs.Ledger.{ends, noted_each, offers, tells}
use Rattle.legal_trace.specs.Legal.{MayStand}
use Rattle.legal_trace.proofs.Clocks.{timer_tells}
use Rattle.legal_trace.proofs.Ledgers.{mine_keeps}
use Rattle.live_run.specs.Agenda.{noted, offer_of, offered, removed, stands, undialled, without}
use Rattle.live_run.specs.Passes.{Each}
use Rattle.live_laws.specs.Taken.{IsNoWrote}
use Rattle.live_run.proofs.Agendas.{AreSingle, each_as, each_last, offering, single_last, single_offered, single_without}
use Rattle.live_run.proofs.Hearing.{IsNoTurn, turn_of, push_noted}
use Rattle.live_laws.proofs.Agendas.{Agenda, Link, each_offered, each_without}
use Rattle.live_laws.proofs.News.{Stays, mine_offers, mine_takes, not_mine, other_stays, stays_same}
use Rattle.live_laws.proofs.Taking.{taken_of, turn_stays}

-- a link offers nothing, or it is up by the book too, and these very bytes are offered there
abbrev pub IsTied : Book → Link → Type 0
IsTied b x = (x.offer ≡ []) ⊎ (((b.link x.number).up ≡ true) × ((b.link x.number).offer ≡ x.offer))

pub record Ties (b : Book) (links : List Link) : Type 0 where
  pub each : Each (IsTied b) links
  pub single : AreSingle links

tied_stays : (b c : Book) (x : Link) → Stays (b.link x.number) (c.link x.number) → IsTied b x → IsTied c x
tied_stays b c x same (inl none) = inl none
tied_stays b c x same (inr h) = inr (same.0 h.0, same.1 ∙ h.1)

-- where all links stay as they were
pub all_stay : (b c : Book) (links : List Link) → ((n : ℕ) → Stays (b.link n) (c.link n)) → Ties b links → Ties c links
all_stay b c links same h = record { each = each_as (IsTied b) (IsTied c) (λ x. tied_stays b c x (same x.number)) links h.each; single = h.single }

-- where those of other numbers do, and one goes
pub gone_ties : (b c : Book) (l : ℕ) (links : List Link) → ((n : ℕ) → (l ≡ n → ⊥) → Stays (b.link n) (c.link n)) → Ties b links → Ties c (without l links)
gone_ties b c l links same h = record {
  each = each_without (IsTied b) (IsTied c) l links (λ x apart. tied_stays b c x (same x.number (λ is. apart (sym is)))) (λ x none. inl none) h.single h.each;
  single = single_without l links h.single;
}

-- and one is offered other bytes
offered_ties : (b c : Book) (l : ℕ) (bytes : List ℕ) (links : List Link) → ((n : ℕ) → (l ≡ n → ⊥) → Stays (b.link n) (c.link n)) → ((x : Link) → x.number ≡ l → IsTied c (record x { offer = bytes }))
    → Ties b links → Ties c (offered l bytes links)
offered_ties b c l bytes links same first h = record {
  each = each_offered (IsTied b) (IsTied c) l bytes links first (λ x apart. tied_stays b c x (same x.number (λ is. apart (sym is)))) (λ x none. inl none) h.single h.each;
  single = single_offered l bytes links h.single;
}

-- a link that is up from now on offers nothing
abbrev pub fresh : ℕ → Link
fresh l = record { number = l; offer = [] }

pub dialled_ties : (b : Book) (l : ℕ) (links : List Link) → Ties b links → Ties b (links ++ fresh l ∷ [])
dialled_ties b l links h = record { each = each_last (IsTied b) links (fresh l) h.each (inl refl); single = single_last links (fresh l) refl h.single }

-- what is told of the link that the session has leaves all as they were
told_stays : (b : Book) (n : ℕ) → Stays (b.link n) (noted_each (b.link n) (if_mine (b.current == n) tells))
told_stays b n = mine_keeps (Stays (b.link n)) (b.current == n) (b.link n) tells (λ t. (λ u. u, refl, refl)) (stays_same (b.link n))

-- what an action asks is tied
pub noted_ties : (a : Agenda) (b : Book) (x : Action) → IsNoTurn x → MayStand b x → Ties b a.links → Ties (entered b x) (noted a x).links
noted_ties a b (action.Turn number c) quiet may h = absurd quiet
noted_ties a b (action.Connect l host port) quiet may h =
    all_stay b (entered b (action.Connect l host port)) a.links (λ n. mine_keeps (Stays (b.link n)) (l == n) (b.link n) _ (λ t. (λ u. u, refl, refl)) (stays_same (b.link n))) h
noted_ties a b (action.Timer t ms what) quiet may h =
    all_stay b (entered b (action.Timer t ms what)) a.links
    (λ n. timer_tells (Stays (b.link n)) (b.link n) n what (λ l k is own. (λ u. u, refl, refl)) (λ l is own. (λ u. u, refl, refl)) (stays_same (b.link n))) h
noted_ties a b (action.Close l) quiet may h =
    let c = entered b (action.Close l) in
    let d : Agenda = record a { links = without l a.links; dials = undialled l a.dials } in
    let known : Ties c (without l a.links) = gone_ties b c l a.links (λ n other. not_mine (l == n) (b.link n) (ends (b.turns - 1)) (ne_test l n other)) h in
    chosen (λ (e : Agenda). Ties c e.links) (stands l a.unclosed) (record d { unclosed = removed l a.unclosed; closes = a.closes ++ l ∷ [] }) d (λ t. known) (λ f. known)
noted_ties a b (action.Write l bytes) quiet may h =
    let c = entered b (action.Write l bytes) in
    offered_ties b c l bytes a.links (λ n other. not_mine (l == n) (b.link n) (offers bytes) (ne_test l n other))
    (λ x is. inr (mine_offers (l == x.number) (b.link x.number) bytes (eq_test l x.number (sym is)) (subst (λ (n : ℕ). (b.link n).up ≡ true) (sym is) may.up)))
    h
noted_ties a b (action.Start l message who count len) quiet may h =
    all_stay b (entered b (action.Start l message who count len)) a.links (λ n. mine_keeps (Stays (b.link n)) (l == n) (b.link n) _ (λ t. (λ u. u, refl, refl)) (stays_same (b.link n))) h
noted_ties a b (action.Push l info) quiet may h =
    all_stay b (entered b (action.Push l info)) a.links
    (λ n. mine_keeps (Stays (b.link n)) (l == n) (b.link n) (push_line info.kind)
    (λ t. push_noted (Stays (b.link n)) (b.link n) info.kind (λ u. u, refl, refl) (λ u. u, refl, refl)) (stays_same (b.link n))) h
noted_ties a b (action.Message m) quiet may h = all_stay b (entered b (action.Message m)) a.links (λ n. told_stays b n) h
noted_ties a b (action.Monitor v) quiet may h = all_stay b (entered b (action.Monitor v)) a.links (λ n. told_stays b n) h
noted_ties a b (action.Took who l count) quiet may h = all_stay b (entered b (action.Took who l count)) a.links (λ n. stays_same (b.link n)) h
noted_ties a b (action.NeedCreds c l) quiet may h =
    all_stay b (entered b (action.NeedCreds c l)) a.links (λ n. mine_keeps (Stays (b.link n)) (l == n) (b.link n) _ (λ t. (λ u. u, refl, refl)) (stays_same (b.link n))) h
noted_ties a b (action.Generation g) quiet may h = all_stay b (entered b (action.Generation g)) a.links (λ n. stays_same (b.link n)) h
noted_ties a b (action.Round who l) quiet may h = all_stay b (entered b (action.Round who l)) a.links (λ n. stays_same (b.link n)) h
noted_ties a b (action.Wait who kind) quiet may h = all_stay b (entered b (action.Wait who kind)) a.links (λ n. stays_same (b.link n)) h
noted_ties a b (action.Created e) quiet may h = all_stay b (entered b (action.Created e)) a.links (λ n. stays_same (b.link n)) h
noted_ties a b (action.Outcome n o) quiet may h = all_stay b (entered b (action.Outcome n o)) a.links (λ n. stays_same (b.link n)) h

-- the turn of an event that tells of no taken bytes
pub turn_ties : (b : Book) (number word : ℕ) (kind : EventKind) (links : List Link) → IsNoWrote kind → Ties b links → Ties (entered b (turn_of number word kind)) links
turn_ties b number word kind links quiet h = all_stay b (entered b (turn_of number word kind)) links (λ n. turn_stays b number word n kind quiet) h

-- bytes are taken of a link that offers nothing any more
pub wrote_ties : (b : Book) (number word l count : ℕ) (links : List Link) → Ties b links → Ties (entered b (turn_of number word (event.Wrote l count))) (offered l [] links)
wrote_ties b number word l count links h =
    offered_ties b (entered b (turn_of number word (event.Wrote l count))) l [] links (λ n other. other_stays (l == n) (b.link n) number count (ne_test l n other)) (λ x is. inl refl) h

-- a link that offers something is up by the book, and is offered it there
offers_it : (b : Book) (l : ℕ) (links : List Link) (piece : List ℕ) → (piece ≡ [] → ⊥) → offer_of l links ≡ Some piece → Ties b links → ((b.link l).up ≡ true) × ((b.link l).offer ≡ piece)
offers_it b l links piece some is h = let x = offering (IsTied b) l links piece h.each is in by_tie x.0 x.1 x.2 x.3
  where
    by_tie : (x : Link) → x.number ≡ l → x.offer ≡ piece → IsTied b x → ((b.link l).up ≡ true) × ((b.link l).offer ≡ piece)
    by_tie x number bytes (inl none) = absurd (some (sym bytes ∙ none))
    by_tie x number bytes (inr k) = (subst (λ (n : ℕ). (b.link n).up ≡ true) number k.0, subst (λ (n : ℕ). (b.link n).offer ≡ piece) number (k.1 ∙ bytes))

-- so what was written is what is taken of it
pub wrote_taken : (b : Book) (number word l count n : ℕ) (links : List Link) (piece : List ℕ) → (piece ≡ [] → ⊥) → offer_of l links ≡ Some piece → Ties b links
    → taken_of (entered b (turn_of number word (event.Wrote l count))) n ≡ taken_of b n ++ (if l == n then take count piece else [])
wrote_taken b number word l count n links piece some is h =
    let k = offers_it b l links piece some is h in
    mine_takes (l == n) (b.link n) number count piece (λ t. (subst (λ (m : ℕ). (b.link m).up ≡ true) (eq_from l n t) k.0, subst (λ (m : ℕ). (b.link m).offer ≡ piece) (eq_from l n t) k.1))
