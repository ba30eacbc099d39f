-- What an agenda asks of the world has numbers that the book of the trace gave out, and offers no more than it.
use Rattle.std.proofs.Common.{◌≡◌, inl, inr, ℕ, ◌+◌, ◌<◌, ◌≤◌, ◌==◌, Bool, true, false, List, [], ◌∷◌, ◌++◌, length, refl, sym, ap, arith, length-append}
use Rattle.containers.proofs.Choices.{by_test, chosen, eq_from, eq_test, not_both}
use Rattle.driver_model.specs.declared.action.Action.{Action}
use Rattle.driver_model.specs.declared.action.Action.TheVariants as action
use Rattle.driver_model.specs.declared.action.Purpose.{Purpose}
use Rattle.driver_model.specs.declared.event.EventKind.TheVariants as event
use Rattle.legal_trace.specs.Ledger.{Ledger, offers, noted_each, is_over}
use Rattle.legal_trace.specs.Book.{Book, entered, if_mine}
use Rattle.legal_trace.specs.Legal.{MayStand, MayTimer}
use Rattle.live_run.specs.Passes.{Each}
use Rattle.live_run.specs.declared.agenda.Agenda.{Agenda}
use Rattle.live_run.specs.declared.agenda.Target.{Target}
use Rattle.live_run.specs.declared.links.Link.{Link}
use Rattle.live_run.specs.declared.timers.Pending.{Pending}
use Rattle.live_run.specs.Agenda.{noted, without, undialled, removed, stands, due_after}
use Rattle.live_run.proofs.Agendas.{AreSingle, OffersNothing, each_as, each_both, each_last, each_offered, each_timed, each_undialled, each_without, single_offered, single_without}
use Rattle.live_run.proofs.Hearing.{Grows, IsNoTurn, action_grows, other_keeps, turn_of}

-- the book's link of this number offers as much, if it has not ended
abbrev pub OffersWithin : Book → Link → Type 0
OffersWithin b x = is_over (b.link x.number) ≡ false → length x.offer ≤ length (b.link x.number).offer

abbrev pub IsKnownLink : Book → Link → Type 0
IsKnownLink b x = (x.number < b.links) × OffersWithin b x

pub record IsKnown (targets : List Target) (ups : List Link) (pendings : List Pending) (b : Book) : Type 0 where
  pub dials : Each (λ (t : Target). t.link < b.links) targets
  pub links : Each (IsKnownLink b) ups
  pub single : AreSingle ups
  pub timers : Each (λ (t : Pending). t.timer < length b.timers) pendings

abbrev pub Knows : Book → Agenda → Type 0
Knows b a = IsKnown a.dials a.links a.timers b

link_grown : (b c : Book) → Grows b c → (x : Link) → IsKnownLink b x → IsKnownLink c x
link_grown b c g x h = (omega (arith, g.links, h.0), λ going. let k = g.keeps x.number going in omega (arith, k.1, h.1 k.0))

-- what is known stays known
pub known_grown : {targets : List Target} {ups : List Link} {pendings : List Pending} {b c : Book} → Grows b c → IsKnown targets ups pendings b → IsKnown targets ups pendings c
known_grown {targets} {ups} {pendings} {b} {c} g h = record {
  dials = each_as (λ (t : Target). t.link < b.links) (λ (t : Target). t.link < c.links) (λ t less. omega (arith, g.links, less)) targets h.dials;
  links = each_as (IsKnownLink b) (IsKnownLink c) (link_grown b c g) ups h.links;
  single = h.single;
  timers = each_as (λ (t : Pending). t.timer < length b.timers) (λ (t : Pending). t.timer < length c.timers) (λ t less. omega (arith, g.timers, less)) pendings h.timers;
}

timer_next : (b : Book) (t ms : ℕ) (what : Purpose) → MayTimer b t ms what → t ≡ length b.timers
timer_next b t ms what (inl (inl connects)) = connects.next
timer_next b t ms what (inl (inr rests)) = rests.next
timer_next b t ms what (inr (inl asks)) = asks.next
timer_next b t ms what (inr (inr (inl renews))) = renews.next
timer_next b t ms what (inr (inr (inr repeats))) = repeats.next

mine_offers : (mine : Bool) (g : Ledger) (bytes : List ℕ) → mine ≡ true → (noted_each g (if_mine mine (offers bytes))).offer ≡ bytes
mine_offers true g bytes t = refl
mine_offers false g bytes t = absurd (not_both false refl t)

-- what an action asks is known
pub noted_known : (a : Agenda) (b : Book) (x : Action) → IsNoTurn x → MayStand b x → Knows b a → Knows (entered b x) (noted a x)
noted_known a b (action.Turn number c) quiet may h = absurd quiet
noted_known a b (action.Connect l host port) quiet may h =
    let c = entered b (action.Connect l host port) in
    let k = known_grown (action_grows b (action.Connect l host port) tt may) h in
    let less : l < b.links + 1 = omega (arith, may.next) in
    record { dials = each_last (λ (t : Target). t.link < c.links) a.dials (record { link = l; host = host; port = port; generation = a.generation }) k.dials less; links = k.links; single = k.single; timers = k.timers }
noted_known a b (action.Timer t ms what) quiet may h =
    let c = entered b (action.Timer t ms what) in
    let k = known_grown (action_grows b (action.Timer t ms what) tt may) h in
    let less : t < length c.timers = omega (arith, timer_next b t ms what may, length-append b.timers (what ∷ [])) in
    record { dials = k.dials; links = k.links; single = k.single; timers = each_timed (λ (p : Pending). p.timer < length c.timers) (record { timer = t; due = due_after a.moment ms }) a.timers less k.timers }
noted_known a b (action.Close l) quiet may h =
    let c = entered b (action.Close l) in
    let k = known_grown (action_grows b (action.Close l) tt may) h in
    let d : Agenda = record a { links = without l a.links; dials = undialled l a.dials } in
    let known : Knows c d = record {
      dials = each_undialled (λ (t : Target). t.link < c.links) l a.dials k.dials;
      links = each_without (IsKnownLink c) l a.links k.links;
      single = single_without l a.links k.single;
      timers = k.timers;
    } in
    chosen (λ (e : Agenda). Knows c e) (stands l a.unclosed) (record d { unclosed = removed l a.unclosed; closes = a.closes ++ l ∷ [] }) d (λ t. known) (λ f. known)
noted_known a b (action.Write l bytes) quiet may h =
    let c = entered b (action.Write l bytes) in
    let k = known_grown (action_grows b (action.Write l bytes) tt may) h in
    let offers_all : (x : Link) → x.number ≡ l → IsKnownLink c x → IsKnownLink c (record x { offer = bytes }) = λ x is known. (
      known.0,
      λ going. let e = ap length (mine_offers (l == x.number) (b.link x.number) bytes (eq_test l x.number (sym is))) in omega (arith, e),
    ) in
    record { dials = k.dials; links = each_offered (IsKnownLink c) l bytes a.links offers_all k.links; single = single_offered l bytes a.links k.single; timers = k.timers }
noted_known a b (action.Took who l count) quiet may h = known_grown (action_grows b (action.Took who l count) tt may) h
noted_known a b (action.Push l info) quiet may h = known_grown (action_grows b (action.Push l info) tt may) h
noted_known a b (action.Message m) quiet may h = known_grown (action_grows b (action.Message m) tt may) h
noted_known a b (action.Monitor v) quiet may h = known_grown (action_grows b (action.Monitor v) tt may) h
noted_known a b (action.NeedCreds c l) quiet may h = known_grown (action_grows b (action.NeedCreds c l) tt may) h
noted_known a b (action.Generation g) quiet may h = known_grown (action_grows b (action.Generation g) tt may) h
noted_known a b (action.Round who l) quiet may h = known_grown (action_grows b (action.Round who l) tt may) h
noted_known a b (action.Start l message who count len) quiet may h = known_grown (action_grows b (action.Start l message who count len) tt may) h
noted_known a b (action.Wait who kind) quiet may h = known_grown (action_grows b (action.Wait who kind) tt may) h
noted_known a b (action.Created e) quiet may h = known_grown (action_grows b (action.Created e) tt may) h
noted_known a b (action.Outcome n o) quiet may h = known_grown (action_grows b (action.Outcome n o) tt may) h

-- an offer is taken of a link that offers nothing any more
pub wrote_known : (targets : List Target) (ups : List Link) (pendings : List Pending) (b : Book) (number word l count : ℕ) → Each (OffersNothing l) ups → IsKnown targets ups pendings b
    → IsKnown targets ups pendings (entered b (turn_of number word (event.Wrote l count)))
wrote_known targets ups pendings b number word l count none h =
    record { dials = h.dials; links = each_both (OffersNothing l) (IsKnownLink b) (IsKnownLink c) one ups none h.links; single = h.single; timers = h.timers }
  where
    c : Book
    c = entered b (turn_of number word (event.Wrote l count))

    one : (x : Link) → OffersNothing l x → IsKnownLink b x → IsKnownLink c x
    one x nothing known =
        by_test (l == x.number) (IsKnownLink c x)
        (λ t. (known.0, λ going. let e : length x.offer ≡ 0 = ap length (nothing (sym (eq_from l x.number t))) in omega (arith, e)))
        (λ f. (known.0, λ going. let k = other_keeps (l == x.number) (b.link x.number) number count f going in omega (arith, k.1, known.1 k.0)))
