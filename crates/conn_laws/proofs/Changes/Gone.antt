-- A request whose message has left the queue never waits again, and where its verdict is not wanted, it never is again.
use Rattle.std.proofs.Common.{Option, ◌≡◌, ◌≢◌, ℕ, ◌<◌, ◌==◌, ◌&&◌, Bool, false, List, [], ◌∷◌, ◌++◌, length, refl, sym, ap, ◌∙◌, subst, arith, length-append}
use Rattle.containers.proofs.Choices.{ne_test}
use Rattle.mux_conn.specs.declared.act.LinkAct.{LinkAct}
use Rattle.mux_conn.specs.declared.life.Life.{Life}
use Rattle.mux_conn.specs.declared.life.Life.TheVariants.{Resting, Dialing, Wanting, SettingUp, Ready, Ended}
use Rattle.mux_conn.specs.declared.request.Progress.{Progress}
use Rattle.mux_conn.specs.declared.request.Progress.TheVariants as progress
use Rattle.mux_conn.specs.declared.request.Request.{Request}
use Rattle.mux_conn.specs.Requests.{is_waiting, is_admitted, is_waiting_at, is_admitted_at, permits_at, with_permits}
use Rattle.mux_conn.specs.Effects.{cancelled_in}
use Rattle.mux_conn.specs.Passes.{message_of}
use Rattle.conn_laws.proofs.Changes.Requests.{names, names_stay, names_push, progress_count, past_set, test_other, test_push, other_test, unbegun_waits}
use Rattle.conn_laws.proofs.Changes.Names.{IsOwn, own_push}
use Rattle.conn_laws.proofs.Changes.Links.{NoneOf, NoneWanted, none_push, none_without, none_came, quiet_behind, quiet_came, quiet_silenced}
use Rattle.conn_laws.proofs.Changes.Kept.{IsKept, IsKeptThere, There, kept_there, IsApart}
use Rattle.conn_laws.proofs.Changes.KeptTurns.{CanAsk}

-- the link has been set up, and nobody awaits message p in its queue; or there is none
abbrev pub NoneQueued : ℕ → Life → Type 0
NoneQueued p Resting = Unit {0}
NoneQueued p Dialing = ⊥
NoneQueued p (Wanting l) = ⊥
NoneQueued p (SettingUp l greeting) = ⊥
NoneQueued p (Ready l) = NoneOf p l.queue
NoneQueued p (Ended e) = Unit {0}

-- nor in its row
abbrev pub NoneInRow : ℕ → Life → Type 0
NoneInRow p Resting = Unit {0}
NoneInRow p Dialing = Unit {0}
NoneInRow p (Wanting l) = Unit {0}
NoneInRow p (SettingUp l greeting) = Unit {0}
NoneInRow p (Ready l) = NoneWanted p l.row
NoneInRow p (Ended e) = Unit {0}

-- request p has the name n, and a number as requests have; it waits neither for the connection nor for a place, and isn't in
-- the queue of its link, which has been set up
pub record IsGone (n p : ℕ) (r : List Request) (life : Life) : Type 0 where
  pub there : p < length r
  pub own : IsOwn n p (names r)
  pub apart : IsApart p
  pub past : is_waiting_at r p ≡ false
  pub seated : is_admitted_at r p ≡ false
  pub none : NoneQueued p life

-- a change of progress
--
-- names stay with their requests
pub own_kept : (n p : ℕ) (r : List Request) (q : ℕ) (now : Progress) (count : ℕ) → IsOwn n p (names r) → IsOwn n p (names (with_permits r q now count))
own_kept n p r q now count h = subst (IsOwn n p) (sym (names_stay r q now count)) h

-- and requests stay
pub within_kept : (r : List Request) (p q : ℕ) (now : Progress) (count : ℕ) → p < length r → p < length (with_permits r q now count)
within_kept r p q now count l = omega (arith, progress_count r q now count)

-- a cancel puts nothing into the queue
none_cancelled : (p q : ℕ) (life : Life) → NoneQueued p life → NoneQueued p (cancelled_in life q)
none_cancelled p q Resting h = h
none_cancelled p q Dialing h = h
none_cancelled p q (Wanting l) h = h
none_cancelled p q (SettingUp l greeting) h = h
none_cancelled p q (Ready l) h = none_without p q l.queue h
none_cancelled p q (Ended e) h = h

-- a message of another request is another one
not_awaited : (p q : ℕ) (awaited : Bool) → q ≢ p → ((q == p) && awaited) ≡ false
not_awaited p q awaited o = ap (λ (b : Bool). b && awaited) (ne_test q p o)

-- each single change keeps that
gone_there : (n p : ℕ) → IsKeptThere (IsGone n p)
gone_there n p = record {
  answer = λ r life q h. record {
    there = within_kept r p q progress.Closed 0 h.there;
    own = own_kept n p r q progress.Closed 0 h.own;
    apart = h.apart;
    past = past_set is_waiting r q p progress.Closed 0 refl h.past;
    seated = past_set is_admitted r q p progress.Closed 0 refl h.seated;
    none = h.none;
  };
  hush = λ r life q h. record { there = h.there; own = h.own; apart = h.apart; past = h.past; seated = h.seated; none = none_cancelled p q life h.none };
  want = λ r size bound h. absurd h.none;
  wait_on = λ r l k few h. absurd h.none;
  connect = λ r l h. absurd h.none;
  set_up = λ r l q greeting h. absurd h.none;
  go_on = λ r l k greeting few h. absurd h.none;
  repeat = λ r l k q greeting next few h. absurd h.none;
  ready = λ r l k greeting few h. absurd h.none;
  round = λ r life q t h. record {
    there = within_kept r p q progress.Begun (permits_at r q) h.there;
    own = own_kept n p r q progress.Begun (permits_at r q) h.own;
    apart = h.apart;
    past = test_other is_waiting r q p progress.Begun (permits_at r q) (other_test is_waiting r q p (unbegun_waits r q t) h.past) ∙ h.past;
    seated = past_set is_admitted r q p progress.Begun (permits_at r q) refl h.seated;
    none = h.none;
  };
  admit = λ r life q count t h. record {
    there = within_kept r p q progress.Admitted count h.there;
    own = own_kept n p r q progress.Admitted count h.own;
    apart = h.apart;
    past = past_set is_waiting r q p progress.Admitted count refl h.past;
    seated = test_other is_admitted r q p progress.Admitted count (other_test is_waiting r q p t h.past) ∙ h.seated;
    none = h.none;
  };
  place = λ r l q t h. record {
    there = within_kept r p q.number progress.Placed (permits_at r q.number) h.there;
    own = own_kept n p r q.number progress.Placed (permits_at r q.number) h.own;
    apart = h.apart;
    past = past_set is_waiting r q.number p progress.Placed (permits_at r q.number) refl h.past;
    seated = past_set is_admitted r q.number p progress.Placed (permits_at r q.number) refl h.seated;
    none = none_push p l.queue (message_of q) h.none (not_awaited p q.number q.awaited (other_test is_admitted r q.number p t h.seated));
  };
  start = λ r l q qs h. record { there = h.there; own = h.own; apart = h.apart; past = h.past; seated = h.seated; none = h.none.1 };
  say = λ r l q own h. record { there = h.there; own = h.own; apart = h.apart; past = h.past; seated = h.seated; none = h.none };
  offer = λ r l h. record { there = h.there; own = h.own; apart = h.apart; past = h.past; seated = h.seated; none = h.none };
  write = λ r l k h. record { there = h.there; own = h.own; apart = h.apart; past = h.past; seated = h.seated; none = h.none };
  come = λ r l what piece h. record { there = h.there; own = h.own; apart = h.apart; past = h.past; seated = h.seated; none = none_came p what l piece h.none };
  end = λ r life e h. record { there = h.there; own = h.own; apart = h.apart; past = h.past; seated = h.seated; none = tt };
  rest = λ r life h. record { there = h.there; own = h.own; apart = h.apart; past = h.past; seated = h.seated; none = tt };
}

-- so each part of a turn does
pub gone_kept : (n p : ℕ) → IsKept (There (IsGone n p))
gone_kept n p = kept_there (gone_there n p)

-- one more request, of another name
gone_asked : (n p m : ℕ) (r : List Request) (life : Life) → m ≢ n → IsGone n p r life → IsGone n p (r ++ record { name = m; progress = progress.Waiting; permits = 0 } ∷ []) life
gone_asked n p m r life o h =
    let x : Request = record { name = m; progress = progress.Waiting; permits = 0 } in
    record {
      there = omega (arith, h.there, length-append r (x ∷ []));
      own = subst (IsOwn n p) (sym (names_push r x)) (own_push n p m (names r) o h.own);
      apart = h.apart;
      past = test_push is_waiting r p x h.there ∙ h.past;
      seated = test_push is_admitted r p x h.there ∙ h.seated;
      none = h.none;
    }

-- where it wasn't moved
--
-- no number of these is p
abbrev pub NoneIs : ℕ → List ℕ → Type 0
NoneIs p [] = Unit {0}
NoneIs p (q ∷ qs) = (q ≢ p) × NoneIs p qs

-- nor is it where one more isn't
none_is_push : (p : ℕ) (qs : List ℕ) (q : ℕ) → q ≢ p → NoneIs p qs → NoneIs p (qs ++ q ∷ [])
none_is_push p [] q o h = (o, tt)
none_is_push p (x ∷ qs) q o h = (h.0, none_is_push p qs q o h.1)

-- that request, where it was not moved in this turn
pub record IsAway (n p : ℕ) (lim : Option ℕ) (r : List Request) (life : Life) (ms : List ℕ) (xs : List LinkAct) : Type 0 where
  pub gone : IsGone n p r life
  pub unmoved : NoneIs p ms

-- so each part of a turn does
pub away_kept : (n p : ℕ) → IsKept (IsAway n p)
away_kept n p = record {
  answer = λ lim r life ms xs q o t h. record { gone = (gone_there n p).answer r life q h.gone; unmoved = h.unmoved };
  cancel = λ lim r life ms xs q t h. record { gone = (gone_kept n p).cancel lim r life ms xs q t h.gone; unmoved = h.unmoved };
  hush = λ lim r life ms xs q h. record { gone = (gone_there n p).hush r life q h.gone; unmoved = h.unmoved };
  want = λ lim r size bound ms xs h. absurd h.gone.none;
  wait_on = λ lim r l k ms xs few h. absurd h.gone.none;
  connect = λ lim r l ms xs h. absurd h.gone.none;
  set_up = λ lim r l ms xs q greeting h. absurd h.gone.none;
  go_on = λ lim r l k greeting ms xs few h. absurd h.gone.none;
  repeat = λ lim r l k q greeting next ms xs few h. absurd h.gone.none;
  ready = λ lim r l k greeting ms xs few h. absurd h.gone.none;
  round = λ lim r life ms xs q t h. record { gone = (gone_there n p).round r life q t h.gone; unmoved = h.unmoved };
  admit = λ lim r life ms xs q count t h. record { gone = (gone_there n p).admit r life q count t h.gone; unmoved = h.unmoved };
  note = λ lim r life ms xs q t h. record { gone = h.gone; unmoved = none_is_push p ms q (other_test is_admitted r q p t h.gone.seated) h.unmoved };
  place = λ lim r l ms xs q t h. record { gone = (gone_there n p).place r l q t h.gone; unmoved = h.unmoved };
  start = λ lim r l q qs ms xs h. record { gone = (gone_there n p).start r l q qs h.gone; unmoved = h.unmoved };
  say = λ lim r l ms xs q own h. record { gone = (gone_there n p).say r l q own h.gone; unmoved = h.unmoved };
  offer = λ lim r l ms xs h. record { gone = (gone_there n p).offer r l h.gone; unmoved = h.unmoved };
  write = λ lim r l ms xs k h. record { gone = (gone_there n p).write r l k h.gone; unmoved = h.unmoved };
  come = λ lim r l ms xs what piece h. record { gone = (gone_there n p).come r l what piece h.gone; unmoved = h.unmoved };
  end = λ lim r life ms xs e h. record { gone = (gone_there n p).end r life e h.gone; unmoved = h.unmoved };
  rest = λ lim r life ms xs h. record { gone = (gone_there n p).rest r life h.gone; unmoved = h.unmoved };
  show = λ lim r life ms xs a plain h. record { gone = h.gone; unmoved = h.unmoved };
  calm = λ lim r life ms xs h. record { gone = h.gone; unmoved = tt };
}

-- and one more submission does
pub away_asks : (n p m : ℕ) → m ≢ n → CanAsk (IsAway n p) m
away_asks n p m o = record {
  ask = λ lim r life ms xs h. record { gone = gone_asked n p m r life o h.gone; unmoved = h.unmoved };
  refuse = λ lim r life ms xs x h. record { gone = h.gone; unmoved = h.unmoved };
}

-- where its verdict is not wanted
--
-- that request, where nobody awaits its message in the row either
pub record IsHushed (n p : ℕ) (r : List Request) (life : Life) : Type 0 where
  pub gone : IsGone n p r life
  pub quiet : NoneInRow p life

-- a cancel makes nobody await a message
quiet_cancelled : (p q : ℕ) (life : Life) → NoneInRow p life → NoneInRow p (cancelled_in life q)
quiet_cancelled p q Resting h = h
quiet_cancelled p q Dialing h = h
quiet_cancelled p q (Wanting l) h = h
quiet_cancelled p q (SettingUp l greeting) h = h
quiet_cancelled p q (Ready l) h = quiet_silenced p q l.row h
quiet_cancelled p q (Ended e) h = h

-- each single change keeps that too
hushed_there : (n p : ℕ) → IsKeptThere (IsHushed n p)
hushed_there n p = record {
  answer = λ r life q h. record { gone = (gone_there n p).answer r life q h.gone; quiet = h.quiet };
  hush = λ r life q h. record { gone = (gone_there n p).hush r life q h.gone; quiet = quiet_cancelled p q life h.quiet };
  want = λ r size bound h. absurd h.gone.none;
  wait_on = λ r l k few h. absurd h.gone.none;
  connect = λ r l h. absurd h.gone.none;
  set_up = λ r l q greeting h. absurd h.gone.none;
  go_on = λ r l k greeting few h. absurd h.gone.none;
  repeat = λ r l k q greeting next few h. absurd h.gone.none;
  ready = λ r l k greeting few h. absurd h.gone.none;
  round = λ r life q t h. record { gone = (gone_there n p).round r life q t h.gone; quiet = h.quiet };
  admit = λ r life q count t h. record { gone = (gone_there n p).admit r life q count t h.gone; quiet = h.quiet };
  place = λ r l q t h. record { gone = (gone_there n p).place r l q t h.gone; quiet = h.quiet };
  start = λ r l q qs h. record { gone = (gone_there n p).start r l q qs h.gone; quiet = quiet_behind p l.row q h.gone.none.0 h.quiet };
  say = λ r l q own h. record {
    gone = (gone_there n p).say r l q own h.gone;
    quiet = quiet_behind p l.row q (not_awaited p q.id q.awaited (h.gone.apart q.id own)) h.quiet;
  };
  offer = λ r l h. record { gone = (gone_there n p).offer r l h.gone; quiet = h.quiet };
  write = λ r l k h. record { gone = (gone_there n p).write r l k h.gone; quiet = h.quiet };
  come = λ r l what piece h. record { gone = (gone_there n p).come r l what piece h.gone; quiet = quiet_came p what l piece h.quiet };
  end = λ r life e h. record { gone = (gone_there n p).end r life e h.gone; quiet = tt };
  rest = λ r life h. record { gone = (gone_there n p).rest r life h.gone; quiet = tt };
}

-- so each part of a turn does
pub hushed_kept : (n p : ℕ) → IsKept (There (IsHushed n p))
hushed_kept n p = kept_there (hushed_there n p)

-- and one more submission does
pub hushed_asks : (n p m : ℕ) → m ≢ n → CanAsk (There (IsHushed n p)) m
hushed_asks n p m o = record { ask = λ lim r life ms xs h. record { gone = gone_asked n p m r life o h.gone; quiet = h.quiet }; refuse = λ lim r life ms xs x h. h }
