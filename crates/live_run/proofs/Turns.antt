-- A dial, a read, a write and a timer that fires, each with its turn.
use Rattle.std.proofs.Common.{arith, ◌≡◌, ◌≢◌, ◌<◌, max, ℕ, true, List, [], ◌∷◌, length, Option, Some, is_some, refl, sym, inl, subst}
use Rattle.driver_model.specs.declared.event.EventKind.{EventKind}
use Rattle.driver_model.specs.declared.event.EventKind.TheVariants as event
use Rattle.outside.specs.World.{Adds, LinkPutWithin}
use Rattle.outside.specs.declared.world.Call.{Call}
use Rattle.outside.specs.declared.world.Call.TheVariants as call
use Rattle.outside.specs.declared.world.Dialed.{Dialed}
use Rattle.outside.specs.declared.world.LinkGot.{LinkGot}
use Rattle.outside.specs.declared.world.LinkPut.{LinkPut}
use Rattle.shared_session.specs.History.{History}
use Rattle.shared_session.specs.declared.errors.StepError.{StepError}
use Rattle.live_run.specs.declared.agenda.Agenda.{Agenda}
use Rattle.live_run.specs.declared.agenda.Target.{Target}
use Rattle.live_run.specs.Agenda.{answered, behind, first_due, offer_of}
use Rattle.live_run.specs.Deeds.{Deed, did, fired, Does, Broke, IsNameOf, answer_of}
use Rattle.live_run.specs.Passes.{InTurn, IsUp, Offers, IsReadOf, IsWriteOf, IsDialled, IsFire}
use Rattle.live_run.specs.Steps.{One, Settled, Unsettled, to_dial}
use Rattle.live_run.proofs.Claiming.{claimed_and_broke, claimed_and_dialled, enough}
use Rattle.live_run.proofs.Runs.{does_as}
use Rattle.live_run.proofs.Settling.{settled_call, settled_fire, broke_settle}

-- the first link that is to be dialled, once the dial is claimed up to its generation
pub dialled_one : {old mid new : Option (List Call)} {before after : History} {kinds : List EventKind} {a b d : Agenda} {name : List ℕ} {answer : Dialed} (target : Target) (m : ℕ) → m ≡ max a.claimed target.generation
    → IsNameOf target.host name → Adds old mid (call.Dial target.link name target.port answer) → answer_of (call.Dial target.link name target.port answer) ≡ kinds
    → b ≡ answered (to_dial target (record a { claimed = m })) (call.Dial target.link name target.port answer) → Settled mid new before after kinds b d → Does old new before after (to_dial target a) d IsDialled
dialled_one {a = a} {name = name} {answer = answer} target m most named adds is noted s =
    claimed_and_dialled target a m most
    (does_as (λ ds leads one. (did (call.Dial target.link name target.port answer) one.0 one.1, one.2, tt))
    (settled_call (call.Dial target.link name target.port answer) adds is ((refl, named, refl), enough target a m most) noted s))

pub dial_broken : {error : StepError} {old mid new : Option (List Call)} {before after : History} {kinds : List EventKind} {a : Agenda} {name : List ℕ} {answer : Dialed} (target : Target) (m : ℕ) → m ≡ max a.claimed target.generation
    → IsNameOf target.host name → Adds old mid (call.Dial target.link name target.port answer) → answer_of (call.Dial target.link name target.port answer) ≡ kinds
    → Unsettled error mid new before after kinds → Broke error old new before after (to_dial target a)
dial_broken {a = a} {name = name} {answer = answer} target m most named adds is s =
    claimed_and_broke target a m most (broke_settle (call.Dial target.link name target.port answer) adds is ((refl, named, refl), enough target a m most) s)

-- a link in its turn
one_turn : (Has : Agenda → ℕ → Type 0) (Is : ℕ → Deed → Type 0) (l : ℕ) (a : Agenda) (d : Deed) (ds : List Deed) → Has a l → Is l d → ds ≡ d ∷ [] → InTurn Has Is (l ∷ []) true a ds
one_turn Has Is l a d ds has is one = subst (λ (xs : List Deed). InTurn Has Is (l ∷ []) true a xs) (sym one) (inl (has, is, tt))

pub read_one : {old mid new : Option (List Call)} {before after : History} {kinds : List EventKind} {a b d : Agenda} {bytes : List ℕ} {answer : LinkGot} (link room : ℕ) → room ≡ 65_536
    → is_some (offer_of link a.links) ≡ true → Adds old mid (call.Read link room answer bytes) → answer_of (call.Read link room answer bytes) ≡ kinds → b ≡ answered a (call.Read link room answer bytes)
    → Settled mid new before after kinds b d → Does old new before after a d (InTurn IsUp IsReadOf (link ∷ []) true a)
read_one {a = a} {bytes = bytes} {answer = answer} link room size up adds is noted s =
    does_as (λ ds leads one. one_turn IsUp IsReadOf link a (did (call.Read link room answer bytes) one.0 one.1) ds up refl one.2)
    (settled_call (call.Read link room answer bytes) adds is (size, up) noted s)

pub read_broken : {error : StepError} {old mid new : Option (List Call)} {before after : History} {kinds : List EventKind} {a : Agenda} {bytes : List ℕ} {answer : LinkGot} (link room : ℕ) → room ≡ 65_536
    → is_some (offer_of link a.links) ≡ true → Adds old mid (call.Read link room answer bytes) → answer_of (call.Read link room answer bytes) ≡ kinds
    → Unsettled error mid new before after kinds → Broke error old new before after a
read_broken {bytes = bytes} {answer = answer} link room size up adds is s = broke_settle (call.Read link room answer bytes) adds is (size, up) s

not_empty : (piece : List ℕ) → 0 < length piece → piece ≢ []
not_empty [] some = absurd (omega (arith, some))
not_empty (x ∷ xs) some = λ e. absurd (cc)

offers_piece : (a : Agenda) (l : ℕ) (piece : List ℕ) → 0 < length piece → offer_of l a.links ≡ Some piece → Offers a l
offers_piece a l [] some is = absurd (omega (arith, some))
offers_piece a l (x ∷ xs) some is = (x, xs, is)

pub write_one : {old mid new : Option (List Call)} {before after : History} {kinds : List EventKind} {a b d : Agenda} {answer : LinkPut} (link : ℕ) (piece : List ℕ) → 0 < length piece
    → offer_of link a.links ≡ Some piece → LinkPutWithin (length piece) answer → Adds old mid (call.Write link piece answer) → answer_of (call.Write link piece answer) ≡ kinds
    → b ≡ answered a (call.Write link piece answer) → Settled mid new before after kinds b d → Does old new before after a d (InTurn Offers IsWriteOf (link ∷ []) true a)
write_one {a = a} {answer = answer} link piece some offer within adds is noted s =
    does_as (λ ds leads one. one_turn Offers IsWriteOf link a (did (call.Write link piece answer) one.0 one.1) ds (offers_piece a link piece some offer) refl one.2)
    (settled_call (call.Write link piece answer) adds is (not_empty piece some, offer, within) noted s)

pub write_broken : {error : StepError} {old mid new : Option (List Call)} {before after : History} {kinds : List EventKind} {a : Agenda} {answer : LinkPut} (link : ℕ) (piece : List ℕ) → 0 < length piece
    → offer_of link a.links ≡ Some piece → LinkPutWithin (length piece) answer → Adds old mid (call.Write link piece answer) → answer_of (call.Write link piece answer) ≡ kinds
    → Unsettled error mid new before after kinds → Broke error old new before after a
write_broken {answer = answer} link piece some offer within adds is s = broke_settle (call.Write link piece answer) adds is (not_empty piece some, offer, within) s

pub fired_one : {old new : Option (List Call)} {before after : History} {a b d : Agenda} (timer : ℕ) → first_due a ≡ Some timer → b ≡ record a { timers = behind a.timers }
    → Settled old new before after (event.Fired timer ∷ []) b d → Does old new before after a d (One IsFire)
fired_one timer due noted s = does_as (λ ds leads one. (fired timer one.0 one.1, one.2, tt)) (settled_fire timer due noted s)
