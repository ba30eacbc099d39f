-- How many links are still to be closed, and what closes them.
use Rattle.std.proofs.Common.{arith, ◌≡◌, ℕ, ◌+◌, ◌==◌, Bool, true, false, List, [], ◌∷◌, ◌++◌, Option, append_assoc, if◌then◌else◌, refl, ◌∙◌, sym, ap}
use Rattle.containers.proofs.Choices.{eq_from, left_if}
use Rattle.driver_model.specs.declared.action.Action.{Action}
use Rattle.driver_model.specs.declared.action.Action.TheVariants as action
use Rattle.outside.specs.World.{Adds}
use Rattle.outside.specs.declared.world.Call.{Call}
use Rattle.outside.specs.declared.world.Call.TheVariants as call
use Rattle.outside.specs.declared.world.Dialed.TheVariants as dialed
use Rattle.outside.specs.declared.world.LinkGot.TheVariants as got
use Rattle.outside.specs.declared.world.LinkPut.TheVariants as put
use Rattle.live_run.specs.declared.agenda.Agenda.{Agenda}
use Rattle.live_run.specs.Agenda.{answered, behind, noted, noted_each, removed, stands, to_close, undialled, without}
use Rattle.live_run.specs.Deeds.{Deed, did, fired, claim, Told, IsFirst, MayCall, May, AllMay, after, after_each}
use Rattle.live_run.specs.Closing.{times, connected, closed, ups, downs, close_calls}
use Rattle.live_run.proofs.Searches.{unmoved}
use Rattle.live_run.proofs.Runs.{told_adds, told_more}

pub times_more : (n : ℕ) (xs ys : List ℕ) → times n (xs ++ ys) ≡ times n xs + times n ys
times_more n [] ys = omega arith
times_more n (x ∷ xs) ys = let e = times_more n xs ys in omega (arith, e)

-- how often a link is still to be closed
abbrev pub held : ℕ → Agenda → ℕ
held n a = times n a.closes + times n a.unclosed

removed_by : (n l x : ℕ) (xs ys : List ℕ) (b : Bool) → (b ≡ true → x ≡ l) → (b ≡ false → times n xs ≡ times n (l ∷ []) + times n ys)
    → times n (x ∷ xs) ≡ times n (l ∷ []) + times n (if b then xs else x ∷ ys)
removed_by n l x xs ys true same h = rw (same refl) (omega arith)
removed_by n l x xs ys false same h = let e = h refl in omega (arith, e)

stood_by : (b c : Bool) → (if b then true else c) ≡ true → b ≡ false → c ≡ true
stood_by true c e f = absurd (cc)
stood_by false c e f = e

-- a link that is taken out
times_removed : (n l : ℕ) (xs : List ℕ) → stands l xs ≡ true → times n xs ≡ times n (l ∷ []) + times n (removed l xs)
times_removed n l [] is = absurd (cc)
times_removed n l (x ∷ xs) is = removed_by n l x xs (removed l xs) (x == l) (λ t. eq_from x l t) (λ f. times_removed n l xs (stood_by (x == l) (stands l xs) is f))

closed_by : (n l : ℕ) (a : Agenda) (b : Bool) → (b ≡ true → times n a.unclosed ≡ times n (l ∷ []) + times n (removed l a.unclosed))
    → held n (if b then record a { unclosed = removed l a.unclosed; closes = a.closes ++ l ∷ [] } else a) ≡ held n a
closed_by n l a true h = let e = h refl in let m = times_more n a.closes (l ∷ []) in omega (arith, e, m)
closed_by n l a false h = refl

held_close : (n l : ℕ) (a : Agenda) → held n (to_close a l) ≡ held n a
held_close n l a = closed_by n l a (stands l a.unclosed) (λ t. times_removed n l a.unclosed t)

-- an action is asked
held_noted : (n : ℕ) (a : Agenda) (x : Action) → held n (noted a x) ≡ held n a
held_noted n a (action.Close l) = held_close n l (record a { links = without l a.links; dials = undialled l a.dials })
held_noted n a (action.Connect l host port) = refl
held_noted n a (action.Timer t ms what) = refl
held_noted n a (action.Write l bytes) = refl
held_noted n a (action.Turn number c) = refl
held_noted n a (action.Took who l count) = refl
held_noted n a (action.Push l info) = refl
held_noted n a (action.Message m) = refl
held_noted n a (action.Monitor v) = refl
held_noted n a (action.NeedCreds c l) = refl
held_noted n a (action.Generation g) = refl
held_noted n a (action.Round who l) = refl
held_noted n a (action.Start l message who count len) = refl
held_noted n a (action.Wait who kind) = refl
held_noted n a (action.Created e) = refl
held_noted n a (action.Outcome k o) = refl

held_each : (n : ℕ) (a : Agenda) (xs : List Action) → held n (noted_each a xs) ≡ held n a
held_each n a [] = refl
held_each n a (x ∷ xs) = held_each n (noted a x) xs ∙ held_noted n a x

held_front : (n l : ℕ) (a : Agenda) (xs : List ℕ) → a.closes ≡ xs → IsFirst xs l → held n a ≡ times n (l ∷ []) + held n (record a { closes = behind xs })
held_front n l a [] is first = absurd first
held_front n l a (x ∷ xs) is first = rw (is, first) (omega arith)

-- a call is answered
held_answered : (n : ℕ) (a : Agenda) (c : Call) (word : ℕ) (actions : List Action) → MayCall a c → times n (connected (did c word actions)) + held n a ≡ times n (closed (did c word actions)) + held n (answered a c)
held_answered n a (call.Dial l host port dialed.Yes) word actions may = let m = times_more n a.unclosed (l ∷ []) in omega (arith, m)
held_answered n a (call.Dial l host port (dialed.Failed fault)) word actions may = refl
held_answered n a (call.Read l room (got.Read k) bytes) word actions may = refl
held_answered n a (call.Read l room got.NotYet bytes) word actions may = refl
held_answered n a (call.Read l room got.Ended bytes) word actions may = refl
held_answered n a (call.Read l room (got.Failed fault) bytes) word actions may = refl
held_answered n a (call.Write l piece (put.Took k)) word actions may = refl
held_answered n a (call.Write l piece put.NotYet) word actions may = refl
held_answered n a (call.Write l piece (put.Failed fault)) word actions may = refl
held_answered n a (call.Close l) word actions may = let e = held_front n l a a.closes refl may in omega (arith, e)
held_answered n a (call.Now moment) word actions may = ap (λ (k : ℕ). 0 + k) (sym (held_each n (record a { early = []; moment = moment }) a.early))
held_answered n a (call.Word told) word actions may = absurd may
held_answered n a (call.Wait ms) word actions may = refl

held_after : (n : ℕ) (a : Agenda) (d : Deed) → May a d → times n (connected d) + held n a ≡ times n (closed d) + held n (after a d)
held_after n a (did c word actions) may = let e = held_answered n a c word actions may in let f = held_each n (answered a c) actions in omega (arith, e, f)
held_after n a (fired timer word actions) may = let f = held_each n (record a { timers = behind a.timers }) actions in omega (arith, f)
held_after n a (claim number) may = refl

-- deeds leave as many links to be closed as they connect and don't close
pub even_after : (n : ℕ) (a : Agenda) (ds : List Deed) → AllMay a ds → ups n ds + held n a ≡ downs n ds + held n (after_each a ds)
even_after n a [] may = refl
even_after n a (d ∷ ds) may = let e = held_after n a d may.0 in let f = even_after n (after a d) ds may.1 in omega (arith, e, f)

-- which links were closed, and which are left
pub record Closes (old new : Option (List Call)) (links left : List ℕ) : Type 0 where
  pub calls : List Call
  pub told : Told old new calls
  pub rest : calls ++ close_calls left ≡ close_calls links

pub closes_more : {old mid new : Option (List Call)} {links left rest : List ℕ} {link : ℕ} → Closes old mid links left → left ≡ link ∷ rest → Adds mid new (call.Close link) → Closes old new links rest
closes_more {rest = rest} {link = link} first is adds = record {
  calls = first.calls ++ call.Close link ∷ [];
  told = told_more first.told (told_adds adds);
  rest = append_assoc first.calls (call.Close link ∷ []) (close_calls rest) ∙ ap (λ (ls : List ℕ). first.calls ++ close_calls ls) (sym is) ∙ first.rest;
}

-- the links of two lists, one after the other
closes_append : (xs ys : List ℕ) → close_calls (xs ++ ys) ≡ close_calls xs ++ close_calls ys
closes_append [] ys = refl
closes_append (x ∷ xs) ys = ap (λ (cs : List Call). call.Close x ∷ cs) (closes_append xs ys)

pub told_closes : {old mid new : Option (List Call)} (xs ys : List ℕ) → Told old mid (close_calls xs) → Told mid new (close_calls ys) → Told old new (close_calls (xs ++ ys))
told_closes xs ys one two = rw (closes_append xs ys) (told_more one two)

-- a link that is not to be closed
pub nothing_closed : (a b : Agenda) (l : ℕ) → stands l a.unclosed ≡ false → b ≡ record a { unclosed = removed l a.unclosed } → b ≡ to_close a l
nothing_closed a b l none is =
    is ∙ ap (λ (ls : List ℕ). record a { unclosed = ls }) (unmoved l a.unclosed none)
    ∙ sym (left_if (stands l a.unclosed) (record a { unclosed = removed l a.unclosed; closes = a.closes ++ l ∷ [] }) a none)
