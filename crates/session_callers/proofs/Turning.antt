-- What a whole turn does to a view.
use Rattle.std.proofs.Common.{◌≡◌, ◌≢◌, ℕ, ◌+◌, ◌≤◌, List, [], ◌∷◌, ◌++◌, length, refl, sym, ap, ◌∙◌, subst, arith, eq-eqb, ne_eqb, Bool, true, false, length-append, inl}
use Rattle.std.specs.Prelude.{Result, Ok, Err, IfOk, IfErr, OnOk, if◌then◌else◌}
use mathlib.Core.List.{IsPrefix}
use Rattle.driver_model.specs.declared.action.Action.{Action}
use Rattle.driver_model.specs.declared.config.Config.{Config}
use Rattle.driver_model.specs.declared.event.Event.{Event}
use Rattle.shared_session.specs.History.{History}
use Rattle.single_session.specs.Replay.{is_bad_after, is_spent_after, state_after}
use Rattle.single_session.specs.Turn.{actions_of}
use Rattle.shared_session.specs.declared.errors.StepError.{StepError}
use Rattle.shared_session.specs.declared.session.Failure.{Failure}
use Rattle.session_callers.specs.declared.board.Home.{Home}
use Rattle.session_callers.specs.declared.board.View.{View}
use Rattle.session_callers.specs.declared.board.Stage.TheVariants.{Idle, Holding}
use Rattle.session_callers.specs.Rule.{MaySpend, MayGive, Grows, more, given, left_of, history, submissions_in, waiting, served, ticket_of}
use Rattle.session_callers.specs.Steps.{IsCounted, Stepped, HasTaken, IsRefused, HasRefused}
use Rattle.session_callers.specs.Calls.{Took, Turned, Added, Refused}
use Rattle.session_callers.proofs.Totals.{prefix_of, prefix_all}

-- what was true where it is Ok
pub on_ok : {T E : Type 0} {P Q : Type 0} (r : Result T E) → (P → Q) → OnOk r P → OnOk r Q
on_ok (Ok x) f p = f p
on_ok (Err e) f p = tt

pub if_ok : {T E : Type 0} {P Q : T → Type 0} (r : Result T E) → ((x : T) → P x → Q x) → IfOk r P → IfOk r Q
if_ok (Ok x) f p = f x p
if_ok (Err e) f p = tt

pub if_err : {T E : Type 0} {P Q : E → Type 0} (r : Result T E) → ((e : E) → P e → Q e) → IfErr r P → IfErr r Q
if_err (Ok x) f p = tt
if_err (Err e) f p = f e p

-- a view whose turn has come and which takes the session out, from the view before its ticket was drawn
took_plain : (v : View) (h : Home) (t : ℕ) (seen : List Event) (failure : Failure) (made : ℕ) → IsPrefix v.seen seen → h.session ≡ history v.config v.word seen failure → h.made ≡ made → h.submissions ≡ submissions_in seen → MaySpend v.config v.word seen failure → made ≤ v.most → Took v (record (served (waiting v t) seen failure made) { stage = Holding t }) h
took_plain v h t seen failure made begins session made_is count spent few = record {
  stage = (t, refl);
  seen = begins;
  mine = refl;
  drawn = refl;
  number = refl;
  ended = refl;
  fronts = refl;
  dial = refl;
  claims = refl;
  config = refl;
  word = refl;
  most = refl;
  session = session;
  made = made_is;
  submissions = count;
  spent = spent;
  few = few;
}

-- the same, as the three steps say it
pub took_of : (v a b w : View) (h : Home) (t : ℕ) (seen : List Event) (failure : Failure) (made : ℕ) → a ≡ waiting v t → IsPrefix a.seen seen → b ≡ served a seen failure made → w ≡ record b { stage = Holding (ticket_of b.stage) } → h.session ≡ history b.config b.word b.seen b.failure → h.made ≡ b.made → h.submissions ≡ submissions_in b.seen → MaySpend b.config b.word b.seen b.failure → b.made ≤ b.most → Took v w h
took_of v a b w h t seen failure made drew begins turn holds session made_is count spent few =
    let is : b ≡ served (waiting v t) seen failure made = turn ∙ ap (λ (x : View). served x seen failure made) drew in
    subst (λ (x : View). Took v x h) (sym (holds ∙ ap (λ (x : View). record x { stage = Holding (ticket_of x.stage) }) is)) (took_plain v h t seen failure made
    (subst (λ (x : View). IsPrefix x.seen seen) drew begins)
    (session ∙ ap (λ (x : View). history x.config x.word x.seen x.failure) is)
    (made_is ∙ ap (λ (x : View). x.made) is)
    (count ∙ ap (λ (x : View). submissions_in x.seen) is)
    (subst (λ (x : View). MaySpend x.config x.word x.seen x.failure) is spent)
    (subst (λ (x : View). x.made ≤ x.most) is few))

-- the session that was taken out is counted
pub counted : (v w : View) (h : Home) → Took v w h → IsCounted h
counted v w h t = record {
  submissions = t.submissions ∙ ap (λ (s : History). submissions_in s.events) (sym t.session);
  spent = subst (λ (s : History). MaySpend s.config s.word s.events s.failure) (sym t.session) t.spent;
}

pub stepped_same : (h : Home) → IsCounted h → Stepped h h
stepped_same h c = record { config = (refl, refl); grows = inl refl; kept = λ _. (refl, refl); made = refl; counted = c }

-- what went in extends what came out
pub longer_after : (h k : Home) → Stepped h k → IsPrefix h.session.events k.session.events
longer_after h k s = Rattle.std.proofs.Common.⊎_elim
    (λ (e : k.session.events ≡ h.session.events). subst (IsPrefix h.session.events) (sym e) (prefix_all h.session.events))
    (λ (m : (e : Event) × (k.session.events ≡ h.session.events ++ e ∷ [])). (m.0 ∷ [], sym m.1))
    s.grows

pub may_give : (v w : View) (h k : Home) → Took v w h → Stepped h k → MayGive w k
may_give v w h k t s = record {
  grows = subst (λ (l : List Event). Grows l k.session.events) (ap (λ (s : History). s.events) t.session) s.grows;
  config = (s.config.0 ∙ ap (λ (s : History). s.config) t.session, s.config.1 ∙ ap (λ (s : History). s.word) t.session);
  spent = subst (λ (x : Config × ℕ). MaySpend x.0 x.1 k.session.events k.session.failure) (λ i. ((s.config.0 ∙ ap (λ (s : History). s.config) t.session) i, (s.config.1 ∙ ap (λ (s : History). s.word) t.session) i)) s.counted.spent;
  kept = λ n. (let f : h.session.failure ≡ w.failure = ap (λ (s : History). s.failure) t.session in let a = s.kept (λ e. n (sym f ∙ e)) in (a.0 ∙ f, a.1 ∙ ap (λ (s : History). s.events) t.session));
  submissions = s.counted.submissions;
  made = let a = s.made in let b = t.made in let c : more w.stage ≡ 0 = ap more t.stage.1 in omega arith;
}

-- the same with a caller more, by a seat that was split
pub may_give_made : (v w : View) (h k : Home) → Took v w h → k.session ≡ h.session → k.submissions ≡ h.submissions → k.made ≡ h.made + 1 → MayGive (left_of w) k
may_give_made v w h k t same count made =
    let is : k.session ≡ history w.config w.word w.seen w.failure = same ∙ t.session in record {
      grows = inl (ap (λ (s : History). s.events) is);
      config = (ap (λ (s : History). s.config) is, ap (λ (s : History). s.word) is);
      spent = subst (λ (s : History). MaySpend w.config w.word s.events s.failure) (sym is) t.spent;
      kept = λ _. (ap (λ (s : History). s.failure) is, ap (λ (s : History). s.events) is);
      submissions = count ∙ t.submissions ∙ ap (λ (s : History). submissions_in s.events) (sym is);
      made = let b = t.made in omega arith;
    }

pub turned : (v w : View) (h k : Home) → Took v w h → IsPrefix h.session.events k.session.events → Turned v (record (given w k) { stage = Idle })
turned v w h k t longer = record {
  idle = refl;
  seen = prefix_of v.seen w.seen k.session.events t.seen (subst (λ (l : List Event). IsPrefix l k.session.events) (ap (λ (s : History). s.events) t.session) longer);
  drawn = t.drawn;
  number = t.number;
  ended = t.ended;
  fronts = t.fronts;
  dial = t.dial;
  claims = t.claims;
  config = t.config;
  word = t.word;
  most = t.most;
}

pub turned_as : (known v w x : View) (h k : Home) → v ≡ known → Took v w h → Stepped h k → x ≡ record (given w k) { stage = Idle } → Turned known x
turned_as known v w x h k is t s ended =
    subst (λ (y : View). Turned y x) is (subst (λ (y : View). Turned v y) (sym ended) (turned v w h k t (longer_after h k s)))

module _ (w : View) (k : Home) where
  abbrev mine_if : Bool → List ℕ
  mine_if b = if b then w.mine else (w.mine ++ length w.seen ∷ [])

  mine_as_many : k.session.events ≡ w.seen → (given w k).mine ≡ w.mine
  mine_as_many e = ap mine_if (eq-eqb (length w.seen) (length k.session.events) (ap length (sym e)))

  mine_one_more : (e : Event) → k.session.events ≡ w.seen ++ e ∷ [] → (given w k).mine ≡ w.mine ++ length w.seen ∷ []
  mine_one_more e is = ap mine_if (ne_eqb (length w.seen) (length k.session.events) (λ same. let a : length k.session.events ≡ length w.seen + 1 = ap length is ∙ length-append w.seen (e ∷ []) in omega arith))

added : (v w : View) (h k : Home) (e : Event) (n : ℕ) (shown after : List Action) → Took v w h → Stepped h k → HasTaken h k e shown after → n ≡ h.submissions → Added v (record (given w k) { stage = Idle }) e n shown after
added v w h k e n shown after t s a number =
    let events : h.session.events ≡ w.seen = ap (λ (s : History). s.events) t.session in
    let is : history h.session.config h.session.word h.session.events h.session.failure ≡ history w.config w.word w.seen w.failure = t.session in
    record {
      before = w.seen;
      begins = t.seen;
      seen = a.events ∙ ap (λ (l : List Event). l ++ e ∷ []) events;
      mine = mine_one_more w k e (a.events ∙ ap (λ (l : List Event). l ++ e ∷ []) events) ∙ ap (λ (l : List ℕ). l ++ length w.seen ∷ []) t.mine;
      number = number ∙ t.submissions;
      sound = a.sound;
      good = subst (λ (s : History). is_bad_after s.config s.word s.events e ≡ false) t.session a.good;
      unspent = subst (λ (s : History). is_spent_after s.config s.word s.events e ≡ false) t.session a.unspent;
      actions = a.actions ∙ ap (λ (s : History). shown ++ actions_of (state_after s.config s.word s.events) e) t.session;
    }

pub added_as : (known v w x : View) (h k : Home) (e : Event) (n : ℕ) (shown after : List Action) → v ≡ known → Took v w h → Stepped h k → x ≡ record (given w k) { stage = Idle } → n ≡ h.submissions → HasTaken h k e shown after → Added known x e n shown after
added_as known v w x h k e n shown after is t s ended number a =
    subst (λ (y : View). Added y x e n shown after) is (subst (λ (y : View). Added v y e n shown after) (sym ended) (added v w h k e n shown after t s a number))

refused : (error : StepError) (v w : View) (h k : Home) (e : Event) (shown after : List Action) → Took v w h → Stepped h k → HasRefused error h k e shown after → Refused error v (record (given w k) { stage = Idle }) e shown after
refused error v w h k e shown after t s a = record {
  mine = mine_as_many w k (a.events ∙ ap (λ (s : History). s.events) t.session) ∙ t.mine;
  why = subst (λ (x : Config × ℕ). IsRefused error (history x.0 x.1 k.session.events k.session.failure) e) (λ i. ((s.config.0 ∙ ap (λ (s : History). s.config) t.session) i, (s.config.1 ∙ ap (λ (s : History). s.word) t.session) i)) a.why;
  spent = (may_give v w h k t s).spent;
  actions = a.actions;
}

pub refused_as : (error : StepError) (known v w x : View) (h k : Home) (e : Event) (shown after : List Action) → v ≡ known → Took v w h → Stepped h k → x ≡ record (given w k) { stage = Idle } → HasRefused error h k e shown after → Refused error known x e shown after
refused_as error known v w x h k e shown after is t s ended a =
    subst (λ (y : View). Refused error y x e shown after) is (subst (λ (y : View). Refused error v y e shown after) (sym ended) (refused error v w h k e shown after t s a))
