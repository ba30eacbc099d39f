-- What is subscribed again on a link, by its ledger and by its connection.
use Rattle.std.proofs.Common.{◌≡◌, ◌≢◌, inl, inr, ℕ, zero, suc, ◌+◌, ◌<◌, nat_le, Bool, true, false, ◌&&◌, ◌||◌, not, is_some, List, [], ◌∷◌, length, Option, Some, None, slice_get, refl, sym, ap, ◌∙◌, subst, arith}
use Rattle.std.specs.Option.{is_none}
use Rattle.std.proofs.lemmas.List.{take-append-le}
use Rattle.containers.proofs.Choices.{by_test, taken_if, left_if, not_both, chosen}
use Rattle.sub_tracker.specs.Subscribed.{Request as Call}
use Rattle.driver_model.specs.declared.action.Owner.TheVariants as owner
use Rattle.driver_model.specs.declared.outcome.Shape.{Shape}
use Rattle.driver_model.specs.Shape.{need_of}
use Rattle.mux_conn.specs.declared.again.Again.{Again}
use Rattle.mux_conn.specs.declared.again.Again.TheVariants as again
use Rattle.mux_conn.specs.declared.life.Life.{Life}
use Rattle.mux_conn.specs.declared.life.Life.TheVariants.{Resting, Dialing, Wanting, SettingUp, Ready, Ended}
use Rattle.mux_conn.specs.Connection.{is_outstanding, is_ready as is_ready_life}
use Rattle.mux_conn.specs.Repeats.{is_to_start}
use Rattle.legal_trace.specs.Again.{again_message}
use Rattle.legal_trace.specs.Ledger.{Ledger, End, Start, again_among, again_due, again_of, begins, is_answered, is_fault, is_full, is_of_again, is_ready, is_served, noted, reach, repeats_timed, unrepeated_by, is_repeating, is_set_up, hears, authorized_by, awaits_credentials, bytes_came, dials, is_over, is_renewal_open, lost_by, may_renew, refused_in, renewed_by, unrenewed_by}
use Rattle.legal_trace.proofs.Again.{again_begun, again_else, unwanted_is_served}
use Rattle.legal_trace.proofs.Plain.{item_behind, not_none}
use Rattle.legal_trace.proofs.Came.{holds_bytes}
use Rattle.redis_error.specs.declared.redis_error.RedisError.{RedisError}
use Rattle.redis_error.specs.declared.redis_error.RedisError.TheVariants as error
use Rattle.driver_model.specs.News.{News, silence, connected, refused, overdue, took, came, failed, authorized, denied, deserted, renewed, unrenewed, late, unrepeated, dropped, shut}

-- how they agree
--
-- it is this message, which carries bytes and takes items, and has not started; whether its timer was asked for, where it is to be answered within a
-- time, is the same for both; and that is not over
pub record IsRepeatDue (l : Ledger) (calls : List Call) (within : Option ℕ) (packed : List ℕ) (of_shape : Shape) (timed : Bool) : Type 0 where
  pub wanted : l.again.wanted ≡ true
  pub in_time : l.again.over ≡ false
  pub unstarted : again_of l ≡ None
  pub timed_is : l.again.timed ≡ (is_some within && timed)
  pub message : again_message calls ≡ record { owner = owner.Resub; shape = of_shape; bytes = packed }
  pub some : packed ≢ []
  pub needs : 0 < need_of of_shape

-- its message has started, no other one does so, and it isn't answered, and the time for that is not over
pub record IsRepeatSent (l : Ledger) : Type 0 where
  pub wanted : l.again.wanted ≡ true
  pub in_time : l.again.over ≡ false
  pub k : ℕ
  pub sent : again_of l ≡ Some k
  pub open_is : is_full l k ≡ false
  pub only : (j : ℕ) (s : Start) → slice_get l.starts j ≡ Some s → is_of_again s.owner ≡ true → j ≡ k

-- until its link is set up it is to start, or there is nothing
abbrev pub IsHeld : Ledger → List Call → Option ℕ → Again → Type 0
IsHeld l calls within again.Nothing = l.again.wanted ≡ false
IsHeld l calls within (again.Due packed of_shape timed) = IsRepeatDue l calls within packed of_shape timed
IsHeld l calls within again.Sent = ⊥

-- then it is to start, or isn't answered, or the link takes requests
abbrev pub IsRepeated : Ledger → List Call → Option ℕ → Again → Type 0
IsRepeated l calls within again.Nothing = is_served l ≡ true
IsRepeated l calls within (again.Due packed of_shape timed) = IsRepeatDue l calls within packed of_shape timed
IsRepeated l calls within again.Sent = IsRepeatSent l

-- where a fault ended the link, it took requests where the connection did
abbrev pub HasServed : Option End → Again → Type 0
HasServed end a = (x : End) → end ≡ Some x → is_fault x.why ≡ true → x.served ≡ not (is_outstanding a)

-- by how far the link has come
abbrev pub TiedRepeat : Ledger → List Call → Option ℕ → Again → Life → Type 0
TiedRepeat l calls within a Resting = a ≡ again.Nothing
TiedRepeat l calls within a Dialing = IsHeld l calls within a
TiedRepeat l calls within a (Wanting link) = IsHeld l calls within a
TiedRepeat l calls within a (SettingUp link greeting) = IsHeld l calls within a
TiedRepeat l calls within a (Ready link) = IsRepeated l calls within a
TiedRepeat l calls within a (Ended e) = HasServed l.end a

-- the link is set up, and takes requests
abbrev pub serves : Life → Again → Bool
serves life a = is_ready_life life && not (is_outstanding a)

-- what they say
--
-- what is held until the link is set up is so then
pub held_ready : (l : Ledger) (calls : List Call) (within : Option ℕ) (a : Again) → IsHeld l calls within a → IsRepeated l calls within a
held_ready l calls within again.Nothing h = unwanted_is_served l h
held_ready l calls within (again.Due packed of_shape timed) h = h
held_ready l calls within again.Sent h = absurd h

-- where it is to start, the link takes no requests
due_unserved : (l : Ledger) → l.again.wanted ≡ true → l.again.over ≡ false → again_of l ≡ None → is_served l ≡ false
due_unserved l wanted in_time none = λ i. not (wanted i) || (in_time i || is_answered l (none i))

-- nor where it isn't answered
sent_unserved : (l : Ledger) → IsRepeatSent l → is_served l ≡ false
sent_unserved l h = (λ i. not (h.wanted i) || (h.in_time i || is_answered l (h.sent i))) ∙ h.open_is

-- so a link and its connection agree on whether requests are taken
pub served_is : (l : Ledger) (calls : List Call) (within : Option ℕ) (a : Again) → IsRepeated l calls within a → is_served l ≡ not (is_outstanding a)
served_is l calls within again.Nothing h = h
served_is l calls within (again.Due packed of_shape timed) h = due_unserved l h.wanted h.in_time h.unstarted
served_is l calls within again.Sent h = sent_unserved l h

-- and on whether it is to start
pub to_start_is : (l : Ledger) (calls : List Call) (within : Option ℕ) (a : Again) → is_ready l ≡ true → IsRepeated l calls within a → again_due l ≡ is_to_start a
to_start_is l calls within again.Nothing ready h = (λ i. (ready i && not (h i)) && is_none (again_of l))
to_start_is l calls within (again.Due packed of_shape timed) ready h = (λ i. (ready i && not (due_unserved l h.wanted h.in_time h.unstarted i)) && is_none (h.unstarted i))
to_start_is l calls within again.Sent ready h = (λ i. (ready i && not (sent_unserved l h i)) && is_none (h.sent i))

-- a link that isn't ready starts none
pub unready_undue : (l : Ledger) → is_ready l ≡ false → again_due l ≡ false
unready_undue l unready = ap (λ r. (r && not (is_served l)) && is_none (again_of l)) unready

-- what leaves them
--
-- a ledger with the same of it, the same starts and the same items
rebuilt_due : (l m : Ledger) (calls : List Call) (within : Option ℕ) (packed : List ℕ) (of_shape : Shape) (timed : Bool) → IsRepeatDue l calls within packed of_shape timed → IsRepeatDue (record m { again = l.again; starts = l.starts }) calls within packed of_shape timed
rebuilt_due l m calls within packed of_shape timed h = record { wanted = h.wanted; in_time = h.in_time; unstarted = h.unstarted; timed_is = h.timed_is; message = h.message; some = h.some; needs = h.needs }

rebuilt_held : (l m : Ledger) (calls : List Call) (within : Option ℕ) (a : Again) → IsHeld l calls within a → IsHeld (record m { again = l.again; starts = l.starts }) calls within a
rebuilt_held l m calls within again.Nothing h = h
rebuilt_held l m calls within (again.Due packed of_shape timed) h = rebuilt_due l m calls within packed of_shape timed h
rebuilt_held l m calls within again.Sent h = absurd h

rebuilt : (l m : Ledger) (calls : List Call) (within : Option ℕ) (a : Again) → IsRepeated l calls within a → IsRepeated (record m { again = l.again; starts = l.starts; dealt = l.dealt }) calls within a
rebuilt l m calls within again.Nothing h = h
rebuilt l m calls within (again.Due packed of_shape timed) h = rebuilt_due l (record m { dealt = l.dealt }) calls within packed of_shape timed h
rebuilt l m calls within again.Sent h = record { wanted = h.wanted; in_time = h.in_time; k = h.k; sent = h.sent; open_is = h.open_is; only = h.only }

-- has it too
pub repeated_alike : (l m : Ledger) (calls : List Call) (within : Option ℕ) (a : Again) → m.again ≡ l.again → m.starts ≡ l.starts → m.dealt ≡ l.dealt → IsRepeated l calls within a → IsRepeated m calls within a
repeated_alike l m calls within a same starts dealt h = subst (λ (x : Ledger). IsRepeated x calls within a) (λ i. record m { again = sym same i; starts = sym starts i; dealt = sym dealt i }) (rebuilt l m calls within a h)

-- also before it is set up, whatever items came
pub held_alike : (l m : Ledger) (calls : List Call) (within : Option ℕ) (a : Again) → m.again ≡ l.again → m.starts ≡ l.starts → IsHeld l calls within a → IsHeld m calls within a
held_alike l m calls within a same starts h = subst (λ (x : Ledger). IsHeld x calls within a) (λ i. record m { again = sym same i; starts = sym starts i }) (rebuilt_held l m calls within a h)

-- by how far the link has come; and where it has ended, it ended so
pub repeat_alike : (l m : Ledger) (calls : List Call) (within : Option ℕ) (a : Again) (life : Life) → m.again ≡ l.again → m.starts ≡ l.starts → m.dealt ≡ l.dealt → ((e : RedisError) → life ≡ Ended e → m.end ≡ l.end) → TiedRepeat l calls within a life → TiedRepeat m calls within a life
repeat_alike l m calls within a Resting same starts dealt end h = h
repeat_alike l m calls within a Dialing same starts dealt end h = held_alike l m calls within a same starts h
repeat_alike l m calls within a (Wanting link) same starts dealt end h = held_alike l m calls within a same starts h
repeat_alike l m calls within a (SettingUp link greeting) same starts dealt end h = held_alike l m calls within a same starts h
repeat_alike l m calls within a (Ready link) same starts dealt end h = repeated_alike l m calls within a same starts dealt h
repeat_alike l m calls within a (Ended e) same starts dealt end h = λ x is f. h x (sym (end e refl) ∙ is) f

-- a link that isn't up doesn't do so
pub down_repeats_not : (l : Ledger) → l.up ≡ false → is_repeating l ≡ false
down_repeats_not l down = ap (λ up. up && is_set_up l && not (is_served l)) down

-- news leave it, but that its time is over, while it isn't answered on a link that is set up
pub again_hear : (l : Ledger) (turn : ℕ) (n : News) → (n ≡ unrepeated → is_repeating l ≡ false) → (noted l (hears turn n)).again ≡ l.again
again_hear l turn silence quiet = refl
again_hear l turn overdue quiet = refl
again_hear l turn connected quiet = chosen (λ (x : Ledger). x.again ≡ l.again) (is_over l) l (record l { up = true }) (λ t. refl) (λ f. refl)
again_hear l turn (refused f) quiet = chosen (λ (x : Ledger). x.again ≡ l.again) (dials l) (refused_in l turn (error.Io f)) l (λ t. refl) (λ d. refl)
again_hear l turn (took count) quiet = chosen (λ (x : Ledger). x.again ≡ l.again) l.up _ l (λ t. refl) (λ f. refl)
again_hear l turn (came piece) quiet = chosen (λ (x : Ledger). x.again ≡ l.again) l.up (bytes_came l piece) l (λ t. holds_bytes (λ (x : Ledger). x.again ≡ l.again) l piece (λ rest strange told more. refl)) (λ f. refl)
again_hear l turn (failed f) quiet = refl
again_hear l turn (authorized c) quiet = chosen (λ (x : Ledger). x.again ≡ l.again) (awaits_credentials l) (authorized_by l c) l (λ t. refl) (λ f. refl)
again_hear l turn (denied text) quiet = refl
again_hear l turn deserted quiet = refl
again_hear l turn (renewed c) quiet = chosen (λ (x : Ledger). x.again ≡ l.again) (may_renew l) (renewed_by l c) l (λ t. refl) (λ f. refl)
again_hear l turn unrenewed quiet = chosen (λ (x : Ledger). x.again ≡ l.again) l.up (unrenewed_by l) l (λ t. refl) (λ f. refl)
again_hear l turn (late k) quiet = chosen (λ (x : Ledger). x.again ≡ l.again) (l.up && is_renewal_open l k) (lost_by l) l (λ t. refl) (λ f. refl)
again_hear l turn unrepeated quiet = ap (λ (x : Ledger). x.again) (left_if (is_repeating l) (unrepeated_by l) l (quiet refl))
again_hear l turn dropped quiet = refl
again_hear l turn shut quiet = refl

-- other calls are of account while it is to start alone
pub calls_kept : (l : Ledger) (calls more : List Call) (within : Option ℕ) (a : Again) (life : Life) → (is_outstanding a ≡ true → more ≡ calls) → TiedRepeat l calls within a life → TiedRepeat l more within a life
calls_kept l calls more within again.Nothing Resting same h = h
calls_kept l calls more within again.Nothing Dialing same h = h
calls_kept l calls more within again.Nothing (Wanting link) same h = h
calls_kept l calls more within again.Nothing (SettingUp link greeting) same h = h
calls_kept l calls more within again.Nothing (Ready link) same h = h
calls_kept l calls more within again.Nothing (Ended e) same h = h
calls_kept l calls more within (again.Due packed of_shape timed) life same h = subst (λ (cs : List Call). TiedRepeat l cs within (again.Due packed of_shape timed) life) (sym (same refl)) h
calls_kept l calls more within again.Sent life same h = subst (λ (cs : List Call). TiedRepeat l cs within again.Sent life) (sym (same refl)) h

-- a message starts
--
-- the number of the first that subscribes again is one of these
among_within : (ss : List Start) (n k : ℕ) → again_among ss n ≡ Some k → k < n + length ss
among_within [] n k e = cc
among_within (s ∷ ss) n k e = by_test (is_of_again s.owner) (k < n + suc (length ss))
    (λ t. let same : n ≡ k = (let so = sym (taken_if (is_of_again s.owner) (Some n) (again_among ss (suc n)) t) ∙ e in cc) in omega (arith, same))
    (λ f. let less = among_within ss (suc n) k (sym (left_if (is_of_again s.owner) (Some n) (again_among ss (suc n)) f) ∙ e) in omega (arith, less))

-- where there is none, none of these is one
pub none_again : (ss : List Start) (n j : ℕ) (s : Start) → again_among ss n ≡ None → slice_get ss j ≡ Some s → is_of_again s.owner ≡ false
none_again [] n j s none at = cc
none_again (x ∷ ss) n zero s none at = by_test (is_of_again x.owner) (is_of_again s.owner ≡ false)
    (λ t. absurd (not_none (again_among (x ∷ ss) n) n none (taken_if (is_of_again x.owner) (Some n) (again_among ss (suc n)) t)))
    (λ f. let same : x ≡ s = cc in sym (ap (λ (y : Start). is_of_again y.owner) same) ∙ f)
none_again (x ∷ ss) n (suc j) s none at = by_test (is_of_again x.owner) (is_of_again s.owner ≡ false)
    (λ t. absurd (not_none (again_among (x ∷ ss) n) n none (taken_if (is_of_again x.owner) (Some n) (again_among ss (suc n)) t)))
    (λ f. none_again ss (suc n) j s (sym (left_if (is_of_again x.owner) (Some n) (again_among ss (suc n)) f) ∙ none) at)

-- what is full stays so, and what isn't too
full_begins : (l : Ledger) (s : Start) (k : ℕ) → k < length l.starts → is_full (noted l (begins s)) k ≡ is_full l k
full_begins l s k less = ap (λ (ts : List Start). nat_le (reach ts l.dealt) (length l.dealt)) (take-append-le (k + 1) l.starts (s ∷ []) (omega arith))

-- whether it is answered stays as it was with another message
answered_begins : (l : Ledger) (s : Start) (o : Option ℕ) → again_of l ≡ o → is_answered (noted l (begins s)) o ≡ is_answered l o
answered_begins l s None e = refl
answered_begins l s (Some k) e = full_begins l s k (let less = among_within l.starts 0 k e in omega (arith, less))

-- a message that doesn't subscribe again leaves it
pub begins_repeated : (l : Ledger) (s : Start) (calls : List Call) (within : Option ℕ) (a : Again) → is_of_again s.owner ≡ false → IsRepeated l calls within a → IsRepeated (noted l (begins s)) calls within a
begins_repeated l s calls within again.Nothing other h =
    ap (λ o. not l.again.wanted || (l.again.over || is_answered (noted l (begins s)) o)) (again_else l.starts s 0 other)
    ∙ ap (λ b. not l.again.wanted || (l.again.over || b)) (answered_begins l s (again_of l) refl) ∙ h
begins_repeated l s calls within (again.Due packed of_shape timed) other h = record { wanted = h.wanted; in_time = h.in_time; unstarted = again_else l.starts s 0 other ∙ h.unstarted; timed_is = h.timed_is; message = h.message; some = h.some; needs = h.needs }
begins_repeated l s calls within again.Sent other h = record {
  wanted = h.wanted;
  in_time = h.in_time;
  k = h.k;
  sent = again_else l.starts s 0 other ∙ h.sent;
  open_is = answered_begins l s (Some h.k) h.sent ∙ h.open_is;
  only = λ j x at is. elim (item_behind l.starts s x j at) [
    | inl old ↦ h.only j x old is
    | inr new ↦ absurd (not_both (is_of_again s.owner) other (ap (λ (y : Start). is_of_again y.owner) new.1 ∙ is))
  ];
}

-- also before the link is set up
pub begins_held : (l : Ledger) (s : Start) (calls : List Call) (within : Option ℕ) (a : Again) → is_of_again s.owner ≡ false → IsHeld l calls within a → IsHeld (noted l (begins s)) calls within a
begins_held l s calls within again.Nothing other h = h
begins_held l s calls within (again.Due packed of_shape timed) other h = record { wanted = h.wanted; in_time = h.in_time; unstarted = again_else l.starts s 0 other ∙ h.unstarted; timed_is = h.timed_is; message = h.message; some = h.some; needs = h.needs }
begins_held l s calls within again.Sent other h = absurd h

-- it starts
pub repeat_sent : (l : Ledger) (s : Start) (calls : List Call) (within : Option ℕ) (packed : List ℕ) (of_shape : Shape) (timed : Bool) → is_of_again s.owner ≡ true → is_full (noted l (begins s)) (length l.starts) ≡ false → IsRepeatDue l calls within packed of_shape timed
    → IsRepeatSent (noted l (begins s))
repeat_sent l s calls within packed of_shape timed is open_is h = record {
  wanted = h.wanted;
  in_time = h.in_time;
  k = length l.starts;
  sent = again_begun l.starts s 0 h.unstarted is ∙ ap Some (let k : 0 + length l.starts ≡ length l.starts = omega arith in k);
  open_is = open_is;
  only = λ j x at subscribes. elim (item_behind l.starts s x j at) [
    | inl old ↦ absurd (not_both (is_of_again x.owner) (none_again l.starts 0 j x h.unstarted old) subscribes)
    | inr new ↦ new.0
  ];
}

-- its timer
--
-- is asked for, where it is to be answered within a time
pub repeat_timed : (l : Ledger) (calls : List Call) (ms : ℕ) (packed : List ℕ) (of_shape : Shape) (timed : Bool) → IsRepeatDue l calls (Some ms) packed of_shape timed → IsRepeatDue (noted l repeats_timed) calls (Some ms) packed of_shape true
repeat_timed l calls ms packed of_shape timed h = record { wanted = h.wanted; in_time = h.in_time; unstarted = h.unstarted; timed_is = refl; message = h.message; some = h.some; needs = h.needs }

-- or there is none
pub repeat_untimed : (l : Ledger) (calls : List Call) (packed : List ℕ) (of_shape : Shape) (timed : Bool) → IsRepeatDue l calls None packed of_shape timed → IsRepeatDue l calls None packed of_shape true
repeat_untimed l calls packed of_shape timed h = record { wanted = h.wanted; in_time = h.in_time; unstarted = h.unstarted; timed_is = h.timed_is; message = h.message; some = h.some; needs = h.needs }

-- its time is over: the link takes requests
pub over_repeated : (l : Ledger) → is_served (unrepeated_by l) ≡ true
over_repeated l = by_wanted l.again.wanted
  where
    by_wanted : (w : Bool) → (not w || (true || is_answered (unrepeated_by l) (again_of l))) ≡ true
    by_wanted true = refl
    by_wanted false = refl
