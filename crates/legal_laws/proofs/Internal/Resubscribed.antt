-- What a legal trace subscribes again on a new link.
use Rattle.std.proofs.Common.{◌≡◌, ℕ, ◌+◌, ◌≤◌, ◌==◌, Bool, true, false, List, [], ◌∷◌, ◌++◌, length, Option, Some, None, refl, sym, ◌∙◌, ap, subst, arith}
use Rattle.std.proofs.lemmas.Bool.{not-true}
use Rattle.containers.proofs.Choices.{by_test, eq_from, eq_test, if_true, left_if, taken_if, both_left}
use Rattle.manager_config.specs.declared.config.ConnectionManagerConfig.{ConnectionManagerConfig}
use Rattle.resp_write.specs.Command.{CommandList}
use Rattle.sub_tracker.specs.Subscribed.{Request}
use Rattle.sub_tracker.specs.Held.{held_after}
use Rattle.sub_tracker.specs.Pipeline.{resubscription}
use Rattle.sub_tracker.proofs.Held.{held_resubscribes}
use Rattle.driver_model.specs.declared.action.Action.{Action}
use Rattle.driver_model.specs.declared.action.Action.TheVariants as action
use Rattle.driver_model.specs.declared.action.Owner.TheVariants as owner
use Rattle.driver_model.specs.declared.config.Config.{Config}
use Rattle.driver_model.specs.declared.event.Event.{Event}
use Rattle.legal_trace.specs.Ledger.{Ledger, Line, Start, asks, hears, begins, offers, tells, sources, times, repeats_timed, ends, parts, noted, noted_each, again_among, again_of, is_ready, is_served, is_serving}
use Rattle.legal_trace.specs.Managers.{settings_in}
use Rattle.legal_trace.specs.Again.{again_message, is_subscribed, repeats_in}
use Rattle.legal_trace.specs.Book.{Book, blank_book, book, entered, lines_of}
use Rattle.legal_trace.specs.Legal.{MayStand, MayRepeat, MayStart, AllStand, Legal, link_of}
use Rattle.legal_trace.proofs.Again.{again_begun, again_is_new, again_is_up, due_repeats, repeating_is_ready}
use Rattle.legal_trace.proofs.Books.{Grows, book_more, of_each_front}
use Rattle.legal_trace.proofs.Ledgers.{each_keeps, hears_past}
use Rattle.legal_trace.proofs.Moves.{both_hold, mover_is_ready, mover_is_served, starter_moves}
use Rattle.legal_trace.proofs.Plain.{not_none}
use Rattle.legal_laws.specs.Resubscription.{SubscribesAgain, SubscribesAsItWas, repeats_by, repeats_on}
use Rattle.legal_laws.proofs.Links.Bounds.{next_may}
use Rattle.legal_laws.proofs.Links.Links.{due_repeats_some}
use Rattle.legal_laws.proofs.Notices.Notices.{front_stands}
use Rattle.legal_laws.proofs.Traces.Ranks.{up_is_current}
use Rattle.legal_laws.proofs.Internal.Repeats.{repeats_subscribed}
use Rattle.legal_laws.proofs.Internal.Served.{again_kept}
use Rattle.legal_laws.proofs.Traces.Sound.{Sound, sound_behind}

-- where something is to be subscribed again, the session comes back so
settings_of : (o : Option ConnectionManagerConfig) (calls : List Request) → repeats_in o calls ≡ true → (s : ConnectionManagerConfig) × (o ≡ Some s) × (s.automatic_resubscription ≡ true)
settings_of None calls e = absurd (cc e)
settings_of (Some s) calls e = (s, refl, both_left s.automatic_resubscription (is_subscribed calls) e)

-- a message that subscribes again does so exactly
repeat_again : (b : Book) (l message count len : ℕ) → MayRepeat b l message count len → Sound b → SubscribesAgain b l message count len
repeat_again b l message count len may h =
    let wanted : repeats_in (settings_in b.config) b.tracked ≡ true = due_repeats_some b l h may.due in
    let set = settings_of (settings_in b.config) b.tracked wanted in
    let p : CommandList = resubscription (held_after b.tracked) in
    record {
      settings = set.0;
      set = set.1;
      resubscribes = set.2;
      current = up_is_current b l h (again_is_up (b.link l) may.due);
      ready = repeating_is_ready (b.link l) (due_repeats (b.link l) may.due);
      first = again_is_new (b.link l) may.due;
      timed = λ some. may.timed l some may.due;
      next = may.next;
      commands = p;
      exact = held_resubscribes b.tracked (held_after b.tracked) refl;
      some = not-true (length p.commands == 0) (repeats_subscribed (settings_in b.config) b.tracked wanted);
      items = may.needs_its_items;
      long = may.long_as_its_bytes;
    }

-- its link carries it then
carries_again : (b : Book) (l message count len : ℕ) → ((entered b (action.Start l message owner.Resub count len)).link l).starts ≡ (b.link l).starts ++ again_message b.tracked ∷ []
carries_again b l message count len =
    if_true (λ (lines : List Line). (noted_each (b.link l) lines).starts ≡ (b.link l).starts ++ again_message b.tracked ∷ []) (l == l) (begins (again_message b.tracked) ∷ []) [] (eq_test l l refl) refl

-- where none subscribes again, none did before one more
kept_none : (ss : List Start) (s : Start) (o : Option ℕ) → again_among ss 0 ≡ o → again_among (ss ++ s ∷ []) 0 ≡ None → o ≡ None
kept_none ss s None same e = refl
kept_none ss s (Some k) same e = absurd (not_none (again_among (ss ++ s ∷ []) 0) k e (again_kept ss (s ∷ []) 0 k same))

-- so before each line
none_before : (l : Ledger) (x : Line) → again_of (noted l x) ≡ None → again_of l ≡ None
none_before l (asks info wanted hearing last again) e = e
none_before l (hears turn news) e = sym (ap (λ (ss : List Start). again_among ss 0) (hears_past l turn news).starts) ∙ e
none_before l (begins s) e = kept_none l.starts s (again_of l) refl e
none_before l (offers bytes) e = e
none_before l tells e = e
none_before l sources e = e
none_before l times e = e
none_before l repeats_timed e = e
none_before l (ends turn) e = e
none_before l parts e = e

-- so many messages subscribe again on a link: one at most, and none where it has none
pub record Repeated (count : ℕ) (l : Ledger) : Type 0 where
  pub none : again_of l ≡ None → count ≡ 0
  pub few : count ≤ 1

-- an action starts one
abbrev is_repeat : Action → Bool
is_repeat (action.Start l k owner.Resub count len) = true
is_repeat _ = false

repeat_of : (a : Action) → is_repeat a ≡ true → (l : ℕ) × (k : ℕ) × (count : ℕ) × (len : ℕ) × (a ≡ action.Start l k owner.Resub count len)
repeat_of (action.Start l k owner.Resub count len) e = (l, k, count, len, refl)
repeat_of _ e = absurd (cc e)

-- any other starts none
repeats_none : (l : ℕ) (a : Action) → is_repeat a ≡ false → repeats_by l a ≡ 0
repeats_none l (action.Start m k owner.Resub count len) e = absurd (cc e)
repeats_none l _ e = refl

-- and leaves them
other_repeats : (b : Book) (a : Action) (l count : ℕ) → repeats_by l a ≡ 0 → Repeated count (b.link l) → Repeated (count + repeats_by l a) ((entered b a).link l)
other_repeats b a l count plain h =
    let same : count ≡ count + repeats_by l a = omega (arith, plain) in
    subst (λ n. Repeated n ((entered b a).link l)) same (record {
      none = each_keeps (λ m. again_of m ≡ None → count ≡ 0) (λ m x before e. before (none_before m x e)) (b.link l) (lines_of b l a) h.none;
      few = h.few;
    })

-- one that starts is the first
repeat_repeats : (b : Book) (m k need len l count : ℕ) → MayRepeat b m k need len → Repeated count (b.link l) → Repeated (count + repeats_by l (action.Start m k owner.Resub need len)) ((entered b (action.Start m k owner.Resub need len)).link l)
repeat_repeats b m k need len l count may h =
    let a : Action = action.Start m k owner.Resub need len in
    by_test (m == l) (Repeated (count + repeats_by l a) ((entered b a).link l))
    (λ t.
    let on : m ≡ l = eq_from m l t in
    let new : again_of (b.link l) ≡ None = subst (λ j. again_of (b.link j) ≡ None) on (again_is_new (b.link m) may.due) in
    let one : repeats_by l a ≡ 1 = taken_if (m == l) 1 0 t in
    let begun : again_of ((entered b a).link l) ≡ Some (0 + length (b.link l).starts) =
    if_true (λ (lines : List Line). again_of (noted_each (b.link l) lines) ≡ Some (0 + length (b.link l).starts)) (m == l) (begins (again_message b.tracked) ∷ []) [] t (again_begun (b.link l).starts (again_message b.tracked) 0 new refl) in
    record {
      none = λ e. absurd (not_none (again_of ((entered b a).link l)) (0 + length (b.link l).starts) e begun);
      few = subst (λ n. count + n ≤ 1) (sym one) (let zero : count ≡ 0 = h.none new in omega (arith, zero));
    })
    (λ f. other_repeats b a l count (left_if (m == l) 1 0 f) h)

-- so behind each action
repeats_counted : (b : Book) (a : Action) (l count : ℕ) → MayStand b a → Repeated count (b.link l) → Repeated (count + repeats_by l a) ((entered b a).link l)
repeats_counted b a l count may h = by_test (is_repeat a) (Repeated (count + repeats_by l a) ((entered b a).link l))
    (λ t.
    let it = repeat_of a t in
    subst (λ x. Repeated (count + repeats_by l x) ((entered b x).link l)) (sym it.4) (repeat_repeats b it.0 it.1 it.2 it.3 l count (subst (MayStand b) it.4 may) h))
    (λ f. other_repeats b a l count (repeats_none l a f) h)

-- how many one action more starts
repeats_more : (l : ℕ) (t : List Action) (a : Action) → repeats_on l (t ++ a ∷ []) ≡ repeats_on l t + repeats_by l a
repeats_more l [] a = omega arith
repeats_more l (x ∷ t) a = let e : repeats_on l (t ++ a ∷ []) ≡ repeats_on l t + repeats_by l a = repeats_more l t a in omega (arith, e)

-- so it is of each front
abbrev RepeatedIn : ℕ → List Action → Type 0
RepeatedIn l t = Repeated (repeats_on l t) ((book t).link l)

repeated_grows : (l : ℕ) → Grows (RepeatedIn l)
repeated_grows l t a all may h =
    subst (λ b. Repeated (repeats_on l (t ++ a ∷ [])) (b.link l)) (sym (book_more t a))
    (subst (λ n. Repeated n ((entered (book t) a).link l)) (sym (repeats_more l t a)) (repeats_counted (book t) a l (repeats_on l t) may h))

repeated_behind : (l : ℕ) (front : List Action) → AllStand blank_book front → RepeatedIn l front
unfolding book
repeated_behind l front all = of_each_front (RepeatedIn l) front (repeated_grows l) all (record { none = λ e. refl; few = omega arith })

-- a message of a submission starts on a link that takes requests
start_is_serving : (b : Book) (l k n count len : ℕ) → MayStart b l k n count len → is_serving (b.link l) ≡ true
start_is_serving b l k n count len may =
    let moves = starter_moves b l k n count len may in
    subst (λ j. is_serving (b.link j) ≡ true) (sym may.on_its_link) (both_hold (is_ready (link_of b n)) (is_served (link_of b n)) (mover_is_ready b n moves) (mover_is_served b n moves))

-- so a legal trace subscribes again what is subscribed
pub subscribes_as_it_was : (config : Config) (word : ℕ) (events : List Event) (trace : List Action) → Legal config word events trace → SubscribesAsItWas trace
subscribes_as_it_was config word events trace h = record {
  exactly = λ front more l message count len is.
      let a : Action = action.Start l message owner.Resub count len in
      let legal : Legal config word events (front ++ a ∷ more) = subst (Legal config word events) is h in
      repeat_again (book front) l message count len (next_may config word events front more a legal) (sound_behind front (front_stands config word events front (a ∷ more) legal));
  carries = λ front more l message count len is. (
    resubscription (held_after (book front).tracked),
    held_resubscribes (book front).tracked (held_after (book front).tracked) refl,
    subst (λ (b : Book). (b.link l).starts ≡ ((book front).link l).starts ++ again_message (book front).tracked ∷ []) (sym (book_more front (action.Start l message owner.Resub count len)))
        (carries_again (book front) l message count len),
  );
  once = λ l. (repeated_behind l trace h.each).few;
  before = λ front more l k n round count len is.
      start_is_serving (book front) l k n count len (next_may config word events front more (action.Start l k (owner.Try n round) count len) (subst (Legal config word events) is h)).1;
}
