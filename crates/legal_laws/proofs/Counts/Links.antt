-- How many links, submissions and generations there are.
use Rattle.std.proofs.Common.{◌≡◌, ◌⊎◌, inl, inr, ℕ, suc, ◌+◌, ◌-◌, ◌<◌, ◌≤◌, ◌==◌, nat_lt, Bool, true, false, ◌&&◌, not, List, [], ◌∷◌, ◌++◌, length, Option, Some, None, is_some, is_none, refl, sym, ◌∙◌, ap, arith}
use Rattle.std.specs.List.{list_any}
use Rattle.std.proofs.lemmas.List.{length_push}
use Rattle.containers.proofs.Choices.{by_test, chosen, taken_if, left_if, eq_from, ne_from, eq_test, if_true, both_left, both_right}
use Rattle.redis_error.specs.declared.redis_error.RedisError.{RedisError}
use Rattle.connection_info.specs.Protocol.{is_resp3}
use Rattle.driver_model.specs.declared.action.Action.{Action}
use Rattle.driver_model.specs.declared.action.Action.TheVariants as action
use Rattle.driver_model.specs.declared.action.Cause.TheVariants as cause
use Rattle.driver_model.specs.declared.action.Purpose.{Purpose}
use Rattle.driver_model.specs.declared.event.Event.{Event}
use Rattle.driver_model.specs.declared.outcome.Outcome.{Outcome}
use Rattle.legal_trace.specs.Ledger.{End, is_fault}
use Rattle.legal_trace.specs.Story.{Story, answered}
use Rattle.legal_trace.specs.Book.{Book, entered, has_generations, info_in, is_rest}
use Rattle.legal_trace.specs.Legal.{MayStand, MayTimer, MayRest, MayGenerate, MayConnect, MayAnswer, MayTell, IsOpen, current_link, is_attempt, is_cause, is_lost, is_lost_in, is_caused, link_due}
use Rattle.legal_trace.proofs.Clocks.{timer_rests}
use Rattle.legal_trace.proofs.Moves.{one_holds}
use Rattle.legal_laws.proofs.Counts.Sums.{sum_below, sum_less, sum_longer, sum_with_one}
use Rattle.legal_laws.proofs.Counts.Weights.{one_for, has_served, rose, brought, is_event, action_weighs, action_grows}
use Rattle.legal_laws.proofs.Counts.Heard.{one_sort, event_rises, event_brings, reach, event_reaches, event_rests}
use Rattle.legal_laws.proofs.Generations.Lives.{Lives, attempt_is_over, caused_is_over, due_is_caused, due_link_is_next, due_parts}
use Rattle.legal_laws.proofs.Links.Ended.{end_kept}
use Rattle.legal_laws.proofs.Links.Opens.{due_has_no_link}
use Rattle.legal_laws.proofs.Submissions.InLine.{submissions_grow}
use Rattle.legal_laws.proofs.Traces.Numbers.{over_is_numbered, open_is_numbered}
use Rattle.legal_laws.proofs.Traces.Sound.{Sound}

-- the current link is the last, or the next
pub near_most : (b : Book) → Lives b → (b.current ≤ b.links) × (b.links ≤ b.current + 1)
near_most b h = elim h.near [ inl next ↦ (omega (arith, next), omega (arith, next)) | inr last ↦ (omega (arith, last), omega (arith, last)) ]

-- an attempt that another one follows is of a link that was asked for
pub rest_is_numbered : (b : Book) (t ms : ℕ) (what : Purpose) → Sound b → MayRest b t ms what → b.current < b.links
rest_is_numbered b t ms what h may = numbered (current_link b).end refl (attempt_is_over (current_link b).end (both_right (has_generations b) (is_attempt (current_link b).end) may.due))
  where
    numbered : (o : Option End) → (current_link b).end ≡ o → is_some o ≡ true → b.current < b.links
    numbered None e some = cc
    numbered (Some end) e some = over_is_numbered b b.current end h.links e

-- links that came up, and new credentials, of so many links
abbrev pub risen : Book → ℕ → ℕ
risen b n = sum_below (λ l. rose (b.link l)) n

abbrev pub brought_below : Book → ℕ → ℕ
brought_below b n = sum_below (λ l. brought (b.link l)) n

-- each turn pays for one submission, one link that comes up, new credentials of one link, or one wait that ends; and each link is
-- that of a generation or of such a wait
pub record PaysLinks (b : Book) : Type 0 where
  pub paid : (n : ℕ) → b.submissions + risen b n + brought_below b n + reach b.rest b.current b.links ≤ b.turns + b.generation + 1
  pub came : (n : ℕ) → b.submissions + brought_below b n ≤ b.turns
  pub rests : is_some b.rest ≡ true → 0 < b.links

-- what is no event brings nothing up
none_more : (b : Book) (a : Action) (n : ℕ) → is_event a ≡ false → (risen (entered b a) n ≤ risen b n) × (brought_below (entered b a) n ≤ brought_below b n)
none_more b a n other = (
  sum_less (λ l. rose ((entered b a).link l)) (λ l. rose (b.link l)) n (λ l i. (action_weighs b a l other).0),
  sum_less (λ l. brought ((entered b a).link l)) (λ l. brought (b.link l)) n (λ l i. (action_weighs b a l other).1),
)

-- so it stays paid, where no more links are to be than generations begin
pays_on : (b : Book) (a : Action) → is_event a ≡ false → (entered b a).submissions ≡ b.submissions → (entered b a).turns ≡ b.turns
    → reach (entered b a).rest (entered b a).current (entered b a).links + b.generation ≤ reach b.rest b.current b.links + (entered b a).generation
    → (is_some (entered b a).rest ≡ true → 0 < (entered b a).links) → PaysLinks b → PaysLinks (entered b a)
pays_on b a other submissions turns reaches rests h = record {
  paid = λ n. let less = none_more b a n other in let one = less.0 in let two = less.1 in let old = h.paid n in omega (arith, submissions, turns, reaches, one, two, old);
  came = λ n. let less = none_more b a n other in let two = less.1 in let old = h.came n in omega (arith, submissions, turns, two, old);
  rests = rests;
}

-- where neither wait, nor current link, nor links, nor generation change
pays_still : (b : Book) (a : Action) → is_event a ≡ false → (entered b a).submissions ≡ b.submissions → (entered b a).turns ≡ b.turns
    → (entered b a).rest ≡ b.rest → (entered b a).current ≡ b.current → (entered b a).links ≡ b.links → (entered b a).generation ≡ b.generation → PaysLinks b → PaysLinks (entered b a)
pays_still b a other submissions turns rest current links generation h =
    let same : reach (entered b a).rest (entered b a).current (entered b a).links ≡ reach b.rest b.current b.links = λ i. reach (rest i) (current i) (links i) in
    pays_on b a other submissions turns (omega (arith, same, generation)) (λ some. let old = h.rests (sym (ap (λ (o : Option ℕ). is_some o) rest) ∙ some) in omega (arith, links, old)) h

-- no wait goes on where a link is to be asked for
due_rests_not : (b : Book) → PaysLinks b → link_due b ≡ true → is_some b.rest ≡ false
due_rests_not b h due = by_test (has_generations b) (is_some b.rest ≡ false)
    (λ has.
    let all : (nat_lt 0 b.generation && (not (current_link b).asked && (is_none b.rest && not b.shut))) ≡ true =
    sym (taken_if (has_generations b) (nat_lt 0 b.generation && (not (current_link b).asked && (is_none b.rest && not b.shut))) (b.links == 0) has) ∙ due in
    let more = both_right (nat_lt 0 b.generation) (not (current_link b).asked && (is_none b.rest && not b.shut)) all in
    none_some b.rest (both_left (is_none b.rest) (not b.shut) (both_right (not (current_link b).asked) (is_none b.rest && not b.shut) more)))
    (λ plain. by_test (is_some b.rest) (is_some b.rest ≡ false) (λ some. absurd (let none : b.links ≡ 0 = due_has_no_link b due plain in let old = h.rests some in omega (arith, none, old))) (λ f. f))
  where
    none_some : (o : Option ℕ) → is_none o ≡ true → is_some o ≡ false
    none_some None e = refl
    none_some (Some t) e = cc

-- how many are to be where no wait goes on
reach_free : (rest : Option ℕ) (current links : ℕ) → is_some rest ≡ false → reach rest current links ≡ current + 1
reach_free None current links e = refl
reach_free (Some t) current links e = cc

-- and no fewer than there are
pub reach_least : (rest : Option ℕ) (current links : ℕ) → links ≤ current + 1 → links ≤ reach rest current links
reach_least None current links i = i
reach_least (Some t) current links i = omega arith

-- and no more than that
reach_most : (rest : Option ℕ) (current links : ℕ) → reach rest current links ≤ current + links + 1
reach_most None current links = omega arith
reach_most (Some t) current links = omega arith

pays_connect : (b : Book) (l : ℕ) (host : List ℕ) (port : ℕ) → MayConnect b l host port → Sound b → PaysLinks b → PaysLinks (entered b (action.Connect l host port))
pays_connect b l host port may sound h =
    let free : is_some b.rest ≡ false = due_rests_not b h may.due in
    let at : b.current ≡ b.links = due_link_is_next b sound.lives sound.links may.due in
    let next : l ≡ b.links = may.next in
    let before = reach_free b.rest b.current b.links free in
    let after = reach_free b.rest l (b.links + 1) free in
    pays_on b (action.Connect l host port) refl refl refl (omega (arith, at, next, before, after)) (λ some. omega arith) h

pays_timer : (b : Book) (t ms : ℕ) (what : Purpose) → MayTimer b t ms what → Sound b → PaysLinks b → PaysLinks (entered b (action.Timer t ms what))
pays_timer b t ms what may sound h = elim (timer_rests b t ms what may) [
  | inl rest ↦
      let is : is_rest what ≡ true = ap is_rest rest.is_for in
      let goes : (entered b (action.Timer t ms what)).rest ≡ Some t = taken_if (is_rest what) (Some t) b.rest is in
      let all : reach (entered b (action.Timer t ms what)).rest (entered b (action.Timer t ms what)).current b.links ≡ b.links = ap (λ (o : Option ℕ). reach o (entered b (action.Timer t ms what)).current b.links) goes in
      let least = reach_least b.rest b.current b.links (near_most b sound.lives).1 in
      let below = rest_is_numbered b t ms what sound rest in
      pays_on b (action.Timer t ms what) refl refl refl (omega (arith, all, least)) (λ some. omega (arith, below)) h
  | inr other ↦ pays_still b (action.Timer t ms what) refl refl refl (left_if (is_rest what) (Some t) b.rest other) (left_if (is_rest what) b.links b.current other) refl refl h
]

pays_generation : (b : Book) (g : ℕ) → MayGenerate b g → Sound b → PaysLinks b → PaysLinks (entered b (action.Generation g))
pays_generation b g may sound h =
    let next : g ≡ b.generation + 1 = may.next in
    let least = reach_least b.rest b.current b.links (near_most b sound.lives).1 in
    pays_on b (action.Generation g) refl refl refl (omega (arith, next, least)) (λ some. absurd (cc some)) h

pays_event : (b : Book) (k : ℕ) (e : Event) → Sound b → PaysLinks b → PaysLinks (entered b (action.Turn k (cause.Event e)))
pays_event b k e sound h =
    let one = one_sort e.kind in
    record {
      paid = λ n.
          let rises = event_rises b k e.kind n in
          let more = event_brings b k e.kind n in
          let far = event_reaches b.rest e.kind b.current b.links (near_most b sound.lives).0 in
          let old = h.paid n in
          omega (arith, one, rises, more, far, old);
      came = λ n. let more = event_brings b k e.kind n in let old = h.came n in omega (arith, one, more, old);
      rests = λ some. h.rests (event_rests b.rest e.kind some);
    }

-- each action that may stand leaves it paid
pub links_paid : (b : Book) (a : Action) → MayStand b a → Sound b → PaysLinks b → PaysLinks (entered b a)
links_paid b (action.Turn k (cause.Opening config word)) may sound h = record {
  paid = λ n. let old = h.paid n in omega (arith, old);
  came = λ n. let old = h.came n in omega (arith, old);
  rests = h.rests;
}
links_paid b (action.Turn k (cause.Event e)) may sound h = pays_event b k e sound h
links_paid b (action.Connect l host port) may sound h = pays_connect b l host port may sound h
links_paid b (action.Timer t ms what) may sound h = pays_timer b t ms what may sound h
links_paid b (action.Generation g) may sound h = pays_generation b g may sound h
links_paid b (action.Took who l count) may sound h = pays_still b (action.Took who l count) refl refl refl refl refl refl refl h
links_paid b (action.Push l info) may sound h = pays_still b (action.Push l info) refl refl refl refl refl refl refl h
links_paid b (action.Message m) may sound h = pays_still b (action.Message m) refl refl refl refl refl refl refl h
links_paid b (action.Monitor v) may sound h = pays_still b (action.Monitor v) refl refl refl refl refl refl refl h
links_paid b (action.NeedCreds c l) may sound h = pays_still b (action.NeedCreds c l) refl refl refl refl refl refl refl h
links_paid b (action.Round who l) may sound h = pays_still b (action.Round who l) refl refl refl refl refl refl refl h
links_paid b (action.Close l) may sound h = pays_still b (action.Close l) refl refl refl refl refl refl refl h
links_paid b (action.Write l bytes) may sound h = pays_still b (action.Write l bytes) refl refl refl refl refl refl refl h
links_paid b (action.Wait who kind) may sound h = pays_still b (action.Wait who kind) refl refl refl refl refl refl refl h
links_paid b (action.Start l m who count len) may sound h = pays_still b (action.Start l m who count len) refl refl refl refl refl refl refl h
links_paid b (action.Created e) may sound h = pays_still b (action.Created e) refl refl refl refl refl refl refl h
links_paid b (action.Outcome n o) may sound h = pays_still b (action.Outcome n o) refl refl refl refl refl refl refl h

-- generations
--
-- how many outcomes there are
abbrev pub answers : Book → ℕ
answers b = sum_below (λ n. length (b.story n).outcomes) b.submissions

-- how many links took requests when they ended, of those before the current one
abbrev pub served_before : Book → ℕ
served_before b = sum_below (λ l. one_for (has_served (b.link l).end)) b.current

-- 1 where there is an error, else 0
abbrev pub some_of : List RedisError → ℕ
some_of [] = 0
some_of (e ∷ es) = 1

some_most : (es : List RedisError) → some_of es ≤ 1
some_most [] = omega arith
some_most (e ∷ es) = omega arith

-- each generation but the first is paid for by a submission that was answered, or a link that took requests and ended
abbrev pub PaysGenerations : Book → Type 0
PaysGenerations b = b.generation + some_of b.errors ≤ 1 + answers b + served_before b

-- the current link moves on
pub current_grows : (b : Book) (a : Action) → MayStand b a → Sound b → b.current ≤ (entered b a).current
current_grows b (action.Connect l host port) may sound = let at : b.current ≡ b.links = due_link_is_next b sound.lives sound.links may.due in let next : l ≡ b.links = may.next in omega (arith, at, next)
current_grows b (action.Timer t ms what) may sound = let most = (near_most b sound.lives).0 in chosen (λ x. b.current ≤ x) (is_rest what) b.links b.current (λ e. most) (λ e. omega arith)
current_grows b (action.Generation g) may sound = (near_most b sound.lives).0
current_grows b (action.Turn k (cause.Opening config word)) may sound = omega arith
current_grows b (action.Turn k (cause.Event e)) may sound = omega arith
current_grows b (action.Took who l count) may sound = omega arith
current_grows b (action.Push l info) may sound = omega arith
current_grows b (action.Message m) may sound = omega arith
current_grows b (action.Monitor v) may sound = omega arith
current_grows b (action.NeedCreds c l) may sound = omega arith
current_grows b (action.Round who l) may sound = omega arith
current_grows b (action.Close l) may sound = omega arith
current_grows b (action.Write l bytes) may sound = omega arith
current_grows b (action.Wait who kind) may sound = omega arith
current_grows b (action.Start l m who count len) may sound = omega arith
current_grows b (action.Created e) may sound = omega arith
current_grows b (action.Outcome n o) may sound = omega arith

-- a link that took requests when it ended, did
served_stays : (b : Book) (a : Action) (l : ℕ) → MayStand b a → Sound b → one_for (has_served (b.link l).end) ≤ one_for (has_served ((entered b a).link l).end)
served_stays b a l may sound = by_end (b.link l).end refl
  where
    by_end : (o : Option End) → (b.link l).end ≡ o → one_for (has_served o) ≤ one_for (has_served ((entered b a).link l).end)
    by_end None e = omega arith
    by_end (Some end) e =
        let same : one_for (has_served ((entered b a).link l).end) ≡ one_for (has_served (Some end)) = ap (λ (o : Option End). one_for (has_served o)) (end_kept b a l end may (sound.up l) e) in
        omega (arith, same)

-- so what pays stays
served_grows : (b : Book) (a : Action) → MayStand b a → Sound b → served_before b ≤ served_before (entered b a)
served_grows b a may sound =
    let here = sum_less (λ l. one_for (has_served (b.link l).end)) (λ l. one_for (has_served ((entered b a).link l).end)) b.current (λ l i. served_stays b a l may sound) in
    let more = sum_longer (λ l. one_for (has_served ((entered b a).link l).end)) b.current (entered b a).current (current_grows b a may sound) in
    omega (arith, here, more)

answers_grow : (b : Book) (a : Action) → answers b ≤ answers (entered b a)
answers_grow b a =
    let here = sum_less (λ n. length (b.story n).outcomes) (λ n. length ((entered b a).story n).outcomes) b.submissions (λ n i. (action_grows b a n).answered) in
    let more = sum_longer (λ n. length ((entered b a).story n).outcomes) b.submissions (entered b a).submissions (submissions_grow b a) in
    omega (arith, here, more)

-- where no generation begins, and no error comes
generations_on : (b : Book) (a : Action) → MayStand b a → Sound b → (entered b a).generation ≡ b.generation → some_of (entered b a).errors ≤ some_of b.errors → PaysGenerations b → PaysGenerations (entered b a)
generations_on b a may sound generation errors h =
    let one = answers_grow b a in
    let two = served_grows b a may sound in
    omega (arith, h, generation, errors, one, two)

same_errors : (b : Book) (a : Action) → MayStand b a → Sound b → (entered b a).generation ≡ b.generation → (entered b a).errors ≡ b.errors → PaysGenerations b → PaysGenerations (entered b a)
same_errors b a may sound generation errors h = generations_on b a may sound generation (let e : some_of (entered b a).errors ≡ some_of b.errors = ap some_of errors in omega (arith, e)) h

-- an outcome pays for its error
outcome_pays : (b : Book) (n : ℕ) (o : Outcome) → MayAnswer b n o ⊎ MayTell b n o → Sound b → answers b + 1 ≤ answers (entered b (action.Outcome n o))
outcome_pays b n o may sound =
    let numbered : n < b.submissions = open_is_numbered b n sound.stories (asked may) in
    sum_with_one (λ k. length (b.story k).outcomes) (λ k. length ((entered b (action.Outcome n o)).story k).outcomes) n b.submissions numbered
    (λ k i. (action_grows b (action.Outcome n o) k).answered)
    (if_true (λ (s : Story). length (b.story n).outcomes + 1 ≤ length s.outcomes) (n == n) (answered (b.story n) o) (b.story n) (eq_test n n refl)
    (let more : length ((b.story n).outcomes ++ o ∷ []) ≡ length (b.story n).outcomes + 1 = length_push (b.story n).outcomes o in omega (arith, more)))
  where
    asked : MayAnswer b n o ⊎ MayTell b n o → IsOpen b n
    asked (inl owes) = owes.asked
    asked (inr told) = told.asked

outcome_paid : (b : Book) (n : ℕ) (o : Outcome) → MayStand b (action.Outcome n o) → Sound b → PaysGenerations b → PaysGenerations (entered b (action.Outcome n o))
outcome_paid b n o may sound h =
    let one = outcome_pays b n o may sound in
    let two = served_grows b (action.Outcome n o) may sound in
    let most = some_most (entered b (action.Outcome n o)).errors in
    omega (arith, h, one, two, most)

-- a link that was lost took requests
lost_served : (turn : ℕ) (o : Option End) → is_lost_in turn o ≡ true → one_for (has_served o) ≡ 1
lost_served turn None e = cc
lost_served turn (Some end) e = ap one_for (both_right (is_fault end.why) end.served (both_right (end.turn == turn) (is_fault end.why && end.served) e))

-- where one of a list passes a test, there is one
any_some : (test : RedisError → Bool) (es : List RedisError) → list_any test es ≡ true → some_of es ≡ 1
any_some test [] e = cc
any_some test (x ∷ es) e = refl

-- what caused a generation pays for it
cause_pays : (b : Book) → Sound b → b.shut ≡ false → is_caused b ≡ true → PaysGenerations b → b.generation ≤ answers b + sum_below (λ l. one_for (has_served (b.link l).end)) b.links
cause_pays b sound runs caused h =
    let f : ℕ → ℕ = λ l. one_for (has_served (b.link l).end) in
    elim (one_holds (is_lost b) (list_any (is_cause (current_link b).end) b.errors) caused) [
      | inl lost ↦
          let here : one_for (has_served (current_link b).end) ≡ 1 = lost_served (b.turns - 1) (current_link b).end (both_right (is_resp3 (info_in b.config).protocol) (is_lost_in (b.turns - 1) (current_link b).end) lost) in
          let below : b.current + 1 ≤ b.links = numbered (current_link b).end refl (caused_is_over b sound.lives runs caused) in
          let more : sum_below f (b.current + 1) ≤ sum_below f b.links = sum_longer f (b.current + 1) b.links below in
          let split : sum_below f (b.current + 1) ≡ sum_below f b.current + f b.current = added f b.current in
          omega (arith, h, here, more, split)
      | inr error ↦
          let some : some_of b.errors ≡ 1 = any_some (is_cause (current_link b).end) b.errors error in
          let more = sum_longer f b.current b.links (near_most b sound.lives).0 in
          omega (arith, h, some, more)
    ]
  where
    added : (f : ℕ → ℕ) (n : ℕ) → sum_below f (n + 1) ≡ sum_below f n + f n
    added f n = ap (sum_below f) (let e : n + 1 ≡ suc n = omega arith in e)

    numbered : (o : Option End) → (current_link b).end ≡ o → is_some o ≡ true → b.current + 1 ≤ b.links
    numbered None e some = cc
    numbered (Some end) e some = let i : b.current < b.links = over_is_numbered b b.current end sound.links e in omega (arith, i)

generation_paid : (b : Book) (g : ℕ) → MayGenerate b g → Sound b → PaysGenerations b → PaysGenerations (entered b (action.Generation g))
generation_paid b g may sound h =
    let next : g ≡ b.generation + 1 = may.next in
    let parts = due_parts b may.due in
    by_test (b.generation == 0) (PaysGenerations (entered b (action.Generation g)))
    (λ t. let none : b.generation ≡ 0 = eq_from b.generation 0 t in omega (arith, next, none))
    (λ f. let paid = cause_pays b sound parts.2 (due_is_caused b may.due (ne_from b.generation 0 f)) h in omega (arith, next, paid))

-- each action that may stand leaves them paid
pub generations_paid : (b : Book) (a : Action) → MayStand b a → Sound b → PaysGenerations b → PaysGenerations (entered b a)
generations_paid b (action.Turn k (cause.Opening config word)) may sound h = generations_on b (action.Turn k (cause.Opening config word)) may sound refl (omega arith) h
generations_paid b (action.Turn k (cause.Event e)) may sound h = generations_on b (action.Turn k (cause.Event e)) may sound refl (omega arith) h
generations_paid b (action.Timer t ms what) may sound h = generations_on b (action.Timer t ms what) may sound refl
    (chosen (λ (es : List RedisError). some_of es ≤ some_of b.errors) (is_rest what) [] b.errors (λ e. omega arith) (λ e. omega arith)) h
generations_paid b (action.Generation g) may sound h = generation_paid b g may sound h
generations_paid b (action.Outcome n o) may sound h = outcome_paid b n o may sound h
generations_paid b (action.Connect l host port) may sound h = same_errors b (action.Connect l host port) may sound refl refl h
generations_paid b (action.Took who l count) may sound h = same_errors b (action.Took who l count) may sound refl refl h
generations_paid b (action.Push l info) may sound h = same_errors b (action.Push l info) may sound refl refl h
generations_paid b (action.Message m) may sound h = same_errors b (action.Message m) may sound refl refl h
generations_paid b (action.Monitor v) may sound h = same_errors b (action.Monitor v) may sound refl refl h
generations_paid b (action.NeedCreds c l) may sound h = same_errors b (action.NeedCreds c l) may sound refl refl h
generations_paid b (action.Round who l) may sound h = same_errors b (action.Round who l) may sound refl refl h
generations_paid b (action.Close l) may sound h = same_errors b (action.Close l) may sound refl refl h
generations_paid b (action.Write l bytes) may sound h = same_errors b (action.Write l bytes) may sound refl refl h
generations_paid b (action.Wait who kind) may sound h = same_errors b (action.Wait who kind) may sound refl refl h
generations_paid b (action.Start l m who count len) may sound h = same_errors b (action.Start l m who count len) may sound refl refl h
generations_paid b (action.Created e) may sound h = same_errors b (action.Created e) may sound refl refl h
