-- Links that are set up: what makes them so, and that they stay so.
use Rattle.std.proofs.Common.{◌≡◌, ◌≢◌, ◌⊎◌, inl, inr, ℕ, zero, suc, ◌+◌, ◌<◌, ◌≤◌, ◌==◌, nat_le, if◌then◌else◌, Bool, true, false, ◌&&◌, ◌||◌, not, List, [], ◌∷◌, ◌++◌, length, take, drop, Option, Some, None, refl, sym, ap, ◌∙◌, subst, arith, length-append, slice_get}
use Rattle.std.proofs.lemmas.List.{take-append-le, drop-append-le, take_all, length_push}
use Rattle.std.specs.Prelude.{ℤ, pos, negsuc}
use Rattle.containers.proofs.Choices.{by_test, chosen, taken_if, left_if, le_from, le_test, not_le_test, not_both, or_right, both_left, both_right}
use Rattle.resp_value.specs.Data.{Data}
use Rattle.resp_write.specs.Pack.{pack}
use Rattle.redis_error.specs.declared.redis_error.RedisError.{RedisError}
use Rattle.connection_info.specs.declared.address.RedisConnectionInfo.{RedisConnectionInfo}
use Rattle.connection_info.specs.declared.protocol.ProtocolVersion.{ProtocolVersion}
use Rattle.connection_info.specs.declared.protocol.ProtocolVersion.TheVariants.{RESP2, RESP3}
use Rattle.connection_setup.specs.declared.judgement.SetupResult.{SetupResult}
use Rattle.connection_setup.specs.declared.judgement.SetupResult.TheVariants as result
use Rattle.connection_setup.specs.Setup.{Step, choices, library, opening, opening_of, selection, setup, username_in}
use Rattle.connection_setup.specs.Judgement.{judged}
use Rattle.driver_model.specs.Config.{bare_info}
use Rattle.driver_model.specs.Hearing.{is_watching}
use Rattle.driver_model.specs.declared.news.LinkFault.TheVariants as fault
use Rattle.driver_model.specs.Setup.{says_nothing, setup_bytes, setup_shape}
use Rattle.driver_model.specs.News.{News, silence, connected, refused, overdue, took, came, failed, authorized, denied, deserted, renewed, unrenewed, late, unrepeated, dropped, shut}
use Rattle.driver_model.specs.Shape.{need_of}
use Rattle.legal_trace.specs.Ledger.{Ledger, Start, Ending, by_opening, is_over, reach, reached, cut, bytes_came, is_full, is_of_setup, setup_count, setup_steps, result_of, last_result, lacks_credentials, setup_result, is_well, is_greeted, is_set_up, error_in, repeats, setup_after, setup_due, setup_message, ending, ending_up, ending_by, ending_unready, ending_alive, ending_asked, is_unreadable, opening_error}
use Rattle.legal_trace.proofs.Came.{Came, holds_came, bytes_are}
use Rattle.legal_trace.proofs.Ledgers.{reach_more, reached_more, reached_dealt, takes_one}
use Rattle.legal_trace.proofs.Monitors.{is_watched, unwatched, watched_begins, watched_grows}
use Rattle.legal_trace.proofs.Moves.{both_hold}
use Rattle.legal_trace.proofs.Plain.{item_behind, item_within, same_some}

-- what so many setups came to, where no credentials are waited for
abbrev pub said_result : Ledger → ℕ → Option SetupResult
said_result l count = if says_nothing (setup_steps l 0) then Some result.Ready else last_result l count

-- so it is what the setup came to
pub setup_said : (l : Ledger) → lacks_credentials l ≡ false → setup_result l ≡ said_result l (setup_count l.starts)
setup_said l given = left_if (lacks_credentials l) None (said_result l (setup_count l.starts)) given

-- while they are, it came to nothing
pub setup_unsaid : (l : Ledger) → lacks_credentials l ≡ true → setup_result l ≡ None
setup_unsaid l lacks = taken_if (lacks_credentials l) None (said_result l (setup_count l.starts)) lacks

-- none are waited for where none are to come
pub unwanted : (l : Ledger) → l.creds.wanted ≡ false → lacks_credentials l ≡ false
unwanted l e = ap (λ wanted. wanted && not l.creds.given) e

-- a link to whose server all is said before the first request has the credentials for it
pub greeted_is_given : (l : Ledger) → is_greeted l ≡ true → lacks_credentials l ≡ false
greeted_is_given l greeted = by_test (lacks_credentials l) (lacks_credentials l ≡ false)
    (λ t. absurd (let x : false ≡ true = sym (ap is_well (setup_unsaid l t)) ∙ greeted in cc x)) (λ f. f)

-- and its setups came to it
pub greeted_is_said : (l : Ledger) → is_greeted l ≡ true → is_well (said_result l (setup_count l.starts)) ≡ true
greeted_is_said l greeted = sym (ap is_well (setup_said l (greeted_is_given l greeted))) ∙ greeted

-- so both make it so
pub said_is_greeted : (l : Ledger) → lacks_credentials l ≡ false → is_well (said_result l (setup_count l.starts)) ≡ true → is_greeted l ≡ true
said_is_greeted l given well = ap is_well (setup_said l given) ∙ well

-- that it is, and that MONITOR is answered, where its server is put into monitor mode, is that it is set up
pub set_is_greeted : (l : Ledger) → is_set_up l ≡ true → is_greeted l ≡ true
set_is_greeted l set = both_left (is_greeted l) (is_watched l) set

pub set_is_watched : (l : Ledger) → is_set_up l ≡ true → is_watched l ≡ true
set_is_watched l set = both_right (is_greeted l) (is_watched l) set

pub greeted_is_set : (l : Ledger) → is_greeted l ≡ true → is_watched l ≡ true → is_set_up l ≡ true
greeted_is_set l greeted watched = both_hold (is_greeted l) (is_watched l) greeted watched

-- one that isn't greeted isn't set up
pub ungreeted_is_unset : (l : Ledger) → is_greeted l ≡ false → is_set_up l ≡ false
ungreeted_is_unset l e = ap (λ greeted. greeted && is_watched l) e

-- a link that is set up has the credentials for it
pub set_is_given : (l : Ledger) → is_set_up l ≡ true → lacks_credentials l ≡ false
set_is_given l set = greeted_is_given l (set_is_greeted l set)

-- and its setups came to it
pub set_is_said : (l : Ledger) → is_set_up l ≡ true → is_well (said_result l (setup_count l.starts)) ≡ true
set_is_said l set = greeted_is_said l (set_is_greeted l set)

-- a link to whose server nothing is to be said is greeted, where it waits for no credentials
pub silent_is_greeted : (l : Ledger) → lacks_credentials l ≡ false → says_nothing (setup_steps l 0) ≡ true → is_greeted l ≡ true
silent_is_greeted l given h = said_is_greeted l given (ap (λ t. is_well (if t then Some result.Ready else last_result l (setup_count l.starts))) h)

-- so it is set up, where its server isn't put into monitor mode
pub silent_is_set : (l : Ledger) → is_watching l.hearing ≡ false → lacks_credentials l ≡ false → says_nothing (setup_steps l 0) ≡ true → is_set_up l ≡ true
silent_is_set l plain given h = greeted_is_set l (silent_is_greeted l given h) (unwatched l plain)

-- so is one of which nothing was told that is to be said
pub bare_is_set : (l : Ledger) → is_watching l.hearing ≡ false → l.info ≡ bare_info → l.creds.wanted ≡ false → is_set_up l ≡ true
bare_is_set l plain e unasked = silent_is_set l plain (unwanted l unasked) (ap (λ (info : RedisConnectionInfo). says_nothing (setup info (0 == 0))) e)

-- what holds of the second of two holds of one of them
pub second_holds : (p q : Bool) → q ≡ true → (p || q) ≡ true
second_holds true q e = refl
second_holds false q e = e

-- what ends a link that is up and set up
pub ends_where_set : (l : Ledger) → l.up ≡ true → is_set_up l ≡ true → ending l ≡ ending_up l l.heard
ends_where_set l up set =
    taken_if l.up (ending_alive l) (if l.asked && not (is_over l) then ending_asked l l.heard else None) up
    ∙ taken_if (is_set_up l) (ending_up l l.heard) (ending_by (error_in (setup_result l)) (ending_unready l l.heard)) set

-- without commands nothing is repeated
none_repeats : (steps : List Step) (full : Bool) (cut : List Data) → says_nothing steps ≡ true → repeats (if full then Some (judged steps cut) else None) ≡ false
none_repeats [] true cut e = refl
none_repeats [] false cut e = refl
none_repeats (s ∷ steps) full cut e = absurd (let x : false ≡ true = e in cc x)

-- what is repeated isn't well
repeats_unwell : (o : Option SetupResult) → repeats o ≡ true → is_well o ≡ true → ⊥
repeats_unwell None r w = cc r
repeats_unwell (Some result.Ready) r w = cc r
repeats_unwell (Some result.RepeatWithoutUser) r w = cc w
repeats_unwell (Some (result.Failed e)) r w = cc r
repeats_unwell (Some result.NoMemory) r w = cc r

-- of so many setups that started, none is due on a link that is set up
undue_after : (l : Ledger) (count k : ℕ) → is_well (said_result l count) ≡ true → setup_after l count ≡ Some k → ⊥
undue_after l zero k well due = by_test (says_nothing (setup_steps l 0)) ⊥
    (λ t. let x : None ≡ Some k = sym (taken_if (lacks_credentials l || says_nothing (setup_steps l 0)) None (Some 0) (second_holds (lacks_credentials l) (says_nothing (setup_steps l 0)) t)) ∙ due in cc x)
    (λ f. let x : false ≡ true = sym (ap is_well (left_if (says_nothing (setup_steps l 0)) (Some result.Ready) None f)) ∙ well in cc x)
undue_after l (suc zero) k well due = by_test (repeats (result_of l 0)) ⊥
    (λ r. by_test (says_nothing (setup_steps l 0)) ⊥
    (λ t. not_both (repeats (result_of l 0)) (none_repeats (setup_steps l 0) (is_full l 0) (cut l 0 (setup_shape (setup_steps l 0))) t) r)
    (λ f. repeats_unwell (result_of l 0) r (sym (ap is_well (left_if (says_nothing (setup_steps l 0)) (Some result.Ready) (result_of l 0) f)) ∙ well)))
    (λ n. let x : None ≡ Some k = sym (left_if (repeats (result_of l 0)) (Some 1) None n) ∙ due in cc x)
undue_after l (suc (suc count)) k well due = cc due

-- no setup is due on a link that is greeted
pub greeted_is_undue : (l : Ledger) (k : ℕ) → is_greeted l ≡ true → setup_due l ≡ Some k → ⊥
greeted_is_undue l k greeted due = by_test l.up ⊥
    (λ t. undue_after l (setup_count l.starts) k (greeted_is_said l greeted) (sym (taken_if l.up (setup_after l (setup_count l.starts)) None t) ∙ due))
    (λ f. let x : None ≡ Some k = sym (left_if l.up (setup_after l (setup_count l.starts)) None f) ∙ due in cc x)

-- nor on one that is set up
pub set_is_undue : (l : Ledger) (k : ℕ) → is_set_up l ≡ true → setup_due l ≡ Some k → ⊥
set_is_undue l k set due = greeted_is_undue l k (set_is_greeted l set) due

-- so one on which a setup is due isn't set up
pub due_is_unset : (l : Ledger) (k : ℕ) → setup_due l ≡ Some k → is_set_up l ≡ false
due_is_unset l k due = by_test (is_set_up l) (is_set_up l ≡ false) (λ t. absurd (set_is_undue l k t due)) (λ f. f)

-- a link on which a setup is due is up
pub due_is_up : (l : Ledger) (k : ℕ) → setup_due l ≡ Some k → l.up ≡ true
due_is_up l k due = by_test l.up (l.up ≡ true) (λ t. t)
    (λ f. absurd (let x : None ≡ Some k = sym (left_if l.up (setup_after l (setup_count l.starts)) None f) ∙ due in cc x))

-- of setups that started, no more than the starts
pub count_within : (ss : List Start) → setup_count ss ≤ length ss
count_within [] = omega arith
count_within (s ∷ ss) = chosen (λ k. k ≤ suc (length ss)) (is_of_setup s.owner) (suc (setup_count ss)) 0 (λ t. omega (arith, count_within ss)) (λ f. omega arith)

-- a start of a request is none of them
pub count_more : (ss : List Start) (s : Start) → is_of_setup s.owner ≡ false → setup_count (ss ++ s ∷ []) ≡ setup_count ss
count_more [] s f = left_if (is_of_setup s.owner) (suc 0) 0 f
count_more (x ∷ ss) s f = ap (λ k. if is_of_setup x.owner then suc k else 0) (count_more ss s f)

-- so what a setup came to stays where a message starts behind it
result_begins : (l : Ledger) (s : Start) (k : ℕ) → k < length l.starts → result_of (record l { starts = l.starts ++ s ∷ [] }) k ≡ result_of l k
result_begins l s k i =
    let steps : List Step = setup_steps l k in
    let whole : reached (record l { starts = l.starts ++ s ∷ [] }) (k + 1) ≡ reached l (k + 1) = reached_more l s (k + 1) (omega (arith, i)) in
    let from : reached (record l { starts = l.starts ++ s ∷ [] }) k ≡ reached l k = reached_more l s k (omega (arith, i)) in
    ap (λ n. if nat_le n (length l.dealt) then Some (judged steps (take (need_of (setup_shape steps)) (drop (reached (record l { starts = l.starts ++ s ∷ [] }) k) l.dealt))) else None) whole
    ∙ ap (λ n. if nat_le (reached l (k + 1)) (length l.dealt) then Some (judged steps (take (need_of (setup_shape steps)) (drop n l.dealt))) else None) from

-- so does what the last came to
last_begins : (l : Ledger) (s : Start) (count : ℕ) → count ≤ length l.starts → last_result (record l { starts = l.starts ++ s ∷ [] }) count ≡ last_result l count
last_begins l s zero i = refl
last_begins l s (suc k) i = result_begins l s k (omega (arith, i))

-- a link that is greeted stays so where a message starts that is none of the setup
pub greeted_begins : (l : Ledger) (s : Start) → is_of_setup s.owner ≡ false → is_greeted l ≡ true → is_greeted (record l { starts = l.starts ++ s ∷ [] }) ≡ true
greeted_begins l s f greeted =
    let m : Ledger = record l { starts = l.starts ++ s ∷ [] } in
    let e : last_result m (setup_count m.starts) ≡ last_result l (setup_count l.starts) =
    ap (last_result m) (count_more l.starts s f) ∙ last_begins l s (setup_count l.starts) (count_within l.starts) in
    said_is_greeted m (greeted_is_given l greeted) (ap (λ o. is_well (if says_nothing (setup_steps l 0) then Some result.Ready else o)) e ∙ greeted_is_said l greeted)

-- and one that is set up does
pub set_begins : (l : Ledger) (s : Start) → is_of_setup s.owner ≡ false → is_set_up l ≡ true → is_set_up (record l { starts = l.starts ++ s ∷ [] }) ≡ true
set_begins l s f set = greeted_is_set (record l { starts = l.starts ++ s ∷ [] }) (greeted_begins l s f (set_is_greeted l set)) (watched_begins l s (set_is_watched l set))

-- what stands behind some of a list
length_behind : (n : ℕ) (ds : List Data) → n ≤ length ds → length (drop n ds) + n ≡ length ds
length_behind zero ds i = omega arith
length_behind (suc n) [] i = absurd (omega (arith, i))
length_behind (suc n) (d ∷ ds) i = let e : length (drop n ds) + n ≡ length ds = length_behind n ds (omega (arith, i)) in omega (arith, e)

-- the items of a message that has them all stay where more come
pub cut_stays : (n m : ℕ) (ds more : List Data) → n + m ≤ length ds → take m (drop n (ds ++ more)) ≡ take m (drop n ds)
cut_stays n m ds more i =
    ap (take m) (drop-append-le n ds more (omega (arith, i)))
    ∙ take-append-le m (drop n ds) more (let e : length (drop n ds) + n ≡ length ds = length_behind n ds (omega (arith, i)) in omega (arith, e, i))

-- the setup that is due is the next of those that started
due_is_next : (l : Ledger) (count k : ℕ) → setup_after l count ≡ Some k → count ≡ k
due_is_next l zero k due = by_test (lacks_credentials l || says_nothing (setup_steps l 0)) (0 ≡ k)
    (λ t. absurd (let x : None ≡ Some k = sym (taken_if (lacks_credentials l || says_nothing (setup_steps l 0)) None (Some 0) t) ∙ due in cc x))
    (λ f. same_some 0 k (sym (left_if (lacks_credentials l || says_nothing (setup_steps l 0)) None (Some 0) f) ∙ due))
due_is_next l (suc zero) k due = by_test (repeats (result_of l 0)) (1 ≡ k)
    (λ t. same_some 1 k (sym (taken_if (repeats (result_of l 0)) (Some 1) None t) ∙ due))
    (λ f. absurd (let x : None ≡ Some k = sym (left_if (repeats (result_of l 0)) (Some 1) None f) ∙ due in cc x))
due_is_next l (suc (suc count)) k due = cc due

-- on a link that is up
pub due_count : (l : Ledger) (k : ℕ) → setup_due l ≡ Some k → setup_count l.starts ≡ k
due_count l k due = due_is_next l (setup_count l.starts) k (sym (taken_if l.up (setup_after l (setup_count l.starts)) None (due_is_up l k due)) ∙ due)

-- where a setup is due something is to be said
due_says : (l : Ledger) (count k : ℕ) → setup_after l count ≡ Some k → says_nothing (setup_steps l 0) ≡ false
due_says l zero k due = by_test (lacks_credentials l || says_nothing (setup_steps l 0)) (says_nothing (setup_steps l 0) ≡ false)
    (λ t. absurd (let x : None ≡ Some k = sym (taken_if (lacks_credentials l || says_nothing (setup_steps l 0)) None (Some 0) t) ∙ due in cc x))
    (λ f. or_right (lacks_credentials l) (says_nothing (setup_steps l 0)) f)
due_says l (suc zero) k due = by_test (says_nothing (setup_steps l 0)) (says_nothing (setup_steps l 0) ≡ false)
    (λ t. absurd (let r : repeats (result_of l 0) ≡ false = none_repeats (setup_steps l 0) (is_full l 0) (cut l 0 (setup_shape (setup_steps l 0))) t in
    let x : None ≡ Some k = sym (left_if (repeats (result_of l 0)) (Some 1) None r) ∙ due in cc x)) (λ f. f)
due_says l (suc (suc count)) k due = cc due

-- so on a link on which one is due
pub says_something : (l : Ledger) (k : ℕ) → setup_due l ≡ Some k → says_nothing (setup_steps l 0) ≡ false
says_something l k due = due_says l (setup_count l.starts) k (sym (taken_if l.up (setup_after l (setup_count l.starts)) None (due_is_up l k due)) ∙ due)

-- a setup has bytes
--
-- its first command has words
abbrev HasWords : List Step → Type 0
HasWords [] = Unit {0}
HasWords (s ∷ steps) = s.words ≢ []

words_append : (xs ys : List Step) → HasWords xs → HasWords ys → HasWords (xs ++ ys)
words_append [] ys h k = k
words_append (x ∷ xs) ys h k = h

opening_words : (protocol : ProtocolVersion) (username password : Option (List ℕ)) → HasWords (opening protocol username password)
opening_words RESP2 username None = tt
opening_words RESP2 None (Some password) = λ e. cc
opening_words RESP2 (Some name) (Some password) = λ e. cc
opening_words RESP3 username None = λ e. cc
opening_words RESP3 None (Some password) = λ e. cc
opening_words RESP3 (Some name) (Some password) = λ e. cc

selection_words : (db : ℤ) → HasWords (selection db)
selection_words (pos zero) = tt
selection_words (pos (suc n)) = λ e. cc
selection_words (negsuc n) = λ e. cc

library_words : (skip : Bool) → HasWords (library skip)
library_words true = tt
library_words false = λ e. cc

setup_words : (info : RedisConnectionInfo) (with_user : Bool) → HasWords (setup info with_user)
setup_words info with_user =
    words_append (opening_of info with_user) (choices info) (opening_words info.protocol (username_in info with_user) info.password)
    (words_append (selection info.db) (library info.skip_set_lib_name) (selection_words info.db) (library_words info.skip_set_lib_name))

-- a command with words has bytes
words_packed : (ws : List (List ℕ)) (more : List ℕ) → ws ≢ [] → pack ws ++ more ≢ []
words_packed [] more some e = some refl
words_packed (w ∷ ws) more some e = cc

steps_packed : (steps : List Step) → HasWords steps → says_nothing steps ≡ false → setup_bytes steps ≢ []
steps_packed [] h says = cc
steps_packed (s ∷ steps) h says = words_packed s.words _ h

-- without the user name as much is to be said
opening_alike : (protocol : ProtocolVersion) (one other password : Option (List ℕ)) (more : List Step) → says_nothing (opening protocol one password ++ more) ≡ says_nothing (opening protocol other password ++ more)
opening_alike RESP2 None None None more = refl
opening_alike RESP2 None (Some name) None more = refl
opening_alike RESP2 (Some user) None None more = refl
opening_alike RESP2 (Some user) (Some name) None more = refl
opening_alike RESP2 None None (Some password) more = refl
opening_alike RESP2 None (Some name) (Some password) more = refl
opening_alike RESP2 (Some user) None (Some password) more = refl
opening_alike RESP2 (Some user) (Some name) (Some password) more = refl
opening_alike RESP3 None None None more = refl
opening_alike RESP3 None (Some name) None more = refl
opening_alike RESP3 (Some user) None None more = refl
opening_alike RESP3 (Some user) (Some name) None more = refl
opening_alike RESP3 None None (Some password) more = refl
opening_alike RESP3 None (Some name) (Some password) more = refl
opening_alike RESP3 (Some user) None (Some password) more = refl
opening_alike RESP3 (Some user) (Some name) (Some password) more = refl

pub setup_packed : (l : Ledger) (k : ℕ) → says_nothing (setup_steps l 0) ≡ false → setup_bytes (setup_steps l k) ≢ []
setup_packed l k says =
    steps_packed (setup_steps l k) (setup_words l.info (k == 0))
    (opening_alike l.info.protocol (username_in l.info (k == 0)) (username_in l.info true) l.info.password (choices l.info) ∙ says)

-- so has the setup that is due
pub due_has_bytes : (l : Ledger) (k : ℕ) → setup_due l ≡ Some k → (setup_message l (setup_count l.starts)).bytes ≢ []
due_has_bytes l k due = setup_packed l (setup_count l.starts) (says_something l k due)

-- a setup is due, or isn't answered: the link isn't set up, and nothing has failed
pub record IsUndecided (x : Option SetupResult) : Type 0 where
  pub unwell : is_well x ≡ false
  pub no_error : error_in x ≡ None

-- what is repeated is so
pub repeats_open : (x : Option SetupResult) → repeats x ≡ true → IsUndecided x
repeats_open None r = cc
repeats_open (Some result.Ready) r = cc
repeats_open (Some result.RepeatWithoutUser) r = record { unwell = refl; no_error = refl }
repeats_open (Some (result.Failed e)) r = cc
repeats_open (Some result.NoMemory) r = cc

-- where a setup starts one more has started, if no request has
count_push : (ss : List Start) (s : Start) → is_of_setup s.owner ≡ true → (setup_count (ss ++ s ∷ []) ≡ setup_count ss) ⊎ ((setup_count (ss ++ s ∷ []) ≡ suc (setup_count ss)) × (setup_count ss ≡ length ss))
count_push [] s mine = inr (taken_if (is_of_setup s.owner) 1 0 mine, refl)
count_push (x ∷ ss) s mine = by_test (is_of_setup x.owner) _
    (λ t. elim (count_push ss s mine) [
      | inl same ↦ inl (ap (λ n. if is_of_setup x.owner then suc n else 0) same)
      | inr more ↦ inr (ap (λ n. if is_of_setup x.owner then suc n else 0) more.0 ∙ (taken_if (is_of_setup x.owner) (suc (suc (setup_count ss))) 0 t ∙ sym (ap suc (taken_if (is_of_setup x.owner) (suc (setup_count ss)) 0 t))), taken_if (is_of_setup x.owner) (suc (setup_count ss)) 0 t ∙ ap suc more.1)
    ])
    (λ f. inl (left_if (is_of_setup x.owner) (suc (setup_count (ss ++ s ∷ []))) 0 f ∙ sym (left_if (is_of_setup x.owner) (suc (setup_count ss)) 0 f)))

-- the link behind the start of a setup
abbrev pub pushed : Ledger → Start → Ledger
pushed l s = record l { starts = l.starts ++ s ∷ [] }

-- a message that has just started takes items
just_begun : (l : Ledger) (s : Start) (k : ℕ) → k ≡ length l.starts → length l.dealt ≤ reach l.starts l.dealt → result_of (pushed l s) k ≡ None
just_begun l s k last within =
    let ss = l.starts ++ s ∷ [] in
    let long = length_push l.starts s in
    let all : take (k + 1) ss ≡ ss = take_all (k + 1) ss (omega arith) in
    let open_is : is_full (pushed l s) k ≡ false =
    ap (λ (xs : List Start). nat_le (reach xs l.dealt) (length l.dealt)) all
    ∙ not_le_test (reach ss l.dealt) (length l.dealt) (let more = reach_more l.starts s l.dealt in let one = takes_one s.shape in omega arith) in
    left_if (is_full (pushed l s) k) _ None open_is

-- the setup that was due is answered by nothing yet, or is to be repeated still
still_open : (l : Ledger) (s : Start) (count k : ℕ) → setup_after l count ≡ Some k → count ≤ length l.starts → IsUndecided (last_result (pushed l s) count)
still_open l s zero k due i = record { unwell = refl; no_error = refl }
still_open l s (suc zero) k due i = by_test (repeats (result_of l 0)) _
    (λ t. subst IsUndecided (sym (result_begins l s 0 (omega arith))) (repeats_open (result_of l 0) t))
    (λ f. absurd (let x : None ≡ Some k = sym (left_if (repeats (result_of l 0)) (Some 1) None f) ∙ due in cc x))
still_open l s (suc (suc count)) k due i = cc due

-- so a link whose setup starts is undecided
pub begun_undecided : (l : Ledger) (s : Start) (k : ℕ) → is_of_setup s.owner ≡ true → setup_due l ≡ Some k → length l.dealt ≤ reach l.starts l.dealt → IsUndecided (setup_result (pushed l s))
begun_undecided l s k mine due few =
    let after : setup_after l (setup_count l.starts) ≡ Some k = sym (taken_if l.up (setup_after l (setup_count l.starts)) None (due_is_up l k due)) ∙ due in
    by_test (lacks_credentials l) (IsUndecided (setup_result (pushed l s)))
    (λ t. subst IsUndecided (sym (setup_unsaid (pushed l s) t)) (record { unwell = refl; no_error = refl }))
    (λ given. subst IsUndecided (sym (setup_said (pushed l s) given ∙ left_if (says_nothing (setup_steps l 0)) (Some result.Ready) (last_result (pushed l s) (setup_count (l.starts ++ s ∷ []))) (says_something l k due)))
    (elim (count_push l.starts s mine) [
      | inl same ↦ subst (λ n. IsUndecided (last_result (pushed l s) n)) (sym same) (still_open l s (setup_count l.starts) k after (count_within l.starts))
      | inr more ↦ subst (λ n. IsUndecided (last_result (pushed l s) n)) (sym more.0) (subst IsUndecided (sym (just_begun l s (setup_count l.starts) more.1 few)) (record { unwell = refl; no_error = refl }))
    ]))

-- while it is undecided, what ends a link that is up is what ends one that isn't set up
undecided_ends : (l : Ledger) → l.up ≡ true → IsUndecided (setup_result l) → ending l ≡ ending_unready l l.heard
undecided_ends l up h =
    taken_if l.up (ending_alive l) (if l.asked && not (is_over l) then ending_asked l l.heard else None) up
    ∙ (left_if (is_set_up l) (ending_up l l.heard) (ending_by (error_in (setup_result l)) (ending_unready l l.heard)) (ungreeted_is_unset l h.unwell)
    ∙ ap (λ e. ending_by e (ending_unready l l.heard)) h.no_error)

-- what doesn't end a link that isn't set up doesn't where it ended by an error else
no_end_by : (failed : Option RedisError) (other : Option Ending) → ending_by failed other ≡ None → other ≡ None
no_end_by None other e = e
no_end_by (Some x) other e = cc e

-- none stays none, whatever some would be
still_none : (b : Bool) (x y : Ending) → (if b then Some x else None) ≡ None → (if b then Some y else None) ≡ None
still_none true x y e = cc e
still_none false x y e = refl

-- what doesn't end it doesn't where a message starts
pub unready_none : (l : Ledger) (s : Start) (news : News) → ending_unready l news ≡ None → ending_unready (pushed l s) news ≡ None
unready_none l s silence e = refl
unready_none l s connected e = refl
unready_none l s (refused f) e = refl
unready_none l s overdue e = e
unready_none l s (took count) e = refl
unready_none l s (came piece) e = still_none (is_unreadable l) (by_opening (opening_error l fault.Parse)) (by_opening (opening_error (pushed l s) fault.Parse)) e
unready_none l s (failed f) e = cc e
unready_none l s (authorized c) e = refl
unready_none l s (denied text) e = e
unready_none l s deserted e = e
unready_none l s (renewed c) e = refl
unready_none l s unrenewed e = refl
unready_none l s (late k) e = refl
unready_none l s unrepeated e = refl
unready_none l s dropped e = e
unready_none l s shut e = e

-- so the start of a setup ends no link
pub setup_stays : (l : Ledger) (s : Start) (k : ℕ) → is_of_setup s.owner ≡ true → setup_due l ≡ Some k → length l.dealt ≤ reach l.starts l.dealt → ending l ≡ None → ending (pushed l s) ≡ None
setup_stays l s k mine due few none =
    let up : l.up ≡ true = due_is_up l k due in
    let unset : is_set_up l ≡ false = due_is_unset l k due in
    let before : ending_by (error_in (setup_result l)) (ending_unready l l.heard) ≡ None =
    sym (left_if (is_set_up l) (ending_up l l.heard) (ending_by (error_in (setup_result l)) (ending_unready l l.heard)) unset)
    ∙ (sym (taken_if l.up (ending_alive l) (if l.asked && not (is_over l) then ending_asked l l.heard else None) up) ∙ none) in
    undecided_ends (pushed l s) up (begun_undecided l s k mine due few)
    ∙ unready_none l s l.heard (no_end_by (error_in (setup_result l)) (ending_unready l l.heard) before)

-- each setup that started takes the items that its commands are answered with
abbrev pub SetupsOf : RedisConnectionInfo → List Start → Type 0
SetupsOf info starts = (k : ℕ) (s : Start) → k < setup_count starts → slice_get starts k ≡ Some s → s.shape ≡ setup_shape (setup info (k == 0))

-- so of a link
abbrev pub AreSetups : Ledger → Type 0
AreSetups l = SetupsOf l.info l.starts

-- the messages up to one, and that
take_push : (ss : List Start) (k : ℕ) (s : Start) → slice_get ss k ≡ Some s → take (k + 1) ss ≡ take k ss ++ s ∷ []
take_push [] k s e = cc
take_push (x ∷ ss) zero s e = cc
take_push (x ∷ ss) (suc k) s e =
    let one : suc k + 1 ≡ suc (k + 1) = omega arith in
    ap (λ n. take n (x ∷ ss)) one ∙ ap (λ (xs : List Start). x ∷ xs) (take_push ss k s e)

-- a start that a count tells is there
pub start_at : (ss : List Start) (k : ℕ) → k < length ss → (s : Start) × (slice_get ss k ≡ Some s)
start_at [] k i = absurd (omega arith)
start_at (x ∷ ss) zero i = (x, refl)
start_at (x ∷ ss) (suc k) i = start_at ss k (omega arith)

-- a message that has all its items keeps them where more come
pub full_stays : (l : Ledger) (rest : List ℕ) (more : List Data) (k : ℕ) (s : Start) → slice_get l.starts k ≡ Some s → is_full l k ≡ true
    → (is_full (record l { rest = rest; dealt = l.dealt ++ more }) k ≡ true) × (take (need_of s.shape) (drop (reached (record l { rest = rest; dealt = l.dealt ++ more }) k) (l.dealt ++ more)) ≡ take (need_of s.shape) (drop (reached l k) l.dealt))
full_stays l rest more k s stands t =
    let m : Ledger = record l { rest = rest; dealt = l.dealt ++ more } in
    let need : ℕ = need_of s.shape in
    let fits : reached l (k + 1) ≤ length l.dealt = le_from (reached l (k + 1)) (length l.dealt) t in
    let next : reached l (k + 1) ≡ reached l k + need = ap (λ (ss : List Start). reach ss l.dealt) (take_push l.starts k s stands) ∙ reach_more (take k l.starts) s l.dealt in
    let long : length (l.dealt ++ more) ≡ length l.dealt + length more = length-append l.dealt more in
    let far : reached m (k + 1) ≡ reached l (k + 1) = reached_dealt l rest more (k + 1) in (
      le_test (reached m (k + 1)) (length (l.dealt ++ more)) (omega (arith, fits, long, far)),
      ap (λ n. take need (drop n (l.dealt ++ more))) (reached_dealt l rest more k) ∙ cut_stays (reached l k) need l.dealt more (omega (arith, fits, next)),
    )

-- what a setup that has all its items came to stays where more come
pub result_same : (l : Ledger) (rest : List ℕ) (more : List Data) (k : ℕ) (s : Start) → slice_get l.starts k ≡ Some s → s.shape ≡ setup_shape (setup_steps l k) → is_full l k ≡ true → result_of (record l { rest = rest; dealt = l.dealt ++ more }) k ≡ result_of l k
result_same l rest more k s stands shaped t =
    let m : Ledger = record l { rest = rest; dealt = l.dealt ++ more } in
    let steps : List Step = setup_steps l k in
    let need : ℕ = need_of (setup_shape steps) in
    let full = full_stays l rest more k s stands t in
    let cuts : take need (drop (reached m k) (l.dealt ++ more)) ≡ take need (drop (reached l k) l.dealt) =
    subst (λ n. take n (drop (reached m k) (l.dealt ++ more)) ≡ take n (drop (reached l k) l.dealt)) (ap need_of shaped) full.1 in
    taken_if (is_full m k) (Some (judged steps (take need (drop (reached m k) (l.dealt ++ more))))) None full.0
    ∙ (ap (λ (ds : List Data). Some (judged steps ds)) cuts
    ∙ sym (taken_if (is_full l k) (Some (judged steps (take need (drop (reached l k) l.dealt)))) None t))

-- so one that is well stays so
result_more : (l : Ledger) (rest : List ℕ) (more : List Data) (k : ℕ) (s : Start) → slice_get l.starts k ≡ Some s → s.shape ≡ setup_shape (setup_steps l k) → is_well (result_of l k) ≡ true → is_well (result_of (record l { rest = rest; dealt = l.dealt ++ more }) k) ≡ true
result_more l rest more k s stands shaped well =
    let steps : List Step = setup_steps l k in
    by_test (is_full l k) (is_well (result_of (record l { rest = rest; dealt = l.dealt ++ more }) k) ≡ true)
    (λ t. ap is_well (result_same l rest more k s stands shaped t) ∙ well)
    (λ f. absurd (let x : false ≡ true = sym (ap is_well (left_if (is_full l k) (Some (judged steps (cut l k (setup_shape steps)))) None f)) ∙ well in cc x))

-- so does what the last came to
last_more : (l : Ledger) (rest : List ℕ) (more : List Data) (count : ℕ) → count ≤ setup_count l.starts → AreSetups l → is_well (last_result l count) ≡ true → is_well (last_result (record l { rest = rest; dealt = l.dealt ++ more }) count) ≡ true
last_more l rest more zero i shaped well = cc well
last_more l rest more (suc k) i shaped well =
    let s = start_at l.starts k (omega (arith, i, count_within l.starts)) in
    result_more l rest more k s.0 s.1 (shaped k s.0 (omega (arith, i)) s.1) well

-- a link that is greeted stays so where more items come
pub greeted_more : (l : Ledger) (rest : List ℕ) (more : List Data) → AreSetups l → is_greeted l ≡ true → is_greeted (record l { rest = rest; dealt = l.dealt ++ more }) ≡ true
greeted_more l rest more shaped greeted =
    let m : Ledger = record l { rest = rest; dealt = l.dealt ++ more } in
    by_test (says_nothing (setup_steps l 0)) (is_greeted m ≡ true)
    (λ t. silent_is_greeted m (greeted_is_given l greeted) t)
    (λ f. said_is_greeted m (greeted_is_given l greeted) (ap is_well (left_if (says_nothing (setup_steps l 0)) (Some result.Ready) (last_result m (setup_count l.starts)) f)
    ∙ last_more l rest more (setup_count l.starts) (omega arith) shaped (sym (ap is_well (left_if (says_nothing (setup_steps l 0)) (Some result.Ready) (last_result l (setup_count l.starts)) f)) ∙ greeted_is_said l greeted)))

-- and one that is set up does
pub set_more : (l : Ledger) (rest : List ℕ) (more : List Data) → AreSetups l → is_set_up l ≡ true → is_set_up (record l { rest = rest; dealt = l.dealt ++ more }) ≡ true
set_more l rest more shaped set =
    greeted_is_set (record l { rest = rest; dealt = l.dealt ++ more }) (greeted_more l rest more shaped (set_is_greeted l set)) (watched_grows l rest more (set_is_watched l set))

-- whatever came on it
pub set_stays : (l m : Ledger) → Came l m → AreSetups l → is_set_up l ≡ true → is_set_up m ≡ true
set_stays l m grew shaped set = holds_came (λ k. is_set_up k ≡ true) l m grew (λ rest strange told more. set_more l rest more shaped set)

-- so where bytes come
pub set_came : (l : Ledger) (piece : List ℕ) → AreSetups l → is_set_up l ≡ true → is_set_up (bytes_came l piece) ≡ true
set_came l piece shaped set = set_stays l (bytes_came l piece) (bytes_are l piece) shaped set

-- setups stay so where a request's message starts
pub setups_request : (l : Ledger) (s : Start) → is_of_setup s.owner ≡ false → AreSetups l → SetupsOf l.info (l.starts ++ s ∷ [])
setups_request l s request h k x i stands = elim (item_behind l.starts s x k stands) [
  | inl old ↦ h k x (omega (arith, i, count_more l.starts s request)) old
  | inr new ↦ absurd (omega (arith, i, count_more l.starts s request, count_within l.starts, new.0))
]

-- and where a setup starts that is due
pub setups_setup : (l : Ledger) → AreSetups l → SetupsOf l.info (l.starts ++ setup_message l (setup_count l.starts) ∷ [])
setups_setup l h k x i stands =
    let s : Start = setup_message l (setup_count l.starts) in
    elim (item_behind l.starts s x k stands) [
      | inl old ↦ h k x (elim (count_push l.starts s refl) [
        | inl same ↦ omega (arith, i, same)
        | inr more ↦ omega (arith, more.1, item_within l.starts k x old)
      ]) old
      | inr new ↦ elim (count_push l.starts s refl) [
        | inl same ↦ absurd (omega (arith, i, same, count_within l.starts, new.0))
        | inr more ↦
            let placed : k ≡ setup_count l.starts = omega (arith, new.0, more.1) in
            sym (ap (λ (y : Start). y.shape) new.1) ∙ ap (λ n. setup_shape (setup l.info (n == 0))) (sym placed)
      ]
    ]
