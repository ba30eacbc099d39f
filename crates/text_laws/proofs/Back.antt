-- The configuration, the word and the events are read back from the words of their causes.
use Rattle.std.proofs.Common.{◌≡◌, ℕ, Bool, true, false, ◌&&◌, ◌<◌, ◌^◌, ◌==◌, List, [], ◌∷◌, ◌++◌, All, Option, Some, None, map, option_map, option_and_then, decimal, codes, append_assoc, append-nil, IfSome, refl, sym, ap, ◌∙◌, if◌then◌else◌, arith}
use Rattle.std.proofs.lemmas.List.Elements.{All-head, All-tail}
use Rattle.std.specs.Prelude.{is_some}
use Rattle.std.specs.List.{list_all}
use Rattle.driver_model.specs.declared.action.Cause.TheVariants as cause
use Rattle.driver_model.specs.declared.config.Config.{Config}
use Rattle.driver_model.specs.declared.config.Config.TheVariants as variant
use Rattle.driver_model.specs.declared.config_words.AddressWords.{AddressWords}
use Rattle.driver_model.specs.declared.config_words.ConnectionWords.{ConnectionWords}
use Rattle.driver_model.specs.declared.config_words.ManagerWords.{ManagerWords}
use Rattle.driver_model.specs.declared.kind.SessionKind.{SessionKind}
use Rattle.driver_model.specs.declared.kind.SessionKind.TheVariants as kind
use Rattle.driver_model.specs.Config.{kind_of, no_manager_words}
use Rattle.driver_model.specs.declared.event.Event.{Event}
use Rattle.driver_model.specs.declared.event.EventKind.{EventKind}
use Rattle.driver_model.specs.declared.event.EventKind.TheVariants as event
use Rattle.driver_model.specs.declared.event.Submission.{Submission}
use Rattle.driver_model.specs.declared.event.Submission.TheVariants as submission
use Rattle.resp_write.specs.declared.subscription.SubscriptionAction.TheVariants as call
use Rattle.driver_model.specs.Request.{is_single_nameless, is_formless, has_no_form}
use Rattle.redis_error.specs.declared.fault_kind.FaultKind.{FaultKind}
use Rattle.redis_error.specs.declared.fault_kind.FaultKind.TheVariants as fault
use Rattle.redis_error.specs.Names.{fault_name}
use Rattle.script_text.specs.Numbers.{number, max_u32, max_u64, time_limit, fraction_by, fraction, switch}
use Rattle.script_text.specs.ConfigLine.{is_setting, connection_keys, retry_keys, values, only, allows, given, config_of, opening_of}
use Rattle.script_text.specs.Draws.{drawn}
use Rattle.script_text.specs.EventLine.{by_first, commands, calls, requests, submissions, faults, fault_among, failed, others, events, drawing, event_of}
use Rattle.script_text.specs.Words.{all_of}
use Rattle.legal_trace.specs.Legal.{event_causes}
use Rattle.trace_text.specs.Show.{url, draw_words, connect_words, response_words, buffer_words, limit_words, boundary_words, push_words, creds_words, lib_words, retries_words, min_words, max_words, fraction_word, base_words, resub_words, delay_words, manager_words, switch_words, times_words, numbers_words, setting_words, config_words, time_word, first_of, behind_first, submission_words, submission_more, event_words, event_more}
use Rattle.containers.proofs.Choices.{chosen, eq_from}
use Rattle.text_laws.specs.Fits.{FitsSubmission, FitsKind, FitsEvent, FitsLimit, FitsNumber, FitsConnection, FitsFraction, FitsManager, FitsConfig, FitsHistory, HasForm, WithForm, HaveForms}
use Rattle.text_laws.specs.History.{script_with, history_in}
use Rattle.text_laws.proofs.Bytes.{number_back, fraction_cut, decimal_is_no_none}
use Rattle.text_laws.proofs.Turns.{cause_line}

small_number : (n : ℕ) → n < 2 ^ 32 → number max_u32 (decimal n) ≡ Some n
small_number n fits = number_back max_u32 n (omega arith) (omega arith)

long_number : (n : ℕ) → n < 2 ^ 64 → number max_u64 (decimal n) ≡ Some n
long_number n fits = number_back max_u64 n (omega arith) fits

-- a list of commands that is no single nameless one
commands_back : (all : List (List (List ℕ))) → is_single_nameless all ≡ false → commands (first_of all) (behind_first all) ≡ all
commands_back [] form = refl
commands_back ([] ∷ []) form = cc
commands_back ([] ∷ command ∷ rest) form = refl
commands_back ((word ∷ words) ∷ rest) form = refl

-- what is submitted to one multiplexed connection
request_back : (s : Submission) → FitsSubmission s → is_formless s ≡ false → by_first requests (submission_words s) (submission_more s) ≡ Some s
unfolding calls
request_back (submission.Cmd args) fits form = refl
request_back (submission.NoReply args) fits form = refl
request_back (submission.Pipe all) fits form = ap (λ cs. Some (submission.Pipe cs)) (commands_back all form)
request_back (submission.Multi all) fits form = ap (λ cs. Some (submission.Multi cs)) (commands_back all form)
request_back (submission.Packed offset count all) fits form =
    ap (option_and_then (λ o. option_map (λ c. submission.Packed o c (commands (first_of all) (behind_first all))) (number max_u32 (decimal count)))) (small_number offset fits.0)
    ∙ ap (option_map (λ c. submission.Packed offset c (commands (first_of all) (behind_first all)))) (small_number count fits.1)
    ∙ ap (λ cs. Some (submission.Packed offset count cs)) (commands_back all form)
request_back (submission.Subscription call.Subscribe names) fits form = refl
request_back (submission.Subscription call.Unsubscribe names) fits form = refl
request_back (submission.Subscription call.PSubscribe names) fits form = refl
request_back (submission.Subscription call.PUnsubscribe names) fits form = refl
request_back (submission.Subscription call.SSubscribe names) fits form = cc form
request_back (submission.Subscription call.Sunsubscribe names) fits form = cc form
request_back (submission.Ping message) fits form = cc form

-- what is submitted to a session of this kind
submission_back : (kind : SessionKind) (s : Submission) → FitsSubmission s → has_no_form kind s ≡ false → by_first (submissions kind) (submission_words s) (submission_more s) ≡ Some s
unfolding calls
submission_back kind.Single s fits form = request_back s fits form
submission_back (kind.Manager lazy) s fits form = request_back s fits form
submission_back kind.PubSub (submission.Cmd args) fits form = cc form
submission_back kind.PubSub (submission.NoReply args) fits form = cc form
submission_back kind.PubSub (submission.Pipe all) fits form = cc form
submission_back kind.PubSub (submission.Multi all) fits form = cc form
submission_back kind.PubSub (submission.Packed offset count all) fits form = cc form
submission_back kind.PubSub (submission.Subscription call.Subscribe names) fits form = refl
submission_back kind.PubSub (submission.Subscription call.Unsubscribe names) fits form = refl
submission_back kind.PubSub (submission.Subscription call.PSubscribe names) fits form = refl
submission_back kind.PubSub (submission.Subscription call.PUnsubscribe names) fits form = refl
submission_back kind.PubSub (submission.Subscription call.SSubscribe names) fits form = cc form
submission_back kind.PubSub (submission.Subscription call.Sunsubscribe names) fits form = cc form
submission_back kind.PubSub (submission.Ping None) fits form = refl
submission_back kind.PubSub (submission.Ping (Some message)) fits form = refl
submission_back kind.Monitor s fits form = cc form

fault_back : (kind : FaultKind) → fault_among faults (fault_name kind) ≡ Some kind
fault_back fault.Refused = refl
fault_back fault.Reset = refl
fault_back fault.Aborted = refl
fault_back fault.NotConnected = refl
fault_back fault.BrokenPipe = refl
fault_back fault.Eof = refl
fault_back fault.TimedOut = refl
fault_back fault.Interrupted = refl
fault_back fault.Denied = refl
fault_back fault.Other = refl

failed_back : (f : ℕ → FaultKind → EventKind) (link : ℕ) (kind : FaultKind) → link < 2 ^ 32 → failed f (decimal link ∷ fault_name kind ∷ []) ≡ Some (f link kind)
failed_back f link kind fits =
    ap (option_and_then (λ l. option_map (f l) (fault_among faults (fault_name kind)))) (small_number link fits) ∙ ap (option_map (f link)) (fault_back kind)

-- a time is read back
time_back : (ms : ℕ) → ms < 2 ^ 64 → time_limit (decimal ms) ≡ Some (Some ms)
time_back ms small =
    ap (λ b. if b then Some None else option_map Some (number max_u64 (decimal ms))) (decimal_is_no_none ms) ∙ ap (option_map Some) (long_number ms small)

time_word_back : (ms : Option ℕ) → FitsNumber (2 ^ 64) ms → time_limit (time_word ms) ≡ Some ms
time_word_back None fits = refl
time_word_back (Some ms) fits = time_back ms fits

-- what happens is read back from its words
kind_back : (session : SessionKind) (kind : EventKind) → FitsKind kind → HasForm session kind → by_first (events session) (event_words kind) (event_more kind) ≡ Some kind
unfolding others
kind_back session (event.Submit s) fits form = ap (option_map event.Submit) (submission_back session s fits form)
kind_back session (event.Cancel s) fits form = ap (option_map event.Cancel) (small_number s fits)
kind_back session (event.Connected link) fits form = ap (option_map event.Connected) (small_number link fits)
kind_back session (event.Refused link kind) fits form = failed_back event.Refused link kind fits
kind_back session (event.Wrote link count) fits form =
    ap (option_and_then (λ l. option_map (event.Wrote l) (number max_u64 (decimal count)))) (small_number link fits.0)
    ∙ ap (option_map (event.Wrote link)) (long_number count fits.1)
kind_back session (event.Bytes link piece) fits form = ap (option_map (λ l. event.Bytes l piece)) (small_number link fits.0)
kind_back session (event.Ended link) fits form = ap (option_map event.Ended) (small_number link fits)
kind_back session (event.ReadFault link kind) fits form = failed_back event.ReadFault link kind fits
kind_back session (event.WriteFault link kind) fits form = failed_back event.WriteFault link kind fits
kind_back session (event.Fired timer) fits form = ap (option_map event.Fired) (small_number timer fits)
kind_back session (event.Creds source auth) fits form = ap (option_map (λ c. event.Creds c auth)) (small_number source fits.0)
kind_back session (event.CredsError source text) fits form = ap (option_map (λ c. event.CredsError c text)) (small_number source fits.0)
kind_back session (event.CredsEnd source) fits form = ap (option_map event.CredsEnd) (small_number source fits)
kind_back session (event.Timeout ms) fits form = ap (option_map event.Timeout) (time_word_back ms fits)
kind_back session event.DropStream fits form = refl
kind_back session event.Shutdown fits form = refl

-- words that begin with no draw
abbrev IsUndrawn : List (List ℕ) → Type 0
IsUndrawn words = drawn words ≡ Some (0, words)

kind_undrawn : (kind : EventKind) → IsUndrawn (event_words kind)
kind_undrawn (event.Submit s) = refl
kind_undrawn (event.Cancel s) = refl
kind_undrawn (event.Connected link) = refl
kind_undrawn (event.Refused link kind) = refl
kind_undrawn (event.Wrote link count) = refl
kind_undrawn (event.Bytes link piece) = refl
kind_undrawn (event.Ended link) = refl
kind_undrawn (event.ReadFault link kind) = refl
kind_undrawn (event.WriteFault link kind) = refl
kind_undrawn (event.Fired timer) = refl
kind_undrawn (event.Creds source auth) = refl
kind_undrawn (event.CredsError source text) = refl
kind_undrawn (event.CredsEnd source) = refl
kind_undrawn (event.Timeout ms) = refl
kind_undrawn event.DropStream = refl
kind_undrawn event.Shutdown = refl

-- a draw before them
drawn_back : (w : ℕ) (words : List (List ℕ)) → w < 2 ^ 64 → IsUndrawn words → drawn (draw_words w ++ words) ≡ Some (w, words)
drawn_back w words small none =
    chosen (λ front. drawn (front ++ words) ≡ Some (w, words)) (w == 0) [] ((64 ∷ decimal w) ∷ [])
    (λ t. none ∙ ap (λ n. Some (n, words)) (sym (eq_from w 0 t)))
    (λ f. ap (option_map (λ n. (n, words))) (long_number w small))

pub event_back : (session : SessionKind) (e : Event) → FitsEvent e → HasForm session e.kind → event_of session (cause_line (cause.Event e)) ≡ Some e
unfolding event_of
event_back session e fits form =
    ap (option_and_then (λ d. option_map (drawing d.0) (by_first (events session) d.1 (event_more e.kind)))) (drawn_back e.word (event_words e.kind) fits.word (kind_undrawn e.kind))
    ∙ ap (option_map (drawing e.word)) (kind_back session e.kind fits.kind form)

-- whether a setting is allowed, and what is read of it
record Setting (A : Type 0) : Type 0 where
  allowed : Bool
  read : Option A

-- a setting with these values
abbrev setting_of : {A : Type 0} → (List ℕ → Option A) → List (List ℕ) → Setting A
setting_of read values = record { allowed = allows read values; read = given read values }

-- a setting whose one value is read so
abbrev read_as : {A : Type 0} → Option A → Setting A
read_as found = record { allowed = is_some found; read = found }

-- as it was given
abbrev as_given : {A : Type 0} → Option A → Setting A
as_given found = record { allowed = true; read = found }

-- the values that the words of a time give, those of a switch, those of a number, and those of a fraction
abbrev times_in : Option (Option ℕ) → List (List ℕ)
times_in None = []
times_in (Some ms) = time_word ms ∷ []

abbrev switches_in : Option Bool → List (List ℕ)
switches_in None = []
switches_in (Some true) = codes "on" ∷ []
switches_in (Some false) = codes "off" ∷ []

abbrev numbers_in : Option ℕ → List (List ℕ)
numbers_in None = []
numbers_in (Some n) = decimal n ∷ []

abbrev fractions_in : Option (ℕ × ℕ) → List (List ℕ)
fractions_in None = []
fractions_in (Some base) = fraction_word base ∷ []

-- a setting with one value is what that is read as
read_once : {A : Type 0} (read : List ℕ → Option A) (value : List ℕ) (a : A) → read value ≡ Some a → setting_of read (value ∷ []) ≡ as_given (Some a)
read_once read value a is = ap read_as is

-- the settings of a time, of a number, of a fraction and of a switch, each by its words alone
abbrev time_given : Option (Option ℕ) → Setting (Option ℕ)
time_given limit = setting_of time_limit (times_in limit ++ [])

abbrev small_given : Option ℕ → Setting ℕ
small_given n = setting_of (number max_u32) (numbers_in n ++ [])

abbrev long_given : Option ℕ → Setting ℕ
long_given n = setting_of (number max_u64) (numbers_in n ++ [])

abbrev fraction_given : Option (ℕ × ℕ) → Setting (ℕ × ℕ)
fraction_given base = setting_of fraction (fractions_in base ++ [])

abbrev switch_given : Option Bool → Setting Bool
switch_given on = setting_of switch (switches_in on ++ [])

switch_back : (on : Option Bool) → switch_given on ≡ as_given on
switch_back None = refl
switch_back (Some true) = refl
switch_back (Some false) = refl

limit_back : (limit : Option (Option ℕ)) → FitsLimit limit → time_given limit ≡ as_given limit
limit_back None fits = refl
limit_back (Some ms) fits = read_once time_limit (time_word ms) ms (time_word_back ms fits)

small_back : (n : Option ℕ) → FitsNumber (2 ^ 32) n → small_given n ≡ as_given n
small_back None fits = refl
small_back (Some n) fits = read_once (number max_u32) (decimal n) n (small_number n fits)

long_back : (n : Option ℕ) → FitsNumber (2 ^ 64) n → long_given n ≡ as_given n
long_back None fits = refl
long_back (Some n) fits = read_once (number max_u64) (decimal n) n (long_number n fits)

fraction_read : (base : ℕ × ℕ) → FitsFraction base → fraction (fraction_word base) ≡ Some base
fraction_read (above, below) fits =
    ap (option_and_then fraction_by) (fraction_cut (above, below))
    ∙ ap (option_and_then (λ n. option_map (λ m. (n, m)) (number max_u32 (decimal below)))) (small_number above fits.0)
    ∙ ap (option_map (λ m. (above, m))) (small_number below fits.1)

fraction_back : (base : Option (ℕ × ℕ)) → IfSome base FitsFraction → fraction_given base ≡ as_given base
fraction_back None fits = refl
fraction_back (Some base) fits = read_once fraction (fraction_word base) base (fraction_read base fits)

-- whether words are settings of a multiplexed connection with some keys more, and the values that they give each key
record Found : Type 0 where
  are : Bool
  url : List (List ℕ)
  connect : List (List ℕ)
  response : List (List ℕ)
  limit : List (List ℕ)
  buffer : List (List ℕ)
  boundary : List (List ℕ)
  push : List (List ℕ)
  creds : List (List ℕ)
  lib : List (List ℕ)
  retries : List (List ℕ)
  min : List (List ℕ)
  max : List (List ℕ)
  base : List (List ℕ)
  resub : List (List ℕ)

module _ (own : List (List ℕ)) where
  abbrev found_in : List (List ℕ) → Found
  found_in words = record {
    are = list_all (is_setting (connection_keys ++ own)) words;
    url = values (codes "url") words;
    connect = values (codes "connect") words;
    response = values (codes "response") words;
    limit = values (codes "limit") words;
    buffer = values (codes "buffer") words;
    boundary = values (codes "boundary") words;
    push = values (codes "push") words;
    creds = values (codes "creds") words;
    lib = values (codes "lib") words;
    retries = values (codes "retries") words;
    min = values (codes "min") words;
    max = values (codes "max") words;
    base = values (codes "base") words;
    resub = values (codes "resub") words;
  }

-- what is found, with these words before
abbrev with_connect : Option (Option ℕ) → Found → Found
with_connect connect f = record f { connect = times_in connect ++ f.connect }

abbrev with_response : Option (Option ℕ) → Found → Found
with_response response f = record f { response = times_in response ++ f.response }

abbrev with_buffer : Option ℕ → Found → Found
with_buffer buffer f = record f { buffer = numbers_in buffer ++ f.buffer }

abbrev with_limit : Option ℕ → Found → Found
with_limit limit f = record f { limit = numbers_in limit ++ f.limit }

abbrev with_boundary : Option ℕ → Found → Found
with_boundary boundary f = record f { boundary = numbers_in boundary ++ f.boundary }

abbrev with_push : Option Bool → Found → Found
with_push push f = record f { push = switches_in push ++ f.push }

abbrev with_creds : Option Bool → Found → Found
with_creds creds f = record f { creds = switches_in creds ++ f.creds }

abbrev with_lib : Option Bool → Found → Found
with_lib lib f = record f { lib = switches_in lib ++ f.lib }

abbrev with_retries : Option ℕ → Found → Found
with_retries retries f = record f { retries = numbers_in retries ++ f.retries }

abbrev with_min : Option ℕ → Found → Found
with_min min f = record f { min = numbers_in min ++ f.min }

abbrev with_max : Option (Option ℕ) → Found → Found
with_max max f = record f { max = times_in max ++ f.max }

abbrev with_base : Option (ℕ × ℕ) → Found → Found
with_base base f = record f { base = fractions_in base ++ f.base }

abbrev with_resub : Option Bool → Found → Found
with_resub resub f = record f { resub = switches_in resub ++ f.resub }

-- what is found in the words of a connection, whatever keys its kind has more
module _ (own : List (List ℕ)) where
  connect_found : (connect : Option (Option ℕ)) (words : List (List ℕ)) → found_in own (connect_words connect ++ words) ≡ with_connect connect (found_in own words)
  connect_found None words = refl
  connect_found (Some None) words = refl
  connect_found (Some (Some ms)) words = refl

  response_found : (response : Option (Option ℕ)) (words : List (List ℕ)) → found_in own (response_words response ++ words) ≡ with_response response (found_in own words)
  response_found None words = refl
  response_found (Some None) words = refl
  response_found (Some (Some ms)) words = refl

  buffer_found : (buffer : Option ℕ) (words : List (List ℕ)) → found_in own (buffer_words buffer ++ words) ≡ with_buffer buffer (found_in own words)
  buffer_found None words = refl
  buffer_found (Some size) words = refl

  limit_found : (limit : Option ℕ) (words : List (List ℕ)) → found_in own (limit_words limit ++ words) ≡ with_limit limit (found_in own words)
  limit_found None words = refl
  limit_found (Some limit) words = refl

  boundary_found : (boundary : Option ℕ) (words : List (List ℕ)) → found_in own (boundary_words boundary ++ words) ≡ with_boundary boundary (found_in own words)
  boundary_found None words = refl
  boundary_found (Some bytes) words = refl

  push_found : (push : Option Bool) (words : List (List ℕ)) → found_in own (push_words push ++ words) ≡ with_push push (found_in own words)
  push_found None words = refl
  push_found (Some true) words = refl
  push_found (Some false) words = refl

  creds_found : (creds : Option Bool) (words : List (List ℕ)) → found_in own (creds_words creds ++ words) ≡ with_creds creds (found_in own words)
  creds_found None words = refl
  creds_found (Some true) words = refl
  creds_found (Some false) words = refl

  lib_found : (lib : Option Bool) (words : List (List ℕ)) → found_in own (lib_words lib ++ words) ≡ with_lib lib (found_in own words)
  lib_found None words = refl
  lib_found (Some true) words = refl
  lib_found (Some false) words = refl

  -- what is found in the words of what is on or off
  abbrev switches_of : ConnectionWords → Option Bool → Found → Found
  switches_of c lib f = with_push c.push (with_creds c.creds (with_lib lib f))

  -- those words, before others
  abbrev switch_row : ConnectionWords → Option Bool → List (List ℕ) → List (List ℕ)
  switch_row c lib behind = switch_words c ++ (lib_words lib ++ behind)

  switches_found : (c : ConnectionWords) (lib : Option Bool) (behind : List (List ℕ)) → found_in own (switch_row c lib behind) ≡ switches_of c lib (found_in own behind)
  switches_found c lib behind =
      ap (found_in own) (append_assoc (push_words c.push) (creds_words c.creds) (lib_words lib ++ behind))
      ∙ push_found c.push (creds_words c.creds ++ (lib_words lib ++ behind))
      ∙ ap (with_push c.push) (creds_found c.creds (lib_words lib ++ behind) ∙ ap (with_creds c.creds) (lib_found lib behind))

  -- what is found in the words behind the address
  abbrev found_of : ConnectionWords → Option Bool → Found → Found
  found_of c lib f = with_connect c.connect (with_response c.response (with_buffer c.buffer (with_limit c.limit (with_boundary c.boundary (switches_of c lib f)))))

  -- the words behind the address, in a row
  abbrev in_a_row : ConnectionWords → Option Bool → List (List ℕ) → List (List ℕ)
  in_a_row c lib behind = connect_words c.connect ++ (response_words c.response ++ (buffer_words c.buffer ++ (limit_words c.limit ++ (boundary_words c.boundary ++ switch_row c lib behind))))

  row_found : (c : ConnectionWords) (lib : Option Bool) (behind : List (List ℕ)) → found_in own (in_a_row c lib behind) ≡ found_of c lib (found_in own behind)
  row_found c lib behind =
      let switches = switch_row c lib behind in
      let bound = boundary_words c.boundary ++ switches in
      let permits = limit_words c.limit ++ bound in
      let numbers = buffer_words c.buffer ++ permits in
      connect_found c.connect (response_words c.response ++ numbers)
      ∙ ap (with_connect c.connect)
      (response_found c.response numbers
      ∙ ap (with_response c.response)
      (buffer_found c.buffer permits
      ∙ ap (with_buffer c.buffer)
      (limit_found c.limit bound
      ∙ ap (with_limit c.limit)
      (boundary_found c.boundary switches
      ∙ ap (with_boundary c.boundary) (switches_found c lib behind)))))

  later_row : (c : ConnectionWords) (lib : Option Bool) (behind : List (List ℕ)) → setting_words c ++ lib_words lib ++ behind ≡ in_a_row c lib behind
  later_row c lib behind =
      let switches = switch_row c lib behind in
      append_assoc (setting_words c) (lib_words lib) behind
      ∙ append_assoc (times_words c ++ numbers_words c) (switch_words c) (lib_words lib ++ behind)
      ∙ append_assoc (times_words c) (numbers_words c) switches
      ∙ append_assoc (connect_words c.connect) (response_words c.response) (numbers_words c ++ switches)
      ∙ ap (λ t. connect_words c.connect ++ (response_words c.response ++ t))
      (append_assoc (buffer_words c.buffer ++ limit_words c.limit) (boundary_words c.boundary) switches
      ∙ append_assoc (buffer_words c.buffer) (limit_words c.limit) (boundary_words c.boundary ++ switches))

  -- what is found in the words of a connection before others
  connection_found : (c : ConnectionWords) (lib : Option Bool) (behind : List (List ℕ)) → found_in own (setting_words c ++ lib_words lib ++ behind) ≡ found_of c lib (found_in own behind)
  connection_found c lib behind = ap (found_in own) (later_row c lib behind) ∙ row_found c lib behind

-- what is found in the words of how a connection comes back
retries_found : (retries : Option ℕ) (words : List (List ℕ)) → found_in retry_keys (retries_words retries ++ words) ≡ with_retries retries (found_in retry_keys words)
retries_found None words = refl
retries_found (Some count) words = refl

min_found : (min : Option ℕ) (words : List (List ℕ)) → found_in retry_keys (min_words min ++ words) ≡ with_min min (found_in retry_keys words)
min_found None words = refl
min_found (Some ms) words = refl

max_found : (max : Option (Option ℕ)) (words : List (List ℕ)) → found_in retry_keys (max_words max ++ words) ≡ with_max max (found_in retry_keys words)
max_found None words = refl
max_found (Some None) words = refl
max_found (Some (Some ms)) words = refl

base_found : (base : Option (ℕ × ℕ)) (words : List (List ℕ)) → found_in retry_keys (base_words base ++ words) ≡ with_base base (found_in retry_keys words)
base_found None words = refl
base_found (Some base) words = refl

-- nothing is behind it
resub_found : (resub : Option Bool) → found_in retry_keys (resub_words resub) ≡ with_resub resub (found_in retry_keys [])
resub_found None = refl
resub_found (Some true) = refl
resub_found (Some false) = refl

abbrev found_again : ManagerWords → Found → Found
found_again m f = with_retries m.retries (with_min m.min (with_max m.max (with_base m.base (with_resub m.resub f))))

manager_found : (m : ManagerWords) → found_in retry_keys (manager_words m) ≡ found_again m (found_in retry_keys [])
manager_found m =
    let bases = base_words m.base ++ resub_words m.resub in
    let maxima = max_words m.max ++ bases in
    ap (found_in retry_keys)
    (append_assoc (retries_words m.retries) (delay_words m) (resub_words m.resub)
    ∙ ap (λ t. retries_words m.retries ++ t)
    (append_assoc (min_words m.min ++ max_words m.max) (base_words m.base) (resub_words m.resub)
    ∙ append_assoc (min_words m.min) (max_words m.max) bases))
    ∙ retries_found m.retries (min_words m.min ++ maxima)
    ∙ ap (with_retries m.retries)
    (min_found m.min maxima
    ∙ ap (with_min m.min)
    (max_found m.max bases
    ∙ ap (with_max m.max) (base_found m.base (resub_words m.resub) ∙ ap (with_base m.base) (resub_found m.resub))))

-- what is read of all settings but the URL
record Readings : Type 0 where
  connect : Setting (Option ℕ)
  response : Setting (Option ℕ)
  limit : Setting ℕ
  buffer : Setting ℕ
  boundary : Setting ℕ
  push : Setting Bool
  creds : Setting Bool
  lib : Setting Bool
  retries : Setting ℕ
  min : Setting ℕ
  max : Setting (Option ℕ)
  base : Setting (ℕ × ℕ)
  resub : Setting Bool

-- each of them is allowed
abbrev all_allowed : Readings → Bool
all_allowed r =
    (((r.connect.allowed && r.response.allowed) && (r.limit.allowed && (r.buffer.allowed && r.boundary.allowed))) && (r.push.allowed && (r.creds.allowed && r.lib.allowed)))
    && ((r.min.allowed && (r.max.allowed && r.base.allowed)) && (r.retries.allowed && r.resub.allowed))

-- how a multiplexed connection behaves by them, and how it comes back
abbrev connection_by : Readings → ConnectionWords
connection_by r = record {
  connect = r.connect.read;
  response = r.response.read;
  limit = r.limit.read;
  buffer = r.buffer.read;
  boundary = r.boundary.read;
  push = r.push.read;
  creds = r.creds.read;
}

abbrev manager_by : Readings → ManagerWords
manager_by r = record { retries = r.retries.read; min = r.min.read; max = r.max.read; base = r.base.read; resub = r.resub.read }

-- they are read of what is found so
abbrev readings_of : Found → Readings
readings_of f = record {
  connect = setting_of time_limit f.connect;
  response = setting_of time_limit f.response;
  limit = setting_of (number max_u32) f.limit;
  buffer = setting_of (number max_u32) f.buffer;
  boundary = setting_of (number max_u64) f.boundary;
  push = setting_of switch f.push;
  creds = setting_of switch f.creds;
  lib = setting_of switch f.lib;
  retries = setting_of (number max_u32) f.retries;
  min = setting_of (number max_u64) f.min;
  max = setting_of time_limit f.max;
  base = setting_of fraction f.base;
  resub = setting_of switch f.resub;
}

-- a configuration is made of a URL and of what is read of the other settings
abbrev Maker : Type 0
Maker = List ℕ → Readings → Config

abbrev single_by : Maker
single_by text r = variant.Single (record { url = text; lib = r.lib.read }) (connection_by r)

abbrev managed_by : Bool → Maker
managed_by lazy text r = variant.Manager lazy (record { url = text; lib = r.lib.read }) (connection_by r) (manager_by r)

-- the configuration of this URL by what is read
abbrev config_by : Maker → List ℕ → Readings → Option Config
config_by make address r = if all_allowed r then Some (make address r) else None

-- and by what is found in the words behind the URL
abbrev config_found : Maker → List ℕ → Found → Option Config
config_found make address f = if f.are && all_allowed (readings_of f) then option_map (λ text. make text (readings_of f)) (only (address ∷ f.url)) else None

-- what is read of these words of a connection, and of these of how it comes back
abbrev given_readings : ConnectionWords → Option Bool → ManagerWords → Readings
given_readings c lib m = record {
  connect = time_given c.connect;
  response = time_given c.response;
  limit = small_given c.limit;
  buffer = small_given c.buffer;
  boundary = long_given c.boundary;
  push = switch_given c.push;
  creds = switch_given c.creds;
  lib = switch_given lib;
  retries = small_given m.retries;
  min = long_given m.min;
  max = time_given m.max;
  base = fraction_given m.base;
  resub = switch_given m.resub;
}

-- the same, as they were given
abbrev plain_readings : ConnectionWords → Option Bool → ManagerWords → Readings
plain_readings c lib m = record {
  connect = as_given c.connect;
  response = as_given c.response;
  limit = as_given c.limit;
  buffer = as_given c.buffer;
  boundary = as_given c.boundary;
  push = as_given c.push;
  creds = as_given c.creds;
  lib = as_given lib;
  retries = as_given m.retries;
  min = as_given m.min;
  max = as_given m.max;
  base = as_given m.base;
  resub = as_given m.resub;
}

readings_back : (c : ConnectionWords) (lib : Option Bool) (m : ManagerWords) → FitsConnection c → FitsManager m → given_readings c lib m ≡ plain_readings c lib m
readings_back c lib m fits more = λ i. record {
  connect = limit_back c.connect fits.connect i;
  response = limit_back c.response fits.response i;
  limit = small_back c.limit fits.limit i;
  buffer = small_back c.buffer fits.buffer i;
  boundary = long_back c.boundary fits.boundary i;
  push = switch_back c.push i;
  creds = switch_back c.creds i;
  lib = switch_back lib i;
  retries = small_back m.retries more.retries i;
  min = long_back m.min more.min i;
  max = limit_back m.max more.max i;
  base = fraction_back m.base more.base i;
  resub = switch_back m.resub i;
}

-- what is read of the line of a configuration
abbrev ReadBack : Config → Type 0
ReadBack c = config_of (record { words = config_words c; more = [] }) ≡ Some c

-- one multiplexed connection
connection_back : (at : AddressWords) (c : ConnectionWords) → FitsConnection c → ReadBack (variant.Single at c)
unfolding url config_of
connection_back at c fits =
    ap (config_found single_by at.url) (ap (found_in []) (sym (append-nil (setting_words c ++ lib_words at.lib))) ∙ connection_found [] c at.lib [])
    ∙ ap (config_by single_by at.url) (readings_back c at.lib no_manager_words fits (record { retries = tt; min = tt; max = tt; base = tt }))

-- what is found in the words behind the address of one that comes back
managed_found : (c : ConnectionWords) (lib : Option Bool) (m : ManagerWords) → found_in retry_keys (setting_words c ++ lib_words lib ++ manager_words m) ≡ found_of retry_keys c lib (found_again m (found_in retry_keys []))
managed_found c lib m = connection_found retry_keys c lib (manager_words m) ∙ ap (found_of retry_keys c lib) (manager_found m)

-- one that comes back
manager_back : (lazy : Bool) (at : AddressWords) (c : ConnectionWords) (m : ManagerWords) → FitsConnection c → FitsManager m → ReadBack (variant.Manager lazy at c m)
unfolding url config_of
manager_back true at c m fits more =
    ap (config_found (managed_by true) at.url) (managed_found c at.lib m) ∙ ap (config_by (managed_by true) at.url) (readings_back c at.lib m fits more)
manager_back false at c m fits more =
    ap (config_found (managed_by false) at.url) (managed_found c at.lib m) ∙ ap (config_by (managed_by false) at.url) (readings_back c at.lib m fits more)

-- a link of publish/subscribe
pubsub_back : (address : List ℕ) (lib : Option Bool) → ReadBack (variant.PubSub (record { url = address; lib = lib }))
unfolding url config_of
pubsub_back address None = refl
pubsub_back address (Some true) = refl
pubsub_back address (Some false) = refl

-- and one of monitor mode
monitor_back : (address : List ℕ) (lib : Option Bool) → ReadBack (variant.Monitor (record { url = address; lib = lib }))
unfolding url config_of
monitor_back address None = refl
monitor_back address (Some true) = refl
monitor_back address (Some false) = refl

config_back : (c : Config) → FitsConfig c → ReadBack c
config_back (variant.Single address connection) fits = connection_back address connection fits.1
config_back (variant.Manager lazy address connection manager) fits = manager_back lazy address connection manager fits.1 fits.2
config_back (variant.PubSub address) fits = pubsub_back address.url address.lib
config_back (variant.Monitor address) fits = monitor_back address.url address.lib

config_undrawn : (config : Config) → IsUndrawn (config_words config)
config_undrawn config = refl

pub opening_back : (config : Config) (word : ℕ) → FitsConfig config → word < 2 ^ 64 → opening_of (cause_line (cause.Opening config word)) ≡ Some (config, word)
opening_back config word fits small =
    ap (option_and_then (λ d. option_map (λ c. (c, d.0)) (config_of (record { words = d.1; more = [] })))) (drawn_back word (config_words config) small (config_undrawn config))
    ∙ ap (option_map (λ c. (c, word))) (config_back config fits)

events_back : (session : SessionKind) (events : List Event) → All FitsEvent events → All (WithForm session) events → all_of (map (event_of session) (map cause_line (event_causes events))) ≡ Some events
events_back session [] fits forms = refl
events_back session (e ∷ es) fits forms =
    ap (λ o. all_of (o ∷ map (event_of session) (map cause_line (event_causes es)))) (event_back session e (All-head FitsEvent e es fits) (All-head (WithForm session) e es forms))
    ∙ ap (option_map (λ xs. e ∷ xs)) (events_back session es (All-tail FitsEvent e es fits) (All-tail (WithForm session) e es forms))

-- a history is read back from what the text says of its causes
pub causes_back : (config : Config) (word : ℕ) (events : List Event) → FitsHistory config word events → HaveForms config events
    → history_in (map cause_line (cause.Opening config word ∷ event_causes events)) ≡ Some (record { config = config; word = word; events = events })
causes_back config word events fits forms =
    ap (option_and_then (λ opening. option_map (script_with opening) (all_of (map (event_of (kind_of opening.0)) (map cause_line (event_causes events)))))) (opening_back config word fits.config fits.word)
    ∙ ap (option_map (script_with (config, word))) (events_back (kind_of config) events fits.events forms)
