-- The words of a cause are bytes, and its numbers are read back.
use Rattle.std.proofs.Common.{◌≡◌, ℕ, zero, suc, ◌+◌, ◌/◌, ◌%◌, ◌^◌, ◌<◌, ◌≤◌, Bool, true, false, not, ◌&&◌, ◌||◌, ◌==◌, nat_lt, nat_le, List, [], ◌∷◌, ◌++◌, length, get_or, All, Option, Some, None, IfSome, option_map, codes, decimal, bytes_eq, refl, ap, ◌∙◌, if◌then◌else◌, arith}
use Rattle.std.specs.Fmt.{digits, digits_onto, digit_glyph}
use Rattle.std.specs.List.{list_all}
use Rattle.std.specs.Str.{all_ascii_digits}
use Rattle.std.specs.Str.Parse.{digits_value}
use Rattle.std.proofs.lemmas.Bool.{and_parts}
use Rattle.std.proofs.lemmas.Bool.Decides.{nat_tests}
use Rattle.std.proofs.lemmas.Fmt.{decimal_nonempty, first_decimal, digits_decimal, digits_value-decimal}
use Rattle.std.proofs.lemmas.Str.Parse.{numerals_by_value, tells_all_ascii_digits}
use Rattle.std.proofs.lemmas.List.Elements.{All-nil, All-cons, All-head, All-tail, All-append, All-weaker}
use Rattle.driver_model.specs.declared.action.Cause.{Cause}
use Rattle.driver_model.specs.declared.action.Cause.TheVariants.{Opening, Event}
use Rattle.driver_model.specs.declared.config.Config.{Config}
use Rattle.driver_model.specs.declared.config.Config.TheVariants as variant
use Rattle.driver_model.specs.declared.config_words.AddressWords.{AddressWords}
use Rattle.driver_model.specs.declared.config_words.ConnectionWords.{ConnectionWords}
use Rattle.driver_model.specs.declared.config_words.ManagerWords.{ManagerWords}
use Rattle.driver_model.specs.declared.kind.SessionKind.{SessionKind}
use Rattle.driver_model.specs.declared.kind.SessionKind.TheVariants as kind
use Rattle.driver_model.specs.Request.{listed}
use Rattle.driver_model.specs.declared.event.EventKind.{EventKind}
use Rattle.driver_model.specs.declared.event.EventKind.TheVariants as event
use Rattle.driver_model.specs.declared.event.Submission.{Submission}
use Rattle.driver_model.specs.declared.event.Submission.TheVariants as submission
use Rattle.resp_write.specs.declared.subscription.SubscriptionAction.{SubscriptionAction}
use Rattle.resp_write.specs.declared.subscription.SubscriptionAction.TheVariants as call
use Rattle.redis_error.specs.declared.fault_kind.FaultKind.{FaultKind}
use Rattle.redis_error.specs.declared.fault_kind.FaultKind.TheVariants as fault
use Rattle.redis_error.specs.Names.{fault_name}
use Rattle.script_text.specs.Numbers.{is_decimal, number}
use Rattle.script_text.specs.Words.{cut_at}
use Rattle.trace_text.specs.Show.{url, connect_words, response_words, buffer_words, limit_words, boundary_words, lib_words, retries_words, min_words, max_words, fraction_word, base_words, resub_words, delay_words, manager_words, times_words, numbers_words, setting_words, session_words, time_word, draw_words, kind_word, config_words, first_of, behind_first, call_word, submission_words, submission_more, event_words, event_more, cause_words, cause_more, push_words, creds_words, switch_words}
use Rattle.containers.proofs.Choices.{chosen, lt_from, not_lt_from, le_test, ne_test}
use Rattle.text_laws.specs.Fits.{IsByte, AreBytes, FitsSubmission, FitsKind, FitsEvent, FitsAddress, FitsConfig}

-- a text whose bytes were looked at one by one
pub looked : (bs : List ℕ) → list_all (λ b. nat_lt b 256) bs ≡ true → AreBytes bs
looked [] e = All-nil IsByte
looked (b ∷ bs) e = let here = and_parts (nat_lt b 256) (list_all (λ x. nat_lt x 256) bs) e in All-cons IsByte b bs (lt_from b 256 here.0) (looked bs here.1)

-- a digit of a decimal number
abbrev IsDigit : ℕ → Type 0
IsDigit b = (48 ≤ b) × (b ≤ 57)

glyph_is_digit : (n : ℕ) → IsDigit (digit_glyph false (n % 10))
glyph_is_digit n = chosen IsDigit (nat_lt (n % 10) 10) (48 + n % 10) (87 + n % 10) (λ t. (omega arith, omega arith)) (λ f. let great = not_lt_from (n % 10) 10 f in absurd (omega arith))

onto_digits : (k n : ℕ) (acc : List ℕ) → All IsDigit acc → All IsDigit (digits_onto k 10 false n acc)
onto_digits zero n acc before = before
onto_digits (suc k) n acc before =
    let more = All-cons IsDigit (digit_glyph false (n % 10)) acc (glyph_is_digit n) before in
    chosen (All IsDigit) (n / 10 == 0) (digit_glyph false (n % 10) ∷ acc) (digits_onto k 10 false (n / 10) (digit_glyph false (n % 10) ∷ acc))
    (λ t. more) (λ f. onto_digits k (n / 10) (digit_glyph false (n % 10) ∷ acc) more)

-- what is written of a number, however great
decimal_digits : (n : ℕ) → All IsDigit (decimal n)
unfolding digits
decimal_digits n = onto_digits 64 n [] (All-nil IsDigit)

pub decimal_bytes : (n : ℕ) → AreBytes (decimal n)
decimal_bytes n = All-weaker IsDigit IsByte (λ b d. omega (arith, d.1)) (decimal n) (decimal_digits n)

no_none : (ds : List ℕ) → All IsDigit ds → bytes_eq ds (codes "none") ≡ false
no_none [] each = refl
no_none (d ∷ ds) each = ap (λ b. b && bytes_eq ds (codes "one")) (ne_test d 110 (λ e. let first = All-head IsDigit d ds each in omega (arith, first.1, e)))

-- digits before a `/` and what is behind it, cut there
digits_cut : (ds rest : List ℕ) → All IsDigit ds → cut_at 47 (ds ++ 47 ∷ rest) ≡ Some (ds, rest)
digits_cut [] rest each = refl
digits_cut (d ∷ ds) rest each =
    let first = All-head IsDigit d ds each in
    ap (λ b. if b then Some ([], ds ++ 47 ∷ rest) else option_map (λ c. (d ∷ c.0, c.1)) (cut_at 47 (ds ++ 47 ∷ rest))) (ne_test d 47 (λ e. omega (arith, first.0, e)))
    ∙ ap (option_map (λ c. (d ∷ c.0, c.1))) (digits_cut ds rest (All-tail IsDigit d ds each))

-- the parts of a fraction
pub fraction_cut : (base : ℕ × ℕ) → cut_at 47 (fraction_word base) ≡ Some (decimal base.0, decimal base.1)
fraction_cut base = digits_cut (decimal base.0) (decimal base.1) (decimal_digits base.0)

-- a number is never the word `none`
pub decimal_is_no_none : (n : ℕ) → bytes_eq (decimal n) (codes "none") ≡ false
decimal_is_no_none n = no_none (decimal n) (decimal_digits n)

-- a number is read back
decimal_by : (ds : List ℕ) → 0 < length ds → all_ascii_digits ds ≡ true → 48 < get_or ds 0 0 → is_decimal ds ≡ true
decimal_by [] some digits lead = absurd (omega arith)
decimal_by (d ∷ ds) some digits lead = ap (λ b. b && (not (d == 48) || length ds == 0)) digits ∙ other
  where
    other : (not (d == 48) || length ds == 0) ≡ true
    other = grind (arith, nat_tests, lead)

all_digits : (n : ℕ) → n < 2 ^ 64 → all_ascii_digits (decimal n) ≡ true
all_digits n small = digits_decimal (numerals_by_value (λ ds. all_ascii_digits ds ≡ true) tells_all_ascii_digits) n small

zero_decimal : is_decimal (decimal 0) ≡ true
unfolding digits
zero_decimal = refl

is_decimal_decimal : (n : ℕ) → n < 2 ^ 64 → is_decimal (decimal n) ≡ true
is_decimal_decimal zero small = zero_decimal
is_decimal_decimal (suc n) small = decimal_by (decimal (suc n)) (decimal_nonempty (suc n) small) (all_digits (suc n) small) (first_decimal (suc n) (omega arith) small)

pub number_back : (most n : ℕ) → n ≤ most → n < 2 ^ 64 → number most (decimal n) ≡ Some n
number_back most n fits small =
    let value : digits_value 10 (decimal n) ≡ n = digits_value-decimal (numerals_by_value (λ ds. all_ascii_digits ds ≡ true) tells_all_ascii_digits) n small in
    ap (λ (m : ℕ). if is_decimal (decimal n) && nat_le m most then Some m else None) value
    ∙ ap (λ b. if b && nat_le n most then Some n else None) (is_decimal_decimal n small) ∙ ap (λ b. if b then Some n else None) (le_test n most fits)

-- the words
pub word_and : (word : List ℕ) (words : List (List ℕ)) → AreBytes word → All AreBytes words → All AreBytes (word ∷ words)
word_and word words = All-cons AreBytes word words

pub no_words : All AreBytes []
no_words = All-nil AreBytes

one_number : (word : List ℕ) (n : ℕ) → AreBytes word → All AreBytes (word ∷ decimal n ∷ [])
one_number word n small = word_and word (decimal n ∷ []) small (word_and (decimal n) [] (decimal_bytes n) no_words)

fault_bytes : (kind : FaultKind) → AreBytes (fault_name kind)
fault_bytes fault.Refused = looked (codes "refused") refl
fault_bytes fault.Reset = looked (codes "reset") refl
fault_bytes fault.Aborted = looked (codes "aborted") refl
fault_bytes fault.NotConnected = looked (codes "not-connected") refl
fault_bytes fault.BrokenPipe = looked (codes "broken-pipe") refl
fault_bytes fault.Eof = looked (codes "eof") refl
fault_bytes fault.TimedOut = looked (codes "timed-out") refl
fault_bytes fault.Interrupted = looked (codes "interrupted") refl
fault_bytes fault.Denied = looked (codes "denied") refl
fault_bytes fault.Other = looked (codes "other") refl

failed_bytes : (word : List ℕ) (link : ℕ) (kind : FaultKind) → AreBytes word → All AreBytes (word ∷ decimal link ∷ fault_name kind ∷ [])
failed_bytes word link kind small =
    word_and word (decimal link ∷ fault_name kind ∷ []) small (word_and (decimal link) (fault_name kind ∷ []) (decimal_bytes link) (word_and (fault_name kind) [] (fault_bytes kind) no_words))

first_bytes : (commands : List (List (List ℕ))) → All (All AreBytes) commands → All AreBytes (first_of commands)
first_bytes [] small = no_words
first_bytes (command ∷ commands) small = All-head (All AreBytes) command commands small

behind_bytes : (commands : List (List (List ℕ))) → All (All AreBytes) commands → All (All AreBytes) (behind_first commands)
behind_bytes [] small = All-nil (All AreBytes)
behind_bytes (command ∷ commands) small = All-tail (All AreBytes) command commands small

call_bytes : (what : SubscriptionAction) → AreBytes (call_word what)
call_bytes call.Subscribe = looked (codes "subscribe") refl
call_bytes call.Unsubscribe = looked (codes "unsubscribe") refl
call_bytes call.PSubscribe = looked (codes "psubscribe") refl
call_bytes call.PUnsubscribe = looked (codes "punsubscribe") refl
call_bytes call.SSubscribe = looked (codes "ssubscribe") refl
call_bytes call.Sunsubscribe = looked (codes "sunsubscribe") refl

message_bytes : (message : Option (List ℕ)) → IfSome message AreBytes → All AreBytes (listed message)
message_bytes None fits = no_words
message_bytes (Some message) fits = word_and message [] fits no_words

submission_bytes : (s : Submission) → FitsSubmission s → All AreBytes (submission_words s)
submission_bytes (submission.Cmd args) fits = word_and (codes "cmd") args (looked (codes "cmd") refl) fits
submission_bytes (submission.NoReply args) fits = word_and (codes "noreply") args (looked (codes "noreply") refl) fits
submission_bytes (submission.Pipe commands) fits = word_and (codes "pipe") (first_of commands) (looked (codes "pipe") refl) (first_bytes commands fits)
submission_bytes (submission.Multi commands) fits = word_and (codes "multi") (first_of commands) (looked (codes "multi") refl) (first_bytes commands fits)
submission_bytes (submission.Packed offset count commands) fits =
    word_and (codes "packed") (decimal offset ∷ decimal count ∷ first_of commands) (looked (codes "packed") refl)
    (word_and (decimal offset) (decimal count ∷ first_of commands) (decimal_bytes offset) (word_and (decimal count) (first_of commands) (decimal_bytes count) (first_bytes commands fits.2)))
submission_bytes (submission.Subscription what names) fits = word_and (call_word what) names (call_bytes what) fits
submission_bytes (submission.Ping message) fits = word_and (codes "ping") (listed message) (looked (codes "ping") refl) (message_bytes message fits)

submission_more_bytes : (s : Submission) → FitsSubmission s → All (All AreBytes) (submission_more s)
submission_more_bytes (submission.Cmd args) fits = All-nil (All AreBytes)
submission_more_bytes (submission.NoReply args) fits = All-nil (All AreBytes)
submission_more_bytes (submission.Pipe commands) fits = behind_bytes commands fits
submission_more_bytes (submission.Multi commands) fits = behind_bytes commands fits
submission_more_bytes (submission.Packed offset count commands) fits = behind_bytes commands fits.2
submission_more_bytes (submission.Subscription what names) fits = All-nil (All AreBytes)
submission_more_bytes (submission.Ping message) fits = All-nil (All AreBytes)

time_bytes : (ms : Option ℕ) → AreBytes (time_word ms)
time_bytes None = looked (codes "none") refl
time_bytes (Some ms) = decimal_bytes ms

kind_bytes : (kind : EventKind) → FitsKind kind → All AreBytes (event_words kind)
kind_bytes (event.Submit s) fits = word_and (codes "submit") (submission_words s) (looked (codes "submit") refl) (submission_bytes s fits)
kind_bytes (event.Cancel s) fits = one_number (codes "cancel") s (looked (codes "cancel") refl)
kind_bytes (event.Connected link) fits = one_number (codes "connected") link (looked (codes "connected") refl)
kind_bytes (event.Refused link kind) fits = failed_bytes (codes "refused") link kind (looked (codes "refused") refl)
kind_bytes (event.Wrote link count) fits =
    word_and (codes "wrote") (decimal link ∷ decimal count ∷ []) (looked (codes "wrote") refl) (one_number (decimal link) count (decimal_bytes link))
kind_bytes (event.Bytes link piece) fits =
    word_and (codes "bytes") (decimal link ∷ piece ∷ []) (looked (codes "bytes") refl) (word_and (decimal link) (piece ∷ []) (decimal_bytes link) (word_and piece [] fits.1 no_words))
kind_bytes (event.Ended link) fits = one_number (codes "ended") link (looked (codes "ended") refl)
kind_bytes (event.ReadFault link kind) fits = failed_bytes (codes "read-fault") link kind (looked (codes "read-fault") refl)
kind_bytes (event.WriteFault link kind) fits = failed_bytes (codes "write-fault") link kind (looked (codes "write-fault") refl)
kind_bytes (event.Fired timer) fits = one_number (codes "fired") timer (looked (codes "fired") refl)
kind_bytes (event.Creds source auth) fits =
    word_and (codes "creds") (decimal source ∷ auth.username ∷ auth.password ∷ []) (looked (codes "creds") refl)
    (word_and (decimal source) (auth.username ∷ auth.password ∷ []) (decimal_bytes source) (word_and auth.username (auth.password ∷ []) fits.1 (word_and auth.password [] fits.2 no_words)))
kind_bytes (event.CredsError source text) fits =
    word_and (codes "creds-err") (decimal source ∷ text ∷ []) (looked (codes "creds-err") refl) (word_and (decimal source) (text ∷ []) (decimal_bytes source) (word_and text [] fits.1 no_words))
kind_bytes (event.CredsEnd source) fits = one_number (codes "creds-end") source (looked (codes "creds-end") refl)
kind_bytes (event.Timeout ms) fits = word_and (codes "timeout") (time_word ms ∷ []) (looked (codes "timeout") refl) (word_and (time_word ms) [] (time_bytes ms) no_words)
kind_bytes event.DropStream fits = word_and (codes "drop-stream") [] (looked (codes "drop-stream") refl) no_words
kind_bytes event.Shutdown fits = word_and (codes "shutdown") [] (looked (codes "shutdown") refl) no_words

kind_more_bytes : (kind : EventKind) → FitsKind kind → All (All AreBytes) (event_more kind)
kind_more_bytes (event.Submit s) fits = submission_more_bytes s fits
kind_more_bytes (event.Cancel s) fits = All-nil (All AreBytes)
kind_more_bytes (event.Connected link) fits = All-nil (All AreBytes)
kind_more_bytes (event.Refused link kind) fits = All-nil (All AreBytes)
kind_more_bytes (event.Wrote link count) fits = All-nil (All AreBytes)
kind_more_bytes (event.Bytes link piece) fits = All-nil (All AreBytes)
kind_more_bytes (event.Ended link) fits = All-nil (All AreBytes)
kind_more_bytes (event.ReadFault link kind) fits = All-nil (All AreBytes)
kind_more_bytes (event.WriteFault link kind) fits = All-nil (All AreBytes)
kind_more_bytes (event.Fired timer) fits = All-nil (All AreBytes)
kind_more_bytes (event.Creds source auth) fits = All-nil (All AreBytes)
kind_more_bytes (event.CredsError source text) fits = All-nil (All AreBytes)
kind_more_bytes (event.CredsEnd source) fits = All-nil (All AreBytes)
kind_more_bytes (event.Timeout ms) fits = All-nil (All AreBytes)
kind_more_bytes event.DropStream fits = All-nil (All AreBytes)
kind_more_bytes event.Shutdown fits = All-nil (All AreBytes)

draw_bytes : (w : ℕ) → All AreBytes (draw_words w)
draw_bytes w = chosen (All AreBytes) (w == 0) [] ((64 ∷ decimal w) ∷ []) (λ t. no_words) (λ f. word_and (64 ∷ decimal w) [] (All-cons IsByte 64 (decimal w) (omega arith) (decimal_bytes w)) no_words)

url_bytes : (address : AddressWords) → FitsAddress address → AreBytes (url address)
unfolding url
url_bytes address fits = All-append IsByte (codes "url=") address.url (looked (codes "url=") refl) fits

-- a setting that is given
setting_bytes : (key value : List ℕ) → AreBytes key → AreBytes value → All AreBytes ((key ++ value) ∷ [])
setting_bytes key value first second = word_and (key ++ value) [] (All-append IsByte key value first second) no_words

connect_bytes : (connect : Option (Option ℕ)) → All AreBytes (connect_words connect)
connect_bytes None = no_words
connect_bytes (Some None) = word_and (codes "connect=none") [] (looked (codes "connect=none") refl) no_words
connect_bytes (Some (Some ms)) = setting_bytes (codes "connect=") (decimal ms) (looked (codes "connect=") refl) (decimal_bytes ms)

response_bytes : (response : Option (Option ℕ)) → All AreBytes (response_words response)
response_bytes None = no_words
response_bytes (Some None) = word_and (codes "response=none") [] (looked (codes "response=none") refl) no_words
response_bytes (Some (Some ms)) = setting_bytes (codes "response=") (decimal ms) (looked (codes "response=") refl) (decimal_bytes ms)

buffer_bytes : (buffer : Option ℕ) → All AreBytes (buffer_words buffer)
buffer_bytes None = no_words
buffer_bytes (Some size) = setting_bytes (codes "buffer=") (decimal size) (looked (codes "buffer=") refl) (decimal_bytes size)

limit_bytes : (limit : Option ℕ) → All AreBytes (limit_words limit)
limit_bytes None = no_words
limit_bytes (Some limit) = setting_bytes (codes "limit=") (decimal limit) (looked (codes "limit=") refl) (decimal_bytes limit)

boundary_bytes : (boundary : Option ℕ) → All AreBytes (boundary_words boundary)
boundary_bytes None = no_words
boundary_bytes (Some bytes) = setting_bytes (codes "boundary=") (decimal bytes) (looked (codes "boundary=") refl) (decimal_bytes bytes)

push_bytes : (push : Option Bool) → All AreBytes (push_words push)
push_bytes None = no_words
push_bytes (Some true) = word_and (codes "push=on") [] (looked (codes "push=on") refl) no_words
push_bytes (Some false) = word_and (codes "push=off") [] (looked (codes "push=off") refl) no_words

creds_bytes : (creds : Option Bool) → All AreBytes (creds_words creds)
creds_bytes None = no_words
creds_bytes (Some true) = word_and (codes "creds=on") [] (looked (codes "creds=on") refl) no_words
creds_bytes (Some false) = word_and (codes "creds=off") [] (looked (codes "creds=off") refl) no_words

lib_bytes : (lib : Option Bool) → All AreBytes (lib_words lib)
lib_bytes None = no_words
lib_bytes (Some true) = word_and (codes "lib=on") [] (looked (codes "lib=on") refl) no_words
lib_bytes (Some false) = word_and (codes "lib=off") [] (looked (codes "lib=off") refl) no_words

retries_bytes : (retries : Option ℕ) → All AreBytes (retries_words retries)
retries_bytes None = no_words
retries_bytes (Some count) = setting_bytes (codes "retries=") (decimal count) (looked (codes "retries=") refl) (decimal_bytes count)

min_bytes : (min : Option ℕ) → All AreBytes (min_words min)
min_bytes None = no_words
min_bytes (Some ms) = setting_bytes (codes "min=") (decimal ms) (looked (codes "min=") refl) (decimal_bytes ms)

max_bytes : (max : Option (Option ℕ)) → All AreBytes (max_words max)
max_bytes None = no_words
max_bytes (Some None) = word_and (codes "max=none") [] (looked (codes "max=none") refl) no_words
max_bytes (Some (Some ms)) = setting_bytes (codes "max=") (decimal ms) (looked (codes "max=") refl) (decimal_bytes ms)

fraction_bytes : (base : ℕ × ℕ) → AreBytes (fraction_word base)
fraction_bytes base =
    All-append IsByte (decimal base.0) (47 ∷ decimal base.1) (decimal_bytes base.0) (All-cons IsByte 47 (decimal base.1) (omega arith) (decimal_bytes base.1))

base_bytes : (base : Option (ℕ × ℕ)) → All AreBytes (base_words base)
base_bytes None = no_words
base_bytes (Some base) = setting_bytes (codes "base=") (fraction_word base) (looked (codes "base=") refl) (fraction_bytes base)

resub_bytes : (resub : Option Bool) → All AreBytes (resub_words resub)
resub_bytes None = no_words
resub_bytes (Some true) = word_and (codes "resub=on") [] (looked (codes "resub=on") refl) no_words
resub_bytes (Some false) = word_and (codes "resub=off") [] (looked (codes "resub=off") refl) no_words

delays_bytes : (m : ManagerWords) → All AreBytes (delay_words m)
delays_bytes m =
    All-append AreBytes (min_words m.min ++ max_words m.max) (base_words m.base)
    (All-append AreBytes (min_words m.min) (max_words m.max) (min_bytes m.min) (max_bytes m.max)) (base_bytes m.base)

manager_bytes : (m : ManagerWords) → All AreBytes (manager_words m)
manager_bytes m =
    All-append AreBytes (retries_words m.retries ++ delay_words m) (resub_words m.resub)
    (All-append AreBytes (retries_words m.retries) (delay_words m) (retries_bytes m.retries) (delays_bytes m)) (resub_bytes m.resub)

times_bytes : (c : ConnectionWords) → All AreBytes (times_words c)
times_bytes c = All-append AreBytes (connect_words c.connect) (response_words c.response) (connect_bytes c.connect) (response_bytes c.response)

numbers_bytes : (c : ConnectionWords) → All AreBytes (numbers_words c)
numbers_bytes c =
    All-append AreBytes (buffer_words c.buffer ++ limit_words c.limit) (boundary_words c.boundary)
    (All-append AreBytes (buffer_words c.buffer) (limit_words c.limit) (buffer_bytes c.buffer) (limit_bytes c.limit)) (boundary_bytes c.boundary)

switch_bytes : (c : ConnectionWords) → All AreBytes (switch_words c)
switch_bytes c = All-append AreBytes (push_words c.push) (creds_words c.creds) (push_bytes c.push) (creds_bytes c.creds)

settings_bytes : (c : ConnectionWords) → All AreBytes (setting_words c)
settings_bytes c =
    All-append AreBytes (times_words c ++ numbers_words c) (switch_words c) (All-append AreBytes (times_words c) (numbers_words c) (times_bytes c) (numbers_bytes c)) (switch_bytes c)

name_bytes : (kind : SessionKind) → AreBytes (kind_word kind)
name_bytes kind.Single = looked (codes "single") refl
name_bytes (kind.Manager false) = looked (codes "manager") refl
name_bytes (kind.Manager true) = looked (codes "lazy") refl
name_bytes kind.PubSub = looked (codes "pubsub") refl
name_bytes kind.Monitor = looked (codes "monitor") refl

-- what a session is, and its address, before what else is given of it
session_at : (k : SessionKind) (address : AddressWords) (more : List (List ℕ)) → FitsAddress address → All AreBytes more → All AreBytes (kind_word k ∷ url address ∷ more)
session_at k address more fits rest = word_and (kind_word k) (url address ∷ more) (name_bytes k) (word_and (url address) more (url_bytes address fits) rest)

-- how a connection behaves, and whether its server is told which library speaks
connection_bytes : (connection : ConnectionWords) (lib : Option Bool) → All AreBytes (setting_words connection ++ lib_words lib)
connection_bytes connection lib = All-append AreBytes (setting_words connection) (lib_words lib) (settings_bytes connection) (lib_bytes lib)

session_bytes : (config : Config) → FitsConfig config → All AreBytes (session_words config)
session_bytes (variant.Single address connection) fits = session_at kind.Single address (setting_words connection ++ lib_words address.lib) fits.0 (connection_bytes connection address.lib)
session_bytes (variant.Manager lazy address connection manager) fits =
    session_at (kind.Manager lazy) address (setting_words connection ++ lib_words address.lib ++ manager_words manager) fits.0
    (All-append AreBytes (setting_words connection ++ lib_words address.lib) (manager_words manager) (connection_bytes connection address.lib) (manager_bytes manager))
session_bytes (variant.PubSub address) fits = session_at kind.PubSub address (lib_words address.lib) fits (lib_bytes address.lib)
session_bytes (variant.Monitor address) fits = session_at kind.Monitor address (lib_words address.lib) fits (lib_bytes address.lib)

config_bytes : (config : Config) → FitsConfig config → All AreBytes (config_words config)
config_bytes config fits = word_and (codes "config") (session_words config) (looked (codes "config") refl) (session_bytes config fits)

-- a cause that its type holds
abbrev pub FitsCause : Cause → Type 0
FitsCause (Opening config word) = FitsConfig config × (word < 2 ^ 64)
FitsCause (Event e) = FitsEvent e

pub cause_bytes : (c : Cause) → FitsCause c → All AreBytes (cause_words c)
cause_bytes (Opening config word) fits = All-append AreBytes (draw_words word) (config_words config) (draw_bytes word) (config_bytes config fits.0)
cause_bytes (Event e) fits = All-append AreBytes (draw_words e.word) (event_words e.kind) (draw_bytes e.word) (kind_bytes e.kind fits.kind)

pub more_bytes : (c : Cause) → FitsCause c → All (All AreBytes) (cause_more c)
more_bytes (Opening config word) fits = All-nil (All AreBytes)
more_bytes (Event e) fits = kind_more_bytes e.kind fits.kind
