-- The types hold the script that is made.
use Rattle.std.proofs.Common.{ℕ, zero, suc, ◌+◌, ◌%◌, ◌^◌, ◌<◌, ◌≤◌, List, [], ◌∷◌, ◌++◌, length, All, codes, decimal, refl, arith, length-append, if◌then◌else◌}
use Rattle.std.proofs.lemmas.Fmt.{length-decimal-le_succ}
use Rattle.std.proofs.lemmas.List.Elements.{All-nil, All-cons, All-append}
use Rattle.containers.proofs.Choices.{chosen}
use Rattle.resp_write.specs.Pack.{pack, number_line, sized_text, crlf}
use Rattle.driver_model.specs.declared.event.EventKind.TheVariants as event
use Rattle.text_laws.specs.Fits.{IsByte, AreBytes, FitsEvent, FitsHistory}
use Rattle.text_laws.proofs.Bytes.{looked, decimal_bytes}
use Rattle.script_generator.specs.Script.{generated_config, generated_word, generated_events, event_of, is_cancelled, reply, submits, writes, cancels, replies, round, rounds}

-- a line of a number is short, and so are a byte string and a command of two
line_short : (first n : ℕ) → n < 2 ^ 32 → length (number_line first n) ≤ n + 4
line_short first n small = let few = length-decimal-le_succ n (omega arith) in let all = length-append (first ∷ decimal n) crlf in omega arith

text_short : (first : ℕ) (text : List ℕ) → length text < 2 ^ 32 → length (sized_text first text) ≤ length text + length text + 6
text_short first text small =
    let line = line_short first (length text) small in
    let most = length-append (number_line first (length text)) text in
    let all = length-append (number_line first (length text) ++ text) crlf in
    omega arith

pair_short : (name key : List ℕ) → length name < 2 ^ 31 → length key < 2 ^ 31 → length (pack (name ∷ key ∷ [])) < 2 ^ 64
pair_short name key one other =
    let head = line_short 42 2 (omega arith) in
    let first = text_short 36 name (omega arith) in
    let second = text_short 36 key (omega arith) in
    let tail = length-append (sized_text 36 key) [] in
    let both = length-append (sized_text 36 name) (sized_text 36 key ++ []) in
    let all = length-append (number_line 42 2) (sized_text 36 name ++ (sized_text 36 key ++ [])) in
    omega arith

below : (i : ℕ) → i % 1000 < 1000
below i = omega arith

key_short : (i : ℕ) → length (codes "k" ++ decimal (i % 1000)) < 2 ^ 31
key_short i = let small = below i in let few = length-decimal-le_succ (i % 1000) (omega arith) in let all = length-append (codes "k") (decimal (i % 1000)) in omega arith

-- its lines
submit_fits : (i : ℕ) → FitsEvent (submits i)
submit_fits i = record {
  word = omega arith;
  kind = All-cons AreBytes (codes "GET") ((codes "k" ++ decimal (i % 1000)) ∷ []) (looked (codes "GET") refl)
      (All-cons AreBytes (codes "k" ++ decimal (i % 1000)) [] (All-append IsByte (codes "k") (decimal (i % 1000)) (looked (codes "k") refl) (decimal_bytes (i % 1000))) (All-nil AreBytes));
}

write_fits : (i : ℕ) → FitsEvent (writes i)
write_fits i = record { word = omega arith; kind = (omega arith, pair_short (codes "GET") (codes "k" ++ decimal (i % 1000)) (omega arith) (key_short i)) }

cancel_fits : (i : ℕ) → i < 200000 → FitsEvent (cancels i)
cancel_fits i few = record { word = omega arith; kind = omega arith }

reply_fits : FitsEvent replies
reply_fits = record { word = omega arith; kind = (omega arith, looked reply refl) }

leave_fits : (i : ℕ) → i < 200000 → All FitsEvent (if is_cancelled i then cancels i ∷ [] else [])
leave_fits i few = chosen (All FitsEvent) (is_cancelled i) (cancels i ∷ []) [] (λ t. All-cons FitsEvent (cancels i) [] (cancel_fits i few) (All-nil FitsEvent)) (λ f. All-nil FitsEvent)

round_fits : (i : ℕ) → i < 200000 → All FitsEvent (round i)
round_fits i few =
    let leave = if is_cancelled i then cancels i ∷ [] else [] in
    All-cons FitsEvent (submits i) (writes i ∷ (leave ++ replies ∷ [])) (submit_fits i)
    (All-cons FitsEvent (writes i) (leave ++ replies ∷ []) (write_fits i)
    (All-append FitsEvent leave (replies ∷ []) (leave_fits i few) (All-cons FitsEvent replies [] reply_fits (All-nil FitsEvent))))

rounds_fit : (n : ℕ) → n ≤ 200000 → All FitsEvent (rounds n)
rounds_fit zero few = All-nil FitsEvent
rounds_fit (suc n) few = All-append FitsEvent (rounds n) (round n) (rounds_fit n (omega arith)) (round_fits n (omega arith))

-- all of it
pub generated_fits : (n : ℕ) → n ≤ 200000 → FitsHistory generated_config generated_word (generated_events n)
unfolding generated_events
generated_fits n few = record {
  config = (looked (codes "redis://h:6379") refl, record { connect = tt; response = tt; limit = tt; buffer = tt; boundary = tt });
  word = omega arith;
  events = All-cons FitsEvent (event_of (event.Connected 0)) (rounds n ++ event_of event.Shutdown ∷ []) (record { word = omega arith; kind = omega arith })
      (All-append FitsEvent (rounds n) (event_of event.Shutdown ∷ []) (rounds_fit n few) (All-cons FitsEvent (event_of event.Shutdown) [] (record { word = omega arith; kind = tt }) (All-nil FitsEvent)));
}
