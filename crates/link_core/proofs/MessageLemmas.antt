-- What becomes of a value on a link of messages, by its form.
use Rattle.std.proofs.Common.{◌≡◌, ℕ, Bool, true, false, List, [], ◌∷◌, Option, None, Some, refl, sym, ap, ◌∙◌, if◌then◌else◌}
use Rattle.containers.proofs.Choices.{taken_if}
use Rattle.resp_value.specs.Data.{Data}
use Rattle.resp_value.specs.View.{data_of, list_of-items_of, value_of-data_of}
use Rattle.resp_value.specs.Kinds.{has_reply, is_item}
use Rattle.resp_value.specs.declared.push_kind.PushKind.{PushKind}
use Rattle.resp_value.specs.declared.value.Value.{Value}
use Rattle.resp_value.specs.declared.value.Value.TheVariants.{Array, Push}
use Rattle.driver_model.specs.declared.hearing.Notice.TheVariants.{Monitor}
use Rattle.driver_model.specs.declared.msg.Msg.{Msg}
use Rattle.driver_model.specs.Hearing.{Taking, answers, strange, as_message, bulk_text, plain_text, by_channel, by_pattern, message_of, message_named, is_answer_named, array_taken, other_taken, message_taken, item_told}
use Rattle.link_core.specs.Dealing.{noticed_behind}

-- a message isn't dealt, and neither is what is none
none_dealt : (o : Option Msg) → (as_message o).dealt ≡ false
none_dealt None = refl
none_dealt (Some m) = refl

answers_or : (b : Bool) (o : Option Msg) → b ≡ (if b then answers else as_message o).dealt
answers_or true o = refl
answers_or false o = sym (none_dealt o)

answers_not : (b : Bool) (o : Option Msg) → (if b then answers else as_message o).dealt ≡ false → as_message o ≡ (if b then answers else as_message o)
answers_not true o undealt = cc
answers_not false o undealt = refl

other_or : (awaited : Bool) → awaited ≡ (other_taken awaited).dealt
other_or true = refl
other_or false = refl

other_not : (awaited : Bool) → (other_taken awaited).dealt ≡ false → strange ≡ other_taken awaited
other_not true undealt = cc
other_not false undealt = refl

-- an array, and a push, as they are held
of_array : (v : Value) (parts : List Data) (awaited : Bool) → v ≡ Array parts → message_taken awaited (data_of v) ≡ array_taken parts
of_array v parts awaited is = ap (λ (x : Value). message_taken awaited (data_of x)) is ∙ ap array_taken (list_of-items_of parts)

of_push : (v : Value) (k : PushKind) (parts : List Data) (awaited : Bool) → v ≡ Push k parts → message_taken awaited (data_of v) ≡ (if has_reply k then answers else as_message (message_of k parts))
of_push v k parts awaited is =
    ap (λ (x : Value). message_taken awaited (data_of x)) is ∙ ap (λ (ds : List Data). if has_reply k then answers else as_message (message_of k ds)) (list_of-items_of parts)

of_other : (v : Value) (awaited : Bool) → ((parts : List Data) → v ≡ Array parts → ⊥) → ((k : PushKind) (parts : List Data) → v ≡ Push k parts → ⊥) → message_taken awaited (data_of v) ≡ other_taken awaited
of_other (Array parts) awaited no_array no_push = absurd (no_array parts refl)
of_other (Push k parts) awaited no_array no_push = absurd (no_push k parts refl)
of_other _ awaited no_array no_push = refl

-- whether it is dealt
pub array_dealt : (v : Value) (parts : List Data) (awaited found : Bool) → v ≡ Array parts → found ≡ (array_taken parts).dealt → found ≡ (message_taken awaited (data_of v)).dealt
array_dealt v parts awaited found is h = h ∙ ap (λ (t : Taking). t.dealt) (sym (of_array v parts awaited is))

pub push_dealt : (v : Value) (k : PushKind) (parts : List Data) (awaited found : Bool) → v ≡ Push k parts → found ≡ has_reply k → found ≡ (message_taken awaited (data_of v)).dealt
push_dealt v k parts awaited found is h = h ∙ answers_or (has_reply k) (message_of k parts) ∙ ap (λ (t : Taking). t.dealt) (sym (of_push v k parts awaited is))

pub other_dealt : (v : Value) (awaited : Bool) → ((parts : List Data) → v ≡ Array parts → ⊥) → ((k : PushKind) (parts : List Data) → v ≡ Push k parts → ⊥) → awaited ≡ (message_taken awaited (data_of v)).dealt
other_dealt v awaited no_array no_push = other_or awaited ∙ ap (λ (t : Taking). t.dealt) (sym (of_other v awaited no_array no_push))

-- which message it is, where it isn't dealt
pub array_msg : (v : Value) (parts : List Data) (o : Option Msg) → v ≡ Array parts → ((array_taken parts).dealt ≡ false → as_message o ≡ array_taken parts) → (awaited : Bool) → (message_taken awaited (data_of v)).dealt ≡ false
    → as_message o ≡ message_taken awaited (data_of v)
array_msg v parts o is h awaited undealt =
    let same = of_array v parts awaited is in
    h (sym (ap (λ (t : Taking). t.dealt) same) ∙ undealt) ∙ sym same

pub push_msg : (v : Value) (k : PushKind) (parts : List Data) (o : Option Msg) → v ≡ Push k parts → o ≡ message_of k parts → (awaited : Bool) → (message_taken awaited (data_of v)).dealt ≡ false
    → as_message o ≡ message_taken awaited (data_of v)
push_msg v k parts o is h awaited undealt =
    let same = of_push v k parts awaited is in
    ap as_message h ∙ answers_not (has_reply k) (message_of k parts) (sym (ap (λ (t : Taking). t.dealt) same) ∙ undealt) ∙ sym same

pub other_msg : (v : Value) → ((parts : List Data) → v ≡ Array parts → ⊥) → ((k : PushKind) (parts : List Data) → v ≡ Push k parts → ⊥) → (awaited : Bool) → (message_taken awaited (data_of v)).dealt ≡ false
    → as_message None ≡ message_taken awaited (data_of v)
other_msg v no_array no_push awaited undealt =
    let same = of_other v awaited no_array no_push in
    other_not awaited (sym (ap (λ (t : Taking). t.dealt) same) ∙ undealt) ∙ sym same

-- an array whose first element this is
pub first_msg : (name : Value) (parts rest : List Data) (o : Option Msg) → parts ≡ data_of name ∷ rest → o ≡ message_named (plain_text (data_of name)) rest → (array_taken parts).dealt ≡ false → as_message o ≡ array_taken parts
first_msg name parts rest o is h undealt =
    let same = ap array_taken is in
    ap as_message h
    ∙ answers_not (is_answer_named (bulk_text (data_of name))) (message_named (plain_text (data_of name)) rest) (sym (ap (λ (t : Taking). t.dealt) same) ∙ undealt)
    ∙ sym same

-- a message by its channel, and one by a pattern
pub channel_msg : (channel payload : Value) (parts more last : List Data) → parts ≡ data_of channel ∷ more → more ≡ data_of payload ∷ last → Some (record { pattern = None; channel = channel; payload = payload }) ≡ by_channel parts
channel_msg channel payload parts more last is next =
    (λ i. Some (record { pattern = None; channel = sym (value_of-data_of channel) i; payload = sym (value_of-data_of payload) i }))
    ∙ sym (ap by_channel (is ∙ ap (λ (ds : List Data). data_of channel ∷ ds) next))

pub pattern_msg : (pattern channel payload : Value) (parts more others last : List Data) → parts ≡ data_of pattern ∷ more → more ≡ data_of channel ∷ others → others ≡ data_of payload ∷ last
    → Some (record { pattern = Some pattern; channel = channel; payload = payload }) ≡ by_pattern parts
pattern_msg pattern channel payload parts more others last is next behind =
    (λ i. Some (record { pattern = Some (sym (value_of-data_of pattern) i); channel = sym (value_of-data_of channel) i; payload = sym (value_of-data_of payload) i }))
    ∙ sym (ap by_pattern (is ∙ ap (λ (ds : List Data). data_of pattern ∷ ds) (next ∙ ap (λ (ds : List Data). data_of channel ∷ ds) behind)))

-- an item that is told
pub item_noticed : (v : Value) (n : ℕ) → is_item (data_of v) ≡ true → record { settled = n; notice = Monitor v } ∷ [] ≡ noticed_behind n (item_told (data_of v))
item_noticed v n is =
    ap (λ (x : Value). record { settled = n; notice = Monitor x } ∷ []) (sym (value_of-data_of v))
    ∙ sym (ap (noticed_behind n) (taken_if (is_item (data_of v)) _ None is))
