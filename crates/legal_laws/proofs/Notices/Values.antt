-- What is told of a link is what the values say that came on it once it was set up.
use Rattle.std.proofs.Common.{◌≡◌, ℕ, Bool, true, false, ◌&&◌, not, List, [], ◌∷◌, ◌++◌, Option, Some, None, if◌then◌else◌, refl, sym, ◌∙◌, ap, subst, append_assoc}
use Rattle.std.proofs.lemmas.List.{append-nil}
use Rattle.std.specs.Prelude.{option_map, codes, bytes_eq}
use Rattle.std.proofs.lemmas.Slice.Eq.{bytes_eq-Decides}
use Rattle.containers.proofs.Choices.{by_test, chosen, not_both}
use Rattle.resp_value.specs.Data.{Data, bulk, array, push, list_of}
use Rattle.resp_value.specs.declared.push_kind.PushKind.{PushKind}
use Rattle.resp_value.specs.declared.push_kind.PushKind.TheVariants as kind
use Rattle.resp_value.specs.Kinds.{has_reply, kind_of}
use Rattle.driver_model.specs.declared.hearing.Hearing.{Hearing}
use Rattle.driver_model.specs.declared.hearing.Hearing.TheVariants as hearing
use Rattle.driver_model.specs.declared.hearing.Notice.{Notice}
use Rattle.driver_model.specs.declared.hearing.Notice.TheVariants as notice
use Rattle.driver_model.specs.declared.msg.Msg.{Msg}
use Rattle.driver_model.specs.Hearing.{Taking, taking, taken_by, array_taken, as_message, answers, strange, message_taken, push_taken, other_taken, is_answer_named, bulk_text, plain_text, message_of, message_named}
use Rattle.legal_trace.specs.Ledger.{Ledger, Heard, items_came, is_awaiting, is_set_up, taking_of, heard_at, value_by, value_came, values_came}
use Rattle.legal_laws.specs.Notices.{said_by}
use Rattle.legal_laws.specs.Values.{message_in, named_message, begins_as_answer, notice_in, listed, notices_in, is_hearing, heard_of, ConfirmationsAreNone}
use Rattle.legal_trace.proofs.Came.{holds_came, value_is}

-- texts that are alike are one
one_text : (x y : List ℕ) → bytes_eq x y ≡ true → x ≡ y
one_text x y = (bytes_eq-Decides x y).0

-- one of these texts, by its test
by_text : (x y : List ℕ) (P : List ℕ → Type 0) → P y → (bytes_eq x y ≡ false → P x) → P x
by_text x y P here other = by_test (bytes_eq x y) (P x) (λ t. subst P (sym (one_text x y t)) here) other

-- an array that answers is no message: its name is none of a message
abbrev NoMessage : List Data → List ℕ → Type 0
NoMessage parts name = is_answer_named (Some name) ≡ true → message_named (Some name) parts ≡ None

-- where the first test fails, the others decide
no_more : (t rest : Bool) → t ≡ false → (if t then true else rest) ≡ true → rest ≡ true
no_more true rest f e = cc f
no_more false rest f e = e

answer_none : (parts : List Data) (name : List ℕ) → NoMessage parts name
unfolding kind_of
answer_none parts name =
    by_text name (codes "subscribe") (NoMessage parts) (λ e. refl)
    (λ f. by_text name (codes "psubscribe") (NoMessage parts) (λ e. refl)
    (λ g. by_text name (codes "unsubscribe") (NoMessage parts) (λ e. refl)
    (λ h. by_text name (codes "punsubscribe") (NoMessage parts) (λ e. refl)
    (λ i. by_text name (codes "pong") (NoMessage parts) (λ e. refl)
    (λ j e. absurd (not_both (bytes_eq name (codes "pong")) j
    (no_more (bytes_eq name (codes "punsubscribe")) (bytes_eq name (codes "pong")) i
    (no_more (bytes_eq name (codes "unsubscribe")) _ h
    (no_more (bytes_eq name (codes "psubscribe")) _ g
    (no_more (bytes_eq name (codes "subscribe")) _ f e))))))))))

pub answer_is_none : (name : Data) (parts : List Data) → is_answer_named (bulk_text name) ≡ true → message_named (plain_text name) parts ≡ None
answer_is_none (bulk text) parts e = answer_none parts text e
answer_is_none _ parts e = cc

-- nor is a push that answers
pub reply_is_none : (k : PushKind) (parts : List Data) → has_reply k ≡ true → message_of k parts ≡ None
reply_is_none kind.Subscribe parts e = refl
reply_is_none kind.PSubscribe parts e = refl
reply_is_none kind.SSubscribe parts e = refl
reply_is_none kind.Unsubscribe parts e = refl
reply_is_none kind.PUnsubscribe parts e = refl
reply_is_none kind.SUnsubscribe parts e = refl
reply_is_none _ parts e = cc

-- so a confirmation is no message
named_none : (parts : List Data) → begins_as_answer parts ≡ true → named_message parts ≡ None
named_none [] e = refl
named_none (name ∷ parts) e = answer_is_none name parts e

pub confirmations_are_none : ConfirmationsAreNone
confirmations_are_none (push k parts) e = reply_is_none k (list_of parts) e
confirmations_are_none (array parts) e = named_none (list_of parts) e
confirmations_are_none _ e = cc

-- what is told of a message, or of what is none
as_told : (o : Option Msg) → (as_message o).told ≡ option_map notice.Message o
as_told None = refl
as_told (Some m) = refl

-- of an array on a link of messages
array_told : (parts : List Data) → (array_taken parts).told ≡ option_map notice.Message (named_message parts)
array_told [] = refl
array_told (name ∷ parts) =
    chosen (λ (t : Taking). t.told ≡ option_map notice.Message (message_named (plain_text name) parts)) (is_answer_named (bulk_text name)) answers (as_message (message_named (plain_text name) parts))
    (λ t. sym (ap (option_map notice.Message) (answer_is_none name parts t))) (λ f. as_told (message_named (plain_text name) parts))

-- of a push there
push_told_is : (k : PushKind) (parts : List Data) → (push_taken k parts).told ≡ option_map notice.Message (message_of k parts)
push_told_is k parts =
    chosen (λ (t : Taking). t.told ≡ option_map notice.Message (message_of k parts)) (has_reply k) answers (as_message (message_of k parts))
    (λ t. sym (ap (option_map notice.Message) (reply_is_none k parts t))) (λ f. as_told (message_of k parts))

-- and of any other value
other_none : (awaited : Bool) → (other_taken awaited).told ≡ None
other_none awaited = chosen (λ (t : Taking). t.told ≡ None) awaited answers strange (λ t. refl) (λ f. refl)

message_told : (awaited : Bool) (v : Data) → (message_taken awaited v).told ≡ option_map notice.Message (message_in v)
message_told awaited (array parts) = array_told (list_of parts)
message_told awaited (push k parts) = push_told_is k (list_of parts)
message_told awaited _ = other_none awaited

-- so of a value on a link that is set up this is told
told_of : (h : Hearing) (awaited : Bool) (v : Data) → (taken_by h awaited v).told ≡ notice_in h v
told_of hearing.Nothing awaited v = refl
told_of hearing.Pushes awaited v = refl
told_of hearing.Messages awaited v = message_told awaited v
told_of hearing.Monitor awaited v = refl

-- what stands of one
said_at : (l : Ledger) (o : Option Notice) → said_by (heard_at l o) ≡ listed o
said_at l None = refl
said_at l (Some n) = refl

-- what these say, and then those
said_append : (xs ys : List Heard) → said_by (xs ++ ys) ≡ said_by xs ++ said_by ys
said_append [] ys = refl
said_append (x ∷ xs) ys = ap (λ (ns : List Notice). x.what ∷ ns) (said_append xs ys)

pub notices_append : (h : Hearing) (vs ws : List Data) → notices_in h (vs ++ ws) ≡ notices_in h vs ++ notices_in h ws
notices_append h [] ws = refl
notices_append h (v ∷ vs) ws = ap (λ (ns : List Notice). listed (notice_in h v) ++ ns) (notices_append h vs ws) ∙ sym (append_assoc (listed (notice_in h v)) (notices_in h vs) (notices_in h ws))

-- what finds a link set up, of one value
abbrev found : Bool → Data → List Data
found hears v = if hears then v ∷ [] else []

-- what a value adds, whether it is dealt or not
taken_says : (l : Ledger) (t : Taking) (v : Data) → said_by (value_by l t v).notices ≡ said_by l.notices ++ listed t.told
taken_says l t v = chosen (λ (x : Ledger). said_by x.notices ≡ said_by l.notices ++ listed t.told) t.dealt (items_came m (v ∷ [])) m (λ d. both) (λ d. both)
  where
    m : Ledger
    m = record l { notices = l.notices ++ heard_at l t.told; strange = t.ends }

    both : said_by (l.notices ++ heard_at l t.told) ≡ said_by l.notices ++ listed t.told
    both = said_append l.notices (heard_at l t.told) ∙ ap (λ (ns : List Notice). said_by l.notices ++ ns) (said_at l t.told)

-- whether the link is set up or not
listed_where : (h : Hearing) (is_set awaited : Bool) (v : Data) → listed (taking h is_set awaited v).told ≡ notices_in h (found is_set v)
listed_where h true awaited v = ap listed (told_of h awaited v) ∙ sym (append-nil (listed (notice_in h v)))
listed_where h false awaited v = refl

-- so what is to be told where a value comes is what there was, and what that says, where it finds the link set up
value_says : (l : Ledger) (v : Data) → said_by (value_came l v).notices ≡ said_by l.notices ++ notices_in l.hearing (found (is_hearing l) v)
value_says l v = chosen (λ (x : Ledger). said_by x.notices ≡ said_by l.notices ++ notices_in l.hearing (found (is_hearing l) v)) l.strange l (value_by l (taking_of l v) v)
    (λ t. sym (ap (λ s. said_by l.notices ++ notices_in l.hearing (found (is_set_up l && not s) v)) t ∙ (ap (λ b. said_by l.notices ++ notices_in l.hearing (found b v)) (never (is_set_up l)) ∙ append-nil (said_by l.notices))))
    (λ f. taken_says l (taking_of l v) v ∙ (ap (λ (ns : List Notice). said_by l.notices ++ ns) (listed_where l.hearing (is_set_up l) (is_awaiting l) v)
    ∙ sym (ap (λ s. said_by l.notices ++ notices_in l.hearing (found (is_set_up l && not s) v)) f ∙ ap (λ b. said_by l.notices ++ notices_in l.hearing (found b v)) (always (is_set_up l)))))
  where
    never : (b : Bool) → (b && not true) ≡ false
    never true = refl
    never false = refl

    always : (b : Bool) → (b && not false) ≡ b
    always true = refl
    always false = refl

-- it is heard as before
value_hears : (l : Ledger) (v : Data) → (value_came l v).hearing ≡ l.hearing
value_hears l v = holds_came (λ (x : Ledger). x.hearing ≡ l.hearing) l (value_came l v) (value_is l v) (λ rest strange told more. refl)

-- so of many values
pub values_say : (l : Ledger) (vs : List Data) → said_by (values_came l vs).notices ≡ said_by l.notices ++ notices_in l.hearing (heard_of l vs)
values_say l [] = sym (append-nil (said_by l.notices))
values_say l (v ∷ vs) =
    let one : List Data = found (is_hearing l) v in
    let rest : List Data = heard_of (value_came l v) vs in
    values_say (value_came l v) vs
    ∙ (ap (λ (ns : List Notice). ns ++ notices_in (value_came l v).hearing rest) (value_says l v)
    ∙ (ap (λ h. (said_by l.notices ++ notices_in l.hearing one) ++ notices_in h rest) (value_hears l v)
    ∙ (append_assoc (said_by l.notices) (notices_in l.hearing one) (notices_in l.hearing rest)
    ∙ ap (λ (ns : List Notice). said_by l.notices ++ ns) (sym (notices_append l.hearing one rest)))))
