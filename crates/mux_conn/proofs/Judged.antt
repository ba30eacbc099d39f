-- What the replies to a greeting come to is told, and what follows doesn't depend on how far its link had come before.
use Rattle.std.proofs.Common.{◌≡◌, Bool, true, false, List, [], ◌∷◌, ℕ, refl, sym, ap, subst, ◌∙◌, if◌then◌else◌}
use Rattle.std.specs.Prelude.{⊤}
use Rattle.resp_value.specs.Data.{Data, error}
use Rattle.resp_value.specs.declared.server_error.ServerError.{ServerError}
use Rattle.redis_error.specs.declared.redis_error.RedisError.{RedisError}
use Rattle.connection_setup.specs.declared.meaning.Meaning.{Meaning}
use Rattle.connection_setup.specs.declared.meaning.Meaning.TheVariants.{User, Password, Choice, Library}
use Rattle.connection_setup.specs.declared.judgement.SetupResult.{SetupResult}
use Rattle.connection_setup.specs.declared.judgement.SetupResult.TheVariants as result
use Rattle.connection_setup.specs.Setup.{Step}
use Rattle.connection_setup.specs.Judgement.{counts_arguments, judged_error, judged_reply, unless_ready, judged, Tells}
use Rattle.driver_model.specs.declared.outcome.Verdict.{Verdict}
use Rattle.driver_model.specs.declared.outcome.Verdict.TheVariants as verdict
use Rattle.link_core.specs.declared.message.NoticeAt.{NoticeAt}
use Rattle.link_core.specs.declared.message.Settled.{Settled}
use Rattle.link_core.specs.Link.{LinkState, piece_read}
use Rattle.mux_conn.specs.declared.act.LinkAct.TheVariants as act
use Rattle.mux_conn.specs.declared.life.Greeting.{Greeting}
use Rattle.mux_conn.specs.declared.life.Greeting.TheVariants as greet
use Rattle.mux_conn.specs.declared.life.Life.{Life}
use Rattle.mux_conn.specs.declared.life.Life.TheVariants.{SettingUp}
use Rattle.mux_conn.specs.Connection.{Work, acted, at_life}
use Rattle.mux_conn.specs.Effects.{judged_by, steps_of, greeted_by, sets_up, opening_failed, set_up_by, behind_first, heard_on, answered_setup, broken_at, is_unreadable, read_setup, read_at}

-- memory isn't wanted to tell it
abbrev pub IsTold : SetupResult → Type 0
IsTold result.Ready = ⊤
IsTold result.RepeatWithoutUser = ⊤
IsTold (result.Failed e) = ⊤
IsTold result.NoMemory = ⊥

either_told : (b : Bool) (x y : SetupResult) → IsTold x → IsTold y → IsTold (if b then x else y)
either_told true x y h k = h
either_told false x y h k = k

error_told : (meaning : Meaning) (e : ServerError) → IsTold (judged_error meaning e)
error_told User e = either_told (counts_arguments e.detail) result.RepeatWithoutUser _ tt tt
error_told Password e = tt
error_told Choice e = tt
error_told Library e = tt

reply_told : (meaning : Meaning) (d : Data) → IsTold (judged_reply meaning d)
reply_told meaning (error e) = error_told meaning e
reply_told meaning _ = tt

unless_told : (r next : SetupResult) → IsTold r → IsTold next → IsTold (unless_ready r next)
unless_told result.Ready next h k = k
unless_told result.RepeatWithoutUser next h k = tt
unless_told (result.Failed e) next h k = tt
unless_told result.NoMemory next h k = absurd h

-- what replies come to is told
pub judged_told : (steps : List Step) (replies : List Data) → IsTold (judged steps replies)
judged_told [] replies = tt
judged_told (s ∷ steps) [] = tt
judged_told (s ∷ steps) (d ∷ replies) = unless_told (judged_reply s.meaning d) (judged steps replies) (reply_told s.meaning d) (judged_told steps replies)

-- and so is what a verdict comes to
pub verdict_told : (steps : List Step) (v : Verdict) → IsTold (judged_by steps v)
verdict_told steps (verdict.Many replies) = judged_told steps replies
verdict_told steps (verdict.One value) = tt
verdict_told steps verdict.Done = tt
verdict_told steps (verdict.Fault e) = tt

-- what follows from a greeting that is answered well, however far the link had come
greeted_anew : (w : Work) (life : Life) (link : LinkState) (greeting : Greeting) → greeted_by (at_life w life) link greeting ≡ greeted_by w link greeting
greeted_anew w life link greet.WithUser = refl
greeted_anew w life link greet.WithoutUser = refl
greeted_anew w life link greet.Monitor = refl

-- what follows from a result, however far the link had come
set_up_anew : (w : Work) (life : Life) (link : LinkState) (greeting : Greeting) (r : SetupResult) → IsTold r → set_up_by (at_life w life) link greeting r ≡ set_up_by w link greeting r
set_up_anew w life link greeting result.Ready told = greeted_anew w life link greeting
set_up_anew w life link greeting result.RepeatWithoutUser told = refl
set_up_anew w life link greeting (result.Failed e) told = refl
set_up_anew w life link greeting result.NoMemory told = absurd told

answered_anew : (w : Work) (life : Life) (link : LinkState) (greeting : Greeting) (notices : List NoticeAt) (out : List Settled) → answered_setup (at_life w life) link greeting notices out ≡ answered_setup w link greeting notices out
answered_anew w life link greeting notices [] = refl
answered_anew w life link greeting notices (s ∷ ss) =
    let steps = steps_of w.conn greeting in
    ap (λ (v : Work). heard_on v (behind_first notices)) (set_up_anew w life link greeting (judged_by steps s.verdict) (verdict_told steps s.verdict))

-- bytes that are read while the link is out of its connection are read as if it were there
pub read_back : (w v : Work) (life : Life) (link : LinkState) (greeting : Greeting) (piece : List ℕ) → w.conn.life ≡ SettingUp link greeting → v ≡ read_setup (at_life w life) greeting (piece_read w.conn.hears false link piece) → v ≡ read_at w piece w.conn.life
read_back w v life link greeting piece is h =
    let r = piece_read w.conn.hears false link piece in
    h ∙ ap (λ (x : Work). broken_at (is_unreadable r x) x) (answered_anew w life r.link greeting r.notices r.out) ∙ ap (read_at w piece) (sym is)

-- a greeting that is well makes the link ready, or is followed by another
pub ready_by : (w v : Work) (link : LinkState) (greeting : Greeting) (expected found : SetupResult) → Tells expected found → found ≡ result.Ready → v ≡ greeted_by w link greeting → v ≡ set_up_by w link greeting expected
ready_by w v link greeting expected found told is h = let e : expected ≡ result.Ready = subst (Tells expected) is told in h ∙ ap (set_up_by w link greeting) (sym e)

-- one that counts other arguments is sent without the user name
pub repeated_by : (w v : Work) (link : LinkState) (greeting : Greeting) (expected found : SetupResult) → Tells expected found → found ≡ result.RepeatWithoutUser → v ≡ sets_up w link greet.WithoutUser → v ≡ set_up_by w link greeting expected
repeated_by w v link greeting expected found told is h = let e : expected ≡ result.RepeatWithoutUser = subst (Tells expected) is told in h ∙ ap (set_up_by w link greeting) (sym e)

-- and one that is refused fails the opening
pub failed_by : (w v : Work) (link : LinkState) (greeting : Greeting) (expected found : SetupResult) (e : RedisError) → Tells expected found → found ≡ result.Failed e → v ≡ opening_failed (acted w act.Close) e → v ≡ set_up_by w link greeting expected
failed_by w v link greeting expected found e told is h = let same : expected ≡ result.Failed e = subst (Tells expected) is told in h ∙ ap (set_up_by w link greeting) (sym same)
