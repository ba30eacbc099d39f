-- What comes behind a greeting is heard, and nothing that comes before it is answered.
use Rattle.std.proofs.Common.{◌≡◌, ℕ, zero, suc, true, false, List, [], ◌++◌, refl, sym, ap, subst, inl, arith}
use Rattle.std.specs.List.{AllByRecursion}
use Rattle.connection_info.specs.declared.address.RedisConnectionInfo.{RedisConnectionInfo}
use Rattle.connection_setup.specs.Setup.{setup}
use Rattle.resp_read.specs.Values.{values}
use Rattle.driver_model.specs.Config.{bare_info}
use Rattle.driver_model.specs.Hearing.{is_watching}
use Rattle.driver_model.specs.Setup.{says_nothing}
use Rattle.driver_model.specs.News.{connected}
use Rattle.driver_model.specs.declared.action.Owner.{Owner}
use Rattle.driver_model.specs.declared.action.Owner.TheVariants as owner
use Rattle.driver_model.specs.declared.hearing.Hearing.{Hearing}
use Rattle.driver_model.specs.declared.hearing.Hearing.TheVariants as hearing
use Rattle.link_core.specs.Dealing.{dealing_with}
use Rattle.link_core.specs.Link.{LinkState, Reading, fresh, piece_read, read_on, read_with}
use Rattle.legal_trace.specs.Ledger.{Ledger, Start, asks, begins, blank_ledger, bytes_came, hears, is_set_up, monitor_message, noted}
use Rattle.legal_trace.proofs.Came.{came_on}
use Rattle.legal_trace.proofs.Plain.{same_some}
use Rattle.legal_trace.proofs.Setups.{AreSetups, setup_packed}
use Rattle.legal_trace.proofs.Watching.{monitor_has_bytes}
use Rattle.link_laws.specs.Greetings.{setup_start, greeting_of, greeting_link, greeting_ledger, IsBehind, HearAlike}
use Rattle.link_laws.specs.Notices.{SayTheSame, AreApart}
use Rattle.link_laws.proofs.Notices.{reading_came, reads_behind, settles_apart, ungreeted_reads}
use Rattle.link_laws.proofs.SetUp.{SetBy, greeted_take, monitor_sets, setup_sets}
use Rattle.link_laws.proofs.Taken.{none_taken}
use Rattle.link_laws.proofs.TiedLink.{IsPacked, TiedLink, asked_tied, begun_tied, connected_tied, deals, fresh_tied, has_heard, read_taken, reading, reads_on}

-- the ledger of a link on which a greeting has started
abbrev greeted_ledger : Hearing → RedisConnectionInfo → Start → Ledger
greeted_ledger h info s = noted (noted (noted blank_ledger (asks info false h true false)) (hears 1 connected)) (begins s)

-- it is tied to the link
greeting_tied : (name : ℕ → Owner) (h : Hearing) (info : RedisConnectionInfo) (size boundary id : ℕ) (s : Start) → name id ≡ s.owner → IsPacked (greeting_of id s) → TiedLink name (greeted_ledger h info s) (greeting_link size boundary id s)
greeting_tied name h info size boundary id s owns some =
    let l = noted (noted blank_ledger (asks info false h true false)) (hears 1 connected) in
    let x = fresh size boundary in
    let k : TiedLink name l x = connected_tied name (noted blank_ledger (asks info false h true false)) x 1 (asked_tied name blank_ledger info false h true false x (fresh_tied name size boundary)) in
    subst (λ (who : Owner). TiedLink name (noted l (begins (record s { owner = who }))) (greeting_link size boundary id s)) owns (begun_tied name l x (greeting_of id s) some k)

-- where it is the one that sets the link up, both hear the same
greeting_heard : (name : ℕ → Owner) (h : Hearing) (info : RedisConnectionInfo) (size boundary id : ℕ) (s : Start) (piece : List ℕ) → name id ≡ s.owner → IsPacked (greeting_of id s)
    → (let l = greeted_ledger h info s in SetBy l (bytes_came l piece) 0) → HearAlike name (greeting_ledger h info s piece) (piece_read h false (greeting_link size boundary id s) piece)
greeting_heard name h info size boundary id s piece owns some sets =
    let l = greeted_ledger h info s in
    let x = greeting_link size boundary id s in
    let m = reading l piece in
    let vs = values (x.rest ++ piece) in
    let tied = greeting_tied name h info size boundary id s owns some in
    let each = greeted_take name [] h m (dealing_with x.row) vs 0 refl refl (λ y came later. sets y (came_on l m y (reading_came l piece) came) later)
    (inl (record { entry = record { id = id; shape = s.shape; awaited = true; got = [] }; notices = []; is = refl; awaited = refl }))
    (none_taken name m x.row (tied.row refl) tied.within refl) in
    let t = read_taken name h false l x piece refl (record { tame = refl; each = each }) tied in
    let d = deals h false x piece in
    let is : piece_read h false x piece ≡ read_with (read_on x (x.rest ++ piece)) d = reads_on h false x piece refl in
    subst (HearAlike name (has_heard l piece)) (sym is)
    (record {
      same = subst (SayTheSame d.notices) (sym t.notices) t.same;
      apart = subst (λ hs. AreApart name (has_heard l piece) d.notices hs 0 d.out) (sym t.notices) (settles_apart name [] (has_heard l piece) d t);
      strange = t.strange;
    })

-- what is told stands behind its answer
greeting_behind : (h : Hearing) (x : LinkState) (piece : List ℕ) → x.broken ≡ false → AllByRecursion IsBehind (piece_read h false x piece).notices
greeting_behind h x piece sound = subst (λ (r : Reading). AllByRecursion IsBehind r.notices) (sym (reads_on h false x piece sound)) (reads_behind h x piece)

-- the setup is one
setup_shaped : (h : Hearing) (info : RedisConnectionInfo) → AreSetups (greeted_ledger h info (setup_start info))
setup_shaped h info zero s less stands = sym (ap (λ (x : Start). x.shape) (same_some (setup_start info) s stands))
setup_shaped h info (suc k) s less stands = absurd (omega (arith, less))

pub setup_heard : (name : ℕ → Owner) (h : Hearing) (info : RedisConnectionInfo) (size boundary id : ℕ) (piece : List ℕ) → name id ≡ owner.Setup → is_watching h ≡ false → says_nothing (setup info true) ≡ false
    → (let s = setup_start info in
    let l = greeting_ledger h info s piece in
    let r = piece_read h false (greeting_link size boundary id s) piece in
    AllByRecursion IsBehind r.notices × (is_set_up l ≡ true → HearAlike name l r) × (is_set_up l ≡ false → (l.notices ≡ []) × (l.strange ≡ false)))
setup_heard name h info size boundary id piece owns plain says =
    let s = setup_start info in
    let l = greeted_ledger h info s in
    let x = greeting_link size boundary id s in
    let shaped = setup_shaped h info in
    let some : IsPacked (greeting_of id s) = setup_packed l 0 says in
    let tied = greeting_tied name h info size boundary id s owns some in (
      greeting_behind h x piece refl,
      (λ set. greeting_heard name h info size boundary id s piece owns some (setup_sets l (bytes_came l piece) 0 plain refl says shaped set)),
      (λ unset.
          let r = ungreeted_reads name h l x piece 0 refl refl (record { long = refl; earlier = λ j less. absurd (omega (arith, less)) }) shaped unset tied in
          (r.notices, r.tame)),
    )

-- and MONITOR is one
pub monitor_heard : (name : ℕ → Owner) (size boundary id : ℕ) (piece : List ℕ) → name id ≡ owner.Monitor
    → (let s = monitor_message in
    let l = greeting_ledger hearing.Monitor bare_info s piece in
    let r = piece_read hearing.Monitor false (greeting_link size boundary id s) piece in
    AllByRecursion IsBehind r.notices × HearAlike name l r)
monitor_heard name size boundary id piece owns =
    let s = monitor_message in
    let l = greeted_ledger hearing.Monitor bare_info s in (
      greeting_behind hearing.Monitor (greeting_link size boundary id s) piece refl,
      greeting_heard name hearing.Monitor bare_info size boundary id s piece owns monitor_has_bytes
          (monitor_sets l (bytes_came l piece) 0 refl refl (λ k x less stands. absurd (omega (arith, less))) refl),
    )
