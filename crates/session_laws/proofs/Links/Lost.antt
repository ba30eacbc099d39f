-- How a link ends in a turn that doesn't shut everything down: in that turn. Where a fault ends it, it was ready until then.
use Rattle.std.proofs.Common.{◌≡◌, ℕ, ◌-◌, ◌==◌, true, false, ◌&&◌, not, Option, Some, None, is_some, refl, sym, ◌∙◌, ap, subst, if◌then◌else◌}
use Rattle.containers.proofs.Choices.{chosen}
use Rattle.resp_value.specs.declared.push_kind.PushKind.{PushKind}
use Rattle.driver_model.specs.News.{News}
use Rattle.driver_model.specs.Push.{is_disconnection}
use Rattle.mux_conn.specs.declared.act.LinkAct.{LinkAct}
use Rattle.mux_conn.specs.declared.act.LinkAct.TheVariants as act
use Rattle.single_session.specs.Turn.{shown}
use Rattle.legal_trace.specs.Ledger.{Ledger, End, Ending, offers, tells, sources, times, repeats_timed, parts, ends, ending, ending_asked, ending_alive, is_over, noted}
use Rattle.legal_trace.specs.Book.{Book, entered, push_line}
use Rattle.legal_trace.specs.Legal.{MayClose, MayStand}
use Rattle.legal_trace.proofs.Ledgers.{mine_keeps}
use Rattle.legal_trace.proofs.Plain.{same_some}
use Rattle.conn_laws.proofs.Links.Lost.{IsEndOf, IsNewEnd, IsOldEnd, KeepsLines, by_ending, heard_keeps, neither, new_keeps, old_keeps}

-- how a link has ended
--
-- it ends so
pub new_end : (b : Book) (l : ℕ) (turn : ℕ) → MayClose b l → IsNewEnd turn (b.link l) → IsNewEnd turn (noted (b.link l) (ends turn))
new_end b l turn may h = record {
  heard = h.heard;
  end = λ e is. subst (IsEndOf turn) (same_some _ e is) (record { turn_is = refl; well = by_ending (b.link l) may.why h.heard may.ends });
}

-- it ends no more
pub old_end : (b : Book) (l : ℕ) (end : End) → MayClose b l → IsOldEnd end (b.link l) → ⊥
old_end b l end may h =
    let m = b.link l in
    let none : ending m ≡ None = none_due m h.down (ap is_some h.was) in
    (let no : ◌≡◌ {A = Option Ending} None (Some may.why) = sym none ∙ may.ends in cc no)
  where
    none_due : (m : Ledger) → m.up ≡ false → is_over m ≡ true → ending m ≡ None
    none_due m down over =
        ap (λ u. if u then ending_alive m else (if m.asked && not (is_over m) then ending_asked m m.heard else None)) down
        ∙ ap (λ o. if m.asked && not o then ending_asked m m.heard else None) over
        ∙ neither m.asked (ending_asked m m.heard)

-- what acts do to the ledger of their link
--
-- a push tells, or parts
push_keeps : (P : Ledger → Type 0) → KeepsLines P → (l : Ledger) (kind : PushKind) → P l → P (noted l (push_line kind))
push_keeps P keeps l kind h = chosen (λ line. P (noted l line)) (is_disconnection kind) parts tells (λ t. keeps.parted l h) (λ f. keeps.told l h)

-- so each act keeps it of any link, where the end of its own does
pub act_keeps : (P : Ledger → Type 0) → KeepsLines P → (b : Book) (l m t c : ℕ) (a : LinkAct) → MayStand b (shown l t c a) → (MayClose b l → (l == m) ≡ true → P (noted (b.link m) (ends (b.turns - 1)))) → P (b.link m) → P ((entered b (shown l t c a)).link m)
act_keeps P keeps b l m t c (act.Created e) may end h = h
act_keeps P keeps b l m t c (act.Round n) may end h = h
act_keeps P keeps b l m t c (act.Took n count) may end h = h
act_keeps P keeps b l m t c (act.Timer n ms) may end h = h
act_keeps P keeps b l m t c (act.RenewalTimer k ms) may end h = mine_keeps P (l == m) (b.link m) times (λ x. keeps.timed (b.link m) h) h
act_keeps P keeps b l m t c (act.RepeatTimer ms) may end h = mine_keeps P (l == m) (b.link m) repeats_timed (λ x. keeps.repeat_timed (b.link m) h) h
act_keeps P keeps b l m t c act.NeedCreds may end h = mine_keeps P (l == m) (b.link m) sources (λ x. keeps.sourced (b.link m) h) h
act_keeps P keeps b l m t c act.NeedRenewals may end h = mine_keeps P (l == m) (b.link m) sources (λ x. keeps.sourced (b.link m) h) h
act_keeps P keeps b l m t c (act.SetUp message need len) may end h = mine_keeps P (l == m) (b.link m) _ (λ x. keeps.begun (b.link m) _ h) h
act_keeps P keeps b l m t c (act.Renewed message need len) may end h = mine_keeps P (l == m) (b.link m) _ (λ x. keeps.begun (b.link m) _ h) h
act_keeps P keeps b l m t c (act.Repeated message need len) may end h = mine_keeps P (l == m) (b.link m) _ (λ x. keeps.begun (b.link m) _ h) h
act_keeps P keeps b l m t c (act.Push info) may end h = mine_keeps P (l == m) (b.link m) (push_line info.kind) (λ x. push_keeps P keeps (b.link m) info.kind h) h
act_keeps P keeps b l m t c (act.Message n) may end h = mine_keeps P (b.current == m) (b.link m) tells (λ x. keeps.told (b.link m) h) h
act_keeps P keeps b l m t c (act.Monitor v) may end h = mine_keeps P (b.current == m) (b.link m) tells (λ x. keeps.told (b.link m) h) h
act_keeps P keeps b l m t c (act.Watch message need len) may end h = mine_keeps P (l == m) (b.link m) _ (λ x. keeps.begun (b.link m) _ h) h
act_keeps P keeps b l m t c act.Close may end h = mine_keeps P (l == m) (b.link m) (ends (b.turns - 1)) (λ mine. end may mine) h
act_keeps P keeps b l m t c (act.Write bytes) may end h = mine_keeps P (l == m) (b.link m) (offers bytes) (λ x. keeps.offered (b.link m) bytes h) h
act_keeps P keeps b l m t c (act.Wait n kind) may end h = h
act_keeps P keeps b l m t c (act.Start message n need len) may end h = mine_keeps P (l == m) (b.link m) _ (λ x. keeps.begun (b.link m) _ h) h
act_keeps P keeps b l m t c (act.Outcome n o) may end h = h

-- a link that ends in this turn, if it does
pub new_kept : (b : Book) (l t c turn : ℕ) (a : LinkAct) → b.turns - 1 ≡ turn → MayStand b (shown l t c a) → IsNewEnd turn (b.link l) → IsNewEnd turn ((entered b (shown l t c a)).link l)
new_kept b l t c turn a now may h =
    act_keeps (IsNewEnd turn) (new_keeps turn) b l l t c a may (λ closes mine. subst (λ k. IsNewEnd turn (noted (b.link l) (ends k))) (sym now) (new_end b l turn closes h)) h

-- one that had ended
pub old_kept : (b : Book) (l t c : ℕ) (end : End) (a : LinkAct) → MayStand b (shown l t c a) → IsOldEnd end (b.link l) → IsOldEnd end ((entered b (shown l t c a)).link l)
old_kept b l t c end a may h = act_keeps (IsOldEnd end) (old_keeps end) b l l t c a may (λ closes mine. absurd (old_end b l end closes h)) h

pub heard_kept : (b : Book) (l m t c : ℕ) (n : News) (a : LinkAct) → MayStand b (shown l t c a) → (b.link m).heard ≡ n → ((entered b (shown l t c a)).link m).heard ≡ n
heard_kept b l m t c n a may h = act_keeps (λ x. x.heard ≡ n) (heard_keeps n) b l m t c a may (λ closes mine. h) h
