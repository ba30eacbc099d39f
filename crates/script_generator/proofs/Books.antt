-- What the turns of the generated script tell of link 0.
use Rattle.std.proofs.Common.{◌≡◌, ℕ, ◌+◌, ◌-◌, ◌==◌, Bool, true, false, List, [], ◌∷◌, ◌++◌, length, take, None, refl, sym, ap, ◌∙◌, subst, arith, length-append, if◌then◌else◌, max}
use Rattle.std.specs.Fmt.{digits}
use Rattle.containers.proofs.Choices.{eq_test, if_true}
use Rattle.resp_value.specs.Data.{simple}
use Rattle.resp_read.specs.Grammar.{max_depth}
use Rattle.resp_read.specs.Values.{values, left_over}
use Rattle.driver_model.specs.declared.action.Action.{Action}
use Rattle.driver_model.specs.declared.action.Action.TheVariants as action
use Rattle.driver_model.specs.declared.action.Cause.TheVariants as cause
use Rattle.driver_model.specs.declared.action.Owner.TheVariants as owner
use Rattle.driver_model.specs.declared.config.Config.{Config}
use Rattle.driver_model.specs.declared.event.EventKind.{EventKind}
use Rattle.driver_model.specs.declared.event.EventKind.TheVariants as event
use Rattle.driver_model.specs.declared.event.Submission.TheVariants as submission
use Rattle.driver_model.specs.declared.outcome.Outcome.{Outcome}
use Rattle.driver_model.specs.declared.outcome.Shape.{Shape}
use Rattle.driver_model.specs.News.{took, came}
use Rattle.driver_model.specs.Shape.{need_of}
use Rattle.driver_model.specs.Config.{hearing_of}
use Rattle.driver_model.specs.Hearing.{as_item, taking}
use Rattle.driver_model.specs.declared.hearing.Hearing.TheVariants as hearing
use Rattle.legal_trace.specs.Ledger.{Ledger, Start, reach, items_came, is_awaiting, is_set_up, taking_of, value_by, value_came, values_came, bytes_came}
use Rattle.legal_trace.specs.Story.{handed_in, shape}
use Rattle.legal_trace.specs.Book.{Book, blank_book, entered_each, is_unspoken}
use Rattle.legal_trace.proofs.Ledgers.{reach_alike, reach_more}
use Rattle.script_generator.specs.Script.{event_of, reply}

-- a link on which nothing is heard is up and has read whole values alone; so many items were dealt, and so many its started
-- messages take
pub record Reads (l : Ledger) (items needs : ℕ) : Type 0 where
  pub plain : l.hearing ≡ hearing.Nothing
  pub tame : l.strange ≡ false
  pub up : l.up ≡ true
  pub rest : l.rest ≡ []
  pub dealt : length l.dealt ≡ items
  pub reach : reach l.starts l.dealt ≡ needs

-- so it is of link 0, and so many submissions were handed in
pub record Tells (b : Book) (submissions items needs : ℕ) : Type 0 where
  pub handed_in : b.submissions ≡ submissions
  pub link : Reads (b.link 0) items needs

-- the turn of this event begins
abbrev pub turn : ℕ → EventKind → Action
turn t kind = action.Turn t (cause.Event (event_of kind))

-- the connect succeeds
pub tells_connected : (config : Config) (word : ℕ) (host : List ℕ) (port : ℕ) → hearing_of config ≡ hearing.Nothing
    → Tells (entered_each blank_book (action.Turn 0 (cause.Opening config word) ∷ action.Connect 0 host port ∷ turn 1 (event.Connected 0) ∷ action.Created None ∷ [])) 0 0 0
tells_connected config word host port plain = record { handed_in = refl; link = record { plain = plain; tame = refl; up = refl; rest = refl; dealt = refl; reach = refl } }

-- a command is submitted, and starts
pub tells_submitted : (b : Book) (n items needs t k len : ℕ) (args : List (List ℕ)) (packed : List ℕ) → Tells b n items needs
    → Tells (entered_each b (turn t (event.Submit (submission.Cmd args)) ∷ action.Start 0 k (owner.Try n 0) 1 len ∷ action.Write 0 packed ∷ [])) (n + 1) items (needs + 1)
tells_submitted b n items needs t k len args packed h =
    let what = submission.Cmd args in
    let l = b.link 0 in
    let own : Bool → Shape = λ same. shape (if same then handed_in (b.story n) what b.shut (is_unspoken b what) (max 1 b.generation) b.current b.timeout else b.story n) in
    let single : need_of (own (b.submissions == n)) ≡ 1 = ap (λ same. need_of (own same)) (eq_test b.submissions n h.handed_in) in
    let s : Start = record { owner = owner.Try n 0; shape = own (b.submissions == n); bytes = _ } in
    record {
      handed_in = ap (λ k. k + 1) h.handed_in;
      link = record { plain = h.link.plain; tame = h.link.tame; up = h.link.up; rest = h.link.rest; dealt = h.link.dealt; reach = reach_more l.starts s l.dealt ∙ (λ i. h.link.reach i + single i) };
    }

-- none more
same_count : (b : Book) (n : ℕ) → b.submissions ≡ n → b.submissions + 0 ≡ n
same_count b n e = omega arith

-- its bytes are taken
pub tells_wrote : (b : Book) (n items needs t count : ℕ) → Tells b n items needs → Tells (entered_each b (turn t (event.Wrote 0 count) ∷ [])) n items needs
tells_wrote b n items needs t count h =
    let l = b.link 0 in
    record {
      handed_in = same_count b n h.handed_in;
      link = if_true (λ (m : Ledger). Reads (record m { heard = took count }) items needs) l.up (record l { taken = l.taken ++ take count l.offer; offer = [] }) l h.link.up
          (record { plain = h.link.plain; tame = h.link.tame; up = h.link.up; rest = h.link.rest; dealt = h.link.dealt; reach = h.link.reach });
    }

-- its caller goes
pub tells_cancelled : (b : Book) (n items needs t m : ℕ) → Tells b n items needs → Tells (entered_each b (turn t (event.Cancel m) ∷ [])) n items needs
tells_cancelled b n items needs t m h =
    record { handed_in = same_count b n h.handed_in; link = record { plain = h.link.plain; tame = h.link.tame; up = h.link.up; rest = h.link.rest; dealt = h.link.dealt; reach = h.link.reach } }

-- the reply is one value, and nothing is left over
one_value : values reply ≡ simple (118 ∷ []) ∷ []
unfolding digits values max_depth
one_value = refl

none_left : left_over reply ≡ []
unfolding digits values left_over max_depth
none_left = refl

-- it is dealt, whether the link is set up or not
takes_item : (set_up awaited : Bool) → taking hearing.Nothing set_up awaited (simple (118 ∷ [])) ≡ as_item (simple (118 ∷ []))
takes_item true awaited = refl
takes_item false awaited = refl

-- what the reply makes of a link on which nothing is heard
abbrev replied : Ledger → Ledger
replied l = items_came (record l { rest = []; notices = l.notices ++ []; strange = false }) (simple (118 ∷ []) ∷ [])

reply_came : (l : Ledger) → l.hearing ≡ hearing.Nothing → l.strange ≡ false → l.rest ≡ [] → bytes_came l reply ≡ replied l
reply_came l plain tame whole =
    let v = simple (118 ∷ []) in
    let m = record l { rest = [] } in
    ap (λ r. values_came (record l { rest = left_over (r ++ reply) }) (values (r ++ reply))) whole
    ∙ ap (values_came (record l { rest = left_over reply })) one_value
    ∙ ap (λ r. value_came (record l { rest = r }) v) none_left
    ∙ ap (λ b. if b then m else value_by m (taking_of m v) v) tame
    ∙ ap (λ t. value_by m t v) (ap (λ h. taking h (is_set_up m) (is_awaiting m) v) plain ∙ takes_item (is_set_up m) (is_awaiting m))

-- the reply comes
pub tells_replied : (b : Book) (n dealt t : ℕ) → Tells b n dealt (dealt + 1) → Tells (entered_each b (turn t (event.Bytes 0 reply) ∷ [])) n (dealt + 1) (dealt + 1)
tells_replied b n dealt t h =
    let l = b.link 0 in
    let long = h.link.dealt in
    let far = h.link.reach in
    let room : reach l.starts l.dealt - length l.dealt ≡ 1 = omega arith in
    let more = take (reach l.starts l.dealt - length l.dealt) (simple (118 ∷ []) ∷ []) in
    let one : length more ≡ 1 = λ i. length (take (room i) (simple (118 ∷ []) ∷ [])) in
    let all = length-append l.dealt more in
    record {
      handed_in = same_count b n h.handed_in;
      link = if_true (λ (m : Ledger). Reads (record m { heard = came reply }) (dealt + 1) (dealt + 1)) l.up (bytes_came l reply) l h.link.up
          (subst (λ (m : Ledger). Reads (record m { heard = came reply }) (dealt + 1) (dealt + 1)) (sym (reply_came l h.link.plain h.link.tame h.link.rest))
          (record {
            plain = h.link.plain;
            tame = refl;
            up = h.link.up;
            rest = refl;
            dealt = omega arith;
            reach = reach_alike l.starts (l.dealt ++ more) l.dealt ∙ h.link.reach;
          }));
    }

-- and is somebody's outcome
pub tells_answered : (b : Book) (n items needs m : ℕ) (o : Outcome) → Tells b n items needs → Tells (entered_each b (action.Outcome m o ∷ [])) n items needs
tells_answered b n items needs m o h =
    record { handed_in = h.handed_in; link = record { plain = h.link.plain; tame = h.link.tame; up = h.link.up; rest = h.link.rest; dealt = h.link.dealt; reach = h.link.reach } }

-- everything is closed: what was dealt stays
pub dealt_at_end : (b : Book) (t : ℕ) → ((entered_each b (turn t event.Shutdown ∷ action.Close 0 ∷ [])).link 0).dealt ≡ (b.link 0).dealt
dealt_at_end b t = refl
