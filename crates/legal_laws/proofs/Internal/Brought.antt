-- The new credentials of a link are those that events bring of its second source, in their order.
use Rattle.std.proofs.Common.{◌≡◌, ◌⊎◌, inl, inr, ℕ, ◌+◌, ◌-◌, ◌<◌, ◌≤◌, ◌==◌, Bool, true, false, ◌&&◌, not, if◌then◌else◌, List, [], ◌∷◌, ◌++◌, length, take, Option, Some, None, is_some, slice_get, refl, sym, ◌∙◌, ap, subst, arith}
use Rattle.std.proofs.lemmas.List.{append-nil, append_assoc, length_push}
use Rattle.std.proofs.lemmas.Option.{slice_get_within}
use Rattle.containers.proofs.Choices.{by_test, chosen, eq_from, eq_test, ne_from, not_both, both_left, both_right, not_le_from}
use Rattle.redis_error.specs.declared.redis_error.RedisError.TheVariants as error
use Rattle.credentials.specs.Credentials.{Credentials}
use Rattle.driver_model.specs.declared.action.Action.{Action}
use Rattle.driver_model.specs.declared.action.Action.TheVariants as action
use Rattle.driver_model.specs.declared.action.Cause.TheVariants as cause
use Rattle.driver_model.specs.declared.action.Purpose.{Purpose}
use Rattle.driver_model.specs.declared.action.Purpose.TheVariants as purpose
use Rattle.driver_model.specs.declared.action.SourceUse.{SourceUse}
use Rattle.driver_model.specs.declared.action.SourceUse.TheVariants as source
use Rattle.driver_model.specs.declared.event.EventKind.{EventKind}
use Rattle.driver_model.specs.declared.event.EventKind.TheVariants as event
use Rattle.driver_model.specs.declared.news.LinkFault.TheVariants as fault
use Rattle.driver_model.specs.News.{News, silence, connected, refused, overdue, took, came, failed, authorized, denied, deserted, renewed, unrenewed, late, unrepeated, dropped, shut, news_of, for_link, of_timer, of_source, renews}
use Rattle.legal_trace.specs.Ledger.{Ledger, End, Sourced, asks, hears, begins, offers, sources, ends, noted, noted_each, with_news, refused_in, bytes_came, is_over, is_ready, is_set_up, dials, awaits_credentials, authorized_by, may_renew, renewed_by, unrenewed_by, is_renewal_open, lost_by, source_due, is_repeating, unrepeated_by}
use Rattle.legal_trace.specs.Managers.{settings_in, is_last}
use Rattle.legal_trace.specs.Book.{Book, blank_book, book, entered, if_mine, info_in, wanted_in, message_of, use_for, hearing_in}
use Rattle.legal_trace.specs.Events.{is_bad_event}
use Rattle.legal_trace.specs.Legal.{MayStand, MayNeed, AllStand}
use Rattle.legal_trace.specs.Again.{repeats_in}
use Rattle.legal_trace.proofs.Clocks.{timer_tells}
use Rattle.legal_trace.proofs.Books.{Grows, book_more, of_each_front}
use Rattle.legal_trace.proofs.Ledgers.{mine_keeps}
use Rattle.legal_trace.proofs.Moves.{both_hold}
use Rattle.legal_trace.proofs.Plain.{item_behind, item_stays, last_item, same_some}
use Rattle.legal_trace.proofs.Sources.{second_is_new, source_is_up}
use Rattle.legal_trace.proofs.Came.{holds_bytes}
use Rattle.legal_laws.specs.Renewals.{asked_by, sources_asked, given_by, brought_by, brought}
use Rattle.legal_laws.proofs.Traces.Numbers.{up_is_asked}
use Rattle.legal_laws.proofs.Notices.Pushed.{push_keeps, tell_keeps}
use Rattle.legal_laws.proofs.Links.Shaped.{IsShaped}
use Rattle.legal_laws.proofs.Traces.Sound.{Sound, sound_behind}

-- these are the first of those
pub record IsFront (front whole : List Credentials) : Type 0 where
  pub rest : List Credentials
  pub joins : front ++ rest ≡ whole

-- of those that came these are the first, and all while the link is up and more may come
pub record Has (new renewals : List Credentials) (over up : Bool) : Type 0 where
  pub first : IsFront renewals new
  pub all : up ≡ true → over ≡ false → renewals ≡ new

-- how many sources were asked for
abbrev pub count_of : Bool → Bool → ℕ
count_of false second = 0
count_of true false = 1
count_of true true = 2

-- of a link for which these sources were asked for: as many as its ledger says, none before it was asked for itself, and the
-- second only once it is up; and of those that came of source c, where that is the second, it has the new credentials
pub record LinkHas (asked : List ℕ) (c : ℕ) (new : List Credentials) (is_asked : Bool) (creds : Sourced) (up : Bool) (end : Option End) : Type 0 where
  pub counted : length asked ≡ count_of creds.asked creds.renews
  pub unasked : is_asked ≡ false → creds.asked ≡ false
  pub lives : creds.renews ≡ true → up ≡ false → is_some end ≡ true
  pub has : slice_get asked 1 ≡ Some c → Has new creds.renewals creds.over up

-- so of a ledger
abbrev pub HasOf : List ℕ → ℕ → List Credentials → Ledger → Type 0
HasOf asked c new l = LinkHas asked c new l.asked l.creds l.up l.end

-- where nothing more came
none_came : (asked : List ℕ) (c : ℕ) (new : List Credentials) (l : Ledger) → HasOf asked c new l → HasOf asked c (new ++ []) l
none_came asked c new l h = subst (λ x. HasOf asked c x l) (sym (append-nil new)) h

-- without a second source one was asked for at most
one_at_most : (first second : Bool) → second ≡ false → count_of first second ≤ 1
one_at_most false second e = omega arith
one_at_most true false e = omega arith
one_at_most true true e = absurd (cc e)

-- so a link with a second one renews
two_renew : (asked : List ℕ) (creds : Sourced) (s : ℕ) → length asked ≡ count_of creds.asked creds.renews → slice_get asked 1 ≡ Some s → creds.renews ≡ true
two_renew asked creds s counted e = by_test creds.renews (creds.renews ≡ true) (λ t. t)
    (λ f. absurd (let i : 1 < length asked = slice_get_within asked 1 s e in let most : count_of creds.asked creds.renews ≤ 1 = one_at_most creds.asked creds.renews f in omega (arith, i, most, counted)))

-- and it is up, or has ended
alive : (asked : List ℕ) (c s : ℕ) (new : List Credentials) (l : Ledger) → HasOf asked c new l → slice_get asked 1 ≡ Some s → is_over l ≡ false → l.up ≡ true
alive asked c s new l h e lives = by_test l.up (l.up ≡ true) (λ t. t) (λ f. absurd (not_both (is_over l) lives (h.lives (two_renew asked l.creds s h.counted e) f)))

-- the new credentials that news are
abbrev pub new_in : News → List Credentials
new_in (renewed c) = c ∷ []
new_in _ = []

-- a test that holds of what isn't so doesn't
not_true : (b : Bool) → not b ≡ true → b ≡ false
not_true true e = absurd (cc e)
not_true false e = refl

-- it doesn't, so the other does
is_false : (b : Bool) → b ≡ false → not b ≡ true
is_false b e = ap not e

-- new credentials that come are taken where they may be
renewed_has : (l : Ledger) (c : Credentials) (new : List Credentials) → may_renew l ≡ true → Has new l.creds.renewals l.creds.over l.up → Has (new ++ c ∷ []) (l.creds.renewals ++ c ∷ []) l.creds.over l.up
renewed_has l c new may h =
    let up : l.up ≡ true = both_left l.up (is_set_up l) (both_left (is_ready l) l.creds.renews (both_left (is_ready l && l.creds.renews) (not l.creds.over) may)) in
    let on : l.creds.over ≡ false = not_true l.creds.over (both_right (is_ready l && l.creds.renews) (not l.creds.over) may) in
    let same : l.creds.renewals ≡ new = h.all up on in
    record {
      first = record { rest = []; joins = append-nil (l.creds.renewals ++ c ∷ []) ∙ ap (λ (x : List Credentials). x ++ c ∷ []) same };
      all = λ u o. ap (λ (x : List Credentials). x ++ c ∷ []) same;
    }

-- and else they are left out, since no more may come
left_out : (l : Ledger) (c : Credentials) (new : List Credentials) → may_renew l ≡ false → is_set_up l ≡ true → l.creds.renews ≡ true → Has new l.creds.renewals l.creds.over l.up → Has (new ++ c ∷ []) l.creds.renewals l.creds.over l.up
left_out l c new may set renews h = record {
  first = record { rest = h.first.rest ++ c ∷ []; joins = sym (append_assoc l.creds.renewals h.first.rest (c ∷ [])) ∙ ap (λ (x : List Credentials). x ++ c ∷ []) h.first.joins };
  all = λ up on. absurd (not_both (may_renew l) may (both_hold (is_ready l && l.creds.renews) (not l.creds.over) (both_hold (is_ready l) l.creds.renews (both_hold l.up (is_set_up l) up set) renews) (is_false l.creds.over on)));
}

-- with any news
news_has : (l : Ledger) (turn : ℕ) (news : News) (asked : List ℕ) (c : ℕ) (new : List Credentials) → IsShaped l → HasOf asked c new l → HasOf asked c (new ++ new_in news) (with_news l turn news)
news_has l turn silence asked c new shaped h = none_came asked c new l h
news_has l turn connected asked c new shaped h = chosen (HasOf asked c (new ++ [])) (is_over l) l (record l { up = true }) (λ t. none_came asked c new l h)
    (λ f. none_came asked c new (record l { up = true }) (record {
      counted = h.counted;
      unasked = h.unasked;
      lives = λ r d. absurd (cc d);
      has = λ e. record { first = (h.has e).first; all = λ u. (h.has e).all (alive asked c c new l h e f) };
    }))
news_has l turn (refused x) asked c new shaped h = chosen (HasOf asked c (new ++ [])) (dials l) (refused_in l turn (error.Io x)) l
    (λ t. none_came asked c new (refused_in l turn (error.Io x)) (record { counted = h.counted; unasked = h.unasked; lives = λ r d. refl; has = h.has })) (λ f. none_came asked c new l h)
news_has l turn overdue asked c new shaped h = none_came asked c new l h
news_has l turn (took count) asked c new shaped h = chosen (HasOf asked c (new ++ [])) l.up (record l { taken = l.taken ++ take count l.offer; offer = [] }) l (λ t. none_came asked c new l h) (λ f. none_came asked c new l h)
news_has l turn (came piece) asked c had shaped h = chosen (HasOf asked c (had ++ [])) l.up (bytes_came l piece) l (λ t. holds_bytes (HasOf asked c (had ++ [])) l piece (λ rest strange told more. none_came asked c had l h)) (λ f. none_came asked c had l h)
news_has l turn (failed x) asked c new shaped h = none_came asked c new l h
news_has l turn (authorized x) asked c new shaped h = chosen (HasOf asked c (new ++ [])) (awaits_credentials l) (authorized_by l x) l
    (λ t. none_came asked c new (authorized_by l x) (record { counted = h.counted; unasked = h.unasked; lives = h.lives; has = h.has })) (λ f. none_came asked c new l h)
news_has l turn (denied text) asked c new shaped h = none_came asked c new l h
news_has l turn deserted asked c new shaped h = none_came asked c new l h
news_has l turn (renewed x) asked c new shaped h = chosen (HasOf asked c (new ++ x ∷ [])) (may_renew l) (renewed_by l x) l
    (λ t. record { counted = h.counted; unasked = h.unasked; lives = h.lives; has = λ e. renewed_has l x new t (h.has e) })
    (λ f. record {
      counted = h.counted;
      unasked = h.unasked;
      lives = h.lives;
      has = λ e. let renews : l.creds.renews ≡ true = two_renew asked l.creds c h.counted e in left_out l x new f (shaped.ready renews) renews (h.has e);
    })
news_has l turn unrenewed asked c new shaped h = chosen (HasOf asked c (new ++ [])) l.up (unrenewed_by l) l
    (λ t. none_came asked c new (unrenewed_by l) (record { counted = h.counted; unasked = h.unasked; lives = h.lives; has = λ e. record { first = (h.has e).first; all = λ u o. absurd (cc o) } }))
    (λ f. none_came asked c new l h)
news_has l turn (late k) asked c new shaped h = chosen (HasOf asked c (new ++ [])) (l.up && is_renewal_open l k) (lost_by l) l
    (λ t. none_came asked c new (lost_by l) (record { counted = h.counted; unasked = h.unasked; lives = h.lives; has = h.has })) (λ f. none_came asked c new l h)
news_has l turn unrepeated asked c new shaped h = chosen (HasOf asked c (new ++ [])) (is_repeating l) (unrepeated_by l) l
    (λ t. none_came asked c new (unrepeated_by l) (record { counted = h.counted; unasked = h.unasked; lives = h.lives; has = h.has })) (λ f. none_came asked c new l h)
news_has l turn dropped asked c new shaped h = none_came asked c new l h
news_has l turn shut asked c new shaped h = none_came asked c new l h

-- which sources renew link l, of these that were asked for: the second
pub record UsesAre (uses : List SourceUse) (l : ℕ) (asked : List ℕ) : Type 0 where
  pub renews : (s : ℕ) → slice_get uses s ≡ Some (source.Renewal l) → slice_get asked 1 ≡ Some s
  pub second : (s : ℕ) → slice_get asked 1 ≡ Some s → slice_get uses s ≡ Some (source.Renewal l)

-- for one link, or silence, such news are no new credentials
plain_news : (mine : Bool) (x : News) → new_in x ≡ [] → new_in (for_link mine x) ≡ []
plain_news true x e = e
plain_news false x e = refl

-- nor is a timer
timer_news : (l : ℕ) (what : Option Purpose) → new_in (of_timer l what) ≡ []
timer_news l None = refl
timer_news l (Some (purpose.Connect m)) = plain_news (m == l) overdue refl
timer_news l (Some (purpose.Response who)) = refl
timer_news l (Some (purpose.Renewal m k)) = plain_news (m == l) (late k) refl
timer_news l (Some (purpose.Backoff g)) = refl
timer_news l (Some (purpose.Resubscription m)) = plain_news (m == l) unrepeated refl

-- nor are a source's other news
source_news : (l : ℕ) (o : Option SourceUse) (first later : News) → new_in first ≡ [] → new_in later ≡ [] → new_in (of_source l o first later) ≡ []
source_news l None first later one two = refl
source_news l (Some (source.Setup m)) first later one two = chosen (λ x. new_in x ≡ []) (m == l) first silence (λ t. one) (λ f. refl)
source_news l (Some (source.Renewal m)) first later one two = plain_news (m == l) later two

-- credentials of a source that doesn't renew the link
other_news : (l : ℕ) (o : Option SourceUse) (c : Credentials) → (o ≡ Some (source.Renewal l) → ⊥) → new_in (of_source l o (authorized c) (renewed c)) ≡ []
other_news l None c not_its = refl
other_news l (Some (source.Setup m)) c not_its = chosen (λ x. new_in x ≡ []) (m == l) (authorized c) silence (λ t. refl) (λ f. refl)
other_news l (Some (source.Renewal m)) c not_its = chosen (λ x. new_in x ≡ []) (m == l) (renewed c) silence (λ t. absurd (not_its (ap (λ j. Some (source.Renewal j)) (eq_from m l t)))) (λ f. refl)

-- and of the one that does
its_news : (l : ℕ) (o : Option SourceUse) (c : Credentials) → o ≡ Some (source.Renewal l) → new_in (of_source l o (authorized c) (renewed c)) ≡ c ∷ []
its_news l o c its = ap (λ x. new_in (of_source l x (authorized c) (renewed c))) its ∙ ap (λ mine. new_in (for_link mine (renewed c))) (eq_test l l refl)

-- what an event brings of a link's second source is what it has of new credentials for the link
brings : (timers : List Purpose) (uses : List SourceUse) (l c : ℕ) (asked : List ℕ) (kind : EventKind) → UsesAre uses l asked → slice_get asked 1 ≡ Some c → given_by c kind ≡ new_in (news_of timers uses l kind)
brings timers uses l c asked (event.Creds s auth) h e = by_test (s == c) (given_by c (event.Creds s auth) ≡ new_in (news_of timers uses l (event.Creds s auth)))
    (λ t.
    let its : slice_get uses s ≡ Some (source.Renewal l) = ap (slice_get uses) (eq_from s c t) ∙ h.second c e in
    ap (λ mine. if mine then auth ∷ [] else []) t ∙ sym (its_news l (slice_get uses s) auth its))
    (λ f. ap (λ mine. if mine then auth ∷ [] else []) f
    ∙ sym (other_news l (slice_get uses s) auth (λ its. ne_from s c f (same_some s c (sym (h.renews s its) ∙ e)))))
brings timers uses l c asked (event.CredsError s text) h e = sym (source_news l (slice_get uses s) (denied text) silence refl refl)
brings timers uses l c asked (event.CredsEnd s) h e = sym (source_news l (slice_get uses s) deserted unrenewed refl refl)
brings timers uses l c asked (event.Connected m) h e = sym (plain_news (m == l) connected refl)
brings timers uses l c asked (event.Refused m f) h e = sym (plain_news (m == l) (refused f) refl)
brings timers uses l c asked (event.Wrote m count) h e = sym (plain_news (m == l) (took count) refl)
brings timers uses l c asked (event.Bytes m piece) h e = sym (plain_news (m == l) (came piece) refl)
brings timers uses l c asked (event.Ended m) h e = sym (plain_news (m == l) (failed fault.Ended) refl)
brings timers uses l c asked (event.ReadFault m kind) h e = sym (plain_news (m == l) (failed (fault.Io kind)) refl)
brings timers uses l c asked (event.WriteFault m kind) h e = sym (plain_news (m == l) (failed (fault.Io kind)) refl)
brings timers uses l c asked (event.Fired t) h e = sym (timer_news l (slice_get timers t))
brings timers uses l c asked (event.Timeout ms) h e = refl
brings timers uses l c asked event.DropStream h e = refl
brings timers uses l c asked event.Shutdown h e = refl
brings timers uses l c asked (event.Submit s) h e = refl
brings timers uses l c asked (event.Cancel s) h e = refl

-- an event brings nothing of a source that wasn't asked for
unsaid : (b : Book) (c : ℕ) (kind : EventKind) → is_bad_event b kind ≡ false → length b.sources ≤ c → given_by c kind ≡ []
unfolding is_bad_event
unsaid b c (event.Creds s auth) good i = chosen (λ (x : List Credentials). x ≡ []) (s == c) (auth ∷ []) []
    (λ t. absurd (let e : s ≡ c = eq_from s c t in let k : s < length b.sources = not_le_from (length b.sources) s good in omega (arith, e, k, i))) (λ f. refl)
unsaid b c _ good i = refl

-- what is known of link l and source c in a book, where these sources were asked for, and these credentials came of that one
pub record Accounts (b : Book) (l c : ℕ) (asked : List ℕ) (new : List Credentials) : Type 0 where
  pub link : HasOf asked c new (b.link l)
  pub uses : UsesAre b.sources l asked
  pub early : length b.sources ≤ c → new ≡ []

-- nothing is added
as_asked : (b : Book) (l c : ℕ) (asked : List ℕ) (new : List Credentials) → Accounts b l c asked new → Accounts b l c (asked ++ []) (new ++ [])
as_asked b l c asked new h = subst (λ x. Accounts b l c x (new ++ [])) (sym (append-nil asked)) (subst (λ x. Accounts b l c asked x) (sym (append-nil new)) h)

-- behind an action that asks for no source, and brings nothing
goes_on : (b : Book) (a : Action) (l c : ℕ) (asked : List ℕ) (new : List Credentials) → (entered b a).sources ≡ b.sources → HasOf asked c new ((entered b a).link l) → Accounts b l c asked new → Accounts (entered b a) l c (asked ++ []) (new ++ [])
goes_on b a l c asked new same has h = as_asked (entered b a) l c asked new (record {
  link = has;
  uses = subst (λ u. UsesAre u l asked) (sym same) h.uses;
  early = λ i. h.early (subst (λ (u : List SourceUse). length u ≤ c) same i);
})

-- a turn
turn_accounts : (b : Book) (k l c : ℕ) (kind : EventKind) (asked : List ℕ) (new : List Credentials) → IsShaped (b.link l) → is_bad_event b kind ≡ false → Accounts b l c asked new
    → HasOf asked c (new ++ given_by c kind) (noted (b.link l) (hears k (news_of b.timers b.sources l kind)))
turn_accounts b k l c kind asked new shaped good h =
    let news : News = news_of b.timers b.sources l kind in
    let after : HasOf asked c (new ++ new_in news) (with_news (b.link l) k news) = news_has (b.link l) k news asked c new shaped h.link in
    record {
      counted = after.counted;
      unasked = after.unasked;
      lives = after.lives;
      has = λ e. subst (λ (x : List Credentials). Has (new ++ x) (with_news (b.link l) k news).creds.renewals (with_news (b.link l) k news).creds.over (with_news (b.link l) k news).up) (sym (brings b.timers b.sources l c asked kind h.uses e)) (after.has e);
    }

-- a source that is asked for another link, or for this one as its first or its second
uses_grow : (uses : List SourceUse) (use_is : SourceUse) (l d : ℕ) (asked : List ℕ) (mine : Bool) → d ≡ length uses
    → (mine ≡ false → use_is ≡ source.Renewal l → ⊥) → (mine ≡ true → ((use_is ≡ source.Renewal l) × (length asked ≡ 1)) ⊎ ((use_is ≡ source.Renewal l → ⊥) × (length asked ≡ 0)))
    → UsesAre uses l asked → UsesAre (uses ++ use_is ∷ []) l (asked ++ (if mine then d ∷ [] else []))
uses_grow uses use_is l d asked false next other own h = subst (UsesAre (uses ++ use_is ∷ []) l) (sym (append-nil asked)) (record {
  renews = λ s e. elim (item_behind uses use_is (source.Renewal l) s e) [ inl old ↦ h.renews s old | inr last ↦ absurd (other refl last.1) ];
  second = λ s e. item_stays uses (use_is ∷ []) (source.Renewal l) s (h.second s e);
})
uses_grow uses use_is l d asked true next other own h = record {
  renews = λ s e. elim (item_behind uses use_is (source.Renewal l) s e) [
    | inl old ↦
        let i : 1 < length asked = slice_get_within asked 1 s (h.renews s old) in
        absurd (elim (own refl) [ inl second ↦ omega (arith, i, second.1) | inr first ↦ omega (arith, i, first.1) ])
    | inr last ↦
        elim (own refl) [
          | inl second ↦ ap (slice_get (asked ++ d ∷ [])) (sym second.1) ∙ (last_item asked d ∙ ap Some (next ∙ sym last.0))
          | inr first ↦ absurd (first.0 last.1)
        ]
  ];
  second = λ s e. elim (item_behind asked d s 1 e) [
    | inl old ↦
        let i : 1 < length asked = slice_get_within asked 1 s old in
        absurd (elim (own refl) [ inl second ↦ omega (arith, i, second.1) | inr first ↦ omega (arith, i, first.1) ])
    | inr last ↦
        elim (own refl) [
          | inl second ↦ ap (slice_get (uses ++ use_is ∷ [])) (sym last.1 ∙ next) ∙ (last_item uses use_is ∙ ap Some second.0)
          | inr first ↦ absurd (let none : length asked ≡ 0 = first.1 in omega (arith, last.0, none))
        ]
  ];
}

-- what its ledger has where a source is asked for it
asked_has : (x : Ledger) (d c : ℕ) (asked : List ℕ) (new : List Credentials) → source_due x ≡ true → x.asked ≡ true → IsShaped x → (slice_get (asked ++ d ∷ []) 1 ≡ Some c → new ≡ []) → HasOf asked c new x → HasOf (asked ++ d ∷ []) c new (noted x sources)
asked_has x d c asked new due is_asked shaped early h =
    let long : length (asked ++ d ∷ []) ≡ length asked + 1 = length_push asked d in
    record {
      counted = by_test x.creds.asked (length (asked ++ d ∷ []) ≡ count_of true x.creds.asked)
          (λ t.
          let one : length asked ≡ 1 = h.counted ∙ (ap (λ y. count_of y x.creds.renews) t ∙ ap (count_of true) (second_is_new x due t)) in
          let two : length (asked ++ d ∷ []) ≡ 2 = omega (arith, long, one) in two ∙ sym (ap (count_of true) t))
          (λ f.
          let none : length asked ≡ 0 = h.counted ∙ ap (λ y. count_of y x.creds.renews) f in
          let one : length (asked ++ d ∷ []) ≡ 1 = omega (arith, long, none) in one ∙ sym (ap (count_of true) f));
      unasked = λ un. absurd (not_both x.asked un is_asked);
      lives = λ r down. absurd (not_both x.up down (source_is_up x due));
      has = λ e.
          let none : new ≡ [] = early e in
          let fresh : x.creds.renewals ≡ [] = by_test x.creds.asked (x.creds.renewals ≡ []) (λ t. shaped.came (second_is_new x due t)) (λ f. shaped.came (shaped.second f)) in
          record { first = record { rest = []; joins = append-nil x.creds.renewals ∙ (fresh ∙ sym none) }; all = λ u o. fresh ∙ sym none };
    }

-- so for each link
asked_link : (mine : Bool) (x : Ledger) (d c : ℕ) (asked : List ℕ) (new : List Credentials) → (mine ≡ true → HasOf (asked ++ d ∷ []) c new (noted x sources)) → HasOf asked c new x → HasOf (asked ++ (if mine then d ∷ [] else [])) c new (noted_each x (if_mine mine sources))
asked_link true x d c asked new own h = own refl
asked_link false x d c asked new own h = subst (λ y. HasOf y c new x) (sym (append-nil asked)) h

-- a use that renews a link says it
same_renewal : (l m : ℕ) → source.Renewal m ≡ source.Renewal l → m ≡ l
same_renewal l m e = cc e

-- what a source is asked for: for another link it doesn't renew this one
use_elsewhere : (b : Book) (m l : ℕ) → (m == l) ≡ false → use_for b m ≡ source.Renewal l → ⊥
use_elsewhere b m l f = chosen (λ u. u ≡ source.Renewal l → ⊥) (b.link m).creds.asked (source.Renewal m) (source.Setup m) (λ t e. ne_from m l f (same_renewal l m e)) (λ n e. cc e)

-- for this one it is the second where that has its first, and else the first
use_here : (b : Book) (l : ℕ) (asked : List ℕ) → source_due (b.link l) ≡ true → length asked ≡ count_of (b.link l).creds.asked (b.link l).creds.renews
    → ((use_for b l ≡ source.Renewal l) × (length asked ≡ 1)) ⊎ ((use_for b l ≡ source.Renewal l → ⊥) × (length asked ≡ 0))
use_here b l asked due counted = by_test (b.link l).creds.asked (((use_for b l ≡ source.Renewal l) × (length asked ≡ 1)) ⊎ ((use_for b l ≡ source.Renewal l → ⊥) × (length asked ≡ 0)))
    (λ t. inl (ap (λ y. if y then source.Renewal l else source.Setup l) t, counted ∙ (ap (λ y. count_of y (b.link l).creds.renews) t ∙ ap (count_of true) (second_is_new (b.link l) due t))))
    (λ f. inr (λ e. let x : source.Setup l ≡ source.Renewal l = sym (ap (λ y. if y then source.Renewal l else source.Setup l) f) ∙ e in cc x, counted ∙ ap (λ y. count_of y (b.link l).creds.renews) f))

-- a source
need_accounts : (b : Book) (d m l c : ℕ) (asked : List ℕ) (new : List Credentials) → MayNeed b d m → Sound b → Accounts b l c asked new → Accounts (entered b (action.NeedCreds d m)) l c (asked ++ asked_by l (action.NeedCreds d m)) (new ++ [])
need_accounts b d m l c asked new may sound h =
    let own : (m == l) ≡ true → ((use_for b m ≡ source.Renewal l) × (length asked ≡ 1)) ⊎ ((use_for b m ≡ source.Renewal l → ⊥) × (length asked ≡ 0)) =
    λ t. let e : m ≡ l = eq_from m l t in
    subst (λ j. ((use_for b j ≡ source.Renewal l) × (length asked ≡ 1)) ⊎ ((use_for b j ≡ source.Renewal l → ⊥) × (length asked ≡ 0))) (sym e) (use_here b l asked (subst (λ j. source_due (b.link j) ≡ true) e may.due) h.link.counted) in
    let uses : UsesAre (b.sources ++ use_for b m ∷ []) l (asked ++ asked_by l (action.NeedCreds d m)) = uses_grow b.sources (use_for b m) l d asked (m == l) may.next (use_elsewhere b m l) own h.uses in
    subst (λ x. Accounts (entered b (action.NeedCreds d m)) l c (asked ++ asked_by l (action.NeedCreds d m)) x) (sym (append-nil new)) (record {
      link = asked_link (m == l) (b.link l) d c asked new
          (λ t.
          let due : source_due (b.link l) ≡ true = subst (λ j. source_due (b.link j) ≡ true) (eq_from m l t) may.due in
          asked_has (b.link l) d c asked new due (up_is_asked b l sound.links (source_is_up (b.link l) due)) (sound.shaped l)
          (λ e. elim (item_behind asked d c 1 e) [
            | inl old ↦ absurd (let i : 1 < length asked = slice_get_within asked 1 c old in elim (own t) [ inl second ↦ omega (arith, i, second.1) | inr first ↦ omega (arith, i, first.1) ])
            | inr last ↦ h.early (let next : d ≡ length b.sources = may.next in omega (arith, next, last.1))
          ]) h.link) h.link;
      uses = uses;
      early = λ i. h.early (let long : length (b.sources ++ use_for b m ∷ []) ≡ length b.sources + 1 = length_push b.sources (use_for b m) in omega (arith, long, i));
    })

-- a link that is asked for now
connect_has : (x : Ledger) (c : ℕ) (asked : List ℕ) (new : List Credentials) (is_asked : Bool) → x.asked ≡ false → HasOf asked c new x → (y : Ledger) → y.creds.asked ≡ false → y.creds.renews ≡ false → HasOf asked c new y
connect_has x c asked new is_asked unasked h y none no_second =
    let empty : length asked ≡ 0 = h.counted ∙ ap (λ z. count_of z x.creds.renews) (h.unasked unasked) in
    record {
      counted = empty ∙ sym (ap (λ z. count_of z y.creds.renews) none);
      unasked = λ e. none;
      lives = λ r. absurd (not_both y.creds.renews no_second r);
      has = λ e. absurd (let i : 1 < length asked = slice_get_within asked 1 c e in omega (arith, i, empty));
    }

-- each action that may stand keeps the accounts
accounts_kept : (b : Book) (a : Action) (l c : ℕ) (asked : List ℕ) (new : List Credentials) → MayStand b a → Sound b → Accounts b l c asked new → Accounts (entered b a) l c (asked ++ asked_by l a) (new ++ brought_by c a)
accounts_kept b (action.Turn k (cause.Opening config word)) l c asked new may sound h = goes_on b (action.Turn k (cause.Opening config word)) l c asked new refl h.link h
accounts_kept b (action.Turn k (cause.Event e)) l c asked new may sound h =
    subst (λ x. Accounts (entered b (action.Turn k (cause.Event e))) l c x (new ++ given_by c e.kind)) (sym (append-nil asked)) (record {
      link = turn_accounts b k l c e.kind asked new (sound.shaped l) may.is_for.2 h;
      uses = h.uses;
      early = λ i. ap (λ (x : List Credentials). new ++ x) (unsaid b c e.kind may.is_for.2 i) ∙ (append-nil new ∙ h.early i);
    })
accounts_kept b (action.Connect m host port) l c asked new may sound h = goes_on b (action.Connect m host port) l c asked new refl
    (mine_keeps (HasOf asked c new) (m == l) (b.link l) (asks (info_in b.config) (wanted_in b.config) (hearing_in b.config) (is_last (settings_in b.config) b.attempt) (repeats_in (settings_in b.config) b.tracked))
    (λ t.
    let same : m ≡ l = eq_from m l t in
    let next : m ≡ b.links = may.next in
    connect_has (b.link l) c asked new true (sound.links.unasked l (omega (arith, same, next))).0 h.link (noted (b.link l) (asks (info_in b.config) (wanted_in b.config) (hearing_in b.config) (is_last (settings_in b.config) b.attempt) (repeats_in (settings_in b.config) b.tracked))) refl refl) h.link) h
accounts_kept b (action.Timer t ms what) l c asked new may sound h = goes_on b (action.Timer t ms what) l c asked new refl
    (timer_tells (HasOf asked c new) (b.link l) l what (λ on k is e. record { counted = h.link.counted; unasked = h.link.unasked; lives = h.link.lives; has = h.link.has }) (λ on is e. record { counted = h.link.counted; unasked = h.link.unasked; lives = h.link.lives; has = h.link.has }) h.link) h
accounts_kept b (action.Took who m count) l c asked new may sound h = goes_on b (action.Took who m count) l c asked new refl h.link h
accounts_kept b (action.Push m info) l c asked new may sound h = goes_on b (action.Push m info) l c asked new refl (push_keeps (HasOf asked c new) (m == l) info.kind (b.link l) h.link h.link h.link) h
accounts_kept b (action.Message msg) l c asked new may sound h = goes_on b (action.Message msg) l c asked new refl (tell_keeps (HasOf asked c new) (b.current == l) (b.link l) h.link h.link) h
accounts_kept b (action.Monitor v) l c asked new may sound h = goes_on b (action.Monitor v) l c asked new refl (tell_keeps (HasOf asked c new) (b.current == l) (b.link l) h.link h.link) h
accounts_kept b (action.NeedCreds d m) l c asked new may sound h = need_accounts b d m l c asked new may sound h
accounts_kept b (action.Generation g) l c asked new may sound h = goes_on b (action.Generation g) l c asked new refl h.link h
accounts_kept b (action.Round who m) l c asked new may sound h = goes_on b (action.Round who m) l c asked new refl h.link h
accounts_kept b (action.Close m) l c asked new may sound h = goes_on b (action.Close m) l c asked new refl
    (mine_keeps (HasOf asked c new) (m == l) (b.link l) (ends (b.turns - 1))
    (λ t. record { counted = h.link.counted; unasked = h.link.unasked; lives = λ r d. refl; has = λ e. record { first = (h.link.has e).first; all = λ u. absurd (cc u) } }) h.link) h
accounts_kept b (action.Write m bytes) l c asked new may sound h = goes_on b (action.Write m bytes) l c asked new refl (mine_keeps (HasOf asked c new) (m == l) (b.link l) (offers bytes) (λ t. h.link) h.link) h
accounts_kept b (action.Wait who kind) l c asked new may sound h = goes_on b (action.Wait who kind) l c asked new refl h.link h
accounts_kept b (action.Start m k who count len) l c asked new may sound h = goes_on b (action.Start m k who count len) l c asked new refl (mine_keeps (HasOf asked c new) (m == l) (b.link l) (begins (message_of b m who)) (λ t. h.link) h.link) h
accounts_kept b (action.Created x) l c asked new may sound h = goes_on b (action.Created x) l c asked new refl h.link h
accounts_kept b (action.Outcome n o) l c asked new may sound h = goes_on b (action.Outcome n o) l c asked new refl h.link h

-- what one action more asks for, and brings
asked_more : (l : ℕ) (t : List Action) (a : Action) → sources_asked l (t ++ a ∷ []) ≡ sources_asked l t ++ asked_by l a
asked_more l [] a = append-nil (asked_by l a)
asked_more l (x ∷ t) a = ap (λ (ys : List ℕ). asked_by l x ++ ys) (asked_more l t a) ∙ sym (append_assoc (asked_by l x) (sources_asked l t) (asked_by l a))

brought_more : (c : ℕ) (t : List Action) (a : Action) → brought c (t ++ a ∷ []) ≡ brought c t ++ brought_by c a
brought_more c [] a = append-nil (brought_by c a)
brought_more c (x ∷ t) a = ap (λ (ys : List Credentials). brought_by c x ++ ys) (brought_more c t a) ∙ sym (append_assoc (brought_by c x) (brought c t) (brought_by c a))

-- so it is of each front
abbrev pub AccountsIn : ℕ → ℕ → List Action → Type 0
AccountsIn l c t = Accounts (book t) l c (sources_asked l t) (brought c t)

accounts_grow : (l c : ℕ) → Grows (AccountsIn l c)
accounts_grow l c t a all may h =
    subst (λ b. Accounts b l c (sources_asked l (t ++ a ∷ [])) (brought c (t ++ a ∷ []))) (sym (book_more t a))
    (subst (λ x. Accounts (entered (book t) a) l c x (brought c (t ++ a ∷ []))) (sym (asked_more l t a))
    (subst (λ x. Accounts (entered (book t) a) l c (sources_asked l t ++ asked_by l a) x) (sym (brought_more c t a)) (accounts_kept (book t) a l c (sources_asked l t) (brought c t) may (sound_behind t all) h)))

pub accounts_behind : (front : List Action) (l c : ℕ) → AllStand blank_book front → AccountsIn l c front
unfolding book
accounts_behind front l c all = of_each_front (AccountsIn l c) front (accounts_grow l c) all (record {
  link = record { counted = refl; unasked = λ e. refl; lives = λ r. absurd (cc r); has = λ e. absurd (cc e) };
  uses = record { renews = λ s e. absurd (cc e); second = λ s e. absurd (cc e) };
  early = λ i. refl;
})
