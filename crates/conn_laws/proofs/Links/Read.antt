-- Bytes come: what they settle is answered, and bytes that begin no value end the link.
use Rattle.std.proofs.Common.{◌≡◌, inl, inr, ℕ, Bool, true, false, ◌||◌, List, [], ◌∷◌, ◌++◌, length, Some, None, if◌then◌else◌, refl, sym, ap, ◌∙◌, subst, append_assoc}
use Rattle.std.specs.List.{AllByRecursion}
use Rattle.containers.proofs.Choices.{not_both}
use Rattle.resp_value.specs.Data.{Data}
use Rattle.resp_read.specs.Values.{is_spoiled, values}
use Rattle.driver_model.specs.declared.action.Owner.{Owner}
use Rattle.driver_model.specs.declared.news.LinkFault.TheVariants as fault
use Rattle.driver_model.specs.News.{came}
use Rattle.link_core.specs.Dealing.{Dealing, dealing_with, taken_each}
use Rattle.link_core.specs.Link.{LinkState}
use Rattle.link_laws.specs.Settles.{settled_ids, wanted, awaited_ids, IsOwed}
use Rattle.link_laws.specs.Notices.{AreApart, SayTheSame}
use Rattle.link_laws.proofs.Once.{taken_keeps}
use Rattle.link_laws.proofs.TiedLink.{TiedLink, deals, has_read}
use Rattle.sub_tracker.specs.Subscribed.{Request as Call}
use Rattle.mux_conn.specs.declared.life.Life.TheVariants.{Ready}
use Rattle.mux_conn.specs.declared.request.Request.{Request}
use Rattle.mux_conn.specs.declared.request.Waiting.{Waiting}
use Rattle.mux_conn.specs.Connection.{is_outstanding}
use Rattle.mux_conn.specs.Requests.{is_open_at, is_unbegun_at}
use Rattle.legal_trace.specs.Ledger.{Ledger, by_fault, ending, ending_up, is_set_up, is_unreadable, Heard}
use Rattle.legal_trace.specs.Story.{Story}
use Rattle.conn_laws.proofs.Ties.Numbers.{IsIn, Rising, requests_in, requests_in-append, requests_behind}
use Rattle.conn_laws.proofs.Links.Server.{AreRenewed, IsSetUp}
use Rattle.conn_laws.proofs.Ties.Tied.{owner_of, queue_ids, IsEntry, TiedLines}
use Rattle.legal_trace.proofs.Setups.{ends_where_set}
use Rattle.conn_laws.proofs.Links.Greeted.{values_all}
use Rattle.conn_laws.proofs.Ties.States.{IsFit}
use Rattle.conn_laws.proofs.Ties.InLine.{kept_ids, IsInLine}
use Rattle.conn_laws.proofs.Requests.Settle.{replied_each}
use Rattle.conn_laws.proofs.Links.Told.{retells, well_told}
use Rattle.conn_laws.proofs.Links.Telling.{IsHeard}
use Rattle.mux_conn.specs.declared.renewal.Renewal.{Renewal}
use Rattle.driver_model.specs.declared.hearing.Hearing.{Hearing}
use Rattle.driver_model.specs.Hearing.{felt}
use Rattle.conn_laws.proofs.Internal.Own.{again_after}
use Rattle.conn_laws.proofs.Internal.Repeats.{IsRepeated}
use Rattle.mux_conn.specs.declared.again.Again.{Again}
use Rattle.conn_laws.proofs.Requests.Rounded.{placed_begun}
use Rattle.conn_laws.proofs.Ties.Ahead.{placed_open}
use Rattle.link_core.specs.declared.message.Entry.{Entry}

-- values that are taken leave entries as they are, but for what they got
taken_entries : (requests : List Request) (h : Hearing) (d : Dealing) (vs : List Data) → AllByRecursion (IsEntry requests) d.row → AllByRecursion (IsEntry requests) (taken_each h true d vs).row
taken_entries requests h d vs all = values_all (IsEntry requests) (λ e item k. elim k [ inl r ↦ inl (record { below = r.below; placed_at = r.placed_at }) | inr a ↦ inr (record { is = a.is; awaited_is = a.awaited_is; shape_is = a.shape_is }) ]) h true d vs all

-- those that bytes settle, and those still wanted, are those wanted before
read_wanted : (h : Hearing) (link : LinkState) (piece : List ℕ) → settled_ids (deals h true link piece).out ++ wanted (deals h true link piece).row ≡ wanted link.row
read_wanted h link piece = taken_keeps h true (dealing_with link.row) (values (link.rest ++ piece))

-- so it is of requests
pub read_asked : (h : Hearing) (link : LinkState) (piece : List ℕ) → requests_in (settled_ids (deals h true link piece).out) ++ requests_in (wanted (deals h true link piece).row) ≡ requests_in (wanted link.row)
read_asked h link piece = sym (requests_in-append (settled_ids (deals h true link piece).out) (wanted (deals h true link piece).row)) ∙ ap requests_in (read_wanted h link piece)

-- the lines, with those that are to be answered
pub read_lines : (story : ℕ → Story) (requests : List Request) (h : Hearing) (link : LinkState) (piece : List ℕ) (waiting admitted : List Waiting) (started : List ℕ) → TiedLines story requests link waiting admitted [] started
    → TiedLines story requests (has_read h true link piece) waiting admitted (requests_in (settled_ids (deals h true link piece).out)) started
read_lines story requests h link piece waiting admitted started k =
    let ids = requests_in (settled_ids (deals h true link piece).out) in
    let rows = requests_in (wanted (deals h true link piece).row) in
    let queue = awaited_ids link.queue in
    record {
      line = k.line;
      queued = k.queued;
      entries = taken_entries requests h (dealing_with link.row) (values (link.rest ++ piece)) k.entries;
      packs = k.packs;
      packed_in = k.packed_in;
      there = λ p e. elim (k.there p e) [
        | inl i ↦ inl (subst (λ ns. IsIn p ns) (ap (λ ns. ns ++ queue) (sym (read_asked h link piece)) ∙ append_assoc ids rows queue) i)
        | inr w ↦ inr w
      ];
    }

-- and are in line
pub read_in_line : (requests : List Request) (h : Hearing) (link : LinkState) (piece : List ℕ) (admitted waiting : List Waiting) → IsInLine requests link admitted waiting [] → IsInLine requests (has_read h true link piece) admitted waiting (requests_in (settled_ids (deals h true link piece).out))
read_in_line requests h link piece admitted waiting r =
    let ids = requests_in (settled_ids (deals h true link piece).out) in
    let rows = requests_in (wanted (deals h true link piece).row) in
    let later = queue_ids link.queue ++ kept_ids admitted waiting in
    subst (λ ns. Rising 0 ns (length requests)) (ap (λ ns. ns ++ later) (sym (read_asked h link piece)) ∙ append_assoc ids rows later) r

-- what ends the link is what can't be read on
pub read_ending : (after : Ledger) (told : ℕ) (piece : List ℕ) → after.heard ≡ came piece → after.up ≡ true → is_set_up after ≡ true → ending (retells after told after.parted) ≡ (if is_unreadable after then Some (by_fault (felt after.hearing fault.Parse)) else None)
read_ending after told piece heard up well = ends_where_set (retells after told after.parted) up (well_told after told after.parted ∙ well) ∙ ap (ending_up (retells after told after.parted)) heard

-- a link that is not broken is fit
pub read_fit : (size bound : ℕ) (h : Hearing) (link : LinkState) (piece : List ℕ) → IsFit size bound link → (has_read h true link piece).broken ≡ false → (x : LinkState) → Ready (has_read h true link piece) ≡ Ready x → IsFit size bound x
read_fit size bound h link piece fit sound x e = let same : has_read h true link piece ≡ x = cc in subst (IsFit size bound) same (record { sound = sound; size_is = fit.size_is; bound_is = fit.bound_is; within = fit.within })

-- the link that is up
--
-- what bytes that came on it leave is what its ledger has taken
pub record IsReadUp (l after : Ledger) (requests : List Request) (read : LinkState) (d : Dealing) (r : Renewal) (a : Again) (calls : List Call) : Type 0 where
  pub tied : TiedLink (owner_of requests) after read
  pub well : IsSetUp after
  pub renewed : AreRenewed after (replied_each r d.out)
  pub repeated : IsRepeated after calls r.within (again_after (is_outstanding a) a d.out)
  pub owed : AllByRecursion (IsOwed (owner_of requests) after) d.out
  pub heard : List Heard
  pub notices : after.notices ≡ l.notices ++ heard
  pub same : SayTheSame d.notices heard
  pub there : AllByRecursion (IsHeard after) heard
  pub apart : AreApart (owner_of requests) after d.notices heard 0 d.out
  pub strange : after.strange ≡ d.strange

-- what waits then, where what is subscribed again may have been answered
--
-- where no round has begun, no request's message is in a row
pub none_wanted : (requests : List Request) (row : List Entry) → AllByRecursion (IsEntry requests) row → ((p : ℕ) → is_open_at requests p ≡ true → is_unbegun_at requests p ≡ true) → requests_in (wanted row) ≡ []
none_wanted requests [] entries unbegun = refl
none_wanted requests (e ∷ es) entries unbegun = by_awaited e.awaited refl (none_wanted requests es entries.1 unbegun)
  where
    by_awaited : (x : Bool) → e.awaited ≡ x → requests_in (wanted es) ≡ [] → requests_in ((if x then e.id ∷ [] else []) ++ wanted es) ≡ []
    by_awaited false is rest = rest
    by_awaited true is rest = elim entries.0 [
      | inl r ↦ let at = r.placed_at is in absurd (not_both (is_unbegun_at requests e.id) (placed_begun requests e.id at) (unbegun e.id (placed_open requests e.id at)))
      | inr own ↦ requests_behind e.id (wanted es) own.is ∙ rest
    ]

-- what can't be read on is so of the link and of its ledger
pub unread_is : (name : ℕ → Owner) (after : Ledger) (read : LinkState) (d : Dealing) → TiedLink name after read → after.strange ≡ d.strange → is_unreadable after ≡ (read.broken || d.strange)
unread_is name after read d tied strange = (λ i. (ap is_spoiled tied.rest ∙ sym tied.broken) i || strange i)
