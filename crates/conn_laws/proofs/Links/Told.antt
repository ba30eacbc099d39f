-- One notice is told of a link, or its end is: what this leaves as it is.
use Rattle.std.proofs.Common.{◌≡◌, ℕ, Bool, List, [], ◌∷◌, refl}
use Rattle.std.specs.List.{AllByRecursion}
use Rattle.driver_model.specs.declared.action.Owner.{Owner}
use Rattle.link_core.specs.declared.message.Settled.{Settled}
use Rattle.link_core.specs.Link.{LinkState}
use Rattle.link_laws.specs.Settles.{IsOwed}
use Rattle.link_laws.proofs.TiedLink.{TiedLink}
use Rattle.mux_conn.specs.declared.life.Life.{Life}
use Rattle.mux_conn.specs.declared.life.Life.TheVariants.{Resting, Dialing, Wanting, SettingUp, Ready, Ended}
use Rattle.legal_trace.specs.Ledger.{Ledger, is_set_up}
use Rattle.conn_laws.proofs.Ties.Tied.{TiedLife}
use Rattle.conn_laws.proofs.Links.SameSaid.{SameSaid, set_alike}

-- a ledger of which so many notices were told, and its end or not
abbrev pub retells : Ledger → ℕ → Bool → Ledger
retells l told parted = record l { told = told; parted = parted }

-- the same is said of it
pub same_told : (l : Ledger) (told : ℕ) (parted : Bool) → SameSaid l (retells l told parted)
same_told l told parted = record { starts = refl; dealt = refl; info = refl; hearing = refl; wanted = refl; given = refl }

-- whether it is set up
pub well_told : (l : Ledger) (told : ℕ) (parted : Bool) → is_set_up (retells l told parted) ≡ is_set_up l
well_told l told parted = set_alike l (retells l told parted) (same_told l told parted)

-- how far the link has come
pub life_told : (l : Ledger) (told : ℕ) (parted : Bool) (created : ℕ) (life : Life) → TiedLife l created life → TiedLife (retells l told parted) created life
life_told l told parted created Resting h = h
life_told l told parted created Dialing h = h
life_told l told parted created (Wanting link) h = h
life_told l told parted created (SettingUp link greeting) h = h
life_told l told parted created (Ready link) h = h
life_told l told parted created (Ended e) h = h

-- the tie of its link
pub link_told : (name : ℕ → Owner) (l : Ledger) (told : ℕ) (parted : Bool) (link : LinkState) → TiedLink name l link → TiedLink name (retells l told parted) link
link_told name l told parted link h = record {
  sent = h.sent;
  offer = h.offer;
  bound = h.bound;
  rest = h.rest;
  broken = h.broken;
  started = h.started;
  within = h.within;
  bytes = h.bytes;
  row = h.row;
}

-- and what its messages are owed
pub owed_told : (name : ℕ → Owner) (l : Ledger) (told : ℕ) (parted : Bool) (ss : List Settled) → AllByRecursion (IsOwed name l) ss → AllByRecursion (IsOwed name (retells l told parted)) ss
owed_told name l told parted [] all = tt
owed_told name l told parted (s ∷ ss) all = (record { number = all.0.number; of_shape = all.0.of_shape; place = all.0.place; owes = all.0.owes }, owed_told name l told parted ss all.1)
