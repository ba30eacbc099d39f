-- What may be told a manager.
use Rattle.std.specs.Prelude.{◌≡◌, ℕ, true}
use Rattle.driver_model.specs.News.{News}
use Rattle.mux_conn.specs.Effects.{IsWithin}
use Rattle.conn_manager.specs.declared.manager.ConnectionManager.{ConnectionManager}
use Rattle.mux_client.specs.Events.{Happening, nothing, on_link, late_request, late_resubscription, rest_over, closing}
use Rattle.conn_manager.specs.Manager.{is_current}

-- no more bytes are taken of the link that was asked for last than were offered; of the others, which have ended, anything may be told
abbrev pub IsFittingOn : ConnectionManager → ℕ → News → Type 0
IsFittingOn m link news = is_current m.generations link ≡ true → IsWithin m.conn.life news

abbrev pub IsFitting : ConnectionManager → Happening → Type 0
IsFitting m (on_link link news) = IsFittingOn m link news
IsFitting m nothing = Unit {0}
IsFitting m (late_request p) = Unit {0}
IsFitting m (late_resubscription link) = Unit {0}
IsFitting m (rest_over number attempt) = Unit {0}
IsFitting m closing = Unit {0}
