-- What is told to a connection, or to a manager of connections, as plain data.
use Rattle.std.specs.Prelude.{ℕ, ◌==◌, if◌then◌else◌}
use Rattle.driver_model.specs.News.{News, silence, shut, told}
use Rattle.mux_client.specs.declared.event.ConnectionNews.{ConnectionNews}
use Rattle.mux_client.specs.declared.event.ConnectionNews.TheVariants as news

-- nothing; this has happened to the link of that number; the timer of request p, or of what subscribes again on a link, has fired,
-- or that of the wait behind an attempt of a generation; everything is closed
pub data Happening : Type 0 where
  nothing : Happening
  on_link : ℕ → News → Happening
  late_request : ℕ → Happening
  late_resubscription : ℕ → Happening
  rest_over : ℕ → ℕ → Happening
  closing : Happening

-- what was told
abbrev pub happened : ConnectionNews → Happening
happened news.Silence = nothing
happened (news.Link link what) = on_link link (told what)
happened (news.Late request) = late_request request.number
happened (news.ResubscriptionLate link) = late_resubscription link
happened (news.Rested generation attempt) = rest_over generation attempt
happened news.Shut = closing

-- what the link of this number sees of it
abbrev pub seen_on : ℕ → Happening → News
seen_on link nothing = silence
seen_on link (on_link named what) = if named == link then what else silence
seen_on link (late_request p) = silence
seen_on link (late_resubscription named) = silence
seen_on link (rest_over generation attempt) = silence
seen_on link closing = shut
