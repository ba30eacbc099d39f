-- What is told to a connection as to anything like one.
use Rattle.std.proofs.Common.{◌≡◌, ◌⊎◌, inl, inr, ℕ, refl, subst, ap, ◌∙◌}
use Rattle.driver_model.specs.News.{News}
use Rattle.mux_client.specs.declared.connection.MultiplexedConnection.{MultiplexedConnection}
use Rattle.mux_conn.specs.declared.request.Pending.{Pending}
use Rattle.mux_client.specs.declared.event.ConnectionNews.{ConnectionNews}
use Rattle.mux_client.specs.declared.event.ConnectionNews.TheVariants as news
use Rattle.mux_client.specs.Events.{happened, Happening, nothing, on_link, late_request, late_resubscription, rest_over, closing, seen_on}
use Rattle.mux_client.specs.Like.{timed}

-- it has the link that it had
link_stays : (c : MultiplexedConnection) (what : Happening) → (timed c what).link ≡ c.link
link_stays c nothing = refl
link_stays c (on_link link news) = refl
link_stays c (late_request p) = refl
link_stays c (late_resubscription link) = refl
link_stays c (rest_over generation attempt) = refl
link_stays c closing = refl

-- so what its link sees behind the end of a request's time is what it would have seen before
pub told_on : (P : MultiplexedConnection → News → Type 0) (c timed_out : MultiplexedConnection) (what : Happening) (hears : News)
    → timed_out ≡ timed c what → hears ≡ seen_on timed_out.link what → P timed_out hears → P (timed c what) (seen_on c.link what)
told_on P c timed_out what hears late sees holds =
    let same = sees ∙ ap (λ (d : MultiplexedConnection). seen_on d.link what) late ∙ ap (λ (l : ℕ). seen_on l what) (link_stays c what) in
    subst (λ (d : MultiplexedConnection). P d (seen_on c.link what)) late (subst (P timed_out) same holds)

-- where no timer of a request has fired, no time is over
pub timely : (c : MultiplexedConnection) (what : ConnectionNews) → ((request : Pending) → what ≡ news.Late request → ⊥) → c ≡ timed c (happened what)
timely c news.Silence never = refl
timely c (news.Link link what) never = refl
timely c (news.Late request) never = absurd (never request refl)
timely c (news.ResubscriptionLate link) never = refl
timely c (news.Rested generation attempt) never = refl
timely c news.Shut never = refl

-- a further way that stands between two
pub between : {A B C : Type 0} → A ⊎ B → A ⊎ (C ⊎ B)
between (inl a) = inl a
between (inr b) = inr (inr b)
