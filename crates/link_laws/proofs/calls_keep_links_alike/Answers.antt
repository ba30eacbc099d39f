use Rattle.link_laws.proofs.Cancels.{enqueue_alike, offer_alike, wrote_alike, cancel_alike, begin_alike, start_alike, bytes_alike, items_alike, close_alike, fault_alike}
use Rattle.link_laws.proofs.calls_keep_links_alike.Goals as goal

pub returns : goal.returns
returns c = record {
  enqueue = λ q id s t h. enqueue_alike id s t q h;
  offer = offer_alike;
  wrote = λ n id s t h. wrote_alike id s t n h;
  cancel = λ other id s t h. cancel_alike id other s t h;
  begin = λ q id s t h. begin_alike id s t q h;
  start = start_alike;
  bytes = λ h ready piece id s t same sets. bytes_alike id h ready s t piece same sets;
  items = λ h ready piece plain unwatched id s t same. items_alike id h ready s t piece plain unwatched same;
  close = close_alike;
  fault = λ f id s t out out' h o. fault_alike id f s t out out' h o;
}
