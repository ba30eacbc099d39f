-- Whether two values are the same, as `==` tells. That it answers true exactly where they are the same value is a clause of `==`.
use Rattle.std.specs.Prelude.{Bool, true, false, ◌&&◌, bytes_eq}
use Rattle.std.specs.Option.{option_eq}
use Rattle.std.specs.Ordering.{int_eq}
use Rattle.resp_value.specs.declared.push_kind.PushKind.{PushKind}
use Rattle.resp_value.specs.declared.push_kind.PushKind.TheVariants.{Disconnection, Other, Invalidate, Message, PMessage, SMessage, Unsubscribe, PUnsubscribe, SUnsubscribe, Subscribe, PSubscribe, SSubscribe}
use Rattle.resp_value.specs.declared.server_error.ServerError.{ServerError}
use Rattle.resp_value.specs.Data.{Data, nil, int, bulk, array, simple, okay, dict, attribute, set, double, boolean, verbatim, big, push, error, Items, no_items, item, Members, no_members, member}

abbrev pub same_kind : PushKind → PushKind → Bool
same_kind (Other a) (Other b) = bytes_eq a b
same_kind Disconnection Disconnection = true
same_kind Invalidate Invalidate = true
same_kind Message Message = true
same_kind PMessage PMessage = true
same_kind SMessage SMessage = true
same_kind Unsubscribe Unsubscribe = true
same_kind PUnsubscribe PUnsubscribe = true
same_kind SUnsubscribe SUnsubscribe = true
same_kind Subscribe Subscribe = true
same_kind PSubscribe PSubscribe = true
same_kind SSubscribe SSubscribe = true
same_kind _ _ = false

abbrev pub same_error : ServerError → ServerError → Bool
same_error a b = bytes_eq a.code b.code && option_eq bytes_eq a.detail b.detail

abbrev pub same_truth : Bool → Bool → Bool
same_truth true true = true
same_truth false false = true
same_truth _ _ = false

abbrev mutual
  pub same : Data → Data → Bool
  same nil nil = true
  same (int m) (int n) = int_eq m n
  same (bulk a) (bulk b) = bytes_eq a b
  same (array ds) (array es) = same_items ds es
  same (simple a) (simple b) = bytes_eq a b
  same okay okay = true
  same (dict ms) (dict ns) = same_members ms ns
  same (attribute d ms) (attribute e ns) = same d e && same_members ms ns
  same (set ds) (set es) = same_items ds es
  same (double a) (double b) = bytes_eq a b
  same (boolean a) (boolean b) = same_truth a b
  same (verbatim s a) (verbatim t b) = bytes_eq s t && bytes_eq a b
  same (big a) (big b) = bytes_eq a b
  same (push j ds) (push k es) = same_kind j k && same_items ds es
  same (error d) (error e) = same_error d e
  same _ _ = false

  pub same_items : Items → Items → Bool
  same_items no_items no_items = true
  same_items (item d ds) (item e es) = same d e && same_items ds es
  same_items _ _ = false

  pub same_members : Members → Members → Bool
  same_members no_members no_members = true
  same_members (member j d ms) (member k e ns) = (same j k && same d e) && same_members ms ns
  same_members _ _ = false

-- of a key and its value
abbrev pub same_pair : Data × Data → Data × Data → Bool
same_pair p q = same p.0 q.0 && same p.1 q.1
