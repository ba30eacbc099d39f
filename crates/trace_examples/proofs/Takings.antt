-- What becomes of values that come.
use Rattle.std.proofs.Common.{Bool, true, false, List, [], ◌∷◌, refl}
use Rattle.std.specs.Fmt.{digits}
use Rattle.std.specs.List.{All, AllByRecursion}
use Rattle.std.proofs.lemmas.List.Elements.{All-nil, All-cons}
use Rattle.resp_value.specs.Kinds.{kind_of}
use Rattle.resp_read.specs.Grammar.{max_depth}
use Rattle.resp_read.specs.Values.{values, left_over, is_spoiled}
use Rattle.resp_read.specs.Items.{items}
use Rattle.driver_model.specs.declared.hearing.Hearing.{Hearing}
use Rattle.driver_model.specs.declared.hearing.Hearing.TheVariants as hearing
use Rattle.legal_trace.specs.Managers.{settings_in, is_lazy}
use Rattle.trace_examples.specs.Takings.{goes, ends_it, goes_and_is_told, is_told, is_left, Becomes, IsMessage, IsMonitored, answering_arrays, answering_pushes, message_arrays, message_pushes, strange_arrays, strange_pushes, other_values, message_array, confirming_array, message_push, confirming_push, invalidating_push, confirmation, invalidation, monitored}

-- what holds of each, one after another, holds of all
each : {A : Type 0} (P : A → Type 0) (xs : List A) → AllByRecursion P xs → All P xs
each P [] h = All-nil P
each P (x ∷ xs) h = All-cons P x xs h.0 (each P xs h.1)

-- arrays that answer go to the oldest call
pub arrays_that_answer : (awaited : Bool) → All (Becomes hearing.Messages true awaited goes) answering_arrays
unfolding digits settings_in is_lazy items values left_over is_spoiled max_depth kind_of
arrays_that_answer awaited = each (Becomes hearing.Messages true awaited goes) answering_arrays (refl, (refl, (refl, (refl, (refl, tt)))))

-- and so do pushes that do
pub pushes_that_answer : (awaited : Bool) → All (Becomes hearing.Messages true awaited goes) answering_pushes
unfolding digits settings_in is_lazy items values left_over is_spoiled max_depth kind_of
pushes_that_answer awaited = each (Becomes hearing.Messages true awaited goes) answering_pushes (refl, (refl, (refl, (refl, (refl, (refl, tt))))))

-- messages are told
pub arrays_that_are_messages : All IsMessage message_arrays
unfolding digits settings_in is_lazy items values left_over is_spoiled max_depth kind_of
arrays_that_are_messages = each IsMessage message_arrays ((λ awaited. refl), ((λ awaited. refl), ((λ awaited. refl), ((λ awaited. refl), ((λ awaited. refl), ((λ awaited. refl), tt))))))

-- as arrays and as pushes
pub pushes_that_are_messages : All IsMessage message_pushes
unfolding digits settings_in is_lazy items values left_over is_spoiled max_depth kind_of
pushes_that_are_messages = each IsMessage message_pushes ((λ awaited. refl), ((λ awaited. refl), ((λ awaited. refl), ((λ awaited. refl), ((λ awaited. refl), tt)))))

-- every other array ends the link
pub arrays_that_end_the_link : (awaited : Bool) → All (Becomes hearing.Messages true awaited ends_it) strange_arrays
unfolding digits settings_in is_lazy items values left_over is_spoiled max_depth kind_of
arrays_that_end_the_link awaited = each (Becomes hearing.Messages true awaited ends_it) strange_arrays (refl, (refl, (refl, (refl, (refl, (refl, (refl, (refl, (refl, tt)))))))))

-- and every other push
pub pushes_that_end_the_link : (awaited : Bool) → All (Becomes hearing.Messages true awaited ends_it) strange_pushes
unfolding digits settings_in is_lazy items values left_over is_spoiled max_depth kind_of
pushes_that_end_the_link awaited = each (Becomes hearing.Messages true awaited ends_it) strange_pushes (refl, (refl, (refl, (refl, (refl, tt)))))

-- any other value goes to the oldest call
pub others_that_are_awaited : All (Becomes hearing.Messages true true goes) other_values
unfolding digits settings_in is_lazy items values left_over is_spoiled max_depth kind_of
others_that_are_awaited = each (Becomes hearing.Messages true true goes) other_values (refl, (refl, (refl, (refl, (refl, (refl, (refl, (refl, (refl, (refl, (refl, (refl, (refl, (refl, tt))))))))))))))

-- and ends the link where none is open
pub others_that_end_the_link : All (Becomes hearing.Messages true false ends_it) other_values
unfolding digits settings_in is_lazy items values left_over is_spoiled max_depth kind_of
others_that_end_the_link = each (Becomes hearing.Messages true false ends_it) other_values (refl, (refl, (refl, (refl, (refl, (refl, (refl, (refl, (refl, (refl, (refl, (refl, (refl, (refl, tt))))))))))))))

-- before the link is set up items go to its setup
pub items_before_the_setup : (h : Hearing) (awaited : Bool) → All (Becomes h false awaited goes) (message_array ∷ confirming_push ∷ other_values)
unfolding digits settings_in is_lazy items values left_over is_spoiled max_depth kind_of
items_before_the_setup h awaited = each (Becomes h false awaited goes) (message_array ∷ confirming_push ∷ other_values) (refl, (refl, (refl, (refl, (refl, (refl, (refl, (refl, (refl, (refl, (refl, (refl, (refl, (refl, (refl, (refl, tt))))))))))))))))

-- and pushes without reply are left
pub pushes_before_the_setup : (h : Hearing) (awaited : Bool) → All (Becomes h false awaited is_left) (message_push ∷ invalidating_push ∷ [])
unfolding digits settings_in is_lazy items values left_over is_spoiled max_depth kind_of
pushes_before_the_setup h awaited = each (Becomes h false awaited is_left) (message_push ∷ invalidating_push ∷ []) (refl, (refl, tt))

-- so it is where nothing is heard
pub items_where_nothing_is_heard : (awaited : Bool) → All (Becomes hearing.Nothing true awaited goes) (message_array ∷ confirming_array ∷ confirming_push ∷ other_values)
unfolding digits settings_in is_lazy items values left_over is_spoiled max_depth kind_of
items_where_nothing_is_heard awaited = each (Becomes hearing.Nothing true awaited goes) (message_array ∷ confirming_array ∷ confirming_push ∷ other_values) (refl, (refl, (refl, (refl, (refl, (refl, (refl, (refl, (refl, (refl, (refl, (refl, (refl, (refl, (refl, (refl, (refl, tt)))))))))))))))))

-- of all of them
pub pushes_where_nothing_is_heard : (awaited : Bool) → All (Becomes hearing.Nothing true awaited is_left) (message_push ∷ invalidating_push ∷ [])
unfolding digits settings_in is_lazy items values left_over is_spoiled max_depth kind_of
pushes_where_nothing_is_heard awaited = each (Becomes hearing.Nothing true awaited is_left) (message_push ∷ invalidating_push ∷ []) (refl, (refl, tt))

-- items go to the oldest message where pushes are heard
pub items_where_pushes_are_heard : (awaited : Bool) → All (Becomes hearing.Pushes true awaited goes) (message_array ∷ confirming_array ∷ other_values)
unfolding digits settings_in is_lazy items values left_over is_spoiled max_depth kind_of
items_where_pushes_are_heard awaited = each (Becomes hearing.Pushes true awaited goes) (message_array ∷ confirming_array ∷ other_values) (refl, (refl, (refl, (refl, (refl, (refl, (refl, (refl, (refl, (refl, (refl, (refl, (refl, (refl, (refl, (refl, tt))))))))))))))))

-- one that is a push is told, too
pub confirmation_where_pushes_are_heard : (awaited : Bool) → Becomes hearing.Pushes true awaited (goes_and_is_told confirmation) confirming_push
unfolding digits settings_in is_lazy items values left_over is_spoiled max_depth kind_of
confirmation_where_pushes_are_heard awaited = refl

-- and so is a push without reply
pub push_where_pushes_are_heard : (awaited : Bool) → Becomes hearing.Pushes true awaited (is_told invalidation) invalidating_push
unfolding digits settings_in is_lazy items values left_over is_spoiled max_depth kind_of
push_where_pushes_are_heard awaited = refl

-- in monitor mode items are told
pub items_in_monitor_mode : All IsMonitored monitored
unfolding digits settings_in is_lazy items values left_over is_spoiled max_depth kind_of
items_in_monitor_mode = each IsMonitored monitored ((λ awaited. refl), ((λ awaited. refl), ((λ awaited. refl), ((λ awaited. refl), tt))))

-- and pushes without reply are left
pub pushes_in_monitor_mode : (awaited : Bool) → All (Becomes hearing.Monitor true awaited is_left) (message_push ∷ invalidating_push ∷ [])
unfolding digits settings_in is_lazy items values left_over is_spoiled max_depth kind_of
pushes_in_monitor_mode awaited = each (Becomes hearing.Monitor true awaited is_left) (message_push ∷ invalidating_push ∷ []) (refl, (refl, tt))
