-- A list that grew by nothing, and one that grew twice.
use Rattle.std.proofs.Common.{List, [], ◌++◌, Option, Some, None, sym, ap, ◌∙◌, append-nil, append_assoc}
use Rattle.host_devices.specs.Told.{Gains, SaysNothing, Tells}

pub gains_none : {A : Type 0} → (old : Option (List A)) → Gains old old []
gains_none None = tt
gains_none (Some items) = sym (append-nil items)

pub gains_kept : {A : Type 0} → (old new : Option (List A)) → SaysNothing old new → Gains old new []
gains_kept None None k = tt
gains_kept None (Some same) k = absurd k
gains_kept (Some items) None k = absurd k
gains_kept (Some items) (Some same) k = k ∙ sym (append-nil items)

pub gains_join : {A : Type 0} → (a b c : Option (List A)) (one two : List A) → Gains a b one → Gains b c two → Gains a c (one ++ two)
gains_join None None None one two g h = tt
gains_join None None (Some all) one two g h = absurd h
gains_join None (Some grown) c one two g h = absurd g
gains_join (Some items) None c one two g h = absurd g
gains_join (Some items) (Some grown) None one two g h = absurd h
gains_join (Some items) (Some grown) (Some all) one two g h = h ∙ (ap (λ front. front ++ two) g ∙ append_assoc items one two)

pub tells_none : {A : Type 0} → (old : Option (List A)) → Tells old old []
tells_none None = tt
tells_none (Some items) = sym (append-nil items)

pub tells_join : {A : Type 0} → (a b c : Option (List A)) (one two : List A) → Tells a b one → Tells b c two → Tells a c (one ++ two)
tells_join None None None one two g h = tt
tells_join None None (Some all) one two g h = absurd h
tells_join None (Some grown) c one two g h = absurd g
tells_join (Some items) None None one two g h = tt
tells_join (Some items) None (Some all) one two g h = absurd h
tells_join (Some items) (Some grown) None one two g h = tt
tells_join (Some items) (Some grown) (Some all) one two g h = h ∙ (ap (λ front. front ++ two) g ∙ append_assoc items one two)
