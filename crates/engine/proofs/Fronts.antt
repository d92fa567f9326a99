-- Fronts of lists.
use Rattle.std.proofs.Common.{◌≡◌, ℕ, ◌+◌, ◌<◌, List, [], ◌∷◌, ◌++◌, length, take, drop, get_or, Option, refl, ap, sym, subst, ◌∙◌, append-nil}
use Rattle.std.proofs.lemmas.List.{take-append-drop, take_more, drop_more}
use Rattle.host_devices.specs.declared.item.Item.{Item}
use Rattle.host_devices.specs.declared.item.Item.TheVariants.{Sent}
use Rattle.host_devices.specs.Told.{Gains, SaysNothing}
use Rattle.host_devices.proofs.Told.{gains_kept, gains_join}
use Rattle.engine.specs.Giving.{GainsFront, IsFront}
use Rattle.engine.specs.Ways.{said_all}

pub split_at : {A : Type 0} (xs : List A) (k : ℕ) (d : A) → k < length xs → xs ≡ take k xs ++ get_or xs k d ∷ drop (k + 1) xs
split_at xs k d less = sym (take-append-drop k xs) ∙ ap (λ r. take k xs ++ r) (drop_more xs k d less)

pub front_at : {A : Type 0} (xs : List A) (k : ℕ) (d : A) → k < length xs → IsFront xs (take k xs)
front_at xs k d less = record { next = get_or xs k d; rest = drop (k + 1) xs; is = split_at xs k d less }

pub said_append : (keys more : List ℕ) → said_all (keys ++ more) ≡ said_all keys ++ said_all more
said_append [] more = refl
said_append (key ∷ keys) more = ap (λ items. Sent key ∷ items) (said_append keys more)

pub sent_more : (keys : List ℕ) (k : ℕ) (d : ℕ) (line line' line'' : Option (List Item)) → k < length keys → Gains line line' (said_all (take k keys)) → Gains line' line'' (Sent (get_or keys k d) ∷ []) → Gains line line'' (said_all (take (k + 1) keys))
sent_more keys k d line line' line'' less first more =
    subst (Gains line line'') (sym (ap said_all (take_more keys k d less) ∙ said_append (take k keys) (get_or keys k d ∷ []))) (gains_join line line' line'' (said_all (take k keys)) (Sent (get_or keys k d) ∷ []) first more)

pub gains_still : {A : Type 0} (a b c : Option (List A)) (items : List A) → Gains a b items → SaysNothing b c → Gains a c items
gains_still a b c items g nothing = subst (Gains a c) (append-nil items) (gains_join a b c items [] g (gains_kept b c nothing))

pub sent_stops : (keys : List ℕ) (k : ℕ) (line line' line'' : Option (List Item)) → k < length keys → Gains line line' (said_all (take k keys)) → SaysNothing line' line'' → GainsFront line line'' keys
sent_stops keys k line line' line'' less first nothing = (take k keys, front_at keys k 0 less, gains_still line line' line'' (said_all (take k keys)) first nothing)
