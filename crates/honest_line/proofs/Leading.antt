-- What passes over an honest line is a run of the world, with a host of any kind at the line's end: some events lead from what it was to what it became.
use Rattle.std.proofs.Common.{◌≡◌, ℕ, zero, suc, ◌<◌, Bool, true, false, ltb, List, [], ◌∷◌, ◌++◌, length, Some, None, unwrap_or, inl, inr, refl, arith, ap, sym, subst, ◌∙◌, append_assoc, append-nil}
use Rattle.std.proofs.lemmas.Bool.Decides.{nat_tests}
use Rattle.std.specs.Prelude.{if◌then◌else◌, option_to_list}
use Rattle.odt_machine.specs.KeyTable.{take_of}
use Rattle.host_core.specs.declared.heard.Heard.{Heard}
use Rattle.host_core.specs.declared.heard.Heard.TheVariants.{Got, Quiet as Silence}
use Rattle.line_world.specs.declared.event.Event.{Event}
use Rattle.line_world.specs.declared.event.Event.TheVariants.{Take, Hear, LoseDown, LoseUp, Quiet}
use Rattle.line_world.specs.Scene.{World, over, over_when}
use Rattle.line_world.specs.Wire.{Wire, with_answer, without_down, without_up, heard, sent}
use Rattle.line_world.specs.Happening.{Kind, takes, host_hears, times_out, happens, after, typed_hearing, typed_timeout, typed_in, typed}
use Rattle.honest_line.specs.Moves.{Moves, MovesTimes, MovesOn, Gives}

-- some events lead from one world to another, and these keys are typed in them
pub record Leads {H : Type 0} (kind : Kind H) (w : World H) (keys : List ℕ) (next : World H) : Type 0 where
  pub events : List Event
  pub world : after kind w events ≡ next
  pub keys_are : typed kind w events ≡ keys

-- ---- events one after another

leads_none : {H : Type 0} (kind : Kind H) (w : World H) → Leads kind w [] w
leads_none kind w = record { events = []; world = refl; keys_are = refl }

leads_one : {H : Type 0} (kind : Kind H) (w : World H) (event : Event) (keys : List ℕ) (next : World H) → happens kind w event ≡ next → typed_in kind w event ≡ keys → Leads kind w keys next
leads_one kind w event keys next world typing = record { events = event ∷ []; world = world; keys_are = append-nil (typed_in kind w event) ∙ typing }

after_then : {H : Type 0} (kind : Kind H) (w : World H) (events more : List Event) → after kind w (events ++ more) ≡ after kind (after kind w events) more
after_then kind w [] more = refl
after_then kind w (event ∷ events) more = after_then kind (happens kind w event) events more

typed_then : {H : Type 0} (kind : Kind H) (w : World H) (events more : List Event) → typed kind w (events ++ more) ≡ typed kind w events ++ typed kind (after kind w events) more
typed_then kind w [] more = refl
typed_then kind w (event ∷ events) more =
    ap (λ keys. typed_in kind w event ++ keys) (typed_then kind (happens kind w event) events more)
    ∙ sym (append_assoc (typed_in kind w event) (typed kind (happens kind w event) events) (typed kind (after kind (happens kind w event) events) more))

pub leads_then : {H : Type 0} (kind : Kind H) (a b c : World H) (keys more : List ℕ) → Leads kind a keys b → Leads kind b more c → Leads kind a (keys ++ more) c
leads_then kind a b c keys more first next = record {
  events = first.events ++ next.events;
  world = after_then kind a first.events next.events ∙ (ap (λ w. after kind w next.events) first.world ∙ next.world);
  keys_are = typed_then kind a first.events next.events ∙ (ap (λ w. typed kind a first.events ++ typed kind w next.events) first.world ∙ both first.keys_are next.keys_are);
}
  where
    both : {p q r s : List ℕ} → p ≡ q → r ≡ s → p ++ r ≡ q ++ s
    both e f = cc

-- ---- a move is an event

taking : {H : Type 0} (core : H) (x : Wire) (c : ℕ) (rest down : List ℕ) → down ≡ c ∷ rest → unwrap_or (takes (over core x) down) (over core x) ≡ over core (with_answer x rest (take_of x.machine c))
taking core x c rest down is = rw is refl

losing : {H : Type 0} (w next : World H) (k n : ℕ) → k < n → unwrap_or (if ltb k n then Some next else None) w ≡ next
losing {H} w next k n below = here (ltb k n) (under k n below)
  where
    under : (k n : ℕ) → k < n → ltb k n ≡ true
    under k n below = grind (arith, nat_tests)

    here : (test : Bool) → test ≡ true → unwrap_or (if test then Some next else None) w ≡ next
    here true e = refl
    here false e = absurd (cc)

move_leads : {H : Type 0} (kind : Kind H) (core : H) (x y : Wire) → Moves x y → Leads kind (over core x) [] (over core y)
move_leads kind core x y (inl (c, rest, is, now)) = leads_one kind (over core x) Take [] (over core y) (taking core x c rest x.down is ∙ ap (over core) (sym now)) refl
move_leads kind core x y (inr (inl (k, below, now))) =
    leads_one kind (over core x) (LoseDown k) [] (over core y) (losing (over core x) (over core (without_down x k)) k (length x.down) below ∙ ap (over core) (sym now)) refl
move_leads kind core x y (inr (inr (k, below, now))) =
    leads_one kind (over core x) (LoseUp k) [] (over core y) (losing (over core x) (over core (without_up x k)) k (length x.up) below ∙ ap (over core) (sym now)) refl

times_lead : {H : Type 0} (kind : Kind H) (core : H) (n : ℕ) (x y : Wire) → MovesTimes n x y → Leads kind (over core x) [] (over core y)
times_lead kind core zero x y same = subst (λ z. Leads kind (over core x) [] (over core z)) (sym same) (leads_none kind (over core x))
times_lead kind core (suc n) x y (z, move, rest) = leads_then kind (over core x) (over core z) (over core y) [] [] (move_leads kind core x z move) (times_lead kind core n z y rest)

pub moves_lead : {H : Type 0} (kind : Kind H) (core : H) (x y : Wire) → MovesOn x y → Leads kind (over core x) [] (over core y)
moves_lead kind core x y moves = times_lead kind core moves.0 x y moves.1

-- ---- a thing heard is an event, in which its key is sent

-- the line behind it
abbrev pub behind : {H : Type 0} → Kind H → H → Heard → Wire → World H
behind kind core what x = over (kind.next core what) (sent x (option_to_list (kind.key core what)))

-- a line that has changed nothing has still changed nothing
unchanged : (begins : Bool) → (if begins then false else false) ≡ false
unchanged true = refl
unchanged false = refl

pub hearing : {H : Type 0} (kind : Kind H) (core : H) (x : Wire) (c : ℕ) (rest up : List ℕ) → up ≡ c ∷ rest → unwrap_or (host_hears kind (over core x) up) (over core x) ≡ behind kind core (Got c) (heard x rest)
hearing kind core x c rest up is = rw is (ap (λ b. over_when b (kind.next core (Got c)) (sent (heard x rest) (option_to_list (kind.key core (Got c))))) (unchanged (kind.begins core (Got c))))

hearing_types : {H : Type 0} (kind : Kind H) (core : H) (x : Wire) (c : ℕ) (rest up : List ℕ) → up ≡ c ∷ rest → typed_hearing kind (over core x) up ≡ option_to_list (kind.key core (Got c))
hearing_types kind core x c rest up is = rw is refl

pub waiting : {H : Type 0} (kind : Kind H) (core : H) (x : Wire) (down up : List ℕ) → down ≡ [] → up ≡ [] → unwrap_or (times_out kind (over core x) down up) (over core x) ≡ behind kind core Silence (heard x up)
waiting kind core x down up none empty = rw (none, empty) (ap (λ b. over_when b (kind.next core Silence) (sent (heard x []) (option_to_list (kind.key core Silence)))) (unchanged (kind.begins core Silence)))

waiting_types : {H : Type 0} (kind : Kind H) (core : H) (x : Wire) (down up : List ℕ) → down ≡ [] → up ≡ [] → typed_timeout kind (over core x) down up ≡ option_to_list (kind.key core Silence)
waiting_types kind core x down up none empty = rw (none, empty) refl

pub gives_lead : {H : Type 0} (kind : Kind H) (core : H) (what : Heard) (x y : Wire) → Gives x what y → Leads kind (over core x) (option_to_list (kind.key core what)) (behind kind core what y)
gives_lead kind core (Got c) x y (rest, is, now) =
    leads_one kind (over core x) Hear _ _ (hearing kind core x c rest x.up is ∙ ap (behind kind core (Got c)) (sym now)) (hearing_types kind core x c rest x.up is)
gives_lead kind core Silence x y (none, empty, now) =
    leads_one kind (over core x) Quiet _ _ (waiting kind core x x.down x.up none empty ∙ ap (behind kind core Silence) (sym now)) (waiting_types kind core x x.down x.up none empty)
