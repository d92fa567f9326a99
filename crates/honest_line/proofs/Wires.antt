-- Moves of a line with ODT at its end: what holds of any line.
use Rattle.std.proofs.Common.{◌≡◌, ℕ, ◌+◌, List, [], ◌∷◌, ◌++◌, refl, arith, ap, subst}
use Rattle.line_world.specs.Wire.{Wire, sent}
use Rattle.host_devices.specs.declared.item.Item.{Item}
use Rattle.host_devices.specs.declared.item.Item.TheVariants.{Sent}
use Rattle.honest_line.specs.Moves.{Takes, Moves, MovesOn, Passes}
use Rattle.honest_line.specs.Honest.{resting, MovesJoin, MovedIsHonest}
use Rattle.honest_line.proofs.Passings.{Carries, GoBeside, any_carried, later, moving_beside, moving_later, none_any, one_any, passing_later, passing_lost, passing_then}

pub none_moves : (x : Wire) → MovesOn x x
none_moves x = none_any Moves x

pub one_first : (x z y : Wire) → Moves x z → MovesOn z y → MovesOn x y
one_first x z y move more = one_any Moves x z y move more

pub moves_carried : (f : Wire → Wire) → Carries Moves f → (x y : Wire) → MovesOn x y → MovesOn (f x) (f y)
moves_carried f carries x y moves = any_carried Moves f carries x y moves

takes_beside : GoBeside Takes
takes_beside keys x y (c, rest, is, now) = (c, rest ++ keys, ap (λ down. down ++ keys) is, ap (λ z. sent z keys) now)

pub sent_carries : GoBeside Moves
sent_carries = moving_beside Takes takes_beside

pub later_carries : (k : ℕ) → Carries Moves (later k)
later_carries k = moving_later Takes k takes_later
  where
    takes_later : Carries Takes (later k)
    takes_later x y (c, rest, is, now) = (c, rest, is, ap (later k) now)

pub passes_then : (items more : List Item) (x y z : Wire) → Passes x items y → Passes y more z → Passes x (items ++ more) z
passes_then items more x y z first passes = passing_then Moves sent_carries items more x y z first passes

pub moves_join : MovesJoin
moves_join a b c first second third items more lost lost_more one other =
    passes_then items more (resting a first 0) (resting b second lost) (resting c third (lost + lost_more)) one
    (subst (λ n. Passes (resting b second n) more (resting c third (lost + lost_more))) (none lost) (passing_later Moves lost (later_carries lost) more (resting b second 0) (resting c third lost_more) other))
  where
    none : (n : ℕ) → n + 0 ≡ n
    none n = omega arith

pub moved_is_honest : MovedIsHonest
moved_is_honest a b first second items lost few moved = record {
  waiting = first;
  few = few;
  end = resting b second lost;
  passes = moved;
  machine_is = refl;
  lost_is = refl;
}

-- a list that passed, and a key that the line lost: one loss more
pub passes_lost : (items : List Item) (key : ℕ) (x y : Wire) → Passes x items y → Passes x (items ++ Sent key ∷ []) (later 1 y)
passes_lost items key x y passes = passing_lost Takes takes_beside items key x y passes
