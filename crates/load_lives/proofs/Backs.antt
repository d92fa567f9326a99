-- The last turn of a host taken back, at a station's line.
use Rattle.std.proofs.Common.{◌≡◌, ℕ, zero, suc, ◌+◌, ◌<◌, List, [], ◌∷◌, ◌++◌, length, inl, inr, refl, arith, ap, sym, subst, ◌∙◌, append-nil}
use Rattle.std.specs.List.{remove}
use Rattle.host_core.specs.declared.heard.Heard.{Heard}
use Rattle.host_core.specs.declared.heard.Heard.TheVariants.{Got, Quiet}
use Rattle.host_devices.specs.declared.item.Item.{Item}
use Rattle.host_devices.specs.declared.item.Item.TheVariants.{Sent, Heard as Came}
use Rattle.exchange_law.specs.Station.{Program}
use Rattle.honest_line.specs.Moves.{Gives}
use Rattle.exchange_law.specs.Line.{Link, Moves, MovesOn, MovesTimes, Passes}
use Rattle.honest_line.proofs.Passings.{later}
use Rattle.exchange_law.proofs.Links.{passes_then}

heard_last : (program : Program) (front : List Item) (last : Heard) (x y : Link) → Passes program x (front ++ Came last ∷ []) y → (z : Link) × (v : Link) × Passes program x front z × Gives z last v × MovesOn program v y
heard_last program [] last x y (z, v, moves, gives, after) = (z, v, moves, gives, after)
heard_last program (Sent key ∷ front) last x y passes = heard_last program front last (record x { down = x.down ++ key ∷ [] }) y passes
heard_last program (Came what ∷ front) last x y (u, w, moves, gives, passes) = let more = heard_last program front last w y passes in (more.0, more.1, (u, w, moves, gives, more.2), more.3, more.4)

one_later : (k n : ℕ) → k + (n + 1) ≡ k + n + 1
one_later k n = omega arith

move_later : (program : Program) (k : ℕ) (x y : Link) → Moves program x y → Moves program (later k x) (later k y)
move_later program k x y (inl t) = inl (record { c = t.c; rest = t.rest; first = t.first; station' = t.station'; answer = t.answer; meets = t.meets; now = ap (later k) t.now })
move_later program k x y (inr (inl (i, below, now))) = inr (inl (i, below, ap (later k) now ∙ ap (λ n. record x { down = remove x.down i; lost = n }) (one_later k x.lost)))
move_later program k x y (inr (inr (i, below, now))) = inr (inr (i, below, ap (later k) now ∙ ap (λ n. record x { up = remove x.up i; lost = n }) (one_later k x.lost)))

times_later : (program : Program) (k n : ℕ) (x y : Link) → MovesTimes program n x y → MovesTimes program n (later k x) (later k y)
times_later program k zero x y same = ap (later k) same
times_later program k (suc n) x y (z, move, rest) = (later k z, move_later program k x z move, times_later program k n z y rest)

-- a character that was heard may as well have been lost, and where nothing was heard nothing was
unheard : (program : Program) (last : Heard) (z v y : Link) → Gives z last v → MovesOn program v y → (lost : ℕ) × MovesOn program z (record y { lost = lost })
unheard program (Got c) z v y (rest, is, now) moves = (1 + y.lost, (suc moves.0, (later 1 v, loses, times_later program 1 moves.0 v y moves.1)))
  where
    turned : (n : ℕ) → 1 + n ≡ n + 1
    turned n = omega arith

    lost_first : (up : List ℕ) → up ≡ c ∷ rest → (0 < length up) × (remove up 0 ≡ rest)
    lost_first up e = subst (λ (l : List ℕ). (0 < length l) × (remove l 0 ≡ rest)) (sym e) (omega arith, refl)

    loses : Moves program z (later 1 v)
    loses = inr (inr (0, (lost_first z.up is).0, ap (later 1) now ∙ (ap (λ n. record z { up = rest; lost = n }) (turned z.lost) ∙ ap (λ up. record z { up = up; lost = z.lost + 1 }) (sym (lost_first z.up is).1))))
unheard program Quiet z v y (none, empty, now) moves = (y.lost, subst (λ w. MovesOn program w y) now moves)

-- without its last turn the dialogue passed as well
pub back : (program : Program) (front : List Item) (last : Heard) (x y : Link) → Passes program x (front ++ Came last ∷ []) y → (lost : ℕ) × Passes program x front (record y { lost = lost })
back program front last x y passes =
    let h = heard_last program front last x y passes in
    let u = unheard program last h.0 h.1 y h.3 h.4 in
    (u.0, subst (λ l. Passes program x l (record y { lost = u.0 })) (append-nil front) (passes_then program front [] x h.0 (record y { lost = u.0 }) h.2 u.1))
