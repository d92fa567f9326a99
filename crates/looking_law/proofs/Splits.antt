-- An honest line splits where one host ends and the next begins.
use Rattle.std.proofs.Common.{◌≡◌, ℕ, zero, suc, ◌+◌, ◌≤◌, List, [], ◌∷◌, ◌++◌, length, inl, inr, refl, arith, ap, sym, subst, ◌∙◌, append-nil}
use Rattle.std.specs.List.{remove}
use Rattle.std.proofs.lemmas.List.Edits.{length-remove}
use Rattle.odt_machine.specs.KeyTable.{take_of}
use Rattle.host_core.specs.declared.heard.Heard.{Heard}
use Rattle.host_core.specs.declared.heard.Heard.TheVariants.{Got, Quiet}
use Rattle.line_world.specs.Invariant.{OneWay}
use Rattle.line_world.specs.Wire.{Wire, heard, sent, with_answer, without_down, without_up}
use Rattle.host_devices.specs.declared.item.Item.{Item}
use Rattle.host_devices.specs.declared.item.Item.TheVariants.{Sent, Heard as Came}
use Rattle.honest_line.specs.Moves.{Gives, Moves, MovesOn, MovesTimes, Passes}
use Rattle.honest_line.specs.Honest.{resting}
use Rattle.honest_line.proofs.Passings.{later}
use Rattle.honest_line.proofs.Wires.{none_moves, one_first, passes_then}
use Rattle.looking_law.specs.Splitting.{BeginsByListening, HonestLinesSplit, IsTidy}
use Rattle.looking_law.proofs.Answers.{answer_short}

-- ---- where the first list ends

pub passes_split : (items more : List Item) (x y : Wire) → Passes x (items ++ more) y → (z : Wire) × Passes x items z × Passes z more y
passes_split [] more x y passes = (x, none_moves x, passes)
passes_split (Sent key ∷ items) more x y passes = passes_split items more (sent x (key ∷ [])) y passes
passes_split (Came what ∷ items) more x y (w, v, before, gives, passes) =
    let rest = passes_split items more v y passes in
    (rest.0, (w, v, before, gives, rest.1), rest.2)

pub passes_on : (items : List Item) (x y z : Wire) → Passes x items y → MovesOn y z → Passes x items z
passes_on items x y z passes moves = subst (λ list. Passes x list z) (append-nil items) (passes_then items [] x y z passes moves)

-- ---- the key that is under way there

-- the line comes to rest, few answers wait, and the list passes from there
record Rests (x : Wire) (more : List Item) (y : Wire) : Type 0 where
  pub rest : Wire
  pub moves : MovesOn x rest
  pub few : length rest.up ≤ 32
  pub last : Wire
  pub passes : Passes (resting rest.machine rest.up rest.lost) more last
  pub machine : last.machine ≡ y.machine
  pub lost : last.lost ≡ y.lost

rests_there : (x z : Wire) (more : List Item) (y : Wire) → MovesOn x z → z.down ≡ [] → length z.up ≤ 32 → Passes z more y → Rests x more y
rests_there x z more y moves none few passes = record {
  rest = z;
  moves = moves;
  few = few;
  last = y;
  passes = subst (λ down. Passes (record z { down = down }) more y) none passes;
  machine = refl;
  lost = refl;
}

no_more : (c d : ℕ) (keys rest : List ℕ) → keys ≡ c ∷ [] → keys ≡ d ∷ rest → rest ≡ []
no_more c d keys rest one is = cc

none_left : (keys : List ℕ) → length keys ≡ 0 → keys ≡ []
none_left [] none = refl
none_left (c ∷ keys) none = absurd (omega (arith, none))

-- the first move takes the one key, or loses it
key_goes : (x z : Wire) (c : ℕ) → x.down ≡ c ∷ [] → x.up ≡ [] → Moves x z → (z.down ≡ []) × (length z.up ≤ 32)
key_goes x z c one none (inl (d, rest, is, now)) =
    subst (λ (w : Wire). (w.down ≡ []) × (length w.up ≤ 32)) (sym now)
    (no_more c d x.down rest one is, subst (λ (up : List ℕ). length (up ++ (take_of x.machine d).answer) ≤ 32) (sym none) (omega (arith, answer_short x.machine d)))
key_goes x z c one none (inr (inl (k, below, now))) =
    subst (λ (w : Wire). (w.down ≡ []) × (length w.up ≤ 32)) (sym now)
    (none_left (remove x.down k) (omega (arith, length-remove x.down k below, ap length one)), omega (arith, ap length none))
key_goes x z c one none (inr (inr (k, below, now))) = absurd (omega (arith, below, ap length none))

nothing_heard : (what : Heard) (x v : Wire) (c : ℕ) → x.down ≡ c ∷ [] → x.up ≡ [] → Gives x what v → ⊥
nothing_heard (Got d) x v c one none (rest, is, now) = clash (sym none ∙ is)
  where
    clash : [] ≡ d ∷ rest → ⊥
    clash e = absurd (cc e)
nothing_heard Quiet x v c one none (empty, silent, now) = clash (sym empty ∙ one)
  where
    clash : [] ≡ c ∷ [] → ⊥
    clash e = absurd (cc e)

-- nothing moves any more: the machine stays as it is
never_goes : (n : ℕ) (x y : Wire) (c : ℕ) → x.down ≡ c ∷ [] → x.up ≡ [] → MovesTimes n x y → Rests x [] y
never_goes zero x y c one none same = record {
  rest = x;
  moves = none_moves x;
  few = omega (arith, ap length none);
  last = resting x.machine x.up x.lost;
  passes = none_moves (resting x.machine x.up x.lost);
  machine = ap (λ (z : Wire). z.machine) (sym same);
  lost = ap (λ (z : Wire). z.lost) (sym same);
}
never_goes (suc n) x y c one none (z, move, rest) =
    let gone = key_goes x z c one none move in
    rests_there x z [] y (one_first x z z move (none_moves z)) gone.0 gone.1 (n, rest)

goes_before : (n : ℕ) (what : Heard) (more : List Item) (x z v y : Wire) (c : ℕ) → x.down ≡ c ∷ [] → x.up ≡ [] → MovesTimes n x z → Gives z what v → Passes v more y → Rests x (Came what ∷ more) y
goes_before zero what more x z v y c one none same gives passes = absurd (nothing_heard what x v c one none (subst (λ w. Gives w what v) same gives))
goes_before (suc n) what more x z v y c one none (w, move, rest) gives passes =
    let gone = key_goes x w c one none move in
    rests_there x w (Came what ∷ more) y (one_first x w w move (none_moves w)) gone.0 gone.1 (z, v, (n, rest), gives, passes)

key_rests : (more : List Item) (x y : Wire) (c : ℕ) → x.down ≡ c ∷ [] → x.up ≡ [] → BeginsByListening more → Passes x more y → Rests x more y
key_rests [] x y c one none begins moves = never_goes moves.0 x y c one none moves.1
key_rests (Sent key ∷ more) x y c one none begins passes = absurd begins
key_rests (Came what ∷ more) x y c one none begins (z, v, before, gives, passes) = goes_before before.0 what more x z v y c one none before.1 gives passes

down_rests : (down : List ℕ) (more : List Item) (x y : Wire) → x.down ≡ down → OneWay down x.up → length x.up ≤ 32 → BeginsByListening more → Passes x more y → Rests x more y
down_rests [] more x y is one few begins passes = rests_there x x more y (none_moves x) is few passes
down_rests (c ∷ down) more x y is one few begins passes = key_rests more x y c (is ∙ ap (λ keys. c ∷ keys) one.0) one.1 begins passes

rests : (more : List Item) (x y : Wire) → IsTidy x → BeginsByListening more → Passes x more y → Rests x more y
rests more x y tidy begins passes = down_rests x.down more x y refl tidy.one_way tidy.few begins passes

-- before anything is heard a key that was still under way was taken or lost
pub record HasRested (x : Wire) (more : List Item) (y : Wire) : Type 0 where
  pub rest : Wire
  pub moves : MovesOn x rest
  pub none_down : rest.down ≡ []
  pub few : length rest.up ≤ 32
  pub passes : Passes rest more y

down_heard : (down : List ℕ) (what : Heard) (more : List Item) (x z v y : Wire) (n : ℕ) → x.down ≡ down → OneWay down x.up → length x.up ≤ 32 → MovesTimes n x z → Gives z what v → Passes v more y → HasRested x (Came what ∷ more) y
down_heard [] what more x z v y n is one few moves gives passes = record { rest = x; moves = none_moves x; none_down = is; few = few; passes = (z, v, (n, moves), gives, passes) }
down_heard (c ∷ down) what more x z v y zero is one few same gives passes =
    absurd (nothing_heard what x v c (is ∙ ap (λ keys. c ∷ keys) one.0) one.1 (subst (λ w. Gives w what v) same gives))
down_heard (c ∷ down) what more x z v y (suc n) is one few (w, move, rest) gives passes =
    let gone = key_goes x w c (is ∙ ap (λ keys. c ∷ keys) one.0) one.1 move in
    record { rest = w; moves = one_first x w w move (none_moves w); none_down = gone.0; few = gone.1; passes = (z, v, (n, rest), gives, passes) }

pub heard_rests : (what : Heard) (more : List Item) (x y : Wire) → IsTidy x → Passes x (Came what ∷ more) y → HasRested x (Came what ∷ more) y
heard_rests what more x y tidy (z, v, before, gives, passes) = down_heard x.down what more x z v y before.0 refl tidy.one_way tidy.few before.1 gives passes

-- ---- losses that were there before are counted apart

-- what became of a line is one on which so many fewer were lost
abbrev Fewer : ℕ → Wire → (Wire → Type 0) → Type 0
Fewer k y P = (z : Wire) × (y ≡ later k z) × P z

one_more : (k n : ℕ) → k + n + 1 ≡ k + (n + 1)
one_more k n = omega arith

move_fewer : (k : ℕ) (x y : Wire) → Moves (later k x) y → Fewer k y (Moves x)
move_fewer k x y (inl (c, rest, is, now)) = (with_answer x rest (take_of x.machine c), now, inl (c, rest, is, refl))
move_fewer k x y (inr (inl (i, below, now))) =
    (without_down x i, now ∙ ap (λ n. record x { down = remove x.down i; lost = n }) (one_more k x.lost), inr (inl (i, below, refl)))
move_fewer k x y (inr (inr (i, below, now))) =
    (without_up x i, now ∙ ap (λ n. record x { up = remove x.up i; lost = n }) (one_more k x.lost), inr (inr (i, below, refl)))

times_fewer : (k n : ℕ) (x y : Wire) → MovesTimes n (later k x) y → Fewer k y (MovesOn x)
times_fewer k zero x y same = (x, same, none_moves x)
times_fewer k (suc n) x y (w, move, rest) =
    let one = move_fewer k x w move in
    let more = times_fewer k n one.0 y (subst (λ v. MovesTimes n v y) one.1 rest) in
    (more.0, more.1, one_first x one.0 more.0 one.2 more.2)

gives_fewer : (k : ℕ) (what : Heard) (x y : Wire) → Gives (later k x) what y → Fewer k y (Gives x what)
gives_fewer k (Got c) x y (rest, is, now) = (heard x rest, now, (rest, is, refl))
gives_fewer k Quiet x y (none, empty, now) = (x, now, (none, empty, refl))

pub passes_fewer : (k : ℕ) (items : List Item) (x y : Wire) → Passes (later k x) items y → Fewer k y (Passes x items)
passes_fewer k [] x y moves = times_fewer k moves.0 x y moves.1
passes_fewer k (Sent key ∷ items) x y passes = passes_fewer k items (sent x (key ∷ [])) y passes
passes_fewer k (Came what ∷ items) x y (w, v, before, gives, passes) =
    let one = times_fewer k before.0 x w before.1 in
    let next = gives_fewer k what one.0 v (subst (λ u. Gives u what v) one.1 gives) in
    let more = passes_fewer k items next.0 y (subst (λ u. Passes u items y) next.1 passes) in
    (more.0, more.1, (one.0, next.0, one.2, next.2, more.2))

-- ---- the law

pub nothing_lost : (k : ℕ) → k ≡ k + 0
nothing_lost k = omega arith

pub lines_split : HonestLinesSplit
lines_split machine now items more lost tidy begins honest =
    let parts = passes_split items more (resting machine honest.waiting 0) honest.end honest.passes in
    let here : Rests parts.0 more honest.end = rests more parts.0 honest.end (tidy honest.waiting parts.0 honest.few parts.1) begins parts.2 in
    let rest : Wire = here.rest in
    let next : Fewer rest.lost here.last (Passes (resting rest.machine rest.up 0) more) =
    passes_fewer rest.lost more (resting rest.machine rest.up 0) here.last (subst (λ n. Passes (resting rest.machine rest.up n) more here.last) (nothing_lost rest.lost) here.passes) in
    let end : Wire = next.0 in
    record {
      between = rest.machine;
      lost_before = rest.lost;
      lost_after = end.lost;
      before = record {
        waiting = honest.waiting;
        few = honest.few;
        end = rest;
        passes = passes_on items (resting machine honest.waiting 0) parts.0 rest parts.1 here.moves;
        machine_is = refl;
        lost_is = refl;
      };
      after = record {
        waiting = rest.up;
        few = here.few;
        end = end;
        passes = next.2;
        machine_is = ap (λ (w : Wire). w.machine) (sym next.1) ∙ (here.machine ∙ honest.machine_is);
        lost_is = refl;
      };
      losses = ap (λ (w : Wire). w.lost) (sym next.1) ∙ (here.lost ∙ honest.lost_is);
    }
