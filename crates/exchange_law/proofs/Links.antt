-- Moves of a station's line: what holds of any line; and characters that were not sent.
use Rattle.std.proofs.Common.{◌≡◌, ℕ, suc, ◌+◌, List, [], ◌∷◌, ◌++◌, length, arith, ap, sym, subst, append_assoc, append-nil}
use Rattle.host_devices.specs.declared.item.Item.{Item}
use Rattle.host_devices.specs.declared.item.Item.TheVariants.{Sent}
use Rattle.line_world.specs.Wire.{Line, sent}
use Rattle.honest_line.specs.Moves.{Passing}
use Rattle.honest_line.proofs.Passings.{GoBeside, any_first, later, moving_beside, passing_lost, passing_split, passing_then}
use Rattle.exchange_law.specs.Station.{Program}
use Rattle.exchange_law.specs.Line.{Link, Takes, Moves, MovesOn, Passes}
use Rattle.exchange_law.specs.Law.{said_all}

takes_beside : (program : Program) → GoBeside (Takes program)
takes_beside program keys x y t = record {
  c = t.c;
  rest = t.rest ++ keys;
  first = ap (λ down. down ++ keys) t.first;
  station' = t.station';
  answer = t.answer;
  meets = t.meets;
  now = ap (λ z. sent z keys) t.now;
}

pub go_beside : (program : Program) → GoBeside (Moves program)
go_beside program = moving_beside (Takes program) (takes_beside program)

pub moves_first : (program : Program) (items : List Item) (x y z : Link) → MovesOn program x y → Passes program y items z → Passes program x items z
moves_first program items x y z moves passes = any_first (Moves program) (go_beside program) items x y z moves passes

pub passes_then : (program : Program) (items more : List Item) (x y z : Link) → Passes program x items y → Passes program y more z → Passes program x (items ++ more) z
passes_then program items more x y z first passes = passing_then (Moves program) (go_beside program) items more x y z first passes

pub passes_split : (program : Program) (items more : List Item) (x y : Link) → Passes program x (items ++ more) y → (z : Link) × Passes program x items z × Passes program z more y
passes_split program items more x y passes = passing_split (Moves program) items more x y passes

passes_lost : (program : Program) (items : List Item) (key : ℕ) (x y : Link) → Passes program x items y → Passes program x (items ++ Sent key ∷ []) (later 1 y)
passes_lost program items key x y passes = passing_lost (Takes program) (takes_beside program) items key x y passes

-- a list that begins with characters that were sent
pub passing_keys : {M : Type 0} (Step : Line M → Line M → Type 0) (keys : List ℕ) (items : List Item) (x y : Line M) → Passing Step x (said_all keys ++ items) y → Passing Step (sent x keys) items y
passing_keys Step [] items x y passes = subst (λ down. Passing Step (record x { down = down }) items y) (sym (append-nil x.down)) passes
passing_keys Step (key ∷ keys) items x y passes =
    subst (λ down. Passing Step (record x { down = down }) items y) (append_assoc x.down (key ∷ []) keys) (passing_keys Step keys items (sent x (key ∷ [])) y passes)

-- a list that passed, and characters that were not sent, as of a line that lost these
pub passes_unsent : (program : Program) (keys : List ℕ) (items : List Item) (x y : Link) → Passes program x items y → Passes program x (items ++ said_all keys) (later (length keys) y)
passes_unsent program [] items x y passes =
    subst (λ n. Passes program x (items ++ []) (record y { lost = n })) (nothing_more y.lost) (subst (λ list. Passes program x list y) (sym (append-nil items)) passes)
  where
    nothing_more : (lost : ℕ) → lost ≡ 0 + lost
    nothing_more lost = omega arith
passes_unsent program (key ∷ keys) items x y passes =
    subst (λ n. Passes program x (items ++ said_all (key ∷ keys)) (record y { lost = n })) (turned (length keys) y.lost)
    (subst (λ list. Passes program x list (later (length keys) (later 1 y))) (append_assoc items (Sent key ∷ []) (said_all keys))
    (passes_unsent program keys (items ++ Sent key ∷ []) x (later 1 y) (passes_lost program items key x y passes)))
  where
    turned : (n lost : ℕ) → n + (1 + lost) ≡ suc n + lost
    turned n lost = omega arith
