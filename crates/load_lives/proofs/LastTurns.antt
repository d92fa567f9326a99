-- Dialogues that were broken off, and the turn that is taken back where its key was never sent.
use Rattle.std.proofs.Common.{◌≡◌, ℕ, ◌+◌, ◌<◌, ◌≤◌, Bool, true, false, nat_lt, List, [], ◌∷◌, ◌++◌, length, Option, Some, None, inr, refl, arith, ap, sym, subst, ◌∙◌, append-nil, append_assoc}
use Rattle.std.specs.List.{remove}
use Rattle.host_core.specs.declared.heard.Heard.{Heard}
use Rattle.host_core.specs.declared.heard.Heard.TheVariants.{Got, Quiet}
use Rattle.host_core.specs.declared.phase.Phase.TheVariants.{Settle, Sync, Address, Ended}
use Rattle.host_core.specs.declared.phase.Visit.TheVariants.{Look}
use Rattle.host_core.specs.declared.phase.End.TheVariants.{GaveUp}
use Rattle.host_core.specs.declared.turn.Turn.{Turn}
use Rattle.host_core.specs.declared.turn.Turn.TheVariants.{Listen, Key, Verified, Revisit, Next, Mark, Stop, Stray, Timeout}
use Rattle.host_core.specs.Console.{resynchronise_of}
use Rattle.host_core.specs.Core.{Core, word_under_way}
use Rattle.host_core.specs.Laws.{led}
use Rattle.host_core.specs.PhaseTable.{move, listens, sends, taken, turn_of, after_words}
use Rattle.host_core.proofs.Frame.{on_move}
use Rattle.octal.specs.Octal.{digit_of}
use Rattle.line_world.specs.Wire.{Wire}
use Rattle.host_devices.specs.declared.item.Item.{Item}
use Rattle.host_devices.specs.declared.item.Item.TheVariants.{Sent, Heard as Came}
use Rattle.host_devices.specs.Dialogue.{said, dialogue}
use Rattle.honest_line.specs.Moves.{Moves, MovesOn, Gives, Passes}
use Rattle.honest_line.proofs.Passings.{later}
use Rattle.honest_line.proofs.Wires.{one_first, moves_carried, later_carries, passes_then}

-- ---- where a dialogue was broken off

-- a front of a dialogue ends between two turns, or in the middle of one, before its key
pub data Broken (core : Core) (things : List Heard) (front rest : List Item) : Type 0 where
  between_turns : (first more : List Heard) → things ≡ first ++ more → front ≡ dialogue core first → rest ≡ dialogue (led core first) more → Broken core things front rest
  in_turn : (first : List Heard) (last : Heard) (more : List Heard) (key : ℕ) → things ≡ first ++ last ∷ more → front ≡ dialogue core first ++ Came last ∷ [] →
      (move (led core first) last).key ≡ Some key → rest ≡ Sent key ∷ dialogue (move (led core first) last).next more → Broken core things front rest

-- one whole turn before
turn_before : (core : Core) (what : Heard) (things : List Heard) (front all rest : List Item) → all ≡ Came what ∷ (said (move core what).key ++ front) →
    Broken (move core what).next things front rest → Broken core (what ∷ things) all rest
turn_before core what things front all rest is (between_turns first more split whole left) =
    between_turns (what ∷ first) more (ap (λ l. what ∷ l) split) (is ∙ ap (λ l. Came what ∷ (said (move core what).key ++ l)) whole) left
turn_before core what things front all rest is (in_turn first last more key split cut sends left) =
    in_turn (what ∷ first) last more key (ap (λ l. what ∷ l) split)
    (is ∙ ap (λ l. Came what ∷ l) (ap (λ l. said (move core what).key ++ l) cut ∙ sym (append_assoc (said (move core what).key) (dialogue (move core what).next first) (Came last ∷ [])))) sends left

-- a front that has heard the first thing, by what is broken of the turns after it
broken_turn : (core : Core) (what : Heard) (things : List Heard) → (item : Item) (front rest : List Item) →
    ((f : List Item) → dialogue (move core what).next things ≡ f ++ rest → Broken (move core what).next things f rest) →
    dialogue core (what ∷ things) ≡ (item ∷ front) ++ rest → Broken core (what ∷ things) (item ∷ front) rest
broken_turn core what things item front rest after e = here (move core what).key front refl (tails e)
  where
    heads : Came what ≡ item
    heads = cc e

    tails : dialogue core (what ∷ things) ≡ item ∷ (front ++ rest) → said (move core what).key ++ dialogue (move core what).next things ≡ front ++ rest
    tails f = cc f

    here : (key : Option ℕ) (front : List Item) → (move core what).key ≡ key → said (move core what).key ++ dialogue (move core what).next things ≡ front ++ rest → Broken core (what ∷ things) (item ∷ front) rest
    here None front sends f =
        turn_before core what things front (item ∷ front) rest (ap (λ i. i ∷ front) (sym heads) ∙ ap (λ k. Came what ∷ (said k ++ front)) (sym sends))
        (after front (sym (ap (λ k. said k ++ dialogue (move core what).next things) sends) ∙ f))
    here (Some key) [] sends f =
        in_turn [] what things key refl (ap (λ i. i ∷ []) (sym heads)) sends (sym f ∙ ap (λ k. said k ++ dialogue (move core what).next things) sends)
    here (Some key) (sent ∷ front) sends f =
        let g : Sent key ∷ dialogue (move core what).next things ≡ sent ∷ (front ++ rest) = sym (ap (λ k. said k ++ dialogue (move core what).next things) sends) ∙ f in
        let same : Sent key ≡ sent = cc g in
        turn_before core what things front (item ∷ sent ∷ front) rest
        (ap (λ i. i ∷ sent ∷ front) (sym heads) ∙ (ap (λ i. Came what ∷ i ∷ front) (sym same) ∙ ap (λ k. Came what ∷ (said k ++ front)) (sym sends)))
        (after front (cc g))

pub broken : (core : Core) (things : List Heard) (front rest : List Item) → dialogue core things ≡ front ++ rest → Broken core things front rest
broken core [] [] rest e = between_turns [] [] refl refl (sym e)
broken core [] (item ∷ front) rest e = absurd (cc)
broken core (what ∷ things) [] rest e = between_turns [] (what ∷ things) refl refl (sym e)
broken core (what ∷ things) (item ∷ front) rest e = broken_turn core what things item front rest (λ f h. broken (move core what).next things f rest h) e

-- ---- the turn that is taken back

-- a thing heard last stands between two stretches of the line
heard_last : (front : List Item) (last : Heard) (x y : Wire) → Passes x (front ++ Came last ∷ []) y → (z : Wire) × (v : Wire) × Passes x front z × Gives z last v × MovesOn v y
heard_last [] last x y (z, v, moves, gives, after) = (z, v, moves, gives, after)
heard_last (Sent key ∷ front) last x y passes = heard_last front last (record x { down = x.down ++ key ∷ [] }) y passes
heard_last (Came what ∷ front) last x y (u, w, moves, gives, passes) = let more = heard_last front last w y passes in (more.0, more.1, (u, w, moves, gives, more.2), more.3, more.4)

-- a character that was heard may as well have been lost, and where nothing was heard nothing was
unheard : (last : Heard) (z v y : Wire) → Gives z last v → MovesOn v y → (lost : ℕ) × MovesOn z (record y { lost = lost })
unheard (Got c) z v y (rest, is, now) moves = (1 + y.lost, one_first z (later 1 v) (later 1 y) loses (moves_carried (later 1) (later_carries 1) v y moves))
  where
    turned : (n : ℕ) → 1 + n ≡ n + 1
    turned n = omega arith

    lost_first : (up : List ℕ) → up ≡ c ∷ rest → (0 < length up) × (remove up 0 ≡ rest)
    lost_first up e = subst (λ (l : List ℕ). (0 < length l) × (remove l 0 ≡ rest)) (sym e) (omega arith, refl)

    loses : Moves z (later 1 v)
    loses = inr (inr (0, (lost_first z.up is).0, ap (later 1) now ∙ (ap (λ n. record z { up = rest; lost = n }) (turned z.lost) ∙ ap (λ up. record z { up = up; lost = z.lost + 1 }) (sym (lost_first z.up is).1))))
unheard Quiet z v y (none, empty, now) moves = (y.lost, subst (λ w. MovesOn w y) now moves)

-- without its last turn the dialogue passed as well
pub back : (front : List Item) (last : Heard) (x y : Wire) → Passes x (front ++ Came last ∷ []) y → (lost : ℕ) × Passes x front (record y { lost = lost })
back front last x y passes =
    let h = heard_last front last x y passes in
    let u = unheard last h.0 h.1 y h.3 h.4 in
    (u.0, subst (λ l. Passes x l (record y { lost = u.0 })) (append-nil front) (passes_then front [] x h.0 (record y { lost = u.0 }) h.2 u.1))

-- ---- the turn of a mark verifies nothing

after_words_same : (core : Core) (start : Option ℕ) → (after_words core start).next.verified ≤ core.verified
after_words_same core (Some start) = omega arith
after_words_same core None = omega arith

not_both : (b : Bool) → b ≡ false → b ≡ true → ⊥
not_both b e f = cc

taken_same : (core : Core) (turn : Turn) → core.going ≡ false → (taken core turn).next.going ≡ true → (taken core turn).next.verified ≤ core.verified
taken_same core (Listen phase) unset set = omega arith
taken_same core (Key key phase) unset set = omega arith
taken_same core Verified unset set = absurd (not_both core.going unset set)
taken_same core (Revisit visit) unset set = omega arith
taken_same core Next unset set =
    on_move (λ m. m.next.verified ≤ core.verified) (nat_lt core.verified (length core.plan.words)) (sends core (digit_of (word_under_way core).address 1) (Address Look 1)) (after_words core core.plan.start)
    (λ _. omega arith) (λ _. after_words_same core core.plan.start)
taken_same core Mark unset set = omega arith
taken_same core (Stop end) unset set = omega arith
taken_same core Stray unset set =
    on_move (λ m. m.next.verified ≤ core.verified) (nat_lt core.spent core.patience) (listens (record core { spent = core.spent + 1 }) Settle) (listens core (Ended GaveUp)) (λ _. omega arith) (λ _. omega arith)
taken_same core Timeout unset set =
    on_move (λ m. m.next.verified ≤ core.verified) (nat_lt core.spent core.patience) (sends (record core { spent = core.spent + 1 }) (resynchronise_of core.careful) (Sync 0)) (listens core (Ended GaveUp)) (λ _. omega arith) (λ _. omega arith)

pub mark_verifies_none : (core : Core) (last : Heard) (next : Core) → next ≡ (move core last).next → core.going ≡ false → next.going ≡ true → next.verified ≤ core.verified
mark_verifies_none core last next is unset set =
    subst (λ (c : Core). c.verified ≤ core.verified) (sym is) (taken_same core (turn_of core last) unset (sym (ap (λ (c : Core). c.going) is) ∙ set))
