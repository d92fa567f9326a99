-- A line in memory moves as a line may.
use Rattle.std.proofs.Common.{◌≡◌, ℕ, ◌+◌, ◌<◌, ◌≤◌, Bool, true, false, List, [], ◌∷◌, ◌++◌, length, Option, Some, None, inl, inr, refl, arith, ap, sym, subst, ◌∙◌, append_assoc, append-nil, length-append, get_or, drop, drop-cons, add-one}
use Rattle.std.specs.List.{remove, list_any}
use Rattle.odt_machine.specs.Machine.{Machine}
use Rattle.odt_machine.specs.KeyTable.{take_of, after_key}
use Rattle.host_core.specs.declared.heard.Heard.{Heard}
use Rattle.host_devices.specs.declared.fault.LineFault.{LineFault}
use Rattle.host_devices.specs.declared.item.Item.{Item}
use Rattle.host_devices.specs.declared.item.Item.TheVariants.{Sent, Heard as Came}
use Rattle.honest_line.specs.declared.loss.Loss.{Loss}
use Rattle.honest_line.specs.Moves.{Moves, MovesOn, Passes}
use Rattle.honest_line.specs.Honest.{Moved, resting}
use Rattle.honest_line.specs.LineTable.{LineValue, is_key, is_answer, unless_lost, let_through, called, delivered, with_sent, with_heard, first_heard, rest_waiting, sent_or_not, heard_or_not}
use Rattle.honest_line.specs.Reached.{HasMoved, IsReached}
use Rattle.honest_line.proofs.Wires.{none_moves, one_first, moves_join}

-- ---- what is let through

-- one character more of an answer
through_more : (losses : List Loss) (number : ℕ) (answer : List ℕ) (i d : ℕ) → i < length answer →
    let_through losses number (drop i answer) ≡ unless_lost (list_any (is_answer (number + 1)) losses) (get_or answer i d) ++ let_through losses (number + 1) (drop (i + 1) answer)
through_more losses number answer i d below = ap (let_through losses number) (drop-cons answer i d below ∙ ap (λ k. get_or answer i d ∷ drop k answer) (sym (add-one i)))

-- the line loses the character behind these
lost_behind : (m : Machine) (front rest : List ℕ) (c n : ℕ) → Moves (resting m (front ++ c ∷ rest) n) (resting m (front ++ rest) (n + 1))
lost_behind m front rest c n = inr (inr (length front, simp length-append (omega arith), ap (λ up. resting m up (n + 1)) (sym (behind front rest c))))
  where
    behind : (xs ys : List ℕ) (c : ℕ) → remove (xs ++ c ∷ ys) (length xs) ≡ xs ++ ys
    behind [] ys c = refl
    behind (x ∷ xs) ys c = ap (λ zs. x ∷ zs) (behind xs ys c)

-- characters are lost one after another until what is let through is left
through_moves : (m : Machine) (losses : List Loss) (answer front : List ℕ) (before n : ℕ) → (lost : ℕ) × MovesOn (resting m (front ++ answer) n) (resting m (front ++ let_through losses before answer) lost)
through_moves m losses [] front before n = (n, none_moves (resting m (front ++ []) n))
through_moves m losses (c ∷ answer) front before n = one (list_any (is_answer (before + 1)) losses) (through_moves m losses answer front (before + 1) (n + 1)) (through_moves m losses answer (front ++ c ∷ []) (before + 1) n)
  where
    one : (test : Bool) → (lost : ℕ) × MovesOn (resting m (front ++ answer) (n + 1)) (resting m (front ++ let_through losses (before + 1) answer) lost) →
        (lost : ℕ) × MovesOn (resting m ((front ++ c ∷ []) ++ answer) n) (resting m ((front ++ c ∷ []) ++ let_through losses (before + 1) answer) lost) →
        (lost : ℕ) × MovesOn (resting m (front ++ c ∷ answer) n) (resting m (front ++ (unless_lost test c ++ let_through losses (before + 1) answer)) lost)
    one true less more = (less.0, one_first (resting m (front ++ c ∷ answer) n) (resting m (front ++ answer) (n + 1)) (resting m (front ++ let_through losses (before + 1) answer) less.0) (lost_behind m front answer c n) less.1)
    one false less more = (more.0, rw (append_assoc front (c ∷ []) answer, append_assoc front (c ∷ []) (let_through losses (before + 1) answer)) at more.1)

-- ---- one item

pub sent_moved : (line : LineValue) (key : ℕ) → HasMoved line (Sent key) (with_sent line key)
sent_moved line key = one (list_any (is_key (line.keys + 1)) line.losses)
  where
    one : (test : Bool) → HasMoved line (Sent key) (delivered test (record line { items = line.items ++ Sent key ∷ []; keys = line.keys + 1 }) key)
    one true = (1, one_first _ (resting line.machine line.waiting 1) _ (inr (inl (0, omega arith, refl))) (none_moves (resting line.machine line.waiting 1)))
    one false =
        let through = through_moves (after_key line.machine key) line.losses (take_of line.machine key).answer line.waiting line.answers 0 in
        (through.0, one_first _ (resting (after_key line.machine key) (line.waiting ++ (take_of line.machine key).answer) 0) _ (inl (key, [], refl, refl)) through.1)

pub heard_moved : (line : LineValue) → HasMoved line (Came (first_heard line.waiting)) (with_heard line)
heard_moved line = (0, one line.machine line.waiting)
  where
    one : (m : Machine) (waiting : List ℕ) → Passes (resting m waiting 0) (Came (first_heard waiting) ∷ []) (resting m (rest_waiting waiting) 0)
    one m [] = (resting m [] 0, resting m [] 0, none_moves (resting m [] 0), (refl, refl, refl), none_moves (resting m [] 0))
    one m (c ∷ waiting) = (resting m (c ∷ waiting) 0, resting m waiting 0, none_moves (resting m (c ∷ waiting) 0), (waiting, refl, refl), none_moves (resting m waiting 0))

-- ---- all items

more_reached : (opening : Machine) (old new : LineValue) (item : Item) → IsReached opening old → HasMoved old item new → new.items ≡ old.items ++ item ∷ [] → IsReached opening new
more_reached opening old new item reached moved items = (
  reached.0 + moved.0,
  subst (λ list. Moved opening [] list (reached.0 + moved.0) new.machine new.waiting) (sym items)
      (moves_join opening old.machine new.machine [] old.waiting new.waiting old.items (item ∷ []) reached.0 moved.0 reached.1 moved.1),
)

sent_items : (test : Bool) (line : LineValue) (key : ℕ) → (delivered test line key).items ≡ line.items
sent_items true line key = refl
sent_items false line key = refl

sent_reached : (opening : Machine) (line : LineValue) (key : ℕ) (refusal : Option LineFault) → IsReached opening line → IsReached opening (sent_or_not refusal line key)
sent_reached opening line key None reached =
    more_reached opening line (with_sent (called line None) key) (Sent key) reached (sent_moved (called line None) key)
    (sent_items (list_any (is_key (line.keys + 1)) line.losses) (record (called line None) { items = line.items ++ Sent key ∷ []; keys = line.keys + 1 }) key)
sent_reached opening line key (Some fault) reached = reached

heard_reached : (opening : Machine) (line : LineValue) (refusal : Option LineFault) → IsReached opening line → IsReached opening (heard_or_not refusal line)
heard_reached opening line None reached = more_reached opening line (with_heard (called line None)) (Came (first_heard line.waiting)) reached (heard_moved (called line None)) refl
heard_reached opening line (Some fault) reached = reached

-- ---- calls

-- a call that was not refused, and what was said then
sent_is : (old judged new : LineValue) (key : ℕ) (refusal : Option LineFault) → refusal ≡ None → judged ≡ called old refusal → new ≡ with_sent judged key → new ≡ with_sent (called old None) key
sent_is old judged new key refusal none call said = said ∙ ap (λ line. with_sent line key) (call ∙ ap (called old) none)

pub call_moved : (old judged new : LineValue) (key : ℕ) (refusal : Option LineFault) → refusal ≡ None → judged ≡ called old refusal → new ≡ with_sent judged key → HasMoved old (Sent key) new
call_moved old judged new key refusal none call said = subst (HasMoved old (Sent key)) (sym (sent_is old judged new key refusal none call said)) (sent_moved (called old None) key)

pub call_reached : (opening : Machine) (old judged new : LineValue) (key : ℕ) (refusal : Option LineFault) → refusal ≡ None → judged ≡ called old refusal → new ≡ with_sent judged key → IsReached opening old → IsReached opening new
call_reached opening old judged new key refusal none call said reached = subst (IsReached opening) (sym (sent_is old judged new key refusal none call said)) (sent_reached opening old key None reached)

heard_is : (old judged new : LineValue) (refusal : Option LineFault) → refusal ≡ None → judged ≡ called old refusal → new ≡ with_heard judged → new ≡ with_heard (called old None)
heard_is old judged new refusal none call said = said ∙ ap with_heard (call ∙ ap (called old) none)

pub hearing_moved : (old judged new : LineValue) (what : Heard) (refusal : Option LineFault) → refusal ≡ None → judged ≡ called old refusal → new ≡ with_heard judged → what ≡ first_heard judged.waiting → HasMoved old (Came what) new
hearing_moved old judged new what refusal none call said is =
    subst (λ thing. HasMoved old (Came thing) new) (sym (is ∙ ap (λ (line : LineValue). first_heard line.waiting) (call ∙ ap (called old) none)))
    (subst (HasMoved old (Came (first_heard old.waiting))) (sym (heard_is old judged new refusal none call said)) (heard_moved (called old None)))

pub hearing_reached : (opening : Machine) (old judged new : LineValue) (refusal : Option LineFault) → refusal ≡ None → judged ≡ called old refusal → new ≡ with_heard judged → IsReached opening old → IsReached opening new
hearing_reached opening old judged new refusal none call said reached = subst (IsReached opening) (sym (heard_is old judged new refusal none call said)) (heard_reached opening old None reached)

-- ---- one character more of an answer is judged

pub through_now : (old waiting now : List ℕ) (losses : List Loss) (before number : ℕ) (answer : List ℕ) (i d : ℕ) → i < length answer →
    waiting ++ let_through losses number (drop i answer) ≡ old ++ let_through losses before answer → now ≡ waiting ++ unless_lost (list_any (is_answer (number + 1)) losses) (get_or answer i d) →
    now ++ let_through losses (number + 1) (drop (i + 1) answer) ≡ old ++ let_through losses before answer
through_now old waiting now losses before number answer i d below kept is =
    let gone = unless_lost (list_any (is_answer (number + 1)) losses) (get_or answer i d) in
    let left = let_through losses (number + 1) (drop (i + 1) answer) in
    ap (λ xs. xs ++ left) is ∙ (append_assoc waiting gone left ∙ (ap (λ xs. waiting ++ xs) (sym (through_more losses number answer i d below)) ∙ kept))

pub kept_character : (test : Bool) (c : ℕ) (waiting now : List ℕ) → test ≡ false → now ≡ waiting ++ c ∷ [] → now ≡ waiting ++ unless_lost test c
kept_character true c waiting now e is = absurd (cc)
kept_character false c waiting now e is = is

pub lost_character : (test : Bool) (c : ℕ) (waiting now : List ℕ) → test ≡ true → now ≡ waiting → now ≡ waiting ++ unless_lost test c
lost_character true c waiting now e is = is ∙ sym (append-nil waiting)
lost_character false c waiting now e is = absurd (cc)

pub one_at_most : (test : Bool) (c : ℕ) → length (unless_lost test c) ≤ 1
one_at_most true c = omega arith
one_at_most false c = omega arith
