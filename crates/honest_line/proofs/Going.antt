-- A machine that ran no program runs one only where `G` was sent.
use Rattle.std.proofs.Common.{◌≡◌, ℕ, zero, suc, Bool, true, false, List, [], ◌∷◌, inl, inr, refl, arith, ap, sym, subst, ◌∙◌, append-nil, append_assoc}
use Rattle.std.proofs.lemmas.Bool.{eqb-true}
use Rattle.std.specs.Prelude.{◌==◌, ◌⊎◌, if◌then◌else◌, Contains}
use Rattle.std.specs.List.{remove}
use Rattle.odt_machine.specs.declared.style.Style.{Style}
use Rattle.odt_machine.specs.declared.mode.Mode.{Mode}
use Rattle.odt_machine.specs.declared.mode.Mode.TheVariants.{Prompt, Number, Opened, Typing, Running}
use Rattle.odt_machine.specs.declared.key.Key.{Key}
use Rattle.odt_machine.specs.declared.key.Key.TheVariants.{Digit, Return, Slash, Go, Other}
use Rattle.octal.specs.Octal.{is_digit}
use Rattle.odt_machine.specs.Key.{key_of}
use Rattle.odt_machine.specs.KeyTable.{Taken, row, take_of}
use Rattle.odt_machine.specs.Laws.{is_running}
use Rattle.odt_machine.specs.Machine.{Machine, is_word}
use Rattle.host_core.specs.declared.heard.Heard.{Heard}
use Rattle.host_core.specs.declared.heard.Heard.TheVariants.{Got, Quiet}
use Rattle.line_world.specs.Wire.{Wire, sent}
use Rattle.host_devices.specs.declared.item.Item.{Item}
use Rattle.host_devices.specs.declared.item.Item.TheVariants.{Sent, Heard as Came}
use Rattle.host_devices.specs.Dialogue.{keys_of}
use Rattle.honest_line.specs.Moves.{Moves, MovesTimes, MovesOn, Gives, Passes}
use Rattle.honest_line.proofs.Wires.{moves_carried, sent_carries}

-- ---- a key

-- a mode in which no program runs
abbrev IsStill : Mode → Type 0
IsStill mode = is_running mode ≡ true → ⊥

choice_still : (test : Bool) (one other : Taken) → IsStill one.mode → IsStill other.mode → IsStill (if test then one else other).mode
choice_still true one other s t = s
choice_still false one other s t = t

-- the table's one key that starts a program
row_starts : (s : Style) (memory : List ℕ) (mode : Mode) (key : Key) (c : ℕ) → is_running (row s memory mode key c).mode ≡ true → (is_running mode ≡ true) ⊎ (key ≡ Go)
row_starts s memory Prompt Digit c e = absurd (cc)
row_starts s memory Prompt Return c e = absurd (cc)
row_starts s memory Prompt Slash c e = absurd (cc)
row_starts s memory Prompt Go c e = absurd (cc)
row_starts s memory Prompt Other c e = absurd (cc)
row_starts s memory (Number v n) Digit c e = absurd (cc)
row_starts s memory (Number v n) Return c e = absurd (cc)
row_starts s memory (Number v n) Slash c e = absurd (choice_still (is_word memory v) _ _ (λ f. cc) (λ f. cc) e)
row_starts s memory (Number v n) Go c e = inr refl
row_starts s memory (Number v n) Other c e = absurd (cc)
row_starts s memory (Opened a) Digit c e = absurd (cc)
row_starts s memory (Opened a) Return c e = absurd (cc)
row_starts s memory (Opened a) Slash c e = absurd (cc)
row_starts s memory (Opened a) Go c e = absurd (cc)
row_starts s memory (Opened a) Other c e = absurd (cc)
row_starts s memory (Typing a v n) Digit c e = absurd (cc)
row_starts s memory (Typing a v n) Return c e = absurd (cc)
row_starts s memory (Typing a v n) Slash c e = absurd (cc)
row_starts s memory (Typing a v n) Go c e = absurd (cc)
row_starts s memory (Typing a v n) Other c e = absurd (cc)
row_starts s memory (Running p) key c e = inl refl

is_go : (test : Bool) (c : ℕ) → (c == 71) ≡ test → (if test then Go else Other) ≡ Go → c ≡ 71
is_go true c e f = eqb-true c 71 e
is_go false c e f = absurd (cc)

key_is_go : (digit return slash : Bool) (c : ℕ) → (if digit then Digit else (if return then Return else (if slash then Slash else (if c == 71 then Go else Other)))) ≡ Go → c ≡ 71
key_is_go true return slash c e = absurd (cc)
key_is_go false true slash c e = absurd (cc)
key_is_go false false true c e = absurd (cc)
key_is_go false false false c e = is_go (c == 71) c refl e

-- what runs after a key ran before, or the key is `G`
key_starts : (m : Machine) (c : ℕ) → is_running (take_of m c).mode ≡ true → (is_running m.mode ≡ true) ⊎ (c ≡ 71)
key_starts m c e = elim (row_starts m.style m.memory m.mode (key_of c) c e) [ inl ran ↦ inl ran | inr go ↦ inr (key_is_go (is_digit c) (c == 13) (c == 47) c go) ]

-- a machine that runs goes on
pub runs_on : (s : Style) (memory : List ℕ) (mode : Mode) (key : Key) (c : ℕ) → is_running mode ≡ true → is_running (row s memory mode key c).mode ≡ true
runs_on s memory Prompt key c e = absurd (cc)
runs_on s memory (Number v n) key c e = absurd (cc)
runs_on s memory (Opened a) key c e = absurd (cc)
runs_on s memory (Typing a v n) key c e = absurd (cc)
runs_on s memory (Running p) key c e = refl

-- ---- what is under way

contains_later : (x c : ℕ) (xs : List ℕ) → Contains xs c → Contains (x ∷ xs) c
contains_later x c xs (k, below, is) = (suc k, omega (arith, below), is)

contains_first : (c : ℕ) (xs : List ℕ) → Contains (c ∷ xs) c
contains_first c xs = (0, omega arith, refl)

contains_or : (x c : ℕ) (xs : List ℕ) → Contains (x ∷ xs) c → (x ≡ c) ⊎ Contains xs c
contains_or x c xs (zero, below, is) = inl is
contains_or x c xs (suc k, below, is) = inr (k, omega (arith, below), is)

not_removed : (xs : List ℕ) (k c : ℕ) → Contains (remove xs k) c → Contains xs c
not_removed [] zero c has = has
not_removed [] (suc k) c has = has
not_removed (x ∷ xs) zero c has = contains_later x c xs has
not_removed (x ∷ xs) (suc k) c has = elim (contains_or x c (remove xs k) has) [
  | inl first ↦ let P : ℕ → Type 0 = λ d. Contains (x ∷ xs) d in subst P first (contains_first x xs)
  | inr rest ↦ contains_later x c xs (not_removed xs k c rest)
]

-- a program runs, or `G` is under way
abbrev pub MayRun : Wire → Type 0
MayRun x = (is_running x.machine.mode ≡ true) ⊎ Contains x.down 71

has_first : (down rest : List ℕ) (c : ℕ) → down ≡ c ∷ rest → c ≡ 71 → Contains down 71
has_first down rest c is go = rw (is, go) (contains_first 71 rest)

has_rest : (down rest : List ℕ) (c : ℕ) → down ≡ c ∷ rest → Contains rest 71 → Contains down 71
has_rest down rest c is has = rw is (contains_later c 71 rest has)

-- what a wire is that another is made of
same_runs : (x y : Wire) → y.machine ≡ x.machine → (Contains y.down 71 → Contains x.down 71) → MayRun y → MayRun x
same_runs x y machine down (inl runs) = inl (ap (λ (m : Machine). is_running m.mode) (sym machine) ∙ runs)
same_runs x y machine down (inr has) = inr (down has)

move_back : (x y : Wire) → Moves x y → MayRun y → MayRun x
move_back x y (inl (c, rest, is, now)) (inl runs) =
    elim (key_starts x.machine c (ap (λ (z : Wire). is_running z.machine.mode) (sym now) ∙ runs)) [ inl ran ↦ inl ran | inr go ↦ inr (has_first x.down rest c is go) ]
move_back x y (inl (c, rest, is, now)) (inr has) = inr (has_rest x.down rest c is (subst (λ (z : Wire). Contains z.down 71) now has))
move_back x y (inr (inl (k, below, now))) may =
    same_runs x y (ap (λ (z : Wire). z.machine) now) (λ has. not_removed x.down k 71 (subst (λ (z : Wire). Contains z.down 71) now has)) may
move_back x y (inr (inr (k, below, now))) may =
    same_runs x y (ap (λ (z : Wire). z.machine) now) (λ has. subst (λ (z : Wire). Contains z.down 71) now has) may

times_back : (n : ℕ) (x y : Wire) → MovesTimes n x y → MayRun y → MayRun x
times_back zero x y same may = subst MayRun same may
times_back (suc n) x y (z, move, rest) may = move_back x z move (times_back n z y rest may)

moves_back : (x y : Wire) → MovesOn x y → MayRun y → MayRun x
moves_back x y moves may = times_back moves.0 x y moves.1 may

-- moves, beside keys that are to be sent
moves_beside : (keys : List ℕ) (x y : Wire) → MovesOn x y → MayRun (sent y keys) → MayRun (sent x keys)
moves_beside keys x y moves may = moves_back (sent x keys) (sent y keys) (moves_carried (λ w. sent w keys) (sent_carries keys) x y moves) may

gives_beside : (keys : List ℕ) (what : Heard) (x y : Wire) → Gives x what y → MayRun (sent y keys) → MayRun (sent x keys)
gives_beside keys (Got c) x y (rest, is, now) may = subst (λ (z : Wire). MayRun (sent z keys)) now may
gives_beside keys Quiet x y (none, empty, now) may = subst (λ (z : Wire). MayRun (sent z keys)) now may

-- ---- a list that passes

-- where a program runs at the end, or `G` is under way there, one ran at first, or `G` was under way there or is one of the keys
pub passes_back : (items : List Item) (x y : Wire) → Passes x items y → MayRun y → MayRun (sent x (keys_of items))
passes_back [] x y moves may = subst (λ down. MayRun (record x { down = down })) (sym (append-nil x.down)) (moves_back x y moves may)
passes_back (Sent key ∷ items) x y passes may =
    subst (λ down. MayRun (record x { down = down })) (append_assoc x.down (key ∷ []) (keys_of items)) (passes_back items (sent x (key ∷ [])) y passes may)
passes_back (Came what ∷ items) x y (z, v, before, gives, passes) may =
    moves_beside (keys_of items) x z before (gives_beside (keys_of items) what z v gives (passes_back items v y passes may))
