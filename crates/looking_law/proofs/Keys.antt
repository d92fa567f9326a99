-- Digits, `/`, `Z` and `a` store nothing and start nothing: in the key table, and on a line.
use Rattle.std.proofs.Common.{◌≡◌, ℕ, zero, suc, ◌+◌, ◌≤◌, Bool, true, false, min, List, [], ◌∷◌, ◌++◌, length, inl, inr, refl, arith, sym, subst, ◌∙◌, lit≤}
use Rattle.std.proofs.lemmas.List.Elements.{All-head, All-tail}
use Rattle.std.specs.Prelude.{if◌then◌else◌, All}
use Rattle.std.specs.List.{remove}
use Rattle.octal.specs.Octal.{is_digit}
use Rattle.odt_machine.specs.declared.style.Style.{Style}
use Rattle.odt_machine.specs.declared.mode.Mode.{Mode}
use Rattle.odt_machine.specs.declared.mode.Mode.TheVariants.{Prompt, Number, Opened, Typing, Running}
use Rattle.odt_machine.specs.declared.key.Key.{Key}
use Rattle.odt_machine.specs.declared.key.Key.TheVariants.{Digit, Return, Slash, Go, Other}
use Rattle.odt_machine.specs.Key.{key_of}
use Rattle.odt_machine.specs.KeyTable.{Taken, row, take_of, after_key}
use Rattle.odt_machine.specs.Laws.{is_running}
use Rattle.odt_machine.specs.Machine.{Machine, IsWide, ModeFits, is_word}
use Rattle.host_core.specs.declared.heard.Heard.{Heard}
use Rattle.host_core.specs.declared.heard.Heard.TheVariants.{Got, Quiet}
use Rattle.line_world.specs.Wire.{Wire, sent}
use Rattle.host_devices.specs.declared.item.Item.{Item}
use Rattle.host_devices.specs.declared.item.Item.TheVariants.{Sent, Heard as Came}
use Rattle.host_devices.specs.Dialogue.{keys_of}
use Rattle.honest_line.specs.Moves.{Moves, MovesTimes, MovesOn, Gives, Passes}
use Rattle.honest_line.specs.Honest.{resting}
use Rattle.trial_core.specs.TrialTable.{IsTrying}
use Rattle.looking_law.specs.Trying.{IsLeftAlone, TryingKeysStoreNothing}

-- ---- a key

-- what a row of the key table leaves as it was
record Leaves (before : List ℕ) (mode : Mode) (t : Taken) : Type 0 where
  pub memory : t.memory ≡ before
  pub stopped : is_running mode ≡ false → is_running t.mode ≡ false
  pub fits : ModeFits before mode → ModeFits before t.mode

-- the keys that trying characters are
abbrev TriesKey : Key → Type 0
TriesKey Digit = Unit {0}
TriesKey Slash = Unit {0}
TriesKey Other = Unit {0}
TriesKey Return = ⊥
TriesKey Go = ⊥

opens : (memory answer refusal : List ℕ) (v n : ℕ) (test : Bool) → is_word memory v ≡ test →
    Leaves memory (Number v n) (if test then record { mode = Opened v; memory = memory; answer = answer } else record { mode = Prompt; memory = memory; answer = refusal })
opens memory answer refusal v n true is = record { memory = refl; stopped = λ _. refl; fits = λ _. is }
opens memory answer refusal v n false is = record { memory = refl; stopped = λ _. refl; fits = λ _. tt }

counted : (n : ℕ) → 1 ≤ n → (1 ≤ min (n + 1) 7) × (min (n + 1) 7 ≤ 7)
counted n h = (omega arith, omega arith)

row_leaves : (s : Style) (memory : List ℕ) (mode : Mode) (key : Key) (c : ℕ) → TriesKey key → Leaves memory mode (row s memory mode key c)
row_leaves s memory mode Return c tries = absurd tries
row_leaves s memory mode Go c tries = absurd tries
row_leaves s memory Prompt Digit c tries = record { memory = refl; stopped = λ _. refl; fits = λ _. (lit≤ tt, lit≤ tt) }
row_leaves s memory Prompt Slash c tries = record { memory = refl; stopped = λ _. refl; fits = λ _. tt }
row_leaves s memory Prompt Other c tries = record { memory = refl; stopped = λ _. refl; fits = λ _. tt }
row_leaves s memory (Number v n) Digit c tries = record { memory = refl; stopped = λ _. refl; fits = λ h. counted n h.0 }
row_leaves s memory (Number v n) Slash c tries = opens memory _ _ v n (is_word memory v) refl
row_leaves s memory (Number v n) Other c tries = record { memory = refl; stopped = λ _. refl; fits = λ _. tt }
row_leaves s memory (Opened a) Digit c tries = record { memory = refl; stopped = λ _. refl; fits = λ h. (h, lit≤ tt, lit≤ tt) }
row_leaves s memory (Opened a) Slash c tries = record { memory = refl; stopped = λ _. refl; fits = λ _. tt }
row_leaves s memory (Opened a) Other c tries = record { memory = refl; stopped = λ _. refl; fits = λ _. tt }
row_leaves s memory (Typing a v n) Digit c tries = record { memory = refl; stopped = λ _. refl; fits = λ h. let more = counted n h.1 in (h.0, more.0, more.1) }
row_leaves s memory (Typing a v n) Slash c tries = record { memory = refl; stopped = λ _. refl; fits = λ _. tt }
row_leaves s memory (Typing a v n) Other c tries = record { memory = refl; stopped = λ _. refl; fits = λ _. tt }
row_leaves s memory (Running p) key c tries = record { memory = refl; stopped = λ e. e; fits = λ _. tt }

digit_tries : (test : Bool) (key : Key) → test ≡ true → TriesKey (if test then Digit else key)
digit_tries true key e = tt
digit_tries false key e = absurd (cc e)

key_tries : (c : ℕ) → IsTrying c → TriesKey (key_of c)
key_tries c (inl digit) = digit_tries (is_digit c) _ digit
key_tries c (inr (inl is)) = subst (λ d. TriesKey (key_of d)) (sym is) tt
key_tries c (inr (inr (inl is))) = subst (λ d. TriesKey (key_of d)) (sym is) tt
key_tries c (inr (inr (inr is))) = subst (λ d. TriesKey (key_of d)) (sym is) tt

-- ---- a machine

left_same : (m : Machine) → IsLeftAlone m m
left_same m = record { memory = refl; stopped = λ e. e; console = λ is. is }

left_then : (a b c : Machine) → IsLeftAlone a b → IsLeftAlone b c → IsLeftAlone a c
left_then a b c first next = record {
  memory = next.memory ∙ first.memory;
  stopped = λ e. next.stopped (first.stopped e);
  console = λ is. next.console (first.console is);
}

key_leaves : (m : Machine) (c : ℕ) → IsTrying c → IsLeftAlone m (after_key m c)
key_leaves m c tries =
    let row : Leaves m.memory m.mode (take_of m c) = row_leaves m.style m.memory m.mode (key_of c) c (key_tries c tries) in
    record {
      memory = row.memory;
      stopped = row.stopped;
      console = λ is. record {
        size = subst (λ memory. length memory ≤ 28672) (sym row.memory) is.size;
        wide = subst IsWide (sym row.memory) is.wide;
        mode = subst (λ memory. ModeFits memory (take_of m c).mode) (sym row.memory) (row.fits is.mode);
      };
    }

-- ---- a line

-- all these keys are trying ones
abbrev pub Only : List ℕ → Type 0
Only [] = Unit {0}
Only (c ∷ keys) = IsTrying c × Only keys

only_all : (keys : List ℕ) → All IsTrying keys → Only keys
only_all [] all = tt
only_all (c ∷ keys) all = (All-head IsTrying c keys all, only_all keys (All-tail IsTrying c keys all))

only_append : (keys more : List ℕ) → Only keys → Only more → Only (keys ++ more)
only_append [] more h k = k
only_append (c ∷ keys) more h k = (h.0, only_append keys more h.1 k)

only_removed : (keys : List ℕ) (k : ℕ) → Only keys → Only (remove keys k)
only_removed [] zero h = tt
only_removed [] (suc k) h = tt
only_removed (c ∷ keys) zero h = h.1
only_removed (c ∷ keys) (suc k) h = (h.0, only_removed keys k h.1)

-- what moves leave of a line on which only such keys are under way
abbrev Moved : Wire → Wire → Type 0
Moved x y = IsLeftAlone x.machine y.machine × Only y.down

move_leaves : (x y : Wire) → Moves x y → Only x.down → Moved x y
move_leaves x y (inl (c, rest, is, now)) only =
    let first : Only (c ∷ rest) = subst Only is only in
    subst (Moved x) (sym now) (key_leaves x.machine c first.0, first.1)
move_leaves x y (inr (inl (k, below, now))) only = subst (Moved x) (sym now) (left_same x.machine, only_removed x.down k only)
move_leaves x y (inr (inr (k, below, now))) only = subst (Moved x) (sym now) (left_same x.machine, only)

times_leave : (n : ℕ) (x y : Wire) → MovesTimes n x y → Only x.down → Moved x y
times_leave zero x y same only = subst (Moved x) (sym same) (left_same x.machine, only)
times_leave (suc n) x y (z, move, rest) only =
    let first = move_leaves x z move only in
    let more = times_leave n z y rest first.1 in
    (left_then x.machine z.machine y.machine first.0 more.0, more.1)

moves_leave : (x y : Wire) → MovesOn x y → Only x.down → Moved x y
moves_leave x y moves only = times_leave moves.0 x y moves.1 only

gives_leaves : (what : Heard) (x y : Wire) → Gives x what y → Only x.down → Moved x y
gives_leaves (Got c) x y (rest, is, now) only = subst (Moved x) (sym now) (left_same x.machine, only)
gives_leaves Quiet x y (none, empty, now) only = subst (Moved x) (sym now) (left_same x.machine, only)

passes_leave : (items : List Item) (x y : Wire) → Passes x items y → Only x.down → Only (keys_of items) → IsLeftAlone x.machine y.machine
passes_leave [] x y moves only keys = (moves_leave x y moves only).0
passes_leave (Sent key ∷ items) x y passes only keys = passes_leave items (sent x (key ∷ [])) y passes (only_append x.down (key ∷ []) only (keys.0, tt)) keys.1
passes_leave (Came what ∷ items) x y (z, v, before, gives, passes) only keys =
    let first = moves_leave x z before only in
    let heard = gives_leaves what z v gives first.1 in
    left_then x.machine z.machine y.machine first.0 (left_then z.machine v.machine y.machine heard.0 (passes_leave items v y passes heard.1 keys))

pub store_nothing : TryingKeysStoreNothing
store_nothing machine now items lost only honest =
    subst (IsLeftAlone machine) honest.machine_is (passes_leave items (resting machine honest.waiting 0) honest.end honest.passes tt (only_all (keys_of items) only))
