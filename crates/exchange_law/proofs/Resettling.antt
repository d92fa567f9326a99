-- A host that waits for silence or for the answer to the key that resynchronises while a stub is at work.
use Rattle.std.proofs.Common.{◌≡◌, ℕ, zero, suc, ◌<◌, ◌≤◌, Bool, true, false, List, [], ◌∷◌, length, Option, Some, None, inl, inr, refl, arith, ap, sym, subst, ◌∙◌}
use Rattle.std.proofs.lemmas.Bool.Decides.{nat_tests}
use Rattle.std.specs.Prelude.{◌==◌, if◌then◌else◌}
use Rattle.std.specs.List.{remove}
use Rattle.octal.specs.Octal.{is_digit}
use Rattle.tape_image.specs.Memory.{byte_of}
use Rattle.odt_machine.specs.declared.mode.Mode.{Mode}
use Rattle.odt_machine.specs.declared.mode.Mode.TheVariants.{Prompt, Number, Opened, Typing, Running}
use Rattle.odt_machine.specs.declared.key.Key.TheVariants.{Digit, Return, Slash, Go, Other}
use Rattle.odt_machine.specs.declared.style.Style.{Style}
use Rattle.odt_machine.specs.Key.{key_of}
use Rattle.odt_machine.specs.KeyTable.{Taken, row, take_of, after_key}
use Rattle.odt_machine.specs.Laws.{is_running}
use Rattle.odt_machine.specs.Machine.{Machine, IsMachine, IsWide, ModeFits}
use Rattle.exchange_core.specs.Chunk.{is_nibble}
use Rattle.exchange_law.specs.Station.{Program, Station, Stub, ChangesAt, Each, Answers, Fills, answer_text, Meets, StubMeets, after_odt, begins, halted, running}
use Rattle.exchange_law.specs.Line.{Link, Moves, Takes}
use Rattle.exchange_law.specs.Unsettled.{IsForStub, IsLastKey, IsUnsettled, MayFill, Untouched}
use Rattle.exchange_law.proofs.Texts.{each_removed}

pub untouched_same : (R : ℕ → Type 0) (memory : List ℕ) → Untouched R memory memory
untouched_same R memory = record { size = refl; bytes = λ b none. refl }

pub untouched_then : (R : ℕ → Type 0) (a b c : List ℕ) → Untouched R a b → Untouched R b c → Untouched R a c
untouched_then R a b c one two = record { size = two.size ∙ one.size; bytes = λ k none. two.bytes k none ∙ one.bytes k none }

-- ---- a key of such a line at ODT

-- an illegal key leaves ODT at its prompt, over the same memory
record IsRefused (before : List ℕ) (t : Taken) : Type 0 where
  pub mode : t.mode ≡ Prompt
  pub memory : t.memory ≡ before

other_refused : (s : Style) (memory : List ℕ) (mode : Mode) (c : ℕ) → is_running mode ≡ false → IsRefused memory (row s memory mode Other c)
other_refused s memory Prompt c e = record { mode = refl; memory = refl }
other_refused s memory (Number v n) c e = record { mode = refl; memory = refl }
other_refused s memory (Opened a) c e = record { mode = refl; memory = refl }
other_refused s memory (Typing a v n) c e = record { mode = refl; memory = refl }
other_refused s memory (Running p) c e = absurd (cc)

key_by : (digit return slash start : Bool) → digit ≡ false → return ≡ false → slash ≡ false → start ≡ false → (if digit then Digit else (if return then Return else (if slash then Slash else (if start then Go else Other)))) ≡ Other
key_by true return slash start a b c d = absurd (cc)
key_by false true slash start a b c d = absurd (cc)
key_by false false true start a b c d = absurd (cc)
key_by false false false true a b c d = absurd (cc)
key_by false false false false a b c d = refl

is_other : (c : ℕ) → IsForStub c → key_of c ≡ Other
is_other c (inl nibble) = key_by (is_digit c) (c == 13) (c == 47) (c == 71) (no_digit c nibble) (no_return c nibble) (no_slash c nibble) (no_go c nibble)
  where
    no_digit : (c : ℕ) → is_nibble c ≡ true → is_digit c ≡ false
    no_digit c n = grind (arith, nat_tests)

    no_return : (c : ℕ) → is_nibble c ≡ true → (c == 13) ≡ false
    no_return c n = grind (arith, nat_tests)

    no_slash : (c : ℕ) → is_nibble c ≡ true → (c == 47) ≡ false
    no_slash c n = grind (arith, nat_tests)

    no_go : (c : ℕ) → is_nibble c ≡ true → (c == 71) ≡ false
    no_go c n = grind (arith, nat_tests)
is_other c (inr (inl is)) = ap key_of is
is_other c (inr (inr is)) = ap key_of is

stub_key_refused : (m : Machine) (c : ℕ) → IsForStub c → is_running m.mode ≡ false → IsRefused m.memory (take_of m c)
stub_key_refused m c for stopped = subst (λ key. IsRefused m.memory (row m.style m.memory m.mode key c)) (sym (is_other c for)) (other_refused m.style m.memory m.mode c stopped)

-- ---- what a station makes of a character of such a line

-- the station behind it: only such bytes changed, and only such may still change
pub record Stays (R : ℕ → Type 0) (before : List ℕ) (s : Station) : Type 0 where
  pub untouched : Untouched R before s.odt.memory
  pub console : IsMachine s.odt
  pub stub : MayFill R s.odt.mode s.stub

at_prompt : (R : ℕ → Type 0) (m : Machine) (s : Station) → s.odt.memory ≡ m.memory → s.odt.mode ≡ Prompt → s.stub ≡ None → IsMachine m → Stays R m.memory s
at_prompt R m s same prompt none is = record {
  untouched = record { size = ap length same; bytes = λ b _. ap (λ memory. byte_of memory b) same };
  console = record {
    size = subst (λ memory. length memory ≤ 28672) (sym same) is.size;
    wide = subst IsWide (sym same) is.wide;
    mode = subst (ModeFits s.odt.memory) (sym prompt) tt;
  };
  stub = subst (MayFill R s.odt.mode) (sym none) (ap is_running prompt);
}

runs_fit : (memory : List ℕ) (mode : Mode) → is_running mode ≡ true → ModeFits memory mode
runs_fit memory Prompt e = absurd (cc)
runs_fit memory (Number v n) e = absurd (cc)
runs_fit memory (Opened a) e = absurd (cc)
runs_fit memory (Typing a v n) e = absurd (cc)
runs_fit memory (Running p) e = tt

changed : (R : ℕ → Type 0) (m : Machine) (memory : List ℕ) (a : ℕ) → R a → ChangesAt a m.memory memory → Untouched R m.memory memory
changed R m memory a inside changes = record { size = changes.size; bytes = λ b none. changes.bytes b (λ same. none (subst R (sym same) inside)) }

filled : (R : ℕ → Type 0) (m : Machine) (memory : List ℕ) (a : ℕ) (left : List ℕ) (half : Bool) → R a → ChangesAt a m.memory memory → is_running m.mode ≡ true → Each R left → IsMachine m →
    Stays R m.memory (running m memory left half)
filled R m memory a left half inside changes runs within is = record {
  untouched = changed R m memory a inside changes;
  console = record {
    size = subst (λ n. n ≤ 28672) (sym changes.size) is.size;
    wide = changes.wide is.wide;
    mode = runs_fit memory m.mode runs;
  };
  stub = (runs, within);
}

filled_last : (R : ℕ → Type 0) (m : Machine) (memory : List ℕ) (a : ℕ) → R a → ChangesAt a m.memory memory → IsMachine m → Stays R m.memory (halted m memory)
filled_last R m memory a inside changes is = record {
  untouched = changed R m memory a inside changes;
  console = record { size = subst (λ n. n ≤ 28672) (sym changes.size) is.size; wide = changes.wide is.wide; mode = tt };
  stub = refl;
}

answers_stay : (R : ℕ → Type 0) (m : Machine) (memory text : List ℕ) (a : ℕ) (left : List ℕ) (s' : Station) (answer : List ℕ) → R a → ChangesAt a m.memory memory → is_running m.mode ≡ true → Each R left → IsMachine m →
    Answers m memory text left s' answer → Stays R m.memory s'
answers_stay R m memory text a [] s' answer inside changes runs within is said = subst (Stays R m.memory) (sym said.0) (filled_last R m memory a inside changes is)
answers_stay R m memory text a (next ∷ left) s' answer inside changes runs within is said = subst (Stays R m.memory) (sym said.0) (filled R m memory a (next ∷ left) false inside changes runs within is)

fills_stay : (R : ℕ → Type 0) (half : Bool) (m : Machine) (a : ℕ) (left : List ℕ) (s' : Station) (answer : List ℕ) → is_running m.mode ≡ true → Each R (a ∷ left) → IsMachine m →
    Fills half m a left s' answer → Stays R m.memory s'
fills_stay R false m a left s' answer runs within is f = subst (Stays R m.memory) (sym f.0) (filled R m m.memory a (a ∷ left) true within.0 (record { size = refl; wide = λ w. w; bytes = λ b apart. refl }) runs within is)
fills_stay R true m a left s' answer runs within is (memory, changes, said) = answers_stay R m memory (answer_text memory a) a left s' answer within.0 changes runs within.1 is said

stub_stays : (R : ℕ → Type 0) (nibble : Bool) (m : Machine) (left : List ℕ) (half : Bool) (s' : Station) (answer : List ℕ) → is_running m.mode ≡ true → Each R left → IsMachine m → StubMeets nibble m left half s' answer → Stays R m.memory s'
stub_stays R false m left half s' answer runs within is met = subst (Stays R m.memory) (sym met.0) (at_prompt R m (halted m m.memory) refl refl refl is)
stub_stays R true m [] half s' answer runs within is met = subst (Stays R m.memory) (sym met.0) (at_prompt R m (halted m m.memory) refl refl refl is)
stub_stays R true m (a ∷ left) half s' answer runs within is met = fills_stay R half m a left s' answer runs within is met

none_begins : (program : Program) (test : Bool) (memory : List ℕ) (mode : Mode) → mode ≡ Prompt → begins program test memory mode ≡ None
none_begins program true memory mode is = refl
none_begins program false memory mode is = ap (begins program false memory) is

odt_stays : (program : Program) (R : ℕ → Type 0) (m : Machine) (c : ℕ) → IsForStub c → is_running m.mode ≡ false → IsMachine m → Stays R m.memory (after_odt program m c)
odt_stays program R m c for stopped is =
    let refused = stub_key_refused m c for stopped in
    at_prompt R m (after_odt program m c) refused.memory refused.mode (none_begins program (is_running m.mode) (after_key m c).memory (after_key m c).mode refused.mode) is

-- no stub runs any more, and none will: no key is under way that could start one
pub record IsOver (x : Link) : Type 0 where
  pub none : x.machine.stub ≡ None
  pub keys : Each IsForStub x.down

over_takes : (program : Program) (R : ℕ → Type 0) (x y : Link) → MayFill R x.machine.odt.mode x.machine.stub → Takes program x y → IsOver x → IsOver y
over_takes program R x y may t o =
    let all : Each IsForStub (t.c ∷ t.rest) = subst (Each IsForStub) t.first o.keys in
    let stopped : is_running x.machine.odt.mode ≡ false = subst (MayFill R x.machine.odt.mode) o.none may in
    let met = subst (λ stub. Meets program stub x.machine.odt t.c t.station' t.answer) o.none t.meets in
    let refused = stub_key_refused x.machine.odt t.c all.0 stopped in
    subst IsOver (sym t.now) (record {
      none = ap (λ (s : Station). s.stub) met.0 ∙ none_begins program (is_running x.machine.odt.mode) (after_key x.machine.odt t.c).memory (after_key x.machine.odt t.c).mode refused.mode;
      keys = all.1;
    })

pub over_move : (program : Program) (R : ℕ → Type 0) (x y : Link) → MayFill R x.machine.odt.mode x.machine.stub → Moves program x y → IsOver x → IsOver y
over_move program R x y may (inl t) o = over_takes program R x y may t o
over_move program R x y may (inr (inl (k, below, now))) o = subst IsOver (sym now) (record { none = o.none; keys = each_removed IsForStub x.down k o.keys })
over_move program R x y may (inr (inr (k, below, now))) o = subst IsOver (sym now) (record { none = o.none; keys = o.keys })

-- losses are never taken back
pub lost_grows : (program : Program) (x y : Link) → Moves program x y → x.lost ≤ y.lost
lost_grows program x y (inl t) = subst (λ n. x.lost ≤ n) (sym (ap (λ (z : Link). z.lost) t.now)) (omega arith)
lost_grows program x y (inr (inl (k, below, now))) = subst (λ n. x.lost ≤ n) (sym (ap (λ (z : Link). z.lost) now)) (omega arith)
lost_grows program x y (inr (inr (k, below, now))) = subst (λ n. x.lost ≤ n) (sym (ap (λ (z : Link). z.lost) now)) (omega arith)

pub meets_stays : (program : Program) (R : ℕ → Type 0) (stub : Option Stub) (m : Machine) (c : ℕ) (s' : Station) (answer : List ℕ) → IsForStub c → MayFill R m.mode stub → IsMachine m → Meets program stub m c s' answer → Stays R m.memory s'
meets_stays program R None m c s' answer for may is met = subst (Stays R m.memory) (sym met.0) (odt_stays program R m c for may is)
meets_stays program R (Some stub) m c s' answer for may is met = stub_stays R (is_nibble c) m stub.left stub.half s' answer may.0 may.1 is met

-- ---- what a line does by itself

-- the line is unsettled, and only such bytes changed
pub record Settling (program : Program) (R : ℕ → Type 0) (before : List ℕ) (x : Link) : Type 0 where
  pub line : IsUnsettled program R x
  pub untouched : Untouched R before x.machine.odt.memory

-- the earlier host's key is taken
last_taken : (program : Program) (R : ℕ → Type 0) (before : List ℕ) (x y : Link) → Settling program R before x → IsLastKey program R x → (t : Takes program x y) → Settling program R before y
last_taken program R before x y s k t =
    let both : k.key ∷ [] ≡ t.c ∷ t.rest = sym k.down ∙ t.first in
    let key : k.key ≡ t.c = heads k.key t.c t.rest both in
    let met = subst (λ stub. Meets program stub x.machine.odt t.c t.station' t.answer) k.none t.meets in
    let station : t.station' ≡ after_odt program x.machine.odt k.key = met.0 ∙ ap (after_odt program x.machine.odt) (sym key) in
    subst (Settling program R before) (sym t.now) (record {
      line = record {
        console = subst (λ (st : Station). IsMachine st.odt) (sym station) k.console;
        stub = subst (λ (st : Station). MayFill R st.odt.mode st.stub) (sym station) k.stub;
        down = inl (subst (Each IsForStub) (sym (tails k.key t.c t.rest both)) tt);
      };
      untouched = untouched_then R before x.machine.odt.memory t.station'.odt.memory s.untouched (subst (λ (st : Station). Untouched R x.machine.odt.memory st.odt.memory) (sym station) k.untouched);
    })
  where
    heads : (a b : ℕ) (rest : List ℕ) → a ∷ [] ≡ b ∷ rest → a ≡ b
    heads a b rest e = cc e

    tails : (a b : ℕ) (rest : List ℕ) → a ∷ [] ≡ b ∷ rest → rest ≡ []
    tails a b rest e = cc e

settling_takes : (program : Program) (R : ℕ → Type 0) (before : List ℕ) (x y : Link) → Settling program R before x → Each IsForStub x.down → (t : Takes program x y) → Settling program R before y
settling_takes program R before x y s for t =
    let all : Each IsForStub (t.c ∷ t.rest) = subst (Each IsForStub) t.first for in
    let stays = meets_stays program R x.machine.stub x.machine.odt t.c t.station' t.answer all.0 s.line.stub s.line.console t.meets in
    subst (Settling program R before) (sym t.now) (record {
      line = record { console = stays.console; stub = stays.stub; down = inl all.1 };
      untouched = untouched_then R before x.machine.odt.memory t.station'.odt.memory s.untouched stays.untouched;
    })

pub one_removed : (xs : List ℕ) (c k : ℕ) → xs ≡ c ∷ [] → k < length xs → remove xs k ≡ []
one_removed xs c zero is below = subst (λ (list : List ℕ). remove list 0 ≡ []) (sym is) refl
one_removed xs c (suc k) is below = absurd (omega (arith, below, ap length is))

pub settling_move : (program : Program) (R : ℕ → Type 0) (before : List ℕ) (x y : Link) → Settling program R before x → Moves program x y → Settling program R before y
settling_move program R before x y s (inl t) = elim s.line.down [ inl for ↦ settling_takes program R before x y s for t | inr last ↦ last_taken program R before x y s last t ]
settling_move program R before x y s (inr (inl (k, below, now))) =
    subst (Settling program R before) (sym now) (record {
      line = record {
        console = s.line.console;
        stub = s.line.stub;
        down = inl (elim s.line.down [
          | inl for ↦ each_removed IsForStub x.down k for
          | inr last ↦ subst (Each IsForStub) (sym (one_removed x.down last.key k last.down below)) tt
        ]);
      };
      untouched = s.untouched;
    })
settling_move program R before x y s (inr (inr (k, below, now))) =
    subst (Settling program R before) (sym now) (record {
      line = record {
        console = s.line.console;
        stub = s.line.stub;
        down = elim s.line.down [
          | inl for ↦ inl for
          | inr last ↦ inr (record { key = last.key; down = last.down; none = last.none; untouched = last.untouched; console = last.console; stub = last.stub })
        ];
      };
      untouched = s.untouched;
    })
